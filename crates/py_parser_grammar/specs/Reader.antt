-- A reader of the grammar: it goes over the tokens once, and one token of look-ahead decides.
use Rattle.std.specs.Prelude.{ℕ, zero, suc, ◌+◌, ◌-◌, ◌*◌, Bool, true, false, not, ◌&&◌, ◌||◌, List, [], ◌∷◌, ◌++◌, length, Option, Some, None, slice_get, Result, Ok, Err, if◌then◌else◌}
use Rattle.std.proofs.Common.{inl, inr}
use Rattle.py_syntax.specs.declared.key.Key.TheVariants as k
use Rattle.py_syntax.specs.declared.sign.Sign.TheVariants as s
use Rattle.py_syntax.specs.declared.token.Token.{Token}
use Rattle.py_syntax.specs.Expressions as e
use Rattle.py_parser_grammar.specs.declared.terminal.Terminal.{Terminal}
use Rattle.py_parser_grammar.specs.declared.terminal.Terminal.TheVariants as terminal
use Rattle.py_parser_grammar.specs.declared.place.Place.{Place}
use Rattle.py_parser_grammar.specs.Terminals.{terminal_of, same, next_in, next_left_out}
use Rattle.py_parser_grammar.specs.Levels.{Piece, shallow}
use Rattle.py_parser_grammar.specs.Grammar.{ExprSym, More, Sym, expr, more, Part, tok, sym, ◌·◌, ◌⊕◌, maybe, many, after, left, grown, rhs, TESTS, TARGETS, TEST, OR, AND, NOT, COMP, BOR, SHIFT, SUM, TERM, FACTOR, PRIMARY, ATOM, OR_MORE, AND_MORE, BOR_MORE, SHIFT_MORE, SUM_MORE, TERM_MORE, TRAILER, COMP_MORE, COMP_OP, ARG, ENTRY, PLAIN, AUG, RETURN, RAISE, GLOBAL, ASSERT, DEL, IMPORT, FROM, DOTTED, ALIAS, SMALL, SIMPLE, STMT, IF, ARM, WHILE, FOR, TRY, EXCEPT, FINALLY, BLOCK, FUNC, PARAM, CLASS, CBLOCK, MEMBER, MARK, DECORATED, TOP, MODULE}
use Rattle.py_parser_grammar.specs.Actions.{Sem, Val, act, grow, piece}
use Rattle.py_parser_grammar.specs.Derivation.{admits}

-- ---- the terminals that a part may begin with

abbrev pub atoms : List Terminal
atoms =
    terminal.Name ∷ terminal.Int ∷ terminal.Str ∷ terminal.Key k.True ∷ terminal.Key k.False ∷ terminal.Key k.Nothing
    ∷ terminal.Sign s.LeftParen ∷ terminal.Sign s.LeftSquare ∷ terminal.Sign s.LeftBrace ∷ []

abbrev pub factors : List Terminal
factors = terminal.Sign s.Minus ∷ terminal.Sign s.Plus ∷ atoms

abbrev pub tests : List Terminal
tests = terminal.Key k.Not ∷ factors

abbrev pub augs : List Terminal
augs =
    terminal.Sign s.PlusAssign ∷ terminal.Sign s.MinusAssign ∷ terminal.Sign s.StarAssign ∷ terminal.Sign s.SlashSlashAssign
    ∷ terminal.Sign s.PercentAssign ∷ terminal.Sign s.ShlAssign ∷ terminal.Sign s.ShrAssign ∷ []

abbrev pub smalls : List Terminal
smalls =
    terminal.Key k.Pass ∷ terminal.Key k.Break ∷ terminal.Key k.Continue ∷ terminal.Key k.Return ∷ terminal.Key k.Raise ∷ terminal.Key k.Global
    ∷ terminal.Key k.Assert ∷ terminal.Key k.Del ∷ terminal.Key k.Import ∷ terminal.Key k.From ∷ tests

abbrev pub stmts : List Terminal
stmts = terminal.Key k.If ∷ terminal.Key k.While ∷ terminal.Key k.For ∷ terminal.Key k.Try ∷ smalls

abbrev pub comparisons : List Terminal
comparisons =
    terminal.Sign s.Lt ∷ terminal.Sign s.Gt ∷ terminal.Sign s.EqEq ∷ terminal.Sign s.Ge ∷ terminal.Sign s.Le ∷ terminal.Sign s.NotEq
    ∷ terminal.Key k.In ∷ terminal.Key k.Not ∷ terminal.Key k.Is ∷ []

abbrev pub starts_more : More → List Terminal
starts_more OR_MORE = terminal.Key k.Or ∷ []
starts_more AND_MORE = terminal.Key k.And ∷ []
starts_more BOR_MORE = terminal.Sign s.Bar ∷ []
starts_more SHIFT_MORE = terminal.Sign s.Shl ∷ terminal.Sign s.Shr ∷ []
starts_more SUM_MORE = terminal.Sign s.Plus ∷ terminal.Sign s.Minus ∷ []
starts_more TERM_MORE = terminal.Sign s.Star ∷ terminal.Sign s.SlashSlash ∷ terminal.Sign s.Percent ∷ []
starts_more TRAILER = terminal.Sign s.Dot ∷ terminal.Sign s.LeftParen ∷ terminal.Sign s.LeftSquare ∷ []

abbrev pub starts_expr : ExprSym → List Terminal
starts_expr TESTS = tests
starts_expr TARGETS = factors
starts_expr TEST = tests
starts_expr OR = tests
starts_expr AND = tests
starts_expr NOT = tests
starts_expr COMP = factors
starts_expr BOR = factors
starts_expr SHIFT = factors
starts_expr SUM = factors
starts_expr TERM = factors
starts_expr FACTOR = factors
starts_expr PRIMARY = atoms
starts_expr ATOM = atoms

abbrev pub starts : Sym → List Terminal
starts (expr x) = starts_expr x
starts (more m) = starts_more m
starts COMP_MORE = comparisons
starts COMP_OP = comparisons
starts ARG = tests
starts ENTRY = tests
starts PLAIN = tests
starts AUG = augs
starts RETURN = terminal.Key k.Return ∷ []
starts RAISE = terminal.Key k.Raise ∷ []
starts GLOBAL = terminal.Key k.Global ∷ []
starts ASSERT = terminal.Key k.Assert ∷ []
starts DEL = terminal.Key k.Del ∷ []
starts IMPORT = terminal.Key k.Import ∷ []
starts FROM = terminal.Key k.From ∷ []
starts DOTTED = terminal.Name ∷ []
starts ALIAS = terminal.Name ∷ []
starts SMALL = smalls
starts SIMPLE = smalls
starts STMT = stmts
starts IF = terminal.Key k.If ∷ []
starts ARM = tests
starts WHILE = terminal.Key k.While ∷ []
starts FOR = terminal.Key k.For ∷ []
starts TRY = terminal.Key k.Try ∷ []
starts EXCEPT = terminal.Key k.Except ∷ []
starts FINALLY = terminal.Key k.Finally ∷ []
starts BLOCK = terminal.Newline ∷ smalls
starts FUNC = terminal.Key k.Def ∷ []
starts PARAM = terminal.Name ∷ []
starts CLASS = terminal.Key k.Class ∷ []
starts CBLOCK = terminal.Newline ∷ smalls
starts MEMBER = terminal.Key k.Def ∷ stmts
starts MARK = terminal.Sign s.At ∷ []
starts DECORATED = terminal.Sign s.At ∷ []
starts TOP = terminal.Key k.Def ∷ terminal.Key k.Class ∷ terminal.Sign s.At ∷ stmts
starts MODULE = terminal.End ∷ terminal.Key k.Def ∷ terminal.Key k.Class ∷ terminal.Sign s.At ∷ stmts

-- whether no token at all is derived from a part
abbrev pub may_be_empty : Part → Bool
may_be_empty (tok c) = false
may_be_empty (sym x) = false
may_be_empty (a · b) = may_be_empty a && may_be_empty b
may_be_empty (a ⊕ b) = may_be_empty a || may_be_empty b
may_be_empty (maybe a) = true
may_be_empty (many a) = true
may_be_empty (after c a) = true
may_be_empty (left e m) = false
may_be_empty (grown m v) = true

abbrev pub firsts : Part → List Terminal
firsts (tok c) = c ∷ []
firsts (sym x) = starts x
firsts (a · b) = if may_be_empty a then firsts a ++ firsts b else firsts a
firsts (a ⊕ b) = firsts a ++ firsts b
firsts (maybe a) = firsts a
firsts (many a) = firsts a
firsts (after c a) = c ∷ []
firsts (left e m) = starts_expr e
firsts (grown m v) = starts_more m

-- ---- one token of look-ahead

-- what reading stops at, with the number of a token, or for want of steps
pub data Stop : Type 0 where
  syntax_at : ℕ → Stop
  profile_at : ℕ → Stop
  too_deep_at : ℕ → Stop
  out : Stop

-- what was read and the place behind it, or what reading stopped at
abbrev pub Outcome : Type 0 → Type 0
Outcome A = Result (A × Place) Stop

infixl 10 ◌>>=◌
abbrev pub ◌>>=◌ : {A B : Type 0} → Outcome A → (A × Place → Outcome B) → Outcome B
(Ok x) >>= f = f x
(Err e) >>= f = Err e

-- whether the next token is of one of some terminals
abbrev pub sees : List Token → Place → List Terminal → Bool
sees ts p cs = next_in (slice_get ts p.at) cs

-- a token that may not stand there
abbrev pub refusal : Option Token → ℕ → Stop
refusal o i = if next_left_out o then profile_at i else syntax_at i

-- A token that may stand there. The expression in front of it is finished now; if it is too deep that is a fault at its last
-- token.
abbrev pub take_it : Token → Place → Outcome Token
take_it t p = if p.deep then Err (too_deep_at (p.at - 1)) else Ok (t, record { at = p.at + 1; deep = false })

abbrev pub accept_one : Option Token → Terminal → Place → Outcome Token
accept_one None c p = Err (refusal None p.at)
accept_one (Some t) c p = if same (terminal_of t.kind) c then take_it t p else Err (refusal (Some t) p.at)

-- the next token, which must be of the terminal
abbrev pub accept : List Token → Terminal → Place → Outcome Token
accept ts c p = accept_one (slice_get ts p.at) c p

-- the place behind what was just read, which passed the test or not
abbrev pub mark : Bool → Place → Place
mark fits p = record { at = p.at; deep = not fits || p.deep }

-- ---- the reader

-- What is kept of an expression, where the place behind it is deep or not. Once it is deep no tree comes of the reading, and
-- something small may stand in for the expression, so that no tree has to be built that is nested without bound.
abbrev pub Keep : Type 0
Keep = (x : Sym) → Bool → Sem x → Sem x

-- all of it
abbrev pub keep_all : Keep
keep_all x deep v = v

-- `None`, where the place is deep
abbrev pub stand_in : Piece
stand_in = piece e.Nothing (record { line = 1; col = 1 })

abbrev pub keep_small : Keep
keep_small (expr e) deep v = if deep then stand_in else v
keep_small _ deep v = v

-- what a symbol stands for, in front of a place
abbrev pub close : Keep → (x : Sym) → Sem x → Place → Outcome (Sem x)
close keep x v p = let q : Place = mark (admits shallow x v) p in Ok (keep x q.deep v, q)

abbrev pub Reader : Type 0
Reader = (r : Part) → Place → Outcome (Val r)

-- how a part is read, over how smaller ones are
abbrev pub step : Keep → List Token → Reader → Reader
step keep ts run (tok c) p = accept ts c p
step keep ts run (sym x) p = run (rhs x) p >>= λ v. close keep x (act x v.0) v.1
step keep ts run (a · b) p = run a p >>= λ x. run b x.1 >>= λ y. Ok ((x.0, y.0), y.1)
step keep ts run (a ⊕ b) p =
    if sees ts p (firsts a) then (run a p >>= λ x. Ok (inl x.0, x.1)) else (run b p >>= λ x. Ok (inr x.0, x.1))
step keep ts run (maybe a) p = if sees ts p (firsts a) then (run a p >>= λ x. Ok (Some x.0, x.1)) else Ok (None, p)
step keep ts run (many a) p =
    if sees ts p (firsts a) then (run a p >>= λ x. run (many a) x.1 >>= λ y. Ok (x.0 ∷ y.0, y.1)) else Ok ([], p)
step keep ts run (after c a) p =
    if sees ts p (c ∷ [])
    then (accept ts c p >>= λ x.
    if sees ts x.1 (firsts a)
    then (run a x.1 >>= λ y. run (after c a) y.1 >>= λ z. Ok ((y.0 ∷ z.0.0, z.0.1), z.1))
    else Ok (([], true), x.1))
    else Ok (([], false), p)
step keep ts run (left e m) p = run (sym (expr e)) p >>= λ x. run (grown m x.0) x.1
step keep ts run (grown m v) p =
    if sees ts p (starts_more m)
    then (run (sym (more m)) p >>= λ x. close keep (expr ATOM) (grow m v x.0) x.1 >>= λ y. run (grown m y.0) y.1)
    else Ok (v, p)

unfoldable pub run : Keep → List Token → ℕ → Reader
run keep ts zero r p = Err out
run keep ts (suc n) r p = step keep ts (run keep ts n) r p

-- as many steps as it takes
abbrev pub enough : List Token → ℕ
enough ts = (length ts + 1) * 1000

-- THE READING of a part from a place
unfoldable pub reads : List Token → Reader
reads ts r p = run keep_small ts (enough ts) r p

-- the place in front of all tokens
abbrev pub start : Place
start = record { at = 0; deep = false }
