-- What passes in tokens passes in each value that is derived from them.
use Rattle.std.specs.List.{AllByRecursion}
use Rattle.std.proofs.Common.{◌≡◌, ℕ, Bool, true, false, List, [], ◌∷◌, ◌++◌, Option, Some, None, inl, inr}
use Rattle.py_syntax.specs.declared.token.Token.{Token}
use Rattle.py_syntax.specs.declared.token.TokenKind.{TokenKind}
use Rattle.py_syntax.specs.declared.token.TokenKind.TheVariants as kind
use Rattle.py_syntax.specs.declared.expression.CmpOp.{CmpOp}
use Rattle.py_syntax.specs.Expressions as e
use Rattle.py_syntax.specs.Expressions.{ExprTree, ArgTree, exprs_of, comparisons_of, entries_of, arguments_of}
use Rattle.py_syntax.specs.Statements.{StmtTree, Suite, HandlerTree, suite_of, arms_of, handlers_of, maybe_suite}
use Rattle.py_parser_grammar.specs.declared.terminal.Terminal.{Terminal}
use Rattle.py_parser_grammar.specs.declared.terminal.Terminal.TheVariants as terminal
use Rattle.py_parser_grammar.specs.Terminals.{terminal_of, same}
use Rattle.py_parser_grammar.specs.Levels.{Piece, shallow}
use Rattle.py_parser_grammar.specs.Grammar as g
use Rattle.py_parser_grammar.specs.Grammar.{ExprSym, More, Sym, expr, more, Part, tok, ◌·◌, ◌⊕◌, maybe, many, after, left, grown, rhs, rhs_expr, rhs_more, MODULE}
use Rattle.py_parser_grammar.specs.Grammar.{TESTS, TARGETS, TEST, OR, AND, NOT, COMP, BOR, SHIFT, SUM, TERM, FACTOR, PRIMARY, ATOM, OR_MORE, AND_MORE, BOR_MORE, SHIFT_MORE, SUM_MORE, TERM_MORE, TRAILER, COMP_MORE, COMP_OP, ARG, ENTRY, PLAIN, AUG, RETURN, RAISE, GLOBAL, ASSERT, DEL, IMPORT, FROM, DOTTED, ALIAS, SMALL, SIMPLE, STMT, IF, ARM, WHILE, FOR, TRY, EXCEPT, FINALLY, BLOCK, FUNC, PARAM, CLASS, CBLOCK, MEMBER, MARK, DECORATED, TOP}
use Rattle.py_parser_grammar.specs.Actions.{Trail, of_name, of_args, of_index, SemMore, Val, Sem, act, act_expr, act_more, grow, name_of, name_in, int_in, text_in, texts_of, items, seconds, joined, trees_of, suite_behind, tree_behind, maybe_tree, suite_in, name_behind}
use Rattle.py_parser_grammar.specs.Derivation.{Derives, one, by_rule, both, first, other, absent, present, no_more, again, ends, trails, goes_on, from_left, full, grows}
use Rattle.py_parser_grammar.proofs.Codes.{same_exact}
use Rattle.py_parser_laws.specs.Trees.{Tests, JoinsTexts, IsFilled, KindPasses, ExprPasses, ExprsPass, ComparisonsPass, EntriesPass, ArgumentsPass, MaybePasses, MaybeNamePasses, ParamsPass, StmtPasses, SuitePasses, ArmsPass, HandlersPass, LastPasses, FunctionPasses}
use Rattle.py_parser_laws.specs.Laws.{TokensPass, TreesPassAsTokens}

module _ (tests : Tests) where
  -- ---- what passes of what each symbol stands for

  abbrev NamePasses : Token → Type 0
  NamePasses t = tests.name (name_of t) ≡ true

  abbrev TokenPasses : Terminal → Token → Type 0
  TokenPasses terminal.Name t = tests.name (name_of t) ≡ true
  TokenPasses terminal.Int t = tests.number (int_in t.kind) ≡ true
  TokenPasses terminal.Str t = tests.text (text_in t.kind) ≡ true
  TokenPasses _ t = Unit {0}

  abbrev PiecePasses : Piece → Type 0
  PiecePasses p = ExprPasses tests p.tree

  abbrev ArgPasses : ArgTree → Type 0
  ArgPasses a = ExprPasses tests a.value

  abbrev TrailPasses : Trail → Type 0
  TrailPasses (of_name name) = tests.name name ≡ true
  TrailPasses (of_args args) = AllByRecursion ArgPasses args
  TrailPasses (of_index i) = ExprPasses tests i

  abbrev MorePasses : (m : More) → SemMore m → Type 0
  MorePasses OR_MORE b = ExprPasses tests b
  MorePasses AND_MORE b = ExprPasses tests b
  MorePasses BOR_MORE b = ExprPasses tests b
  MorePasses SHIFT_MORE b = ExprPasses tests b.1
  MorePasses SUM_MORE b = ExprPasses tests b.1
  MorePasses TERM_MORE b = ExprPasses tests b.1
  MorePasses TRAILER t = TrailPasses t

  -- statements in a row, of which there is one
  abbrev RowPasses : List StmtTree → Type 0
  RowPasses ss = IsFilled (suite_of ss) × SuitePasses tests (suite_of ss)

  abbrev HandlerPasses : HandlerTree → Type 0
  HandlerPasses h = MaybeNamePasses tests h.name × IsFilled h.body × SuitePasses tests h.body

  abbrev SymPasses : (x : Sym) → Sem x → Type 0
  SymPasses (expr e) p = PiecePasses p
  SymPasses (more m) v = MorePasses m v
  SymPasses COMP_MORE v = ExprPasses tests v.1
  SymPasses ARG v = ArgPasses v
  SymPasses ENTRY v = ExprPasses tests v.0 × ExprPasses tests v.1
  SymPasses PLAIN v = StmtPasses tests v
  SymPasses RETURN v = StmtPasses tests v
  SymPasses RAISE v = StmtPasses tests v
  SymPasses GLOBAL v = StmtPasses tests v
  SymPasses ASSERT v = StmtPasses tests v
  SymPasses DEL v = StmtPasses tests v
  SymPasses IMPORT v = StmtPasses tests v
  SymPasses FROM v = StmtPasses tests v
  SymPasses SMALL v = StmtPasses tests v
  SymPasses SIMPLE v = RowPasses v
  SymPasses STMT v = RowPasses v
  SymPasses IF v = StmtPasses tests v
  SymPasses ARM v = ExprPasses tests v.0 × IsFilled v.1 × SuitePasses tests v.1
  SymPasses WHILE v = StmtPasses tests v
  SymPasses FOR v = StmtPasses tests v
  SymPasses TRY v = StmtPasses tests v
  SymPasses EXCEPT v = HandlerPasses v
  SymPasses FINALLY v = RowPasses v
  SymPasses BLOCK v = RowPasses v
  SymPasses FUNC v = FunctionPasses tests v.0
  SymPasses PARAM v = tests.name v.0 ≡ true
  SymPasses CLASS v = (tests.name v.0.name ≡ true) × SuitePasses tests v.0.body
  SymPasses CBLOCK v = RowPasses v
  SymPasses MEMBER v = RowPasses v
  SymPasses DECORATED v = StmtPasses tests v
  SymPasses TOP v = RowPasses v
  SymPasses MODULE v = SuitePasses tests v
  SymPasses _ v = Unit {0}

  -- what goes on with an expression that passes passes
  abbrev PartPasses : (r : Part) → Val r → Type 0
  PartPasses (tok c) t = TokenPasses c t
  PartPasses (g.sym x) v = SymPasses x v
  PartPasses (a · b) v = PartPasses a v.0 × PartPasses b v.1
  PartPasses (a ⊕ b) (inl v) = PartPasses a v
  PartPasses (a ⊕ b) (inr v) = PartPasses b v
  PartPasses (maybe a) None = Unit {0}
  PartPasses (maybe a) (Some v) = PartPasses a v
  PartPasses (many a) vs = AllByRecursion (PartPasses a) vs
  PartPasses (after c a) vs = AllByRecursion (PartPasses a) vs.0
  PartPasses (left e m) p = PiecePasses p
  PartPasses (grown m v) p = PiecePasses v → PiecePasses p

  -- ---- rows

  exprs_pass : (ps : List Piece) → AllByRecursion PiecePasses ps → ExprsPass tests (exprs_of (trees_of ps))
  exprs_pass [] h = tt
  exprs_pass (p ∷ ps) h = (h.0, exprs_pass ps h.1)

  comparisons_pass : (cs : List (CmpOp × ExprTree)) → AllByRecursion (λ c. ExprPasses tests c.1) cs → ComparisonsPass tests (comparisons_of cs)
  comparisons_pass [] h = tt
  comparisons_pass (c ∷ cs) h = (h.0, comparisons_pass cs h.1)

  entries_pass : (es : List (ExprTree × ExprTree)) → AllByRecursion (λ e. ExprPasses tests e.0 × ExprPasses tests e.1) es → EntriesPass tests (entries_of es)
  entries_pass [] h = tt
  entries_pass (e ∷ es) h = (h.0.0, h.0.1, entries_pass es h.1)

  argument_passes : (key : Option ExprTree) (value : ExprTree) (args : e.Arguments) → ExprPasses tests value → ArgumentsPass tests args → ArgumentsPass tests (e.with_key key value args)
  argument_passes None value args h k = (h, k)
  argument_passes (Some key) value args h k = (h, k)

  arguments_pass : (args : List ArgTree) → AllByRecursion ArgPasses args → ArgumentsPass tests (arguments_of args)
  arguments_pass [] h = tt
  arguments_pass (a ∷ args) h = argument_passes a.key a.value (arguments_of args) h.0 (arguments_pass args h.1)

  suite_passes : (ss : List StmtTree) → AllByRecursion (StmtPasses tests) ss → SuitePasses tests (suite_of ss)
  suite_passes [] h = tt
  suite_passes (s ∷ ss) h = (h.0, suite_passes ss h.1)

  append_passes : (xs ys : List StmtTree) → SuitePasses tests (suite_of xs) → SuitePasses tests (suite_of ys) → SuitePasses tests (suite_of (xs ++ ys))
  append_passes [] ys h k = k
  append_passes (x ∷ xs) ys h k = (h.0, append_passes xs ys h.1 k)

  joined_passes : (xs : List (List StmtTree)) → AllByRecursion RowPasses xs → SuitePasses tests (suite_of (joined xs))
  joined_passes [] h = tt
  joined_passes (x ∷ xs) h = append_passes x (joined xs) h.0.1 (joined_passes xs h.1)

  append_filled : (xs ys : List StmtTree) → IsFilled (suite_of xs) → IsFilled (suite_of (xs ++ ys))
  append_filled [] ys h = absurd h
  append_filled (x ∷ xs) ys h = tt

  rows_pass : (x : List StmtTree) (xs : List (List StmtTree)) → RowPasses x → AllByRecursion RowPasses xs → RowPasses (x ++ joined xs)
  rows_pass x xs h k = (append_filled x (joined xs) h.0, append_passes x (joined xs) h.1 (joined_passes xs k))

  arms_pass : (xs : List (Token × (ExprTree × Suite))) → AllByRecursion (λ x. Unit {0} × SymPasses ARM x.1) xs → ArmsPass tests (arms_of (seconds xs))
  arms_pass [] h = tt
  arms_pass (x ∷ xs) h = (h.0.1.0, h.0.1.1, h.0.1.2, arms_pass xs h.1)

  handlers_pass : (hs : List HandlerTree) → AllByRecursion HandlerPasses hs → HandlersPass tests (handlers_of hs)
  handlers_pass [] h = tt
  handlers_pass (x ∷ hs) h = (h.0.0, h.0.1, h.0.2, handlers_pass hs h.1)

  text_passes : JoinsTexts tests → (t : Token) (ts : List Token) → tests.text (text_in t.kind) ≡ true → AllByRecursion (λ (u : Token). tests.text (text_in u.kind) ≡ true) ts → tests.text (texts_of (t ∷ ts)) ≡ true
  text_passes j t [] h k = j.both (text_in t.kind) [] h j.nothing
  text_passes j t (u ∷ ts) h k = j.both (text_in t.kind) (texts_of (u ∷ ts)) h (text_passes j u ts k.0 k.1)

  -- ---- rules

  act_more_passes : (m : More) (v : Val (rhs_more m)) → PartPasses (rhs_more m) v → MorePasses m (act_more m v)
  act_more_passes OR_MORE (word, p) h = h.1
  act_more_passes AND_MORE (word, p) h = h.1
  act_more_passes BOR_MORE (bar, p) h = h.1
  act_more_passes SHIFT_MORE (sign, p) h = h.1
  act_more_passes SUM_MORE (sign, p) h = h.1
  act_more_passes TERM_MORE (sign, p) h = h.1
  act_more_passes TRAILER (inl (dot, name)) h = h.1
  act_more_passes TRAILER (inr (inl (opens, (None, closes)))) h = tt
  act_more_passes TRAILER (inr (inl (opens, (Some (a, (args, b)), closes)))) h = (h.1.0.0, h.1.0.1)
  act_more_passes TRAILER (inr (inr (opens, (i, closes)))) h = h.1.0

  grow_passes : (m : More) (v : Piece) (w : SemMore m) → MorePasses m w → PiecePasses v → PiecePasses (grow m v w)
  grow_passes OR_MORE v b h k = (k, h)
  grow_passes AND_MORE v b h k = (k, h)
  grow_passes BOR_MORE v b h k = (k, h)
  grow_passes SHIFT_MORE v b h k = (k, h)
  grow_passes SUM_MORE v b h k = (k, h)
  grow_passes TERM_MORE v b h k = (k, h)
  grow_passes TRAILER v (of_name name) h k = (h, k)
  grow_passes TRAILER v (of_args args) h k = (k, arguments_pass args h)
  grow_passes TRAILER v (of_index i) h k = (k, h)

  act_expr_passes : JoinsTexts tests → (x : ExprSym) (v : Val (rhs_expr x)) → PartPasses (rhs_expr x) v → PiecePasses (act_expr x v)
  act_expr_passes j TESTS (p, ([], false)) h = h.0
  act_expr_passes j TESTS (p, ([], true)) h = (h.0, tt)
  act_expr_passes j TESTS (p, (q ∷ ps, b)) h = (h.0, (h.1.0, exprs_pass ps h.1.1))
  act_expr_passes j TARGETS (p, ([], false)) h = h.0
  act_expr_passes j TARGETS (p, ([], true)) h = (h.0, tt)
  act_expr_passes j TARGETS (p, (q ∷ ps, b)) h = (h.0, (h.1.0, exprs_pass ps h.1.1))
  act_expr_passes j TEST (p, None) h = h.0
  act_expr_passes j TEST (p, Some (word, (test, (last, q)))) h = (h.0, h.1.1.0, h.1.1.1.1)
  act_expr_passes j OR v h = h
  act_expr_passes j AND v h = h
  act_expr_passes j NOT (inl (word, p)) h = h.1
  act_expr_passes j NOT (inr p) h = h
  act_expr_passes j COMP (p, []) h = h.0
  act_expr_passes j COMP (p, c ∷ cs) h = (h.0, tt, (h.1.0, comparisons_pass cs h.1.1))
  act_expr_passes j BOR v h = h
  act_expr_passes j SHIFT v h = h
  act_expr_passes j SUM v h = h
  act_expr_passes j TERM v h = h
  act_expr_passes j FACTOR (inl (inl sign, p)) h = h.1
  act_expr_passes j FACTOR (inl (inr sign, p)) h = h.1
  act_expr_passes j FACTOR (inr p) h = h
  act_expr_passes j PRIMARY v h = h
  act_expr_passes j ATOM (inl t) h = h
  act_expr_passes j ATOM (inr (inl t)) h = h
  act_expr_passes j ATOM (inr (inr (inl (t, ts)))) h = text_passes j t ts h.0 h.1
  act_expr_passes j ATOM (inr (inr (inr (inl t)))) h = tt
  act_expr_passes j ATOM (inr (inr (inr (inr (inl t))))) h = tt
  act_expr_passes j ATOM (inr (inr (inr (inr (inr (inl t)))))) h = tt
  act_expr_passes j ATOM (inr (inr (inr (inr (inr (inr (inl (opens, (None, closes))))))))) h = tt
  act_expr_passes j ATOM (inr (inr (inr (inr (inr (inr (inl (opens, (Some p, closes))))))))) h = h.1.0
  act_expr_passes j ATOM (inr (inr (inr (inr (inr (inr (inr (inl (opens, (None, closes)))))))))) h = tt
  act_expr_passes j ATOM (inr (inr (inr (inr (inr (inr (inr (inl (opens, (Some (p, (ps, b)), closes)))))))))) h = (h.1.0.0, exprs_pass ps h.1.0.1)
  act_expr_passes j ATOM (inr (inr (inr (inr (inr (inr (inr (inr (opens, (None, closes)))))))))) h = tt
  act_expr_passes j ATOM (inr (inr (inr (inr (inr (inr (inr (inr (opens, (Some (p, (ps, b)), closes)))))))))) h = (h.1.0.0.0, h.1.0.0.1, entries_pass ps h.1.0.1)

  behind_passes : (o : Option (Token × Piece)) → PartPasses (maybe (tok terminal.End · g.expression TEST)) o → MaybePasses tests (tree_behind o)
  behind_passes None h = tt
  behind_passes (Some x) h = h.1

  maybe_passes : (o : Option Piece) → PartPasses (maybe (g.expression TEST)) o → MaybePasses tests (maybe_tree o)
  maybe_passes None h = tt
  maybe_passes (Some x) h = h

  suite_behind_passes : (o : Option (Token × (Token × List StmtTree))) → PartPasses (maybe (tok terminal.End · g.body)) o → SuitePasses tests (suite_of (suite_behind o))
  suite_behind_passes None h = tt
  suite_behind_passes (Some x) h = h.1.1.1

  last_passes : (o : Option (List StmtTree)) → PartPasses (maybe (g.sym FINALLY)) o → LastPasses tests (maybe_suite (suite_in o))
  last_passes None h = tt
  last_passes (Some x) h = h

  name_behind_passes : (o : Option (Token × Token)) → PartPasses (maybe (tok terminal.End · tok terminal.Name)) o → MaybeNamePasses tests (name_behind o)
  name_behind_passes None h = tt
  name_behind_passes (Some x) h = h.1

  params_pass : (o : Option ((List ℕ × Option ExprTree) × (List (List ℕ × Option ExprTree) × Bool))) → PartPasses (maybe (g.list g.comma (g.sym PARAM))) o → ParamsPass tests (items o)
  params_pass None h = tt
  params_pass (Some (p, (ps, b))) h = (h.0, h.1)

  act_passes : JoinsTexts tests → (x : Sym) (v : Val (rhs x)) → PartPasses (rhs x) v → SymPasses x (act x v)
  act_passes j (expr e) v h = act_expr_passes j e v h
  act_passes j (more m) v h = act_more_passes m v h
  act_passes j COMP_MORE (op, p) h = h.1
  act_passes j ARG (p, None) h = h.0
  act_passes j ARG (p, Some (sign, q)) h = h.1.1
  act_passes j ENTRY (key, (colon, value)) h = (h.0, h.1.1)
  act_passes j PLAIN (p, None) h = h.0
  act_passes j PLAIN (p, Some (inl (colon, (mark, value)))) h = (h.0, behind_passes value h.1.1.1)
  act_passes j PLAIN (p, Some (inr (inl (equals, value)))) h = (h.0, h.1.1)
  act_passes j PLAIN (p, Some (inr (inr (op, value)))) h = (h.0, h.1.1)
  act_passes j RETURN (word, value) h = maybe_passes value h.1
  act_passes j RAISE (word, value) h = maybe_passes value h.1
  act_passes j GLOBAL (word, (name, names)) h = tt
  act_passes j ASSERT (word, (test, message)) h = (h.1.0, behind_passes message h.1.1)
  act_passes j DEL (word, p) h = h.1
  act_passes j IMPORT (word, (name, alias)) h = tt
  act_passes j FROM (word, (name, (_, names))) h = tt
  act_passes j SMALL (inl word) h = tt
  act_passes j SMALL (inr (inl word)) h = tt
  act_passes j SMALL (inr (inr (inl word))) h = tt
  act_passes j SMALL (inr (inr (inr (inl v)))) h = h
  act_passes j SMALL (inr (inr (inr (inr (inl v))))) h = h
  act_passes j SMALL (inr (inr (inr (inr (inr (inl v)))))) h = h
  act_passes j SMALL (inr (inr (inr (inr (inr (inr (inl v))))))) h = h
  act_passes j SMALL (inr (inr (inr (inr (inr (inr (inr (inl v)))))))) h = h
  act_passes j SMALL (inr (inr (inr (inr (inr (inr (inr (inr (inl v))))))))) h = h
  act_passes j SMALL (inr (inr (inr (inr (inr (inr (inr (inr (inr (inl v)))))))))) h = h
  act_passes j SMALL (inr (inr (inr (inr (inr (inr (inr (inr (inr (inr v)))))))))) h = h
  act_passes j SIMPLE ((small, (smalls, b)), end) h = (tt, (h.0.0, suite_passes smalls h.0.1))
  act_passes j STMT (inl v) h = (tt, (h, tt))
  act_passes j STMT (inr (inl v)) h = (tt, (h, tt))
  act_passes j STMT (inr (inr (inl v))) h = (tt, (h, tt))
  act_passes j STMT (inr (inr (inr (inl v)))) h = (tt, (h, tt))
  act_passes j STMT (inr (inr (inr (inr v)))) h = h
  act_passes j IF (word, (arm, (arms, last))) h = (tt, (h.1.0.0, h.1.0.1, h.1.0.2, arms_pass arms h.1.1.0), suite_behind_passes last h.1.1.1)
  act_passes j ARM (test, (colon, body)) h = (h.0, h.1.1.0, h.1.1.1)
  act_passes j WHILE (word, (test, (colon, body))) h = (h.1.0, h.1.1.1.0, h.1.1.1.1)
  act_passes j FOR (word, (target, (_, (all, (colon, body))))) h = (h.1.0, h.1.1.1.0, h.1.1.1.1.1.0, h.1.1.1.1.1.1)
  act_passes j TRY (word, ((colon, body), inl (handler, (handlers, last)))) h = (tt, h.1.0.1.0, h.1.0.1.1, (h.1.1.0.0, h.1.1.0.1, h.1.1.0.2, handlers_pass handlers h.1.1.1.0), last_passes last h.1.1.1.1)
  act_passes j TRY (word, ((colon, body), inr last)) h = (tt, h.1.0.1.0, h.1.0.1.1, tt, h.1.1)
  act_passes j EXCEPT (word, (None, (colon, body))) h = (tt, h.1.1.1.0, h.1.1.1.1)
  act_passes j EXCEPT (word, (Some (p, name), (colon, body))) h = (name_behind_passes name h.1.0.1, h.1.1.1.0, h.1.1.1.1)
  act_passes j FINALLY (word, (colon, body)) h = h.1.1
  act_passes j BLOCK (inl (line, (indent, (stmts, (others, dedent))))) h = rows_pass stmts others h.1.1.0 h.1.1.1.0
  act_passes j BLOCK (inr v) h = h
  act_passes j FUNC (word, (name, ((opens, (params, closes)), (ret, (colon, body))))) h = (h.1.0, params_pass params h.1.1.0.1.0, h.1.1.1.1.1.0, h.1.1.1.1.1.1)
  act_passes j PARAM (name, mark) h = h.0
  act_passes j CLASS (word, (name, (bases, (colon, body)))) h = (h.1.0, h.1.1.1.1.1)
  act_passes j CBLOCK (inl (line, (indent, (stmts, (others, dedent))))) h = rows_pass stmts others h.1.1.0 h.1.1.1.0
  act_passes j CBLOCK (inr v) h = h
  act_passes j MEMBER (inl f) h = (tt, (h, tt))
  act_passes j MEMBER (inr v) h = h
  act_passes j DECORATED (mark, (marks, inl f)) h = h.1.1
  act_passes j DECORATED (mark, (marks, inr c)) h = h.1.1
  act_passes j TOP (inl f) h = (tt, (h, tt))
  act_passes j TOP (inr (inl c)) h = (tt, (h, tt))
  act_passes j TOP (inr (inr (inl v))) h = (tt, (h, tt))
  act_passes j TOP (inr (inr (inr v))) h = h
  act_passes j MODULE (all, end) h = joined_passes all h.0
  act_passes j _ v h = tt

  -- ---- derivations

  told : (k : TokenKind) (c : Terminal) → same (terminal_of k) c ≡ true → terminal_of k ≡ c
  told k c e = (same_exact (terminal_of k) c).0 e

  name_told : (k : TokenKind) → KindPasses tests k → terminal_of k ≡ terminal.Name → tests.name (name_in k) ≡ true
  name_told (kind.Name name) h e = h
  name_told k h e = absurd (cc)

  number_told : (k : TokenKind) → KindPasses tests k → terminal_of k ≡ terminal.Int → tests.number (int_in k) ≡ true
  number_told (kind.Int n) h e = h
  number_told k h e = absurd (cc)

  text_told : (k : TokenKind) → KindPasses tests k → terminal_of k ≡ terminal.Str → tests.text (text_in k) ≡ true
  text_told (kind.Str text) h e = h
  text_told k h e = absurd (cc)

  token_told : (c : Terminal) (t : Token) → KindPasses tests t.kind → same (terminal_of t.kind) c ≡ true → TokenPasses c t
  token_told terminal.Name t h e = name_told t.kind h (told t.kind terminal.Name e)
  token_told terminal.Int t h e = number_told t.kind h (told t.kind terminal.Int e)
  token_told terminal.Str t h e = text_told t.kind h (told t.kind terminal.Str e)
  token_told c t h e = tt

  derives_pass : JoinsTexts tests → (ts : List Token) → TokensPass tests ts → {r : Part} {i j : ℕ} {v : Val r} → Derives shallow ts r i j v → PartPasses r v
  derives_pass j ts all (one c i t e h) = token_told c t (all i t e) h
  derives_pass j ts all (by_rule x i k v d w) = act_passes j x v (derives_pass j ts all d)
  derives_pass j ts all (both a b i k l v w d e) = (derives_pass j ts all d, derives_pass j ts all e)
  derives_pass j ts all (first a b i k v d) = derives_pass j ts all d
  derives_pass j ts all (other a b i k v d) = derives_pass j ts all d
  derives_pass j ts all (absent a i) = tt
  derives_pass j ts all (present a i k v d) = derives_pass j ts all d
  derives_pass j ts all (no_more a i) = tt
  derives_pass j ts all (again a i k l v vs d e) = (derives_pass j ts all d, derives_pass j ts all e)
  derives_pass j ts all (ends c a i) = tt
  derives_pass j ts all (trails c a i k t d) = tt
  derives_pass j ts all (goes_on c a i k l n t v vs d e f) = (derives_pass j ts all e, derives_pass j ts all f)
  derives_pass j ts all (from_left e m i k l v u d f) = derives_pass j ts all f (derives_pass j ts all d)
  derives_pass j ts all (full m v i) = λ h. h
  derives_pass j ts all (grows m v u i k l w d h f) = λ p. derives_pass j ts all f (grow_passes m v w (derives_pass j ts all d) p)

pub trees_pass : TreesPassAsTokens
trees_pass tests j ts all suite d = derives_pass tests j ts all d
