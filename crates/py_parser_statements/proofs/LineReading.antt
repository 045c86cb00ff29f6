-- Reading statements of one line.
use Rattle.std.proofs.Common.{◌≡◌, Bool, true, false, List, [], ◌∷◌, ◌++◌, Some, None, Ok, Err, if◌then◌else◌, refl, ◌∙◌, ap}
use Rattle.py_syntax.specs.declared.key.Key.TheVariants as k
use Rattle.py_syntax.specs.declared.sign.Sign.TheVariants as s
use Rattle.py_syntax.specs.declared.token.Token.{Token}
use Rattle.py_syntax.specs.Statements as st
use Rattle.py_syntax.specs.Statements.{StmtTree}
use Rattle.py_parser_grammar.specs.declared.terminal.Terminal.TheVariants as terminal
use Rattle.py_parser_grammar.specs.declared.place.Place.{Place}
use Rattle.py_parser_grammar.specs.Grammar as g
use Rattle.py_parser_grammar.specs.Grammar.{SIMPLE, SMALL, RETURN, RAISE, ASSERT, PLAIN, TEST, TESTS}
use Rattle.py_parser_grammar.specs.Reader.{Outcome, ◌>>=◌, accept, sees, tests, smalls}
use Rattle.py_parser_grammar.specs.Readings.{reads_sym, reads_expr, reads_after, after_into, single}
use Rattle.py_parser_grammar.proofs.Opening.{bind_assoc, bind_same}
use Rattle.py_parser_grammar.proofs.StatementEquations.{simple_eq, smalls_round, small_eq, plain_eq, return_eq, raise_eq, assert_eq, del_eq}
use Rattle.py_parser_statements.specs.declared.assign.TheConstants.{ASSIGNING}
use Rattle.py_parser_cursor.specs.declared.fault.ParseError.{ParseError}
use Rattle.py_parser_expressions.specs.Behind.{reads_behind}
use Rattle.py_parser_cursor.specs.Gives.{Fails}
use Rattle.py_parser_statements.specs.Statements.{reads_lone, reads_line, reads_worded, reads_annotated, reads_assigned, reads_given, reads_changed}
use Rattle.py_parser_cursor.proofs.Faults.{fails_bind}

-- a line
pub line_eq : (ts : List Token) (found : List StmtTree) (p : Place) → reads_line ts found p ≡
    (if sees ts p (terminal.Sign s.Semicolon ∷ [])
    then (accept ts (terminal.Sign s.Semicolon) p >>= λ t. if sees ts t.1 smalls then (reads_sym ts SMALL t.1 >>= λ y. reads_line ts (found ++ y.0 ∷ []) y.1) else Ok (found, t.1))
    else Ok (found, p))
unfolding reads_line
line_eq ts found p = ap (λ o. o >>= λ y. Ok (y.0.0, y.1)) (smalls_round ts p found) ∙ go (sees ts p (terminal.Sign s.Semicolon ∷ [])) (accept ts (terminal.Sign s.Semicolon) p)
  where
    inner : (b : Bool) (t : Token × Place) (o : Outcome StmtTree)
        → ((if b then (o >>= λ y. after_into single (found ++ y.0 ∷ []) (reads_after ts (terminal.Sign s.Semicolon) (g.sym SMALL) y.1)) else Ok ((found, true), t.1)) >>= λ y. Ok (y.0.0, y.1))
        ≡ (if b then (o >>= λ y. after_into single (found ++ y.0 ∷ []) (reads_after ts (terminal.Sign s.Semicolon) (g.sym SMALL) y.1) >>= λ y. Ok (y.0.0, y.1)) else Ok (found, t.1))
    inner true t (Ok y) = refl
    inner true t (Err e) = refl
    inner false t o = refl

    go : (b : Bool) (o : Outcome Token)
        → ((if b then (o >>= λ t. if sees ts t.1 smalls then (reads_sym ts SMALL t.1 >>= λ y. after_into single (found ++ y.0 ∷ []) (reads_after ts (terminal.Sign s.Semicolon) (g.sym SMALL) y.1)) else Ok ((found, true), t.1)) else Ok ((found, false), p)) >>= λ y. Ok (y.0.0, y.1))
        ≡ (if b then (o >>= λ t. if sees ts t.1 smalls then (reads_sym ts SMALL t.1 >>= λ y. after_into single (found ++ y.0 ∷ []) (reads_after ts (terminal.Sign s.Semicolon) (g.sym SMALL) y.1) >>= λ y. Ok (y.0.0, y.1)) else Ok (found, t.1)) else Ok (found, p))
    go true (Ok t) = inner (sees ts t.1 smalls) t (reads_sym ts SMALL t.1)
    go true (Err e) = refl
    go false o = refl

pub line_more : (ts : List Token) (found : List StmtTree) (p : Place) (t : Token × Place) (y : StmtTree × Place) → sees ts p (terminal.Sign s.Semicolon ∷ []) ≡ true
    → accept ts (terminal.Sign s.Semicolon) p ≡ Ok t → sees ts t.1 smalls ≡ true → reads_sym ts SMALL t.1 ≡ Ok y → reads_line ts found p ≡ reads_line ts (found ++ y.0 ∷ []) y.1
line_more ts found p t y a b c d = line_eq ts found p ∙ rw (a, b) (rw (c, d) refl)

pub line_trail : (ts : List Token) (found : List StmtTree) (p : Place) (t : Token × Place) → sees ts p (terminal.Sign s.Semicolon ∷ []) ≡ true
    → accept ts (terminal.Sign s.Semicolon) p ≡ Ok t → sees ts t.1 smalls ≡ false → reads_line ts found p ≡ Ok (found, t.1)
line_trail ts found p t a b c = line_eq ts found p ∙ rw (a, b) (rw c refl)

pub line_end : (ts : List Token) (found : List StmtTree) (p : Place) → sees ts p (terminal.Sign s.Semicolon ∷ []) ≡ false → reads_line ts found p ≡ Ok (found, p)
line_end ts found p a = line_eq ts found p ∙ rw a refl

pub semicolon_fails : (ts : List Token) (found : List StmtTree) (p : Place) (e : ParseError) → sees ts p (terminal.Sign s.Semicolon ∷ []) ≡ true
    → Fails e (accept ts (terminal.Sign s.Semicolon) p) → Fails e (reads_line ts found p)
semicolon_fails ts found p e a h = rw (line_eq ts found p, a) (fails_bind e (accept ts (terminal.Sign s.Semicolon) p) _ h)

pub small_fails : (ts : List Token) (found : List StmtTree) (p : Place) (t : Token × Place) (e : ParseError) → sees ts p (terminal.Sign s.Semicolon ∷ []) ≡ true
    → accept ts (terminal.Sign s.Semicolon) p ≡ Ok t → sees ts t.1 smalls ≡ true → Fails e (reads_sym ts SMALL t.1) → Fails e (reads_line ts found p)
small_fails ts found p t e a b c h = rw (line_eq ts found p, a, b) (rw c (fails_bind e (reads_sym ts SMALL t.1) (λ y. reads_line ts (found ++ y.0 ∷ []) y.1) h))

bind_after : {A C : Type 0} (o : Outcome (A × Bool)) (f : A × Place → Outcome C) → (o >>= λ y. f (y.0.0, y.1)) ≡ ((o >>= λ y. Ok (y.0.0, y.1)) >>= f)
bind_after (Ok y) f = refl
bind_after (Err e) f = refl

pub simple_line_eq : (ts : List Token) (p : Place) → reads_sym ts SIMPLE p ≡ (reads_sym ts SMALL p >>= λ x. reads_line ts (x.0 ∷ []) x.1 >>= λ y. accept ts terminal.Newline y.1 >>= λ z. Ok (y.0, z.1))
unfolding reads_line
simple_line_eq ts p =
    simple_eq ts p
    ∙ bind_same (reads_sym ts SMALL p) _ _ (λ x. bind_after (after_into single (x.0 ∷ []) (reads_after ts (terminal.Sign s.Semicolon) (g.sym SMALL) x.1)) (λ y. accept ts terminal.Newline y.1 >>= λ z. Ok (y.0, z.1)))

pub small_worded_eq : (ts : List Token) (p : Place) → reads_sym ts SMALL p ≡
    (if sees ts p (terminal.Key k.Pass ∷ []) then reads_lone ts k.Pass p
    else (if sees ts p (terminal.Key k.Break ∷ []) then reads_lone ts k.Break p
    else (if sees ts p (terminal.Key k.Continue ∷ []) then reads_lone ts k.Continue p
    else (if sees ts p (terminal.Key k.Return ∷ []) then reads_sym ts RETURN p
    else (if sees ts p (terminal.Key k.Raise ∷ []) then reads_sym ts RAISE p else reads_worded ts p)))))
unfolding reads_worded
small_worded_eq ts p = small_eq ts p

pub plain_assigned_eq : (ts : List Token) (p : Place) → reads_sym ts PLAIN p ≡ (reads_expr ts TESTS p >>= λ x. if sees ts x.1 ASSIGNING then reads_assigned ts x.0 x.1 else Ok (st.at (st.Do x.0.tree) x.0.begins, x.1))
unfolding reads_assigned reads_annotated reads_given reads_changed reads_behind
plain_assigned_eq ts p = plain_eq ts p ∙ simp bind_assoc

pub ruleset lines = (line_more, line_trail, line_end, semicolon_fails, small_fails)

pub ruleset simple_line = (simple_line_eq)

pub ruleset small_split = (small_worded_eq)

pub ruleset plain_split = (plain_assigned_eq)

pub returning_eq : (ts : List Token) (p : Place) → reads_sym ts RETURN p ≡ (accept ts (terminal.Key k.Return) p >>= λ x.
    if sees ts x.1 tests then (reads_expr ts TESTS x.1 >>= λ y. Ok (st.at (st.Return (Some y.0.tree)) x.0.span, y.1)) else Ok (st.at (st.Return None) x.0.span, x.1))
returning_eq ts p = return_eq ts p

pub ruleset returning = (returning_eq)

pub ruleset raising = (raise_eq)

pub asserting_eq : (ts : List Token) (p : Place) → reads_sym ts ASSERT p ≡ (accept ts (terminal.Key k.Assert) p >>= λ x. reads_expr ts TEST x.1 >>= λ y.
    if sees ts y.1 (terminal.Sign s.Comma ∷ [])
    then (reads_behind ts (terminal.Sign s.Comma) TEST y.1 >>= λ m. Ok (st.at (st.Assert y.0.tree (Some m.0.tree)) x.0.span, m.1))
    else Ok (st.at (st.Assert y.0.tree None) x.0.span, y.1))
unfolding reads_behind
asserting_eq ts p = assert_eq ts p ∙ simp bind_assoc

pub ruleset asserting = (asserting_eq)

pub ruleset deleting = (del_eq)
