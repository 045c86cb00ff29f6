-- Reading conditions, one alternative after the other.
use Rattle.std.proofs.Common.{◌≡◌, true, false, List, [], ◌∷◌, ◌++◌, Ok, refl, sym, ◌∙◌, ap}
use Rattle.py_syntax.specs.declared.key.Key.TheVariants as k
use Rattle.py_syntax.specs.declared.token.Token.{Token}
use Rattle.py_parser_grammar.specs.declared.terminal.Terminal.TheVariants as terminal
use Rattle.py_parser_grammar.specs.declared.place.Place.{Place}
use Rattle.py_parser_grammar.specs.Levels.{Piece}
use Rattle.py_parser_grammar.specs.Grammar.{TEST, OR}
use Rattle.py_parser_grammar.specs.Reader.{sees}
use Rattle.py_parser_grammar.specs.Readings.{reads_expr, finish}
use Rattle.py_parser_cursor.specs.declared.fault.ParseError.{ParseError}
use Rattle.py_parser_cursor.specs.Gives.{Fails}
use Rattle.py_parser_expressions.specs.Prefixes.{reads_condition, reads_alternative, conditional, conditionals}
use Rattle.py_parser_expressions.proofs.ExprEquations.{test_eq, condition_eq}
use Rattle.py_parser_expressions.proofs.Prefixes.{conditionals_more, conditionals_fail}
use Rattle.py_parser_cursor.proofs.Faults.{fails_bind}

pub test_start : (ts : List Token) (p : Place) (x : Piece × Place) → reads_expr ts OR p ≡ Ok x → reads_expr ts TEST p ≡ reads_condition ts x.0 x.1
test_start ts p x r = test_eq ts p ∙ rw r refl

pub test_fails : (ts : List Token) (p : Place) (e : ParseError) → Fails e (reads_expr ts OR p) → Fails e (reads_expr ts TEST p)
test_fails ts p e h = rw (test_eq ts p) (fails_bind e (reads_expr ts OR p) (λ x. reads_condition ts x.0 x.1) h)

at_more : (ts : List Token) (v : Piece) (q : Place) (y : (Piece × Piece) × Place) → sees ts q (terminal.Key k.If ∷ []) ≡ true → reads_alternative ts q ≡ Ok y
    → reads_condition ts v q ≡ conditional (v, y.0.0) (reads_condition ts y.0.1 y.1)
at_more ts v q y s r = condition_eq ts v q ∙ rw (s, r) refl

at_end : (ts : List Token) (v : Piece) (q : Place) → sees ts q (terminal.Key k.If ∷ []) ≡ false → reads_condition ts v q ≡ finish v q
at_end ts v q s = condition_eq ts v q ∙ rw s refl

-- one alternative more
pub test_more : (ts : List Token) (p : Place) (hs : List (Piece × Piece)) (v : Piece) (q : Place) (y : (Piece × Piece) × Place)
    → reads_expr ts TEST p ≡ conditionals hs (reads_condition ts v q) → sees ts q (terminal.Key k.If ∷ []) ≡ true → reads_alternative ts q ≡ Ok y
    → reads_expr ts TEST p ≡ conditionals (hs ++ (v, y.0.0) ∷ []) (reads_condition ts y.0.1 y.1)
test_more ts p hs v q y so s r =
    so ∙ ap (conditionals hs) (at_more ts v q y s r) ∙ sym (conditionals_more hs (v, y.0.0) (reads_condition ts y.0.1 y.1))

-- the last operand
pub test_end : (ts : List Token) (p : Place) (hs : List (Piece × Piece)) (v : Piece) (q : Place)
    → reads_expr ts TEST p ≡ conditionals hs (reads_condition ts v q) → sees ts q (terminal.Key k.If ∷ []) ≡ false → finish v q ≡ Ok (v, q)
    → reads_expr ts TEST p ≡ conditionals hs (Ok (v, q))
test_end ts p hs v q so s f = so ∙ ap (conditionals hs) (at_end ts v q s ∙ f)

-- a fault of an alternative
pub alternative_fails : (ts : List Token) (p : Place) (hs : List (Piece × Piece)) (v : Piece) (q : Place) (e : ParseError)
    → reads_expr ts TEST p ≡ conditionals hs (reads_condition ts v q) → sees ts q (terminal.Key k.If ∷ []) ≡ true → Fails e (reads_alternative ts q)
    → Fails e (reads_expr ts TEST p)
alternative_fails ts p hs v q e so s h =
    rw so (conditionals_fail hs e (reads_condition ts v q) (rw (condition_eq ts v q, s) (fails_bind e (reads_alternative ts q) (λ y. conditional (v, y.0.0) (reads_condition ts y.0.1 y.1)) h)))

pub ruleset conditions = (test_start, test_fails)
