-- Reading a chain of comparisons, one after the other.
use Rattle.std.proofs.Common.{◌≡◌, ◌≢◌, true, false, List, [], ◌∷◌, ◌++◌, Ok, if◌then◌else◌, refl, sym, ◌∙◌, ap}
use Rattle.py_syntax.specs.declared.expression.CmpOp.{CmpOp}
use Rattle.py_syntax.specs.declared.token.Token.{Token}
use Rattle.py_syntax.specs.Expressions as e
use Rattle.py_syntax.specs.Expressions.{ExprTree, comparisons_of}
use Rattle.py_parser_grammar.specs.declared.place.Place.{Place}
use Rattle.py_parser_grammar.specs.Levels.{Piece}
use Rattle.py_parser_grammar.specs.Grammar as g
use Rattle.py_parser_grammar.specs.Grammar.{COMP, BOR, COMP_MORE}
use Rattle.py_parser_grammar.specs.Actions.{piece, compared}
use Rattle.py_parser_grammar.specs.Reader.{Outcome, ◌>>=◌, sees, comparisons}
use Rattle.py_parser_grammar.specs.Readings.{reads_sym, reads_expr, reads_many, finish, many_into, spread, single}
use Rattle.py_parser_grammar.proofs.Loops.{spread_single}
use Rattle.py_parser_grammar.proofs.Opening.{bind_same, if_same}
use Rattle.py_parser_grammar.proofs.ExpressionEquations.{comps_round}
use Rattle.py_parser_cursor.specs.declared.fault.ParseError.{ParseError}
use Rattle.py_parser_expressions.specs.Chains.{reads_comparisons}
use Rattle.py_parser_cursor.specs.Gives.{Fails}
use Rattle.py_parser_expressions.specs.Rows.{fronted, one_more}
use Rattle.py_parser_expressions.proofs.ExprEquations.{comp_eq}
use Rattle.py_parser_expressions.proofs.Fronts.{fronted_nil, one_of, unfails}
use Rattle.py_parser_cursor.proofs.Binds.{regrouped}
use Rattle.py_parser_cursor.proofs.Faults.{fails_bind}

-- a chain with at least one comparison
compared_some : (v : Piece) (cs : List (CmpOp × ExprTree)) → cs ≢ [] → compared v cs ≡ piece (e.Compare v.tree (comparisons_of cs)) v.begins
compared_some v [] some = absurd (some refl)
compared_some v (c ∷ cs) some = refl

behind_some : (xs : List (CmpOp × ExprTree)) (c : CmpOp × ExprTree) → xs ++ c ∷ [] ≢ []
behind_some [] c = λ h. cc
behind_some (x ∷ xs) c = λ h. cc

pub one_more_some : (xs : List (CmpOp × ExprTree)) (o : Outcome (CmpOp × ExprTree)) (z : List (CmpOp × ExprTree) × Place) → one_more xs o ≡ Ok z → z.0 ≢ []
one_more_some xs o z h = let w = one_of xs o z h in rw w.2 (behind_some xs w.0.0)

-- ---- a row of comparisons

abbrev pub rest : List Token → Place → Outcome (List (CmpOp × ExprTree))
rest ts q = reads_many ts (g.sym COMP_MORE) q

rest_into : (ts : List Token) (xs : List (CmpOp × ExprTree)) (q : Place) → fronted xs (rest ts q) ≡ many_into single xs (rest ts q)
rest_into ts xs q = sym (regrouped (spread single) (λ l. l) xs (rest ts q) spread_single)

rest_eq : (ts : List Token) (xs : List (CmpOp × ExprTree)) (q : Place) → fronted xs (rest ts q) ≡ (if sees ts q comparisons then (reads_sym ts COMP_MORE q >>= λ x. fronted (xs ++ x.0 ∷ []) (rest ts x.1)) else Ok (xs, q))
rest_eq ts xs q =
    rest_into ts xs q ∙ comps_round ts q xs
    ∙ if_same (sees ts q comparisons) (bind_same (reads_sym ts COMP_MORE q) _ _ (λ x. sym (rest_into ts (xs ++ x.0 ∷ []) x.1))) refl

rest_step : (ts : List Token) (q : Place) (xs : List (CmpOp × ExprTree)) (z : List (CmpOp × ExprTree) × Place) → sees ts q comparisons ≡ true → one_more xs (reads_sym ts COMP_MORE q) ≡ Ok z
    → fronted xs (rest ts q) ≡ fronted z.0 (rest ts z.1)
rest_step ts q xs z s r =
    let w = one_of xs (reads_sym ts COMP_MORE q) z r in
    rest_eq ts xs q ∙ rw (s, w.1) (ap (λ y. fronted y.0 (rest ts y.1)) (sym w.2))

rest_end : (ts : List Token) (q : Place) (xs : List (CmpOp × ExprTree)) → sees ts q comparisons ≡ false → fronted xs (rest ts q) ≡ Ok (xs, q)
rest_end ts q xs s = rest_eq ts xs q ∙ rw s refl

rest_fails : (ts : List Token) (q : Place) (xs : List (CmpOp × ExprTree)) (e : ParseError) → sees ts q comparisons ≡ true → Fails e (one_more xs (reads_sym ts COMP_MORE q)) → Fails e (fronted xs (rest ts q))
rest_fails ts q xs e s h = rw (rest_eq ts xs q, s) (fails_bind e (reads_sym ts COMP_MORE q) (λ x. fronted (xs ++ x.0 ∷ []) (rest ts x.1)) (unfails e xs (reads_sym ts COMP_MORE q) h))

pub first_comparison : (ts : List Token) (q : Place) (z : List (CmpOp × ExprTree) × Place) → sees ts q comparisons ≡ true → one_more [] (reads_sym ts COMP_MORE q) ≡ Ok z
    → reads_comparisons ts q ≡ fronted z.0 (rest ts z.1)
unfolding reads_comparisons
first_comparison ts q z s r = sym (fronted_nil _) ∙ rest_step ts q [] z s r

pub more_comparisons : (ts : List Token) (p q : Place) (xs : List (CmpOp × ExprTree)) (z : List (CmpOp × ExprTree) × Place)
    → reads_comparisons ts p ≡ fronted xs (rest ts q) → sees ts q comparisons ≡ true → one_more xs (reads_sym ts COMP_MORE q) ≡ Ok z
    → reads_comparisons ts p ≡ fronted z.0 (rest ts z.1)
more_comparisons ts p q xs z so s r = so ∙ rest_step ts q xs z s r

pub comparisons_end : (ts : List Token) (p q : Place) (xs : List (CmpOp × ExprTree)) → reads_comparisons ts p ≡ fronted xs (rest ts q) → sees ts q comparisons ≡ false → reads_comparisons ts p ≡ Ok (xs, q)
comparisons_end ts p q xs so s = so ∙ rest_end ts q xs s

pub first_fails : (ts : List Token) (q : Place) (e : ParseError) → sees ts q comparisons ≡ true → Fails e (one_more [] (reads_sym ts COMP_MORE q)) → Fails e (reads_comparisons ts q)
unfolding reads_comparisons
first_fails ts q e s h = rw (← fronted_nil (rest ts q)) (rest_fails ts q [] e s h)

pub next_fails : (ts : List Token) (p q : Place) (xs : List (CmpOp × ExprTree)) (e : ParseError)
    → reads_comparisons ts p ≡ fronted xs (rest ts q) → sees ts q comparisons ≡ true → Fails e (one_more xs (reads_sym ts COMP_MORE q)) → Fails e (reads_comparisons ts p)
next_fails ts p q xs e so s h = rw so (rest_fails ts q xs e s h)

-- ---- a chain of them

comp_row : (ts : List Token) (p : Place) → reads_expr ts COMP p ≡ (reads_expr ts BOR p >>= λ x. reads_comparisons ts x.1 >>= λ v. finish (compared x.0 v.0) v.1)
unfolding reads_comparisons
comp_row ts p = comp_eq ts p

pub operand_fails : (ts : List Token) (p : Place) (e : ParseError) → Fails e (reads_expr ts BOR p) → Fails e (reads_expr ts COMP p)
operand_fails ts p e h = rw (comp_row ts p) (fails_bind e (reads_expr ts BOR p) _ h)

pub comparisons_fail : (ts : List Token) (p : Place) (x : Piece × Place) (e : ParseError) → reads_expr ts BOR p ≡ Ok x → Fails e (reads_comparisons ts x.1) → Fails e (reads_expr ts COMP p)
comparisons_fail ts p x e r h = rw (comp_row ts p, r) (fails_bind e (reads_comparisons ts x.1) (λ v. finish (compared x.0 v.0) v.1) h)

pub comp_alone : (ts : List Token) (p : Place) (x : Piece × Place) → reads_expr ts BOR p ≡ Ok x → sees ts x.1 comparisons ≡ false → finish x.0 x.1 ≡ Ok x → reads_expr ts COMP p ≡ Ok x
unfolding reads_comparisons
comp_alone ts p x r s f =
    let none : reads_comparisons ts x.1 ≡ Ok ([], x.1) = sym (fronted_nil _) ∙ rest_end ts x.1 [] s in
    let flat : reads_expr ts COMP p ≡ finish x.0 x.1 = comp_row ts p ∙ rw r (rw none refl) in
    flat ∙ f

pub comp_made : (ts : List Token) (p : Place) (x : Piece × Place) (z : List (CmpOp × ExprTree) × Place)
    → reads_expr ts BOR p ≡ Ok x → reads_comparisons ts x.1 ≡ Ok z → z.0 ≢ [] → reads_expr ts COMP p ≡ finish (piece (e.Compare x.0.tree (comparisons_of z.0)) x.0.begins) z.1
comp_made ts p x z r s some =
    let flat : reads_expr ts COMP p ≡ finish (compared x.0 z.0) z.1 = comp_row ts p ∙ rw r (rw s refl) in
    flat ∙ ap (λ v. finish v z.1) (compared_some x.0 z.0 some)

pub ruleset comparing = (comp_alone, operand_fails)
