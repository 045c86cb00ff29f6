-- Reading a row between commas, one part after the other.
use Rattle.std.proofs.Common.{◌≡◌, Bool, true, false, List, [], ◌∷◌, ◌++◌, Ok, Err, if◌then◌else◌, refl, sym, ◌∙◌, ap, append_assoc}
use Rattle.std.proofs.lemmas.List.{append-nil}
use Rattle.py_syntax.specs.declared.token.Token.{Token}
use Rattle.py_syntax.specs.declared.token.Span.{Span}
use Rattle.py_syntax.specs.Expressions as e
use Rattle.py_syntax.specs.Expressions.{ExprTree, exprs_of}
use Rattle.py_parser_grammar.specs.declared.place.Place.{Place}
use Rattle.py_parser_grammar.specs.Levels.{Piece}
use Rattle.py_parser_grammar.specs.Grammar as g
use Rattle.py_parser_grammar.specs.Grammar.{Sym, ExprSym, expr, more, after, comma, TEST, TESTS, OR_MORE, COMP_MORE}
use Rattle.py_parser_grammar.specs.Actions.{Sem, piece, trees_of}
use Rattle.py_parser_grammar.specs.Reader.{Outcome, ◌>>=◌, accept, sees, starts, starts_expr}
use Rattle.py_parser_grammar.specs.Readings as r
use Rattle.py_parser_grammar.specs.Readings.{reads_sym, reads_expr, reads_after, reads_items, finish, after_into, spread, single, single_tree}
use Rattle.py_parser_grammar.proofs.Opening.{if_same, bind_same}
use Rattle.py_parser_grammar.proofs.Loops.{spread_single, items_eq}
use Rattle.py_parser_grammar.proofs.Steps.{fine, reads-eq}
use Rattle.py_parser_cursor.specs.declared.fault.ParseError.{ParseError}
use Rattle.py_parser_cursor.specs.Gives.{Fails}
use Rattle.py_parser_expressions.specs.Rows.{reads_row, reads_trees, fronted, one_more}
use Rattle.py_parser_cursor.proofs.Faults.{fails_bind}
use Rattle.py_parser_expressions.proofs.Fronts.{one_of, unfails}

row_fits : (x : Sym) → fine (after comma (g.sym x)) ≡ true
row_fits (expr TESTS) = refl
row_fits (expr _) = refl
row_fits (more OR_MORE) = refl
row_fits (more _) = refl
row_fits COMP_MORE = refl
row_fits _ = refl

pub after_eq : (ts : List Token) (x : Sym) (p : Place) → reads_after ts comma (g.sym x) p ≡
    (if sees ts p (comma ∷ [])
    then (accept ts comma p >>= λ c.
    if sees ts c.1 (starts x)
    then (reads_sym ts x c.1 >>= λ y. reads_after ts comma (g.sym x) y.1 >>= λ z. Ok ((y.0 ∷ z.0.0, z.0.1), z.1))
    else Ok (([], true), c.1))
    else Ok (([], false), p))
unfolding reads_after reads_sym
after_eq ts x p = reads-eq ts (after comma (g.sym x)) p (row_fits x) refl

-- without the mark of a last comma
abbrev plain : {A : Type 0} → Outcome (List A × Bool) → Outcome (List A)
plain o = o >>= λ w. Ok (w.0.0, w.1)

-- a part in front of a row, with the mark and without
abbrev marked_front : {A : Type 0} → A → Outcome (List A × Bool) → Outcome (List A × Bool)
marked_front v o = o >>= λ z. Ok ((v ∷ z.0.0, z.0.1), z.1)

abbrev plain_front : {A : Type 0} → A → Outcome (List A × Bool) → Outcome (List A)
plain_front v o = o >>= λ w. Ok (v ∷ w.0.0, w.1)

abbrev rest : (ts : List Token) (x : Sym) → Place → Outcome (List (Sem x) × Bool)
rest ts x p = reads_after ts comma (g.sym x) p

abbrev after_part : (ts : List Token) (x : Sym) → Outcome (Sem x) → Outcome (List (Sem x) × Bool)
after_part ts x o = o >>= λ y. marked_front y.0 (rest ts x y.1)

abbrev row_part : (ts : List Token) (x : Sym) → Outcome (Sem x) → Outcome (List (Sem x))
row_part ts x o = o >>= λ y. plain_front y.0 (rest ts x y.1)

abbrev after_comma : (ts : List Token) (x : Sym) → Token × Place → Outcome (List (Sem x) × Bool)
after_comma ts x c = if sees ts c.1 (starts x) then after_part ts x (reads_sym ts x c.1) else Ok (([], true), c.1)

behind : {A : Type 0} (v : A) (o : Outcome (List A × Bool)) → plain_front v o ≡ (plain o >>= λ w. Ok (v ∷ w.0, w.1))
behind v (Ok y) = refl
behind v (Err e) = refl

fronts : {A : Type 0} (v : A) (o : Outcome (List A × Bool)) → plain (marked_front v o) ≡ plain_front v o
fronts v (Ok y) = refl
fronts v (Err e) = refl

parts : (ts : List Token) (x : Sym) (o : Outcome (Sem x)) → plain (after_part ts x o) ≡ row_part ts x o
parts ts x (Ok y) = fronts y.0 (rest ts x y.1)
parts ts x (Err e) = refl

behind_a_comma : (ts : List Token) (x : Sym) (c : Token × Place) → plain (after_comma ts x c) ≡ reads_row ts x c.1
unfolding reads_row
behind_a_comma ts x c = go (sees ts c.1 (starts x))
  where
    go : (b : Bool) → plain (if b then after_part ts x (reads_sym ts x c.1) else Ok (([], true), c.1)) ≡ (if b then row_part ts x (reads_sym ts x c.1) else Ok ([], c.1))
    go true = parts ts x (reads_sym ts x c.1)
    go false = refl

commas : (ts : List Token) (x : Sym) (o : Outcome Token) → plain (o >>= after_comma ts x) ≡ (o >>= λ c. reads_row ts x c.1)
commas ts x (Ok c) = behind_a_comma ts x c
commas ts x (Err e) = refl

-- behind a comma a row goes on as it begins
pub after_row : (ts : List Token) (x : Sym) (p : Place) → plain (reads_after ts comma (g.sym x) p) ≡ (if sees ts p (comma ∷ []) then (accept ts comma p >>= λ c. reads_row ts x c.1) else Ok ([], p))
after_row ts x p = ap plain (after_eq ts x p) ∙ go (sees ts p (comma ∷ []))
  where
    go : (b : Bool) → plain (if b then (accept ts comma p >>= after_comma ts x) else Ok (([], false), p)) ≡ (if b then (accept ts comma p >>= λ c. reads_row ts x c.1) else Ok ([], p))
    go true = commas ts x (accept ts comma p)
    go false = refl

abbrev row_on : (ts : List Token) (x : Sym) → Outcome (Sem x) → Outcome (List (Sem x))
row_on ts x o = o >>= λ v. (if sees ts v.1 (comma ∷ []) then (accept ts comma v.1 >>= λ c. reads_row ts x c.1) else Ok ([], v.1)) >>= λ w. Ok (v.0 ∷ w.0, w.1)

-- ---- THE EQUATION of a row
pub row_eq : (ts : List Token) (x : Sym) (p : Place) → reads_row ts x p ≡ (if sees ts p (starts x) then row_on ts x (reads_sym ts x p) else Ok ([], p))
unfolding reads_row
row_eq ts x p = go (sees ts p (starts x)) (reads_sym ts x p)
  where
    go : (b : Bool) (o : Outcome (Sem x)) → (if b then row_part ts x o else Ok ([], p)) ≡ (if b then row_on ts x o else Ok ([], p))
    go true (Ok v) = behind v.0 (rest ts x v.1) ∙ ap (λ o. o >>= λ w. Ok (v.0 ∷ w.0, w.1)) (after_row ts x v.1)
    go true (Err e) = refl
    go false o = refl

fronted_more : {A : Type 0} (xs : List A) (v : A) (o : Outcome (List A)) → fronted xs (o >>= λ w. Ok (v ∷ w.0, w.1)) ≡ fronted (xs ++ v ∷ []) o
fronted_more xs v (Ok y) = ap (λ l. Ok (l, y.1)) (sym (append_assoc xs (v ∷ []) y.0))
fronted_more xs v (Err e) = refl

-- a part and a comma; the last part; no part; a fault of a part, or of a comma
at_more : (ts : List Token) (x : Sym) (p : Place) (v : Sem x × Place) (c : Token × Place)
    → sees ts p (starts x) ≡ true → reads_sym ts x p ≡ Ok v → sees ts v.1 (comma ∷ []) ≡ true → accept ts comma v.1 ≡ Ok c
    → reads_row ts x p ≡ (reads_row ts x c.1 >>= λ w. Ok (v.0 ∷ w.0, w.1))
at_more ts x p v c s r t a = row_eq ts x p ∙ rw (s, r) (rw (t, a) refl)

at_last : (ts : List Token) (x : Sym) (p : Place) (v : Sem x × Place)
    → sees ts p (starts x) ≡ true → reads_sym ts x p ≡ Ok v → sees ts v.1 (comma ∷ []) ≡ false → reads_row ts x p ≡ Ok (v.0 ∷ [], v.1)
at_last ts x p v s r t = row_eq ts x p ∙ rw (s, r) (rw t refl)

at_end : (ts : List Token) (x : Sym) (p : Place) → sees ts p (starts x) ≡ false → reads_row ts x p ≡ Ok ([], p)
at_end ts x p s = row_eq ts x p ∙ rw s refl

at_fails : (ts : List Token) (x : Sym) (p : Place) (e : ParseError) → sees ts p (starts x) ≡ true → Fails e (reads_sym ts x p) → Fails e (reads_row ts x p)
at_fails ts x p e s h = rw (row_eq ts x p, s) (fails_bind e (reads_sym ts x p) _ h)

at_comma_fails : (ts : List Token) (x : Sym) (p : Place) (v : Sem x × Place) (e : ParseError)
    → sees ts p (starts x) ≡ true → reads_sym ts x p ≡ Ok v → sees ts v.1 (comma ∷ []) ≡ true → Fails e (accept ts comma v.1) → Fails e (reads_row ts x p)
at_comma_fails ts x p v e s r t h =
    rw (row_eq ts x p, s, r) (rw t (fails_bind e (accept ts comma v.1 >>= λ c. reads_row ts x c.1) (λ w. Ok (v.0 ∷ w.0, w.1)) (fails_bind e (accept ts comma v.1) (λ c. reads_row ts x c.1) h)))

-- the same behind parts that stand in front
pub row_more : (ts : List Token) (x : Sym) (p : Place) (xs : List (Sem x)) (v : Sem x × Place) (c : Token × Place)
    → sees ts p (starts x) ≡ true → reads_sym ts x p ≡ Ok v → sees ts v.1 (comma ∷ []) ≡ true → accept ts comma v.1 ≡ Ok c
    → fronted xs (reads_row ts x p) ≡ fronted (xs ++ v.0 ∷ []) (reads_row ts x c.1)
row_more ts x p xs v c s r t a = ap (fronted xs) (at_more ts x p v c s r t a) ∙ fronted_more xs v.0 (reads_row ts x c.1)

pub row_last : (ts : List Token) (x : Sym) (p : Place) (xs : List (Sem x)) (v : Sem x × Place)
    → sees ts p (starts x) ≡ true → reads_sym ts x p ≡ Ok v → sees ts v.1 (comma ∷ []) ≡ false
    → fronted xs (reads_row ts x p) ≡ Ok (xs ++ v.0 ∷ [], v.1)
row_last ts x p xs v s r t = ap (fronted xs) (at_last ts x p v s r t)

pub row_end : (ts : List Token) (x : Sym) (p : Place) (xs : List (Sem x)) → sees ts p (starts x) ≡ false → fronted xs (reads_row ts x p) ≡ Ok (xs, p)
row_end ts x p xs s = ap (fronted xs) (at_end ts x p s) ∙ ap (λ l. Ok (l, p)) (append-nil xs)

pub row_fails : (ts : List Token) (x : Sym) (p : Place) (xs : List (Sem x)) (e : ParseError)
    → sees ts p (starts x) ≡ true → Fails e (reads_sym ts x p) → Fails e (fronted xs (reads_row ts x p))
row_fails ts x p xs e s h = fails_bind e (reads_row ts x p) (λ y. Ok (xs ++ y.0, y.1)) (at_fails ts x p e s h)

pub comma_fails : (ts : List Token) (x : Sym) (p : Place) (xs : List (Sem x)) (v : Sem x × Place) (e : ParseError)
    → sees ts p (starts x) ≡ true → reads_sym ts x p ≡ Ok v → sees ts v.1 (comma ∷ []) ≡ true → Fails e (accept ts comma v.1)
    → Fails e (fronted xs (reads_row ts x p))
comma_fails ts x p xs v e s r t h = fails_bind e (reads_row ts x p) (λ y. Ok (xs ++ y.0, y.1)) (at_comma_fails ts x p v e s r t h)

-- the same by what stands in front with one part more
pub row_step : (ts : List Token) (x : Sym) (p : Place) (xs : List (Sem x)) (z : List (Sem x) × Place) (c : Token × Place)
    → sees ts p (starts x) ≡ true → one_more xs (reads_sym ts x p) ≡ Ok z → sees ts z.1 (comma ∷ []) ≡ true → accept ts comma z.1 ≡ Ok c
    → fronted xs (reads_row ts x p) ≡ fronted z.0 (reads_row ts x c.1)
row_step ts x p xs z c s r t a =
    let w = one_of xs (reads_sym ts x p) z r in
    let q : z.1 ≡ w.0.1 = ap (λ y. y.1) w.2 in
    row_more ts x p xs w.0 c s w.1 (rw (← q) t) (rw (← q) a) ∙ ap (λ l. fronted l (reads_row ts x c.1)) (sym (ap (λ y. y.0) w.2))

pub row_stop : (ts : List Token) (x : Sym) (p : Place) (xs : List (Sem x)) (z : List (Sem x) × Place)
    → sees ts p (starts x) ≡ true → one_more xs (reads_sym ts x p) ≡ Ok z → sees ts z.1 (comma ∷ []) ≡ false → fronted xs (reads_row ts x p) ≡ Ok z
row_stop ts x p xs z s r t =
    let w = one_of xs (reads_sym ts x p) z r in
    let q : z.1 ≡ w.0.1 = ap (λ y. y.1) w.2 in
    row_last ts x p xs w.0 s w.1 (rw (← q) t) ∙ ap (λ y. Ok y) (sym w.2)

pub part_fails : (ts : List Token) (x : Sym) (p : Place) (xs : List (Sem x)) (e : ParseError)
    → sees ts p (starts x) ≡ true → Fails e (one_more xs (reads_sym ts x p)) → Fails e (fronted xs (reads_row ts x p))
part_fails ts x p xs e s h = row_fails ts x p xs e s (unfails e xs (reads_sym ts x p) h)

pub next_comma_fails : (ts : List Token) (x : Sym) (p : Place) (xs : List (Sem x)) (z : List (Sem x) × Place) (e : ParseError)
    → sees ts p (starts x) ≡ true → one_more xs (reads_sym ts x p) ≡ Ok z → sees ts z.1 (comma ∷ []) ≡ true → Fails e (accept ts comma z.1)
    → Fails e (fronted xs (reads_row ts x p))
next_comma_fails ts x p xs z e s r t h =
    let w = one_of xs (reads_sym ts x p) z r in
    let q : z.1 ≡ w.0.1 = ap (λ y. y.1) w.2 in
    comma_fails ts x p xs w.0 e s w.1 (rw (← q) t) (rw (← q) h)

-- ---- the same of expressions, by their trees

abbrev trees : Outcome (List Piece) → Outcome (List ExprTree)
trees o = o >>= λ y. Ok (trees_of y.0, y.1)

trees_behind : (xs : List ExprTree) (v : Piece) (o : Outcome (List Piece)) → fronted xs (trees (o >>= λ w. Ok (v ∷ w.0, w.1))) ≡ fronted (xs ++ v.tree ∷ []) (trees o)
trees_behind xs v (Ok y) = ap (λ l. Ok (l, y.1)) (sym (append_assoc xs (v.tree ∷ []) (trees_of y.0)))
trees_behind xs v (Err e) = refl

pub trees_more : (ts : List Token) (x : ExprSym) (p : Place) (xs : List ExprTree) (v : Piece × Place) (c : Token × Place)
    → sees ts p (starts_expr x) ≡ true → reads_expr ts x p ≡ Ok v → sees ts v.1 (comma ∷ []) ≡ true → accept ts comma v.1 ≡ Ok c
    → fronted xs (reads_trees ts x p) ≡ fronted (xs ++ v.0.tree ∷ []) (reads_trees ts x c.1)
unfolding reads_trees
trees_more ts x p xs v c s r t a = ap (λ o. fronted xs (trees o)) (at_more ts (expr x) p v c s r t a) ∙ trees_behind xs v.0 (reads_row ts (expr x) c.1)

pub trees_last : (ts : List Token) (x : ExprSym) (p : Place) (xs : List ExprTree) (v : Piece × Place)
    → sees ts p (starts_expr x) ≡ true → reads_expr ts x p ≡ Ok v → sees ts v.1 (comma ∷ []) ≡ false
    → fronted xs (reads_trees ts x p) ≡ Ok (xs ++ v.0.tree ∷ [], v.1)
unfolding reads_trees
trees_last ts x p xs v s r t = ap (λ o. fronted xs (trees o)) (at_last ts (expr x) p v s r t)

pub trees_end : (ts : List Token) (x : ExprSym) (p : Place) (xs : List ExprTree) → sees ts p (starts_expr x) ≡ false → fronted xs (reads_trees ts x p) ≡ Ok (xs, p)
unfolding reads_trees
trees_end ts x p xs s = ap (λ o. fronted xs (trees o)) (at_end ts (expr x) p s) ∙ ap (λ l. Ok (l, p)) (append-nil xs)

pub trees_fails : (ts : List Token) (x : ExprSym) (p : Place) (xs : List ExprTree) (e : ParseError)
    → sees ts p (starts_expr x) ≡ true → Fails e (reads_expr ts x p) → Fails e (fronted xs (reads_trees ts x p))
unfolding reads_trees
trees_fails ts x p xs e s h =
    fails_bind e (trees (reads_row ts (expr x) p)) (λ y. Ok (xs ++ y.0, y.1))
    (fails_bind e (reads_row ts (expr x) p) (λ y. Ok (trees_of y.0, y.1)) (at_fails ts (expr x) p e s h))

pub trees_comma_fails : (ts : List Token) (x : ExprSym) (p : Place) (xs : List ExprTree) (v : Piece × Place) (e : ParseError)
    → sees ts p (starts_expr x) ≡ true → reads_expr ts x p ≡ Ok v → sees ts v.1 (comma ∷ []) ≡ true → Fails e (accept ts comma v.1)
    → Fails e (fronted xs (reads_trees ts x p))
unfolding reads_trees
trees_comma_fails ts x p xs v e s r t h =
    fails_bind e (trees (reads_row ts (expr x) p)) (λ y. Ok (xs ++ y.0, y.1))
    (fails_bind e (reads_row ts (expr x) p) (λ y. Ok (trees_of y.0, y.1)) (at_comma_fails ts (expr x) p v e s r t h))

-- ---- rows as the grammar's equations have them

items_behind : {A : Type 0} (v : A) (o : Outcome (List A × Bool)) → (after_into single (v ∷ []) o >>= λ z. Ok (z.0.0, z.1)) ≡ plain_front v o
items_behind v (Ok y) = ap (λ l. Ok (v ∷ l, y.1)) (spread_single y.0.0)
items_behind v (Err e) = refl

pub items_row : (ts : List Token) (x : Sym) (p : Place) → reads_items ts x p ≡ reads_row ts x p
unfolding reads_row
items_row ts x p = items_eq ts x p ∙ if_same (sees ts p (starts x)) (bind_same (reads_sym ts x p) _ _ (λ y. items_behind y.0 (rest ts x y.1))) refl

pub trees_row : (ts : List Token) (p : Place) → r.reads_trees ts p ≡ reads_trees ts TEST p
unfolding r.reads_trees reads_trees
trees_row ts p = ap trees (items_row ts (expr TEST) p)

spread_trees : (vs : List Piece) → spread single_tree vs ≡ trees_of vs
spread_trees [] = refl
spread_trees (v ∷ vs) = ap (λ l. v.tree ∷ l) (spread_trees vs)

abbrev tuple_end : ExprTree → Span → List ExprTree × Place → Outcome Piece
tuple_end first span z = finish (piece (e.TupleOf (exprs_of (first ∷ z.0))) span) z.1

tuple_made : (first : ExprTree) (span : Span) (o : Outcome (List Piece × Bool))
    → (after_into single_tree (first ∷ []) o >>= λ y. finish (piece (e.TupleOf (exprs_of y.0.0)) span) y.1) ≡ (trees (plain o) >>= tuple_end first span)
tuple_made first span (Ok y) = ap (λ l. finish (piece (e.TupleOf (exprs_of (first ∷ l))) span) y.1) (spread_trees y.0.0)
tuple_made first span (Err e) = refl

tuple_commas : (ts : List Token) (x : ExprSym) (first : ExprTree) (span : Span) (o : Outcome Token)
    → (trees (o >>= λ c. reads_row ts (expr x) c.1) >>= tuple_end first span) ≡ (o >>= λ c. reads_trees ts x c.1 >>= tuple_end first span)
unfolding reads_trees
tuple_commas ts x first span (Ok c) = refl
tuple_commas ts x first span (Err e) = refl

-- a tuple goes on behind its first comma as a row does
pub tuple_row : (ts : List Token) (x : ExprSym) (first : ExprTree) (span : Span) (p : Place) → sees ts p (comma ∷ []) ≡ true
    → (after_into single_tree (first ∷ []) (reads_after ts comma (g.sym (expr x)) p) >>= λ y. finish (piece (e.TupleOf (exprs_of y.0.0)) span) y.1)
    ≡ (accept ts comma p >>= λ c. reads_trees ts x c.1 >>= λ z. finish (piece (e.TupleOf (exprs_of (first ∷ z.0))) span) z.1)
tuple_row ts x first span p s =
    let on : plain (reads_after ts comma (g.sym (expr x)) p) ≡ (accept ts comma p >>= λ c. reads_row ts (expr x) c.1) = after_row ts (expr x) p ∙ rw s refl in
    tuple_made first span (reads_after ts comma (g.sym (expr x)) p) ∙ ap (λ o. trees o >>= tuple_end first span) on ∙ tuple_commas ts x first span (accept ts comma p)

pub ruleset expr_rows = (trees_more, trees_last, trees_end, trees_fails, trees_comma_fails)

pub ruleset part_rows = (row_step, row_stop, row_end, part_fails, next_comma_fails)
