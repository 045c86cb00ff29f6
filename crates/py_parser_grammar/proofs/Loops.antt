-- What loops read: one more round, or the end.
use Rattle.std.specs.Prelude.{nat_le}
use Rattle.std.proofs.Common.{◌≡◌, Bool, true, false, ◌&&◌, List, [], ◌∷◌, ◌++◌, Ok, Err, if◌then◌else◌, refl, sym, ◌∙◌, ap, subst}
use Rattle.py_syntax.specs.declared.token.Token.{Token}
use Rattle.py_parser_grammar.specs.declared.terminal.Terminal.{Terminal}
use Rattle.py_parser_grammar.specs.declared.place.Place.{Place}
use Rattle.py_parser_grammar.specs.Levels.{Piece}
use Rattle.py_parser_grammar.specs.Grammar as g
use Rattle.py_parser_grammar.specs.Grammar.{ExprSym, More, Sym, expr, more, Part, tok, ◌·◌, ◌⊕◌, maybe, many, after, left, grown, rhs, expression, sign, key, list, comma, body, TESTS, TARGETS, TEST, OR, AND, NOT, COMP, BOR, SHIFT, SUM, TERM, FACTOR, PRIMARY, ATOM, OR_MORE, AND_MORE, BOR_MORE, SHIFT_MORE, SUM_MORE, TERM_MORE, TRAILER, COMP_MORE, COMP_OP, ARG, ENTRY, PLAIN, AUG, RETURN, RAISE, GLOBAL, ASSERT, DEL, IMPORT, FROM, DOTTED, ALIAS, SMALL, SIMPLE, STMT, IF, ARM, WHILE, FOR, TRY, EXCEPT, FINALLY, BLOCK, FUNC, PARAM, CLASS, CBLOCK, MEMBER, MARK, DECORATED, TOP, MODULE}
use Rattle.py_parser_grammar.specs.Actions.{Val, Sem}
use Rattle.py_parser_grammar.specs.Reader.{Outcome, ◌>>=◌, reads, accept, sees, firsts, starts}
use Rattle.py_parser_grammar.specs.Readings.{reads_items, reads_trees, spread, many_into, after_into, single, single_tree, whole, reads_sym, finish, reads_many, reads_after}
use Rattle.py_parser_grammar.proofs.Progress.{either_way}
use Rattle.py_parser_grammar.proofs.Steps.{fine, weight}
use Rattle.std.proofs.Common.{append-nil, append_assoc}
use Rattle.py_syntax.specs.Expressions.{ExprTree, exprs_of}
use Rattle.py_syntax.specs.Expressions as e
use Rattle.py_parser_grammar.specs.Actions.{items, trees_of, joined, tuple_of, piece}
use Rattle.py_parser_grammar.proofs.Opening.{bind_assoc, bind_same, if_bind, if_same, opened, opens, ready, one_step}
use Rattle.py_parser_grammar.proofs.Chains.{Finished}

-- ---- values in rows

pub spread_single : {A : Type 0} (vs : List A) → spread single vs ≡ vs
spread_single [] = refl
spread_single (v ∷ vs) = ap (λ l. v ∷ l) (spread_single vs)

pub spread_trees : (ps : List Piece) → spread single_tree ps ≡ trees_of ps
spread_trees [] = refl
spread_trees (p ∷ ps) = ap (λ l. p.tree ∷ l) (spread_trees ps)

pub spread_joined : {A : Type 0} (vs : List (List A)) → spread whole vs ≡ joined vs
spread_joined [] = refl
spread_joined (v ∷ vs) = ap (λ l. v ++ l) (spread_joined vs)

-- ---- repetitions

many_on : {A B : Type 0} (g : A → List B) (found : List B) (v : A) (o : Outcome (List A)) → many_into g found (o >>= λ y. Ok (v ∷ y.0, y.1)) ≡ many_into g (found ++ g v) o
many_on g found v (Ok y) = ap (λ l. Ok (l, y.1)) (sym (append_assoc found (g v) (spread g y.0)))
many_on g found v (Err e) = refl

-- one more round of a repetition, or its end
pub many_round : {B : Type 0} (ts : List Token) (a : Part) (p : Place) (g : Val a → List B) (found : List B) → (fine (many a) && nat_le (weight (many a)) 900) ≡ true → ready a ≡ true
    → many_into g found (reads_many ts a p) ≡ (if sees ts p (firsts a) then opened ts a p (λ x. many_into g (found ++ g x.0) (reads_many ts a x.1)) else Ok (found, p))
unfolding reads_many
many_round ts a p g found h k =
    ap (many_into g found) (one_step ts (many a) p h)
    ∙ if_bind (sees ts p (firsts a)) _ _ _
    ∙ if_same (sees ts p (firsts a))
    (bind_assoc (reads ts a p) (λ x. reads ts (many a) x.1 >>= λ y. Ok (x.0 ∷ y.0, y.1)) (λ y. Ok (found ++ spread g y.0, y.1))
    ∙ bind_same (reads ts a p) _ (λ x. many_into g (found ++ g x.0) (reads ts (many a) x.1)) (λ x. many_on g found x.0 (reads ts (many a) x.1))
    ∙ opens ts a p (λ x. many_into g (found ++ g x.0) (reads ts (many a) x.1)) k)
    (ap (λ l. Ok (l, p)) (append-nil found))

-- what is made of a repetition, where f is what g makes of each value
pub many_made : {A B C : Type 0} (g : A → List B) (f : List A → List B) (found : List B) (h : List B × Place → Outcome C) (o : Outcome (List A)) → ((vs : List A) → spread g vs ≡ f vs)
    → (o >>= λ y. h (found ++ f y.0, y.1)) ≡ (many_into g found o >>= h)
many_made g f found h (Ok y) e = ap (λ l. h (found ++ l, y.1)) (sym (e y.0))
many_made g f found h (Err s) e = refl

-- ---- between separators

ready_after : (c : Terminal) (x : Sym) → (fine (after c (g.sym x)) && nat_le (weight (after c (g.sym x))) 900) ≡ true
ready_after c (expr TESTS) = refl
ready_after c (expr _) = refl
ready_after c (more OR_MORE) = refl
ready_after c (more _) = refl
ready_after c COMP_MORE = refl
ready_after c _ = refl

after_on : {A B : Type 0} (g : A → List B) (found : List B) (v : A) (o : Outcome (List A × Bool)) → after_into g found (o >>= λ y. Ok ((v ∷ y.0.0, y.0.1), y.1)) ≡ after_into g (found ++ g v) o
after_on g found v (Ok y) = ap (λ l. Ok ((l, y.0.1), y.1)) (sym (append_assoc found (g v) (spread g y.0.0)))
after_on g found v (Err e) = refl

-- one more separator and perhaps a symbol behind it, or the end
pub after_round : {B : Type 0} (ts : List Token) (c : Terminal) (x : Sym) (p : Place) (f : Sem x → List B) (found : List B)
    → after_into f found (reads_after ts c (g.sym x) p) ≡ (if sees ts p (c ∷ [])
    then (accept ts c p >>= λ t.
    if sees ts t.1 (starts x) then (reads_sym ts x t.1 >>= λ y. after_into f (found ++ f y.0) (reads_after ts c (g.sym x) y.1)) else Ok ((found, true), t.1))
    else Ok ((found, false), p))
unfolding reads_after reads_sym
after_round ts c x p f found =
    ap (after_into f found) (one_step ts (after c (g.sym x)) p (ready_after c x))
    ∙ if_bind (sees ts p (c ∷ [])) _ _ _
    ∙ if_same (sees ts p (c ∷ []))
    (bind_assoc (accept ts c p) (λ t. if sees ts t.1 (starts x) then (reads ts (g.sym x) t.1 >>= λ y. reads ts (after c (g.sym x)) y.1 >>= λ z. Ok ((y.0 ∷ z.0.0, z.0.1), z.1)) else Ok (([], true), t.1)) (λ y. Ok ((found ++ spread f y.0.0, y.0.1), y.1))
    ∙ bind_same (accept ts c p) _ (λ t. if sees ts t.1 (starts x) then (reads ts (g.sym x) t.1 >>= λ y. after_into f (found ++ f y.0) (reads ts (after c (g.sym x)) y.1)) else Ok ((found, true), t.1))
    (λ t. if_bind (sees ts t.1 (starts x)) _ _ _
    ∙ if_same (sees ts t.1 (starts x))
    (bind_assoc (reads ts (g.sym x) t.1) (λ y. reads ts (after c (g.sym x)) y.1 >>= λ z. Ok ((y.0 ∷ z.0.0, z.0.1), z.1)) (λ y. Ok ((found ++ spread f y.0.0, y.0.1), y.1))
    ∙ bind_same (reads ts (g.sym x) t.1) _ (λ y. after_into f (found ++ f y.0) (reads ts (after c (g.sym x)) y.1)) (λ y. after_on f found y.0 (reads ts (after c (g.sym x)) y.1)))
    (ap (λ l. Ok ((l, true), t.1)) (append-nil found))))
    (ap (λ l. Ok ((l, false), p)) (append-nil found))

-- ---- in brackets

ready_items : (x : Sym) → ready (maybe (list comma (g.sym x))) ≡ true
ready_items (expr TESTS) = refl
ready_items (expr _) = refl
ready_items (more OR_MORE) = refl
ready_items (more _) = refl
ready_items COMP_MORE = refl
ready_items _ = refl

-- going on behind the items
pub items_opened : {C : Type 0} (ts : List Token) (x : Sym) (p : Place) (h : List (Sem x) × Place → Outcome C) → opened ts (maybe (list comma (g.sym x))) p (λ y. h (items y.0, y.1)) ≡ (reads_items ts x p >>= h)
unfolding reads_items
items_opened ts x p h =
    sym (opens ts (maybe (list comma (g.sym x))) p (λ y. h (items y.0, y.1)) (ready_items x))
    ∙ sym (bind_assoc (reads ts (maybe (list comma (g.sym x))) p) (λ y. Ok (items y.0, y.1)) h)

single_behind : {A : Type 0} (v : A) (o : Outcome (List A × Bool)) → (o >>= λ z. Ok (v ∷ z.0.0, z.1)) ≡ (after_into single (v ∷ []) o >>= λ z. Ok (z.0.0, z.1))
single_behind v (Ok y) = ap (λ l. Ok (v ∷ l, y.1)) (sym (spread_single y.0.0))
single_behind v (Err e) = refl

-- the items, or none
pub items_eq : (ts : List Token) (x : Sym) (p : Place) → reads_items ts x p ≡ (if sees ts p (starts x)
    then (reads_sym ts x p >>= λ y. after_into single (y.0 ∷ []) (reads_after ts comma (g.sym x) y.1) >>= λ z. Ok (z.0.0, z.1))
    else Ok ([], p))
unfolding reads_items
items_eq ts x p =
    opens ts (maybe (list comma (g.sym x))) p (λ y. Ok (items y.0, y.1)) (ready_items x)
    ∙ if_same (sees ts p (starts x)) (bind_same (reads_sym ts x p) _ _ (λ y. single_behind y.0 (reads_after ts comma (g.sym x) y.1))) refl

pub trees_opened : {C : Type 0} (ts : List Token) (p : Place) (h : List ExprTree × Place → Outcome C) → opened ts (maybe (list comma (expression TEST))) p (λ y. h (trees_of (items y.0), y.1)) ≡ (reads_trees ts p >>= h)
unfolding reads_trees
trees_opened ts p h = items_opened ts (expr TEST) p (λ y. h (trees_of y.0, y.1)) ∙ sym (bind_assoc (reads_items ts (expr TEST) p) (λ y. Ok (trees_of y.0, y.1)) h)

-- ---- tuples

abbrev IsTuple : Piece → Outcome (List Piece × Bool) → Type 0
IsTuple p (Ok z) = tuple_of (p, z.0) ≡ piece (e.TupleOf (exprs_of (p.tree ∷ trees_of z.0.0))) p.begins
IsTuple p (Err e) = Unit {0}

tuple_more : (p v : Piece) (o : Outcome (List Piece × Bool)) → IsTuple p (o >>= λ z. Ok ((v ∷ z.0.0, z.0.1), z.1))
tuple_more p v (Ok z) = refl
tuple_more p v (Err e) = tt

tuple_then : {A : Type 0} (p : Piece) (o : Outcome A) (f : A × Place → Outcome (List Piece × Bool)) → ((x : A × Place) → IsTuple p (f x)) → IsTuple p (o >>= f)
tuple_then p (Ok x) f h = h x
tuple_then p (Err e) f h = tt

tuple_made : (p : Piece) (o : Outcome (List Piece × Bool)) → IsTuple p o → (o >>= λ z. finish (tuple_of (p, z.0)) z.1) ≡ (after_into single_tree (p.tree ∷ []) o >>= λ z. finish (piece (e.TupleOf (exprs_of z.0.0)) p.begins) z.1)
tuple_made p (Ok z) h = ap (λ v. finish v z.1) h ∙ ap (λ l. finish (piece (e.TupleOf (exprs_of (p.tree ∷ l))) p.begins) z.1) (sym (spread_trees z.0.0))
tuple_made p (Err e) h = refl

-- one expression, or several with commas between them, which are a tuple
pub tuple_eq : (ts : List Token) (x : ExprSym) (v : Piece) (p : Place) → finish v p ≡ Ok (v, p)
    → (reads_after ts comma (expression x) p >>= λ z. finish (tuple_of (v, z.0)) z.1) ≡ (if sees ts p (comma ∷ [])
    then (after_into single_tree (v.tree ∷ []) (reads_after ts comma (expression x) p) >>= λ z. finish (piece (e.TupleOf (exprs_of z.0.0)) v.begins) z.1)
    else Ok (v, p))
unfolding reads_after
tuple_eq ts x v p h = at (sees ts p (comma ∷ [])) refl
  where
    r : Part
    r = after comma (expression x)

    o : Outcome (List Piece × Bool)
    o = reads ts r p

    all : Bool → Outcome (List Piece × Bool)
    all s = if s then (accept ts comma p >>= λ t. if sees ts t.1 (starts (expr x)) then (reads ts (expression x) t.1 >>= λ y. reads ts r y.1 >>= λ z. Ok ((y.0 ∷ z.0.0, z.0.1), z.1)) else Ok (([], true), t.1)) else Ok (([], false), p)

    is : (s : Bool) → sees ts p (comma ∷ []) ≡ s → o ≡ all s
    is s q = one_step ts r p (ready_after comma (expr x)) ∙ ap all q

    tupled : IsTuple v (all true)
    tupled = tuple_then v (accept ts comma p) _ (λ t. either_way (IsTuple v) (sees ts t.1 (starts (expr x))) _ _ (λ _. tuple_then v (reads ts (expression x) t.1) _ (λ y. tuple_more v y.0 (reads ts r y.1))) (λ _. refl))

    at : (s : Bool) → sees ts p (comma ∷ []) ≡ s → (o >>= λ z. finish (tuple_of (v, z.0)) z.1) ≡ (if s then (after_into single_tree (v.tree ∷ []) o >>= λ z. finish (piece (e.TupleOf (exprs_of z.0.0)) v.begins) z.1) else Ok (v, p))
    at true q = tuple_made v o (subst (IsTuple v) (sym (is true q)) tupled)
    at false q = ap (λ u. u >>= λ z. finish (tuple_of (v, z.0)) z.1) (is false q) ∙ h

pub tuples_eq : (ts : List Token) (x : ExprSym) (o : Outcome Piece) → Finished o → (o >>= λ y. reads_after ts comma (expression x) y.1 >>= λ z. finish (tuple_of (y.0, z.0)) z.1) ≡ (o >>= λ y. if sees ts y.1 (comma ∷ [])
    then (after_into single_tree (y.0.tree ∷ []) (reads_after ts comma (expression x) y.1) >>= λ z. finish (piece (e.TupleOf (exprs_of z.0.0)) y.0.begins) z.1)
    else Ok (y.0, y.1))
tuples_eq ts x (Ok y) h = tuple_eq ts x y.0 y.1 h
tuples_eq ts x (Err e) h = refl
