-- What reading a part is, by what reading the symbols in it is.
use Rattle.std.specs.Prelude.{nat_le}
use Rattle.std.proofs.Common.{◌≡◌, Bool, true, false, ◌&&◌, List, Some, None, Ok, Err, if◌then◌else◌, inl, inr, refl, ◌∙◌, ap}
use Rattle.py_syntax.specs.declared.token.Token.{Token}
use Rattle.py_parser_grammar.specs.declared.place.Place.{Place}
use Rattle.py_parser_grammar.specs.Levels.{Piece}
use Rattle.py_parser_grammar.specs.Grammar as g
use Rattle.py_parser_grammar.specs.Grammar.{ExprSym, More, Sym, expr, more, Part, tok, ◌·◌, ◌⊕◌, maybe, many, after, left, grown, rhs, expression, sign, key, list, comma, body, TESTS, TARGETS, TEST, OR, AND, NOT, COMP, BOR, SHIFT, SUM, TERM, FACTOR, PRIMARY, ATOM, OR_MORE, AND_MORE, BOR_MORE, SHIFT_MORE, SUM_MORE, TERM_MORE, TRAILER, COMP_MORE, COMP_OP, ARG, ENTRY, PLAIN, AUG, RETURN, RAISE, GLOBAL, ASSERT, DEL, IMPORT, FROM, DOTTED, ALIAS, SMALL, SIMPLE, STMT, IF, ARM, WHILE, FOR, TRY, EXCEPT, FINALLY, BLOCK, FUNC, PARAM, CLASS, CBLOCK, MEMBER, MARK, DECORATED, TOP, MODULE}
use Rattle.py_parser_grammar.specs.Actions.{Val, act, grow}
use Rattle.py_parser_grammar.specs.Reader.{Outcome, ◌>>=◌, keep_small, close, step, reads, accept, sees, firsts}
use Rattle.py_parser_grammar.specs.Readings.{reads_sym, reads_expr, reads_grown, growth, finish, reads_many, reads_after}
use Rattle.py_parser_grammar.proofs.Beginnings.{and_left, and_right}
use Rattle.py_parser_grammar.proofs.Steps.{fine, weight, reads-eq}

pub bind_assoc : {A B C : Type 0} (o : Outcome A) (f : A × Place → Outcome B) (h : B × Place → Outcome C) → ((o >>= f) >>= h) ≡ (o >>= λ x. f x >>= h)
bind_assoc (Ok x) f h = refl
bind_assoc (Err e) f h = refl

pub bind_same : {A B : Type 0} (o : Outcome A) (f h : A × Place → Outcome B) → ((x : A × Place) → f x ≡ h x) → (o >>= f) ≡ (o >>= h)
bind_same (Ok x) f h e = e x
bind_same (Err s) f h e = refl

pub if_bind : {A B : Type 0} (b : Bool) (x y : Outcome A) (f : A × Place → Outcome B) → ((if b then x else y) >>= f) ≡ (if b then (x >>= f) else (y >>= f))
if_bind true x y f = refl
if_bind false x y f = refl

pub if_same : {A : Type 0} (b : Bool) {x y u v : A} → x ≡ u → y ≡ v → (if b then x else y) ≡ (if b then u else v)
if_same true e f = e
if_same false e f = f

-- reading a part and going on, with the part taken apart as far as symbols, repetitions and growths
abbrev pub opened : {C : Type 0} → List Token → (r : Part) → Place → (Val r × Place → Outcome C) → Outcome C
opened ts (tok c) p k = accept ts c p >>= k
opened ts (g.sym x) p k = reads_sym ts x p >>= k
opened ts (a · b) p k = opened ts a p (λ x. opened ts b x.1 (λ y. k ((x.0, y.0), y.1)))
opened ts (a ⊕ b) p k = if sees ts p (firsts a) then opened ts a p (λ x. k (inl x.0, x.1)) else opened ts b p (λ x. k (inr x.0, x.1))
opened ts (maybe a) p k = if sees ts p (firsts a) then opened ts a p (λ x. k (Some x.0, x.1)) else k (None, p)
opened ts (many a) p k = reads_many ts a p >>= k
opened ts (after c a) p k = reads_after ts c a p >>= k
opened ts (left e m) p k = reads_expr ts e p >>= λ x. reads_grown ts m x.0 x.1 >>= k
opened ts (grown m v) p k = reads_grown ts m v p >>= k

abbrev pub ready : Part → Bool
ready (a · b) = (fine (a · b) && nat_le (weight (a · b)) 900) && (ready a && ready b)
ready (a ⊕ b) = (fine (a ⊕ b) && nat_le (weight (a ⊕ b)) 900) && (ready a && ready b)
ready (maybe a) = (fine (maybe a) && nat_le (weight (maybe a)) 900) && ready a
ready r = fine r && nat_le (weight r) 900

pub all_ready : (x : Sym) → ready (rhs x) ≡ true
all_ready (expr TESTS) = refl
all_ready (expr _) = refl
all_ready (more OR_MORE) = refl
all_ready (more _) = refl
all_ready COMP_MORE = refl
all_ready _ = refl

pub one_step : (ts : List Token) (r : Part) (p : Place) → (fine r && nat_le (weight r) 900) ≡ true → reads ts r p ≡ step keep_small ts (reads ts) r p
one_step ts r p e = reads-eq ts r p (and_left (fine r) _ e) (and_right (fine r) _ e)

pub opens : {C : Type 0} (ts : List Token) (r : Part) (p : Place) (k : Val r × Place → Outcome C) → ready r ≡ true → (reads ts r p >>= k) ≡ opened ts r p k
unfolding reads_sym reads_many reads_after reads_grown
opens ts (tok c) p k e = ap (λ o. o >>= k) (one_step ts (tok c) p e)
opens ts (g.sym x) p k e = refl
opens ts (a · b) p k e =
    let here = and_left (fine (a · b) && nat_le (weight (a · b)) 900) _ e in
    let parts = and_right (fine (a · b) && nat_le (weight (a · b)) 900) _ e in
    ap (λ o. o >>= k) (one_step ts (a · b) p here)
    ∙ bind_assoc (reads ts a p) (λ x. reads ts b x.1 >>= λ y. Ok ((x.0, y.0), y.1)) k
    ∙ bind_same (reads ts a p) (λ x. (reads ts b x.1 >>= λ y. Ok ((x.0, y.0), y.1)) >>= k) (λ x. opened ts b x.1 (λ y. k ((x.0, y.0), y.1)))
    (λ x. bind_assoc (reads ts b x.1) (λ y. Ok ((x.0, y.0), y.1)) k ∙ opens ts b x.1 (λ y. k ((x.0, y.0), y.1)) (and_right (ready a) _ parts))
    ∙ opens ts a p (λ x. opened ts b x.1 (λ y. k ((x.0, y.0), y.1))) (and_left (ready a) _ parts)
opens ts (a ⊕ b) p k e =
    let here = and_left (fine (a ⊕ b) && nat_le (weight (a ⊕ b)) 900) _ e in
    let parts = and_right (fine (a ⊕ b) && nat_le (weight (a ⊕ b)) 900) _ e in
    ap (λ o. o >>= k) (one_step ts (a ⊕ b) p here)
    ∙ if_bind (sees ts p (firsts a)) _ _ k
    ∙ if_same (sees ts p (firsts a))
    (bind_assoc (reads ts a p) (λ x. Ok (inl x.0, x.1)) k ∙ opens ts a p (λ x. k (inl x.0, x.1)) (and_left (ready a) _ parts))
    (bind_assoc (reads ts b p) (λ x. Ok (inr x.0, x.1)) k ∙ opens ts b p (λ x. k (inr x.0, x.1)) (and_right (ready a) _ parts))
opens ts (maybe a) p k e =
    let here = and_left (fine (maybe a) && nat_le (weight (maybe a)) 900) _ e in
    let parts = and_right (fine (maybe a) && nat_le (weight (maybe a)) 900) _ e in
    ap (λ o. o >>= k) (one_step ts (maybe a) p here)
    ∙ if_bind (sees ts p (firsts a)) _ _ k
    ∙ if_same (sees ts p (firsts a))
    (bind_assoc (reads ts a p) (λ x. Ok (Some x.0, x.1)) k ∙ opens ts a p (λ x. k (Some x.0, x.1)) parts)
    refl
opens ts (many a) p k e = refl
opens ts (after c a) p k e = refl
opens ts (left x m) p k e =
    ap (λ o. o >>= k) (one_step ts (left x m) p e) ∙ bind_assoc (reads ts (g.sym (expr x)) p) (λ y. reads ts (grown m y.0) y.1) k
opens ts (grown m v) p k e = refl

-- THE EQUATION of a symbol
pub sym_eq : (ts : List Token) (x : Sym) (p : Place) → reads_sym ts x p ≡ opened ts (rhs x) p (λ v. close keep_small x (act x v.0) v.1)
unfolding reads_sym
sym_eq ts x p =
    reads-eq ts (g.sym x) p refl (small_rank x) ∙ opens ts (rhs x) p (λ v. close keep_small x (act x v.0) v.1) (all_ready x)
  where
    small_rank : (x : Sym) → nat_le (weight (g.sym x)) 900 ≡ true
    small_rank (expr TESTS) = refl
    small_rank (expr _) = refl
    small_rank (more OR_MORE) = refl
    small_rank (more _) = refl
    small_rank COMP_MORE = refl
    small_rank _ = refl

pub growth_eq : (ts : List Token) (m : More) (v : Piece) (p : Place) → growth ts m v p ≡ opened ts (rhs (more m)) p (λ x. finish (grow m v (act (more m) x.0)) x.1)
unfolding growth reads_sym
growth_eq ts m v p =
    ap (λ o. o >>= λ x. finish (grow m v x.0) x.1) (reads-eq ts (g.sym (more m)) p refl refl)
    ∙ bind_assoc (reads ts (rhs (more m)) p) (λ x. close keep_small (more m) (act (more m) x.0) x.1) (λ x. finish (grow m v x.0) x.1)
    ∙ opens ts (rhs (more m)) p (λ x. finish (grow m v (act (more m) x.0)) x.1) (all_ready (more m))
