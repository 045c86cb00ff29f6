-- Reading ends.
use Rattle.std.specs.Prelude.{slice_get, nat_le, max}
use Rattle.std.proofs.lemmas.Bool.{leb-true}
use Rattle.std.proofs.lemmas.Option.{slice_get_within}
use Rattle.std.proofs.Common.{◌≡◌, ℕ, zero, suc, ◌+◌, ◌-◌, ◌*◌, ◌≤◌, ◌<◌, Bool, true, false, not, ◌&&◌, ◌||◌, List, [], ◌∷◌, Option, Some, None, Ok, Err, if◌then◌else◌, inl, inr, refl, sym, ap, subst, arith, ◌⊎◌, length}
use Rattle.py_syntax.specs.declared.token.Token.{Token}
use Rattle.py_parser_grammar.specs.declared.terminal.Terminal.{Terminal}
use Rattle.py_parser_grammar.specs.declared.place.Place.{Place}
use Rattle.py_parser_grammar.specs.Terminals.{terminal_of, same, next_left_out}
use Rattle.py_parser_grammar.specs.Levels.{Piece, shallow}
use Rattle.py_parser_grammar.specs.Grammar as g
use Rattle.py_parser_grammar.specs.Grammar.{ExprSym, More, Sym, expr, more, Part, tok, ◌·◌, ◌⊕◌, maybe, many, after, left, grown, rhs, ATOM, MODULE}
use Rattle.py_parser_grammar.specs.Actions.{Val, SemMore, act, grow}
use Rattle.py_parser_grammar.specs.Reader.{Outcome, ◌>>=◌, Stop, syntax_at, profile_at, too_deep_at, out, Keep, keep_small, close, Reader, step, run, reads, accept, accept_one, take_it, refusal, sees, firsts, may_be_empty, starts_more, mark}
use Rattle.py_parser_grammar.specs.Grammar.{TESTS, TARGETS, TEST, OR, AND, NOT, COMP, BOR, SHIFT, SUM, TERM, FACTOR, PRIMARY, OR_MORE, COMP_MORE, COMP_OP, ARG, ENTRY, PLAIN, AUG, SMALL, SIMPLE, STMT, ARM, TRY, EXCEPT, BLOCK, FUNC, CLASS, CBLOCK, MEMBER, DECORATED, TOP}
use Rattle.py_parser_grammar.proofs.Checks.{solid}
use Rattle.py_parser_grammar.proofs.Beginnings.{and_left, and_right, not_true, true_or_false}
use Rattle.py_parser_grammar.proofs.Progress.{either_way}

-- ---- how many steps are taken before a token is

abbrev pub rank_expr : ExprSym → ℕ
rank_expr ATOM = 20
rank_expr PRIMARY = 25
rank_expr FACTOR = 30
rank_expr TERM = 35
rank_expr SUM = 40
rank_expr SHIFT = 45
rank_expr BOR = 50
rank_expr COMP = 55
rank_expr NOT = 60
rank_expr AND = 65
rank_expr OR = 70
rank_expr TEST = 75
rank_expr TESTS = 80
rank_expr TARGETS = 80

abbrev pub rank : Sym → ℕ
rank (expr e) = rank_expr e
rank (more m) = 10
rank COMP_OP = 20
rank COMP_MORE = 30
rank ARG = 80
rank ENTRY = 80
rank PLAIN = 90
rank AUG = 20
rank SMALL = 120
rank SIMPLE = 130
rank STMT = 140
rank BLOCK = 150
rank CBLOCK = 150
rank ARM = 80
rank MEMBER = 150
rank DECORATED = 40
rank TOP = 150
rank MODULE = 160
rank FUNC = 20
rank CLASS = 20
rank TRY = 20
rank EXCEPT = 20
rank _ = 20

abbrev pub weight : Part → ℕ
weight (tok c) = 0
weight (g.sym s) = rank s
weight (a · b) = (weight a + 1) + (if may_be_empty a then weight b else 0)
weight (a ⊕ b) = max (weight a) (weight b) + 1
weight (maybe a) = weight a + 1
weight (many a) = weight a + 1
weight (after c a) = 1
weight (left e m) = rank_expr e + 1
weight (grown m v) = 11

abbrev pub fine : Part → Bool
fine (tok c) = true
fine (g.sym s) = true
fine (a · b) = fine a && (fine b && nat_le (weight b) 500)
fine (a ⊕ b) = fine a && fine b
fine (maybe a) = fine a
fine (many a) = fine a && (not (may_be_empty a) && nat_le (weight a) 400)
fine (after c a) = fine a && nat_le (weight a) 500
fine (left e m) = true
fine (grown m v) = true

pub all_fine : (x : Sym) → fine (rhs x) ≡ true
all_fine (expr TESTS) = refl
all_fine (expr _) = refl
all_fine (more OR_MORE) = refl
all_fine (more _) = refl
all_fine COMP_MORE = refl
all_fine _ = refl

pub rank_falls : (x : Sym) → nat_le (weight (rhs x) + 1) (rank x) ≡ true
rank_falls (expr TESTS) = refl
rank_falls (expr _) = refl
rank_falls (more OR_MORE) = refl
rank_falls (more _) = refl
rank_falls COMP_MORE = refl
rank_falls _ = refl

pub rank_small : (x : Sym) → nat_le (rank x) 400 ≡ true
rank_small (expr TESTS) = refl
rank_small (expr _) = refl
rank_small (more OR_MORE) = refl
rank_small (more _) = refl
rank_small COMP_MORE = refl
rank_small _ = refl

le_from : (a b : ℕ) → nat_le a b ≡ true → a ≤ b
le_from a b e = leb-true a b e

-- how many tokens are left
abbrev pub rest : List Token → Place → ℕ
rest ts p = length ts - p.at

abbrev pub SureStop : Stop → Type 0
SureStop out = ⊥
SureStop _ = Unit {0}

-- it stopped, and took a token where the part is not empty
abbrev pub Sure : List Token → ℕ → Bool → {A : Type 0} → Outcome A → Type 0
Sure ts l e (Ok x) = (rest ts x.1 ≤ l) × (e ≡ false → rest ts x.1 < l)
Sure ts l e (Err s) = SureStop s

sure_map : (ts : List Token) (l : ℕ) (e : Bool) {A C : Type 0} (h : A → C) (o : Outcome A) → Sure ts l e o → Sure ts l e (o >>= λ x. Ok (h x.0, x.1))
sure_map ts l e h (Ok x) w = w
sure_map ts l e h (Err s) w = w

shift : (ts : List Token) (l m : ℕ) (d e f : Bool) {A : Type 0} (o : Outcome A) → m ≤ l → (d ≡ false → m < l) → (f ≡ false → (d ≡ false) ⊎ (e ≡ false)) → Sure ts m e o → Sure ts l f o
shift ts l m d e f (Ok x) le lt rel w = (omega (arith, w.0), λ h. at (rel h))
  where
    at : (d ≡ false) ⊎ (e ≡ false) → rest ts x.1 < l
    at (inl y) = omega (arith, lt y, w.0)
    at (inr y) = omega (arith, w.1 y)
shift ts l m d e f (Err s) le lt rel w = w

sure_then : (ts : List Token) (l : ℕ) (d e f : Bool) {A C : Type 0} (o : Outcome A) (h : A × Place → Outcome C) → Sure ts l d o
    → ((x : A × Place) → rest ts x.1 ≤ l → (d ≡ false → rest ts x.1 < l) → Sure ts (rest ts x.1) e (h x)) → (f ≡ false → (d ≡ false) ⊎ (e ≡ false)) → Sure ts l f (o >>= h)
sure_then ts l d e f (Ok x) h w k rel = shift ts l (rest ts x.1) d e f (h x) w.0 w.1 rel (k x w.0 w.1)
sure_then ts l d e f (Err s) h w k rel = w

sure_accept : (ts : List Token) (c : Terminal) (p : Place) → Sure ts (rest ts p) false (accept ts c p)
sure_accept ts c p = go (slice_get ts p.at) refl
  where
    refused : (o : Option Token) → SureStop (refusal o p.at)
    refused o = either_way SureStop (next_left_out o) (profile_at p.at) (syntax_at p.at) (λ _. tt) (λ _. tt)

    go : (o : Option Token) → slice_get ts p.at ≡ o → Sure ts (rest ts p) false (accept_one o c p)
    go None e = tt
    go (Some t) e =
        let lt = slice_get_within ts p.at t e in
        either_way (Sure ts (rest ts p) false) (same (terminal_of t.kind) c) (take_it t p) (Err (refusal (Some t) p.at))
        (λ _. either_way (Sure ts (rest ts p) false) p.deep (Err (too_deep_at (p.at - 1))) (Ok (t, record { at = p.at + 1; deep = false })) (λ _. tt) (λ _. (omega arith, λ _. omega arith)))
        (λ _. refused (Some t))

or_left_false : (a c : Bool) → (a || c) ≡ false → a ≡ false
or_left_false true c e = e
or_left_false false c e = refl

or_right_false : (a c : Bool) → (a || c) ≡ false → c ≡ false
or_right_false true c e = absurd (cc)
or_right_false false c e = e

and_false : (a c : Bool) → (a && c) ≡ false → (a ≡ false) ⊎ (c ≡ false)
and_false true c e = inr e
and_false false c e = inl refl

sure_weak : (ts : List Token) (l : ℕ) (d e : Bool) {A : Type 0} (o : Outcome A) → (e ≡ false → d ≡ false) → Sure ts l d o → Sure ts l e o
sure_weak ts l d e (Ok x) k w = (w.0, λ h. w.1 (k h))
sure_weak ts l d e (Err s) k w = w

-- an expression with one more part, and the place behind it
abbrev behind_more : (m : More) → Piece → SemMore m × Place → Place
behind_more m v x = mark (shallow (grow m v x.0).tree) x.1

abbrev grown_on : Keep → (m : More) → Piece → SemMore m × Place → Piece
grown_on keep m v x = keep (expr ATOM) (behind_more m v x).deep (grow m v x.0)

module _ (keep : Keep) (ts : List Token) (n : ℕ) (run : Reader) (ih : (r : Part) (p : Place) → fine r ≡ true → rest ts p * 1000 + weight r < n → Sure ts (rest ts p) (may_be_empty r) (run r p)) where
  -- the second of two parts
  behind : (a c : Part) (p q : Place) → rest ts p * 1000 + weight (a · c) ≤ n → weight c ≤ 500 → rest ts q ≤ rest ts p → (may_be_empty a ≡ false → rest ts q < rest ts p) → rest ts q * 1000 + weight c < n
  behind a c p q h small le lt = at (true_or_false (may_be_empty a))
    where
      at : (may_be_empty a ≡ true) ⊎ (may_be_empty a ≡ false) → rest ts q * 1000 + weight c < n
      at (inl e) = let w : weight (a · c) ≡ weight a + 1 + weight c = ap (λ t. weight a + 1 + (if t then weight c else 0)) e in omega arith
      at (inr e) = let l = lt e in omega arith

  sure_step : (r : Part) (p : Place) → fine r ≡ true → rest ts p * 1000 + weight r ≤ n → Sure ts (rest ts p) (may_be_empty r) (step keep ts run r p)
  sure_step (tok c) p fi h = sure_accept ts c p
  sure_step (g.sym s) p fi h =
      let falls = le_from (weight (rhs s) + 1) (rank s) (rank_falls s) in
      sure_then ts (rest ts p) (may_be_empty (rhs s)) true false (run (rhs s) p) (λ x. close keep s (act s x.0) x.1)
      (ih (rhs s) p (all_fine s) (omega arith)) (λ x le lt. (omega arith, λ y. absurd (cc))) (λ _. inl (solid s))
  sure_step (a · c) p fi h =
      let fa = and_left (fine a) _ fi in
      let f2 = and_right (fine a) _ fi in
      let fc = and_left (fine c) _ f2 in
      let small = le_from (weight c) 500 (and_right (fine c) _ f2) in
      sure_then ts (rest ts p) (may_be_empty a) (may_be_empty c) (may_be_empty (a · c)) (run a p) _
      (ih a p fa (omega arith))
      (λ x le lt. sure_map ts (rest ts x.1) (may_be_empty c) (λ y. (x.0, y)) (run c x.1) (ih c x.1 fc (behind a c p x.1 h small le lt)))
      (and_false (may_be_empty a) (may_be_empty c))
  sure_step (a ⊕ c) p fi h =
      either_way (Sure ts (rest ts p) (may_be_empty (a ⊕ c))) (sees ts p (firsts a)) (run a p >>= λ x. Ok (inl x.0, x.1)) (run c p >>= λ x. Ok (inr x.0, x.1))
      (λ _. sure_map ts (rest ts p) (may_be_empty (a ⊕ c)) inl (run a p) (sure_weak ts (rest ts p) (may_be_empty a) (may_be_empty (a ⊕ c)) (run a p) (or_left_false _ _) (ih a p (and_left (fine a) _ fi) (omega arith))))
      (λ _. sure_map ts (rest ts p) (may_be_empty (a ⊕ c)) inr (run c p) (sure_weak ts (rest ts p) (may_be_empty c) (may_be_empty (a ⊕ c)) (run c p) (or_right_false _ _) (ih c p (and_right (fine a) _ fi) (omega arith))))
  sure_step (maybe a) p fi h =
      either_way (Sure ts (rest ts p) true) (sees ts p (firsts a)) (run a p >>= λ x. Ok (Some x.0, x.1)) (Ok (None, p))
      (λ _. sure_map ts (rest ts p) true Some (run a p) (sure_weak ts (rest ts p) (may_be_empty a) true (run a p) (λ e. absurd (cc)) (ih a p fi (omega arith))))
      (λ _. (omega arith, λ e. absurd (cc)))
  sure_step (many a) p fi h =
      let fa = and_left (fine a) _ fi in
      let f2 = and_right (fine a) _ fi in
      let m = not_true (may_be_empty a) (and_left (not (may_be_empty a)) _ f2) in
      let small = le_from (weight a) 400 (and_right (not (may_be_empty a)) _ f2) in
      either_way (Sure ts (rest ts p) true) (sees ts p (firsts a)) (run a p >>= λ x. run (many a) x.1 >>= λ y. Ok (x.0 ∷ y.0, y.1)) (Ok ([], p))
      (λ _. sure_then ts (rest ts p) (may_be_empty a) true true (run a p) _ (ih a p fa (omega arith))
      (λ x le lt. let l = lt m in sure_map ts (rest ts x.1) true (λ y. x.0 ∷ y) (run (many a) x.1) (ih (many a) x.1 fi (omega arith)))
      (λ e. absurd (cc)))
      (λ _. (omega arith, λ e. absurd (cc)))
  sure_step (after c a) p fi h =
      let fa = and_left (fine a) _ fi in
      let small = le_from (weight a) 500 (and_right (fine a) _ fi) in
      either_way (Sure ts (rest ts p) true) (sees ts p (c ∷ [])) _ (Ok (([], false), p))
      (λ _. sure_then ts (rest ts p) false true true (accept ts c p) _ (sure_accept ts c p)
      (λ x le lt. let l = lt refl in
      either_way (Sure ts (rest ts x.1) true) (sees ts x.1 (firsts a)) _ _
      (λ _. sure_then ts (rest ts x.1) (may_be_empty a) true true (run a x.1) _ (ih a x.1 fa (omega arith))
      (λ y le2 lt2. sure_map ts (rest ts y.1) true (λ z. (y.0 ∷ z.0, z.1)) (run (after c a) y.1) (ih (after c a) y.1 fi (omega arith)))
      (λ e. absurd (cc)))
      (λ _. (omega arith, λ e. absurd (cc))))
      (λ e. absurd (cc)))
      (λ _. (omega arith, λ e. absurd (cc)))
  sure_step (left e m) p fi h =
      let small = le_from (rank_expr e) 400 (rank_small (expr e)) in
      sure_then ts (rest ts p) false true false (run (g.sym (expr e)) p) _ (ih (g.sym (expr e)) p refl (omega arith))
      (λ x le lt. let l = lt refl in ih (grown m x.0) x.1 refl (omega arith)) (λ _. inl refl)
  sure_step (grown m v) p fi h =
      either_way (Sure ts (rest ts p) true) (sees ts p (starts_more m)) _ (Ok (v, p))
      (λ _. sure_then ts (rest ts p) false true true (run (g.sym (more m)) p) _ (ih (g.sym (more m)) p refl (omega arith))
      (λ x le lt. let l = lt refl in ih (grown m (grown_on keep m v x)) (behind_more m v x) refl (omega arith))
      (λ e. absurd (cc)))
      (λ _. (omega arith, λ e. absurd (cc)))

pub sure : (keep : Keep) (ts : List Token) (n : ℕ) (r : Part) (p : Place) → fine r ≡ true → rest ts p * 1000 + weight r < n → Sure ts (rest ts p) (may_be_empty r) (run keep ts n r p)
unfolding run
sure keep ts zero r p fi h = absurd (omega arith)
sure keep ts (suc n) r p fi h = sure_step keep ts n (run keep ts n) (sure keep ts n) r p fi (omega arith)

-- ---- more steps give the same

abbrev Less : {A : Type 0} → Outcome A → Outcome A → Type 0
Less o q = (o ≡ Err out) ⊎ (o ≡ q)

less_bind : {A C : Type 0} (o q : Outcome A) (f h : A × Place → Outcome C) → Less o q → ((x : A × Place) → Less (f x) (h x)) → Less (o >>= f) (q >>= h)
less_bind o q f h (inl e) k = inl (ap (λ t. t >>= f) e)
less_bind {A = A} o q f h (inr e) k = subst (λ t. Less t (q >>= h)) (sym (ap (λ t. t >>= f) e)) (go q)
  where
    go : (q : Outcome A) → Less (q >>= f) (q >>= h)
    go (Ok x) = k x
    go (Err s) = inr refl

less_if : {A : Type 0} (b : Bool) (x y u v : Outcome A) → Less x u → Less y v → Less (if b then x else y) (if b then u else v)
less_if true x y u v l m = l
less_if false x y u v l m = m

module _ (keep : Keep) (ts : List Token) (run more_run : Reader) (ih : (r : Part) (p : Place) → Less (run r p) (more_run r p)) where
  less_step : (r : Part) (p : Place) → Less (step keep ts run r p) (step keep ts more_run r p)
  less_step (tok c) p = inr refl
  less_step (g.sym s) p = less_bind _ _ _ _ (ih (rhs s) p) (λ x. inr refl)
  less_step (a · c) p = less_bind _ _ _ _ (ih a p) (λ x. less_bind _ _ _ _ (ih c x.1) (λ y. inr refl))
  less_step (a ⊕ c) p = less_if (sees ts p (firsts a)) _ _ _ _ (less_bind _ _ _ _ (ih a p) (λ x. inr refl)) (less_bind _ _ _ _ (ih c p) (λ x. inr refl))
  less_step (maybe a) p = less_if (sees ts p (firsts a)) _ _ _ _ (less_bind _ _ _ _ (ih a p) (λ x. inr refl)) (inr refl)
  less_step (many a) p = less_if (sees ts p (firsts a)) _ _ _ _ (less_bind _ _ _ _ (ih a p) (λ x. less_bind _ _ _ _ (ih (many a) x.1) (λ y. inr refl))) (inr refl)
  less_step (after c a) p =
      less_if (sees ts p (c ∷ [])) (accept ts c p >>= next run) (Ok (([], false), p)) (accept ts c p >>= next more_run) (Ok (([], false), p))
      (less_bind (accept ts c p) (accept ts c p) (next run) (next more_run) (inr refl) (λ x.
      less_if (sees ts x.1 (firsts a)) (run a x.1 >>= λ y. run (after c a) y.1 >>= λ z. Ok ((y.0 ∷ z.0.0, z.0.1), z.1)) (Ok (([], true), x.1)) (more_run a x.1 >>= λ y. more_run (after c a) y.1 >>= λ z. Ok ((y.0 ∷ z.0.0, z.0.1), z.1)) (Ok (([], true), x.1))
      (less_bind (run a x.1) (more_run a x.1) (λ y. run (after c a) y.1 >>= λ z. Ok ((y.0 ∷ z.0.0, z.0.1), z.1)) (λ y. more_run (after c a) y.1 >>= λ z. Ok ((y.0 ∷ z.0.0, z.0.1), z.1)) (ih a x.1)
      (λ y. less_bind (run (after c a) y.1) (more_run (after c a) y.1) (λ z. Ok ((y.0 ∷ z.0.0, z.0.1), z.1)) (λ z. Ok ((y.0 ∷ z.0.0, z.0.1), z.1)) (ih (after c a) y.1) (λ z. inr refl)))
      (inr refl)))
      (inr refl)
    where
      next : Reader → Token × Place → Outcome (List (Val a) × Bool)
      next run x =
          if sees ts x.1 (firsts a)
          then (run a x.1 >>= λ y. run (after c a) y.1 >>= λ z. Ok ((y.0 ∷ z.0.0, z.0.1), z.1))
          else Ok (([], true), x.1)
  less_step (left e m) p = less_bind _ _ _ _ (ih (g.sym (expr e)) p) (λ x. ih (grown m x.0) x.1)
  less_step (grown m v) p = less_if (sees ts p (starts_more m)) _ _ _ _ (less_bind _ _ _ _ (ih (g.sym (more m)) p) (λ x. ih (grown m (grown_on keep m v x)) (behind_more m v x))) (inr refl)

less : (keep : Keep) (ts : List Token) (n : ℕ) (r : Part) (p : Place) → Less (run keep ts n r p) (run keep ts (suc n) r p)
unfolding run
less keep ts zero r p = inl refl
less keep ts (suc n) r p = less_step keep ts (run keep ts n) (run keep ts (suc n)) (less keep ts n) r p

-- THE EQUATION of reading.
pub reads-eq : (ts : List Token) (r : Part) (p : Place) → fine r ≡ true → nat_le (weight r) 900 ≡ true → reads ts r p ≡ step keep_small ts (reads ts) r p
unfolding run reads
reads-eq ts r p fi small = at (less keep_small ts n r p)
  where
    n : ℕ
    n = (length ts + 1) * 1000

    at : Less (run keep_small ts n r p) (run keep_small ts (suc n) r p) → run keep_small ts n r p ≡ run keep_small ts (suc n) r p
    at (inl e) = let w = le_from (weight r) 900 small in
        let P : Outcome (Val r) → Type 0 = Sure ts (rest ts p) (may_be_empty r) in
        absurd (subst P e (sure keep_small ts n r p fi (omega arith)))
    at (inr e) = e
