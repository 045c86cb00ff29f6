-- What is kept of an expression behind which a place is deep makes no difference to where reading goes and stops.
use Rattle.std.specs.Prelude.{slice_get}
use Rattle.std.proofs.Common.{◌≡◌, ℕ, zero, suc, ◌+◌, ◌-◌, Bool, true, false, not, ◌||◌, List, [], ◌∷◌, Option, Some, None, Ok, Err, if◌then◌else◌, inl, inr, refl, ◌∙◌, ap, subst}
use Rattle.py_syntax.specs.declared.token.Token.{Token}
use Rattle.py_parser_grammar.specs.declared.terminal.Terminal.{Terminal}
use Rattle.py_parser_grammar.specs.declared.place.Place.{Place}
use Rattle.py_parser_grammar.specs.Terminals.{terminal_of, same}
use Rattle.py_parser_grammar.specs.Levels.{Piece, shallow}
use Rattle.py_parser_grammar.specs.Grammar as g
use Rattle.py_parser_grammar.specs.Grammar.{ExprSym, More, Sym, expr, more, COMP_MORE, Part, tok, ◌·◌, ◌⊕◌, maybe, many, after, left, grown, rhs, ATOM}
use Rattle.py_parser_grammar.specs.Actions.{Val, Sem, act, grow}
use Rattle.py_parser_grammar.specs.Derivation.{admits}
use Rattle.py_parser_grammar.specs.Reader.{Outcome, ◌>>=◌, Stop, too_deep_at, out, keep_all, keep_small, close, Reader, step, run, accept, accept_one, sees, firsts, starts_more}
use Rattle.py_parser_grammar.proofs.Beginnings.{or_right}

-- Both stop at the same, or both read up to the same place, and the same where it is not deep. From a deep place on, places
-- are deep.
pub data Like {A : Type 0} (p : Place) : Outcome A → Outcome A → Type 0 where
  stopped : (e : Stop) → Like p (Err e) (Err e)
  read : (v w : A) (q : Place) → (q.deep ≡ false → v ≡ w) → (p.deep ≡ true → q.deep ≡ true) → Like p (Ok (v, q)) (Ok (w, q))

like_then : {A C : Type 0} (p : Place) {o q : Outcome A} (f h : A × Place → Outcome C) → Like p o q → ((v w : A) (r : Place) → (r.deep ≡ false → v ≡ w) → (p.deep ≡ true → r.deep ≡ true) → Like p (f (v, r)) (h (w, r))) → Like p (o >>= f) (q >>= h)
like_then p f h (stopped e) k = stopped e
like_then p f h (read v w r e s) k = k v w r e s

like_from : {A : Type 0} (p r : Place) {o q : Outcome A} → (p.deep ≡ true → r.deep ≡ true) → Like r o q → Like p o q
like_from p r s (stopped e) = stopped e
like_from p r s (read v w q e t) = read v w q e (λ d. t (s d))

like_if : {A : Type 0} (p : Place) (b : Bool) (x y u v : Outcome A) → Like p x u → Like p y v → Like p (if b then x else y) (if b then u else v)
like_if p true x y u v l m = l
like_if p false x y u v l m = m

not_deep : (a b : Bool) → (a ≡ true → b ≡ true) → b ≡ false → a ≡ false
not_deep true b f e = let t = f refl in absurd (cc)
not_deep false b f e = refl

like_map : {A C : Type 0} (p : Place) (h : A → C) {o q : Outcome A} → Like p o q → Like p (o >>= λ x. Ok (h x.0, x.1)) (q >>= λ x. Ok (h x.0, x.1))
like_map p h (stopped e) = stopped e
like_map p h (read v w q e s) = read (h v) (h w) q (λ d. ap h (e d)) s

-- one after the other
like_two : {A C D : Type 0} (p : Place) (h : A → C → D) {o q : Outcome A} (f g : Place → Outcome C) → Like p o q → ((r : Place) → Like r (f r) (g r)) → Like p (o >>= λ x. f x.1 >>= λ y. Ok (h x.0 y.0, y.1)) (q >>= λ x. g x.1 >>= λ y. Ok (h x.0 y.0, y.1))
like_two {A = A} {C = C} {D = D} p h f g (stopped e) k = stopped e
like_two {A = A} {C = C} {D = D} p h f g (read v w r e s) k = go (k r)
  where
    go : {a c : Outcome C} → Like r a c → Like p (a >>= λ y. Ok (h v y.0, y.1)) (c >>= λ y. Ok (h w y.0, y.1))
    go (stopped d) = stopped d
    go (read x y q d t) = read (h v x) (h w y) q (λ z. ap (λ l. h l x) (e (not_deep r.deep q.deep t z)) ∙ ap (λ l. h w l) (d z)) (λ z. t (s z))

like_same : {A : Type 0} (v : A) (p : Place) → Like p (Ok (v, p)) (Ok (v, p))
like_same v p = read v v p (λ e. refl) (λ e. e)

like_accept : (ts : List Token) (c : Terminal) (p : Place) → Like p (accept ts c p) (accept ts c p)
like_accept ts c p = go (slice_get ts p.at)
  where
    taken : (d : Bool) (t : Token) → d ≡ p.deep → Like p (if d then Err (too_deep_at (p.at - 1)) else Ok (t, record { at = p.at + 1; deep = false })) (if d then Err (too_deep_at (p.at - 1)) else Ok (t, record { at = p.at + 1; deep = false }))
    taken true t e = stopped (too_deep_at (p.at - 1))
    taken false t e = read t t (record { at = p.at + 1; deep = false }) (λ x. refl) (λ x. absurd (cc))

    go : (o : Option Token) → Like p (accept_one o c p) (accept_one o c p)
    go None = stopped _
    go (Some t) = like_if p (same (terminal_of t.kind) c) _ _ _ _ (taken p.deep t refl) (stopped _)

small_is : (x : Sym) (d : Bool) (v : Sem x) → d ≡ false → keep_small x d v ≡ v
small_is (expr e) true v h = absurd (cc)
small_is (expr e) false v h = refl
small_is (more m) d v h = refl
small_is COMP_MORE d v h = refl
small_is _ d v h = refl

abbrev place : ℕ → Bool → Place
place i d = record { at = i; deep = d }

like_close : (x : Sym) (v w : Sem x) (p : Place) → (p.deep ≡ false → v ≡ w) → Like p (close keep_small x v p) (close keep_all x w p)
like_close x v w p = go p.deep
  where
    deep_by : Sem x → Bool
    deep_by u = not (admits shallow x u) || false

    here : (u : Sem x) → Like (place p.at false) (close keep_small x u (place p.at false)) (close keep_all x u (place p.at false))
    here u = read (keep_small x (deep_by u) u) u (place p.at (deep_by u)) (λ d. small_is x (deep_by u) u d) (λ d. absurd (cc))

    there : (d e : Bool) → d ≡ true → e ≡ true → Like (place p.at true) (Ok (keep_small x d v, place p.at d)) (Ok (w, place p.at e))
    there true true f g = read (keep_small x true v) w (place p.at true) (λ d. absurd (cc)) (λ d. refl)
    there true false f g = absurd (cc)
    there false e f g = absurd (cc)

    go : (d : Bool) → (d ≡ false → v ≡ w) → Like (place p.at d) (close keep_small x v (place p.at d)) (close keep_all x w (place p.at d))
    go true e = there (not (admits shallow x v) || true) (not (admits shallow x w) || true) (or_right _ true refl) (or_right _ true refl)
    go false e = subst (λ u. Like (place p.at false) (close keep_small x v (place p.at false)) (close keep_all x u (place p.at false))) (e refl) (here v)

module _ (ts : List Token) (small all : Reader)
    (ih : (r : Part) (p : Place) → Like p (small r p) (all r p))
    (ih_grown : (m : More) (v w : Piece) (p : Place) → (p.deep ≡ false → v ≡ w) → Like p (small (grown m v) p) (all (grown m w) p)) where
  like_next : (c : Terminal) (a : Part) (x : Token) (p : Place) → Like {A = List (Val a) × Bool} p
      (if sees ts p (firsts a) then (small a p >>= λ y. small (after c a) y.1 >>= λ z. Ok ((y.0 ∷ z.0.0, z.0.1), z.1)) else Ok (([], true), p))
      (if sees ts p (firsts a) then (all a p >>= λ y. all (after c a) y.1 >>= λ z. Ok ((y.0 ∷ z.0.0, z.0.1), z.1)) else Ok (([], true), p))
  like_next c a x p =
      like_if p (sees ts p (firsts a)) _ _ _ _ (like_two p (λ v vs. (v ∷ vs.0, vs.1)) (small (after c a)) (all (after c a)) (ih a p) (ih (after c a))) (like_same ([], true) p)

  like_grown : (m : More) (v w : Piece) (p : Place) → (p.deep ≡ false → v ≡ w) → Like p (step keep_small ts small (grown m v) p) (step keep_all ts all (grown m w) p)
  like_grown m v w p e =
      like_if p (sees ts p (starts_more m)) _ _ _ _
      (like_then p _ _ (ih (g.sym (more m)) p) (λ x y r d s. like_from p r s
      (like_then r (λ u. small (grown m u.0) u.1) (λ u. all (grown m u.0) u.1) (like_close (expr ATOM) (grow m v x) (grow m w y) r (λ z. ap (λ u. grow m u x) (e (not_deep p.deep r.deep s z)) ∙ ap (grow m w) (d z)))
      (λ t u q f k. like_from r q k (ih_grown m t u q f)))))
      (read v w p e (λ d. d))

  like_step : (r : Part) (p : Place) → Like p (step keep_small ts small r p) (step keep_all ts all r p)
  like_step (tok c) p = like_accept ts c p
  like_step (g.sym x) p = like_then p _ _ (ih (rhs x) p) (λ v w r e s. like_from p r s (like_close x (act x v) (act x w) r (λ d. ap (act x) (e d))))
  like_step (a · c) p = like_two p (λ v w. (v, w)) (small c) (all c) (ih a p) (ih c)
  like_step (a ⊕ c) p = like_if p (sees ts p (firsts a)) _ _ _ _ (like_map p inl (ih a p)) (like_map p inr (ih c p))
  like_step (maybe a) p = like_if p (sees ts p (firsts a)) _ _ _ _ (like_map p Some (ih a p)) (like_same None p)
  like_step (many a) p = like_if p (sees ts p (firsts a)) _ _ _ _ (like_two p (λ v vs. v ∷ vs) (small (many a)) (all (many a)) (ih a p) (ih (many a))) (like_same [] p)
  like_step (after c a) p =
      like_if p (sees ts p (c ∷ [])) _ _ _ _
      (like_then p _ _ (like_accept ts c p) (λ v w r e s. like_from p r s (like_next c a v r)))
      (like_same ([], false) p)
  like_step (left e m) p = like_then p _ _ (ih (g.sym (expr e)) p) (λ v w r d s. like_from p r s (ih_grown m v w r d))
  like_step (grown m v) p = like_grown m v v p (λ d. refl)

mutual
  unfolding run

  pub like : (ts : List Token) (n : ℕ) (r : Part) (p : Place) → Like p (run keep_small ts n r p) (run keep_all ts n r p)
  like ts zero r p = stopped out
  like ts (suc n) r p = like_step ts (run keep_small ts n) (run keep_all ts n) (like ts n) (like_more ts n) r p

  pub like_more : (ts : List Token) (n : ℕ) (m : More) (v w : Piece) (p : Place) → (p.deep ≡ false → v ≡ w) → Like p (run keep_small ts n (grown m v) p) (run keep_all ts n (grown m w) p)
  like_more ts zero m v w p e = stopped out
  like_more ts (suc n) m v w p e = like_grown ts (run keep_small ts n) (run keep_all ts n) (like ts n) (like_more ts n) m v w p e
