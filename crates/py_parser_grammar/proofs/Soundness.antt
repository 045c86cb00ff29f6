-- What was read is derived, and what was read up to a fault is a front.
use Rattle.std.proofs.Common.{◌≡◌, ℕ, zero, suc, ◌+◌, ◌-◌, ◌≤◌, ◌<◌, Bool, true, false, not, ◌||◌, List, [], ◌∷◌, Option, Some, None, Ok, Err, if◌then◌else◌, inl, inr, refl, sym, ◌∙◌, subst, arith, ◌⊎◌}
use Rattle.py_syntax.specs.declared.token.Token.{Token}
use Rattle.py_parser_grammar.specs.declared.terminal.Terminal.{Terminal}
use Rattle.py_parser_grammar.specs.declared.place.Place.{Place}
use Rattle.py_parser_grammar.specs.Terminals.{terminal_of, same, next_left_out}
use Rattle.py_parser_grammar.specs.Levels.{Piece, Limit, free, shallow}
use Rattle.py_parser_grammar.specs.Grammar as g
use Rattle.py_parser_grammar.specs.Grammar.{ExprSym, More, Sym, expr, more, Part, tok, ◌·◌, ◌⊕◌, maybe, many, after, left, grown, rhs, ATOM, MODULE}
use Rattle.py_parser_grammar.specs.Actions.{Val, Sem, SemMore, act, grow}
use Rattle.py_parser_grammar.specs.Derivation.{admits, Derives, one, by_rule, both, first, other, absent, present, no_more, again, ends, trails, goes_on, from_left, full, grows, Front, empty, whole, of_rule, in_first, in_second, of_first, of_other, of_maybe, in_one, in_more, in_item, in_items, in_left, behind_left, in_growth, behind_growth}
use Rattle.py_parser_grammar.specs.Reader.{Outcome, ◌>>=◌, Stop, syntax_at, profile_at, too_deep_at, out, keep_all, Reader, step, run, accept, accept_one, take_it, refusal, sees, firsts, starts_more, mark}
use Rattle.std.specs.Prelude.{slice_get, IsTrue}
use Rattle.py_parser_grammar.proofs.Beginnings.{true_or_false, derives_begins}
use Rattle.py_parser_grammar.proofs.Checks.{solid}
use Rattle.py_parser_grammar.proofs.Progress.{either_way}

-- What was read of a part from place p up to place q: it is derived, and with the test on levels too where q is not deep; up
-- to q there is a front with the test. From a deep place on no token is taken.
pub record SoundRead (ts : List Token) (r : Part) (p : Place) (v : Val r) (q : Place) : Type 0 where
  pub anyhow : Derives free ts r p.at q.at v
  pub tight : p.deep ≡ false → q.deep ≡ false → Derives shallow ts r p.at q.at v
  pub front : p.deep ≡ false → Front shallow ts q.at r p.at
  pub stuck : p.deep ≡ true → (q.at ≡ p.at) × (q.deep ≡ true)
  pub moved : p.deep ≡ false → q.deep ≡ true → p.at < q.at

-- what was read up to a fault at j is a front
pub record SoundAt (ts : List Token) (r : Part) (p : Place) (j : ℕ) : Type 0 where
  pub front : p.deep ≡ false → Front shallow ts j r p.at
  pub stuck : p.deep ≡ true → j ≡ p.at

-- the token behind the expression of level above 100 goes on with the front, without the test
pub record SoundDeep (ts : List Token) (r : Part) (p : Place) (j : ℕ) : Type 0 where
  pub behind : ℕ
  pub last : j ≡ behind - 1
  pub some : p.deep ≡ false → p.at < behind
  pub anyhow : Front free ts (behind + 1) r p.at
  pub at : SoundAt ts r p behind

abbrev pub SoundStop : List Token → Part → Place → Stop → Type 0
SoundStop ts r p (syntax_at j) = SoundAt ts r p j
SoundStop ts r p (profile_at j) = SoundAt ts r p j
SoundStop ts r p (too_deep_at j) = SoundDeep ts r p j
SoundStop ts r p out = Unit {0}

abbrev pub Sound : List Token → (r : Part) → Place → Outcome (Val r) → Type 0
Sound ts r p (Ok x) = SoundRead ts r p x.0 x.1
Sound ts r p (Err e) = SoundStop ts r p e

sound_stop : (ts : List Token) (a r : Part) (p : Place) (e : Stop) → ((lim : Limit) (n : ℕ) → Front lim ts n a p.at → Front lim ts n r p.at) → SoundStop ts a p e → SoundStop ts r p e
sound_stop ts a r p (syntax_at j) f w = record { front = λ d. f shallow j (w.front d); stuck = w.stuck }
sound_stop ts a r p (profile_at j) f w = record { front = λ d. f shallow j (w.front d); stuck = w.stuck }
sound_stop ts a r p (too_deep_at j) f w = record { behind = w.behind; last = w.last; some = w.some; anyhow = f free (w.behind + 1) w.anyhow; at = record { front = λ d. f shallow w.behind (w.at.front d); stuck = w.at.stuck } }
sound_stop ts a r p out f w = tt

sound_map : (ts : List Token) (a r : Part) (h : Val a → Val r) (p : Place) (o : Outcome (Val a))
    → ((lim : Limit) (j : ℕ) (v : Val a) → Derives lim ts a p.at j v → Derives lim ts r p.at j (h v))
    → ((lim : Limit) (n : ℕ) → Front lim ts n a p.at → Front lim ts n r p.at)
    → Sound ts a p o → Sound ts r p (o >>= λ x. Ok (h x.0, x.1))
sound_map ts a r h p (Ok x) d f w = record { anyhow = d free x.1.at x.0 w.anyhow; tight = λ y z. d shallow x.1.at x.0 (w.tight y z); front = λ y. f shallow x.1.at (w.front y); stuck = w.stuck; moved = w.moved }
sound_map ts a r h p (Err e) d f w = sound_stop ts a r p e f w

-- a second part behind a first that was read: of the first, D says that it was derived
module _ (ts : List Token) (c r : Part) (p q : Place) (D : Limit → Type 0)
    (anyhow : D free) (tight : p.deep ≡ false → q.deep ≡ false → D shallow) (front : p.deep ≡ false → Front shallow ts q.at r p.at) (stuck : p.deep ≡ true → (q.at ≡ p.at) × (q.deep ≡ true)) (le : p.at ≤ q.at) (moved : p.deep ≡ false → q.deep ≡ true → p.at < q.at)
    (f2 : (lim : Limit) (n : ℕ) → D lim → Front lim ts n c q.at → Front lim ts n r p.at) where
  joined_front : (j : ℕ) → SoundAt ts c q j → p.deep ≡ false → Front shallow ts j r p.at
  joined_front j w d = at (true_or_false q.deep)
    where
      at : (q.deep ≡ true) ⊎ (q.deep ≡ false) → Front shallow ts j r p.at
      at (inl e) = let P : ℕ → Type 0 = λ n. Front shallow ts n r p.at in subst P (sym (w.stuck e)) (front d)
      at (inr e) = f2 shallow j (tight d e) (w.front e)

  joined_at : (j : ℕ) → SoundAt ts c q j → SoundAt ts r p j
  joined_at j w = record { front = joined_front j w; stuck = λ d. let s = stuck d in w.stuck s.1 ∙ s.0 }

  joined_some : (w : ℕ) → SoundAt ts c q w → (q.deep ≡ false → q.at < w) → p.deep ≡ false → p.at < w
  joined_some w here some e = at (true_or_false q.deep)
    where
      at : (q.deep ≡ true) ⊎ (q.deep ≡ false) → p.at < w
      at (inl d) = omega (arith, here.stuck d, moved e d)
      at (inr d) = omega (arith, le, some d)

  pub joined_stop : (e : Stop) → SoundStop ts c q e → SoundStop ts r p e
  joined_stop (syntax_at j) w = joined_at j w
  joined_stop (profile_at j) w = joined_at j w
  joined_stop (too_deep_at j) w = record { behind = w.behind; last = w.last; some = joined_some w.behind w.at w.some; anyhow = f2 free (w.behind + 1) anyhow w.anyhow; at = joined_at w.behind w.at }
  joined_stop out w = tt

  pub joined : (h : Val c → Val r) → ((lim : Limit) (k : ℕ) (w : Val c) → D lim → Derives lim ts c q.at k w → Derives lim ts r p.at k (h w)) → (o : Outcome (Val c)) → Sound ts c q o → Sound ts r p (o >>= λ y. Ok (h y.0, y.1))
  joined h d (Ok y) w = record {
    anyhow = d free y.1.at y.0 anyhow w.anyhow;
    tight = λ e f. both_tight e f (true_or_false q.deep);
    front = λ e. joined_front y.1.at (record { front = w.front; stuck = λ z. (w.stuck z).0 }) e;
    stuck = λ e. let s = stuck e in let t = w.stuck s.1 in (t.0 ∙ s.0, t.1);
    moved = λ e f. joined_moved e f (true_or_false q.deep);
  }
    where
      joined_moved : p.deep ≡ false → y.1.deep ≡ true → (q.deep ≡ true) ⊎ (q.deep ≡ false) → p.at < y.1.at
      joined_moved e f (inl d) = let on = (derives_begins free ts w.anyhow).le in omega (arith, moved e d)
      joined_moved e f (inr d) = omega (arith, le, w.moved d f)

      both_tight : p.deep ≡ false → y.1.deep ≡ false → (q.deep ≡ true) ⊎ (q.deep ≡ false) → Derives shallow ts r p.at y.1.at (h y.0)
      both_tight e f (inl z) = let t = w.stuck z in let l = t.1 in absurd (cc)
      both_tight e f (inr z) = d shallow y.1.at y.0 (tight e z) (w.tight z f)
  joined h d (Err e) w = joined_stop e w

-- ---- one token

sound_accept : (ts : List Token) (c : Terminal) (p : Place) → Sound ts (tok c) p (accept ts c p)
sound_accept ts c p = go (slice_get ts p.at) refl
  where
    here : SoundAt ts (tok c) p p.at
    here = record { front = λ d. empty (tok c); stuck = λ d. refl }

    refused : (o : Option Token) → SoundStop ts (tok c) p (refusal o p.at)
    refused o = either_way (SoundStop ts (tok c) p) (next_left_out o) (profile_at p.at) (syntax_at p.at) (λ _. here) (λ _. here)

    go : (o : Option Token) → slice_get ts p.at ≡ o → Sound ts (tok c) p (accept_one o c p)
    go None e = here
    go (Some t) e =
        either_way (Sound ts (tok c) p) (same (terminal_of t.kind) c) (take_it t p) (Err (refusal (Some t) p.at))
        (λ y. either_way (Sound ts (tok c) p) p.deep (Err (too_deep_at (p.at - 1))) (Ok (t, record { at = p.at + 1; deep = false }))
        (λ d. record { behind = p.at; last = refl; some = λ f. absurd (cc); anyhow = whole (tok c) p.at t (one c p.at t e y); at = here })
        (λ d. record { anyhow = one c p.at t e y; tight = λ _ _. one c p.at t e y; front = λ _. whole (tok c) p.at t (one c p.at t e y); stuck = λ f. absurd (cc); moved = λ f h. absurd (cc) }))
        (λ y. refused (Some t))

deep_false : (c d : Bool) → (not c || d) ≡ false → d ≡ false
deep_false true d e = e
deep_false false d e = absurd (cc)

not_false : (c d : Bool) → (not c || d) ≡ false → IsTrue c
not_false true d e = refl
not_false false d e = absurd (cc)

or_true : (c d : Bool) → d ≡ true → (not c || d) ≡ true
or_true true d e = e
or_true false d e = refl

admits_free : (s : Sym) (v : Sem s) → IsTrue (admits free s v)
admits_free (expr e) v = refl
admits_free _ v = refl

abbrev pair_up : {A B : Type 0} → A → B × Place → Outcome (A × B)
pair_up x y = Ok ((x, y.0), y.1)

abbrev consed : {A : Type 0} → (A × (List A × Bool)) × Place → Outcome (List A × Bool)
consed u = Ok ((u.0.0 ∷ u.0.1.0, u.0.1.1), u.1)

abbrev cons_to : {A : Type 0} → A → (List A × Bool) × Place → Outcome (List A × Bool)
cons_to y z = Ok ((y ∷ z.0.0, z.0.1), z.1)

nothing_read : (ts : List Token) (r : Part) (p : Place) (v : Val r) → ((lim : Limit) → Derives lim ts r p.at p.at v) → SoundRead ts r p v p
nothing_read ts r p v d = record { anyhow = d free; tight = λ _ _. d shallow; front = λ _. empty r; stuck = λ e. (refl, e); moved = λ e f. absurd (cc) }

same_bind : {A : Type 0} (o : Outcome A) → (o >>= λ y. Ok (y.0, y.1)) ≡ o
same_bind (Ok x) = refl
same_bind (Err e) = refl

module _ (ts : List Token) (run : Reader) (ih : (r : Part) (p : Place) → Sound ts r p (run r p)) where
  sound_two : (a c r : Part) (h : Val a → Val c → Val r) (p : Place)
      → ((lim : Limit) (i j l : ℕ) (v : Val a) (w : Val c) → Derives lim ts a i j v → Derives lim ts c j l w → Derives lim ts r i l (h v w))
      → ((lim : Limit) (n i : ℕ) → Front lim ts n a i → Front lim ts n r i)
      → ((lim : Limit) (n i j : ℕ) (v : Val a) → Derives lim ts a i j v → Front lim ts n c j → Front lim ts n r i)
      → Sound ts r p (run a p >>= λ x. run c x.1 >>= λ y. Ok (h x.0 y.0, y.1))
  sound_two a c r h p d f1 f2 = go (run a p) (ih a p)
    where
      go : (o : Outcome (Val a)) → Sound ts a p o → Sound ts r p (o >>= λ x. run c x.1 >>= λ y. Ok (h x.0 y.0, y.1))
      go (Ok x) w =
          joined ts c r p x.1 (λ lim. Derives lim ts a p.at x.1.at x.0) w.anyhow w.tight (λ e. f1 shallow x.1.at p.at (w.front e)) w.stuck (derives_begins free ts w.anyhow).le w.moved (λ lim n. f2 lim n p.at x.1.at x.0)
          (h x.0) (λ lim l u. d lim p.at x.1.at l x.0 u) (run c x.1) (ih c x.1)
      go (Err e) w = sound_stop ts a r p e (λ lim n. f1 lim n p.at) w

  sound_sym : (s : Sym) (p : Place) (o : Outcome (Val (rhs s))) → Sound ts (rhs s) p o → Sound ts (g.sym s) p (o >>= λ x. Ok (act s x.0, mark (admits shallow s (act s x.0)) x.1))
  sound_sym s p (Ok x) w = record {
    anyhow = by_rule s p.at x.1.at x.0 w.anyhow (admits_free s (act s x.0));
    tight = λ e f. by_rule s p.at x.1.at x.0 (w.tight e (deep_false _ x.1.deep f)) (not_false (admits shallow s (act s x.0)) x.1.deep f);
    front = λ e. of_rule s p.at (w.front e);
    stuck = λ e. let t = w.stuck e in (t.0, or_true _ x.1.deep t.1);
    moved = λ e f. (derives_begins free ts w.anyhow).solid (solid s);
  }
  sound_sym s p (Err e) w = sound_stop ts (rhs s) (g.sym s) p e (λ lim n. of_rule s p.at) w

  tok_front : (lim : Limit) (n : ℕ) (c : Terminal) (a : Part) {i : ℕ} → Front lim ts n (tok c) i → Front lim ts n (after c a) i
  tok_front lim n c a (empty _) = empty (after c a)
  tok_front lim n c a (whole _ i v d) = whole (after c a) i ([], true) (trails c a i n v d)

  pair_front : (lim : Limit) (n : ℕ) (c : Terminal) (a : Part) (i : ℕ) (t : Token) {j : ℕ} → Derives lim ts (tok c) i j t → Front lim ts n (a · after c a) j → Front lim ts n (after c a) i
  pair_front lim n c a i t d (empty _) = whole (after c a) i ([], true) (trails c a i n t d)
  pair_front lim n c a i t d (whole _ j v e) = by_pair e
    where
      by_pair : {v : Val a × (List (Val a) × Bool)} → Derives lim ts (a · after c a) j n v → Front lim ts n (after c a) i
      by_pair (both _ _ _ l _ v vs e f) = whole (after c a) i (v ∷ vs.0, vs.1) (goes_on c a i j l n t v vs d e f)
  pair_front lim n c a i t d (in_first _ _ j f) = in_item c a i j t d f
  pair_front lim n c a i t d (in_second _ _ j l v e f) = in_items c a i j l t v d e f

  pair_derives : (lim : Limit) (c : Terminal) (a : Part) (i : ℕ) (t : Token) {j l : ℕ} {v : Val a × (List (Val a) × Bool)} → Derives lim ts (tok c) i j t → Derives lim ts (a · after c a) j l v → Derives lim ts (after c a) i l (v.0 ∷ v.1.0, v.1.1)
  pair_derives lim c a i t d (both _ _ j m l v vs e f) = goes_on c a i j m l t v vs d e f

  sound_after : (c : Terminal) (a : Part) (p : Place) (o : Outcome Token) → Sound ts (tok c) p o
      → Sound ts (after c a) p (o >>= λ x. if sees ts x.1 (firsts a) then (run a x.1 >>= λ y. run (after c a) y.1 >>= λ z. Ok ((y.0 ∷ z.0.0, z.0.1), z.1)) else Ok (([], true), x.1))
  sound_after c a p (Ok x) w =
      either_way (Sound ts (after c a) p) (sees ts x.1 (firsts a)) (run a x.1 >>= λ y. run (after c a) y.1 >>= λ z. Ok ((y.0 ∷ z.0.0, z.0.1), z.1)) (Ok (([], true), x.1))
      (λ _. subst (Sound ts (after c a) p) (flat (run a x.1) (λ q. run (after c a) q))
      (joined ts (a · after c a) (after c a) p x.1 (λ lim. Derives lim ts (tok c) p.at x.1.at x.0) w.anyhow w.tight (λ e. tok_front shallow x.1.at c a (w.front e)) w.stuck (derives_begins free ts w.anyhow).le w.moved (λ lim n d f. pair_front lim n c a p.at x.0 d f)
      (λ v. (v.0 ∷ v.1.0, v.1.1)) (λ lim l u d e. pair_derives lim c a p.at x.0 d e) (run a x.1 >>= λ y. run (after c a) y.1 >>= pair_up y.0)
      (sound_two a (after c a) (a · after c a) (λ v w. (v, w)) x.1 (λ lim i j l v w d e. both a (after c a) i j l v w d e) (λ lim n i f. in_first a (after c a) i f) (λ lim n i j v d f. in_second a (after c a) i j v d f))))
      (λ _. record {
        anyhow = trails c a p.at x.1.at x.0 w.anyhow;
        tight = λ e f. trails c a p.at x.1.at x.0 (w.tight e f);
        front = λ e. tok_front shallow x.1.at c a (w.front e);
        stuck = w.stuck;
        moved = w.moved;
      })
    where
      flat : (o : Outcome (Val a)) (q : Place → Outcome (List (Val a) × Bool))
          → ((o >>= λ y. q y.1 >>= pair_up y.0) >>= consed) ≡ (o >>= λ y. q y.1 >>= cons_to y.0)
      flat (Ok y) q = inner (q y.1)
        where
          inner : (o : Outcome (List (Val a) × Bool)) → ((o >>= pair_up y.0) >>= consed) ≡ (o >>= cons_to y.0)
          inner (Ok z) = refl
          inner (Err e) = refl
      flat (Err e) q = refl
  sound_after c a p (Err e) w = sound_stop ts (tok c) (after c a) p e (λ lim n f. tok_front lim n c a f) w

  sound_left : (e : ExprSym) (m : More) (p : Place) (o : Outcome Piece) → Sound ts (g.sym (expr e)) p o → Sound ts (left e m) p (o >>= λ x. run (grown m x.0) x.1)
  sound_left e m p (Ok x) w =
      subst (Sound ts (left e m) p) (same_bind (run (grown m x.0) x.1))
      (joined ts (grown m x.0) (left e m) p x.1 (λ lim. Derives lim ts (g.sym (expr e)) p.at x.1.at x.0) w.anyhow w.tight (λ d. in_left e m p.at (w.front d)) w.stuck (derives_begins free ts w.anyhow).le w.moved (λ lim n d f. behind_left e m p.at x.1.at x.0 d f)
      (λ u. u) (λ lim l u d f. from_left e m p.at x.1.at l x.0 u d f) (run (grown m x.0) x.1) (ih (grown m x.0) x.1))
  sound_left e m p (Err q) w = sound_stop ts (g.sym (expr e)) (left e m) p q (λ lim n f. in_left e m p.at f) w

  sound_grown : (m : More) (v : Piece) (p : Place) (o : Outcome (SemMore m)) → Sound ts (g.sym (more m)) p o → Sound ts (grown m v) p (o >>= λ x. run (grown m (grow m v x.0)) (mark (shallow (grow m v x.0).tree) x.1))
  sound_grown m v p (Ok x) w =
      let t : Piece = grow m v x.0 in
      subst (Sound ts (grown m v) p) (same_bind (run (grown m (grow m v x.0)) (mark (shallow (grow m v x.0).tree) x.1)))
      (joined ts (grown m (grow m v x.0)) (grown m v) p (mark (shallow (grow m v x.0).tree) x.1) (λ lim. Derives lim ts (g.sym (more m)) p.at x.1.at x.0 × IsTrue (lim (grow m v x.0).tree))
      (w.anyhow, refl) (λ d f. (w.tight d (deep_false _ x.1.deep f), not_false (shallow (grow m v x.0).tree) x.1.deep f)) (λ d. in_growth m v p.at (w.front d)) (λ d. let s = w.stuck d in (s.0, or_true _ x.1.deep s.1))
      (derives_begins free ts w.anyhow).le (λ d f. (derives_begins free ts w.anyhow).solid refl)
      (λ lim n d f. behind_growth m v p.at x.1.at x.0 d.0 d.1 f)
      (λ u. u) (λ lim l u d f. grows m v u p.at x.1.at l x.0 d.0 d.1 f) (run (grown m (grow m v x.0)) (mark (shallow (grow m v x.0).tree) x.1)) (ih (grown m (grow m v x.0)) (mark (shallow (grow m v x.0).tree) x.1)))
  sound_grown m v p (Err q) w = sound_stop ts (g.sym (more m)) (grown m v) p q (λ lim n f. in_growth m v p.at f) w

  pub sound_step : (r : Part) (p : Place) → Sound ts r p (step keep_all ts run r p)
  sound_step (tok c) p = sound_accept ts c p
  sound_step (g.sym s) p = sound_sym s p (run (rhs s) p) (ih (rhs s) p)
  sound_step (a · c) p = sound_two a c (a · c) (λ v w. (v, w)) p (λ lim i j l v w d e. both a c i j l v w d e) (λ lim n i f. in_first a c i f) (λ lim n i j v d f. in_second a c i j v d f)
  sound_step (a ⊕ c) p =
      either_way (Sound ts (a ⊕ c) p) (sees ts p (firsts a)) (run a p >>= λ x. Ok (inl x.0, x.1)) (run c p >>= λ x. Ok (inr x.0, x.1))
      (λ _. sound_map ts a (a ⊕ c) inl p (run a p) (λ lim j v d. first a c p.at j v d) (λ lim n f. of_first a c p.at f) (ih a p))
      (λ _. sound_map ts c (a ⊕ c) inr p (run c p) (λ lim j v d. other a c p.at j v d) (λ lim n f. of_other a c p.at f) (ih c p))
  sound_step (maybe a) p =
      either_way (Sound ts (maybe a) p) (sees ts p (firsts a)) (run a p >>= λ x. Ok (Some x.0, x.1)) (Ok (None, p))
      (λ _. sound_map ts a (maybe a) Some p (run a p) (λ lim j v d. present a p.at j v d) (λ lim n f. of_maybe a p.at f) (ih a p))
      (λ _. nothing_read ts (maybe a) p None (λ lim. absent a p.at))
  sound_step (many a) p =
      either_way (Sound ts (many a) p) (sees ts p (firsts a)) (run a p >>= λ x. run (many a) x.1 >>= λ y. Ok (x.0 ∷ y.0, y.1)) (Ok ([], p))
      (λ _. sound_two a (many a) (many a) (λ v vs. v ∷ vs) p (λ lim i j l v w d e. again a i j l v w d e) (λ lim n i f. in_one a i f) (λ lim n i j v d f. in_more a i j v d f))
      (λ _. nothing_read ts (many a) p [] (λ lim. no_more a p.at))
  sound_step (after c a) p =
      either_way (Sound ts (after c a) p) (sees ts p (c ∷ [])) _ (Ok (([], false), p))
      (λ _. sound_after c a p (accept ts c p) (sound_accept ts c p))
      (λ _. nothing_read ts (after c a) p ([], false) (λ lim. ends c a p.at))
  sound_step (left e m) p = sound_left e m p (run (g.sym (expr e)) p) (ih (g.sym (expr e)) p)
  sound_step (grown m v) p =
      either_way (Sound ts (grown m v) p) (sees ts p (starts_more m)) (run (g.sym (more m)) p >>= λ x. run (grown m (grow m v x.0)) (mark (shallow (grow m v x.0).tree) x.1)) (Ok (v, p))
      (λ _. sound_grown m v p (run (g.sym (more m)) p) (ih (g.sym (more m)) p))
      (λ _. nothing_read ts (grown m v) p v (λ lim. full m v p.at))

-- THE THEOREM, the other direction: what was read is derived, and what was read up to a fault is a front.
pub sound : (ts : List Token) (n : ℕ) (r : Part) (p : Place) → Sound ts r p (run keep_all ts n r p)
unfolding run
sound ts zero r p = tt
sound ts (suc n) r p = sound_step ts (run keep_all ts n) (sound ts n) r p
