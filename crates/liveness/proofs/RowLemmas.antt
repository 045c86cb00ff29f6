-- Marks of what is read again.
use Rattle.std.proofs.Common.{◌≡◌, ℕ, zero, suc, ◌<◌, ◌⊎◌, Bool, true, false, List, [], ◌∷◌, length, Some, refl, ap, ◌∙◌, inl, inr, ⊎_elim, arith}
use Rattle.std.specs.Prelude.{slice_get, not, ◌&&◌, ◌||◌, ◌↔◌}
use Rattle.std.specs.List.{list_any}
use Rattle.ir_core.specs.declared.code.Last.{Last}
use Rattle.liveness.specs.declared.step.Step.{Step}
use Rattle.liveness.specs.declared.step.Steps.{Steps}
use Rattle.liveness.specs.Paths.{is_among, is_target, reads_of_last, targets}
use Rattle.liveness.specs.Rows.{live_given, Live, reads_here, reads_last, goes_past, jumps_on, IsLiveRow}

pub or_cases : (a b : Bool) → (a || b) ≡ true → (a ≡ true) ⊎ ((a ≡ false) × (b ≡ true))
or_cases true b e = inl refl
or_cases false b e = inr (refl, e)

pub or_left : (a b : Bool) → a ≡ true → (a || b) ≡ true
or_left true b e = refl
or_left false b e = cc

pub or_right : (a b : Bool) → b ≡ true → (a || b) ≡ true
or_right true b e = refl
or_right false b e = e

pub not_and : (a b : Bool) → (not a && b) ≡ true → (a ≡ false) × (b ≡ true)
not_and true b e = cc
not_and false b e = (refl, e)

pub and_not : (a b : Bool) → a ≡ false → b ≡ true → (not a && b) ≡ true
and_not true b e f = cc
and_not false b e f = f

pub any_some : {A : Type 0} (f : A → Bool) (xs : List A) → list_any f xs ≡ true → (i : ℕ) × (x : A) × (slice_get xs i ≡ Some x) × (f x ≡ true)
any_some f [] e = cc
any_some f (x ∷ xs) e =
    ⊎_elim
    (λ a. (0, x, refl, a))
    (λ b. let r = any_some f xs b.1 in (suc r.0, r.1, r.2, r.3))
    (or_cases (f x) (list_any f xs) e)

pub some_any : {A : Type 0} (f : A → Bool) (xs : List A) (i : ℕ) (x : A) → slice_get xs i ≡ Some x → f x ≡ true → list_any f xs ≡ true
some_any f [] i x e h = cc
some_any f (y ∷ xs) zero x e h =
    let g : y ≡ x = cc in or_left (f y) (list_any f xs) (ap f g ∙ h)
some_any f (y ∷ xs) (suc i) x e h = or_right (f y) (list_any f xs) (some_any f xs i x e h)

pub there_is : {A : Type 0} (xs : List A) (i : ℕ) → i < length xs → (x : A) × (slice_get xs i ≡ Some x)
there_is [] i lt = absurd (omega (arith, lt))
there_is (x ∷ xs) zero lt = (x, refl)
there_is (x ∷ xs) (suc i) lt = there_is xs i (omega (arith, lt))

module _ (blocks : List Steps) (r : ℕ) (marked : ℕ → Bool) (exact : IsLiveRow blocks r marked) where
  -- what exact marks give has a path
  sound : (ss : List Step) (l : Last) → live_given ss l marked r ≡ true → Live blocks r ss l
  sound [] l e =
      ⊎_elim
      (λ a. reads_last l a)
      (λ b.
      let t = any_some marked (targets l) b.1 in
      let j = there_is blocks t.1 (exact.0 t.1 t.3) in
      jumps_on t.0 t.1 l j.0 t.2 j.1 ((exact.1 t.1 j.0 j.1).0 t.3))
      (or_cases (is_among (reads_of_last l) r) (list_any marked (targets l)) e)
  sound (s ∷ ss) l e =
      ⊎_elim
      (λ a. reads_here s ss l a)
      (λ b. let p = not_and (is_target s.write r) (live_given ss l marked r) b.1 in goes_past s ss l p.0 (sound ss l p.1))
      (or_cases (is_among s.reads r) _ e)

  -- and what has a path they give
  complete : (ss : List Step) (l : Last) → Live blocks r ss l → live_given ss l marked r ≡ true
  complete ss l (reads_here s xs k a) = or_left (is_among s.reads r) _ a
  complete ss l (reads_last k a) = or_left (is_among (reads_of_last l) r) _ a
  complete ss l (goes_past s xs k a p) =
      or_right (is_among s.reads r) _ (and_not (is_target s.write r) _ a (complete xs l p))
  complete ss l (jumps_on i t k j at is p) =
      or_right (is_among (reads_of_last l) r) _ (some_any marked (targets l) i t at ((exact.1 t j is).1 p))

  pub given_exact : (ss : List Step) (l : Last) → (live_given ss l marked r ≡ true) ↔ Live blocks r ss l
  given_exact ss l = (sound ss l, complete ss l)
