-- Functions in a row, of which each is related to the one at its place.
use Rattle.std.proofs.Common.{◌≡◌, refl, ap, ℕ, zero, suc, List, [], ◌∷◌, ◌++◌, length, Option, Some, None}
use Rattle.std.specs.Prelude.{slice_get}
use Rattle.ir_core.specs.declared.code.Func.{Func}
use Rattle.unset_tests.specs.Alike.{AreEach}

-- at each number stand two functions, or none
pub data Pair (R : Func → Func → Type 0) : Option Func → Option Func → Type 0 where
  neither : Pair R None None
  both : (f g : Func) → R f g → Pair R (Some f) (Some g)

module _ (R : Func → Func → Type 0) where
  pub each_more : (fs gs : List Func) (f g : Func) → AreEach R fs gs → R f g → AreEach R (fs ++ f ∷ []) (gs ++ g ∷ [])
  each_more [] [] f g all e = (e, tt)
  each_more [] (y ∷ gs) f g all e = absurd all
  each_more (x ∷ fs) [] f g all e = absurd all
  each_more (x ∷ fs) (y ∷ gs) f g all e = (all.0, each_more fs gs f g all.1 e)

  pub each_count : (fs gs : List Func) → AreEach R fs gs → length gs ≡ length fs
  each_count [] [] all = refl
  each_count [] (y ∷ gs) all = absurd all
  each_count (x ∷ fs) [] all = absurd all
  each_count (x ∷ fs) (y ∷ gs) all = ap suc (each_count fs gs all.1)

  pub each_at : (fs gs : List Func) → AreEach R fs gs → (n : ℕ) → Pair R (slice_get fs n) (slice_get gs n)
  each_at [] [] all n = neither
  each_at [] (y ∷ gs) all n = absurd all
  each_at (x ∷ fs) [] all n = absurd all
  each_at (x ∷ fs) (y ∷ gs) all zero = both x y all.0
  each_at (x ∷ fs) (y ∷ gs) all (suc n) = each_at fs gs all.1 n

  pub each_of : (S : Func → Func → Type 0) → ((f g : Func) → R f g → S f g) → (fs gs : List Func) → AreEach R fs gs → AreEach S fs gs
  each_of S h [] [] all = tt
  each_of S h [] (y ∷ gs) all = absurd all
  each_of S h (x ∷ fs) [] all = absurd all
  each_of S h (x ∷ fs) (y ∷ gs) all = (h x y all.0, each_of S h fs gs all.1)
