-- What the small changes of cells leave of counts and holders.
use Rattle.std.proofs.Common.{◌≡◌, ℕ, zero, suc, ◌+◌, ◌≤◌, List, [], ◌∷◌, length, Some, None, refl, ap, arith}
use Rattle.c_core.specs.Cells.{Cells, same, times, count_at, content_at, take_one, refill, make}
use Rattle.c_core.specs.Release.{uses}

pub same_one : (d c n : ℕ) → same d c ≡ suc n → d ≡ c
same_one zero zero n e = refl
same_one zero (suc c) n e = absurd (omega arith)
same_one (suc d) zero n e = absurd (omega arith)
same_one (suc d) (suc c) n e = ap suc (same_one d c n e)

pub same_self : (c : ℕ) → same c c ≡ 1
same_self zero = refl
same_self (suc c) = same_self c

module _ {X : Type 0} where
  pub count-take_one : (h : Cells X) (c d : ℕ) (v : X) → content_at h c ≡ Some v → count_at (take_one c h) d ≡ same c d + count_at h d
  count-take_one [] c d v e = cc
  count-take_one (None ∷ h) zero d v e = cc
  count-take_one (Some cell ∷ h) zero zero v e = omega arith
  count-take_one (Some cell ∷ h) zero (suc d) v e = omega arith
  count-take_one (o ∷ h) (suc c) zero v e = omega arith
  count-take_one (o ∷ h) (suc c) (suc d) v e = count-take_one h c d v e

  pub count-make : (h : Cells X) (d : ℕ) (x : X) → count_at (make x h) d ≡ count_at h d + same (length h) d
  count-make [] zero x = omega arith
  count-make [] (suc d) x = omega arith
  count-make (o ∷ h) zero x = omega arith
  count-make (o ∷ h) (suc d) x = count-make h d x

  pub count-refill : (h : Cells X) (c d : ℕ) (x : X) → count_at (refill x c h) d ≡ count_at h d
  count-refill [] c d x = refl
  count-refill (None ∷ h) zero d x = refl
  count-refill (Some cell ∷ h) zero zero x = refl
  count-refill (Some cell ∷ h) zero (suc d) x = refl
  count-refill (o ∷ h) (suc c) zero x = refl
  count-refill (o ∷ h) (suc c) (suc d) x = count-refill h c d x

  -- a cell that is counted is there
  pub there : (h : Cells X) (c : ℕ) → 1 ≤ count_at h c → (v : X) × (content_at h c ≡ Some v)
  there [] c le = absurd (omega arith)
  there (None ∷ h) zero le = absurd (omega arith)
  there (Some cell ∷ h) zero le = (cell.content, refl)
  there (o ∷ h) (suc c) le = there h c le

  module _ (refs_in : X → List ℕ) where
    pub held-uses : (h : Cells X) (c d : ℕ) (v : X) → content_at h c ≡ Some v → times (refs_in v) d ≤ uses refs_in h d
    held-uses [] c d v e = cc
    held-uses (None ∷ h) zero d v e = cc
    held-uses (Some cell ∷ h) zero d v e =
        let f : cell.content ≡ v = cc in omega (arith, ap (λ z. times (refs_in z) d) f)
    held-uses (o ∷ h) (suc c) d v e = omega (arith, held-uses h c d v e)

    pub uses-take_one : (h : Cells X) (c d : ℕ) → uses refs_in (take_one c h) d ≡ uses refs_in h d
    uses-take_one [] c d = refl
    uses-take_one (None ∷ h) zero d = refl
    uses-take_one (Some cell ∷ h) zero d = refl
    uses-take_one (o ∷ h) (suc c) d = omega (arith, uses-take_one h c d)

    -- the new content holds in the place of the old one
    pub uses-refill : (h : Cells X) (c d : ℕ) (v x : X) → content_at h c ≡ Some v → uses refs_in (refill x c h) d + times (refs_in v) d ≡ uses refs_in h d + times (refs_in x) d
    uses-refill [] c d v x e = cc
    uses-refill (None ∷ h) zero d v x e = cc
    uses-refill (Some cell ∷ h) zero d v x e =
        let f : cell.content ≡ v = cc in omega (arith, ap (λ z. times (refs_in z) d) f)
    uses-refill (o ∷ h) (suc c) d v x e = omega (arith, uses-refill h c d v x e)

    pub uses-make : (h : Cells X) (d : ℕ) (x : X) → uses refs_in (make x h) d ≡ uses refs_in h d + times (refs_in x) d
    uses-make [] d x = omega arith
    uses-make (o ∷ h) d x = omega (arith, uses-make h d x)
