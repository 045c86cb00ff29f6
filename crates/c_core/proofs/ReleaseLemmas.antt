-- Giving references up keeps the counts.
use Rattle.std.proofs.Common.{◌≡◌, refl, ℕ, zero, suc, ◌+◌, ◌≤◌, List, [], ◌∷◌, ◌++◌, length, Some, None, ◌∙◌, arith, length-append}
use Rattle.c_core.specs.Cells.{Cells, same, times, counted, count_at, one_less}
use Rattle.c_core.specs.Release.{after, inside, let_go, freed, weight, uses, release_some, release}

pub times-append : (xs ys : List ℕ) (c : ℕ) → times (xs ++ ys) c ≡ times xs c + times ys c
times-append [] ys c = omega arith
times-append (x ∷ xs) ys c = omega (arith, times-append xs ys c)

module _ {X : Type 0} (refs_in : X → List ℕ) where
  -- refs_in move from the contents to the list
  split : (n : ℕ) (x : X) (c : ℕ) → times (let_go refs_in n x) c + times (inside refs_in (one_less n x)) c ≡ times (refs_in x) c
  split zero x c = omega arith
  split (suc zero) x c = omega arith
  split (suc (suc n)) x c = omega arith

  pub uses-after : (h : Cells X) (w c : ℕ) → times (freed refs_in w h) c + uses refs_in (after w h) c ≡ uses refs_in h c
  uses-after [] w c = omega arith
  uses-after (None ∷ h) zero c = omega arith
  uses-after (Some cell ∷ h) zero c = omega (arith, split cell.count cell.content c)
  uses-after (o ∷ h) (suc w) c = omega (arith, uses-after h w c)

  split_len : (n : ℕ) (x : X) → length (let_go refs_in n x) + length (inside refs_in (one_less n x)) ≡ length (refs_in x)
  split_len zero x = omega arith
  split_len (suc zero) x = omega arith
  split_len (suc (suc n)) x = omega arith

  pub weight-after : (h : Cells X) (w : ℕ) → length (freed refs_in w h) + weight refs_in (after w h) ≡ weight refs_in h
  weight-after [] w = omega arith
  weight-after (None ∷ h) zero = omega arith
  weight-after (Some cell ∷ h) zero = omega (arith, split_len cell.count cell.content)
  weight-after (o ∷ h) (suc w) = omega (arith, weight-after h w)

  less : (n : ℕ) (x : X) (o : ℕ) → n ≡ suc o → counted (one_less n x) ≡ o
  less zero x o e = omega arith
  less (suc zero) x o e = omega arith
  less (suc (suc n)) x o e = omega arith

  -- the count of the given cell is one less, and all others stay
  pub count-after : (h : Cells X) (w c : ℕ) (n : ℕ) → count_at h c ≡ same w c + n → count_at (after w h) c ≡ n
  count-after [] w c n e = omega arith
  count-after (None ∷ h) zero zero n e = omega arith
  count-after (Some cell ∷ h) zero zero n e = less cell.count cell.content n (omega arith)
  count-after (o ∷ h) zero (suc c) n e = omega arith
  count-after (o ∷ h) (suc w) zero n e = omega arith
  count-after (o ∷ h) (suc w) (suc c) n e = count-after h w c n e

  release_some_keeps : (n : ℕ) (h : Cells X) (ws : List ℕ) (c k : ℕ) → length ws + weight refs_in h ≤ n → count_at h c ≡ uses refs_in h c + times ws c + k → count_at (release_some refs_in n h ws) c ≡ uses refs_in (release_some refs_in n h ws) c + k
  release_some_keeps zero h [] c k le e = omega arith
  release_some_keeps zero h (w ∷ ws) c k le e = absurd (omega arith)
  release_some_keeps (suc n) h [] c k le e = omega arith
  release_some_keeps (suc n) h (w ∷ ws) c k le e =
      release_some_keeps n (after w h) (freed refs_in w h ++ ws) c k
      (omega (arith, weight-after h w, length-append (freed refs_in w h) ws))
      (count-after h w c _ (e ∙ omega (arith, uses-after h w c, times-append (freed refs_in w h) ws c)))

  pub release_keeps : (h : Cells X) (ws : List ℕ) (c k : ℕ) → count_at h c ≡ uses refs_in h c + times ws c + k → count_at (release refs_in h ws) c ≡ uses refs_in (release refs_in h ws) c + k
  release_keeps h ws c k e = release_some_keeps (length ws + weight refs_in h) h ws c k (omega arith) e

  release_some-nothing : (n : ℕ) (h : Cells X) → release_some refs_in n h [] ≡ h
  release_some-nothing zero h = refl
  release_some-nothing (suc n) h = refl

  -- nothing is given up
  pub release-nothing : (h : Cells X) → release refs_in h [] ≡ h
  release-nothing h = release_some-nothing (0 + weight refs_in h) h
