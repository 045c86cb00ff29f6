-- The order in which references are given up makes no difference.
use Rattle.std.proofs.Common.{◌≡◌, ℕ, zero, suc, ◌+◌, ◌<◌, ◌≤◌, List, [], ◌∷◌, ◌++◌, length, refl, sym, ap, ◌∙◌, arith, length-append}
use Rattle.c_core.specs.Cells.{Cells, same, times}
use Rattle.c_core.specs.Release.{after, freed, weight, release_some, release}
use Rattle.c_core.specs.Ledgers.{without}
use Rattle.c_core.proofs.ReleaseLemmas.{times-append, weight-after}
use Rattle.c_core.proofs.CountLemmas.{same_one, same_self}
use Rattle.c_core.proofs.LedgerLemmas.{without-times, without-length}

module _ {X : Type 0} (refs_in : X → List ℕ) where
  after_swap : (x y : ℕ) (h : Cells X) → same x y ≡ 0 → after y (after x h) ≡ after x (after y h)
  after_swap x y [] ne = refl
  after_swap zero zero (o ∷ h) ne = absurd (omega arith)
  after_swap zero (suc y) (o ∷ h) ne = refl
  after_swap (suc x) zero (o ∷ h) ne = refl
  after_swap (suc x) (suc y) (o ∷ h) ne = ap (λ t. o ∷ t) (after_swap x y h ne)

  freed_swap : (x y : ℕ) (h : Cells X) → same x y ≡ 0 → freed refs_in y (after x h) ≡ freed refs_in y h
  freed_swap x y [] ne = refl
  freed_swap zero zero (o ∷ h) ne = absurd (omega arith)
  freed_swap zero (suc y) (o ∷ h) ne = refl
  freed_swap (suc x) zero (o ∷ h) ne = refl
  freed_swap (suc x) (suc y) (o ∷ h) ne = freed_swap x y h ne

  same_sym : (x y : ℕ) → same x y ≡ same y x
  same_sym zero zero = refl
  same_sym zero (suc y) = refl
  same_sym (suc x) zero = refl
  same_sym (suc x) (suc y) = same_sym x y

  -- one word, where there is a turn for it
  pub any_fuel : (m n : ℕ) (h : Cells X) (ws : List ℕ) → length ws + weight refs_in h ≤ m → length ws + weight refs_in h ≤ n → release_some refs_in m h ws ≡ release_some refs_in n h ws
  any_fuel zero zero h ws le le' = refl
  any_fuel zero (suc n) h [] le le' = refl
  any_fuel zero (suc n) h (w ∷ ws) le le' = absurd (omega arith)
  any_fuel (suc m) zero h [] le le' = refl
  any_fuel (suc m) zero h (w ∷ ws) le le' = absurd (omega arith)
  any_fuel (suc m) (suc n) h [] le le' = refl
  any_fuel (suc m) (suc n) h (w ∷ ws) le le' =
      any_fuel m n (after w h) (freed refs_in w h ++ ws)
      (omega (arith, weight-after refs_in h w, length-append (freed refs_in w h) ws))
      (omega (arith, weight-after refs_in h w, length-append (freed refs_in w h) ws))

  -- what the first word leaves, and then the others
  pub release_first : (h : Cells X) (w : ℕ) (ws : List ℕ) → release refs_in h (w ∷ ws) ≡ release refs_in (after w h) (freed refs_in w h ++ ws)
  release_first h w ws =
      any_fuel (length (w ∷ ws) + weight refs_in h) (suc (length ws + weight refs_in h)) h (w ∷ ws) (omega arith) (omega arith)
      ∙ any_fuel (length ws + weight refs_in h) (length (freed refs_in w h ++ ws) + weight refs_in (after w h)) (after w h) (freed refs_in w h ++ ws) (omega (arith, weight-after refs_in h w, length-append (freed refs_in w h) ws)) (omega arith)

  no_times : (ws : List ℕ) → ((c : ℕ) → times ws c ≡ 0) → ws ≡ []
  no_times [] h = refl
  no_times (w ∷ ws) h = absurd (omega (arith, h w, same_self w))

  abbrev AnyOrder : ℕ → Type 0
  AnyOrder n = (h : Cells X) (ws vs : List ℕ) → ((c : ℕ) → times ws c ≡ times vs c) → length ws + weight refs_in h ≤ n → length vs + weight refs_in h ≤ n → release_some refs_in n h ws ≡ release_some refs_in n h vs

  -- two words, and then the others
  two_first : (m : ℕ) → AnyOrder m → (h : Cells X) (x y : ℕ) (r : List ℕ) → same x y ≡ 0 → length r + 1 + weight refs_in h ≤ m → release_some refs_in m (after x h) (y ∷ (freed refs_in x h ++ r)) ≡ release_some refs_in m (after y h) (x ∷ (freed refs_in y h ++ r))
  two_first zero ih h x y r ne le = absurd (omega arith)
  two_first (suc k) ih h x y r ne le =
      let wx = weight-after refs_in h x in
      let wy = weight-after refs_in h y in
      let wyx = weight-after refs_in (after x h) y in
      let wxy = weight-after refs_in (after y h) x in
      let l1 = length-append (freed refs_in y (after x h)) (freed refs_in x h ++ r) in
      let l2 = length-append (freed refs_in x h) r in
      let l3 = length-append (freed refs_in x (after y h)) (freed refs_in y h ++ r) in
      let l4 = length-append (freed refs_in y h) r in
      let g = after_swap x y h ne in
      let us = freed refs_in y (after x h) ++ (freed refs_in x h ++ r) in
      let vs = freed refs_in x (after y h) ++ (freed refs_in y h ++ r) in
      let nx : same y x ≡ 0 = omega (arith, same_sym x y) in
      let gw = ap (weight refs_in) g in
      let alike : (c : ℕ) → times us c ≡ times vs c =
      λ c. omega (arith, times-append (freed refs_in y (after x h)) (freed refs_in x h ++ r) c, times-append (freed refs_in x h) r c, times-append (freed refs_in x (after y h)) (freed refs_in y h ++ r) c, times-append (freed refs_in y h) r c, ap (λ l. times l c) (freed_swap x y h ne), ap (λ l. times l c) (freed_swap y x h nx)) in
      any_fuel k (suc k) (after y (after x h)) us (omega arith) (omega arith)
      ∙ ih (after y (after x h)) us vs alike (omega arith) (omega arith)
      ∙ sym (any_fuel k (suc k) (after y (after x h)) vs (omega arith) (omega arith))
      ∙ ap (λ t. release_some refs_in k t vs) g

  by_names : (k m : ℕ) → AnyOrder m → (h : Cells X) (x : ℕ) (xs : List ℕ) (y : ℕ) (ys : List ℕ) → k ≡ same x y → ((c : ℕ) → times (x ∷ xs) c ≡ times (y ∷ ys) c) → length (x ∷ xs) + weight refs_in h ≤ suc m → length (y ∷ ys) + weight refs_in h ≤ suc m → release_some refs_in m (after x h) (freed refs_in x h ++ xs) ≡ release_some refs_in m (after y h) (freed refs_in y h ++ ys)
  by_names (suc k) m ih h x xs y ys is e le le' =
      let f = same_one x y k (sym is) in
      let alike : (c : ℕ) → times (freed refs_in x h ++ xs) c ≡ times (freed refs_in x h ++ ys) c =
      λ c. omega (arith, e c, ap (λ z. same z c) f, times-append (freed refs_in x h) xs c, times-append (freed refs_in x h) ys c) in
      let wx = weight-after refs_in h x in
      ih (after x h) (freed refs_in x h ++ xs) (freed refs_in x h ++ ys) alike (omega (arith, length-append (freed refs_in x h) xs)) (omega (arith, length-append (freed refs_in x h) ys))
      ∙ ap (λ z. release_some refs_in m (after z h) (freed refs_in z h ++ ys)) f
  by_names zero m ih h x xs y ys is e le le' =
      let in_it : 1 ≤ times xs y = omega (arith, e y, same_self y) in
      let r = without y xs in
      let len = without-length y xs in_it in
      let wx = weight-after refs_in h x in
      let wy = weight-after refs_in h y in
      let left : (c : ℕ) → times (freed refs_in x h ++ xs) c ≡ times (y ∷ (freed refs_in x h ++ r)) c =
      λ c. omega (arith, times-append (freed refs_in x h) xs c, times-append (freed refs_in x h) r c, without-times y xs in_it c) in
      let right : (c : ℕ) → times (x ∷ (freed refs_in y h ++ r)) c ≡ times (freed refs_in y h ++ ys) c =
      λ c. omega (arith, times-append (freed refs_in y h) ys c, times-append (freed refs_in y h) r c, without-times y xs in_it c, e c) in
      ih (after x h) _ _ left (omega (arith, length-append (freed refs_in x h) xs)) (omega (arith, length-append (freed refs_in x h) r))
      ∙ two_first m ih h x y r (sym is) (omega arith)
      ∙ ih (after y h) _ _ right (omega (arith, length-append (freed refs_in y h) r)) (omega (arith, length-append (freed refs_in y h) ys))

  some_order : (n : ℕ) → AnyOrder n
  some_order zero h ws vs e le le' = refl
  some_order (suc m) h [] vs e le le' = ap (release_some refs_in (suc m) h) (sym (no_times vs (λ c. sym (e c))))
  some_order (suc m) h (x ∷ xs) [] e le le' = ap (release_some refs_in (suc m) h) (no_times (x ∷ xs) e)
  some_order (suc m) h (x ∷ xs) (y ∷ ys) e le le' = by_names (same x y) m (some_order m) h x xs y ys refl e le le'

  pub any_order : (h : Cells X) (ws vs : List ℕ) → ((c : ℕ) → times ws c ≡ times vs c) → release refs_in h ws ≡ release refs_in h vs
  any_order h ws vs e =
      let n = length ws + length vs + weight refs_in h in
      any_fuel (length ws + weight refs_in h) n h ws (omega arith) (omega arith)
      ∙ some_order n h ws vs e (omega arith) (omega arith)
      ∙ any_fuel n (length vs + weight refs_in h) h vs (omega arith) (omega arith)

  -- the last word, and what it leaves at the end
  pub release_last : (h : Cells X) (ws : List ℕ) (w : ℕ) → release refs_in h (ws ++ w ∷ []) ≡ release refs_in (after w h) (ws ++ freed refs_in w h)
  release_last h ws w =
      any_order h (ws ++ w ∷ []) (w ∷ ws) (λ c. omega (arith, times-append ws (w ∷ []) c))
      ∙ release_first h w ws
      ∙ any_order (after w h) (freed refs_in w h ++ ws) (ws ++ freed refs_in w h) (λ c. omega (arith, times-append ws (freed refs_in w h) c, times-append (freed refs_in w h) ws c))

  pub last_smaller : (h : Cells X) (ws : List ℕ) (w : ℕ) → length (ws ++ freed refs_in w h) + weight refs_in (after w h) < length (ws ++ w ∷ []) + weight refs_in h
  last_smaller h ws w =
      omega (arith, weight-after refs_in h w, length-append ws (freed refs_in w h), length-append ws (w ∷ []))
