-- The shares with which new blocks start: those of the start of an old block that is met, and those of the detours to it.
use Rattle.std.proofs.Common.{◌≡◌, refl, sym, ap, ◌∙◌, subst, ℕ, zero, suc, ◌+◌, ◌-◌, ◌≤◌, cond, List, [], ◌∷◌, ◌++◌, length, arith, length-append, Option, Some, None, ◌<◌}
use Rattle.std.specs.Prelude.{slice_get}
use Rattle.ir_core.specs.declared.code.Block.{Block}
use Rattle.ir_core.specs.declared.code.Func.{Func}
use Rattle.c_core_ownership_laws.specs.Shares.{Shares}
use Rattle.refcount_insert_rule.specs.Counted.{Tables, owned, AreBlocks}
use Rattle.refcount_insert_order_laws.proofs.Equations.{at}
use Rattle.refcount_insert_order_laws.proofs.MetBlocks.{Marks}
use Rattle.refcount_insert_order_laws.proofs.Trails.{at_place, at_behind}
use Rattle.refcount_insert_order_laws.proofs.Ends.{way}

module _ (f : Func) (t : Tables f) (number first : ℕ → ℕ) (at_start : ℕ → ℕ → ℕ) (m : Marks f) where
  -- these shares, where a block is met
  abbrev pub if_met : ℕ → Shares → Option Shares
  if_met b σ = cond (m.marked b) (Some σ) None

  -- of detours to block b, from number n on
  abbrev pub ways : ℕ → ℕ → List Block → List (Option Shares)
  ways b n [] = []
  ways b n (x ∷ xs) = if_met b (way f t at_start b n) ∷ ways b (suc n) xs

  abbrev pub starts : (k n : ℕ) (bs blocks : List Block) → AreBlocks f t number first at_start k n bs blocks → List (Option Shares)
  starts k n [] blocks h = []
  starts k n (b ∷ bs) blocks h =
      ways k n h.0 ++ (if_met k (at f t k 0) ∷ starts (suc k) (n + length h.0 + 1) bs h.2 h.10)

  pub ways_size : (b n : ℕ) (xs : List Block) → length (ways b n xs) ≡ length xs
  ways_size b n [] = refl
  ways_size b n (x ∷ xs) = ap suc (ways_size b (suc n) xs)

  ways_at : (b n : ℕ) (xs : List Block) (rest : List (Option Shares)) (i : ℕ) → i < length xs → at_place (ways b n xs ++ rest) i ≡ if_met b (way f t at_start b (n + i))
  ways_at b n [] rest i lt = absurd (omega (arith, lt))
  ways_at b n (x ∷ xs) rest zero lt =
      let z : n ≡ n + 0 = omega arith in ap (λ j. if_met b (way f t at_start b j)) z
  ways_at b n (x ∷ xs) rest (suc i) lt =
      let z : suc n + i ≡ n + suc i = omega arith in
      ways_at b (suc n) xs rest i (omega (arith, lt)) ∙ ap (λ j. if_met b (way f t at_start b j)) z

  -- as many as there are blocks
  pub all_size : (k n : ℕ) (bs blocks : List Block) (h : AreBlocks f t number first at_start k n bs blocks) → length (starts k n bs blocks h) ≡ length blocks
  all_size k n [] blocks h = ap length (sym h)
  all_size k n (b ∷ bs) blocks h =
      let own = ways k n h.0 in
      let later = starts (suc k) (n + length h.0 + 1) bs h.2 h.10 in
      omega (arith, length-append own (if_met k (at f t k 0) ∷ later), ways_size k n h.0, all_size (suc k) (n + length h.0 + 1) bs h.2 h.10, ap length h.3, length-append h.0 (h.1 ∷ h.2))

  -- where an old block stands among the new ones, and the shares there and at the detours to it
  pub record Begun (j k n : ℕ) (all : List (Option Shares)) : Type 0 where
    pub place : ℕ
    pub is_number : number k ≡ n + place
    pub low : n + j ≤ first k
    pub high : first k ≤ number k
    pub block : at_place all place ≡ if_met k (at f t k 0)
    pub detour : (d : ℕ) → first k ≤ d → d < number k → at_place all (d - n) ≡ if_met k (way f t at_start k d)
    pub wants : (r : ℕ) → at_start (number k) r ≡ owned f t k 0 r

  pub start_at : (k n : ℕ) (bs blocks : List Block) (h : AreBlocks f t number first at_start k n bs blocks) (j : ℕ) (x : Block) → slice_get bs j ≡ Some x → Begun j (k + j) n (starts k n bs blocks h)
  start_at k n [] blocks h j x e = let g : None ≡ Some x = e in absurd (cc)
  start_at k n (b ∷ bs) blocks h zero x e =
      let z : k ≡ k + 0 = omega arith in
      let own = ways k n h.0 in
      let rest = if_met k (at f t k 0) ∷ starts (suc k) (n + length h.0 + 1) bs h.2 h.10 in
      let far : length h.0 ≡ length own + 0 = omega (arith, ways_size k n h.0) in
      let here : Begun 0 k n (own ++ rest) = record {
        place = length h.0;
        is_number = h.5;
        low = omega (arith, h.4);
        high = omega (arith, h.4, h.5);
        block = ap (at_place (own ++ rest)) far ∙ at_behind own rest 0;
        detour = λ d le lt. let same : n + (d - n) ≡ d = omega (arith, le, h.4) in ways_at k n h.0 rest (d - n) (omega (arith, le, lt, h.4, h.5)) ∙ ap (λ i. if_met k (way f t at_start k i)) same;
        wants = h.6;
      } in
      subst (λ i. Begun 0 i n (own ++ rest)) z here
  start_at k n (b ∷ bs) blocks h (suc j) x e =
      let z : suc k + j ≡ k + suc j = omega arith in
      let size : ℕ = length h.0 in
      let own = ways k n h.0 in
      let first_shares : Option Shares = if_met k (at f t k 0) in
      let later = starts (suc k) (n + size + 1) bs h.2 h.10 in
      let rest : Begun j (suc k + j) (n + size + 1) later = start_at (suc k) (n + size + 1) bs h.2 h.10 j x e in
      let behind : (i : ℕ) → at_place (own ++ (first_shares ∷ later)) (size + suc i) ≡ at_place later i = λ i.
      (let far : size + suc i ≡ length own + suc i = omega (arith, ways_size k n h.0) in
      ap (at_place (own ++ (first_shares ∷ later))) far ∙ at_behind own (first_shares ∷ later) (suc i)) in
      let here : Begun (suc j) (suc k + j) n (own ++ (first_shares ∷ later)) = record {
        place = size + suc rest.place;
        is_number = omega (arith, rest.is_number);
        low = omega (arith, rest.low);
        high = rest.high;
        block = behind rest.place ∙ rest.block;
        detour = λ d le lt.
            let far : d - n ≡ size + suc (d - (n + size + 1)) = omega (arith, le, rest.low) in
            ap (at_place (own ++ (first_shares ∷ later))) far ∙ (behind (d - (n + size + 1)) ∙ rest.detour d le lt);
        wants = rest.wants;
      } in
      subst (λ i. Begun (suc j) i n (own ++ (first_shares ∷ later))) z here

  -- which is one of the new blocks
  pub number_within : (k n : ℕ) (bs blocks : List Block) (h : AreBlocks f t number first at_start k n bs blocks) (j : ℕ) (x : Block) → slice_get bs j ≡ Some x → number (k + j) < n + length blocks
  number_within k n [] blocks h j x e = let g : None ≡ Some x = e in absurd (cc)
  number_within k n (b ∷ bs) blocks h zero x e =
      let z : k + 0 ≡ k = omega arith in
      omega (arith, ap number z, h.5, ap length h.3, length-append h.0 (h.1 ∷ h.2))
  number_within k n (b ∷ bs) blocks h (suc j) x e =
      let rest = number_within (suc k) (n + length h.0 + 1) bs h.2 h.10 j x e in
      let z : k + suc j ≡ suc k + j = omega arith in
      omega (arith, ap number z, rest, ap length h.3, length-append h.0 (h.1 ∷ h.2))

  no_ways : (b n : ℕ) (xs : List Block) → length xs ≡ 0 → (rest : List (Option Shares)) → ways b n xs ++ rest ≡ rest
  no_ways b n [] e rest = refl
  no_ways b n (x ∷ xs) e rest = absurd (omega (arith, e))

  no_blocks : (xs ys : List Block) → length xs ≡ 0 → xs ++ ys ≡ ys
  no_blocks [] ys e = refl
  no_blocks (x ∷ xs) ys e = absurd (omega (arith, e))

  -- the first of blocks that are there
  pub first_start : (n : ℕ) (bs blocks : List Block) (h : AreBlocks f t number first at_start 0 n bs blocks) → number 0 ≡ n → (x : Block) → slice_get bs 0 ≡ Some x → (at_place (starts 0 n bs blocks h) 0 ≡ if_met 0 (at f t 0 0)) × (main : Block) × (slice_get blocks 0 ≡ Some main)
  first_start n [] blocks h none x e = let g : None ≡ Some x = e in absurd (cc)
  first_start n (b ∷ bs) blocks h none x e =
      let size : length h.0 ≡ 0 = omega (arith, none, h.5) in (
        ap (λ z. at_place z 0) (no_ways 0 n h.0 size (if_met 0 (at f t 0 0) ∷ starts 1 (n + length h.0 + 1) bs h.2 h.10)),
        h.1,
        ap (λ z. slice_get z 0) (h.3 ∙ no_blocks h.0 (h.1 ∷ h.2) size),
      )
