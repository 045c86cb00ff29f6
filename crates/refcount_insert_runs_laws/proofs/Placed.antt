-- Where each block stands among the blocks with counts, and in front of it the detours to it.
use Rattle.std.proofs.Common.{◌≡◌, refl, sym, ◌∙◌, ap, subst, ℕ, zero, suc, ◌+◌, ◌-◌, ◌<◌, ◌≤◌, arith, List, [], ◌∷◌, ◌++◌, length, Some, None, append_assoc, length-append}
use Rattle.std.specs.Prelude.{slice_get}
use Rattle.ir_core.specs.declared.code.Block.{Block}
use Rattle.ir_core.specs.declared.code.Func.{Func}
use Rattle.refcount_insert_rule.specs.Counted.{Tables, owned, wanted, IsBody, IsDetour, AreDetours, IsLast, AreBlocks, IsCountedFunc}
use Rattle.refcount_insert_runs_laws.proofs.Lists.{get_behind, get_before}

module _ (f : Func) (t : Tables f) (number first : ℕ → ℕ) (at_start : ℕ → ℕ → ℕ) (all : List Block) where
  -- a detour among all blocks
  pub record DetourAt (b n : ℕ) : Type 0 where
    pub block : Block
    pub there : slice_get all n ≡ Some block
    pub detour : IsDetour f t number first at_start b n block

  pub record Stands (k : ℕ) (b : Block) : Type 0 where
    pub main : Block
    pub there : slice_get all (number k) ≡ Some main
    pub low : first k ≤ number k
    pub wants : (r : ℕ) → at_start (number k) r ≡ wanted f t number k r
    pub detours : (n : ℕ) → first k ≤ n → n < number k → DetourAt k n
    pub body : IsBody f t number k (owned f t k) b.ops b.last main.ops
    pub last : IsLast f t number first at_start (owned f t k (length b.ops)) b.last main.last

  record StandsFrom (m j k : ℕ) (b : Block) : Type 0 where
    stands : Stands k b
    low : m ≤ first k
    lower : 0 < j → m < first k

  detour_in : (b n : ℕ) (xs before behind : List Block) → all ≡ before ++ (xs ++ behind) → length before ≡ n → AreDetours f t number first at_start b n xs → (i : ℕ) → i < length xs → DetourAt b (n + i)
  detour_in b n [] before behind is size h i lt = absurd (omega (arith, lt))
  detour_in b n (x ∷ xs) before behind is size h zero lt =
      let here : n ≡ length before + 0 = omega (arith, size) in
      let same : n ≡ n + 0 = omega arith in
      let at : DetourAt b n = record { block = x; there = ap (slice_get all) here ∙ (ap (λ z. slice_get z (length before + 0)) is ∙ get_behind before (x ∷ (xs ++ behind)) 0); detour = h.0 } in
      subst (DetourAt b) same at
  detour_in b n (x ∷ xs) before behind is size h (suc i) lt =
      let next : suc n + i ≡ n + suc i = omega arith in
      subst (DetourAt b) next (detour_in b (suc n) xs (before ++ (x ∷ [])) behind (is ∙ sym (append_assoc before (x ∷ []) (xs ++ behind))) (length-append before (x ∷ []) ∙ omega (arith, size)) h.1 i (omega (arith, lt)))

  stands_from : (k m : ℕ) (bs blocks before : List Block) → all ≡ before ++ blocks → length before ≡ m → AreBlocks f t number first at_start k m bs blocks → (j : ℕ) (b : Block) → slice_get bs j ≡ Some b → StandsFrom m j (k + j) b
  stands_from k m [] blocks before is size are j b e = let g : None ≡ Some b = e in absurd (cc)
  stands_from k m (x ∷ bs) blocks before is size are zero b e =
      let g : Some x ≡ Some b = e in
      let same : x ≡ b = cc in
      let none : k ≡ k + 0 = omega arith in
      let detours : List Block = are.0 in
      let main : Block = are.1 in
      let rest : List Block = are.2 in
      let whole : all ≡ before ++ (detours ++ (main ∷ rest)) = is ∙ ap (λ z. before ++ z) are.3 in
      let parts : all ≡ (before ++ detours) ++ (main ∷ rest) = whole ∙ sym (append_assoc before detours (main ∷ rest)) in
      let place : number k ≡ length (before ++ detours) + 0 = omega (arith, are.5, size, length-append before detours) in
      let stands : Stands k x = record {
        main = main;
        there = ap (slice_get all) place ∙ (ap (λ z. slice_get z (length (before ++ detours) + 0)) parts ∙ get_behind (before ++ detours) (main ∷ rest) 0);
        low = omega (arith, are.4, are.5);
        wants = are.6;
        detours = λ n le lt. let here : m + (n - m) ≡ n = omega (arith, le, are.4) in subst (DetourAt k) here (detour_in k m detours before (main ∷ rest) whole size are.7 (n - m) (omega (arith, le, lt, are.4, are.5)));
        body = are.8;
        last = are.9;
      } in
      subst (λ z. StandsFrom m 0 z b) none (record { stands = subst (Stands k) same stands; low = omega (arith, are.4); lower = λ lt. absurd (omega (arith, lt)) })
  stands_from k m (x ∷ bs) blocks before is size are (suc j) b e =
      let detours : List Block = are.0 in
      let main : Block = are.1 in
      let rest : List Block = are.2 in
      let front : List Block = before ++ (detours ++ (main ∷ [])) in
      let whole : all ≡ front ++ rest = is ∙ (ap (λ z. before ++ z) (are.3 ∙ sym (append_assoc detours (main ∷ []) rest)) ∙ sym (append_assoc before (detours ++ (main ∷ [])) rest)) in
      let longer : length front ≡ m + length detours + 1 = omega (arith, length-append before (detours ++ (main ∷ [])), length-append detours (main ∷ []), size) in
      let next : suc k + j ≡ k + suc j = omega arith in
      let found : StandsFrom (m + length detours + 1) j (suc k + j) b = stands_from (suc k) (m + length detours + 1) bs rest front whole longer are.10 j b e in
      subst (λ z. StandsFrom m (suc j) z b) next (record { stands = found.stands; low = omega (arith, found.low); lower = λ lt. omega (arith, found.low) })

-- each block of a function stands so
pub record BlockAt (f g : Func) (c : IsCountedFunc f g) (k : ℕ) (b : Block) : Type 0 where
  pub stands : Stands f c.tables c.number c.first c.at_start g.blocks k b
  pub higher : 0 < k → 0 < c.first k
  pub later : 0 < k → 0 < c.number k
  pub first : k ≡ 0 → c.number k ≡ 0

pub block_placed : (f g : Func) (c : IsCountedFunc f g) (k : ℕ) (b : Block) → slice_get f.blocks k ≡ Some b → BlockAt f g c k b
block_placed f g c k b e =
    let found : StandsFrom f c.tables c.number c.first c.at_start g.blocks 0 k (0 + k) b = stands_from f c.tables c.number c.first c.at_start g.blocks 0 0 f.blocks g.blocks [] refl refl c.blocks k b e in
    let same : 0 + k ≡ k = omega arith in
    let here : StandsFrom f c.tables c.number c.first c.at_start g.blocks 0 k k b = subst (λ z. StandsFrom f c.tables c.number c.first c.at_start g.blocks 0 k z b) same found in
    record { stands = here.stands; higher = here.lower; later = λ some. omega (arith, here.lower some, here.stands.low); first = λ none. ap c.number none ∙ c.begins }
