-- Where each block of a function stands among the blocks with counts, and what is left of it without them.
use Rattle.std.proofs.Common.{◌≡◌, refl, sym, ◌∙◌, ap, subst, ℕ, zero, suc, ◌+◌, ◌≤◌, ◌<◌, arith, List, [], ◌∷◌, ◌++◌, length, Some, None, append_assoc, length-append, ⊎_elim}
use Rattle.std.specs.Prelude.{slice_get}
use Rattle.ir_core.specs.declared.code.Op.{Op}
use Rattle.ir_core.specs.declared.code.Last.{Last}
use Rattle.ir_core.specs.declared.code.Last.TheVariants.{Goto, If, IfError, Return, Unreachable}
use Rattle.ir_core.specs.declared.code.Block.{Block}
use Rattle.ir_core.specs.declared.code.Func.{Func}
use Rattle.ir_core.specs.Shape.{LastFits, BlocksFit, FuncFits}
use Rattle.c_core_ownership_laws.specs.Shares.{put}
use Rattle.liveness.proofs.OwnedLemmas.{below_or_not}
use Rattle.refcount_insert_rule.specs.Counted.{Tables, owned, wanted, AreDetours, IsEdgeTo, IsLast, AreBlocks, IsCountedFunc}
use Rattle.refcount_insert_meaning_laws.specs.Uncounted.{without_counts, passed_to, goal, led, uncounted_block}
use Rattle.refcount_insert_meaning_laws.proofs.Counts.{left_of_edge, left_of_body}
use Rattle.refcount_insert_meaning_laws.proofs.Goals.{passes_there, passed_at, goal_past}

get_behind : {A : Type 0} (xs ys : List A) (i : ℕ) → slice_get (xs ++ ys) (length xs + i) ≡ slice_get ys i
get_behind [] ys i = let z : 0 + i ≡ i = omega arith in ap (slice_get ys) z
get_behind (x ∷ xs) ys i = let z : length (x ∷ xs) + i ≡ suc (length xs + i) = omega arith in ap (slice_get (x ∷ (xs ++ ys))) z ∙ get_behind xs ys i

get_before : {A : Type 0} (xs ys : List A) (i : ℕ) (a : A) → slice_get xs i ≡ Some a → slice_get (xs ++ ys) i ≡ Some a
get_before [] ys i a e = let f : None ≡ Some a = e in absurd (cc)
get_before (x ∷ xs) ys zero a e = e
get_before (x ∷ xs) ys (suc i) a e = get_before xs ys i a e

past_main : (before detours rest : List Block) (main : Block) → before ++ (detours ++ (main ∷ rest)) ≡ (before ++ (detours ++ (main ∷ []))) ++ rest
past_main before detours rest main =
    ap (λ z. before ++ z) (sym (append_assoc detours (main ∷ []) rest)) ∙ sym (append_assoc before (detours ++ (main ∷ [])) rest)

past_size : (before detours : List Block) (main : Block) → length (before ++ (detours ++ (main ∷ []))) ≡ length before + length detours + 1
past_size before detours main =
    length-append before (detours ++ (main ∷ [])) ∙ (ap (λ z. length before + z) (length-append detours (main ∷ [])) ∙ omega arith)

module _ (f : Func) (t : Tables f) (number first : ℕ → ℕ) (at_start : ℕ → ℕ → ℕ) (all : List Block) where
  -- where an edge to an old block leads
  abbrev pub goal_of : ℕ → ℕ
  goal_of k = goal all (number k)

  -- each detour to an old block leads where the block itself leads
  abbrev Leads : ℕ → Type 0
  Leads b = (n : ℕ) → first b ≤ n → n ≤ number b → goal all n ≡ goal_of b

  -- ---- detours
  detours_lead : (b m : ℕ) (xs : List Block) → AreDetours f t number first at_start b m xs → number b ≡ m + length xs → ((j : ℕ) (x : Block) → slice_get xs j ≡ Some x → slice_get all (m + j) ≡ Some x) → (n : ℕ) → m ≤ n → n ≤ number b → goal all n ≡ goal_of b
  detours_lead b m [] are size there n low high = let same : n ≡ number b = omega (arith, size, low, high) in ap (goal all) same
  detours_lead b m (x ∷ xs) are size there n low high =
      onward (detours_lead b (suc m) xs are.1 (omega (arith, size)) behind)
    where
      behind : (j : ℕ) (y : Block) → slice_get xs j ≡ Some y → slice_get all (suc m + j) ≡ Some y
      behind j y e = let z : suc m + j ≡ m + suc j = omega arith in ap (slice_get all) z ∙ there (suc j) y e

      found : slice_get all m ≡ Some x
      found = let z : m ≡ m + 0 = omega arith in ap (slice_get all) z ∙ there 0 x refl

      passed : passed_to all m ≡ Some are.0.next
      passed =
          passed_at all m x found
          ∙ (ap (λ z. Rattle.refcount_insert_meaning_laws.specs.Uncounted.passes m x.ops (without_counts x.ops) z) are.0.goes
          ∙ (ap (λ z. Rattle.refcount_insert_meaning_laws.specs.Uncounted.passes m x.ops z (Goto are.0.next)) (left_of_edge (at_start m) (at_start are.0.next) x.ops are.0.counts)
          ∙ passes_there m x.ops are.0.next are.0.some are.0.ahead))

      onward : ((i : ℕ) → suc m ≤ i → i ≤ number b → goal all i ≡ goal_of b) → goal all n ≡ goal_of b
      onward later = ⊎_elim
          (λ lt. later n lt high)
          (λ le. let same : n ≡ m = omega (arith, low, le) in ap (goal all) same ∙ (goal_past all m are.0.next passed ∙ later are.0.next are.0.ahead are.0.within))
          (below_or_not m n)

  leads_from : (k m : ℕ) (bs blocks before : List Block) → all ≡ before ++ blocks → length before ≡ m → AreBlocks f t number first at_start k m bs blocks → (j : ℕ) → j < length bs → Leads (k + j)
  leads_from k m [] blocks before is size are j lt = absurd (omega (arith, lt))
  leads_from k m (x ∷ bs) blocks before is size are zero lt =
      let none : k ≡ k + 0 = omega arith in
      subst Leads none (λ n low high. detours_lead k m are.0 are.7 are.5 there n (omega (arith, low, are.4)) high)
    where
      there : (j : ℕ) (y : Block) → slice_get are.0 j ≡ Some y → slice_get all (m + j) ≡ Some y
      there j y e =
          let whole : all ≡ before ++ (are.0 ++ (are.1 ∷ are.2)) = is ∙ ap (λ z. before ++ z) are.3 in
          let place : m + j ≡ length before + j = omega (arith, size) in
          ap (λ z. slice_get z (m + j)) whole
          ∙ (ap (slice_get (before ++ (are.0 ++ (are.1 ∷ are.2)))) place ∙ (get_behind before (are.0 ++ (are.1 ∷ are.2)) j ∙ get_before are.0 (are.1 ∷ are.2) j y e))
  leads_from k m (x ∷ bs) blocks before is size are (suc j) lt =
      let whole : all ≡ (before ++ (are.0 ++ (are.1 ∷ []))) ++ are.2 = is ∙ (ap (λ z. before ++ z) are.3 ∙ past_main before are.0 are.2 are.1) in
      let longer : length (before ++ (are.0 ++ (are.1 ∷ []))) ≡ m + length are.0 + 1 = past_size before are.0 are.1 ∙ omega (arith, size) in
      let next : suc k + j ≡ k + suc j = omega arith in
      subst Leads next (leads_from (suc k) (m + length are.0 + 1) bs are.2 (before ++ (are.0 ++ (are.1 ∷ []))) whole longer are.10 j (omega (arith, lt)))

  -- ---- edges
  module _ (total : ℕ) (leads : (b : ℕ) → b < total → Leads b) where
    edge_leads : (have : ℕ → ℕ) (b to : ℕ) → b < total → IsEdgeTo f t number first at_start have b to → goal all to ≡ goal_of b
    edge_leads have b to lt e = leads b lt to e.0 e.1

    last_leads : (have : ℕ → ℕ) (k : ℕ) (ops : List (Op × ℕ)) (l last : Last) → LastFits total k ops l → IsLast f t number first at_start have l last → led (goal all) last ≡ led goal_of l
    last_leads have k ops (Goto b) last fits e = ap (led (goal all)) e
    last_leads have k ops (If x a b) last fits e =
        ap (led (goal all)) e.2
        ∙ (ap (λ z. If x z (goal all e.1)) (edge_leads have a e.0 fits.0.1 e.3) ∙ ap (If x (goal_of a)) (edge_leads have b e.1 fits.1.1 e.4))
    last_leads have k ops (IfError x a b line) last fits e =
        ap (led (goal all)) e.2
        ∙ (ap (λ z. IfError x z (goal all e.1) line) (edge_leads (put x.0 (wanted f t number a x.0) have) a e.0 fits.0.1 e.3) ∙ ap (λ z. IfError x (goal_of a) z line) (edge_leads have b e.1 fits.1.1 e.4))
    last_leads have k ops (Return x) last fits e = ap (led (goal all)) e
    last_leads have k ops Unreachable last fits e = ap (led (goal all)) e

  -- a jump was one before
  jump_was : (have : ℕ → ℕ) (l last : Last) (c : ℕ) → IsLast f t number first at_start have l last → last ≡ Goto c → (b : ℕ) × (l ≡ Goto b) × (c ≡ number b)
  jump_was have (Goto b) last c e is =
      let both : Goto c ≡ Goto (number b) = sym is ∙ e in
      let same : c ≡ number b = cc in
      (b, refl, same)
  jump_was have (If x a b) last c e is = let both : Goto c ≡ If x e.0 e.1 = sym is ∙ e.2 in absurd (cc)
  jump_was have (IfError x a b line) last c e is = let both : Goto c ≡ IfError x e.0 e.1 line = sym is ∙ e.2 in absurd (cc)
  jump_was have (Return x) last c e is = let both : Goto c ≡ Return x = sym is ∙ e in absurd (cc)
  jump_was have Unreachable last c e is = let both : Goto c ≡ Unreachable = sym is ∙ e in absurd (cc)

  -- ---- blocks
  pub record Stands (k : ℕ) (b : Block) : Type 0 where
    pub main : Block
    pub there : slice_get all (number k) ≡ Some main
    pub left : without_counts main.ops ≡ b.ops
    pub leads : led (goal all) main.last ≡ led goal_of b.last
    pub jumps : (c : ℕ) → main.last ≡ Goto c → (a : ℕ) × (b.last ≡ Goto a) × (c ≡ number a)

  stands_from : (total : ℕ) → ((b : ℕ) → b < total → Leads b) → (k m : ℕ) (bs blocks before : List Block) → all ≡ before ++ blocks → length before ≡ m → BlocksFit total k bs → AreBlocks f t number first at_start k m bs blocks → (j : ℕ) (b : Block) → slice_get bs j ≡ Some b → Stands (k + j) b
  stands_from total leads k m [] blocks before is size fits are j b e = let g : None ≡ Some b = e in absurd (cc)
  stands_from total leads k m (x ∷ bs) blocks before is size fits are zero b e =
      let g : Some x ≡ Some b = e in
      let same : x ≡ b = cc in
      let none : k ≡ k + 0 = omega arith in
      let main : Block = are.1 in
      let whole : all ≡ before ++ (are.0 ++ (main ∷ are.2)) = is ∙ ap (λ z. before ++ z) are.3 in
      let place : number k ≡ length before + (length are.0 + 0) = omega (arith, are.5, size) in
      let stands : Stands k x = record {
        main = main;
        there = ap (λ z. slice_get z (number k)) whole ∙ (ap (slice_get (before ++ (are.0 ++ (main ∷ are.2)))) place ∙ (get_behind before (are.0 ++ (main ∷ are.2)) (length are.0 + 0) ∙ get_behind are.0 (main ∷ are.2) 0));
        left = left_of_body f t number k (owned f t k) x.ops x.last main.ops fits.0.ops are.8;
        leads = last_leads total leads (owned f t k (length x.ops)) k x.ops x.last main.last fits.0.last are.9;
        jumps = λ c. jump_was (owned f t k (length x.ops)) x.last main.last c are.9;
      } in
      subst (λ z. Stands z b) none (subst (Stands k) same stands)
  stands_from total leads k m (x ∷ bs) blocks before is size fits are (suc j) b e =
      let whole : all ≡ (before ++ (are.0 ++ (are.1 ∷ []))) ++ are.2 = is ∙ (ap (λ z. before ++ z) are.3 ∙ past_main before are.0 are.2 are.1) in
      let longer : length (before ++ (are.0 ++ (are.1 ∷ []))) ≡ m + length are.0 + 1 = past_size before are.0 are.1 ∙ omega (arith, size) in
      let next : suc k + j ≡ k + suc j = omega arith in
      subst (λ z. Stands z b) next (stands_from total leads (suc k) (m + length are.0 + 1) bs are.2 (before ++ (are.0 ++ (are.1 ∷ []))) whole longer fits.1 are.10 j b e)

-- each block of a function stands so, and the first one first
pub stands_at : (f g : Func) (c : IsCountedFunc f g) → FuncFits f → (k : ℕ) (b : Block) → slice_get f.blocks k ≡ Some b → Stands f c.tables c.number c.first c.at_start g.blocks k b
stands_at f g c fits k b e =
    let same : 0 + k ≡ k = omega arith in
    subst (λ z. Stands f c.tables c.number c.first c.at_start g.blocks z b) same (stands_from f c.tables c.number c.first c.at_start g.blocks (length f.blocks) leads 0 0 f.blocks g.blocks [] refl refl fits c.blocks k b e)
  where
    leads : (i : ℕ) → i < length f.blocks → Leads f c.tables c.number c.first c.at_start g.blocks i
    leads i lt =
        let here : 0 + i ≡ i = omega arith in
        subst (Leads f c.tables c.number c.first c.at_start g.blocks) here (leads_from f c.tables c.number c.first c.at_start g.blocks 0 0 f.blocks g.blocks [] refl refl c.blocks i lt)

pub first_stands : (f g : Func) (c : IsCountedFunc f g) → 0 ≡ c.number 0
first_stands f g c = sym c.begins
