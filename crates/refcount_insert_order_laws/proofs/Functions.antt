-- All lines of a function with its counts have shares at their places.
use Rattle.std.proofs.Common.{◌≡◌, refl, sym, ap, ◌∙◌, subst, ℕ, zero, suc, ◌+◌, ◌≤◌, ◌<◌, ◌⊎◌, inl, inr, ⊎_elim, Bool, true, false, cond, List, [], ◌∷◌, ◌++◌, map, length, drop, arith, length-append, append_assoc, Option, Some, None}
use Rattle.std.specs.Prelude.{slice_get}
use Rattle.c_core.specs.declared.code.Line.{Line}
use Rattle.c_core.specs.declared.code.CFunc.{CFunc}
use Rattle.c_core.specs.declared.code.Code.{Code}
use Rattle.ir_core.specs.declared.code.Block.{Block}
use Rattle.ir_core.specs.declared.code.Func.{Func}
use Rattle.ir_core.specs.declared.code.Program.{Program}
use Rattle.ir_core.specs.Lower.{op_lines, label_before, label_of, end_lines, lines_from}
use Rattle.c_core_ownership_laws.specs.Shares.{Shares, Checks}
use Rattle.refcount_insert_rule.specs.Counted.{Tables, owned, AreDetours, AreBlocks}
use Rattle.refcount_insert_order_laws.specs.Places.{operations_before}
use Rattle.refcount_insert_order_laws.proofs.Numbers.{either}
use Rattle.refcount_insert_order_laws.proofs.Equations.{at}
use Rattle.refcount_insert_order_laws.proofs.MetBlocks.{Marks}
use Rattle.refcount_insert_order_laws.proofs.Trails.{head, Leads, leads_size}
use Rattle.refcount_insert_order_laws.proofs.Bodies.{text_of, AreAlike, lines_size}
use Rattle.refcount_insert_order_laws.proofs.Ends.{Starts, Never, way, AreStarts, detour_check}
use Rattle.refcount_insert_order_laws.proofs.Mains.{BlockFacts, Main, main_of, head_drop, operations_within}
use Rattle.refcount_insert_order_laws.proofs.Blocks.{labelled, labelled_drop, unmet, AreChecked, Marked, Blocks, cons_block, own_blocks}
use Rattle.refcount_insert_order_laws.proofs.Starts.{if_met, ways, starts}

module _ (p q : Program) (f : Func) (t : Tables f) (number first : ℕ → ℕ) (at_start : ℕ → ℕ → ℕ) (code old : Code) (name : List ℕ) (lines : List Line) (same : AreAlike p q code old) (start : ℕ → Option Shares) (m : Marks f) (known : AreStarts f t number first at_start start m) where
  abbrev g : CFunc
  g = text_of f name lines

  -- ---- the detours to a block
  module _ (b : ℕ) (k : Block) (is : slice_get f.blocks b ≡ Some k) (higher : 0 < b) where
    detours_checked : (n : ℕ) (xs : List Block) → first b ≤ n → AreDetours f t number first at_start b n xs → AreChecked q code g start n xs (ways f t number first at_start m b n xs)
    detours_checked n [] low h = tt
    detours_checked n (x ∷ xs) low h = (
      λ σ e. ⊎_elim
          (λ yes.
          let some : Some (way f t at_start b n) ≡ Some σ = ap (λ c. cond c (Some (way f t at_start b n)) None) (sym yes) ∙ e in
          let one : way f t at_start b n ≡ σ = cc in
          subst (λ z. Checks code g (Starts start) Never z (op_lines q x.ops ++ end_lines label_of n x.last)) one (detour_check p q f t number first at_start code name lines start m known b k is yes higher n x low h.0 n))
          (λ off. let none : None ≡ Some σ = ap (λ c. cond c (Some (way f t at_start b n)) None) (sym off) ∙ e in absurd (cc))
          (either (m.marked b)),
      detours_checked (suc n) xs (omega (arith, low)) h.1,
    )

  -- ---- all blocks
  -- an old block that is met, of blocks from number k on
  abbrev pub Has : ℕ → List Block → ℕ → Block → Type 0
  Has k bs b x =
      (i : ℕ) × (b ≡ k + i) × (slice_get bs i ≡ Some x) × (m.marked b ≡ true)

  abbrev Done : (k n : ℕ) (bs blocks : List Block) → AreBlocks f t number first at_start k n bs blocks → Type 0
  Done k n bs blocks h =
      Blocks q code g start f t number n blocks (starts f t number first at_start m k n bs blocks h) (Has k bs)

  -- one block, and the detours to it, in front of those behind it
  module _ (k n : ℕ) (b : Block) (bs blocks : List Block) (h : AreBlocks f t number first at_start k n (b ∷ bs) blocks) (is : slice_get f.blocks k ≡ Some b) (facts : BlockFacts p old f name lines k b) where
    abbrev main : Block
    main = h.1

    -- where the block stands
    abbrev here : ℕ
    here = n + length h.0

    abbrev later : List (Option Shares)
    later = starts f t number first at_start m (suc k) (n + length h.0 + 1) bs h.2 h.10

    abbrev Behind : Type 0
    Behind = Blocks q code g start f t number (suc here) h.2 later (Has (suc k) bs)

    abbrev AtBlock : Option Shares → Type 0
    AtBlock s = Blocks q code g start f t number here (h.1 ∷ h.2) (s ∷ later) (Has k (b ∷ bs))

    is_behind : Done (suc k) (n + length h.0 + 1) bs h.2 h.10 → Behind
    is_behind rest =
        let z : here + 1 ≡ suc here = omega arith in
        subst (λ i. Blocks q code g start f t number i h.2 later (Has (suc k) bs)) z rest

    -- a block that is met
    met_block : m.marked k ≡ true → Behind → AtBlock (Some (at f t k 0))
    met_block marked behind =
        let next : Option Shares = head behind.shares None in
        let is_number : here ≡ number k = sym h.5 in
        let made : Main p q f t number first at_start code old name lines same start m known k b main here next =
        main_of p q f t number first at_start code old name lines same start m known k b is marked facts b.last refl main next here h.8 h.9 is_number in
        cons_block q code g start f t number here main (Some (at f t k 0)) h.2 later (Has (suc k) bs) (Has k (b ∷ bs)) behind (labelled q code g start here main (at f t k 0) next made.trail) (λ c x has. told behind.shares made c x has)
      where
        marked_here : (behind : List (Option Shares)) (made : Main p q f t number first at_start code old name lines same start m known k b main here (head behind None)) → Marked q code g start f t number k b here (main ∷ h.2) ((labelled q code g start here main (at f t k 0) (head behind None) made.trail).shares ++ behind)
        marked_here behind made =
            let size : length made.groups ≤ length made.trail.shares = omega (arith, leads_size code g (Starts start) (op_lines q main.ops ++ end_lines label_of here main.last) made.trail.shares (head behind None) made.trail.leads, length-append (op_lines q main.ops) (end_lines label_of here main.last), lines_size q main.ops, ap length made.split, length-append made.groups made.others) in
            record {
              place = 0;
              main = main;
              is_main = refl;
              is_number = h.5 ∙ omega arith;
              front = made.front;
              is_front = made.is_front;
              groups = made.groups;
              others = made.others;
              split = made.split;
              are = made.are;
              marks = λ i le.
                  ap (λ z. head (drop (operations_before f t number (owned f t k) made.front made.groups made.are i) (drop (length (label_before z)) ((labelled q code g start here main (at f t k 0) (head behind None) made.trail).shares ++ behind))) None) h.5
                  ∙ (ap (λ z. head (drop (operations_before f t number (owned f t k) made.front made.groups made.are i) z) None) (labelled_drop q code g start here main (at f t k 0) (head behind None) made.trail behind)
                  ∙ (head_drop made.trail.shares behind None (operations_before f t number (owned f t k) made.front made.groups made.are i) (omega (arith, operations_within f t number (owned f t k) made.front made.groups made.are i, size)) ∙ made.marks i le));
            }

        told : (behind : List (Option Shares)) (made : Main p q f t number first at_start code old name lines same start m known k b main here (head behind None)) (c : ℕ) (x : Block) → Has k (b ∷ bs) c x → Has (suc k) bs c x ⊎ Marked q code g start f t number c x here (main ∷ h.2) ((labelled q code g start here main (at f t k 0) (head behind None) made.trail).shares ++ behind)
        told behind made c x (zero, e, there, is_marked) =
            let same_number : k ≡ c = omega (arith, e) in
            let g0 : Some b ≡ Some x = there in
            let same_block : b ≡ x = cc in
            inr (subst (λ z. Marked q code g start f t number z x here (main ∷ h.2) ((labelled q code g start here main (at f t k 0) (head behind None) made.trail).shares ++ behind)) same_number (subst (λ z. Marked q code g start f t number k z here (main ∷ h.2) ((labelled q code g start here main (at f t k 0) (head behind None) made.trail).shares ++ behind)) same_block (marked_here behind made)))
        told behind made c x (suc i, e, there, is_marked) = inl (i, e ∙ omega arith, there, is_marked)

    -- one that is not
    unmet_block : m.marked k ≡ false → Behind → AtBlock None
    unmet_block off behind =
        cons_block q code g start f t number here main None h.2 later (Has (suc k) bs) (Has k (b ∷ bs)) behind (unmet q code g start here main (head behind.shares None)) (λ c x has. inl (others c x has))
      where
        others : (c : ℕ) (x : Block) → Has k (b ∷ bs) c x → Has (suc k) bs c x
        others c x (zero, e, there, is_marked) =
            let same_number : c ≡ k = e ∙ omega arith in
            let both : true ≡ false = sym is_marked ∙ (ap m.marked same_number ∙ off) in
            absurd (cc)
        others c x (suc i, e, there, is_marked) = (i, e ∙ omega arith, there, is_marked)

    at_block : Behind → AtBlock (if_met f t number first at_start m k (at f t k 0))
    at_block behind = ⊎_elim
        (λ yes. subst (λ c. AtBlock (cond c (Some (at f t k 0)) None)) (sym yes) (met_block yes behind))
        (λ off. subst (λ c. AtBlock (cond c (Some (at f t k 0)) None)) (sym off) (unmet_block off behind))
        (either (m.marked k))

    pub next_block : number 0 ≡ 0 → Done (suc k) (n + length h.0 + 1) bs h.2 h.10 → Done k n (b ∷ bs) blocks h
    next_block begins rest =
        subst (λ z. Blocks q code g start f t number n z (ways f t number first at_start m k n h.0 ++ (if_met f t number first at_start m k (at f t k 0) ∷ later)) (Has k (b ∷ bs))) (sym h.3)
        (own_blocks q code g start f t number n h.0 (ways f t number first at_start m k n h.0) (h.1 ∷ h.2) (if_met f t number first at_start m k (at f t k 0) ∷ later) (Has k (b ∷ bs)) (checked k refl) (at_block (is_behind rest)))
      where
        -- no detour leads to the first block
        none : (xs : List Block) → length xs ≡ 0 → AreChecked q code g start n xs (ways f t number first at_start m k n xs)
        none [] e = tt
        none (x ∷ xs) e = absurd (omega (arith, e))

        checked : (i : ℕ) → k ≡ i → AreChecked q code g start n h.0 (ways f t number first at_start m k n h.0)
        checked zero e = none h.0 (omega (arith, ap number e, begins, h.5))
        checked (suc i) e =
            detours_checked k b is (omega (arith, e)) n h.0 (omega (arith, h.4)) h.7

  pub all_blocks : number 0 ≡ 0 → ((b : ℕ) (k : Block) → slice_get f.blocks b ≡ Some k → BlockFacts p old f name lines b k) → (k n : ℕ) (bs blocks : List Block) (h : AreBlocks f t number first at_start k n bs blocks) → ((j : ℕ) (x : Block) → slice_get bs j ≡ Some x → slice_get f.blocks (k + j) ≡ Some x) → Done k n bs blocks h
  all_blocks begins facts k n [] blocks h there =
      record {
        shares = [];
        leads = subst (λ z. Leads code g (Starts start) (lines_from q n z) [] None) (sym h) tt;
        places = λ i x e. let none : None ≡ Some x = sym (ap (λ z. slice_get z i) h) ∙ e in absurd (cc);
        marked = λ b k has. let none : None ≡ Some k = has.2 in absurd (cc);
      }
  all_blocks begins facts k n (b ∷ bs) blocks h there =
      let zero_more : k + 0 ≡ k = omega arith in
      let is : slice_get f.blocks k ≡ Some b = ap (slice_get f.blocks) (sym zero_more) ∙ there 0 b refl in
      let rest : Done (suc k) (n + length h.0 + 1) bs h.2 h.10 =
      all_blocks begins facts (suc k) (n + length h.0 + 1) bs h.2 h.10
      (λ j x e. let z : suc k + j ≡ k + suc j = omega arith in ap (slice_get f.blocks) z ∙ there (suc j) x e) in
      next_block k n b bs blocks h is (facts k b is) begins rest
