-- The blocks to which paths go from a block, and which blocks they reach.
use Rattle.std.proofs.Common.{◌≡◌, refl, sym, ◌∙◌, ap, subst, ℕ, zero, suc, Bool, true, false, cond, List, [], ◌∷◌, length, Option, Some, None, ◌⊎◌, inl, inr, ⊎_elim}
use Rattle.std.specs.Prelude.{slice_get, not, nat_eq}
use Rattle.std.specs.List.{list_any}
use Rattle.std.specs.Option.{option_map_or}
use Rattle.std.proofs.lemmas.Bool.{eq-eqb, eqb-true}
use Rattle.ir_core.specs.declared.code.Op.{Op}
use Rattle.ir_core.specs.declared.code.Last.{Last}
use Rattle.ir_core.specs.declared.code.Block.{Block}
use Rattle.ir_core.specs.declared.code.Func.{Func}
use Rattle.ir_core.specs.declared.kind.Edge.{Edge}
use Rattle.ir_core.specs.declared.kind.Edge.TheVariants.{NoEdge, Tests, TestsTwice, Jumps}
use Rattle.ir_core.specs.Items.{Item, Do, End, in_block, item_of, item_in}
use Rattle.ir_core.specs.Rows.{Declared, edge_of_op}
use Rattle.ir_core.specs.Meaning.{is_edge}
use Rattle.ir_core.specs.Missing.{missing, edges_in, edges_of, is_some_edge}
use Rattle.ir_core.proofs.ItemLemmas.{end_item}
use Rattle.liveness.specs.Paths.{is_among, targets, is_caught, passes, fails, jumps, MetAt, entry, onward}
use Rattle.liveness.specs.Flood.{Comes, at_first, onward as further}
use Rattle.unset_tests.specs.declared.marks.Followed.TheVariants.{Paths}
use Rattle.unset_tests.specs.Ways.{caught_by, ways, leads_to, led_from}
use Rattle.unset_tests.proofs.Walking.{or_parts, or_first, or_second, among_front, among_back, among_parts, among_one, one_among, end_place, block_of_item, handled}
use Rattle.unset_tests.proofs.Reached.{met_over, met_next}

-- ---- targets
target_at : (ts : List ℕ) (t : ℕ) → is_among ts t ≡ true → (i : ℕ) × (slice_get ts i ≡ Some t)
target_at [] t e = absurd (cc)
target_at (x ∷ ts) t e =
    ⊎_elim (λ h. (0, ap (λ n. Some n) (eqb-true x t h))) (λ h. let rest = target_at ts t h in (suc rest.0, rest.1)) (or_parts (nat_eq x t) (is_among ts t) e)

at_target : (ts : List ℕ) (i t : ℕ) → slice_get ts i ≡ Some t → is_among ts t ≡ true
at_target [] i t e = absurd (cc)
at_target (x ∷ ts) zero t e = let same : x ≡ t = cc in or_first (nat_eq x t) (is_among ts t) (eq-eqb x t same)
at_target (x ∷ ts) (suc i) t e = or_second (nat_eq x t) (is_among ts t) (at_target ts i t e)

-- ---- operations that may fail behind which no edge stands
missing_caught : (at : ℕ → ℕ → Option Item) (e : Edge) (x : Option Item) → is_some_edge (missing at e x) ≡ is_caught at e x
missing_caught at NoEdge x = refl
missing_caught at (Tests r) x = by (is_edge at (Tests r) x)
  where
    by : (b : Bool) → is_some_edge (cond b NoEdge (Tests r)) ≡ not b
    by true = refl
    by false = refl
missing_caught at (TestsTwice r) x = by (is_edge at (TestsTwice r) x)
  where
    by : (b : Bool) → is_some_edge (cond b NoEdge (TestsTwice r)) ≡ not b
    by true = refl
    by false = refl
missing_caught at Jumps x = by (is_edge at Jumps x)
  where
    by : (b : Bool) → is_some_edge (cond b NoEdge Jumps) ≡ not b
    by true = refl
    by false = refl

module _ (regs : Declared) (blocks : List Block) (last : Last) where
  caught_there : (ops : List (Op × ℕ)) (p : ℕ) (o : Op) {line : ℕ} → in_block ops last p ≡ Some (Do o line) → is_caught (item_in blocks) (edge_of_op regs o) (in_block ops last (suc p)) ≡ true → list_any is_some_edge (edges_in regs blocks ops last) ≡ true
  caught_there [] zero o e caught = absurd (cc)
  caught_there [] (suc p) o e caught = absurd (cc)
  caught_there (x ∷ os) zero o e caught =
      let same : x.0 ≡ o = cc in
      or_first (is_some_edge (missing (item_in blocks) (edge_of_op regs x.0) (in_block os last 0))) (list_any is_some_edge (edges_in regs blocks os last))
      (missing_caught (item_in blocks) (edge_of_op regs x.0) (in_block os last 0) ∙ (ap (λ z. is_caught (item_in blocks) (edge_of_op regs z) (in_block os last 0)) same ∙ caught))
  caught_there (x ∷ os) (suc p) o e caught =
      or_second (is_some_edge (missing (item_in blocks) (edge_of_op regs x.0) (in_block os last 0))) (list_any is_some_edge (edges_in regs blocks os last)) (caught_there os p o e caught)

  record IsCaught (ops : List (Op × ℕ)) : Type 0 where
    pub place : ℕ
    pub o : Op
    pub line : ℕ
    pub item : in_block ops last place ≡ Some (Do o line)
    pub caught : is_caught (item_in blocks) (edge_of_op regs o) (in_block ops last (suc place)) ≡ true

  caught_from : (ops : List (Op × ℕ)) → list_any is_some_edge (edges_in regs blocks ops last) ≡ true → IsCaught ops
  caught_from [] e = absurd (cc)
  caught_from (x ∷ os) e =
      by (λ h. caught_from os h) (or_parts (is_some_edge (missing (item_in blocks) (edge_of_op regs x.0) (in_block os last 0))) (list_any is_some_edge (edges_in regs blocks os last)) e)
    where
      by : (list_any is_some_edge (edges_in regs blocks os last) ≡ true → IsCaught os) → (is_some_edge (missing (item_in blocks) (edge_of_op regs x.0) (in_block os last 0)) ≡ true) ⊎ (list_any is_some_edge (edges_in regs blocks os last) ≡ true) → IsCaught (x ∷ os)
      by more (inl h) =
          record { place = 0; o = x.0; line = x.1; item = refl; caught = sym (missing_caught (item_in blocks) (edge_of_op regs x.0) (in_block os last 0)) ∙ h }
      by more (inr h) =
          let c : IsCaught os = more h in
          record { place = suc c.place; o = c.o; line = c.line; item = c.item; caught = c.caught }

-- in front of each place but the first stands an operation
op_before : (ops : List (Op × ℕ)) (last : Last) (p : ℕ) (i : Item) → in_block ops last (suc p) ≡ Some i → (o : Op) × (line : ℕ) × (in_block ops last p ≡ Some (Do o line))
op_before [] last p i e = absurd (cc)
op_before (x ∷ os) last zero i e = (x.0, x.1, refl)
op_before (x ∷ os) last (suc p) i e = op_before os last p i e

-- ---- paths, block by block
module _ (f : Func) where
  abbrev next : ℕ → List ℕ
  next = led_from f.regs f.blocks Paths

  abbrev pub Reaches : ℕ → Type 0
  Reaches = Comes next (λ c. true) (0 ∷ [])

  module _ (b : ℕ) (k : Block) (at : slice_get f.blocks b ≡ Some k) where
    item_at : (p : ℕ) (i : Item) → in_block k.ops k.last p ≡ Some i → item_in f.blocks b p ≡ Some i
    item_at p i e = ap (λ z. item_of z p) at ∙ e

    met_to : MetAt f b 0 → (p : ℕ) (i : Item) → in_block k.ops k.last p ≡ Some i → MetAt f b p
    met_to m zero i e = m
    met_to m (suc p) i e =
        let before = op_before k.ops k.last p i e in
        met_next f b p before.0 (item_at p (Do before.0 before.1) before.2) (met_to m p (Do before.0 before.1) before.2)

    -- a block leads to blocks to which paths come
    ways_met : MetAt f b 0 → (t : ℕ) → is_among (ways f.regs f.blocks k) t ≡ true → MetAt f t 0
    ways_met m t e =
        ⊎_elim (λ h. from_handler k.handler refl h) from_end (among_parts (caught_by f.regs f.blocks k k.handler) (targets k.last) t e)
      where
        from_end : is_among (targets k.last) t ≡ true → MetAt f t 0
        from_end h =
            let to = target_at (targets k.last) t h in
            met_over f b (length k.ops) to.0 t k.last (item_at (length k.ops) (End k.last) (end_item k.ops k.last)) to.1 (met_to m (length k.ops) (End k.last) (end_item k.ops k.last))

        from_handler : (h : Option ℕ) → k.handler ≡ h → is_among (caught_by f.regs f.blocks k h) t ≡ true → MetAt f t 0
        from_handler None same among = absurd (cc)
        from_handler (Some h) same among = by (list_any is_some_edge (edges_of f.regs f.blocks k)) refl among
          where
            by : (c : Bool) → list_any is_some_edge (edges_of f.regs f.blocks k) ≡ c → is_among (cond c (h ∷ []) []) t ≡ true → MetAt f t 0
            by false is x = absurd (cc)
            by true is x =
                let c : IsCaught f.regs f.blocks k.last k.ops = caught_from f.regs f.blocks k.last k.ops is in
                let here : item_in f.blocks b c.place ≡ Some (Do c.o c.line) = item_at c.place (Do c.o c.line) c.item in
                let caught : is_caught (item_in f.blocks) (edge_of_op f.regs c.o) (item_in f.blocks b (suc c.place)) ≡ true =
                ap (λ z. is_caught (item_in f.blocks) (edge_of_op f.regs c.o) (item_of z (suc c.place))) at ∙ c.caught in
                let handles = ap handled at ∙ same in
                subst (λ z. MetAt f z 0) (among_one h t x) (onward b c.place h 0 (met_to m c.place (Do c.o c.line) c.item) (fails b c.place h c.o here caught handles))

    led : (t : ℕ) → is_among (ways f.regs f.blocks k) t ≡ true → is_among (next b) t ≡ true
    led t e = ap (λ z. is_among (option_map_or (leads_to f.regs f.blocks Paths) z []) t) at ∙ e

  pub reaches_met : (t : ℕ) → Reaches t → MetAt f t 0
  reaches_met t (at_first t2 e enters) = subst (λ z. MetAt f z 0) (among_one 0 t e) entry
  reaches_met t (further b t2 c e enters) = by (reaches_met b c) (slice_get f.blocks b) refl e
    where
      by : MetAt f b 0 → (o : Option Block) → slice_get f.blocks b ≡ o → is_among (option_map_or (leads_to f.regs f.blocks Paths) o []) t ≡ true → MetAt f t 0
      by m None at among = absurd (cc)
      by m (Some k) at among = ways_met b k at m t among

  pub met_reaches : (b p : ℕ) → MetAt f b p → Reaches b
  met_reaches b p entry = at_first 0 (one_among 0) refl
  met_reaches b p (onward x y c q m (passes x2 y2 o e)) = met_reaches x y m
  met_reaches b p (onward x y c q m (fails x2 y2 h o {line} e caught handler)) =
      let found = block_of_item f.blocks x y (Do o line) e in
      let k : Block = found.0 in
      let behind : is_caught (item_in f.blocks) (edge_of_op f.regs o) (in_block k.ops k.last (suc y)) ≡ true =
      sym (ap (λ z. is_caught (item_in f.blocks) (edge_of_op f.regs o) (item_of z (suc y))) found.1) ∙ caught in
      let some : list_any is_some_edge (edges_of f.regs f.blocks k) ≡ true = caught_there f.regs f.blocks k.last k.ops y o found.2 behind in
      let handles : k.handler ≡ Some b = sym (ap handled found.1) ∙ handler in
      let among : is_among (caught_by f.regs f.blocks k k.handler) b ≡ true =
      ap (λ z. is_among (caught_by f.regs f.blocks k z) b) handles ∙ (ap (λ z. is_among (cond z (b ∷ []) []) b) some ∙ one_among b) in
      further x b (met_reaches x y m) (led x k found.1 b (among_front (caught_by f.regs f.blocks k k.handler) (targets k.last) b among)) refl
  met_reaches b p (onward x y c q m (jumps x2 y2 i t l e at)) =
      let found = block_of_item f.blocks x y (End l) e in
      let k : Block = found.0 in
      let end = end_place k.ops k.last y l found.2 in
      let among : is_among (targets k.last) b ≡ true = at_target (targets k.last) i b (ap (λ z. slice_get (targets z) i) end.1 ∙ at) in
      further x b (met_reaches x y m) (led x k found.1 b (among_back (caught_by f.regs f.blocks k k.handler) (targets k.last) b among)) refl
