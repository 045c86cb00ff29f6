-- Behind each operation that can fail stands its edge.
use Rattle.std.proofs.Common.{◌≡◌, refl, sym, ◌∙◌, ap, subst, ℕ, zero, suc, ◌+◌, ◌<◌, arith, Bool, true, false, cond, List, [], ◌∷◌, ◌++◌, length, map, Option, Some, None, ◌⊎◌, inl, inr}
use Rattle.std.specs.Prelude.{slice_get, nat_eq}
use Rattle.std.specs.Option.{option_map}
use Rattle.std.proofs.lemmas.Bool.{and_from, and_parts, eq-eqb, ltb-true}
use Rattle.std.proofs.lemmas.List.{length-map}
use Rattle.c_core.specs.declared.code.Kind.{Kind}
use Rattle.c_core.specs.declared.code.Code.{Code}
use Rattle.c_core.specs.WellFormed.{Declared as Variable, is_declared, spelled_line}
use Rattle.ir_core.specs.declared.code.RType.{RType}
use Rattle.ir_core.specs.declared.code.Reg.{Reg}
use Rattle.ir_core.specs.declared.code.Op.{Op}
use Rattle.ir_core.specs.declared.code.Op.TheVariants.{Move, Lit, Prim, Call, Virtual, TraitCall, Turn, Inc, Dec, XDec}
use Rattle.ir_core.specs.declared.code.Last.{Last}
use Rattle.ir_core.specs.declared.code.Last.TheVariants.{Goto, IfError}
use Rattle.ir_core.specs.declared.code.Block.{Block}
use Rattle.ir_core.specs.declared.code.Func.{Func}
use Rattle.ir_core.specs.declared.code.Program.{Program}
use Rattle.ir_core.specs.declared.kind.Edge.{Edge}
use Rattle.ir_core.specs.declared.kind.Edge.TheVariants.{NoEdge, Tests, TestsTwice, Jumps}
use Rattle.ir_core.specs.Items.{Item, Do, End, in_block, item_in, handler_of}
use Rattle.ir_core.specs.Rows.{kind_by_result, error_kind, edge_of_kind, Declared, type_of_reg, edge_of_op}
use Rattle.ir_core.specs.Meaning.{is_second_test, is_edge}
use Rattle.ir_core.specs.Lower.{variable_of, line_of, op_lines, label_before, label_of, end_lines, block_lines, lines_from}
use Rattle.ir_core.proofs.TextLemmas.{LinesAre, lines_parts}
use Rattle.ir_core.specs.Missing.{missing, edges_in}
use Rattle.error_edges.specs.Layout.{needs_exit, size_of, moved, target_of, block_of, second_test, cut_at, cut, flag_register, error_register, chain, chains, exit_block, exit_blocks}
use Rattle.error_edges.specs.Edged.{IsEdged, HasEdges}
use Rattle.error_edges.proofs.Laid.{FunctionLaid}
use Rattle.error_edges.proofs.Laying.{At, at_first, at_rest, at_append, more_regs, function_laid, laid_chains, chains_at, chains_are}
use Rattle.error_edges.proofs.LayoutLemmas.{chain_count}
use Rattle.error_edges.proofs.EdgeLemmas.{no_edge, second_laid, kept_edge}

-- ---- the types of registers that are declared stay
at_front : {A : Type 0} (xs ys : List A) (i : ℕ) → i < length xs → slice_get (xs ++ ys) i ≡ slice_get xs i
at_front [] ys i lt = absurd (omega (arith, lt))
at_front (x ∷ xs) ys zero lt = refl
at_front (x ∷ xs) ys (suc i) lt = at_front xs ys i (omega (arith, lt))

module _ (p : Program) (ds more es : Declared) (is : es ≡ ds ++ more) where
  abbrev vars : List Variable
  vars = map variable_of ds

  same_type : (r : Reg) → is_declared vars r.0 ≡ true → type_of_reg es r ≡ type_of_reg ds r
  same_type r declared =
      let lt : r.0 < length vars = ltb-true r.0 (length vars) declared in
      ap (λ z. type_of_reg z r) is ∙ ap (option_map (λ (x : List ℕ × RType). x.1)) (at_front ds more r.0 (omega (arith, lt, length-map ds variable_of)))

  -- so an operation wants the same edge
  same_edge : (o : Op) → spelled_line vars (line_of p o) ≡ true → edge_of_op es o ≡ edge_of_op ds o
  same_edge (Move r s) h = refl
  same_edge (Lit r l) h = refl
  same_edge (Prim None q args) h = refl
  same_edge (Prim (Some r) q args) h =
      ap (λ t. edge_of_kind (error_kind q t) (Some r)) (same_type r (and_parts (is_declared vars r.0) _ h).0)
  same_edge (Call r n args) h =
      ap (λ t. edge_of_kind (kind_by_result t) (Some r)) (same_type r (and_parts (is_declared vars r.0) _ h).0)
  same_edge (Virtual r o n args) h =
      ap (λ t. edge_of_kind (kind_by_result t) (Some r)) (same_type r (and_parts (is_declared vars r.0) _ h).0)
  same_edge (TraitCall r o t n args) h =
      ap (λ t. edge_of_kind (kind_by_result t) (Some r)) (same_type r (and_parts (is_declared vars r.0) _ h).0)
  same_edge Turn h = refl
  same_edge (Inc r) h = refl
  same_edge (Dec r) h = refl
  same_edge (XDec r) h = refl

  abbrev Same : List (Op × ℕ) → Type 0
  Same [] = Unit {0}
  Same (o ∷ os) = (edge_of_op es o.0 ≡ edge_of_op ds o.0) × Same os

  abbrev AllSame : List Block → Type 0
  AllSame [] = Unit {0}
  AllSame (b ∷ bs) = Same b.ops × AllSame bs

  module _ (code : Code) (ret : Kind) where
    ops_same : (ops : List (Op × ℕ)) → LinesAre code vars ret (op_lines p ops) → Same ops
    ops_same [] h = tt
    ops_same (o ∷ os) h = (same_edge o.0 h.0.0, ops_same os h.1)

    blocks_same : (k : ℕ) (bs : List Block) → LinesAre code vars ret (lines_from p k bs) → AllSame bs
    blocks_same k [] h = tt
    blocks_same k (b ∷ bs) h =
        let both = lines_parts code vars ret (block_lines p k b) (lines_from p (suc k) bs) h in
        let body = (lines_parts code vars ret (label_before k) (op_lines p b.ops ++ end_lines label_of k b.last) both.0).1 in
        let parts = lines_parts code vars ret (op_lines p b.ops) (end_lines label_of k b.last) body in
        (ops_same b.ops parts.0, blocks_same (suc k) bs both.1)

-- ---- a function, and the one with edges
module _ (p : Program) (f g : Func) (edged : IsEdged f g) where
  abbrev ds : Declared
  ds = f.regs

  -- all items of the old function, and of the new one
  abbrev was : ℕ → ℕ → Option Item
  was = item_in f.blocks

  abbrev is : ℕ → ℕ → Option Item
  is = item_in g.blocks

  abbrev laid : FunctionLaid f g
  laid = function_laid f g edged

  abbrev OpsSame : List (Op × ℕ) → Type 0
  OpsSame = Same p ds (more_regs f g edged).0 g.regs (more_regs f g edged).1

  abbrev BlocksSame : List Block → Type 0
  BlocksSame = AllSame p ds (more_regs f g edged).0 g.regs (more_regs f g edged).1

  abbrev HasEdge : Edge → Option Item → Type 0
  HasEdge e item = (e ≡ NoEdge) ⊎ (is_edge is e item ≡ true)

  abbrev Stand : List (Op × ℕ) → Last → Type 0
  Stand [] last = Unit {0}
  Stand (o ∷ os) last = HasEdge (edge_of_op g.regs o.0) (in_block os last 0) × Stand os last

  abbrev AllStand : List Block → Type 0
  AllStand [] = Unit {0}
  AllStand (b ∷ bs) = Stand b.ops b.last × AllStand bs

  all_append : (xs ys : List Block) → AllStand xs → AllStand ys → AllStand (xs ++ ys)
  all_append [] ys h k = k
  all_append (x ∷ xs) ys h k = (h.0, all_append xs ys h.1 k)

  -- operations that cannot fail
  abbrev Calm : List (Op × ℕ) → Type 0
  Calm [] = Unit {0}
  Calm (o ∷ os) = (edge_of_op g.regs o.0 ≡ NoEdge) × Calm os

  calm_more : (done : List (Op × ℕ)) (o : Op × ℕ) → Calm done → edge_of_op g.regs o.0 ≡ NoEdge → Calm (done ++ o ∷ [])
  calm_more [] o h e = (e, tt)
  calm_more (x ∷ done) o h e = (h.0, calm_more done o h.1 e)

  -- and one behind them that has its edge
  calm_then : (done : List (Op × ℕ)) (o : Op × ℕ) (last : Last) → Calm done → HasEdge (edge_of_op g.regs o.0) (Some (End last)) → Stand (done ++ o ∷ []) last
  calm_then [] o last h k = (k, tt)
  calm_then (x ∷ done) o last h k = (inl h.0, calm_then done o last h.1 k)

  -- ---- one chain
  module _ (target : ℕ) (flag : Reg) where
    at_stands : (e : Edge) (more : ℕ → List (Op × ℕ) → List Block) (n : ℕ) (ops : List (Op × ℕ)) (line : ℕ) → At is n (cut_at target flag e n ops line more) → (e ≡ NoEdge → At is n (more n ops) → AllStand (more n ops)) → ((l : Last) → is_edge is e (Some (End l)) ≡ true → Stand ops l) → ((m : ℕ) → At is m (more m []) → AllStand (more m [])) → AllStand (cut_at target flag e n ops line more)
    at_stands NoEdge more n ops line at same ends rest = same refl at
    at_stands (Tests r) more n ops line at same ends rest =
        (ends (IfError r target (n + 1) line) (eq-eqb r.0 r.0 refl), rest (n + 1) (at_rest is n _ (more (n + 1) []) at))
    at_stands (TestsTwice r) more n ops line at same ends rest =
        let first : Block = block_of ops (IfError r (n + 1) (n + 2) line) in
        let test : Block = second_test target flag line (n + 2) in
        let second = at_rest is n first (test ∷ more (n + 2) []) at in
        let two : n + 1 + 1 ≡ n + 2 = omega arith in
        let asked = second_laid is (n + 1) (n + 2) target flag (at_first is (n + 1) test (more (n + 2) []) second 0) (at_first is (n + 1) test (more (n + 2) []) second 1) in (
          ends (IfError r (n + 1) (n + 2) line) (and_from (nat_eq r.0 r.0) (is_second_test (is (n + 1) 0) (is (n + 1) 1) (n + 2)) (eq-eqb r.0 r.0 refl) asked),
          ((inl refl, tt), rest (n + 2) (subst (λ k. At is k (more (n + 2) [])) two (at_rest is (n + 1) test (more (n + 2) []) second))),
        )
    at_stands Jumps more n ops line at same ends rest =
        (ends (Goto target) refl, rest (n + 1) (at_rest is n _ (more (n + 1) []) at))

    -- what stands in the block already, where these operations are left
    abbrev Ready : List (Op × ℕ) → List (Op × ℕ) → Last → Type 0
    Ready done [] end = Stand done end
    Ready done (o ∷ os) end = Calm done

    nothing_yet : (os : List (Op × ℕ)) (end : Last) → Ready [] os end
    nothing_yet [] end = tt
    nothing_yet (o ∷ os) end = tt

    module _ (last : Last) where
      abbrev end : Last
      end = moved laid.start last

      -- no edge is missing behind an operation
      none_missing : (done : List (Op × ℕ)) (o : Op × ℕ) (os : List (Op × ℕ)) → edge_of_op g.regs o.0 ≡ edge_of_op ds o.0 → Calm done → missing was (edge_of_op ds o.0) (in_block os last 0) ≡ NoEdge → Ready (done ++ o ∷ []) os end
      none_missing done o os same h e = by (is_edge was (edge_of_op ds o.0) (in_block os last 0)) refl e
        where
          stands : (os : List (Op × ℕ)) → is_edge was (edge_of_op ds o.0) (in_block os last 0) ≡ true → Ready (done ++ o ∷ []) os end
          stands [] k =
              calm_then done o end h (inr (ap (λ m. is_edge is m (Some (End end))) same ∙ kept_edge f g laid (edge_of_op ds o.0) last k))
          stands (x ∷ os) k = absurd (no_edge was (edge_of_op ds o.0) x.0 x.1 k)

          wants_none : (os : List (Op × ℕ)) → edge_of_op ds o.0 ≡ NoEdge → Ready (done ++ o ∷ []) os end
          wants_none [] k = calm_then done o end h (inl (same ∙ k))
          wants_none (x ∷ os) k = calm_more done o h (same ∙ k)

          by : (b : Bool) → is_edge was (edge_of_op ds o.0) (in_block os last 0) ≡ b → cond b NoEdge (edge_of_op ds o.0) ≡ NoEdge → Ready (done ++ o ∷ []) os end
          by true k none = stands os k
          by false k none = wants_none os none

      -- an edge is missing: then it is the operation's own
      own_edge : (e : Edge) (item : Option Item) (l : Last) → is_edge is (missing was e item) (Some (End l)) ≡ true → is_edge is e (Some (End l)) ≡ true
      own_edge e item l h = by (is_edge was e item) h
        where
          by : (b : Bool) → is_edge is (cond b NoEdge e) (Some (End l)) ≡ true → is_edge is e (Some (End l)) ≡ true
          by true k = absurd (cc)
          by false k = k

      cut_stands : (os : List (Op × ℕ)) (n : ℕ) (done : List (Op × ℕ)) → OpsSame os → Ready done os end → At is n (cut target flag os (edges_in ds f.blocks os last) end n done) → AllStand (cut target flag os (edges_in ds f.blocks os last) end n done)
      cut_stands [] n done same h at = (h, tt)
      cut_stands (o ∷ os) n done same h at =
          at_stands (missing was (edge_of_op ds o.0) (in_block os last 0)) (cut target flag os (edges_in ds f.blocks os last) end) n (done ++ o ∷ []) o.1 at
          (λ e there. cut_stands os n (done ++ o ∷ []) same.1 (none_missing done o os same.0 h e) there)
          (λ l e. calm_then done o l h (inr (ap (λ m. is_edge is m (Some (End l))) same.0 ∙ own_edge (edge_of_op ds o.0) (in_block os last 0) l e)))
          (λ m there. cut_stands os m [] same.1 (nothing_yet os end) there)

  -- ---- all blocks
  chains_stand : (bs : List Block) (n : ℕ) → BlocksSame bs → At is n (chains ds f.blocks laid.start laid.exit bs n) → AllStand (chains ds f.blocks laid.start laid.exit bs n)
  chains_stand [] n same at = tt
  chains_stand (b ∷ bs) n same at =
      let target : ℕ = target_of laid.start laid.exit (handler_of b) in
      let next : ℕ = n + size_of ds f.blocks b in
      let one : List Block = chain ds f.blocks laid.start laid.exit b n in
      let rest : List Block = chains ds f.blocks laid.start laid.exit bs next in
      let parts = at_append is n one rest at in
      all_append one rest
      (cut_stands target (flag_register ds) b.last b.ops n [] same.0 (nothing_yet target (flag_register ds) b.ops (moved laid.start b.last)) parts.0)
      (chains_stand bs next same.1 (subst (λ c. At is (n + c) rest) (chain_count ds f.blocks laid.start laid.exit b n) parts.1))

  exit_stands : AllStand (exit_blocks ds f.ret f.blocks)
  exit_stands = by (needs_exit ds f.blocks)
    where
      by : (b : Bool) → AllStand (cond b (exit_block (error_register ds f.blocks) f.ret ∷ []) [])
      by true = ((inl refl, tt), tt)
      by false = tt

  all_stand : BlocksSame f.blocks → AllStand g.blocks
  all_stand same =
      subst AllStand (chains_are f g edged)
      (all_append (laid_chains f g edged) (exit_blocks ds f.ret f.blocks) (chains_stand f.blocks 0 same (chains_at f g edged)) exit_stands)

  -- ---- by places
  in_ops : (ops : List (Op × ℕ)) (last : Last) (i : ℕ) (o : Op) {line : ℕ} → Stand ops last → in_block ops last i ≡ Some (Do o line) → HasEdge (edge_of_op g.regs o) (in_block ops last (i + 1))
  in_ops [] last zero o h e = absurd (cc)
  in_ops [] last (suc i) o h e = absurd (cc)
  in_ops (x ∷ ops) last zero o h e =
      let same : x.0 ≡ o = cc in
      let one : 0 + 1 ≡ 1 = omega arith in
      subst (λ z. HasEdge (edge_of_op g.regs z) (in_block ops last 0)) same h.0
  in_ops (x ∷ ops) last (suc i) o h e =
      let z : suc i + 1 ≡ suc (i + 1) = omega arith in
      subst (λ n. HasEdge (edge_of_op g.regs o) (in_block (x ∷ ops) last n)) (sym z) (in_ops ops last i o h.1 e)

  in_blocks : (bs : List Block) (k i : ℕ) (o : Op) {line : ℕ} → AllStand bs → item_in bs k i ≡ Some (Do o line) → HasEdge (edge_of_op g.regs o) (item_in bs k (i + 1))
  in_blocks [] k i o h e = absurd (cc)
  in_blocks (b ∷ bs) zero i o h e = in_ops b.ops b.last i o h.0 e
  in_blocks (b ∷ bs) (suc k) i o h e = in_blocks bs k i o h.1 e

  -- its lines are spelled, so the registers in them are declared
  pub has_edges : (code : Code) (ret : Kind) → LinesAre code (map variable_of ds) ret (lines_from p 0 f.blocks) → HasEdges g
  has_edges code ret lines k i o line e =
      in_blocks g.blocks k i o (all_stand (blocks_same p ds (more_regs f g edged).0 g.regs (more_regs f g edged).1 code ret 0 f.blocks lines)) e
