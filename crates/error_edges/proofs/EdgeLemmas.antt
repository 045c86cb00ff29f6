-- What stands behind an operation as its edge stands behind it in the function with edges too.
use Rattle.std.proofs.Common.{◌≡◌, refl, ap, subst, ℕ, true, false, List, [], ◌∷◌, Option, Some, None}
use Rattle.std.specs.Prelude.{slice_get, nat_eq}
use Rattle.std.specs.Option.{option_map_or}
use Rattle.std.proofs.lemmas.Bool.{and_from, and_parts, eq-eqb, eqb-true}
use Rattle.c_core.specs.declared.primitive.Primitive.TheVariants as prim
use Rattle.c_core.specs.declared.primitive.ErrPrim.TheVariants as err
use Rattle.ir_core.specs.declared.code.Reg.{Reg}
use Rattle.ir_core.specs.declared.code.Op.{Op}
use Rattle.ir_core.specs.declared.code.Op.TheVariants.{Prim}
use Rattle.ir_core.specs.declared.code.Last.{Last}
use Rattle.ir_core.specs.declared.code.Last.TheVariants.{Goto, If, IfError, Return, Unreachable}
use Rattle.ir_core.specs.declared.code.Block.{Block}
use Rattle.ir_core.specs.declared.code.Func.{Func}
use Rattle.ir_core.specs.declared.kind.Edge.{Edge}
use Rattle.ir_core.specs.declared.kind.Edge.TheVariants.{NoEdge, Tests, TestsTwice, Jumps}
use Rattle.ir_core.specs.Items.{Item, Do, End, in_block, item_of, item_in, handler_of}
use Rattle.ir_core.specs.Rows.{Declared, edge_of_op}
use Rattle.ir_core.specs.Meaning.{question_of, question, is_answered, is_second_test, is_edge}
use Rattle.ir_core.specs.Missing.{missing}
use Rattle.error_edges.specs.Layout.{moved, target_of, flag_register, asking}
use Rattle.error_edges.proofs.Laid.{LaidAfter, Escapes, Asked, BlockStands, FunctionLaid}

-- an operation is no edge
pub no_edge : (at : ℕ → ℕ → Option Item) (m : Edge) (o : Op) (line : ℕ) → is_edge at m (Some (Do o line)) ≡ true → ⊥
no_edge at NoEdge o line e = cc
no_edge at (Tests r) o line e = cc
no_edge at (TestsTwice r) o line e = cc
no_edge at Jumps o line e = cc

-- the test of the pending exception, as it is laid out
pub second_laid : (at : ℕ → ℕ → Option Item) (k n t : ℕ) (flag : Reg) {line : ℕ} → at k 0 ≡ Some (Do (asking flag) line) → at k 1 ≡ Some (End (If flag t n)) → is_second_test (at k 0) (at k 1) n ≡ true
second_laid at k n t flag first second =
    rw (first, second) (and_from (nat_eq flag.0 flag.0) (nat_eq n n) (eq-eqb flag.0 flag.0 refl) (eq-eqb n n refl))

-- the question whether an exception is pending never fails
asks_calmly : (ds : Declared) (o : Op) (flag : Reg) → question_of o ≡ Some flag → edge_of_op ds o ≡ NoEdge
asks_calmly ds (Prim (Some r) (prim.Err err.Occurred) []) flag e = refl
asks_calmly ds _ flag e = absurd (cc)

none_missing : (at : ℕ → ℕ → Option Item) (e : Edge) (item : Option Item) → e ≡ NoEdge → missing at e item ≡ NoEdge
none_missing at e item is = rw is refl

-- what is asked
asked_by : (q : Option Reg) (second : Option Item) (n : ℕ) → option_map_or (is_answered second n) q false ≡ true → (flag : Reg) × (q ≡ Some flag) × (is_answered second n flag ≡ true)
asked_by None second n e = absurd (cc)
asked_by (Some flag) second n e = (flag, refl, e)

module _ (f g : Func) (laid : FunctionLaid f g) where
  answer_kept : (l : Last) (n : ℕ) (flag : Reg) → is_answered (Some (End l)) n flag ≡ true → is_answered (Some (End (moved laid.start l))) (laid.start n) flag ≡ true
  answer_kept (Goto t) n flag e = absurd (cc)
  answer_kept (If r a b) n flag e =
      let both = and_parts (nat_eq flag.0 r.0) (nat_eq b n) e in
      and_from (nat_eq flag.0 r.0) (nat_eq (laid.start b) (laid.start n)) both.0
      (eq-eqb (laid.start b) (laid.start n) (ap laid.start (eqb-true b n both.1)))
  answer_kept (IfError r a b line) n flag e = absurd (cc)
  answer_kept (Return r) n flag e = absurd (cc)
  answer_kept Unreachable n flag e = absurd (cc)

  second_kept : (k n : ℕ) → is_second_test (item_in f.blocks k 0) (item_in f.blocks k 1) n ≡ true → is_second_test (item_in g.blocks (laid.start k) 0) (item_in g.blocks (laid.start k) 1) (laid.start n) ≡ true
  second_kept k n e = by (slice_get f.blocks k) refl
    where
      in_ops : (b : Block) (ops : List (Op × ℕ)) → BlockStands f g laid.start laid.exit b ops b.last (laid.start k) 0 → is_second_test (in_block ops b.last 0) (in_block ops b.last 1) n ≡ true → is_second_test (item_in g.blocks (laid.start k) 0) (item_in g.blocks (laid.start k) 1) (laid.start n) ≡ true
      in_ops b [] stands h = absurd (cc)
      in_ops b (o ∷ []) stands h =
          let asked = asked_by (question (Some (Do o.0 o.1))) (Some (End b.last)) n h in
          let calm : edge_of_op f.regs o.0 ≡ NoEdge = asks_calmly f.regs o.0 asked.0 asked.1 in
          let behind : item_in g.blocks (laid.start k) 1 ≡ Some (End (moved laid.start b.last)) =
          subst (λ m. LaidAfter (item_in g.blocks) laid.start (target_of laid.start laid.exit (handler_of b)) (flag_register f.regs) (Asked g (flag_register f.regs)) (Escapes g laid.exit (handler_of b)) f.regs f.blocks m o.1 (laid.start k) 0 (λ j i. item_in g.blocks j i ≡ Some (End (moved laid.start b.last))))
          (none_missing (item_in f.blocks) (edge_of_op f.regs o.0) (Some (End b.last)) calm) stands.1 in
          rw (stands.0, behind, asked.1) (answer_kept b.last n asked.0 asked.2)
      in_ops b (o ∷ p ∷ os) stands h =
          let asked = asked_by (question (Some (Do o.0 o.1))) (Some (Do p.0 p.1)) n h in absurd (cc (asked.2))

      by : (b : Option Block) → slice_get f.blocks k ≡ b → is_second_test (item_in g.blocks (laid.start k) 0) (item_in g.blocks (laid.start k) 1) (laid.start n) ≡ true
      by None is =
          let none : is_second_test (item_of None 0) (item_of None 1) n ≡ true =
          subst (λ z. is_second_test (item_of z 0) (item_of z 1) n ≡ true) is e in absurd (cc)
      by (Some b) is =
          in_ops b b.ops (laid.blocks k b is) (subst (λ z. is_second_test (item_of z 0) (item_of z 1) n ≡ true) is e)

  pub kept_edge : (m : Edge) (l : Last) → is_edge (item_in f.blocks) m (Some (End l)) ≡ true → is_edge (item_in g.blocks) m (Some (End (moved laid.start l))) ≡ true
  kept_edge NoEdge l e = absurd (cc)
  kept_edge (Tests r) (Goto t) e = absurd (cc)
  kept_edge (Tests r) (If s a b) e = absurd (cc)
  kept_edge (Tests r) (IfError s a b line) e = e
  kept_edge (Tests r) (Return s) e = absurd (cc)
  kept_edge (Tests r) Unreachable e = absurd (cc)
  kept_edge (TestsTwice r) (Goto t) e = absurd (cc)
  kept_edge (TestsTwice r) (If s a b) e = absurd (cc)
  kept_edge (TestsTwice r) (IfError s a b line) e =
      let both = and_parts (nat_eq r.0 s.0) (is_second_test (item_in f.blocks a 0) (item_in f.blocks a 1) b) e in
      and_from (nat_eq r.0 s.0) (is_second_test (item_in g.blocks (laid.start a) 0) (item_in g.blocks (laid.start a) 1) (laid.start b)) both.0 (second_kept a b both.1)
  kept_edge (TestsTwice r) (Return s) e = absurd (cc)
  kept_edge (TestsTwice r) Unreachable e = absurd (cc)
  kept_edge Jumps (Goto t) e = refl
  kept_edge Jumps (If s a b) e = absurd (cc)
  kept_edge Jumps (IfError s a b line) e = absurd (cc)
  kept_edge Jumps (Return s) e = absurd (cc)
  kept_edge Jumps Unreachable e = absurd (cc)
