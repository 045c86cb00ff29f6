-- The same block by block: whether a register may be unset at the end of a block, and to which blocks it comes unset.
use Rattle.std.specs.Prelude.{◌≡◌, ◌<◌, ◌↔◌, ℕ, suc, Bool, true, false, not, ◌&&◌, ◌||◌, cond, nat_eq, List, [], ◌∷◌, ◌++◌, length, Some, slice_get, get_or}
use Rattle.std.specs.List.{list_any}
use Rattle.std.specs.Option.{option_to_list}
use Rattle.ir_core.specs.declared.code.Op.{Op}
use Rattle.ir_core.specs.declared.code.Last.{Last}
use Rattle.ir_core.specs.declared.code.Last.TheVariants.{Goto, IfError}
use Rattle.ir_core.specs.declared.code.Block.{Block}
use Rattle.ir_core.specs.Items.{in_block}
use Rattle.ir_core.specs.Rows.{Declared, edge_of_op}
use Rattle.ir_core.specs.Missing.{is_some_edge}
use Rattle.liveness.specs.Paths.{is_target, write_of}
use Rattle.unset_tests.specs.Unset.{sets, is_passed, goes_unset, ends_in_failure, UnsetAt}
use Rattle.unset_tests.specs.Without.{Stays}

-- whether a register may be unset behind an operation that was passed or failed, by whether it may be so before it
abbrev pub left_unset : Declared → ℕ → Op → Bool → Bool
left_unset regs r o before = cond (is_target (write_of o) r) (not (sets regs o)) before

module _ (regs : Declared) (r : ℕ) (last : Last) where
  -- behind the first of some operations, if it is passed
  abbrev pub passed_unset : Op × ℕ → List (Op × ℕ) → Bool → Bool
  passed_unset o os before = is_passed (edge_of_op regs o.0) (in_block os last 0) && left_unset regs r o.0 before

  -- behind all of them
  abbrev pub end_unset : List (Op × ℕ) → Bool → Bool
  end_unset [] before = before
  end_unset (o ∷ os) before = end_unset os (passed_unset o os before)

  -- whether it may be unset where one of them fails
  abbrev pub caught_unset : List (Op × ℕ) → Bool → Bool
  caught_unset [] before = false
  caught_unset (o ∷ os) before =
      (is_some_edge (edge_of_op regs o.0) && left_unset regs r o.0 before) || caught_unset os (passed_unset o os before)

-- whether one of some operations leaves a register unset that was set before
abbrev pub leave_unset : Declared → ℕ → List (Op × ℕ) → Bool
leave_unset regs r ops = list_any (λ o. left_unset regs r o.0 false) ops

-- to which blocks it comes unset from a block
abbrev pub onward : Declared → ℕ → Block → Bool → List ℕ
onward regs r b before =
    cond (caught_unset regs r b.last b.ops before) (option_to_list b.handler) [] ++ cond (end_unset regs r b.last b.ops before) (goes_unset r b.last) []

-- no operation leaves it so, unless that is told
abbrev pub IsSureOf : Declared → List Block → ℕ → Bool → Type 0
IsSureOf regs blocks r is_unsure =
    (k : ℕ) (b : Block) → slice_get blocks k ≡ Some b → leave_unset regs r b.ops ≡ true → is_unsure ≡ true

-- marks of the blocks at whose start it may be unset
abbrev pub AreUnset : Declared → List Block → ℕ → List Bool → Type 0
AreUnset regs blocks r marks =
    (t : ℕ) → t < length blocks → (get_or marks t false ≡ true) ↔ UnsetAt regs blocks r t 0

-- ---- tests

-- whether an end, or a block's end, tests a register
abbrev pub is_tested_by : ℕ → Last → Bool
is_tested_by r (IfError s e n line) = nat_eq s.0 r
is_tested_by r _ = false

abbrev pub is_test_of : ℕ → Block → Bool
is_test_of r b = is_tested_by r b.last

-- by marks for a register whether a block's test of it may go
abbrev pub may_go : Declared → ℕ → Block → Bool → Bool
may_go regs r b marked = not (ends_in_failure regs b.ops || end_unset regs r b.last b.ops marked)

-- and of a block that tests another register or none what was settled before
abbrev pub settled : Declared → ℕ → Block → Bool → Bool → Bool
settled regs r b marked was = cond (is_test_of r b) (may_go regs r b marked) was

-- which tests go, by block: those that are marked; each block of which the test goes jumps to where it would go on
abbrev pub left_out : Bool → Last → Last
left_out true (IfError r e n line) = Goto n
left_out goes last = last

abbrev pub blocks_without : List Bool → ℕ → List Block → List Block
blocks_without sure k [] = []
blocks_without sure k (b ∷ bs) = record b { last = left_out (get_or sure k false) b.last } ∷ blocks_without sure (suc k) bs

-- the tests of registers that may go are marked, and no others
abbrev pub AreSure : Declared → List Block → List Bool → Type 0
AreSure regs blocks sure =
    (k r : ℕ) (b : Block) → slice_get blocks k ≡ Some b → is_test_of r b ≡ true → ((get_or sure k false ≡ true) → Stays regs blocks k b.ops r → ⊥) × ((get_or sure k false ≡ false) → Stays regs blocks k b.ops r)
