-- Which blocks paths reach, block by block: to which ones a block leads, and where one comes from some over what they lead to.
use Rattle.std.specs.Prelude.{◌≡◌, ◌<◌, ◌↔◌, ℕ, suc, Bool, true, false, cond, List, [], ◌∷◌, ◌++◌, length, Option, Some, None, slice_get, get_or}
use Rattle.std.specs.List.{list_any}
use Rattle.std.specs.Option.{option_map_or}
use Rattle.ir_core.specs.declared.code.Block.{Block}
use Rattle.ir_core.specs.declared.code.Func.{Func}
use Rattle.ir_core.specs.Rows.{Declared}
use Rattle.ir_core.specs.Missing.{edges_of, is_some_edge}
use Rattle.liveness.specs.Paths.{targets, MetAt}
use Rattle.liveness.specs.Flood.{Comes}
use Rattle.unset_tests.specs.declared.marks.Followed.{Followed}
use Rattle.unset_tests.specs.declared.marks.Followed.TheVariants.{Register, Paths}
use Rattle.unset_tests.specs.Emptied.{empty_block}
use Rattle.unset_tests.specs.Walk.{onward}

module _ (regs : Declared) (blocks : List Block) where
  -- the handler, where an operation of the block may fail behind which no edge stands
  abbrev pub caught_by : Block → Option ℕ → List ℕ
  caught_by b None = []
  caught_by b (Some h) = cond (list_any is_some_edge (edges_of regs blocks b)) (h ∷ []) []

  -- to which blocks a path goes from a block
  abbrev pub ways : Block → List ℕ
  ways b = caught_by b b.handler ++ targets b.last

  -- to which ones a block leads: those to which a register comes that is unset at its start, or any path
  abbrev pub leads_to : Followed → Block → List ℕ
  leads_to (Register r) b = onward regs r b true
  leads_to Paths b = ways b

  abbrev pub led_from : Followed → ℕ → List ℕ
  led_from followed k = option_map_or (leads_to followed) (slice_get blocks k) []

  -- marks of the blocks to which one comes from those that are tried first
  abbrev pub AreSpread : Followed → List ℕ → List Bool → Type 0
  AreSpread followed tried marks =
      (t : ℕ) → t < length blocks → (get_or marks t false ≡ true) ↔ Comes (led_from followed) (λ c. true) tried t

-- marks of the blocks to which some path comes from the function's beginning
abbrev pub AreReached : Func → List Bool → Type 0
AreReached f marks = (t : ℕ) → t < length f.blocks → (get_or marks t false ≡ true) ↔ MetAt f t 0

-- blocks from number k on, where those that are not marked are emptied
abbrev pub blocks_emptied : List Bool → ℕ → List Block → List Block
blocks_emptied reached k [] = []
blocks_emptied reached k (b ∷ bs) = cond (get_or reached k false) b empty_block ∷ blocks_emptied reached (suc k) bs
