-- When one function is another one whose blocks that no path reaches are emptied.
use Rattle.std.specs.Prelude.{◌≡◌, ◌≤◌, ◌⊎◌, ◌^◌, ℕ, suc, List, [], ◌∷◌, length, None}
use Rattle.ir_core.specs.declared.code.Last.TheVariants.{Unreachable}
use Rattle.ir_core.specs.declared.code.Block.{Block}
use Rattle.ir_core.specs.declared.code.Func.{Func}
use Rattle.liveness.specs.Paths.{MetAt}
use Rattle.unset_tests.specs.Alike.{IsAlike}

-- a block that does nothing and goes nowhere
abbrev pub empty_block : Block
empty_block = record { ops = []; last = Unreachable; handler = None }

module _ (f : Func) where
  -- A block stays as it is where some path comes to its start, and is emptied where none does. A path begins at the function's beginning,
  -- and goes over jumps and tests whichever way they may go, and from an operation that may fail to the handler of its block.
  abbrev pub IsBlockEmptied : ℕ → Block → Block → Type 0
  IsBlockEmptied k b c = (MetAt f k 0 × (c ≡ b)) ⊎ ((MetAt f k 0 → ⊥) × (c ≡ empty_block))

  -- blocks from number k on
  abbrev pub AreBlocksEmptied : ℕ → List Block → List Block → Type 0
  AreBlocksEmptied k [] [] = Unit {0}
  AreBlocksEmptied k (b ∷ bs) (c ∷ cs) = IsBlockEmptied k b c × AreBlocksEmptied (suc k) bs cs
  AreBlocksEmptied k _ _ = ⊥

-- a function with as few blocks as numbers of 64 bits can name
pub record IsEmptied (f g : Func) : Type 0 where
  pub alike : IsAlike f g
  pub blocks : AreBlocksEmptied f 0 f.blocks g.blocks
  pub few : length g.blocks ≤ 2 ^ 64
