-- The source lines of what is added to the code of a function.
use Rattle.std.specs.Prelude.{◌≡◌, ◌≢◌, ℕ, Some}
use Rattle.ir_core.specs.declared.code.Last.{Last}
use Rattle.ir_core.specs.declared.code.Last.TheVariants.{IfError}
use Rattle.ir_builder_frames.specs.Building.{Building, held}
use Rattle.ir_core.specs.Items.{Item, Do, End}

-- an operation, or a test for errors, that has another line than this one
abbrev pub HasOther : ℕ → Item → Type 0
HasOther l (Do o line) = line ≢ l
HasOther l (End (IfError r a b line)) = line ≢ l
HasOther l (End _) = ⊥

-- an end that has this line, or none
abbrev pub EndsOn : ℕ → Last → Type 0
EndsOn l (IfError r a b line) = line ≡ l
EndsOn l _ = Unit {0}

-- the builder holds an item at a place
pub record StandsAt (b : Building) (k i : ℕ) (x : Item) : Type 0 where
  pub is : held b k i ≡ Some x

-- what was added has this line: whatever has another one stood there before
abbrev pub OwnLines : ℕ → Building → Building → Type 0
OwnLines l old new = (k i : ℕ) (x : Item) → HasOther l x → StandsAt new k i x → StandsAt old k i x
