-- Where the ends of what a builder holds go: to higher blocks only, or back behind a turn. Where a test for errors stands, nothing
-- else stands in its block.
use Rattle.std.specs.Prelude.{◌≡◌, ℕ, suc, ◌<◌, ◌≤◌, ◌⊎◌, true, List, [], ◌∷◌, Option, Some, None}
use Rattle.ir_core.specs.declared.code.Block.{Block}
use Rattle.ir_core.specs.declared.code.Op.{Op}
use Rattle.ir_core.specs.declared.code.Last.{Last}
use Rattle.ir_core.specs.declared.code.Last.TheVariants.{Goto, If, IfError, Return, Unreachable}
use Rattle.ir_core.specs.Items.{Item, End, handler_of}
use Rattle.ir_core.specs.Shape.{ends_in_turn, OpsFit}

-- a block above block k, up to m
abbrev pub Higher : ℕ → ℕ → ℕ → Type 0
Higher k m t = (k < t) × (t ≤ m)

-- the end of block k behind these operations, where blocks up to m may be named: it goes to higher blocks, or is a jump, not to
-- block 0, directly behind a turn. One that is still to be written may stand
abbrev pub EndFits : ℕ → ℕ → List (Op × ℕ) → Last → Type 0
EndFits m k ops (Goto t) = ((k < t) ⊎ ((1 ≤ t) × (ends_in_turn ops ≡ true))) × (t ≤ m)
EndFits m k ops (If r a b) = Higher k m a × Higher k m b
EndFits m k ops (IfError r a b line) = (ops ≡ []) × Higher k m a × Higher k m b
EndFits m k ops (Return r) = Unit {0}
EndFits m k ops Unreachable = Unit {0}

-- an end that may be written into block k, which has its end and begins with this item
abbrev pub PatchFits : ℕ → ℕ → Option Item → Last → Type 0
PatchFits m k first (Goto t) = Higher k m t
PatchFits m k first (If r a b) = Higher k m a × Higher k m b
PatchFits m k first (IfError r a b line) = (first ≡ Some (End Unreachable)) × Higher k m a × Higher k m b
PatchFits m k first (Return r) = Unit {0}
PatchFits m k first Unreachable = Unit {0}

abbrev pub HandlerFits : ℕ → ℕ → Option ℕ → Type 0
HandlerFits m k None = Unit {0}
HandlerFits m k (Some h) = Higher k m h

-- blocks from number k on
abbrev pub AllFit : ℕ → ℕ → List Block → Type 0
AllFit m k [] = Unit {0}
AllFit m k (b ∷ bs) = EndFits m k b.ops b.last × OpsFit b.ops × HandlerFits m k (handler_of b) × AllFit m (suc k) bs
