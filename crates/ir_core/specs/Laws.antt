-- What holds of every function that is built, of every run, and of the C text of every program.
use Rattle.std.specs.Prelude.{◌≡◌, ◌≢◌, ℕ, ◌+◌, List, ◌∷◌, [], ◌++◌, length, Some}
use Rattle.value_core.specs.Ending.{Ending}
use Rattle.value_core.specs.Items.{Items}
use Rattle.ir_core.specs.declared.code.RType.{RType}
use Rattle.ir_core.specs.declared.code.Block.{Block}
use Rattle.ir_core.specs.declared.code.Op.{Op}
use Rattle.ir_core.specs.declared.code.Last.{Last}
use Rattle.ir_core.specs.declared.code.Program.{Program}
use Rattle.ir_core.specs.Items.{Do, End, item_in}
use Rattle.ir_core.specs.Building.{Building, ended_block, held_in, held, Extends}
use Rattle.ir_core.specs.Effects.{World}
use Rattle.ir_core.specs.Meaning.{Config, Ended, Stuck, Mode, Plain, steps, item_at, left_at}
use Rattle.ir_core.specs.Runs.{ComesTo, Calm, Fit}
use Rattle.ir_core.specs.Lower.{lower}
use Rattle.ir_core.specs.Lowered.{IsLowered}

-- one more register, one more operation, and the end of the block
abbrev pub added : Building → List ℕ → RType → Building
added b name t = record b { regs = b.regs ++ (name, t) ∷ [] }

abbrev pub pushed : Building → Op × ℕ → Building
pushed b o = record b { ops = b.ops ++ o ∷ [] }

abbrev pub closed : Building → Last → Building
closed b last = record b { blocks = b.blocks ++ ended_block b.ops last ∷ []; ops = [] }

-- they leave what stands as it is, and what they add stands at the place that was being filled
pub record CallsExtend : Type 0 where
  pub adding : (b : Building) (name : List ℕ) (t : RType) → Extends b (added b name t)
  pub pushing : (b : Building) (o : Op × ℕ) → Extends b (pushed b o)
  pub closing : (b : Building) (last : Last) → Extends b (closed b last)
  pub operation : (b : Building) (o : Op × ℕ) → held (pushed b o) (length b.blocks) (length b.ops) ≡ Some (Do o.0 o.1)
  pub end : (b : Building) (last : Last) → held (closed b last) (length b.blocks) (length b.ops) ≡ Some (End last)
  pub composes : (a b c : Building) → Extends a b → Extends b c → Extends a c

-- what was held stands in the function that is made of it
abbrev pub BuiltIsHeld : Type 0
BuiltIsHeld = (blocks : List Block) (k i : ℕ) → held_in blocks [] k i ≡ item_in blocks k i

-- a run of so many steps and then so many more is one run
abbrev pub StepsCompose : Type 0
StepsCompose = (m : Mode) (p : Program) (j k : ℕ) (c : Config) → steps m p (j + k) c ≡ steps m p k (steps m p j c)

-- a run that ends was never stuck, and never will be: so a run of the strict machine that ends was calm
abbrev pub EndedIsCalm : Type 0
EndedIsCalm =
    (m : Mode) (p : Program) (n k : ℕ) (c : Config) (e : Ending) (w : World) → steps m p n c ≡ Ended e w → steps m p k c ≢ Stuck

-- a run that is not stuck is the plain run
abbrev pub UnstuckIsPlain : Type 0
UnstuckIsPlain =
    (m : Mode) (p : Program) (n : ℕ) (c : Config) → steps m p n c ≢ Stuck → steps m p n c ≡ steps Plain p n c

-- a program that is fit is calm
abbrev pub FitIsCalm : Type 0
FitIsCalm = (p : Program) → Fit p → Calm p

-- a program comes to one end with the same turns and input, and to one world
abbrev pub EndsAreOne : Type 0
EndsAreOne =
    (p : Program) (turns : ℕ) (items : Items) (e f : Ending) (v w : World) → ComesTo p turns items e v → ComesTo p turns items f w → (e ≡ f) × (v ≡ w)

-- what is left of a block begins with the item at that place, and goes on with what is left at the next one
abbrev pub LeftGoesOn : Type 0
LeftGoesOn =
    (p : Program) (fn k i : ℕ) (o : Op × ℕ) (os : List (Op × ℕ)) (last : Last) → left_at p fn k i ≡ Some (record { ops = o ∷ os; last = last }) → (item_at p fn k i ≡ Some (Do o.0 o.1)) × (left_at p fn k (i + 1) ≡ Some (record { ops = os; last = last }))

abbrev pub LeftEnds : Type 0
LeftEnds =
    (p : Program) (fn k i : ℕ) (last : Last) → left_at p fn k i ≡ Some (record { ops = []; last = last }) → item_at p fn k i ≡ Some (End last)

-- the C text of a program is the program laid out in lines
abbrev pub LowerIsLowered : Type 0
LowerIsLowered = (p : Program) → IsLowered p (lower p)
