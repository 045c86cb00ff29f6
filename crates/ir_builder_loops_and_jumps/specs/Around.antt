-- What stands around the bodies of `if` and of loops.
use Rattle.std.specs.Prelude.{◌≡◌, ◌<◌, ◌≤◌, ℕ, List, [], ◌∷◌, ◌++◌, length, Option, Some, None}
use Rattle.py_typed.specs.Sorts.{Sort}
use Rattle.source_meaning.specs.WaysOut.{Flow}
use Rattle.py_typed.specs.Expressions.{TypedExpr, type_of}
use Rattle.ir_core.specs.declared.code.Last.TheVariants.{Goto, If, Unreachable}
use Rattle.ir_core.specs.declared.code.Op.TheVariants.{Turn}
use Rattle.ir_core.specs.declared.code.RType.TheVariants.{Bool}
use Rattle.ir_builder_frames.specs.Building.{Building}
use Rattle.ir_core.specs.Building.{with_last}
use Rattle.ir_builder_frames.specs.Settings.{Setting, rtype_of}
use Rattle.ir_builder_frames.specs.Placing.{HasType}
use Rattle.ir_builder_frames.specs.Calling.{Open, Pushes, Closes}
use Rattle.ir_builder_frames.specs.Computing.{means, Shows, Meaning, Computes}
use Rattle.ir_builder_loops_and_jumps.specs.declared.ways.Way.TheVariants.{Join}
use Rattle.ir_builder_loops_and_jumps.specs.declared.ways.Exit.{Exit}
use Rattle.ir_builder_loops_and_jumps.specs.declared.ways.ExitPlan.{ExitPlan}
use Rattle.ir_builder_loops_and_jumps.specs.declared.ways.Test.{Test}
use Rattle.ir_builder_loops_and_jumps.specs.declared.ways.LoopStart.{LoopStart}
use Rattle.ir_builder_loops_and_jumps.specs.Ways.{planned, left}
use Rattle.ir_builder_loops_and_jumps.specs.Runs.{all_jumping, Works}

-- a test was answered in a register as is said, and the block that ends with it is still to be given its jumps
pub record Splits (IsAnswered : Building → ℕ → Type 0) (new : Building) (t : Test) : Type 0 where
  pub middle : Building
  pub answered : IsAnswered middle t.condition.0
  pub block : t.block ≡ length middle.blocks
  pub closes : Closes middle new Unreachable
  pub start : t.start ≡ length new.blocks

-- by the value of an expression
abbrev pub SplitsBy : Setting → TypedExpr → Building → Building → Test → Type 0
SplitsBy x e old new t = Splits (λ middle r. Computes x (Shows (type_of e)) (rtype_of (type_of e)) (means x e) old middle r) new t

-- the body of an arm was left, and the test of the arm goes to the body or to what comes next
pub record EndsArm (old new : Building) (t : Test) (before after : List Exit) : Type 0 where
  pub closed : Building
  pub noted : after ≡ before ++ record { way = Join; block = length old.blocks } ∷ []
  pub closes : Closes old closed Unreachable
  pub next : ℕ
  pub here : next ≡ length closed.blocks
  pub set : new ≡ record closed { blocks = with_last closed.blocks t.block (If t.condition t.start next) }

-- behind an `if`
abbrev pub joining : ℕ → ExitPlan
joining end = record { breaks = None; continues = None; returns = None; joins = Some end }

-- the last body of an `if` was left, and the others go to where it does
pub record Joins (old new : Building) (inner before after : List Exit) : Type 0 where
  pub closed : Building
  pub end : ℕ
  pub here : end ≡ length closed.blocks
  pub closes : Closes old closed (Goto end)
  pub passed : after ≡ before ++ left (planned (joining end)) inner
  pub jumps : new ≡ all_jumping (planned (joining end)) inner closed

-- behind a loop, and to what it does behind its body
abbrev pub looping_to : ℕ → ℕ → ExitPlan
looping_to exit next = record { breaks = Some exit; continues = Some next; returns = None; joins = None }

-- nothing stands there
abbrev pub NothingBetween : Building → Building → Type 0
NothingBetween b c = c ≡ b

-- a turn is spent, and the test of a loop comes again
pub record EndsLoop (old new : Building) (o : LoopStart) (next : ℕ) (inner before after : List Exit) : Type 0 where
  pub turned : Building
  pub line : ℕ
  pub turns : Pushes old turned Turn line
  pub closed : Building
  pub closes : Closes turned closed (Goto o.head)
  pub exit : ℕ
  pub behind : exit ≡ length closed.blocks
  pub passed : after ≡ before ++ left (planned (looping_to exit next)) inner
  pub tested : Building
  pub set : tested ≡ record closed { blocks = with_last closed.blocks o.test.block (If o.test.condition o.test.start exit) }
  pub jumps : new ≡ all_jumping (planned (looping_to exit next)) inner tested

-- a loop was begun, with what stands between its body and its turn: whatever its body means, where the code of the body works behind
-- this, and the loop is ended behind that, the whole means the loop with this body
pub record Begins (x : Setting) (Between : Building → Building → Type 0) (whole : Meaning Flow → Meaning Flow) (old new : Building) (o : LoopStart) : Type 0 where
  pub head : (1 ≤ o.head) × (o.head ≤ length new.blocks)
  pub waits : Open new o.test.block
  pub start : (o.test.block < o.test.start) × (o.test.start ≤ length new.blocks)
  pub type : HasType new o.test.condition.0 Bool
  pub works : (result : Option Sort) (body : Meaning Flow) (left_body behind stepped end : Building) (next : ℕ) (xs before after : List Exit) → Works x result body new left_body xs → next ≡ length behind.blocks → Closes left_body behind (Goto next) → Between behind stepped → (l : EndsLoop stepped end o next xs before after) → Works x result (whole body) old end (left (planned (looping_to l.exit next)) xs)
