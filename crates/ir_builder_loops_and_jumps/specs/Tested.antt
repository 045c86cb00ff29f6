-- What is emitted of an `if` so far.
use Rattle.std.specs.Prelude.{◌≡◌, Bool, false, List, ◌++◌, map, Option}
use Rattle.py_typed.specs.declared.expression.TExpr.{TExpr}
use Rattle.py_typed.specs.declared.statement.TStmt.{TStmt}
use Rattle.py_typed.specs.Sorts.{Sort}
use Rattle.py_typed.specs.Statements.{typed_arm, arms_of}
use Rattle.source_soundness.specs.Watched.{first_arm}
use Rattle.source_meaning.specs.WaysOut.{Flow}
use Rattle.ir_builder_frames.specs.Building.{Building, Extends}
use Rattle.ir_builder_frames.specs.Settings.{Setting}
use Rattle.ir_builder_frames.specs.Watching.{watch, calls_in}
use Rattle.ir_builder_frames.specs.Computing.{Meaning}
use Rattle.ir_builder_loops_and_jumps.specs.declared.ways.Exit.{Exit}
use Rattle.ir_builder_loops_and_jumps.specs.Runs.{Joining, LeavesNoLoop}

-- arms of an `if`, and what else it does
abbrev pub means_arms : Setting → List (TExpr × List TStmt) → Meaning Flow → Meaning Flow
means_arms x arms other n = first_arm (watch x.source) x.source.classes.classes (calls_in x.source n) x.source.globals x.variables n (arms_of (map typed_arm arms)) (other n)

-- all arms work together with the rest of them, wherever that works behind these
pub record Tested (x : Setting) (result : Option Sort) (looping : Bool) (rest arms : List (TExpr × List TStmt)) (old new : Building) (exits : List Exit) : Type 0 where
  pub extends : Extends old new
  pub inside : looping ≡ false → LeavesNoLoop exits
  pub works : (other : Meaning Flow) (end : Building) (more : List Exit) → Joining x result (means_arms x rest other) new end more → Joining x result (means_arms x arms other) old end (exits ++ more)
