-- The meaning that code is held to: that of the source, where each value is looked at as it is read or made, and the run is stuck where one
-- has not the shape of its type. Of a run that is stuck nothing is asked; the law of `source_soundness` says that none is.
use Rattle.std.specs.Prelude.{ℕ}
use Rattle.py_typed.specs.Statements.{TypedModule}
use Rattle.source_meaning.specs.State.{Calls}
use Rattle.source_soundness.specs.Shapes.{shapes}
use Rattle.source_soundness.specs.Watched.{Watch, call_of}

abbrev pub watch : TypedModule → Watch
watch m = shapes m.classes.classes

-- what calls do with at most so many turns
abbrev pub calls_in : TypedModule → ℕ → Calls
calls_in m n = call_of (watch m) m n
