-- What the sinks took of an answer, by the status that the call gave.
use Rattle.std.specs.Prelude.{◌≡◌, ℕ, List}
use Rattle.mypyc_top_status.specs.declared.status.Status.{Status}
use Rattle.mypyc_top_status.specs.declared.status.Status.TheVariants as status
use Rattle.mypyc_top_status.specs.ErrorLines.{memory_line}
use Rattle.mypyc_top_status.specs.Sinks.{SinkCall, Took, TookFront}

-- the status of a call is the answer's, unless a sink refused or memory ran out: the sinks took their texts, or fronts
abbrev pub Gave : SinkCall → SinkCall → List ℕ → List ℕ → Status → Status → Type 0
Gave out err o e s status.WriteFault = TookFront out o × TookFront err e
Gave out err o e s status.Memory = TookFront out o × TookFront err memory_line
Gave out err o e s t = (t ≡ s) × Took out o × Took err e
