-- What a run took of its input.
use Rattle.std.specs.Prelude.{◌≡◌, ◌⊎◌, ℕ, ◌+◌, List, Some, Result, Ok, Err}
use Rattle.value_core.specs.Items.{Items, most_input}
use Rattle.value_core.specs.Ending as source
use Rattle.outside_core.specs.Bytes.{GivesAtMost}
use Rattle.c_core.specs.declared.code.Code.{Code}
use Rattle.c_core.specs.Step.{Ended}
use Rattle.c_core.specs.Run.{Stop, machine_run}
use Rattle.c_runner.specs.Ran.{TookLines, TookSome}
use Rattle.mypyc_top_status.specs.declared.status.Status.{Status}
use Rattle.mypyc_top_status.specs.declared.status.Status.TheVariants as status
use Rattle.mypyc_top_status.specs.Endings.{machine_status}
use Rattle.mypyc_top_status.specs.Causes.{Yields}
use Rattle.mypyc_top_status.specs.Sinks.{SinkCall}
use Rattle.mypyc_top_running.specs.declared.running.Program.{Program}
use Rattle.mypyc_top_running.specs.declared.running.Rest.{Rest}
use Rattle.mypyc_top_running.specs.declared.running.Unfinished.{Unfinished}

-- the most bytes that are ever read: one more than a run may use, which tells that there are too many
abbrev pub most_taken : ℕ
most_taken = most_input + 1

-- what the run of a code for so many turns took of an input that tells its bytes, where memory ran out or a sink refused a call: what was taken
-- up to a state whose output the sink got, or, where a read failed before, no more bytes than are ever read, with which the run's lines end
abbrev pub TookEarly : Code → ℕ → SinkCall → Items → Stop → List ℕ → List ℕ → Type 0
TookEarly code turns out items stop left left' =
    ((stop.ending ≡ Ended source.Broken) × GivesAtMost most_taken left left')
    ⊎ TookSome code turns items stop out.tells out.before out.after left left'

-- the same by the status; where the run ended and all was sent, it is what the run says of its lines
abbrev pub TookBy : Status → Code → ℕ → SinkCall → Items → Stop → List ℕ → List ℕ → Type 0
TookBy status.WriteFault code turns out items stop left left' = TookEarly code turns out items stop left left'
TookBy status.Memory code turns out items stop left left' = TookEarly code turns out items stop left left'
TookBy status.InputFault code turns out items stop left left' = GivesAtMost most_taken left left'
TookBy _ code turns out items stop left left' = TookLines items stop left left'

-- the same of a run whose rest is left to send, or which is not finished
abbrev pub TookBefore : Result Rest Unfinished → Program → SinkCall → Items → Stop → List ℕ → List ℕ → Type 0
TookBefore (Ok rest) program out items stop left left' = TookBy rest.reply.status program.code program.turns out items stop left left'
TookBefore (Err e) program out items stop left left' = TookEarly program.code program.turns out items stop left left'

-- the run of a program on these lines, and what it took
pub record RunTook (program : Program) (items : Items) (out : SinkCall) (left left' : List ℕ) (s : Status) : Type 0 where
  pub stop : Stop
  pub run : machine_run program.turns items program.code ≡ Some stop
  pub ending : (s ≡ machine_status stop.ending) ⊎ Yields s
  pub took : TookBy s program.code program.turns out items stop left left'
