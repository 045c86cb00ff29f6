-- What a plan means: a reply that is there, or a program whose run decides.
use Rattle.std.specs.Prelude.{◌≡◌, ℕ, List, Some}
use Rattle.value_core.specs.Items.{Items}
use Rattle.c_core.specs.Run.{Stop, machine_run}
use Rattle.c_runner.specs.Ran.{AreLines}
use Rattle.mypyc_top_words.specs.declared.words.Emit.{Emit}
use Rattle.mypyc_top_words.specs.declared.words.Words.{Words}
use Rattle.mypyc_top_words.specs.declared.words.Words.TheVariants.{Usage, Go}
use Rattle.mypyc_top_status.specs.declared.status.Status.{Status}
use Rattle.mypyc_top_status.specs.declared.status.Status.TheVariants as status
use Rattle.mypyc_top_status.specs.declared.reply.Reply.{Reply}
use Rattle.mypyc_top_status.specs.Output.{output_text}
use Rattle.mypyc_top_status.specs.Endings.{machine_status}
use Rattle.mypyc_top_running.specs.declared.running.Program.{Program}
use Rattle.mypyc_top_running.specs.Programs.{program_text, program_line}
use Rattle.mypyc_top.specs.declared.plan.Plan.{Plan}
use Rattle.mypyc_top.specs.declared.plan.Plan.TheVariants.{Send, Run}
use Rattle.mypyc_top.specs.Modes.{CanAnswer}

abbrev pub MatchPlan : Plan → (Reply → Type 0) → (Program → Type 0) → Type 0
MatchPlan (Send reply) P Q = P reply
MatchPlan (Run program) P Q = Q program

abbrev pub ForReply : Plan → (Reply → Type 0) → Type 0
ForReply plan P = MatchPlan plan P (λ program. Unit {0})

-- where each run of a program on the lines of some bytes stops, this holds
abbrev pub EachStop : Program → (Items → Stop → Type 0) → Type 0
EachStop program P = (items : Items) → AreLines items → (stop : Stop) → machine_run program.turns items program.code ≡ Some stop → P items stop

-- an answer to lines of input: what the output gets, what errors get, and the status
abbrev pub Answering : Type 1
Answering = Items → List ℕ → List ℕ → Status → Type 0

-- what is sent is an answer, whatever the input, or what any run of the program gives is one
abbrev pub Plans : Answering → Plan → Type 0
Plans IsAnswer (Send reply) = (items : Items) → IsAnswer items (output_text reply.out) reply.err.items reply.status
Plans IsAnswer (Run program) = EachStop program (λ items stop. IsAnswer items (program_text program stop) (program_line program stop) (machine_status stop.ending))

-- the statuses that a plan can lead to
abbrev pub CanCome : Emit → Plan → Type 0
CanCome mode (Send reply) = CanAnswer mode reply.status
CanCome mode (Run program) = EachStop program (λ items stop. CanAnswer mode (machine_status stop.ending))

-- by the words: none but the usage line where they are no command
abbrev pub Allowed : Words → Plan → Type 0
Allowed Usage plan = MatchPlan plan (λ reply. reply.status ≡ status.Usage) (λ program. ⊥)
Allowed (Go r) plan = CanCome r.emit plan
