-- The statuses of replies.
use Rattle.std.specs.Prelude.{Bool, true, false, IsTrue}
use Rattle.mypyc_top_status.specs.declared.status.Status.{Status}
use Rattle.mypyc_top_status.specs.declared.status.Status.TheVariants as status

-- the statuses that replies have
abbrev pub is_replied : Status → Bool
is_replied status.WriteFault = false
is_replied status.Memory = false
is_replied _ = true

abbrev pub IsReplied : Status → Type 0
IsReplied s = IsTrue (is_replied s)

-- the statuses of replies that stand before anything is run
abbrev pub is_sent : Status → Bool
is_sent status.Done = true
is_sent status.Diagnosed = true
is_sent status.Usage = true
is_sent status.OpenFault = true
is_sent status.ReadFault = true
is_sent status.TooLarge = true
is_sent status.TextRefused = true
is_sent _ = false

abbrev pub IsSent : Status → Type 0
IsSent s = IsTrue (is_sent s)

-- the statuses of replies to a file that was read, and to a module
abbrev pub is_file_status : Status → Bool
is_file_status status.Done = true
is_file_status status.Diagnosed = true
is_file_status status.TextRefused = true
is_file_status _ = false

abbrev pub is_module_status : Status → Bool
is_module_status status.Done = true
is_module_status status.Diagnosed = true
is_module_status _ = false

-- the statuses that come where a program is run
abbrev pub is_run_status : Status → Bool
is_run_status status.Done = true
is_run_status status.WriteFault = true
is_run_status status.Raised = true
is_run_status status.Cut = true
is_run_status status.Faulted = true
is_run_status status.InputOver = true
is_run_status status.Memory = true
is_run_status status.InputFault = true
is_run_status _ = false
