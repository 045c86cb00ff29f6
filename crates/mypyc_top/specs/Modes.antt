-- The statuses that a mode can answer, whatever its file: a fault of ownership and a refused text come from C text alone,
-- diagnostics from modules alone, and the endings of programs from the modes that run them.
use Rattle.std.specs.Prelude.{◌≡◌, ◌⊎◌, Bool, true, false, ◌||◌, IsTrue}
use Rattle.mypyc_top_words.specs.declared.words.Emit.{Emit}
use Rattle.mypyc_top_words.specs.declared.words.Emit.TheVariants.{Check, C, Run, Runc}
use Rattle.mypyc_top_words.specs.declared.words.Words.{Words}
use Rattle.mypyc_top_words.specs.declared.words.Words.TheVariants.{Usage, Go}
use Rattle.mypyc_top_status.specs.declared.status.Status.{Status}
use Rattle.mypyc_top_status.specs.declared.status.Status.TheVariants as status
use Rattle.mypyc_top_status.specs.Causes.{Yields}

-- of every mode
abbrev pub is_common : Status → Bool
is_common status.Done = true
is_common status.OpenFault = true
is_common status.ReadFault = true
is_common status.WriteFault = true
is_common status.TooLarge = true
is_common status.Memory = true
is_common _ = false

-- of a module
abbrev pub is_diagnosed : Status → Bool
is_diagnosed status.Diagnosed = true
is_diagnosed _ = false

-- of a program that runs
abbrev pub is_ending : Status → Bool
is_ending status.Raised = true
is_ending status.Cut = true
is_ending status.InputOver = true
is_ending status.InputFault = true
is_ending _ = false

-- of C text
abbrev pub is_of_text : Status → Bool
is_of_text status.TextRefused = true
is_of_text status.Faulted = true
is_of_text _ = false

abbrev pub is_own : Emit → Status → Bool
is_own Check s = is_diagnosed s
is_own C s = is_diagnosed s
is_own Run s = is_diagnosed s || is_ending s
is_own Runc s = is_ending s || is_of_text s

abbrev pub can_answer : Emit → Status → Bool
can_answer mode s = is_common s || is_own mode s

abbrev pub CanAnswer : Emit → Status → Type 0
CanAnswer mode s = IsTrue (can_answer mode s)

-- the statuses that words can be answered
abbrev pub IsAllowed : Words → Status → Type 0
IsAllowed Usage s = (s ≡ status.Usage) ⊎ Yields s
IsAllowed (Go r) s = CanAnswer r.emit s
