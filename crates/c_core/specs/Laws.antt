-- What is known of every ledger, every release, every step and every run of the machine.
use Rattle.std.specs.Prelude.{◌≡◌, ℕ, ◌+◌, ◌≤◌, List, length, Some}
use Rattle.value_core.specs.Items.{Items}
use Rattle.c_core.specs.declared.code.Code.{Code}
use Rattle.c_core.specs.Cells.{Cells, count_at, times}
use Rattle.c_core.specs.Ledgers.{more, without, Ascends}
use Rattle.c_core.specs.Release.{uses, release}
use Rattle.c_core.specs.Machine.{Content, refs_in, MachineState}
use Rattle.c_core.specs.Holders.{holders, owned}
use Rattle.c_core.specs.Step.{Next, Goes, Ends, step}
use Rattle.c_core.specs.Run.{Stop, start, most_steps, machine_run}
use Rattle.c_core.specs.WellFormed.{WellFormed}

-- the numbers of a ledger ascend, also where one is put into it or taken out
abbrev pub LedgersAscend : Type 0
LedgersAscend = (c : ℕ) (l : List ℕ) → Ascends l → Ascends (more c l) × Ascends (without c l)

-- where a count is what the contents, the references that are given up and others hold, it is afterwards what the
-- contents and the others hold
abbrev pub ReleaseKeepsCounts : Type 0
ReleaseKeepsCounts =
    (cells : Cells Content) (refs : List ℕ) (c others : ℕ) → count_at cells c ≡ uses refs_in cells c + times refs c + others → count_at (release refs_in cells refs) c ≡ uses refs_in (release refs_in cells refs) c + others

-- the order in which references are given up makes no difference
abbrev pub ReleaseInAnyOrder : Type 0
ReleaseInAnyOrder =
    (cells : Cells Content) (refs others : List ℕ) → ((c : ℕ) → times refs c ≡ times others c) → release refs_in cells refs ≡ release refs_in cells others

-- each count is what the holders and all ledgers hold
abbrev pub IsCounted : MachineState → Type 0
IsCounted s = (c : ℕ) → count_at s.cells c ≡ holders s c + owned s c

abbrev pub IsCountedAfter : Next → Type 0
IsCountedAfter (Goes s) = IsCounted s
IsCountedAfter (Ends e s) = IsCounted s

-- the states that steps lead to from a state, with how many steps
pub data Reaches (code : Code) : ℕ → MachineState → MachineState → Type 0 where
  Here : (s : MachineState) → Reaches code 0 s s
  There : (k : ℕ) (s t u : MachineState) → step code s ≡ Goes t → Reaches code k t u → Reaches code (k + 1) s u

-- the run of a well-formed code exists, whatever the turns and the input
abbrev pub RunExists : Type 0
RunExists = (code : Code) → WellFormed code → (n : ℕ) (items : Items) → (stop : Stop) × (machine_run n items code ≡ Some stop)

-- in each state of each run, the last one too, a count is what the holders and all ledgers hold
abbrev pub RunKeepsCounts : Type 0
RunKeepsCounts =
    (code : Code) (n : ℕ) (items : Items) → ((k : ℕ) (s : MachineState) → Reaches code k (start code n items) s → IsCounted s) × ((stop : Stop) → machine_run n items code ≡ Some stop → IsCounted stop.state)

-- the state that a step leads to, the last one too
abbrev pub state_after : Next → MachineState
state_after (Goes s) = s
state_after (Ends e s) = s

-- one step adds at most one cell, and at most one to any count
abbrev pub StepStaysSmall : Type 0
StepStaysSmall =
    (code : Code) (s : MachineState) → (length (state_after (step code s)).cells ≤ length s.cells + 1) × ((c : ℕ) → count_at (state_after (step code s)).cells c ≤ count_at s.cells c + 1)

-- a run takes no more steps than its bound, and neither how many cells it ever made nor any count passes the steps that
-- it took
abbrev pub RunStaysSmall : Type 0
RunStaysSmall =
    (code : Code) → WellFormed code → (n : ℕ) (items : Items) (k : ℕ) (s : MachineState) → Reaches code k (start code n items) s → (k ≤ most_steps n code) × (length s.cells ≤ k) × ((c : ℕ) → count_at s.cells c ≤ k)
