-- When statuses come that no answer asks for, and what an answer of the files rests on.
use Rattle.std.specs.Prelude.{◌≡◌, ℕ, List, ◌⊎◌, Option, is_none}
use Rattle.outside_core.specs.Counts.{count_if}
use Rattle.mypyc_top_status.specs.declared.status.Status.{Status}
use Rattle.mypyc_top_status.specs.declared.status.Status.TheVariants as status

-- a status that can take another's place
abbrev pub Yields : Status → Type 0
Yields s = (s ≡ status.WriteFault) ⊎ (s ≡ status.Memory)

-- how many opens asked for an absent name: one more at OpenFault, and only where the file is absent; none at ReadFault
abbrev pub AbsentOpens : Status → Option (List ℕ) → ℕ → ℕ → Type 0
AbsentOpens status.OpenFault content before after = after ≡ count_if (is_none content) before
AbsentOpens status.ReadFault content before after = after ≡ before
AbsentOpens _ content before after = Unit {0}
