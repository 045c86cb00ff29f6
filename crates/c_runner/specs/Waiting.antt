-- Steps that ask for a line of input, and what they lead to when the line is there.
use Rattle.std.specs.Prelude.{◌≡◌, ◌+◌, ◌^◌, ◌<◌, ℕ, true, [], Option, Result, Ok, Err, ⊤}
use Rattle.value_core.specs.Items as items
use Rattle.value_core.specs.Items.{Items}
use Rattle.c_core.specs.Machine.{MachineState}
use Rattle.c_core.specs.Step.{Next, applied, line_read}
use Rattle.c_runner_lines.specs.declared.item.Item.{Item}
use Rattle.c_runner_lines.specs.declared.item.Item.TheVariants.{Line, Bad, Eof, Over}
use Rattle.c_runner.specs.declared.pause.Pause.{Pause}
use Rattle.c_runner.specs.declared.pause.Pause.TheVariants.{Memory, Waits}
use Rattle.c_runner_deeds.specs.declared.ending.Ending.{Ending}
use Rattle.c_runner_deeds.specs.States.{Rest, state_of, next_of, Leads, Seen}

-- the machine reads the next line of input, whose text goes to a variable, if it goes to one
abbrev pub input_step : Option ℕ → MachineState → Next
input_step target s = applied true s target s.top.ledger [] (line_read s.items)

-- a line of input is asked for: nothing was done yet, and what the machine does is reading it
pub record Asks (does : MachineState → Next) (target : Option ℕ) (old new : Seen) : Type 0 where
  pub same : new ≡ old
  pub place : old.top.place + 1 < 2 ^ 64
  pub leads : (rest : Rest) → does (state_of rest old) ≡ input_step target (state_of rest old)

-- what a step answers; without memory nothing is said
abbrev pub Steps : (MachineState → Next) → Result (Option Ending) Pause → Seen → Seen → Type 0
Steps does (Ok ending) old new = Leads does ending old new
Steps does (Err (Waits target)) old new = Asks does target old new
Steps does (Err Memory) old new = ⊤

-- the lines that are left where this item is the next one, before these; and those that are left behind it: the end of the
-- input stays, and a line that ends too far along too
abbrev pub before : Item → Items → Items
before (Line text) next = items.Line text next
before Bad next = items.Bad next
before Eof next = items.Eof
before Over next = items.Over

abbrev pub behind : Item → Items → Items
behind (Line text) next = next
behind Bad next = next
behind Eof next = items.Eof
behind Over next = items.Over

-- a line that was asked for is there: what the machine does leads from the old state to the new one
abbrev pub Receives : Option ℕ → Item → Option Ending → Seen → Seen → Type 0
Receives target item ending old new =
    (rest : Rest) → input_step target (state_of (record rest { items = before item rest.items }) old) ≡ next_of ending (state_of (record rest { items = behind item rest.items }) new)
