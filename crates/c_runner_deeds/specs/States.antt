-- The runner's state as the machine's, and what a step of it is.
use Rattle.std.specs.Prelude.{◌≡◌, ℕ, List, [], Option, Some, None, ◌+◌, ◌^◌, ◌<◌, ◌++◌, length, map, reverse, slice_set}
use Rattle.value_core.specs.Exceptions.{thrown}
use Rattle.value_core.specs.Ending as source
use Rattle.c_core.specs.Step.{MachineEnding, Ended, Faulted, Next, Goes, Ends}
use Rattle.c_runner_deeds.specs.declared.ending.Ending.{Ending}
use Rattle.c_runner_deeds.specs.declared.ending.Ending.TheVariants.{Done, Raised, Cut, Over, Fault}
use Rattle.std.specs.Option.{option_map}
use Rattle.value_core.specs.Items.{Items}
use Rattle.c_core.specs.Cells.{Cells, times, count_at}
use Rattle.c_core.specs.Holders.{owned_below}
use Rattle.c_core.specs.Machine as machine
use Rattle.c_core.specs.Machine.{MachineState}
use Rattle.slot_arena.specs.declared.key.Key.{Key}
use Rattle.c_runner_deeds.specs.declared.state.Frame.{Frame}
use Rattle.c_runner_deeds.specs.declared.state.State.{State}
use Rattle.cell_heap.specs.declared.word.Word.{Word}
use Rattle.cell_heap.specs.Contents.{number_of, word_of}
use Rattle.cell_heap.specs.Numbered.{numbered}

-- a runner's state with the heap as the machine's cells, in which each key is its number
pub record Seen : Type 0 where
  pub cells : Cells machine.Content
  pub top : Frame
  pub below : List Frame
  pub globals : List (Option Word)
  pub pending : Option Key
  pub output : List ℕ
  pub turns : ℕ

abbrev pub seen : State → Seen
seen r = record {
  cells = numbered r.cells;
  top = r.top;
  below = r.below;
  globals = r.globals;
  pending = r.pending;
  output = r.output;
  turns = r.turns;
}

-- the machine's ending of a report's
abbrev pub ending_of : Ending → MachineEnding
ending_of Done = Ended source.Done
ending_of (Raised class text) = Ended (source.Raised (thrown class text))
ending_of Cut = Ended source.Cut
ending_of Over = Ended source.Over
ending_of (Fault f) = Faulted f

-- what a state of the machine has beside the runner's own: the lines of input, the output that was handed on, and the
-- numbers of the cells that were made for objects, after which no step asks
pub record Rest : Type 0 where
  pub items : Items
  pub handed : List ℕ
  pub made : List ℕ

-- where a run begins nothing was handed on, and no object was made
abbrev pub first_rest : Items → Rest
first_rest items = record { items = items; handed = []; made = [] }

abbrev pub frame_of : Frame → machine.Frame
frame_of f = record { func = f.func; place = f.place; vars = map word_of f.vars; ledger = f.ledger; into = f.into }

-- the frames that wait, of which the runner has the innermost last
abbrev pub waiting : List Frame → List machine.Frame
waiting frames = reverse (map frame_of frames)

-- what a global holds, nothing where it is unset
abbrev pub held_of : Option Word → Option machine.Word
held_of = option_map word_of

abbrev pub state_of : Rest → Seen → MachineState
state_of rest r = record {
  cells = r.cells;
  top = frame_of r.top;
  below = waiting r.below;
  globals = map held_of r.globals;
  pending = option_map number_of r.pending;
  output = rest.handed ++ r.output;
  items = rest.items;
  turns = r.turns;
  made = rest.made;
}

-- a frame with its target written, if there is one
abbrev pub with_target : Option ℕ → Word → Frame → Frame
with_target None w f = f
with_target (Some x) w f = record f { vars = slice_set f.vars x w }

-- the machine goes on, or ends so
abbrev pub next_of : Option Ending → MachineState → Next
next_of None s = Goes s
next_of (Some e) s = Ends (ending_of e) s

-- what the machine does leads from the runner's old state to its new one
abbrev pub Follows : (MachineState → Next) → Option Ending → Seen → Seen → Type 0
Follows does ending old new = (rest : Rest) → does (state_of rest old) ≡ next_of ending (state_of rest new)

-- the same where an object may be made
abbrev pub Leads : (MachineState → Next) → Option Ending → Seen → Seen → Type 0
Leads does ending old new =
    (rest : Rest) → (made : List ℕ) × (does (state_of rest old) ≡ next_of ending (state_of (record rest { made = made }) new))

-- neither the number of cells that were made, nor a count of a cell, nor a number of references that frames own is so great
-- that the runner could not count one more
pub record IsSmall (r : Seen) : Type 0 where
  pub made : length r.cells + 1 < 2 ^ 128
  pub counts : (c : ℕ) → count_at r.cells c + 1 < 2 ^ 128
  pub ledgers : (c : ℕ) → times r.top.ledger c + owned_below (waiting r.below) c < 2 ^ 128
