-- A step of a run that may read a line of the input first, before which what is held of the output is handed on.
use Rattle.std.specs.Prelude.{◌≡◌, ◌⊎◌, ◌<◌, ◌≤◌, ◌+◌, ℕ, Bool, false, List, [], ◌++◌, length, Option, Some, IsTrue, Result, Ok, Err}
use Rattle.std.specs.List.{concat}
use Rattle.outside_core.specs.Bytes.{TakesFront}
use Rattle.outside_core.specs.Counts.{one_more}
use Rattle.value_core.specs.Ending as source
use Rattle.value_core.specs.Items.{InputEnd, Broken, pieces}
use Rattle.c_core.specs.Machine.{MachineState}
use Rattle.c_core.specs.Step.{Next, Ends, Ended}
use Rattle.c_runner_lines.specs.declared.item.Item.{Item}
use Rattle.c_runner_lines.specs.declared.read_fault.ReadFault.{ReadFault}
use Rattle.c_runner_lines.specs.declared.read_fault.ReadFault.TheVariants.{Failed}
use Rattle.c_runner_lines.specs.declared.read_fault.ReadFault.TheVariants as read
use Rattle.c_runner_lines.specs.Held.{most_read, piece_size}
use Rattle.c_runner_lines.specs.ReaderState.{ReaderState, total_of}
use Rattle.c_runner_lines.specs.Reading.{items_left, is_ready, Suits, IsForOneLine, Refuses, Found, Takes, Uses, EndIsSeen}
use Rattle.c_runner_deeds.specs.declared.ending.Ending.{Ending}
use Rattle.c_runner_deeds.specs.declared.ending.Ending.TheVariants.{Over}
use Rattle.c_runner.specs.declared.refusal.Refusal.{Refusal}
use Rattle.c_runner.specs.declared.refusal.Refusal.TheVariants.{InputFault, WriteFault, Memory}
use Rattle.c_runner.specs.declared.report.RunError.{RunError}
use Rattle.c_runner.specs.declared.report.RunError.TheVariants as error
use Rattle.c_runner_deeds.specs.Handing.{HandsOn}
use Rattle.c_runner_deeds.specs.States.{Rest, state_of, next_of, Seen}
use Rattle.c_runner.specs.Ran.{line_count}
use Rattle.c_runner.specs.Waiting.{input_step}

-- what refused a step for which no line could be read
abbrev pub refusal_of_read : ReadFault → Refusal
refusal_of_read read.Failed = InputFault
refusal_of_read read.Memory = Memory

-- why a run ends behind a step that was not made, where there was some output before, or none
abbrev pub error_after : Bool → Refusal → RunError
error_after any InputFault = error.InputFault any
error_after any WriteFault = error.WriteFault
error_after any Memory = error.Memory

-- counts of faults: a failed read, and a refused call of the sink
abbrev pub faults_of_input : {T : Type 0} → Result T Refusal → ℕ → ℕ
faults_of_input (Err InputFault) n = one_more n
faults_of_input _ n = n

abbrev pub faults_of_output : {T : Type 0} → Result T Refusal → ℕ → ℕ
faults_of_output (Err WriteFault) n = one_more n
faults_of_output _ n = n

-- of what was held a front went to the sink, to which nothing happened where nothing was held
pub record HandsFront (tells : Bool) (sink sink' held : List ℕ) (Untouched : Type 0) : Type 0 where
  pub front : IsTrue tells → TakesFront sink sink' held
  pub alone : held ≡ [] → Untouched

-- all that was held went there
pub record HandsAll (tells : Bool) (sink sink' held : List ℕ) (Untouched : Type 0) : Type 0 where
  pub all : IsTrue tells → sink' ≡ sink ++ held
  pub alone : held ≡ [] → Untouched

-- some bytes were taken of an input, with those that were read before no more than may be read
pub record TakesSome (reader : ReaderState) (tells : Bool) (left left' : List ℕ) : Type 0 where
  pub taken : List ℕ
  pub given : IsTrue tells → left ≡ taken ++ left'
  pub within : total_of reader ≤ most_read → total_of reader + length taken ≤ most_read

-- what came of the call for a line
abbrev pub Fetches : ReaderState → ReaderState → List ℕ → List ℕ → Bool → List ℕ → List ℕ → Type 0 → Bool → List ℕ → List ℕ → Result Item Refusal → Type 0
Fetches reader reader' held held' out_tells sink sink' Untouched in_tells left left' (Ok item) =
    HandsOn out_tells sink sink' held held' Untouched × Takes reader in_tells left left' (Found item reader reader')
    × (IsTrue in_tells → EndIsSeen reader left → EndIsSeen reader' left') × (is_ready reader ≡ false → held' ≡ [])
Fetches reader reader' held held' out_tells sink sink' Untouched in_tells left left' (Err InputFault) =
    HandsAll out_tells sink sink' held Untouched × Takes reader in_tells left left' (Refuses Failed reader) × (is_ready reader ≡ false)
Fetches reader reader' held held' out_tells sink sink' Untouched in_tells left left' (Err WriteFault) =
    HandsFront out_tells sink sink' held Untouched × (left' ≡ left)
Fetches reader reader' held held' out_tells sink sink' Untouched in_tells left left' (Err Memory) =
    HandsFront out_tells sink sink' held Untouched × Takes reader in_tells left left' (IsForOneLine reader)
    × (is_ready reader ≡ false → HandsAll out_tells sink sink' held Untouched)

-- the bytes that a step uses are those of the lines that it uses, each whole
pub record UsesLines (reader reader' : ReaderState) (taken used : List ℕ) : Type 0 where
  pub lines : List (List ℕ)
  pub all : used ≡ concat lines
  pub whole : (future : List ℕ) (e : InputEnd) → Suits reader' future e → pieces (reader.held ++ (taken ++ future)) ≡ lines ++ pieces (reader'.held ++ future)
  pub counted : (future : List ℕ) (e : InputEnd) → Suits reader' future e → line_count (items_left reader (taken ++ future) e) ≡ length lines + line_count (items_left reader' future e)

-- where a step does not end the run with a line too far along: if bytes were taken a line is used, and of the bytes that were read and
-- not used there are fewer than one read gives
pub record StaysNear (reader reader' : ReaderState) (taken used : List ℕ) : Type 0 where
  pub near : length reader.held < piece_size → length reader'.held < piece_size
  pub quiet : used ≡ [] → taken ≡ []

-- A step leads from the old state to the new one, whatever follows the bytes that were taken, whatever was handed on before, and whatever
-- objects were made; it may make one. Where bytes were taken all output was handed on before
pub record Moves (does : MachineState → Next) (old new : Seen) (reader reader' : ReaderState) (out_tells : Bool) (sink sink' : List ℕ) (Untouched : Type 0) (in_tells : Bool) (left left' : List ℕ) (ending : Option Ending) : Type 0 where
  pub kept : List ℕ
  pub hands : HandsOn out_tells sink sink' old.output kept Untouched
  pub taken : List ℕ
  pub given : IsTrue in_tells → left ≡ taken ++ left'
  pub uses : Uses reader reader' taken
  pub within : total_of reader ≤ most_read → total_of reader' ≤ most_read
  pub seen : IsTrue in_tells → EndIsSeen reader left → EndIsSeen reader' left'
  pub ended : IsTrue reader.ended → IsTrue reader'.ended
  pub quiet : IsTrue reader.ended → taken ≡ []
  pub sent : (taken ≡ []) ⊎ (new.output ≡ [])
  pub lines : UsesLines reader reader' taken uses.used
  pub usual : (ending ≡ Some Over) ⊎ StaysNear reader reader' taken uses.used
  pub leads : (future : List ℕ) (e : InputEnd) → Suits reader' future e → (handed made : List ℕ) → (later : List ℕ) × (does (state_of (record { items = items_left reader (taken ++ future) e; handed = handed; made = made }) old) ≡ next_of ending (state_of (record { items = items_left reader' future e; handed = handed ++ hands.0; made = later }) new))

-- a read failed, all that was held was handed on before, and the machine stops there
pub record BreaksOff (does : MachineState → Next) (old : Seen) (reader : ReaderState) (out_tells : Bool) (sink sink' : List ℕ) (Untouched : Type 0) (in_tells : Bool) (left left' : List ℕ) : Type 0 where
  pub hands : HandsAll out_tells sink sink' old.output Untouched
  pub takes : Takes reader in_tells left left' (Refuses Failed reader)
  pub unready : is_ready reader ≡ false
  pub stops : (handed made : List ℕ) → does (state_of (record { items = Broken; handed = handed; made = made }) old) ≡ Ends (Ended source.Broken) (state_of (record { items = Broken; handed = handed; made = made }) old)

-- the machine reads a line there, all that was held was handed on, and what was taken is for that line
pub record ReadsOn (does : MachineState → Next) (old : Seen) (reader : ReaderState) (out_tells : Bool) (sink sink' : List ℕ) (Untouched : Type 0) (taken : List ℕ) : Type 0 where
  pub hands : HandsAll out_tells sink sink' old.output Untouched
  pub target : Option ℕ
  pub asks : (rest : Rest) → does (state_of rest old) ≡ input_step target (state_of rest old)
  pub one : IsForOneLine reader taken

-- memory ran out in a step: where bytes were taken, they were for a line that the machine reads
pub record Stalls (does : MachineState → Next) (old : Seen) (reader : ReaderState) (out_tells : Bool) (sink sink' : List ℕ) (Untouched : Type 0) (in_tells : Bool) (left left' : List ℕ) : Type 0 where
  pub hands : HandsFront out_tells sink sink' old.output Untouched
  pub takes : TakesSome reader in_tells left left'
  pub why : (takes.taken ≡ []) ⊎ ReadsOn does old reader out_tells sink sink' Untouched takes.taken

abbrev pub Advances : (MachineState → Next) → Seen → Seen → ReaderState → ReaderState → Bool → List ℕ → List ℕ → Type 0 → Bool → List ℕ → List ℕ → Result (Option Ending) Refusal → Type 0
Advances does old new reader reader' out_tells sink sink' Untouched in_tells left left' (Ok ending) =
    Moves does old new reader reader' out_tells sink sink' Untouched in_tells left left' ending
Advances does old new reader reader' out_tells sink sink' Untouched in_tells left left' (Err InputFault) =
    BreaksOff does old reader out_tells sink sink' Untouched in_tells left left'
Advances does old new reader reader' out_tells sink sink' Untouched in_tells left left' (Err WriteFault) =
    HandsFront out_tells sink sink' old.output Untouched × (left' ≡ left)
Advances does old new reader reader' out_tells sink sink' Untouched in_tells left left' (Err Memory) =
    Stalls does old reader out_tells sink sink' Untouched in_tells left left'
