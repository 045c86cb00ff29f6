-- Parts of what a line does, as the runner makes them.
use Rattle.std.specs.Prelude.{ℕ, true, cond, List, [], ◌∷◌, Option, Some, None}
use Rattle.c_core.specs.declared.code.CArg.{CArg}
use Rattle.c_core.specs.declared.code.Code.{Code}
use Rattle.c_core.specs.declared.code.Line.{Line}
use Rattle.c_core.specs.declared.code.Line.TheVariants as line
use Rattle.c_core.specs.declared.fault.Fault.{Fault}
use Rattle.c_core.specs.declared.fault.Fault.TheVariants as fault
use Rattle.c_core.specs.declared.primitive.Primitive.{Primitive}
use Rattle.c_core.specs.declared.primitive.Primitive.TheVariants as prim
use Rattle.c_core.specs.Ledgers.{more_of}
use Rattle.c_core.specs.Machine as machine
use Rattle.c_core.specs.Machine.{Word, MachineState, refs_of}
use Rattle.c_core.specs.Step.{Next, Ends, Faulted, jumped, equals_error, called, primitive_step, function_called, step_at, faulted, with_target, next_line}
use Rattle.c_runner_deeds.specs.declared.state.Frame.{Frame}
use Rattle.c_runner_table.specs.declared.naming.Callee.{Callee}
use Rattle.c_runner_table.specs.declared.naming.Callee.TheVariants as callee
use Rattle.c_runner_deeds.specs.States.{frame_of}

-- the fault of a test, or what comes behind it
abbrev pub unless_fault : Option Fault → MachineState → Next → Next
unless_fault None s next = next
unless_fault (Some f) s next = Ends (Faulted f) s

-- ---- lines
-- what a line does that calls nothing, and a primitive that makes no object and asks for no line of the input
abbrev pub plain_step : Code → MachineState → Line → Next
plain_step code s (line.Call target name args) = faulted true s fault.Kind
plain_step code s (line.Virtual x o n args) = faulted true s fault.Kind
plain_step code s (line.TraitCall x o t n args) = faulted true s fault.Kind
plain_step code s other = step_at true code s (Some other)

abbrev pub quiet_step : Code → Option ℕ → List CArg → Primitive → MachineState → Next
quiet_step code target args (prim.Dict operation) s = faulted true s fault.Kind
quiet_step code target args (prim.List operation) s = faulted true s fault.Kind
quiet_step code target args (prim.Instance operation) s = faulted true s fault.Kind
quiet_step code target args (prim.Io operation) s = faulted true s fault.Kind
quiet_step code target args p s = primitive_step true s code target args p

-- a jump to the first place where a word equals the error value of its kind, and else to the second one
abbrev pub jumped_by_error : MachineState → Option ℕ → Option ℕ → Word → Next
jumped_by_error s first second w = jumped true s (cond (equals_error w) first second)

-- ---- calls
-- a call of what the runner found by its name
abbrev pub callee_called : Code → Option ℕ → List CArg → Callee → MachineState → Next
callee_called code target args (callee.Primitive p) s = called true s code target args p
callee_called code target args (callee.Function f) s = function_called true s code target args (Some f)

-- a frame runs, for which the one that ran waits at its next line
abbrev pub waits_for : Frame → MachineState → MachineState
waits_for callee s = record s { top = frame_of callee; below = (next_line s).top ∷ s.below }

-- the innermost frame that waits goes on, with a word in the variable that it asked for, whose reference it owns
abbrev pub back_in : Word → MachineState → List machine.Frame → MachineState
back_in w s [] = s
back_in w s (f ∷ fs) = with_target s.top.into w (record s { top = record f { ledger = more_of (refs_of w) f.ledger }; below = fs })

abbrev pub handed_back : Word → MachineState → MachineState
handed_back w s = back_in w s s.below
