-- What a module does: the meaning that all that is made of it is held to.
use Rattle.std.specs.Prelude.{ℕ, zero, suc, ◌-◌, List, [], ◌++◌, length, map, replicate, Option, Some, None, slice_get, ◌==◌, if◌then◌else◌}
use Rattle.value_core.specs.Ending as ending
use Rattle.value_core.specs.Ending.{Ending, Done, Raised}
use Rattle.value_core.specs.Items.{Items}
use Rattle.value_core.specs.Value.{Value, NoneVal, ExcVal, Store}
use Rattle.py_typed.specs.Statements.{TypedFunc, TypedModule}
use Rattle.source_meaning.specs.State.{State, Stop, Cut, Over, Broken, Stuck, Outcome, Gives, Raises, Stops, Does, Calls, ◌>>=◌, ◌>>◌, stop, spend}
use Rattle.source_meaning.specs.WaysOut.{Flow, Goes, answer, inside}
use Rattle.source_meaning.specs.StatementMeaning.{suite}

module _ (m : TypedModule) where
  -- the body of a function on its arguments: its other locals are unset
  abbrev pub enter : Calls → ℕ → Option TypedFunc → List Value → Does Value
  enter call n None args = stop Stuck
  enter call n (Some f) args =
      (if length args == f.params
      then inside (map Some args ++ replicate (length f.locals - length args) None) (suite m.classes.classes call m.globals f.locals n f.body >>= answer NoneVal)
      else stop Stuck)

  -- what a call does once its turn is spent; n bounds the calls inside one another and the repetitions of each loop, and is
  -- never reached where it is at least the turns that were left when the call was made
  abbrev pub body_of : ℕ → Calls
  body_of zero f args = stop Cut
  body_of (suc n) f args = enter (λ g vs. spend >> body_of n g vs) n (slice_get m.funcs f) args

  -- a call: a turn, and then that
  abbrev pub call_of : ℕ → Calls
  call_of n f args = spend >> body_of n f args

  -- the module's own statements
  abbrev pub top_of : ℕ → Does Flow
  top_of n = suite m.classes.classes (call_of n) m.globals [] n m.top

  abbrev pub start : ℕ → Items → State
  start n items = record {
    store = [];
    globals = replicate (length m.globals) None;
    locals = [];
    handled = [];
    output = [];
    items = items;
    turns = n;
  }

-- where a run stops: its output; its ending, None where it is stuck at a part that no well-typed module has; the objects that it made;
-- and the values of the module's variables, None where one is unset
pub record ModuleStop : Type 0 where
  pub output : List ℕ
  pub ending : Option Ending
  pub store : Store
  pub variables : List (Option Value)

abbrev pub stopped : State → Option Ending → ModuleStop
stopped s e = record { output = s.output; ending = e; store = s.store; variables = s.globals }

abbrev pub ending_by : Stop → Option Ending
ending_by Cut = Some ending.Cut
ending_by Over = Some ending.Over
ending_by Broken = Some ending.Broken
ending_by Stuck = None

abbrev pub raised_as : Value → Option Ending
raised_as (ExcVal e) = Some (Raised e)
raised_as v = None

abbrev pub stop_of : Outcome Flow → ModuleStop
stop_of (Gives Goes s) = stopped s (Some Done)
stop_of (Gives f s) = stopped s None
stop_of (Raises e s) = stopped s (raised_as e)
stop_of (Stops w s) = stopped s (ending_by w)

-- the run of a module for n turns on these lines of input
unfoldable pub source_run : ℕ → Items → TypedModule → ModuleStop
source_run n items m = stop_of (top_of m n (start m n items))
