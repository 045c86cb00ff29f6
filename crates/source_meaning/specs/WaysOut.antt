-- How statements end, and what catches, repeats and follows them (Python Language Reference, "Compound statements").
use Rattle.std.specs.Prelude.{ℕ, zero, suc, Bool, false, List, [], ◌∷◌, Option, Some, None, slice_set, if◌then◌else◌}
use Rattle.std.specs.List.{list_any}
use Rattle.value_core.specs.declared.exception.ExcClass.{ExcClass}
use Rattle.value_core.specs.Exceptions.{is_under}
use Rattle.value_core.specs.Value.{Value, ExcVal}
use Rattle.py_typed.specs.Statements.{TypedTarget, LocalTarget, GlobalTarget, AttrTarget, ItemTarget}
use Rattle.source_meaning.specs.State.{State, Cut, Stuck, Outcome, Gives, Raises, Stops, Does, ◌>>=◌, ◌>>◌, give, raise, stop, spend}

-- how a statement ends: the next one follows, or it leaves a loop's body or the function
pub data Flow : Type 0 where
  Goes : Flow
  Breaks : Flow
  Continues : Flow
  Returns : Value → Flow

-- what follows, unless the statement leaves
abbrev pub flow_on : Does Flow → Flow → Does Flow
flow_on next Goes = next
flow_on next f = give f

-- ---- exceptions

abbrev pub caught : (Value → Does Flow) → Outcome Flow → Outcome Flow
caught handler (Gives f s) = Gives f s
caught handler (Raises e s) = handler e s
caught handler (Stops w s) = Stops w s

-- an exception that leaves the body goes to the handler
abbrev pub catch : Does Flow → (Value → Does Flow) → Does Flow
catch body handler s = caught handler (body s)

-- what was saved comes behind the last part, unless that leaves by itself
abbrev pub at_last : Does Flow → Outcome Flow → Outcome Flow
at_last last (Gives f s) = (last >>= flow_on (give f)) s
at_last last (Raises e s) = (last >>= flow_on (raise e)) s
at_last last (Stops w s) = Stops w s

-- the last part comes on every way out but the end of the run
abbrev pub finally : Does Flow → Does Flow → Does Flow
finally body last s = at_last last (body s)

-- a change of the state on every way out but the end of the run
abbrev pub and_set : {A : Type 0} → (State → State) → Outcome A → Outcome A
and_set f (Gives a s) = Gives a (f s)
and_set f (Raises e s) = Raises e (f s)
and_set f (Stops w s) = Stops w s

-- the body, with this exception as the innermost that is being handled
abbrev pub handling : Value → Does Flow → Does Flow
handling e body s = and_set (λ t. record t { handled = s.handled }) (body (record s { handled = e ∷ s.handled }))

-- the innermost exception again
abbrev pub raise_again : List Value → Does Flow
raise_again [] = stop Stuck
raise_again (e ∷ es) = raise e

-- an exception that is raised
abbrev pub raise_value : Value → Does Flow
raise_value (ExcVal e) = raise (ExcVal e)
raise_value _ = stop Stuck

abbrev pub catches : List ExcClass → Value → Bool
catches classes (ExcVal e) = list_any (is_under e.class) classes
catches classes _ = false

-- the name of a handler is unset at its end
abbrev pub unset : Option TypedTarget → State → State
unset None s = s
unset (Some (LocalTarget i)) s = record s { locals = slice_set s.locals i None }
unset (Some (GlobalTarget i)) s = record s { globals = slice_set s.globals i None }
unset (Some (AttrTarget e name)) s = s
unset (Some (ItemTarget e i)) s = s

abbrev pub unset_after : Option TypedTarget → Does Flow → Does Flow
unset_after name body s = and_set (unset name) (body s)

-- ---- loops

-- behind a loop's body: a turn is spent and the next test follows, unless the body leaves the loop
abbrev pub after_body : Does Flow → Flow → Does Flow
after_body next Goes = spend >> next
after_body next Continues = spend >> next
after_body next Breaks = give Goes
after_body next (Returns v) = give (Returns v)

-- a loop from x on: while the test holds, the body and then the next x. A bound that is at least one more than the turns left is
-- never reached
abbrev pub loop : {X : Type 0} → ℕ → (X → Does Bool) → (X → Does Flow) → (X → X) → X → Does Flow
loop zero test body next x = stop Cut
loop (suc n) test body next x = test x >>= λ h. if h then body x >>= after_body (loop n test body next (next x)) else give Goes

-- ---- functions

-- what a call gives by the way in which its body ended
abbrev pub answer : Value → Flow → Does Value
answer none Goes = give none
answer none (Returns v) = give v
answer none f = stop Stuck

-- a body with locals of its own, and no exception being handled
abbrev pub inside : {A : Type 0} → List (Option Value) → Does A → Does A
inside locals body s =
    and_set (λ t. record t { locals = s.locals; handled = s.handled }) (body (record s { locals = locals; handled = [] }))
