-- Steps in other words: lines, calls and primitives, at the runner's states.
use Rattle.std.proofs.Common.{◌≡◌, refl, sym, ap, ◌∙◌, ℕ, zero, suc, arith, Bool, true, false, cond, eqb, List, [], ◌∷◌, length, Option, Some, None, Ok, Err}
use Rattle.std.specs.Prelude.{nat_lt, is_some, Result}
use Rattle.std.specs.Option.{option_map}
use Rattle.std.proofs.lemmas.Bool.Decides.{nat_tests}
use Rattle.c_core.specs.declared.code.CArg.{CArg}
use Rattle.c_core.specs.declared.code.CFunc.{CFunc}
use Rattle.c_core.specs.declared.code.Line.{Line}
use Rattle.c_core.specs.declared.code.Line.TheVariants.{Call, Virtual, TraitCall}
use Rattle.c_core.specs.declared.fault.Fault.TheVariants as fault
use Rattle.c_core.specs.declared.primitive.Primitive.{Primitive}
use Rattle.c_core.specs.declared.primitive.Primitive.TheVariants.{Dict as OfDict, List as OfList, Instance as OfInstance, Io}
use Rattle.c_core.specs.declared.primitive.DictPrim.{DictPrim}
use Rattle.c_core.specs.declared.primitive.ListPrim.{ListPrim}
use Rattle.c_core.specs.declared.primitive.InstancePrim.{InstancePrim}
use Rattle.c_core.specs.declared.primitive.IoPrim.{IoPrim}
use Rattle.c_core.specs.declared.primitive.IoPrim.TheVariants.{Input}
use Rattle.c_core.specs.declared.code.Code.{Code}
use Rattle.c_core.specs.Cells.{times, content_at}
use Rattle.c_core.specs.Functions.{label_places, function_named}
use Rattle.c_core.specs.Machine.{MachineState}
use Rattle.c_core.specs.Primitives.{row_of, primitive_named}
use Rattle.c_core.specs.Step as step
use Rattle.c_core.specs.Step.{Next, Goes, Ends, Faulted, if_some, if_calm, if_may_stand, next_line, line_at, primitive_step, called, function_called, call_step, faulted, given_up, if_any}
use Rattle.c_runner.specs.declared.pause.Pause.{Pause}
use Rattle.c_runner.specs.declared.pause.Pause.TheVariants.{Waits, Memory}
use Rattle.c_runner_deeds.specs.declared.ending.Ending.{Ending}
use Rattle.c_runner_deeds.specs.declared.ending.Ending.TheVariants as ending
use Rattle.c_runner_table.specs.declared.naming.Callee.{Callee}
use Rattle.c_runner_table.specs.declared.naming.Callee.TheVariants as callee
use Rattle.c_runner_table.specs.declared.naming.Target.{Target}
use Rattle.c_runner_deeds.specs.States.{Rest, frame_of, state_of, Follows, Leads, Seen}
use Rattle.c_runner_table.specs.Targets.{callee_among, callee_of, target_of}
use Rattle.c_runner.specs.Waiting.{Steps}
use Rattle.c_runner.specs.Parts.{callee_called, plain_step, quiet_step}

-- a line is asked for with no argument
pub input_crowded : (code : Code) (target : Option ℕ) (args : List CArg) (old : Seen) → eqb (length args) 0 ≡ false → Leads (λ s. primitive_step true s code target args (Io Input)) (Some (ending.Fault fault.Kind)) old old
input_crowded code target [] old e = absurd (cc)
input_crowded code target (a ∷ args) old e = λ rest. (rest.made, refl)

-- ---- a step that makes no object, and a step that is another one
pub quiet : (does to : MachineState → Next) (ending : Option Ending) (old new : Seen) → ((rest : Rest) → to (state_of rest old) ≡ does (state_of rest old)) → Follows does ending old new → Leads to ending old new
quiet does to ending old new e h = λ rest. (rest.made, e rest ∙ h rest)

pub leads_as : (does to : MachineState → Next) (ending : Option Ending) (old new : Seen) → ((rest : Rest) → to (state_of rest old) ≡ does (state_of rest old)) → Leads does ending old new → Leads to ending old new
leads_as does to ending old new e h = λ rest. let led = h rest in (led.0, e rest ∙ led.1)

pub steps_as : (does to : MachineState → Next) (old new : Seen) (r : Result (Option Ending) Pause) → ((rest : Rest) → to (state_of rest old) ≡ does (state_of rest old)) → Steps does r old new → Steps to r old new
steps_as does to old new (Ok ending) e h = leads_as does to ending old new e h
steps_as does to old new (Err (Waits target)) e h = record { same = h.same; place = h.place; leads = λ rest. e rest ∙ h.leads rest }
steps_as does to old new (Err Memory) e h = tt

-- whether a primitive may be called now
module _ (code : Code) (target : Option ℕ) (args : List CArg) (p : Primitive) (old : Seen) (b : Bool) (may : (rest : Rest) (go : Next) → if_may_stand true (state_of rest old) (row_of p).while_pending go ≡ cond b go (faulted true (state_of rest old) fault.Kind)) where
  stands_so : (rest : Rest) → called true (state_of rest old) code target args p ≡ cond b (primitive_step true (state_of rest old) code target args p) (faulted true (state_of rest old) fault.Kind)
  stands_so rest = may rest (primitive_step true (state_of rest old) code target args p)

  pub may_not_stand : b ≡ false → Leads (λ s. called true s code target args p) (Some (ending.Fault fault.Kind)) old old
  may_not_stand is = λ rest. (rest.made, stands_so rest ∙ ap (λ d. cond d (primitive_step true (state_of rest old) code target args p) (faulted true (state_of rest old) fault.Kind)) is)

  pub may_stand : (new : Seen) (r : Result (Option Ending) Pause) → b ≡ true → Steps (λ s. primitive_step true s code target args p) r old new → Steps (λ s. called true s code target args p) r old new
  may_stand new r is h =
      steps_as (λ s. primitive_step true s code target args p) (λ s. called true s code target args p) old new r
      (λ rest. stands_so rest ∙ ap (λ d. cond d (primitive_step true (state_of rest old) code target args p) (faulted true (state_of rest old) fault.Kind)) is) h

-- lines that call nothing, and primitives that make no object and ask for no line
pub is_plain : (code : Code) (s : MachineState) (line : Line) → ((x : Option ℕ) (name : List ℕ) (args : List CArg) → line ≡ Call x name args → ⊥) → ((x o n : ℕ) (args : List ℕ) → line ≡ Virtual x o n args → ⊥) → ((x o : ℕ) (t : List ℕ) (n : ℕ) (args : List ℕ) → line ≡ TraitCall x o t n args → ⊥) → step.step_at true code s (Some line) ≡ plain_step code s line
is_plain code s (Call x name args) no_call no_own no_trait = absurd (no_call x name args refl)
is_plain code s (Virtual x o n args) no_call no_own no_trait = absurd (no_own x o n args refl)
is_plain code s (TraitCall x o t n args) no_call no_own no_trait = absurd (no_trait x o t n args refl)
is_plain code s _ no_call no_own no_trait = refl

pub is_quiet : (code : Code) (s : MachineState) (target : Option ℕ) (args : List CArg) (p : Primitive) → ((o : DictPrim) → p ≡ OfDict o → ⊥) → ((o : ListPrim) → p ≡ OfList o → ⊥) → ((o : InstancePrim) → p ≡ OfInstance o → ⊥) → ((o : IoPrim) → p ≡ Io o → ⊥) → primitive_step true s code target args p ≡ quiet_step code target args p s
is_quiet code s target args (OfDict o) no_dict no_list no_instance no_io = absurd (no_dict o refl)
is_quiet code s target args (OfList o) no_dict no_list no_instance no_io = absurd (no_list o refl)
is_quiet code s target args (OfInstance o) no_dict no_list no_instance no_io = absurd (no_instance o refl)
is_quiet code s target args (Io o) no_dict no_list no_instance no_io = absurd (no_io o refl)
is_quiet code s target args _ no_dict no_list no_instance no_io = refl

-- the line that comes next
pub no_line : (code : Code) (old : Seen) → line_at code (frame_of old.top) ≡ None → Leads (step.step code) (Some (ending.Fault fault.Kind)) old old
no_line code old e = λ rest. (rest.made, ap (step.step_at true code (state_of rest old)) e)

pub one_line : (code : Code) (old new : Seen) (line : Line) (r : Result (Option Ending) Pause) → line_at code (frame_of old.top) ≡ Some line → Steps (λ s. step.step_at true code s (Some line)) r old new → Steps (step.step code) r old new
one_line code old new line r e h =
    steps_as (λ s. step.step_at true code s (Some line)) (step.step code) old new r (λ rest. ap (step.step_at true code (state_of rest old)) e) h

-- ---- a line that calls
module _ (rest : Rest) (old : Seen) (code : Code) (x : Option ℕ) (name : List ℕ) (args : List CArg) where
  abbrev t : MachineState
  t = state_of rest old

  abbrev found : Option ℕ
  found = function_named code.funcs name

  calm_fault : (o : Option ℕ) → if_calm true t o (Ends (Faulted fault.Kind) t) ≡ Ends (Faulted fault.Kind) t
  calm_fault None = refl
  calm_fault (Some c) = refl

  no_function : (f : Option ℕ) → option_map callee.Function f ≡ None → function_called true t code x args f ≡ Ends (Faulted fault.Kind) t
  no_function None e = calm_fault (state_of rest old).pending
  no_function (Some f) e = absurd (cc)

  no_callee : (o : Option Primitive) → callee_among o found ≡ None → call_step true t code x name args o ≡ Ends (Faulted fault.Kind) t
  no_callee None e = no_function found e
  no_callee (Some p) e = absurd (cc)

  no_primitive : (f : Option ℕ) (p : Primitive) → option_map callee.Function f ≡ Some (callee.Primitive p) → ⊥
  no_primitive None p e = cc
  no_primitive (Some f) p e = cc

  primitive_callee : (o : Option Primitive) (p : Primitive) → callee_among o found ≡ Some (callee.Primitive p) → call_step true t code x name args o ≡ called true t code x args p
  primitive_callee None p e = absurd (no_primitive found p e)
  primitive_callee (Some q) p e = let same : q ≡ p = cc in ap (λ r. called true t code x args r) same

  function_found : (o : Option ℕ) (f : ℕ) → option_map callee.Function o ≡ Some (callee.Function f) → o ≡ Some f
  function_found None f e = absurd (cc)
  function_found (Some g) f e = let same : g ≡ f = cc in ap Some same

  function_callee : (o : Option Primitive) (f : ℕ) → callee_among o found ≡ Some (callee.Function f) → call_step true t code x name args o ≡ function_called true t code x args (Some f)
  function_callee None f e = ap (function_called true t code x args) (function_found found f e)
  function_callee (Some p) f e = absurd (cc)

  callee_step : (o : Option Primitive) (k : Callee) → callee_among o found ≡ Some k → call_step true t code x name args o ≡ callee_called code x args k t
  callee_step o (callee.Primitive p) e = primitive_callee o p e
  callee_step o (callee.Function f) e = function_callee o f e

module _ (code : Code) (g : CFunc) (line : Line) (x : Option ℕ) (name : List ℕ) (args : List CArg) (target : Target) (is : line ≡ Call x name args) (known : target ≡ target_of code (label_places g.lines) line) where
  callee_is : (o : Option Callee) → target.callee ≡ o → callee_of code.funcs name ≡ o
  callee_is o e = sym (ap (λ u. u.callee) (known ∙ ap (target_of code (label_places g.lines)) is)) ∙ e

  pub calls_nothing : (rest : Rest) (old : Seen) → target.callee ≡ None → step.step_at true code (state_of rest old) (Some line) ≡ Ends (Faulted fault.Kind) (state_of rest old)
  calls_nothing rest old e =
      ap (λ l. step.step_at true code (state_of rest old) (Some l)) is ∙ no_callee rest old code x name args (primitive_named name) (callee_is None e)

  pub call_is : (rest : Rest) (old : Seen) (slice : List CArg) (k : Callee) → target.callee ≡ Some k → slice ≡ args → step.step_at true code (state_of rest old) (Some line) ≡ callee_called code x slice k (state_of rest old)
  call_is rest old slice k e same =
      ap (λ l. step.step_at true code (state_of rest old) (Some l)) is
      ∙ callee_step rest old code x name args (primitive_named name) k (callee_is (Some k) e)
      ∙ ap (λ a. callee_called code x a k (state_of rest old)) (sym same)

  pub calls : (old new : Seen) (slice : List CArg) (k : Callee) (r : Result (Option Ending) Pause) → target.callee ≡ Some k → slice ≡ args → Steps (callee_called code x slice k) r old new → Steps (λ s. step.step_at true code s (Some line)) r old new
  calls old new slice k r e same h =
      steps_as (callee_called code x slice k) (λ s. step.step_at true code s (Some line)) old new r (λ rest. call_is rest old slice k e same) h

-- a line that calls a method makes no object
pub line_calls : (code : Code) (line as_is : Line) (does : MachineState → Next) (ending : Option Ending) (old new : Seen) → line ≡ as_is → ((rest : Rest) → step.step_at true code (state_of rest old) (Some as_is) ≡ does (state_of rest old)) → Follows does ending old new → Leads (λ s. step.step_at true code s (Some line)) ending old new
line_calls code line as_is does ending old new is same h =
    quiet does (λ s. step.step_at true code s (Some line)) ending old new (λ rest. ap (λ l. step.step_at true code (state_of rest old) (Some l)) is ∙ same rest) h

-- ---- a reference that is given up
none_owned : (s : MachineState) (c n : ℕ) (go : Next) → nat_lt 0 n ≡ false → if_any true s n go ≡ Ends (Faulted fault.NotOwned) s
none_owned s c zero go e = refl
none_owned s c (suc n) go e = absurd (grind (arith, nat_tests, e))

live_content : {A : Type 0} (o : Option A) → is_some o ≡ true → (a : A) × (o ≡ Some a)
live_content None e = absurd (cc)
live_content (Some a) e = (a, refl)

pub not_owned : (s : MachineState) (c : ℕ) → is_some (content_at s.cells c) ≡ true → nat_lt 0 (times s.top.ledger c) ≡ false → given_up true s c ≡ Ends (Faulted fault.NotOwned) s
not_owned s c live none =
    let content = live_content (content_at s.cells c) live in
    ap (λ o. if_some true s fault.Dead o (λ x. step.if_taken true s c s.top.ledger (λ l. Goes (next_line (step.given true s (c ∷ []) (step.with_ledger l s)))))) content.1
    ∙ none_owned s c (times s.top.ledger c) _ none
