-- Where a run ends as a program does, no ledger is left.
use Rattle.std.proofs.Common.{◌≡◌, refl, ap, subst, ℕ, zero, suc, true, cond, List, [], ◌∷◌, Option, Some, None, arith}
use Rattle.std.specs.Option.{option_and_then}
use Rattle.value_core.specs.Ending.{Ending, Done, Raised, Cut, Over, Broken}
use Rattle.c_core.specs.declared.code.CArg.{CArg}
use Rattle.c_core.specs.declared.code.Line.{Line}
use Rattle.c_core.specs.declared.code.Line.TheVariants.{Label, Move, Lit, Call, Virtual, TraitCall, Goto, If, IfError, Turn, Return, Inc, Dec, XDec}
use Rattle.c_core.specs.declared.code.CClass.{CClass}
use Rattle.c_core.specs.declared.code.Code.{Code}
use Rattle.c_core.specs.declared.fault.Fault.{Fault}
use Rattle.c_core.specs.declared.fault.Fault.TheVariants as fault
use Rattle.c_core.specs.declared.primitive.Primitive.{Primitive}
use Rattle.c_core.specs.Cells.{times}
use Rattle.c_core.specs.Ledgers.{Ledger}
use Rattle.c_core.specs.Machine.{Word, CharWord, Content, ExcCell, refs_of, Frame, MachineState}
use Rattle.c_core.specs.Holders.{owned, owned_below}
use Rattle.c_core.specs.Functions.{function_named, method_at, trait_method_at}
use Rattle.c_core.specs.Primitives.{row_of, primitive_named}
use Rattle.c_core.specs.Arguments.{stolen}
use Rattle.c_core.specs.Step.{MachineEnding, Ended, Faulted, Next, Goes, Ends, Effect, Stops, effect, literal_word, equals_error, kind_of, label_at, applied, call_step, method_called, turned, if_return, if_result, if_none_left, if_thrown, if_ended, step_at, line_at, step}
use Rattle.c_core.specs.Run.{Stop, go_on, start, most_steps}
use Rattle.c_core.proofs.KeepsCounts.{run_keeps_counts}
use Rattle.c_core.proofs.StepCases.{at_some, at_calm, at_content, at_word, at_there, at_called, at_function, at_method, at_jumped, at_chosen, at_incremented, at_decremented, at_decremented_if_set, at_order, at_result}
use Rattle.c_core_ownership_laws.specs.Laws.{IsFinished, EndOwnsNothing}
use Rattle.c_core_ownership_laws.proofs.Effects.{StopsByInput, stops_by_input}

-- a step that ends a run as a program ends leaves no ledger
abbrev Left : Next → Type 0
Left (Goes s) = Unit {0}
Left (Ends (Ended Done) t) = (c : ℕ) → owned t c ≡ 0
Left (Ends (Ended (Raised e)) t) = (c : ℕ) → owned t c ≡ 0
Left (Ends _ t) = Unit {0}

module _ (s : MachineState) where
  bad : (f : Fault) → Left (Ends (Faulted f) s)
  bad f = tt

  applied_left : (x : Option ℕ) (l : Ledger) (gone : List ℕ) (e : Effect) → StopsByInput e → Left (applied true s x l gone e)
  applied_left x l gone (Stops Done) h = absurd h
  applied_left x l gone (Stops (Raised e)) h = absurd h
  applied_left x l gone (Stops Cut) h = tt
  applied_left x l gone (Stops Over) h = tt
  applied_left x l gone (Stops Broken) h = tt
  applied_left x l gone _ h = tt

  turned_left : (n : ℕ) → Left (turned true s n)
  turned_left zero = tt
  turned_left (suc n) = tt

  -- the module returns a number, so its ledger is empty
  none_left : (w : Word) (e : Ending) → ((c : ℕ) → times (refs_of w) c ≡ 0) → s.below ≡ [] → Left (if_result true s w (λ l. if_none_left true s l (Ends (Ended e) s)))
  none_left w Done bare alone = at_result true s Left bad w _ (λ all c. omega (arith, all refl c, bare c, ap (λ b. owned_below b c) alone))
  none_left w (Raised e) bare alone = at_result true s Left bad w _ (λ all c. omega (arith, all refl c, bare c, ap (λ b. owned_below b c) alone))
  none_left w e bare alone = at_result true s Left bad w _ (λ all. tt)

  thrown_left : (n : ℕ) (v : Content) → s.below ≡ [] → Left (if_thrown true s v (λ e. if_result true s (CharWord n) (λ l. if_none_left true s l (Ends (Ended e) s))))
  thrown_left n (ExcCell e) alone = none_left (CharWord n) (Raised e) (λ c. refl) alone
  thrown_left n _ alone = tt

  ended_left : (w : Word) (o : Option ℕ) → s.below ≡ [] → Left (if_ended true s w o (λ e. if_result true s w (λ l. if_none_left true s l (Ends (Ended e) s))))
  ended_left (CharWord (suc zero)) None alone = none_left (CharWord 1) Done (λ c. refl) alone
  ended_left (CharWord (suc (suc zero))) (Some c) alone =
      at_content true s Left bad c _ (λ v e. thrown_left 2 v alone)
  ended_left _ _ alone = tt

  return_left : (w : Word) (fs : List Frame) → s.below ≡ fs → Left (if_return true s w fs (λ next. if_result true s w (λ l. if_none_left true s l next)))
  return_left w [] alone = ended_left w s.pending alone
  return_left w (f ∷ fs) e = at_result true s Left bad w _ (λ all. tt)

  call_left : (code : Code) (x : Option ℕ) (name : List ℕ) (args : List CArg) (o : Option Primitive) → Left (call_step true s code x name args o)
  call_left code x name args (Some p) =
      at_called true s Left bad code x args p
      (λ calm all l left here. applied_left x l (stolen (row_of p).parameters all) (effect code s p all) (stops_by_input code s p all))
  call_left code x name args None =
      at_function true s Left bad code x args (function_named code.funcs name) (λ f g e is ws. tt)

  method_left : (code : Code) (x o : ℕ) (args : List ℕ) (entry : CClass → Option (List ℕ)) → Left (method_called true s code x o args entry)
  method_left code x o args entry = at_method true s Left bad code x o args entry (λ a f g e is ws. tt)

  line_left : (code : Code) (o : Option Line) → Left (step_at true code s o)
  line_left code None = tt
  line_left code (Some Label) = tt
  line_left code (Some (Move x y)) = at_word true s Left bad y _ (λ w e. at_there true s Left bad w _ (λ a. tt))
  line_left code (Some (Lit x l)) =
      at_some true s Left bad fault.Kind (option_and_then (λ k. literal_word k l) (kind_of code s.top x)) _ (λ w e. tt)
  line_left code (Some (Call x name args)) = call_left code x name args (primitive_named name)
  line_left code (Some (Virtual x o n args)) = method_left code x o args (method_at n)
  line_left code (Some (TraitCall x o t n args)) = method_left code x o args (trait_method_at t n)
  line_left code (Some (Goto n)) = at_jumped true s Left bad (label_at code s.top n) (λ q e. tt)
  line_left code (Some (If x n m)) =
      at_word true s Left bad x _
      (λ w e. at_chosen true s Left bad (label_at code s.top n) (label_at code s.top m) w
      (at_jumped true s Left bad (label_at code s.top n) (λ q e. tt)) (at_jumped true s Left bad (label_at code s.top m) (λ q e. tt)))
  line_left code (Some (IfError x n m)) =
      at_word true s Left bad x _ (λ w e. at_jumped true s Left bad (label_at code s.top (cond (equals_error w) n m)) (λ q e. tt))
  line_left code (Some Turn) = at_calm true s Left bad s.pending _ (λ calm. turned_left s.turns)
  line_left code (Some (Return x)) =
      at_word true s Left bad x _ (λ w e. at_order true s Left bad w s.pending _ (return_left w s.below refl))
  line_left code (Some (Inc x)) = at_word true s Left bad x _ (λ w e. at_incremented true s Left bad w tt (λ c v e. tt))
  line_left code (Some (Dec x)) = at_word true s Left bad x _ (λ w e. at_decremented true s Left bad w tt (λ c l took. tt))
  line_left code (Some (XDec x)) = at_word true s Left bad x _ (λ w e. at_decremented_if_set true s Left bad w tt (λ c l took. tt))

over_left : (e : MachineEnding) (t : MachineState) → Left (Ends e t) → IsFinished e → (c : ℕ) → owned t c ≡ 0
over_left (Ended Done) t h o = h
over_left (Ended (Raised e)) t h o = h
over_left _ t h o = absurd o

run_left : (code : Code) (k : ℕ) (next : Next) (stop : Stop) → Left next → go_on (step code) k next ≡ Some stop → IsFinished stop.ending → (c : ℕ) → owned stop.state c ≡ 0
run_left code k (Ends e s) stop h is =
    let same_stop : record { ending = e; state = s } ≡ stop = cc in
    subst (λ z. IsFinished z.ending → (c : ℕ) → owned z.state c ≡ 0) same_stop (over_left e s h)
run_left code zero (Goes s) stop h is = cc
run_left code (suc k) (Goes s) stop h is =
    run_left code k (step code s) stop (line_left s code (line_at code s.top)) is

pub end_counts : EndOwnsNothing
end_counts code n items stop is over c =
    let none : owned stop.state c ≡ 0 = run_left code (most_steps n code) (Goes (start code n items)) stop tt is over c in
    (none, omega (arith, (run_keeps_counts code n items).1 stop is c, none))
