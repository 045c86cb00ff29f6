-- What each step of the machine keeps: the output only grows.
use Rattle.std.proofs.Common.{◌≡◌, refl, sym, ◌∙◌, ap, subst, ℕ, zero, suc, ◌+◌, ◌-◌, ◌≤◌, arith, true, cond, List, [], ◌∷◌, ◌++◌, append_assoc, append-nil, Option, Some, None}
use Rattle.std.specs.Prelude.{slice_set}
use Rattle.std.specs.Option.{option_and_then}
use Rattle.c_core.specs.declared.code.Line.{Line}
use Rattle.c_core.specs.declared.code.Line.TheVariants.{Label, Move, Lit, Call, Virtual, TraitCall, Goto, If, IfError, Turn, Return, Inc, Dec, XDec}
use Rattle.c_core.specs.declared.code.CArg.{CArg}
use Rattle.c_core.specs.declared.code.CClass.{CClass}
use Rattle.c_core.specs.declared.code.Code.{Code}
use Rattle.c_core.specs.declared.fault.Fault.{Fault}
use Rattle.c_core.specs.declared.fault.Fault.TheVariants as fault
use Rattle.c_core.specs.declared.primitive.Primitive.{Primitive}
use Rattle.c_core.specs.Arguments.{stolen}
use Rattle.c_core.specs.Cells.{refill}
use Rattle.c_core.specs.Functions.{function_named, method_at, trait_method_at}
use Rattle.c_core.specs.Ledgers.{Ledger, more_of}
use Rattle.c_core.specs.Laws.{Reaches, Here, There}
use Rattle.c_core.specs.Machine.{Word, BigInt, ObjectCell, Content, StrCell, Frame, MachineState, refs_of, set_refs}
use Rattle.c_core.specs.Primitives.{row_of, primitive_named}
use Rattle.c_core.specs.Step.{Next, Goes, Ends, Faulted, Effect, Wrong, Says, Shares, Lends, Makes, Changes, Writes, Stores, Fails, Pends, Catches, MakesInt, Reads, Skips, Stops, with_cells, with_items, shared, raise, own, effect, with_ledger, with_target, next_line, literal_word, equals_error, kind_of, label_at, applied, given, made_cell, made_int, call_step, method_called, turned, if_return, if_result, if_none_left, step_at, line_at, step}
use Rattle.c_core.specs.Run.{Stop, go_on}
use Rattle.c_core.proofs.StepCases.{at_some, at_calm, at_word, at_there, at_called, at_function, at_method, at_jumped, at_chosen, at_incremented, at_decremented, at_decremented_if_set, at_order, at_ended, at_result}

-- ---- a step
pub record Keeps (s t : MachineState) : Type 0 where
  pub more : List ℕ
  pub grown : t.output ≡ s.output ++ more

-- where a run ends its state stays
abbrev pub KeepsTo : MachineState → Next → Type 0
KeepsTo s (Goes t) = Keeps s t
KeepsTo s (Ends e t) = t ≡ s

module _ (s : MachineState) where
  abbrev To : Next → Type 0
  To = KeepsTo s

  bad : (f : Fault) → To (Ends (Faulted f) s)
  bad f = refl

  -- nothing is written
  same : (t : MachineState) → t.output ≡ s.output → Keeps s t
  same t e = record { more = []; grown = e ∙ sym (append-nil s.output) }

  target_same : (x : Option ℕ) (w : Word) (t : MachineState) → t.output ≡ s.output → Keeps s (with_target x w t)
  target_same None w t e = same t e
  target_same (Some x) w t e = same (with_target (Some x) w t) e

  made_on : (x : Option ℕ) (content : Content) (t : MachineState) → t.output ≡ s.output → Keeps s (next_line (made_cell true s x content t))
  made_on None content t e = same (next_line (made_cell true s None content t)) e
  made_on (Some x) content t e = same (next_line (made_cell true s (Some x) content t)) e

  answered_on : (x : Option ℕ) (w : Word) (t : MachineState) → t.output ≡ s.output → Keeps s (next_line (with_target x w t))
  answered_on None w t e = same (next_line t) e
  answered_on (Some x) w t e = same (next_line (with_target (Some x) w t)) e

  shared_output : (w : Word) (t : MachineState) → (shared w t).output ≡ t.output
  shared_output (BigInt c) t = refl
  shared_output (ObjectCell c) t = refl
  shared_output w t = refl

  applied_on : (x : Option ℕ) (l : Ledger) (gone : List ℕ) (e : Effect) → To (applied true s x l gone e)
  applied_on x l gone Wrong = refl
  applied_on x l gone (Says w) = answered_on x w (given true s gone (with_ledger l s)) refl
  applied_on x l gone (Shares w) = answered_on x w (given true s gone (shared w (with_ledger l s))) (shared_output w (with_ledger l s))
  applied_on x l gone (Lends w) = answered_on x w (given true s gone (with_ledger l s)) refl
  applied_on x l gone (Makes content) = made_on x content (with_ledger l s) refl
  applied_on x l gone (Changes c content w up) =
      answered_on x w (given true s up (with_cells (refill content c s.cells) (with_ledger (more_of (refs_of w) l) s))) refl
  applied_on x l gone (Writes text) = record { more = text; grown = refl }
  applied_on x l gone (Stores n old new) =
      same (next_line (given true s (set_refs (old ∷ [])) (record (with_ledger l s) { globals = slice_set s.globals n new }))) refl
  applied_on x l gone (Fails w e) = answered_on x w (raise e (given true s gone (with_ledger l s))) refl
  applied_on x l gone (Pends c) = same (next_line (record (with_ledger l s) { pending = Some c })) refl
  applied_on x l gone (Catches c) = answered_on x (ObjectCell c) (own c (record (with_ledger l s) { pending = None })) refl
  applied_on None l gone (MakesInt n) = same (next_line (made_int true s None n (with_ledger l s))) refl
  applied_on (Some x) l gone (MakesInt n) = same (next_line (made_int true s (Some x) n (with_ledger l s))) refl
  applied_on x l gone (Reads text next) = made_on x (StrCell text) (with_items next (with_ledger l s)) refl
  applied_on x l gone (Skips next w e) = answered_on x w (raise e (given true s gone (with_items next (with_ledger l s)))) refl
  applied_on x l gone (Stops e) = refl

  on : Keeps s (next_line s)
  on = same (next_line s) refl

  turned_on : (n : ℕ) → To (turned true s n)
  turned_on zero = refl
  turned_on (suc n) = same (next_line (record s { turns = n })) refl

  return_on : (w : Word) (fs : List Frame) → To (if_return true s w fs (λ next. if_result true s w (λ l. if_none_left true s l next)))
  return_on w [] = at_ended true s To bad w s.pending _ (λ end. at_result true s To bad w _ (λ all. refl))
  return_on w (f ∷ fs) =
      at_result true s To bad w _ (λ all. target_same s.top.into w (record s { top = record f { ledger = more_of (refs_of w) f.ledger }; below = fs }) refl)

  call_on : (code : Code) (x : Option ℕ) (name : List ℕ) (args : List CArg) (o : Option Primitive) → To (call_step true s code x name args o)
  call_on code x name args (Some p) =
      at_called true s To bad code x args p (λ calm all l left there. applied_on x l (stolen (row_of p).parameters all) (effect code s p all))
  call_on code x name args None =
      at_function true s To bad code x args (function_named code.funcs name) (λ f g e is ws. record { more = []; grown = sym (append-nil s.output) })

  method_on : (code : Code) (x o : ℕ) (args : List ℕ) (entry : CClass → Option (List ℕ)) → To (method_called true s code x o args entry)
  method_on code x o args entry =
      at_method true s To bad code x o args entry (λ a f g e is ws. record { more = []; grown = sym (append-nil s.output) })

  jump_on : (code : Code) (n : ℕ) → To (step_at true code s (Some (Goto n)))
  jump_on code n = at_jumped true s To bad (label_at code s.top n) (λ q e. record { more = []; grown = sym (append-nil s.output) })

  step_on : (code : Code) (o : Option Line) → To (step_at true code s o)
  step_on code None = refl
  step_on code (Some Label) = on
  step_on code (Some (Move x y)) =
      at_word true s To bad y _ (λ w e. at_there true s To bad w _ (λ a. record { more = []; grown = sym (append-nil s.output) }))
  step_on code (Some (Lit x l)) =
      at_some true s To bad fault.Kind (option_and_then (λ k. literal_word k l) (kind_of code s.top x)) _
      (λ w e. record { more = []; grown = sym (append-nil s.output) })
  step_on code (Some (Call x name args)) = call_on code x name args (primitive_named name)
  step_on code (Some (Virtual x o n args)) = method_on code x o args (method_at n)
  step_on code (Some (TraitCall x o t n args)) = method_on code x o args (trait_method_at t n)
  step_on code (Some (Goto n)) = jump_on code n
  step_on code (Some (If x n m)) =
      at_word true s To bad x _
      (λ w e. at_chosen true s To bad (label_at code s.top n) (label_at code s.top m) w (jump_on code n) (jump_on code m))
  step_on code (Some (IfError x n m)) =
      at_word true s To bad x _ (λ w e. jump_on code (cond (equals_error w) n m))
  step_on code (Some Turn) = at_calm true s To bad s.pending _ (λ calm. turned_on s.turns)
  step_on code (Some (Return x)) = at_word true s To bad x _ (λ w e. at_order true s To bad w s.pending _ (return_on w s.below))
  step_on code (Some (Inc x)) =
      at_word true s To bad x _ (λ w e. at_incremented true s To bad w on (λ c content is. record { more = []; grown = sym (append-nil s.output) }))
  step_on code (Some (Dec x)) =
      at_word true s To bad x _ (λ w e. at_decremented true s To bad w on (λ c l took. record { more = []; grown = sym (append-nil s.output) }))
  step_on code (Some (XDec x)) =
      at_word true s To bad x _ (λ w e. at_decremented_if_set true s To bad w on (λ c l took. record { more = []; grown = sym (append-nil s.output) }))

  pub step_keeps : (code : Code) → KeepsTo s (step code s)
  step_keeps code = step_on code (line_at code s.top)

-- ---- a run
-- the output of a later state begins with that of an earlier one
pub record Grows (s t : MachineState) : Type 0 where
  pub more : List ℕ
  pub grown : t.output ≡ s.output ++ more

module _ (code : Code) where
  -- a run that goes on has a step left, and takes it
  pub some_left : (k : ℕ) (s : MachineState) (stop : Stop) → go_on (step code) k (Goes s) ≡ Some stop → 1 ≤ k
  some_left zero s stop e = absurd (cc)
  some_left (suc k) s stop e = omega arith

  pub one_taken : (k : ℕ) (s : MachineState) → 1 ≤ k → go_on (step code) k (Goes s) ≡ go_on (step code) (k - 1) (step code s)
  one_taken zero s le = absurd (omega arith)
  one_taken (suc k) s le = let same_rest : k ≡ suc k - 1 = omega arith in ap (λ j. go_on (step code) j (step code s)) same_rest

  grows_after : (k : ℕ) (next : Next) (s : MachineState) (stop : Stop) → KeepsTo s next → go_on (step code) k next ≡ Some stop → Grows s stop.state
  grows_after k (Ends e t) s stop kept is =
      let same_stop : record { ending = e; state = t } ≡ stop = cc in
      record { more = []; grown = ap (λ z. z.state.output) (sym same_stop) ∙ ap (λ z. z.output) kept ∙ sym (append-nil s.output) }
  grows_after zero (Goes t) s stop kept is = absurd (cc)
  grows_after (suc k) (Goes t) s stop kept is =
      let later = grows_after k (step code t) t stop (step_keeps t code) is in
      record { more = kept.more ++ later.more; grown = later.grown ∙ ap (λ o. o ++ later.more) kept.grown ∙ append_assoc s.output kept.more later.more }

  pub grows : (k : ℕ) (s : MachineState) (stop : Stop) → go_on (step code) k (Goes s) ≡ Some stop → Grows s stop.state
  grows k s stop is =
      grows_after (k - 1) (step code s) s stop (step_keeps s code) (sym (one_taken k s (some_left k s stop is)) ∙ is)

  -- a step more
  pub one_further : (k : ℕ) (s t u : MachineState) → Reaches code k s t → step code t ≡ Goes u → Reaches code (k + 1) s u
  one_further k s t u (Here w) e = There 0 s u u e (Here u)
  one_further k s t u (There j a b w f r) e = There (j + 1) a b u f (one_further j b w u r e)

  -- the state in which a run stops is one that it comes to
  reached_after : (k : ℕ) (next : Next) (s : MachineState) (stop : Stop) → step code s ≡ next → KeepsTo s next → go_on (step code) k next ≡ Some stop → (j : ℕ) × Reaches code j s stop.state
  reached_after k (Ends e t) s stop is kept end =
      let same_stop : record { ending = e; state = t } ≡ stop = cc in
      let same_state : s ≡ stop.state = sym kept ∙ ap (λ z. z.state) same_stop in
      (0, subst (λ z. Reaches code 0 s z) same_state (Here s))
  reached_after zero (Goes t) s stop is kept end = absurd (cc)
  reached_after (suc k) (Goes t) s stop is kept end =
      let later = reached_after k (step code t) t stop refl (step_keeps t code) end in
      (later.0 + 1, There later.0 s t stop.state is later.1)

  pub reached : (k : ℕ) (s : MachineState) (stop : Stop) → go_on (step code) k (Goes s) ≡ Some stop → (j : ℕ) × Reaches code j s stop.state
  reached k s stop end =
      reached_after (k - 1) (step code s) s stop refl (step_keeps s code) (sym (one_taken k s (some_left k s stop end)) ∙ end)

  -- some steps, one after the other
  pub reaches_on : (j k : ℕ) (s t u : MachineState) → Reaches code j s t → Reaches code k t u → Reaches code (j + k) s u
  reaches_on j k s t u r (Here w) = let same : j ≡ j + 0 = omega arith in subst (λ n. Reaches code n s w) same r
  reaches_on j k s t u r (There i a m b e more) =
      let same : (j + 1) + i ≡ j + (i + 1) = omega arith in
      subst (λ n. Reaches code n s b) same (reaches_on (j + 1) i s m b (one_further j s a m r e) more)

  pub goes_on : (k left : ℕ) (s t : MachineState) → Reaches code k s t → k ≤ left → go_on (step code) left (Goes s) ≡ go_on (step code) (left - k) (Goes t)
  goes_on k left s t (Here w) le = let same : left ≡ left - 0 = omega arith in ap (λ n. go_on (step code) n (Goes w)) same
  goes_on k left s t (There i a m b e more) le =
      let same : (left - 1) - i ≡ left - (i + 1) = omega arith in
      one_taken left a (omega (arith, le))
      ∙ ap (go_on (step code) (left - 1)) e
      ∙ goes_on i (left - 1) m b more (omega (arith, le))
      ∙ ap (λ n. go_on (step code) n (Goes b)) same
