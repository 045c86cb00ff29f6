-- One step adds at most one cell, and at most one to any count.
use Rattle.std.proofs.Common.{◌≡◌, refl, ap, ◌∙◌, ℕ, zero, suc, ◌+◌, ◌≤◌, arith, true, cond, List, [], ◌∷◌, ◌++◌, length, length-append, Option, Some, None}
use Rattle.std.specs.Option.{option_and_then}
use Rattle.c_core.specs.declared.code.CArg.{CArg}
use Rattle.c_core.specs.declared.code.Line.{Line}
use Rattle.c_core.specs.declared.code.Line.TheVariants.{Label, Move, Lit, Call, Virtual, TraitCall, Goto, If, IfError, Turn, Return, Inc, Dec, XDec}
use Rattle.c_core.specs.declared.code.CClass.{CClass}
use Rattle.c_core.specs.declared.code.Code.{Code}
use Rattle.c_core.specs.declared.primitive.Primitive.{Primitive}
use Rattle.c_core.specs.declared.fault.Fault.{Fault}
use Rattle.c_core.specs.declared.fault.Fault.TheVariants as fault
use Rattle.c_core.specs.Cells.{Cell, Cells, same, counted, count_at, content_at, one_less, change, lowered, raised, refilled, take_one, refill, make}
use Rattle.c_core.specs.Ledgers.{Ledger}
use Rattle.c_core.specs.Release.{after, freed, weight, release_some, release}
use Rattle.c_core.specs.Machine.{Word, BigInt, ObjectCell, Content, IntCell, StrCell, ExcCell, set_refs, refs_in, Frame, MachineState}
use Rattle.c_core.specs.Functions.{function_named, method_at, trait_method_at}
use Rattle.c_core.specs.Primitives.{row_of, primitive_named}
use Rattle.c_core.specs.Arguments.{stolen}
use Rattle.c_core.specs.Step.{Next, Ends, Faulted, Effect, Wrong, Says, Shares, Lends, Makes, Changes, Writes, Stores, Fails, Pends, Catches, MakesInt, Reads, Skips, Stops, effect, shared, with_ledger, with_cells, with_target, next_line, own, given, literal_word, equals_error, kind_of, label_at, applied, call_step, method_called, turned, if_return, if_result, if_none_left, step_at, line_at, step}
use Rattle.c_core.specs.Laws.{state_after, StepStaysSmall}
use Rattle.c_core.proofs.CountLemmas.{count-make, count-take_one, count-refill}
use Rattle.c_core.proofs.StepCases.{at_some, at_calm, at_word, at_there, at_called, at_function, at_method, at_jumped, at_chosen, at_incremented, at_decremented, at_decremented_if_set, at_order, at_ended, at_result}

same_most : (c d : ℕ) → same c d ≤ 1
same_most zero zero = omega arith
same_most zero (suc d) = omega arith
same_most (suc c) zero = omega arith
same_most (suc c) (suc d) = same_most c d

module _ {X : Type 0} where
  less_most : (n : ℕ) (x : X) → counted (one_less n x) ≤ n
  less_most zero x = omega arith
  less_most (suc zero) x = omega arith
  less_most (suc (suc n)) x = omega arith

  after_most : (h : Cells X) (w c : ℕ) → count_at (after w h) c ≤ count_at h c
  after_most [] w c = omega arith
  after_most (None ∷ h) zero zero = omega arith
  after_most (Some cell ∷ h) zero zero = less_most cell.count cell.content
  after_most (o ∷ h) zero (suc c) = omega arith
  after_most (o ∷ h) (suc w) zero = omega arith
  after_most (o ∷ h) (suc w) (suc c) = after_most h w c

  raised_most : (o : Option (Cell X)) → counted (raised o) ≤ counted o + 1
  raised_most None = omega arith
  raised_most (Some cell) = omega arith

  take_most : (h : Cells X) (w c : ℕ) → count_at (take_one w h) c ≤ count_at h c + same w c
  take_most [] w c = omega arith
  take_most (o ∷ h) zero zero = raised_most o
  take_most (o ∷ h) zero (suc c) = omega arith
  take_most (o ∷ h) (suc w) zero = omega arith
  take_most (o ∷ h) (suc w) (suc c) = take_most h w c

  length-change : (f : Option (Cell X) → Option (Cell X)) (w : ℕ) (h : Cells X) → length (change f w h) ≡ length h
  length-change f w [] = refl
  length-change f zero (o ∷ h) = omega arith
  length-change f (suc w) (o ∷ h) = omega (arith, length-change f w h)

  release_most : (words : X → List ℕ) (n : ℕ) (h : Cells X) (refs : List ℕ) (c : ℕ) → count_at (release_some words n h refs) c ≤ count_at h c
  release_most words zero h refs c = omega arith
  release_most words (suc n) h [] c = omega arith
  release_most words (suc n) h (w ∷ refs) c = omega (arith, release_most words n (after w h) (freed words w h ++ refs) c, after_most h w c)

  length-release : (words : X → List ℕ) (n : ℕ) (h : Cells X) (refs : List ℕ) → length (release_some words n h refs) ≡ length h
  length-release words zero h refs = refl
  length-release words (suc n) h [] = refl
  length-release words (suc n) h (w ∷ refs) = length-release words n (after w h) (freed words w h ++ refs) ∙ length-change lowered w h

-- at most one cell more, and no count more than one higher
pub record IsSmallStep (s t : MachineState) : Type 0 where
  pub few_cells : length t.cells ≤ length s.cells + 1
  pub small_counts : (c : ℕ) → count_at t.cells c ≤ count_at s.cells c + 1

module _ (s : MachineState) where
  abbrev To : Next → Type 0
  To next = IsSmallStep s (state_after next)

  -- the cells are the same
  same_cells : (t : MachineState) → t.cells ≡ s.cells → IsSmallStep s t
  same_cells t e = record { few_cells = omega (arith, ap length e); small_counts = λ c. omega (arith, ap (λ h. count_at h c) e) }

  bad : (f : Fault) → To (Ends (Faulted f) s)
  bad f = same_cells s refl

  -- one cell more
  made_small : (t : MachineState) (content : Content) → t.cells ≡ make content s.cells → IsSmallStep s t
  made_small t content e = record {
    few_cells = omega (arith, ap length e, length-append s.cells (Some (record { count = 1; content = content }) ∷ []));
    small_counts = λ c. omega (arith, ap (λ h. count_at h c) e, count-make s.cells c content, same_most (length s.cells) c);
  }

  released_small : (t : MachineState) (gone : List ℕ) → t.cells ≡ release refs_in s.cells gone → IsSmallStep s t
  released_small t gone e = record {
    few_cells = omega (arith, ap length e, length-release refs_in (length gone + weight refs_in s.cells) s.cells gone);
    small_counts = λ d. omega (arith, ap (λ h. count_at h d) e, release_most refs_in (length gone + weight refs_in s.cells) s.cells gone d);
  }

  -- one count more
  taken_small : (t : MachineState) (c : ℕ) → t.cells ≡ take_one c s.cells → IsSmallStep s t
  taken_small t c e = record {
    few_cells = omega (arith, ap length e, length-change raised c s.cells);
    small_counts = λ d. omega (arith, ap (λ h. count_at h d) e, take_most s.cells c d, same_most c d);
  }

  -- one count more, and then a release
  exchanged_small : (t : MachineState) (c : ℕ) (gone : List ℕ) → t.cells ≡ release refs_in (take_one c s.cells) gone → IsSmallStep s t
  exchanged_small t c gone e =
      let n : ℕ = length gone + weight refs_in (take_one c s.cells) in
      record {
        few_cells = omega (arith, ap length e, length-release refs_in n (take_one c s.cells) gone, length-change raised c s.cells);
        small_counts = λ d. omega (arith, ap (λ h. count_at h d) e, release_most refs_in n (take_one c s.cells) gone d, take_most s.cells c d, same_most c d);
      }

  shared_small : (x : Option ℕ) (w : Word) (l : Ledger) (gone : List ℕ) → IsSmallStep s (next_line (with_target x w (given true s gone (shared w (with_ledger l s)))))
  shared_small None (BigInt c) l gone = exchanged_small _ c gone refl
  shared_small (Some x) (BigInt c) l gone = exchanged_small _ c gone refl
  shared_small None (ObjectCell c) l gone = exchanged_small _ c gone refl
  shared_small (Some x) (ObjectCell c) l gone = exchanged_small _ c gone refl
  shared_small None w l gone = released_small _ gone refl
  shared_small (Some x) w l gone = released_small _ gone refl

  -- another content, and then a release
  changed_small : (t : MachineState) (c : ℕ) (x : Content) (up : List ℕ) → t.cells ≡ release refs_in (refill x c s.cells) up → IsSmallStep s t
  changed_small t c x up e =
      let n : ℕ = length up + weight refs_in (refill x c s.cells) in
      record {
        few_cells = omega (arith, ap length e, length-release refs_in n (refill x c s.cells) up, length-change (refilled x) c s.cells);
        small_counts = λ d. omega (arith, ap (λ h. count_at h d) e, release_most refs_in n (refill x c s.cells) up d, count-refill s.cells c d x);
      }

  -- one cell more behind a release
  added_small : (t : MachineState) (gone : List ℕ) (x : Content) → t.cells ≡ make x (release refs_in s.cells gone) → IsSmallStep s t
  added_small t gone x e =
      let n : ℕ = length gone + weight refs_in s.cells in
      record {
        few_cells = omega (arith, ap length e, length-append (release refs_in s.cells gone) (Some (record { count = 1; content = x }) ∷ []), length-release refs_in n s.cells gone);
        small_counts = λ d. omega (arith, ap (λ h. count_at h d) e, count-make (release refs_in s.cells gone) d x, same_most (length (release refs_in s.cells gone)) d, release_most refs_in n s.cells gone d);
      }

  applied_small : (x : Option ℕ) (l : Ledger) (gone : List ℕ) (e : Effect) → To (applied true s x l gone e)
  applied_small x l gone Wrong = bad fault.Kind
  applied_small None l gone (Says w) = released_small _ gone refl
  applied_small (Some x) l gone (Says w) = released_small _ gone refl
  applied_small None l gone (Makes content) = made_small _ content refl
  applied_small (Some x) l gone (Makes content) = made_small _ content refl
  applied_small x l gone (Writes text) = released_small _ gone refl
  applied_small x l gone (Shares w) = shared_small x w l gone
  applied_small None l gone (Lends w) = released_small _ gone refl
  applied_small (Some x) l gone (Lends w) = released_small _ gone refl
  applied_small None l gone (Changes c content w up) = changed_small _ c content up refl
  applied_small (Some x) l gone (Changes c content w up) = changed_small _ c content up refl
  applied_small x l gone (Stores n old new) = released_small _ (set_refs (old ∷ [])) refl
  applied_small None l gone (Fails w e) = added_small _ gone (ExcCell e) refl
  applied_small (Some x) l gone (Fails w e) = added_small _ gone (ExcCell e) refl
  applied_small x l gone (Pends c) = same_cells _ refl
  applied_small None l gone (Catches c) = same_cells _ refl
  applied_small (Some x) l gone (Catches c) = same_cells _ refl
  applied_small None l gone (MakesInt n) = made_small _ (IntCell n) refl
  applied_small (Some x) l gone (MakesInt n) = made_small _ (IntCell n) refl
  applied_small None l gone (Reads text next) = made_small _ (StrCell text) refl
  applied_small (Some x) l gone (Reads text next) = made_small _ (StrCell text) refl
  applied_small None l gone (Skips next w e) = added_small _ gone (ExcCell e) refl
  applied_small (Some x) l gone (Skips next w e) = added_small _ gone (ExcCell e) refl
  applied_small x l gone (Stops e) = same_cells s refl

  given_small : (c : ℕ) (l : Ledger) → IsSmallStep s (next_line (given true s (c ∷ []) (with_ledger l s)))
  given_small c l = released_small _ (c ∷ []) refl

  took_small : (c : ℕ) (x : Content) → content_at s.cells c ≡ Some x → IsSmallStep s (next_line (own c (with_cells (take_one c s.cells) s)))
  took_small c x e = record {
    few_cells = omega (arith, length-change raised c s.cells);
    small_counts = λ d. omega (arith, count-take_one s.cells c d x e, same_most c d);
  }

  turned_small : (n : ℕ) → To (turned true s n)
  turned_small zero = same_cells _ refl
  turned_small (suc n) = same_cells _ refl

  target_small : (x : Option ℕ) (w : Word) (t : MachineState) → t.cells ≡ s.cells → IsSmallStep s (with_target x w t)
  target_small None w t e = same_cells t e
  target_small (Some x) w t e = same_cells _ e

  return_small : (w : Word) (fs : List Frame) → To (if_return true s w fs (λ next. if_result true s w (λ l. if_none_left true s l next)))
  return_small w [] = at_ended true s To bad w s.pending _ (λ end. at_result true s To bad w _ (λ all. same_cells s refl))
  return_small w (f ∷ fs) = at_result true s To bad w _ (λ all. target_small s.top.into w _ refl)

  call_small : (code : Code) (x : Option ℕ) (name : List ℕ) (args : List CArg) (o : Option Primitive) → To (call_step true s code x name args o)
  call_small code x name args (Some p) =
      at_called true s To bad code x args p
      (λ calm all l left there. applied_small x l (stolen (row_of p).parameters all) (effect code s p all))
  call_small code x name args None =
      at_function true s To bad code x args (function_named code.funcs name) (λ f g e is ws. same_cells _ refl)

  method_small : (code : Code) (x o : ℕ) (args : List ℕ) (entry : CClass → Option (List ℕ)) → To (method_called true s code x o args entry)
  method_small code x o args entry = at_method true s To bad code x o args entry (λ a f g e is ws. same_cells _ refl)

  step_small : (code : Code) (o : Option Line) → To (step_at true code s o)
  step_small code None = bad fault.Kind
  step_small code (Some Label) = same_cells _ refl
  step_small code (Some (Move x y)) = at_word true s To bad y _ (λ w e. at_there true s To bad w _ (λ a. same_cells _ refl))
  step_small code (Some (Lit x l)) =
      at_some true s To bad fault.Kind (option_and_then (λ k. literal_word k l) (kind_of code s.top x)) _ (λ w e. same_cells _ refl)
  step_small code (Some (Call x name args)) = call_small code x name args (primitive_named name)
  step_small code (Some (Virtual x o n args)) = method_small code x o args (method_at n)
  step_small code (Some (TraitCall x o t n args)) = method_small code x o args (trait_method_at t n)
  step_small code (Some (Goto n)) = at_jumped true s To bad (label_at code s.top n) (λ q e. same_cells _ refl)
  step_small code (Some (If x n m)) =
      at_word true s To bad x _
      (λ w e. at_chosen true s To bad (label_at code s.top n) (label_at code s.top m) w
      (at_jumped true s To bad (label_at code s.top n) (λ q e. same_cells _ refl)) (at_jumped true s To bad (label_at code s.top m) (λ q e. same_cells _ refl)))
  step_small code (Some (IfError x n m)) =
      at_word true s To bad x _ (λ w e. at_jumped true s To bad (label_at code s.top (cond (equals_error w) n m)) (λ q e. same_cells _ refl))
  step_small code (Some Turn) = at_calm true s To bad s.pending _ (λ calm. turned_small s.turns)
  step_small code (Some (Return x)) = at_word true s To bad x _ (λ w e. at_order true s To bad w s.pending _ (return_small w s.below))
  step_small code (Some (Inc x)) = at_word true s To bad x _ (λ w e. at_incremented true s To bad w (same_cells _ refl) took_small)
  step_small code (Some (Dec x)) =
      at_word true s To bad x _ (λ w e. at_decremented true s To bad w (same_cells _ refl) (λ c l took. given_small c l))
  step_small code (Some (XDec x)) =
      at_word true s To bad x _ (λ w e. at_decremented_if_set true s To bad w (same_cells _ refl) (λ c l took. given_small c l))

-- the state after a step
pub small_step : (code : Code) (s : MachineState) → IsSmallStep s (state_after (step code s))
small_step code s = step_small s code (line_at code s.top)

pub step_stays_small : StepStaysSmall
step_stays_small code s = let small = small_step code s in (small.few_cells, small.small_counts)
