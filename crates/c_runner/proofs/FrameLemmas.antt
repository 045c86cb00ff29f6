-- Calls of functions and returns from them, at the runner's states.
use Rattle.std.proofs.Common.{◌≡◌, ◌≢◌, refl, sym, ap, ◌∙◌, ℕ, zero, suc, ◌+◌, ◌^◌, ◌<◌, ◌≤◌, arith, add-one, true, false, List, [], ◌∷◌, ◌++◌, append_assoc, length, get_or, take, drop, drop-cons, Option, Some, None}
use Rattle.std.specs.Prelude.{map, reverse, slice_get, is_some}
use Rattle.std.specs.Option.{option_map}
use Rattle.std.proofs.lemmas.List.{map-append, reverse-append, reverse-reverse}
use Rattle.c_core.specs.declared.code.CArg.{CArg}
use Rattle.c_core.specs.declared.code.CArg.TheVariants as arg
use Rattle.c_core.specs.declared.code.CFunc.{CFunc}
use Rattle.c_core.specs.declared.code.Code.{Code}
use Rattle.c_core.specs.declared.code.Kind.{Kind}
use Rattle.c_core.specs.declared.fault.Fault.{Fault}
use Rattle.c_core.specs.declared.fault.Fault.TheVariants as fault
use Rattle.c_core.specs.Arguments.{is_value_of}
use Rattle.c_core.specs.Cells.{times}
use Rattle.c_core.specs.Functions.{entry_words}
use Rattle.c_core.specs.Holders.{owned_below}
use Rattle.c_core.specs.Ledgers.{more_of}
use Rattle.c_core.specs.Machine as machine
use Rattle.c_core.specs.Machine.{MachineState, refs_of}
use Rattle.c_core.specs.Step as step
use Rattle.c_core.specs.Step.{Next, Goes, Ends, Faulted, if_calm, if_some, if_there, if_result, if_none_left, if_in_order, if_return, if_passed, function_called, function_step, entered, returned}
use Rattle.c_runner_deeds.specs.declared.state.Frame.{Frame}
use Rattle.c_runner_deeds.specs.Parts.{if_argument}
use Rattle.c_runner.specs.Parts.{unless_fault, back_in, handed_back}
use Rattle.c_runner_deeds.specs.States.{Rest, IsSmall, frame_of, waiting, state_of, with_target, Seen}
use Rattle.cell_heap.specs.declared.word.Word.{Word}
use Rattle.cell_heap.specs.Contents as contents
use Rattle.c_runner_deeds.proofs.FrameLemmas.{target_set}

-- ---- passing
next_passed : (s : MachineState) (k : Kind) (ks : List Kind) (a : CArg) (args : List CArg) (go : List machine.Word → Next) → if_passed true s (k ∷ ks) (a ∷ args) go ≡ if_argument s k a (λ w. if_passed true s ks args (λ ws. go (w ∷ ws)))
next_passed s k ks (arg.Var x) args go = refl
next_passed s k ks (arg.Number n) args go = refl
next_passed s k ks (arg.Text text) args go = refl
next_passed s k ks (arg.Global name) args go = refl
next_passed s k ks (arg.Class name) args go = refl

some_same : (s : MachineState) {A : Type 0} (f : Fault) (o : Option A) (go to : A → Next) → ((a : A) → go a ≡ to a) → if_some true s f o go ≡ if_some true s f o to
some_same s f None go to e = refl
some_same s f (Some a) go to e = e a

argument_same : (s : MachineState) (k : Kind) (a : CArg) (go to : machine.Word → Next) → ((w : machine.Word) → go w ≡ to w) → if_argument s k a go ≡ if_argument s k a to
argument_same s k (arg.Var x) go to e =
    some_same s fault.Kind (slice_get s.top.vars x) _ _ (λ w. ap (λ n. step.if_true true s (is_value_of k w) (if_there true s w (λ a. n))) (e w))
argument_same s k (arg.Number n) go to e = refl
argument_same s k (arg.Text text) go to e = refl
argument_same s k (arg.Global name) go to e = refl
argument_same s k (arg.Class name) go to e = refl

passed_same : (s : MachineState) (ks : List Kind) (args : List CArg) (go to : List machine.Word → Next) → ((ws : List machine.Word) → go ws ≡ to ws) → if_passed true s ks args go ≡ if_passed true s ks args to
passed_same s [] [] go to e = e []
passed_same s [] (a ∷ args) go to e = refl
passed_same s (k ∷ ks) [] go to e = refl
passed_same s (k ∷ ks) (a ∷ args) go to e =
    next_passed s k ks a args go
    ∙ argument_same s k a _ _ (λ w. passed_same s ks args (λ ws. go (w ∷ ws)) (λ ws. to (w ∷ ws)) (λ ws. e (w ∷ ws)))
    ∙ sym (next_passed s k ks a args to)

drop_all : {X : Type 0} (xs : List X) (i : ℕ) → length xs ≤ i → drop i xs ≡ []
drop_all [] zero le = refl
drop_all [] (suc i) le = refl
drop_all (y ∷ xs) zero le = absurd (omega arith)
drop_all (y ∷ xs) (suc i) le = drop_all xs i (omega arith)

drop_rest : {X : Type 0} (xs : List X) (i : ℕ) → i < length xs → (x : X) × (drop i xs ≡ x ∷ drop (suc i) xs)
drop_rest [] i lt = absurd (omega arith)
drop_rest (y ∷ xs) zero lt = (y, refl)
drop_rest (y ∷ xs) (suc i) lt = drop_rest xs i (omega arith)

abbrev Declared : Type 0
Declared = List ℕ × Kind

module _ (s : MachineState) (ps : List Declared) (args : List CArg) where
  -- what is left to be passed from the place i on
  abbrev pub left : ℕ → (List machine.Word → Next) → Next
  left i go = if_passed true s (map (λ v. v.1) (drop i ps)) (drop i args) go

  abbrev both : List Declared → List CArg → (List machine.Word → Next) → Next
  both qs rest go = if_passed true s (map (λ v. v.1) qs) rest go

  pub one_passed : (i : ℕ) (p : Declared) (a : CArg) (go : List machine.Word → Next) → i < length ps → p ≡ get_or ps i p → i < length args → a ≡ get_or args i a → left i go ≡ if_argument s p.1 a (λ w. left (i + 1) (λ ws. go (w ∷ ws)))
  one_passed i p a go lt is less e =
      let here : drop i ps ≡ p ∷ drop (suc i) ps = drop-cons ps i p lt ∙ ap (λ q. q ∷ drop (suc i) ps) (sym is) in
      let there : drop i args ≡ a ∷ drop (suc i) args = drop-cons args i a less ∙ ap (λ q. q ∷ drop (suc i) args) (sym e) in
      ap (λ qs. both qs (drop i args) go) here
      ∙ ap (λ rest. both (p ∷ drop (suc i) ps) rest go) there
      ∙ next_passed s p.1 (map (λ v. v.1) (drop (suc i) ps)) a (drop (suc i) args) go
      ∙ ap (λ j. if_argument s p.1 a (λ w. left j (λ ws. go (w ∷ ws)))) (sym (add-one i))

  pub too_many : (i : ℕ) (go : List machine.Word → Next) → length ps ≤ i → i < length args → left i go ≡ Ends (Faulted fault.Kind) s
  too_many i go le lt =
      let more = drop_rest args i lt in
      ap (λ qs. both qs (drop i args) go) (drop_all ps i le) ∙ ap (λ rest. both [] rest go) more.1

  pub too_few : (i : ℕ) (go : List machine.Word → Next) → i < length ps → length args ≤ i → left i go ≡ Ends (Faulted fault.Kind) s
  too_few i go lt le =
      let more = drop_rest ps i lt in
      ap (λ qs. both qs (drop i args) go) more.1 ∙ ap (λ rest. both (more.0 ∷ drop (suc i) ps) rest go) (drop_all args i le)

  pub all_passed : (i : ℕ) (go : List machine.Word → Next) → length ps ≤ i → length args ≤ i → left i go ≡ go []
  all_passed i go le few =
      ap (λ qs. both qs (drop i args) go) (drop_all ps i le) ∙ ap (λ rest. both [] rest go) (drop_all args i few)

  -- one word more before what is left
  pub word_more : (i : ℕ) (before after : List Word) (w : Word) (go : List machine.Word → Next) → after ≡ before ++ w ∷ [] → left i (λ ws. go (map contents.word_of before ++ contents.word_of w ∷ ws)) ≡ left i (λ ws. go (map contents.word_of after ++ ws))
  word_more i before after w go e =
      passed_same s (map (λ v. v.1) (drop i ps)) (drop i args) (λ ws. go (map contents.word_of before ++ contents.word_of w ∷ ws)) (λ ws. go (map contents.word_of after ++ ws))
      (λ ws. ap go (sym (ap (λ us. us ++ ws) (ap (map contents.word_of) e ∙ map-append contents.word_of before (w ∷ [])) ∙ append_assoc (map contents.word_of before) (contents.word_of w ∷ []) ws)))

-- ---- frames that wait
pub waiting-push : (frames : List Frame) (f : Frame) → waiting (frames ++ f ∷ []) ≡ frame_of f ∷ waiting frames
waiting-push frames f = ap reverse (map-append frame_of frames (f ∷ [])) ∙ reverse-append (map frame_of frames) (frame_of f ∷ [])

no_map : (frames : List Frame) → map frame_of frames ≡ [] → frames ≡ []
no_map [] e = refl
no_map (f ∷ frames) e = absurd (cc)

pub none_waits : (frames : List Frame) → waiting frames ≡ [] → frames ≡ []
none_waits frames e = no_map frames (sym (reverse-reverse (map frame_of frames)) ∙ ap reverse e)

pub none_of : {A : Type 0} (o : Option A) → is_some o ≡ false → o ≡ None
none_of None e = refl
none_of (Some a) e = absurd (cc)

-- a function is not called where an argument may not be passed
pub refused : (rest : Rest) (old : Seen) (code : Code) (g : CFunc) (f : ℕ) (target : Option ℕ) (args : List CArg) (ps : List Declared) (o : Option Fault) (why : Fault) (vars : List Word) → old.pending ≡ None → slice_get code.funcs f ≡ Some g → ps ≡ take g.params g.vars → ((go : List machine.Word → Next) → if_passed true (state_of rest old) (map (λ v. v.1) ps) args go ≡ unless_fault o (state_of rest old) (go (map contents.word_of vars))) → o ≡ Some why → function_called true (state_of rest old) code target args (Some f) ≡ Ends (Faulted why) (state_of rest old)
refused rest old code g f target args ps o why vars calm e is pass failed =
    let s = state_of rest old in
    let go : List machine.Word → Next = λ ws. Goes (entered true s target f (entry_words ws g)) in
    ap (λ p. if_calm true s (option_map contents.number_of p) (if_some true s fault.Kind (slice_get code.funcs f) (function_step true s target args f))) calm
    ∙ ap (λ h. if_some true s fault.Kind h (function_step true s target args f)) e
    ∙ ap (λ qs. if_passed true s (map (λ v. v.1) qs) args go) (sym is)
    ∙ pass go
    ∙ ap (λ h. unless_fault h s (go (map contents.word_of vars))) failed

-- it is called where each may be passed
pub enters : (rest : Rest) (old new : Seen) (code : Code) (g : CFunc) (f : ℕ) (target : Option ℕ) (args : List CArg) (ps : List Declared) (o : Option Fault) (vars : List Word) → old.pending ≡ None → slice_get code.funcs f ≡ Some g → ps ≡ take g.params g.vars → ((go : List machine.Word → Next) → if_passed true (state_of rest old) (map (λ v. v.1) ps) args go ≡ unless_fault o (state_of rest old) (go (map contents.word_of vars))) → o ≡ None → state_of rest new ≡ entered true (state_of rest old) target f (entry_words (map contents.word_of vars) g) → function_called true (state_of rest old) code target args (Some f) ≡ Goes (state_of rest new)
enters rest old new code g f target args ps o vars calm e is pass none last =
    let s = state_of rest old in
    let go : List machine.Word → Next = λ ws. Goes (entered true s target f (entry_words ws g)) in
    ap (λ p. if_calm true s (option_map contents.number_of p) (if_some true s fault.Kind (slice_get code.funcs f) (function_step true s target args f))) calm
    ∙ ap (λ h. if_some true s fault.Kind h (function_step true s target args f)) e
    ∙ ap (λ qs. if_passed true s (map (λ v. v.1) qs) args go) (sym is)
    ∙ pass go
    ∙ ap (λ h. unless_fault h s (go (map contents.word_of vars))) none
    ∙ ap Goes (sym last)

-- the innermost frame that waits goes on
pub handed : (rest : Rest) (old : Seen) (caller callee dest owner top : Frame) (below : List Frame) (w : Word) → old.below ≡ below ++ caller ∷ [] → callee ≡ old.top → dest ≡ caller → owner ≡ record dest { ledger = more_of (refs_of (contents.word_of w)) dest.ledger } → top ≡ with_target callee.into w owner → handed_back (contents.word_of w) (state_of rest old) ≡ state_of rest (record old { top = top; below = below })
handed rest old caller callee dest owner top below w e callee_is dest_is owner_is top_is =
    let s = state_of rest old in
    let owned : Frame → Frame = λ f. record f { ledger = more_of (refs_of (contents.word_of w)) f.ledger } in
    let last : with_target old.top.into w (owned caller) ≡ top =
    ap (λ f. with_target f.into w (owned caller)) (sym callee_is)
    ∙ ap (λ f. with_target callee.into w (owned f)) (sym dest_is) ∙ ap (with_target callee.into w) (sym owner_is) ∙ sym top_is in
    ap (back_in (contents.word_of w) s) (ap waiting e ∙ waiting-push below caller)
    ∙ target_set rest (record old { top = owned caller; below = below }) old.top.into w
    ∙ ap (λ f. state_of rest (record old { top = f; below = below })) last

-- the ledger of that frame can be counted
pub caller_small : (old : Seen) (caller : Frame) (below : List Frame) → IsSmall old → old.below ≡ below ++ caller ∷ [] → (c : ℕ) → times caller.ledger c < 2 ^ 128
caller_small old caller below few e c =
    let all : owned_below (waiting old.below) c ≡ times caller.ledger c + owned_below (waiting below) c = ap (λ fs. owned_below fs c) (ap waiting e ∙ waiting-push below caller) in
    omega (arith, few.ledgers c, all)

return_at : (s : MachineState) (w : machine.Word) (fs : List machine.Frame) (go : Next → Next) → fs ≢ [] → if_return true s w fs go ≡ go (Goes (back_in w s fs))
return_at s w [] go some = absurd (some refl)
return_at s w (f ∷ fs) go some = refl

-- a frame that returns to another one
pub returns_to : (rest : Rest) (old : Seen) (w : machine.Word) (next : Next) → old.below ≢ [] → if_in_order true (state_of rest old) w (state_of rest old).pending (if_result true (state_of rest old) w (λ l. if_none_left true (state_of rest old) l (Goes (handed_back w (state_of rest old))))) ≡ next → returned true (state_of rest old) w ≡ next
returns_to rest old w next some is =
    let s = state_of rest old in
    ap (if_in_order true s w s.pending) (return_at s w (waiting old.below) _ (λ e. some (none_waits old.below e))) ∙ is
