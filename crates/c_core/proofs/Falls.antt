-- Each step of a well-formed code that goes on leaves fewer steps before the end, with tests of ownership and without.
use Rattle.std.proofs.Common.{◌≡◌, refl, sym, ◌∙◌, ap, subst, ℕ, zero, suc, ◌+◌, ◌-◌, ◌*◌, ◌<◌, ◌≤◌, arith, Bool, true, false, cond, List, [], ◌∷◌, length, Option, Some, None}
use Rattle.std.specs.Prelude.{slice_get, slice_set, nat_lt, ◌||◌}
use Rattle.std.specs.List.{list_all}
use Rattle.std.specs.Str.{bytes_eq}
use Rattle.std.specs.Option.{option_and_then}
use Rattle.std.proofs.lemmas.Option.{slice_get_within}
use Rattle.std.proofs.lemmas.Bool.{ltb-true, ltb-false}
use Rattle.c_core.specs.declared.code.CArg.{CArg}
use Rattle.c_core.specs.declared.code.Line.{Line}
use Rattle.c_core.specs.declared.code.Line.TheVariants.{Label, Move, Lit, Call, Virtual, TraitCall, Goto, If, IfError, Turn, Return, Inc, Dec, XDec}
use Rattle.c_core.specs.declared.code.CClass.{CClass}
use Rattle.c_core.specs.declared.code.CFunc.{CFunc}
use Rattle.c_core.specs.declared.code.Code.{Code}
use Rattle.c_core.specs.declared.fault.Fault.{Fault}
use Rattle.c_core.specs.declared.fault.Fault.TheVariants as fault
use Rattle.c_core.specs.declared.primitive.Primitive.{Primitive}
use Rattle.c_core.specs.Ledgers.{Ledger}
use Rattle.c_core.specs.Machine.{Word, BigInt, ObjectCell, set_refs, Frame, MachineState}
use Rattle.c_core.specs.Functions.{is_turn, label_places, function_named, method_at, trait_method_at, entry_words}
use Rattle.c_core.specs.Primitives.{row_of, primitive_named}
use Rattle.c_core.specs.Arguments.{stolen}
use Rattle.c_core.specs.Step.{Next, Goes, Ends, Faulted, Effect, Wrong, Says, Shares, Lends, Makes, Changes, Writes, Stores, Fails, Pends, Catches, MakesInt, Reads, Skips, Stops, effect, shared, given, with_ledger, with_target, next_line, at_place, literal_word, equals_error, kind_of, function_of, label_at, applied, call_step, method_called, entered, jumped, turned, if_return, if_result, if_none_left, step_at, line_at}
use Rattle.c_core.specs.Run.{most_lines}
use Rattle.c_core.specs.WellFormed.{goes_on, goes_down, jump_fits, is_turn_at, function_fits}
use Rattle.c_core.proofs.StepCases.{at_some, at_calm, at_word, at_there, at_called, at_function, at_method, at_jumped, at_chosen, at_incremented, at_decremented, at_decremented_if_set, at_order, at_ended, at_result}
use Rattle.c_core.proofs.Lines.{Leads, leads_on, and_true, all_at, most_bound, label_is, turn_above, jump_at, named_function, method_named}

-- How many steps a frame has left before it spends a turn, where no function has more than m lines: at a goto to a label
-- above, a round more than the lines below; at a turn that begins a function, none
abbrev back : ℕ → ℕ → Option ℕ → ℕ
back m p None = m - p
back m p (Some q) = cond (nat_lt p q) (m - p) (m + (m - p))

abbrev turn_left : ℕ → ℕ → ℕ
turn_left m zero = 0
turn_left m (suc p) = m - suc p

abbrev left : ℕ → List ℕ → ℕ → Option Line → ℕ
left m labels p (Some (Goto n)) = back m p (slice_get labels n)
left m labels p (Some Turn) = turn_left m p
left m labels p _ = m - p

abbrev left_in : ℕ → ℕ → Option CFunc → ℕ
left_in m p None = m - p
left_in m p (Some g) = left m (label_places g.lines) p (slice_get g.lines p)

module _ (code : Code) where
  abbrev pub most : ℕ
  most = most_lines code.funcs

  abbrev frame_left : Frame → ℕ
  frame_left f = left_in most f.place (function_of code f)

  abbrev below_left : List Frame → ℕ
  below_left [] = 0
  below_left (f ∷ fs) = frame_left f + below_left fs

  abbrev pub steps_left : MachineState → ℕ
  steps_left s = s.turns * most + (frame_left s.top + below_left s.below)

  abbrev pub Falls : MachineState → Next → Type 0
  Falls s (Goes t) = steps_left t < steps_left s
  Falls s (Ends e t) = Unit {0}

-- ---- what is left at a place
choice_most : (b : Bool) (x y : ℕ) → x ≤ y → cond b x y ≤ y
choice_most true x y l = l
choice_most false x y l = omega arith

back_most : (m p : ℕ) (o : Option ℕ) → back m p o ≤ m + (m - p)
back_most m p None = omega arith
back_most m p (Some q) = choice_most (nat_lt p q) (m - p) (m + (m - p)) (omega arith)

turn_most : (m p : ℕ) → turn_left m p ≤ m - p
turn_most m zero = omega arith
turn_most m (suc p) = omega arith

left_most : (m : ℕ) (labels : List ℕ) (p : ℕ) (o : Option Line) → left m labels p o ≤ m + (m - p)
left_most m labels p None = omega arith
left_most m labels p (Some (Goto n)) = back_most m p (slice_get labels n)
left_most m labels p (Some Turn) = omega (arith, turn_most m p)
left_most m labels p (Some _) = omega arith

chosen_first : (b : Bool) (x y : ℕ) → (b || false) ≡ true → cond b x y ≡ x
chosen_first true x y e = refl
chosen_first false x y e = absurd (cc)

back_down : (m p : ℕ) (o : Option ℕ) → goes_on p false o ≡ true → back m p o ≡ m - p
back_down m p None e = absurd (cc)
back_down m p (Some q) e = chosen_first (nat_lt p q) (m - p) (m + (m - p)) e

-- where the line above is no turn, no goto goes up
left_below : (labels : List ℕ) (m p : ℕ) (o : Option Line) → ((l : Line) → o ≡ Some l → jump_fits labels p false l ≡ true) → left m labels p o ≤ m - p
left_below labels m p None fits = omega arith
left_below labels m p (Some (Goto n)) fits =
    omega (arith, back_down m p (slice_get labels n) (fits (Goto n) refl))
left_below labels m p (Some Turn) fits = turn_most m p
left_below labels m p (Some _) fits = omega arith

turn_zero : (m : ℕ) (labels : List ℕ) (o : Option Line) → is_turn_at o ≡ true → left m labels 0 o ≡ 0
turn_zero m labels None e = absurd (cc)
turn_zero m labels (Some Turn) e = refl
turn_zero m labels (Some _) e = absurd (cc)

-- behind a turn that begins a function no goto goes up either: no label stands above it
down_from : (p q : ℕ) (b : Bool) (x y : ℕ) → nat_lt p q ≡ b → p < q → cond b x y ≡ x
down_from p q true x y e l = refl
down_from p q false x y e l = absurd (omega (arith, ltb-false p q e))

label_below : (lines : List Line) (n q : ℕ) → slice_get lines 0 ≡ Some Turn → slice_get lines 1 ≡ Some (Goto n) → slice_get lines q ≡ Some Label → 1 < q
label_below lines n zero first second e = let bad : Some Turn ≡ Some Label = sym first ∙ e in absurd (cc)
label_below lines n (suc zero) first second e =
    let bad : Some (Goto n) ≡ Some Label = sym second ∙ e in absurd (cc)
label_below lines n (suc (suc q)) first second e = omega arith

back_second : (lines : List Line) (m n : ℕ) (o : Option ℕ) → slice_get (label_places lines) n ≡ o → slice_get lines 0 ≡ Some Turn → slice_get lines 1 ≡ Some (Goto n) → back m 1 o ≤ m - 1
back_second lines m n None e first second = omega arith
back_second lines m n (Some q) e first second =
    omega (arith, down_from 1 q (nat_lt 1 q) (m - 1) (m + (m - 1)) refl (label_below lines n q first second (label_is lines n q e)))

left_second : (lines : List Line) (m : ℕ) (o : Option Line) → slice_get lines 1 ≡ o → slice_get lines 0 ≡ Some Turn → left m (label_places lines) 1 o ≤ m - 1
left_second lines m None e first = omega arith
left_second lines m (Some (Goto n)) e first = back_second lines m n (slice_get (label_places lines) n) refl first e
left_second lines m (Some Turn) e first = turn_most m 1
left_second lines m (Some _) e first = omega arith

left_label : (m : ℕ) (labels : List ℕ) (q : ℕ) (o : Option Line) → o ≡ Some Label → left m labels q o ≡ m - q
left_label m labels q o e = ap (left m labels q) e

down_true : (p q : ℕ) (o : Option ℕ) → goes_down p o ≡ true → o ≡ Some q → p < q
down_true p q o e is =
    ltb-true p q (subst (λ z. goes_down p z ≡ true) is e)

-- ---- one step
-- what is given up is cells alone
given_falls : (is_checked : Bool) (code : Code) (s : MachineState) (refs : List ℕ) (t : MachineState) → Falls code s (Goes (next_line t)) → Falls code s (Goes (next_line (given is_checked s refs t)))
given_falls true code s refs t on = on
given_falls false code s refs t on = on

module _ (is_checked : Bool) (code : Code) (all : list_all (function_fits code) code.funcs ≡ true) (s : MachineState) (g : CFunc) (is : slice_get code.funcs s.top.func ≡ Some g) where
  abbrev m : ℕ
  m = most code

  abbrev p : ℕ
  p = s.top.place

  abbrev lines : List Line
  lines = g.lines

  abbrev labels : List ℕ
  labels = label_places g.lines

  leads : Leads g
  leads = leads_on code g (all_at (function_fits code) code.funcs s.top.func g all is)

  at_is : (q : ℕ) → left_in m q (slice_get code.funcs s.top.func) ≡ left m labels q (slice_get lines q)
  at_is q = ap (left_in m q) is

  short : length lines ≤ m
  short = most_bound code.funcs s.top.func g is

  fits_at : (q : ℕ) (l : Line) → slice_get lines q ≡ Some l → jump_fits labels q (turn_above false lines q) l ≡ true
  fits_at q l e =
      let here : 0 + q ≡ q = omega arith in
      subst (λ r. jump_fits labels r (turn_above false lines q) l ≡ true) here (jump_at labels lines 0 false q l leads.jumps e)

  -- the place behind a line that is no turn
  behind : (l : Line) → slice_get lines p ≡ Some l → is_turn l ≡ false → left m labels (p + 1) (slice_get lines (p + 1)) ≤ m - (p + 1)
  behind l e calm =
      let next : p + 1 ≡ suc p = omega arith in
      let above : turn_above false lines (p + 1) ≡ false = ap (turn_above false lines) next ∙ ap is_turn_at e ∙ calm in
      left_below labels m (p + 1) (slice_get lines (p + 1)) (λ k f. subst (λ b. jump_fits labels (p + 1) b k ≡ true) above (fits_at (p + 1) k f))

  next_falls : (l : Line) → slice_get lines p ≡ Some l → is_turn l ≡ false → left m labels p (Some l) ≡ m - p → Falls code s (Goes (next_line s))
  next_falls l e calm here =
      omega (arith, behind l e calm, at_is (p + 1), at_is p ∙ ap (left m labels p) e ∙ here, short, slice_get_within lines p l e)

  -- to a label below
  forward_falls : (l : Line) (n q : ℕ) → slice_get lines p ≡ Some l → left m labels p (Some l) ≡ m - p → slice_get labels n ≡ Some q → p < q → Falls code s (Goes (at_place q s))
  forward_falls l n q e here found down =
      omega (arith, at_is q ∙ left_label m labels q (slice_get lines q) (label_is lines n q found), at_is p ∙ ap (left m labels p) e ∙ here, short, slice_get_within lines p l e, down)

  back_falls : (n q : ℕ) (b : Bool) → nat_lt p q ≡ b → slice_get lines p ≡ Some (Goto n) → slice_get labels n ≡ Some q → left m labels p (Some (Goto n)) ≡ cond b (m - p) (m + (m - p)) → Falls code s (Goes (at_place q s))
  back_falls n q true lt e found here = forward_falls (Goto n) n q e here found (ltb-true p q lt)
  back_falls n q false lt e found here =
      omega (arith, at_is q ∙ left_label m labels q (slice_get lines q) (label_is lines n q found), at_is p ∙ ap (left m labels p) e ∙ here, short, slice_get_within lines p (Goto n) e)

  goto_falls : (n q : ℕ) → slice_get lines p ≡ Some (Goto n) → slice_get labels n ≡ Some q → Falls code s (Goes (at_place q s))
  goto_falls n q e found = back_falls n q (nat_lt p q) refl e found (ap (back m p) found)

  turn_falls : (n k : ℕ) → s.turns ≡ suc n → k ≡ p → slice_get lines p ≡ Some Turn → Falls code s (Goes (next_line (record s { turns = n })))
  turn_falls n zero t z e =
      let first : slice_get lines 0 ≡ Some Turn = ap (slice_get lines) z ∙ e in
      let one : p + 1 ≡ 1 = omega (arith, z) in
      let next : left_in m (p + 1) (slice_get code.funcs s.top.func) ≡ left m labels 1 (slice_get lines 1) =
      at_is (p + 1) ∙ ap (λ q. left m labels q (slice_get lines q)) one in
      let mul : s.turns * m ≡ n * m + m = ap (λ x. x * m) t ∙ omega arith in
      omega (arith, next, left_second lines m (slice_get lines 1) refl first, mul, short, z, slice_get_within lines p Turn e)
  turn_falls n (suc k) t z e =
      let mul : s.turns * m ≡ n * m + m = ap (λ x. x * m) t ∙ omega arith in
      let here : left_in m p (slice_get code.funcs s.top.func) ≡ m - p =
      at_is p ∙ ap (left m labels p) e ∙ ap (turn_left m) (sym z) ∙ ap (λ q. m - q) z in
      omega (arith, left_most m labels (p + 1) (slice_get lines (p + 1)), at_is (p + 1), here, mul, short, slice_get_within lines p Turn e)

  turned_falls : (n : ℕ) → s.turns ≡ n → slice_get lines p ≡ Some Turn → Falls code s (turned is_checked s n)
  turned_falls zero t e = tt
  turned_falls (suc n) t e = turn_falls n p t refl e

  abbrev To : Next → Type 0
  To = Falls code s

  bad : (f : Fault) → To (Ends (Faulted f) s)
  bad f = tt

  target_falls : (x : Option ℕ) (w : Word) (t : MachineState) → To (Goes t) → To (Goes (with_target x w t))
  target_falls None w t on = on
  target_falls (Some x) w t on = on

  answer_falls : (x : Option ℕ) (w : Word) (t : MachineState) → To (Goes (next_line t)) → To (Goes (next_line (with_target x w t)))
  answer_falls None w t on = on
  answer_falls (Some x) w t on = on

  shared_falls : (w : Word) (t : MachineState) → To (Goes (next_line t)) → To (Goes (next_line (shared w t)))
  shared_falls (BigInt c) t on = on
  shared_falls (ObjectCell c) t on = on
  shared_falls w t on = on

  applied_falls : (x : Option ℕ) (l : Ledger) (gone : List ℕ) (e : Effect) → To (Goes (next_line s)) → To (applied is_checked s x l gone e)
  applied_falls x l gone Wrong on = tt
  applied_falls x l gone (Says w) on = answer_falls x w _ (given_falls is_checked code s gone _ on)
  applied_falls x l gone (Makes content) on = answer_falls x _ _ on
  applied_falls x l gone (Changes c content w up) on = answer_falls x w _ (given_falls is_checked code s up _ on)
  applied_falls x l gone (Writes text) on = given_falls is_checked code s gone _ on
  applied_falls x l gone (Shares w) on = answer_falls x w _ (given_falls is_checked code s gone _ (shared_falls w _ on))
  applied_falls x l gone (Lends w) on = answer_falls x w _ (given_falls is_checked code s gone _ on)
  applied_falls x l gone (Stores n old new) on =
      given_falls is_checked code s (set_refs (old ∷ [])) (record (with_ledger l s) { globals = slice_set s.globals n new }) on
  applied_falls x l gone (Fails w e) on = answer_falls x w _ (given_falls is_checked code s gone _ on)
  applied_falls x l gone (Pends c) on = on
  applied_falls x l gone (Catches c) on = answer_falls x _ _ on
  applied_falls x l gone (MakesInt n) on = answer_falls x _ _ on
  applied_falls x l gone (Reads text next) on = answer_falls x _ _ on
  applied_falls x l gone (Skips next w e) on = answer_falls x w _ (given_falls is_checked code s gone _ on)
  applied_falls x l gone (Stops e) on = tt

  -- a function begins with a turn, and its caller waits at the next line
  entered_falls : (x : Option ℕ) (f : ℕ) (h : CFunc) (vars : List Word) → slice_get code.funcs f ≡ Some h → bytes_eq h.name [] ≡ false → To (Goes (next_line s)) → To (Goes (entered is_checked s x f vars))
  entered_falls x f h vars found named on =
      let begins = (leads_on code h (all_at (function_fits code) code.funcs f h all found)).begins in
      let turn : is_turn_at (slice_get h.lines 0) ≡ true = ap (λ b. b || is_turn_at (slice_get h.lines 0)) (sym named) ∙ begins in
      let none : left_in m 0 (slice_get code.funcs f) ≡ 0 =
      ap (left_in m 0) found ∙ turn_zero m (label_places h.lines) (slice_get h.lines 0) turn in
      omega (arith, none, on)

  call_falls : (x : Option ℕ) (name : List ℕ) (args : List CArg) (o : Option Primitive) → To (Goes (next_line s)) → To (call_step is_checked s code x name args o)
  call_falls x name args (Some p) on =
      at_called is_checked s To bad code x args p
      (λ calm all l left there. applied_falls x l (stolen (row_of p).parameters all) (effect code s p all) on)
  call_falls x name args None on =
      at_function is_checked s To bad code x args (function_named code.funcs name)
      (λ f h e found ws. entered_falls x f h (entry_words ws h) found (named_function code.funcs name f h e found) on)

  method_falls : (x o : ℕ) (args : List ℕ) (entry : CClass → Option (List ℕ)) → To (Goes (next_line s)) → To (method_called is_checked s code x o args entry)
  method_falls x o args entry on =
      at_method is_checked s To bad code x o args entry
      (λ a f h e found ws. entered_falls (Some x) f h (entry_words ws h) found (method_named code entry a f h e found) on)

  return_falls : (w : Word) (fs : List Frame) → s.below ≡ fs → left m labels p (slice_get lines p) ≡ m - p → p < length lines → To (if_return is_checked s w fs (λ next. if_result is_checked s w (λ l. if_none_left is_checked s l next)))
  return_falls w [] e here lt = at_ended is_checked s To bad w s.pending _ (λ end. at_result is_checked s To bad w _ (λ left. tt))
  return_falls w (f ∷ fs) e here lt =
      at_result is_checked s To bad w _ (λ left. target_falls s.top.into w _ (omega (arith, ap (below_left code) e, at_is p ∙ here, short, lt)))

  label_of : (n q : ℕ) → label_at code s.top n ≡ Some q → slice_get labels n ≡ Some q
  label_of n q e = ap (option_and_then (λ h. slice_get (label_places h.lines) n)) (sym is) ∙ e

  if_falls : (l : Line) (n : ℕ) → slice_get lines p ≡ Some l → left m labels p (Some l) ≡ m - p → goes_down p (slice_get labels n) ≡ true → To (jumped is_checked s (label_at code s.top n))
  if_falls l n e here down =
      at_jumped is_checked s To bad (label_at code s.top n)
      (λ q found. forward_falls l n q e here (label_of n q found) (down_true p q (slice_get labels n) down (label_of n q found)))

  either_falls : (b : Bool) (n k : ℕ) → To (jumped is_checked s (label_at code s.top n)) → To (jumped is_checked s (label_at code s.top k)) → To (jumped is_checked s (label_at code s.top (cond b n k)))
  either_falls true n k first second = first
  either_falls false n k first second = second

  line_falls : (o : Option Line) → slice_get lines p ≡ o → To (step_at is_checked code s o)
  line_falls None e = tt
  line_falls (Some Label) e = next_falls Label e refl refl
  line_falls (Some (Move x y)) e =
      at_word is_checked s To bad y _ (λ w found. at_there is_checked s To bad w _ (λ a. next_falls (Move x y) e refl refl))
  line_falls (Some (Lit x l)) e =
      at_some is_checked s To bad fault.Kind (option_and_then (λ k. literal_word k l) (kind_of code s.top x)) _ (λ w found. next_falls (Lit x l) e refl refl)
  line_falls (Some (Call x name args)) e =
      call_falls x name args (primitive_named name) (next_falls (Call x name args) e refl refl)
  line_falls (Some (Virtual x o n args)) e =
      method_falls x o args (method_at n) (next_falls (Virtual x o n args) e refl refl)
  line_falls (Some (TraitCall x o t n args)) e =
      method_falls x o args (trait_method_at t n) (next_falls (TraitCall x o t n args) e refl refl)
  line_falls (Some (Goto n)) e =
      at_jumped is_checked s To bad (label_at code s.top n) (λ q found. goto_falls n q e (label_of n q found))
  line_falls (Some (If x n k)) e =
      let both = and_true _ _ (fits_at p (If x n k) e) in
      at_word is_checked s To bad x _
      (λ w found. at_chosen is_checked s To bad (label_at code s.top n) (label_at code s.top k) w (if_falls (If x n k) n e refl both.0) (if_falls (If x n k) k e refl both.1))
  line_falls (Some (IfError x n k)) e =
      let both = and_true _ _ (fits_at p (IfError x n k) e) in
      at_word is_checked s To bad x _
      (λ w found. either_falls (equals_error w) n k (if_falls (IfError x n k) n e refl both.0) (if_falls (IfError x n k) k e refl both.1))
  line_falls (Some Turn) e = at_calm is_checked s To bad s.pending _ (λ calm. turned_falls s.turns refl e)
  line_falls (Some (Return x)) e =
      at_word is_checked s To bad x _
      (λ w found. at_order is_checked s To bad w s.pending _ (return_falls w s.below refl (ap (left m labels p) e) (slice_get_within lines p (Return x) e)))
  line_falls (Some (Inc x)) e =
      at_word is_checked s To bad x _
      (λ w found. at_incremented is_checked s To bad w (next_falls (Inc x) e refl refl) (λ c content there. next_falls (Inc x) e refl refl))
  line_falls (Some (Dec x)) e =
      at_word is_checked s To bad x _
      (λ w found. at_decremented is_checked s To bad w (next_falls (Dec x) e refl refl) (λ c l took. given_falls is_checked code s (c ∷ []) (with_ledger l s) (next_falls (Dec x) e refl refl)))
  line_falls (Some (XDec x)) e =
      at_word is_checked s To bad x _
      (λ w found. at_decremented_if_set is_checked s To bad w (next_falls (XDec x) e refl refl) (λ c l took. given_falls is_checked code s (c ∷ []) (with_ledger l s) (next_falls (XDec x) e refl refl)))

function_falls : (is_checked : Bool) (code : Code) → list_all (function_fits code) code.funcs ≡ true → (s : MachineState) (o : Option CFunc) → slice_get code.funcs s.top.func ≡ o → Falls code s (step_at is_checked code s (option_and_then (λ g. slice_get g.lines s.top.place) o))
function_falls is_checked code all s None e = tt
function_falls is_checked code all s (Some g) e = line_falls is_checked code all s g e (slice_get g.lines s.top.place) refl

pub step_falls : (is_checked : Bool) (code : Code) → list_all (function_fits code) code.funcs ≡ true → (s : MachineState) → Falls code s (step_at is_checked code s (line_at code s.top))
step_falls is_checked code all s =
    function_falls is_checked code all s (slice_get code.funcs s.top.func) refl

-- ---- the start
start_below : (code : Code) → list_all (function_fits code) code.funcs ≡ true → (f : ℕ) (o : Option CFunc) → slice_get code.funcs f ≡ o → left_in (most code) 0 o ≤ most code
start_below code all f None e = omega arith
start_below code all f (Some g) e =
    let jumps = (leads_on code g (all_at (function_fits code) code.funcs f g all e)).jumps in
    omega (arith, left_below (label_places g.lines) (most code) 0 (slice_get g.lines 0) (λ l e. jump_at (label_places g.lines) g.lines 0 false 0 l jumps e))

pub first_left : (code : Code) → list_all (function_fits code) code.funcs ≡ true → (f : ℕ) → left_in (most code) 0 (slice_get code.funcs f) ≤ most code
first_left code all f = start_below code all f (slice_get code.funcs f) refl
