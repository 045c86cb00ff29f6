-- What a well-formed function says of its lines, one by one.
use Rattle.std.proofs.Common.{◌≡◌, refl, ap, subst, ℕ, zero, suc, ◌+◌, ◌-◌, ◌≤◌, arith, Bool, true, false, List, [], ◌∷◌, length, Option, Some, None}
use Rattle.std.specs.Prelude.{slice_get, ◌&&◌, cond, codes, map}
use Rattle.std.specs.List.{list_all, position}
use Rattle.std.specs.Str.{bytes_eq}
use Rattle.std.specs.Option.{option_and_then}
use Rattle.std.proofs.lemmas.Option.{get_or_from_slice_get}
use Rattle.std.proofs.lemmas.List.Quantifiers.{position-Some}
use Rattle.std.proofs.lemmas.Slice.Eq.{bytes_eq-Decides}
use Rattle.c_core.specs.declared.code.Line.{Line}
use Rattle.c_core.specs.declared.code.Line.TheVariants.{Label}
use Rattle.c_core.specs.declared.code.CClass.{CClass}
use Rattle.c_core.specs.declared.code.CFunc.{CFunc}
use Rattle.c_core.specs.declared.code.Code.{Code}
use Rattle.c_core.specs.Functions.{is_turn, label_places, labels_from, after_prefix, number_of, function_named}
use Rattle.c_core.specs.Arguments.{Argument, Cell}
use Rattle.c_core.specs.Machine.{InstCell}
use Rattle.c_core.specs.Run.{most_lines}
use Rattle.c_core.specs.Step.{method_of}
use Rattle.c_core.specs.WellFormed.{jump_fits, jumps_fit, is_turn_at, is_leaving, names_differ, line_fits, lines_lead_on, begins_right, function_fits}

pub and_true : (a b : Bool) → (a && b) ≡ true → (a ≡ true) × (b ≡ true)
and_true true true e = (refl, refl)
and_true true false e = absurd (cc)
and_true false b e = absurd (cc)

-- what a function that fits says of its ways
pub record Leads (g : CFunc) : Type 0 where
  pub jumps : jumps_fit (label_places g.lines) 0 false g.lines ≡ true
  pub leaving : is_leaving (slice_get g.lines (length g.lines - 1)) ≡ true
  pub begins : begins_right g ≡ true

pub leads_on : (code : Code) (g : CFunc) → function_fits code g ≡ true → Leads g
leads_on code g fits =
    let rest = (and_true (names_differ (map (λ v. v.0) g.vars)) (list_all (line_fits code g.vars g.ret) g.lines && (lines_lead_on g.lines && begins_right g)) fits).1 in
    let last = and_true (lines_lead_on g.lines) (begins_right g) (and_true (list_all (line_fits code g.vars g.ret) g.lines) (lines_lead_on g.lines && begins_right g) rest).1 in
    let both = and_true (jumps_fit (label_places g.lines) 0 false g.lines) (is_leaving (slice_get g.lines (length g.lines - 1))) last.0 in
    record { jumps = both.0; leaving = both.1; begins = last.1 }

pub all_at : {X : Type 0} (p : X → Bool) (xs : List X) (i : ℕ) (x : X) → list_all p xs ≡ true → slice_get xs i ≡ Some x → p x ≡ true
all_at p [] i x all e = cc
all_at p (y ∷ xs) zero x all e =
    let found : y ≡ x = cc in subst (λ z. p z ≡ true) found (and_true (p y) (list_all p xs) all).0
all_at p (y ∷ xs) (suc i) x all e = all_at p xs i x (and_true (p y) (list_all p xs) all).1 e

pub most_bound : (fs : List CFunc) (f : ℕ) (g : CFunc) → slice_get fs f ≡ Some g → length g.lines ≤ most_lines fs
most_bound [] f g e = cc
most_bound (h ∷ fs) zero g e = let i : h ≡ g = cc in omega (arith, ap (λ z. length z.lines) i)
most_bound (h ∷ fs) (suc f) g e = omega (arith, most_bound fs f g e)

-- ---- labels
-- a label's place holds a label
pub label_stands : (lines : List Line) (k n q : ℕ) → slice_get (labels_from k lines) n ≡ Some q → (j : ℕ) × (q ≡ k + j) × (slice_get lines j ≡ Some Label)
label_stands [] k n q e = cc
label_stands (Label ∷ lines) k zero q e = let found : k ≡ q = cc in (0, omega (arith, found), refl)
label_stands (Label ∷ lines) k (suc n) q e =
    let later = label_stands lines (k + 1) n q e in (suc later.0, omega (arith, later.1), later.2)
label_stands (_ ∷ lines) k n q e =
    let later = label_stands lines (k + 1) n q e in (suc later.0, omega (arith, later.1), later.2)

pub label_is : (lines : List Line) (n q : ℕ) → slice_get (labels_from 0 lines) n ≡ Some q → slice_get lines q ≡ Some Label
label_is lines n q e =
    let found = label_stands lines 0 n q e in
    let here : found.0 ≡ q = omega (arith, found.1) in subst (λ j. slice_get lines j ≡ Some Label) here found.2

-- ---- jumps
-- whether the line above place p is a turn, where b says so of the line above all
abbrev pub turn_above : Bool → List Line → ℕ → Bool
turn_above b lines zero = b
turn_above b lines (suc p) = is_turn_at (slice_get lines p)

turn_next : (b : Bool) (x : Line) (lines : List Line) (p : ℕ) → turn_above (is_turn x) lines p ≡ turn_above b (x ∷ lines) (suc p)
turn_next b x lines zero = refl
turn_next b x lines (suc p) = refl

pub jump_at : (labels : List ℕ) (lines : List Line) (k : ℕ) (b : Bool) (p : ℕ) (l : Line) → jumps_fit labels k b lines ≡ true → slice_get lines p ≡ Some l → jump_fits labels (k + p) (turn_above b lines p) l ≡ true
jump_at labels [] k b p l fits e = cc
jump_at labels (x ∷ lines) k b zero l fits e =
    let found : x ≡ l = cc in
    let here : k ≡ k + 0 = omega arith in
    subst (λ q. jump_fits labels q b l ≡ true) here (subst (λ y. jump_fits labels k b y ≡ true) found (and_true (jump_fits labels k b x) _ fits).0)
jump_at labels (x ∷ lines) k b (suc p) l fits e =
    let later = jump_at labels lines (k + 1) (is_turn x) p l (and_true (jump_fits labels k b x) _ fits).1 e in
    let here : k + 1 + p ≡ k + suc p = omega arith in
    subst (λ q. jump_fits labels q (turn_above b (x ∷ lines) (suc p)) l ≡ true) here (subst (λ t. jump_fits labels (k + 1 + p) t l ≡ true) (turn_next b x lines p) later)

-- ---- names
bytes_differ : (xs ys : List ℕ) → bytes_eq xs ys ≡ true → bytes_eq xs [] ≡ false → bytes_eq ys [] ≡ false
bytes_differ xs ys e n = subst (λ zs. bytes_eq zs [] ≡ false) ((bytes_eq-Decides xs ys).0 e) n

number_is : (functions : List CFunc) (name : List ℕ) (b : Bool) (f : ℕ) (h : CFunc) → bytes_eq name [] ≡ b → cond b None (position (λ g. bytes_eq name g.name) functions) ≡ Some f → slice_get functions f ≡ Some h → bytes_eq h.name [] ≡ false
number_is functions name true f h e n is = cc
number_is functions name false f h e n is =
    let found = position-Some (λ g. bytes_eq name g.name) functions f h n in
    bytes_differ name h.name (subst (λ g. bytes_eq name g.name ≡ true) (get_or_from_slice_get functions f h h is) found.1) e

named_is : (functions : List CFunc) (o : Option (List ℕ)) (f : ℕ) (h : CFunc) → option_and_then (number_of functions) o ≡ Some f → slice_get functions f ≡ Some h → bytes_eq h.name [] ≡ false
named_is functions None f h n is = cc
named_is functions (Some name) f h n is = number_is functions name (bytes_eq name []) f h refl n is

-- a function that a call means has a name
pub named_function : (functions : List CFunc) (name : List ℕ) (f : ℕ) (h : CFunc) → function_named functions name ≡ Some f → slice_get functions f ≡ Some h → bytes_eq h.name [] ≡ false
named_function functions name f h n is = named_is functions (after_prefix (codes "CPyDef_") name) f h n is

-- and so has one that an object has for a method
pub method_named : (code : Code) (entry : CClass → Option (List ℕ)) (a : Argument) (f : ℕ) (h : CFunc) → method_of code entry a ≡ Some f → slice_get code.funcs f ≡ Some h → bytes_eq h.name [] ≡ false
method_named code entry (Cell c (InstCell class attributes)) f h n is = named_is code.funcs (option_and_then entry (slice_get code.classes class)) f h n is
method_named code entry _ f h n is = cc
