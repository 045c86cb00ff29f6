-- What is wrong by a rule does not hang on the place of the node: of each rule of expressions.
use Rattle.std.proofs.Common.{◌≡◌, ℕ, Bool, true, false, List, [], ◌∷◌, codes, Option, Some, None, Result, Ok, Err, refl, if◌then◌else◌}
use Rattle.std.specs.Option.{option_map}
use Rattle.value_core.specs.declared.exception.ExcClass.{ExcClass}
use Rattle.py_syntax.specs.declared.token.Span.{Span}
use Rattle.py_syntax.specs.declared.expression.BinOp.{BinOp}
use Rattle.py_typed.specs.Sorts as sort
use Rattle.py_typed.specs.Sorts.{Sort}
use Rattle.py_typed.specs.Classes.{ClassEntry}
use Rattle.py_typed.specs.Fits.{fits, is_nothing, is_number, is_text, join}
use Rattle.py_typed.specs.Expressions as node
use Rattle.py_typed.specs.Expressions.{TypedExpr, TypedNode, type_of}
use Rattle.py_check_context.specs.Context.{Wanted, WantedRow, each}
use Rattle.py_check_messages.specs.Seen.{Message}
use Rattle.py_check_coercions.specs.Values.{truth}
use Rattle.py_check_coercions.specs.Several.{unless}
use Rattle.py_check_coercions.specs.Rows.{unfit}
use Rattle.py_check_operators.specs.Operators.{negation, is_concat, is_numeric, arithmetic}
use Rattle.py_check_operators.specs.Choices.{joined, word_text, word_node, is_test, junction, choice_type, choice}
use Rattle.py_check_displays.specs.Displays.{item_fault, common, joined_list, list_display, is_invalid_tuple, tuple_display}
use Rattle.py_check_displays.specs.Dicts.{entry_fault, unfit_entry, common_entry, are_entry_types, joined_dict, dict_display}
use Rattle.py_check_displays.specs.Indexing.{Literal, keyed_by, item_at, parts_of, part_at, part_made, is_tuple, indexing, item_of, part_of}
use Rattle.py_check_calls.specs.declared.callees.Single.{Single}
use Rattle.py_check_calls.specs.Builtins.{gives_value, unprintable, printed, print_call, input_call, the_only, single_takes, single_given, single_call}
use Rattle.py_check_calls.specs.Exceptions.{exception_given, exception_call}
use Rattle.py_check_calls.specs.Methods.{append_given, append_call, pop_call}

-- what is wrong, if anything is
abbrev pub fault_of : {A : Type 0} → Result A Message → Option Message
fault_of (Ok a) = None
fault_of (Err m) = Some m

-- what a rule gives at each place
abbrev pub IsSame : {A : Type 0} → (Span → Result A Message) → Type 0
IsSame r = (place other : Span) → fault_of (r place) ≡ fault_of (r other)

-- ---- results

pub same_if : {A : Type 0} (b : Bool) (make : Span → A) (m : Message) → IsSame (λ place. if b then Ok (make place) else Err m)
same_if true make m place other = refl
same_if false make m place other = refl

same_else : {A : Type 0} (b : Bool) (m : Message) (make : Span → A) → IsSame (λ place. if b then Err m else Ok (make place))
same_else true m make = λ place other. refl
same_else false m make = λ place other. refl

same_two : {A : Type 0} (b d : Bool) (f g : Span → A) (m : Message) → IsSame (λ place. if b then Ok (f place) else (if d then Ok (g place) else Err m))
same_two true d f g m = λ place other. refl
same_two false true f g m = λ place other. refl
same_two false false f g m = λ place other. refl

same_inner : {A : Type 0} (b d : Bool) (f : Span → A) (m n : Message) → IsSame (λ place. if b then (if d then Ok (f place) else Err m) else Err n)
same_inner true true f m n = λ place other. refl
same_inner true false f m n = λ place other. refl
same_inner false d f m n = λ place other. refl

same_either : {A : Type 0} (b : Bool) (r s : Span → Result A Message) → IsSame r → IsSame s → IsSame (λ place. if b then r place else s place)
same_either true r s p q = p
same_either false r s p q = q

same_unless : {A : Type 0} (o : Option Message) (make : Span → A) → IsSame (λ place. unless o (make place))
same_unless None make = λ place other. refl
same_unless (Some m) make = λ place other. refl

module _ (classes : List ClassEntry) where
  -- ---- operators

  pub same_negation : (e : TypedExpr) → IsSame (λ place. negation classes place e)
  same_negation e = same_if (is_number (type_of e)) _ _

  pub same_arithmetic : (o : BinOp) (p : TypedExpr × TypedExpr) → IsSame (λ place. arithmetic classes place o p)
  same_arithmetic o p = same_two (is_concat o (type_of p.0) (type_of p.1)) (is_numeric o (type_of p.0) (type_of p.1)) _ _ _

  same_joined : (word : List ℕ) (make : TypedExpr → TypedExpr → TypedNode) (a b : TypedExpr) (o : Option Sort) → IsSame (λ place. joined classes word make place a b o)
  same_joined word make a b (Some t) = λ place other. refl
  same_joined word make a b None = λ place other. refl

  pub same_junction : (w : Wanted) (conjoined : Bool) (p : TypedExpr × TypedExpr) → IsSame (λ place. junction classes w conjoined place p)
  same_junction w conjoined p =
      same_either (is_test w) (λ place. Ok _) (λ place. joined classes (word_text conjoined) (word_node conjoined) place p.0 p.1 (join classes (type_of p.0) (type_of p.1))) (λ place other. refl) (same_joined (word_text conjoined) (word_node conjoined) p.0 p.1 (join classes (type_of p.0) (type_of p.1)))

  pub same_choice : (w : Wanted) (p : (TypedExpr × TypedExpr) × TypedExpr) → IsSame (λ place. choice classes w place p)
  same_choice w p = same_joined (codes "if") (λ a b. node.Cond a (truth p.0.1) b) p.0.0 p.1 (choice_type classes w (type_of p.0.0) (type_of p.1))

  -- ---- displays

  same_list : (es : List TypedExpr) (o : Option Sort) → IsSame (λ place. joined_list place es o)
  same_list es None = λ place other. refl
  same_list es (Some t) = same_else (is_nothing t) _ _

  pub same_list_display : (o : Option Sort) (es : List TypedExpr) → IsSame (λ place. list_display classes o place es)
  same_list_display (Some t) es = same_unless (option_map (item_fault classes) (unfit classes (each t) 0 es)) _
  same_list_display None [] = λ place other. refl
  same_list_display None (e ∷ es) = λ place other. same_list (e ∷ es) (common classes (Some (type_of e)) es) place other

  pub same_tuple_display : (row : WantedRow) (es : List TypedExpr) → IsSame (λ place. tuple_display classes row place es)
  same_tuple_display row es = same_else (is_invalid_tuple row es) _ _

  same_dict : (es : List (TypedExpr × TypedExpr)) (o : Option (Sort × Sort)) → IsSame (λ place. joined_dict place es o)
  same_dict es None = λ place other. refl
  same_dict es (Some p) = same_if (are_entry_types p) _ _

  pub same_dict_display : (o : Option (Sort × Sort)) (es : List (TypedExpr × TypedExpr)) → IsSame (λ place. dict_display classes o place es)
  same_dict_display (Some p) es = same_unless (option_map (entry_fault classes p) (unfit_entry classes p 0 es)) _
  same_dict_display None [] = λ place other. refl
  same_dict_display None (e ∷ es) = λ place other. same_dict (e ∷ es) (common_entry classes e es) place other

  -- ---- items

  same_item : (e i : TypedExpr) (o : Option (Sort × Sort)) → IsSame (λ place. item_at classes place e i o)
  same_item e i None = λ place other. refl
  same_item e i (Some p) = same_if (fits classes (type_of i) p.0) _ _

  same_part : (e : TypedExpr) (o : Option (ℕ × Sort)) → IsSame (λ place. part_made place e o)
  same_part e None = λ place other. refl
  same_part e (Some p) = λ place other. refl

  pub same_indexing : (l : Option Literal) (p : TypedExpr × TypedExpr) → IsSame (λ place. indexing classes place l p)
  same_indexing l p =
      same_either (is_tuple (type_of p.0)) (λ place. part_of place l p.0) (λ place. item_of classes place p.0 p.1) (same_part p.0 (part_at l (parts_of (type_of p.0)))) (same_item p.0 p.1 (keyed_by (type_of p.0)))

  -- ---- calls

  same_printed : (w : Wanted) (es : List TypedExpr) (o : Option (ℕ × Sort)) → IsSame (λ place. printed classes w place es o)
  same_printed w es (Some p) = λ place other. refl
  same_printed w es None = same_if (gives_value w sort.Nothing) _ _

  pub same_print : (w : Wanted) (es : List TypedExpr) → IsSame (λ place. print_call classes w place es)
  same_print w es = same_printed w es (unprintable 1 es)

  same_single_given : (f : Single) (o : Option TypedExpr) → IsSame (λ place. single_given classes f place o)
  same_single_given f None = λ place other. refl
  same_single_given f (Some e) = same_if (single_takes f (type_of e)) _ _

  pub same_single : (f : Single) (es : List TypedExpr) → IsSame (λ place. single_call classes f place es)
  same_single f es = same_single_given f (the_only es)

  same_exception_given : (x : ExcClass) (o : Option TypedExpr) → IsSame (λ place. exception_given classes place x o)
  same_exception_given x None = λ place other. refl
  same_exception_given x (Some e) = same_if (is_text (type_of e)) _ _

  pub same_exception : (x : ExcClass) (es : List TypedExpr) → IsSame (λ place. exception_call classes place x es)
  same_exception x [] = λ place other. refl
  same_exception x (e ∷ es) = same_exception_given x (the_only (e ∷ es))

  same_append_given : (w : Wanted) (e : TypedExpr) (t : Sort) (o : Option TypedExpr) → IsSame (λ place. append_given classes w place e t o)
  same_append_given w e t None = λ place other. refl
  same_append_given w e t (Some x) = same_inner (fits classes (type_of x) t) (gives_value w sort.Nothing) _ _ _

  pub same_append : (w : Wanted) (e : TypedExpr) (t : Sort) (es : List TypedExpr) → IsSame (λ place. append_call classes w place e t es)
  same_append w e t es = same_append_given w e t (the_only es)

pub same_input : (es : List TypedExpr) → IsSame (λ place. input_call place es)
same_input [] = λ place other. refl
same_input (e ∷ es) = λ place other. refl

pub same_pop : (e : TypedExpr) (t : Sort) (es : List TypedExpr) → IsSame (λ place. pop_call place e t es)
same_pop e t [] = λ place other. refl
same_pop e t (x ∷ es) = λ place other. refl
