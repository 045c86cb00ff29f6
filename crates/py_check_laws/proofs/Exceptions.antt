-- What is raised, what is asserted and what the head of an except clause names, where they are typed.
use Rattle.std.proofs.Common.{◌≡◌, ℕ, Bool, true, false, List, [], ◌∷◌, Option, Some, None, Ok, refl, ap, ◌∙◌}
use Rattle.std.proofs.lemmas.Option.{same_Some}
use Rattle.std.specs.Option.{option_map}
use Rattle.value_core.specs.declared.exception.ExcClass.{ExcClass}
use Rattle.py_syntax.specs.declared.token.Span.{Span}
use Rattle.py_syntax.specs.Expressions as tree
use Rattle.py_syntax.specs.Expressions.{ExprTree, at}
use Rattle.py_typed.specs.Sorts as sort
use Rattle.py_typed.specs.Sorts.{Sort}
use Rattle.py_typed.specs.Classes.{ClassEntry}
use Rattle.py_typed.specs.Fits.{is_same_type, is_text}
use Rattle.py_typed.specs.Expressions.{TypedExpr, type_of}
use Rattle.py_typed.specs.Statements as act
use Rattle.py_typed.specs.Statements.{TypedAct, TypedTarget}
use Rattle.py_typed.specs.WellTypedExpr.{is_exception}
use Rattle.py_check_context.specs.Context.{Context, free}
use Rattle.py_check_flow.specs.Bindings.{name_in}
use Rattle.py_check_messages.specs.Seen.{both}
use Rattle.py_check_messages.specs.Messages.{no_exception, wrong_argument}
use Rattle.py_check_values.specs.Aims.{Aim}
use Rattle.py_check_places.specs.Places.{Known}
use Rattle.py_check_calls.specs.Exceptions.{exception_made}
use Rattle.py_check_targets.specs.Targets.{typed_at, name_aim, seen_aim}
use Rattle.py_check_exceptions.specs.declared.asked.Asked.{Asked}
use Rattle.py_check_exceptions.specs.declared.asked.Asked.TheVariants.{Class, Variable, Voiceless, Other}
use Rattle.py_check_exceptions.specs.Raises.{asked, raised, raised_again, span_of, asserted, raises_value, raises_named, raises_by, raises, asserted_test, asserts}
use Rattle.py_check_exceptions.specs.Handlers.{some_classes, all_classes, named, name_target, name_fault, head_fault, head_by, head, is_early, caught, name_at, handler_head}
use Rattle.py_check_laws.proofs.Given.{done, ok_same, made_given, both_given, rule_given, if_then, unless_ok}
use Rattle.py_check_laws.proofs.Aims.{AimAt}

pub text_is : (t : Sort) → is_text t ≡ true → is_same_type t sort.Str ≡ true
text_is sort.Str h = refl
text_is _ h = absurd (cc)

-- a row of exception classes has one
filled_classes : (l : List (Option ExcClass)) (xs : List ExcClass) → some_classes l ≡ Some xs → (x : ExcClass) × (more : List ExcClass) × (x ∷ more ≡ xs)
filled_classes [] xs h = absurd (cc)
filled_classes (None ∷ l) xs h = absurd (cc)
filled_classes (Some x ∷ l) xs h = by (all_classes l) h
  where
    by : (o : Option (List ExcClass)) → option_map (λ ys. x ∷ ys) o ≡ Some xs → (y : ExcClass) × (more : List ExcClass) × (y ∷ more ≡ xs)
    by None q = absurd (cc)
    by (Some ys) q = (x, ys, same_Some (x ∷ ys) xs q)

-- a head without a fault is no bare one before others
fault_of_name : (classes : List ClassEntry) (early : Bool) (a : Option Aim) → head_fault classes early a ≡ None → name_fault classes a ≡ None
fault_of_name classes true a h = absurd (cc)
fault_of_name classes false a h = h

module _ (C : Context) where
  -- ---- `raise`

  -- what is raised: what is handled, a new exception of a class, or the value of an expression
  pub data Raised (handling : Bool) (k : Known) (e : Option ExprTree) (a : TypedAct) : Type 0 where
    raised_on : handling ≡ true → act.Raise None ≡ a → Raised handling k e a
    raised_class : (place : Span) (x : ExcClass) → act.Raise (Some (exception_made place x None)) ≡ a → Raised handling k e a
    raised_value : (value : ExprTree) (t : TypedExpr) → e ≡ Some value → (typed_at C k free value).got ≡ Some t → is_exception (type_of t) ≡ true → act.Raise (Some t) ≡ a → Raised handling k e a

  value_raised : (handling : Bool) (k : Known) (span : Span) (e : ExprTree) (a : TypedAct) → (raises_value C k span e).got ≡ Some a → Raised handling k (Some e) a
  value_raised handling k span e a h =
      let r = rule_given span raised (typed_at C k free e) a h in
      let q = if_then (is_exception (type_of r.0)) (done (act.Raise (Some r.0))) no_exception a r.2 in
      raised_value e r.0 refl r.1 q.0 (ok_same (act.Raise (Some r.0)) a q.1)

  named_raised : (handling : Bool) (k : Known) (span : Span) (e : ExprTree) (what : Asked) (a : TypedAct) → (raises_named C k span e what).got ≡ Some a → Raised handling k (Some e) a
  named_raised handling k span e (Class x) a h = raised_class (span_of e) x (same_Some (act.Raise (Some (exception_made (span_of e) x None))) a h)
  named_raised handling k span e Variable a h = value_raised handling k span e a h
  named_raised handling k span e Voiceless a h = absurd (cc)
  named_raised handling k span e Other a h = absurd (cc)

  raised_by : (handling : Bool) (k : Known) (span : Span) (e : ExprTree) (x : Option (List ℕ)) (a : TypedAct) → (raises_by C k span e x).got ≡ Some a → Raised handling k (Some e) a
  raised_by handling k span e None a h = value_raised handling k span e a h
  raised_by handling k span e (Some x) a h = named_raised handling k span e (asked (C.meaning x)) a h

  raised_alone : (handling : Bool) (k : Known) (span : Span) (a : TypedAct) → (raised_again handling span).got ≡ Some a → Raised handling k None a
  raised_alone true k span a h = raised_on refl (same_Some (act.Raise None) a h)
  raised_alone false k span a h = absurd (cc)

  pub raise_given : (handling : Bool) (k : Known) (span : Span) (e : Option ExprTree) (a : TypedAct) → (raises C handling k span e).got ≡ Some a → Raised handling k e a
  raise_given handling k span None a h = raised_alone handling k span a h
  raise_given handling k span (Some e) a h = raised_by handling k span e (name_in e) a h

  -- ---- `assert`

  -- a text, if there is one
  abbrev pub Told : Known → Option ExprTree → Option TypedExpr → Type 0
  Told k text None = Unit {0}
  Told k text (Some t) = (e : ExprTree) × (text ≡ Some e) × ((typed_at C k free e).got ≡ Some t) × (is_text (type_of t) ≡ true)

  pub record Asserted (k : Known) (e : ExprTree) (text : Option ExprTree) (a : TypedAct) : Type 0 where
    pub test : TypedExpr
    pub message : Option TypedExpr
    pub tested : (asserted_test C k e).got ≡ Some test
    pub told : Told k text message
    pub is : act.Assert test message ≡ a

  pub assert_given : (k : Known) (span : Span) (e : ExprTree) (text : Option ExprTree) (a : TypedAct) → (asserts C k span e text).got ≡ Some a → Asserted k e text a
  assert_given k span e None a h =
      let q = made_given (λ t. act.Assert t None) (asserted_test C k e) a h in
      record { test = q.0; message = None; tested = q.1; told = tt; is = q.2 }
  assert_given k span e (Some text) a h =
      let r = rule_given span (asserted C.classes) (both (asserted_test C k e) (typed_at C k free text)) a h in
      let b = both_given (asserted_test C k e) (typed_at C k free text) r.0 r.1 in
      let q = if_then (is_text (type_of r.0.1)) (done (act.Assert r.0.0 (Some r.0.1))) (wrong_argument C.classes 1 (Rattle.std.specs.Prelude.codes "assert") (type_of r.0.1) (Rattle.std.specs.Prelude.codes "str")) a r.2 in
      record { test = r.0.0; message = Some r.0.1; tested = b.0; told = (text, refl, b.1, q.0); is = ok_same (act.Assert r.0.0 (Some r.0.1)) a q.1 }

  -- ---- heads of except clauses

  -- what the exception is bound to, if it is: a name, as an expression at this place
  abbrev pub NameAt : Known → Span → Option (List ℕ) → Option Aim → Type 0
  NameAt k span None a = None ≡ a
  NameAt k span (Some x) a = (b : Aim) × AimAt C k (Some x) (at (tree.Name x) span) b × (Some b ≡ a)

  pub record Headed (k : Known) (span : Span) (x : Option (List ℕ)) (p : List ExcClass × Option TypedTarget) : Type 0 where
    pub aim : Option Aim
    pub name : NameAt k span x aim
    pub target : name_target aim ≡ p.1
    pub class : ExcClass
    pub more : List ExcClass
    pub filled : class ∷ more ≡ p.0
    pub right : name_fault C.classes aim ≡ None

  name_given : (k : Known) (span : Span) (x : Option (List ℕ)) (o : Option Aim) → (name_at C k x).got ≡ Some o → NameAt k span x o
  name_given k span None o h = same_Some None o h
  name_given k span (Some x) o h = made_given named (seen_aim (name_aim k x (C.meaning x))) o h

  pub head_given : (k : Known) (span : Span) (e : Option ExprTree) (x : Option (List ℕ)) (last : Bool) (p : List ExcClass × Option TypedTarget) → (handler_head C k span e x last).got ≡ Some p → Headed k span x p
  head_given k span e x last p h =
      let r = rule_given span (head C.classes (is_early e last)) (both (caught C k e) (name_at C k x)) p h in
      let b = both_given (caught C k e) (name_at C k x) r.0 r.1 in
      by r.0.1 (name_given k span x r.0.1 b.1) (some_classes r.0.0) (λ xs q. filled_classes r.0.0 xs q) r.2
    where
      by : (a : Option Aim) → NameAt k span x a → (o : Option (List ExcClass)) → ((xs : List ExcClass) → o ≡ Some xs → (y : ExcClass) × (more : List ExcClass) × (y ∷ more ≡ xs)) → head_by C.classes (is_early e last) o a ≡ Ok p → Headed k span x p
      by a n None f q = absurd (cc)
      by a n (Some xs) f q =
          let u = unless_ok (head_fault C.classes (is_early e last) a) (xs, name_target a) p q in
          let c = f xs refl in
          record {
            aim = a;
            name = n;
            target = ap (λ (z : List ExcClass × Option TypedTarget). z.1) u.1;
            class = c.0;
            more = c.1;
            filled = c.2 ∙ ap (λ (z : List ExcClass × Option TypedTarget). z.0) u.1;
            right = fault_of_name C.classes (is_early e last) a u.0;
          }
