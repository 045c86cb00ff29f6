-- What is typed may be None only where it may be before it was changed to its type: of each kind of expression.
use Rattle.std.proofs.Common.{◌≡◌, ℕ, Bool, true, false, List, [], ◌∷◌, ◌++◌, codes, Option, Some, None, Result, Ok, Err, refl, ap, sym, ◌∙◌, if◌then◌else◌}
use Rattle.std.specs.Str.{bytes_eq}
use Rattle.value_core.specs.declared.exception.ExcClass.{ExcClass}
use Rattle.py_syntax.specs.declared.token.Span.{Span}
use Rattle.py_syntax.specs.declared.expression.CmpOp.{CmpOp}
use Rattle.py_syntax.specs.Expressions as tree
use Rattle.py_syntax.specs.Expressions.{ExprTree, at}
use Rattle.py_typed.specs.Sorts as sort
use Rattle.py_typed.specs.Sorts.{Sort}
use Rattle.py_typed.specs.Classes.{ClassEntry, Signature}
use Rattle.py_typed.specs.Fits.{is_same_type, is_number, fits, is_text}
use Rattle.py_typed.specs.Expressions as node
use Rattle.py_typed.specs.Expressions.{TypedExpr, TypedNode, typed, type_of, exprs_of}
use Rattle.py_typed.specs.Narrowing.{node_of, may_be_none, own_sort}
use Rattle.py_check_context.specs.Context.{Context, VarSorts, Wanted, free, test, some_signature}
use Rattle.py_check_messages.specs.Seen.{Message, both, behind, rule}
use Rattle.py_check_coercions.specs.Values.{place_of, coerced}
use Rattle.py_check_operators.specs.Operators.{signed, affirmation, inversion}
use Rattle.py_check_operators.specs.Chains.{faults_of, chain}
use Rattle.py_check_operators.specs.Choices.{junction, operand}
use Rattle.py_check_operators.specs.Facts.{facts}
use Rattle.py_check_calls.specs.declared.callees.Single.{Single}
use Rattle.py_check_calls.specs.declared.callees.Single.TheVariants as one
use Rattle.py_check_calls.specs.Callees.{Callee, function, class, trait, super_init, print, input, range, single, exception, method, voiceless, uncalled, value, callee, has_key}
use Rattle.py_check_calls.specs.Builtins.{gives_value, as_value, unprintable, printed, print_call, input_call, the_only, single_takes, single_made, single_given, single_call}
use Rattle.py_check_calls.specs.Exceptions.{exception_made, exception_given, exception_call}
use Rattle.py_check_calls.specs.Methods.{Had, has_attribute, has_method, has_append, has_pop, has_untyped, none_has_not, has_not, look_up, pop_call, append_given, append_call}
use Rattle.py_check_calls.specs.Calls.{arguments_row, positional, refused, takes, init_name, signed_call, had_call, method_call, called}
use Rattle.py_check_expressions.specs.Typing.{typing, operands, arguments, part}
use Rattle.py_check_expressions_laws.proofs.Given.{Gives, gives_is, gives_silent, gives_any, gives_after, gives_made, gives_rule, gives_ruled_all, gives_compare}
use Rattle.py_check_expressions_laws.proofs.Telling.{junction_is}
use Rattle.py_check_expressions_laws.proofs.Bare.{Makes, makes_if, is_mute, IsMade, gives_makes, gives_then, named_mute, made_number, made_sign, made_operation, made_choice, made_list, made_dict, made_tuple, made_item, made_attribute}
use Rattle.py_check_expressions_laws.proofs.Called.{gives_by}
use Rattle.std.specs.Prelude.{slice_get}

-- it is never None, if it was not before
abbrev pub KeepsNone : TypedExpr → Type 0
KeepsNone t = may_be_none (own_sort t) ≡ false → may_be_none (type_of t) ≡ false

mute_keeps : (t : TypedExpr) → is_mute (node_of t) ≡ true → KeepsNone t
mute_keeps (typed (node.Coerce e) s place) h p = absurd (cc)
mute_keeps (typed n s place) h p = p

number_plain : (s : Sort) → is_number s ≡ true → may_be_none s ≡ false
number_plain sort.Int h = refl
number_plain sort.I64 h = refl
number_plain sort.Bool h = refl
number_plain _ h = absurd (cc)

signed_plain : (s : Sort) → may_be_none (signed s) ≡ false
signed_plain sort.I64 = refl
signed_plain _ = refl

coerced_keeps : (t : Sort) (e : TypedExpr) → may_be_none t ≡ false → may_be_none (type_of e) ≡ false → KeepsNone (coerced t e)
coerced_keeps t e p q own = by (is_same_type (type_of e) t) refl
  where
    by : (b : Bool) → is_same_type (type_of e) t ≡ b → may_be_none (type_of (coerced t e)) ≡ false
    by true r = ap (λ (b : Bool). may_be_none (type_of (if b then e else typed (node.Coerce e) t (place_of e)))) r ∙ q
    by false r = ap (λ (b : Bool). may_be_none (type_of (if b then e else typed (node.Coerce e) t (place_of e)))) r ∙ p

-- a value that is changed to the type of its target
pub own_keeps : (t : Sort) (v : TypedExpr) → KeepsNone v → may_be_none (own_sort (coerced t v)) ≡ false → may_be_none (type_of v) ≡ false
own_keeps t v k p = by (is_same_type (type_of v) t) refl
  where
    by : (b : Bool) → is_same_type (type_of v) t ≡ b → may_be_none (type_of v) ≡ false
    by true r = k (sym (ap (λ (b : Bool). may_be_none (own_sort (if b then v else typed (node.Coerce v) t (place_of v)))) r) ∙ p)
    by false r = sym (ap (λ (b : Bool). may_be_none (own_sort (if b then v else typed (node.Coerce v) t (place_of v)))) r) ∙ p

makes_where : (P : TypedExpr → Type 0) (b : Bool) (r s : Result TypedExpr Message) → (b ≡ true → Makes P r) → Makes P s → Makes P (if b then r else s)
makes_where P true r s p q = p refl
makes_where P false r s p q = q

-- ---- calls

module _ (classes : List ClassEntry) where
  value_keeps : (w : Wanted) (f : List ℕ) (n : TypedNode) (t : Sort) (span : Span) → KeepsNone (typed n t span) → Makes KeepsNone (as_value w f (typed n t span))
  value_keeps w f n t span k = makes_if KeepsNone (gives_value w t) (Ok (typed n t span)) (Err _) k tt

  print_keeps : (w : Wanted) (span : Span) (es : List TypedExpr) (o : Option (ℕ × Sort)) → Makes KeepsNone (printed classes w span es o)
  print_keeps w span es None = value_keeps w (codes "print") (node.Print (exprs_of es)) sort.Nothing span (λ p. p)
  print_keeps w span es (Some p) = tt

  input_keeps : (span : Span) (es : List TypedExpr) → Makes KeepsNone (input_call span es)
  input_keeps span [] = λ p. p
  input_keeps span (e ∷ es) = tt

  exception_keeps : (span : Span) (x : ExcClass) (es : List TypedExpr) → Makes KeepsNone (exception_call classes span x es)
  exception_keeps span x [] = λ p. p
  exception_keeps span x (a ∷ es) = by (the_only (a ∷ es))
    where
      by : (o : Option TypedExpr) → Makes KeepsNone (exception_given classes span x o)
      by None = tt
      by (Some e) = makes_if KeepsNone (is_text (type_of e)) (Ok (exception_made span x (Some e))) (Err _) (λ p. p) tt

  made_keeps : (f : Single) (span : Span) (e : TypedExpr) → single_takes f (type_of e) ≡ true → KeepsNone (single_made f span e)
  made_keeps one.Len span e h = λ p. p
  made_keeps one.Str span e h = λ p. p
  made_keeps one.Int span e h = coerced_keeps sort.Int e refl (number_plain (type_of e) h)
  made_keeps one.I64 span e h = coerced_keeps sort.I64 e refl (number_plain (type_of e) h)

  single_keeps : (f : Single) (span : Span) (o : Option TypedExpr) → Makes KeepsNone (single_given classes f span o)
  single_keeps f span None = tt
  single_keeps f span (Some e) = makes_where KeepsNone (single_takes f (type_of e)) (Ok (single_made f span e)) (Err _) (λ h. made_keeps f span e h) tt

  append_keeps : (w : Wanted) (span : Span) (a : TypedExpr) (t : Sort) (o : Option TypedExpr) → Makes KeepsNone (append_given classes w span a t o)
  append_keeps w span a t None = tt
  append_keeps w span a t (Some x) =
      makes_if KeepsNone (fits classes (type_of x) t) (as_value w (codes "append") (typed (node.Append a (coerced t x)) sort.Nothing span)) (Err _) (value_keeps w (codes "append") (node.Append a (coerced t x)) sort.Nothing span (λ p. p)) tt

  pop_keeps : (span : Span) (a : TypedExpr) (t : Sort) (es : List TypedExpr) → Makes KeepsNone (pop_call span a t es)
  pop_keeps span a t [] = λ p. p
  pop_keeps span a t (x ∷ es) = tt

module _ (C : Context) where
  signed_keeps : (w : Wanted) (span : Span) (keyed : Bool) (f : List ℕ) (a : TypedExpr) (s : Option Signature) (args : Option (List TypedExpr)) → Gives (signed_call C w span keyed f a s args) KeepsNone
  signed_keeps w span keyed f a None args = gives_silent KeepsNone
  signed_keeps w span keyed f a (Some s) args = gives_by KeepsNone C w span keyed f s (node.Method a f) args (λ es p. p)

  refused_keeps : (span : Span) (keyed : Bool) (m : Message) (args : Option (List TypedExpr)) → Gives (rule span (refused m) (positional span keyed args)) KeepsNone
  refused_keeps span keyed m args = gives_makes KeepsNone span (refused m) (positional span keyed args) (λ es. tt)

  had_keeps : (w : Wanted) (span : Span) (keyed : Bool) (f : List ℕ) (a : TypedExpr) (h : Had) (args : Option (List TypedExpr)) → Gives (had_call C w span keyed f a h args) KeepsNone
  had_keeps w span keyed f a (has_method i) args = signed_keeps w span keyed f a (some_signature (slice_get C.signatures i)) args
  had_keeps w span keyed f a (has_append t) args = gives_makes KeepsNone span (append_call C.classes w span a t) (positional span keyed args) (λ es. append_keeps C.classes w span a t (the_only es))
  had_keeps w span keyed f a (has_pop t) args = gives_makes KeepsNone span (pop_call span a t) (positional span keyed args) (pop_keeps C.classes span a t)
  had_keeps w span keyed f a (has_attribute t) args = refused_keeps span keyed _ args
  had_keeps w span keyed f a has_untyped args = gives_silent KeepsNone
  had_keeps w span keyed f a none_has_not args = refused_keeps span keyed _ args
  had_keeps w span keyed f a has_not args = refused_keeps span keyed _ args

  method_keeps : (w : Wanted) (span : Span) (keyed : Bool) (f : List ℕ) (a : TypedExpr) (args : Option (List TypedExpr)) → Gives (method_call C w span keyed f a args) KeepsNone
  method_keeps w span keyed f a args = by (bytes_eq f (codes "__init__"))
    where
      by : (b : Bool) → Gives (if b then rule span (refused Rattle.py_check_messages.specs.Messages.not_callable) (positional span keyed args) else had_call C w span keyed f a (look_up C.member (type_of a) f) args) KeepsNone
      by true = refused_keeps span keyed _ args
      by false = had_keeps w span keyed f a (look_up C.member (type_of a) f) args

  called_keeps : (w : Wanted) (span : Span) (keyed : Bool) (f : Callee) (p : Option TypedExpr) (args : Option (List TypedExpr)) → Gives (called C w span keyed f p args) KeepsNone
  called_keeps w span keyed (function x i s) p args = gives_by KeepsNone C w span keyed x s (node.Call i) args (λ es p. p)
  called_keeps w span keyed (class x n params) p args = gives_by KeepsNone C w span keyed x (takes params (sort.Instance n)) (node.Make n) args (λ es p. p)
  called_keeps w span keyed (trait x params) p args = refused_keeps span keyed _ args
  called_keeps w span keyed (super_init next params) p args = gives_by KeepsNone C w span keyed init_name (takes params sort.Nothing) (node.SuperInit next) args (λ es p. p)
  called_keeps w span keyed print p args = gives_makes KeepsNone span (print_call C.classes w span) (positional span keyed args) (λ es. print_keeps C.classes w span es (unprintable 1 es))
  called_keeps w span keyed input p args = gives_makes KeepsNone span (input_call span) (positional span keyed args) (input_keeps C.classes span)
  called_keeps w span keyed range p args = refused_keeps span keyed _ args
  called_keeps w span keyed (single f) p args = gives_makes KeepsNone span (single_call C.classes f span) (positional span keyed args) (λ es. single_keeps C.classes f span (the_only es))
  called_keeps w span keyed (exception x) p args = gives_makes KeepsNone span (exception_call C.classes span x) (positional span keyed args) (exception_keeps C.classes span x)
  called_keeps w span keyed (method f) None args = gives_silent KeepsNone
  called_keeps w span keyed (method f) (Some a) args = method_keeps w span keyed f a args
  called_keeps w span keyed voiceless p args = gives_silent KeepsNone
  called_keeps w span keyed uncalled p args = refused_keeps span keyed _ args
  called_keeps w span keyed value None args = gives_silent KeepsNone
  called_keeps w span keyed value (Some a) args = refused_keeps span keyed _ args

-- ---- expressions

module _ (C : Context) (V : VarSorts) where
  made_one : (w : Wanted) (known : List ℕ) (e : ExprTree) → Gives (typing C V w known e) IsMade → Gives (typing C V w known e) KeepsNone
  made_one w known e g = gives_then IsMade KeepsNone (typing C V w known e) g (λ t m. mute_keeps t m.mute)

  pub keeps : (w : Wanted) (known : List ℕ) (e : ExprTree) → Gives (typing C V w known e) KeepsNone
  keeps w known (at tree.True span) = gives_is KeepsNone _ (λ p. p)
  keeps w known (at tree.False span) = gives_is KeepsNone _ (λ p. p)
  keeps w known (at tree.Nothing span) = gives_is KeepsNone _ (λ p. p)
  keeps w known (at (tree.Int n) span) = made_one w known (at (tree.Int n) span) (made_number C V w known n span)
  keeps w known (at (tree.Str s) span) = gives_is KeepsNone _ (λ p. p)
  keeps w known (at (tree.Name x) span) = gives_then (λ t. is_mute (node_of t) ≡ true) KeepsNone (typing C V w known (at (tree.Name x) span)) (named_mute C V known span x (C.meaning x)) (λ t m. mute_keeps t m)
  keeps w known (at (tree.Neg e) span) = made_one w known (at (tree.Neg e) span) (made_sign C V w known e span)
  keeps w known (at (tree.Plus e) span) =
      gives_makes KeepsNone span (affirmation C.classes) (typing C V free known e)
      (λ t. makes_where KeepsNone (is_number (type_of t)) (Ok (coerced (signed (type_of t)) t)) (Err _) (λ h. coerced_keeps (signed (type_of t)) t (signed_plain (type_of t)) (number_plain (type_of t) h)) tt)
  keeps w known (at (tree.Not e) span) = gives_made (λ (t : TypedExpr). Unit {0}) KeepsNone (inversion span) (typing C V test known e) (gives_any (λ (t : TypedExpr). Unit {0}) _ (λ t. tt)) (λ t u p. p)
  keeps w known (at (tree.Bin o a b) span) = made_one w known (at (tree.Bin o a b) span) (made_operation C V w known o a b span)
  keeps w known (at (tree.Compare e cs) span) =
      gives_compare C V w known span e cs KeepsNone (gives_ruled_all (λ (p : TypedExpr × List (CmpOp × TypedExpr)). Unit {0}) KeepsNone span (faults_of C.classes) (chain span) (both (typing C V free known e) (operands C V known cs))
      (gives_any (λ (p : TypedExpr × List (CmpOp × TypedExpr)). Unit {0}) _ (λ p. tt)) (λ p u q own. own))
  keeps w known (at (tree.And a b) span) =
      gives_rule (λ (p : TypedExpr × TypedExpr). Unit {0}) KeepsNone span (junction C.classes w true span) (both (typing C V (operand w) known a) (typing C V (operand w) (facts C true a ++ known) b)) (gives_any (λ (p : TypedExpr × TypedExpr). Unit {0}) _ (λ p. tt))
      (λ p u e q. junction_is KeepsNone C.classes w true span p e (λ own. own) (λ t own. own) q)
  keeps w known (at (tree.Or a b) span) =
      gives_rule (λ (p : TypedExpr × TypedExpr). Unit {0}) KeepsNone span (junction C.classes w false span) (both (typing C V (operand w) known a) (typing C V (operand w) (facts C false a ++ known) b)) (gives_any (λ (p : TypedExpr × TypedExpr). Unit {0}) _ (λ p. tt))
      (λ p u e q. junction_is KeepsNone C.classes w false span p e (λ own. own) (λ t own. own) q)
  keeps w known (at (tree.Cond a t b) span) = made_one w known (at (tree.Cond a t b) span) (made_choice C V w known a t b span)
  keeps w known (at (tree.ListOf es) span) = made_one w known (at (tree.ListOf es) span) (made_list C V w known es span)
  keeps w known (at (tree.TupleOf es) span) = made_one w known (at (tree.TupleOf es) span) (made_tuple C V w known es span)
  keeps w known (at (tree.Index e i) span) = made_one w known (at (tree.Index e i) span) (made_item C V w known e i span)
  keeps w known (at (tree.Attr e a) span) = made_one w known (at (tree.Attr e a) span) (made_attribute C V w known e a span)
  keeps w known (at (tree.Call f args) span) =
      gives_after KeepsNone (part C V known f) (λ p. behind (arguments C V (arguments_row C (callee C f) p) 0 known args) (called C w span (has_key args) (callee C f) p)) (λ o eo.
      gives_after KeepsNone (arguments C V (arguments_row C (callee C f) o) 0 known args) (called C w span (has_key args) (callee C f) o) (λ es ees. called_keeps C w span (has_key args) (callee C f) o es))
  keeps w known (at (tree.DictOf es) span) = made_one w known (at (tree.DictOf es) span) (made_dict C V w known es span)
