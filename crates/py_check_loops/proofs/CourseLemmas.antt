-- What a `for` goes over: the numbers of a call of `range`, at its place, with two bounds.
use Rattle.std.proofs.Common.{◌≡◌, ◌++◌, List, [], ◌∷◌, false, map, Option, Some, Result, Ok, Err, IfOk, IsTrue, refl, ap, sym, ◌∙◌, subst}
use Rattle.value_core.specs.declared.memory.Memory.{Memory}
use Rattle.py_syntax.specs.declared.token.Span.{Span}
use Rattle.py_syntax.specs.declared.expression.Expr.{Expr}
use Rattle.py_syntax.specs.Expressions.{Arguments, expr_tree}
use Rattle.py_syntax.proofs.ExpressionLemmas.{expr_tree_at}
use Rattle.py_syntax_diagnostics.specs.declared.diagnostic.Diag.{Diag}
use Rattle.py_typed.specs.declared.expression.TExpr.{TExpr}
use Rattle.py_typed.specs.Fits.{number_join}
use Rattle.py_typed.specs.Expressions.{TypedExpr, typed_expr, type_of}
use Rattle.py_check_context.specs.Context.{Context, along}
use Rattle.py_check_messages.specs.Seen.{Tells, behind, rule}
use Rattle.py_check_coercions.specs.Values.{coerced}
use Rattle.py_check_calls.specs.Callees.{has_key}
use Rattle.py_check_calls.specs.Calls.{positional}
use Rattle.py_check_expressions.specs.Typing.{arguments}
use Rattle.py_check_places.specs.Places.{Known}
use Rattle.py_check_loops.specs.declared.course.Course as declared
use Rattle.py_check_loops.specs.Loops.{Course, numbers, range_arguments, span_of, range_call, course_by, course, is_count_right, bounds}
use Rattle.py_check_loops.specs.Views.{course_seen}

-- a call of `range` stands where its expression does
pub over_range : (C : Context) (K : Known) (e : Expr) (r : Result (Option declared.Course) Memory) (old new : List Diag) (A : Arguments) → Some A ≡ range_arguments C (expr_tree e) → IfOk r (λ w. Tells course_seen w old new (rule e.span (range_call C.classes) (behind (arguments C K.types (along []) 0 K.names A) (positional e.span (has_key A))))) → IfOk r (λ w. Tells course_seen w old new (course C K (expr_tree e)))
over_range C K e r old new A is h =
    let S : Span → Type 0 = λ s. IfOk r (λ w. Tells course_seen w old new (rule s (range_call C.classes) (behind (arguments C K.types (along []) 0 K.names A) (positional s (has_key A))))) in
    let O : Option Arguments → Type 0 = λ o. IfOk r (λ w. Tells course_seen w old new (course_by C K o (expr_tree e))) in
    subst O is (subst S (sym (ap span_of (expr_tree_at e))) h)

-- ---- two bounds

abbrev between : TypedExpr → TypedExpr → Course
between a b = numbers (Some (coerced (number_join (type_of a) (type_of b)) a)) (coerced (number_join (type_of a) (type_of b)) b)

too_many : (x : TExpr) (more : List TExpr) (a b : TExpr) → is_count_right (map typed_expr (((x ∷ more) ++ a ∷ []) ++ b ∷ [])) ≡ false
too_many x [] a b = refl
too_many x (y ∷ []) a b = refl
too_many x (y ∷ z ∷ more) a b = refl

only_two : (more : List TExpr) (a b : TExpr) → IsTrue (is_count_right (map typed_expr ((more ++ a ∷ []) ++ b ∷ []))) → Ok (between (typed_expr a) (typed_expr b)) ≡ bounds (map typed_expr ((more ++ a ∷ []) ++ b ∷ []))
only_two [] a b h = refl
only_two (x ∷ more) a b h = absurd (let wrong = sym (too_many x more a b) ∙ h in cc)

pub two_bounds : (r : Result declared.Course Memory) (es rest more : List TExpr) (a b : TExpr) (first last : TypedExpr) → IsTrue (is_count_right (map typed_expr es)) → es ≡ rest ++ b ∷ [] → rest ≡ more ++ a ∷ [] → first ≡ typed_expr a → last ≡ typed_expr b → IfOk r (λ w. course_seen w ≡ between first last) → IfOk r (λ w. Ok (course_seen w) ≡ bounds (map typed_expr es))
two_bounds (Err e) es rest more a b first last h is one is_a is_b made = tt
two_bounds (Ok w) es rest more a b first last h is one is_a is_b made =
    let all : es ≡ (more ++ a ∷ []) ++ b ∷ [] = is ∙ ap (λ l. l ++ b ∷ []) one in
    let right = subst IsTrue (ap (λ l. is_count_right (map typed_expr l)) all) h in
    ap Ok (made ∙ ap (λ x. between x last) is_a ∙ ap (λ y. between (typed_expr a) y) is_b) ∙ only_two more a b right ∙ sym (ap (λ l. bounds (map typed_expr l)) all)
