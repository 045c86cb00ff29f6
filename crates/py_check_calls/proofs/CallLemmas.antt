-- Arguments and values, one by one from the front.
use Rattle.std.proofs.Common.{◌≡◌, ℕ, suc, false, ◌==◌, ◌||◌, List, [], ◌∷◌, ◌++◌, length, map, Option, Some, None, refl, ap, sym, ◌∙◌, arith, length-append, eq-eqb, ne_eqb, Err, if◌then◌else◌}
use Rattle.std.specs.Prelude.{is_some}
use Rattle.std.specs.Option.{option_map}
use Rattle.std.specs.Fmt.{decimal}
use Rattle.std.specs.declared.boxed.Box.{Box}
use Rattle.std.specs.declared.alloc.Global.{Global}
use Rattle.value_core.specs.declared.exception.ExcClass.{ExcClass}
use Rattle.py_syntax.specs.declared.token.Span.{Span}
use Rattle.py_syntax.specs.Expressions.{ExprTree, Arguments, with_key, arg_tree, arguments_of}
use Rattle.py_syntax.specs.declared.expression.Arg.{Arg}
use Rattle.py_typed.specs.declared.expression.TExpr.{TExpr}
use Rattle.py_typed.specs.declared.expression.TKind as kind
use Rattle.py_typed.specs.declared.types.Ty.{Ty}
use Rattle.py_typed.specs.Sorts.{sort, Exc}
use Rattle.py_typed.specs.Classes.{ClassEntry}
use Rattle.py_check_context.specs.Context.{Wanted, along}
use Rattle.py_check_messages.specs.Messages.{wrong_number}
use Rattle.py_check_coercions.specs.Rows.{unfit}
use Rattle.py_check_coercions.specs.Boxes.{boxed}
use Rattle.py_typed.specs.Expressions.{typed, typed_expr, typed_node}
use Rattle.py_typed.proofs.ExpressionLemmas.{typed_node-MakeExc}
use Rattle.py_check_calls.specs.Callees.{has_key, is_none}
use Rattle.py_check_calls.specs.Builtins.{the_only}
use Rattle.py_check_calls.specs.Exceptions.{exception_made, exception_given, exception_call}
use Rattle.py_check_calls.specs.Calls.{takes, fitting, taken}

-- ---- a list of one

pub popped : (es rest : List TExpr) (e : TExpr) → es ≡ rest ++ e ∷ [] → length es ≡ 1 → Some (typed_expr e) ≡ the_only (map typed_expr es)
popped es [] e is n = ap (λ l. the_only (map typed_expr l)) (sym is)
popped es (a ∷ []) e is n = absurd (let m = ap length is in omega (arith, m, n))
popped es (a ∷ b ∷ rest) e is n = absurd (let m = ap length is in omega (arith, m, n, length-append rest (e ∷ [])))

pub not_one : (es : List TExpr) → (length es ≡ 1 → ⊥) → None ≡ the_only (map typed_expr es)
not_one [] h = refl
not_one (a ∷ []) h = absurd (h refl)
not_one (a ∷ b ∷ es) h = refl

pub ruleset only_one = (popped, not_one)

-- ---- keys

keyed : (key : Option ExprTree) (e : ExprTree) (more : Arguments) → has_key (with_key key e more) ≡ (is_some key || has_key more)
keyed None e more = refl
keyed (Some k) e more = refl

-- ---- values that are not printable

-- ---- as many arguments as there are parameters

count_map : {A B : Type 0} (f : A → B) (xs : List A) → length (map f xs) ≡ length xs
count_map f [] = refl
count_map f (x ∷ xs) = ap suc (count_map f xs)

pub numbers_agree : (classes : List ClassEntry) (w : Wanted) (f : List ℕ) (params : List Ty) (ret : Ty) (es : List TExpr) → length es ≡ length params → taken classes w f (takes (map sort params) (sort ret)) (map typed_expr es) ≡ fitting classes w f (takes (map sort params) (sort ret)) (map typed_expr es) (unfit classes (along (map sort params)) 0 (map typed_expr es))
numbers_agree classes w f params ret es e =
    ap (λ b. if b then fitting classes w f (takes (map sort params) (sort ret)) (map typed_expr es) (unfit classes (along (map sort params)) 0 (map typed_expr es)) else Err (wrong_number f (decimal (length (map sort params)))))
    (eq-eqb (length (map typed_expr es)) (length (map sort params)) (count_map typed_expr es ∙ e ∙ sym (count_map sort params)))

-- ---- no arguments

with_some : (key : Option ExprTree) (e : ExprTree) (more : Arguments) → false ≡ is_none (with_key key e more)
with_some None e more = refl
with_some (Some k) e more = refl

pub none_there : (args : List Arg) → (length args == 0) ≡ is_none (arguments_of (map arg_tree args))
none_there [] = refl
none_there (a ∷ args) = ne_eqb (suc (length args)) 0 (λ e. cc) ∙ with_some (arg_tree a).key (arg_tree a).value (arguments_of (map arg_tree args))

-- ---- exceptions

pub exception_node : (span : Span) (x : ExcClass) (text : Option (Box TExpr Global)) → typed (typed_node (kind.MakeExc x text)) (Exc x) span ≡ exception_made span x (option_map boxed text)
exception_node span x text = ap (λ n. typed n (Exc x) span) (typed_node-MakeExc x text)

-- one with an argument
pub given_some : (classes : List ClassEntry) (span : Span) (x : ExcClass) (es : List TExpr) → (es ≡ [] → ⊥) → exception_call classes span x (map typed_expr es) ≡ exception_given classes span x (the_only (map typed_expr es))
given_some classes span x [] h = absurd (h refl)
given_some classes span x (e ∷ es) h = refl
