-- The type of a variable is that of its annotation, or is what its first binding gives.
use Rattle.std.proofs.Common.{◌≡◌, ℕ, Bool, true, false, List, length, slice_get, Option, Some, refl, ap, ◌∙◌, ltb-true}
use Rattle.std.specs.Prelude.{is_some}
use Rattle.std.specs.Option.{option_map}
use Rattle.py_syntax.specs.declared.token.Span.{Span}
use Rattle.py_syntax.specs.Expressions.{ExprTree}
use Rattle.py_syntax.specs.Statements as node
use Rattle.py_syntax.specs.Statements.{Suite, no_stmts, stmt_then}
use Rattle.py_binder.specs.Scope.{module_scope}
use Rattle.py_typed.specs.Sorts.{Sort}
use Rattle.py_typed.specs.Expressions.{type_of}
use Rattle.py_check_context.specs.declared.scope.Meaning.{Meaning}
use Rattle.py_check_context.specs.declared.scope.Meaning.TheVariants as meaning
use Rattle.py_check_context.specs.Context.{Context, VarSorts, var_at}
use Rattle.py_check_flow.specs.Bindings.{name_in, suite_bindings}
use Rattle.py_check_annotations.specs.Annotations.{annotation}
use Rattle.py_check_names.specs.Meanings.{variables}
use Rattle.py_check_definitions.specs.Names.{module_meaning}
use Rattle.py_check_calls.specs.Callees.{is_variable}
use Rattle.py_check_places.specs.Places.{Known, first_type, is_unset, bind_variable, bind_name}
use Rattle.py_check_places.specs.Shapes.{bind_target}
use Rattle.py_check_assignments.specs.Assignments.{value_for, assigns}
use Rattle.py_check_statements.specs.Bodies.{after, block_after}
use Rattle.py_check_definitions.specs.Definitions.{headed_functions}
use Rattle.py_check_definitions.specs.Starts.{given_sort, first_mark, by_mark, start_sort}
use Rattle.py_check.specs.Module.{context_in, module_start, global_sorts, module_context}
use Rattle.py_check.proofs.Bound.{name_no_row, single_bound, type_set}
use Rattle.py_check.proofs.Kept.{Follows, fix_first, follows_block, is_open}
use Rattle.py_check_laws.specs.Variables.{sort_in, is_bound_in, joined}
use Rattle.py_check.specs.Fixed.{is_there}
use Rattle.py_check_laws.specs.WellTyped.{IsScope}
use Rattle.py_check_laws.proofs.Closed.{scope_on, scope_there, mapped_at, given_set}
use Rattle.py_check.proofs.Fixed.{set_block}
use Rattle.py_check_laws.proofs.Others.{other_block}

stays_in : (V W : VarSorts) → Follows V W → (m : Meaning) → is_unset (sort_in V m) ≡ false → sort_in W m ≡ sort_in V m
stays_in V W f (meaning.Local i) h = f.locals.stays i h
stays_in V W f (meaning.Global i) h = f.globals.stays i h
stays_in V W f _ h = refl

pub types_stay : (c : Context) (k : Known) (body : Suite) (x : List ℕ) → is_unset (sort_in k.types (c.meaning x)) ≡ false → sort_in (block_after c k body).types (c.meaning x) ≡ sort_in k.types (c.meaning x)
types_stay c k body x h = stays_in k.types (block_after c k body).types (follows_block c k body) (c.meaning x) h

-- what is no longer open is set
set_in : (V : VarSorts) (m : Meaning) → is_variable m ≡ true → is_open V m ≡ false → is_unset (sort_in V m) ≡ false
set_in V (meaning.Local i) v h = h
set_in V (meaning.Global i) v h = h
set_in V _ v h = absurd (cc)

pub bindings_give : (c : Context) (k : Known) (body : Suite) (x : List ℕ) → is_variable (c.meaning x) ≡ true → is_there k.types (c.meaning x) ≡ true → is_bound_in body x ≡ true → is_unset (sort_in (block_after c k body).types (c.meaning x)) ≡ false
bindings_give c k body x v there bound = set_in (block_after c k body).types (c.meaning x) v (set_block c x k body there bound)

-- ---- a first assignment

joined_after : (c : Context) (k : Known) (body more : Suite) → block_after c k (joined body more) ≡ block_after c (block_after c k body) more
joined_after c k no_stmts more = refl
joined_after c k (stmt_then s body) more = joined_after c (after c k s) body more

-- a variable without a type has what its binding gives
first_in : (ok : Bool) (k : Known) (m : Meaning) (t : Option Sort) → is_variable m ≡ true → is_there k.types m ≡ true → is_unset (sort_in k.types m) ≡ true → sort_in (bind_variable ok k m t).types m ≡ first_type ok t
first_in ok k (meaning.Local i) t v h free = fix_first k.types.locals i (first_type ok t) (ltb-true i (length k.types.locals) h) free
first_in ok k (meaning.Global i) t v h free = fix_first k.types.globals i (first_type ok t) (ltb-true i (length k.types.globals) h) free
first_in ok k _ t v h free = absurd (cc)

pub assignments_give : (c : Context) (k : Known) (body more : Suite) (span : Span) (target e : ExprTree) (x : List ℕ) → IsScope c k.types → is_variable (c.meaning x) ≡ true → is_unset (sort_in k.types (c.meaning x)) ≡ true → is_bound_in body x ≡ false → name_in target ≡ Some x
    → sort_in (block_after c k (joined body (stmt_then (node.at (node.Assign target e) span) more))).types (c.meaning x) ≡ first_type (is_some (assigns c (block_after c k body) span target e).got) (option_map type_of (value_for c (block_after c k body) target e).got)
assignments_give c k body more span target e x scope v free absent n =
    let l = block_after c k body in
    let ok = is_some (assigns c l span target e).got in
    let t = option_map type_of (value_for c l target e).got in
    let end = bind_target c ok l target t in
    let one : end ≡ bind_variable ok l (c.meaning x) t = single_bound c ok l target t (name_no_row target x n) ∙ ap (λ (o : Option (List ℕ)). bind_name c ok l o t) n in
    let there : is_there l.types (c.meaning x) ≡ true = scope_there c l.types (scope_on c k.types l.types (follows_block c k body) scope) x in
    let given : sort_in end.types (c.meaning x) ≡ first_type ok t =
    ap (λ (z : Known). sort_in z.types (c.meaning x)) one ∙ first_in ok l (c.meaning x) t v there (ap is_unset (other_block c x k.types scope k body absent) ∙ free) in
    ap (λ (z : Known). sort_in z.types (c.meaning x)) (joined_after c k body (stmt_then (node.at (node.Assign target e) span) more))
    ∙ types_stay c end more x (ap is_unset given ∙ type_set ok t)
    ∙ given

pub annotations_give : (m : Suite) (i : ℕ) (x : List ℕ) (mark : ExprTree) → slice_get (variables (module_scope m)) i ≡ Some x → first_mark (suite_bindings m) x ≡ Some (Some mark) → var_at (global_sorts (module_context m) (module_scope m) (headed_functions m) m) i ≡ given_sort (annotation (module_meaning m) mark).got
annotations_give m i x mark at first =
    let e = module_context m in
    let c = context_in e (module_scope m) in
    let start = module_start c e.variables m in
    let given : var_at start.types.globals i ≡ given_sort (annotation (module_meaning m) mark).got =
    mapped_at (start_sort (module_meaning m) (suite_bindings m)) e.variables i x at ∙ ap (by_mark (module_meaning m)) first in
    (follows_block c start m).globals.stays i (ap is_unset given ∙ given_set (annotation (module_meaning m) mark).got) ∙ given
