use Rattle.std.proofs.Common.{◌≡◌, ℕ, List, map, Option, IfOk, subst}
use Rattle.std.proofs.Math.Path.{fun_ext}
use Rattle.std.specs.Option.{option_map}
use Rattle.py_syntax.specs.Expressions.{ExprTree}
use Rattle.py_syntax.specs.Statements.{param_tree}
use Rattle.py_typed.specs.Sorts.{sort}
use Rattle.py_check_context.specs.Context.{context, var_sort}
use Rattle.py_check_definitions.specs.Views.{sort_by}
use Rattle.py_check_definitions.proofs.starts.own_types.Goals as goal

pub returns : goal.returns
returns c =
    let P : (List ℕ → Option (Option ExprTree)) → Type 0 = λ m. IfOk c.types_by.result (λ types. map var_sort types ≡ map (sort_by (context c.args.scope.now).meaning m (map (λ p. p.0) (map param_tree c.args.params.now)) (map (option_map sort) c.args.sorts.now)) c.args.names.now) in
    subst P (fun_ext c.in_ok-marks.ensures) c.types_by.ensures
