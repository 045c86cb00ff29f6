use Rattle.std.proofs.Common.{arith, ◌≡◌, ◌∙◌, length, ap, sym}
use Rattle.std.specs.Prelude.{replicate}
use Rattle.std.proofs.lemmas.List.{length-map}
use Rattle.std.specs.Borrow.{Bor}
use Rattle.py_syntax.specs.declared.expression.Expr.{Expr}
use Rattle.py_syntax.specs.Expressions.{expr_tree}
use Rattle.py_typed.specs.Sorts.{Nothing, TupleOf, sorts_of}
use Rattle.py_check_places.specs.Shapes.{leaves}
use Rattle.py_check_displays.proofs.PlaceLemmas.{sort-Tuple}
use Rattle.py_check_assignments.proofs.annotations.nothings.Goals as goal

pub returns : goal.returns
returns c =
    let all = sym (length-map c.in_ok-targets.targets.items (λ (e : Bor Expr). expr_tree e.now)) ∙ ap length c.in_ok-targets.ensures in
    let many : c.loop.counter ≡ length (leaves (expr_tree c.args.target.now)) = omega (arith, c.loop.auto.counter-end, c.loop-test.false, c.len-end.ensures, all) in
    sort-Tuple c.loop.types ∙ ap (λ ts. TupleOf (sorts_of ts)) (c.loop.invariant ∙ ap (λ n. replicate n Nothing) many)
