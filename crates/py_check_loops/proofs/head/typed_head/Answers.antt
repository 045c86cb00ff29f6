use Rattle.std.proofs.Common.{Bool, IfOk, map, subst₂}
use Rattle.std.specs.Option.{option_map, option_copied, option_zip}
use Rattle.py_syntax.specs.Expressions.{expr_tree}
use Rattle.py_typed.specs.Sorts.{sort}
use Rattle.py_check_context.specs.Context.{context}
use Rattle.py_check_messages.specs.Seen.{Tells, made, ruled}
use Rattle.py_check_values.specs.Aims.{aim_seen}
use Rattle.py_check_places.specs.Shapes.{is_flat, is_row}
use Rattle.py_check_places.specs.Views.{known_at}
use Rattle.py_check_targets.specs.Targets.{targets_of, aims_behind}
use Rattle.py_check_loops.specs.Loops.{head}
use Rattle.py_check_loops.specs.Views.{course_seen, boxed_head}
use Rattle.py_check_loops.proofs.HeadLemmas.{head_made}
use Rattle.py_check_loops.proofs.head.typed_head.Goals as goal

pub returns : goal.returns
returns c =
    let scope = context c.args.scope.now in
    let target = expr_tree c.args.target.now in
    let Last : Bool → Bool → Type 0 = λ flat several. IfOk c.head_of.result (λ h. Tells boxed_head h c.put_behind.new.faults c.head_of.new.faults (made (λ p. (targets_of p.0, p.1)) (ruled c.args.span (head scope.classes flat several) (option_zip (option_map (map aim_seen) c.in_ok-aims.aims) (option_map course_seen c.args.over.course))))) in
    head_made scope.classes c.args.span (is_flat target) (is_row target) (aims_behind scope (known_at c.args.entered.now) target (option_map sort (option_copied c.args.items))) c.in_ok-aims.aims c.args.over.course c.args.over.said c.head_of.result c.args.faults.now c.aims_behind.new.faults c.put_behind.new.faults c.head_of.new.faults
    c.in_ok-aims.ensures c.in_ok-put_behind.ensures (subst₂ Last c.is_flat-flat.ensures c.is_row-several.ensures c.head_of.ensures)
