use Rattle.std.proofs.Common.{map, IfOk, ap, subst, subst₂}
use Rattle.py_syntax.specs.Statements.{Suite, body_tree}
use Rattle.py_typed.specs.Statements.{typed_stmt}
use Rattle.py_check_context.specs.Context.{context}
use Rattle.py_check_messages.specs.Seen.{Tells}
use Rattle.py_check_values.specs.Returns.{ReturnSort}
use Rattle.py_check_places.specs.Places.{Known}
use Rattle.py_check_statements.specs.Bodies.{nothing_around, block}
use Rattle.py_check_places.specs.Views.{known_at}
use Rattle.py_check_definitions.specs.Views.{headed_parts}
use Rattle.py_check.specs.Module.{return_of, function_start}
use Rattle.py_check.proofs.bodies.body_in.Goals as goal

pub returns-clause-told : goal.returns-clause-told
returns-clause-told c =
    let f = headed_parts c.args.f.now in
    let P : ReturnSort → Known → Type 0 = λ r k. IfOk c.block.result (λ t. Tells (map typed_stmt) t c.args.faults.now c.block.new.faults (block (context c.args.scope.now) r nothing_around k (body_tree c.as_slice-body.result.now))) in
    let Q : Suite → Type 0 = λ b. IfOk c.block.result (λ t. Tells (map typed_stmt) t c.args.faults.now c.block.new.faults (block (context c.args.scope.now) (return_of f.header.ret) nothing_around (function_start (context c.args.scope.now) c.args.variables.now.keys (known_at c.args.place.now).types.globals f) b)) in
    subst Q (ap body_tree c.as_slice-body.ensures) (subst₂ P c.returns_of.ensures c.in_ok-begin.ensures c.block.ensures.told)
