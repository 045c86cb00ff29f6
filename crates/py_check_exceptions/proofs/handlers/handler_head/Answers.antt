use Rattle.std.proofs.Common.{map, Bool, IfOk, subst}
use Rattle.std.specs.Option.{option_map, option_zip}
use Rattle.py_syntax.specs.Statements.{maybe_expr}
use Rattle.py_typed.specs.Classes.{class_entry}
use Rattle.py_check_context.specs.Context.{context}
use Rattle.py_check_messages.specs.Seen.{Tells, ruled}
use Rattle.py_check_places.specs.Views.{known_at}
use Rattle.py_check_targets.specs.Views.{boxed_aim}
use Rattle.py_check_exceptions.specs.Handlers.{caught, head, is_early}
use Rattle.py_check_exceptions.specs.Views.{boxed_handler_head}
use Rattle.py_check_exceptions.proofs.HandlerLemmas.{named_head_says}
use Rattle.py_check_exceptions.proofs.handlers.handler_head.Goals as goal

pub returns : goal.returns
returns c =
    let C = context c.args.scope.now in
    let K = known_at c.args.place.now in
    let e = maybe_expr c.args.class.now in
    let classes = map class_entry c.args.scope.now.classes.now.list in
    let aim = option_map (option_map boxed_aim) c.in_ok-aim.aim in
    let P : Bool → Type 0 = λ b. IfOk c.head_of.result (λ t. Tells boxed_handler_head t c.caught.new.faults c.head_of.new.faults (ruled c.args.span (head classes b) (option_zip c.in_ok-classes.classes aim))) in
    named_head_says C K c.args.name.now c.args.span (head classes (is_early e c.args.last)) boxed_handler_head (caught C K e) c.in_ok-classes.classes aim c.head_of.result c.args.faults.now c.caught.new.faults c.head_of.new.faults
    c.in_ok-classes.ensures.found c.in_ok-classes.ensures.told c.in_ok-aim.ensures (subst P c.is_early-early.ensures c.head_of.ensures)
