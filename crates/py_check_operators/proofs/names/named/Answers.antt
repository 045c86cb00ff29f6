use Rattle.std.proofs.Common.{sym, ap, ◌∙◌}
use Rattle.std.specs.Option.{option_map, option_copied}
use Rattle.py_typed.specs.declared.expression.TKind as kind
use Rattle.py_typed.specs.Expressions.{typed_node}
use Rattle.py_check_context.specs.Context.{context, var_sort, var_of, var_sorts}
use Rattle.py_check_coercions.proofs.PartLemmas.{typed_node-Local, typed_node-Global}
use Rattle.py_check_operators.proofs.NameLemmas.{var_found, local_says, global_says}
use Rattle.py_check_operators.proofs.names.named.Goals as goal

pub returns-in-Local : goal.returns-in-Local
returns-in-Local c =
    local_says c.variable.result c.args.faults.now c.variable.new.faults (var_sorts c.args.vars.now) c.args.known.now c.args.span c.args.x.now c.in-Local.i ((context c.args.scope.now).meaning c.args.x.now) (typed_node (kind.Local c.in-Local.i)) c.contains.result
    (var_of (option_map var_sort (option_copied c.get.result))) c.in-Local.ensures (typed_node-Local c.in-Local.i) c.contains.ensures.value
    (ap (λ o. var_of (option_map var_sort o)) c.get.ensures.value ∙ sym (ap var_of (var_found c.args.vars.now.locals c.in-Local.i))) c.variable.ensures

pub returns-in-Global : goal.returns-in-Global
returns-in-Global c =
    global_says c.variable-in-Global.result c.args.faults.now c.variable-in-Global.new.faults (var_sorts c.args.vars.now) c.args.known.now c.args.span c.args.x.now c.in-Global.i ((context c.args.scope.now).meaning c.args.x.now) (typed_node (kind.Global c.in-Global.i))
    (var_of (option_map var_sort (option_copied c.get-in-Global.result))) c.in-Global.ensures (typed_node-Global c.in-Global.i)
    (ap (λ o. var_of (option_map var_sort o)) c.get-in-Global.ensures.value ∙ sym (ap var_of (var_found c.args.vars.now.globals c.in-Global.i))) c.variable-in-Global.ensures
