use Rattle.std.proofs.Common.{◌≡◌, ◌∙◌, ◌++◌, map, ap, arith}
use Rattle.std.specs.List.{flat_map}
use Rattle.py_syntax.specs.declared.statement.Func.{out-Func}
use Rattle.py_syntax.specs.Statements.{param_tree, body_tree}
use Rattle.py_check_members.specs.Deeds.{stmt_events, suite_assignments, init_events}
use Rattle.py_check_members.specs.Views.{events_of}
use Rattle.py_check_members.proofs.WalkLemmas.{if_ok}
use Rattle.py_check_members.proofs.TableLemmas.{first_among}
use Rattle.py_check_members.proofs.events.add_init.Goals as goal

pub returns-in-len1-up : goal.returns-in-len1-up
returns-in-len1-up c =
    if_ok c.add_inside.result
    (λ done. events_of c.add_inside.new.found.items ≡ events_of c.args.found.now.items ++ flat_map (stmt_events c.first-item.result.0 (map param_tree (out-Func c.args.f.now).params)) (suite_assignments (body_tree (out-Func c.args.f.now).body)))
    (λ done. events_of c.add_inside.new.found.items ≡ events_of c.args.found.now.items ++ init_events (map param_tree (out-Func c.args.f.now).params) (body_tree (out-Func c.args.f.now).body))
    (λ done e.
    e
    ∙ ap (λ l. events_of c.args.found.now.items ++ l)
    (first_among c.as_slice.result.now (out-Func c.args.f.now).params c.first-item.result (body_tree (out-Func c.args.f.now).body) c.as_slice.ensures (omega arith) c.first-item.is))
    c.add_inside.ensures
