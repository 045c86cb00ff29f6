use Rattle.std.proofs.Common.{◌∙◌, ap}
use Rattle.py_binder.specs.Scope.{first_sights}
use Rattle.py_binder.specs.Tables.{table_role}
use Rattle.py_binder.proofs.TableLemmas.{inner_from, from_nothing}
use Rattle.py_binder.proofs.inside.in_function.Goals as goal

pub returns-clause-role : goal.returns-clause-role
returns-clause-role c =
    inner_from (table_role c.args.table.now) _ _ _ _ _ _ c.in_ok-params.ensures
    (c.in_ok-listed.ensures ∙ ap first_sights (c.as_slice.ensures.value ∙ from_nothing _ _ _ c.in_ok-add_listed.ensures c.new-names.ensures.items))
    (c.in_ok-bound.ensures ∙ ap first_sights (c.as_slice-2.ensures.value ∙ from_nothing _ _ _ c.in_ok-add_bound.ensures c.new-names-2.ensures.items))
