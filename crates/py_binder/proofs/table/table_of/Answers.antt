use Rattle.std.proofs.Common.{◌∙◌, ap}
use Rattle.std.specs.Str.{bytes_eq}
use Rattle.std.specs.Map.{lookup}
use Rattle.indexmap.specs.IndexMap.{get}
use Rattle.py_binder.specs.Scope.{first_sights}
use Rattle.py_binder.proofs.TableLemmas.{table_from, from_nothing}
use Rattle.py_binder.proofs.table.table_of.Goals as goal

pub returns : goal.returns
returns c =
    table_from (get bytes_eq c.in_ok-said.said) _ _ c.in_ok-bound.bound.keys
    (λ k. c.in_ok-said.ensures k ∙ ap (lookup (bytes_eq k)) (from_nothing _ _ _ c.in_ok-add_said.ensures c.new-said.ensures.items))
    (c.in_ok-bound.ensures ∙ ap first_sights (c.as_slice.ensures.value ∙ from_nothing _ _ _ c.in_ok-add_bound.ensures c.new-bound.ensures.items))
