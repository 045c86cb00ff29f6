use Rattle.std.proofs.Common.{rules, ◌∙◌, ap}
use Rattle.py_syntax_diagnostics.specs.Order.{by_place}
use Rattle.py_syntax_diagnostics.proofs.OrderLemmas.{sorted_by_span}
use Rattle.py_syntax_diagnostics.proofs.by_place.Goals as goal

pub returns : goal.returns
returns c =
    c.from_vec.ensures
    ∙ sorted_by_span _ _ c.in_ok-sort_by_key.ensures.sorted c.in_ok-sort_by_key.ensures.stable (λ a r q k. search rules)
    ∙ ap by_place c.into_vec-faults.ensures
