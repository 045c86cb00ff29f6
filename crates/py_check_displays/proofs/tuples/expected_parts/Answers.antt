use Rattle.std.proofs.Common.{map, ap, sym, ◌∙◌}
use Rattle.py_typed.specs.Sorts.{sort}
use Rattle.py_check_context.specs.Context.{wants, along}
use Rattle.py_check_displays.specs.Displays.{parts_row}
use Rattle.py_check_displays.proofs.PlaceLemmas.{sort-Tuple, parts_same, parts_differ}
use Rattle.py_check_displays.proofs.tuples.expected_parts.Goals as goal

pub returns-then-len-n : goal.returns-then-len-n
returns-then-len-n c =
    ap (λ l. along (map sort l)) c.as_slice.ensures
    ∙ sym (parts_same c.in-Tuple.ts c.args.n (sym c.len.ensures ∙ c.if-len-n.true))
    ∙ ap (λ s. parts_row (wants s) c.args.n) (sym (ap sort c.in-Tuple.is ∙ sort-Tuple c.in-Tuple.ts))

pub returns-else-len-n : goal.returns-else-len-n
returns-else-len-n c =
    sym (parts_differ c.in-Tuple.ts c.args.n (λ h. c.if-len-n.false (c.len.ensures ∙ h)))
    ∙ ap (λ s. parts_row (wants s) c.args.n) (sym (ap sort c.in-Tuple.is ∙ sort-Tuple c.in-Tuple.ts))
