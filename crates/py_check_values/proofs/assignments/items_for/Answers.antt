use Rattle.std.proofs.Common.{rules, ◌≡◌, ◌∙◌, ap, sym, map}
use Rattle.std.specs.Option.{option_map, option_copied}
use Rattle.py_typed.specs.Sorts.{sort, sorts_of, listed_sorts}
use Rattle.py_check_values.specs.Assignments.{as_many, items_for}
use Rattle.py_check_values.proofs.BoundLemmas.{listed_again, sort-Tuple}
use Rattle.py_check_values.proofs.assignments.items_for.Goals as goal

pub returns-in-Tuple : goal.returns-in-Tuple
returns-in-Tuple c =
    let found : option_map (map sort) (option_copied c.as_many.result) ≡ as_many (map sort c.in-Tuple.ts) c.args.n = search (rules, c.as_many.ensures, c.as_slice.ensures) in
    let same : as_many (listed_sorts (sorts_of (map sort c.in-Tuple.ts))) c.args.n ≡ as_many (map sort c.in-Tuple.ts) c.args.n = ap (λ l. as_many l c.args.n) (listed_again (map sort c.in-Tuple.ts)) in
    found ∙ sym same ∙ ap (λ s. items_for s c.args.n) (sym (ap sort c.in-Tuple.is ∙ sort-Tuple c.in-Tuple.ts))
