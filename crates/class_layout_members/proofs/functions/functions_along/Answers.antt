use Rattle.std.proofs.Common.{◌+◌, ◌∙◌, map, drop, get_or, sym, ap}
use Rattle.std.specs.Option.{option_or}
use Rattle.std.specs.Str.{bytes_eq}
use Rattle.class_layout_members.proofs.RowLemmas.{from_number}
use Rattle.indexmap.specs.IndexMap.{get}
use Rattle.py_typed.specs.Classes.{class_entry}
use Rattle.py_typed.specs.Order.{method_along}
use Rattle.class_layout_members.proofs.FirstLemmas.{method_next}
use Rattle.class_layout_members.proofs.functions.functions_along.Goals as goal

pub loop-class-preserved : goal.loop-class-preserved
loop-class-preserved c =
    let i = c.loop-class.class-index in
    let order = c.args.order.now in
    let classes = map class_entry c.args.classes.now in
    let here = from_number order i c.loop-class-test.true in
    method_next classes (get bytes_eq c.loop-class.found) (get bytes_eq c.add_functions.new.found) (get_or order i 0) c.methods_at.result.now (drop (i + 1) order) (λ q. method_along classes q order) c.methods_at.ensures
    c.in_ok-add_functions.ensures
    (λ q. sym (ap (λ l. option_or (get bytes_eq c.loop-class.found q) (method_along classes q l)) here) ∙ c.loop-class.invariant q)
