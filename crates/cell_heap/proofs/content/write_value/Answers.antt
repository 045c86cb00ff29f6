use Rattle.std.proofs.Common.{sym, ap, ◌∙◌}
use Rattle.std.specs.Prelude.{map, slice_set}
use Rattle.std.specs.Option.{option_map}
use Rattle.cell_heap.specs.Contents.{word_named, pair_named}
use Rattle.cell_heap.proofs.ItemLemmas.{value_none, value_set}
use Rattle.cell_heap.proofs.content.write_value.Goals as goal

pub returns-in-None-clause-written : goal.returns-in-None-clause-written
returns-in-None-clause-written c =
    value_none c.args.pairs.now c.args.place (option_map word_named c.args.word) (sym c.get.ensures.value ∙ sym c.in-None.ensures)

pub returns-in-Some-clause-written : goal.returns-in-Some-clause-written
returns-in-Some-clause-written c =
    ap (map pair_named) c.set.ensures
    ∙ ap (λ w. map pair_named (slice_set c.args.pairs.now c.args.place (c.in-Some.old.0, w))) c.unwrap_or.ensures
    ∙ value_set c.args.pairs.now c.args.place c.args.word c.in-Some.old (sym c.get.ensures.value ∙ sym c.in-Some.ensures)
