use Rattle.std.proofs.Common.{sym, ap, ◌∙◌}
use Rattle.std.specs.Prelude.{map}
use Rattle.std.specs.Option.{option_map}
use Rattle.cell_heap.specs.Contents.{word_named}
use Rattle.cell_heap.specs.Words.{set_item}
use Rattle.cell_heap.proofs.ItemLemmas.{map_set}
use Rattle.cell_heap.proofs.content.write_item.Goals as goal

pub returns-in-Some-clause-written : goal.returns-in-Some-clause-written
returns-in-Some-clause-written c =
    ap (map word_named) c.replaced.ensures.written
    ∙ map_set word_named c.args.items.now c.args.place c.in-Some.word
    ∙ ap (λ o. set_item (map word_named c.args.items.now) c.args.place (option_map word_named o)) (sym c.in-Some.is)
