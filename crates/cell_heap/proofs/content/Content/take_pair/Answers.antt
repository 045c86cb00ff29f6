use Rattle.std.proofs.Common.{◌+◌, ◌++◌, sym, ap, ◌∙◌, map, take, drop, remove}
use Rattle.std.specs.Option.{option_map}
use Rattle.c_core.specs.Machine.{DictCell}
use Rattle.cell_heap.specs.Contents.{word_named, pair_named, content_named}
use Rattle.cell_heap.specs.Marks.{marks_of, keys_in}
use Rattle.cell_heap.specs.Pairs.{pair_in, without_pair}
use Rattle.cell_heap.proofs.ItemLemmas.{map_get}
use Rattle.cell_heap.proofs.PairLemmas.{map_without}
use Rattle.cell_heap.proofs.content.Content.take_pair.Goals as goal

pub returns-in-Dict-clause-rest : goal.returns-in-Dict-clause-rest
returns-in-Dict-clause-rest c =
    ap (λ ps. DictCell (map pair_named ps)) c.take.ensures.rest
    ∙ ap DictCell (map_without pair_named c.args.place c.in-Dict.dict.pairs)
    ∙ ap (λ x. without_pair c.args.place (content_named x)) (sym c.in-Dict.is)

pub returns-in-Dict-clause-pair : goal.returns-in-Dict-clause-pair
returns-in-Dict-clause-pair c =
    ap (option_map pair_named) c.take.ensures.pair
    ∙ map_get pair_named c.in-Dict.dict.pairs c.args.place
    ∙ ap (λ x. pair_in c.args.place (content_named x)) (sym c.in-Dict.is)

pub returns-in-Dict-clause-marked : goal.returns-in-Dict-clause-marked
returns-in-Dict-clause-marked c = record {
  keys =
      ap (map (λ pair. word_named pair.0)) c.take.ensures.rest
      ∙ map_without (λ pair. word_named pair.0) c.args.place c.in-Dict.dict.pairs
      ∙ ap (λ x. take c.args.place (keys_in x) ++ drop (c.args.place + 1) (keys_in x)) (sym c.in-Dict.is);
  marks =
      c.take.ensures.marks
      ∙ ap (λ x. option_map (λ marks. remove marks c.args.place) (marks_of x)) (sym c.in-Dict.is);
}
