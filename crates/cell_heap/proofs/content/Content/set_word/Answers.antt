use Rattle.std.proofs.Common.{sym, ap, ◌∙◌}
use Rattle.std.specs.Prelude.{map}
use Rattle.std.specs.Option.{option_map, option_flatten}
use Rattle.c_core.specs.Machine.{ListCell, TupleCell, InstCell}
use Rattle.cell_heap.specs.Contents.{word_named, content_named}
use Rattle.cell_heap.specs.Words.{word_in, with_word}
use Rattle.cell_heap.proofs.ItemLemmas.{map_set, map_get, flat_get}
use Rattle.cell_heap.specs.Marks.{marks_of, keys_in}
use Rattle.cell_heap.proofs.PairLemmas.{keys_written}
use Rattle.cell_heap.proofs.content.Content.set_word.Goals as goal

pub returns-in-Inst-clause-written : goal.returns-in-Inst-clause-written
returns-in-Inst-clause-written c =
    ap (λ xs. InstCell c.in-Inst.field-0 (map (option_map word_named) xs)) c.replaced.ensures.written
    ∙ ap (InstCell c.in-Inst.field-0) (map_set (option_map word_named) c.in-Inst.attributes c.args.place c.args.word)
    ∙ ap (λ x. with_word c.args.place (option_map word_named c.args.word) (content_named x)) (sym c.in-Inst.is)

pub returns-in-Inst-clause-old : goal.returns-in-Inst-clause-old
returns-in-Inst-clause-old c =
    ap (option_map word_named) (c.flatten.ensures ∙ ap option_flatten c.replaced.ensures.old)
    ∙ flat_get word_named c.in-Inst.attributes c.args.place
    ∙ ap (λ x. word_in c.args.place (content_named x)) (sym c.in-Inst.is)

pub returns-in-List-clause-written : goal.returns-in-List-clause-written
returns-in-List-clause-written c =
    ap ListCell c.write_item.ensures.written
    ∙ ap (λ x. with_word c.args.place (option_map word_named c.args.word) (content_named x)) (sym c.in-List.is)

pub returns-in-List-clause-old : goal.returns-in-List-clause-old
returns-in-List-clause-old c =
    ap (option_map word_named) c.write_item.ensures.old
    ∙ map_get word_named c.in-List.items c.args.place
    ∙ ap (λ x. word_in c.args.place (content_named x)) (sym c.in-List.is)

pub returns-in-Tuple-clause-written : goal.returns-in-Tuple-clause-written
returns-in-Tuple-clause-written c =
    ap TupleCell c.write_item-in-Tuple.ensures.written
    ∙ ap (λ x. with_word c.args.place (option_map word_named c.args.word) (content_named x)) (sym c.in-Tuple.is)

pub returns-in-Tuple-clause-old : goal.returns-in-Tuple-clause-old
returns-in-Tuple-clause-old c =
    ap (option_map word_named) c.write_item-in-Tuple.ensures.old
    ∙ map_get word_named c.in-Tuple.items c.args.place
    ∙ ap (λ x. word_in c.args.place (content_named x)) (sym c.in-Tuple.is)

pub returns-in-Dict-clause-keys : goal.returns-in-Dict-clause-keys
returns-in-Dict-clause-keys c = record {
  keys =
      keys_written c.in-Dict.dict.pairs c.write_value.new.pairs c.args.place (option_map word_named c.args.word) c.write_value.ensures.written
      ∙ ap keys_in (sym c.in-Dict.is);
  marks = ap marks_of (sym c.in-Dict.is);
}
