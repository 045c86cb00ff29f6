use Rattle.c_text.proofs.ClassLines.{attribute_written}
use Rattle.c_text.proofs.Writing.{same_text, then, failed}
use Rattle.c_text.proofs.class_items.Tuple2NameKindItem.write.Goals as goal

pub returns-in_err-write_words : goal.returns-in_err-write_words
returns-in_err-write_words g c =
    same_text (attribute_written c.args.self.now c.args.separator.now c.name_word-name.ensures c.slot_word-kind.ensures)
    (failed _ _ c.from_residual.ensures.0 c.in_err-write_words.ensures)

pub returns-in_err-write_quoted : goal.returns-in_err-write_quoted
returns-in_err-write_quoted g c =
    same_text (attribute_written c.args.self.now c.args.separator.now c.name_word-name.ensures c.slot_word-kind.ensures)
    (then c.in_ok-write_words.ensures (failed _ _ c.from_residual-in_err-write_quoted.ensures.0 c.in_err-write_quoted.ensures))

pub returns : goal.returns
returns g c =
    same_text (attribute_written c.args.self.now c.args.separator.now c.name_word-name.ensures c.slot_word-kind.ensures)
    (then c.in_ok-write_words.ensures (then c.in_ok-write_quoted.ensures c.write_words-2.ensures))
