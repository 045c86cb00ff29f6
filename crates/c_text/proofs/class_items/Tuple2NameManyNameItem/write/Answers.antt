use Rattle.c_text.proofs.ClassLines.{trait_written}
use Rattle.c_text.proofs.Writing.{same_text, then, failed}
use Rattle.c_text.proofs.class_items.Tuple2NameManyNameItem.write.Goals as goal

pub returns-in_err-write_words : goal.returns-in_err-write_words
returns-in_err-write_words g c =
    same_text (trait_written c.args.self.now c.args.separator.now c.name_word-name.ensures) (failed _ _ c.from_residual.ensures.0 c.in_err-write_words.ensures)

pub returns-in_err-write_next_items : goal.returns-in_err-write_next_items
returns-in_err-write_next_items g c =
    same_text (trait_written c.args.self.now c.args.separator.now c.name_word-name.ensures)
    (then c.in_ok-write_words.ensures (failed _ _ c.from_residual-in_err-write_next_items.ensures.0 c.in_err-write_next_items.ensures))

pub returns : goal.returns
returns g c =
    same_text (trait_written c.args.self.now c.args.separator.now c.name_word-name.ensures)
    (then c.in_ok-write_words.ensures (then c.in_ok-write_next_items.ensures c.write_word.ensures))
