use Rattle.std.proofs.Common.{refl}
use Rattle.c_text.proofs.Writing.{word_text, words_flat, same_text, all, broken}
use Rattle.c_text.proofs.written.write_words.Goals as goal

pub returns-in_err-write_word : goal.returns-in_err-write_word
returns-in_err-write_word g c =
    same_text (words_flat c.args.words.now) (broken word_text _ _ _ _ _ _ refl c.loop-word-test.true refl c.from_residual.ensures.0 c.loop-word.invariant c.in_err-write_word.ensures)

pub returns : goal.returns
returns g c = same_text (words_flat c.args.words.now) (all word_text _ _ _ refl c.loop-word-test.false c.loop-word.invariant)
