use Rattle.c_text.proofs.Writing.{same_text, then, failed}
use Rattle.c_text.proofs.WrittenLemmas.{written_code}
use Rattle.c_text.proofs.writer.write_code.Goals as goal

pub returns-in_err-write_word : goal.returns-in_err-write_word
returns-in_err-write_word g c =
    same_text (written_code c.args.code.now) (failed _ _ c.from_residual.ensures.0 c.in_err-write_word.ensures)

pub returns-in_err-write_globals : goal.returns-in_err-write_globals
returns-in_err-write_globals g c =
    same_text (written_code c.args.code.now) (then c.in_ok-write_word.ensures (failed _ _ c.from_residual-in_err-write_globals.ensures.0 c.in_err-write_globals.ensures))

pub returns-in_err-write_classes : goal.returns-in_err-write_classes
returns-in_err-write_classes g c =
    same_text (written_code c.args.code.now) (then c.in_ok-write_word.ensures (then c.in_ok-write_globals.ensures (failed _ _ c.from_residual-in_err-write_classes.ensures.0 c.in_err-write_classes.ensures)))

pub returns : goal.returns
returns g c =
    same_text (written_code c.args.code.now) (then c.in_ok-write_word.ensures (then c.in_ok-write_globals.ensures (then c.in_ok-write_classes.ensures c.write_functions.ensures)))
