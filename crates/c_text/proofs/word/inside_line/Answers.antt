use Rattle.c_text.proofs.Bytes.{inside_ends, inside_first, inside_is}
use Rattle.c_text.proofs.word.inside_line.Goals as goal

pub returns-in_default : goal.returns-in_default
returns-in_default c = inside_first c.args.piece.now c.in_default.ensures

pub returns-in-Some-before : goal.returns-in-Some-before
returns-in-Some-before c = inside_is c.args.piece.now c.in-Some.rest.now c.in-Some-before.text.now c.in-Some.ensures c.in-Some-before.ensures

pub returns-in-None : goal.returns-in-None
returns-in-None c = inside_ends c.args.piece.now c.in-Some.rest.now c.in-Some.ensures c.in-None.ensures
