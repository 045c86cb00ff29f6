use Rattle.c_text.proofs.Bytes.{unclosed}
use Rattle.c_text.proofs.line.word_and_inside.Goals as goal

pub returns-in-None-before : goal.returns-in-None-before
returns-in-None-before c = λ word inside plain e. unclosed c.in-Some.word.now c.in-Some.rest.now word inside c.args.text.now c.in-Some.ensures c.in-None-before.ensures plain e
