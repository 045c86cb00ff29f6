use Rattle.tests.proofs.Endings.{others_more}
use Rattle.tests.proofs.py_parser_tests.words_of.Goals as goal

pub words-preserved : goal.words-preserved
words-preserved c = record { others = rw c.in_ok-push.ensures.ok (others_more c.words.list _ c.words.invariant.others c.in_ok-kind.ensures) }
