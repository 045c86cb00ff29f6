use Rattle.c_runner.proofs.OwnLemmas.{literal_plain}
use Rattle.c_runner.proofs.lines.literal_word.Goals as goal

pub returns-in-Some-clause-plain : goal.returns-in-Some-clause-plain
returns-in-Some-clause-plain c = literal_plain c.in-Some.kind c.args.literal c.of_literal.result c.of_literal.ensures
