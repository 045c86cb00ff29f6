use Rattle.c_runner_objects.proofs.TupleLemmas.{refers, refers_not}
use Rattle.c_runner_objects.proofs.tuples.references_of.Goals as goal

pub returns-then-number_of-serial-clause-counted : goal.returns-then-number_of-serial-clause-counted
returns-then-number_of-serial-clause-counted c =
    refers c.args.word c.in-Big.key c.number_of.result c.args.serial c.in-Big.is c.number_of.ensures c.if-number_of-serial.true

pub returns-else-number_of-serial-clause-counted : goal.returns-else-number_of-serial-clause-counted
returns-else-number_of-serial-clause-counted c =
    refers_not c.args.word c.in-Big.key c.number_of.result c.args.serial c.in-Big.is c.number_of.ensures c.if-number_of-serial.false
