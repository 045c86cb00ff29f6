use Rattle.c_runner.proofs.StateLemmas.{may_not_stand, may_stand}
use Rattle.c_runner_deeds.specs.States.{seen}
use Rattle.c_runner.proofs.calls.call_primitive.Goals as goal

pub returns-then-not-may_stand : goal.returns-then-not-may_stand
returns-then-not-may_stand c =
    may_not_stand c.args.code.now c.args.target c.args.args.now c.args.primitive (seen c.args.state.now) c.may_stand.result c.may_stand.ensures c.if-not-may_stand.true

pub returns : goal.returns
returns c =
    may_stand c.args.code.now c.args.target c.args.args.now c.args.primitive (seen c.args.state.now) c.may_stand.result c.may_stand.ensures (seen c.perform.new.state) c.perform.result c.if-not-may_stand.false c.perform.ensures
