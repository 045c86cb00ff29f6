use Rattle.std.proofs.Common.{sym, ◌∙◌}
use Rattle.c_runner.proofs.FrameLemmas.{none_of, refused, enters}
use Rattle.c_runner_deeds.specs.States.{seen}
use Rattle.c_runner.proofs.frames.enter.Goals as goal

pub returns-in-Some-2 : goal.returns-in-Some-2
returns-in-Some-2 c =
    λ rest. refused rest (seen c.args.state.now) c.args.code.now c.in-Some.function.now c.args.func c.args.target c.args.args.now c.parameters.result.now c.in_ok-fault.field-0 c.in-Some-2.fault c.pass.new.words
    (none_of c.args.state.now.pending (sym c.is_some.ensures ∙ c.if-is_some.false)) (sym c.in-Some.ensures.value) c.parameters.ensures (c.in_ok-fault.ensures.passed rest) c.in-Some-2.is

pub returns-in_ok-begin-in-None : goal.returns-in_ok-begin-in-None
returns-in_ok-begin-in-None c =
    λ rest. enters rest (seen c.args.state.now) (seen c.begin.new.state) c.args.code.now c.in-Some.function.now c.args.func c.args.target c.args.args.now c.parameters.result.now c.in_ok-fault.field-0 c.pass.new.words
    (none_of c.args.state.now.pending (sym c.is_some.ensures ∙ c.if-is_some.false)) (sym c.in-Some.ensures.value) c.parameters.ensures (c.in_ok-fault.ensures.passed rest) c.in-None.is (c.in_ok-begin-in-None.ensures rest)
