use Rattle.std.proofs.Common.{ap, true}
use Rattle.c_core.specs.declared.primitive.Primitive.TheVariants.{Io}
use Rattle.c_core.specs.declared.primitive.IoPrim.TheVariants.{Write, Input}
use Rattle.c_core.specs.Step.{primitive_step}
use Rattle.c_runner_deeds.specs.States.{state_of, seen}
use Rattle.c_runner.proofs.StateLemmas.{quiet, steps_as}
use Rattle.c_runner.proofs.calls.call_io.Goals as goal

pub returns-in_ok-call_write-in-Write : goal.returns-in_ok-call_write-in-Write
returns-in_ok-call_write-in-Write c =
    λ code.
    quiet (λ s. primitive_step true s code c.args.target c.args.args.now (Io Write)) (λ s. primitive_step true s code c.args.target c.args.args.now (Io c.args.operation)) c.in_ok-call_write-in-Write.field-0 (seen c.args.state.now) (seen c.call_write.new.self)
    (λ rest. ap (λ p. primitive_step true (state_of rest (seen c.args.state.now)) code c.args.target c.args.args.now (Io p)) c.in-Write.is)
    (c.in_ok-call_write-in-Write.ensures code c.args.target)

pub returns-in-Input : goal.returns-in-Input
returns-in-Input c =
    λ code.
    steps_as (λ s. primitive_step true s code c.args.target c.args.args.now (Io Input)) (λ s. primitive_step true s code c.args.target c.args.args.now (Io c.args.operation)) (seen c.args.state.now) (seen c.args.state.now) c.ask_for_line.result
    (λ rest. ap (λ p. primitive_step true (state_of rest (seen c.args.state.now)) code c.args.target c.args.args.now (Io p)) c.in-Input.is)
    (c.ask_for_line.ensures code)
