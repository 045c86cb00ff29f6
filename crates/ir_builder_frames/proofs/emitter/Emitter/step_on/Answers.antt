use Rattle.ir_builder_frames.proofs.Common.{arith, inl}
use Rattle.ir_builder_frames.proofs.emitter.Emitter.step_on.Goals as goal

pub close-requires : goal.close-requires
close-requires c =
    let next = c.in_ok-next.ensures in
    let here = c.here.ensures.number in
    record { fits = ((inl (omega (arith, next, here)), omega (arith, next, here)), tt) }

pub returns-clause-number : goal.returns-clause-number
returns-clause-number c =
    let next = c.in_ok-next.ensures in
    let here = c.here.ensures.number in
    let more = c.in_ok-close.ensures.closed.blocks in
    omega (arith, next, here, more)

pub returns-clause-lined : goal.returns-clause-lined
returns-clause-lined c l = c.close.ensures.lined l tt
