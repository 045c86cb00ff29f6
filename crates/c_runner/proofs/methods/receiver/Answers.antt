use Rattle.std.proofs.Common.{sym, ◌∙◌}
use Rattle.std.specs.Prelude.{map}
use Rattle.c_runner_deeds.specs.States.{held_of, seen}
use Rattle.cell_heap.specs.Contents.{number_of}
use Rattle.c_runner.proofs.FrameLemmas.{none_of}
use Rattle.c_runner.proofs.MethodLemmas.{not_calm, no_object, of_class}
use Rattle.c_runner.proofs.methods.receiver.Goals as goal

pub returns-then-is_some : goal.returns-then-is_some
returns-then-is_some c =
    λ rest code target args entry. not_calm rest (seen c.args.state.now) code target c.args.object args entry (sym c.is_some.ensures ∙ c.if-is_some.true)

pub returns-in-Err : goal.returns-in-Err
returns-in-Err c =
    λ rest code target args entry. no_object rest (seen c.args.state.now) code target c.args.object args entry c.in-Err.fault (none_of c.args.state.now.pending (sym c.is_some.ensures ∙ c.if-is_some.false)) c.in-Err.ensures.found

pub returns-in-Ok : goal.returns-in-Ok
returns-in-Ok c =
    λ rest code target args entry. of_class rest (seen c.args.state.now) code target c.args.object args entry (number_of c.in-Ok.found.0, (c.in-Ok.found.1, map held_of c.in-Ok.found.2.now)) (none_of c.args.state.now.pending (sym c.is_some.ensures ∙ c.if-is_some.false)) c.in-Ok.ensures.found
