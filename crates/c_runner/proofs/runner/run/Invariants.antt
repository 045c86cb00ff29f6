use Rattle.std.proofs.Common.{◌≡◌}
use Rattle.c_runner.proofs.Taking.{Going}
use Rattle.c_runner_deeds.specs.States.{seen}
use Rattle.c_runner.proofs.runner.run.Given as goal

-- no call was refused, and the run goes on
abbrev pub invariant-steps : goal.invariant-steps
invariant-steps g l = record {
  calm : g.O.Sink.faults l.out ≡ g.O.Sink.faults l.fn.out;
  calm_in : g.I.Source.faults l.input ≡ g.I.Source.faults l.fn.input;
  going : Going g.O.Sink.tells (g.O.Sink.taken l.fn.out) (g.O.Sink.taken l.out) (l.out ≡ l.fn.out) g.I.Source.tells (g.I.Source.left l.fn.input) (g.I.Source.left l.input) l.code l.turns l.left l.has_output (seen l.state) l.reader;
}

abbrev pub decreases-steps : goal.decreases-steps
decreases-steps g l = l.left
