use Rattle.std.proofs.Common.{sym, ap, ◌∙◌}
use Rattle.unset_tests.specs.Unset.{is_jumps}
use Rattle.unset_tests.proofs.Settling.{last_is}
use Rattle.unset_tests.proofs.walk.ends_in_failure.Goals as goal

pub returns-in-Some : goal.returns-in-Some
returns-in-Some c =
    c.is_jumps.ensures ∙ (ap is_jumps c.edge_of.ensures ∙ last_is c.args.regs.now c.args.ops.now c.in-Some.field-0.now (sym c.in-Some.ensures.value))
