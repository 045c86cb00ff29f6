use Rattle.std.proofs.Common.{sym, ◌∙◌}
use Rattle.unset_tests.proofs.Settling.{passed_to_jump, passed_to_other}
use Rattle.unset_tests.proofs.walk.is_passed.Goals as goal

pub returns-in-Goto : goal.returns-in-Goto
returns-in-Goto c =
    c.is_empty.ensures ∙ passed_to_jump c.args.edge c.args.rest.now c.args.last c.in-Goto.field-0 (sym c.is_jumps.ensures ∙ c.if-not-is_jumps.false) c.in-Goto.is

pub returns-in_default : goal.returns-in_default
returns-in_default c =
    passed_to_other c.args.edge c.args.rest.now c.args.last (sym c.is_jumps.ensures ∙ c.if-not-is_jumps.false) c.in_default.not-Goto
