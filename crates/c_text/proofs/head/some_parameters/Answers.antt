use Rattle.std.proofs.Common.{subst, sym}
use Rattle.c_text.specs.Statements.{AreNamed}
use Rattle.c_text.proofs.ArgumentLemmas.{empty_is, more_is}
use Rattle.c_text.proofs.HeadLemmas.{named_push, no_comma_behind, no_parameter, parameters_end}
use Rattle.c_text.proofs.head.some_parameters.Goals as goal

pub returns-in_default : goal.returns-in_default
returns-in_default c =
    let d = rw c.in_default.is at c.in_ok-declared.ensures in
    no_parameter c.loop-vars.vars c.args.text.now c.up_to_comma.result.0.now c.up_to_comma.result.1.now c.loop-vars.rest.now c.loop-vars.invariant.named c.loop-vars.invariant.whole c.up_to_comma.ensures.finds d

pub returns-then-is_empty : goal.returns-then-is_empty
returns-then-is_empty c =
    let d = rw c.in-Some.is at c.in_ok-declared.ensures in (
      subst AreNamed (sym c.in_ok-vars.ensures) (named_push c.loop-vars.vars c.in-Some.declared c.loop-vars.invariant.named d.0),
      parameters_end c.loop-vars.vars c.in_ok-vars.vars c.in-Some.declared c.args.text.now c.up_to_comma.result.0.now c.up_to_comma.result.1.now c.loop-vars.rest.now c.loop-vars.invariant.whole c.up_to_comma.ensures.whole d.1 (empty_is c.up_to_comma.result.1.now c.if-is_empty.ensures) c.in_ok-vars.ensures,
    )

pub returns-in_default-behind : goal.returns-in_default-behind
returns-in_default-behind c =
    no_comma_behind c.loop-vars.vars c.args.text.now c.up_to_comma.result.0.now c.up_to_comma.result.1.now c.loop-vars.rest.now c.loop-vars.invariant.named c.loop-vars.invariant.whole c.up_to_comma.ensures.finds (more_is c.up_to_comma.result.1.now c.if-is_empty.ensures) c.in_default-behind.ensures
