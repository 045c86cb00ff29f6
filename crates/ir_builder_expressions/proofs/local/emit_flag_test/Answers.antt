use Rattle.ir_builder_expressions.proofs.ReadingLemmas.{may_test, tests_set}
use Rattle.ir_builder_expressions.proofs.Common.{refl, extends_trans}
use Rattle.ir_builder_expressions.proofs.local.emit_flag_test.Goals as goal

pub returns-in_err-emit_unbound-clause-kept : goal.returns-in_err-emit_unbound-clause-kept
returns-in_err-emit_unbound-clause-kept c = extends_trans _ _ _ c.in_ok-test.ensures.kept (extends_trans _ _ _ c.in_ok-close.ensures.kept c.in_err-emit_unbound.ensures.kept)

pub returns-in_err-literal-clause-kept : goal.returns-in_err-literal-clause-kept
returns-in_err-literal-clause-kept c = extends_trans _ _ _ c.in_ok-test.ensures.kept (extends_trans _ _ _ c.in_ok-close.ensures.kept (extends_trans _ _ _ c.in_ok-emit_unbound.ensures.kept c.in_err-literal.ensures.kept))

pub returns-in_err-set-clause-kept : goal.returns-in_err-set-clause-kept
returns-in_err-set-clause-kept c = extends_trans _ _ _ c.in_ok-test.ensures.kept (extends_trans _ _ _ c.in_ok-close.ensures.kept (extends_trans _ _ _ c.in_ok-emit_unbound.ensures.kept (extends_trans _ _ _ c.in_ok-literal.ensures.kept c.in_err-set.ensures.kept)))

pub patch-requires-clause-fits : goal.patch-requires-clause-fits
patch-requires-clause-fits c =
    may_test _ _ _ _ _ _ _ c.in_ok-test.test c.here-unset.result c.in_ok-set.set c.args.flag.0 c.in_ok-literal.field-0.0 c.args.line c.args.name.now c.requires c.in_ok-test.ensures.closed c.in_ok-test.ensures.number c.in_ok-close.ensures.closed c.here-unset.ensures.number c.in_ok-emit_unbound.ensures.pushed c.in_ok-literal.ensures.added c.in_ok-set.ensures.kept c.in_ok-set.ensures.empty c.in_ok-set.ensures.number refl

pub returns-clause-tests : goal.returns-clause-tests
returns-clause-tests c =
    tests_set _ _ _ _ _ _ _ c.in_ok-test.test c.here-unset.result c.in_ok-set.set c.args.flag.0 c.in_ok-literal.field-0.0 c.args.line c.args.name.now c.requires c.in_ok-test.ensures.closed c.in_ok-test.ensures.number c.in_ok-close.ensures.closed c.here-unset.ensures.number c.in_ok-emit_unbound.ensures.pushed c.in_ok-literal.ensures.added c.in_ok-set.ensures.kept c.in_ok-set.ensures.empty c.in_ok-set.ensures.number c.patch.ensures.set

pub returns-clause-kept : goal.returns-clause-kept
returns-clause-kept c = (returns-clause-tests c).extends
