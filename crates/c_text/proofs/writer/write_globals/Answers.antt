use Rattle.c_text.specs.Written.{global_written}
use Rattle.c_text.proofs.Writing.{all, broken, more}
use Rattle.c_text.proofs.writer.write_globals.Goals as goal

pub returns-in_err-write_global : goal.returns-in_err-write_global
returns-in_err-write_global g c =
    broken global_written _ _ _ _ _ _ c.as_slice-global-items.ensures c.loop-global-test.true c.global-item.is c.from_residual.ensures.0 c.loop-global.invariant c.in_err-write_global.ensures

pub loop-global-preserved : goal.loop-global-preserved
loop-global-preserved g c =
    more global_written _ _ _ _ c.loop-global-test.true c.global-item.is c.loop-global.invariant c.in_ok-write_global.ensures

pub returns : goal.returns
returns g c = all global_written _ _ _ c.as_slice-global-items.ensures c.loop-global-test.false c.loop-global.invariant
