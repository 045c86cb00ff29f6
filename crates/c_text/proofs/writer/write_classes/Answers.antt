use Rattle.c_text.specs.Classes.{class_written}
use Rattle.c_text.proofs.Writing.{all, broken, more}
use Rattle.c_text.proofs.writer.write_classes.Goals as goal

pub returns-in_err-write_class_line : goal.returns-in_err-write_class_line
returns-in_err-write_class_line g c =
    broken class_written _ _ _ _ _ _ c.as_slice-class-items.ensures c.loop-class-test.true c.class-item.is c.from_residual.ensures.0 c.loop-class.invariant c.in_err-write_class_line.ensures

pub loop-class-preserved : goal.loop-class-preserved
loop-class-preserved g c =
    more class_written _ _ _ _ c.loop-class-test.true c.class-item.is c.loop-class.invariant c.in_ok-write_class_line.ensures

pub returns : goal.returns
returns g c = all class_written _ _ _ c.as_slice-class-items.ensures c.loop-class-test.false c.loop-class.invariant
