use Rattle.std.proofs.Common.{refl}
use Rattle.c_text.specs.Written.{declaration_written}
use Rattle.c_text.proofs.Writing.{all, broken, more}
use Rattle.c_text.proofs.writer.write_declarations.Goals as goal

pub returns-in_err-write_declaration : goal.returns-in_err-write_declaration
returns-in_err-write_declaration g c =
    broken declaration_written _ _ _ _ _ _ refl c.loop-declared-test.true c.declared-item.is c.from_residual.ensures.0 c.loop-declared.invariant c.in_err-write_declaration.ensures

pub loop-declared-preserved : goal.loop-declared-preserved
loop-declared-preserved g c =
    more declaration_written _ _ _ _ c.loop-declared-test.true c.declared-item.is c.loop-declared.invariant c.in_ok-write_declaration.ensures

pub returns : goal.returns
returns g c = all declaration_written _ _ _ refl c.loop-declared-test.false c.loop-declared.invariant
