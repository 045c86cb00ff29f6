use Rattle.std.proofs.Common.{refl}
use Rattle.c_core.specs.Text.{byte_text}
use Rattle.c_text.proofs.Writing.{all, broken, more}
use Rattle.c_text.proofs.quote.write_bytes.Goals as goal

pub returns-in_err-write_byte : goal.returns-in_err-write_byte
returns-in_err-write_byte g c =
    broken byte_text _ _ _ _ 0 _ refl c.loop-byte-test.true refl c.from_residual.ensures.0 c.loop-byte.invariant c.in_err-write_byte.ensures

pub loop-byte-preserved : goal.loop-byte-preserved
loop-byte-preserved g c =
    more byte_text _ _ _ 0 c.loop-byte-test.true refl c.loop-byte.invariant c.in_ok-write_byte.ensures

pub returns : goal.returns
returns g c = all byte_text _ _ _ refl c.loop-byte-test.false c.loop-byte.invariant
