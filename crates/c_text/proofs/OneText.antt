-- No two well-formed codes have one text.
use Rattle.std.proofs.Common.{◌≡◌}
use Rattle.c_core.specs.declared.code.Code.{Code}
use Rattle.c_core.specs.Text.{code_text}
use Rattle.c_core.specs.WellFormed.{WellFormed}
use Rattle.c_text.proofs.Bytes.{and_true}
use Rattle.c_text.proofs.OneCode.{other_is}
use Rattle.c_text.proofs.ReadLemmas.{same_code_lines}

pub codes_are_one : (a b : Code) → WellFormed a → WellFormed b → code_text a ≡ code_text b → a ≡ b
codes_are_one a b h k e =
    let spelled = (and_true _ _ k).0 in other_is a b h spelled (same_code_lines a b (and_true _ _ h).0 spelled e)
