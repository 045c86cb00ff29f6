use Rattle.std.proofs.Common.{sym}
use Rattle.std.proofs.lemmas.Str.{is_utf8-from_IsUtf8}
use Rattle.c_core.proofs.well_formed.is_text.Goals as goal

pub returns : goal.returns
returns c = sym (is_utf8-from_IsUtf8 c.args._text.now c.utf8._text)
