use Rattle.source_soundness.proofs.Utf8Texts.{lines_are_utf8}
use Rattle.source_soundness.proofs.laws.lines_are_utf8.Goals as goal

pub returns : goal.returns
returns c = lines_are_utf8
