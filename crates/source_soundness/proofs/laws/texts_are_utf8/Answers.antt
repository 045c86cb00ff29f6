use Rattle.source_soundness.proofs.Utf8Texts.{texts_are_utf8}
use Rattle.source_soundness.proofs.laws.texts_are_utf8.Goals as goal

pub returns : goal.returns
returns c = texts_are_utf8
