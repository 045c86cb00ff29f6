use Rattle.value_core.proofs.LineLemmas.{pieces_are_lines}
use Rattle.value_core.proofs.laws.pieces_are_lines.Goals as goal

pub returns : goal.returns
returns c = pieces_are_lines
