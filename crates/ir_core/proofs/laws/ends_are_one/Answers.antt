use Rattle.ir_core.specs.Meaning.{Plain}
use Rattle.ir_core.specs.Runs.{start}
use Rattle.ir_core.proofs.RunLemmas.{ends_are_one}
use Rattle.ir_core.proofs.laws.ends_are_one.Goals as goal

pub returns : goal.returns
returns c p turns items e f v w a b = ends_are_one Plain p a.0 b.0 (start p turns items) e f v w a.1 b.1
