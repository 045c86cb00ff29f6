use Rattle.py_parser_laws.proofs.Derived.{trees_pass}
use Rattle.py_parser_laws.proofs.laws.trees_pass_as_tokens_do.Goals as goal

pub returns : goal.returns
returns c = trees_pass
