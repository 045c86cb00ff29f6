use Rattle.py_parser_grammar.proofs.Outcomes.{tree_is_one}
use Rattle.py_parser_grammar.proofs.laws.tree_is_one.Goals as goal

pub returns : goal.returns
returns c = tree_is_one
