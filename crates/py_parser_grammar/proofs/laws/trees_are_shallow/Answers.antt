use Rattle.py_parser_grammar.proofs.Shallow.{trees_are_shallow}
use Rattle.py_parser_grammar.proofs.laws.trees_are_shallow.Goals as goal

pub returns : goal.returns
returns c = trees_are_shallow
