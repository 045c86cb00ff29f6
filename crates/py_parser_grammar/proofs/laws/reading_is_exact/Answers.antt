use Rattle.py_parser_grammar.proofs.Outcomes.{reading_is_exact}
use Rattle.py_parser_grammar.proofs.laws.reading_is_exact.Goals as goal

pub returns : goal.returns
returns c = reading_is_exact
