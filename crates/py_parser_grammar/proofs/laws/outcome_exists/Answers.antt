use Rattle.py_parser_grammar.proofs.Outcomes.{outcome_exists}
use Rattle.py_parser_grammar.proofs.laws.outcome_exists.Goals as goal

pub returns : goal.returns
returns c = outcome_exists
