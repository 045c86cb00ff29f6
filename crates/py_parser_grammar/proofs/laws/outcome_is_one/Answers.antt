use Rattle.py_parser_grammar.proofs.Outcomes.{outcome_is_one}
use Rattle.py_parser_grammar.proofs.laws.outcome_is_one.Goals as goal

pub returns : goal.returns
returns c = outcome_is_one
