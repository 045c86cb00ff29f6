use Rattle.py_parser_grammar.proofs.Outcomes.{faults_are_tokens}
use Rattle.py_parser_grammar.proofs.laws.faults_are_tokens.Goals as goal

pub returns : goal.returns
returns c = faults_are_tokens
