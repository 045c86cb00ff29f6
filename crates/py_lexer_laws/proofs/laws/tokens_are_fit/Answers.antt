use Rattle.py_lexer_laws.proofs.Fit.{tokens_fit}
use Rattle.py_lexer_laws.proofs.laws.tokens_are_fit.Goals as goal

pub returns : goal.returns
returns c = tokens_fit
