use Rattle.py_parser_source.proofs.ListLemmas.{module_is_one}
use Rattle.py_parser_source.proofs.laws.module_is_one.Goals as goal

pub returns : goal.returns
returns c = module_is_one
