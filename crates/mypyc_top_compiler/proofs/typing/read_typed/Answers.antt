use Rattle.py_syntax.specs.Statements.{module_tree}
use Rattle.py_typed.specs.Statements.{typed_module}
use Rattle.mypyc_top_compiler.proofs.SuitLemmas.{file_suits}
use Rattle.mypyc_top_compiler.proofs.typing.read_typed.Goals as goal

pub returns-in-Ok-clause-suits : goal.returns-in-Ok-clause-suits
returns-in-Ok-clause-suits c =
    file_suits c.quiet_files_are_well_typed.ensures typed_module c.args.mode c.args.bytes.now (module_tree c.in-Ok.parsed) c.typed_of.result c.in-Ok.ensures.module c.typed_of.ensures.typed c.typed_of.ensures.tells
