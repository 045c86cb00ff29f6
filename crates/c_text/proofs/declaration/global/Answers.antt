use Rattle.std.proofs.Common.{◌++◌, ◌∙◌, sym}
use Rattle.std.specs.Prelude.{codes}
use Rattle.c_core.specs.Text.{kind_text}
use Rattle.c_text.proofs.LineTexts.{global_found, global_joined}
use Rattle.c_text.proofs.declaration.global.Goals as goal

pub returns-in-Some : goal.returns-in-Some
returns-in-Some c = global_found c.args.piece.now c.in-Some.text.now c.kind_and_name.result c.in-Some.ensures c.kind_and_name.ensures

pub returns-in-None : goal.returns-in-None
returns-in-None c = λ v h e. c.in-None.ensures (kind_text v.1 ++ (codes "CPyStatic_" ++ v.0)) (sym e ∙ sym (global_joined v))
