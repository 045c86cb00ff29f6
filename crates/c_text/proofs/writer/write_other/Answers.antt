use Rattle.std.proofs.Common.{◌++◌, ap}
use Rattle.std.specs.Prelude.{codes}
use Rattle.std.specs.List.{flat_map}
use Rattle.c_text.specs.Written.{declaration_written, head_written, lines_written}
use Rattle.c_text.proofs.Writing.{same_text, then, failed}
use Rattle.c_text.proofs.writer.write_other.Goals as goal

pub returns-in_err-write_head : goal.returns-in_err-write_head
returns-in_err-write_head g c = failed _ _ c.from_residual.ensures.0 c.in_err-write_head.ensures

pub returns : goal.returns
returns g c =
    let f = c.args.function.now in
    same_text (ap (λ own. head_written f ++ (flat_map declaration_written own ++ (lines_written f.vars 0 f.lines ++ codes "}\n"))) c.own_variables.ensures)
    (then c.in_ok-write_head.ensures c.write_body.ensures)
