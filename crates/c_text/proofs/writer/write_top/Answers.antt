use Rattle.std.proofs.Common.{◌++◌, ap}
use Rattle.std.specs.Prelude.{codes}
use Rattle.std.specs.List.{flat_map}
use Rattle.c_text.specs.Written.{declaration_written, lines_written}
use Rattle.c_text.proofs.Writing.{same_text, then, failed}
use Rattle.c_text.proofs.writer.write_top.Goals as goal

pub returns-in_err-write_word : goal.returns-in_err-write_word
returns-in_err-write_word g c = failed _ _ c.from_residual.ensures.0 c.in_err-write_word.ensures

pub returns : goal.returns
returns g c =
    let f = c.args.function.now in
    same_text (ap (λ vars. codes "char CPyModule(void) {\n" ++ (flat_map declaration_written vars ++ (lines_written f.vars 0 f.lines ++ codes "}\n"))) c.as_slice.ensures)
    (then c.in_ok-write_word.ensures c.write_body.ensures)
