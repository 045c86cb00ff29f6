use Rattle.std.proofs.Common.{◌++◌, sym}
use Rattle.std.specs.Prelude.{codes}
use Rattle.c_text.proofs.Forms.{is_none}
use Rattle.c_text.proofs.StatementReads.{reads_as}
use Rattle.c_text.proofs.line.statement.Goals as goal

pub returns-in-Some-behind-2 : goal.returns-in-Some-behind-2
returns-in-Some-behind-2 c =
    reads_as c.args.vars.now (codes "goto CPyL" ++ c.in-Some-behind-2.digits.now) c.args.text.now c.goto.result (sym c.in-Some-behind-2.ensures) (c.goto.ensures c.args.vars.now)

pub returns-in_default-behind-4 : goal.returns-in_default-behind-4
returns-in_default-behind-4 c = record {
  spelled = tt;
  finds = λ l i h e. is_none c.args.vars.now l c.args.text.now i h e c.in_default.ensures c.in_default-behind.ensures c.in_default-behind-2.ensures c.in_default-behind-3.ensures c.in_default-behind-4.ensures;
}
