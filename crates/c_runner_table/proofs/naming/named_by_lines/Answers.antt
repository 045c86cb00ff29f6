use Rattle.std.proofs.Common.{◌≡◌, ◌∙◌, ap, length, take, arith}
use Rattle.std.specs.Prelude.{map}
use Rattle.std.proofs.Math.Seq.{take-length}
use Rattle.c_runner_table.specs.Targets.{targets_of}
use Rattle.c_runner_table.proofs.TableLemmas.{map_more}
use Rattle.c_runner_table.proofs.naming.named_by_lines.Goals as goal

pub loop-function-preserved : goal.loop-function-preserved
loop-function-preserved c =
    c.in_ok-push.ensures.ok
    ∙ map_more (λ g. targets_of c.args.code.now g.lines) c.as_slice-functions.result.now c.loop-function.function-index c.function-item.result c.loop-function.named c.in_ok-targets.field-0 (omega arith) c.function-item.is
    (c.in_ok-targets.ensures c.args.code.now c.requires (rw c.as_slice-variables.ensures at c.in_ok-globals.ensures) (rw c.as_slice-declared.ensures at c.in_ok-classes.ensures) ∙ ap (targets_of c.args.code.now) c.as_slice-lines.ensures) c.loop-function.invariant

pub returns : goal.returns
returns c =
    let functions = c.as_slice-functions.result.now in
    let all : c.loop-function.function-index ≡ length functions = omega arith in
    c.loop-function.invariant
    ∙ ap (λ i. map (λ g. targets_of c.args.code.now g.lines) (take i functions)) all
    ∙ ap (map (λ g. targets_of c.args.code.now g.lines)) (take-length functions ∙ c.as_slice-functions.ensures)
