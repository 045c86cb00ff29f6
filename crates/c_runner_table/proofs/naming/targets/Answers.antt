use Rattle.std.proofs.Common.{◌≡◌, ap, ◌∙◌, length, take, arith}
use Rattle.std.specs.Prelude.{map}
use Rattle.std.proofs.Math.Seq.{take-length}
use Rattle.c_core.specs.Functions.{label_places}
use Rattle.c_runner_table.specs.Targets.{target_of}
use Rattle.c_runner_table.proofs.TableLemmas.{map_more}
use Rattle.c_runner_table.proofs.naming.targets.Goals as goal

pub loop-line-preserved : goal.loop-line-preserved
loop-line-preserved c =
    λ code known found typed.
    c.in_ok-push.ensures.ok
    ∙ map_more (target_of code (label_places c.args.lines.now)) c.args.lines.now c.loop-line.line-index c.line-item.result c.loop-line.targets c.line_target.result (omega arith) c.line-item.is
    (c.line_target.ensures code known found typed ∙ ap (λ ls. target_of code ls c.line-item.result) (c.as_slice.ensures ∙ c.in_ok-labels.ensures)) (c.loop-line.invariant code known found typed)

pub returns : goal.returns
returns c =
    λ code known found typed.
    let all : c.loop-line.line-index ≡ length c.args.lines.now = omega arith in
    c.loop-line.invariant code known found typed
    ∙ ap (λ i. map (target_of code (label_places c.args.lines.now)) (take i c.args.lines.now)) all
    ∙ ap (map (target_of code (label_places c.args.lines.now))) (take-length c.args.lines.now)
