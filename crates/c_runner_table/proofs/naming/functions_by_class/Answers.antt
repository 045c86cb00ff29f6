use Rattle.std.proofs.Common.{◌≡◌, ap, ◌∙◌, length, take, arith}
use Rattle.std.specs.Prelude.{map}
use Rattle.std.proofs.Math.Seq.{take-length}
use Rattle.c_runner_table.specs.Targets.{functions_of}
use Rattle.c_runner_table.proofs.TableLemmas.{map_more}
use Rattle.c_runner_table.proofs.naming.functions_by_class.Goals as goal

pub loop-class-preserved : goal.loop-class-preserved
loop-class-preserved c =
    λ functions known.
    c.in_ok-push.ensures.ok
    ∙ map_more (functions_of functions) c.args.classes.now c.loop-class.class-index c.class-item.result c.loop-class.found c.in_ok-class_functions.field-0 (omega arith) c.class-item.is
    (c.in_ok-class_functions.ensures functions known) (c.loop-class.invariant functions known)

pub returns : goal.returns
returns c =
    λ functions known.
    let all : c.loop-class.class-index ≡ length c.args.classes.now = omega arith in
    c.loop-class.invariant functions known
    ∙ ap (λ i. map (functions_of functions) (take i c.args.classes.now)) all
    ∙ ap (map (functions_of functions)) (take-length c.args.classes.now)
