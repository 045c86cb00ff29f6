use Rattle.std.proofs.Common.{◌≡◌, ap, ◌∙◌, length, take, arith}
use Rattle.std.specs.Prelude.{map}
use Rattle.std.proofs.Math.Seq.{take-length}
use Rattle.c_core.specs.Functions.{number_of}
use Rattle.c_runner_table.proofs.TableLemmas.{map_more}
use Rattle.c_runner_table.proofs.naming.functions_named.Goals as goal

pub loop-name-preserved : goal.loop-name-preserved
loop-name-preserved c =
    λ functions known.
    c.in_ok-push.ensures.ok
    ∙ map_more (number_of functions) c.args.names.now c.loop-name.name-index c.name-item.result c.loop-name.found c.number_of.result (omega arith) c.name-item.is
    (c.number_of.ensures functions known ∙ ap (number_of functions) c.as_str.ensures) (c.loop-name.invariant functions known)

pub returns : goal.returns
returns c =
    λ functions known.
    let all : c.loop-name.name-index ≡ length c.args.names.now = omega arith in
    c.loop-name.invariant functions known
    ∙ ap (λ i. map (number_of functions) (take i c.args.names.now)) all
    ∙ ap (map (number_of functions)) (take-length c.args.names.now)
