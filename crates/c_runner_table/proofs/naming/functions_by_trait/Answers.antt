use Rattle.std.proofs.Common.{◌≡◌, ap, ◌∙◌, length, take, arith}
use Rattle.std.specs.Prelude.{map}
use Rattle.std.proofs.Math.Seq.{take-length}
use Rattle.c_core.specs.Functions.{number_of}
use Rattle.c_runner_table.proofs.TableLemmas.{map_more}
use Rattle.c_runner_table.proofs.naming.functions_by_trait.Goals as goal

pub loop-entry-preserved : goal.loop-entry-preserved
loop-entry-preserved c =
    λ functions known.
    c.in_ok-push.ensures.ok
    ∙ map_more (λ t. map (number_of functions) t.1) c.args.traits.now c.loop-entry.entry-index c.entry-item.result c.loop-entry.found c.in_ok-functions_named.field-0 (omega arith) c.entry-item.is
    (c.in_ok-functions_named.ensures functions known ∙ ap (map (number_of functions)) c.as_slice.ensures) (c.loop-entry.invariant functions known)

pub returns : goal.returns
returns c =
    λ functions known.
    let all : c.loop-entry.entry-index ≡ length c.args.traits.now = omega arith in
    c.loop-entry.invariant functions known
    ∙ ap (λ i. map (λ t. map (number_of functions) t.1) (take i c.args.traits.now)) all
    ∙ ap (map (λ t. map (number_of functions) t.1)) (take-length c.args.traits.now)
