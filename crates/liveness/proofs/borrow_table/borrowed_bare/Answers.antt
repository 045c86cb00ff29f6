use Rattle.std.proofs.Common.{◌∙◌, length, ap, map, arith}
use Rattle.liveness.specs.Steps.{steps_of}
use Rattle.liveness.proofs.TableLemmas.{lent_kept}
use Rattle.liveness.proofs.borrow_table.borrowed_bare.Goals as goal

pub returns : goal.returns
returns c =
    lent_kept c.args.f.now c.in_ok-homes.homes c.as_slice-2.result.now (λ b lt. c.in_ok-homes.ensures.homes b (omega (arith, lt, c.len.ensures, ap length c.as_slice-2.ensures))) (omega (arith, c.in_ok-homes.ensures.size, c.len.ensures, ap length c.as_slice-2.ensures)) (c.as_slice-2.ensures ∙ (c.in_ok-blocks.ensures ∙ ap (map steps_of) c.as_slice.ensures)) c.in_ok-table.table c.len-2.result c.in_ok-table.ensures.homes c.len-2.ensures c.in_ok-table.ensures.marked
