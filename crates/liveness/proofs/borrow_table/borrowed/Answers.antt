use Rattle.std.proofs.Common.{◌∙◌, ap}
use Rattle.liveness.specs.Apart.{homes_from, pieces_in}
use Rattle.liveness.proofs.TableLemmas.{pieces_are, lent_apart}
use Rattle.liveness.proofs.borrow_table.borrowed.Goals as goal

pub returns : goal.returns
returns c =
    let f = c.args.f.now in
    let homes = c.in_ok-layout.ensures.homes ∙ ap (homes_from 0) c.as_slice.ensures in
    let pieces = pieces_are f c.in_ok-layout.layout c.in_ok-pieces.pieces homes (c.in_ok-layout.ensures.count ∙ ap pieces_in c.as_slice.ensures) c.in_ok-pieces.ensures in
    lent_apart f c.in_ok-table.table c.as_slice-2.result.now c.len-regs.result (c.in_ok-table.ensures.homes ∙ homes) (c.as_slice-2.ensures ∙ pieces) c.len-regs.ensures c.in_ok-table.ensures.marked
