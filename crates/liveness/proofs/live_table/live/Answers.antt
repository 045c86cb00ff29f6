use Rattle.std.proofs.Common.{◌∙◌, ap}
use Rattle.liveness.specs.Apart.{homes_from, pieces_in}
use Rattle.liveness.proofs.TableLemmas.{pieces_are, live_apart, starts_apart}
use Rattle.liveness.proofs.live_table.live.Goals as goal

pub returns-clause-exact : goal.returns-clause-exact
returns-clause-exact c =
    let f = c.args.f.now in
    let homes = c.in_ok-layout.ensures.homes ∙ ap (homes_from 0) c.as_slice.ensures in
    let pieces = pieces_are f c.in_ok-layout.layout c.in_ok-pieces.pieces homes (c.in_ok-layout.ensures.count ∙ ap pieces_in c.as_slice.ensures) c.in_ok-pieces.ensures in
    live_apart f c.in_ok-table.table c.as_slice-2.result.now c.len.result (c.in_ok-table.ensures.homes ∙ homes) (c.as_slice-2.ensures ∙ pieces) c.len.ensures c.in_ok-table.ensures.touches c.in_ok-table.ensures.rows

pub returns-clause-starts : goal.returns-clause-starts
returns-clause-starts c =
    let f = c.args.f.now in
    let homes = c.in_ok-layout.ensures.homes ∙ ap (homes_from 0) c.as_slice.ensures in
    let pieces = pieces_are f c.in_ok-layout.layout c.in_ok-pieces.pieces homes (c.in_ok-layout.ensures.count ∙ ap pieces_in c.as_slice.ensures) c.in_ok-pieces.ensures in
    starts_apart f c.in_ok-table.table c.as_slice-2.result.now c.len.result (c.in_ok-table.ensures.homes ∙ homes) (c.as_slice-2.ensures ∙ pieces) c.len.ensures c.in_ok-table.ensures.rows
