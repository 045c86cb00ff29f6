use Rattle.std.proofs.Common.{ap, ◌∙◌}
use Rattle.std.specs.Prelude.{map}
use Rattle.c_core.specs.Keys.{is_key}
use Rattle.cell_heap.specs.Contents.{pair_named}
use Rattle.cell_heap.specs.Held.{cells_of}
use Rattle.cell_heap.specs.Placed.{key_under, place_among}
use Rattle.cell_heap.specs.Seen.{key_seen}
use Rattle.cell_heap.proofs.PairLemmas.{position_mapped}
use Rattle.cell_heap.proofs.dicts.place_of_key.Goals as goal

pub returns-in-Some : goal.returns-in-Some
returns-in-Some c =
    let cells = cells_of c.args.cells.now.entries in
    c.place_in.ensures
    ∙ position_mapped pair_named (λ p. is_key (key_seen c.in-Some.key) (key_under cells p.0)) c.args.dict.now.pairs
    ∙ ap (λ o. place_among cells o (map pair_named c.args.dict.now.pairs)) c.in-Some.ensures
