use Rattle.std.proofs.Common.{◌≡◌, ◌∙◌, ◌<◌, [], length, sym, ap, subst, arith, get_or, ℕ, List}
use Rattle.std.proofs.lemmas.List.{length-replicate}
use Rattle.liveness.specs.Rising.{has}
use Rattle.liveness.specs.Rows.{AreFound, IsLiveRow}
use Rattle.liveness.proofs.InverseLemmas.{whole}
use Rattle.liveness.proofs.FoundLemmas.{marks_exact}
use Rattle.liveness.proofs.live_table.marked_rows.Goals as goal

pub returns : goal.returns
returns c r lt =
    let rows = c.live_rows.new.rows in
    let size : length rows ≡ c.in_ok-rows.rows.len = omega arith in
    let all : c.from_vec.result ≡ rows = c.from_vec.ensures ∙ whole c.in_ok-rows.rows.len rows c.in_ok-rows.rows.items size in
    let blocks_size : length rows ≡ length c.args.blocks.now =
    omega (arith, size, ap length c.in_ok-rows.ensures, length-replicate {A = List ℕ} (length c.args.blocks.now) []) in
    let found : AreFound c.args.touches.now c.in_ok-readers.readers c.in_ok-sources.sources (length c.in_ok-readers.readers) rows =
    subst (λ z. AreFound c.args.touches.now z c.in_ok-sources.sources (length z) rows) c.as_slice.ensures (subst (λ z. AreFound c.args.touches.now c.as_slice.result.now z (length c.as_slice.result.now) rows) c.as_slice-2.ensures c.in_ok-live_rows.ensures) in
    let within : r < length c.in_ok-readers.readers = omega (arith, lt, c.in_ok-readers.ensures.size) in
    let exact : IsLiveRow c.args.blocks.now r (has rows r) =
    marks_exact c.args.blocks.now r c.args.count c.args.touches.now c.requires lt (get_or c.in_ok-readers.readers r []) c.in_ok-sources.sources (c.in_ok-readers.ensures.turns r within) c.in_ok-sources.ensures.size c.in_ok-sources.ensures.turns rows blocks_size (λ t below. found.1 r t within below) in
    subst (λ z. IsLiveRow c.args.blocks.now r (has z r)) (sym all) exact
