use Rattle.std.proofs.Common.{◌≡◌, ◌∙◌, ◌<◌, ℕ, List, [], length, sym, ap, subst, arith, map, true, get_or}
use Rattle.std.specs.Prelude.{◌↔◌}
use Rattle.std.proofs.lemmas.List.{length-replicate, length-map}
use Rattle.liveness.specs.Rising.{has}
use Rattle.liveness.specs.Places.{targets_of}
use Rattle.liveness.specs.Rows.{IsOwnedRow}
use Rattle.liveness.specs.Spread.{Spread, AreSpread}
use Rattle.liveness.proofs.InverseLemmas.{whole}
use Rattle.liveness.proofs.SpreadLemmas.{owned_exact}
use Rattle.liveness.proofs.borrow_table.marked_rows.Goals as goal

pub returns : goal.returns
returns c r lt told =
    let rows = c.owned_rows.new.rows in
    let known = c.args.known.now in
    let pieces = c.args.pieces.now in
    let edges = c.args.edges.now in
    let writers = c.in_ok-writers.writers in
    let size : length rows ≡ c.in_ok-rows.rows.len = omega arith in
    let all : c.from_vec.result ≡ rows = c.from_vec.ensures ∙ whole c.in_ok-rows.rows.len rows c.in_ok-rows.rows.items size in
    let rows_size : length rows ≡ length pieces =
    omega (arith, size, ap length c.in_ok-rows.ensures, length-replicate {A = List ℕ} (length edges) [], ap length c.requires.edges, length-map pieces targets_of) in
    let spread : AreSpread known writers edges (length writers) rows =
    subst (λ z. AreSpread known z edges (length z) rows) c.as_slice.ensures c.in_ok-owned_rows.ensures in
    let within : r < length writers = omega (arith, lt, c.in_ok-writers.ensures.size) in
    let spreads : (t : ℕ) → t < length pieces → (has rows r t ≡ true) ↔ Spread known (get_or writers r []) (map targets_of pieces) r t =
    λ t below. subst (λ z. (has rows r t ≡ true) ↔ Spread known (get_or writers r []) z r t) c.requires.edges (spread.1 r t within told (omega (arith, below, rows_size))) in
    let exact : IsOwnedRow pieces known.params r (has rows r) =
    owned_exact pieces c.args.count r lt known c.requires.known (get_or writers r []) (c.in_ok-writers.ensures.turns r within) (has rows r) spreads in
    subst (λ z. IsOwnedRow pieces known.params r (has z r)) (sym all) exact
