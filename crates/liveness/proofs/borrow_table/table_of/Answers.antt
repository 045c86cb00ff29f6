use Rattle.std.proofs.Common.{◌≡◌, ◌<◌, ℕ, true, sym, subst}
use Rattle.liveness.specs.Rising.{has}
use Rattle.liveness.specs.Rows.{IsOwnedRow}
use Rattle.liveness.specs.Tables.{is_told}
use Rattle.liveness.specs.Spread.{IsKnown}
use Rattle.liveness.specs.Liveness.{AreMarked}
use Rattle.liveness.proofs.borrow_table.table_of.Goals as goal

pub marked_rows-requires-clause-known : goal.marked_rows-requires-clause-known
marked_rows-requires-clause-known c =
    subst (λ z. IsKnown c.args.pieces.now z c.known_count-count.result c.in_ok-known.known) (sym c.in_ok-known.ensures.params_are) c.in_ok-known.ensures

pub returns-clause-marked : goal.returns-clause-marked
returns-clause-marked c =
    let known = c.in_ok-known.known in
    let rows = c.in_ok-rows.rows in
    let owned : (r : ℕ) → r < c.known_count-count.result → is_told known r ≡ true → IsOwnedRow c.args.pieces.now c.args.params r (has rows r) =
    λ r lt told. subst (λ z. IsOwnedRow c.args.pieces.now z r (has rows r)) c.in_ok-known.ensures.params_are (c.in_ok-rows.ensures r lt told) in
    subst (λ z. AreMarked c.args.pieces.now c.args.params z record { homes = c.args.homes; known = known; rows = rows }) c.known_count-count.ensures (record { known = c.in_ok-known.ensures; owned = owned })
