use Rattle.std.proofs.Common.{◌≡◌, ◌<◌, ℕ, length, true, arith}
use Rattle.liveness.specs.Paths.{is_among}
use Rattle.liveness.specs.Rising.{has}
use Rattle.liveness.specs.Places.{reads_first}
use Rattle.liveness.proofs.ExposedLemmas.{below_fresh, found_exact}
use Rattle.liveness.proofs.live_table.live_row.Goals as goal

pub exposed-requires-clause-fresh : goal.exposed-requires-clause-fresh
exposed-requires-clause-fresh c = below_fresh c.args.r c.args.rows.now c.requires.below

pub returns-clause-finds : goal.returns-clause-finds
returns-clause-finds c t lt =
    let rows = c.exposed.new.rows in
    let size : length c.args.edges.now ≡ length rows = omega (arith, c.requires.size, c.exposed.auto.rows) in
    let within : t < length rows = omega (arith, lt, c.exposed.auto.rows) in
    let marks : (b : ℕ) → is_among c.args.readers.now b ≡ true → reads_first c.args.touches.now c.args.r b ≡ true → b < length rows → has rows c.args.r b ≡ true =
    λ b e reads_b inside. c.in_ok-work.ensures.marks b e reads_b (omega (arith, inside, c.exposed.auto.rows)) in
    found_exact c.args.touches.now c.args.readers.now c.args.edges.now c.args.r rows c.flood.new.rows c.in_ok-work.work.items c.in_ok-work.ensures.sound marks c.in_ok-work.ensures.waits c.in_ok-work.ensures.comes size c.in_ok-flood.ensures.comes t within
