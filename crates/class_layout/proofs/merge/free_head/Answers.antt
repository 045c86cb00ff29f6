use Rattle.std.proofs.Common.{◌∙◌, ◌<◌, ◌+◌, [], sym, take, length, get_or, drop, List, ℕ, arith}
use Rattle.class_layout.specs.Merging.{rows_of}
use Rattle.class_layout.proofs.MergeLemmas.{rows_from, found_here, not_here, unmet_is_free}
use Rattle.class_layout.proofs.merge.free_head.Goals as goal

pub returns-in-Some : goal.returns-in-Some
returns-in-Some c =
    let h : c.loop-row.row-index < length c.args.rows.now = omega arith in
    let row : List ℕ = (get_or c.args.rows.now c.loop-row.row-index record { ref_ptr = (0, 0); now = [] }).now in
    found_here (rows_of c.args.rows.now) (rows_of (drop c.loop-row.row-index c.args.rows.now)) (rows_of (drop (c.loop-row.row-index + 1) c.args.rows.now)) row c.in-Some.class _
    (rows_from c.args.rows.now c.loop-row.row-index record { ref_ptr = (0, 0); now = [] } h)
    c.loop-row.invariant
    (sym (unmet_is_free (rows_of c.args.rows.now) c.args.behind.now (take 1 row) c.requires) ∙ sym c.unmet_head.ensures ∙ c.in-Some.is)

pub loop-row-preserved : goal.loop-row-preserved
loop-row-preserved c =
    let h : c.loop-row.row-index < length c.args.rows.now = omega arith in
    let row : List ℕ = (get_or c.args.rows.now c.loop-row.row-index record { ref_ptr = (0, 0); now = [] }).now in
    not_here (rows_of c.args.rows.now) (rows_of (drop c.loop-row.row-index c.args.rows.now)) (rows_of (drop (c.loop-row.row-index + 1) c.args.rows.now)) row _
    (rows_from c.args.rows.now c.loop-row.row-index record { ref_ptr = (0, 0); now = [] } h)
    c.loop-row.invariant
    (sym (unmet_is_free (rows_of c.args.rows.now) c.args.behind.now (take 1 row) c.requires) ∙ sym c.unmet_head.ensures ∙ c.in_default.is)
