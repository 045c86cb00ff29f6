use Rattle.std.proofs.Common.{◌∙◌, ◌+◌, ◌<◌, [], ap, sym, map, length, get_or, drop, List, ℕ, arith}
use Rattle.py_typed.specs.Order.{headless}
use Rattle.class_layout.specs.Merging.{rows_of, times_behind}
use Rattle.class_layout.proofs.MergeLemmas.{rows_from, is_counted}
use Rattle.class_layout.proofs.merge.count_off.Goals as goal

pub count_off_row-requires : goal.count_off_row-requires
count_off_row-requires c = λ x e.
    let h : c.loop-row.row-index < length c.args.rows.now = omega arith in
    let row : List ℕ = (get_or c.args.rows.now c.loop-row.row-index record { ref_ptr = (0, 0); now = [] }).now in
    let more = rows_of (drop (c.loop-row.row-index + 1) c.args.rows.now) in
    let parts = rows_from c.args.rows.now c.loop-row.row-index record { ref_ptr = (0, 0); now = [] } h in
    let whole = times_behind x (map (headless c.args.class) (rows_of c.args.rows.now)) in
    is_counted x c.args.class row more (get_or c.loop-row.behind x 0) whole e
    (ap (λ rows. get_or c.loop-row.behind x 0 + times_behind x (map (headless c.args.class) rows)) (sym parts) ∙ c.loop-row.invariant x ∙ ap (λ rows. whole + times_behind x rows) parts)
