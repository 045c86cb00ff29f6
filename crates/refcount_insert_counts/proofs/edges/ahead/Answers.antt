use Rattle.std.proofs.Common.{◌≡◌, ◌∙◌, ◌+◌, [], ap, sym, subst, take}
use Rattle.std.specs.Prelude.{◌||◌, nat_eq}
use Rattle.liveness.specs.Paths.{is_among}
use Rattle.liveness.specs.Liveness.{starts_of}
use Rattle.liveness.specs.Rising.{IsRising}
use Rattle.refcount_insert_counts.specs.Counts.{AreOnce}
use Rattle.refcount_insert_counts.proofs.Times.{once_same, rising_once, ahead_step, ahead_end, or_false}
use Rattle.refcount_insert_counts.proofs.edges.ahead.Goals as goal

pub loop-r-init : goal.loop-r-init
loop-r-init c =
    let row = starts_of c.args.live.now c.args.a in
    let is : c.in_ok-all.all.items ≡ row = c.in_ok-all.ensures.items ∙ c.at_start.ensures.numbers in
    subst (AreOnce (λ r. is_among row r || is_among [] r)) (sym is) (once_same (is_among row) (λ r. is_among row r || is_among [] r) row (λ r. or_false (is_among row r)) (rising_once row (subst IsRising c.at_start.ensures.numbers c.at_start.ensures.rising)))

pub loop-r-preserved : goal.loop-r-preserved
loop-r-preserved c =
    let row = starts_of c.args.live.now c.args.a in
    let ys = c.at_start-r-items.result.now in
    let is = c.at_start-r-items.ensures.numbers in
    subst (λ z. AreOnce (λ r. is_among row r || is_among (take (c.loop-r.r-index + 1) z) r) c.push_new.new.all.items) is
    (ahead_step row ys c.loop-r.all.items c.push_new.new.all.items c.loop-r.r-index c.is_live_at_start.result c.at_start-r-items.ensures.rising c.loop-r-test.true c.is_live_at_start.ensures c.in_ok-push_new.ensures (subst (λ z. AreOnce (λ r. is_among row r || is_among (take c.loop-r.r-index z) r) c.loop-r.all.items) (sym is) c.loop-r.invariant))

pub returns : goal.returns
returns c =
    let row = starts_of c.args.live.now c.args.a in
    let ys = c.at_start-r-items.result.now in
    let is = c.at_start-r-items.ensures.numbers in
    subst (λ z. AreOnce (λ r. is_among row r || (is_among z r || nat_eq c.args.x.0 r)) c.push_new-2.new.all.items) is
    (ahead_end row ys c.loop-r.all.items c.push_new-2.new.all.items c.loop-r.r-index c.args.x.0 c.is_at_either.result c.loop-r-test.false (c.is_at_either.ensures ∙ ap (λ z. is_among row c.args.x.0 || is_among z c.args.x.0) (sym is)) c.in_ok-push_new-2.ensures (subst (λ z. AreOnce (λ r. is_among row r || is_among (take c.loop-r.r-index z) r) c.loop-r.all.items) (sym is) c.loop-r.invariant))
