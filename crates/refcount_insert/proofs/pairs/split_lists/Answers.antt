use Rattle.std.proofs.Common.{◌+◌, ◌∙◌, ap}
use Rattle.c_core.specs.Cells.{times}
use Rattle.refcount_insert.proofs.PairSteps.{split_first, split_second, whole_second}
use Rattle.refcount_insert.proofs.pairs.split_lists.Goals as goal

pub loop-x-preserved : goal.loop-x-preserved
loop-x-preserved c =
    let l = c.loop-x in
    record {
      first = λ r. split_first l.common.items l.first.items _ _ c.args.a.now l.x-index r c.loop-x-test.true (c.in_ok-place.ensures.first r) (l.invariant.first r);
      second = λ r. split_second l.common.items _ l.second.items _ c.args.b.now l.place _ _ r (c.in_ok-next.ensures.pushed r) (c.in_ok-place.ensures.second r) (l.invariant.second r);
      within = c.in_ok-place.ensures.within;
    }

pub returns-clause-second : goal.returns-clause-second
returns-clause-second c = λ r.
    ap (λ z. times z r + times c.from_vec-3.result r) c.from_vec.ensures
    ∙ (ap (λ z. times c.loop-x.common.items r + times z r) c.from_vec-3.ensures
    ∙ whole_second c.loop-x.common.items c.loop-x.second.items c.extend_from_slice.new.self.items c.args.b.now c.loop-x.place r c.in_ok-extend_from_slice.ensures.items (c.loop-x.invariant.second r))
