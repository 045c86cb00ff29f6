use Rattle.std.proofs.Common.{refl, sym, ap, subst, length}
use Rattle.std.proofs.lemmas.Option.{slice_get_read}
use Rattle.refcount_insert.specs.Detours.{AreWays}
use Rattle.refcount_insert.proofs.DetourSteps.{ways_over, next_within, over_step, grows_placed, grows_start, one_longer}
use Rattle.refcount_insert.proofs.detours.over_commons.Goals as goal

pub loop-part-init : goal.loop-part-init
loop-part-init c = record {
  size = ap length c.new-entries.ensures.items;
  grows = grows_start _;
  ways = λ old all shared parted h size. subst (AreWays old _ all) (sym c.new-entries.ensures.items) (ways_over old _ all shared c.args.parts.now _ parted h);
}

pub place-requires : goal.place-requires
place-requires c = next_within c.args.commons.now _ _ _ _ c.requires c.loop-part.invariant.grows c.entry_at-next.ensures

pub loop-part-preserved : goal.loop-part-preserved
loop-part-preserved c =
    let l = c.loop-part in
    let x = c.part-item.result in
    let there = slice_get_read c.args.parts.now (length c.args.parts.now) l.part-index x refl c.loop-part-test.true c.part-item.is in
    record {
      size = one_longer l.entries.items _ _ l.part-index c.in_ok-push.ensures.items l.invariant.size;
      grows = grows_placed _ _ _ _ _ _ l.invariant.grows c.in_ok-entry.ensures;
      ways = λ old all shared parted h size. over_step _ _ _ c.args.parts.now c.args.commons.now l.entries.items _ x _ l.part-index _ _ there l.invariant.size c.in_ok-own.ensures l.invariant.grows c.in_ok-entry.ensures c.entry_at-next.ensures c.in_ok-push.ensures.items old all shared parted h size (l.invariant.ways old all shared parted h size);
    }
