use Rattle.std.proofs.Common.{refl, ap, ◌+◌, length, arith}
use Rattle.std.proofs.lemmas.Option.{slice_get_read}
use Rattle.refcount_insert.proofs.PairSteps.{parted_step, parted_alone, parted_same, two_sizes, alone_sizes}
use Rattle.refcount_insert.proofs.pairs.in_parts.Goals.{then-i-all+in_ok-push_alone, else-i-all}
use Rattle.refcount_insert.proofs.pairs.in_parts.Goals as goal

pub loop-i-preserved : goal.loop-i-preserved
loop-i-preserved c =
    let l = c.loop-i in
    let all = c.args.all.now in
    let first = slice_get_read all (length all) l.i c.index-all-i.result refl (omega (arith, c.loop-i-test.true)) c.index-all-i.is in
    let second = slice_get_read all (length all) (l.i + 1) c.index-all-i-in-loop-i.result refl c.loop-i-test.true c.index-all-i-in-loop-i.is in
    let sizes = two_sizes l.parts.items c.push_pair.new.parts.items l.commons.items c.push_pair.new.commons.items c.index-all-i.result c.index-all-i-in-loop-i.result c.in_ok-push_pair.ensures in
    record {
      are = parted_step all l.parts.items c.push_pair.new.parts.items l.commons.items c.push_pair.new.commons.items c.index-all-i.result c.index-all-i-in-loop-i.result l.i l.invariant.size first second l.invariant.are c.in_ok-push_pair.ensures;
      size = omega (arith, sizes.0, l.invariant.size);
      few = omega (arith, sizes.1, l.invariant.few);
      within = omega (arith, c.loop-i-test.true);
    }

pub returns : goal.returns
returns c =
    let l = c.loop-i in
    let all = c.args.all.now in
    elim c.if-i-all.branch [
      | then-i-all+in_ok-push_alone w ↦
          let there = slice_get_read all (length all) l.i w.index-all-i-then-i-all.result refl w.if-i-all.true w.index-all-i-then-i-all.is in
          let sizes = alone_sizes l.parts.items w.push_alone.new.parts.items l.commons.items w.push_alone.new.commons.items w.index-all-i-then-i-all.result w.in_ok-push_alone.ensures in
          let parts = ap (λ z. z.items) w.parts-is in
          let commons = ap (λ z. z.items) w.commons-is in
          record {
            are = parted_same all _ _ _ _ parts commons (parted_alone all l.parts.items w.push_alone.new.parts.items l.commons.items w.push_alone.new.commons.items w.index-all-i-then-i-all.result l.i l.invariant.size there l.invariant.are w.in_ok-push_alone.ensures);
            size = omega (arith, ap length parts, sizes.0, l.invariant.size, l.invariant.within, c.loop-i-test.false, w.if-i-all.true);
            few = omega (arith, ap length commons, sizes.1, l.invariant.few, l.invariant.within, c.loop-i-test.false, w.if-i-all.true);
          }
      | else-i-all w ↦
          let parts = ap (λ z. z.items) w.parts-is in
          let commons = ap (λ z. z.items) w.commons-is in
          record {
            are = parted_same all _ _ _ _ parts commons l.invariant.are;
            size = omega (arith, ap length parts, l.invariant.size, l.invariant.within, w.if-i-all.false);
            few = omega (arith, ap length commons, l.invariant.few, l.invariant.within, w.if-i-all.false);
          }
    ]
