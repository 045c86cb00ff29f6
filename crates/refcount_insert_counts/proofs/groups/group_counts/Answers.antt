use Rattle.std.proofs.Common.{◌+◌, subst}
use Rattle.refcount_insert_rule.specs.Rule.{counts_before, counts_after, given_up}
use Rattle.refcount_insert_rule.specs.Counted.{counts_register}
use Rattle.refcount_insert_counts.specs.Known.{owned_at}
use Rattle.refcount_insert_counts.specs.Counts.{AreEach, is_touched}
use Rattle.refcount_insert_counts.proofs.Times.{each_of}
use Rattle.refcount_insert_counts.proofs.groups.group_counts.Goals as goal

pub returns : goal.returns
returns c =
    let o = c.args.op.now in
    let have = owned_at c.args.known.now c.args.regs.now c.args.b c.args.p in
    let want = owned_at c.args.known.now c.args.regs.now c.args.b (c.args.p + 1) in
    let before = counts_before (counts_register c.args.regs.now) o have want in
    let after = counts_after (counts_register c.args.regs.now) o have want in
    record {
      before = each_of (is_touched o) before c.in_ok-touched.touched.items c.in_ok-ups.ups c.in_ok-touched.ensures (subst (λ z. AreEach before z c.in_ok-ups.ups) c.deref.ensures.value c.in_ok-ups.ensures);
      after = each_of (is_touched o) after c.in_ok-touched.touched.items (given_up c.in_ok-downs.downs) c.in_ok-touched.ensures (subst (λ z. AreEach after z (given_up c.in_ok-downs.downs)) c.deref-3.ensures.value c.in_ok-downs.ensures.each);
      sure = c.in_ok-downs.ensures.sure;
    }
