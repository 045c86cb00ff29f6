use Rattle.std.proofs.Common.{◌≡◌, ap, arith, sym}
use Rattle.std.specs.List.{list_all}
use Rattle.c_text.specs.Braces.{closed_text}
use Rattle.c_text.proofs.ArgumentLemmas.{all_push}
use Rattle.c_text.proofs.Items.{FindsItem, items_end, items_turn}
use Rattle.c_text.proofs.braces.next_items.Goals as goal

pub loop-items-init : goal.loop-items-init
loop-items-init g c = record {
  remain = λ items rest h e. record { more = items; whole = cc; written = sym (c.past-rest.ensures.some (closed_text g.P.Item.shown items rest) (sym e)) };
  spelled = ap (list_all g.P.Item.spelled) c.new-items.ensures;
  within = c.past-rest.ensures.within;
}

pub loop-items-preserved : goal.loop-items-preserved
loop-items-preserved g c =
    let f : FindsItem g.P.Item.shown g.P.Item.spelled c.loop-items.rest.now c.in-Some.item c.in-Some.after.now = λ a rest s ends q. rw c.in-Some.is at (c.in_ok-item.ensures.finds a rest s ends q) in
    record {
      remain = λ items rest h e. items_turn g.P.Item.shown g.P.Item.spelled c.in-Some.item c.in-Some.after.now c.past-rest-in-Some.result.now c.push.new.self h (c.loop-items.invariant.remain items rest h e) (λ r q. let n = c.in_ok-item.ensures.closes r q in cc) f c.past-rest-in-Some.ensures.some c.past-rest-in-Some.ensures.none c.in_ok-push.ensures.ok;
      spelled = all_push g.P.Item.spelled c.loop-items.items c.push.new.self c.in-Some.item c.loop-items.invariant.spelled (rw c.in-Some.is at c.in_ok-item.ensures.spelled) c.in_ok-push.ensures.ok;
      within = omega (arith, c.past-rest-in-Some.ensures.within, rw c.in-Some.is at c.in_ok-item.ensures.shorter, c.loop-items.invariant.within);
    }

pub returns-clause-finds : goal.returns-clause-finds
returns-clause-finds g c = λ items rest h e.
    let r = items_end g.P.Item.shown g.P.Item.spelled h (c.loop-items.invariant.remain items rest h e) (λ a r s ends q. rw c.in_default.is at (c.in_ok-item.ensures.finds a r s ends q)) in
    (r.0, c.past.ensures.some rest r.1)
