use Rattle.ir_builder.proofs.Common.{◌≡◌, ◌∙◌, sym, arith}
use Rattle.ir_builder.proofs.FillLemmas.{filled_set, filled_past}
use Rattle.ir_builder.proofs.body.fill.Goals.{then-is_open, else-is_open}
use Rattle.ir_builder.proofs.body.fill.Goals as goal

pub loop-k-preserved : goal.loop-k-preserved
loop-k-preserved c =
    let lt = c.loop-k-test.true in
    let low = c.loop-k.auto.k in
    let room = c.requires.room in
    elim c.if-is_open.branch [
      | then-is_open w ↦ record {
        filled = rw w.b-is (filled_set _ _ _ _ _ _ (sym c.is_open.ensures ∙ w.if-is_open.true) low c.loop-k.invariant.filled w.patch.ensures.set);
        within = rw w.b-is (λ m p s. w.patch.ensures.within m (lt, p) (c.loop-k.invariant.within m p s));
        lined = rw w.b-is (λ l k i x other at. c.loop-k.invariant.lined l k i x other (w.patch.ensures.lined l tt k i x other at));
      }
      | else-is_open w ↦ record {
        filled = rw w.b-is (filled_past _ _ _ _ _ (sym c.is_open.ensures ∙ w.if-is_open.false) low (omega arith) c.loop-k.invariant.filled);
        within = rw w.b-is c.loop-k.invariant.within;
        lined = rw w.b-is c.loop-k.invariant.lined;
      }
    ]

pub returns-clause-filled : goal.returns-clause-filled
returns-clause-filled c =
    let end = c.loop-k.auto.k-end c.requires.order in
    let q : c.loop-k.k ≡ c.args.to = omega arith in
    rw q at c.loop-k.invariant.filled
