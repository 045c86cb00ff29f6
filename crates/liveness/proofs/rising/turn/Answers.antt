use Rattle.std.proofs.Common.{◌<◌, ◌∙◌, length, ap, arith, refl, [], cond, get_or}
use Rattle.liveness.specs.Paths.{is_among}
use Rattle.liveness.specs.Rising.{with_number}
use Rattle.std.proofs.lemmas.Option.{slice_get_read}
use Rattle.liveness.proofs.InverseLemmas.{turn_more, turned_most}
use Rattle.liveness.proofs.rising.turn.Goals as goal

pub mark_all-requires : goal.mark_all-requires
mark_all-requires c =
    let is = slice_get_read c.args.rows.now (length c.args.rows.now) c.loop-number.number c.index-rows-number.result refl c.loop-number-test.true c.index-rows-number.is in
    turned_most (length c.args.inverse.now) c.loop-number.number c.args.rows.now c.loop-number.inverse c.index-rows-number.result is c.loop-number.invariant.size c.loop-number.invariant.turned

pub loop-number-preserved : goal.loop-number-preserved
loop-number-preserved c =
    let is = slice_get_read c.args.rows.now (length c.args.rows.now) c.loop-number.number c.index-rows-number.result refl c.loop-number-test.true c.index-rows-number.is in
    record {
      size = omega (arith, c.mark_all.auto.rows, c.loop-number.invariant.size);
      turned = λ k lt.
          let within : k < length c.loop-number.inverse = omega (arith, lt, c.loop-number.invariant.size) in
          c.in_ok-mark_all.ensures k within
          ∙ ap (λ z. cond (is_among z k) (with_number (get_or c.loop-number.inverse k []) c.loop-number.number) (get_or c.loop-number.inverse k [])) c.as_slice.ensures
          ∙ turn_more c.args.rows.now c.loop-number.number c.index-rows-number.result is (get_or c.loop-number.inverse k []) k (c.loop-number.invariant.turned k lt);
    }
