use Rattle.std.proofs.Common.{◌≡◌, ◌<◌, ◌+◌, ◌∙◌, [], ◌∷◌, ◌++◌, true, length, length-append, sym, ap, subst, arith, vec_len}
use Rattle.std.specs.Prelude.{slice_set}
use Rattle.unset_tests.specs.Ways.{leads_to, led_from}
use Rattle.unset_tests.proofs.Marking.{Marking, weight, weight_set, leads_few, led_is, led_within, marking_start, marking_past, marking_more, marking_done, block_there, mark_false, mark_true, empty_work}
use Rattle.unset_tests.proofs.marks.spread.Goals as goal
use Rattle.unset_tests.proofs.marks.spread.Goals.{else-t-blocks-via-then-t-blocks+else-not-is_marked, else-t-blocks-via-else-t-blocks}

pub loop-t-init : goal.loop-t-init
loop-t-init c =
    let blocks = c.args.blocks.now in
    let next = led_from c.args.regs.now blocks c.args.followed in
    subst (λ m. Marking (length blocks) next c.args.work.items m c.args.work.items) (sym c.in_ok-marks.ensures) (marking_start (length blocks) next c.args.work.items)

pub loop-t-smaller-then-not-is_marked : goal.loop-t-smaller-then-not-is_marked
loop-t-smaller-then-not-is_marked c =
    let marks = c.loop-t.marks.items in
    let led = leads_to c.args.regs.now c.args.blocks.now c.args.followed c.index-blocks-t.result in
    let unmarked = mark_false marks c.as_slice.result.now c.in-Some.t c.is_marked.result c.as_slice.ensures.value c.is_marked.ensures c.if-not-is_marked.true in
    let falls = weight_set marks c.in-Some.t (omega (arith, c.if-t-blocks.true, c.loop-t.invariant.size)) unmarked in
    let few = leads_few c.args.regs.now c.args.blocks.now c.args.followed c.index-blocks-t.result in
    let more = ap length c.in_ok-push_led.ensures in
    let both = length-append c.pop.new.self.items led in
    let was = ap length c.in-Some.ensures.items in
    let one = length-append c.pop.new.self.items (c.in-Some.t ∷ []) in
    let less : weight (slice_set marks c.in-Some.t true) + length c.push_led.new.work.items < weight marks + length c.loop-t.work.items = omega (arith, falls, few, more, both, was, one) in
    less

pub loop-t-preserved-then-not-is_marked : goal.loop-t-preserved-then-not-is_marked
loop-t-preserved-then-not-is_marked c =
    let regs = c.args.regs.now in
    let blocks = c.args.blocks.now in
    let followed = c.args.followed in
    let next = led_from regs blocks followed in
    let tried = c.args.work.items in
    let before = subst (Marking (length blocks) next tried c.loop-t.marks.items) c.in-Some.ensures.items c.loop-t.invariant in
    let there = block_there blocks c.in-Some.t c.index-blocks-t.result c.if-t-blocks.true c.index-blocks-t.is in
    let led = c.in_ok-push_led.ensures ∙ ap (λ l. c.pop.new.self.items ++ l) (sym (led_is regs blocks followed c.in-Some.t c.index-blocks-t.result there)) in
    subst (Marking (length blocks) next tried (slice_set c.loop-t.marks.items c.in-Some.t true)) (sym led)
    (marking_more (length blocks) next tried c.loop-t.marks.items c.pop.new.self.items c.in-Some.t before (omega (arith, c.if-t-blocks.true, c.loop-t.invariant.size)))

pub loop-t-preserved : goal.loop-t-preserved
loop-t-preserved c =
    let blocks = c.args.blocks.now in
    let next = led_from c.args.regs.now blocks c.args.followed in
    let tried = c.args.work.items in
    let before = subst (Marking (length blocks) next tried c.loop-t.marks.items) c.in-Some.ensures.items c.loop-t.invariant in
    let past = marking_past (length blocks) next tried c.loop-t.marks.items c.pop.new.self.items c.in-Some.t before in
    elim c.else-t-blocks.branch [
      | else-t-blocks-via-then-t-blocks+else-not-is_marked w ↦
          past (λ lt. mark_true c.loop-t.marks.items w.as_slice.result.now c.in-Some.t w.is_marked.result w.as_slice.ensures.value w.is_marked.ensures w.if-not-is_marked.false)
      | else-t-blocks-via-else-t-blocks w ↦
          past (λ lt. absurd (omega (arith, lt, w.if-t-blocks.false, c.loop-t.invariant.size)))
    ]

pub returns : goal.returns
returns c =
    let blocks = c.args.blocks.now in
    let next = led_from c.args.regs.now blocks c.args.followed in
    let tried = c.args.work.items in
    let none : c.loop-t.work.items ≡ [] = empty_work c.loop-t.work.items c.pop.new.self.items (vec_len c.loop-t.work) c.in_default.ensures.items c.in_default.ensures.rest c.in_default.ensures.cases.0 in
    marking_done (length blocks) next tried (led_within c.args.regs.now blocks c.args.followed) c.loop-t.marks.items (subst (Marking (length blocks) next tried c.loop-t.marks.items) none c.loop-t.invariant)
