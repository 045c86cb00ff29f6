use Rattle.std.proofs.Common.{◌≡◌, ◌≤◌, ◌∙◌, ◌+◌, ◌∷◌, ◌++◌, [], length, drop, refl, sym, ap, arith}
use Rattle.std.specs.Prelude.{slice_get}
use Rattle.std.proofs.lemmas.Option.{slice_get_read}
use Rattle.ir_core.specs.Items.{item_in}
use Rattle.ir_core.specs.Missing.{ahead}
use Rattle.liveness.specs.declared.step.Steps.{Steps}
use Rattle.liveness.specs.Steps.{step_over}
use Rattle.liveness.specs.Apart.{begin, choice}
use Rattle.liveness.proofs.ApartLemmas.{kept_from, places_more, places_done}
use Rattle.liveness.proofs.apart.push_places.Goals as goal

pub loop-i-preserved : goal.loop-i-preserved
loop-i-preserved c =
    let at = item_in c.args.f.now.blocks in
    let regs = c.args.f.now.regs in
    let to = begin c.args.layout.now in
    let h = c.args.handler in
    let ops = c.args.block.now.ops in
    let last = c.args.block.now.last in
    let old = c.args.pieces.now.items in
    let before = c.loop-i.pieces.items in
    let i = c.loop-i.i in
    let x = c.index-ops-i.result in
    let leaves = c.is_caught-leaves.result in
    let there = sym (ap (λ z. slice_get z i) c.as_slice-ops.ensures) ∙ slice_get_read c.as_slice-ops.result.now (length c.as_slice-ops.result.now) i x refl c.loop-i-test.true c.index-ops-i.is in
    let number : c.len-in-loop-i.result ≡ length before = omega (arith, c.len-in-loop-i.ensures) in
    let end : c.choice-last.result ≡ choice leaves (length regs) (to h) (length before + 1) =
    c.choice-last.ensures
    ∙ ap (λ z. choice leaves z c.entry.result (c.len-in-loop-i.result + 1)) c.len.ensures
    ∙ ap (λ z. choice leaves (length regs) z (c.len-in-loop-i.result + 1)) c.entry.ensures
    ∙ ap (λ z. choice leaves (length regs) (to h) (z + 1)) number in
    let piece : Steps = record { steps = c.in_ok-steps.steps; last = c.choice-last.result } in
    let is : piece ≡ record { steps = step_over x.0 ∷ []; last = choice leaves (length regs) (to h) (length before + 1) } =
    ap (λ z. record { steps = z; last = c.choice-last.result }) c.in_ok-steps.ensures ∙ ap (λ z. record { steps = step_over x.0 ∷ []; last = z }) end in
    places_more at regs to h i ops last x c.end_behind.result leaves piece before c.push.new.self.items (old ++ kept_from at regs to h (length old) ops last) there (c.end_behind.ensures ∙ ap (λ z. ahead (drop (i + 1) z) last) c.as_slice-ops.ensures) c.is_caught-leaves.ensures is c.in_ok-push.ensures.items c.loop-i.invariant

pub returns : goal.returns
returns c =
    let at = item_in c.args.f.now.blocks in
    let regs = c.args.f.now.regs in
    let to = begin c.args.layout.now in
    let h = c.args.handler in
    let ops = c.args.block.now.ops in
    let last = c.args.block.now.last in
    let old = c.args.pieces.now.items in
    let before = c.loop-i.pieces.items in
    let le : length ops ≤ c.loop-i.i = omega (arith, c.loop-i-test.false, ap length c.as_slice-ops.ensures) in
    c.in_ok-push-2.ensures.items
    ∙ ap (λ z. before ++ record { steps = z; last = c.moved.result } ∷ []) c.new.ensures
    ∙ ap (λ z. before ++ record { steps = []; last = z } ∷ []) c.moved.ensures
    ∙ places_done at regs to h c.loop-i.i ops last before (old ++ kept_from at regs to h (length old) ops last) le c.loop-i.invariant
