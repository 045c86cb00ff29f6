use Rattle.std.proofs.Common.{◌≡◌, ◌≤◌, ◌∙◌, ◌∷◌, ◌++◌, [], length, map, refl, sym, ap, arith}
use Rattle.std.specs.Prelude.{slice_get}
use Rattle.std.proofs.lemmas.Option.{slice_get_read}
use Rattle.ir_core.specs.Items.{item_in}
use Rattle.liveness.specs.Steps.{step_of, steps_of}
use Rattle.liveness.specs.Apart.{begin, pieces_with}
use Rattle.liveness.proofs.ApartLemmas.{kept_of, pieces_more, pieces_done}
use Rattle.liveness.proofs.apart.kept_pieces.Goals as goal
use Rattle.liveness.proofs.apart.kept_pieces.Goals.{in-Some+in_ok-push_places-in-Some, in-None+in_ok-kept_steps-in-None+in_ok-push-in-None}

pub loop-block-preserved : goal.loop-block-preserved
loop-block-preserved c =
    let at = item_in c.args.f.now.blocks in
    let regs = c.args.f.now.regs in
    let to = begin c.args.layout.now in
    let i = c.loop-block.block-index in
    let k = c.block-item.result in
    let before = c.loop-block.pieces.items in
    let there = sym (ap (λ z. slice_get z i) c.as_slice-block-items.ensures) ∙ slice_get_read c.as_slice-block-items.result.now (length c.as_slice-block-items.result.now) i k refl c.loop-block-test.true c.block-item.is in
    let pushed : c.match-block.pieces.items ≡ before ++ map steps_of (pieces_with at regs to k.handler (length before) k.ops k.last) = elim c.match-block.branch [
      | in-Some+in_ok-push_places-in-Some w ↦
          ap (λ z. z.items) w.pieces-is ∙ w.in_ok-push_places-in-Some.ensures ∙ ap (λ z. before ++ map steps_of (pieces_with at regs to z (length before) k.ops k.last)) (sym w.in-Some.is)
      | in-None+in_ok-kept_steps-in-None+in_ok-push-in-None w ↦
          ap (λ z. z.items) w.pieces-is
          ∙ w.in_ok-push-in-None.ensures.items
          ∙ ap (λ z. before ++ record { steps = z; last = w.moved.result } ∷ []) (w.in_ok-kept_steps-in-None.ensures ∙ ap (map step_of) w.as_slice.ensures)
          ∙ ap (λ z. before ++ record { steps = map step_of k.ops; last = z } ∷ []) w.moved.ensures
          ∙ ap (λ z. before ++ map steps_of (pieces_with at regs to z (length before) k.ops k.last)) (sym w.in-None.is)
    ] in
    pieces_more at regs to i c.args.f.now.blocks k before c.match-block.pieces.items (kept_of at regs to 0 c.args.f.now.blocks) there pushed c.loop-block.invariant

pub returns : goal.returns
returns c =
    let le : length c.args.f.now.blocks ≤ c.loop-block.block-index = omega (arith, c.loop-block-test.false, ap length c.as_slice-block-items.ensures) in
    c.from_vec.ensures ∙ pieces_done (item_in c.args.f.now.blocks) c.args.f.now.regs (begin c.args.layout.now) c.loop-block.block-index c.args.f.now.blocks c.loop-block.pieces.items (kept_of (item_in c.args.f.now.blocks) c.args.f.now.regs (begin c.args.layout.now) 0 c.args.f.now.blocks) le c.loop-block.invariant
