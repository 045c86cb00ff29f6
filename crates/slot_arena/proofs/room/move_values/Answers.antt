use Rattle.std.proofs.Common.{None, Some, true≢false, ◌≡◌, IsSome, length, slice_get, set, refl, sym, ap, subst, ◌∙◌, arith}
use Rattle.std.proofs.lemmas.Option.{same_Some}
use Rattle.slot_arena.specs.Laid.{values_in}
use Rattle.slot_arena.proofs.Laid.{emptied, moves, moves_out, moved_all}
use Rattle.slot_arena.proofs.room.move_values.Goals as goal

pub replace-value-requires : goal.replace-value-requires
replace-value-requires g c =
    let at = moves c.args.from.now.places (length c.args.to.now.places) c.loop-place.place c.requires.lie (omega (arith, c.requires.counted)) (omega (arith, c.requires.counted, c.requires.room)) in
    (Some at.0, rw c.loop-place.invariant.0 at.1, (λ t. absurd (true≢false (sym t)), λ t. sym t))

pub replace-requires : goal.replace-requires
replace-requires g c =
    let at = moves c.args.from.now.places (length c.args.to.now.places) c.loop-place.place c.requires.lie (omega (arith, c.requires.counted)) (omega (arith, c.requires.counted, c.requires.room)) in
    let was : c.replace-value.result ≡ Some at.0 = same_Some _ _ (sym c.replace-value.ensures.was ∙ ap (λ p. slice_get p c.loop-place.place) c.loop-place.invariant.0 ∙ at.1) in
    (None, rw c.loop-place.invariant.3 at.2, (λ t. refl, λ t. subst IsSome (sym was) refl))

pub unreachable-requires : goal.unreachable-requires
unreachable-requires g c =
    let at = moves c.args.from.now.places (length c.args.to.now.places) c.loop-place.place c.requires.lie (omega (arith, c.requires.counted)) (omega (arith, c.requires.counted, c.requires.room)) in
    let was : slice_get c.loop-place.to.places c.loop-place.place ≡ Some (Some c.in-Some.field-0) = c.in-Some.ensures.was in
    let none : None ≡ Some c.in-Some.field-0 = same_Some None (Some c.in-Some.field-0) (sym at.2 ∙ ap (λ p. slice_get p c.loop-place.place) (sym c.loop-place.invariant.3) ∙ was) in
    cc

pub loop-place-preserved : goal.loop-place-preserved
loop-place-preserved g c =
    let i = c.loop-place.place in
    let at = moves c.args.from.now.places (length c.args.to.now.places) i c.requires.lie (omega (arith, c.requires.counted)) (omega (arith, c.requires.counted, c.requires.room)) in
    let out = moves_out c.args.from.now.places (length c.args.to.now.places) i c.requires.lie (omega (arith, c.requires.counted)) (omega (arith, c.requires.counted, c.requires.room)) in
    let was : c.replace-value.result ≡ Some at.0 = same_Some _ _ (sym c.replace-value.ensures.was ∙ ap (λ p. slice_get p i) c.loop-place.invariant.0 ∙ at.1) in (
      c.replace-value.ensures.places ∙ ap (λ p. set p i None) c.loop-place.invariant.0 ∙ out,
      c.replace-value.ensures.at ∙ c.loop-place.invariant.1,
      c.replace.ensures.at ∙ c.loop-place.invariant.2,
      c.replace.ensures.places ∙ (λ j. set (c.loop-place.invariant.3 j) i (was j)) ∙ at.3,
    )

pub returns-clause-emptied : goal.returns-clause-emptied
returns-clause-emptied g c =
    let all : c.loop-place.place ≡ length (values_in c.args.from.now.places) = omega (arith, c.requires.counted) in
    c.loop-place.invariant.0 ∙ ap (λ k. emptied k c.args.from.now.places) all ∙ moved_all c.args.from.now.places c.requires.lie
