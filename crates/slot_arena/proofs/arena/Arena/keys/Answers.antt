use Rattle.std.proofs.Common.{◌≡◌, None, Some, [], ◌∷◌, ◌++◌, IsPermutation, length, rules, sym, ap, subst, ◌∙◌, arith}
use Rattle.std.proofs.lemmas.List.{take_at, append-nil}
use Rattle.std.proofs.lemmas.List.Sorted.{IsNonDecreasingBy-from_sort_by_key}
use Rattle.slot_arena.specs.Serials.{serial_of}
use Rattle.slot_arena.proofs.Keys.{live_keys_more, live_keys_all, keys_of_sorted}
use Rattle.slot_arena.proofs.arena.Arena.keys.Goals as goal
use Rattle.slot_arena.proofs.arena.Arena.keys.Goals.{in-Some+in_ok-push, in_default}

pub loop-slot-preserved : goal.loop-slot-preserved
loop-slot-preserved g c =
    let slots = c.self.inside.slots.slots in
    let keys = c.loop-slot.keys.items in
    elim c.match-live_serial.branch [
      | in-Some+in_ok-push w ↦
          live_keys_more keys _ slots c.loop-slot.slot c.at.result.now (Some w.in-Some.serial) c.at.ensures (sym w.in-Some.is ∙ c.live_serial.ensures)
          (ap (λ v. v.items) w.keys-is ∙ w.in_ok-push.ensures.items ∙ ap (λ key. keys ++ key ∷ []) w.new.ensures) c.loop-slot.invariant
      | in_default w ↦
          live_keys_more keys _ slots c.loop-slot.slot c.at.result.now None c.at.ensures (sym w.in_default.is ∙ c.live_serial.ensures)
          (ap (λ v. v.items) w.keys-is ∙ sym (append-nil keys)) c.loop-slot.invariant
    ]

pub returns : goal.returns
returns g c =
    let sorted = c.sort_unstable_by_key.new.self in
    let found = live_keys_all c.loop-slot.keys.items c.self.inside.slots.slots c.loop-slot.slot (omega arith) c.loop-slot.invariant in
    let moved = subst (λ keys. IsPermutation keys sorted) (c.as_mut_slice.ensures.value ∙ found) c.sort_unstable_by_key.ensures.permutation in
    let up = IsNonDecreasingBy-from_sort_by_key serial_of sorted c.sort_unstable_by_key.ensures.sorted (λ a r q k. search rules) in
    let long : length sorted ≡ c.loop-slot.keys.len = omega arith in
    rw (← c.self.view_is) (c.from_vec.ensures ∙ take_at sorted _ c.loop-slot.keys.len long ∙ keys_of_sorted c.self.inside.slots.slots c.self.inside.inserts sorted c.self.invariant.apart c.self.invariant.numbered moved up)
