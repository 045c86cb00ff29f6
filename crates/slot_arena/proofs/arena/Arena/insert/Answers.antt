use Rattle.std.proofs.Common.{sym, ap, subst, ◌∙◌, arith}
use Rattle.slot_arena.specs.Serials.{serial_of}
use Rattle.slot_arena.specs.Contents.{KeepsEarlier}
use Rattle.slot_arena.specs.Layout.{IsSound, IsChain}
use Rattle.slot_arena.specs.Slot.{free_link}
use Rattle.slot_arena.proofs.Chains.{IsChain-none, IsChain-within}
use Rattle.slot_arena.proofs.Entries.{length-entries_of}
use Rattle.slot_arena.proofs.KeyLemmas.{serial_of-key_with}
use Rattle.slot_arena.proofs.Sound.{IsSound-push, IsSound-fill}
use Rattle.slot_arena.proofs.Changes.{contents_of-push, contents_of-fill}
use Rattle.slot_arena.proofs.ContentsLemmas.{KeepsEarlier-inserted}
use Rattle.slot_arena.proofs.arena.Arena.insert.Goals as goal

pub overflow_add-self : goal.overflow_add-self
overflow_add-self g c =
    let below = rw (← c.self.view_is) at c.requires.serials in
    omega (arith, length-entries_of c.self.inside.slots.slots c.self.inside.inserts)

pub invariant_of-self : goal.invariant_of-self
invariant_of-self g c =
    let room = rw (← c.self.view_is) at c.requires.room in
    let none = IsChain-none free_link _ _ (subst (IsChain free_link c.self.inside.slots.slots c.self.inside.freed) c.in_default.is c.self.invariant.freed_linked) in
    rw (c.push.ensures.slots, c.push.ensures.capacity) (IsSound-push _ _ _ _ _ _ c.args.value (omega arith) c.self.invariant)

pub returns-in_default-clause-serial : goal.returns-in_default-clause-serial
returns-in_default-clause-serial g c =
    rw (← c.self.view_is) (ap serial_of c.new.ensures ∙ serial_of-key_with c.len-slot.result c.self.inside.inserts ∙ sym (length-entries_of c.self.inside.slots.slots c.self.inside.inserts))

pub returns-in_default-clause-stored : goal.returns-in_default-clause-stored
returns-in_default-clause-stored g c =
    let room = rw (← c.self.view_is) at c.requires.room in
    let none = IsChain-none free_link _ _ (subst (IsChain free_link c.self.inside.slots.slots c.self.inside.freed) c.in_default.is c.self.invariant.freed_linked) in
    rw (← c.self.view_is, c.new.ensures, c.len-slot.ensures, c.push.ensures.slots, c.push.ensures.capacity) (contents_of-push _ _ _ _ _ _ c.args.value (omega arith) c.self.invariant)

pub replace-requires : goal.replace-requires
replace-requires g c =
    IsChain-within free_link _ _ _ (subst (IsChain free_link c.self.inside.slots.slots c.self.inside.freed) c.in-Some.is c.self.invariant.freed_linked)

pub invariant_of-self-2 : goal.invariant_of-self-2
invariant_of-self-2 g c =
    let sound = subst (λ free. IsSound c.self.inside.slots.slots c.self.inside.slots.capacity free c.self.inside.freed c.self.inside.condemned c.self.inside.inserts) c.in-Some.is c.self.invariant in
    rw c.replace.ensures.slots (IsSound-fill _ _ _ _ _ _ _ c.args.value c.in-Free.ensures.was sound)

pub returns-clause-serial : goal.returns-clause-serial
returns-clause-serial g c =
    rw (← c.self.view_is) (ap serial_of c.new-2.ensures ∙ serial_of-key_with c.in-Some.slot c.self.inside.inserts ∙ sym (length-entries_of c.self.inside.slots.slots c.self.inside.inserts))

pub returns-clause-stored : goal.returns-clause-stored
returns-clause-stored g c =
    let sound = subst (λ free. IsSound c.self.inside.slots.slots c.self.inside.slots.capacity free c.self.inside.freed c.self.inside.condemned c.self.inside.inserts) c.in-Some.is c.self.invariant in
    rw (← c.self.view_is, c.new-2.ensures, c.replace.ensures.slots) (contents_of-fill _ _ _ _ _ _ _ c.args.value c.in-Free.ensures.was sound)

pub returns-in_default-clause-earlier : goal.returns-in_default-clause-earlier
returns-in_default-clause-earlier g c =
    subst (KeepsEarlier c.args.self.now) (sym (returns-in_default-clause-stored g c)) (KeepsEarlier-inserted c.args.self.now c.new.result c.args.value)

pub returns-clause-earlier : goal.returns-clause-earlier
returns-clause-earlier g c =
    subst (KeepsEarlier c.args.self.now) (sym (returns-clause-stored g c)) (KeepsEarlier-inserted c.args.self.now c.new-2.result c.args.value)
