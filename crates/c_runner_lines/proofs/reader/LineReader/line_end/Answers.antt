use Rattle.std.proofs.Common.{sym, ◌∙◌, ap, length}
use Rattle.c_runner_lines.proofs.HeldLemmas.{slice_from, sound_at, sound_all, searched_at, searched_all}
use Rattle.c_runner_lines.proofs.reader.LineReader.line_end.Goals as goal

pub invariant_of-self : goal.invariant_of-self
invariant_of-self c =
    sound_at c.self.inside.bytes.items c.self.inside.start c.self.inside.searched c.self.inside.before c.self.invariant c.in-Some.more
    (rw (slice_from c.deref.result.now c.self.inside.bytes.items c.self.inside.searched c.deref.ensures.value) at c.in-Some.ensures)

pub invariant_of-self-in-None : goal.invariant_of-self-in-None
invariant_of-self-in-None c =
    sound_all c.self.inside.bytes.items c.self.inside.start c.self.inside.searched c.self.inside.before c.self.invariant
    (rw (slice_from c.deref.result.now c.self.inside.bytes.items c.self.inside.searched c.deref.ensures.value) at c.in-None.ensures)
    c.len-self-inside.result (c.len-self-inside.ensures ∙ sym c.deref.ensures.len ∙ ap length c.deref.ensures.value)

pub returns-in-Some-clause-searched : goal.returns-in-Some-clause-searched
returns-in-Some-clause-searched c =
    rw (← c.self.view_is) (searched_at c.self.inside.bytes.items c.self.inside.start c.self.inside.searched c.self.inside.before c.self.invariant c.self.inside.ended c.in-Some.more
    (rw (slice_from c.deref.result.now c.self.inside.bytes.items c.self.inside.searched c.deref.ensures.value) at c.in-Some.ensures))

pub returns-in-None-clause-searched : goal.returns-in-None-clause-searched
returns-in-None-clause-searched c =
    rw (← c.self.view_is) (searched_all c.self.inside.bytes.items c.self.inside.start c.self.inside.searched c.self.inside.before c.self.invariant c.self.inside.ended
    (rw (slice_from c.deref.result.now c.self.inside.bytes.items c.self.inside.searched c.deref.ensures.value) at c.in-None.ensures))
