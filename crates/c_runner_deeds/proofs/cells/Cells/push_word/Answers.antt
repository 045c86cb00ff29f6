use Rattle.cell_heap.specs.Numbered.{content_numbered}
use Rattle.std.proofs.Common.{◌≡◌, true, IfSome, ap, ◌∙◌, subst}
use Rattle.cell_heap.specs.Contents.{name_of, word_of, word_named}
use Rattle.cell_heap.specs.Placed.{held_at, refill_held}
use Rattle.cell_heap.specs.Words.{with_last, is_dead, is_list}
use Rattle.cell_heap.proofs.OursLemmas.{holds-refill, keeps-refill, with_last-ours}
use Rattle.cell_heap.proofs.NumberedLemmas.{word_is, numbered-content, numbered-refill, with_last-numbered, is_list-numbered}
use Rattle.c_runner_deeds.proofs.CellsLemmas.{number_so, hold_so, keep_so, kind_held, dead_out}
use Rattle.c_runner_deeds.proofs.cells.Cells.push_word.Goals as goal

pub invariant_of-self : goal.invariant_of-self
invariant_of-self c =
    hold_so c.push_word.result c.self.inside.heap (refill_held (with_last (word_named c.args.word)) (name_of c.args.key) c.self.inside.heap) c.push_word.new.self c.push_word.ensures.ok c.push_word.ensures.err (holds-refill (with_last (word_named c.args.word)) c.self.inside.heap (name_of c.args.key) (with_last-ours c.self.inside.heap (word_named c.args.word) (rw c.self.view_is c.requires.stored)) c.self.invariant) c.self.invariant

pub returns-clause-there : goal.returns-clause-there
returns-clause-there c =
    rw (← c.self.view_is) (dead_out c.self.inside.heap (name_of c.args.key) (rw c.self.view_is c.requires.ours) (is_dead c.push_word.result) c.push_word.ensures.there)

pub returns-clause-ok : goal.returns-clause-ok
returns-clause-ok c =
    rw (← c.self.view_is) (number_so c.push_word.result c.self.inside.heap (refill_held (with_last (word_named c.args.word)) (name_of c.args.key) c.self.inside.heap) c.push_word.new.self _ c.push_word.ensures.ok (numbered-refill (with_last (word_named c.args.word)) (with_last (word_of c.args.word)) c.self.inside.heap (name_of c.args.key) (λ x. with_last-numbered (word_named c.args.word) x ∙ ap (λ w. with_last w (content_numbered x)) (word_is c.args.word)) (rw c.self.view_is c.requires.ours)))

pub returns-clause-kept : goal.returns-clause-kept
returns-clause-kept c =
    rw (← c.self.view_is) (keep_so c.push_word.result c.self.inside.heap (refill_held (with_last (word_named c.args.word)) (name_of c.args.key) c.self.inside.heap) c.push_word.new.self c.push_word.ensures.ok c.push_word.ensures.err (keeps-refill (with_last (word_named c.args.word)) c.self.inside.heap (name_of c.args.key)))

pub push_word-requires : goal.push_word-requires
push_word-requires c =
    kind_held is_list is_list-numbered (held_at c.self.inside.heap (name_of c.args.key)) (subst (λ o. IfSome o (λ x. is_list x ≡ true)) (numbered-content c.self.inside.heap (name_of c.args.key) (rw c.self.view_is c.requires.ours)) (rw c.self.view_is c.requires.list))
