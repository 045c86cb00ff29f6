use Rattle.cell_heap.specs.Numbered.{content_numbered}
use Rattle.std.proofs.Common.{sym, ap, ◌∙◌}
use Rattle.std.specs.Option.{option_map}
use Rattle.cell_heap.specs.Contents.{name_of, word_of, word_named}
use Rattle.cell_heap.specs.Placed.{refill_held}
use Rattle.cell_heap.specs.Words.{with_word}
use Rattle.cell_heap.proofs.OursLemmas.{holds-refill, keeps-refill, with_word-ours}
use Rattle.cell_heap.proofs.NumberedLemmas.{optional_is, numbered-there, numbered-refill, with_word-numbered}
use Rattle.c_runner_deeds.specs.Ours.{maybe_refs}
use Rattle.c_runner_deeds.proofs.CellsLemmas.{number_so, hold_so, keep_so, word_out, word_own, still_so, maybe_some}
use Rattle.c_runner_deeds.proofs.cells.Cells.set_word.Goals as goal

pub invariant_of-self : goal.invariant_of-self
invariant_of-self c =
    hold_so c.set_word.result c.self.inside.heap (refill_held (with_word c.args.place (option_map word_named c.args.word)) (name_of c.args.key) c.self.inside.heap) c.set_word.new.self c.set_word.ensures.ok c.set_word.ensures.dead (holds-refill (with_word c.args.place (option_map word_named c.args.word)) c.self.inside.heap (name_of c.args.key) (with_word-ours c.self.inside.heap c.args.place (option_map word_named c.args.word) (maybe_some c.self.inside.heap c.args.word (rw c.self.view_is c.requires.stored))) c.self.invariant) c.self.invariant

pub returns-clause-there : goal.returns-clause-there
returns-clause-there c =
    rw (← c.self.view_is) (c.set_word.ensures.there ∙ sym (numbered-there c.self.inside.heap (name_of c.args.key) (rw c.self.view_is c.requires.ours)))

pub returns-clause-ok : goal.returns-clause-ok
returns-clause-ok c =
    rw (← c.self.view_is) (number_so c.set_word.result c.self.inside.heap (refill_held (with_word c.args.place (option_map word_named c.args.word)) (name_of c.args.key) c.self.inside.heap) c.set_word.new.self _ c.set_word.ensures.ok (numbered-refill (with_word c.args.place (option_map word_named c.args.word)) (with_word c.args.place (option_map word_of c.args.word)) c.self.inside.heap (name_of c.args.key) (λ x. with_word-numbered c.args.place (option_map word_named c.args.word) x ∙ ap (λ o. with_word c.args.place o (content_numbered x)) (optional_is c.args.word)) (rw c.self.view_is c.requires.ours)))

pub returns-clause-kept : goal.returns-clause-kept
returns-clause-kept c =
    rw (← c.self.view_is) (keep_so c.set_word.result c.self.inside.heap (refill_held (with_word c.args.place (option_map word_named c.args.word)) (name_of c.args.key) c.self.inside.heap) c.set_word.new.self c.set_word.ensures.ok c.set_word.ensures.dead (keeps-refill (with_word c.args.place (option_map word_named c.args.word)) c.self.inside.heap (name_of c.args.key)))

pub returns-clause-old : goal.returns-clause-old
returns-clause-old c =
    rw (← c.self.view_is) (word_out c.self.inside.heap (name_of c.args.key) (rw c.self.view_is c.requires.ours) c.args.place c.set_word.result c.set_word.ensures.old)

pub returns-clause-ours : goal.returns-clause-ours
returns-clause-ours c =
    still_so maybe_refs c.self.inside.heap c.set_word.new.self c.set_word.result (keep_so c.set_word.result c.self.inside.heap (refill_held (with_word c.args.place (option_map word_named c.args.word)) (name_of c.args.key) c.self.inside.heap) c.set_word.new.self c.set_word.ensures.ok c.set_word.ensures.dead (keeps-refill (with_word c.args.place (option_map word_named c.args.word)) c.self.inside.heap (name_of c.args.key))) (word_own c.self.inside.heap (name_of c.args.key) c.self.invariant c.args.place c.set_word.result c.set_word.ensures.old)
