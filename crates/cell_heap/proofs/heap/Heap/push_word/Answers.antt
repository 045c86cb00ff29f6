use Rattle.std.proofs.Common.{refl, sym, ap}
use Rattle.std.specs.Option.{is_none}
use Rattle.std.proofs.lemmas.Result.{err_from_is_err_and}
use Rattle.cell_heap.specs.declared.cells.CountedCell.{CountedCell}
use Rattle.cell_heap.specs.Contents.{word_named}
use Rattle.cell_heap.specs.Words.{with_last}
use Rattle.cell_heap.proofs.HeldLemmas.{held_found, held_lost}
use Rattle.cell_heap.proofs.MarkLemmas.{has_kept}
use Rattle.cell_heap.proofs.KeptLemmas.{same_key_in, with_last-key, kept_written}
use Rattle.cell_heap.proofs.ChangeLemmas.{put_writes, put_same}
use Rattle.cell_heap.proofs.heap.Heap.push_word.Goals as goal

pub returns-in_default-clause-there : goal.returns-in_default-clause-there
returns-in_default-clause-there c =
    rw (← c.self.view_is) (sym (ap is_none (held_lost c.self.inside.cells c.args.key c.lookup_mut.ensures.named c.in_default.ensures.cell)))

pub returns-in_err-push_word-clause-there : goal.returns-in_err-push_word-clause-there
returns-in_err-push_word-clause-there c =
    let failed = err_from_is_err_and c.from_residual.result c.from_residual.ensures.1 in
    rw (failed.1, failed.2, ← c.self.view_is) (sym (ap is_none (held_found c.self.inside.cells c.args.key c.in-Some.cell.now c.lookup_mut.ensures.named c.in-Some.ensures.cell)))

pub returns-in_err-push_word-clause-err : goal.returns-in_err-push_word-clause-err
returns-in_err-push_word-clause-err c =
    let failed = err_from_is_err_and c.from_residual.result c.from_residual.ensures.1 in
    let new : CountedCell = record { count = c.in-Some.cell.now.count; content = c.push_word.new.self } in
    rw (failed.1, ← c.self.view_is) (put_same c.self.inside.cells c.args.key c.in-Some.cell.now new c.lookup_mut.ensures.named c.in-Some.ensures.cell refl c.in_err-push_word.ensures.err)

pub invariant_of-self-in_err-push_word : goal.invariant_of-self-in_err-push_word
invariant_of-self-in_err-push_word c =
    let new : CountedCell = record { count = c.in-Some.cell.now.count; content = c.push_word.new.self } in
    kept_written (λ x. x) c.self.inside.cells c.args.key c.in-Some.cell.now new same_key_in c.lookup_mut.ensures.named c.in-Some.ensures.cell refl c.in_err-push_word.ensures.err (λ after narrows. has_kept after c.in-Some.cell.now.content c.push_word.new.self c.push_word.ensures.keys) c.self.invariant

pub returns-clause-there : goal.returns-clause-there
returns-clause-there c =
    rw (← c.self.view_is) (sym (ap is_none (held_found c.self.inside.cells c.args.key c.in-Some.cell.now c.lookup_mut.ensures.named c.in-Some.ensures.cell)))

pub returns-clause-ok : goal.returns-clause-ok
returns-clause-ok c =
    let new : CountedCell = record { count = c.in-Some.cell.now.count; content = c.push_word.new.self } in
    rw (← c.self.view_is) (put_writes (with_last (word_named c.args.word)) c.self.inside.cells c.args.key c.in-Some.cell.now new c.lookup_mut.ensures.named c.in-Some.ensures.cell refl c.in_ok-push_word.ensures.ok)

pub invariant_of-self-2 : goal.invariant_of-self-2
invariant_of-self-2 c =
    let new : CountedCell = record { count = c.in-Some.cell.now.count; content = c.push_word.new.self } in
    kept_written (with_last (word_named c.args.word)) c.self.inside.cells c.args.key c.in-Some.cell.now new (with_last-key (word_named c.args.word)) c.lookup_mut.ensures.named c.in-Some.ensures.cell refl c.in_ok-push_word.ensures.ok (λ after narrows. has_kept after c.in-Some.cell.now.content c.push_word.new.self c.push_word.ensures.keys) c.self.invariant
