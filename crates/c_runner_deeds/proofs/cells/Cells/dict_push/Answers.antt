use Rattle.cell_heap.specs.Numbered.{content_numbered}
use Rattle.std.proofs.Common.{◌≡◌, true, IfSome, ap, ◌∙◌, subst}
use Rattle.cell_heap.specs.Contents.{name_of, pair_of, pair_named}
use Rattle.cell_heap.specs.Pairs.{with_pair, is_dict}
use Rattle.cell_heap.specs.Placed.{held_at, refill_held}
use Rattle.cell_heap.specs.Words.{is_dead}
use Rattle.cell_heap.proofs.OursLemmas.{holds-refill, keeps-refill, with_pair-ours}
use Rattle.cell_heap.proofs.NumberedLemmas.{pair_is, numbered-content, numbered-refill, with_pair-numbered, is_dict-numbered}
use Rattle.c_runner_deeds.proofs.CellsLemmas.{number_so, hold_so, keep_so, kind_held, dead_out}
use Rattle.c_runner_deeds.proofs.cells.Cells.dict_push.Goals as goal

pub invariant_of-self : goal.invariant_of-self
invariant_of-self c =
    hold_so c.dict_push.result c.self.inside.heap (refill_held (with_pair (pair_named c.args.pair)) (name_of c.args.dict) c.self.inside.heap) c.dict_push.new.self c.dict_push.ensures.ok c.dict_push.ensures.err (holds-refill (with_pair (pair_named c.args.pair)) c.self.inside.heap (name_of c.args.dict) (with_pair-ours c.self.inside.heap (pair_named c.args.pair) (rw c.self.view_is c.requires.key) (rw c.self.view_is c.requires.value)) c.self.invariant) c.self.invariant

pub returns-clause-there : goal.returns-clause-there
returns-clause-there c =
    rw (← c.self.view_is) (dead_out c.self.inside.heap (name_of c.args.dict) (rw c.self.view_is c.requires.ours) (is_dead c.dict_push.result) c.dict_push.ensures.there)

pub returns-clause-ok : goal.returns-clause-ok
returns-clause-ok c =
    rw (← c.self.view_is) (number_so c.dict_push.result c.self.inside.heap (refill_held (with_pair (pair_named c.args.pair)) (name_of c.args.dict) c.self.inside.heap) c.dict_push.new.self _ c.dict_push.ensures.ok (numbered-refill (with_pair (pair_named c.args.pair)) (with_pair (pair_of c.args.pair)) c.self.inside.heap (name_of c.args.dict) (λ x. with_pair-numbered (pair_named c.args.pair) x ∙ ap (λ p. with_pair p (content_numbered x)) (pair_is c.args.pair)) (rw c.self.view_is c.requires.ours)))

pub returns-clause-kept : goal.returns-clause-kept
returns-clause-kept c =
    rw (← c.self.view_is) (keep_so c.dict_push.result c.self.inside.heap (refill_held (with_pair (pair_named c.args.pair)) (name_of c.args.dict) c.self.inside.heap) c.dict_push.new.self c.dict_push.ensures.ok c.dict_push.ensures.err (keeps-refill (with_pair (pair_named c.args.pair)) c.self.inside.heap (name_of c.args.dict)))

pub dict_push-requires : goal.dict_push-requires
dict_push-requires c =
    kind_held is_dict is_dict-numbered (held_at c.self.inside.heap (name_of c.args.dict)) (subst (λ o. IfSome o (λ x. is_dict x ≡ true)) (numbered-content c.self.inside.heap (name_of c.args.dict) (rw c.self.view_is c.requires.ours)) (rw c.self.view_is c.requires.dict))
