use Rattle.std.specs.Prelude.{map, slice_get}
use Rattle.std.proofs.Common.{true, ℕ, List}
use Rattle.c_core.specs.Machine as machine
use Rattle.c_core.specs.declared.primitive.Primitive.TheVariants as prim
use Rattle.c_core.specs.declared.primitive.ListPrim.TheVariants as list
use Rattle.c_core.specs.Step.{primitive_step}
use Rattle.c_runner_objects.specs.Lists.{item_taken}
use Rattle.c_runner_deeds.specs.States.{state_of, seen}
use Rattle.cell_heap.specs.Contents.{number_of, word_of}
use Rattle.c_runner_deeds.proofs.ExceptionLemmas.{follows_for}
use Rattle.c_runner_objects.proofs.ListLemmas.{pop_refused, pop_is, only_list, holds_list}
use Rattle.c_runner_objects.proofs.lists.pop.Goals as goal

pub returns-in-Err : goal.returns-in-Err
returns-in-Err c =
    λ code rest. pop_refused (state_of rest (seen c.args.state.now)) code c.args.target c.args.args.now c.in-Err.fault c.in-Err.ensures.found

pub returns : goal.returns
returns c =
    follows_for
    (item_taken c.args.target c.in-Ok.found.0)
    (λ code s. primitive_step true s code c.args.target c.args.args.now (prim.List list.Pop))
    (seen c.args.state.now) (seen c.take_item.new.state) c.take_item.result
    (λ code rest. pop_is (state_of rest (seen c.args.state.now)) code c.args.target c.args.args.now c.in-Ok.found.0 (map word_of c.in-Ok.found.1.now) c.in-Ok.ensures.found)
    c.take_item.ensures

pub take_item-requires-clause-list : goal.take_item-requires-clause-list
take_item-requires-clause-list c =
    let vars = map word_of c.args.state.now.top.vars in
    let listed : ℕ × List machine.Word = (number_of c.in-Ok.found.0, map word_of c.in-Ok.found.1.now) in
    holds_list (seen c.args.state.now).cells vars (slice_get c.args.args.now 0) listed (only_list (seen c.args.state.now).cells vars c.args.args.now listed c.in-Ok.ensures.found)
