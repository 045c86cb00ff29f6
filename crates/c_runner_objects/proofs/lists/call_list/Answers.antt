use Rattle.std.proofs.Common.{sym, subst}
use Rattle.c_core.specs.declared.primitive.Primitive.TheVariants.{List}
use Rattle.c_core.specs.declared.primitive.ListPrim.TheVariants as list
use Rattle.c_runner_deeds.specs.Deeds.{MayMake}
use Rattle.c_runner_deeds.specs.States.{state_of, seen}
use Rattle.c_runner_deeds.proofs.DeedLemmas.{does_deed, list_called}
use Rattle.c_runner_objects.proofs.ListLemmas.{calls_quietly}
use Rattle.c_runner_objects.proofs.lists.call_list.Goals as goal

pub returns-in-New : goal.returns-in-New
returns-in-New c =
    subst (λ o. MayMake (List o) c.args.target c.args.args.now (seen c.args.state.now) (seen c.new_list.new.state) c.new_list.result) (sym c.in-New.is)
    c.new_list.ensures

pub returns-in-Append : goal.returns-in-Append
returns-in-Append c =
    subst (λ o. MayMake (List o) c.args.target c.args.args.now (seen c.args.state.now) (seen c.append.new.state) c.append.result) (sym c.in-Append.is)
    (calls_quietly (List list.Append) c.args.target c.args.args.now (seen c.args.state.now) (seen c.append.new.state) c.append.result c.append.ensures)

pub returns-in-SetItem : goal.returns-in-SetItem
returns-in-SetItem c =
    subst (λ o. MayMake (List o) c.args.target c.args.args.now (seen c.args.state.now) (seen c.set_item.new.state) c.set_item.result) (sym c.in-SetItem.is)
    (calls_quietly (List list.SetItem) c.args.target c.args.args.now (seen c.args.state.now) (seen c.set_item.new.state) c.set_item.result c.set_item.ensures)

pub returns-in-Pop : goal.returns-in-Pop
returns-in-Pop c =
    subst (λ o. MayMake (List o) c.args.target c.args.args.now (seen c.args.state.now) (seen c.pop.new.state) c.pop.result) (sym c.in-Pop.is)
    (calls_quietly (List list.Pop) c.args.target c.args.args.now (seen c.args.state.now) (seen c.pop.new.state) c.pop.result c.pop.ensures)

pub returns-in_ok-deed-in_default : goal.returns-in_ok-deed-in_default
returns-in_ok-deed-in_default c =
    calls_quietly (List c.args.operation) c.args.target c.args.args.now (seen c.args.state.now) (seen c.perform_deed.new.self) c.perform_deed.result
    (does_deed (List c.args.operation) c.args.target c.args.args.now (seen c.args.state.now) (seen c.perform_deed.new.self) c.perform_deed.result c.in_ok-deed-in_default.deed _
    (λ code rest. list_called (state_of rest (seen c.args.state.now)) c.args.target code c.args.args.now c.args.operation c.in_default.not-New c.in_default.not-Append c.in_default.not-SetItem c.in_default.not-Pop) c.in_ok-deed-in_default.ensures.done c.perform_deed.ensures)
