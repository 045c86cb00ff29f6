use Rattle.std.proofs.Common.{sym, subst}
use Rattle.c_core.specs.declared.primitive.Primitive.TheVariants.{Dict}
use Rattle.c_core.specs.declared.primitive.DictPrim.TheVariants as dict
use Rattle.c_runner_deeds.specs.Deeds.{MayMake}
use Rattle.c_runner_deeds.specs.States.{state_of, seen}
use Rattle.c_runner_deeds.proofs.DeedLemmas.{does_deed, dict_called}
use Rattle.c_runner_objects.proofs.ListLemmas.{calls_quietly}
use Rattle.c_runner_objects.proofs.dicts.call_dict.Goals as goal

pub returns-in-New : goal.returns-in-New
returns-in-New c =
    subst (λ o. MayMake (Dict o) c.args.target c.args.args.now (seen c.args.state.now) (seen c.new_dict.new.state) c.new_dict.result) (sym c.in-New.is)
    c.new_dict.ensures

pub returns-in-SetItem : goal.returns-in-SetItem
returns-in-SetItem c =
    subst (λ o. MayMake (Dict o) c.args.target c.args.args.now (seen c.args.state.now) (seen c.set_entry.new.state) c.set_entry.result) (sym c.in-SetItem.is)
    (calls_quietly (Dict dict.SetItem) c.args.target c.args.args.now (seen c.args.state.now) (seen c.set_entry.new.state) c.set_entry.result c.set_entry.ensures)

pub returns-in-DelItem : goal.returns-in-DelItem
returns-in-DelItem c =
    subst (λ o. MayMake (Dict o) c.args.target c.args.args.now (seen c.args.state.now) (seen c.delete_entry.new.state) c.delete_entry.result) (sym c.in-DelItem.is)
    (calls_quietly (Dict dict.DelItem) c.args.target c.args.args.now (seen c.args.state.now) (seen c.delete_entry.new.state) c.delete_entry.result c.delete_entry.ensures)

pub returns-in_ok-deed-in_default : goal.returns-in_ok-deed-in_default
returns-in_ok-deed-in_default c =
    calls_quietly (Dict c.args.operation) c.args.target c.args.args.now (seen c.args.state.now) (seen c.perform_deed.new.self) c.perform_deed.result
    (does_deed (Dict c.args.operation) c.args.target c.args.args.now (seen c.args.state.now) (seen c.perform_deed.new.self) c.perform_deed.result c.in_ok-deed-in_default.deed _
    (λ code rest. dict_called (state_of rest (seen c.args.state.now)) c.args.target code c.args.args.now c.args.operation c.in_default.not-New c.in_default.not-SetItem c.in_default.not-DelItem) c.in_ok-deed-in_default.ensures.done c.perform_deed.ensures)
