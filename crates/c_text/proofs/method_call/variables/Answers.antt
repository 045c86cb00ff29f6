use Rattle.std.proofs.Common.{◌∙◌, [], ap, refl, sym}
use Rattle.std.specs.List.{list_all}
use Rattle.c_core.specs.WellFormed.{is_declared}
use Rattle.c_text.specs.Methods.{others_text}
use Rattle.c_text.proofs.ArgumentLemmas.{all_push}
use Rattle.c_text.proofs.MethodReads.{no_variable_next, variables_end, variables_turn}
use Rattle.c_text.proofs.method_call.variables.Goals as goal

pub loop-next-init : goal.loop-next-init
loop-next-init c = record {
  remain = λ args h e. record { front = []; more = args; whole = refl; same = ap (others_text c.args.vars.now) (sym c.new-places.ensures); written = e };
  spelled = ap (list_all (is_declared c.args.vars.now)) c.new-places.ensures;
}

pub returns-in_default-variable-clause-finds : goal.returns-in_default-variable-clause-finds
returns-in_default-variable-clause-finds c = λ args h e.
    no_variable_next c.up_to_comma.result.0.now c.up_to_comma.result.1.now c.in-Some.next.now c.requires h (c.loop-next.invariant.remain args h e) c.in-Some.ensures c.up_to_comma.ensures.finds c.in_default-variable.ensures

pub loop-next-preserved : goal.loop-next-preserved
loop-next-preserved c = record {
  remain = λ args h e. variables_turn c.in-Some-variable.place c.up_to_comma.result.0.now c.up_to_comma.result.1.now c.in-Some.next.now c.push.new.self c.requires h (c.loop-next.invariant.remain args h e) c.in-Some.ensures c.up_to_comma.ensures.finds c.in-Some-variable.ensures.1 c.in_ok-push.ensures.ok;
  spelled = all_push (is_declared c.args.vars.now) c.loop-next.places c.push.new.self c.in-Some-variable.place c.loop-next.invariant.spelled c.in-Some-variable.ensures.0 c.in_ok-push.ensures.ok;
}

pub returns-clause-finds : goal.returns-clause-finds
returns-clause-finds c = λ args h e. variables_end (c.loop-next.invariant.remain args h e) c.in_default.ensures
