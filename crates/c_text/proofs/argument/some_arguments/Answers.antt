use Rattle.std.proofs.Common.{◌∙◌}
use Rattle.c_core.specs.WellFormed.{spelled_arg}
use Rattle.c_text.proofs.ArgumentLemmas.{args_turn, args_end, args_stop, args_fail, empty_is, more_is, all_push, FindsNext}
use Rattle.c_text.proofs.argument.some_arguments.Goals as goal

pub returns-in_default-clause-finds : goal.returns-in_default-clause-finds
returns-in_default-clause-finds c = λ a others h e.
    args_fail h (c.loop-args.invariant.remain a others h e) (λ b rest s ends q. rw c.in_default.is at (c.in_ok-argument.ensures.finds b rest s ends q))

pub returns-then-is_empty-clause-finds : goal.returns-then-is_empty-clause-finds
returns-then-is_empty-clause-finds c = λ a others h e.
    let r = c.loop-args.invariant.remain a others h e in
    let f : FindsNext c.args.vars.now c.loop-args.rest.now c.in-Some.argument c.in-Some.after.now = λ b rest s ends q. rw c.in-Some.is at (c.in_ok-argument.ensures.finds b rest s ends q) in
    args_end c.in-Some.argument c.in-Some.after.now c.from_vec.result h r f (empty_is c.in-Some.after.now c.if-is_empty.ensures) (c.from_vec.ensures ∙ c.in_ok-push.ensures.items)

pub returns-in_default-behind-clause-finds : goal.returns-in_default-behind-clause-finds
returns-in_default-behind-clause-finds c = λ a others h e.
    let r = c.loop-args.invariant.remain a others h e in
    let f : FindsNext c.args.vars.now c.loop-args.rest.now c.in-Some.argument c.in-Some.after.now = λ b rest s ends q. rw c.in-Some.is at (c.in_ok-argument.ensures.finds b rest s ends q) in
    args_stop c.in-Some.argument c.in-Some.after.now h r f (more_is c.in-Some.after.now c.if-is_empty.ensures) c.in_default-behind.ensures

pub loop-args-preserved : goal.loop-args-preserved
loop-args-preserved c = record {
  remain = λ a others h e.
      let r = c.loop-args.invariant.remain a others h e in
      let f : FindsNext c.args.vars.now c.loop-args.rest.now c.in-Some.argument c.in-Some.after.now = λ b rest s ends q. rw c.in-Some.is at (c.in_ok-argument.ensures.finds b rest s ends q) in
      args_turn c.in-Some.argument c.in-Some.after.now _ c.push.new.self.items h r f c.in-Some-behind.ensures c.in_ok-push.ensures.items;
  spelled = all_push (spelled_arg c.args.vars.now) c.loop-args.args.items c.push.new.self.items c.in-Some.argument c.loop-args.invariant.spelled (rw c.in-Some.is at c.in_ok-argument.ensures.spelled) c.in_ok-push.ensures.items;
}
