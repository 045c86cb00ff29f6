use Rattle.c_runner.proofs.FrameLemmas.{caller_small, handed}
use Rattle.c_runner_deeds.specs.States.{seen}
use Rattle.std.proofs.Common.{◌∙◌, ap}
use Rattle.c_runner_deeds.specs.declared.state.Frame.{Frame}
use Rattle.c_runner.proofs.OwnLemmas.{back_own, handed_own}
use Rattle.c_runner.proofs.frames.hand_back.Goals as goal

pub own-requires : goal.own-requires
own-requires c = rw c.replace-callee.ensures.after (caller_small (seen c.args.state.now) c.in-Some.caller _ c.requires.small c.in-Some.ensures)

pub returns : goal.returns
returns c =
    λ rest. handed rest (seen c.args.state.now) c.in-Some.caller c.replace-callee.result c.replace-callee.new.dest c.own.new.self c.set_target.new.self _ c.args.word c.in-Some.ensures c.replace-callee.ensures.value c.replace-callee.ensures.after c.in_ok-own.ensures.owned c.set_target.ensures

pub invariant_of-state-in-Break-1 : goal.invariant_of-state-in-Break-1
invariant_of-state-in-Break-1 c = record {
  ours = back_own c.args.state.now _ c.in-Some.caller c.own.new.self c.in-Some.ensures (c.own.ensures.vars ∙ ap (λ (f : Frame). f.vars) c.replace-callee.ensures.after);
}

pub invariant_of-state-2 : goal.invariant_of-state-2
invariant_of-state-2 c = record {
  ours = handed_own c.args.state.now _ c.in-Some.caller c.own.new.self _ _ c.args.word c.in-Some.ensures (c.own.ensures.vars ∙ ap (λ (f : Frame). f.vars) c.replace-callee.ensures.after) c.set_target.ensures c.requires.ours;
}
