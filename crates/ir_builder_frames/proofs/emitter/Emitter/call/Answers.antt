use Rattle.ir_builder_frames.proofs.HeldLemmas.{adds}
use Rattle.ir_builder_frames.proofs.SoundLemmas.{call_comes}
use Rattle.ir_builder_frames.proofs.emitter.Emitter.call.Goals as goal

pub push-requires : goal.push-requires
push-requires c = record { fits = call_comes _ _ c.in_ok-r.r c.args.t c.in_ok-r.ensures.declared c.args.function c.args.args c.requires.fits }

pub returns-clause-kept : goal.returns-clause-kept
returns-clause-kept c = (adds _ _ _ _ _ _ c.in_ok-r.ensures.declared c.in_ok-push.ensures.pushed).extends

pub returns-clause-added : goal.returns-clause-added
returns-clause-added c = adds _ _ _ _ _ _ c.in_ok-r.ensures.declared c.in_ok-push.ensures.pushed
