use Rattle.ir_builder_frames.proofs.HeldLemmas.{adds}
use Rattle.ir_builder_frames.proofs.SoundLemmas.{literal_comes}
use Rattle.ir_builder_frames.proofs.emitter.Emitter.literal.Goals as goal

pub push-requires : goal.push-requires
push-requires c = record { fits = literal_comes _ _ c.in_ok-r.r c.args.t c.args.literal c.in_ok-r.ensures.declared c.requires.fits }

pub returns-clause-kept : goal.returns-clause-kept
returns-clause-kept c = (adds _ _ _ _ _ _ c.in_ok-r.ensures.declared c.in_ok-push.ensures.pushed).extends

pub returns-clause-added : goal.returns-clause-added
returns-clause-added c = adds _ _ _ _ _ _ c.in_ok-r.ensures.declared c.in_ok-push.ensures.pushed
