use Rattle.ir_builder_frames.proofs.HeldLemmas.{pushed_extends, same_extends, pushes, on_ok_map, either_way}
use Rattle.ir_builder_frames.proofs.SoundLemmas.{pushed_sound}
use Rattle.ir_builder_frames.proofs.LineLemmas.{pushed_lines, same_lines}
use Rattle.ir_builder_frames.proofs.emitter.Emitter.push.Goals as goal

pub invariant_of-self : goal.invariant_of-self
invariant_of-self c = pushed_sound c.self.inside.next c.self.inside.code c.self.invariant c.push.result _ (c.args.op, c.args.line) (rw (← c.self.view_is) at c.requires.fits) c.push.ensures.ok c.push.ensures.err

pub returns-clause-kept : goal.returns-clause-kept
returns-clause-kept c = rw (← c.self.view_is) (either_way _ _ _ _ (pushed_extends _ _ (c.args.op, c.args.line)) (same_extends _ _) c.push.ensures.ok c.push.ensures.err)

pub returns-clause-pushed : goal.returns-clause-pushed
returns-clause-pushed c = rw (← c.self.view_is) (on_ok_map _ _ _ (pushes _ _ (c.args.op, c.args.line)) c.push.ensures.ok)

pub returns-clause-lined : goal.returns-clause-lined
returns-clause-lined c = rw (← c.self.view_is) (either_way _ _ _ _ (pushed_lines _ _ (c.args.op, c.args.line)) (same_lines c.args.line _ _) c.push.ensures.ok c.push.ensures.err)
