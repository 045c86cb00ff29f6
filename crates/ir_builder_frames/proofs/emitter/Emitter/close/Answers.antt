use Rattle.ir_builder_frames.proofs.HeldLemmas.{closed_extends, same_extends, closes, on_ok_map, either_way}
use Rattle.ir_builder_frames.proofs.SoundLemmas.{closed_sound, closed_within}
use Rattle.ir_builder_frames.proofs.LineLemmas.{closed_lines, same_lines}
use Rattle.ir_builder_frames.proofs.emitter.Emitter.close.Goals as goal

pub invariant_of-self : goal.invariant_of-self
invariant_of-self c = closed_sound c.self.inside.next c.self.inside.code c.self.invariant c.end_block.result _ c.args.last (rw (← c.self.view_is) at c.requires.fits) c.end_block.ensures.ok c.end_block.ensures.err

pub returns-clause-kept : goal.returns-clause-kept
returns-clause-kept c = rw (← c.self.view_is) (either_way _ _ _ _ (closed_extends _ _ c.args.last) (same_extends _ _) c.end_block.ensures.ok c.end_block.ensures.err)

pub returns-clause-closed : goal.returns-clause-closed
returns-clause-closed c = rw (← c.self.view_is) (on_ok_map _ _ _ (closes _ _ c.args.last) c.end_block.ensures.ok)

pub returns-clause-within : goal.returns-clause-within
returns-clause-within c = rw (← c.self.view_is) (closed_within c.self.inside.next c.self.inside.code c.self.invariant c.end_block.result _ c.args.last c.end_block.ensures.ok)

pub returns-clause-lined : goal.returns-clause-lined
returns-clause-lined c = rw (← c.self.view_is) (λ l on. either_way _ _ _ _ (λ e. closed_lines l _ _ c.args.last e on) (same_lines l _ _) c.end_block.ensures.ok c.end_block.ensures.err)
