use Rattle.ir_builder_frames.proofs.Common.{◌∙◌, ap, length, Building}
use Rattle.ir_builder_frames.proofs.PatchLemmas.{with_last_length}
use Rattle.ir_builder_frames.proofs.SoundLemmas.{sound_patched, patched_within}
use Rattle.ir_builder_frames.proofs.LineLemmas.{patched_lines}
use Rattle.ir_builder_frames.proofs.emitter.Emitter.patch.Goals as goal

pub invariant_of-self : goal.invariant_of-self
invariant_of-self c = sound_patched c.self.inside.next c.self.inside.code c.self.invariant _ c.args.block c.args.last c.set_last.ensures (rw (← c.self.view_is) at c.requires.fits)

pub returns-clause-len : goal.returns-clause-len
returns-clause-len c = rw (← c.self.view_is) (ap (λ (v : Building). length v.blocks) c.set_last.ensures ∙ with_last_length _ _ _)

pub returns-clause-within : goal.returns-clause-within
returns-clause-within c = rw (← c.self.view_is) (patched_within _ _ c.args.block c.args.last c.set_last.ensures)

pub returns-clause-lined : goal.returns-clause-lined
returns-clause-lined c = rw (← c.self.view_is) (λ l on. patched_lines l _ _ c.args.block c.args.last c.set_last.ensures on)
