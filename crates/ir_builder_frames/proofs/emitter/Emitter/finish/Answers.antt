use Rattle.ir_builder_frames.proofs.SoundLemmas.{sound_kinds}
use Rattle.ir_builder_frames.proofs.emitter.Emitter.finish.Goals as goal

pub returns-clause-kinds : goal.returns-clause-kinds
returns-clause-kinds c = rw (← c.self.view_is) (sound_kinds c.self.inside.next c.self.inside.code c.self.invariant)

pub returns-clause-names : goal.returns-clause-names
returns-clause-names c = rw (← c.self.view_is) c.self.invariant.named.differ
