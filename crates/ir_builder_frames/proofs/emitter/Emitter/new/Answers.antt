use Rattle.ir_builder_frames.proofs.SoundLemmas.{sound_same, sound_start}
use Rattle.std.proofs.Common.{refl}
use Rattle.ir_builder_frames.proofs.emitter.Emitter.new.Goals as goal

pub invariant_of-result : goal.invariant_of-result
invariant_of-result c = sound_same 0 _ (sound_start _ c.args.variables refl c.requires) _ c.new.ensures
