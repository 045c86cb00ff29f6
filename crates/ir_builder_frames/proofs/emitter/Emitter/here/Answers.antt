use Rattle.std.proofs.Common.{sym, subst}
use Rattle.ir_builder_frames.specs.Shaped.{AllFit}
use Rattle.ir_builder_frames.proofs.emitter.Emitter.here.Goals as goal

pub returns-clause-within : goal.returns-clause-within
returns-clause-within c = rw (← c.self.view_is) (subst (λ n. AllFit n 0 c.self.inside.code.blocks) (sym c.here.ensures) c.self.invariant.ends)
