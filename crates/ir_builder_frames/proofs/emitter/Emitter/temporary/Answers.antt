use Rattle.ir_builder_frames.proofs.Common.{arith}
use Rattle.ir_builder_frames.proofs.HeldLemmas.{added_extends, same_extends, declares, ok_join, either_way}
use Rattle.ir_builder_frames.proofs.SoundLemmas.{added_sound}
use Rattle.ir_builder_frames.proofs.LineLemmas.{added_lines, same_lines}
use Rattle.ir_builder_frames.proofs.emitter.Emitter.temporary.Goals as goal

pub fresh_name-requires : goal.fresh_name-requires
fresh_name-requires c = c.self.invariant.named.within

pub invariant_of-self : goal.invariant_of-self
invariant_of-self c =
    let found = c.in_ok-name.ensures in
    let low = found.number.0 in
    let high = found.number.1 in
    added_sound c.self.inside.next c.self.inside.code c.self.invariant c.add_reg.result _ c.in_ok-name.number c.in_ok-name.name c.args.t found.name low (omega arith) found.fresh c.add_reg.ensures.ok c.add_reg.ensures.err

pub returns-clause-kept : goal.returns-clause-kept
returns-clause-kept c = rw (← c.self.view_is) (either_way c.add_reg.result _ _ _ (added_extends _ _ c.in_ok-name.name c.args.t) (same_extends _ _) c.add_reg.ensures.ok c.add_reg.ensures.err)

pub returns-clause-declared : goal.returns-clause-declared
returns-clause-declared c = rw (← c.self.view_is) (ok_join c.add_reg.result _ _ _ (λ r. declares _ _ c.in_ok-name.name c.args.t r.0) c.add_reg.ensures.number c.add_reg.ensures.ok)

pub returns-clause-lined : goal.returns-clause-lined
returns-clause-lined c = rw (← c.self.view_is) (λ l. either_way c.add_reg.result _ _ _ (added_lines l _ _ c.in_ok-name.name c.args.t) (same_lines l _ _) c.add_reg.ensures.ok c.add_reg.ensures.err)
