use Rattle.ir_builder_operations.proofs.Common.{ap, ◌∙◌, [], ◌∷◌, w64, Var, Reg, ok_map}
use Rattle.std.proofs.lemmas.Int.{to_z_pos}
use Rattle.ir_core.specs.declared.code.PArg.TheVariants.{Number}
use Rattle.ir_builder_operations.proofs.ContainerLemmas.{two_put, part_attempts}
use Rattle.ir_builder_operations.proofs.containers.emit_tuple_part.Goals as goal

pub returns-clause-made : goal.returns-clause-made
returns-clause-made c =
    let is = two_put _ _ _ _ _ c.new-args.ensures c.in_ok-push.ensures.ok c.in_ok-push-2.ensures.ok in
    ok_map _ _ _ (λ (r : Reg) a. part_attempts _ _ r.0 c.args.tuple c.args.number _ (is ∙ ap (λ n. Var c.args.tuple ∷ Number n ∷ []) (to_z_pos w64 c.args.number c.requires.small)) c.requires.tuple a) c.primitive.ensures.added
