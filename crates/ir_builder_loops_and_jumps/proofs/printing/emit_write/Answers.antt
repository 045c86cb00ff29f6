use Rattle.ir_builder_loops_and_jumps.proofs.Common.{List, [], ◌∷◌, ◌++◌, ap, ◌∙◌}
use Rattle.ir_core.specs.declared.code.PArg.{PArg}
use Rattle.ir_core.specs.declared.code.PArg.TheVariants.{Var}
use Rattle.ir_builder_loops_and_jumps.proofs.PrintLemmas.{write_may_come}
use Rattle.ir_builder_loops_and_jumps.proofs.printing.emit_write.Goals as goal

pub push-requires-2 : goal.push-requires-2
push-requires-2 c = record { fits = write_may_come c.args.b.now c.args.r _ (c.in_ok-push.ensures.ok ∙ ap (λ (z : List PArg). z ++ Var c.args.r ∷ []) c.new-written.ensures) c.requires }
