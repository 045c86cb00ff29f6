use Rattle.ir_builder.proofs.Common.{typed_module, ok_map}
use Rattle.ir_builder_shapes_laws.proofs.Whole.{built_has_shape}
use Rattle.ir_builder.proofs.WholeLemmas.{is_calm, does_as_module, is_program, no_tests, has_lines}
use Rattle.ir_builder.proofs.program.build.Goals as goal

pub returns-clause-means : goal.returns-clause-means
returns-clause-means c = ok_map c.build_all.result _ _ (λ p b. does_as_module (typed_module c.args.checked.now) p b c.requires) c.build_all.ensures

pub returns-clause-calm : goal.returns-clause-calm
returns-clause-calm c = ok_map c.build_all.result _ _ (λ p b. is_calm (typed_module c.args.checked.now) p b c.requires) c.build_all.ensures

pub returns-clause-shape : goal.returns-clause-shape
returns-clause-shape c = ok_map c.build_all.result _ _ (λ p b. built_has_shape p (is_program (typed_module c.args.checked.now) p b c.requires)) c.build_all.ensures

pub returns-clause-edges : goal.returns-clause-edges
returns-clause-edges c = ok_map c.build_all.result _ _ (λ p b. no_tests (typed_module c.args.checked.now) p b c.requires) c.build_all.ensures

pub returns-clause-lined : goal.returns-clause-lined
returns-clause-lined c = ok_map c.build_all.result _ _ (λ p b. has_lines (typed_module c.args.checked.now) p b c.requires) c.build_all.ensures
