-- The names that most proofs of this crate cite, passed on from one place. Declares nothing.
pub use Rattle.ir_builder_comparisons.specs.Comparing.{Compares, FindsTruth, compared_of, false_of, is_ordering, ordered, truth_as}
pub use Rattle.ir_builder_frames.proofs.HeldLemmas.{ok_map, type_below}
pub use Rattle.ir_builder_frames.specs.Computing.{Attempts, Makes, Shows}
pub use Rattle.ir_builder_frames.specs.Matching.{HasKind}
pub use Rattle.ir_builder_frames.specs.Placing.{HasType}
pub use Rattle.ir_builder_frames.specs.Settings.{rtype_of}
pub use Rattle.ir_builder_operations.proofs.KindLemmas.{by_bool, by_i64, by_int, by_text}
pub use Rattle.ir_builder_operations.proofs.PartLemmas.{as_one, as_two, made_attempts, stays}
pub use Rattle.ir_builder_operations.proofs.ThenLemmas.{attempts_as, attempts_then}
pub use Rattle.ir_builder_operations.specs.Operating.{Acts, ActsOn, ActsOnTwo, is_written}
pub use Rattle.ir_builder_operations.specs.Rows.{compared_sort, compares, inverts, of_one, tested}
pub use Rattle.ir_builder_operations.specs.declared.operation.Compared.{Compared}
pub use Rattle.ir_builder_operations.specs.declared.operation.Compared.TheVariants.{Ints, Natives, Texts}
pub use Rattle.ir_builder_operations.specs.declared.operation.Test.TheVariants.{AtMost, Equal, Less}
pub use Rattle.ir_builder_frames.specs.Building.{Building}
pub use Rattle.ir_core.specs.declared.code.Reg.{Reg}
pub use Rattle.py_typed.specs.Sorts.{Sort, sort}
pub use Rattle.source_meaning.specs.Operations.{are_alike, is_equal}
pub use Rattle.source_meaning.specs.State.{Gives, State, give, needs, on_to}
pub use Rattle.std.proofs.Common.{List, None, Some, [], ap, arith, false, refl, subst, suc, sym, true, zero, ℕ, ◌∙◌, ◌∷◌, ◌≡◌}
pub use Rattle.value_core.specs.Value.{BoolVal, IntVal, StrVal, Value}
