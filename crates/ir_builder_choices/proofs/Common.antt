-- The names that most proofs of this crate cite, passed on from one place. Declares nothing.
pub use Rattle.ir_builder_choices.specs.Choices.{Brings, Meets, Opens}
pub use Rattle.ir_builder_frames.proofs.HeldLemmas.{does_at, extends_refl, extends_trans, has_less, ok_join, placed_part, type_below, type_has, type_kept, type_same, within_part}
pub use Rattle.ir_builder_frames.specs.Calling.{Closes, Declares, Open, Pushes}
pub use Rattle.ir_builder_frames.specs.Building.{Building, Extends, held}
pub use Rattle.ir_core.specs.Building.{with_last}
pub use Rattle.ir_core.specs.Items.{Do, End}
pub use Rattle.ir_core.specs.Meaning.{Config, Strict, Waiting, is_refused, item_at, registers_of}
pub use Rattle.ir_core.specs.declared.code.Last.TheVariants.{Goto, If, Unreachable}
pub use Rattle.ir_core.specs.declared.code.Op.TheVariants.{Move}
pub use Rattle.ir_core.specs.declared.code.RType.{RType}
pub use Rattle.std.proofs.Common.{Bool, List, None, Option, Some, ap, arith, false, le_refl, length, refl, subst, sym, true, ℕ, ◌+◌, ◌<◌, ◌∙◌, ◌≡◌, ◌≢◌, ◌≤◌}
