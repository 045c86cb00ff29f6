-- The names that most proofs of this crate cite, passed on from one place. Declares nothing.
pub use Rattle.c_core.proofs.NameLemmas.{bytes_eq-sym}
pub use Rattle.c_core.specs.Primitives.{Borrows, Is, Lent, MaySteal, Nothing, OfGlobal, OfSlot, Owned, Parameter, Steals, TakesDecimal, TakesNumber, TakesText, row_of}
pub use Rattle.c_core.specs.WellFormed.{names_differ}
pub use Rattle.c_core.specs.declared.primitive.Primitive.{Primitive}
pub use Rattle.ir_builder_frames.specs.Calling.{Adds, Closes, Declares, Open, Patches, Pushes}
pub use Rattle.ir_builder_frames.specs.Coming.{Ends, Leads, running, world}
pub use Rattle.ir_builder_frames.specs.Computing.{Arrives, ArrivesAll, Attempts, Computes, ComputesAll, Makes, Itself, Meaning, ShowAll, Showing, Shows}
pub use Rattle.ir_builder_frames.specs.Kinds.{Answers, AreArguments, BlocksKinds, Calls, HasKinds, IsGlobal, IsOf, IsOfKind, LastKinds, LiteralFits, OpKinds, OpsKinds, ReadsGlobal, Reports, Take, WritesGlobal, temporary_name}
pub use Rattle.ir_builder_frames.specs.Among.{IsAmong, Surrounding}
pub use Rattle.ir_builder_frames.specs.Matching.{BackBelow, CallsWork, HasGlobals, HasKind, HasRoom, HaveKinds, IsThrown, Keeps, Matches, SameIn, Stands, flag_in, flag_of}
pub use Rattle.ir_builder_frames.specs.Placing.{Has, HasType, Placed, Within, or_other, where_it_may}
pub use Rattle.ir_builder_frames.specs.Settings.{Setting, register_of, rtype_of, variable_registers}
pub use Rattle.ir_core.proofs.StepLemmas.{lit_step, op_step, put_other, put_same}
pub use Rattle.ir_builder_frames.specs.Building.{Building, Extends, handled, held}
pub use Rattle.ir_core.specs.Building.{ended_block, held_in, in_open, with_last}
pub use Rattle.ir_core.specs.Effects.{Acts, Argument, Effect, Fails, Given, World, Written, effect, global_at, got, number_of_global, stored}
pub use Rattle.ir_core.specs.Items.{Do, End, Item, handler_in, in_block}
pub use Rattle.ir_builder_frames.specs.Building.{added, closed, pushed}
pub use Rattle.ir_core.specs.Meaning.{Config, Ended, Frame, Runs, Strict, Stuck, Waiting, applied, arguments, away, failed, handler_at, is_asked, is_clear, is_tested, item_at, read, registers_of, step, steps, typed, value_of}
pub use Rattle.ir_core.specs.Registers.{Held, Holds, Regs, error_of, literal_of, look, put}
pub use Rattle.ir_core.specs.Rows.{AlwaysFails, Declared, Failing, MayFail, NeverFails, edge_of_kind, edge_of_prim, failing, kind_by_result, type_given, type_of_reg}
pub use Rattle.ir_core.specs.declared.code.Block.{Block}
pub use Rattle.ir_core.specs.declared.code.Last.{Last}
pub use Rattle.ir_core.specs.declared.code.Last.TheVariants.{Goto, If, IfError, Return, Unreachable}
pub use Rattle.ir_core.specs.declared.code.Op.{Op}
pub use Rattle.ir_core.specs.declared.code.Op.TheVariants.{Call, Dec, Inc, Lit, Move, Prim, TraitCall, Turn, Virtual, XDec}
pub use Rattle.ir_core.specs.declared.code.PArg.{PArg}
pub use Rattle.ir_core.specs.declared.code.PArg.TheVariants.{Class, Global, Number, Text, Var}
pub use Rattle.ir_core.specs.declared.code.Program.{Program}
pub use Rattle.ir_core.specs.declared.code.RType.{RType}
pub use Rattle.ir_core.specs.declared.code.Reg.{Reg}
pub use Rattle.py_typed.specs.Sorts.{Sort}
pub use Rattle.source_meaning.specs.State.{Does, Gives, Outcome, Raises, State, Stop, Stops, needs, on_to, put_global, raise_new, set_global}
pub use Rattle.std.proofs.Common.{Bool, Err, IfOk, List, None, Ok, OnErr, OnOk, Option, Result, Some, [], ap, arith, cond, false, inl, inr, le_refl, length, length-append, nat_eq, not, refl, subst, suc, sym, take, true, zero, ℕ, ⊎_elim, ◌++◌, ◌+◌, ◌<◌, ◌^◌, ◌∙◌, ◌∷◌, ◌≡◌, ◌≢◌, ◌≤◌, ◌⊎◌}
pub use Rattle.std.proofs.lemmas.Bool.{cases_eq, lt-ltb, ne_eqb}
pub use Rattle.std.proofs.lemmas.List.{append_cancel_left, length-map}
pub use Rattle.std.proofs.lemmas.Slice.Eq.{bytes_eq-Decides}
pub use Rattle.std.specs.List.{list_any, position_or_len}
pub use Rattle.std.specs.Option.{option_and_then, option_map}
pub use Rattle.std.specs.Prelude.{IsTrue, codes, decimal, if◌then◌else◌, map, nat_lt, replicate, slice_get, slice_set, ◌&&◌, ◌||◌}
pub use Rattle.std.specs.Str.{bytes_eq}
pub use Rattle.value_core.specs.Exceptions.{Thrown}
pub use Rattle.value_core.specs.Value.{BoolVal, ExcVal, Value}
