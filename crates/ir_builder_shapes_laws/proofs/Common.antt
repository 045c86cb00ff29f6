-- The names that most proofs of this crate cite, passed on from one place. Declares nothing.
pub use Rattle.c_core.proofs.NameLemmas.{bytes_eq-sym}
pub use Rattle.c_core.specs.Arguments.{kind_of_global}
pub use Rattle.c_core.specs.Functions.{function_named, label_places, parameter_kinds}
pub use Rattle.c_core.specs.Primitives.{Borrows, Is, Owned, Parameter, MaySteal, Steals, TakesDecimal, TakesNumber, TakesText, primitive_named, row_of}
pub use Rattle.c_core.specs.WellFormed.{args_fit, begins_right, call_fits, class_fits, classes_fit, function_call_fits, function_fits, functions_fit, has_kind, is_call_name, is_char, is_declared, is_identifier, is_leaving, is_spelled, is_turn_at, jumps_fit, kind_at, kinds_agree, line_fits, lines_lead_on, literal_fits, names_differ, other_words, passes, same_kinds, spelled_arg, spelled_body, spelled_class, spelled_function, spelled_functions, spelled_globals, spelled_label, spelled_line, spelled_literal, spelled_top, target_fits, well_formed}
pub use Rattle.c_core.specs.declared.code.CFunc.{CFunc}
pub use Rattle.c_core.specs.declared.code.Kind.{Kind}
pub use Rattle.c_core.specs.declared.code.Line.{Line}
pub use Rattle.c_core.specs.declared.primitive.Primitive.{Primitive}
pub use Rattle.ir_builder_frames.specs.Kinds.{Answers, AreArguments, BlocksKinds, IsOf, LastKinds, LiteralFits, OpKinds, OpsKinds, ReadsGlobal, Reports, Take, WritesGlobal, temporary_name}
pub use Rattle.ir_builder_frames.specs.Among.{FunctionType, Surrounding}
pub use Rattle.ir_builder_shapes_laws.specs.Built.{IsBuilt, IsFunction, IsProgram, head_of_code}
pub use Rattle.ir_core.specs.Building.{is_open_at, is_unwritten}
pub use Rattle.ir_core.specs.Items.{Do, End, handler_of, in_block, item_in}
pub use Rattle.ir_core.specs.Lower.{argument_in, block_lines, call_name, called_as, end_lines, global_of, kind_of_type, label_before, label_of, line_of, lines_from, literal_in, lower, lowered_as, lowered_from, name_in, op_lines, register_in, variable_of}
pub use Rattle.ir_core.specs.Names.{function_id, is_dot, method_id, variable_id}
pub use Rattle.ir_core.specs.Rows.{Declared}
pub use Rattle.ir_core.specs.Shape.{BeginsInTurn, BlocksFit, FuncFits, FuncsFit, IsHigher, LastFits, Shape}
pub use Rattle.ir_core.specs.declared.code.Block.{Block}
pub use Rattle.ir_core.specs.declared.code.Func.{Func}
pub use Rattle.ir_core.specs.declared.code.Last.{Last}
pub use Rattle.ir_core.specs.declared.code.Last.TheVariants.{Goto, If, IfError, Return, Unreachable}
pub use Rattle.ir_core.specs.declared.code.Op.{Op}
pub use Rattle.ir_core.specs.declared.code.Op.TheVariants.{Call, Dec, Inc, Lit, Move, Prim, TraitCall, Turn, Virtual, XDec}
pub use Rattle.ir_core.specs.declared.code.Program.{Program}
pub use Rattle.ir_core.specs.declared.code.RType.{RType}
pub use Rattle.std.proofs.Common.{Bool, List, None, Option, Some, [], ap, arith, cond, false, get_or, inl, inr, length, length-append, negsuc, pos, refl, subst, suc, sym, take, true, zero, ℕ, ℤ, ⊎_elim, ◌%◌, ◌++◌, ◌+◌, ◌-◌, ◌/◌, ◌<◌, ◌^◌, ◌∙◌, ◌∷◌, ◌≡◌, ◌≢◌, ◌≤◌, ◌⊎◌}
pub use Rattle.std.proofs.lemmas.Bool.{and_from, and_parts, cases_lt, eq-eqb, eqb-true, le-leb, lt-ltb, ltb-true, ne_eqb, not-true, or_from, or_left, or_parts, or_right, true≢false}
pub use Rattle.std.proofs.lemmas.List.{length-map}
pub use Rattle.std.proofs.lemmas.Option.{slice_get-map, slice_get_within}
pub use Rattle.std.proofs.lemmas.Slice.Eq.{bytes_eq-Decides}
pub use Rattle.std.specs.List.{after_first, before_first, list_all, list_any, position, position_or_len}
pub use Rattle.std.specs.Option.{option_map, option_map_or}
pub use Rattle.std.specs.Prelude.{codes, decimal, find, is_some, map, nat_le, nat_lt, not, slice_get, ◌&&◌, ◌==◌, ◌||◌}
pub use Rattle.std.specs.Str.{IsUtf8, NoCharPasses, NonePass, bytes_eq, chars, is_utf8}
