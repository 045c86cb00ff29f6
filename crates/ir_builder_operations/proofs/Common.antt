-- The names that most proofs of this crate cite, passed on from one place. Declares nothing.
pub use Rattle.c_core.specs.Step.{int64_exception, int_exception}
pub use Rattle.c_core.specs.Strings.{counted_length, is_long_decimal, text_item, text_length, text_less, writes_long}
pub use Rattle.c_core.specs.declared.primitive.Primitive.{Primitive}
pub use Rattle.ir_builder_frames.proofs.AttemptLemmas.{ActsAs, Allows, Answer, Answers, Finishes, IsStuck, Performs, ShownIfGiven, Throws, all_given, all_perform, effect_of, leaves_all, outcome_of, performs, unless_stuck, acts_typed, prim_ends}
pub use Rattle.ir_builder_frames.proofs.ComingLemmas.{ends_at, ends_map, ends_now, ends_of, ends_on, leads_step, ends_from, ends_lead, leads_as, leads_refl, leads_trans}
pub use Rattle.ir_builder_frames.proofs.HeldLemmas.{adds_has, extends_refl, extends_trans, ok_map, placed_part, type_below, type_has, has_less, pushes_has, type_kept}
pub use Rattle.ir_builder_frames.proofs.MatchLemmas.{makes_arrives, match_kept, room_on, thrown_from}
pub use Rattle.ir_builder_frames.proofs.StepLemmas.{acts_step, literal_makes, prim_step, read_is}
pub use Rattle.ir_builder_frames.specs.Calling.{Adds, Pushes}
pub use Rattle.ir_builder_frames.specs.Coming.{Ends, Leads, running, world}
pub use Rattle.ir_builder_frames.specs.Computing.{Arrives, Attempts, HaveTypes, Makes, ShowAll, Showing, Shows}
pub use Rattle.ir_builder_frames.specs.Kinds.{AreArguments, LiteralFits}
pub use Rattle.ir_builder_frames.specs.Matching.{HasKind, HasRoom, HaveKinds, IsThrown, Matches}
pub use Rattle.ir_builder_frames.specs.Operands.{ActsOnAll}
pub use Rattle.ir_builder_frames.specs.Placing.{Has, HasType, Placed}
pub use Rattle.ir_builder_frames.specs.Settings.{Setting, rtype_of}
pub use Rattle.ir_builder_operations.specs.Converting.{coercion, text_operation, unboxed_in}
pub use Rattle.ir_builder_operations.specs.Operating.{Acts, ActsOn, ActsOnTwo, is_written}
pub use Rattle.ir_builder_operations.specs.Rows.{box_primitive, compares, dict_length, entry_deleted, entry_put, goes, if_same_size, inverts, is_absent, is_known, item_changed, key_found, key_of_pair, key_there, keyed, list_length, of_none, of_one, of_three, of_two, operands_of, primitive_of, result_of, size_checked, tested, tuple_length, unbox_primitive, unboxed_sort, written}
pub use Rattle.ir_builder_operations.specs.Boxes.{boxed, is_of, may_be_key, taken_as}
pub use Rattle.ir_builder_operations.specs.Selecting.{int_primitive, is_arithmetic, is_whole, native_primitive, test_primitive}
pub use Rattle.ir_builder_operations.specs.declared.operation.Compared.TheVariants.{Ints, Natives, Texts}
pub use Rattle.ir_builder_operations.specs.declared.operation.Operation.{Operation}
pub use Rattle.ir_builder_operations.specs.declared.operation.Operation.TheVariants.{Absence, BoolText, BoolToInt, BoolToNative, Boxing, Comparison, Concatenation, Deletion, DictItem, DictLength, EmptyDict, EmptyList, IntArithmetic, IntNegation, IntText, IntToNative, Inversion, Item, ItemChange, KeyAt, LastItem, Length, Letter, Line, ListLength, Membership, NativeArithmetic, NativeNegation, NativeText, NativeToInt, SizeCheck, TupleLength, Unboxing}
pub use Rattle.ir_builder_operations.specs.declared.operation.Test.TheVariants.{AtMost, Equal, Less}
pub use Rattle.ir_builder_frames.specs.Building.{Building}
pub use Rattle.ir_core.specs.Effects.{Effect, Given, World, Written, Wrong, effect, fitted, int_or, item_or, line_read, native_or, truth_number, truth_text, written_int}
pub use Rattle.ir_core.specs.Registers.{Holds, Regs, halved, put}
pub use Rattle.ir_core.specs.Rows.{Declared, NeverFails, failing, type_of_reg}
pub use Rattle.ir_core.specs.declared.code.Op.TheVariants.{Lit, Prim}
pub use Rattle.ir_core.specs.declared.code.PArg.{PArg}
pub use Rattle.ir_core.specs.declared.code.PArg.TheVariants.{Text, Var}
pub use Rattle.ir_core.specs.declared.code.Program.{Program}
pub use Rattle.ir_core.specs.declared.code.RType.{RType}
pub use Rattle.ir_core.specs.declared.code.Reg.{Reg}
pub use Rattle.py_syntax.specs.declared.expression.BinOp.{BinOp}
pub use Rattle.py_typed.specs.Sorts.{Sort, Str, sort}
pub use Rattle.source_meaning.proofs.RangeLemmas.{IsNative, left_native, quotient_native, rest_native, right_native, wrap_within}
pub use Rattle.source_meaning.specs.Operations.{are_alike, as_list, list_item, pop_item, arithmetic, coerced, comes_before, counted, fitting, flag_text, is_filled, joined, length_of, letter, letters, negated, negated_as, next_line, no_i64, number_of, of_i64, of_numbers, past_range, text_of, with_number, with_place}
pub use Rattle.source_meaning.specs.State.{Does, Gives, Outcome, Raises, State, Stops, give, look, make, needs, on_to, raise_new, set_items, sure, ◌>>=◌, ◌>>◌}
pub use Rattle.std.proofs.Common.{Bool, Err, Greater, List, None, Ok, Option, Ordering, Result, Some, [], ap, arith, cond, false, inl, inr, le_refl, length, refl, subst, suc, sym, take, true, zero, ℕ, ◌%◌, ◌*◌, ◌++◌, ◌+◌, ◌-◌, ◌/◌, ◌<◌, ◌^◌, ◌∙◌, ◌∷◌, ◌≡◌, ◌≤◌, ◌⊎◌}
pub use Rattle.std.proofs.lemmas.Bool.{and_from, eq-eqb, ltb-true}
pub use Rattle.std.proofs.lemmas.Bool.Decides.{nat_tests}
pub use Rattle.std.proofs.lemmas.Int.{to_z-of_z}
pub use Rattle.std.specs.Fmt.{signed_decimal}
pub use Rattle.std.specs.Int.{w128, w64}
pub use Rattle.std.specs.Option.{option_and_then, option_map}
pub use Rattle.std.specs.Ordering.{int_eq, is_lt, nat_cmp, ordering_then}
pub use Rattle.std.specs.Prelude.{codes, if◌then◌else◌, int_lt, is_some, map, nat_lt, neg_ℤ, negsuc, not, pos, slice_get, slice_set, ℤ, ◌&&◌, ◌*ℤ◌, ◌==◌, ◌||◌}
pub use Rattle.std.specs.Str.{IsUtf8, bytes_eq, chars, encode_utf8_all}
pub use Rattle.value_core.specs.Arithmetic.{i64_add, i64_floor_div, i64_modulo, i64_mul, i64_neg, i64_shl, i64_shr, i64_sub, int_add, int_floor_div, int_modulo, int_mul, int_neg, int_shl, int_shr, int_sub, int_to_i64, is_short, lies_within}
pub use Rattle.value_core.specs.Characters.{char_len, place_of}
pub use Rattle.value_core.specs.Exceptions.{thrown}
pub use Rattle.value_core.specs.Value.{BoolVal, DictObj, ExcVal, InstObj, IntVal, ListObj, NoneVal, ObjVal, Object, StrVal, TupleVal, Value, listed, tupled}
pub use Rattle.value_core.specs.declared.arith.Arith.{Arith}
pub use Rattle.value_core.specs.declared.arith.Arith.TheVariants.{NegativeShift, OutOfRange, Overflow, ZeroDivisor}
pub use Rattle.value_core.specs.declared.exception.ExcClass.TheVariants.{EOFError, IndexError, ValueError}
