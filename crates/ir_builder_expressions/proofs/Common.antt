-- The names that most proofs of this crate cite, passed on from one place. Declares nothing.
pub use Rattle.ir_builder_choices.proofs.ChoiceLemmas.{Beside, Told, any_from, choice_by, choice_computes, computes_behind, from_by, part_from, truth_from, value_from, value_stays}
pub use Rattle.ir_builder_choices.specs.Choices.{Brings, Meets, Opens}
pub use Rattle.ir_builder_choices.specs.Choosing.{Behind, ComputesFrom, HasValue, by_truth}
pub use Rattle.ir_builder_comparisons.specs.Comparing.{Compares, FindsTruth, is_ordering, ordered}
pub use Rattle.ir_builder_expressions.specs.Applying.{Applied, BinarySuits, UnarySuits, absence_in, applied_in, arithmetic_of, binary_goes, index_of, negation_of, node_in, one, one_sort, seen, two, two_sort, unary_goes, wanted_one, wanted_two}
pub use Rattle.ir_builder_expressions.specs.Arms.{ArmSuits, ChoiceSuits, EmitsArm, EmitsChoice, arm_of, arm_sort, means_arm}
pub use Rattle.ir_builder_expressions.specs.Comparing.{compared_in, holds_as, is_brought, is_shown_as, kind_sort}
pub use Rattle.ir_builder_expressions.specs.Emitting.{Emits, EmitsAll, EmitsChain, EmitsObject, EmitsOne, EmitsPart, EmitsSide, EmitsTwo, means_all, means_chain, EmitsNode}
pub use Rattle.ir_builder_expressions.specs.Truths.{is_testable}
pub use Rattle.ir_builder_expressions.specs.Linking.{Begins, Ended, Linked, Met, Pending}
pub use Rattle.ir_builder_expressions.specs.Literals.{literal_of_truth}
pub use Rattle.ir_builder_expressions.specs.Parts.{fitting_in, is_i64, is_pair, is_scalar, is_text, literal_in, native_in, part_sort, sort_by}
pub use Rattle.ir_builder_expressions.specs.Reading.{EmitsRead, ReadsLocal, Takes, TakesLocal, TestsSet, reports_unbound}
pub use Rattle.ir_builder_expressions.specs.Site.{setting_of}
pub use Rattle.ir_builder_expressions.specs.Suiting.{AllSuit, ArgumentsSuit, ComparedSuits, ComparisonsSuit, NodeSuits, ReadsAs, SomeSuit, Suits, count_of}
pub use Rattle.ir_builder_expressions.specs.declared.applying.Binary.{Binary}
pub use Rattle.ir_builder_expressions.specs.declared.applying.Binary.TheVariants.{Appended, Arithmetic, Indexed, Item, Joined}
pub use Rattle.ir_builder_expressions.specs.declared.applying.Unary.{Unary}
pub use Rattle.ir_builder_expressions.specs.declared.applying.Unary.TheVariants.{Absent, Coerced, Counted, Inverted, Negated, Part, Popped, Present, Tested, Written}
pub use Rattle.ir_builder_expressions.specs.declared.chain.Link.{Link}
pub use Rattle.ir_builder_expressions.specs.declared.comparing.Side.{Side}
pub use Rattle.ir_builder_frames.proofs.AttemptLemmas.{both_attempt, failed_off}
pub use Rattle.ir_builder_frames.proofs.ComingLemmas.{ends_both, ends_needed, ends_from, ends_lead, ends_map, ends_now, ends_of, leads_refl, leads_step, leads_trans, on_assoc}
pub use Rattle.ir_builder_frames.proofs.HeldLemmas.{adds_has, extends_refl, extends_trans, get_below, guard_at, has_less, ok_map, placed_part, pushes_has, type_below, type_has, type_kept}
pub use Rattle.ir_builder_frames.proofs.MatchLemmas.{computes_all_then, computes_of, computes_then, made_computes, match_kept, room_on, thrown_at, thrown_from, thrown_now}
pub use Rattle.ir_builder_frames.proofs.WatchLemmas.{looked_at, watched}
pub use Rattle.ir_builder_frames.specs.Watching.{watch}
pub use Rattle.ir_builder_frames.proofs.StepLemmas.{literal_makes, read_is}
pub use Rattle.ir_builder_frames.specs.Calling.{Adds, Closes, Patches, Pushes}
pub use Rattle.ir_builder_frames.specs.Coming.{Ends, Leads, returning, running, world}
pub use Rattle.ir_builder_frames.specs.Computing.{Arrives, ArrivesAll, Attempts, Computes, ComputesAll, HaveTypes, Makes, Meaning, ShowAll, Itself, Showing, Shows, means, means_node}
pub use Rattle.ir_builder_frames.specs.Kinds.{AreAlike, Calls, ReadsGlobal, Take}
pub use Rattle.ir_builder_frames.specs.Among.{IsAmong, Surrounding, head_of}
pub use Rattle.ir_builder_frames.specs.Matching.{BeginWith, HasHead, HasKind, HasRoom, IsThrown, Matches, flag_in, flag_of}
pub use Rattle.ir_builder_frames.specs.Settings.{parameter_sorts}
pub use Rattle.ir_builder_frames.specs.Operands.{ActsOnAll}
pub use Rattle.ir_builder_frames.specs.Placing.{Has, HasType, Placed, or_other}
pub use Rattle.ir_builder_frames.specs.Settings.{Setting, rtype_of}
pub use Rattle.ir_builder_frames.specs.declared.frame.Vars.{Vars}
pub use Rattle.ir_builder_operations.proofs.KindLemmas.{by_bool}
pub use Rattle.ir_builder_operations.proofs.PartLemmas.{as_one, as_two, show_kept, stays, stays_as}
pub use Rattle.ir_builder_operations.proofs.ThenLemmas.{attempts_as, attempts_then, two_attempts}
pub use Rattle.ir_builder_operations.specs.Operating.{Acts, ActsOn, ActsOnTwo, is_written}
pub use Rattle.ir_builder_operations.specs.Selecting.{is_arithmetic, is_whole}
pub use Rattle.ir_builder_operations.specs.Rows.{compared_sort, compares, goes, inverts, is_known, of_one, of_two, operands_of, result_of}
pub use Rattle.ir_core.proofs.StepLemmas.{call_step, error_step, goto_step, op_step, put_other, put_same}
pub use Rattle.ir_builder_frames.specs.Building.{Building, Extends, held}
pub use Rattle.ir_core.specs.Building.{with_last}
pub use Rattle.ir_core.specs.Meaning.{Leaves, Strict, Waiting, are_types, away, handler_at, is_fit, is_tested, is_type, item_at, read_all, registers_of, step}
pub use Rattle.ir_core.specs.Registers.{Held, Holds, Regs, Unset, error_of, first_regs, is_error, put}
pub use Rattle.ir_core.specs.Rows.{Declared, type_of_reg}
pub use Rattle.ir_core.specs.declared.code.Lit.TheVariants.{Number}
pub use Rattle.ir_core.specs.declared.code.Op.TheVariants.{Lit, Prim}
pub use Rattle.ir_core.specs.declared.code.PArg.{PArg}
pub use Rattle.ir_core.specs.declared.code.Program.{Program}
pub use Rattle.ir_core.specs.declared.code.RType.{RType}
pub use Rattle.ir_core.specs.declared.code.RType.TheVariants.{I64, Ref}
pub use Rattle.ir_core.specs.declared.code.Reg.{Reg}
pub use Rattle.py_syntax.specs.declared.expression.BinOp.{BinOp}
pub use Rattle.py_syntax.specs.declared.expression.CmpOp.{CmpOp}
pub use Rattle.py_syntax.specs.declared.token.Span.{Span}
pub use Rattle.py_typed.proofs.ExpressionLemmas.{type_at, typed_expr-Compare, typed_expr_of, typed_node-And, typed_node-Append, typed_node-Arith, typed_node-At, typed_node-Bool, typed_node-Call, typed_node-Coerce, typed_node-Concat, typed_node-Cond, typed_node-Global, typed_node-Input, typed_node-Int, typed_node-Len, typed_node-List, typed_node-Local, typed_node-Neg, typed_node-Not, typed_node-Nothing, typed_node-Or, typed_node-Pop, typed_node-Str, typed_node-ToStr, typed_node-Truth, typed_node-Tuple, typed_node-TupleAt}
pub use Rattle.py_typed.specs.Expressions.{And, Append, Arith, At, Call, Coerce, Compare, Comparisons, Concat, Cond, Len, ListOf, Local, Neg, Not, Or, Pop, ToStr, Truth, TupleAt, TupleOf, TypedExpr, TypedExprs, TypedNode, comparison_then, comparisons_of, expr_step, expr_then, exprs_of, no_comparisons, no_exprs, node_step, type_of, typed, typed_comparison, typed_expr, typed_node}
pub use Rattle.py_typed.specs.Fits.{is_number}
pub use Rattle.py_typed.specs.Sorts.{Sort, sort}
pub use Rattle.py_typed.specs.Statements.{TypedFunc, TypedModule, Variable, typed_module, variable}
pub use Rattle.py_typed.specs.declared.checked.Var.{Var}
pub use Rattle.py_typed.specs.declared.expression.TExpr.{TExpr}
pub use Rattle.py_typed.specs.declared.expression.TKind.{TKind, fold-roll-TKind, out-TKind, roll-TKind, roll-out-TKind}
pub use Rattle.source_meaning.specs.ExpressionMeaning.{name_at, read_global, value_in}
pub use Rattle.source_meaning.specs.Operations.{are_alike, arithmetic, coerced, compared, compared_as, has_text, holds, is_equal, is_less, joined, length_of, letter, negated, negated_as, next_line, of_numbers, text_of, with_number}
pub use Rattle.source_meaning.specs.State.{Does, Gives, Outcome, Raises, State, Stops, give, look, needs, on_to, raise_new, ◌>>=◌}
pub use Rattle.std.proofs.Common.{Bool, IfOk, List, None, Option, Some, [], add-one, ap, arith, drop, false, get_or, inl, inr, le_refl, length, map, refl, rules, subst, suc, sym, take, true, zero, ℕ, ◌*◌, ◌++◌, ◌+◌, ◌-◌, ◌<◌, ◌∙◌, ◌∷◌, ◌≡◌, ◌≤◌, ◌⊎◌}
pub use Rattle.std.proofs.lemmas.Bool.Decides.{nat_tests}
pub use Rattle.std.proofs.lemmas.List.{drop_all, drop_more, length-append, length-map, map_push, take_all}
pub use Rattle.std.specs.Borrow.{Bor}
pub use Rattle.std.specs.Int.{w128}
pub use Rattle.std.specs.Option.{option_and_then, option_map}
pub use Rattle.std.specs.Prelude.{FitsSigned, codes, if◌then◌else◌, is_some, nat_lt, negsuc, not, pos, slice_get, ℤ, ◌&&◌}
pub use Rattle.std.specs.declared.alloc.Global.{Global}
pub use Rattle.std.specs.declared.boxed.Box.{Box}
pub use Rattle.value_core.specs.Arithmetic.{lies_within}
pub use Rattle.value_core.specs.Value.{BoolVal, IntVal, StrVal, Value}
pub use Rattle.value_core.specs.declared.exception.ExcClass.TheVariants.{UnboundLocalError}
pub use Rattle.ir_builder_operations.specs.Boxes.{boxed, objects, is_of, taken_as}
