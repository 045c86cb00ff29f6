-- The names that most proofs of this crate cite, passed on from one place. Declares nothing.
pub use Rattle.ir_builder_expressions.specs.Applying.{BinarySuits, binary_goes}
pub use Rattle.ir_builder_expressions.specs.Emitting.{Emits, EmitsAll, EmitsTwo, means_all}
pub use Rattle.ir_builder_expressions.specs.Parts.{is_scalar}
pub use Rattle.ir_builder_expressions.specs.Suiting.{SomeSuit, Suits}
pub use Rattle.ir_builder_expressions.specs.declared.applying.Binary.{Binary}
pub use Rattle.ir_builder_frames.proofs.GlobalLemmas.{write_fits}
pub use Rattle.ir_builder_frames.proofs.HeldLemmas.{either_way, extends_refl, extends_trans, get_below, ok_map, on_ok_map, type_kept, has_less}
pub use Rattle.ir_builder_frames.proofs.MatchLemmas.{computes_of, made_computes, room_on}
pub use Rattle.ir_builder_frames.proofs.PatchLemmas.{patches}
pub use Rattle.ir_builder_frames.specs.Calling.{Adds, Closes, Open, Pushes}
pub use Rattle.ir_builder_frames.specs.Computing.{Attempts, Computes, Meaning, Shows, means}
pub use Rattle.ir_builder_frames.specs.Kinds.{AreAlike, IsOf, OpKinds, WritesGlobal}
pub use Rattle.ir_builder_frames.specs.Among.{IsAmong, Surrounding}
pub use Rattle.ir_builder_frames.specs.Matching.{HasKind, HasRoom, flag_of}
pub use Rattle.ir_builder_frames.specs.Placing.{HasType}
pub use Rattle.ir_builder_frames.specs.Settings.{Setting, rtype_of}
pub use Rattle.ir_builder_loops_and_jumps.proofs.EmitLemmas.{alone_emitted, assignment_emitted, break_emitted, continue_emitted, if_emitted, join_open, loop_emitted, loop_open, next_emitted, next_tested, nothing_emitted, nothing_tested, pass_emitted, return_emitted, update_emitted, while_begins, works_of}
pub use Rattle.ir_builder_loops_and_jumps.proofs.ExitLemmas.{jumping_end, jumping_next, open_first, open_on, stays_by, stays_patch_below, jumps_of}
pub use Rattle.ir_builder_loops_and_jumps.proofs.PlanLemmas.{join_above, loop_above, plan_fits, planned_at, turn_ends}
pub use Rattle.ir_builder_loops_and_jumps.proofs.SimpleLemmas.{alone_works, global_set, leaves_none, other_set, param_set, return_works, set_works}
pub use Rattle.ir_builder_loops_and_jumps.specs.Means.{means_alone, means_assignment, means_loop, means_return, means_returned, means_statement, means_suite, means_update, returned_type}
pub use Rattle.ir_builder_loops_and_jumps.specs.Printing.{Writes, printed}
pub use Rattle.ir_builder_loops_and_jumps.specs.Runs.{Emitted, OpenIn, Works, all_jumping}
pub use Rattle.ir_builder_loops_and_jumps.specs.Ways.{left, planned}
pub use Rattle.ir_builder_loops_and_jumps.specs.declared.ways.Exit.{Exit}
pub use Rattle.ir_builder_loops_and_jumps.specs.declared.ways.LoopStart.{LoopStart}
pub use Rattle.ir_builder_operations.specs.Operating.{ActsOn, is_written}
pub use Rattle.ir_builder_operations.specs.Selecting.{is_whole}
pub use Rattle.ir_builder_statements.specs.Kinds.{GivesResult}
pub use Rattle.ir_builder_statements.specs.Parts.{ComputesReturned, HasFlag, SetsGlobal, SetsLocal, SetsVariable, TakesGlobal, TakesRegister, TurnsInto, reading_of, update_binary, changed_as}
pub use Rattle.ir_builder_statements.specs.Suiting.{ActSuits, ArmsSuit, DoSuits, IsVariable, IsRead, ListSuits, LoopSuits, PrintSuits, RangeSuits, ReturnSuits, StatementSuits, SuiteSuits, TestSuits, UpdateSuits, VariableUpdates, ItemSuits, ItemUpdates, TakesValue, TargetTakes, TargetsTake, OneSuits, NoneFits, PartsSuit, TargetsSuit, TargetUpdates}
pub use Rattle.ir_builder_frames.specs.Building.{Building, Extends, held}
pub use Rattle.ir_core.specs.Building.{with_last}
pub use Rattle.ir_core.specs.Registers.{Holds}
pub use Rattle.ir_core.specs.declared.code.Last.TheVariants.{Goto, If, Return}
pub use Rattle.ir_core.specs.declared.code.Lit.TheVariants.{Number, PyNone}
pub use Rattle.ir_core.specs.declared.code.Op.TheVariants.{Lit, Move, Prim}
pub use Rattle.ir_core.specs.declared.code.PArg.{PArg}
pub use Rattle.ir_core.specs.declared.code.RType.TheVariants.{Bool as BoolType, Ref}
pub use Rattle.ir_core.specs.declared.code.Reg.{Reg}
pub use Rattle.py_typed.proofs.ExpressionLemmas.{type_at, typed_node-Print}
pub use Rattle.py_typed.proofs.StatementLemmas.{typed_act-Break, typed_act-Continue, typed_act-If, typed_act-Return, typed_act-While, typed_stmt-While, typed_stmt_of, typed_stmt_at, typed_stmt-If, typed_act-Expr, typed_act-Assign, typed_act-Aug, typed_act-Pass, typed_act-ForRange, typed_act-ForList}
pub use Rattle.py_typed.specs.Expressions.{TypedExpr, exprs_of, type_of, typed_expr}
pub use Rattle.py_typed.specs.Sorts.{Sort, sort, sort_step}
pub use Rattle.py_typed.specs.Statements.{AttrTarget, GlobalTarget, ItemTarget, LocalTarget, TypedAct, TypedModule, TypedStmt, TypedSuite, TypedTarget, Variable, arms_of, maybe_typed, on_line, typed_act, typed_arm, typed_module, typed_stmt, typed_suite, typed_target, variable}
pub use Rattle.py_typed.specs.declared.checked.Var.{Var}
pub use Rattle.py_typed.specs.declared.expression.TExpr.{TExpr}
pub use Rattle.py_typed.specs.declared.statement.TStmt.{TStmt, size-TStmt, the_lemmas}
pub use Rattle.py_typed.specs.declared.statement.Target.{Target}
pub use Rattle.source_meaning.specs.Operations.{coerced, combined, line_of}
pub use Rattle.source_meaning.specs.State.{Calls, Does, Gives, Outcome, Raises, State, Stops, give, on_to}
pub use Rattle.std.proofs.Common.{Err, List, None, Ok, OnOk, Option, Result, Some, [], ap, arith, drop, false, get_or, inl, inr, le_refl, length, map, max, refl, rules, subst, suc, sym, true, zero, ℕ, ◌*◌, ◌++◌, ◌+◌, ◌<◌, ◌∙◌, ◌∷◌, ◌≡◌, ◌≤◌, Bool}
pub use Rattle.std.specs.Option.{option_copied, option_map}
pub use Rattle.std.specs.Prelude.{if◌then◌else◌, pos, slice_get}
pub use Rattle.value_core.specs.Value.{NoneVal, Value}
pub use Rattle.py_syntax.specs.declared.token.Span.{Span}
pub use Rattle.py_syntax.specs.declared.expression.BinOp.{BinOp}
pub use Rattle.py_typed.specs.declared.types.Ty.{Ty, fold-roll-Ty}
pub use Rattle.ir_builder_loops_and_jumps.specs.declared.ways.Test.{Test}
pub use Rattle.ir_builder_loops_and_jumps.specs.Around.{SplitsBy, Begins, NothingBetween, EndsArm, Joins, EndsLoop, joining, looping_to}
pub use Rattle.std.proofs.lemmas.List.{drop_more, drop_all}
pub use Rattle.ir_builder_frames.specs.Lines.{OwnLines}
pub use Rattle.ir_builder_expressions.specs.Lined.{Around, IsCodeOf, Lined, LinedParts, lined, own, part}
pub use Rattle.ir_builder_expressions.proofs.ArmLemmas.{Is, is_node}
pub use Rattle.ir_builder_expressions.proofs.LinedLemmas.{around_none, around_both, lined_node, lined_then, listed_of, always, around_by, ok_lined}
pub use Rattle.ir_builder_expressions.specs.Site.{setting_of}
