-- The names that most proofs of this crate cite, passed on from one place. Declares nothing.
pub use Rattle.ir_builder_frames.proofs.ComingLemmas.{ends_at, ends_from, ends_map, ends_now, ends_of, ends_on, leads_refl, leads_step, leads_trans}
pub use Rattle.ir_builder_frames.proofs.HeldLemmas.{extends_refl, extends_trans, get_below, has_less, on_ok_map, placed_part, pushes_has, type_below, type_has, type_kept, within_part}
pub use Rattle.ir_builder_frames.proofs.MatchLemmas.{computes_then, either_flag, keeps_as, match_kept, not_below, room_on, stands_from, thrown_from}
pub use Rattle.ir_builder_frames.proofs.PatchLemmas.{open_below, patches, with_last_length}
pub use Rattle.ir_builder_frames.specs.Calling.{Closes, Open, Patches, Pushes}
pub use Rattle.ir_builder_frames.specs.Coming.{Ends, Leads, returning, running, world}
pub use Rattle.ir_builder_frames.specs.Computing.{ArrivesAll, Attempts, Computes, ComputesAll, HaveTypes, Makes, Meaning, ShowAll, Showing, Shows, means}
pub use Rattle.ir_builder_frames.specs.Matching.{CallsWork, HasKind, HasRoom, IsThrown, Matches, SameIn, Stands, flag_in, flag_of}
pub use Rattle.ir_builder_frames.specs.Placing.{Has, HasType, Placed, Within, or_other}
pub use Rattle.ir_builder_frames.specs.Settings.{Setting, rtype_of}
pub use Rattle.ir_builder_frames.specs.Shaped.{Higher}
pub use Rattle.ir_builder_loops_and_jumps.specs.Around.{Begins, EndsArm, EndsLoop, Joins, NothingBetween, Splits, SplitsBy, joining, looping_to}
pub use Rattle.ir_builder_loops_and_jumps.specs.Loops.{Always, Asked, Asks, Steps, WorksAt}
pub use Rattle.ir_builder_loops_and_jumps.specs.Runs.{Back, Brings, Emitted, Flows, Joining, JumpTo, LeavesNoLoop, OpenIn, Works, all_jumping, jumping}
pub use Rattle.ir_builder_loops_and_jumps.specs.Ways.{by, is_same_way, left, number_or, planned, stays, uses}
pub use Rattle.ir_builder_loops_and_jumps.specs.declared.ways.Exit.{Exit}
pub use Rattle.ir_builder_loops_and_jumps.specs.declared.ways.LoopStart.{LoopStart}
pub use Rattle.ir_builder_loops_and_jumps.specs.declared.ways.Test.{Test}
pub use Rattle.ir_builder_loops_and_jumps.specs.declared.ways.Way.{Way}
pub use Rattle.ir_builder_loops_and_jumps.specs.declared.ways.Way.TheVariants.{Break, Continue, Join, Return}
pub use Rattle.ir_core.proofs.StepLemmas.{goto_step, if_step, lit_step, move_step, op_step, put_other, put_same, return_step, turn_step}
pub use Rattle.ir_builder_frames.specs.Building.{Building, Extends, handled, held}
pub use Rattle.ir_core.specs.Building.{with_last}
pub use Rattle.ir_core.specs.Effects.{World}
pub use Rattle.ir_core.specs.Items.{Do, End, Item, blocks_of, item_in}
pub use Rattle.ir_core.specs.Meaning.{Config, Strict, Waiting, declared_of, do_op, is_refused, item_at, registers_of}
pub use Rattle.ir_core.specs.Registers.{Held, Holds, Regs, look, put}
pub use Rattle.ir_core.specs.Rows.{Declared, type_of_reg}
pub use Rattle.ir_core.specs.declared.code.Last.TheVariants.{Goto, If, Unreachable}
pub use Rattle.ir_core.specs.declared.code.Op.{Op}
pub use Rattle.ir_core.specs.declared.code.Op.TheVariants.{Lit, Move, Prim, Turn}
pub use Rattle.ir_core.specs.declared.code.Program.{Program}
pub use Rattle.ir_core.specs.declared.code.RType.TheVariants.{I64, Int, Ref}
pub use Rattle.ir_core.specs.declared.code.Reg.{Reg}
pub use Rattle.py_typed.specs.Expressions.{TypedExpr, type_of, typed_expr}
pub use Rattle.py_typed.specs.Sorts.{Sort, sort}
pub use Rattle.py_typed.specs.Statements.{GlobalTarget, LocalTarget, TypedAct, TypedTarget, Variable, maybe_typed, on_line, typed_stmt, typed_suite, typed_target}
pub use Rattle.py_typed.specs.declared.expression.TExpr.{TExpr}
pub use Rattle.source_meaning.specs.Operations.{has_text, line_of, text_of, truth_of}
pub use Rattle.source_meaning.specs.State.{Does, Gives, Outcome, Raises, State, Stops, give, needs, on_to, spend, spend_from, write}
pub use Rattle.source_meaning.specs.WaysOut.{Breaks, Continues, Flow, Goes, Returns, after_body, flow_on, loop}
pub use Rattle.std.proofs.Common.{Bool, List, None, Option, Some, [], add-one, ap, append-nil, append_assoc, arith, cond, drop, false, get_or, le_refl, length, map, refl, rules, subst, suc, sym, take, true, zero, ℕ, ⊎_elim, ◌++◌, ◌+◌, ◌<◌, ◌∙◌, ◌∷◌, ◌≡◌, ◌≢◌, ◌≤◌}
pub use Rattle.std.proofs.lemmas.Bool.{cases_eq, or_from, or_parts}
pub use Rattle.std.proofs.lemmas.List.{drop_more, take_all}
pub use Rattle.std.specs.Prelude.{if◌then◌else◌, nat_lt, pos, slice_get, slice_set, ◌&&◌, ◌||◌}
pub use Rattle.value_core.specs.Value.{BoolVal, StrVal, Value}
