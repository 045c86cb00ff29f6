-- The names that most proofs of this crate cite, passed on from one place. Declares nothing.
pub use Rattle.c_core.specs.WellFormed.{is_identifier, names_differ}
pub use Rattle.ir_builder.specs.Bodies.{Bodied, BodyWorks, Filled, LeavesWith, body_frame}
pub use Rattle.ir_builder.specs.Functions.{AllBuilt, FunctionWorks, IsBuiltOf, IsFunctionOf, IsOwnOf, end_literal, end_value}
pub use Rattle.ir_builder_frames.specs.Among.{heads_of, FunctionType, IsAmong, Surrounding, head_of}
pub use Rattle.ir_builder.specs.Registers.{AddsFlags, beginning, register_of, variable_registers, variables_of}
pub use Rattle.ir_builder_frames.proofs.ComingLemmas.{ends_from, ends_map, ends_more, ends_of, leads_as, leads_refl, leads_step, leads_trans}
pub use Rattle.ir_builder_frames.proofs.GlobalLemmas.{get_map}
pub use Rattle.ir_builder_frames.proofs.HeldLemmas.{extends_refl, extends_trans, get_below, has_less, ok_map, type_has, type_kept}
pub use Rattle.ir_builder_frames.specs.Calling.{Adds, Closes, Declares, Open, Pushes}
pub use Rattle.ir_builder_frames.specs.Coming.{Ends, Escapes, Leads, returning, running, world}
pub use Rattle.ir_builder_frames.specs.Computing.{Meaning}
pub use Rattle.ir_builder_frames.specs.Kinds.{HasKinds, LiteralFits}
pub use Rattle.ir_builder_frames.specs.Matching.{BeginWith, CallGives, CallRaises, CallsWork, HasGlobals, HasHead, HasKind, HasRoom, Matches, flag_of}
pub use Rattle.ir_builder_frames.specs.Settings.{parameter_sorts, Setting, rtype_of, setting}
pub use Rattle.ir_builder_frames.specs.Naming.{names_of}
pub use Rattle.ir_builder_frames.specs.Placing.{Has, HasType, NoEdges, Placed, or_other}
pub use Rattle.ir_builder_frames.specs.Shaped.{AllFit, EndFits}
pub use Rattle.ir_builder_loops_and_jumps.specs.Means.{means_suite}
pub use Rattle.ir_builder_shapes_laws.specs.Built.{IsBuilt, IsFunction, IsOwn, IsProgram, head_of_code}
pub use Rattle.ir_builder_statements.specs.Modules.{FunctionSuits, ModuleSuits, variable_names}
pub use Rattle.ir_core.proofs.StepLemmas.{op_step, return_step, turn_step}
pub use Rattle.ir_builder_frames.specs.Building.{Building, Extends, handled, held}
pub use Rattle.ir_core.specs.Building.{held_in, is_open_at, is_unwritten, with_last}
pub use Rattle.ir_core.specs.Items.{Do, End, blocks_of, handler_in, in_block, item_in}
pub use Rattle.ir_core.specs.Meaning.{Config, Ended, Leaves, Strict, Stuck, Waiting, declared_of, handler_at, if_some, is_tested, item_at, leave, registers_of, step, steps, turned}
pub use Rattle.ir_core.specs.Registers.{Held, Holds, Regs, Unset, error_at, error_of, first_regs, literal_of, look}
pub use Rattle.ir_core.specs.Rows.{Declared, type_of_reg}
pub use Rattle.ir_core.specs.declared.code.Block.{Block}
pub use Rattle.ir_core.specs.declared.code.Func.{Func}
pub use Rattle.ir_core.specs.declared.code.Last.{Last}
pub use Rattle.ir_core.specs.declared.code.Last.TheVariants.{Goto, IfError, Return, Unreachable}
pub use Rattle.ir_core.specs.declared.code.Op.{Op}
pub use Rattle.ir_core.specs.declared.code.Op.TheVariants.{Lit, Turn}
pub use Rattle.ir_core.specs.declared.code.Program.{Program}
pub use Rattle.ir_core.specs.declared.code.RType.{RType}
pub use Rattle.ir_core.specs.declared.code.Reg.{Reg}
pub use Rattle.py_typed.specs.Sorts.{Sort, sort}
pub use Rattle.py_typed.specs.Statements.{TypedFunc, TypedModule, Variable, typed_func, typed_module, typed_suite, variable}
pub use Rattle.py_typed.specs.declared.checked.TFunc.{TFunc}
pub use Rattle.source_meaning.specs.SourceRun.{raised_as, start, stop_of, stopped}
pub use Rattle.source_soundness.specs.Watched.{body_of, enter, top_of, watch_each}
pub use Rattle.ir_builder_frames.specs.Watching.{watch}
pub use Rattle.source_meaning.specs.State.{Does, Gives, Outcome, Raises, State, Stops, on_to, spend_from}
pub use Rattle.source_meaning.specs.WaysOut.{Breaks, Continues, Flow, Goes, Returns, and_set, answer}
pub use Rattle.std.proofs.Common.{Bool, List, None, Option, Some, [], add-one, ap, arith, false, get_or, le_refl, length, length-append, map, refl, rules, subst, suc, sym, take, true, zero, ℕ, ⊎_elim, ◌++◌, ◌+◌, ◌-◌, ◌<◌, ◌^◌, ◌∙◌, ◌∷◌, ◌≡◌, ◌≢◌, ◌≤◌, ◌⊎◌}
pub use Rattle.std.proofs.lemmas.Bool.{cases_lt}
pub use Rattle.std.specs.List.{list_all}
pub use Rattle.std.specs.Option.{option_copied, option_map}
pub use Rattle.std.specs.Prelude.{if◌then◌else◌, nat_eq, nat_lt, pos, replicate, slice_get}
pub use Rattle.value_core.specs.Ending.{Done, Ending, Raised}
pub use Rattle.value_core.specs.Value.{BoolVal, NoneVal, Value}
