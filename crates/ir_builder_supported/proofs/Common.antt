-- The names that most proofs of this crate cite, passed on from one place. Declares nothing.
pub use Rattle.ir_builder_expressions.specs.Applying.{BinarySuits, absence_by, index_of}
pub use Rattle.ir_builder_expressions.specs.Parts.{is_bool, is_i64, is_int, is_pair, is_scalar, is_text}
pub use Rattle.ir_builder_expressions.specs.Suiting.{AllSuit, ArgumentsSuit, ComparisonsSuit, NodeSuits, ReadsAs, Suits, behind_sort, count_of}
pub use Rattle.ir_builder_expressions.specs.declared.applying.Binary.TheVariants.{Arithmetic}
pub use Rattle.ir_builder_frames.specs.Settings.{parameter_sorts}
pub use Rattle.ir_builder_operations.specs.Converting.{is_flat}
pub use Rattle.ir_builder_operations.specs.Selecting.{is_arithmetic, is_whole}
pub use Rattle.ir_builder_supported.specs.Expressions.{are_pairs, chain_forms, expression_forms, is_asked, is_form, is_indexed, or_parts, part_forms, row_forms}
pub use Rattle.ir_builder_supported.specs.Forms.{is_none, is_result, is_value}
pub use Rattle.ir_builder_supported.specs.Statements.{act_forms, alone_forms, arms_forms, class_form, def_lines, function_lines, functions_forms, is_function, is_list, statement_forms, suite_forms, target_forms, targets_forms, maybe_forms}
pub use Rattle.py_check_names.specs.Outline.{suite_definitions}
pub use Rattle.py_check_names.specs.Walked.{trees}
pub use Rattle.ir_builder_forms.specs.Least.{least, lesser}
pub use Rattle.ir_builder_forms.specs.declared.form.Unbuilt.{Unbuilt}
pub use Rattle.py_syntax.specs.Statements.{body_tree}
pub use Rattle.py_syntax.specs.declared.expression.CmpOp.{CmpOp}
pub use Rattle.py_syntax.specs.declared.token.Span.{Span}
pub use Rattle.py_typed.proofs.FitLemmas.{and_left, and_right, one_type}
pub use Rattle.py_typed.specs.Classes.{ClassEntry, Signature}
pub use Rattle.py_typed.specs.Expressions.{And, Append, Arith, At, Call, Coerce, Compare, Comparisons, Concat, Cond, Flag, Global, Input, Int, Len, ListOf, Local, Neg, Not, Nothing, Or, Pop, Print, Str, ToStr, Truth, TupleAt, TupleOf, TypedExpr, TypedExprs, TypedNode, comparison_then, comparisons_of, expr_then, exprs_of, no_comparisons, no_exprs, type_of, typed, typed_comparison, typed_expr}
pub use Rattle.py_typed.specs.Fits.{are_same_types, is_nothing, is_number, is_same_type, number_join}
pub use Rattle.py_typed.specs.Narrowing.{after, bound_suite, facts, is_in, without}
pub use Rattle.py_typed.specs.Sorts.{Sort, Sorts, listed_sorts, sort, sorts_of}
pub use Rattle.py_typed.specs.Statements.{Arms, Assign, Aug, Break, Continue, Do, ForList, ForRange, GlobalTarget, If, ItemTarget, LocalTarget, Pass, Return, TypedAct, TypedFunc, TypedModule, TypedStmt, TypedSuite, TypedTarget, Variable, While, arm_then, arms_of, no_arms, no_stmts, on_line, stmt_then, typed_arm, typed_func, typed_suite, typed_target, variable}
pub use Rattle.py_typed.specs.WellTyped.{act_typed, all_differ, arms_typed, is_called_in, is_single, read_type, return_fits, stmt_typed, suite_typed}
pub use Rattle.py_typed.specs.WellTypedExpr.{are_numbers, are_texts, are_value_types, are_values, call_fits, chain_typed, declared, indexed, init_class, is_bar, is_literal, is_printable, is_result_type, is_type, is_typed, operation_sort, parts_typed, reads_as, row_fits, rule, stands, tuple_sort, types_of}
pub use Rattle.py_typed.specs.declared.statement.TStmt.{TStmt, size-TStmt}
pub use Rattle.std.proofs.Common.{Bool, List, None, Option, Some, [], ap, arith, drop, false, inl, inr, length, map, max, refl, subst, suc, sym, true, zero, ℕ, ⊎_elim, ◌*◌, ◌++◌, ◌+◌, ◌<◌, ◌∙◌, ◌∷◌, ◌≡◌, ◌≤◌}
pub use Rattle.std.proofs.lemmas.Bool.{leb-true, ltb-true, or_cases}
pub use Rattle.std.proofs.lemmas.Option.{same_Some, slice_get_within}
pub use Rattle.std.specs.List.{flat_map, list_all, list_any}
pub use Rattle.std.specs.Option.{option_map}
pub use Rattle.std.specs.Prelude.{if◌then◌else◌, is_some, nat_le, nat_lt, negsuc, not, pos, slice_get, ℤ, ◌&&◌}
