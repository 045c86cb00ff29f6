use Rattle.std.proofs.Common.{◌≡◌, ◌+◌, ◌*◌, max, map, drop}
use Rattle.std.specs.Option.{option_map}
use Rattle.py_syntax.specs.Statements.{arms_of, arm_tree, body_tree, handlers_of, handler_tree}
use Rattle.py_typed.specs.Statements.{typed_stmt, typed_arm, typed_handler}
use Rattle.py_check_context.specs.Context.{context}
use Rattle.py_check_messages.proofs.RowLemmas.{Remains}
use Rattle.py_check_values.specs.Returns.{return_sort}
use Rattle.py_check_places.specs.Places.{setting_out}
use Rattle.py_check_places.specs.Views.{known_at}
use Rattle.py_check_statements.specs.Bodies.{block, block_after, branches, arms_after, clauses, handlers_after}
use Rattle.py_check_statements.specs.Views.{way}
use denote.Param.Weighed.{most}
use Rattle.py_syntax.specs.declared.statement.Stmt.{size-Stmt}
use Rattle.py_syntax.specs.declared.statement.Handler.{size-Handler}
use Rattle.py_check_statements.proofs.SizeLemmas.{arm_size, last_size}
use Rattle.py_check_statements.proofs.blocks.+statement.Given as goal

abbrev pub decreases-act : goal.decreases-act
decreases-act l = size-Stmt l.s.now * 6

abbrev pub decreases-conditional : goal.decreases-conditional
decreases-conditional l = max (most arm_size l.arms.now) (most size-Stmt l.other.now) * 6 + 5

abbrev pub decreases-branches : goal.decreases-branches
decreases-branches l = most arm_size l.arms.now * 6 + 4

abbrev pub decreases-while_loop : goal.decreases-while_loop
decreases-while_loop l = most size-Stmt l.body.now * 6 + 4

abbrev pub decreases-for_loop : goal.decreases-for_loop
decreases-for_loop l = most size-Stmt l.parts.body.now * 6 + 4

abbrev pub decreases-try_statement : goal.decreases-try_statement
decreases-try_statement l = max (most size-Stmt l.parts.body.now) (max (most size-Handler l.parts.handlers.now) (last_size l.parts.last.now)) * 6 + 5

abbrev pub decreases-clauses : goal.decreases-clauses
decreases-clauses l = most size-Handler l.handlers.now * 6 + 4

abbrev pub decreases-clause : goal.decreases-clause
decreases-clause l = size-Handler l.handler.now * 6 + 3

abbrev pub decreases-maybe_block : goal.decreases-maybe_block
decreases-maybe_block l = last_size l.last.now * 6 + 3

abbrev pub decreases-guarded : goal.decreases-guarded
decreases-guarded l = most size-Stmt l.body.now * 6 + 3

abbrev pub decreases-block : goal.decreases-block
decreases-block l = most size-Stmt l.body.now * 6 + 2

abbrev pub invariant-block-loop-s : goal.invariant-block-loop-s
invariant-block-loop-s l = record {
  row :
      Remains (option_map (map typed_stmt) l.found) l.fn.faults l.faults
      (block (context l.scope) (return_sort l.inside.returns) l.inside.around (known_at l.fn.place) (body_tree l.body))
      (block (context l.scope) (return_sort l.inside.returns) l.inside.around (known_at l.place) (body_tree (drop l.s-index l.body)));
  known : block_after (context l.scope) (known_at l.fn.place) (body_tree l.body) ≡ block_after (context l.scope) (known_at l.place) (body_tree (drop l.s-index l.body));
}

abbrev pub invariant-branches-loop-e : goal.invariant-branches-loop-e
invariant-branches-loop-e l = record {
  row :
      Remains (option_map (map typed_arm) l.found) l.fn.faults l.faults
      (branches (context l.scope) (return_sort l.inside.returns) l.inside.around (setting_out (known_at l.fn.place)) (arms_of (map arm_tree l.arms)))
      (branches (context l.scope) (return_sort l.inside.returns) l.inside.around (way (known_at l.place) (option_map (λ v. v.items) l.ends)) (arms_of (map arm_tree (drop l.e-index l.arms))));
  known :
      arms_after (context l.scope) (setting_out (known_at l.fn.place)) (arms_of (map arm_tree l.arms))
      ≡ arms_after (context l.scope) (way (known_at l.place) (option_map (λ v. v.items) l.ends)) (arms_of (map arm_tree (drop l.e-index l.arms)));
}

abbrev pub invariant-clauses-loop-i : goal.invariant-clauses-loop-i
invariant-clauses-loop-i l = record {
  row :
      Remains (option_map (map typed_handler) l.found) l.fn.faults l.faults
      (clauses (context l.scope) (return_sort l.inside.returns) l.inside.around l.names (known_at l.fn.place) (handlers_of (map handler_tree l.handlers)))
      (clauses (context l.scope) (return_sort l.inside.returns) l.inside.around l.names (known_at l.place) (handlers_of (map handler_tree (drop l.i l.handlers))));
  known :
      handlers_after (context l.scope) l.names (known_at l.fn.place) (handlers_of (map handler_tree l.handlers))
      ≡ handlers_after (context l.scope) l.names (known_at l.place) (handlers_of (map handler_tree (drop l.i l.handlers)));
}
