use Rattle.std.proofs.Common.{rules, ◌≡◌}
use Rattle.std.specs.Option.{option_map, option_copied}
use Rattle.py_syntax.specs.Expressions.{expr_tree}
use Rattle.py_syntax.specs.Statements.{stmt_tree}
use Rattle.py_typed.specs.Sorts.{sort}
use Rattle.py_check_context.specs.Context.{context}
use Rattle.py_check_messages.specs.Seen.{Tells}
use Rattle.py_check_places.specs.Views.{known_at}
use Rattle.py_check_loops.specs.Heads.{some_items, for_head}
use Rattle.py_check_loops.specs.Views.{boxed_head, over_seen}
use Rattle.py_check_loops.proofs.HeadLemmas.{head_says, head_knows}
use Rattle.py_check_loops.proofs.head.begin_for.Goals as goal

pub returns-clause-told : goal.returns-clause-told
returns-clause-told c =
    let over = c.in_ok-over.over in
    let items : option_map sort (option_copied c.as_deref-items.result) ≡ some_items (over_seen over).got = search (rules, c.as_deref-items.ensures, c.in_ok-items.ensures) in
    head_says (context c.args.scope.now) (known_at c.args.place.now) (known_at c.enter.new.place) (stmt_tree c.args.s.now) c.args.span (expr_tree c.args.target.now) (expr_tree c.args.e.now) (over_seen over) (option_map sort (option_copied c.as_deref-items.result)) c.in_ok-head.head c.args.faults.now c.typed_head.new.faults
    c.in_ok-over.ensures items c.in_ok-enter.ensures c.in_ok-head.ensures

pub returns-clause-known : goal.returns-clause-known
returns-clause-known c =
    let scope = context c.args.scope.now in
    let known = known_at c.args.place.now in
    let over = c.in_ok-over.over in
    let t = option_map sort (option_copied c.as_deref-items.result) in
    let items : t ≡ some_items (over_seen over).got = search (rules, c.as_deref-items.ensures, c.in_ok-items.ensures) in
    let told : Tells boxed_head c.in_ok-head.head c.args.faults.now c.typed_head.new.faults (for_head scope known (stmt_tree c.args.s.now) c.args.span (expr_tree c.args.target.now) (expr_tree c.args.e.now)) =
    head_says scope known (known_at c.enter.new.place) (stmt_tree c.args.s.now) c.args.span (expr_tree c.args.target.now) (expr_tree c.args.e.now) (over_seen over) t c.in_ok-head.head c.args.faults.now c.typed_head.new.faults c.in_ok-over.ensures items c.in_ok-enter.ensures c.in_ok-head.ensures in
    head_knows scope known (known_at c.enter.new.place) (known_at c.bind_target.new.place) (stmt_tree c.args.s.now) c.args.span (expr_tree c.args.target.now) (expr_tree c.args.e.now) (over_seen over) t c.in_ok-head.head c.is_some.result c.args.faults.now c.typed_head.new.faults
    c.in_ok-over.ensures items c.in_ok-enter.ensures c.is_some.ensures told c.in_ok-bind_target.ensures
