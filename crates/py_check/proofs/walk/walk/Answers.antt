use Rattle.std.proofs.Common.{map}
use Rattle.std.specs.Option.{option_map}
use Rattle.py_typed.specs.Statements.{typed_stmt}
use Rattle.py_check_context.specs.Context.{context}
use Rattle.py_check_places.specs.Views.{known_at}
use Rattle.py_check_definitions.specs.Views.{classes_seen}
use Rattle.py_check.proofs.WalkLemmas.{typed_step, said_step, known_step, typed_ends, said_ends, walk_ends}
use Rattle.py_check.proofs.walk.walk.Goals as goal

pub loop-s-preserved : goal.loop-s-preserved
loop-s-preserved c =
    let C = context c.args.scope.now in
    let xs = c.args.body.now in
    let i = c.loop-s.s-index in
    let s = c.s-item.result in
    let k = known_at c.loop-s.place in
    let k1 = known_at c.statement.new.place in
    let classes = classes_seen c.args.classes in
    record {
      typed = typed_step C xs i s c.loop-s-test.true c.s-item.is k k1 _ _ _ _ c.in_ok-one.ensures.known c.in_ok-one.ensures.told.0 c.in_ok-typed.ensures c.loop-s.invariant.typed;
      told = said_step C xs i s c.loop-s-test.true c.s-item.is classes k k1 _ _ _ _ _ _ _ _ _ _ c.in_ok-one.ensures.known c.in_ok-rest.ensures.names c.in_ok-rest.ensures.classes c.in_ok-rest.ensures.scopes c.in_ok-rest.ensures.told c.in_ok-one.ensures.told.1 c.loop-s.invariant.told;
      known = known_step C xs i s c.loop-s-test.true c.s-item.is k k1 _ c.in_ok-one.ensures.known c.loop-s.invariant.known;
    }

pub returns : goal.returns
returns c =
    let C = context c.args.scope.now in
    let xs = c.args.body.now in
    let i = c.loop-s.s-index in
    let k = known_at c.loop-s.place in
    record {
      typed = typed_ends C xs i c.loop-s-test.false k (option_map (map typed_stmt) c.loop-s.typed) _ c.loop-s.invariant.typed;
      told = said_ends C xs i c.loop-s-test.false (classes_seen c.args.classes) k _ _ _ _ _ c.loop-s.invariant.told;
      known = walk_ends C xs i c.loop-s-test.false k _ c.loop-s.invariant.known;
    }
