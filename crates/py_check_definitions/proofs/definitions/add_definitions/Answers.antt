use Rattle.std.proofs.Common.{◌∙◌, drop, ap}
use Rattle.py_check_context.specs.Context.{context}
use Rattle.py_check_places.specs.Views.{known_at}
use Rattle.py_check_definitions.specs.Views.{classes_seen}
use Rattle.py_check_definitions.proofs.DefinitionLemmas.{walk_step, names_step, classes_step, scopes_step}
use Rattle.py_check_definitions.proofs.definitions.add_definitions.Goals as goal

pub loop-s-preserved : goal.loop-s-preserved
loop-s-preserved c =
    let left = c.behind-rest.ensures ∙ ap (λ n. drop n c.loop-s.rest.now) c.in_ok-held.ensures.held in
    record {
      told = walk_step c.args.definitions.now c.loop-s.s-index c.s-item.result c.loop-s-test.true c.s-item.is (classes_seen c.args.classes) (context c.args.scope.now) (known_at c.args.place.now) _ _ c.in_ok-held.ensures.names _ _ c.in_ok-held.ensures.classes _ _ left _ _ _ c.in_ok-add_definition.ensures c.loop-s.invariant.told;
      names = names_step c.args.definitions.now c.loop-s.s-index c.s-item.result c.loop-s-test.true c.s-item.is _ _ c.in_ok-held.ensures.names _ c.loop-s.invariant.names;
      classes = classes_step c.args.definitions.now c.loop-s.s-index c.s-item.result c.loop-s-test.true c.s-item.is _ _ c.in_ok-held.ensures.classes _ c.loop-s.invariant.classes;
      scopes = scopes_step c.args.definitions.now c.loop-s.s-index c.s-item.result c.loop-s-test.true c.s-item.is _ _ left _ c.loop-s.invariant.scopes;
    }
