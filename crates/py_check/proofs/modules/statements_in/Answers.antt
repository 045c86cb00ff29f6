use Rattle.std.proofs.Common.{◌∙◌, ◌++◌, [], ap}
use Rattle.py_syntax.specs.Statements.{body_tree}
use Rattle.py_check_context.specs.Context.{context}
use Rattle.py_check_values.specs.Returns.{outside}
use Rattle.py_check_places.specs.Places.{Known}
use Rattle.py_check_statements.specs.Bodies.{nothing_around, block, block_after}
use Rattle.py_check_definitions.specs.Views.{classes_seen}
use Rattle.py_check.specs.Parts.{walk_along}
use Rattle.py_check.proofs.modules.statements_in.Goals as goal

pub returns : goal.returns
returns c =
    let C = context c.args.scope.now in
    let m = body_tree c.args.body.now in
    record {
      typed = c.in_ok-typed.ensures.typed ∙ ap (λ (k : Known). (block C outside nothing_around k m).got) c.in_ok-place.ensures;
      told = c.in_ok-typed.ensures.told ∙ ap (λ (k : Known). c.args.faults.now ++ walk_along (classes_seen c.args.tables) C k [] 0 c.args.insides.now m) c.in_ok-place.ensures;
      known = ap (λ (k : Known). k.types.globals) (c.in_ok-typed.ensures.known ∙ ap (λ k. block_after C k m) c.in_ok-place.ensures);
    }
