use Rattle.std.proofs.Common.{◌≡◌, ◌++◌, List, Option, IfOk, ap, subst₂}
use Rattle.py_typed.specs.Statements.{TypedStmt, typed_func}
use Rattle.py_check_context.specs.Context.{VarSort, context}
use Rattle.py_check_places.specs.Places.{Known}
use Rattle.py_check_places.specs.Views.{known_at}
use Rattle.py_check_statements.proofs.BodyLemmas.{always}
use Rattle.py_check_definitions.specs.Views.{headed_parts}
use Rattle.py_check.specs.Module.{function_by, body, body_after}
use Rattle.py_check.proofs.bodies.function_in.Goals as goal

pub returns : goal.returns
returns c =
    let C = context c.args.scope.now in
    let names = c.args.variables.now.keys in
    let sorts = (known_at c.args.place.now).types.globals in
    let f = headed_parts c.args.f.now in
    let P : List VarSort → Option (List TypedStmt) → Type 0 = λ locals typed. IfOk c.with_body.result (λ t. typed_func t ≡ function_by f locals typed) in
    record {
      typed = subst₂ P (ap (λ (k : Known). k.types.locals) c.in_ok-body.ensures.known) c.in_ok-body.ensures.told.0 c.with_body.ensures;
      told = always c.with_body.result (c.body_in.new.faults ≡ c.args.faults.now ++ (body C names sorts f).said) c.in_ok-body.ensures.told.1;
      known = always c.with_body.result ((known_at c.body_in.new.place).types.globals ≡ (body_after C names sorts f).types.globals) (ap (λ (k : Known). k.types.globals) c.in_ok-body.ensures.known);
    }
