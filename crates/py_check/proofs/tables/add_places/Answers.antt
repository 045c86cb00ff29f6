use Rattle.std.proofs.Common.{◌∙◌, ◌++◌, ◌∷◌, [], ap, map}
use Rattle.std.specs.Str.{bytes_eq}
use Rattle.indexmap.specs.IndexMap.{get}
use Rattle.py_syntax.specs.Statements.{body_tree}
use Rattle.py_check_members.specs.Members.{declaring}
use Rattle.py_check.proofs.WholeLemmas.{places_one}
use Rattle.py_check.proofs.tables.add_places.Goals as goal

pub returns : goal.returns
returns c =
    places_one c.args.all.now c.in_ok-places.places c.push.new.self (declaring (body_tree c.as_slice.result.now)) c.in_ok-push.ensures.ok c.in_ok-places.ensures
    ∙ ap (λ b. map (λ d. get bytes_eq d) c.args.all.now ++ declaring (body_tree b) ∷ []) c.as_slice.ensures
