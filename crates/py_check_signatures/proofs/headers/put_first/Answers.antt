use Rattle.std.proofs.Common.{rules, ◌≡◌, ◌∙◌, [], map, ap}
use Rattle.std.specs.Option.{option_map}
use Rattle.py_typed.specs.Sorts.{sort}
use Rattle.py_check_signatures.proofs.HeaderLemmas.{own_put}
use Rattle.py_check_signatures.proofs.headers.put_first.Goals as goal

pub returns-then-not-is_empty : goal.returns-then-not-is_empty
returns-then-not-is_empty c =
    let some : ¬ (c.args.types.now ≡ []) = search (rules, c.is_empty.ensures, c.if-not-is_empty.true) in
    ap (map (option_map sort)) c.set.ensures ∙ own_put c.args.own c.args.types.now some
