use Rattle.std.proofs.Common.{rules, ◌≡◌, None, true, refl}
use Rattle.std.specs.Str.{bytes_eq}
use Rattle.indexmap.specs.IndexMap.{get}
use Rattle.class_layout_members.specs.Views.{definition}
use Rattle.py_check_overrides.specs.Lines.{known, known_or_new, said_in}
use Rattle.py_check_overrides.proofs.TakenLemmas.{taken_new}
use Rattle.py_check_overrides.proofs.below.take_definition.Goals as goal

pub returns-in_ok-add_first-in-None : goal.returns-in_ok-add_first-in-None
returns-in_ok-add_first-in-None c =
    let place = c.args.place.now in
    let name = c.args.name.now in
    let none : known_or_new (known place.lines.now place.base) (said_in c.args.new.now) name ≡ None = search (rules, c.known_or_new.ensures, c.in-None.is) in
    taken_new place.class (known place.lines.now place.base) name (definition c.args.definition) (get bytes_eq c.args.new.now) _ (get bytes_eq c.add_first.new.firsts) true none refl refl c.in_ok-add_first-in-None.ensures
