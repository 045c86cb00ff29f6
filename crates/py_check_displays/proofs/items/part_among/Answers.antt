use Rattle.std.proofs.Common.{◌≡◌, rules, Some, None, length}
use Rattle.std.specs.Prelude.{slice_get}
use Rattle.py_check_displays.specs.Literals.{literal_seen}
use Rattle.py_check_displays.specs.Indexing.{place_in}
use Rattle.py_check_displays.proofs.PlaceLemmas.{no_part, the_part}
use Rattle.py_check_displays.proofs.items.part_among.Goals as goal

pub returns-in_default-type_at : goal.returns-in_default-type_at
returns-in_default-type_at c =
    let e : Some c.in-Some.place ≡ place_in (length c.args.ts.now) (literal_seen c.args.index) = search (rules, c.in-Some.ensures) in
    let h : None ≡ slice_get c.args.ts.now c.in-Some.place = search rules in
    no_part (literal_seen c.args.index) c.args.ts.now c.in-Some.place e h

pub returns : goal.returns
returns c =
    let e : Some c.in-Some.place ≡ place_in (length c.args.ts.now) (literal_seen c.args.index) = search (rules, c.in-Some.ensures) in
    let h : Some c.in-Some-type_at.t.now ≡ slice_get c.args.ts.now c.in-Some.place = search rules in
    the_part (literal_seen c.args.index) c.args.ts.now c.in-Some.place c.in-Some-type_at.t.now c.in_ok-t.t e h c.in_ok-t.ensures
