use Rattle.std.proofs.Common.{◌≡◌, ◌==◌, false, map, arith}
use Rattle.std.proofs.lemmas.Bool.Decides.{nat_tests}
use Rattle.py_typed.specs.Classes.{class_entry}
use Rattle.py_typed.proofs.AboveLemmas.{under_told}
use Rattle.py_typed.proofs.class_list.ClassList.is_under.Goals as goal

pub returns-else-c-d : goal.returns-else-c-d
returns-else-c-d c =
    let differ : (c.args.c == c.args.d) ≡ false = grind (arith, nat_tests, c.if-c-d.false) in
    cc (c.told.ensures, c.as_slice.ensures, c.self.view_is, under_told (map class_entry c.self.inside.classes) c.self.inside.above c.self.invariant c.args.c c.args.d differ)
