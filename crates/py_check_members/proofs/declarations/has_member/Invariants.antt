use Rattle.std.proofs.Common.{◌≡◌, map, drop}
use Rattle.std.specs.List.{list_any}
use Rattle.py_check_members.specs.Members.{is_declared, own_member}
use Rattle.py_check_members.specs.Views.{own_of}
use Rattle.py_check_members.proofs.declarations.has_member.Given as goal

abbrev pub invariant-loop-class : goal.invariant-loop-class
invariant-loop-class l =
    list_any (λ b. is_declared (own_member (map own_of l.behind.classes.now) l.name b)) (drop l.class-index l.behind.row.now)
    ≡ list_any (λ b. is_declared (own_member (map own_of l.behind.classes.now) l.name b)) l.behind.row.now
