use Rattle.std.proofs.Common.{◌≡◌, ◌&&◌, map, drop}
use Rattle.std.specs.List.{list_any}
use Rattle.std.specs.Str.{bytes_eq}
use Rattle.class_layout_members.specs.Clashes.{is_other}
use Rattle.class_layout_members.specs.Views.{definitions_in}
use Rattle.py_check_overrides.specs.Overrides.{defined}
use Rattle.py_check_overrides.specs.Views.{own}
use Rattle.py_check_overrides.proofs.clash.says_other.Given as goal

abbrev pub invariant-loop-member : goal.invariant-loop-member
invariant-loop-member l =
    list_any (λ p. bytes_eq l.name p.0 && is_other p.0 (definitions_in l.firsts p.0) p.1) (defined (map own (drop l.member-index l.own)))
    ≡ list_any (λ p. bytes_eq l.name p.0 && is_other p.0 (definitions_in l.firsts p.0) p.1) (defined (map own l.own))
