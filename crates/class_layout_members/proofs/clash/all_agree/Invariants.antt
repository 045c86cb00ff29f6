use Rattle.std.proofs.Common.{◌≡◌, map, drop}
use Rattle.class_layout_members.specs.Clashes.{none_other}
use Rattle.class_layout_members.specs.Views.{definitions_in, member}
use Rattle.class_layout_members.proofs.clash.all_agree.Given as goal

abbrev pub invariant-loop-member : goal.invariant-loop-member
invariant-loop-member l = none_other (definitions_in l.firsts) (map member (drop l.member-index l.members)) ≡ none_other (definitions_in l.firsts) (map member l.members)
