use Rattle.std.proofs.Common.{◌≡◌, map}
use Rattle.py_check_context.specs.Members.{member}
use Rattle.py_check_members.specs.Views.{own_of}
use Rattle.py_check_definitions.specs.Refused.{are_whole}
use Rattle.py_check_definitions.proofs.refused.all_whole.Given as goal

abbrev pub invariant-loop-member : goal.invariant-loop-member
invariant-loop-member l = record {
  can_next : (goal.iterator-loop-member).can_next l.member-iterator;
  is_finite : (goal.iterator-loop-member).is_finite l.member-iterator;
  rest : are_whole (map (λ p. (p.0, member p.1)) l.member-iterator) ≡ are_whole (own_of l.members);
}
