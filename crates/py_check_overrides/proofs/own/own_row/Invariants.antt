use Rattle.std.proofs.Common.{◌≡◌, ◌++◌, map}
use Rattle.std.specs.Option.{option_map}
use Rattle.py_typed.specs.Classes.{signature}
use Rattle.py_check_context.specs.Members.{member}
use Rattle.py_check_overrides.specs.Own.{own_in, own_row}
use Rattle.py_check_overrides.specs.Views.{own}
use Rattle.py_check_overrides.proofs.own.own_row.Given as goal

abbrev pub invariant-loop-name : goal.invariant-loop-name
invariant-loop-name l = record {
  can_next : (goal.iterator-loop-name).can_next l.name-iterator;
  is_finite : (goal.iterator-loop-name).is_finite l.name-iterator;
  row : map own l.row ++ own_in (map (option_map signature) l.sigs) (map (λ p. (p.0, member p.1)) l.name-iterator) ≡ own_row (map (option_map signature) l.sigs) l.class;
}
