use Rattle.std.proofs.Common.{◌≡◌, ◌++◌, true, Some, map, drop, is_some}
use Rattle.std.specs.List.{list_all}
use Rattle.class_layout.specs.Layouts.{member_in}
use Rattle.class_layout.proofs.table.LayoutTable.functions_for.Given as goal

abbrev pub invariant-loop-name : goal.invariant-loop-name
invariant-loop-name l =
    record {
      kept : map Some l.functions ++ map (member_in l.self l.class) (drop l.name-index l.names) ≡ map (member_in l.self l.class) l.names;
      there : list_all (λ name. is_some (member_in l.self l.class name)) (drop l.name-index l.names) ≡ true;
    }
