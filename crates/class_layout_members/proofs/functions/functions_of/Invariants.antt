use Rattle.std.proofs.Common.{◌≡◌, ◌++◌, true, Some, map, drop, is_some, option_copied}
use Rattle.std.specs.List.{list_all}
use Rattle.std.specs.Str.{bytes_eq}
use Rattle.indexmap.specs.IndexMap.{get}
use Rattle.class_layout_members.specs.Tables.{keys_in, found_or_above}
use Rattle.class_layout_members.proofs.functions.functions_of.Given as goal

abbrev pub invariant-loop-name : goal.invariant-loop-name
invariant-loop-name l =
    let f = found_or_above (get bytes_eq l.found) (keys_in (option_copied l.above)) l.functions in
    record {
      kept : map Some l.all ++ map f (drop l.name-index l.names) ≡ map f l.names;
      there : list_all (λ name. is_some (f name)) (drop l.name-index l.names) ≡ true;
    }
