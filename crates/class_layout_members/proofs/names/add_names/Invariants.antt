use Rattle.std.proofs.Common.{◌≡◌, drop}
use Rattle.std.specs.Str.{bytes_eq}
use Rattle.indexmap.specs.IndexSet.{insert_all}
use Rattle.class_layout_members.specs.Names.{names_in}
use Rattle.class_layout_members.proofs.names.add_names.Given as goal

abbrev pub invariant-loop-name : goal.invariant-loop-name
invariant-loop-name g l = insert_all bytes_eq l.names.keys (names_in (drop l.name-index l.row)) ≡ insert_all bytes_eq l.fn.names.keys (names_in l.row)
