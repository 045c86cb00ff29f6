use Rattle.std.proofs.Common.{◌≡◌, drop}
use Rattle.std.specs.Str.{bytes_eq}
use Rattle.indexmap.specs.IndexSet.{insert_all}
use Rattle.class_layout_members.proofs.names.add_all.Given as goal

abbrev pub invariant-loop-name : goal.invariant-loop-name
invariant-loop-name l = insert_all bytes_eq l.names.keys (drop l.name-index l.more) ≡ insert_all bytes_eq l.fn.names.keys l.more
