use Rattle.std.proofs.Common.{◌≡◌, [], map, drop}
use Rattle.std.specs.Str.{bytes_eq}
use Rattle.indexmap.specs.IndexMap.{get}
use Rattle.py_check_names.specs.Walked.{trees}
use Rattle.py_check_classes.specs.Names.{classes_in}
use Rattle.py_check_classes.specs.Headers.{entry, headers_behind}
use Rattle.py_check_classes.specs.Kept.{AreKept}
use Rattle.py_check_classes.proofs.headers.headers_of.Given as goal

abbrev pub invariant-loop-s : goal.invariant-loop-s
invariant-loop-s l =
    record {
      kept : AreKept (map entry l.headers) l.orders;
      headers : headers_behind (get bytes_eq l.said) l.headers (classes_in (trees (drop l.s-index l.definitions))) ≡ headers_behind (get bytes_eq l.said) [] (classes_in (trees l.definitions));
    }
