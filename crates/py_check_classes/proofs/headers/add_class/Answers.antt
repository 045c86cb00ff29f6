use Rattle.std.proofs.Common.{map, sym, subst}
use Rattle.std.specs.Str.{bytes_eq}
use Rattle.indexmap.specs.IndexMap.{get}
use Rattle.py_check_classes.specs.Headers.{entry}
use Rattle.py_check_classes.specs.Kept.{AreKept}
use Rattle.py_check_classes.specs.Views.{class_parts}
use Rattle.py_check_classes.proofs.StepLemmas.{class_added, class_kept}
use Rattle.py_check_classes.proofs.headers.add_class.Goals as goal

pub header_of-requires : goal.header_of-requires
header_of-requires c = subst (λ z. AreKept (map entry z) c.args.orders.now) (sym c.as_slice.ensures) c.requires

pub returns : goal.returns
returns c =
    record {
      headers = class_added (get bytes_eq c.args.said.now) c.args.headers.now c.as_slice.result.now c.push.new.self c.args.c.now c.in_ok-found.found.header c.as_slice.ensures c.in_ok-found.ensures.header c.in_ok-push.ensures.ok;
      kept = class_kept (get bytes_eq c.args.said.now) c.args.headers.now c.as_slice.result.now c.push.new.self (class_parts c.args.c.now) c.in_ok-found.found.header c.args.orders.now c.push-2.new.self c.in_ok-found.found.order c.as_slice.ensures c.requires c.in_ok-found.ensures.header c.in_ok-found.ensures.order c.in_ok-push.ensures.ok c.in_ok-push-2.ensures.ok;
    }
