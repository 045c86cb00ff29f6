use Rattle.std.proofs.Common.{ap}
use Rattle.std.specs.Str.{bytes_eq}
use Rattle.indexmap.specs.IndexMap.{get}
use Rattle.py_check_names.specs.Walked.{trees}
use Rattle.py_check_classes.specs.Names.{classes_in}
use Rattle.py_check_classes.specs.Headers.{headers_behind}
use Rattle.py_check_classes.proofs.StepLemmas.{kept_none, headers_on}
use Rattle.py_check_classes.proofs.headers.headers_of.Goals as goal

pub loop-s-init : goal.loop-s-init
loop-s-init c =
    record {
      kept = kept_none c.new-headers.result c.new-orders.result c.new-headers.ensures c.new-orders.ensures;
      headers = ap (λ h. headers_behind (get bytes_eq c.args.said.now) h (classes_in (trees c.args.definitions.now))) c.new-headers.ensures;
    }

pub loop-s-preserved : goal.loop-s-preserved
loop-s-preserved c =
    record {
      kept = c.in_ok-add_definition.ensures.kept;
      headers = headers_on c.args.definitions.now c.loop-s.s-index c.s-item.result c.loop-s-test.true c.s-item.is (get bytes_eq c.args.said.now) c.loop-s.headers c.add_definition.new.headers _ c.in_ok-add_definition.ensures.headers c.loop-s.invariant.headers;
    }
