use Rattle.std.proofs.Common.{◌∙◌, ap}
use Rattle.std.specs.Str.{bytes_eq}
use Rattle.std.specs.Map.{lookup}
use Rattle.indexmap.specs.IndexMap.{get}
use Rattle.py_check_names.specs.Walked.{trees}
use Rattle.py_check_classes.specs.Names.{numbered}
use Rattle.py_check_classes.proofs.StepLemmas.{headers_by}
use Rattle.py_check_classes.proofs.headers.module_classes.Goals as goal

pub returns : goal.returns
returns c =
    record {
      said = λ name. c.in_ok-said.ensures name ∙ ap (λ pairs. lookup (bytes_eq name) (numbered 0 pairs)) c.in_ok-outline.ensures.said;
      headers = c.in_ok-found.ensures.headers ∙ headers_by (get bytes_eq c.in_ok-said.said) (trees c.args.definitions.now) c.in_ok-outline.outline.said.items c.in_ok-outline.ensures.said c.in_ok-said.ensures;
      kept = c.in_ok-found.ensures.kept;
    }
