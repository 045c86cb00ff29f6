use Rattle.std.proofs.Common.{◌∙◌, option_and_then, option_map, codes, ap}
use Rattle.std.specs.Str.{bytes_eq}
use Rattle.indexmap.specs.IndexMap.{get}
use Rattle.py_check_context.specs.Members.{member}
use Rattle.py_check_members.specs.Members.{function_of}
use Rattle.py_check_members.proofs.OrderLemmas.{lookup_map}
use Rattle.py_check_members.proofs.tables.own_init.Goals as goal

pub returns : goal.returns
returns c =
    c.function_of.ensures
    ∙ ap (λ o. option_and_then function_of (option_map member o)) c.get.ensures.value
    ∙ ap (λ n. option_and_then function_of (option_map member (get bytes_eq c.args.own.now n))) c.in_ok-name.ensures
    ∙ ap (option_and_then function_of) (lookup_map member (bytes_eq (codes "__init__")) c.args.own.now.entries)
