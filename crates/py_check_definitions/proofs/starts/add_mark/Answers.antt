use Rattle.std.proofs.Common.{rules, ◌≡◌, ◌∙◌, cond, List, ℕ, Some, ap}
use Rattle.std.specs.Str.{bytes_eq}
use Rattle.indexmap.specs.IndexMap.{get}
use Rattle.py_check_definitions.proofs.starts.add_mark.Goals as goal

pub returns : goal.returns
returns c = λ name.
    let copied : c.in_ok-clone.field-0 ≡ c.args.binding.now.name.now = search rules in
    c.in_ok-insert.ensures.updates.0 name ∙ ap (λ (n : List ℕ). cond (bytes_eq n name) (Some c.args.binding.now.mark) (get bytes_eq c.args.marks.now name)) copied
