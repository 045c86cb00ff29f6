use Rattle.std.proofs.Common.{◌∙◌, map, ap}
use Rattle.std.specs.Str.{bytes_eq}
use Rattle.indexmap.specs.IndexSet.{contains}
use Rattle.class_layout_members.specs.Views.{member}
use Rattle.class_layout_members.specs.Clashes.{clash_among}
use Rattle.class_layout_members.proofs.FirstLemmas.{clash_is}
use Rattle.class_layout_members.proofs.clash.clash_along.Goals as goal

pub returns : goal.returns
returns c =
    c.first_among.ensures
    ∙ clash_is (map member c.as_slice-members.result.now) (contains bytes_eq c.in_ok-clashing.clashing) c.in_ok-clashing.ensures
    ∙ ap clash_among (ap (map member) c.as_slice-members.ensures ∙ c.in_ok-row.ensures)
