use Rattle.std.proofs.Common.{ap, ◌∙◌}
use Rattle.std.specs.Prelude.{is_some}
use Rattle.std.specs.Str.{bytes_eq}
use Rattle.c_core.proofs.IndexLemmas.{is_there}
use Rattle.c_core.proofs.checked.is_numbered.Goals as goal

pub returns : goal.returns
returns g c =
    c.contains_key.ensures ∙ (ap is_some (c.requires c.args.name.now) ∙ is_there (λ item. bytes_eq c.args.name.now (g.T.Named.name_of item)) c.args._items.now)
