use Rattle.std.proofs.Common.{◌≡◌}
use Rattle.c_core.specs.declared.code.Kind.TheVariants.{Tagged, Int64, Char, Object}
use Rattle.c_text.proofs.PlaceTables.{of_any_kind}
use Rattle.c_text.proofs.variable.Variables.of_name.Goals as goal

pub returns : goal.returns
returns c =
    let name = c.args.name.now in
    let first = c.self.invariant.first in
    let same : c.self.inside.declared ≡ c.args.self.now = c.self.view_is in
    cc (of_any_kind name c.self.inside.declared, first Tagged name, first Object name, first Int64 name, first Char name)
