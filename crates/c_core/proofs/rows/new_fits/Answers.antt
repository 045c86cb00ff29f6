use Rattle.std.proofs.Common.{ap, sym}
use Rattle.std.specs.Prelude.{◌&&◌}
use Rattle.c_core.specs.declared.primitive.Primitive.TheVariants as prim
use Rattle.c_core.specs.declared.primitive.ExcPrim.TheVariants as exc
use Rattle.c_core.specs.Primitives.{row_of}
use Rattle.c_core.specs.WellFormed.{target_fits}
use Rattle.c_core.proofs.WellFormedLemmas.{too_many}
use Rattle.c_core.proofs.rows.new_fits.Goals as goal

pub returns-in_default-4 : goal.returns-in_default-4
returns-in_default-4 c =
    λ code. sym (ap (λ b. b && target_fits code c.args.vars.now c.args.args.now (row_of (prim.Exc exc.New)).outcome c.args.target) (too_many code c.args.vars.now c.args.args.now (row_of (prim.Exc exc.New)).parameters c.args.args.now c.in_default.len_at_least))
