use Rattle.std.proofs.Common.{◌≡◌, refl, ◌∙◌, ap, codes}
use Rattle.c_core.specs.declared.code.Kind.TheVariants.{Char, Object}
use Rattle.c_core.specs.declared.primitive.ObjectPrim.{ObjectPrim}
use Rattle.c_core.specs.declared.primitive.ObjectPrim.TheVariants as object
use Rattle.c_core.specs.declared.primitive.Primitive.TheVariants as prim
use Rattle.c_core.specs.Primitives.{Anything, one_row, row_of}
use Rattle.c_core.specs.WellFormed.{row_fits}
use Rattle.c_core.proofs.rows.object_call_fits.Goals as goal

only : (o : ObjectPrim) → one_row (codes "CPyObject_IsNone") Object Anything Char ≡ row_of (prim.Object o)
only object.IsNone = refl

pub returns : goal.returns
returns c =
    λ code. c.one_fits.ensures code (codes "CPyObject_IsNone") Anything ∙ ap (row_fits code c.args.vars.now c.args.target c.args.args.now) (only c.args.operation)
