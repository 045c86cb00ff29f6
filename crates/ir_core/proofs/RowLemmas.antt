-- The row of each primitive is found by its name.
use Rattle.std.proofs.Common.{◌≡◌, refl, Some}
use Rattle.c_core.specs.declared.primitive.Primitive.{Primitive}
use Rattle.c_core.specs.declared.primitive.Primitive.TheVariants as prim
use Rattle.c_core.specs.declared.primitive.Int64Prim.TheVariants as int64
use Rattle.c_core.specs.declared.primitive.TaggedPrim.TheVariants as tagged
use Rattle.c_core.specs.declared.primitive.BoolPrim.TheVariants as bool
use Rattle.c_core.specs.declared.primitive.ObjectPrim.TheVariants as object
use Rattle.c_core.specs.declared.primitive.StrPrim.TheVariants as str
use Rattle.c_core.specs.declared.primitive.ListPrim.TheVariants as list
use Rattle.c_core.specs.declared.primitive.DictPrim.TheVariants as dict
use Rattle.c_core.specs.declared.primitive.TuplePrim.TheVariants as tuple
use Rattle.c_core.specs.declared.primitive.InstancePrim.TheVariants as instance
use Rattle.c_core.specs.declared.primitive.AttrPrim.TheVariants as attr
use Rattle.c_core.specs.declared.primitive.GlobalPrim.TheVariants as global
use Rattle.c_core.specs.declared.primitive.ExcPrim.TheVariants as exc
use Rattle.c_core.specs.declared.primitive.ErrPrim.TheVariants as err
use Rattle.c_core.specs.declared.primitive.IoPrim.TheVariants as io
use Rattle.c_core.specs.Primitives.{row_of, primitive_named}

pub primitive_found : (q : Primitive) → primitive_named (row_of q).name ≡ Some q
primitive_found (prim.Int64 int64.Add) = refl
primitive_found (prim.Bool bool.Not) = refl
primitive_found (prim.Str str.Literal) = refl
primitive_found (prim.Global global.Get) = refl
primitive_found (prim.Exc exc.New) = refl
primitive_found (prim.Err err.SetObject) = refl
primitive_found (prim.Io io.Write) = refl
primitive_found (prim.Tagged tagged.Add) = refl
primitive_found (prim.Object object.IsNone) = refl
primitive_found (prim.List list.New) = refl
primitive_found (prim.Dict dict.New) = refl
primitive_found (prim.Tuple tuple.Pack) = refl
primitive_found (prim.Instance instance.New) = refl
primitive_found (prim.Attr attr.Get) = refl
primitive_found _ = refl
