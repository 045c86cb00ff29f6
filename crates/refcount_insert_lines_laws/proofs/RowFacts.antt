-- The rows of the primitives: all but those of globals and of attributes say themselves of which kinds their variables are.
use Rattle.std.proofs.Common.{◌≡◌, refl, sym, ap, subst, Bool, true, false, ◌&&◌, List, [], ◌∷◌, Option, Some, None}
use Rattle.std.specs.Prelude.{ℕ, pos, negsuc, map, is_some}
use Rattle.std.specs.Option.{option_map}
use Rattle.c_core.specs.declared.code.Kind.TheVariants.{Object}
use Rattle.c_core.specs.declared.code.CArg.{CArg}
use Rattle.c_core.specs.declared.code.Code.{Code}
use Rattle.c_core.specs.declared.primitive.Primitive.{Primitive}
use Rattle.c_core.specs.declared.primitive.Primitive.TheVariants as prim
use Rattle.c_core.specs.declared.primitive.Int64Prim.TheVariants as int64
use Rattle.c_core.specs.declared.primitive.TaggedPrim.TheVariants as tagged
use Rattle.c_core.specs.declared.primitive.BoolPrim.TheVariants as bool
use Rattle.c_core.specs.declared.primitive.ObjectPrim.TheVariants as object
use Rattle.c_core.specs.declared.primitive.StrPrim.TheVariants as str
use Rattle.c_core.specs.declared.primitive.ListPrim.TheVariants as list
use Rattle.c_core.specs.declared.primitive.DictPrim.TheVariants as dict
use Rattle.c_core.specs.declared.primitive.TuplePrim.TheVariants as tuple
use Rattle.c_core.specs.declared.primitive.InstancePrim.TheVariants as instance
use Rattle.c_core.specs.declared.primitive.ExcPrim.TheVariants as exc
use Rattle.c_core.specs.declared.primitive.ErrPrim.TheVariants as err
use Rattle.c_core.specs.declared.primitive.IoPrim.TheVariants as io
use Rattle.c_core.specs.Primitives.{KindAt, Is, OfGlobal, OfSlot, Anything, AnInstance, Borrows, Steals, TakesPlace, TakesGlobal, Outcome, Nothing, Owned, Lent, Row, row_of}
use Rattle.c_core.specs.Machine.{Frame}
use Rattle.c_core.specs.Arguments.{Argument, kind_of_global}
use Rattle.c_core.specs.Step as steps
use Rattle.c_core.specs.WellFormed.{has_kind, kind_at, kind_fits, args_fit, target_fits}
use Rattle.c_core.proofs.Lines.{and_true}
use Rattle.ir_core.specs.declared.code.Reg.{Reg}
use Rattle.ir_core.specs.declared.code.PArg.{PArg}
use Rattle.ir_core.specs.declared.code.PArg.TheVariants as arg
use Rattle.ir_core.specs.Rows.{Declared}
use Rattle.ir_core.specs.Lower.{variable_of, number_of, argument_in}
use Rattle.refcount_insert_lines_laws.specs.Matching.{type_in}
use Rattle.refcount_insert_lines_laws.proofs.Facts.{has_type, kind_in_type}
use Rattle.refcount_insert_lines_laws.proofs.Reading.{are_read}
use Rattle.refcount_insert_lines_laws.proofs.Agreeing.{IsTarget}
use Rattle.refcount_insert_lines_laws.proofs.Rows.{answer_of, stands_elsewhere}

-- a row that is read as every other
abbrev pub has_kinds : Outcome → Bool
has_kinds Nothing = true
has_kinds (Owned (Is k)) = true
has_kinds (Owned OfGlobal) = false
has_kinds (Owned OfSlot) = false
has_kinds (Lent (Is k)) = true
has_kinds (Lent OfGlobal) = false
has_kinds (Lent OfSlot) = false

abbrev pub is_plain : Row → Bool
is_plain r = are_read r.parameters && has_kinds r.outcome

pub read_row : (q : Primitive) → stands_elsewhere q ≡ false → is_plain (row_of q) ≡ true
read_row (prim.Int64 int64.Add) g = refl
read_row (prim.Int64 int64.Subtract) g = refl
read_row (prim.Int64 int64.Multiply) g = refl
read_row (prim.Int64 int64.Negate) g = refl
read_row (prim.Int64 int64.FloorDivide) g = refl
read_row (prim.Int64 int64.Remainder) g = refl
read_row (prim.Int64 int64.Lshift) g = refl
read_row (prim.Int64 int64.Rshift) g = refl
read_row (prim.Int64 int64.FromBool) g = refl
read_row (prim.Int64 int64.Eq) g = refl
read_row (prim.Int64 int64.Lt) g = refl
read_row (prim.Int64 int64.Le) g = refl
read_row (prim.Int64 int64.Str) g = refl
read_row (prim.Int64 int64.Box) g = refl
read_row (prim.Int64 int64.Unbox) g = refl
read_row (prim.Tagged tagged.Add) g = refl
read_row (prim.Tagged tagged.Subtract) g = refl
read_row (prim.Tagged tagged.Multiply) g = refl
read_row (prim.Tagged tagged.Negate) g = refl
read_row (prim.Tagged tagged.FloorDivide) g = refl
read_row (prim.Tagged tagged.Remainder) g = refl
read_row (prim.Tagged tagged.Lshift) g = refl
read_row (prim.Tagged tagged.Rshift) g = refl
read_row (prim.Tagged tagged.FromText) g = refl
read_row (prim.Tagged tagged.FromInt64) g = refl
read_row (prim.Tagged tagged.FromBool) g = refl
read_row (prim.Tagged tagged.AsInt64) g = refl
read_row (prim.Tagged tagged.Eq) g = refl
read_row (prim.Tagged tagged.Lt) g = refl
read_row (prim.Tagged tagged.Le) g = refl
read_row (prim.Tagged tagged.Str) g = refl
read_row (prim.Tagged tagged.Box) g = refl
read_row (prim.Tagged tagged.Unbox) g = refl
read_row (prim.Bool bool.Not) g = refl
read_row (prim.Bool bool.Str) g = refl
read_row (prim.Bool bool.Box) g = refl
read_row (prim.Bool bool.Unbox) g = refl
read_row (prim.Object object.IsNone) g = refl
read_row (prim.Str str.Literal) g = refl
read_row (prim.Str str.Concat) g = refl
read_row (prim.Str str.Eq) g = refl
read_row (prim.Str str.Lt) g = refl
read_row (prim.Str str.Le) g = refl
read_row (prim.Str str.Len) g = refl
read_row (prim.Str str.GetItem) g = refl
read_row (prim.List list.New) g = refl
read_row (prim.List list.Append) g = refl
read_row (prim.List list.GetItem) g = refl
read_row (prim.List list.GetItemBorrow) g = refl
read_row (prim.List list.SetItem) g = refl
read_row (prim.List list.Pop) g = refl
read_row (prim.List list.Len) g = refl
read_row (prim.Dict dict.New) g = refl
read_row (prim.Dict dict.GetItem) g = refl
read_row (prim.Dict dict.SetItem) g = refl
read_row (prim.Dict dict.DelItem) g = refl
read_row (prim.Dict dict.Contains) g = refl
read_row (prim.Dict dict.CheckSize) g = refl
read_row (prim.Dict dict.KeyAt) g = refl
read_row (prim.Dict dict.Len) g = refl
read_row (prim.Tuple tuple.Pack) g = refl
read_row (prim.Tuple tuple.GetItem) g = refl
read_row (prim.Tuple tuple.GetItemBorrow) g = refl
read_row (prim.Tuple tuple.Len) g = refl
read_row (prim.Exc exc.New) g = refl
read_row (prim.Exc exc.Str) g = refl
read_row (prim.Err err.SetObject) g = refl
read_row (prim.Err err.Unbound) g = refl
read_row (prim.Err err.Occurred) g = refl
read_row (prim.Err err.Matches) g = refl
read_row (prim.Err err.Catch) g = refl
read_row (prim.Io io.Write) g = refl
read_row (prim.Io io.Input) g = refl
read_row (prim.Global q) g = absurd (cc)
read_row (prim.Instance instance.New) g = refl
read_row (prim.Attr q) g = absurd (cc)

-- that the target has the kind of the answer is known from the text
pub answer_is : (code : Code) (f : Frame) (o : Outcome) (x : Option ℕ) (all : List Argument) → has_kinds o ≡ true → steps.answer_fits code f o x all ≡ true
answer_is code f Nothing x all plain = refl
answer_is code f (Owned (Is k)) x all plain = refl
answer_is code f (Owned OfGlobal) x all plain = absurd (cc)
answer_is code f (Owned OfSlot) x all plain = absurd (cc)
answer_is code f (Lent (Is k)) x all plain = refl
answer_is code f (Lent OfGlobal) x all plain = absurd (cc)
answer_is code f (Lent OfSlot) x all plain = absurd (cc)

-- the target of a line that fits has the type of the answer
pub target_is : (code : Code) (regs : Declared) (args : List CArg) (o : Outcome) (to : Option Reg) → has_kinds o ≡ true → target_fits code (map variable_of regs) args o (option_map number_of to) ≡ true → IsTarget regs (answer_of o) to
target_is code regs args o None plain fits = tt
target_is code regs args Nothing (Some r) plain fits = absurd (cc)
target_is code regs args (Owned (Is k)) (Some r) plain fits =
    has_type regs r.0 (type_in k) (subst (λ z. has_kind z (kind_at (map variable_of regs) r.0) ≡ true) (sym (kind_in_type k)) fits)
target_is code regs args (Owned OfGlobal) (Some r) plain fits = absurd (cc)
target_is code regs args (Owned OfSlot) (Some r) plain fits = absurd (cc)
target_is code regs args (Lent (Is k)) (Some r) plain fits =
    has_type regs r.0 (type_in k) (subst (λ z. has_kind z (kind_at (map variable_of regs) r.0) ≡ true) (sym (kind_in_type k)) fits)
target_is code regs args (Lent OfGlobal) (Some r) plain fits = absurd (cc)
target_is code regs args (Lent OfSlot) (Some r) plain fits = absurd (cc)

-- ---- arguments that name a global
pub one_global : (code : Code) (vars : _) (all : List CArg) (args : List PArg) → args_fit code vars all (TakesGlobal ∷ []) (map argument_in args) ≡ true → (name : List ℕ) × (args ≡ arg.Global name ∷ []) × (is_some (kind_of_global code name) ≡ true)
one_global code vars all [] e = absurd (cc)
one_global code vars all (arg.Global n ∷ []) e = (n, refl, (and_true (is_some (kind_of_global code n)) true e).0)
one_global code vars all (arg.Var r ∷ rest) e = absurd (cc)
one_global code vars all (arg.Number n ∷ rest) e = absurd (cc)
one_global code vars all (arg.Text n ∷ rest) e = absurd (cc)
one_global code vars all (arg.Class n ∷ rest) e = absurd (cc)
one_global code vars all (arg.Global n ∷ x ∷ xs) e =
    let f = (and_true (is_some (kind_of_global code n)) false e).1 in absurd (cc)

-- what is stolen last
one_stolen : (code : Code) (vars : _) (all : List CArg) (k : KindAt) (args : List PArg) → args_fit code vars all (Steals k Anything ∷ []) (map argument_in args) ≡ true → (r : Reg) × (args ≡ arg.Var r ∷ []) × (kind_fits code all k (kind_at vars r.0) ≡ true)
one_stolen code vars all k [] e = absurd (cc)
one_stolen code vars all k (arg.Var r ∷ []) e = (r, refl, (and_true (kind_fits code all k (kind_at vars r.0)) true e).0)
one_stolen code vars all k (arg.Global n ∷ rest) e = absurd (cc)
one_stolen code vars all k (arg.Number n ∷ rest) e = absurd (cc)
one_stolen code vars all k (arg.Text n ∷ rest) e = absurd (cc)
one_stolen code vars all k (arg.Class n ∷ rest) e = absurd (cc)
one_stolen code vars all k (arg.Var r ∷ x ∷ xs) e =
    let f = (and_true (kind_fits code all k (kind_at vars r.0)) false e).1 in absurd (cc)

pub global_and_stolen : (code : Code) (vars : _) (all : List CArg) (args : List PArg) → args_fit code vars all (TakesGlobal ∷ Steals OfGlobal Anything ∷ []) (map argument_in args) ≡ true → (name : List ℕ) × (r : Reg) × (args ≡ arg.Global name ∷ arg.Var r ∷ []) × (is_some (kind_of_global code name) ≡ true) × (kind_fits code all OfGlobal (kind_at vars r.0) ≡ true)
global_and_stolen code vars all [] e = absurd (cc)
global_and_stolen code vars all (arg.Global n ∷ rest) e =
    let both = and_true (is_some (kind_of_global code n)) (args_fit code vars all (Steals OfGlobal Anything ∷ []) (map argument_in rest)) e in
    let more = one_stolen code vars all OfGlobal rest both.1 in
    (n, more.0, ap (λ z. arg.Global n ∷ z) more.1, both.0, more.2)
global_and_stolen code vars all (arg.Var r ∷ rest) e = absurd (cc)
global_and_stolen code vars all (arg.Number n ∷ rest) e = absurd (cc)
global_and_stolen code vars all (arg.Text n ∷ rest) e = absurd (cc)
global_and_stolen code vars all (arg.Class n ∷ rest) e = absurd (cc)

-- ---- arguments that name a slot
place_and_stolen : (code : Code) (vars : _) (all : List CArg) (args : List PArg) → args_fit code vars all (TakesPlace ∷ Steals OfSlot Anything ∷ []) (map argument_in args) ≡ true → (i : ℕ) × (r : Reg) × (args ≡ arg.Number (pos i) ∷ arg.Var r ∷ []) × (is_some (kind_at vars r.0) ≡ true)
place_and_stolen code vars all [] e = absurd (cc)
place_and_stolen code vars all (arg.Number (pos i) ∷ rest) e =
    let more = one_stolen code vars all OfSlot rest e in (i, more.0, ap (λ z. arg.Number (pos i) ∷ z) more.1, more.2)
place_and_stolen code vars all (arg.Number (negsuc i) ∷ rest) e = absurd (cc)
place_and_stolen code vars all (arg.Var r ∷ rest) e = absurd (cc)
place_and_stolen code vars all (arg.Global n ∷ rest) e = absurd (cc)
place_and_stolen code vars all (arg.Text n ∷ rest) e = absurd (cc)
place_and_stolen code vars all (arg.Class n ∷ rest) e = absurd (cc)

pub slot_and_stolen : (code : Code) (vars : _) (all : List CArg) (args : List PArg) → args_fit code vars all (Borrows (Is Object) AnInstance ∷ TakesPlace ∷ Steals OfSlot Anything ∷ []) (map argument_in args) ≡ true → (o : Reg) × (i : ℕ) × (r : Reg) × (args ≡ arg.Var o ∷ arg.Number (pos i) ∷ arg.Var r ∷ []) × (has_kind Object (kind_at vars o.0) ≡ true) × (is_some (kind_at vars r.0) ≡ true)
slot_and_stolen code vars all [] e = absurd (cc)
slot_and_stolen code vars all (arg.Var o ∷ rest) e =
    let both = and_true (has_kind Object (kind_at vars o.0)) (args_fit code vars all (TakesPlace ∷ Steals OfSlot Anything ∷ []) (map argument_in rest)) e in
    let more = place_and_stolen code vars all rest both.1 in
    (o, more.0, more.1, ap (λ z. arg.Var o ∷ z) more.2, both.0, more.3)
slot_and_stolen code vars all (arg.Number n ∷ rest) e = absurd (cc)
slot_and_stolen code vars all (arg.Global n ∷ rest) e = absurd (cc)
slot_and_stolen code vars all (arg.Text n ∷ rest) e = absurd (cc)
slot_and_stolen code vars all (arg.Class n ∷ rest) e = absurd (cc)
