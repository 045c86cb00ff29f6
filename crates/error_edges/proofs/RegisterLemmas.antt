-- More registers behind those of a function change nothing for the ones that it has.
use Rattle.std.proofs.Common.{◌≡◌, refl, sym, ◌∙◌, ap, ℕ, zero, suc, ◌<◌, arith, true, false, cond, List, [], ◌∷◌, ◌++◌, length, Option, Some, None}
use Rattle.std.specs.Prelude.{slice_get, nat_eq, ◌&&◌}
use Rattle.std.specs.Option.{option_map, option_and_then}
use Rattle.std.proofs.lemmas.Bool.{and_from, and_parts}
use Rattle.std.proofs.lemmas.Option.{slice_get_within}
use Rattle.value_core.specs.Value.{Value}
use Rattle.ir_core.specs.declared.code.RType.{RType}
use Rattle.ir_core.specs.declared.code.RType.TheVariants.{Int, I64, Bool as BoolType, Ref}
use Rattle.ir_core.specs.declared.code.Reg.{Reg}
use Rattle.ir_core.specs.declared.code.PArg.{PArg}
use Rattle.ir_core.specs.declared.code.PArg.TheVariants as arg
use Rattle.ir_core.specs.declared.code.Func.{Func}
use Rattle.ir_core.specs.Rows.{Declared, type_of_reg}
use Rattle.ir_core.specs.Registers.{Held, Holds, Regs, put, look, error_at, first_regs}
use Rattle.ir_core.specs.Effects.{Argument, Given}
use Rattle.ir_core.specs.Meaning.{value_of, read, read_all, argument, arguments, is_type, are_types, is_fit}

-- ---- lists and options
pub get_more : {X : Type 0} (xs ys : List X) (i : ℕ) (x : X) → slice_get xs i ≡ Some x → slice_get (xs ++ ys) i ≡ Some x
get_more [] ys i x e = absurd (cc)
get_more (y ∷ xs) ys zero x e = e
get_more (y ∷ xs) ys (suc i) x e = get_more xs ys i x e

pub get_first : {X : Type 0} (xs ys : List X) (a : X) → slice_get (xs ++ a ∷ ys) (length xs) ≡ Some a
get_first [] ys a = refl
get_first (x ∷ xs) ys a = get_first xs ys a

and_then_some : {A B : Type 0} (f : A → Option B) (o : Option A) (b : B) → option_and_then f o ≡ Some b → (a : A) × (o ≡ Some a) × (f a ≡ Some b)
and_then_some f None b e = absurd (cc)
and_then_some f (Some a) b e = (a, refl, e)

map_some : {A B : Type 0} (f : A → B) (o : Option A) (b : B) → option_map f o ≡ Some b → (a : A) × (o ≡ Some a) × (f a ≡ b)
map_some f None b e = absurd (cc)
map_some f (Some a) b e = (a, refl, cc)

-- ---- declared registers
pub type_more : (ds es : Declared) (r : Reg) (t : RType) → type_of_reg ds r ≡ Some t → type_of_reg (ds ++ es) r ≡ Some t
type_more ds es r t e =
    let found = map_some (λ (x : List ℕ × RType). x.1) (slice_get ds r.0) t e in
    ap (option_map (λ (x : List ℕ × RType). x.1)) (get_more ds es r.0 found.0 found.1) ∙ ap Some found.2

pub type_within : (ds : Declared) (r : Reg) (t : RType) → type_of_reg ds r ≡ Some t → r.0 < length ds
type_within ds r t e =
    let found = map_some (λ (x : List ℕ × RType). x.1) (slice_get ds r.0) t e in
    slice_get_within ds r.0 found.0 found.1

-- ---- the registers of two frames
-- as many registers hold the same
abbrev pub RegsAgree : Declared → Regs → Regs → Type 0
RegsAgree ds x y = (k : ℕ) → k < length ds → y k ≡ x k

pub put_as : (ds : Declared) (x y : Regs) (r : ℕ) (h : Held) → RegsAgree ds x y → RegsAgree ds (put x r h) (put y r h)
put_as ds x y r h same k lt = ap (λ v. cond (nat_eq k r) h v) (same k lt)

pub reg_as : (ds : Declared) (x y : Regs) (r : Reg) (t : RType) → RegsAgree ds x y → type_of_reg ds r ≡ Some t → y r.0 ≡ x r.0
reg_as ds x y r t same e = same r.0 (type_within ds r t e)

module _ (ds es : Declared) (x y : Regs) (same : RegsAgree ds x y) where
  pub look_as : (r : Reg) (h : Held) → look ds x r ≡ Some h → look (ds ++ es) y r ≡ Some h
  look_as r h e =
      let found = map_some (λ (t : RType). x r.0) (type_of_reg ds r) h e in
      ap (option_map (λ (t : RType). y r.0)) (type_more ds es r found.0 found.1)
      ∙ ap Some (reg_as ds x y r found.0 same found.1 ∙ found.2)

  pub read_as : (r : Reg) (v : Value) → read ds x r ≡ Some v → read (ds ++ es) y r ≡ Some v
  read_as r v e =
      let found = and_then_some value_of (look ds x r) v e in
      ap (option_and_then value_of) (look_as r found.0 found.1) ∙ found.2

  pub read_all_as : (rs : List Reg) (hs : List Held) → read_all ds x rs ≡ Some hs → read_all (ds ++ es) y rs ≡ Some hs
  read_all_as [] hs e = e
  read_all_as (r ∷ rs) hs e =
      let first = and_then_some (λ (v : Value). option_map (λ (vs : List Held). Holds v ∷ vs) (read_all ds x rs)) (read ds x r) hs e in
      let others = map_some (λ (vs : List Held). Holds first.0 ∷ vs) (read_all ds x rs) hs first.2 in
      rw (read_as r first.0 first.1, read_all_as rs others.0 others.1) (ap Some others.2)

  argument_as : (a : PArg) (v : Argument) → argument ds x a ≡ Some v → argument (ds ++ es) y a ≡ Some v
  argument_as (arg.Var r) v e =
      let found = map_some Given (read ds x r) v e in rw (read_as r found.0 found.1) (ap Some found.2)
  argument_as (arg.Number n) v e = e
  argument_as (arg.Text text) v e = e
  argument_as (arg.Global name) v e = e
  argument_as (arg.Class name) v e = e

  pub arguments_as : (ps : List PArg) (vs : List Argument) → arguments ds x ps ≡ Some vs → arguments (ds ++ es) y ps ≡ Some vs
  arguments_as [] vs e = e
  arguments_as (a ∷ rest) vs e =
      let first = and_then_some (λ (v : Argument). option_map (λ (l : List Argument). v ∷ l) (arguments ds x rest)) (argument ds x a) vs e in
      let others = map_some (λ (l : List Argument). first.0 ∷ l) (arguments ds x rest) vs first.2 in
      rw (argument_as a first.0 first.1, arguments_as rest others.0 others.1) (ap Some others.2)

-- ---- the first registers of a call
error_as : (ds es : Declared) (k : ℕ) → k < length ds → error_at (ds ++ es) k ≡ error_at ds k
error_as [] es k lt = absurd (omega (arith, lt))
error_as (d ∷ ds) es zero lt = refl
error_as (d ∷ ds) es (suc k) lt = error_as ds es k (omega (arith, lt))

pub first_as : (ds es : Declared) (hs : List Held) → RegsAgree ds (first_regs ds hs) (first_regs (ds ++ es) hs)
first_as ds es [] k lt = error_as ds es k lt
first_as [] es (h ∷ hs) k lt = absurd (omega (arith, lt))
first_as (d ∷ ds) es (h ∷ hs) zero lt = refl
first_as (d ∷ ds) es (h ∷ hs) (suc k) lt = first_as ds es hs k (omega (arith, lt))

-- ---- whether a call fits
type_fits : (ds es : Declared) (r : Reg) (t : RType) → is_type t (type_of_reg ds r) ≡ true → is_type t (type_of_reg (ds ++ es) r) ≡ true
type_fits ds es r t e = by (type_of_reg ds r) refl e
  where
    nothing : (t : RType) → is_type t None ≡ false
    nothing Int = refl
    nothing I64 = refl
    nothing BoolType = refl
    nothing Ref = refl

    by : (o : Option RType) → type_of_reg ds r ≡ o → is_type t o ≡ true → is_type t (type_of_reg (ds ++ es) r) ≡ true
    by None f g = let n : true ≡ false = sym g ∙ nothing t in absurd (cc)
    by (Some u) f g = ap (is_type t) (type_more ds es r u f) ∙ g

types_fit : (ds es : Declared) (args : List Reg) (gs hs : Declared) → are_types ds args gs ≡ true → are_types (ds ++ es) args (gs ++ hs) ≡ true
types_fit ds es [] gs hs e = refl
types_fit ds es (a ∷ args) [] hs e = absurd (cc)
types_fit ds es (a ∷ args) (g ∷ gs) hs e =
    let both = and_parts (is_type g.1 (type_of_reg ds a)) (are_types ds args gs) e in
    and_from (is_type g.1 (type_of_reg (ds ++ es) a)) (are_types (ds ++ es) args (gs ++ hs)) (type_fits ds es a g.1 both.0) (types_fit ds es args gs hs both.1)

pub call_fits : (ds es hs : Declared) (into : Reg) (args : List Reg) (f g : Func) → g.params ≡ f.params → g.ret ≡ f.ret → g.regs ≡ f.regs ++ hs → is_fit ds into args f ≡ true → is_fit (ds ++ es) into args g ≡ true
call_fits ds es hs into args f g params ret regs e =
    let all = and_parts (nat_eq (length args) f.params) (are_types ds args f.regs && is_type f.ret (type_of_reg ds into)) e in
    let both = and_parts (are_types ds args f.regs) (is_type f.ret (type_of_reg ds into)) all.1 in
    rw (params, ret, regs)
    (and_from (nat_eq (length args) f.params) (are_types (ds ++ es) args (f.regs ++ hs) && is_type f.ret (type_of_reg (ds ++ es) into)) all.0
    (and_from (are_types (ds ++ es) args (f.regs ++ hs)) (is_type f.ret (type_of_reg (ds ++ es) into)) (types_fit ds es args f.regs hs both.0) (type_fits ds es into f.ret both.1)))
