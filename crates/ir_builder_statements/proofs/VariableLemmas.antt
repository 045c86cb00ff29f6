-- Variables are read and set by their code.
use Rattle.ir_builder_statements.proofs.Common.{◌≡◌, ℕ, zero, suc, ◌<◌, ◌≤◌, List, [], ◌∷◌, map, get_or, Some, None, refl, sym, ap, ◌∙◌, subst, arith, pos, slice_get, Var, Target, Sort, Variable, TypedModule, LocalTarget, GlobalTarget, typed_target, variable, Number, Move, Lit, Prim, PArg, Reg, Building, Extends, Setting, rtype_of, HasType, Pushes, flag_of, HasRoom, Surrounding, AreAlike, OpKinds, IsAmong, WritesGlobal, type_kept, get_below, write_fits, param_set, other_set, global_set, HasFlag, SetsLocal, TakesGlobal, SetsGlobal, TakesRegister, SetsVariable, BoolType}
use Rattle.c_core.specs.declared.primitive.Primitive.TheVariants as prim
use Rattle.c_core.specs.declared.primitive.GlobalPrim.TheVariants as global
use Rattle.py_typed.specs.declared.statement.Target.TheVariants as declared
use Rattle.ir_core.specs.declared.code.PArg.TheVariants as arg
use Rattle.ir_builder_frames.specs.declared.frame.Frame.{Frame}
use Rattle.ir_builder_expressions.specs.Reading.{setting_in}

pub type_by : (b : Building) (r : ℕ) (t u : Sort) → t ≡ u → HasType b r (rtype_of t) → HasType b r (rtype_of u)
type_by b r t u e h = let P : Sort → Type 0 = λ z. HasType b r (rtype_of z) in subst P e h

-- ---- a variable of the function is set

pub parameter_sets : {line : ℕ} (frame : Frame) (k : ℕ) (r : Reg) (b c : Building) → k < frame.locals.params → Pushes b c (Move record { 0 = k } r) line → SetsLocal frame k r.0 b c
parameter_sets frame k r b c low q x v is room at type =
    param_set x k r.0 v b c room at (subst (λ (f : Frame). k < f.locals.params) (sym is) low) type q

pub variable_sets : {line : ℕ} (frame : Frame) (k : ℕ) (r flag : Reg) (b c d : Building) → frame.locals.params ≤ k → flag.0 ≡ flag_of frame.locals k → Pushes b c (Move record { 0 = k } r) line → Pushes c d (Lit flag (Number (pos 1))) line → SetsLocal frame k r.0 b d
variable_sets {line} frame k r flag b c d other flag_is q q' x v is room at type =
    let here : flag.0 ≡ flag_of x.frame.locals k = flag_is ∙ ap (λ (f : Frame). flag_of f.locals k) (sym is) in
    other_set x k r.0 v b c d room at (subst (λ (f : Frame). f.locals.params ≤ k) (sym is) other) type q (subst (λ n. Pushes c d (Lit (record { 0 = n }) (Number (pos 1))) line) here q')

pub flag_kinds : (g : Surrounding) (b c : Building) (frame : Frame) (k : ℕ) (flag : Reg) → HasFlag frame k b → frame.locals.params ≤ k → flag.0 ≡ flag_of frame.locals k → Extends b c → OpKinds g c.regs (Lit flag (Number (pos 1)))
flag_kinds g b c frame k flag has other is more =
    let type : HasType c flag.0 BoolType = subst (λ n. HasType c n BoolType) (sym is) (type_kept b c (flag_of frame.locals k) BoolType more (has other).1) in
    (BoolType, type, (refl, refl))

-- the flag of a variable is there
has_flag : (x : Setting) (k : ℕ) (v : Variable) (b : Building) → HasRoom x b → slice_get x.variables k ≡ Some v → HasFlag x.frame k b
has_flag x k v b room at other =
    let low = get_below x.variables k v at in
    let count = room.count in
    let flags = room.flags in
    (omega arith, room.flagged k other (omega arith))

-- ---- a variable of the module is set

-- a declared variable has the name of the one of its number
declared_name : (vs : List Var) (i : ℕ) (d : Var) (v : Variable) → slice_get (map variable vs) i ≡ Some v → d ≡ get_or vs i d → v.0 ≡ d.name
declared_name [] i d v at is = let f : None ≡ Some v = at in absurd (cc)
declared_name (e ∷ vs) zero d v at is =
    let f : Some (variable e) ≡ Some v = at in
    let same : v ≡ variable e = cc in
    ap (λ (z : Variable). z.0) (same ∙ sym (ap variable is))
declared_name (e ∷ vs) (suc i) d v at is = declared_name vs i d v at is

-- the arguments of a write
abbrev pub stored : List ℕ → Reg → List PArg
stored name r = arg.Global name ∷ arg.Var r ∷ []

pub global_sets : {line : ℕ} (m : TypedModule) (vs : List Var) (i : ℕ) (d : Var) (r : Reg) (args : List PArg) (b c : Building) → m.globals ≡ map variable vs → d ≡ get_or vs i d → args ≡ stored d.name r → Pushes b c (Prim None (prim.Global global.Set) args) line → SetsGlobal m i r.0 b c
global_sets {line} m vs i d r args b c all is args_are q x v same at type =
    let at' : slice_get (map variable vs) i ≡ Some v = ap (λ l. slice_get l i) (sym all) ∙ at in
    let named : v.0 ≡ d.name = declared_name vs i d v at' is in
    global_set x i r.0 v b c (ap (λ (z : TypedModule). slice_get z.globals i) same ∙ at) type (subst (λ l. Pushes b c (Prim None (prim.Global global.Set) l) line) (args_are ∙ ap (λ name. stored name r) (sym named)) q)

pub global_fits : (m : TypedModule) (g : Surrounding) (vs : List Var) (i : ℕ) (d : Var) (r : Reg) (args : List PArg) (b : Building) → m.globals ≡ map variable vs → d ≡ get_or vs i d → args ≡ stored d.name r → IsAmong m g → TakesGlobal m i r.0 b → WritesGlobal g b.regs (prim.Global global.Set) args
global_fits m g vs i d r args b all is args_are among takes =
    let v = takes.0 in
    let at' : slice_get (map variable vs) i ≡ Some v = ap (λ l. slice_get l i) (sym all) ∙ takes.1 in
    let named : v.0 ≡ d.name = declared_name vs i d v at' is in
    subst (WritesGlobal g b.regs (prim.Global global.Set)) (ap (λ name. stored name r) named ∙ sym args_are) (write_fits m g b.regs i v r among takes.1 takes.2)

-- ---- a target is set

module _ (m : TypedModule) (frame : Frame) (t : Target) (r : Reg) (b c : Building) where
  local_takes : (k : ℕ) → t ≡ declared.Local k → TakesRegister m frame (typed_target t) r.0 b → TakesRegister m frame (LocalTarget k) r.0 b
  local_takes k is h = let P : Target → Type 0 = λ z. TakesRegister m frame (typed_target z) r.0 b in subst P is h

  pub local_flag : (k : ℕ) → t ≡ declared.Local k → TakesRegister m frame (typed_target t) r.0 b → HasFlag frame k b
  local_flag k is h =
      let f = local_takes k is h in
      let v = f.3 in
      has_flag (setting_in m f.0 frame) k v.0 b f.2 v.1

  pub local_alike : (k : ℕ) → t ≡ declared.Local k → TakesRegister m frame (typed_target t) r.0 b → AreAlike b.regs (record { 0 = k }) r
  local_alike k is h =
      let f = local_takes k is h in
      let v = f.3 in
      (rtype_of f.1, type_by b k v.0.1 f.1 v.2 (f.2.declared k v.0 v.1), f.4)

  pub local_set : (k : ℕ) → t ≡ declared.Local k → SetsLocal frame k r.0 b c → SetsVariable m frame (typed_target t) r.0 b c
  local_set k is q =
      let P : Target → Type 0 = λ z. SetsVariable m frame (typed_target z) r.0 b c in
      subst P (sym is)
      (λ vs u room v type. q (setting_in m vs frame) v.0 refl room v.1 (type_by b r.0 u v.0.1 (sym v.2) type))

  pub global_takes : (i : ℕ) → t ≡ declared.Global i → TakesRegister m frame (typed_target t) r.0 b → TakesGlobal m i r.0 b
  global_takes i is h =
      let P : Target → Type 0 = λ z. TakesRegister m frame (typed_target z) r.0 b in
      let f : TakesRegister m frame (GlobalTarget i) r.0 b = subst P is h in
      let v = f.3 in
      (v.0, v.1, type_by b r.0 f.1 v.0.1 (sym v.2) f.4)

  pub global_put : (i : ℕ) → t ≡ declared.Global i → SetsGlobal m i r.0 b c → SetsVariable m frame (typed_target t) r.0 b c
  global_put i is q =
      let P : Target → Type 0 = λ z. SetsVariable m frame (typed_target z) r.0 b c in
      subst P (sym is)
      (λ vs u room v type. q (setting_in m vs frame) v.0 refl v.1 (type_by b r.0 u v.0.1 (sym v.2) type))
