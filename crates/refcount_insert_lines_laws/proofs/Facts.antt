-- What a well-formed code says of its lines, where it has the heads of a program.
use Rattle.std.proofs.Common.{◌≡◌, refl, sym, ◌∙◌, ap, subst, ℕ, zero, suc, arith, Bool, true, ◌&&◌, List, [], ◌∷◌, length, Option, Some, None}
use Rattle.std.specs.Prelude.{slice_get, map, is_some, nat_le, ◌==◌}
use Rattle.std.specs.List.{list_all}
use Rattle.std.specs.Option.{option_map, option_and_then}
use Rattle.std.specs.Str.{bytes_eq}
use Rattle.c_core.specs.declared.code.Kind.{Kind}
use Rattle.c_core.specs.declared.code.Kind.TheVariants.{Tagged, Int64, Char, Object}
use Rattle.c_core.specs.declared.code.Line.{Line}
use Rattle.c_core.specs.declared.code.CFunc.{CFunc}
use Rattle.c_core.specs.declared.code.Code.{Code}
use Rattle.c_core.specs.Machine.{MachineState}
use Rattle.c_core.specs.Step.{function_of, line_at, kind_of}
use Rattle.c_core.specs.WellFormed.{WellFormed, is_spelled, spelled_globals, spelled_class, spelled_functions, names_differ, classes_fit, class_fits, functions_fit, function_fits, line_fits, lines_lead_on, begins_right, kind_at, has_kind, same_kind, same_kinds}
use Rattle.c_core.specs.WellFormed as wf
use Rattle.c_core.proofs.Lines.{and_true, all_at}
use Rattle.ir_core.specs.declared.code.RType.{RType}
use Rattle.ir_core.specs.declared.code.RType.TheVariants.{Int, I64, Bool as BoolType, Ref}
use Rattle.ir_core.specs.declared.code.Reg.{Reg}
use Rattle.ir_core.specs.declared.code.Func.{Func}
use Rattle.ir_core.specs.declared.code.Program.{Program}
use Rattle.ir_core.specs.Effects.{World}
use Rattle.ir_core.specs.Meaning.{Frame, registers_of, declared_of}
use Rattle.ir_core.specs.Rows.{Declared, type_of_reg}
use Rattle.ir_core.specs.Lower.{kind_of_type, variable_of}
use Rattle.refcount_insert_lines_laws.specs.Matching.{type_in, HasHead, HasHeads, RunsIn}
use Rattle.refcount_insert_lines_laws.proofs.ListLemmas.{get_map}

-- ---- of the code
pub record Facts (code : Code) : Type 0 where
  pub fits : list_all (function_fits code) code.funcs ≡ true
  pub names : names_differ (map (λ (g : CFunc). g.name) code.funcs) ≡ true
  pub spelled : spelled_functions code.funcs ≡ true
  pub classes : list_all (class_fits code) code.classes ≡ true
  pub spelled_classes : list_all spelled_class code.classes ≡ true

pub facts : (code : Code) → WellFormed code → Facts code
facts code formed =
    let globals : Bool = names_differ (map (λ v. v.0) code.globals) in
    let functions : Bool = names_differ (map (λ (g : CFunc). g.name) code.funcs) in
    let fit : Bool = list_all (function_fits code) code.funcs in
    let rest : Bool = classes_fit code && functions_fit code in
    let both = and_true (is_spelled code) (globals && rest) formed in
    let classes : Bool = list_all spelled_class code.classes in
    let spelled = and_true (spelled_globals code.globals) (classes && spelled_functions code.funcs) both.0 in
    let some = and_true classes (spelled_functions code.funcs) spelled.1 in
    let parts = and_true (classes_fit code) (functions_fit code) (and_true globals rest both.1).1 in
    let last = and_true functions fit parts.1 in
    let each = and_true (names_differ (map (λ k. k.name) code.classes)) (list_all (class_fits code) code.classes) parts.0 in
    record { fits = last.1; names = last.0; spelled = some.1; classes = each.1; spelled_classes = some.0 }

-- each line of a function is spelled
body_spelled : (fs : List CFunc) (n : ℕ) (g : CFunc) → spelled_functions fs ≡ true → slice_get fs n ≡ Some g → wf.spelled_body g ≡ true
body_spelled [] n g e is = let f : None ≡ Some g = is in absurd (cc)
body_spelled (x ∷ []) zero g e is =
    let f : Some x ≡ Some g = is in
    let same : x ≡ g = cc in
    let rest = (and_true (bytes_eq x.name []) (wf.is_char x.ret && ((x.params == 0) && wf.spelled_body x)) e).1 in
    let body = (and_true (x.params == 0) (wf.spelled_body x) (and_true (wf.is_char x.ret) ((x.params == 0) && wf.spelled_body x) rest).1).1 in
    subst (λ z. wf.spelled_body z ≡ true) same body
body_spelled (x ∷ []) (suc n) g e is = let f : None ≡ Some g = is in absurd (cc)
body_spelled (x ∷ y ∷ ys) zero g e is =
    let f : Some x ≡ Some g = is in
    let same : x ≡ g = cc in
    let one = (and_true (wf.spelled_function x) (spelled_functions (y ∷ ys)) e).0 in
    let few : Bool = nat_le x.params (length x.vars) in
    let body = (and_true few (wf.spelled_body x) (and_true (wf.is_identifier x.name) (few && wf.spelled_body x) one).1).1 in
    subst (λ z. wf.spelled_body z ≡ true) same body
body_spelled (x ∷ y ∷ ys) (suc n) g e is =
    body_spelled (y ∷ ys) n g (and_true (wf.spelled_function x) (spelled_functions (y ∷ ys)) e).1 is

line_in_spelled : (code : Code) → Facts code → (n : ℕ) (g : CFunc) → slice_get code.funcs n ≡ Some g → (i : ℕ) (l : Line) → slice_get g.lines i ≡ Some l → wf.spelled_line g.vars l ≡ true
line_in_spelled code known n g there i l is =
    let body = body_spelled code.funcs n g known.spelled there in
    all_at (wf.spelled_line g.vars) g.lines i l (and_true (list_all (λ v. wf.is_identifier v.0) g.vars) (list_all (wf.spelled_line g.vars) g.lines) body).1 is

-- each line of a function fits
pub line_in_fits : (code : Code) → Facts code → (n : ℕ) (g : CFunc) → slice_get code.funcs n ≡ Some g → (i : ℕ) (l : Line) → slice_get g.lines i ≡ Some l → line_fits code g.vars g.ret l ≡ true
line_in_fits code known n g there i l is =
    let fit = all_at (function_fits code) code.funcs n g known.fits there in
    let rest = (and_true (names_differ (map (λ v. v.0) g.vars)) (list_all (line_fits code g.vars g.ret) g.lines && (lines_lead_on g.lines && begins_right g)) fit).1 in
    let lines = (and_true (list_all (line_fits code g.vars g.ret) g.lines) (lines_lead_on g.lines && begins_right g) rest).0 in
    all_at (line_fits code g.vars g.ret) g.lines i l lines is

-- ---- of the frame that runs
module _ (p : Program) (code : Code) (heads : HasHeads p code) (f : Frame) (w : World) (s : MachineState) (a : RunsIn p f w s) where
  abbrev pub head : HasHead p code f.fn a.func
  head = heads.funcs f.fn a.func a.there

  pub function_here : function_of code s.top ≡ Some head.g
  function_here = ap (slice_get code.funcs) a.same ∙ head.there

  -- the line that comes next fits
  pub fits_here : WellFormed code → (l : Line) → line_at code s.top ≡ Some l → line_fits code (map variable_of a.func.regs) (kind_of_type a.func.ret) l ≡ true
  fits_here formed l is =
      let line : slice_get head.g.lines s.top.place ≡ Some l = sym (ap (option_and_then (λ (g : CFunc). slice_get g.lines s.top.place)) function_here) ∙ is in
      let fit = line_in_fits code (facts code formed) f.fn head.g head.there s.top.place l line in
      subst (λ k. line_fits code (map variable_of a.func.regs) k l ≡ true) head.ret (subst (λ z. line_fits code z head.g.ret l ≡ true) head.vars fit)

  pub spelled_here : WellFormed code → (l : Line) → line_at code s.top ≡ Some l → wf.spelled_line (map variable_of a.func.regs) l ≡ true
  spelled_here formed l is =
      let line : slice_get head.g.lines s.top.place ≡ Some l = sym (ap (option_and_then (λ (g : CFunc). slice_get g.lines s.top.place)) function_here) ∙ is in
      subst (λ z. wf.spelled_line z l ≡ true) head.vars (line_in_spelled code (facts code formed) f.fn head.g head.there s.top.place l line)

  pub kind_here : (x : ℕ) (d : List ℕ × RType) → slice_get a.func.regs x ≡ Some d → kind_of code s.top x ≡ Some (kind_of_type d.1)
  kind_here x d e =
      ap (option_and_then (λ (g : CFunc). option_map (λ (v : List ℕ × Kind). v.1) (slice_get g.vars x))) function_here
      ∙ (ap (λ z. option_map (λ (v : List ℕ × Kind). v.1) (slice_get z x)) head.vars
      ∙ (ap (option_map (λ (v : List ℕ × Kind). v.1)) (get_map variable_of a.func.regs x) ∙ ap (λ z. option_map (λ (v : List ℕ × Kind). v.1) (option_map variable_of z)) e))

-- the registers of a function of a program, by its number
pub registers_here : (p : Program) (n : ℕ) (g : Func) → slice_get p.funcs n ≡ Some g → registers_of p n ≡ g.regs
registers_here p n g there = ap declared_of there

pub type_here : (p : Program) (n : ℕ) (g : Func) → slice_get p.funcs n ≡ Some g → (r : Reg) (d : List ℕ × RType) → slice_get g.regs r.0 ≡ Some d → type_of_reg (registers_of p n) r ≡ Some d.1
type_here p n g there r d e =
    ap (λ z. type_of_reg z r) (registers_here p n g there) ∙ ap (option_map (λ (z : List ℕ × RType). z.1)) e

-- a declared type is that of a declared register
pub is_declared : (o : Option (List ℕ × RType)) (t : RType) → option_map (λ (d : List ℕ × RType). d.1) o ≡ Some t → (d : List ℕ × RType) × (o ≡ Some d) × (d.1 ≡ t)
is_declared None t e = absurd (cc)
is_declared (Some d) t e = (d, refl, cc)

-- ---- kinds are types
pub type_of_kind : (t u : RType) → same_kind (kind_of_type t) (kind_of_type u) ≡ true → t ≡ u
type_of_kind Int Int e = refl
type_of_kind Int I64 e = absurd (cc)
type_of_kind Int BoolType e = absurd (cc)
type_of_kind Int Ref e = absurd (cc)
type_of_kind I64 Int e = absurd (cc)
type_of_kind I64 I64 e = refl
type_of_kind I64 BoolType e = absurd (cc)
type_of_kind I64 Ref e = absurd (cc)
type_of_kind BoolType Int e = absurd (cc)
type_of_kind BoolType I64 e = absurd (cc)
type_of_kind BoolType BoolType e = refl
type_of_kind BoolType Ref e = absurd (cc)
type_of_kind Ref Int e = absurd (cc)
type_of_kind Ref I64 e = absurd (cc)
type_of_kind Ref BoolType e = absurd (cc)
type_of_kind Ref Ref e = refl

-- the kind of a register's variable
abbrev kind_in : Option (List ℕ × RType) → Option Kind
kind_in o = option_map (λ (v : List ℕ × Kind). v.1) (option_map variable_of o)

kind_is : (regs : Declared) (x : ℕ) → kind_at (map variable_of regs) x ≡ kind_in (slice_get regs x)
kind_is regs x = ap (option_map (λ (v : List ℕ × Kind). v.1)) (get_map variable_of regs x)

pub kind_of_register : (regs : Declared) (x : ℕ) (d : List ℕ × RType) → slice_get regs x ≡ Some d → kind_at (map variable_of regs) x ≡ Some (kind_of_type d.1)
kind_of_register regs x d e = kind_is regs x ∙ ap kind_in e

by_kind : (t : RType) (o : Option (List ℕ × RType)) → has_kind (kind_of_type t) (kind_in o) ≡ true → (d : List ℕ × RType) × (o ≡ Some d) × (d.1 ≡ t)
by_kind t None e = absurd (cc)
by_kind t (Some d) e = (d, refl, sym (type_of_kind t d.1 e))

-- a variable of the kind of a type is of a register of that type
pub has_type : (regs : Declared) (x : ℕ) (t : RType) → has_kind (kind_of_type t) (kind_at (map variable_of regs) x) ≡ true → (d : List ℕ × RType) × (slice_get regs x ≡ Some d) × (d.1 ≡ t)
has_type regs x t e =
    by_kind t (slice_get regs x) (subst (λ k. has_kind (kind_of_type t) k ≡ true) (kind_is regs x) e)

two_kinds : (o q : Option (List ℕ × RType)) → same_kinds (kind_in o) (kind_in q) ≡ true → (d : List ℕ × RType) × (e : List ℕ × RType) × (o ≡ Some d) × (q ≡ Some e) × (d.1 ≡ e.1)
two_kinds None q e = absurd (cc)
two_kinds (Some d) None e = absurd (cc)
two_kinds (Some d) (Some c) e = (d, c, refl, refl, type_of_kind d.1 c.1 e)

pub same_types : (regs : Declared) (x y : ℕ) → same_kinds (kind_at (map variable_of regs) x) (kind_at (map variable_of regs) y) ≡ true → (d : List ℕ × RType) × (e : List ℕ × RType) × (slice_get regs x ≡ Some d) × (slice_get regs y ≡ Some e) × (d.1 ≡ e.1)
same_types regs x y h =
    two_kinds (slice_get regs x) (slice_get regs y) (subst (λ k. same_kinds k (kind_in (slice_get regs y)) ≡ true) (kind_is regs x) (subst (λ k. same_kinds (kind_at (map variable_of regs) x) k ≡ true) (kind_is regs y) h))

literal_by : (l : _) (o : Option (List ℕ × RType)) → wf.literal_fits l (kind_in o) ≡ true → (d : List ℕ × RType) × (o ≡ Some d)
literal_by l None e = absurd (cc)
literal_by l (Some d) e = (d, refl)

pub literal_type : (regs : Declared) (x : ℕ) (l : _) → wf.literal_fits l (kind_at (map variable_of regs) x) ≡ true → (d : List ℕ × RType) × (slice_get regs x ≡ Some d)
literal_type regs x l e =
    literal_by l (slice_get regs x) (subst (λ k. wf.literal_fits l k ≡ true) (kind_is regs x) e)

-- a variable that is declared
some_kind : (o : Option (List ℕ × RType)) → is_some (kind_in o) ≡ true → (d : List ℕ × RType) × (o ≡ Some d)
some_kind None e = absurd (cc)
some_kind (Some d) e = (d, refl)

pub declared_at : (regs : Declared) (x : ℕ) → is_some (kind_at (map variable_of regs) x) ≡ true → (d : List ℕ × RType) × (slice_get regs x ≡ Some d)
declared_at regs x e = some_kind (slice_get regs x) (subst (λ k. is_some k ≡ true) (kind_is regs x) e)

-- the kind of the type of a kind
pub kind_in_type : (k : Kind) → kind_of_type (type_in k) ≡ k
kind_in_type Tagged = refl
kind_in_type Int64 = refl
kind_in_type Char = refl
kind_in_type Object = refl

-- ---- the module's own function answers a truth
last_spelled : (fs : List CFunc) (n : ℕ) (g : CFunc) → spelled_functions fs ≡ true → slice_get fs n ≡ Some g → suc n ≡ length fs → wf.spelled_top g ≡ true
last_spelled [] n g e is last = let f : None ≡ Some g = is in absurd (cc)
last_spelled (x ∷ []) zero g e is last =
    let f : Some x ≡ Some g = is in let same : x ≡ g = cc in subst (λ z. wf.spelled_top z ≡ true) same e
last_spelled (x ∷ []) (suc n) g e is last = let f : None ≡ Some g = is in absurd (cc)
last_spelled (x ∷ y ∷ ys) zero g e is last = absurd (omega (arith, last))
last_spelled (x ∷ y ∷ ys) (suc n) g e is last =
    last_spelled (y ∷ ys) n g (and_true (wf.spelled_function x) (spelled_functions (y ∷ ys)) e).1 is (omega (arith, last))

is_truth : (t : RType) → wf.is_char (kind_of_type t) ≡ true → t ≡ BoolType
is_truth Int e = absurd (cc)
is_truth I64 e = absurd (cc)
is_truth BoolType e = refl
is_truth Ref e = absurd (cc)

pub last_answers : (p : Program) (code : Code) → HasHeads p code → WellFormed code → (n : ℕ) (f : Func) → slice_get p.funcs n ≡ Some f → suc n ≡ length p.funcs → f.ret ≡ BoolType
last_answers p code heads formed n f there last =
    let h = heads.funcs n f there in
    let known = facts code formed in
    let top = last_spelled code.funcs n h.g known.spelled h.there (last ∙ sym heads.count) in
    let rest = (and_true (bytes_eq h.g.name []) (wf.is_char h.g.ret && ((h.g.params == 0) && wf.spelled_body h.g)) top).1 in
    let char = (and_true (wf.is_char h.g.ret) ((h.g.params == 0) && wf.spelled_body h.g) rest).0 in
    is_truth f.ret (subst (λ k. wf.is_char k ≡ true) h.ret char)
