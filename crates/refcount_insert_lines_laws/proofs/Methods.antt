-- A call of a method: the C text enters the function that the program finds, by the class of the object.
use Rattle.std.proofs.Common.{◌≡◌, refl, sym, ◌∙◌, ap, subst, ℕ, suc, ◌<◌, Bool, true, false, cond, ◌&&◌, List, [], ◌∷◌, length, Option, Some, None}
use Rattle.std.specs.Prelude.{slice_get, map, ◌==◌}
use Rattle.std.specs.Option.{option_map, option_map_or, option_and_then}
use Rattle.std.proofs.lemmas.Bool.{and_from, eq-eqb, ltb-true}
use Rattle.value_core.specs.Exceptions.{Thrown}
use Rattle.value_core.specs.Value.{Value, IntVal, BoolVal, NoneVal, StrVal, TupleVal, ExcVal, ObjVal, Object, ListObj, DictObj, InstObj}
use Rattle.c_core.specs.declared.code.Kind.TheVariants.{Object as ObjectKind}
use Rattle.c_core.specs.declared.code.CArg.TheVariants as c_arg
use Rattle.c_core.specs.declared.code.CClass.{CClass}
use Rattle.c_core.specs.declared.code.Code.{Code}
use Rattle.c_core.specs.declared.fault.Fault.TheVariants as fault
use Rattle.c_core.specs.Functions.{number_of, method_at, trait_method_at, parameter_kinds}
use Rattle.c_core.specs.Machine.{Word, InstCell, MachineState}
use Rattle.c_core.specs.Primitives.{Is, AnInstance, Borrows}
use Rattle.c_core.specs.Arguments.{Cell, is_holding}
use Rattle.c_core.specs.Arguments as machines
use Rattle.c_core.specs.Step.{Next, Goes, kind_of, method_of, if_true, if_variable, if_calm, function_step, takes_and_gives, method_step, method_called, line_at, step_at, unchecked_step}
use Rattle.c_core.specs.Step as steps
use Rattle.c_core.specs.WellFormed.{WellFormed, kind_at, has_kind, is_declared as is_declared_in}
use Rattle.c_core.proofs.Lines.{and_true}
use Rattle.ir_core.specs.declared.code.RType.{RType}
use Rattle.ir_core.specs.declared.code.RType.TheVariants.{Int, I64, Bool as BoolType, Ref}
use Rattle.ir_core.specs.declared.code.Reg.{Reg}
use Rattle.ir_core.specs.declared.code.Op.{Op}
use Rattle.ir_core.specs.declared.code.Op.TheVariants.{Move, Lit, Prim, Call, Virtual, TraitCall, Turn, Inc, Dec, XDec}
use Rattle.ir_core.specs.declared.code.Func.{Func}
use Rattle.ir_core.specs.declared.code.Program.{Program}
use Rattle.ir_core.specs.Names.{function_called}
use Rattle.ir_core.specs.Registers.{Held, Unset, Holds}
use Rattle.ir_core.specs.Rows.{Declared}
use Rattle.ir_core.specs.Effects.{World, Argument, Given, Written}
use Rattle.ir_core.specs.Meaning.{Frame, Waiting, Config, Runs, Stuck, Fitting, read, read_all, argument, is_fit, registers_of, class_of, class_of_object, trait_name, calls_method, do_op}
use Rattle.ir_core.specs.Meaning as meaning
use Rattle.ir_core.specs.Lower.{kind_of_type, variable_of, register_in, number_of as register_number, line_of}
use Rattle.ir_core.proofs.TextLemmas.{map_registers}
use Rattle.refcount_insert_lines_laws.specs.Matching.{StoreFits, Fits, short, big, native, char_true, char_false, boxed, PendingFits, HasHead, HasHeads, RunsIn}
use Rattle.refcount_insert_lines_laws.specs.Lines.{CallDoes, call_sticks, method_target, MethodsDo}
use Rattle.refcount_insert_lines_laws.proofs.ListLemmas.{size_map, get_within}
use Rattle.refcount_insert_lines_laws.proofs.Facts.{registers_here, type_here, spelled_here, kind_of_register}
use Rattle.refcount_insert_lines_laws.proofs.Names.{IsEntry, of_class, of_trait, FoundFunction, found_function, method_known}
use Rattle.refcount_insert_lines_laws.proofs.Reading.{Meets, is_instance, is_instance_object, suits, held_meets, variable_reads, object_reads}
use Rattle.refcount_insert_lines_laws.proofs.Calls.{head_of, first_frame, Entering, enter, enters_is}

-- a value of another type is no object
no_class : (s : MachineState) (w : World) (t : RType) (v : Value) (y : Word) → Fits s t (Holds v) y → (t ≡ Ref → ⊥) → class_of w.store v ≡ None
no_class s w t v y (short n) other = refl
no_class s w t v y (big n c live) other = refl
no_class s w t v y (native n) other = refl
no_class s w t v y char_true other = refl
no_class s w t v y char_false other = refl
no_class s w t v y (boxed u z m) other = absurd (other refl)

-- nor is an object that is no instance
no_instance_class : (o : Option Object) → is_instance_object o ≡ false → class_of_object o ≡ None
no_instance_class None e = refl
no_instance_class (Some (ListObj items)) e = refl
no_instance_class (Some (DictObj pairs)) e = refl
no_instance_class (Some (InstObj class attributes)) e = absurd (cc)

unsuited : (w : World) (v : Value) → suits w AnInstance v ≡ false → class_of w.store v ≡ None
unsuited w (IntVal n) e = refl
unsuited w (BoolVal b) e = refl
unsuited w NoneVal e = refl
unsuited w (StrVal t) e = refl
unsuited w (TupleVal parts) e = refl
unsuited w (ExcVal x) e = refl
unsuited w (ObjVal k) e = no_instance_class (slice_get w.store k) e

module _ (p : Program) (code : Code) (heads : HasHeads p code) (formed : WellFormed code) (r o : Reg) (args : List Reg) (f : Frame) (below : List Waiting) (w : World) (s : MachineState) (a : RunsIn p f w s) (entry : CClass → Option (List ℕ)) (found : IsEntry entry) where
  -- some function is called alike in both, or the program is stuck
  abbrev M : Next → Config → Type 0
  M m c = (n : ℕ) × CallDoes p a.func.regs n r f below s c m

  sticks : (m : Next) (c : Config) → c ≡ Stuck → M m c
  sticks m c e = (0, subst (λ z. CallDoes p a.func.regs 0 r f below s z m) (sym e) (call_sticks m))

  by_both : (n m : Next) (c d : Config) → n ≡ m → c ≡ d → M m d → M n c
  by_both n m c d e g h = subst (λ x. M x c) (sym e) (subst (M m) (sym g) h)

  abbrev declared : Declared
  declared = registers_of p f.fn

  abbrev numbers : List ℕ
  numbers = o.0 ∷ map register_number args

  -- what comes behind the object, and behind the number of the function
  abbrev text_by : Option ℕ → Next
  text_by q = steps.if_some false s fault.Kind q (λ g. steps.if_some false s fault.Kind (slice_get code.funcs g) (method_step false s code r.0 numbers g))

  abbrev program_by : Option ℕ → Config
  program_by q = meaning.if_some q (meaning.enters p r (o ∷ args) f below w)

  -- a function by its number
  module _ (n : ℕ) (h : Func) (there : slice_get p.funcs n ≡ Some h) where
    abbrev hd : HasHead p code n h
    hd = head_of p code heads f below w s a r n (o ∷ args) h there

    abbrev goes : List Held → Config
    goes xs = Runs (first_frame p code heads f below w s a r n (o ∷ args) h there xs) (record { frame = f; into = r } ∷ below) w

    does : (q : Option (List Held)) → read_all declared f.regs (o ∷ args) ≡ q → program_by (Some n) ≡ meaning.if_some q (λ xs. cond (is_fit declared r (o ∷ args) h) (goes xs) Stuck)
    does q are = enters_is p r (o ∷ args) f below w n h there q are

    takes : (xs : List Held) (e : Entering p code heads f below w s a r n (o ∷ args) h there xs) → takes_and_gives false s code r.0 numbers hd.g ≡ true
    takes xs e =
        let size : length numbers ≡ length (parameter_kinds hd.g) = ap suc (size_map register_number args) ∙ sym e.size in
        and_from (length numbers == length (parameter_kinds hd.g)) (has_kind hd.g.ret (kind_of code s.top r.0)) (eq-eqb (length numbers) (length (parameter_kinds hd.g)) size) e.gives

    by_reads : (q : Option (List Held)) → read_all declared f.regs (o ∷ args) ≡ q → M (text_by (Some n)) (program_by (Some n))
    by_reads None are = sticks _ _ (does None are)
    by_reads (Some xs) are = fits_by (is_fit declared r (o ∷ args) h) refl
      where
        fits_by : (c : Bool) → is_fit declared r (o ∷ args) h ≡ c → M (text_by (Some n)) (program_by (Some n))
        fits_by false fit = sticks _ _ (does (Some xs) are ∙ ap (λ c. cond c (goes xs) Stuck) fit)
        fits_by true fit =
            let e = enter p code heads f below w s a r n (o ∷ args) h there xs are fit in
            let text : text_by (Some n) ≡ Goes e.state =
            ap (λ z. steps.if_some false s fault.Kind z (method_step false s code r.0 numbers n)) hd.there
            ∙ (ap (λ b. if_true false s b (function_step false s (Some r.0) (map c_arg.Var numbers) n hd.g)) (takes xs e)
            ∙ (ap (λ l. function_step false s (Some r.0) (register_in o ∷ l) n hd.g) (map_registers args) ∙ e.text)) in
            by_both _ _ _ _ text (does (Some xs) are ∙ ap (λ c. cond c (goes xs) Stuck) fit) (n, e.does)

  -- a method by its name
  by_name : (kept : CClass) (class : ℕ) → slice_get code.classes class ≡ Some kept → (q : Option (List ℕ)) → entry kept ≡ q → M (text_by (option_and_then (number_of code.funcs) q)) (program_by (option_and_then (function_called p) q))
  by_name kept class there None e = sticks _ _ refl
  by_name kept class there (Some name) e =
      let known = method_known code formed class kept there entry found name e in
      let one : FoundFunction p code heads formed name known.0 = found_function p code heads formed name known.0 known.1 in
      by_both _ _ _ _ (ap text_by one.by_text) (ap program_by one.by_program) (by_reads one.n one.func one.there (read_all declared f.regs (o ∷ args)) refl)

  -- the object is an instance
  by_instance : (v : Value) (x : machines.Argument) → Meets w s code (Borrows (Is ObjectKind) AnInstance) (Given v) x → M (text_by (method_of code entry x)) (program_by (meaning.method_of p w v entry))
  by_instance v x (is_instance k c class attributes words kept at made live there fits) =
      let text : method_of code entry (Cell c (InstCell class words)) ≡ option_and_then (number_of code.funcs) (entry kept) = ap (λ z. option_and_then (number_of code.funcs) (option_and_then entry z)) there in
      let in_program : slice_get p.classes class ≡ Some kept = ap (λ z. slice_get z class) (sym heads.classes) ∙ there in
      let does : meaning.method_of p w (ObjVal k) entry ≡ option_and_then (function_called p) (entry kept) =
      ap (λ z. option_and_then (function_called p) (option_and_then (λ c. option_and_then entry (slice_get p.classes c)) (class_of_object z))) at
      ∙ ap (λ z. option_and_then (function_called p) (option_and_then entry z)) in_program in
      by_both _ _ _ _ (ap text_by text) (ap program_by does) (by_name kept class there (entry kept) refl)

  the_store : StoreFits s code.classes w.store
  the_store = subst (λ z. StoreFits s z w.store) (sym heads.classes) a.world.store

  -- what the program does with a value of the object's register
  abbrev by_value : Value → Config
  by_value v = meaning.if_calm w.pending (program_by (meaning.method_of p w v entry))

  abbrev by_argument : Argument → Config
  by_argument (Given v) = by_value v
  by_argument (Written x) = Stuck

  no_method : (v : Value) → class_of w.store v ≡ None → by_value v ≡ Stuck
  no_method v none =
      ap (λ z. meaning.if_calm w.pending (program_by (option_and_then (function_called p) (option_and_then (λ c. option_and_then entry (slice_get p.classes c)) z)))) none ∙ calm w.pending
    where
      calm : (q : Option Thrown) → meaning.if_calm q Stuck ≡ Stuck
      calm None = refl
      calm (Some e) = refl

  as_argument : (q : Option Value) → meaning.if_some q by_value ≡ meaning.if_some (option_map Given q) by_argument
  as_argument None = refl
  as_argument (Some v) = refl

  abbrev text_found : machines.Argument → Next
  text_found x = text_by (method_of code entry x)

  abbrev text_reads : Next
  text_reads = if_variable false s ObjectKind AnInstance o.0 text_found

  -- the register of the object
  module _ (calm : w.pending ≡ None) where
    calm_value : (v : Value) → by_value v ≡ program_by (meaning.method_of p w v entry)
    calm_value v = ap (λ z. meaning.if_calm z (program_by (meaning.method_of p w v entry))) calm

    -- of another type than that of objects
    other : (d : List ℕ × RType) → slice_get a.func.regs o.0 ≡ Some d → (d.1 ≡ Ref → ⊥) → M text_reads (meaning.if_some (read declared f.regs o) by_value)
    other d e no_object =
        sticks _ _ (ap (λ z. meaning.if_some (option_and_then meaning.value_of (option_map (λ t. f.regs o.0) z)) by_value) (type_here p f.fn a.func a.there o d e) ∙ by (f.regs o.0) (a.regs.fit o.0 d e).2)
      where
        by : (x : Held) → Fits s d.1 x (a.regs.fit o.0 d e).0 → meaning.if_some (meaning.value_of x) by_value ≡ Stuck
        by Unset fits = refl
        by (Holds v) fits = no_method v (no_class s w d.1 v (a.regs.fit o.0 d e).0 fits no_object)

    by_type : (d : List ℕ × RType) → slice_get a.func.regs o.0 ≡ Some d → (t : RType) → d.1 ≡ t → M text_reads (meaning.if_some (read declared f.regs o) by_value)
    by_type d e Ref is =
        let has : has_kind ObjectKind (kind_at (map variable_of a.func.regs) o.0) ≡ true = ap (has_kind ObjectKind) (kind_of_register a.func.regs o.0 d e ∙ ap (λ z. Some (kind_of_type z)) is) in
        by_both _ _ _ _ refl (as_argument (read declared f.regs o))
        (variable_reads M sticks code w s the_store declared a.func.regs f.regs (registers_here p f.fn a.func a.there) a.regs Ref AnInstance o has text_found by_argument
        (λ v y. object_reads M sticks code w s the_store declared a.func.regs f.regs (registers_here p f.fn a.func a.there) a.regs AnInstance text_found by_argument v y
        (λ x m read e. by_both _ _ _ _ refl (calm_value v) (by_instance v x (held_meets code w s the_store AnInstance v y x m read e)))
        (λ e. no_method v (unsuited w v e))))
    by_type d e Int is = other d e (λ same. let z : Int ≡ Ref = sym is ∙ same in absurd (cc))
    by_type d e I64 is = other d e (λ same. let z : I64 ≡ Ref = sym is ∙ same in absurd (cc))
    by_type d e BoolType is = other d e (λ same. let z : BoolType ≡ Ref = sym is ∙ same in absurd (cc))

  -- while an exception is pending neither calls
  by_pending : (q : Option Thrown) → w.pending ≡ q → (c : Option ℕ) → s.pending ≡ c → PendingFits s q c → (d : List ℕ × RType) → slice_get a.func.regs o.0 ≡ Some d → M (method_called false s code r.0 o.0 (map register_number args) entry) (meaning.calls_method p r o args f below w entry)
  by_pending None calm None quiet at d e =
      by_both _ _ _ _ (ap (λ z. if_calm false s z text_reads) quiet) refl (by_type calm d e d.1 refl)
  by_pending None calm (Some c) quiet at d e = absurd at
  by_pending (Some x) thrown c quiet at d e =
      sticks _ _ (ap (λ z. meaning.if_some (read declared f.regs o) (λ v. meaning.if_calm z (program_by (meaning.method_of p w v entry)))) thrown ∙ by (read declared f.regs o))
    where
      by : (q : Option Value) → meaning.if_some q (λ v. Stuck) ≡ Stuck
      by None = refl
      by (Some v) = refl

  pub method_does : (d : List ℕ × RType) → slice_get a.func.regs o.0 ≡ Some d → M (method_called false s code r.0 o.0 (map register_number args) entry) (meaning.calls_method p r o args f below w entry)
  method_does d e = by_pending w.pending refl s.pending refl a.world.pending d e

-- ---- both calls of methods
module _ (p : Program) (code : Code) (heads : HasHeads p code) (formed : WellFormed code) (f : Frame) (below : List Waiting) (w : World) (s : MachineState) (a : RunsIn p f w s) where
  abbrev Goal : Op → Reg → Type 0
  Goal x into =
      (n : ℕ) × CallDoes p a.func.regs n into f below s (do_op Fitting p x f below w) (step_at false code s (Some (line_of p x)))

  object_declared : (x o : Reg) (rest : Bool) → (is_declared_in (map variable_of a.func.regs) x.0 && (is_declared_in (map variable_of a.func.regs) o.0 && rest)) ≡ true → (d : List ℕ × RType) × (slice_get a.func.regs o.0 ≡ Some d)
  object_declared x o rest e =
      let inside : is_declared_in (map variable_of a.func.regs) o.0 ≡ true = (and_true (is_declared_in (map variable_of a.func.regs) o.0) rest (and_true (is_declared_in (map variable_of a.func.regs) x.0) (is_declared_in (map variable_of a.func.regs) o.0 && rest) e).1).0 in
      get_within a.func.regs o.0 (subst (λ n. o.0 < n) (size_map variable_of a.func.regs) (ltb-true o.0 (length (map variable_of a.func.regs)) inside))

  trait_by : (into o : Reg) (t n : ℕ) (args : List Reg) (q : Option CClass) → slice_get p.classes t ≡ q → (d : List ℕ × RType) → slice_get a.func.regs o.0 ≡ Some d → Goal (TraitCall into o t n args) into
  trait_by into o t n args None is d e =
      (0, subst (λ z. CallDoes p a.func.regs 0 into f below s z (step_at false code s (Some (line_of p (TraitCall into o t n args))))) (sym (ap (λ z. meaning.if_some (option_map meaning.class_name z) (λ name. calls_method p into o args f below w (trait_method_at name n))) is)) (call_sticks _))
  trait_by into o t n args (Some k) is d e =
      let does : do_op Fitting p (TraitCall into o t n args) f below w ≡ calls_method p into o args f below w (trait_method_at k.name n) = ap (λ z. meaning.if_some (option_map meaning.class_name z) (λ name. calls_method p into o args f below w (trait_method_at name n))) is in
      let text : step_at false code s (Some (line_of p (TraitCall into o t n args))) ≡ method_called false s code into.0 o.0 (map register_number args) (trait_method_at k.name n) = ap (λ z. method_called false s code into.0 o.0 (map register_number args) (trait_method_at (option_map_or (λ (c : CClass). c.name) z []) n)) is in
      subst (λ z. (g : ℕ) × CallDoes p a.func.regs g into f below s (do_op Fitting p (TraitCall into o t n args) f below w) z) (sym text)
      (subst (λ z. (g : ℕ) × CallDoes p a.func.regs g into f below s z (method_called false s code into.0 o.0 (map register_number args) (trait_method_at k.name n))) (sym does)
      (method_does p code heads formed into o args f below w s a (trait_method_at k.name n) (of_trait k.name n) d e))

  pub method_op_does : (x : Op) (into : Reg) → method_target x ≡ Some into → line_at code s.top ≡ Some (line_of p x) → Goal x into
  method_op_does (Virtual r o n args) into target is =
      let d = object_declared r o _ (spelled_here p code heads f w s a formed (line_of p (Virtual r o n args)) is) in
      let both : Some r ≡ Some into = target in
      let same : r ≡ into = cc in
      subst (Goal (Virtual r o n args)) same (method_does p code heads formed r o args f below w s a (method_at n) (of_class n) d.0 d.1)
  method_op_does (TraitCall r o t n args) into target is =
      let d = object_declared r o _ (spelled_here p code heads f w s a formed (line_of p (TraitCall r o t n args)) is) in
      let both : Some r ≡ Some into = target in
      let same : r ≡ into = cc in
      subst (Goal (TraitCall r o t n args)) same (trait_by r o t n args (slice_get p.classes t) refl d.0 d.1)
  method_op_does (Move r t) into target is = absurd (cc)
  method_op_does (Lit r l) into target is = absurd (cc)
  method_op_does (Prim to q args) into target is = absurd (cc)
  method_op_does (Call r n args) into target is = absurd (cc)
  method_op_does Turn into target is = absurd (cc)
  method_op_does (Inc r) into target is = absurd (cc)
  method_op_does (Dec r) into target is = absurd (cc)
  method_op_does (XDec r) into target is = absurd (cc)

pub methods_do : MethodsDo
methods_do p code heads formed x into target f below w s a is =
    subst (λ l. (n : ℕ) × CallDoes p a.func.regs n into f below s (do_op Fitting p x f below w) (step_at false code s l)) (sym is) (method_op_does p code heads formed f below w s a x into target is)
