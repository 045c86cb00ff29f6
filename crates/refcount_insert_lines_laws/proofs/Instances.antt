-- An attribute of an instance: it is read and written alike in a program and in its C text, or the program is stuck where a register is
-- not of the kind of its slot.
use Rattle.std.proofs.Common.{◌≡◌, refl, sym, ◌∙◌, ap, subst, ℕ, Bool, true, false, cond, List, [], ◌∷◌, Option, Some, None}
use Rattle.std.specs.Prelude.{ℤ, pos, negsuc, slice_get, slice_set, map}
use Rattle.std.specs.Option.{option_map, option_map_or, option_and_then}
use Rattle.value_core.specs.Exceptions.{Thrown}
use Rattle.value_core.specs.Value.{Value, ObjVal, InstObj}
use Rattle.c_core.specs.declared.code.Kind.{Kind}
use Rattle.c_core.specs.declared.code.CClass.{CClass}
use Rattle.c_core.specs.declared.code.CArg.TheVariants as c_arg
use Rattle.c_core.specs.declared.code.Code.{Code}
use Rattle.c_core.specs.declared.primitive.Primitive.TheVariants as prim
use Rattle.c_core.specs.declared.primitive.AttrPrim.TheVariants as attr
use Rattle.c_core.specs.Functions.{has_kind, kinds_agree, error_word}
use Rattle.c_core.specs.Machine.{Word, NoneObject, InstCell, set_refs, MachineState}
use Rattle.c_core.specs.Primitives.{OfSlot}
use Rattle.c_core.specs.Arguments.{Cell, kind_of_slot, kind_found, word_in}
use Rattle.c_core.specs.Arguments as machines
use Rattle.c_core.specs.Stands.{IsLive}
use Rattle.c_core.specs.Step.{kind_of, slot_of, slot_fits, undefined}
use Rattle.c_core.specs.Step as steps
use Rattle.ir_core.specs.declared.code.RType.{RType}
use Rattle.ir_core.specs.declared.code.Reg.{Reg}
use Rattle.ir_core.specs.declared.code.PArg.{PArg}
use Rattle.ir_core.specs.declared.code.PArg.TheVariants as arg
use Rattle.ir_core.specs.declared.code.Program.{Program}
use Rattle.ir_core.specs.Registers.{Holds, error_of}
use Rattle.ir_core.specs.Rows.{Declared}
use Rattle.ir_core.specs.Effects.{World, Argument, Given, Written, Effect, Wrong, Gives, Acts, Fails, with_object, of_instance, slot_got, slot_set, slot_in, name_of_class, attribute_at}
use Rattle.ir_core.specs.Effects as program
use Rattle.ir_core.specs.Meaning.{Frame, registers_of, has_slot_kind, is_into, typed}
use Rattle.ir_core.specs.Lower.{kind_of_type, number_of}
use Rattle.refcount_insert_lines_laws.specs.Matching.{type_in, slot_typed, Fits, PlacesFit, AttributesFit, HasHeads, RunsIn}
use Rattle.refcount_insert_lines_laws.proofs.ListLemmas.{get_map}
use Rattle.refcount_insert_lines_laws.proofs.Places.{PlaceAt, place_at, place_set}
use Rattle.refcount_insert_lines_laws.proofs.Words.{error_fits}
use Rattle.refcount_insert_lines_laws.proofs.Facts.{kind_here, type_here, type_of_kind, kind_in_type}
use Rattle.refcount_insert_lines_laws.proofs.Agreeing.{Agrees, both_share, both_lend, both_change, both_fail, IsTarget}

-- what the machine does with what it finds at a slot: it shares it or lends it, and fails where there is nothing
pub record IsReading (p : Program) (w : World) (s : MachineState) (from : steps.Effect → steps.Effect) : Type 0 where
  pub shares : (t : RType) (v : Value) (y : Word) → Fits s t (Holds v) y → Agrees p w s (Some t) (Gives v w) (from (steps.Shares y))
  pub fails : (y : Word) (e : Thrown) → from (steps.Fails y e) ≡ steps.Fails y e

pub sharing : (p : Program) (w : World) (s : MachineState) → IsReading p w s (λ e. e)
sharing p w s = record { shares = both_share; fails = λ y e. refl }

pub lending : (p : Program) (w : World) (s : MachineState) → IsReading p w s steps.lent
lending p w s = record { shares = both_lend; fails = λ y e. refl }

-- the slot of a class, by its number, and what an instance has there
slot_at : (s : MachineState) (kept : CClass) (vs : List (Option Value)) (ys : List (Option Word)) → PlacesFit s (map slot_typed kept.attrs) vs ys → (n : ℤ) → PlaceAt s (option_map slot_typed (slot_of kept n)) (attribute_at vs n) (steps.attribute_at ys n)
slot_at s kept vs ys m (pos i) =
    subst (λ o. PlaceAt s o (slice_get vs i) (slice_get ys i)) (get_map slot_typed kept.attrs i) (place_at s (map slot_typed kept.attrs) vs ys m i)
slot_at s kept vs ys m (negsuc i) = tt

abbrev kind_in : Option (List ℕ × Kind) → Option Kind
kind_in o = option_map (λ (a : List ℕ × Kind). a.1) o

kind_at_slot : (code : Code) (class : ℕ) (kept : CClass) → slice_get code.classes class ≡ Some kept → (n : ℤ) → kind_of_slot code class n ≡ kind_in (slot_of kept n)
kind_at_slot code class kept e (pos i) = ap (option_and_then (λ (k : CClass). option_map (λ (a : List ℕ × Kind). a.1) (slice_get k.attrs i))) e
kind_at_slot code class kept e (negsuc i) = refl

module _ (p : Program) (code : Code) (heads : HasHeads p code) (f : Frame) (w : World) (s : MachineState) (a : RunsIn p f w s) where
  abbrev declared : Declared
  declared = registers_of p f.fn

  -- ---- a read
  -- a target that is declared, and is of a kind
  abbrev pub IsKnown : Option Reg → Type 0
  IsKnown None = Unit {0}
  IsKnown (Some r) = (d : List ℕ × RType) × (slice_get a.func.regs r.0 ≡ Some d)

  abbrev pub fits_into : Option Kind → Option Reg → Bool
  fits_into k None = true
  fits_into k (Some r) = kinds_agree k (kind_of code s.top r.0)

  pub slot_answer : (ys : List machines.Argument) (to : Option Reg) → slot_fits code s.top OfSlot (option_map number_of to) ys ≡ fits_into (kind_found code OfSlot ys) to
  slot_answer ys None = refl
  slot_answer ys (Some r) = refl

  register_kind : (r : Reg) (d : List ℕ × RType) → slice_get a.func.regs r.0 ≡ Some d → (k : Kind) → has_slot_kind declared k r ≡ has_kind k (Some (kind_of_type d.1))
  register_kind r d e k = ap (λ o. has_kind k (option_map kind_of_type o)) (type_here p f.fn a.func a.there r d e)

  pub register_type : (r : Reg) (d : List ℕ × RType) → slice_get a.func.regs r.0 ≡ Some d → (k : Kind) → has_slot_kind declared k r ≡ true → d.1 ≡ type_in k
  register_type r d e k has =
      let same : has_kind k (Some (kind_of_type d.1)) ≡ true = sym (register_kind r d e k) ∙ has in
      sym (type_of_kind (type_in k) d.1 (subst (λ z. has_kind z (Some (kind_of_type d.1)) ≡ true) (sym (kind_in_type k)) same))

  into_is : (k : Kind) (to : Option Reg) → IsKnown to → fits_into (Some k) to ≡ is_into declared k to
  into_is k None known = refl
  into_is k (Some r) known =
      ap (has_kind k) (kind_here p code heads f w s a r.0 known.0 known.1) ∙ sym (register_kind r known.0 known.1 k)

  target_has : (k : Kind) (to : Option Reg) → IsKnown to → is_into declared k to ≡ true → IsTarget a.func.regs (Some (type_in k)) to
  target_has k None known e = tt
  target_has k (Some r) known e = (known.0, known.1, register_type r known.0 known.1 k e)

  -- the program is stuck, or both go on alike
  pub data Read (to : Option Reg) : Bool → Effect → steps.Effect → Type 0 where
    read_wrong : (b : Bool) (y : steps.Effect) → Read to b Wrong y
    read_right : (t : RType) (b : Bool) (x : Effect) (y : steps.Effect) → IsTarget a.func.regs (Some t) to → b ≡ true → Agrees p w s (Some t) x y → Read to b x y

  read_by : (k : Kind) (to : Option Reg) → IsKnown to → (x : Effect) (y : steps.Effect) → Agrees p w s (Some (type_in k)) x y → (b : Bool) → is_into declared k to ≡ b → Read to (fits_into (Some k) to) (cond b x Wrong) y
  read_by k to known x y agrees true e = read_right (type_in k) _ x y (target_has k to known e) (into_is k to known ∙ e) agrees
  read_by k to known x y agrees false e = read_wrong _ y

  unset_fails : (k : Kind) (e : Thrown) → Agrees p w s (Some (type_in k)) (Fails e w) (steps.Fails (error_word k) e)
  unset_fails k e =
      let fits : Fits s (type_in k) (error_of (type_in k)) (error_word k) = subst (λ z. Fits s (type_in k) (error_of (type_in k)) (error_word z)) (kind_in_type k) (error_fits s (type_in k)) in
      both_fail (Some (type_in k)) e (error_word k) (λ u is. let same : type_in k ≡ u = cc in subst (λ z. Fits s z (error_of z) (error_word k)) same fits)

  module _ (from : steps.Effect → steps.Effect) (reading : IsReading p w s from) (to : Option Reg) (known : IsKnown to) (args : List PArg) where
    read_row : (name : List ℕ) (o : Option (List ℕ × Kind)) (v : Option (Option Value)) (y : Option (Option Word)) → PlaceAt s (option_map slot_typed o) v y → Read to (fits_into (kind_in o) to) (typed declared to args (slot_got name o v w)) (from (steps.slot_got name o y))
    read_row name None None None at = read_wrong _ _
    read_row name None None (Some y) at = absurd at
    read_row name None (Some v) y at = absurd at
    read_row name (Some k) None y at = absurd at
    read_row name (Some k) (Some None) None at = absurd at
    read_row name (Some k) (Some (Some v)) None at = absurd at
    read_row name (Some k) (Some None) (Some None) at =
        read_by k.1 to known (Fails (undefined k.0 name) w) _ (subst (Agrees p w s (Some (type_in k.1)) (Fails (undefined k.0 name) w)) (sym (reading.fails (error_word k.1) (undefined k.0 name))) (unset_fails k.1 (undefined k.0 name))) (is_into declared k.1 to) refl
    read_row name (Some k) (Some None) (Some (Some y)) at = absurd at
    read_row name (Some k) (Some (Some v)) (Some None) at = absurd at
    read_row name (Some k) (Some (Some v)) (Some (Some y)) at =
        read_by k.1 to known (Gives v w) _ (reading.shares (type_in k.1) v y at) (is_into declared k.1 to) refl

    -- the attribute of an object
    pub read_slot : (k c class : ℕ) (attributes : List (Option Value)) (words : List (Option Word)) (kept : CClass) → slice_get w.store k ≡ Some (InstObj class attributes) → slice_get code.classes class ≡ Some kept → PlacesFit s (map slot_typed kept.attrs) attributes words → (n : ℤ) → Read to (fits_into (kind_found code OfSlot (Cell c (InstCell class words) ∷ machines.Written (c_arg.Number n) ∷ [])) to) (typed declared to args (of_instance (λ class attributes. slot_got (name_of_class p class) (slot_in p class n) (attribute_at attributes n) w) (slice_get w.store k))) (from (steps.attribute_got (slice_get code.classes class) n (steps.attribute_at words n)))
    read_slot k c class attributes words kept there is m n =
        let go : ℕ → List (Option Value) → Effect = λ class attributes. slot_got (name_of_class p class) (slot_in p class n) (attribute_at attributes n) w in
        let in_program : slice_get p.classes class ≡ Some kept = ap (λ z. slice_get z class) (sym heads.classes) ∙ is in
        let does : of_instance go (slice_get w.store k) ≡ slot_got kept.name (slot_of kept n) (attribute_at attributes n) w =
        ap (of_instance go) there
        ∙ ap (λ (o : Option CClass). slot_got (option_map_or (λ k. k.name) o []) (option_and_then (λ k. slot_of k n) o) (attribute_at attributes n) w) in_program in
        let says : from (steps.attribute_got (slice_get code.classes class) n (steps.attribute_at words n)) ≡ from (steps.slot_got kept.name (slot_of kept n) (steps.attribute_at words n)) =
        ap (λ o. from (steps.attribute_got o n (steps.attribute_at words n))) is in
        let row = read_row kept.name (slot_of kept n) (attribute_at attributes n) (steps.attribute_at words n) (slot_at s kept attributes words m n) in
        subst (λ z. Read to (fits_into z to) (typed declared to args (of_instance go (slice_get w.store k))) (from (steps.attribute_got (slice_get code.classes class) n (steps.attribute_at words n)))) (sym (kind_at_slot code class kept is n))
        (subst (λ z. Read to (fits_into (kind_in (slot_of kept n)) to) (typed declared to args z) (from (steps.attribute_got (slice_get code.classes class) n (steps.attribute_at words n)))) (sym does)
        (subst (Read to (fits_into (kind_in (slot_of kept n)) to) (typed declared to args (slot_got kept.name (slot_of kept n) (attribute_at attributes n) w))) (sym says) row))

  -- ---- a write
  module _ (k c class i : ℕ) (attributes : List (Option Value)) (words : List (Option Word)) (kept : CClass) (there : slice_get w.store k ≡ Some (InstObj class attributes)) (made : slice_get s.made k ≡ Some c) (live : IsLive s c (InstCell class words)) (is : slice_get code.classes class ≡ Some kept) (m : PlacesFit s (map slot_typed kept.attrs) attributes words) where
    in_program : slice_get p.classes class ≡ Some kept
    in_program = ap (λ z. slice_get z class) (sym heads.classes) ∙ is

    abbrev pub set_effect : Value → Effect
    set_effect v = program.effect p (prim.Attr attr.Set) (Given (ObjVal k) ∷ Written (arg.Number (pos i)) ∷ Given v ∷ []) w

    does : (v : Value) → set_effect v ≡ slot_set k class (pos i) attributes v (slice_get kept.attrs i) (slice_get attributes i) w
    does v =
        let go : ℕ → List (Option Value) → Effect = λ class attributes. slot_set k class (pos i) attributes v (slot_in p class (pos i)) (attribute_at attributes (pos i)) w in
        ap (of_instance go) there
        ∙ ap (λ (o : Option CClass). slot_set k class (pos i) attributes v (option_and_then (λ k. slot_of k (pos i)) o) (slice_get attributes i) w) in_program

    -- no slot has this number
    pub no_slot : slice_get kept.attrs i ≡ None → (v : Value) → set_effect v ≡ Wrong
    no_slot none v = does v ∙ ap (λ o. slot_set k class (pos i) attributes v o (slice_get attributes i) w) none

    -- one has
    module _ (slot : List ℕ × Kind) (here : slice_get kept.attrs i ≡ Some slot) where
      pub slot_kind : kind_of_slot code class (pos i) ≡ Some slot.1
      slot_kind = kind_at_slot code class kept is (pos i) ∙ ap kind_in here

      abbrev held : Option (Option Value) → Option (Option Word) → Type 0
      held = PlaceAt s (Some (slot_typed slot))

      written : held (slice_get attributes i) (slice_get words i)
      written = subst (λ o. PlaceAt s (option_map slot_typed o) (slice_get attributes i) (slice_get words i)) here (slot_at s kept attributes words m (pos i))

      now : (v : Value) (y : Word) → Fits s (type_in slot.1) (Holds v) y → PlacesFit s (map slot_typed kept.attrs) (slice_set attributes i (Some v)) (slice_set words i (Some y))
      now v y fits =
          place_set s (map slot_typed kept.attrs) attributes words i (slot_typed slot) (Some v) (Some y) m (get_map slot_typed kept.attrs i ∙ ap (option_map slot_typed) here) fits

      abbrev Done : Value → Word → Option (Option Value) → Option (Option Word) → Type 0
      Done v y old word =
          (e : Effect) × (slot_set k class (pos i) attributes v (Some slot) old w ≡ program.IfWritten slot.1 e) × Agrees p w s None e (steps.slot_set c class i words y word)

      done : (v : Value) (y : Word) → Fits s (type_in slot.1) (Holds v) y → (old : Option (Option Value)) (word : Option (Option Word)) → held old word → Done v y old word
      done v y fits None word at = absurd at
      done v y fits (Some None) None at = absurd at
      done v y fits (Some (Some u)) None at = absurd at
      done v y fits (Some old) (Some word) at = (
        Acts (with_object k (InstObj class (slice_set attributes i (Some v))) w),
        refl,
        both_change k c (InstObj class (slice_set attributes i (Some v))) (InstCell class (slice_set words i (Some y))) NoneObject (set_refs (word ∷ [])) (record {
          made = made;
          old = InstCell class words;
          live = live;
          object = refl;
          fits = (refl, subst (λ o. AttributesFit s o (slice_set attributes i (Some v)) (slice_set words i (Some y))) (sym in_program) (now v y fits));
        }),
      )

      pub write_row : (v : Value) (y : Word) (x : machines.Argument) → word_in slot.1 x ≡ Some y → Fits s (type_in slot.1) (Holds v) y → (e : Effect) × (set_effect v ≡ program.IfWritten slot.1 e) × Agrees p w s None e (steps.effect code s (prim.Attr attr.Set) (Cell c (InstCell class words) ∷ machines.Written (c_arg.Number (pos i)) ∷ x ∷ []))
      write_row v y x word fits =
          let row : Done v y (slice_get attributes i) (slice_get words i) = done v y fits (slice_get attributes i) (slice_get words i) written in
          let says : steps.effect code s (prim.Attr attr.Set) (Cell c (InstCell class words) ∷ machines.Written (c_arg.Number (pos i)) ∷ x ∷ []) ≡ steps.slot_set c class i words y (slice_get words i) =
          ap (λ o. steps.of_word (steps.attribute_set c class (pos i) words) (option_and_then (λ k. word_in k x) o)) slot_kind
          ∙ ap (steps.of_word (steps.attribute_set c class (pos i) words)) word in (
            row.0,
            does v ∙ (ap (λ o. slot_set k class (pos i) attributes v o (slice_get attributes i) w) here ∙ row.1),
            subst (Agrees p w s None row.0) (sym says) row.2,
          )

      -- whatever is written, it is so by a register of the slot's kind
      pub asks_kind : (v : Value) → (e : Effect) × (set_effect v ≡ program.IfWritten slot.1 e)
      asks_kind v = by (slice_get attributes i) (slice_get words i) written refl
        where
          by : (old : Option (Option Value)) (word : Option (Option Word)) → held old word → slice_get attributes i ≡ old → (e : Effect) × (set_effect v ≡ program.IfWritten slot.1 e)
          by None word at e = absurd at
          by (Some old) word at e = (
            Acts (with_object k (InstObj class (slice_set attributes i (Some v))) w),
            does v ∙ (ap (λ o. slot_set k class (pos i) attributes v o (slice_get attributes i) w) here ∙ ap (λ o. slot_set k class (pos i) attributes v (Some slot) o w) e),
          )
