-- What the arguments of a primitive are in a program and in C text: read once, for every row whose kinds stand in the row.
use Rattle.std.proofs.Common.{◌≡◌, refl, sym, ◌∙◌, ap, subst, ℕ, arith, Bool, true, false, ◌&&◌, List, [], ◌∷◌, ◌++◌, Option, Some, None}
use Rattle.std.specs.Prelude.{ℤ, slice_get, map, is_some}
use Rattle.std.specs.Option.{option_map, option_and_then}
use Rattle.std.proofs.lemmas.Option.{slice_get_within}
use Rattle.value_core.specs.Exceptions.{Thrown}
use Rattle.value_core.specs.Value.{Value, IntVal, BoolVal, NoneVal, StrVal, TupleVal, ExcVal, ObjVal, Object, ListObj, DictObj, InstObj}
use Rattle.c_core.specs.declared.code.Kind.TheVariants.{Tagged, Int64, Char, Object as ObjectKind}
use Rattle.c_core.specs.declared.code.CArg.{CArg}
use Rattle.c_core.specs.declared.code.CArg.TheVariants as c_arg
use Rattle.c_core.specs.declared.code.CClass.{CClass}
use Rattle.c_core.specs.declared.code.Code.{Code}
use Rattle.c_core.specs.declared.fault.Fault.TheVariants as fault
use Rattle.c_core.specs.Cells.{content_at}
use Rattle.c_core.specs.Keys.{Key, key_in, key_of}
use Rattle.c_core.specs.Ledgers.{Ledger, without}
use Rattle.c_core.specs.Machine.{Word, ShortInt, Native, ObjectCell, NoneObject, TrueObject, FalseObject, IntCell, StrCell, ListCell, DictCell, TupleCell, InstCell, ExcCell, Content, MachineState}
use Rattle.c_core.specs.Primitives.{KindAt, Is, Holding, Anything, ANumber, AText, AnException, AList, ATuple, ADict, AKey, AnInstance, Parameter, Borrows, Steals, MaySteal, TakesNumber, TakesPlace, TakesText, TakesDecimal, TakesException, TakesGlobal, TakesClass, may_end}
use Rattle.c_core.specs.Arguments.{Cell, Plain, is_value_of, is_holding, int_in, key_as, kind_of_global, word_in}
use Rattle.c_core.specs.Arguments as machines
use Rattle.c_core.specs.Stands.{IsLive}
use Rattle.c_core.specs.Step.{Next, if_true, if_there, if_variable, if_argument, if_arguments, truth_word}
use Rattle.c_core.specs.Step as steps
use Rattle.c_core.specs.WellFormed.{Declared as CDeclared, has_kind, kind_at, arg_fits, args_fit}
use Rattle.c_core.proofs.Lines.{and_true}
use Rattle.ir_core.specs.declared.code.RType.{RType}
use Rattle.ir_core.specs.declared.code.RType.TheVariants.{Int, I64, Bool as BoolType, Ref}
use Rattle.ir_core.specs.declared.code.Reg.{Reg}
use Rattle.ir_core.specs.declared.code.PArg.{PArg}
use Rattle.ir_core.specs.declared.code.PArg.TheVariants as arg
use Rattle.ir_core.specs.Registers.{Held, Unset, Holds, Regs}
use Rattle.ir_core.specs.Rows.{Declared, type_of_reg}
use Rattle.ir_core.specs.Effects.{World, Argument, Given, Written, key_of_value}
use Rattle.ir_core.specs.Meaning.{Config, Stuck, value_of, argument, arguments}
use Rattle.ir_core.specs.Meaning as meaning
use Rattle.ir_core.specs.Lower.{kind_of_type, variable_of, argument_in}
use Rattle.refcount_insert_lines_laws.specs.Matching.{slot_typed, Boxed, PartsBoxed, AllBoxed, PairsBoxed, PlacesFit, AttributesFit, ObjectFits, ObjectAt, StoreFits, Fits, short, big, native, char_true, char_false, boxed, RegsFit}
use Rattle.refcount_insert_lines_laws.specs.Matching.{truth_object}
use Rattle.refcount_insert_lines_laws.proofs.ListLemmas.{get_within}
use Rattle.refcount_insert_lines_laws.proofs.Words.{value_word}
use Rattle.refcount_insert_lines_laws.proofs.Facts.{has_type}

-- what the machine finds of an object's word: the word, or its cell with the content
pub data IsRead (s : MachineState) : Word → machines.Argument → Type 0 where
  read_none : IsRead s NoneObject (Plain NoneObject)
  read_true : IsRead s TrueObject (Plain TrueObject)
  read_false : IsRead s FalseObject (Plain FalseObject)
  read_cell : (c : ℕ) (x : Content) → IsLive s c x → IsRead s (ObjectCell c) (Cell c x)

-- an argument of a program next to one of C text that passed the tests of a parameter
pub data Meets (w : World) (s : MachineState) (code : Code) : Parameter → Argument → machines.Argument → Type 0 where
  is_native : (n : ℤ) → Meets w s code (Borrows (Is Int64) Anything) (Given (IntVal n)) (Plain (Native n))
  is_truth : (b : Bool) → Meets w s code (Borrows (Is Char) Anything) (Given (BoolVal b)) (Plain (truth_word b))
  is_number : (n : ℤ) (a : machines.Argument) → int_in a ≡ Some n → Meets w s code (Borrows (Is Tagged) ANumber) (Given (IntVal n)) a
  owns_short : (n : ℤ) → Meets w s code (Steals (Is Tagged) ANumber) (Given (IntVal n)) (Plain (ShortInt n))
  owns_big : (n : ℤ) (c : ℕ) → IsLive s c (IntCell n) → Meets w s code (Steals (Is Tagged) ANumber) (Given (IntVal n)) (Cell c (IntCell n))
  is_any : (v : Value) (y : Word) (a : machines.Argument) → Boxed s v y → IsRead s y a → Meets w s code (Borrows (Is ObjectKind) Anything) (Given v) a
  owns_any : (v : Value) (y : Word) (a : machines.Argument) → Boxed s v y → word_in ObjectKind a ≡ Some y → Meets w s code (Steals (Is ObjectKind) Anything) (Given v) a
  may_own_any : (v : Value) (y : Word) (a : machines.Argument) → Boxed s v y → word_in ObjectKind a ≡ Some y → Meets w s code (MaySteal (Is ObjectKind) Anything) (Given v) a
  is_box : (n : ℤ) (c : ℕ) → IsLive s c (IntCell n) → Meets w s code (Borrows (Is ObjectKind) ANumber) (Given (IntVal n)) (Cell c (IntCell n))
  is_text : (t : List ℕ) (c : ℕ) → Meets w s code (Borrows (Is ObjectKind) AText) (Given (StrVal t)) (Cell c (StrCell t))
  is_exception : (e : Thrown) (c : ℕ) → Meets w s code (Borrows (Is ObjectKind) AnException) (Given (ExcVal e)) (Cell c (ExcCell e))
  is_stolen : (e : Thrown) (c : ℕ) → IsLive s c (ExcCell e) → Meets w s code (Steals (Is ObjectKind) AnException) (Given (ExcVal e)) (Cell c (ExcCell e))
  is_list : (k c : ℕ) (items : List Value) (words : List Word) → slice_get w.store k ≡ Some (ListObj items) → slice_get s.made k ≡ Some c → IsLive s c (ListCell words) → AllBoxed s items words → Meets w s code (Borrows (Is ObjectKind) AList) (Given (ObjVal k)) (Cell c (ListCell words))
  is_tuple : (parts : _) (c : ℕ) (words : List Word) → PartsBoxed s parts words → Meets w s code (Borrows (Is ObjectKind) ATuple) (Given (TupleVal parts)) (Cell c (TupleCell words))
  is_dict : (k c : ℕ) (pairs : List (Value × Value)) (words : List (Word × Word)) → slice_get w.store k ≡ Some (DictObj pairs) → slice_get s.made k ≡ Some c → IsLive s c (DictCell words) → PairsBoxed s pairs words → Meets w s code (Borrows (Is ObjectKind) ADict) (Given (ObjVal k)) (Cell c (DictCell words))
  is_instance : (k c class : ℕ) (attributes : List (Option Value)) (words : List (Option Word)) (kept : CClass) → slice_get w.store k ≡ Some (InstObj class attributes) → slice_get s.made k ≡ Some c → IsLive s c (InstCell class words) → slice_get code.classes class ≡ Some kept → PlacesFit s (map slot_typed kept.attrs) attributes words → Meets w s code (Borrows (Is ObjectKind) AnInstance) (Given (ObjVal k)) (Cell c (InstCell class words))
  is_a_key : (v : Value) (y : Word) (a : machines.Argument) (k : Key) → Boxed s v y → key_of_value v ≡ Some k → key_as a ≡ Some k → Meets w s code (Borrows (Is ObjectKind) AKey) (Given v) a
  owns_key : (v : Value) (y : Word) (a : machines.Argument) (k : Key) → Boxed s v y → key_of_value v ≡ Some k → key_as a ≡ Some k → word_in ObjectKind a ≡ Some y → Meets w s code (Steals (Is ObjectKind) AKey) (Given v) a
  writes_number : (n : ℤ) → Meets w s code TakesNumber (Written (arg.Number n)) (machines.Written (c_arg.Number n))
  writes_place : (n : ℤ) → Meets w s code TakesPlace (Written (arg.Number n)) (machines.Written (c_arg.Number n))
  writes_text : (t : List ℕ) → Meets w s code TakesText (Written (arg.Text t)) (machines.Written (c_arg.Text t))
  writes_decimal : (t : List ℕ) → Meets w s code TakesDecimal (Written (arg.Text t)) (machines.Written (c_arg.Text t))
  writes_exception : (t : List ℕ) → Meets w s code TakesException (Written (arg.Text t)) (machines.Written (c_arg.Text t))
  writes_global : (name : List ℕ) → is_some (kind_of_global code name) ≡ true → Meets w s code TakesGlobal (Written (arg.Global name)) (machines.Written (c_arg.Global name))
  writes_class : (name : List ℕ) → Meets w s code TakesClass (Written (arg.Class name)) (machines.Written (c_arg.Class name))

pub data AllMeet (w : World) (s : MachineState) (code : Code) : List Parameter → List Argument → List machines.Argument → Type 0 where
  no_more : AllMeet w s code [] [] []
  left_out : {k : KindAt} {h : Holding} {qs : List Parameter} → AllMeet w s code (MaySteal k h ∷ qs) [] []
  one_more : {q : Parameter} {v : Argument} {a : machines.Argument} {qs : List Parameter} {vs : List Argument} {ys : List machines.Argument} → Meets w s code q v a → AllMeet w s code qs vs ys → AllMeet w s code (q ∷ qs) (v ∷ vs) (a ∷ ys)

-- whether a value is what is asked for
abbrev pub is_list_object : Option Object → Bool
is_list_object (Some (ListObj items)) = true
is_list_object _ = false

abbrev pub is_dict_object : Option Object → Bool
is_dict_object (Some (DictObj pairs)) = true
is_dict_object _ = false

abbrev pub is_instance_object : Option Object → Bool
is_instance_object (Some (InstObj class attributes)) = true
is_instance_object _ = false

abbrev pub suits : World → Holding → Value → Bool
suits w Anything v = true
suits w ANumber (IntVal n) = true
suits w ANumber _ = false
suits w AText (StrVal t) = true
suits w AText _ = false
suits w AnException (ExcVal e) = true
suits w AnException _ = false
suits w AList (ObjVal k) = is_list_object (slice_get w.store k)
suits w AList _ = false
suits w ATuple (TupleVal parts) = true
suits w ATuple _ = false
suits w ADict (ObjVal k) = is_dict_object (slice_get w.store k)
suits w ADict _ = false
suits w AKey v = is_some (key_of_value v)
suits w AnInstance (ObjVal k) = is_instance_object (slice_get w.store k)
suits w AnInstance _ = false

abbrev pub suited : World → Parameter → Argument → Bool
suited w (Borrows k h) (Given v) = suits w h v
suited w (Steals k h) (Given v) = suits w h v
suited w (MaySteal k h) (Given v) = suits w h v
suited w _ _ = true

abbrev pub are_suited : World → List Parameter → List Argument → Bool
are_suited w (q ∷ qs) (v ∷ vs) = suited w q v && are_suited w qs vs
are_suited w _ _ = true

-- what meets a parameter is suited
meets_suits : (w : World) (s : MachineState) (code : Code) (q : Parameter) (v : Argument) (a : machines.Argument) → Meets w s code q v a → suited w q v ≡ true
meets_suits w s code q v a (is_native n) = refl
meets_suits w s code q v a (is_truth b) = refl
meets_suits w s code q v a (is_number n x e) = refl
meets_suits w s code q v a (owns_short n) = refl
meets_suits w s code q v a (owns_big n c live) = refl
meets_suits w s code q v a (is_any u y x m r) = refl
meets_suits w s code q v a (owns_any u y x m e) = refl
meets_suits w s code q v a (may_own_any u y x m e) = refl
meets_suits w s code q v a (is_box n c live) = refl
meets_suits w s code q v a (is_text t c) = refl
meets_suits w s code q v a (is_exception e c) = refl
meets_suits w s code q v a (is_stolen e c live) = refl
meets_suits w s code q v a (is_list k c items words at made live m) = ap is_list_object at
meets_suits w s code q v a (is_tuple parts c words m) = refl
meets_suits w s code q v a (is_dict k c pairs words at made live m) = ap is_dict_object at
meets_suits w s code q v a (is_instance k c class attributes words kept at made live there m) = ap is_instance_object at
meets_suits w s code q v a (is_a_key u y x k m has found) = ap is_some has
meets_suits w s code q v a (owns_key u y x k m has found e) = ap is_some has
meets_suits w s code q v a (writes_number n) = refl
meets_suits w s code q v a (writes_place n) = refl
meets_suits w s code q v a (writes_text t) = refl
meets_suits w s code q v a (writes_decimal t) = refl
meets_suits w s code q v a (writes_exception t) = refl
meets_suits w s code q v a (writes_global name known) = refl
meets_suits w s code q v a (writes_class name) = refl

-- the parameters that are read here
abbrev pub is_read : Parameter → Bool
is_read (Borrows (Is Int64) Anything) = true
is_read (Borrows (Is Char) Anything) = true
is_read (Borrows (Is Tagged) ANumber) = true
is_read (Steals (Is Tagged) ANumber) = true
is_read (Borrows (Is ObjectKind) h) = true
is_read (Steals (Is ObjectKind) AnException) = true
is_read (Steals (Is ObjectKind) AKey) = true
is_read (Steals (Is ObjectKind) Anything) = true
is_read (MaySteal (Is ObjectKind) Anything) = true
is_read TakesNumber = true
is_read TakesPlace = true
is_read TakesText = true
is_read TakesDecimal = true
is_read TakesException = true
is_read TakesGlobal = true
is_read TakesClass = true
is_read _ = false

abbrev pub are_read : List Parameter → Bool
are_read [] = true
are_read (q ∷ qs) = is_read q && are_read qs

-- ---- objects
module _ (code : Code) (w : World) (s : MachineState) (store : StoreFits s code.classes w.store) where
  -- an object of a value has a content, which is its object's
  pub object_content : (k c : ℕ) (x : Content) → slice_get s.made k ≡ Some c → IsLive s c x → (o : Object) × (slice_get w.store k ≡ Some o) × ObjectFits s code.classes o x
  object_content k c x made live =
      let o = get_within w.store k (omega (arith, slice_get_within s.made k c made, store.size)) in
      let at : ObjectAt s code.classes o.0 k = store.objects k o.0 o.1 in
      let both : Some at.c ≡ Some c = sym at.made ∙ made in
      let same : at.c ≡ c = cc in
      let contents : Some at.content ≡ Some x = sym at.live ∙ (ap (λ z. content_at s.cells z) same ∙ live) in
      let content : at.content ≡ x = cc in
      (o.0, o.1, subst (ObjectFits s code.classes o.0) content at.fits)

  object_holds : (o : Object) (x : Content) → ObjectFits s code.classes o x → (h : Holding) (k c : ℕ) → slice_get w.store k ≡ Some o → is_holding h (Cell c x) ≡ suits w h (ObjVal k)
  object_holds (ListObj items) (ListCell words) m AList k c e = ap is_list_object (sym e)
  object_holds (ListObj items) (ListCell words) m ADict k c e = ap is_dict_object (sym e)
  object_holds (ListObj items) (ListCell words) m AnInstance k c e = ap is_instance_object (sym e)
  object_holds (ListObj items) (ListCell words) m _ k c e = refl
  object_holds (ListObj items) (IntCell n) m h k c e = absurd m
  object_holds (ListObj items) (StrCell n) m h k c e = absurd m
  object_holds (ListObj items) (DictCell n) m h k c e = absurd m
  object_holds (ListObj items) (TupleCell n) m h k c e = absurd m
  object_holds (ListObj items) (InstCell n a) m h k c e = absurd m
  object_holds (ListObj items) (ExcCell n) m h k c e = absurd m
  object_holds (DictObj pairs) (DictCell words) m AList k c e = ap is_list_object (sym e)
  object_holds (DictObj pairs) (DictCell words) m ADict k c e = ap is_dict_object (sym e)
  object_holds (DictObj pairs) (DictCell words) m AnInstance k c e = ap is_instance_object (sym e)
  object_holds (DictObj pairs) (DictCell words) m _ k c e = refl
  object_holds (DictObj pairs) (IntCell n) m h k c e = absurd m
  object_holds (DictObj pairs) (StrCell n) m h k c e = absurd m
  object_holds (DictObj pairs) (ListCell n) m h k c e = absurd m
  object_holds (DictObj pairs) (TupleCell n) m h k c e = absurd m
  object_holds (DictObj pairs) (InstCell n a) m h k c e = absurd m
  object_holds (DictObj pairs) (ExcCell n) m h k c e = absurd m
  object_holds (InstObj class attributes) (InstCell n words) m AList k c e = ap is_list_object (sym e)
  object_holds (InstObj class attributes) (InstCell n words) m ADict k c e = ap is_dict_object (sym e)
  object_holds (InstObj class attributes) (InstCell n words) m AnInstance k c e = ap is_instance_object (sym e)
  object_holds (InstObj class attributes) (InstCell n words) m _ k c e = refl
  object_holds (InstObj class attributes) (IntCell n) m h k c e = absurd m
  object_holds (InstObj class attributes) (StrCell n) m h k c e = absurd m
  object_holds (InstObj class attributes) (ListCell n) m h k c e = absurd m
  object_holds (InstObj class attributes) (DictCell n) m h k c e = absurd m
  object_holds (InstObj class attributes) (TupleCell n) m h k c e = absurd m
  object_holds (InstObj class attributes) (ExcCell n) m h k c e = absurd m

  int_holds : (h : Holding) (n : ℤ) (c : ℕ) → is_holding h (Cell c (IntCell n)) ≡ suits w h (IntVal n)
  int_holds ANumber n c = refl
  int_holds _ n c = refl

  text_holds : (h : Holding) (t : List ℕ) (c : ℕ) → is_holding h (Cell c (StrCell t)) ≡ suits w h (StrVal t)
  text_holds AText t c = refl
  text_holds _ t c = refl

  tuple_holds : (h : Holding) (parts : _) (ys : List Word) (c : ℕ) → is_holding h (Cell c (TupleCell ys)) ≡ suits w h (TupleVal parts)
  tuple_holds ATuple parts ys c = refl
  tuple_holds _ parts ys c = refl

  exception_holds : (h : Holding) (e : Thrown) (c : ℕ) → is_holding h (Cell c (ExcCell e)) ≡ suits w h (ExcVal e)
  exception_holds AnException e c = refl
  exception_holds _ e c = refl

  truth_holds : (h : Holding) (b : Bool) → is_holding h (Plain (truth_object b)) ≡ suits w h (BoolVal b)
  truth_holds Anything true = refl
  truth_holds Anything false = refl
  truth_holds _ true = refl
  truth_holds _ false = refl

  none_holds : (h : Holding) → is_holding h (Plain NoneObject) ≡ suits w h NoneVal
  none_holds Anything = refl
  none_holds _ = refl

  -- what the machine finds of a value's word
  pub record Found (v : Value) (y : Word) : Type 0 where
    pub a : machines.Argument
    pub read : IsRead s y a
    pub holds : (h : Holding) → is_holding h a ≡ suits w h v

  pub found : (v : Value) (y : Word) → Boxed s v y → Found v y
  found (IntVal n) y m =
      record { a = Cell m.0 (IntCell n); read = subst (λ z. IsRead s z (Cell m.0 (IntCell n))) (sym m.1) (read_cell m.0 _ m.2); holds = λ h. int_holds h n m.0 }
  found (BoolVal true) y m =
      record { a = Plain TrueObject; read = subst (λ z. IsRead s z (Plain TrueObject)) (sym m) read_true; holds = λ h. truth_holds h true }
  found (BoolVal false) y m =
      record { a = Plain FalseObject; read = subst (λ z. IsRead s z (Plain FalseObject)) (sym m) read_false; holds = λ h. truth_holds h false }
  found NoneVal y m =
      record { a = Plain NoneObject; read = subst (λ z. IsRead s z (Plain NoneObject)) (sym m) read_none; holds = none_holds }
  found (StrVal t) y m =
      record { a = Cell m.0 (StrCell t); read = subst (λ z. IsRead s z (Cell m.0 (StrCell t))) (sym m.1) (read_cell m.0 _ m.2); holds = λ h. text_holds h t m.0 }
  found (TupleVal parts) y m =
      record { a = Cell m.0 (TupleCell m.2.0); read = subst (λ z. IsRead s z (Cell m.0 (TupleCell m.2.0))) (sym m.1) (read_cell m.0 _ m.2.1); holds = λ h. tuple_holds h parts m.2.0 m.0 }
  found (ExcVal e) y m =
      record { a = Cell m.0 (ExcCell e); read = subst (λ z. IsRead s z (Cell m.0 (ExcCell e))) (sym m.1) (read_cell m.0 _ m.2); holds = λ h. exception_holds h e m.0 }
  found (ObjVal k) y m =
      let o = object_content k m.0 m.3.0 m.2 m.3.1 in
      record { a = Cell m.0 m.3.0; read = subst (λ z. IsRead s z (Cell m.0 m.3.0)) (sym m.1) (read_cell m.0 _ m.3.1); holds = λ h. object_holds o.0 m.3.0 o.2 h k m.0 o.1 }

  pub word_read : (y : Word) (a : machines.Argument) → IsRead s y a → word_in ObjectKind a ≡ Some y
  word_read y a read_none = refl
  word_read y a read_true = refl
  word_read y a read_false = refl
  word_read y a (read_cell c x live) = refl

  -- a cell that is read is the value's
  cell_is : (c : ℕ) (x : Content) (a : machines.Argument) (y : Word) → y ≡ ObjectCell c → IsLive s c x → IsRead s y a → a ≡ Cell c x
  cell_is c x a y e live read_none = absurd (cc)
  cell_is c x a y e live read_true = absurd (cc)
  cell_is c x a y e live read_false = absurd (cc)
  cell_is c x a y e live (read_cell k u at) =
      let same : k ≡ c = cc in
      let both : Some u ≡ Some x = sym at ∙ (ap (content_at s.cells) same ∙ live) in
      let content : u ≡ x = cc in
      ap (λ i. Cell i u) same ∙ ap (Cell c) content

  -- an object is no key, and the key that a word is is that of its value
  no_key : (o : Object) (x : Content) → ObjectFits s code.classes o x → key_in x ≡ None
  no_key (ListObj items) (ListCell words) m = refl
  no_key (ListObj items) (IntCell n) m = absurd m
  no_key (ListObj items) (StrCell n) m = absurd m
  no_key (ListObj items) (DictCell n) m = absurd m
  no_key (ListObj items) (TupleCell n) m = absurd m
  no_key (ListObj items) (InstCell n a) m = absurd m
  no_key (ListObj items) (ExcCell n) m = absurd m
  no_key (DictObj pairs) (DictCell words) m = refl
  no_key (DictObj pairs) (IntCell n) m = absurd m
  no_key (DictObj pairs) (StrCell n) m = absurd m
  no_key (DictObj pairs) (ListCell n) m = absurd m
  no_key (DictObj pairs) (TupleCell n) m = absurd m
  no_key (DictObj pairs) (InstCell n a) m = absurd m
  no_key (DictObj pairs) (ExcCell n) m = absurd m
  no_key (InstObj class attributes) (InstCell n words) m = refl
  no_key (InstObj class attributes) (IntCell n) m = absurd m
  no_key (InstObj class attributes) (StrCell n) m = absurd m
  no_key (InstObj class attributes) (ListCell n) m = absurd m
  no_key (InstObj class attributes) (DictCell n) m = absurd m
  no_key (InstObj class attributes) (TupleCell n) m = absurd m
  no_key (InstObj class attributes) (ExcCell n) m = absurd m

  pub word_key : (v : Value) (y : Word) → Boxed s v y → key_of s.cells y ≡ key_of_value v
  word_key (IntVal n) y m = ap (key_of s.cells) m.1 ∙ ap (option_and_then key_in) m.2
  word_key (BoolVal true) y m = ap (key_of s.cells) m
  word_key (BoolVal false) y m = ap (key_of s.cells) m
  word_key NoneVal y m = ap (key_of s.cells) m
  word_key (StrVal t) y m = ap (key_of s.cells) m.1 ∙ ap (option_and_then key_in) m.2
  word_key (TupleVal parts) y m = ap (key_of s.cells) m.1 ∙ ap (option_and_then key_in) m.2.1
  word_key (ExcVal e) y m = ap (key_of s.cells) m.1 ∙ ap (option_and_then key_in) m.2
  word_key (ObjVal k) y m =
      let o = object_content k m.0 m.3.0 m.2 m.3.1 in
      ap (key_of s.cells) m.1 ∙ (ap (option_and_then key_in) m.3.1 ∙ no_key o.0 m.3.0 o.2)

  key_read : (y : Word) (a : machines.Argument) → IsRead s y a → key_as a ≡ key_of s.cells y
  key_read y a read_none = refl
  key_read y a read_true = refl
  key_read y a read_false = refl
  key_read y a (read_cell c x live) = sym (ap (option_and_then key_in) live)

  some_key : (o : Option Key) → is_some o ≡ true → (k : Key) × (o ≡ Some k)
  some_key None e = absurd (cc)
  some_key (Some k) e = (k, refl)

  -- what is asked for is met
  box_meets : (v : Value) (y : Word) (a : machines.Argument) → Boxed s v y → IsRead s y a → suits w ANumber v ≡ true → Meets w s code (Borrows (Is ObjectKind) ANumber) (Given v) a
  box_meets (IntVal n) y a m r e = subst (Meets w s code (Borrows (Is ObjectKind) ANumber) (Given (IntVal n))) (sym (cell_is m.0 (IntCell n) a y m.1 m.2 r)) (is_box n m.0 m.2)
  box_meets (BoolVal b) y a m r e = absurd (cc)
  box_meets NoneVal y a m r e = absurd (cc)
  box_meets (StrVal t) y a m r e = absurd (cc)
  box_meets (TupleVal parts) y a m r e = absurd (cc)
  box_meets (ExcVal x) y a m r e = absurd (cc)
  box_meets (ObjVal k) y a m r e = absurd (cc)

  text_meets : (v : Value) (y : Word) (a : machines.Argument) → Boxed s v y → IsRead s y a → suits w AText v ≡ true → Meets w s code (Borrows (Is ObjectKind) AText) (Given v) a
  text_meets (StrVal t) y a m r e = subst (Meets w s code (Borrows (Is ObjectKind) AText) (Given (StrVal t))) (sym (cell_is m.0 (StrCell t) a y m.1 m.2 r)) (is_text t m.0)
  text_meets (IntVal n) y a m r e = absurd (cc)
  text_meets (BoolVal b) y a m r e = absurd (cc)
  text_meets NoneVal y a m r e = absurd (cc)
  text_meets (TupleVal parts) y a m r e = absurd (cc)
  text_meets (ExcVal x) y a m r e = absurd (cc)
  text_meets (ObjVal k) y a m r e = absurd (cc)

  exception_meets : (v : Value) (y : Word) (a : machines.Argument) → Boxed s v y → IsRead s y a → suits w AnException v ≡ true → Meets w s code (Borrows (Is ObjectKind) AnException) (Given v) a × Meets w s code (Steals (Is ObjectKind) AnException) (Given v) a
  exception_meets (ExcVal x) y a m r e =
      let same = sym (cell_is m.0 (ExcCell x) a y m.1 m.2 r) in
      (subst (Meets w s code (Borrows (Is ObjectKind) AnException) (Given (ExcVal x))) same (is_exception x m.0), subst (Meets w s code (Steals (Is ObjectKind) AnException) (Given (ExcVal x))) same (is_stolen x m.0 m.2))
  exception_meets (IntVal n) y a m r e = absurd (cc)
  exception_meets (BoolVal b) y a m r e = absurd (cc)
  exception_meets NoneVal y a m r e = absurd (cc)
  exception_meets (StrVal t) y a m r e = absurd (cc)
  exception_meets (TupleVal parts) y a m r e = absurd (cc)
  exception_meets (ObjVal k) y a m r e = absurd (cc)

  tuple_meets : (v : Value) (y : Word) (a : machines.Argument) → Boxed s v y → IsRead s y a → suits w ATuple v ≡ true → Meets w s code (Borrows (Is ObjectKind) ATuple) (Given v) a
  tuple_meets (TupleVal parts) y a m r e = subst (Meets w s code (Borrows (Is ObjectKind) ATuple) (Given (TupleVal parts))) (sym (cell_is m.0 (TupleCell m.2.0) a y m.1 m.2.1 r)) (is_tuple parts m.0 m.2.0 m.2.2)
  tuple_meets (IntVal n) y a m r e = absurd (cc)
  tuple_meets (BoolVal b) y a m r e = absurd (cc)
  tuple_meets NoneVal y a m r e = absurd (cc)
  tuple_meets (StrVal t) y a m r e = absurd (cc)
  tuple_meets (ExcVal x) y a m r e = absurd (cc)
  tuple_meets (ObjVal k) y a m r e = absurd (cc)

  list_by : (k c : ℕ) (o : Object) (x : Content) → slice_get w.store k ≡ Some o → slice_get s.made k ≡ Some c → IsLive s c x → ObjectFits s code.classes o x → is_list_object (Some o) ≡ true → Meets w s code (Borrows (Is ObjectKind) AList) (Given (ObjVal k)) (Cell c x)
  list_by k c (ListObj items) (ListCell words) at made live m e = is_list k c items words at made live m
  list_by k c (ListObj items) (IntCell n) at made live m e = absurd m
  list_by k c (ListObj items) (StrCell n) at made live m e = absurd m
  list_by k c (ListObj items) (DictCell n) at made live m e = absurd m
  list_by k c (ListObj items) (TupleCell n) at made live m e = absurd m
  list_by k c (ListObj items) (InstCell n b) at made live m e = absurd m
  list_by k c (ListObj items) (ExcCell n) at made live m e = absurd m
  list_by k c (DictObj pairs) x at made live m e = absurd (cc)
  list_by k c (InstObj class attributes) x at made live m e = absurd (cc)

  list_meets : (v : Value) (y : Word) (a : machines.Argument) → Boxed s v y → IsRead s y a → suits w AList v ≡ true → Meets w s code (Borrows (Is ObjectKind) AList) (Given v) a
  list_meets (ObjVal k) y a m r e =
      let o = object_content k m.0 m.3.0 m.2 m.3.1 in
      subst (Meets w s code (Borrows (Is ObjectKind) AList) (Given (ObjVal k))) (sym (cell_is m.0 m.3.0 a y m.1 m.3.1 r)) (list_by k m.0 o.0 m.3.0 o.1 m.2 m.3.1 o.2 (ap is_list_object (sym o.1) ∙ e))
  list_meets (IntVal n) y a m r e = absurd (cc)
  list_meets (BoolVal b) y a m r e = absurd (cc)
  list_meets NoneVal y a m r e = absurd (cc)
  list_meets (StrVal t) y a m r e = absurd (cc)
  list_meets (TupleVal parts) y a m r e = absurd (cc)
  list_meets (ExcVal x) y a m r e = absurd (cc)

  dict_by : (k c : ℕ) (o : Object) (x : Content) → slice_get w.store k ≡ Some o → slice_get s.made k ≡ Some c → IsLive s c x → ObjectFits s code.classes o x → is_dict_object (Some o) ≡ true → Meets w s code (Borrows (Is ObjectKind) ADict) (Given (ObjVal k)) (Cell c x)
  dict_by k c (DictObj pairs) (DictCell words) at made live m e = is_dict k c pairs words at made live m
  dict_by k c (DictObj pairs) (IntCell n) at made live m e = absurd m
  dict_by k c (DictObj pairs) (StrCell n) at made live m e = absurd m
  dict_by k c (DictObj pairs) (ListCell n) at made live m e = absurd m
  dict_by k c (DictObj pairs) (TupleCell n) at made live m e = absurd m
  dict_by k c (DictObj pairs) (InstCell n b) at made live m e = absurd m
  dict_by k c (DictObj pairs) (ExcCell n) at made live m e = absurd m
  dict_by k c (ListObj items) x at made live m e = absurd (cc)
  dict_by k c (InstObj class attributes) x at made live m e = absurd (cc)

  dict_meets : (v : Value) (y : Word) (a : machines.Argument) → Boxed s v y → IsRead s y a → suits w ADict v ≡ true → Meets w s code (Borrows (Is ObjectKind) ADict) (Given v) a
  dict_meets (ObjVal k) y a m r e =
      let o = object_content k m.0 m.3.0 m.2 m.3.1 in
      subst (Meets w s code (Borrows (Is ObjectKind) ADict) (Given (ObjVal k))) (sym (cell_is m.0 m.3.0 a y m.1 m.3.1 r)) (dict_by k m.0 o.0 m.3.0 o.1 m.2 m.3.1 o.2 (ap is_dict_object (sym o.1) ∙ e))
  dict_meets (IntVal n) y a m r e = absurd (cc)
  dict_meets (BoolVal b) y a m r e = absurd (cc)
  dict_meets NoneVal y a m r e = absurd (cc)
  dict_meets (StrVal t) y a m r e = absurd (cc)
  dict_meets (TupleVal parts) y a m r e = absurd (cc)
  dict_meets (ExcVal x) y a m r e = absurd (cc)

  class_there : (o : Option CClass) (attributes : List (Option Value)) (words : List (Option Word)) → AttributesFit s o attributes words → (kept : CClass) × (o ≡ Some kept) × PlacesFit s (map slot_typed kept.attrs) attributes words
  class_there None attributes words m = absurd m
  class_there (Some kept) attributes words m = (kept, refl, m)

  instance_by : (k c : ℕ) (o : Object) (x : Content) → slice_get w.store k ≡ Some o → slice_get s.made k ≡ Some c → IsLive s c x → ObjectFits s code.classes o x → is_instance_object (Some o) ≡ true → Meets w s code (Borrows (Is ObjectKind) AnInstance) (Given (ObjVal k)) (Cell c x)
  instance_by k c (InstObj class attributes) (InstCell n words) at made live m e =
      let kept = class_there (slice_get code.classes class) attributes words m.1 in
      subst (λ i. Meets w s code (Borrows (Is ObjectKind) AnInstance) (Given (ObjVal k)) (Cell c (InstCell i words))) m.0
      (is_instance k c class attributes words kept.0 at made (subst (λ i. IsLive s c (InstCell i words)) (sym m.0) live) kept.1 kept.2)
  instance_by k c (InstObj class attributes) (IntCell n) at made live m e = absurd m
  instance_by k c (InstObj class attributes) (StrCell n) at made live m e = absurd m
  instance_by k c (InstObj class attributes) (ListCell n) at made live m e = absurd m
  instance_by k c (InstObj class attributes) (DictCell n) at made live m e = absurd m
  instance_by k c (InstObj class attributes) (TupleCell n) at made live m e = absurd m
  instance_by k c (InstObj class attributes) (ExcCell n) at made live m e = absurd m
  instance_by k c (ListObj items) x at made live m e = absurd (cc)
  instance_by k c (DictObj pairs) x at made live m e = absurd (cc)

  instance_meets : (v : Value) (y : Word) (a : machines.Argument) → Boxed s v y → IsRead s y a → suits w AnInstance v ≡ true → Meets w s code (Borrows (Is ObjectKind) AnInstance) (Given v) a
  instance_meets (ObjVal k) y a m r e =
      let o = object_content k m.0 m.3.0 m.2 m.3.1 in
      subst (Meets w s code (Borrows (Is ObjectKind) AnInstance) (Given (ObjVal k))) (sym (cell_is m.0 m.3.0 a y m.1 m.3.1 r)) (instance_by k m.0 o.0 m.3.0 o.1 m.2 m.3.1 o.2 (ap is_instance_object (sym o.1) ∙ e))
  instance_meets (IntVal n) y a m r e = absurd (cc)
  instance_meets (BoolVal b) y a m r e = absurd (cc)
  instance_meets NoneVal y a m r e = absurd (cc)
  instance_meets (StrVal t) y a m r e = absurd (cc)
  instance_meets (TupleVal parts) y a m r e = absurd (cc)
  instance_meets (ExcVal x) y a m r e = absurd (cc)

  key_meets : (v : Value) (y : Word) (a : machines.Argument) → Boxed s v y → IsRead s y a → suits w AKey v ≡ true → Meets w s code (Borrows (Is ObjectKind) AKey) (Given v) a × Meets w s code (Steals (Is ObjectKind) AKey) (Given v) a
  key_meets v y a m r e =
      let k = some_key (key_of_value v) e in
      let same : key_as a ≡ Some k.0 = key_read y a r ∙ (word_key v y m ∙ k.1) in
      (is_a_key v y a k.0 m k.1 same, owns_key v y a k.0 m k.1 same (word_read y a r))

  pub held_meets : (h : Holding) (v : Value) (y : Word) (a : machines.Argument) → Boxed s v y → IsRead s y a → suits w h v ≡ true → Meets w s code (Borrows (Is ObjectKind) h) (Given v) a
  held_meets Anything v y a m r e = is_any v y a m r
  held_meets ANumber v y a m r e = box_meets v y a m r e
  held_meets AText v y a m r e = text_meets v y a m r e
  held_meets AnException v y a m r e = (exception_meets v y a m r e).0
  held_meets AList v y a m r e = list_meets v y a m r e
  held_meets ATuple v y a m r e = tuple_meets v y a m r e
  held_meets ADict v y a m r e = dict_meets v y a m r e
  held_meets AKey v y a m r e = (key_meets v y a m r e).0
  held_meets AnInstance v y a m r e = instance_meets v y a m r e

-- ---- by the program
module _ (declared : Declared) (regs : Regs) where
  pub argument_is : (r : Reg) (t : RType) → type_of_reg declared r ≡ Some t → (v : Value) → regs r.0 ≡ Holds v → argument declared regs (arg.Var r) ≡ Some (Given v)
  argument_is r t is v e =
      ap (λ o. option_map Given (option_and_then value_of (option_map (λ u. regs r.0) o))) is ∙ ap (λ h. option_map Given (value_of h)) e

  pub argument_lost : (r : Reg) (t : RType) → type_of_reg declared r ≡ Some t → regs r.0 ≡ Unset → argument declared regs (arg.Var r) ≡ None
  argument_lost r t is e =
      ap (λ o. option_map Given (option_and_then value_of (option_map (λ u. regs r.0) o))) is ∙ ap (λ h. option_map Given (value_of h)) e

  -- the first argument, and then the others
  pub first_then : (o : Option Argument) (q : Option (List Argument)) (go : List Argument → Config) → meaning.if_some (option_and_then (λ x. option_map (λ xs. x ∷ xs) q) o) go ≡ meaning.if_some o (λ x. meaning.if_some q (λ xs. go (x ∷ xs)))
  first_then None q go = refl
  first_then (Some x) None go = refl
  first_then (Some x) (Some xs) go = refl

-- ---- by both
-- P holds of what a line leads to and of what an operation does, and of whatever where the operation is stuck
module _ (P : Next → Config → Type 0) (stuck : (n : Next) (c : Config) → c ≡ Stuck → P n c) (code : Code) (w : World) (s : MachineState) (store : StoreFits s code.classes w.store) (declared vars : Declared) (regs : Regs) (same : declared ≡ vars) (a : RegsFit s vars regs s.top.vars) where
  abbrev kinds : List CDeclared
  kinds = map variable_of vars

  pub to_both : (n m : Next) (c d : Config) → n ≡ m → c ≡ d → P m d → P n c
  to_both n m c d e f h = subst (λ x. P x c) (sym e) (subst (λ x. P m x) (sym f) h)

  -- a register of a type
  pub variable_reads : (t : RType) (h : Holding) (r : Reg) → has_kind (kind_of_type t) (kind_at kinds r.0) ≡ true → (go : machines.Argument → Next) (k : Argument → Config) → ((v : Value) (y : Word) → Fits s t (Holds v) y → P (if_there false s y (λ x. if_true false s (is_holding h x) (go x))) (k (Given v))) → P (if_variable false s (kind_of_type t) h r.0 go) (meaning.if_some (argument declared regs (arg.Var r)) k)
  variable_reads t h r has go k more =
      let d = has_type vars r.0 t has in
      let old = a.fit r.0 d.0 d.1 in
      let of_type : type_of_reg declared r ≡ Some t = ap (λ z. type_of_reg z r) same ∙ (ap (option_map (λ (z : List ℕ × RType). z.1)) d.1 ∙ ap Some d.2) in
      by d of_type old (regs r.0) refl
    where
      by : (d : (d : List ℕ × RType) × (slice_get vars r.0 ≡ Some d) × (d.1 ≡ t)) → type_of_reg declared r ≡ Some t → (old : (y : Word) × (slice_get s.top.vars r.0 ≡ Some y) × Fits s d.0.1 (regs r.0) y) → (x : Held) → regs r.0 ≡ x → P (if_variable false s (kind_of_type t) h r.0 go) (meaning.if_some (argument declared regs (arg.Var r)) k)
      by d of_type old Unset is =
          stuck _ _ (ap (λ o. meaning.if_some o k) (argument_lost declared regs r t of_type is))
      by d of_type old (Holds v) is =
          let y : Word = old.0 in
          let fits : Fits s t (Holds v) y = subst (λ z. Fits s z (Holds v) y) d.2 (subst (λ z. Fits s d.0.1 z y) is old.2) in
          let after : Next = if_there false s y (λ x. if_true false s (is_holding h x) (go x)) in
          let text : if_variable false s (kind_of_type t) h r.0 go ≡ after =
          ap (λ o. steps.if_some false s fault.Kind o (λ z. if_true false s (is_value_of (kind_of_type t) z) (if_there false s z (λ x. if_true false s (is_holding h x) (go x))))) old.1
          ∙ ap (λ c. if_true false s c after) (value_word s t v y fits) in
          to_both _ after _ (k (Given v)) text (ap (λ o. meaning.if_some o k) (argument_is declared regs r t of_type v is)) (more v y fits)

  -- the cell of a word is there
  pub at_cell : (c : ℕ) (x : Content) → IsLive s c x → (go : Content → Next) (d : Config) → P (go x) d → P (steps.if_content false s c go) d
  at_cell c x live go d h = to_both _ (go x) d d (ap (λ o. steps.if_some false s fault.Dead o go) live) refl h

  abbrev Goes : Parameter → (machines.Argument → Ledger → Next) → (Argument → Config) → Type 0
  Goes q go k = (v : Argument) (x : machines.Argument) (l : Ledger) → Meets w s code q v x → P (go x l) (k v)

  abbrev Not : Parameter → (Argument → Config) → Type 0
  Not q k = (v : Argument) → suited w q v ≡ false → k v ≡ Stuck

  native_reads : (l : Ledger) (go : machines.Argument → Ledger → Next) (k : Argument → Config) → Goes (Borrows (Is Int64) Anything) go k → (v : Value) (y : Word) → Fits s I64 (Holds v) y → P (if_there false s y (λ x. if_true false s (is_holding Anything x) (go x l))) (k (Given v))
  native_reads l go k more v y (native n) = more _ _ l (is_native n)

  truth_reads : (l : Ledger) (go : machines.Argument → Ledger → Next) (k : Argument → Config) → Goes (Borrows (Is Char) Anything) go k → (v : Value) (y : Word) → Fits s BoolType (Holds v) y → P (if_there false s y (λ x. if_true false s (is_holding Anything x) (go x l))) (k (Given v))
  truth_reads l go k more v y char_true = more _ _ l (is_truth true)
  truth_reads l go k more v y char_false = more _ _ l (is_truth false)

  number_reads : (l : Ledger) (go : machines.Argument → Ledger → Next) (k : Argument → Config) → Goes (Borrows (Is Tagged) ANumber) go k → (v : Value) (y : Word) → Fits s Int (Holds v) y → P (if_there false s y (λ x. if_true false s (is_holding ANumber x) (go x l))) (k (Given v))
  number_reads l go k more v y (short n) = more _ _ l (is_number n (Plain (ShortInt n)) refl)
  number_reads l go k more v y (big n c live) =
      at_cell c (IntCell n) live (λ x. if_true false s (is_holding ANumber (Cell c x)) (go (Cell c x) l)) (k (Given (IntVal n))) (more _ _ l (is_number n (Cell c (IntCell n)) refl))

  owned_number_reads : (l : Ledger) (go : machines.Argument → Ledger → Next) (k : Argument → Config) → Goes (Steals (Is Tagged) ANumber) go k → (v : Value) (y : Word) → Fits s Int (Holds v) y → P (if_there false s y (λ x. if_true false s (is_holding ANumber x) (steps.if_stolen false s x l (go x)))) (k (Given v))
  owned_number_reads l go k more v y (short n) = more _ _ l (owns_short n)
  owned_number_reads l go k more v y (big n c live) =
      at_cell c (IntCell n) live (λ x. if_true false s (is_holding ANumber (Cell c x)) (steps.if_stolen false s (Cell c x) l (go (Cell c x)))) (k (Given (IntVal n))) (more _ _ (without c l) (owns_big n c live))

  -- the word of an object, of which something is asked: it is what is asked for, or the program is stuck
  read_there : (y : Word) (x : machines.Argument) → IsRead s y x → (go : machines.Argument → Next) → if_there false s y go ≡ go x
  read_there y x read_none go = refl
  read_there y x read_true go = refl
  read_there y x read_false go = refl
  read_there y x (read_cell c v live) go = ap (λ o. steps.if_some false s fault.Dead o (λ z. go (Cell c z))) live

  pub object_reads : (h : Holding) (go : machines.Argument → Next) (k : Argument → Config) → (v : Value) (y : Word) → ((x : machines.Argument) → Boxed s v y → IsRead s y x → suits w h v ≡ true → P (go x) (k (Given v))) → (suits w h v ≡ false → k (Given v) ≡ Stuck) → Fits s Ref (Holds v) y → P (if_there false s y (λ x. if_true false s (is_holding h x) (go x))) (k (Given v))
  object_reads h go k v y more not (boxed u z m) =
      let f = found code w s store u z m in
      by (suits w h u) refl (read_there z f.a f.read (λ x. if_true false s (is_holding h x) (go x)) ∙ ap (λ c. if_true false s c (go f.a)) (f.holds h))
    where
      by : (b : Bool) → suits w h u ≡ b → if_there false s z (λ x. if_true false s (is_holding h x) (go x)) ≡ if_true false s (suits w h u) (go (found code w s store u z m).a) → P (if_there false s z (λ x. if_true false s (is_holding h x) (go x))) (k (Given u))
      by true is e =
          let f = found code w s store u z m in
          to_both _ (go f.a) _ (k (Given u)) (e ∙ ap (λ c. if_true false s c (go f.a)) is) refl (more f.a m f.read is)
      by false is e = stuck _ _ (not is)

  -- a stolen one leaves the ledger, if it has a cell
  pub read_stolen : (y : Word) (x : machines.Argument) → IsRead s y x → (l : Ledger) (go : Ledger → Next) → (m : Ledger) × (steps.if_stolen false s x l go ≡ go m)
  read_stolen y x read_none l go = (l, refl)
  read_stolen y x read_true l go = (l, refl)
  read_stolen y x read_false l go = (l, refl)
  read_stolen y x (read_cell c v live) l go = (without c l, refl)

  -- one argument
  pub argument_reads : (all : List CArg) (q : Parameter) (x : PArg) → is_read q ≡ true → arg_fits code kinds all q (argument_in x) ≡ true → (earlier : List machines.Argument) (l : Ledger) (go : machines.Argument → Ledger → Next) (k : Argument → Config) → Goes q go k → Not q k → P (if_argument false s code q (argument_in x) earlier l go) (meaning.if_some (argument declared regs x) k)
  argument_reads all (Borrows (Is Int64) Anything) (arg.Var r) is fits earlier l go k more not =
      variable_reads I64 Anything r fits (λ x. go x l) k (native_reads l go k more)
  argument_reads all (Borrows (Is Char) Anything) (arg.Var r) is fits earlier l go k more not =
      variable_reads BoolType Anything r fits (λ x. go x l) k (truth_reads l go k more)
  argument_reads all (Borrows (Is Tagged) ANumber) (arg.Var r) is fits earlier l go k more not =
      variable_reads Int ANumber r fits (λ x. go x l) k (number_reads l go k more)
  argument_reads all (Steals (Is Tagged) ANumber) (arg.Var r) is fits earlier l go k more not =
      variable_reads Int ANumber r fits (λ x. steps.if_stolen false s x l (go x)) k (owned_number_reads l go k more)
  argument_reads all (Borrows (Is ObjectKind) h) (arg.Var r) is fits earlier l go k more not =
      variable_reads Ref h r fits (λ x. go x l) k
      (λ v y. object_reads h (λ x. go x l) k v y (λ x m read e. more _ x l (held_meets code w s store h v y x m read e)) (not (Given v)))
  argument_reads all (Steals (Is ObjectKind) AnException) (arg.Var r) is fits earlier l go k more not =
      variable_reads Ref AnException r fits (λ x. steps.if_stolen false s x l (go x)) k
      (λ v y. object_reads AnException (λ x. steps.if_stolen false s x l (go x)) k v y
      (λ x m read e. let z = read_stolen y x read l (go x) in to_both _ _ _ _ z.1 refl (more _ x z.0 (exception_meets code w s store v y x m read e).1))
      (not (Given v)))
  argument_reads all (Steals (Is ObjectKind) AKey) (arg.Var r) is fits earlier l go k more not =
      variable_reads Ref AKey r fits (λ x. steps.if_stolen false s x l (go x)) k
      (λ v y. object_reads AKey (λ x. steps.if_stolen false s x l (go x)) k v y
      (λ x m read e. let z = read_stolen y x read l (go x) in to_both _ _ _ _ z.1 refl (more _ x z.0 (key_meets code w s store v y x m read e).1))
      (not (Given v)))
  argument_reads all (Steals (Is ObjectKind) Anything) (arg.Var r) is fits earlier l go k more not =
      variable_reads Ref Anything r fits (λ x. steps.if_stolen false s x l (go x)) k
      (λ v y. object_reads Anything (λ x. steps.if_stolen false s x l (go x)) k v y
      (λ x m read e. let z = read_stolen y x read l (go x) in to_both _ _ _ _ z.1 refl (more _ x z.0 (owns_any v y x m (word_read code w s store y x read))))
      (not (Given v)))
  argument_reads all (MaySteal (Is ObjectKind) Anything) (arg.Var r) is fits earlier l go k more not =
      variable_reads Ref Anything r fits (λ x. steps.if_stolen false s x l (go x)) k
      (λ v y. object_reads Anything (λ x. steps.if_stolen false s x l (go x)) k v y
      (λ x m read e. let z = read_stolen y x read l (go x) in to_both _ _ _ _ z.1 refl (more _ x z.0 (may_own_any v y x m (word_read code w s store y x read))))
      (not (Given v)))
  argument_reads all TakesNumber (arg.Number n) is fits earlier l go k more not = more _ _ l (writes_number n)
  argument_reads all TakesPlace (arg.Number n) is fits earlier l go k more not = more _ _ l (writes_place n)
  argument_reads all TakesText (arg.Text t) is fits earlier l go k more not = more _ _ l (writes_text t)
  argument_reads all TakesDecimal (arg.Text t) is fits earlier l go k more not = more _ _ l (writes_decimal t)
  argument_reads all TakesException (arg.Text t) is fits earlier l go k more not = more _ _ l (writes_exception t)
  argument_reads all TakesGlobal (arg.Global name) is fits earlier l go k more not = more _ _ l (writes_global name fits)
  argument_reads all TakesClass (arg.Class name) is fits earlier l go k more not = more _ _ l (writes_class name)
  argument_reads all q x is fits earlier l go k more not = absurd (cc)

  -- the arguments may end here
  may_stop : (q : Parameter) (qs : List Parameter) → may_end (q ∷ qs) ≡ true → AllMeet w s code (q ∷ qs) [] []
  may_stop (MaySteal k h) qs e = left_out
  may_stop (Borrows k h) qs e = absurd (cc)
  may_stop (Steals k h) qs e = absurd (cc)
  may_stop TakesNumber qs e = absurd (cc)
  may_stop TakesPlace qs e = absurd (cc)
  may_stop TakesText qs e = absurd (cc)
  may_stop TakesDecimal qs e = absurd (cc)
  may_stop TakesException qs e = absurd (cc)
  may_stop TakesGlobal qs e = absurd (cc)
  may_stop TakesClass qs e = absurd (cc)

  -- all arguments
  pub reading : (all : List CArg) (qs : List Parameter) (xs : List PArg) → are_read qs ≡ true → args_fit code kinds all qs (map argument_in xs) ≡ true → (earlier : List machines.Argument) (l : Ledger) (go : List machines.Argument → Ledger → Next) (k : List Argument → Config) → ((vs : List Argument) (ys : List machines.Argument) (m : Ledger) → AllMeet w s code qs vs ys → P (go ys m) (k vs)) → ((vs : List Argument) → are_suited w qs vs ≡ false → k vs ≡ Stuck) → P (if_arguments false s code qs (map argument_in xs) earlier l go) (meaning.if_some (arguments declared regs xs) k)
  reading all [] [] is fits earlier l go k more not = more [] [] l no_more
  reading all [] (x ∷ xs) is fits earlier l go k more not = absurd (cc)
  reading all (q ∷ qs) [] is fits earlier l go k more not =
      to_both _ (go [] l) _ (k []) (ap (λ b. if_true false s b (go [] l)) fits) refl (more [] [] l (may_stop q qs fits))
  reading all (q ∷ qs) (x ∷ xs) is fits earlier l go k more not =
      let both = and_true (is_read q) (are_read qs) is in
      let fit = and_true (arg_fits code kinds all q (argument_in x)) (args_fit code kinds all qs (map argument_in xs)) fits in
      to_both _ _ _ _ refl (first_then declared regs (argument declared regs x) (arguments declared regs xs) k) (argument_reads all q x both.0 fit.0 earlier l (λ y m. if_arguments false s code qs (map argument_in xs) (earlier ++ y ∷ []) m (λ others. go (y ∷ others))) (λ v. meaning.if_some (arguments declared regs xs) (λ vs. k (v ∷ vs))) (λ v y m meets. reading all qs xs both.1 fit.1 (earlier ++ y ∷ []) m (λ others. go (y ∷ others)) (λ vs. k (v ∷ vs)) (λ vs ys n others. more (v ∷ vs) (y ∷ ys) n (one_more meets others)) (λ vs refused. not (v ∷ vs) (ap (λ b. b && are_suited w qs vs) (meets_suits w s code q v y meets) ∙ refused))) (λ v refuses. lost (arguments declared regs xs) v refuses))
    where
      lost : (o : Option (List Argument)) (v : Argument) → suited w q v ≡ false → meaning.if_some o (λ vs. k (v ∷ vs)) ≡ Stuck
      lost None v refuses = refl
      lost (Some vs) v refuses = not (v ∷ vs) (ap (λ b. b && are_suited w qs vs) refuses)
