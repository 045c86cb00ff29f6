-- What a primitive may write into its target and into the globals.
use Rattle.std.proofs.Common.{◌≡◌, refl, sym, ap, subst, ◌∙◌, ℕ, zero, suc, Bool, true, false, cond, ◌+◌, ◌≤◌, List, [], ◌∷◌, length, Option, Some, None, arith}
use Rattle.std.specs.Prelude.{not, int_lt, nat_lt, ◌==◌, ℤ, pos, negsuc, map, slice_get, slice_set, is_some, find, Result, Ok, Err}
use Rattle.std.specs.List.{position, position_or_len}
use Rattle.std.specs.Ordering.{int_eq}
use Rattle.std.specs.Option.{option_and_then, option_map}
use Rattle.std.specs.Str.{bytes_eq}
use Rattle.std.specs.Str.Parse.{signed_digits_value}
use Rattle.std.proofs.lemmas.List.Folds.{find_at}
use Rattle.value_core.specs.declared.arith.Arith.{Arith}
use Rattle.value_core.specs.declared.exception.ExcClass.{ExcClass}
use Rattle.value_core.specs.Characters.{place_of}
use Rattle.value_core.specs.Arithmetic.{is_short, int_add, int_sub, int_mul, int_neg, int_floor_div, int_modulo, int_shl, int_shr, int_to_i64, i64_floor_div, i64_modulo, i64_shl, i64_shr}
use Rattle.value_core.specs.Ending.{Ending, Done, Raised, Cut, Over, Broken}
use Rattle.value_core.specs.Exceptions.{Thrown, class_named, is_under}
use Rattle.value_core.specs.Items as item
use Rattle.value_core.specs.Items.{Items}
use Rattle.c_core.specs.declared.code.CArg.{CArg}
use Rattle.c_core.specs.declared.code.CArg.TheVariants as arg
use Rattle.c_core.specs.declared.code.Kind.{Kind}
use Rattle.c_core.specs.declared.code.Kind.TheVariants.{Tagged, Int64, Char, Object}
use Rattle.c_core.specs.declared.code.CClass.{CClass}
use Rattle.c_core.specs.declared.code.Code.{Code}
use Rattle.c_core.specs.declared.primitive.Primitive.{Primitive}
use Rattle.c_core.specs.declared.primitive.Primitive.TheVariants as prim
use Rattle.c_core.specs.declared.primitive.Int64Prim.TheVariants as int64
use Rattle.c_core.specs.declared.primitive.TaggedPrim.TheVariants as tagged
use Rattle.c_core.specs.declared.primitive.BoolPrim.TheVariants as bool
use Rattle.c_core.specs.declared.primitive.ObjectPrim.TheVariants as object
use Rattle.c_core.specs.declared.primitive.StrPrim.TheVariants as str
use Rattle.c_core.specs.declared.primitive.ListPrim.TheVariants as list
use Rattle.c_core.specs.declared.primitive.DictPrim.TheVariants as dict
use Rattle.c_core.specs.declared.primitive.TuplePrim.TheVariants as tuple
use Rattle.c_core.specs.declared.primitive.InstancePrim.TheVariants as instance
use Rattle.c_core.specs.declared.primitive.AttrPrim.TheVariants as attr
use Rattle.c_core.specs.declared.primitive.GlobalPrim.TheVariants as global
use Rattle.c_core.specs.declared.primitive.ExcPrim.TheVariants as exc
use Rattle.c_core.specs.declared.primitive.ErrPrim.TheVariants as err
use Rattle.c_core.specs.declared.primitive.IoPrim.TheVariants as io
use Rattle.c_core.specs.Machine.{Word, ShortInt, BigInt, TaggedError, Native, CharWord, ObjectCell, NoneObject, TrueObject, FalseObject, NoObject, IntCell, StrCell, ListCell, DictCell, TupleCell, InstCell, ExcCell, refs_of, refs, set_refs, refs_in, Frame, MachineState}
use Rattle.c_core.specs.Functions.{error_word, same_kind, kinds_agree}
use Rattle.c_core.specs.Keys.{Key, key_place}
use Rattle.c_core.specs.Primitives.{KindAt, Is, OfGlobal, OfSlot, Outcome, Nothing, Owned, Lent, row_of}
use Rattle.c_core.specs.Arguments.{Argument, Cell, Plain, Written, int_in, key_as, kind_of_global, number_of_global, number_of_class, kind_of_slot, kind_found, word_in, words_in}
use Rattle.c_core.specs.Step.{Effect, Wrong, Says, Shares, Lends, Makes, Changes, Writes, Stores, Fails, Pends, Catches, MakesInt, Reads, Skips, Stops, truth_word, truth_object, native_or, tagged_effect, tagged_or, fitted, written_int, of_int, of_ints, native_in, of_word, item_at, put_at, popped, lent, of_key, of_pair, value_at, entry_set, entry_cut, sized, key_at, instance_of, attribute_at, slot_of, slot_got, attribute_got, slot_set, attribute_set, of_words, part_at, item_or, line_read, global_at, got, stored, set_to, made_exception, pending_exception, matched, caught, effect, kind_of, slot_fits, answer_fits}
use Rattle.c_core.specs.Strings.{counted_length, text_less, text_length, text_item, writes_long}
use Rattle.c_core.specs.WellFormed.{Declared, kind_at, named_kind}
use Rattle.c_core.specs.Cells.{times}
use Rattle.c_core.proofs.ReleaseLemmas.{times-append}
use Rattle.c_core.proofs.ItemLemmas.{refs-at}
use Rattle.c_core_ownership_laws.specs.Shares.{is_noisy, has_cells, may_have_cells, target_kind, answers_cells}
use Rattle.c_core_ownership_laws.specs.Frames.{IsBare, GlobalsBare, HasBareSlots}
use Rattle.c_core_ownership_laws.proofs.Totals.{IsOwned, IsLoan}

-- an ending that a primitive may bring: reading the input failed, or it would go too far along
abbrev pub IsByInput : Ending → Type 0
IsByInput Done = ⊥
IsByInput (Raised e) = ⊥
IsByInput Cut = ⊥
IsByInput Over = Unit {0}
IsByInput Broken = Unit {0}

-- what is written in a call comes to the primitive as it is
abbrev pub IsAsWritten : CArg → Argument → Type 0
IsAsWritten a (Written b) = a ≡ b
IsAsWritten a _ = Unit {0}

abbrev pub AreAsWritten : List CArg → List Argument → Type 0
AreAsWritten (a ∷ rest) (x ∷ xs) = IsAsWritten a x × AreAsWritten rest xs
AreAsWritten _ _ = Unit {0}

-- the attributes of an argument of numbers have no cell, and those of all arguments
abbrev pub IsTidy : Code → Argument → Type 0
IsTidy code (Cell c x) = HasBareSlots code x
IsTidy code _ = Unit {0}

abbrev pub AreTidy : Code → List Argument → Type 0
AreTidy code [] = Unit {0}
AreTidy code (a ∷ rest) = IsTidy code a × AreTidy code rest

-- what the content of an argument holds is kept, and so it is of all arguments
abbrev pub IsStored : (ℕ → ℕ) → Argument → Type 0
IsStored kept (Cell c x) = (d : ℕ) → times (refs_in x) d ≤ kept d
IsStored kept _ = Unit {0}

abbrev pub AreStored : (ℕ → ℕ) → List Argument → Type 0
AreStored kept [] = Unit {0}
AreStored kept (a ∷ rest) = IsStored kept a × AreStored kept rest

-- a row of attributes
abbrev pub IsAttr : Primitive → Type 0
IsAttr (prim.Attr q) = Unit {0}
IsAttr _ = ⊥

-- a slot that is read is one of numbers
abbrev pub IsBareKind : Code → KindAt → List Argument → Type 0
IsBareKind code OfSlot all = may_have_cells (kind_found code OfSlot all) ≡ false
IsBareKind code k all = Unit {0}

abbrev pub IsBareAnswer : Code → Outcome → List Argument → Type 0
IsBareAnswer code Nothing all = Unit {0}
IsBareAnswer code (Owned k) all = IsBareKind code k all
IsBareAnswer code (Lent k) all = IsBareKind code k all

truth_bare : (b : Bool) → IsBare (truth_word b)
truth_bare true c = refl
truth_bare false c = refl

object_bare : (n : ℕ) → IsBare (truth_object n)
object_bare zero c = refl
object_bare (suc n) c = refl

pub error_bare : (k : Kind) → IsBare (error_word k)
error_bare Tagged c = refl
error_bare Int64 c = refl
error_bare Char c = refl
error_bare Object c = refl

-- ---- the kind of a slot
same_cells : (k l : Kind) → same_kind k l ≡ true → has_cells k ≡ has_cells l
same_cells Tagged Tagged e = refl
same_cells Int64 Int64 e = refl
same_cells Char Char e = refl
same_cells Object Object e = refl
same_cells _ _ e = cc

pub agreeing : (k l : Option Kind) → kinds_agree k l ≡ true → may_have_cells k ≡ may_have_cells l
agreeing None l e = cc
agreeing (Some k) None e = cc
agreeing (Some k) (Some l) e = same_cells k l e

module _ (code : Code) (f : Frame) (vars : List Declared) (is : (y : ℕ) → kind_of code f y ≡ kind_at vars y) (x : Option ℕ) (all : List Argument) where
  slot_bare : (k : KindAt) (y : Option ℕ) → slot_fits code f k y all ≡ true → may_have_cells (target_kind vars y) ≡ false → IsBareKind code k all
  slot_bare (Is k) y e t = tt
  slot_bare OfGlobal y e t = tt
  slot_bare OfSlot None e t = cc
  slot_bare OfSlot (Some y) e t =
      agreeing (kind_found code OfSlot all) (kind_of code f y) e ∙ ap may_have_cells (is y) ∙ t

  -- a slot that is read into a number is one of numbers
  pub answer_bare : (o : Outcome) → answer_fits code f o x all ≡ true → may_have_cells (target_kind vars x) ≡ false → IsBareAnswer code o all
  answer_bare Nothing e t = tt
  answer_bare (Owned k) e t = slot_bare k x e t
  answer_bare (Lent k) e t = slot_bare k x e t

-- ---- globals
chosen_is : (b : Bool) (m n : ℕ) → cond b (Some m) None ≡ Some n → m ≡ n
chosen_is true m n e = cc
chosen_is false m n e = cc

found_at : {A : Type 0} (p : A → Bool) (xs : List A) (n : ℕ) → position p xs ≡ Some n → find p xs ≡ slice_get xs n
found_at p xs n e =
    find_at p xs ∙ ap (slice_get xs) (chosen_is (nat_lt (position_or_len p xs) (length xs)) (position_or_len p xs) n e)

global_kind : (code : Code) (name : List ℕ) (n : ℕ) → number_of_global code name ≡ Some n → kind_of_global code name ≡ kind_at code.globals n
global_kind code name n e = ap (option_map (λ g. g.1)) (found_at (λ g. bytes_eq name g.0) code.globals n e)

-- the kind of the global that the call names is the one that it gets
named_is : (code : Code) (args : List CArg) (name : List ℕ) → AreAsWritten args (Written (arg.Global name) ∷ []) → may_have_cells (named_kind code args) ≡ false → may_have_cells (kind_of_global code name) ≡ false
named_is code [] name a e = cc
named_is code (first ∷ rest) name a e =
    subst (λ z. may_have_cells (named_kind code (z ∷ rest)) ≡ false) a.0 e

globals_set : (Q : ℕ → Word → Type 0) (gs : List (Option Word)) (n : ℕ) (new : Option Word) → ((m : ℕ) (w : Word) → slice_get gs m ≡ Some (Some w) → Q m w) → ((w : Word) → new ≡ Some w → Q n w) → (m : ℕ) (w : Word) → slice_get (slice_set gs n new) m ≡ Some (Some w) → Q m w
globals_set Q [] n new old at m w e = cc
globals_set Q (o ∷ gs) zero new old at zero w e = at w (cc)
globals_set Q (o ∷ gs) zero new old at (suc m) w e = old (suc m) w e
globals_set Q (o ∷ gs) (suc n) new old at zero w e = old 0 w e
globals_set Q (o ∷ gs) (suc n) new old at (suc m) w e =
    globals_set (λ i v. Q (suc i) v) gs n new (λ i. old (suc i)) at m w e

-- a number that was an argument has no cell
word_bare : (k : Kind) (a : Argument) (w : Word) → word_in k a ≡ Some w → has_cells k ≡ false → IsBare w
word_bare Tagged a w e f = cc
word_bare Object a w e f = cc
word_bare k (Cell c x) w e f = cc
word_bare k (Written a) w e f = cc
word_bare k (Plain (BigInt c)) w e f = cc
word_bare k (Plain (ObjectCell c)) w e f = cc
word_bare k (Plain (ShortInt n)) w e f = let is : ShortInt n ≡ w = cc in subst IsBare is (λ c. refl)
word_bare k (Plain TaggedError) w e f = let is : TaggedError ≡ w = cc in subst IsBare is (λ c. refl)
word_bare k (Plain (Native n)) w e f = let is : Native n ≡ w = cc in subst IsBare is (λ c. refl)
word_bare k (Plain (CharWord n)) w e f = let is : CharWord n ≡ w = cc in subst IsBare is (λ c. refl)
word_bare k (Plain NoneObject) w e f = let is : NoneObject ≡ w = cc in subst IsBare is (λ c. refl)
word_bare k (Plain TrueObject) w e f = let is : TrueObject ≡ w = cc in subst IsBare is (λ c. refl)
word_bare k (Plain FalseObject) w e f = let is : FalseObject ≡ w = cc in subst IsBare is (λ c. refl)
word_bare k (Plain NoObject) w e f = let is : NoObject ≡ w = cc in subst IsBare is (λ c. refl)

-- and so it is where its kind may be unknown
found_bare : (k : Option Kind) (a : Argument) (w : Word) → option_and_then (λ k. word_in k a) k ≡ Some w → may_have_cells k ≡ false → IsBare w
found_bare None a w e f = cc
found_bare (Some k) a w e f = word_bare k a w e f

-- instances
pub unset_words : {A : Type 0} (xs : List A) (n : ℕ) (w : Word) → slice_get (map (λ x. None) xs) n ≡ Some (Some w) → IsBare w
unset_words [] n w e = cc
unset_words (x ∷ xs) zero w e = cc
unset_words (x ∷ xs) (suc n) w e = unset_words xs n w e

-- the attribute at the place of a slot of numbers has no cell
held_bare : (code : Code) (class : ℕ) (attributes : List (Option Word)) (n : ℤ) (w : Word) → HasBareSlots code (InstCell class attributes) → attribute_at attributes n ≡ Some (Some w) → may_have_cells (kind_of_slot code class n) ≡ false → IsBare w
held_bare code class attributes (pos i) w tidy e f = tidy i w f e
held_bare code class attributes (negsuc i) w tidy e f = cc

-- what an attribute holds is held by the attributes
slot-at : (os : List (Option Word)) (n : ℕ) (w : Word) (c : ℕ) → slice_get os n ≡ Some (Some w) → times (refs_of w) c ≤ times (set_refs os) c
slot-at [] n w c e = cc
slot-at (None ∷ os) zero w c e = cc
slot-at (Some v ∷ os) zero w c e =
    let same_word : v ≡ w = cc in omega (arith, ap (λ z. times (refs_of z) c) same_word, times-append (refs_of v) (set_refs os) c)
slot-at (None ∷ os) (suc n) w c e = slot-at os n w c e
slot-at (Some v ∷ os) (suc n) w c e = omega (arith, slot-at os n w c e, times-append (refs_of v) (set_refs os) c)

attribute-at : (os : List (Option Word)) (n : ℤ) (w : Word) (c : ℕ) → attribute_at os n ≡ Some (Some w) → times (refs_of w) c ≤ times (set_refs os) c
attribute-at os (pos n) w c e = slot-at os n w c e
attribute-at os (negsuc n) w c e = cc

-- Where `kept` is how often something keeps a cell, and `noisy` says whether a primitive may let go of what contents hold.
module _ (kept : ℕ → ℕ) (noisy : Bool) where
  -- Where a row has this outcome, and b says whether what it answers may have a cell: an answer may have one only if b allows it; an
  -- effect that brings a reference is none of a row that lends, and one that lends a word is one of such a row; an effect that does not
  -- write the target is one of a row without an answer; what is lent is kept, and only a noisy primitive changes a content or a global; the globals and the attributes of numbers keep having no cell; and what ends
  -- the run does so by the input.
  abbrev pub Tame : Code → List (Option Word) → Outcome → Bool → Effect → Type 0
  Tame code gs o b Wrong = Unit {0}
  Tame code gs o b (Says w) = IsBare w
  Tame code gs o b (Shares w) = IsOwned o × (b ≡ false → IsBare w)
  Tame code gs o b (Lends w) = IsLoan o × (b ≡ false → IsBare w) × (noisy ≡ false) × ((c : ℕ) → times (refs_of w) c ≤ kept c)
  Tame code gs o b (Makes content) = IsOwned o × (b ≡ true) × HasBareSlots code content
  Tame code gs o b (Changes c content w up) = IsOwned o × (b ≡ false → IsBare w) × HasBareSlots code content × (noisy ≡ true)
  Tame code gs o b (Writes text) = o ≡ Nothing
  Tame code gs o b (Stores n old new) = (o ≡ Nothing) × GlobalsBare code (slice_set gs n new) × (noisy ≡ true)
  Tame code gs o b (Fails w e) = IsBare w
  Tame code gs o b (Pends c) = o ≡ Nothing
  Tame code gs o b (Catches c) = IsOwned o × (b ≡ true)
  Tame code gs o b (MakesInt n) = IsOwned o × (b ≡ true)
  Tame code gs o b (Reads text next) = IsOwned o × (b ≡ true)
  Tame code gs o b (Skips next w e) = IsBare w
  Tame code gs o b (Stops e) = IsByInput e

  -- A call of a primitive with a target of a kind: what is written in it comes as it is, and where the target is one of numbers, so is a
  -- slot that is read.
  pub record IsAsked (code : Code) (s : MachineState) (p : Primitive) (target : Option Kind) (args : List CArg) (all : List Argument) : Type 0 where
    pub noise : noisy ≡ is_noisy p
    pub stored : AreStored kept all
    pub globals : GlobalsBare code s.globals
    pub written : AreAsWritten args all
    pub slots : IsAttr p → AreTidy code all
    pub slot : may_have_cells target ≡ false → IsBareAnswer code (row_of p).outcome all

  got_tame : (code : Code) (gs : List (Option Word)) (name : List ℕ) (k : Option Kind) (n : Option ℕ) (o : Option (Option Word)) (b : Bool) → o ≡ option_and_then (slice_get gs) n → ((m : ℕ) → n ≡ Some m → b ≡ false → may_have_cells (kind_at code.globals m) ≡ false) → GlobalsBare code gs → Tame code gs (Owned OfGlobal) b (got name k o)
  got_tame code gs name None n o b e sure bare = tt
  got_tame code gs name (Some k) n None b e sure bare = tt
  got_tame code gs name (Some k) n (Some None) b e sure bare = error_bare k
  got_tame code gs name (Some k) None (Some (Some w)) b e sure bare = cc
  got_tame code gs name (Some k) (Some m) (Some (Some w)) b e sure bare = (tt, λ t. bare m w (sure m refl t) (sym e))

  get_tame : (code : Code) (s : MachineState) (args : List CArg) (name : List ℕ) → GlobalsBare code s.globals → AreAsWritten args (Written (arg.Global name) ∷ []) → Tame code s.globals (Owned OfGlobal) (may_have_cells (named_kind code args)) (got name (kind_of_global code name) (global_at code s name))
  get_tame code s args name bare a =
      got_tame code s.globals name (kind_of_global code name) (number_of_global code name) (global_at code s name) (may_have_cells (named_kind code args)) refl
      (λ m e f. ap may_have_cells (sym (global_kind code name m e)) ∙ named_is code args name a f)
      bare

  stored_tame : (code : Code) (gs : List (Option Word)) (n : Option ℕ) (o : Option (Option Word)) (new : Option Word) → GlobalsBare code gs → ((m : ℕ) (w : Word) → n ≡ Some m → new ≡ Some w → may_have_cells (kind_at code.globals m) ≡ false → IsBare w) → noisy ≡ true → Tame code gs Nothing false (stored n o new)
  stored_tame code gs None o new bare is noise = tt
  stored_tame code gs (Some n) None new bare is noise = tt
  stored_tame code gs (Some n) (Some old) new bare is noise =
      (refl, λ m w number at. globals_set (λ i v. may_have_cells (kind_at code.globals i) ≡ false → IsBare v) gs n new (λ i v e f. bare i v f e) (λ v e. is n v refl e) m w at number, noise)

  set_tame : (code : Code) (gs : List (Option Word)) (n : Option ℕ) (o : Option (Option Word)) (k : Option Kind) (a : Argument) → GlobalsBare code gs → ((m : ℕ) → n ≡ Some m → k ≡ kind_at code.globals m) → (new : Option Word) → new ≡ option_and_then (λ k. word_in k a) k → noisy ≡ true → Tame code gs Nothing false (set_to n o new)
  set_tame code gs n o k a bare is None e noise = tt
  set_tame code gs n o None a bare is (Some w) e noise = cc
  set_tame code gs n o (Some k) a bare is (Some w) e noise =
      stored_tame code gs n o (Some w) bare
      (λ m v at same number. word_bare k a v (sym e ∙ same) (ap may_have_cells (is m at) ∙ number)) noise

  -- ---- rows
  native_tame : (code : Code) (gs : List (Option Word)) (o : Outcome) (b : Bool) (r : Result ℤ Arith) → Tame code gs o b (native_or r)
  native_tame code gs o b (Ok n) = λ c. refl
  native_tame code gs o b (Err f) = λ c. refl

  choice_tame : (code : Code) (gs : List (Option Word)) (o : Outcome) (b t : Bool) (e f : Effect) → Tame code gs o b e → Tame code gs o b f → Tame code gs o b (cond t e f)
  choice_tame code gs o b true e f first second = first
  choice_tame code gs o b false e f first second = second

  number_tame : (code : Code) (gs : List (Option Word)) (k : KindAt) (n : ℤ) → Tame code gs (Owned k) true (tagged_effect n)
  number_tame code gs k n = choice_tame code gs (Owned k) true (is_short n) _ _ (λ c. refl) (tt, refl)

  tagged_tame : (code : Code) (gs : List (Option Word)) (k : KindAt) (r : Result ℤ Arith) → Tame code gs (Owned k) true (tagged_or r)
  tagged_tame code gs k (Ok n) = number_tame code gs k n
  tagged_tame code gs k (Err f) = λ c. refl

  fitted_tame : (code : Code) (gs : List (Option Word)) (o : Outcome) (b : Bool) (r : Result ℤ Arith) → Tame code gs o b (fitted r)
  fitted_tame code gs o b (Ok n) = λ c. refl
  fitted_tame code gs o b (Err f) = λ c. refl

  written_tame : (code : Code) (gs : List (Option Word)) (k : KindAt) (text : List ℕ) (n : ℤ) → Tame code gs (Owned k) true (written_int text n)
  written_tame code gs k text n =
      choice_tame code gs (Owned k) true (writes_long text n) (MakesInt n) Wrong (tt, refl) tt

  of_int_tame : (code : Code) (gs : List (Option Word)) (o : Outcome) (b : Bool) (f : ℤ → Effect) (i : Option ℤ) → ((n : ℤ) → Tame code gs o b (f n)) → Tame code gs o b (of_int f i)
  of_int_tame code gs o b f None each = tt
  of_int_tame code gs o b f (Some n) each = each n

  of_ints_tame : (code : Code) (gs : List (Option Word)) (o : Outcome) (b : Bool) (f : ℤ → ℤ → Effect) (i j : Option ℤ) → ((m n : ℤ) → Tame code gs o b (f m n)) → Tame code gs o b (of_ints f i j)
  of_ints_tame code gs o b f i j each =
      of_int_tame code gs o b _ i (λ m. of_int_tame code gs o b (f m) j (each m))

  -- arithmetic, and comparisons
  sum_tame : (code : Code) (gs : List (Option Word)) (k : KindAt) (f : ℤ → ℤ → Result ℤ Arith) (x y : Argument) → Tame code gs (Owned k) true (of_ints (λ m n. tagged_or (f m n)) (int_in x) (int_in y))
  sum_tame code gs k f x y =
      of_ints_tame code gs (Owned k) true _ (int_in x) (int_in y) (λ m n. tagged_tame code gs k (f m n))

  test_tame : (code : Code) (gs : List (Option Word)) (o : Outcome) (b : Bool) (f : ℤ → ℤ → Bool) (x y : Argument) → Tame code gs o b (of_ints (λ m n. Says (truth_word (f m n))) (int_in x) (int_in y))
  test_tame code gs o b f x y =
      of_ints_tame code gs o b _ (int_in x) (int_in y) (λ m n. truth_bare (f m n))

  item_tame : (code : Code) (gs : List (Option Word)) (k : KindAt) (i : Option (List ℕ)) → Tame code gs (Owned k) true (item_or i)
  item_tame code gs k None = λ c. refl
  item_tame code gs k (Some text) = (tt, refl, tt)

  native_in_tame : (code : Code) (gs : List (Option Word)) (o : Outcome) (b : Bool) (r : Result ℤ Arith) → Tame code gs o b (native_in r)
  native_in_tame code gs o b (Ok n) = λ c. refl
  native_in_tame code gs o b (Err f) = tt

  -- cells with words
  of_word_tame : (code : Code) (gs : List (Option Word)) (o : Outcome) (b : Bool) (f : Word → Effect) (w : Option Word) → ((v : Word) → Tame code gs o b (f v)) → Tame code gs o b (of_word f w)
  of_word_tame code gs o b f None each = tt
  of_word_tame code gs o b f (Some w) each = each w

  of_words_tame : (code : Code) (gs : List (Option Word)) (o : Outcome) (b : Bool) (f : List Word → Effect) (ws : Option (List Word)) → ((us : List Word) → Tame code gs o b (f us)) → Tame code gs o b (of_words f ws)
  of_words_tame code gs o b f None each = tt
  of_words_tame code gs o b f (Some ws) each = each ws

  item_at_tame : (code : Code) (gs : List (Option Word)) (k : KindAt) (i : Option ℕ) (items : List Word) → Tame code gs (Owned k) true (item_at i items)
  item_at_tame code gs k None items = λ c. refl
  item_at_tame code gs k (Some i) items = of_word_tame code gs (Owned k) true Shares (slice_get items i) (λ w. (tt, λ e. absurd (cc)))

  put_tame : (code : Code) (gs : List (Option Word)) (k : KindAt) (b : Bool) (c : ℕ) (i : Option ℕ) (items : List Word) (w : Word) → noisy ≡ true → Tame code gs (Owned k) b (put_at c i items w)
  put_tame code gs k b c None items w noise = λ d. refl
  put_tame code gs k b c (Some i) items w noise = of_word_tame code gs (Owned k) b _ (slice_get items i) (λ old. (tt, λ e d. refl, tt, noise))

  popped_tame : (code : Code) (gs : List (Option Word)) (k : KindAt) (c : ℕ) (i : Option ℕ) (items : List Word) → noisy ≡ true → Tame code gs (Owned k) true (popped c i items)
  popped_tame code gs k c None items noise = λ d. refl
  popped_tame code gs k c (Some i) items noise = of_word_tame code gs (Owned k) true _ (slice_get items i) (λ w. (tt, λ e. absurd (cc), tt, noise))

  part_tame : (code : Code) (gs : List (Option Word)) (k : KindAt) (items : List Word) (n : ℤ) → Tame code gs (Owned k) true (part_at items n)
  part_tame code gs k items (pos i) = of_word_tame code gs (Owned k) true Shares (slice_get items i) (λ w. (tt, λ e. absurd (cc)))
  part_tame code gs k items (negsuc i) = tt

  -- what a container holds is lent
  word_loan : (code : Code) (gs : List (Option Word)) (k : KindAt) (w : Option Word) → noisy ≡ false → ((v : Word) → w ≡ Some v → (c : ℕ) → times (refs_of v) c ≤ kept c) → Tame code gs (Lent k) true (lent (of_word Shares w))
  word_loan code gs k None calm there = tt
  word_loan code gs k (Some w) calm there = (tt, λ e. absurd (cc), calm, there w refl)

  item_loan : (code : Code) (gs : List (Option Word)) (k : KindAt) (i : Option ℕ) (items : List Word) → noisy ≡ false → ((c : ℕ) → times (refs items) c ≤ kept c) → Tame code gs (Lent k) true (lent (item_at i items))
  item_loan code gs k None items calm there = λ c. refl
  item_loan code gs k (Some i) items calm there =
      word_loan code gs k (slice_get items i) calm (λ v e c. omega (arith, there c, refs-at items i v c e))

  part_loan : (code : Code) (gs : List (Option Word)) (k : KindAt) (items : List Word) (n : ℤ) → noisy ≡ false → ((c : ℕ) → times (refs items) c ≤ kept c) → Tame code gs (Lent k) true (lent (part_at items n))
  part_loan code gs k items (pos i) calm there =
      word_loan code gs k (slice_get items i) calm (λ v e c. omega (arith, there c, refs-at items i v c e))
  part_loan code gs k items (negsuc i) calm there = tt

  -- dicts
  of_key_tame : (code : Code) (gs : List (Option Word)) (o : Outcome) (b : Bool) (f : Key → Effect) (k : Option Key) → ((k : Key) → Tame code gs o b (f k)) → Tame code gs o b (of_key f k)
  of_key_tame code gs o b f None each = tt
  of_key_tame code gs o b f (Some k) each = each k

  of_pair_tame : (code : Code) (gs : List (Option Word)) (o : Outcome) (b : Bool) (f : Word × Word → Effect) (p : Option (Word × Word)) → ((p : Word × Word) → Tame code gs o b (f p)) → Tame code gs o b (of_pair f p)
  of_pair_tame code gs o b f None each = tt
  of_pair_tame code gs o b f (Some p) each = each p

  value_tame : (code : Code) (gs : List (Option Word)) (k : KindAt) (key : Key) (i : Option ℕ) (pairs : List (Word × Word)) → Tame code gs (Owned k) true (value_at key i pairs)
  value_tame code gs k key None pairs = λ c. refl
  value_tame code gs k key (Some i) pairs = of_pair_tame code gs (Owned k) true _ (slice_get pairs i) (λ p. (tt, λ e. absurd (cc)))

  entry_tame : (code : Code) (gs : List (Option Word)) (c : ℕ) (i : Option ℕ) (pairs : List (Word × Word)) (key w : Word) → noisy ≡ true → Tame code gs Nothing false (entry_set c i pairs key w)
  entry_tame code gs c None pairs key w noise = (tt, λ e d. refl, tt, noise)
  entry_tame code gs c (Some i) pairs key w noise = of_pair_tame code gs Nothing false _ (slice_get pairs i) (λ p. (tt, λ e d. refl, tt, noise))

  cut_tame : (code : Code) (gs : List (Option Word)) (k : KindAt) (b : Bool) (c : ℕ) (key : Key) (i : Option ℕ) (pairs : List (Word × Word)) → noisy ≡ true → Tame code gs (Owned k) b (entry_cut c key i pairs)
  cut_tame code gs k b c key None pairs noise = λ d. refl
  cut_tame code gs k b c key (Some i) pairs noise = of_pair_tame code gs (Owned k) b _ (slice_get pairs i) (λ p. (tt, λ e d. refl, tt, noise))

  sized_tame : (code : Code) (gs : List (Option Word)) (o : Outcome) (b t : Bool) → Tame code gs o b (sized t)
  sized_tame code gs o b true = λ c. refl
  sized_tame code gs o b false = λ c. refl

  key_at_tame : (code : Code) (gs : List (Option Word)) (k : KindAt) (pairs : List (Word × Word)) (n : ℤ) → Tame code gs (Owned k) true (key_at pairs n)
  key_at_tame code gs k pairs (pos i) = of_pair_tame code gs (Owned k) true _ (slice_get pairs i) (λ p. (tt, λ e. absurd (cc)))
  key_at_tame code gs k pairs (negsuc i) = tt

  instance_tame : (code : Code) (gs : List (Option Word)) (k : KindAt) (n : Option ℕ) (class : Option CClass) → Tame code gs (Owned k) true (instance_of n class)
  instance_tame code gs k (Some n) (Some class) = (tt, refl, λ m w number e. unset_words class.attrs m w e)
  instance_tame code gs k _ _ = tt

  -- what a slot holds has no cell where b is false, and it is kept
  slot_tame : (code : Code) (gs : List (Option Word)) (k : KindAt) (b : Bool) (name : List ℕ) (a : Option (List ℕ × Kind)) (o : Option (Option Word)) → ((w : Word) → o ≡ Some (Some w) → b ≡ false → IsBare w) → noisy ≡ false → ((w : Word) → o ≡ Some (Some w) → (c : ℕ) → times (refs_of w) c ≤ kept c) → Tame code gs (Owned k) b (slot_got name a o) × Tame code gs (Lent k) b (lent (slot_got name a o))
  slot_tame code gs k b name (Some a) (Some (Some w)) sure calm there = ((tt, sure w refl), (tt, sure w refl, calm, there w refl))
  slot_tame code gs k b name (Some a) (Some None) sure calm there = (error_bare a.1, error_bare a.1)
  slot_tame code gs k b name _ _ sure calm there = (tt, tt)

  attribute_tame : (code : Code) (gs : List (Option Word)) (k : KindAt) (b : Bool) (class : Option CClass) (n : ℤ) (o : Option (Option Word)) → ((w : Word) → o ≡ Some (Some w) → b ≡ false → IsBare w) → noisy ≡ false → ((w : Word) → o ≡ Some (Some w) → (c : ℕ) → times (refs_of w) c ≤ kept c) → Tame code gs (Owned k) b (attribute_got class n o) × Tame code gs (Lent k) b (lent (attribute_got class n o))
  attribute_tame code gs k b None n o sure calm there = (tt, tt)
  attribute_tame code gs k b (Some class) n o sure calm there = slot_tame code gs k b class.name (slot_of class n) o sure calm there

  slot_set_tame : (code : Code) (gs : List (Option Word)) (c class i : ℕ) (attributes : List (Option Word)) (w : Word) (o : Option (Option Word)) → HasBareSlots code (InstCell class attributes) → (may_have_cells (kind_of_slot code class (pos i)) ≡ false → IsBare w) → noisy ≡ true → Tame code gs Nothing false (slot_set c class i attributes w o)
  slot_set_tame code gs c class i attributes w None tidy sure noise = tt
  slot_set_tame code gs c class i attributes w (Some old) tidy sure noise =
      (tt, λ e d. refl, λ m v number at. globals_set (λ j u. may_have_cells (kind_of_slot code class (pos j)) ≡ false → IsBare u) attributes i (Some w) (λ j u e f. tidy j u f e) (λ u e. let same_word : w ≡ u = cc in subst (λ z. may_have_cells (kind_of_slot code class (pos i)) ≡ false → IsBare z) same_word sure) m v at number, noise)

  attribute_set_tame : (code : Code) (gs : List (Option Word)) (c class : ℕ) (n : ℤ) (attributes : List (Option Word)) (a : Argument) (w : Option Word) → HasBareSlots code (InstCell class attributes) → w ≡ option_and_then (λ k. word_in k a) (kind_of_slot code class n) → noisy ≡ true → Tame code gs Nothing false (of_word (attribute_set c class n attributes) w)
  attribute_set_tame code gs c class n attributes a None tidy e noise = tt
  attribute_set_tame code gs c class (negsuc i) attributes a (Some w) tidy e noise = tt
  attribute_set_tame code gs c class (pos i) attributes a (Some w) tidy e noise =
      slot_set_tame code gs c class i attributes w (slice_get attributes i) tidy (found_bare (kind_of_slot code class (pos i)) a w (sym e)) noise

  line_tame : (code : Code) (gs : List (Option Word)) (k : KindAt) (items : Items) → Tame code gs (Owned k) true (line_read items)
  line_tame code gs k item.Eof = λ c. refl
  line_tame code gs k item.Broken = tt
  line_tame code gs k item.Over = tt
  line_tame code gs k (item.Line text next) = (tt, refl)
  line_tame code gs k (item.Bad next) = λ c. refl

  made_tame : (code : Code) (gs : List (Option Word)) (k : KindAt) (class : Option ExcClass) (text : List ℕ) → Tame code gs (Owned k) true (made_exception class text)
  made_tame code gs k None text = tt
  made_tame code gs k (Some class) text = (tt, refl, tt)

  matched_tame : (code : Code) (gs : List (Option Word)) (o : Outcome) (b : Bool) (class : Option ExcClass) (e : Option Thrown) → Tame code gs o b (matched class e)
  matched_tame code gs o b None e = tt
  matched_tame code gs o b (Some c) None = tt
  matched_tame code gs o b (Some c) (Some e) = truth_bare (is_under e.class c)

  caught_tame : (code : Code) (gs : List (Option Word)) (k : KindAt) (p : Option ℕ) → Tame code gs (Owned k) true (caught p)
  caught_tame code gs k None = tt
  caught_tame code gs k (Some c) = (tt, refl)

  pub tame : (code : Code) (s : MachineState) (p : Primitive) (target : Option Kind) (args : List CArg) (all : List Argument) → IsAsked code s p target args all → Tame code s.globals (row_of p).outcome (answers_cells code args target (row_of p).outcome) (effect code s p all)
  tame code s (prim.Int64 int64.Add) target args (Plain (Native a) ∷ Plain (Native b) ∷ []) h = λ c. refl
  tame code s (prim.Int64 int64.Subtract) target args (Plain (Native a) ∷ Plain (Native b) ∷ []) h = λ c. refl
  tame code s (prim.Int64 int64.Multiply) target args (Plain (Native a) ∷ Plain (Native b) ∷ []) h = λ c. refl
  tame code s (prim.Int64 int64.Negate) target args (Plain (Native a) ∷ []) h = λ c. refl
  tame code s (prim.Int64 int64.FloorDivide) target args (Plain (Native a) ∷ Plain (Native b) ∷ []) h = native_tame code s.globals (Owned (Is Int64)) false (i64_floor_div a b)
  tame code s (prim.Int64 int64.Remainder) target args (Plain (Native a) ∷ Plain (Native b) ∷ []) h = native_tame code s.globals (Owned (Is Int64)) false (i64_modulo a b)
  tame code s (prim.Int64 int64.Lshift) target args (Plain (Native a) ∷ Plain (Native b) ∷ []) h = native_tame code s.globals (Owned (Is Int64)) false (i64_shl a b)
  tame code s (prim.Int64 int64.Rshift) target args (Plain (Native a) ∷ Plain (Native b) ∷ []) h = native_tame code s.globals (Owned (Is Int64)) false (i64_shr a b)
  tame code s (prim.Int64 int64.FromBool) target args (Plain (CharWord n) ∷ []) h = λ c. refl
  tame code s (prim.Int64 int64.Eq) target args (Plain (Native a) ∷ Plain (Native b) ∷ []) h = truth_bare (int_eq a b)
  tame code s (prim.Int64 int64.Lt) target args (Plain (Native a) ∷ Plain (Native b) ∷ []) h = truth_bare (int_lt a b)
  tame code s (prim.Int64 int64.Le) target args (Plain (Native a) ∷ Plain (Native b) ∷ []) h = truth_bare (not (int_lt b a))
  tame code s (prim.Int64 int64.Str) target args (Plain (Native a) ∷ []) h = (tt, refl, tt)
  tame code s (prim.Int64 int64.Box) target args (Plain (Native a) ∷ []) h = (tt, refl, tt)
  tame code s (prim.Int64 int64.Unbox) target args (Cell c (IntCell n) ∷ []) h = native_in_tame code s.globals (Owned (Is Int64)) false (int_to_i64 n)
  tame code s (prim.Tagged tagged.Add) target args (x ∷ y ∷ []) h = sum_tame code s.globals _ int_add x y
  tame code s (prim.Tagged tagged.Subtract) target args (x ∷ y ∷ []) h = sum_tame code s.globals _ int_sub x y
  tame code s (prim.Tagged tagged.Multiply) target args (x ∷ y ∷ []) h = sum_tame code s.globals _ int_mul x y
  tame code s (prim.Tagged tagged.Negate) target args (x ∷ []) h = of_int_tame code s.globals (Owned (Is Tagged)) true _ (int_in x) (λ n. tagged_tame code s.globals _ (int_neg n))
  tame code s (prim.Tagged tagged.FloorDivide) target args (x ∷ y ∷ []) h = sum_tame code s.globals _ int_floor_div x y
  tame code s (prim.Tagged tagged.Remainder) target args (x ∷ y ∷ []) h = sum_tame code s.globals _ int_modulo x y
  tame code s (prim.Tagged tagged.Lshift) target args (x ∷ y ∷ []) h = sum_tame code s.globals _ int_shl x y
  tame code s (prim.Tagged tagged.Rshift) target args (x ∷ y ∷ []) h = sum_tame code s.globals _ int_shr x y
  tame code s (prim.Tagged tagged.FromText) target args (Written (arg.Text text) ∷ []) h = written_tame code s.globals _ text (signed_digits_value 10 text)
  tame code s (prim.Tagged tagged.FromInt64) target args (Plain (Native n) ∷ []) h = number_tame code s.globals _ n
  tame code s (prim.Tagged tagged.FromBool) target args (Plain (CharWord n) ∷ []) h = number_tame code s.globals _ (pos n)
  tame code s (prim.Tagged tagged.AsInt64) target args (x ∷ []) h = of_int_tame code s.globals (Owned (Is Int64)) false _ (int_in x) (λ n. fitted_tame code s.globals (Owned (Is Int64)) false (int_to_i64 n))
  tame code s (prim.Tagged tagged.Eq) target args (x ∷ y ∷ []) h = test_tame code s.globals (Owned (Is Char)) false int_eq x y
  tame code s (prim.Tagged tagged.Lt) target args (x ∷ y ∷ []) h = test_tame code s.globals (Owned (Is Char)) false int_lt x y
  tame code s (prim.Tagged tagged.Le) target args (x ∷ y ∷ []) h = test_tame code s.globals (Owned (Is Char)) false (λ m n. not (int_lt n m)) x y
  tame code s (prim.Tagged tagged.Str) target args (x ∷ []) h = of_int_tame code s.globals (Owned (Is Object)) true _ (int_in x) (λ n. (tt, refl, tt))
  tame code s (prim.Tagged tagged.Box) target args (Plain (ShortInt n) ∷ []) h = (tt, refl, tt)
  tame code s (prim.Tagged tagged.Box) target args (Cell c (IntCell n) ∷ []) h = (tt, λ e. absurd (cc))
  tame code s (prim.Tagged tagged.Unbox) target args (Cell c (IntCell n) ∷ []) h =
      choice_tame code s.globals (Owned (Is Tagged)) true (is_short n) _ _ (λ c. refl) (tt, λ e. absurd (cc))
  tame code s (prim.Bool bool.Not) target args (Plain (CharWord n) ∷ []) h = truth_bare (n == 0)
  tame code s (prim.Bool bool.Str) target args (Plain (CharWord n) ∷ []) h = (tt, refl, tt)
  tame code s (prim.Bool bool.Box) target args (Plain (CharWord n) ∷ []) h = object_bare n
  tame code s (prim.Bool bool.Unbox) target args (Plain TrueObject ∷ []) h = λ c. refl
  tame code s (prim.Bool bool.Unbox) target args (Plain FalseObject ∷ []) h = λ c. refl
  tame code s (prim.Object object.IsNone) target args (Plain NoneObject ∷ []) h = λ c. refl
  tame code s (prim.Object object.IsNone) target args (a ∷ []) h = λ c. refl
  tame code s (prim.Str str.Literal) target args (Written (arg.Text text) ∷ []) h = (tt, refl, tt)
  tame code s (prim.Str str.Concat) target args (Cell c (StrCell a) ∷ Cell d (StrCell b) ∷ []) h = (tt, refl, tt)
  tame code s (prim.Str str.Eq) target args (Cell c (StrCell a) ∷ Cell d (StrCell b) ∷ []) h = truth_bare (bytes_eq a b)
  tame code s (prim.Str str.Lt) target args (Cell c (StrCell a) ∷ Cell d (StrCell b) ∷ []) h = truth_bare (text_less a b)
  tame code s (prim.Str str.Le) target args (Cell c (StrCell a) ∷ Cell d (StrCell b) ∷ []) h = truth_bare (not (text_less b a))
  tame code s (prim.Str str.Len) target args (Cell c (StrCell text) ∷ []) h = number_tame code s.globals _ (text_length text)
  tame code s (prim.Str str.GetItem) target args (Cell c (StrCell text) ∷ x ∷ []) h =
      of_int_tame code s.globals (Owned (Is Object)) true _ (int_in x) (λ i. item_tame code s.globals _ (text_item text i))
  tame code s (prim.List list.New) target args [] h = (tt, refl, tt)
  tame code s (prim.List list.Append) target args (Cell c (ListCell items) ∷ a ∷ []) h =
      of_word_tame code s.globals Nothing false _ (word_in Object a) (λ v. (tt, λ e d. refl, tt, h.noise))
  tame code s (prim.List list.GetItem) target args (Cell c (ListCell items) ∷ x ∷ []) h =
      of_int_tame code s.globals (Owned (Is Object)) true _ (int_in x) (λ i. item_at_tame code s.globals _ (place_of (length items) i) items)
  tame code s (prim.List list.GetItemBorrow) target args (Cell c (ListCell items) ∷ x ∷ []) h =
      of_int_tame code s.globals (Lent (Is Object)) true _ (int_in x) (λ i. item_loan code s.globals _ (place_of (length items) i) items h.noise h.stored.0)
  tame code s (prim.List list.SetItem) target args (Cell c (ListCell items) ∷ x ∷ a ∷ []) h =
      of_int_tame code s.globals (Owned (Is Char)) false _ (int_in x)
      (λ i. of_word_tame code s.globals (Owned (Is Char)) false _ (word_in Object a) (λ v. put_tame code s.globals _ _ c (place_of (length items) i) items v h.noise))
  tame code s (prim.List list.Pop) target args (Cell c (ListCell items) ∷ []) h =
      popped_tame code s.globals _ c (place_of (length items) (negsuc 0)) items h.noise
  tame code s (prim.List list.Len) target args (Cell c (ListCell items) ∷ []) h = number_tame code s.globals _ (pos (counted_length (length items)))
  tame code s (prim.Dict dict.New) target args [] h = (tt, refl, tt)
  tame code s (prim.Dict dict.GetItem) target args (Cell c (DictCell pairs) ∷ a ∷ []) h =
      of_key_tame code s.globals (Owned (Is Object)) true _ (key_as a) (λ k. value_tame code s.globals _ k (key_place s.cells k pairs) pairs)
  tame code s (prim.Dict dict.SetItem) target args (Cell c (DictCell pairs) ∷ a ∷ b ∷ []) h =
      of_key_tame code s.globals Nothing false _ (key_as a)
      (λ k. of_word_tame code s.globals Nothing false _ (word_in Object a)
      (λ key. of_word_tame code s.globals Nothing false _ (word_in Object b) (λ v. entry_tame code s.globals c (key_place s.cells k pairs) pairs key v h.noise)))
  tame code s (prim.Dict dict.DelItem) target args (Cell c (DictCell pairs) ∷ a ∷ []) h =
      of_key_tame code s.globals (Owned (Is Char)) false _ (key_as a) (λ k. cut_tame code s.globals _ _ c k (key_place s.cells k pairs) pairs h.noise)
  tame code s (prim.Dict dict.Contains) target args (Cell c (DictCell pairs) ∷ a ∷ []) h =
      of_key_tame code s.globals (Owned (Is Char)) false _ (key_as a) (λ k. truth_bare (is_some (key_place s.cells k pairs)))
  tame code s (prim.Dict dict.CheckSize) target args (Cell c (DictCell pairs) ∷ x ∷ []) h =
      of_int_tame code s.globals (Owned (Is Char)) false _ (int_in x) (λ n. sized_tame code s.globals (Owned (Is Char)) false (int_eq (pos (counted_length (length pairs))) n))
  tame code s (prim.Dict dict.KeyAt) target args (Cell c (DictCell pairs) ∷ x ∷ []) h =
      of_int_tame code s.globals (Owned (Is Object)) true _ (int_in x) (key_at_tame code s.globals _ pairs)
  tame code s (prim.Dict dict.Len) target args (Cell c (DictCell pairs) ∷ []) h = number_tame code s.globals _ (pos (counted_length (length pairs)))
  tame code s (prim.Tuple tuple.Pack) target args all h = of_words_tame code s.globals (Owned (Is Object)) true _ (words_in all) (λ ws. (tt, refl, tt))
  tame code s (prim.Tuple tuple.GetItem) target args (Cell c (TupleCell items) ∷ Written (arg.Number n) ∷ []) h =
      part_tame code s.globals _ items n
  tame code s (prim.Tuple tuple.GetItemBorrow) target args (Cell c (TupleCell items) ∷ Written (arg.Number n) ∷ []) h =
      part_loan code s.globals _ items n h.noise h.stored.0
  tame code s (prim.Tuple tuple.Len) target args (Cell c (TupleCell items) ∷ []) h = number_tame code s.globals _ (pos (counted_length (length items)))
  tame code s (prim.Instance instance.New) target args (Written (arg.Class name) ∷ []) h =
      instance_tame code s.globals _ (number_of_class code name) (option_and_then (slice_get code.classes) (number_of_class code name))
  tame code s (prim.Attr attr.Get) target args (Cell c (InstCell class attributes) ∷ Written (arg.Number n) ∷ []) h =
      (attribute_tame code s.globals OfSlot (may_have_cells target) (slice_get code.classes class) n (attribute_at attributes n) (λ w e f. held_bare code class attributes n w (h.slots tt).0 e (h.slot f)) h.noise (λ w e d. omega (arith, h.stored.0 d, attribute-at attributes n w d e))).0
  tame code s (prim.Attr attr.GetBorrow) target args (Cell c (InstCell class attributes) ∷ Written (arg.Number n) ∷ []) h =
      (attribute_tame code s.globals OfSlot (may_have_cells target) (slice_get code.classes class) n (attribute_at attributes n) (λ w e f. held_bare code class attributes n w (h.slots tt).0 e (h.slot f)) h.noise (λ w e d. omega (arith, h.stored.0 d, attribute-at attributes n w d e))).1
  tame code s (prim.Attr attr.Set) target args (Cell c (InstCell class attributes) ∷ Written (arg.Number n) ∷ a ∷ []) h =
      attribute_set_tame code s.globals c class n attributes a _ (h.slots tt).0 refl h.noise
  tame code s (prim.Global global.Get) target args (Written (arg.Global name) ∷ []) h = get_tame code s args name h.globals h.written
  tame code s (prim.Global global.Set) target args (Written (arg.Global name) ∷ a ∷ []) h =
      set_tame code s.globals (number_of_global code name) (global_at code s name) (kind_of_global code name) a h.globals (global_kind code name) _ refl h.noise
  tame code s (prim.Global global.Clear) target args (Written (arg.Global name) ∷ []) h =
      stored_tame code s.globals (number_of_global code name) (global_at code s name) None h.globals (λ m v at e. cc) h.noise
  tame code s (prim.Exc exc.New) target args (Written (arg.Text name) ∷ Cell c (StrCell text) ∷ []) h = made_tame code s.globals _ (class_named name) text
  tame code s (prim.Exc exc.Str) target args (Cell c (ExcCell e) ∷ []) h = (tt, refl, tt)
  tame code s (prim.Err err.SetObject) target args (Cell c (ExcCell e) ∷ []) h = refl
  tame code s (prim.Err err.Unbound) target args (Written (arg.Text name) ∷ []) h = λ c. refl
  tame code s (prim.Err err.Occurred) target args [] h = truth_bare (is_some s.pending)
  tame code s (prim.Err err.Matches) target args (Written (arg.Text name) ∷ []) h = matched_tame code s.globals (Owned (Is Char)) false (class_named name) (pending_exception s)
  tame code s (prim.Err err.Catch) target args [] h = caught_tame code s.globals _ s.pending
  tame code s (prim.Io io.Write) target args (Cell c (StrCell text) ∷ []) h = refl
  tame code s (prim.Io io.Input) target args [] h = line_tame code s.globals _ s.items
  tame code s _ target args _ h = tt

-- ---- a primitive that ends the run does so by the input, whatever the globals hold
abbrev pub StopsByInput : Effect → Type 0
StopsByInput (Stops e) = IsByInput e
StopsByInput _ = Unit {0}

tame_stops : (kept : ℕ → ℕ) (noisy : Bool) (code : Code) (gs : List (Option Word)) (o : Outcome) (b : Bool) (e : Effect) → Tame kept noisy code gs o b e → StopsByInput e
tame_stops kept noisy code gs o b (Stops e) t = t
tame_stops kept noisy code gs o b _ t = tt

-- all that the contents of arguments hold
abbrev all_stored : List Argument → ℕ → ℕ
all_stored [] d = 0
all_stored (Cell c x ∷ rest) d = times (refs_in x) d + all_stored rest d
all_stored (a ∷ rest) d = all_stored rest d

each_stored : (all : List Argument) (kept : ℕ → ℕ) → ((d : ℕ) → all_stored all d ≤ kept d) → AreStored kept all
each_stored [] kept le = tt
each_stored (Cell c x ∷ rest) kept le = (λ d. omega (arith, le d), each_stored rest kept (λ d. omega (arith, le d)))
each_stored (Plain w ∷ rest) kept le = (tt, each_stored rest kept le)
each_stored (Written a ∷ rest) kept le = (tt, each_stored rest kept le)

got_stops : (name : List ℕ) (k : Option Kind) (o : Option (Option Word)) → StopsByInput (got name k o)
got_stops name (Some k) (Some (Some w)) = tt
got_stops name (Some k) (Some None) = tt
got_stops name _ _ = tt

stored_stops : (n : Option ℕ) (o : Option (Option Word)) (new : Option Word) → StopsByInput (stored n o new)
stored_stops (Some n) (Some old) new = tt
stored_stops _ _ new = tt

set_stops : (n : Option ℕ) (o : Option (Option Word)) (new : Option Word) → StopsByInput (set_to n o new)
set_stops n o None = tt
set_stops n o (Some w) = stored_stops n o (Some w)

slot_stops : (name : List ℕ) (a : Option (List ℕ × Kind)) (o : Option (Option Word)) → StopsByInput (slot_got name a o) × StopsByInput (lent (slot_got name a o))
slot_stops name (Some a) (Some (Some w)) = (tt, tt)
slot_stops name (Some a) (Some None) = (tt, tt)
slot_stops name _ _ = (tt, tt)

attribute_stops : (class : Option CClass) (n : ℤ) (o : Option (Option Word)) → StopsByInput (attribute_got class n o) × StopsByInput (lent (attribute_got class n o))
attribute_stops None n o = (tt, tt)
attribute_stops (Some class) n o = slot_stops class.name (slot_of class n) o

slot_set_stops : (c class i : ℕ) (attributes : List (Option Word)) (w : Word) (o : Option (Option Word)) → StopsByInput (slot_set c class i attributes w o)
slot_set_stops c class i attributes w None = tt
slot_set_stops c class i attributes w (Some old) = tt

attribute_set_stops : (c class : ℕ) (n : ℤ) (attributes : List (Option Word)) (w : Option Word) → StopsByInput (of_word (attribute_set c class n attributes) w)
attribute_set_stops c class n attributes None = tt
attribute_set_stops c class (pos i) attributes (Some w) = slot_set_stops c class i attributes w (slice_get attributes i)
attribute_set_stops c class (negsuc i) attributes (Some w) = tt

module _ (code : Code) (s : MachineState) where
  abbrev without_globals : MachineState
  without_globals = record s { globals = [] }

  of_tame : (p : Primitive) (all : List Argument) → (IsAttr p → ⊥) → StopsByInput (effect code without_globals p all)
  of_tame p all other =
      tame_stops (all_stored all) (is_noisy p) code [] _ _ (effect code without_globals p all)
      (tame (all_stored all) (is_noisy p) code without_globals p None [] all (record { noise = refl; stored = each_stored all (all_stored all) (λ d. omega arith); globals = λ m w number at. cc; written = tt; slots = λ a. absurd (other a); slot = λ e. absurd (cc) }))

  pub stops_by_input : (p : Primitive) (all : List Argument) → StopsByInput (effect code s p all)
  stops_by_input (prim.Global global.Get) (Written (arg.Global name) ∷ []) =
      got_stops name (kind_of_global code name) (global_at code s name)
  stops_by_input (prim.Global global.Set) (Written (arg.Global name) ∷ a ∷ []) =
      set_stops (number_of_global code name) (global_at code s name) (option_and_then (λ k. word_in k a) (kind_of_global code name))
  stops_by_input (prim.Global global.Clear) (Written (arg.Global name) ∷ []) =
      stored_stops (number_of_global code name) (global_at code s name) None
  stops_by_input (prim.Global q) _ = tt
  stops_by_input (prim.Int64 q) all = of_tame (prim.Int64 q) all (λ e. e)
  stops_by_input (prim.Tagged q) all = of_tame (prim.Tagged q) all (λ e. e)
  stops_by_input (prim.Bool q) all = of_tame (prim.Bool q) all (λ e. e)
  stops_by_input (prim.Object q) all = of_tame (prim.Object q) all (λ e. e)
  stops_by_input (prim.Str q) all = of_tame (prim.Str q) all (λ e. e)
  stops_by_input (prim.List q) all = of_tame (prim.List q) all (λ e. e)
  stops_by_input (prim.Dict q) all = of_tame (prim.Dict q) all (λ e. e)
  stops_by_input (prim.Tuple q) all = of_tame (prim.Tuple q) all (λ e. e)
  stops_by_input (prim.Instance q) all = of_tame (prim.Instance q) all (λ e. e)
  stops_by_input (prim.Attr attr.Get) (Cell c (InstCell class attributes) ∷ Written (arg.Number n) ∷ []) =
      (attribute_stops (slice_get code.classes class) n (attribute_at attributes n)).0
  stops_by_input (prim.Attr attr.GetBorrow) (Cell c (InstCell class attributes) ∷ Written (arg.Number n) ∷ []) =
      (attribute_stops (slice_get code.classes class) n (attribute_at attributes n)).1
  stops_by_input (prim.Attr attr.Set) (Cell c (InstCell class attributes) ∷ Written (arg.Number n) ∷ a ∷ []) =
      attribute_set_stops c class n attributes (option_and_then (λ k. word_in k a) (kind_of_slot code class n))
  stops_by_input (prim.Attr q) _ = tt
  stops_by_input (prim.Exc q) all = of_tame (prim.Exc q) all (λ e. e)
  stops_by_input (prim.Err q) all = of_tame (prim.Err q) all (λ e. e)
  stops_by_input (prim.Io q) all = of_tame (prim.Io q) all (λ e. e)
