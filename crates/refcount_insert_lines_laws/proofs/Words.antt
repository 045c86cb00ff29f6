-- What the machine finds of a word that is what a register holds: whether it is a value or an error value, whether its cell is there,
-- and the words of literals.
use Rattle.std.proofs.Common.{◌≡◌, ◌≢◌, refl, sym, ◌∙◌, ap, subst, ℕ, zero, suc, ◌/◌, ◌%◌, ◌<◌, arith, Bool, true, false, cond, List, [], ◌∷◌, ◌++◌, length, Some, None, drop, eqb-true}
use Rattle.std.specs.Prelude.{ℤ, pos, negsuc, ◌==◌, nat_eq, slice_get, slice_set, map}
use Rattle.std.proofs.lemmas.Bool.{eq-eqb}
use Rattle.value_core.specs.Value.{Value, IntVal, BoolVal, NoneVal, StrVal, TupleVal, ExcVal, ObjVal}
use Rattle.c_core.specs.declared.fault.Fault.TheVariants as fault
use Rattle.c_core.specs.Machine.{Word, ShortInt, TaggedError, Native, CharWord, ObjectCell, NoneObject, TrueObject, FalseObject, NoObject, Content, IntCell, StrCell, TupleCell, ExcCell, MachineState}
use Rattle.c_core.specs.Stands.{IsLive}
use Rattle.c_core.specs.declared.code.Kind.TheVariants.{Object}
use Rattle.c_core.specs.Arguments as m
use Rattle.c_core.specs.Functions.{error_word}
use Rattle.c_core.specs.Step.{Next, literal_word, truth_word, equals_error, if_there}
use Rattle.c_core.specs.Step as step
use Rattle.ir_core.specs.declared.code.RType.{RType}
use Rattle.ir_core.specs.declared.code.RType.TheVariants.{Int, I64, Bool as BoolType, Ref}
use Rattle.ir_core.specs.declared.code.Lit.{Lit}
use Rattle.ir_core.specs.declared.code.Lit.TheVariants.{Number, Null, PyNone, PyTrue, PyFalse}
use Rattle.ir_core.specs.Registers.{Held, Unset, Holds, error_of, is_error, literal_of, Regs, put, error_at, first_regs}
use Rattle.ir_core.specs.Rows.{Declared}
use Rattle.ir_core.specs.Lower.{kind_of_type, variable_of, literal_in}
use Rattle.refcount_insert_lines_laws.specs.Matching.{Boxed, Fits, tagged_error, short, big, native, char_error, char_true, char_false, no_object, boxed, RegsFit}
use Rattle.refcount_insert_lines_laws.proofs.ListLemmas.{size_set, get_set_same, get_set_other, size_map}

-- an object's word: one of those without a cell, or that of a cell that is there
pub data ObjectWord (s : MachineState) : Word → Type 0 where
  word_none : ObjectWord s NoneObject
  word_true : ObjectWord s TrueObject
  word_false : ObjectWord s FalseObject
  word_cell : (c : ℕ) (x : Content) → IsLive s c x → ObjectWord s (ObjectCell c)

module _ (s : MachineState) where
  pub boxed_word : (v : Value) (y : Word) → Boxed s v y → ObjectWord s y
  boxed_word (IntVal n) y m = subst (ObjectWord s) (sym m.1) (word_cell m.0 (IntCell n) m.2)
  boxed_word (BoolVal true) y m = subst (ObjectWord s) (sym m) word_true
  boxed_word (BoolVal false) y m = subst (ObjectWord s) (sym m) word_false
  boxed_word NoneVal y m = subst (ObjectWord s) (sym m) word_none
  boxed_word (StrVal x) y m = subst (ObjectWord s) (sym m.1) (word_cell m.0 (StrCell x) m.2)
  boxed_word (TupleVal parts) y m = subst (ObjectWord s) (sym m.1) (word_cell m.0 (TupleCell m.2.0) m.2.1)
  boxed_word (ExcVal e) y m = subst (ObjectWord s) (sym m.1) (word_cell m.0 (ExcCell e) m.2)
  boxed_word (ObjVal k) y m = subst (ObjectWord s) (sym m.1) (word_cell m.0 m.3.0 m.3.1)

  word_there : (y : Word) → ObjectWord s y → (n : Next) → if_there false s y (λ a. n) ≡ n
  word_there y word_none n = refl
  word_there y word_true n = refl
  word_there y word_false n = refl
  word_there y (word_cell c x live) n = ap (λ o. step.if_some false s fault.Dead o (λ x. n)) live

  word_no_error : (y : Word) → ObjectWord s y → equals_error y ≡ false
  word_no_error y word_none = refl
  word_no_error y word_true = refl
  word_no_error y word_false = refl
  word_no_error y (word_cell c x live) = refl

  word_is_no_error : (y : Word) → ObjectWord s y → step.is_error y ≡ false
  word_is_no_error y word_none = refl
  word_is_no_error y word_true = refl
  word_is_no_error y word_false = refl
  word_is_no_error y (word_cell c x live) = refl

  word_value : (y : Word) → ObjectWord s y → m.is_value_of Object y ≡ true
  word_value y word_none = refl
  word_value y word_true = refl
  word_value y word_false = refl
  word_value y (word_cell c x live) = refl

  pub char_fits : (b : Bool) → Fits s BoolType (Holds (BoolVal b)) (truth_word b)
  char_fits true = char_true
  char_fits false = char_false

  pub error_fits : (t : RType) → Fits s t (error_of t) (error_word (kind_of_type t))
  error_fits Int = tagged_error
  error_fits I64 = native (negsuc 112)
  error_fits BoolType = char_error
  error_fits Ref = no_object

  -- its cell is there, if it has one
  pub there_is : (t : RType) (h : Held) (y : Word) → Fits s t h y → (n : Next) → if_there false s y (λ a. n) ≡ n
  there_is t h y tagged_error n = refl
  there_is t h y (short k) n = refl
  there_is t h y (big k c live) n = ap (λ o. step.if_some false s fault.Dead o (λ x. n)) live
  there_is t h y (native k) n = refl
  there_is t h y char_error n = refl
  there_is t h y char_true n = refl
  there_is t h y char_false n = refl
  there_is t h y no_object n = refl
  there_is t h y (boxed v z m) n = word_there z (boxed_word v z m) n

  pub same_error : (t : RType) (h : Held) (y : Word) → Fits s t h y → equals_error y ≡ is_error t h
  same_error t h y tagged_error = refl
  same_error t h y (short n) = refl
  same_error t h y (big n c live) = refl
  same_error t h y (native (pos n)) = refl
  same_error t h y (native (negsuc n)) = refl
  same_error t h y char_error = refl
  same_error t h y char_true = refl
  same_error t h y char_false = refl
  same_error t h y no_object = refl
  same_error t h y (boxed v z m) = word_no_error z (boxed_word v z m)

  -- what is tested as an error value is one
  pub error_held : (t : RType) (h : Held) (y : Word) → Fits s t h y → is_error t h ≡ true → h ≡ error_of t
  error_held t h y tagged_error e = refl
  error_held t h y (short n) e = absurd (cc)
  error_held t h y (big n c live) e = absurd (cc)
  error_held t h y (native (pos n)) e = absurd (cc)
  error_held t h y (native (negsuc n)) e = ap (λ k. Holds (IntVal (negsuc k))) (eqb-true n 112 e)
  error_held t h y char_error e = refl
  error_held t h y char_true e = absurd (cc)
  error_held t h y char_false e = absurd (cc)
  error_held t h y no_object e = refl
  error_held t h y (boxed v z m) e = absurd (cc)

  pub value_word : (t : RType) (v : Value) (y : Word) → Fits s t (Holds v) y → m.is_value_of (kind_of_type t) y ≡ true
  value_word t v y (short n) = refl
  value_word t v y (big n c live) = refl
  value_word t v y (native n) = refl
  value_word t v y char_true = refl
  value_word t v y char_false = refl
  value_word t v y (boxed u z m) = word_value z (boxed_word u z m)

  pub no_error : (t : RType) (v : Value) (y : Word) → Fits s t (Holds v) y → step.is_error y ≡ false
  no_error t v y (short n) = refl
  no_error t v y (big n c live) = refl
  no_error t v y (native n) = refl
  no_error t v y char_true = refl
  no_error t v y char_false = refl
  no_error t v y (boxed u z m) = word_is_no_error z (boxed_word u z m)

-- ---- literals
module _ (s : MachineState) where
  int_even : (a b : Bool) (q : ℤ) (h : Held) → cond a (Some (Holds (IntVal q))) (cond b (Some Unset) None) ≡ Some h → (y : Word) × (cond a (Some (ShortInt q)) (cond b (Some TaggedError) None) ≡ Some y) × Fits s Int h y
  int_even true b q h e = let f : Holds (IntVal q) ≡ h = cc in (ShortInt q, refl, subst (λ z. Fits s Int z (ShortInt q)) f (short q))
  int_even false true q h e = let f : Unset ≡ h = cc in (TaggedError, refl, subst (λ z. Fits s Int z TaggedError) f tagged_error)
  int_even false false q h e = let f : None ≡ Some h = e in absurd (cc)

  int_odd : (a : Bool) (q : ℤ) (h : Held) → cond a (Some (Holds (IntVal q))) None ≡ Some h → (y : Word) × (cond a (Some (ShortInt q)) None ≡ Some y) × Fits s Int h y
  int_odd true q h e = let f : Holds (IntVal q) ≡ h = cc in (ShortInt q, refl, subst (λ z. Fits s Int z (ShortInt q)) f (short q))
  int_odd false q h e = let f : None ≡ Some h = e in absurd (cc)

  abbrev Literal : RType → Lit → Held → Type 0
  Literal t l h = (y : Word) × (literal_word (kind_of_type t) (literal_in l) ≡ Some y) × Fits s t h y

  is_held : (t : RType) (l : Lit) (g h : Held) (y : Word) → Some g ≡ Some h → literal_word (kind_of_type t) (literal_in l) ≡ Some y → Fits s t g y → Literal t l h
  is_held t l g h y e f fits = let same : g ≡ h = cc in (y, f, subst (λ z. Fits s t z y) same fits)

  nothing : (t : RType) (l : Lit) (h : Held) → None ≡ Some h → Literal t l h
  nothing t l h e = absurd (cc)

  pub literal_fits : (t : RType) (l : Lit) (h : Held) → literal_of t l ≡ Some h → Literal t l h
  literal_fits Int (Number (pos n)) h e = int_even (n % 2 == 0) (n == 1) (pos (n / 2)) h e
  literal_fits Int (Number (negsuc n)) h e = int_odd (n % 2 == 1) (negsuc (n / 2)) h e
  literal_fits Int Null h e = nothing Int Null h e
  literal_fits Int PyNone h e = nothing Int PyNone h e
  literal_fits Int PyTrue h e = nothing Int PyTrue h e
  literal_fits Int PyFalse h e = nothing Int PyFalse h e
  literal_fits I64 (Number n) h e = is_held I64 (Number n) (Holds (IntVal n)) h (Native n) e refl (native n)
  literal_fits I64 Null h e = nothing I64 Null h e
  literal_fits I64 PyNone h e = nothing I64 PyNone h e
  literal_fits I64 PyTrue h e = nothing I64 PyTrue h e
  literal_fits I64 PyFalse h e = nothing I64 PyFalse h e
  literal_fits BoolType (Number (pos zero)) h e = is_held BoolType (Number (pos 0)) (Holds (BoolVal false)) h (CharWord 0) e refl char_false
  literal_fits BoolType (Number (pos (suc zero))) h e = is_held BoolType (Number (pos 1)) (Holds (BoolVal true)) h (CharWord 1) e refl char_true
  literal_fits BoolType (Number (pos (suc (suc zero)))) h e = is_held BoolType (Number (pos 2)) Unset h (CharWord 2) e refl char_error
  literal_fits BoolType (Number (pos (suc (suc (suc n))))) h e = nothing BoolType (Number (pos (suc (suc (suc n))))) h e
  literal_fits BoolType (Number (negsuc n)) h e = nothing BoolType (Number (negsuc n)) h e
  literal_fits BoolType Null h e = nothing BoolType Null h e
  literal_fits BoolType PyNone h e = nothing BoolType PyNone h e
  literal_fits BoolType PyTrue h e = nothing BoolType PyTrue h e
  literal_fits BoolType PyFalse h e = nothing BoolType PyFalse h e
  literal_fits Ref (Number n) h e = nothing Ref (Number n) h e
  literal_fits Ref Null h e = is_held Ref Null Unset h NoObject e refl no_object
  literal_fits Ref PyNone h e = is_held Ref PyNone (Holds NoneVal) h NoneObject e refl (boxed NoneVal NoneObject refl)
  literal_fits Ref PyTrue h e = is_held Ref PyTrue (Holds (BoolVal true)) h TrueObject e refl (boxed (BoolVal true) TrueObject refl)
  literal_fits Ref PyFalse h e = is_held Ref PyFalse (Holds (BoolVal false)) h FalseObject e refl (boxed (BoolVal false) FalseObject refl)

-- ---- registers
module _ (s : MachineState) (declared : Declared) (regs : Regs) (vars : List Word) (a : RegsFit s declared regs vars) where
  written : (r : ℕ) (h : Held) (y : Word) → r < length vars → ((d : List ℕ × RType) → slice_get declared r ≡ Some d → Fits s d.1 h y) → (k : ℕ) (d : List ℕ × RType) → slice_get declared k ≡ Some d → (b : Bool) → nat_eq k r ≡ b → (z : Word) × (slice_get (slice_set vars r y) k ≡ Some z) × Fits s d.1 (cond b h (regs k)) z
  written r h y l fits k d e true is =
      let same : k ≡ r = eqb-true k r is in
      (y, ap (slice_get (slice_set vars r y)) same ∙ get_set_same vars r y l, fits d (ap (slice_get declared) (sym same) ∙ e))
  written r h y l fits k d e false is =
      let ne : k ≢ r = λ same. let both : true ≡ false = sym (eq-eqb k r same) ∙ is in absurd (cc) in
      let old = a.fit k d e in
      (old.0, get_set_other vars r k y ne ∙ old.1, old.2)

  pub put_fits : (r : ℕ) (h : Held) (y : Word) → r < length declared → ((d : List ℕ × RType) → slice_get declared r ≡ Some d → Fits s d.1 h y) → RegsFit s declared (put regs r h) (slice_set vars r y)
  put_fits r h y l fits =
      record {
        size = size_set vars r y ∙ a.size;
        fit = λ k d e. written r h y (omega (arith, l, a.size)) fits k d e (nat_eq k r) refl;
      }

-- ---- a function's first words
module _ (s : MachineState) where
  abbrev pub AllFit : Declared → List Held → List Word → Type 0
  AllFit ds [] [] = Unit {0}
  AllFit (d ∷ ds) (x ∷ xs) (y ∷ ys) = Fits s d.1 x y × AllFit ds xs ys
  AllFit _ _ _ = ⊥

  abbrev errors : Declared → List Word
  errors ds = map (λ v. error_word v.1) (map variable_of ds)

  errors_fit : (ds : Declared) (r : ℕ) (d : List ℕ × RType) → slice_get ds r ≡ Some d → (y : Word) × (slice_get (errors ds) r ≡ Some y) × Fits s d.1 (error_at ds r) y
  errors_fit [] r d e = let f : None ≡ Some d = e in absurd (cc)
  errors_fit (x ∷ ds) zero d e =
      let f : Some x ≡ Some d = e in
      let same : x ≡ d = cc in
      (error_word (kind_of_type x.1), refl, subst (λ z. Fits s z.1 (error_of x.1) (error_word (kind_of_type x.1))) same (error_fits s x.1))
  errors_fit (x ∷ ds) (suc r) d e = errors_fit ds r d e

  abbrev entry : List Word → Declared → List Word
  entry ys ds = ys ++ map (λ v. error_word v.1) (drop (length ys) (map variable_of ds))

  pub entry_fit : (ds : Declared) (xs : List Held) (ys : List Word) → AllFit ds xs ys → (r : ℕ) (d : List ℕ × RType) → slice_get ds r ≡ Some d → (y : Word) × (slice_get (entry ys ds) r ≡ Some y) × Fits s d.1 (first_regs ds xs r) y
  entry_fit ds [] [] a r d e = errors_fit ds r d e
  entry_fit ds [] (y ∷ ys) a r d e = absurd a
  entry_fit [] (x ∷ xs) ys a r d e = let f : None ≡ Some d = e in absurd (cc)
  entry_fit (c ∷ ds) (x ∷ xs) [] a r d e = absurd a
  entry_fit (c ∷ ds) (x ∷ xs) (y ∷ ys) a zero d e =
      let f : Some c ≡ Some d = e in let same : c ≡ d = cc in (y, refl, subst (λ z. Fits s z.1 x y) same a.0)
  entry_fit (c ∷ ds) (x ∷ xs) (y ∷ ys) a (suc r) d e = entry_fit ds xs ys a.1 r d e

  pub entry_size : (ds : Declared) (xs : List Held) (ys : List Word) → AllFit ds xs ys → length (entry ys ds) ≡ length ds
  entry_size ds [] [] a = size_map (λ v. error_word v.1) (map variable_of ds) ∙ size_map variable_of ds
  entry_size ds [] (y ∷ ys) a = absurd a
  entry_size [] (x ∷ xs) [] a = absurd a
  entry_size [] (x ∷ xs) (y ∷ ys) a = absurd a
  entry_size (c ∷ ds) (x ∷ xs) [] a = absurd a
  entry_size (c ∷ ds) (x ∷ xs) (y ∷ ys) a = ap suc (entry_size ds xs ys a.1)
