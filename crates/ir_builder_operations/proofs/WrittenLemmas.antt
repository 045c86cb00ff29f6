-- What primitives make of texts, and the texts of values, are what the source makes of them.
use Rattle.ir_builder_operations.proofs.Common.{◌≡◌, refl, sym, ap, subst, ◌∙◌, ℕ, ◌<◌, Bool, true, false, List, [], ◌∷◌, ◌++◌, Option, Some, None, ℤ, pos, slice_get, codes, option_map, option_and_then, chars, encode_utf8_all, IndexError, char_len, place_of, thrown, Value, IntVal, BoolVal, StrVal, Primitive, text_length, text_item, Sort, State, Does, Gives, raise_new, sure, joined, length_of, letters, letter, with_place, text_of, flag_text, Reg, World, Given, truth_text, item_or, effect, Declared, NeverFails, failing, type_of_reg, Program, Building, rtype_of, HasType, HasKind, Shows, HaveTypes, Attempts, ActsOnAll, Answer, Answers, Throws, effect_of, outcome_of, Allows, ShownIfGiven, Performs, performs, Operation, IntText, NativeText, BoolText, is_written, ActsOn, is_known, operands_of, result_of, goes, written, text_operation}
use Rattle.c_core.specs.declared.primitive.Primitive.TheVariants as prim
use Rattle.c_core.specs.declared.primitive.Int64Prim.TheVariants as int64
use Rattle.c_core.specs.declared.primitive.TaggedPrim.TheVariants as tagged
use Rattle.c_core.specs.declared.primitive.BoolPrim.TheVariants as bool
use Rattle.c_core.specs.declared.primitive.StrPrim.TheVariants as str
use Rattle.py_typed.specs.Sorts as sort
use Rattle.ir_core.specs.declared.code.RType.TheVariants as rtype
use Rattle.ir_core.specs.Effects.{Gives as Giving}
use Rattle.ir_builder_operations.proofs.KindLemmas.{by_text}
use Rattle.ir_builder_operations.proofs.PartLemmas.{as_one, stays}
use Rattle.ir_builder_operations.proofs.TextLemmas.{counted_is, letters_length, place_below, item_there}

-- ---- one behind the other

pub concat_performs : (a b : List ℕ) → Performs (Shows sort.Str) (prim.Str str.Concat) (Given (StrVal a) ∷ Given (StrVal b) ∷ []) (joined (StrVal a) (StrVal b))
concat_performs a b = performs (Shows sort.Str) (prim.Str str.Concat) (Given (StrVal a) ∷ Given (StrVal b) ∷ []) _ (Answers (StrVal (a ++ b))) tt (λ p w. refl) (refl, (a ++ b, refl)) (λ s. refl)

-- ---- length

pub length_performs : (t : List ℕ) → Performs (Shows sort.Int) (prim.Str str.Len) (Given (StrVal t) ∷ []) (length_of (StrVal t))
length_performs t =
    performs (Shows sort.Int) (prim.Str str.Len) (Given (StrVal t) ∷ []) _ (Answers (IntVal (text_length t))) tt (λ p w. refl) (refl, (text_length t, refl))
    (λ s. ap (λ n. Gives (IntVal (pos n)) s) (sym (counted_is (char_len t))))

-- ---- items

abbrev item_result : Option (List ℕ) → Answer
item_result None = Throws (thrown IndexError (codes "string index out of range"))
item_result (Some text) = Answers (StrVal text)

item_effect : (o : Option (List ℕ)) (w : World) → item_or o w ≡ effect_of (item_result o) w
item_effect None w = refl
item_effect (Some text) w = refl

item_shown : (o : Option (List ℕ)) → ShownIfGiven (Shows sort.Str) (item_result o)
item_shown None = tt
item_shown (Some text) = (refl, (text, refl))

abbrev letter_at : List ℕ → Option ℕ → Does Value
letter_at text o = with_place (raise_new IndexError (codes "string index out of range")) (λ j. sure (slice_get (letters text) j)) o

abbrev spelled : ℕ → List ℕ
spelled c = encode_utf8_all (c ∷ [])

abbrev item_in : List ℕ → Option ℕ → Option (List ℕ)
item_in text o = option_and_then (λ k. option_map spelled (slice_get (chars text) k)) o

item_outcome : (text : List ℕ) (o : Option ℕ) (s : State) → ((k : ℕ) → o ≡ Some k → k < char_len text) → letter_at text o s ≡ outcome_of (item_result (item_in text o)) s
item_outcome text None s below = refl
item_outcome text (Some k) s below =
    let there = item_there text k (below k refl) in
    ap (λ z. sure z s) there.2 ∙ ap (λ z. outcome_of (item_result (option_map spelled z)) s) (sym there.1)

pub item_performs : (text : List ℕ) (i : ℤ) → Performs (Shows sort.Str) (prim.Str str.GetItem) (Given (StrVal text) ∷ Given (IntVal i) ∷ []) (letter (StrVal text) (IntVal i))
item_performs text i =
    performs (Shows sort.Str) (prim.Str str.GetItem) (Given (StrVal text) ∷ Given (IntVal i) ∷ []) _ (item_result (text_item text i)) tt (λ p w. item_effect (text_item text i) w) (item_shown (text_item text i))
    (λ s. ap (λ n. letter_at text (place_of n i) s) (letters_length text) ∙ item_outcome text (place_of (char_len text) i) s (λ k e. place_below (char_len text) i k e))

-- ---- the text of a value

flag_is : (b : Bool) → flag_text b ≡ truth_text b
flag_is true = refl
flag_is false = refl

-- by a primitive that answers it
written_performs : (q : Primitive) (v : Value) → failing q ≡ NeverFails → ((p : Program) (w : World) → effect p q (Given v ∷ []) w ≡ Giving (StrVal (text_of v)) w) → Performs (Shows sort.Str) q (Given v ∷ []) (written v)
written_performs q v never does =
    performs (Shows sort.Str) q (Given v ∷ []) _ (Answers (StrVal (text_of v))) (subst (λ f. Allows f (Answers (StrVal (text_of v)))) (sym never) tt) does (refl, (text_of v, refl)) (λ s. refl)

pub int_written : (n : ℤ) → Performs (Shows sort.Str) (prim.Tagged tagged.Str) (Given (IntVal n) ∷ []) (written (IntVal n))
int_written n = written_performs (prim.Tagged tagged.Str) (IntVal n) refl (λ p w. refl)

pub native_written : (n : ℤ) → Performs (Shows sort.Str) (prim.Int64 int64.Str) (Given (IntVal n) ∷ []) (written (IntVal n))
native_written n = written_performs (prim.Int64 int64.Str) (IntVal n) refl (λ p w. refl)

pub flag_written : (b : Bool) → Performs (Shows sort.Str) (prim.Bool bool.Str) (Given (BoolVal b) ∷ []) (written (BoolVal b))
flag_written b = written_performs (prim.Bool bool.Str) (BoolVal b) refl (λ p w. ap (λ t. Giving (StrVal t) w) (sym (flag_is b)))

-- what holds of each type whose values a primitive makes a text of
by_text_operation : (P : Sort → Operation → Type 0) → P sort.Int IntText → P sort.I64 NativeText → P sort.Bool BoolText → (t : Sort) (op : Operation) → text_operation t ≡ Some op → P t op
by_text_operation P f g h sort.Int op e = let k : Some IntText ≡ Some op = e in subst (P sort.Int) (cc) f
by_text_operation P f g h sort.I64 op e = let k : Some NativeText ≡ Some op = e in subst (P sort.I64) (cc) g
by_text_operation P f g h sort.Bool op e = let k : Some BoolText ≡ Some op = e in subst (P sort.Bool) (cc) h
by_text_operation P f g h t op e = let k : None ≡ Some op = e in absurd (cc)

-- what is asked of an operand, and what the operation does with it
pub text_ready : (t : Sort) (op : Operation) → text_operation t ≡ Some op → (regs : Declared) (x : Reg) → type_of_reg regs x ≡ Some (rtype_of t) → (is_known op ≡ true) × HaveTypes regs (operands_of op) (x ∷ [])
text_ready =
    by_text_operation (λ t op. (regs : Declared) (x : Reg) → type_of_reg regs x ≡ Some (rtype_of t) → (is_known op ≡ true) × HaveTypes regs (operands_of op) (x ∷ []))
    (λ regs x is. (refl, (is, tt)))
    (λ regs x is. (refl, (is, tt)))
    (λ regs x is. (refl, (is, tt)))

pub text_attempts : (t : Sort) (op : Operation) → text_operation t ≡ Some op → (b c : Building) (r : ℕ) (x : Reg) → Attempts (Shows (result_of op)) b c r (rtype_of (result_of op)) (ActsOnAll (operands_of op) (x ∷ []) (goes op)) → Attempts (Shows sort.Str) b c r rtype.Ref (ActsOn t x.0 written)
text_attempts =
    by_text_operation (λ t op. (b c : Building) (r : ℕ) (x : Reg) → Attempts (Shows (result_of op)) b c r (rtype_of (result_of op)) (ActsOnAll (operands_of op) (x ∷ []) (goes op)) → Attempts (Shows sort.Str) b c r rtype.Ref (ActsOn t x.0 written))
    (λ b c r x a. as_one sort.Int sort.Str written b c r x a)
    (λ b c r x a. as_one sort.I64 sort.Str written b c r x a)
    (λ b c r x a. as_one sort.Bool sort.Str written b c r x a)

text_type : (t : Sort) → is_written t ≡ true → text_operation t ≡ None → t ≡ sort.Str
text_type sort.Str e f = refl
text_type t e f = absurd (cc)

text_same : (v : Value) (s : State) → HasKind sort.Str v → written v s ≡ Gives v s
text_same v s k = by_text (λ v. written v s ≡ Gives v s) (λ t. refl) v k

pub text_stays : (t : Sort) (b : Building) (x : ℕ) → is_written t ≡ true → text_operation t ≡ None → HasType b x (rtype_of t) → Attempts (Shows sort.Str) b b x rtype.Ref (ActsOn t x written)
text_stays t b x e f type =
    let is = text_type t e f in
    let P : Sort → Type 0 = λ u. HasType b x (rtype_of u) → Attempts (Shows sort.Str) b b x rtype.Ref (ActsOn u x written) in
    subst P (sym is) (λ there. stays sort.Str written b x rtype.Ref there text_same) type
