-- An `int` as it is written is read as that `int`: a short one as twice its value, and any other one as its decimal.
use Rattle.ir_builder_operations.proofs.Common.{◌≡◌, refl, ◌∙◌, ap, ℕ, suc, ◌+◌, ◌*◌, ◌/◌, ◌%◌, arith, true, false, cond, List, [], ◌∷◌, Some, nat_tests, eq-eqb, and_from, w128, is_some, ℤ, pos, negsuc, neg_ℤ, ◌*ℤ◌, not, ◌&&◌, signed_decimal, IsUtf8, bytes_eq, lies_within, is_short, IntVal, StrVal, writes_long, is_long_decimal, Lit, Prim, Text, Building, Declared, Holds, halved, World, Wrong, written_int, Adds, LiteralFits, Makes, literal_makes}
use Rattle.std.proofs.lemmas.Str.{is_utf8-from_IsUtf8}
use mir.Val.{SFits}
use Rattle.std.proofs.lemmas.Slice.Eq.{bytes_eq-Decides}
use Rattle.std.specs.Str.Parse.{signed_digits_value}
use Rattle.c_core.specs.declared.primitive.Primitive.TheVariants as prim
use Rattle.c_core.specs.declared.primitive.TaggedPrim.TheVariants as tagged
use Rattle.c_core.specs.declared.primitive.StrPrim.TheVariants as str
use Rattle.c_core.proofs.DecimalLemmas.{read_back}
use Rattle.ir_core.specs.declared.code.Lit.TheVariants.{Number}
use Rattle.ir_core.specs.declared.code.RType.TheVariants as rtype
use Rattle.ir_core.specs.Effects.{Gives}
use Rattle.ir_builder_frames.specs.Kinds.{Answers}
use Rattle.ir_builder_operations.proofs.PartLemmas.{written_makes}

halved_even : (n m : ℕ) → m % 2 ≡ 0 → m / 2 ≡ n → halved (pos m) ≡ Some (Holds (IntVal (pos n)))
halved_even n m e f = rw (eq-eqb (m % 2) 0 e) (ap (λ k. Some (Holds (IntVal (pos k)))) f)

halved_odd : (n m : ℕ) → m % 2 ≡ 1 → m / 2 ≡ n → halved (negsuc m) ≡ Some (Holds (IntVal (negsuc n)))
halved_odd n m e f = rw (eq-eqb (m % 2) 1 e) (ap (λ k. Some (Holds (IntVal (negsuc k)))) f)

twice_next : (n : ℕ) → 2 * suc n ≡ suc (2 * n + 1)
twice_next n = omega arith

pub halved_twice : (n z : ℤ) → z ≡ pos 2 *ℤ n → halved z ≡ Some (Holds (IntVal n))
halved_twice (pos n) z e = ap halved e ∙ halved_even n (2 * n) (omega arith) (omega arith)
halved_twice (negsuc n) z e = ap halved (e ∙ ap (λ k. neg_ℤ (pos k)) (twice_next n)) ∙ halved_odd n (2 * n + 1) (omega arith) (omega arith)

-- the word of a short one is a native integer
short_twice : (n z : ℤ) → z ≡ pos 2 *ℤ n → is_short n ≡ true → lies_within 63 z ≡ true
short_twice (pos n) z e s = ap (lies_within 63) e ∙ grind (arith, nat_tests, s)
short_twice (negsuc n) z e s = ap (lies_within 63) (e ∙ ap (λ k. neg_ℤ (pos k)) (twice_next n)) ∙ grind (arith, nat_tests, s)

pub twice_fits : (n z : ℤ) → z ≡ pos 2 *ℤ n → is_short n ≡ true → LiteralFits rtype.Int (Number z)
twice_fits n z e s = (ap is_some (halved_twice n z e), short_twice n z e s)

pub short_makes : {line : ℕ} (b c : Building) (r : ℕ) (n z : ℤ) → z ≡ pos 2 *ℤ n → Adds b c r rtype.Int (Lit record { 0 = r } (Number z)) line → Makes b c r rtype.Int (λ regs h. h ≡ Holds (IntVal n))
short_makes b c r n z e a = literal_makes b c r rtype.Int (Number z) (Holds (IntVal n)) a (halved_twice n z e)

fitting_int : (n : ℤ) → SFits w128 n → lies_within 127 n ≡ true
fitting_int (pos n) f = grind (arith, nat_tests, f.sfits)
fitting_int (negsuc n) f = grind (arith, nat_tests, f.sfits)

-- the decimal of one that is not short is what `CPyTagged_FromText` wants
writes_own : (n : ℤ) → lies_within 127 n ≡ true → is_short n ≡ false → writes_long (signed_decimal n) n ≡ true
writes_own n within long =
    and_from (bytes_eq (signed_decimal n) (signed_decimal n)) (lies_within 127 n && not (is_short n)) ((bytes_eq-Decides (signed_decimal n) (signed_decimal n)).1 refl)
    (and_from (lies_within 127 n) (not (is_short n)) within (ap not long))

long_decimal : (n : ℤ) → lies_within 127 n ≡ true → is_short n ≡ false → is_long_decimal (signed_decimal n) ≡ true
long_decimal n within long = ap (writes_long (signed_decimal n)) (read_back n within) ∙ writes_own n within long

pub written_back : (n : ℤ) (w : World) → lies_within 127 n ≡ true → is_short n ≡ false → written_int (signed_decimal n) (signed_digits_value 10 (signed_decimal n)) w ≡ Gives (IntVal n) w
written_back n w within long =
    ap (λ z. written_int (signed_decimal n) z w) (read_back n within)
    ∙ ap (λ b. cond b (Gives (IntVal n) w) Wrong) (writes_own n within long)

pub decimal_makes : {line : ℕ} (b c : Building) (r : ℕ) (n : ℤ) (text : List ℕ) → SFits w128 n → is_short n ≡ false → text ≡ signed_decimal n → Adds b c r rtype.Int (Prim (Some record { 0 = r }) (prim.Tagged tagged.FromText) (Text text ∷ [])) line → Makes b c r rtype.Int (λ regs h. h ≡ Holds (IntVal n))
decimal_makes b c r n text fits long is a =
    written_makes b c r rtype.Int (prim.Tagged tagged.FromText) text (IntVal n) a refl
    (λ p w. ap (λ t. written_int t (signed_digits_value 10 t) w) is ∙ written_back n w (fitting_int n fits) long)

-- a text as it is written
pub text_makes : {line : ℕ} (b c : Building) (r : ℕ) (text : List ℕ) → Adds b c r rtype.Ref (Prim (Some record { 0 = r }) (prim.Str str.Literal) (Text text ∷ [])) line → Makes b c r rtype.Ref (λ regs h. h ≡ Holds (StrVal text))
text_makes b c r text a = written_makes b c r rtype.Ref (prim.Str str.Literal) text (StrVal text) a refl (λ p w. refl)

pub decimal_answers : (regs : Declared) (n : ℤ) (text : List ℕ) → IsUtf8 text → SFits w128 n → is_short n ≡ false → text ≡ signed_decimal n → Answers rtype.Int regs (prim.Tagged tagged.FromText) (Text text ∷ [])
decimal_answers regs n text u fits long is =
    (refl, (is_utf8-from_IsUtf8 text u, ap is_long_decimal is ∙ long_decimal n (fitting_int n fits) long, tt))

pub text_answers : (regs : Declared) (text : List ℕ) → IsUtf8 text → Answers rtype.Ref regs (prim.Str str.Literal) (Text text ∷ [])
text_answers regs text u = (refl, (is_utf8-from_IsUtf8 text u, tt))

-- a native integer as it is written
pub native_makes : {line : ℕ} (b c : Building) (r : ℕ) (n z : ℤ) → z ≡ n → Adds b c r rtype.I64 (Lit record { 0 = r } (Number z)) line → Makes b c r rtype.I64 (λ regs h. h ≡ Holds (IntVal n))
native_makes b c r n z e a = literal_makes b c r rtype.I64 (Number z) (Holds (IntVal n)) a (ap (λ k. Some (Holds (IntVal k))) e)
