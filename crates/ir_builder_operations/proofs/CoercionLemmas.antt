-- What primitives make of a number or a bool of one type is what the source makes of it at the other type.
use Rattle.ir_builder_operations.proofs.Common.{◌≡◌, refl, sym, ap, subst, ℕ, Bool, true, false, cond, [], ◌∷◌, Some, None, Result, Ok, Err, ℤ, pos, if◌then◌else◌, Arith, Overflow, OutOfRange, lies_within, int_to_i64, Value, IntVal, BoolVal, int64_exception, Sort, State, Gives, fitting, coerced, Reg, World, Given, truth_number, fitted, Declared, type_of_reg, Building, rtype_of, HasType, HasKind, Shows, HaveTypes, Attempts, ActsOnAll, Answer, Answers, Throws, effect_of, outcome_of, ShownIfGiven, Performs, performs, Operation, BoolToInt, BoolToNative, NativeToInt, IntToNative, is_whole, ActsOn, is_known, operands_of, result_of, goes, coercion}
use Rattle.c_core.specs.declared.primitive.Primitive.TheVariants as prim
use Rattle.c_core.specs.declared.primitive.Int64Prim.TheVariants as int64
use Rattle.c_core.specs.declared.primitive.TaggedPrim.TheVariants as tagged
use Rattle.py_typed.specs.Fits.{is_number}
use Rattle.py_typed.specs.Sorts as sort
use Rattle.ir_builder_operations.proofs.KindLemmas.{by_int, by_i64}
use Rattle.ir_builder_operations.proofs.PartLemmas.{as_one, stays}
use Rattle.ir_builder_operations.proofs.NativeLemmas.{native_kept}

-- ---- each coercion

truth_native : (b : Bool) → HasKind sort.I64 (IntVal (truth_number b))
truth_native true = (pos 1, refl, refl)
truth_native false = (pos 0, refl, refl)

truth_is : (b : Bool) → (if b then pos 1 else pos 0) ≡ truth_number b
truth_is true = refl
truth_is false = refl

pub int_of_bool : (b : Bool) → Performs (Shows sort.Int) (prim.Tagged tagged.FromBool) (Given (BoolVal b) ∷ []) (coerced sort.Int (BoolVal b))
int_of_bool b = performs (Shows sort.Int) (prim.Tagged tagged.FromBool) (Given (BoolVal b) ∷ []) _ (Answers (IntVal (truth_number b))) tt (λ p w. refl) (refl, (truth_number b, refl)) (λ s. ap (λ n. Gives (IntVal n) s) (truth_is b))

pub native_of_bool : (b : Bool) → Performs (Shows sort.I64) (prim.Int64 int64.FromBool) (Given (BoolVal b) ∷ []) (coerced sort.I64 (BoolVal b))
native_of_bool b = performs (Shows sort.I64) (prim.Int64 int64.FromBool) (Given (BoolVal b) ∷ []) _ (Answers (IntVal (truth_number b))) tt (λ p w. refl) (refl, truth_native b) (λ s. ap (λ n. Gives (IntVal n) s) (truth_is b))

pub int_of_native : (n : ℤ) → Performs (Shows sort.Int) (prim.Tagged tagged.FromInt64) (Given (IntVal n) ∷ []) (coerced sort.Int (IntVal n))
int_of_native n = performs (Shows sort.Int) (prim.Tagged tagged.FromInt64) (Given (IntVal n) ∷ []) _ (Answers (IntVal n)) tt (λ p w. refl) (refl, (n, refl)) (λ s. refl)

-- an `int` as a native integer, or the exception
abbrev as_native : Result ℤ Arith → Answer
as_native (Ok n) = Answers (IntVal n)
as_native (Err fault) = Throws (int64_exception Overflow)

native_effect : (o : Result ℤ Arith) (w : World) → fitted o w ≡ effect_of (as_native o) w
native_effect (Ok n) w = refl
native_effect (Err fault) w = refl

native_outcome : (o : Result ℤ Arith) (s : State) → fitting o s ≡ outcome_of (as_native o) s
native_outcome (Ok n) s = refl
native_outcome (Err fault) s = refl

native_by : (b : Bool) (n : ℤ) → lies_within 63 n ≡ b → ShownIfGiven (Shows sort.I64) (as_native (cond b (Ok n) (Err OutOfRange)))
native_by true n e = (refl, (n, refl, e))
native_by false n e = tt

pub native_of_int : (n : ℤ) → Performs (Shows sort.I64) (prim.Tagged tagged.AsInt64) (Given (IntVal n) ∷ []) (coerced sort.I64 (IntVal n))
native_of_int n =
    performs (Shows sort.I64) (prim.Tagged tagged.AsInt64) (Given (IntVal n) ∷ []) _ (as_native (int_to_i64 n)) tt (λ p w. native_effect (int_to_i64 n) w) (native_by (lies_within 63 n) n refl) (λ s. native_outcome (int_to_i64 n) s)

-- ---- all coercions

-- what holds of each of them
by_coercion : (P : Sort → Sort → Operation → Type 0) → P sort.Bool sort.Int BoolToInt → P sort.Bool sort.I64 BoolToNative → P sort.I64 sort.Int NativeToInt → P sort.Int sort.I64 IntToNative → (s t : Sort) (op : Operation) → coercion s t ≡ Some op → P s t op
by_coercion P f g h i sort.Bool sort.Int op e = let k : Some BoolToInt ≡ Some op = e in subst (P sort.Bool sort.Int) (cc) f
by_coercion P f g h i sort.Bool sort.I64 op e = let k : Some BoolToNative ≡ Some op = e in subst (P sort.Bool sort.I64) (cc) g
by_coercion P f g h i sort.I64 sort.Int op e = let k : Some NativeToInt ≡ Some op = e in subst (P sort.I64 sort.Int) (cc) h
by_coercion P f g h i sort.Int sort.I64 op e = let k : Some IntToNative ≡ Some op = e in subst (P sort.Int sort.I64) (cc) i
by_coercion P f g h i s t op e = let k : None ≡ Some op = e in absurd (cc)

-- what is asked of an operand, and what the operation does with it
pub coercion_ready : (s t : Sort) (op : Operation) → coercion s t ≡ Some op → (regs : Declared) (x : Reg) → type_of_reg regs x ≡ Some (rtype_of s) → (is_known op ≡ true) × HaveTypes regs (operands_of op) (x ∷ [])
coercion_ready =
    by_coercion (λ s t op. (regs : Declared) (x : Reg) → type_of_reg regs x ≡ Some (rtype_of s) → (is_known op ≡ true) × HaveTypes regs (operands_of op) (x ∷ []))
    (λ regs x is. (refl, (is, tt)))
    (λ regs x is. (refl, (is, tt)))
    (λ regs x is. (refl, (is, tt)))
    (λ regs x is. (refl, (is, tt)))

pub coercion_attempts : (s t : Sort) (op : Operation) → coercion s t ≡ Some op → (b c : Building) (r : ℕ) (x : Reg) → Attempts (Shows (result_of op)) b c r (rtype_of (result_of op)) (ActsOnAll (operands_of op) (x ∷ []) (goes op)) → Attempts (Shows t) b c r (rtype_of t) (ActsOn s x.0 (coerced t))
coercion_attempts =
    by_coercion (λ s t op. (b c : Building) (r : ℕ) (x : Reg) → Attempts (Shows (result_of op)) b c r (rtype_of (result_of op)) (ActsOnAll (operands_of op) (x ∷ []) (goes op)) → Attempts (Shows t) b c r (rtype_of t) (ActsOn s x.0 (coerced t)))
    (λ b c r x a. as_one sort.Bool sort.Int (coerced sort.Int) b c r x a)
    (λ b c r x a. as_one sort.Bool sort.I64 (coerced sort.I64) b c r x a)
    (λ b c r x a. as_one sort.I64 sort.Int (coerced sort.Int) b c r x a)
    (λ b c r x a. as_one sort.Int sort.I64 (coerced sort.I64) b c r x a)

-- ---- where there is nothing to do

same_type : (s t : Sort) → is_number s ≡ true → is_whole t ≡ true → coercion s t ≡ None → s ≡ t
same_type sort.Int sort.Int e f g = refl
same_type sort.I64 sort.I64 e f g = refl
same_type sort.Bool sort.Int e f g = absurd (cc)
same_type s t e f g = absurd (cc)

pub kept_as : (t : Sort) → is_whole t ≡ true → (v : Value) (s : State) → HasKind t v → coerced t v s ≡ Gives v s
kept_as sort.Int e v s k = by_int (λ v. coerced sort.Int v s ≡ Gives v s) (λ n. refl) v k
kept_as sort.I64 e v s k = by_i64 (λ v. coerced sort.I64 v s ≡ Gives v s) (λ n f. native_kept n s f) v k
kept_as t e v s k = let f : false ≡ true = e in absurd (cc)

pub coercion_stays : (s t : Sort) (b : Building) (x : ℕ) → is_number s ≡ true → is_whole t ≡ true → coercion s t ≡ None → HasType b x (rtype_of s) → Attempts (Shows t) b b x (rtype_of t) (ActsOn s x (coerced t))
coercion_stays s t b x e f g type =
    let is = same_type s t e f g in
    let P : Sort → Type 0 = λ u. HasType b x (rtype_of u) → Attempts (Shows t) b b x (rtype_of t) (ActsOn u x (coerced t)) in
    subst P (sym is) (λ there. stays t (coerced t) b x (rtype_of t) there (kept_as t f)) type
