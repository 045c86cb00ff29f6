-- What primitives make of native integers is what the source makes of them, or the exception that it raises.
use Rattle.ir_builder_operations.proofs.Common.{◌≡◌, refl, ap, ◌∙◌, true, false, cond, [], ◌∷◌, Result, Ok, Err, ℤ, neg_ℤ, Arith, Overflow, ZeroDivisor, NegativeShift, OutOfRange, lies_within, i64_add, i64_sub, i64_mul, i64_neg, i64_floor_div, i64_modulo, i64_shl, i64_shr, IntVal, int64_exception, BinOp, State, Gives, on_to, fitting, coerced, with_number, number_of, no_i64, of_i64, of_numbers, arithmetic, negated_as, negated, IsNative, wrap_within, quotient_native, rest_native, left_native, right_native, Program, failing, World, Given, native_or, effect, Shows, Answer, Answers, Throws, effect_of, outcome_of, Allows, ShownIfGiven, Performs, performs, is_arithmetic, native_primitive}
use Rattle.c_core.specs.declared.primitive.Primitive.TheVariants as prim
use Rattle.c_core.specs.declared.primitive.Int64Prim.TheVariants as int64
use Rattle.py_syntax.specs.declared.expression.BinOp.TheVariants as bin
use Rattle.py_typed.specs.Sorts as sort

-- ---- what an operator gives

abbrev given_by : BinOp → ℤ → ℤ → Result ℤ Arith
given_by bin.Add a b = Ok (i64_add a b)
given_by bin.Sub a b = Ok (i64_sub a b)
given_by bin.FloorDiv a b = i64_floor_div a b
given_by bin.Mod a b = i64_modulo a b
given_by bin.Shl a b = i64_shl a b
given_by bin.Shr a b = i64_shr a b
given_by _ a b = Ok (i64_mul a b)

given_native : (op : BinOp) (a b : ℤ) → lies_within 63 a ≡ true → lies_within 63 b ≡ true → IsNative (given_by op a b)
given_native bin.Add a b e f = wrap_within _
given_native bin.Sub a b e f = wrap_within _
given_native bin.Mul a b e f = wrap_within _
given_native bin.FloorDiv a b e f = quotient_native a b
given_native bin.Mod a b e f = rest_native a b f
given_native bin.Shl a b e f = left_native a b
given_native bin.Shr a b e f = right_native a b e
given_native bin.Bar a b e f = wrap_within _

abbrev with_exception : Result ℤ Arith → Answer
with_exception (Ok n) = Answers (IntVal n)
with_exception (Err fault) = Throws (int64_exception fault)

given_allowed : (op : BinOp) (a b : ℤ) → Allows (failing (prim.Int64 (native_primitive op))) (with_exception (given_by op a b))
given_allowed bin.Add a b = tt
given_allowed bin.Sub a b = tt
given_allowed bin.Mul a b = tt
given_allowed bin.FloorDiv a b = tt
given_allowed bin.Mod a b = tt
given_allowed bin.Shl a b = tt
given_allowed bin.Shr a b = tt
given_allowed bin.Bar a b = tt

native_effect : (o : Result ℤ Arith) (w : World) → native_or o w ≡ effect_of (with_exception o) w
native_effect (Ok n) w = refl
native_effect (Err fault) w = refl

given_effect : (op : BinOp) (a b : ℤ) (p : Program) (w : World) → effect p (prim.Int64 (native_primitive op)) (Given (IntVal a) ∷ Given (IntVal b) ∷ []) w ≡ effect_of (with_exception (given_by op a b)) w
given_effect bin.Add a b p w = refl
given_effect bin.Sub a b p w = refl
given_effect bin.Mul a b p w = refl
given_effect bin.FloorDiv a b p w = native_effect (i64_floor_div a b) w
given_effect bin.Mod a b p w = native_effect (i64_modulo a b) w
given_effect bin.Shl a b p w = native_effect (i64_shl a b) w
given_effect bin.Shr a b p w = native_effect (i64_shr a b) w
given_effect bin.Bar a b p w = refl

number_outcome : (o : Result ℤ Arith) (s : State) → number_of no_i64 o s ≡ outcome_of (with_exception o) s
number_outcome (Ok n) s = refl
number_outcome (Err Overflow) s = refl
number_outcome (Err ZeroDivisor) s = refl
number_outcome (Err NegativeShift) s = refl
number_outcome (Err OutOfRange) s = refl

given_outcome : (op : BinOp) (a b : ℤ) (s : State) → is_arithmetic op ≡ true → of_i64 op a b s ≡ outcome_of (with_exception (given_by op a b)) s
given_outcome bin.Add a b s e = refl
given_outcome bin.Sub a b s e = refl
given_outcome bin.Mul a b s e = refl
given_outcome bin.FloorDiv a b s e = number_outcome (i64_floor_div a b) s
given_outcome bin.Mod a b s e = number_outcome (i64_modulo a b) s
given_outcome bin.Shl a b s e = number_outcome (i64_shl a b) s
given_outcome bin.Shr a b s e = number_outcome (i64_shr a b) s
given_outcome bin.Bar a b s e = let f : false ≡ true = e in absurd (cc)

native_shown : (o : Result ℤ Arith) → IsNative o → ShownIfGiven (Shows sort.I64) (with_exception o)
native_shown (Ok n) e = (refl, (n, refl, e))
native_shown (Err fault) e = tt

-- ---- the source

pub native_kept : (n : ℤ) (s : State) → lies_within 63 n ≡ true → coerced sort.I64 (IntVal n) s ≡ Gives (IntVal n) s
native_kept n s e = ap (λ b. fitting (cond b (Ok n) (Err OutOfRange)) s) e

pub arithmetic_is : (op : BinOp) (a b : ℤ) (s : State) → lies_within 63 a ≡ true → lies_within 63 b ≡ true → arithmetic sort.I64 op (IntVal a) (IntVal b) s ≡ of_i64 op a b s
arithmetic_is op a b s e f =
    ap (λ o. on_to o (λ m s1. on_to (coerced sort.I64 (IntVal b) s1) (λ n. with_number m (λ i. with_number n (λ j. of_numbers sort.I64 op i j))))) (native_kept a s e)
    ∙ ap (λ o. on_to o (λ n. with_number n (λ j. of_numbers sort.I64 op a j))) (native_kept b s f)

pub arithmetic_performs : (op : BinOp) (a b : ℤ) → is_arithmetic op ≡ true → lies_within 63 a ≡ true → lies_within 63 b ≡ true → Performs (Shows sort.I64) (prim.Int64 (native_primitive op)) (Given (IntVal a) ∷ Given (IntVal b) ∷ []) (arithmetic sort.I64 op (IntVal a) (IntVal b))
arithmetic_performs op a b is e f =
    performs (Shows sort.I64) (prim.Int64 (native_primitive op)) (Given (IntVal a) ∷ Given (IntVal b) ∷ []) _ (with_exception (given_by op a b)) (given_allowed op a b)
    (λ p w. given_effect op a b p w)
    (native_shown (given_by op a b) (given_native op a b e f))
    (λ s. arithmetic_is op a b s e f ∙ given_outcome op a b s is)

-- ---- the other sign

pub negated_is : (a : ℤ) (s : State) → lies_within 63 a ≡ true → negated sort.I64 (IntVal a) s ≡ Gives (IntVal (i64_neg a)) s
negated_is a s e = ap (λ o. on_to o (λ z. with_number z (negated_as sort.I64))) (native_kept a s e)

pub negation_performs : (a : ℤ) → lies_within 63 a ≡ true → Performs (Shows sort.I64) (prim.Int64 int64.Negate) (Given (IntVal a) ∷ []) (negated sort.I64 (IntVal a))
negation_performs a e =
    performs (Shows sort.I64) (prim.Int64 int64.Negate) (Given (IntVal a) ∷ []) _ (Answers (IntVal (i64_neg a))) tt (λ p w. refl) (refl, (i64_neg a, refl, wrap_within (neg_ℤ a))) (λ s. negated_is a s e)
