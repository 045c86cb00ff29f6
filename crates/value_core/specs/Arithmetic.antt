-- Arithmetic on whole numbers, with the ends of `int` and of `i64` (Python Language Reference, "Binary arithmetic operations"
-- and "Shifting operations"; mypyc's "Native integer types"). An `int` lies from -2^127 to 2^127 - 1, and a result past it is an
-- overflow. An `i64` lies from -2^63 to 2^63 - 1; sums, differences, products and left shifts wrap.
use Rattle.std.specs.Prelude.{ℕ, zero, suc, ◌/◌, ◌^◌, Bool, cond, nat_lt, ℤ, pos, negsuc, neg_ℤ, ◌+ℤ◌, ◌-ℤ◌, ◌*ℤ◌}
use Rattle.std.specs.Prelude.{Result, Ok, Err}
use Rattle.std.specs.Int.{int_wrap, w64}
use Rattle.value_core.specs.declared.arith.Arith.{Arith}
use Rattle.value_core.specs.declared.arith.Arith.TheVariants.{Overflow, ZeroDivisor, NegativeShift, OutOfRange}

-- z lies from -2^bits to 2^bits - 1
abbrev pub lies_within : ℕ → ℤ → Bool
lies_within bits (pos n) = nat_lt n (2 ^ bits)
lies_within bits (negsuc n) = nat_lt n (2 ^ bits)

-- z as an `int`, and as an `i64` where a quotient or a value is asked for and nothing wraps
abbrev pub as_int : ℤ → Result ℤ Arith
as_int z = cond (lies_within 127 z) (Ok z) (Err Overflow)

abbrev pub as_i64 : Arith → ℤ → Result ℤ Arith
as_i64 fault z = cond (lies_within 63 z) (Ok z) (Err fault)

-- the greatest whole number that is at most a / b, for b not 0: by the signs, where negsuc n is -(n + 1)
abbrev pub floor_div : ℤ → ℤ → ℤ
floor_div (pos a) (pos b) = pos (a / b)
floor_div (negsuc a) (pos b) = negsuc (a / b)
floor_div (pos zero) (negsuc b) = pos 0
floor_div (pos (suc a)) (negsuc b) = negsuc (a / suc b)
floor_div (negsuc a) (negsuc b) = pos (suc a / suc b)

-- what the quotient leaves of a: with the divisor's sign, and nearer to 0 than it
abbrev pub modulo : ℤ → ℤ → ℤ
modulo a b = a -ℤ floor_div a b *ℤ b

abbrev pub unless_zero : ℤ → Result ℤ Arith → Result ℤ Arith
unless_zero (pos zero) r = Err ZeroDivisor
unless_zero (pos (suc b)) r = r
unless_zero (negsuc b) r = r

-- a shift count of an `int` is not negative, one of an `i64` lies from 0 to 63
abbrev pub by_count : ℤ → (ℕ → Result ℤ Arith) → Result ℤ Arith
by_count (pos n) r = r n
by_count (negsuc n) r = Err NegativeShift

abbrev pub by_i64_count : ℤ → (ℕ → ℤ) → Result ℤ Arith
by_i64_count (pos n) r = cond (nat_lt n 64) (Ok (r n)) (Err OutOfRange)
by_i64_count (negsuc n) r = Err OutOfRange

-- `int`
abbrev pub int_add : ℤ → ℤ → Result ℤ Arith
int_add a b = as_int (a +ℤ b)

abbrev pub int_sub : ℤ → ℤ → Result ℤ Arith
int_sub a b = as_int (a -ℤ b)

abbrev pub int_mul : ℤ → ℤ → Result ℤ Arith
int_mul a b = as_int (a *ℤ b)

abbrev pub int_neg : ℤ → Result ℤ Arith
int_neg a = as_int (neg_ℤ a)

abbrev pub int_floor_div : ℤ → ℤ → Result ℤ Arith
int_floor_div a b = unless_zero b (as_int (floor_div a b))

abbrev pub int_modulo : ℤ → ℤ → Result ℤ Arith
int_modulo a b = unless_zero b (Ok (modulo a b))

abbrev pub int_shl : ℤ → ℤ → Result ℤ Arith
int_shl a n = by_count n (λ k. as_int (a *ℤ pos (2 ^ k)))

abbrev pub int_shr : ℤ → ℤ → Result ℤ Arith
int_shr a n = by_count n (λ k. Ok (floor_div a (pos (2 ^ k))))

-- `i64`: `int_wrap w64 z` is the `i64` that differs from z by a multiple of 2^64
abbrev pub i64_add : ℤ → ℤ → ℤ
i64_add a b = int_wrap w64 (a +ℤ b)

abbrev pub i64_sub : ℤ → ℤ → ℤ
i64_sub a b = int_wrap w64 (a -ℤ b)

abbrev pub i64_mul : ℤ → ℤ → ℤ
i64_mul a b = int_wrap w64 (a *ℤ b)

abbrev pub i64_neg : ℤ → ℤ
i64_neg a = int_wrap w64 (neg_ℤ a)

abbrev pub i64_floor_div : ℤ → ℤ → Result ℤ Arith
i64_floor_div a b = unless_zero b (as_i64 Overflow (floor_div a b))

abbrev pub i64_modulo : ℤ → ℤ → Result ℤ Arith
i64_modulo a b = unless_zero b (Ok (modulo a b))

abbrev pub i64_shl : ℤ → ℤ → Result ℤ Arith
i64_shl a n = by_i64_count n (λ k. int_wrap w64 (a *ℤ pos (2 ^ k)))

abbrev pub i64_shr : ℤ → ℤ → Result ℤ Arith
i64_shr a n = by_i64_count n (λ k. floor_div a (pos (2 ^ k)))

-- an `int` as the equal `i64`
abbrev pub int_to_i64 : ℤ → Result ℤ Arith
int_to_i64 a = as_i64 OutOfRange a

-- a tagged word holds the ints from -2^62 to 2^62 - 1
abbrev pub is_short : ℤ → Bool
is_short a = lies_within 62 a
