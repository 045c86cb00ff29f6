-- What primitives make of `int`s is what the source makes of them, or the exception that it raises.
use Rattle.ir_builder_operations.proofs.Common.{◌≡◌, refl, ◌∙◌, true, false, [], ◌∷◌, Result, Ok, Err, ℤ, Arith, Overflow, ZeroDivisor, NegativeShift, OutOfRange, int_neg, int_add, int_sub, int_mul, int_floor_div, int_modulo, int_shl, int_shr, IntVal, int_exception, BinOp, State, number_of, past_range, arithmetic, negated, Program, failing, World, Given, int_or, effect, Shows, Answer, Answers, Throws, effect_of, outcome_of, Allows, ShownIfGiven, Performs, performs, is_arithmetic, int_primitive}
use Rattle.c_core.specs.declared.primitive.Primitive.TheVariants as prim
use Rattle.c_core.specs.declared.primitive.TaggedPrim.TheVariants as tagged
use Rattle.py_syntax.specs.declared.expression.BinOp.TheVariants as bin
use Rattle.py_typed.specs.Sorts as sort

-- a number as a value, and a fault as the exception that stands for it
abbrev with_exception : Result ℤ Arith → Answer
with_exception (Ok n) = Answers (IntVal n)
with_exception (Err fault) = Throws (int_exception fault)

int_effect : (o : Result ℤ Arith) (w : World) → int_or o w ≡ effect_of (with_exception o) w
int_effect (Ok n) w = refl
int_effect (Err fault) w = refl

int_outcome : (o : Result ℤ Arith) (s : State) → number_of past_range o s ≡ outcome_of (with_exception o) s
int_outcome (Ok n) s = refl
int_outcome (Err Overflow) s = refl
int_outcome (Err ZeroDivisor) s = refl
int_outcome (Err NegativeShift) s = refl
int_outcome (Err OutOfRange) s = refl

int_shown : (o : Result ℤ Arith) → ShownIfGiven (Shows sort.Int) (with_exception o)
int_shown (Ok n) = (refl, (n, refl))
int_shown (Err fault) = tt

-- ---- arithmetic

-- what an operator gives
abbrev given_by : BinOp → ℤ → ℤ → Result ℤ Arith
given_by bin.Add a b = int_add a b
given_by bin.Sub a b = int_sub a b
given_by bin.FloorDiv a b = int_floor_div a b
given_by bin.Mod a b = int_modulo a b
given_by bin.Shl a b = int_shl a b
given_by bin.Shr a b = int_shr a b
given_by _ a b = int_mul a b

given_allowed : (op : BinOp) (a : Answer) → Allows (failing (prim.Tagged (int_primitive op))) a
given_allowed bin.Add o = tt
given_allowed bin.Sub o = tt
given_allowed bin.Mul o = tt
given_allowed bin.FloorDiv o = tt
given_allowed bin.Mod o = tt
given_allowed bin.Shl o = tt
given_allowed bin.Shr o = tt
given_allowed bin.Bar o = tt

given_effect : (op : BinOp) (a b : ℤ) (p : Program) (w : World) → effect p (prim.Tagged (int_primitive op)) (Given (IntVal a) ∷ Given (IntVal b) ∷ []) w ≡ int_or (given_by op a b) w
given_effect bin.Add a b p w = refl
given_effect bin.Sub a b p w = refl
given_effect bin.Mul a b p w = refl
given_effect bin.FloorDiv a b p w = refl
given_effect bin.Mod a b p w = refl
given_effect bin.Shl a b p w = refl
given_effect bin.Shr a b p w = refl
given_effect bin.Bar a b p w = refl

given_outcome : (op : BinOp) (a b : ℤ) (s : State) → is_arithmetic op ≡ true → arithmetic sort.Int op (IntVal a) (IntVal b) s ≡ number_of past_range (given_by op a b) s
given_outcome bin.Add a b s e = refl
given_outcome bin.Sub a b s e = refl
given_outcome bin.Mul a b s e = refl
given_outcome bin.FloorDiv a b s e = refl
given_outcome bin.Mod a b s e = refl
given_outcome bin.Shl a b s e = refl
given_outcome bin.Shr a b s e = refl
given_outcome bin.Bar a b s e = let f : false ≡ true = e in absurd (cc)

pub arithmetic_performs : (op : BinOp) (a b : ℤ) → is_arithmetic op ≡ true → Performs (Shows sort.Int) (prim.Tagged (int_primitive op)) (Given (IntVal a) ∷ Given (IntVal b) ∷ []) (arithmetic sort.Int op (IntVal a) (IntVal b))
arithmetic_performs op a b is =
    performs (Shows sort.Int) (prim.Tagged (int_primitive op)) (Given (IntVal a) ∷ Given (IntVal b) ∷ []) _ (with_exception (given_by op a b)) (given_allowed op _)
    (λ p w. given_effect op a b p w ∙ int_effect (given_by op a b) w)
    (int_shown (given_by op a b))
    (λ s. given_outcome op a b s is ∙ int_outcome (given_by op a b) s)

-- ---- the other sign

pub negation_performs : (a : ℤ) → Performs (Shows sort.Int) (prim.Tagged tagged.Negate) (Given (IntVal a) ∷ []) (negated sort.Int (IntVal a))
negation_performs a =
    performs (Shows sort.Int) (prim.Tagged tagged.Negate) (Given (IntVal a) ∷ []) _ (with_exception (int_neg a)) tt (λ p w. int_effect (int_neg a) w) (int_shown (int_neg a)) (λ s. int_outcome (int_neg a) s)
