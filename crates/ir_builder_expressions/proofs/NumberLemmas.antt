-- Parts that are brought to a type of numbers, and what operators make of them there.
use Rattle.ir_builder_expressions.proofs.Common.{◌≡◌, refl, sym, ap, ◌∙◌, subst, ℕ, true, [], ◌∷◌, Option, Some, None, ℤ, Value, BinOp, is_number, Sort, TypedExpr, type_of, State, Does, on_to, coerced, with_number, of_numbers, arithmetic, negated_as, negated, Reg, Declared, type_of_reg, Building, rtype_of, HasType, HasKind, Shows, HaveTypes, Attempts, ActsOnAll, type_below, is_arithmetic, is_whole, ActsOn, ActsOnTwo, is_known, operands_of, result_of, goes, arithmetic_of, negation_of, stays, as_one, as_two, attempts_as, attempts_then, two_attempts, native_in, sort_by, part_sort, literal_in}
use borrow.Author.Tests.{clash}
use Rattle.py_typed.specs.Sorts as sort
use Rattle.ir_core.specs.declared.code.RType.TheVariants as rtype
use Rattle.ir_builder_operations.proofs.CoercionLemmas.{kept_as}

pub whole_numeric : (t : Sort) → is_whole t ≡ true → is_number t ≡ true
whole_numeric sort.Int e = refl
whole_numeric sort.I64 e = refl
whole_numeric t e = absurd (clash e)

-- a native number is asked for only where the operation is on native integers
pub native_only : (t : Sort) (o : Option ℤ) (n : ℤ) → native_in t o ≡ Some n → sort.I64 ≡ t
native_only sort.I64 o n e = refl
native_only t o n e = let f : None ≡ Some n = e in absurd (cc)

-- ---- the part

pub native_stays : (t : Sort) (e : TypedExpr) (n : ℤ) (b : Building) (x : ℕ) → native_in t (literal_in e) ≡ Some n → HasType b x (rtype_of (part_sort t e)) → Attempts (Shows t) b b x (rtype_of t) (ActsOn (part_sort t e) x (coerced t))
native_stays t e n b x is type =
    let native = native_only t (literal_in e) n is in
    let part : sort.I64 ≡ part_sort t e = ap (λ o. sort_by o (type_of e)) (sym is) in
    let P : Sort → Type 0 = λ u. HasType b x (rtype_of u) in
    let Q : Sort → Type 0 = λ u. Attempts (Shows u) b b x (rtype_of u) (ActsOn (part_sort t e) x (coerced u)) in
    let R : Sort → Type 0 = λ u. Attempts (Shows sort.I64) b b x rtype.I64 (ActsOn u x (coerced sort.I64)) in
    subst Q native (subst R part (stays sort.I64 (coerced sort.I64) b x rtype.I64 (subst P (sym part) type) (λ v s k. kept_as sort.I64 refl v s k)))

-- ---- the operations on numbers of a type

pub arithmetic_ready : (t : Sort) (op : BinOp) (regs : Declared) (x y : Reg) → is_whole t ≡ true → is_arithmetic op ≡ true → type_of_reg regs x ≡ Some (rtype_of t) → type_of_reg regs y ≡ Some (rtype_of t) → (is_known (arithmetic_of t op) ≡ true) × HaveTypes regs (operands_of (arithmetic_of t op)) (x ∷ y ∷ [])
arithmetic_ready sort.Int op regs x y e o k l = (o, (k, (l, tt)))
arithmetic_ready sort.I64 op regs x y e o k l = (o, (k, (l, tt)))
arithmetic_ready t op regs x y e o k l = absurd (clash e)

pub arithmetic_attempts : (t : Sort) (op : BinOp) (b c : Building) (r : ℕ) (x y : Reg) → is_whole t ≡ true → Attempts (Shows (result_of (arithmetic_of t op))) b c r (rtype_of (result_of (arithmetic_of t op))) (ActsOnAll (operands_of (arithmetic_of t op)) (x ∷ y ∷ []) (goes (arithmetic_of t op))) → Attempts (Shows t) b c r (rtype_of t) (ActsOnTwo t t x.0 y.0 (arithmetic t op))
arithmetic_attempts sort.Int op b c r x y e a = as_two sort.Int sort.Int sort.Int (arithmetic sort.Int op) b c r x y a
arithmetic_attempts sort.I64 op b c r x y e a = as_two sort.I64 sort.I64 sort.I64 (arithmetic sort.I64 op) b c r x y a
arithmetic_attempts t op b c r x y e a = absurd (clash e)

pub negation_ready : (t : Sort) (regs : Declared) (x : Reg) → is_whole t ≡ true → type_of_reg regs x ≡ Some (rtype_of t) → (is_known (negation_of t) ≡ true) × HaveTypes regs (operands_of (negation_of t)) (x ∷ [])
negation_ready sort.Int regs x e k = (refl, (k, tt))
negation_ready sort.I64 regs x e k = (refl, (k, tt))
negation_ready t regs x e k = absurd (clash e)

pub negation_attempts : (t : Sort) (b c : Building) (r : ℕ) (x : Reg) → is_whole t ≡ true → Attempts (Shows (result_of (negation_of t))) b c r (rtype_of (result_of (negation_of t))) (ActsOnAll (operands_of (negation_of t)) (x ∷ []) (goes (negation_of t))) → Attempts (Shows t) b c r (rtype_of t) (ActsOn t x.0 (negated t))
negation_attempts sort.Int b c r x e a = as_one sort.Int sort.Int (negated sort.Int) b c r x a
negation_attempts sort.I64 b c r x e a = as_one sort.I64 sort.I64 (negated sort.I64) b c r x a
negation_attempts t b c r x e a = absurd (clash e)

-- ---- the other sign

pub negated_part : (t u : Sort) (b0 b1 b2 : Building) (x q r : ℕ) → is_whole t ≡ true → Attempts (Shows t) b0 b1 q (rtype_of t) (ActsOn u x (coerced t)) → Attempts (Shows t) b1 b2 r (rtype_of t) (ActsOn t q (negated t)) → Attempts (Shows t) b0 b2 r (rtype_of t) (ActsOn u x (negated t))
negated_part t u b0 b1 b2 x q r whole a c =
    attempts_then (Shows t) (Shows t) b0 b1 b2 q r (rtype_of t) (rtype_of t) (ActsOn u x (coerced t)) (ActsOn t q (negated t)) (ActsOn u x (negated t)) a c
    (λ regs s res f. record {
      mid = coerced t f.v s;
      go = λ z. with_number z (negated_as t);
      does = f.does;
      start = record { v = f.v; shows = f.shows; does = refl };
      on = λ now v s1 shows kept. record { v = v; shows = shows; does = ap (λ o. on_to o (λ z. with_number z (negated_as t))) (sym (kept_as t whole v s1 shows.1)) };
    })

-- ---- operators

taken_is : (t : Sort) (op : BinOp) (v w : Value) (s : State) → is_whole t ≡ true → HasKind t v → HasKind t w → with_number v (λ m. with_number w (λ n. of_numbers t op m n)) s ≡ arithmetic t op v w s
taken_is t op v w s whole k l =
    sym
    (ap (λ o. on_to o (λ a s1. on_to (coerced t w s1) (λ b. with_number a (λ m. with_number b (λ n. of_numbers t op m n))))) (kept_as t whole v s k)
    ∙ ap (λ o. on_to o (λ b. with_number v (λ m. with_number b (λ n. of_numbers t op m n)))) (kept_as t whole w s l))

pub numbers_attempt : (t u w : Sort) (op : BinOp) (b0 b1 b2 b3 : Building) (x y q1 q2 r : ℕ) → is_whole t ≡ true → HasType b0 x (rtype_of u) → HasType b0 y (rtype_of w) → Attempts (Shows t) b0 b1 q1 (rtype_of t) (ActsOn u x (coerced t)) → Attempts (Shows t) b1 b2 q2 (rtype_of t) (ActsOn w y (coerced t)) → Attempts (Shows t) b2 b3 r (rtype_of t) (ActsOnTwo t t q1 q2 (arithmetic t op)) → Attempts (Shows t) b0 b3 r (rtype_of t) (ActsOnTwo u w x y (arithmetic t op))
numbers_attempt t u w op b0 b1 b2 b3 x y q1 q2 r whole type_x type_y a1 a2 a3 =
    let go : Value → Value → Does Value = λ a b. with_number a (λ m. with_number b (λ n. of_numbers t op m n)) in
    two_attempts (Shows t) u w t (rtype_of t) (rtype_of t) x y q1 q2 r b0 b1 b2 b3 (coerced t) (coerced t) go (type_below b0 x (rtype_of u) type_x) (type_below b0 y (rtype_of w) type_y) a1 a2
    (attempts_as (Shows t) b2 b3 r (rtype_of t) (ActsOnTwo t t q1 q2 (arithmetic t op)) (ActsOnTwo t t q1 q2 go)
    (λ regs s res f. record { v = f.v; left = f.left; w = f.w; right = f.right; does = f.does ∙ taken_is t op f.v f.w s whole f.left.1 f.right.1 })
    a3)
