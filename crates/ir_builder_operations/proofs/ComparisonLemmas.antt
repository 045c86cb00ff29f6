-- What primitives find in two values of one type is what the source finds in them.
use Rattle.ir_builder_operations.proofs.Common.{◌≡◌, refl, sym, ap, subst, ℕ, arith, Bool, true, List, [], ◌∷◌, nat_tests, ℤ, pos, negsuc, not, ◌&&◌, int_lt, int_eq, Value, IntVal, BoolVal, StrVal, Primitive, on_to, give, needs, are_alike, Program, failing, NeverFails, World, Given, effect, Shows, Answers, Allows, Performs, performs, Equal, Less, AtMost, Ints, Natives, Texts, tested, compares, inverts, test_primitive}
use Rattle.c_core.specs.declared.primitive.Primitive.TheVariants as prim
use Rattle.c_core.specs.declared.primitive.BoolPrim.TheVariants as bool
use Rattle.py_typed.specs.Sorts as sort
use Rattle.ir_core.specs.Effects.{Gives as Giving}
use Rattle.ir_builder_operations.specs.declared.operation.Test.{Test}
use Rattle.ir_builder_operations.proofs.TextLemmas.{text_less_is}

pub same_number : (a b : ℤ) → (not (int_lt a b) && not (int_lt b a)) ≡ int_eq a b
same_number (pos a) (pos b) = grind (arith, nat_tests)
same_number (pos a) (negsuc b) = refl
same_number (negsuc a) (pos b) = refl
same_number (negsuc a) (negsuc b) = grind (arith, nat_tests)

-- by a primitive that answers whether the test holds
compared_by : (q : Primitive) (test : Value → Value → Bool) (v w : Value) → failing q ≡ NeverFails → are_alike v w ≡ true → ((p : Program) (u : World) → effect p q (Given v ∷ Given w ∷ []) u ≡ Giving (BoolVal (test v w)) u) → Performs (Shows sort.Bool) q (Given v ∷ Given w ∷ []) (compares test v w)
compared_by q test v w never alike does =
    performs (Shows sort.Bool) q (Given v ∷ Given w ∷ []) _ (Answers (BoolVal (test v w))) (subst (λ f. Allows f (Answers (BoolVal (test v w)))) (sym never) tt) does (refl, (test v w, refl))
    (λ s. ap (λ b. on_to (needs b (give (test v w)) s) (λ h. give (BoolVal h))) alike)

pub ints_compared : (t : Test) (a b : ℤ) → Performs (Shows sort.Bool) (test_primitive Ints t) (Given (IntVal a) ∷ Given (IntVal b) ∷ []) (compares (tested t) (IntVal a) (IntVal b))
ints_compared Equal a b = compared_by _ (tested Equal) (IntVal a) (IntVal b) refl refl (λ p u. ap (λ z. Giving (BoolVal z) u) (sym (same_number a b)))
ints_compared Less a b = compared_by _ (tested Less) (IntVal a) (IntVal b) refl refl (λ p u. refl)
ints_compared AtMost a b = compared_by _ (tested AtMost) (IntVal a) (IntVal b) refl refl (λ p u. refl)

pub natives_compared : (t : Test) (a b : ℤ) → Performs (Shows sort.Bool) (test_primitive Natives t) (Given (IntVal a) ∷ Given (IntVal b) ∷ []) (compares (tested t) (IntVal a) (IntVal b))
natives_compared Equal a b = compared_by _ (tested Equal) (IntVal a) (IntVal b) refl refl (λ p u. ap (λ z. Giving (BoolVal z) u) (sym (same_number a b)))
natives_compared Less a b = compared_by _ (tested Less) (IntVal a) (IntVal b) refl refl (λ p u. refl)
natives_compared AtMost a b = compared_by _ (tested AtMost) (IntVal a) (IntVal b) refl refl (λ p u. refl)

pub texts_compared : (t : Test) (a b : List ℕ) → Performs (Shows sort.Bool) (test_primitive Texts t) (Given (StrVal a) ∷ Given (StrVal b) ∷ []) (compares (tested t) (StrVal a) (StrVal b))
texts_compared Equal a b = compared_by _ (tested Equal) (StrVal a) (StrVal b) refl refl (λ p u. refl)
texts_compared Less a b = compared_by _ (tested Less) (StrVal a) (StrVal b) refl refl (λ p u. ap (λ z. Giving (BoolVal z) u) (text_less_is a b))
texts_compared AtMost a b = compared_by _ (tested AtMost) (StrVal a) (StrVal b) refl refl (λ p u. ap (λ z. Giving (BoolVal (not z)) u) (text_less_is b a))

pub inversion_performs : (b : Bool) → Performs (Shows sort.Bool) (prim.Bool bool.Not) (Given (BoolVal b) ∷ []) (inverts (BoolVal b))
inversion_performs b = performs (Shows sort.Bool) (prim.Bool bool.Not) (Given (BoolVal b) ∷ []) _ (Answers (BoolVal (not b))) tt (λ p w. refl) (refl, (not b, refl)) (λ s. refl)
