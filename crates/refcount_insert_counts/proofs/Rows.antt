-- At which places a row steals.
use Rattle.std.proofs.Common.{◌≡◌, refl, sym, ◌∙◌, ℕ, zero, suc, ◌<◌, ◌≤◌, arith, Bool, true, false, replicate}
use Rattle.std.specs.Prelude.{nat_lt}
use Rattle.std.proofs.lemmas.Bool.{ltb-true, ltb-false}
use Rattle.c_core.specs.declared.code.Kind.TheVariants.{Object}
use Rattle.c_core.specs.declared.primitive.Primitive.TheVariants as prim
use Rattle.c_core.specs.declared.primitive.TuplePrim.TheVariants as tuple
use Rattle.c_core.specs.Primitives.{Is, Anything, MaySteal, row_of}
use Rattle.refcount_insert_counts.specs.Counts.{steals_at}

steal_within : (n i : ℕ) → i < n → steals_at (replicate n (MaySteal (Is Object) Anything)) i ≡ true
steal_within zero i l = absurd (omega (arith, l))
steal_within (suc n) zero l = refl
steal_within (suc n) (suc i) l = steal_within n i (omega (arith, l))

steal_past : (n i : ℕ) → n ≤ i → steals_at (replicate n (MaySteal (Is Object) Anything)) i ≡ false
steal_past zero i l = refl
steal_past (suc n) zero l = absurd (omega (arith, l))
steal_past (suc n) (suc i) l = steal_past n i (omega (arith, l))

pub pack_steals : (i : ℕ) → nat_lt i 16 ≡ steals_at (row_of (prim.Tuple tuple.Pack)).parameters i
pack_steals zero = refl
pack_steals (suc i) = by (nat_lt (suc i) 16) refl
  where
    by : (b : Bool) → nat_lt (suc i) 16 ≡ b → b ≡ steals_at (replicate 15 (MaySteal (Is Object) Anything)) i
    by true e = sym (steal_within 15 i (omega (arith, ltb-true (suc i) 16 e)))
    by false e = sym (steal_past 15 i (omega (arith, ltb-false (suc i) 16 e)))
