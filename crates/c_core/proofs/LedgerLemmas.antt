-- What one reference more or less leaves of a ledger: how often each number stands in it, and that the numbers ascend.
use Rattle.std.proofs.Common.{◌≡◌, refl, sym, ap, ℕ, zero, suc, ◌+◌, ◌≤◌, Bool, true, false, cond, ◌==◌, nat_le, List, [], ◌∷◌, length, arith, leb-true, leb-false}
use Rattle.std.proofs.lemmas.Bool.{eqb-true, eqb-false}
use Rattle.c_core.specs.Cells.{same, times}
use Rattle.c_core.specs.Ledgers.{more, more_of, without, AscendsFrom}
use Rattle.c_core.specs.Laws.{LedgersAscend}
use Rattle.c_core.proofs.CountLemmas.{same_one}

more_either : (b : Bool) (c d : ℕ) (l r : List ℕ) (x : ℕ) → times r x ≡ same c x + times l x → times (cond b (c ∷ (d ∷ l)) (d ∷ r)) x ≡ same c x + (same d x + times l x)
more_either true c d l r x e = omega arith
more_either false c d l r x e = omega (arith, e)

pub more-times : (c : ℕ) (l : List ℕ) (x : ℕ) → times (more c l) x ≡ same c x + times l x
more-times c [] x = omega arith
more-times c (d ∷ l) x = more_either (nat_le c d) c d l (more c l) x (more-times c l x)

pub more_of-times : (cs l : List ℕ) (x : ℕ) → times (more_of cs l) x ≡ times cs x + times l x
more_of-times [] l x = omega arith
more_of-times (c ∷ cs) l x = omega (arith, more-times c (more_of cs l) x, more_of-times cs l x)

differ : (k d c : ℕ) → k ≡ same d c → (d ≡ c → ⊥) → k ≡ 0
differ zero d c e other = omega arith
differ (suc n) d c e other = absurd (other (same_one d c n (sym e)))

without_either : (b : Bool) (c d : ℕ) (l : List ℕ) → (d == c) ≡ b → (1 ≤ times l c → (x : ℕ) → times l x ≡ same c x + times (without c l) x) → 1 ≤ times (d ∷ l) c → (x : ℕ) → times (d ∷ l) x ≡ same c x + times (cond b l (d ∷ without c l)) x
without_either true c d l e h le x = omega (arith, ap (λ z. same z x) (eqb-true d c e))
without_either false c d l e h le x =
    let other : same d c ≡ 0 = differ (same d c) d c refl (eqb-false d c e) in omega (arith, h (omega (arith, other, le)) x)

pub without-times : (c : ℕ) (l : List ℕ) → 1 ≤ times l c → (x : ℕ) → times l x ≡ same c x + times (without c l) x
without-times c [] le x = absurd (omega (arith, le))
without-times c (d ∷ l) le x = without_either (d == c) c d l refl (without-times c l) le x

without_shorter : (b : Bool) (c d : ℕ) (l : List ℕ) → (d == c) ≡ b → (1 ≤ times l c → length l ≡ 1 + length (without c l)) → 1 ≤ times (d ∷ l) c → length (d ∷ l) ≡ 1 + length (cond b l (d ∷ without c l))
without_shorter true c d l e h le = omega arith
without_shorter false c d l e h le =
    let other : same d c ≡ 0 = differ (same d c) d c refl (eqb-false d c e) in omega (arith, h (omega (arith, other, le)))

pub without-length : (c : ℕ) (l : List ℕ) → 1 ≤ times l c → length l ≡ 1 + length (without c l)
without-length c [] le = absurd (omega (arith, le))
without-length c (d ∷ l) le = without_shorter (d == c) c d l refl (without-length c l) le

-- ---- the numbers ascend
from_less : (m n : ℕ) (l : List ℕ) → m ≤ n → AscendsFrom n l → AscendsFrom m l
from_less m n [] le up = tt
from_less m n (d ∷ l) le up = (omega (arith, le, up.0), up.1)

more_ascends : (b : Bool) (n c d : ℕ) (l r : List ℕ) → nat_le c d ≡ b → n ≤ c → n ≤ d → AscendsFrom d l → (d ≤ c → AscendsFrom d r) → AscendsFrom n (cond b (c ∷ (d ∷ l)) (d ∷ r))
more_ascends true n c d l r e nc nd up h = (nc, (leb-true c d e, up))
more_ascends false n c d l r e nc nd up h = (nd, h (omega (arith, leb-false c d e)))

more-from : (n c : ℕ) (l : List ℕ) → n ≤ c → AscendsFrom n l → AscendsFrom n (more c l)
more-from n c [] nc up = (nc, tt)
more-from n c (d ∷ l) nc up = more_ascends (nat_le c d) n c d l (more c l) refl nc up.0 up.1 (λ dc. more-from d c l dc up.1)

without_ascends : (b : Bool) (n d : ℕ) (l r : List ℕ) → n ≤ d → AscendsFrom d l → AscendsFrom d r → AscendsFrom n (cond b l (d ∷ r))
without_ascends true n d l r nd up low = from_less n d l nd up
without_ascends false n d l r nd up low = (nd, low)

without-from : (n c : ℕ) (l : List ℕ) → AscendsFrom n l → AscendsFrom n (without c l)
without-from n c [] up = tt
without-from n c (d ∷ l) up = without_ascends (d == c) n d l (without c l) up.0 up.1 (without-from d c l up.1)

pub ledgers_ascend : LedgersAscend
ledgers_ascend c l up = (more-from 0 c l (omega arith) up, without-from 0 c l up)
