-- What the items of a list refer to, as one more is put behind them, one is written over, or the last one is taken out; and what the
-- pairs of a dict refer to, as one more is put behind them, one is written over, or one is taken out.
use Rattle.std.proofs.Common.{◌≡◌, ap, ℕ, zero, suc, ◌+◌, ◌-◌, ◌≤◌, arith, Bool, true, false, cond, List, [], ◌∷◌, ◌++◌, length, take, drop, Some, None}
use Rattle.std.specs.Prelude.{nat_lt, negsuc, slice_get, slice_set}
use Rattle.value_core.specs.Characters.{place_of}
use Rattle.c_core.specs.Cells.{times}
use Rattle.c_core.specs.Machine.{Word, refs_of, refs, pair_refs}
use Rattle.c_core.proofs.ReleaseLemmas.{times-append}

pub refs-append : (xs ys : List Word) (d : ℕ) → times (refs (xs ++ ys)) d ≡ times (refs xs) d + times (refs ys) d
refs-append [] ys d = omega arith
refs-append (x ∷ xs) ys d =
    omega (arith, refs-append xs ys d, times-append (refs_of x) (refs (xs ++ ys)) d, times-append (refs_of x) (refs xs) d)

pub refs-one : (x : Word) (d : ℕ) → times (refs (x ∷ [])) d ≡ times (refs_of x) d
refs-one x d = omega (arith, times-append (refs_of x) [] d)

pub refs-at : (xs : List Word) (i : ℕ) (x : Word) (d : ℕ) → slice_get xs i ≡ Some x → times (refs_of x) d ≤ times (refs xs) d
refs-at [] i x d e = cc
refs-at (y ∷ ys) zero x d e =
    let same_word : y ≡ x = cc in omega (arith, ap (λ z. times (refs_of z) d) same_word, times-append (refs_of y) (refs ys) d)
refs-at (y ∷ ys) (suc i) x d e = omega (arith, refs-at ys i x d e, times-append (refs_of y) (refs ys) d)

pub refs-set : (xs : List Word) (i : ℕ) (old new : Word) (d : ℕ) → slice_get xs i ≡ Some old → times (refs (slice_set xs i new)) d + times (refs_of old) d ≡ times (refs xs) d + times (refs_of new) d
refs-set [] i old new d e = cc
refs-set (y ∷ ys) zero old new d e =
    let same_word : y ≡ old = cc in
    omega (arith, ap (λ z. times (refs_of z) d) same_word, times-append (refs_of y) (refs ys) d, times-append (refs_of new) (refs ys) d)
refs-set (y ∷ ys) (suc i) old new d e =
    omega (arith, refs-set ys i old new d e, times-append (refs_of y) (refs ys) d, times-append (refs_of y) (refs (slice_set ys i new)) d)

pub refs-last : (xs : List Word) (i : ℕ) (x : Word) (d : ℕ) → slice_get xs i ≡ Some x → suc i ≡ length xs → times (refs (take i xs)) d + times (refs_of x) d ≡ times (refs xs) d
refs-last [] i x d e l = cc
refs-last (y ∷ []) zero x d e l =
    let same_word : y ≡ x = cc in omega (arith, ap (λ z. times (refs_of z) d) same_word, times-append (refs_of y) [] d)
refs-last (y ∷ z ∷ ys) zero x d e l = absurd (omega (arith, l))
refs-last (y ∷ ys) (suc i) x d e l =
    omega (arith, refs-last ys i x d e (omega (arith, l)), times-append (refs_of y) (refs ys) d, times-append (refs_of y) (refs (take i ys)) d)

-- the last place
last_by : (b : Bool) (n i : ℕ) → cond b (Some (suc n - suc 0)) None ≡ Some i → suc i ≡ suc n
last_by true n i e = let same_place : suc n - suc 0 ≡ i = cc in omega (arith, same_place)
last_by false n i e = cc

pub last_place : (n i : ℕ) → place_of n (negsuc 0) ≡ Some i → suc i ≡ n
last_place zero i e = cc
last_place (suc n) i e = last_by (nat_lt 0 (suc n)) n i e

-- ---- pairs
-- how often a pair refers to a cell
abbrev pair_times : Word × Word → ℕ → ℕ
pair_times p d = times (refs_of p.0) d + times (refs_of p.1) d

pairs-step : (p : Word × Word) (ps : List (Word × Word)) (d : ℕ) → times (pair_refs (p ∷ ps)) d ≡ times (refs_of p.0) d + times (refs_of p.1) d + times (pair_refs ps) d
pairs-step p ps d = omega (arith, times-append (refs_of p.0) (refs_of p.1 ++ pair_refs ps) d, times-append (refs_of p.1) (pair_refs ps) d)

pub pairs-append : (ps qs : List (Word × Word)) (d : ℕ) → times (pair_refs (ps ++ qs)) d ≡ times (pair_refs ps) d + times (pair_refs qs) d
pairs-append [] qs d = omega arith
pairs-append (p ∷ ps) qs d = omega (arith, pairs-append ps qs d, pairs-step p (ps ++ qs) d, pairs-step p ps d)

pub pairs-one : (p : Word × Word) (d : ℕ) → times (pair_refs (p ∷ [])) d ≡ times (refs_of p.0) d + times (refs_of p.1) d
pairs-one p d = omega (arith, pairs-step p [] d)

pub pairs-at : (ps : List (Word × Word)) (i : ℕ) (p : Word × Word) (d : ℕ) → slice_get ps i ≡ Some p → times (refs_of p.0) d + times (refs_of p.1) d ≤ times (pair_refs ps) d
pairs-at [] i p d e = cc
pairs-at (q ∷ qs) zero p d e =
    let same_pair : q ≡ p = cc in omega (arith, ap (λ z. pair_times z d) same_pair, pairs-step q qs d)
pairs-at (q ∷ qs) (suc i) p d e = omega (arith, pairs-at qs i p d e, pairs-step q qs d)

pub pairs-set : (ps : List (Word × Word)) (i : ℕ) (old new : Word × Word) (d : ℕ) → slice_get ps i ≡ Some old → times (pair_refs (slice_set ps i new)) d + (times (refs_of old.0) d + times (refs_of old.1) d) ≡ times (pair_refs ps) d + (times (refs_of new.0) d + times (refs_of new.1) d)
pairs-set [] i old new d e = cc
pairs-set (q ∷ qs) zero old new d e =
    let same_pair : q ≡ old = cc in omega (arith, ap (λ z. pair_times z d) same_pair, pairs-step q qs d, pairs-step new qs d)
pairs-set (q ∷ qs) (suc i) old new d e =
    omega (arith, pairs-set qs i old new d e, pairs-step q qs d, pairs-step q (slice_set qs i new) d)

pub pairs-cut : (ps : List (Word × Word)) (i : ℕ) (p : Word × Word) (d : ℕ) → slice_get ps i ≡ Some p → times (pair_refs (take i ps ++ drop (suc i) ps)) d + (times (refs_of p.0) d + times (refs_of p.1) d) ≡ times (pair_refs ps) d
pairs-cut [] i p d e = cc
pairs-cut (q ∷ qs) zero p d e =
    let same_pair : q ≡ p = cc in omega (arith, ap (λ z. pair_times z d) same_pair, pairs-step q qs d)
pairs-cut (q ∷ qs) (suc i) p d e =
    omega (arith, pairs-cut qs i p d e, pairs-step q qs d, pairs-step q (take i qs ++ drop (suc i) qs) d)
