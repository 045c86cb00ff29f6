-- How often registers stand in lists: of each as often as a function says, or once where something holds of it.
use Rattle.std.proofs.Common.{◌≡◌, ℕ, zero, suc, ◌+◌, ◌-◌, ◌<◌, ◌≤◌, ◌⊎◌, Bool, true, false, not, List, [], ◌∷◌, ◌++◌, take, length, get_or, Option, Some, refl, sym, ap, ◌∙◌, inl, inr, ⊎_elim, subst, arith}
use Rattle.std.specs.Prelude.{◌||◌, cond, nat_eq, replicate, slice_get}
use Rattle.std.proofs.Math.Seq.{take-suc}
use Rattle.std.proofs.lemmas.Option.{same_Some, slice_get-get_or}
use Rattle.std.proofs.lemmas.List.Folds.{list_any-append}
use Rattle.c_core.specs.Cells.{same, times}
use Rattle.c_core.proofs.CountLemmas.{same_self}
use Rattle.c_core.proofs.ReleaseLemmas.{times-append}
use Rattle.c_core.specs.Primitives.{Parameter}
use Rattle.ir_core.specs.declared.code.Reg.{Reg}
use Rattle.ir_core.specs.declared.code.PArg.{PArg}
use Rattle.ir_core.specs.declared.code.PArg.TheVariants as arg
use Rattle.c_core_ownership_laws.specs.Shares.{one_if}
use Rattle.liveness.specs.Paths.{is_among, is_target}
use Rattle.liveness.specs.Rising.{IsRising}
use Rattle.liveness.proofs.RisingLemmas.{eq_tells, eq_same}
use Rattle.refcount_insert_rule.specs.Rule.{is_stolen, takes_one, taken, given_up, AreSure, AreUnsure}
use Rattle.refcount_insert_counts.specs.Counts.{many, is_either, steals_at, AreOnce, AreEach, AreOf}

-- ---- equal numbers

pub same_differs : (x r : ℕ) → (x ≡ r → ⊥) → same x r ≡ 0
same_differs zero zero n = absurd (n refl)
same_differs zero (suc r) n = refl
same_differs (suc x) zero n = refl
same_differs (suc x) (suc r) n = same_differs x r (λ e. n (ap suc e))

pub same_cases : (x r : ℕ) → ((x ≡ r) × (same x r ≡ 1) × (nat_eq x r ≡ true)) ⊎ ((same x r ≡ 0) × (nat_eq x r ≡ false))
same_cases x r =
    ⊎_elim (λ h. inl (h.1, ap (same x) (sym h.1) ∙ same_self x, h.0)) (λ h. inr (same_differs x r h.1, h.0)) (eq_tells x r)

pub same_is : (x r : ℕ) → same x r ≡ one_if (nat_eq x r)
same_is x r =
    ⊎_elim (λ h. h.1 ∙ sym (ap one_if h.2)) (λ h. h.0 ∙ sym (ap one_if h.1)) (same_cases x r)

-- ---- many times a number

many_add : (a b m : ℕ) → many (a + b) m ≡ many a m + many b m
many_add zero b m = let e : 0 + b ≡ b = omega arith in ap (λ z. many z m) e ∙ omega arith
many_add (suc a) b m =
    let e : suc a + b ≡ suc (a + b) = omega arith in
    let h = many_add a b m in
    ap (λ z. many z m) e ∙ omega (arith, h)

many_one : (m : ℕ) → many 1 m ≡ m
many_one m = omega arith

pub many_if : (b : Bool) (m : ℕ) → many (one_if b) m ≡ cond b m 0
many_if true m = many_one m
many_if false m = refl

times_none : (n x r : ℕ) → same x r ≡ 0 → times (replicate n x) r ≡ 0
times_none zero x r e = refl
times_none (suc n) x r e = let h = times_none n x r e in omega (arith, e, h)

times_all : (n x r : ℕ) → same x r ≡ 1 → times (replicate n x) r ≡ n
times_all zero x r e = refl
times_all (suc n) x r e = let h = times_all n x r e in omega (arith, e, h)

-- ---- one more

times_one : (xs : List ℕ) (x r : ℕ) → times (xs ++ x ∷ []) r ≡ times xs r + same x r
times_one xs x r = let h = times-append xs (x ∷ []) r in omega (arith, h)

-- a register and its counts
pub each_more : (k : ℕ → ℕ) (all rs : List ℕ) (x n : ℕ) → AreEach k all rs → n ≡ k x → AreEach k (all ++ x ∷ []) (rs ++ replicate n x)
each_more k all rs x n each is r =
    let more = times-append rs (replicate n x) r in
    let split : many (times (all ++ x ∷ []) r) (k r) ≡ many (times all r) (k r) + many (same x r) (k r) =
    ap (λ z. many z (k r)) (times_one all x r) ∙ many_add (times all r) (same x r) (k r) in
    let h = each r in
    ⊎_elim
    (λ e.
    let last : many (same x r) (k r) ≡ k r = ap (λ z. many z (k r)) e.1 ∙ many_one (k r) in
    let new = times_all n x r e.1 in
    let m : n ≡ k r = is ∙ ap k e.0 in
    omega (arith, more, split, h, last, new, m))
    (λ e.
    let last : many (same x r) (k r) ≡ 0 = ap (λ z. many z (k r)) e.0 in
    let new = times_none n x r e.0 in
    omega (arith, more, split, h, last, new))
    (same_cases x r)

-- the same at the next place of a list
pub each_step : (k : ℕ → ℕ) (all : List ℕ) (i n : ℕ) (rs new : List ℕ) → i < length all → AreEach k (take i all) rs → n ≡ k (get_or all i 0) → new ≡ rs ++ replicate n (get_or all i 0) → AreEach k (take (i + 1) all) new
each_step k all i n rs new lt each is pushed =
    let e : suc i ≡ i + 1 = omega arith in
    subst (AreEach k (take (i + 1) all)) (sym pushed) (subst (λ z. AreEach k z (rs ++ replicate n (get_or all i 0))) (sym (take-suc all i 0 lt) ∙ ap (λ z. take z all) e) (each_more k (take i all) rs (get_or all i 0) n each is))

-- of what stands there once, each as often as a function says
pub each_of : (is : ℕ → Bool) (k : ℕ → ℕ) (all rs : List ℕ) → AreOnce is all → AreEach k all rs → AreOf is k rs
each_of is k all rs once each r = each r ∙ ap (λ z. many z (k r)) (once r) ∙ many_if (is r) (k r)

-- ---- once

pub among_none : (xs : List ℕ) (r : ℕ) → times xs r ≡ 0 → is_among xs r ≡ false
among_none [] r e = refl
among_none (x ∷ xs) r e =
    ⊎_elim (λ h. absurd (omega (arith, e, h.1))) (λ h. ap (λ z. z || is_among xs r) h.1 ∙ among_none xs r (omega (arith, e))) (same_cases x r)

pub among_some : (xs : List ℕ) (r : ℕ) → 1 ≤ times xs r → is_among xs r ≡ true
among_some [] r le = absurd (omega (arith, le))
among_some (x ∷ xs) r le =
    ⊎_elim (λ h. ap (λ z. z || is_among xs r) h.2) (λ h. ap (λ z. z || is_among xs r) h.1 ∙ among_some xs r (omega (arith, le, h.0))) (same_cases x r)

-- what stands there once is among them
pub once_among : (is : ℕ → Bool) (all : List ℕ) → AreOnce is all → (r : ℕ) → is_among all r ≡ is r
once_among is all once r = which (is r) refl
  where
    which : (b : Bool) → is r ≡ b → is_among all r ≡ is r
    which true e = among_some all r (let h : times all r ≡ 1 = once r ∙ ap one_if e in omega (arith, h)) ∙ sym e
    which false e = among_none all r (once r ∙ ap one_if e) ∙ sym e

or_true : (b : Bool) → (b || true) ≡ true
or_true true = refl
or_true false = refl

pub or_false : (b : Bool) → (b || false) ≡ b
or_false true = refl
or_false false = refl

pub or_assoc : (a b c : Bool) → ((a || b) || c) ≡ (a || (b || c))
or_assoc true b c = refl
or_assoc false b c = refl

-- one that was not there
pub once_new : (is now : ℕ → Bool) (all : List ℕ) (x : ℕ) → ((r : ℕ) → now r ≡ (is r || nat_eq x r)) → is x ≡ false → AreOnce is all → AreOnce now (all ++ x ∷ [])
once_new is now all x more off once r =
    let more_times = times_one all x r in
    let h = once r in
    ⊎_elim
    (λ e.
    let was : is r ≡ false = ap is (sym e.0) ∙ off in
    let none : times all r ≡ 0 = h ∙ ap one_if was in
    let one : one_if (now r) ≡ 1 = ap one_if (more r ∙ ap (λ z. is r || z) e.2 ∙ or_true (is r)) in
    omega (arith, more_times, none, one, e.1))
    (λ e.
    let stays : one_if (now r) ≡ one_if (is r) = ap one_if (more r ∙ ap (λ z. is r || z) e.1 ∙ or_false (is r)) in
    omega (arith, more_times, h, stays, e.0))
    (same_cases x r)

-- one that was
pub once_old : (is now : ℕ → Bool) (all : List ℕ) (x : ℕ) → ((r : ℕ) → now r ≡ (is r || nat_eq x r)) → is x ≡ true → AreOnce is all → AreOnce now all
once_old is now all x more on once r =
    once r ∙ ap one_if (sym (⊎_elim
    (λ e. more r ∙ ap (λ z. is r || z) e.2 ∙ or_true (is r) ∙ sym (ap is (sym e.0) ∙ on))
    (λ e. more r ∙ ap (λ z. is r || z) e.1 ∙ or_false (is r))
    (same_cases x r)))

-- one that is put there unless it was
pub once_put : (is now : ℕ → Bool) (all : List ℕ) (x : ℕ) (b : Bool) → ((r : ℕ) → now r ≡ (is r || nat_eq x r)) → is x ≡ b → AreOnce is all → AreOnce now (cond b all (all ++ x ∷ []))
once_put is now all x true more on once = once_old is now all x more on once
once_put is now all x false more off once = once_new is now all x more off once

pub once_one : (x : ℕ) → AreOnce (nat_eq x) (x ∷ [])
once_one x r = let h = same_is x r in omega (arith, h)

-- the numbers of which something else holds in the same cases
pub once_same : (is now : ℕ → Bool) (all : List ℕ) → ((r : ℕ) → now r ≡ is r) → AreOnce is all → AreOnce now all
once_same is now all e once r = once r ∙ ap one_if (sym (e r))

-- among one more
pub among_more : (xs : List ℕ) (x r : ℕ) → is_among (xs ++ x ∷ []) r ≡ (is_among xs r || nat_eq x r)
among_more xs x r =
    list_any-append (λ s. nat_eq s r) xs (x ∷ []) ∙ ap (λ z. is_among xs r || z) (or_false (nat_eq x r))

pub among_step : (xs : List ℕ) (i r : ℕ) → i < length xs → is_among (take (i + 1) xs) r ≡ (is_among (take i xs) r || nat_eq (get_or xs i 0) r)
among_step xs i r lt =
    let e : suc i ≡ i + 1 = omega arith in
    ap (λ z. is_among (take z xs) r) (sym e) ∙ ap (λ z. is_among z r) (take-suc xs i 0 lt) ∙ among_more (take i xs) (get_or xs i 0) r

pub times_step : (xs : List ℕ) (i r count more : ℕ) → i < length xs → count ≡ times (take i xs) r → more ≡ same (get_or xs i 0) r → count + more ≡ times (take (i + 1) xs) r
times_step xs i r count more lt so_far one =
    let e : suc i ≡ i + 1 = omega arith in
    let h = times_one (take i xs) (get_or xs i 0) r in
    omega (arith, so_far, one, h) ∙ ap (λ z. times z r) (sym (take-suc xs i 0 lt)) ∙ ap (λ z. times (take z xs) r) e

-- the registers that an operation touches, or an end
pub either_step : (t : Option ℕ) (xs : List ℕ) (i r : ℕ) → i < length xs → is_either t (take (i + 1) xs) r ≡ (is_either t (take i xs) r || nat_eq (get_or xs i 0) r)
either_step t xs i r lt =
    ap (λ z. is_target t r || z) (among_step xs i r lt) ∙ sym (or_assoc (is_target t r) (is_among (take i xs) r) (nat_eq (get_or xs i 0) r))

pub both_step : (row xs : List ℕ) (i r : ℕ) → i < length xs → (is_among row r || is_among (take (i + 1) xs) r) ≡ ((is_among row r || is_among (take i xs) r) || nat_eq (get_or xs i 0) r)
both_step row xs i r lt =
    ap (λ z. is_among row r || z) (among_step xs i r lt) ∙ sym (or_assoc (is_among row r) (is_among (take i xs) r) (nat_eq (get_or xs i 0) r))

-- the registers that are given up
pub given_more : (ds : List (ℕ × Bool)) (n x : ℕ) (s : Bool) → given_up (ds ++ replicate n (x, s)) ≡ given_up ds ++ replicate n x
given_more [] zero x s = refl
given_more [] (suc n) x s = ap (λ z. x ∷ z) (given_more [] n x s)
given_more (d ∷ ds) n x s = ap (λ z. d.0 ∷ z) (given_more ds n x s)

pub sure_more : (t : Option ℕ) (ds : List (ℕ × Bool)) (n x : ℕ) (s : Bool) → s ≡ not (is_target t x) → AreSure t ds → AreSure t (ds ++ replicate n (x, s))
sure_more t [] zero x s e sure = tt
sure_more t [] (suc n) x s e sure = (e, sure_more t [] n x s e tt)
sure_more t (d ∷ ds) n x s e sure = (sure.0, sure_more t ds n x s e sure.1)

pub unsure_more : (ds : List (ℕ × Bool)) (n x : ℕ) → AreUnsure ds → AreUnsure (ds ++ replicate n (x, false))
unsure_more [] zero x unsure = tt
unsure_more [] (suc n) x unsure = (refl, unsure_more [] n x tt)
unsure_more (d ∷ ds) n x unsure = (unsure.0, unsure_more ds n x unsure.1)

-- ---- rising numbers

tail_rising : (x : ℕ) (xs : List ℕ) → IsRising (x ∷ xs) → IsRising xs
tail_rising x xs rising i j lt within = rising (suc i) (suc j) (omega (arith, lt)) (omega (arith, within))

all_above : (xs : List ℕ) (x r : ℕ) → ((j : ℕ) → j < length xs → x < get_or xs j 0) → is_among xs r ≡ true → nat_eq x r ≡ false
all_above [] x r above e = let f : false ≡ true = e in absurd (cc)
all_above (y ∷ xs) x r above e =
    ⊎_elim
    (λ h.
    let first : x < y = above 0 (omega arith) in
    ⊎_elim (λ k. absurd (omega (arith, first, h.0, k.0))) (λ k. k.1) (same_cases x r))
    (λ h. all_above xs x r (λ j lt. above (suc j) (omega (arith, lt))) (ap (λ z. z || is_among xs r) (sym h.1) ∙ e))
    (same_cases y r)

head_above : (x : ℕ) (xs : List ℕ) → IsRising (x ∷ xs) → (r : ℕ) → is_among xs r ≡ true → nat_eq x r ≡ false
head_above x xs rising r =
    all_above xs x r (λ j lt. rising 0 (suc j) (omega arith) (omega (arith, lt)))

-- they stand there once each
pub rising_once : (xs : List ℕ) → IsRising xs → AreOnce (is_among xs) xs
rising_once [] rising r = refl
rising_once (x ∷ xs) rising r =
    let h = rising_once xs (tail_rising x xs rising) r in
    ⊎_elim
    (λ e.
    let off : is_among xs r ≡ false = lacks (is_among xs r) refl e.2 in
    let none : times xs r ≡ 0 = h ∙ ap one_if off in
    let one : one_if (is_among (x ∷ xs) r) ≡ 1 = ap (λ z. one_if (z || is_among xs r)) e.2 in
    omega (arith, none, one, e.1))
    (λ e.
    let stays : one_if (is_among (x ∷ xs) r) ≡ one_if (is_among xs r) = ap (λ z. one_if (z || is_among xs r)) e.1 in
    omega (arith, h, stays, e.0))
    (same_cases x r)
  where
    lacks : (b : Bool) → is_among xs r ≡ b → nat_eq x r ≡ true → is_among xs r ≡ false
    lacks true e on = let off : nat_eq x r ≡ false = head_above x xs rising r e in absurd (cc)
    lacks false e on = e

there_among : (xs : List ℕ) (i y : ℕ) → slice_get xs i ≡ Some y → is_among xs y ≡ true
there_among [] i y e = absurd (cc)
there_among (x ∷ xs) zero y e =
    let h : x ≡ y = same_Some _ _ e in
    ap (λ z. nat_eq z y || is_among xs y) h ∙ ap (λ z. z || is_among xs y) (eq_same y)
there_among (x ∷ xs) (suc i) y e = ap (λ z. nat_eq x y || z) (there_among xs i y e) ∙ or_true (nat_eq x y)

-- and none stands among those before it
pub rising_fresh : (xs : List ℕ) (i y : ℕ) → IsRising xs → slice_get xs i ≡ Some y → is_among (take i xs) y ≡ false
rising_fresh [] i y rising e = absurd (cc)
rising_fresh (x ∷ xs) zero y rising e = refl
rising_fresh (x ∷ xs) (suc i) y rising e =
    ap (λ z. z || is_among (take i xs) y) (head_above x xs rising y (there_among xs i y e)) ∙ rising_fresh xs i y (tail_rising x xs rising) e

fresh_at : (xs : List ℕ) (i : ℕ) → IsRising xs → i < length xs → is_among (take i xs) (get_or xs i 0) ≡ false
fresh_at xs i rising lt = rising_fresh xs i (get_or xs i 0) rising (slice_get-get_or xs i 0 lt)

-- so one of a second row is there only where it stands in the first
pub row_fresh : (row xs : List ℕ) (i : ℕ) (b : Bool) → IsRising xs → i < length xs → b ≡ is_among row (get_or xs i 0) → (is_among row (get_or xs i 0) || is_among (take i xs) (get_or xs i 0)) ≡ b
row_fresh row xs i b rising lt is =
    ap (λ z. is_among row (get_or xs i 0) || z) (fresh_at xs i rising lt) ∙ or_false (is_among row (get_or xs i 0)) ∙ sym is

pub ahead_step : (row ys all new : List ℕ) (i : ℕ) (b : Bool) → IsRising ys → i < length ys → b ≡ is_among row (get_or ys i 0) → new ≡ cond b all (all ++ get_or ys i 0 ∷ []) → AreOnce (λ r. is_among row r || is_among (take i ys) r) all → AreOnce (λ r. is_among row r || is_among (take (i + 1) ys) r) new
ahead_step row ys all new i b rising lt is pushed once =
    subst (AreOnce (λ r. is_among row r || is_among (take (i + 1) ys) r)) (sym pushed) (once_put (λ r. is_among row r || is_among (take i ys) r) (λ r. is_among row r || is_among (take (i + 1) ys) r) all (get_or ys i 0) b (λ r. both_step row ys i r lt) (row_fresh row ys i b rising lt is) once)

take_all : (xs : List ℕ) (i : ℕ) → length xs ≤ i → take i xs ≡ xs
take_all [] zero le = refl
take_all [] (suc i) le = refl
take_all (x ∷ xs) zero le = absurd (omega (arith, le))
take_all (x ∷ xs) (suc i) le = ap (λ z. x ∷ z) (take_all xs i (omega (arith, le)))

-- both rows, and what is tested
pub ahead_end : (row ys all new : List ℕ) (i x : ℕ) (b : Bool) → length ys ≤ i → b ≡ (is_among row x || is_among ys x) → new ≡ cond b all (all ++ x ∷ []) → AreOnce (λ r. is_among row r || is_among (take i ys) r) all → AreOnce (λ r. is_among row r || (is_among ys r || nat_eq x r)) new
ahead_end row ys all new i x b le is pushed once =
    let all_of : AreOnce (λ r. is_among row r || is_among ys r) all = subst (λ z. AreOnce (λ r. is_among row r || is_among z r) all) (take_all ys i le) once in
    subst (AreOnce (λ r. is_among row r || (is_among ys r || nat_eq x r))) (sym pushed) (once_put (λ r. is_among row r || is_among ys r) (λ r. is_among row r || (is_among ys r || nat_eq x r)) all x b (λ r. sym (or_assoc (is_among row r) (is_among ys r) (nat_eq x r))) (sym is) all_of)

pub touched_step : (t : Option ℕ) (xs all new : List ℕ) (i : ℕ) (b : Bool) → i < length xs → b ≡ is_among all (get_or xs i 0) → new ≡ cond b all (all ++ get_or xs i 0 ∷ []) → AreOnce (is_either t (take i xs)) all → AreOnce (is_either t (take (i + 1) xs)) new
touched_step t xs all new i b lt is pushed once =
    subst (AreOnce (is_either t (take (i + 1) xs))) (sym pushed) (once_put (is_either t (take i xs)) (is_either t (take (i + 1) xs)) all (get_or xs i 0) b (λ r. either_step t xs i r lt) (sym (once_among (is_either t (take i xs)) all once (get_or xs i 0)) ∙ sym is) once)

pub touched_first : (t : Option ℕ) (all : List ℕ) → AreOnce (is_target t) all → AreOnce (is_either t []) all
touched_first t all once =
    once_same (is_target t) (is_either t []) all (λ r. or_false (is_target t r)) once

-- ---- what is stolen, and what is returned

pub stolen_one : (xs new : List ℕ) (a : PArg) (s : Reg) (b : Bool) → a ≡ arg.Var s → b ≡ true → new ≡ xs ++ s.0 ∷ [] → (r : ℕ) → times new r ≡ times xs r + takes_one b a r
stolen_one xs new a s b is on pushed r =
    ap (λ z. times z r) pushed ∙ times_one xs s.0 r ∙ sym (ap (λ z. times xs r + takes_one z a r) on ∙ ap (λ z. times xs r + takes_one true z r) is)

taken_none : (ps : List Parameter) (r : ℕ) → taken ps [] r ≡ 0
taken_none [] r = refl
taken_none (p ∷ ps) r = refl

taken_suc : (ps : List Parameter) (args : List PArg) (i : ℕ) (a : PArg) (r : ℕ) → slice_get args i ≡ Some a → taken ps (take (suc i) args) r ≡ taken ps (take i args) r + takes_one (steals_at ps i) a r
taken_suc ps [] i a r e = absurd (cc)
taken_suc [] (x ∷ args) zero a r e = omega arith
taken_suc [] (x ∷ args) (suc i) a r e = omega arith
taken_suc (p ∷ ps) (x ∷ args) zero a r e =
    let same : x ≡ a = same_Some _ _ e in
    let none = taken_none ps r in
    ap (λ z. takes_one (is_stolen p) z r + taken ps [] r) same ∙ omega (arith, none)
taken_suc (p ∷ ps) (x ∷ args) (suc i) a r e = let h = taken_suc ps args i a r e in omega (arith, h)

pub stolen_step : (ps : List Parameter) (args : List PArg) (i : ℕ) (a : PArg) (b : Bool) (xs new : List ℕ) → slice_get args i ≡ Some a → b ≡ steals_at ps i → ((r : ℕ) → times xs r ≡ taken ps (take i args) r) → ((r : ℕ) → times new r ≡ times xs r + takes_one b a r) → (r : ℕ) → times new r ≡ taken ps (take (i + 1) args) r
stolen_step ps args i a b xs new there is so_far more r =
    let e : suc i ≡ i + 1 = omega arith in
    more r ∙ ap (λ z. z + takes_one b a r) (so_far r) ∙ ap (λ z. taken ps (take i args) r + takes_one z a r) is ∙ sym (taken_suc ps args i a r there) ∙ ap (λ z. taken ps (take z args) r) e

cond_none : (b : Bool) (n : ℕ) → n ≡ 0 → cond b n 0 ≡ 0
cond_none true n e = e
cond_none false n e = refl

pub returned_is : (counted : ℕ → Bool) (have : ℕ → ℕ) (x n : ℕ) (rs : List ℕ) → n ≡ cond (counted x) (1 - have x) 0 → rs ≡ replicate n x → (r : ℕ) → times rs r ≡ cond (counted r) (same x r - have r) 0
returned_is counted have x n rs short is r =
    ap (λ z. times z r) is ∙ ⊎_elim
    (λ e. times_all n x r e.1 ∙ short ∙ ap (λ z. cond (counted z) (1 - have z) 0) e.0 ∙ ap (λ z. cond (counted r) (z - have r) 0) (sym e.1))
    (λ e. let none : same x r - have r ≡ 0 = omega (arith, e.0) in times_none n x r e.0 ∙ sym (cond_none (counted r) (same x r - have r) none))
    (same_cases x r)
