-- A short list of numbers as a ledger.
use Rattle.std.proofs.Common.{◌≡◌, refl, sym, ap, subst, ◌∙◌, ℕ, zero, suc, ◌+◌, ◌<◌, ◌≤◌, arith, Bool, true, false, cond, not, ◌==◌, nat_eq, nat_le, nat_lt, List, [], ◌∷◌, length, drop, get_or, Some, None, position, count_by}
use Rattle.std.specs.Prelude.{◌&&◌}
use Rattle.std.specs.List.{position_or_len, insert, remove}
use Rattle.std.proofs.lemmas.Bool.Decides.{nat_tests}
use Rattle.std.proofs.lemmas.List.Recursion.{is_count_by}
use Rattle.c_core.specs.Cells.{same, times}
use Rattle.c_core.specs.Ledgers.{more, without, Ascends, AscendsFrom}
use Rattle.c_core.proofs.CountLemmas.{same_self}
use Rattle.c_core.proofs.LedgerLemmas.{ledgers_ascend}
use Rattle.c_runner_ledger.specs.Ledgers.{is_none, is_only}
use Rattle.c_runner_ledger.proofs.LedgerLemmas.{same_few, not_same, and_false, only_once}

-- ---- one number
same_if : (d c : ℕ) → (d == c) ≡ true → same d c ≡ 1
same_if d c e =
    let equal : d ≡ c = grind (arith, nat_tests, e) in ap (λ z. same z c) equal ∙ same_self c

same_else : (d c : ℕ) → (d == c) ≡ false → same d c ≡ 0
same_else d c e = not_same (same d c) c d refl e

-- ---- how often a number stands there
times_within : (l : List ℕ) (c : ℕ) → times l c ≤ length l
times_within [] c = omega arith
times_within (d ∷ l) c = omega (arith, same_few d c, times_within l c)

counted_either : (b : Bool) (c d n : ℕ) → (d == c) ≡ b → same d c + n ≡ cond b (1 + n) n
counted_either true c d n e = omega (arith, same_if d c e)
counted_either false c d n e = omega (arith, same_else d c e)

pub times_counted : (c : ℕ) (l : List ℕ) → times l c ≡ count_by (λ d. d == c) l
times_counted c l =
    is_count_by (λ ds. times ds c) (λ d. d == c) refl (λ d ds. counted_either (d == c) c d (times ds c) refl) l

-- ---- where a search stops
stops : (n m p : ℕ) (b : Bool) → nat_lt n m ≡ b → Some p ≡ cond b (Some n) None → (p ≡ n) × (n < m)
stops n m p true e found = (cc, grind (arith, nat_tests, e))
stops n m p false e found = absurd (cc)

never : (n m : ℕ) (b : Bool) → nat_lt n m ≡ b → None ≡ cond b (Some n) None → b ≡ false
never n m true e found = absurd (cc)
never n m false e found = refl

-- ---- one more
inserted_either : (b : Bool) (c d n : ℕ) (l : List ℕ) → insert l n c ≡ more c l → insert (d ∷ l) (cond (not b) (1 + n) 0) c ≡ cond b (c ∷ (d ∷ l)) (d ∷ more c l)
inserted_either true c d n l h = refl
inserted_either false c d n l h =
    let next : 1 + n ≡ suc n = omega arith in ap (λ m. insert (d ∷ l) m c) next ∙ ap (λ t. d ∷ t) h

first_not_below : (c : ℕ) (l : List ℕ) → insert l (position_or_len (λ d. nat_le c d) l) c ≡ more c l
first_not_below c [] = refl
first_not_below c (d ∷ l) =
    inserted_either (nat_le c d) c d (position_or_len (λ x. nat_le c x) l) l (first_not_below c l)

pub inserted_at : (c p : ℕ) (l : List ℕ) → Some p ≡ position (λ d. nat_le c d) l → insert l p c ≡ more c l
inserted_at c p l found =
    let n = position_or_len (λ d. nat_le c d) l in
    let at : (p ≡ n) × (n < length l) = stops n (length l) p (nat_lt n (length l)) refl found in
    ap (λ m. insert l m c) at.0 ∙ first_not_below c l

past_either : (b : Bool) (c d n : ℕ) (l : List ℕ) → nat_lt (cond (not b) (1 + n) 0) (length (d ∷ l)) ≡ false → (nat_lt n (length l) ≡ false → more c l ≡ insert l (length l) c) → cond b (c ∷ (d ∷ l)) (d ∷ more c l) ≡ insert (d ∷ l) (length (d ∷ l)) c
past_either true c d n l e h = absurd (grind (arith, nat_tests, e))
past_either false c d n l e h = ap (λ t. d ∷ t) (h (grind (arith, nat_tests, e)))

past_all : (c : ℕ) (l : List ℕ) → nat_lt (position_or_len (λ d. nat_le c d) l) (length l) ≡ false → more c l ≡ insert l (length l) c
past_all c [] e = refl
past_all c (d ∷ l) e =
    past_either (nat_le c d) c d (position_or_len (λ x. nat_le c x) l) l e (past_all c l)

pub inserted_last : (c : ℕ) (l : List ℕ) → None ≡ position (λ d. nat_le c d) l → insert l (length l) c ≡ more c l
inserted_last c l found =
    let n = position_or_len (λ d. nat_le c d) l in sym (past_all c l (never n (length l) (nat_lt n (length l)) refl found))

pub added_to : (c p : ℕ) (l new : List ℕ) → Ascends l → insert l p c ≡ more c l → new ≡ insert l p c → Ascends new × (new ≡ more c l)
added_to c p l new up placed is =
    let same_list = is ∙ placed in (subst Ascends (sym same_list) (ledgers_ascend c l up).0, same_list)

-- ---- one less
removed_either : (b : Bool) (c d n : ℕ) (l : List ℕ) → remove l n ≡ without c l → remove (d ∷ l) (cond (not b) (1 + n) 0) ≡ cond b l (d ∷ without c l)
removed_either true c d n l h = refl
removed_either false c d n l h =
    let next : 1 + n ≡ suc n = omega arith in ap (λ m. remove (d ∷ l) m) next ∙ ap (λ t. d ∷ t) h

first_removed : (c : ℕ) (l : List ℕ) → remove l (position_or_len (λ d. d == c) l) ≡ without c l
first_removed c [] = refl
first_removed c (d ∷ l) =
    removed_either (d == c) c d (position_or_len (λ x. x == c) l) l (first_removed c l)

found_either : (b : Bool) (c d n : ℕ) (l : List ℕ) → (d == c) ≡ b → nat_lt n (length l) ≡ nat_lt 0 (times l c) → nat_lt (cond (not b) (1 + n) 0) (length (d ∷ l)) ≡ nat_lt 0 (times (d ∷ l) c)
found_either true c d n l is h = let one = same_if d c is in grind (arith, nat_tests, one)
found_either false c d n l is h = let none = same_else d c is in grind (arith, nat_tests, none, h)

found_there : (c : ℕ) (l : List ℕ) → nat_lt (position_or_len (λ d. d == c) l) (length l) ≡ nat_lt 0 (times l c)
found_there c [] = refl
found_there c (d ∷ l) =
    found_either (d == c) c d (position_or_len (λ x. x == c) l) l refl (found_there c l)

kept_either : (b : Bool) (c d : ℕ) (l : List ℕ) → (d == c) ≡ b → times (d ∷ l) c ≡ 0 → (times l c ≡ 0 → without c l ≡ l) → cond b l (d ∷ without c l) ≡ d ∷ l
kept_either true c d l is none h = absurd (omega (arith, none, same_if d c is))
kept_either false c d l is none h = ap (λ t. d ∷ t) (h (omega (arith, none)))

kept : (c : ℕ) (l : List ℕ) → times l c ≡ 0 → without c l ≡ l
kept c [] none = refl
kept c (d ∷ l) none = kept_either (d == c) c d l refl none (kept c l)

pub taken_at : (c p : ℕ) (l new : List ℕ) → Ascends l → Some p ≡ position (λ d. d == c) l → new ≡ remove l p → Ascends new × (true ≡ nat_lt 0 (times l c)) × (new ≡ without c l)
taken_at c p l new up found is =
    let n = position_or_len (λ d. d == c) l in
    let at : (p ≡ n) × (n < length l) = stops n (length l) p (nat_lt n (length l)) refl found in
    let there : nat_lt n (length l) ≡ true = grind (arith, nat_tests, at.1) in
    let same_list = is ∙ ap (remove l) at.0 ∙ first_removed c l in
    (subst Ascends (sym same_list) (ledgers_ascend c l up).1, sym there ∙ found_there c l, same_list)

pub not_there : (c : ℕ) (l : List ℕ) → None ≡ position (λ d. d == c) l → (false ≡ nat_lt 0 (times l c)) × (l ≡ without c l)
not_there c l found =
    let n = position_or_len (λ d. d == c) l in
    let past = never n (length l) (nat_lt n (length l)) refl found in
    let none : nat_lt 0 (times l c) ≡ false = sym (found_there c l) ∙ past in
    (sym none, sym (kept c l (grind (arith, nat_tests, none))))

-- ---- one number, and nothing else
some_left : (b : Bool) (d e : ℕ) (l r : List ℕ) → is_none (cond b (e ∷ l) (d ∷ r)) ≡ false
some_left true d e l r = refl
some_left false d e l r = refl

-- the one number that is there
pub sole : (c : ℕ) (l : List ℕ) → length l ≡ 1 → nat_eq (get_or l 0 0) c ≡ is_only c l
sole c [] one = absurd (omega (arith, one))
sole c (d ∷ []) one = only_once d d c (d ∷ []) refl refl
sole c (d ∷ e ∷ l) one = absurd (omega (arith, one))

-- none, or more than one
pub not_sole : (c : ℕ) (l : List ℕ) → (length l ≡ 1 → ⊥) → nat_eq (length l) 1 ≡ is_only c l
not_sole c [] other = refl
not_sole c (d ∷ []) other = absurd (other refl)
not_sole c (d ∷ e ∷ l) other =
    let several : nat_eq (length (d ∷ e ∷ l)) 1 ≡ false = grind (arith, nat_tests) in
    several
    ∙ sym (ap (λ b. nat_lt 0 (times (d ∷ e ∷ l) c) && b) (some_left (d == c) d e l (without c (e ∷ l))) ∙ and_false (nat_lt 0 (times (d ∷ e ∷ l) c)))

-- ---- a list that ascends, from its end on
least : (d : ℕ) (l : List ℕ) → AscendsFrom d l → more d l ≡ d ∷ l
least d [] up = refl
least d (e ∷ l) up =
    let le : nat_le d e ≡ true = grind (arith, nat_tests, up.0) in
    ap (λ b. cond b (d ∷ (e ∷ l)) (e ∷ more d l)) le

more_before : (n i : ℕ) (l : List ℕ) → AscendsFrom n l → i < length l → more (get_or l i 0) (drop (suc i) l) ≡ drop i l
more_before n i [] up lt = absurd (omega (arith, lt))
more_before n zero (d ∷ l) up lt = least d l up.1
more_before n (suc i) (d ∷ l) up lt = more_before d i l up.1 (omega (arith, lt))

pub more_next : (i j : ℕ) (l : List ℕ) → Ascends l → i < length l → j ≡ suc i → more (get_or l i 0) (drop j l) ≡ drop i l
more_next i j l up lt next = ap (λ m. more (get_or l i 0) (drop m l)) next ∙ more_before 0 i l up lt

-- a part of a list is no longer than it
shorter : (i : ℕ) (l : List ℕ) → length (drop i l) ≤ length l
shorter zero l = omega arith
shorter (suc i) [] = omega arith
shorter (suc i) (d ∷ l) = omega (arith, shorter i l)

pub times_in_part : (c i : ℕ) (l part : List ℕ) → part ≡ drop i l → times part c ≤ length l
times_in_part c i l part is = omega (arith, times_within part c, ap length is, shorter i l)
