-- Numbers with how often each stands there further, as a ledger.
use Rattle.std.proofs.Common.{◌≡◌, refl, sym, ap, ◌∙◌, ℕ, zero, suc, ◌+◌, ◌<◌, ◌≤◌, ◌↔◌, arith, add-one, Bool, true, false, cond, ◌==◌, nat_eq, nat_le, nat_lt, replicate, List, [], ◌∷◌, ◌++◌, length, Option, Some, None}
use Rattle.std.specs.Prelude.{◌&&◌}
use Rattle.std.specs.List.{AllByRecursion}
use Rattle.std.specs.List.Sorted.{IsStrictlySortedBy}
use Rattle.std.specs.Ordering.{nat_cmp, match_ordering}
use Rattle.std.specs.declared.cmp.Ordering.{Ordering}
use Rattle.std.specs.declared.cmp.Ordering.TheVariants.{Less, Equal, Greater}
use Rattle.std.specs.BTreeMap.{is_at, insert_entry}
use Rattle.std.specs.Map.{keys_of, lookup, remove_entry, set_value}
use Rattle.std.proofs.lemmas.Bool.Decides.{nat_tests}
use Rattle.std.proofs.lemmas.Map.Keys.{sorted_head, sorted_tail}
use Rattle.c_core.specs.Cells.{same, times}
use Rattle.c_core.specs.Ledgers.{more, without}
use Rattle.c_core.proofs.CountLemmas.{same_one, same_self}
use Rattle.c_runner_ledger.specs.Ledgers.{numbers_of, is_none, is_only}

-- how often a number stands further, where it stands at all
abbrev pub further : ℕ → List (ℕ × ℕ) → Option ℕ
further c es = lookup (is_at (nat_cmp c)) es

-- how often it stands
abbrev pub standing : Option ℕ → ℕ
standing None = 0
standing (Some n) = n + 1

-- ---- two numbers
is_less : (c d : ℕ) → nat_cmp c d ≡ Less → nat_le c d ≡ true
is_less c d e = grind (arith, nat_tests, e)

less_than : (c d : ℕ) → nat_cmp c d ≡ Less → c < d
less_than c d e = grind (arith, nat_tests, e)

is_equal : (c d : ℕ) → nat_cmp c d ≡ Equal → c ≡ d
is_equal c d e = grind (arith, nat_tests, e)

is_greater : (c d : ℕ) → nat_cmp c d ≡ Greater → d < c
is_greater c d e = grind (arith, nat_tests, e)

at_is : (c d : ℕ) → is_at (nat_cmp c) d ≡ true → d ≡ c
at_is c d e = grind (arith, nat_tests, e)

at_same : (c d : ℕ) → is_at (nat_cmp c) d ≡ true → (d == c) ≡ true
at_same c d e = grind (arith, nat_tests, e)

at_other : (c d : ℕ) → is_at (nat_cmp c) d ≡ false → (d == c) ≡ false
at_other c d e = grind (arith, nat_tests, e)

at_less : (c d : ℕ) → c < d → is_at (nat_cmp c) d ≡ false
at_less c d lt = grind (arith, nat_tests, lt)

pub not_same : (k c d : ℕ) → k ≡ same d c → (d == c) ≡ false → k ≡ 0
not_same zero c d e other = refl
not_same (suc k) c d e other =
    let equal : d ≡ c = same_one d c k (sym e) in absurd (grind (arith, nat_tests, equal, other))

differ : (c d : ℕ) → is_at (nat_cmp c) d ≡ false → same d c ≡ 0
differ c d e = not_same (same d c) c d refl (at_other c d e)

-- ---- one number several times
times_past : (n d c : ℕ) (l : List ℕ) → same d c ≡ 0 → times (replicate n d ++ l) c ≡ times l c
times_past zero d c l e = refl
times_past (suc n) d c l e = omega (arith, e, times_past n d c l e)

times_here : (n c : ℕ) (l : List ℕ) → times (replicate n c ++ l) c ≡ n + times l c
times_here zero c l = omega arith
times_here (suc n) c l = omega (arith, same_self c, times_here n c l)

more_past : (n d c : ℕ) (l : List ℕ) → d < c → more c (replicate n d ++ l) ≡ replicate n d ++ more c l
more_past zero d c l lt = refl
more_past (suc n) d c l lt =
    let over : nat_le c d ≡ false = grind (arith, nat_tests, lt) in
    ap (λ b. cond b (c ∷ (d ∷ (replicate n d ++ l))) (d ∷ more c (replicate n d ++ l))) over ∙ ap (λ t. d ∷ t) (more_past n d c l lt)

without_past : (n d c : ℕ) (l : List ℕ) → (d == c) ≡ false → without c (replicate n d ++ l) ≡ replicate n d ++ without c l
without_past zero d c l e = refl
without_past (suc n) d c l e =
    ap (λ b. cond b (replicate n d ++ l) (d ∷ without c (replicate n d ++ l))) e ∙ ap (λ t. d ∷ t) (without_past n d c l e)

-- ---- one entry: its number, how often it stands further, and the numbers behind it
module _ (c d n : ℕ) (l : List ℕ) where
  abbrev entry : List ℕ
  entry = d ∷ (replicate n d ++ l)

  times_at : is_at (nat_cmp c) d ≡ true → n + 1 ≤ times entry c
  times_at e =
      let equal = at_is c d e in
      omega (arith, ap (λ z. same z c) equal, same_self c, ap (λ z. times (replicate n z ++ l) c) equal, times_here n c l)

  times_alone : is_at (nat_cmp c) d ≡ true → times l c ≡ 0 → times entry c ≡ n + 1
  times_alone e rest =
      let equal = at_is c d e in
      omega (arith, rest, ap (λ z. same z c) equal, same_self c, ap (λ z. times (replicate n z ++ l) c) equal, times_here n c l)

  times_other : is_at (nat_cmp c) d ≡ false → times entry c ≡ times l c
  times_other e = omega (arith, differ c d e, times_past n d c l (differ c d e))

  without_at : is_at (nat_cmp c) d ≡ true → without c entry ≡ replicate n d ++ l
  without_at e = ap (λ b. cond b (replicate n d ++ l) (d ∷ without c (replicate n d ++ l))) (at_same c d e)

  without_other : is_at (nat_cmp c) d ≡ false → without c entry ≡ d ∷ (replicate n d ++ without c l)
  without_other e = without_past (suc n) d c l (at_other c d e)

  more_before : nat_cmp c d ≡ Less → more c entry ≡ c ∷ entry
  more_before e = ap (λ b. cond b (c ∷ entry) (d ∷ more c (replicate n d ++ l))) (is_less c d e)

  more_same : nat_cmp c d ≡ Equal → more c entry ≡ d ∷ (replicate (n + 1) d ++ l)
  more_same e =
      let le : nat_le c d ≡ true = grind (arith, nat_tests, e) in
      ap (λ b. cond b (c ∷ entry) (d ∷ more c (replicate n d ++ l))) le
      ∙ ap (λ z. z ∷ entry) (is_equal c d e)
      ∙ ap (λ m. d ∷ (replicate m d ++ l)) (sym (add-one n))

  more_behind : nat_cmp c d ≡ Greater → more c entry ≡ d ∷ (replicate n d ++ more c l)
  more_behind e = more_past (suc n) d c l (is_greater c d e)

-- ---- how often a number stands
stands_either : (b : Bool) (c : ℕ) (e : ℕ × ℕ) (es : List (ℕ × ℕ)) → is_at (nat_cmp c) e.0 ≡ b → standing (further c es) ≤ times (numbers_of es) c → standing (cond b (Some e.1) (further c es)) ≤ times (numbers_of (e ∷ es)) c
stands_either true c e es is le = times_at c e.0 e.1 (numbers_of es) is
stands_either false c e es is le = omega (arith, le, times_other c e.0 e.1 (numbers_of es) is)

pub stands : (c : ℕ) (es : List (ℕ × ℕ)) → standing (further c es) ≤ times (numbers_of es) c
stands c [] = omega arith
stands c (e ∷ es) = stands_either (is_at (nat_cmp c) e.0) c e es refl (stands c es)

absent_either : (b : Bool) (c : ℕ) (e : ℕ × ℕ) (es : List (ℕ × ℕ)) → is_at (nat_cmp c) e.0 ≡ b → cond b (Some e.1) (further c es) ≡ None → (further c es ≡ None → (times (numbers_of es) c ≡ 0) × (without c (numbers_of es) ≡ numbers_of es)) → (times (numbers_of (e ∷ es)) c ≡ 0) × (without c (numbers_of (e ∷ es)) ≡ numbers_of (e ∷ es))
absent_either true c e es is gone h = absurd (cc)
absent_either false c e es is gone h =
    let rest = h gone in (
      times_other c e.0 e.1 (numbers_of es) is ∙ rest.0,
      without_other c e.0 e.1 (numbers_of es) is ∙ ap (λ l. e.0 ∷ (replicate e.1 e.0 ++ l)) rest.1,
    )

-- a number without an entry does not stand there
pub absent : (c : ℕ) (es : List (ℕ × ℕ)) → further c es ≡ None → (times (numbers_of es) c ≡ 0) × (without c (numbers_of es) ≡ numbers_of es)
absent c [] e = (refl, refl)
absent c (x ∷ es) e = absent_either (is_at (nat_cmp c) x.0) c x es refl e (absent c es)

-- ---- one less
some_same : (m n : ℕ) → Some m ≡ Some n → m ≡ n
some_same m n e = cc

removed_either : (b : Bool) (c : ℕ) (e : ℕ × ℕ) (es : List (ℕ × ℕ)) → is_at (nat_cmp c) e.0 ≡ b → cond b (Some e.1) (further c es) ≡ Some 0 → (further c es ≡ Some 0 → numbers_of (remove_entry (is_at (nat_cmp c)) es) ≡ without c (numbers_of es)) → numbers_of (cond b es (e ∷ remove_entry (is_at (nat_cmp c)) es)) ≡ without c (numbers_of (e ∷ es))
removed_either true c e es is once h =
    sym (without_at c e.0 e.1 (numbers_of es) is ∙ ap (λ n. replicate n e.0 ++ numbers_of es) (some_same e.1 0 once))
removed_either false c e es is once h =
    ap (λ l. e.0 ∷ (replicate e.1 e.0 ++ l)) (h once) ∙ sym (without_other c e.0 e.1 (numbers_of es) is)

-- a number that stands once goes
pub removed : (c : ℕ) (es : List (ℕ × ℕ)) → further c es ≡ Some 0 → numbers_of (remove_entry (is_at (nat_cmp c)) es) ≡ without c (numbers_of es)
removed c [] e = absurd (cc)
removed c (x ∷ es) e = removed_either (is_at (nat_cmp c) x.0) c x es refl e (removed c es)

lowered_either : (b : Bool) (c n : ℕ) (e : ℕ × ℕ) (es : List (ℕ × ℕ)) → is_at (nat_cmp c) e.0 ≡ b → cond b (Some e.1) (further c es) ≡ Some (n + 1) → (further c es ≡ Some (n + 1) → numbers_of (set_value (is_at (nat_cmp c)) es n) ≡ without c (numbers_of es)) → numbers_of (cond b ((e.0, n) ∷ es) (e ∷ set_value (is_at (nat_cmp c)) es n)) ≡ without c (numbers_of (e ∷ es))
lowered_either true c n e es is often h =
    sym (without_at c e.0 e.1 (numbers_of es) is ∙ ap (λ m. replicate m e.0 ++ numbers_of es) (some_same e.1 (n + 1) often ∙ add-one n))
lowered_either false c n e es is often h =
    ap (λ l. e.0 ∷ (replicate e.1 e.0 ++ l)) (h often) ∙ sym (without_other c e.0 e.1 (numbers_of es) is)

-- a number that stands more than once stands once less
pub lowered : (c n : ℕ) (es : List (ℕ × ℕ)) → further c es ≡ Some (n + 1) → numbers_of (set_value (is_at (nat_cmp c)) es n) ≡ without c (numbers_of es)
lowered c n [] e = absurd (cc)
lowered c n (x ∷ es) e = lowered_either (is_at (nat_cmp c) x.0) c n x es refl e (lowered c n es)

-- ---- one more
none_below : (c d : ℕ) (es : List (ℕ × ℕ)) → c < d → AllByRecursion (λ y. nat_cmp d y ≡ Less) (keys_of es) → further c es ≡ None
none_below c d [] lt above = refl
none_below c d (e ∷ es) lt above =
    let over : c < e.0 = omega (arith, lt, less_than d e.0 above.0) in
    ap (λ b. cond b (Some e.1) (further c es)) (at_less c e.0 over) ∙ none_below c d es lt above.1

insert_either : (o : Ordering) (c n : ℕ) (e : ℕ × ℕ) (es : List (ℕ × ℕ)) → nat_cmp c e.0 ≡ o → n ≡ standing (further c (e ∷ es)) → (c < e.0 → further c es ≡ None) → (n ≡ standing (further c es) → numbers_of (insert_entry nat_cmp es c n) ≡ more c (numbers_of es)) → numbers_of (match_ordering o ((c, n) ∷ (e ∷ es)) ((e.0, n) ∷ es) (e ∷ insert_entry nat_cmp es c n)) ≡ more c (numbers_of (e ∷ es))
insert_either Less c n e es is v new later =
    let before = less_than c e.0 is in
    let first : n ≡ 0 = v ∙ ap standing (ap (λ b. cond b (Some e.1) (further c es)) (at_less c e.0 before) ∙ new before) in
    ap (λ m. c ∷ (replicate m c ++ numbers_of (e ∷ es))) first ∙ sym (more_before c e.0 e.1 (numbers_of es) is)
insert_either Equal c n e es is v new later =
    let here : is_at (nat_cmp c) e.0 ≡ true = grind (arith, nat_tests, is) in
    let again : n ≡ e.1 + 1 = v ∙ ap (λ b. standing (cond b (Some e.1) (further c es))) here in
    ap (λ m. e.0 ∷ (replicate m e.0 ++ numbers_of es)) again ∙ sym (more_same c e.0 e.1 (numbers_of es) is)
insert_either Greater c n e es is v new later =
    let other : is_at (nat_cmp c) e.0 ≡ false = grind (arith, nat_tests, is) in
    ap (λ l. e.0 ∷ (replicate e.1 e.0 ++ l)) (later (v ∙ ap (λ b. standing (cond b (Some e.1) (further c es))) other))
    ∙ sym (more_behind c e.0 e.1 (numbers_of es) is)

pub inserted : (c n : ℕ) (es : List (ℕ × ℕ)) → IsStrictlySortedBy nat_cmp (keys_of es) → n ≡ standing (further c es) → numbers_of (insert_entry nat_cmp es c n) ≡ more c (numbers_of es)
inserted c n [] up v = ap (λ m. c ∷ (replicate m c ++ [])) v
inserted c n (e ∷ es) up v =
    insert_either (nat_cmp c e.0) c n e es refl v (λ lt. none_below c e.0 es lt (sorted_head nat_cmp e.0 (keys_of es) up))
    (inserted c n es (sorted_tail nat_cmp e.0 (keys_of es) up))

pub owned : (c n : ℕ) (es : List (ℕ × ℕ)) → further c es ≡ Some n → true ≡ nat_lt 0 (times (numbers_of es) c)
owned c n es e = let once = stands c es in let often = ap standing e in grind (arith, nat_tests, once, often)

pub and_false : (b : Bool) → (b && false) ≡ false
and_false true = refl
and_false false = refl

-- ---- one number once, and nothing else
longer : (n d : ℕ) (x : ℕ) (l : List ℕ) → is_none (replicate n d ++ x ∷ l) ≡ false
longer zero d x l = refl
longer (suc n) d x l = refl

once : (n : ℕ) (e f : ℕ × ℕ) (es : List (ℕ × ℕ)) → (nat_eq n 0 && nat_eq (length (e ∷ f ∷ es)) 1) ≡ false
once n e f es =
    let more : nat_eq (length (e ∷ f ∷ es)) 1 ≡ false = grind (arith, nat_tests) in
    ap (λ b. nat_eq n 0 && b) more ∙ and_false (nat_eq n 0)

only_here : (n : ℕ) (e : ℕ × ℕ) (es : List (ℕ × ℕ)) → (nat_eq n 0 && nat_eq (length (e ∷ es)) 1) ≡ is_none (replicate n e.0 ++ numbers_of es)
only_here zero e [] = refl
only_here (suc n) e [] =
    let often : nat_eq (suc n) 0 ≡ false = grind (arith, nat_tests) in
    ap (λ b. b && true) often
only_here n e (f ∷ es) = once n e f es ∙ sym (longer n e.0 f.0 (replicate f.1 f.0 ++ numbers_of es))

only_either : (b : Bool) (c n : ℕ) (e : ℕ × ℕ) (es : List (ℕ × ℕ)) → is_at (nat_cmp c) e.0 ≡ b → cond b (Some e.1) (further c es) ≡ Some n → (nat_eq n 0 && nat_eq (length (e ∷ es)) 1) ≡ is_none (without c (numbers_of (e ∷ es)))
only_either true c n e es is some =
    only_here n e es ∙ ap (λ m. is_none (replicate m e.0 ++ numbers_of es)) (sym (some_same e.1 n some)) ∙ ap is_none (sym (without_at c e.0 e.1 (numbers_of es) is))
only_either false c n e [] is some = absurd (cc)
only_either false c n e (f ∷ es) is some = once n e f es ∙ ap is_none (sym (without_other c e.0 e.1 (numbers_of (f ∷ es)) is))

-- whether a number that stands there is all that does
pub only : (c n : ℕ) (es : List (ℕ × ℕ)) → further c es ≡ Some n → (nat_eq n 0 && nat_eq (length es) 1) ≡ is_only c (numbers_of es)
only c n [] some = absurd (cc)
only c n (e ∷ es) some =
    only_either (is_at (nat_cmp c) e.0) c n e es refl some ∙ ap (λ b. b && is_none (without c (numbers_of (e ∷ es)))) (owned c n (e ∷ es) some)

pub none_owned : (c : ℕ) (es : List (ℕ × ℕ)) → further c es ≡ None → false ≡ is_only c (numbers_of es)
none_owned c es none = ap (λ n. nat_lt 0 n && is_none (without c (numbers_of es))) (sym (absent c es none).0)

-- ---- how often a number stands, where no number has two entries
none_above : (c : ℕ) (es : List (ℕ × ℕ)) → AllByRecursion (λ y. nat_cmp c y ≡ Less) (keys_of es) → further c es ≡ None
none_above c [] above = refl
none_above c (e ∷ es) above =
    ap (λ b. cond b (Some e.1) (further c es)) (at_less c e.0 (less_than c e.0 above.0)) ∙ none_above c es above.1

exactly_either : (b : Bool) (c : ℕ) (e : ℕ × ℕ) (es : List (ℕ × ℕ)) → is_at (nat_cmp c) e.0 ≡ b → AllByRecursion (λ y. nat_cmp e.0 y ≡ Less) (keys_of es) → times (numbers_of es) c ≡ standing (further c es) → times (numbers_of (e ∷ es)) c ≡ standing (cond b (Some e.1) (further c es))
exactly_either true c e es is above h =
    let key : e.0 ≡ c = at_is c e.0 is in
    times_alone c e.0 e.1 (numbers_of es) is (h ∙ ap standing (ap (λ k. further k es) (sym key) ∙ none_above e.0 es above))
exactly_either false c e es is above h = times_other c e.0 e.1 (numbers_of es) is ∙ h

stands_exactly : (c : ℕ) (es : List (ℕ × ℕ)) → IsStrictlySortedBy nat_cmp (keys_of es) → times (numbers_of es) c ≡ standing (further c es)
stands_exactly c [] up = refl
stands_exactly c (e ∷ es) up =
    exactly_either (is_at (nat_cmp c) e.0) c e es refl (sorted_head nat_cmp e.0 (keys_of es) up)
    (stands_exactly c es (sorted_tail nat_cmp e.0 (keys_of es) up))

beyond_either : (b : Bool) (n m : ℕ) → nat_le n m ≡ b → b ≡ nat_lt n (m + 1)
beyond_either true n m e = grind (arith, nat_tests, e)
beyond_either false n m e = grind (arith, nat_tests, e)

one_beyond : (n m : ℕ) → nat_le n m ≡ nat_lt n (m + 1)
one_beyond n m = beyond_either (nat_le n m) n m refl

-- whether a number stands there more often than so many times
pub owned_beyond : (c n m : ℕ) (es : List (ℕ × ℕ)) → IsStrictlySortedBy nat_cmp (keys_of es) → further c es ≡ Some m → nat_le n m ≡ nat_lt n (times (numbers_of es) c)
owned_beyond c n m es up e = one_beyond n m ∙ ap (nat_lt n) (sym (stands_exactly c es up ∙ ap standing e))

none_more : (n m : ℕ) → m ≡ 0 → false ≡ nat_lt n m
none_more n m e = grind (arith, nat_tests, e)

pub none_beyond : (c n : ℕ) (es : List (ℕ × ℕ)) → further c es ≡ None → false ≡ nat_lt n (times (numbers_of es) c)
none_beyond c n es e = none_more n (times (numbers_of es) c) (absent c es e).0

-- ---- nothing
pub none_there : (es : List (ℕ × ℕ)) → (length es ≡ 0) ↔ (numbers_of es ≡ [])
none_there [] = (λ e. refl, λ e. refl)
none_there (e ∷ es) = (λ f. absurd (omega (arith, f)), λ f. absurd (cc))

-- ---- maps that were changed
pub added : (c n : ℕ) (es old new : List (ℕ × ℕ)) → IsStrictlySortedBy nat_cmp (keys_of old) → old ≡ es → n ≡ standing (further c es) → new ≡ insert_entry nat_cmp old c n → numbers_of new ≡ more c (numbers_of es)
added c n es old new up same often is =
    ap numbers_of is
    ∙ inserted c n old up (often ∙ ap (λ xs. standing (further c xs)) (sym same))
    ∙ ap (λ xs. more c (numbers_of xs)) same

set_either : (b : Bool) (n : ℕ) (e : ℕ × ℕ) (es rest : List (ℕ × ℕ)) (o : Option ℕ) → cond b (Some e.1) o ≡ Some n → (o ≡ Some n → rest ≡ es) → cond b ((e.0, n) ∷ es) (e ∷ rest) ≡ e ∷ es
set_either true n e es rest o is h = ap (λ m. (e.0, m) ∷ es) (sym (some_same e.1 n is))
set_either false n e es rest o is h = ap (λ xs. e ∷ xs) (h is)

-- a value that is written again changes nothing
pub set_again : (c n : ℕ) (es : List (ℕ × ℕ)) → further c es ≡ Some n → set_value (is_at (nat_cmp c)) es n ≡ es
set_again c n [] e = refl
set_again c n (x ∷ es) e =
    set_either (is_at (nat_cmp c) x.0) n x es (set_value (is_at (nat_cmp c)) es n) (further c es) e (set_again c n es)

-- ---- one number alone
alone_either : (b : Bool) (d c : ℕ) → nat_eq d c ≡ b → b ≡ nat_lt 0 (times (d ∷ []) c)
alone_either true d c is =
    let equal : d ≡ c = grind (arith, nat_tests, is) in
    grind (arith, nat_tests, ap (λ z. same z c) equal, same_self c)
alone_either false d c is =
    let none = not_same (same d c) c d refl is in grind (arith, nat_tests, none)

alone : (d c : ℕ) → nat_eq d c ≡ nat_lt 0 (times (d ∷ []) c)
alone d c = alone_either (nat_eq d c) d c refl

none_left : (b : Bool) (d : ℕ) → b ≡ (b && is_none (cond b [] (d ∷ [])))
none_left true d = refl
none_left false d = refl

pub owned_once : (n d c : ℕ) (l : List ℕ) → n ≡ d → l ≡ d ∷ [] → nat_eq n c ≡ nat_lt 0 (times l c)
owned_once n d c l number list = ap (λ k. nat_eq k c) number ∙ alone d c ∙ ap (λ k. nat_lt 0 (times k c)) (sym list)

pub same_few : (d c : ℕ) → same d c ≤ 1
same_few zero zero = omega arith
same_few zero (suc c) = omega arith
same_few (suc d) zero = omega arith
same_few (suc d) (suc c) = same_few d c

few_alone : (d c : ℕ) → times (d ∷ []) c ≤ 1
few_alone d c = omega (arith, same_few d c)

few_more : (n m : ℕ) → m ≤ 1 → 0 < n → nat_eq n 0 ≡ nat_lt n m
few_more n m few lt =
    let some : nat_eq n 0 ≡ false = grind (arith, nat_tests, lt) in
    let none : nat_lt n m ≡ false = grind (arith, nat_tests, few, lt) in
    some ∙ sym none

-- one number alone stands there no more often than once
pub few_once : (n d c : ℕ) (l : List ℕ) → l ≡ d ∷ [] → 0 < n → nat_eq n 0 ≡ nat_lt n (times l c)
few_once n d c l list lt = few_more n (times (d ∷ []) c) (few_alone d c) lt ∙ ap (λ k. nat_lt n (times k c)) (sym list)

pub beyond_once : (n number d c : ℕ) (l : List ℕ) → number ≡ d → l ≡ d ∷ [] → n ≡ 0 → nat_eq number c ≡ nat_lt n (times l c)
beyond_once n number d c l is list none = owned_once number d c l is list ∙ ap (λ m. nat_lt m (times l c)) (sym none)

pub only_once : (n d c : ℕ) (l : List ℕ) → n ≡ d → l ≡ d ∷ [] → nat_eq n c ≡ is_only c l
only_once n d c l number list =
    ap (λ k. nat_eq k c) number
    ∙ none_left (nat_eq d c) d
    ∙ ap (λ b. b && is_none (without c (d ∷ []))) (alone d c)
    ∙ ap (is_only c) (sym list)
