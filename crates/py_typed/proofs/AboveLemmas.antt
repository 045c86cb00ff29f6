-- The table of what stands above each class, and how it grows with the list of classes.
use Rattle.std.proofs.Common.{◌≡◌, ℕ, zero, suc, ◌≤◌, ◌<◌, Bool, true, false, ◌||◌, ◌&&◌, ◌==◌, nat_lt, List, [], ◌∷◌, ◌++◌, length, map, slice_get, Some, None, refl, sym, ap, subst, ◌∙◌, arith}
use Rattle.std.specs.List.{list_any}
use Rattle.std.proofs.lemmas.Bool.{eqb-true, ltb-true}
use Rattle.std.proofs.lemmas.Bool.Decides.{nat_tests}
use Rattle.py_typed.specs.declared.classes.ClassInfo.{ClassInfo}
use Rattle.py_typed.specs.Classes.{ClassEntry, class_entry, bases_of, bases_in, reaches, is_class_under, is_above}
use Rattle.py_typed.specs.Above.{flag_in, row_in, told, told_by_bases, row_length, IsTable}
use Rattle.py_typed.proofs.ClassLemmas.{any_alike, by_falling, above_falls}

-- ---- an item behind a list

get_before : {A : Type 0} (xs ys : List A) (c : ℕ) → c < length xs → slice_get (xs ++ ys) c ≡ slice_get xs c
get_before [] ys c l = absurd (omega (arith, l))
get_before (x ∷ xs) ys zero l = refl
get_before (x ∷ xs) ys (suc c) l = get_before xs ys c (omega (arith, l))

get_at : {A : Type 0} (xs : List A) (y : A) (c : ℕ) → c ≡ length xs → slice_get (xs ++ y ∷ []) c ≡ Some y
get_at [] y zero l = refl
get_at [] y (suc c) l = absurd (omega (arith, l))
get_at (x ∷ xs) y zero l = absurd (omega (arith, l))
get_at (x ∷ xs) y (suc c) l = get_at xs y c (omega (arith, l))

get_behind : {A : Type 0} (xs : List A) (y : A) (c : ℕ) → length xs < c → slice_get (xs ++ y ∷ []) c ≡ None
get_behind [] y zero l = absurd (omega (arith, l))
get_behind [] y (suc zero) l = refl
get_behind [] y (suc (suc c)) l = refl
get_behind (x ∷ xs) y zero l = absurd (omega (arith, l))
get_behind (x ∷ xs) y (suc c) l = get_behind xs y c (omega (arith, l))

get_none : {A : Type 0} (xs : List A) (c : ℕ) → length xs ≤ c → slice_get xs c ≡ None
get_none [] c l = refl
get_none (x ∷ xs) zero l = absurd (omega (arith, l))
get_none (x ∷ xs) (suc c) l = get_none xs c (omega (arith, l))

-- ---- a row that is made place by place

-- as far as the row goes each place tells what the test says
pub row_pushed : (f : ℕ → Bool) (row : List Bool) (n : ℕ) (b : Bool) → n ≡ length row → ((d : ℕ) → flag_in (slice_get row d) ≡ (nat_lt d n && f d)) → b ≡ f n → (d : ℕ) → flag_in (slice_get (row ++ b ∷ []) d) ≡ (nat_lt d (suc n) && f d)
row_pushed f row n b l h e d = by (nat_lt d n) (d == n) refl refl
  where
    by : (less same : Bool) → nat_lt d n ≡ less → (d == n) ≡ same → flag_in (slice_get (row ++ b ∷ []) d) ≡ (nat_lt d (suc n) && f d)
    by true same p q =
        let less : d < n = ltb-true d n p in
        let further : nat_lt d (suc n) ≡ true = grind (arith, nat_tests, less) in
        ap flag_in (get_before row (b ∷ []) d (omega (arith, less, l))) ∙ h d ∙ ap (λ x. x && f d) (p ∙ sym further)
    by false true p q =
        let same : d ≡ n = eqb-true d n q in
        let further : nat_lt d (suc n) ≡ true = grind (arith, nat_tests, same) in
        ap flag_in (get_at row b d (same ∙ l)) ∙ e ∙ ap f (sym same) ∙ ap (λ x. x && f d) (sym further)
    by false false p q =
        let beyond : n < d = grind (arith, nat_tests, p, q) in
        let no_further : nat_lt d (suc n) ≡ false = grind (arith, nat_tests, beyond) in
        ap flag_in (get_behind row b d (omega (arith, beyond, l))) ∙ ap (λ x. x && f d) (sym no_further)

both_none : (a : Bool) → (a && false) ≡ false
both_none true = refl
both_none false = refl

-- ---- one class more

-- what stands above a class hangs on those before it alone
reaches_before : (es more : List ClassEntry) (n c d : ℕ) → c < length es → reaches (es ++ more) n c d ≡ reaches es n c d
reaches_before es more zero c d l = refl
reaches_before es more (suc n) c d l =
    ap (λ bs. (c == d) || list_any (λ b. nat_lt b c && reaches (es ++ more) n b d) bs) (ap bases_in (get_before es more c l))
    ∙ ap (λ x. (c == d) || x)
    (any_alike c (λ b. reaches (es ++ more) n b d) (λ b. reaches es n b d) (λ b less. reaches_before es more n b d (omega (arith, less, l))) (bases_of es c))

above_before : (es more : List ClassEntry) (c d : ℕ) → c < length es → is_above (es ++ more) c d ≡ is_above es c d
above_before es more c d l =
    ap (λ bs. list_any (λ b. nat_lt b c && is_class_under (es ++ more) b d) bs) (ap bases_in (get_before es more c l))
    ∙ any_alike c (λ b. is_class_under (es ++ more) b d) (λ b. is_class_under es b d) (λ b less. reaches_before es more b b d (omega (arith, less, l))) (bases_of es c)

-- what its bases tell is what stands above the class behind a list
by_bases_told : (es : List ClassEntry) (rows : List (List Bool)) (e : ClassEntry) (d : ℕ) → IsTable es rows → told_by_bases rows e.bases (length es) d ≡ is_above (es ++ e ∷ []) (length es) d
by_bases_told es rows e d t =
    any_alike (length es) (λ b. (b == d) || told rows b d) (λ b. is_class_under (es ++ e ∷ []) b d)
    (λ b less. ap (λ x. (b == d) || x) (t.tells b d) ∙ sym (by_falling es b d) ∙ sym (reaches_before es (e ∷ []) b b d less))
    e.bases
    ∙ ap (λ bs. list_any (λ b. nat_lt b (length es) && is_class_under (es ++ e ∷ []) b d) bs) (sym (ap bases_in (get_at es e (length es) refl)))

-- a row of that length leaves nothing out
none_left_out : (es : List ClassEntry) (rows : List (List Bool)) (e : ClassEntry) (d : ℕ) → IsTable es rows → (nat_lt d (row_length e.bases (length es)) && told_by_bases rows e.bases (length es) d) ≡ is_above (es ++ e ∷ []) (length es) d
none_left_out es rows e d t = by e.bases refl
  where
    above : Bool
    above = is_above (es ++ e ∷ []) (length es) d

    -- what stands above it has a smaller number
    cut : (less b : Bool) → nat_lt d (length es) ≡ less → above ≡ b → (less && b) ≡ b
    cut true b p q = refl
    cut false false p q = refl
    cut false true p q = let less : d < length es = above_falls (es ++ e ∷ []) (length es) d q in grind (arith, nat_tests, p, less)

    by : (bs : List ℕ) → e.bases ≡ bs → (nat_lt d (row_length e.bases (length es)) && told_by_bases rows e.bases (length es) d) ≡ is_above (es ++ e ∷ []) (length es) d
    by [] q = ap (λ cs. nat_lt d (row_length cs (length es)) && told_by_bases rows cs (length es) d) q ∙ both_none (nat_lt d 0) ∙ sym (ap (λ cs. told_by_bases rows cs (length es) d) q) ∙ by_bases_told es rows e d t
    by (b ∷ bs) q =
        ap (λ cs. nat_lt d (row_length cs (length es)) && told_by_bases rows e.bases (length es) d) q
        ∙ ap (λ x. nat_lt d (length es) && x) (by_bases_told es rows e d t)
        ∙ cut (nat_lt d (length es)) above refl refl

longer : {A : Type 0} (xs : List A) (y : A) → length (xs ++ y ∷ []) ≡ suc (length xs)
longer [] y = refl
longer (x ∷ xs) y = ap suc (longer xs y)

pub one_more : (es : List ClassEntry) (rows : List (List Bool)) (e : ClassEntry) (row : List Bool) → IsTable es rows → ((d : ℕ) → flag_in (slice_get row d) ≡ (nat_lt d (row_length e.bases (length es)) && told_by_bases rows e.bases (length es) d)) → IsTable (es ++ e ∷ []) (rows ++ row ∷ [])
one_more es rows e row t h = record { rows_there = even; tells = λ c d. by c d (nat_lt c (length es)) (c == length es) refl refl }
  where
    even : length (rows ++ row ∷ []) ≡ length (es ++ e ∷ [])
    even = longer rows row ∙ ap suc t.rows_there ∙ sym (longer es e)

    by : (c d : ℕ) (less same : Bool) → nat_lt c (length es) ≡ less → (c == length es) ≡ same → told (rows ++ row ∷ []) c d ≡ is_above (es ++ e ∷ []) c d
    by c d true same p q =
        let less : c < length es = ltb-true c (length es) p in
        ap (λ o. flag_in (slice_get (row_in o) d)) (get_before rows (row ∷ []) c (omega (arith, less, t.rows_there)))
        ∙ t.tells c d
        ∙ sym (above_before es (e ∷ []) c d less)
    by c d false true p q =
        let same : c ≡ length es = eqb-true c (length es) q in
        ap (λ o. flag_in (slice_get (row_in o) d)) (get_at rows row c (same ∙ sym t.rows_there))
        ∙ h d
        ∙ none_left_out es rows e d t
        ∙ ap (λ x. is_above (es ++ e ∷ []) x d) (sym same)
    by c d false false p q =
        let beyond : length es < c = grind (arith, nat_tests, p, q) in
        ap (λ o. flag_in (slice_get (row_in o) d)) (get_behind rows row c (omega (arith, beyond, t.rows_there)))
        ∙ sym (ap (λ o. list_any (λ b. nat_lt b c && is_class_under (es ++ e ∷ []) b d) (bases_in o)) (get_behind es e c beyond))

-- ---- what is told of the list of declared classes

pub under_told : (es : List ClassEntry) (rows : List (List Bool)) → IsTable es rows → (c d : ℕ) → (c == d) ≡ false → told rows c d ≡ is_class_under es c d
under_told es rows t c d p = t.tells c d ∙ ap (λ x. x || is_above es c d) (sym p) ∙ sym (by_falling es c d)

entries_behind : (infos : List ClassInfo) (info : ClassInfo) → map class_entry (infos ++ info ∷ []) ≡ map class_entry infos ++ class_entry info ∷ []
entries_behind [] info = refl
entries_behind (i ∷ infos) info = ap (λ es. class_entry i ∷ es) (entries_behind infos info)

as_many : (infos : List ClassInfo) → length (map class_entry infos) ≡ length infos
as_many [] = refl
as_many (i ∷ infos) = ap suc (as_many infos)

pub table_grown : (infos infos' : List ClassInfo) (rows rows' read : List (List Bool)) (info : ClassInfo) (row : List Bool) (bases : List ℕ) (n : ℕ) → IsTable (map class_entry infos) rows
    → infos' ≡ infos ++ info ∷ [] → rows' ≡ rows ++ row ∷ [] → bases ≡ info.bases → n ≡ length infos → read ≡ rows
    → ((d : ℕ) → flag_in (slice_get row d) ≡ (nat_lt d (row_length bases n) && told_by_bases read bases n d)) → IsTable (map class_entry infos') rows'
table_grown infos infos' rows rows' read info row bases n t p q r s u h =
    subst (λ es. IsTable es rows') (sym (entries_behind infos info) ∙ ap (map class_entry) (sym p))
    (subst (λ x. IsTable (map class_entry infos ++ class_entry info ∷ []) x) (sym q) (one_more (map class_entry infos) rows (class_entry info) row t told_so))
  where
    told_so : (d : ℕ) → flag_in (slice_get row d) ≡ (nat_lt d (row_length info.bases (length (map class_entry infos))) && told_by_bases rows info.bases (length (map class_entry infos)) d)
    told_so d =
        h d
        ∙ ap (λ b. nat_lt d (row_length b n) && told_by_bases read b n d) r
        ∙ ap (λ k. nat_lt d (row_length info.bases k) && told_by_bases read info.bases k d) (s ∙ sym (as_many infos))
        ∙ ap (λ x. nat_lt d (row_length info.bases (length (map class_entry infos))) && told_by_bases x info.bases (length (map class_entry infos)) d) u
