-- The verdict on a class.
use Rattle.std.proofs.Common.{◌≡◌, ℕ, ◌<◌, ◌==◌, Bool, true, false, ◌&&◌, List, [], ◌∷◌, ◌++◌, length, map, slice_get, Option, Some, None, is_some, refl, sym, ap, ap₂, subst, ◌∙◌, if◌then◌else◌, nat_lt, arith, get_or, Result, Ok, Err, IfOk, BuildHasherDefault, FoldHasher}
use Rattle.std.specs.List.{list_all}
use Rattle.std.specs.Str.{bytes_eq}
use Rattle.std.specs.Map.{lookup}
use Rattle.indexmap.specs.IndexMap.{IndexMap, get}
use Rattle.std.proofs.lemmas.Option.{slice_get_within}
use Rattle.std.proofs.lemmas.Bool.{eqb-true, eq-eqb, ltb-true, ltb-false}
use Rattle.std.proofs.lemmas.List.{length-map, map-append}
use Rattle.py_typed.specs.Classes.{ClassEntry, bases_of}
use Rattle.py_typed.specs.Order.{order, listed_order}
use Rattle.class_layout_members.specs.Clashes.{Definition}
use Rattle.py_check_classes.specs.declared.header.Header.{Header}
use Rattle.py_check_classes.specs.Headers.{entry}
use Rattle.py_check_classes.specs.Kept.{AreKept, only_one}
use Rattle.py_check_classes.proofs.OrderLemmas.{row_on}
use Rattle.py_check_overrides.specs.Overrides.{Own, Clash, Verdict, passes, silent, passed, judged, clash_of, defined, defined_along, own_of, verdict, verdicts_behind}
use Rattle.py_check_overrides.specs.Lines.{Tells, agrees_named, IsNewOf, said_of, said_in, is_by, known, known_above, known_or_new}
use Rattle.py_check_overrides.specs.Judged.{along_order, AllTold, IsJudged}
use Rattle.py_check_overrides.specs.Views as view
use Rattle.py_check_overrides.specs.declared.lines.Lines.{Lines}
use Rattle.py_check_overrides.specs.declared.lines.Said.{Said}
use Rattle.py_check_overrides.specs.declared.judge.Judged.{Judged}
use Rattle.py_check_overrides.specs.declared.verdict.Verdict as declared
use Rattle.py_check_overrides.proofs.ToldLemmas.{none_clashes, firsts_tell}
use Rattle.py_check_overrides.proofs.ClashLemmas.{none_told, quiet, not_both}
use Rattle.py_check_overrides.proofs.LineLemmas.{at_front, at_end, past, later}

module _ (classes : List ClassEntry) (owns : List (List Own)) where
  -- ---- a class that does not pass

  pub not_passed : (lines : Lines) (n : ℕ) (j : Judged) → j.above ≡ None → ((q : List ℕ) → get bytes_eq j.new q ≡ None) → view.verdict j.verdict ≡ silent → IsJudged classes owns lines n j
  not_passed lines n j above empty is = record {
    there = λ b e. (let no : None ≡ Some b = sym above ∙ e in absurd (cc));
    said = λ q. ap (is_by n) (empty q);
    fresh = λ q s. (let no : false ≡ true = sym (ap (λ o. is_some (said_of o)) (empty q)) ∙ s in absurd (cc));
    told = λ p. (let no : false ≡ true = sym (ap (λ v. passed (Some v)) is) ∙ p in absurd (cc));
  }

  -- ---- a class that all agree with

  pub passes_told : (c : ℕ) (g : List ℕ → Option Definition) → Tells (along_order classes owns c) g → passes ≡ judged (clash_of classes owns c)
  passes_told c g h = sym (ap judged (none_told owns (listed_order (order classes c)) (none_clashes (along_order classes owns c) g h)))

  -- ---- the whole order

  quiet_when : (o : Option Clash) → passed (Some (judged o)) ≡ true → o ≡ None
  quiet_when None e = refl
  quiet_when (Some f) e = absurd (cc)

  pub along_told : (lines : Lines) (n : ℕ) (j : Judged) (members : List (List ℕ × Definition)) → j.above ≡ None → view.verdict j.verdict ≡ judged (clash_of classes owns n) → members ≡ along_order classes owns n
      → ((q : List ℕ) → said_in j.new q ≡ lookup (bytes_eq q) members) → ((q : List ℕ) → is_by n (get bytes_eq j.new q) ≡ true) → IsJudged classes owns lines n j
  along_told lines n j members above is all first by = record {
    there = λ b e. (let no : None ≡ Some b = sym above ∙ e in absurd (cc));
    said = by;
    fresh = λ q s. ap (λ o. known_above lines o q) above;
    told = λ p q.
        let none : clash_of classes owns n ≡ None = quiet_when (clash_of classes owns n) (sym (ap (λ v. passed (Some v)) is) ∙ p) in
        ap (λ o. list_all (agrees_named q o) (along_order classes owns n))
        (ap (λ o. known_or_new (known_above lines o) (said_in j.new) q) above ∙ first q ∙ ap (λ l. lookup (bytes_eq q) l) all)
        ∙ firsts_tell (along_order classes owns n) (quiet owns (listed_order (order classes n)) none) q;
  }

  -- ---- a class below one that passes

  module _ (orders : List (List ℕ)) (k : AreKept classes orders) (n b : ℕ) (l : n < length classes) (one : bases_of classes n ≡ b ∷ []) where
    along_base : defined (own_of owns n) ++ along_order classes owns b ≡ along_order classes owns n
    along_base = ap (defined_along owns) (row_on classes orders k n b [] l (ap only_one one))

    pub below_tells : {S : Type 0} (lines : Lines) (new : IndexMap (List ℕ) Said S) → IsNewOf n (known lines b) (own_of owns n) new → Tells (along_order classes owns b) (known lines b)
        → Tells (along_order classes owns n) (known_or_new (known lines b) (said_in new))
    below_tells lines new is before = subst (λ row. Tells row (known_or_new (known lines b) (said_in new))) along_base (is.told (along_order classes owns b) before)

-- ---- the bases

pub one_passes : (before : List Verdict) (b : ℕ) → list_all (λ c. passed (slice_get before c)) (b ∷ []) ≡ true → passed (slice_get before b) ≡ true
one_passes before b e = and_left (passed (slice_get before b)) true e
  where
    and_left : (x y : Bool) → (x && y) ≡ true → x ≡ true
    and_left true y e = refl
    and_left false y e = absurd (cc)

pub passed_within : (before : List Verdict) (b : ℕ) → passed (slice_get before b) ≡ true → b < length before
passed_within before b e = by (slice_get before b) refl e
  where
    by : (o : Option Verdict) → slice_get before b ≡ o → passed o ≡ true → b < length before
    by None is e = absurd (cc)
    by (Some v) is e = slice_get_within before b v is

-- a row of one, by how long it is
pub one_row : (row : List ℕ) → length row ≡ 1 → row ≡ get_or row 0 0 ∷ []
one_row [] e = absurd (omega (arith, e))
one_row (b ∷ []) e = refl
one_row (b ∷ d ∷ row) e = absurd (omega (arith, e))

pub for_all : {V E X : Type 0} (P : X → V → Type 0) (r : Result V E) (x : X) → IfOk r (λ v. (y : X) → P y v) → IfOk r (P x)
for_all P (Ok v) x h = h x
for_all P (Err e) x h = h

-- ---- one verdict more

not_equal : (c n : ℕ) → c ≡ n → (c == n) ≡ false → ⊥
not_equal c n i f = not_both (c == n) (eq-eqb c n i) f

module _ (classes : List ClassEntry) (owns : List (List Own)) (xs xs2 : List declared.Verdict) (v : declared.Verdict) (put : xs2 ≡ xs ++ v ∷ []) where
  views_are : map view.verdict xs2 ≡ map view.verdict xs ++ view.verdict v ∷ []
  views_are = ap (map view.verdict) put ∙ map-append view.verdict xs (v ∷ [])

  pub verdicts_on : (h : Header) (rest : List Header) (whole : List Verdict) → view.verdict v ≡ verdict classes owns (map view.verdict xs) h → verdicts_behind classes owns (map view.verdict xs) (h ∷ rest) ≡ whole
      → verdicts_behind classes owns (map view.verdict xs2) rest ≡ whole
  verdicts_on h rest whole is before =
      ap (λ l. verdicts_behind classes owns l rest) views_are ∙ ap (λ z. verdicts_behind classes owns (map view.verdict xs ++ z ∷ []) rest) is ∙ before

  module _ (lines lines2 : Lines) (j : Judged) (number : ℕ) (counted : number ≡ length xs) (is : v ≡ j.verdict) (told : AllTold classes owns (map view.verdict xs) lines) (good : IsJudged classes owns lines number j) (old : (c : ℕ) (q : List ℕ) → c < number → known lines2 c q ≡ known lines c q) (new : (q : List ℕ) → known lines2 number q ≡ known_or_new (known_above lines j.above) (said_in j.new) q) where
    many : length (map view.verdict xs) ≡ number
    many = length-map xs view.verdict ∙ sym counted

    pub told_next : AllTold classes owns (map view.verdict xs2) lines2
    told_next c p q = by_number (nat_lt c number) refl (c == number) refl
      where
        here : passed (slice_get (map view.verdict xs ++ view.verdict v ∷ []) c) ≡ true
        here = sym (ap (λ l. passed (slice_get l c)) views_are) ∙ p

        by_number : (x : Bool) → nat_lt c number ≡ x → (y : Bool) → (c == number) ≡ y → list_all (agrees_named q (known lines2 c q)) (along_order classes owns c) ≡ true
        by_number true e y f =
            let less = ltb-true c number e in
            ap (λ o. list_all (agrees_named q o) (along_order classes owns c)) (old c q less)
            ∙ told c (sym (ap passed (at_front (map view.verdict xs) (view.verdict v ∷ []) c (subst (λ n. c < n) (sym many) less))) ∙ here) q
        by_number false e true f =
            let at = eqb-true c number f in
            let last : passed (Some (view.verdict v)) ≡ true = sym (ap (λ n. passed (slice_get (map view.verdict xs ++ view.verdict v ∷ []) n)) (at ∙ sym many) ∙ ap passed (at_end (map view.verdict xs) (view.verdict v))) ∙ here in
            ap (λ n. list_all (agrees_named q (known lines2 n q)) (along_order classes owns n)) at
            ∙ ap (λ o. list_all (agrees_named q o) (along_order classes owns number)) (new q)
            ∙ good.told (sym (ap (λ z. passed (Some (view.verdict z))) is) ∙ last) q
        by_number false e false f =
            let over = later c number (ltb-false c number e) (λ i. not_equal c number i f) in
            let none : passed (slice_get (map view.verdict xs ++ view.verdict v ∷ []) c) ≡ false = ap passed (past (map view.verdict xs) (view.verdict v) c (subst (λ n. n < c) (sym many) over)) in
            absurd (not_both (passed (slice_get (map view.verdict xs ++ view.verdict v ∷ []) c)) here none)

-- what holds of the verdict on the class of one number, by another word for the number
pub read_good : (classes : List ClassEntry) (owns : List (List Own)) (lines : Lines) (j : Judged) {n k : ℕ} → n ≡ k → IsJudged classes owns lines n j → IsJudged classes owns lines k j
read_good classes owns lines j e h = subst (λ m. IsJudged classes owns lines m j) e h

-- ---- a class below one that passes: its verdict, and what is kept of it

module _ (headers : List Header) (owns : List (List Own)) (orders : List (List ℕ)) (k : AreKept (map entry headers) orders) (n b : ℕ) (l : n < length headers) (one : bases_of (map entry headers) n ≡ b ∷ []) (before : List Verdict) (lines : Lines) (new : IndexMap (List ℕ) Said (BuildHasherDefault FoldHasher)) (is : IsNewOf n (known lines b) (own_of owns n) new) (told : AllTold (map entry headers) owns before lines) (bases : List ℕ) (row : bases ≡ b ∷ []) (yes : list_all (λ c. passed (slice_get before c)) bases ≡ true) where
  base_passes : passed (slice_get before b) ≡ true
  base_passes = one_passes before b (sym (ap (list_all (λ c. passed (slice_get before c))) row) ∙ yes)

  tells : Tells (along_order (map entry headers) owns n) (known_or_new (known lines b) (said_in new))
  tells = below_tells (map entry headers) owns orders k n b (subst (λ m. n < m) (sym (length-map headers entry)) l) one lines new is (told b base_passes)

  pub below_passes : passes ≡ (if list_all (λ c. passed (slice_get before c)) bases then judged (clash_of (map entry headers) owns n) else silent)
  below_passes = passes_told (map entry headers) owns n (known_or_new (known lines b) (said_in new)) tells ∙ sym (ap (λ x. if x then judged (clash_of (map entry headers) owns n) else silent) yes)

  pub below_judged : (j : Judged) → j.above ≡ Some b → j.new ≡ new → length before ≡ n → IsJudged (map entry headers) owns lines n j
  below_judged j above put many = record {
    there = λ c e. (let one : Some b ≡ Some c = sym above ∙ e in let at : b ≡ c = cc in subst (λ m. m < n) at (subst (λ m. b < m) many (passed_within before b base_passes)));
    said = λ q. ap (λ m. is_by n (get bytes_eq m q)) put ∙ is.by q;
    fresh = λ q s. ap (λ o. known_above lines o q) above ∙ is.fresh q (sym (ap (λ m. is_some (said_in m q)) put) ∙ s);
    told = λ p q. ap₂ (λ o m. list_all (agrees_named q (known_or_new (known_above lines o) (said_in m) q)) (along_order (map entry headers) owns n)) above put ∙ tells q;
  }
