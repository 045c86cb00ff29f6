-- Where no class fails, all definitions of a member along the order of a class agree.
use Rattle.std.proofs.Common.{◌≡◌, ℕ, zero, suc, ◌<◌, ◌+◌, Bool, true, false, cond, ◌&&◌, List, [], ◌∷◌, ◌++◌, map, length, find, slice_get, Option, Some, None, refl, sym, ap, ap₂, ◌∙◌, if◌then◌else◌, option_map, nat_lt, arith, length-append}
use Rattle.std.specs.List.{list_all}
use Rattle.std.proofs.lemmas.Bool.{ltb-true}
use Rattle.std.proofs.lemmas.List.Folds.{list_all-append}
use Rattle.py_typed.specs.Classes.{ClassEntry, ClassTable}
use Rattle.py_typed.specs.Order.{order, listed_order}
use Rattle.py_typed.proofs.FitLemmas.{and_left, and_right}
use Rattle.class_layout_members.specs.Clashes as members
use Rattle.class_layout_members.specs.Clashes.{Definition, own_members, members_along, clash_among, clashes}
use Rattle.py_check_classes.specs.declared.header.Header.{Header}
use Rattle.py_check_classes.specs.declared.header.Header.TheVariants.{Typed, Untyped}
use Rattle.py_check_classes.specs.declared.header.Shape.{Shape}
use Rattle.py_check_classes.specs.Headers.{has_type, entry}
use Rattle.py_check_classes.specs.Laws.{AreSound}
use Rattle.py_check_classes.proofs.OrderLemmas.{same_orders}
use Rattle.py_check_overrides.specs.Overrides.{Own, Clash, Verdict, passes, silent, passed, judged, clash_of, defined, defined_along, own_of, verdict, verdicts, verdicts_behind}
use Rattle.py_check_overrides.specs.Lines.{Tells, agrees_named}
use Rattle.py_check_overrides.specs.Laws.{AreAmong, IsTable, NoneFails}
use Rattle.py_check_overrides.proofs.ToldLemmas.{none_clashes, firsts_tell, first_in}
use Rattle.py_check_overrides.proofs.ClashLemmas.{quiet}
use Rattle.py_check_overrides.proofs.LineLemmas.{at_front, at_end}

-- ---- verdicts in a row

module _ (classes : List ClassEntry) (owns : List (List Own)) where
  kept : (hs : List Header) (before : List Verdict) (j : ℕ) → j < length before → slice_get (verdicts_behind classes owns before hs) j ≡ slice_get before j
  kept [] before j l = refl
  kept (h ∷ hs) before j l =
      let v = verdict classes owns before h in
      let many = length-append before (v ∷ []) in
      kept hs (before ++ v ∷ []) j (omega (arith, l, many)) ∙ at_front before (v ∷ []) j l

  -- the verdict on the class of a number, behind those on the classes before it
  pub record Stands (all : List Verdict) (c : ℕ) (h : Header) : Type 0 where
    pub before : List Verdict
    pub long : length before ≡ c
    pub is : slice_get all c ≡ Some (verdict classes owns before h)
    pub same : (j : ℕ) → j < c → slice_get all j ≡ slice_get before j

  pub stands : (hs : List Header) (before : List Verdict) (i c : ℕ) (h : Header) → c ≡ length before + i → slice_get hs i ≡ Some h → Stands (verdicts_behind classes owns before hs) c h
  stands [] before i c h at e = absurd (cc)
  stands (g ∷ hs) before zero c h at e =
      let v = verdict classes owns before g in
      let many = length-append before (v ∷ []) in
      let here : c ≡ length before = omega (arith, at) in
      let one : g ≡ h = cc in
      record {
        before = before;
        long = sym here;
        is = ap (slice_get (verdicts_behind classes owns (before ++ v ∷ []) hs)) here ∙ kept hs (before ++ v ∷ []) (length before) (omega (arith, many)) ∙ at_end before v ∙ ap (λ z. Some (verdict classes owns before z)) one;
        same = λ j l. kept hs (before ++ v ∷ []) j (omega (arith, l, here, many)) ∙ at_front before (v ∷ []) j (omega (arith, l, here));
      }
  stands (g ∷ hs) before (suc i) c h at e =
      let v = verdict classes owns before g in
      let many = length-append before (v ∷ []) in
      stands hs (before ++ v ∷ []) i c h (omega (arith, at, many)) e

all_other : {A : Type 0} (p r : A → Bool) (row : List A) → ((a : A) → p a ≡ true → r a ≡ true) → list_all p row ≡ true → list_all r row ≡ true
all_other p r [] h e = refl
all_other p r (a ∷ row) h e = ap₂ (λ x y. x && y) (h a (and_left (p a) (list_all p row) e)) (all_other p r row h (and_right (p a) (list_all p row) e))

shape_of : (o : Option Header) → has_type o ≡ true → (s : Shape) × (o ≡ Some (Typed s))
shape_of None e = absurd (cc)
shape_of (Some (Typed s)) e = (s, refl)
shape_of (Some (Untyped u)) e = absurd (cc)

module _ (headers : List Header) (owns : List (List Own)) (sound : AreSound headers) (none : NoneFails headers owns) where
  abbrev all : List Verdict
  all = verdicts headers owns

  nothing : (c : ℕ) (o : Option Clash) → slice_get all c ≡ Some (judged o) → o ≡ None
  nothing c None e = refl
  nothing c (Some f) e = absurd (none.none c f e)

  one_quiet : (c : ℕ) → c < length headers → ((b : ℕ) → b < c → slice_get all b ≡ Some passes) → clash_of (map entry headers) owns c ≡ None
  one_quiet c l before =
      let typed : _ = shape_of (slice_get headers c) (none.typed c l) in
      let s : Shape = typed.0 in
      let at : _ = stands (map entry headers) owns headers [] c c (Typed s) (omega arith) typed.1 in
      let good : _ = sound.each c s typed.1 in
      let bases : list_all (λ b. passed (slice_get at.before b)) s.bases ≡ true =
      all_other (λ b. nat_lt b c && has_type (slice_get headers b)) (λ b. passed (slice_get at.before b)) s.bases
      (λ b e. (let less = ltb-true b c (and_left (nat_lt b c) (has_type (slice_get headers b)) e) in ap passed (sym (at.same b less) ∙ before b less)))
      good.bases in
      nothing c (clash_of (map entry headers) owns c)
      (at.is
      ∙ ap (λ x. Some (if x then judged (clash_of (map entry headers) owns (length at.before)) else silent)) bases
      ∙ ap (λ n. Some (judged (clash_of (map entry headers) owns n))) at.long)

  one_passes : (c : ℕ) → c < length headers → clash_of (map entry headers) owns c ≡ None → ((b : ℕ) → b < c → slice_get all b ≡ Some passes) → slice_get all c ≡ Some passes
  one_passes c l is before =
      let typed : _ = shape_of (slice_get headers c) (none.typed c l) in
      let s : Shape = typed.0 in
      let at : _ = stands (map entry headers) owns headers [] c c (Typed s) (omega arith) typed.1 in
      let good : _ = sound.each c s typed.1 in
      let bases : list_all (λ b. passed (slice_get at.before b)) s.bases ≡ true =
      all_other (λ b. nat_lt b c && has_type (slice_get headers b)) (λ b. passed (slice_get at.before b)) s.bases
      (λ b e. (let less = ltb-true b c (and_left (nat_lt b c) (has_type (slice_get headers b)) e) in ap passed (sym (at.same b less) ∙ before b less)))
      good.bases in
      at.is
      ∙ ap (λ x. Some (if x then judged (clash_of (map entry headers) owns (length at.before)) else silent)) bases
      ∙ ap (λ n. Some (judged (clash_of (map entry headers) owns n))) at.long
      ∙ ap (λ o. Some (judged o)) is

  all_pass : (n c : ℕ) → c < n → c < length headers → slice_get all c ≡ Some passes
  all_pass zero c k l = absurd (omega (arith, k))
  all_pass (suc n) c k l =
      let before : (b : ℕ) → b < c → slice_get all b ≡ Some passes = λ b less. all_pass n b (omega (arith, less, k)) (omega (arith, less, l)) in
      one_passes c l (one_quiet c l before) before

  pub all_quiet : (c : ℕ) → c < length headers → clash_of (map entry headers) owns c ≡ None
  all_quiet c l = one_quiet c l (λ b less. all_pass c b less (omega (arith, less, l)))

-- ---- a table that says no more

module _ (owns : List (List Own)) (table : ClassTable) (says : (c : ℕ) → AreAmong (own_members table c) (defined (own_of owns c))) where
  pub among_along : (row : List ℕ) → AreAmong (members_along table row) (defined_along owns row)
  among_along [] test h = refl
  among_along (c ∷ row) test h =
      let parts : (list_all test (defined (own_of owns c)) && list_all test (defined_along owns row)) ≡ true = sym (list_all-append test (defined (own_of owns c)) (defined_along owns row)) ∙ h in
      list_all-append test (own_members table c) (members_along table row)
      ∙ ap₂ (λ x y. x && y)
      (says c test (and_left (list_all test (defined (own_of owns c))) (list_all test (defined_along owns row)) parts))
      (among_along row test (and_right (list_all test (defined (own_of owns c))) (list_all test (defined_along owns row)) parts))

none_among : (row rest : List (List ℕ × Definition)) → ((q : List ℕ) → clashes row q ≡ false) → find (λ p. clashes row p.0) rest ≡ None
none_among row [] h = refl
none_among row (p ∷ rest) h = ap (λ b. cond b (Some p) (find (λ r. clashes row r.0) rest)) (h p.0) ∙ none_among row rest h

pub all_agree : (headers : List Header) (owns : List (List Own)) (table : ClassTable) → AreSound headers → IsTable headers owns table → NoneFails headers owns → (c : ℕ) → c < length headers → members.clash_of table c ≡ None
all_agree headers owns table sound is none c l =
    let row = listed_order (order (map entry headers) c) in
    let same : order table.classes c ≡ order (map entry headers) c = sym (same_orders (map entry headers) table.classes sound.tree is.bases c) in
    let told : Tells (defined_along owns row) (first_in (defined_along owns row)) = firsts_tell (defined_along owns row) (quiet owns row (all_quiet headers owns sound none c l)) in
    let free : (q : List ℕ) → clashes (members_along table row) q ≡ false =
    none_clashes (members_along table row) (first_in (defined_along owns row)) (λ q. among_along owns table is.says row (agrees_named q (first_in (defined_along owns row) q)) (told q)) in
    ap (λ o. clash_among (members_along table (listed_order o))) same
    ∙ ap (option_map (λ (p : List ℕ × Definition). p.0)) (none_among (members_along table row) (members_along table row) free)
