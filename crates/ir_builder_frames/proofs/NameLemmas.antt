-- A temporary name is one that no register has.
use Rattle.ir_builder_frames.proofs.Common.{◌≡◌, ℕ, zero, suc, ◌+◌, ◌^◌, ◌<◌, ◌≤◌, Bool, true, false, not, List, [], ◌∷◌, ◌++◌, take, Some, refl, sym, ap, ◌∙◌, arith, length-append, slice_get, ◌&&◌, ◌||◌, codes, decimal, list_any, bytes_eq, ⊎_elim, append_cancel_left, bytes_eq-Decides, names_differ, bytes_eq-sym, RType, Declared, temporary_name}
use Rattle.std.proofs.lemmas.Fmt.{decimal_injective}
use Rattle.std.proofs.lemmas.List.Folds.{list_any-append}
use Rattle.c_core.proofs.WellFormedLemmas.{any_name}
use Rattle.ir_builder_frames.specs.Naming.{names_of, AreNamed}
use Rattle.ir_builder_frames.proofs.KindLemmas.{get_behind}

-- one of the registers has the name
abbrev pub is_name_in : List ℕ → Declared → Bool
is_name_in name regs = list_any (λ d. bytes_eq name d.0) regs

pub or_false : (a b : Bool) → (a || b) ≡ false → (a ≡ false) × (b ≡ false)
or_false true b e = absurd (cc)
or_false false b e = (refl, e)

false_or : (a b : Bool) → a ≡ false → b ≡ false → (a || b) ≡ false
false_or true b e f = e
false_or false b e f = f

not_true : (b : Bool) → (b ≡ true → ⊥) → b ≡ false
not_true true f = absurd (f refl)
not_true false f = refl

-- ---- temporary names of different numbers

pub temporary_differ : (j k : ℕ) → j < k → k < 2 ^ 64 → bytes_eq (temporary_name k) (temporary_name j) ≡ false
temporary_differ j k lt small =
    not_true (bytes_eq (temporary_name k) (temporary_name j))
    (λ e.
    let same : temporary_name k ≡ temporary_name j = (bytes_eq-Decides (temporary_name k) (temporary_name j)).0 e in
    let number : k ≡ j = decimal_injective k j small (omega arith) (append_cancel_left (codes "r") (decimal k) (decimal j) same) in
    omega arith)

-- ---- a name that none of the registers has

none_after : (name : List ℕ) (ds : Declared) → ((i : ℕ) (d : List ℕ × RType) → slice_get ds i ≡ Some d → bytes_eq name d.0 ≡ false) → is_name_in name ds ≡ false
none_after name [] h = refl
none_after name (d ∷ ds) h = false_or (bytes_eq name d.0) (is_name_in name ds) (h 0 d refl) (none_after name ds (λ i x e. h (suc i) x e))

none_in : (name : List ℕ) (count : ℕ) (ds : Declared) → is_name_in name (take count ds) ≡ false → ((i : ℕ) (d : List ℕ × RType) → count ≤ i → slice_get ds i ≡ Some d → bytes_eq name d.0 ≡ false) → is_name_in name ds ≡ false
none_in name zero ds f h = none_after name ds (λ i d e. h i d (omega arith) e)
none_in name (suc n) [] f h = refl
none_in name (suc n) (d ∷ ds) f h =
    let parts = or_false (bytes_eq name d.0) (is_name_in name (take n ds)) f in
    false_or (bytes_eq name d.0) (is_name_in name ds) parts.0 (none_in name n ds parts.1 (λ i x le e. h (suc i) x (omega arith) e))

-- ---- names of which one more is none of the others

pub not_false : (a : Bool) → not a ≡ true → a ≡ false
not_false true e = absurd (cc)
not_false false e = refl

pub and_parts : (a b : Bool) → (a && b) ≡ true → (a ≡ true) × (b ≡ true)
and_parts true b e = (refl, e)
and_parts false b e = absurd (cc)

true_and : (a b : Bool) → a ≡ false → b ≡ true → (not a && b) ≡ true
true_and true b e f = absurd (cc)
true_and false b e f = f

pub differ_behind : (ds : Declared) (name : List ℕ) (t : RType) → names_differ (names_of ds) ≡ true → is_name_in name ds ≡ false → names_differ (names_of (ds ++ (name, t) ∷ [])) ≡ true
differ_behind [] name t e f = refl
differ_behind (d ∷ ds) name t e f =
    let parts = and_parts (not (list_any (bytes_eq d.0) (names_of ds))) (names_differ (names_of ds)) e in
    let here = or_false (bytes_eq name d.0) (is_name_in name ds) f in
    let other : is_name_in d.0 ds ≡ false = sym (any_name (λ (v : List ℕ × RType). v.0) d.0 ds) ∙ not_false (list_any (bytes_eq d.0) (names_of ds)) parts.0 in
    let alone : is_name_in d.0 ((name, t) ∷ []) ≡ false = false_or (bytes_eq d.0 name) false (bytes_eq-sym d.0 name ∙ here.0) refl in
    let none : list_any (bytes_eq d.0) (names_of (ds ++ (name, t) ∷ [])) ≡ false =
    any_name (λ (v : List ℕ × RType). v.0) d.0 (ds ++ (name, t) ∷ [])
    ∙ list_any-append (λ (v : List ℕ × RType). bytes_eq d.0 v.0) ds ((name, t) ∷ [])
    ∙ false_or (is_name_in d.0 ds) (is_name_in d.0 ((name, t) ∷ [])) other alone in
    true_and (list_any (bytes_eq d.0) (names_of (ds ++ (name, t) ∷ []))) (names_differ (names_of (ds ++ (name, t) ∷ []))) none (differ_behind ds name t parts.1 here.1)

-- ---- one more temporary name

pub named_more : (count next k : ℕ) (regs : Declared) (name : List ℕ) (t : RType) → AreNamed count next regs → name ≡ temporary_name k → next ≤ k → k < 2 ^ 64 → is_name_in name (take count regs) ≡ false → AreNamed count (k + 1) (regs ++ (name, t) ∷ [])
named_more count next k regs name t a is le small fresh =
    let old = a.within in
    record {
      within = omega (arith, length-append regs ((name, t) ∷ []));
      differ = differ_behind regs name t a.differ (none_in name count regs fresh (λ i d from e.
          let n = a.numbered i d from e in
          let below = n.1 in
          ap (λ x. bytes_eq x d.0) is ∙ ap (bytes_eq (temporary_name k)) n.2 ∙ temporary_differ n.0 k (omega arith) small));
      numbered = λ i d from e. ⊎_elim
          (λ there. let n = a.numbered i d from there in let below = n.1 in (n.0, (let lt : n.0 < k + 1 = omega arith in lt), n.2))
          (λ new. (k, (let lt : k < k + 1 = omega arith in lt), ap (λ (v : List ℕ × RType). v.0) new ∙ is))
          (get_behind regs (name, t) d i e);
    }

pub named_later : (count next later : ℕ) (regs : Declared) → next ≤ later → AreNamed count next regs → AreNamed count later regs
named_later count next later regs le a = record {
  within = a.within;
  differ = a.differ;
  numbered = λ i d from e. let n = a.numbered i d from e in let below = n.1 in (n.0, (let lt : n.0 < later = omega arith in lt), n.2);
}
