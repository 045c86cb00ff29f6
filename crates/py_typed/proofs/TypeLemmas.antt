-- Where one row of types has come to its end.
use Rattle.std.proofs.Common.{◌≡◌, ℕ, zero, suc, ◌≤◌, ◌<◌, List, [], ◌∷◌, length, map, drop, slice_get, true, false, nat_eq, refl, arith}
use Rattle.std.proofs.lemmas.Grind.{common_steps}
use Rattle.py_typed.specs.declared.types.Ty.{Ty}
use Rattle.py_typed.specs.Sorts.{Sorts, no_sorts, sort, sorts_of}
use Rattle.py_typed.specs.declared.classes.ClassInfo.{ClassInfo}
use Rattle.std.specs.Option.{option_map}
use Rattle.py_typed.specs.Classes.{ClassEntry, class_entry}
use Rattle.py_typed.specs.Fits.{are_same_types, all_same}
use Rattle.py_typed.specs.TypeTexts.{types_text, further_types}

both_end : (ts : List Ty) (i : ℕ) → i ≡ length ts → are_same_types no_sorts (sorts_of (map sort (drop i ts))) ≡ true
both_end [] zero h = refl
both_end [] (suc i) h = refl
both_end (t ∷ ts) zero h = absurd (omega arith)
both_end (t ∷ ts) (suc i) h = both_end ts i (omega arith)

one_ends : (ts : List Ty) (i : ℕ) → i < length ts → are_same_types no_sorts (sorts_of (map sort (drop i ts))) ≡ false
one_ends [] zero h = absurd (omega arith)
one_ends [] (suc i) h = absurd (omega arith)
one_ends (t ∷ ts) zero h = refl
one_ends (t ∷ ts) (suc i) h = one_ends ts i (omega arith)

pub same_at_end : (ts : List Ty) (i : ℕ) → i ≤ length ts → are_same_types no_sorts (sorts_of (map sort (drop i ts))) ≡ nat_eq i (length ts)
same_at_end ts i h = grind (arith, common_steps, both_end ts i, one_ends ts i)

module _ (classes : List ClassEntry) where
  also_both_end : (ts : List Ty) (i : ℕ) → i ≡ length ts → all_same classes (sorts_of (map sort (drop i ts))) no_sorts ≡ true
  also_both_end [] zero h = refl
  also_both_end [] (suc i) h = refl
  also_both_end (t ∷ ts) zero h = absurd (omega arith)
  also_both_end (t ∷ ts) (suc i) h = also_both_end ts i (omega arith)

  also_one_ends : (ts : List Ty) (i : ℕ) → i < length ts → all_same classes (sorts_of (map sort (drop i ts))) no_sorts ≡ false
  also_one_ends [] zero h = absurd (omega arith)
  also_one_ends [] (suc i) h = absurd (omega arith)
  also_one_ends (t ∷ ts) zero h = refl
  also_one_ends (t ∷ ts) (suc i) h = also_one_ends ts i (omega arith)

pub also_at_end : (classes : List ClassEntry) (ts : List Ty) (i : ℕ) → i ≤ length ts → all_same classes (sorts_of (map sort (drop i ts))) no_sorts ≡ nat_eq (length ts) i
also_at_end classes ts i h = grind (arith, common_steps, also_both_end classes ts i, also_one_ends classes ts i)

-- the text of types behind i others
abbrev pub types_from : List ClassEntry → ℕ → Sorts → List ℕ
types_from classes zero ts = types_text classes ts
types_from classes (suc i) ts = further_types classes ts

-- ---- classes

pub entry_found : (classes : List ClassInfo) (c : ℕ) → slice_get (map class_entry classes) c ≡ option_map class_entry (slice_get classes c)
entry_found [] c = refl
entry_found (i ∷ more) zero = refl
entry_found (i ∷ more) (suc c) = entry_found more c
