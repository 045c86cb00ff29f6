-- No two types are each of the other, where the classes are a tree.
use Rattle.std.proofs.Common.{◌≡◌, ℕ, true, List, refl, sym, ap, ◌∙◌, arith}
use Rattle.py_typed.specs.Sorts.{Sort, TupleOf, Optional, Instance, Exc, Sorts, no_sorts, sort_then}
use Rattle.py_typed.specs.Classes.{ClassEntry, is_class_under}
use Rattle.py_typed.specs.Fits.{same, all_same}
use Rattle.py_typed.specs.Laws.{IsClassTree}
use Rattle.py_typed.proofs.FitLemmas.{and_left, and_right, one_type}
use Rattle.py_typed.proofs.ClassLemmas.{choose, under_falls}
use Rattle.py_typed.proofs.ExceptionLemmas.{exception_one_way}

module _ (classes : List ClassEntry) (tree : IsClassTree classes) where
  class_one_way : (c d : ℕ) → is_class_under classes c d ≡ true → is_class_under classes d c ≡ true → c ≡ d
  class_one_way c d e f = choose (under_falls classes c d e) (λ p. p) (λ p. choose (under_falls classes d c f) (λ q. sym q) (λ q. absurd (omega (arith, p, q))))

  mutual
    pub one_way : (s t : Sort) → same classes s t ≡ true → same classes t s ≡ true → s ≡ t
    one_way (Optional r) (Optional u) e f = ap Optional (one_way r u e f)
    one_way (TupleOf ss) (TupleOf ts) e f = ap TupleOf (one_way_rows ss ts e f)
    one_way (Instance c) (Instance d) e f = ap Instance (class_one_way c d e f)
    one_way (Exc c) (Exc d) e f = ap Exc (exception_one_way c d e f)
    one_way _ (Optional u) e f = absurd (cc)
    one_way (Optional r) _ e f = absurd (cc)
    one_way s t e f = one_type s t e

    one_way_rows : (ss ts : Sorts) → all_same classes ss ts ≡ true → all_same classes ts ss ≡ true → ss ≡ ts
    one_way_rows no_sorts no_sorts e f = refl
    one_way_rows (sort_then s ss) (sort_then t ts) e f =
        ap (λ x. sort_then x ss) (one_way s t (and_left (same classes s t) (all_same classes ss ts) e) (and_left (same classes t s) (all_same classes ts ss) f))
        ∙ ap (sort_then t) (one_way_rows ss ts (and_right (same classes s t) (all_same classes ss ts) e) (and_right (same classes t s) (all_same classes ts ss) f))
    one_way_rows no_sorts (sort_then t ts) e f = absurd (cc)
    one_way_rows (sort_then s ss) no_sorts e f = absurd (cc)
