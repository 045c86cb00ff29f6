-- No two calls of methods have one text.
use Rattle.std.proofs.Common.{◌≡◌, ◌∙◌, ℕ, List, [], ◌∷◌, ◌++◌, IsTrue, refl, ap, arith}
use Rattle.std.specs.Prelude.{codes}
use Rattle.std.specs.Fmt.{decimal}
use Rattle.std.specs.List.{list_all}
use Rattle.std.proofs.lemmas.List.{append_cancel_left}
use Rattle.c_core.specs.Text.{comma, type_text, var_text}
use Rattle.c_core.specs.WellFormed.{Declared, is_declared, is_identifier, spelled_label}
use Rattle.c_text.specs.Methods.{for_trait_text, method_behind, others_text, virtual_text}
use Rattle.c_text.specs.Statements.{AreNamed}
use Rattle.c_text.proofs.Bytes.{HasNo-identifier, and_true, comma_stops, differ, same_front}
use Rattle.c_text.proofs.ArgumentLemmas.{HasNo-variable}
use Rattle.c_text.proofs.MethodTexts.{others_end}
use Rattle.c_text.proofs.Numbers.{HasNo-decimal, same_label}
use Rattle.c_text.proofs.SameParts.{same_ends, same_variable}
use Rattle.c_text.proofs.VariableLemmas.{HaveOwnNames}

same_others : (vars : List Declared) (xs ys : List ℕ) → HaveOwnNames vars → AreNamed vars → IsTrue (list_all (is_declared vars) xs) → IsTrue (list_all (is_declared vars) ys) → others_text vars xs ≡ others_text vars ys → xs ≡ ys
same_others vars [] [] own names h k e = refl
same_others vars [] (y ∷ ys) own names h k e = absurd (differ e refl)
same_others vars (x ∷ xs) [] own names h k e = absurd (differ e refl)
same_others vars (x ∷ xs) (y ∷ ys) own names h k e =
    let p = and_true (is_declared vars x) _ h in
    let q = and_true (is_declared vars y) _ k in
    let s = same_ends (var_text vars x) (var_text vars y) (others_text vars xs) (others_text vars ys) (HasNo-variable 44 vars x (omega arith) comma_stops refl names p.0) (HasNo-variable 44 vars y (omega arith) comma_stops refl names q.0) (others_end vars xs) (others_end vars ys) (append_cancel_left comma _ _ e) in
    ap (λ z. z ∷ xs) (same_variable vars x y own p.0 q.0 s.0) ∙ ap (λ zs. y ∷ zs) (same_others vars xs ys own names p.1 q.1 s.1)

same_method : (vars : List Declared) (n m : ℕ) (xs ys : List ℕ) → HaveOwnNames vars → AreNamed vars → IsTrue (spelled_label n) → IsTrue (spelled_label m) → IsTrue (list_all (is_declared vars) xs) → IsTrue (list_all (is_declared vars) ys) → method_behind vars (n, xs) ≡ method_behind vars (m, ys) → (n ≡ m) × (xs ≡ ys)
same_method vars n m xs ys own names p q h k e =
    let s = same_ends (decimal n) (decimal m) (others_text vars xs) (others_text vars ys) (HasNo-decimal 44 n (λ r. omega (arith, r.0))) (HasNo-decimal 44 m (λ r. omega (arith, r.0))) (others_end vars xs) (others_end vars ys) (append_cancel_left comma _ _ e) in
    (same_label n m p q s.0, same_others vars xs ys own names h k s.1)

pub same_virtual : (vars : List Declared) (o p n m : ℕ) (xs ys : List ℕ) → HaveOwnNames vars → AreNamed vars → IsTrue (is_declared vars o) → IsTrue (is_declared vars p) → IsTrue (spelled_label n) → IsTrue (spelled_label m) → IsTrue (list_all (is_declared vars) xs) → IsTrue (list_all (is_declared vars) ys) → virtual_text vars o n xs ≡ virtual_text vars p m ys → (o ≡ p) × (n ≡ m) × (xs ≡ ys)
same_virtual vars o p n m xs ys own names a b c d h k e =
    let s = same_front 44 (var_text vars o) (var_text vars p) (32 ∷ (decimal n ++ others_text vars xs)) (32 ∷ (decimal m ++ others_text vars ys)) (HasNo-variable 44 vars o (omega arith) comma_stops refl names a) (HasNo-variable 44 vars p (omega arith) comma_stops refl names b) e in
    let r = same_method vars n m xs ys own names c d h k (ap (λ t. 44 ∷ t) s.1) in
    (same_variable vars o p own a b s.0, r.0, r.1)

pub same_for_trait : (vars : List Declared) (o p : ℕ) (t u : List ℕ) (n m : ℕ) (xs ys : List ℕ) → HaveOwnNames vars → AreNamed vars → IsTrue (is_declared vars o) → IsTrue (is_declared vars p) → IsTrue (is_identifier t) → IsTrue (is_identifier u) → IsTrue (spelled_label n) → IsTrue (spelled_label m) → IsTrue (list_all (is_declared vars) xs) → IsTrue (list_all (is_declared vars) ys) → for_trait_text vars o t n xs ≡ for_trait_text vars p u m ys → (o ≡ p) × (t ≡ u) × (n ≡ m) × (xs ≡ ys)
same_for_trait vars o p t u n m xs ys own names a b f g c d h k e =
    let s = same_front 44 (var_text vars o) (var_text vars p) (32 ∷ (type_text t ++ method_behind vars (n, xs))) (32 ∷ (type_text u ++ method_behind vars (m, ys))) (HasNo-variable 44 vars o (omega arith) comma_stops refl names a) (HasNo-variable 44 vars p (omega arith) comma_stops refl names b) e in
    let w = same_front 44 t u (32 ∷ (decimal n ++ others_text vars xs)) (32 ∷ (decimal m ++ others_text vars ys)) (HasNo-identifier 44 t (omega arith) comma_stops f) (HasNo-identifier 44 u (omega arith) comma_stops g) (append_cancel_left (codes " CPyType_") _ _ s.1) in
    let r = same_method vars n m xs ys own names c d h k (ap (λ z. 44 ∷ z) w.1) in
    (same_variable vars o p own a b s.0, w.0, r.0, r.1)
