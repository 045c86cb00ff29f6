-- Samples of places, of functions of methods, and of definitions that differ.
use Rattle.std.proofs.Common.{◌≡◌, ℕ, true, false, Bool, List, [], ◌∷◌, Some, None, refl, codes}
use Rattle.py_typed.specs.Sorts.{Sort, Int, Str}
use Rattle.py_typed.specs.Classes.{ClassEntry, ClassTable, Signature}
use Rattle.py_typed.specs.Order.{order, method_of, place_in, attributes}
use Rattle.class_layout_members.specs.Names.{place_of, attribute_names, method_names}
use Rattle.class_layout_members.specs.Clashes.{clash_of}

abbrev class_of : List ℕ → Bool → List ℕ → List (List ℕ × Sort) → List (List ℕ × ℕ) → ClassEntry
class_of name is_trait bases attributes methods = record { name = name; is_trait = is_trait; bases = bases; attributes = attributes; methods = methods }

-- @trait T: f; @trait U(T): g; A: a, f; B(A, U): b, g; C(B): c, h
abbrev five : List ClassEntry
five =
    class_of (codes "T") true [] [] ((codes "f", 0) ∷ [])
    ∷ class_of (codes "U") true (0 ∷ []) [] ((codes "g", 1) ∷ [])
    ∷ class_of (codes "A") false [] ((codes "a", Int) ∷ []) ((codes "f", 2) ∷ [])
    ∷ class_of (codes "B") false (2 ∷ 1 ∷ []) ((codes "b", Str) ∷ []) ((codes "g", 3) ∷ [])
    ∷ class_of (codes "C") false (3 ∷ []) ((codes "c", Int) ∷ []) ((codes "h", 4) ∷ [])
    ∷ []

order_of_c : order five 4 ≡ Some (4 ∷ 3 ∷ 2 ∷ 1 ∷ 0 ∷ [])
order_of_c = refl

-- B has the methods of A and then those of U, each once
methods_of_b : method_names five 3 ≡ codes "f" ∷ codes "g" ∷ []
methods_of_b = refl

-- C keeps the places of B, and B those of A
kept : (place_of (codes "f") (method_names five 2) ≡ Some 0) × (place_of (codes "f") (method_names five 4) ≡ Some 0) × (place_of (codes "h") (method_names five 4) ≡ Some 2)
kept = (refl, refl, refl)

attributes_of_c : (attribute_names five 4 ≡ codes "a" ∷ codes "b" ∷ codes "c" ∷ []) × (place_in (codes "c") (attributes five 4) ≡ Some 2)
attributes_of_c = (refl, refl)

-- asked for through U, f comes first, and h not at all
through_u : (place_of (codes "f") (method_names five 1) ≡ Some 0) × (place_of (codes "g") (method_names five 1) ≡ Some 1) × (place_of (codes "h") (method_names five 1) ≡ None)
through_u = (refl, refl, refl)

-- B has the f of A and its own g: a trait hides neither
functions_of_b : (method_of five 3 (codes "f") ≡ Some 2) × (method_of five 3 (codes "g") ≡ Some 3) × (method_of five 3 (codes "h") ≡ None)
functions_of_b = (refl, refl, refl)

abbrev gives_int : Signature
gives_int = record { params = []; ret = Int }

abbrev gives_text : Signature
gives_text = record { params = []; ret = Str }

abbrev with_signatures : List Signature → ClassTable
with_signatures row = record { classes = five; signatures = row }

all_agree : (clash_of (with_signatures (gives_int ∷ gives_int ∷ gives_int ∷ gives_int ∷ gives_int ∷ [])) 3 ≡ None) × (clash_of (with_signatures (gives_int ∷ gives_int ∷ gives_int ∷ gives_int ∷ gives_int ∷ [])) 4 ≡ None)
all_agree = (refl, refl)

-- the f of A and that of T meet first in B
they_meet : (clash_of (with_signatures (gives_text ∷ gives_int ∷ gives_int ∷ gives_int ∷ gives_int ∷ [])) 2 ≡ None) × (clash_of (with_signatures (gives_text ∷ gives_int ∷ gives_int ∷ gives_int ∷ gives_int ∷ [])) 3 ≡ Some (codes "f"))
they_meet = (refl, refl)

-- an attribute and a method of one name do not agree, `__init__` or not
abbrev two : List ℕ → ClassTable
two name =
    record {
      classes = class_of (codes "A") false [] ((name, Int) ∷ []) [] ∷ class_of (codes "B") false (0 ∷ []) [] ((name, 0) ∷ []) ∷ [];
      signatures = gives_int ∷ [];
    }

of_two_kinds : (clash_of (two (codes "a")) 1 ≡ Some (codes "a")) × (clash_of (two (codes "__init__")) 1 ≡ Some (codes "__init__"))
of_two_kinds = (refl, refl)

-- each class has its own `__init__`, and no other method of another signature
abbrev two_methods : List ℕ → ClassTable
two_methods name =
    record {
      classes = class_of (codes "A") false [] [] ((name, 0) ∷ []) ∷ class_of (codes "B") false (0 ∷ []) [] ((name, 1) ∷ []) ∷ [];
      signatures = gives_int ∷ gives_text ∷ [];
    }

of_two_signatures : (clash_of (two_methods (codes "m")) 1 ≡ Some (codes "m")) × (clash_of (two_methods (codes "__init__")) 1 ≡ None)
of_two_signatures = (refl, refl)

-- ---- traits beside a class: @trait T: who; @trait U: who; B: base; C(B, T, U)

abbrev beside : List ClassEntry
beside =
    class_of (codes "T") true [] [] ((codes "who", 0) ∷ [])
    ∷ class_of (codes "U") true [] [] ((codes "who", 1) ∷ [])
    ∷ class_of (codes "B") false [] [] ((codes "base", 2) ∷ [])
    ∷ class_of (codes "C") false (2 ∷ 0 ∷ 1 ∷ []) [] []
    ∷ []

order_beside : order beside 3 ≡ Some (3 ∷ 2 ∷ 0 ∷ 1 ∷ [])
order_beside = refl

-- C keeps the place of B's method, and has T's where it is asked through T, through U, or itself
functions_beside : (method_names beside 3 ≡ codes "base" ∷ codes "who" ∷ []) × (method_of beside 3 (codes "who") ≡ Some 0) × (method_of beside 3 (codes "base") ≡ Some 2) × (place_of (codes "who") (method_names beside 1) ≡ Some 0)
functions_beside = (refl, refl, refl, refl)

-- with @trait V(T) there is no class X(T, V)
crossed : order (class_of (codes "T") true [] [] [] ∷ class_of (codes "V") true (0 ∷ []) [] [] ∷ class_of (codes "X") false (0 ∷ 1 ∷ []) [] [] ∷ []) 2 ≡ None
crossed = refl

-- ---- a diamond: @trait T: f, g; @trait L(T): f; @trait R(T): f, g; C(L, R)

abbrev diamond : List ClassEntry
diamond =
    class_of (codes "T") true [] [] ((codes "f", 0) ∷ (codes "g", 1) ∷ [])
    ∷ class_of (codes "L") true (0 ∷ []) [] ((codes "f", 2) ∷ [])
    ∷ class_of (codes "R") true (0 ∷ []) [] ((codes "f", 3) ∷ (codes "g", 4) ∷ [])
    ∷ class_of (codes "C") false (1 ∷ 2 ∷ []) [] []
    ∷ []

-- T stands behind both, so C has the f of L and the g of R
of_diamond : (order diamond 3 ≡ Some (3 ∷ 1 ∷ 2 ∷ 0 ∷ [])) × (method_of diamond 3 (codes "f") ≡ Some 2) × (method_of diamond 3 (codes "g") ≡ Some 4) × (method_names diamond 3 ≡ codes "f" ∷ codes "g" ∷ [])
of_diamond = (refl, refl, refl, refl)

-- ---- a trait between a class and its trait: @trait T: f; @trait U(T): f; B(T); C(B, U)

abbrev between : List ClassEntry
between =
    class_of (codes "T") true [] [] ((codes "f", 0) ∷ [])
    ∷ class_of (codes "U") true (0 ∷ []) [] ((codes "f", 1) ∷ [])
    ∷ class_of (codes "B") false (0 ∷ []) [] []
    ∷ class_of (codes "C") false (2 ∷ 1 ∷ []) [] []
    ∷ []

-- U comes before T in the order of C, so C has the f of U, where B has that of T
of_between : (order between 3 ≡ Some (3 ∷ 2 ∷ 1 ∷ 0 ∷ [])) × (method_of between 2 (codes "f") ≡ Some 0) × (method_of between 3 (codes "f") ≡ Some 1)
of_between = (refl, refl, refl)
