-- The verdicts on some classes, computed.
use Rattle.std.proofs.Common.{◌≡◌, ℕ, Bool, true, false, List, [], ◌∷◌, Some, None, refl, codes}
use Rattle.py_typed.specs.Sorts.{Sort, Int, Str, Nothing}
use Rattle.class_layout_members.specs.Clashes.{OfType, OfSignature}
use Rattle.py_check_classes.specs.declared.header.Header.{Header}
use Rattle.py_check_classes.specs.declared.header.Header.TheVariants.{Typed}
use Rattle.py_check_classes.specs.Headers as headers
use Rattle.py_check_overrides.specs.Overrides.{Own, passes, fails, silent, clash_in, verdicts}

abbrev class : Bool → List ℕ → Header
class trait bases = Typed (record { is_trait = trait; bases = bases })

abbrev attribute : List ℕ → Sort → Own
attribute name t = (name, Some (OfType t))

abbrev method : List ℕ → List Sort → Own
method name params = (name, Some (OfSignature (Some (record { params = params; ret = Nothing }))))

abbrev without : List ℕ → Own
without name = (name, None)

-- a base has the member with another type, and nothing is said of a class below
base_differs : verdicts (class false [] ∷ class false (0 ∷ []) ∷ class false (1 ∷ []) ∷ []) ((attribute (codes "x") Int ∷ []) ∷ (attribute (codes "x") Str ∷ []) ∷ (attribute (codes "x") Int ∷ []) ∷ []) ≡ passes ∷ fails (clash_in (codes "x") 0) ∷ silent ∷ []
base_differs = refl

-- a trait differs from the base behind which it stands
trait_differs : verdicts (class false [] ∷ class true [] ∷ class false (0 ∷ 1 ∷ []) ∷ []) ((method (codes "m") [] ∷ []) ∷ (method (codes "m") (Int ∷ []) ∷ []) ∷ [] ∷ []) ≡ passes ∷ passes ∷ fails (clash_in (codes "m") 1) ∷ []
trait_differs = refl

-- each class may have an `__init__` of its own signature, but a method is no attribute
inits_differ : verdicts (class false [] ∷ class false (0 ∷ []) ∷ []) ((method (codes "__init__") [] ∷ method (codes "m") [] ∷ []) ∷ (method (codes "__init__") (Int ∷ []) ∷ attribute (codes "m") Int ∷ []) ∷ []) ≡ passes ∷ fails (clash_in (codes "m") 0) ∷ []
inits_differ = refl

-- a member of which nothing is said is passed over, and keeps its place among the members
passed_over : verdicts (class false [] ∷ class true [] ∷ class false (0 ∷ 1 ∷ []) ∷ []) ((attribute (codes "y") Int ∷ attribute (codes "x") Int ∷ []) ∷ (method (codes "x") [] ∷ method (codes "y") [] ∷ []) ∷ (without (codes "x") ∷ []) ∷ []) ≡ passes ∷ passes ∷ fails (clash_in (codes "x") 1) ∷ []
passed_over = refl

-- the first class whose definition differs from the first definition is named
first_is_named : verdicts (class false [] ∷ class false (0 ∷ []) ∷ class false (1 ∷ []) ∷ []) ((attribute (codes "x") Int ∷ []) ∷ (without (codes "x") ∷ []) ∷ (attribute (codes "x") Str ∷ []) ∷ []) ≡ passes ∷ passes ∷ fails (clash_in (codes "x") 0) ∷ []
first_is_named = refl

-- a class without a type is not asked
untyped : verdicts (headers.without_type false None ∷ []) ((attribute (codes "x") Int ∷ attribute (codes "x") Str ∷ []) ∷ []) ≡ silent ∷ []
untyped = refl
