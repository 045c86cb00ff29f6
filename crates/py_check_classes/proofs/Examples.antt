-- The headers of some classes, computed.
use Rattle.std.proofs.Common.{◌≡◌, ℕ, Bool, true, false, List, [], ◌∷◌, map, Some, None, refl, codes}
use Rattle.py_syntax.specs.declared.token.Span.{Span}
use Rattle.py_syntax.specs.Expressions as e
use Rattle.py_syntax.specs.Expressions.{ExprTree}
use Rattle.py_syntax.specs.Statements.{StmtNode, StmtTree, at, Annot, From, Pass, Def, ClassDef, suite_of}
use Rattle.py_check_classes.specs.declared.header.Header.{Header}
use Rattle.py_check_classes.specs.declared.header.Header.TheVariants.{Typed}
use Rattle.py_check_classes.specs.declared.header.HeaderFault.TheVariants.{AlreadyDefined, OutsideProfile, InvalidBase, InvalidBases, NoOrder}
use Rattle.py_check_classes.specs.Headers.{without_type, headers}

abbrev place : Span
place = record { line = 1; col = 1 }

abbrev on : StmtNode → StmtTree
on node = at node place

abbrev name : List ℕ → ExprTree
name x = e.at (e.Name x) place

abbrev import_trait : StmtTree
import_trait = on (From (codes "mypy_extensions") ((codes "trait", None) ∷ []))

abbrev class : List ℕ → List (List ℕ) → StmtTree
class x bases = on (ClassDef x (map name bases) (suite_of (on Pass ∷ [])) [])

abbrev trait_of : List ℕ → List (List ℕ) → List StmtTree → StmtTree
trait_of x bases body = on (ClassDef x (map name bases) (suite_of body) (name (codes "trait") ∷ []))

abbrev trait : List ℕ → List (List ℕ) → StmtTree
trait x bases = trait_of x bases (on Pass ∷ [])

abbrev method : List ℕ → StmtTree
method x = on (Def x ((codes "self", None) ∷ []) None (suite_of (on Pass ∷ [])) [])

abbrev declaration : List ℕ → StmtTree
declaration x = on (Annot (name x) (name (codes "int")) None)

abbrev typed : Bool → List ℕ → Header
typed kind bases = Typed (record { is_trait = kind; bases = bases })

abbrev A : List ℕ
A = codes "A"

abbrev B : List ℕ
B = codes "B"

abbrev C : List ℕ
C = codes "C"

abbrev D : List ℕ
D = codes "D"

no_class : headers (import_trait ∷ method A ∷ []) ≡ []
no_class = refl

-- the class first, and then its traits
class_with_traits : headers (import_trait ∷ class A [] ∷ trait B [] ∷ trait C [] ∷ class D (A ∷ B ∷ C ∷ []) ∷ []) ≡ typed false [] ∷ typed true [] ∷ typed true [] ∷ typed false (0 ∷ 1 ∷ 2 ∷ []) ∷ []
class_with_traits = refl

-- `trait` may be imported further down
diamond : headers (trait A [] ∷ trait B (A ∷ []) ∷ trait C (A ∷ []) ∷ class D (B ∷ C ∷ []) ∷ import_trait ∷ []) ≡ typed true [] ∷ typed true (0 ∷ []) ∷ typed true (0 ∷ []) ∷ typed false (1 ∷ 2 ∷ []) ∷ []
diamond = refl

no_trait : headers (trait A [] ∷ []) ≡ without_type false (Some OutsideProfile) ∷ []
no_trait = refl

trait_twice : headers (import_trait ∷ on (ClassDef A [] (suite_of (on Pass ∷ [])) (name (codes "trait") ∷ name (codes "trait") ∷ [])) ∷ []) ≡ without_type false (Some OutsideProfile) ∷ []
trait_twice = refl

second_of_a_name : headers (class A [] ∷ class A (A ∷ []) ∷ class B (A ∷ []) ∷ []) ≡ typed false [] ∷ without_type false (Some AlreadyDefined) ∷ typed false (0 ∷ []) ∷ []
second_of_a_name = refl

behind_a_function : headers (method A ∷ class A [] ∷ class B (A ∷ []) ∷ []) ≡ without_type false (Some AlreadyDefined) ∷ without_type false (Some InvalidBase) ∷ []
behind_a_function = refl

named_like_a_builtin : headers (class (codes "int") [] ∷ class A (codes "int" ∷ []) ∷ []) ≡ without_type false (Some AlreadyDefined) ∷ without_type false (Some InvalidBase) ∷ []
named_like_a_builtin = refl

its_own_base : headers (class A (A ∷ []) ∷ []) ≡ without_type false (Some InvalidBase) ∷ []
its_own_base = refl

-- whatever comes of it
base_further_down : headers (class A (B ∷ []) ∷ class B (B ∷ []) ∷ class C [] ∷ []) ≡ without_type false (Some InvalidBase) ∷ without_type false (Some InvalidBase) ∷ typed false [] ∷ []
base_further_down = refl

twice_one_base : headers (class A [] ∷ class B (A ∷ A ∷ []) ∷ []) ≡ typed false [] ∷ without_type false (Some InvalidBase) ∷ []
twice_one_base = refl

under_a_refused_one : headers (class A (A ∷ []) ∷ class B (A ∷ []) ∷ class B (B ∷ []) ∷ []) ≡ without_type false (Some InvalidBase) ∷ without_type false None ∷ without_type false None ∷ []
under_a_refused_one = refl

trait_under_a_refused_one : headers (import_trait ∷ trait A (A ∷ []) ∷ trait B (A ∷ []) ∷ []) ≡ without_type true (Some InvalidBase) ∷ without_type true None ∷ []
trait_under_a_refused_one = refl

two_that_are_no_traits : headers (class A [] ∷ class B [] ∷ class C (A ∷ B ∷ []) ∷ []) ≡ typed false [] ∷ typed false [] ∷ without_type false (Some InvalidBases) ∷ []
two_that_are_no_traits = refl

trait_under_a_class : headers (import_trait ∷ class A [] ∷ trait B (A ∷ []) ∷ []) ≡ typed false [] ∷ without_type true (Some InvalidBases) ∷ []
trait_under_a_class = refl

trait_with_attribute : headers (import_trait ∷ trait_of A [] (declaration B ∷ method B ∷ []) ∷ []) ≡ without_type true (Some InvalidBases) ∷ []
trait_with_attribute = refl

-- the declaration is refused, so there is no attribute
trait_with_method_of_that_name : headers (import_trait ∷ trait_of A [] (method B ∷ declaration B ∷ []) ∷ []) ≡ typed true [] ∷ []
trait_with_method_of_that_name = refl

trait_with_init : headers (import_trait ∷ trait_of A [] (method (codes "__init__") ∷ []) ∷ []) ≡ without_type true (Some InvalidBases) ∷ []
trait_with_init = refl

-- B stands under A, and may not come behind it
without_order : headers (import_trait ∷ trait A [] ∷ trait B (A ∷ []) ∷ class C (A ∷ B ∷ []) ∷ class D (C ∷ []) ∷ []) ≡ typed true [] ∷ typed true (0 ∷ []) ∷ without_type false (Some NoOrder) ∷ without_type false None ∷ []
without_order = refl
