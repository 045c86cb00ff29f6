-- What holds of the members of every class, whatever the names mean.
use Rattle.std.specs.Prelude.{◌≡◌, ℕ, Bool, true, false, not, ◌&&◌, List, [], ◌++◌, ◌∷◌, map, codes, Option, Some, None, slice_get}
use Rattle.std.specs.List.{list_all, flat_map}
use Rattle.std.specs.Map.{lookup}
use Rattle.std.specs.Str.{bytes_eq}
use Rattle.py_syntax.specs.Statements.{StmtTree, Suite, no_stmts, stmt_then, FuncTree, ClassTree}
use Rattle.py_typed.specs.WellTyped.{all_differ}
use Rattle.py_check_context.specs.declared.scope.Meaning.{Meaning}
use Rattle.py_check_context.specs.Members.{Member, method}
use Rattle.py_check_names.specs.Outline.{held_by}
use Rattle.py_check_signatures.specs.declared.headers.Owner.{Owner}
use Rattle.py_check_signatures.specs.declared.headers.Owner.TheVariants.{Class}
use Rattle.py_check_signatures.specs.Definitions.{is_new}
use Rattle.py_check_classes.specs.declared.header.Header.{Header}
use Rattle.py_check_classes.specs.Names.{classes_in}
use Rattle.py_check_classes.specs.Bodies.{defined_name, has_attributes, has_init}
use Rattle.py_check_members.specs.Deeds.{taken_name}
use Rattle.py_check_members.specs.Members.{own_members, own_at}
use Rattle.py_check_definitions.specs.Owners.{owners_from}

-- the members of the class of a number, where classes have these headers, names mean this in the module, and this in the function of
-- a number
abbrev pub members_of : List Header → (List ℕ → Meaning) → (ℕ → List ℕ → Meaning) → List StmtTree → ℕ → List (List ℕ × Member)
members_of headers meanings inner definitions n = own_at (own_members headers meanings inner definitions) n

-- THE LAW: no two members of a class have one name
abbrev pub NamesDiffer : Type 0
NamesDiffer =
    (headers : List Header) (meanings : List ℕ → Meaning) (inner : ℕ → List ℕ → Meaning) (definitions : List StmtTree) (n : ℕ)
    → all_differ (map (λ p. p.0) (members_of headers meanings inner definitions n)) ≡ true

abbrev pub is_method : Member → Bool
is_method (method f) = true
is_method m = false

-- a method that is no `__init__`
abbrev pub is_plain_method : List ℕ × Member → Bool
is_plain_method p = is_method p.1 && not (bytes_eq p.0 (codes "__init__"))

-- THE LAW: a class that declares no attribute in its body, and defines no `__init__`, has methods alone, and no `__init__`
abbrev pub PlainClassesHaveMethodsAlone : Type 0
PlainClassesHaveMethodsAlone =
    (headers : List Header) (meanings : List ℕ → Meaning) (inner : ℕ → List ℕ → Meaning) (definitions : List StmtTree) (n : ℕ) (x : ClassTree)
    → slice_get (classes_in definitions) n ≡ Some x → has_attributes x.body ≡ false → has_init x.body ≡ false
    → list_all is_plain_method (members_of headers meanings inner definitions n) ≡ true

-- the function of a number is one of this name, in the class of a number
pub record IsMethodOf (headers : List Header) (definitions : List StmtTree) (n f : ℕ) (name : List ℕ) : Type 0 where
  pub tree : FuncTree
  pub there : slice_get (flat_map held_by definitions) f ≡ Some tree
  pub owned : slice_get (owners_from headers 0 definitions) f ≡ Some (Class (Some n))
  pub named : tree.name ≡ name

-- THE LAW: the number of a method is that of a function of its name and its class
abbrev pub MethodsAreFunctions : Type 0
MethodsAreFunctions =
    (headers : List Header) (meanings : List ℕ → Meaning) (inner : ℕ → List ℕ → Meaning) (definitions : List StmtTree) (n f : ℕ) (name : List ℕ)
    → lookup (bytes_eq name) (members_of headers meanings inner definitions n) ≡ Some (method f) → IsMethodOf headers definitions n f name

-- in the body of a class each def has a name that is new there
abbrev pub is_name_new : List (List ℕ) → Option (List ℕ) → Bool
is_name_new earlier None = true
is_name_new earlier (Some name) = is_new earlier name

abbrev pub with_name : List (List ℕ) → Option (List ℕ) → List (List ℕ)
with_name earlier None = earlier
with_name earlier (Some name) = earlier ++ name ∷ []

abbrev pub are_defs_new : List (List ℕ) → Suite → Bool
are_defs_new earlier no_stmts = true
are_defs_new earlier (stmt_then s more) = is_name_new earlier (defined_name s) && are_defs_new (with_name earlier (taken_name s)) more

-- THE LAW: where that is so in each class, each function in a class with a type is its method of its name
abbrev pub NewFunctionsAreMethods : Type 0
NewFunctionsAreMethods =
    (headers : List Header) (meanings : List ℕ → Meaning) (inner : ℕ → List ℕ → Meaning) (definitions : List StmtTree)
    → list_all (λ x. are_defs_new [] x.body) (classes_in definitions) ≡ true → (n f : ℕ) (tree : FuncTree)
    → slice_get (flat_map held_by definitions) f ≡ Some tree → slice_get (owners_from headers 0 definitions) f ≡ Some (Class (Some n))
    → lookup (bytes_eq tree.name) (members_of headers meanings inner definitions n) ≡ Some (method f)
