-- What names mean to the headers of classes (Python Language Reference, "Naming and binding").
--
-- Classes are numbered in the order of the text: each class statement of a module counts, also one that is refused. A name is a
-- builtin, or what the first def, class or import of it in the text says.
use Rattle.std.specs.Prelude.{ℕ, ◌+◌, Bool, true, false, ◌==◌, cond, List, [], ◌∷◌, count_by, Option, Some, None}
use Rattle.std.specs.List.{flat_map}
use Rattle.std.specs.Map.{lookup}
use Rattle.std.specs.Option.{option_or, option_and_then}
use Rattle.std.specs.Str.{bytes_eq}
use Rattle.py_syntax.specs.Expressions.{ExprTree}
use Rattle.py_syntax.specs.Statements.{StmtTree, at, ClassDef, ClassTree}
use Rattle.py_check_context.specs.declared.scope.Meaning.{Meaning}
use Rattle.py_check_context.specs.declared.scope.Meaning.TheVariants.{Class, UntypedClass, Import}
use Rattle.py_check_context.specs.declared.scope.Imported.TheVariants.{Trait}
use Rattle.py_check_flow.specs.Bindings.{name_in}
use Rattle.py_check_names.specs.Builtins.{builtin_meaning}
use Rattle.py_check_names.specs.Outline.{said_from}

-- ---- numbers

-- the classes that definitions hold, in the order of the text
abbrev pub class_in : StmtTree → List ClassTree
class_in (at (ClassDef name bases body marks) span) = record { name = name; bases = bases; body = body; marks = marks } ∷ []
class_in _ = []

abbrev pub classes_in : List StmtTree → List ClassTree
classes_in definitions = flat_map class_in definitions

-- what is said of the name of a class, before it has its number
abbrev pub is_class : Meaning → Bool
is_class UntypedClass = true
is_class _ = false

abbrev pub class_count : Meaning → ℕ
class_count m = cond (is_class m) 1 0

abbrev pub class_counts : List (List ℕ × Meaning) → ℕ
class_counts said = count_by (λ p. is_class p.1) said

abbrev pub with_number : ℕ → Meaning → Meaning
with_number next UntypedClass = Class next
with_number next m = m

-- what is said of names, with the number of each class
abbrev pub numbered : ℕ → List (List ℕ × Meaning) → List (List ℕ × Meaning)
numbered next [] = []
numbered next (p ∷ more) = (p.0, with_number next p.1) ∷ numbered (next + class_count p.1) more

-- what definitions and imports say of a name, first of all
abbrev pub said_of_names : List StmtTree → List ℕ → Option Meaning
said_of_names definitions name = lookup (bytes_eq name) (numbered 0 (said_from 0 definitions))

-- ---- meanings

-- the number of a class
abbrev pub class_number : Option Meaning → Option ℕ
class_number (Some (Class n)) = Some n
class_number _ = None

abbrev pub is_trait_import : Option Meaning → Bool
is_trait_import (Some (Import Trait)) = true
is_trait_import _ = false

abbrev pub is_number : ℕ → Option ℕ → Bool
is_number n None = false
is_number n (Some m) = m == n

-- where definitions and imports say this of names
module _ (said : List ℕ → Option Meaning) where
  abbrev pub meaning_of : List ℕ → Option Meaning
  meaning_of name = option_or (builtin_meaning name) (said name)

  -- what an expression means that is a name
  abbrev pub named : ExprTree → Option Meaning
  named e = option_and_then meaning_of (name_in e)

  -- the class that an expression names, by its number
  abbrev pub class_named : ExprTree → Option ℕ
  class_named e = class_number (named e)

  -- the name of the class of a number is new: it means that class, so nothing that is defined or imported before has it, and it
  -- is no builtin
  abbrev pub is_new : ℕ → List ℕ → Bool
  is_new own name = is_number own (class_number (meaning_of name))

  -- the one decorator that a class may have
  abbrev pub is_trait_mark : List ExprTree → Bool
  is_trait_mark (e ∷ []) = is_trait_import (named e)
  is_trait_mark _ = false

  -- no decorator, or that one
  abbrev pub are_decorators : List ExprTree → Bool
  are_decorators [] = true
  are_decorators (e ∷ more) = is_trait_mark (e ∷ more)
