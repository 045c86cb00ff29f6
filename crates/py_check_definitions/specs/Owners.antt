-- Whose the functions of a module are, by their numbers: the module's, or a class's.
use Rattle.std.specs.Prelude.{ℕ, ◌+◌, if◌then◌else◌, List, [], ◌∷◌, ◌++◌, map, length, Option, Some, None, slice_get}
use Rattle.py_syntax.specs.Statements.{StmtTree, at, Def, ClassDef, Suite}
use Rattle.py_check_names.specs.Outline.{methods_in, suite_definitions}
use Rattle.py_check_signatures.specs.declared.headers.Owner.{Owner}
use Rattle.py_check_signatures.specs.declared.headers.Owner.TheVariants.{Module, Class, UntypedTrait}
use Rattle.py_check_classes.specs.declared.header.Header.{Header}
use Rattle.py_check_classes.specs.Names.{class_in}
use Rattle.py_check_classes.specs.Headers.{has_type, is_untyped_trait, module_headers}

-- where classes have these headers
module _ (headers : List Header) where
  abbrev pub untyped_owner : ℕ → Owner
  untyped_owner n = if is_untyped_trait (slice_get headers n) then UntypedTrait else Class None

  -- whose the methods of the class of a number are
  abbrev pub class_owner : ℕ → Owner
  class_owner n = if has_type (slice_get headers n) then Class (Some n) else untyped_owner n

  -- of the functions that a definition holds, behind so many classes
  abbrev pub owners_in : ℕ → StmtTree → List Owner
  owners_in n (at (Def name params ret body marks) span) = Module ∷ []
  owners_in n (at (ClassDef name bases body marks) span) = map (λ f. class_owner n) (methods_in body)
  owners_in n _ = []

  abbrev pub owners_from : ℕ → List StmtTree → List Owner
  owners_from n [] = []
  owners_from n (s ∷ more) = owners_in n s ++ owners_from (n + length (class_in s)) more

-- THE OWNERS of all functions
abbrev pub owners : Suite → List Owner
owners m = owners_from (module_headers m) 0 (suite_definitions m)
