-- What the names in a line stand for, and maps by which it is found.
use Rattle.std.specs.Prelude.{◌≡◌, ℕ, ℤ, pos, negsuc, Bool, true, false, List, [], ◌∷◌, Option, Some, None}
use Rattle.std.specs.List.{position}
use Rattle.std.specs.Str.{bytes_eq}
use Rattle.std.specs.Ordering.{nat_cmp}
use Rattle.std.specs.Cmp.Lexicographic.{slice_cmp}
use Rattle.std.specs.BTreeMap.{BTreeMap, get_by}
use Rattle.std.proofs.Common.{Bor}
use Rattle.c_core.specs.declared.code.CArg.{CArg}
use Rattle.c_core.specs.declared.code.CArg.TheVariants as arg
use Rattle.c_core.specs.declared.code.Line.{Line}
use Rattle.c_core.specs.declared.code.Line.TheVariants.{Call, TraitCall}
use Rattle.c_core.specs.declared.code.Code.{Code}
use Rattle.c_core.specs.declared.names.Found.{Found}
use Rattle.c_core.specs.declared.checked.Tables.{Tables}
use Rattle.c_core.specs.WellFormed.{named_kind, callee_of, has_class}

-- ---- names in a line
-- the arguments of a call of a primitive or a function
abbrev pub args_of : Line → List CArg
args_of (Call x name args) = args
args_of _ = []

-- the global and the class that arguments name first
abbrev pub global_in : List CArg → Option (List ℕ)
global_in (arg.Global name ∷ rest) = Some name
global_in _ = None

abbrev pub class_in : List CArg → Option (List ℕ)
class_in (arg.Class name ∷ rest) = Some name
class_in _ = None

-- the class that a line names, by an argument or as the trait of a call
abbrev pub class_of : Line → Option (List ℕ)
class_of (TraitCall x o t n args) = Some t
class_of line = class_in (args_of line)

-- whether a class that is named is there
abbrev pub is_class : Code → Option (List ℕ) → Bool
is_class code None = false
is_class code (Some name) = has_class code name

-- this was found for the names in a line
pub record IsFound (code : Code) (line : Line) (found : Found) : Type 0 where
  pub callee : found.callee ≡ callee_of code.funcs line
  pub global : found.global ≡ named_kind code (args_of line)
  pub class : found.class ≡ is_class code (class_of line)

-- whether a number may be that of a slot
abbrev pub is_place : ℤ → Bool
is_place (pos n) = true
is_place (negsuc n) = false

-- ---- maps
-- the number of a name in a map
abbrev pub number_in : BTreeMap (Bor (List ℕ)) ℕ → List ℕ → Option ℕ
number_in numbers name = get_by (λ key. slice_cmp nat_cmp name key.now) numbers

-- each name has the number of the first that has this name
abbrev pub IsIndex : {A : Type 0} → (A → List ℕ) → List A → BTreeMap (Bor (List ℕ)) ℕ → Type 0
IsIndex name_of items numbers =
    (name : List ℕ) → number_in numbers name ≡ position (λ item. bytes_eq name (name_of item)) items

-- a code without names
abbrev pub no_code : Code
no_code = record { globals = []; classes = []; funcs = [] }

-- the names of a code's functions, globals and classes have their numbers
pub record IsKnown (code : Code) (tables : Tables) : Type 0 where
  pub functions : IsIndex (λ g. g.name) code.funcs tables.functions
  pub globals : IsIndex (λ v. v.0) code.globals tables.globals
  pub classes : IsIndex (λ k. k.name) code.classes tables.classes
