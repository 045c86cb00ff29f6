-- The global and the class that a call names.
use Rattle.std.proofs.Common.{◌≡◌, refl, ℕ, List, [], ◌∷◌, Option, Some, None}
use Rattle.c_core.specs.declared.code.CArg.{CArg}
use Rattle.c_core.specs.declared.code.CArg.TheVariants as arg
use Rattle.c_core.specs.declared.code.Code.{Code}
use Rattle.c_core.specs.Arguments.{number_of_global, number_of_class}
use Rattle.c_runner_table.specs.Targets.{named_global, named_class, named_of, global_in, class_in}
use Rattle.c_runner_deeds.specs.Parts.{global_of, class_of}

-- ---- what the first argument names
global_back : (o : Option ℕ) → global_in (named_global o) ≡ o
global_back None = refl
global_back (Some n) = refl

class_back : (o : Option ℕ) → class_in (named_class o) ≡ o
class_back None = refl
class_back (Some n) = refl

no_class : (o : Option ℕ) → class_in (named_global o) ≡ None
no_class None = refl
no_class (Some n) = refl

no_global : (o : Option ℕ) → global_in (named_class o) ≡ None
no_global None = refl
no_global (Some n) = refl

pub global_is : (code : Code) (args : List CArg) → global_in (named_of code args) ≡ global_of code args
global_is code [] = refl
global_is code (arg.Global name ∷ args) = global_back (number_of_global code name)
global_is code (arg.Class name ∷ args) = no_global (number_of_class code name)
global_is code (_ ∷ args) = refl

pub class_is : (code : Code) (args : List CArg) → class_in (named_of code args) ≡ class_of code args
class_is code [] = refl
class_is code (arg.Global name ∷ args) = no_class (number_of_global code name)
class_is code (arg.Class name ∷ args) = class_back (number_of_class code name)
class_is code (_ ∷ args) = refl
