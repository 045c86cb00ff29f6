-- What lines name, and the functions of classes, as the runner finds it before a run.
use Rattle.std.specs.Prelude.{◌≡◌, ℕ, List, ◌∷◌, map, Option, Some, None, slice_get}
use Rattle.std.specs.List.{position}
use Rattle.std.specs.Option.{option_map}
use Rattle.std.specs.Str.{bytes_eq}
use Rattle.c_core.specs.declared.code.CArg.{CArg}
use Rattle.c_core.specs.declared.code.CArg.TheVariants as arg
use Rattle.c_core.specs.declared.code.CClass.{CClass}
use Rattle.c_core.specs.declared.code.CFunc.{CFunc}
use Rattle.c_core.specs.declared.code.Code.{Code}
use Rattle.c_core.specs.declared.code.Kind.{Kind}
use Rattle.c_core.specs.declared.code.Line.{Line}
use Rattle.c_core.specs.declared.code.Line.TheVariants.{Call, Goto, If, IfError}
use Rattle.c_core.specs.declared.primitive.Primitive.{Primitive}
use Rattle.c_core.specs.Arguments.{number_of_global, number_of_class}
use Rattle.c_core.specs.Functions.{label_places, function_named, number_of}
use Rattle.c_core.specs.Primitives.{primitive_named}
use Rattle.c_runner_table.specs.declared.naming.Callee.{Callee}
use Rattle.c_runner_table.specs.declared.naming.Callee.TheVariants as callee
use Rattle.c_runner_table.specs.declared.naming.Methods.{Methods}
use Rattle.c_runner_table.specs.declared.naming.Named.{Named}
use Rattle.c_runner_table.specs.declared.naming.Named.TheVariants as named
use Rattle.c_runner_table.specs.declared.naming.Tables.{Tables}
use Rattle.c_runner_table.specs.declared.naming.Target.{Target}

-- what is told by each name is the number of the first function of the name
abbrev pub AreNumbers : List CFunc → (List ℕ → Option ℕ) → Type 0
AreNumbers functions number = (name : List ℕ) → number name ≡ position (λ g. bytes_eq name g.name) functions

-- and of the first global of the name
abbrev pub AreGlobals : List (List ℕ × Kind) → (List ℕ → Option ℕ) → Type 0
AreGlobals globals number = (name : List ℕ) → number name ≡ position (λ g. bytes_eq name g.0) globals

-- and of the first class of the name
abbrev pub AreClasses : List CClass → (List ℕ → Option ℕ) → Type 0
AreClasses classes number = (name : List ℕ) → number name ≡ position (λ k. bytes_eq name k.name) classes

-- what a name calls: the primitive of the name, or else the function
abbrev pub callee_among : Option Primitive → Option ℕ → Option Callee
callee_among (Some p) f = Some (callee.Primitive p)
callee_among None f = option_map callee.Function f

abbrev pub callee_of : List CFunc → List ℕ → Option Callee
callee_of functions name = callee_among (primitive_named name) (function_named functions name)

-- the same as one thing
abbrev pub named_global : Option ℕ → Named
named_global None = named.Nothing
named_global (Some n) = named.Global n

abbrev pub named_class : Option ℕ → Named
named_class None = named.Nothing
named_class (Some n) = named.Class n

abbrev pub named_of : Code → List CArg → Named
named_of code (arg.Global name ∷ args) = named_global (number_of_global code name)
named_of code (arg.Class name ∷ args) = named_class (number_of_class code name)
named_of code _ = named.Nothing

abbrev pub global_in : Named → Option ℕ
global_in (named.Global n) = Some n
global_in _ = None

abbrev pub class_in : Named → Option ℕ
class_in (named.Class n) = Some n
class_in _ = None

-- what a line names, in a function whose labels stand at these places
abbrev pub target_of : Code → List ℕ → Line → Target
target_of code labels (Goto n) = record { first = slice_get labels n; second = None; callee = None; named = named.Nothing }
target_of code labels (If x n m) =
    record { first = slice_get labels n; second = slice_get labels m; callee = None; named = named.Nothing }
target_of code labels (IfError x n m) =
    record { first = slice_get labels n; second = slice_get labels m; callee = None; named = named.Nothing }
target_of code labels (Call x name args) =
    record { first = None; second = None; callee = callee_of code.funcs name; named = named_of code args }
target_of code labels _ = record { first = None; second = None; callee = None; named = named.Nothing }

abbrev pub targets_of : Code → List Line → List Target
targets_of code lines = map (target_of code (label_places lines)) lines

abbrev pub lines_of : Code → List (List Target)
lines_of code = map (λ g. targets_of code g.lines) code.funcs

-- the functions of a class by their numbers, among these functions
abbrev pub functions_of : List CFunc → CClass → Methods
functions_of functions k =
    record { own = map (number_of functions) k.methods; traits = map (λ t. map (number_of functions) t.1) k.traits }

abbrev pub methods_of : Code → List Methods
methods_of code = map (functions_of code.funcs) code.classes

abbrev pub table_of : Code → Tables
table_of code = record { lines = lines_of code; classes = methods_of code }
