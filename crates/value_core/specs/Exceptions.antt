-- Exceptions, and the tree of their classes (Python Library Reference, "Exception hierarchy"): each class but Exception has
-- one class directly above it, and a class is under another where going up from it leads there.
use Rattle.std.specs.Prelude.{ℕ, zero, suc, Bool, List, [], ◌∷◌, Option, Some, None, codes, find}
use Rattle.std.specs.List.{list_any}
use Rattle.std.specs.Str.{bytes_eq}
use Rattle.value_core.specs.declared.exception.ExcClass.{ExcClass}
use Rattle.value_core.specs.declared.exception.ExcClass.TheVariants.{Exception, ArithmeticError, ZeroDivisionError, OverflowError, LookupError, IndexError, KeyError, NameError, UnboundLocalError, ValueError, TypeError, AttributeError, AssertionError, RuntimeError, EOFError}

-- the class directly above
abbrev pub class_above : ExcClass → Option ExcClass
class_above Exception = None
class_above ArithmeticError = Some Exception
class_above ZeroDivisionError = Some ArithmeticError
class_above OverflowError = Some ArithmeticError
class_above LookupError = Some Exception
class_above IndexError = Some LookupError
class_above KeyError = Some LookupError
class_above NameError = Some Exception
class_above UnboundLocalError = Some NameError
class_above ValueError = Some Exception
class_above TypeError = Some Exception
class_above AttributeError = Some Exception
class_above AssertionError = Some Exception
class_above RuntimeError = Some Exception
class_above EOFError = Some Exception

-- the class's name
abbrev pub class_name : ExcClass → List ℕ
class_name Exception = codes "Exception"
class_name ArithmeticError = codes "ArithmeticError"
class_name ZeroDivisionError = codes "ZeroDivisionError"
class_name OverflowError = codes "OverflowError"
class_name LookupError = codes "LookupError"
class_name IndexError = codes "IndexError"
class_name KeyError = codes "KeyError"
class_name NameError = codes "NameError"
class_name UnboundLocalError = codes "UnboundLocalError"
class_name ValueError = codes "ValueError"
class_name TypeError = codes "TypeError"
class_name AttributeError = codes "AttributeError"
class_name AssertionError = codes "AssertionError"
class_name RuntimeError = codes "RuntimeError"
class_name EOFError = codes "EOFError"

-- whether a class has this name
abbrev pub is_called : List ℕ → ExcClass → Bool
is_called name c = bytes_eq (class_name c) name

abbrev pub class_and_above : ℕ → Option ExcClass → List ExcClass
class_and_above zero c = []
class_and_above (suc levels) None = []
class_and_above (suc levels) (Some c) = c ∷ class_and_above levels (class_above c)

-- a is b, or b stands above a: no class has more than two above it
abbrev pub is_under : ExcClass → ExcClass → Bool
is_under a b = list_any (is_called (class_name b)) (class_and_above 3 (Some a))

-- all classes
abbrev pub all_classes : List ExcClass
all_classes =
    Exception ∷ ArithmeticError ∷ ZeroDivisionError ∷ OverflowError ∷ LookupError ∷ IndexError ∷ KeyError ∷ NameError ∷ UnboundLocalError ∷ ValueError
    ∷ TypeError ∷ AttributeError ∷ AssertionError ∷ RuntimeError ∷ EOFError ∷ []

-- the class of this name, if there is one
abbrev pub class_named : List ℕ → Option ExcClass
class_named name = find (is_called name) all_classes

-- an exception: its class and its text
pub record Thrown : Type 0 where
  pub class : ExcClass
  pub text : List ℕ

-- the exception of this class and this text
abbrev pub thrown : ExcClass → List ℕ → Thrown
thrown c t = record { class = c; text = t }
