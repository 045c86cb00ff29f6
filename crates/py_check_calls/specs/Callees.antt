-- What is called (Python Language Reference, "Calls").
--
-- A name that is called is not typed itself: a function that has a signature, a class, a builtin that is called, or an exception
-- class; nor is `super().__init__`, which is one callee. A variable is read like everywhere, and any other expression is typed, though
-- neither is callable. A class is called with what its `__init__` takes, or with nothing where it has none; and `super().__init__`
-- stands in the `__init__` of a class that is no trait, and is the next one behind that class. Of a name without a type nothing is
-- said, nor of a function without a signature; nor of a name that is not known, of which binding says so.
use Rattle.std.specs.Prelude.{ℕ, Bool, true, false, not, ◌&&◌, List, [], codes, Option, Some, None, slice_get, if◌then◌else◌}
use Rattle.std.specs.Option.{option_map}
use Rattle.std.specs.Str.{bytes_eq}
use Rattle.value_core.specs.declared.exception.ExcClass.{ExcClass}
use Rattle.py_syntax.specs.Expressions as tree
use Rattle.py_syntax.specs.Expressions.{ExprTree, ExprNode, at, Arguments, no_arguments, argument_then, keyed_then}
use Rattle.py_typed.specs.Sorts.{Sort}
use Rattle.py_typed.specs.Classes.{Signature}
use Rattle.py_typed.specs.WellTypedExpr.{is_trait_in}
use Rattle.py_check_context.specs.declared.scope.Meaning.{Meaning}
use Rattle.py_check_context.specs.declared.scope.Meaning.TheVariants as meaning
use Rattle.py_check_context.specs.declared.scope.Builtin.{Builtin}
use Rattle.py_check_context.specs.declared.scope.Builtin.TheVariants as builtin
use Rattle.py_check_context.specs.declared.scope.Imported.{Imported}
use Rattle.py_check_context.specs.declared.scope.Imported.TheVariants as imported
use Rattle.py_check_context.specs.Members.{Inside}
use Rattle.py_check_context.specs.Context.{Context, some_signature}
use Rattle.py_check_calls.specs.declared.callees.Single.{Single}
use Rattle.py_check_calls.specs.declared.callees.Single.TheVariants as one

pub data Callee : Type 0 where
  -- of a name and a number
  function : List ℕ → ℕ → Signature → Callee
  -- a class, of a name and a number, with what its `__init__` takes; and a trait, which has no instances
  class : List ℕ → ℕ → List Sort → Callee
  trait : List ℕ → List Sort → Callee
  -- the next `__init__`, by the number of its function, if there is one, with what it takes
  super_init : Option ℕ → List Sort → Callee
  print : Callee
  input : Callee
  range : Callee
  -- a builtin that takes one value
  single : Single → Callee
  -- an exception class
  exception : ExcClass → Callee
  -- of a value, by its name
  method : List ℕ → Callee
  -- nothing is said of it
  voiceless : Callee
  -- a name of what is not called
  uncalled : Callee
  -- an expression, which has a value and is not called
  value : Callee

abbrev pub function_called : List ℕ → ℕ → Option Signature → Callee
function_called x i (Some s) = function x i s
function_called x i None = voiceless

abbrev pub builtin_called : Builtin → Callee
builtin_called builtin.Print = print
builtin_called builtin.Input = input
builtin_called builtin.Len = single one.Len
builtin_called builtin.Range = range
builtin_called builtin.Str = single one.Str
builtin_called builtin.Int = single one.Int
builtin_called builtin.Bool = uncalled
builtin_called builtin.List = uncalled
builtin_called builtin.Dict = uncalled
builtin_called builtin.Tuple = uncalled
builtin_called builtin.Super = uncalled

abbrev pub import_called : Imported → Callee
import_called imported.I64 = single one.I64
import_called imported.Optional = uncalled
import_called imported.List = uncalled
import_called imported.Dict = uncalled
import_called imported.Tuple = uncalled
import_called imported.Trait = uncalled
import_called imported.Annotations = uncalled

-- a class, a trait and `super().__init__`, by what the `__init__` takes, where that is known
abbrev pub instance_called : List ℕ → ℕ → Option (List Sort) → Callee
instance_called x n (Some params) = class x n params
instance_called x n None = voiceless

abbrev pub trait_called : List ℕ → Option (List Sort) → Callee
trait_called x (Some params) = trait x params
trait_called x None = trait x []

abbrev pub next_called : Option ℕ → Option (List Sort) → Callee
next_called next (Some params) = super_init next params
next_called next None = voiceless

abbrev pub is_variable : Meaning → Bool
is_variable (meaning.Local i) = true
is_variable (meaning.Global i) = true
is_variable m = false

abbrev pub is_super : Meaning → Bool
is_super (meaning.Builtin builtin.Super) = true
is_super m = false

abbrev pub is_none : Arguments → Bool
is_none no_arguments = true
is_none (argument_then e more) = false
is_none (keyed_then k e more) = false

module _ (c : Context) where
  -- what an `__init__` takes: nothing where there is none, and nothing is known of one without a signature
  abbrev pub init_takes : Option ℕ → Option (List Sort)
  init_takes None = Some []
  init_takes (Some f) = option_map (λ s. s.params) (some_signature (slice_get c.signatures f))

  -- ---- classes

  abbrev pub class_called : List ℕ → ℕ → Bool → Callee
  class_called x n true = trait_called x (init_takes (c.init n))
  class_called x n false = instance_called x n (init_takes (c.init n))

  -- ---- `super().__init__`

  abbrev pub names_super : ExprTree → Bool
  names_super (at (tree.Name x) place) = is_super (c.meaning x)
  names_super (at node place) = false

  abbrev pub is_super_call : ExprTree → Bool
  is_super_call (at (tree.Call f args) place) = names_super f && is_none args
  is_super_call (at node place) = false

  abbrev pub is_super_init : ExprNode → Bool
  is_super_init (tree.Attr e m) = is_super_call e && bytes_eq m (codes "__init__")
  is_super_init node = false

  -- in the `__init__` of a class; of a class without a type nothing is known
  abbrev pub super_called_in : Option ℕ → Option ℕ → Callee
  super_called_in None next = voiceless
  super_called_in (Some n) next = if is_trait_in (slice_get c.classes n) then uncalled else next_called next (init_takes next)

  abbrev pub super_called : Option Inside → Callee
  super_called None = uncalled
  super_called (Some i) = if i.is_init then super_called_in i.class i.next_init else uncalled

  -- ---- all callees

  abbrev pub name_called : List ℕ → Meaning → Callee
  name_called x (meaning.Function i) = function_called x i (some_signature (slice_get c.signatures i))
  name_called x (meaning.Class n) = class_called x n (is_trait_in (slice_get c.classes n))
  name_called x (meaning.Builtin b) = builtin_called b
  name_called x (meaning.Import i) = import_called i
  name_called x (meaning.Exception e) = exception e
  name_called x (meaning.Local i) = value
  name_called x (meaning.Global i) = value
  name_called x meaning.ModuleName = uncalled
  name_called x meaning.Unknown = voiceless
  name_called x meaning.Untyped = voiceless
  name_called x meaning.UntypedClass = voiceless

  abbrev pub attribute_called : ExprNode → List ℕ → Callee
  attribute_called node m = if is_super_init node then super_called c.inside else method m

  abbrev pub node_called : ExprNode → Callee
  node_called (tree.Name x) = name_called x (c.meaning x)
  node_called (tree.Attr e m) = attribute_called (tree.Attr e m) m
  node_called node = value

  abbrev pub callee : ExprTree → Callee
  callee (at node span) = node_called node

  -- a callee that is not typed itself: a name of no variable, or the method of a value, which is
  abbrev pub is_named : ExprNode → Bool
  is_named (tree.Name x) = not (is_variable (c.meaning x))
  is_named (tree.Attr e m) = true
  is_named node = false

  abbrev pub is_named_tree : ExprTree → Bool
  is_named_tree (at node span) = is_named node

-- an argument with a key is among these
abbrev pub has_key : Arguments → Bool
has_key no_arguments = false
has_key (argument_then e more) = has_key more
has_key (keyed_then k e more) = true
