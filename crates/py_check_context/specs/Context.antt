-- What a rule may look at: what names mean, the signatures of functions, the classes and their members, the method that a place
-- stands in, and the types of variables so far; and what a place asks of the expression that stands there (Python Language Reference,
-- "Naming and binding"; PEP 484).
use Rattle.std.specs.Prelude.{ℕ, List, [], ◌∷◌, map, Option, Some, None, slice_get, unwrap_or}
use Rattle.std.specs.Option.{option_map}
use Rattle.std.specs.Str.{bytes_eq}
use Rattle.indexmap.specs.IndexMap.{get}
use Rattle.py_typed.specs.Sorts.{Sort, sort}
use Rattle.py_typed.specs.Classes.{ClassEntry, class_entry, Signature, signature}
use Rattle.py_check_context.specs.declared.scope.Meaning.{Meaning}
use Rattle.py_check_context.specs.declared.scope.Meaning.TheVariants.{Unknown}
use Rattle.py_check_context.specs.declared.scope.Context as declared
use Rattle.py_check_context.specs.Members.{Member, Inside, member_in, init_in, inside}
use Rattle.py_check_context.specs.declared.variables.VarType.{VarType}
use Rattle.py_check_context.specs.declared.variables.VarType.TheVariants.{Unset, Untyped, Has}
use Rattle.py_check_context.specs.declared.variables.Variables.{Variables}
use Rattle.py_check_context.specs.declared.wanted.Want.{Want}
use Rattle.py_check_context.specs.declared.wanted.Want.TheVariants.{Free, Test, Wants, Dropped}
use Rattle.py_check_context.specs.declared.wanted.Row.{Row}
use Rattle.py_check_context.specs.declared.wanted.Row.TheVariants.{Each, First, Along}

-- ---- names and signatures

pub record Context : Type 0 where
  pub meaning : List ℕ → Meaning
  -- by the numbers of functions: some have none
  pub signatures : List (Option Signature)
  pub classes : List ClassEntry
  -- what a class has under a name: the first along its order that is declared, or else the first attribute that nothing declares
  pub member : ℕ → List ℕ → Option Member
  -- and the function of its `__init__`
  pub init : ℕ → Option ℕ
  -- the method that the place stands in, if it stands in one
  pub inside : Option Inside

abbrev pub context : declared.Context → Context
context s = record {
  meaning = λ x. unwrap_or (get bytes_eq s.names.now x) Unknown;
  signatures = map (option_map signature) s.sigs.now;
  classes = map class_entry s.classes.now.list;
  member = member_in s.members.now;
  init = init_in s.members.now;
  inside = option_map inside s.inside;
}

abbrev pub some_signature : Option (Option Signature) → Option Signature
some_signature (Some s) = s
some_signature None = None

-- ---- variables

-- the type of a variable, so far in the order of the text: no assignment stands before the place; its type hangs on what has
-- none; or it is known
pub data VarSort : Type 0 where
  unset : VarSort
  untyped : VarSort
  has : Sort → VarSort

abbrev pub var_sort : VarType → VarSort
var_sort Unset = unset
var_sort Untyped = untyped
var_sort (Has t) = has (sort t)

-- the variables of a function and those of the module, by their numbers
pub record VarSorts : Type 0 where
  pub locals : List VarSort
  pub globals : List VarSort

abbrev pub var_sorts : Variables → VarSorts
var_sorts v = record { locals = map var_sort v.locals; globals = map var_sort v.globals }

abbrev pub var_of : Option VarSort → VarSort
var_of None = unset
var_of (Some v) = v

abbrev pub var_at : List VarSort → ℕ → VarSort
var_at types i = var_of (slice_get types i)

-- ---- places

-- what an expression is there for: any value, a truth value, a value of a type, or nothing
pub data Wanted : Type 0 where
  free : Wanted
  test : Wanted
  wants : Sort → Wanted
  dropped : Wanted

abbrev pub wanted : Want → Wanted
wanted Free = free
wanted Test = test
wanted (Wants t) = wants (sort t.now)
wanted Dropped = dropped

-- what the expressions of a row are there for: each a value of one type, or values of these types in their order, and those
-- behind them of any
pub data WantedRow : Type 0 where
  each : Sort → WantedRow
  along : List Sort → WantedRow

abbrev pub row : Row → WantedRow
row (Each t) = each (sort t.now)
row (First t) = along (sort t.now ∷ [])
row (Along ts) = along (map sort ts.now)

-- what is asked for by a type, if there is one
abbrev pub wants_some : Option Sort → Wanted
wants_some None = free
wants_some (Some t) = wants t

-- what the expression at a place of a row is there for
abbrev pub wanted_in : WantedRow → ℕ → Wanted
wanted_in (each t) place = wants t
wanted_in (along ts) place = wants_some (slice_get ts place)
