-- The values and objects of a running program (Python Language Reference, "Objects, values and types").
-- Lists, dicts and instances are objects: they have an identity and can change, and stand in a store. All else is a value.
use Rattle.std.specs.Prelude.{ℕ, ℤ, Bool, List, [], ◌∷◌, Option}
use Rattle.value_core.specs.Exceptions.{Thrown}

-- a value. A text is its bytes in UTF-8; an object is known by its place in the store
mutual
  pub data Value : Type 0 where
    IntVal : (n : ℤ) → Value
    BoolVal : (b : Bool) → Value
    NoneVal : Value
    StrVal : (text : List ℕ) → Value
    TupleVal : (parts : Values) → Value
    ExcVal : (e : Thrown) → Value
    ObjVal : (k : ℕ) → Value

  -- the parts of a tuple
  pub data Values : Type 0 where
    no_values : Values
    value_then : Value → Values → Values

-- the parts of a tuple as a list, and back
abbrev pub listed : Values → List Value
listed no_values = []
listed (value_then v vs) = v ∷ listed vs

abbrev pub tupled : List Value → Values
tupled [] = no_values
tupled (v ∷ vs) = value_then v (tupled vs)

-- an object: the items of a list, the pairs of a dict in order of insertion, or an instance with its class's number and,
-- for each attribute of the class, a value or nothing
pub data Object : Type 0 where
  ListObj : (items : List Value) → Object
  DictObj : (pairs : List (Value × Value)) → Object
  InstObj : (class : ℕ) (attributes : List (Option Value)) → Object

-- the objects made so far, each at its place. A store only grows
abbrev pub Store : Type 0
Store = List Object
