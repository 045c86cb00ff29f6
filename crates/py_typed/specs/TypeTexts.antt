-- Types as diagnostics write them: as an annotation does (PEP 484).
use Rattle.std.specs.Prelude.{ℕ, List, [], ◌++◌, codes, Option, Some, None, slice_get}
use Rattle.value_core.specs.Exceptions.{class_name}
use Rattle.py_typed.specs.Sorts.{Sort, Int, I64, Bool, Str, Nothing, ListOf, DictOf, TupleOf, Optional, Instance, Exc, Sorts, no_sorts, sort_then}
use Rattle.py_typed.specs.Classes.{ClassEntry}

-- the name of a class, if there is one of this number
abbrev pub name_in : Option ClassEntry → List ℕ
name_in None = []
name_in (Some c) = c.name

module _ (classes : List ClassEntry) where
  abbrev mutual
    -- the text of a type
    pub type_text : Sort → List ℕ
    type_text Int = codes "int"
    type_text I64 = codes "i64"
    type_text Bool = codes "bool"
    type_text Str = codes "str"
    type_text Nothing = codes "None"
    type_text (ListOf t) = codes "list[" ++ type_text t ++ codes "]"
    type_text (DictOf k t) = codes "dict[" ++ type_text k ++ codes ", " ++ type_text t ++ codes "]"
    type_text (TupleOf ts) = codes "tuple[" ++ types_text ts ++ codes "]"
    type_text (Optional t) = codes "Optional[" ++ type_text t ++ codes "]"
    type_text (Instance c) = name_in (slice_get classes c)
    type_text (Exc c) = class_name c

    -- types with commas between them
    pub types_text : Sorts → List ℕ
    types_text no_sorts = []
    types_text (sort_then t ts) = type_text t ++ further_types ts

    pub further_types : Sorts → List ℕ
    further_types no_sorts = []
    further_types (sort_then t ts) = codes ", " ++ type_text t ++ further_types ts
