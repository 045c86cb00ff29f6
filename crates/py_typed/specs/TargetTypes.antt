-- The types of what is assigned to: of variables by their numbers, of attributes, and of the keys and items of lists and dicts.
use Rattle.std.specs.Prelude.{ℕ, List, Option, Some, None, slice_get}
use Rattle.py_typed.specs.Sorts.{Sort, Nothing, Instance, ListOf, DictOf}
use Rattle.py_typed.specs.Classes.{ClassEntry}
use Rattle.py_typed.specs.Order.{attribute_of}
use Rattle.py_typed.specs.Statements.{Variable}

abbrev pub sort_at : List Variable → ℕ → Sort
sort_at variables i = sort_in (slice_get variables i)
  where
    sort_in : Option Variable → Sort
    sort_in None = Nothing
    sort_in (Some x) = x.1

abbrev pub sort_or_nothing : Option Sort → Sort
sort_or_nothing None = Nothing
sort_or_nothing (Some t) = t

abbrev pub attribute_sort : List ClassEntry → Sort → List ℕ → Sort
attribute_sort classes (Instance c) name = sort_or_nothing (attribute_of classes c name)
attribute_sort classes t name = Nothing

-- the type of a dict's keys, of a list's or a dict's items
abbrev pub key_sort : Sort → Sort
key_sort (DictOf k t) = k
key_sort t = t

abbrev pub item_sort : Sort → Sort
item_sort (ListOf t) = t
item_sort (DictOf k t) = t
item_sort t = t
