-- When a value of one type stands where another is asked for, and the type of a choice between two (PEP 484, "Type Definition
-- Syntax" and "Union types"; PEP 483, "Subtype relationships").
use Rattle.std.specs.Prelude.{Bool, true, false, ◌==◌, ◌&&◌, Option, Some, None, List, if◌then◌else◌}
use Rattle.std.specs.Str.{bytes_eq}
use Rattle.value_core.specs.Exceptions.{class_name, is_under}
use Rattle.py_typed.specs.Sorts.{Sort, Int, I64, Bool as BoolSort, Str, Nothing, ListOf, DictOf, TupleOf, Optional, Instance, Exc, Sorts, no_sorts, sort_then}
use Rattle.py_typed.specs.Classes.{ClassEntry, is_class_under}

-- one and the same type
abbrev mutual
  pub is_same_type : Sort → Sort → Bool
  is_same_type Int Int = true
  is_same_type I64 I64 = true
  is_same_type BoolSort BoolSort = true
  is_same_type Str Str = true
  is_same_type Nothing Nothing = true
  is_same_type (ListOf s) (ListOf t) = is_same_type s t
  is_same_type (DictOf j s) (DictOf k t) = is_same_type j k && is_same_type s t
  is_same_type (TupleOf ss) (TupleOf ts) = are_same_types ss ts
  is_same_type (Optional s) (Optional t) = is_same_type s t
  is_same_type (Instance c) (Instance d) = c == d
  is_same_type (Exc c) (Exc d) = bytes_eq (class_name c) (class_name d)
  is_same_type s t = false

  pub are_same_types : Sorts → Sorts → Bool
  are_same_types no_sorts no_sorts = true
  are_same_types (sort_then s ss) (sort_then t ts) = is_same_type s t && are_same_types ss ts
  are_same_types ss ts = false

-- the types of numbers
abbrev pub is_number : Sort → Bool
is_number Int = true
is_number I64 = true
is_number BoolSort = true
is_number t = false

abbrev pub is_nothing : Sort → Bool
is_nothing Nothing = true
is_nothing t = false

abbrev pub is_text : Sort → Bool
is_text Str = true
is_text t = false

abbrev pub is_dict : Sort → Bool
is_dict (DictOf k t) = true
is_dict t = false

-- of two numbers: i64 where one is i64, else int
abbrev pub number_join : Sort → Sort → Sort
number_join I64 t = I64
number_join s I64 = I64
number_join s t = Int

-- None or a value of this type
abbrev pub optional : Sort → Sort
optional (Optional u) = Optional u
optional u = Optional u

module _ (classes : List ClassEntry) where
  -- a value of the first type is one of the second as it stands: the types are one; a class stands under the other; None and
  -- what is of the type are of its Optional, and so is an Optional whose type is of it; tuples part by part. Lists and dicts
  -- have items of one type
  abbrev mutual
    pub same : Sort → Sort → Bool
    same Nothing (Optional u) = true
    same (Optional r) (Optional u) = same r u
    same s (Optional u) = same s u
    same (TupleOf ss) (TupleOf ts) = all_same ss ts
    same (Instance c) (Instance d) = is_class_under classes c d
    same (Exc c) (Exc d) = is_under c d
    same s t = is_same_type s t

    pub all_same : Sorts → Sorts → Bool
    all_same no_sorts no_sorts = true
    all_same (sort_then s ss) (sort_then t ts) = same s t && all_same ss ts
    all_same ss ts = false

  -- a value of the first type stands where the second is asked for, changed if need be: numbers for int and for i64; for an
  -- Optional, what is no Optional and fits its type, while another Optional has to be of it as it stands; and so has all else
  abbrev pub fits : Sort → Sort → Bool
  fits s Int = is_number s
  fits s I64 = is_number s
  fits Nothing (Optional u) = true
  fits (Optional r) (Optional u) = same r u
  fits s (Optional u) = fits s u
  fits s t = same s t

  -- the type of a choice between two: none where neither holds the other
  abbrev pub join : Sort → Sort → Option Sort
  join s t =
      if is_same_type s t then Some s else
      if is_number s && is_number t then Some (number_join s t) else
      if is_nothing s then Some (optional t) else
      if is_nothing t then Some (optional s) else
      if same s t then Some t else
      if same t s then Some s else None
