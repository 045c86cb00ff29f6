-- Dict displays (Python Language Reference, "Dictionary displays").
--
-- Where a dict of a key type and a value type is expected, the key and the value of each entry have to fit these. Else a dict is not
-- empty, and it has the type that its keys join to from the left, which is one that keys may have, and the one that its values join
-- to, which is not that of None.
use Rattle.std.specs.Prelude.{ℕ, suc, Bool, not, ◌&&◌, List, [], ◌∷◌, map, Option, Some, None, Result, Ok, Err, if◌then◌else◌}
use Rattle.std.specs.Option.{option_map, option_zip}
use Rattle.py_syntax.specs.declared.token.Span.{Span}
use Rattle.py_typed.specs.Sorts.{Sort}
use Rattle.py_typed.specs.Sorts as sort
use Rattle.py_typed.specs.Classes.{ClassEntry}
use Rattle.py_typed.specs.Fits.{is_nothing, fits}
use Rattle.py_typed.specs.WellTypedExpr.{is_key_type}
use Rattle.py_typed.specs.Expressions as node
use Rattle.py_typed.specs.Expressions.{TypedExpr, typed, type_of, entries_of}
use Rattle.py_check_context.specs.Context.{Wanted, free, wants}
use Rattle.py_check_messages.specs.Seen.{Message}
use Rattle.py_check_messages.specs.Messages.{wrong_entry, empty_display, no_common_entry}
use Rattle.py_check_coercions.specs.Values.{coerced}
use Rattle.py_check_coercions.specs.Several.{unless}
use Rattle.py_check_displays.specs.Displays.{common}

-- ---- what is expected of entries

-- the key type and the value type of the dict that is expected
abbrev pub entry_sorts : Wanted → Option (Sort × Sort)
entry_sorts (wants (sort.DictOf k t)) = Some (k, t)
entry_sorts w = None

-- what each key is there for, and each value
abbrev pub key_wanted : Option (Sort × Sort) → Wanted
key_wanted None = free
key_wanted (Some p) = wants p.0

abbrev pub value_wanted : Option (Sort × Sort) → Wanted
value_wanted None = free
value_wanted (Some p) = wants p.1

-- ---- entries that do not fit

-- an entry whose key or value does not fit: its place, and the types of both
pub record EntryMisfit : Type 0 where
  pub place : ℕ
  pub key : Sort
  pub value : Sort

abbrev pub entry_fits : List ClassEntry → Sort × Sort → TypedExpr × TypedExpr → Bool
entry_fits classes p e = fits classes (type_of e.0) p.0 && fits classes (type_of e.1) p.1

-- the first of those from the place i on
abbrev pub unfit_entry : List ClassEntry → Sort × Sort → ℕ → List (TypedExpr × TypedExpr) → Option EntryMisfit
unfit_entry classes p i [] = None
unfit_entry classes p i (e ∷ es) =
    if entry_fits classes p e then unfit_entry classes p (suc i) es else Some (record { place = i; key = type_of e.0; value = type_of e.1 })

abbrev pub entry_fault : List ClassEntry → Sort × Sort → EntryMisfit → Message
entry_fault classes p u = wrong_entry classes u.place u.key u.value p.0 p.1

-- ---- displays

-- an entry as one of these types
abbrev pub changed_entry : Sort × Sort → TypedExpr × TypedExpr → TypedExpr × TypedExpr
changed_entry p e = (coerced p.0 e.0, coerced p.1 e.1)

abbrev pub dict_of : Span → Sort × Sort → List (TypedExpr × TypedExpr) → TypedExpr
dict_of span p es = typed (node.DictOf (entries_of (map (changed_entry p) es))) (sort.DictOf p.0 p.1) span

abbrev pub expected_dict : List ClassEntry → Span → Sort × Sort → List (TypedExpr × TypedExpr) → Result TypedExpr Message
expected_dict classes span p es = unless (option_map (entry_fault classes p) (unfit_entry classes p 0 es)) (dict_of span p es)

abbrev pub keys : List (TypedExpr × TypedExpr) → List TypedExpr
keys es = map (λ e. e.0) es

abbrev pub values : List (TypedExpr × TypedExpr) → List TypedExpr
values es = map (λ e. e.1) es

-- the types that keys and values join to from the left, behind an entry
abbrev pub common_entry : List ClassEntry → TypedExpr × TypedExpr → List (TypedExpr × TypedExpr) → Option (Sort × Sort)
common_entry classes e es = option_zip (common classes (Some (type_of e.0)) (keys es)) (common classes (Some (type_of e.1)) (values es))

-- a dict may have keys of the one type and values of the other
abbrev pub are_entry_types : Sort × Sort → Bool
are_entry_types p = is_key_type p.0 && not (is_nothing p.1)

abbrev pub joined_dict : Span → List (TypedExpr × TypedExpr) → Option (Sort × Sort) → Result TypedExpr Message
joined_dict span es None = Err no_common_entry
joined_dict span es (Some p) = if are_entry_types p then Ok (dict_of span p es) else Err no_common_entry

abbrev pub inferred_dict : List ClassEntry → Span → List (TypedExpr × TypedExpr) → Result TypedExpr Message
inferred_dict classes span [] = Err empty_display
inferred_dict classes span (e ∷ es) = joined_dict span (e ∷ es) (common_entry classes e es)

abbrev pub dict_display : List ClassEntry → Option (Sort × Sort) → Span → List (TypedExpr × TypedExpr) → Result TypedExpr Message
dict_display classes (Some p) span es = expected_dict classes span p es
dict_display classes None span es = inferred_dict classes span es
