-- List and tuple displays (Python Language Reference, "List displays", "Parenthesized forms").
--
-- Where a list of a type is expected, each item has to fit its item type. Else a list is not empty, and its items have the
-- type that they join to from the left, which is not that of None. A tuple has 1 to 16 items. Where a tuple of as many types
-- is expected, and each item fits its own, they are of these types; else they keep theirs, and none may be None but where an
-- Optional is expected.
use Rattle.std.specs.Prelude.{ℕ, suc, Bool, true, false, not, ◌==◌, ◌&&◌, ◌||◌, nat_lt, is_none, List, [], ◌∷◌, length, map, Option, Some, None, Result, Ok, Err, if◌then◌else◌}
use Rattle.std.specs.Option.{option_map}
use Rattle.py_syntax.specs.declared.token.Span.{Span}
use Rattle.py_typed.specs.Sorts.{Sort, sorts_of, listed_sorts}
use Rattle.py_typed.specs.Sorts as sort
use Rattle.py_typed.specs.Classes.{ClassEntry}
use Rattle.py_typed.specs.Fits.{is_nothing, join}
use Rattle.py_typed.specs.Expressions as node
use Rattle.py_typed.specs.Expressions.{TypedExpr, typed, type_of, exprs_of}
use Rattle.py_check_context.specs.Context.{Wanted, wants, WantedRow, each, along, wanted_in}
use Rattle.py_check_messages.specs.Seen.{Message}
use Rattle.py_check_messages.specs.Messages.{wrong_item, empty_display, no_common_item, invalid_tuple}
use Rattle.py_check_coercions.specs.Several.{unless}
use Rattle.py_check_coercions.specs.Rows.{Misfit, unfit, changed_row}

-- ---- lists

-- the item type of the list that is expected
abbrev pub item_sort : Wanted → Option Sort
item_sort (wants (sort.ListOf t)) = Some t
item_sort w = None

-- what the items are there for
abbrev pub items_row : Option Sort → WantedRow
items_row None = along []
items_row (Some t) = each t

abbrev pub list_of : Span → Sort → List TypedExpr → TypedExpr
list_of span t es = typed (node.ListOf (exprs_of (changed_row (each t) 0 es))) (sort.ListOf t) span

abbrev pub item_fault : List ClassEntry → Misfit → Message
item_fault classes u = wrong_item classes u.place u.found u.asked

abbrev pub expected_list : List ClassEntry → Span → Sort → List TypedExpr → Result TypedExpr Message
expected_list classes span t es = unless (option_map (item_fault classes) (unfit classes (each t) 0 es)) (list_of span t es)

-- the type that values join to from the left, behind others of the type s
abbrev pub common : List ClassEntry → Option Sort → List TypedExpr → Option Sort
common classes None es = None
common classes (Some s) [] = Some s
common classes (Some s) (e ∷ es) = common classes (join classes s (type_of e)) es

abbrev pub joined_list : Span → List TypedExpr → Option Sort → Result TypedExpr Message
joined_list span es None = Err no_common_item
joined_list span es (Some t) = if is_nothing t then Err no_common_item else Ok (list_of span t es)

abbrev pub inferred_list : List ClassEntry → Span → List TypedExpr → Result TypedExpr Message
inferred_list classes span [] = Err empty_display
inferred_list classes span (e ∷ es) = joined_list span (e ∷ es) (common classes (Some (type_of e)) es)

abbrev pub list_display : List ClassEntry → Option Sort → Span → List TypedExpr → Result TypedExpr Message
list_display classes (Some t) span es = expected_list classes span t es
list_display classes None span es = inferred_list classes span es

-- ---- tuples

-- what so many items are there for
abbrev pub parts_row : Wanted → ℕ → WantedRow
parts_row (wants (sort.TupleOf ts)) n = if length (listed_sorts ts) == n then along (listed_sorts ts) else along []
parts_row w n = along []

abbrev pub is_optional : Wanted → Bool
is_optional (wants (sort.Optional t)) = true
is_optional w = false

-- an item None where no Optional is expected
abbrev pub is_bare_none : Wanted → TypedExpr → Bool
is_bare_none w e = is_nothing (type_of e) && not (is_optional w)

abbrev pub has_bare_none : WantedRow → ℕ → List TypedExpr → Bool
has_bare_none row i [] = false
has_bare_none row i (e ∷ es) = is_bare_none (wanted_in row i) e || has_bare_none row (suc i) es

abbrev pub is_tuple_size : ℕ → Bool
is_tuple_size n = nat_lt 0 n && nat_lt n 17

-- the types that are expected, where each item fits its own
abbrev pub kept_row : List ClassEntry → WantedRow → List TypedExpr → WantedRow
kept_row classes row es = if is_none (unfit classes row 0 es) then row else along []

abbrev pub tuple_of : Span → List TypedExpr → TypedExpr
tuple_of span es = typed (node.TupleOf (exprs_of es)) (sort.TupleOf (sorts_of (map type_of es))) span

abbrev pub is_invalid_tuple : WantedRow → List TypedExpr → Bool
is_invalid_tuple row es = not (is_tuple_size (length es)) || has_bare_none row 0 es

abbrev pub tuple_display : List ClassEntry → WantedRow → Span → List TypedExpr → Result TypedExpr Message
tuple_display classes row span es =
    if is_invalid_tuple row es then Err invalid_tuple else Ok (tuple_of span (changed_row (kept_row classes row es) 0 es))
