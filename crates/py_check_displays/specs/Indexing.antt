-- Items of lists, texts, dicts and tuples (Python Language Reference, "Subscriptions").
--
-- The index of a list or of a text fits int, and that of a dict its key type. That of a tuple is a literal, or `-` and one,
-- that lies within it: a number from the left, or one from the right.
use Rattle.std.specs.Prelude.{ℕ, ℤ, pos, negsuc, Bool, true, false, ◌&&◌, ◌-◌, nat_lt, nat_le, List, [], length, slice_get, Option, Some, None, Result, Ok, Err, if◌then◌else◌}
use Rattle.py_syntax.specs.declared.token.Span.{Span}
use Rattle.py_syntax.specs.Expressions as tree
use Rattle.py_syntax.specs.Expressions.{ExprTree, at}
use Rattle.py_typed.specs.Sorts.{Sort, listed_sorts}
use Rattle.py_typed.specs.Sorts as sort
use Rattle.py_typed.specs.Classes.{ClassEntry}
use Rattle.py_typed.specs.Fits.{fits}
use Rattle.py_typed.specs.Expressions as node
use Rattle.py_typed.specs.Expressions.{TypedExpr, typed, type_of}
use Rattle.py_check_messages.specs.Seen.{Message}
use Rattle.py_check_messages.specs.Messages.{not_indexable, tuple_index, invalid_index}
use Rattle.py_check_coercions.specs.Values.{coerced}

-- an index as it is written: whether `-` stands before its number
pub record Literal : Type 0 where
  pub is_negative : Bool
  pub number : ℤ

abbrev pub negated : ExprTree → Option Literal
negated (at (tree.Int n) span) = Some (record { is_negative = true; number = n })
negated e = None

abbrev pub literal : ExprTree → Option Literal
literal (at (tree.Int n) span) = Some (record { is_negative = false; number = n })
literal (at (tree.Neg e) span) = negated e
literal e = None

-- the place among so many that a number means, from the left or from the right
abbrev pub place_from : Bool → ℕ → ℕ → Option ℕ
place_from negative count n =
    if negative && nat_lt 0 n then (if nat_le n count then Some (count - n) else None) else (if nat_lt n count then Some n else None)

abbrev pub place_at : Bool → ℕ → ℤ → Option ℕ
place_at negative count (pos n) = place_from negative count n
place_at negative count (negsuc n) = None

abbrev pub place_in : ℕ → Literal → Option ℕ
place_in count l = place_at l.is_negative count l.number

-- what an index has to fit, and the type of the item
abbrev pub keyed_by : Sort → Option (Sort × Sort)
keyed_by (sort.ListOf t) = Some (sort.Int, t)
keyed_by sort.Str = Some (sort.Int, sort.Str)
keyed_by (sort.DictOf k t) = Some (k, t)
keyed_by t = None

abbrev pub item_at : List ClassEntry → Span → TypedExpr → TypedExpr → Option (Sort × Sort) → Result TypedExpr Message
item_at classes span e i None = Err (not_indexable classes (type_of e))
item_at classes span e i (Some p) =
    if fits classes (type_of i) p.0 then Ok (typed (node.At e (coerced p.0 i)) p.1 span) else Err (invalid_index classes (type_of i) (type_of e) p.0)

abbrev pub item_of : List ClassEntry → Span → TypedExpr → TypedExpr → Result TypedExpr Message
item_of classes span e i = item_at classes span e i (keyed_by (type_of e))

-- the types of a tuple's parts
abbrev pub parts_of : Sort → List Sort
parts_of (sort.TupleOf ts) = listed_sorts ts
parts_of t = []

abbrev pub with_place : ℕ → Option Sort → Option (ℕ × Sort)
with_place place None = None
with_place place (Some t) = Some (place, t)

abbrev pub at_place : List Sort → Option ℕ → Option (ℕ × Sort)
at_place ts None = None
at_place ts (Some place) = with_place place (slice_get ts place)

-- the place of a part with its type, by the index as it is written
abbrev pub part_at : Option Literal → List Sort → Option (ℕ × Sort)
part_at None ts = None
part_at (Some l) ts = at_place ts (place_in (length ts) l)

abbrev pub part_made : Span → TypedExpr → Option (ℕ × Sort) → Result TypedExpr Message
part_made span e None = Err tuple_index
part_made span e (Some p) = Ok (typed (node.TupleAt e p.0) p.1 span)

abbrev pub part_of : Span → Option Literal → TypedExpr → Result TypedExpr Message
part_of span l e = part_made span e (part_at l (parts_of (type_of e)))

abbrev pub is_tuple : Sort → Bool
is_tuple (sort.TupleOf ts) = true
is_tuple t = false

-- `e[i]`, with the index as it is written
abbrev pub indexing : List ClassEntry → Span → Option Literal → TypedExpr × TypedExpr → Result TypedExpr Message
indexing classes span l p = if is_tuple (type_of p.0) then part_of span l p.0 else item_of classes span p.0 p.1
