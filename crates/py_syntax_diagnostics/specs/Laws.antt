-- What holds of every list of diagnostics that is put in order.
use Rattle.std.specs.Prelude.{◌≡◌, Bool, ◌==◌, ◌&&◌, List, filter}
use Rattle.std.specs.List.Sorted.{IsPermutation, IsSortedBy}
use Rattle.py_syntax.specs.declared.token.Span.{Span}
use Rattle.py_syntax_diagnostics.specs.declared.diagnostic.Diag.{Diag}
use Rattle.py_syntax_diagnostics.specs.Order.{is_before, by_place}

-- it has the same diagnostics
abbrev pub KeepsAll : Type 0
KeepsAll = (ds : List Diag) → IsPermutation ds (by_place ds)

-- none stands behind one of a later place
abbrev pub Ascends : Type 0
Ascends = (ds : List Diag) → IsSortedBy (λ d other. is_before d.span other.span) (by_place ds)

-- those of one place stand as they stood
abbrev pub is_at : Span → Diag → Bool
is_at place d = (d.span.line == place.line) && (d.span.col == place.col)

abbrev pub KeepsOrderOfAPlace : Type 0
KeepsOrderOfAPlace = (ds : List Diag) (place : Span) → filter (is_at place) (by_place ds) ≡ filter (is_at place) ds
