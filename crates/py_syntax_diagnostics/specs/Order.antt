-- Diagnostics in the order of their places: by line, then by column.
use Rattle.std.specs.Prelude.{Bool, ◌==◌, ◌&&◌, ◌||◌, if◌then◌else◌, nat_lt, List, [], ◌∷◌}
use Rattle.py_syntax.specs.declared.token.Span.{Span}
use Rattle.py_syntax_diagnostics.specs.declared.diagnostic.Diag.{Diag}

-- a place in front of another
abbrev pub is_before : Span → Span → Bool
is_before a b = nat_lt a.line b.line || (a.line == b.line && nat_lt a.col b.col)

-- a diagnostic behind all those of earlier places, and in front of all others
abbrev pub put_in : Diag → List Diag → List Diag
put_in d [] = d ∷ []
put_in d (other ∷ more) = if is_before other.span d.span then other ∷ put_in d more else d ∷ other ∷ more

-- IN ORDER: each diagnostic is put in front of those of its place that came behind it
abbrev pub by_place : List Diag → List Diag
by_place [] = []
by_place (d ∷ more) = put_in d (by_place more)
