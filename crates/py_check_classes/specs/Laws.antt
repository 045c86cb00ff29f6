-- What holds of the headers of all classes, whatever the names mean.
use Rattle.std.specs.Prelude.{◌≡◌, ℕ, true, ◌&&◌, nat_lt, List, [], map, Option, Some, is_some, slice_get}
use Rattle.std.specs.List.{list_all}
use Rattle.py_syntax.specs.Statements.{ClassTree}
use Rattle.py_typed.specs.Classes.{ClassEntry, bases_of}
use Rattle.py_typed.specs.Laws.{IsClassTree}
use Rattle.py_typed.specs.Order.{order}
use Rattle.py_check_context.specs.declared.scope.Meaning.{Meaning}
use Rattle.py_check_classes.specs.declared.header.Header.{Header}
use Rattle.py_check_classes.specs.declared.header.Header.TheVariants.{Typed}
use Rattle.py_check_classes.specs.declared.header.Shape.{Shape}
use Rattle.py_check_classes.specs.Rows.{differ}
use Rattle.py_check_classes.specs.Headers.{has_type, entry, bases_fit, headers_behind}

-- of a class of a number that has a type, among these
pub record IsSound (headers : List Header) (c : ℕ) (s : Shape) : Type 0 where
  -- its bases have smaller numbers, and types
  pub bases : list_all (λ b. nat_lt b c && has_type (slice_get headers b)) s.bases ≡ true
  -- no two of them are the same
  pub apart : differ s.bases ≡ true
  -- all but the first are traits, and the first too where the class is one
  pub fit : bases_fit headers s ≡ true
  -- and there is an order
  pub ordered : is_some (order (map entry headers) c) ≡ true

pub record AreSound (headers : List Header) : Type 0 where
  pub tree : IsClassTree (map entry headers)
  pub each : (c : ℕ) (s : Shape) → slice_get headers c ≡ Some (Typed s) → IsSound headers c s

-- THE LAW: so are the headers of all classes
abbrev pub HeadersAreSound : Type 0
HeadersAreSound = (said : List ℕ → Option Meaning) (classes : List ClassTree) → AreSound (headers_behind said [] classes)

-- THE LAW: the order of a class hangs on bases alone, so it stays when attributes and methods are known
abbrev pub OrdersHangOnBases : Type 0
OrdersHangOnBases =
    (classes others : List ClassEntry) → IsClassTree classes → ((c : ℕ) → bases_of classes c ≡ bases_of others c)
    → (c : ℕ) → order classes c ≡ order others c
