-- What holds where no class of a module fails.
use Rattle.std.specs.Prelude.{◌≡◌, ℕ, ◌<◌, Bool, true, List, map, length, Some, None, is_some, slice_get}
use Rattle.std.specs.List.{list_all}
use Rattle.py_typed.specs.Classes.{ClassTable, bases_of}
use Rattle.py_typed.specs.Statements.{TypedModule}
use Rattle.py_typed.specs.WellTypedModule.{members_agree}
use Rattle.class_layout_members.specs.Clashes as members
use Rattle.class_layout_members.specs.Clashes.{Definition, OfType, OfSignature, own_members, members_along, clash_among}
use Rattle.py_check_classes.specs.declared.header.Header.{Header}
use Rattle.py_check_classes.specs.Headers.{has_type, entry}
use Rattle.py_check_classes.specs.Laws.{AreSound}
use Rattle.py_check_overrides.specs.Overrides.{Own, Clash, fails, defined, own_of, verdicts}

-- the definitions of one row are among those of another: a test that these all pass those all pass
abbrev pub AreAmong : List (List ℕ × Definition) → List (List ℕ × Definition) → Type 0
AreAmong row all = (test : List ℕ × Definition → Bool) → list_all test all ≡ true → list_all test row ≡ true

-- a table of classes that have these headers and say no more of their members than this
pub record IsTable (headers : List Header) (owns : List (List Own)) (table : ClassTable) : Type 0 where
  pub long : length table.classes ≡ length headers
  pub bases : (c : ℕ) → bases_of (map entry headers) c ≡ bases_of table.classes c
  pub says : (c : ℕ) → AreAmong (own_members table c) (defined (own_of owns c))

-- all classes have types, and none fails
pub record NoneFails (headers : List Header) (owns : List (List Own)) : Type 0 where
  pub typed : (c : ℕ) → c < length headers → has_type (slice_get headers c) ≡ true
  pub none : (c : ℕ) (f : Clash) → slice_get (verdicts headers owns) c ≡ Some (fails f) → ⊥

-- THE LAW: then in such a table all definitions of a member along the order of a class agree
abbrev pub AllAgreeWhereNoneFails : Type 0
AllAgreeWhereNoneFails =
    (headers : List Header) (owns : List (List Own)) (table : ClassTable) → AreSound headers → IsTable headers owns table → NoneFails headers owns
    → (c : ℕ) → c < length headers → members.clash_of table c ≡ None

-- a method has a signature
abbrev pub is_signed : Definition → Bool
is_signed (OfType t) = true
is_signed (OfSignature s) = is_some s

-- THE LAW: where no definition along a row of classes differs from the first of its name, and each of their methods has a signature, the
-- members of each class agree with those of all of them, as in a well-typed module
abbrev pub MembersAgreeWhereNoneClashes : Type 0
MembersAgreeWhereNoneClashes =
    (is_identifier : List ℕ → Bool) (m : TypedModule) (row : List ℕ) → clash_among (members_along m.classes row) ≡ None
    → list_all (λ d. is_some (slice_get m.classes.classes d)) row ≡ true → list_all (λ p. is_signed p.1) (members_along m.classes row) ≡ true
    → list_all (members_agree is_identifier m row) row ≡ true
