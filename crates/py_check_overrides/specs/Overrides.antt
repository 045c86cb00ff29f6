-- One signature for each member of a class (PEP 484 leaves overriding to the checker; mypyc's guide, "Native classes", asks for one
-- signature): along the order of a class all definitions of one name agree with the first of them.
--
-- The members of a class are its own ones, each at the place of its declaration, and behind them those of the classes above it along
-- its order. An attribute without a type and a method without a signature are members that are passed over: nothing is asked of
-- them. The first member that has another definition than its first one is told, with the first class along the order that has one.
--
-- This is asked of a class whose header is typed and each of whose bases passes. So where a base fails, nothing is said of the class,
-- nor of those below it.
use Rattle.std.specs.Prelude.{ℕ, Bool, true, false, ◌&&◌, if◌then◌else◌, List, [], ◌∷◌, ◌++◌, map, length, find, flat_map, Option, Some, None, slice_get}
use Rattle.std.specs.List.{list_any, list_all, filter_map}
use Rattle.std.specs.Option.{option_map, option_and_then}
use Rattle.std.specs.Str.{bytes_eq}
use Rattle.py_syntax.specs.declared.token.Span.{Span}
use Rattle.py_syntax_diagnostics.specs.declared.diagnostic.Diag.{Diag}
use Rattle.py_typed.specs.Classes.{ClassEntry}
use Rattle.py_typed.specs.Order.{order, listed_order}
use Rattle.class_layout_members.specs.Clashes.{Definition, differs, clashes}
use Rattle.py_check_classes.specs.declared.header.Header.{Header}
use Rattle.py_check_classes.specs.declared.header.Header.TheVariants.{Typed, Untyped}
use Rattle.py_check_classes.specs.Headers.{entry}
use Rattle.py_check_messages.specs.Seen.{diag}
use Rattle.py_check_messages.specs.Messages as message

-- a member that a class has of its own, with what the class says of it, if it says anything
abbrev pub Own : Type 0
Own = List ℕ × Option Definition

abbrev pub defined_as : Own → Option (List ℕ × Definition)
defined_as p = option_map (λ d. (p.0, d)) p.1

-- those of which something is said
abbrev pub defined : List Own → List (List ℕ × Definition)
defined row = filter_map defined_as row

abbrev pub listed : Option (List Own) → List Own
listed None = []
listed (Some row) = row

-- a member, and the number of a class that defines it in another way than the first
pub record Clash : Type 0 where
  pub name : List ℕ
  pub class : ℕ

abbrev pub clash_in : List ℕ → ℕ → Clash
clash_in name c = record { name = name; class = c }

-- where these are the own members of classes, by their numbers
module _ (owns : List (List Own)) where
  abbrev pub own_of : ℕ → List Own
  own_of c = listed (slice_get owns c)

  -- the members of classes in a row, and the definitions among them
  abbrev pub all_along : List ℕ → List Own
  all_along row = flat_map own_of row

  abbrev pub defined_along : List ℕ → List (List ℕ × Definition)
  defined_along row = flat_map (λ c. defined (own_of c)) row

  -- the first member of which not all definitions agree with the first
  abbrev pub clashing : List ℕ → Option (List ℕ)
  clashing row = option_map (λ p. p.0) (find (λ p. clashes (defined_along row) p.0) (all_along row))

  -- a class of the row has another definition of the name than the first
  abbrev pub says_other : List ℕ → List ℕ → ℕ → Bool
  says_other row name c = list_any (λ p. bytes_eq name p.0 && differs (defined_along row) p) (defined (own_of c))

  -- THE CLASH along a row of classes
  abbrev pub clash_along : List ℕ → Option Clash
  clash_along row = option_and_then (λ name. option_map (clash_in name) (find (says_other row name) row)) (clashing row)

-- ---- which classes are asked

-- what comes of the test for a class: it passes, it fails, or it is not asked
pub data Verdict : Type 0 where
  passes : Verdict
  fails : Clash → Verdict
  silent : Verdict

abbrev pub passed : Option Verdict → Bool
passed (Some passes) = true
passed _ = false

abbrev pub judged : Option Clash → Verdict
judged None = passes
judged (Some f) = fails f

-- among these classes, with these own members
module _ (classes : List ClassEntry) (owns : List (List Own)) where
  abbrev pub clash_of : ℕ → Option Clash
  clash_of c = clash_along owns (listed_order (order classes c))

  -- THE VERDICT on a class, behind those on the classes before it
  abbrev pub verdict : List Verdict → Header → Verdict
  verdict before (Typed s) = if list_all (λ b. passed (slice_get before b)) s.bases then judged (clash_of (length before)) else silent
  verdict before (Untyped u) = silent

  abbrev pub verdicts_behind : List Verdict → List Header → List Verdict
  verdicts_behind before [] = before
  verdicts_behind before (h ∷ more) = verdicts_behind (before ++ verdict before h ∷ []) more

-- THE VERDICTS on all classes, by their numbers
abbrev pub verdicts : List Header → List (List Own) → List Verdict
verdicts headers owns = verdicts_behind (map entry headers) owns [] headers

-- ---- what is said

abbrev pub name_of : Option ClassEntry → List ℕ
name_of None = []
name_of (Some c) = c.name

-- at the class's place, among these classes
abbrev pub override_said : List ClassEntry → Span → Option Verdict → List Diag
override_said classes span (Some (fails f)) = diag span (message.wrong_override f.name (name_of (slice_get classes f.class))) ∷ []
override_said classes span _ = []
