-- The first places of names, noted event by event, and the tables of the members of classes.
use denote.Ref.{Bor}
use Rattle.std.specs.Prelude.{◌≡◌, ℕ, List, [], ◌∷◌, length, map, Bool, ◌&&◌, if◌then◌else◌, Option, Some, None, is_none, option_and_then, slice_get, codes}
use Rattle.std.specs.Map.{lookup}
use Rattle.std.specs.Option.{option_map, option_or}
use Rattle.std.specs.Str.{bytes_eq}
use Rattle.indexmap.specs.IndexMap.{IndexMap, get}
use Rattle.py_syntax.specs.declared.token.Span.{Span}
use Rattle.py_syntax.specs.Statements.{Suite}
use Rattle.py_check_context.specs.declared.scope.Meaning.{Meaning}
use Rattle.py_check_context.specs.declared.members.Above.{Above}
use Rattle.py_check_context.specs.declared.members.Above.TheVariants.{Nothing, Base, Row}
use Rattle.py_check_context.specs.declared.members.ClassMembers.{ClassMembers}
use Rattle.py_check_context.specs.Context.{context}
use Rattle.py_check_context.specs.declared.members.Member as member
use Rattle.py_check_context.specs.Members as lookups
use Rattle.py_check_context.specs.Members.{Member}
use Rattle.py_typed.specs.Sorts.{Sort}
use Rattle.py_check_classes.specs.declared.header.Header.{Header}
use Rattle.py_check_classes.specs.declared.header.Header.TheVariants.{Typed}
use Rattle.py_check_classes.specs.Headers.{has_type}
use Rattle.py_check_members.specs.declared.places.Places as declared
use Rattle.py_check_members.specs.declared.tables.Known.{Known}
use Rattle.py_check_members.specs.Deeds.{Event, init_function, class_events}
use Rattle.py_check_members.specs.Members.{Places, places, is_of_body, is_of_init, is_gift, Owns, ClassText, above_in, row_above, each_once, made_from, inner_meaning, own_behind, owns_behind, meanings_inside, function_of, is_annotated_at, typed_attribute, own_method}
use Rattle.py_check_members.specs.Views.{places_of, own_of}

abbrev pub no_places : Places
no_places = record { body = None; init = None; gift = None }

abbrev pub places_in : Option Places → Places
places_in None = no_places
places_in (Some p) = p

abbrev pub first_of : Option ℕ → Bool → ℕ → Option ℕ
first_of place one i = if is_none place && one then Some i else place

-- of the name of an event at this place
abbrev pub with_place : ℕ → Event → Places → Places
with_place i v p = record {
  body = first_of p.body (is_of_body v) i;
  init = first_of p.init (is_of_init v.deed) i;
  gift = first_of p.gift (is_gift v.deed) i;
}

-- of this name, or of another
abbrev pub noted : Bool → ℕ → Event → Places → Places
noted same i v p = if same then with_place i v p else p

-- what a table has of a name
abbrev pub places_by : {S : Type 0} → IndexMap (List ℕ) declared.Places S → List ℕ → Places
places_by table name = places_in (option_map places_of (get bytes_eq table name))

-- these are the first places of names
pub record AreFirst (events : List Event) (found : List ℕ → Places) : Type 0 where
  pub each : (name : List ℕ) → found name ≡ places events name

-- ---- the tables of classes

-- what names mean in the function of a number
abbrev pub inner_of : Known → ℕ → List ℕ → Meaning
inner_of k = meanings_inside (get bytes_eq k.names.now.said) k.names.now.variables.keys k.scopes.now

-- the own members of the next class behind these, and of all that follow
abbrev pub own_by : Known → Owns → ClassText → List (List ℕ × Member)
own_by k before x = own_behind k.classes.now.headers (context k.scope.now).meaning (inner_of k) before x

abbrev pub owns_from : Known → Owns → List ClassText → Owns
owns_from k before xs = owns_behind k.classes.now.headers (context k.scope.now).meaning (inner_of k) before xs

-- the same of a class with a type, in front of a row of classes
abbrev pub typed_own : Known → Owns → List ℕ → ℕ → Suite → List (List ℕ × Member)
typed_own k before row first body =
    each_once (made_from (context k.scope.now).meaning (inner_meaning (inner_of k) (init_function first body)) (length before) (above_in before row) (class_events first body) 0 (class_events first body))

abbrev pub own_of_body : Known → Owns → ℕ → Suite → List (List ℕ × Member)
own_of_body k before first body =
    if has_type (slice_get k.classes.now.headers (length before)) then typed_own k before (row_above k.classes.now.headers (length before)) first body else []

-- what is asked for a member behind a class with these bases, behind which these classes stand along its order
abbrev pub above_by : List ℕ → List ℕ → Above
above_by [] row = Nothing
above_by (b ∷ []) row = Base b
above_by (b ∷ c ∷ more) row = Row row

abbrev pub bases_in : Option Header → List ℕ
bases_in (Some (Typed s)) = s.bases
bases_in _ = []

-- the members of the class of a number are linked with those above it, and with its own `__init__`
pub record IsLinked (headers : List Header) (n : ℕ) (class : ClassMembers) : Type 0 where
  pub init : class.init ≡ option_and_then function_of (lookup (bytes_eq (codes "__init__")) (own_of class))
  pub above : class.above ≡ above_by (bases_in (slice_get headers n)) (row_above headers n)

pub record AreLinked (headers : List Header) (members : List ClassMembers) : Type 0 where
  pub each : (n : ℕ) (class : ClassMembers) → slice_get members n ≡ Some class → IsLinked headers n class

-- these are the members of the next class behind these, whose body this is
pub record IsNext (k : Known) (members : List ClassMembers) (first : ℕ) (body : Suite) (class : ClassMembers) : Type 0 where
  pub own : own_of class ≡ own_of_body k (map own_of members) first body
  pub linked : IsLinked k.classes.now.headers (length members) class

-- nothing is known of a class without a type
pub record IsBare (class : ClassMembers) : Type 0 where
  pub own : own_of class ≡ []
  pub init : class.init ≡ None
  pub above : class.above ≡ Nothing

-- ---- places of declarations

abbrev pub span_or : Option Span → Option Span → Option Span
span_or a b = option_or a b

-- the place that an event adds
abbrev pub place_of : List Event → List ℕ → ℕ → Event → Option Span
place_of events name i v = if is_annotated_at events name i v then Some v.place else None

-- ---- entries of maps

abbrev pub entry_in : Option (Bor (List ℕ) × Bor member.Member) → Option (List ℕ × Member)
entry_in o = option_map (λ p. (p.0.now, lookups.member p.1.now)) o

abbrev pub listed : {A : Type 0} → Option A → List A
listed None = []
listed (Some a) = a ∷ []

abbrev pub attribute_in : Option (List ℕ × Member) → List (List ℕ × Sort)
attribute_in o = listed (option_and_then typed_attribute o)

abbrev pub method_in : Option (List ℕ × Member) → List (List ℕ × ℕ)
method_in o = listed (option_and_then own_method o)
