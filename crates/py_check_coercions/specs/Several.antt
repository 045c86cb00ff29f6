-- A rule of which several tests may fail at one node.
use Rattle.std.specs.Prelude.{◌≡◌, List, [], ◌∷◌, ◌++◌, map, Bool, true, false, Option, Some, None, Result, Ok, Err, if◌then◌else◌}
use Rattle.py_syntax.specs.declared.token.Span.{Span}
use Rattle.py_syntax_diagnostics.specs.declared.diagnostic.Diag.{Diag}
use Rattle.py_check_messages.specs.Seen.{Seen, Message, diag, is, silent}

-- nothing is wrong, or one thing
abbrev pub fault_unless : Bool → Message → List Message
fault_unless right m = if right then [] else m ∷ []

-- the node where nothing is wrong, else a diagnostic for each thing that is
abbrev pub told : {A : Type 0} → Span → List Message → A → Seen A
told span [] a = is a
told span (m ∷ ms) a = record { got = None; said = map (diag span) (m ∷ ms) }

-- the same where all its parts are typed
abbrev pub ruled_all : {A B : Type 0} → Span → (A → List Message) → (A → B) → Option A → Seen B
ruled_all span faults make None = silent
ruled_all span faults make (Some a) = told span (faults a) (make a)

-- a result where nothing is wrong
abbrev pub unless : {A : Type 0} → Option Message → A → Result A Message
unless None a = Ok a
unless (Some m) a = Err m

-- what is made of a part that is typed
abbrev pub with_part : {A B : Type 0} → Option A → (A → Seen B) → Seen B
with_part None make = silent
with_part (Some a) make = make a

-- a test says all that is wrong, and whether that is nothing
abbrev pub is_nothing_wrong : List Message → Bool
is_nothing_wrong [] = true
is_nothing_wrong (m ∷ ms) = false

abbrev pub Says : Bool → List Diag → List Diag → Span → List Message → Type 0
Says right old new span faults = (right ≡ is_nothing_wrong faults) × (new ≡ old ++ map (diag span) faults)
