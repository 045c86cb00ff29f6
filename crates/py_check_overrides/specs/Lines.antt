-- What is kept of the definitions of classes that pass: for each name one of them, with which all others agree.
--
-- Classes stand on lines, each below its one base: the first class below the last one of a line goes on with that line, and every
-- other one begins a line that hangs on its base. A line has a name's definition with the class that brought it, so a class on the
-- line has those that are brought by itself or by a class of a smaller number.
use Rattle.std.specs.Prelude.{◌≡◌, ℕ, zero, suc, ◌<◌, ◌≤◌, ◌==◌, Bool, true, false, not, ◌||◌, if◌then◌else◌, nat_le, List, [], ◌∷◌, ◌++◌, length, Option, Some, None, slice_get, is_some}
use Rattle.std.specs.List.{list_all}
use Rattle.std.specs.Option.{option_map, option_or, option_and_then}
use Rattle.std.specs.Str.{bytes_eq}
use Rattle.indexmap.specs.IndexMap.{IndexMap, get}
use Rattle.class_layout_members.specs.Clashes.{Definition, agree}
use Rattle.class_layout_members.specs.Views.{definition}
use Rattle.py_check_overrides.specs.Overrides.{Own, defined}
use Rattle.py_check_overrides.specs.declared.lines.Said.{Said}
use Rattle.py_check_overrides.specs.declared.lines.Line.{Line}
use Rattle.py_check_overrides.specs.declared.lines.Lines.{Lines}

-- ---- definitions with which others agree

abbrev pub agrees : List ℕ → Option Definition → Definition → Bool
agrees name None d = false
agrees name (Some first) d = agree name first d

abbrev pub agrees_named : List ℕ → Option Definition → List ℕ × Definition → Bool
agrees_named name o p = not (bytes_eq name p.0) || agrees name o p.1

-- under each name that has a definition in the row there is one, and with that one they all agree
abbrev pub Tells : List (List ℕ × Definition) → (List ℕ → Option Definition) → Type 0
Tells row known = (name : List ℕ) → list_all (agrees_named name (known name)) row ≡ true

-- where a name is known it is not new
abbrev pub IsNew : (List ℕ → Option Definition) → (List ℕ → Option Definition) → Type 0
IsNew new known = (name : List ℕ) → is_some (new name) ≡ true → known name ≡ None

abbrev pub known_or_new : (List ℕ → Option Definition) → (List ℕ → Option Definition) → List ℕ → Option Definition
known_or_new known new name = option_or (known name) (new name)

-- ---- lines

abbrev pub said_of : Option Said → Option Definition
said_of o = option_map (λ (s : Said). definition s.definition) o

abbrev pub said_in : {S : Type 0} → IndexMap (List ℕ) Said S → List ℕ → Option Definition
said_in said name = said_of (get bytes_eq said name)

-- what is said by a class up to this one
abbrev pub up_to : ℕ → Option Said → Option Definition
up_to c None = None
up_to c (Some s) = if nat_le s.class c then Some (definition s.definition) else None

abbrev pub behind : (ℕ → Option Definition) → Option ℕ → Option Definition
behind found None = None
behind found (Some b) = found b

module _ (lines : Lines) where
  abbrev pub line_at : ℕ → Option Line
  line_at c = option_and_then (λ l. slice_get lines.lines.items l) (slice_get lines.line_of c)

  -- the class that the line of a class hangs on
  abbrev pub above : ℕ → Option ℕ
  above c = option_and_then (λ (line : Line). line.above) (line_at c)

  -- what the line of a class has under a name
  abbrev pub here : List ℕ → ℕ → Option Definition
  here name c = option_and_then (λ (line : Line). up_to c (get bytes_eq line.said name)) (line_at c)

  -- what is known of a name in a class: what its line has, or else what is known in the class that the line hangs on. That one has a
  -- smaller number, so at most as many levels as the class's number stand above
  abbrev pub known_by : List ℕ → ℕ → ℕ → Option Definition
  known_by name zero c = here name c
  known_by name (suc levels) c = option_or (here name c) (behind (known_by name levels) (above c))

  abbrev pub known : ℕ → List ℕ → Option Definition
  known c name = known_by name c c

  -- what is known of a name in the class that another one stands below, if there is one
  abbrev pub known_above : Option ℕ → List ℕ → Option Definition
  known_above o name = behind (λ b. known b name) o

-- ---- what holds of lines

-- said by a class up to this one, and by this one itself
abbrev pub is_up_to : ℕ → Option Said → Bool
is_up_to c None = true
is_up_to c (Some s) = nat_le s.class c

abbrev pub is_by : ℕ → Option Said → Bool
is_by c None = true
is_by c (Some s) = s.class == c

-- what a line has is said by a class up to its last one
abbrev pub IsLine : Line → Type 0
IsLine line = (name : List ℕ) → is_up_to line.last (get bytes_eq line.said name) ≡ true

pub record AreLines (lines : Lines) : Type 0 where
  pub each : (l : ℕ) (line : Line) → slice_get lines.lines.items l ≡ Some line → IsLine line
  -- each class stands on a line
  pub placed : (c l : ℕ) → slice_get lines.line_of c ≡ Some l → l < length lines.lines.items
  -- which hangs on a class of a smaller number, if on one
  pub falls : (c a : ℕ) → above lines c ≡ Some a → a < c

-- the line at a place ends with this class
pub record Ends (lines : Lines) (o : Option ℕ) (place : ℕ) : Type 0 where
  pub last : ℕ
  pub line : Line
  pub is : o ≡ Some last
  pub on : slice_get lines.line_of last ≡ Some place
  pub there : slice_get lines.lines.items place ≡ Some line
  pub ends : line.last ≡ last

-- the next class below this one, if it is below one, goes on with the line at a place
pub record GoesOn (lines : Lines) (o : Option ℕ) (place : ℕ) : Type 0 where
  pub line : Line
  pub there : slice_get lines.lines.items place ≡ Some line
  pub last : line.last ≤ length lines.line_of
  pub falls : (a : ℕ) → line.above ≡ Some a → a < length lines.line_of
  pub known : (name : List ℕ) → option_or (said_in line.said name) (known_above lines line.above name) ≡ known_above lines o name

-- a line, as the next class of this number goes on with it, where this is new
pub record IsGone (line : Line) (class : ℕ) (new : List ℕ → Option Said) (gone : Line) : Type 0 where
  pub last : gone.last ≡ class
  pub above : gone.above ≡ line.above
  pub said : (name : List ℕ) → get bytes_eq gone.said name ≡ option_or (get bytes_eq line.said name) (new name)

-- ---- what is new of a class

-- of a definition that is taken behind others
abbrev pub taken : Own → List ℕ → Option Definition
taken p name = option_and_then (λ d. if bytes_eq name p.0 then Some d else None) p.1

-- where this is known, a member of a class is taken into what is new, or it does not fit. What is new then is so still, and is said
-- by the class
pub record IsTaken (class : ℕ) (known : List ℕ → Option Definition) (member : Own) (old new : List ℕ → Option Said) (fits : Bool) : Type 0 where
  pub by : fits ≡ true → ((name : List ℕ) → is_by class (old name) ≡ true) → (name : List ℕ) → is_by class (new name) ≡ true
  pub fresh : fits ≡ true → IsNew (λ name. said_of (old name)) known → IsNew (λ name. said_of (new name)) known
  pub agrees : fits ≡ true → (name : List ℕ) → known_or_new known (λ q. said_of (new q)) name ≡ option_or (known_or_new known (λ q. said_of (old q)) name) (taken member name)
  pub told : fits ≡ true → (name : List ℕ) → list_all (agrees_named name (known_or_new known (λ q. said_of (new q)) name)) (defined (member ∷ [])) ≡ true

-- what is new of a class of these own members below one where this is known: it is said by the class, and with the known and the new
-- all definitions of both agree
pub record IsNewOf {S : Type 0} (class : ℕ) (known : List ℕ → Option Definition) (own : List Own) (new : IndexMap (List ℕ) Said S) : Type 0 where
  pub by : (name : List ℕ) → is_by class (get bytes_eq new name) ≡ true
  pub fresh : IsNew (said_in new) known
  pub told : (rest : List (List ℕ × Definition)) → Tells rest known → Tells (defined own ++ rest) (known_or_new known (said_in new))
