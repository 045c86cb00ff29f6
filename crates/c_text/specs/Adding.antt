-- What a line adds: to a function that has not ended, and outside of functions.
use Rattle.std.specs.Prelude.{◌≡◌, ◌≢◌, ℕ, List, [], ◌∷◌, ◌++◌, IsTrue}
use Rattle.c_core.specs.Text.{declaration_text, global_line, indented}
use Rattle.c_core.specs.WellFormed.{Declared, is_identifier}
use Rattle.c_text.specs.declared.part.Above.{Above}
use Rattle.c_text.specs.declared.part.Added.{Added}
use Rattle.c_text.specs.declared.part.Added.TheVariants as added
use Rattle.c_text.specs.declared.part.Open.{Open}
use Rattle.c_text.specs.declared.part.Outside.{Outside}
use Rattle.c_text.specs.declared.part.Outside.TheVariants as outside
use Rattle.c_text.specs.declared.part.Part.{Part}
use Rattle.c_text.specs.declared.part.Part.TheVariants.{Between, Inside}
use Rattle.c_text.specs.Classes.{IsClass, IsNoClass}
use Rattle.c_text.specs.Heads.{BeginsFunction, IsNoHead}
use Rattle.c_text.specs.Labels.{labels_behind}
use Rattle.c_text.specs.Statements.{IsLine, IsNoLine}

-- a variable that it declares where no line stands above it, or a line that is written so
abbrev pub Adds : Open → List ℕ → Added → Type 0
Adds o piece (added.Variable v) = (o.lines ≡ []) × IsTrue (is_identifier v.0) × (indented (declaration_text v) ≡ piece)
Adds o piece (added.Line l) = IsLine o.vars (labels_behind 0 o.lines) piece l

pub record AddsNothing (o : Open) (piece : List ℕ) : Type 0 where
  pub no_variable : (v : Declared) → o.lines ≡ [] → IsTrue (is_identifier v.0) → indented (declaration_text v) ≢ piece
  pub no_line : IsNoLine o.vars (labels_behind 0 o.lines) piece

abbrev pub with_added : Open → Added → Open
with_added o (added.Variable v) = record o { vars = o.vars ++ v ∷ [] }
with_added o (added.Line l) = record o { lines = o.lines ++ l ∷ [] }

-- a global where no class and no function stands above it, a class where no function does, or the head of a function
abbrev pub AddsOutside : Above → List ℕ → Outside → Type 0
AddsOutside a piece (outside.Global v) = (a.classes ≡ []) × (a.functions ≡ []) × IsTrue (is_identifier v.0) × (global_line v ≡ piece)
AddsOutside a piece (outside.Class k) = (a.functions ≡ []) × IsClass piece k
AddsOutside a piece (outside.Head head vars) = BeginsFunction head vars piece

pub record AddsNothingOutside (a : Above) (piece : List ℕ) : Type 0 where
  pub no_global : (v : Declared) → a.classes ≡ [] → a.functions ≡ [] → IsTrue (is_identifier v.0) → global_line v ≢ piece
  pub no_class : a.functions ≡ [] → IsNoClass piece
  pub no_head : IsNoHead piece

abbrev pub with_outside : Above → Outside → Part
with_outside a (outside.Global v) = Between (record a { globals = a.globals ++ v ∷ [] })
with_outside a (outside.Class k) = Between (record a { classes = a.classes ++ k ∷ [] })
with_outside a (outside.Head head vars) = Inside a (record { head = head; vars = vars; lines = [] })
