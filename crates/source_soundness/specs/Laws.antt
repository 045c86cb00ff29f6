-- What holds of every run of a well-typed module.
use Rattle.std.specs.Prelude.{◌≡◌, ℕ, Bool, true, List, Some}
use Rattle.std.specs.Str.{is_utf8}
use Rattle.value_core.specs.Items.{Items, InputEnd, input_items}
use Rattle.py_typed.specs.Classes.{is_class_under}
use Rattle.py_typed.specs.Order.{place_in, attributes}
use Rattle.py_typed.specs.Statements.{TypedModule}
use Rattle.source_meaning.specs.SourceRun.{source_run}
use Rattle.source_meaning.specs.Soundness.{NeverStuck}
use Rattle.py_typed.specs.WellTypedModule.{is_well_typed}
use Rattle.source_soundness.specs.Watched.{watched_run}
use Rattle.source_soundness.specs.Shapes.{shapes}
use Rattle.source_soundness.specs.Texts.{has_utf8_lines, StopsInUtf8, utf8_texts}

-- no well-typed module is ever stuck, for any number of turns on any input, whatever test identifiers pass
abbrev pub NoneIsStuck : Type 0
NoneIsStuck = (is_identifier : List ℕ → Bool) → NeverStuck is_identifier

-- each value that is read or made in a run of a well-typed module has its type's shape: the run that is stuck where one has not is the
-- run itself
abbrev pub TypesAreSound : Type 0
TypesAreSound = (is_identifier : List ℕ → Bool) (m : TypedModule) → is_well_typed is_identifier m ≡ true → (n : ℕ) (items : Items)
    → watched_run (shapes m.classes.classes) m n items ≡ source_run n items m

-- in a well-typed module an attribute of a class has its place in each class under it
abbrev pub AttributesKeepPlaces : Type 0
AttributesKeepPlaces = (is_identifier : List ℕ → Bool) (m : TypedModule) → is_well_typed is_identifier m ≡ true → (b c : ℕ) (name : List ℕ) (i : ℕ)
    → is_class_under m.classes.classes b c ≡ true → place_in name (attributes m.classes.classes c) ≡ Some i → place_in name (attributes m.classes.classes b) ≡ Some i

-- where only texts in UTF-8 pass the test of identifiers, and the lines of the input are in UTF-8, so are all texts of a run of a
-- well-typed module, whose literals are by their rule: those that the run leaves when it stops, and those of each value that is read or
-- made, since the run that is stuck at any other value is the run itself
abbrev pub TextsAreUtf8 : Type 0
TextsAreUtf8 = (is_identifier : List ℕ → Bool) → ((name : List ℕ) → is_identifier name ≡ true → is_utf8 name ≡ true) → (m : TypedModule) → is_well_typed is_identifier m ≡ true → (n : ℕ) (items : Items)
    → has_utf8_lines items ≡ true → StopsInUtf8 (source_run n items m) × (watched_run utf8_texts m n items ≡ source_run n items m)

-- the lines of any bytes are in UTF-8: a line that is not has no text
abbrev pub LinesAreUtf8 : Type 0
LinesAreUtf8 = (bytes : List ℕ) (end : InputEnd) → has_utf8_lines (input_items bytes end) ≡ true
