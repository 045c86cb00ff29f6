-- When the texts of a run are in UTF-8: those of values, of objects, of the input's lines and of where a run stops.
use Rattle.std.specs.Prelude.{◌≡◌, Bool, true, ◌&&◌, Option, Some, None}
use Rattle.std.specs.List.{list_all}
use Rattle.std.specs.Str.{is_utf8}
use Rattle.value_core.specs.Ending.{Ending, Raised}
use Rattle.value_core.specs.Items.{Items, Line, Bad}
use Rattle.value_core.specs.Value.{Value, StrVal, TupleVal, ExcVal, Values, no_values, value_then, Object, ListObj, DictObj, InstObj}
use Rattle.source_meaning.specs.State.{give, needs}
use Rattle.source_meaning.specs.SourceRun.{ModuleStop}
use Rattle.source_soundness.specs.Watched.{Watch}

-- each line of input that is left and has a text
abbrev pub has_utf8_lines : Items → Bool
has_utf8_lines (Line text next) = is_utf8 text && has_utf8_lines next
has_utf8_lines (Bad next) = has_utf8_lines next
has_utf8_lines items = true

abbrev mutual
  -- a text, the text of an exception, and those in a tuple; objects have their own
  pub has_utf8_texts : Value → Bool
  has_utf8_texts (StrVal text) = is_utf8 text
  has_utf8_texts (ExcVal e) = is_utf8 e.text
  has_utf8_texts (TupleVal vs) = have_utf8_texts vs
  has_utf8_texts v = true

  -- one after another
  pub have_utf8_texts : Values → Bool
  have_utf8_texts no_values = true
  have_utf8_texts (value_then v vs) = has_utf8_texts v && have_utf8_texts vs

-- what a variable or an attribute holds, if anything
abbrev pub holds_utf8_texts : Option Value → Bool
holds_utf8_texts None = true
holds_utf8_texts (Some v) = has_utf8_texts v

-- the items of a list, the keys and items of a dict, the attributes of an instance
abbrev pub has_utf8_parts : Object → Bool
has_utf8_parts (ListObj vs) = list_all has_utf8_texts vs
has_utf8_parts (DictObj ps) = list_all (λ p. has_utf8_texts p.0 && has_utf8_texts p.1) ps
has_utf8_parts (InstObj c vs) = list_all holds_utf8_texts vs

-- the text of the exception that ended a run, if one did
abbrev pub ends_in_utf8 : Option Ending → Bool
ends_in_utf8 (Some (Raised e)) = is_utf8 e.text
ends_in_utf8 ending = true

-- the output, the exception that ended the run, the objects, and the module's variables
pub record StopsInUtf8 (stop : ModuleStop) : Type 0 where
  pub output : is_utf8 stop.output ≡ true
  pub ending : ends_in_utf8 stop.ending ≡ true
  pub store : list_all has_utf8_parts stop.store ≡ true
  pub variables : list_all holds_utf8_texts stop.variables ≡ true

-- stuck at a value with a text that is not in UTF-8
abbrev pub utf8_texts : Watch
utf8_texts t v = needs (has_utf8_texts v) (give v)
