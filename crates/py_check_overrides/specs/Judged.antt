-- What holds of a verdict on a class, and of what is kept of the class then.
use Rattle.std.specs.Prelude.{◌≡◌, ℕ, ◌<◌, true, List, Some, slice_get}
use Rattle.std.specs.Str.{bytes_eq}
use Rattle.indexmap.specs.IndexMap.{get}
use Rattle.py_typed.specs.Classes.{ClassEntry}
use Rattle.py_typed.specs.Order.{order, listed_order}
use Rattle.class_layout_members.specs.Clashes.{Definition}
use Rattle.py_check_overrides.specs.Overrides.{Own, Verdict, passed, defined_along}
use Rattle.py_check_overrides.specs.Lines.{Tells, IsNew, said_in, is_by, known, known_above, known_or_new}
use Rattle.py_check_overrides.specs.Views.{verdict}
use Rattle.py_check_overrides.specs.declared.lines.Lines.{Lines}
use Rattle.py_check_overrides.specs.declared.judge.Judged.{Judged}

-- the definitions along the order of a class
abbrev pub along_order : List ClassEntry → List (List Own) → ℕ → List (List ℕ × Definition)
along_order classes owns c = defined_along owns (listed_order (order classes c))

-- of each class that passes it is known with what all definitions along its order agree
abbrev pub AllTold : List ClassEntry → List (List Own) → List Verdict → Lines → Type 0
AllTold classes owns before lines = (c : ℕ) → passed (slice_get before c) ≡ true → Tells (along_order classes owns c) (known lines c)

-- and so of the next class
pub record IsJudged (classes : List ClassEntry) (owns : List (List Own)) (lines : Lines) (number : ℕ) (judged : Judged) : Type 0 where
  pub there : (b : ℕ) → judged.above ≡ Some b → b < number
  pub said : (name : List ℕ) → is_by number (get bytes_eq judged.new name) ≡ true
  pub fresh : IsNew (said_in judged.new) (known_above lines judged.above)
  pub told : passed (Some (verdict judged.verdict)) ≡ true → Tells (along_order classes owns number) (known_or_new (known_above lines judged.above) (said_in judged.new))
