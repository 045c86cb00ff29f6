-- The lines of classes.
use Rattle.std.specs.Prelude.{◌≡◌, ◌≢◌, ℕ, List, [], ◌∷◌, ◌++◌, map, IsTrue, codes}
use Rattle.std.specs.List.{list_all}
use Rattle.value_core.specs.Items.{line_feed}
use Rattle.c_core.specs.declared.code.CClass.{CClass}
use Rattle.c_core.specs.declared.code.Kind.{Kind}
use Rattle.c_core.specs.Text.{attribute_text, class_line, method_text, slot_text, trait_text}
use Rattle.c_core.specs.WellFormed.{spelled_class}
use Rattle.c_text.specs.Braces.{next_list}

-- each class is spelled
abbrev pub AreClasses : List CClass → Type 0
AreClasses classes = IsTrue (list_all spelled_class classes)

abbrev pub class_lines : List CClass → List (List ℕ)
class_lines classes = map class_line classes

-- a class has this line, and none has it
abbrev pub IsClass : List ℕ → CClass → Type 0
IsClass piece k = IsTrue (spelled_class k) × (class_line k ≡ piece)

abbrev pub IsNoClass : List ℕ → Type 0
IsNoClass piece = (k : CClass) → IsTrue (spelled_class k) → class_line k ≢ piece

-- the kind of an attribute behind its name, and what stands behind the attribute
abbrev pub slot_behind : Kind → List ℕ → List ℕ
slot_behind kind rest = codes ", " ++ (slot_text kind ++ 125 ∷ rest)

-- the three lists of a class, and the end of its line
abbrev pub class_lists : CClass → List ℕ
class_lists k =
    next_list attribute_text k.attrs (next_list method_text k.methods (next_list trait_text k.traits (codes "};")))

-- a line as it is written
abbrev pub class_written : CClass → List ℕ
class_written k = class_line k ++ (line_feed ∷ [])
