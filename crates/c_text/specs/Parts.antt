-- How far a text has come, line by line: its lines so far are those with which the text of a code may begin.
use Rattle.std.specs.Prelude.{◌≡◌, ℕ, List, [], ◌∷◌, ◌++◌, drop, Option, MatchOption, IsTrue}
use Rattle.std.specs.List.{list_all}
use Rattle.c_core.specs.declared.code.CFunc.{CFunc}
use Rattle.c_core.specs.declared.code.Code.{Code}
use Rattle.c_core.specs.declared.code.Line.{Line}
use Rattle.c_core.specs.Text.{code_lines, declaration_lines, first_line, function_end, function_head, global_lines, statement_lines}
use Rattle.c_core.specs.WellFormed.{Declared, Spelled, spelled_function, spelled_line}
use Rattle.c_text.specs.declared.part.Above.{Above}
use Rattle.c_text.specs.declared.part.Open.{Open}
use Rattle.c_text.specs.declared.part.Part.{Part}
use Rattle.c_text.specs.declared.part.Part.TheVariants.{Start, Between, Inside, Closed}
use Rattle.c_text.specs.Classes.{AreClasses, class_lines}
use Rattle.c_text.specs.Heads.{IsHead, head_line, parameters_of}
use Rattle.c_text.specs.Reading.{CanStand}
use Rattle.c_text.specs.Statements.{AreNamed}

-- each statement is spelled
abbrev pub AreSpelled : List Declared → List Line → Type 0
AreSpelled vars lines = IsTrue (list_all (spelled_line vars) lines)

-- the lines of functions that are not the module's own
abbrev pub other_lines : List CFunc → List (List ℕ)
other_lines [] = []
other_lines (g ∷ gs) =
    function_head g ∷ (declaration_lines (drop g.params g.vars) ++ (statement_lines g.vars g.lines ++ (function_end ∷ other_lines gs)))

-- the lines above a function
abbrev pub above_lines : Above → List (List ℕ)
above_lines a = first_line ∷ (global_lines a.globals ++ (class_lines a.classes ++ other_lines a.functions))

-- the lines of a function that has not ended
abbrev pub open_lines : Open → List (List ℕ)
open_lines o = head_line o.head o.vars ∷ (declaration_lines (drop (parameters_of o.head) o.vars) ++ statement_lines o.vars o.lines)

-- the code of which nothing is missing
abbrev pub code_of : Above → Code
code_of a = record { globals = a.globals; classes = a.classes; funcs = a.functions }

-- the lines of a text up to a part
abbrev pub part_lines : Part → List (List ℕ)
part_lines Start = []
part_lines (Between a) = above_lines a
part_lines (Inside a o) = above_lines a ++ open_lines o
part_lines (Closed a) = code_lines (code_of a)

-- what was read up to a part may stand there
pub record IsAbove (a : Above) : Type 0 where
  pub named : AreNamed a.globals
  pub classes : AreClasses a.classes
  pub functions : IsTrue (list_all spelled_function a.functions)

pub record IsOpen (o : Open) : Type 0 where
  pub head : IsHead o.head o.vars
  pub named : AreNamed o.vars
  pub spelled : AreSpelled o.vars o.lines

abbrev pub IsFine : Part → Type 0
IsFine Start = Unit {0}
IsFine (Between a) = IsAbove a
IsFine (Inside a o) = IsAbove a × IsOpen o
IsFine (Closed a) = Spelled (code_of a)

-- one line more
abbrev pub IsNext : Part → List ℕ → Part → Type 0
IsNext part line next = IsFine next × (part_lines next ≡ part_lines part ++ line ∷ [])

-- a line leads to the next part, or none where it cannot stand behind those of the part
abbrev pub GoesOn : Part → List ℕ → Option Part → Type 0
GoesOn part line found = MatchOption found (¬ (CanStand (part_lines part ++ line ∷ []))) (IsNext part line)
