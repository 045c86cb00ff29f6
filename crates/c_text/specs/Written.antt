-- Lines as they are written piece by piece, each with its spaces, its semicolon and its line feed.
use Rattle.std.specs.Prelude.{ℕ, cond, List, [], ◌∷◌, ◌++◌, codes, drop, take}
use Rattle.std.specs.Fmt.{decimal}
use Rattle.std.specs.List.{flat_map}
use Rattle.value_core.specs.Items.{line_feed}
use Rattle.c_core.specs.declared.code.CFunc.{CFunc}
use Rattle.c_core.specs.declared.code.Line.{Line}
use Rattle.c_core.specs.Functions.{is_label}
use Rattle.c_core.specs.Text.{comma, declaration_text, function_end, kind_text, module_head, parameters_text, statement_text}
use Rattle.c_core.specs.WellFormed.{Declared}
use Rattle.c_text.specs.Labels.{labels_after}

abbrev pub declaration_written : Declared → List ℕ
declaration_written v = codes "    " ++ (kind_text v.1 ++ (codes "cpy_" ++ (v.0 ++ codes ";\n")))

abbrev pub indented_written : List Declared → Line → List ℕ
indented_written vars l = codes "    " ++ (statement_text vars l ++ codes ";\n")

abbrev pub label_written : ℕ → List ℕ
label_written n = codes "CPyL" ++ (decimal n ++ codes ": ;\n")

-- a line above which n labels stand
abbrev pub line_written : List Declared → ℕ → Line → List ℕ
line_written vars n l = cond (is_label l) (label_written n) (indented_written vars l)

-- lines above which n labels stand
abbrev pub lines_written : List Declared → ℕ → List Line → List ℕ
lines_written vars n [] = []
lines_written vars n (l ∷ lines) = line_written vars n l ++ lines_written vars (labels_after n l) lines

abbrev pub global_written : Declared → List ℕ
global_written v = kind_text v.1 ++ (codes "CPyStatic_" ++ (v.0 ++ codes ";\n"))

-- a parameter that is not the first one
abbrev pub next_parameter : Declared → List ℕ
next_parameter v = comma ++ declaration_text v

abbrev pub head_written : CFunc → List ℕ
head_written g =
    kind_text g.ret ++ (codes "CPyDef_" ++ (g.name ++ (codes "(" ++ (parameters_text (take g.params g.vars) ++ codes ") {\n"))))

abbrev pub other_written : CFunc → List ℕ
other_written g =
    head_written g ++ (flat_map declaration_written (drop g.params g.vars) ++ (lines_written g.vars 0 g.lines ++ (function_end ++ (line_feed ∷ []))))

abbrev pub top_written : CFunc → List ℕ
top_written g =
    module_head ++ (line_feed ∷ (flat_map declaration_written g.vars ++ (lines_written g.vars 0 g.lines ++ (function_end ++ (line_feed ∷ [])))))

-- the last function is the module's own
abbrev pub functions_written : List CFunc → List ℕ
functions_written [] = []
functions_written (g ∷ []) = top_written g
functions_written (g ∷ h ∷ gs) = other_written g ++ functions_written (h ∷ gs)
