-- All that is wrong with a file, by its bytes and by what is asked for. The rules go in this order, and the first that is
-- broken ends the search: the file is a text; its characters are tokens; its tokens are a module; its names and types are
-- right; and, where it is compiled, each form can be. Only names and types can be wrong at several places: every other entry
-- stands alone.
use Rattle.std.specs.Prelude.{ℕ, Bool, true, false, if◌then◌else◌, List, [], ◌∷◌, Option, Some, option_to_list, codes}
use Rattle.std.specs.Option.{option_map}
use Rattle.py_syntax.specs.Statements.{Suite}
use Rattle.ir_builder_forms.specs.declared.form.Unbuilt.{Unbuilt}
use Rattle.ir_builder_forms.specs.Forms.{form_text}
use Rattle.ir_builder_supported.specs.Statements.{uncompiled_form}
use Rattle.py_parser_source.specs.Entries.{Entry, Telling}
use Rattle.py_parser_source.specs.Faults as source
use Rattle.mypyc_top_words.specs.declared.words.Emit.{Emit}
use Rattle.mypyc_top_words.specs.declared.words.Emit.TheVariants.{Check, C, Run, Runc}
use Rattle.mypyc_top_compiler.specs.Types.{types_said, typed_tree}

-- the entry for a form that is not compiled, where there is one; its note says which form it is
abbrev pub unbuilt_entry : Unbuilt → Entry
unbuilt_entry u = record { line = u.line; text = codes "Form is not built yet"; code = codes "unbuilt"; note = Some (form_text u.form) }

abbrev pub unbuilt_at : Option Unbuilt → List Entry
unbuilt_at found = option_to_list (option_map unbuilt_entry found)

-- the modes that compile a module
abbrev pub compiles : Emit → Bool
compiles C = true
compiles Run = true
compiles Check = false
compiles Runc = false

-- the first of two lists, unless it is empty
abbrev pub or_else : List Entry → List Entry → List Entry
or_else [] others = others
or_else (e ∷ es) others = e ∷ es

-- what is told in a mode where this is the first form that is not compiled
abbrev pub of_compiling : Emit → Option Unbuilt → List Entry
of_compiling mode found = if compiles mode then unbuilt_at found else []

-- what is told of a module that has this tree
abbrev pub told : Emit → Telling
told mode m = or_else (types_said m) (of_compiling mode (uncompiled_form m (typed_tree m)))

-- THE FAULTS of a file in a mode
abbrev pub AreFaults : Emit → List ℕ → List Entry → Type 0
AreFaults mode bytes es = source.AreFaults (told mode) bytes es
