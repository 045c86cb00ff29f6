-- How what is wrong with a file is written.
use Rattle.std.specs.Prelude.{ℕ, ◌==◌, if◌then◌else◌, List, [], ◌++◌, length, Option, Some, None, codes, decimal, flat_map}
use Rattle.py_parser_source.specs.Entries.{Entry}

-- the line that is written of an entry, with the name of the file as it stands in the command
abbrev pub entry_text : List ℕ → Entry → List ℕ
entry_text file e =
    file ++ (codes ":" ++ (decimal e.line ++ (codes ": error: " ++ (e.text ++ (codes "  [" ++ (e.code ++ codes "]\n"))))))

-- how many there are
abbrev pub errors_word : ℕ → List ℕ
errors_word count = if count == 1 then codes "error" else codes "errors"

abbrev pub found_text : ℕ → List ℕ
found_text count =
    codes "Found " ++ (decimal count ++ (codes " " ++ (errors_word count ++ codes " in 1 file (checked 1 source file)\n")))

abbrev pub entries_text : List ℕ → List Entry → List ℕ
entries_text file es = flat_map (entry_text file) es ++ found_text (length es)

-- ---- the lines on errors

-- what is said of an entry besides: a form that is not compiled is named
abbrev pub note_behind : List ℕ → ℕ → Option (List ℕ) → List ℕ
note_behind file line None = []
note_behind file line (Some note) =
    codes "mypyc: " ++ (file ++ (codes ":" ++ (decimal line ++ (codes ": not built yet: " ++ (note ++ codes "\n")))))

abbrev pub note_text : List ℕ → Entry → List ℕ
note_text file e = note_behind file e.line e.note

abbrev pub notes_text : List ℕ → List Entry → List ℕ
notes_text file es = flat_map (note_text file) es
