-- What the words of the command mean: `mypyc [--emit=check|c|run|runc] [--stage=build|errors|owned] [--turns=N] FILE`, in
-- any order. The rule looks at the whole list: the values that it gives to each option, its files, and what is left.
use Rattle.std.specs.Prelude.{ℕ, nat_lt, nat_le, Bool, false, if◌then◌else◌, not, ◌&&◌, ◌||◌, ◌==◌, List, [], ◌∷◌, length, drop, map, filter, codes, String, string_bytes, nat_eq, Option, Some, None, is_some}
use Rattle.std.specs.List.{starts_with, filter_map, list_any, list_all}
use Rattle.std.specs.Char.{is_ascii_digit}
use Rattle.std.specs.Str.{bytes_eq}
use Rattle.std.specs.Str.Parse.{digits_value}
use Rattle.mypyc_top_words.specs.declared.words.Words.{Words}
use Rattle.mypyc_top_words.specs.declared.words.Words.TheVariants.{Usage, Go}
use Rattle.mypyc_top_words.specs.declared.words.Emit.{Emit}
use Rattle.mypyc_top_words.specs.declared.words.Emit.TheVariants.{Check, C, Run, Runc}
use Rattle.mypyc_top_words.specs.declared.words.Stage.{Stage}
use Rattle.mypyc_top_words.specs.declared.words.Stage.TheVariants.{Build, Errors, Owned}
use Rattle.c_core.specs.Run.{most_turns}

-- the bytes of the words
abbrev pub texts : {A : Type 0} → List (String A) → List (List ℕ)
texts words = map string_bytes words

-- the names of the options
abbrev pub emit_name : List ℕ
emit_name = codes "--emit="

abbrev pub stage_name : List ℕ
stage_name = codes "--stage="

abbrev pub turns_name : List ℕ
turns_name = codes "--turns="

-- the value that a word gives to an option: what stands behind its name
abbrev pub value_in : List ℕ → List ℕ → Option (List ℕ)
value_in name word = if starts_with nat_eq word name then Some (drop (length name) word) else None

abbrev pub values : List ℕ → List (List ℕ) → List (List ℕ)
values name words = filter_map (value_in name) words

abbrev pub is_option : List ℕ → Bool
is_option word = is_some (value_in emit_name word) || is_some (value_in stage_name word) || is_some (value_in turns_name word)

-- a file's name is not empty, and does not begin with `-` unless it is `-`, the standard input
abbrev pub is_file : List ℕ → Bool
is_file [] = false
is_file (b ∷ bs) = not (b == 45) || bytes_eq bs []

abbrev pub is_left : List ℕ → Bool
is_left word = not (is_option word) && not (is_file word)

-- the values of `--emit=` that are listed
abbrev pub listed_emit : List ℕ → Option Emit
listed_emit value =
    if bytes_eq value (codes "check") then Some Check
    else (if bytes_eq value (codes "c") then Some C
    else (if bytes_eq value (codes "run") then Some Run
    else (if bytes_eq value (codes "runc") then Some Runc
    else None)))

abbrev pub listed_stage : List ℕ → Option Stage
listed_stage value =
    if bytes_eq value (codes "build") then Some Build
    else (if bytes_eq value (codes "errors") then Some Errors
    else (if bytes_eq value (codes "owned") then Some Owned
    else None))

-- a number of turns has 1 to 19 digits, and is at most the greatest one
abbrev pub is_turns : List ℕ → Bool
is_turns value =
    list_all is_ascii_digit value && nat_lt 0 (length value) && nat_le (length value) 19 && nat_le (digits_value 10 value) most_turns

abbrev pub listed_turns : List ℕ → Option ℕ
listed_turns value = if is_turns value then Some (digits_value 10 value) else None

-- what the values of an option mean: no value its default, one value what is listed, and more of them nothing
abbrev pub setting : {A : Type 0} → A → (List ℕ → Option A) → List (List ℕ) → Option A
setting default listed [] = Some default
setting default listed (value ∷ []) = listed value
setting default listed (value ∷ other ∷ more) = None

-- the one file
abbrev pub only : List (List ℕ) → Option (List ℕ)
only (file ∷ []) = Some file
only _ = None

-- a request has a meaning of each option and exactly one file, and no word is left
abbrev pub meant_by : Bool → Option Emit → Option Stage → Option ℕ → Option (List ℕ) → Words
meant_by false (Some emit) (Some stage) (Some turns) (Some file) =
    Go (record { emit = emit; stage = stage; turns = turns; file = file })
meant_by _ _ _ _ _ = Usage

unfoldable pub words_of : List (List ℕ) → Words
words_of words =
    meant_by
    (list_any is_left words)
    (setting Run listed_emit (values emit_name words))
    (setting Owned listed_stage (values stage_name words))
    (setting 100000000 listed_turns (values turns_name words))
    (only (filter is_file words))
