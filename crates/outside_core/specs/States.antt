-- The state of files, sources and sinks that are kept in memory.
use Rattle.std.specs.Prelude.{ℕ, Bool, List, [], map, Option, String, string_bytes, Vec, slice_index_or}
use Rattle.std.specs.Map.{lookup}
use Rattle.std.specs.Str.{bytes_eq}
use Rattle.outside_core.specs.Schedule.{Schedule}

-- what a sink took, and its calls
pub record MemSinkState : Type 0 where
  pub taken : List ℕ
  pub calls : Schedule

-- what a source has left, how many bytes it gives a read at most, and its calls
pub record MemSourceState : Type 0 where
  pub left : List ℕ
  pub piece : ℕ
  pub calls : Schedule

-- the bytes that every name opens, and what is left of the open file
pub record CalmFilesState : Type 0 where
  pub bytes : List ℕ
  pub left : Option (List ℕ)

-- names and bytes, without where they lie in memory
abbrev pub named : {Y Z : Type 0} → List (String Y × Vec ℕ Z) → List (List ℕ × List ℕ)
named files = map (λ file. (string_bytes file.0, file.1.items)) files

-- the bytes of the file with this number
abbrev pub bytes_of : {Y Z : Type 0} → List (String Y × Vec ℕ Z) → ℕ → List ℕ
bytes_of files number = slice_index_or (map (λ file. file.1.items) files) number []

-- whether a file has this name
abbrev pub is_called : {Y Z : Type 0} → List ℕ → (String Y × Vec ℕ Z) → Bool
is_called name file = bytes_eq (string_bytes file.0) name

-- the bytes of the first entry of that name
abbrev pub content_of : List (List ℕ × List ℕ) → List ℕ → Option (List ℕ)
content_of files name = lookup (λ called. bytes_eq called name) files

-- files by their names, the calls, how many times an absent name was to be opened, and what is left
-- of the open file
pub record MemFilesState : Type 0 where
  pub files : List (List ℕ × List ℕ)
  pub calls : Schedule
  pub absent_opens : ℕ
  pub left : Option (List ℕ)
