-- The file that the words name, and how many bytes it may have.
use Rattle.std.specs.Prelude.{ℕ, List, Option, Some, None}
use Rattle.std.specs.Option.{option_and_then}
use Rattle.mypyc_top_words.specs.declared.words.Emit.{Emit}
use Rattle.mypyc_top_words.specs.declared.words.Emit.TheVariants.{Runc}
use Rattle.mypyc_top_words.specs.declared.words.Words.{Words}
use Rattle.mypyc_top_words.specs.declared.words.Words.TheVariants.{Usage, Go}
use Rattle.mypyc_top_words.specs.Words.{words_of}

-- the file that the words name
abbrev pub named_file : Words → Option (List ℕ)
named_file Usage = None
named_file (Go r) = Some r.file

-- its bytes, where the files tell them
abbrev pub named_content : (List ℕ → Option (List ℕ)) → List (List ℕ) → Option (List ℕ)
named_content content words = option_and_then content (named_file (words_of words))

-- the greatest number of bytes of a file: of a C text, and of a module
abbrev pub most_bytes : Emit → ℕ
most_bytes Runc = 16777216
most_bytes _ = 262144

-- of the file that the words name
abbrev pub named_most : Words → ℕ
named_most Usage = 0
named_most (Go r) = most_bytes r.emit
