-- What the command answers: what its output and its lines on errors get, and its status, by its words, by what came of
-- its file, and by the lines of its input. The first rule that applies holds.
use Rattle.std.specs.Prelude.{◌≡◌, ℕ, nat_lt, Bool, true, false, List, [], ◌∷◌, length, codes, Option, Some, None}
use Rattle.value_core.specs.Items.{Items}
use Rattle.py_typed.specs.Statements.{TypedModule}
use Rattle.c_core.specs.declared.code.Code.{Code}
use Rattle.c_core.specs.Text.{code_text}
use Rattle.mypyc_top_words.specs.declared.words.Emit.{Emit}
use Rattle.mypyc_top_words.specs.declared.words.Emit.TheVariants.{Check, C, Run, Runc}
use Rattle.mypyc_top_words.specs.declared.words.Request.{Request}
use Rattle.mypyc_top_words.specs.declared.words.Words.{Words}
use Rattle.mypyc_top_words.specs.declared.words.Words.TheVariants.{Usage, Go}
use Rattle.mypyc_top_words.specs.Words.{words_of}
use Rattle.mypyc_top_words.specs.Limits.{most_bytes}
use Rattle.mypyc_top_status.specs.declared.status.Status.{Status}
use Rattle.mypyc_top_status.specs.declared.status.Status.TheVariants as status
use Rattle.py_parser_source.specs.Entries.{Entry}
use Rattle.mypyc_top_status.specs.ErrorLines.{usage_line, open_line, read_line, large_line}
use Rattle.mypyc_top_compiler.specs.Source.{IsTyped}
use Rattle.mypyc_top_compiler.specs.Faithful.{Faithful}
use Rattle.mypyc_top_compiler.specs.Diagnostics.{entries_text, notes_text}
use Rattle.mypyc_top_compiler.specs.Faults.{AreFaults}
use Rattle.mypyc_top.specs.Running.{TextRun, ModuleRun}

-- what came of the file: it was not opened, it was not read, or it has these bytes
pub data FileMeaning : Type 0 where
  NoOpen : FileMeaning
  NoRead : FileMeaning
  Bytes : (bytes : List ℕ) → FileMeaning

-- what files tell after a call: whether their count of faults rose in it, whether a file is open after it, and the bytes
-- of the file
abbrev pub file_meaning : Bool → Bool → Option (List ℕ) → FileMeaning
file_meaning true false content = NoOpen
file_meaning true true content = NoRead
file_meaning false is_open (Some bytes) = Bytes bytes
file_meaning false is_open None = NoOpen

abbrev pub success_text : List ℕ
success_text = codes "Success: no issues found in 1 source file\n"

-- a module without faults is said to have none
abbrev pub Checked : List ℕ → List ℕ → Status → Type 0
Checked out err s = (out ≡ success_text) × (err ≡ []) × (s ≡ status.Done)

-- C text is that of a code that is faithful to the module
abbrev pub Compiled : TypedModule → List ℕ → List ℕ → Status → Type 0
Compiled m out err s = ((code : Code) × Faithful m code × (out ≡ code_text code)) × (err ≡ []) × (s ≡ status.Done)

-- a file with these faults is answered by them, with their notes on errors, and one without any by what is asked for of its typed
-- module
abbrev pub FaultsAnswer : List ℕ → List ℕ → (TypedModule → Type 0) → List Entry → List ℕ → List ℕ → Status → Type 0
FaultsAnswer file bytes Good (e ∷ es) out err s = (out ≡ entries_text file (e ∷ es)) × (err ≡ notes_text file (e ∷ es)) × (s ≡ status.Diagnosed)
FaultsAnswer file bytes Good [] out err s = (m : TypedModule) × IsTyped bytes m × Good m

-- a file that is to be a module is answered by its faults in the mode
abbrev pub ModuleAnswer : Emit → List ℕ → List ℕ → (TypedModule → Type 0) → List ℕ → List ℕ → Status → Type 0
ModuleAnswer mode file bytes Good out err s = (es : List Entry) × AreFaults mode bytes es × FaultsAnswer file bytes Good es out err s

abbrev pub ModeAnswer : Emit → Request → List ℕ → Items → List ℕ → List ℕ → Status → Type 0
ModeAnswer Check r bytes items out err s = ModuleAnswer Check r.file bytes (λ m. Checked out err s) out err s
ModeAnswer C r bytes items out err s = ModuleAnswer C r.file bytes (λ m. Compiled m out err s) out err s
ModeAnswer Run r bytes items out err s = ModuleAnswer Run r.file bytes (λ m. ModuleRun m r.turns items out err s) out err s
ModeAnswer Runc r bytes items out err s = TextRun r.file bytes r.turns items out err s

-- whether the file is too large
abbrev pub SizedAnswer : Bool → Request → List ℕ → Items → List ℕ → List ℕ → Status → Type 0
SizedAnswer true r bytes items out err s = (out ≡ []) × (err ≡ large_line r.file) × (s ≡ status.TooLarge)
SizedAnswer false r bytes items out err s = ModeAnswer r.emit r bytes items out err s

abbrev pub RequestAnswer : Request → FileMeaning → Items → List ℕ → List ℕ → Status → Type 0
RequestAnswer r NoOpen items out err s = (out ≡ []) × (err ≡ open_line r.file) × (s ≡ status.OpenFault)
RequestAnswer r NoRead items out err s = (out ≡ []) × (err ≡ read_line r.file) × (s ≡ status.ReadFault)
RequestAnswer r (Bytes bytes) items out err s = SizedAnswer (nat_lt (most_bytes r.emit) (length bytes)) r bytes items out err s

abbrev pub WordsAnswer : Words → FileMeaning → Items → List ℕ → List ℕ → Status → Type 0
WordsAnswer Usage file items out err s = (out ≡ []) × (err ≡ usage_line) × (s ≡ status.Usage)
WordsAnswer (Go r) file items out err s = RequestAnswer r file items out err s

-- what the words are answered, where this came of the file and these are the lines of the input
abbrev pub Answer : List (List ℕ) → FileMeaning → Items → List ℕ → List ℕ → Status → Type 0
Answer words file items out err s = WordsAnswer (words_of words) file items out err s

-- THE STATUS that the words are answered where the file has these bytes: it is that of an answer
abbrev pub IsStatus : List (List ℕ) → List ℕ → Items → Status → Type 0
IsStatus words bytes items s = (out : List ℕ) × ((err : List ℕ) × Answer words (Bytes bytes) items out err s)
