-- What copying a C text gives.
use Rattle.std.specs.Prelude.{◌≡◌, ℕ, ◌<◌, ◌≤◌, List, length, Result, Ok, Err}
use Rattle.outside_core.specs.Counts.{one_more}
use Rattle.outside_core.specs.declared.read_error.ReadError.{ReadError}
use Rattle.outside_core.specs.declared.read_error.ReadError.TheVariants as reading
use Rattle.c_text.specs.Reading.{HasWellFormed}
use Rattle.c_text.specs.declared.text_error.TextError.{TextError}
use Rattle.c_text.specs.declared.text_error.TextError.TheVariants as text
use Rattle.c_text_copy.specs.declared.copy.CopyError.{CopyError}
use Rattle.c_text_copy.specs.declared.copy.CopyError.TheVariants.{ReadFault, WriteFault, TooLarge, TextRefused, Memory}

-- how many bytes a text may have: 2 ^ 24
abbrev pub most_bytes : ℕ
most_bytes = 16777216

-- why bytes that are not too long have no well-formed code; of want of memory nothing is said
abbrev pub JudgesBytes : List ℕ → CopyError → Type 0
JudgesBytes bytes ReadFault = ⊥
JudgesBytes bytes WriteFault = ⊥
JudgesBytes bytes TooLarge = ⊥
JudgesBytes bytes TextRefused = ¬ (HasWellFormed bytes)
JudgesBytes bytes Memory = Unit {0}

-- which bytes are copied, and why others are not: a text of a well-formed code that is not too long, unless a call on the
-- outside failed or memory ran out
abbrev pub Judges : {T : Type 0} → List ℕ → Result T CopyError → Type 0
Judges bytes (Ok x) = HasWellFormed bytes × (length bytes ≤ most_bytes)
Judges bytes (Err ReadFault) = Unit {0}
Judges bytes (Err WriteFault) = HasWellFormed bytes × (length bytes ≤ most_bytes)
Judges bytes (Err TooLarge) = most_bytes < length bytes
Judges bytes (Err TextRefused) = (¬ (HasWellFormed bytes)) × (length bytes ≤ most_bytes)
Judges bytes (Err Memory) = Unit {0}

-- what a failure to read comes to, and a text that has no code
abbrev pub reading_error : ReadError → CopyError
reading_error reading.Failed = ReadFault
reading_error reading.TooLong = TooLarge
reading_error reading.Memory = Memory

abbrev pub text_error : TextError → CopyError
text_error (text.Refused place) = TextRefused
text_error text.Memory = Memory

-- the counts of faults: a refusal is counted once, and ends the copying
abbrev pub faults_of_input : {T : Type 0} → Result T CopyError → ℕ → ℕ
faults_of_input (Err ReadFault) n = one_more n
faults_of_input _ n = n

abbrev pub faults_of_out : {T : Type 0} → Result T CopyError → ℕ → ℕ
faults_of_out (Err WriteFault) n = one_more n
faults_of_out _ n = n

-- the exit status
abbrev pub status_number : {T : Type 0} → Result T CopyError → ℕ
status_number (Ok x) = 0
status_number (Err ReadFault) = 4
status_number (Err WriteFault) = 5
status_number (Err TooLarge) = 6
status_number (Err TextRefused) = 9
status_number (Err Memory) = 12
