-- What it means that a file is not read.
use Rattle.std.specs.Prelude.{◌≡◌, ℕ, ◌<◌, Bool, true, false, List, length, Option, Some, is_some, IsTrue, Result, Ok, Err}
use Rattle.outside_core.specs.Counts.{one_more}
use Rattle.outside_core.specs.declared.read_error.ReadError.{ReadError}
use Rattle.outside_core.specs.declared.read_error.ReadError.TheVariants as errors
use Rattle.mypyc_top_reading.specs.declared.reading.Refusal.{Refusal}
use Rattle.mypyc_top_reading.specs.declared.reading.Refusal.TheVariants.{Open, Read, TooLarge, Memory}

abbrev pub refusal_of : ReadError → Refusal
refusal_of errors.Failed = Read
refusal_of errors.TooLong = TooLarge
refusal_of errors.Memory = Memory

-- the count of faults: a file that cannot be opened or read is one fault, and nothing else is
abbrev pub faults_after : {T : Type 0} → Result T Refusal → ℕ → ℕ
faults_after (Ok x) n = n
faults_after (Err Open) n = one_more n
faults_after (Err Read) n = one_more n
faults_after (Err TooLarge) n = n
faults_after (Err Memory) n = n

-- whether a file is open afterwards, and what its content must be, where the files tell it; `most` is how many bytes a
-- file may have
abbrev pub Refused : ℕ → Bool → Bool → Option (List ℕ) → Refusal → Type 0
Refused most tells is_open content Open = is_open ≡ false
Refused most tells is_open content Read = (is_open ≡ true) × (IsTrue tells → IsTrue (is_some content))
Refused most tells is_open content TooLarge = IsTrue tells → (bytes : List ℕ) × (content ≡ Some bytes) × (most < length bytes)
Refused most tells is_open content Memory = Unit {0}
