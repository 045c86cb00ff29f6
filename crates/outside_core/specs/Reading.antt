-- The count of faults after a whole file was read.
use Rattle.std.specs.Prelude.{ℕ, Result, Ok, Err}
use Rattle.outside_core.specs.Counts.{one_more}
use Rattle.outside_core.specs.declared.read_error.ReadError.{ReadError}
use Rattle.outside_core.specs.declared.read_error.ReadError.TheVariants.{Failed, TooLong, Memory}

-- a refused read is counted once, and ends the reading; nothing else is counted
abbrev pub count_after_reading : {T : Type 0} → Result T ReadError → ℕ → ℕ
count_after_reading (Ok x) n = n
count_after_reading (Err Failed) n = one_more n
count_after_reading (Err TooLong) n = n
count_after_reading (Err Memory) n = n
