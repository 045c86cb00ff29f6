-- Why a file is no C text that can be run: no spelled code has it, or none of those that do is well formed.
use Rattle.std.specs.Prelude.{ℕ, List}
use Rattle.c_text.specs.Reading.{HasCode, HasWellFormed, RefusedAt}
use Rattle.mypyc_top_reading.specs.declared.text.TextFault.{TextFault}
use Rattle.mypyc_top_reading.specs.declared.text.TextFault.TheVariants.{Refused, IllFormed, Memory}

abbrev pub IsTextFault : List ℕ → TextFault → Type 0
IsTextFault bytes (Refused place) = ¬ (HasCode bytes) × RefusedAt bytes place
IsTextFault bytes IllFormed = HasCode bytes × ¬ (HasWellFormed bytes)
IsTextFault bytes Memory = Unit {0}
