-- Parts in a row, typed one behind another.
use Rattle.std.specs.Prelude.{List, [], ◌∷◌, ◌++◌, Option}
use Rattle.std.specs.Option.{option_map, option_zip}
use Rattle.py_check_messages.specs.Seen.{Seen, both, made}

-- a row is typed where each of its parts is
abbrev pub row_then : {A : Type 0} → Seen A → Seen (List A) → Seen (List A)
row_then one rest = made (λ p. p.0 ∷ p.1) (both one rest)

-- those that were typed before, and one more behind them
abbrev pub kept : {A : Type 0} → Option (List A) → Option A → Option (List A)
kept front one = option_map (λ p. p.0 ++ p.1 ∷ []) (option_zip front one)

-- those that were typed before, and all that is typed behind them
abbrev pub appended : {A : Type 0} → Option (List A) → Option (List A) → Option (List A)
appended front rest = option_map (λ p. p.0 ++ p.1) (option_zip front rest)
