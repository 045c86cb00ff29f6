-- The definitions at small values: what a map with keys that are never used again has to say.
use Rattle.std.proofs.Common.{◌≡◌, ℕ, ◌+◌, ◌^◌, [], ◌∷◌, Some, None, refl}
use Rattle.slot_arena.specs.declared.key.Key.{Key}
use Rattle.slot_arena.specs.Serials.{wide_of, serial_of, key_with}
use Rattle.slot_arena.specs.Contents.{Contents, inserts, value_at, inserted, removed, condemned_with, taken_off, keys_of}
use Rattle.slot_arena.specs.Laid.{laid, values_in}

-- the keys of the first three inserts, where the third takes the slot of the first
abbrev first : Key
first = key_with 0 0

abbrev second : Key
second = key_with 1 1

abbrev third : Key
third = key_with 0 2

-- a serial past 2 ^ 64 takes both halves
halves : (wide_of (2 ^ 64 + 5) ≡ record { high = 1; low = 5 }) × (serial_of (key_with 7 (2 ^ 64 + 5)) ≡ 2 ^ 64 + 5)
halves = (refl, refl)

abbrev two : Contents ℕ
two = inserted (inserted (record { entries = []; condemned = []; spare = 2 }) first 10) second 20

abbrev three : Contents ℕ
three = inserted (removed two first) third 30

abbrev one_condemned : Contents ℕ
one_condemned = condemned_with three second 20

found : (value_at two first ≡ Some 10) × (value_at two second ≡ Some 20) × (value_at two third ≡ None) × (two.spare ≡ 0) × (inserts two ≡ 2)
found = (refl, refl, refl, refl, refl)

-- the first key stays dead in its old slot, and a key with the right serial and the wrong slot finds nothing
dead : (value_at three first ≡ None) × (value_at three third ≡ Some 30) × (value_at three (key_with 1 2) ≡ None) × (three.spare ≡ 0)
dead = (refl, refl, refl, refl)

-- in order of serials, whatever the slots
ordered : (keys_of three ≡ second ∷ third ∷ []) × (keys_of one_condemned ≡ third ∷ [])
ordered = (refl, refl)

-- a condemned pair keeps its slot until it is taken off
condemned : (value_at one_condemned second ≡ None) × (one_condemned.condemned ≡ (second, 20) ∷ []) × (one_condemned.spare ≡ 0) × ((taken_off one_condemned []).spare ≡ 1)
condemned = (refl, refl, refl, refl)

places : (laid {S = ℕ} (1 ∷ 2 ∷ []) 3 ≡ Some 1 ∷ Some 2 ∷ None ∷ []) × (values_in {S = ℕ} (Some 1 ∷ Some 2 ∷ None ∷ []) ≡ 1 ∷ 2 ∷ [])
places = (refl, refl)
