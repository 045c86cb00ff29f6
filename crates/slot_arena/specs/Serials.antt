-- The serial of a key: how many inserts there were before its own. A key holds it in two halves of 64 bits.
use Rattle.std.specs.Prelude.{ℕ, ◌+◌, ◌*◌, ◌/◌, ◌%◌, ◌^◌}
use Rattle.slot_arena.specs.declared.key.Key.{Key}
use Rattle.slot_arena.specs.declared.wide.Wide.{Wide}

-- the number in two halves, and the halves of a number
abbrev pub number_in : Wide → ℕ
number_in wide = wide.high * 2 ^ 64 + wide.low

abbrev pub wide_of : ℕ → Wide
wide_of n = record { high = n / 2 ^ 64; low = n % 2 ^ 64 }

abbrev pub serial_of : Key → ℕ
serial_of key = number_in key.serial

-- the key of a slot and a serial
abbrev pub key_with : ℕ → ℕ → Key
key_with slot serial = record { slot = slot; serial = wide_of serial }
