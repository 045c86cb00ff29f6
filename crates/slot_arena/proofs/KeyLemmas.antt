-- A key and its two parts: the slot and the serial make the key, and the key tells them.
use Rattle.std.proofs.Common.{◌≡◌, ℕ, ◌^◌, ◌<◌, ap, arith}
use Rattle.slot_arena.specs.declared.key.Key.{Key}
use Rattle.slot_arena.specs.declared.wide.Wide.{Wide}
use Rattle.slot_arena.specs.Serials.{number_in, wide_of, serial_of, key_with}

pub number_in-wide_of : (n : ℕ) → number_in (wide_of n) ≡ n
number_in-wide_of n = omega arith

pub wide_of-number_in : (wide : Wide) → wide.low < 2 ^ 64 → wide_of (number_in wide) ≡ wide
wide_of-number_in wide small = record_same (omega arith) (omega arith)
  where
    record_same : {high low : ℕ} → high ≡ wide.high → low ≡ wide.low → ◌≡◌ {A = Wide} (record { high = high; low = low }) wide
    record_same h l = λ i. record { high = h i; low = l i }

pub serial_of-key_with : (slot serial : ℕ) → serial_of (key_with slot serial) ≡ serial
serial_of-key_with slot serial = number_in-wide_of serial

-- a key whose serial has its second half below 2 ^ 64, as each has in memory, is the one of its slot and its serial
pub key_with-serial_of : (key : Key) → key.serial.low < 2 ^ 64 → key_with key.slot (serial_of key) ≡ key
key_with-serial_of key small = ap (λ wide. record key { serial = wide }) (wide_of-number_in key.serial small)
