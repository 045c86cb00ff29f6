-- Counts of faults, of calls and of requests. A count goes up by one at a time, and stands still at
-- its end.
use Rattle.std.specs.Prelude.{ℕ, ◌+◌, ◌-◌, ◌≤◌, min, Bool, true, false, nat_le, Result, Ok, Err}

-- where every count ends: 2 ^ 64 - 1
abbrev pub count_end : ℕ
count_end = 18446744073709551615

-- one more, while there is room
abbrev pub one_more : ℕ → ℕ
one_more n = n + min 1 (count_end - n)

-- a count of faults after a call that answered so: a refusal is counted once
abbrev pub count_after : {T E : Type 0} → Result T E → ℕ → ℕ
count_after (Ok x) n = n
count_after (Err e) n = one_more n

-- a count of what happens in some calls alone, after a call in which it did or did not
abbrev pub count_if : Bool → ℕ → ℕ
count_if true n = one_more n
count_if false n = n

-- a count rose: it is greater than before, or it already stood at its end
abbrev pub Rose : ℕ → ℕ → Type 0
Rose old new = one_more old ≤ new

-- the same, as a test
abbrev pub has_risen : ℕ → ℕ → Bool
has_risen old new = nat_le (one_more old) new
