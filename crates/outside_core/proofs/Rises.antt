-- Counts that rise: a call counts at most one fault, and what rose in a part of the calls rose in all
-- of them.
use Rattle.std.proofs.Common.{◌≡◌, refl, ℕ, ◌<◌, ◌≤◌, true, Ok, Err, arith}
use Rattle.std.specs.Prelude.{Result, IsOk, IsErr}
use Rattle.std.proofs.lemmas.Bool.Decides.{nat_tests}
use Rattle.std.proofs.lemmas.Bool.{false≢true}
use Rattle.outside_core.specs.Counts.{count_end, one_more, count_after, Rose, has_risen}

-- a count never falls
pub le-one_more : (n : ℕ) → n ≤ one_more n
le-one_more n = omega arith

pub le-count_after : {T E : Type 0} (r : Result T E) (n : ℕ) → n ≤ count_after r n
le-count_after (Ok x) n = omega arith
le-count_after (Err e) n = omega arith

-- one more fault is a rise
pub Rose-one_more : (old new : ℕ) → new ≡ one_more old → Rose old new
Rose-one_more old new p = omega arith

-- a refusal is a rise
pub Rose-count_after : {T E : Type 0} (r : Result T E) (old new : ℕ) → new ≡ count_after r old → IsErr r → Rose old new
Rose-count_after (Ok x) old new p e = absurd (false≢true e)
Rose-count_after (Err e) old new p q = omega arith

-- where the count is as it was, and did not stand at its end, nothing was refused
pub IsOk-count_after : {T E : Type 0} (r : Result T E) (old new : ℕ) → new ≡ count_after r old → old < count_end → new ≡ old → IsOk r
IsOk-count_after (Ok x) old new p h q = refl
IsOk-count_after (Err e) old new p h q = absurd (omega (arith, p))

-- a rise in the first calls
pub Rose-later : (old mid new : ℕ) → Rose old mid → mid ≤ new → Rose old new
Rose-later old mid new r h = omega arith

-- a rise in the last calls
pub Rose-earlier : (old mid new : ℕ) → old ≤ mid → Rose mid new → Rose old new
Rose-earlier old mid new h r = omega arith

-- where the count did not stand at its end, a rise makes it greater
pub lt-Rose : (old new : ℕ) → old < count_end → Rose old new → old < new
lt-Rose old new h r = omega arith

-- the test for a rise
pub has_risen-Rose : (old new : ℕ) → Rose old new → has_risen old new ≡ true
has_risen-Rose old new r = grind (arith, nat_tests)

pub Rose-has_risen : (old new : ℕ) → has_risen old new ≡ true → Rose old new
Rose-has_risen old new p = grind (arith, nat_tests)

-- what is known of counts over many calls
pub ruleset rises = (le-one_more, le-count_after, Rose-one_more, Rose-count_after, IsOk-count_after, Rose-later, Rose-earlier, lt-Rose, has_risen-Rose, Rose-has_risen)
