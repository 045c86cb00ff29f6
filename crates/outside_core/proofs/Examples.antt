-- The definitions at small values.
use Rattle.std.proofs.Common.{◌≡◌, refl, ◌-◌, ◌^◌, true, false, [], ◌∷◌, Some, None}
use Rattle.outside_core.specs.Counts.{count_end, one_more, has_risen}
use Rattle.outside_core.specs.Bytes.{bytes_between}
use Rattle.outside_core.specs.Schedule.{schedule, is_refused, after_call}
use Rattle.outside_core.specs.States.{content_of}

end_of_counts : count_end ≡ 2 ^ 64 - 1
end_of_counts = refl

counted : one_more 3 ≡ 4
counted = refl

counted_at_end : one_more count_end ≡ count_end
counted_at_end = refl

stayed : has_risen 3 3 ≡ false
stayed = refl

rose_by_one : has_risen 3 4 ≡ true
rose_by_one = refl

-- a count that stands at its end counts as one that rose
stood_at_end : has_risen count_end count_end ≡ true
stood_at_end = refl

given : bytes_between (7 ∷ 8 ∷ 9 ∷ []) (9 ∷ []) ≡ 7 ∷ 8 ∷ []
given = refl

second_is_refused : is_refused (after_call (schedule (1 ∷ [])) true) ≡ true
second_is_refused = refl

refusal_is_counted : (after_call (after_call (schedule (1 ∷ [])) true) false).faults ≡ 1
refusal_is_counted = refl

third_is_made : is_refused (after_call (after_call (schedule (1 ∷ [])) true) false) ≡ false
third_is_made = refl

first_entry_counts : content_of (((1 ∷ []), (5 ∷ [])) ∷ ((1 ∷ []), (6 ∷ [])) ∷ []) (1 ∷ []) ≡ Some (5 ∷ [])
first_entry_counts = refl

absent_name : content_of (((1 ∷ []), (5 ∷ [])) ∷ []) (1 ∷ 2 ∷ []) ≡ None
absent_name = refl
