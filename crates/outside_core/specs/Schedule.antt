-- Calls that are numbered from 0, some of which are to fail. A call whose number would be past
-- 2 ^ 64 - 1 has that number.
use Rattle.std.specs.Prelude.{ℕ, Bool, ◌==◌, not, List}
use Rattle.std.specs.List.{list_any}
use Rattle.outside_core.specs.Counts.{one_more, count_if}

-- the numbers of the calls that are to fail, the number of the next call, and how many calls failed
pub record Schedule : Type 0 where
  pub fails : List ℕ
  pub next : ℕ
  pub faults : ℕ

-- before the first call
abbrev pub schedule : List ℕ → Schedule
schedule fails = record { fails = fails; next = 0; faults = 0 }

-- the next call is to fail
abbrev pub is_refused : Schedule → Bool
is_refused s = list_any (λ number. number == s.next) s.fails

-- after a call that went well, or failed
abbrev pub after_call : Schedule → Bool → Schedule
after_call s is_good = record s { next = one_more s.next; faults = count_if (not is_good) s.faults }
