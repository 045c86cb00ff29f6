-- What tables say of each place of a block.
use Rattle.std.specs.Prelude.{◌+◌, ◌-◌, ℕ, Bool, true, false, not, ◌||◌, ◌&&◌, cond, nat_lt, min, List, [], Option, Some, None, slice_get, get_or}
use Rattle.std.specs.List.{list_any}
use Rattle.liveness.specs.declared.places.Span.{Span}
use Rattle.liveness.specs.declared.places.Touches.{Touches}
use Rattle.liveness.specs.declared.borrow_table.Known.{Known}
use Rattle.liveness.specs.declared.borrow_table.BorrowTable.{BorrowTable}
use Rattle.liveness.specs.Paths.{is_among, targets}
use Rattle.liveness.specs.Rising.{next_from, last_below, has}
use Rattle.liveness.specs.Places.{is_read, touch_from}

-- by the first touch from a place on, and where the block has none by the rows of the blocks that its end goes to
abbrev pub live_in : Touches → List (List ℕ) → Option Span → ℕ → ℕ → Bool
live_in touches rows None p r = false
live_in touches rows (Some k) p r =
    cond (nat_lt p (k.behind - k.first)) (is_read (touch_from touches k (k.first + p) r) (list_any (has rows r) (targets k.last))) false

-- whether a register is read again, at a block, a place and the register's number
abbrev pub live_by : Touches → List (List ℕ) → ℕ → ℕ → ℕ → Bool
live_by touches rows b p r = live_in touches rows (slice_get touches.spans b) p r

-- ---- what is owned

-- by the last place so far that writes a register: whether it does not only lend. Where it stands in front of a block, the block has none
abbrev pub by_last : List ℕ → Bool → ℕ → Option ℕ → Bool
by_last lends at_start first None = at_start
by_last lends at_start first (Some n) = cond (nat_lt n first) at_start (not (is_among lends n))

-- whether a register is owned at a place of a block, by the places that write it and those of them that lend to it, where it is told
-- whether it is so at the block's start
abbrev pub owned_in : List ℕ → List ℕ → Bool → Option Span → ℕ → Bool
owned_in writes lends at_start None p = false
owned_in writes lends at_start (Some k) p =
    by_last lends at_start k.first (last_below writes (k.first + min p (k.behind - k.first)))

abbrev pub owned_by : Known → Bool → ℕ → ℕ → ℕ → Bool
owned_by known at_start b p r =
    owned_in (get_or known.touches.writes r []) (get_or known.lends r []) at_start (slice_get known.touches.spans b) p

abbrev pub is_there : Option ℕ → Bool
is_there None = false
is_there (Some n) = true

-- whether there is a row for a register: it is a parameter, or some place lends to it. Any other is owned wherever a path comes
abbrev pub is_told : Known → ℕ → Bool
is_told known r = nat_lt r known.params || is_there (next_from (get_or known.lends r []) 0)

abbrev pub borrowed_by : BorrowTable → ℕ → ℕ → ℕ → Bool
borrowed_by table b p r =
    not (get_or table.known.met b false && (not (is_told table.known r) || owned_by table.known (has table.rows r b) b p r))
