-- The places of a function, counted through: the operations of each block and, behind them, its end.
use Rattle.std.specs.Prelude.{◌≡◌, ◌+◌, ℕ, Bool, true, false, not, cond, nat_lt, List, [], ◌∷◌, ◌++◌, length, map, Option, Some, None, slice_get, get_or}
use Rattle.std.specs.Option.{option_to_list}
use Rattle.std.specs.List.{list_any, flat_map}
use Rattle.ir_core.specs.declared.code.Last.{Last}
use Rattle.liveness.specs.declared.step.Step.{Step}
use Rattle.liveness.specs.declared.step.Steps.{Steps}
use Rattle.liveness.specs.declared.places.Span.{Span}
use Rattle.liveness.specs.declared.places.Touches.{Touches}
use Rattle.liveness.specs.declared.places.Touch.{Touch}
use Rattle.liveness.specs.declared.places.Touch.TheVariants.{Read, Written, Neither}
use Rattle.liveness.specs.declared.places.Asked.{Asked}
use Rattle.liveness.specs.declared.places.Asked.TheVariants.{AllWrites, LendingWrites}
use Rattle.liveness.specs.Paths.{is_among, is_target, reads_of_last, targets}
use Rattle.liveness.specs.Rising.{next_from, IsInverse}

-- an end as a step that writes nothing
abbrev pub end_of : Last → Step
end_of l = record { reads = reads_of_last l; write = None; lends = false }

abbrev pub places_of : Steps → List Step
places_of k = k.steps ++ end_of k.last ∷ []

abbrev pub places : List Steps → List Step
places = flat_map places_of

abbrev pub span_of : ℕ → Steps → Span
span_of n k = record { first = n; behind = n + length (places_of k); last = k.last }

-- of each block where it stands, from place n on
abbrev pub spans_from : ℕ → List Steps → List Span
spans_from n [] = []
spans_from n (k ∷ ks) = span_of n k ∷ spans_from (n + length (places_of k)) ks

-- of each step what it reads, and what it writes
abbrev pub reads_in : Step → List ℕ
reads_in s = s.reads

abbrev pub writes_in : Step → List ℕ
writes_in s = option_to_list s.write

-- and, where it only lends, to what
abbrev pub lends_in : Step → List ℕ
lends_in s = cond s.lends (option_to_list s.write) []

-- what a step writes, by the writes that are asked for
abbrev pub asked_in : Asked → Step → List ℕ
asked_in AllWrites = writes_in
asked_in LendingWrites = lends_in

-- what the places of a block read
abbrev pub reads_of_block : Steps → List ℕ
reads_of_block k = flat_map reads_in (places_of k)

-- and what its operations write
abbrev pub writes_of_block : Steps → List ℕ
writes_of_block k = flat_map writes_in k.steps

-- whether one of them only lends
abbrev pub lends_step : Step → Bool
lends_step s = s.lends

abbrev pub lends_some : Steps → Bool
lends_some k = list_any lends_step k.steps

abbrev pub targets_of : Steps → List ℕ
targets_of k = targets k.last

-- ---- the next place

abbrev pub is_below : Option ℕ → ℕ → Bool
is_below None e = false
is_below (Some n) e = nat_lt n e

-- whether a block has none of some places
abbrev pub lets_span : List ℕ → Option Span → Bool
lets_span walls None = true
lets_span walls (Some k) = not (is_below (next_from walls k.first) k.behind)

abbrev pub lets : List Span → List ℕ → ℕ → Bool
lets spans walls t = lets_span walls (slice_get spans t)

-- whether a block does not write a register
abbrev pub lets_by : Touches → ℕ → ℕ → Bool
lets_by touches r t = lets touches.spans (get_or touches.writes r []) t

-- ---- what touches a register first

-- the first of some steps that reads or writes a register, if it reads it before it writes it
abbrev pub first_touch : List Step → ℕ → Touch
first_touch [] r = Neither
first_touch (s ∷ ss) r = cond (is_among s.reads r) Read (cond (is_target s.write r) Written (first_touch ss r))

-- the same by the next place that reads it and the next one that writes it, before the end of a block
abbrev pub first_of : Option ℕ → Option ℕ → ℕ → Touch
first_of None written e = cond (is_below written e) Written Neither
first_of (Some n) written e = cond (is_below written n) (cond (is_below written e) Written Neither) (cond (nat_lt n e) Read Neither)

abbrev pub touch_from : Touches → Span → ℕ → ℕ → Touch
touch_from touches k from r = first_of (next_from (get_or touches.reads r []) from) (next_from (get_or touches.writes r []) from) k.behind

-- whether the first touch is a read, where a block has none what its end gives
abbrev pub is_read : Touch → Bool → Bool
is_read Read behind = true
is_read Written behind = false
is_read Neither behind = behind

-- whether a block reads a register before it writes it
abbrev pub reads_span : Touches → Option Span → ℕ → Bool
reads_span touches None r = false
reads_span touches (Some k) r = is_read (touch_from touches k k.first r) false

abbrev pub reads_first : Touches → ℕ → ℕ → Bool
reads_first touches r b = reads_span touches (slice_get touches.spans b) r

-- the places of blocks, and under each register those that read and those that write it
abbrev pub AreTouches : List Steps → ℕ → Touches → Type 0
AreTouches blocks count touches =
    (touches.spans ≡ spans_from 0 blocks) × (length touches.reads ≡ count) × IsInverse (map reads_in (places blocks)) touches.reads × (length touches.writes ≡ count) × IsInverse (map writes_in (places blocks)) touches.writes
