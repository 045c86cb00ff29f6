-- The steps of a call of `next`: bytes are gathered until a line can be answered, and the line is handed out.
use Rattle.std.specs.Prelude.{◌≡◌, ◌≤◌, ℕ, ◌+◌, ◌-◌, cond, nat_lt, List, [], ◌++◌, length, drop, take, Option, IfSome, IsTrue}
use Rattle.std.specs.Bool.{MatchBool}
use Rattle.std.specs.Str.{is_utf8}
use Rattle.value_core.specs.Items.{most_input}
use Rattle.c_runner_lines.specs.declared.item.Item.{Item}
use Rattle.c_runner_lines.specs.declared.item.Item.TheVariants.{Line, Bad, Over}
use Rattle.c_runner_lines.specs.declared.read_fault.ReadFault.{ReadFault}
use Rattle.c_runner_lines.specs.declared.read_fault.ReadFault.TheVariants.{Failed, Memory}
use Rattle.c_runner_lines.specs.ReaderState.{ReaderState, total_of}
use Rattle.c_runner_lines.specs.Held.{most_read, piece_size, EndsLine}

-- the bytes that were taken are held behind the others
pub record HoldsMore (old new : ReaderState) (taken : List ℕ) : Type 0 where
  pub before : new.before ≡ old.before
  pub held : new.held ≡ old.held ++ taken
  pub ended : IsTrue old.ended → IsTrue new.ended

-- what a refused read took: nothing; where there was no memory for its bytes, no more than a read gives
abbrev pub Loses : ReadFault → List ℕ → Type 0
Loses Failed taken = taken ≡ []
Loses Memory taken = length taken ≤ piece_size

-- how much a reader may still read, with one more as long as it did not see the end
abbrev pub to_read : ReaderState → ℕ
to_read r = (most_read - total_of r) + cond r.ended 0 1

-- where the first line that a reader holds ends; of what stands behind the bytes that have no line feed no more is there than a read gave
pub record IsSearched (r : ReaderState) (end : Option ℕ) : Type 0 where
  pub ends : EndsLine r.held end
  pub near : IfSome end (λ k. length r.held ≤ k + piece_size)
  pub used : r.before ≤ most_input
  pub bounded : total_of r ≤ most_read

-- the item of a line's bytes
abbrev pub item_of : List ℕ → Item
item_of bytes = cond (is_utf8 bytes) (Line bytes) Bad

-- some of the bytes that are held are used
abbrev pub after_use : ReaderState → ℕ → ReaderState
after_use r count = record { before = r.before + count; held = drop count r.held; ended = r.ended }

-- the item of a line of so many bytes, with which so many are used, if they may be
abbrev pub HandsOut : ReaderState → ReaderState → ℕ → ℕ → Item → Type 0
HandsOut old new end count item =
    MatchBool (nat_lt most_input (old.before + count)) ((item ≡ Over) × (new ≡ old)) ((item ≡ item_of (take end old.held)) × (new ≡ after_use old count))
