-- What is taken of an input by one step after another, and what a refused one says.
use Rattle.std.proofs.Common.{◌≡◌, refl, sym, ◌∙◌, ap, ℕ, ◌+◌, ◌≤◌, Bool, true, false, not, ◌||◌, nat_lt, List, [], ◌∷◌, ◌++◌, length, Option, Some, None, IsTrue, append_assoc, append-nil, length-append, arith}
use Rattle.std.specs.List.{list_any}
use Rattle.std.proofs.lemmas.Bool.Decides.{nat_tests}
use Rattle.value_core.specs.Items.{AtFailure, Broken, most_input, line_feed, is_line_feed, pieces, lines_from}
use Rattle.c_runner_lines.specs.declared.read_fault.ReadFault.{ReadFault}
use Rattle.c_runner_lines.specs.declared.read_fault.ReadFault.TheVariants.{Failed, Memory}
use Rattle.c_runner_lines.specs.ReaderState.{ReaderState, total_of}
use Rattle.c_runner_lines.specs.Reading.{is_ready, IsForOneLine, Refuses, Takes}
use Rattle.c_runner_lines.specs.Steps.{HoldsMore, Loses, IsSearched}
use Rattle.c_runner_lines.proofs.PieceLemmas.{pieces_open, broken_piece}

-- a reader that has to read: no line feed is held, the end was not seen, and more may be read
pub record Waits (r : ReaderState) : Type 0 where
  pub none : list_any is_line_feed r.held ≡ false
  pub unended : r.ended ≡ false
  pub room : total_of r ≤ most_input

three_false : (x y z : Bool) → (x || y || z) ≡ false → (x ≡ false) × (y ≡ false) × (z ≡ false)
three_false true y z e = absurd (cc)
three_false false true z e = absurd (cc)
three_false false false z e = (refl, refl, e)

pub waits : (r : ReaderState) → is_ready r ≡ false → Waits r
waits r e =
    let parts = three_false (list_any is_line_feed r.held) r.ended (nat_lt most_input (total_of r)) e in
    let near : nat_lt most_input (total_of r) ≡ false = parts.2 in
    record { none = parts.0; unended = parts.1; room = grind (arith, nat_tests) }

-- one step after another
pub HoldsMore-then : (old mid new : ReaderState) (taken more : List ℕ) → HoldsMore old mid taken → HoldsMore mid new more → HoldsMore old new (taken ++ more)
HoldsMore-then old mid new taken more h k = record {
  before = k.before ∙ h.before;
  held = k.held ∙ ap (λ c. c ++ more) h.held ∙ append_assoc old.held taken more;
  ended = λ e. k.ended (h.ended e);
}

pub HoldsMore-total : (old new : ReaderState) (taken : List ℕ) → HoldsMore old new taken → total_of new ≡ total_of old + length taken
HoldsMore-total old new taken h =
    omega (arith, h.before, ap length h.held, length-append old.held taken)

-- what follows from what is known of the bytes
pub takes_as : (old : ReaderState) (tells : Bool) (left new_left : List ℕ) (P Q : List ℕ → Type 0) → Takes old tells left new_left P → ((taken : List ℕ) → P taken → Q taken) → Takes old tells left new_left Q
takes_as old tells left new_left P Q takes follows = record { taken = takes.taken; given = takes.given; within = takes.within; quiet = takes.quiet; outcome = follows takes.taken takes.outcome }

module _ (old mid : ReaderState) (tells : Bool) (left mid_left new_left : List ℕ) (first : Takes old tells left mid_left (HoldsMore old mid)) (wait : is_ready mid ≡ false) (quiet : IsTrue (is_ready old) → mid ≡ old) where
  pub takes_more : (P Q : List ℕ → Type 0) → Takes mid tells mid_left new_left P → ((taken more : List ℕ) → HoldsMore old mid taken → P more → Q (taken ++ more)) → Takes old tells left new_left Q
  takes_more P Q second join = record {
    taken = first.taken ++ second.taken;
    given = λ t. first.given t ∙ ap (λ c. first.taken ++ c) (second.given t) ∙ sym (append_assoc first.taken second.taken new_left);
    within = omega (arith, second.within, HoldsMore-total old mid first.taken first.outcome, length-append first.taken second.taken);
    quiet = λ r. let same : is_ready mid ≡ is_ready old = ap is_ready (quiet r) in absurd (cc);
    outcome = join first.taken second.taken first.outcome second.outcome;
  }

-- where a read fails while no line is held, no line is left
broken : (before : ℕ) (held : List ℕ) → list_any is_line_feed held ≡ false → before + length held ≤ most_input → lines_from before AtFailure (pieces held) ≡ Broken
broken before [] n h = refl
broken before (b ∷ text) n h = ap (lines_from before AtFailure) (pieces_open b text n) ∙ broken_piece before (b ∷ text) n h

pub refused : (old mid : ReaderState) (fault : ReadFault) (taken more : List ℕ) → is_ready mid ≡ false → HoldsMore old mid taken → Loses fault more → Refuses fault old (taken ++ more)
refused old mid Failed taken more e h l =
    let wait = waits mid e in
    let all : mid.held ≡ old.held ++ (taken ++ more) = h.held ∙ ap (λ c. old.held ++ c) (sym (append-nil taken) ∙ ap (λ c. taken ++ c) (sym l)) in
    ap (λ n. lines_from n AtFailure (pieces (old.held ++ (taken ++ more)))) (sym h.before)
    ∙ ap (λ c. lines_from mid.before AtFailure (pieces c)) (sym all)
    ∙ broken mid.before mid.held wait.none wait.room
refused old mid Memory taken more e h l = record {
  text = mid.held;
  rest = more;
  split = sym (append_assoc old.held taken more) ∙ ap (λ c. c ++ more) (sym h.held);
  none = (waits mid e).none;
  near = l;
}

-- a reader whose first line was searched for has read for that line
pub searched_one : (r : ReaderState) (end : Option ℕ) → IsSearched r end → IsForOneLine r []
searched_one r None s = record {
  text = r.held;
  rest = [];
  split = refl;
  none = s.ends;
  near = omega arith;
}
searched_one r (Some k) s =
    let near = s.near in
    let size = s.ends.size in
    record {
      text = s.ends.text;
      rest = line_feed ∷ s.ends.rest;
      split = append-nil r.held ∙ s.ends.split;
      none = s.ends.none;
      near = omega (arith, ap length s.ends.split, length-append s.ends.text (line_feed ∷ s.ends.rest));
    }

pub IsForOneLine-more : (old mid : ReaderState) (taken : List ℕ) → HoldsMore old mid taken → IsForOneLine mid [] → IsForOneLine old taken
IsForOneLine-more old mid taken h one = record {
  text = one.text;
  rest = one.rest;
  split = sym h.held ∙ sym (append-nil mid.held) ∙ one.split;
  none = one.none;
  near = one.near;
}

pub searched_refuses : (old mid : ReaderState) (end : Option ℕ) (taken : List ℕ) → IsSearched mid end → HoldsMore old mid taken → Refuses Memory old taken
searched_refuses old mid end taken s h = IsForOneLine-more old mid taken h (searched_one mid end s)

pub not_false : (b : Bool) → not b ≡ true → b ≡ false
not_false true e = absurd (cc)
not_false false e = refl

-- a reader that has to read is not one that had not to
pub never_ready : (old mid : ReaderState) → is_ready mid ≡ false → mid ≡ old → IsTrue (is_ready old) → ⊥
never_ready old mid e same r =
    let all : is_ready mid ≡ is_ready old = ap is_ready same in
    cc

pub not_ready : (old mid : ReaderState) → is_ready mid ≡ false → (IsTrue (is_ready old) → mid ≡ old) → is_ready old ≡ false
not_ready old mid e same = by (is_ready old) refl
  where
    by : (t : Bool) → is_ready old ≡ t → is_ready old ≡ false
    by true r = absurd (never_ready old mid e (same r) r)
    by false r = r
