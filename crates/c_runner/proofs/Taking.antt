-- What a run takes of its input, one step after another, and what is answered where it ends.
use Rattle.std.proofs.Common.{◌≡◌, refl, sym, ◌∙◌, ap, subst, ℕ, ◌+◌, ◌-◌, ◌<◌, ◌≤◌, arith, Bool, true, false, List, [], ◌∷◌, ◌++◌, length, take, length-append, append_assoc, append-nil, Option, Some, None, Ok, Err, ◌⊎◌, inl, inr}
use Rattle.std.specs.List.{concat}
use Rattle.std.specs.Prelude.{min, nat_le, ◌||◌, IsTrue, Result}
use Rattle.std.proofs.lemmas.Bool.Decides.{nat_tests}
use Rattle.std.proofs.lemmas.List.{take_at}
use Rattle.std.proofs.lemmas.List.Folds.{concat-append}
use Rattle.value_core.specs.Items as item
use Rattle.value_core.specs.Items.{Items, InputEnd, AtEof, AtFailure, Broken, input_items, pieces, lines_from}
use Rattle.value_core.specs.Ending as source
use Rattle.outside_core.specs.Bytes.{TakesFront}
use Rattle.outside_core.specs.Counts.{count_end, one_more, has_risen, Rose}
use Rattle.outside_core.proofs.Fronts.{TakesFront-all, TakesFront-none, bytes_between-split}
use Rattle.c_core.specs.declared.code.Code.{Code}
use Rattle.c_core.specs.Machine.{MachineState}
use Rattle.c_core.specs.Step.{MachineEnding, Next, Goes, Ended, step}
use Rattle.c_core.specs.Run.{Stop, machine_run, start, most_steps}
use Rattle.c_core.specs.Laws.{Reaches, Here, RunExists}
use Rattle.c_core.specs.WellFormed.{WellFormed}
use Rattle.c_runner_lines.specs.Held.{most_read, piece_size}
use Rattle.c_runner_lines.specs.ReaderState.{ReaderState, total_of}
use Rattle.c_runner_lines.specs.Reading.{items_left, is_ready, Suits, EndIsSeen}
use Rattle.c_runner_lines.proofs.TakeLemmas.{waits}
use Rattle.c_runner_deeds.specs.declared.ending.Ending.{Ending}
use Rattle.c_runner_deeds.specs.declared.ending.Ending.TheVariants.{Over}
use Rattle.c_runner.specs.declared.refusal.Refusal.{Refusal}
use Rattle.c_runner.specs.declared.refusal.Refusal.TheVariants as refusal
use Rattle.c_runner.specs.declared.report.Report.{Report}
use Rattle.c_runner.specs.declared.report.RunError.{RunError}
use Rattle.c_runner.specs.declared.report.RunError.TheVariants.{InputFault, WriteFault, Memory}
use Rattle.c_runner.specs.Advancing.{HandsFront, UsesLines, StaysNear, Moves, BreaksOff, ReadsOn, Stalls, Advances, error_after, faults_of_input, faults_of_output}
use Rattle.c_runner_deeds.specs.Handing.{HandsOn, has_bytes}
use Rattle.c_runner.specs.Ran.{AreGiven, Ran, line_count, lines_used, lines_end, TookLines, TookNear, TookUpTo, TookSome, Took, given_items, faults_of_out}
use Rattle.c_runner_deeds.specs.States.{Rest, ending_of, first_rest, state_of, Seen}
use Rattle.c_runner.specs.Report.{live_cells}
use Rattle.c_runner.proofs.StepLemmas.{one_further, reached}
use Rattle.c_runner.proofs.AdvanceLemmas.{no_piece, no_byte, never_broken, some_line, first_long, less_than_read, input_goes, input_skips}
use Rattle.c_runner.proofs.Running.{Running, Stopped, rest_after, no_front, no_rest, at_start, front_of_held, nothing_so_far, nothing_held, handed_on, last_step, stepped, stopped, front_at_end, all_at_end, nothing_at_end, reported, strides}

-- ---- what was read so far
-- the bytes that were read are those that were used and those that are held
pub record Read (tells : Bool) (before now : List ℕ) (reader : ReaderState) (read used : List ℕ) : Type 0 where
  pub given : IsTrue tells → before ≡ read ++ now
  pub split : read ≡ used ++ reader.held
  pub at : reader.before ≡ length used
  pub within : total_of reader ≤ most_read
  pub seen : IsTrue tells → EndIsSeen reader now

-- the bytes that were used are those of these lines, each whole
pub record Used (reader : ReaderState) (read used : List ℕ) : Type 0 where
  pub lines : List (List ℕ)
  pub all : used ≡ concat lines
  pub whole : (future : List ℕ) (e : InputEnd) → Suits reader future e → pieces (read ++ future) ≡ lines ++ pieces (reader.held ++ future)
  pub counted : (future : List ℕ) (e : InputEnd) → Suits reader future e → line_count (input_items (read ++ future) e) ≡ length lines + line_count (items_left reader future e)

-- little was read behind them, and where there is none nothing was read
pub record Near (reader : ReaderState) (read used : List ℕ) : Type 0 where
  pub near : length reader.held < piece_size
  pub quiet : used ≡ [] → read ≡ []

abbrev pub fresh : ReaderState
fresh = record { before = 0; held = []; ended = false }

read_nothing : (tells : Bool) (before : List ℕ) → Read tells before before fresh [] []
read_nothing tells before = record {
  given = λ t. refl;
  split = refl;
  at = refl;
  within = omega arith;
  seen = λ t e. absurd (cc);
}

used_nothing : Used fresh [] []
used_nothing = record {
  lines = [];
  all = refl;
  whole = λ future e s. refl;
  counted = λ future e s. omega arith;
}

near_nothing : Near fresh [] []
near_nothing = record { near = omega arith; quiet = λ none. refl }

-- a step took more
read_more : (tells : Bool) (before now after : List ℕ) (reader reader' : ReaderState) (read used : List ℕ) (old new : Seen) (does : MachineState → Next) (out_tells : Bool) (sink sink' : List ℕ) (Untouched : Type 0) (ending : Option Ending) → Read tells before now reader read used → (moves : Moves does old new reader reader' out_tells sink sink' Untouched tells now after ending) → Read tells before after reader' (read ++ moves.taken) (used ++ moves.uses.used)
read_more tells before now after reader reader' read used old new does out_tells sink sink' Untouched ending so_far moves = record {
  given = λ t. so_far.given t ∙ ap (λ c. read ++ c) (moves.given t) ∙ sym (append_assoc read moves.taken after);
  split =
      ap (λ c. c ++ moves.taken) so_far.split ∙ append_assoc used reader.held moves.taken
      ∙ ap (λ c. used ++ c) moves.uses.split ∙ sym (append_assoc used moves.uses.used reader'.held);
  at = moves.uses.before ∙ ap (λ n. n + length moves.uses.used) so_far.at ∙ sym (length-append used moves.uses.used);
  within = moves.within so_far.within;
  seen = λ t. moves.seen t (so_far.seen t);
}

read_size : (tells : Bool) (before now : List ℕ) (reader : ReaderState) (read used : List ℕ) → Read tells before now reader read used → length read ≡ total_of reader
read_size tells before now reader read used so_far =
    ap length so_far.split ∙ length-append used reader.held ∙ ap (λ n. n + length reader.held) (sym so_far.at)

-- what follows the bytes that were taken suits the reader before, where it suits the reader after
suits_before : (reader reader' : ReaderState) (taken future : List ℕ) (e : InputEnd) → (IsTrue reader.ended → IsTrue reader'.ended) → (IsTrue reader.ended → taken ≡ []) → Suits reader' future e → Suits reader (taken ++ future) e
suits_before reader reader' taken future e ended quiet s r =
    let end = s (ended r) in
    (ap (λ c. c ++ future) (quiet r) ∙ end.0, end.1)

-- the bytes that are left of an input that tells them, and none of another one
abbrev pub told : Bool → List ℕ → List ℕ
told true left = left
told false left = []

told_is : (tells : Bool) (left : List ℕ) → IsTrue tells → told tells left ≡ left
told_is true left t = refl
told_is false left t = absurd (cc)

suits_told : (tells : Bool) (left : List ℕ) (reader : ReaderState) → (IsTrue tells → EndIsSeen reader left) → Suits reader (told tells left) AtEof
suits_told true left reader seen r = (seen refl r, refl)
suits_told false left reader seen r = (refl, refl)

used_more : (reader reader' : ReaderState) (read taken used more : List ℕ) → (IsTrue reader.ended → IsTrue reader'.ended) → (IsTrue reader.ended → taken ≡ []) → Used reader read used → UsesLines reader reader' taken more → Used reader' (read ++ taken) (used ++ more)
used_more reader reader' read taken used more ended quiet so_far uses = record {
  lines = so_far.lines ++ uses.lines;
  all = ap (λ c. c ++ more) so_far.all ∙ ap (λ c. concat so_far.lines ++ c) uses.all ∙ sym (concat-append so_far.lines uses.lines);
  whole = λ future e s.
      ap pieces (append_assoc read taken future)
      ∙ so_far.whole (taken ++ future) e (suits_before reader reader' taken future e ended quiet s)
      ∙ ap (λ c. so_far.lines ++ c) (uses.whole future e s)
      ∙ sym (append_assoc so_far.lines uses.lines (pieces (reader'.held ++ future)));
  counted = λ future e s.
      let before = so_far.counted (taken ++ future) e (suits_before reader reader' taken future e ended quiet s) in
      omega (arith, ap (λ c. line_count (input_items c e)) (append_assoc read taken future), before, uses.counted future e s, length-append so_far.lines uses.lines);
}

near_more : (reader reader' : ReaderState) (read taken used more : List ℕ) → Near reader read used → StaysNear reader reader' taken more → Near reader' (read ++ taken) (used ++ more)
near_more reader reader' read taken used more so_far stays = record {
  near = stays.near so_far.near;
  quiet = λ none.
      ap (λ c. c ++ taken) (so_far.quiet (no_front used more none)) ∙ stays.quiet (no_rest used more none);
}

-- ---- a state up to which the sink took the whole output
-- what was read was read for the lines that were used up to a state where these lines are left
pub record ReadFor (items left : Items) (bytes read : List ℕ) : Type 0 where
  pub near : length read < lines_end (lines_used items left) bytes + piece_size
  pub none : lines_used items left ≡ 0 → read ≡ []

pub record Moment (code : Code) (turns : ℕ) (items : Items) (tells : Bool) (sink sink' : List ℕ) (Usual : MachineState → Type 0) : Type 0 where
  pub state : MachineState
  pub steps : ℕ
  pub comes : Reaches code steps (start code turns items) state
  pub sent : IsTrue tells → (more : List ℕ) × (sink' ≡ sink ++ (state.output ++ more))
  pub usual : Usual state

abbrev pub Before : ℕ → Items → Code → Bool → List ℕ → List ℕ → List ℕ → List ℕ → Type 0
Before turns items code tells sink sink' bytes read =
    Moment code turns items tells sink sink' (λ s. ReadFor items s.items bytes read)

-- where nothing is held, what was handed on is all
sent_whole : (handed held : List ℕ) → held ≡ [] → handed ≡ (handed ++ held) ++ []
sent_whole handed held none =
    sym (append-nil (handed ++ held) ∙ ap (λ c. handed ++ c) none ∙ append-nil handed)

module _ (code : Code) (turns : ℕ) (items : Items) (tells : Bool) (sink sink' : List ℕ) where
  -- the sink took more
  moment_later : (Usual : MachineState → Type 0) (sink'' : List ℕ) → (IsTrue tells → (more : List ℕ) × (sink'' ≡ sink' ++ more)) → Moment code turns items tells sink sink' Usual → Moment code turns items tells sink sink'' Usual
  moment_later Usual sink'' grown m = record {
    state = m.state;
    steps = m.steps;
    comes = m.comes;
    sent = λ t.
        let first = m.sent t in
        let then = grown t in (
          first.0 ++ then.0,
          then.1 ∙ ap (λ c. c ++ then.0) first.1 ∙ append_assoc sink (m.state.output ++ first.0) then.0 ∙ ap (λ c. sink ++ c) (append_assoc m.state.output first.0 then.0),
        );
    usual = m.usual;
  }

  moment_as : (Usual Other : MachineState → Type 0) → ((s : MachineState) → Usual s → Other s) → Moment code turns items tells sink sink' Usual → Moment code turns items tells sink sink' Other
  moment_as Usual Other follows m = record { state = m.state; steps = m.steps; comes = m.comes; sent = m.sent; usual = follows m.state m.usual }

  -- where a run goes on and nothing is held
  moment_now : (left : ℕ) (any : Bool) (Untouched : Type 0) (state : Seen) (lines : Items) (Usual : MachineState → Type 0) → (running : Running tells sink sink' code turns items left any Untouched state lines) → state.output ≡ [] → Usual (state_of (rest_after lines running.handed running.made) state) → Moment code turns items tells sink sink' Usual
  moment_now left any Untouched state lines Usual running empty usual = record {
    state = state_of (rest_after lines running.handed running.made) state;
    steps = running.steps;
    comes = running.reaches;
    sent = λ t. ([], running.taken t ∙ ap (λ c. sink ++ c) (sent_whole running.handed state.output empty));
    usual = usual;
  }

-- the lines that were used are the first pieces of the bytes
lines_first : (lines rest all : List (List ℕ)) (n : ℕ) → all ≡ lines ++ rest → n ≡ length lines → take n all ≡ lines
lines_first lines rest all n split count = ap (take n) split ∙ take_at lines rest n (sym count)

no_lines : (used : List ℕ) (lines : List (List ℕ)) → used ≡ concat lines → length lines ≡ 0 → used ≡ []
no_lines used [] all none = all
no_lines used (l ∷ lines) all none = absurd (omega (arith, none))

read_for : (tells : Bool) (before now : List ℕ) (reader : ReaderState) (read used : List ℕ) → Read tells before now reader read used → Used reader read used → Near reader read used → (future : List ℕ) (e : InputEnd) → Suits reader future e → ReadFor (input_items (read ++ future) e) (items_left reader future e) (read ++ future) read
read_for tells before now reader read used so_far whole near future e s =
    let many : lines_used (input_items (read ++ future) e) (items_left reader future e) ≡ length whole.lines = omega (arith, whole.counted future e s) in
    let first = lines_first whole.lines (pieces (reader.held ++ future)) (pieces (read ++ future)) (lines_used (input_items (read ++ future) e) (items_left reader future e)) (whole.whole future e s) many in
    let held = near.near in
    record {
      near = omega (arith, held, ap (λ ps. length (concat ps)) first, ap length whole.all, so_far.at, read_size tells before now reader read used so_far);
      none = λ none. near.quiet (no_lines used whole.lines whole.all (sym many ∙ none));
    }

-- ---- a run whose input is read
-- whatever follows the bytes that were read
abbrev pub Goes_on : Bool → List ℕ → List ℕ → Code → ℕ → ℕ → Bool → Type 0 → Seen → ReaderState → List ℕ → Type 0
Goes_on tells before now code turns left any Untouched state reader read =
    (future : List ℕ) (e : InputEnd) → Suits reader future e → Running tells before now code turns (input_items (read ++ future) e) left any Untouched state (items_left reader future e)

-- all that was read was read for a line before which the sink took the whole output
abbrev pub Sent : Bool → List ℕ → List ℕ → Code → ℕ → ReaderState → List ℕ → Type 0
Sent tells sink sink' code turns reader read =
    (future : List ℕ) (e : InputEnd) → Suits reader future e → Before turns (input_items (read ++ future) e) code tells sink sink' (read ++ future) read

-- what is known of a run between two steps
pub record Going (out_tells : Bool) (sink sink' : List ℕ) (Untouched : Type 0) (in_tells : Bool) (before now : List ℕ) (code : Code) (turns left : ℕ) (any : Bool) (state : Seen) (reader : ReaderState) : Type 0 where
  pub read : List ℕ
  pub used : List ℕ
  pub so_far : Read in_tells before now reader read used
  pub whole : Used reader read used
  pub near : Near reader read used
  pub sent : Sent out_tells sink sink' code turns reader read
  pub goes : Goes_on out_tells sink sink' code turns left any Untouched state reader read

abbrev stop_at : MachineEnding → MachineState → Stop
stop_at e s = record { ending = e; state = s }

-- the state in which a run stops at a line too far along, or one up to which all was read
abbrev pub IsLast : Items → Stop → List ℕ → List ℕ → MachineState → Type 0
IsLast items stop bytes read s = (stop ≡ record { ending = Ended source.Over; state = s }) ⊎ ReadFor items s.items bytes read

-- and where it stopped so
pub record Halted (out_tells : Bool) (sink sink' : List ℕ) (Untouched : Type 0) (in_tells : Bool) (before now : List ℕ) (code : Code) (turns : ℕ) (any : Bool) (state : Seen) (reader : ReaderState) (ending : Ending) : Type 0 where
  pub read : List ℕ
  pub used : List ℕ
  pub so_far : Read in_tells before now reader read used
  pub whole : Used reader read used
  pub usual : (ending ≡ Over) ⊎ Near reader read used
  pub sent : (stop : Stop) → machine_run turns (input_items (read ++ told in_tells now) AtEof) code ≡ Some stop → Moment code turns (input_items (read ++ told in_tells now) AtEof) out_tells sink sink' (IsLast (input_items (read ++ told in_tells now) AtEof) stop (read ++ told in_tells now) read)
  pub halts : (stop : Stop) → machine_run turns (input_items (read ++ told in_tells now) AtEof) code ≡ Some stop → Stopped out_tells sink sink' any Untouched state (items_left reader (told in_tells now) AtEof) (ending_of ending) stop

-- where nothing was done yet
first_moment : (tells : Bool) (sink : List ℕ) (code : Code) (turns : ℕ) (bytes : List ℕ) (e : InputEnd) → Before turns (input_items bytes e) code tells sink sink bytes []
first_moment tells sink code turns bytes e = record {
  state = start code turns (input_items bytes e);
  steps = 0;
  comes = Here (start code turns (input_items bytes e));
  sent = λ t. ([], sym (append-nil sink));
  usual = record { near = omega arith; none = λ none. refl };
}

pub begins : (out_tells : Bool) (sink : List ℕ) (Untouched : Type 0) (in_tells : Bool) (before : List ℕ) (code : Code) (turns left : ℕ) (state : Seen) (reader : ReaderState) → Untouched → reader ≡ fresh → ((i : Items) → state_of (first_rest i) state ≡ start code turns i) → left ≡ most_steps turns code → Going out_tells sink sink Untouched in_tells before before code turns left false state reader
begins out_tells sink Untouched in_tells before code turns left state reader same is_fresh is count =
    rw is_fresh (record {
      read = [];
      used = [];
      so_far = read_nothing in_tells before;
      whole = used_nothing;
      near = near_nothing;
      sent = λ future e s. first_moment out_tells sink code turns future e;
      goes = λ future e s. at_start out_tells sink code turns left (input_items future e) Untouched state same is count;
    })

module _ (out_tells : Bool) (sink sink' : List ℕ) (Untouched : Type 0) (in_tells : Bool) (before now : List ℕ) (code : Code) (turns left : ℕ) (any : Bool) (state : Seen) (reader : ReaderState) (going : Going out_tells sink sink' Untouched in_tells before now code turns left any state reader) where
  -- one way in which the input may go on
  pub a_run : Running out_tells sink sink' code turns (input_items (going.read ++ []) AtEof) left any Untouched state (items_left reader [] AtEof)
  a_run = going.goes [] AtEof (λ r. (refl, refl))

  -- some steps that wrote nothing and took nothing
  pub strode : (n : ℕ) (new : Seen) → ((r : Rest) → Reaches code n (state_of r state) (state_of r new)) → new.output ≡ state.output → n ≤ left → Going out_tells sink sink' Untouched in_tells before now code turns (left - n) any new reader
  strode n new steps same le = record {
    read = going.read;
    used = going.used;
    so_far = going.so_far;
    whole = going.whole;
    near = going.near;
    sent = going.sent;
    goes = λ future e s. strides out_tells sink sink' code turns (input_items (going.read ++ future) e) left any Untouched state (items_left reader future e) (going.goes future e s) n new steps same le;
  }

  -- a step
  module _ (sink'' after : List ℕ) (Still StillUntouched : Type 0) (both : Untouched → Still → StillUntouched) (new : Seen) (reader' : ReaderState) (any' : Bool) (is : any' ≡ (any || has_bytes new.output)) (more : 1 ≤ left) where
    was : (taken future : List ℕ) (e : InputEnd) → (IsTrue reader.ended → IsTrue reader'.ended) → (IsTrue reader.ended → taken ≡ []) → Suits reader' future e → Running out_tells sink sink' code turns (input_items ((going.read ++ taken) ++ future) e) left any Untouched state (items_left reader (taken ++ future) e)
    was taken future e ended quiet s =
        subst (λ c. Running out_tells sink sink' code turns (input_items c e) left any Untouched state (items_left reader (taken ++ future) e)) (sym (append_assoc going.read taken future))
        (going.goes (taken ++ future) e (suits_before reader reader' taken future e ended quiet s))

    -- the same moment, where nothing was taken
    sent_before : (taken : List ℕ) → taken ≡ [] → (future : List ℕ) (e : InputEnd) → (IsTrue reader.ended → IsTrue reader'.ended) → Suits reader' future e → (IsTrue out_tells → (more : List ℕ) × (sink'' ≡ sink' ++ more)) → Before turns (input_items ((going.read ++ taken) ++ future) e) code out_tells sink sink'' ((going.read ++ taken) ++ future) (going.read ++ taken)
    sent_before taken none future e ended s grown =
        let same : going.read ++ taken ≡ going.read = ap (λ c. going.read ++ c) none ∙ append-nil going.read in
        subst (λ r. Before turns (input_items (r ++ future) e) code out_tells sink sink'' (r ++ future) r) (sym same)
        (moment_later code turns (input_items (going.read ++ future) e) out_tells sink sink' (λ m. ReadFor (input_items (going.read ++ future) e) m.items (going.read ++ future) going.read) sink'' grown (going.sent future e (λ r. s (ended r))))

    pub goes_further : Moves (step code) state new reader reader' out_tells sink' sink'' Still in_tells now after None → Going out_tells sink sink'' StillUntouched in_tells before after code turns (left - 1) any' new reader'
    goes_further moves = record {
      read = going.read ++ moves.taken;
      used = going.used ++ moves.uses.used;
      so_far = read';
      whole = used';
      near = near';
      sent = λ future e s. sent_on moves.sent future e s;
      goes = goes';
    }
      where
        read' : Read in_tells before after reader' (going.read ++ moves.taken) (going.used ++ moves.uses.used)
        read' = read_more in_tells before now after reader reader' going.read going.used state new (step code) out_tells sink' sink'' Still None going.so_far moves

        used' : Used reader' (going.read ++ moves.taken) (going.used ++ moves.uses.used)
        used' = used_more reader reader' going.read moves.taken going.used moves.uses.used moves.ended moves.quiet going.whole moves.lines

        near_on : (None ≡ Some Over) ⊎ StaysNear reader reader' moves.taken moves.uses.used → Near reader' (going.read ++ moves.taken) (going.used ++ moves.uses.used)
        near_on (inl e) = absurd (cc)
        near_on (inr stays) = near_more reader reader' going.read moves.taken going.used moves.uses.used going.near stays

        near' : Near reader' (going.read ++ moves.taken) (going.used ++ moves.uses.used)
        near' = near_on moves.usual

        goes' : Goes_on out_tells sink sink'' code turns (left - 1) any' StillUntouched new reader' (going.read ++ moves.taken)
        goes' future e s =
            let running = was moves.taken future e moves.ended moves.quiet s in
            let leads = moves.leads future e s running.handed running.made in
            stepped out_tells sink sink' code turns (input_items ((going.read ++ moves.taken) ++ future) e) left any Untouched state (items_left reader (moves.taken ++ future) e) running
            sink'' Still StillUntouched both moves.kept moves.hands new (items_left reader' future e) leads.0 any' is more leads.1

        sent_on : (moves.taken ≡ []) ⊎ (new.output ≡ []) → Sent out_tells sink sink'' code turns reader' (going.read ++ moves.taken)
        sent_on (inl none) future e s = sent_before moves.taken none future e moves.ended s (λ t. (moves.hands.0, moves.hands.2 t))
        sent_on (inr empty) future e s =
            moment_now code turns (input_items ((going.read ++ moves.taken) ++ future) e) out_tells sink sink'' (left - 1) any' StillUntouched new (items_left reader' future e)
            (λ m. ReadFor (input_items ((going.read ++ moves.taken) ++ future) e) m.items ((going.read ++ moves.taken) ++ future) (going.read ++ moves.taken))
            (goes' future e s) empty
            (read_for in_tells before after reader' (going.read ++ moves.taken) (going.used ++ moves.uses.used) read' used' near' future e s)

    -- the bytes of the whole input, and its lines
    abbrev later_bytes : List ℕ → List ℕ
    later_bytes taken = (going.read ++ taken) ++ told in_tells after

    abbrev later_items : List ℕ → Items
    later_items taken = input_items (later_bytes taken) AtEof

    pub halts_there : (ending : Ending) → Moves (step code) state new reader reader' out_tells sink' sink'' Still in_tells now after (Some ending) → Halted out_tells sink sink'' StillUntouched in_tells before after code turns any' new reader' ending
    halts_there ending moves = record {
      read = going.read ++ moves.taken;
      used = going.used ++ moves.uses.used;
      so_far = read';
      whole = used';
      usual = usual';
      sent = sent_on moves.sent;
      halts = halts';
    }
      where
        read' : Read in_tells before after reader' (going.read ++ moves.taken) (going.used ++ moves.uses.used)
        read' = read_more in_tells before now after reader reader' going.read going.used state new (step code) out_tells sink' sink'' Still (Some ending) going.so_far moves

        used' : Used reader' (going.read ++ moves.taken) (going.used ++ moves.uses.used)
        used' = used_more reader reader' going.read moves.taken going.used moves.uses.used moves.ended moves.quiet going.whole moves.lines

        usual_on : (Some ending ≡ Some Over) ⊎ StaysNear reader reader' moves.taken moves.uses.used → (ending ≡ Over) ⊎ Near reader' (going.read ++ moves.taken) (going.used ++ moves.uses.used)
        usual_on (inl e) = inl (cc)
        usual_on (inr stays) = inr (near_more reader reader' going.read moves.taken going.used moves.uses.used going.near stays)

        usual' : (ending ≡ Over) ⊎ Near reader' (going.read ++ moves.taken) (going.used ++ moves.uses.used)
        usual' = usual_on moves.usual

        suits : Suits reader' (told in_tells after) AtEof
        suits = suits_told in_tells after reader' read'.seen

        running : Running out_tells sink sink' code turns (later_items moves.taken) left any Untouched state (items_left reader (moves.taken ++ (told in_tells after)) AtEof)
        running = was moves.taken (told in_tells after) AtEof moves.ended moves.quiet suits

        halts' : (stop : Stop) → machine_run turns (later_items moves.taken) code ≡ Some stop → Stopped out_tells sink sink'' any' StillUntouched new (items_left reader' (told in_tells after) AtEof) (ending_of ending) stop
        halts' stop run =
            let leads = moves.leads (told in_tells after) AtEof suits running.handed running.made in
            stopped out_tells sink sink' code turns (later_items moves.taken) left any Untouched state (items_left reader (moves.taken ++ (told in_tells after)) AtEof) running
            sink'' Still StillUntouched both moves.kept moves.hands new (items_left reader' (told in_tells after) AtEof) leads.0 any' is more ending leads.1 stop run

        last_on : (stop : Stop) → (end : Stopped out_tells sink sink'' any' StillUntouched new (items_left reader' (told in_tells after) AtEof) (ending_of ending) stop) → (ending ≡ Over) ⊎ Near reader' (going.read ++ moves.taken) (going.used ++ moves.uses.used) → IsLast (later_items moves.taken) stop (later_bytes moves.taken) (going.read ++ moves.taken) (state_of (rest_after (items_left reader' (told in_tells after) AtEof) end.handed end.made) new)
        last_on stop end (inl over) =
            inl (end.is ∙ ap (λ o. stop_at (ending_of o) (state_of (rest_after (items_left reader' (told in_tells after) AtEof) end.handed end.made) new)) over)
        last_on stop end (inr near) =
            inr (read_for in_tells before after reader' (going.read ++ moves.taken) (going.used ++ moves.uses.used) read' used' near (told in_tells after) AtEof suits)

        sent_on : (moves.taken ≡ []) ⊎ (new.output ≡ []) → (stop : Stop) → machine_run turns (later_items moves.taken) code ≡ Some stop → Moment code turns (later_items moves.taken) out_tells sink sink'' (IsLast (later_items moves.taken) stop (later_bytes moves.taken) (going.read ++ moves.taken))
        sent_on (inl none) stop run =
            moment_as code turns (later_items moves.taken) out_tells sink sink'' (λ m. ReadFor (later_items moves.taken) m.items (later_bytes moves.taken) (going.read ++ moves.taken)) (IsLast (later_items moves.taken) stop (later_bytes moves.taken) (going.read ++ moves.taken)) (λ m r. inr r)
            (sent_before moves.taken none (told in_tells after) AtEof moves.ended suits (λ t. (moves.hands.0, moves.hands.2 t)))
        sent_on (inr empty) stop run =
            let end = halts' stop run in
            let steps = reached code (most_steps turns code) (start code turns (later_items moves.taken)) stop run in
            record {
              state = state_of (rest_after (items_left reader' (told in_tells after) AtEof) end.handed end.made) new;
              steps = steps.0;
              comes = subst (λ m. Reaches code steps.0 (start code turns (later_items moves.taken)) m) (ap (λ z. z.state) end.is) steps.1;
              sent = λ t. ([], end.taken t ∙ ap (λ c. sink ++ c) (sent_whole end.handed new.output empty));
              usual = last_on stop end usual';
            }

  -- some of what is held is handed on
  with_handed : (sink'' output : List ℕ) (Still StillUntouched : Type 0) → (Untouched → Still → StillUntouched) → HandsOn out_tells sink' sink'' state.output output Still → Going out_tells sink sink'' StillUntouched in_tells before now code turns left any (record state { output = output }) reader
  with_handed sink'' output Still StillUntouched both hands = record {
    read = going.read;
    used = going.used;
    so_far = going.so_far;
    whole = going.whole;
    near = going.near;
    sent = λ future e s.
        moment_later code turns (input_items (going.read ++ future) e) out_tells sink sink' (λ m. ReadFor (input_items (going.read ++ future) e) m.items (going.read ++ future) going.read) sink'' (λ t. (hands.0, hands.2 t)) (going.sent future e s);
    goes = λ future e s.
        handed_on out_tells sink sink' code turns (input_items (going.read ++ future) e) left any Untouched state (items_left reader future e) (going.goes future e s) sink'' output Still StillUntouched both hands;
  }

  pub hands_further : (next : Seen) (sink'' : List ℕ) (Still StillUntouched : Type 0) → (Untouched → Still → StillUntouched) → HandsOn out_tells sink' sink'' state.output next.output Still → next ≡ record state { output = next.output } → Going out_tells sink sink'' StillUntouched in_tells before now code turns left any next reader
  hands_further next sink'' Still StillUntouched both hands others =
      subst (λ (n : Seen). Going out_tells sink sink'' StillUntouched in_tells before now code turns left any n reader) (sym others) (with_handed sink'' next.output Still StillUntouched both hands)

-- ---- what a call says of the run
abbrev pub Answered : Bool → ℕ → ℕ → List ℕ → List ℕ → Code → ℕ → Bool → List ℕ → List ℕ → Type 0 → Result Report RunError → Type 0
Answered in_tells faults faults' left left' code turns out_tells sink sink' Untouched result =
    (items : Items) × AreGiven in_tells faults faults' left left' items
    × ((stop : Stop) × (machine_run turns items code ≡ Some stop) × Ran code stop out_tells sink sink' result × (stop.state.output ≡ [] → Untouched)
    × (IsTrue in_tells → Took code turns out_tells sink sink' result items stop left left'))

-- a reader that has to read did not see the end
unended : (reader : ReaderState) → is_ready reader ≡ false → reader.ended ≡ false
unended reader e = (waits reader e).unended

-- counts that did not rise, and one that did
still : (n m : ℕ) → n < m → nat_le (n + min 1 (m - n)) n ≡ false
still n m lt = grind (arith, nat_tests)

same_count : (n : ℕ) → nat_le n n ≡ true
same_count n = grind (arith, nat_tests)

given_calm : (tells : Bool) (faults faults' : ℕ) (left now left' read : List ℕ) → faults' ≡ faults → (IsTrue tells → left ≡ read ++ now) → AreGiven tells faults faults' left left' (input_items (read ++ told tells now) AtEof)
given_calm tells faults faults' left now left' read calm given = (
  (read ++ told tells now, (AtEof, refl)),
  λ t room.
      ap (λ l. input_items (read ++ l) AtEof) (told_is tells now t) ∙ ap (λ l. input_items l AtEof) (sym (given t))
      ∙ ap (λ b. given_items b left left') (sym (ap (has_risen faults) calm ∙ still faults count_end room)),
)

given_failed : (tells : Bool) (faults faults' : ℕ) (left left' read : List ℕ) → faults' ≡ one_more faults → (IsTrue tells → left ≡ read ++ left') → AreGiven tells faults faults' left left' (input_items read AtFailure)
given_failed tells faults faults' left left' read risen given = (
  (read, (AtFailure, refl)),
  λ t room.
      ap (λ c. input_items c AtFailure) (sym (bytes_between-split left left' read (given t)))
      ∙ ap (λ b. given_items b left left') (sym (ap (has_risen faults) risen ∙ same_count (one_more faults))),
)

at_least : (n m : ℕ) → m ≡ n → n ≤ m
at_least n m e = omega (arith, e)

-- an input that could not be read counted that
pub rose_where_unread : (any has : Bool) (e : Refusal) (result : Result Report RunError) (n m : ℕ) → m ≡ faults_of_input {T = Option Ending} (Err e) n → result ≡ Err (error_after any e) → result ≡ Err (InputFault has) → Rose n m
rose_where_unread any has refusal.InputFault result n m counted is e = at_least (one_more n) m counted
rose_where_unread any has refusal.WriteFault result n m counted is e =
    let was : result ≡ Err WriteFault = is in
    let bad : WriteFault ≡ InputFault has = cc in
    absurd (cc)
rose_where_unread any has refusal.Memory result n m counted is e =
    let was : result ≡ Err Memory = is in
    let bad : Memory ≡ InputFault has = cc in
    absurd (cc)

-- a sink counted its refusal, and nothing else
pub faults_where_failed : (any : Bool) (e : Refusal) (n m : ℕ) → m ≡ faults_of_output {T = Option Ending} (Err e) n → m ≡ faults_of_out (Err (error_after any e)) n
faults_where_failed any refusal.InputFault n m counted = counted
faults_where_failed any refusal.WriteFault n m counted = counted
faults_where_failed any refusal.Memory n m counted = counted

-- a refusal of memory or of the sink
pub data Refused : RunError → Type 0 where
  NoMemory : Refused Memory
  NoSink : Refused WriteFault

ran_refused : (e : RunError) → Refused e → (code : Code) (stop : Stop) (tells : Bool) (sink sink' : List ℕ) → (IsTrue tells → TakesFront sink sink' stop.state.output) → Ran code stop tells sink sink' (Err e)
ran_refused Memory NoMemory code stop tells sink sink' front = front
ran_refused WriteFault NoSink code stop tells sink sink' front = front
ran_refused (InputFault any) refused code stop tells sink sink' front = elim refused [ ]

took_refused : (e : RunError) → Refused e → (code : Code) (turns : ℕ) (tells : Bool) (sink sink' : List ℕ) (items : Items) (stop : Stop) (left left' : List ℕ) → TookSome code turns items stop tells sink sink' left left' → Took code turns tells sink sink' (Err e) items stop left left'
took_refused Memory NoMemory code turns tells sink sink' items stop left left' some = some
took_refused WriteFault NoSink code turns tells sink sink' items stop left left' some = some
took_refused (InputFault any) refused code turns tells sink sink' items stop left left' some = elim refused [ ]

-- what was taken up to a moment
up_to : (items left_items : Items) (left left' taken : List ℕ) → left ≡ taken ++ left' → ReadFor items left_items left taken → TookUpTo (lines_used items left_items) left left'
up_to items left_items left left' taken given read = record { taken = taken; given = given; near = read.near; none = read.none }

took_some : (code : Code) (turns : ℕ) (items : Items) (stop : Stop) (tells : Bool) (sink sink' left left' taken : List ℕ) → left ≡ taken ++ left' → length taken ≤ most_read → Moment code turns items tells sink sink' (IsLast items stop left taken) → TookSome code turns items stop tells sink sink' left left'
took_some code turns items stop tells sink sink' left left' taken given within m = record {
  state = m.state;
  steps = m.steps;
  comes = m.comes;
  sent = m.sent;
  within = record { given = taken; within = within; split = given };
  usual = last m.usual;
}
  where
    last : IsLast items stop left taken m.state → (stop ≡ record { ending = Ended source.Over; state = m.state }) ⊎ TookUpTo (lines_used items m.state.items) left left'
    last (inl over) = inl over
    last (inr read) = inr (up_to items m.state.items left left' taken given read)

module _ (in_tells : Bool) (faults faults' : ℕ) (left : List ℕ) (code : Code) (turns : ℕ) (out_tells : Bool) (sink : List ℕ) (exists : RunExists) (formed : WellFormed code) where
  -- before the first step
  pub answers_early : (Untouched : Type 0) (e : RunError) → Refused e → faults' ≡ faults → Untouched → Answered in_tells faults faults' left left code turns out_tells sink sink Untouched (Err e)
  answers_early Untouched e refused calm same =
      let items = input_items ([] ++ told in_tells left) AtEof in
      let run = exists code formed turns items in (
        items,
        given_calm in_tells faults faults' left left left [] calm (λ t. refl),
        (
          run.0,
          run.1,
          ran_refused e refused code run.0 out_tells sink sink (λ t. TakesFront-none sink sink run.0.state.output refl),
          λ none. same,
          λ t.
              took_refused e refused code turns out_tells sink sink items run.0 left left
              (took_some code turns items run.0 out_tells sink sink left left [] refl (omega arith)
              (moment_as code turns items out_tells sink sink (λ m. ReadFor items m.items ([] ++ told in_tells left) []) (IsLast items run.0 left [])
              (λ m r. inr (subst (λ b. ReadFor items m.items b []) (told_is in_tells left t) r))
              (first_moment out_tells sink code turns (told in_tells left) AtEof))),
        ),
      )

  module _ (sink' now : List ℕ) (Untouched : Type 0) (any : Bool) (state : Seen) (reader : ReaderState) where
    -- between two steps: some of what is held may have gone to the sink, and some bytes may have been taken
    module _ (steps_left : ℕ) (going : Going out_tells sink sink' Untouched in_tells left now code turns steps_left any state reader) where
      abbrev now_items : Items
      now_items = input_items (going.read ++ told in_tells now) AtEof

      abbrev now_lines : Items
      now_lines = items_left reader (told in_tells now) AtEof

      suits_now : Suits reader (told in_tells now) AtEof
      suits_now = suits_told in_tells now reader going.so_far.seen

      running_now : Running out_tells sink sink' code turns now_items steps_left any Untouched state now_lines
      running_now = going.goes (told in_tells now) AtEof suits_now

      -- all the bytes that the input told
      all_told : IsTrue in_tells → going.read ++ told in_tells now ≡ left
      all_told t = ap (λ c. going.read ++ c) (told_is in_tells now t) ∙ sym (going.so_far.given t)

      answers_refused : (sink'' after : List ℕ) (Still StillUntouched : Type 0) → (Untouched → Still → StillUntouched) → (e : RunError) → Refused e → faults' ≡ faults → HandsFront out_tells sink' sink'' state.output Still → (taken : List ℕ) → (IsTrue in_tells → now ≡ taken ++ after) → (total_of reader ≤ most_read → total_of reader + length taken ≤ most_read) → ((stop : Stop) → machine_run turns now_items code ≡ Some stop → IsTrue in_tells → Moment code turns now_items out_tells sink sink'' (IsLast now_items stop left (going.read ++ taken))) → Answered in_tells faults faults' left after code turns out_tells sink sink'' StillUntouched (Err e)
      answers_refused sink'' after Still StillUntouched both e refused calm hands taken given within moment =
          let run = exists code formed turns now_items in (
            now_items,
            given_calm in_tells faults faults' left now after going.read calm going.so_far.given,
            (
              run.0,
              run.1,
              ran_refused e refused code run.0 out_tells sink sink'' (front_of_held out_tells sink sink' code turns now_items steps_left any Untouched state now_lines running_now sink'' hands.front run.0 run.1),
              λ none. both (nothing_so_far out_tells sink sink' code turns now_items steps_left any Untouched state now_lines running_now run.0 run.1 none) (hands.alone (nothing_held out_tells sink sink' code turns now_items steps_left any Untouched state now_lines running_now run.0 run.1 none)),
              λ t.
                  took_refused e refused code turns out_tells sink sink'' now_items run.0 left after
                  (took_some code turns now_items run.0 out_tells sink sink'' left after (going.read ++ taken)
                  (going.so_far.given t ∙ ap (λ c. going.read ++ c) (given t) ∙ sym (append_assoc going.read taken after))
                  (omega (arith, length-append going.read taken, read_size in_tells left now reader going.read going.used going.so_far, within going.so_far.within))
                  (moment run.0 run.1 t)),
            ),
          )

      -- where nothing was taken
      moment_same : (sink'' : List ℕ) → (IsTrue out_tells → TakesFront sink' sink'' state.output) → (taken : List ℕ) → taken ≡ [] → (stop : Stop) → IsTrue in_tells → Moment code turns now_items out_tells sink sink'' (IsLast now_items stop left (going.read ++ taken))
      moment_same sink'' front taken none stop t =
          let same : going.read ≡ going.read ++ taken = sym (ap (λ c. going.read ++ c) none ∙ append-nil going.read) in
          moment_as code turns now_items out_tells sink sink'' (λ m. ReadFor now_items m.items (going.read ++ told in_tells now) going.read) (IsLast now_items stop left (going.read ++ taken))
          (λ m r. inr (subst (λ c. ReadFor now_items m.items left c) same (subst (λ b. ReadFor now_items m.items b going.read) (all_told t) r)))
          (moment_later code turns now_items out_tells sink sink' (λ m. ReadFor now_items m.items (going.read ++ told in_tells now) going.read) sink'' (λ o. let f = front o in (take f.count state.output, f.grown))
          (going.sent (told in_tells now) AtEof suits_now))

      -- where bytes were taken for a line
      module _ (sink'' after taken : List ℕ) (Still : Type 0) (given : IsTrue in_tells → now ≡ taken ++ after) (reads : ReadsOn (step code) state reader out_tells sink' sink'' Still taken) (more : 1 ≤ steps_left) (stop : Stop) (run : machine_run turns now_items code ≡ Some stop) (t : IsTrue in_tells) where
        abbrev Wanted : Type 0
        Wanted = Moment code turns now_items out_tells sink sink'' (IsLast now_items stop left (going.read ++ taken))

        -- what stands behind the bytes that are used
        behind_used : reader.held ++ told in_tells now ≡ reads.one.text ++ (reads.one.rest ++ after)
        behind_used =
            ap (λ c. reader.held ++ c) (told_is in_tells now t ∙ given t) ∙ sym (append_assoc reader.held taken after)
            ∙ ap (λ c. c ++ after) reads.one.split ∙ append_assoc reads.one.text reads.one.rest after

        -- the line goes further than what was taken, but for less than one read
        first_goes_far : (p : List ℕ) (ps : List (List ℕ)) → pieces (reader.held ++ told in_tells now) ≡ p ∷ ps → length reader.held + length taken < length p + piece_size
        first_goes_far p ps e =
            let far = first_long reads.one.text (reads.one.rest ++ after) p ps reads.one.none (sym (ap pieces behind_used) ∙ e) in
            let size : length reader.held + length taken ≡ length reads.one.text + length reads.one.rest = omega (arith, ap length reads.one.split, length-append reader.held taken, length-append reads.one.text reads.one.rest) in
            less_than_read (length reader.held + length taken) (length reads.one.text) (length p) reads.one.rest after reads.one.near far size

        -- the line's piece
        read_for_line : (next : Items) (p : List ℕ) (ps : List (List ℕ)) → pieces (reader.held ++ told in_tells now) ≡ p ∷ ps → line_count now_lines ≡ line_count next + 1 → ReadFor now_items next left (going.read ++ taken)
        read_for_line next p ps e count =
            let whole = going.whole in
            let many : lines_used now_items next ≡ length (whole.lines ++ p ∷ []) = omega (arith, whole.counted (told in_tells now) AtEof suits_now, count, length-append whole.lines (p ∷ [])) in
            let cut : pieces left ≡ (whole.lines ++ p ∷ []) ++ ps = ap pieces (sym (all_told t)) ∙ whole.whole (told in_tells now) AtEof suits_now ∙ ap (λ c. whole.lines ++ c) e ∙ sym (append_assoc whole.lines (p ∷ []) ps) in
            let first = lines_first (whole.lines ++ p ∷ []) ps (pieces left) (lines_used now_items next) cut many in
            let all : concat (whole.lines ++ p ∷ []) ≡ going.used ++ p = concat-append whole.lines (p ∷ []) ∙ ap (λ c. c ++ (p ++ [])) (sym whole.all) ∙ ap (λ c. going.used ++ c) (append-nil p) in
            record {
              near = omega (arith, first_goes_far p ps e, ap (λ c. length (concat c)) first, ap length all, length-append going.used p, length-append going.read taken, read_size in_tells left now reader going.read going.used going.so_far, going.so_far.at);
              none = λ none. absurd (omega (arith, none, many, length-append whole.lines (p ∷ [])));
            }

        -- the moment behind a line that is there
        moment_line : (lines next : Items) (goes : MachineState) → lines ≡ now_lines → line_count lines ≡ line_count next + 1 → (running : Running out_tells sink sink' code turns now_items steps_left any Untouched state lines) → step code (state_of (rest_after lines running.handed running.made) state) ≡ Goes goes → goes.items ≡ next → goes.output ≡ running.handed ++ state.output → Wanted
        moment_line lines next goes is count running e items_are output_is =
            let piece = some_line (pieces (reader.held ++ told in_tells now)) reader.before (omega (arith, count, ap line_count is)) in
            record {
              state = goes;
              steps = running.steps + 1;
              comes = one_further code running.steps (start code turns now_items) (state_of (rest_after lines running.handed running.made) state) goes running.reaches e;
              sent = λ o. (
                [],
                reads.hands.all o ∙ ap (λ c. c ++ state.output) (running.taken o) ∙ append_assoc sink running.handed state.output
                    ∙ ap (λ c. sink ++ c) (sym (append-nil goes.output ∙ output_is)),
              );
              usual = inr (rw items_are (read_for_line next piece.0 piece.1.0 piece.1.1 (ap line_count (sym is) ∙ count)));
            }

        moment_for : (lines : Items) → lines ≡ now_lines → (running : Running out_tells sink sink' code turns now_items steps_left any Untouched state lines) → Wanted
        moment_for item.Eof is running =
            let nothing = no_byte (reader.held ++ told in_tells now) (no_piece reader.before (pieces (reader.held ++ told in_tells now)) (sym is)) in
            let none : taken ++ after ≡ [] = sym (told_is in_tells now t ∙ given t) ∙ no_rest reader.held (told in_tells now) nothing in
            moment_same sink'' (λ o. TakesFront-all sink' sink'' state.output (reads.hands.all o)) taken (no_front taken after none) stop t
        moment_for item.Broken is running = absurd (never_broken reader.before (pieces (reader.held ++ told in_tells now)) (sym is))
        moment_for item.Over is running =
            let s = state_of (rest_after item.Over running.handed running.made) state in
            record {
              state = s;
              steps = running.steps;
              comes = running.reaches;
              sent = λ o. (
                [],
                reads.hands.all o ∙ ap (λ c. c ++ state.output) (running.taken o) ∙ append_assoc sink running.handed state.output
                    ∙ ap (λ c. sink ++ c) (sym (append-nil (running.handed ++ state.output))),
              );
              usual = inl (last_step out_tells sink sink' code turns now_items steps_left any Untouched state item.Over running (Ended source.Over) s more (reads.asks (rest_after item.Over running.handed running.made)) stop run);
            }
        moment_for (item.Line text next) is running =
            let s = state_of (rest_after (item.Line text next) running.handed running.made) state in
            let goes = input_goes s reads.target text next in
            moment_line (item.Line text next) next goes.0 is refl running (reads.asks (rest_after (item.Line text next) running.handed running.made) ∙ goes.1) goes.2 goes.3
        moment_for (item.Bad next) is running =
            let s = state_of (rest_after (item.Bad next) running.handed running.made) state in
            let goes = input_skips s reads.target next in
            moment_line (item.Bad next) next goes.0 is refl running (reads.asks (rest_after (item.Bad next) running.handed running.made) ∙ goes.1) goes.2 goes.3

      -- memory ran out in a step
      pub answers_stalled : (sink'' after : List ℕ) (Still StillUntouched : Type 0) → (Untouched → Still → StillUntouched) → faults' ≡ faults → 1 ≤ steps_left → Stalls (step code) state reader out_tells sink' sink'' Still in_tells now after → Answered in_tells faults faults' left after code turns out_tells sink sink'' StillUntouched (Err Memory)
      answers_stalled sink'' after Still StillUntouched both calm more stalls =
          answers_refused sink'' after Still StillUntouched both Memory NoMemory calm stalls.hands stalls.takes.taken stalls.takes.given stalls.takes.within (by stalls.why)
        where
          by : (stalls.takes.taken ≡ []) ⊎ ReadsOn (step code) state reader out_tells sink' sink'' Still stalls.takes.taken → (stop : Stop) → machine_run turns now_items code ≡ Some stop → IsTrue in_tells → Moment code turns now_items out_tells sink sink'' (IsLast now_items stop left (going.read ++ stalls.takes.taken))
          by (inl none) stop run t = moment_same sink'' stalls.hands.front stalls.takes.taken none stop t
          by (inr reads) stop run t =
              moment_for sink'' after stalls.takes.taken Still stalls.takes.given reads more stop run t now_lines refl running_now

      -- the sink refused a call, and nothing was taken then
      pub answers_unsent : (sink'' after : List ℕ) (Still StillUntouched : Type 0) → (Untouched → Still → StillUntouched) → faults' ≡ faults → HandsFront out_tells sink' sink'' state.output Still → after ≡ now → Answered in_tells faults faults' left after code turns out_tells sink sink'' StillUntouched (Err WriteFault)
      answers_unsent sink'' after Still StillUntouched both calm hands same =
          answers_refused sink'' after Still StillUntouched both WriteFault NoSink calm hands [] (λ t. sym same) (λ h. omega (arith, h))
          (λ stop run t. moment_same sink'' hands.front [] refl stop t)

      -- a read failed
      pub answers_broken : (sink'' after : List ℕ) (Still StillUntouched : Type 0) → (Untouched → Still → StillUntouched) → faults' ≡ one_more faults → 1 ≤ steps_left → BreaksOff (step code) state reader out_tells sink' sink'' Still in_tells now after → Answered in_tells faults faults' left after code turns out_tells sink sink'' StillUntouched (Err (InputFault any))
      answers_broken sink'' after Still StillUntouched both risen more breaks =
          let taken = breaks.takes.taken in
          let items = input_items (going.read ++ taken) AtFailure in
          let run = exists code formed turns items in
          let before = going.goes taken AtFailure (λ r. let no = unended reader breaks.unready in absurd (cc)) in
          let running = subst (Running out_tells sink sink' code turns items steps_left any Untouched state) breaks.takes.outcome before in
          let stop_is = last_step out_tells sink sink' code turns items steps_left any Untouched state Broken running (Ended source.Broken) _ more (breaks.stops running.handed running.made) run.0 run.1 in
          let output_is : run.0.state.output ≡ running.handed ++ state.output = ap (λ s. s.state.output) stop_is in (
            items,
            given_failed in_tells faults faults' left after (going.read ++ taken) risen
                (λ t. going.so_far.given t ∙ ap (λ c. going.read ++ c) (breaks.takes.given t) ∙ sym (append_assoc going.read taken after)),
            (
              run.0,
              run.1,
              (ap (λ s. s.ending) stop_is, λ t. breaks.hands.all t ∙ ap (λ l. l ++ state.output) (running.taken t) ∙ append_assoc sink running.handed state.output ∙ ap (λ l. sink ++ l) (sym output_is), running.any_is ∙ ap has_bytes (sym output_is)),
              λ none.
                  let all : running.handed ++ state.output ≡ [] = sym output_is ∙ none in
                  both (running.alone (no_front running.handed state.output all)) (breaks.hands.alone (no_rest running.handed state.output all)),
              λ t. record {
                given = going.read ++ taken;
                within = omega (arith, length-append going.read taken, read_size in_tells left now reader going.read going.used going.so_far, breaks.takes.within);
                split = going.so_far.given t ∙ ap (λ c. going.read ++ c) (breaks.takes.given t) ∙ sym (append_assoc going.read taken after);
              },
            ),
          )

      -- a step was not made
      pub answers_failed : (new : Seen) (reader' : ReaderState) (sink'' after : List ℕ) (Still StillUntouched : Type 0) → (Untouched → Still → StillUntouched) → (e : Refusal) → faults' ≡ faults_of_input {T = Option Ending} (Err e) faults → 1 ≤ steps_left → Advances (step code) state new reader reader' out_tells sink' sink'' Still in_tells now after (Err e) → Answered in_tells faults faults' left after code turns out_tells sink sink'' StillUntouched (Err (error_after any e))
      answers_failed new reader' sink'' after Still StillUntouched both refusal.InputFault counted more advances = answers_broken sink'' after Still StillUntouched both counted more advances
      answers_failed new reader' sink'' after Still StillUntouched both refusal.WriteFault counted more advances = answers_unsent sink'' after Still StillUntouched both counted advances.0 advances.1
      answers_failed new reader' sink'' after Still StillUntouched both refusal.Memory counted more advances = answers_stalled sink'' after Still StillUntouched both counted more advances

    -- where the run stopped
    module _ (ending : Ending) (halted : Halted out_tells sink sink' Untouched in_tells left now code turns any state reader ending) where
      abbrev ahead : List ℕ
      ahead = told in_tells now

      abbrev items : Items
      items = input_items (halted.read ++ ahead) AtEof

      abbrev lines : Items
      lines = items_left reader ahead AtEof

      all_there : IsTrue in_tells → halted.read ++ ahead ≡ left
      all_there t = ap (λ c. halted.read ++ c) (told_is in_tells now t) ∙ sym (halted.so_far.given t)

      answered : (sink'' : List ℕ) (Still StillUntouched : Type 0) → (Untouched → Still → StillUntouched) → faults' ≡ faults → (state.output ≡ [] → Still) → (result : Result Report RunError) → ((stop : Stop) → machine_run turns items code ≡ Some stop → Stopped out_tells sink sink' any Untouched state lines (ending_of ending) stop → Ran code stop out_tells sink sink'' result × (IsTrue in_tells → Took code turns out_tells sink sink'' result items stop left now)) → Answered in_tells faults faults' left now code turns out_tells sink sink'' StillUntouched result
      answered sink'' Still StillUntouched both calm alone result ran =
          let run = exists code formed turns items in
          let stopped = halted.halts run.0 run.1 in
          let end = ran run.0 run.1 stopped in (
            items,
            given_calm in_tells faults faults' left now now halted.read calm halted.so_far.given,
            (
              run.0,
              run.1,
              end.0,
              λ none. let nothing = nothing_at_end out_tells sink sink' any Untouched state lines (ending_of ending) run.0 stopped none in both nothing.0 (alone nothing.1),
              end.1,
            ),
          )

      pub answers_halt : (sink'' : List ℕ) (Still StillUntouched : Type 0) → (Untouched → Still → StillUntouched) → (e : RunError) → Refused e → faults' ≡ faults → (IsTrue out_tells → TakesFront sink' sink'' state.output) → (state.output ≡ [] → Still) → Answered in_tells faults faults' left now code turns out_tells sink sink'' StillUntouched (Err e)
      answers_halt sink'' Still StillUntouched both e refused calm front alone =
          answered sink'' Still StillUntouched both calm alone (Err e)
          (λ stop run stopped. (
            ran_refused e refused code stop out_tells sink sink'' (front_at_end out_tells sink sink' any Untouched state lines (ending_of ending) stop stopped sink'' front),
            λ t.
                took_refused e refused code turns out_tells sink sink'' items stop left now
                (took_some code turns items stop out_tells sink sink'' left now halted.read (halted.so_far.given t)
                (omega (arith, read_size in_tells left now reader halted.read halted.used halted.so_far, halted.so_far.within))
                (moment_as code turns items out_tells sink sink'' (IsLast items stop (halted.read ++ ahead) halted.read) (IsLast items stop left halted.read)
                (λ m l. subst (λ b. IsLast items stop b halted.read m) (all_there t) l)
                (moment_later code turns items out_tells sink sink' (IsLast items stop (halted.read ++ ahead) halted.read) sink'' (λ o. let f = front o in (take f.count state.output, f.grown)) (halted.sent stop run)))),
          ))

      took : (stop : Stop) → Stopped out_tells sink sink' any Untouched state lines (ending_of ending) stop → IsTrue in_tells → TookLines items stop left now
      took stop stopped t = record {
        used = halted.used;
        ahead = reader.held;
        given = halted.so_far.given t ∙ ap (λ c. c ++ now) halted.so_far.split ∙ append_assoc halted.used reader.held now;
        whole = whole.all ∙ ap concat (sym (lines_first whole.lines (pieces (reader.held ++ ahead)) (pieces left) (lines_used items stop.state.items) cut many));
        follows = left_is ∙ ap (λ c. lines_from reader.before AtEof (pieces (reader.held ++ c))) (told_is in_tells now t) ∙ ap (λ n. lines_from n AtEof (pieces (reader.held ++ now))) halted.so_far.at;
        within = omega (arith, halted.so_far.within, halted.so_far.at);
        usual = usual_on halted.usual;
      }
        where
          whole : Used reader halted.read halted.used
          whole = halted.whole

          suits : Suits reader ahead AtEof
          suits = suits_told in_tells now reader halted.so_far.seen

          left_is : stop.state.items ≡ lines
          left_is = ap (λ s. s.state.items) stopped.is

          cut : pieces left ≡ whole.lines ++ pieces (reader.held ++ ahead)
          cut = ap pieces (sym (all_there t)) ∙ whole.whole ahead AtEof suits

          many : lines_used items stop.state.items ≡ length whole.lines
          many = omega (arith, whole.counted ahead AtEof suits, ap line_count left_is)

          usual_on : (ending ≡ Over) ⊎ Near reader halted.read halted.used → (stop.ending ≡ Ended source.Over) ⊎ TookNear items halted.used reader.held stop
          usual_on (inl e) = inl (ap (λ s. s.ending) stopped.is ∙ ap ending_of e)
          usual_on (inr near) = inr (record {
            near = near.near;
            none = λ none. sym halted.so_far.split ∙ near.quiet (no_lines halted.used whole.lines whole.all (sym many ∙ none));
          })

      pub answers_report : (sink'' : List ℕ) (Still StillUntouched : Type 0) → (Untouched → Still → StillUntouched) → faults' ≡ faults → (IsTrue out_tells → sink'' ≡ sink' ++ state.output) → (state.output ≡ [] → Still) → (report : Report) → report.ending ≡ ending → report.live ≡ live_cells code.classes state.cells → report.turns_left ≡ state.turns → report.has_output ≡ any → Answered in_tells faults faults' left now code turns out_tells sink sink'' StillUntouched (Ok report)
      answers_report sink'' Still StillUntouched both calm all alone report same_ending same_live same_turns same_output =
          answered sink'' Still StillUntouched both calm alone (Ok report)
          (λ stop run stopped. (
            (
              reported out_tells sink sink' any Untouched state lines (ending_of ending) stop stopped code report (ap ending_of same_ending) same_live same_turns same_output,
              all_at_end out_tells sink sink' any Untouched state lines (ending_of ending) stop stopped sink'' all,
            ),
            took stop stopped,
          ))
