-- What a step of a run is that may read a line of the input first.
use Rattle.std.proofs.Common.{◌≡◌, refl, sym, ◌∙◌, ap, subst, ℕ, ◌+◌, ◌<◌, ◌≤◌, arith, Bool, true, false, not, ◌||◌, cond, List, [], ◌∷◌, ◌++◌, length, append_assoc, append-nil, Option, Some, None, Err, ◌⊎◌, inl, inr}
use Rattle.std.specs.Prelude.{nat_lt, IsTrue}
use Rattle.std.specs.List.{list_any}
use Rattle.value_core.specs.Ending as source
use Rattle.value_core.specs.Items as items
use Rattle.value_core.specs.Items.{Items, InputEnd, AtEof, is_line_feed, before_pieces, pieces, lines_from, most_input}
use Rattle.outside_core.proofs.Fronts.{TakesFront-all, TakesFront-before, TakesFront-none}
use Rattle.c_core.specs.Machine.{MachineState}
use Rattle.c_core.specs.Step.{Next, Goes, Ends, Ended, applied, line_read}
use Rattle.c_runner_lines.specs.declared.item.Item.{Item}
use Rattle.c_runner_lines.specs.declared.item.Item.TheVariants.{Line, Bad, Eof, Over}
use Rattle.c_runner_lines.specs.declared.read_fault.ReadFault.{ReadFault}
use Rattle.c_runner_lines.specs.declared.read_fault.ReadFault.TheVariants as read
use Rattle.c_runner_lines.specs.Held.{piece_size}
use Rattle.c_runner_lines.specs.ReaderState.{ReaderState, total_of}
use Rattle.c_runner_lines.specs.Reading.{items_left, is_ready, Suits, IsForOneLine, Answers, Uses, Refuses, Found, Takes, EndIsSeen}
use Rattle.c_runner_lines.proofs.PieceLemmas.{first_none, byte_before}
use Rattle.c_runner.specs.declared.pause.Pause.{Pause}
use Rattle.c_runner.specs.declared.pause.Pause.TheVariants.{Waits}
use Rattle.c_runner_deeds.specs.declared.ending.Ending.{Ending}
use Rattle.c_runner_deeds.specs.declared.ending.Ending.TheVariants as ending
use Rattle.c_runner.specs.declared.refusal.Refusal.{Refusal}
use Rattle.c_runner.specs.declared.refusal.Refusal.TheVariants.{InputFault, WriteFault, Memory}
use Rattle.c_runner.specs.Advancing.{HandsFront, HandsAll, Fetches, UsesLines, StaysNear, Moves, ReadsOn, Stalls, Advances, refusal_of_read}
use Rattle.c_runner_deeds.specs.Handing.{HandsOn}
use Rattle.c_runner.specs.Ran.{line_count}
use Rattle.c_runner_deeds.specs.States.{Rest, state_of, next_of, Leads, Seen}
use Rattle.c_runner.specs.Waiting.{input_step, Asks, Steps, before, behind, Receives}
use Rattle.c_runner.proofs.Running.{no_front, no_rest}

-- ---- the sink
hands_front : (tells : Bool) (sink sink' held kept : List ℕ) (Untouched : Type 0) → HandsOn tells sink sink' held kept Untouched → HandsFront tells sink sink' held Untouched
hands_front tells sink sink' held kept Untouched hands = record {
  front = λ t. rw (hands.1) (TakesFront-before sink sink' hands.0 kept (TakesFront-all sink sink' hands.0 (hands.2 t)));
  alone = λ none. hands.3 (front_none hands.0 kept (sym hands.1 ∙ none));
}
  where
    front_none : (xs ys : List ℕ) → xs ++ ys ≡ [] → xs ≡ []
    front_none [] ys e = refl
    front_none (x ∷ xs) ys e = absurd (cc)

hands_all : (tells : Bool) (sink sink' held kept : List ℕ) (Untouched : Type 0) → HandsOn tells sink sink' held kept Untouched → kept ≡ [] → HandsAll tells sink sink' held Untouched
hands_all tells sink sink' held kept Untouched hands none =
    let all : held ≡ hands.0 = hands.1 ∙ ap (λ l. hands.0 ++ l) none ∙ append-nil hands.0 in
    record {
      all = λ t. hands.2 t ∙ ap (λ l. sink ++ l) (sym all);
      alone = λ e. hands.3 (sym all ∙ e);
    }

-- ---- the call for a line
-- nothing is held where something was read
pub fetch_emptied : (reader : ReaderState) (held' : List ℕ) (will_read : Bool) → will_read ≡ not (is_ready reader) → (IsTrue will_read → held' ≡ []) → is_ready reader ≡ false → held' ≡ []
fetch_emptied reader held' will_read will emptied wait = emptied (will ∙ ap not wait)

pub fetch_failed : (reader reader' : ReaderState) (held held' : List ℕ) (out_tells : Bool) (sink sink' : List ℕ) (Untouched : Type 0) (in_tells : Bool) (left left' : List ℕ) (will_read : Bool) (fault : ReadFault) → HandsOn out_tells sink sink' held held' Untouched → will_read ≡ not (is_ready reader) → (IsTrue will_read → held' ≡ []) → Takes reader in_tells left left' (Refuses fault reader) → (fault ≡ read.Failed → is_ready reader ≡ false) → Fetches reader reader' held held' out_tells sink sink' Untouched in_tells left left' (Err (refusal_of_read fault))
fetch_failed reader reader' held held' out_tells sink sink' Untouched in_tells left left' will_read read.Failed hands will emptied takes unready =
    let wait = unready refl in
    (hands_all out_tells sink sink' held held' Untouched hands (emptied (will ∙ ap not wait)), takes, wait)
fetch_failed reader reader' held held' out_tells sink sink' Untouched in_tells left left' will_read read.Memory hands will emptied takes unready = (
  hands_front out_tells sink sink' held held' Untouched hands,
  takes,
  λ wait. hands_all out_tells sink sink' held held' Untouched hands (emptied (will ∙ ap not wait)),
)

-- ---- a step that asks for a line
pub asks_of : (does : MachineState → Next) (old asked : Seen) (why : Pause) (target : Option ℕ) → why ≡ Waits target → Steps does (Err why) old asked → Asks does target old asked
asks_of does old asked why target is steps = subst (λ p. Steps does (Err p) old asked) is steps

-- ---- a step that asks for nothing
pub moves_at_once : (does : MachineState → Next) (old new : Seen) (reader : ReaderState) (out_tells : Bool) (sink : List ℕ) (Untouched : Type 0) (in_tells : Bool) (left : List ℕ) (ending : Option Ending) → Untouched → Leads does ending old new → Moves does old new reader reader out_tells sink sink Untouched in_tells left left ending
moves_at_once does old new reader out_tells sink Untouched in_tells left ending same step = record {
  kept = old.output;
  hands = ([], refl, λ t. sym (append-nil sink), λ none. same);
  taken = [];
  given = λ t. refl;
  uses = record { used = []; split = append-nil reader.held; before = omega arith };
  within = λ h. h;
  seen = λ t h. h;
  ended = λ e. e;
  quiet = λ e. refl;
  sent = inl refl;
  lines = record { lines = []; all = refl; whole = λ future e s. refl; counted = λ future e s. omega arith };
  usual = inr (record { near = λ h. h; quiet = λ none. refl });
  leads = λ future e s handed made.
      let led = step (record { items = items_left reader future e; handed = handed; made = made }) in
      (led.0, led.1 ∙ ap (λ h. next_of ending (state_of (record { items = items_left reader future e; handed = h; made = led.0 }) new)) (sym (append-nil handed)));
}

-- ---- a step that got its line
-- where only the end of the input is left no byte is
never_end : (t u : Bool) (text : List ℕ) (next : Items) → cond t items.Over (cond u (items.Line text next) (items.Bad next)) ≡ items.Eof → ⊥
never_end true u text next e = absurd (cc)
never_end false true text next e = absurd (cc)
never_end false false text next e = absurd (cc)

some_piece : (b : ℕ) (ps : List (List ℕ)) → before_pieces b ps ≡ [] → ⊥
some_piece b [] e = absurd (cc)
some_piece b (p ∷ ps) e = by (is_line_feed b) e
  where
    by : (t : Bool) → cond t ((b ∷ []) ∷ p ∷ ps) ((b ∷ p) ∷ ps) ≡ [] → ⊥
    by true e = absurd (cc)
    by false e = absurd (cc)

pub no_piece : (n : ℕ) (ps : List (List ℕ)) → lines_from n AtEof ps ≡ items.Eof → ps ≡ []
no_piece n [] e = refl
no_piece n (p ∷ ps) e = absurd (never_end _ _ _ _ e)

pub no_byte : (bytes : List ℕ) → pieces bytes ≡ [] → bytes ≡ []
no_byte [] e = refl
no_byte (b ∷ bytes) e = absurd (some_piece b (pieces bytes) e)

-- lines before the end of the input are not broken off, and where there is one there is a piece
no_broken : (t u : Bool) (text : List ℕ) (next : Items) → cond t items.Over (cond u (items.Line text next) (items.Bad next)) ≡ items.Broken → ⊥
no_broken true u text next e = absurd (cc)
no_broken false true text next e = absurd (cc)
no_broken false false text next e = absurd (cc)

pub never_broken : (n : ℕ) (ps : List (List ℕ)) → lines_from n AtEof ps ≡ items.Broken → ⊥
never_broken n [] e = absurd (cc)
never_broken n (p ∷ ps) e = no_broken _ _ _ _ e

pub some_line : (ps : List (List ℕ)) (n : ℕ) → 1 ≤ line_count (lines_from n AtEof ps) → (p : List ℕ) × ((rest : List (List ℕ)) × (ps ≡ p ∷ rest))
some_line [] n h = absurd (omega (arith, h))
some_line (p ∷ ps) n h = (p, (ps, refl))

-- the first piece goes as far as the bytes without a line feed, and further where bytes stand behind them
abbrev some_of : List ℕ → ℕ
some_of [] = 0
some_of (b ∷ bytes) = 1

first_some : (b : ℕ) (t : Bool) (qs : List (List ℕ)) (p : List ℕ) (ps : List (List ℕ)) → is_line_feed b ≡ t → before_pieces b qs ≡ p ∷ ps → 1 ≤ length p
first_some b t [] p ps i e = let first : b ∷ [] ≡ p = cc in omega (arith, ap length first)
first_some b true (q ∷ qs) p ps i e =
    let all : (b ∷ []) ∷ q ∷ qs ≡ p ∷ ps = rw i at e in
    let first : b ∷ [] ≡ p = cc in
    omega (arith, ap length first)
first_some b false (q ∷ qs) p ps i e =
    let all : (b ∷ q) ∷ qs ≡ p ∷ ps = rw i at e in
    let first : b ∷ q ≡ p = cc in
    omega (arith, ap length first)

piece_some : (bytes p : List ℕ) (ps : List (List ℕ)) → pieces bytes ≡ p ∷ ps → 1 ≤ length p
piece_some [] p ps e = absurd (cc)
piece_some (b ∷ bytes) p ps e = first_some b (is_line_feed b) (pieces bytes) p ps refl e

some_within : (tail : List ℕ) (p : List ℕ) (ps : List (List ℕ)) → pieces tail ≡ p ∷ ps → some_of tail ≤ length p
some_within [] p ps e = omega arith
some_within (b ∷ bytes) p ps e = piece_some (b ∷ bytes) p ps e

-- a byte before bytes whose first piece is known
first_longer : (b : ℕ) (text tail p : List ℕ) (ps qs : List (List ℕ)) → is_line_feed b ≡ false → pieces (text ++ tail) ≡ qs → before_pieces b qs ≡ p ∷ ps → ((r : List ℕ) (rs : List (List ℕ)) → pieces (text ++ tail) ≡ r ∷ rs → length text + some_of tail ≤ length r) → length (b ∷ text) + some_of tail ≤ length p
first_longer b text tail p ps [] n q e further =
    let nothing = no_byte (text ++ tail) q in
    let first : b ∷ [] ≡ p = cc in
    let no_text : length text ≡ 0 = ap length (no_front text tail nothing) in
    let no_tail : some_of tail ≡ 0 = ap some_of (no_rest text tail nothing) in
    omega (arith, ap length first, no_text, no_tail)
first_longer b text tail p ps (r ∷ rs) n q e further =
    let joined : (b ∷ r) ∷ rs ≡ p ∷ ps = sym (byte_before b r rs n) ∙ e in
    let first : b ∷ r ≡ p = cc in
    let long = further r rs q in
    omega (arith, ap length first, long)

pub first_long : (text tail p : List ℕ) (ps : List (List ℕ)) → list_any is_line_feed text ≡ false → pieces (text ++ tail) ≡ p ∷ ps → length text + some_of tail ≤ length p
first_long [] tail p ps n e = let some = some_within tail p ps e in omega (arith, some)
first_long (b ∷ text) tail p ps n e =
    let none = first_none (is_line_feed b) (list_any is_line_feed text) n in
    first_longer b text tail p ps (pieces (text ++ tail)) none.0 refl e (λ r rs q. first_long text tail r rs none.1 q)

pub less_than_read : (n text p : ℕ) (rest after : List ℕ) → length rest ≤ piece_size → text + some_of (rest ++ after) ≤ p → n ≡ text + length rest → n < p + piece_size
less_than_read n text p [] after near long size = omega (arith, long, size)
less_than_read n text p (b ∷ rest) after near long size = let far : text + 1 ≤ p = long in omega (arith, near, far, size)

-- the machine goes on behind a line that is there, and writes nothing
pub input_goes : (s : MachineState) (target : Option ℕ) (text : List ℕ) (next : Items) → (t : MachineState) × (applied true s target s.top.ledger [] (line_read (items.Line text next)) ≡ Goes t) × (t.items ≡ next) × (t.output ≡ s.output)
input_goes s None text next = (_, refl, refl, refl)
input_goes s (Some x) text next = (_, refl, refl, refl)

pub input_skips : (s : MachineState) (target : Option ℕ) (next : Items) → (t : MachineState) × (applied true s target s.top.ledger [] (line_read (items.Bad next)) ≡ Goes t) × (t.items ≡ next) × (t.output ≡ s.output)
input_skips s None next = (_, refl, refl, refl)
input_skips s (Some x) next = (_, refl, refl, refl)

-- the lines that were left, and those that are left behind an item
item_before : (item : Item) (reader reader' : ReaderState) (taken : List ℕ) → Answers item reader reader' taken → (future : List ℕ) (e : InputEnd) → Suits reader' future e → items_left reader (taken ++ future) e ≡ before item (items_left reader' future e)
item_before (Line text) reader reader' taken a future e s = a future e s
item_before Bad reader reader' taken a future e s = a future e s
item_before Eof reader reader' taken a future e s =
    let end = s a.0 in
    rw (end.0, end.1) (ap (λ c. items_left reader c AtEof) (append-nil taken) ∙ a.1)
item_before Over reader reader' taken a future e s = (a future e).0

item_behind : (item : Item) (reader reader' : ReaderState) (taken : List ℕ) → Answers item reader reader' taken → (future : List ℕ) (e : InputEnd) → Suits reader' future e → behind item (items_left reader' future e) ≡ items_left reader' future e
item_behind (Line text) reader reader' taken a future e s = refl
item_behind Bad reader reader' taken a future e s = refl
item_behind Eof reader reader' taken a future e s =
    let end = s a.0 in
    rw (end.0, end.1) (sym a.2)
item_behind Over reader reader' taken a future e s = sym (a future e).1

-- a line too far along ends the run
over_ends : (o : Option Ending) (s t : MachineState) → Ends (Ended source.Over) s ≡ next_of o t → o ≡ Some ending.Over
over_ends None s t e = absurd (cc)
over_ends (Some ending.Done) s t e = absurd (cc)
over_ends (Some (ending.Raised class text)) s t e = absurd (cc)
over_ends (Some ending.Cut) s t e = absurd (cc)
over_ends (Some ending.Over) s t e = refl
over_ends (Some (ending.Fault f)) s t e = absurd (cc)

-- the lines that an item uses: its own, or none
used_line : (reader reader' : ReaderState) (taken used : List ℕ) → ((future : List ℕ) (e : InputEnd) → Suits reader' future e → pieces (reader.held ++ (taken ++ future)) ≡ used ∷ pieces (reader'.held ++ future)) → ((future : List ℕ) (e : InputEnd) → Suits reader' future e → line_count (items_left reader (taken ++ future) e) ≡ 1 + line_count (items_left reader' future e)) → UsesLines reader reader' taken used
used_line reader reader' taken used cut count = record { lines = used ∷ []; all = sym (append-nil used); whole = cut; counted = count }

used_none : (reader reader' : ReaderState) (taken : List ℕ) (uses : Uses reader reader' taken) → uses.used ≡ [] → ((future : List ℕ) (e : InputEnd) → Suits reader' future e → line_count (items_left reader (taken ++ future) e) ≡ line_count (items_left reader' future e)) → UsesLines reader reader' taken uses.used
used_none reader reader' taken uses none count = record {
  lines = [];
  all = none;
  whole = λ future e s.
      ap pieces (sym (append_assoc reader.held taken future) ∙ ap (λ c. c ++ future) (uses.split ∙ ap (λ c. c ++ reader'.held) none));
  counted = λ future e s. omega (arith, count future e s);
}

uses_lines : (item : Item) (reader reader' : ReaderState) (taken : List ℕ) (found : Found item reader reader' taken) → UsesLines reader reader' taken found.uses.used
uses_lines (Line text) reader reader' taken found =
    used_line reader reader' taken found.uses.used found.cuts (λ future e s. omega (arith, ap line_count (found.lines future e s)))
uses_lines Bad reader reader' taken found =
    used_line reader reader' taken found.uses.used found.cuts (λ future e s. omega (arith, ap line_count (found.lines future e s)))
uses_lines Eof reader reader' taken found =
    used_none reader reader' taken found.uses found.cuts
    (λ future e s. ap line_count (item_before Eof reader reader' taken found.lines future e s) ∙ ap line_count (item_behind Eof reader reader' taken found.lines future e s))
uses_lines Over reader reader' taken found =
    used_none reader reader' taken found.uses found.cuts
    (λ future e s. ap line_count ((found.lines future e).0) ∙ sym (ap line_count ((found.lines future e).1)))

-- a line that is used has a byte
some_used : (reader reader' : ReaderState) (taken used : List ℕ) → ((future : List ℕ) (e : InputEnd) → Suits reader' future e → pieces (reader.held ++ (taken ++ future)) ≡ used ∷ pieces (reader'.held ++ future)) → used ≡ [] → taken ≡ []
some_used reader reader' taken used cut none =
    let some = piece_some (reader.held ++ (taken ++ [])) used (pieces (reader'.held ++ [])) (cut [] AtEof (λ e. (refl, refl))) in
    absurd (omega (arith, some, ap length none))

stays_near : (item : Item) (target : Option ℕ) (o : Option Ending) (mid new : Seen) (reader reader' : ReaderState) (taken : List ℕ) → Receives target item o mid new → (found : Found item reader reader' taken) → (o ≡ Some ending.Over) ⊎ StaysNear reader reader' taken found.uses.used
stays_near (Line text) target o mid new reader reader' taken receives found = inr (record { near = λ h. found.near; quiet = some_used reader reader' taken found.uses.used found.cuts })
stays_near Bad target o mid new reader reader' taken receives found = inr (record { near = λ h. found.near; quiet = some_used reader reader' taken found.uses.used found.cuts })
stays_near Eof target o mid new reader reader' taken receives found = inr (record {
  near = λ h. omega (arith, ap length found.near);
  quiet = λ none. no_rest reader.held taken (no_byte (reader.held ++ taken) (no_piece reader.before (pieces (reader.held ++ taken)) found.lines.1));
})
stays_near Over target o mid new reader reader' taken receives found =
    inl (over_ends o _ _ (receives (record { items = items.Eof; handed = []; made = [] })))

-- ---- what is written where a line is read: nothing
abbrev pub Unwritten : List ℕ → Next → Type 0
Unwritten output (Goes t) = t.output ≡ output
Unwritten output (Ends e t) = t.output ≡ output

input_unwritten : (s : MachineState) (target : Option ℕ) (i : Items) → Unwritten s.output (applied true s target s.top.ledger [] (line_read i))
input_unwritten s None items.Eof = refl
input_unwritten s (Some x) items.Eof = refl
input_unwritten s target items.Broken = refl
input_unwritten s target items.Over = refl
input_unwritten s None (items.Line text next) = refl
input_unwritten s (Some x) (items.Line text next) = refl
input_unwritten s None (items.Bad next) = refl
input_unwritten s (Some x) (items.Bad next) = refl

next_unwritten : (o : Option Ending) (output : List ℕ) (t : MachineState) → Unwritten output (next_of o t) → t.output ≡ output
next_unwritten None output t u = u
next_unwritten (Some e) output t u = u

-- a line that is there adds no output
received_output : (target : Option ℕ) (item : Item) (o : Option Ending) (mid new : Seen) → Receives target item o mid new → new.output ≡ mid.output
received_output target item o mid new receives =
    let rest : Rest = record { items = items.Eof; handed = []; made = [] } in
    let s = state_of (record rest { items = before item items.Eof }) mid in
    next_unwritten o mid.output (state_of (record rest { items = behind item items.Eof }) new)
    (subst (Unwritten mid.output) (receives rest) (input_unwritten s target s.items))

-- bytes are taken only where nothing is held then
sent_or_ready : (reader : ReaderState) (taken kept output : List ℕ) → (IsTrue (is_ready reader) → taken ≡ []) → (is_ready reader ≡ false → kept ≡ []) → output ≡ kept → (taken ≡ []) ⊎ (output ≡ [])
sent_or_ready reader taken kept output quiet emptied same = by (is_ready reader) refl
  where
    by : (t : Bool) → is_ready reader ≡ t → (taken ≡ []) ⊎ (output ≡ [])
    by true r = inl (quiet r)
    by false r = inr (same ∙ emptied r)

-- a reader that saw the end reads no more
ended_ready : (reader : ReaderState) → IsTrue reader.ended → IsTrue (is_ready reader)
ended_ready reader e = rw e (by (list_any is_line_feed reader.held) (nat_lt most_input (total_of reader)))
  where
    by : (any far : Bool) → (any || true || far) ≡ true
    by true far = refl
    by false far = refl

-- what was handed on before
handed_same : (old : Seen) (kept handed sent made : List ℕ) (lines : Items) → old.output ≡ sent ++ kept → state_of (record { items = lines; handed = handed; made = made }) old ≡ state_of (record { items = lines; handed = handed ++ sent; made = made }) (record old { output = kept })
handed_same old kept handed sent made lines e =
    ap (λ l. record (state_of (record { items = lines; handed = handed; made = made }) old) { output = l }) (ap (λ l. handed ++ l) e ∙ sym (append_assoc handed sent kept))

moves_from : (does : MachineState → Next) (old new : Seen) (target : Option ℕ) (item : Item) (reader reader' : ReaderState) (out_tells : Bool) (sink sink' : List ℕ) (Untouched : Type 0) (in_tells : Bool) (left left' kept : List ℕ) (o : Option Ending) → Asks does target old old → HandsOn out_tells sink sink' old.output kept Untouched → Takes reader in_tells left left' (Found item reader reader') → (IsTrue in_tells → EndIsSeen reader left → EndIsSeen reader' left') → (is_ready reader ≡ false → kept ≡ []) → Receives target item o (record old { output = kept }) new → Moves does old new reader reader' out_tells sink sink' Untouched in_tells left left' o
moves_from does old new target item reader reader' out_tells sink sink' Untouched in_tells left left' kept o asks hands takes seen emptied receives =
    let found = takes.outcome in
    record {
      kept = kept;
      hands = hands;
      taken = takes.taken;
      given = takes.given;
      uses = found.uses;
      within = λ h. omega (arith, found.total, takes.within);
      seen = seen;
      ended = found.ended;
      quiet = λ e. takes.quiet (ended_ready reader e);
      sent = sent_or_ready reader takes.taken kept new.output takes.quiet emptied (received_output target item o (record old { output = kept }) new receives);
      lines = uses_lines item reader reader' takes.taken found;
      usual = stays_near item target o (record old { output = kept }) new reader reader' takes.taken receives found;
      leads = λ future e s handed made. (
        made,
        asks.leads (record { items = items_left reader (takes.taken ++ future) e; handed = handed; made = made })
            ∙ ap (input_step target) (handed_same old kept handed hands.0 made (items_left reader (takes.taken ++ future) e) hands.1)
            ∙ ap (λ l. input_step target (state_of (record { items = l; handed = handed ++ hands.0; made = made }) (record old { output = kept }))) (item_before item reader reader' takes.taken found.lines future e s)
            ∙ receives (record { items = items_left reader' future e; handed = handed ++ hands.0; made = made })
            ∙ ap (λ l. next_of o (state_of (record { items = l; handed = handed ++ hands.0; made = made }) new)) (item_behind item reader reader' takes.taken found.lines future e s),
      );
    }

pub moves_on : (does : MachineState → Next) (old asked new : Seen) (target : Option ℕ) (item : Item) (reader reader' : ReaderState) (out_tells : Bool) (sink sink' : List ℕ) (Untouched : Type 0) (in_tells : Bool) (left left' kept : List ℕ) (o : Option Ending) → Asks does target old asked → HandsOn out_tells sink sink' asked.output kept Untouched → Takes reader in_tells left left' (Found item reader reader') → (IsTrue in_tells → EndIsSeen reader left → EndIsSeen reader' left') → (is_ready reader ≡ false → kept ≡ []) → Receives target item o (record asked { output = kept }) new → Moves does old new reader reader' out_tells sink sink' Untouched in_tells left left' o
moves_on does old asked new target item reader reader' out_tells sink sink' Untouched in_tells left left' kept o asks hands takes seen emptied receives =
    subst (λ s. Moves does s new reader reader' out_tells sink sink' Untouched in_tells left left' o) asks.same
    (moves_from does asked new target item reader reader' out_tells sink sink' Untouched in_tells left left' kept o (subst (λ s. Asks does target s asked) (sym asks.same) asks) hands takes seen emptied receives)

-- ---- a step that got no line
-- memory ran out where a line was asked for
stalls : (does : MachineState → Next) (old : Seen) (target : Option ℕ) (reader : ReaderState) (out_tells : Bool) (sink sink' : List ℕ) (Untouched : Type 0) (in_tells : Bool) (left left' : List ℕ) (P : List ℕ → Type 0) → Asks does target old old → HandsFront out_tells sink sink' old.output Untouched → Takes reader in_tells left left' P → ((taken : List ℕ) → P taken → IsForOneLine reader taken) → (is_ready reader ≡ false → HandsAll out_tells sink sink' old.output Untouched) → Stalls does old reader out_tells sink sink' Untouched in_tells left left'
stalls does old target reader out_tells sink sink' Untouched in_tells left left' P asks hands takes one all = record {
  hands = hands;
  takes = record { taken = takes.taken; given = takes.given; within = λ h. takes.within };
  why = by (is_ready reader) refl;
}
  where
    by : (t : Bool) → is_ready reader ≡ t → (takes.taken ≡ []) ⊎ ReadsOn does old reader out_tells sink sink' Untouched takes.taken
    by true r = inl (takes.quiet r)
    by false r = inr (record { hands = all r; target = target; asks = asks.leads; one = one takes.taken takes.outcome })

-- memory ran out where none was asked for
pub stalls_at_once : (does : MachineState → Next) (old : Seen) (reader : ReaderState) (out_tells : Bool) (sink : List ℕ) (Untouched : Type 0) (in_tells : Bool) (left : List ℕ) → Untouched → Stalls does old reader out_tells sink sink Untouched in_tells left left
stalls_at_once does old reader out_tells sink Untouched in_tells left same = record {
  hands = record { front = λ t. TakesFront-none sink sink old.output refl; alone = λ none. same };
  takes = record { taken = []; given = λ t. refl; within = λ h. omega (arith, h) };
  why = inl refl;
}

failed_from : (does : MachineState → Next) (old new : Seen) (target : Option ℕ) (reader reader' : ReaderState) (kept : List ℕ) (out_tells : Bool) (sink sink' : List ℕ) (Untouched : Type 0) (in_tells : Bool) (left left' : List ℕ) (e : Refusal) → Asks does target old old → Fetches reader reader' old.output kept out_tells sink sink' Untouched in_tells left left' (Err e) → Advances does old new reader reader' out_tells sink sink' Untouched in_tells left left' (Err e)
failed_from does old new target reader reader' kept out_tells sink sink' Untouched in_tells left left' InputFault asks fetches = record {
  hands = fetches.0;
  takes = fetches.1;
  unready = fetches.2;
  stops = λ handed made. asks.leads (record { items = items.Broken; handed = handed; made = made });
}
failed_from does old new target reader reader' kept out_tells sink sink' Untouched in_tells left left' WriteFault asks fetches = fetches
failed_from does old new target reader reader' kept out_tells sink sink' Untouched in_tells left left' Memory asks fetches =
    stalls does old target reader out_tells sink sink' Untouched in_tells left left' (IsForOneLine reader) asks fetches.0 fetches.1 (λ taken one. one) fetches.2

pub advance_failed : (does : MachineState → Next) (old asked new : Seen) (target : Option ℕ) (reader reader' : ReaderState) (kept : List ℕ) (out_tells : Bool) (sink sink' : List ℕ) (Untouched : Type 0) (in_tells : Bool) (left left' : List ℕ) (e : Refusal) → Asks does target old asked → Fetches reader reader' asked.output kept out_tells sink sink' Untouched in_tells left left' (Err e) → Advances does old new reader reader' out_tells sink sink' Untouched in_tells left left' (Err e)
advance_failed does old asked new target reader reader' kept out_tells sink sink' Untouched in_tells left left' e asks fetches =
    subst (λ s. Advances does s new reader reader' out_tells sink sink' Untouched in_tells left left' (Err e)) asks.same
    (failed_from does asked new target reader reader' kept out_tells sink sink' Untouched in_tells left left' e (subst (λ s. Asks does target s asked) (sym asks.same) asks) fetches)

-- a line came, and there was no memory for it
pub receive_refused : (does : MachineState → Next) (old asked new : Seen) (target : Option ℕ) (item : Item) (reader reader' : ReaderState) (kept : List ℕ) (out_tells : Bool) (sink sink' : List ℕ) (Untouched : Type 0) (in_tells : Bool) (left left' : List ℕ) → Asks does target old asked → HandsOn out_tells sink sink' asked.output kept Untouched → Takes reader in_tells left left' (Found item reader reader') → (is_ready reader ≡ false → kept ≡ []) → Advances does old new reader reader' out_tells sink sink' Untouched in_tells left left' (Err Memory)
receive_refused does old asked new target item reader reader' kept out_tells sink sink' Untouched in_tells left left' asks hands takes emptied =
    subst (λ s. Advances does s new reader reader' out_tells sink sink' Untouched in_tells left left' (Err Memory)) asks.same
    (stalls does asked target reader out_tells sink sink' Untouched in_tells left left' (Found item reader reader') (subst (λ s. Asks does target s asked) (sym asks.same) asks)
    (hands_front out_tells sink sink' asked.output kept Untouched hands) takes (λ taken found. found.one)
    (λ wait. hands_all out_tells sink sink' asked.output kept Untouched hands (emptied wait)))
