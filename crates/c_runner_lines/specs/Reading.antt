-- What a call of `next` finds, told by the lines of the whole input (`Items` of value_core). Which bytes follow those that were read is not known
-- when a line is answered, so it is told of all that may follow.
use Rattle.std.specs.Prelude.{◌≡◌, ◌<◌, ◌≤◌, ℕ, ◌+◌, Bool, false, ◌||◌, nat_lt, List, [], ◌∷◌, ◌++◌, length, Result, Ok, Err, IsTrue}
use Rattle.std.specs.List.{list_any}
use Rattle.outside_core.specs.Counts.{one_more}
use Rattle.value_core.specs.Items.{Items, InputEnd, AtEof, AtFailure, Broken, most_input, is_line_feed, pieces, lines_from}
use Rattle.value_core.specs.Items as items
use Rattle.c_runner_lines.specs.declared.item.Item.{Item}
use Rattle.c_runner_lines.specs.declared.item.Item.TheVariants.{Line, Bad, Eof, Over}
use Rattle.c_runner_lines.specs.declared.read_fault.ReadFault.{ReadFault}
use Rattle.c_runner_lines.specs.declared.read_fault.ReadFault.TheVariants.{Failed, Memory}
use Rattle.c_runner_lines.specs.ReaderState.{ReaderState, total_of}
use Rattle.c_runner_lines.specs.Held.{most_read, piece_size}

-- the lines that are left for a reader, where these bytes follow those that it has, and the input then ends so
abbrev pub items_left : ReaderState → List ℕ → InputEnd → Items
items_left r future e = lines_from r.before e (pieces (r.held ++ future))

-- what may follow a reader: where it saw the end, nothing does
abbrev pub Suits : ReaderState → List ℕ → InputEnd → Type 0
Suits r future e = IsTrue r.ended → (future ≡ []) × (e ≡ AtEof)

-- whether a reader answers without reading: a whole line is held, the end was seen, or more bytes were read than may be used
abbrev pub is_ready : ReaderState → Bool
is_ready r = list_any is_line_feed r.held || r.ended || nat_lt most_input (total_of r)

-- what an answer says of the lines that were left, where these bytes were taken of the input, and of those that are left then
abbrev pub Answers : Item → ReaderState → ReaderState → List ℕ → Type 0
Answers (Line text) old new taken = (future : List ℕ) (e : InputEnd) → Suits new future e → items_left old (taken ++ future) e ≡ items.Line text (items_left new future e)
Answers Bad old new taken = (future : List ℕ) (e : InputEnd) → Suits new future e → items_left old (taken ++ future) e ≡ items.Bad (items_left new future e)
Answers Eof old new taken = IsTrue new.ended × (items_left old taken AtEof ≡ items.Eof) × (items_left new [] AtEof ≡ items.Eof)
Answers Over old new taken = (future : List ℕ) (e : InputEnd) → (items_left old (taken ++ future) e ≡ items.Over) × (items_left new future e ≡ items.Over)

-- what was taken is for the first line that was left: its bytes have no line feed, or no more stand from the first one on than one read gives
pub record IsForOneLine (old : ReaderState) (taken : List ℕ) : Type 0 where
  pub text : List ℕ
  pub rest : List ℕ
  pub split : old.held ++ taken ≡ text ++ rest
  pub none : list_any is_line_feed text ≡ false
  pub near : length rest ≤ piece_size

-- what a refusal says: where a read failed, the input ends so and no line is left; where memory ran out, it was read for one line
abbrev pub Refuses : ReadFault → ReaderState → List ℕ → Type 0
Refuses Failed old taken = items_left old taken AtFailure ≡ Broken
Refuses Memory old taken = IsForOneLine old taken

-- how far was read beyond what an answer used: a line has less than one read behind it, the end nothing, and where there are too many
-- bytes exactly one of those was read
abbrev pub ReadsNear : Item → ReaderState → Type 0
ReadsNear (Line text) new = length new.held < piece_size
ReadsNear Bad new = length new.held < piece_size
ReadsNear Eof new = new.held ≡ []
ReadsNear Over new = total_of new ≡ most_read

-- of the bytes that were held and those that were taken the first ones are used, and the others are held
pub record Uses (old new : ReaderState) (taken : List ℕ) : Type 0 where
  pub used : List ℕ
  pub split : old.held ++ taken ≡ used ++ new.held
  pub before : new.before ≡ old.before + length used

-- the bytes that are used are the first piece of all that were left: a line is used whole, and with nothing else; otherwise nothing is used
abbrev pub Cuts : Item → ReaderState → ReaderState → List ℕ → List ℕ → Type 0
Cuts (Line text) old new taken used = (future : List ℕ) (e : InputEnd) → Suits new future e → pieces (old.held ++ (taken ++ future)) ≡ used ∷ pieces (new.held ++ future)
Cuts Bad old new taken used = (future : List ℕ) (e : InputEnd) → Suits new future e → pieces (old.held ++ (taken ++ future)) ≡ used ∷ pieces (new.held ++ future)
Cuts Eof old new taken used = used ≡ []
Cuts Over old new taken used = used ≡ []

-- an item that is found: what it says of lines, how far was read, and what is used. What was read is used or held, it was read for one
-- line, and an end that was seen stays so
pub record Found (item : Item) (old new : ReaderState) (taken : List ℕ) : Type 0 where
  pub lines : Answers item old new taken
  pub near : ReadsNear item new
  pub uses : Uses old new taken
  pub cuts : Cuts item old new taken uses.used
  pub one : IsForOneLine old taken
  pub total : total_of new ≡ total_of old + length taken
  pub ended : IsTrue old.ended → IsTrue new.ended

-- what was taken of an input that has these bytes left before and after: no more than may be read, and nothing where the reader could answer without it.
-- The rest of what is known of the bytes is `Outcome`
pub record Takes (old : ReaderState) (tells : Bool) (left left' : List ℕ) (Outcome : List ℕ → Type 0) : Type 0 where
  pub taken : List ℕ
  pub given : IsTrue tells → left ≡ taken ++ left'
  pub within : total_of old + length taken ≤ most_read
  pub quiet : IsTrue (is_ready old) → taken ≡ []
  pub outcome : Outcome taken

-- of an input that tells its bytes: where the reader saw the end, none is left
abbrev pub EndIsSeen : ReaderState → List ℕ → Type 0
EndIsSeen r left = IsTrue r.ended → left ≡ []

-- a count of faults after a call: a read that failed is counted once, and nothing else is
abbrev pub count_after_next : {T : Type 0} → Result T ReadFault → ℕ → ℕ
count_after_next (Ok x) n = n
count_after_next (Err Failed) n = one_more n
count_after_next (Err Memory) n = n
