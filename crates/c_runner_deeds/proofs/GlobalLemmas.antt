-- Globals: what reads and writes of them are at the runner's states.
use Rattle.std.proofs.Common.{◌≡◌, refl, sym, ap, ◌∙◌, ℕ, zero, suc, ◌+◌, arith, Bool, true, false, cond, List, [], ◌∷◌, ◌++◌, length, eqb, Option, Some, None, ◌⊎◌, inl, inr}
use Rattle.std.specs.Prelude.{map, is_some, nat_lt, slice_get, slice_set, Result, Ok, Err, IfOk}
use Rattle.std.specs.List.{position_or_len}
use Rattle.std.specs.Option.{option_map, option_and_then}
use Rattle.std.specs.Str.{bytes_eq}
use Rattle.std.proofs.lemmas.Bool.Decides.{nat_tests}
use Rattle.std.proofs.lemmas.List.{map-set}
use Rattle.std.proofs.lemmas.List.Folds.{find_at}
use Rattle.std.proofs.lemmas.Option.{slice_get-map, slice_get_past}
use Rattle.c_core.specs.declared.code.CArg.{CArg}
use Rattle.c_core.specs.declared.code.CArg.TheVariants as arg
use Rattle.c_core.specs.declared.code.Code.{Code}
use Rattle.c_core.specs.declared.code.Kind.{Kind}
use Rattle.c_core.specs.declared.code.Kind.TheVariants.{Tagged, Int64, Char, Object}
use Rattle.c_core.specs.declared.fault.Fault.{Fault}
use Rattle.c_core.specs.declared.fault.Fault.TheVariants as fault
use Rattle.c_core.specs.declared.primitive.Primitive.TheVariants as prim
use Rattle.c_core.specs.declared.primitive.GlobalPrim.TheVariants as global
use Rattle.c_core.specs.Arguments.{Argument, Cell, Written, is_value_of, is_holding, kind_of_global, number_of_global, kind_found, word_in, stolen}
use Rattle.c_core.specs.Cells as machine_cell
use Rattle.c_core.specs.Functions.{error_word}
use Rattle.value_core.specs.declared.exception.ExcClass.TheVariants.{NameError}
use Rattle.value_core.specs.Exceptions.{thrown}
use Rattle.c_core.specs.Cells.{Cells, times, content_at, change, raised, lowered, take_one}
use Rattle.c_core.specs.Ledgers.{Ledger, more_of, without}
use Rattle.c_core.specs.Machine as machine
use Rattle.c_core.specs.Machine.{ShortInt, BigInt, TaggedError, Native, CharWord, ObjectCell, NoneObject, TrueObject, FalseObject, NoObject, Content, MachineState, refs_of, refs_in, set_refs}
use Rattle.c_core.specs.Primitives.{KindAt, OfGlobal, Holding, Anything, Steals, MaySteal, row_of}
use Rattle.c_core.specs.Release.{after, freed, weight, release, release_some}
use Rattle.c_core.specs.Step as step
use Rattle.c_core.specs.Step.{Next, Goes, Ends, Faulted, Wrong, Shares, if_some, if_true, if_there, if_any, if_taken, if_stolen, word_of, faulted, global_at, got, set_to, with_cells, applied, primitive_step, shared, next_line}
use Rattle.c_core.proofs.ReleaseLemmas.{release-nothing}
use Rattle.c_runner_deeds.specs.declared.ending.Ending.{Ending}
use Rattle.c_runner_deeds.specs.declared.state.Frame.{Frame}
use Rattle.c_runner_deeds.specs.Parts.{if_argument, is_there, global_set, with_taken, cell_argument, argument_of, is_owned, left_by, stolen_or, global_of}
use Rattle.c_runner_deeds.specs.States.{Seen, Rest, Follows, held_of, state_of, with_target}
use Rattle.slot_arena.specs.declared.key.Key.{Key}
use Rattle.cell_heap.specs.declared.word.Word.{Word}
use Rattle.cell_heap.specs.declared.word.Word.TheVariants as heap
use Rattle.cell_heap.specs.Contents as contents
use Rattle.c_runner_deeds.proofs.FrameLemmas.{target_set}

-- ---- cells that are gone
module _ {X : Type 0} where
  change_gone : (f : Option (machine_cell.Cell X) → Option (machine_cell.Cell X)) → f None ≡ None → (cells : Cells X) (c : ℕ) → is_some (content_at cells c) ≡ false → change f c cells ≡ cells
  change_gone f e [] c gone = refl
  change_gone f e (None ∷ cells) zero gone = ap (λ o. o ∷ cells) e
  change_gone f e (Some cell ∷ cells) zero gone = absurd (cc)
  change_gone f e (o ∷ cells) (suc c) gone = ap (λ rest. o ∷ rest) (change_gone f e cells c gone)

  freed_gone : (refs_in : X → List ℕ) (cells : Cells X) (c : ℕ) → is_some (content_at cells c) ≡ false → freed refs_in c cells ≡ []
  freed_gone refs_in [] c gone = refl
  freed_gone refs_in (None ∷ cells) zero gone = refl
  freed_gone refs_in (Some cell ∷ cells) zero gone = absurd (cc)
  freed_gone refs_in (o ∷ cells) (suc c) gone = freed_gone refs_in cells c gone

  nothing_released : (refs_in : X → List ℕ) (n : ℕ) (cells : Cells X) → release_some refs_in n cells [] ≡ cells
  nothing_released refs_in zero cells = refl
  nothing_released refs_in (suc n) cells = refl

pub take_gone : (cells : Cells Content) (c : ℕ) → is_some (content_at cells c) ≡ false → take_one c cells ≡ cells
take_gone cells c gone = change_gone raised refl cells c gone

pub release_gone : (cells : Cells Content) (c : ℕ) → is_some (content_at cells c) ≡ false → release refs_in cells (c ∷ []) ≡ cells
release_gone cells c gone =
    let bound : length (c ∷ []) + weight refs_in cells ≡ suc (weight refs_in cells) = omega arith in
    ap (λ n. release_some refs_in n cells (c ∷ [])) bound
    ∙ ap (λ refs. release_some refs_in (weight refs_in cells) (after c cells) (refs ++ [])) (freed_gone refs_in cells c gone)
    ∙ nothing_released refs_in (weight refs_in cells) (after c cells)
    ∙ change_gone lowered refl cells c gone

-- a word with a cell of this key
abbrev pub HasKey : Word → Key → Type 0
HasKey w key = (w ≡ heap.Big key) ⊎ (w ≡ heap.Cell key)

pub take_dead : (cells later : Cells Content) (w : Word) (key : Key) → HasKey w key → false ≡ is_some (content_at cells (contents.number_of key)) → later ≡ cells → later ≡ with_taken (contents.word_of w) cells
take_dead cells later w key (inl e) gone same = same ∙ sym (ap (λ v. with_taken (contents.word_of v) cells) e ∙ take_gone cells (contents.number_of key) (sym gone))
take_dead cells later w key (inr e) gone same = same ∙ sym (ap (λ v. with_taken (contents.word_of v) cells) e ∙ take_gone cells (contents.number_of key) (sym gone))

pub give_dead : (cells later : Cells Content) (o : Option Word) (w : Word) (key : Key) → o ≡ Some w → HasKey w key → false ≡ is_some (content_at cells (contents.number_of key)) → later ≡ cells → later ≡ release refs_in cells (set_refs (held_of o ∷ []))
give_dead cells later o w key some (inl e) gone same = same ∙ sym (ap (λ p. release refs_in cells (set_refs (held_of p ∷ []))) (some ∙ ap Some e) ∙ release_gone cells (contents.number_of key) (sym gone))
give_dead cells later o w key some (inr e) gone same = same ∙ sym (ap (λ p. release refs_in cells (set_refs (held_of p ∷ []))) (some ∙ ap Some e) ∙ release_gone cells (contents.number_of key) (sym gone))

-- ---- the kind of a global by its number
kind_either : (b : Bool) (globals : List (List ℕ × Kind)) (n : ℕ) → nat_lt n (length globals) ≡ b → slice_get globals n ≡ option_and_then (slice_get globals) (cond b (Some n) None)
kind_either true globals n e = refl
kind_either false globals n e = slice_get_past globals n (grind (arith, nat_tests, e))

pub kind_by_number : (code : Code) (name : List ℕ) → kind_of_global code name ≡ option_map (λ g. g.1) (option_and_then (slice_get code.globals) (number_of_global code name))
kind_by_number code name =
    let n = position_or_len (λ g. bytes_eq name g.0) code.globals in
    ap (option_map (λ g. g.1)) (find_at (λ g. bytes_eq name g.0) code.globals ∙ kind_either (nat_lt n (length code.globals)) code.globals n refl)

pub kind_is : (code : Code) (name : List ℕ) (n : ℕ) (g : List ℕ × Kind) → Some n ≡ number_of_global code name → Some g ≡ slice_get code.globals n → kind_of_global code name ≡ Some g.1
kind_is code name n g e is =
    kind_by_number code name ∙ ap (λ o. option_map (λ h. h.1) (option_and_then (slice_get code.globals) o)) (sym e) ∙ ap (option_map (λ h. h.1)) (sym is)

-- what a global holds, by its number
pub held_is : (rest : Rest) (old : Seen) (code : Code) (name : List ℕ) (n : ℕ) (o : Option (Option Word)) → Some n ≡ number_of_global code name → o ≡ slice_get old.globals n → global_at code (state_of rest old) name ≡ option_map held_of o
held_is rest old code name n o e is =
    ap (option_and_then (slice_get (map held_of old.globals))) (sym e) ∙ slice_get-map held_of old.globals n ∙ ap (option_map held_of) (sym is)

-- ---- a word whose reference is taken
shared_is : (rest : Rest) (old : Seen) (w : machine.Word) → shared w (state_of rest old) ≡ state_of rest (record old { cells = with_taken w old.cells; top = record old.top { ledger = more_of (refs_of w) old.top.ledger } })
shared_is rest old (BigInt c) = refl
shared_is rest old (ObjectCell c) = refl
shared_is rest old (ShortInt n) = refl
shared_is rest old TaggedError = refl
shared_is rest old (Native n) = refl
shared_is rest old (CharWord n) = refl
shared_is rest old NoneObject = refl
shared_is rest old TrueObject = refl
shared_is rest old FalseObject = refl
shared_is rest old NoObject = refl

pub word_shared : (rest : Rest) (old : Seen) (target : Option ℕ) (w : Word) (cells : Cells Content) (owner top : Frame) → cells ≡ with_taken (contents.word_of w) old.cells → owner ≡ record old.top { ledger = more_of (refs_of (contents.word_of w)) old.top.ledger } → top ≡ with_target target w owner → applied true (state_of rest old) target old.top.ledger [] (Shares (contents.word_of w)) ≡ Goes (state_of rest (record old { cells = cells; top = record top { place = top.place + 1 } }))
word_shared rest old target w cells owner top cells_is owner_is top_is =
    let v = contents.word_of w in
    let made : Seen = record old { cells = with_taken v old.cells; top = record old.top { ledger = more_of (refs_of v) old.top.ledger } } in
    let taken = shared v (state_of rest old) in
    ap (λ cs. Goes (next_line (step.with_target target v (with_cells cs taken)))) (release-nothing refs_in taken.cells)
    ∙ ap (λ t. Goes (next_line (step.with_target target v t))) (shared_is rest old v)
    ∙ ap (λ t. Goes (next_line t)) (target_set rest made target w)
    ∙ sym (ap (λ cs. Goes (state_of rest (record old { cells = cs; top = record top { place = top.place + 1 } }))) cells_is
    ∙ ap (λ f. Goes (state_of rest (record made { top = record f { place = f.place + 1 } }))) (top_is ∙ ap (with_target target w) owner_is))

pub held_shared : (rest : Rest) (old : Seen) (code : Code) (name : List ℕ) (target : Option ℕ) (n : ℕ) (g : List ℕ × Kind) (w : Word) (next : Next) → Some n ≡ number_of_global code name → Some g ≡ slice_get code.globals n → Some (Some w) ≡ slice_get old.globals n → applied true (state_of rest old) target old.top.ledger [] (Shares (contents.word_of w)) ≡ next → applied true (state_of rest old) target old.top.ledger [] (got name (kind_of_global code name) (global_at code (state_of rest old) name)) ≡ next
held_shared rest old code name target n g w next e is held last =
    ap (λ k. applied true (state_of rest old) target old.top.ledger [] (got name k (global_at code (state_of rest old) name))) (kind_is code name n g e is)
    ∙ ap (λ o. applied true (state_of rest old) target old.top.ledger [] (got name (Some g.1) o)) (held_is rest old code name n (Some (Some w)) e held)
    ∙ last

pub none_held : (rest : Rest) (old : Seen) (code : Code) (name : List ℕ) (target : Option ℕ) (n : ℕ) (g : List ℕ × Kind) (w : machine.Word) (t : List ℕ) (next : Next) → Some n ≡ number_of_global code name → Some g ≡ slice_get code.globals n → Some None ≡ slice_get old.globals n → w ≡ error_word g.1 → t ≡ (step.not_defined name).text → applied true (state_of rest old) target old.top.ledger [] (step.Fails w (thrown NameError t)) ≡ next → applied true (state_of rest old) target old.top.ledger [] (got name (kind_of_global code name) (global_at code (state_of rest old) name)) ≡ next
none_held rest old code name target n g w t next e is held word_is text_is last =
    ap (λ k. applied true (state_of rest old) target old.top.ledger [] (got name k (global_at code (state_of rest old) name))) (kind_is code name n g e is)
    ∙ ap (λ o. applied true (state_of rest old) target old.top.ledger [] (got name (Some g.1) o)) (held_is rest old code name n (Some None) e held)
    ∙ ap (λ v. applied true (state_of rest old) target old.top.ledger [] (step.Fails v (step.not_defined name))) (sym word_is)
    ∙ ap (λ u. applied true (state_of rest old) target old.top.ledger [] (step.Fails w (thrown NameError u))) (sym text_is)
    ∙ last

-- the same for what a call answers
pub shares_held : {E : Type 0} (old new : Seen) (code : Code) (name : List ℕ) (target : Option ℕ) (n : ℕ) (g : List ℕ × Kind) (w : Word) (r : Result (Option Ending) E) → Some n ≡ number_of_global code name → Some g ≡ slice_get code.globals n → Some (Some w) ≡ slice_get old.globals n → IfOk r (λ ending. Follows (λ s. applied true s target s.top.ledger [] (Shares (contents.word_of w))) ending old new) → IfOk r (λ ending. Follows (λ s. applied true s target s.top.ledger [] (got name (kind_of_global code name) (global_at code s name))) ending old new)
shares_held old new code name target n g w (Ok ending) e is held h = λ rest. held_shared rest old code name target n g w _ e is held (h rest)
shares_held old new code name target n g w (Err failed) e is held h = tt

pub fails_unheld : {E : Type 0} (old new : Seen) (code : Code) (name : List ℕ) (target : Option ℕ) (n : ℕ) (g : List ℕ × Kind) (w : machine.Word) (text : List ℕ) (r : Result (Option Ending) E) → Some n ≡ number_of_global code name → Some g ≡ slice_get code.globals n → Some None ≡ slice_get old.globals n → w ≡ error_word g.1 → text ≡ (step.not_defined name).text → IfOk r (λ ending. Follows (λ s. applied true s target s.top.ledger [] (step.Fails w (thrown NameError text))) ending old new) → IfOk r (λ ending. Follows (λ s. applied true s target s.top.ledger [] (got name (kind_of_global code name) (global_at code s name))) ending old new)
fails_unheld old new code name target n g w text (Ok ending) e is held word_is text_is h = λ rest. none_held rest old code name target n g w text _ e is held word_is text_is (h rest)
fails_unheld old new code name target n g w text (Err failed) e is held word_is text_is h = tt

-- ---- a write
pub store_is : (rest : Rest) (old : Seen) (n : ℕ) (held word : Option Word) (cells : Cells Content) (globals : List (Option Word)) → globals ≡ slice_set old.globals n word → cells ≡ release refs_in old.cells (set_refs (held_of held ∷ [])) → state_of rest (record old { cells = cells; globals = globals; top = record old.top { place = old.top.place + 1 } }) ≡ next_line (step.given true (state_of rest old) (set_refs (held_of held ∷ [])) (record (state_of rest old) { globals = slice_set (state_of rest old).globals n (held_of word) }))
store_is rest old n held word cells globals globals_is cells_is =
    let with : Cells Content → List (Option machine.Word) → MachineState = λ cs gs. next_line (record (state_of rest old) { cells = cs; globals = gs }) in
    ap (λ cs. with cs (map held_of globals)) cells_is
    ∙ ap (with (release refs_in old.cells (set_refs (held_of held ∷ [])))) (ap (map held_of) globals_is ∙ map-set held_of old.globals n word)

-- the reference of a word leaves a ledger
module _ (s : MachineState) where
  abbrev pub if_lost : machine.Word → Ledger → (Ledger → Next) → Next
  if_lost (BigInt c) l go = if_taken true s c l go
  if_lost (ObjectCell c) l go = if_taken true s c l go
  if_lost w l go = go l

  cell_lost : (h : Holding) (c : ℕ) (o : Option Content) (l : Ledger) (go : Argument → Ledger → Next) → if_some true s fault.Dead o (λ content. if_true true s (is_holding h (Cell c content)) (if_taken true s c l (go (Cell c content)))) ≡ if_some true s fault.Dead o (λ content. if_true true s (is_holding h (cell_argument c o)) (if_taken true s c l (go (cell_argument c o))))
  cell_lost h c None l go = refl
  cell_lost h c (Some content) l go = refl

  there_lost : (h : Holding) (w : machine.Word) (l : Ledger) (go : Argument → Ledger → Next) → if_there true s w (λ a. if_true true s (is_holding h a) (if_stolen true s a l (go a))) ≡ if_there true s w (λ a. if_true true s (is_holding h (argument_of s.cells w)) (if_lost w l (go (argument_of s.cells w))))
  there_lost h (BigInt c) l go = cell_lost h c (content_at s.cells c) l go
  there_lost h (ObjectCell c) l go = cell_lost h c (content_at s.cells c) l go
  there_lost h _ l go = refl

  some_alike : {A : Type 0} (f : Fault) (o : Option A) (go to : A → Next) → ((a : A) → go a ≡ to a) → if_some true s f o go ≡ if_some true s f o to
  some_alike f None go to e = refl
  some_alike f (Some a) go to e = e a

  -- an argument that is stolen, by its word
  pub steals : (code : Code) (k : Kind) (place : KindAt) (h : Holding) (a : CArg) (earlier : List Argument) (l : Ledger) (go : Argument → Ledger → Next) → kind_found code place earlier ≡ Some k → step.if_argument true s code (Steals place h) a earlier l go ≡ if_argument s k a (λ w. if_true true s (is_holding h (argument_of s.cells w)) (if_lost w l (go (argument_of s.cells w))))
  steals code k place h (arg.Var x) earlier l go e =
      ap (λ o. if_some true s fault.Kind o (λ kind. step.if_variable true s kind h x (λ a. if_stolen true s a l (go a)))) e
      ∙ some_alike fault.Kind (slice_get s.top.vars x) _ _ (λ w. ap (if_true true s (is_value_of k w)) (there_lost h w l go))
  steals code k place h _ earlier l go e = refl

  -- one that may be missing is stolen alike
  pub may_steal : (code : Code) (place : KindAt) (h : Holding) (a : CArg) (earlier : List Argument) (l : Ledger) (go : Argument → Ledger → Next) → step.if_argument true s code (MaySteal place h) a earlier l go ≡ step.if_argument true s code (Steals place h) a earlier l go
  may_steal code place h (arg.Var x) earlier l go = refl
  may_steal code place h _ earlier l go = refl

  -- a reference that the frame owns, and one that it does not own
  any_owned : (n : ℕ) (go : Next) → nat_lt 0 n ≡ true → if_any true s n go ≡ go
  any_owned zero go e = absurd (grind (arith, nat_tests, e))
  any_owned (suc n) go e = refl

  none_owned : (n : ℕ) (go : Next) → nat_lt 0 n ≡ false → if_any true s n go ≡ Ends (Faulted fault.NotOwned) s
  none_owned zero go e = refl
  none_owned (suc n) go e = absurd (grind (arith, nat_tests, e))

  pub taken_is : (c : ℕ) (l : Ledger) (go : Ledger → Next) → nat_lt 0 (times l c) ≡ true → if_taken true s c l go ≡ go (without c l)
  taken_is c l go e = any_owned (times l c) (go (without c l)) e

  pub not_taken : (c : ℕ) (l : Ledger) (go : Ledger → Next) → nat_lt 0 (times l c) ≡ false → if_taken true s c l go ≡ Ends (Faulted fault.NotOwned) s
  not_taken c l go e = none_owned (times l c) (go (without c l)) e

  -- the tests of a reference that leaves, by whether it is owned
  pub word_lost : (w : machine.Word) (l : Ledger) (go : Ledger → Next) → is_owned w l ≡ true → if_lost w l go ≡ go (left_by w l)
  word_lost (BigInt c) l go owned = taken_is c l go owned
  word_lost (ObjectCell c) l go owned = taken_is c l go owned
  word_lost (ShortInt n) l go owned = refl
  word_lost TaggedError l go owned = refl
  word_lost (Native n) l go owned = refl
  word_lost (CharWord n) l go owned = refl
  word_lost NoneObject l go owned = refl
  word_lost TrueObject l go owned = refl
  word_lost FalseObject l go owned = refl
  word_lost NoObject l go owned = refl

  pub word_kept : (w : machine.Word) (l : Ledger) (go : Ledger → Next) → is_owned w l ≡ false → if_lost w l go ≡ Ends (Faulted fault.NotOwned) s
  word_kept (BigInt c) l go none = not_taken c l go none
  word_kept (ObjectCell c) l go none = not_taken c l go none
  word_kept _ l go none = absurd (cc)

-- a word that may be stolen is that of its argument
cell_word : (o : Option Content) (c : ℕ) (k : Kind) (w : machine.Word) → is_some o ≡ true → ((content : Content) → word_in k (Cell c content) ≡ Some w) → word_in k (cell_argument c o) ≡ Some w
cell_word None c k w there all = absurd (cc)
cell_word (Some content) c k w there all = all content

pub word_is : (cells : Cells Content) (k : Kind) (w : machine.Word) → is_value_of k w ≡ true → is_there cells w ≡ true → word_in k (argument_of cells w) ≡ Some w
word_is cells Tagged (BigInt c) value there = cell_word (content_at cells c) c Tagged (BigInt c) there (λ content. refl)
word_is cells Object (ObjectCell c) value there = cell_word (content_at cells c) c Object (ObjectCell c) there (λ content. refl)
word_is cells Tagged (ShortInt n) value there = refl
word_is cells Int64 (Native n) value there = refl
word_is cells Char (CharWord n) value there = refl
word_is cells Object NoneObject value there = refl
word_is cells Object TrueObject value there = refl
word_is cells Object FalseObject value there = refl
word_is cells _ _ value there = absurd (cc)

-- ---- steps
no_word : (n : Option ℕ) (o : Option machine.Word) → set_to n None o ≡ Wrong
no_word n None = refl
no_word None (Some w) = refl
no_word (Some n) (Some w) = refl

choice_alike : {A : Type 0} (b : Bool) (x : A) → cond b x x ≡ x
choice_alike true x = refl
choice_alike false x = refl

module _ (s : MachineState) (code : Code) (target : Option ℕ) where
  same_global : (first : CArg) (more : List CArg) → global_of code (first ∷ more) ≡ global_of code (first ∷ [])
  same_global (arg.Var x) more = refl
  same_global (arg.Number n) more = refl
  same_global (arg.Text text) more = refl
  same_global (arg.Global name) more = refl
  same_global (arg.Class name) more = refl

  set_two : (first b : CArg) → primitive_step true s code target (first ∷ b ∷ []) (prim.Global global.Set) ≡ global_set code target first b true s
  set_two (arg.Var x) b = refl
  set_two (arg.Number n) b = refl
  set_two (arg.Text text) b = refl
  set_two (arg.Global name) b = refl
  set_two (arg.Class name) b = refl

  set_more : (first b c : CArg) (more : List CArg) → primitive_step true s code target (first ∷ b ∷ c ∷ more) (prim.Global global.Set) ≡ global_set code target first b false s
  set_more (arg.Var x) b c more = refl
  set_more (arg.Number n) b c more = refl
  set_more (arg.Text text) b c more = refl
  set_more (arg.Global name) b c more = refl
  set_more (arg.Class name) b c more = refl

  pub set_step : (args : List CArg) (a : CArg) (alone : Bool) → slice_get args 1 ≡ Some a → alone ≡ eqb (length args) 2 → (first : CArg) × ((global_of code args ≡ global_of code (first ∷ [])) × (primitive_step true s code target args (prim.Global global.Set) ≡ global_set code target first a alone s))
  set_step [] a alone e is = absurd (cc)
  set_step (first ∷ []) a alone e is = absurd (cc)
  set_step (first ∷ b ∷ []) a alone e is =
      let same : b ≡ a = cc in
      let yes : alone ≡ true = is ∙ grind (arith, nat_tests) in
      (first, (same_global first (b ∷ []), set_two first b ∙ ap (λ d. global_set code target first d true s) same ∙ ap (λ d. global_set code target first a d s) (sym yes)))
  set_step (first ∷ b ∷ c ∷ more) a alone e is =
      let same : b ≡ a = cc in
      let other : alone ≡ false = is ∙ grind (arith, nat_tests) in
      (first, (same_global first (b ∷ c ∷ more), set_more first b c more ∙ ap (λ d. global_set code target first d false s) same ∙ ap (λ d. global_set code target first a d s) (sym other)))

  -- a write of a global that there is not
  no_kind : (name : List ℕ) (a : CArg) (alone : Bool) → kind_of_global code name ≡ None → global_set code target (arg.Global name) a alone s ≡ Ends (Faulted fault.Kind) s
  no_kind name (arg.Var x) alone e = ap (λ o. if_some true s fault.Kind o (λ kind. step.if_variable true s kind Anything x (λ a. if_stolen true s a s.top.ledger (λ l. cond alone (applied true s target l (stolen (row_of (prim.Global global.Set)).parameters (Written (arg.Global name) ∷ a ∷ [])) (step.effect code s (prim.Global global.Set) (Written (arg.Global name) ∷ a ∷ []))) (faulted true s fault.Kind))))) e
  no_kind name (arg.Number n) alone e = refl
  no_kind name (arg.Text text) alone e = refl
  no_kind name (arg.Global other) alone e = refl
  no_kind name (arg.Class other) alone e = refl

  pub set_unnamed : (first a : CArg) (alone : Bool) → global_of code (first ∷ []) ≡ None → global_set code target first a alone s ≡ Ends (Faulted fault.Kind) s
  set_unnamed (arg.Var x) a alone e = refl
  set_unnamed (arg.Number n) a alone e = refl
  set_unnamed (arg.Text text) a alone e = refl
  set_unnamed (arg.Global name) a alone e =
      no_kind name a alone (kind_by_number code name ∙ ap (λ o. option_map (λ g. g.1) (option_and_then (slice_get code.globals) o)) e)
  set_unnamed (arg.Class name) a alone e = refl

  pub set_absent : (first a : CArg) (alone : Bool) (n : ℕ) → Some n ≡ global_of code (first ∷ []) → slice_get code.globals n ≡ None → global_set code target first a alone s ≡ Ends (Faulted fault.Kind) s
  set_absent (arg.Var x) a alone n e is = refl
  set_absent (arg.Number n) a alone m e is = refl
  set_absent (arg.Text text) a alone n e is = refl
  set_absent (arg.Global name) a alone n e is =
      no_kind name a alone (kind_by_number code name ∙ ap (λ o. option_map (λ g. g.1) (option_and_then (slice_get code.globals) o)) (sym e) ∙ ap (option_map (λ g. g.1)) is)
  set_absent (arg.Class name) a alone n e is = refl

  abbrev pub SetAs : ℕ → List ℕ × Kind → Bool → Result Word Fault → Next → Type 0
  SetAs n g alone r next =
      (name : List ℕ) → Some n ≡ number_of_global code name → kind_of_global code name ≡ Some g.1 → stolen_or r s (λ x l. cond alone (applied true s target l (stolen (row_of (prim.Global global.Set)).parameters (Written (arg.Global name) ∷ x ∷ [])) (step.effect code s (prim.Global global.Set) (Written (arg.Global name) ∷ x ∷ []))) (faulted true s fault.Kind)) ≡ next

  -- a write of a global, by what comes of its argument
  pub set_found : (first a : CArg) (alone : Bool) (n : ℕ) (g : List ℕ × Kind) (r : Result Word Fault) (next : Next) → Some n ≡ global_of code (first ∷ []) → Some g ≡ slice_get code.globals n → ((earlier : List Argument) (go : Argument → Ledger → Next) → kind_found code OfGlobal earlier ≡ Some g.1 → step.if_argument true s code (Steals OfGlobal Anything) a earlier s.top.ledger go ≡ stolen_or r s go) → SetAs n g alone r next → global_set code target first a alone s ≡ next
  set_found (arg.Var x) a alone n g r next e is passed all = absurd (cc)
  set_found (arg.Number m) a alone n g r next e is passed all = absurd (cc)
  set_found (arg.Text text) a alone n g r next e is passed all = absurd (cc)
  set_found (arg.Class name) a alone n g r next e is passed all = absurd (cc)
  set_found (arg.Global name) a alone n g r next e is passed all =
      let kind = kind_is code name n g e is in
      passed (Written (arg.Global name) ∷ []) _ kind ∙ all name e kind

  pub set_crowded : (n : ℕ) (g : List ℕ × Kind) (alone : Bool) (w : Word) → alone ≡ false → SetAs n g alone (Ok w) (Ends (Faulted fault.Kind) s)
  set_crowded n g alone w e = λ name is kind. ap (λ b. cond b (applied true s target (left_by (contents.word_of w) s.top.ledger) (stolen (row_of (prim.Global global.Set)).parameters (Written (arg.Global name) ∷ argument_of s.cells (contents.word_of w) ∷ [])) (step.effect code s (prim.Global global.Set) (Written (arg.Global name) ∷ argument_of s.cells (contents.word_of w) ∷ []))) (faulted true s fault.Kind)) e

module _ (rest : Rest) (old : Seen) (code : Code) (target : Option ℕ) where
  abbrev t : MachineState
  t = state_of rest old

  pub set_unheld : (n : ℕ) (g : List ℕ × Kind) (alone : Bool) (w : Word) → slice_get old.globals n ≡ None → SetAs t code target n g alone (Ok w) (Ends (Faulted fault.Kind) t)
  set_unheld n g alone w none = λ name is kind.
      let x = argument_of t.cells (contents.word_of w) in
      ap (λ o. cond alone (applied true t target (left_by (contents.word_of w) t.top.ledger) (stolen (row_of (prim.Global global.Set)).parameters (Written (arg.Global name) ∷ x ∷ [])) (set_to (number_of_global code name) o (option_and_then (λ k. word_in k x) (kind_of_global code name)))) (faulted true t fault.Kind)) (held_is rest old code name n None is (sym none))
      ∙ ap (λ e. cond alone (applied true t target (left_by (contents.word_of w) t.top.ledger) (stolen (row_of (prim.Global global.Set)).parameters (Written (arg.Global name) ∷ x ∷ [])) e) (faulted true t fault.Kind)) (no_word (number_of_global code name) _)
      ∙ choice_alike alone (faulted true t fault.Kind)

  pub set_held : (n : ℕ) (g : List ℕ × Kind) (alone : Bool) (w : Word) (held : Option Word) (top : Frame) (new : Seen) → alone ≡ true → word_in g.1 (argument_of old.cells (contents.word_of w)) ≡ Some (contents.word_of w) → Some held ≡ slice_get old.globals n → top ≡ record old.top { ledger = left_by (contents.word_of w) old.top.ledger } → state_of rest new ≡ next_line (step.given true (state_of rest (record old { top = top })) (set_refs (held_of held ∷ [])) (record (state_of rest (record old { top = top })) { globals = slice_set (map held_of old.globals) n (Some (contents.word_of w)) })) → SetAs t code target n g alone (Ok w) (Goes (state_of rest new))
  set_held n g alone w held top new only word held_at top_is last = λ name is kind.
      let v = contents.word_of w in
      let x = argument_of t.cells v in
      let gone = stolen (row_of (prim.Global global.Set)).parameters (Written (arg.Global name) ∷ x ∷ []) in
      let l = left_by v t.top.ledger in
      let written : Option ℕ → Option (Option machine.Word) → Option machine.Word → Next = λ m o u. applied true t target l gone (set_to m o u) in
      ap (λ b. cond b (written (number_of_global code name) (global_at code t name) (option_and_then (λ k. word_in k x) (kind_of_global code name))) (faulted true t fault.Kind)) only
      ∙ ap (λ k. written (number_of_global code name) (global_at code t name) (option_and_then (λ j. word_in j x) k)) kind
      ∙ ap (written (number_of_global code name) (global_at code t name)) word
      ∙ ap (λ o. written (number_of_global code name) o (Some v)) (held_is rest old code name n (Some held) is held_at)
      ∙ ap (λ m. written m (Some (held_of held)) (Some v)) (sym is)
      ∙ ap (λ f. Goes (next_line (step.given true (state_of rest (record old { top = f })) (set_refs (held_of held ∷ [])) (record (state_of rest (record old { top = f })) { globals = slice_set (map held_of old.globals) n (Some v) })))) (sym top_is)
      ∙ ap Goes (sym last)
  -- ---- a global is unset
