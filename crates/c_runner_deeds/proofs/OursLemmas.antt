-- Keys that are a heap's stay so while the heap changes, and as words are read and written.
use Rattle.std.proofs.Common.{◌≡◌, refl, sym, subst, ℕ, zero, suc, List, [], ◌∷◌, ◌++◌, Option, Some, None}
use Rattle.std.specs.Prelude.{map, slice_get, slice_set, Result, Ok, Err, IfOk}
use Rattle.c_core.specs.Cells.{Cells}
use Rattle.slot_arena.specs.declared.key.Key.{Key}
use Rattle.cell_heap.specs.declared.word.Word.{Word}
use Rattle.cell_heap.specs.declared.word.Word.TheVariants as heap
use Rattle.cell_heap.specs.Contents.{name_of, words_refs, optional_refs}
use Rattle.cell_heap.specs.Ours.{IsOurs, AreOurs, KeepsPlaces}
use Rattle.cell_heap.specs.Placed.{Placed}
use Rattle.cell_heap.proofs.OursLemmas.{ours_first, ours_second, ours_both, are_still}
use Rattle.c_runner_deeds.specs.declared.state.Frame.{Frame}
use Rattle.c_runner_deeds.specs.declared.state.State.{State}
use Rattle.c_runner_deeds.specs.Ours.{word_refs, maybe_refs, key_refs, frames_refs, IsOurWord, state_refs, KeysAreOurs}
use Rattle.c_runner_deeds.specs.States.{with_target, held_of}

-- ---- words that are read and written
module _ (cells : Cells Placed) where
  pub word_read : (words : List Word) (x : ℕ) (w : Word) → AreOurs cells (words_refs words) → slice_get words x ≡ Some w → IsOurWord cells w
  word_read [] x w own e = absurd (cc)
  word_read (v ∷ words) zero w own e =
      let same : v ≡ w = cc in
      subst (IsOurWord cells) same (ours_first cells (word_refs v) (words_refs words) own)
  word_read (v ∷ words) (suc x) w own e = word_read words x w (ours_second cells (word_refs v) (words_refs words) own) e

  pub word_written : (words : List Word) (x : ℕ) (w : Word) → AreOurs cells (words_refs words) → IsOurWord cells w → AreOurs cells (words_refs (slice_set words x w))
  word_written [] x w own p = tt
  word_written (v ∷ words) zero w own p = ours_both cells (word_refs w) (words_refs words) p (ours_second cells (word_refs v) (words_refs words) own)
  word_written (v ∷ words) (suc x) w own p =
      ours_both cells (word_refs v) (words_refs (slice_set words x w)) (ours_first cells (word_refs v) (words_refs words) own)
      (word_written words x w (ours_second cells (word_refs v) (words_refs words) own) p)

  pub target_written : (target : Option ℕ) (w : Word) (frame : Frame) → AreOurs cells (words_refs frame.vars) → IsOurWord cells w → AreOurs cells (words_refs (with_target target w frame).vars)
  target_written None w frame own p = own
  target_written (Some x) w frame own p = word_written frame.vars x w own p

  -- the key in a word that was read
  pub key_read : (words : List Word) (x : ℕ) (w : Word) (key : Key) → AreOurs cells (words_refs words) → Some w ≡ slice_get words x → w ≡ heap.Cell key → IsOurs cells (name_of key)
  key_read words x w key own e is = (subst (IsOurWord cells) is (word_read words x w own (sym e))).0

-- ---- keys of a state
module _ (cells : Cells Placed) (vars : List Word) (below : List Frame) (globals : List (Option Word)) (pending : Option Key) where
  pub in_vars : KeysAreOurs cells vars below globals pending → AreOurs cells (words_refs vars)
  unfolding KeysAreOurs
  in_vars own = ours_first cells (words_refs vars) _ own

  behind_vars : KeysAreOurs cells vars below globals pending → AreOurs cells (frames_refs below ++ (optional_refs globals ++ key_refs pending))
  unfolding KeysAreOurs
  behind_vars own = ours_second cells (words_refs vars) _ own

  pub in_below : KeysAreOurs cells vars below globals pending → AreOurs cells (frames_refs below)
  in_below own = ours_first cells (frames_refs below) _ (behind_vars own)

  behind_below : KeysAreOurs cells vars below globals pending → AreOurs cells (optional_refs globals ++ key_refs pending)
  behind_below own = ours_second cells (frames_refs below) _ (behind_vars own)

  pub in_globals : KeysAreOurs cells vars below globals pending → AreOurs cells (optional_refs globals)
  in_globals own = ours_first cells (optional_refs globals) _ (behind_below own)

  pub in_pending : KeysAreOurs cells vars below globals pending → AreOurs cells (key_refs pending)
  in_pending own = ours_second cells (optional_refs globals) _ (behind_below own)

  pub all_four : AreOurs cells (words_refs vars) → AreOurs cells (frames_refs below) → AreOurs cells (optional_refs globals) → AreOurs cells (key_refs pending) → KeysAreOurs cells vars below globals pending
  unfolding KeysAreOurs
  all_four a b c d = ours_both cells (words_refs vars) _ a (ours_both cells (frames_refs below) _ b (ours_both cells (optional_refs globals) _ c d))

-- with other variables, and with a target written
pub with_vars : (cells : Cells Placed) (vars others : List Word) (below : List Frame) (globals : List (Option Word)) (pending : Option Key) → KeysAreOurs cells vars below globals pending → AreOurs cells (words_refs others) → KeysAreOurs cells others below globals pending
with_vars cells vars others below globals pending own more =
    all_four cells others below globals pending more (in_below cells vars below globals pending own) (in_globals cells vars below globals pending own) (in_pending cells vars below globals pending own)

-- after a change of the heap
pub keys_kept : (old new : Cells Placed) (vars : List Word) (below : List Frame) (globals : List (Option Word)) (pending : Option Key) → KeepsPlaces old new → KeysAreOurs old vars below globals pending → KeysAreOurs new vars below globals pending
unfolding KeysAreOurs
keys_kept old new vars below globals pending kept own = are_still old new (state_refs vars below globals pending) kept own

-- with an attribute or a global that was read, and with one that is written
module _ (cells : Cells Placed) where
  pub held_read : (words : List (Option Word)) (x : ℕ) (o : Option Word) → AreOurs cells (optional_refs words) → slice_get words x ≡ Some o → AreOurs cells (maybe_refs o)
  held_read [] x o own e = absurd (cc)
  held_read (v ∷ words) zero o own e =
      let same : v ≡ o = cc in
      subst (λ w. AreOurs cells (maybe_refs w)) same (front v words own)
    where
      front : (v : Option Word) (words : List (Option Word)) → AreOurs cells (optional_refs (v ∷ words)) → AreOurs cells (maybe_refs v)
      front None words own = tt
      front (Some w) words own = ours_first cells (word_refs w) (optional_refs words) own
  held_read (None ∷ words) (suc x) o own e = held_read words x o own e
  held_read (Some w ∷ words) (suc x) o own e = held_read words x o (ours_second cells (word_refs w) (optional_refs words) own) e

  held_before : (o : Option Word) (words : List (Option Word)) → AreOurs cells (maybe_refs o) → AreOurs cells (optional_refs words) → AreOurs cells (optional_refs (o ∷ words))
  held_before None words p own = own
  held_before (Some w) words p own = ours_both cells (word_refs w) (optional_refs words) p own

  pub held_written : (words : List (Option Word)) (x : ℕ) (o : Option Word) → AreOurs cells (optional_refs words) → AreOurs cells (maybe_refs o) → AreOurs cells (optional_refs (slice_set words x o))
  held_written [] x o own p = tt
  held_written (None ∷ words) zero o own p = held_before o words p own
  held_written (Some w ∷ words) zero o own p = held_before o words p (ours_second cells (word_refs w) (optional_refs words) own)
  held_written (None ∷ words) (suc x) o own p = held_written words x o own p
  held_written (Some w ∷ words) (suc x) o own p =
      ours_both cells (word_refs w) (optional_refs (slice_set words x o)) (ours_first cells (word_refs w) (optional_refs words) own)
      (held_written words x o (ours_second cells (word_refs w) (optional_refs words) own) p)

-- with another pending exception
pub with_pending : (cells : Cells Placed) (vars : List Word) (below : List Frame) (globals : List (Option Word)) (pending other : Option Key) → KeysAreOurs cells vars below globals pending → AreOurs cells (key_refs other) → KeysAreOurs cells vars below globals other
with_pending cells vars below globals pending other own more =
    all_four cells vars below globals other (in_vars cells vars below globals pending own) (in_below cells vars below globals pending own) (in_globals cells vars below globals pending own) more

-- with other globals
pub with_globals : (cells : Cells Placed) (vars : List Word) (below : List Frame) (globals others : List (Option Word)) (pending : Option Key) → KeysAreOurs cells vars below globals pending → AreOurs cells (optional_refs others) → KeysAreOurs cells vars below others pending
with_globals cells vars below globals others pending own more =
    all_four cells vars below others pending (in_vars cells vars below globals pending own) (in_below cells vars below globals pending own) more (in_pending cells vars below globals pending own)

-- ---- a state of a run
module _ (r : State) where
  abbrev vars_own : AreOurs r.cells (words_refs r.top.vars)
  vars_own = in_vars r.cells r.top.vars r.below r.globals r.pending r.ours

  -- the word of a variable, and the key in it
  pub variable_own : (x : ℕ) (w : Word) → Some w ≡ slice_get r.top.vars x → IsOurWord r.cells w
  variable_own x w e = word_read r.cells r.top.vars x w vars_own (sym e)

  pub cell_own : (x : ℕ) (w : Word) (key : Key) → Some w ≡ slice_get r.top.vars x → w ≡ heap.Cell key → IsOurs r.cells (name_of key)
  cell_own x w key e is = (subst (IsOurWord r.cells) is (variable_own x w e)).0

  pub big_own : (x : ℕ) (w : Word) (key : Key) → Some w ≡ slice_get r.top.vars x → w ≡ heap.Big key → IsOurs r.cells (name_of key)
  big_own x w key e is = (subst (IsOurWord r.cells) is (variable_own x w e)).0

  pub global_own : (x : ℕ) (o : Option Word) → Some o ≡ slice_get r.globals x → AreOurs r.cells (maybe_refs o)
  global_own x o e = held_read r.cells r.globals x o (in_globals r.cells r.top.vars r.below r.globals r.pending r.ours) (sym e)

  pub pending_own : (key : Key) → r.pending ≡ Some key → IsOurs r.cells (name_of key)
  pending_own key e = (subst (λ o. AreOurs r.cells (key_refs o)) e (in_pending r.cells r.top.vars r.below r.globals r.pending r.ours)).0

  -- with a target written, after a change of the heap
  pub target_own : (later : Cells Placed) (target : Option ℕ) (w : Word) (frame after : Frame) → KeepsPlaces r.cells later → frame.vars ≡ r.top.vars → after ≡ with_target target w frame → IsOurWord later w → KeysAreOurs later after.vars r.below r.globals r.pending
  target_own later target w frame after kept same is p =
      let vars : AreOurs later (words_refs r.top.vars) = are_still r.cells later (words_refs r.top.vars) kept vars_own in
      let before : AreOurs later (words_refs frame.vars) = subst (λ vs. AreOurs later (words_refs vs)) (sym same) vars in
      let written : AreOurs later (words_refs after.vars) = subst (λ (f : Frame). AreOurs later (words_refs f.vars)) (sym is) (target_written later target w frame before p) in
      with_vars later r.top.vars after.vars r.below r.globals r.pending (keys_kept r.cells later r.top.vars r.below r.globals r.pending kept r.ours) written

  -- with the same variables, after a change of the heap
  pub frame_own : (later : Cells Placed) (vars : List Word) → KeepsPlaces r.cells later → vars ≡ r.top.vars → KeysAreOurs later vars r.below r.globals r.pending
  frame_own later vars kept same = subst (λ vs. KeysAreOurs later vs r.below r.globals r.pending) (sym same) (keys_kept r.cells later r.top.vars r.below r.globals r.pending kept r.ours)

  -- the same, with another exception pending
  pub raised_own : (later : Cells Placed) (target : Option ℕ) (w : Word) (frame after : Frame) (pending : Option Key) → KeepsPlaces r.cells later → frame.vars ≡ r.top.vars → after ≡ with_target target w frame → IsOurWord later w → AreOurs later (key_refs pending) → KeysAreOurs later after.vars r.below r.globals pending
  raised_own later target w frame after pending kept same is p q =
      with_pending later after.vars r.below r.globals r.pending pending (target_own later target w frame after kept same is p) q

-- one word more behind others, and the words of an error
pub words_more : (cells : Cells Placed) (words : List Word) (w : Word) (all : List Word) → AreOurs cells (words_refs words) → IsOurWord cells w → all ≡ words ++ w ∷ [] → AreOurs cells (words_refs all)
words_more cells words w all own p e = subst (λ ws. AreOurs cells (words_refs ws)) (sym e) (behind words own)
  where
    behind : (words : List Word) → AreOurs cells (words_refs words) → AreOurs cells (words_refs (words ++ w ∷ []))
    behind [] own = ours_both cells (word_refs w) [] p tt
    behind (v ∷ words) own = ours_both cells (word_refs v) (words_refs (words ++ w ∷ [])) (ours_first cells (word_refs v) (words_refs words) own) (behind words (ours_second cells (word_refs v) (words_refs words) own))

-- a word that is another
pub same_own : {E : Type 0} (cells : Cells Placed) (w : Word) (r : Result Word E) → IfOk r (λ k. k ≡ w) → IsOurWord cells w → IfOk r (IsOurWord cells)
same_own cells w (Ok k) is own = subst (IsOurWord cells) (sym is) own
same_own cells w (Err e) is own = tt

-- places that are all unset
pub none_refs : {A : Type 0} (places : List (Option Word)) (globals : List A) → map held_of places ≡ map (λ g. None) globals → optional_refs places ≡ []
none_refs [] globals e = refl
none_refs (None ∷ places) [] e = absurd (cc)
none_refs (None ∷ places) (g ∷ globals) e =
    let rest : map held_of places ≡ map (λ g. None) globals = cc in
    none_refs places globals rest
none_refs (Some w ∷ places) [] e = absurd (cc)
none_refs (Some w ∷ places) (g ∷ globals) e = absurd (cc)

-- a state with a global written, after a change of the heap
pub stored_own : (r : State) (later : Cells Placed) (x : ℕ) (o : Option Word) (globals : List (Option Word)) → KeepsPlaces r.cells later → globals ≡ slice_set r.globals x o → AreOurs r.cells (maybe_refs o) → KeysAreOurs later r.top.vars r.below globals r.pending
stored_own r later x o globals kept is p =
    let held : AreOurs later (optional_refs r.globals) = are_still r.cells later (optional_refs r.globals) kept (in_globals r.cells r.top.vars r.below r.globals r.pending r.ours) in
    let written : AreOurs later (optional_refs (slice_set r.globals x o)) = held_written later r.globals x o held (are_still r.cells later (maybe_refs o) kept p) in
    with_globals later r.top.vars r.below r.globals globals r.pending (keys_kept r.cells later r.top.vars r.below r.globals r.pending kept r.ours)
    (subst (λ gs. AreOurs later (optional_refs gs)) (sym is) written)
