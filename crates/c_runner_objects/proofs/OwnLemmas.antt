-- Keys that are a heap's stay so as objects are read and changed.
use Rattle.std.proofs.Common.{◌≡◌, refl, sym, ap, subst, ◌∙◌, ℕ, zero, suc, Bool, true, false, List, [], ◌∷◌, ◌++◌, Option, Some, None}
use Rattle.std.specs.Prelude.{map, slice_get, Result, Ok, Err, IfOk}
use Rattle.std.proofs.lemmas.Option.{same_Some}
use Rattle.c_core.specs.declared.code.Kind.{Kind}
use Rattle.c_core.specs.declared.code.Kind.TheVariants as kind
use Rattle.c_core.specs.Cells.{Cells}
use Rattle.c_core.specs.Functions.{error_word}
use Rattle.c_core.specs.Ledgers.{Ledger}
use Rattle.c_core.specs.Machine.{pair_refs, refs_of}
use Rattle.slot_arena.specs.declared.key.Key.{Key}
use Rattle.cell_heap.specs.declared.word.Word.{Word}
use Rattle.cell_heap.specs.Contents.{name_of, pair_named, word_of, words_refs, pairs_refs, optional_refs}
use Rattle.cell_heap.specs.Ours.{IsOurs, AreOurs, KeepsPlaces}
use Rattle.cell_heap.specs.Placed.{Placed}
use Rattle.cell_heap.proofs.OursLemmas.{ours_first, ours_second}
use Rattle.c_runner_deeds.specs.declared.state.Frame.{Frame}
use Rattle.c_runner_deeds.specs.Ours.{IsOurWord, word_refs, maybe_refs, maybe_pair_refs}
use Rattle.c_runner_objects.specs.Instances.{held_refs}
use Rattle.c_runner_deeds.proofs.OursLemmas.{held_read}

module _ (cells : Cells Placed) where
  -- ---- pairs
  pub pair_read : (pairs : List (Word × Word)) (x : ℕ) (p : Word × Word) → AreOurs cells (pairs_refs pairs) → slice_get pairs x ≡ Some p → IsOurWord cells p.0 × IsOurWord cells p.1
  pair_read [] x p own e = absurd (cc)
  pair_read (q ∷ pairs) zero p own e =
      let behind = ours_second cells (word_refs q.0) (word_refs q.1 ++ pairs_refs pairs) own in
      subst (λ (r : Word × Word). IsOurWord cells r.0 × IsOurWord cells r.1) (same_Some q p e)
      (ours_first cells (word_refs q.0) (word_refs q.1 ++ pairs_refs pairs) own, ours_first cells (word_refs q.1) (pairs_refs pairs) behind)
  pair_read (q ∷ pairs) (suc x) p own e =
      pair_read pairs x p (ours_second cells (word_refs q.1) (pairs_refs pairs) (ours_second cells (word_refs q.0) (word_refs q.1 ++ pairs_refs pairs) own)) e

  pub first_own : (p : Option (Word × Word)) (k w : Word) → p ≡ Some (k, w) → AreOurs cells (maybe_pair_refs p) → IsOurWord cells k
  first_own p k w e own = ours_first cells (word_refs k) (word_refs w) (subst (λ o. AreOurs cells (maybe_pair_refs o)) e own)

  pub second_own : (p : Option (Word × Word)) (k w : Word) → p ≡ Some (k, w) → AreOurs cells (maybe_pair_refs p) → IsOurWord cells w
  second_own p k w e own = ours_second cells (word_refs k) (word_refs w) (subst (λ o. AreOurs cells (maybe_pair_refs o)) e own)

  -- ---- an attribute
  pub held_own : (attributes : List (Option Word)) (x : ℕ) (o : Option (Option Word)) → o ≡ slice_get attributes x → AreOurs cells (optional_refs attributes) → AreOurs cells (held_refs o)
  held_own attributes x None e own = tt
  held_own attributes x (Some v) e own = held_read cells attributes x v own (sym e)

-- ---- words without a cell
pub error_plain : (k : Kind) → refs_of (error_word k) ≡ []
error_plain kind.Tagged = refl
error_plain kind.Int64 = refl
error_plain kind.Char = refl
error_plain kind.Object = refl

-- ---- variables of a frame whose ledger alone changed
pub vars_kept : (frame after : Frame) (l : Ledger) → after ≡ record frame { ledger = l } → after.vars ≡ frame.vars
vars_kept frame after l e = ap (λ (f : Frame). f.vars) e
