-- Keys of a state that stay its heap's own, while lines, calls and returns change the state.
use Rattle.std.proofs.Common.{◌≡◌, refl, sym, ap, subst, ◌∙◌, ℕ, zero, suc, ◌<◌, ◌==◌, ◌%◌, arith, Bool, true, false, cond, List, [], ◌∷◌, ◌++◌, append_assoc, append-nil, length, get_or, Option, Some, None, ◌⊎◌, inl, inr}
use Rattle.std.specs.Prelude.{ℤ, pos, negsuc, IfSome, map, slice_get, Result, Ok, Err, OnOk, OnErr}
use Rattle.std.specs.Option.{option_map}
use Rattle.c_core.specs.declared.code.CLit.{CLit}
use Rattle.c_core.specs.declared.code.CLit.TheVariants.{Number, Null, PyNone, PyTrue, PyFalse}
use Rattle.c_core.specs.declared.code.Kind.{Kind}
use Rattle.c_core.specs.declared.code.Kind.TheVariants.{Tagged, Int64, Char, Object}
use Rattle.c_core.specs.Cells.{Cells}
use Rattle.c_core.specs.Functions.{error_word}
use Rattle.c_core.specs.Machine as machine
use Rattle.c_core.specs.Machine.{refs_of}
use Rattle.c_core.specs.Step.{halved, char_word, literal_word, truth_word}
use Rattle.slot_arena.specs.declared.key.Key.{Key}
use Rattle.cell_heap.specs.declared.word.Word.{Word}
use Rattle.cell_heap.specs.declared.word.Word.TheVariants as heap
use Rattle.cell_heap.specs.Contents.{name_of, word_of, words_refs, optional_refs}
use Rattle.cell_heap.specs.Ours.{IsOurs, AreOurs}
use Rattle.cell_heap.specs.Placed.{Placed}
use Rattle.cell_heap.proofs.OursLemmas.{ours_first, ours_second, ours_both}
use Rattle.c_runner_deeds.specs.declared.state.Frame.{Frame}
use Rattle.c_runner_deeds.specs.declared.state.State.{State}
use Rattle.c_runner_deeds.specs.Ours.{word_refs, maybe_refs, frames_refs, IsOurWord, KeysAreOurs}
use Rattle.c_runner_deeds.specs.States.{with_target}
use Rattle.c_runner_deeds.proofs.OursLemmas.{big_own, cell_own, target_written, in_vars, in_below, in_globals, in_pending, all_four, with_vars}

-- ---- words without a cell
pub plain_word : (w : Word) → refs_of (word_of w) ≡ [] → word_refs w ≡ []
plain_word (heap.Short n) e = refl
plain_word (heap.Big key) e = absurd (cc)
plain_word heap.TagError e = refl
plain_word (heap.I64 n) e = refl
plain_word (heap.Char n) e = refl
plain_word heap.PyNone e = refl
plain_word heap.PyTrue e = refl
plain_word heap.PyFalse e = refl
plain_word (heap.Cell key) e = absurd (cc)
plain_word heap.Null e = refl

pub truth_plain : (b : Bool) (w : Word) → word_of w ≡ truth_word b → word_refs w ≡ []
truth_plain true w e = plain_word w (ap refs_of e)
truth_plain false w e = plain_word w (ap refs_of e)

pub error_plain : (k : Kind) (w : Word) → word_of w ≡ error_word k → word_refs w ≡ []
error_plain Tagged w e = plain_word w (ap refs_of e)
error_plain Int64 w e = plain_word w (ap refs_of e)
error_plain Char w e = plain_word w (ap refs_of e)
error_plain Object w e = plain_word w (ap refs_of e)

-- a literal
abbrev IsPlain : Option machine.Word → Type 0
IsPlain o = IfSome o (λ w. refs_of w ≡ [])

cond_plain : (b : Bool) (o p : Option machine.Word) → IsPlain o → IsPlain p → IsPlain (cond b o p)
cond_plain true o p f g = f
cond_plain false o p f g = g

halved_plain : (n : ℤ) → IsPlain (halved n)
halved_plain (pos n) = cond_plain (n % 2 == 0) _ _ refl (cond_plain (n == 1) _ _ refl tt)
halved_plain (negsuc n) = cond_plain (n % 2 == 1) _ _ refl tt

char_plain : (n : ℤ) → IsPlain (char_word n)
char_plain (pos zero) = refl
char_plain (pos (suc zero)) = refl
char_plain (pos (suc (suc zero))) = refl
char_plain (pos (suc (suc (suc n)))) = tt
char_plain (negsuc n) = tt

word_plain : (k : Kind) (l : CLit) → IsPlain (literal_word k l)
word_plain Tagged (Number n) = halved_plain n
word_plain Int64 (Number n) = refl
word_plain Char (Number n) = char_plain n
word_plain Object Null = refl
word_plain Object PyNone = refl
word_plain Object PyTrue = refl
word_plain Object PyFalse = refl
word_plain _ _ = tt

maybe_plain : (o : Option Word) → IsPlain (option_map word_of o) → maybe_refs o ≡ []
maybe_plain None e = refl
maybe_plain (Some w) e = plain_word w e

pub literal_plain : (k : Kind) (l : CLit) (o : Option Word) → option_map word_of o ≡ literal_word k l → maybe_refs o ≡ []
literal_plain k l o e = maybe_plain o (subst IsPlain (sym e) (word_plain k l))

-- one word more
more_refs : (words : List Word) (w : Word) → words_refs (words ++ w ∷ []) ≡ words_refs words ++ word_refs w
more_refs [] w = append-nil (word_refs w)
more_refs (v ∷ words) w =
    ap (λ r. word_refs v ++ r) (more_refs words w) ∙ sym (append_assoc (word_refs v) (words_refs words) (word_refs w))

pub plain_more : (words later : List Word) (w : Word) → later ≡ words ++ w ∷ [] → word_refs w ≡ [] → words_refs later ≡ words_refs words
plain_more words later w e plain = ap words_refs e ∙ more_refs words w ∙ ap (λ r. words_refs words ++ r) plain ∙ append-nil (words_refs words)

module _ (cells : Cells Placed) where
  plain_own : (names : List ℕ) → names ≡ [] → AreOurs cells names
  plain_own names e = subst (AreOurs cells) (sym e) tt

  pub plain_words_own : (o : Option Word) → maybe_refs o ≡ [] → AreOurs cells (maybe_refs o)
  plain_words_own o e = plain_own (maybe_refs o) e

  -- one of the keys of the cells that are there
  pub key_own : (keys : List Key) (i : ℕ) (d : Key) → AreOurs cells (map name_of keys) → i < length keys → IsOurs cells (name_of (get_or keys i d))
  key_own [] i d own lt = absurd (omega (arith, lt))
  key_own (key ∷ keys) zero d own lt = own.0
  key_own (key ∷ keys) (suc i) d own lt = key_own keys i d own.1 (omega (arith, lt))

  -- frames that wait: one more, and the last one
  frames_more : (frames : List Frame) (f : Frame) → AreOurs cells (frames_refs frames) → AreOurs cells (words_refs f.vars) → AreOurs cells (frames_refs (frames ++ f ∷ []))
  frames_more [] f own p = ours_both cells (words_refs f.vars) [] p tt
  frames_more (g ∷ frames) f own p =
      ours_both cells (words_refs g.vars) (frames_refs (frames ++ f ∷ [])) (ours_first cells (words_refs g.vars) (frames_refs frames) own)
      (frames_more frames f (ours_second cells (words_refs g.vars) (frames_refs frames) own) p)

  frames_last : (frames : List Frame) (f : Frame) → AreOurs cells (frames_refs (frames ++ f ∷ [])) → AreOurs cells (frames_refs frames) × AreOurs cells (words_refs f.vars)
  frames_last [] f own = (tt, ours_first cells (words_refs f.vars) [] own)
  frames_last (g ∷ frames) f own =
      let rest = frames_last frames f (ours_second cells (words_refs g.vars) (frames_refs (frames ++ f ∷ [])) own) in
      (ours_both cells (words_refs g.vars) (frames_refs frames) (ours_first cells (words_refs g.vars) (frames_refs (frames ++ f ∷ [])) own) rest.0, rest.1)

  -- where a run begins
  pub first_own : (vars : List Word) (below : List Frame) (globals : List (Option Word)) → words_refs vars ≡ [] → below ≡ [] → optional_refs globals ≡ [] → KeysAreOurs cells vars below globals None
  first_own vars below globals v b g =
      all_four cells vars below globals None (plain_own (words_refs vars) v) (plain_own (frames_refs below) (ap frames_refs b)) (plain_own (optional_refs globals) g) tt

-- ---- a state
module _ (r : State) where
  -- the key in a variable's word
  pub counted_own : (x : ℕ) (w : Word) (key : Key) → Some w ≡ slice_get r.top.vars x → (w ≡ heap.Big key) ⊎ (w ≡ heap.Cell key) → IsOurs r.cells (name_of key)
  counted_own x w key e (inl is) = big_own r x w key e is
  counted_own x w key e (inr is) = cell_own r x w key e is

  -- another frame runs
  callee_own : (callee : List Word) → AreOurs r.cells (words_refs callee) → KeysAreOurs r.cells callee r.below r.globals r.pending
  callee_own callee own = with_vars r.cells r.top.vars callee r.below r.globals r.pending r.ours own

  -- the same, and the one that ran waits for it
  waits_own : (callee : List Word) (caller : Frame) (later : List Frame) → AreOurs r.cells (words_refs callee) → caller.vars ≡ r.top.vars → later ≡ r.below ++ caller ∷ [] → KeysAreOurs r.cells callee later r.globals r.pending
  waits_own callee caller later own same e =
      let here : AreOurs r.cells (words_refs caller.vars) = subst (λ ws. AreOurs r.cells (words_refs ws)) (sym same) (in_vars r.cells r.top.vars r.below r.globals r.pending r.ours) in
      let waiting : AreOurs r.cells (frames_refs later) = subst (λ fs. AreOurs r.cells (frames_refs fs)) (sym e) (frames_more r.cells r.below caller (in_below r.cells r.top.vars r.below r.globals r.pending r.ours) here) in
      all_four r.cells callee later r.globals r.pending own waiting
      (in_globals r.cells r.top.vars r.below r.globals r.pending r.ours) (in_pending r.cells r.top.vars r.below r.globals r.pending r.ours)

  -- the same, or there was no memory for one that waits
  pub pushed_own : {A E : Type 0} (callee : List Word) (caller : Frame) (later : List Frame) (pushed : Result A E) → AreOurs r.cells (words_refs callee) → caller.vars ≡ r.top.vars → OnOk pushed (later ≡ r.below ++ caller ∷ []) → OnErr pushed (later ≡ r.below) → KeysAreOurs r.cells callee later r.globals r.pending
  pushed_own callee caller later (Ok a) own same ok err = waits_own callee caller later own same ok
  pushed_own callee caller later (Err e) own same ok err = subst (λ fs. KeysAreOurs r.cells callee fs r.globals r.pending) (sym err) (callee_own callee own)

  -- the innermost frame that waits goes on
  pub back_own : (frames : List Frame) (caller after : Frame) → r.below ≡ frames ++ caller ∷ [] → after.vars ≡ caller.vars → KeysAreOurs r.cells after.vars frames r.globals r.pending
  back_own frames caller after e same =
      let last = frames_last r.cells frames caller (subst (λ fs. AreOurs r.cells (frames_refs fs)) e (in_below r.cells r.top.vars r.below r.globals r.pending r.ours)) in
      let vars : AreOurs r.cells (words_refs after.vars) = subst (λ ws. AreOurs r.cells (words_refs ws)) (sym same) last.1 in
      all_four r.cells after.vars frames r.globals r.pending vars last.0 (in_globals r.cells r.top.vars r.below r.globals r.pending r.ours) (in_pending r.cells r.top.vars r.below r.globals r.pending r.ours)

  -- the same, with its target written
  pub handed_own : (frames : List Frame) (caller owner top : Frame) (target : Option ℕ) (w : Word) → r.below ≡ frames ++ caller ∷ [] → owner.vars ≡ caller.vars → top ≡ with_target target w owner → IsOurWord r.cells w → KeysAreOurs r.cells top.vars frames r.globals r.pending
  handed_own frames caller owner top target w e same is p =
      let back = back_own frames caller owner e same in
      let written : AreOurs r.cells (words_refs top.vars) = subst (λ (f : Frame). AreOurs r.cells (words_refs f.vars)) (sym is) (target_written r.cells target w owner (in_vars r.cells owner.vars frames r.globals r.pending back) p) in
      with_vars r.cells owner.vars top.vars frames r.globals r.pending back written
