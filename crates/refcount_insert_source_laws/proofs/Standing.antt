-- What the cells of an unchecked run are, those of the checked run are too, as far as something still holds them: a cell that is held is live,
-- and its content is the same in both.
use Rattle.std.proofs.Common.{◌≡◌, sym, ap, ◌∙◌, subst, ℕ, ℤ, ◌≤◌, Bool, List, [], ◌∷◌, ◌++◌, Option, Some, None, arith}
use Rattle.std.specs.Prelude.{slice_get}
use Rattle.value_core.specs.Exceptions.{Thrown}
use Rattle.value_core.specs.Value.{Value, IntVal, BoolVal, NoneVal, StrVal, TupleVal, ExcVal, ObjVal, Values, no_values, value_then, Object, ListObj, DictObj, InstObj, Store}
use Rattle.c_core.specs.Cells.{times}
use Rattle.c_core.specs.Machine.{Word, ObjectCell, Content, IntCell, StrCell, ListCell, DictCell, TupleCell, InstCell, ExcCell, refs_of, refs, set_refs, pair_refs, refs_in, MachineState}
use Rattle.c_core.specs.Holders.{holders, pending_refs}
use Rattle.c_core.specs.Stands.{IsLive, MatchesInt, in_short, in_native, in_big, in_object, MatchesBool, true_char, false_char, true_object, false_object, Matches, MatchesParts, MatchAll, MatchPairs, MatchSet, MatchesObject, MatchesStore, Stands}
use Rattle.c_core.specs.Agreement.{IsPending}
use Rattle.c_core.specs.Laws.{IsCounted}
use Rattle.c_core.proofs.CountLemmas.{same_self, there, held-uses}
use Rattle.c_core.proofs.ReleaseLemmas.{times-append}
use Rattle.c_core_ownership_laws.specs.Alike.{HoldsMore}

-- a state of a checked run, whose counts are right, and one of the unchecked run
module _ (s u : MachineState) (counts : IsCounted s) (made : u.made ≡ s.made) (more : HoldsMore s.cells u.cells) where
  -- the cell is live
  abbrev HasCell : ℕ → Type 0
  HasCell d = (v : Content) × IsLive s d v

  -- all these cells are live
  abbrev HasCells : List ℕ → Type 0
  HasCells ds = (d : ℕ) → 1 ≤ times ds d → HasCell d

  -- a cell that is held is live
  held_there : (d : ℕ) → 1 ≤ holders s d → HasCell d
  held_there d le = there s.cells d (omega (arith, counts d, le))

  -- so are those that a live cell holds
  content_there : (c : ℕ) (v : Content) → IsLive s c v → HasCells (refs_in v)
  content_there c v e d le = held_there d (omega (arith, held-uses refs_in s.cells c d v e, le))

  globals_there : HasCells (set_refs s.globals)
  globals_there d le = held_there d (omega (arith, le))

  pending_there : HasCells (pending_refs s.pending)
  pending_there d le = held_there d (omega (arith, le))

  -- parts of a list of cells
  first_there : (xs ys : List ℕ) → HasCells (xs ++ ys) → HasCells xs
  first_there xs ys l d le = l d (omega (arith, le, times-append xs ys d))

  last_there : (xs ys : List ℕ) → HasCells (xs ++ ys) → HasCells ys
  last_there xs ys l d le = l d (omega (arith, le, times-append xs ys d))

  -- a live cell of the checked state has the content that it has in the other one
  same_content : (c : ℕ) (v : Content) → HasCell c → IsLive u c v → IsLive s c v
  same_content c v l e = l.1 ∙ sym (more.more c l.0 l.1) ∙ e

  one_there : (c : ℕ) → HasCells (c ∷ []) → HasCell c
  one_there c l = l c (omega (arith, same_self c))

  word_there : (c : ℕ) (w : Word) → w ≡ ObjectCell c → HasCells (refs_of w) → HasCell c
  word_there c w e l = one_there c (subst (λ z. HasCells (refs_of z)) e l)

  int_back : (n : ℤ) (w : Word) → HasCells (refs_of w) → MatchesInt u n w → MatchesInt s n w
  int_back n _ l (in_short) = in_short
  int_back n _ l (in_native) = in_native
  int_back n _ l (in_big c e) = in_big c (same_content c (IntCell n) (one_there c l) e)
  int_back n _ l (in_object c e) = in_object c (same_content c (IntCell n) (one_there c l) e)

  bool_back : (b : Bool) (w : Word) → MatchesBool u b w → MatchesBool s b w
  bool_back _ _ (true_char) = true_char
  bool_back _ _ (false_char) = false_char
  bool_back _ _ (true_object) = true_object
  bool_back _ _ (false_object) = false_object

  mutual
    matches_back : (v : Value) (w : Word) → HasCells (refs_of w) → Matches u v w → Matches s v w
    matches_back (IntVal n) w l m = int_back n w l m
    matches_back (BoolVal b) w l m = bool_back b w m
    matches_back NoneVal w l m = m
    matches_back (StrVal text) w l m = (m.0, m.1, same_content m.0 (StrCell text) (word_there m.0 w m.1 l) m.2)
    matches_back (TupleVal parts) w l m =
        let live : IsLive s m.0 (TupleCell m.2.0) = same_content m.0 (TupleCell m.2.0) (word_there m.0 w m.1 l) m.2.1 in
        (m.0, m.1, (m.2.0, live, parts_back parts m.2.0 (content_there m.0 (TupleCell m.2.0) live) m.2.2))
    matches_back (ExcVal e) w l m = (m.0, m.1, same_content m.0 (ExcCell e) (word_there m.0 w m.1 l) m.2)
    matches_back (ObjVal k) w l m = (m.0, m.1, ap (λ z. slice_get z k) (sym made) ∙ m.2, word_there m.0 w m.1 l)

    parts_back : (vs : Values) (ws : List Word) → HasCells (refs ws) → MatchesParts u vs ws → MatchesParts s vs ws
    parts_back no_values [] l m = tt
    parts_back no_values (w ∷ ws) l m = absurd m
    parts_back (value_then v vs) [] l m = absurd m
    parts_back (value_then v vs) (w ∷ ws) l m =
        (matches_back v w (first_there (refs_of w) (refs ws) l) m.0, parts_back vs ws (last_there (refs_of w) (refs ws) l) m.1)

  all_back : (vs : List Value) (ws : List Word) → HasCells (refs ws) → MatchAll u vs ws → MatchAll s vs ws
  all_back [] [] l m = tt
  all_back [] (w ∷ ws) l m = absurd m
  all_back (v ∷ vs) [] l m = absurd m
  all_back (v ∷ vs) (w ∷ ws) l m =
      (matches_back v w (first_there (refs_of w) (refs ws) l) m.0, all_back vs ws (last_there (refs_of w) (refs ws) l) m.1)

  pairs_back : (vs : List (Value × Value)) (ws : List (Word × Word)) → HasCells (pair_refs ws) → MatchPairs u vs ws → MatchPairs s vs ws
  pairs_back [] [] l m = tt
  pairs_back [] (q ∷ qs) l m = absurd m
  pairs_back (p ∷ ps) [] l m = absurd m
  pairs_back (p ∷ ps) (q ∷ qs) l m =
      let rest : HasCells (refs_of q.1 ++ pair_refs qs) = last_there (refs_of q.0) (refs_of q.1 ++ pair_refs qs) l in
      (matches_back p.0 q.0 (first_there (refs_of q.0) (refs_of q.1 ++ pair_refs qs) l) m.0, (matches_back p.1 q.1 (first_there (refs_of q.1) (pair_refs qs) rest) m.1.0, pairs_back ps qs (last_there (refs_of q.1) (pair_refs qs) rest) m.1.1))

  set_back : (vs : List (Option Value)) (ws : List (Option Word)) → HasCells (set_refs ws) → MatchSet u vs ws → MatchSet s vs ws
  set_back [] [] l m = tt
  set_back [] (w ∷ ws) l m = absurd m
  set_back (None ∷ vs) [] l m = absurd m
  set_back (Some v ∷ vs) [] l m = absurd m
  set_back (None ∷ vs) (None ∷ ws) l m = set_back vs ws l m
  set_back (None ∷ vs) (Some w ∷ ws) l m = absurd m
  set_back (Some v ∷ vs) (None ∷ ws) l m = absurd m
  set_back (Some v ∷ vs) (Some w ∷ ws) l m =
      (matches_back v w (first_there (refs_of w) (set_refs ws) l) m.0, set_back vs ws (last_there (refs_of w) (set_refs ws) l) m.1)

  object_back : (o : Object) (x : Content) → HasCells (refs_in x) → MatchesObject u o x → MatchesObject s o x
  object_back (ListObj items) (ListCell words) l m = all_back items words l m
  object_back (DictObj pairs) (DictCell words) l m = pairs_back pairs words l m
  object_back (InstObj class attributes) (InstCell number words) l m = (m.0, set_back attributes words l m.1)
  object_back (ListObj items) (IntCell n) l m = absurd m
  object_back (ListObj items) (StrCell n) l m = absurd m
  object_back (ListObj items) (DictCell n) l m = absurd m
  object_back (ListObj items) (TupleCell n) l m = absurd m
  object_back (ListObj items) (InstCell n a) l m = absurd m
  object_back (ListObj items) (ExcCell n) l m = absurd m
  object_back (DictObj pairs) (IntCell n) l m = absurd m
  object_back (DictObj pairs) (StrCell n) l m = absurd m
  object_back (DictObj pairs) (ListCell n) l m = absurd m
  object_back (DictObj pairs) (TupleCell n) l m = absurd m
  object_back (DictObj pairs) (InstCell n a) l m = absurd m
  object_back (DictObj pairs) (ExcCell n) l m = absurd m
  object_back (InstObj class attributes) (IntCell n) l m = absurd m
  object_back (InstObj class attributes) (StrCell n) l m = absurd m
  object_back (InstObj class attributes) (ListCell n) l m = absurd m
  object_back (InstObj class attributes) (DictCell n) l m = absurd m
  object_back (InstObj class attributes) (TupleCell n) l m = absurd m
  object_back (InstObj class attributes) (ExcCell n) l m = absurd m

  store_back : (os : Store) (cs : List ℕ) → MatchesStore u os cs → MatchesStore s os cs
  store_back [] [] m = tt
  store_back [] (c ∷ cs) m = absurd m
  store_back (o ∷ os) [] m = absurd m
  store_back (o ∷ os) (c ∷ cs) m =
      (λ x e. object_back o x (content_there c x e) (m.0 x (more.more c x e)), store_back os cs m.1)

  pub stands_back : (store : Store) (variables : List (Option Value)) → u.globals ≡ s.globals → Stands store variables u → Stands store variables s
  stands_back store variables globals st = record {
    objects = store_back store s.made (subst (MatchesStore u store) made st.objects);
    variables_match = set_back variables s.globals globals_there (subst (MatchSet u variables) globals st.variables_match);
  }

  pub pending_back : (e : Thrown) → u.pending ≡ s.pending → IsPending e u → IsPending e s
  pending_back e pending p =
      let is : s.pending ≡ Some p.0 = sym pending ∙ p.1 in
      let live : HasCell p.0 = one_there p.0 (subst (λ z. HasCells (pending_refs z)) is pending_there) in
      (p.0, is, same_content p.0 (ExcCell e) live p.2)
