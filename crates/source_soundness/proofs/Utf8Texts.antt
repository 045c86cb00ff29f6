-- In the runs that start with texts in UTF-8 every value has its texts so, and so has all that a run leaves.
use Rattle.std.proofs.Common.{◌≡◌, ℕ, Bool, true, false, ◌+◌, cond, ◌&&◌, List, [], ◌∷◌, length, Option, Some, None, refl, ap, ◌∙◌, inl, inr, nat_lt}
use Rattle.std.specs.List.{list_all}
use Rattle.std.specs.Str.{is_utf8}
use Rattle.value_core.specs.Items.{Items, InputEnd, AtEof, AtFailure, Over, Line, Bad, most_input, pieces, unended, line_before, end_of_input, is_whole, lines_from}
use Rattle.value_core.specs.Value.{Value, Values, no_values, value_then, listed, Object, ListObj, DictObj, InstObj, Store}
use Rattle.py_typed.specs.Sorts.{Sort, Int, I64, Bool as BoolSort, Str, Nothing, ListOf, DictOf, TupleOf, Optional, Instance, Exc, Sorts, no_sorts, sort_then}
use Rattle.py_typed.specs.Classes.{ClassEntry}
use Rattle.py_typed.specs.Order.{attributes}
use Rattle.py_typed.specs.Statements.{Variable, TypedModule}
use Rattle.source_soundness.proofs.Facts.{both}
use Rattle.source_meaning.specs.State.{State, Cut, Over as OverLine, Broken, Stuck, Outcome, Gives, Raises, Stops, give, needs}
use Rattle.source_meaning.specs.WaysOut.{Flow, Goes, Breaks, Continues, Returns}
use Rattle.source_meaning.specs.SourceRun.{stop_of, stopped, raised_as, source_run}
use Rattle.source_soundness.specs.Laws.{TextsAreUtf8, LinesAreUtf8}
use Rattle.source_soundness.specs.Texts.{has_utf8_lines, has_utf8_texts, have_utf8_texts, holds_utf8_texts, has_utf8_parts, ends_in_utf8, StopsInUtf8, utf8_texts}
use Rattle.source_soundness.specs.Watched.{watched_run}
use Rattle.source_soundness.proofs.TextLemmas.{ascii_text}
use Rattle.source_soundness.proofs.Worlds.{World, Has, HaveAll, Each, EachPair, Holds, HoldAll, Is, Stored}
use Rattle.source_soundness.proofs.Fine.{IsThrown, Passes, Post}
use Rattle.source_soundness.proofs.Flows.{FlowIs}
use Rattle.source_soundness.proofs.Members.{facts_hold, funcs_are, top_typed, names_are}
use Rattle.source_soundness.proofs.Runs.{fine_top}

module _ (classes : List ClassEntry) (W : World true) where
  mutual
    pub value_texts : (t : Sort) (v : Value) → Has classes t W v → has_utf8_texts v ≡ true
    value_texts Int v h = ap has_utf8_texts h.1
    value_texts I64 v h = ap has_utf8_texts h.1
    value_texts BoolSort v h = ap has_utf8_texts h.1
    value_texts Str v h = ap has_utf8_texts h.1 ∙ h.2 refl
    value_texts Nothing v h = ap has_utf8_texts h
    value_texts (ListOf t) v h = ap has_utf8_texts h.1
    value_texts (DictOf a t) v h = ap has_utf8_texts h.1
    value_texts (TupleOf ts) v h = ap has_utf8_texts h.1 ∙ all_texts ts h.0 h.2
    value_texts (Optional t) v (inl h) = ap has_utf8_texts h
    value_texts (Optional t) v (inr h) = value_texts t v h
    value_texts (Instance c) v h = ap has_utf8_texts h.2
    value_texts (Exc c) v h = ap has_utf8_texts h.1 ∙ h.3 refl

    all_texts : (ts : Sorts) (vs : Values) → HaveAll classes ts W (listed vs) → have_utf8_texts vs ≡ true
    all_texts no_sorts no_values h = refl
    all_texts no_sorts (value_then v vs) h = absurd h
    all_texts (sort_then t ts) no_values h = absurd h
    all_texts (sort_then t ts) (value_then v vs) h = both (has_utf8_texts v) (have_utf8_texts vs) (value_texts t v h.0) (all_texts ts vs h.1)

  each_texts : (t : Sort) (vs : List Value) → Each classes t W vs → list_all has_utf8_texts vs ≡ true
  each_texts t [] h = refl
  each_texts t (v ∷ vs) h = both (has_utf8_texts v) (list_all has_utf8_texts vs) (value_texts t v h.0) (each_texts t vs h.1)

  pair_texts : (a t : Sort) (ps : List (Value × Value)) → EachPair classes a t W ps → list_all (λ (p : Value × Value). has_utf8_texts p.0 && has_utf8_texts p.1) ps ≡ true
  pair_texts a t [] h = refl
  pair_texts a t (p ∷ ps) h =
      both (has_utf8_texts p.0 && has_utf8_texts p.1) (list_all (λ (p : Value × Value). has_utf8_texts p.0 && has_utf8_texts p.1) ps) (both (has_utf8_texts p.0) (has_utf8_texts p.1) (value_texts a p.0 h.0.0) (value_texts t p.1 h.0.1)) (pair_texts a t ps h.1)

  held_text : (t : Sort) (o : Option Value) → Holds classes t W o → holds_utf8_texts o ≡ true
  held_text t None h = refl
  held_text t (Some v) h = value_texts t v h

  pub held_texts : (xs : List Variable) (os : List (Option Value)) → HoldAll classes xs W os → list_all holds_utf8_texts os ≡ true
  held_texts [] [] h = refl
  held_texts [] (o ∷ os) h = absurd h
  held_texts (x ∷ xs) [] h = absurd h
  held_texts (x ∷ xs) (o ∷ os) h = both (holds_utf8_texts o) (list_all holds_utf8_texts os) (held_text x.1 o h.0) (held_texts xs os h.1)

  part_texts : (t : Sort) (o : Object) → Is classes t W o → has_utf8_parts o ≡ true
  part_texts (ListOf t) (ListObj vs) h = each_texts t vs h
  part_texts (DictOf a t) (DictObj ps) h = pair_texts a t ps h
  part_texts (Instance c) (InstObj d vs) h = held_texts (attributes classes c) vs h.1
  part_texts _ _ h = absurd h

  pub stored_texts : (ts : List Sort) (os : Store) → Stored classes W ts os → list_all has_utf8_parts os ≡ true
  stored_texts [] [] h = refl
  stored_texts [] (o ∷ os) h = absurd h
  stored_texts (t ∷ ts) [] h = absurd h
  stored_texts (t ∷ ts) (o ∷ os) h = both (has_utf8_parts o) (list_all has_utf8_parts os) (part_texts t o h.0) (stored_texts ts os h.1)

texts_pass : (m : TypedModule) (vars : List Variable) → Passes true m vars utf8_texts
texts_pass m vars W s g t v h = ap (λ b. needs b (give v) s) (value_texts m.classes.classes W t v h)

-- ---- where a run stops

stops : (m : TypedModule) (W : World true) (s : State) (e : _) → ends_in_utf8 e ≡ true → Stored m.classes.classes W W.types s.store → HoldAll m.classes.classes m.globals W s.globals → is_utf8 s.output ≡ true → StopsInUtf8 (stopped s e)
stops m W s e h store globals output = record {
  output = output;
  ending = h;
  store = stored_texts m.classes.classes W W.types s.store store;
  variables = held_texts m.classes.classes W m.globals s.globals globals;
}

raised_ends : (v : Value) → IsThrown true v → ends_in_utf8 (raised_as v) ≡ true
raised_ends v h = ap (λ z. ends_in_utf8 (raised_as z)) h.1 ∙ h.2 refl

ends : (m : TypedModule) (b c : Bool) (B names : List ℕ) (W : World true) (s : State) (o : Outcome Flow) → Post m [] B W s (FlowIs m None false b c names) o → StopsInUtf8 (stop_of o)
ends m b c B names W s (Gives Goes u) p = stops m p.0 u _ refl p.1.good.store p.1.good.globals (p.1.good.texts refl).output
ends m b c B names W s (Gives Breaks u) p = absurd (cc p.2.0)
ends m b c B names W s (Gives Continues u) p = absurd (cc p.2)
ends m b c B names W s (Gives (Returns v) u) p = absurd p.2
ends m b c B names W s (Raises e u) p = stops m p.0 u _ (raised_ends e p.2) p.1.good.store p.1.good.globals (p.1.good.texts refl).output
ends m b c B names W s (Stops Cut u) p = stops m p.world u _ refl p.store p.globals (p.output refl)
ends m b c B names W s (Stops OverLine u) p = stops m p.world u _ refl p.store p.globals (p.output refl)
ends m b c B names W s (Stops Broken u) p = stops m p.world u _ refl p.store p.globals (p.output refl)
ends m b c B names W s (Stops Stuck u) p = absurd p

pub texts_are_utf8 : TextsAreUtf8
unfolding source_run watched_run
texts_are_utf8 is_identifier in_utf8 m w n items lines =
    let top : _ =
    fine_top {utf8 = true} m (facts_hold is_identifier m w) utf8_texts (texts_pass m) (funcs_are is_identifier m w) n items
    (λ q. record { output = ascii_text [] refl; items = lines; names = names_are is_identifier m w in_utf8; locals = λ i. ascii_text [] refl }) (top_typed is_identifier m w)
    in
    (ends m _ _ _ _ _ _ _ top.post, ap stop_of top.same)

-- ---- the lines of an input

line_texts : (text : List ℕ) (next : Items) → has_utf8_lines next ≡ true → has_utf8_lines (line_before text next) ≡ true
line_texts text next h = by (is_utf8 text) refl
  where
    by : (b : Bool) → is_utf8 text ≡ b → has_utf8_lines (cond b (Line text next) (Bad next)) ≡ true
    by true e = both (is_utf8 text) (has_utf8_lines next) e h
    by false e = h

end_texts : (e : InputEnd) → has_utf8_lines (end_of_input e) ≡ true
end_texts AtEof = refl
end_texts AtFailure = refl

lines_texts : (before : ℕ) (e : InputEnd) (ps : List (List ℕ)) → has_utf8_lines (lines_from before e ps) ≡ true
lines_texts before e [] = end_texts e
lines_texts before e (p ∷ ps) = by (nat_lt most_input (before + length p)) (is_whole e p) (lines_texts (before + length p) e ps)
  where
    by : (b c : Bool) → has_utf8_lines (lines_from (before + length p) e ps) ≡ true → has_utf8_lines (cond b Over (cond c (line_before (unended p) (lines_from (before + length p) e ps)) (end_of_input e))) ≡ true
    by true c h = refl
    by false true h = line_texts (unended p) (lines_from (before + length p) e ps) h
    by false false h = end_texts e

pub lines_are_utf8 : LinesAreUtf8
lines_are_utf8 bytes e = lines_texts 0 e (pieces bytes)
