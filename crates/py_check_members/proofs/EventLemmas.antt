-- One event further.
use Rattle.std.proofs.Common.{◌≡◌, ◌∙◌, ℕ, suc, ◌+◌, ◌<◌, Bool, true, false, ◌&&◌, List, [], ◌∷◌, ◌++◌, length, drop, get_or, drop-cons, add-one, Option, Some, None, refl, sym, ap, cond, if◌then◌else◌}
use Rattle.std.specs.Option.{option_or}
use Rattle.std.specs.Str.{bytes_eq}
use Rattle.std.proofs.lemmas.List.{append_assoc}
use Rattle.py_syntax.specs.declared.token.Span.{Span}
use Rattle.py_syntax_diagnostics.specs.declared.diagnostic.Diag.{Diag}
use Rattle.py_check_context.specs.declared.scope.Meaning.{Meaning}
use Rattle.py_check_context.specs.Members.{Member}
use Rattle.py_check_members.specs.declared.events.Event as declared
use Rattle.py_check_members.specs.Deeds.{Event}
use Rattle.py_check_members.specs.Members.{Places, Above, places, made_by, made_from, with_new, is_named_in, is_annotated_at, annotated_from, is_annotation, is_declaration}
use Rattle.py_check_members.specs.Bodies.{refused_said, refused_from}
use Rattle.py_check_members.specs.Tables.{span_or, place_of}
use Rattle.py_check_members.specs.Views.{event_of, events_of}

pub events_at : (vs : List declared.Event) (i : ℕ) (v : declared.Event) → i < length vs → v ≡ get_or vs i v → events_of (drop i vs) ≡ event_of v ∷ events_of (drop (i + 1) vs)
events_at vs i v h at =
    ap events_of (drop-cons vs i v h)
    ∙ ap (λ w. event_of w ∷ events_of (drop (suc i) vs)) (sym at)
    ∙ ap (λ n. event_of v ∷ events_of (drop n vs)) (sym (add-one i))

-- ---- members

pub with_new_append : (row xs ys : List (List ℕ × Member)) → with_new row (xs ++ ys) ≡ with_new (with_new row xs) ys
with_new_append row [] ys = refl
with_new_append row (x ∷ xs) ys = with_new_append (if is_named_in row x.0 then row else row ++ x ∷ []) xs ys

module _ (meanings inner : List ℕ → Meaning) (class : ℕ) (above : List ℕ → Above) where
  pub made_on : (vs : List declared.Event) (i : ℕ) (v : declared.Event) (found : List ℕ → Places) (row more whole : List (List ℕ × Member)) → i < length vs → v ≡ get_or vs i v
      → found v.name.now ≡ places (events_of vs) v.name.now
      → more ≡ with_new row (made_by meanings inner class above (events_of vs) (found v.name.now) (above v.name.now) i (event_of v))
      → with_new row (made_from meanings inner class above (events_of vs) i (events_of (drop i vs))) ≡ whole
      → with_new more (made_from meanings inner class above (events_of vs) (i + 1) (events_of (drop (i + 1) vs))) ≡ whole
  made_on vs i v found row more whole h at first put sofar =
      ap (λ r. with_new r (made_from meanings inner class above (events_of vs) (i + 1) (events_of (drop (i + 1) vs)))) (put ∙ ap (λ p. with_new row (made_by meanings inner class above (events_of vs) p (above v.name.now) i (event_of v))) first)
      ∙ sym (with_new_append row (made_by meanings inner class above (events_of vs) (places (events_of vs) v.name.now) (above v.name.now) i (event_of v)) (made_from meanings inner class above (events_of vs) (i + 1) (events_of (drop (i + 1) vs))))
      ∙ ap (λ l. with_new row (made_from meanings inner class above (events_of vs) i l)) (sym (events_at vs i v h at))
      ∙ sofar

-- ---- what is said

pub refused_on : (meanings : List ℕ → Meaning) (vs : List declared.Event) (i : ℕ) (v : declared.Event) (row more whole : List Diag) → i < length vs → v ≡ get_or vs i v
    → more ≡ row ++ refused_said meanings (events_of vs) i (event_of v)
    → row ++ refused_from meanings (events_of vs) i (events_of (drop i vs)) ≡ whole
    → more ++ refused_from meanings (events_of vs) (i + 1) (events_of (drop (i + 1) vs)) ≡ whole
refused_on meanings vs i v row more whole h at put sofar =
    ap (λ r. r ++ refused_from meanings (events_of vs) (i + 1) (events_of (drop (i + 1) vs))) put
    ∙ append_assoc row (refused_said meanings (events_of vs) i (event_of v)) (refused_from meanings (events_of vs) (i + 1) (events_of (drop (i + 1) vs)))
    ∙ ap (λ l. row ++ refused_from meanings (events_of vs) i l) (sym (events_at vs i v h at))
    ∙ sofar

-- ---- places of declarations

or_first : {A : Type 0} (o p r : Option A) → option_or (option_or o p) r ≡ option_or o (option_or p r)
or_first None p r = refl
or_first (Some a) p r = refl

annotated_step : (b : Bool) (place : Span) (rest : Option Span) → option_or (if b then Some place else None) rest ≡ (if b then Some place else rest)
annotated_step true place rest = refl
annotated_step false place rest = refl

pub places_on : (vs : List declared.Event) (i : ℕ) (v : declared.Event) (name : List ℕ) (old new whole : Option Span) → i < length vs → v ≡ get_or vs i v
    → new ≡ span_or old (place_of (events_of vs) name i (event_of v))
    → span_or old (annotated_from (events_of vs) name i (events_of (drop i vs))) ≡ whole
    → span_or new (annotated_from (events_of vs) name (i + 1) (events_of (drop (i + 1) vs))) ≡ whole
places_on vs i v name old new whole h at put sofar =
    ap (λ o. span_or o (annotated_from (events_of vs) name (i + 1) (events_of (drop (i + 1) vs)))) put
    ∙ or_first old (place_of (events_of vs) name i (event_of v)) (annotated_from (events_of vs) name (i + 1) (events_of (drop (i + 1) vs)))
    ∙ ap (span_or old) (annotated_step (is_annotated_at (events_of vs) name i (event_of v)) v.place (annotated_from (events_of vs) name (i + 1) (events_of (drop (i + 1) vs))))
    ∙ ap (λ l. span_or old (annotated_from (events_of vs) name i l)) (sym (events_at vs i v h at))
    ∙ sofar

or_none : {A : Type 0} (o : Option A) → o ≡ option_or o None
or_none None = refl
or_none (Some a) = refl

never : (b : Bool) (place : Span) → (if b && false then Some place else None) ≡ None
never true place = refl
never false place = refl

-- what an event leaves that declares nothing so, and what one adds that does
pub place_kept : (events : List Event) (name : List ℕ) (i : ℕ) (v : Event) (old : Option Span) → (is_annotation (Some v.deed) && is_declaration events i v) ≡ false → old ≡ span_or old (place_of events name i v)
place_kept events name i v old e =
    or_none old ∙ sym (ap (λ b. option_or old (if bytes_eq name v.name && b then Some v.place else None)) e ∙ ap (option_or old) (never (bytes_eq name v.name) v.place))

always : (b : Bool) (place : Span) → cond b (Some place) None ≡ (if b && true then Some place else None)
always true place = refl
always false place = refl

pub place_added : (events : List Event) (name : List ℕ) (i : ℕ) (v : Event) (old new : Option Span) → (is_annotation (Some v.deed) && is_declaration events i v) ≡ true → new ≡ option_or old (cond (bytes_eq name v.name) (Some v.place) None) → new ≡ span_or old (place_of events name i v)
place_added events name i v old new e put =
    put ∙ ap (option_or old) (always (bytes_eq name v.name) v.place ∙ sym (ap (λ b. if bytes_eq name v.name && b then Some v.place else None) e))
