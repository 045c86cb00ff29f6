-- What is said of parts that are refused where all of them are typed.
use Rattle.std.proofs.Common.{◌≡◌, Bool, ◌&&◌, List, [], ◌∷◌, ◌++◌, Option, Some, None, Result, Ok, Err, IfOk, is_some, refl, ap, sym, ◌∙◌, append_assoc}
use Rattle.std.specs.Prelude.{if◌then◌else◌}
use Rattle.std.specs.Option.{option_map, option_zip}
use Rattle.value_core.specs.declared.memory.Memory.{Memory}
use Rattle.py_syntax.specs.declared.token.Span.{Span}
use Rattle.py_syntax_diagnostics.specs.declared.diagnostic.Diag.{Diag}
use Rattle.py_typed.specs.Statements.{TypedAct}
use Rattle.py_check_messages.specs.Seen.{Seen, Tells, both, behind, diag, fails}
use Rattle.py_check_messages.specs.Messages.{no_target}
use Rattle.py_check_coercions.specs.Several.{with_part}
use Rattle.py_check_targets.specs.Views.{boxed_act}
use Rattle.py_check_assignments.specs.Views.{Shows}

-- a part is typed where what the program has of it is there
pub shown : {A B : Type 0} (view : B → A) (o : Option B) (typed : Bool) (old new : List Diag) (s : Seen A) → Tells view o old new s → typed ≡ is_some o → Shows typed old new s
shown view None typed old new s told is = (is ∙ ap is_some told.0, told.1)
shown view (Some x) typed old new s told is = (is ∙ ap is_some told.0, told.1)

-- what was said of it is put behind the rest
pub given_shown : {A B : Type 0} (view : B → A) (o : Option B) (typed : Bool) (said old new : List Diag) → typed ≡ is_some o → new ≡ old ++ said → Shows typed old new (record { got = option_map view o; said = said })
given_shown view None typed said old new is put = (is, put)
given_shown view (Some x) typed said old new is put = (is, put)

joined : {A B : Type 0} (o : Option A) (p : Option B) (a b : Bool) → a ≡ is_some o → b ≡ is_some p → (a && b) ≡ is_some (option_zip o p)
joined None p a b is_a is_b = ap (λ x. x && b) is_a
joined (Some x) None a b is_a is_b = ap (λ y. y && b) is_a ∙ is_b
joined (Some x) (Some y) a b is_a is_b = ap (λ z. z && b) is_a ∙ is_b

-- two parts, one behind the other
pub both_shown : {A B : Type 0} (s : Seen A) (t : Seen B) (a b complete : Bool) (old mid new : List Diag) → complete ≡ (a && b) → Shows a old mid s → Shows b mid new t → Shows complete old new (both s t)
both_shown s t a b complete old mid new is first second = (
  is ∙ joined s.got t.got a b first.0 second.0,
  second.1 ∙ ap (λ l. l ++ t.said) first.1 ∙ append_assoc old s.said t.said,
)

abbrev pub refusal : {A : Type 0} → Span → Option A → Seen TypedAct
refusal span o = with_part o (λ q. fails span no_target)

abbrev said_where : Span → Bool → List Diag
said_where span typed = if typed then diag span no_target ∷ [] else []

none_given : {A : Type 0} (span : Span) (o : Option A) → None ≡ (refusal span o).got
none_given span None = refl
none_given span (Some a) = refl

said_so : {A : Type 0} (span : Span) (o : Option A) → said_where span (is_some o) ≡ (refusal span o).said
said_so span None = refl
said_so span (Some a) = refl

-- it is said behind what was said of the parts
pub refused_so : {A : Type 0} (span : Span) (s : Seen A) (typed : Bool) (old mid new : List Diag) → Shows typed old mid s → new ≡ mid ++ (if typed then diag span no_target ∷ [] else []) → Tells boxed_act None old new (behind s (λ p. with_part p (λ q. fails span no_target)))
refused_so span s typed old mid new shows said = (
  none_given span s.got,
  said
      ∙ ap (λ l. l ++ said_where span typed) shows.1
      ∙ append_assoc old s.said (said_where span typed)
      ∙ ap (λ b. old ++ (s.said ++ said_where span b)) shows.0
      ∙ ap (λ l. old ++ (s.said ++ l)) (said_so span s.got),
)

pub refused_last : {A : Type 0} (span : Span) (s : Seen A) (typed : Bool) (r : Result (Unit {0}) Memory) (old mid new : List Diag) → Shows typed old mid s → IfOk r (λ done. new ≡ mid ++ (if typed then diag span no_target ∷ [] else [])) → IfOk r (λ done. Tells boxed_act None old new (behind s (λ p. with_part p (λ q. fails span no_target))))
refused_last span s typed (Ok done) old mid new shows said = refused_so span s typed old mid new shows said
refused_last span s typed (Err m) old mid new shows said = tt

-- what is said behind one more part
pub value_refused : {A : Type 0} (span : Span) (v : Seen A) (complete typed whole : Bool) (r : Result (Unit {0}) Memory) (old mid new : List Diag) → whole ≡ (complete && typed) → Shows typed old mid v → IfOk r (λ done. new ≡ mid ++ (if whole then diag span no_target ∷ [] else [])) → IfOk r (λ done. new ≡ old ++ (v.said ++ (if complete && is_some v.got then diag span no_target ∷ [] else [])))
value_refused span v complete typed whole (Err m) old mid new is shows said = tt
value_refused span v complete typed whole (Ok done) old mid new is shows said =
    said
    ∙ ap (λ l. l ++ said_where span whole) shows.1
    ∙ append_assoc old v.said (said_where span whole)
    ∙ ap (λ b. old ++ (v.said ++ said_where span b)) (is ∙ ap (λ b. complete && b) shows.0)

-- two parts, of which the last was refused so
pub refused_with : {A B : Type 0} (span : Span) (s : Seen A) (v : Seen B) (complete : Bool) (old mid new : List Diag) → Shows complete old mid s → new ≡ mid ++ (v.said ++ (if complete && is_some v.got then diag span no_target ∷ [] else [])) → Tells boxed_act None old new (behind (both s v) (λ p. with_part p (λ q. fails span no_target)))
refused_with span s v complete old mid new shows said =
    let whole = complete && is_some v.got in
    let both_show : Shows whole old (mid ++ v.said) (both s v) = both_shown s v complete (is_some v.got) whole old mid (mid ++ v.said) refl shows (refl, refl) in
    refused_so span (both s v) whole old (mid ++ v.said) new both_show (said ∙ sym (append_assoc mid v.said (said_where span whole)))

pub refused_with_last : {A B : Type 0} (span : Span) (s : Seen A) (v : Seen B) (complete : Bool) (r : Result (Unit {0}) Memory) (old mid new : List Diag) → Shows complete old mid s → IfOk r (λ done. new ≡ mid ++ (v.said ++ (if complete && is_some v.got then diag span no_target ∷ [] else []))) → IfOk r (λ done. Tells boxed_act None old new (behind (both s v) (λ p. with_part p (λ q. fails span no_target))))
refused_with_last span s v complete (Ok done) old mid new shows said = refused_with span s v complete old mid new shows said
refused_with_last span s v complete (Err m) old mid new shows said = tt
