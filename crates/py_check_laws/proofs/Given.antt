-- The words of typing taken apart: where a whole is typed, so are its parts.
use Rattle.std.proofs.Common.{◌≡◌, Bool, true, false, List, ◌∷◌, Option, Some, None, Result, Ok, Err, refl, ap, ◌∙◌, if◌then◌else◌}
use Rattle.std.proofs.lemmas.Option.{same_Some}
use Rattle.std.specs.Option.{option_map, option_zip}
use Rattle.std.specs.Prelude.{is_some}
use Rattle.py_syntax.specs.declared.token.Span.{Span}
use Rattle.py_check_messages.specs.Seen.{Seen, Message, both, judged, behind, ruled, rule, made}
use Rattle.py_check_messages.specs.Rows.{row_then}
use Rattle.py_check_coercions.specs.Several.{unless, with_part}

abbrev pub done : {A : Type 0} → A → Result A Message
done a = Ok a

pub ok_same : {A : Type 0} (a b : A) → done a ≡ Ok b → a ≡ b
ok_same a b e = cc

-- a value, if it is there
pub some_of : {A : Type 0} (o : Option A) → is_some o ≡ true → (a : A) × (o ≡ Some a)
some_of None e = absurd (cc)
some_of (Some a) e = (a, refl)

pub some_is : {A : Type 0} (o : Option A) (a : A) → o ≡ Some a → is_some o ≡ true
some_is o a e = ap is_some e

made_by : {A B : Type 0} (f : A → B) (s : Seen A) (b : B) (o : Option A) → s.got ≡ o → option_map f o ≡ Some b → (a : A) × (s.got ≡ Some a) × (f a ≡ b)
made_by f s b None q e = absurd (cc)
made_by f s b (Some a) q e = (a, q, same_Some (f a) b e)

pub made_given : {A B : Type 0} (f : A → B) (s : Seen A) (b : B) → (made f s).got ≡ Some b → (a : A) × (s.got ≡ Some a) × (f a ≡ b)
made_given f s b e = made_by f s b s.got refl e

both_by : {A B : Type 0} (s : Seen A) (t : Seen B) (p : A × B) (a : Option A) (b : Option B) → s.got ≡ a → t.got ≡ b → option_zip a b ≡ Some p → (s.got ≡ Some p.0) × (t.got ≡ Some p.1)
both_by s t p None b q r e = absurd (cc)
both_by s t p (Some a) None q r e = absurd (cc)
both_by {A = A} {B = B} s t p (Some a) (Some b) q r e =
    let same : ◌≡◌ {A = A × B} (a, b) p = same_Some (a, b) p e in
    (q ∙ ap (λ (x : A × B). Some x.0) same, r ∙ ap (λ (x : A × B). Some x.1) same)

pub both_given : {A B : Type 0} (s : Seen A) (t : Seen B) (p : A × B) → (both s t).got ≡ Some p → (s.got ≡ Some p.0) × (t.got ≡ Some p.1)
both_given s t p e = both_by s t p s.got t.got refl refl e

pub judged_given : {A : Type 0} (span : Span) (r : Result A Message) (a : A) → (judged span r).got ≡ Some a → r ≡ Ok a
judged_given span (Ok b) a e = ap done (same_Some b a e)
judged_given span (Err m) a e = absurd (cc)

rule_by : {A B : Type 0} (span : Span) (f : A → Result B Message) (s : Seen A) (b : B) (o : Option A) → s.got ≡ o → (ruled span f o).got ≡ Some b → (a : A) × (s.got ≡ Some a) × (f a ≡ Ok b)
rule_by span f s b None q e = absurd (cc)
rule_by span f s b (Some a) q e = (a, q, judged_given span (f a) b e)

pub rule_given : {A B : Type 0} (span : Span) (f : A → Result B Message) (s : Seen A) (b : B) → (rule span f s).got ≡ Some b → (a : A) × (s.got ≡ Some a) × (f a ≡ Ok b)
rule_given span f s b e = rule_by span f s b s.got refl e

part_by : {A B : Type 0} (s : Seen A) (f : A → Seen B) (b : B) (o : Option A) → s.got ≡ o → (with_part o f).got ≡ Some b → (a : A) × (s.got ≡ Some a) × ((f a).got ≡ Some b)
part_by s f b None q e = absurd (cc)
part_by s f b (Some a) q e = (a, q, e)

-- what is made of a part that is typed
pub part_given : {A B : Type 0} (s : Seen A) (f : A → Seen B) (b : B) → (behind s (λ p. with_part p f)).got ≡ Some b → (a : A) × (s.got ≡ Some a) × ((f a).got ≡ Some b)
part_given s f b e = part_by s f b s.got refl e

pub row_given : {A : Type 0} (one : Seen A) (rest : Seen (List A)) (l : List A) → (row_then one rest).got ≡ Some l → (a : A) × (more : List A) × (one.got ≡ Some a) × (rest.got ≡ Some more) × (a ∷ more ≡ l)
row_given {A = A} one rest l e =
    let r = made_given (λ (p : A × List A). p.0 ∷ p.1) (both one rest) l e in
    let q = both_given one rest r.0 r.1 in
    (r.0.0, r.0.1, q.0, q.1, r.2)

-- ---- rules

pub if_then : {A : Type 0} (c : Bool) (r : Result A Message) (m : Message) (a : A) → (if c then r else Err m) ≡ Ok a → (c ≡ true) × (r ≡ Ok a)
if_then true r m a e = (refl, e)
if_then false r m a e = absurd (cc)

pub unless_ok : {A : Type 0} (o : Option Message) (x b : A) → unless o x ≡ Ok b → (o ≡ None) × (x ≡ b)
unless_ok None x b e = (refl, ok_same x b e)
unless_ok (Some m) x b e = absurd (cc)

pub mapped_none : {A B : Type 0} (f : A → B) (o : Option A) → option_map f o ≡ None → o ≡ None
mapped_none f None e = refl
mapped_none f (Some a) e = absurd (cc)
