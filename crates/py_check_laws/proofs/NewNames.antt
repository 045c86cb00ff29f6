-- Functions and classes of a module have names that differ, where each name is new where it stands.
use Rattle.std.proofs.Common.{◌≡◌, ℕ, suc, ◌+◌, ◌≤◌, Bool, true, false, not, ◌||◌, cond, if◌then◌else◌, List, [], ◌∷◌, ◌++◌, length, map, Option, Some, None, refl, ap, ap₂, sym, ◌∙◌, ◌⊎◌, inl, inr, arith, eqb-true}
use Rattle.std.proofs.lemmas.Bool.{and_from, or_parts, or_left, or_right, or_cases}
use Rattle.std.proofs.lemmas.List.Folds.{list_any-append}
use Rattle.std.proofs.lemmas.Option.{same_Some}
use Rattle.std.specs.Prelude.{is_some, slice_get}
use Rattle.std.specs.List.{flat_map, zip}
use Rattle.std.specs.Map.{lookup}
use Rattle.std.specs.Option.{option_or}
use Rattle.std.specs.Str.{bytes_eq}
use Rattle.std.proofs.lemmas.Slice.Eq.{bytes_eq-Decides}
use Rattle.py_syntax.specs.Statements as s
use Rattle.py_syntax.specs.Statements.{StmtTree, FuncTree, ClassTree}
use Rattle.py_syntax_diagnostics.specs.declared.diagnostic.Diag.{Diag}
use Rattle.py_binder.specs.Scope.{contains}
use Rattle.py_typed.specs.WellTyped.{all_differ}
use Rattle.py_typed.proofs.FitLemmas.{and_left, and_right}
use Rattle.py_check_context.specs.declared.scope.Meaning.{Meaning}
use Rattle.py_check_context.specs.declared.scope.Meaning.TheVariants as meaning
use Rattle.py_check_names.specs.Builtins.{builtin_meaning}
use Rattle.py_check_names.specs.Outline.{methods_in, held_by, said_by, said_from}
use Rattle.py_check_classes.specs.Names.{class_in, class_count, with_number, numbered, said_of_names, class_number, is_number, meaning_of, is_new}
use Rattle.py_check_classes.specs.declared.header.Header.{Header}
use Rattle.py_check_classes.specs.declared.header.Header.TheVariants as head
use Rattle.py_check_classes.specs.Headers.{has_type}
use Rattle.py_check_members.specs.Members.{Owns, own_at, class_entry_of, entries_from, class_entries}
use Rattle.py_check_context.specs.Members.{Member}
use Rattle.py_check_signatures.specs.declared.headers.Owner.{Owner}
use Rattle.py_check_signatures.specs.declared.headers.Owner.TheVariants as owner
use Rattle.py_check_signatures.specs.Definitions.{is_builtin_name}
use Rattle.py_check_signatures.specs.Definitions as def
use Rattle.py_check_definitions.specs.Definitions.{names_given}
use Rattle.py_check_definitions.specs.Owners.{untyped_owner, owners_in, owners_from}
use Rattle.py_check_definitions.specs.Refused.{unless_whole, methods_refused, refused, are_whole, is_whole, refusals}

-- ---- names

abbrev pub def_name : StmtTree → List (List ℕ)
def_name (s.at (s.Def name params ret body marks) span) = name ∷ []
def_name _ = []

abbrev pub class_name : StmtTree → List (List ℕ)
class_name (s.at (s.ClassDef name bases body marks) span) = name ∷ []
class_name _ = []

not_so : (b : Bool) → not b ≡ true → b ≡ false
not_so true h = absurd (cc)
not_so false h = refl

text_is_itself : (x : List ℕ) → bytes_eq x x ≡ true
text_is_itself x = (bytes_eq-Decides x x).1 refl

same_text : (x y : List ℕ) → bytes_eq x y ≡ true → x ≡ y
same_text x y e = (bytes_eq-Decides x y).0 e

clash : (b : Bool) → b ≡ true → b ≡ false → ⊥
clash b p q = let r : true ≡ false = sym p ∙ q in cc

pub not_in : (a b : List (List ℕ)) (x : List ℕ) → contains (a ++ b) x ≡ false → (contains a x ≡ false) × (contains b x ≡ false)
not_in a b x h = or_parts (contains a x) (contains b x) (sym (list_any-append (bytes_eq x) a b) ∙ h)

pub differ_two : (a b : List (List ℕ)) → all_differ a ≡ true → all_differ b ≡ true → ((x : List ℕ) → contains a x ≡ true → contains b x ≡ false) → all_differ (a ++ b) ≡ true
differ_two [] b p q h = q
differ_two (x ∷ a) b p q h =
    let out : contains (a ++ b) x ≡ false =
    list_any-append (bytes_eq x) a b ∙ ap₂ (λ (y z : Bool). y || z) (not_so (contains a x) (and_left (not (contains a x)) (all_differ a) p)) (h x (or_left (bytes_eq x x) (contains a x) (text_is_itself x))) in
    and_from (not (contains (a ++ b) x)) (all_differ (a ++ b)) (ap not out) (differ_two a b (and_right (not (contains a x)) (all_differ a) p) q (λ y g. h y (or_right (bytes_eq y x) (contains a y) g)))

-- names that differ, and none of which stands earlier
pub record Fresh (earlier names : List (List ℕ)) : Type 0 where
  pub differ : all_differ names ≡ true
  pub new : (x : List ℕ) → contains names x ≡ true → contains earlier x ≡ false

pub one_more : (earlier : List (List ℕ)) (name : List ℕ) (names : List (List ℕ)) → contains earlier name ≡ false → Fresh (earlier ++ name ∷ []) names → Fresh earlier (name ∷ names)
one_more earlier name names h r = record {
  differ = and_from (not (contains names name)) (all_differ names) (ap not (absent (contains names name) refl)) r.differ;
  new = λ x q. by x (or_cases (bytes_eq x name) (contains names x) q);
}
  where
    absent : (b : Bool) → contains names name ≡ b → contains names name ≡ false
    absent true q = absurd (clash (bytes_eq name name) (text_is_itself name) (or_parts (bytes_eq name name) false (not_in earlier (name ∷ []) name (r.new name q)).1).0)
    absent false q = q

    by : (x : List ℕ) → (bytes_eq x name ≡ true) ⊎ (contains names x ≡ true) → contains earlier x ≡ false
    by x (inl p) = ap (contains earlier) (same_text x name p) ∙ h
    by x (inr p) = (not_in earlier (name ∷ []) x (r.new x p)).0

module _ (said : List ℕ → Option Meaning) where
  -- behind these names and so many classes the name of a definition is new
  abbrev pub IsNew : List (List ℕ) → ℕ → StmtTree → Type 0
  IsNew earlier n (s.at (s.Def name params ret body marks) span) = def.is_new earlier name ≡ true
  IsNew earlier n (s.at (s.ClassDef name bases body marks) span) = is_new said n name ≡ true
  IsNew earlier n _ = Unit {0}

  abbrev pub AllNew : List (List ℕ) → ℕ → List StmtTree → Type 0
  AllNew earlier n [] = Unit {0}
  AllNew earlier n (d ∷ ds) = IsNew earlier n d × AllNew (earlier ++ names_given d) (n + length (class_in d)) ds

  -- ---- functions

  fresh_step : (earlier : List (List ℕ)) (n : ℕ) (d : StmtTree) (names : List (List ℕ)) → IsNew earlier n d → Fresh (earlier ++ names_given d) names → Fresh earlier (def_name d ++ names)
  fresh_step earlier n (s.at (s.Def name params ret body marks) span) names h r =
      one_more earlier name names (not_so (contains earlier name) (and_left (not (contains earlier name)) (not (is_builtin_name name)) h)) r
  fresh_step earlier n d names h r = record { differ = r.differ; new = λ y q. (not_in earlier (names_given d) y (r.new y q)).0 }

  defs_fresh : (earlier : List (List ℕ)) (n : ℕ) (ds : List StmtTree) → AllNew earlier n ds → Fresh earlier (flat_map def_name ds)
  defs_fresh earlier n [] h = record { differ = refl; new = λ x q. absurd (cc) }
  defs_fresh earlier n (d ∷ ds) h = fresh_step earlier n d (flat_map def_name ds) h.0 (defs_fresh (earlier ++ names_given d) (n + length (class_in d)) ds h.1)

  -- ---- classes

  -- a name means a class of a number, which is not below this one
  record IsClassFrom (n : ℕ) (x : List ℕ) : Type 0 where
    number : ℕ
    least : n ≤ number
    is : class_number (meaning_of said x) ≡ Some number

  numbered_is : (n : ℕ) (o : Option ℕ) → is_number n o ≡ true → o ≡ Some n
  numbered_is n None h = absurd (cc)
  numbered_is n (Some k) h = ap Some (eqb-true k n h)

  later : (n : ℕ) (x : List ℕ) → IsClassFrom (suc n) x → IsClassFrom n x
  later n x r = record { number = r.number; least = down n r.number r.least; is = r.is }
    where
      down : (n k : ℕ) → suc n ≤ k → n ≤ k
      down n k h = omega (arith, h)

  -- names of classes that differ, each of a number from this one on
  record Classes (n : ℕ) (names : List (List ℕ)) : Type 0 where
    differ : all_differ names ≡ true
    each : (x : List ℕ) → contains names x ≡ true → IsClassFrom n x

  class_step : (earlier : List (List ℕ)) (n : ℕ) (d : StmtTree) (names : List (List ℕ)) → IsNew earlier n d → Classes (n + length (class_in d)) names → Classes n (class_name d ++ names)
  class_step earlier n (s.at (s.ClassDef name bases body marks) span) names h r = record {
    differ = and_from (not (contains names name)) (all_differ names) (ap not (absent (contains names name) refl)) r.differ;
    each = λ x q. by x (or_cases (bytes_eq x name) (contains names x) q);
  }
    where
      here : class_number (meaning_of said name) ≡ Some n
      here = numbered_is n (class_number (meaning_of said name)) h

      past : (n k : ℕ) → n + 1 ≤ k → k ≡ n → ⊥
      past n k l e = omega (arith, l, e)

      same : (n : ℕ) → n ≤ n
      same n = omega arith

      weaker : (n k : ℕ) → n + 1 ≤ k → n ≤ k
      weaker n k l = omega (arith, l)

      absent : (b : Bool) → contains names name ≡ b → contains names name ≡ false
      absent true q = let w = r.each name q in absurd (past n w.number w.least (same_Some w.number n (sym w.is ∙ here)))
      absent false q = q

      by : (x : List ℕ) → (bytes_eq x name ≡ true) ⊎ (contains names x ≡ true) → IsClassFrom n x
      by x (inl p) = record { number = n; least = same n; is = ap (λ y. class_number (meaning_of said y)) (same_text x name p) ∙ here }
      by x (inr p) = let w = r.each x p in record { number = w.number; least = weaker n w.number w.least; is = w.is }
  class_step earlier n (s.at (s.Def name params ret body marks) span) names h r = record { differ = r.differ; each = λ x q. let w = r.each x q in record { number = w.number; least = lower n w.number w.least; is = w.is } }
    where
      lower : (n k : ℕ) → n + 0 ≤ k → n ≤ k
      lower n k l = omega (arith, l)
  class_step earlier n d names h r = record { differ = r.differ; each = λ x q. let w = r.each x q in record { number = w.number; least = lower n w.number w.least; is = w.is } }
    where
      lower : (n k : ℕ) → n + 0 ≤ k → n ≤ k
      lower n k l = omega (arith, l)

  classes_differ : (earlier : List (List ℕ)) (n : ℕ) (ds : List StmtTree) → AllNew earlier n ds → Classes n (flat_map class_name ds)
  classes_differ earlier n [] h = record { differ = refl; each = λ x q. absurd (cc) }
  classes_differ earlier n (d ∷ ds) h = class_step earlier n d (flat_map class_name ds) h.0 (classes_differ (earlier ++ names_given d) (n + length (class_in d)) ds h.1)

-- ---- what a name of a function means

-- entries of other names are passed
record Passes (x : List ℕ) (a b : List (List ℕ × Meaning)) (c : ℕ) : Type 0 where
  next : ℕ
  is : lookup (bytes_eq x) (numbered c (a ++ b)) ≡ lookup (bytes_eq x) (numbered next b)

passes : (x : List ℕ) (a b : List (List ℕ × Meaning)) (c : ℕ) → contains (map (λ p. p.0) a) x ≡ false → Passes x a b c
passes x [] b c h = record { next = c; is = refl }
passes x (p ∷ a) b c h =
    let w = or_parts (bytes_eq x p.0) (contains (map (λ p. p.0) a) x) h in
    let r = passes x a b (c + class_count p.1) w.1 in
    record { next = r.next; is = ap (λ (o : Bool). cond o (Some (with_number c p.1)) (lookup (bytes_eq x) (numbered (c + class_count p.1) (a ++ b)))) w.0 ∙ r.is }

names_by : (next : ℕ) (d : StmtTree) → map (λ p. p.0) (said_by next d) ≡ names_given d
names_by next (s.at (s.Def name params ret body marks) span) = refl
names_by next (s.at (s.ClassDef name bases body marks) span) = refl
names_by next (s.at (s.Import name other) span) = refl
names_by next (s.at (s.From name names) span) = refl
names_by next d = refl

means_step : (x : List ℕ) (earlier : List (List ℕ)) (d : StmtTree) (ds : List StmtTree) (f c : ℕ) → contains (def_name d ++ flat_map def_name ds) x ≡ true → Fresh (earlier ++ names_given d) (flat_map def_name ds) → ((k : ℕ) → contains (flat_map def_name ds) x ≡ true → class_number (lookup (bytes_eq x) (numbered k (said_from (f + length (held_by d)) ds))) ≡ None)
    → class_number (lookup (bytes_eq x) (numbered c (said_by f d ++ said_from (f + length (held_by d)) ds))) ≡ None
means_step x earlier (s.at (s.Def name params ret body marks) span) ds f c q r next = by (bytes_eq x name) q
  where
    by : (b : Bool) → (b || contains (flat_map def_name ds) x) ≡ true → class_number (cond b (Some (meaning.Function f)) (lookup (bytes_eq x) (numbered (c + 0) (said_from (f + 1) ds)))) ≡ None
    by true g = refl
    by false g = next (c + 0) g
means_step x earlier d ds f c q r next =
    let w = passes x (said_by f d) (said_from (f + length (held_by d)) ds) c (ap (λ l. contains l x) (names_by f d) ∙ (not_in earlier (names_given d) x (r.new x q)).1) in ap class_number w.is ∙ next w.next q

def_means : (said : List ℕ → Option Meaning) (x : List ℕ) (earlier : List (List ℕ)) (n : ℕ) (ds : List StmtTree) (f c : ℕ) → AllNew said earlier n ds → contains (flat_map def_name ds) x ≡ true → class_number (lookup (bytes_eq x) (numbered c (said_from f ds))) ≡ None
def_means said x earlier n [] f c h q = absurd (cc)
def_means said x earlier n (d ∷ ds) f c h q =
    means_step x earlier d ds f c q (defs_fresh said (earlier ++ names_given d) (n + length (class_in d)) ds h.1)
    (λ k g. def_means said x (earlier ++ names_given d) (n + length (class_in d)) ds (f + length (held_by d)) k h.1 g)

none_of : (o : Option Meaning) → not (is_some o) ≡ true → o ≡ None
none_of None h = refl
none_of (Some m) h = absurd (cc)

plain_step : (said : List ℕ → Option Meaning) (x : List ℕ) (earlier : List (List ℕ)) (n : ℕ) (d : StmtTree) (names : List (List ℕ)) → IsNew said earlier n d → contains (def_name d ++ names) x ≡ true → (contains names x ≡ true → builtin_meaning x ≡ None) → builtin_meaning x ≡ None
plain_step said x earlier n (s.at (s.Def name params ret body marks) span) names h q next = by (or_cases (bytes_eq x name) (contains names x) q)
  where
    by : (bytes_eq x name ≡ true) ⊎ (contains names x ≡ true) → builtin_meaning x ≡ None
    by (inl p) = ap builtin_meaning (same_text x name p) ∙ none_of (builtin_meaning name) (and_right (not (contains earlier name)) (not (is_builtin_name name)) h)
    by (inr p) = next p
plain_step said x earlier n d names h q next = next q

defs_plain : (said : List ℕ → Option Meaning) (x : List ℕ) (earlier : List (List ℕ)) (n : ℕ) (ds : List StmtTree) → AllNew said earlier n ds → contains (flat_map def_name ds) x ≡ true → builtin_meaning x ≡ None
defs_plain said x earlier n [] h q = absurd (cc)
defs_plain said x earlier n (d ∷ ds) h q = plain_step said x earlier n d (flat_map def_name ds) h.0 q (λ g. defs_plain said x (earlier ++ names_given d) (n + length (class_in d)) ds h.1 g)

-- FUNCTIONS AND CLASSES of a module have names that differ
pub new_names_differ : (ds : List StmtTree) → AllNew (said_of_names ds) [] 0 ds → all_differ (flat_map def_name ds ++ flat_map class_name ds) ≡ true
new_names_differ ds h =
    differ_two (flat_map def_name ds) (flat_map class_name ds) (defs_fresh (said_of_names ds) [] 0 ds h).differ (classes_differ (said_of_names ds) [] 0 ds h).differ (λ x q. apart x q (contains (flat_map class_name ds) x) refl)
  where
    apart : (x : List ℕ) → contains (flat_map def_name ds) x ≡ true → (b : Bool) → contains (flat_map class_name ds) x ≡ b → contains (flat_map class_name ds) x ≡ false
    apart x q false p = p
    apart x q true p =
        let w = (classes_differ (said_of_names ds) [] 0 ds h).each x p in
        let e : class_number (meaning_of (said_of_names ds) x) ≡ None =
        ap (λ (o : Option Meaning). class_number (option_or o (said_of_names ds x))) (defs_plain (said_of_names ds) x [] 0 ds h q) ∙ def_means (said_of_names ds) x [] 0 ds 0 0 h q in
        let bad : Some w.number ≡ None = sym w.is ∙ e in absurd (cc)

-- ---- whole classes

module _ (headers : List Header) where
  -- where so many classes stand before, a class has a type
  abbrev pub IsTyped : ℕ → StmtTree → Type 0
  IsTyped n (s.at (s.ClassDef name bases body marks) span) = has_type (slice_get headers n) ≡ true
  IsTyped n _ = Unit {0}

  abbrev pub AllTyped : ℕ → List StmtTree → Type 0
  AllTyped n [] = Unit {0}
  AllTyped n (d ∷ ds) = IsTyped n d × AllTyped (n + length (class_in d)) ds

  module _ (owns : List (List (List ℕ × Member))) where
    whole_typed : (n : ℕ) (d : StmtTree) → refused (is_whole headers owns n) d ≡ [] → IsTyped n d
    whole_typed n (s.at (s.ClassDef name bases body marks) span) h = by (is_whole headers owns n) refl h
      where
        by : (b : Bool) → is_whole headers owns n ≡ b → unless_whole b span name ++ methods_refused body ≡ [] → has_type (slice_get headers n) ≡ true
        by true q g = and_left (has_type (slice_get headers n)) (are_whole (own_at owns n)) q
        by false q g = absurd (cc)
    whole_typed n (s.at (s.Def name params ret body marks) span) h = tt
    whole_typed n d h = tt

    front_none : (a b : List Diag) → a ++ b ≡ [] → (a ≡ []) × (b ≡ [])
    front_none [] b h = (refl, h)
    front_none (x ∷ a) b h = absurd (cc)

    -- where nothing is refused each class has a type
    pub all_typed : (n : ℕ) (ds : List StmtTree) → refusals headers owns n ds ≡ [] → AllTyped n ds
    all_typed n [] h = tt
    all_typed n (d ∷ ds) h =
        let w = front_none (refused (is_whole headers owns n) d) (refusals headers owns (n + length (class_in d)) ds) h in
        (whole_typed n d w.0, all_typed (n + length (class_in d)) ds w.1)

-- ---- names of functions that are no methods

-- by whose a function is
abbrev pub own_of : Owner → List ℕ → List (List ℕ)
own_of owner.Module name = name ∷ []
own_of (owner.Class None) name = name ∷ []
own_of (owner.Class (Some c)) name = []
own_of owner.UntypedTrait name = name ∷ []

abbrev pub owned : FuncTree × Owner → List (List ℕ)
owned p = own_of p.1 p.0.name

methods_owned : (n : ℕ) (fs more : List FuncTree) (os : List Owner) → flat_map owned (zip (fs ++ more) (map (λ (f : FuncTree). owner.Class (Some n)) fs ++ os)) ≡ flat_map owned (zip more os)
methods_owned n [] more os = refl
methods_owned n (f ∷ fs) more os = methods_owned n fs more os

owned_step : (headers : List Header) (n : ℕ) (d : StmtTree) (fs : List FuncTree) (os : List Owner) → IsTyped headers n d → flat_map owned (zip (held_by d ++ fs) (owners_in headers n d ++ os)) ≡ def_name d ++ flat_map owned (zip fs os)
owned_step headers n (s.at (s.Def name params ret body marks) span) fs os h = refl
owned_step headers n (s.at (s.ClassDef name bases body marks) span) fs os h =
    ap (λ (b : Bool). flat_map owned (zip (methods_in body ++ fs) (map (λ (f : FuncTree). if b then owner.Class (Some n) else untyped_owner headers n) (methods_in body) ++ os))) h ∙ methods_owned n (methods_in body) fs os
owned_step headers n d fs os h = refl

pub owned_names : (headers : List Header) (n : ℕ) (ds : List StmtTree) → AllTyped headers n ds → flat_map owned (zip (flat_map held_by ds) (owners_from headers n ds)) ≡ flat_map def_name ds
owned_names headers n [] h = refl
owned_names headers n (d ∷ ds) h =
    owned_step headers n d (flat_map held_by ds) (owners_from headers (n + length (class_in d)) ds) h.0 ∙ ap (λ l. def_name d ++ l) (owned_names headers (n + length (class_in d)) ds h.1)

-- ---- names of classes

entry_name : (o : Option Header) (name : List ℕ) (own : List (List ℕ × Member)) → (class_entry_of o name own).name ≡ name
entry_name None name own = refl
entry_name (Some (head.Typed x)) name own = refl
entry_name (Some _) name own = refl

entry_names : (headers : List Header) (owns : Owns) (n : ℕ) (cs : List ClassTree) → map (λ entry. entry.name) (entries_from headers owns n cs) ≡ map (λ (c : ClassTree). c.name) cs
entry_names headers owns n [] = refl
entry_names headers owns n (c ∷ cs) = ap₂ (λ (x : List ℕ) (l : List (List ℕ)). x ∷ l) (entry_name (slice_get headers n) c.name (own_at owns n)) (entry_names headers owns (n + 1) cs)

class_step_names : (d : StmtTree) (cs : List ClassTree) → map (λ (c : ClassTree). c.name) (class_in d ++ cs) ≡ class_name d ++ map (λ (c : ClassTree). c.name) cs
class_step_names (s.at (s.ClassDef name bases body marks) span) cs = refl
class_step_names (s.at (s.Def name params ret body marks) span) cs = refl
class_step_names d cs = refl

names_of_classes : (ds : List StmtTree) → map (λ (c : ClassTree). c.name) (flat_map class_in ds) ≡ flat_map class_name ds
names_of_classes [] = refl
names_of_classes (d ∷ ds) = class_step_names d (flat_map class_in ds) ∙ ap (λ l. class_name d ++ l) (names_of_classes ds)

pub entries_named : (headers : List Header) (ds : List StmtTree) (owns : Owns) → map (λ entry. entry.name) (class_entries headers ds owns) ≡ flat_map class_name ds
entries_named headers ds owns = entry_names headers owns 0 (flat_map class_in ds) ∙ names_of_classes ds
