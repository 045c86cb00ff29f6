-- Where binding finds no fault, each name at the sights of a module and of its functions is known there.
use Rattle.std.proofs.Common.{◌≡◌, ◌∙◌, ℕ, Bool, true, false, List, [], ◌∷◌, ◌++◌, refl, ap₂, if◌then◌else◌}
use Rattle.std.proofs.lemmas.Bool.{or_left, or_right}
use Rattle.std.proofs.lemmas.List.Folds.{list_any-append}
use Rattle.std.specs.List.{flat_map}
use Rattle.std.specs.Str.{bytes_eq}
use Rattle.py_syntax.specs.declared.token.Span.{Span}
use Rattle.py_syntax.specs.Statements.{FuncTree}
use Rattle.py_syntax_diagnostics.specs.declared.diagnostic.Diag.{Diag}
use Rattle.py_binder.specs.declared.scope.Role.{Role}
use Rattle.py_binder.specs.Sights.{Use, Reads, Binds, Holds, Sight}
use Rattle.py_binder.specs.Scope.{Roles, contains, bound_there, seen_there, held_there, all_there}
use Rattle.py_binder.specs.Faults as fault
use Rattle.py_binder.specs.Faults.{read_fault, place_faults, body_faults, function_faults, held_faults, faults_among}
use Rattle.py_check_context.specs.declared.scope.Meaning.{Meaning}
use Rattle.py_check_annotations.specs.Names.{is_unknown, unknown_there, any_unknown}
use Rattle.py_check_expressions_laws.proofs.Known.{neither_of}
use Rattle.py_check_expressions_laws.proofs.Loud.{none_before, none_behind}
use Rattle.py_check.proofs.NameRows.{text_is_itself}

-- the faults of names that are looked up
abbrev pub read_there : Roles → Use → Span → List Diag
read_there role (Reads name) span = read_fault (role name) name span
read_there role _ span = []

abbrev pub reads_there : Roles → List Sight → List Diag
reads_there role sights = flat_map (λ x. read_there role x.does x.span) sights

place_quiet : (outer role : Roles) (refused : List ℕ → Bool) (u : Use) (span : Span) → place_faults outer role refused u span ≡ [] → read_there role u span ≡ []
place_quiet outer role refused (Reads name) span h = h
place_quiet outer role refused _ span h = refl

both_none : {A : Type 0} (xs ys : List A) → xs ≡ [] → ys ≡ [] → xs ++ ys ≡ []
both_none {A = A} xs ys p q = ap₂ (λ (x y : List A). x ++ y) p q

-- a function without faults
pub body_quiet : (outer role : Roles) (refused : List (List ℕ)) (sights : List Sight) → body_faults outer role refused sights ≡ [] → reads_there role sights ≡ []
body_quiet outer role refused [] h = refl
body_quiet outer role refused (x ∷ sights) h =
    let one = place_faults outer role (contains refused) x.does x.span in
    let more = body_faults outer role (refused ++ seen_there x.does) sights in
    both_none (read_there role x.does x.span) (reads_there role sights) (place_quiet outer role (contains refused) x.does x.span (none_before one more h)) (body_quiet outer role (refused ++ seen_there x.does) sights (none_behind one more h))

-- a module without faults
abbrev nowhere : List ℕ → Bool
nowhere name = false

pub module_quiet : (outer role : Roles) (sights : List Sight) → faults_among outer role sights ≡ [] → reads_there role sights ≡ []
module_quiet outer role [] h = refl
module_quiet outer role (x ∷ sights) h =
    let own = place_faults outer role nowhere x.does x.span in
    let one = own ++ held_faults outer x.does in
    let more = faults_among outer role sights in
    both_none (read_there role x.does x.span) (reads_there role sights) (place_quiet outer role nowhere x.does x.span (none_before own (held_faults outer x.does) (none_before one more h))) (module_quiet outer role sights (none_behind one more h))

held_quiet : (outer : Roles) (u : Use) (fs : List FuncTree) → held_faults outer u ≡ [] → flat_map (function_faults outer) fs ≡ [] → flat_map (function_faults outer) (held_there u ++ fs) ≡ []
held_quiet outer (Holds f) fs p q = both_none (function_faults outer f) (flat_map (function_faults outer) fs) p q
held_quiet outer _ fs p q = q

-- nor has a function of it
pub functions_quiet : (outer role : Roles) (sights : List Sight) → faults_among outer role sights ≡ [] → flat_map (function_faults outer) (all_there held_there sights) ≡ []
functions_quiet outer role [] h = refl
functions_quiet outer role (x ∷ sights) h =
    let own = place_faults outer role nowhere x.does x.span in
    let one = own ++ held_faults outer x.does in
    let more = faults_among outer role sights in
    held_quiet outer x.does (all_there held_there sights) (none_behind own (held_faults outer x.does) (none_before one more h)) (functions_quiet outer role sights (none_behind one more h))

read_known : (r : Role) (x : List ℕ) (span : Span) → read_fault r x span ≡ [] → fault.is_unknown r ≡ false
read_known r x span h = by (fault.is_unknown r) h
  where
    by : (b : Bool) → (if b then fault.not_defined x span ∷ [] else []) ≡ [] → b ≡ false
    by true q = absurd (cc)
    by false q = refl

-- in a scope in which these names are seen: what is meant by one whose role is known is known
module _ (roles : Roles) (meant : List ℕ → Meaning) (seen : List (List ℕ)) (means : (x : List ℕ) → contains seen x ≡ true → fault.is_unknown (roles x) ≡ false → is_unknown (meant x) ≡ false) where
  one_known : (u : Use) (span : Span) → ((x : List ℕ) → contains (seen_there u) x ≡ true → contains seen x ≡ true) → read_there roles u span ≡ [] → ((x : List ℕ) → contains (bound_there u) x ≡ true → fault.is_unknown (roles x) ≡ false) → unknown_there meant u ≡ false
  one_known (Reads x) span s r b = means x (s x (or_left (bytes_eq x x) false (text_is_itself x))) (read_known (roles x) x span r)
  one_known (Binds x) span s r b = means x (s x (or_left (bytes_eq x x) false (text_is_itself x))) (b x (or_left (bytes_eq x x) false (text_is_itself x)))
  one_known _ span s r b = refl

  front : (a b : List (List ℕ)) (x : List ℕ) → contains a x ≡ true → contains (a ++ b) x ≡ true
  front a b x h = list_any-append (bytes_eq x) a b ∙ or_left (contains a x) (contains b x) h

  back : (a b : List (List ℕ)) (x : List ℕ) → contains b x ≡ true → contains (a ++ b) x ≡ true
  back a b x h = list_any-append (bytes_eq x) a b ∙ or_right (contains a x) (contains b x) h

  -- EACH NAME that is read or bound at these sights is known
  pub sights_known : (sights : List Sight) → ((x : List ℕ) → contains (all_there seen_there sights) x ≡ true → contains seen x ≡ true) → reads_there roles sights ≡ [] → ((x : List ℕ) → contains (all_there bound_there sights) x ≡ true → fault.is_unknown (roles x) ≡ false) → any_unknown meant sights ≡ false
  sights_known [] s r b = refl
  sights_known (a ∷ sights) s r b =
      neither_of (unknown_there meant a.does) (any_unknown meant sights)
      (one_known a.does a.span (λ x h. s x (front (seen_there a.does) (all_there seen_there sights) x h)) (none_before (read_there roles a.does a.span) (reads_there roles sights) r) (λ x h. b x (front (bound_there a.does) (all_there bound_there sights) x h)))
      (sights_known sights (λ x h. s x (back (seen_there a.does) (all_there seen_there sights) x h)) (none_behind (read_there roles a.does a.span) (reads_there roles sights) r) (λ x h. b x (back (bound_there a.does) (all_there bound_there sights) x h)))
