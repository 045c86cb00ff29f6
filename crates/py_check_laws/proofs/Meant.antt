-- What names mean in a module and in a function of it, where nothing is wrong with definitions and imports.
use Rattle.std.proofs.Common.{◌≡◌, ℕ, suc, ◌+◌, ◌<◌, Bool, true, false, ◌&&◌, ◌||◌, cond, List, [], ◌∷◌, ◌++◌, length, map, not, slice_get, nat_lt, Option, Some, None, refl, ap, ap₂, sym, ◌∙◌, subst, if◌then◌else◌, unwrap_or, length-append, lt-ltb, arith, ◌⊎◌, inl, inr}
use Rattle.std.proofs.lemmas.Bool.{or_left, or_right, or_cases}
use Rattle.std.proofs.lemmas.Option.{same_Some}
use Rattle.std.proofs.lemmas.List.Folds.{list_any-append}
use Rattle.std.specs.Prelude.{is_some, is_none, codes}
use Rattle.std.specs.List.{list_all, flat_map, zip}
use Rattle.std.specs.Map.{lookup}
use Rattle.std.specs.Option.{option_or, option_map}
use Rattle.std.proofs.lemmas.List.{map-append}
use Rattle.std.specs.Str.{bytes_eq}
use Rattle.value_core.specs.declared.exception.ExcClass.{ExcClass}
use Rattle.value_core.specs.Exceptions.{class_named}
use Rattle.py_syntax.specs.Statements as s
use Rattle.py_syntax.specs.Statements.{StmtTree, Suite, FuncTree}
use Rattle.py_binder.specs.declared.scope.Role.{Role}
use Rattle.py_binder.specs.declared.scope.Role.TheVariants as role
use Rattle.py_binder.specs.declared.scope.Scope.{Scope}
use Rattle.py_binder.specs.Sights.{Use, Reads, Binds, Defines, Declares, Holds, Sight, bound_as, module_sights, body_sights}
use Rattle.py_binder.specs.Faults as fault
use Rattle.py_binder.specs.Scope.{contains, plain_builtins, is_builtin, bound_there, listed_there, seen_there, said_there, all_there, Roles, said_or_variable, module_role, is_variable, param_names, function_role, first_sights, scope_of, module_scope}
use Rattle.py_check_context.specs.declared.scope.Meaning.{Meaning}
use Rattle.py_check_context.specs.declared.scope.Meaning.TheVariants as meaning
use Rattle.py_check_annotations.specs.Names.{is_unknown}
use Rattle.py_check_names.specs.Builtins.{plain_meanings, named_builtins, exception_meaning, builtin_meaning, of_typing, of_extensions, of_future, import_meaning}
use Rattle.py_check_names.specs.Outline.{may_import, may_import_all, imported_as, said_by, said_from, held_by, suite_definitions}
use Rattle.py_check_names.specs.Meanings.{is_own, names_of, variables, own_names, number, by_role, meaning_in}
use Rattle.py_check_classes.specs.declared.header.Header.{Header}
use Rattle.py_check_classes.specs.Names.{class_in, class_count, with_number, numbered}
use Rattle.py_check_classes.specs.Headers.{has_type, typed_meaning, module_headers}
use Rattle.py_check_definitions.specs.Names.{known_in}
use Rattle.py_typed.proofs.FitLemmas.{and_left, and_right}
use Rattle.py_check_laws.proofs.NewNames.{IsTyped, AllTyped}
use Rattle.py_check.proofs.Sights.{roles_given, suite_gives}
use Rattle.py_check.proofs.Roles as known
use Rattle.py_check.proofs.Roles.{found_all}
use Rattle.py_check.proofs.NameRows.{filter_keeps, sights_have, scope_names, place_of}

-- ---- kinds of meanings

-- what a definition or an import gives, where there are so many functions
abbrev pub is_given : ℕ → Meaning → Bool
is_given n (meaning.Function i) = nat_lt i n
is_given n (meaning.Import i) = true
is_given n (meaning.Class i) = true
is_given n m = false

-- what a builtin name is
abbrev pub is_built : Meaning → Bool
is_built (meaning.Builtin b) = true
is_built (meaning.Exception c) = true
is_built meaning.ModuleName = true
is_built meaning.Unknown = true
is_built m = false

-- something is said of it, or it has a type
abbrev pub is_heard : ℕ → Meaning → Bool
is_heard n meaning.Untyped = false
is_heard n meaning.UntypedClass = false
is_heard n (meaning.Function i) = nat_lt i n
is_heard n m = true

given_known : (n : ℕ) (m : Meaning) → is_given n m ≡ true → is_unknown m ≡ false
given_known n (meaning.Function i) h = refl
given_known n (meaning.Import i) h = refl
given_known n (meaning.Class i) h = refl
given_known n _ h = absurd (cc)

given_heard : (n : ℕ) (m : Meaning) → is_given n m ≡ true → is_heard n m ≡ true
given_heard n (meaning.Function i) h = h
given_heard n (meaning.Import i) h = refl
given_heard n (meaning.Class i) h = refl
given_heard n _ h = absurd (cc)

built_heard : (n : ℕ) (m : Meaning) → is_built m ≡ true → is_heard n m ≡ true
built_heard n (meaning.Builtin b) h = refl
built_heard n (meaning.Exception c) h = refl
built_heard n meaning.ModuleName h = refl
built_heard n meaning.Unknown h = refl
built_heard n _ h = absurd (cc)

-- ---- imports and builtins

abbrev pub is_import : Meaning → Bool
is_import (meaning.Import i) = true
is_import m = false

pub import_is : (from name : List ℕ) (m : Meaning) → import_meaning from name ≡ Some m → is_import m ≡ true
import_is from name m h = by (bytes_eq from (codes "typing")) (bytes_eq from (codes "mypy_extensions")) (bytes_eq from (codes "__future__")) h
  where
    by : (a b c : Bool) → (if a then lookup (bytes_eq name) of_typing else (if b then lookup (bytes_eq name) of_extensions else (if c then lookup (bytes_eq name) of_future else None))) ≡ Some m → is_import m ≡ true
    by true b c q = found_all is_import (bytes_eq name) of_typing refl m q
    by false true c q = found_all is_import (bytes_eq name) of_extensions refl m q
    by false false true q = found_all is_import (bytes_eq name) of_future refl m q
    by false false false q = absurd (cc)

pub builtin_built : (name : List ℕ) → is_built (unwrap_or (builtin_meaning name) meaning.Unknown) ≡ true
builtin_built name = by (lookup (bytes_eq name) named_builtins) refl (class_named name)
  where
    by : (o : Option Meaning) → lookup (bytes_eq name) named_builtins ≡ o → (c : Option ExcClass) → is_built (unwrap_or (option_or o (exception_meaning c)) meaning.Unknown) ≡ true
    by (Some m) q c = found_all is_built (bytes_eq name) named_builtins refl m q
    by None q None = refl
    by None q (Some c) = refl

-- each builtin name means something
zip_found : (x : List ℕ) (names : List (List ℕ)) (ms : List Meaning) → length names ≡ length ms → contains names x ≡ true → lookup (bytes_eq x) (zip names ms) ≡ None → ⊥
zip_found x [] ms n h e = cc
zip_found x (y ∷ names) [] n h e = cc
zip_found x (y ∷ names) (m ∷ ms) n h e = by (bytes_eq x y) h e (zip_found x names ms (one_less (length names) (length ms) n))
  where
    one_less : (a b : ℕ) → suc a ≡ suc b → a ≡ b
    one_less a b h = cc

    by : (b : Bool) → (b || contains names x) ≡ true → cond b (Some m) (lookup (bytes_eq x) (zip names ms)) ≡ None → (contains names x ≡ true → lookup (bytes_eq x) (zip names ms) ≡ None → ⊥) → ⊥
    by true p q next = cc
    by false p q next = next p q

known_by_not : (m : Meaning) → not (is_unknown m) ≡ true → is_unknown m ≡ false
known_by_not m h = by (is_unknown m) h
  where
    by : (b : Bool) → not b ≡ true → b ≡ false
    by true q = absurd (cc)
    by false q = refl

builtin_known : (x : List ℕ) → is_builtin x ≡ true → is_unknown (unwrap_or (builtin_meaning x) meaning.Unknown) ≡ false
builtin_known x h = by (lookup (bytes_eq x) named_builtins) refl (class_named x) (or_cases (contains plain_builtins x) (is_some (class_named x)) h)
  where
    by : (o : Option Meaning) → lookup (bytes_eq x) named_builtins ≡ o → (c : Option ExcClass) → (contains plain_builtins x ≡ true) ⊎ (is_some c ≡ true) → is_unknown (unwrap_or (option_or o (exception_meaning c)) meaning.Unknown) ≡ false
    by (Some m) q c w = known_by_not m (found_all (λ (z : Meaning). not (is_unknown z)) (bytes_eq x) named_builtins refl m q)
    by None q (Some c) w = refl
    by None q None (inl w) = absurd (zip_found x plain_builtins plain_meanings refl w q)
    by None q None (inr w) = absurd (cc)

-- ---- definitions

-- a definition, or an import that is one
abbrev pub is_right : StmtTree → Bool
is_right (s.at (s.Import name other) span) = false
is_right (s.at (s.From name names) span) = may_import_all name names
is_right x = true

abbrev is_said : Role → Bool
is_said role.Function = true
is_said role.Class = true
is_said role.Import = true
is_said r = false

said_known : (r : Role) → is_said r ≡ true → fault.is_unknown r ≡ false
said_known role.Unknown h = absurd (cc)
said_known _ h = refl

-- names with what the binder says that they are, and with what they mean
record SamePair (n : ℕ) (a : List ℕ × Role) (b : List ℕ × Meaning) (Rest : Type 0) : Type 0 where
  key : a.0 ≡ b.0
  other : is_variable a.1 ≡ false
  own : is_own a.1 ≡ false
  said : is_said a.1 ≡ true
  given : is_given n b.1 ≡ true
  rest : Rest

abbrev Pairs : ℕ → List (List ℕ × Role) → List (List ℕ × Meaning) → Type 0
Pairs n [] [] = Unit {0}
Pairs n (a ∷ l) (b ∷ k) = SamePair n a b (Pairs n l k)
Pairs n [] (b ∷ k) = ⊥
Pairs n (a ∷ l) [] = ⊥

pairs_two : (n : ℕ) (l : List (List ℕ × Role)) (k : List (List ℕ × Meaning)) (l2 : List (List ℕ × Role)) (k2 : List (List ℕ × Meaning)) → Pairs n l k → Pairs n l2 k2 → Pairs n (l ++ l2) (k ++ k2)
pairs_two n [] [] l2 k2 p q = q
pairs_two n [] (b ∷ k) l2 k2 p q = absurd p
pairs_two n (a ∷ l) [] l2 k2 p q = absurd p
pairs_two n (a ∷ l) (b ∷ k) l2 k2 p q = record { key = p.key; other = p.other; own = p.own; said = p.said; given = p.given; rest = pairs_two n l k l2 k2 p.rest q }

-- what is found among the one is found among the other
record FoundPair (n : ℕ) (x : List ℕ) (k : List (List ℕ × Meaning)) (r : Role) : Type 0 where
  means : Meaning
  found : lookup (bytes_eq x) k ≡ Some means
  given : is_given n means ≡ true
  other : is_variable r ≡ false
  own : is_own r ≡ false
  said : is_said r ≡ true

pairs_found : (n : ℕ) (x : List ℕ) (l : List (List ℕ × Role)) (k : List (List ℕ × Meaning)) (r : Role) → Pairs n l k → lookup (bytes_eq x) l ≡ Some r → FoundPair n x k r
pairs_found n x [] [] r p e = absurd (cc)
pairs_found n x [] (b ∷ k) r p e = absurd p
pairs_found n x (a ∷ l) [] r p e = absurd p
pairs_found n x (a ∷ l) (b ∷ k) r p e = by (bytes_eq x a.0) refl e (pairs_found n x l k r p.rest)
  where
    same : (c : Bool) → bytes_eq x a.0 ≡ c → bytes_eq x b.0 ≡ c
    same c q = ap (bytes_eq x) (sym p.key) ∙ q

    by : (c : Bool) → bytes_eq x a.0 ≡ c → cond c (Some a.1) (lookup (bytes_eq x) l) ≡ Some r → (lookup (bytes_eq x) l ≡ Some r → FoundPair n x k r) → FoundPair n x (b ∷ k) r
    by true q g next = record {
      means = b.1;
      found = ap (λ (z : Bool). cond z (Some b.1) (lookup (bytes_eq x) k)) (same true q);
      given = p.given;
      other = ap is_variable (sym (same_Some a.1 r g)) ∙ p.other;
      own = ap is_own (sym (same_Some a.1 r g)) ∙ p.own;
      said = ap is_said (sym (same_Some a.1 r g)) ∙ p.said;
    }
    by false q g next =
        let f = next g in
        record { means = f.means; found = ap (λ (z : Bool). cond z (Some b.1) (lookup (bytes_eq x) k)) (same false q) ∙ f.found; given = f.given; other = f.other; own = f.own; said = f.said }

-- ---- what is said of names, with the numbers of classes and their types

-- where classes have these headers
module _ (headers : List Header) where
  abbrev typed_pair : List ℕ × Meaning → List ℕ × Meaning
  typed_pair p = (p.0, typed_meaning headers p.1)

  abbrev pub typed_said : List (List ℕ × Meaning) → List (List ℕ × Meaning)
  typed_said l = map typed_pair l

  found_typed : (test : List ℕ → Bool) (l : List (List ℕ × Meaning)) → lookup test (typed_said l) ≡ option_map (typed_meaning headers) (lookup test l)
  found_typed test [] = refl
  found_typed test (p ∷ l) = by (test p.0) (found_typed test l)
    where
      by : (b : Bool) → lookup test (typed_said l) ≡ option_map (typed_meaning headers) (lookup test l) → cond b (Some (typed_meaning headers p.1)) (lookup test (typed_said l)) ≡ option_map (typed_meaning headers) (cond b (Some p.1) (lookup test l))
      by true e = refl
      by false e = e

-- an import has no number, and is no class
import_number : (c : ℕ) (m : Meaning) → is_import m ≡ true → with_number c m ≡ m
import_number c (meaning.Import i) h = refl
import_number c _ h = absurd (cc)

import_count : (m : Meaning) → is_import m ≡ true → class_count m ≡ 0
import_count (meaning.Import i) h = refl
import_count _ h = absurd (cc)

import_typed : (headers : List Header) (m : Meaning) → is_import m ≡ true → typed_meaning headers m ≡ m
import_typed headers (meaning.Import i) h = refl
import_typed headers _ h = absurd (cc)

import_given : (n : ℕ) (m : Meaning) → is_import m ≡ true → is_given n m ≡ true
import_given n (meaning.Import i) h = refl
import_given n _ h = absurd (cc)

imported_is : (from : List ℕ) (a : List ℕ × Option (List ℕ)) → may_import from a ≡ true → is_import (unwrap_or (import_meaning from a.0) meaning.Untyped) ≡ true
imported_is from a h = by (import_meaning from a.0) refl (and_right (is_none a.1) (is_some (import_meaning from a.0)) h)
  where
    by : (o : Option Meaning) → import_meaning from a.0 ≡ o → is_some o ≡ true → is_import (unwrap_or (import_meaning from a.0) meaning.Untyped) ≡ true
    by None q e = absurd (cc)
    by (Some m) q e = ap (λ (o : Option Meaning). is_import (unwrap_or o meaning.Untyped)) q ∙ import_is from a.0 m q

import_pairs : (headers : List Header) (n c : ℕ) (from : List ℕ) (names : List (List ℕ × Option (List ℕ))) → list_all (may_import from) names ≡ true → Pairs n (map (λ a. (bound_as a.0 a.1, role.Import)) names) (typed_said headers (numbered c (map (imported_as true from) names)))
import_pairs headers n c from [] h = tt
import_pairs headers n c from (a ∷ names) h =
    let m = unwrap_or (import_meaning from a.0) meaning.Untyped in
    let is = imported_is from a (and_left (may_import from a) (list_all (may_import from) names) h) in
    record {
      key = refl;
      other = refl;
      own = refl;
      said = refl;
      given = ap (λ z. is_given n (typed_meaning headers z)) (import_number c m is) ∙ ap (is_given n) (import_typed headers m is) ∙ import_given n m is;
      rest = import_pairs headers n (c + class_count m) from names (and_right (may_import from a) (list_all (may_import from) names) h);
    }

-- behind imports classes have the same numbers
imports_counted : (c : ℕ) (from : List ℕ) (names : List (List ℕ × Option (List ℕ))) (rest : List (List ℕ × Meaning)) → list_all (may_import from) names ≡ true → numbered c (map (imported_as true from) names ++ rest) ≡ numbered c (map (imported_as true from) names) ++ numbered c rest
imports_counted c from [] rest h = refl
imports_counted c from (a ∷ names) rest h =
    let m = unwrap_or (import_meaning from a.0) meaning.Untyped in
    let is = imported_is from a (and_left (may_import from a) (list_all (may_import from) names) h) in
    let same : c + class_count m ≡ c = ap (λ z. c + z) (import_count m is) ∙ no_more c in
    ap (λ l. (bound_as a.0 a.1, with_number c m) ∷ l)
    (imports_counted (c + class_count m) from names rest (and_right (may_import from a) (list_all (may_import from) names) h) ∙ ap (λ k. numbered (c + class_count m) (map (imported_as true from) names) ++ numbered k rest) same)
  where
    no_more : (c : ℕ) → c + 0 ≡ c
    no_more c = omega arith

less_by : (a b c n : ℕ) → a + suc (b + c) ≡ n → a < n
less_by a b c n h = omega arith

moved : (a b c n : ℕ) → a + (b + c) ≡ n → a + b + c ≡ n
moved a b c n h = omega arith

module _ (headers : List Header) where
  class_typed : (n c : ℕ) → has_type (slice_get headers c) ≡ true → is_given n (typed_meaning headers (meaning.Class c)) ≡ true
  class_typed n c h = ap (λ b. is_given n (if b then meaning.Class c else meaning.UntypedClass)) h

  one_pairs : (next n c : ℕ) (x : StmtTree) → is_right x ≡ true → (more : ℕ) → next + (length (held_by x) + more) ≡ n → IsTyped headers c x → Pairs n (roles_given x) (typed_said headers (numbered c (said_by next x)))
  one_pairs next n c (s.at (s.Def name params ret body marks) span) h more e t = record { key = refl; other = refl; own = refl; said = refl; given = lt-ltb next n (less_one next more n e); rest = tt }
    where
      less_one : (a c n : ℕ) → a + (1 + c) ≡ n → a < n
      less_one a c n h = omega arith
  one_pairs next n c (s.at (s.ClassDef name bases body marks) span) h more e t = record { key = refl; other = refl; own = refl; said = refl; given = class_typed n c t; rest = tt }
  one_pairs next n c (s.at (s.Import name other) span) h more e t = absurd (cc)
  one_pairs next n c (s.at (s.From name names) span) h more e t = subst (λ b. Pairs n (map (λ a. (bound_as a.0 a.1, role.Import)) names) (typed_said headers (numbered c (map (imported_as b name) names)))) (sym h) (import_pairs headers n c name names h)
  one_pairs next n c _ h more e t = tt

  -- behind a definition
  counted : (next c : ℕ) (x : StmtTree) (rest : List (List ℕ × Meaning)) → is_right x ≡ true → numbered c (said_by next x ++ rest) ≡ numbered c (said_by next x) ++ numbered (c + length (class_in x)) rest
  counted next c (s.at (s.Def name params ret body marks) span) rest h = refl
  counted next c (s.at (s.ClassDef name bases body marks) span) rest h = refl
  counted next c (s.at (s.Import name other) span) rest h = absurd (cc)
  counted next c (s.at (s.From name names) span) rest h =
      ap (λ b. numbered c (map (imported_as b name) names ++ rest)) h ∙ imports_counted c name names rest h ∙ ap₂ (λ b k. numbered c (map (imported_as b name) names) ++ numbered k rest) (sym h) (none_more c)
    where
      none_more : (c : ℕ) → c ≡ c + 0
      none_more c = omega arith
  counted next c _ rest h = ap (λ k. numbered k rest) (omega arith)

  all_pairs : (next n c : ℕ) (ds : List StmtTree) → list_all is_right ds ≡ true → next + length (flat_map held_by ds) ≡ n → AllTyped headers c ds → Pairs n (flat_map roles_given ds) (typed_said headers (numbered c (said_from next ds)))
  all_pairs next n c [] h e t = tt
  all_pairs next n c (x ∷ ds) h e t =
      let q : next + (length (held_by x) + length (flat_map held_by ds)) ≡ n = ap (λ z. next + z) (sym (length-append (held_by x) (flat_map held_by ds))) ∙ e in
      let is = and_left (is_right x) (list_all is_right ds) h in
      let later = said_from (next + length (held_by x)) ds in
      subst (λ l. Pairs n (roles_given x ++ flat_map roles_given ds) l) (sym (ap (typed_said headers) (counted next c x later is) ∙ map-append (typed_pair headers) (numbered c (said_by next x)) (numbered (c + length (class_in x)) later)))
      (pairs_two n (roles_given x) (typed_said headers (numbered c (said_by next x))) (flat_map roles_given ds) (typed_said headers (numbered (c + length (class_in x)) later))
      (one_pairs next n c x is (length (flat_map held_by ds)) q t.0)
      (all_pairs (next + length (held_by x)) n (c + length (class_in x)) ds (and_right (is_right x) (list_all is_right ds) h) (moved next (length (held_by x)) (length (flat_map held_by ds)) n q) t.1))

-- ---- roles

-- variables of the module are among its variables, and what a definition says is known
pub record Fine (said : List ℕ → Option Meaning) (outer : List (List ℕ)) (n : ℕ) (roles : Roles) : Type 0 where
  pub globals : (x : List ℕ) → is_variable (roles x) ≡ true → contains outer x ≡ true
  pub given : (x : List ℕ) → is_said (roles x) ≡ true → (m : Meaning) × (said x ≡ Some m) × (is_given n m ≡ true)
  pub built : (x : List ℕ) → roles x ≡ role.Builtin → is_builtin x ≡ true

bound_seen : (sights : List Sight) (x : List ℕ) → contains (all_there bound_there sights) x ≡ true → contains (all_there seen_there sights) x ≡ true
bound_seen [] x h = absurd (cc)
bound_seen (a ∷ sights) x h =
    list_any-append (bytes_eq x) (seen_there a.does) (all_there seen_there sights)
    ∙ by (or_cases (contains (bound_there a.does) x) (contains (all_there bound_there sights) x) (sym (list_any-append (bytes_eq x) (bound_there a.does) (all_there bound_there sights)) ∙ h)) (bound_seen sights x)
  where
    one : (u : Use) → contains (bound_there u) x ≡ true → contains (seen_there u) x ≡ true
    one (Binds name) q = q
    one (Reads name) q = absurd (cc)
    one (Defines r name) q = absurd (cc)
    one (Declares names) q = absurd (cc)
    one (Holds f) q = absurd (cc)

    by : (contains (bound_there a.does) x ≡ true) ⊎ (contains (all_there bound_there sights) x ≡ true) → (contains (all_there bound_there sights) x ≡ true → contains (all_there seen_there sights) x ≡ true) → (contains (seen_there a.does) x || contains (all_there seen_there sights) x) ≡ true
    by (inl q) next = or_left (contains (seen_there a.does) x) (contains (all_there seen_there sights) x) (one a.does q)
    by (inr q) next = or_right (contains (seen_there a.does) x) (contains (all_there seen_there sights) x) (next q)

module _ (kind : Role → Bool) (roles : Roles) (seen : List (List ℕ)) where
  pub among_kind : (x : List ℕ) → contains (first_sights seen) x ≡ true → kind (roles x) ≡ true → contains (names_of kind (scope_of roles seen).names) x ≡ true
  among_kind x h k = ap (λ l. contains l x) (scope_names kind roles seen) ∙ filter_keeps (λ n. kind (roles n)) (first_sights seen) x k ∙ h

module _ (m : Suite) (n : ℕ) (right : list_all is_right (suite_definitions m) ≡ true) (count : length (flat_map held_by (suite_definitions m)) ≡ n) (typed : AllTyped (module_headers m) 0 (suite_definitions m)) where
  abbrev means_list : List (List ℕ × Meaning)
  means_list = typed_said (module_headers m) (numbered 0 (said_from 0 (suite_definitions m)))

  known_is : (x : List ℕ) → known_in m x ≡ lookup (bytes_eq x) means_list
  known_is x = sym (found_typed (module_headers m) (bytes_eq x) (numbered 0 (said_from 0 (suite_definitions m))))

  module_pairs : Pairs n (all_there said_there (module_sights m)) means_list
  module_pairs = subst (λ l. Pairs n l means_list) (sym (suite_gives m)) (all_pairs (module_headers m) 0 n 0 (suite_definitions m) right (zero_first (length (flat_map held_by (suite_definitions m))) n count) typed)
    where
      zero_first : (a b : ℕ) → a ≡ b → 0 + a ≡ b
      zero_first a b h = omega arith

  role_said : (x : List ℕ) (b : Bool) (o : Option Role) (c : Bool) → lookup (bytes_eq x) (all_there said_there (module_sights m)) ≡ o → is_said (if b then role.Builtin else said_or_variable o c) ≡ true → (t : Meaning) × (known_in m x ≡ Some t) × (is_given n t ≡ true)
  role_said x true o c q h = absurd (cc)
  role_said x false (Some r) c q h = let f = pairs_found n x (all_there said_there (module_sights m)) means_list r module_pairs q in (f.means, known_is x ∙ f.found, f.given)
  role_said x false None true q h = absurd (cc)
  role_said x false None false q h = absurd (cc)

  role_built : (x : List ℕ) (b : Bool) (o : Option Role) (c : Bool) → is_builtin x ≡ b → lookup (bytes_eq x) (all_there said_there (module_sights m)) ≡ o → (if b then role.Builtin else said_or_variable o c) ≡ role.Builtin → is_builtin x ≡ true
  role_built x true o c p q h = p
  role_built x false (Some r) c p q h =
      let s : is_said r ≡ true = (pairs_found n x (all_there said_there (module_sights m)) means_list r module_pairs q).said in
      let bad : false ≡ true = ap is_said (sym h) ∙ s in absurd (cc)
  role_built x false None true p q h = absurd (cc)
  role_built x false None false p q h = absurd (cc)

  role_bound : (x : List ℕ) (b : Bool) (o : Option Role) (c : Bool) → lookup (bytes_eq x) (all_there said_there (module_sights m)) ≡ o → c ≡ true → fault.is_unknown (if b then role.Builtin else said_or_variable o c) ≡ false
  role_bound x true o c q h = refl
  role_bound x false (Some r) c q h = said_known r (pairs_found n x (all_there said_there (module_sights m)) means_list r module_pairs q).said
  role_bound x false None true q h = refl
  role_bound x false None false q h = absurd (cc)

  -- a name that is bound is known
  pub bound_known : (x : List ℕ) → contains (all_there bound_there (module_sights m)) x ≡ true → fault.is_unknown (module_role m x) ≡ false
  bound_known x h = role_bound x (is_builtin x) (lookup (bytes_eq x) (all_there said_there (module_sights m))) (contains (all_there bound_there (module_sights m)) x) refl h

  pub module_fine : Fine (known_in m) (variables (module_scope m)) n (module_role m)
  module_fine = record {
    globals = λ x h.
        among_kind is_variable (module_role m) (all_there seen_there (module_sights m)) x
        (sights_have (all_there seen_there (module_sights m)) x
        ∙ bound_seen (module_sights m) x (known.variable_bound m x h)) h;
    given = λ x h. role_said x (is_builtin x) (lookup (bytes_eq x) (all_there said_there (module_sights m))) (contains (all_there bound_there (module_sights m)) x) refl h;
    built = λ x h. role_built x (is_builtin x) (lookup (bytes_eq x) (all_there said_there (module_sights m))) (contains (all_there bound_there (module_sights m)) x) refl refl h;
  }

  role_own : (x : List ℕ) (b : Bool) (o : Option Role) (c : Bool) → lookup (bytes_eq x) (all_there said_there (module_sights m)) ≡ o → is_own (if b then role.Builtin else said_or_variable o c) ≡ false
  role_own x true o c q = refl
  role_own x false (Some r) c q = (pairs_found n x (all_there said_there (module_sights m)) means_list r module_pairs q).own
  role_own x false None true q = refl
  role_own x false None false q = refl

  -- no name of the module is a function's own
  pub module_own : (x : List ℕ) → is_own (module_role m x) ≡ false
  module_own x = role_own x (is_builtin x) (lookup (bytes_eq x) (all_there said_there (module_sights m))) (contains (all_there bound_there (module_sights m)) x) refl

  -- what a definition gives is no variable
  pub given_no_variable : (x : List ℕ) (r : Role) → lookup (bytes_eq x) (all_there said_there (module_sights m)) ≡ Some r → is_variable (module_role m x) ≡ false
  given_no_variable x r q = by (is_builtin x)
    where
      by : (b : Bool) → is_variable (if b then role.Builtin else said_or_variable (lookup (bytes_eq x) (all_there said_there (module_sights m))) (contains (all_there bound_there (module_sights m)) x)) ≡ false
      by true = refl
      by false = ap (λ o. is_variable (said_or_variable o (contains (all_there bound_there (module_sights m)) x))) q ∙ (pairs_found n x (all_there said_there (module_sights m)) means_list r module_pairs q).other

-- a name that a function binds is known there
pub own_known : (roles : Roles) (f : FuncTree) (x : List ℕ) → contains (all_there bound_there (body_sights f)) x ≡ true → fault.is_unknown (function_role roles f x) ≡ false
own_known roles f x h = by (is_builtin x) (contains (param_names f) x) (contains (all_there listed_there (body_sights f)) x && is_variable (roles x)) (contains (all_there bound_there (body_sights f)) x) h
  where
    by : (a b c d : Bool) → d ≡ true → fault.is_unknown (if a then role.Builtin else (if b then role.Param else (if c then role.GlobalVar else (if d then role.Local else roles x)))) ≡ false
    by true b c d q = refl
    by false true c d q = refl
    by false false true d q = refl
    by false false false true q = refl
    by false false false false q = absurd (cc)

module _ (said : List ℕ → Option Meaning) (outer : List (List ℕ)) (n : ℕ) (roles : Roles) (fine : Fine said outer n roles) where
  pub function_fine : (f : FuncTree) → Fine said outer n (function_role roles f)
  function_fine f = record {
    globals = λ x h. global_by x (is_builtin x) (contains (param_names f) x) (contains (all_there listed_there (body_sights f)) x && is_variable (roles x)) (contains (all_there bound_there (body_sights f)) x) refl h;
    given = λ x h. given_by x (is_builtin x) (contains (param_names f) x) (contains (all_there listed_there (body_sights f)) x && is_variable (roles x)) (contains (all_there bound_there (body_sights f)) x) h;
    built = λ x h. built_by x (is_builtin x) (contains (param_names f) x) (contains (all_there listed_there (body_sights f)) x && is_variable (roles x)) (contains (all_there bound_there (body_sights f)) x) refl h;
  }
    where
      inner : List ℕ → Bool → Bool → Bool → Bool → Role
      inner x a b c d = if a then role.Builtin else (if b then role.Param else (if c then role.GlobalVar else (if d then role.Local else roles x)))

      global_by : (x : List ℕ) (a b c d : Bool) → (contains (all_there listed_there (body_sights f)) x && is_variable (roles x)) ≡ c → is_variable (if a then role.Builtin else (if b then role.Param else (if c then role.GlobalVar else (if d then role.Local else roles x)))) ≡ true → contains outer x ≡ true
      global_by x true b c d q h = absurd (cc)
      global_by x false true c d q h = absurd (cc)
      global_by x false false true d q h = fine.globals x (and_right (contains (all_there listed_there (body_sights f)) x) (is_variable (roles x)) q)
      global_by x false false false true q h = absurd (cc)
      global_by x false false false false q h = fine.globals x h

      given_by : (x : List ℕ) (a b c d : Bool) → is_said (if a then role.Builtin else (if b then role.Param else (if c then role.GlobalVar else (if d then role.Local else roles x)))) ≡ true → (m : Meaning) × (said x ≡ Some m) × (is_given n m ≡ true)
      given_by x true b c d h = absurd (cc)
      given_by x false true c d h = absurd (cc)
      given_by x false false true d h = absurd (cc)
      given_by x false false false true h = absurd (cc)
      given_by x false false false false h = fine.given x h

      built_by : (x : List ℕ) (a b c d : Bool) → is_builtin x ≡ a → (if a then role.Builtin else (if b then role.Param else (if c then role.GlobalVar else (if d then role.Local else roles x)))) ≡ role.Builtin → is_builtin x ≡ true
      built_by x true b c d p h = p
      built_by x false true c d p h = absurd (cc)
      built_by x false false true d p h = absurd (cc)
      built_by x false false false true p h = absurd (cc)
      built_by x false false false false p h = fine.built x h

  -- ---- meanings in a scope with these roles

  module _ (seen : List (List ℕ)) where
    abbrev inside : Scope
    inside = scope_of roles seen

    abbrev own : List (List ℕ)
    own = own_names inside

    abbrev meant : List ℕ → Meaning
    meant = meaning_in said outer inside

    pub seen_means : (x : List ℕ) → contains (first_sights seen) x ≡ true → meant x ≡ by_role said outer own x (roles x)
    seen_means x h = known.seen_means said outer roles seen x h

    unseen_means : (x : List ℕ) → contains (first_sights seen) x ≡ false → meant x ≡ meaning.Unknown
    unseen_means x h = known.unseen_means said outer roles seen x h

    said_is : (x : List ℕ) → is_said (roles x) ≡ true → is_given n (unwrap_or (said x) meaning.Untyped) ≡ true
    said_is x h = let r = fine.given x h in ap (λ o. is_given n (unwrap_or o meaning.Untyped)) r.1 ∙ r.2

    heard_by : (x : List ℕ) (r : Role) → roles x ≡ r → is_heard n (by_role said outer own x r) ≡ true
    heard_by x role.Param q = refl
    heard_by x role.Local q = refl
    heard_by x role.GlobalVar q = refl
    heard_by x role.Function q = given_heard n (unwrap_or (said x) meaning.Untyped) (said_is x (ap is_said q))
    heard_by x role.Class q = given_heard n (unwrap_or (said x) meaning.Untyped) (said_is x (ap is_said q))
    heard_by x role.Import q = given_heard n (unwrap_or (said x) meaning.Untyped) (said_is x (ap is_said q))
    heard_by x role.Builtin q = built_heard n (unwrap_or (builtin_meaning x) meaning.Unknown) (builtin_built x)
    heard_by x role.Unknown q = refl

    known_by : (x : List ℕ) (r : Role) → roles x ≡ r → fault.is_unknown r ≡ false → is_unknown (by_role said outer own x r) ≡ false
    known_by x role.Param q h = refl
    known_by x role.Local q h = refl
    known_by x role.GlobalVar q h = refl
    known_by x role.Function q h = given_known n (unwrap_or (said x) meaning.Untyped) (said_is x (ap is_said q))
    known_by x role.Class q h = given_known n (unwrap_or (said x) meaning.Untyped) (said_is x (ap is_said q))
    known_by x role.Import q h = given_known n (unwrap_or (said x) meaning.Untyped) (said_is x (ap is_said q))
    known_by x role.Builtin q h = builtin_known x (fine.built x q)
    known_by x role.Unknown q h = absurd (cc)

    -- a name that is seen and whose role is known is known
    pub means_known : (x : List ℕ) → contains seen x ≡ true → fault.is_unknown (roles x) ≡ false → is_unknown (meant x) ≡ false
    means_known x h r = ap is_unknown (seen_means x (sights_have seen x ∙ h)) ∙ known_by x (roles x) refl r

    -- NOTHING is meant of which nothing is said
    pub meant_heard : (x : List ℕ) → is_heard n (meant x) ≡ true
    meant_heard x = by (contains (first_sights seen) x) refl
      where
        by : (b : Bool) → contains (first_sights seen) x ≡ b → is_heard n (meant x) ≡ true
        by true h = ap (is_heard n) (seen_means x h) ∙ heard_by x (roles x) refl
        by false h = ap (is_heard n) (unseen_means x h)

    -- a variable of the function's own, by its number
    local_by : (x : List ℕ) (i : ℕ) (r : Role) → roles x ≡ r → by_role said outer own x r ≡ meaning.Local i → (is_own r ≡ true) × (number own x ≡ i)
    local_by x i role.Param q h = (refl, same (number own x) i h)
      where
        same : (a b : ℕ) → meaning.Local a ≡ meaning.Local b → a ≡ b
        same a b e = cc
    local_by x i role.Local q h = (refl, same (number own x) i h)
      where
        same : (a b : ℕ) → meaning.Local a ≡ meaning.Local b → a ≡ b
        same a b e = cc
    local_by x i role.GlobalVar q h = absurd (cc)
    local_by x i role.Function q h = let bad : false ≡ true = ap (is_given n) (sym h) ∙ said_is x (ap is_said q) in absurd (cc)
    local_by x i role.Class q h = let bad : false ≡ true = ap (is_given n) (sym h) ∙ said_is x (ap is_said q) in absurd (cc)
    local_by x i role.Import q h = let bad : false ≡ true = ap (is_given n) (sym h) ∙ said_is x (ap is_said q) in absurd (cc)
    local_by x i role.Builtin q h = let bad : false ≡ true = ap is_built (sym h) ∙ builtin_built x in absurd (cc)
    local_by x i role.Unknown q h = absurd (cc)

    global_by_role : (x : List ℕ) (i : ℕ) (r : Role) → roles x ≡ r → by_role said outer own x r ≡ meaning.Global i → (is_variable r ≡ true) × (number outer x ≡ i)
    global_by_role x i role.GlobalVar q h = (refl, same (number outer x) i h)
      where
        same : (a b : ℕ) → meaning.Global a ≡ meaning.Global b → a ≡ b
        same a b e = cc
    global_by_role x i role.Param q h = absurd (cc)
    global_by_role x i role.Local q h = absurd (cc)
    global_by_role x i role.Function q h = let bad : false ≡ true = ap (is_given n) (sym h) ∙ said_is x (ap is_said q) in absurd (cc)
    global_by_role x i role.Class q h = let bad : false ≡ true = ap (is_given n) (sym h) ∙ said_is x (ap is_said q) in absurd (cc)
    global_by_role x i role.Import q h = let bad : false ≡ true = ap (is_given n) (sym h) ∙ said_is x (ap is_said q) in absurd (cc)
    global_by_role x i role.Builtin q h = let bad : false ≡ true = ap is_built (sym h) ∙ builtin_built x in absurd (cc)
    global_by_role x i role.Unknown q h = absurd (cc)

    pub local_place : (x : List ℕ) (i : ℕ) → meant x ≡ meaning.Local i → slice_get own i ≡ Some x
    local_place x i h = by (contains (first_sights seen) x) refl
      where
        by : (b : Bool) → contains (first_sights seen) x ≡ b → slice_get own i ≡ Some x
        by true q =
            let r = local_by x i (roles x) refl (sym (seen_means x q) ∙ h) in
            ap (slice_get own) (sym r.1) ∙ place_of own x (among_kind is_own roles seen x q r.0)
        by false q = let bad : meaning.Unknown ≡ meaning.Local i = sym (unseen_means x q) ∙ h in absurd (cc)

    pub global_place : (x : List ℕ) (i : ℕ) → meant x ≡ meaning.Global i → slice_get outer i ≡ Some x
    global_place x i h = by (contains (first_sights seen) x) refl
      where
        by : (b : Bool) → contains (first_sights seen) x ≡ b → slice_get outer i ≡ Some x
        by true q =
            let r = global_by_role x i (roles x) refl (sym (seen_means x q) ∙ h) in
            ap (slice_get outer) (sym r.1) ∙ place_of outer x (fine.globals x r.0)
        by false q = let bad : meaning.Unknown ≡ meaning.Global i = sym (unseen_means x q) ∙ h in absurd (cc)
