-- What names mean in a module whose classes have types: a class is one of them, and a function one of the module's own.
use Rattle.std.proofs.Common.{◌≡◌, ℕ, ◌+◌, Bool, true, false, cond, List, [], ◌∷◌, ◌++◌, map, length, Option, Some, None, refl, ap, sym, ◌∙◌, subst, if◌then◌else◌, unwrap_or}
use Rattle.std.proofs.lemmas.Option.{same_Some}
use Rattle.std.proofs.lemmas.List.{append_assoc, length-append}
use Rattle.std.specs.Prelude.{slice_get}
use Rattle.std.specs.List.{AllByRecursion}
use Rattle.std.specs.Map.{lookup}
use Rattle.std.specs.Option.{option_map}
use Rattle.std.specs.Str.{bytes_eq}
use Rattle.py_syntax.specs.Statements as s
use Rattle.py_syntax.specs.Statements.{StmtTree}
use Rattle.py_binder.specs.declared.scope.Scope.{Scope}
use Rattle.py_binder.specs.declared.scope.Role.{Role}
use Rattle.py_binder.specs.declared.scope.Role.TheVariants as role
use Rattle.py_check_context.specs.declared.scope.Meaning.{Meaning}
use Rattle.py_check_context.specs.declared.scope.Meaning.TheVariants as meaning
use Rattle.py_check_names.specs.Builtins.{builtin_meaning, import_meaning}
use Rattle.py_check_names.specs.Outline.{held_by, what_is_imported, imported_as, said_by, said_from}
use Rattle.py_check_names.specs.Meanings.{own_names, by_role, meaning_in}
use Rattle.py_check_signatures.specs.declared.headers.Owner.{Owner}
use Rattle.py_check_signatures.specs.declared.headers.Owner.TheVariants as owner
use Rattle.py_check_classes.specs.declared.header.Header.{Header}
use Rattle.py_check_classes.specs.Names.{class_in, class_count, with_number, numbered, said_of_names}
use Rattle.py_check_classes.specs.Headers.{has_type, typed_meaning}
use Rattle.py_check_definitions.specs.Owners.{owners_in, owners_from}
use Rattle.py_check_members_laws.proofs.Rows.{both, at_seam, found_holds}
use Rattle.py_check_laws.proofs.Meant.{is_built, builtin_built, is_import, import_is}
use Rattle.py_check_laws.proofs.Signed.{owners_many}

-- ---- what holds of each meaning of a scope

-- of what a name means that is no definition's
pub record OfNames (P : Meaning → Type 0) : Type 0 where
  pub local : (i : ℕ) → P (meaning.Local i)
  pub global : (i : ℕ) → P (meaning.Global i)
  pub untyped : P meaning.Untyped
  pub built : (m : Meaning) → is_built m ≡ true → P m

module _ (P : Meaning → Type 0) (each : OfNames P) (said : List ℕ → Option Meaning) (defined : (x : List ℕ) (m : Meaning) → said x ≡ Some m → P m) where
  said_holds : (x : List ℕ) (o : Option Meaning) → said x ≡ o → P (unwrap_or o meaning.Untyped)
  said_holds x None q = each.untyped
  said_holds x (Some m) q = defined x m q

  module _ (outer inner : List (List ℕ)) where
    role_holds : (x : List ℕ) (r : Role) → P (by_role said outer inner x r)
    role_holds x role.Param = each.local _
    role_holds x role.Local = each.local _
    role_holds x role.GlobalVar = each.global _
    role_holds x role.Function = said_holds x (said x) refl
    role_holds x role.Class = said_holds x (said x) refl
    role_holds x role.Import = said_holds x (said x) refl
    role_holds x role.Builtin = each.built (unwrap_or (builtin_meaning x) meaning.Unknown) (builtin_built x)
    role_holds x role.Unknown = each.built meaning.Unknown refl

    row_holds : (x : List ℕ) (names : List (List ℕ × Role)) → P (unwrap_or (lookup (bytes_eq x) (map (λ p. (p.0, by_role said outer inner p.0 p.1)) names)) meaning.Unknown)
    row_holds x [] = each.built meaning.Unknown refl
    row_holds x (p ∷ names) = by (bytes_eq x p.0) (row_holds x names)
      where
        by : (b : Bool) → P (unwrap_or (lookup (bytes_eq x) (map (λ p. (p.0, by_role said outer inner p.0 p.1)) names)) meaning.Unknown)
            → P (unwrap_or (cond b (Some (by_role said outer inner p.0 p.1)) (lookup (bytes_eq x) (map (λ p. (p.0, by_role said outer inner p.0 p.1)) names))) meaning.Unknown)
        by true h = role_holds p.0 p.1
        by false h = h

  -- EACH MEANING in a scope
  pub meaning_holds : (outer : List (List ℕ)) (inside : Scope) (x : List ℕ) → P (meaning_in said outer inside x)
  meaning_holds outer inside x = row_holds outer (own_names inside) x inside.names

-- ---- classes

module _ (headers : List Header) where
  -- a class that it means has a type
  abbrev pub IsTypedClass : Meaning → Type 0
  IsTypedClass m = (i : ℕ) → m ≡ meaning.Class i → has_type (slice_get headers i) ≡ true

  class_same : (n i : ℕ) → meaning.Class n ≡ meaning.Class i → n ≡ i
  class_same n i e = cc

  built_class : (m : Meaning) → is_built m ≡ true → IsTypedClass m
  built_class (meaning.Class n) h i q = absurd (cc)
  built_class (meaning.Builtin b) h i q = absurd (cc)
  built_class (meaning.Exception c) h i q = absurd (cc)
  built_class meaning.ModuleName h i q = absurd (cc)
  built_class meaning.Unknown h i q = absurd (cc)
  built_class _ h i q = absurd (cc)

  pub class_names : OfNames IsTypedClass
  class_names = record { local = λ i j q. absurd (cc); global = λ i j q. absurd (cc); untyped = λ j q. absurd (cc); built = built_class }

  typed_class : (m : Meaning) → IsTypedClass (typed_meaning headers m)
  typed_class (meaning.Class n) i q = by (has_type (slice_get headers n)) refl q
    where
      by : (b : Bool) → has_type (slice_get headers n) ≡ b → (if b then meaning.Class n else meaning.UntypedClass) ≡ meaning.Class i → has_type (slice_get headers i) ≡ true
      by true e r = subst (λ k. has_type (slice_get headers k) ≡ true) (class_same n i r) e
      by false e r = absurd (cc)
  typed_class _ i q = absurd (cc)

  pub known_class : (o : Option Meaning) (m : Meaning) → option_map (typed_meaning headers) o ≡ Some m → IsTypedClass m
  known_class None m h = absurd (cc)
  known_class (Some n) m h = subst IsTypedClass (same_Some (typed_meaning headers n) m h) (typed_class n)

-- ---- functions

module _ (headers : List Header) (whole : List Owner) where
  -- a function that it means is the module's own
  abbrev pub IsOwnFunction : Meaning → Type 0
  IsOwnFunction m = (i : ℕ) → m ≡ meaning.Function i → slice_get whole i ≡ Some owner.Module

  function_same : (n i : ℕ) → meaning.Function n ≡ meaning.Function i → n ≡ i
  function_same n i e = cc

  built_function : (m : Meaning) → is_built m ≡ true → IsOwnFunction m
  built_function (meaning.Function n) h i q = absurd (cc)
  built_function (meaning.Builtin b) h i q = absurd (cc)
  built_function (meaning.Exception c) h i q = absurd (cc)
  built_function meaning.ModuleName h i q = absurd (cc)
  built_function meaning.Unknown h i q = absurd (cc)
  built_function _ h i q = absurd (cc)

  pub function_names : OfNames IsOwnFunction
  function_names = record { local = λ i j q. absurd (cc); global = λ i j q. absurd (cc); untyped = λ j q. absurd (cc); built = built_function }

  import_function : (m : Meaning) → is_import m ≡ true → IsOwnFunction m
  import_function (meaning.Import k) h i q = absurd (cc)
  import_function _ h i q = absurd (cc)

  abbrev Holds : List ℕ × Meaning → Type 0
  Holds p = IsOwnFunction p.1

  imported : (allowed : Bool) (from name : List ℕ) → IsOwnFunction (what_is_imported allowed from name)
  imported true from name = by (import_meaning from name) refl
    where
      by : (o : Option Meaning) → import_meaning from name ≡ o → IsOwnFunction (unwrap_or o meaning.Untyped)
      by None q = λ i r. absurd (cc)
      by (Some m) q = import_function m (import_is from name m q)
  imported false from name = λ i q. absurd (cc)

  all_imported : (allowed : Bool) (from : List ℕ) (names : List (List ℕ × Option (List ℕ))) → AllByRecursion Holds (map (imported_as allowed from) names)
  all_imported allowed from [] = tt
  all_imported allowed from (a ∷ names) = (imported allowed from a.0, all_imported allowed from names)

  one_said : (front rest : List Owner) (k next : ℕ) (x : StmtTree) → whole ≡ front ++ (owners_in headers k x ++ rest) → next ≡ length front → AllByRecursion Holds (said_by next x)
  one_said front rest k next (s.at (s.Def name params ret body marks) span) e l =
      (λ i q. ap (slice_get whole) (sym (function_same next i q) ∙ l) ∙ ap (λ w. slice_get w (length front)) e ∙ at_seam front owner.Module rest, tt)
  one_said front rest k next (s.at (s.ClassDef name bases body marks) span) e l = (λ i q. absurd (cc), tt)
  one_said front rest k next (s.at (s.Import name other) span) e l = (λ i q. absurd (cc), tt)
  one_said front rest k next (s.at (s.From name names) span) e l = all_imported _ name names
  one_said front rest k next _ e l = tt

  all_said : (front : List Owner) (k next : ℕ) (ds : List StmtTree) → whole ≡ front ++ owners_from headers k ds → next ≡ length front → AllByRecursion Holds (said_from next ds)
  all_said front k next [] e l = tt
  all_said front k next (x ∷ ds) e l =
      let here = owners_in headers k x in
      let rest = owners_from headers (k + length (class_in x)) ds in
      both Holds (said_by next x) (said_from (next + length (held_by x)) ds) (one_said front rest k next x e l)
      (all_said (front ++ here) (k + length (class_in x)) (next + length (held_by x)) ds (e ∙ sym (append_assoc front here rest))
      (ap (λ n. n + length (held_by x)) l ∙ ap (λ n. length front + n) (owners_many headers k x) ∙ sym (length-append front here)))

  numbered_one : (next : ℕ) (m : Meaning) → IsOwnFunction m → IsOwnFunction (with_number next m)
  numbered_one next meaning.UntypedClass h = λ i q. absurd (cc)
  numbered_one next _ h = h

  all_numbered : (next : ℕ) (row : List (List ℕ × Meaning)) → AllByRecursion Holds row → AllByRecursion Holds (numbered next row)
  all_numbered next [] h = tt
  all_numbered next (p ∷ row) h = (numbered_one next p.1 h.0, all_numbered (next + class_count p.1) row h.1)

  typed_function : (m : Meaning) → IsOwnFunction m → IsOwnFunction (typed_meaning headers m)
  typed_function (meaning.Class n) h = by (has_type (slice_get headers n))
    where
      by : (b : Bool) → IsOwnFunction (if b then meaning.Class n else meaning.UntypedClass)
      by true = λ i q. absurd (cc)
      by false = λ i q. absurd (cc)
  typed_function _ h = h

  pub known_function : (ds : List StmtTree) → whole ≡ owners_from headers 0 ds → (x : List ℕ) (m : Meaning) → option_map (typed_meaning headers) (said_of_names ds x) ≡ Some m → IsOwnFunction m
  known_function ds e x m h = by (said_of_names ds x) refl h
    where
      by : (o : Option Meaning) → said_of_names ds x ≡ o → option_map (typed_meaning headers) o ≡ Some m → IsOwnFunction m
      by None q r = absurd (cc)
      by (Some n) q r =
          let found = found_holds Holds (numbered 0 (said_from 0 ds)) x n (all_numbered 0 (said_from 0 ds) (all_said [] 0 0 ds e refl)) q in
          subst IsOwnFunction (same_Some (typed_meaning headers n) m r) (typed_function n found.holds)
