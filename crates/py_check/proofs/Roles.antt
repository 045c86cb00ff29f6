-- What a name means by its role, and that a variable of a module is bound in it, whatever is wrong with its definitions.
use Rattle.std.proofs.Common.{◌≡◌, ℕ, Bool, true, false, not, ◌&&◌, ◌||◌, cond, List, [], ◌∷◌, map, Option, Some, None, refl, ap, ap₂, sym, ◌∙◌, subst, if◌then◌else◌, unwrap_or}
use Rattle.std.proofs.lemmas.List.Folds.{list_all-append}
use Rattle.std.proofs.lemmas.Option.{same_Some}
use Rattle.std.specs.List.{list_all, flat_map}
use Rattle.std.specs.Map.{lookup}
use Rattle.std.specs.Str.{bytes_eq}
use Rattle.py_syntax.specs.Statements as s
use Rattle.py_syntax.specs.Statements.{StmtTree, Suite}
use Rattle.py_binder.specs.declared.scope.Role.{Role}
use Rattle.py_binder.specs.declared.scope.Role.TheVariants as role
use Rattle.py_binder.specs.declared.scope.Scope.{Scope}
use Rattle.py_binder.specs.Sights.{bound_as, module_sights}
use Rattle.py_binder.specs.Scope.{contains, is_builtin, bound_there, said_there, all_there, Roles, said_or_variable, module_role, is_variable, first_sights, scope_of}
use Rattle.py_check_context.specs.declared.scope.Meaning.{Meaning}
use Rattle.py_check_context.specs.declared.scope.Meaning.TheVariants as meaning
use Rattle.py_check_names.specs.Outline.{suite_definitions}
use Rattle.py_check_names.specs.Meanings.{number, own_names, by_role, meaning_in}
use Rattle.py_typed.proofs.FitLemmas.{and_left, and_right}
use Rattle.py_check.proofs.Sights.{roles_given, suite_gives}
use Rattle.py_check.proofs.NameRows.{same_text}

-- ---- tables

pub found_all : {A : Type 0} (p : A → Bool) (test : List ℕ → Bool) (l : List (List ℕ × A)) → list_all (λ (x : List ℕ × A). p x.1) l ≡ true → (a : A) → lookup test l ≡ Some a → p a ≡ true
found_all p test [] h a e = absurd (cc)
found_all {A = A} p test (x ∷ l) h a e = by (test x.0) e (found_all p test l (and_right (p x.1) (list_all (λ (x : List ℕ × A). p x.1) l) h) a)
  where
    by : (b : Bool) → cond b (Some x.1) (lookup test l) ≡ Some a → (lookup test l ≡ Some a → p a ≡ true) → p a ≡ true
    by true q next = subst (λ z. p z ≡ true) (same_Some x.1 a q) (and_left (p x.1) (list_all (λ (x : List ℕ × A). p x.1) l) h)
    by false q next = next q

-- ---- meanings by roles

module _ (said : List ℕ → Option Meaning) (outer : List (List ℕ)) (roles : Roles) (seen : List (List ℕ)) where
  abbrev inside : Scope
  inside = scope_of roles seen

  abbrev own : List (List ℕ)
  own = own_names inside

  role_found : (ns : List (List ℕ)) (x : List ℕ) (b : Bool) → contains ns x ≡ b → lookup (bytes_eq x) (map (λ (p : List ℕ × Role). (p.0, by_role said outer own p.0 p.1)) (map (λ (y : List ℕ). (y, roles y)) ns)) ≡ cond b (Some (by_role said outer own x (roles x))) None
  role_found [] x true h = absurd (cc)
  role_found [] x false h = refl
  role_found (y ∷ ns) x b h = by (bytes_eq x y) refl h (role_found ns x b)
    where
      by : (c : Bool) → bytes_eq x y ≡ c → (c || contains ns x) ≡ b → (contains ns x ≡ b → lookup (bytes_eq x) (map (λ (p : List ℕ × Role). (p.0, by_role said outer own p.0 p.1)) (map (λ (y : List ℕ). (y, roles y)) ns)) ≡ cond b (Some (by_role said outer own x (roles x))) None)
          → cond c (Some (by_role said outer own y (roles y))) (lookup (bytes_eq x) (map (λ (p : List ℕ × Role). (p.0, by_role said outer own p.0 p.1)) (map (λ (y : List ℕ). (y, roles y)) ns))) ≡ cond b (Some (by_role said outer own x (roles x))) None
      by true q g next = ap (λ z. Some (by_role said outer own z (roles z))) (sym (same_text x y q)) ∙ ap (λ (z : Bool). cond z (Some (by_role said outer own x (roles x))) None) g
      by false q g next = next g

  pub seen_means : (x : List ℕ) → contains (first_sights seen) x ≡ true → meaning_in said outer inside x ≡ by_role said outer own x (roles x)
  seen_means x h = ap (λ o. unwrap_or o meaning.Unknown) (role_found (first_sights seen) x true h)

  pub unseen_means : (x : List ℕ) → contains (first_sights seen) x ≡ false → meaning_in said outer inside x ≡ meaning.Unknown
  unseen_means x h = ap (λ o. unwrap_or o meaning.Unknown) (role_found (first_sights seen) x false h)

-- a variable of the module
pub global_by : (outer own : List (List ℕ)) (said : List ℕ → Option Meaning) (x : List ℕ) (r : Role) → is_variable r ≡ true → by_role said outer own x r ≡ meaning.Global (number outer x)
global_by outer own said x role.GlobalVar h = refl
global_by outer own said x _ h = absurd (cc)

-- ---- definitions and imports give no variables

abbrev is_other : Role → Bool
is_other r = not (is_variable r)

abbrev none_given : List (List ℕ × Role) → Type 0
none_given l = list_all (λ (a : List ℕ × Role). is_other a.1) l ≡ true

import_other : (names : List (List ℕ × Option (List ℕ))) → none_given (map (λ a. (bound_as a.0 a.1, role.Import)) names)
import_other [] = refl
import_other (a ∷ names) = import_other names

one_other : (x : StmtTree) → none_given (roles_given x)
one_other (s.at (s.Def name params ret body marks) span) = refl
one_other (s.at (s.ClassDef name bases body marks) span) = refl
one_other (s.at (s.Import name other) span) = refl
one_other (s.at (s.From name names) span) = import_other names
one_other _ = refl

all_other : (ds : List StmtTree) → none_given (flat_map roles_given ds)
all_other [] = refl
all_other (x ∷ ds) = list_all-append (λ (a : List ℕ × Role). is_other a.1) (roles_given x) (flat_map roles_given ds) ∙ ap₂ (λ (a b : Bool). a && b) (one_other x) (all_other ds)

never_both : (b : Bool) → not b ≡ true → b ≡ true → ⊥
never_both true p q = cc
never_both false p q = cc

-- A VARIABLE of a module is bound in it
pub variable_bound : (m : Suite) (x : List ℕ) → is_variable (module_role m x) ≡ true → contains (all_there bound_there (module_sights m)) x ≡ true
variable_bound m x h = by (is_builtin x) (lookup (bytes_eq x) (all_there said_there (module_sights m))) (contains (all_there bound_there (module_sights m)) x) refl refl h
  where
    given : none_given (all_there said_there (module_sights m))
    given = subst none_given (sym (suite_gives m)) (all_other (suite_definitions m))

    by : (b : Bool) (o : Option Role) (c : Bool) → lookup (bytes_eq x) (all_there said_there (module_sights m)) ≡ o → contains (all_there bound_there (module_sights m)) x ≡ c → is_variable (if b then role.Builtin else said_or_variable o c) ≡ true → contains (all_there bound_there (module_sights m)) x ≡ true
    by true o c q p g = absurd (cc)
    by false (Some r) c q p g = absurd (never_both (is_variable r) (found_all is_other (bytes_eq x) (all_there said_there (module_sights m)) given r q) g)
    by false None true q p g = p
    by false None false q p g = absurd (cc)
