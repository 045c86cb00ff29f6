-- No variable of a module is a function or a class of it, so all its names differ.
use Rattle.std.proofs.Common.{◌≡◌, ℕ, Bool, true, false, ◌||◌, cond, List, [], ◌∷◌, ◌++◌, Some, refl, ap, sym, ◌∙◌}
use Rattle.std.proofs.lemmas.Bool.{or_left, or_right}
use Rattle.std.proofs.lemmas.List.Folds.{list_any-append}
use Rattle.std.specs.List.{flat_map}
use Rattle.std.specs.Map.{lookup}
use Rattle.std.specs.Str.{bytes_eq}
use Rattle.py_syntax.specs.Statements as s
use Rattle.py_syntax.specs.Statements.{StmtTree, Suite}
use Rattle.py_binder.specs.declared.scope.Role.{Role}
use Rattle.py_binder.specs.declared.scope.Role.TheVariants as role
use Rattle.py_binder.specs.Sights.{module_sights}
use Rattle.py_binder.specs.Scope.{contains, all_there, seen_there, is_variable, module_role, module_scope, first_sights}
use Rattle.py_typed.specs.WellTyped.{all_differ}
use Rattle.py_check_names.specs.Outline.{suite_definitions}
use Rattle.py_check_names.specs.Meanings.{variables}
use Rattle.py_check_expressions_laws.proofs.Types.{clash}
use Rattle.py_check.proofs.NameRows.{sights_differ, differ_filter, scope_names, filtered}
use Rattle.py_check.proofs.Sights.{roles_given}
use Rattle.py_check_laws.proofs.NewNames.{def_name, class_name}

-- ---- what is said of functions and classes

abbrev pub Said : List ℕ → List (List ℕ × Role) → Type 0
Said x l = (r : Role) × (lookup (bytes_eq x) l ≡ Some r)

said_on : (x : List ℕ) (l k : List (List ℕ × Role)) → Said x k → Said x (l ++ k)
said_on x [] k h = h
said_on x (p ∷ l) k h = by (bytes_eq x p.0) (said_on x l k h)
  where
    by : (b : Bool) → Said x (l ++ k) → (r : Role) × (cond b (Some p.1) (lookup (bytes_eq x) (l ++ k)) ≡ Some r)
    by true g = (p.1, refl)
    by false g = g

-- the names of a function and of a class
abbrev pub own_names : StmtTree → List (List ℕ)
own_names d = def_name d ++ class_name d

said_step : (x : List ℕ) (d : StmtTree) (names : List (List ℕ)) (k : List (List ℕ × Role)) → contains (own_names d ++ names) x ≡ true → (contains names x ≡ true → Said x k) → Said x (roles_given d ++ k)
said_step x (s.at (s.Def name params ret body marks) span) names k h next = by (bytes_eq x name) h
  where
    by : (b : Bool) → (b || contains names x) ≡ true → (r : Role) × (cond b (Some role.Function) (lookup (bytes_eq x) k) ≡ Some r)
    by true q = (role.Function, refl)
    by false q = next q
said_step x (s.at (s.ClassDef name bases body marks) span) names k h next = by (bytes_eq x name) h
  where
    by : (b : Bool) → (b || contains names x) ≡ true → (r : Role) × (cond b (Some role.Class) (lookup (bytes_eq x) k) ≡ Some r)
    by true q = (role.Class, refl)
    by false q = next q
said_step x d names k h next = said_on x (roles_given d) k (next h)

all_said : (x : List ℕ) (ds : List StmtTree) → contains (flat_map own_names ds) x ≡ true → Said x (flat_map roles_given ds)
all_said x [] h = absurd (cc)
all_said x (d ∷ ds) h = said_step x d (flat_map own_names ds) (flat_map roles_given ds) h (all_said x ds)

in_left : (a b : List (List ℕ)) (x : List ℕ) → contains a x ≡ true → contains (a ++ b) x ≡ true
in_left a b x h = list_any-append (bytes_eq x) a b ∙ or_left (contains a x) (contains b x) h

in_right : (a b : List (List ℕ)) (x : List ℕ) → contains b x ≡ true → contains (a ++ b) x ≡ true
in_right a b x h = list_any-append (bytes_eq x) a b ∙ or_right (contains a x) (contains b x) h

in_either : (a b : List (List ℕ)) (x : List ℕ) (P : Type 0) → contains (a ++ b) x ≡ true → (contains a x ≡ true → P) → (contains b x ≡ true → P) → P
in_either a b x P h f g = by (contains a x) refl
  where
    by : (c : Bool) → contains a x ≡ c → P
    by true q = f q
    by false q = g (sym (ap (λ (c : Bool). c || contains b x) q) ∙ sym (list_any-append (bytes_eq x) a b) ∙ h)

defs_own : (x : List ℕ) (ds : List StmtTree) → contains (flat_map def_name ds) x ≡ true → contains (flat_map own_names ds) x ≡ true
defs_own x [] h = absurd (cc)
defs_own x (d ∷ ds) h =
    in_either (def_name d) (flat_map def_name ds) x (contains (own_names d ++ flat_map own_names ds) x ≡ true) h (λ q. in_left (own_names d) (flat_map own_names ds) x (in_left (def_name d) (class_name d) x q))
    (λ q. in_right (own_names d) (flat_map own_names ds) x (defs_own x ds q))

classes_own : (x : List ℕ) (ds : List StmtTree) → contains (flat_map class_name ds) x ≡ true → contains (flat_map own_names ds) x ≡ true
classes_own x [] h = absurd (cc)
classes_own x (d ∷ ds) h =
    in_either (class_name d) (flat_map class_name ds) x (contains (own_names d ++ flat_map own_names ds) x ≡ true) h (λ q. in_left (own_names d) (flat_map own_names ds) x (in_right (def_name d) (class_name d) x q))
    (λ q. in_right (own_names d) (flat_map own_names ds) x (classes_own x ds q))

-- ---- variables

module _ (m : Suite) where
  abbrev ds : List StmtTree
  ds = suite_definitions m

  abbrev outer : List (List ℕ)
  outer = variables (module_scope m)

  abbrev sights : List (List ℕ)
  sights = all_there seen_there (module_sights m)

  pub variables_differ : all_differ outer ≡ true
  variables_differ = ap all_differ (scope_names is_variable (module_role m) sights) ∙ differ_filter (λ y. is_variable (module_role m y)) (first_sights sights) (sights_differ sights)

  -- where what definitions say of a name is no variable
  pub other_name : ((x : List ℕ) (r : Role) → lookup (bytes_eq x) (flat_map roles_given ds) ≡ Some r → is_variable (module_role m x) ≡ false) → (x : List ℕ) → contains outer x ≡ true → contains (flat_map def_name ds ++ flat_map class_name ds) x ≡ false
  other_name no_variable x h = by (contains (flat_map def_name ds ++ flat_map class_name ds) x) refl
    where
      by : (b : Bool) → contains (flat_map def_name ds ++ flat_map class_name ds) x ≡ b → contains (flat_map def_name ds ++ flat_map class_name ds) x ≡ false
      by false q = q
      by true q =
          let r = all_said x ds (in_either (flat_map def_name ds) (flat_map class_name ds) x (contains (flat_map own_names ds) x ≡ true) q (defs_own x ds) (classes_own x ds)) in
          let v = filtered (λ y. is_variable (module_role m y)) (first_sights sights) x (sym (ap (λ l. contains l x) (scope_names is_variable (module_role m) sights)) ∙ h) in
          clash (is_variable (module_role m x)) v.0 (no_variable x r.0 r.1)
