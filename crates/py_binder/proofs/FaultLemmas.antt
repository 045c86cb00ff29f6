-- What is wrong, sight by sight.
use Rattle.std.proofs.Common.{◌≡◌, ℕ, suc, ◌+◌, ◌<◌, List, [], ◌∷◌, ◌++◌, length, map, drop, get_or, drop-cons, add-one, ap, sym, ◌∙◌}
use Rattle.std.proofs.lemmas.List.{append_assoc, map-append}
use Rattle.py_binder.specs.declared.sight.Sight as collected
use Rattle.py_syntax_diagnostics.specs.declared.diagnostic.Diag.{Diag}
use Rattle.py_binder.specs.declared.scope.Scope.{Scope}
use Rattle.py_binder.specs.Scope.{contains, Roles, seen_there, held_there, all_there, function_scope}
use Rattle.py_binder.specs.Faults.{place_faults, body_faults, held_faults, faults_among}
use Rattle.py_binder.specs.Collected.{use_of, sights_of}
use Rattle.py_binder.proofs.TableLemmas.{same_refused}

pub body_step : (outer role : Roles) (r r2 : List (List ℕ)) (xs : List collected.Sight) (i : ℕ) (x : collected.Sight) → i < length xs → x ≡ get_or xs i x → (f f2 all : List Diag) → f2 ≡ f ++ place_faults outer role (contains r) (use_of x.does) x.span → ((q : List ℕ) → contains r2 q ≡ contains (r ++ seen_there (use_of x.does)) q) → f ++ body_faults outer role r (sights_of (drop i xs)) ≡ all → f2 ++ body_faults outer role r2 (sights_of (drop (i + 1) xs)) ≡ all
body_step outer role r r2 xs i x h at f f2 all e names before =
    ap (λ n. f2 ++ body_faults outer role r2 (sights_of (drop n xs))) (add-one i)
    ∙ ap (λ l. f2 ++ l) (same_refused outer role r2 (r ++ seen_there (use_of x.does)) names (sights_of (drop (suc i) xs)))
    ∙ ap (λ l. l ++ body_faults outer role (r ++ seen_there (use_of x.does)) (sights_of (drop (suc i) xs))) e
    ∙ append_assoc f _ _
    ∙ ap (λ y. f ++ body_faults outer role r (sights_of (y ∷ drop (suc i) xs))) at
    ∙ ap (λ l. f ++ body_faults outer role r (sights_of l)) (sym (drop-cons xs i x h))
    ∙ before

-- a step over the sights of a module: the scopes, and the faults
pub scopes_step : (outer : Roles) (xs : List collected.Sight) (i : ℕ) (x : collected.Sight) → i < length xs → x ≡ get_or xs i x → (g g2 all : List Scope) → g2 ≡ g ++ map (function_scope outer) (held_there (use_of x.does)) → g ++ map (function_scope outer) (all_there held_there (sights_of (drop i xs))) ≡ all → g2 ++ map (function_scope outer) (all_there held_there (sights_of (drop (i + 1) xs))) ≡ all
scopes_step outer xs i x h at g g2 all e before =
    ap (λ n. g2 ++ map (function_scope outer) (all_there held_there (sights_of (drop n xs)))) (add-one i)
    ∙ ap (λ l. l ++ map (function_scope outer) (all_there held_there (sights_of (drop (suc i) xs)))) e
    ∙ append_assoc g _ _
    ∙ ap (λ l. g ++ l) (sym (map-append (function_scope outer) (held_there (use_of x.does)) (all_there held_there (sights_of (drop (suc i) xs)))))
    ∙ ap (λ y. g ++ map (function_scope outer) (all_there held_there (sights_of (y ∷ drop (suc i) xs)))) at
    ∙ ap (λ l. g ++ map (function_scope outer) (all_there held_there (sights_of l))) (sym (drop-cons xs i x h))
    ∙ before

pub faults_step : (outer role : Roles) (none : List (List ℕ)) → none ≡ [] → (xs : List collected.Sight) (i : ℕ) (x : collected.Sight) → i < length xs → x ≡ get_or xs i x → (f f1 f2 all : List Diag) → f1 ≡ f ++ place_faults outer role (contains none) (use_of x.does) x.span → f2 ≡ f1 ++ held_faults outer (use_of x.does) → f ++ faults_among outer role (sights_of (drop i xs)) ≡ all → f2 ++ faults_among outer role (sights_of (drop (i + 1) xs)) ≡ all
faults_step outer role none empty xs i x h at f f1 f2 all e1 e2 before =
    ap (λ n. f2 ++ faults_among outer role (sights_of (drop n xs))) (add-one i)
    ∙ ap (λ l. l ++ faults_among outer role (sights_of (drop (suc i) xs))) (e2 ∙ ap (λ l. l ++ held_faults outer (use_of x.does)) (e1 ∙ ap (λ k. f ++ place_faults outer role (contains k) (use_of x.does) x.span) empty) ∙ append_assoc f _ _)
    ∙ append_assoc f _ _
    ∙ ap (λ y. f ++ faults_among outer role (sights_of (y ∷ drop (suc i) xs))) at
    ∙ ap (λ l. f ++ faults_among outer role (sights_of l)) (sym (drop-cons xs i x h))
    ∙ before
