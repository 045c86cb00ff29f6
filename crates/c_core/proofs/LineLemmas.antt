-- One turn of a loop over lines, or over parameters and arguments.
use Rattle.std.proofs.Common.{◌≡◌, refl, sym, ◌∙◌, ap, ℕ, suc, ◌+◌, ◌-◌, ◌<◌, ◌≤◌, arith, Bool, true, false, cond, List, [], ◌∷◌, length, drop, get_or, add-one, drop-cons, length-drop, Some}
use Rattle.std.specs.Prelude.{slice_get, map, ◌&&◌}
use Rattle.std.specs.List.{list_all}
use Rattle.c_core.specs.declared.code.Kind.{Kind}
use Rattle.c_core.specs.declared.code.CArg.{CArg}
use Rattle.c_core.specs.declared.code.CArg.TheVariants as arg
use Rattle.c_core.specs.declared.code.Line.{Line}
use Rattle.c_core.specs.declared.code.CFunc.{CFunc}
use Rattle.c_core.specs.Functions.{is_label, is_turn, labels_from, label_places}
use Rattle.c_core.specs.WellFormed.{Declared, jump_fits, jumps_fit, has_kind, kind_at, passes, spelled_function, spelled_functions}

drop_here : {A : Type 0} (xs : List A) (i : ℕ) (x : A) → i < length xs → x ≡ get_or xs i x → drop i xs ≡ x ∷ drop (i + 1) xs
drop_here xs i x l e =
    drop-cons xs i x l ∙ ap (λ y. y ∷ drop (suc i) xs) (sym e) ∙ ap (λ k. x ∷ drop k xs) (sym (add-one i))

module _ (lines : List Line) (i : ℕ) (x : Line) (within : i < length lines) (is : x ≡ get_or lines i x) where
  labels_turn : (b : Bool) → b ≡ is_label x → labels_from i (drop i lines) ≡ cond b (i ∷ labels_from (i + 1) (drop (i + 1) lines)) (labels_from (i + 1) (drop (i + 1) lines))
  labels_turn b e =
      ap (labels_from i) (drop_here lines i x within is)
      ∙ ap (λ c. cond c (i ∷ labels_from (i + 1) (drop (i + 1) lines)) (labels_from (i + 1) (drop (i + 1) lines))) (sym e)

  pub no_label : (b : Bool) → b ≡ is_label x → b ≡ false → labels_from i (drop i lines) ≡ labels_from (i + 1) (drop (i + 1) lines)
  no_label b e f =
      labels_turn b e ∙ ap (λ c. cond c (i ∷ labels_from (i + 1) (drop (i + 1) lines)) (labels_from (i + 1) (drop (i + 1) lines))) f

  pub a_label : (b : Bool) → b ≡ is_label x → b ≡ true → labels_from i (drop i lines) ≡ i ∷ labels_from (i + 1) (drop (i + 1) lines)
  a_label b e f =
      labels_turn b e ∙ ap (λ c. cond c (i ∷ labels_from (i + 1) (drop (i + 1) lines)) (labels_from (i + 1) (drop (i + 1) lines))) f

  jumps_turn : (labels : List ℕ) (after : Bool) (b : Bool) → b ≡ jump_fits labels i after x → jumps_fit labels i after (drop i lines) ≡ jumps_fit labels 0 false lines → jumps_fit labels 0 false lines ≡ (b && jumps_fit labels (i + 1) (is_turn x) (drop (i + 1) lines))
  jumps_turn labels after b e so_far =
      sym so_far
      ∙ ap (jumps_fit labels i after) (drop_here lines i x within is)
      ∙ ap (λ c. c && jumps_fit labels (i + 1) (is_turn x) (drop (i + 1) lines)) (sym e)

  pub jumps_stop : (labels : List ℕ) (after b : Bool) → b ≡ jump_fits labels i after x → b ≡ false → jumps_fit labels i after (drop i lines) ≡ jumps_fit labels 0 false lines → false ≡ jumps_fit labels 0 false lines
  jumps_stop labels after b e differs so_far =
      sym (jumps_turn labels after b e so_far ∙ ap (λ c. c && jumps_fit labels (i + 1) (is_turn x) (drop (i + 1) lines)) differs)

  pub jumps_more : (labels : List ℕ) (after b t : Bool) → b ≡ jump_fits labels i after x → b ≡ true → t ≡ is_turn x → jumps_fit labels i after (drop i lines) ≡ jumps_fit labels 0 false lines → jumps_fit labels (i + 1) t (drop (i + 1) lines) ≡ jumps_fit labels 0 false lines
  jumps_more labels after b t e good turn so_far =
      ap (λ u. jumps_fit labels (i + 1) u (drop (i + 1) lines)) turn
      ∙ sym (jumps_turn labels after b e so_far ∙ ap (λ c. c && jumps_fit labels (i + 1) (is_turn x) (drop (i + 1) lines)) good)

  -- one turn of the search for a label, with so many others above it among those that are left
  pub found_here : (others label : ℕ) (b : Bool) → b ≡ is_label x → b ≡ true → others ≡ 0 → slice_get (labels_from i (drop i lines)) others ≡ slice_get (label_places lines) label → Some i ≡ slice_get (label_places lines) label
  found_here others label b e f none so_far =
      ap (λ ls. slice_get ls 0) (sym (a_label b e f)) ∙ ap (slice_get (labels_from i (drop i lines))) (sym none) ∙ so_far

  pub not_here : (others label : ℕ) (b : Bool) → b ≡ is_label x → b ≡ true → (others ≡ 0 → ⊥) → slice_get (labels_from i (drop i lines)) others ≡ slice_get (label_places lines) label → slice_get (labels_from (i + 1) (drop (i + 1) lines)) (others - 1) ≡ slice_get (label_places lines) label
  not_here others label b e f some so_far =
      let one_less : others ≡ suc (others - 1) = omega (arith, some) in
      sym (ap (slice_get (labels_from i (drop i lines))) one_less ∙ ap (λ ls. slice_get ls (suc (others - 1))) (a_label b e f)) ∙ so_far

  pub passed_over : (others label : ℕ) (b : Bool) → b ≡ is_label x → b ≡ false → slice_get (labels_from i (drop i lines)) others ≡ slice_get (label_places lines) label → slice_get (labels_from (i + 1) (drop (i + 1) lines)) others ≡ slice_get (label_places lines) label
  passed_over others label b e f so_far = ap (λ ls. slice_get ls others) (sym (no_label b e f)) ∙ so_far

-- ---- parameters and arguments
abbrev kinds : List Declared → List Kind
kinds ps = map (λ (v : Declared). v.1) ps

later : (a b : Bool) → false ≡ b → false ≡ (a && b)
later true b e = e
later false b e = refl

pub lengths_differ : (vars ps : List Declared) (args : List CArg) → (length ps ≡ length args → ⊥) → false ≡ passes vars (kinds ps) args
lengths_differ vars [] [] n = absurd (n refl)
lengths_differ vars [] (a ∷ args) n = refl
lengths_differ vars (p ∷ ps) [] n = refl
lengths_differ vars (p ∷ ps) (arg.Var x ∷ args) n = later (has_kind p.1 (kind_at vars x)) (passes vars (kinds ps) args) (lengths_differ vars ps args (λ e. n (omega (arith, e))))
lengths_differ vars (p ∷ ps) (_ ∷ args) n = refl

-- one argument passes as the first of all
and_shift : (a b : Bool) → (a && b) ≡ ((a && true) && b)
and_shift true b = refl
and_shift false b = refl

passes_step : (vars : List Declared) (p : Declared) (a : CArg) (ps : List Declared) (args : List CArg) → passes vars (kinds (p ∷ ps)) (a ∷ args) ≡ (passes vars (p.1 ∷ []) (a ∷ []) && passes vars (kinds ps) args)
passes_step vars p (arg.Var x) ps args = and_shift (has_kind p.1 (kind_at vars x)) (passes vars (kinds ps) args)
passes_step vars p _ ps args = refl

passes_turn : (vars ps : List Declared) (args : List CArg) (i : ℕ) (p : Declared) (a : CArg) (b : Bool) → i < length ps → p ≡ get_or ps i p → i < length args → a ≡ get_or args i a → b ≡ passes vars (p.1 ∷ []) (a ∷ []) → passes vars (kinds (drop i ps)) (drop i args) ≡ passes vars (kinds ps) args → passes vars (kinds ps) args ≡ (b && passes vars (kinds (drop (i + 1) ps)) (drop (i + 1) args))
passes_turn vars ps args i p a b l e k f is so_far =
    sym so_far
    ∙ ap (λ xs. passes vars (kinds xs) (drop i args)) (drop_here ps i p l e)
    ∙ ap (passes vars (kinds (p ∷ drop (i + 1) ps))) (drop_here args i a k f)
    ∙ passes_step vars p a (drop (i + 1) ps) (drop (i + 1) args)
    ∙ ap (λ c. c && passes vars (kinds (drop (i + 1) ps)) (drop (i + 1) args)) (sym is)

pub passes_stop : (vars ps : List Declared) (args : List CArg) (i : ℕ) (p : Declared) (a : CArg) (b : Bool) → i < length ps → p ≡ get_or ps i p → i < length args → a ≡ get_or args i a → b ≡ passes vars (p.1 ∷ []) (a ∷ []) → b ≡ false → passes vars (kinds (drop i ps)) (drop i args) ≡ passes vars (kinds ps) args → false ≡ passes vars (kinds ps) args
passes_stop vars ps args i p a b l e k f is differs so_far =
    sym (passes_turn vars ps args i p a b l e k f is so_far ∙ ap (λ c. c && passes vars (kinds (drop (i + 1) ps)) (drop (i + 1) args)) differs)

pub passes_more : (vars ps : List Declared) (args : List CArg) (i : ℕ) (p : Declared) (a : CArg) (b : Bool) → i < length ps → p ≡ get_or ps i p → i < length args → a ≡ get_or args i a → b ≡ passes vars (p.1 ∷ []) (a ∷ []) → b ≡ true → passes vars (kinds (drop i ps)) (drop i args) ≡ passes vars (kinds ps) args → passes vars (kinds (drop (i + 1) ps)) (drop (i + 1) args) ≡ passes vars (kinds ps) args
passes_more vars ps args i p a b l e k f is good so_far =
    sym (passes_turn vars ps args i p a b l e k f is so_far ∙ ap (λ c. c && passes vars (kinds (drop (i + 1) ps)) (drop (i + 1) args)) good)

-- ---- one turn of a loop that tests each of a list
module _ {A : Type 0} (p : A → Bool) (xs : List A) (i : ℕ) (x : A) (b : Bool) (within : i < length xs) (is : x ≡ get_or xs i x) (says : b ≡ p x) (so_far : list_all p (drop i xs) ≡ list_all p xs) where
  all_turn : list_all p xs ≡ (b && list_all p (drop (i + 1) xs))
  all_turn =
      sym so_far ∙ ap (list_all p) (drop_here xs i x within is) ∙ ap (λ c. c && list_all p (drop (i + 1) xs)) (sym says)

  pub all_stop : b ≡ false → false ≡ list_all p xs
  all_stop differs = sym (all_turn ∙ ap (λ c. c && list_all p (drop (i + 1) xs)) differs)

  pub all_more : b ≡ true → list_all p (drop (i + 1) xs) ≡ list_all p xs
  all_more good = sym (all_turn ∙ ap (λ c. c && list_all p (drop (i + 1) xs)) good)

-- ---- one turn of a loop over all functions but the last
not_last : (x : CFunc) (rest : List CFunc) → 1 ≤ length rest → spelled_functions (x ∷ rest) ≡ (spelled_function x && spelled_functions rest)
not_last x [] some = absurd (omega (arith, some))
not_last x (y ∷ ys) some = refl

module _ (fs : List CFunc) (i : ℕ) (x : CFunc) (is : x ≡ get_or fs i x) (so_far : spelled_functions (drop i fs) ≡ spelled_functions fs) where
  function_turn : (b : Bool) → i + 1 < length fs → b ≡ spelled_function x → spelled_functions fs ≡ (b && spelled_functions (drop (i + 1) fs))
  function_turn b within says =
      sym so_far
      ∙ ap spelled_functions (drop_here fs i x (omega arith) is)
      ∙ not_last x (drop (i + 1) fs) (omega (arith, length-drop (i + 1) fs))
      ∙ ap (λ c. c && spelled_functions (drop (i + 1) fs)) (sym says)

  pub function_more : (b : Bool) → i + 1 < length fs → b ≡ spelled_function x → b ≡ true → spelled_functions (drop (i + 1) fs) ≡ spelled_functions fs
  function_more b within says good =
      sym (function_turn b within says ∙ ap (λ c. c && spelled_functions (drop (i + 1) fs)) good)
