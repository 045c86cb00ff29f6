-- The names of what is built differ in C text, and are identifiers there.
use Rattle.ir_builder_shapes_laws.proofs.Common.{◌≡◌, ◌≢◌, refl, ◌∙◌, ap, subst, ℕ, zero, suc, ◌+◌, ◌<◌, ◌≤◌, arith, true, false, cond, List, [], ◌∷◌, ◌++◌, length, Some, None, take, inl, inr, slice_get, map, find, ◌||◌, not, option_map, list_all, list_any, bytes_eq, and_from, and_parts, or_from, or_parts, not-true, cases_lt, eq-eqb, ne_eqb, slice_get-map, bytes_eq-Decides, Kind, CFunc, kind_of_global, is_identifier, names_differ, spelled_globals, bytes_eq-sym, RType, Func, Program, function_id, variable_id, Declared, kind_of_type, variable_of, global_of, name_in, lowered_from, lower, temporary_name}
use Rattle.std.proofs.lemmas.List.Folds.{list_any-append}
use Rattle.c_core.proofs.Lines.{all_at}
use Rattle.ir_builder_frames.specs.Naming.{names_of}
use Rattle.ir_builder_shapes_laws.proofs.SpellingLemmas.{identifier_parts, variable_identifier, temporary_identifier, function_called_as}

-- ---- variables

any_id : (name : List ℕ) (ds : Declared) → list_any (bytes_eq (variable_id name)) (map (λ (v : List ℕ × Kind). v.0) (map variable_of ds)) ≡ list_any (bytes_eq name) (names_of ds)
any_id name [] = refl
any_id name (d ∷ ds) = ap (λ b. bytes_eq name d.0 || b) (any_id name ds)

pub variables_differ : (ds : Declared) → names_differ (names_of ds) ≡ true → names_differ (map (λ (v : List ℕ × Kind). v.0) (map variable_of ds)) ≡ true
variables_differ [] e = refl
variables_differ (d ∷ ds) e =
    let parts = and_parts (not (list_any (bytes_eq d.0) (names_of ds))) (names_differ (names_of ds)) e in
    and_from (not (list_any (bytes_eq (variable_id d.0)) (map (λ (v : List ℕ × Kind). v.0) (map variable_of ds)))) (names_differ (map (λ (v : List ℕ × Kind). v.0) (map variable_of ds)))
    (ap not (any_id d.0 ds) ∙ parts.0) (variables_differ ds parts.1)

first_spelled : (count : ℕ) (ds : Declared) → list_all is_identifier (names_of (take count ds)) ≡ true → (i : ℕ) (d : List ℕ × RType) → i < count → slice_get ds i ≡ Some d → is_identifier d.0 ≡ true
first_spelled zero ds all i d lt e = absurd (omega (arith, lt))
first_spelled (suc n) [] all i d lt e = let f : None ≡ Some d = e in absurd (cc)
first_spelled (suc n) (x ∷ ds) all zero d lt e =
    let f : Some x ≡ Some d = e in
    let same : x ≡ d = cc in
    subst (λ (v : List ℕ × RType). is_identifier v.0 ≡ true) same (and_parts (is_identifier x.0) (list_all is_identifier (names_of (take n ds))) all).0
first_spelled (suc n) (x ∷ ds) all (suc i) d lt e =
    first_spelled n ds (and_parts (is_identifier x.0) (list_all is_identifier (names_of (take n ds))) all).1 i d (omega (arith, lt)) e

each_spelled : (ds : Declared) → ((i : ℕ) (d : List ℕ × RType) → slice_get ds i ≡ Some d → is_identifier d.0 ≡ true) → list_all (λ (v : List ℕ × Kind). is_identifier v.0) (map variable_of ds) ≡ true
each_spelled [] h = refl
each_spelled (d ∷ ds) h =
    and_from (is_identifier (variable_id d.0)) (list_all (λ (v : List ℕ × Kind). is_identifier v.0) (map variable_of ds))
    (variable_identifier d.0 (h 0 d refl)) (each_spelled ds (λ i x e. h (suc i) x e))

pub variables_spelled : (count : ℕ) (ds : Declared) → ((i : ℕ) (d : List ℕ × RType) → count ≤ i → slice_get ds i ≡ Some d → (k : ℕ) × (d.0 ≡ temporary_name k)) → list_all is_identifier (names_of (take count ds)) ≡ true → list_all (λ (v : List ℕ × Kind). is_identifier v.0) (map variable_of ds) ≡ true
variables_spelled count ds named all =
    each_spelled ds (λ i d e. elim (cases_lt i count) [
      | inl lt ↦ first_spelled count ds all i d lt e
      | inr le ↦ (let n = named i d le e in ap is_identifier n.1 ∙ temporary_identifier n.0)
    ])

-- ---- globals

pub global_names : (gs : Declared) → map (λ (v : List ℕ × Kind). v.0) (map global_of gs) ≡ names_of gs
global_names [] = refl
global_names (g ∷ gs) = ap (λ ns. g.0 ∷ ns) (global_names gs)

pub globals_spelled : (gs : Declared) → list_all is_identifier (names_of gs) ≡ true → spelled_globals (map global_of gs) ≡ true
globals_spelled [] h = refl
globals_spelled (g ∷ gs) h =
    let parts = and_parts (is_identifier g.0) (list_all is_identifier (names_of gs)) h in
    and_from (is_identifier g.0) (spelled_globals (map global_of gs)) parts.0 (globals_spelled gs parts.1)

-- a name that none of these has is another one than theirs
pub other_at : {A : Type 0} (name_of : A → List ℕ) (name : List ℕ) (xs : List A) (n : ℕ) (x : A) → list_any (bytes_eq name) (map name_of xs) ≡ false → slice_get xs n ≡ Some x → bytes_eq name (name_of x) ≡ false
other_at name_of name [] n x none e = let f : None ≡ Some x = e in absurd (cc)
other_at name_of name (y ∷ xs) zero x none e =
    let f : Some y ≡ Some x = e in
    let same : y ≡ x = cc in
    subst (λ z. bytes_eq name (name_of z) ≡ false) same (or_parts (bytes_eq name (name_of y)) (list_any (bytes_eq name) (map name_of xs)) none).0
other_at name_of name (y ∷ xs) (suc n) x none e =
    other_at name_of name xs n x (or_parts (bytes_eq name (name_of y)) (list_any (bytes_eq name) (map name_of xs)) none).1 e

-- a global is found by its name
global_found : (gs : Declared) (n : ℕ) (name : List ℕ) (t : RType) → names_differ (names_of gs) ≡ true → slice_get gs n ≡ Some (name, t) → find (λ (g : List ℕ × Kind). bytes_eq name g.0) (map global_of gs) ≡ Some (name, kind_of_type t)
global_found [] n name t differ e =
    let d : List ℕ × RType = (name, t) in
    let f : None ≡ Some d = e in
    absurd (cc)
global_found (g ∷ gs) zero name t differ e =
    let f : Some g ≡ Some (name, t) = e in
    let same : g ≡ (name, t) = cc in
    let later = find (λ (x : List ℕ × Kind). bytes_eq name x.0) (map global_of gs) in
    ap (λ (v : List ℕ × RType). cond (bytes_eq name v.0) (Some (global_of v)) later) same
    ∙ ap (λ c. cond c (Some (name, kind_of_type t)) later) ((bytes_eq-Decides name name).1 refl)
global_found (g ∷ gs) (suc n) name t differ e =
    let parts = and_parts (not (list_any (bytes_eq g.0) (names_of gs))) (names_differ (names_of gs)) differ in
    let other : bytes_eq name g.0 ≡ false = bytes_eq-sym name g.0 ∙ other_at (λ (d : List ℕ × RType). d.0) g.0 gs n (name, t) (not-true (list_any (bytes_eq g.0) (names_of gs)) parts.0) e in
    ap (λ c. cond c (Some (global_of g)) (find (λ (x : List ℕ × Kind). bytes_eq name x.0) (map global_of gs))) other
    ∙ global_found gs n name t parts.1 e

-- a global of the program is named by an identifier, and has the kind of its type
pub record IsKnown (p : Program) (name : List ℕ) (t : RType) : Type 0 where
  pub identifier : is_identifier name ≡ true
  pub kind : kind_of_global (lower p) name ≡ Some (kind_of_type t)

pub global_known : (p : Program) → list_all is_identifier (names_of p.globals) ≡ true → names_differ (names_of p.globals) ≡ true → (n : ℕ) (name : List ℕ) (t : RType) → slice_get p.globals n ≡ Some (name, t) → IsKnown p name t
global_known p identifiers differ n name t e = record {
  identifier = all_at is_identifier (names_of p.globals) n name identifiers (slice_get-map (λ (d : List ℕ × RType). d.0) p.globals n ∙ ap (option_map (λ (d : List ℕ × RType). d.0)) e);
  kind = ap (option_map (λ (g : List ℕ × Kind). g.1)) (global_found p.globals n name t differ e);
}

-- ---- functions, and the module's own, which has no name

-- names that are not empty, and one that is
differ_empty : (ns : List (List ℕ)) → names_differ ns ≡ true → ((k : ℕ) (n : List ℕ) → slice_get ns k ≡ Some n → bytes_eq n [] ≡ false) → names_differ (ns ++ [] ∷ []) ≡ true
differ_empty [] e some = refl
differ_empty (n ∷ ns) e some =
    let parts = and_parts (not (list_any (bytes_eq n) ns)) (names_differ ns) e in
    let none : list_any (bytes_eq n) (ns ++ [] ∷ []) ≡ false =
    list_any-append (bytes_eq n) ns ([] ∷ [])
    ∙ or_from (list_any (bytes_eq n) ns) (bytes_eq n [] || false) (not-true (list_any (bytes_eq n) ns) parts.0) (or_from (bytes_eq n []) false (some 0 n refl) refl) in
    and_from (not (list_any (bytes_eq n) (ns ++ [] ∷ []))) (names_differ (ns ++ [] ∷ [])) (ap not none) (differ_empty ns parts.1 (λ k x f. some (suc k) x f))

name_at : (fs : List Func) → ((k : ℕ) (f : Func) → slice_get fs k ≡ Some f → is_identifier f.name ≡ true) → (k : ℕ) (n : List ℕ) → slice_get (map (λ (f : Func). f.name) fs) k ≡ Some n → bytes_eq n [] ≡ false
name_at [] all k n e = let f : None ≡ Some n = e in absurd (cc)
name_at (x ∷ fs) all zero n e =
    let f : Some x.name ≡ Some n = e in
    let same : x.name ≡ n = cc in
    subst (λ z. bytes_eq z [] ≡ false) same (identifier_parts x.name (all 0 x refl)).some
name_at (x ∷ fs) all (suc k) n e = name_at fs (λ i f g. all (suc i) f g) k n e

module _ (p : Program) where
  pub own_name : (n : ℕ) (f : Func) → suc n ≡ length p.funcs → name_in p n f ≡ []
  own_name n f e = ap (λ b. cond b [] (function_id f.name)) (eq-eqb (suc n) (length p.funcs) e)

  pub other_name : (n : ℕ) (f : Func) → suc n ≢ length p.funcs → is_identifier f.name ≡ true → name_in p n f ≡ f.name
  other_name n f ne is =
      ap (λ b. cond b [] (function_id f.name)) (ne_eqb (suc n) (length p.funcs) ne) ∙ function_called_as f.name is

  lowered_names : (own : Func) (fs : List Func) (n : ℕ) → n + suc (length fs) ≡ length p.funcs → ((k : ℕ) (f : Func) → slice_get fs k ≡ Some f → is_identifier f.name ≡ true) → map (λ (g : CFunc). g.name) (lowered_from p n (fs ++ own ∷ [])) ≡ map (λ (f : Func). f.name) fs ++ [] ∷ []
  lowered_names own [] n count all =
      let e : suc n ≡ length p.funcs = omega (arith, count) in ap (λ x. x ∷ []) (own_name n own e)
  lowered_names own (f ∷ fs) n count all =
      let ne : suc n ≢ length p.funcs = omega (arith, count) in
      let here : name_in p n f ≡ f.name = other_name n f ne (all 0 f refl) in
      let more : map (λ (g : CFunc). g.name) (lowered_from p (suc n) (fs ++ own ∷ [])) ≡ map (λ (x : Func). x.name) fs ++ [] ∷ [] =
      lowered_names own fs (suc n) (omega (arith, count)) (λ k x e. all (suc k) x e) in
      ap (λ x. x ∷ map (λ (g : CFunc). g.name) (lowered_from p (suc n) (fs ++ own ∷ []))) here ∙ ap (λ xs. f.name ∷ xs) more

  pub functions_differ : (own : Func) (fs : List Func) → suc (length fs) ≡ length p.funcs → ((k : ℕ) (f : Func) → slice_get fs k ≡ Some f → is_identifier f.name ≡ true) → names_differ (map (λ (f : Func). f.name) fs) ≡ true → names_differ (map (λ (g : CFunc). g.name) (lowered_from p 0 (fs ++ own ∷ []))) ≡ true
  functions_differ own fs count all e =
      ap names_differ (lowered_names own fs 0 (omega (arith, count)) all)
      ∙ differ_empty (map (λ (f : Func). f.name) fs) e (name_at fs all)
