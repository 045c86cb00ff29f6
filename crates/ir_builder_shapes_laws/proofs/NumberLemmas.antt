-- Calls find what they name: primitives by the names of their rows, and functions by theirs.
use Rattle.ir_builder_shapes_laws.proofs.Common.{◌≡◌, ◌∙◌, ap, subst, ℕ, zero, suc, ◌+◌, arith, true, false, cond, List, [], ◌∷◌, length, Some, None, slice_get, map, nat_lt, list_any, position, position_or_len, bytes_eq, and_parts, not-true, lt-ltb, slice_get_within, bytes_eq-Decides, CFunc, names_differ, bytes_eq-sym, Func, Program, name_in, lowered_as, lowered_from, lower}
use Rattle.std.proofs.Common.{not}
use Rattle.ir_builder_shapes_laws.proofs.NameLemmas.{other_at}

-- ---- functions

-- the place of the first function of a name
place_is : (fs : List CFunc) (n : ℕ) (g : CFunc) → names_differ (map (λ (k : CFunc). k.name) fs) ≡ true → slice_get fs n ≡ Some g → position_or_len (λ (k : CFunc). bytes_eq g.name k.name) fs ≡ n
place_is [] n g differ e = let f : None ≡ Some g = e in absurd (cc)
place_is (x ∷ fs) zero g differ e =
    let f : Some x ≡ Some g = e in
    let same : g ≡ x = cc in
    let found : bytes_eq g.name x.name ≡ true = (bytes_eq-Decides g.name x.name).1 (ap (λ (k : CFunc). k.name) same) in
    ap (λ c. cond (not c) (1 + position_or_len (λ (k : CFunc). bytes_eq g.name k.name) fs) 0) found
place_is (x ∷ fs) (suc n) g differ e =
    let parts = and_parts (not (list_any (bytes_eq x.name) (map (λ (k : CFunc). k.name) fs))) (names_differ (map (λ (k : CFunc). k.name) fs)) differ in
    let other : bytes_eq g.name x.name ≡ false = bytes_eq-sym g.name x.name ∙ other_at (λ (k : CFunc). k.name) x.name fs n g (not-true (list_any (bytes_eq x.name) (map (λ (k : CFunc). k.name) fs)) parts.0) e in
    ap (λ c. cond (not c) (1 + position_or_len (λ (k : CFunc). bytes_eq g.name k.name) fs) 0) other
    ∙ (ap (λ z. 1 + z) (place_is fs n g parts.1 e) ∙ omega arith)

number_of_own : (fs : List CFunc) (n : ℕ) (g : CFunc) → names_differ (map (λ (k : CFunc). k.name) fs) ≡ true → slice_get fs n ≡ Some g → position (λ (k : CFunc). bytes_eq g.name k.name) fs ≡ Some n
number_of_own fs n g differ e =
    ap (λ i. cond (nat_lt i (length fs)) (Some i) None) (place_is fs n g differ e)
    ∙ ap (λ c. cond c (Some n) None) (lt-ltb n (length fs) (slice_get_within fs n g e))

-- a function is found by its name, since no other one has it
pub number_is : (fs : List CFunc) (name : List ℕ) (n : ℕ) (g : CFunc) → names_differ (map (λ (k : CFunc). k.name) fs) ≡ true → slice_get fs n ≡ Some g → g.name ≡ name → position (λ (k : CFunc). bytes_eq name k.name) fs ≡ Some n
number_is fs name n g differ e named =
    subst (λ z. position (λ (k : CFunc). bytes_eq z k.name) fs ≡ Some n) named (number_of_own fs n g differ e)

module _ (p : Program) where
  function_behind : (i n : ℕ) (fs : List Func) (f : Func) → slice_get fs n ≡ Some f → slice_get (lowered_from p i fs) n ≡ Some (lowered_as p (name_in p (i + n) f) f)
  function_behind i n [] f e = let g : None ≡ Some f = e in absurd (cc)
  function_behind i zero (x ∷ fs) f e =
      let g : Some x ≡ Some f = e in
      let same : x ≡ f = cc in
      let here : i ≡ i + 0 = omega arith in
      ap (λ (y : Func). Some (lowered_as p (name_in p i y) y)) same ∙ ap (λ k. Some (lowered_as p (name_in p k f) f)) here
  function_behind i (suc n) (x ∷ fs) f e =
      let next : suc i + n ≡ i + suc n = omega arith in
      function_behind (suc i) n fs f e ∙ ap (λ k. Some (lowered_as p (name_in p k f) f)) next

  -- the code of a function has its number
  pub function_at : (n : ℕ) (f : Func) → slice_get p.funcs n ≡ Some f → slice_get (lower p).funcs n ≡ Some (lowered_as p (name_in p n f) f)
  function_at n f e =
      let same : 0 + n ≡ n = omega arith in
      function_behind 0 n p.funcs f e ∙ ap (λ k. Some (lowered_as p (name_in p k f) f)) same
