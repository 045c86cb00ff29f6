-- Marks of the blocks that one comes to.
use Rattle.std.proofs.Common.{◌≡◌, ℕ, zero, suc, ◌+◌, ◌<◌, ◌≤◌, ◌⊎◌, Bool, true, false, List, [], ◌∷◌, ◌++◌, length, refl, sym, ap, ◌∙◌, subst, inl, inr, ⊎_elim, arith, get_or, take, ◌-◌, cond}
use Rattle.std.specs.Prelude.{slice_set, not, ◌&&◌, ◌||◌, ◌↔◌, nat_eq}
use Rattle.std.proofs.lemmas.List.{get_or_append_left, get_or_past, set-get_or}
use Rattle.std.proofs.Math.Seq.{get_or-append_seam}
use Rattle.std.proofs.lemmas.List.Folds.{list_any-append}
use Rattle.liveness.specs.Paths.{is_among}
use Rattle.liveness.specs.Rising.{IsAtMost, AreAtMost, with_number, has, with_mark, lacks}
use Rattle.liveness.specs.declared.flood.Stop.{Stop}
use Rattle.liveness.specs.declared.flood.Stop.TheVariants.{Before, Behind, Nowhere}
use Rattle.liveness.specs.Flood.{Comes, at_first, onward, onto}
use Rattle.liveness.proofs.RisingLemmas.{lt_tells, eq_tells, eq_same, size_more}

-- ---- one number more

append_among : (xs ys : List ℕ) (m : ℕ) → is_among (xs ++ ys) m ≡ (is_among xs m || is_among ys m)
append_among xs ys m = list_any-append (λ s. nat_eq s m) xs ys

or_true : (a b : Bool) → (a || b) ≡ true → (a ≡ true) ⊎ (b ≡ true)
or_true true b e = inl refl
or_true false b e = inr e

or_left : (a b : Bool) → a ≡ true → (a || b) ≡ true
or_left true b e = refl
or_left false b e = cc

or_right : (a b : Bool) → b ≡ true → (a || b) ≡ true
or_right true b e = refl
or_right false b e = e

pub among_front : (xs ys : List ℕ) (m : ℕ) → is_among xs m ≡ true → is_among (xs ++ ys) m ≡ true
among_front xs ys m e = append_among xs ys m ∙ or_left (is_among xs m) (is_among ys m) e

pub among_back : (xs ys : List ℕ) (m : ℕ) → is_among ys m ≡ true → is_among (xs ++ ys) m ≡ true
among_back xs ys m e = append_among xs ys m ∙ or_right (is_among xs m) (is_among ys m) e

pub among_parts : (xs ys : List ℕ) (m : ℕ) → is_among (xs ++ ys) m ≡ true → (is_among xs m ≡ true) ⊎ (is_among ys m ≡ true)
among_parts xs ys m e = or_true (is_among xs m) (is_among ys m) (sym (append_among xs ys m) ∙ e)

pub among_one : (n m : ℕ) → is_among (n ∷ []) m ≡ true → n ≡ m
among_one n m e =
    ⊎_elim
    (λ a. a.1)
    (λ a. let f : false ≡ true = sym (ap (λ z. z || false) a.0) ∙ e in absurd (cc))
    (eq_tells n m)

pub one_among : (n : ℕ) → is_among (n ∷ []) n ≡ true
one_among n = ap (λ z. z || false) (eq_same n)

with_has : (xs : List ℕ) (n : ℕ) → is_among (with_number xs n) n ≡ true
with_has xs n = by_case (is_among xs n) refl
  where
    by_case : (b : Bool) → is_among xs n ≡ b → is_among (cond b xs (xs ++ n ∷ [])) n ≡ true
    by_case true e = e
    by_case false e = among_back xs (n ∷ []) n (one_among n)

with_other : (xs : List ℕ) (n m : ℕ) → (m ≡ n → ⊥) → is_among (with_number xs n) m ≡ is_among xs m
with_other xs n m other = by_case (is_among xs n)
  where
    none : (b : Bool) → (b || is_among (n ∷ []) m) ≡ b
    none true = refl
    none false =
        ⊎_elim (λ a. absurd (other (sym a.1))) (λ a. ap (λ z. z || false) a.0) (eq_tells n m)

    by_case : (b : Bool) → is_among (cond b xs (xs ++ n ∷ [])) m ≡ is_among xs m
    by_case true = refl
    by_case false = append_among xs (n ∷ []) m ∙ none (is_among xs m)

with_most : (xs : List ℕ) (n : ℕ) → IsAtMost n xs → IsAtMost n (with_number xs n)
with_most xs n most = by_case (is_among xs n)
  where
    more : IsAtMost n (xs ++ n ∷ [])
    more i lt =
        ⊎_elim
        (λ a. let h = most i a.1 in let g = get_or_append_left xs (n ∷ []) 0 i a.1 in omega (arith, h, g))
        (λ a.
        let same : i ≡ length xs = omega (arith, a.1, lt, size_more xs n) in
        let last : get_or (xs ++ n ∷ []) i 0 ≡ n =
        ap (λ z. get_or (xs ++ n ∷ []) z 0) same ∙ get_or-append_seam xs n [] 0 in
        omega (arith, last))
        (lt_tells i (length xs))

    by_case : (b : Bool) → IsAtMost n (cond b xs (xs ++ n ∷ []))
    by_case true = most
    by_case false = more

-- ---- one mark more

get_set : (rows : List (List ℕ)) (t c : ℕ) (row : List ℕ) → (get_or (slice_set rows t row) c [] ≡ get_or rows c []) ⊎ ((c ≡ t) × (get_or (slice_set rows t row) c [] ≡ row))
get_set [] t c row = inl refl
get_set (x ∷ rows) zero zero row = inr (refl, refl)
get_set (x ∷ rows) zero (suc c) row = inl refl
get_set (x ∷ rows) (suc t) zero row = inl refl
get_set (x ∷ rows) (suc t) (suc c) row =
    ⊎_elim (λ a. inl a) (λ a. inr (ap suc a.0, a.1)) (get_set rows t c row)

get_set_same : (rows : List (List ℕ)) (t : ℕ) (row : List ℕ) → t < length rows → get_or (slice_set rows t row) t [] ≡ row
get_set_same [] t row lt = absurd (omega (arith, lt))
get_set_same (x ∷ rows) zero row lt = refl
get_set_same (x ∷ rows) (suc t) row lt = get_set_same rows t row (omega (arith, lt))

pub size_set : (rows : List (List ℕ)) (t : ℕ) (row : List ℕ) → length (slice_set rows t row) ≡ length rows
size_set [] t row = refl
size_set (x ∷ rows) zero row = refl
size_set (x ∷ rows) (suc t) row = ap suc (size_set rows t row)

module _ (rows : List (List ℕ)) (n t : ℕ) where
  pub mark_has : t < length rows → has (with_mark rows n t) n t ≡ true
  mark_has lt =
      ap (λ z. is_among z n) (get_set_same rows t (with_number (get_or rows t []) n) lt) ∙ with_has (get_or rows t []) n

  pub mark_keeps : (c : ℕ) → has rows n c ≡ true → has (with_mark rows n t) n c ≡ true
  mark_keeps c e =
      ⊎_elim
      (λ a. ap (λ z. is_among z n) a ∙ e)
      (λ a. ap (λ z. is_among z n) a.1 ∙ with_has (get_or rows t []) n)
      (get_set rows t c (with_number (get_or rows t []) n))

  pub mark_from : (c : ℕ) → has (with_mark rows n t) n c ≡ true → (c ≡ t) ⊎ (has rows n c ≡ true)
  mark_from c e =
      ⊎_elim
      (λ a. inr (ap (λ z. is_among z n) (sym a) ∙ e))
      (λ a. inl a.0)
      (get_set rows t c (with_number (get_or rows t []) n))

  pub mark_other : (m c : ℕ) → (m ≡ n → ⊥) → has (with_mark rows n t) m c ≡ has rows m c
  mark_other m c other =
      ⊎_elim
      (λ a. ap (λ z. is_among z m) a)
      (λ a. ap (λ z. is_among z m) a.1 ∙ with_other (get_or rows t []) n m other ∙ ap (λ z. has rows m z) (sym a.0))
      (get_set rows t c (with_number (get_or rows t []) n))

  pub mark_most : AreAtMost n rows → AreAtMost n (with_mark rows n t)
  mark_most most c =
      ⊎_elim
      (λ a. subst (IsAtMost n) (sym a) (most c))
      (λ a. subst (IsAtMost n) (sym a.1) (with_most (get_or rows t []) n (most t)))
      (get_set rows t c (with_number (get_or rows t []) n))

-- ---- how much is left

abbrev pub weight : ℕ → List (List ℕ) → List (List ℕ) → ℕ
weight key [] edges = 0
weight key (row ∷ rows) [] = 0
weight key (row ∷ rows) (e ∷ edges) = cond (is_among row key) 0 (1 + length e) + weight key rows edges

pub weight_mark : (key : ℕ) (rows edges : List (List ℕ)) (t : ℕ) → t < length rows → length edges ≡ length rows → has rows key t ≡ false → weight key (with_mark rows key t) edges + (1 + length (get_or edges t [])) ≡ weight key rows edges
weight_mark key [] edges t lt fits none = absurd (omega (arith, lt))
weight_mark key (row ∷ rows) [] t lt fits none = absurd (omega (arith, fits))
weight_mark key (row ∷ rows) (e ∷ edges) zero lt fits none =
    let now = ap (λ z. cond z 0 (1 + length e)) (with_has row key) in
    let was = ap (λ z. cond z 0 (1 + length e)) none in
    omega (arith, now, was)
weight_mark key (row ∷ rows) (e ∷ edges) (suc t) lt fits none =
    let h = weight_mark key rows edges t (omega (arith, lt)) (omega (arith, fits)) none in
    omega (arith, h)

-- ---- the walk

pub record Flooding (onto : ℕ → List ℕ) (enters : ℕ → Bool) (old : List (List ℕ)) (tried : List ℕ) (key : ℕ) (rows : List (List ℕ)) (work : List ℕ) : Type 0 where
  pub size : length rows ≡ length old
  pub most : AreAtMost key rows
  pub others : (n t : ℕ) → (n ≡ key → ⊥) → has rows n t ≡ has old n t
  pub keeps : (t : ℕ) → has old key t ≡ true → has rows key t ≡ true
  pub sound : (t : ℕ) → has rows key t ≡ true → (has old key t ≡ true) ⊎ Comes onto enters tried t
  pub waits : (t : ℕ) → is_among work t ≡ true → enters t ≡ true → Comes onto enters tried t
  pub tries : (t : ℕ) → is_among tried t ≡ true → enters t ≡ true → t < length old → (has rows key t ≡ true) ⊎ (is_among work t ≡ true)
  pub closed : (b t : ℕ) → has rows key b ≡ true → is_among (onto b) t ≡ true → enters t ≡ true → t < length old → (has rows key t ≡ true) ⊎ (is_among work t ≡ true)

module _ (onto : ℕ → List ℕ) (enters : ℕ → Bool) (old : List (List ℕ)) (tried : List ℕ) (key : ℕ) where
  pub flood_start : AreAtMost key old → ((b t : ℕ) → has old key b ≡ true → is_among (onto b) t ≡ true → is_among tried t ≡ true) → Flooding onto enters old tried key old tried
  flood_start most waits = record {
    size = refl;
    most = most;
    others = λ n t other. refl;
    keeps = λ t e. e;
    sound = λ t e. inl e;
    waits = λ t e through. at_first t e through;
    tries = λ t e through lt. inr e;
    closed = λ b t e to through lt. inr (waits b t e to);
  }

  module _ (rows : List (List ℕ)) (work : List ℕ) (t : ℕ) where
    -- a block that is passed over: it is not to be entered, it is marked, or it is not there
    pub flood_past : Flooding onto enters old tried key rows (work ++ t ∷ []) → (enters t ≡ true → t < length rows → has rows key t ≡ true) → Flooding onto enters old tried key rows work
    flood_past f none = record {
      size = f.size;
      most = f.most;
      others = f.others;
      keeps = f.keeps;
      sound = f.sound;
      waits = λ x e through. f.waits x (among_front work (t ∷ []) x e) through;
      tries = λ x e through lt. still x through lt (f.tries x e through lt);
      closed = λ b x e to through lt. still x through lt (f.closed b x e to through lt);
    }
      where
        still : (x : ℕ) → enters x ≡ true → x < length old → (has rows key x ≡ true) ⊎ (is_among (work ++ t ∷ []) x ≡ true) → (has rows key x ≡ true) ⊎ (is_among work x ≡ true)
        still x through lt which =
            ⊎_elim
            (λ a. inl a)
            (λ a.
            ⊎_elim
            (λ b. inr b)
            (λ b.
            let same : t ≡ x = among_one t x b in
            let within : t < length rows = omega (arith, same, lt, f.size) in
            inl (subst (λ z. has rows key z ≡ true) same (none (ap enters same ∙ through) within)))
            (among_parts work (t ∷ []) x a))
            which

    -- one that is marked
    pub flood_marks : Flooding onto enters old tried key rows (work ++ t ∷ []) → enters t ≡ true → t < length rows → Flooding onto enters old tried key (with_mark rows key t) (work ++ onto t)
    flood_marks f through within = record {
      size = size_set rows t (with_number (get_or rows t []) key) ∙ f.size;
      most = mark_most rows key t f.most;
      others = λ n c other. mark_other rows key t n c other ∙ f.others n c other;
      keeps = λ c e. mark_keeps rows key t c (f.keeps c e);
      sound = λ c e.
          ⊎_elim
          (λ a. inr (subst (Comes onto enters tried) (sym a) here))
          (λ a. f.sound c a)
          (mark_from rows key t c e);
      waits = λ c e through.
          ⊎_elim
          (λ a. f.waits c (among_front work (t ∷ []) c a) through)
          (λ a. onward t c here a through)
          (among_parts work (onto t) c e);
      tries = λ c e through lt. still c (f.tries c e through lt);
      closed = λ b c e to through lt.
          ⊎_elim
          (λ a. inr (among_back work (onto t) c (subst (λ z. is_among (onto z) c ≡ true) a to)))
          (λ a. still c (f.closed b c a to through lt))
          (mark_from rows key t b e);
    }
      where
        here : Comes onto enters tried t
        here = f.waits t (among_back work (t ∷ []) t (one_among t)) through

        still : (c : ℕ) → (has rows key c ≡ true) ⊎ (is_among (work ++ t ∷ []) c ≡ true) → (has (with_mark rows key t) key c ≡ true) ⊎ (is_among (work ++ onto t) c ≡ true)
        still c which =
            ⊎_elim
            (λ a. inl (mark_keeps rows key t c a))
            (λ a.
            ⊎_elim
            (λ b. inr (among_front work (onto t) c b))
            (λ b. inl (subst (λ z. has (with_mark rows key t) key z ≡ true) (among_one t c b) (mark_has rows key t within)))
            (among_parts work (t ∷ []) c a))
            which

  -- nothing is onward from a block that is not there
  module _ (rows : List (List ℕ)) (f : Flooding onto enters old tried key rows []) (inside : (b t : ℕ) → is_among (onto b) t ≡ true → b < length old) where
    no_work : {P : Type 0} (x : ℕ) → P ⊎ (is_among [] x ≡ true) → P
    no_work x which = ⊎_elim (λ a. a) (λ a. let z : false ≡ true = a in absurd (cc)) which

    come_marked : (t : ℕ) → Comes onto enters tried t → t < length old → has rows key t ≡ true
    come_marked t (at_first s e through) lt = no_work t (f.tries t e through lt)
    come_marked t (onward b s come e through) lt =
        no_work t (f.closed b t (come_marked b come (inside b t e)) e through lt)

    pub flood_done : (t : ℕ) → t < length old → (has rows key t ≡ true) ↔ ((has old key t ≡ true) ⊎ Comes onto enters tried t)
    flood_done t lt =
        (λ e. f.sound t e, λ which. ⊎_elim (λ a. f.keeps t a) (λ a. come_marked t a lt) which)

-- ---- what is onward, by where a walk stops

pub edge_within : (edges : List (List ℕ)) (b t : ℕ) → is_among (get_or edges b []) t ≡ true → b < length edges
edge_within edges b t e =
    ⊎_elim
    (λ a. a.1)
    (λ a.
    let none : false ≡ true = ap (λ z. is_among z t) (sym (get_or_past edges b [] a.1)) ∙ e in
    absurd (cc))
    (lt_tells b (length edges))

-- it is an edge
pub onto_edge : (stop : Stop) (lets : ℕ → Bool) (edges : List (List ℕ)) (b t : ℕ) → is_among (onto stop lets edges b) t ≡ true → is_among (get_or edges b []) t ≡ true
onto_edge Before lets edges b t e = e
onto_edge Nowhere lets edges b t e = e
onto_edge Behind lets edges b t e = by_case (lets b) e
  where
    by_case : (c : Bool) → is_among (cond c (get_or edges b []) []) t ≡ true → is_among (get_or edges b []) t ≡ true
    by_case true h = h
    by_case false h = let f : false ≡ true = h in absurd (cc)

pub onto_size : (stop : Stop) (lets : ℕ → Bool) (edges : List (List ℕ)) (b : ℕ) → length (onto stop lets edges b) ≤ length (get_or edges b [])
onto_size Before lets edges b = omega arith
onto_size Nowhere lets edges b = omega arith
onto_size Behind lets edges b = by_case (lets b)
  where
    by_case : (c : Bool) → length (cond c (get_or edges b []) []) ≤ length (get_or edges b [])
    by_case true = omega arith
    by_case false = omega arith

-- ---- what a mark tells

pub is_lacking : (rows : List (List ℕ)) (n t : ℕ) → lacks rows n t ≡ true → (t < length rows) × (has rows n t ≡ false)
is_lacking rows n t e =
    ⊎_elim
    (λ a. (a.1, lacks_it (has rows n t) (sym (ap (λ z. z && not (has rows n t)) a.0) ∙ e)))
    (λ a.
    let f : false ≡ true = sym (ap (λ z. z && not (has rows n t)) a.0) ∙ e in
    absurd (cc))
    (lt_tells t (length rows))
  where
    lacks_it : (b : Bool) → not b ≡ true → b ≡ false
    lacks_it true e = cc
    lacks_it false e = refl

pub not_lacking : (rows : List (List ℕ)) (n t : ℕ) → lacks rows n t ≡ false → t < length rows → has rows n t ≡ true
not_lacking rows n t e lt =
    ⊎_elim
    (λ a. has_it (has rows n t) (sym (ap (λ z. z && not (has rows n t)) a.0) ∙ e))
    (λ a. absurd (omega (arith, a.1, lt)))
    (lt_tells t (length rows))
  where
    has_it : (b : Bool) → not b ≡ false → b ≡ true
    has_it true e = refl
    has_it false e = cc

set_past : (rows : List (List ℕ)) (t : ℕ) (row : List ℕ) → length rows ≤ t → slice_set rows t row ≡ rows
set_past [] t row le = refl
set_past (x ∷ rows) zero row le = absurd (omega (arith, le))
set_past (x ∷ rows) (suc t) row le = ap (λ z. x ∷ z) (set_past rows t row (omega (arith, le)))

pub mark_same : (rows : List (List ℕ)) (n t : ℕ) → lacks rows n t ≡ false → with_mark rows n t ≡ rows
mark_same rows n t e =
    ⊎_elim
    (λ a.
    ap (λ z. slice_set rows t (cond z (get_or rows t []) (get_or rows t [] ++ n ∷ []))) (not_lacking rows n t e a.1) ∙ set-get_or rows t [])
    (λ a. set_past rows t (with_number (get_or rows t []) n) a.1)
    (lt_tells t (length rows))

pub empty_work : (xs rest : List ℕ) (n : ℕ) → xs ≡ rest ++ [] → rest ≡ take (n - 1) xs → n ≡ 0 → xs ≡ []
empty_work xs rest n e f z =
    let none : rest ≡ [] = f ∙ ap (λ k. take (k - 1) xs) z in
    e ∙ ap (λ r. r ++ []) none
