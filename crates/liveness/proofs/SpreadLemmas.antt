-- Blocks that paths come to, and those at whose start a register is owned.
use Rattle.std.proofs.Common.{◌≡◌, ℕ, ◌<◌, ◌⊎◌, Bool, true, false, List, [], ◌∷◌, ◌++◌, length, map, Some, refl, sym, ap, ◌∙◌, subst, inl, inr, ⊎_elim, arith, get_or, cond}
use Rattle.std.specs.Prelude.{slice_get, not, ◌&&◌, ◌||◌, ◌↔◌, nat_lt, nat_eq}
use Rattle.std.specs.List.{flat_map}
use Rattle.std.proofs.lemmas.List.{length-map}
use Rattle.std.proofs.lemmas.List.Folds.{list_any-append}
use Rattle.std.proofs.lemmas.Option.{slice_get_within}
use Rattle.liveness.specs.declared.step.Step.{Step}
use Rattle.liveness.specs.declared.step.Steps.{Steps}
use Rattle.liveness.specs.declared.borrow_table.Known.{Known}
use Rattle.liveness.specs.declared.flood.Stop.TheVariants.{Behind, Nowhere}
use Rattle.liveness.specs.Paths.{is_among, is_target, targets}
use Rattle.liveness.specs.Rising.{has, rows_with}
use Rattle.liveness.specs.Places.{writes_in, writes_of_block, targets_of, lets_by}
use Rattle.liveness.specs.Flood.{Comes, at_first, onward, entered, onto}
use Rattle.liveness.specs.Rows.{Met, first, jumped, IsMetRow, is_written, owned_after, Owned, from_entry, given, passes_on, IsOwnedRow}
use Rattle.liveness.specs.Spread.{gives, AreTried, Spread, enters, starts, goes_further, IsKnown}
use Rattle.liveness.proofs.RisingLemmas.{lt_tells}
use Rattle.liveness.proofs.PlaceLemmas.{written_is, row_has}
use Rattle.liveness.proofs.FloodLemmas.{among_front, among_back, among_parts, among_one, one_among}
use Rattle.liveness.proofs.FoundLemmas.{get_map_or, map_get_or, target_among, among_target, lets_is}
use Rattle.liveness.proofs.LastLemmas.{after_written, gives_there}

-- ---- edges are the ends of blocks

pub edge_block : (blocks : List Steps) (b t : ℕ) → is_among (get_or (map targets_of blocks) b []) t ≡ true → (k : Steps) × (slice_get blocks b ≡ Some k) × (i : ℕ) × (slice_get (targets k.last) i ≡ Some t)
edge_block blocks b t e =
    let there = map_get_or targets_of blocks b t e in
    let to = among_target (targets there.0.last) t there.2 in
    (there.0, there.1, to.0, to.1)

pub block_edge : (blocks : List Steps) (b i t : ℕ) (k : Steps) → slice_get blocks b ≡ Some k → slice_get (targets k.last) i ≡ Some t → is_among (get_or (map targets_of blocks) b []) t ≡ true
block_edge blocks b i t k is at =
    ap (λ z. is_among z t) (get_map_or targets_of blocks b k is) ∙ target_among (targets k.last) i t at

module _ (blocks : List Steps) (lets : ℕ → Bool) where
  abbrev Coming : ℕ → Type 0
  Coming = Comes (onto Nowhere lets (map targets_of blocks)) (entered Nowhere lets) (0 ∷ [])

  come_met : (t : ℕ) → Coming t → Met blocks t
  come_met t (at_first s e enters_it) = subst (Met blocks) (among_one 0 t e) first
  come_met t (onward b s come e enters_it) =
      let there = edge_block blocks b t e in
      jumped b there.2 t there.0 (come_met b come) there.1 there.3

  met_come : (t : ℕ) → Met blocks t → Coming t
  met_come t first = at_first 0 (one_among 0) refl
  met_come t (jumped b i s k m is at) = onward b t (met_come b m) (block_edge blocks b i t k is at) refl

  pub met_exact : (met : List Bool) (edges : List (List ℕ)) → edges ≡ map targets_of blocks → ((t : ℕ) → t < length edges → (get_or met t false ≡ true) ↔ Comes (onto Nowhere lets edges) (entered Nowhere lets) (0 ∷ []) t) → IsMetRow blocks met
  met_exact met edges are comes t lt =
      let all : (t : ℕ) → t < length (map targets_of blocks) → (get_or met t false ≡ true) ↔ Coming t =
      subst (λ z. (t : ℕ) → t < length z → (get_or met t false ≡ true) ↔ Comes (onto Nowhere lets z) (entered Nowhere lets) (0 ∷ []) t) are comes in
      let h = all t (omega (arith, lt, length-map blocks targets_of)) in
      (λ e. come_met t (h.0 e), λ m. h.1 (met_come t m))

-- ---- the blocks to begin with

and_true : (a b : Bool) → (a && b) ≡ true → (a ≡ true) × (b ≡ true)
and_true true b e = (refl, e)
and_true false b e = cc

both_true : (a b : Bool) → a ≡ true → b ≡ true → (a && b) ≡ true
both_true true b e h = h
both_true false b e h = cc

module _ (known : Known) (edges : List (List ℕ)) (r : ℕ) where
  module _ (seen : List ℕ) (n : ℕ) (work : List ℕ) (f : AreTried known edges r seen work) where
    pub tried_more : gives known r n ≡ true → AreTried known edges r (seen ++ n ∷ []) (work ++ get_or edges n [])
    tried_more on_n = record {
      entry = λ e. among_front work (get_or edges n []) 0 (f.entry e);
      has_all = λ b t e on to.
          ⊎_elim
          (λ a. among_front work (get_or edges n []) t (f.has_all b t a on to))
          (λ a. among_back work (get_or edges n []) t (subst (λ z. is_among (get_or edges z []) t ≡ true) (sym (among_one n b a)) to))
          (among_parts seen (n ∷ []) b e);
      no_other = λ t e.
          ⊎_elim
          (λ a. before t (f.no_other t a))
          (λ a. inr (n, among_back seen (n ∷ []) n (one_among n), on_n, a))
          (among_parts work (get_or edges n []) t e);
    }
      where
        before : (t : ℕ) → ((nat_lt r known.params ≡ false) × (t ≡ 0)) ⊎ ((b : ℕ) × (is_among seen b ≡ true) × (gives known r b ≡ true) × (is_among (get_or edges b []) t ≡ true)) → ((nat_lt r known.params ≡ false) × (t ≡ 0)) ⊎ ((b : ℕ) × (is_among (seen ++ n ∷ []) b ≡ true) × (gives known r b ≡ true) × (is_among (get_or edges b []) t ≡ true))
        before t (inl a) = inl a
        before t (inr a) = inr (a.0, among_front seen (n ∷ []) a.0 a.1, a.2, a.3)

    pub tried_past : gives known r n ≡ false → AreTried known edges r (seen ++ n ∷ []) work
    tried_past off = record {
      entry = f.entry;
      has_all = λ b t e on to.
          ⊎_elim
          (λ a. f.has_all b t a on to)
          (λ a. let clash : true ≡ false = sym on ∙ ap (gives known r) (sym (among_one n b a)) ∙ off in absurd (cc))
          (among_parts seen (n ∷ []) b e);
      no_other = λ t e. before t (f.no_other t e);
    }
      where
        before : (t : ℕ) → ((nat_lt r known.params ≡ false) × (t ≡ 0)) ⊎ ((b : ℕ) × (is_among seen b ≡ true) × (gives known r b ≡ true) × (is_among (get_or edges b []) t ≡ true)) → ((nat_lt r known.params ≡ false) × (t ≡ 0)) ⊎ ((b : ℕ) × (is_among (seen ++ n ∷ []) b ≡ true) × (gives known r b ≡ true) × (is_among (get_or edges b []) t ≡ true))
        before t (inl a) = inl a
        before t (inr a) = inr (a.0, among_front seen (n ∷ []) a.0 a.1, a.2, a.3)

  -- ---- what the walk from there marks

  module _ (writers work : List ℕ) (f : AreTried known edges r writers work) where
    abbrev lets : ℕ → Bool
    lets = lets_by known.touches r

    abbrev Spreading : ℕ → Type 0
    Spreading = Comes (onto Behind lets edges) (entered Behind lets) work

    first_spread : (t : ℕ) → ((nat_lt r known.params ≡ false) × (t ≡ 0)) ⊎ ((b : ℕ) × (is_among writers b ≡ true) × (gives known r b ≡ true) × (is_among (get_or edges b []) t ≡ true)) → Spread known writers edges r t
    first_spread t (inl a) = subst (Spread known writers edges r) (sym a.1) (enters a.0)
    first_spread t (inr a) = starts a.0 t a.1 a.2 a.3

    next_spread : (b t : ℕ) (c : Bool) → lets b ≡ c → is_among (cond c (get_or edges b []) []) t ≡ true → Spread known writers edges r b → Spread known writers edges r t
    next_spread b t true through e on = goes_further b t on through e
    next_spread b t false through e on = let none : false ≡ true = e in absurd (cc)

    come_spread : (t : ℕ) → Spreading t → Spread known writers edges r t
    come_spread t (at_first s e enters_it) = first_spread t (f.no_other t e)
    come_spread t (onward b s come e enters_it) = next_spread b t (lets b) refl e (come_spread b come)

    spread_come : (t : ℕ) → Spread known writers edges r t → Spreading t
    spread_come t (enters none) = at_first 0 (f.entry none) refl
    spread_come t (starts b s among on to) = at_first t (f.has_all b t among on to) refl
    spread_come t (goes_further b s come through to) =
        onward b t (spread_come b come) (ap (λ z. is_among (cond z (get_or edges b []) []) t) through ∙ to) refl

    pub spread_exact : (old rows : List (List ℕ)) → ((t : ℕ) → has old r t ≡ false) → ((t : ℕ) → t < length old → (has rows r t ≡ true) ↔ ((has old r t ≡ true) ⊎ Spreading t)) → (t : ℕ) → t < length old → (has rows r t ≡ true) ↔ Spread known writers edges r t
    spread_exact old rows fresh comes t lt = (
      λ e.
          ⊎_elim
          (λ a. let clash : false ≡ true = sym (fresh t) ∙ a in absurd (cc))
          (λ a. come_spread t a)
          ((comes t lt).0 e),
      λ spread. (comes t lt).1 (inr (spread_come t spread)),
    )

-- ---- and it is so by the steps of blocks

writes_among : (ss : List Step) (r : ℕ) → is_among (flat_map writes_in ss) r ≡ is_written ss r
writes_among [] r = refl
writes_among (s ∷ ss) r =
    list_any-append (λ z. nat_eq z r) (writes_in s) (flat_map writes_in ss) ∙ ap (λ z. z || is_among (flat_map writes_in ss) r) (written_is s.write r) ∙ ap (λ z. is_target s.write r || z) (writes_among ss r)

not_true : (b : Bool) → not b ≡ true → b ≡ false
not_true true e = cc
not_true false e = refl

module _ (blocks : List Steps) (count r : ℕ) (below : r < count) (known : Known) (is_known : IsKnown blocks known.params count known) (writers : List ℕ) (are : writers ≡ rows_with 0 (map writes_of_block blocks) r) where
  gives_is : (b : ℕ) (k : Steps) → slice_get blocks b ≡ Some k → gives known r b ≡ (get_or known.met b false && owned_after k.steps r false)
  gives_is b k is =
      ap (λ z. get_or known.met b false && z) (gives_there blocks r count below known.touches known.lends is_known.touches is_known.lends_size is_known.lends b k is)

  passes_is : (b : ℕ) (k : Steps) → slice_get blocks b ≡ Some k → lets_by known.touches r b ≡ not (is_written k.steps r)
  passes_is b k is = lets_is blocks r count known.touches is_known.touches below b k is

  writer_is : (b : ℕ) (k : Steps) → slice_get blocks b ≡ Some k → is_among writers b ≡ is_written k.steps r
  writer_is b k is =
      ap (λ z. is_among z b) are ∙ row_has (map writes_of_block blocks) 0 r b b (omega arith) ∙ ap (λ z. is_among z r) (get_map_or writes_of_block blocks b k is) ∙ writes_among k.steps r

  spread_owned : (t : ℕ) → Spread known writers (map targets_of blocks) r t → Owned blocks known.params r t
  spread_owned t (enters none) =
      ⊎_elim
      (λ a. let clash : true ≡ false = sym a.0 ∙ none in absurd (cc))
      (λ a. from_entry a.1)
      (lt_tells r known.params)
  spread_owned t (starts b s among on to) =
      let edge = edge_block blocks b t to in
      let both = and_true (get_or known.met b false) (owned_after edge.0.steps r false) (sym (gives_is b edge.0 edge.1) ∙ on) in
      given b edge.2 t edge.0 ((is_known.met b (slice_get_within blocks b edge.0 edge.1)).0 both.0) edge.1 both.1 edge.3
  spread_owned t (goes_further b s come through to) =
      let edge = edge_block blocks b t to in
      passes_on b edge.2 t edge.0 (spread_owned b come) edge.1 (not_true (is_written edge.0.steps r) (sym (passes_is b edge.0 edge.1) ∙ through)) edge.3

  owned_spread : (t : ℕ) → Owned blocks known.params r t → Spread known writers (map targets_of blocks) r t
  owned_spread t (from_entry le) =
      enters (⊎_elim (λ a. absurd (omega (arith, a.1, le))) (λ a. a.0) (lt_tells r known.params))
  owned_spread t (given b i s k m is on at) =
      starts b t (writer_is b k is ∙ after_written k.steps r on) (gives_is b k is ∙ both_true (get_or known.met b false) _ ((is_known.met b (slice_get_within blocks b k is)).1 m) on) (block_edge blocks b i t k is at)
  owned_spread t (passes_on b i s k come is none at) =
      goes_further b t (owned_spread b come) (passes_is b k is ∙ ap not none) (block_edge blocks b i t k is at)

  pub owned_exact : (marked : ℕ → Bool) → ((t : ℕ) → t < length blocks → (marked t ≡ true) ↔ Spread known writers (map targets_of blocks) r t) → IsOwnedRow blocks known.params r marked
  owned_exact marked spreads t lt =
      let h = spreads t lt in
      (λ e. spread_owned t (h.0 e), λ o. h.1 (owned_spread t o))
