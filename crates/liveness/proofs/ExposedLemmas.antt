-- Marks of the blocks that read a register before they write it.
use Rattle.std.proofs.Common.{◌≡◌, ℕ, ◌<◌, ◌⊎◌, Bool, true, false, List, [], ◌∷◌, ◌++◌, length, sym, ap, ◌∙◌, subst, inl, inr, ⊎_elim, arith, get_or}
use Rattle.std.specs.Prelude.{◌↔◌}
use Rattle.liveness.specs.declared.places.Touches.{Touches}
use Rattle.liveness.specs.Paths.{is_among}
use Rattle.liveness.specs.Rising.{AreAtMost, with_number, has, with_mark}
use Rattle.liveness.specs.Places.{lets_by, reads_first}
use Rattle.liveness.specs.declared.flood.Stop.TheVariants.{Before}
use Rattle.liveness.specs.Flood.{Comes, at_first, onward, entered, onto}
use Rattle.liveness.specs.Rows.{Found, reads_it, leads_on, AreBelow}
use Rattle.liveness.proofs.RisingLemmas.{none_among}
use Rattle.liveness.proofs.FloodLemmas.{among_front, among_back, among_parts, among_one, size_set, mark_has, mark_keeps, mark_from, mark_other, mark_most, one_among, edge_within}

pub record Exposing (reads : ℕ → Bool) (edges old : List (List ℕ)) (r : ℕ) (seen : List ℕ) (rows : List (List ℕ)) (work : List ℕ) : Type 0 where
  pub size : length rows ≡ length old
  pub most : AreAtMost r rows
  pub others : (n t : ℕ) → (n ≡ r → ⊥) → has rows n t ≡ has old n t
  pub sound : (t : ℕ) → has rows r t ≡ true → (is_among seen t ≡ true) × (reads t ≡ true)
  pub marks : (t : ℕ) → is_among seen t ≡ true → reads t ≡ true → t < length old → has rows r t ≡ true
  pub waits : (b t : ℕ) → has rows r b ≡ true → is_among (get_or edges b []) t ≡ true → is_among work t ≡ true
  pub comes : (t : ℕ) → is_among work t ≡ true → (b : ℕ) × (has rows r b ≡ true) × (is_among (get_or edges b []) t ≡ true)

module _ (reads : ℕ → Bool) (edges old : List (List ℕ)) (r : ℕ) where
  module _ (seen work : List ℕ) (rows : List (List ℕ)) (b : ℕ) (f : Exposing reads edges old r seen rows work) where
    pub exposed_past : (reads b ≡ true → b < length rows → has rows r b ≡ true) → Exposing reads edges old r (seen ++ b ∷ []) rows work
    exposed_past none = record {
      size = f.size;
      most = f.most;
      others = f.others;
      sound = λ t e. let h = f.sound t e in (among_front seen (b ∷ []) t h.0, h.1);
      marks = λ t e reads_t lt.
          ⊎_elim
          (λ a. f.marks t a reads_t lt)
          (λ a.
          let same : b ≡ t = among_one b t a in
          let size = f.size in
          let within : b < length rows = omega (arith, same, lt, size) in
          subst (λ z. has rows r z ≡ true) same (none (ap reads same ∙ reads_t) within))
          (among_parts seen (b ∷ []) t e);
      waits = f.waits;
      comes = f.comes;
    }

    pub exposed_marks : reads b ≡ true → b < length rows → Exposing reads edges old r (seen ++ b ∷ []) (with_mark rows r b) (work ++ get_or edges b [])
    exposed_marks reads_b within = record {
      size = size_set rows b (with_number (get_or rows b []) r) ∙ f.size;
      most = mark_most rows r b f.most;
      others = λ n t other. mark_other rows r b n t other ∙ f.others n t other;
      sound = λ t e.
          ⊎_elim
          (λ a. (among_back seen (b ∷ []) t (subst (λ z. is_among (b ∷ []) z ≡ true) (sym a) (here b)), ap reads a ∙ reads_b))
          (λ a. let h = f.sound t a in (among_front seen (b ∷ []) t h.0, h.1))
          (mark_from rows r b t e);
      marks = λ t e reads_t lt.
          ⊎_elim
          (λ a. mark_keeps rows r b t (f.marks t a reads_t lt))
          (λ a. subst (λ z. has (with_mark rows r b) r z ≡ true) (among_one b t a) (mark_has rows r b within))
          (among_parts seen (b ∷ []) t e);
      waits = λ c t e to.
          ⊎_elim
          (λ a. among_back work (get_or edges b []) t (subst (λ z. is_among (get_or edges z []) t ≡ true) a to))
          (λ a. among_front work (get_or edges b []) t (f.waits c t a to))
          (mark_from rows r b c e);
      comes = λ t e.
          ⊎_elim
          (λ a. let h = f.comes t a in (h.0, mark_keeps rows r b h.0 h.1, h.2))
          (λ a. (b, mark_has rows r b within, a))
          (among_parts work (get_or edges b []) t e);
    }
      where
        here : (n : ℕ) → is_among (n ∷ []) n ≡ true
        here n = one_among n

-- what the walk from the exposed blocks marks is what is found
module _ (touches : Touches) (readers : List ℕ) (edges : List (List ℕ)) (r : ℕ) (marked rows : List (List ℕ)) (work : List ℕ) (sound : (t : ℕ) → has marked r t ≡ true → (is_among readers t ≡ true) × (reads_first touches r t ≡ true)) (marks : (t : ℕ) → is_among readers t ≡ true → reads_first touches r t ≡ true → t < length marked → has marked r t ≡ true) (waits : (b t : ℕ) → has marked r b ≡ true → is_among (get_or edges b []) t ≡ true → is_among work t ≡ true) (comes : (t : ℕ) → is_among work t ≡ true → (b : ℕ) × (has marked r b ≡ true) × (is_among (get_or edges b []) t ≡ true)) (size : length edges ≡ length marked) where
  abbrev through : ℕ → Bool
  through = lets_by touches r

  abbrev Coming : ℕ → Type 0
  Coming = Comes (onto Before through edges) (entered Before through) work

  come_found : (t : ℕ) → Coming t → Found touches readers edges r t
  come_found t (at_first s e lets_it) =
      let h = comes t e in
      let g = sound h.0 h.1 in
      leads_on h.0 t (reads_it h.0 g.0 g.1) h.2 lets_it
  come_found t (onward b s come e lets_it) = leads_on b t (come_found b come) e lets_it

  found_come : (t : ℕ) → Found touches readers edges r t → t < length marked → (has marked r t ≡ true) ⊎ Coming t
  found_come t (reads_it s e reads_t) lt = inl (marks t e reads_t lt)
  found_come t (leads_on b s found e lets_it) lt =
      let within = edge_within edges b t e in
      inr (⊎_elim (λ a. at_first t (waits b t a e) lets_it) (λ a. onward b t a e lets_it) (found_come b found (omega (arith, within, size))))

  pub found_exact : ((t : ℕ) → t < length marked → (has rows r t ≡ true) ↔ ((has marked r t ≡ true) ⊎ Coming t)) → (t : ℕ) → t < length marked → (has rows r t ≡ true) ↔ Found touches readers edges r t
  found_exact flooded t lt = (
    λ e.
        ⊎_elim
        (λ a. let h = sound t a in reads_it t h.0 h.1)
        (λ a. come_found t a)
        ((flooded t lt).0 e),
    λ found. (flooded t lt).1 (found_come t found lt),
  )

pub below_fresh : (r : ℕ) (rows : List (List ℕ)) → AreBelow r rows → (t : ℕ) → has rows r t ≡ false
below_fresh r rows below t =
    none_among (get_or rows t []) r (λ i lt same. let h = below t i lt in absurd (omega (arith, h, same)))
