-- Detours as they are laid out: what registers have where each of them begins, and that they are the detours of the rule.
use Rattle.std.proofs.Common.{◌≡◌, ◌≢◌, ℕ, zero, suc, ◌+◌, ◌-◌, ◌<◌, ◌≤◌, ◌⊎◌, Bool, true, false, List, [], ◌∷◌, ◌++◌, length, get_or, Some, None, refl, sym, ap, ◌∙◌, inl, inr, ⊎_elim, subst, arith}
use Rattle.std.specs.Prelude.{slice_get, cond, nat_eq}
use Rattle.c_core.specs.Cells.{times}
use Rattle.ir_core.specs.declared.code.Func.{Func}
use Rattle.liveness.proofs.OwnedLemmas.{below_or_not}
use Rattle.liveness.proofs.RisingLemmas.{eq_tells, eq_same}
use Rattle.refcount_insert_rule.specs.Rule.{ups, downs, given_up, AreUnsure}
use Rattle.refcount_insert_rule.specs.Counted.{counts_register, Tables, owned, IsDetour, AreDetours}
use Rattle.refcount_insert.specs.declared.sharing.EdgeCounts.{EdgeCounts}
use Rattle.refcount_insert.specs.declared.detours.Detour.{Detour}
use Rattle.refcount_insert.specs.declared.detours.Front.{Front}
use Rattle.refcount_insert.specs.Sharing.{are_none}
use Rattle.refcount_insert.specs.Detours.{total, taken, given, AreLinked, IsFrontOf, AreFronts}
use Rattle.refcount_insert.specs.Layout.{numbers_from, unsure, detour_to, detours_to}

-- ---- what is counted on a way

not_same : (n m : ℕ) → n < m → nat_eq n m ≡ false
not_same n m lt = ⊎_elim (λ e. absurd (omega (arith, e.1, lt))) (λ e. e.0) (eq_tells n m)

-- the newest detour changes no other way
pub total_older : (of : EdgeCounts → List ℕ) (d : Detour) (ds : List Detour) (n r : ℕ) → n ≤ length ds → total of (d ∷ ds) n r ≡ total of ds n r
total_older of d ds n r le =
    ap (λ b. cond b (times (of d.counts) r + total of ds d.next r) (total of ds n r)) (not_same n (suc (length ds)) (omega (arith, le)))

pub total_newest : (of : EdgeCounts → List ℕ) (d : Detour) (ds : List Detour) (r : ℕ) → total of (d ∷ ds) (suc (length ds)) r ≡ times (of d.counts) r + total of ds d.next r
total_newest of d ds r =
    ap (λ b. cond b (times (of d.counts) r + total of ds d.next r) (total of ds (suc (length ds)) r)) (eq_same (suc (length ds)))

-- on the way from the block itself nothing is
pub total_none : (of : EdgeCounts → List ℕ) (ds : List Detour) (r : ℕ) → total of ds 0 r ≡ 0
total_none of [] r = refl
total_none of (d ∷ ds) r = total_older of d ds 0 r (omega arith) ∙ total_none of ds r

-- what a register has on the way to a block where so much is wanted
abbrev pub has : (ℕ → ℕ) → List Detour → ℕ → ℕ → ℕ
has want ds n r = want r + given ds n r - taken ds n r

has_older : (want : ℕ → ℕ) (d : Detour) (ds : List Detour) (n r : ℕ) → n ≤ length ds → has want (d ∷ ds) n r ≡ has want ds n r
has_older want d ds n r le =
    ap (λ z. want r + z - taken (d ∷ ds) n r) (total_older (λ e. e.downs) d ds n r le) ∙ ap (λ z. want r + given ds n r - z) (total_older (λ e. e.ups) d ds n r le)

-- ---- one detour

given_unsure : (rs : List ℕ) (r : ℕ) → times (given_up (unsure rs)) r ≡ times rs r
given_unsure [] r = refl
given_unsure (x ∷ rs) r = omega (arith, given_unsure rs r)

all_unsure : (rs : List ℕ) → AreUnsure (unsure rs)
all_unsure [] = tt
all_unsure (x ∷ rs) = (refl, all_unsure rs)

some_ops : (us ds : List ℕ) → are_none us ds ≡ false → ups us 0 ++ downs (unsure ds) 0 ≢ []
some_ops [] [] e is = cc
some_ops [] (d ∷ ds) e is = cc
some_ops (u ∷ us) ds e is = cc

-- where a register is to have w and u and d are counted here, t and g on the rest of the way
record Counting (u d g w here next : ℕ) : Type 0 where
  up : u ≡ next - here
  down : d ≡ here - next
  each : (next ≡ here) ⊎ (next ≡ w)
  owns : 1 ≤ here → (1 ≤ w) ⊎ (1 ≤ d + g)

counting : (u t d g w here next : ℕ) → here ≡ w + (d + g) - (u + t) → next ≡ w + g - t → (u + t) + (d + g) ≤ 1 → u + t ≤ w → (1 ≤ d + g → w ≡ 0) → Counting u d g w here next
counting u t d g w here next eh en few le none = ⊎_elim without with (below_or_not (d + g) 1)
  where
    without : d + g < 1 → Counting u d g w here next
    without lt =
        record {
          up = omega (arith, eh, en, lt, le, few);
          down = omega (arith, eh, en, lt, le, few);
          each = ⊎_elim (λ no. inl (omega (arith, eh, en, lt, le, no))) (λ yes. inr (omega (arith, eh, en, lt, le, few, yes))) (below_or_not u 1);
          owns = λ some. inl (omega (arith, eh, lt, some));
        }

    with : 1 ≤ d + g → Counting u d g w here next
    with some =
        let zero_wanted : w ≡ 0 = none some in
        record {
          up = omega (arith, eh, en, some, few, zero_wanted);
          down = omega (arith, eh, en, some, few, zero_wanted);
          each = ⊎_elim (λ no. inl (omega (arith, eh, en, some, few, zero_wanted, no))) (λ yes. inr (omega (arith, eh, en, some, few, zero_wanted, yes))) (below_or_not d 1);
          owns = λ own. inr some;
        }

-- what is counted on a way can be counted
abbrev pub IsFine : (counted : ℕ → Bool) (want : ℕ → ℕ) → List Detour → ℕ → Type 0
IsFine counted want ds n =
    (r : ℕ) → (taken ds n r + given ds n r ≤ 1) × (taken ds n r ≤ want r) × (1 ≤ given ds n r → (want r ≡ 0) × (counted r ≡ true))

module _ (f : Func) (t : Tables f) (number first : ℕ → ℕ) (at_start : ℕ → ℕ → ℕ) (b : ℕ) where
  abbrev counted : ℕ → Bool
  counted = counts_register f.regs

  abbrev want : ℕ → ℕ
  want = owned f t b 0

  pub detours_are : (m : ℕ) (ds : List Detour) → number b ≡ m + length ds → AreLinked ds → ((n : ℕ) → 1 ≤ n → n ≤ length ds → IsFine counted want ds n) → ((n r : ℕ) → n ≤ length ds → at_start (number b - n) r ≡ want r + given ds n r - taken ds n r) → ((r : ℕ) → 1 ≤ want r → counted r ≡ true) → AreDetours f t number first at_start b m (detours_to (number b) ds)
  detours_are m [] size linked fine starts owns = tt
  detours_are m (d ∷ ds) size linked fine starts owns = (one, detours_are (suc m) ds (omega (arith, size)) linked.2 fine_older starts_older owns)
    where
      n : ℕ
      n = suc (length ds)

      here : m ≡ number b - suc (length ds)
      here = omega (arith, size)

      up : (r : ℕ) → taken (d ∷ ds) (suc (length ds)) r ≡ times d.counts.ups r + taken ds d.next r
      up r = total_newest (λ e. e.ups) d ds r

      down : (r : ℕ) → given (d ∷ ds) (suc (length ds)) r ≡ times d.counts.downs r + given ds d.next r
      down r = total_newest (λ e. e.downs) d ds r

      at_here : (r : ℕ) → at_start m r ≡ want r + (times d.counts.downs r + given ds d.next r) - (times d.counts.ups r + taken ds d.next r)
      at_here r =
          ap (λ z. at_start z r) here
          ∙ (starts (suc (length ds)) r (omega arith)
          ∙ (ap (λ z. want r + z - taken (d ∷ ds) (suc (length ds)) r) (down r) ∙ ap (λ z. want r + (times d.counts.downs r + given ds d.next r) - z) (up r)))

      at_next : (r : ℕ) → at_start (number b - d.next) r ≡ want r + given ds d.next r - taken ds d.next r
      at_next r = starts d.next r (omega (arith, linked.0)) ∙ has_older want d ds d.next r linked.0

      fine_here : (r : ℕ) → ((times d.counts.ups r + taken ds d.next r) + (times d.counts.downs r + given ds d.next r) ≤ 1) × (times d.counts.ups r + taken ds d.next r ≤ want r) × (1 ≤ times d.counts.downs r + given ds d.next r → (want r ≡ 0) × (counted r ≡ true))
      fine_here r =
          let h = fine (suc (length ds)) (omega arith) (omega arith) r in
          (omega (arith, h.0, up r, down r), omega (arith, h.1, up r), λ some. h.2 (omega (arith, some, down r)))

      counts : (r : ℕ) → Counting (times d.counts.ups r) (times d.counts.downs r) (given ds d.next r) (want r) (at_start m r) (at_start (number b - d.next) r)
      counts r =
          let h = fine_here r in
          counting (times d.counts.ups r) (taken ds d.next r) (times d.counts.downs r) (given ds d.next r) (want r) (at_start m r) (at_start (number b - d.next) r) (at_here r) (at_next r) h.0 h.1 (λ some. (h.2 some).0)

      one : IsDetour f t number first at_start b m (detour_to (number b) d)
      one =
          record {
            next = number b - d.next;
            goes = refl;
            ahead = omega (arith, size, linked.0);
            within = omega arith;
            counts = record {
              up = d.counts.ups;
              down = unsure d.counts.downs;
              is = refl;
              short = λ r. (counts r).up;
              over = λ r. given_unsure d.counts.downs r ∙ (counts r).down;
              unsure = all_unsure d.counts.downs;
            };
            some = some_ops d.counts.ups d.counts.downs linked.1;
            each = λ r. (counts r).each;
            owns = λ r le. ⊎_elim (λ w. owns r w) (λ g. ((fine_here r).2 g).1) ((counts r).owns le);
          }

      fine_older : (n : ℕ) → 1 ≤ n → n ≤ length ds → IsFine counted want ds n
      fine_older n low high r =
          let h = fine n low (omega (arith, high)) r in
          let u = total_older (λ e. e.ups) d ds n r high in
          let g = total_older (λ e. e.downs) d ds n r high in
          (omega (arith, h.0, u, g), omega (arith, h.1, u), λ some. h.2 (omega (arith, some, g)))

      starts_older : (n r : ℕ) → n ≤ length ds → at_start (number b - n) r ≡ want r + given ds n r - taken ds n r
      starts_older n r le = starts n r (omega (arith, le)) ∙ has_older want d ds n r le

-- ---- what registers have where new blocks begin

abbrev nothing : ℕ → ℕ
nothing r = 0

abbrev pub detour_starts : (ℕ → ℕ) → List Detour → List (ℕ → ℕ)
detour_starts want [] = []
detour_starts want (d ∷ ds) = has want (d ∷ ds) (suc (length ds)) ∷ detour_starts want ds

abbrev pub starts_from : (ℕ → ℕ → ℕ) → ℕ → List Front → List (ℕ → ℕ)
starts_from want b [] = []
starts_from want b (f ∷ fs) = detour_starts (want b) f.detours ++ (want b ∷ starts_from want (suc b) fs)

-- at a place of a list
abbrev pub start_of : List (ℕ → ℕ) → ℕ → ℕ → ℕ
start_of starts n r = get_or starts n (λ r. 0) r

detour_start : (want : ℕ → ℕ) (ds : List Detour) (behind : List (ℕ → ℕ)) (n r : ℕ) → n ≤ length ds → start_of (detour_starts want ds ++ (want ∷ behind)) (length ds - n) r ≡ has want ds n r
detour_start want [] behind n r le =
    let place : 0 - n ≡ 0 = omega arith in
    let same : want r ≡ want r + 0 - 0 = omega arith in
    ap (λ i. start_of (want ∷ behind) i r) place ∙ same
detour_start want (d ∷ ds) behind n r le = ⊎_elim
    (λ lt.
    let place : suc (length ds) - n ≡ suc (length ds - n) = omega (arith, lt) in
    ap (λ i. start_of (detour_starts want (d ∷ ds) ++ (want ∷ behind)) i r) place ∙ (detour_start want ds behind n r (omega (arith, lt)) ∙ sym (has_older want d ds n r (omega (arith, lt)))))
    (λ ge.
    let place : suc (length ds) - n ≡ 0 = omega (arith, ge) in
    let same : suc (length ds) ≡ n = omega (arith, ge, le) in
    ap (λ i. start_of (detour_starts want (d ∷ ds) ++ (want ∷ behind)) i r) place ∙ ap (λ i. has want (d ∷ ds) i r) same)
    (below_or_not n (suc (length ds)))

starts_size : (want : ℕ → ℕ) (ds : List Detour) → length (detour_starts want ds) ≡ length ds
starts_size want [] = refl
starts_size want (d ∷ ds) = ap suc (starts_size want ds)

behind_starts : (xs ys : List (ℕ → ℕ)) (i r : ℕ) → start_of (xs ++ ys) (length xs + i) r ≡ start_of ys i r
behind_starts [] ys i r = let z : 0 + i ≡ i = omega arith in ap (λ j. start_of ys j r) z
behind_starts (x ∷ xs) ys i r =
    let z : suc (length xs) + i ≡ suc (length xs + i) = omega arith in
    ap (λ j. start_of (x ∷ (xs ++ ys)) j r) z ∙ behind_starts xs ys i r

-- where a block and the detours to it stand, among those from new number m and old number k on
pub record FrontAt (want : ℕ → ℕ → ℕ) (m k : ℕ) (fs : List Front) (j : ℕ) (f : Front) : Type 0 where
  pub place : ℕ
  pub is_number : get_or (numbers_from m fs) j 0 ≡ m + place
  pub room : length f.detours ≤ place
  pub starts : (n r : ℕ) → n ≤ length f.detours → start_of (starts_from want k fs) (place - n) r ≡ has (want (k + j)) f.detours n r

pub front_at : (want : ℕ → ℕ → ℕ) (m k : ℕ) (fs : List Front) (j : ℕ) (f : Front) → slice_get fs j ≡ Some f → FrontAt want m k fs j f
front_at want m k [] j f e = let g : None ≡ Some f = e in absurd (cc)
front_at want m k (x ∷ fs) zero f e =
    let g : Some x ≡ Some f = e in
    let same : x ≡ f = cc in
    let z : k ≡ k + 0 = omega arith in
    let here : FrontAt want m k (x ∷ fs) 0 x = record {
      place = length x.detours;
      is_number = refl;
      room = omega arith;
      starts = λ n r le. detour_start (want k) x.detours (starts_from want (suc k) fs) n r le ∙ ap (λ i. has (want i) x.detours n r) z;
    } in
    subst (FrontAt want m k (x ∷ fs) 0) same here
front_at want m k (x ∷ fs) (suc j) f e =
    let rest = front_at want (m + length x.detours + 1) (suc k) fs j f e in
    let own = detour_starts (want k) x.detours in
    let later = starts_from want (suc k) fs in
    let z : suc k + j ≡ k + suc j = omega arith in
    record {
      place = length x.detours + suc rest.place;
      is_number = rest.is_number ∙ omega arith;
      room = omega (arith, rest.room);
      starts = λ n r le.
          let far : length x.detours + suc rest.place - n ≡ length own + suc (rest.place - n) = omega (arith, starts_size (want k) x.detours, le, rest.room) in
          ap (λ i. start_of (own ++ (want k ∷ later)) i r) far ∙ (behind_starts own (want k ∷ later) (suc (rest.place - n)) r ∙ (rest.starts n r le ∙ ap (λ i. has (want i) f.detours n r) z));
    }

-- ---- fronts of blocks that are there

pub fronts_size : (all : List (List EdgeCounts)) (fs : List Front) → AreFronts all fs → length fs ≡ length all
fronts_size [] [] h = refl
fronts_size [] (f ∷ fs) h = absurd h
fronts_size (es ∷ all) [] h = absurd h
fronts_size (es ∷ all) (f ∷ fs) h = ap suc (fronts_size all fs h.1)

pub front_there : (all : List (List EdgeCounts)) (fs : List Front) → AreFronts all fs → (t : ℕ) → t < length all → (f : Front) × (slice_get fs t ≡ Some f) × IsFrontOf (get_or all t []) f
front_there [] fs h t lt = absurd (omega (arith, lt))
front_there (es ∷ all) [] h t lt = absurd h
front_there (es ∷ all) (f ∷ fs) h zero lt = (f, refl, h.0)
front_there (es ∷ all) (f ∷ fs) h (suc t) lt = front_there all fs h.1 t (omega (arith, lt))
