-- The steps by which detours are put in front of others.
use Rattle.std.proofs.Common.{◌≡◌, ℕ, zero, suc, ◌+◌, ◌<◌, ◌≤◌, ◌⊎◌, true, false, List, [], ◌∷◌, ◌++◌, take, length, get_or, Some, None, refl, sym, ap, ◌∙◌, inl, inr, ⊎_elim, subst, arith}
use Rattle.std.specs.Prelude.{slice_get}
use Rattle.std.specs.Prelude.{reverse}
use Rattle.std.proofs.lemmas.Option.{slice_get_within}
use Rattle.std.proofs.lemmas.List.{length-append, length-reverse, reverse-append}
use Rattle.c_core.specs.Cells.{times}
use Rattle.liveness.proofs.InverseLemmas.{take_next}
use Rattle.liveness.proofs.OwnedLemmas.{below_or_not}
use Rattle.refcount_insert.specs.declared.sharing.EdgeCounts.{EdgeCounts}
use Rattle.refcount_insert.specs.declared.detours.Detour.{Detour}
use Rattle.refcount_insert.specs.declared.detours.Front.{Front}
use Rattle.refcount_insert.specs.declared.pairs.Part.{Part}
use Rattle.refcount_insert.specs.Sharing.{are_none, is_none}
use Rattle.refcount_insert.specs.Pairs.{AreParted}
use Rattle.refcount_insert.specs.Detours.{taken, given, IsWay, IsPart, Grows, IsPlaced, AreWays, IsFrontOf, AreFronts}
use Rattle.refcount_insert.proofs.FrontLemmas.{total_older, total_newest, total_none}

none_times : (us ds : List ℕ) → are_none us ds ≡ true → (r : ℕ) → (times us r ≡ 0) × (times ds r ≡ 0)
none_times [] [] e r = (refl, refl)
none_times [] (d ∷ ds) e r = absurd (cc)
none_times (u ∷ us) ds e r = absurd (cc)

grows_self : (ds : List Detour) → Grows ds ds
grows_self ds = (omega arith, λ n r le. (refl, refl), λ h. h)

-- ---- one detour, or none

pub placed_none : (ds : List Detour) (e : EdgeCounts) (next : ℕ) → next ≤ length ds → is_none e ≡ true → IsPlaced ds ds e next next
placed_none ds e next le none = (
  grows_self ds,
  le,
  λ r. let h = none_times e.ups e.downs none r in (omega (arith, h.0), omega (arith, h.1)),
  λ m low high. absurd (omega (arith, low, high)),
)

pub placed_more : (ds : List Detour) (e : EdgeCounts) (next : ℕ) → next ≤ length ds → is_none e ≡ false → IsPlaced ds (record { counts = e; next = next } ∷ ds) e next (suc (length ds))
placed_more ds e next le some =
    let d : Detour = record { counts = e; next = next } in (
      (
        omega arith,
        λ n r low. (total_older (λ e. e.ups) d ds n r low, total_older (λ e. e.downs) d ds n r low),
        λ h. (le, some, h),
      ),
      omega arith,
      λ r. (total_newest (λ e. e.ups) d ds r, total_newest (λ e. e.downs) d ds r),
      λ m low high. omega (arith, low, high),
    )

-- one that is put behind the others of a list that is read from its end
pub place_pushed : (old new : List Detour) (e : EdgeCounts) (next n : ℕ) → next ≤ length old → is_none e ≡ false → new ≡ old ++ record { counts = e; next = next } ∷ [] → n ≡ length new → IsPlaced (reverse old) (reverse new) e next n
place_pushed old new e next n le some is size =
    let d : Detour = record { counts = e; next = next } in
    let back : reverse new ≡ d ∷ reverse old = ap reverse is ∙ reverse-append old (d ∷ []) in
    let sized : n ≡ suc (length (reverse old)) = omega (arith, size, ap length is, length-append old (d ∷ []), length-reverse old) in
    subst (λ z. IsPlaced (reverse old) z e next n) (sym back) (subst (λ z. IsPlaced (reverse old) (d ∷ reverse old) e next z) (sym sized) (placed_more (reverse old) e next (omega (arith, le, length-reverse old)) some))

pub place_none : (old : List Detour) (e : EdgeCounts) (next : ℕ) → next ≤ length old → is_none e ≡ true → IsPlaced (reverse old) (reverse old) e next next
place_none old e next le none = placed_none (reverse old) e next (omega (arith, le, length-reverse old)) none

-- ---- the ways of some counts

pub ways_none : (ds : List Detour) (all : List EdgeCounts) → AreWays ds ds all []
ways_none ds all =
    record {
      grows = grows_self ds;
      ways = λ i n at. let f : None ≡ Some n = at in absurd (cc);
      parts = λ n low high. absurd (omega (arith, low, high));
    }

way_grows : (now new : List Detour) → Grows now new → (n : ℕ) → n ≤ length now → (e : EdgeCounts) → IsWay now n e → IsWay new n e
way_grows now new grows n le e way r =
    let same = grows.1 n r le in
    let is = way r in
    (same.0 ∙ is.0, same.1 ∙ is.1)

part_grows : (now new : List Detour) → Grows now new → (n : ℕ) → n ≤ length now → (e : EdgeCounts) → IsPart now n e → IsPart new n e
part_grows now new grows n le e part r =
    let same = grows.1 n r le in
    let is = part r in
    (omega (arith, same.0, is.0), omega (arith, same.1, is.1))

grows_on : (old now new : List Detour) → Grows old now → Grows now new → Grows old new
grows_on old now new a b = (
  omega (arith, a.0, b.0),
  λ n r le.
      let one = a.1 n r le in
      let other = b.1 n r (omega (arith, le, a.0)) in
      (other.0 ∙ one.0, other.1 ∙ one.1),
  λ h. b.2 (a.2 h),
)

get_either : {A : Type 0} (xs : List A) (y x : A) (i : ℕ) → slice_get (xs ++ y ∷ []) i ≡ Some x → (slice_get xs i ≡ Some x) ⊎ ((i ≡ length xs) × (y ≡ x))
get_either [] y x zero e = let f : Some y ≡ Some x = e in inr (refl, cc)
get_either [] y x (suc i) e = absurd (cc)
get_either (z ∷ xs) y x zero e = inl e
get_either (z ∷ xs) y x (suc i) e =
    ⊎_elim (λ h. inl h) (λ h. inr (ap suc h.0, h.1)) (get_either xs y x i e)

-- with one more way, over which the next counts are counted
ways_with : (old now new : List Detour) (all : List EdgeCounts) (entries : List ℕ) (e : EdgeCounts) (n : ℕ) → AreWays old now all entries → Grows now new → slice_get all (length entries) ≡ Some e → n ≤ length new → IsWay new n e → ((m : ℕ) → length now < m → m ≤ length new → m ≡ n) → AreWays old new all (entries ++ n ∷ [])
ways_with old now new all entries e n so_far grows there le way only =
    record {
      grows = grows_on old now new so_far.grows grows;
      ways = λ i m at. ⊎_elim
          (λ h. let one = so_far.ways i m h in (one.0, one.1, omega (arith, one.2, grows.0), way_grows now new grows m one.2 one.0 one.3))
          (λ h. (e, ap (slice_get all) h.0 ∙ there, omega (arith, le, ap (λ z. z) h.1), subst (λ z. IsWay new z e) h.1 way))
          (get_either entries n m i at);
      parts = λ m low high. ⊎_elim
          (λ past. (length entries, e, there, λ r. let is = way r in let same : m ≡ n = only m past high in (omega (arith, is.0, ap (λ z. taken new z r) same), omega (arith, is.1, ap (λ z. given new z r) same))))
          (λ within. let one = so_far.parts m low within in (one.0, one.1, one.2, part_grows now new grows m within one.1 one.3))
          (below_or_not (length now) m);
    }

pub ways_more : (old now new : List Detour) (all : List EdgeCounts) (entries : List ℕ) (e : EdgeCounts) (n : ℕ) → slice_get all (length entries) ≡ Some e → AreWays old now all entries → IsPlaced now new e 0 n → AreWays old new all (entries ++ n ∷ [])
ways_more old now new all entries e n there so_far placed =
    ways_with old now new all entries e n so_far placed.0 there placed.1
    (λ r. let is = placed.2 r in let up = total_none (λ e. e.ups) now r in let down = total_none (λ e. e.downs) now r in (omega (arith, is.0, up), omega (arith, is.1, down)))
    placed.3

-- what is shared is a part of one of all
pub ways_over : (old now : List Detour) (all shared : List EdgeCounts) (parts : List Part) (commons : List ℕ) → AreParted all parts shared → AreWays old now shared commons → AreWays old now all []
ways_over old now all shared parts commons parted h =
    record {
      grows = h.grows;
      ways = λ i n at. let f : None ≡ Some n = at in absurd (cc);
      parts = λ n low high.
          let one = h.parts n low high in
          let whole = parted.from one.0 one.1 one.2 in
          (whole.0, whole.1, whole.3, λ r. let part = one.3 r in let sum = whole.4 r in (omega (arith, part.0, sum.0), omega (arith, part.1, sum.1)));
    }

pub over_more : (start now new old : List Detour) (all shared : List EdgeCounts) (parts : List Part) (commons entries : List ℕ) (x : Part) (n : ℕ) → AreParted all parts shared → AreWays old start shared commons → length commons ≡ length shared → slice_get parts (length entries) ≡ Some x → Grows start now → AreWays old now all entries → IsPlaced now new x.own (get_or commons x.over 0) n → AreWays old new all (entries ++ n ∷ [])
over_more start now new old all shared parts commons entries x n parted h size there grows so_far placed =
    let sum = parted.sums (length entries) x there in
    let found = get_there commons x.over (omega (arith, size, slice_get_within shared x.over sum.1 sum.3)) in
    let way = h.ways x.over found.0 found.1 in
    let both : Some way.0 ≡ Some sum.1 = sym way.1 ∙ sum.3 in
    let same : way.0 ≡ sum.1 = cc in
    let next : get_or commons x.over 0 ≡ found.0 = get_found commons x.over found.0 found.1 in
    let shared_way : IsWay now (get_or commons x.over 0) sum.1 = subst (λ z. IsWay now z sum.1) (sym next) (subst (IsWay now found.0) same (way_grows start now grows found.0 way.2 way.0 way.3)) in
    ways_with old now new all entries sum.0 n so_far placed.0 sum.2 placed.1
    (λ r.
    let is = placed.2 r in
    let on = shared_way r in
    let whole = sum.4 r in
    (omega (arith, is.0, on.0, whole.0), omega (arith, is.1, on.1, whole.1)))
    placed.3
  where
    get_there : (xs : List ℕ) (i : ℕ) → i < length xs → (n : ℕ) × (slice_get xs i ≡ Some n)
    get_there [] i lt = absurd (omega (arith, lt))
    get_there (x ∷ xs) zero lt = (x, refl)
    get_there (x ∷ xs) (suc i) lt = get_there xs i (omega (arith, lt))

    get_found : (xs : List ℕ) (i n : ℕ) → slice_get xs i ≡ Some n → get_or xs i 0 ≡ n
    get_found [] i n e = absurd (cc)
    get_found (x ∷ xs) zero n e = cc
    get_found (x ∷ xs) (suc i) n e = get_found xs i n e

pub next_within : (commons : List ℕ) (j n : ℕ) (start now : List Detour) → ((i m : ℕ) → slice_get commons i ≡ Some m → m ≤ length start) → Grows (reverse start) (reverse now) → n ≡ get_or commons j 0 → n ≤ length now
next_within commons j n start now all grows is =
    let more : length start ≤ length now = omega (arith, grows.0, length-reverse start, length-reverse now) in
    by commons j all is
  where
    by : (xs : List ℕ) (j : ℕ) → ((i m : ℕ) → slice_get xs i ≡ Some m → m ≤ length start) → n ≡ get_or xs j 0 → n ≤ length now
    by [] j all is = omega (arith, is)
    by (x ∷ xs) zero all is = omega (arith, is, all 0 x refl, grows.0, length-reverse start, length-reverse now)
    by (x ∷ xs) (suc j) all is = by xs j (λ i m at. all (suc i) m at) is

pub over_step : (start now new : List Detour) (parts : List Part) (commons entries more : List ℕ) (x : Part) (own : EdgeCounts) (i next n : ℕ) → slice_get parts i ≡ Some x → length entries ≡ i → own ≡ x.own → Grows start now → IsPlaced now new own next n → next ≡ get_or commons x.over 0 → more ≡ entries ++ n ∷ [] → (old : List Detour) (all shared : List EdgeCounts) → AreParted all parts shared → AreWays old start shared commons → length commons ≡ length shared → AreWays old now all entries → AreWays old new all more
over_step start now new parts commons entries more x own i next n there count same grows placed is pushed old all shared parted h size so_far =
    subst (AreWays old new all) (sym pushed) (over_more start now new old all shared parts commons entries x n parted h size (ap (slice_get parts) count ∙ there) grows so_far (subst (λ z. IsPlaced now new x.own z n) is (subst (λ z. IsPlaced now new z next n) same placed)))

pub one_longer : {A : Type 0} (xs more : List A) (x : A) (i : ℕ) → more ≡ xs ++ x ∷ [] → length xs ≡ i → length more ≡ i + 1
one_longer xs more x i is size = omega (arith, ap length is, length-append xs (x ∷ []), size)

pub grows_placed : (start now new : List Detour) (e : EdgeCounts) (next n : ℕ) → Grows start now → IsPlaced now new e next n → Grows start new
grows_placed start now new e next n grows placed = grows_on start now new grows placed.0

pub grows_start : (ds : List Detour) → Grows ds ds
grows_start ds = grows_self ds

pub alone_step : (start now new : List Detour) (all : List EdgeCounts) (i : ℕ) (entries more : List ℕ) (e copy : EdgeCounts) (n : ℕ) → slice_get all i ≡ Some e → length entries ≡ i → copy ≡ e → AreWays start now all entries → IsPlaced now new copy 0 n → more ≡ entries ++ n ∷ [] → AreWays start new all more
alone_step start now new all i entries more e copy n there count same so_far placed pushed =
    subst (AreWays start new all) (sym pushed) (ways_more start now new all entries e n (ap (slice_get all) count ∙ there) so_far (subst (λ z. IsPlaced now new z 0 n) same placed))

-- the ways of all over those of what they share
pub ways_joined : (start now new : List Detour) (all commons read_commons : List EdgeCounts) (parts read_parts : List Part) (shared read_shared entries : List ℕ) → read_parts ≡ parts → read_commons ≡ commons → read_shared ≡ shared → AreParted all parts commons → AreWays start now read_commons shared → length shared ≡ length read_commons → ((old : List Detour) (every common : List EdgeCounts) → AreParted every read_parts common → AreWays old now common read_shared → length read_shared ≡ length common → AreWays old new every entries) → AreWays start new all entries
ways_joined start now new all commons read_commons parts read_parts shared read_shared entries p c s parted ways size over =
    over start all commons (subst (λ z. AreParted all z commons) (sym p) parted) (subst (λ z. AreWays start now commons z) (sym s) (subst (λ z. AreWays start now z shared) c ways)) (ap length s ∙ (size ∙ ap length c))

pub entries_within : (start now : List Detour) (all : List EdgeCounts) (shared read_shared : List ℕ) → read_shared ≡ shared → AreWays start (reverse now) all shared → (j n : ℕ) → slice_get read_shared j ≡ Some n → n ≤ length now
entries_within start now all shared read_shared same h j n at =
    let one = h.ways j n (ap (λ z. slice_get z j) (sym same) ∙ at) in
    omega (arith, one.2, length-reverse now)

-- ---- fronts

pub front_made : (all : List EdgeCounts) (ds : List Detour) (entries : List ℕ) → AreWays [] ds all entries → length entries ≡ length all → IsFrontOf all (record { detours = ds; entries = entries })
front_made all ds entries h size =
    record {
      linked = h.grows.2 tt;
      size = size;
      ways = h.ways;
      parts = λ n low high. h.parts n (omega (arith, low)) high;
    }

pub front_closed : (all : List EdgeCounts) (start now ds : List Detour) (entries made : List ℕ) → start ≡ [] → ds ≡ reverse now → made ≡ entries → AreWays (reverse start) (reverse now) all entries → length entries ≡ length all → IsFrontOf all (record { detours = ds; entries = made })
front_closed all start now ds entries made none is same h size =
    let begun : AreWays [] (reverse now) all entries = subst (λ z. AreWays (reverse z) (reverse now) all entries) none h in
    let front : IsFrontOf all (record { detours = reverse now; entries = entries }) = front_made all (reverse now) entries begun size in
    subst (λ z. IsFrontOf all (record { detours = ds; entries = z })) (sym same) (subst (λ z. IsFrontOf all (record { detours = z; entries = entries })) (sym is) front)

pub fronts_more : (all : List (List EdgeCounts)) (fs : List Front) (es : List EdgeCounts) (f : Front) → AreFronts all fs → IsFrontOf es f → AreFronts (all ++ es ∷ []) (fs ++ f ∷ [])
fronts_more [] [] es f h one = (one, tt)
fronts_more [] (g ∷ fs) es f h one = absurd h
fronts_more (x ∷ all) [] es f h one = absurd h
fronts_more (x ∷ all) (g ∷ fs) es f h one = (h.0, fronts_more all fs es f h.1 one)

pub fronts_step : (all : List (List EdgeCounts)) (i : ℕ) (es read : List EdgeCounts) (f : Front) (done new : List Front) → slice_get all i ≡ Some es → read ≡ es → AreFronts (take i all) done → IsFrontOf read f → new ≡ done ++ f ∷ [] → AreFronts (take (i + 1) all) new
fronts_step all i es read f done new there same so_far one is =
    let e : suc i ≡ i + 1 = omega arith in
    subst (AreFronts (take (i + 1) all)) (sym is)
    (subst (λ z. AreFronts z (done ++ f ∷ [])) (sym (take_next all i es there) ∙ ap (λ z. take z all) e) (fronts_more (take i all) done es f so_far (subst (λ z. IsFrontOf z f) same one)))
