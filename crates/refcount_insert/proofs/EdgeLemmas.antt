-- The counts of what is read again at an end are all counts of its edges: any other register has nothing there, and is to have
-- nothing at the targets. So the edges of tests go where the rule wants them to go.
use Rattle.std.proofs.Common.{◌≡◌, ℕ, zero, suc, ◌+◌, ◌-◌, ◌<◌, ◌⊎◌, Bool, true, false, not, List, [], ◌∷◌, length, get_or, Option, Some, None, refl, sym, ap, ◌∙◌, inl, inr, ⊎_elim, subst, arith}
use Rattle.std.specs.Prelude.{◌↔◌, ◌≤◌, ◌&&◌, ◌||◌, cond, nat_eq, slice_get}
use Rattle.std.proofs.lemmas.Option.{slice_get_within}
use Rattle.c_core.specs.Cells.{times}
use Rattle.ir_core.specs.declared.code.Reg.{Reg}
use Rattle.ir_core.specs.declared.code.Func.{Func}
use Rattle.ir_core.specs.declared.code.Last.{Last}
use Rattle.ir_core.specs.declared.code.Last.TheVariants.{Goto}
use Rattle.ir_core.specs.Items.{Item, End, item_in}
use Rattle.c_core_ownership_laws.specs.Shares.{put, one_if}
use Rattle.liveness.specs.Paths.{is_among, is_target, reads_of_last, targets, LiveAt}
use Rattle.liveness.specs.Liveness.{says_live, says_borrowed, starts_of}
use Rattle.liveness.proofs.OwnedLemmas.{below_or_not}
use Rattle.liveness.proofs.RisingLemmas.{eq_tells, eq_same}
use Rattle.liveness.proofs.RowLemmas.{or_cases, or_left, or_right}
use Rattle.refcount_insert_rule.specs.Rule.{given_up, AreUnsure, IsEdge}
use Rattle.refcount_insert_rule.specs.Counted.{counts_register, Tables, owned, IsEdgeTo}
use Rattle.refcount_insert_counts.specs.declared.counts.Counts.{Counts}
use Rattle.refcount_insert_counts.specs.declared.known.KnownRegisters.{KnownRegisters}
use Rattle.refcount_insert_counts.specs.Known.{IsKnown, owned_at, held_at, entered}
use Rattle.refcount_insert_counts.specs.Counts.{many, AreOnce, AreEach, short_on, over_on, AreEdgeCounts}
use Rattle.refcount_insert_counts.specs.Ends.{is_read_again}
use Rattle.refcount_insert_counts.specs.Edges.{are_none, edge_ops}
use Rattle.refcount_insert.specs.declared.sharing.EdgeCounts.{EdgeCounts}
use Rattle.refcount_insert.specs.declared.detours.Front.{Front}
use Rattle.refcount_insert.specs.Sharing.{kept_at, IsShared}
use Rattle.refcount_insert.specs.Detours.{taken, given, IsWay, IsFrontOf}
use Rattle.refcount_insert.specs.Layout.{entry_of, edge_to}
use Rattle.refcount_insert_counts.proofs.Times.{many_if}
use Rattle.refcount_insert.proofs.FrontLemmas.{total_none}
use Rattle.refcount_insert.proofs.Steps.{same_truth, live_at_end, read_at_end, live_at_target}
use Rattle.refcount_insert.proofs.GroupLemmas.{not_counted}

-- counts that are those of an edge
abbrev pub AreExact : (have want : ℕ → ℕ) → Counts → Type 0
AreExact have want c =
    ((r : ℕ) → times c.ups r ≡ want r - have r) × ((r : ℕ) → times (given_up c.downs) r ≡ have r - want r) × AreUnsure c.downs

pub edge_is : (have want : ℕ → ℕ) (c : Counts) → AreExact have want c → IsEdge have want (edge_ops c)
edge_is have want c exact =
    record { up = c.ups; down = c.downs; is = refl; short = exact.0; over = exact.1; unsure = exact.2 }

cond_zero : (b : Bool) (n : ℕ) → n ≡ 0 → 0 ≡ cond b 0 n
cond_zero true n e = refl
cond_zero false n e = sym e

pick : (is : Bool) (s : Bool) (n m : ℕ) → (is ≡ true → n ≡ m) → (is ≡ false → m ≡ 0) → cond is (cond s 0 n) 0 ≡ cond s 0 m
pick true s n m on off = ap (cond s 0) (on refl)
pick false s n m on off = cond_zero s m (off refl)

put_there : (x : ℕ) (a : ℕ) (h : ℕ → ℕ) → put x a h x ≡ a
put_there zero a h = refl
put_there (suc x) a h = put_there x a (λ j. h (suc j))

put_other : (x r : ℕ) (a : ℕ) (h : ℕ → ℕ) → (x ≡ r → ⊥) → put x a h r ≡ h r
put_other zero zero a h n = absurd (n refl)
put_other zero (suc r) a h n = refl
put_other (suc x) zero a h n = refl
put_other (suc x) (suc r) a h n = put_other x r a (λ j. h (suc j)) (λ e. n (ap suc e))

module _ (have want : ℕ → ℕ) (x r : ℕ) where
  put_same : x ≡ r → put x (want x) have r ≡ want r
  put_same e = ap (put x (want x) have) (sym e) ∙ put_there x (want x) have ∙ ap want e

  but_short : want r - put x (want x) have r ≡ cond (nat_eq x r) 0 (want r - have r)
  but_short =
      ⊎_elim
      (λ e. let at = put_same e.1 in let none : want r - put x (want x) have r ≡ 0 = omega (arith, at) in none ∙ sym (ap (λ z. cond z 0 (want r - have r)) e.0))
      (λ e. ap (λ z. want r - z) (put_other x r (want x) have e.1) ∙ sym (ap (λ z. cond z 0 (want r - have r)) e.0))
      (eq_tells x r)

  but_over : put x (want x) have r - want r ≡ cond (nat_eq x r) 0 (have r - want r)
  but_over =
      ⊎_elim
      (λ e. let at = put_same e.1 in let none : put x (want x) have r - want r ≡ 0 = omega (arith, at) in none ∙ sym (ap (λ z. cond z 0 (have r - want r)) e.0))
      (λ e. ap (λ z. z - want r) (put_other x r (want x) have e.1) ∙ sym (ap (λ z. cond z 0 (have r - want r)) e.0))
      (eq_tells x r)

-- where it is told which numbers count, what is held is what is had of these, and nothing is had or wanted of others
module _ (is : ℕ → Bool) (all : List ℕ) (once : AreOnce is all) (held enter have want : ℕ → ℕ) (enters : (r : ℕ) → enter r ≡ want r) (holds : (r : ℕ) → is r ≡ true → held r ≡ have r) (lacks : (r : ℕ) → is r ≡ false → (have r ≡ 0) × (want r ≡ 0)) where
  each_one : (k : ℕ → ℕ) (rs : List ℕ) → AreEach k all rs → (r : ℕ) → times rs r ≡ cond (is r) (k r) 0
  each_one k rs each r = each r ∙ ap (λ z. many z (k r)) (once r) ∙ many_if (is r) (k r)

  shorts : (skip : Option ℕ) (c : Counts) → AreEdgeCounts all skip held enter c → (r : ℕ) → times c.ups r ≡ short_on skip have want r
  shorts skip c counts r =
      each_one (short_on skip held enter) c.ups counts.short r ∙ pick (is r) (is_target skip r) (enter r - held r) (want r - have r) (λ on. let a = enters r in let b = holds r on in omega (arith, a, b)) (λ off. let both = lacks r off in omega (arith, both.0, both.1))

  overs : (skip : Option ℕ) (c : Counts) → AreEdgeCounts all skip held enter c → (r : ℕ) → times (given_up c.downs) r ≡ over_on skip have want r
  overs skip c counts r =
      each_one (over_on skip held enter) (given_up c.downs) counts.over r ∙ pick (is r) (is_target skip r) (held r - enter r) (have r - want r) (λ on. let a = enters r in let b = holds r on in omega (arith, a, b)) (λ off. let both = lacks r off in omega (arith, both.0, both.1))

  pub exact_all : (c : Counts) → AreEdgeCounts all None held enter c → AreExact have want c
  exact_all c counts = (shorts None c counts, overs None c counts, counts.unsure)

  pub exact_but : (x : ℕ) (c : Counts) → AreEdgeCounts all (Some x) held enter c → AreExact (put x (want x) have) want c
  exact_but x c counts = (λ r. shorts (Some x) c counts r ∙ sym (but_short have want x r), λ r. overs (Some x) c counts r ∙ sym (but_over have want x r), counts.unsure)

-- ---- targets

pub one_target : (t u : ℕ) → is_among (t ∷ []) u ≡ true → t ≡ u
one_target t u e =
    ⊎_elim (λ h. h.1) (λ h. let f : true ≡ false = sym e ∙ ap (λ z. z || false) h.0 in absurd (cc)) (eq_tells t u)

pub two_targets : (t u v : ℕ) → is_among (t ∷ u ∷ []) v ≡ true → (t ≡ v) ⊎ (u ≡ v)
two_targets t u v e =
    ⊎_elim (λ h. inl h.1) (λ h. inr (one_target u v (ap (λ z. z || (nat_eq u v || false)) (sym h.0) ∙ e))) (eq_tells t v)

pub first_target : (t : ℕ) (ts : List ℕ) → is_among (t ∷ ts) t ≡ true
first_target t ts = ap (λ z. z || is_among ts t) (eq_same t)

pub second_target : (t u : ℕ) → is_among (t ∷ u ∷ []) u ≡ true
second_target t u = or_right (nat_eq t u) (nat_eq u u || false) (ap (λ z. z || false) (eq_same u))

-- ---- what is read again

module _ (f : Func) (known : KnownRegisters) (is : IsKnown f known) where
  -- what is told of a block's start
  pub enters : (t : ℕ) (i : Item) → item_in f.blocks t 0 ≡ Some i → (r : ℕ) → entered known f.regs t r ≡ owned_at known f.regs t 0 r
  enters t i there r =
      ⊎_elim
      (λ lt. ap (λ z. one_if (counts_register f.regs r && (z && not (says_borrowed known.lent t 0 r)))) (same_truth (is_among (starts_of known.live t) r) (says_live known.live t 0 r) (is.starts t r lt) (is.live t 0 r i there lt) (λ h. h) (λ h. h)))
      (λ ge. let off = not_counted f.regs r ge in ap (λ z. one_if (z && (is_among (starts_of known.live t) r && not (says_borrowed known.lent t 0 r)))) off ∙ sym (ap (λ z. one_if (z && (says_live known.live t 0 r && not (says_borrowed known.lent t 0 r)))) off))
      (below_or_not r (length f.regs))

  -- what some path reads is held
  holds : (b p : ℕ) (i : Item) → item_in f.blocks b p ≡ Some i → (r : ℕ) → (r < length f.regs → LiveAt f r b p) → held_at known f.regs b p r ≡ owned_at known f.regs b p r
  holds b p i there r live =
      ⊎_elim
      (λ lt. sym (ap (λ z. one_if (counts_register f.regs r && (z && not (says_borrowed known.lent b p r)))) ((is.live b p r i there lt).1 (live lt))))
      (λ ge. let off = not_counted f.regs r ge in ap (λ z. one_if (z && not (says_borrowed known.lent b p r))) off ∙ sym (ap (λ z. one_if (z && (says_live known.live b p r && not (says_borrowed known.lent b p r)))) off))
      (below_or_not r (length f.regs))

  -- and what none reads is not owned
  unread : (b p : ℕ) (i : Item) → item_in f.blocks b p ≡ Some i → (r : ℕ) → (r < length f.regs → LiveAt f r b p → ⊥) → owned_at known f.regs b p r ≡ 0
  unread b p i there r dead =
      ⊎_elim
      (λ lt. which (says_live known.live b p r) (λ h. dead lt ((is.live b p r i there lt).0 h)) (counts_register f.regs r) (says_borrowed known.lent b p r))
      (λ ge. ap (λ z. one_if (z && (says_live known.live b p r && not (says_borrowed known.lent b p r)))) (not_counted f.regs r ge))
      (below_or_not r (length f.regs))
    where
      which : (live : Bool) → (live ≡ true → ⊥) → (counted lent : Bool) → one_if (counted && (live && not lent)) ≡ 0
      which true n counted lent = absurd (n refl)
      which false n true lent = refl
      which false n false lent = refl

  -- ---- the edges of an end
  module _ (b p : ℕ) (last : Last) (here : item_in f.blocks b p ≡ Some (End last)) (within : (t : ℕ) → is_among (targets last) t ≡ true → (i : Item) × (item_in f.blocks t 0 ≡ Some i)) (ahead : ℕ → Bool) (told : (r : ℕ) → r < length f.regs → (ahead r ≡ true) ↔ LiveAt f r b p) (all : List ℕ) (once : AreOnce ahead all) (t : ℕ) (goes : is_among (targets last) t ≡ true) where
    there : (i : Item) × (item_in f.blocks t 0 ≡ Some i)
    there = within t goes

    holding : (r : ℕ) → ahead r ≡ true → held_at known f.regs b p r ≡ owned_at known f.regs b p r
    holding r on = holds b p (End last) here r (λ lt. (told r lt).0 on)

    lacking : (r : ℕ) → ahead r ≡ false → (owned_at known f.regs b p r ≡ 0) × (owned_at known f.regs t 0 r ≡ 0)
    lacking r off =
        let dead : r < length f.regs → LiveAt f r b p → ⊥ = λ lt live. let on : true ≡ false = sym ((told r lt).1 live) ∙ off in absurd (cc) in
        (unread b p (End last) here r dead, unread t 0 there.0 there.1 r (λ lt live. dead lt (live_at_target f r b p last here t goes live)))

    pub exact_edge : (c : Counts) → AreEdgeCounts all None (held_at known f.regs b p) (entered known f.regs t) c → AreExact (owned_at known f.regs b p) (owned_at known f.regs t 0) c
    exact_edge c counts =
        exact_all ahead all once (held_at known f.regs b p) (entered known f.regs t) (owned_at known f.regs b p) (owned_at known f.regs t 0) (enters t there.0 there.1) holding lacking c counts

    pub exact_tested : (x : ℕ) (c : Counts) → AreEdgeCounts all (Some x) (held_at known f.regs b p) (entered known f.regs t) c → AreExact (put x (owned_at known f.regs t 0 x) (owned_at known f.regs b p)) (owned_at known f.regs t 0) c
    exact_tested x c counts =
        exact_but ahead all once (held_at known f.regs b p) (entered known f.regs t) (owned_at known f.regs b p) (owned_at known f.regs t 0) (enters t there.0 there.1) holding lacking x c counts

  -- ---- what is ahead of an end
  pub ahead_of_jump : (b p t : ℕ) → item_in f.blocks b p ≡ Some (End (Goto t)) → (r : ℕ) → r < length f.regs → (is_among (starts_of known.live t) r ≡ true) ↔ LiveAt f r b p
  ahead_of_jump b p t here r lt = (
    λ on. live_at_target f r b p (Goto t) here t (ap (λ z. z || false) (eq_same t)) ((is.starts t r lt).0 on),
    λ live. ⊎_elim (λ e. let f : false ≡ true = e in absurd (cc)) (λ h. (is.starts t r lt).1 (subst (λ z. LiveAt f r z 0) (sym (one_target t h.0 h.1)) h.2)) (live_at_end f r b p (Goto t) here is.calm live),
  )

  pub ahead_of_test : (b p t u : ℕ) (x : Reg) (last : Last) → targets last ≡ t ∷ u ∷ [] → reads_of_last last ≡ x.0 ∷ [] → item_in f.blocks b p ≡ Some (End last) → (r : ℕ) → r < length f.regs → (is_read_again known.live x t u r ≡ true) ↔ LiveAt f r b p
  ahead_of_test b p t u x last to reads_it here r lt =
      let at_t = is_among (starts_of known.live t) r in
      let at_u = is_among (starts_of known.live u) r in
      let first : is_among (targets last) t ≡ true = ap (λ z. is_among z t) to ∙ ap (λ z. z || (nat_eq u t || false)) (eq_same t) in
      let second : is_among (targets last) u ≡ true = ap (λ z. is_among z u) to ∙ or_right (nat_eq t u) (nat_eq u u || false) (ap (λ z. z || false) (eq_same u)) in (
        λ on.
            ⊎_elim
            (λ h. live_at_target f r b p last here t first ((is.starts t r lt).0 h))
            (λ h. ⊎_elim
            (λ k. live_at_target f r b p last here u second ((is.starts u r lt).0 k))
            (λ k. read_at_end f r b p last here (ap (λ z. is_among z r) reads_it ∙ ap (λ z. z || false) k.1))
            (or_cases at_u (nat_eq x.0 r) h.1))
            (or_cases at_t (at_u || nat_eq x.0 r) on),
        λ live.
            ⊎_elim
            (λ e. let tested : nat_eq x.0 r ≡ true = or_first (nat_eq x.0 r) (ap (λ z. is_among z r) (sym reads_it) ∙ e) in or_right at_t (at_u || nat_eq x.0 r) (or_right at_u (nat_eq x.0 r) tested))
            (λ h. ⊎_elim
            (λ k. or_left at_t (at_u || nat_eq x.0 r) ((is.starts t r lt).1 (subst (λ z. LiveAt f r z 0) (sym k) h.2)))
            (λ k. or_right at_t (at_u || nat_eq x.0 r) (or_left at_u (nat_eq x.0 r) ((is.starts u r lt).1 (subst (λ z. LiveAt f r z 0) (sym k) h.2))))
            (two_targets t u h.0 (ap (λ z. is_among z h.0) (sym to) ∙ h.1)))
            (live_at_end f r b p last here is.calm live),
      )
    where
      or_first : (a : Bool) → (a || false) ≡ true → a ≡ true
      or_first true e = refl
      or_first false e = e

-- ---- where the edge of a test goes

none_ups : (ups : List ℕ) (downs : List (ℕ × Bool)) → are_none ups downs ≡ true → (ups ≡ []) × (downs ≡ [])
none_ups [] [] e = (refl, refl)
none_ups [] (d ∷ ds) e = cc
none_ups (r ∷ rs) ds e = cc

-- a block that edges go to, and the detours to it: where they stand, and what registers have there
module _ (f : Func) (t : Tables f) (number first : ℕ → ℕ) (at_start : ℕ → ℕ → ℕ) (kept : List (List EdgeCounts)) (fronts : List Front) (b : ℕ) (front : Front) (there : slice_get fronts b ≡ Some front) (is : IsFrontOf (kept_at kept b) front) (low : first b + length front.detours ≡ number b) (starts : (n r : ℕ) → n ≤ length front.detours → at_start (number b - n) r ≡ owned f t b 0 r + given front.detours n r - taken front.detours n r) where
  straight : (have : ℕ → ℕ) → ((r : ℕ) → have r ≡ owned f t b 0 r) → IsEdgeTo f t number first at_start have b (number b - 0)
  straight have same = (
    omega (arith, low),
    omega arith,
    λ r.
        let none : given front.detours 0 r ≡ 0 = total_none (λ e. e.downs) front.detours r in
        let no : taken front.detours 0 r ≡ 0 = total_none (λ e. e.ups) front.detours r in
        omega (arith, same r, starts 0 r (omega arith), none, no),
  )

  over_detours : (have : ℕ → ℕ) (c : Counts) (i : ℕ) → AreExact have (owned f t b 0) c → IsShared kept b c (Some i) → IsEdgeTo f t number first at_start have b (number b - entry_of (slice_get fronts b) i)
  over_detours have c i exact shared =
      let found = entry_there front.entries i (omega (arith, is.size, slice_get_within (kept_at kept b) i shared.0 shared.1)) in
      let n : ℕ = found.0 in
      let way = is.ways i n found.1 in
      let both : Some way.0 ≡ Some shared.0 = sym way.1 ∙ shared.1 in
      let same : way.0 ≡ shared.0 = cc in
      let counted : IsWay front.detours n shared.0 = subst (IsWay front.detours n) same way.3 in
      let entry : entry_of (slice_get fronts b) i ≡ n = ap (λ z. entry_of z i) there ∙ found.2 in
      subst (λ z. IsEdgeTo f t number first at_start have b (number b - z)) (sym entry) (
        omega (arith, low, way.2),
        omega arith,
        λ r.
            let up : taken front.detours n r ≡ times c.ups r = (counted r).0 ∙ ap (λ z. times z r) shared.2.0 in
            let down : given front.detours n r ≡ times (given_up c.downs) r = (counted r).1 ∙ ap (λ z. times z r) shared.2.1 in
            omega (arith, starts n r way.2, up, down, exact.0 r, exact.1 r),
      )
    where
      entry_there : (xs : List ℕ) (i : ℕ) → i < length xs → (n : ℕ) × (slice_get xs i ≡ Some n) × (get_or xs i 0 ≡ n)
      entry_there [] i lt = absurd (omega (arith, lt))
      entry_there (x ∷ xs) zero lt = (x, refl, refl)
      entry_there (x ∷ xs) (suc i) lt = entry_there xs i (omega (arith, lt))

  pub edge_to_is : (have : ℕ → ℕ) (c : Counts) (o : Option ℕ) → AreExact have (owned f t b 0) c → IsShared kept b c o → IsEdgeTo f t number first at_start have b (edge_to number fronts b o)
  edge_to_is have c None exact none =
      straight have (λ r. let both = none_ups c.ups c.downs none in let up : times [] r ≡ owned f t b 0 r - have r = ap (λ z. times z r) (sym both.0) ∙ exact.0 r in let down : times [] r ≡ have r - owned f t b 0 r = ap (λ z. times (given_up z) r) (sym both.1) ∙ exact.1 r in omega (arith, up, down))
  edge_to_is have c (Some i) exact shared = over_detours have c i exact shared
