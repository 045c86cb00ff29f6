-- A program with its counts is placed, and so it is in order.
use Rattle.std.proofs.Common.{◌≡◌, refl, sym, ◌∙◌, ap, subst, arith, ℕ, zero, suc, ◌+◌, ◌-◌, ◌≤◌, ◌<◌, ◌⊎◌, inl, inr, Bool, true, false, length, List, [], ◌∷◌, Option, Some, None}
use Rattle.std.specs.Prelude.{slice_get, map, drop}
use Rattle.value_core.specs.Items.{Items}
use Rattle.c_core.specs.declared.code.CFunc.{CFunc}
use Rattle.c_core.specs.Machine.{MachineState, Frame}
use Rattle.c_core.specs.Run.{module_function, start}
use Rattle.c_core.specs.Laws.{Reaches}
use Rattle.c_core.specs.WellFormed.{spelled_functions}
use Rattle.ir_core.specs.declared.code.Func.{Func}
use Rattle.ir_core.specs.declared.code.Program.{Program}
use Rattle.ir_core.specs.Lower.{kind_of_type, variable_of, lines_from, lowered_as, name_in, lowered_from, lower}
use Rattle.ir_core.specs.Shape.{Shape}
use Rattle.c_core_ownership_laws.specs.Shares.{Shares}
use Rattle.c_core_ownership_laws.specs.Frames.{IsMet, IsWaiting, Waits}
use Rattle.c_core_ownership_laws.specs.Order.{Table, Entered, ArePlaced, IsPlaced, labels_of}
use Rattle.c_core_ownership_laws.proofs.Placed.{placed_kept, placed_in_order}
use Rattle.c_core_ownership_laws.proofs.Runs.{reached_met}
use Rattle.c_core_ownership_laws.proofs.Totals.{total-same}
use Rattle.refcount_insert_rule.specs.Counted.{owned, IsCountedFunc, AreCounted, IsCountedProgram}
use Rattle.ir_core.proofs.LowerLemmas.{place_of}
use Rattle.c_core.specs.declared.code.Kind.{Kind}
use Rattle.liveness.specs.Paths.{MetAt}
use Rattle.std.proofs.lemmas.Option.{slice_get_within}
use Rattle.refcount_insert_order_laws.proofs.CallGroups.{call_line}
use Rattle.refcount_insert_order_laws.proofs.MetBlocks.{marks}
use Rattle.refcount_insert_order_laws.specs.Places.{EachCounted, group_place}
use Rattle.refcount_insert_order_laws.specs.Laws.{CountedIsInOrder, CountedIsPlaced, LedgersAreOwned, GroupsHaveShares, GroupsOwn, CallersAreOwned, CallersOwn, LentAreHeld, LentAre, UnmetAreNeverEntered, NeverEntered}
use Rattle.refcount_insert_order_laws.proofs.Trails.{at_place}
use Rattle.refcount_insert_order_laws.proofs.Bodies.{text_of}
use Rattle.refcount_insert_order_laws.proofs.Placing.{done, placed, unmet_start}
use Rattle.refcount_insert_order_laws.proofs.GroupPlaces.{groups_have, labelled_at}
use Rattle.refcount_insert_order_laws.proofs.OldText.{function_at, spelled_all}
use Rattle.refcount_insert_order_laws.proofs.NewText.{Pair, pair_at, counted_size}

-- what holds of each pair of functions holds of each function with its counts
each_from : (fs gs : List Func) (h : AreCounted fs gs) (k : ℕ) (P : ℕ → (f g : Func) → IsCountedFunc f g → Type 0) → ((i : ℕ) (f g : Func) (there : slice_get fs i ≡ Some f) (here : slice_get gs i ≡ Some g) (c : IsCountedFunc f g) → pair_at fs gs h i ≡ inl (f, g, there, here, c) → P (k + i) f g c) → EachCounted P k fs gs h
each_from [] [] h k P each = tt
each_from [] (g ∷ gs) h k P each = tt
each_from (f ∷ fs) [] h k P each = tt
each_from (f ∷ fs) (g ∷ gs) h k P each =
    let z : k + 0 ≡ k = omega arith in
    (subst (λ n. P n f g h.0) z (each 0 f g refl refl h.0 refl), each_from fs gs h.1 (suc k) P (λ i a b there here c e. let y : k + suc i ≡ suc k + i = omega arith in subst (λ n. P n a b c) y (each (suc i) a b there here c e)))

each_map : (fs gs : List Func) (h : AreCounted fs gs) (k : ℕ) (P Q : ℕ → (f g : Func) → IsCountedFunc f g → Type 0) → ((n : ℕ) (f g : Func) (c : IsCountedFunc f g) → P n f g c → Q n f g c) → EachCounted P k fs gs h → EachCounted Q k fs gs h
each_map [] [] h k P Q to each = tt
each_map [] (g ∷ gs) h k P Q to each = tt
each_map (f ∷ fs) [] h k P Q to each = tt
each_map (f ∷ fs) (g ∷ gs) h k P Q to each =
    (to k f g h.0 each.0, each_map fs gs h.1 (suc k) P Q to each.1)

-- a block to which no path leads has no mark
unmarked : (f : Func) (b : ℕ) → (MetAt f b 0 → ⊥) → (marks f).marked b ≡ false
unmarked f b unmet = by ((marks f).marked b) refl
  where
    by : (m : Bool) → (marks f).marked b ≡ m → (marks f).marked b ≡ false
    by true is = absurd (unmet ((marks f).sound b is))
    by false is = is

module _ (p q : Program) (shape : Shape p) (counted : IsCountedProgram p q) where
  abbrev Here : ℕ → Type 0
  Here n = Pair p.funcs q.funcs n ⊎ ((slice_get p.funcs n ≡ None) × (slice_get q.funcs n ≡ None))

  -- the shares at the places of the function of a number
  abbrev shares_by : (n : ℕ) → Here n → List (Option Shares)
  shares_by n (inl h) = (done p q shape counted n h.0 h.1 h.2 h.4).shares
  shares_by n (inr h) = []

  abbrev pub table : Table
  table n place = at_place (shares_by n (pair_at p.funcs q.funcs counted.funcs n)) place

  -- the text of a function with its counts, by the registers of the old one
  text_is : (n : ℕ) (f g : Func) (c : IsCountedFunc f g) → lowered_as q (name_in q n g) g ≡ text_of f (name_in q n g) (lines_from q 0 g.blocks)
  text_is n f g c =
      ap (λ ret. record { name = name_in q n g; ret = kind_of_type ret; params = g.params; vars = map variable_of g.regs; lines = lines_from q 0 g.blocks }) c.ret
      ∙ (ap (λ params. record { name = name_in q n g; ret = kind_of_type f.ret; params = params; vars = map variable_of g.regs; lines = lines_from q 0 g.blocks }) c.params
      ∙ ap (λ regs. record { name = name_in q n g; ret = kind_of_type f.ret; params = f.params; vars = map variable_of regs; lines = lines_from q 0 g.blocks }) c.regs)

  text_at : (n : ℕ) (f g : Func) (c : IsCountedFunc f g) → slice_get q.funcs n ≡ Some g → slice_get (lower q).funcs n ≡ Some (text_of f (name_in q n g) (lines_from q 0 g.blocks))
  text_at n f g c is = function_at q n g is ∙ ap Some (text_is n f g c)

  no_text : (n i : ℕ) (gs : List Func) → slice_get gs i ≡ None → slice_get (lowered_from q n gs) i ≡ None
  no_text n i [] e = refl
  no_text n zero (g ∷ gs) e = absurd (cc)
  no_text n (suc i) (g ∷ gs) e = no_text (suc n) i gs e

  placed_by : (n : ℕ) (o : Here n) → pair_at p.funcs q.funcs counted.funcs n ≡ o → (text : CFunc) → slice_get (lower q).funcs n ≡ Some text → IsPlaced (lower q) table n text
  placed_by n (inl h) e text is =
      let there = text_at n h.0 h.1 h.4 h.3 in
      let both : Some (text_of h.0 (name_in q n h.1) (lines_from q 0 h.1.blocks)) ≡ Some text = sym there ∙ is in
      let same : text_of h.0 (name_in q n h.1) (lines_from q 0 h.1.blocks) ≡ text = cc in
      subst (IsPlaced (lower q) table n) same (placed p q shape counted n h.0 h.1 h.2 h.4 table (λ place. ap (λ o. at_place (shares_by n o) place) e) there)
  placed_by n (inr h) e text is =
      let both : None ≡ Some text = sym (no_text 0 n q.funcs h.1) ∙ is in absurd (cc)

  pub all_placed : ArePlaced (lower q) table
  all_placed n text is = placed_by n (pair_at p.funcs q.funcs counted.funcs n) refl text is

  -- ---- groups
  shares_at : (n : ℕ) (f g : Func) (there : slice_get p.funcs n ≡ Some f) (here : slice_get q.funcs n ≡ Some g) (c : IsCountedFunc f g) → pair_at p.funcs q.funcs counted.funcs n ≡ inl (f, g, there, here, c) → GroupsHaveShares q table n f g c
  shares_at n f g there here c e =
      groups_have p q shape counted n f g there c (table n) (λ place. ap (λ o. at_place (shares_by n o) place) e)

  pub all_shares : EachCounted (GroupsHaveShares q table) 0 p.funcs q.funcs counted.funcs
  all_shares =
      each_from p.funcs q.funcs counted.funcs 0 (GroupsHaveShares q table) (λ i f g there here c e. let z : i ≡ 0 + i = omega arith in subst (λ n. GroupsHaveShares q table n f g c) z (shares_at i f g there here c e))

  -- there is a module's own function
  has_function : (text : CFunc) × (slice_get (lower q).funcs (module_function (lower q)) ≡ Some text)
  has_function =
      last_there (lower q).funcs (omega (arith, text_size 0 q.funcs, counted_size p.funcs q.funcs counted.funcs, some_function p.funcs (spelled_all p shape)))
    where
      text_size : (n : ℕ) (gs : List Func) → length (lowered_from q n gs) ≡ length gs
      text_size n [] = refl
      text_size n (g ∷ gs) = ap suc (text_size (suc n) gs)

      some_function : (fs : List Func) → spelled_functions (lowered_from p 0 fs) ≡ true → 1 ≤ length fs
      some_function [] e = absurd (cc)
      some_function (f ∷ fs) e = omega arith

      there_is : (ts : List CFunc) (i : ℕ) → i < length ts → (t : CFunc) × (slice_get ts i ≡ Some t)
      there_is [] i lt = absurd (omega (arith, lt))
      there_is (t ∷ ts) zero lt = (t, refl)
      there_is (t ∷ ts) (suc i) lt = there_is ts i (omega (arith, lt))

      last_there : (ts : List CFunc) → 1 ≤ length ts → (t : CFunc) × (slice_get ts (length ts - 1) ≡ Some t)
      last_there ts le = there_is ts (length ts - 1) (omega (arith, le))

  met_at : (turns : ℕ) (items : Items) (steps : ℕ) (s : MachineState) → Reaches (lower q) steps (start (lower q) turns items) s → IsMet (lower q) (Entered table) s
  met_at turns items steps s r =
      reached_met (lower q) (Entered (labels_of (lower q) table)) (Entered table) (placed_kept (lower q) table all_placed) turns items has_function.0 has_function.1 steps s r

  owns_at : (n : ℕ) (f g : Func) (c : IsCountedFunc f g) → GroupsHaveShares q table n f g c → GroupsOwn q n f g c
  owns_at n f g c have b k is met =
      let h = have b k is met in (
        h.0,
        λ i le turns items steps s r func place cell.
            let shares = h.1 i le in
            let here = met_at turns items steps s r in
            let both : Some here.σ ≡ Some shares.0 = sym here.at ∙ (ap (λ z. table z s.top.place) func ∙ (ap (table n) place ∙ shares.1)) in
            let same : here.σ ≡ shares.0 = cc in
            here.meets.owned cell ∙ total-same here.σ.owns (owned f c.tables b i) s.top.vars cell (λ x. ap (λ (z : Shares). z.owns x) same ∙ shares.2 x),
      )

  pub all_own : EachCounted (GroupsOwn q) 0 p.funcs q.funcs counted.funcs
  all_own =
      each_map p.funcs q.funcs counted.funcs 0 (GroupsHaveShares q table) (GroupsOwn q) owns_at all_shares

  -- ---- frames that wait
  waits_at : (ret : Kind) (into : Option ℕ) (fs : List Frame) → Waits (lower q) (Entered table) ret into fs → (j : ℕ) (frame : Frame) → slice_get fs j ≡ Some frame → (k : Kind) × (x : Option ℕ) × IsWaiting (lower q) (Entered table) k x frame (drop (suc j) fs)
  waits_at ret into [] w j frame e = let f : None ≡ Some frame = e in absurd (cc)
  waits_at ret into (f ∷ fs) w zero frame e =
      let g : Some f ≡ Some frame = e in
      let same : f ≡ frame = cc in
      (ret, into, subst (λ z. IsWaiting (lower q) (Entered table) ret into z fs) same w.0)
  waits_at ret into (f ∷ fs) w (suc j) frame e = waits_at w.0.g.ret f.into fs w.1 j frame e

  callers_at : (n : ℕ) (f g : Func) (there : slice_get p.funcs n ≡ Some f) (here : slice_get q.funcs n ≡ Some g) (c : IsCountedFunc f g) → GroupsHaveShares q table n f g c → CallersOwn q n f g c
  callers_at n f g there here c have b k is met =
      let h = have b k is met in (
        h.0,
        λ i o at call. (
          call_line q f g c b k is h.0 i o at call,
          λ turns items steps s r j frame found func place cell.
              let low : i ≤ length h.0.front = omega (arith, slice_get_within h.0.front i o at) in
              let shares = h.1 i low in
              let state = met_at turns items steps s r in
              let waits = (waits_at state.g.ret s.top.into s.below state.waits j frame found).2 in
              let same_place : waits.call ≡ group_place h.0 i = omega (arith, waits.place, place) in
              let both : Some waits.σ ≡ Some shares.0 = sym waits.at ∙ (ap (λ z. table z waits.call) func ∙ (ap (table n) same_place ∙ shares.1)) in
              let same : waits.σ ≡ shares.0 = cc in
              waits.meets.owned cell ∙ total-same waits.σ.owns (owned f c.tables b i) frame.vars cell (λ x. ap (λ (z : Shares). z.owns x) same ∙ shares.2 x),
        ),
      )

  pub all_callers : EachCounted (CallersOwn q) 0 p.funcs q.funcs counted.funcs
  all_callers =
      each_from p.funcs q.funcs counted.funcs 0 (CallersOwn q) (λ i f g there here c e. let z : i ≡ 0 + i = omega arith in subst (λ n. CallersOwn q n f g c) z (callers_at i f g there here c (shares_at i f g there here c e)))

  -- ---- registers that are only lent
  lent_at : (n : ℕ) (f g : Func) (c : IsCountedFunc f g) → GroupsHaveShares q table n f g c → LentAre q n f g c
  lent_at n f g c have b k is met =
      let h = have b k is met in (
        h.0,
        λ i le turns items steps s r.
            let shares = h.1 i le in
            let state = met_at turns items steps s r in
            let there : (a place : ℕ) (σ : Shares) → Entered table a place σ → a ≡ n → place ≡ group_place h.0 i → σ ≡ shares.0 = λ a place σ at func here. let both : Some σ ≡ Some shares.0 = sym at ∙ (ap (λ z. table z place) func ∙ (ap (table n) here ∙ shares.1)) in cc in (
              λ func place x w lt lent word cell.
                  let same : state.σ ≡ shares.0 = there s.top.func s.top.place state.σ state.at func place in
                  state.meets.lent x w (ap (λ (z : Shares). z.lent x) same ∙ (shares.3 x lt ∙ lent)) word cell,
              λ j frame found func place x w lt lent word cell.
                  let waits = (waits_at state.g.ret s.top.into s.below state.waits j frame found).2 in
                  let same_place : waits.call ≡ group_place h.0 i = omega (arith, waits.place, place) in
                  let same : waits.σ ≡ shares.0 = there frame.func waits.call waits.σ waits.at func same_place in
                  waits.meets.lent x w (ap (λ (z : Shares). z.lent x) same ∙ (shares.3 x lt ∙ lent)) word cell,
            ),
      )

  pub all_lent : EachCounted (LentAre q) 0 p.funcs q.funcs counted.funcs
  all_lent =
      each_map p.funcs q.funcs counted.funcs 0 (GroupsHaveShares q table) (LentAre q) lent_at all_shares

  -- ---- blocks to which no path leads
  never_at : (n : ℕ) (f g : Func) (there : slice_get p.funcs n ≡ Some f) (here : slice_get q.funcs n ≡ Some g) (c : IsCountedFunc f g) → pair_at p.funcs q.funcs counted.funcs n ≡ inl (f, g, there, here, c) → NeverEntered q n f g c
  never_at n f g there here c e b k is unmet =
      let off : (marks f).marked b ≡ false = unmarked f b unmet in
      let first = unmet_start p q shape counted n f g there c b k is off in
      let place : ℕ = place_of q 0 g.blocks (c.number b) in (
        place,
        labelled_at q g.blocks (c.number b) first.0 first.1,
        λ turns items steps s r func at.
            let state = met_at turns items steps s r in
            let none : table n place ≡ None = ap (λ o. at_place (shares_by n o) place) e ∙ first.2 in
            let both : Some state.σ ≡ None = sym state.at ∙ (ap (λ z. table z s.top.place) func ∙ (ap (table n) at ∙ none)) in
            absurd (cc),
      )

  pub all_never : EachCounted (NeverEntered q) 0 p.funcs q.funcs counted.funcs
  all_never =
      each_from p.funcs q.funcs counted.funcs 0 (NeverEntered q) (λ i f g there here c e. let z : i ≡ 0 + i = omega arith in subst (λ n. NeverEntered q n f g c) z (never_at i f g there here c e))

pub counted_is_in_order : CountedIsInOrder
counted_is_in_order p q shape counted =
    (labels_of (lower q) (table p q shape counted), placed_in_order (lower q) (table p q shape counted) (all_placed p q shape counted))

pub counted_is_placed : CountedIsPlaced
counted_is_placed p q shape counted =
    (table p q shape counted, all_placed p q shape counted, all_shares p q shape counted)

pub ledgers_are_owned : LedgersAreOwned
ledgers_are_owned p q shape counted = all_own p q shape counted

pub callers_are_owned : CallersAreOwned
callers_are_owned p q shape counted = all_callers p q shape counted

pub lent_are_held : LentAreHeld
lent_are_held p q shape counted = all_lent p q shape counted

pub unmet_are_never_entered : UnmetAreNeverEntered
unmet_are_never_entered p q shape counted = all_never p q shape counted
