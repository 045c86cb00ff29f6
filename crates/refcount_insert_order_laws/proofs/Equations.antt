-- What tables say of a place that is met and of the next one: an operation suits the shares of both.
use Rattle.std.proofs.Common.{◌≡◌, refl, sym, ap, ◌∙◌, subst, ℕ, suc, ◌≤◌, ◌<◌, inl, inr, ⊎_elim, Bool, true, false, cond, List, [], ◌∷◌, map, length, arith, Option, Some, None}
use Rattle.std.specs.Prelude.{slice_get, nat_eq, nat_lt, ◌&&◌, ◌||◌, not}
use Rattle.std.specs.Option.{option_map, option_map_or}
use Rattle.std.proofs.lemmas.Option.{same_Some, slice_get_within}
use Rattle.std.proofs.lemmas.Bool.{lt-ltb, ltb-true}
use Rattle.c_core.specs.WellFormed.{is_declared}
use Rattle.c_core.proofs.Lines.{and_true}
use Rattle.ir_core.specs.declared.code.RType.{RType}
use Rattle.ir_core.specs.declared.code.Reg.{Reg}
use Rattle.ir_core.specs.declared.code.Op.{Op}
use Rattle.ir_core.specs.declared.code.Op.TheVariants.{Turn}
use Rattle.ir_core.specs.declared.code.Last.{Last}
use Rattle.ir_core.specs.declared.code.Last.TheVariants.{Return}
use Rattle.ir_core.specs.declared.code.Block.{Block}
use Rattle.ir_core.specs.declared.code.Func.{Func}
use Rattle.ir_core.specs.Bare.{IsBare}
use Rattle.ir_core.specs.Items.{Item, Do, End, in_block, item_of, item_in}
use Rattle.ir_core.specs.Rows.{Declared}
use Rattle.ir_core.specs.Lower.{variable_of}
use Rattle.ir_core.specs.Shape.{op_fits}
use Rattle.ir_core.proofs.ItemLemmas.{next_item}
use Rattle.c_core_ownership_laws.specs.Shares.{one_if, Shares, may_refer, IsUsable}
use Rattle.liveness.specs.Paths.{is_among, reads_of, reads_of_last, write_of, is_target, is_lent, targets, Goes, passes, fails, jumps, LiveAt, reads_here, goes_on, MetAt, entry, onward, OwnedAt, no_parameter, written, kept, BorrowedAt}
use Rattle.liveness.specs.Paths as path
use Rattle.liveness.proofs.OwningLemmas.{fits_owning}
use Rattle.refcount_insert_rule.specs.Rule.{is_counted}
use Rattle.refcount_insert_rule.specs.Counted.{counts_register, Tables, owned}
use Rattle.refcount_insert_order_laws.proofs.Numbers.{either}
use Rattle.refcount_insert_order_laws.proofs.Variables.{agrees}
use Rattle.refcount_insert_order_laws.proofs.Groups.{Suits}

both_bools : (a b : Bool) → (a ≡ true → b ≡ true) → (b ≡ true → a ≡ true) → a ≡ b
both_bools true b h g = sym (h refl)
both_bools false true h g = g refl
both_bools false false h g = refl

-- a counted register is there
abbrev by_counted : Option (List ℕ × RType) → Bool
by_counted o = option_map_or is_counted (option_map (λ (x : List ℕ × RType). x.1) o) false

some_counted : (o : Option (List ℕ × RType)) → by_counted o ≡ true → (d : List ℕ × RType) × (o ≡ Some d)
some_counted None e = absurd (cc)
some_counted (Some d) e = (d, refl)

pub counted_there : (regs : Declared) (r : ℕ) → counts_register regs r ≡ true → r < length regs
counted_there regs r e =
    let d = some_counted (slice_get regs r) e in slice_get_within regs r d.0 d.1

as_many : (regs : Declared) → length (map variable_of regs) ≡ length regs
as_many [] = refl
as_many (x ∷ regs) = ap suc (as_many regs)

-- it may refer, as its variable is declared
pub counted_same : (regs : Declared) (r : ℕ) → counts_register regs r ≡ true → may_refer (map variable_of regs) r ≡ counts_register regs r
counted_same regs r e =
    agrees regs r (ap (nat_lt r) (as_many regs) ∙ lt-ltb r (length regs) (counted_there regs r e))

-- one reference, in parts
module _ (c l b : Bool) where
  pub one_most : one_if (c && (l && not b)) ≤ 1
  one_most = by (c && (l && not b))
    where
      by : (x : Bool) → one_if x ≤ 1
      by true = omega arith
      by false = omega arith

pub one_off : (c x : Bool) → c ≡ false → one_if (c && x) ≡ 0
one_off true x e = absurd (cc)
one_off false x e = refl

pub one_dead : (c l b : Bool) → l ≡ false → one_if (c && (l && not b)) ≡ 0
one_dead true true b e = absurd (cc)
one_dead true false b e = refl
one_dead false l b e = refl

pub one_here : (c l b : Bool) → c ≡ true → l ≡ true → b ≡ false → one_if (c && (l && not b)) ≡ 1
one_here true true false ec el eb = refl
one_here true true true ec el eb = absurd (cc)
one_here true false b ec el eb = absurd (cc)
one_here false l b ec el eb = absurd (cc)

pub one_tells : (c l b : Bool) → 1 ≤ one_if (c && (l && not b)) → (c ≡ true) × (l ≡ true) × (b ≡ false)
one_tells true true false le = (refl, refl, refl)
one_tells true true true le = absurd (omega (arith, le))
one_tells true false b le = absurd (omega (arith, le))
one_tells false l b le = absurd (omega (arith, le))

pub one_none : (c l b : Bool) → b ≡ true → one_if (c && (l && not b)) ≡ 0
one_none true true true e = refl
one_none true true false e = absurd (cc)
one_none true false b e = refl
one_none false l b e = refl

-- ---- items
pub item_next : (b : Option Block) (p : ℕ) (o : Op) {line : ℕ} → item_of b p ≡ Some (Do o line) → (i : Item) × (item_of b (suc p) ≡ Some i)
item_next None p o {line} e = let f : None ≡ Some (Do o line) = e in absurd (cc)
item_next (Some k) p o e = next_item k.ops k.last p o e

module _ (f : Func) where
  same_item : (b p : ℕ) (i j : Item) → item_in f.blocks b p ≡ Some i → item_in f.blocks b p ≡ Some j → i ≡ j
  same_item b p i j e h = same_Some i j (sym e ∙ h)

  -- what is written and not read is not read again
  dead_before : (r b p : ℕ) (o : Op) {line : ℕ} → item_in f.blocks b p ≡ Some (Do o line) → is_target (write_of o) r ≡ true → is_among (reads_of o) r ≡ false → LiveAt f r b p → ⊥
  dead_before r b p o {line} e w u (reads_here x y i is at) =
      let same : i ≡ Do o line = same_item b p i (Do o line) is e in
      let both : true ≡ false = sym at ∙ (ap (λ z. path.reads z r) same ∙ u) in
      absurd (cc)
  dead_before r b p o {line} e w u (goes_on x y c q i is off go on) =
      let same : i ≡ Do o line = same_item b p i (Do o line) is e in
      let both : true ≡ false = sym w ∙ (ap (λ z. path.writes z r) (sym same) ∙ off) in
      absurd (cc)

  -- what is written last before the next place
  pub owned_from : (r b p c q : ℕ) (o : Op) {line : ℕ} → item_in f.blocks b p ≡ Some (Do o line) → is_target (write_of o) r ≡ false → OwnedAt f r c q → c ≡ b → q ≡ suc p → OwnedAt f r b p
  owned_from r b p c q o e w (no_parameter le) ec eq = absurd (omega (arith, eq))
  owned_from r b p c q o {line} e w (written x y c2 q2 i met is at lent go) ec eq = absurd (past x y c q i go is at ec eq)
    where
      past : (x y c q : ℕ) (i : Item) → Goes f x y c q → item_in f.blocks x y ≡ Some i → path.writes i r ≡ true → c ≡ b → q ≡ suc p → ⊥
      past x y c q i (passes b2 p2 o2 e2) is at ec eq =
          let place : y ≡ p = omega (arith, eq) in
          let here : item_in f.blocks b p ≡ Some i = ap (λ z. item_in f.blocks z p) (sym ec) ∙ (ap (item_in f.blocks x) (sym place) ∙ is) in
          let same : i ≡ Do o line = same_item b p i (Do o line) here e in
          let both : true ≡ false = sym at ∙ (ap (λ z. path.writes z r) same ∙ w) in
          absurd (cc)
      past x y c q i (fails b2 p2 h o2 e2 caught there) is at ec eq = omega (arith, eq)
      past x y c q i (jumps b2 p2 j t l e2 there) is at ec eq = omega (arith, eq)
  owned_from r b p c q o e w (kept x y c2 q2 i own is off go) ec eq = back x y c q own go ec eq
    where
      back : (x y c q : ℕ) → OwnedAt f r x y → Goes f x y c q → c ≡ b → q ≡ suc p → OwnedAt f r b p
      back x y c q own (passes b2 p2 o2 e2) ec eq =
          let place : y ≡ p = omega (arith, eq) in
          subst (λ z. OwnedAt f r z p) ec (subst (OwnedAt f r x) place own)
      back x y c q own (fails b2 p2 h o2 e2 caught there) ec eq = absurd (omega (arith, eq))
      back x y c q own (jumps b2 p2 j t l e2 there) ec eq = absurd (omega (arith, eq))

  -- what a turn leaves is read again behind it
  live_back : IsBare f → (r b p : ℕ) {line : ℕ} → item_in f.blocks b p ≡ Some (Do Turn line) → LiveAt f r b p → LiveAt f r b (suc p)
  live_back calm r b p {line} e (reads_here x y i is at) =
      let same : i ≡ Do Turn line = same_item b p i (Do Turn line) is e in
      let both : true ≡ false = sym at ∙ ap (λ z. path.reads z r) same in
      absurd (cc)
  live_back calm r b p e (goes_on x y c q i is off (passes b2 p2 o2 e2) on) = on
  live_back calm r b p e (goes_on x y c q i is off (fails b2 p2 h o2 e2 caught there) on) =
      absurd (calm b h there)
  live_back calm r b p {line} e (goes_on x y c q i is off (jumps b2 p2 j t l e2 there) on) =
      let both : End l ≡ Do Turn line = same_item b p (End l) (Do Turn line) e2 e in absurd (cc)

  -- a return reads what it returns, and nothing is read behind it
  live_returned : IsBare f → (r b p : ℕ) (x : Reg) → item_in f.blocks b p ≡ Some (End (Return x)) → LiveAt f r b p → nat_eq x.0 r ≡ true
  live_returned calm r b p x e (reads_here b2 p2 i is at) =
      let same : i ≡ End (Return x) = same_item b p i (End (Return x)) is e in
      left (nat_eq x.0 r) (ap (λ z. path.reads z r) (sym same) ∙ at)
    where
      left : (c : Bool) → (c || false) ≡ true → c ≡ true
      left true f = refl
      left false f = absurd (cc)
  live_returned calm r b p x e (goes_on b2 p2 c q i is off (passes b3 p3 o2 {line} e2) on) =
      let both : Do o2 line ≡ End (Return x) = same_item b p (Do o2 line) (End (Return x)) e2 e in absurd (cc)
  live_returned calm r b p x e (goes_on b2 p2 c q i is off (fails b3 p3 h o2 e2 caught there) on) =
      absurd (calm b h there)
  live_returned calm r b p x e (goes_on b2 p2 c q i is off (jumps b3 p3 j t l e2 there) on) =
      let same : l ≡ Return x = same_end (same_item b p (End l) (End (Return x)) e2 e) in
      let none : None ≡ Some t = ap (λ z. slice_get (targets z) j) (sym same) ∙ there in
      absurd (cc)
    where
      same_end : {l m : Last} → End l ≡ End m → l ≡ m
      same_end h = cc

  -- ---- with tables
  module _ (t : Tables f) where
    abbrev pub counted : ℕ → Bool
    counted = counts_register f.regs

    abbrev pub lent_at : ℕ → ℕ → ℕ → Bool
    lent_at b p r = nat_lt r (length f.regs) && t.lent b p r

    -- the shares of a place
    abbrev pub at : ℕ → ℕ → Shares
    at b p = record { owns = owned f t b p; lent = lent_at b p; held = λ r. false; empty = λ r. false }

    lent_is : (b p r : ℕ) → r < length f.regs → lent_at b p r ≡ t.lent b p r
    lent_is b p r lt = ap (λ c. c && t.lent b p r) (lt-ltb r (length f.regs) lt)

    lent_tells : (b p r : ℕ) → lent_at b p r ≡ true → (r < length f.regs) × (t.lent b p r ≡ true)
    lent_tells b p r e =
        let both = and_true (nat_lt r (length f.regs)) (t.lent b p r) e in
        (ltb-true r (length f.regs) both.0, both.1)

    -- a register that is read again is usable
    live_usable : (b p r : ℕ) → (may_refer (map variable_of f.regs) r ≡ counted r) → (counted r ≡ true → t.live b p r ≡ true) → IsUsable (map variable_of f.regs) (at b p) r
    live_usable b p r same live = by (counted r) refl (t.lent b p r) refl
      where
        by : (c : Bool) → counted r ≡ c → (l : Bool) → t.lent b p r ≡ l → IsUsable (map variable_of f.regs) (at b p) r
        by false off l el = inr (inr (inl (same ∙ off)))
        by true is true el = inr (inl (lent_is b p r (counted_there f.regs r is) ∙ el))
        by true is false el = inl (omega (arith, one_here (counted r) (t.live b p r) (t.lent b p r) is (live is) el))

    pub few_owned : (b p r : ℕ) → owned f t b p r ≤ 1
    few_owned b p r = one_most (counted r) (t.live b p r) (t.lent b p r)

    pub off_owned : (b p r : ℕ) → counted r ≡ false → owned f t b p r ≡ 0
    off_owned b p r off = one_off (counted r) (t.live b p r && not (t.lent b p r)) off

    -- ---- an operation at a place that is met
    module _ (b p : ℕ) (o : Op) {line : ℕ} (is : item_in f.blocks b p ≡ Some (Do o line)) (met : MetAt f b p) where
      behind : (i : Item) × (item_in f.blocks b (suc p) ≡ Some i)
      behind = item_next (slice_get f.blocks b) p o is

      live_read : (r : ℕ) → r < length f.regs → is_among (reads_of o) r ≡ true → t.live b p r ≡ true
      live_read r lt e = (t.is_live b p r (Do o line) is lt).1 (reads_here b p (Do o line) is e)

      live_on : (r : ℕ) → r < length f.regs → is_target (write_of o) r ≡ false → t.live b (suc p) r ≡ true → t.live b p r ≡ true
      live_on r lt off e =
          (t.is_live b p r (Do o line) is lt).1 (goes_on b p b (suc p) (Do o line) is off (passes b p o is) ((t.is_live b (suc p) r behind.0 behind.1 lt).0 e))

      lent_on : (r : ℕ) → r < length f.regs → is_target (write_of o) r ≡ false → t.lent b (suc p) r ≡ t.lent b p r
      lent_on r lt off =
          both_bools (t.lent b (suc p) r) (t.lent b p r)
          (λ e. (t.is_lent b p r (Do o line) is lt).1 (λ own. (t.is_lent b (suc p) r behind.0 behind.1 lt).0 e (kept b p b (suc p) (Do o line) own is off (passes b p o is))))
          (λ e. (t.is_lent b (suc p) r behind.0 behind.1 lt).1 (λ own. (t.is_lent b p r (Do o line) is lt).0 e (owned_from r b p b (suc p) o is off own refl refl)))

      lent_off : op_fits o ≡ true → (r : ℕ) → r < length f.regs → is_target (write_of o) r ≡ true → t.lent b (suc p) r ≡ false
      lent_off fits r lt hit = by (t.lent b (suc p) r) refl
        where
          by : (l : Bool) → t.lent b (suc p) r ≡ l → l ≡ false
          by true e = absurd ((t.is_lent b (suc p) r behind.0 behind.1 lt).0 e (written b p b (suc p) (Do o line) met is hit (fits_owning o fits) (passes b p o is)))
          by false e = refl

      pub suits : op_fits o ≡ true → ((r : ℕ) → is_among (reads_of o) r ≡ true → is_declared (map variable_of f.regs) r ≡ true) → ((r : ℕ) → is_declared (map variable_of f.regs) r ≡ true → may_refer (map variable_of f.regs) r ≡ counted r) → Suits (map variable_of f.regs) counted o (at b p) (at b (suc p))
      suits fits there agree =
          record {
            few = few_owned b p;
            few_after = few_owned b (suc p);
            off = off_owned b p;
            off_after = off_owned b (suc p);
            read = λ r e. live_usable b p r (agree r (there r e)) (λ c. live_read r (counted_there f.regs r c) e);
            kept = stays;
            clear = dead;
            lent = λ r. lent_next r (is_target (write_of o) r) refl (nat_lt r (length f.regs)) refl;
            none_held = λ r. refl;
            none_held_after = λ r. refl;
            none_empty = λ r. refl;
            none_empty_after = λ r. refl;
          }
        where
          stays : (r : ℕ) → is_target (write_of o) r ≡ false → 1 ≤ owned f t b (suc p) r → IsUsable (map variable_of f.regs) (at b p) r
          stays r off le =
              let tells = one_tells (counted r) (t.live b (suc p) r) (t.lent b (suc p) r) le in
              let lt = counted_there f.regs r tells.0 in
              inl (omega (arith, one_here (counted r) (t.live b p r) (t.lent b p r) tells.0 (live_on r lt off tells.1) (sym (lent_on r lt off) ∙ tells.2)))

          dead : (r : ℕ) → is_target (write_of o) r ≡ true → is_among (reads_of o) r ≡ false → owned f t b p r ≡ 0
          dead r hit unread = ⊎_elim
              (λ c. one_dead (counted r) (t.live b p r) (t.lent b p r) (⊎_elim (λ l. absurd (dead_before r b p o is hit unread ((t.is_live b p r (Do o line) is (counted_there f.regs r c)).0 l))) (λ l. l) (either (t.live b p r))))
              (λ off. off_owned b p r off)
              (either (counted r))

          lent_next : (r : ℕ) (w : Bool) → is_target (write_of o) r ≡ w → (lt : Bool) → nat_lt r (length f.regs) ≡ lt → (nat_lt r (length f.regs) && t.lent b (suc p) r) ≡ cond w false (nat_lt r (length f.regs) && t.lent b p r)
          lent_next r true hit true lt = ap (λ z. z && t.lent b (suc p) r) lt ∙ lent_off fits r (ltb-true r (length f.regs) lt) hit
          lent_next r true hit false lt = ap (λ z. z && t.lent b (suc p) r) lt
          lent_next r false off true lt = ap (λ z. z && t.lent b (suc p) r) lt ∙ (lent_on r (ltb-true r (length f.regs) lt) off ∙ ap (λ z. z && t.lent b p r) (sym lt))
          lent_next r false off false lt = ap (λ z. z && t.lent b (suc p) r) lt ∙ ap (λ z. z && t.lent b p r) (sym lt)

    -- a turn changes nothing
    pub turn_same : (b p : ℕ) {line : ℕ} → item_in f.blocks b p ≡ Some (Do Turn line) → MetAt f b p → at b (suc p) ≡ at b p
    turn_same b p {line} is met =
        let lived : (r : ℕ) → r < length f.regs → t.live b (suc p) r ≡ t.live b p r = λ r lt.
        both_bools (t.live b (suc p) r) (t.live b p r) (live_on b p Turn is met r lt refl)
        (λ e. (t.is_live b (suc p) r (behind b p Turn is met).0 (behind b p Turn is met).1 lt).1 (live_back t.calm r b p is ((t.is_live b p r (Do Turn line) is lt).0 e))) in
        let own : (r : ℕ) → owned f t b (suc p) r ≡ owned f t b p r = λ r. ⊎_elim
        (λ c. ap (λ z. one_if (counted r && (z && not (t.lent b (suc p) r)))) (lived r (counted_there f.regs r c)) ∙ ap (λ z. one_if (counted r && (t.live b p r && not z))) (lent_on b p Turn is met r (counted_there f.regs r c) refl))
        (λ off. off_owned b (suc p) r off ∙ sym (off_owned b p r off))
        (either (counted r)) in
        let lend : (r : ℕ) → lent_at b (suc p) r ≡ lent_at b p r = λ r. lends_on r (nat_lt r (length f.regs)) refl in
        λ i. record { owns = λ r. own r i; lent = λ r. lend r i; held = λ r. false; empty = λ r. false }
      where
        lends_on : (r : ℕ) (c : Bool) → nat_lt r (length f.regs) ≡ c → lent_at b (suc p) r ≡ lent_at b p r
        lends_on r true lt = ap (λ z. nat_lt r (length f.regs) && z) (lent_on b p Turn is met r (ltb-true r (length f.regs) lt) refl)
        lends_on r false lt = ap (λ z. z && t.lent b (suc p) r) lt ∙ ap (λ z. z && t.lent b p r) (sym lt)

    -- at a return only what is returned is owned
    pub dead_returned : (b p r : ℕ) (x : Reg) → item_in f.blocks b p ≡ Some (End (Return x)) → nat_eq x.0 r ≡ false → owned f t b p r ≡ 0
    dead_returned b p r x is ne = ⊎_elim
        (λ c. one_dead (counted r) (t.live b p r) (t.lent b p r) (⊎_elim (λ l. let both : true ≡ false = sym (live_returned t.calm r b p x is ((t.is_live b p r (End (Return x)) is (counted_there f.regs r c)).0 l)) ∙ ne in absurd (cc)) (λ l. l) (either (t.live b p r))))
        (λ off. off_owned b p r off)
        (either (counted r))

    -- at the entry no parameter is owned, where no jump goes back there
    pub not_owned_first : (r : ℕ) → r < f.params → (k : Block) → slice_get f.blocks 0 ≡ Some k → ((b p : ℕ) → Goes f b p 0 0 → ⊥) → owned f t 0 0 r ≡ 0
    not_owned_first r lt k is never = ⊎_elim
        (λ c. let i = first_item k.ops k.last in one_none (counted r) (t.live 0 0 r) (t.lent 0 0 r) ((t.is_lent 0 0 r i.0 (ap (λ z. item_of z 0) is ∙ i.1) (counted_there f.regs r c)).1 (λ own. never_owned 0 0 own refl refl)))
        (λ off. off_owned 0 0 r off)
        (either (counted r))
      where
        first_item : (ops : List (Op × ℕ)) (last : Last) → (i : Item) × (in_block ops last 0 ≡ Some i)
        first_item [] last = (End last, refl)
        first_item (o ∷ ops) last = (Do o.0 o.1, refl)

        never_owned : (b p : ℕ) → OwnedAt f r b p → b ≡ 0 → p ≡ 0 → ⊥
        never_owned b p (no_parameter le) eb ep = omega (arith, lt, le)
        never_owned b p (written c x d y i met is at lent go) eb ep = never c x (subst (λ z. Goes f c x z 0) eb (subst (Goes f c x d) ep go))
        never_owned b p (kept c x d y i own is off go) eb ep = never c x (subst (λ z. Goes f c x z 0) eb (subst (Goes f c x d) ep go))

    -- ---- an end that is met
    module _ (b p : ℕ) (l : Last) (is : item_in f.blocks b p ≡ Some (End l)) (met : MetAt f b p) where
      pub end_usable : (r : ℕ) → is_among (reads_of_last l) r ≡ true → may_refer (map variable_of f.regs) r ≡ counted r → IsUsable (map variable_of f.regs) (at b p) r
      end_usable r e same =
          live_usable b p r same (λ c. (t.is_live b p r (End l) is (counted_there f.regs r c)).1 (reads_here b p (End l) is e))

      -- an edge to a block that is there
      module _ (i to : ℕ) (goes : slice_get (targets l) i ≡ Some to) (j : Item) (there : item_in f.blocks to 0 ≡ Some j) where
        pub met_on : MetAt f to 0
        met_on = onward b p to 0 met (jumps b p i to l is goes)

        pub edge_usable : (r : ℕ) → 1 ≤ owned f t to 0 r → IsUsable (map variable_of f.regs) (at b p) r
        edge_usable r le =
            let tells = one_tells (counted r) (t.live to 0 r) (t.lent to 0 r) le in
            let lt = counted_there f.regs r tells.0 in
            live_usable b p r (counted_same f.regs r tells.0) (λ c. (t.is_live b p r (End l) is lt).1 (goes_on b p to 0 (End l) is refl (jumps b p i to l is goes) ((t.is_live to 0 r j there lt).0 tells.1)))

        pub edge_lent : (r : ℕ) → lent_at to 0 r ≡ true → lent_at b p r ≡ true
        edge_lent r e =
            let tells = lent_tells to 0 r e in
            lent_is b p r tells.0 ∙ (t.is_lent b p r (End l) is tells.0).1 (λ own. (t.is_lent to 0 r j there tells.0).0 tells.1 (kept b p to 0 (End l) own is refl (jumps b p i to l is goes)))
