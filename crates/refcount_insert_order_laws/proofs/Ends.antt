-- The end of a block with its counts is in order, and so are the detours to a block.
use Rattle.std.proofs.Common.{◌≡◌, refl, sym, ap, ◌∙◌, subst, ℕ, zero, suc, ◌+◌, ◌-◌, ◌≤◌, ◌<◌, inl, inr, ⊎_elim, Bool, true, false, cond, List, None, [], ◌∷◌, ◌++◌, map, length, arith, append_assoc, Option, Some, eqb-true}
use Rattle.std.specs.Prelude.{slice_get, nat_eq, nat_lt, ◌||◌}
use Rattle.std.proofs.lemmas.Bool.{lt-ltb, ltb-true, or_cases}
use Rattle.c_core.specs.declared.code.Line.{Line}
use Rattle.c_core.specs.declared.code.Line.TheVariants as line
use Rattle.c_core.specs.declared.code.CFunc.{CFunc}
use Rattle.c_core.specs.declared.code.Code.{Code}
use Rattle.c_core.specs.Cells.{same, times}
use Rattle.c_core.specs.WellFormed.{kind_at, has_kind, is_declared}
use Rattle.ir_core.specs.declared.code.Reg.{Reg}
use Rattle.ir_core.specs.declared.code.Op.{Op}
use Rattle.ir_core.specs.declared.code.Op.TheVariants.{Turn}
use Rattle.ir_core.specs.declared.code.Last.{Last}
use Rattle.ir_core.specs.declared.code.Last.TheVariants.{Goto, If, IfError, Return, Unreachable}
use Rattle.ir_core.specs.declared.code.Block.{Block}
use Rattle.ir_core.specs.declared.code.Func.{Func}
use Rattle.ir_core.specs.declared.code.Program.{Program}
use Rattle.ir_core.specs.Items.{Item, Do, End, in_block, item_of, item_in}
use Rattle.ir_core.specs.Lower.{kind_of_type, variable_of, line_of, op_lines, label_of, end_lines}
use Rattle.ir_core.specs.Shape.{LastFits}
use Rattle.ir_core.proofs.ItemLemmas.{end_item}
use Rattle.c_core_ownership_laws.specs.Shares.{put, Shares, with_share, has_cells, may_have_cells, may_refer, one_if, IsUsable, Jumps, Checks}
use Rattle.c_core_ownership_laws.proofs.Weaken.{within_self}
use Rattle.liveness.specs.Paths.{targets, MetAt}
use Rattle.liveness.proofs.OwnedLemmas.{below_or_not}
use Rattle.refcount_insert_rule.specs.Rule.{IsEdge, IsReturned}
use Rattle.refcount_insert_rule.specs.Counted.{counts_register, Tables, owned, AreLast, IsDetour, IsEdgeTo, IsLast}
use Rattle.refcount_insert_order_laws.proofs.Numbers.{put_is, put_off, same_is, or_left, or_right, is_short, same_found}
use Rattle.refcount_insert_order_laws.proofs.Counts.{lines_append, ups_check, edge_check}
use Rattle.refcount_insert_order_laws.proofs.Variables.{agrees, has_kind_is}
use Rattle.refcount_insert_order_laws.proofs.Equations.{one_tells, at, lent_at, end_usable, edge_usable, edge_lent, dead_returned, counted_same, few_owned, off_owned}
use Rattle.refcount_insert_order_laws.proofs.MetBlocks.{in_met, Marks}
use Rattle.refcount_insert_order_laws.proofs.Bodies.{text_of}

-- a label is entered with the shares with which its block starts
abbrev pub Starts : (ℕ → Option Shares) → ℕ → Shares → Type 0
Starts start n σ = start (suc n) ≡ Some σ

pub enter : (start : ℕ → Option Shares) (m : ℕ) (σ : Shares) → 1 ≤ m → start m ≡ Some σ → Starts start (label_of m) σ
enter start m σ le e = let z : suc (m - 1) ≡ m = omega (arith, le) in ap start z ∙ e

-- what the C text asks of the end of a block
abbrev pub IsLastFit : Func → Last → Type 0
IsLastFit f (Return x) =
    (is_declared (map variable_of f.regs) x.0 ≡ true) × (has_kind (kind_of_type f.ret) (kind_at (map variable_of f.regs) x.0) ≡ true)
IsLastFit f _ = Unit {0}

block_there : (bs : List Block) (j : ℕ) → j < length bs → (x : Block) × (slice_get bs j ≡ Some x)
block_there [] j lt = absurd (omega (arith, lt))
block_there (x ∷ bs) zero lt = (x, refl)
block_there (x ∷ bs) (suc j) lt = block_there bs j (omega (arith, lt))

item_first : (ops : List (Op × ℕ)) (last : Last) → (j : Item) × (in_block ops last 0 ≡ Some j)
item_first [] last = (End last, refl)
item_first (o ∷ os) last = (Do o.0 o.1, refl)

-- the shares of a test's error edge: the register that is tested has no cell
abbrev pub failed_at : (f : Func) → Tables f → ℕ → ℕ → Reg → ℕ → Shares
failed_at f t b n x a = with_share x.0 (owned f t a 0 x.0) true (at f t b n)

-- no shares
abbrev pub Never : Shares → Type 0
Never ρ = ⊥

-- what is owned at a return
returned_number : (c e : Bool) (h u : ℕ) → u ≡ cond c (cond e 1 0 - h) 0 → (e ≡ false → h ≡ 0) → h ≤ 1 → (c ≡ false → h ≡ 0) → h + u ≡ cond c (cond e 1 0) 0
returned_number true true h u eu dead few off = omega (arith, eu, few)
returned_number true false h u eu dead few off = omega (arith, eu, dead refl)
returned_number false e h u eu dead few off = omega (arith, eu, off refl)

-- the shares with which a detour to block b starts: what is lent is lent at that block, or short there
abbrev pub way : (f : Func) → Tables f → (ℕ → ℕ → ℕ) → ℕ → ℕ → Shares
way f t at_start b n = record {
  owns = at_start n;
  lent = λ r. lent_at f t b 0 r || nat_lt (at_start n r) (owned f t b 0 r);
  held = λ r. false;
  empty = λ r. false;
}

-- the shares with which blocks that are met start, and the detours to them
pub record AreStarts (f : Func) (t : Tables f) (number first : ℕ → ℕ) (at_start : ℕ → ℕ → ℕ) (start : ℕ → Option Shares) (m : Marks f) : Type 0 where
  pub block : (b : ℕ) (k : Block) → slice_get f.blocks b ≡ Some k → m.marked b ≡ true → 0 < b → (1 ≤ number b) × (start (number b) ≡ Some (at f t b 0))
  pub detour : (b : ℕ) (k : Block) → slice_get f.blocks b ≡ Some k → m.marked b ≡ true → 0 < b → (n : ℕ) → first b ≤ n → n < number b → (1 ≤ n) × (start n ≡ Some (way f t at_start b n))
  pub wants : (b : ℕ) (k : Block) → slice_get f.blocks b ≡ Some k → (r : ℕ) → at_start (number b) r ≡ owned f t b 0 r

module _ (p q : Program) (f : Func) (t : Tables f) (number first : ℕ → ℕ) (at_start : ℕ → ℕ → ℕ) (code : Code) (name : List ℕ) (lines : List Line) (start : ℕ → Option Shares) (m : Marks f) (known : AreStarts f t number first at_start start m) where
  abbrev g : CFunc
  g = text_of f name lines

  abbrev Good : Shares → List Line → Type 0
  Good = Checks code g (Starts start) Never

  abbrev counted : ℕ → Bool
  counted = counts_register f.regs

  -- ---- a jump to a block that is met, or to a detour to it
  module _ (b : ℕ) (k : Block) (is : slice_get f.blocks b ≡ Some k) (marked : m.marked b ≡ true) (higher : 0 < b) where
    onto : (σ : Shares) (into : ℕ) → first b ≤ into → into ≤ number b → ((r : ℕ) → σ.owns r ≡ at_start into r) → ((r : ℕ) → lent_at f t b 0 r ≡ true → σ.lent r ≡ true) → ((r : ℕ) → at_start into r < owned f t b 0 r → σ.lent r ≡ true) → Jumps code g (Starts start) σ (label_of into)
    onto σ into low high owns lent short = ⊎_elim detour block (below_or_not into (number b))
      where
        detour : into < number b → Jumps code g (Starts start) σ (label_of into)
        detour lt =
            let there = known.detour b k is marked higher into low lt in
            (way f t at_start b into, enter start into (way f t at_start b into) there.0 there.1, λ r. inr (owns r, (λ h. ⊎_elim (λ l. lent r l) (λ l. short r (ltb-true (at_start into r) (owned f t b 0 r) l)) (or_cases (lent_at f t b 0 r) (nat_lt (at_start into r) (owned f t b 0 r)) h)), (λ h. absurd (cc)), refl))

        block : number b ≤ into → Jumps code g (Starts start) σ (label_of into)
        block le =
            let there = known.block b k is marked higher in
            let same : into ≡ number b = omega (arith, le, high) in
            subst (λ z. Jumps code g (Starts start) σ (label_of z)) (sym same) (at f t b 0, enter start (number b) (at f t b 0) there.0 there.1, λ r. inr (owns r ∙ (ap (λ z. at_start z r) same ∙ known.wants b k is r), (λ h. lent r h), (λ h. absurd (cc)), refl))

    -- the counts of a detour, and its jump
    pub detour_check : (n : ℕ) (x : Block) → first b ≤ n → IsDetour f t number first at_start b n x → (j : ℕ) → Good (way f t at_start b n) (op_lines q x.ops ++ end_lines label_of j x.last)
    detour_check n x low d j =
        subst (λ z. Good (way f t at_start b n) (op_lines q x.ops ++ end_lines label_of j z)) (sym d.goes)
        (edge_check q code g (Starts start) Never (way f t at_start b n) (at_start d.next) x.ops (line.Goto (label_of d.next) ∷ []) d.counts usable (λ r. refl) (onto (record { owns = at_start d.next; lent = (way f t at_start b n).lent; held = λ r. false; empty = λ r. false }) d.next (omega (arith, low, d.ahead)) d.within (λ r. refl) lent short))
      where
        lent : (r : ℕ) → lent_at f t b 0 r ≡ true → (way f t at_start b n).lent r ≡ true
        lent r h = or_left (lent_at f t b 0 r) (nat_lt (at_start n r) (owned f t b 0 r)) h

        below : (r : ℕ) → at_start n r < owned f t b 0 r → (way f t at_start b n).lent r ≡ true
        below r lt = or_right (lent_at f t b 0 r) (nat_lt (at_start n r) (owned f t b 0 r)) (lt-ltb (at_start n r) (owned f t b 0 r) lt)

        short : (r : ℕ) → at_start d.next r < owned f t b 0 r → (way f t at_start b n).lent r ≡ true
        short r lt = ⊎_elim (λ e. below r (omega (arith, e, lt))) (λ e. absurd (omega (arith, e, lt))) (d.each r)

        usable : (r : ℕ) → 1 ≤ at_start d.next r → IsUsable g.vars (way f t at_start b n) r
        usable r le = ⊎_elim
            (λ e. inl (omega (arith, e, le)))
            (λ e. ⊎_elim (λ lt. inr (inl (below r (omega (arith, lt, e, le))))) (λ some. inl some) (below_or_not (at_start n r) 1))
            (d.each r)

  -- ---- a block that is met
  module _ (b : ℕ) (k : Block) (is : slice_get f.blocks b ≡ Some k) (marked : m.marked b ≡ true) where
    abbrev n : ℕ
    n = length k.ops

    item : item_in f.blocks b (length k.ops) ≡ Some (End k.last)
    item = ap (λ z. item_of z (length k.ops)) is ∙ end_item k.ops k.last

    met : MetAt f b (length k.ops)
    met = in_met f b k is (m.sound b marked) (length k.ops) (omega arith)

    -- an edge to a block that is there
    module _ (i to : ℕ) (goes : slice_get (targets k.last) i ≡ Some to) (higher : 0 < to) (lower : to < length f.blocks) where
      block : (there : Block) × (slice_get f.blocks to ≡ Some there)
      block = block_there f.blocks to lower

      first_item : (j : Item) × (item_in f.blocks to 0 ≡ Some j)
      first_item = let i = item_first block.0.ops block.0.last in (i.0, ap (λ z. item_of z 0) block.1 ∙ i.1)

      entered : (1 ≤ number to) × (start (number to) ≡ Some (at f t to 0))
      entered =
          known.block to block.0 block.1 (m.closed b k is marked i to goes lower) higher

      -- shares that lend as much as those of the end
      jump_to : (σ : Shares) → ((r : ℕ) → σ.owns r ≡ owned f t to 0 r) → ((r : ℕ) → lent_at f t b (length k.ops) r ≡ true → σ.lent r ≡ true) → Jumps code g (Starts start) σ (label_of (number to))
      jump_to σ e l =
          (at f t to 0, enter start (number to) (at f t to 0) entered.0 entered.1, λ r. inr (e r, (λ h. l r (edge_lent f t b (length k.ops) k.last item met i to goes first_item.0 first_item.1 r h)), (λ h. absurd (cc)), refl))

      -- the counts of the edge and a jump there
      counted_goto : (σ : Shares) (counts : List (Op × ℕ)) (ls : List Line) → IsEdge σ.owns (owned f t to 0) counts → ((r : ℕ) → IsUsable g.vars (at f t b (length k.ops)) r → IsUsable g.vars σ r) → ((r : ℕ) → lent_at f t b (length k.ops) r ≡ true → σ.lent r ≡ true) → ((r : ℕ) → σ.held r ≡ false) → ((ρ : Shares) → Jumps code g (Starts start) ρ (label_of (number to)) → Good ρ ls) → Good σ (op_lines q counts ++ ls)
      counted_goto σ counts ls edge u l off rest =
          edge_check q code g (Starts start) Never σ (owned f t to 0) counts ls edge (λ r le. u r (edge_usable f t b (length k.ops) k.last item met i to goes first_item.0 first_item.1 r le)) off (rest (record { owns = owned f t to 0; lent = σ.lent; held = λ r. false; empty = σ.empty }) (jump_to (record { owns = owned f t to 0; lent = σ.lent; held = λ r. false; empty = σ.empty }) (λ r. refl) l))

      -- the edge of a test
      edge_jump : (σ : Shares) (into : ℕ) → IsEdgeTo f t number first at_start σ.owns to into → ((r : ℕ) → IsUsable g.vars (at f t b (length k.ops)) r → IsUsable g.vars σ r) → ((r : ℕ) → lent_at f t b (length k.ops) r ≡ true → σ.lent r ≡ true) → ((r : ℕ) → σ.empty r ≡ false) → Jumps code g (Starts start) σ (label_of into)
      edge_jump σ into h u l full =
          onto to block.0 block.1 (m.closed b k is marked i to goes lower) higher σ into h.0 h.1 h.2
          (λ r lent. l r (edge_lent f t b (length k.ops) k.last item met i to goes first_item.0 first_item.1 r lent))
          (λ r lt. ⊎_elim
          (λ own. absurd (omega (arith, own, lt, h.2 r, few_owned f t to 0 r)))
          (λ o. ⊎_elim
          (λ lent. lent)
          (λ none. ⊎_elim
          (λ off. let yes : counts_register f.regs r ≡ true = (one_tells (counts_register f.regs r) (t.live to 0 r) (t.lent to 0 r) (omega (arith, lt))).0 in let both : true ≡ false = sym (counted_same f.regs r yes ∙ yes) ∙ off in absurd (cc))
          (λ e. let both : true ≡ false = sym e ∙ full r in absurd (cc))
          none)
          o)
          (u r (edge_usable f t b (length k.ops) k.last item met i to goes first_item.0 first_item.1 r (omega (arith, lt)))))

    -- the shares at the end, and those of a test's error edge
    abbrev pub here : Shares
    here = at f t b (length k.ops)

    abbrev failed : Reg → ℕ → Shares
    failed x a = failed_at f t b (length k.ops) x a

    failed_lent : (x : Reg) (a r : ℕ) → here.lent r ≡ true → (failed x a).lent r ≡ true
    failed_lent x a r e = put_is x.0 true here.lent r ∙ by (nat_eq x.0 r)
      where
        by : (c : Bool) → cond c true (here.lent r) ≡ true
        by true = refl
        by false = e

    failed_usable : (x : Reg) (a r : ℕ) → IsUsable g.vars here r → IsUsable g.vars (failed x a) r
    failed_usable x a r u = by (nat_eq x.0 r) refl
      where
        own_is : put x.0 (owned f t a 0 x.0) here.owns r ≡ cond (nat_eq x.0 r) (owned f t a 0 x.0) (here.owns r)
        own_is = put_is x.0 (owned f t a 0 x.0) here.owns r

        by : (c : Bool) → nat_eq x.0 r ≡ c → IsUsable g.vars (failed x a) r
        by true e = inr (inl (put_is x.0 true here.lent r ∙ ap (λ c. cond c true (here.lent r)) e))
        by false e = ⊎_elim
            (λ own. inl (omega (arith, own, own_is ∙ ap (λ c. cond c (owned f t a 0 x.0) (here.owns r)) e)))
            (λ l. inr (⊎_elim (λ lent. inl (failed_lent x a r lent)) (λ off. inr (⊎_elim (λ f. inl f) (λ t. absurd (cc)) off)) l))
            u

    failed_full : (x : Reg) (a r : ℕ) → (failed x a).empty r ≡ false
    failed_full x a r = put_off x.0 (λ r. false) (λ r. refl) r

    returned : (x : Reg) (ops : List (Op × ℕ)) → k.last ≡ Return x → IsReturned counted x here.owns ops → IsLastFit f (Return x) → Good here (op_lines q ops ++ line.Return x.0 ∷ [])
    returned x ops e h fit =
        subst (λ z. Good here (op_lines q z ++ line.Return x.0 ∷ [])) (sym h.is) (ups_check q code g (Starts start) Never h.up 0 here (line.Return x.0 ∷ []) usable (kinds, λ r. inl (owns r)))
      where
        is_end : item_in f.blocks b (length k.ops) ≡ Some (End (Return x))
        is_end = item ∙ ap (λ z. Some (End z)) e

        same_x : may_refer (map variable_of f.regs) x.0 ≡ counts_register f.regs x.0
        same_x = agrees f.regs x.0 fit.0

        usable : (r : ℕ) → 1 ≤ times h.up r → IsUsable (map variable_of f.regs) here r
        usable r le =
            let s = is_short (counted r) (times h.up r) (same x.0 r) (here.owns r) (h.short r) le in
            let found : nat_eq x.0 r ≡ true = same_found x.0 r s.1 in
            end_usable f t b (length k.ops) (Return x) is_end met r (or_left (nat_eq x.0 r) false found) (subst (λ z. may_refer (map variable_of f.regs) z ≡ counts_register f.regs z) (eqb-true x.0 r found) same_x)

        kinds : has_cells (kind_of_type f.ret) ≡ false → may_refer (map variable_of f.regs) x.0 ≡ false
        kinds none = ap may_have_cells (has_kind_is (kind_of_type f.ret) (kind_at (map variable_of f.regs) x.0) fit.1) ∙ none

        owns : (r : ℕ) → here.owns r + times h.up r ≡ cond (may_refer (map variable_of f.regs) x.0) (same x.0 r) 0
        owns r =
            returned_number (counted r) (nat_eq x.0 r) (here.owns r) (times h.up r) (h.short r ∙ ap (λ z. cond (counted r) (z - here.owns r) 0) (same_is x.0 r ∙ one_is (nat_eq x.0 r))) (dead_returned f t b (length k.ops) r x is_end) (few_owned f t b (length k.ops) r) (off_owned f t b (length k.ops) r)
            ∙ ends (nat_eq x.0 r) refl
          where
            one_is : (c : Bool) → one_if c ≡ cond c 1 0
            one_is true = refl
            one_is false = refl

            ends : (c : Bool) → nat_eq x.0 r ≡ c → cond (counted r) (cond (nat_eq x.0 r) 1 0) 0 ≡ cond (may_refer (map variable_of f.regs) x.0) (same x.0 r) 0
            ends true e =
                ap (λ c. cond (counted r) (cond c 1 0) 0) e
                ∙ (ap (λ z. cond (counts_register f.regs z) 1 0) (sym (eqb-true x.0 r e))
                ∙ (ap (λ c. cond c 1 0) (sym same_x)
                ∙ ap (λ z. cond (may_refer (map variable_of f.regs) x.0) z 0) (sym (same_is x.0 r ∙ ap one_if e))))
            ends false e =
                ap (λ c. cond (counted r) (cond c 1 0) 0) e
                ∙ (zero_both (counted r) (may_refer (map variable_of f.regs) x.0)
                ∙ ap (λ z. cond (may_refer (map variable_of f.regs) x.0) z 0) (sym (same_is x.0 r ∙ ap one_if e)))
              where
                zero_both : (c d : Bool) → cond c 0 0 ≡ cond {A = ℕ} d 0 0
                zero_both true true = refl
                zero_both true false = refl
                zero_both false true = refl
                zero_both false false = refl

    pub end_check : (l : Last) → k.last ≡ l → (behind : List (Op × ℕ)) → AreLast f t number here.owns l behind → (last : Last) → IsLast f t number first at_start here.owns l last → LastFits (length f.blocks) b k.ops l → IsLastFit f l → (j : ℕ) → j ≡ number b → Good here (op_lines q behind ++ end_lines label_of j last)
    end_check (Goto to) e behind counts last h fits of_text j is_number =
        subst (λ z. Good here (op_lines q behind ++ end_lines label_of j z)) (sym h) (counted_goto 0 to (ap (λ z. slice_get (targets z) 0) e) fits.0 fits.1 here behind (line.Goto (label_of (number to)) ∷ []) counts (λ r u. u) (λ r lent. lent) (λ r. refl) (λ ρ a. a))
    end_check (If x a c) e behind counts last h fits of_text j is_number =
        subst (λ z. Good here (op_lines q behind ++ end_lines label_of j z)) (sym h.2) (subst (λ z. Good here (op_lines q z ++ (line.If x.0 (label_of h.0) (label_of h.1) ∷ []))) (sym counts) (
          edge_jump 0 a (ap (λ z. slice_get (targets z) 0) e) (omega (arith, fits.0.0)) fits.0.1 here h.0 h.3 (λ r u. u) (λ r lent. lent) (λ r. refl),
          edge_jump 1 c (ap (λ z. slice_get (targets z) 1) e) (omega (arith, fits.1.0)) fits.1.1 here h.1 h.4 (λ r u. u) (λ r lent. lent) (λ r. refl),
        ))
    end_check (IfError x a c source) e behind counts last h fits of_text j is_number =
        subst (λ z. Good here (op_lines q behind ++ end_lines label_of j z)) (sym h.2) (subst (λ z. Good here (op_lines q z ++ (line.IfError x.0 (label_of h.0) (label_of h.1) ∷ []))) (sym counts) (
          (record { owns = owned f t a 0 x.0; lent = true; held = false; empty = false }, edge_jump 0 a (ap (λ z. slice_get (targets z) 0) e) (omega (arith, fits.0.0)) fits.0.1 (failed x a) h.0 h.3 (failed_usable x a) (failed_lent x a) (failed_full x a)),
          edge_jump 1 c (ap (λ z. slice_get (targets z) 1) e) (omega (arith, fits.1.0)) fits.1.1 here h.1 h.4 (λ r u. u) (λ r lent. lent) (λ r. refl),
        ))
    end_check (Return x) e behind counts last h fits of_text j is_number =
        subst (λ z. Good here (op_lines q behind ++ end_lines label_of j z)) (sym h) (returned x behind e counts of_text)
    end_check Unreachable e behind counts last h fits of_text j is_number =
        let there = known.block b k is marked fits.0 in
        let none : here ≡ at f t b 0 = ap (λ z. at f t b (length z)) fits.1 in
        subst (λ z. Good here (op_lines q behind ++ end_lines label_of j z)) (sym h) (subst (λ z. Good here (op_lines q z ++ (line.Turn ∷ line.Goto (label_of j) ∷ []))) (sym counts)
        (here, enter start j here (omega (arith, there.0, is_number)) (ap start is_number ∙ (there.1 ∙ ap Some (sym none))), within_self here))

    -- a jump directly behind a turn
    pub turned_check : (to : ℕ) → k.last ≡ Goto to → (turn : Op × ℕ) → turn.0 ≡ Turn → (counts : List (Op × ℕ)) → IsEdge here.owns (owned f t to 0) counts → 0 < to → to < length f.blocks → Good here (op_lines q (counts ++ turn ∷ []) ++ (line.Goto (label_of (number to)) ∷ []))
    turned_check to e turn is_turn counts edge higher lower =
        let split : op_lines q (counts ++ turn ∷ []) ++ (line.Goto (label_of (number to)) ∷ []) ≡ op_lines q counts ++ (line.Turn ∷ line.Goto (label_of (number to)) ∷ []) =
        ap (λ z. z ++ (line.Goto (label_of (number to)) ∷ [])) (lines_append q counts (turn ∷ []))
        ∙ (append_assoc (op_lines q counts) (line_of q turn.0 ∷ []) (line.Goto (label_of (number to)) ∷ [])
        ∙ ap (λ z. op_lines q counts ++ (line_of q z ∷ line.Goto (label_of (number to)) ∷ [])) is_turn) in
        subst (Good here) (sym split) (counted_goto 0 to (ap (λ z. slice_get (targets z) 0) e) higher lower here counts (line.Turn ∷ line.Goto (label_of (number to)) ∷ []) edge (λ r u. u) (λ r lent. lent) (λ r. refl) (λ ρ a. a))
