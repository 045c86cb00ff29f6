-- What stands for a block with its counts: each operation between counts that can be done there, and behind the last one the counts
-- of the end.
use Rattle.std.proofs.Common.{◌≡◌, refl, sym, ◌∙◌, ap, subst, ℕ, suc, ◌+◌, ◌<◌, arith, Bool, true, false, cond, List, [], ◌∷◌, ◌++◌, length, Some, append_assoc, append-nil, inl, inr, ◌⊎◌, ⊎_elim}
use Rattle.std.specs.Prelude.{slice_get, nat_lt}
use Rattle.std.proofs.lemmas.Bool.{ltb-false}
use Rattle.ir_core.specs.declared.code.Op.{Op}
use Rattle.ir_core.specs.declared.code.Op.TheVariants.{Move, Lit, Prim, Call, Virtual, TraitCall, Turn, Inc, Dec, XDec}
use Rattle.ir_core.specs.declared.code.Last.{Last}
use Rattle.ir_core.specs.declared.code.Last.TheVariants.{Goto, If, IfError, Return, Unreachable}
use Rattle.ir_core.specs.declared.code.Block.{Block}
use Rattle.ir_core.specs.declared.code.Func.{Func}
use Rattle.ir_core.specs.Items.{Item, Do, End, in_block, item_of, item_in, Left, left_from}
use Rattle.ir_core.specs.Shape.{is_turn, ends_in_turn, LastFits}
use Rattle.ir_core.proofs.PlaceLemmas.{left_goes_on, left_ends}
use Rattle.ir_core.proofs.ItemLemmas.{end_item}
use Rattle.liveness.specs.Paths.{is_among, is_target, reads_of, write_of, targets, BorrowedAt}
use Rattle.refcount_insert_rule.specs.Rule.{ups, downs, IsGroup, IsEdge}
use Rattle.refcount_insert_rule.specs.Counted.{counts_register, Tables, owned, AreGroups, AreLast, AreAll, AreTurned, IsBody}
use Rattle.refcount_insert_lines_laws.specs.Lines.{HasCells}
use Rattle.refcount_insert_runs_laws.proofs.Lists.{within}
use Rattle.refcount_insert_runs_laws.proofs.Numbers.{counted_cells}
use Rattle.refcount_insert_runs_laws.proofs.Ways.{borrowed_before}
use Rattle.refcount_insert_runs_laws.proofs.Reasons.{short_read, over_read, over_counted, edge_short, edge_over, returned_short}
use Rattle.refcount_insert_runs_laws.proofs.Counts.{AreCounts, ups_count, sure_count, edge_count, counts_by}

-- ---- places
abbrev pub left : List (Op × ℕ) → Last → Left
left ops last = record { ops = ops; last = last }

left_item : (b : Block) (i : ℕ) (ops : List (Op × ℕ)) (last : Last) → left_from b.ops b.last i ≡ Some (left ops last) → (x : Item) × (in_block b.ops b.last i ≡ Some x)
left_item b i [] last e = (End last, left_ends (Some b) i last e)
left_item b i (o ∷ os) last e = (Do o.0 o.1, (left_goes_on (Some b) i o os last e).0)

pub first_item : (b : Block) → (x : Item) × (in_block b.ops b.last 0 ≡ Some x)
first_item b = left_item b 0 b.ops b.last refl

item_behind : (xs : List (Op × ℕ)) (o : Op × ℕ) (last : Last) → in_block (xs ++ (o ∷ [])) last (length xs) ≡ Some (Do o.0 o.1)
item_behind [] o last = refl
item_behind (x ∷ xs) o last = item_behind xs o last

size_behind : (xs : List (Op × ℕ)) (o : Op × ℕ) → length (xs ++ (o ∷ [])) ≡ suc (length xs)
size_behind [] o = refl
size_behind (x ∷ xs) o = ap suc (size_behind xs o)

turn_behind : (xs : List (Op × ℕ)) (o : Op × ℕ) → ends_in_turn (xs ++ (o ∷ [])) ≡ is_turn o.0
turn_behind [] o = refl
turn_behind (x ∷ []) o = refl
turn_behind (x ∷ y ∷ xs) o = turn_behind (y ∷ xs) o

turn_writes : (o : Op) (r : ℕ) → is_turn o ≡ true → is_target (write_of o) r ≡ false
turn_writes (Move x y) r e = absurd (cc)
turn_writes (Lit x l) r e = absurd (cc)
turn_writes (Prim to q args) r e = absurd (cc)
turn_writes (Call x g args) r e = absurd (cc)
turn_writes (Virtual x o n args) r e = absurd (cc)
turn_writes (TraitCall x o t n args) r e = absurd (cc)
turn_writes Turn r e = refl
turn_writes (Inc x) r e = absurd (cc)
turn_writes (Dec x) r e = absurd (cc)
turn_writes (XDec x) r e = absurd (cc)

-- ---- an operation between its counts, and what is left of a block
module _ (f : Func) (k : ℕ) where
  -- what is taken in front of an operation is read by it, or only lent
  abbrev pub Before : Op → ℕ → ℕ → Type 0
  Before o i r = (is_among (reads_of o) r ≡ true) ⊎ BorrowedAt f r k i

  -- what is given up behind it for sure was read, and is not written
  abbrev pub After : Op → ℕ → Type 0
  After o r = (is_among (reads_of o) r ≡ true) × (is_target (write_of o) r ≡ false)

  pub record Group (i : ℕ) (o : Op × ℕ) (new rest : List (Op × ℕ)) : Type 0 where
    pub before : List (Op × ℕ)
    pub after : List (Op × ℕ)
    pub is : new ≡ before ++ (o ∷ (after ++ rest))
    pub before_count : AreCounts f.regs (Before o.0 i) before
    pub after_count : AreCounts f.regs (After o.0) after

  abbrev pub Form : ℕ → List (Op × ℕ) → List (Op × ℕ) → Type 0
  Form i [] new = AreCounts f.regs (λ r. BorrowedAt f r k i) new
  Form i (o ∷ os) new = (rest : List (Op × ℕ)) × Group i o new rest × Form (suc i) os rest

module _ (f : Func) (t : Tables f) (number : ℕ → ℕ) (k : ℕ) where
  abbrev counted : ℕ → Bool
  counted = counts_register f.regs

  group_form : (i : ℕ) (o : Op × ℕ) → item_in f.blocks k i ≡ Some (Do o.0 o.1) → (x : Item) → item_in f.blocks k (suc i) ≡ Some x → (group : List (Op × ℕ)) → IsGroup counted o (owned f t k i) (owned f t k (suc i)) group → (rest : List (Op × ℕ)) → Group f k i o (group ++ rest) rest
  group_form i o here x there group g rest =
      record {
        before = ups g.up o.1;
        after = downs g.down o.1;
        is = ap (λ z. z ++ rest) g.is ∙ append_assoc (ups g.up o.1) (o ∷ downs g.down o.1) rest;
        before_count = ups_count f.regs (Before f k o.0 i) g.up o.1 (λ r some. let h = short_read f t k i o.0 here x there r (subst (λ z. 0 < z) (g.before r) some) in (counted_cells f.regs r h.0, inl h.1));
        after_count = sure_count f.regs (After f k o.0) (write_of o.0) g.down o.1 g.sure (λ r some. counted_cells f.regs r (over_counted f t k i o.0 here x there r (subst (λ z. 0 < z) (g.after r) some))) (λ r some calm. ((over_read f t k i o.0 here x there r (subst (λ z. 0 < z) (g.after r) some) calm).1, calm));
      }

  module _ (b : Block) (here : slice_get f.blocks k ≡ Some b) where
    item_here : (i : ℕ) (x : Item) → in_block b.ops b.last i ≡ Some x → item_in f.blocks k i ≡ Some x
    item_here i x e = ap (λ z. item_of z i) here ∙ e

    groups_form : (os tail : List (Op × ℕ)) (i : ℕ) (at : ℕ → ℕ → ℕ) → ((j : ℕ) → at j ≡ owned f t k (i + j)) → left_from b.ops b.last i ≡ Some (left (os ++ tail) b.last) → (groups : List (Op × ℕ)) → AreGroups f t number at os groups → (end : List (Op × ℕ)) → Form f k (i + length os) tail end → Form f k i (os ++ tail) (groups ++ end)
    groups_form [] tail i at same at_left groups gs end form =
        let e : i + 0 ≡ i = omega arith in
        subst (λ z. Form f k i tail (z ++ end)) (sym gs) (subst (λ z. Form f k z tail end) e form)
    groups_form (o ∷ os) tail i at same at_left groups gs end form =
        let goes = left_goes_on (Some b) i o (os ++ tail) b.last at_left in
        let one : i + 1 ≡ suc i = omega arith in
        let none : i + 0 ≡ i = omega arith in
        let more : left_from b.ops b.last (suc i) ≡ Some (left (os ++ tail) b.last) = ap (left_from b.ops b.last) (sym one) ∙ goes.1 in
        let next = left_item b (suc i) (os ++ tail) b.last more in
        let group : IsGroup counted o (owned f t k i) (owned f t k (suc i)) gs.0 = subst (λ z. IsGroup counted o z (owned f t k (suc i)) gs.0) (same 0 ∙ ap (owned f t k) none) (subst (λ z. IsGroup counted o (at 0) z gs.0) (same 1 ∙ ap (owned f t k) one) gs.3) in
        let parts : gs.0 ++ (gs.1 ++ end) ≡ groups ++ end = sym (ap (λ z. z ++ end) gs.2 ∙ append_assoc gs.0 gs.1 end) in
        let far : i + length (o ∷ os) ≡ suc i + length os = omega arith in (
          gs.1 ++ end,
          subst (λ z. Group f k i o z (gs.1 ++ end)) parts (group_form i o (item_here i (Do o.0 o.1) goes.0) next.0 (item_here (suc i) next.0 next.1) gs.0 group (gs.1 ++ end)),
          groups_form os tail (suc i) (λ j. at (suc j)) (λ j. let e : i + suc j ≡ suc i + j = omega arith in same (suc j) ∙ ap (owned f t k) e) more gs.1 gs.4 end (subst (λ z. Form f k z tail end) far form),
        )

    abbrev end_place : ℕ
    end_place = length b.ops

    module _ (last : Last) (is : b.last ≡ last) where
      end_here : item_in f.blocks k end_place ≡ Some (End last)
      end_here =
          item_here end_place (End b.last) (end_item b.ops b.last) ∙ ap (λ z. Some (End z)) is

    -- the counts of an edge can be done at the end
    module _ (last : Last) (is : b.last ≡ last) (i c : ℕ) (goes : slice_get (targets last) i ≡ Some c) (lt : c < length f.blocks) where
      first_of : (x : Item) × (item_in f.blocks c 0 ≡ Some x)
      first_of =
          let block = within f.blocks c lt in
          let first = first_item block.0 in (first.0, ap (λ z. item_of z 0) block.1 ∙ first.1)

      -- what is short over the edge is lent at the end, and what is over is counted
      pub edge_lent : (r : ℕ) → owned f t k end_place r < owned f t c 0 r → HasCells f.regs r × BorrowedAt f r k end_place
      edge_lent r lt =
          let h = edge_short f t k end_place last (end_here last is) r i c goes first_of.0 first_of.1 lt in
          (counted_cells f.regs r h.0, h.1)

      pub edge_cells : (r : ℕ) → owned f t c 0 r < owned f t k end_place r → HasCells f.regs r
      edge_cells r lt =
          counted_cells f.regs r (edge_over f t k end_place last (end_here last is) r i c goes first_of.0 first_of.1 lt)

      edge_counts : (ops : List (Op × ℕ)) → IsEdge (owned f t k end_place) (owned f t c 0) ops → AreCounts f.regs (λ r. BorrowedAt f r k end_place) ops
      edge_counts ops e =
          edge_count f.regs (λ r. BorrowedAt f r k end_place) (owned f t k end_place) (owned f t c 0) ops e edge_lent edge_cells

    -- so can those of an end
    end_counts : (last : Last) → b.last ≡ last → LastFits (length f.blocks) k b.ops last → (ops : List (Op × ℕ)) → AreLast f t number (owned f t k end_place) last ops → AreCounts f.regs (λ r. BorrowedAt f r k end_place) ops
    end_counts (Goto c) is fits ops e =
        edge_counts (Goto c) is 0 c refl fits.1 ops e
    end_counts (If x y z) is fits ops e = subst (AreCounts f.regs (λ r. BorrowedAt f r k end_place)) (sym e) tt
    end_counts (IfError x y z n) is fits ops e =
        subst (AreCounts f.regs (λ r. BorrowedAt f r k end_place)) (sym e) tt
    end_counts (Return x) is fits ops e =
        subst (AreCounts f.regs (λ r. BorrowedAt f r k end_place)) (sym e.is) (ups_count f.regs (λ r. BorrowedAt f r k end_place) e.up 0 (λ r some. let h = returned_short f t k end_place x (end_here (Return x) is) r (subst (λ z. 0 < z) (e.short r) some) in (counted_cells f.regs r h.0, h.1)))
    end_counts Unreachable is fits ops e =
        subst (AreCounts f.regs (λ r. BorrowedAt f r k end_place)) (sym e) tt

    all_form : (last : Last) → b.last ≡ last → LastFits (length f.blocks) k b.ops last → (ops : List (Op × ℕ)) → AreAll f t number (owned f t k) b.ops last ops → Form f k 0 b.ops ops
    all_form last is fits ops all =
        let start : (j : ℕ) → owned f t k j ≡ owned f t k (0 + j) = λ j. let e : j ≡ 0 + j = omega arith in ap (owned f t k) e in
        let whole : left_from b.ops b.last 0 ≡ Some (left (b.ops ++ []) b.last) = ap (λ z. Some (left z b.last)) (sym (append-nil b.ops)) in
        let far : end_place ≡ 0 + end_place = omega arith in
        let end : Form f k (0 + end_place) [] all.1 = subst (λ z. Form f k z [] all.1) far (end_counts last is fits all.1 all.4) in
        subst (λ z. Form f k 0 b.ops z) (sym all.2) (subst (λ z. Form f k 0 z (all.0 ++ all.1)) (append-nil b.ops) (groups_form b.ops [] 0 (owned f t k) start whole all.0 all.3 all.1 end))

    turned_form : (c : ℕ) → b.last ≡ Goto c → c < length f.blocks → ends_in_turn b.ops ≡ true → (ops : List (Op × ℕ)) → AreTurned f t number (owned f t k) b.ops c ops → Form f k 0 b.ops ops
    turned_form c is lt turns ops all =
        let before : List (Op × ℕ) = all.0 in
        let turn : Op × ℕ = all.1 in
        let start : (j : ℕ) → owned f t k j ≡ owned f t k (0 + j) = λ j. let e : j ≡ 0 + j = omega arith in ap (owned f t k) e in
        let whole : left_from b.ops b.last 0 ≡ Some (left (before ++ (turn ∷ [])) b.last) = ap (λ z. Some (left z b.last)) all.4 in
        let size : end_place ≡ suc (length before) = ap length all.4 ∙ size_behind before turn in
        let far : length before ≡ 0 + length before = omega arith in
        let is_last : is_turn turn.0 ≡ true = sym (ap ends_in_turn all.4 ∙ turn_behind before turn) ∙ turns in
        let at_turn : item_in f.blocks k (length before) ≡ Some (Do turn.0 turn.1) = item_here (length before) (Do turn.0 turn.1) (ap (λ z. in_block z b.last (length before)) all.4 ∙ item_behind before turn b.last) in
        let counts : AreCounts f.regs (λ r. BorrowedAt f r k end_place) all.3 = edge_counts (Goto c) is 0 c refl lt all.3 all.7 in
        let earlier : AreCounts f.regs (Before f k turn.0 (length before)) all.3 = counts_by f.regs (λ r. BorrowedAt f r k end_place) (Before f k turn.0 (length before)) all.3 (λ r cells lent. inr (borrowed_before f k (length before) turn.0 at_turn r (turn_writes turn.0 r is_last) (subst (BorrowedAt f r k) size lent))) counts in
        let tail : Form f k (length before) (turn ∷ []) (all.3 ++ (turn ∷ [])) = ([], record { before = all.3; after = []; is = refl; before_count = earlier; after_count = tt }, tt) in
        subst (λ z. Form f k 0 b.ops z) (sym all.5) (subst (λ z. Form f k 0 z (all.2 ++ (all.3 ++ (turn ∷ [])))) (sym all.4) (groups_form before (turn ∷ []) 0 (owned f t k) start whole all.2 all.6 (all.3 ++ (turn ∷ [])) (subst (λ z. Form f k z (turn ∷ []) (all.3 ++ (turn ∷ []))) far tail)))

    goto_form : (c : ℕ) → b.last ≡ Goto c → LastFits (length f.blocks) k b.ops (Goto c) → (ops : List (Op × ℕ)) (up : Bool) → nat_lt k c ≡ up → cond up (AreAll f t number (owned f t k) b.ops (Goto c) ops) (AreTurned f t number (owned f t k) b.ops c ops) → Form f k 0 b.ops ops
    goto_form c is fits ops true e all = all_form (Goto c) is fits ops all
    goto_form c is fits ops false e all =
        turned_form c is fits.1 (⊎_elim (λ lt. absurd (omega (arith, lt, ltb-false k c e))) (λ turns. turns) fits.2) ops all

    body_by : (last : Last) → b.last ≡ last → LastFits (length f.blocks) k b.ops last → (ops : List (Op × ℕ)) → IsBody f t number k (owned f t k) b.ops last ops → Form f k 0 b.ops ops
    body_by (Goto c) is fits ops body = goto_form c is fits ops (nat_lt k c) refl body
    body_by (If x y z) is fits ops body = all_form (If x y z) is fits ops body
    body_by (IfError x y z n) is fits ops body = all_form (IfError x y z n) is fits ops body
    body_by (Return x) is fits ops body = all_form (Return x) is fits ops body
    body_by Unreachable is fits ops body = all_form Unreachable is fits ops body

    -- a whole block
    pub body_form : LastFits (length f.blocks) k b.ops b.last → (ops : List (Op × ℕ)) → IsBody f t number k (owned f t k) b.ops b.last ops → Form f k 0 b.ops ops
    body_form fits ops body = body_by b.last refl fits ops body
