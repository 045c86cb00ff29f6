-- The groups of a function with its counts stand at places that have the shares of the old block and place.
use Rattle.std.proofs.Common.{◌≡◌, refl, sym, ◌∙◌, ap, subst, ℕ, zero, suc, ◌+◌, ◌-◌, ◌≤◌, ◌<◌, arith, true, List, [], ◌∷◌, ◌++◌, length, drop, append_assoc, Option, Some, None}
use Rattle.std.specs.Prelude.{slice_get, nat_lt, ◌&&◌}
use Rattle.std.proofs.lemmas.Bool.{lt-ltb}
use Rattle.c_core.specs.declared.code.Line.{Line}
use Rattle.c_core.specs.Functions.{label_places}
use Rattle.ir_core.specs.declared.code.Block.{Block}
use Rattle.ir_core.specs.declared.code.Func.{Func}
use Rattle.ir_core.specs.declared.code.Program.{Program}
use Rattle.ir_core.specs.Bare.{IsBare}
use Rattle.ir_core.specs.Items.{End, item_of}
use Rattle.ir_core.specs.Lower.{op_lines, label_before, label_of, end_lines, block_lines, lines_from, name_in, lower}
use Rattle.ir_core.specs.Lowered.{IsLabelled}
use Rattle.ir_core.specs.Shape.{Shape}
use Rattle.ir_core.proofs.LowerLemmas.{place_of, label_at}
use Rattle.c_core_ownership_laws.specs.Shares.{Shares}
use Rattle.c_core_ownership_laws.specs.Order.{from}
use Rattle.liveness.specs.Paths.{targets, passes, fails, jumps, MetAt, entry, onward}
use Rattle.liveness.proofs.PathLemmas.{item_end, item_block}
use Rattle.refcount_insert_rule.specs.Counted.{owned, IsCountedFunc, IsCountedProgram}
use Rattle.refcount_insert_order_laws.specs.Places.{operations_before, NewBlock, group_place, HasShares}
use Rattle.refcount_insert_order_laws.proofs.Equations.{at}
use Rattle.refcount_insert_order_laws.proofs.MetBlocks.{Marks, marks}
use Rattle.refcount_insert_order_laws.proofs.Trails.{at_place, head}
use Rattle.refcount_insert_order_laws.proofs.Bodies.{text_of}
use Rattle.refcount_insert_order_laws.proofs.Blocks.{Marked}
use Rattle.refcount_insert_order_laws.proofs.Labels.{at_drop, drop_twice, block_at, from_behind}
use Rattle.refcount_insert_order_laws.proofs.Placing.{done, start}

-- each block that is met has a mark
get_within : (bs : List Block) (i : ℕ) (x : Block) → slice_get bs i ≡ Some x → i < length bs
get_within [] i x e = let f : None ≡ Some x = e in absurd (cc)
get_within (y ∷ bs) zero x e = omega arith
get_within (y ∷ bs) (suc i) x e = omega (arith, get_within bs i x e)

met_marked : (f : Func) (calm : IsBare f) (m : Marks f) (b p : ℕ) → MetAt f b p → (k : Block) → slice_get f.blocks b ≡ Some k → m.marked b ≡ true
met_marked f calm m b p entry k is = m.first
met_marked f calm m b p (onward c x d y met (passes c2 x2 o e)) k is = met_marked f calm m c x met k is
met_marked f calm m b p (onward c x d y met (fails c2 x2 h o e caught there)) k is =
    absurd (calm c h there)
met_marked f calm m b p (onward c x d y met (jumps c2 x2 i t l e goes)) k is =
    let n = item_block (slice_get f.blocks c) x (End l) e in
    let end = item_end n.0.ops n.0.last x l (ap (λ z. item_of z x) (sym n.1) ∙ e) in
    m.closed c n.0 n.1 (met_marked f calm m c x met n.0 n.1) i b (ap (λ z. slice_get (targets z) i) end.1 ∙ goes) (get_within f.blocks b k is)

from_none : (n : ℕ) → from n [] ≡ []
from_none zero = refl
from_none (suc n) = refl

pub from_twice : (ls : List Line) (n k : ℕ) → from k (from n ls) ≡ from (n + k) ls
from_twice ls zero k = let e : k ≡ 0 + k = omega arith in ap (λ i. from i ls) e
from_twice [] (suc n) k = from_none k ∙ sym (from_none (suc n + k))
from_twice (x ∷ ls) (suc n) k =
    let e : suc (n + k) ≡ suc n + k = omega arith in
    from_twice ls n k ∙ ap (λ i. from i (x ∷ ls)) e

-- a block at its label
pub labelled_at : (q : Program) (blocks : List Block) (j : ℕ) (x : Block) → slice_get blocks j ≡ Some x → IsLabelled (lines_from q 0 blocks) label_of j (place_of q 0 blocks j)
labelled_at q blocks zero x e = refl
labelled_at q blocks (suc j) x e =
    let z : suc j - 1 ≡ j = omega arith in
    ap (slice_get (label_places (lines_from q 0 blocks))) z ∙ label_at q blocks j x e

module _ (p q : Program) (shape : Shape p) (counted : IsCountedProgram p q) (n : ℕ) (f g : Func) (is_old : slice_get p.funcs n ≡ Some f) (c : IsCountedFunc f g) where
  abbrev shares : List (Option Shares)
  shares = (done p q shape counted n f g is_old c).shares

  module _ (b : ℕ) (k : Block) (found : Marked q (lower q) (text_of f (name_in q n g) (lines_from q 0 g.blocks)) (start p q shape counted n f g is_old c) f c.tables c.number b k 0 g.blocks shares) where
    abbrev label : ℕ
    label = place_of q 0 g.blocks found.place

    number_is : c.number b ≡ found.place
    number_is = found.is_number ∙ omega arith

    abbrev ends : List Line
    ends = end_lines label_of (c.number b) found.main.last

    there : (rest : List Line) × (from label (lines_from q 0 g.blocks) ≡ block_lines q (0 + found.place) found.main ++ rest)
    there = block_at q 0 found.place g.blocks found.main found.is_main

    lines_there : from (label + length (label_before (c.number b))) (lines_from q 0 g.blocks) ≡ op_lines q found.main.ops ++ (ends ++ there.0)
    lines_there =
        let front : List Line = label_before (c.number b) in
        let z : 0 + found.place ≡ c.number b = omega (arith, number_is) in
        let none : length front ≡ length front + 0 = omega arith in
        let behind : from label (lines_from q 0 g.blocks) ≡ front ++ (op_lines q found.main.ops ++ (ends ++ there.0)) =
        there.1 ∙ (ap (λ i. block_lines q i found.main ++ there.0) z
        ∙ (append_assoc front (op_lines q found.main.ops ++ ends) there.0 ∙ ap (λ l. front ++ l) (append_assoc (op_lines q found.main.ops) ends there.0))) in
        sym (from_twice (lines_from q 0 g.blocks) label (length front))
        ∙ (ap (from (length front)) behind
        ∙ (ap (λ i. from i (front ++ (op_lines q found.main.ops ++ (ends ++ there.0)))) none ∙ from_behind q front (op_lines q found.main.ops ++ (ends ++ there.0)) 0))

    label_there : IsLabelled (lines_from q 0 g.blocks) label_of (c.number b) label
    label_there =
        subst (λ i. IsLabelled (lines_from q 0 g.blocks) label_of i label) (sym number_is) (labelled_at q g.blocks found.place found.main found.is_main)

    main_there : slice_get g.blocks (c.number b) ≡ Some found.main
    main_there = ap (slice_get g.blocks) number_is ∙ found.is_main

    abbrev new_block : NewBlock q f g c b k
    new_block =
        record {
          main = found.main;
          is_main = main_there;
          label = label;
          is_label = label_there;
          rest = ends ++ there.0;
          lines = lines_there;
          front = found.front;
          is_front = found.is_front;
          groups = found.groups;
          others = found.others;
          split = found.split;
          are = found.are;
        }

    marked_at : (i : ℕ) → i ≤ length found.front → at_place shares (label + length (label_before (c.number b)) + operations_before f c.tables c.number (owned f c.tables b) found.front found.groups found.are i) ≡ Some (at f c.tables b i)
    marked_at i le =
        let before : ℕ = operations_before f c.tables c.number (owned f c.tables b) found.front found.groups found.are i in
        at_drop shares (label + length (label_before (c.number b)) + before)
        ∙ (ap (λ l. head l None) (sym (ap (drop before) (drop_twice shares label (length (label_before (c.number b)))) ∙ drop_twice shares (label + length (label_before (c.number b))) before)) ∙ found.marks i le)

    lent_is : (i r : ℕ) → r < length f.regs → (nat_lt r (length f.regs) && c.tables.lent b i r) ≡ c.tables.lent b i r
    lent_is i r lt = ap (λ d. d && c.tables.lent b i r) (lt-ltb r (length f.regs) lt)

    have_at : (t : ℕ → Option Shares) → ((place : ℕ) → t place ≡ at_place shares place) → (h : NewBlock q f g c b k) × ((i : ℕ) → i ≤ length h.front → HasShares f c.tables b i (t (group_place h i)))
    have_at t tie =
        (new_block, λ i le. (at f c.tables b i, tie (group_place new_block i) ∙ marked_at i le, λ r. refl, λ r lt. lent_is i r lt))

  pub groups_have : (t : ℕ → Option Shares) → ((place : ℕ) → t place ≡ at_place shares place) → (b : ℕ) (k : Block) → slice_get f.blocks b ≡ Some k → MetAt f b 0 → (h : NewBlock q f g c b k) × ((i : ℕ) → i ≤ length h.front → HasShares f c.tables b i (t (group_place h i)))
  groups_have t tie b k is met =
      have_at b k ((done p q shape counted n f g is_old c).marked b k (b, omega arith, is, met_marked f c.tables.calm (marks f) b 0 met k is)) t tie
