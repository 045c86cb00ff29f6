-- What a program without what is of no use may look like, whatever paths there are: each block is the old one, perhaps with a test at its
-- end that became a jump to where it would go on, or it is empty, and not the first.
use Rattle.std.proofs.Common.{◌≡◌, refl, sym, ◌∙◌, ap, subst, ℕ, zero, suc, ◌<◌, ◌≤◌, ◌^◌, arith, List, [], ◌∷◌, length, inl, inr}
use Rattle.ir_core.specs.declared.code.Op.{Op}
use Rattle.ir_core.specs.declared.code.Reg.{Reg}
use Rattle.ir_core.specs.declared.code.Last.{Last}
use Rattle.ir_core.specs.declared.code.Last.TheVariants.{Goto, If, IfError, Return, Unreachable}
use Rattle.ir_core.specs.declared.code.Block.{Block}
use Rattle.ir_core.specs.declared.code.Func.{Func}
use Rattle.ir_core.specs.Rows.{Declared}
use Rattle.liveness.specs.Paths.{entry}
use Rattle.unset_tests.specs.Alike.{IsAlike}
use Rattle.unset_tests.specs.Without.{IsEndWithout, IsBlockWithout, AreBlocksWithout}
use Rattle.unset_tests.specs.Emptied.{empty_block, IsBlockEmptied, AreBlocksEmptied}
use Rattle.unset_tests.specs.Cleared.{IsCleared}

-- an end, and what it may become
pub data EndLess : Last → Last → Type 0 where
  same_end : (l : Last) → EndLess l l
  no_test : (r : Reg) (e n line : ℕ) → EndLess (IfError r e n line) (Goto n)

-- block k, and what it may become
pub data BlockLess (k : ℕ) (b c : Block) : Type 0 where
  stays : c.ops ≡ b.ops → c.handler ≡ b.handler → EndLess b.last c.last → BlockLess k b c
  is_empty : 0 < k → c ≡ empty_block → BlockLess k b c

abbrev pub AreBlocksLess : ℕ → List Block → List Block → Type 0
AreBlocksLess k [] [] = Unit {0}
AreBlocksLess k (b ∷ bs) (c ∷ cs) = BlockLess k b c × AreBlocksLess (suc k) bs cs
AreBlocksLess k _ _ = ⊥

pub record IsLess (f g : Func) : Type 0 where
  pub alike : IsAlike f g
  pub blocks : AreBlocksLess 0 f.blocks g.blocks
  pub few : length g.blocks ≤ 2 ^ 64

pub count_less : (k : ℕ) (bs cs : List Block) → AreBlocksLess k bs cs → length cs ≡ length bs
count_less k [] [] h = refl
count_less k [] (c ∷ cs) h = absurd h
count_less k (b ∷ bs) [] h = absurd h
count_less k (b ∷ bs) (c ∷ cs) h = ap suc (count_less (suc k) bs cs h.1)

-- ---- a function without tests, and then without what no path reaches, is less
module _ (regs : Declared) (all : List Block) where
  end_less : (k : ℕ) (ops : List (Op × ℕ)) (l m : Last) → IsEndWithout regs all k ops l m → EndLess l m
  end_less k ops (Goto t) m h = subst (EndLess (Goto t)) (sym h) (same_end (Goto t))
  end_less k ops (If r a b) m h = subst (EndLess (If r a b)) (sym h) (same_end (If r a b))
  end_less k ops (IfError r e n line) m (inl h) = subst (EndLess (IfError r e n line)) (sym h.1) (same_end (IfError r e n line))
  end_less k ops (IfError r e n line) m (inr h) = subst (EndLess (IfError r e n line)) (sym h.1) (no_test r e n line)
  end_less k ops (Return r) m h = subst (EndLess (Return r)) (sym h) (same_end (Return r))
  end_less k ops Unreachable m h = subst (EndLess Unreachable) (sym h) (same_end Unreachable)

  module _ (f : Func) where
    -- the function's beginning is on a path
    block_less : (k : ℕ) (b c d : Block) → IsBlockWithout regs all k b c → IsBlockEmptied f k c d → BlockLess k b d
    block_less k b c d h (inl same) =
        subst (BlockLess k b) (sym same.1) (stays h.ops h.handler (end_less k b.ops b.last c.last h.last))
    block_less zero b c d h (inr none) = absurd (none.0 entry)
    block_less (suc k) b c d h (inr none) = is_empty (omega arith) none.1

    blocks_less : (k : ℕ) (bs cs ds : List Block) → AreBlocksWithout regs all k bs cs → AreBlocksEmptied f k cs ds → AreBlocksLess k bs ds
    blocks_less k [] [] [] h e = tt
    blocks_less k [] [] (d ∷ ds) h e = absurd e
    blocks_less k [] (c ∷ cs) ds h e = absurd h
    blocks_less k (b ∷ bs) [] ds h e = absurd h
    blocks_less k (b ∷ bs) (c ∷ cs) [] h e = absurd e
    blocks_less k (b ∷ bs) (c ∷ cs) (d ∷ ds) h e = (block_less k b c d h.0 e.0, blocks_less (suc k) bs cs ds h.1 e.1)

pub cleared_less : (f g : Func) → IsCleared f g → IsLess f g
cleared_less f g h =
    let one = h.tests.alike in
    let two = h.emptied.alike in
    record {
      alike = record { name = two.name ∙ one.name; params = two.params ∙ one.params; regs = two.regs ∙ one.regs; ret = two.ret ∙ one.ret };
      blocks = blocks_less f.regs f.blocks h.between 0 f.blocks h.between.blocks g.blocks h.tests.blocks h.emptied.blocks;
      few = h.emptied.few;
    }
