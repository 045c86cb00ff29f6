-- When one function is another one without the tests that are of no use.
use Rattle.std.specs.Prelude.{◌≡◌, ◌⊎◌, ℕ, suc, true, List, [], ◌∷◌, length}
use Rattle.ir_core.specs.declared.code.Op.{Op}
use Rattle.ir_core.specs.declared.code.Last.{Last}
use Rattle.ir_core.specs.declared.code.Last.TheVariants.{Goto, IfError}
use Rattle.ir_core.specs.declared.code.Block.{Block}
use Rattle.ir_core.specs.declared.code.Func.{Func}
use Rattle.ir_core.specs.Rows.{Declared}
use Rattle.unset_tests.specs.Alike.{IsAlike}
use Rattle.unset_tests.specs.Unset.{UnsetAt, ends_in_failure}

module _ (regs : Declared) (blocks : List Block) where
  -- A test of a register at the end of a block stays where the register may be unset. It stays also directly behind an operation that
  -- always fails: a jump that stands there is where its exception goes.
  abbrev pub Stays : ℕ → List (Op × ℕ) → ℕ → Type 0
  Stays k ops r = UnsetAt regs blocks r k (length ops) ⊎ (ends_in_failure regs ops ≡ true)

  -- any other test becomes a jump to where it would go on, and each other end is the same
  abbrev pub IsEndWithout : ℕ → List (Op × ℕ) → Last → Last → Type 0
  IsEndWithout k ops (IfError r e n line) last =
      (Stays k ops r.0 × (last ≡ IfError r e n line)) ⊎ ((Stays k ops r.0 → ⊥) × (last ≡ Goto n))
  IsEndWithout k ops l last = last ≡ l

  -- block k, and what it becomes
  pub record IsBlockWithout (k : ℕ) (b c : Block) : Type 0 where
    pub ops : c.ops ≡ b.ops
    pub handler : c.handler ≡ b.handler
    pub last : IsEndWithout k b.ops b.last c.last

  -- blocks from number k on
  abbrev pub AreBlocksWithout : ℕ → List Block → List Block → Type 0
  AreBlocksWithout k [] [] = Unit {0}
  AreBlocksWithout k (b ∷ bs) (c ∷ cs) = IsBlockWithout k b c × AreBlocksWithout (suc k) bs cs
  AreBlocksWithout k _ _ = ⊥

pub record IsWithout (f g : Func) : Type 0 where
  pub alike : IsAlike f g
  pub blocks : AreBlocksWithout f.regs f.blocks 0 f.blocks g.blocks
