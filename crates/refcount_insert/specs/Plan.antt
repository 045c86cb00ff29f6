-- What is planned of a block: its operations with their counts, and where the counts of its edges stand among those of all edges.
use Rattle.std.specs.Prelude.{◌≡◌, ℕ, suc, ◌-◌, cond, nat_lt, List, [], ◌∷◌, ◌++◌, length, take, drop}
use Rattle.ir_core.specs.declared.code.Op.{Op}
use Rattle.ir_core.specs.declared.code.Last.{Last}
use Rattle.ir_core.specs.declared.code.Last.TheVariants.{Goto}
use Rattle.ir_core.specs.declared.code.Block.{Block}
use Rattle.ir_core.specs.Rows.{Declared}
use Rattle.refcount_insert_rule.specs.Rule.{ups, downs}
use Rattle.refcount_insert_rule.specs.Counted.{counts_register}
use Rattle.refcount_insert_counts.specs.declared.counts.Counts.{Counts}
use Rattle.refcount_insert_counts.specs.declared.known.KnownRegisters.{KnownRegisters}
use Rattle.refcount_insert.specs.declared.plan.Planned.{Planned}
use Rattle.refcount_insert_counts.specs.Known.{owned_at}
use Rattle.refcount_insert_counts.specs.Counts.{AreGroupCounts}
use Rattle.refcount_insert_counts.specs.Ends.{AreEndCounts, AreTestCounts}
use Rattle.refcount_insert_counts.specs.Edges.{edge_ops}
use Rattle.refcount_insert.specs.declared.sharing.EdgeCounts.{EdgeCounts}
use Rattle.refcount_insert.specs.Sharing.{AreShared}

-- how many operations stand before the counts of the end of block b: all but a turn that a jump to no higher block stands behind
abbrev pub size_before : ℕ → ℕ → Last → ℕ
size_before b n (Goto t) = cond (nat_lt b t) n (n - 1)
size_before b n _ = n

module _ (known : KnownRegisters) (regs : Declared) where
  -- one operation with its counts, at a place with these references before it and behind it
  abbrev pub IsCountedOp : (ℕ → ℕ) → (ℕ → ℕ) → Op × ℕ → List (Op × ℕ) → Type 0
  IsCountedOp have want o group =
      (c : Counts) × (group ≡ ups c.ups o.1 ++ (o ∷ downs c.downs o.1)) × AreGroupCounts (counts_register regs) o.0 have want c

  abbrev pub AreCountedOps : (ℕ → ℕ → ℕ) → List (Op × ℕ) → List (Op × ℕ) → Type 0
  AreCountedOps at [] ops = ops ≡ []
  AreCountedOps at (o ∷ os) ops =
      (group : List (Op × ℕ)) × (rest : List (Op × ℕ)) × (ops ≡ group ++ rest) × IsCountedOp (at 0) (at 1) o group × AreCountedOps (λ p. at (suc p)) os rest

  abbrev pub IsPlannedBody : ℕ → List (Op × ℕ) → Last → List (Op × ℕ) → Type 0
  IsPlannedBody b old last ops =
      let n : ℕ = size_before b (length old) last in
      (groups : List (Op × ℕ)) × (c : Counts) × (ops ≡ groups ++ (edge_ops c ++ drop n old)) × AreCountedOps (owned_at known regs b) (take n old) groups × AreEndCounts known regs b (length old) last c

  pub record IsPlanned (all : List (List EdgeCounts)) (b : ℕ) (k : Block) (p : Planned) : Type 0 where
    pub body : IsPlannedBody b k.ops k.last p.ops
    pub last : p.last ≡ k.last
    pub counts : Counts × Counts
    pub edges : AreTestCounts known regs b (length k.ops) k.last counts
    pub shared : AreShared all k.last counts (p.first, p.second)

  -- blocks from number b on
  abbrev pub ArePlanned : List (List EdgeCounts) → ℕ → List Block → List Planned → Type 0
  ArePlanned all b [] [] = Unit {0}
  ArePlanned all b (k ∷ ks) (p ∷ ps) = IsPlanned all b k p × ArePlanned all (suc b) ks ps
  ArePlanned all b _ _ = ⊥
