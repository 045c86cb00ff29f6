-- When a code is a program laid out in lines: the operations of its blocks in their order, each block behind its label, with any
-- counts between them. An edge from one block to another may have lines of its own, with counts, at a label of their own.
use Rattle.std.specs.Prelude.{◌≡◌, ◌⊎◌, ℕ, zero, suc, List, [], ◌∷◌, ◌++◌, length, map, Some, slice_get, drop}
use Rattle.c_core.specs.declared.code.Line.{Line}
use Rattle.c_core.specs.declared.code.Line.TheVariants as line
use Rattle.c_core.specs.declared.code.CFunc.{CFunc}
use Rattle.c_core.specs.declared.code.Code.{Code}
use Rattle.c_core.specs.Functions.{label_places}
use Rattle.ir_core.specs.declared.code.Op.{Op}
use Rattle.ir_core.specs.declared.code.Last.{Last}
use Rattle.ir_core.specs.declared.code.Last.TheVariants.{Goto, If, IfError, Return, Unreachable}
use Rattle.ir_core.specs.declared.code.Block.{Block}
use Rattle.ir_core.specs.declared.code.Func.{Func}
use Rattle.ir_core.specs.declared.code.Program.{Program}
use Rattle.ir_core.specs.Lower.{kind_of_type, variable_of, global_of, line_of, label_before, name_in}

abbrev pub IsCount : Line → Type 0
IsCount (line.Inc x) = Unit {0}
IsCount (line.Dec x) = Unit {0}
IsCount (line.XDec x) = Unit {0}
IsCount _ = ⊥

abbrev pub AreCounts : List Line → Type 0
AreCounts [] = Unit {0}
AreCounts (l ∷ ls) = IsCount l × AreCounts ls

-- the lines of operations, with counts in front of each and behind the last
abbrev pub AreOps : Program → List (Op × ℕ) → List Line → Type 0
AreOps p [] lines = AreCounts lines
AreOps p (o ∷ os) lines =
    (counts : List Line) × (rest : List Line) × AreCounts counts × (lines ≡ counts ++ (line_of p o.0 ∷ rest)) × AreOps p os rest

module _ (lines : List Line) (label : ℕ → ℕ) where
  -- a label of a line's own leads to block t, over counts
  pub record IsDetour (t n : ℕ) : Type 0 where
    pub place : ℕ
    pub counts : List Line
    pub rest : List Line
    pub at : slice_get (label_places lines) n ≡ Some place
    pub are_counts : AreCounts counts
    pub is : drop place lines ≡ line.Label ∷ (counts ++ (line.Goto (label t) ∷ rest))

  -- a jump to label n leads to block t
  abbrev pub LeadsTo : ℕ → ℕ → Type 0
  LeadsTo t n = (n ≡ label t) ⊎ IsDetour t n

  abbrev pub IsEnd : ℕ → Last → List Line → Type 0
  IsEnd k (Goto t) end = end ≡ line.Goto (label t) ∷ []
  IsEnd k (If r a b) end = (n : ℕ) × (m : ℕ) × (end ≡ line.If r.0 n m ∷ []) × LeadsTo a n × LeadsTo b m
  IsEnd k (IfError r a b source) end =
      (n : ℕ) × (m : ℕ) × (end ≡ line.IfError r.0 n m ∷ []) × LeadsTo a n × LeadsTo b m
  IsEnd k (Return r) end = end ≡ line.Return r.0 ∷ []
  IsEnd k Unreachable end = end ≡ line.Turn ∷ line.Goto (label k) ∷ []

  -- each block but the first stands at its label
  abbrev pub IsLabelled : ℕ → ℕ → Type 0
  IsLabelled zero place = place ≡ 0
  IsLabelled (suc k) place = slice_get (label_places lines) (label (suc k)) ≡ Some place

  pub record IsBlockAt (p : Program) (k place : ℕ) (b : Block) : Type 0 where
    pub labelled : IsLabelled k place
    pub body : List Line
    pub end : List Line
    pub rest : List Line
    pub is : drop place lines ≡ label_before k ++ (body ++ (end ++ rest))
    pub are_ops : AreOps p b.ops body
    pub is_end : IsEnd k b.last end

-- the places of the blocks, and their labels
pub record IsLaid (p : Program) (f : Func) (g : CFunc) : Type 0 where
  pub params : g.params ≡ f.params
  pub ret : g.ret ≡ kind_of_type f.ret
  pub vars : g.vars ≡ map variable_of f.regs
  pub place : ℕ → ℕ
  pub label : ℕ → ℕ
  pub blocks : (k : ℕ) (b : Block) → slice_get f.blocks k ≡ Some b → IsBlockAt g.lines label p k (place k) b

pub record IsLaidAt (p : Program) (code : Code) (n : ℕ) (f : Func) : Type 0 where
  pub fn : CFunc
  pub there : slice_get code.funcs n ≡ Some fn
  pub name : fn.name ≡ name_in p n f
  pub laid : IsLaid p f fn

pub record IsLowered (p : Program) (code : Code) : Type 0 where
  pub globals : code.globals ≡ map global_of p.globals
  pub classes : code.classes ≡ p.classes
  pub count : length code.funcs ≡ length p.funcs
  pub funcs : (n : ℕ) (f : Func) → slice_get p.funcs n ≡ Some f → IsLaidAt p code n f
