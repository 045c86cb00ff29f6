-- Operations that are counts alone, each with a reason why it can be done.
use Rattle.std.proofs.Common.{◌≡◌, refl, sym, subst, ℕ, ◌<◌, arith, Bool, true, false, List, [], ◌∷◌, ◌++◌, Option}
use Rattle.std.specs.Prelude.{not}
use Rattle.c_core.specs.Cells.{times}
use Rattle.c_core.proofs.CountLemmas.{same_self}
use Rattle.ir_core.specs.declared.code.Op.{Op}
use Rattle.ir_core.specs.declared.code.Op.TheVariants.{Move, Lit, Prim, Call, Virtual, TraitCall, Turn, Inc, Dec, XDec}
use Rattle.ir_core.specs.Rows.{Declared}
use Rattle.liveness.specs.Paths.{is_target}
use Rattle.refcount_insert_rule.specs.Rule.{ups, down, downs, given_up, AreSure, AreUnsure, IsEdge}
use Rattle.refcount_insert_lines_laws.specs.Lines.{HasCells}

module _ (regs : Declared) where
  -- a count of a register that may have cells; P holds of one that is to hold a value
  abbrev pub IsCount : (ℕ → Type 0) → Op → Type 0
  IsCount P (Inc r) = HasCells regs r.0 × P r.0
  IsCount P (Dec r) = HasCells regs r.0 × P r.0
  IsCount P (XDec r) = HasCells regs r.0
  IsCount P _ = ⊥

  abbrev pub AreCounts : (ℕ → Type 0) → List (Op × ℕ) → Type 0
  AreCounts P [] = Unit {0}
  AreCounts P (o ∷ os) = IsCount P o.0 × AreCounts P os

  module _ (P : ℕ → Type 0) where
    pub counts_append : (xs ys : List (Op × ℕ)) → AreCounts P xs → AreCounts P ys → AreCounts P (xs ++ ys)
    counts_append [] ys c d = d
    counts_append (x ∷ xs) ys c d = (c.0, counts_append xs ys c.1 d)

    pub ups_count : (rs : List ℕ) (line : ℕ) → ((r : ℕ) → 0 < times rs r → HasCells regs r × P r) → AreCounts P (ups rs line)
    ups_count [] line h = tt
    ups_count (r ∷ rs) line h =
        let first = h r (omega (arith, same_self r)) in
        (first, ups_count rs line (λ x some. h x (omega (arith, some))))

    one_down : (b : Bool) (r : ℕ) → HasCells regs r → (b ≡ true → P r) → IsCount P (down b r)
    one_down true r cells held = (cells, held refl)
    one_down false r cells held = cells

    not_true : (b z : Bool) → b ≡ not z → b ≡ true → z ≡ false
    not_true b true e is = absurd (cc)
    not_true b false e is = refl

    pub sure_count : (to : Option ℕ) (ds : List (ℕ × Bool)) (line : ℕ) → AreSure to ds → ((r : ℕ) → 0 < times (given_up ds) r → HasCells regs r) → ((r : ℕ) → 0 < times (given_up ds) r → is_target to r ≡ false → P r) → AreCounts P (downs ds line)
    sure_count to [] line sure cells held = tt
    sure_count to (d ∷ ds) line sure cells held =
        let some : 0 < times (given_up (d ∷ ds)) d.0 = omega (arith, same_self d.0) in (
          one_down d.1 d.0 (cells d.0 some) (λ is. held d.0 some (not_true d.1 (is_target to d.0) sure.0 is)),
          sure_count to ds line sure.1 (λ x more. cells x (omega (arith, more))) (λ x more calm. held x (omega (arith, more)) calm),
        )

    pub unsure_count : (ds : List (ℕ × Bool)) (line : ℕ) → AreUnsure ds → ((r : ℕ) → 0 < times (given_up ds) r → HasCells regs r) → AreCounts P (downs ds line)
    unsure_count [] line unsure cells = tt
    unsure_count (d ∷ ds) line unsure cells =
        let some : 0 < times (given_up (d ∷ ds)) d.0 = omega (arith, same_self d.0) in (
          one_down d.1 d.0 (cells d.0 some) (λ is. let bad : d.1 ≡ false = unsure.0 in absurd (cc)),
          unsure_count ds line unsure.1 (λ x more. cells x (omega (arith, more))),
        )

    -- the counts of an edge
    pub edge_count : (have want : ℕ → ℕ) (ops : List (Op × ℕ)) → IsEdge have want ops → ((r : ℕ) → have r < want r → HasCells regs r × P r) → ((r : ℕ) → want r < have r → HasCells regs r) → AreCounts P ops
    edge_count have want ops e short over =
        subst (AreCounts P) (sym e.is) (counts_append (ups e.up 0) (downs e.down 0) (ups_count e.up 0 (λ r some. short r (omega (arith, some, e.short r)))) (unsure_count e.down 0 e.unsure (λ r some. over r (omega (arith, some, e.over r)))))

  module _ (P Q : ℕ → Type 0) where
    one_more : (o : Op) → ((r : ℕ) → HasCells regs r → P r → Q r) → IsCount P o → IsCount Q o
    one_more (Move r s) h c = absurd c
    one_more (Lit r l) h c = absurd c
    one_more (Prim to q args) h c = absurd c
    one_more (Call r g args) h c = absurd c
    one_more (Virtual r o n args) h c = absurd c
    one_more (TraitCall r o t n args) h c = absurd c
    one_more Turn h c = absurd c
    one_more (Inc r) h c = (c.0, h r.0 c.0 c.1)
    one_more (Dec r) h c = (c.0, h r.0 c.0 c.1)
    one_more (XDec r) h c = c

    -- a reason that follows from another one
    pub counts_by : (ops : List (Op × ℕ)) → ((r : ℕ) → HasCells regs r → P r → Q r) → AreCounts P ops → AreCounts Q ops
    counts_by [] h c = tt
    counts_by (o ∷ os) h c = (one_more o.0 h c.0, counts_by os h c.1)
