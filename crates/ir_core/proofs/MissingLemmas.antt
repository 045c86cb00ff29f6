-- The edges that are missing in a block, one by one.
use Rattle.std.proofs.Common.{◌≡◌, refl, sym, ◌∙◌, ap, ℕ, zero, suc, ◌+◌, ◌<◌, ◌≤◌, arith, List, [], ◌∷◌, ◌++◌, length, append_assoc, drop, get_or, Option, Some, None}
use Rattle.std.specs.Prelude.{slice_get}
use Rattle.std.specs.Option.{option_map}
use Rattle.std.proofs.lemmas.Option.{slice_get_read}
use Rattle.ir_core.specs.declared.code.Op.{Op}
use Rattle.ir_core.specs.declared.code.Last.{Last}
use Rattle.ir_core.specs.declared.code.Block.{Block}
use Rattle.ir_core.specs.declared.kind.Edge.{Edge}
use Rattle.ir_core.specs.declared.kind.Edge.TheVariants.{NoEdge}
use Rattle.ir_core.specs.Items.{Item, End, in_block, item_in}
use Rattle.ir_core.specs.Rows.{Declared, edge_of_op}
use Rattle.ir_core.specs.Missing.{missing, ahead, edges_in}

-- the edge of the operation at a place
edges_at : (regs : Declared) (all : List Block) (ops : List (Op × ℕ)) (last : Last) (i : ℕ) (o : Op × ℕ) → slice_get ops i ≡ Some o → edges_in regs all (drop i ops) last ≡ missing (item_in all) (edge_of_op regs o.0) (in_block (drop (i + 1) ops) last 0) ∷ edges_in regs all (drop (i + 1) ops) last
edges_at regs all [] last i o e = absurd (cc)
edges_at regs all (x ∷ ops) last zero o e =
    let same : x ≡ o = cc in
    ap (λ (y : Op × ℕ). missing (item_in all) (edge_of_op regs y.0) (in_block ops last 0) ∷ edges_in regs all ops last) same
edges_at regs all (x ∷ ops) last (suc i) o e = let z : suc i + 1 ≡ suc (i + 1) = omega arith in rw z (edges_at regs all ops last i o e)

pub edges_count : (regs : Declared) (all : List Block) (ops : List (Op × ℕ)) (last : Last) → length (edges_in regs all ops last) ≡ length ops
edges_count regs all [] last = refl
edges_count regs all (o ∷ ops) last = ap suc (edges_count regs all ops last)

-- what stands behind an operation
missing_ahead : (at : ℕ → ℕ → Option Item) (e : Edge) (os : List (Op × ℕ)) (last : Last) → missing at e (option_map End (ahead os last)) ≡ missing at e (in_block os last 0)
missing_ahead at e [] last = refl
missing_ahead at NoEdge (o ∷ os) last = refl
missing_ahead at _ (o ∷ os) last = refl

pub ahead_more : (ops : List (Op × ℕ)) (n : ℕ) (last : Last) → n < length ops → ahead (drop n ops) last ≡ None
ahead_more [] n last l = absurd (omega (arith, l))
ahead_more (x ∷ ops) zero last l = refl
ahead_more (x ∷ ops) (suc n) last l = ahead_more ops n last (omega (arith, l))

pub ahead_end : (ops : List (Op × ℕ)) (n : ℕ) (last : Last) → length ops ≤ n → ahead (drop n ops) last ≡ Some last
ahead_end [] zero last l = refl
ahead_end [] (suc n) last l = refl
ahead_end (x ∷ ops) zero last l = absurd (omega (arith, l))
ahead_end (x ∷ ops) (suc n) last l = ahead_end ops n last (omega (arith, l))

pub edges_more : (regs : Declared) (all : List Block) (ops : List (Op × ℕ)) (last : Last) (i : ℕ) (o : Op × ℕ) (edge : Edge) (end : Option Last) (done new : List Edge) → i < length ops → o ≡ get_or ops i o → end ≡ ahead (drop (i + 1) ops) last → edge ≡ missing (item_in all) (edge_of_op regs o.0) (option_map End end) → new ≡ done ++ edge ∷ [] → done ++ edges_in regs all (drop i ops) last ≡ edges_in regs all ops last → new ++ edges_in regs all (drop (i + 1) ops) last ≡ edges_in regs all ops last
edges_more regs all ops last i o edge end done new l get behind is pushed so_far =
    let there : slice_get ops i ≡ Some o = slice_get_read ops (length ops) i o refl l get in
    let rest : List Edge = edges_in regs all (drop (i + 1) ops) last in
    let found : edge ≡ missing (item_in all) (edge_of_op regs o.0) (in_block (drop (i + 1) ops) last 0) =
    is ∙ (ap (λ e. missing (item_in all) (edge_of_op regs o.0) (option_map End e)) behind ∙ missing_ahead (item_in all) (edge_of_op regs o.0) (drop (i + 1) ops) last) in
    ap (λ l. l ++ rest) pushed
    ∙ append_assoc done (edge ∷ []) rest
    ∙ ap (λ l. done ++ l) (ap (λ e. e ∷ rest) found ∙ sym (edges_at regs all ops last i o there))
    ∙ so_far
