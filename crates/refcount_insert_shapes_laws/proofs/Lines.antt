-- From lines that are spelled and fit to the operations and ends of blocks, and from those of the blocks with counts back to their lines.
use Rattle.std.proofs.Common.{◌≡◌, refl, ℕ, zero, suc, ◌+◌, ◌^◌, ◌<◌, ◌≤◌, arith, true, List, [], ◌∷◌, ◌++◌, length, map, Some}
use Rattle.std.specs.Prelude.{◌&&◌}
use Rattle.std.proofs.lemmas.Bool.{and_from, and_parts, lt-ltb}
use Rattle.c_core.specs.declared.code.Kind.{Kind}
use Rattle.c_core.specs.declared.code.Line.{Line}
use Rattle.c_core.specs.declared.code.Line.TheVariants as line
use Rattle.c_core.specs.declared.code.Code.{Code}
use Rattle.c_core.specs.WellFormed.{Declared as Variable, spelled_label, is_declared, kind_at, is_counted_kind}
use Rattle.ir_core.specs.declared.code.RType.{RType}
use Rattle.ir_core.specs.declared.code.RType.TheVariants.{Int, I64, Bool as BoolType, Ref}
use Rattle.ir_core.specs.declared.code.Op.{Op}
use Rattle.ir_core.specs.declared.code.Op.TheVariants.{Inc, Dec, XDec}
use Rattle.ir_core.specs.declared.code.Last.{Last}
use Rattle.ir_core.specs.declared.code.Last.TheVariants.{Goto, If, IfError, Return, Unreachable}
use Rattle.ir_core.specs.declared.code.Block.{Block}
use Rattle.ir_core.specs.declared.code.Program.{Program}
use Rattle.ir_core.specs.Rows.{Declared}
use Rattle.ir_core.specs.Lower.{kind_of_type, variable_of, line_of, op_lines, label_before, label_of, end_lines, block_lines, lines_from}
use Rattle.ir_core.specs.Shape.{LastFits, BlocksFit}
use Rattle.ir_core.proofs.TextLemmas.{LineIs, LinesAre, lines_append, lines_parts}
use Rattle.refcount_insert_rule.specs.Rule.{is_counted}
use Rattle.refcount_insert_rule.specs.Counted.{counts_register}
use Rattle.refcount_insert_shapes_laws.proofs.Bodies.{AllOps}
use Rattle.refcount_insert_shapes_laws.proofs.Blocks.{EndIs, BlocksAre}

-- ---- a counted register is a variable of a counted kind
counted_type : (vars : List Variable) (t : RType) → is_counted t ≡ true → is_counted_kind vars (Some (kind_of_type t)) ≡ true
counted_type vars Int e = refl
counted_type vars I64 e = absurd (cc)
counted_type vars BoolType e = absurd (cc)
counted_type vars Ref e = refl

counted_kind : (vars : List Variable) (regs : Declared) (r : ℕ) → counts_register regs r ≡ true → is_counted_kind vars (kind_at (map variable_of regs) r) ≡ true
counted_kind vars [] r e = absurd (cc)
counted_kind vars (d ∷ ds) zero e = counted_type vars d.1 e
counted_kind vars (d ∷ ds) (suc r) e = counted_kind vars ds r e

-- ---- lines of a function with these variables and this result
module _ (code : Code) (vars : List Variable) (ret : Kind) where
  module _ (p : Program) where
    abbrev pub D : ℕ → Type 0
    D r = is_declared vars r ≡ true

    abbrev pub R : ℕ → Type 0
    R r = LineIs code vars ret (line.Return r)

    abbrev pub O : Op → Type 0
    O o = LineIs code vars ret (line_of p o)

    -- ---- from lines to blocks
    ops_of : (ops : List (Op × ℕ)) → LinesAre code vars ret (op_lines p ops) → AllOps O ops
    ops_of [] h = tt
    ops_of (o ∷ os) h = (h.0, ops_of os h.1)

    end_of : (k : ℕ) (last : Last) → LinesAre code vars ret (end_lines label_of k last) → EndIs D R O last
    end_of k (Goto t) h = tt
    end_of k (If r a b) h = (and_parts (is_declared vars r.0) (spelled_label (label_of a) && spelled_label (label_of b)) h.0.0).0
    end_of k (IfError r a b source) h = (and_parts (is_declared vars r.0) (spelled_label (label_of a) && spelled_label (label_of b)) h.0.0).0
    end_of k (Return r) h = h.0
    end_of k Unreachable h = tt

    pub blocks_of : (size k : ℕ) (bs : List Block) → BlocksFit size k bs → LinesAre code vars ret (lines_from p k bs) → BlocksAre D R O size k bs
    blocks_of size k [] fits h = tt
    blocks_of size k (b ∷ bs) fits h =
        let both = lines_parts code vars ret (block_lines p k b) (lines_from p (suc k) bs) h in
        let body = (lines_parts code vars ret (label_before k) (op_lines p b.ops ++ end_lines label_of k b.last) both.0).1 in
        let parts = lines_parts code vars ret (op_lines p b.ops) (end_lines label_of k b.last) body in
        (record { last = fits.0.last; ops = ops_of b.ops parts.0; end = end_of k b.last parts.1 }, blocks_of size (suc k) bs fits.1 both.1)

    -- ---- from blocks to lines
    of_ops : (ops : List (Op × ℕ)) → AllOps O ops → LinesAre code vars ret (op_lines p ops)
    of_ops [] h = tt
    of_ops (o ∷ os) h = (h.0, of_ops os h.1)

    module _ (size : ℕ) (few : size ≤ 2 ^ 64) where
      label_spelled : (t : ℕ) → t < size → spelled_label (label_of t) ≡ true
      label_spelled t lt = lt-ltb (label_of t) (2 ^ 64) (omega (arith, lt, few))

      labels : (a b : ℕ) → a < size → b < size → (spelled_label (label_of a) && spelled_label (label_of b)) ≡ true
      labels a b l m = and_from (spelled_label (label_of a)) (spelled_label (label_of b)) (label_spelled a l) (label_spelled b m)

      of_end : (k : ℕ) (ops : List (Op × ℕ)) (last : Last) → k < size → LastFits size k ops last → EndIs D R O last → LinesAre code vars ret (end_lines label_of k last)
      of_end k ops (Goto t) lt fits h = ((label_spelled t fits.1, refl), tt)
      of_end k ops (If r a b) lt fits h =
          ((and_from (is_declared vars r.0) (spelled_label (label_of a) && spelled_label (label_of b)) h (labels a b fits.0.1 fits.1.1), refl), tt)
      of_end k ops (IfError r a b source) lt fits h =
          ((and_from (is_declared vars r.0) (spelled_label (label_of a) && spelled_label (label_of b)) h (labels a b fits.0.1 fits.1.1), refl), tt)
      of_end k ops (Return r) lt fits h = (h, tt)
      of_end k ops Unreachable lt fits h = ((refl, refl), ((label_spelled k lt, refl), tt))

      of_label : (k : ℕ) → LinesAre code vars ret (label_before k)
      of_label zero = tt
      of_label (suc k) = ((refl, refl), tt)

      pub of_blocks : (k : ℕ) (bs : List Block) → k + length bs ≡ size → BlocksAre D R O size k bs → LinesAre code vars ret (lines_from p k bs)
      of_blocks k [] e h = tt
      of_blocks k (b ∷ bs) e h =
          let ops : List Line = op_lines p b.ops in
          let end : List Line = end_lines label_of k b.last in
          let body : LinesAre code vars ret (ops ++ end) = lines_append code vars ret ops end (of_ops b.ops h.0.ops) (of_end k b.ops b.last (omega (arith, e)) h.0.last h.0.end) in
          lines_append code vars ret (block_lines p k b) (lines_from p (suc k) bs) (lines_append code vars ret (label_before k) (ops ++ end) (of_label k) body)
          (of_blocks (suc k) bs (omega (arith, e)) h.1)

-- ---- the lines of counts
pub counts_are : (code : Code) (ret : Kind) (p : Program) (regs : Declared) (r : ℕ) → counts_register regs r ≡ true → O code (map variable_of regs) ret p (Inc record { 0 = r }) × O code (map variable_of regs) ret p (Dec record { 0 = r }) × O code (map variable_of regs) ret p (XDec record { 0 = r })
counts_are code ret p regs r e =
    let kind = counted_kind (map variable_of regs) regs r e in ((kind, refl), (kind, refl), (kind, refl))
