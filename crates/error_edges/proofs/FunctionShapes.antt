-- One function with edges: its blocks have their shape, and its lines are spelled and fit.
use Rattle.std.proofs.Common.{◌≡◌, refl, sym, ◌∙◌, ap, subst, ℕ, zero, suc, ◌+◌, ◌^◌, ◌<◌, arith, true, List, [], ◌∷◌, ◌++◌, length, map, Some, None}
use Rattle.std.specs.Prelude.{slice_get, ◌&&◌, IsTrue, codes}
use Rattle.std.specs.List.{list_all}
use Rattle.std.specs.Option.{option_map}
use Rattle.std.proofs.lemmas.Bool.{and_from, and_parts, lt-ltb}
use Rattle.std.proofs.lemmas.List.{length-map}
use Rattle.c_core.specs.declared.code.Kind.{Kind}
use Rattle.c_core.specs.declared.code.Kind.TheVariants.{Char}
use Rattle.c_core.specs.declared.code.Line.{Line}
use Rattle.c_core.specs.declared.code.Line.TheVariants as line
use Rattle.c_core.specs.Primitives.{row_of}
use Rattle.c_core.specs.WellFormed.{Declared as Variable, is_call_name, spelled_arg, spelled_literal, spelled_label, is_declared, kind_at, spelled_line, has_kind, literal_fits, line_fits}
use Rattle.ir_core.specs.declared.code.RType.{RType}
use Rattle.ir_core.specs.declared.code.RType.TheVariants.{Int, I64, Bool as BoolType, Ref}
use Rattle.ir_core.specs.declared.code.Reg.{Reg}
use Rattle.ir_core.specs.declared.code.Op.{Op}
use Rattle.ir_core.specs.declared.code.Op.TheVariants.{Move, Lit, Prim, Call, Virtual, TraitCall, Turn, Inc, Dec, XDec}
use Rattle.ir_core.specs.declared.code.Last.{Last}
use Rattle.ir_core.specs.declared.code.Last.TheVariants.{Goto, If, IfError, Return, Unreachable}
use Rattle.ir_core.specs.declared.code.Block.{Block}
use Rattle.ir_core.specs.declared.code.Func.{Func}
use Rattle.ir_core.specs.declared.code.Program.{Program}
use Rattle.ir_core.specs.declared.code.ErrorKind.{ErrorKind}
use Rattle.ir_core.specs.declared.code.ErrorKind.TheVariants.{Never, Magic, Always, MagicOverlapping}
use Rattle.ir_core.specs.Rows.{Declared, type_of_reg, kind_by_result, error_kind, edge_of_kind, edge_of_op}
use Rattle.ir_core.specs.Lower.{kind_of_type, variable_of, argument_in, register_in, literal_in, called_as, line_of, op_lines, label_before, label_of, end_lines, block_lines, lines_from, lower}
use Rattle.ir_core.specs.Shape.{op_fits, OpsFit, LastFits, BlocksFit, FuncFits}
use Rattle.ir_core.proofs.TextLemmas.{LineIs, LinesAre, lines_append, lines_parts, line_same, same_self}
use Rattle.error_edges.specs.Layout.{needs_flag, needs_exit, asking, flag_register, error_register, error_literal}
use Rattle.error_edges.specs.Edged.{IsEdged}
use Rattle.error_edges.proofs.Laid.{Asked}
use Rattle.error_edges.proofs.RegisterLemmas.{type_within}
use Rattle.error_edges.proofs.Laying.{more_regs, asked, grown_there, grown_count}
use Rattle.error_edges.proofs.Numbers.{laid_same}
use Rattle.error_edges.proofs.BlockShapes.{OpsAre, EndIs, EdgeIs, BlocksAre, blocks_fit, laid_fit}
use Rattle.error_edges.proofs.Giving.{kind_there}
use Rattle.error_edges.proofs.LineLemmas.{CodeKept, spelled_more, fits_more}
use Rattle.error_edges.proofs.SpellingLemmas.{map_append, question_spelled}

-- ---- one function
module _ (p q : Program) (kept : CodeKept (lower p) (lower q)) (classes : q.classes ≡ p.classes) (calls : (n : ℕ) → called_as q n ≡ called_as p n) (f g : Func) (edged : IsEdged f g) where
  abbrev old : List Variable
  old = map variable_of f.regs

  abbrev vars : List Variable
  vars = map variable_of g.regs

  abbrev ret : Kind
  ret = kind_of_type f.ret

  more_vars : vars ≡ old ++ map variable_of (more_regs f g edged).0
  more_vars = ap (map variable_of) (more_regs f g edged).1 ∙ map_append variable_of f.regs (more_regs f g edged).0

  -- ---- registers, operations and ends
  abbrev D : Reg → Type 0
  D r = is_declared vars r.0 ≡ true

  abbrev R : Reg → Type 0
  R r = has_kind ret (kind_at vars r.0) ≡ true

  abbrev New : Line → Type 0
  New l = LineIs (lower q) vars ret l

  abbrev O : Op → Type 0
  O o = IsTrue (op_fits o) × New (line_of q o)

  line_kept : (l : Line) → LineIs (lower p) old ret l → New l
  line_kept l h =
      let more : List Variable = map variable_of (more_regs f g edged).0 in
      (ap (λ vs. spelled_line vs l) more_vars ∙ spelled_more old more l h.0, ap (λ vs. line_fits (lower q) vs ret l) more_vars ∙ fits_more old more (lower p) (lower q) kept ret l h.1)

  -- ---- the old blocks
  ops_kept : (ops : List (Op × ℕ)) → OpsFit ops → LinesAre (lower p) old ret (op_lines p ops) → OpsAre D R O ops
  ops_kept [] fits h = tt
  ops_kept (o ∷ os) fits h =
      ((fits.0, subst New (sym (line_same p q classes calls o.0)) (line_kept (line_of p o.0) h.0)), ops_kept os fits.1 h.1)

  end_kept : (k : ℕ) (last : Last) → LinesAre (lower p) old ret (end_lines label_of k last) → EndIs D R O last
  end_kept k (Goto t) h = tt
  end_kept k (If r a b) h =
      let l : Line = line.If r.0 (label_of a) (label_of b) in
      (and_parts (is_declared vars r.0) (spelled_label (label_of a) && spelled_label (label_of b)) (line_kept l h.0).0).0
  end_kept k (IfError r a b source) h =
      let l : Line = line.IfError r.0 (label_of a) (label_of b) in
      (and_parts (is_declared vars r.0) (spelled_label (label_of a) && spelled_label (label_of b)) (line_kept l h.0).0).0
  end_kept k (Return r) h = line_kept (line.Return r.0) h.0
  end_kept k Unreachable h = tt

  blocks_kept : (size k : ℕ) (bs : List Block) → BlocksFit size k bs → LinesAre (lower p) old ret (lines_from p k bs) → BlocksAre D R O size k bs
  blocks_kept size k [] fits h = tt
  blocks_kept size k (b ∷ bs) fits h =
      let both = lines_parts (lower p) old ret (block_lines p k b) (lines_from p (suc k) bs) h in
      let body = (lines_parts (lower p) old ret (label_before k) (op_lines p b.ops ++ end_lines label_of k b.last) both.0).1 in
      let parts = lines_parts (lower p) old ret (op_lines p b.ops) (end_lines label_of k b.last) body in (
        record { fits = fits.0; ops = ops_kept b.ops fits.0.ops parts.0; end = end_kept k b.last parts.1 },
        blocks_kept size (suc k) bs fits.1 both.1,
      )

  -- ---- the edge of an operation tests its target
  edge_is : (k : ErrorKind) (r : Reg) → D r → EdgeIs D R O (edge_of_kind k (Some r))
  edge_is Never r d = tt
  edge_is Magic r d = d
  edge_is Always r d = tt
  edge_is MagicOverlapping r d = d

  edge_none : (k : ErrorKind) → EdgeIs D R O (edge_of_kind k None)
  edge_none Never = tt
  edge_none Magic = tt
  edge_none Always = tt
  edge_none MagicOverlapping = tt

  -- the target of a call is declared
  target_of_call : (r : Reg) (name : List ℕ) (args : List _) → spelled_line vars (line.Call (Some r.0) name args) ≡ true → D r
  target_of_call r name args e =
      (and_parts (is_declared vars r.0) (is_call_name name && list_all (spelled_arg vars) args) e).0

  edge : (o : Op) → O o → EdgeIs D R O (edge_of_op f.regs o)
  edge (Move r s) h = tt
  edge (Lit r l) h = tt
  edge (Prim None c args) h = edge_none (error_kind c None)
  edge (Prim (Some r) c args) h =
      edge_is (error_kind c (type_of_reg f.regs r)) r (target_of_call r (row_of c).name (map argument_in args) h.1.0)
  edge (Call r n args) h =
      edge_is (kind_by_result (type_of_reg f.regs r)) r (target_of_call r (called_as q n) (map register_in args) h.1.0)
  edge (Virtual r o n args) h =
      edge_is (kind_by_result (type_of_reg f.regs r)) r (and_parts (is_declared vars r.0) _ h.1.0).0
  edge (TraitCall r o t n args) h =
      edge_is (kind_by_result (type_of_reg f.regs r)) r (and_parts (is_declared vars r.0) _ h.1.0).0
  edge Turn h = tt
  edge (Inc r) h = tt
  edge (Dec r) h = tt
  edge (XDec r) h = tt

  -- ---- the registers that are added
  kind_known : (r : Reg) (t : RType) → type_of_reg g.regs r ≡ Some t → kind_at vars r.0 ≡ Some (kind_of_type t)
  kind_known r t e = kind_there g.regs r.0 t e

  declared : (r : Reg) (t : RType) → type_of_reg g.regs r ≡ Some t → D r
  declared r t e =
      let lt = type_within g.regs r t e in
      lt-ltb r.0 (length vars) (omega (arith, lt, length-map g.regs variable_of))

  answered : needs_flag f.regs f.blocks ≡ true → O (asking (flag_register f.regs)) × D (flag_register f.regs)
  answered e =
      let r : Reg = flag_register f.regs in
      let kind : Asked g r = asked f g edged e in
      let there : D r = declared r BoolType kind in (
        (
          refl,
          (
            and_from (is_declared vars r.0) (is_call_name (codes "CPyErr_Occurred") && true) there (and_from (is_call_name (codes "CPyErr_Occurred")) true question_spelled refl),
            ap (has_kind Char) (kind_known r BoolType kind),
          ),
        ),
        there,
      )

  error_spelled : (t : RType) → spelled_literal (literal_in (error_literal t)) ≡ true
  error_spelled Int = refl
  error_spelled I64 = refl
  error_spelled BoolType = refl
  error_spelled Ref = refl

  error_fits : (t : RType) → literal_fits (literal_in (error_literal t)) (Some (kind_of_type t)) ≡ true
  error_fits Int = refl
  error_fits I64 = refl
  error_fits BoolType = refl
  error_fits Ref = refl

  given : needs_exit f.regs f.blocks ≡ true → O (Lit (error_register f.regs f.blocks) (error_literal f.ret)) × D (error_register f.regs f.blocks) × R (error_register f.regs f.blocks)
  given e =
      let r : Reg = error_register f.regs f.blocks in
      let count : length edged.between ≡ r.0 = grown_count (needs_flag f.regs f.blocks) BoolType f.regs edged.between edged.flag in
      let kind : type_of_reg g.regs r ≡ Some f.ret =
      ap (λ n. type_of_reg g.regs (record { 0 = n })) (sym count) ∙ grown_there (needs_exit f.regs f.blocks) f.ret edged.between g.regs edged.error e in
      let there : D r = declared r f.ret kind in
      let at = kind_known r f.ret kind in (
        (
          refl,
          (
            and_from (is_declared vars r.0) (spelled_literal (literal_in (error_literal f.ret))) there (error_spelled f.ret),
            ap (literal_fits (literal_in (error_literal f.ret))) at ∙ error_fits f.ret,
          ),
        ),
        there,
        ap (has_kind ret) at ∙ same_self ret,
      )

  -- ---- the blocks of the function with edges
  pub blocks_are : FuncFits f → LinesAre (lower p) old ret (lines_from p 0 f.blocks) → BlocksAre D R O (length g.blocks) 0 g.blocks
  blocks_are fits h =
      subst (λ bs. BlocksAre D R O (length bs) 0 bs) (laid_same f.regs f.ret f.blocks ∙ sym edged.blocks)
      (laid_fit D R O f.regs (λ o h. h.0) edge f.blocks f.ret answered given (blocks_kept (length f.blocks) 0 f.blocks fits h))

  pub func_fits : FuncFits f → LinesAre (lower p) old ret (lines_from p 0 f.blocks) → FuncFits g
  func_fits fits h = blocks_fit D R O (length g.blocks) 0 g.blocks (blocks_are fits h)

  -- ---- its lines
  label_spelled : (t : ℕ) → t < length g.blocks → spelled_label (label_of t) ≡ true
  label_spelled t lt = lt-ltb (label_of t) (2 ^ 64) (omega (arith, lt, edged.few))

  ops_are : (ops : List (Op × ℕ)) → OpsAre D R O ops → LinesAre (lower q) vars ret (op_lines q ops)
  ops_are [] h = tt
  ops_are (o ∷ os) h = (h.0.1, ops_are os h.1)

  labels : (a b : ℕ) → a < length g.blocks → b < length g.blocks → (spelled_label (label_of a) && spelled_label (label_of b)) ≡ true
  labels a b l m = and_from (spelled_label (label_of a)) (spelled_label (label_of b)) (label_spelled a l) (label_spelled b m)

  end_is : (k : ℕ) (ops : List (Op × ℕ)) (last : Last) → k < length g.blocks → LastFits (length g.blocks) k ops last → EndIs D R O last → LinesAre (lower q) vars ret (end_lines label_of k last)
  end_is k ops (Goto t) lt fits h = ((label_spelled t fits.1, refl), tt)
  end_is k ops (If r a b) lt fits h =
      ((and_from (is_declared vars r.0) (spelled_label (label_of a) && spelled_label (label_of b)) h (labels a b fits.0.1 fits.1.1), refl), tt)
  end_is k ops (IfError r a b source) lt fits h =
      ((and_from (is_declared vars r.0) (spelled_label (label_of a) && spelled_label (label_of b)) h (labels a b fits.0.1 fits.1.1), refl), tt)
  end_is k ops (Return r) lt fits h = ((h.0, h.1), tt)
  end_is k ops Unreachable lt fits h = ((refl, refl), ((label_spelled k lt, refl), tt))

  label_is : (k : ℕ) → LinesAre (lower q) vars ret (label_before k)
  label_is zero = tt
  label_is (suc k) = ((refl, refl), tt)

  lines_are : (k : ℕ) (bs : List Block) → k + length bs ≡ length g.blocks → BlocksAre D R O (length g.blocks) k bs → LinesAre (lower q) vars ret (lines_from q k bs)
  lines_are k [] e h = tt
  lines_are k (b ∷ bs) e h =
      let ops : List Line = op_lines q b.ops in
      let end : List Line = end_lines label_of k b.last in
      let body : LinesAre (lower q) vars ret (ops ++ end) =
      lines_append (lower q) vars ret ops end (ops_are b.ops h.0.ops) (end_is k b.ops b.last (omega (arith, e)) h.0.fits.last h.0.end) in
      lines_append (lower q) vars ret (block_lines q k b) (lines_from q (suc k) bs) (lines_append (lower q) vars ret (label_before k) (ops ++ end) (label_is k) body)
      (lines_are (suc k) bs (omega (arith, e)) h.1)

  pub function_lines : FuncFits f → LinesAre (lower p) old ret (lines_from p 0 f.blocks) → LinesAre (lower q) vars ret (lines_from q 0 g.blocks)
  function_lines fits h =
      let none : 0 + length g.blocks ≡ length g.blocks = omega arith in
      lines_are 0 g.blocks none (blocks_are fits h)
