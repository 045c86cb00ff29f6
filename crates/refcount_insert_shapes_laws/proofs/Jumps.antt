-- Where jumps lead follows from how blocks end, whatever their operations are, counts too: only turns among these matter.
use Rattle.std.proofs.Common.{◌≡◌, refl, sym, ◌∙◌, ap, subst, ℕ, zero, suc, ◌+◌, Bool, true, false, cond, List, None, [], ◌∷◌, ◌++◌, length, map, ⊎_elim, inl, inr}
use Rattle.std.specs.Prelude.{◌&&◌}
use Rattle.std.proofs.lemmas.List.{length-map}
use Rattle.c_core.specs.declared.code.Line.{Line}
use Rattle.c_core.specs.declared.code.Line.TheVariants as line
use Rattle.c_core.specs.declared.code.CLit.TheVariants as c_lit
use Rattle.c_core.specs.Functions.{is_label, is_turn, labels_from, label_places}
use Rattle.c_core.specs.WellFormed.{jump_fits, jumps_fit}
use Rattle.ir_core.specs.declared.code.Lit.TheVariants.{Null}
use Rattle.ir_core.specs.declared.code.Op.{Op}
use Rattle.ir_core.specs.declared.code.Op.TheVariants.{Move, Lit, Prim, Call, Virtual, TraitCall, Turn, Inc, Dec, XDec}
use Rattle.ir_core.specs.declared.code.Last.{Last}
use Rattle.ir_core.specs.declared.code.Last.TheVariants.{Goto, If, IfError, Return, Unreachable}
use Rattle.ir_core.specs.declared.code.Block.{Block}
use Rattle.ir_core.specs.declared.code.Program.{Program}
use Rattle.ir_core.specs.Lower.{line_of, op_lines, label_before, label_of, end_lines, block_lines, lines_from}
use Rattle.ir_core.specs.Shape.{ends_in_turn, OpsFit, LastFits, BlocksFit}
use Rattle.ir_core.specs.Shape as shape
use Rattle.ir_core.proofs.JumpLemmas.{jumps_go}

-- how each block ends fits, of so many blocks, the first of which has this number
abbrev pub LastsFit : ℕ → ℕ → List Block → Type 0
LastsFit size k [] = Unit {0}
LastsFit size k (b ∷ bs) = LastFits size k b.ops b.last × LastsFit size (suc k) bs

-- ---- each operation but a turn, and each line that it is, is made one that does nothing
abbrev stilled : Op → Op
stilled Turn = Turn
stilled _ = Lit record { 0 = 0 } Null

abbrev still_op : Op × ℕ → Op × ℕ
still_op o = (stilled o.0, o.1)

abbrev still : Block → Block
still b = record { ops = map still_op b.ops; last = b.last; handler = None }

abbrev quiet : Line → Line
quiet (line.Move x y) = line.Lit 0 c_lit.Null
quiet (line.Lit x l) = line.Lit 0 c_lit.Null
quiet (line.Call x name args) = line.Lit 0 c_lit.Null
quiet (line.Virtual x o n args) = line.Lit 0 c_lit.Null
quiet (line.TraitCall x o t n args) = line.Lit 0 c_lit.Null
quiet (line.Inc x) = line.Lit 0 c_lit.Null
quiet (line.Dec x) = line.Lit 0 c_lit.Null
quiet (line.XDec x) = line.Lit 0 c_lit.Null
quiet l = l

quiet_label : (l : Line) → is_label (quiet l) ≡ is_label l
quiet_label (line.Label) = refl
quiet_label (line.Move x y) = refl
quiet_label (line.Lit x l) = refl
quiet_label (line.Call x name args) = refl
quiet_label (line.Virtual x o n args) = refl
quiet_label (line.TraitCall x o t n args) = refl
quiet_label (line.Goto n) = refl
quiet_label (line.If x n m) = refl
quiet_label (line.IfError x n m) = refl
quiet_label (line.Turn) = refl
quiet_label (line.Return x) = refl
quiet_label (line.Inc x) = refl
quiet_label (line.Dec x) = refl
quiet_label (line.XDec x) = refl

quiet_turn : (l : Line) → is_turn (quiet l) ≡ is_turn l
quiet_turn (line.Label) = refl
quiet_turn (line.Move x y) = refl
quiet_turn (line.Lit x l) = refl
quiet_turn (line.Call x name args) = refl
quiet_turn (line.Virtual x o n args) = refl
quiet_turn (line.TraitCall x o t n args) = refl
quiet_turn (line.Goto n) = refl
quiet_turn (line.If x n m) = refl
quiet_turn (line.IfError x n m) = refl
quiet_turn (line.Turn) = refl
quiet_turn (line.Return x) = refl
quiet_turn (line.Inc x) = refl
quiet_turn (line.Dec x) = refl
quiet_turn (line.XDec x) = refl

quiet_jump : (labels : List ℕ) (q : ℕ) (a : Bool) (l : Line) → jump_fits labels q a (quiet l) ≡ jump_fits labels q a l
quiet_jump labels q a (line.Label) = refl
quiet_jump labels q a (line.Move x y) = refl
quiet_jump labels q a (line.Lit x l) = refl
quiet_jump labels q a (line.Call x name args) = refl
quiet_jump labels q a (line.Virtual x o n args) = refl
quiet_jump labels q a (line.TraitCall x o t n args) = refl
quiet_jump labels q a (line.Goto n) = refl
quiet_jump labels q a (line.If x n m) = refl
quiet_jump labels q a (line.IfError x n m) = refl
quiet_jump labels q a (line.Turn) = refl
quiet_jump labels q a (line.Return x) = refl
quiet_jump labels q a (line.Inc x) = refl
quiet_jump labels q a (line.Dec x) = refl
quiet_jump labels q a (line.XDec x) = refl

quiet_labels : (n : ℕ) (ls : List Line) → labels_from n (map quiet ls) ≡ labels_from n ls
quiet_labels n [] = refl
quiet_labels n (l ∷ ls) =
    ap (λ b. cond b (n ∷ labels_from (n + 1) (map quiet ls)) (labels_from (n + 1) (map quiet ls))) (quiet_label l)
    ∙ ap (λ rest. cond (is_label l) (n ∷ rest) rest) (quiet_labels (n + 1) ls)

quiet_jumps : (labels : List ℕ) (q : ℕ) (a : Bool) (ls : List Line) → jumps_fit labels q a (map quiet ls) ≡ jumps_fit labels q a ls
quiet_jumps labels q a [] = refl
quiet_jumps labels q a (l ∷ ls) =
    ap (λ b. b && jumps_fit labels (q + 1) (is_turn (quiet l)) (map quiet ls)) (quiet_jump labels q a l)
    ∙ (ap (λ t. jump_fits labels q a l && jumps_fit labels (q + 1) t (map quiet ls)) (quiet_turn l)
    ∙ ap (λ b. jump_fits labels q a l && b) (quiet_jumps labels (q + 1) (is_turn l) ls))

map_append : {A B : Type 0} (g : A → B) (xs ys : List A) → map g (xs ++ ys) ≡ map g xs ++ map g ys
map_append g [] ys = refl
map_append g (x ∷ xs) ys = ap (λ l. g x ∷ l) (map_append g xs ys)

-- ---- the lines of stilled blocks
quiet_end : (k : ℕ) (last : Last) → map quiet (end_lines label_of k last) ≡ end_lines label_of k last
quiet_end k (Goto t) = refl
quiet_end k (If r a b) = refl
quiet_end k (IfError r a b source) = refl
quiet_end k (Return r) = refl
quiet_end k Unreachable = refl

quiet_before : (k : ℕ) → map quiet (label_before k) ≡ label_before k
quiet_before zero = refl
quiet_before (suc k) = refl

module _ (p : Program) where
  still_line : (o : Op) → line_of p (stilled o) ≡ quiet (line_of p o)
  still_line (Move r s) = refl
  still_line (Lit r l) = refl
  still_line (Prim to q args) = refl
  still_line (Call r g args) = refl
  still_line (Virtual r o n args) = refl
  still_line (TraitCall r o t n args) = refl
  still_line Turn = refl
  still_line (Inc r) = refl
  still_line (Dec r) = refl
  still_line (XDec r) = refl

  still_lines : (ops : List (Op × ℕ)) → op_lines p (map still_op ops) ≡ map quiet (op_lines p ops)
  still_lines [] = refl
  still_lines (o ∷ os) =
      ap (λ l. l ∷ op_lines p (map still_op os)) (still_line o.0) ∙ ap (λ ls. quiet (line_of p o.0) ∷ ls) (still_lines os)

  still_block : (k : ℕ) (b : Block) → block_lines p k (still b) ≡ map quiet (block_lines p k b)
  still_block k b =
      let ops : List Line = op_lines p b.ops in
      let end : List Line = end_lines label_of k b.last in
      let body : op_lines p (map still_op b.ops) ++ end ≡ map quiet (ops ++ end) =
      ap (λ ls. ls ++ end) (still_lines b.ops) ∙ (ap (λ ls. map quiet ops ++ ls) (sym (quiet_end k b.last)) ∙ sym (map_append quiet ops end)) in
      ap (λ ls. label_before k ++ ls) body
      ∙ (ap (λ ls. ls ++ map quiet (ops ++ end)) (sym (quiet_before k)) ∙ sym (map_append quiet (label_before k) (ops ++ end)))

  still_from : (k : ℕ) (bs : List Block) → lines_from p k (map still bs) ≡ map quiet (lines_from p k bs)
  still_from k [] = refl
  still_from k (b ∷ bs) =
      ap (λ ls. ls ++ lines_from p (suc k) (map still bs)) (still_block k b)
      ∙ (ap (λ ls. map quiet (block_lines p k b) ++ ls) (still_from (suc k) bs) ∙ sym (map_append quiet (block_lines p k b) (lines_from p (suc k) bs)))

  still_turn : (o : Op) → shape.is_turn (stilled o) ≡ shape.is_turn o
  still_turn (Move r s) = refl
  still_turn (Lit r l) = refl
  still_turn (Prim to q args) = refl
  still_turn (Call r g args) = refl
  still_turn (Virtual r o n args) = refl
  still_turn (TraitCall r o t n args) = refl
  still_turn Turn = refl
  still_turn (Inc r) = refl
  still_turn (Dec r) = refl
  still_turn (XDec r) = refl

  still_ends : (ops : List (Op × ℕ)) → ends_in_turn (map still_op ops) ≡ ends_in_turn ops
  still_ends [] = refl
  still_ends (o ∷ []) = still_turn o.0
  still_ends (o ∷ q ∷ os) = still_ends (q ∷ os)

  still_fit : (ops : List (Op × ℕ)) → OpsFit (map still_op ops)
  still_fit [] = tt
  still_fit (o ∷ os) = (by o.0, still_fit os)
    where
      by : (o : Op) → shape.op_fits (stilled o) ≡ true
      by (Move r s) = refl
      by (Lit r l) = refl
      by (Prim to q args) = refl
      by (Call r g args) = refl
      by (Virtual r o n args) = refl
      by (TraitCall r o t n args) = refl
      by Turn = refl
      by (Inc r) = refl
      by (Dec r) = refl
      by (XDec r) = refl

  still_last : (size k : ℕ) (ops : List (Op × ℕ)) (last : Last) → LastFits size k ops last → LastFits size k (map still_op ops) last
  still_last size k ops (Goto t) h = (h.0, h.1, ⊎_elim (λ a. inl a) (λ a. inr (still_ends ops ∙ a)) h.2)
  still_last size k ops (If r a b) h = h
  still_last size k ops (IfError r a b source) h = h
  still_last size k ops (Return r) h = h
  still_last size k ops Unreachable h = (h.0, ap (map still_op) h.1)

  still_blocks : (size k : ℕ) (bs : List Block) → LastsFit size k bs → BlocksFit size k (map still bs)
  still_blocks size k [] h = tt
  still_blocks size k (b ∷ bs) h =
      (record { ops = still_fit b.ops; last = still_last size k b.ops b.last h.0; handler = tt }, still_blocks size (suc k) bs h.1)

  pub jumps_lead : (bs : List Block) → LastsFit (length bs) 0 bs → jumps_fit (label_places (lines_from p 0 bs)) 0 false (lines_from p 0 bs) ≡ true
  jumps_lead bs h =
      let old : List Line = lines_from p 0 bs in
      let count : length (map still bs) ≡ length bs = length-map bs still in
      let fits : BlocksFit (length (map still bs)) 0 (map still bs) = subst (λ n. BlocksFit n 0 (map still bs)) (sym count) (still_blocks (length bs) 0 bs h) in
      let new : jumps_fit (label_places (map quiet old)) 0 false (map quiet old) ≡ true = subst (λ ls. jumps_fit (label_places ls) 0 false ls ≡ true) (still_from 0 bs) (jumps_go p (map still bs) fits) in
      sym (quiet_jumps (label_places old) 0 false old) ∙ (ap (λ labels. jumps_fit labels 0 false (map quiet old)) (sym (quiet_labels 0 old)) ∙ new)
