-- Lines that are spelled and fit, and the lines of programs whose calls and classes are the same.
use Rattle.std.proofs.Common.{◌≡◌, refl, ◌∙◌, ap, ℕ, suc, true, List, [], ◌∷◌, ◌++◌, map, Some}
use Rattle.std.specs.List.{list_all}
use Rattle.std.proofs.lemmas.Bool.{and_from, and_parts}
use Rattle.c_core.specs.declared.code.Kind.{Kind}
use Rattle.c_core.specs.declared.code.Kind.TheVariants.{Tagged}
use Rattle.c_core.specs.declared.code.CArg.TheVariants as c_arg
use Rattle.c_core.specs.declared.code.Line.{Line}
use Rattle.c_core.specs.declared.code.Line.TheVariants as line
use Rattle.c_core.specs.declared.code.Code.{Code}
use Rattle.c_core.specs.WellFormed.{Declared as Variable, spelled_line, same_kind, line_fits}
use Rattle.ir_core.specs.declared.code.Reg.{Reg}
use Rattle.ir_core.specs.declared.code.Op.{Op}
use Rattle.ir_core.specs.declared.code.Op.TheVariants.{Prim, Call, TraitCall}
use Rattle.ir_core.specs.declared.code.Block.{Block}
use Rattle.ir_core.specs.declared.code.Program.{Program}
use Rattle.ir_core.specs.Lower.{number_of, register_in, called_as, line_of, op_lines, label_before, label_of, end_lines, block_lines, lines_from}

pub same_self : (k : Kind) → same_kind k k ≡ true
same_self Tagged = refl
same_self _ = refl

-- registers as variables, and by their numbers
pub map_registers : (args : List Reg) → map c_arg.Var (map number_of args) ≡ map register_in args
map_registers [] = refl
map_registers (x ∷ args) = ap (λ l. register_in x ∷ l) (map_registers args)

-- ---- lines that are spelled and fit
module _ (code : Code) (vars : List Variable) (ret : Kind) where
  abbrev pub LineIs : Line → Type 0
  LineIs l = (spelled_line vars l ≡ true) × (line_fits code vars ret l ≡ true)

  abbrev pub LinesAre : List Line → Type 0
  LinesAre [] = Unit {0}
  LinesAre (l ∷ ls) = LineIs l × LinesAre ls

  pub lines_from_all : (ls : List Line) → list_all (spelled_line vars) ls ≡ true → list_all (line_fits code vars ret) ls ≡ true → LinesAre ls
  lines_from_all [] e f = tt
  lines_from_all (l ∷ ls) e f =
      let spelled = and_parts (spelled_line vars l) (list_all (spelled_line vars) ls) e in
      let fits = and_parts (line_fits code vars ret l) (list_all (line_fits code vars ret) ls) f in
      ((spelled.0, fits.0), lines_from_all ls spelled.1 fits.1)

  pub all_spelled : (ls : List Line) → LinesAre ls → list_all (spelled_line vars) ls ≡ true
  all_spelled [] h = refl
  all_spelled (l ∷ ls) h = and_from (spelled_line vars l) (list_all (spelled_line vars) ls) h.0.0 (all_spelled ls h.1)

  pub all_fit : (ls : List Line) → LinesAre ls → list_all (line_fits code vars ret) ls ≡ true
  all_fit [] h = refl
  all_fit (l ∷ ls) h = and_from (line_fits code vars ret l) (list_all (line_fits code vars ret) ls) h.0.1 (all_fit ls h.1)

  pub lines_append : (xs ys : List Line) → LinesAre xs → LinesAre ys → LinesAre (xs ++ ys)
  lines_append [] ys h k = k
  lines_append (x ∷ xs) ys h k = (h.0, lines_append xs ys h.1 k)

  pub lines_parts : (xs ys : List Line) → LinesAre (xs ++ ys) → LinesAre xs × LinesAre ys
  lines_parts [] ys h = (tt, h)
  lines_parts (x ∷ xs) ys h = let both = lines_parts xs ys h.1 in ((h.0, both.0), both.1)

-- ---- lines of two programs
module _ (p q : Program) (classes : q.classes ≡ p.classes) (calls : (n : ℕ) → called_as q n ≡ called_as p n) where
  pub line_same : (o : Op) → line_of q o ≡ line_of p o
  line_same (Call r n args) = ap (λ name. line.Call (Some r.0) name (map register_in args)) (calls n)
  line_same (TraitCall r o t n args) =
      ap (λ ks. line_of (record q { classes = ks }) (TraitCall r o t n args)) classes
  line_same _ = refl

  ops_same : (ops : List (Op × ℕ)) → op_lines q ops ≡ op_lines p ops
  ops_same [] = refl
  ops_same (o ∷ os) = ap (λ l. l ∷ op_lines q os) (line_same o.0) ∙ ap (λ ls. line_of p o.0 ∷ ls) (ops_same os)

  pub lines_same : (k : ℕ) (bs : List Block) → lines_from q k bs ≡ lines_from p k bs
  lines_same k [] = refl
  lines_same k (b ∷ bs) =
      ap (λ ls. (label_before k ++ (ls ++ end_lines label_of k b.last)) ++ lines_from q (suc k) bs) (ops_same b.ops)
      ∙ ap (λ ls. block_lines p k b ++ ls) (lines_same (suc k) bs)
