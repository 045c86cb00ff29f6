-- The C text of a program with its counts is that of the program, but for the lines of its functions.
use Rattle.std.proofs.Common.{◌≡◌, refl, ◌∙◌, ap, ℕ, zero, suc, cond, List, [], ◌∷◌, ◌++◌, length, map}
use Rattle.std.specs.Prelude.{slice_get, nat_eq, codes}
use Rattle.std.specs.Option.{option_map_or}
use Rattle.c_core.specs.declared.code.Kind.{Kind}
use Rattle.c_core.specs.declared.code.Line.{Line}
use Rattle.c_core.specs.declared.code.CFunc.{CFunc}
use Rattle.c_core.specs.declared.code.Code.{Code}
use Rattle.c_core.specs.WellFormed.{Declared as Variable}
use Rattle.ir_core.specs.declared.code.Func.{Func}
use Rattle.ir_core.specs.declared.code.Program.{Program}
use Rattle.ir_core.specs.Names.{function_id}
use Rattle.ir_core.specs.Lower.{kind_of_type, variable_of, global_of, call_name, called_as, lines_from, lowered_as, name_in, lowered_from, lower}
use Rattle.ir_core.proofs.TextLemmas.{lines_same}
use Rattle.refcount_insert_rule.specs.Counted.{IsCountedFunc, AreCounted, IsCountedProgram}
use Rattle.refcount_insert_shapes_laws.proofs.Codes.{bare}

-- functions of the same parts are the same
abbrev made : List ℕ → Kind → ℕ → List Variable → List Line → CFunc
made n r a v k = record { name = n; ret = r; params = a; vars = v; lines = k }

same_parts : (n m : List ℕ) (r s : Kind) (a b : ℕ) (v w : List Variable) (k l : List Line) → n ≡ m → r ≡ s → a ≡ b → v ≡ w → k ≡ l → made n r a v k ≡ made m s b w l
same_parts n m r s a b v w k l name ret params vars lines = cc

module _ (p q : Program) (counted : IsCountedProgram p q) where
  count : length q.funcs ≡ length p.funcs
  count = by p.funcs q.funcs counted.funcs
    where
      by : (fs gs : List Func) → AreCounted fs gs → length gs ≡ length fs
      by [] [] all = refl
      by [] (g ∷ gs) all = absurd all
      by (f ∷ fs) [] all = absurd all
      by (f ∷ fs) (g ∷ gs) all = ap suc (by fs gs all.1)

  name_same : (n : ℕ) (f g : Func) → IsCountedFunc f g → name_in q n g ≡ name_in p n f
  name_same n f g c =
      ap (λ k. cond (nat_eq (suc n) k) [] (function_id g.name)) count
      ∙ ap (λ name. cond (nat_eq (suc n) (length p.funcs)) [] (function_id name)) c.name

  -- ---- lines of operations
  calls_same : (n : ℕ) → called_as q n ≡ called_as p n
  calls_same n =
      ap (λ k. cond (nat_eq (suc n) k) [] (option_map_or call_name (slice_get q.funcs n) [])) count
      ∙ ap (λ name. cond (nat_eq (suc n) (length p.funcs)) [] name) (by p.funcs q.funcs n counted.funcs)
    where
      by : (fs gs : List Func) (n : ℕ) → AreCounted fs gs → option_map_or call_name (slice_get gs n) [] ≡ option_map_or call_name (slice_get fs n) []
      by [] [] n all = refl
      by [] (g ∷ gs) n all = absurd all
      by (f ∷ fs) [] n all = absurd all
      by (f ∷ fs) (g ∷ gs) zero all = ap (λ name. codes "CPyDef_" ++ function_id name) all.0.name
      by (f ∷ fs) (g ∷ gs) (suc n) all = by fs gs n all.1

  -- ---- functions: those of the program with other lines
  abbrev pub text : ℕ → Func → CFunc
  text n f = lowered_as p (name_in p n f) f

  abbrev pub new_text : ℕ → Func → Func → CFunc
  new_text n f g = record (text n f) { lines = lines_from p 0 g.blocks }

  abbrev pub new_from : ℕ → List Func → List Func → List CFunc
  new_from n (f ∷ fs) (g ∷ gs) = new_text n f g ∷ new_from (suc n) fs gs
  new_from n _ _ = []

  text_is : (n : ℕ) (f g : Func) → IsCountedFunc f g → lowered_as q (name_in q n g) g ≡ new_text n f g
  text_is n f g c =
      same_parts (name_in q n g) (name_in p n f) (kind_of_type g.ret) (kind_of_type f.ret) g.params f.params (map variable_of g.regs) (map variable_of f.regs) (lines_from q 0 g.blocks) (lines_from p 0 g.blocks) (name_same n f g c) (ap kind_of_type c.ret) c.params (ap (map variable_of) c.regs) (lines_same p q counted.classes calls_same 0 g.blocks)

  texts_are : (n : ℕ) (fs gs : List Func) → AreCounted fs gs → lowered_from q n gs ≡ new_from n fs gs
  texts_are n [] [] all = refl
  texts_are n [] (g ∷ gs) all = absurd all
  texts_are n (f ∷ fs) [] all = absurd all
  texts_are n (f ∷ fs) (g ∷ gs) all =
      ap (λ c. c ∷ lowered_from q (suc n) gs) (text_is n f g all.0) ∙ ap (λ cs. new_text n f g ∷ cs) (texts_are (suc n) fs gs all.1)

  bare_same : (n : ℕ) (fs gs : List Func) → AreCounted fs gs → map bare (new_from n fs gs) ≡ map bare (lowered_from p n fs)
  bare_same n [] [] all = refl
  bare_same n [] (g ∷ gs) all = absurd all
  bare_same n (f ∷ fs) [] all = absurd all
  bare_same n (f ∷ fs) (g ∷ gs) all = ap (λ cs. bare (text n f) ∷ cs) (bare_same (suc n) fs gs all.1)

  names_same : (n : ℕ) (fs gs : List Func) → AreCounted fs gs → map (λ (c : CFunc). c.name) (new_from n fs gs) ≡ map (λ (c : CFunc). c.name) (lowered_from p n fs)
  names_same n [] [] all = refl
  names_same n [] (g ∷ gs) all = absurd all
  names_same n (f ∷ fs) [] all = absurd all
  names_same n (f ∷ fs) (g ∷ gs) all = ap (λ cs. name_in p n f ∷ cs) (names_same (suc n) fs gs all.1)

  -- ---- the code
  abbrev pub new_code : Code
  new_code = record (lower p) { funcs = new_from 0 p.funcs q.funcs }

  pub code_is : lower q ≡ new_code
  code_is =
      ap (λ gs. record (lower q) { globals = map global_of gs }) counted.globals
      ∙ (ap (λ ks. record (lower q) { globals = map global_of p.globals; classes = ks }) counted.classes
      ∙ ap (λ fs. record (lower p) { funcs = fs }) (texts_are 0 p.funcs q.funcs counted.funcs))

  pub code_bare : record new_code { funcs = map bare new_code.funcs } ≡ record (lower p) { funcs = map bare (lower p).funcs }
  code_bare = ap (λ fs. record (lower p) { funcs = fs }) (bare_same 0 p.funcs q.funcs counted.funcs)

  pub code_names : map (λ (c : CFunc). c.name) new_code.funcs ≡ map (λ (c : CFunc). c.name) (lower p).funcs
  code_names = names_same 0 p.funcs q.funcs counted.funcs
