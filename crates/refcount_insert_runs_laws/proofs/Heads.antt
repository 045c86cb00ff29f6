-- The functions of a program with its counts: each is one of the program, under its number, and has its head.
use Rattle.std.proofs.Common.{◌≡◌, refl, ◌∙◌, ap, subst, ℕ, zero, suc, cond, List, [], ◌∷◌, ◌++◌, length, Some, None}
use Rattle.std.specs.Prelude.{slice_get, map, nat_eq, codes}
use Rattle.std.specs.Option.{option_map_or}
use Rattle.ir_core.specs.declared.code.Op.{Op}
use Rattle.ir_core.specs.declared.code.Func.{Func}
use Rattle.ir_core.specs.declared.code.Program.{Program}
use Rattle.ir_core.specs.Names.{function_id}
use Rattle.ir_core.specs.Lower.{kind_of_type, variable_of, global_of, call_name, called_as, line_of, lowered_as, name_in, lower}
use Rattle.ir_core.proofs.TextLemmas.{line_same}
use Rattle.refcount_insert_rule.specs.Counted.{IsCountedFunc, AreCounted, IsCountedProgram}
use Rattle.refcount_insert_lines_laws.specs.Matching.{HasHead, HasHeads}
use Rattle.refcount_insert_runs_laws.proofs.Laid.{as_many, function_at}

-- the function of a number, with and without its counts
pub record FuncAt (p q : Program) (n : ℕ) : Type 0 where
  pub func : Func
  pub new : Func
  pub there : slice_get p.funcs n ≡ Some func
  pub new_there : slice_get q.funcs n ≡ Some new
  pub counted : IsCountedFunc func new

counted_at : (fs gs : List Func) → AreCounted fs gs → (n : ℕ) (f : Func) → slice_get fs n ≡ Some f → (g : Func) × (slice_get gs n ≡ Some g) × IsCountedFunc f g
counted_at [] gs c n f e = let g : None ≡ Some f = e in absurd (cc)
counted_at (x ∷ fs) [] c n f e = absurd c
counted_at (x ∷ fs) (y ∷ gs) c zero f e =
    let g : Some x ≡ Some f = e in
    let same : x ≡ f = cc in
    (y, refl, subst (λ z. IsCountedFunc z y) same c.0)
counted_at (x ∷ fs) (y ∷ gs) c (suc n) f e = counted_at fs gs c.1 n f e

as_long : (fs gs : List Func) → AreCounted fs gs → length gs ≡ length fs
as_long [] [] c = refl
as_long [] (g ∷ gs) c = absurd c
as_long (f ∷ fs) [] c = absurd c
as_long (f ∷ fs) (g ∷ gs) c = ap suc (as_long fs gs c.1)

same_call : (fs gs : List Func) → AreCounted fs gs → (n : ℕ) → option_map_or call_name (slice_get gs n) [] ≡ option_map_or call_name (slice_get fs n) []
same_call [] [] c n = refl
same_call [] (g ∷ gs) c n = absurd c
same_call (f ∷ fs) [] c n = absurd c
same_call (f ∷ fs) (g ∷ gs) c zero = ap (λ z. codes "CPyDef_" ++ function_id z) c.0.name
same_call (f ∷ fs) (g ∷ gs) c (suc n) = same_call fs gs c.1 n

module _ (p q : Program) (counted : IsCountedProgram p q) where
  pub at_number : (n : ℕ) (f : Func) → slice_get p.funcs n ≡ Some f → (g : Func) × (slice_get q.funcs n ≡ Some g) × IsCountedFunc f g
  at_number n f e = counted_at p.funcs q.funcs counted.funcs n f e

  pub same_size : length q.funcs ≡ length p.funcs
  same_size = as_long p.funcs q.funcs counted.funcs

  same_called : (g : ℕ) → called_as q g ≡ called_as p g
  same_called g =
      ap (λ z. cond (nat_eq (suc g) z) [] (option_map_or call_name (slice_get q.funcs g) [])) same_size
      ∙ ap (λ z. cond (nat_eq (suc g) (length p.funcs)) [] z) (same_call p.funcs q.funcs counted.funcs g)

  -- an operation has one line in both
  pub same_line : (o : Op) → line_of q o ≡ line_of p o
  same_line = line_same p q counted.classes same_called

  same_name : (n : ℕ) (f g : Func) → IsCountedFunc f g → name_in q n g ≡ name_in p n f
  same_name n f g c =
      ap (λ z. cond (nat_eq (suc n) z) [] (function_id g.name)) same_size
      ∙ ap (λ z. cond (nat_eq (suc n) (length p.funcs)) [] (function_id z)) c.name

  head : (n : ℕ) (f : Func) → slice_get p.funcs n ≡ Some f → HasHead p (lower q) n f
  head n f e =
      let h = at_number n f e in
      let c : IsCountedFunc f h.0 = h.2 in
      record {
        g = lowered_as q (name_in q n h.0) h.0;
        there = function_at q n h.0 h.1;
        name = same_name n f h.0 c;
        params = c.params;
        ret = ap kind_of_type c.ret;
        vars = ap (map variable_of) c.regs;
      }

  pub heads : HasHeads p (lower q)
  heads =
      record { globals = ap (map global_of) counted.globals; classes = counted.classes; count = as_many q 0 q.funcs ∙ same_size; funcs = head }
