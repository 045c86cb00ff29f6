-- The program with edges: its functions, names and primitives are those of the program.
use Rattle.std.proofs.Common.{◌≡◌, refl, ◌∙◌, ap, ℕ, ◌+◌, not, cond, List, [], ◌∷◌, length, Some, None}
use Rattle.std.specs.Prelude.{nat_lt, slice_get}
use Rattle.std.specs.List.{position_or_len}
use Rattle.std.specs.Str.{bytes_eq}
use Rattle.c_core.specs.declared.primitive.Primitive.{Primitive}
use Rattle.ir_core.specs.declared.code.Func.{Func}
use Rattle.ir_core.specs.declared.code.Program.{Program}
use Rattle.ir_core.specs.Names.{function_id, is_called, function_called}
use Rattle.ir_core.specs.Effects.{World, Argument, effect}
use Rattle.error_edges.specs.Edged.{AreEdged, IsEdgedProgram}
use Rattle.error_edges.proofs.FunctionLemmas.{each_count, each_at}
use Rattle.error_edges.proofs.Laying.{function_laid}
use Rattle.error_edges.proofs.Giving.{BlocksGive}
use Rattle.error_edges.proofs.Simulation.{ProgramLaid}

-- functions of the same names are called by the same ones
same_place : (id : List ℕ) (fs gs : List Func) → AreEdged fs gs → position_or_len (is_called id) gs ≡ position_or_len (is_called id) fs
same_place id [] [] all = refl
same_place id [] (g ∷ gs) all = absurd all
same_place id (f ∷ fs) [] all = absurd all
same_place id (f ∷ fs) (g ∷ gs) all =
    ap (λ name. cond (not (bytes_eq (function_id name) id)) (1 + position_or_len (is_called id) gs) 0) all.0.name
    ∙ ap (λ n. cond (not (bytes_eq (function_id f.name) id)) (1 + n) 0) (same_place id fs gs all.1)

module _ (p q : Program) (edged : IsEdgedProgram p q) where
  count : length q.funcs ≡ length p.funcs
  count = each_count p.funcs q.funcs edged.funcs

  called : (id : List ℕ) → function_called q id ≡ function_called p id
  called id =
      ap (λ n. cond (nat_lt n (length q.funcs)) (Some n) None) (same_place id p.funcs q.funcs edged.funcs)
      ∙ ap (λ n. cond (nat_lt (position_or_len (is_called id) p.funcs) n) (Some (position_or_len (is_called id) p.funcs)) None) count

  -- a primitive looks at the globals and the classes alone
  effects : (c : Primitive) (vs : List Argument) (w : World) → effect q c vs w ≡ effect p c vs w
  effects c vs w =
      ap (λ gs. effect (record q { globals = gs }) c vs w) edged.globals
      ∙ ap (λ ks. effect (record { globals = p.globals; classes = ks; funcs = q.funcs }) c vs w) edged.classes

  pub program_laid : ((n : ℕ) (f : Func) → slice_get p.funcs n ≡ Some f → BlocksGive f.regs f.blocks) → ProgramLaid p q
  program_laid gives = record {
    count = count;
    globals = edged.globals;
    classes = edged.classes;
    called = called;
    effects = effects;
    funcs = λ n f e. let there = each_at p.funcs q.funcs edged.funcs n f e in (there.0, there.1, function_laid f there.0 there.2);
    gives = gives;
  }
