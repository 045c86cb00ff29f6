-- What the C text of a program with its counts has in common with the one without.
use Rattle.std.proofs.Common.{◌≡◌, refl, sym, ◌∙◌, ap, ℕ, zero, suc, ◌+◌, ◌⊎◌, inl, inr, cond, not, List, [], ◌∷◌, map, length, Option, Some, None}
use Rattle.std.specs.Prelude.{slice_get, nat_eq, nat_lt, codes}
use Rattle.std.specs.List.{position_or_len, find}
use Rattle.std.specs.Option.{option_map, option_and_then, option_map_or}
use Rattle.std.specs.Str.{bytes_eq}
use Rattle.c_core.specs.declared.code.Kind.{Kind}
use Rattle.c_core.specs.declared.code.CArg.{CArg}
use Rattle.c_core.specs.declared.code.CArg.TheVariants as c_arg
use Rattle.c_core.specs.declared.code.CFunc.{CFunc}
use Rattle.c_core.specs.Functions.{number_of, function_named, after_prefix}
use Rattle.c_core.specs.WellFormed.{named_kind}
use Rattle.ir_core.specs.declared.code.Func.{Func}
use Rattle.ir_core.specs.declared.code.Program.{Program}
use Rattle.ir_core.specs.Names.{function_id}
use Rattle.ir_core.specs.Lower.{kind_of_type, global_of, call_name, called_as, lowered_from, lower}
use Rattle.ir_core.proofs.TextLemmas.{line_same}
use Rattle.c_core_ownership_laws.specs.Shares.{has_cells, returns_cells}
use Rattle.refcount_insert_rule.specs.Counted.{IsCountedFunc, AreCounted, IsCountedProgram}
use Rattle.refcount_insert_order_laws.proofs.Bodies.{AreAlike}

-- functions of the same names and results
abbrev SameHeads : List CFunc → List CFunc → Type 0
SameHeads [] [] = Unit {0}
SameHeads (f ∷ fs) (g ∷ gs) = (f.name ≡ g.name) × (f.ret ≡ g.ret) × SameHeads fs gs
SameHeads _ _ = ⊥

heads_size : (fs gs : List CFunc) → SameHeads fs gs → length fs ≡ length gs
heads_size [] [] h = refl
heads_size [] (g ∷ gs) h = absurd h
heads_size (f ∷ fs) [] h = absurd h
heads_size (f ∷ fs) (g ∷ gs) h = ap suc (heads_size fs gs h.2)

heads_place : (name : List ℕ) (fs gs : List CFunc) → SameHeads fs gs → position_or_len (λ (k : CFunc). bytes_eq name k.name) fs ≡ position_or_len (λ (k : CFunc). bytes_eq name k.name) gs
heads_place name [] [] h = refl
heads_place name [] (g ∷ gs) h = absurd h
heads_place name (f ∷ fs) [] h = absurd h
heads_place name (f ∷ fs) (g ∷ gs) h =
    ap (λ n. cond (not (bytes_eq name n)) (1 + position_or_len (λ (k : CFunc). bytes_eq name k.name) fs) 0) h.0
    ∙ ap (λ n. cond (not (bytes_eq name g.name)) (1 + n) 0) (heads_place name fs gs h.2)

heads_number : (fs gs : List CFunc) → SameHeads fs gs → (name : List ℕ) → number_of fs name ≡ number_of gs name
heads_number fs gs h name =
    ap (λ n. cond (bytes_eq name []) None (cond (nat_lt n (length fs)) (Some n) None)) (heads_place name fs gs h)
    ∙ ap (λ n. cond (bytes_eq name []) None (cond (nat_lt (position_or_len (λ (k : CFunc). bytes_eq name k.name) gs) n) (Some (position_or_len (λ (k : CFunc). bytes_eq name k.name) gs)) None)) (heads_size fs gs h)

heads_named : (fs gs : List CFunc) → SameHeads fs gs → (name : List ℕ) → (o : Option (List ℕ)) → option_and_then (number_of fs) o ≡ option_and_then (number_of gs) o
heads_named fs gs h name None = refl
heads_named fs gs h name (Some x) = heads_number fs gs h x

heads_get : (fs gs : List CFunc) → SameHeads fs gs → (i : ℕ) → returns_cells (slice_get fs i) ≡ returns_cells (slice_get gs i)
heads_get [] [] h i = refl
heads_get [] (g ∷ gs) h i = absurd h
heads_get (f ∷ fs) [] h i = absurd h
heads_get (f ∷ fs) (g ∷ gs) h zero = ap has_cells h.1
heads_get (f ∷ fs) (g ∷ gs) h (suc i) = heads_get fs gs h.2 i

heads_returns : (fs gs : List CFunc) → SameHeads fs gs → (o : Option ℕ) → returns_cells (option_and_then (slice_get fs) o) ≡ returns_cells (option_and_then (slice_get gs) o)
heads_returns fs gs h None = refl
heads_returns fs gs h (Some i) = heads_get fs gs h i

-- ---- functions with their counts
pub counted_size : (fs gs : List Func) → AreCounted fs gs → length fs ≡ length gs
counted_size [] [] h = refl
counted_size [] (g ∷ gs) h = absurd h
counted_size (f ∷ fs) [] h = absurd h
counted_size (f ∷ fs) (g ∷ gs) h = ap suc (counted_size fs gs h.1)

-- the function of a number, in both programs
abbrev pub Pair : List Func → List Func → ℕ → Type 0
Pair fs gs i =
    (f : Func) × (g : Func) × (slice_get fs i ≡ Some f) × (slice_get gs i ≡ Some g) × IsCountedFunc f g

abbrev pub pair_at : (fs gs : List Func) → AreCounted fs gs → (i : ℕ) → Pair fs gs i ⊎ ((slice_get fs i ≡ None) × (slice_get gs i ≡ None))
pair_at [] [] h i = inr (refl, refl)
pair_at [] (g ∷ gs) h i = absurd h
pair_at (f ∷ fs) [] h i = absurd h
pair_at (f ∷ fs) (g ∷ gs) h zero = inl (f, g, refl, refl, h.0)
pair_at (f ∷ fs) (g ∷ gs) h (suc i) = pair_at fs gs h.1 i

names_same : (fs gs : List Func) → AreCounted fs gs → (i : ℕ) → option_map_or call_name (slice_get gs i) [] ≡ option_map_or call_name (slice_get fs i) []
names_same [] [] h i = refl
names_same [] (g ∷ gs) h i = absurd h
names_same (f ∷ fs) [] h i = absurd h
names_same (f ∷ fs) (g ∷ gs) h zero = ap (λ n. codes_of n) h.0.name
  where
    codes_of : List ℕ → List ℕ
    codes_of n = call_name (record f { name = n })
names_same (f ∷ fs) (g ∷ gs) h (suc i) = names_same fs gs h.1 i

module _ (p q : Program) (is : IsCountedProgram p q) where
  heads : (n : ℕ) (fs gs : List Func) → AreCounted fs gs → SameHeads (lowered_from q n gs) (lowered_from p n fs)
  heads n [] [] h = tt
  heads n [] (g ∷ gs) h = absurd h
  heads n (f ∷ fs) [] h = absurd h
  heads n (f ∷ fs) (g ∷ gs) h =
      (ap (λ z. cond (nat_eq (suc n) z) [] (function_id g.name)) (sym (counted_size p.funcs q.funcs is.funcs)) ∙ ap (λ z. cond (nat_eq (suc n) (length p.funcs)) [] (function_id z)) h.0.name, ap kind_of_type h.0.ret, heads (suc n) fs gs h.1)

  globals_same : (lower q).globals ≡ (lower p).globals
  globals_same = ap (map global_of) is.globals

  kinds_same : (args : List CArg) → named_kind (lower q) args ≡ named_kind (lower p) args
  kinds_same [] = refl
  kinds_same (c_arg.Global name ∷ rest) =
      ap (λ gs. option_map (λ (g : List ℕ × Kind). g.1) (find (λ (g : List ℕ × Kind). bytes_eq name g.0) gs)) globals_same
  kinds_same (c_arg.Var x ∷ rest) = refl
  kinds_same (c_arg.Number n ∷ rest) = refl
  kinds_same (c_arg.Text t ∷ rest) = refl
  kinds_same (c_arg.Class name ∷ rest) = refl

  calls_same : (n : ℕ) → called_as q n ≡ called_as p n
  calls_same n =
      ap (λ z. cond (nat_eq (suc n) z) [] (option_map_or call_name (slice_get q.funcs n) [])) (sym (counted_size p.funcs q.funcs is.funcs))
      ∙ ap (λ z. cond (nat_eq (suc n) (length p.funcs)) [] z) (names_same p.funcs q.funcs is.funcs n)

  pub alike : AreAlike p q (lower q) (lower p)
  alike =
      record {
        named = kinds_same;
        returns = λ name.
            ap (λ o. returns_cells (option_and_then (slice_get (lower q).funcs) o)) (heads_named (lower q).funcs (lower p).funcs (heads 0 p.funcs q.funcs is.funcs) name (after_prefix (codes "CPyDef_") name))
            ∙ heads_returns (lower q).funcs (lower p).funcs (heads 0 p.funcs q.funcs is.funcs) (function_named (lower p).funcs name);
        line = line_same p q is.classes calls_same;
      }
