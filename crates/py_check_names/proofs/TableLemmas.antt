-- Tables of meanings: what stands in them after pairs are put in one after the other, from the last to the first.
use Rattle.std.proofs.Common.{◌≡◌, ◌∙◌, ℕ, ◌≤◌, nat_lt, Bool, true, false, List, [], ◌∷◌, ◌++◌, cond, Option, Some, None, refl, ap, sym, arith}
use Rattle.std.proofs.lemmas.Bool.Decides.{nat_tests}
use Rattle.std.specs.Cmp.Lexicographic.{nat_list_eq_equiv}
use Rattle.std.specs.Str.{bytes_eq}
use Rattle.std.specs.Map.{lookup}
use Rattle.py_binder.proofs.TableLemmas.{or_else, lookup_last}

pub said_step : {A : Type 0} (said rest : List (List ℕ × A)) (x : List ℕ × A) (old new all : List ℕ → Option A) → said ≡ rest ++ x ∷ [] → ((k : List ℕ) → new k ≡ cond (bytes_eq x.0 k) (Some x.1) (old k)) → ((k : List ℕ) → or_else (lookup (bytes_eq k) said) (old k) ≡ all k) → (k : List ℕ) → or_else (lookup (bytes_eq k) rest) (new k) ≡ all k
said_step said rest x old new all is put before k =
    ap (or_else (lookup (bytes_eq k) rest)) (put k ∙ ap (λ b. cond b (Some x.1) (old k)) (nat_list_eq_equiv.symm x.0 k))
    ∙ sym (lookup_last (bytes_eq k) rest x (old k))
    ∙ ap (λ l. or_else (lookup (bytes_eq k) l) (old k)) (sym is)
    ∙ before k

-- the place that a search among names found, or their number
found_by : (b : Bool) (p place : ℕ) → Some place ≡ cond b (Some p) None → place ≡ p
found_by true p place e = cc
found_by false p place e = cc

pub found_at : (p n place : ℕ) → Some place ≡ cond (nat_lt p n) (Some p) None → place ≡ p
found_at p n place e = found_by (nat_lt p n) p place e

none_by : (b : Bool) (p : ℕ) → None ≡ cond b (Some p) None → b ≡ false
none_by true p e = cc
none_by false p e = refl

not_less : (p n : ℕ) → nat_lt p n ≡ false → p ≤ n → n ≡ p
not_less p n e h = grind (arith, nat_tests)

pub none_at : (p n : ℕ) → None ≡ cond (nat_lt p n) (Some p) None → p ≤ n → n ≡ p
none_at p n e h = not_less p n (none_by (nat_lt p n) p e) h
