-- The variables with which a function begins.
use Rattle.std.proofs.Common.{◌≡◌, refl, sym, ap, subst, ◌∙◌, ℕ, zero, suc, ◌<◌, Bool, true, false, List, [], ◌∷◌, ◌++◌, length, Some, arith}
use Rattle.std.specs.Prelude.{map, take, drop, slice_get}
use Rattle.c_core.specs.declared.code.Kind.{Kind}
use Rattle.c_core.specs.declared.code.Kind.TheVariants.{Tagged, Int64, Char, Object}
use Rattle.c_core.specs.Cells.{times}
use Rattle.c_core.specs.Machine.{Word, Native, CharWord, refs_of}
use Rattle.c_core.specs.Functions.{error_word}
use Rattle.c_core.specs.Arguments.{is_value_of}
use Rattle.c_core.specs.WellFormed.{Declared, kind_at}
use Rattle.c_core_ownership_laws.specs.Shares.{has_cells, may_have_cells}
use Rattle.c_core_ownership_laws.specs.Frames.{IsBare, many, total}
use Rattle.c_core_ownership_laws.proofs.Totals.{many-none}
use Rattle.c_core_ownership_laws.proofs.Effects.{error_bare}

-- words that passed the tests of these kinds
abbrev pub AreValues : List Kind → List Word → Type 0
AreValues [] [] = Unit {0}
AreValues (k ∷ ks) (w ∷ ws) = (is_value_of k w ≡ true) × AreValues ks ws
AreValues _ _ = ⊥

abbrev pub errors : List Declared → List Word
errors vars = map (λ v. error_word v.1) vars

abbrev pub kinds : ℕ → List Declared → List Kind
kinds n vars = map (λ v. v.1) (take n vars)

-- a value of a number's kind has no cell
value_bare : (k : Kind) (w : Word) → is_value_of k w ≡ true → has_cells k ≡ false → IsBare w
value_bare Tagged w e f = cc
value_bare Object w e f = cc
value_bare Int64 (Native n) e f = λ c. refl
value_bare Int64 _ e f = cc
value_bare Char (CharWord n) e f = λ c. refl
value_bare Char _ e f = cc

-- ---- error values
pub errors-size : (vars : List Declared) → length (errors vars) ≡ length vars
errors-size [] = refl
errors-size (v ∷ vars) = ap suc (errors-size vars)

pub errors-none : (k : ℕ → ℕ) (vars : List Declared) (c : ℕ) → total k (errors vars) c ≡ 0
errors-none k [] c = refl
errors-none k (v ∷ vars) c =
    omega (arith, ap (many (k 0)) (error_bare v.1 c), many-none (k 0), errors-none (λ r. k (suc r)) vars c)

-- what holds of the words that were passed and of error values holds of all
pub each_word : (Q : Word → Type 0) (ws : List Word) (vars : List Declared) → ((r : ℕ) (w : Word) → slice_get ws r ≡ Some w → Q w) → ((k : Kind) → Q (error_word k)) → (r : ℕ) (w : Word) → slice_get (ws ++ errors vars) r ≡ Some w → Q w
each_word Q [] [] passed error r w e = cc
each_word Q [] (v ∷ vars) passed error zero w e = let f : error_word v.1 ≡ w = cc in subst Q f (error v.1)
each_word Q [] (v ∷ vars) passed error (suc r) w e = each_word Q [] vars passed error r w e
each_word Q (u ∷ ws) vars passed error zero w e = passed 0 w e
each_word Q (u ∷ ws) vars passed error (suc r) w e = each_word Q ws vars (λ i. passed (suc i)) error r w e

-- ---- the words that were passed and the error values of the other variables
pub entry-size : (n : ℕ) (vars : List Declared) (ws : List Word) → AreValues (kinds n vars) ws → length (ws ++ errors (drop n vars)) ≡ length vars
entry-size zero vars [] a = errors-size vars
entry-size zero vars (w ∷ ws) a = absurd a
entry-size (suc n) [] [] a = refl
entry-size (suc n) [] (w ∷ ws) a = absurd a
entry-size (suc n) (v ∷ vars) [] a = absurd a
entry-size (suc n) (v ∷ vars) (w ∷ ws) a = ap suc (entry-size n vars ws a.1)

pub entry-none : (k : ℕ → ℕ) (n : ℕ) (vars : List Declared) (ws : List Word) (c : ℕ) → AreValues (kinds n vars) ws → ((r : ℕ) → r < n → k r ≡ 0) → total k (ws ++ errors (drop n vars)) c ≡ 0
entry-none k zero vars [] c a none = errors-none k vars c
entry-none k zero vars (w ∷ ws) c a none = absurd a
entry-none k (suc n) [] [] c a none = refl
entry-none k (suc n) [] (w ∷ ws) c a none = absurd a
entry-none k (suc n) (v ∷ vars) [] c a none = absurd a
entry-none k (suc n) (v ∷ vars) (w ∷ ws) c a none =
    omega (arith, ap (λ z. many z (times (refs_of w) c)) (none 0 (omega arith)), entry-none (λ r. k (suc r)) n vars ws c a.1 (λ r lt. none (suc r) (omega (arith, lt))))

pub errors-bare : (vars : List Declared) (r : ℕ) (w : Word) → slice_get (errors vars) r ≡ Some w → IsBare w
errors-bare vars = each_word IsBare [] vars (λ r w e. cc) error_bare

pub entry-bare : (n : ℕ) (vars : List Declared) (ws : List Word) → AreValues (kinds n vars) ws → (r : ℕ) (w : Word) → may_have_cells (kind_at vars r) ≡ false → slice_get (ws ++ errors (drop n vars)) r ≡ Some w → IsBare w
entry-bare zero vars [] a r w number e = errors-bare vars r w e
entry-bare zero vars (u ∷ ws) a r w number e = absurd a
entry-bare (suc n) [] [] a r w number e = cc
entry-bare (suc n) [] (u ∷ ws) a r w number e = absurd a
entry-bare (suc n) (v ∷ vars) [] a r w number e = absurd a
entry-bare (suc n) (v ∷ vars) (u ∷ ws) a zero w number e =
    let f : u ≡ w = cc in subst IsBare f (value_bare v.1 u a.0 number)
entry-bare (suc n) (v ∷ vars) (u ∷ ws) a (suc r) w number e = entry-bare n vars ws a.1 r w number e

-- a variable that is empty is none that a word was passed for, so it holds an error value
pub entry-empty : (e : ℕ → Bool) (n : ℕ) (vars : List Declared) (ws : List Word) → AreValues (kinds n vars) ws → ((r : ℕ) → r < n → e r ≡ false) → (r : ℕ) (w : Word) → e r ≡ true → slice_get (ws ++ errors (drop n vars)) r ≡ Some w → IsBare w
entry-empty e zero vars [] a filled r w t is = errors-bare vars r w is
entry-empty e zero vars (u ∷ ws) a filled r w t is = absurd a
entry-empty e (suc n) [] [] a filled r w t is = cc
entry-empty e (suc n) [] (u ∷ ws) a filled r w t is = absurd a
entry-empty e (suc n) (v ∷ vars) [] a filled r w t is = absurd a
entry-empty e (suc n) (v ∷ vars) (u ∷ ws) a filled zero w t is =
    let both : true ≡ false = sym t ∙ filled 0 (omega arith) in absurd (cc)
entry-empty e (suc n) (v ∷ vars) (u ∷ ws) a filled (suc r) w t is =
    entry-empty (λ i. e (suc i)) n vars ws a.1 (λ i lt. filled (suc i) (omega (arith, lt))) r w t is
