-- Which words have no cell.
use Rattle.std.proofs.Common.{◌≡◌, refl, zero, suc, Bool, true, false, cond, Option, Some, None}
use Rattle.std.specs.Prelude.{◌%◌, ◌==◌, ℤ, pos, negsuc}
use Rattle.std.specs.Option.{option_and_then}
use Rattle.c_core.specs.declared.code.Kind.{Kind}
use Rattle.c_core.specs.declared.code.Kind.TheVariants.{Tagged, Int64, Char, Object}
use Rattle.c_core.specs.declared.code.CLit.{CLit}
use Rattle.c_core.specs.declared.code.CLit.TheVariants.{Number, Null, PyNone, PyTrue, PyFalse}
use Rattle.c_core.specs.Machine.{Word, BigInt, TaggedError, ObjectCell}
use Rattle.c_core.specs.Step.{halved, char_word, literal_word, equals_error}
use Rattle.c_core_ownership_laws.specs.Frames.{IsBare}

-- a word that may be missing has no cell
abbrev pub IsNoneOrBare : Option Word → Type 0
IsNoneOrBare None = Unit {0}
IsNoneOrBare (Some w) = IsBare w

either_bare : (b : Bool) (v w : Option Word) → IsNoneOrBare v → IsNoneOrBare w → IsNoneOrBare (cond b v w)
either_bare true v w p q = p
either_bare false v w p q = q

halved_bare : (n : ℤ) → IsNoneOrBare (halved n)
halved_bare (pos n) =
    either_bare (n % 2 == 0) _ _ (λ c. refl) (either_bare (n == 1) (Some TaggedError) None (λ c. refl) tt)
halved_bare (negsuc n) = either_bare (n % 2 == 1) _ _ (λ c. refl) tt

char_bare : (n : ℤ) → IsNoneOrBare (char_word n)
char_bare (pos zero) = λ c. refl
char_bare (pos (suc zero)) = λ c. refl
char_bare (pos (suc (suc zero))) = λ c. refl
char_bare (pos (suc (suc (suc n)))) = tt
char_bare (negsuc n) = tt

literal_bare : (k : Kind) (l : CLit) → IsNoneOrBare (literal_word k l)
literal_bare Tagged (Number n) = halved_bare n
literal_bare Int64 (Number n) = λ c. refl
literal_bare Char (Number n) = char_bare n
literal_bare Object Null = λ c. refl
literal_bare Object PyNone = λ c. refl
literal_bare Object PyTrue = λ c. refl
literal_bare Object PyFalse = λ c. refl
literal_bare _ _ = tt

pub written_bare : (k : Option Kind) (l : CLit) → IsNoneOrBare (option_and_then (λ k. literal_word k l) k)
written_bare None l = tt
written_bare (Some k) l = literal_bare k l

pub unset_bare : (w : Word) → equals_error w ≡ true → IsBare w
unset_bare (BigInt n) e = cc
unset_bare (ObjectCell n) e = cc
unset_bare w e = λ c. refl
