use Rattle.std.proofs.Common.{◌≡◌, sym, ℕ, ◌^◌, ◌<◌, ◌≤◌, List, length, true, arith, rules, None, Result, Ok, Err}
use Rattle.std.specs.Char.{is_ascii_digit}
use Rattle.std.specs.List.{list_all}
use Rattle.std.specs.Result.{OkIff, result_ok}
use Rattle.std.specs.Str.Parse.{digits_value, ParsesUnsigned}
use Rattle.std.proofs.lemmas.Str.Parse.{IsDigitsTest, IsNumeralModel, numerals_by_value, digits_value_short, parse_digits}
use Rattle.std.proofs.lemmas.Bool.Decides.{nat_tests}
use Rattle.mypyc_top_words.specs.Words.{listed_turns}
use Rattle.mypyc_top_words.proofs.words.turns_named.Goals as goal

tells : IsDigitsTest (λ ds. list_all is_ascii_digit ds ≡ true)
tells = search rules

own : IsNumeralModel (λ ds. list_all is_ascii_digit ds ≡ true) (digits_value 10)
own = numerals_by_value _ tells

fits : (v : List ℕ) → list_all is_ascii_digit v ≡ true → length v ≤ 19 → digits_value 10 v < 2 ^ 64
fits v d l = omega (arith, digits_value_short own v 19 d l)

of_err : {E : Type 0} (r : Result ℕ E) (P : Type 0) (n : ℕ) → OkIff r P n → None ≡ result_ok r → ¬ P
of_err (Ok y) P n is none = absurd (cc)
of_err (Err e) P n is none = is

empty : (v : List ℕ) → ¬ (0 < length v) → None ≡ listed_turns v
empty v none = grind (arith, nat_tests)

unparsed : {E : Type 0} (v : List ℕ) (r : Result ℕ E) → list_all is_ascii_digit v ≡ true → length v ≤ 19 → ParsesUnsigned 64 10 v r → None ≡ result_ok r → None ≡ listed_turns v
unparsed v r digits short parsed none =
    let no = of_err r _ _ (parse_digits own 64 v r parsed digits) none in
    empty v (λ some. no (some, fits v digits short))

pub returns-in_err-turns : goal.returns-in_err-turns
returns-in_err-turns c =
    rw c.from_residual.ensures
    (unparsed c.args.value.now c.parse.result (sym c.if-not-has_only_digits.ensures) (omega arith) c.parse.ensures.value.0 c.in_err-turns.ensures.value)
