-- A request asks for no more turns than there can be.
use Rattle.std.proofs.Common.{◌≡◌, refl, sym, subst, ℕ, ◌≤◌, Bool, true, false, ◌&&◌, List, [], ◌∷◌, filter, Option, Some, nat_le, arith}
use Rattle.std.proofs.lemmas.Bool.Decides.{nat_tests}
use Rattle.std.specs.Str.Parse.{digits_value}
use Rattle.std.specs.List.{list_any}
use Rattle.mypyc_top_words.specs.declared.words.Emit.{Emit}
use Rattle.mypyc_top_words.specs.declared.words.Emit.TheVariants.{Run}
use Rattle.mypyc_top_words.specs.declared.words.Stage.{Stage}
use Rattle.mypyc_top_words.specs.declared.words.Stage.TheVariants.{Owned}
use Rattle.mypyc_top_words.specs.declared.words.Request.{Request}
use Rattle.mypyc_top_words.specs.declared.words.Words.TheVariants.{Go}
use Rattle.c_core.specs.Run.{most_turns}
use Rattle.mypyc_top_words.specs.Words.{words_of, meant_by, setting, is_turns, listed_turns, listed_emit, listed_stage, values, emit_name, stage_name, turns_name, only, is_file, is_left}

both_true : (a b : Bool) → a && b ≡ true → b ≡ true
both_true true b e = e
both_true false b e = absurd (cc)

by_test : {A : Type 0} (b : Bool) → (b ≡ true → A) → (b ≡ false → A) → A
by_test true t f = t refl
by_test false t f = f refl

small_value : (v : List ℕ) → is_turns v ≡ true → digits_value 10 v ≤ most_turns
small_value v is = let last = both_true _ (nat_le (digits_value 10 v) most_turns) is in grind (arith, nat_tests, last)

listed_small : (v : List ℕ) (n : ℕ) → listed_turns v ≡ Some n → n ≤ most_turns
listed_small v n e =
    by_test (is_turns v)
    (λ is. let s = small_value v is in let f = rw is at e in let value : digits_value 10 v ≡ n = cc in omega (arith, s, value))
    (λ is. let f = rw is at e in absurd (cc))

setting_small : (vs : List (List ℕ)) (n : ℕ) → setting 100000000 listed_turns vs ≡ Some n → n ≤ most_turns
setting_small [] n e = let value : 100000000 ≡ n = cc in omega (arith, value)
setting_small (v ∷ []) n e = listed_small v n e
setting_small (v ∷ w ∷ vs) n e = absurd (cc)

meant_small : (left : Bool) (emit : Option Emit) (stage : Option Stage) (turns : Option ℕ) (file : Option (List ℕ)) (r : Request) → ((n : ℕ) → turns ≡ Some n → n ≤ most_turns) → Go r ≡ meant_by left emit stage turns file → r.turns ≤ most_turns
meant_small false (Some emit) (Some stage) (Some n) (Some file) r small e =
    let same : r ≡ record { emit = emit; stage = stage; turns = n; file = file } = cc in
    let P : Request → Type 0 = λ x. x.turns ≤ most_turns in
    subst P (sym same) (small n refl)
meant_small _ _ _ _ _ r small e = absurd (cc)

pub most_asked : (words : List (List ℕ)) (r : Request) → Go r ≡ words_of words → r.turns ≤ most_turns
unfolding words_of
most_asked words r e =
    meant_small (list_any is_left words) (setting Run listed_emit (values emit_name words)) (setting Owned listed_stage (values stage_name words)) (setting 100000000 listed_turns (values turns_name words)) (only (filter is_file words)) r
    (λ n is. setting_small (values turns_name words) n is) e
