-- The file of a name, found by its place.
use Rattle.std.proofs.Common.{◌≡◌, refl, ℕ, suc, ◌+◌, Bool, true, false, not, cond, nat_lt, List, [], ◌∷◌, length, Option, Some, None, String, Vec, arith}
use Rattle.std.specs.Option.{option_map}
use Rattle.std.specs.List.{position, position_or_len}
use Rattle.std.proofs.Math.Numerals.{one-add}
use Rattle.std.proofs.lemmas.Bool.Decides.{nat_tests}
use Rattle.outside_core.specs.States.{named, bytes_of, content_of, is_called}

first_or_rest : (b : Bool) (k n : ℕ) (all rest : ℕ → List ℕ) (first : List ℕ) (found : Option (List ℕ)) → all 0 ≡ first → ((i : ℕ) → all (1 + i) ≡ rest i)
    → found ≡ option_map rest (cond (nat_lt k n) (Some k) None)
    → cond b (Some first) found ≡ option_map all (cond (nat_lt (cond (not b) (1 + k) 0) (suc n)) (Some (cond (not b) (1 + k) 0)) None)
first_or_rest true k n all rest first found h t e = grind (arith, nat_tests, h)
first_or_rest false k n all rest first found h t e = grind (arith, nat_tests, t k)

-- the bytes of a name are those of the first file that has it
pub content_of_position : {Y Z : Type 0} (name : List ℕ) (files : List (String Y × Vec ℕ Z)) → content_of (named files) name ≡ option_map (bytes_of files) (position (is_called name) files)
content_of_position name [] = refl
content_of_position name (file ∷ files) =
    first_or_rest (is_called name file) (position_or_len (is_called name) files) (length files) (bytes_of (file ∷ files)) (bytes_of files) file.1.items _
    refl (λ i. rw one-add refl) (content_of_position name files)
