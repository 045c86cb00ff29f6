-- The three forms of a ledger, and its contracts' words, at small ledgers.
use Rattle.std.proofs.Common.{◌≡◌, refl, true, false, [], ◌∷◌}
use Rattle.c_runner_ledger.specs.declared.ledger.Held.TheVariants.{Once, Few, Several}
use Rattle.c_runner_ledger.specs.Held.{held_numbers}
use Rattle.c_runner_ledger.specs.Ledgers.{numbers_of, is_only}

one_number : held_numbers (Once 7) ≡ 7 ∷ []
one_number = refl

-- cell 3 twice, cell 7 once
three_numbers : held_numbers (Few (3 ∷ 3 ∷ 7 ∷ [])) ≡ 3 ∷ 3 ∷ 7 ∷ []
three_numbers = refl

same_in_map : held_numbers (Several (numbers_of ((3, 1) ∷ (7, 0) ∷ []))) ≡ held_numbers (Few (3 ∷ 3 ∷ 7 ∷ []))
same_in_map = refl

only_that_cell : is_only 7 (held_numbers (Few (7 ∷ []))) ≡ true
only_that_cell = refl

twice_that_cell : is_only 7 (held_numbers (Few (7 ∷ 7 ∷ []))) ≡ false
twice_that_cell = refl

another_cell : is_only 7 (held_numbers (Few (3 ∷ 7 ∷ []))) ≡ false
another_cell = refl
