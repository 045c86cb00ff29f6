-- What a ledger holds, as the machine's.
use Rattle.std.specs.Prelude.{ℕ, List, [], ◌∷◌}
use Rattle.c_runner_ledger.specs.declared.ledger.Held.{Held}
use Rattle.c_runner_ledger.specs.declared.ledger.Held.TheVariants.{Once, Few, Several}

abbrev pub held_numbers : Held → List ℕ
held_numbers (Once c) = c ∷ []
held_numbers (Few l) = l
held_numbers (Several l) = l
