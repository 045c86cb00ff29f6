-- A law of reading a row.
use Rattle.std.proofs.Common.{◌≡◌, List, ◌++◌, Ok, Err, refl, ap}
use Rattle.py_parser_grammar.specs.Reader.{Outcome, ◌>>=◌}

-- what was found, behind which there is what g makes of a row
pub regrouped : {A B : Type 0} (g f : List A → List B) (found : List B) (o : Outcome (List A)) → ((vs : List A) → g vs ≡ f vs) → (o >>= λ y. Ok (found ++ g y.0, y.1)) ≡ (o >>= λ y. Ok (found ++ f y.0, y.1))
regrouped g f found (Ok y) h = ap (λ l. Ok (found ++ l, y.1)) (h y.0)
regrouped g f found (Err e) h = refl
