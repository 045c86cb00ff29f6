-- Rows behind what stands in front of them.
use Rattle.std.proofs.Common.{◌≡◌, List, [], ◌∷◌, ◌++◌, Ok, Err, refl, sym, ap}
use Rattle.py_parser_grammar.specs.declared.place.Place.{Place}
use Rattle.py_parser_grammar.specs.Reader.{Outcome, Stop}
use Rattle.py_parser_cursor.specs.declared.fault.ParseError.{ParseError}
use Rattle.py_parser_cursor.specs.declared.fault.ParseError.TheVariants as fault
use Rattle.py_parser_cursor.specs.Gives.{Fails}
use Rattle.py_parser_expressions.specs.Rows.{fronted, one_more}

-- one part more behind those in front
pub one_of : {A : Type 0} (xs : List A) (o : Outcome A) (z : List A × Place) → one_more xs o ≡ Ok z → (v : A × Place) × (o ≡ Ok v) × (z ≡ (xs ++ v.0 ∷ [], v.1))
one_of xs (Ok v) z h = (v, refl, let e : (xs ++ v.0 ∷ [], v.1) ≡ z = cc in sym e)
one_of xs (Err q) z h = absurd (let e : ⊥ = cc in e)

stays_err : {A : Type 0} (xs : List A) (o : Outcome A) (q : Stop) → one_more xs o ≡ Err q → o ≡ Err q
stays_err xs (Ok v) q h = cc
stays_err xs (Err r) q h = let e : r ≡ q = cc in ap (λ x. Err x) e

pub unfails : {A : Type 0} (e : ParseError) (xs : List A) (o : Outcome A) → Fails e (one_more xs o) → Fails e o
unfails (fault.Syntax i) xs o h = stays_err xs o _ h
unfails (fault.Profile i) xs o h = stays_err xs o _ h
unfails (fault.TooDeep i) xs o h = stays_err xs o _ h
unfails fault.Memory xs o h = tt

pub fronted_nil : {A : Type 0} (o : Outcome (List A)) → fronted [] o ≡ o
fronted_nil (Ok y) = refl
fronted_nil (Err e) = refl
