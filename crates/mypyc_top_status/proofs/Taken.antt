-- What a sink took where it took all of a text or a front of it.
use Rattle.std.proofs.Common.{◌≡◌, List, ℕ, ◌++◌, Result, Ok, Err, OnOk, OnErr}
use Rattle.outside_core.specs.Bytes.{TakesFront}
use Rattle.outside_core.proofs.Fronts.{TakesFront-all}

pub some_taken : {T E W : Type 0} (r : Result T E) (old new text : List ℕ) → OnOk r (W → new ≡ old ++ text) → OnErr r (W → TakesFront old new text) → W → TakesFront old new text
some_taken (Ok x) old new text all front w = TakesFront-all old new text (all w)
some_taken (Err e) old new text all front w = front w
