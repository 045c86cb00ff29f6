-- What a sink took in a call.
use Rattle.std.specs.Prelude.{◌≡◌, ℕ, Bool, List, ◌++◌, IsTrue}
use Rattle.outside_core.specs.Bytes.{TakesFront}

-- a sink in a call: whether it tells what it took, and what it took before and after
pub record SinkCall : Type 0 where
  pub tells : Bool
  pub before : List ℕ
  pub after : List ℕ

abbrev pub sink_call : Bool → List ℕ → List ℕ → SinkCall
sink_call tells before after = record { tells = tells; before = before; after = after }

-- a sink that tells took exactly this, or a front of it
abbrev pub Took : SinkCall → List ℕ → Type 0
Took sink text = IsTrue sink.tells → sink.after ≡ sink.before ++ text

abbrev pub TookFront : SinkCall → List ℕ → Type 0
TookFront sink text = IsTrue sink.tells → TakesFront sink.before sink.after text
