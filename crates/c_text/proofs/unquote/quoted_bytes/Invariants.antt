use Rattle.std.proofs.Common.{◌≡◌, ℕ, ◌≤◌, List, ◌∷◌, ◌++◌, length}
use Rattle.std.specs.List.{flat_map}
use Rattle.c_core.specs.Text.{byte_text}
use Rattle.c_text.specs.Quotes.{TextRemains}
use Rattle.c_text.proofs.unquote.quoted_bytes.Given as goal

abbrev pub invariant-loop-byte : goal.invariant-loop-byte
invariant-loop-byte l = record {
  remains : (t rest : List ℕ) → flat_map byte_text t ++ 34 ∷ rest ≡ l.fn.text → TextRemains l.bytes.items t l.rest rest;
  within : length l.rest ≤ length l.fn.text;
}

abbrev pub decreases-loop-byte : goal.decreases-loop-byte
decreases-loop-byte l = length l.rest
