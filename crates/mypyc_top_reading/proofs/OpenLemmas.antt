-- How much of an open file is read.
use Rattle.std.proofs.Common.{◌≡◌, sym, ◌∙◌, subst, ℕ, List, Bool, false, IsTrue, Option, Some}
use Rattle.outside_core.specs.Bytes.{GivesAtMost}

same_bytes : (a b : List ℕ) → Some a ≡ Some b → a ≡ b
same_bytes a b e = cc
