-- What a call wrote.
use Rattle.std.specs.Prelude.{◌≡◌, ℕ, Bool, List, [], ◌∷◌, ◌++◌, Result, IsTrue, OnOk, OnErr}
use Rattle.std.specs.Borrow.{Bor}
use Rattle.outside_core.specs.Bytes.{TakesFront}
use Rattle.outside_core.specs.Counts.{count_after}

-- words one behind another
abbrev pub words_text : List (Bor (List ℕ)) → List ℕ
words_text [] = []
words_text (w ∷ []) = w.now
words_text (w ∷ v ∷ words) = w.now ++ words_text (v ∷ words)

-- The whole text was written, or a front of it where the sink refused a call: what a call that answered so did to the count of
-- faults and, where the sink tells, to what it took.
pub record Wrote {T E : Type 0} (result : Result T E) (tells : Bool) (calm faults : ℕ) (old new text : List ℕ) : Type 0 where
  pub counted : faults ≡ count_after result calm
  pub taken : OnOk result (IsTrue tells → new ≡ old ++ text)
  pub front : OnErr result (IsTrue tells → TakesFront old new text)
