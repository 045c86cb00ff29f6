-- When what a call gave is the answer.
use Rattle.std.specs.Prelude.{◌≡◌, ℕ, List, [], ◌⊎◌}
use Rattle.value_core.specs.Items.{Items}
use Rattle.mypyc_top_status.specs.declared.status.Status.{Status}
use Rattle.mypyc_top_status.specs.declared.status.Status.TheVariants as status
use Rattle.mypyc_top_status.specs.ErrorLines.{memory_line}
use Rattle.mypyc_top_status.specs.Gave.{Gave}
use Rattle.mypyc_top_status.specs.Sinks.{SinkCall, Took, TookFront}
use Rattle.mypyc_top.specs.Answer.{FileMeaning, Answer}

-- The call answered what its words and its file ask for. A sink that is to get nothing is left alone, and not even told to
-- pass on what it holds back; `OutAlone` and `ErrAlone` say that the sinks are as they were.
pub record Answers (words : List (List ℕ)) (file : FileMeaning) (items : Items) (out err : SinkCall) (OutAlone ErrAlone : Type 0) (s : Status) : Type 0 where
  pub text : List ℕ
  pub lines : List ℕ
  pub result : Status
  pub answer : Answer words file items text lines result
  pub gave : Gave out err text lines result s
  pub out_alone : text ≡ [] → OutAlone
  pub err_alone : lines ≡ [] → (s ≡ status.Memory) ⊎ ErrAlone

-- memory ran out before the output took anything
pub record LacksMemory (out err : SinkCall) (OutAlone : Type 0) (s : Status) : Type 0 where
  pub status : s ≡ status.Memory
  pub out_nothing : Took out []
  pub err_front : TookFront err memory_line
  pub out_alone : OutAlone

abbrev pub Answered : List (List ℕ) → FileMeaning → Items → SinkCall → SinkCall → Type 0 → Type 0 → Status → Type 0
Answered words file items out err OutAlone ErrAlone s =
    Answers words file items out err OutAlone ErrAlone s ⊎ LacksMemory out err OutAlone s
