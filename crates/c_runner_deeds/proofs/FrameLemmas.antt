-- Cells that are there, and a target that is written, at the runner's states.
use Rattle.std.proofs.Common.{◌≡◌, refl, sym, ap, ℕ, true, List, Option, Some, None}
use Rattle.std.specs.Prelude.{is_some}
use Rattle.std.proofs.lemmas.List.{map-set}
use Rattle.c_core.specs.declared.fault.Fault.TheVariants as fault
use Rattle.c_core.specs.Cells.{content_at}
use Rattle.c_core.specs.Machine as machine
use Rattle.c_core.specs.Machine.{MachineState}
use Rattle.c_core.specs.Step as step
use Rattle.c_core.specs.Step.{Next, if_some, if_there}
use Rattle.c_runner_deeds.specs.Parts.{is_there}
use Rattle.c_runner_deeds.specs.States.{Seen, Rest, frame_of, state_of, with_target}
use Rattle.cell_heap.specs.declared.word.Word.{Word}
use Rattle.cell_heap.specs.Contents as contents

-- ---- cells that are there, and cells that are gone
some_there : (s : MachineState) {A : Type 0} (o : Option A) (go : Next) → is_some o ≡ true → if_some true s fault.Dead o (λ a. go) ≡ go
some_there s None go e = absurd (cc)
some_there s (Some a) go e = refl

pub there : (s : MachineState) (w : machine.Word) (go : Next) → is_there s.cells w ≡ true → if_there true s w (λ a. go) ≡ go
there s (machine.BigInt c) go e = some_there s (content_at s.cells c) go e
there s (machine.ObjectCell c) go e = some_there s (content_at s.cells c) go e
there s (machine.ShortInt n) go e = refl
there s machine.TaggedError go e = refl
there s (machine.Native n) go e = refl
there s (machine.CharWord n) go e = refl
there s machine.NoneObject go e = refl
there s machine.TrueObject go e = refl
there s machine.FalseObject go e = refl
there s machine.NoObject go e = refl

-- ---- a return
pub target_set : (rest : Rest) (st : Seen) (target : Option ℕ) (w : Word) → step.with_target target (contents.word_of w) (state_of rest st) ≡ state_of rest (record st { top = with_target target w st.top })
target_set rest st None w = refl
target_set rest st (Some x) w =
    let with : List machine.Word → MachineState = λ v. record (state_of rest st) { top = record (frame_of st.top) { vars = v } } in
    ap with (sym (map-set contents.word_of st.top.vars x w))
