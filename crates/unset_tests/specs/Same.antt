-- When two programs take the same steps.
use Rattle.std.specs.Prelude.{◌≡◌, ℕ}
use Rattle.value_core.specs.Items.{Items}
use Rattle.ir_core.specs.declared.code.Program.{Program}
use Rattle.ir_core.specs.Meaning.{Mode, steps}
use Rattle.ir_core.specs.Runs.{start}

-- with the same turns and the same input they stand at the same place after as many steps, with the same registers and the same
-- world, on each of the three machines
abbrev pub RunsSame : Program → Program → Type 0
RunsSame p q =
    (m : Mode) (turns : ℕ) (items : Items) (n : ℕ) → steps m q n (start q turns items) ≡ steps m p n (start p turns items)
