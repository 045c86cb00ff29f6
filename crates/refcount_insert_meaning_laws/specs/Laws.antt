-- What a program with its counts means.
use Rattle.std.specs.Prelude.{◌≡◌}
use Rattle.ir_core.specs.declared.code.Program.{Program}
use Rattle.ir_core.specs.Runs.{MeansSame, Fit}
use Rattle.ir_core.specs.Shape.{Shape}
use Rattle.refcount_insert_rule.specs.Counted.{IsCountedProgram}
use Rattle.refcount_insert_meaning_laws.specs.Uncounted.{uncounted}

-- with any turns and any input it comes to the ends of the program that has no counts yet, and to no others
abbrev pub CountedMeansSame : Type 0
CountedMeansSame =
    (p q : Program) → Shape p → Fit p → IsCountedProgram p q → MeansSame p (uncounted q)

-- and in no run of it an operation fails without its edge
abbrev pub CountedFits : Type 0
CountedFits = (p q : Program) → Shape p → Fit p → IsCountedProgram p q → Fit (uncounted q)

-- a program with its shape is its own without counts, so of any program it can be said that it means what it means without them
abbrev pub UncountedIsSame : Type 0
UncountedIsSame = (p : Program) → Shape p → uncounted p ≡ p
