-- Parts that no well-typed module has are stuck.
use Rattle.std.proofs.Common.{◌≡◌, [], ◌∷◌, Some, None, refl, codes}
use Rattle.py_syntax.specs.declared.expression.CmpOp.TheVariants.{Eq}
use Rattle.py_typed.specs.Sorts.{Int, Nothing}
use Rattle.py_typed.specs.Expressions as tree
use Rattle.py_typed.specs.Statements.{Raise}
use Rattle.source_meaning.specs.SourceRun.{source_run}
use Rattle.source_meaning.proofs.samples.Building.{as_type, num, text, compare, print, set, ◌▸◌, end, plain, run}

-- print(1 == "a")
unlike_compared : run (plain [] (print (compare Eq (num 1) (text (codes "a")) ∷ []) ▸ end)) ≡ ([], None)
unfolding source_run
unlike_compared = refl

-- print(None)
none_printed : run (plain [] (print (as_type Nothing tree.Nothing ∷ []) ▸ end)) ≡ ([], None)
unfolding source_run
none_printed = refl

-- a variable that is not there
no_variable : run (plain ((codes "x", Int) ∷ []) (set 1 (num 1) ▸ end)) ≡ ([], None)
unfolding source_run
no_variable = refl

-- raise 1
number_raised : run (plain [] (Raise (Some (num 1)) ▸ end)) ≡ ([], None)
unfolding source_run
number_raised = refl
