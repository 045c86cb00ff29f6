-- Sample programs: input.
use Rattle.std.proofs.Common.{◌≡◌, [], ◌∷◌, Some, None, refl, codes}
use Rattle.value_core.specs.declared.exception.ExcClass.TheVariants.{ValueError, EOFError}
use Rattle.value_core.specs.Ending as ending
use Rattle.value_core.specs.Ending.{Done, Raised}
use Rattle.value_core.specs.Items.{Line, Bad, Eof, Over, Broken}
use Rattle.py_typed.specs.Sorts.{Str}
use Rattle.py_typed.specs.Expressions as tree
use Rattle.py_typed.specs.Statements.{TypedModule, Try, handler_then, no_handlers, no_suite}
use Rattle.source_meaning.specs.SourceRun.{source_run}
use Rattle.source_meaning.proofs.samples.Building.{as_type, print, ◌▸◌, end, plain, ran, fails}

-- print(input()); print(input())
abbrev echo : TypedModule
echo = plain [] (print (as_type Str tree.Input ∷ []) ▸ print (as_type Str tree.Input ∷ []) ▸ end)

two_lines : ran 0 (Line (codes "a") (Line [] Eof)) echo ≡ (codes "a\n\n", Some Done)
unfolding source_run
two_lines = refl

at_the_end : ran 0 (Line (codes "a") Eof) echo ≡ (codes "a\n", fails EOFError (codes "EOF when reading a line"))
unfolding source_run
at_the_end = refl

a_bad_line : ran 0 (Bad (Line (codes "a") Eof)) echo ≡ ([], fails ValueError (codes "input is not UTF-8"))
unfolding source_run
a_bad_line = refl

too_far : ran 0 (Line (codes "a") Over) echo ≡ (codes "a\n", Some ending.Over)
unfolding source_run
too_far = refl

broken_off : ran 0 (Line (codes "a") Broken) echo ≡ (codes "a\n", Some ending.Broken)
unfolding source_run
broken_off = refl

-- try: print(input())
-- except ValueError: print(input())
-- the bad line is consumed
behind_a_bad_line : ran 0 (Bad (Line (codes "b") Eof)) (plain [] (Try (print (as_type Str tree.Input ∷ []) ▸ end) (handler_then (ValueError ∷ []) None (print (as_type Str tree.Input ∷ []) ▸ end) no_handlers) no_suite ▸ end)) ≡ (codes "b\n", Some Done)
unfolding source_run
behind_a_bad_line = refl
