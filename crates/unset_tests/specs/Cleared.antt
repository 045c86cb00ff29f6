-- When one program is another one without what is of no use: the tests of registers that are surely set, and then what stands in
-- blocks that no path reaches any more.
use Rattle.std.specs.Prelude.{◌≡◌}
use Rattle.ir_core.specs.declared.code.Func.{Func}
use Rattle.ir_core.specs.declared.code.Program.{Program}
use Rattle.unset_tests.specs.Alike.{AreEach}
use Rattle.unset_tests.specs.Without.{IsWithout}
use Rattle.unset_tests.specs.Emptied.{IsEmptied}

pub record IsCleared (f g : Func) : Type 0 where
  pub between : Func
  pub tests : IsWithout f between
  pub emptied : IsEmptied between g

pub record IsProgramCleared (p q : Program) : Type 0 where
  pub globals : q.globals ≡ p.globals
  pub classes : q.classes ≡ p.classes
  pub funcs : AreEach IsCleared p.funcs q.funcs
