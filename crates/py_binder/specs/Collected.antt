-- What the collected sights of the program stand for.
use Rattle.std.specs.Prelude.{List, map}
use Rattle.py_syntax.specs.Statements.{func_tree}
use Rattle.py_binder.specs.declared.sight.Sight as collected
use Rattle.py_binder.specs.declared.sight.Use as way
use Rattle.py_binder.specs.declared.sight.Use.TheVariants as way_of
use Rattle.py_binder.specs.Sights.{Use, Reads, Binds, Defines, Declares, Holds, Sight, sight}

abbrev pub use_of : way.Use → Use
use_of (way_of.Reads name) = Reads name
use_of (way_of.Binds name) = Binds name
use_of (way_of.Defines role name) = Defines role name
use_of (way_of.Declares names) = Declares names.now
use_of (way_of.Holds f) = Holds (func_tree f.now)

abbrev pub sight_of : collected.Sight → Sight
sight_of x = sight (use_of x.does) x.span

abbrev pub sights_of : List collected.Sight → List Sight
sights_of xs = map sight_of xs
