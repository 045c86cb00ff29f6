-- What the tables of the program say.
use Rattle.std.specs.Prelude.{if◌then◌else◌}
use Rattle.std.specs.Str.{bytes_eq}
use Rattle.indexmap.specs.IndexMap.{get}
use Rattle.py_binder.specs.declared.table.Table.{Table}
use Rattle.py_binder.specs.declared.inside.Inside.{Inside}
use Rattle.py_binder.specs.declared.scope.Role.TheVariants.{Builtin}
use Rattle.py_binder.specs.Scope.{Roles, is_builtin, said_or_variable, contains, inner_role}

abbrev pub table_role : Table → Roles
table_role t name = if is_builtin name then Builtin else said_or_variable (get bytes_eq t.said name) (contains t.bound.keys name)

abbrev pub inside_role : Inside → Roles
inside_role i name = inner_role (table_role i.table.now) i.params.keys i.listed.keys i.bound.keys name
