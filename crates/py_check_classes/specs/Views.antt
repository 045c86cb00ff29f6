-- A declared class by its parts.
use Rattle.std.specs.Prelude.{map}
use Rattle.py_syntax.specs.declared.statement.Class.{Class, out-Class}
use Rattle.py_syntax.specs.Expressions.{expr_tree}
use Rattle.py_syntax.specs.Statements.{ClassTree, body_tree}

abbrev pub class_parts : Class → ClassTree
class_parts c = record {
  name = (out-Class c).name;
  bases = map expr_tree (out-Class c).bases;
  body = body_tree (out-Class c).body;
  marks = map expr_tree (out-Class c).marks;
}
