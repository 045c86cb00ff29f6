-- What the program's headers and faults stand for.
use Rattle.std.specs.Prelude.{ℕ, List, map}
use Rattle.std.specs.Option.{option_map}
use Rattle.py_syntax.specs.declared.statement.Func.{Func, out-Func}
use Rattle.py_syntax.specs.Expressions.{expr_tree}
use Rattle.py_syntax.specs.Statements.{FuncTree, param_tree, maybe_expr, body_tree}
use Rattle.py_typed.specs.Sorts.{sort}
use Rattle.py_check_messages.specs.Seen.{Message}
use Rattle.py_check_messages.specs.Messages as message
use Rattle.py_check_signatures.specs.declared.headers.Header.{Header}
use Rattle.py_check_signatures.specs.declared.definitions.DefFault.{DefFault}
use Rattle.py_check_signatures.specs.declared.definitions.DefFault.TheVariants.{AlreadyDefined, OutsideProfile, SelfMissing, DuplicateParameter, BuiltinName, MissingAnnotation, TooManyNames, MissingReturn}
use Rattle.py_check_signatures.specs.Headers.{HeaderSorts}

abbrev pub header_sorts : Header → HeaderSorts
header_sorts h = record { owner = h.owner; params = map (option_map sort) h.params; ret = option_map sort h.ret; typed = h.typed }

-- the text of a fault of the function of this name
abbrev pub fault_message : List ℕ → DefFault → Message
fault_message name AlreadyDefined = message.already_defined name
fault_message name OutsideProfile = message.outside_profile name
fault_message name SelfMissing = message.self_missing name
fault_message name (DuplicateParameter x) = message.duplicate_parameter x.now
fault_message name (BuiltinName x) = message.cannot_assign x.now
fault_message name MissingAnnotation = message.missing_annotation
fault_message name TooManyNames = message.too_many_names name
fault_message name MissingReturn = message.missing_return

-- a function by its parts
abbrev pub parts : Func → FuncTree
parts f = record {
  name = (out-Func f).name;
  params = map param_tree (out-Func f).params;
  ret = maybe_expr (out-Func f).ret;
  body = body_tree (out-Func f).body;
  marks = map expr_tree (out-Func f).marks;
}
