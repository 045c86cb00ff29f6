-- Deletions (Python Language Reference, "The del statement"): an item of a dict is deleted, and nothing else.
--
-- What is to be deleted is an expression, whose own rule is asked before that of the deletion: so the index of a dict's item fits the
-- dict's keys.
use Rattle.std.specs.Prelude.{Bool, Result, Ok, Err, if◌then◌else◌}
use Rattle.py_syntax.specs.declared.token.Span.{Span}
use Rattle.py_syntax.specs.Expressions.{ExprTree}
use Rattle.py_typed.specs.Fits.{is_dict}
use Rattle.py_typed.specs.Expressions as node
use Rattle.py_typed.specs.Expressions.{TypedExpr, typed, type_of}
use Rattle.py_typed.specs.Statements as act
use Rattle.py_typed.specs.Statements.{TypedAct}
use Rattle.py_check_context.specs.Context.{Context, free}
use Rattle.py_check_messages.specs.Seen.{Seen, Message, rule}
use Rattle.py_check_messages.specs.Messages.{only_entries}
use Rattle.py_check_places.specs.Places.{Known}
use Rattle.py_check_places.specs.Shapes.{is_item}
use Rattle.py_check_targets.specs.Targets.{typed_at}

-- an item of this value, with this index
abbrev pub entry_deleted : TypedExpr → TypedExpr → Result TypedAct Message
entry_deleted d k = if is_dict (type_of d) then Ok (act.Del d k) else Err only_entries

abbrev pub item_deleted : TypedExpr → Result TypedAct Message
item_deleted (typed (node.At d k) t place) = entry_deleted d k
item_deleted e = Err only_entries

-- of what is written as an item, and of anything else
abbrev pub deletion : Bool → TypedExpr → Result TypedAct Message
deletion written e = if written then item_deleted e else Err only_entries

abbrev pub deletes : Context → Known → Span → ExprTree → Seen TypedAct
deletes c k span e = rule span (deletion (is_item e)) (typed_at c k free e)
