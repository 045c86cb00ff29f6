-- What the program's events and members stand for.
use Rattle.std.specs.Prelude.{ℕ, List, map}
use Rattle.indexmap.specs.IndexMap.{IndexMap}
use Rattle.py_syntax.specs.declared.statement.Func.{Func, out-Func}
use Rattle.py_syntax.specs.Expressions.{expr_tree}
use Rattle.py_syntax.specs.Statements.{FuncTree, param_tree, maybe_expr, body_tree}
use Rattle.py_typed.specs.Sorts as sort
use Rattle.py_check_context.specs.declared.members.Member as declared
use Rattle.py_check_context.specs.declared.members.ClassMembers.{ClassMembers}
use Rattle.py_check_context.specs.Members.{Member, member}
use Rattle.py_check_members.specs.declared.events.Source.{Source}
use Rattle.py_check_members.specs.declared.events.Source.TheVariants as source
use Rattle.py_check_members.specs.declared.events.Deed.{Deed}
use Rattle.py_check_members.specs.declared.events.Deed.TheVariants as deed
use Rattle.py_check_members.specs.declared.events.Event.{Event}
use Rattle.py_check_members.specs.declared.places.Places.{Places}
use Rattle.py_check_members.specs.Deeds as spec
use Rattle.py_check_members.specs.Members as members

abbrev pub source_of : Source → spec.Source
source_of source.Itself = spec.itself
source_of (source.Annotated mark) = spec.annotated (maybe_expr mark.now)
source_of source.Int = spec.literal sort.Int
source_of source.Str = spec.literal sort.Str
source_of source.Bool = spec.literal sort.Bool

abbrev pub deed_of : Deed → spec.Deed
deed_of (deed.Defines f) = spec.defines f
deed_of (deed.Declares mark) = spec.declares (expr_tree mark.now)
deed_of (deed.Annotates mark) = spec.annotates (expr_tree mark.now)
deed_of (deed.Gives s) = spec.gives (source_of s)
deed_of deed.Sets = spec.sets

abbrev pub event_of : Event → spec.Event
event_of v = spec.event v.name.now (deed_of v.deed) v.place

abbrev pub events_of : List Event → List spec.Event
events_of vs = map event_of vs

abbrev pub places_of : Places → members.Places
places_of p = record { body = p.body; init = p.init; gift = p.gift }

-- members in a map, in their order
abbrev pub entries_of : {S : Type 0} → IndexMap (List ℕ) declared.Member S → List (List ℕ × Member)
entries_of own = map (λ p. (p.0, member p.1)) own.entries

-- the own members of a class, in the order of the text
abbrev pub own_of : ClassMembers → List (List ℕ × Member)
own_of c = entries_of c.own

-- a function by its parts
abbrev pub function_parts : Func → FuncTree
function_parts f = record {
  name = (out-Func f).name;
  params = map param_tree (out-Func f).params;
  ret = maybe_expr (out-Func f).ret;
  body = body_tree (out-Func f).body;
  marks = map expr_tree (out-Func f).marks;
}
