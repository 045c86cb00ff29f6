-- What type an annotation is, or what is wrong with it (PEP 484; Python Library Reference, "typing").
--
-- `int`, `i64`, `bool`, `str`, classes and exception classes are types; `list[T]`, `dict[K, V]`, `tuple[T1, .., Tn]` and
-- `Optional[T]` are, of types; `T | None` and `None | T` are `Optional[T]`. A text of one identifier stands for that name.
-- `None` is a type of what is returned alone.
--
-- The fault of what is no type stands at that part, and nothing is said of what holds it. An expression of no such form has one
-- fault, of the whole, unless a name in it is not known: of such a name binding says so, and nothing is said here.
use Rattle.std.specs.Prelude.{ℕ, Bool, true, false, ◌&&◌, if◌then◌else◌, List, [], Option, Some, None, Result}
use Rattle.std.specs.Option.{ok_or}
use Rattle.py_syntax.specs.declared.token.Span.{Span}
use Rattle.py_syntax.specs.declared.expression.BinOp.{BinOp}
use Rattle.py_syntax.specs.declared.expression.BinOp.TheVariants as op
use Rattle.py_syntax.specs.Expressions as e
use Rattle.py_syntax.specs.Expressions.{ExprTree, ExprNode, ExprTrees}
use Rattle.py_lexer_words.specs.Words.{name_in_quotes}
use Rattle.py_typed.specs.Sorts as sort
use Rattle.py_typed.specs.Sorts.{Sort}
use Rattle.py_typed.specs.Fits.{optional}
use Rattle.py_check_context.specs.declared.scope.Meaning.{Meaning}
use Rattle.py_check_messages.specs.Seen.{Seen, Message, is, silent, fails, made, rule}
use Rattle.py_check_messages.specs.Rows.{row_then}
use Rattle.py_check_messages.specs.Messages as message
use Rattle.py_check_annotations.specs.declared.names.Former.{Former}
use Rattle.py_check_annotations.specs.declared.annotations.Head.{Head}
use Rattle.py_check_annotations.specs.declared.annotations.Head.TheVariants.{Form, Untyped, NoForm}
use Rattle.py_check_annotations.specs.Names.{former_of, is_untyped, named, applied, has_unknown, invalid_unless}

abbrev pub is_none : ExprTree → Bool
is_none (e.at e.Nothing span) = true
is_none _ = false

abbrev pub is_bar : BinOp → Bool
is_bar op.Bar = true
is_bar _ = false

-- an operand that is `None` beside a `|`
abbrev pub is_or_none : BinOp → ExprTree → Bool
is_or_none op a = is_bar op && is_none a

abbrev pub is_tuple : ExprTree → Bool
is_tuple (e.at (e.TupleOf items) span) = true
is_tuple _ = false

-- what may be a type: a name, a text in quotes, one beside a `|`, and one with brackets
abbrev pub may_be_type : ExprTree → Bool
may_be_type (e.at (e.Name x) span) = true
may_be_type (e.at (e.Str text) span) = true
may_be_type (e.at (e.Bin op a b) span) = true
may_be_type (e.at (e.Index head inside) span) = true
may_be_type _ = false

-- the name that an expression is, as it stands or in quotes
abbrev pub name_of : ExprTree → Option (List ℕ)
name_of (e.at (e.Name x) span) = Some x
name_of (e.at (e.Str text) span) = name_in_quotes text
name_of _ = None

-- what stands in front of brackets: a form of types, a name without a type, or neither
abbrev pub form_or : Option Former → Bool → Head
form_or (Some f) any = Form f
form_or None true = Untyped
form_or None false = NoForm

-- a form with the types in its brackets
abbrev pub application : Former → List Sort → Result Sort Message
application f ts = ok_or (applied f ts) message.invalid_type

module _ (meanings : List ℕ → Meaning) where
  abbrev pub head_named : Option (List ℕ) → Head
  head_named None = NoForm
  head_named (Some x) = form_or (former_of (meanings x)) (is_untyped (meanings x))

  -- what can be no type
  abbrev pub no_type : ExprTree → Span → Seen Sort
  no_type whole span = record { got = None; said = invalid_unless (has_unknown meanings whole) span }

  -- a text in quotes
  abbrev pub quoted : Option (List ℕ) → Span → Seen Sort
  quoted None span = fails span message.invalid_type
  quoted (Some x) span = named (meanings x) span

  -- brackets behind a head, with the types in them
  abbrev pub formed : Head → ExprTree → Span → Seen (List Sort) → Seen Sort
  formed (Form f) whole span parts = rule span (application f) parts
  formed Untyped whole span parts = silent
  formed NoForm whole span parts = no_type whole span

  abbrev mutual
    -- THE TYPE of an annotation
    pub annotation : ExprTree → Seen Sort
    annotation (e.at node span) =
        if may_be_type (e.at node span) then type_by_form node span
        else no_type (e.at node span) span

    -- of what may be a type
    pub type_by_form : ExprNode → Span → Seen Sort
    type_by_form (e.Name x) span = named (meanings x) span
    type_by_form (e.Str text) span = quoted (name_in_quotes text) span
    type_by_form (e.Bin op a b) span =
        if is_or_none op b then made optional (annotation a) else
        if is_or_none op a then made optional (annotation b)
        else no_type (e.at (e.Bin op a b) span) span
    type_by_form (e.Index head inside) span =
        formed (head_named (name_of head)) (e.at (e.Index head inside) span) span
        (if is_tuple inside then items inside else row_then (annotation inside) (is []))
    type_by_form node span = silent

    -- the types of a tuple's items
    pub items : ExprTree → Seen (List Sort)
    items (e.at (e.TupleOf all) span) = row all
    items _ = is []

    pub row : ExprTrees → Seen (List Sort)
    row e.no_exprs = is []
    row (e.expr_then a more) = row_then (annotation a) (row more)

  -- the types in brackets: those of the items of a tuple, or that of the one expression
  abbrev pub parts : ExprTree → Seen (List Sort)
  parts inside = if is_tuple inside then items inside else row_then (annotation inside) (is [])

  -- the type of what a function returns
  abbrev pub return_annotation : ExprTree → Seen Sort
  return_annotation mark = if is_none mark then is sort.Nothing else annotation mark
