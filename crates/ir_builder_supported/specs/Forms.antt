-- What the forms are called that are typed and not compiled.
use Rattle.std.specs.Prelude.{ℕ, ◌-◌, nat_lt, Bool, true, false, ◌&&◌, ◌||◌, if◌then◌else◌, List, [], ◌∷◌, Option, Some, None}
use Rattle.std.specs.Option.{unwrap_or}
use Rattle.py_syntax.specs.declared.expression.CmpOp.{CmpOp}
use Rattle.py_syntax.specs.declared.expression.CmpOp.TheVariants as comparison
use Rattle.py_typed.specs.Sorts as sort
use Rattle.py_typed.specs.Sorts.{Sort, Sorts, no_sorts, sort_then}
use Rattle.py_typed.specs.Fits.{is_nothing}
use Rattle.py_typed.specs.Expressions.{TypedExpr, typed, TypedNode, Local, Global, Truth, Compare, ListOf, DictOf, TupleOf, Attr, At, TupleAt, Call, Make, MakeExc, Method, SuperInit, Len, Append, Pop, Comparisons, no_comparisons, comparison_then, type_of}
use Rattle.py_typed.specs.Statements.{Variable, TypedFunc}
use Rattle.ir_builder_forms.specs.declared.form.Form.{Form}
use Rattle.ir_builder_forms.specs.declared.form.Form.TheVariants as form
use Rattle.ir_builder_forms.specs.declared.form.TypeKind.{TypeKind}
use Rattle.ir_builder_forms.specs.declared.form.TypeKind.TheVariants as kinds
use Rattle.ir_builder_forms.specs.declared.form.Unbuilt.{Unbuilt}

-- a form on a line
abbrev pub unbuilt : ℕ → Form → Unbuilt
unbuilt line f = record { line = line; form = f }

-- ---- types

-- the types of the values that are compiled: of numbers, bools and texts, and of lists, tuples and Optionals of such types
abbrev mutual
  pub is_value : Sort → Bool
  is_value sort.Int = true
  is_value sort.I64 = true
  is_value sort.Bool = true
  is_value sort.Str = true
  is_value (sort.ListOf t) = is_value t
  is_value (sort.TupleOf ts) = all_values ts
  is_value (sort.Optional t) = is_value t
  is_value t = false

  pub all_values : Sorts → Bool
  all_values no_sorts = true
  all_values (sort_then t ts) = is_value t && all_values ts

-- those of the results of functions that are compiled, which may be None
abbrev pub is_result : Sort → Bool
is_result t = is_nothing t || is_value t

abbrev pub kind : Sort → TypeKind
kind sort.Int = kinds.Int
kind sort.I64 = kinds.I64
kind sort.Bool = kinds.Bool
kind sort.Str = kinds.Str
kind sort.Nothing = kinds.Nothing
kind (sort.ListOf t) = kinds.List
kind (sort.DictOf k v) = kinds.Dict
kind (sort.TupleOf ts) = kinds.Tuple
kind (sort.Optional t) = kinds.Optional
kind (sort.Instance c) = kinds.Class
kind (sort.Exc c) = kinds.Exception

-- ---- expressions

-- the operators that are no orderings
abbrev pub operator_form : CmpOp → Option Form
operator_form comparison.Member = Some form.Member
operator_form comparison.NotMember = Some form.NotMember
operator_form comparison.Is = Some form.IsNone
operator_form comparison.IsNot = Some form.IsNotNone
operator_form _ = None

-- the first of them in a chain, or else another form
abbrev pub chain_form : Form → Comparisons → Form
chain_form other no_comparisons = other
chain_form other (comparison_then op e more) = unwrap_or (operator_form op) (chain_form other more)

-- an expression of a type
abbrev pub node_form : TypedNode → Sort → Form
node_form (Local i) t = form.Variable (kind t)
node_form (Global i) t = form.Variable (kind t)
node_form (Truth e) t = form.Condition (kind (type_of e))
node_form (Compare e more) t = chain_form (form.Value (kind (type_of e))) more
node_form (ListOf es) t = form.ListDisplay
node_form (DictOf es) t = form.DictDisplay
node_form (TupleOf es) t = form.Tuple
node_form (Attr e name) t = form.Attribute
node_form (At a b) t = form.Index (kind (type_of a))
node_form (TupleAt e i) t = form.Index kinds.Tuple
node_form (Call f es) t = form.Returned (kind t)
node_form (Make c es) t = form.Class
node_form (MakeExc c e) t = form.ExceptionClass
node_form (Method e name es) t = form.MethodCall
node_form (SuperInit f es) t = form.NameSuper
node_form (Len e) t = form.Length (kind (type_of e))
node_form (Append a b) t = form.Append
node_form (Pop e) t = form.Pop
node_form e t = form.Value (kind t)

-- on the line where it begins
abbrev pub expression_at : TypedExpr → Unbuilt
expression_at (typed e t place) = unbuilt place.line (node_form e t)

-- ---- functions

abbrev pub is_none : {A : Type 0} → Option A → Bool
is_none None = true
is_none (Some a) = false

abbrev pub variable_form : ℕ → Variable → Form
variable_form parameters v = if nat_lt 0 parameters then form.Parameter (kind v.1) else form.Variable (kind v.1)

-- the first of these variables, of which so many are parameters, whose values are not compiled; else another form
abbrev pub variables_form : ℕ → List Variable → Form → Form
variables_form parameters [] other = other
variables_form parameters (v ∷ vs) other =
    if is_value v.1 then variables_form (parameters - 1) vs other else variable_form parameters v

-- a method stands in a class; of another function it is its first such variable, or else its result
abbrev pub function_form : TypedFunc → Form
function_form f = if is_none f.class then variables_form f.params f.locals (form.Returned (kind f.ret)) else form.Class
