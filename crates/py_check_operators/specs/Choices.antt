-- `and`, `or` and conditional expressions (Python Language Reference, "Boolean operations", "Conditional expressions").
--
-- In a condition place `and` and `or` are truth values. Else both operands are of the type that they join to, and so are those
-- of a conditional, unless both fit the type that is expected of it.
use Rattle.std.specs.Prelude.{ℕ, Bool, true, false, ◌&&◌, List, codes, Option, Some, None, Result, Ok, Err, if◌then◌else◌}
use Rattle.py_syntax.specs.declared.token.Span.{Span}
use Rattle.py_typed.specs.Sorts.{Sort}
use Rattle.py_typed.specs.Sorts as sort
use Rattle.py_typed.specs.Classes.{ClassEntry}
use Rattle.py_typed.specs.Fits.{fits, join}
use Rattle.py_typed.specs.Expressions as node
use Rattle.py_typed.specs.Expressions.{TypedExpr, TypedNode, typed, type_of}
use Rattle.py_check_context.specs.Context.{Wanted, free, test, wants}
use Rattle.py_check_messages.specs.Seen.{Message}
use Rattle.py_check_messages.specs.Messages.{no_common_type}
use Rattle.py_check_coercions.specs.Values.{coerced, truth}

-- two values of one type, if there is one for both
abbrev pub joined : List ClassEntry → List ℕ → (TypedExpr → TypedExpr → TypedNode) → Span → TypedExpr → TypedExpr → Option Sort → Result TypedExpr Message
joined classes word make span a b (Some t) = Ok (typed (make (coerced t a) (coerced t b)) t span)
joined classes word make span a b None = Err (no_common_type classes word (type_of a) (type_of b))

-- `and`, or `or`
abbrev pub word_text : Bool → List ℕ
word_text conjoined = if conjoined then codes "and" else codes "or"

abbrev pub word_node : Bool → TypedExpr → TypedExpr → TypedNode
word_node conjoined a b = if conjoined then node.And a b else node.Or a b

abbrev pub is_test : Wanted → Bool
is_test test = true
is_test w = false

abbrev pub junction : List ClassEntry → Wanted → Bool → Span → TypedExpr × TypedExpr → Result TypedExpr Message
junction classes w conjoined span p =
    if is_test w then Ok (typed (word_node conjoined (truth p.0) (truth p.1)) sort.Bool span)
    else joined classes (word_text conjoined) (word_node conjoined) span p.0 p.1 (join classes (type_of p.0) (type_of p.1))

-- an operand of `and` and `or` stands in a condition place where they do
abbrev pub operand : Wanted → Wanted
operand test = test
operand w = free

-- the type of a conditional
abbrev pub choice_type : List ClassEntry → Wanted → Sort → Sort → Option Sort
choice_type classes (wants t) r s = if fits classes r t && fits classes s t then Some t else join classes r s
choice_type classes w r s = join classes r s

-- `a if test else b`, of a, the test and b
abbrev pub choice : List ClassEntry → Wanted → Span → (TypedExpr × TypedExpr) × TypedExpr → Result TypedExpr Message
choice classes w span p =
    joined classes (codes "if") (λ a b. node.Cond a (truth p.0.1) b) span p.0.0 p.1 (choice_type classes w (type_of p.0.0) (type_of p.1))
