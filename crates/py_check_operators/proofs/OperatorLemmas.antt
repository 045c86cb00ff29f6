-- The type of an operation's value.
use Rattle.std.proofs.Common.{◌≡◌, Bool, true, false, List, Ok, Err, refl, if◌then◌else◌}
use Rattle.std.specs.Result.{result_map_both}
use Rattle.py_syntax.specs.declared.token.Span.{Span}
use Rattle.py_syntax.specs.declared.expression.BinOp.{BinOp}
use Rattle.py_typed.specs.Sorts as sort
use Rattle.py_typed.specs.Classes.{ClassEntry}
use Rattle.py_typed.specs.Fits.{number_join}
use Rattle.py_typed.specs.Expressions as node
use Rattle.py_typed.specs.Expressions.{TypedExpr, typed, type_of}
use Rattle.py_check_messages.specs.Messages.{unsupported_operands}
use Rattle.py_check_operators.specs.Operators.{op_text, is_concat, is_numeric, arithmetic, arithmetic_type}

mapped : {A B M : Type 0} (f : A → B) (a b : Bool) (x y : A) (m : M) → result_map_both f (λ n. n) (if a then Ok x else (if b then Ok y else Err m)) ≡ (if a then Ok (f x) else (if b then Ok (f y) else Err m))
mapped f true b x y m = refl
mapped f false true x y m = refl
mapped f false false x y m = refl

pub arithmetic_has_type : (classes : List ClassEntry) (span : Span) (o : BinOp) (p : TypedExpr × TypedExpr) → result_map_both type_of (λ m. m) (arithmetic classes span o p) ≡ arithmetic_type classes o (type_of p.0) (type_of p.1)
arithmetic_has_type classes span o p =
    mapped type_of (is_concat o (type_of p.0) (type_of p.1)) (is_numeric o (type_of p.0) (type_of p.1)) (typed (node.Concat p.0 p.1) sort.Str span)
    (typed (node.Arith o p.0 p.1) (number_join (type_of p.0) (type_of p.1)) span)
    (unsupported_operands classes (op_text o) (type_of p.0) (type_of p.1))
