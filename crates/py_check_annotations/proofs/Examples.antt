-- Annotations with their types and faults.
use Rattle.std.specs.Prelude.{ℕ, List, [], ◌∷◌, codes, if◌then◌else◌}
use Rattle.std.specs.Str.{bytes_eq}
use Rattle.std.proofs.Common.{◌≡◌, refl}
use Rattle.py_syntax.specs.declared.token.Span.{Span}
use Rattle.py_syntax.specs.declared.expression.BinOp.TheVariants.{Bar}
use Rattle.py_syntax.specs.Expressions.{ExprTree, ExprNode, at, Name, Nothing, Bin, TupleOf, Index, Call, exprs_of, no_arguments, argument_then}
use Rattle.py_typed.specs.Sorts as sort
use Rattle.py_typed.specs.Sorts.{ListOf, Optional, Instance}
use Rattle.py_check_context.specs.declared.scope.Meaning.{Meaning}
use Rattle.py_check_context.specs.declared.scope.Meaning.TheVariants as meaning
use Rattle.py_check_context.specs.declared.scope.Imported.TheVariants as imported
use Rattle.py_check_context.specs.declared.scope.Builtin.TheVariants as builtin
use Rattle.py_check_messages.specs.Seen.{is, silent, fails}
use Rattle.py_check_messages.specs.Messages.{invalid_type}
use Rattle.py_check_annotations.specs.Annotations.{annotation, return_annotation}

abbrev meanings : List ℕ → Meaning
meanings x =
    if bytes_eq x (codes "int") then meaning.Builtin builtin.Int else
    if bytes_eq x (codes "list") then meaning.Builtin builtin.List else
    if bytes_eq x (codes "dict") then meaning.Builtin builtin.Dict else
    if bytes_eq x (codes "Optional") then meaning.Import imported.Optional else
    if bytes_eq x (codes "C") then meaning.Class 2 else
    if bytes_eq x (codes "B") then meaning.UntypedClass else
    if bytes_eq x (codes "f") then meaning.Function 0
    else meaning.Unknown

abbrev place : ℕ → Span
place col = record { line = 1; col = col }

-- a node by its column
abbrev on : ℕ → ExprNode → ExprTree
on col node = at node (place col)

abbrev int : ℕ → ExprTree
int col = on col (Name (codes "int"))

-- `list[int,]`
one_item : annotation meanings (on 1 (Index (on 1 (Name (codes "list"))) (on 6 (TupleOf (exprs_of (int 6 ∷ [])))))) ≡ is (ListOf sort.Int)
one_item = refl

-- `Optional[int | None]`
twice : annotation meanings (on 1 (Index (on 1 (Name (codes "Optional"))) (on 10 (Bin Bar (int 10) (on 16 Nothing))))) ≡ is (Optional sort.Int)
twice = refl

-- `None | C`
none_first : annotation meanings (on 1 (Bin Bar (on 1 Nothing) (on 8 (Name (codes "C"))))) ≡ is (Optional (Instance 2))
none_first = refl

-- `list[list]` has its fault inside alone
inner : annotation meanings (on 1 (Index (on 1 (Name (codes "list"))) (on 6 (Name (codes "list"))))) ≡ fails (place 6) invalid_type
inner = refl

-- `list[None]`
none_inside : annotation meanings (on 1 (Index (on 1 (Name (codes "list"))) (on 6 Nothing))) ≡ fails (place 6) invalid_type
none_inside = refl

-- `list[int, int]`
two_items : annotation meanings (on 1 (Index (on 1 (Name (codes "list"))) (on 6 (TupleOf (exprs_of (int 6 ∷ int 11 ∷ [])))))) ≡ fails (place 1) invalid_type
two_items = refl

-- `dict[C, int]`
no_key : annotation meanings (on 1 (Index (on 1 (Name (codes "dict"))) (on 6 (TupleOf (exprs_of (on 6 (Name (codes "C")) ∷ int 9 ∷ [])))))) ≡ fails (place 1) invalid_type
no_key = refl

-- `f(int)`, and `f(x)` of an x that is not known, of which binding says so
call : annotation meanings (on 1 (Call (on 1 (Name (codes "f"))) (argument_then (int 3) no_arguments))) ≡ fails (place 1) invalid_type
call = refl

call_of_unknown : annotation meanings (on 1 (Call (on 1 (Name (codes "f"))) (argument_then (on 3 (Name (codes "x"))) no_arguments))) ≡ silent
call_of_unknown = refl

-- a class that is refused
refused : annotation meanings (on 1 (Name (codes "B"))) ≡ silent
refused = refl

-- `None`, where something is returned and where not
returned : return_annotation meanings (on 1 Nothing) ≡ is sort.Nothing
returned = refl

alone : annotation meanings (on 1 Nothing) ≡ fails (place 1) invalid_type
alone = refl
