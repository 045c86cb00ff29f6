-- Small functions, typed by computing: what is said of each.
use Rattle.std.proofs.Common.{◌≡◌, refl, ℕ, pos, false, List, [], ◌∷◌, codes, Some, None, Option}
use Rattle.std.specs.Prelude.{unwrap_or}
use Rattle.std.specs.Map.{lookup}
use Rattle.std.specs.Str.{bytes_eq}
use Rattle.value_core.specs.declared.exception.ExcClass.TheVariants.{Exception, KeyError}
use Rattle.py_syntax.specs.declared.token.Span.{Span}
use Rattle.py_syntax.specs.declared.expression.BinOp.TheVariants as bin
use Rattle.py_syntax.specs.declared.expression.CmpOp.TheVariants as op
use Rattle.py_syntax.specs.Expressions as tree
use Rattle.py_syntax.specs.Expressions.{ExprTree, ExprNode, at, no_exprs, expr_then, no_comparisons, comparison_then, no_arguments, argument_then}
use Rattle.py_syntax.specs.Statements as node
use Rattle.py_syntax.specs.Statements.{StmtTree, StmtNode, Suite, no_stmts, stmt_then, no_arms, arm_then, no_handlers, handler_then, no_suite, some_suite}
use Rattle.py_syntax_diagnostics.specs.declared.diagnostic.Diag.{Diag}
use Rattle.py_typed.specs.Sorts as sort
use Rattle.py_typed.specs.Sorts.{no_sorts, sort_then}
use Rattle.py_check_context.specs.declared.scope.Meaning.{Meaning}
use Rattle.py_check_context.specs.declared.scope.Meaning.TheVariants as meaning
use Rattle.py_check_context.specs.declared.scope.Builtin.TheVariants as builtin
use Rattle.py_check_context.specs.Context.{Context, unset, has}
use Rattle.py_check_messages.specs.Seen.{diag}
use Rattle.py_check_messages.specs.Messages.{unsupported_operands, no_type_yet, cannot_assign, already_defined, needs_annotation, wrong_assignment, cannot_unpack, only_entries, invalid_index, not_iterable, outside_loop, wrong_argument, wrong_return, no_exception_class, bare_except, no_exception, raise_outside}
use Rattle.py_check_values.specs.Returns.{gives}
use Rattle.py_check_places.specs.Places.{Known}
use Rattle.py_check_statements.specs.Bodies.{nothing_around, block}

abbrev p : ℕ → ℕ → Span
p line col = record { line = line; col = col }

-- of a function f(x: Optional[int], l: list[int], w: tuple[int, str], d: dict[str, int]) with two more names of its own, of which none
-- has a type yet
abbrev names : List (List ℕ × Meaning)
names =
    (codes "x", meaning.Local 0) ∷ (codes "l", meaning.Local 1) ∷ (codes "w", meaning.Local 2) ∷ (codes "y", meaning.Local 3)
    ∷ (codes "z", meaning.Local 4) ∷ (codes "d", meaning.Local 5) ∷ (codes "v", meaning.Global 0) ∷ (codes "f", meaning.Function 0)
    ∷ (codes "range", meaning.Builtin builtin.Range) ∷ (codes "int", meaning.Builtin builtin.Int) ∷ (codes "print", meaning.Builtin builtin.Print)
    ∷ (codes "KeyError", meaning.Exception KeyError) ∷ []

abbrev c : Context
c = record {
  meaning = λ x. unwrap_or (lookup (bytes_eq x) names) meaning.Unknown;
  signatures = None ∷ [];
  classes = [];
  member = λ n a. None;
  init = λ n. None;
  inside = None;
}

abbrev start : Known
start = record {
  types = record {
    locals = has (sort.Optional sort.Int) ∷ has (sort.ListOf sort.Int) ∷ has (sort.TupleOf (sort_then sort.Int (sort_then sort.Str no_sorts))) ∷ unset ∷ unset ∷ has (sort.DictOf sort.Str sort.Int) ∷ [];
    globals = has sort.Int ∷ [];
  };
  locals_bound = 0 ∷ 1 ∷ 2 ∷ 5 ∷ [];
  globals_bound = 0 ∷ [];
  names = [];
}

-- what is said of its body, where it returns an int
abbrev says : Suite → List Diag
says body = (block c (gives sort.Int) nothing_around start body).said

abbrev name : ℕ → List ℕ → ExprTree
name line x = at (tree.Name x) (p line 5)

abbrev e : ℕ → ExprNode → ExprTree
e line n = at n (p line 9)

abbrev number : ℕ → ℕ → ExprTree
number line n = e line (tree.Int (pos n))

abbrev s : ℕ → StmtNode → StmtTree
s line n = node.at n (p line 1)

abbrev one : StmtTree → Suite
one a = stmt_then a no_stmts

abbrev two : StmtTree → StmtTree → Suite
two a b = stmt_then a (stmt_then b no_stmts)

abbrev nothing : ℕ → ExprTree
nothing line = e line tree.Nothing

-- `return x + 1`
abbrev plus_one : ℕ → StmtTree
plus_one line = s line (node.Return (Some (e line (tree.Bin bin.Add (name line (codes "x")) (number line 1)))))

abbrev is_none : ℕ → ExprTree
is_none line = e line (tree.Compare (name line (codes "x")) (comparison_then op.Is (nothing line) no_comparisons))

abbrev is_some : ℕ → ExprTree
is_some line = e line (tree.Compare (name line (codes "x")) (comparison_then op.IsNot (nothing line) no_comparisons))

abbrev assign : ℕ → List ℕ → ExprTree → StmtTree
assign line x a = s line (node.Assign (name line x) a)

-- ---- narrowing

-- behind `if x is None: return 0` x is an int
guarded : says (two (s 1 (node.If (arm_then (is_none 1) (one (s 2 (node.Return (Some (number 2 0))))) no_arms) no_stmts)) (plus_one 3)) ≡ []
guarded = refl

unguarded : says (one (plus_one 1)) ≡ diag (p 1 9) (unsupported_operands [] (codes "+") (sort.Optional sort.Int) sort.Int) ∷ []
unguarded = refl

-- behind `while x is not None: x = None` it may be None
left_as_none : says (two (s 1 (node.While (is_some 1) (one (assign 2 (codes "x") (nothing 2))))) (plus_one 3)) ≡ diag (p 3 9) (unsupported_operands [] (codes "+") (sort.Optional sort.Int) sort.Int) ∷ []
left_as_none = refl

-- behind `while x is None: x = 1` it is not, unless the loop was broken
left_by_its_test : says (two (s 1 (node.While (is_none 1) (one (assign 2 (codes "x") (number 2 1))))) (plus_one 3)) ≡ []
left_by_its_test = refl

left_by_break : says (two (s 1 (node.While (is_none 1) (one (s 2 node.Break)))) (plus_one 3)) ≡ diag (p 3 9) (unsupported_operands [] (codes "+") (sort.Optional sort.Int) sort.Int) ∷ []
left_by_break = refl

bound_to_int : says (two (assign 1 (codes "x") (number 1 1)) (plus_one 2)) ≡ []
bound_to_int = refl

-- ---- variables

give : ℕ → List ℕ → StmtTree
give line x = s line (node.Return (Some (name line x)))

inferred : says (two (assign 1 (codes "y") (number 1 1)) (give 2 (codes "y"))) ≡ []
unfolding give
inferred = refl

read_too_soon : says (two (give 1 (codes "y")) (assign 2 (codes "y") (number 2 1))) ≡ diag (p 1 5) (no_type_yet (codes "y")) ∷ []
unfolding give
read_too_soon = refl

first_is_none : says (two (assign 1 (codes "y") (nothing 1)) (give 2 (codes "y"))) ≡ diag (p 1 1) (needs_annotation (codes "y")) ∷ []
unfolding give
first_is_none = refl

type_stays : says (two (assign 1 (codes "y") (number 1 1)) (assign 2 (codes "y") (e 2 (tree.Str (codes "a"))))) ≡ diag (p 2 1) (wrong_assignment [] sort.Str sort.Int) ∷ []
type_stays = refl

function_assigned : says (one (assign 1 (codes "f") (number 1 1))) ≡ diag (p 1 1) (cannot_assign (codes "f")) ∷ []
function_assigned = refl

-- ---- annotations

annotate : ℕ → List ℕ → Option ExprTree → StmtTree
annotate line x v = s line (node.Annot (name line x) (e line (tree.Name (codes "int"))) v)

parameter_annotated : says (one (annotate 1 (codes "x") (Some (number 1 1)))) ≡ diag (p 1 1) (already_defined (codes "x")) ∷ []
unfolding annotate
parameter_annotated = refl

annotated_twice : says (two (annotate 1 (codes "y") (Some (number 1 1))) (annotate 2 (codes "y") None)) ≡ diag (p 2 1) (already_defined (codes "y")) ∷ []
unfolding annotate
annotated_twice = refl

-- ---- several targets

abbrev pair : ℕ → List ℕ → List ℕ → ExprTree
pair line a b = e line (tree.TupleOf (expr_then (name line a) (expr_then (name line b) no_exprs)))

unpacked : says (two (s 1 (node.Assign (pair 1 (codes "y") (codes "z")) (name 1 (codes "w")))) (give 2 (codes "y"))) ≡ []
unfolding give
unpacked = refl

unpacked_second : says (two (s 1 (node.Assign (pair 1 (codes "y") (codes "z")) (name 1 (codes "w")))) (give 2 (codes "z"))) ≡ diag (p 2 1) (wrong_return [] sort.Str sort.Int) ∷ []
unfolding give
unpacked_second = refl

no_tuple : says (one (s 1 (node.Assign (pair 1 (codes "y") (codes "z")) (name 1 (codes "l"))))) ≡ diag (p 1 1) (cannot_unpack [] (sort.ListOf sort.Int) 2) ∷ []
unfolding cannot_unpack
no_tuple = refl

-- ---- operations with assignment

update : ℕ → List ℕ → ExprTree → StmtTree
update line x a = s line (node.Aug (name line x) bin.Add a)

updated_global : says (one (update 1 (codes "v") (number 1 1))) ≡ []
unfolding update
updated_global = refl

updated_too_soon : says (one (update 1 (codes "y") (number 1 1))) ≡ diag (p 1 5) (no_type_yet (codes "y")) ∷ []
unfolding update
updated_too_soon = refl

-- ---- loops

abbrev over : ℕ → List ℕ → ExprTree → Suite → StmtTree
over line x a body = s line (node.For (name line x) a body)

abbrev ranged : ℕ → ExprTree → ExprTree
ranged line a = e line (tree.Call (name line (codes "range")) (argument_then a no_arguments))

over_range : says (one (over 1 (codes "y") (ranged 1 (number 1 3)) (one (give 2 (codes "y"))))) ≡ []
unfolding give
over_range = refl

over_list : says (one (over 1 (codes "y") (name 1 (codes "l")) (one (give 2 (codes "y"))))) ≡ []
unfolding give
over_list = refl

over_tuple : says (one (over 1 (codes "y") (name 1 (codes "w")) (one (s 2 node.Pass)))) ≡ diag (p 1 1) (not_iterable [] (sort.TupleOf (sort_then sort.Int (sort_then sort.Str no_sorts)))) ∷ []
over_tuple = refl

range_of_text : says (one (over 1 (codes "y") (ranged 1 (e 1 (tree.Str (codes "a")))) (one (s 2 node.Pass)))) ≡ diag (p 1 9) (wrong_argument [] 1 (codes "range") sort.Str (codes "number")) ∷ []
range_of_text = refl

break_outside : says (one (s 1 node.Break)) ≡ diag (p 1 1) (outside_loop (codes "break")) ∷ []
break_outside = refl

written_item : says (one (s 1 (node.Assign (e 1 (tree.Index (name 1 (codes "l")) (number 1 0))) (e 1 (tree.Str (codes "a")))))) ≡ diag (p 1 1) (wrong_assignment [] sort.Str sort.Int) ∷ []
written_item = refl

-- ---- deletions

abbrev item : List ℕ → ExprTree → ExprTree
item x i = e 1 (tree.Index (name 1 x) i)

abbrev text : ExprTree
text = e 1 (tree.Str (codes "a"))

abbrev delete : ExprTree → StmtTree
delete a = s 1 (node.Del a)

entry_deleted : says (one (delete (item (codes "d") text))) ≡ []
entry_deleted = refl

list_item_deleted : says (one (delete (item (codes "l") (number 1 0)))) ≡ diag (p 1 1) only_entries ∷ []
list_item_deleted = refl

tuple_item_deleted : says (one (delete (item (codes "w") (number 1 0)))) ≡ diag (p 1 1) only_entries ∷ []
tuple_item_deleted = refl

name_deleted : says (one (delete (name 1 (codes "x")))) ≡ diag (p 1 1) only_entries ∷ []
name_deleted = refl

-- what is typed as an item and is not written as one
signed_item_deleted : says (one (delete (e 1 (tree.Plus (item (codes "d") text))))) ≡ diag (p 1 1) only_entries ∷ []
signed_item_deleted = refl

-- the rule of the item comes first
wrong_key_deleted : says (one (delete (item (codes "d") (number 1 0)))) ≡ diag (p 1 9) (invalid_index [] sort.Int (sort.DictOf sort.Str sort.Int) sort.Str) ∷ []
wrong_key_deleted = refl

unset_deleted : says (one (delete (item (codes "d") (name 1 (codes "y"))))) ≡ diag (p 1 5) (no_type_yet (codes "y")) ∷ []
unset_deleted = refl

-- ---- exceptions

raised_class : says (one (s 1 (node.Raise (Some (name 1 (codes "KeyError")))))) ≡ []
raised_class = refl

raised_number : says (one (s 1 (node.Raise (Some (name 1 (codes "v")))))) ≡ diag (p 1 1) no_exception ∷ []
raised_number = refl

raised_function : says (one (s 1 (node.Raise (Some (name 1 (codes "f")))))) ≡ diag (p 1 1) no_exception ∷ []
raised_function = refl

raised_unknown : says (one (s 1 (node.Raise (Some (name 1 (codes "k")))))) ≡ []
raised_unknown = refl

raised_nowhere : says (one (s 1 (node.Raise None))) ≡ diag (p 1 1) raise_outside ∷ []
raised_nowhere = refl

-- behind `assert x is not None` x is an int
asserted : says (two (s 1 (node.Assert (is_some 1) None)) (plus_one 2)) ≡ []
asserted = refl

asserted_number : says (one (s 1 (node.Assert (is_some 1) (Some (number 1 2))))) ≡ diag (p 1 1) (wrong_argument [] 1 (codes "assert") sort.Int (codes "str")) ∷ []
asserted_number = refl

-- `try: pass`, with one clause of this class, name and body, and no `finally`
abbrev tried : ExprTree → Option (List ℕ) → StmtTree → StmtTree
tried class x body = s 1 (node.Try (one (s 2 node.Pass)) (handler_then (Some class) x (one body) (p 3 1) no_handlers) no_suite)

raised_again : says (one (tried (name 3 (codes "KeyError")) None (s 4 (node.Raise None)))) ≡ []
raised_again = refl

caught_number : says (one (tried (number 3 1) None (s 4 node.Pass))) ≡ diag (p 3 1) no_exception_class ∷ []
caught_number = refl

caught_variable : says (one (tried (name 3 (codes "y")) None (s 4 node.Pass))) ≡ diag (p 3 1) no_exception_class ∷ []
caught_variable = refl

caught_none : says (one (tried (e 3 (tree.TupleOf no_exprs)) None (s 4 node.Pass))) ≡ diag (p 3 1) no_exception_class ∷ []
caught_none = refl

caught_two : says (one (tried (pair 3 (codes "KeyError") (codes "KeyError")) None (s 4 node.Pass))) ≡ []
caught_two = refl

caught_as_new : says (one (tried (name 3 (codes "KeyError")) (Some (codes "y")) (s 4 (node.Raise (Some (name 4 (codes "y"))))))) ≡ []
caught_as_new = refl

caught_as_int : says (one (tried (name 3 (codes "KeyError")) (Some (codes "v")) (s 4 node.Pass))) ≡ diag (p 3 1) (wrong_assignment [] (sort.Exc Exception) sort.Int) ∷ []
caught_as_int = refl

bare_first : says (one (s 1 (node.Try (one (s 2 node.Pass)) (handler_then None None (one (s 4 node.Pass)) (p 3 1) (handler_then None None (one (s 6 node.Pass)) (p 5 1) no_handlers)) no_suite))) ≡ diag (p 3 1) bare_except ∷ []
bare_first = refl

-- `x = 1`, `try: x = None`, `finally: return x + 1`
bound_in_try : says (two (assign 1 (codes "x") (number 1 1)) (s 2 (node.Try (one (assign 3 (codes "x") (nothing 3))) no_handlers (some_suite (one (plus_one 5)))))) ≡ diag (p 5 9) (unsupported_operands [] (codes "+") (sort.Optional sort.Int) sort.Int) ∷ []
bound_in_try = refl

-- what stood before a `try` stands in its `finally`
kept_in_try : says (two (assign 1 (codes "x") (number 1 1)) (s 2 (node.Try (one (s 3 node.Pass)) no_handlers (some_suite (one (plus_one 5)))))) ≡ []
kept_in_try = refl
