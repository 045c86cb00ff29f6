-- Small expressions, typed by computing: of each rule one that holds and one for each way to break it.
use Rattle.std.proofs.Common.{◌≡◌, refl, ℕ, zero, suc, pos, List, [], ◌∷◌, true, false, codes, Option, Some, None}
use Rattle.std.specs.Prelude.{unwrap_or}
use Rattle.std.specs.Fmt.{decimal}
use Rattle.std.specs.Map.{lookup}
use Rattle.std.specs.Str.{bytes_eq}
use Rattle.value_core.specs.declared.exception.ExcClass.TheVariants as exception
use Rattle.py_syntax.specs.declared.token.Span.{Span}
use Rattle.py_syntax.specs.declared.expression.BinOp.TheVariants as bin
use Rattle.py_syntax.specs.declared.expression.CmpOp.TheVariants as op
use Rattle.py_syntax.specs.Expressions as tree
use Rattle.py_syntax.specs.Expressions.{ExprTree, ExprNode, at, no_exprs, expr_then, exprs_of, no_comparisons, comparison_then, no_entries, entry_then, Arguments, no_arguments, argument_then, keyed_then}
use Rattle.py_typed.specs.Sorts as sort
use Rattle.py_typed.specs.Sorts.{Sort, no_sorts, sort_then}
use Rattle.py_typed.specs.Expressions as node
use Rattle.py_typed.specs.Expressions.{TypedExpr, TypedNode, typed}
use Rattle.py_check_context.specs.declared.scope.Meaning.{Meaning}
use Rattle.py_check_context.specs.declared.scope.Meaning.TheVariants as meaning
use Rattle.py_check_context.specs.declared.scope.Builtin.TheVariants as builtin
use Rattle.py_check_context.specs.declared.scope.Imported.TheVariants as imported
use Rattle.py_typed.specs.Classes.{ClassEntry}
use Rattle.py_check_context.specs.Members as member
use Rattle.py_check_context.specs.Members.{Member, Inside}
use Rattle.py_check_context.specs.Context.{Context, VarSorts, unset, untyped, has, free, test, wants, dropped}
use Rattle.py_check_messages.specs.Seen.{Seen, diag, is, silent, fails}
use Rattle.py_check_messages.specs.Messages.{not_a_value, no_type_yet, unsupported_operand, unsupported_operands, only_for_none, no_common_type, wrong_item, empty_display, no_common_item, wrong_entry, no_common_entry, invalid_tuple, no_attribute, none_has_no_attribute, no_instance, not_indexable, tuple_index, invalid_index, keyword_argument, not_callable, range_outside_for, wrong_number, wrong_argument, gives_nothing}
use Rattle.py_check_expressions.specs.Typing.{typing}

-- all at one place
abbrev p : Span
p = record { line = 1; col = 1 }

abbrev e : ExprNode → ExprTree
e n = at n p

abbrev name : List ℕ → ExprTree
name x = e (tree.Name x)

abbrev number : ℕ → ExprTree
number n = e (tree.Int (pos n))

abbrev text : ExprTree
text = e (tree.Str (codes "a"))

abbrev nothing : ExprTree
nothing = e tree.Nothing

abbrev t : TypedNode → Sort → TypedExpr
t n s = typed n s p

abbrev typed_number : ℕ → TypedExpr
typed_number n = t (node.Int (pos n)) sort.Int

abbrev typed_text : TypedExpr
typed_text = t (node.Str (codes "a")) sort.Str

-- the variables x: Optional[int], n: int, q: i64, b: bool, l: list[int], w: tuple[int, str], one that is not set yet and one without
-- a type, and d: dict[str, int]; the functions f(i64) -> int, g() -> None, and one without a signature
abbrev names : List (List ℕ × Meaning)
names =
    (codes "x", meaning.Local 0) ∷ (codes "n", meaning.Local 1) ∷ (codes "q", meaning.Local 2) ∷ (codes "b", meaning.Local 3)
    ∷ (codes "l", meaning.Local 4) ∷ (codes "w", meaning.Local 5) ∷ (codes "late", meaning.Local 6) ∷ (codes "lost", meaning.Local 7)
    ∷ (codes "d", meaning.Local 8) ∷ (codes "v", meaning.Global 0) ∷ (codes "f", meaning.Function 0) ∷ (codes "g", meaning.Function 1) ∷ (codes "bad", meaning.Function 2)
    ∷ (codes "print", meaning.Builtin builtin.Print) ∷ (codes "len", meaning.Builtin builtin.Len) ∷ (codes "range", meaning.Builtin builtin.Range)
    ∷ (codes "str", meaning.Builtin builtin.Str) ∷ (codes "list", meaning.Builtin builtin.List) ∷ (codes "i64", meaning.Import imported.I64)
    ∷ (codes "input", meaning.Builtin builtin.Input) ∷ (codes "__name__", meaning.ModuleName) ∷ (codes "refused", meaning.Untyped)
    ∷ (codes "KeyError", meaning.Exception exception.KeyError) ∷ []

abbrev c : Context
c = record {
  meaning = λ x. unwrap_or (lookup (bytes_eq x) names) meaning.Unknown;
  signatures = Some (record { params = sort.I64 ∷ []; ret = sort.Int }) ∷ Some (record { params = []; ret = sort.Nothing }) ∷ None ∷ [];
  classes = [];
  member = λ n a. None;
  init = λ n. None;
  inside = None;
}

abbrev vars : VarSorts
vars = record {
  locals =
      has (sort.Optional sort.Int) ∷ has sort.Int ∷ has sort.I64 ∷ has sort.Bool ∷ has (sort.ListOf sort.Int)
      ∷ has (sort.TupleOf (sort_then sort.Int (sort_then sort.Str no_sorts))) ∷ unset ∷ untyped ∷ has (sort.DictOf sort.Str sort.Int) ∷ [];
  globals = has (sort.Optional sort.Str) ∷ [];
}

abbrev types : ExprTree → Seen TypedExpr
types x = typing c vars free [] x

-- ---- names

name_known : types (name (codes "n")) ≡ is (t (node.Local 1) sort.Int)
name_known = refl

name_narrowed : typing c vars free (0 ∷ []) (name (codes "x")) ≡ is (t (node.Local 0) sort.Int)
name_narrowed = refl

global_is_not_narrowed : typing c vars free (0 ∷ []) (name (codes "v")) ≡ is (t (node.Global 0) (sort.Optional sort.Str))
global_is_not_narrowed = refl

name_of_module : types (name (codes "__name__")) ≡ is (t (node.Str (codes "__main__")) sort.Str)
name_of_module = refl

-- of a name that is not known binding says so
name_unknown : types (name (codes "k")) ≡ silent
name_unknown = refl

name_no_variable : types (name (codes "f")) ≡ fails p (not_a_value (codes "f"))
name_no_variable = refl

name_too_soon : types (name (codes "late")) ≡ fails p (no_type_yet (codes "late"))
name_too_soon = refl

name_without_type : types (name (codes "lost")) ≡ silent
name_without_type = refl

name_of_refused_import : types (name (codes "refused")) ≡ silent
name_of_refused_import = refl

-- ---- operators

minus_bool : types (e (tree.Neg (name (codes "b")))) ≡ is (t (node.Neg (t (node.Local 3) sort.Bool)) sort.Int)
minus_bool = refl

plus_is_the_value : types (e (tree.Plus (number 1))) ≡ is (typed_number 1)
plus_is_the_value = refl

plus_changes_bool : types (e (tree.Plus (name (codes "b")))) ≡ is (t (node.Coerce (t (node.Local 3) sort.Bool)) sort.Int)
plus_changes_bool = refl

plus_text : types (e (tree.Plus text)) ≡ fails p (unsupported_operand [] (codes "+") sort.Str)
plus_text = refl

not_asks_for_truth : types (e (tree.Not (number 0))) ≡ is (t (node.Not (t (node.Truth (typed_number 0)) sort.Bool)) sort.Bool)
not_asks_for_truth = refl

sum_of_native : types (e (tree.Bin bin.Add (name (codes "q")) (number 1))) ≡ is (t (node.Arith bin.Add (t (node.Local 2) sort.I64) (typed_number 1)) sort.I64)
sum_of_native = refl

texts_joined : types (e (tree.Bin bin.Add text text)) ≡ is (t (node.Concat typed_text typed_text) sort.Str)
texts_joined = refl

texts_times : types (e (tree.Bin bin.Mul text text)) ≡ fails p (unsupported_operands [] (codes "*") sort.Str sort.Str)
texts_times = refl

bar_of_numbers : types (e (tree.Bin bin.Bar (number 1) (number 2))) ≡ fails p (unsupported_operands [] (codes "|") sort.Int sort.Int)
bar_of_numbers = refl

-- both parts are looked at, and what holds them says nothing more
both_parts_say : types (e (tree.Bin bin.Add (name (codes "late")) (name (codes "print")))) ≡ record { got = None; said = diag p (no_type_yet (codes "late")) ∷ diag p (not_a_value (codes "print")) ∷ [] }
both_parts_say = refl

-- ---- chains

chain_holds : types (e (tree.Compare (number 1) (comparison_then op.Lt (name (codes "q")) (comparison_then op.Le (number 3) no_comparisons)))) ≡ is (t (node.Compare (typed_number 1) (node.comparison_then op.Lt (t (node.Local 2) sort.I64) (node.comparison_then op.Le (typed_number 3) node.no_comparisons))) sort.Bool)
chain_holds = refl

each_pair_says : types (e (tree.Compare (number 1) (comparison_then op.Lt text (comparison_then op.Lt (number 2) no_comparisons)))) ≡ record { got = None; said = diag p (unsupported_operands [] (codes "<") sort.Int sort.Str) ∷ diag p (unsupported_operands [] (codes "<") sort.Str sort.Int) ∷ [] }
each_pair_says = refl

-- a pair is asked by itself, whatever the other operands are
pair_beside_unknown : types (e (tree.Compare text (comparison_then op.Lt (number 1) (comparison_then op.Lt (name (codes "k")) no_comparisons)))) ≡ record { got = None; said = diag p (unsupported_operands [] (codes "<") sort.Str sort.Int) ∷ [] }
pair_beside_unknown = refl

pair_behind_unknown : types (e (tree.Compare (name (codes "k")) (comparison_then op.Lt (number 1) (comparison_then op.Lt text no_comparisons)))) ≡ record { got = None; said = diag p (unsupported_operands [] (codes "<") sort.Int sort.Str) ∷ [] }
pair_behind_unknown = refl

is_for_none : types (e (tree.Compare (number 1) (comparison_then op.Is (number 1) no_comparisons))) ≡ fails p only_for_none
is_for_none = refl

in_for_dicts : types (e (tree.Compare (number 1) (comparison_then op.Member (name (codes "l")) no_comparisons))) ≡ fails p (unsupported_operands [] (codes "in") sort.Int (sort.ListOf sort.Int))
in_for_dicts = refl

abbrev typed_d : TypedExpr
typed_d = t (node.Local 8) (sort.DictOf sort.Str sort.Int)

key_in_dict : types (e (tree.Compare text (comparison_then op.NotMember (name (codes "d")) no_comparisons))) ≡ is (t (node.Compare typed_text (node.comparison_then op.NotMember typed_d node.no_comparisons)) sort.Bool)
key_in_dict = refl

wrong_key_in_dict : types (e (tree.Compare (number 1) (comparison_then op.Member (name (codes "d")) no_comparisons))) ≡ fails p (unsupported_operands [] (codes "in") sort.Int (sort.DictOf sort.Str sort.Int))
wrong_key_in_dict = refl

-- ---- choices

abbrev x_is_not_none : ExprTree
x_is_not_none = e (tree.Compare (name (codes "x")) (comparison_then op.IsNot nothing no_comparisons))

abbrev typed_x_is_not_none : TypedExpr
typed_x_is_not_none = t (node.Compare (t (node.Local 0) (sort.Optional sort.Int)) (node.comparison_then op.IsNot (t node.Nothing sort.Nothing) node.no_comparisons)) sort.Bool

-- the right side of `and` knows what the left one tells; that of `or` does not
and_narrows : typing c vars test [] (e (tree.And x_is_not_none (name (codes "x")))) ≡ is (t (node.And typed_x_is_not_none (t (node.Truth (t (node.Local 0) sort.Int)) sort.Bool)) sort.Bool)
and_narrows = refl

or_does_not : typing c vars test [] (e (tree.Or x_is_not_none (name (codes "x")))) ≡ is (t (node.Or typed_x_is_not_none (t (node.Truth (t (node.Local 0) (sort.Optional sort.Int))) sort.Bool)) sort.Bool)
or_does_not = refl

or_joins : types (e (tree.Or (number 1) nothing)) ≡ is (t (node.Or (t (node.Coerce (typed_number 1)) (sort.Optional sort.Int)) (t (node.Coerce (t node.Nothing sort.Nothing)) (sort.Optional sort.Int))) (sort.Optional sort.Int))
or_joins = refl

or_without_join : types (e (tree.Or (number 1) text)) ≡ fails p (no_common_type [] (codes "or") sort.Int sort.Str)
or_without_join = refl

choice_narrows : types (e (tree.Cond (name (codes "x")) x_is_not_none (number 0))) ≡ is (t (node.Cond (t (node.Local 0) sort.Int) typed_x_is_not_none (typed_number 0)) sort.Int)
choice_narrows = refl

choice_as_expected : typing c vars (wants sort.I64) [] (e (tree.Cond (number 1) (name (codes "b")) (number 2))) ≡ is (t (node.Cond (t (node.Coerce (typed_number 1)) sort.I64) (t (node.Local 3) sort.Bool) (t (node.Coerce (typed_number 2)) sort.I64)) sort.I64)
choice_as_expected = refl

choice_without_join : types (e (tree.Cond (number 1) (name (codes "b")) text)) ≡ fails p (no_common_type [] (codes "if") sort.Int sort.Str)
choice_without_join = refl

-- ---- displays

list_of_numbers : types (e (tree.ListOf (exprs_of (number 1 ∷ name (codes "q") ∷ [])))) ≡ is (t (node.ListOf (node.exprs_of (t (node.Coerce (typed_number 1)) sort.I64 ∷ t (node.Local 2) sort.I64 ∷ []))) (sort.ListOf sort.I64))
list_of_numbers = refl

list_expected : typing c vars (wants (sort.ListOf sort.I64)) [] (e (tree.ListOf (exprs_of (number 1 ∷ [])))) ≡ is (t (node.ListOf (node.exprs_of (t (node.Coerce (typed_number 1)) sort.I64 ∷ []))) (sort.ListOf sort.I64))
list_expected = refl

list_item_misfits : typing c vars (wants (sort.ListOf sort.Int)) [] (e (tree.ListOf (exprs_of (number 1 ∷ text ∷ [])))) ≡ fails p (wrong_item [] 1 sort.Str sort.Int)
list_item_misfits = refl

empty_list : types (e (tree.ListOf no_exprs)) ≡ fails p empty_display
empty_list = refl

empty_list_expected : typing c vars (wants (sort.ListOf sort.Int)) [] (e (tree.ListOf no_exprs)) ≡ is (t (node.ListOf node.no_exprs) (sort.ListOf sort.Int))
empty_list_expected = refl

optional_expects_no_list : typing c vars (wants (sort.Optional (sort.ListOf sort.Int))) [] (e (tree.ListOf no_exprs)) ≡ fails p empty_display
optional_expects_no_list = refl

list_without_join : types (e (tree.ListOf (exprs_of (number 1 ∷ text ∷ [])))) ≡ fails p no_common_item
list_without_join = refl

list_of_none : types (e (tree.ListOf (exprs_of (nothing ∷ [])))) ≡ fails p no_common_item
list_of_none = refl

-- `{k: v}`
abbrev entry : ExprTree → ExprTree → ExprTree
entry k v = e (tree.DictOf (entry_then k v no_entries))

-- `{k: v, j: u}`
abbrev two_entries : ExprTree → ExprTree → ExprTree → ExprTree → ExprTree
two_entries k v j u = e (tree.DictOf (entry_then k v (entry_then j u no_entries)))

dict_of_joins : types (two_entries (number 1) text (name (codes "q")) text) ≡ is (t (node.DictOf (node.entry_then (t (node.Coerce (typed_number 1)) sort.I64) typed_text (node.entry_then (t (node.Local 2) sort.I64) typed_text node.no_entries))) (sort.DictOf sort.I64 sort.Str))
dict_of_joins = refl

dict_expected : typing c vars (wants (sort.DictOf sort.Str sort.I64)) [] (entry text (number 1)) ≡ is (t (node.DictOf (node.entry_then typed_text (t (node.Coerce (typed_number 1)) sort.I64) node.no_entries)) (sort.DictOf sort.Str sort.I64))
dict_expected = refl

-- what is expected of the values is expected in them
dict_of_lists_expected : typing c vars (wants (sort.DictOf sort.Str (sort.ListOf sort.Int))) [] (entry text (e (tree.ListOf no_exprs))) ≡ is (t (node.DictOf (node.entry_then typed_text (t (node.ListOf node.no_exprs) (sort.ListOf sort.Int)) node.no_entries)) (sort.DictOf sort.Str (sort.ListOf sort.Int)))
dict_of_lists_expected = refl

-- the first entry that does not fit gives the text, be it by its key or by its value
dict_key_misfits : typing c vars (wants (sort.DictOf sort.Str sort.Int)) [] (e (tree.DictOf (entry_then text (number 1) (entry_then (number 2) (number 1) (entry_then text text no_entries))))) ≡ fails p (wrong_entry [] 1 sort.Int sort.Int sort.Str sort.Int)
dict_key_misfits = refl

dict_value_misfits : typing c vars (wants (sort.DictOf sort.Str sort.Int)) [] (two_entries text text (number 2) (number 1)) ≡ fails p (wrong_entry [] 0 sort.Str sort.Str sort.Str sort.Int)
dict_value_misfits = refl

empty_dict : types (e (tree.DictOf no_entries)) ≡ fails p empty_display
empty_dict = refl

empty_dict_expected : typing c vars (wants (sort.DictOf sort.Str sort.Int)) [] (e (tree.DictOf no_entries)) ≡ is (t (node.DictOf node.no_entries) (sort.DictOf sort.Str sort.Int))
empty_dict_expected = refl

optional_expects_no_dict : typing c vars (wants (sort.Optional (sort.DictOf sort.Str sort.Int))) [] (e (tree.DictOf no_entries)) ≡ fails p empty_display
optional_expects_no_dict = refl

keys_without_join : types (two_entries (number 1) text text text) ≡ fails p no_common_entry
keys_without_join = refl

values_without_join : types (two_entries text (number 1) text text) ≡ fails p no_common_entry
values_without_join = refl

-- None joins a number to an Optional, which values may be and keys may not
values_of_none : types (entry text nothing) ≡ fails p no_common_entry
values_of_none = refl

optional_values : types (two_entries text nothing text (number 1)) ≡ is (t (node.DictOf (node.entry_then typed_text (t (node.Coerce (t node.Nothing sort.Nothing)) (sort.Optional sort.Int)) (node.entry_then typed_text (t (node.Coerce (typed_number 1)) (sort.Optional sort.Int)) node.no_entries))) (sort.DictOf sort.Str (sort.Optional sort.Int)))
optional_values = refl

optional_keys : types (two_entries nothing text (number 1) text) ≡ fails p no_common_entry
optional_keys = refl

lists_as_keys : types (entry (name (codes "l")) text) ≡ fails p no_common_entry
lists_as_keys = refl

-- a key comes before its value, and an entry without a type silences the display
entries_in_order : types (two_entries (name (codes "late")) (name (codes "print")) (name (codes "f")) text) ≡ record { got = None; said = diag p (no_type_yet (codes "late")) ∷ diag p (not_a_value (codes "print")) ∷ diag p (not_a_value (codes "f")) ∷ [] }
entries_in_order = refl

tuple_of_two : types (e (tree.TupleOf (exprs_of (number 1 ∷ text ∷ [])))) ≡ is (t (node.TupleOf (node.exprs_of (typed_number 1 ∷ typed_text ∷ []))) (sort.TupleOf (sort_then sort.Int (sort_then sort.Str no_sorts))))
tuple_of_two = refl

-- where not each item fits, all keep their types
tuple_keeps_its_types : typing c vars (wants (sort.TupleOf (sort_then sort.I64 (sort_then sort.Int no_sorts)))) [] (e (tree.TupleOf (exprs_of (number 1 ∷ text ∷ [])))) ≡ is (t (node.TupleOf (node.exprs_of (typed_number 1 ∷ typed_text ∷ []))) (sort.TupleOf (sort_then sort.Int (sort_then sort.Str no_sorts))))
tuple_keeps_its_types = refl

tuple_of_none : types (e (tree.TupleOf (exprs_of (nothing ∷ [])))) ≡ fails p invalid_tuple
tuple_of_none = refl

tuple_of_optional : typing c vars (wants (sort.TupleOf (sort_then (sort.Optional sort.Int) no_sorts))) [] (e (tree.TupleOf (exprs_of (nothing ∷ [])))) ≡ is (t (node.TupleOf (node.exprs_of (t (node.Coerce (t node.Nothing sort.Nothing)) (sort.Optional sort.Int) ∷ []))) (sort.TupleOf (sort_then (sort.Optional sort.Int) no_sorts)))
tuple_of_optional = refl

empty_tuple : types (e (tree.TupleOf no_exprs)) ≡ fails p invalid_tuple
empty_tuple = refl

-- ---- items

item_of_list : types (e (tree.Index (name (codes "l")) (name (codes "b")))) ≡ is (t (node.At (t (node.Local 4) (sort.ListOf sort.Int)) (t (node.Coerce (t (node.Local 3) sort.Bool)) sort.Int)) sort.Int)
item_of_list = refl

item_of_dict : types (e (tree.Index (name (codes "d")) text)) ≡ is (t (node.At typed_d typed_text) sort.Int)
item_of_dict = refl

number_as_key : types (e (tree.Index (name (codes "d")) (number 1))) ≡ fails p (invalid_index [] sort.Int (sort.DictOf sort.Str sort.Int) sort.Str)
number_as_key = refl

item_of_text : types (e (tree.Index text (number 0))) ≡ is (t (node.At typed_text (typed_number 0)) sort.Str)
item_of_text = refl

text_as_index : types (e (tree.Index (name (codes "l")) text)) ≡ fails p (invalid_index [] sort.Str (sort.ListOf sort.Int) sort.Int)
text_as_index = refl

item_of_number : types (e (tree.Index (number 1) (number 0))) ≡ fails p (not_indexable [] sort.Int)
item_of_number = refl

abbrev typed_w : TypedExpr
typed_w = t (node.Local 5) (sort.TupleOf (sort_then sort.Int (sort_then sort.Str no_sorts)))

part_from_right : types (e (tree.Index (name (codes "w")) (e (tree.Neg (number 1))))) ≡ is (t (node.TupleAt typed_w 1) sort.Str)
part_from_right = refl

part_past_the_end : types (e (tree.Index (name (codes "w")) (number 2))) ≡ fails p tuple_index
part_past_the_end = refl

part_by_no_literal : types (e (tree.Index (name (codes "w")) (e (tree.Plus (number 1))))) ≡ fails p tuple_index
part_by_no_literal = refl

-- ---- calls

abbrev call : List ℕ → Arguments → ExprTree
call f args = e (tree.Call (name f) args)

abbrev argument : ExprTree → Arguments
argument x = argument_then x no_arguments

call_changes_arguments : types (call (codes "f") (argument (number 1))) ≡ is (t (node.Call 0 (node.exprs_of (t (node.Coerce (typed_number 1)) sort.I64 ∷ []))) sort.Int)
call_changes_arguments = refl

call_misfits : types (call (codes "f") (argument text)) ≡ fails p (wrong_argument [] 1 (codes "f") sort.Str (codes "i64"))
call_misfits = refl

call_of_unknown : types (call (codes "k") (argument (name (codes "late")))) ≡ fails p (no_type_yet (codes "late"))
call_of_unknown = refl

call_without_signature : types (call (codes "bad") no_arguments) ≡ silent
call_without_signature = refl

call_of_variable : types (call (codes "n") no_arguments) ≡ fails p not_callable
call_of_variable = refl

call_of_unset : types (call (codes "late") no_arguments) ≡ fails p (no_type_yet (codes "late"))
call_of_unset = refl

call_of_builtin_type : types (call (codes "list") no_arguments) ≡ fails p not_callable
call_of_builtin_type = refl

call_gives_nothing : types (call (codes "g") no_arguments) ≡ fails p (gives_nothing (codes "g"))
call_gives_nothing = refl

call_alone : typing c vars dropped [] (call (codes "g") no_arguments) ≡ is (t (node.Call 1 node.no_exprs) sort.Nothing)
call_alone = refl

exception_with_text : types (call (codes "KeyError") (argument text)) ≡ is (t (node.MakeExc exception.KeyError (node.some_expr typed_text)) (sort.Exc exception.KeyError))
exception_with_text = refl

exception_without_text : types (call (codes "KeyError") no_arguments) ≡ is (t (node.MakeExc exception.KeyError node.no_expr) (sort.Exc exception.KeyError))
exception_without_text = refl

exception_of_number : types (call (codes "KeyError") (argument (number 1))) ≡ fails p (wrong_argument [] 1 (codes "KeyError") sort.Int (codes "str"))
exception_of_number = refl

exception_of_two : types (call (codes "KeyError") (argument_then text (argument text))) ≡ fails p (wrong_number (codes "KeyError") (codes "0 or 1"))
exception_of_two = refl

printed_exception : types (call (codes "str") (argument (call (codes "KeyError") no_arguments))) ≡ is (t (node.ToStr (t (node.MakeExc exception.KeyError node.no_expr) (sort.Exc exception.KeyError))) sort.Str)
printed_exception = refl

call_with_key : types (call (codes "f") (keyed_then (name (codes "k")) (number 1) no_arguments)) ≡ fails p keyword_argument
call_with_key = refl

print_of_list : typing c vars dropped [] (call (codes "print") (argument_then (number 1) (argument (name (codes "l"))))) ≡ fails p (wrong_argument [] 2 (codes "print") (sort.ListOf sort.Int) (codes "printable"))
print_of_list = refl

len_of_list : types (call (codes "len") (argument (name (codes "l")))) ≡ is (t (node.Len (t (node.Local 4) (sort.ListOf sort.Int))) sort.Int)
len_of_list = refl

len_of_number : types (call (codes "len") (argument (number 1))) ≡ fails p (wrong_argument [] 1 (codes "len") sort.Int (codes "sized"))
len_of_number = refl

len_of_two : types (call (codes "len") (argument_then text (argument text))) ≡ fails p (wrong_number (codes "len") (codes "1"))
len_of_two = refl

native_changes : types (call (codes "i64") (argument (number 1))) ≡ is (t (node.Coerce (typed_number 1)) sort.I64)
native_changes = refl

range_outside : types (call (codes "range") (argument (number 1))) ≡ fails p range_outside_for
range_outside = refl

abbrev method : List ℕ → Arguments → ExprTree
method m args = e (tree.Call (e (tree.Attr (name (codes "l")) m)) args)

append_alone : typing c vars dropped [] (method (codes "append") (argument (name (codes "b")))) ≡ is (t (node.Append (t (node.Local 4) (sort.ListOf sort.Int)) (t (node.Coerce (t (node.Local 3) sort.Bool)) sort.Int)) sort.Nothing)
append_alone = refl

append_as_value : types (method (codes "append") (argument (number 1))) ≡ fails p (gives_nothing (codes "append"))
append_as_value = refl

pop_gives_item : types (method (codes "pop") no_arguments) ≡ is (t (node.Pop (t (node.Local 4) (sort.ListOf sort.Int))) sort.Int)
pop_gives_item = refl

pop_of_one : types (method (codes "pop") (argument (number 1))) ≡ fails p (wrong_number (codes "pop") (codes "0"))
pop_of_one = refl

no_such_method : types (method (codes "sort") no_arguments) ≡ fails p (no_attribute [] (sort.ListOf sort.Int) (codes "sort"))
no_such_method = refl

method_uncalled : types (e (tree.Attr (name (codes "l")) (codes "pop"))) ≡ fails p (not_a_value (codes "pop"))
method_uncalled = refl

-- ---- classes

-- a class A with the attributes n: int, u without a type and k that is not declared, and the method m(i64) -> int; its `__init__`
-- takes an i64; a trait B whose `__init__` has no signature; a: A, o: Optional[A]; in the `__init__` of A, behind which there is none
abbrev classes : List ClassEntry
classes =
    record { name = codes "A"; is_trait = false; bases = []; attributes = []; methods = [] }
    ∷ record { name = codes "B"; is_trait = true; bases = []; attributes = []; methods = [] } ∷ []

abbrev members : List (List ℕ × Member)
members =
    (codes "n", member.attribute sort.Int) ∷ (codes "u", member.untyped) ∷ (codes "k", member.unknown p) ∷ (codes "m", member.method 0)
    ∷ (codes "g", member.method 1) ∷ (codes "bad", member.method 2) ∷ []

abbrev inits : ℕ → Option ℕ
inits zero = Some 3
inits (suc n) = Some 2

abbrev among : Option Inside → Context
among inside = record {
  meaning = λ x. unwrap_or (lookup (bytes_eq x) ((codes "A", meaning.Class 0) ∷ (codes "B", meaning.Class 1) ∷ (codes "C", meaning.UntypedClass) ∷ (codes "super", meaning.Builtin builtin.Super) ∷ (codes "a", meaning.Local 0) ∷ (codes "o", meaning.Local 1) ∷ [])) meaning.Unknown;
  signatures =
      Some (record { params = sort.I64 ∷ []; ret = sort.Int }) ∷ Some (record { params = []; ret = sort.Nothing }) ∷ None
      ∷ Some (record { params = sort.I64 ∷ []; ret = sort.Nothing }) ∷ [];
  classes = classes;
  member = λ n a. lookup (bytes_eq a) members;
  init = inits;
  inside = inside;
}

abbrev in_init : Option ℕ → Context
in_init class = among (Some (record { class = class; first = Some (codes "a"); is_init = true; declaring = λ a. None; next_init = None }))

abbrev held : VarSorts
held = record { locals = has (sort.Instance 0) ∷ has (sort.Optional (sort.Instance 0)) ∷ []; globals = [] }

abbrev found : ExprTree → Seen TypedExpr
found x = typing (in_init (Some 0)) held free [] x

abbrev alone : Context → ExprTree → Seen TypedExpr
alone c x = typing c held dropped [] x

abbrev of : List ℕ → List ℕ → ExprTree
of x a = e (tree.Attr (name x) a)

abbrev typed_a : TypedExpr
typed_a = t (node.Local 0) (sort.Instance 0)

attribute_read : found (of (codes "a") (codes "n")) ≡ is (t (node.Attr typed_a (codes "n")) sort.Int)
attribute_read = refl

attribute_without_type : found (of (codes "a") (codes "u")) ≡ silent
attribute_without_type = refl

attribute_undeclared : found (of (codes "a") (codes "k")) ≡ silent
attribute_undeclared = refl

method_read : found (of (codes "a") (codes "m")) ≡ fails p (not_a_value (codes "m"))
method_read = refl

attribute_missing : found (of (codes "a") (codes "z")) ≡ fails p (no_attribute classes (sort.Instance 0) (codes "z"))
attribute_missing = refl

optional_read : found (of (codes "o") (codes "n")) ≡ fails p (none_has_no_attribute classes (sort.Optional (sort.Instance 0)) (codes "n"))
optional_read = refl

optional_undeclared : found (of (codes "o") (codes "k")) ≡ silent
optional_undeclared = refl

optional_missing : found (of (codes "o") (codes "z")) ≡ fails p (no_attribute classes (sort.Optional (sort.Instance 0)) (codes "z"))
optional_missing = refl

abbrev sent : List ℕ → List ℕ → Arguments → ExprTree
sent x m args = e (tree.Call (of x m) args)

method_called : found (sent (codes "a") (codes "m") (argument (number 1))) ≡ is (t (node.Method typed_a (codes "m") (node.exprs_of (t (node.Coerce (typed_number 1)) sort.I64 ∷ []))) sort.Int)
method_called = refl

method_without_argument : found (sent (codes "a") (codes "m") no_arguments) ≡ fails p (wrong_number (codes "m") (decimal 1))
method_without_argument = refl

method_gives_nothing : found (sent (codes "a") (codes "g") no_arguments) ≡ fails p (gives_nothing (codes "g"))
method_gives_nothing = refl

method_without_signature : found (sent (codes "a") (codes "bad") no_arguments) ≡ silent
method_without_signature = refl

attribute_called : found (sent (codes "a") (codes "n") no_arguments) ≡ fails p not_callable
attribute_called = refl

init_called : found (sent (codes "a") (codes "__init__") (argument (number 1))) ≡ fails p not_callable
init_called = refl

optional_called : found (sent (codes "o") (codes "m") (argument (number 1))) ≡ fails p (none_has_no_attribute classes (sort.Optional (sort.Instance 0)) (codes "m"))
optional_called = refl

class_called : found (call (codes "A") (argument (number 1))) ≡ is (t (node.Make 0 (node.exprs_of (t (node.Coerce (typed_number 1)) sort.I64 ∷ []))) (sort.Instance 0))
class_called = refl

class_misfits : found (call (codes "A") (argument text)) ≡ fails p (wrong_argument classes 1 (codes "A") sort.Str (codes "i64"))
class_misfits = refl

trait_called : found (call (codes "B") no_arguments) ≡ fails p (no_instance (codes "B"))
trait_called = refl

refused_class_called : found (call (codes "C") no_arguments) ≡ silent
refused_class_called = refl

abbrev super_init : ExprTree
super_init = e (tree.Call (e (tree.Attr (e (tree.Call (name (codes "super")) no_arguments)) (codes "__init__"))) no_arguments)

super_init_alone : alone (in_init (Some 0)) super_init ≡ is (t (node.SuperInit None node.no_exprs) sort.Nothing)
super_init_alone = refl

super_init_as_value : found super_init ≡ fails p (gives_nothing (codes "__init__"))
super_init_as_value = refl

super_init_in_trait : alone (in_init (Some 1)) super_init ≡ fails p not_callable
super_init_in_trait = refl

super_init_in_refused_class : alone (in_init None) super_init ≡ silent
super_init_in_refused_class = refl

super_init_outside : alone (among None) super_init ≡ fails p not_callable
super_init_outside = refl

super_called : found (call (codes "super") no_arguments) ≡ fails p not_callable
super_called = refl
