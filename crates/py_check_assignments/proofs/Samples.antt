-- Assignments, typed by computing: what is said of each, and what is known behind it.
use Rattle.std.proofs.Common.{◌≡◌, refl, ℕ, Bool, true, false, pos, List, [], ◌∷◌, codes, Some, None}
use Rattle.std.specs.Prelude.{unwrap_or}
use Rattle.std.specs.Map.{lookup}
use Rattle.std.specs.Str.{bytes_eq}
use Rattle.py_syntax.specs.declared.token.Span.{Span}
use Rattle.py_syntax.specs.declared.expression.BinOp.TheVariants.{Add}
use Rattle.py_syntax.specs.Expressions as tree
use Rattle.py_syntax.specs.Expressions.{ExprTree, at, no_exprs, expr_then}
use Rattle.py_syntax_diagnostics.specs.declared.diagnostic.Diag.{Diag}
use Rattle.py_typed.specs.Sorts as sort
use Rattle.py_typed.specs.Sorts.{no_sorts, sort_then}
use Rattle.py_typed.specs.Classes.{ClassEntry}
use Rattle.py_check_context.specs.declared.scope.Meaning.{Meaning}
use Rattle.py_check_context.specs.declared.scope.Meaning.TheVariants as meaning
use Rattle.py_check_context.specs.declared.scope.Builtin.TheVariants as builtin
use Rattle.py_check_context.specs.Members.{Member, attribute, unknown, method}
use Rattle.py_check_context.specs.Context.{Context, VarSort, unset, untyped, has}
use Rattle.py_check_messages.specs.Seen.{diag}
use Rattle.py_check_messages.specs.Messages.{no_target, no_attribute, not_a_value, already_defined, wrong_assignment, invalid_index}
use Rattle.py_check_places.specs.Places.{Known}
use Rattle.py_check_targets.specs.Targets.{holds_none}
use Rattle.py_check_assignments.specs.Assignments.{assigns, binds, annotates, binds_annotated, updates}

abbrev p : Span
p = record { line = 1; col = 1 }

-- in a function f(x: Optional[int], w: tuple[int, str], l: list[int], v: tuple[Optional[int], int], u: tuple[int, list[int]]) with two
-- more names of its own, of which z is of no type for good
abbrev names : List (List ℕ × Meaning)
names =
    (codes "x", meaning.Local 0) ∷ (codes "w", meaning.Local 1) ∷ (codes "y", meaning.Local 2) ∷ (codes "z", meaning.Local 3)
    ∷ (codes "l", meaning.Local 4) ∷ (codes "v", meaning.Local 5) ∷ (codes "u", meaning.Local 6) ∷ (codes "int", meaning.Builtin builtin.Int) ∷ []

-- the types of its names, with this one of y
abbrev types_with : VarSort → List VarSort
types_with y =
    has (sort.Optional sort.Int) ∷ has (sort.TupleOf (sort_then sort.Int (sort_then sort.Str no_sorts))) ∷ y ∷ untyped
    ∷ has (sort.ListOf sort.Int) ∷ has (sort.TupleOf (sort_then (sort.Optional sort.Int) (sort_then sort.Int no_sorts)))
    ∷ has (sort.TupleOf (sort_then sort.Int (sort_then (sort.ListOf sort.Int) no_sorts))) ∷ []

abbrev c : Context
c = record {
  meaning = λ x. unwrap_or (lookup (bytes_eq x) names) meaning.Unknown;
  signatures = [];
  classes = [];
  member = λ n a. None;
  init = λ n. None;
  inside = None;
}

abbrev start : Known
start = record {
  types = record {
    locals = types_with unset;
    globals = [];
  };
  locals_bound = 0 ∷ 1 ∷ 4 ∷ 5 ∷ 6 ∷ [];
  globals_bound = [];
  names = 0 ∷ [];
}

abbrev name : List ℕ → ExprTree
name x = at (tree.Name x) p

abbrev one : ExprTree
one = at (tree.Int (pos 1)) p

abbrev nothing : ExprTree
nothing = at tree.Nothing p

abbrev pair : ExprTree → ExprTree → ExprTree
pair a b = at (tree.TupleOf (expr_then a (expr_then b no_exprs))) p

abbrev says : ExprTree → ExprTree → List Diag
says target e = (assigns c start p target e).said

abbrev behind : ExprTree → ExprTree → Known
behind target e = binds c start p target e

-- `y, y = w`: the second part does not fit the first
twice : says (pair (name (codes "y")) (name (codes "y"))) (name (codes "w")) ≡ diag p (wrong_assignment [] sort.Str sort.Int) ∷ []
twice = refl

-- `(x, (y, y)) = w`: no tuple in a tuple
nested : says (pair (name (codes "x")) (pair (name (codes "y")) (name (codes "y")))) (name (codes "w")) ≡ diag p no_target ∷ []
nested = refl

-- `x, l[x] = 1, 1`: behind the first target x is an int
known_behind : says (pair (name (codes "x")) (at (tree.Index (name (codes "l")) (name (codes "x"))) p)) (pair one one) ≡ []
known_behind = refl

-- `x, l[x] = v`: there it may be None
unknown_behind : says (pair (name (codes "x")) (at (tree.Index (name (codes "l")) (name (codes "x"))) p)) (name (codes "v")) ≡ diag p (invalid_index [] (sort.Optional sort.Int) (sort.ListOf sort.Int) sort.Int) ∷ []
unknown_behind = refl

abbrev only : ExprTree → ExprTree
only e = at (tree.ListOf (expr_then e no_exprs)) p

abbrev first : ExprTree → ExprTree
first e = at (tree.Index e (at (tree.Int (pos 0)) p)) p

-- `x, [x][0] = w`: behind the first target x is an int, and so is the item, though it might have been None before
bound_in_turn : says (pair (name (codes "x")) (first (only (name (codes "x"))))) (name (codes "w")) ≡ diag p (wrong_assignment [] sort.Str sort.Int) ∷ []
bound_in_turn = refl

-- `x, [[x]][0] = u`: the value has only to fit what the targets are once they are bound, and not what it was asked for, which was a
-- list of what may be None
bound_only : says (pair (name (codes "x")) (first (only (only (name (codes "x")))))) (name (codes "u")) ≡ []
bound_only = refl

abbrev three : ExprTree → ExprTree → ExprTree → ExprTree
three a b e = at (tree.TupleOf (expr_then a (expr_then b (expr_then e no_exprs)))) p

-- `x, x, [[x]][0] = None, 1, l`: a display with an item None has to fit what it was asked for too
asked_before : says (three (name (codes "x")) (name (codes "x")) (first (only (only (name (codes "x")))))) (three nothing one (name (codes "l"))) ≡ diag p (wrong_assignment [] (sort.ListOf sort.Int) (sort.ListOf (sort.Optional sort.Int))) ∷ []
asked_before = refl

-- such an item may stand at any depth
deep : holds_none (sort.TupleOf (sort_then sort.Int (sort_then (sort.TupleOf (sort_then sort.Nothing no_sorts)) no_sorts))) ≡ true
deep = refl

-- `1 = 1`
no_name : says one one ≡ diag p no_target ∷ []
no_name = refl

-- `z = 1`, where z has no type
silent : says (name (codes "z")) one ≡ []
silent = refl

-- behind `x = None` it may be None
forgotten : (behind (name (codes "x")) nothing).names ≡ []
forgotten = refl

-- behind `y = 1` it is an int; behind `y = None` it has no type for good
typed : (behind (name (codes "y")) one).types.locals ≡ types_with (has sort.Int)
typed = refl

refused : (behind (name (codes "y")) nothing).types.locals ≡ types_with untyped
refused = refl

-- `x: int = 1` behind a parameter, and `1: int`
annotated_again : (annotates c start p (Some (codes "x")) (name (codes "x")) (name (codes "int")) (Some one)).said ≡ diag p (already_defined (codes "x")) ∷ []
annotated_again = refl

annotated_number : (annotates c start p None one (name (codes "int")) None).said ≡ diag p no_target ∷ []
annotated_number = refl

-- behind `x: int` nothing is known of x
declared_again : (binds_annotated c start p (Some (codes "x")) (name (codes "x")) (name (codes "int")) None).names ≡ []
declared_again = refl

-- `(x, l[x]): int = 1, 1`: a row has no annotation, and behind its first target x is an int
annotated_row : (annotates c start p None (pair (name (codes "x")) (at (tree.Index (name (codes "l")) (name (codes "x"))) p)) (name (codes "int")) (Some (pair one one))).said ≡ diag p no_target ∷ []
annotated_row = refl

-- behind `(x, y): int = v` x may be None, and y is not; behind `(x, y): int` nothing is known of them
row_behind : (binds_annotated c start p None (pair (name (codes "x")) (name (codes "y"))) (name (codes "int")) (Some (name (codes "v")))).names ≡ 2 ∷ []
row_behind = refl

bare_row : (binds_annotated c start p None (pair (name (codes "x")) (name (codes "y"))) (name (codes "int")) None).names ≡ []
bare_row = refl

-- `x, l[x] += 1`: a tuple is not updated, and x counts as bound to what has no type
updated_row : (updates c start p (pair (name (codes "x")) (at (tree.Index (name (codes "l")) (name (codes "x"))) p)) Add one).said ≡ diag p no_target ∷ []
updated_row = refl

-- ---- attributes

abbrev q : Span
q = record { line = 2; col = 5 }

-- what a class C has: an attribute a of type int, which the statement at p declares in `__init__`; b, which nothing declares and the
-- target at q sets first; and a method m
abbrev members : List (List ℕ × Member)
members = (codes "a", attribute sort.Int) ∷ (codes "b", unknown q) ∷ (codes "m", method 0) ∷ []

abbrev class_of : List ℕ → ClassEntry
class_of x = record { name = x; is_trait = false; bases = []; attributes = (codes "a", sort.Int) ∷ []; methods = (codes "m", 0) ∷ [] }

-- in a method of C of this kind
abbrev in_method : Bool → Context
in_method is_init = record {
  meaning = λ x. unwrap_or (lookup (bytes_eq x) ((codes "self", meaning.Local 0) ∷ (codes "int", meaning.Builtin builtin.Int) ∷ [])) meaning.Unknown;
  signatures = None ∷ [];
  classes = class_of (codes "C") ∷ [];
  member = λ n x. lookup (bytes_eq x) members;
  init = λ n. None;
  inside = Some (record { class = Some 0; first = Some (codes "self"); is_init = is_init; declaring = λ x. lookup (bytes_eq x) ((codes "a", p) ∷ []); next_init = None });
}

abbrev with_self : Known
with_self = record {
  types = record {
    locals = has (sort.Instance 0) ∷ [];
    globals = [];
  };
  locals_bound = 0 ∷ [];
  globals_bound = [];
  names = [];
}

abbrev self_at : Span → List ℕ → ExprTree
self_at span x = at (tree.Attr (name (codes "self")) x) span

abbrev says_in : Bool → ExprTree → ExprTree → List Diag
says_in is_init target e = (assigns (in_method is_init) with_self p target e).said

-- `self.a = 1` and `self.a = None`
set : says_in false (self_at p (codes "a")) one ≡ []
set = refl

set_wrong : says_in false (self_at p (codes "a")) nothing ≡ diag p (wrong_assignment (class_of (codes "C") ∷ []) sort.Nothing sort.Int) ∷ []
set_wrong = refl

-- `self.m = 1`: the target has a rule of its own
method_set : says_in false (self_at p (codes "m")) one ≡ diag p (not_a_value (codes "m")) ∷ []
method_set = refl

-- the target that sets b first, alone and beside a tuple in a tuple; any other place of it is silent
set_first : says_in true (self_at q (codes "b")) one ≡ diag p (no_attribute (class_of (codes "C") ∷ []) (sort.Instance 0) (codes "b")) ∷ []
set_first = refl

set_among : says_in true (pair (self_at q (codes "b")) (pair (self_at p (codes "a")) (self_at p (codes "a")))) one ≡ diag p (no_attribute (class_of (codes "C") ∷ []) (sort.Instance 0) (codes "b")) ∷ []
set_among = refl

set_again : says_in true (self_at p (codes "b")) one ≡ []
set_again = refl

-- `self.b += 1`, which sets b first
updated_first : (updates (in_method true) with_self p (self_at q (codes "b")) Add one).said ≡ diag p (no_attribute (class_of (codes "C") ∷ []) (sort.Instance 0) (codes "b")) ∷ []
updated_first = refl

-- `self.a: int = 1` at the statement that declares it, and at another one, and in another method
annotated_there : (annotates (in_method true) with_self p None (self_at p (codes "a")) (name (codes "int")) (Some one)).said ≡ []
annotated_there = refl

annotated_elsewhere : (annotates (in_method true) with_self q None (self_at q (codes "a")) (name (codes "int")) (Some one)).said ≡ diag q (already_defined (codes "a")) ∷ []
annotated_elsewhere = refl

annotated_outside : (annotates (in_method false) with_self p None (self_at p (codes "a")) (name (codes "int")) None).said ≡ diag p no_target ∷ []
annotated_outside = refl
