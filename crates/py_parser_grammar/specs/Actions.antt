-- The tree of each rule of the grammar.
use Rattle.std.specs.Prelude.{ℕ, Bool, true, false, List, [], ◌∷◌, ◌++◌, Option, Some, None, ◌⊎◌}
use Rattle.std.proofs.Common.{inl, inr}
use Rattle.py_syntax.specs.declared.expression.BinOp.{BinOp}
use Rattle.py_syntax.specs.declared.expression.BinOp.TheVariants as op
use Rattle.py_syntax.specs.declared.expression.CmpOp.{CmpOp}
use Rattle.py_syntax.specs.declared.expression.CmpOp.TheVariants as cmp
use Rattle.py_syntax.specs.declared.token.Span.{Span}
use Rattle.py_syntax.specs.declared.token.Token.{Token}
use Rattle.py_syntax.specs.Expressions as e
use Rattle.py_syntax.specs.Expressions.{ExprTree, ExprNode, ArgTree, exprs_of, comparisons_of, entries_of, arguments_of}
use Rattle.py_syntax.specs.Statements as s
use Rattle.py_syntax.specs.Statements.{StmtTree, StmtNode, HandlerTree, FuncTree, ClassTree, suite_of, arms_of, handlers_of, maybe_suite}
use Rattle.py_parser_grammar.specs.Levels.{Piece}
use Rattle.py_parser_grammar.specs.Grammar.{ExprSym, More, Sym, rhs, rhs_expr, rhs_more, expr, more, TESTS, TARGETS, TEST, OR, AND, NOT, COMP, BOR, SHIFT, SUM, TERM, FACTOR, PRIMARY, ATOM, OR_MORE, AND_MORE, BOR_MORE, SHIFT_MORE, SUM_MORE, TERM_MORE, TRAILER, COMP_MORE, COMP_OP, ARG, ENTRY, PLAIN, AUG, RETURN, RAISE, GLOBAL, ASSERT, DEL, IMPORT, FROM, DOTTED, ALIAS, SMALL, SIMPLE, STMT, IF, ARM, WHILE, FOR, TRY, EXCEPT, FINALLY, BLOCK, FUNC, PARAM, CLASS, CBLOCK, MEMBER, MARK, DECORATED, TOP, MODULE}
pub use Rattle.py_parser_grammar.specs.Values.{Trail, of_name, of_args, of_index, SemMore, Sem, Val, name_in, int_in, text_in, name_of, texts_of, listed, items, seconds, joined, trees_of, suite_behind, tree_behind, suite_in, bases_in, name_behind, maybe_tree, dotted_on, names_on}

-- ---- choices

-- What a choice stands for, by what each alternative stands for. The alternatives have the order of the rule.
infixr 25 ◌∣◌
abbrev pub ◌∣◌ : {A B C : Type 0} → (A → C) → (B → C) → A ⊎ B → C
◌∣◌ f g (inl v) = f v
◌∣◌ f g (inr w) = g w

-- an alternative that is one token, and always stands for the same
abbrev pub always : {C : Type 0} → C → Token → C
always c token = c

-- an alternative that stands for what its part stands for
abbrev pub itself : {A : Type 0} → A → A
itself v = v

-- ---- expressions

-- an expression that begins at a token, or where another one begins
abbrev pub piece : ExprNode → Span → Piece
piece node span = record { tree = e.at node span; begins = span }

-- the same expression, behind a bracket
abbrev pub grouped_at : Span → Piece → Piece
grouped_at span p = record { tree = p.tree; begins = span }

-- an expression that goes on with the one on its left begins where that one does
abbrev pub grow : (m : More) → Piece → SemMore m → Piece
grow OR_MORE v b = piece (e.Or v.tree b) v.begins
grow AND_MORE v b = piece (e.And v.tree b) v.begins
grow BOR_MORE v b = piece (e.Bin op.Bar v.tree b) v.begins
grow SHIFT_MORE v b = piece (e.Bin b.0 v.tree b.1) v.begins
grow SUM_MORE v b = piece (e.Bin b.0 v.tree b.1) v.begins
grow TERM_MORE v b = piece (e.Bin b.0 v.tree b.1) v.begins
grow TRAILER v (of_name name) = piece (e.Attr v.tree name) v.begins
grow TRAILER v (of_args args) = piece (e.Call v.tree (arguments_of args)) v.begins
grow TRAILER v (of_index i) = piece (e.Index v.tree i) v.begins

-- one expression with no comma behind it is itself; others are a tuple, which begins where the first one does
abbrev pub tuple_of : Piece × (List Piece × Bool) → Piece
tuple_of (p, ([], false)) = p
tuple_of (p, ([], true)) = piece (e.TupleOf (exprs_of (p.tree ∷ []))) p.begins
tuple_of (p, (q ∷ ps, trailing)) = piece (e.TupleOf (exprs_of (p.tree ∷ q.tree ∷ trees_of ps))) p.begins

-- what stands in round brackets: they only group, but where nothing stands in them
abbrev pub group : Span → Option Piece → Piece
group span None = piece (e.TupleOf e.no_exprs) span
group span (Some p) = grouped_at span p

-- an operand alone is itself; with comparisons behind it, it is a chain
abbrev pub compared : Piece → List (CmpOp × ExprTree) → Piece
compared p [] = p
compared p (c ∷ cs) = piece (e.Compare p.tree (comparisons_of (c ∷ cs))) p.begins

-- what stands in front of `=` is the key
abbrev pub argument : Piece → Option ExprTree → ArgTree
argument p None = record { key = None; value = p.tree }
argument p (Some value) = record { key = Some p.tree; value = value }

-- what goes on with a primary: a name behind a dot, arguments, an index
abbrev pub attribute : Token × Token → Trail
attribute (dot, name) = of_name (name_of name)

abbrev pub call : Token × (Option (ArgTree × (List ArgTree × Bool)) × Token) → Trail
call (opens, (args, closes)) = of_args (items args)

abbrev pub index : Token × (Piece × Token) → Trail
index (opens, (i, closes)) = of_index i.tree

-- what a rule of more stands for
abbrev pub act_more : (m : More) → Val (rhs_more m) → SemMore m
act_more OR_MORE (word, p) = p.tree
act_more AND_MORE (word, p) = p.tree
act_more BOR_MORE (bar, p) = p.tree
act_more SHIFT_MORE (sign, p) = ((always op.Shl ∣ always op.Shr) sign, p.tree)
act_more SUM_MORE (sign, p) = ((always op.Add ∣ always op.Sub) sign, p.tree)
act_more TERM_MORE (sign, p) = ((always op.Mul ∣ always op.FloorDiv ∣ always op.Mod) sign, p.tree)
act_more TRAILER v = (attribute ∣ call ∣ index) v

-- `not`, and a minus or a plus, in front of an expression
abbrev pub negation : Token × Piece → Piece
negation (word, p) = piece (e.Not p.tree) word.span

abbrev pub minus : Piece → Token → Piece
minus p sign = piece (e.Neg p.tree) sign.span

abbrev pub plus : Piece → Token → Piece
plus p sign = piece (e.Plus p.tree) sign.span

abbrev pub signed : (Token ⊎ Token) × Piece → Piece
signed (sign, p) = (minus p ∣ plus p) sign

-- the atoms: a name, an integer, strings side by side, a constant, and what stands in round, square and curly brackets
abbrev pub name_atom : Token → Piece
name_atom t = piece (e.Name (name_of t)) t.span

abbrev pub int_atom : Token → Piece
int_atom t = piece (e.Int (int_in t.kind)) t.span

abbrev pub text_atom : Token × List Token → Piece
text_atom (t, ts) = piece (e.Str (texts_of (t ∷ ts))) t.span

abbrev pub constant : ExprNode → Token → Piece
constant node t = piece node t.span

abbrev pub round_atom : Token × (Option Piece × Token) → Piece
round_atom (opens, (inner, closes)) = group opens.span inner

abbrev pub list_atom : Token × (Option (Piece × (List Piece × Bool)) × Token) → Piece
list_atom (opens, (all, closes)) = piece (e.ListOf (exprs_of (trees_of (items all)))) opens.span

abbrev pub dict_atom : Token × (Option ((ExprTree × ExprTree) × (List (ExprTree × ExprTree) × Bool)) × Token) → Piece
dict_atom (opens, (all, closes)) = piece (e.DictOf (entries_of (items all))) opens.span

-- THE TREE of an expression
abbrev pub act_expr : (x : ExprSym) → Val (rhs_expr x) → Piece
act_expr TESTS v = tuple_of v
act_expr TARGETS v = tuple_of v
act_expr TEST (p, None) = p
act_expr TEST (p, Some (word, (test, (other, q)))) = piece (e.Cond p.tree test.tree q.tree) p.begins
act_expr OR v = v
act_expr AND v = v
act_expr NOT v = (negation ∣ itself) v
act_expr COMP (p, cs) = compared p cs
act_expr BOR v = v
act_expr SHIFT v = v
act_expr SUM v = v
act_expr TERM v = v
act_expr FACTOR v = (signed ∣ itself) v
act_expr PRIMARY v = v
act_expr ATOM v =
    (name_atom
    ∣ int_atom
    ∣ text_atom
    ∣ constant e.True
    ∣ constant e.False
    ∣ constant e.Nothing
    ∣ round_atom
    ∣ list_atom
    ∣ dict_atom)
    v

-- ---- statements

-- a statement that begins at a token
abbrev pub stmt : StmtNode → Token → StmtTree
stmt node first = s.at node first.span

-- decorators without their places
abbrev pub marks_of : List (ExprTree × Span) → List ExprTree
marks_of [] = []
marks_of (m ∷ ms) = m.0 ∷ marks_of ms

-- a function or a class as a statement, with its decorators, at a place
abbrev pub def_at : FuncTree → List ExprTree → Span → StmtTree
def_at f marks span = s.at (s.Def f.name f.params f.ret f.body marks) span

abbrev pub class_at : ClassTree → List ExprTree → Span → StmtTree
class_at c marks span = s.at (s.ClassDef c.name c.bases c.body marks) span

-- `not in`, and `is` with or without `not`
abbrev pub not_member : Token × Token → CmpOp
not_member words = cmp.NotMember

abbrev pub identity : Token × Option Token → CmpOp
identity (word, None) = cmp.Is
identity (word, Some other) = cmp.IsNot

-- what may stand behind an expression that begins a statement: an annotation, a value, an operator with a value
abbrev pub annotated : Piece → Token × (Piece × Option (Token × Piece)) → StmtTree
annotated p (colon, (mark, value)) = s.at (s.Annot p.tree mark.tree (tree_behind value)) p.begins

abbrev pub assigned : Piece → Token × Piece → StmtTree
assigned p (equals, value) = s.at (s.Assign p.tree value.tree) p.begins

abbrev pub changed : Piece → BinOp × Piece → StmtTree
changed p (op, value) = s.at (s.Aug p.tree op value.tree) p.begins

-- the names that are imported, bare or in brackets
abbrev pub Alias : Type 0
Alias = List ℕ × Option (List ℕ)

abbrev pub bare : Alias × List (Token × Alias) → List Alias
bare (first, others) = first ∷ seconds others

abbrev pub in_brackets : Token × ((Alias × (List Alias × Bool)) × Token) → List Alias
in_brackets (opens, (names, closes)) = listed names

-- one statement as a row
abbrev pub alone : StmtTree → List StmtTree
alone v = v ∷ []

-- behind the body of a `try`: handlers and perhaps a last body, or a last body
abbrev pub with_handlers : List StmtTree → Token → HandlerTree × (List HandlerTree × Option (List StmtTree)) → StmtTree
with_handlers body word (handler, (handlers, last)) =
    stmt (s.Try (suite_of body) (handlers_of (handler ∷ handlers)) (maybe_suite (suite_in last))) word

abbrev pub with_finally : List StmtTree → Token → List StmtTree → StmtTree
with_finally body word last = stmt (s.Try (suite_of body) s.no_handlers (s.some_suite (suite_of last))) word

-- statements on lines of their own
abbrev pub indented : Token × (Token × (List StmtTree × (List (List StmtTree) × Token))) → List StmtTree
indented (line, (indent, (stmts, (others, dedent)))) = stmts ++ joined others

-- a function or a class without decorators, and behind some
abbrev pub plain_function : FuncTree × Span → List StmtTree
plain_function f = alone (def_at f.0 [] f.1)

abbrev pub plain_class : ClassTree × Span → List StmtTree
plain_class c = alone (class_at c.0 [] c.1)

abbrev pub marked_function : ExprTree × Span → List (ExprTree × Span) → FuncTree × Span → StmtTree
marked_function mark marks f = def_at f.0 (marks_of (mark ∷ marks)) mark.1

abbrev pub marked_class : ExprTree × Span → List (ExprTree × Span) → ClassTree × Span → StmtTree
marked_class mark marks c = class_at c.0 (marks_of (mark ∷ marks)) mark.1

-- THE TREE of a rule. A small statement is `pass`, `break` or `continue`, or has a rule of its own; a statement is one with
-- bodies, or a line of small ones.
abbrev pub act : (x : Sym) → Val (rhs x) → Sem x
act (expr x) v = act_expr x v
act (more m) v = act_more m v
act COMP_MORE (op, p) = (op, p.tree)
act COMP_OP v =
    (always cmp.Lt
    ∣ always cmp.Gt
    ∣ always cmp.Eq
    ∣ always cmp.Ge
    ∣ always cmp.Le
    ∣ always cmp.Ne
    ∣ always cmp.Member
    ∣ not_member
    ∣ identity)
    v
act ARG (p, value) = argument p (tree_behind value)
act ENTRY (key, (colon, value)) = (key.tree, value.tree)
act PLAIN (p, None) = s.at (s.Do p.tree) p.begins
act PLAIN (p, Some v) = (annotated p ∣ assigned p ∣ changed p) v
act AUG v = (always op.Add ∣ always op.Sub ∣ always op.Mul ∣ always op.FloorDiv ∣ always op.Mod ∣ always op.Shl ∣ always op.Shr) v
act RETURN (word, value) = stmt (s.Return (maybe_tree value)) word
act RAISE (word, value) = stmt (s.Raise (maybe_tree value)) word
act GLOBAL (word, (name, names)) = stmt (s.Global (name_of name ∷ names_on names)) word
act ASSERT (word, (test, message)) = stmt (s.Assert test.tree (tree_behind message)) word
act DEL (word, p) = stmt (s.Del p.tree) word
act IMPORT (word, (name, other)) = stmt (s.Import name (name_behind other)) word
act FROM (word, (name, (_, names))) = stmt (s.From name ((bare ∣ in_brackets) names)) word
act DOTTED (name, names) = name_of name ++ dotted_on names
act ALIAS (name, other) = (name_of name, name_behind other)
act SMALL v =
    (stmt s.Pass
    ∣ stmt s.Break
    ∣ stmt s.Continue
    ∣ itself
    ∣ itself
    ∣ itself
    ∣ itself
    ∣ itself
    ∣ itself
    ∣ itself
    ∣ itself)
    v
act SIMPLE (small, end) = listed small
act STMT v = (alone ∣ alone ∣ alone ∣ alone ∣ itself) v
act IF (word, (arm, (arms, other))) = stmt (s.If (arms_of (arm ∷ seconds arms)) (suite_of (suite_behind other))) word
act ARM (test, (colon, body)) = (test.tree, suite_of body)
act WHILE (word, (test, (colon, body))) = stmt (s.While test.tree (suite_of body)) word
act FOR (word, (target, (_, (all, (colon, body))))) = stmt (s.For target.tree all.tree (suite_of body)) word
act TRY (word, ((colon, body), v)) = (with_handlers body word ∣ with_finally body word) v
act EXCEPT (word, (None, (colon, body))) = record { class = None; name = None; body = suite_of body; span = word.span }
act EXCEPT (word, (Some (p, name), (colon, body))) =
    record { class = Some p.tree; name = name_behind name; body = suite_of body; span = word.span }
act FINALLY (word, (colon, body)) = body
act BLOCK v = (indented ∣ itself) v
act FUNC (word, (name, (params, (ret, (colon, body))))) = (
  record {
    name = name_of name;
    params = items params.1.0;
    ret = tree_behind ret;
    body = suite_of body;
    marks = [];
  },
  word.span,
)
act PARAM (name, mark) = (name_of name, tree_behind mark)
act CLASS (word, (name, (bases, (colon, body)))) =
    (record { name = name_of name; bases = bases_in bases; body = suite_of body; marks = [] }, word.span)
act CBLOCK v = (indented ∣ itself) v
act MEMBER v = (plain_function ∣ itself) v
act MARK (word, (p, end)) = (p.tree, word.span)
act DECORATED (mark, (marks, v)) = (marked_function mark marks ∣ marked_class mark marks) v
act TOP v = (plain_function ∣ plain_class ∣ alone ∣ itself) v
act MODULE (all, end) = suite_of (joined all)
