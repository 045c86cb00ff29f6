-- Short modules, as they are read.
use Rattle.std.proofs.Common.{◌≡◌, ℕ, zero, suc, ◌+◌, Bool, List, [], ◌∷◌, Option, Some, refl, codes, ℤ, true, false}
use Rattle.py_syntax.specs.declared.expression.BinOp.TheVariants as op
use Rattle.py_syntax.specs.declared.expression.CmpOp.TheVariants as cmp
use Rattle.py_syntax.specs.declared.key.Key.TheVariants as k
use Rattle.py_syntax.specs.declared.sign.Sign.{Sign}
use Rattle.py_syntax.specs.declared.sign.Sign.TheVariants as s
use Rattle.py_syntax.specs.declared.token.Span.{Span}
use Rattle.py_syntax.specs.declared.token.Token.{Token}
use Rattle.py_syntax.specs.declared.token.TokenKind.{TokenKind}
use Rattle.py_syntax.specs.declared.token.TokenKind.TheVariants as kind
use Rattle.py_syntax.specs.Expressions as e
use Rattle.py_syntax.specs.Expressions.{ExprTree, ExprNode, expr_then, no_exprs}
use Rattle.py_syntax.specs.Statements as st
use Rattle.py_syntax.specs.Statements.{StmtTree, StmtNode, suite_of}
use Rattle.py_parser_grammar.specs.Grammar.{MODULE}
use Rattle.py_parser_grammar.specs.Reader.{run, reads, start}
use Rattle.py_parser_grammar.specs.Readings.{reads_sym}
use Rattle.py_parser_grammar.specs.Faults.{Came, tree, syntax, profile, too_deep}
use Rattle.py_parser_grammar.specs.Laws.{came}

-- tokens of these kinds, each a column behind the one before
abbrev tokens_from : ℕ → List TokenKind → List Token
tokens_from n [] = []
tokens_from n (x ∷ xs) = record { kind = x; span = record { line = 1; col = n } } ∷ tokens_from (n + 1) xs

-- what a module of tokens of these kinds is
abbrev answer : List TokenKind → Option Came
answer kinds = came (reads_sym (tokens_from 1 kinds) MODULE start)

abbrev column : ℕ → Span
column n = record { line = 1; col = n }

-- expressions and statements at a column, and a module
abbrev ex : ℕ → ExprNode → ExprTree
ex n node = e.at node (column n)

abbrev stm : ℕ → StmtNode → StmtTree
stm n node = st.at node (column n)

abbrev program : List StmtTree → Option Came
program all = Some (tree (suite_of all))

abbrev a : TokenKind
a = kind.Name (codes "a")

abbrev b : TokenKind
b = kind.Name (codes "b")

abbrev sign : Sign → TokenKind
sign text = kind.Sign text

abbrev name_at : ℕ → ExprTree
name_at n = ex n (e.Name (codes "a"))

-- nothing
empty : answer (kind.End ∷ []) ≡ program []
unfolding run reads reads_sym
empty = refl

-- pass; pass;
two_smalls : answer (kind.Key k.Pass ∷ sign s.Semicolon ∷ kind.Key k.Pass ∷ sign s.Semicolon ∷ kind.Newline ∷ kind.End ∷ []) ≡ program (stm 1 st.Pass ∷ stm 3 st.Pass ∷ [])
unfolding run reads reads_sym
two_smalls = refl

-- (a).b
grouped : answer (sign s.LeftParen ∷ a ∷ sign s.RightParen ∷ sign s.Dot ∷ b ∷ kind.Newline ∷ kind.End ∷ []) ≡ program (stm 1 (st.Do (ex 1 (e.Attr (name_at 2) (codes "b")))) ∷ [])
unfolding run reads reads_sym
grouped = refl

-- a - a * a - a
grouped_from_left : answer (a ∷ sign s.Minus ∷ a ∷ sign s.Star ∷ a ∷ sign s.Minus ∷ a ∷ kind.Newline ∷ kind.End ∷ []) ≡ program (stm 1 (st.Do (ex 1 (e.Bin op.Sub (ex 1 (e.Bin op.Sub (name_at 1) (ex 3 (e.Bin op.Mul (name_at 3) (name_at 5))))) (name_at 7)))) ∷ [])
unfolding run reads reads_sym
grouped_from_left = refl

-- not not a
prefixes : answer (kind.Key k.Not ∷ kind.Key k.Not ∷ a ∷ kind.Newline ∷ kind.End ∷ []) ≡ program (stm 1 (st.Do (ex 1 (e.Not (ex 2 (e.Not (name_at 3)))))) ∷ [])
unfolding run reads reads_sym
prefixes = refl

-- - (+ a)
signs : answer (sign s.Minus ∷ sign s.LeftParen ∷ sign s.Plus ∷ a ∷ sign s.RightParen ∷ kind.Newline ∷ kind.End ∷ []) ≡ program (stm 1 (st.Do (ex 1 (e.Neg (ex 3 (e.Plus (name_at 4)))))) ∷ [])
unfolding run reads reads_sym
signs = refl

-- a < a not in a is not a
one_chain : answer (a ∷ sign s.Lt ∷ a ∷ kind.Key k.Not ∷ kind.Key k.In ∷ a ∷ kind.Key k.Is ∷ kind.Key k.Not ∷ a ∷ kind.Newline ∷ kind.End ∷ []) ≡ program (stm 1 (st.Do (ex 1 (e.Compare (name_at 1) (e.comparison_then cmp.Lt (name_at 3) (e.comparison_then cmp.NotMember (name_at 6) (e.comparison_then cmp.IsNot (name_at 9) e.no_comparisons)))))) ∷ [])
unfolding run reads reads_sym
one_chain = refl

-- a if a else a if a else a
conditions : answer (a ∷ kind.Key k.If ∷ a ∷ kind.Key k.Else ∷ a ∷ kind.Key k.If ∷ a ∷ kind.Key k.Else ∷ a ∷ kind.Newline ∷ kind.End ∷ []) ≡ program (stm 1 (st.Do (ex 1 (e.Cond (name_at 1) (name_at 3) (ex 5 (e.Cond (name_at 5) (name_at 7) (name_at 9)))))) ∷ [])
unfolding run reads reads_sym
conditions = refl

-- (a, a), = ()
tuples : answer (sign s.LeftParen ∷ a ∷ sign s.Comma ∷ a ∷ sign s.RightParen ∷ sign s.Comma ∷ sign s.Assign ∷ sign s.LeftParen ∷ sign s.RightParen ∷ kind.Newline ∷ kind.End ∷ []) ≡ program (stm 1 (st.Assign (ex 1 (e.TupleOf (expr_then (ex 2 (e.TupleOf (expr_then (name_at 2) (expr_then (name_at 4) no_exprs)))) no_exprs))) (ex 8 (e.TupleOf no_exprs))) ∷ [])
unfolding run reads reads_sym
tuples = refl

-- a += "b" "a"
texts : answer (a ∷ sign s.PlusAssign ∷ kind.Str (codes "b") ∷ kind.Str (codes "a") ∷ kind.Newline ∷ kind.End ∷ []) ≡ program (stm 1 (st.Aug (name_at 1) op.Add (ex 3 (e.Str (codes "ba")))) ∷ [])
unfolding run reads reads_sym
texts = refl

-- a(a, a = 1,)[a]
trailers : answer (a ∷ sign s.LeftParen ∷ a ∷ sign s.Comma ∷ a ∷ sign s.Assign ∷ kind.Int (ℤ.pos 1) ∷ sign s.Comma ∷ sign s.RightParen ∷ sign s.LeftSquare ∷ a ∷ sign s.RightSquare ∷ kind.Newline ∷ kind.End ∷ []) ≡ program (stm 1 (st.Do (ex 1 (e.Index (ex 1 (e.Call (name_at 1) (e.argument_then (name_at 3) (e.keyed_then (name_at 5) (ex 7 (e.Int (ℤ.pos 1))) e.no_arguments)))) (name_at 11)))) ∷ [])
unfolding run reads reads_sym
trailers = refl

-- a: {a: [], } = True
displays : answer (a ∷ sign s.Colon ∷ sign s.LeftBrace ∷ a ∷ sign s.Colon ∷ sign s.LeftSquare ∷ sign s.RightSquare ∷ sign s.Comma ∷ sign s.RightBrace ∷ sign s.Assign ∷ kind.Key k.True ∷ kind.Newline ∷ kind.End ∷ []) ≡ program (stm 1 (st.Annot (name_at 1) (ex 3 (e.DictOf (e.entry_then (name_at 4) (ex 6 (e.ListOf no_exprs)) e.no_entries))) (Some (ex 11 e.True))) ∷ [])
unfolding run reads reads_sym
displays = refl

-- import a.b as a; from a import (b as a,)
imports : answer (kind.Key k.Import ∷ a ∷ sign s.Dot ∷ b ∷ kind.Key k.As ∷ a ∷ sign s.Semicolon ∷ kind.Key k.From ∷ a ∷ kind.Key k.Import ∷ sign s.LeftParen ∷ b ∷ kind.Key k.As ∷ a ∷ sign s.Comma ∷ sign s.RightParen ∷ kind.Newline ∷ kind.End ∷ []) ≡ program (stm 1 (st.Import (codes "a.b") (Some (codes "a"))) ∷ stm 8 (st.From (codes "a") ((codes "b", Some (codes "a")) ∷ [])) ∷ [])
unfolding run reads reads_sym
imports = refl

-- if a: if is no simple statement; an else belongs to the last if of its depth
ifs : answer (kind.Key k.If ∷ a ∷ sign s.Colon ∷ kind.Newline ∷ kind.Indent ∷ kind.Key k.If ∷ a ∷ sign s.Colon ∷ kind.Key k.Pass ∷ kind.Newline ∷ kind.Dedent ∷ kind.Key k.Else ∷ sign s.Colon ∷ kind.Key k.Break ∷ kind.Newline ∷ kind.End ∷ []) ≡ program (stm 1 (st.If (st.arm_then (name_at 2) (suite_of (stm 6 (st.If (st.arm_then (name_at 7) (suite_of (stm 9 st.Pass ∷ [])) st.no_arms) st.no_stmts) ∷ [])) st.no_arms) (suite_of (stm 14 st.Break ∷ []))) ∷ [])
unfolding run reads reads_sym
ifs = refl

-- for a, a in a: continue
targets : answer (kind.Key k.For ∷ a ∷ sign s.Comma ∷ a ∷ kind.Key k.In ∷ a ∷ sign s.Colon ∷ kind.Key k.Continue ∷ kind.Newline ∷ kind.End ∷ []) ≡ program (stm 1 (st.For (ex 2 (e.TupleOf (expr_then (name_at 2) (expr_then (name_at 4) no_exprs)))) (name_at 6) (suite_of (stm 8 st.Continue ∷ []))) ∷ [])
unfolding run reads reads_sym
targets = refl

-- try: pass, except a as b: pass, finally: pass
handlers : answer (kind.Key k.Try ∷ sign s.Colon ∷ kind.Key k.Pass ∷ kind.Newline ∷ kind.Key k.Except ∷ a ∷ kind.Key k.As ∷ b ∷ sign s.Colon ∷ kind.Key k.Pass ∷ kind.Newline ∷ kind.Key k.Finally ∷ sign s.Colon ∷ kind.Key k.Pass ∷ kind.Newline ∷ kind.End ∷ []) ≡ program (stm 1 (st.Try (suite_of (stm 3 st.Pass ∷ [])) (st.handler_then (Some (name_at 6)) (Some (codes "b")) (suite_of (stm 10 st.Pass ∷ [])) (column 5) st.no_handlers) (st.some_suite (suite_of (stm 14 st.Pass ∷ [])))) ∷ [])
unfolding run reads reads_sym
handlers = refl

-- @a, def b(a: a,) -> None: pass
decorated : answer (sign s.At ∷ a ∷ kind.Newline ∷ kind.Key k.Def ∷ b ∷ sign s.LeftParen ∷ a ∷ sign s.Colon ∷ a ∷ sign s.Comma ∷ sign s.RightParen ∷ sign s.Arrow ∷ kind.Key k.Nothing ∷ sign s.Colon ∷ kind.Key k.Pass ∷ kind.Newline ∷ kind.End ∷ []) ≡ program (stm 1 (st.Def (codes "b") ((codes "a", Some (name_at 9)) ∷ []) (Some (ex 13 e.Nothing)) (suite_of (stm 15 st.Pass ∷ [])) (name_at 2 ∷ [])) ∷ [])
unfolding run reads reads_sym
decorated = refl

-- ---- faults

-- a a
two_names : answer (a ∷ a ∷ kind.Newline ∷ kind.End ∷ []) ≡ Some (syntax 1)
unfolding run reads reads_sym
two_names = refl

-- pass, and no end of the line
unended : answer (kind.Key k.Pass ∷ kind.End ∷ []) ≡ Some (syntax 1)
unfolding run reads reads_sym
unended = refl

-- global a,
no_trailing_comma : answer (kind.Key k.Global ∷ a ∷ sign s.Comma ∷ kind.Newline ∷ kind.End ∷ []) ≡ Some (syntax 3)
unfolding run reads reads_sym
no_trailing_comma = refl

-- a = a = a
one_assignment : answer (a ∷ sign s.Assign ∷ a ∷ sign s.Assign ∷ a ∷ kind.Newline ∷ kind.End ∷ []) ≡ Some (syntax 3)
unfolding run reads reads_sym
one_assignment = refl

-- (a
open_bracket : answer (sign s.LeftParen ∷ a ∷ kind.Newline ∷ kind.End ∷ []) ≡ Some (syntax 2)
unfolding run reads reads_sym
open_bracket = refl

-- a with
left_out : answer (a ∷ kind.Key k.With ∷ kind.Newline ∷ kind.End ∷ []) ≡ Some (profile 1)
unfolding run reads reads_sym
left_out = refl

-- lambda
left_out_first : answer (kind.Key k.Lambda ∷ kind.End ∷ []) ≡ Some (profile 0)
unfolding run reads reads_sym
left_out_first = refl

-- so many nots before some tokens
abbrev nots : ℕ → List TokenKind → List TokenKind
nots zero more = more
nots (suc n) more = kind.Key k.Not ∷ nots n more

abbrev is_tree : Option Came → Bool
is_tree (Some (tree _)) = true
is_tree _ = false

-- level 100
deep_enough : is_tree (answer (nots 99 (a ∷ kind.Newline ∷ kind.End ∷ []))) ≡ true
unfolding run reads reads_sym
deep_enough = refl

-- level 101, finished at the name
deep_name : answer (nots 100 (a ∷ kind.Newline ∷ kind.End ∷ [])) ≡ Some (too_deep 100)
unfolding run reads reads_sym
deep_name = refl

-- level 101 is not finished where the next token is a fault
deep_fault : answer (nots 100 (a ∷ b ∷ kind.Newline ∷ kind.End ∷ [])) ≡ Some (syntax 101)
unfolding run reads reads_sym
deep_fault = refl
