-- Short words for the typed trees of the sample programs.
use Rattle.std.proofs.Common.{ℕ, ◌^◌, ◌-◌, pos, Bool, List, [], ◌∷◌, Option, Some, None}
use Rattle.value_core.specs.declared.exception.ExcClass.{ExcClass}
use Rattle.value_core.specs.Exceptions.{thrown}
use Rattle.value_core.specs.Ending.{Ending, Raised}
use Rattle.value_core.specs.Items.{Items, Eof}
use Rattle.py_syntax.specs.declared.token.Span.{Span}
use Rattle.py_syntax.specs.declared.expression.BinOp.{BinOp}
use Rattle.py_syntax.specs.declared.expression.CmpOp.{CmpOp}
use Rattle.py_typed.specs.Sorts.{Sort, Int, I64, Bool as BoolSort, Str, Nothing, ListOf}
use Rattle.py_typed.specs.Classes.{ClassEntry}
use Rattle.py_typed.specs.Expressions as tree
use Rattle.py_typed.specs.Expressions.{TypedExpr, typed, TypedNode, TypedExprs, no_exprs, expr_then, no_comparisons, comparison_then, some_expr}
use Rattle.py_typed.specs.Statements.{Variable, LocalTarget, GlobalTarget, TypedAct, Do, Assign, If, Return, on_line, TypedSuite, no_stmts, stmt_then, no_arms, arm_then, TypedFunc, TypedModule}
use Rattle.source_meaning.specs.SourceRun.{ModuleStop, source_run}

abbrev pub here : Span
here = record { line = 1; col = 1 }

abbrev pub as_type : Sort → TypedNode → TypedExpr
as_type t e = typed e t here

abbrev pub num : ℕ → TypedExpr
num n = as_type Int (tree.Int (pos n))

abbrev pub text : List ℕ → TypedExpr
text t = as_type Str (tree.Str t)

abbrev pub flag : Bool → TypedExpr
flag b = as_type BoolSort (tree.Flag b)

-- a module variable, and a local
abbrev pub g : ℕ → Sort → TypedExpr
g i t = as_type t (tree.Global i)

abbrev pub l : ℕ → Sort → TypedExpr
l i t = as_type t (tree.Local i)

abbrev pub row : List TypedExpr → TypedExprs
row es = tree.exprs_of es

abbrev pub arith : BinOp → TypedExpr → TypedExpr → TypedExpr
arith op a b = as_type Int (tree.Arith op a b)

abbrev pub arith64 : BinOp → TypedExpr → TypedExpr → TypedExpr
arith64 op a b = as_type I64 (tree.Arith op a b)

abbrev pub compare : CmpOp → TypedExpr → TypedExpr → TypedExpr
compare op a b = as_type BoolSort (tree.Compare a (comparison_then op b no_comparisons))

abbrev pub call : ℕ → Sort → List TypedExpr → TypedExpr
call f t es = as_type t (tree.Call f (row es))

abbrev pub list : Sort → List TypedExpr → TypedExpr
list t es = as_type (ListOf t) (tree.ListOf (row es))

abbrev pub print : List TypedExpr → TypedAct
print es = Do (as_type Nothing (tree.Print (row es)))

abbrev pub set : ℕ → TypedExpr → TypedAct
set i e = Assign (GlobalTarget i ∷ []) e

abbrev pub set_l : ℕ → TypedExpr → TypedAct
set_l i e = Assign (LocalTarget i ∷ []) e

abbrev pub when : TypedExpr → TypedSuite → TypedAct
when test body = If (arm_then test body no_arms) no_stmts

abbrev pub return : TypedExpr → TypedAct
return e = Return (Some e)

infixr 5 ◌▸◌
abbrev pub ◌▸◌ : TypedAct → TypedSuite → TypedSuite
a ▸ more = stmt_then (on_line a 1) more

abbrev pub end : TypedSuite
end = no_stmts

abbrev pub func : List ℕ → ℕ → List Variable → Sort → TypedSuite → TypedFunc
func name params locals ret body = record { name = name; class = None; params = params; locals = locals; ret = ret; body = body }

abbrev pub method : List ℕ → ℕ → ℕ → List Variable → Sort → TypedSuite → TypedFunc
method name c params locals ret body = record { name = name; class = Some c; params = params; locals = locals; ret = ret; body = body }

abbrev pub module_of : List ClassEntry → List Variable → List TypedFunc → TypedSuite → TypedModule
module_of classes globals funcs top = record { classes = record { classes = classes; signatures = [] }; globals = globals; funcs = funcs; top = top }

abbrev pub plain : List Variable → TypedSuite → TypedModule
plain globals top = module_of [] globals [] top

-- what a module writes and how it ends, for so many turns on this input
abbrev pub seen : ModuleStop → List ℕ × Option Ending
seen s = (s.output, s.ending)

abbrev pub ran : ℕ → Items → TypedModule → List ℕ × Option Ending
ran n items m = seen (source_run n items m)

abbrev pub most : ℕ
most = 2 ^ 63 - 1

abbrev pub run : TypedModule → List ℕ × Option Ending
run m = ran most Eof m

abbrev pub fails : ExcClass → List ℕ → Option Ending
fails c t = Some (Raised (thrown c t))
