-- The C text of a program: one line for each operation and each end (mypyc's developer guide, "Emitting C").
use Rattle.std.specs.Prelude.{ℕ, suc, zero, ◌-◌, cond, nat_eq, List, [], ◌∷◌, ◌++◌, length, map, Some, codes, slice_get}
use Rattle.std.specs.Option.{option_map, option_map_or}
use Rattle.c_core.specs.declared.code.Kind.{Kind}
use Rattle.c_core.specs.declared.code.Kind.TheVariants.{Tagged, Int64, Char, Object}
use Rattle.c_core.specs.declared.code.CArg.{CArg}
use Rattle.c_core.specs.declared.code.CArg.TheVariants as c_arg
use Rattle.c_core.specs.declared.code.CLit.{CLit}
use Rattle.c_core.specs.declared.code.CLit.TheVariants as c_lit
use Rattle.c_core.specs.declared.code.CClass.{CClass}
use Rattle.c_core.specs.declared.code.Line.{Line}
use Rattle.c_core.specs.declared.code.Line.TheVariants as line
use Rattle.c_core.specs.declared.code.CFunc.{CFunc}
use Rattle.c_core.specs.declared.code.Code.{Code}
use Rattle.c_core.specs.Primitives.{row_of}
use Rattle.ir_core.specs.declared.code.RType.{RType}
use Rattle.ir_core.specs.declared.code.RType.TheVariants.{Int, I64, Bool, Ref}
use Rattle.ir_core.specs.declared.code.Reg.{Reg}
use Rattle.ir_core.specs.declared.code.Lit.{Lit as Literal}
use Rattle.ir_core.specs.declared.code.Lit.TheVariants.{Number, Null, PyNone, PyTrue, PyFalse}
use Rattle.ir_core.specs.declared.code.PArg.{PArg}
use Rattle.ir_core.specs.declared.code.PArg.TheVariants as arg
use Rattle.ir_core.specs.declared.code.Op.{Op}
use Rattle.ir_core.specs.declared.code.Op.TheVariants.{Move, Lit, Prim, Call, Virtual, TraitCall, Turn, Inc, Dec, XDec}
use Rattle.ir_core.specs.declared.code.Last.{Last}
use Rattle.ir_core.specs.declared.code.Last.TheVariants.{Goto, If, IfError, Return, Unreachable}
use Rattle.ir_core.specs.declared.code.Block.{Block}
use Rattle.ir_core.specs.declared.code.Func.{Func}
use Rattle.ir_core.specs.declared.code.Program.{Program}
use Rattle.ir_core.specs.Names.{function_id, variable_id}

abbrev pub kind_of_type : RType → Kind
kind_of_type Int = Tagged
kind_of_type I64 = Int64
kind_of_type Bool = Char
kind_of_type Ref = Object

abbrev pub variable_of : List ℕ × RType → List ℕ × Kind
variable_of r = (variable_id r.0, kind_of_type r.1)

abbrev pub global_of : List ℕ × RType → List ℕ × Kind
global_of g = (g.0, kind_of_type g.1)

abbrev pub literal_in : Literal → CLit
literal_in (Number n) = c_lit.Number n
literal_in Null = c_lit.Null
literal_in PyNone = c_lit.PyNone
literal_in PyTrue = c_lit.PyTrue
literal_in PyFalse = c_lit.PyFalse

abbrev pub argument_in : PArg → CArg
argument_in (arg.Var r) = c_arg.Var r.0
argument_in (arg.Number n) = c_arg.Number n
argument_in (arg.Text text) = c_arg.Text text
argument_in (arg.Global name) = c_arg.Global name
argument_in (arg.Class name) = c_arg.Class name

abbrev pub number_of : Reg → ℕ
number_of r = r.0

abbrev pub register_in : Reg → CArg
register_in r = c_arg.Var r.0

-- the name of a function in a call; one that is not there has none, nor has the last, which is the module's own
abbrev pub call_name : Func → List ℕ
call_name g = codes "CPyDef_" ++ function_id g.name

abbrev pub called_as : Program → ℕ → List ℕ
called_as p g = cond (nat_eq (suc g) (length p.funcs)) [] (option_map_or call_name (slice_get p.funcs g) [])

abbrev pub class_name : CClass → List ℕ
class_name k = k.name

abbrev pub class_called : Program → ℕ → List ℕ
class_called p t = option_map_or class_name (slice_get p.classes t) []

-- the line of an operation
abbrev pub line_of : Program → Op → Line
line_of p (Move r s) = line.Move r.0 s.0
line_of p (Lit r l) = line.Lit r.0 (literal_in l)
line_of p (Prim to q args) = line.Call (option_map number_of to) (row_of q).name (map argument_in args)
line_of p (Call r g args) = line.Call (Some r.0) (called_as p g) (map register_in args)
line_of p (Virtual r o n args) = line.Virtual r.0 o.0 n (map number_of args)
line_of p (TraitCall r o t n args) = line.TraitCall r.0 o.0 (class_called p t) n (map number_of args)
line_of p Turn = line.Turn
line_of p (Inc r) = line.Inc r.0
line_of p (Dec r) = line.Dec r.0
line_of p (XDec r) = line.XDec r.0

abbrev pub op_lines : Program → List (Op × ℕ) → List Line
op_lines p ops = map (λ o. line_of p o.0) ops

-- block 0 has no label, and each other one has the label of the number below its own
abbrev pub label_before : ℕ → List Line
label_before zero = []
label_before (suc k) = line.Label ∷ []

abbrev pub label_of : ℕ → ℕ
label_of k = k - 1

-- the lines of the end of a block, with the label of each block. A place that is not reached goes round for ever
abbrev pub end_lines : (ℕ → ℕ) → ℕ → Last → List Line
end_lines label k (Goto t) = line.Goto (label t) ∷ []
end_lines label k (If r a b) = line.If r.0 (label a) (label b) ∷ []
end_lines label k (IfError r e n source) = line.IfError r.0 (label e) (label n) ∷ []
end_lines label k (Return r) = line.Return r.0 ∷ []
end_lines label k Unreachable = line.Turn ∷ line.Goto (label k) ∷ []

abbrev pub block_lines : Program → ℕ → Block → List Line
block_lines p k b = label_before k ++ (op_lines p b.ops ++ end_lines label_of k b.last)

-- the lines of blocks of which the first has this number
abbrev pub lines_from : Program → ℕ → List Block → List Line
lines_from p k [] = []
lines_from p k (b ∷ bs) = block_lines p k b ++ lines_from p (suc k) bs

abbrev pub lowered_as : Program → List ℕ → Func → CFunc
lowered_as p name f =
    record { name = name; ret = kind_of_type f.ret; params = f.params; vars = map variable_of f.regs; lines = lines_from p 0 f.blocks }

-- the last function is the module's own, which has no name in C text
abbrev pub name_in : Program → ℕ → Func → List ℕ
name_in p n f = cond (nat_eq (suc n) (length p.funcs)) [] (function_id f.name)

abbrev pub lowered_from : Program → ℕ → List Func → List CFunc
lowered_from p n [] = []
lowered_from p n (f ∷ fs) = lowered_as p (name_in p n f) f ∷ lowered_from p (suc n) fs

abbrev pub lower : Program → Code
lower p = record { globals = map global_of p.globals; classes = p.classes; funcs = lowered_from p 0 p.funcs }
