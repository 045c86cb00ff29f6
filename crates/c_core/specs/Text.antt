-- The one text of a code. Lines end with a line feed, and nothing in it is written in two ways.
use Rattle.std.specs.Prelude.{ℕ, ◌+◌, ◌/◌, ◌%◌, ◌==◌, nat_lt, cond, ◌||◌, List, [], ◌∷◌, ◌++◌, Option, Some, None, codes, flat_map, map, take, drop, slice_get}
use Rattle.std.specs.Fmt.{decimal, signed_decimal}
use Rattle.std.specs.declared.option.Option.{Option}
use Rattle.value_core.specs.Items.{line_feed}
use Rattle.c_core.specs.declared.code.Kind.{Kind}
use Rattle.c_core.specs.declared.code.Kind.TheVariants.{Tagged, Int64, Char, Object}
use Rattle.c_core.specs.declared.code.CArg.{CArg}
use Rattle.c_core.specs.declared.code.CArg.TheVariants as arg
use Rattle.c_core.specs.declared.code.CLit.{CLit}
use Rattle.c_core.specs.declared.code.CLit.TheVariants.{Number, Null, PyNone, PyTrue, PyFalse}
use Rattle.c_core.specs.declared.code.Line.{Line}
use Rattle.c_core.specs.declared.code.Line.TheVariants.{Label, Move, Lit, Call, Virtual, TraitCall, Goto, If, IfError, Turn, Return, Inc, Dec, XDec}
use Rattle.c_core.specs.declared.code.CClass.{CClass}
use Rattle.c_core.specs.declared.code.CFunc.{CFunc}
use Rattle.c_core.specs.declared.code.Code.{Code}
use Rattle.c_core.specs.Functions.{is_label}

-- texts with something between each two of them
abbrev pub joined : List ℕ → List (List ℕ) → List ℕ
joined between [] = []
joined between (t ∷ []) = t
joined between (t ∷ u ∷ ts) = t ++ (between ++ joined between (u ∷ ts))

abbrev pub comma : List ℕ
comma = codes ", "

-- a kind before a name
abbrev pub kind_text : Kind → List ℕ
kind_text Tagged = codes "CPyTagged "
kind_text Int64 = codes "int64_t "
kind_text Char = codes "char "
kind_text Object = codes "PyObject *"

-- a byte in a text: `"`, `\` and line feeds have a backslash, other bytes below 32, and 127, three octal digits
abbrev pub digit : ℕ → ℕ
digit n = 48 + n

abbrev pub octal : ℕ → List ℕ
octal b = 92 ∷ digit (b / 64) ∷ digit (b / 8 % 8) ∷ digit (b % 8) ∷ []

abbrev pub byte_text : ℕ → List ℕ
byte_text b =
    cond (b == 34) (codes "\\\"") (cond (b == 92) (codes "\\\\") (cond (b == 10) (codes "\\n") (cond (nat_lt b 32 || (b == 127)) (octal b) (b ∷ []))))

abbrev pub quoted : List ℕ → List ℕ
quoted text = codes "\"" ++ (flat_map byte_text text ++ codes "\"")

-- a variable by its number; one that is not declared has no text
abbrev pub var_name : Option (List ℕ × Kind) → List ℕ
var_name None = []
var_name (Some v) = codes "cpy_" ++ v.0

abbrev pub var_text : List (List ℕ × Kind) → ℕ → List ℕ
var_text vars x = var_name (slice_get vars x)

-- a class by its name
abbrev pub type_text : List ℕ → List ℕ
type_text name = codes "CPyType_" ++ name

abbrev pub arg_text : List (List ℕ × Kind) → CArg → List ℕ
arg_text vars (arg.Var x) = var_text vars x
arg_text vars (arg.Number n) = signed_decimal n
arg_text vars (arg.Text text) = quoted text
arg_text vars (arg.Global name) = codes "CPyStatic_" ++ name
arg_text vars (arg.Class name) = type_text name

abbrev pub arg_texts : List (List ℕ × Kind) → List CArg → List (List ℕ)
arg_texts vars [] = []
arg_texts vars (a ∷ rest) = arg_text vars a ∷ arg_texts vars rest

abbrev pub literal_text : CLit → List ℕ
literal_text (Number n) = signed_decimal n
literal_text Null = codes "NULL"
literal_text PyNone = codes "Py_None"
literal_text PyTrue = codes "Py_True"
literal_text PyFalse = codes "Py_False"

abbrev pub target_text : List (List ℕ × Kind) → Option ℕ → List ℕ
target_text vars None = []
target_text vars (Some x) = var_text vars x ++ codes " = "

-- a label by its number
abbrev pub label_text : ℕ → List ℕ
label_text n = codes "CPyL" ++ decimal n

abbrev pub goto_text : ℕ → List ℕ
goto_text n = codes "goto " ++ label_text n

-- what follows the condition of an `if`
abbrev pub branches_text : ℕ → ℕ → List ℕ
branches_text n m = codes ") " ++ (goto_text n ++ (codes "; else " ++ goto_text m))

-- the error value of a variable's kind
abbrev pub error_text : Option (List ℕ × Kind) → List ℕ
error_text None = []
error_text (Some (name, Tagged)) = codes "1"
error_text (Some (name, Int64)) = codes "-113"
error_text (Some (name, Char)) = codes "2"
error_text (Some (name, Object)) = codes "NULL"

-- the count statement goes by the variable's kind
abbrev pub counter_of : Option (List ℕ × Kind) → List ℕ
counter_of (Some (name, Tagged)) = codes "CPyTagged_"
counter_of _ = codes "CPy_"

abbrev pub count_text : List (List ℕ × Kind) → List ℕ → ℕ → List ℕ
count_text vars word x = counter_of (slice_get vars x) ++ (word ++ (codes "(" ++ (var_text vars x ++ codes ")")))

-- a call by the name that stands in it
abbrev pub call_text : List ℕ → List (List ℕ) → List ℕ
call_text name args = name ++ (codes "(" ++ (joined comma args ++ codes ")"))

-- a statement without its semicolon; a label is none
abbrev pub statement_text : List (List ℕ × Kind) → Line → List ℕ
statement_text vars Label = []
statement_text vars (Move x y) = var_text vars x ++ (codes " = " ++ var_text vars y)
statement_text vars (Lit x l) = var_text vars x ++ (codes " = " ++ literal_text l)
statement_text vars (Call x name args) = target_text vars x ++ call_text name (arg_texts vars args)
statement_text vars (Virtual x o n args) =
    target_text vars (Some x) ++ call_text (codes "CPyVirtual") (var_text vars o ∷ decimal n ∷ map (var_text vars) args)
statement_text vars (TraitCall x o t n args) =
    target_text vars (Some x) ++ call_text (codes "CPyTrait") (var_text vars o ∷ type_text t ∷ decimal n ∷ map (var_text vars) args)
statement_text vars (Goto n) = goto_text n
statement_text vars (If x n m) = codes "if (" ++ (var_text vars x ++ branches_text n m)
statement_text vars (IfError x n m) =
    codes "if (" ++ (var_text vars x ++ (codes " == " ++ (error_text (slice_get vars x) ++ branches_text n m)))
statement_text vars Turn = codes "CPyTurn()"
statement_text vars (Return x) = codes "return " ++ var_text vars x
statement_text vars (Inc x) = count_text vars (codes "INCREF") x
statement_text vars (Dec x) = count_text vars (codes "DECREF") x
statement_text vars (XDec x) = count_text vars (codes "XDECREF") x

-- the lines of a text, without their line feeds: of a declaration, and of a label or a statement
abbrev pub indented : List ℕ → List ℕ
indented text = codes "    " ++ (text ++ codes ";")

abbrev pub declaration_text : List ℕ × Kind → List ℕ
declaration_text v = kind_text v.1 ++ (codes "cpy_" ++ v.0)

abbrev pub declaration_lines : List (List ℕ × Kind) → List (List ℕ)
declaration_lines [] = []
declaration_lines (v ∷ vars) = indented (declaration_text v) ∷ declaration_lines vars

-- a label alone is not indented
abbrev pub label_line : ℕ → List ℕ
label_line n = label_text n ++ codes ": ;"

-- the lines of statements with n labels above them
abbrev pub lines_from : List (List ℕ × Kind) → ℕ → List Line → List (List ℕ)
lines_from vars n [] = []
lines_from vars n (l ∷ lines) =
    cond (is_label l) (label_line n ∷ lines_from vars (n + 1) lines) (indented (statement_text vars l) ∷ lines_from vars n lines)

abbrev pub statement_lines : List (List ℕ × Kind) → List Line → List (List ℕ)
statement_lines vars lines = lines_from vars 0 lines

-- the fixed lines: the first of a text, the head of the module's own function, and the end of a function
abbrev pub first_line : List ℕ
first_line = codes "/* mypyc subset 1 */"

abbrev pub module_head : List ℕ
module_head = codes "char CPyModule(void) {"

abbrev pub function_end : List ℕ
function_end = codes "}"

-- the head of another function, with its parameters, `void` where there are none
abbrev pub parameters_text : List (List ℕ × Kind) → List ℕ
parameters_text [] = codes "void"
parameters_text (v ∷ vars) = joined comma (map declaration_text (v ∷ vars))

abbrev pub function_head : CFunc → List ℕ
function_head g =
    kind_text g.ret ++ (codes "CPyDef_" ++ (g.name ++ (codes "(" ++ (parameters_text (take g.params g.vars) ++ codes ") {"))))

-- the lines of functions: the last one is the module's own, which declares all its variables
abbrev pub function_lines : List CFunc → List (List ℕ)
function_lines [] = []
function_lines (g ∷ []) =
    module_head ∷ (declaration_lines g.vars ++ (statement_lines g.vars g.lines ++ (function_end ∷ [])))
function_lines (g ∷ h ∷ gs) =
    function_head g ∷ (declaration_lines (drop g.params g.vars) ++ (statement_lines g.vars g.lines ++ (function_end ∷ function_lines (h ∷ gs))))

-- the lines of globals
abbrev pub global_line : List ℕ × Kind → List ℕ
global_line v = kind_text v.1 ++ (codes "CPyStatic_" ++ (v.0 ++ codes ";"))

abbrev pub global_lines : List (List ℕ × Kind) → List (List ℕ)
global_lines vars = map global_line vars

-- ---- classes
-- texts in braces, with commas between them
abbrev pub braced : List (List ℕ) → List ℕ
braced texts = codes "{" ++ (joined comma texts ++ codes "}")

-- the kind of an attribute
abbrev pub slot_text : Kind → List ℕ
slot_text Tagged = codes "CPyTagged"
slot_text Int64 = codes "int64_t"
slot_text Char = codes "char"
slot_text Object = codes "PyObject *"

abbrev pub attribute_text : List ℕ × Kind → List ℕ
attribute_text a = braced (quoted a.0 ∷ slot_text a.1 ∷ [])

-- the functions of methods, and those of a trait
abbrev pub method_text : List ℕ → List ℕ
method_text name = codes "CPyDef_" ++ name

abbrev pub methods_text : List (List ℕ) → List ℕ
methods_text names = braced (map method_text names)

abbrev pub trait_text : List ℕ × List (List ℕ) → List ℕ
trait_text t = braced (type_text t.0 ∷ methods_text t.1 ∷ [])

-- the line of a class: its name, its attributes, its methods and its traits
abbrev pub class_text : CClass → List ℕ
class_text k =
    braced (quoted k.name ∷ braced (map attribute_text k.attrs) ∷ methods_text k.methods ∷ braced (map trait_text k.traits) ∷ [])

abbrev pub class_line : CClass → List ℕ
class_line k = codes "CPyClass CPyType_" ++ (k.name ++ (codes " = " ++ (class_text k ++ codes ";")))

-- the lines of a code's text
abbrev pub code_lines : Code → List (List ℕ)
code_lines code = first_line ∷ (global_lines code.globals ++ (map class_line code.classes ++ function_lines code.funcs))

-- lines as a text: each has its line feed
abbrev pub text_of : List (List ℕ) → List ℕ
text_of [] = []
text_of (line ∷ lines) = line ++ (line_feed ∷ text_of lines)

-- the text of a code
abbrev pub code_text : Code → List ℕ
code_text code = text_of (code_lines code)
