-- The C texts of two modules, computed: what their text is, that their classes and functions are well formed, and how they run.
use Rattle.std.proofs.Common.{◌≡◌, refl, true, List, [], ◌∷◌, ◌++◌, Option, Some, None}
use Rattle.std.specs.Prelude.{ℕ, pos, codes}
use Rattle.std.specs.Fmt.{digits}
use Rattle.std.specs.Option.{option_map}
use Rattle.value_core.specs.Ending.{Done, Cut}
use Rattle.value_core.specs.Items.{Eof}
use Rattle.c_core.specs.declared.code.Kind.TheVariants.{Tagged, Char, Object}
use Rattle.c_core.specs.declared.code.CLit.TheVariants.{Number, Null, PyNone}
use Rattle.c_core.specs.declared.code.CArg.TheVariants as arg
use Rattle.c_core.specs.declared.code.Line.{Line}
use Rattle.c_core.specs.declared.code.Line.TheVariants.{Label, Move, Lit, Call, Goto, If, IfError, Turn, Return, Inc, Dec}
use Rattle.c_core.specs.declared.code.CClass.{CClass}
use Rattle.c_core.specs.declared.code.CFunc.{CFunc}
use Rattle.c_core.specs.declared.code.Code.{Code}
use Rattle.c_core.specs.Cells as cells
use Rattle.c_core.specs.Cells.{Cells}
use Rattle.c_core.specs.Machine.{ObjectCell, NoneObject, Content, InstCell}
use Rattle.c_core.specs.Step.{MachineEnding, Ended}
use Rattle.c_core.specs.Run.{machine_run}
use Rattle.c_core.specs.Text.{code_text}
use Rattle.c_core.specs.WellFormed.{classes_fit, functions_fit}

-- how a run of a code for some turns ends, what it writes, and the cells that it leaves
abbrev seen : ℕ → Code → Option (MachineEnding × List ℕ × Cells Content)
seen turns code = option_map (λ stop. (stop.ending, stop.state.output, stop.state.cells)) (machine_run turns Eof code)

abbrev once : Content → Option (cells.Cell Content)
once content = Some (record { count = 1; content = content })

-- ---- an exception that leaves a list half made
-- a class with one attribute, the number with which it is made
abbrev raising_class : CClass
raising_class = record { name = codes "A"; attrs = (codes "n", Tagged) ∷ []; methods = []; traits = [] }

-- what makes an object, with its number
abbrev raising_made : CFunc
raising_made = record {
  name = codes "1A___init__";
  ret = Object;
  params = 2;
  vars = (codes "r_self", Object) ∷ (codes "r_n", Tagged) ∷ (codes "t_0", Object) ∷ [];
  lines =
      Turn ∷ Inc 1 ∷ Call None (codes "CPyAttr_Set") (arg.Var 0 ∷ arg.Number (pos 0) ∷ arg.Var 1 ∷ []) ∷ Lit 2 PyNone ∷ Return 2 ∷
      [];
}

-- the third item, which raises ValueError("no")
abbrev raising_third : CFunc
raising_third = record {
  name = codes "c";
  ret = Object;
  params = 0;
  vars = (codes "t_0", Object) ∷ (codes "t_1", Object) ∷ (codes "t_2", Object) ∷ [];
  lines =
      Turn ∷ Call (Some 0) (codes "CPyStr_Literal") (arg.Text (codes "no") ∷ []) ∷ Call (Some 1) (codes "CPyExc_New") (arg.Text (codes "ValueError") ∷ arg.Var 0 ∷ []) ∷ Dec 0 ∷ Call None (codes "CPyErr_SetObject") (arg.Var 1 ∷ []) ∷ Lit 2 Null ∷ Return 2 ∷
      [];
}

-- the list [A(1), A(2), c()], of which the third item raises: what stands of it is given up
abbrev raising_go : CFunc
raising_go = record {
  name = codes "go";
  ret = Object;
  params = 0;
  vars = (codes "r_xs", Object) ∷ (codes "t_0", Object) ∷ (codes "t_1", Tagged) ∷ (codes "t_2", Object) ∷ (codes "t_3", Object) ∷ (codes "t_4", Tagged) ∷ (codes "t_5", Object) ∷ (codes "t_6", Object) ∷ (codes "t_7", Object) ∷ (codes "t_8", Tagged) ∷ (codes "t_9", Object) ∷ (codes "t_10", Object) ∷ (codes "t_11", Object) ∷ [];
  lines =
      Turn ∷ Call (Some 1) (codes "CPyInstance_New") (arg.Class (codes "A") ∷ []) ∷ Lit 2 (Number (pos 2)) ∷ Call (Some 3) (codes "CPyDef_1A___init__") (arg.Var 1 ∷ arg.Var 2 ∷ []) ∷ IfError 3 4 0 ∷
      Label ∷ Call (Some 4) (codes "CPyInstance_New") (arg.Class (codes "A") ∷ []) ∷ Lit 5 (Number (pos 4)) ∷ Call (Some 6) (codes "CPyDef_1A___init__") (arg.Var 4 ∷ arg.Var 5 ∷ []) ∷ IfError 6 3 1 ∷
      Label ∷ Call (Some 7) (codes "CPyDef_c") [] ∷ IfError 7 3 2 ∷
      Label ∷ Call (Some 8) (codes "CPyList_New") [] ∷ Call None (codes "CPyList_Append") (arg.Var 8 ∷ arg.Var 1 ∷ []) ∷ Call None (codes "CPyList_Append") (arg.Var 8 ∷ arg.Var 4 ∷ []) ∷ Call None (codes "CPyList_Append") (arg.Var 8 ∷ arg.Var 7 ∷ []) ∷ Move 0 8 ∷ Call (Some 9) (codes "CPyList_Len") (arg.Var 0 ∷ []) ∷ Dec 0 ∷ Call (Some 10) (codes "CPyTagged_Str") (arg.Var 9 ∷ []) ∷ Dec 9 ∷ Call None (codes "CPy_Write") (arg.Var 10 ∷ []) ∷ Dec 10 ∷ Call (Some 11) (codes "CPyStr_Literal") (arg.Text (10 ∷ []) ∷ []) ∷ Call None (codes "CPy_Write") (arg.Var 11 ∷ []) ∷ Dec 11 ∷ Lit 12 PyNone ∷ Return 12 ∷
      Label ∷ Dec 4 ∷ Goto 4 ∷
      Label ∷ Dec 1 ∷ Lit 12 Null ∷ Return 12 ∷
      [];
}

-- calls it, catches what it raises and writes its text
abbrev raising_module : CFunc
raising_module = record {
  name = [];
  ret = Char;
  params = 0;
  vars = (codes "t_0", Object) ∷ (codes "t_1", Char) ∷ (codes "t_2", Object) ∷ (codes "t_3", Object) ∷ (codes "t_4", Object) ∷ (codes "t_5", Object) ∷ (codes "t_6", Char) ∷ [];
  lines =
      Call (Some 0) (codes "CPyDef_go") [] ∷ IfError 0 0 3 ∷
      Label ∷ Call (Some 1) (codes "CPyErr_Matches") (arg.Text (codes "ValueError") ∷ []) ∷ If 1 1 4 ∷
      Label ∷ Call (Some 2) (codes "CPyErr_Catch") [] ∷ Call None (codes "CPyGlobal_Set") (arg.Global (codes "e") ∷ arg.Var 2 ∷ []) ∷ Call (Some 3) (codes "CPyGlobal_Get") (arg.Global (codes "e") ∷ []) ∷ IfError 3 4 2 ∷
      Label ∷ Call (Some 4) (codes "CPyExc_Str") (arg.Var 3 ∷ []) ∷ Dec 3 ∷ Call None (codes "CPy_Write") (arg.Var 4 ∷ []) ∷ Dec 4 ∷ Call (Some 5) (codes "CPyStr_Literal") (arg.Text (10 ∷ []) ∷ []) ∷ Call None (codes "CPy_Write") (arg.Var 5 ∷ []) ∷ Dec 5 ∷ Call None (codes "CPyGlobal_Clear") (arg.Global (codes "e") ∷ []) ∷
      Label ∷ Lit 6 (Number (pos 1)) ∷ Return 6 ∷
      Label ∷ Lit 6 (Number (pos 2)) ∷ Return 6 ∷
      [];
}

abbrev raising : Code
raising = record { globals = (codes "e", Object) ∷ []; classes = raising_class ∷ []; funcs = raising_made ∷ raising_third ∷ raising_go ∷ raising_module ∷ [] }

raising_text : code_text raising ≡
    codes "/* mypyc subset 1 */\n"
    ++ codes "PyObject *CPyStatic_e;\n"
    ++ codes "CPyClass CPyType_A = {\"A\", {{\"n\", CPyTagged}}, {}, {}};\n"
    ++ codes "PyObject *CPyDef_1A___init__(PyObject *cpy_r_self, CPyTagged cpy_r_n) {\n"
    ++ codes "    PyObject *cpy_t_0;\n"
    ++ codes "    CPyTurn();\n"
    ++ codes "    CPyTagged_INCREF(cpy_r_n);\n"
    ++ codes "    CPyAttr_Set(cpy_r_self, 0, cpy_r_n);\n"
    ++ codes "    cpy_t_0 = Py_None;\n"
    ++ codes "    return cpy_t_0;\n"
    ++ codes "}\n"
    ++ codes "PyObject *CPyDef_c(void) {\n"
    ++ codes "    PyObject *cpy_t_0;\n"
    ++ codes "    PyObject *cpy_t_1;\n"
    ++ codes "    PyObject *cpy_t_2;\n"
    ++ codes "    CPyTurn();\n"
    ++ codes "    cpy_t_0 = CPyStr_Literal(\"no\");\n"
    ++ codes "    cpy_t_1 = CPyExc_New(\"ValueError\", cpy_t_0);\n"
    ++ codes "    CPy_DECREF(cpy_t_0);\n"
    ++ codes "    CPyErr_SetObject(cpy_t_1);\n"
    ++ codes "    cpy_t_2 = NULL;\n"
    ++ codes "    return cpy_t_2;\n"
    ++ codes "}\n"
    ++ codes "PyObject *CPyDef_go(void) {\n"
    ++ codes "    PyObject *cpy_r_xs;\n"
    ++ codes "    PyObject *cpy_t_0;\n"
    ++ codes "    CPyTagged cpy_t_1;\n"
    ++ codes "    PyObject *cpy_t_2;\n"
    ++ codes "    PyObject *cpy_t_3;\n"
    ++ codes "    CPyTagged cpy_t_4;\n"
    ++ codes "    PyObject *cpy_t_5;\n"
    ++ codes "    PyObject *cpy_t_6;\n"
    ++ codes "    PyObject *cpy_t_7;\n"
    ++ codes "    CPyTagged cpy_t_8;\n"
    ++ codes "    PyObject *cpy_t_9;\n"
    ++ codes "    PyObject *cpy_t_10;\n"
    ++ codes "    PyObject *cpy_t_11;\n"
    ++ codes "    CPyTurn();\n"
    ++ codes "    cpy_t_0 = CPyInstance_New(CPyType_A);\n"
    ++ codes "    cpy_t_1 = 2;\n"
    ++ codes "    cpy_t_2 = CPyDef_1A___init__(cpy_t_0, cpy_t_1);\n"
    ++ codes "    if (cpy_t_2 == NULL) goto CPyL4; else goto CPyL0;\n"
    ++ codes "CPyL0: ;\n"
    ++ codes "    cpy_t_3 = CPyInstance_New(CPyType_A);\n"
    ++ codes "    cpy_t_4 = 4;\n"
    ++ codes "    cpy_t_5 = CPyDef_1A___init__(cpy_t_3, cpy_t_4);\n"
    ++ codes "    if (cpy_t_5 == NULL) goto CPyL3; else goto CPyL1;\n"
    ++ codes "CPyL1: ;\n"
    ++ codes "    cpy_t_6 = CPyDef_c();\n"
    ++ codes "    if (cpy_t_6 == NULL) goto CPyL3; else goto CPyL2;\n"
    ++ codes "CPyL2: ;\n"
    ++ codes "    cpy_t_7 = CPyList_New();\n"
    ++ codes "    CPyList_Append(cpy_t_7, cpy_t_0);\n"
    ++ codes "    CPyList_Append(cpy_t_7, cpy_t_3);\n"
    ++ codes "    CPyList_Append(cpy_t_7, cpy_t_6);\n"
    ++ codes "    cpy_r_xs = cpy_t_7;\n"
    ++ codes "    cpy_t_8 = CPyList_Len(cpy_r_xs);\n"
    ++ codes "    CPy_DECREF(cpy_r_xs);\n"
    ++ codes "    cpy_t_9 = CPyTagged_Str(cpy_t_8);\n"
    ++ codes "    CPyTagged_DECREF(cpy_t_8);\n"
    ++ codes "    CPy_Write(cpy_t_9);\n"
    ++ codes "    CPy_DECREF(cpy_t_9);\n"
    ++ codes "    cpy_t_10 = CPyStr_Literal(\"\\n\");\n"
    ++ codes "    CPy_Write(cpy_t_10);\n"
    ++ codes "    CPy_DECREF(cpy_t_10);\n"
    ++ codes "    cpy_t_11 = Py_None;\n"
    ++ codes "    return cpy_t_11;\n"
    ++ codes "CPyL3: ;\n"
    ++ codes "    CPy_DECREF(cpy_t_3);\n"
    ++ codes "    goto CPyL4;\n"
    ++ codes "CPyL4: ;\n"
    ++ codes "    CPy_DECREF(cpy_t_0);\n"
    ++ codes "    cpy_t_11 = NULL;\n"
    ++ codes "    return cpy_t_11;\n"
    ++ codes "}\n"
    ++ codes "char CPyModule(void) {\n"
    ++ codes "    PyObject *cpy_t_0;\n"
    ++ codes "    char cpy_t_1;\n"
    ++ codes "    PyObject *cpy_t_2;\n"
    ++ codes "    PyObject *cpy_t_3;\n"
    ++ codes "    PyObject *cpy_t_4;\n"
    ++ codes "    PyObject *cpy_t_5;\n"
    ++ codes "    char cpy_t_6;\n"
    ++ codes "    cpy_t_0 = CPyDef_go();\n"
    ++ codes "    if (cpy_t_0 == NULL) goto CPyL0; else goto CPyL3;\n"
    ++ codes "CPyL0: ;\n"
    ++ codes "    cpy_t_1 = CPyErr_Matches(\"ValueError\");\n"
    ++ codes "    if (cpy_t_1) goto CPyL1; else goto CPyL4;\n"
    ++ codes "CPyL1: ;\n"
    ++ codes "    cpy_t_2 = CPyErr_Catch();\n"
    ++ codes "    CPyGlobal_Set(CPyStatic_e, cpy_t_2);\n"
    ++ codes "    cpy_t_3 = CPyGlobal_Get(CPyStatic_e);\n"
    ++ codes "    if (cpy_t_3 == NULL) goto CPyL4; else goto CPyL2;\n"
    ++ codes "CPyL2: ;\n"
    ++ codes "    cpy_t_4 = CPyExc_Str(cpy_t_3);\n"
    ++ codes "    CPy_DECREF(cpy_t_3);\n"
    ++ codes "    CPy_Write(cpy_t_4);\n"
    ++ codes "    CPy_DECREF(cpy_t_4);\n"
    ++ codes "    cpy_t_5 = CPyStr_Literal(\"\\n\");\n"
    ++ codes "    CPy_Write(cpy_t_5);\n"
    ++ codes "    CPy_DECREF(cpy_t_5);\n"
    ++ codes "    CPyGlobal_Clear(CPyStatic_e);\n"
    ++ codes "CPyL3: ;\n"
    ++ codes "    cpy_t_6 = 1;\n"
    ++ codes "    return cpy_t_6;\n"
    ++ codes "CPyL4: ;\n"
    ++ codes "    cpy_t_6 = 2;\n"
    ++ codes "    return cpy_t_6;\n"
    ++ codes "}\n"
unfolding digits
raising_text = refl

-- its class and its functions are well formed
raising_fits : (classes_fit raising ≡ true) × (functions_fit raising ≡ true)
raising_fits = (refl, refl)

-- the text is written, and all six cells are gone: two objects, two texts of the exception, the exception, a line feed
raising_runs : seen 4 raising ≡ Some (Ended Done, codes "no\n", None ∷ None ∷ None ∷ None ∷ None ∷ None ∷ [])
raising_runs = refl

-- ---- two objects that hold each other
-- a class whose one attribute is another node, or None
abbrev ring_class : CClass
ring_class = record { name = codes "Node"; attrs = (codes "next", Object) ∷ []; methods = []; traits = [] }

-- what makes a node, with no next one
abbrev ring_made : CFunc
ring_made = record {
  name = codes "4Node___init__";
  ret = Object;
  params = 1;
  vars = (codes "r_self", Object) ∷ (codes "t_0", Object) ∷ [];
  lines =
      Turn ∷ Lit 1 PyNone ∷ Call None (codes "CPyAttr_Set") (arg.Var 0 ∷ arg.Number (pos 0) ∷ arg.Var 1 ∷ []) ∷ Return 1 ∷
      [];
}

-- x.next = y and y.next = x
abbrev ring_link : CFunc
ring_link = record {
  name = codes "link";
  ret = Object;
  params = 2;
  vars = (codes "r_x", Object) ∷ (codes "r_y", Object) ∷ (codes "t_0", Object) ∷ [];
  lines =
      Turn ∷ Inc 1 ∷ Call None (codes "CPyAttr_Set") (arg.Var 0 ∷ arg.Number (pos 0) ∷ arg.Var 1 ∷ []) ∷ Inc 0 ∷ Call None (codes "CPyAttr_Set") (arg.Var 1 ∷ arg.Number (pos 0) ∷ arg.Var 0 ∷ []) ∷ Lit 2 PyNone ∷ Return 2 ∷
      [];
}

-- makes two nodes and links them
abbrev ring_go : CFunc
ring_go = record {
  name = codes "go";
  ret = Object;
  params = 0;
  vars = (codes "r_p", Object) ∷ (codes "r_q", Object) ∷ (codes "t_0", Object) ∷ [];
  lines =
      Turn ∷ Call (Some 0) (codes "CPyInstance_New") (arg.Class (codes "Node") ∷ []) ∷ Call (Some 2) (codes "CPyDef_4Node___init__") (arg.Var 0 ∷ []) ∷ IfError 2 3 0 ∷
      Label ∷ Call (Some 1) (codes "CPyInstance_New") (arg.Class (codes "Node") ∷ []) ∷ Call (Some 2) (codes "CPyDef_4Node___init__") (arg.Var 1 ∷ []) ∷ IfError 2 2 1 ∷
      Label ∷ Call (Some 2) (codes "CPyDef_link") (arg.Var 0 ∷ arg.Var 1 ∷ []) ∷ Goto 2 ∷
      Label ∷ Dec 1 ∷ Goto 3 ∷
      Label ∷ Dec 0 ∷ Return 2 ∷
      [];
}

abbrev ring_module : CFunc
ring_module = record {
  name = [];
  ret = Char;
  params = 0;
  vars = (codes "t_0", Object) ∷ (codes "t_1", Char) ∷ [];
  lines =
      Call (Some 0) (codes "CPyDef_go") [] ∷ IfError 0 0 1 ∷
      Label ∷ Lit 1 (Number (pos 2)) ∷ Return 1 ∷
      Label ∷ Lit 1 (Number (pos 1)) ∷ Return 1 ∷
      [];
}

abbrev ring : Code
ring = record { globals = []; classes = ring_class ∷ []; funcs = ring_made ∷ ring_link ∷ ring_go ∷ ring_module ∷ [] }

ring_text : code_text ring ≡
    codes "/* mypyc subset 1 */\n"
    ++ codes "CPyClass CPyType_Node = {\"Node\", {{\"next\", PyObject *}}, {}, {}};\n"
    ++ codes "PyObject *CPyDef_4Node___init__(PyObject *cpy_r_self) {\n"
    ++ codes "    PyObject *cpy_t_0;\n"
    ++ codes "    CPyTurn();\n"
    ++ codes "    cpy_t_0 = Py_None;\n"
    ++ codes "    CPyAttr_Set(cpy_r_self, 0, cpy_t_0);\n"
    ++ codes "    return cpy_t_0;\n"
    ++ codes "}\n"
    ++ codes "PyObject *CPyDef_link(PyObject *cpy_r_x, PyObject *cpy_r_y) {\n"
    ++ codes "    PyObject *cpy_t_0;\n"
    ++ codes "    CPyTurn();\n"
    ++ codes "    CPy_INCREF(cpy_r_y);\n"
    ++ codes "    CPyAttr_Set(cpy_r_x, 0, cpy_r_y);\n"
    ++ codes "    CPy_INCREF(cpy_r_x);\n"
    ++ codes "    CPyAttr_Set(cpy_r_y, 0, cpy_r_x);\n"
    ++ codes "    cpy_t_0 = Py_None;\n"
    ++ codes "    return cpy_t_0;\n"
    ++ codes "}\n"
    ++ codes "PyObject *CPyDef_go(void) {\n"
    ++ codes "    PyObject *cpy_r_p;\n"
    ++ codes "    PyObject *cpy_r_q;\n"
    ++ codes "    PyObject *cpy_t_0;\n"
    ++ codes "    CPyTurn();\n"
    ++ codes "    cpy_r_p = CPyInstance_New(CPyType_Node);\n"
    ++ codes "    cpy_t_0 = CPyDef_4Node___init__(cpy_r_p);\n"
    ++ codes "    if (cpy_t_0 == NULL) goto CPyL3; else goto CPyL0;\n"
    ++ codes "CPyL0: ;\n"
    ++ codes "    cpy_r_q = CPyInstance_New(CPyType_Node);\n"
    ++ codes "    cpy_t_0 = CPyDef_4Node___init__(cpy_r_q);\n"
    ++ codes "    if (cpy_t_0 == NULL) goto CPyL2; else goto CPyL1;\n"
    ++ codes "CPyL1: ;\n"
    ++ codes "    cpy_t_0 = CPyDef_link(cpy_r_p, cpy_r_q);\n"
    ++ codes "    goto CPyL2;\n"
    ++ codes "CPyL2: ;\n"
    ++ codes "    CPy_DECREF(cpy_r_q);\n"
    ++ codes "    goto CPyL3;\n"
    ++ codes "CPyL3: ;\n"
    ++ codes "    CPy_DECREF(cpy_r_p);\n"
    ++ codes "    return cpy_t_0;\n"
    ++ codes "}\n"
    ++ codes "char CPyModule(void) {\n"
    ++ codes "    PyObject *cpy_t_0;\n"
    ++ codes "    char cpy_t_1;\n"
    ++ codes "    cpy_t_0 = CPyDef_go();\n"
    ++ codes "    if (cpy_t_0 == NULL) goto CPyL0; else goto CPyL1;\n"
    ++ codes "CPyL0: ;\n"
    ++ codes "    cpy_t_1 = 2;\n"
    ++ codes "    return cpy_t_1;\n"
    ++ codes "CPyL1: ;\n"
    ++ codes "    cpy_t_1 = 1;\n"
    ++ codes "    return cpy_t_1;\n"
    ++ codes "}\n"
unfolding digits
ring_text = refl

-- its class and its functions are well formed
ring_fits : (classes_fit ring ≡ true) × (functions_fit ring ≡ true)
ring_fits = (refl, refl)

-- with four turns both stay, held by each other alone
ring_runs : seen 4 ring ≡ Some (Ended Done, [], once (InstCell 0 (Some (ObjectCell 1) ∷ [])) ∷ once (InstCell 0 (Some (ObjectCell 0) ∷ [])) ∷ [])
ring_runs = refl

-- with three it ends at the entry to what links them
ring_cut : seen 3 ring ≡ Some (Ended Cut, [], once (InstCell 0 (Some NoneObject ∷ [])) ∷ once (InstCell 0 (Some NoneObject ∷ [])) ∷ [])
ring_cut = refl
