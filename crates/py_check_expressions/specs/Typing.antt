-- The typing of expressions, a clause for each kind (PEP 484; Python Language Reference, "Expressions").
--
-- A node is asked for its rule once each part of it has a type, and a broken rule is a diagnostic at the node, which has no type
-- then. Where a part has none, neither has the node, and nothing is said of it. The pairs of a chain of comparisons are asked by
-- themselves.
use Rattle.std.specs.Prelude.{ℕ, suc, true, false, List, [], ◌∷◌, ◌++◌, Option, if◌then◌else◌}
use Rattle.py_syntax.specs.declared.token.Span.{Span}
use Rattle.py_syntax.specs.declared.expression.CmpOp.{CmpOp}
use Rattle.py_syntax.specs.Expressions as tree
use Rattle.py_syntax.specs.Expressions.{ExprTree, ExprNode, at, ExprTrees, no_exprs, expr_then, Comparisons, no_comparisons, comparison_then, Entries, no_entries, entry_then, Arguments, no_arguments, argument_then, keyed_then}
use Rattle.py_typed.specs.Sorts as sort
use Rattle.py_typed.specs.Expressions as node
use Rattle.py_typed.specs.Expressions.{TypedExpr, typed}
use Rattle.py_check_context.specs.Context.{Context, VarSorts, Wanted, free, test, WantedRow, wanted_in}
use Rattle.py_check_messages.specs.Seen.{Seen, is, silent, both, behind, rule, made}
use Rattle.py_check_messages.specs.Rows.{row_then}
use Rattle.py_check_operators.specs.Facts.{facts}
use Rattle.py_check_operators.specs.Names.{named}
use Rattle.py_check_operators.specs.Operators.{negation, affirmation, inversion, arithmetic}
use Rattle.py_check_operators.specs.Chains.{chain_of}
use Rattle.py_check_operators.specs.Choices.{junction, operand, choice}
use Rattle.py_check_displays.specs.Displays.{item_sort, items_row, list_display, parts_row, tuple_display}
use Rattle.py_check_displays.specs.Dicts.{entry_sorts, key_wanted, value_wanted, dict_display}
use Rattle.py_check_displays.specs.Indexing.{literal, indexing}
use Rattle.py_check_calls.specs.Callees.{callee, is_named, is_super_init, has_key}
use Rattle.py_check_calls.specs.Methods.{attribute}
use Rattle.py_check_calls.specs.Calls.{arguments_row, called}

-- how many expressions stand in a row
abbrev pub count : ExprTrees → ℕ
count no_exprs = 0
count (expr_then e more) = suc (count more)

module _ (c : Context) (vars : VarSorts) where
  abbrev mutual
    -- by what the expression is there for, and the locals that are known not to be None
    pub typing : Wanted → List ℕ → ExprTree → Seen TypedExpr
    typing w known (at node span) = node_typing w known span node

    pub node_typing : Wanted → List ℕ → Span → ExprNode → Seen TypedExpr
    node_typing w known span (tree.Int n) = is (typed (node.Int n) sort.Int span)
    node_typing w known span (tree.Str text) = is (typed (node.Str text) sort.Str span)
    node_typing w known span tree.True = is (typed (node.Flag true) sort.Bool span)
    node_typing w known span tree.False = is (typed (node.Flag false) sort.Bool span)
    node_typing w known span tree.Nothing = is (typed node.Nothing sort.Nothing span)
    node_typing w known span (tree.Name x) = named vars known span x (c.meaning x)
    node_typing w known span (tree.Neg e) = rule span (negation c.classes span) (typing free known e)
    node_typing w known span (tree.Plus e) = rule span (affirmation c.classes) (typing free known e)
    node_typing w known span (tree.Not e) = made (inversion span) (typing test known e)
    node_typing w known span (tree.Bin o a b) = rule span (arithmetic c.classes span o) (both (typing free known a) (typing free known b))
    node_typing w known span (tree.Compare e cs) =
        chain_of c.classes span (typing free known e).got (each_operand known cs) ((typing free known e).said ++ (operands known cs).said)
    node_typing w known span (tree.And a b) =
        rule span (junction c.classes w true span) (both (typing (operand w) known a) (typing (operand w) (facts c true a ++ known) b))
    node_typing w known span (tree.Or a b) =
        rule span (junction c.classes w false span) (both (typing (operand w) known a) (typing (operand w) (facts c false a ++ known) b))
    node_typing w known span (tree.Cond a t b) =
        rule span (choice c.classes w span) (both (both (typing free (facts c true t ++ known) a) (typing test known t)) (typing free (facts c false t ++ known) b))
    node_typing w known span (tree.ListOf es) = rule span (list_display c.classes (item_sort w) span) (items (items_row (item_sort w)) 0 known es)
    node_typing w known span (tree.DictOf es) =
        rule span (dict_display c.classes (entry_sorts w) span) (entries (key_wanted (entry_sorts w)) (value_wanted (entry_sorts w)) known es)
    node_typing w known span (tree.TupleOf es) =
        rule span (tuple_display c.classes (parts_row w (count es)) span) (items (parts_row w (count es)) 0 known es)
    node_typing w known span (tree.Index e i) = rule span (indexing c.classes span (literal i)) (both (typing free known e) (typing free known i))
    node_typing w known span (tree.Call f args) =
        behind (part known f) (λ p. behind (arguments (arguments_row c (callee c f) p) 0 known args) (called c w span (has_key args) (callee c f) p))
    node_typing w known span (tree.Attr e a) = behind (typing free known e) (attribute c span a)

    -- expressions in a row, from the place i on
    pub items : WantedRow → ℕ → List ℕ → ExprTrees → Seen (List TypedExpr)
    items row i known no_exprs = is []
    items row i known (expr_then e more) = row_then (typing (wanted_in row i) known e) (items row (suc i) known more)

    -- keys with their values in a row, each key before its value
    pub entries : Wanted → Wanted → List ℕ → Entries → Seen (List (TypedExpr × TypedExpr))
    entries key value known no_entries = is []
    entries key value known (entry_then k e more) = row_then (both (typing key known k) (typing value known e)) (entries key value known more)

    -- the further operands of a chain, in a row and each by itself
    pub operands : List ℕ → Comparisons → Seen (List (CmpOp × TypedExpr))
    operands known no_comparisons = is []
    operands known (comparison_then o e more) = row_then (made (λ t. (o, t)) (typing free known e)) (operands known more)

    pub each_operand : List ℕ → Comparisons → List (CmpOp × Option TypedExpr)
    each_operand known no_comparisons = []
    each_operand known (comparison_then o e more) = (o, (typing free known e).got) ∷ each_operand known more

    -- arguments; a key is not looked at
    pub arguments : WantedRow → ℕ → List ℕ → Arguments → Seen (List TypedExpr)
    arguments row i known no_arguments = is []
    arguments row i known (argument_then e more) = row_then (typing (wanted_in row i) known e) (arguments row (suc i) known more)
    arguments row i known (keyed_then k e more) = row_then (typing (wanted_in row i) known e) (arguments row (suc i) known more)

    -- what is typed of a callee: the value of a method, and what is no name; a variable is read. Of `super().__init__` nothing is
    pub part : List ℕ → ExprTree → Seen TypedExpr
    part known (at node span) = if is_named c node then receiver known node else node_typing free known span node

    pub receiver : List ℕ → ExprNode → Seen TypedExpr
    receiver known (tree.Attr e m) = if is_super_init c (tree.Attr e m) then silent else typing free known e
    receiver known node = silent
