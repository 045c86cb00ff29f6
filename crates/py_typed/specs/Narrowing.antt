-- Which of a function's own names are known not to be None at a place, by the tests before it; which lists of statements are closed.
use Rattle.std.specs.Prelude.{ℕ, Bool, true, false, not, ◌==◌, ◌&&◌, ◌||◌, if◌then◌else◌, List, [], ◌∷◌, ◌++◌, filter, Option, Some, None}
use Rattle.std.specs.List.{list_any, flat_map}
use Rattle.py_syntax.specs.declared.expression.CmpOp.{CmpOp}
use Rattle.py_syntax.specs.declared.expression.CmpOp.TheVariants as compare
use Rattle.py_typed.specs.Sorts.{Sort, Nothing as NoneSort, Optional, TupleOf, listed_sorts}
use Rattle.py_typed.specs.Expressions.{TypedExpr, typed, TypedNode, Flag, Nothing, Local, Not, Truth, Compare, And, Or, Coerce, Comparisons, no_comparisons, comparison_then, type_of}
use Rattle.py_typed.specs.Statements.{TypedTarget, LocalTarget, GlobalTarget, AttrTarget, ItemTarget, TypedStmt, on_line, TypedAct, Assign, Aug, If, While, ForRange, ForList, ForDict, Try, Raise, Return, Break, Continue, Assert, TypedSuite, no_stmts, stmt_then, Arms, no_arms, arm_then, Handlers, no_handlers, handler_then, MaybeSuite, no_suite, some_suite}

-- ---- sets of locals

abbrev pub is_in : List ℕ → ℕ → Bool
is_in names x = list_any (λ y. y == x) names

abbrev pub shared : List ℕ → List ℕ → List ℕ
shared names others = filter (is_in others) names

abbrev pub without : List ℕ → List ℕ → List ℕ
without gone names = filter (λ x. not (is_in gone x)) names

-- ---- what a test says where it comes out so

abbrev pub none_test : Bool → CmpOp → TypedNode → TypedNode → Comparisons → List ℕ
none_test true compare.IsNot (Local x) Nothing no_comparisons = x ∷ []
none_test false compare.Is (Local x) Nothing no_comparisons = x ∷ []
none_test b op e f more = []

abbrev pub node_of : TypedExpr → TypedNode
node_of (typed e t place) = e

abbrev mutual
  pub facts : Bool → TypedExpr → List ℕ
  facts b (typed e t place) = node_facts b e

  pub node_facts : Bool → TypedNode → List ℕ
  node_facts b (Compare e (comparison_then op f more)) = none_test b op (node_of e) (node_of f) more
  node_facts b (Not e) = facts (not b) e
  node_facts true (And e f) = facts true e ++ facts true f
  node_facts false (And e f) = shared (facts false e) (facts false f)
  node_facts true (Or e f) = shared (facts true e) (facts true f)
  node_facts false (Or e f) = facts false e ++ facts false f
  node_facts b (Truth e) = facts b e
  node_facts b (Coerce e) = facts b e
  node_facts b e = []

-- ---- what a binding does

abbrev pub may_be_none : Sort → Bool
may_be_none NoneSort = true
may_be_none (Optional t) = true
may_be_none t = false

-- the type of a value before it was coerced
abbrev pub own_sort : TypedExpr → Sort
own_sort (typed (Coerce e) t place) = type_of e
own_sort e = type_of e

abbrev pub bound_by : TypedTarget → List ℕ
bound_by (LocalTarget x) = x ∷ []
bound_by (GlobalTarget x) = []
bound_by (AttrTarget e name) = []
bound_by (ItemTarget e i) = []

abbrev pub bound_by_all : List TypedTarget → List ℕ
bound_by_all ts = flat_map bound_by ts

abbrev pub bound_by_name : Option TypedTarget → List ℕ
bound_by_name None = []
bound_by_name (Some t) = bound_by t

-- a name that is bound is known where the value is never None
abbrev pub after_target : List ℕ → TypedTarget → Sort → List ℕ
after_target known t s = if may_be_none s then without (bound_by t) known else bound_by t ++ known

abbrev pub after_parts : List ℕ → List TypedTarget → List Sort → List ℕ
after_parts known (t ∷ ts) (s ∷ ss) = after_parts (after_target known t s) ts ss
after_parts known ts ss = without (bound_by_all ts) known

-- the types of a tuple's parts
abbrev pub part_sorts : Sort → List Sort
part_sorts (TupleOf ss) = listed_sorts ss
part_sorts t = []

-- ---- what statements bind, and how they end

abbrev mutual
  pub bound : TypedStmt → List ℕ
  bound (on_line a line) = bound_in a

  pub bound_in : TypedAct → List ℕ
  bound_in (Assign ts e) = bound_by_all ts
  bound_in (Aug t op e s) = bound_by t
  bound_in (If arms other) = bound_arms arms ++ bound_suite other
  bound_in (While test body) = bound_suite body
  bound_in (ForRange ts a b body) = bound_by_all ts ++ bound_suite body
  bound_in (ForList ts e body) = bound_by_all ts ++ bound_suite body
  bound_in (ForDict ts e body) = bound_by_all ts ++ bound_suite body
  bound_in (Try body handlers last) = bound_suite body ++ bound_handlers handlers ++ bound_last last
  bound_in a = []

  pub bound_suite : TypedSuite → List ℕ
  bound_suite no_stmts = []
  bound_suite (stmt_then s more) = bound s ++ bound_suite more

  pub bound_arms : Arms → List ℕ
  bound_arms no_arms = []
  bound_arms (arm_then test body more) = bound_suite body ++ bound_arms more

  pub bound_handlers : Handlers → List ℕ
  bound_handlers no_handlers = []
  bound_handlers (handler_then classes name body more) = bound_by_name name ++ bound_suite body ++ bound_handlers more

  pub bound_last : MaybeSuite → List ℕ
  bound_last no_suite = []
  bound_last (some_suite body) = bound_suite body

-- a break of the loop that holds the statement
abbrev mutual
  pub breaks : TypedStmt → Bool
  breaks (on_line a line) = breaks_in a

  pub breaks_in : TypedAct → Bool
  breaks_in Break = true
  breaks_in (If arms other) = breaks_arms arms || breaks_suite other
  breaks_in (Try body handlers last) = breaks_suite body || breaks_handlers handlers || breaks_last last
  breaks_in a = false

  pub breaks_suite : TypedSuite → Bool
  breaks_suite no_stmts = false
  breaks_suite (stmt_then s more) = breaks s || breaks_suite more

  pub breaks_arms : Arms → Bool
  breaks_arms no_arms = false
  breaks_arms (arm_then test body more) = breaks_suite body || breaks_arms more

  pub breaks_handlers : Handlers → Bool
  breaks_handlers no_handlers = false
  breaks_handlers (handler_then classes name body more) = breaks_suite body || breaks_handlers more

  pub breaks_last : MaybeSuite → Bool
  breaks_last no_suite = false
  breaks_last (some_suite body) = breaks_suite body

abbrev pub is_true_literal : TypedExpr → Bool
is_true_literal (typed (Flag b) t place) = b
is_true_literal e = false

-- no statement follows a closed one
abbrev mutual
  pub closes : TypedStmt → Bool
  closes (on_line a line) = closes_in a

  pub closes_in : TypedAct → Bool
  closes_in (Return e) = true
  closes_in (Raise e) = true
  closes_in Break = true
  closes_in Continue = true
  closes_in (If arms other) = closed_arms arms && is_closed other
  closes_in (While test body) = is_true_literal test && not (breaks_suite body)
  closes_in (Try body handlers last) = closed_last last || (is_closed body && closed_handlers handlers)
  closes_in a = false

  pub is_closed : TypedSuite → Bool
  is_closed no_stmts = false
  is_closed (stmt_then s more) = closes s || is_closed more

  pub closed_arms : Arms → Bool
  closed_arms no_arms = true
  closed_arms (arm_then test body more) = is_closed body && closed_arms more

  pub closed_handlers : Handlers → Bool
  closed_handlers no_handlers = true
  closed_handlers (handler_then classes name body more) = is_closed body && closed_handlers more

  pub closed_last : MaybeSuite → Bool
  closed_last no_suite = false
  closed_last (some_suite body) = is_closed body

-- ---- what is known behind a statement

abbrev pub or_shared : Option (List ℕ) → List ℕ → Option (List ℕ)
or_shared None names = Some names
or_shared (Some others) names = Some (shared others names)

abbrev pub known_at_end : Option (List ℕ) → List ℕ
known_at_end None = []
known_at_end (Some names) = names

module _ (is_single : List TypedTarget → Sort → Bool) where
  -- one target takes the value, or each its part
  abbrev pub after_binding : List ℕ → List TypedTarget → TypedExpr → List ℕ
  after_binding known ts e = if is_single ts (type_of e) then after_parts known ts (own_sort e ∷ []) else after_parts known ts (part_sorts (type_of e))

  abbrev mutual
    pub after : List ℕ → TypedStmt → List ℕ
    after known (on_line a line) = after_act known a

    pub after_act : List ℕ → TypedAct → List ℕ
    after_act known (Assign ts e) = after_binding known ts e
    after_act known (Aug t op e s) = after_target known t s
    after_act known (If arms other) = known_at_end (after_arms known None arms (λ there ends. if is_closed other then ends else or_shared ends (after_suite there other)))
    after_act known (While test body) =
        (if breaks_suite body then without (bound_suite body) known else facts false test ++ without (bound_suite body) known)
    after_act known (ForRange ts a b body) = without (bound_by_all ts ++ bound_suite body) known
    after_act known (ForList ts e body) = without (bound_by_all ts ++ bound_suite body) known
    after_act known (ForDict ts e body) = without (bound_by_all ts ++ bound_suite body) known
    after_act known (Try body handlers last) = without (bound_suite body ++ bound_handlers handlers ++ bound_last last) known
    after_act known (Assert test message) = facts true test ++ known
    after_act known a = known

    pub after_suite : List ℕ → TypedSuite → List ℕ
    after_suite known no_stmts = known
    after_suite known (stmt_then s more) = after_suite (after known s) more

    -- what the open ends share; the last one is that of `else`
    pub after_arms : List ℕ → Option (List ℕ) → Arms → (List ℕ → Option (List ℕ) → Option (List ℕ)) → Option (List ℕ)
    after_arms known ends no_arms last = last known ends
    after_arms known ends (arm_then test body more) last =
        after_arms (facts false test ++ known) (if is_closed body then ends else or_shared ends (after_suite (facts true test ++ known) body)) more last
