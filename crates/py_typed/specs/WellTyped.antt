-- Which typed statements are well typed: every number names something, and each statement has the parts and the types that its
-- rule asks for.
use Rattle.std.specs.Prelude.{ℕ, Bool, true, false, not, ◌&&◌, ◌||◌, nat_lt, List, [], ◌∷◌, ◌++◌, length, Option, Some, None}
use Rattle.std.specs.List.{list_any, list_all}
use Rattle.std.specs.Str.{bytes_eq}
use Rattle.value_core.specs.declared.exception.ExcClass.TheVariants.{Exception}
use Rattle.py_syntax.specs.declared.expression.BinOp.{BinOp}
use Rattle.py_typed.specs.Sorts as sort
use Rattle.py_typed.specs.Sorts.{Sort, I64, Optional, Instance, Exc, Sorts, no_sorts, sort_then, sorts_of, listed_sorts}
use Rattle.py_typed.specs.Classes.{ClassEntry}
use Rattle.py_typed.specs.Fits.{is_same_type, is_nothing, fits}
use Rattle.py_typed.specs.Expressions.{TypedExpr, type_of}
use Rattle.py_typed.specs.Statements.{Variable, TypedTarget, LocalTarget, GlobalTarget, AttrTarget, ItemTarget, TypedStmt, on_line, TypedAct, Do, Assign, Aug, Del, If, While, ForRange, ForList, ForDict, Try, Raise, Return, Break, Continue, Assert, Pass, TypedSuite, no_stmts, stmt_then, Arms, no_arms, arm_then, Handlers, no_handlers, handler_then, MaybeSuite, no_suite, some_suite, TypedModule}
use Rattle.py_typed.specs.TargetTypes.{attribute_sort, sort_at}
use Rattle.py_typed.specs.TargetTypes.{item_sort, key_sort}
use Rattle.py_typed.specs.Narrowing.{is_in, facts, without, bound_by_all, bound_suite, bound_handlers, bound_last, bound_by_name, after_target, after_parts, part_sorts, after}
use Rattle.py_typed.specs.WellTypedExpr.{is_none_literal, is_exception, is_type, operation_sort, indexed, reads_as, is_typed, is_value}
use Rattle.py_typed.specs.WellTypedExpr as expr

-- ---- names

abbrev pub is_called_in : List (List ℕ) → List ℕ → Bool
is_called_in names x = list_any (bytes_eq x) names

abbrev pub all_differ : List (List ℕ) → Bool
all_differ [] = true
all_differ (x ∷ more) = not (is_called_in more x) && all_differ more

abbrev pub has_statement : TypedSuite → Bool
has_statement no_stmts = false
has_statement (stmt_then s more) = true

-- ---- statements, in a function with these locals, of this result (None at module level)

module _ (m : TypedModule) (locals : List Variable) (init : Option ℕ) (result : Option Sort) where
  abbrev pub classes_of : List ClassEntry
  classes_of = m.classes.classes

  -- the declared type of what is assigned to
  abbrev pub target_type : TypedTarget → Sort
  target_type (LocalTarget i) = sort_at locals i
  target_type (GlobalTarget i) = sort_at m.globals i
  target_type (AttrTarget e name) = attribute_sort classes_of (type_of e) name
  target_type (ItemTarget e i) = item_sort (type_of e)

  abbrev pub is_there : {A : Type 0} → Option A → Bool
  is_there None = false
  is_there (Some a) = true

  -- a list's or a dict's item
  abbrev pub is_assignable : Sort → Sort → Bool
  is_assignable sort.Str i = false
  is_assignable t i = is_there (indexed t i)

  abbrev pub target_typed : List ℕ → TypedTarget → Bool
  target_typed known (LocalTarget i) = nat_lt i (length locals)
  target_typed known (GlobalTarget i) = nat_lt i (length m.globals)
  target_typed known (AttrTarget e name) = is_value m locals init known e && not (is_nothing (attribute_sort classes_of (type_of e) name))
  target_typed known (ItemTarget e i) = is_value m locals init known e && is_value m locals init known i && is_assignable (type_of e) (type_of i)

  -- targets that are bound one behind the other to the parts of a value: each is looked at with what is known once those before
  -- it are bound
  abbrev pub targets_typed : List ℕ → List TypedTarget → List Sort → Bool
  targets_typed known [] ss = true
  targets_typed known (t ∷ ts) [] = target_typed known t && targets_typed known ts []
  targets_typed known (t ∷ ts) (s ∷ ss) = target_typed known t && targets_typed (after_target known t s) ts ss

  abbrev pub is_filled : {A : Type 0} → List A → Bool
  is_filled [] = false
  is_filled (a ∷ more) = true

  abbrev pub is_name : TypedTarget → Bool
  is_name (LocalTarget i) = true
  is_name (GlobalTarget i) = true
  is_name t = false

  -- the type that a target has where it is read
  abbrev pub read_type : List ℕ → TypedTarget → Sort
  read_type known (LocalTarget i) = reads_as (is_in known i) (sort_at locals i)
  read_type known t = target_type t

  abbrev pub is_single : List TypedTarget → Sort → Bool
  is_single (t ∷ []) s = fits classes_of s (target_type t)
  is_single ts s = false

  abbrev pub parts_fit : List TypedTarget → List Sort → Bool
  parts_fit [] [] = true
  parts_fit (t ∷ ts) (s ∷ ss) = fits classes_of s (target_type t) && parts_fit ts ss
  parts_fit ts ss = false

  -- a value of this type for these targets
  abbrev pub binding_fits : List TypedTarget → Sort → Bool
  binding_fits ts s = is_single ts s || parts_fit ts (part_sorts s)

  -- one target has the value's type, after the coercion
  abbrev pub assignment_fits : List TypedTarget → Sort → Bool
  assignment_fits (t ∷ []) s = is_same_type s (target_type t) || (not (fits classes_of s (target_type t)) && parts_fit (t ∷ []) (part_sorts s))
  assignment_fits ts s = parts_fit ts (part_sorts s)

  abbrev pub update_fits : List ℕ → TypedTarget → BinOp → Sort → Sort → Bool
  update_fits known t o operand s = is_type (operation_sort o (read_type known t) operand) s && fits classes_of s (target_type t)

  abbrev pub is_test : List ℕ → TypedExpr → Bool
  is_test known e = expr.is_test m locals init known e

  abbrev pub maybe_of_type : List ℕ → Sort → Option TypedExpr → Bool
  maybe_of_type known t None = true
  maybe_of_type known t (Some e) = is_value m locals init known e && is_same_type (type_of e) t

  abbrev pub return_fits : List ℕ → Option Sort → Option TypedExpr → Bool
  return_fits known None e = false
  return_fits known (Some t) None = is_nothing t
  return_fits known (Some sort.Nothing) (Some e) = is_value m locals init known e && is_none_literal e
  return_fits known (Some t) (Some e) = is_value m locals init known e && is_same_type (type_of e) t

  abbrev pub raise_fits : List ℕ → Bool → Option TypedExpr → Bool
  raise_fits known handling None = handling
  raise_fits known handling (Some e) = is_value m locals init known e && is_exception (type_of e)

  abbrev pub is_range_type : Sort → Bool
  is_range_type t = is_same_type t sort.Int || is_same_type t I64

  abbrev pub is_list_type : Sort → Bool
  is_list_type (sort.ListOf t) = true
  is_list_type t = false

  abbrev pub is_dict_type : Sort → Bool
  is_dict_type (sort.DictOf k t) = true
  is_dict_type t = false

  -- targets that are names, at least one, for items of this type
  abbrev pub items_fit : List ℕ → List TypedTarget → Sort → Bool
  items_fit known ts s = is_filled ts && list_all is_name ts && list_all (target_typed known) ts && binding_fits ts s

  abbrev pub name_fits : Option TypedTarget → Bool
  name_fits None = true
  name_fits (Some t) = is_name t && target_typed [] t && fits classes_of (Exc Exception) (target_type t)

  abbrev pub has_arm : Arms → Bool
  has_arm no_arms = false
  has_arm (arm_then test body more) = true

  abbrev pub has_part : Handlers → MaybeSuite → Bool
  has_part no_handlers no_suite = false
  has_part hs last = true

  -- what is known where a loop's body starts: what it binds is dropped, and its targets are bound
  abbrev pub in_loop_from : List ℕ → List TypedTarget → Sort → TypedSuite → List ℕ
  in_loop_from known ts s body = loop_parts (is_single ts s)
    where
      loop_parts : Bool → List ℕ
      loop_parts true = after_parts (without (bound_by_all ts ++ bound_suite body) known) ts (s ∷ [])
      loop_parts false = after_parts (without (bound_by_all ts ++ bound_suite body) known) ts (part_sorts s)

  -- in a function each body has a statement; one of a module's own may hold imports alone, which have no typed form
  abbrev pub is_body : TypedSuite → Bool
  is_body body = not (is_there result) || has_statement body

  -- with the names known not to be None; whether a loop and whether a handler is around
  abbrev mutual
    pub stmt_typed : List ℕ → Bool → Bool → TypedStmt → Bool
    stmt_typed known looping handling (on_line a line) = act_typed known looping handling a

    pub act_typed : List ℕ → Bool → Bool → TypedAct → Bool
    act_typed known looping handling (Do e) = is_typed m locals init known e
    act_typed known looping handling (Assign ts e) =
        is_value m locals init known e && is_filled ts && targets_typed known ts (part_sorts (type_of e)) && assignment_fits ts (type_of e)
    act_typed known looping handling (Aug t o e s) = is_value m locals init known e && target_typed known t && update_fits known t o (type_of e) s
    act_typed known looping handling (Del e i) = is_value m locals init known e && is_value m locals init known i && is_dict_type (type_of e) && is_there (indexed (type_of e) (type_of i))
    act_typed known looping handling (If arms other) = has_arm arms && arms_typed known looping handling arms (λ there. suite_typed there looping handling other)
    act_typed known looping handling (While test body) =
        is_test (without (bound_suite body) known) test && is_body body && suite_typed (facts true test ++ without (bound_suite body) known) true handling body
    act_typed known looping handling (ForRange ts a b body) =
        is_value m locals init known b && is_range_type (type_of b) && maybe_of_type known (type_of b) a && items_fit known ts (type_of b)
        && is_body body && suite_typed (in_loop_from known ts (type_of b) body) true handling body
    act_typed known looping handling (ForList ts e body) =
        is_value m locals init known e && is_list_type (type_of e) && items_fit known ts (item_sort (type_of e))
        && is_body body && suite_typed (in_loop_from known ts (item_sort (type_of e)) body) true handling body
    act_typed known looping handling (ForDict ts e body) =
        is_value m locals init known e && is_dict_type (type_of e) && items_fit known ts (key_sort (type_of e))
        && is_body body && suite_typed (in_loop_from known ts (key_sort (type_of e)) body) true handling body
    act_typed known looping handling (Try body handlers last) =
        has_part handlers last && is_body body && suite_typed known looping handling body
        && handlers_typed (without (bound_suite body ++ bound_handlers handlers ++ bound_last last) known) looping handlers
        && last_typed (without (bound_suite body ++ bound_handlers handlers ++ bound_last last) known) looping handling last
    act_typed known looping handling (Raise e) = raise_fits known handling e
    act_typed known looping handling (Return e) = return_fits known result e
    act_typed known looping handling Break = looping
    act_typed known looping handling Continue = looping
    act_typed known looping handling (Assert test message) = is_test known test && maybe_of_type known sort.Str message
    act_typed known looping handling Pass = true

    pub suite_typed : List ℕ → Bool → Bool → TypedSuite → Bool
    suite_typed known looping handling no_stmts = true
    suite_typed known looping handling (stmt_then s more) =
        stmt_typed known looping handling s && suite_typed (after is_single known s) looping handling more

    -- behind all tests comes the body of `else`
    pub arms_typed : List ℕ → Bool → Bool → Arms → (List ℕ → Bool) → Bool
    arms_typed known looping handling no_arms other = other known
    arms_typed known looping handling (arm_then test body more) other =
        is_test known test && is_body body && suite_typed (facts true test ++ known) looping handling body && arms_typed (facts false test ++ known) looping handling more other

    -- the exception that a handler names is none that may be None
    pub handlers_typed : List ℕ → Bool → Handlers → Bool
    handlers_typed known looping no_handlers = true
    handlers_typed known looping (handler_then classes name body more) =
        is_filled classes && name_fits name && is_body body && suite_typed (bound_by_name name ++ known) looping true body && handlers_typed known looping more

    pub last_typed : List ℕ → Bool → Bool → MaybeSuite → Bool
    last_typed known looping handling no_suite = true
    last_typed known looping handling (some_suite body) = is_body body && suite_typed known looping handling body
