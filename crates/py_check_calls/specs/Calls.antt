-- Calls (Python Language Reference, "Calls").
--
-- No argument has a key; what is called can be called; a value has the method that is called; a class is no trait; the number of
-- arguments is right; each one fits; and where the call is used as a value it gives one. A function, a method of a class, a class and
-- `super().__init__` take arguments by one rule, of a name and a signature.
use Rattle.std.specs.Prelude.{ℕ, ◌+◌, Bool, ◌==◌, List, [], codes, length, Option, Some, None, Result, Ok, Err, slice_get, if◌then◌else◌}
use Rattle.std.specs.Str.{bytes_eq}
use Rattle.std.specs.Fmt.{decimal}
use Rattle.py_syntax.specs.declared.token.Span.{Span}
use Rattle.py_typed.specs.Sorts.{Sort, Instance, Nothing}
use Rattle.py_typed.specs.Classes.{ClassEntry, Signature}
use Rattle.py_typed.specs.TypeTexts.{type_text}
use Rattle.py_typed.specs.Expressions as node
use Rattle.py_typed.specs.Expressions.{TypedExpr, TypedNode, TypedExprs, typed, type_of, exprs_of}
use Rattle.py_check_context.specs.Context.{Context, some_signature, Wanted, WantedRow, along}
use Rattle.py_check_messages.specs.Seen.{Seen, Message, silent, ruled, behind, rule, made}
use Rattle.py_check_messages.specs.Messages.{keyword_argument, not_callable, no_instance, range_outside_for, wrong_number, wrong_argument, gives_nothing, no_attribute, none_has_no_attribute}
use Rattle.py_check_coercions.specs.Several.{with_part}
use Rattle.py_check_coercions.specs.Rows.{Misfit, unfit, changed_row}
use Rattle.py_check_calls.specs.Callees.{Callee, function, class, trait, super_init, print, input, range, single, exception, method, voiceless, uncalled, value}
use Rattle.py_check_calls.specs.Builtins.{gives_value, print_call, input_call, single_call}
use Rattle.py_check_calls.specs.Exceptions.{exception_call}
use Rattle.py_check_calls.specs.Methods.{Had, has_attribute, has_method, has_append, has_pop, has_untyped, none_has_not, has_not, look_up, method_row, append_call, pop_call}

-- what the arguments are there for, by what is called and the typed part of it
abbrev pub arguments_row : Context → Callee → Option TypedExpr → WantedRow
arguments_row c (function x i s) part = along s.params
arguments_row c (class x n params) part = along params
arguments_row c (trait x params) part = along params
arguments_row c (super_init next params) part = along params
arguments_row c (method m) (Some e) = method_row c m (type_of e)
arguments_row c (method m) None = along []
arguments_row c print part = along []
arguments_row c input part = along []
arguments_row c range part = along []
arguments_row c (single f) part = along []
arguments_row c (exception x) part = along []
arguments_row c voiceless part = along []
arguments_row c uncalled part = along []
arguments_row c value part = along []

-- the arguments, where none has a key
abbrev pub no_keys : Bool → List TypedExpr → Result (List TypedExpr) Message
no_keys keyed es = if keyed then Err keyword_argument else Ok es

abbrev pub positional : Span → Bool → Option (List TypedExpr) → Seen (List TypedExpr)
positional span keyed args = ruled span (no_keys keyed) args

abbrev pub refused : Message → List TypedExpr → Result TypedExpr Message
refused m es = Err m

-- ---- what takes arguments by a name and a signature

abbrev pub takes : List Sort → Sort → Signature
takes params ret = record { params = params; ret = ret }

module _ (classes : List ClassEntry) where
  abbrev pub argument_fault : List ℕ → Misfit → Message
  argument_fault f u = wrong_argument classes (u.place + 1) f u.found (type_text classes u.asked)

  abbrev pub fitting : Wanted → List ℕ → Signature → List TypedExpr → Option Misfit → Result (List TypedExpr) Message
  fitting w f s es (Some u) = Err (argument_fault f u)
  fitting w f s es None = if gives_value w s.ret then Ok (changed_row (along s.params) 0 es) else Err (gives_nothing f)

  -- the arguments, each as its parameter asks, where they are right and a call that gives this may stand there
  abbrev pub taken : Wanted → List ℕ → Signature → List TypedExpr → Result (List TypedExpr) Message
  taken w f s es =
      if length es == length s.params then fitting w f s es (unfit classes (along s.params) 0 es)
      else Err (wrong_number f (decimal (length s.params)))

abbrev pub init_name : List ℕ
init_name = codes "__init__"

-- what is made of them
abbrev pub call_made : Span → Signature → (TypedExprs → TypedNode) → List TypedExpr → TypedExpr
call_made span s make es = typed (make (exprs_of es)) s.ret span

module _ (c : Context) where
  -- THE CALL by a name and a signature, of which this is made
  abbrev pub call_of : Wanted → Span → List ℕ → Signature → (TypedExprs → TypedNode) → Option (List TypedExpr) → Seen TypedExpr
  call_of w span f s make args = made (call_made span s make) (ruled span (taken c.classes w f s) args)

  abbrev pub call_by : Wanted → Span → Bool → List ℕ → Signature → (TypedExprs → TypedNode) → Option (List TypedExpr) → Seen TypedExpr
  call_by w span keyed f s make args = behind (positional span keyed args) (call_of w span f s make)

  -- ---- methods of values

  -- a method, by its signature if it has one
  abbrev pub signed_call : Wanted → Span → Bool → List ℕ → TypedExpr → Option Signature → Option (List TypedExpr) → Seen TypedExpr
  signed_call w span keyed m e None args = silent
  signed_call w span keyed m e (Some s) args = call_by w span keyed m s (node.Method e m) args

  -- by what the value has under the name
  abbrev pub had_call : Wanted → Span → Bool → List ℕ → TypedExpr → Had → Option (List TypedExpr) → Seen TypedExpr
  had_call w span keyed m e (has_method f) args = signed_call w span keyed m e (some_signature (slice_get c.signatures f)) args
  had_call w span keyed m e (has_append t) args = rule span (append_call c.classes w span e t) (positional span keyed args)
  had_call w span keyed m e (has_pop t) args = rule span (pop_call span e t) (positional span keyed args)
  had_call w span keyed m e (has_attribute t) args = rule span (refused not_callable) (positional span keyed args)
  had_call w span keyed m e has_untyped args = silent
  had_call w span keyed m e none_has_not args = rule span (refused (none_has_no_attribute c.classes (type_of e) m)) (positional span keyed args)
  had_call w span keyed m e has_not args = rule span (refused (no_attribute c.classes (type_of e) m)) (positional span keyed args)

  -- `__init__` is not called by its name
  abbrev pub method_call : Wanted → Span → Bool → List ℕ → TypedExpr → Option (List TypedExpr) → Seen TypedExpr
  method_call w span keyed m e args =
      if bytes_eq m (codes "__init__") then rule span (refused not_callable) (positional span keyed args)
      else had_call w span keyed m e (look_up c.member (type_of e) m) args

  -- ---- all calls

  -- by what is called, with the typed part of it, and the arguments
  abbrev pub called : Wanted → Span → Bool → Callee → Option TypedExpr → Option (List TypedExpr) → Seen TypedExpr
  called w span keyed (function x i s) part args = call_by w span keyed x s (node.Call i) args
  called w span keyed (class x n params) part args = call_by w span keyed x (takes params (Instance n)) (node.Make n) args
  called w span keyed (trait x params) part args = rule span (refused (no_instance x)) (positional span keyed args)
  called w span keyed (super_init next params) part args = call_by w span keyed init_name (takes params Nothing) (node.SuperInit next) args
  called w span keyed print part args = rule span (print_call c.classes w span) (positional span keyed args)
  called w span keyed input part args = rule span (input_call span) (positional span keyed args)
  called w span keyed range part args = rule span (refused range_outside_for) (positional span keyed args)
  called w span keyed (single f) part args = rule span (single_call c.classes f span) (positional span keyed args)
  called w span keyed (exception x) part args = rule span (exception_call c.classes span x) (positional span keyed args)
  called w span keyed (method m) part args = with_part part (λ e. method_call w span keyed m e args)
  called w span keyed voiceless part args = silent
  called w span keyed uncalled part args = rule span (refused not_callable) (positional span keyed args)
  called w span keyed value part args = with_part part (λ e. rule span (refused not_callable) (positional span keyed args))
