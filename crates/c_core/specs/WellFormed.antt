-- Which codes are spelled, so that their text is C text, and which of them the machine may run.
use Rattle.std.specs.Prelude.{ℕ, ◌+◌, ◌-◌, ◌^◌, nat_lt, nat_le, ◌==◌, pos, Bool, true, false, not, ◌&&◌, ◌||◌, List, [], ◌∷◌, length, map, Option, Some, None, is_some, codes, slice_get, IsTrue}
use Rattle.std.specs.Option.{option_and_then, option_map}
use Rattle.std.specs.List.{list_all, list_any}
use Rattle.std.specs.Str.{bytes_eq, chars, is_utf8}
use Rattle.unicode_ident.specs.Ident.{is_xid_continue}
use Rattle.value_core.specs.Arithmetic.{lies_within}
use Rattle.value_core.specs.Exceptions.{class_named}
use Rattle.c_core.specs.declared.code.Kind.{Kind}
use Rattle.c_core.specs.declared.code.Kind.TheVariants.{Tagged, Char, Object}
use Rattle.c_core.specs.declared.code.CArg.{CArg}
use Rattle.c_core.specs.declared.code.CArg.TheVariants as arg
use Rattle.c_core.specs.declared.code.CLit.{CLit}
use Rattle.c_core.specs.declared.code.CLit.TheVariants.{Number}
use Rattle.c_core.specs.declared.code.Line.{Line}
use Rattle.c_core.specs.declared.code.Line.TheVariants.{Label, Move, Lit, Call, Goto, Virtual, TraitCall, If, IfError, Turn, Return, Inc, Dec, XDec}
use Rattle.c_core.specs.declared.code.CClass.{CClass}
use Rattle.c_core.specs.declared.code.CFunc.{CFunc}
use Rattle.c_core.specs.declared.code.Code.{Code}
use Rattle.c_core.specs.declared.primitive.Primitive.{Primitive}
pub use Rattle.c_core.specs.Functions.{same_kind, has_kind, kinds_agree}
use Rattle.c_core.specs.Functions.{is_turn, label_places, after_prefix, function_named, parameter_kinds}
use Rattle.c_core.specs.Primitives.{KindAt, Is, OfGlobal, OfSlot, Parameter, Borrows, Steals, MaySteal, TakesNumber, TakesPlace, TakesText, TakesDecimal, TakesException, TakesGlobal, TakesClass, Outcome, Nothing, Owned, Lent, Row, may_end, row_of, primitive_named}
use Rattle.c_core.specs.Arguments.{kind_of_global}
use Rattle.c_core.specs.Step.{literal_word}
use Rattle.c_core.specs.Strings.{is_long_decimal}

-- a variable with its name and kind
abbrev pub Declared : Type 0
Declared = List ℕ × Kind

-- ---- spelled

-- a text of one or more characters that may continue an identifier (Unicode Standard Annex 31)
abbrev pub is_identifier : List ℕ → Bool
is_identifier name = is_utf8 name && (not (bytes_eq name []) && list_all is_xid_continue (chars name))

-- `CPy` and an identifier, but none of the words that begin other statements
abbrev pub other_words : List (List ℕ)
other_words =
    codes "CPyVirtual" ∷ codes "CPyTrait" ∷ codes "CPyTurn" ∷ codes "CPy_INCREF" ∷ codes "CPy_DECREF" ∷ codes "CPy_XDECREF"
    ∷ codes "CPyTagged_INCREF" ∷ codes "CPyTagged_DECREF" ∷ codes "CPyTagged_XDECREF" ∷ []

abbrev pub is_some_and : (List ℕ → Bool) → Option (List ℕ) → Bool
is_some_and p None = false
is_some_and p (Some x) = p x

abbrev pub is_call_name : List ℕ → Bool
is_call_name name = is_some_and is_identifier (after_prefix (codes "CPy") name) && not (list_any (bytes_eq name) other_words)

abbrev pub spelled_literal : CLit → Bool
spelled_literal (Number n) = lies_within 63 n
spelled_literal _ = true

-- the number of a label or of a method has a text of its own
abbrev pub spelled_label : ℕ → Bool
spelled_label n = nat_lt n (2 ^ 64)

module _ (vars : List Declared) where
  abbrev pub is_declared : ℕ → Bool
  is_declared x = nat_lt x (length vars)

  abbrev pub kind_at : ℕ → Option Kind
  kind_at x = option_map (λ v. v.1) (slice_get vars x)

  -- a count is of an `int` or of an object
  abbrev pub is_counted_kind : Option Kind → Bool
  is_counted_kind (Some Tagged) = true
  is_counted_kind (Some Object) = true
  is_counted_kind _ = false

  abbrev pub spelled_arg : CArg → Bool
  spelled_arg (arg.Var x) = is_declared x
  spelled_arg (arg.Number n) = lies_within 63 n
  spelled_arg (arg.Text text) = is_utf8 text
  spelled_arg (arg.Global name) = is_identifier name
  spelled_arg (arg.Class name) = is_identifier name

  abbrev pub spelled_target : Option ℕ → Bool
  spelled_target None = true
  spelled_target (Some x) = is_declared x

  abbrev pub spelled_line : Line → Bool
  spelled_line Label = true
  spelled_line (Move x y) = is_declared x && is_declared y
  spelled_line (Lit x l) = is_declared x && spelled_literal l
  spelled_line (Call x name args) = spelled_target x && (is_call_name name && list_all spelled_arg args)
  spelled_line (Virtual x o n args) = is_declared x && (is_declared o && (spelled_label n && list_all is_declared args))
  spelled_line (TraitCall x o t n args) =
      is_declared x && (is_declared o && (is_identifier t && (spelled_label n && list_all is_declared args)))
  spelled_line (Goto n) = spelled_label n
  spelled_line (If x n m) = is_declared x && (spelled_label n && spelled_label m)
  spelled_line (IfError x n m) = is_declared x && (spelled_label n && spelled_label m)
  spelled_line Turn = true
  spelled_line (Return x) = is_declared x
  spelled_line (Inc x) = is_counted_kind (kind_at x)
  spelled_line (Dec x) = is_counted_kind (kind_at x)
  spelled_line (XDec x) = is_counted_kind (kind_at x)

abbrev pub is_char : Kind → Bool
is_char Char = true
is_char _ = false

-- what is between the head of a function and its end
abbrev pub spelled_body : CFunc → Bool
spelled_body g = list_all (λ v. is_identifier v.0) g.vars && list_all (spelled_line g.vars) g.lines

-- the module's own function, which comes last and alone has no name
abbrev pub spelled_top : CFunc → Bool
spelled_top g = bytes_eq g.name [] && (is_char g.ret && ((g.params == 0) && spelled_body g))

-- another function, whose parameters are the first of its variables
abbrev pub spelled_function : CFunc → Bool
spelled_function g = is_identifier g.name && (nat_le g.params (length g.vars) && spelled_body g)

-- functions, of which the last is the module's own
abbrev pub spelled_functions : List CFunc → Bool
spelled_functions [] = false
spelled_functions (g ∷ []) = spelled_top g
spelled_functions (g ∷ h ∷ gs) = spelled_function g && spelled_functions (h ∷ gs)

abbrev pub spelled_globals : List Declared → Bool
spelled_globals vars = list_all (λ v. is_identifier v.0) vars

-- a class, whose attributes may have any names, with the functions of its methods and, for each trait, those of the trait's
abbrev pub spelled_trait : List ℕ × List (List ℕ) → Bool
spelled_trait t = is_identifier t.0 && list_all is_identifier t.1

abbrev pub spelled_class : CClass → Bool
spelled_class k =
    is_identifier k.name && (list_all (λ a. is_utf8 a.0) k.attrs && (list_all is_identifier k.methods && list_all spelled_trait k.traits))

-- Each part of the code stands in its text as C text wants it. Two spelled codes may share a text, where a name is
-- declared twice.
abbrev pub is_spelled : Code → Bool
is_spelled code = spelled_globals code.globals && (list_all spelled_class code.classes && spelled_functions code.funcs)

abbrev pub Spelled : Code → Type 0
Spelled code = IsTrue (is_spelled code)

-- ---- well formed

abbrev pub names_differ : List (List ℕ) → Bool
names_differ [] = true
names_differ (n ∷ ns) = not (list_any (bytes_eq n) ns) && names_differ ns

-- two variables have one kind
abbrev pub same_kinds : Option Kind → Option Kind → Bool
same_kinds None l = false
same_kinds (Some k) l = has_kind k l

-- a literal is one of its variable's kind
abbrev pub literal_fits : CLit → Option Kind → Bool
literal_fits l None = false
literal_fits l (Some k) = is_some (literal_word k l)

-- the kind of the global that a call names first
abbrev pub named_kind : Code → List CArg → Option Kind
named_kind code (arg.Global name ∷ rest) = kind_of_global code name
named_kind code _ = None

-- a variable has the kind that a row of a call with these arguments asks for; the kind of a slot is known only when the
-- call is run
abbrev pub kind_fits : Code → List CArg → KindAt → Option Kind → Bool
kind_fits code args (Is k) l = has_kind k l
kind_fits code args OfGlobal l = kinds_agree (named_kind code args) l
kind_fits code args OfSlot l = is_some l

-- a result of a kind, if there is one, may be left without a target
abbrev pub answers_kind : List Declared → Option Kind → Option ℕ → Bool
answers_kind vars k None = is_some k
answers_kind vars k (Some x) = kinds_agree k (kind_at vars x)

-- an argument of each kind, all of them variables
abbrev pub passes : List Declared → List Kind → List CArg → Bool
passes vars [] [] = true
passes vars (k ∷ ks) (arg.Var x ∷ rest) = has_kind k (kind_at vars x) && passes vars ks rest
passes vars _ _ = false

-- a class and a function of a name are there
abbrev pub has_class : Code → List ℕ → Bool
has_class code name = list_any (λ k. bytes_eq name k.name) code.classes

abbrev pub has_function : Code → List ℕ → Bool
has_function code name = list_any (λ g. bytes_eq name g.name) code.funcs

-- the number of the function that a line calls, if it calls one
abbrev pub callee_of : List CFunc → Line → Option ℕ
callee_of functions (Call x name args) = function_named functions name
callee_of functions _ = None

module _ (code : Code) (vars : List Declared) where
  -- arguments have the number and the kinds that a row asks for, and the globals and classes that they name exist
  abbrev pub arg_fits : List CArg → Parameter → CArg → Bool
  arg_fits args (Borrows k h) (arg.Var x) = kind_fits code args k (kind_at vars x)
  arg_fits args (Steals k h) (arg.Var x) = kind_fits code args k (kind_at vars x)
  arg_fits args (MaySteal k h) (arg.Var x) = kind_fits code args k (kind_at vars x)
  arg_fits args TakesNumber (arg.Number n) = true
  arg_fits args TakesPlace (arg.Number (pos n)) = true
  arg_fits args TakesText (arg.Text text) = true
  arg_fits args TakesDecimal (arg.Text text) = is_long_decimal text
  arg_fits args TakesException (arg.Text text) = is_some (class_named text)
  arg_fits args TakesGlobal (arg.Global name) = is_some (kind_of_global code name)
  arg_fits args TakesClass (arg.Class name) = has_class code name
  arg_fits args _ _ = false

  abbrev pub args_fit : List CArg → List Parameter → List CArg → Bool
  args_fit args [] [] = true
  args_fit args (p ∷ ps) (a ∷ rest) = arg_fits args p a && args_fit args ps rest
  args_fit args (p ∷ ps) [] = may_end (p ∷ ps)
  args_fit args [] (a ∷ rest) = false

  -- a result may be left without a target; a row without a result has none
  abbrev pub target_fits : List CArg → Outcome → Option ℕ → Bool
  target_fits args o None = true
  target_fits args Nothing (Some x) = false
  target_fits args (Owned k) (Some x) = kind_fits code args k (kind_at vars x)
  target_fits args (Lent k) (Some x) = kind_fits code args k (kind_at vars x)

  abbrev pub row_fits : Option ℕ → List CArg → Row → Bool
  row_fits x args r = args_fit args r.parameters args && target_fits args r.outcome x

  -- a function is passed a variable for each parameter, of its kind, and its result is one of a kind too
  abbrev pub function_call_fits : Option ℕ → List CArg → Option CFunc → Bool
  function_call_fits x args None = false
  function_call_fits x args (Some g) = passes vars (parameter_kinds g) args && target_fits args (Owned (Is g.ret)) x

  -- the name of a call is a primitive's, or that of the function of a number
  abbrev pub call_fits : Option ℕ → List CArg → Option Primitive → Option ℕ → Bool
  call_fits x args (Some p) n = row_fits x args (row_of p)
  call_fits x args None n = function_call_fits x args (option_and_then (slice_get code.funcs) n)

  -- Moves, literals, calls and returns fit the declarations of their variables, and calls their rows and functions. What a method
  -- takes and gives is known only when it is called; the trait by which it is called is there.
  abbrev pub line_fits : Kind → Line → Bool
  line_fits ret (Move x y) = same_kinds (kind_at vars x) (kind_at vars y)
  line_fits ret (Lit x l) = literal_fits l (kind_at vars x)
  line_fits ret (Call x name args) = call_fits x args (primitive_named name) (function_named code.funcs name)
  line_fits ret (TraitCall x o t n args) = has_class code t
  line_fits ret (Return x) = has_kind ret (kind_at vars x)
  line_fits ret _ = true

-- ---- jumps
-- a label is there, and below place p
abbrev pub goes_down : ℕ → Option ℕ → Bool
goes_down p None = false
goes_down p (Some q) = nat_lt p q

-- it is there, and below place p, or the line above is a turn
abbrev pub goes_on : ℕ → Bool → Option ℕ → Bool
goes_on p after_turn None = false
goes_on p after_turn (Some q) = nat_lt p q || after_turn

-- among lines whose labels stand at these places
module _ (labels : List ℕ) where
  -- the line at place p; a goto to a label above stands directly behind a turn, and an `if` goes to labels below it alone
  abbrev pub jump_fits : ℕ → Bool → Line → Bool
  jump_fits p after_turn (Goto n) = goes_on p after_turn (slice_get labels n)
  jump_fits p after_turn (If x n m) = goes_down p (slice_get labels n) && goes_down p (slice_get labels m)
  jump_fits p after_turn (IfError x n m) = goes_down p (slice_get labels n) && goes_down p (slice_get labels m)
  jump_fits p after_turn _ = true

  -- the lines from place p on
  abbrev pub jumps_fit : ℕ → Bool → List Line → Bool
  jumps_fit p after_turn [] = true
  jumps_fit p after_turn (l ∷ lines) = jump_fits p after_turn l && jumps_fit (p + 1) (is_turn l) lines

-- the last line of a function leaves it, or goes on elsewhere
abbrev pub is_leaving : Option Line → Bool
is_leaving (Some (Goto n)) = true
is_leaving (Some (If x n m)) = true
is_leaving (Some (IfError x n m)) = true
is_leaving (Some (Return x)) = true
is_leaving _ = false

-- the first line of each function but the module's own, which alone has no name, is a turn
abbrev pub is_turn_at : Option Line → Bool
is_turn_at None = false
is_turn_at (Some l) = is_turn l

abbrev pub begins_right : CFunc → Bool
begins_right g = bytes_eq g.name [] || is_turn_at (slice_get g.lines 0)

abbrev pub lines_lead_on : List Line → Bool
lines_lead_on lines = jumps_fit (label_places lines) 0 false lines && is_leaving (slice_get lines (length lines - 1))

abbrev pub function_fits : Code → CFunc → Bool
function_fits code g =
    names_differ (map (λ v. v.0) g.vars) && (list_all (line_fits code g.vars g.ret) g.lines && (lines_lead_on g.lines && begins_right g))

-- ---- classes
-- the functions of a trait's methods, and those of a class's: the trait and the functions are there, and the names of attributes differ
abbrev pub trait_fits : Code → List ℕ × List (List ℕ) → Bool
trait_fits code t = has_class code t.0 && list_all (has_function code) t.1

abbrev pub class_fits : Code → CClass → Bool
class_fits code k =
    names_differ (map (λ a. a.0) k.attrs) && (list_all (has_function code) k.methods && list_all (trait_fits code) k.traits)

abbrev pub classes_fit : Code → Bool
classes_fit code = names_differ (map (λ k. k.name) code.classes) && list_all (class_fits code) code.classes

-- ---- codes
abbrev pub functions_fit : Code → Bool
functions_fit code = names_differ (map (λ g. g.name) code.funcs) && list_all (function_fits code) code.funcs

abbrev pub well_formed : Code → Bool
well_formed code =
    is_spelled code && (names_differ (map (λ v. v.0) code.globals) && (classes_fit code && functions_fit code))

abbrev pub WellFormed : Code → Type 0
WellFormed code = IsTrue (well_formed code)
