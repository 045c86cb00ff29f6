-- What is said of an expression is at its own place, or of its parts: of the words of typing, and of each kind of expression.
use Rattle.std.proofs.Common.{◌≡◌, ℕ, suc, Bool, true, false, List, [], ◌∷◌, ◌++◌, map, Option, Some, None, Result, Ok, Err, refl, ap, sym, ◌∙◌, not, if◌then◌else◌, ◌⊎◌, inl, inr}
use Rattle.std.specs.Prelude.{codes, slice_get}
use Rattle.std.specs.Str.{bytes_eq}
use Rattle.py_syntax.specs.declared.token.Span.{Span}
use Rattle.py_syntax_diagnostics.specs.declared.diagnostic.Diag.{Diag}
use Rattle.py_syntax.specs.Expressions as tree
use Rattle.py_syntax.specs.Expressions.{ExprTree, ExprNode, at, ExprTrees, no_exprs, expr_then, Comparisons, no_comparisons, comparison_then, Arguments, no_arguments, argument_then, keyed_then}
use Rattle.py_typed.specs.Sorts.{Instance, Nothing}
use Rattle.py_typed.specs.Classes.{ClassEntry, Signature}
use Rattle.py_typed.specs.Expressions as node
use Rattle.py_typed.specs.Expressions.{TypedExpr, TypedNode, TypedExprs, type_of}
use Rattle.py_typed.specs.Narrowing.{is_in}
use Rattle.py_check_context.specs.declared.scope.Meaning.{Meaning}
use Rattle.py_check_context.specs.declared.scope.Meaning.TheVariants as meaning
use Rattle.py_check_context.specs.Context.{Context, some_signature, VarSort, unset, untyped, has, VarSorts, var_at, Wanted, free, test, WantedRow, wanted_in}
use Rattle.py_check_messages.specs.Seen.{Seen, Message, diag, silent, both, judged, ruled, behind, rule}
use Rattle.py_check_messages.specs.Messages as message
use Rattle.py_check_operators.specs.Facts.{facts}
use Rattle.py_check_operators.specs.Names.{variable, named}
use Rattle.py_check_operators.specs.Operators.{negation, affirmation, arithmetic}
use Rattle.py_check_operators.specs.Chains.{pairs_faults}
use Rattle.py_check_operators.specs.Choices.{junction, operand, choice}
use Rattle.py_check_displays.specs.Displays.{item_sort, items_row, list_display, parts_row, tuple_display}
use Rattle.py_check_displays.specs.Dicts.{entry_sorts, key_wanted, value_wanted, dict_display}
use Rattle.py_check_displays.specs.Indexing.{literal, indexing}
use Rattle.py_check_calls.specs.Callees.{Callee, function, class, trait, super_init, print, input, range, single, exception, method, voiceless, uncalled, value, callee, has_key, is_variable, name_called, is_super_init, super_called}
use Rattle.py_check_calls.specs.Builtins.{print_call, input_call, single_call}
use Rattle.py_check_calls.specs.Exceptions.{exception_call}
use Rattle.py_check_calls.specs.Methods.{Had, has_attribute, has_method, has_append, has_pop, has_untyped, none_has_not, has_not, look_up, read, attribute, append_call, pop_call}
use Rattle.py_check_calls.specs.Calls.{arguments_row, positional, refused, takes, taken, init_name, call_by, signed_call, had_call, method_call, called}
use Rattle.py_check_expressions.specs.Typing.{typing, node_typing, items, entries, operands, each_operand, arguments, part, count}
use Rattle.py_check_expressions_laws.specs.Laws.{is_comparison}
use Rattle.py_check_expressions_laws.proofs.Faults.{fault_of, IsSame, same_negation, same_arithmetic, same_junction, same_choice, same_list_display, same_tuple_display, same_dict_display, same_indexing, same_print, same_input, same_single, same_exception, same_append, same_pop}
use Rattle.py_check_expressions.proofs.Quiet.{IsQuiet, quiet_is, quiet_silent, quiet_both, quiet_row, quiet_typing, quiet_entries}

-- what is said at each place: these messages, which are all its own, or the same everywhere
abbrev pub IsOwn : (Span → List Diag) → Type 0
IsOwn said = (ms : List Message) × ((place : Span) → said place ≡ map (diag place) ms)

abbrev pub Layer : (Span → List Diag) → Type 0
Layer said = IsOwn said ⊎ ((place other : Span) → said place ≡ said other)

there : Span
there = record { line = 0; col = 0 }

-- of parts and of what stands behind them, which is the same everywhere where they have no type
pub behind_layer : {A : Type 0} (s : Seen A) → IsQuiet s → (h : Span → Option A → List Diag) → ((place other : Span) → h place None ≡ h other None) → ((a : A) → Layer (λ place. h place (Some a))) → Layer (λ place. s.said ++ h place s.got)
behind_layer {A} s q h same each = by s.got refl
  where
    own : (a : A) → s.got ≡ Some a → (place : Span) → s.said ++ h place s.got ≡ h place (Some a)
    own a e place = ap (λ l. l ++ h place s.got) (q.says a e) ∙ ap (h place) e

    given : (a : A) → s.got ≡ Some a → Layer (λ place. h place (Some a)) → Layer (λ place. s.said ++ h place s.got)
    given a e (inl r) = inl (r.0, λ place. own a e place ∙ r.1 place)
    given a e (inr r) = inr (λ place other. own a e place ∙ r place other ∙ sym (own a e other))

    by : (o : Option A) → s.got ≡ o → Layer (λ place. s.said ++ h place s.got)
    by None e = inr (λ place other. ap (λ o. s.said ++ h place o) e ∙ ap (λ l. s.said ++ l) (same place other) ∙ sym (ap (λ o. s.said ++ h other o) e))
    by (Some a) e = given a e (each a)

-- ---- rules, of which what is wrong does not hang on the place

abbrev listed : Option Message → List Message
listed None = []
listed (Some m) = m ∷ []

pub judged_own : {A : Type 0} (r : Span → Result A Message) → IsSame r → IsOwn (λ place. (judged place (r place)).said)
judged_own {A} r same = (listed (fault_of (r there)), λ place. said place (r place) ∙ ap (λ o. map (diag place) (listed o)) (same place there))
  where
    said : (place : Span) (a : Result A Message) → (judged place a).said ≡ map (diag place) (listed (fault_of a))
    said place (Ok a) = refl
    said place (Err m) = refl

pub rule_layer : {A B : Type 0} (f : Span → A → Result B Message) (s : Seen A) → IsQuiet s → ((a : A) → IsSame (λ place. f place a)) → Layer (λ place. (rule place (f place) s).said)
rule_layer f s q same = behind_layer s q (λ place o. (ruled place (f place) o).said) (λ place other. refl) (λ a. inl (judged_own (λ place. f place a) (same a)))

-- ---- names

variable_own : (x : List ℕ) (e : TypedNode) (known : Bool) (v : VarSort) → IsOwn (λ place. (variable place x e known v).said)
variable_own x e known unset = (message.no_type_yet x ∷ [], λ place. refl)
variable_own x e known untyped = ([], λ place. refl)
variable_own x e known (has t) = ([], λ place. refl)

named_own : (vars : VarSorts) (known : List ℕ) (x : List ℕ) (m : Meaning) → IsOwn (λ place. (named vars known place x m).said)
named_own vars known x (meaning.Local i) = variable_own x _ (is_in known i) (var_at vars.locals i)
named_own vars known x (meaning.Global i) = variable_own x _ false (var_at vars.globals i)
named_own vars known x meaning.ModuleName = ([], λ place. refl)
named_own vars known x meaning.Untyped = ([], λ place. refl)
named_own vars known x meaning.Unknown = ([], λ place. refl)
named_own vars known x (meaning.Function i) = (message.not_a_value x ∷ [], λ place. refl)
named_own vars known x (meaning.Class i) = (message.not_a_value x ∷ [], λ place. refl)
named_own vars known x meaning.UntypedClass = (message.not_a_value x ∷ [], λ place. refl)
named_own vars known x (meaning.Exception k) = (message.not_a_value x ∷ [], λ place. refl)
named_own vars known x (meaning.Import i) = (message.not_a_value x ∷ [], λ place. refl)
named_own vars known x (meaning.Builtin b) = (message.not_a_value x ∷ [], λ place. refl)

-- ---- attributes

read_own : (classes : List ClassEntry) (e : TypedExpr) (a : List ℕ) (h : Had) → IsOwn (λ place. (read classes place e a h).said)
read_own classes e a (has_attribute t) = ([], λ place. refl)
read_own classes e a (has_method f) = (message.not_a_value a ∷ [], λ place. refl)
read_own classes e a (has_append t) = (message.not_a_value a ∷ [], λ place. refl)
read_own classes e a (has_pop t) = (message.not_a_value a ∷ [], λ place. refl)
read_own classes e a has_untyped = ([], λ place. refl)
read_own classes e a none_has_not = (message.none_has_no_attribute classes (type_of e) a ∷ [], λ place. refl)
read_own classes e a has_not = (message.no_attribute classes (type_of e) a ∷ [], λ place. refl)

-- ---- calls

-- of arguments that have types: a key, or the call's own rule
keyed_own : (keyed : Bool) (f : Span → List TypedExpr → Result TypedExpr Message) (es : List TypedExpr) → IsSame (λ place. f place es) → IsOwn (λ place. (rule place (f place) (positional place keyed (Some es))).said)
keyed_own true f es same = (message.keyword_argument ∷ [], λ place. refl)
keyed_own false f es same = judged_own (λ place. f place es) same

refused_own : (keyed : Bool) (m : Message) (es : List TypedExpr) → IsOwn (λ place. (rule {B = TypedExpr} place (refused m) (positional place keyed (Some es))).said)
refused_own keyed m es = keyed_own keyed (λ place. refused m) es (λ place other. refl)

module _ (C : Context) (w : Wanted) (keyed : Bool) where
  -- of a call by a name and a signature
  by_own : (f : List ℕ) (s : Signature) (make : TypedExprs → TypedNode) (es : List TypedExpr) → IsOwn (λ place. (call_by C w place keyed f s make (Some es)).said)
  by_own f s make es = by keyed
    where
      by : (b : Bool) → IsOwn (λ place. (call_by C w place b f s make (Some es)).said)
      by true = (message.keyword_argument ∷ [], λ place. refl)
      by false = judged_own (λ place. taken C.classes w f s es) (λ place other. refl)

  signed_layer : (m : List ℕ) (e : TypedExpr) (s : Option Signature) (es : List TypedExpr) → Layer (λ place. (signed_call C w place keyed m e s (Some es)).said)
  signed_layer m e None es = inr (λ place other. refl)
  signed_layer m e (Some s) es = inl (by_own m s (node.Method e m) es)

  had_layer : (m : List ℕ) (e : TypedExpr) (h : Had) (es : List TypedExpr) → Layer (λ place. (had_call C w place keyed m e h (Some es)).said)
  had_layer m e (has_method f) es = signed_layer m e (some_signature (slice_get C.signatures f)) es
  had_layer m e (has_append t) es = inl (keyed_own keyed (λ place. append_call C.classes w place e t) es (same_append C.classes w e t es))
  had_layer m e (has_pop t) es = inl (keyed_own keyed (λ place. pop_call place e t) es (same_pop e t es))
  had_layer m e (has_attribute t) es = inl (refused_own keyed message.not_callable es)
  had_layer m e has_untyped es = inr (λ place other. refl)
  had_layer m e none_has_not es = inl (refused_own keyed (message.none_has_no_attribute C.classes (type_of e) m) es)
  had_layer m e has_not es = inl (refused_own keyed (message.no_attribute C.classes (type_of e) m) es)

  method_layer : (m : List ℕ) (e : TypedExpr) (es : List TypedExpr) → Layer (λ place. (method_call C w place keyed m e (Some es)).said)
  method_layer m e es = by (bytes_eq m (codes "__init__"))
    where
      by : (b : Bool) → Layer (λ place. (if b then rule place (refused message.not_callable) (positional place keyed (Some es)) else had_call C w place keyed m e (look_up C.member (type_of e) m) (Some es)).said)
      by true = inl (refused_own keyed message.not_callable es)
      by false = had_layer m e (look_up C.member (type_of e) m) es

  given_layer : (f : Callee) (p : Option TypedExpr) (es : List TypedExpr) → Layer (λ place. (called C w place keyed f p (Some es)).said)
  given_layer (function x i s) p es = inl (by_own x s (node.Call i) es)
  given_layer (class x n params) p es = inl (by_own x (takes params (Instance n)) (node.Make n) es)
  given_layer (trait x params) p es = inl (refused_own keyed (message.no_instance x) es)
  given_layer (super_init next params) p es = inl (by_own init_name (takes params Nothing) (node.SuperInit next) es)
  given_layer print p es = inl (keyed_own keyed (λ place. print_call C.classes w place) es (same_print C.classes w es))
  given_layer input p es = inl (keyed_own keyed (λ place. input_call place) es (same_input es))
  given_layer range p es = inl (refused_own keyed message.range_outside_for es)
  given_layer (single f) p es = inl (keyed_own keyed (λ place. single_call C.classes f place) es (same_single C.classes f es))
  given_layer (exception x) p es = inl (keyed_own keyed (λ place. exception_call C.classes place x) es (same_exception C.classes x es))
  given_layer (method m) None es = inr (λ place other. refl)
  given_layer (method m) (Some e) es = method_layer m e es
  given_layer voiceless p es = inr (λ place other. refl)
  given_layer uncalled p es = inl (refused_own keyed message.not_callable es)
  given_layer value None es = inr (λ place other. refl)
  given_layer value (Some e) es = inl (refused_own keyed message.not_callable es)

  -- of arguments of which some has none nothing is said
  had_lacking : (place : Span) (m : List ℕ) (e : TypedExpr) (h : Had) → (had_call C w place keyed m e h None).said ≡ []
  had_lacking place m e (has_method f) = by (some_signature (slice_get C.signatures f))
    where
      by : (s : Option Signature) → (signed_call C w place keyed m e s None).said ≡ []
      by None = refl
      by (Some s) = refl
  had_lacking place m e (has_append t) = refl
  had_lacking place m e (has_pop t) = refl
  had_lacking place m e (has_attribute t) = refl
  had_lacking place m e has_untyped = refl
  had_lacking place m e none_has_not = refl
  had_lacking place m e has_not = refl

  method_lacking : (place : Span) (m : List ℕ) (e : TypedExpr) → (method_call C w place keyed m e None).said ≡ []
  method_lacking place m e = by (bytes_eq m (codes "__init__"))
    where
      by : (b : Bool) → (if b then rule place (refused message.not_callable) (positional place keyed None) else had_call C w place keyed m e (look_up C.member (type_of e) m) None).said ≡ []
      by true = refl
      by false = had_lacking place m e (look_up C.member (type_of e) m)

  lacking : (place : Span) (f : Callee) (p : Option TypedExpr) → (called C w place keyed f p None).said ≡ []
  lacking place (function x i s) p = refl
  lacking place (class x n params) p = refl
  lacking place (trait x params) p = refl
  lacking place (super_init next params) p = refl
  lacking place print p = refl
  lacking place input p = refl
  lacking place range p = refl
  lacking place (single f) p = refl
  lacking place (exception x) p = refl
  lacking place (method m) None = refl
  lacking place (method m) (Some e) = method_lacking place m e
  lacking place voiceless p = refl
  lacking place uncalled p = refl
  lacking place value None = refl
  lacking place value (Some e) = refl

  call_layer : (f : Callee) (p : Option TypedExpr) (s : Seen (List TypedExpr)) → IsQuiet s → Layer (λ place. (behind s (called C w place keyed f p)).said)
  call_layer f p s q = behind_layer s q (λ place o. (called C w place keyed f p o).said) (λ place other. lacking place f p ∙ sym (lacking other f p)) (given_layer f p)

-- nothing in front
front_layer : (front : List Diag) (said : Span → List Diag) → front ≡ [] → Layer said → Layer (λ place. front ++ said place)
front_layer front said e (inl r) = inl (r.0, λ place. ap (λ l. l ++ said place) e ∙ r.1 place)
front_layer front said e (inr r) = inr (λ place other. ap (λ l. front ++ l) (r place other))

-- ---- expressions

module _ (C : Context) (V : VarSorts) where
  quiet_items : (row : WantedRow) (i : ℕ) (known : List ℕ) (es : ExprTrees) → IsQuiet (items C V row i known es)
  quiet_items row i known no_exprs = quiet_is []
  quiet_items row i known (expr_then e more) = quiet_row (typing C V (wanted_in row i) known e) (items C V row (suc i) known more) (quiet_typing C V (wanted_in row i) known e) (quiet_items row (suc i) known more)

  pub quiet_arguments : (row : WantedRow) (i : ℕ) (known : List ℕ) (args : Arguments) → IsQuiet (arguments C V row i known args)
  quiet_arguments row i known no_arguments = quiet_is []
  quiet_arguments row i known (argument_then e more) = quiet_row (typing C V (wanted_in row i) known e) (arguments C V row (suc i) known more) (quiet_typing C V (wanted_in row i) known e) (quiet_arguments row (suc i) known more)
  quiet_arguments row i known (keyed_then k e more) = quiet_row (typing C V (wanted_in row i) known e) (arguments C V row (suc i) known more) (quiet_typing C V (wanted_in row i) known e) (quiet_arguments row (suc i) known more)

  quiet_two : (w v : Wanted) (known others : List ℕ) (a b : ExprTree) → IsQuiet (both (typing C V w known a) (typing C V v others b))
  quiet_two w v known others a b = quiet_both (typing C V w known a) (typing C V v others b) (quiet_typing C V w known a) (quiet_typing C V v others b)

  -- what is said of a call of which nothing is typed but the arguments
  abbrev Silent : Callee → Type 0
  Silent f = (w : Wanted) (span : Span) (keyed : Bool) (args : Option (List TypedExpr)) → (called C w span keyed f None args).said ≡ []

  part_name : (known : List ℕ) (place : Span) (x : List ℕ) (m : Meaning) → ((if not (is_variable m) then silent else named V known place x m).said ≡ []) ⊎ Silent (name_called C x m)
  part_name known place x (meaning.Local i) = inr (λ w span keyed args. refl)
  part_name known place x (meaning.Global i) = inr (λ w span keyed args. refl)
  part_name known place x (meaning.Function i) = inl refl
  part_name known place x (meaning.Class i) = inl refl
  part_name known place x meaning.UntypedClass = inl refl
  part_name known place x (meaning.Exception k) = inl refl
  part_name known place x (meaning.Import i) = inl refl
  part_name known place x (meaning.Builtin b) = inl refl
  part_name known place x meaning.ModuleName = inl refl
  part_name known place x meaning.Untyped = inl refl
  part_name known place x meaning.Unknown = inl refl

  -- of `super().__init__` nothing is typed
  part_attribute : (known : List ℕ) (place : Span) (e : ExprTree) (m : List ℕ) → ((part C V known (at (tree.Attr e m) place)).said ≡ []) ⊎ Silent (callee C (at (tree.Attr e m) place))
  part_attribute known place e m = by (is_super_init C (tree.Attr e m))
    where
      by : (b : Bool) → ((if b then silent else typing C V free known e).said ≡ []) ⊎ Silent (if b then super_called C C.inside else method m)
      by true = inl refl
      by false = inr (λ w span keyed args. refl)

  -- nothing is said of what is typed of a callee, or nothing of a call without it
  part_case : (known : List ℕ) (f : ExprTree) → ((part C V known f).said ≡ []) ⊎ Silent (callee C f)
  part_case known (at (tree.Name x) place) = part_name known place x (C.meaning x)
  part_case known (at (tree.Attr e m) place) = part_attribute known place e m
  part_case known (at n place) = inr (λ w span keyed args. refl)

  part_quiet : (known : List ℕ) (f : ExprTree) → IsQuiet (part C V known f)
  part_quiet known (at (tree.Name x) place) = by (not (is_variable (C.meaning x)))
    where
      by : (b : Bool) → IsQuiet (if b then silent else named V known place x (C.meaning x))
      by true = quiet_silent
      by false = quiet_typing C V free known (at (tree.Name x) place)
  part_quiet known (at (tree.Attr e m) place) = by (is_super_init C (tree.Attr e m))
    where
      by : (b : Bool) → IsQuiet (if b then silent else typing C V free known e)
      by true = quiet_silent
      by false = quiet_typing C V free known e
  part_quiet known (at n place) = quiet_typing C V free known (at n place)

  module _ (w : Wanted) (known : List ℕ) (f : ExprTree) (args : Arguments) where
    abbrev row : Option TypedExpr → Seen (List TypedExpr)
    row p = arguments C V (arguments_row C (callee C f) p) 0 known args

    abbrev rest : Option TypedExpr → Span → List Diag
    rest p place = (behind (row p) (called C w place (has_key args) (callee C f) p)).said

    behind_front : (part C V known f).said ≡ [] → Layer (λ place. (part C V known f).said ++ rest (part C V known f).got place)
    behind_front e =
        let p = (part C V known f).got in
        front_layer (part C V known f).said (rest p) e (call_layer C w (has_key args) (callee C f) p (row p) (quiet_arguments (arguments_row C (callee C f) p) 0 known args))

    silent_call : Silent (callee C f) → (part C V known f).got ≡ None → Layer (λ place. (part C V known f).said ++ rest (part C V known f).got place)
    silent_call z q =
        let got = (row None).got in
        let same : (place other : Span) → rest None place ≡ rest None other = λ place other. ap (λ l. (row None).said ++ l) (z w place (has_key args) got ∙ sym (z w other (has_key args) got)) in
        inr (λ place other. ap (λ l. (part C V known f).said ++ l) (ap (λ o. rest o place) q ∙ same place other ∙ sym (ap (λ o. rest o other) q)))

    whole_call : Layer (λ place. (node_typing C V w known place (tree.Call f args)).said)
    whole_call = by (part C V known f).got refl (part_case known f)
      where
        by : (o : Option TypedExpr) → (part C V known f).got ≡ o → ((part C V known f).said ≡ []) ⊎ Silent (callee C f) → Layer (λ place. (part C V known f).said ++ rest (part C V known f).got place)
        by (Some e) q r = behind_front ((part_quiet known f).says e q)
        by None q (inl e) = behind_front e
        by None q (inr z) = silent_call z q

  -- of a chain: of its pairs, in front of what is said of its operands
  abbrev Chained : (Span → List Diag) → Type 0
  Chained said = (ms : List Message) × (parts : List Diag) × ((place : Span) → said place ≡ map (diag place) ms ++ parts)

  pub node_layer : (w : Wanted) (known : List ℕ) (n : ExprNode) → Layer (λ place. (node_typing C V w known place n).said) ⊎ ((is_comparison n ≡ true) × Chained (λ place. (node_typing C V w known place n).said))
  node_layer w known (tree.Name x) = inl (inl (named_own V known x (C.meaning x)))
  node_layer w known (tree.Neg e) = inl (rule_layer (negation C.classes) (typing C V free known e) (quiet_typing C V free known e) (same_negation C.classes))
  node_layer w known (tree.Plus e) = inl (rule_layer (λ place. affirmation C.classes) (typing C V free known e) (quiet_typing C V free known e) (λ t place other. refl))
  node_layer w known (tree.Not e) = inl (inr (λ place other. refl))
  node_layer w known (tree.Bin o a b) =
      inl (rule_layer (λ place. arithmetic C.classes place o) (both (typing C V free known a) (typing C V free known b)) (quiet_two free free known known a b) (same_arithmetic C.classes o))
  node_layer w known (tree.Compare e cs) =
      inr (refl, (pairs_faults C.classes (typing C V free known e).got (each_operand C V known cs), (typing C V free known e).said ++ (operands C V known cs).said, λ place. refl))
  node_layer w known (tree.And a b) =
      inl (rule_layer (λ place. junction C.classes w true place) (both (typing C V (operand w) known a) (typing C V (operand w) (facts C true a ++ known) b)) (quiet_two (operand w) (operand w) known (facts C true a ++ known) a b) (same_junction C.classes w true))
  node_layer w known (tree.Or a b) =
      inl (rule_layer (λ place. junction C.classes w false place) (both (typing C V (operand w) known a) (typing C V (operand w) (facts C false a ++ known) b)) (quiet_two (operand w) (operand w) known (facts C false a ++ known) a b) (same_junction C.classes w false))
  node_layer w known (tree.Cond a t b) =
      let sa = typing C V free (facts C true t ++ known) a in
      let st = typing C V test known t in
      let sb = typing C V free (facts C false t ++ known) b in
      inl (rule_layer (λ place. choice C.classes w place) (both (both sa st) sb) (quiet_both (both sa st) sb (quiet_two free test (facts C true t ++ known) known a t) (quiet_typing C V free (facts C false t ++ known) b)) (same_choice C.classes w))
  node_layer w known (tree.ListOf es) =
      inl (rule_layer (λ place. list_display C.classes (item_sort w) place) (items C V (items_row (item_sort w)) 0 known es) (quiet_items (items_row (item_sort w)) 0 known es) (same_list_display C.classes (item_sort w)))
  node_layer w known (tree.TupleOf es) =
      inl (rule_layer (λ place. tuple_display C.classes (parts_row w (count es)) place) (items C V (parts_row w (count es)) 0 known es) (quiet_items (parts_row w (count es)) 0 known es) (same_tuple_display C.classes (parts_row w (count es))))
  node_layer w known (tree.Index e i) =
      inl (rule_layer (λ place. indexing C.classes place (literal i)) (both (typing C V free known e) (typing C V free known i)) (quiet_two free free known known e i) (same_indexing C.classes (literal i)))
  node_layer w known (tree.Call f args) = inl (whole_call w known f args)
  node_layer w known (tree.Attr e a) =
      inl (behind_layer (typing C V free known e) (quiet_typing C V free known e) (λ place o. (attribute C place a o).said) (λ place other. refl) (λ t. inl (read_own C.classes t a (look_up C.member (type_of t) a))))
  node_layer w known (tree.DictOf es) =
      inl (rule_layer (λ place. dict_display C.classes (entry_sorts w) place) (entries C V (key_wanted (entry_sorts w)) (value_wanted (entry_sorts w)) known es) (quiet_entries C V (key_wanted (entry_sorts w)) (value_wanted (entry_sorts w)) known es) (same_dict_display C.classes (entry_sorts w)))
  node_layer w known (tree.Int n) = inl (inr (λ place other. refl))
  node_layer w known (tree.Str n) = inl (inr (λ place other. refl))
  node_layer w known tree.True = inl (inr (λ place other. refl))
  node_layer w known tree.False = inl (inr (λ place other. refl))
  node_layer w known tree.Nothing = inl (inr (λ place other. refl))
