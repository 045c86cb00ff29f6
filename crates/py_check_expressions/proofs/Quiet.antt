-- What is typed has said nothing: of the words of typing, and of each kind of expression.
use Rattle.std.proofs.Common.{◌≡◌, ℕ, suc, Bool, true, false, List, [], ◌∷◌, ◌++◌, map, Option, Some, None, Result, Ok, Err, refl, ap, sym, ◌∙◌, not, if◌then◌else◌}
use Rattle.std.specs.Prelude.{codes, slice_get}
use Rattle.std.specs.Str.{bytes_eq}
use Rattle.std.specs.Option.{option_map, option_zip}
use Rattle.py_syntax.specs.declared.token.Span.{Span}
use Rattle.py_syntax.specs.declared.expression.CmpOp.{CmpOp}
use Rattle.py_syntax.specs.Expressions as tree
use Rattle.py_syntax.specs.Expressions.{ExprTree, ExprNode, at, ExprTrees, no_exprs, expr_then, Comparisons, no_comparisons, comparison_then, Entries, no_entries, entry_then, Arguments, no_arguments, argument_then, keyed_then}
use Rattle.py_typed.specs.Expressions as node
use Rattle.py_typed.specs.Expressions.{TypedExpr, TypedNode, TypedExprs, type_of}
use Rattle.py_typed.specs.Sorts.{Instance, Nothing}
use Rattle.py_typed.specs.Classes.{ClassEntry, Signature}
use Rattle.py_check_context.specs.declared.scope.Meaning.{Meaning}
use Rattle.py_check_context.specs.declared.scope.Meaning.TheVariants as meaning
use Rattle.py_check_context.specs.Context.{Context, some_signature, VarSort, unset, untyped, has, VarSorts, var_at, Wanted, free, test, WantedRow, wanted_in}
use Rattle.py_typed.specs.Narrowing.{is_in}
use Rattle.py_check_messages.specs.Seen.{Seen, Message, diag, is, silent, fails, both, judged, ruled, behind, rule, made}
use Rattle.py_check_messages.specs.Rows.{row_then}
use Rattle.py_check_coercions.specs.Several.{with_part}
use Rattle.py_check_operators.specs.Facts.{facts}
use Rattle.py_check_operators.specs.Names.{variable, named}
use Rattle.py_check_operators.specs.Chains.{all_typed, chain_of}
use Rattle.py_check_operators.proofs.ChainLemmas.{chain_right, chain_operands}
use Rattle.py_check_operators.specs.Choices.{operand}
use Rattle.py_check_displays.specs.Displays.{item_sort, items_row, parts_row}
use Rattle.py_check_displays.specs.Dicts.{entry_sorts, key_wanted, value_wanted}
use Rattle.py_check_calls.specs.Callees.{Callee, function, class, trait, super_init, print, input, range, single, exception, method, voiceless, uncalled, value, callee, has_key, is_named, is_variable, name_called, is_super_init, super_called}
use Rattle.py_check_messages.specs.Messages.{range_outside_for, not_callable}
use Rattle.py_check_calls.specs.Methods.{Had, has_attribute, has_method, has_append, has_pop, has_untyped, none_has_not, has_not, look_up, read, attribute}
use Rattle.py_check_calls.specs.Calls.{arguments_row, positional, no_keys, refused, takes, taken, init_name, call_made, call_of, call_by, signed_call, had_call, method_call, called}
use Rattle.py_check_expressions.specs.Typing.{typing, node_typing, items, entries, operands, each_operand, arguments, part, receiver, count}
use Rattle.py_check_expressions.proofs.RowLemmas.{operands_got}

pub record IsQuiet {A : Type 0} (s : Seen A) : Type 0 where
  pub says : (a : A) → s.got ≡ Some a → s.said ≡ []

pub quiet_is : {A : Type 0} (a : A) → IsQuiet (is a)
quiet_is a = record { says = λ x e. refl }

pub quiet_silent : {A : Type 0} → IsQuiet (silent {A = A})
quiet_silent = record { says = λ x e. refl }

pub quiet_fails : {A : Type 0} (span : Span) (m : Message) → IsQuiet (fails {A = A} span m)
quiet_fails span m = record { says = λ x e. cc }

both_said : {A B : Type 0} (s : Seen A) (t : Seen B) → IsQuiet s → IsQuiet t → (a : Option A) (b : Option B) → s.got ≡ a → t.got ≡ b → (p : A × B) → option_zip a b ≡ Some p → s.said ++ t.said ≡ []
both_said s t qs qt None b ea eb p e = absurd (cc)
both_said s t qs qt (Some a) None ea eb p e = absurd (cc)
both_said s t qs qt (Some a) (Some b) ea eb p e = ap (λ l. l ++ t.said) (qs.says a ea) ∙ qt.says b eb

pub quiet_both : {A B : Type 0} (s : Seen A) (t : Seen B) → IsQuiet s → IsQuiet t → IsQuiet (both s t)
quiet_both s t qs qt = record { says = λ p e. both_said s t qs qt s.got t.got refl refl p e }

made_said : {A B : Type 0} (f : A → B) (s : Seen A) → IsQuiet s → (a : Option A) → s.got ≡ a → (b : B) → option_map f a ≡ Some b → s.said ≡ []
made_said f s q None ea b e = absurd (cc)
made_said f s q (Some a) ea b e = q.says a ea

pub quiet_made : {A B : Type 0} (f : A → B) (s : Seen A) → IsQuiet s → IsQuiet (made f s)
quiet_made f s q = record { says = λ b e. made_said f s q s.got refl b e }

behind_said : {A B : Type 0} (s : Seen A) (f : Option A → Seen B) → IsQuiet s → (f None).got ≡ None → ((a : A) → IsQuiet (f (Some a))) → (o : Option A) → s.got ≡ o → (b : B) → (f s.got).got ≡ Some b → s.said ++ (f s.got).said ≡ []
behind_said s f q none each None ea b e = let h = sym e ∙ ap (λ o. (f o).got) ea ∙ none in absurd (cc)
behind_said s f q none each (Some a) ea b e =
    ap (λ l. l ++ (f s.got).said) (q.says a ea) ∙ ap (λ o. (f o).said) ea ∙ (each a).says b (sym (ap (λ o. (f o).got) ea) ∙ e)

pub quiet_behind : {A B : Type 0} (s : Seen A) (f : Option A → Seen B) → IsQuiet s → (f None).got ≡ None → ((a : A) → IsQuiet (f (Some a))) → IsQuiet (behind s f)
quiet_behind s f q none each = record { says = λ b e. behind_said s f q none each s.got refl b e }

pub quiet_judged : {A : Type 0} (span : Span) (r : Result A Message) → IsQuiet (judged span r)
quiet_judged span (Ok a) = quiet_is a
quiet_judged span (Err m) = quiet_fails span m

pub quiet_rule : {A B : Type 0} (span : Span) (f : A → Result B Message) (s : Seen A) → IsQuiet s → IsQuiet (rule span f s)
quiet_rule span f s q = quiet_behind s (ruled span f) q refl (λ a. quiet_judged span (f a))

pub quiet_row : {A : Type 0} (one : Seen A) (rest : Seen (List A)) → IsQuiet one → IsQuiet rest → IsQuiet (row_then one rest)
quiet_row one rest q r = quiet_made (λ p. p.0 ∷ p.1) (both one rest) (quiet_both one rest q r)

-- a chain and what is said of its operands, a row of which is typed where each is
pub quiet_chain : (classes : List ClassEntry) (span : Span) (s : Seen TypedExpr) (r : Seen (List (CmpOp × TypedExpr))) (ps : List (CmpOp × Option TypedExpr)) → r.got ≡ all_typed ps → IsQuiet s → IsQuiet r → IsQuiet (chain_of classes span s.got ps (s.said ++ r.said))
quiet_chain classes span s r ps g qs qr = record {
  says = λ b e.
      let p = chain_operands classes span s.got ps (s.said ++ r.said) b e in
      ap (λ l. map (diag span) l ++ (s.said ++ r.said)) (chain_right classes span s.got ps (s.said ++ r.said) b e) ∙ (quiet_both s r qs qr).says p.0 (ap (option_zip s.got) g ∙ p.1);
}

-- ---- names and calls

quiet_variable : (span : Span) (x : List ℕ) (e : TypedNode) (known : Bool) (v : VarSort) → IsQuiet (variable span x e known v)
quiet_variable span x e known unset = quiet_fails span _
quiet_variable span x e known untyped = quiet_silent
quiet_variable span x e known (has t) = quiet_is _

pub quiet_named : (vars : VarSorts) (known : List ℕ) (span : Span) (x : List ℕ) (m : Meaning) → IsQuiet (named vars known span x m)
quiet_named vars known span x (meaning.Local i) = quiet_variable span x _ (is_in known i) (var_at vars.locals i)
quiet_named vars known span x (meaning.Global i) = quiet_variable span x _ false (var_at vars.globals i)
quiet_named vars known span x meaning.ModuleName = quiet_is _
quiet_named vars known span x meaning.Untyped = quiet_silent
quiet_named vars known span x meaning.Unknown = quiet_silent
quiet_named vars known span x (meaning.Function i) = quiet_fails span _
quiet_named vars known span x (meaning.Class i) = quiet_fails span _
quiet_named vars known span x meaning.UntypedClass = quiet_fails span _
quiet_named vars known span x (meaning.Exception k) = quiet_fails span _
quiet_named vars known span x (meaning.Import i) = quiet_fails span _
quiet_named vars known span x (meaning.Builtin b) = quiet_fails span _

quiet_positional : (span : Span) (keyed : Bool) (args : Option (List TypedExpr)) → IsQuiet (positional span keyed args)
quiet_positional span keyed None = quiet_silent
quiet_positional span keyed (Some es) = quiet_judged span (no_keys keyed es)

quiet_with_part : {A B : Type 0} (o : Option A) (f : A → Seen B) → ((a : A) → IsQuiet (f a)) → IsQuiet (with_part o f)
quiet_with_part None f q = quiet_silent
quiet_with_part (Some a) f q = q a

quiet_if : {A : Type 0} (b : Bool) (s t : Seen A) → IsQuiet s → IsQuiet t → IsQuiet (if b then s else t)
quiet_if true s t qs qt = qs
quiet_if false s t qs qt = qt

quiet_taken : {B : Type 0} (span : Span) (keyed : Bool) (f : List TypedExpr → Result B Message) (args : Option (List TypedExpr)) → IsQuiet (rule span f (positional span keyed args))
quiet_taken span keyed f args = quiet_rule span f (positional span keyed args) (quiet_positional span keyed args)

pub quiet_read : (classes : List ClassEntry) (span : Span) (e : TypedExpr) (a : List ℕ) (h : Had) → IsQuiet (read classes span e a h)
quiet_read classes span e a (has_attribute t) = quiet_is _
quiet_read classes span e a (has_method f) = quiet_fails span _
quiet_read classes span e a (has_append t) = quiet_fails span _
quiet_read classes span e a (has_pop t) = quiet_fails span _
quiet_read classes span e a has_untyped = quiet_silent
quiet_read classes span e a none_has_not = quiet_fails span _
quiet_read classes span e a has_not = quiet_fails span _

module _ (C : Context) where
  quiet_by : (w : Wanted) (span : Span) (keyed : Bool) (f : List ℕ) (s : Signature) (make : TypedExprs → TypedNode) (args : Option (List TypedExpr)) → IsQuiet (call_by C w span keyed f s make args)
  quiet_by w span keyed f s make args =
      quiet_behind (positional span keyed args) (call_of C w span f s make) (quiet_positional span keyed args) refl (λ es. quiet_made (call_made span s make) (judged span (taken C.classes w f s es)) (quiet_judged span (taken C.classes w f s es)))

  quiet_signed : (w : Wanted) (span : Span) (keyed : Bool) (m : List ℕ) (e : TypedExpr) (s : Option Signature) (args : Option (List TypedExpr)) → IsQuiet (signed_call C w span keyed m e s args)
  quiet_signed w span keyed m e None args = quiet_silent
  quiet_signed w span keyed m e (Some s) args = quiet_by w span keyed m s (node.Method e m) args

  quiet_had : (w : Wanted) (span : Span) (keyed : Bool) (m : List ℕ) (e : TypedExpr) (h : Had) (args : Option (List TypedExpr)) → IsQuiet (had_call C w span keyed m e h args)
  quiet_had w span keyed m e (has_method f) args = quiet_signed w span keyed m e (some_signature (slice_get C.signatures f)) args
  quiet_had w span keyed m e (has_append t) args = quiet_taken span keyed _ args
  quiet_had w span keyed m e (has_pop t) args = quiet_taken span keyed _ args
  quiet_had w span keyed m e (has_attribute t) args = quiet_taken span keyed (refused not_callable) args
  quiet_had w span keyed m e has_untyped args = quiet_silent
  quiet_had w span keyed m e none_has_not args = quiet_taken span keyed (refused _) args
  quiet_had w span keyed m e has_not args = quiet_taken span keyed (refused _) args

  quiet_method : (w : Wanted) (span : Span) (keyed : Bool) (m : List ℕ) (e : TypedExpr) (args : Option (List TypedExpr)) → IsQuiet (method_call C w span keyed m e args)
  quiet_method w span keyed m e args =
      quiet_if (bytes_eq m (codes "__init__")) (rule span (refused not_callable) (positional span keyed args)) (had_call C w span keyed m e (look_up C.member (type_of e) m) args) (quiet_taken span keyed (refused not_callable) args) (quiet_had w span keyed m e (look_up C.member (type_of e) m) args)

  pub quiet_called : (w : Wanted) (span : Span) (keyed : Bool) (f : Callee) (p : Option TypedExpr) (args : Option (List TypedExpr)) → IsQuiet (called C w span keyed f p args)
  quiet_called w span keyed (function x i s) p args = quiet_by w span keyed x s (node.Call i) args
  quiet_called w span keyed (class x n params) p args = quiet_by w span keyed x (takes params (Instance n)) (node.Make n) args
  quiet_called w span keyed (trait x params) p args = quiet_taken span keyed (refused _) args
  quiet_called w span keyed (super_init next params) p args = quiet_by w span keyed init_name (takes params Nothing) (node.SuperInit next) args
  quiet_called w span keyed print p args = quiet_taken span keyed _ args
  quiet_called w span keyed input p args = quiet_taken span keyed _ args
  quiet_called w span keyed range p args = quiet_taken span keyed (refused range_outside_for) args
  quiet_called w span keyed (single f) p args = quiet_taken span keyed _ args
  quiet_called w span keyed (exception x) p args = quiet_taken span keyed _ args
  quiet_called w span keyed (method m) p args = quiet_with_part p _ (λ e. quiet_method w span keyed m e args)
  quiet_called w span keyed voiceless p args = quiet_silent
  quiet_called w span keyed uncalled p args = quiet_taken span keyed (refused not_callable) args
  quiet_called w span keyed value p args = quiet_with_part p _ (λ e. quiet_taken span keyed (refused not_callable) args)

-- ---- calls, whose callee may be a name that is not typed

-- either nothing is said of what is typed of a callee, or a call without that is not typed
pub data Lost (C : Context) (V : VarSorts) (known : List ℕ) (f : ExprTree) : Type 0 where
  unsaid : (part C V known f).said ≡ [] → Lost C V known f
  ungiven : ((w : Wanted) (span : Span) (keyed : Bool) (args : Option (List TypedExpr)) → (called C w span keyed (callee C f) None args).got ≡ None) → Lost C V known f

plain : (C : Context) (V : VarSorts) (known : List ℕ) (place : Span) (x : List ℕ) (m : Meaning) → C.meaning x ≡ m → is_variable m ≡ false → (part C V known (at (tree.Name x) place)).said ≡ []
plain C V known place x m e v =
    ap (λ n. (if not (is_variable n) then silent else node_typing C V free known place (tree.Name x)).said) e ∙ ap (λ b. (if not b then silent else node_typing C V free known place (tree.Name x)).said) v

name_lost : (C : Context) (V : VarSorts) (known : List ℕ) (place : Span) (x : List ℕ) (m : Meaning) → C.meaning x ≡ m → Lost C V known (at (tree.Name x) place)
name_lost C V known place x (meaning.Local i) e = ungiven (λ w span keyed args. ap (λ n. (called C w span keyed (name_called C x n) None args).got) e)
name_lost C V known place x (meaning.Global i) e = ungiven (λ w span keyed args. ap (λ n. (called C w span keyed (name_called C x n) None args).got) e)
name_lost C V known place x (meaning.Function i) e = unsaid (plain C V known place x (meaning.Function i) e refl)
name_lost C V known place x (meaning.Class i) e = unsaid (plain C V known place x (meaning.Class i) e refl)
name_lost C V known place x meaning.UntypedClass e = unsaid (plain C V known place x meaning.UntypedClass e refl)
name_lost C V known place x (meaning.Exception k) e = unsaid (plain C V known place x (meaning.Exception k) e refl)
name_lost C V known place x (meaning.Import i) e = unsaid (plain C V known place x (meaning.Import i) e refl)
name_lost C V known place x (meaning.Builtin b) e = unsaid (plain C V known place x (meaning.Builtin b) e refl)
name_lost C V known place x meaning.ModuleName e = unsaid (plain C V known place x meaning.ModuleName e refl)
name_lost C V known place x meaning.Untyped e = unsaid (plain C V known place x meaning.Untyped e refl)
name_lost C V known place x meaning.Unknown e = unsaid (plain C V known place x meaning.Unknown e refl)

attribute_lost : (C : Context) (V : VarSorts) (known : List ℕ) (place : Span) (e : ExprTree) (m : List ℕ) (b : Bool) → is_super_init C (tree.Attr e m) ≡ b → Lost C V known (at (tree.Attr e m) place)
attribute_lost C V known place e m true q = unsaid (ap (λ b. (if b then silent else typing C V free known e).said) q)
attribute_lost C V known place e m false q = ungiven (λ w span keyed args. ap (λ b. (called C w span keyed (if b then super_called C C.inside else method m) None args).got) q)

lost : (C : Context) (V : VarSorts) (known : List ℕ) (f : ExprTree) → Lost C V known f
lost C V known (at (tree.Name x) place) = name_lost C V known place x (C.meaning x) refl
lost C V known (at (tree.Attr e m) place) = attribute_lost C V known place e m (is_super_init C (tree.Attr e m)) refl
lost C V known (at (tree.Int n) place) = ungiven (λ w span keyed args. refl)
lost C V known (at (tree.Str n) place) = ungiven (λ w span keyed args. refl)
lost C V known (at tree.True place) = ungiven (λ w span keyed args. refl)
lost C V known (at tree.False place) = ungiven (λ w span keyed args. refl)
lost C V known (at tree.Nothing place) = ungiven (λ w span keyed args. refl)
lost C V known (at (tree.Neg e) place) = ungiven (λ w span keyed args. refl)
lost C V known (at (tree.Plus e) place) = ungiven (λ w span keyed args. refl)
lost C V known (at (tree.Not e) place) = ungiven (λ w span keyed args. refl)
lost C V known (at (tree.Bin o a b) place) = ungiven (λ w span keyed args. refl)
lost C V known (at (tree.Compare a cs) place) = ungiven (λ w span keyed args. refl)
lost C V known (at (tree.And a b) place) = ungiven (λ w span keyed args. refl)
lost C V known (at (tree.Or a b) place) = ungiven (λ w span keyed args. refl)
lost C V known (at (tree.Cond a t b) place) = ungiven (λ w span keyed args. refl)
lost C V known (at (tree.ListOf es) place) = ungiven (λ w span keyed args. refl)
lost C V known (at (tree.DictOf es) place) = ungiven (λ w span keyed args. refl)
lost C V known (at (tree.TupleOf es) place) = ungiven (λ w span keyed args. refl)
lost C V known (at (tree.Index e i) place) = ungiven (λ w span keyed args. refl)
lost C V known (at (tree.Call f args) place) = ungiven (λ w span keyed args. refl)

-- the parts and what is said behind them, where that is quiet whatever the parts are
after_said : {A B : Type 0} (s : Seen A) (f : Option A → Seen B) → IsQuiet s → ((o : Option A) → IsQuiet (f o)) → (s.got ≡ None → (b : B) → (f None).got ≡ Some b → s.said ≡ []) → (o : Option A) → s.got ≡ o → (b : B) → (f s.got).got ≡ Some b → s.said ++ (f s.got).said ≡ []
after_said s f q each none None ea b e = ap (λ l. l ++ (f s.got).said) (none ea b (sym (ap (λ o. (f o).got) ea) ∙ e)) ∙ (each s.got).says b e
after_said s f q each none (Some a) ea b e = ap (λ l. l ++ (f s.got).said) (q.says a ea) ∙ (each s.got).says b e

quiet_after : {A B : Type 0} (s : Seen A) (f : Option A → Seen B) → IsQuiet s → ((o : Option A) → IsQuiet (f o)) → (s.got ≡ None → (b : B) → (f None).got ≡ Some b → s.said ≡ []) → IsQuiet (behind s f)
quiet_after s f q each none = record { says = λ b e. after_said s f q each none s.got refl b e }

call_unsaid : (C : Context) (V : VarSorts) (known : List ℕ) (f : ExprTree) (args : Arguments) (w : Wanted) (span : Span) → Lost C V known f → (b : TypedExpr) → (behind (arguments C V (arguments_row C (callee C f) None) 0 known args) (called C w span (has_key args) (callee C f) None)).got ≡ Some b → (part C V known f).said ≡ []
call_unsaid C V known f args w span (unsaid u) b e = u
call_unsaid C V known f args w span (ungiven u) b e = let h = sym e ∙ u w span (has_key args) (arguments C V (arguments_row C (callee C f) None) 0 known args).got in absurd (cc)

-- a call whose arguments are not typed is not typed
module _ (C : Context) where
  had_none : (w : Wanted) (span : Span) (keyed : Bool) (m : List ℕ) (e : TypedExpr) (h : Had) → (had_call C w span keyed m e h None).got ≡ None
  had_none w span keyed m e (has_method f) = by (some_signature (slice_get C.signatures f))
    where
      by : (s : Option Signature) → (signed_call C w span keyed m e s None).got ≡ None
      by None = refl
      by (Some s) = refl
  had_none w span keyed m e (has_append t) = refl
  had_none w span keyed m e (has_pop t) = refl
  had_none w span keyed m e (has_attribute t) = refl
  had_none w span keyed m e has_untyped = refl
  had_none w span keyed m e none_has_not = refl
  had_none w span keyed m e has_not = refl

  method_none : (w : Wanted) (span : Span) (keyed : Bool) (m : List ℕ) (e : TypedExpr) → (method_call C w span keyed m e None).got ≡ None
  method_none w span keyed m e = by (bytes_eq m (codes "__init__"))
    where
      by : (b : Bool) → (if b then rule span (refused not_callable) (positional span keyed None) else had_call C w span keyed m e (look_up C.member (type_of e) m) None).got ≡ None
      by true = refl
      by false = had_none w span keyed m e (look_up C.member (type_of e) m)

  called_none : (w : Wanted) (span : Span) (keyed : Bool) (f : Callee) (p : Option TypedExpr) (b : TypedExpr) → (called C w span keyed f p None).got ≡ Some b → ⊥
  called_none w span keyed (function x i s) p b e = cc
  called_none w span keyed (class x n params) p b e = cc
  called_none w span keyed (trait x params) p b e = cc
  called_none w span keyed (super_init next params) p b e = cc
  called_none w span keyed print p b e = cc
  called_none w span keyed input p b e = cc
  called_none w span keyed range p b e = cc
  called_none w span keyed (single f) p b e = cc
  called_none w span keyed (exception x) p b e = cc
  called_none w span keyed (method m) None b e = cc
  called_none w span keyed (method m) (Some a) b e = let h = sym e ∙ method_none w span keyed m a in cc
  called_none w span keyed voiceless p b e = cc
  called_none w span keyed uncalled p b e = cc
  called_none w span keyed value None b e = cc
  called_none w span keyed value (Some a) b e = cc

-- ---- expressions

module _ (C : Context) (V : VarSorts) where
  mutual
    -- an expression that is typed has said nothing
    pub quiet_typing : (w : Wanted) (known : List ℕ) (x : ExprTree) → IsQuiet (typing C V w known x)
    quiet_typing w known (at n span) = quiet_node w known span n

    quiet_node : (w : Wanted) (known : List ℕ) (span : Span) (n : ExprNode) → IsQuiet (node_typing C V w known span n)
    quiet_node w known span (tree.Int n) = quiet_is _
    quiet_node w known span (tree.Str n) = quiet_is _
    quiet_node w known span tree.True = quiet_is _
    quiet_node w known span tree.False = quiet_is _
    quiet_node w known span tree.Nothing = quiet_is _
    quiet_node w known span (tree.Name x) = quiet_named V known span x (C.meaning x)
    quiet_node w known span (tree.Neg e) = quiet_rule span _ (typing C V free known e) (quiet_typing free known e)
    quiet_node w known span (tree.Plus e) = quiet_rule span _ (typing C V free known e) (quiet_typing free known e)
    quiet_node w known span (tree.Not e) = quiet_made _ (typing C V test known e) (quiet_typing test known e)
    quiet_node w known span (tree.Bin o a b) = quiet_rule span _ (both (typing C V free known a) (typing C V free known b)) (quiet_both (typing C V free known a) (typing C V free known b) (quiet_typing free known a) (quiet_typing free known b))
    quiet_node w known span (tree.Compare e cs) =
        quiet_chain C.classes span (typing C V free known e) (operands C V known cs) (each_operand C V known cs) (operands_got C V known cs) (quiet_typing free known e) (quiet_operands known cs)
    quiet_node w known span (tree.And a b) =
        quiet_rule span _ (both (typing C V (operand w) known a) (typing C V (operand w) (facts C true a ++ known) b)) (quiet_both (typing C V (operand w) known a) (typing C V (operand w) (facts C true a ++ known) b) (quiet_typing (operand w) known a) (quiet_typing (operand w) (facts C true a ++ known) b))
    quiet_node w known span (tree.Or a b) =
        quiet_rule span _ (both (typing C V (operand w) known a) (typing C V (operand w) (facts C false a ++ known) b)) (quiet_both (typing C V (operand w) known a) (typing C V (operand w) (facts C false a ++ known) b) (quiet_typing (operand w) known a) (quiet_typing (operand w) (facts C false a ++ known) b))
    quiet_node w known span (tree.Cond a t b) =
        let sa = typing C V free (facts C true t ++ known) a in
        let st = typing C V test known t in
        let sb = typing C V free (facts C false t ++ known) b in
        quiet_rule span _ (both (both sa st) sb) (quiet_both (both sa st) sb (quiet_both sa st (quiet_typing free (facts C true t ++ known) a) (quiet_typing test known t)) (quiet_typing free (facts C false t ++ known) b))
    quiet_node w known span (tree.ListOf es) = quiet_rule span _ (items C V (items_row (item_sort w)) 0 known es) (quiet_items (items_row (item_sort w)) 0 known es)
    quiet_node w known span (tree.TupleOf es) = quiet_rule span _ (items C V (parts_row w (count es)) 0 known es) (quiet_items (parts_row w (count es)) 0 known es)
    quiet_node w known span (tree.Index e i) = quiet_rule span _ (both (typing C V free known e) (typing C V free known i)) (quiet_both (typing C V free known e) (typing C V free known i) (quiet_typing free known e) (quiet_typing free known i))
    quiet_node w known span (tree.Call f args) =
        quiet_after (part C V known f) (λ p. behind (arguments C V (arguments_row C (callee C f) p) 0 known args) (called C w span (has_key args) (callee C f) p)) (quiet_part known f)
        (λ p. quiet_after (arguments C V (arguments_row C (callee C f) p) 0 known args) (called C w span (has_key args) (callee C f) p) (quiet_arguments (arguments_row C (callee C f) p) 0 known args) (λ es. quiet_called C w span (has_key args) (callee C f) p es) (λ none b e. absurd (called_none C w span (has_key args) (callee C f) p b e)))
        (λ none b e. call_unsaid C V known f args w span (lost C V known f) b e)
    quiet_node w known span (tree.Attr e a) = quiet_behind (typing C V free known e) (attribute C span a) (quiet_typing free known e) refl (λ t. quiet_read C.classes span t a (look_up C.member (type_of t) a))
    quiet_node w known span (tree.DictOf es) =
        quiet_rule span _ (entries C V (key_wanted (entry_sorts w)) (value_wanted (entry_sorts w)) known es) (quiet_entries (key_wanted (entry_sorts w)) (value_wanted (entry_sorts w)) known es)

    quiet_items : (row : WantedRow) (i : ℕ) (known : List ℕ) (es : ExprTrees) → IsQuiet (items C V row i known es)
    quiet_items row i known no_exprs = quiet_is []
    quiet_items row i known (expr_then e more) = quiet_row (typing C V (wanted_in row i) known e) (items C V row (suc i) known more) (quiet_typing (wanted_in row i) known e) (quiet_items row (suc i) known more)

    pub quiet_entries : (w v : Wanted) (known : List ℕ) (es : Entries) → IsQuiet (entries C V w v known es)
    quiet_entries w v known no_entries = quiet_is []
    quiet_entries w v known (entry_then k e more) =
        quiet_row (both (typing C V w known k) (typing C V v known e)) (entries C V w v known more) (quiet_both (typing C V w known k) (typing C V v known e) (quiet_typing w known k) (quiet_typing v known e)) (quiet_entries w v known more)

    quiet_operands : (known : List ℕ) (cs : Comparisons) → IsQuiet (operands C V known cs)
    quiet_operands known no_comparisons = quiet_is []
    quiet_operands known (comparison_then o e more) =
        quiet_row (made (λ t. (o, t)) (typing C V free known e)) (operands C V known more) (quiet_made (λ t. (o, t)) (typing C V free known e) (quiet_typing free known e)) (quiet_operands known more)

    quiet_arguments : (row : WantedRow) (i : ℕ) (known : List ℕ) (args : Arguments) → IsQuiet (arguments C V row i known args)
    quiet_arguments row i known no_arguments = quiet_is []
    quiet_arguments row i known (argument_then e more) = quiet_row (typing C V (wanted_in row i) known e) (arguments C V row (suc i) known more) (quiet_typing (wanted_in row i) known e) (quiet_arguments row (suc i) known more)
    quiet_arguments row i known (keyed_then k e more) = quiet_row (typing C V (wanted_in row i) known e) (arguments C V row (suc i) known more) (quiet_typing (wanted_in row i) known e) (quiet_arguments row (suc i) known more)

    quiet_part : (known : List ℕ) (f : ExprTree) → IsQuiet (part C V known f)
    quiet_part known (at n span) = quiet_if (is_named C n) (receiver C V known n) (node_typing C V free known span n) (quiet_receiver known n) (quiet_node free known span n)

    quiet_receiver : (known : List ℕ) (n : ExprNode) → IsQuiet (receiver C V known n)
    quiet_receiver known (tree.Attr e m) = quiet_if (is_super_init C (tree.Attr e m)) silent (typing C V free known e) quiet_silent (quiet_typing free known e)
    quiet_receiver known (tree.Int n) = quiet_silent
    quiet_receiver known (tree.Str n) = quiet_silent
    quiet_receiver known tree.True = quiet_silent
    quiet_receiver known tree.False = quiet_silent
    quiet_receiver known tree.Nothing = quiet_silent
    quiet_receiver known (tree.Name x) = quiet_silent
    quiet_receiver known (tree.Neg e) = quiet_silent
    quiet_receiver known (tree.Plus e) = quiet_silent
    quiet_receiver known (tree.Not e) = quiet_silent
    quiet_receiver known (tree.Bin o a b) = quiet_silent
    quiet_receiver known (tree.Compare a cs) = quiet_silent
    quiet_receiver known (tree.And a b) = quiet_silent
    quiet_receiver known (tree.Or a b) = quiet_silent
    quiet_receiver known (tree.Cond a t b) = quiet_silent
    quiet_receiver known (tree.ListOf es) = quiet_silent
    quiet_receiver known (tree.DictOf es) = quiet_silent
    quiet_receiver known (tree.TupleOf es) = quiet_silent
    quiet_receiver known (tree.Index e i) = quiet_silent
    quiet_receiver known (tree.Call f args) = quiet_silent
