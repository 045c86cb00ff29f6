-- What is not typed has said why, where no name is without a type and each is known: of the words of typing, and of each kind of
-- expression.
use Rattle.std.proofs.Common.{◌≡◌, ℕ, suc, Bool, true, false, List, [], ◌∷◌, ◌++◌, map, Option, Some, None, Result, Ok, Err, refl, ap, sym, ◌∙◌, subst, not, ◌&&◌, ◌||◌, if◌then◌else◌, codes, slice_get, ◌⊎◌, inl, inr}
use Rattle.std.specs.Prelude.{is_none}
use Rattle.std.specs.Str.{bytes_eq}
use Rattle.std.specs.Option.{option_map, option_zip}
use Rattle.py_syntax.specs.declared.token.Span.{Span}
use Rattle.py_syntax.specs.declared.expression.CmpOp.{CmpOp}
use Rattle.py_syntax.specs.Expressions as tree
use Rattle.py_syntax.specs.Expressions.{ExprTree, ExprNode, at, ExprTrees, no_exprs, expr_then, Comparisons, no_comparisons, comparison_then, Entries, no_entries, entry_then, Arguments, no_arguments, argument_then, keyed_then}
use Rattle.py_typed.specs.Sorts as sort
use Rattle.py_typed.specs.Sorts.{Sort, Instance, Nothing}
use Rattle.py_typed.specs.Classes.{ClassEntry, Signature}
use Rattle.py_typed.specs.WellTypedExpr.{is_trait_in}
use Rattle.py_typed.specs.Expressions as node
use Rattle.py_typed.specs.Expressions.{TypedExpr, TypedNode, TypedExprs, type_of}
use Rattle.py_typed.specs.Narrowing.{is_in}
use Rattle.py_binder.specs.Sights.{Sight, reads, node_reads, exprs_reads, comparisons_reads, entries_reads, arguments_reads}
use Rattle.py_binder.specs.declared.sight.Manner.TheVariants.{Value}
use Rattle.py_check_context.specs.declared.scope.Meaning.{Meaning}
use Rattle.py_check_context.specs.declared.scope.Meaning.TheVariants as meaning
use Rattle.py_check_context.specs.declared.scope.Builtin.{Builtin}
use Rattle.py_check_context.specs.declared.scope.Builtin.TheVariants as builtin
use Rattle.py_check_context.specs.declared.scope.Imported.{Imported}
use Rattle.py_check_context.specs.declared.scope.Imported.TheVariants as imported
use Rattle.py_check_context.specs.Members as member
use Rattle.py_check_context.specs.Members.{Member, Inside}
use Rattle.py_check_context.specs.Context.{Context, VarSort, unset, untyped, has, VarSorts, var_at, Wanted, free, test, WantedRow, wanted_in, some_signature}
use Rattle.py_check_messages.specs.Seen.{Seen, Message, diag, is, silent, fails, both, judged, behind, rule, made, ruled}
use Rattle.py_check_messages.specs.Rows.{row_then}
use Rattle.py_check_annotations.specs.Names.{is_unknown, any_unknown}
use Rattle.py_check_operators.specs.Facts.{facts}
use Rattle.py_check_operators.specs.Names.{variable, named}
use Rattle.py_check_operators.specs.Chains.{pairs_faults, all_typed, chain_of}
use Rattle.py_check_operators.proofs.ChainLemmas.{chain_made}
use Rattle.py_check_operators.specs.Choices.{operand}
use Rattle.py_check_displays.specs.Displays.{item_sort, items_row, parts_row}
use Rattle.py_check_displays.specs.Dicts.{entry_sorts, key_wanted, value_wanted}
use Rattle.py_check_calls.specs.Callees.{Callee, function, class, trait, super_init, print, input, range, single, exception, method, voiceless, uncalled, value, callee, has_key, is_variable, function_called, init_takes, instance_called, trait_called, class_called, is_super_init, next_called, super_called_in, super_called, builtin_called, import_called, name_called}
use Rattle.py_check_calls.specs.Methods.{Had, has_attribute, has_method, has_append, has_pop, has_untyped, none_has_not, has_not, instance_has, optional_has, list_has, look_up, read, attribute}
use Rattle.py_check_calls.specs.Calls.{arguments_row, positional, no_keys, refused, takes, taken, init_name, call_made, call_of, call_by, signed_call, had_call, method_call, called}
use Rattle.py_check_messages.specs.Messages.{range_outside_for, not_callable}
use Rattle.py_check_expressions.specs.Typing.{typing, node_typing, items, entries, operands, each_operand, arguments, part, count}
use Rattle.py_check_expressions.proofs.RowLemmas.{operands_got}
use Rattle.py_check_expressions_laws.specs.Laws.{is_voiceless, is_untyped, is_voiceless_member, is_voiceless_init, is_voiceless_inside, AllHaveTypes}
use Rattle.py_check_expressions_laws.proofs.Known.{known_left, known_right, known_name}

pub record IsLoud {A : Type 0} (s : Seen A) : Type 0 where
  pub says : s.got ≡ None → s.said ≡ [] → ⊥

pub loud_is : {A : Type 0} (a : A) → IsLoud (is a)
loud_is a = record { says = λ e f. absurd (cc) }

pub loud_fails : {A : Type 0} (span : Span) (m : Message) → IsLoud (fails {A = A} span m)
loud_fails span m = record { says = λ e f. absurd (cc) }

pub none_before : {A : Type 0} (xs ys : List A) → xs ++ ys ≡ [] → xs ≡ []
none_before [] ys e = refl
none_before (x ∷ xs) ys e = absurd (cc)

pub none_behind : {A : Type 0} (xs ys : List A) → xs ++ ys ≡ [] → ys ≡ []
none_behind [] ys e = e
none_behind (x ∷ xs) ys e = absurd (cc)

pub both_say : {A B : Type 0} (s : Seen A) (t : Seen B) → IsLoud s → IsLoud t → (a : Option A) (b : Option B) → s.got ≡ a → t.got ≡ b → option_zip a b ≡ None → s.said ++ t.said ≡ [] → ⊥
both_say s t ls lt None b ea eb e f = ls.says ea (none_before s.said t.said f)
both_say s t ls lt (Some a) None ea eb e f = lt.says eb (none_behind s.said t.said f)
both_say s t ls lt (Some a) (Some b) ea eb e f = absurd (cc)

pub loud_both : {A B : Type 0} (s : Seen A) (t : Seen B) → IsLoud s → IsLoud t → IsLoud (both s t)
loud_both s t ls lt = record { says = λ e f. both_say s t ls lt s.got t.got refl refl e f }

pub made_says : {A B : Type 0} (f : A → B) (s : Seen A) → IsLoud s → (a : Option A) → s.got ≡ a → option_map f a ≡ None → s.said ≡ [] → ⊥
made_says f s l None ea e g = l.says ea g
made_says f s l (Some a) ea e g = absurd (cc)

pub loud_made : {A B : Type 0} (f : A → B) (s : Seen A) → IsLoud s → IsLoud (made f s)
loud_made f s l = record { says = λ e g. made_says f s l s.got refl e g }

-- the parts have said why, or what stands behind them does without them
pub behind_says : {A B : Type 0} (s : Seen A) (f : Option A → Seen B) → IsLoud s ⊎ IsLoud (f None) → ((a : A) → IsLoud (f (Some a))) → (o : Option A) → s.got ≡ o → (f s.got).got ≡ None → s.said ++ (f s.got).said ≡ [] → ⊥
behind_says s f (inl l) each None eo e g = l.says eo (none_before s.said (f s.got).said g)
behind_says s f (inr l) each None eo e g = l.says (sym (ap (λ o. (f o).got) eo) ∙ e) (sym (ap (λ o. (f o).said) eo) ∙ none_behind s.said (f s.got).said g)
behind_says s f l each (Some a) eo e g = (each a).says (sym (ap (λ o. (f o).got) eo) ∙ e) (sym (ap (λ o. (f o).said) eo) ∙ none_behind s.said (f s.got).said g)

pub loud_either : {A B : Type 0} (s : Seen A) (f : Option A → Seen B) → IsLoud s ⊎ IsLoud (f None) → ((a : A) → IsLoud (f (Some a))) → IsLoud (behind s f)
loud_either s f l each = record { says = λ e g. behind_says s f l each s.got refl e g }

pub loud_behind : {A B : Type 0} (s : Seen A) (f : Option A → Seen B) → IsLoud s → ((a : A) → IsLoud (f (Some a))) → IsLoud (behind s f)
loud_behind s f l each = loud_either s f (inl l) each

unmapped : (span : Span) (ms : List Message) → map (diag span) ms ≡ [] → ms ≡ []
unmapped span [] e = refl
unmapped span (m ∷ ms) e = absurd (cc)

-- a chain and what is said of its operands, a row of which is typed where each is
loud_chain : (classes : List ClassEntry) (span : Span) (s : Seen TypedExpr) (r : Seen (List (CmpOp × TypedExpr))) (ps : List (CmpOp × Option TypedExpr)) → r.got ≡ all_typed ps → IsLoud s → IsLoud r → IsLoud (chain_of classes span s.got ps (s.said ++ r.said))
loud_chain classes span s r ps g ls lr = record { says = λ e f. by (option_zip s.got (all_typed ps)) refl e f }
  where
    by : (o : Option (TypedExpr × List (CmpOp × TypedExpr))) → option_zip s.got (all_typed ps) ≡ o → (chain_of classes span s.got ps (s.said ++ r.said)).got ≡ None → map (diag span) (pairs_faults classes s.got ps) ++ (s.said ++ r.said) ≡ [] → ⊥
    by None z e f = (loud_both s r ls lr).says (ap (option_zip s.got) g ∙ z) (none_behind (map (diag span) (pairs_faults classes s.got ps)) (s.said ++ r.said) f)
    by (Some p) z e f =
        let none = unmapped span (pairs_faults classes s.got ps) (none_before (map (diag span) (pairs_faults classes s.got ps)) (s.said ++ r.said) f) in
        let made = chain_made classes span s.got ps (s.said ++ r.said) p z none in
        let h = sym e ∙ made.1 in absurd (cc)

pub loud_judged : {A : Type 0} (span : Span) (r : Result A Message) → IsLoud (judged span r)
loud_judged span (Ok a) = loud_is a
loud_judged span (Err m) = loud_fails span m

pub loud_rule : {A B : Type 0} (span : Span) (f : A → Result B Message) (s : Seen A) → IsLoud s → IsLoud (rule span f s)
loud_rule span f s l = loud_behind s (ruled span f) l (λ a. loud_judged span (f a))

pub loud_row : {A : Type 0} (one : Seen A) (rest : Seen (List A)) → IsLoud one → IsLoud rest → IsLoud (row_then one rest)
loud_row one rest l r = loud_made (λ p. p.0 ∷ p.1) (both one rest) (loud_both one rest l r)

on_right : {A B D : Type 0} → A ⊎ B → (B → D) → A ⊎ D
on_right (inl a) f = inl a
on_right (inr b) f = inr (f b)

-- ---- names

loud_variable : (span : Span) (x : List ℕ) (e : TypedNode) (known : Bool) (v : VarSort) → is_untyped v ≡ false → IsLoud (variable span x e known v)
loud_variable span x e known unset u = loud_fails span _
loud_variable span x e known untyped u = absurd (cc)
loud_variable span x e known (has t) u = loud_is _

-- ---- calls

pub loud_positional : (span : Span) (keyed : Bool) (es : List TypedExpr) → IsLoud (positional span keyed (Some es))
loud_positional span keyed es = loud_judged span (no_keys keyed es)

-- what a value has under a name of which nothing is said
abbrev is_silent : List (Option Signature) → Had → Bool
is_silent signatures has_untyped = true
is_silent signatures (has_method f) = is_none (some_signature (slice_get signatures f))
is_silent signatures h = false

loud_read : (signatures : List (Option Signature)) (classes : List ClassEntry) (span : Span) (e : TypedExpr) (a : List ℕ) (h : Had) → is_silent signatures h ≡ false → IsLoud (read classes span e a h)
loud_read signatures classes span e a (has_attribute t) q = loud_is _
loud_read signatures classes span e a (has_method f) q = loud_fails span _
loud_read signatures classes span e a (has_append t) q = loud_fails span _
loud_read signatures classes span e a (has_pop t) q = loud_fails span _
loud_read signatures classes span e a has_untyped q = absurd (cc)
loud_read signatures classes span e a none_has_not q = loud_fails span _
loud_read signatures classes span e a has_not q = loud_fails span _

loud_taken : {B : Type 0} (span : Span) (keyed : Bool) (f : List TypedExpr → Result B Message) (es : List TypedExpr) → IsLoud (rule span f (positional span keyed (Some es)))
loud_taken span keyed f es = loud_rule span f (positional span keyed (Some es)) (loud_positional span keyed es)

-- whether what is called says something where all that is typed of the call is
abbrev is_heard : Callee → Option TypedExpr → Bool
is_heard voiceless part = false
is_heard (method m) part = not (is_none part)
is_heard value part = not (is_none part)
is_heard f part = true

module _ (C : Context) (no_silent : (t : Sort) (a : List ℕ) → is_silent C.signatures (look_up C.member t a) ≡ false) where
  loud_by : (w : Wanted) (span : Span) (keyed : Bool) (f : List ℕ) (s : Signature) (make : TypedExprs → TypedNode) (es : List TypedExpr) → IsLoud (call_by C w span keyed f s make (Some es))
  loud_by w span keyed f s make es =
      loud_behind (positional span keyed (Some es)) (call_of C w span f s make) (loud_positional span keyed es) (λ ts. loud_made (call_made span s make) (judged span (taken C.classes w f s ts)) (loud_judged span (taken C.classes w f s ts)))

  loud_signed : (w : Wanted) (span : Span) (keyed : Bool) (m : List ℕ) (e : TypedExpr) (s : Option Signature) (es : List TypedExpr) → is_none s ≡ false → IsLoud (signed_call C w span keyed m e s (Some es))
  loud_signed w span keyed m e None es q = absurd (cc)
  loud_signed w span keyed m e (Some s) es q = loud_by w span keyed m s (node.Method e m) es

  loud_had : (w : Wanted) (span : Span) (keyed : Bool) (m : List ℕ) (e : TypedExpr) (h : Had) (es : List TypedExpr) → is_silent C.signatures h ≡ false → IsLoud (had_call C w span keyed m e h (Some es))
  loud_had w span keyed m e (has_method f) es q = loud_signed w span keyed m e (some_signature (slice_get C.signatures f)) es q
  loud_had w span keyed m e (has_append t) es q = loud_taken span keyed _ es
  loud_had w span keyed m e (has_pop t) es q = loud_taken span keyed _ es
  loud_had w span keyed m e (has_attribute t) es q = loud_taken span keyed (refused not_callable) es
  loud_had w span keyed m e has_untyped es q = absurd (cc)
  loud_had w span keyed m e none_has_not es q = loud_taken span keyed (refused _) es
  loud_had w span keyed m e has_not es q = loud_taken span keyed (refused _) es

  loud_method : (w : Wanted) (span : Span) (keyed : Bool) (m : List ℕ) (e : TypedExpr) (es : List TypedExpr) → IsLoud (method_call C w span keyed m e (Some es))
  loud_method w span keyed m e es = by (bytes_eq m (codes "__init__"))
    where
      by : (b : Bool) → IsLoud (if b then rule span (refused not_callable) (positional span keyed (Some es)) else had_call C w span keyed m e (look_up C.member (type_of e) m) (Some es))
      by true = loud_taken span keyed (refused not_callable) es
      by false = loud_had w span keyed m e (look_up C.member (type_of e) m) es (no_silent (type_of e) m)

  loud_called : (w : Wanted) (span : Span) (keyed : Bool) (f : Callee) (p : Option TypedExpr) (es : List TypedExpr) → is_heard f p ≡ true → IsLoud (called C w span keyed f p (Some es))
  loud_called w span keyed (function x i s) p es h = loud_by w span keyed x s (node.Call i) es
  loud_called w span keyed (class x n params) p es h = loud_by w span keyed x (takes params (Instance n)) (node.Make n) es
  loud_called w span keyed (trait x params) p es h = loud_taken span keyed (refused _) es
  loud_called w span keyed (super_init next params) p es h = loud_by w span keyed init_name (takes params Nothing) (node.SuperInit next) es
  loud_called w span keyed print p es h = loud_taken span keyed _ es
  loud_called w span keyed input p es h = loud_taken span keyed _ es
  loud_called w span keyed range p es h = loud_taken span keyed (refused range_outside_for) es
  loud_called w span keyed (single f) p es h = loud_taken span keyed _ es
  loud_called w span keyed (exception x) p es h = loud_taken span keyed _ es
  loud_called w span keyed (method m) None es h = absurd (cc)
  loud_called w span keyed (method m) (Some e) es h = loud_method w span keyed m e es
  loud_called w span keyed voiceless p es h = absurd (cc)
  loud_called w span keyed uncalled p es h = loud_taken span keyed (refused not_callable) es
  loud_called w span keyed value None es h = absurd (cc)
  loud_called w span keyed value (Some e) es h = loud_taken span keyed (refused not_callable) es

abbrev is_mute : Callee → Bool
is_mute voiceless = true
is_mute f = false

heard_with : (f : Callee) (e : TypedExpr) → is_mute f ≡ false → is_heard f (Some e) ≡ true
heard_with (function x i s) e h = refl
heard_with (class x n params) e h = refl
heard_with (trait x params) e h = refl
heard_with (super_init next params) e h = refl
heard_with print e h = refl
heard_with input e h = refl
heard_with range e h = refl
heard_with (single f) e h = refl
heard_with (exception x) e h = refl
heard_with (method m) e h = refl
heard_with voiceless e h = absurd (cc)
heard_with uncalled e h = refl
heard_with value e h = refl

-- a callee that is no value is heard without a typed part too
abbrev is_by_name : Callee → Bool
is_by_name (method m) = false
is_by_name value = false
is_by_name voiceless = false
is_by_name f = true

heard_alone : (f : Callee) → is_by_name f ≡ true → is_heard f None ≡ true
heard_alone (function x i s) h = refl
heard_alone (class x n params) h = refl
heard_alone (trait x params) h = refl
heard_alone (super_init next params) h = refl
heard_alone print h = refl
heard_alone input h = refl
heard_alone range h = refl
heard_alone (single f) h = refl
heard_alone (exception x) h = refl
heard_alone (method m) h = absurd (cc)
heard_alone voiceless h = absurd (cc)
heard_alone uncalled h = refl
heard_alone value h = absurd (cc)

unmute : (f : Callee) → is_by_name f ≡ true → is_mute f ≡ false
unmute (function x i s) h = refl
unmute (class x n params) h = refl
unmute (trait x params) h = refl
unmute (super_init next params) h = refl
unmute print h = refl
unmute input h = refl
unmute range h = refl
unmute (single f) h = refl
unmute (exception x) h = refl
unmute (method m) h = refl
unmute voiceless h = absurd (cc)
unmute uncalled h = refl
unmute value h = refl

function_named : (x : List ℕ) (i : ℕ) (s : Option Signature) → is_none s ≡ false → is_by_name (function_called x i s) ≡ true
function_named x i None h = absurd (cc)
function_named x i (Some s) h = refl

builtin_named : (b : Builtin) → is_by_name (builtin_called b) ≡ true
builtin_named builtin.Print = refl
builtin_named builtin.Input = refl
builtin_named builtin.Len = refl
builtin_named builtin.Range = refl
builtin_named builtin.Str = refl
builtin_named builtin.Int = refl
builtin_named builtin.Bool = refl
builtin_named builtin.List = refl
builtin_named builtin.Dict = refl
builtin_named builtin.Tuple = refl
builtin_named builtin.Super = refl

import_named : (i : Imported) → is_by_name (import_called i) ≡ true
import_named imported.I64 = refl
import_named imported.Optional = refl
import_named imported.List = refl
import_named imported.Dict = refl
import_named imported.Tuple = refl
import_named imported.Trait = refl
import_named imported.Annotations = refl

-- ---- members

instance_heard : (signatures : List (Option Signature)) (o : Option Member) → is_voiceless_member signatures o ≡ false → is_silent signatures (instance_has o) ≡ false
instance_heard signatures None h = refl
instance_heard signatures (Some (member.attribute t)) h = refl
instance_heard signatures (Some member.untyped) h = absurd (cc)
instance_heard signatures (Some (member.unknown place)) h = absurd (cc)
instance_heard signatures (Some (member.method f)) h = h

optional_heard : (signatures : List (Option Signature)) (o : Option Member) → is_voiceless_member signatures o ≡ false → is_silent signatures (optional_has o) ≡ false
optional_heard signatures None h = refl
optional_heard signatures (Some (member.attribute t)) h = refl
optional_heard signatures (Some member.untyped) h = absurd (cc)
optional_heard signatures (Some (member.unknown place)) h = absurd (cc)
optional_heard signatures (Some (member.method f)) h = refl

list_heard : (signatures : List (Option Signature)) (t : Sort) (a : List ℕ) → is_silent signatures (list_has t a) ≡ false
list_heard signatures t a = by (bytes_eq a (codes "append")) (bytes_eq a (codes "pop"))
  where
    by : (b d : Bool) → is_silent signatures (if b then has_append t else (if d then has_pop t else has_not)) ≡ false
    by true d = refl
    by false true = refl
    by false false = refl

had_heard : (C : Context) → ((n : ℕ) (a : List ℕ) → is_voiceless_member C.signatures (C.member n a) ≡ false) → (t : Sort) (a : List ℕ) → is_silent C.signatures (look_up C.member t a) ≡ false
had_heard C h (sort.Instance n) a = instance_heard C.signatures (C.member n a) (h n a)
had_heard C h (sort.Optional (sort.Instance n)) a = optional_heard C.signatures (C.member n a) (h n a)
had_heard C h (sort.Optional sort.Int) a = refl
had_heard C h (sort.Optional sort.I64) a = refl
had_heard C h (sort.Optional sort.Bool) a = refl
had_heard C h (sort.Optional sort.Str) a = refl
had_heard C h (sort.Optional sort.Nothing) a = refl
had_heard C h (sort.Optional (sort.ListOf t)) a = refl
had_heard C h (sort.Optional (sort.DictOf k t)) a = refl
had_heard C h (sort.Optional (sort.TupleOf ts)) a = refl
had_heard C h (sort.Optional (sort.Optional t)) a = refl
had_heard C h (sort.Optional (sort.Exc x)) a = refl
had_heard C h (sort.ListOf t) a = list_heard C.signatures t a
had_heard C h sort.Int a = refl
had_heard C h sort.I64 a = refl
had_heard C h sort.Bool a = refl
had_heard C h sort.Str a = refl
had_heard C h sort.Nothing a = refl
had_heard C h (sort.DictOf k t) a = refl
had_heard C h (sort.TupleOf ts) a = refl
had_heard C h (sort.Exc x) a = refl

-- ---- expressions

module _ (C : Context) (V : VarSorts) (all : AllHaveTypes C V) where
  -- each name that is read or bound there is known
  abbrev AreKnown : List Sight → Type 0
  AreKnown sights = any_unknown C.meaning sights ≡ false

  in_front : (xs ys : List Sight) → AreKnown (xs ++ ys) → AreKnown xs
  in_front xs ys h = known_left C.meaning xs ys h

  at_back : (xs ys : List Sight) → AreKnown (xs ++ ys) → AreKnown ys
  at_back xs ys h = known_right C.meaning xs ys h

  no_silent : (t : Sort) (a : List ℕ) → is_silent C.signatures (look_up C.member t a) ≡ false
  no_silent t a = had_heard C all.members t a

  takes_some : (o : Option ℕ) → is_voiceless_init C.signatures o ≡ false → is_none (init_takes C o) ≡ false
  takes_some None h = refl
  takes_some (Some f) h = by (some_signature (slice_get C.signatures f)) h
    where
      by : (s : Option Signature) → is_none s ≡ false → is_none (option_map (λ t. t.params) s) ≡ false
      by None g = absurd (cc)
      by (Some s) g = refl

  class_named : (x : List ℕ) (n : ℕ) (b : Bool) → is_by_name (class_called C x n b) ≡ true
  class_named x n true = by (init_takes C (C.init n))
    where
      by : (o : Option (List Sort)) → is_by_name (trait_called x o) ≡ true
      by None = refl
      by (Some params) = refl
  class_named x n false = by (init_takes C (C.init n)) (takes_some (C.init n) (all.inits n))
    where
      by : (o : Option (List Sort)) → is_none o ≡ false → is_by_name (instance_called x n o) ≡ true
      by None h = absurd (cc)
      by (Some params) h = refl

  next_named : (next : Option ℕ) (o : Option (List Sort)) → is_none o ≡ false → is_by_name (next_called next o) ≡ true
  next_named next None h = absurd (cc)
  next_named next (Some params) h = refl

  super_named : (o : Option Inside) → is_voiceless_inside C.signatures o ≡ false → is_by_name (super_called C o) ≡ true
  super_named None h = refl
  super_named (Some i) h = by i.is_init i.class h
    where
      in_class : (n : ℕ) (b : Bool) → is_voiceless_init C.signatures i.next_init ≡ false → is_by_name (if b then uncalled else next_called i.next_init (init_takes C i.next_init)) ≡ true
      in_class n true g = refl
      in_class n false g = next_named i.next_init (init_takes C i.next_init) (takes_some i.next_init g)

      by : (b : Bool) (o : Option ℕ) → (b && (is_none o || is_voiceless_init C.signatures i.next_init)) ≡ false → is_by_name (if b then super_called_in C o i.next_init else uncalled) ≡ true
      by false o g = refl
      by true None g = absurd (cc)
      by true (Some n) g = in_class n (is_trait_in (slice_get C.classes n)) g

  name_named : (x : List ℕ) (m : Meaning) → is_voiceless C.signatures m ≡ false → is_unknown m ≡ false → is_variable m ≡ false → is_by_name (name_called C x m) ≡ true
  name_named x (meaning.Local i) h u v = absurd (cc)
  name_named x (meaning.Global i) h u v = absurd (cc)
  name_named x meaning.ModuleName h u v = refl
  name_named x meaning.Untyped h u v = absurd (cc)
  name_named x meaning.UntypedClass h u v = absurd (cc)
  name_named x meaning.Unknown h u v = absurd (cc)
  name_named x (meaning.Function i) h u v = function_named x i (some_signature (slice_get C.signatures i)) h
  name_named x (meaning.Class i) h u v = class_named x i (is_trait_in (slice_get C.classes i))
  name_named x (meaning.Exception k) h u v = refl
  name_named x (meaning.Import i) h u v = import_named i
  name_named x (meaning.Builtin b) h u v = builtin_named b

  name_heard : (x : List ℕ) (m : Meaning) → is_voiceless C.signatures m ≡ false → is_unknown m ≡ false → is_mute (name_called C x m) ≡ false
  name_heard x m h u = by (is_variable m) refl m refl
    where
      variable_heard : (m : Meaning) → is_variable m ≡ true → is_mute (name_called C x m) ≡ false
      variable_heard (meaning.Local i) v = refl
      variable_heard (meaning.Global i) v = refl
      variable_heard meaning.ModuleName v = absurd (cc)
      variable_heard meaning.Untyped v = absurd (cc)
      variable_heard meaning.UntypedClass v = absurd (cc)
      variable_heard meaning.Unknown v = absurd (cc)
      variable_heard (meaning.Function i) v = absurd (cc)
      variable_heard (meaning.Class i) v = absurd (cc)
      variable_heard (meaning.Exception k) v = absurd (cc)
      variable_heard (meaning.Import i) v = absurd (cc)
      variable_heard (meaning.Builtin b) v = absurd (cc)

      by : (b : Bool) → is_variable m ≡ b → (n : Meaning) → m ≡ n → is_mute (name_called C x m) ≡ false
      by true v n e = variable_heard m v
      by false v n e = unmute (name_called C x m) (name_named x m h u v)

  loud_named : (known : List ℕ) (span : Span) (x : List ℕ) (m : Meaning) → is_voiceless C.signatures m ≡ false → is_unknown m ≡ false → IsLoud (named V known span x m)
  loud_named known span x (meaning.Local i) h u = loud_variable span x _ (is_in known i) (var_at V.locals i) (all.locals i)
  loud_named known span x (meaning.Global i) h u = loud_variable span x _ false (var_at V.globals i) (all.globals i)
  loud_named known span x meaning.ModuleName h u = loud_is _
  loud_named known span x meaning.Untyped h u = absurd (cc)
  loud_named known span x meaning.UntypedClass h u = absurd (cc)
  loud_named known span x meaning.Unknown h u = absurd (cc)
  loud_named known span x (meaning.Function i) h u = loud_fails span _
  loud_named known span x (meaning.Class i) h u = loud_fails span _
  loud_named known span x (meaning.Exception k) h u = loud_fails span _
  loud_named known span x (meaning.Import i) h u = loud_fails span _
  loud_named known span x (meaning.Builtin b) h u = loud_fails span _

  -- no callee is one of which nothing is said
  callee_heard : (f : ExprTree) → AreKnown (reads Value f) → is_mute (callee C f) ≡ false
  callee_heard (at (tree.Name x) span) k = name_heard x (C.meaning x) (all.names x) (known_name C.meaning x span k)
  callee_heard (at (tree.Attr e m) span) k = by (is_super_init C (tree.Attr e m))
    where
      by : (b : Bool) → is_mute (if b then super_called C C.inside else method m) ≡ false
      by true = unmute (super_called C C.inside) (super_named C.inside all.inside)
      by false = refl
  callee_heard _ k = refl

  -- what is typed of a name that is called, or else the name says something by itself
  name_case : (known : List ℕ) (span : Span) (x : List ℕ) (m : Meaning) → is_voiceless C.signatures m ≡ false → is_unknown m ≡ false → IsLoud (if not (is_variable m) then silent else named V known span x m) ⊎ (is_heard (name_called C x m) None ≡ true)
  name_case known span x (meaning.Local i) h u = inl (loud_named known span x (meaning.Local i) h u)
  name_case known span x (meaning.Global i) h u = inl (loud_named known span x (meaning.Global i) h u)
  name_case known span x meaning.ModuleName h u = inr refl
  name_case known span x meaning.Untyped h u = absurd (cc)
  name_case known span x meaning.UntypedClass h u = absurd (cc)
  name_case known span x meaning.Unknown h u = absurd (cc)
  name_case known span x (meaning.Function i) h u = inr (heard_alone (name_called C x (meaning.Function i)) (name_named x (meaning.Function i) h u refl))
  name_case known span x (meaning.Class i) h u = inr (heard_alone (name_called C x (meaning.Class i)) (name_named x (meaning.Class i) h u refl))
  name_case known span x (meaning.Exception k) h u = inr refl
  name_case known span x (meaning.Import i) h u = inr (heard_alone (import_called i) (import_named i))
  name_case known span x (meaning.Builtin b) h u = inr (heard_alone (builtin_called b) (builtin_named b))

  call_loud : (w : Wanted) (span : Span) (known : List ℕ) (f : ExprTree) (p : Option TypedExpr) (args : Arguments) → is_heard (callee C f) p ≡ true → IsLoud (arguments C V (arguments_row C (callee C f) p) 0 known args) → IsLoud (behind (arguments C V (arguments_row C (callee C f) p) 0 known args) (called C w span (has_key args) (callee C f) p))
  call_loud w span known f p args h l =
      loud_behind (arguments C V (arguments_row C (callee C f) p) 0 known args) (called C w span (has_key args) (callee C f) p) l
      (λ es. loud_called C no_silent w span (has_key args) (callee C f) p es h)

  attribute_case : (w : Wanted) (span : Span) (known : List ℕ) (place : Span) (e : ExprTree) (m : List ℕ) (args : Arguments) → IsLoud (typing C V free known e) → IsLoud (arguments C V (arguments_row C (callee C (at (tree.Attr e m) place)) None) 0 known args)
      → IsLoud (part C V known (at (tree.Attr e m) place)) ⊎ IsLoud (behind (arguments C V (arguments_row C (callee C (at (tree.Attr e m) place)) None) 0 known args) (called C w span (has_key args) (callee C (at (tree.Attr e m) place)) None))
  attribute_case w span known place e m args loud l = by (is_super_init C (tree.Attr e m)) refl
    where
      heard : is_super_init C (tree.Attr e m) ≡ true → is_heard (callee C (at (tree.Attr e m) place)) None ≡ true
      heard q = ap (λ b. is_heard (if b then super_called C C.inside else method m) None) q ∙ heard_alone (super_called C C.inside) (super_named C.inside all.inside)

      by : (b : Bool) → is_super_init C (tree.Attr e m) ≡ b → IsLoud (part C V known (at (tree.Attr e m) place)) ⊎ IsLoud (behind (arguments C V (arguments_row C (callee C (at (tree.Attr e m) place)) None) 0 known args) (called C w span (has_key args) (callee C (at (tree.Attr e m) place)) None))
      by true q = inr (call_loud w span known (at (tree.Attr e m) place) None args (heard q) l)
      by false q = inl (subst (λ b. IsLoud (if b then silent else typing C V free known e)) (sym q) loud)

  mutual
    -- an expression that is not typed has said why
    pub loud_typing : (w : Wanted) (known : List ℕ) (x : ExprTree) → AreKnown (reads Value x) → IsLoud (typing C V w known x)
    loud_typing w known (at n span) k = loud_node w known span n k

    pub loud_node : (w : Wanted) (known : List ℕ) (span : Span) (n : ExprNode) → AreKnown (node_reads Value n span) → IsLoud (node_typing C V w known span n)
    loud_node w known span (tree.Int n) k = loud_is _
    loud_node w known span (tree.Str n) k = loud_is _
    loud_node w known span tree.True k = loud_is _
    loud_node w known span tree.False k = loud_is _
    loud_node w known span tree.Nothing k = loud_is _
    loud_node w known span (tree.Name x) k = loud_named known span x (C.meaning x) (all.names x) (known_name C.meaning x span k)
    loud_node w known span (tree.Neg e) k = loud_rule span _ (typing C V free known e) (loud_typing free known e k)
    loud_node w known span (tree.Plus e) k = loud_rule span _ (typing C V free known e) (loud_typing free known e k)
    loud_node w known span (tree.Not e) k = loud_made _ (typing C V test known e) (loud_typing test known e k)
    loud_node w known span (tree.Bin o a b) k = loud_rule span _ (both (typing C V free known a) (typing C V free known b)) (loud_both (typing C V free known a) (typing C V free known b) (loud_typing free known a (in_front (reads Value a) (reads Value b) k)) (loud_typing free known b (at_back (reads Value a) (reads Value b) k)))
    loud_node w known span (tree.Compare e cs) k =
        loud_chain C.classes span (typing C V free known e) (operands C V known cs) (each_operand C V known cs) (operands_got C V known cs) (loud_typing free known e (in_front (reads Value e) (comparisons_reads Value cs) k)) (loud_operands known cs (at_back (reads Value e) (comparisons_reads Value cs) k))
    loud_node w known span (tree.And a b) k =
        loud_rule span _ (both (typing C V (operand w) known a) (typing C V (operand w) (facts C true a ++ known) b)) (loud_both (typing C V (operand w) known a) (typing C V (operand w) (facts C true a ++ known) b) (loud_typing (operand w) known a (in_front (reads Value a) (reads Value b) k)) (loud_typing (operand w) (facts C true a ++ known) b (at_back (reads Value a) (reads Value b) k)))
    loud_node w known span (tree.Or a b) k =
        loud_rule span _ (both (typing C V (operand w) known a) (typing C V (operand w) (facts C false a ++ known) b)) (loud_both (typing C V (operand w) known a) (typing C V (operand w) (facts C false a ++ known) b) (loud_typing (operand w) known a (in_front (reads Value a) (reads Value b) k)) (loud_typing (operand w) (facts C false a ++ known) b (at_back (reads Value a) (reads Value b) k)))
    loud_node w known span (tree.Cond a t b) k =
        let sa = typing C V free (facts C true t ++ known) a in
        let st = typing C V test known t in
        let sb = typing C V free (facts C false t ++ known) b in
        let behind_a = at_back (reads Value a) (reads Value t ++ reads Value b) k in
        loud_rule span _ (both (both sa st) sb) (loud_both (both sa st) sb (loud_both sa st (loud_typing free (facts C true t ++ known) a (in_front (reads Value a) (reads Value t ++ reads Value b) k)) (loud_typing test known t (in_front (reads Value t) (reads Value b) behind_a))) (loud_typing free (facts C false t ++ known) b (at_back (reads Value t) (reads Value b) behind_a)))
    loud_node w known span (tree.ListOf es) k = loud_rule span _ (items C V (items_row (item_sort w)) 0 known es) (loud_items (items_row (item_sort w)) 0 known es k)
    loud_node w known span (tree.TupleOf es) k = loud_rule span _ (items C V (parts_row w (count es)) 0 known es) (loud_items (parts_row w (count es)) 0 known es k)
    loud_node w known span (tree.Index e i) k = loud_rule span _ (both (typing C V free known e) (typing C V free known i)) (loud_both (typing C V free known e) (typing C V free known i) (loud_typing free known e (in_front (reads Value e) (reads Value i) k)) (loud_typing free known i (at_back (reads Value e) (reads Value i) k)))
    loud_node w known span (tree.Call f args) k =
        loud_either (part C V known f) (λ p. behind (arguments C V (arguments_row C (callee C f) p) 0 known args) (called C w span (has_key args) (callee C f) p)) (callee_case w span known f args (in_front (reads Value f) (arguments_reads Value args) k) (λ row. loud_arguments row 0 known args (at_back (reads Value f) (arguments_reads Value args) k)))
        (λ e. call_loud w span known f (Some e) args (heard_with (callee C f) e (callee_heard f (in_front (reads Value f) (arguments_reads Value args) k))) (loud_arguments (arguments_row C (callee C f) (Some e)) 0 known args (at_back (reads Value f) (arguments_reads Value args) k)))
    loud_node w known span (tree.Attr e a) k = loud_behind (typing C V free known e) (attribute C span a) (loud_typing free known e k) (λ t. loud_read C.signatures C.classes span t a (look_up C.member (type_of t) a) (no_silent (type_of t) a))
    loud_node w known span (tree.DictOf es) k =
        loud_rule span _ (entries C V (key_wanted (entry_sorts w)) (value_wanted (entry_sorts w)) known es) (loud_entries (key_wanted (entry_sorts w)) (value_wanted (entry_sorts w)) known es k)

    pub loud_items : (row : WantedRow) (i : ℕ) (known : List ℕ) (es : ExprTrees) → AreKnown (exprs_reads Value es) → IsLoud (items C V row i known es)
    loud_items row i known no_exprs u = loud_is []
    loud_items row i known (expr_then e more) u = loud_row (typing C V (wanted_in row i) known e) (items C V row (suc i) known more) (loud_typing (wanted_in row i) known e (in_front (reads Value e) (exprs_reads Value more) u)) (loud_items row (suc i) known more (at_back (reads Value e) (exprs_reads Value more) u))

    pub loud_entries : (w v : Wanted) (known : List ℕ) (es : Entries) → AreKnown (entries_reads Value es) → IsLoud (entries C V w v known es)
    loud_entries w v known no_entries u = loud_is []
    loud_entries w v known (entry_then k e more) u =
        let behind_key = at_back (reads Value k) (reads Value e ++ entries_reads Value more) u in
        loud_row (both (typing C V w known k) (typing C V v known e)) (entries C V w v known more)
        (loud_both (typing C V w known k) (typing C V v known e) (loud_typing w known k (in_front (reads Value k) (reads Value e ++ entries_reads Value more) u)) (loud_typing v known e (in_front (reads Value e) (entries_reads Value more) behind_key)))
        (loud_entries w v known more (at_back (reads Value e) (entries_reads Value more) behind_key))

    pub loud_operands : (known : List ℕ) (cs : Comparisons) → AreKnown (comparisons_reads Value cs) → IsLoud (operands C V known cs)
    loud_operands known no_comparisons u = loud_is []
    loud_operands known (comparison_then o e more) u =
        loud_row (made (λ t. (o, t)) (typing C V free known e)) (operands C V known more) (loud_made (λ t. (o, t)) (typing C V free known e) (loud_typing free known e (in_front (reads Value e) (comparisons_reads Value more) u))) (loud_operands known more (at_back (reads Value e) (comparisons_reads Value more) u))

    pub loud_arguments : (row : WantedRow) (i : ℕ) (known : List ℕ) (args : Arguments) → AreKnown (arguments_reads Value args) → IsLoud (arguments C V row i known args)
    loud_arguments row i known no_arguments u = loud_is []
    loud_arguments row i known (argument_then e more) u = loud_row (typing C V (wanted_in row i) known e) (arguments C V row (suc i) known more) (loud_typing (wanted_in row i) known e (in_front (reads Value e) (arguments_reads Value more) u)) (loud_arguments row (suc i) known more (at_back (reads Value e) (arguments_reads Value more) u))
    loud_arguments row i known (keyed_then k e more) u = loud_row (typing C V (wanted_in row i) known e) (arguments C V row (suc i) known more) (loud_typing (wanted_in row i) known e (in_front (reads Value e) (arguments_reads Value more) u)) (loud_arguments row (suc i) known more (at_back (reads Value e) (arguments_reads Value more) u))

    -- either what is typed of a callee has said why it is not, or the call does
    callee_case : (w : Wanted) (span : Span) (known : List ℕ) (f : ExprTree) (args : Arguments) → AreKnown (reads Value f) → ((row : WantedRow) → IsLoud (arguments C V row 0 known args)) → IsLoud (part C V known f) ⊎ IsLoud (behind (arguments C V (arguments_row C (callee C f) None) 0 known args) (called C w span (has_key args) (callee C f) None))
    callee_case w span known (at (tree.Name x) place) args u l = on_right (name_case known place x (C.meaning x) (all.names x) (known_name C.meaning x place u)) (λ h. call_loud w span known (at (tree.Name x) place) None args h (l (arguments_row C (callee C (at (tree.Name x) place)) None)))
    callee_case w span known (at (tree.Attr e m) place) args u l = attribute_case w span known place e m args (loud_typing free known e u) (l (arguments_row C (callee C (at (tree.Attr e m) place)) None))
    callee_case w span known (at n place) args u l = inl (loud_node free known place n u)
