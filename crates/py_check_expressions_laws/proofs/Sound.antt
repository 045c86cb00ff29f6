-- What is typed is well typed, of each kind of expression.
use Rattle.std.proofs.Common.{◌≡◌, ℕ, zero, suc, Bool, true, false, not, ◌&&◌, ◌==◌, List, [], ◌∷◌, ◌++◌, length, slice_get, Option, Some, None, refl, ap, sym, ◌∙◌, subst, if◌then◌else◌, arith}
use Rattle.std.proofs.lemmas.Bool.{and_from, or_left}
use Rattle.std.proofs.lemmas.Option.{same_Some}
use Rattle.std.specs.Option.{option_map}
use Rattle.py_syntax.specs.declared.token.Span.{Span}
use Rattle.py_syntax.specs.declared.expression.CmpOp.{CmpOp}
use Rattle.py_syntax.specs.Expressions as tree
use Rattle.py_syntax.specs.Expressions.{ExprTree, ExprNode, at, ExprTrees, no_exprs, expr_then, Comparisons, no_comparisons, comparison_then, Entries, no_entries, entry_then, Arguments, no_arguments, argument_then, keyed_then}
use Rattle.py_typed.specs.Sorts as sort
use Rattle.py_typed.specs.Sorts.{Sort, listed_sorts}
use Rattle.py_typed.specs.Classes.{ClassEntry, Signature}
use Rattle.py_typed.specs.Expressions as node
use Rattle.py_typed.specs.Expressions.{TypedExpr, TypedNode, typed, type_of, comparisons_of}
use Rattle.py_typed.specs.Statements.{Variable, TypedModule}
use Rattle.py_typed.specs.Narrowing as telling
use Rattle.py_typed.specs.Narrowing.{is_in}
use Rattle.py_typed.specs.WellTypedExpr.{is_literal, is_type, reads_as, declared, is_trait_in}
use Rattle.py_typed.proofs.FitLemmas.{type_is_itself, and_left, and_right}
use Rattle.std.specs.Str.{is_utf8, IsAscii}
use Rattle.std.proofs.lemmas.Str.{is_utf8-from_IsUtf8, IsUtf8-from_ascii}
use Rattle.std.specs.Prelude.{codes}
use Rattle.py_check_context.specs.declared.scope.Meaning.{Meaning}
use Rattle.py_check_context.specs.declared.scope.Meaning.TheVariants as meaning
use Rattle.py_check_context.specs.declared.scope.Builtin.{Builtin}
use Rattle.py_check_context.specs.declared.scope.Builtin.TheVariants as builtin
use Rattle.py_check_context.specs.declared.scope.Imported.{Imported}
use Rattle.py_check_context.specs.declared.scope.Imported.TheVariants as imported
use Rattle.py_check_context.specs.Members.{Inside}
use Rattle.py_check_context.specs.Context.{Context, VarSort, unset, untyped, has, VarSorts, var_at, Wanted, free, test, wants, dropped, WantedRow, along, wanted_in, some_signature}
use Rattle.py_check_messages.specs.Seen.{silent, both, behind, made}
use Rattle.py_check_operators.specs.Facts.{facts}
use Rattle.py_check_operators.specs.Names.{variable, named}
use Rattle.py_check_operators.specs.Operators.{negation, affirmation, inversion, arithmetic}
use Rattle.py_check_operators.specs.Chains.{faults_of, chain}
use Rattle.py_check_operators.specs.Choices.{junction, operand, choice}
use Rattle.py_check_displays.specs.Displays.{item_sort, items_row, list_display, parts_row, tuple_display}
use Rattle.py_check_displays.specs.Dicts.{entry_sorts, key_wanted, value_wanted, dict_display}
use Rattle.py_check_displays.specs.Indexing.{literal, indexing}
use Rattle.py_check_calls.specs.Callees.{method, uncalled, callee, is_variable, has_key, function_called, init_takes, instance_called, trait_called, next_called, class_called, is_super_init, super_called_in, super_called, builtin_called, import_called, name_called}
use Rattle.py_check_calls.specs.Methods.{attribute}
use Rattle.py_check_calls.specs.Calls.{arguments_row, called}
use Rattle.py_check_expressions.specs.Typing.{typing, node_typing, items, entries, operands, arguments, part, count}
use Rattle.py_check_expressions_laws.specs.WellTyped.{is_written, is_written_node, are_written, are_operands, are_entries, are_arguments, is_chain, is_asked, is_taken, is_good, Within, IsFunctionSigned, IsInitSigned, IsInside, Describes}
use Rattle.py_check_expressions_laws.proofs.Given.{Gives, gives_is, gives_silent, gives_fails, gives_any, gives_also, gives_both, gives_made, gives_rule, gives_ruled_all, gives_compare, gives_row, gives_behind, gives_after}
use Rattle.py_check_expressions_laws.proofs.Types.{result_of_value, reads_value}
use Rattle.py_check_expressions_laws.proofs.Stands.{stands_made, value_type}
use Rattle.py_check_expressions_laws.proofs.Telling.{told_typing}
use Rattle.py_check_expressions_laws.proofs.Rows.{parts_taken, is_sought, sought_of_asked, RowSound, RowAsked, Sound}
use Rattle.py_check_expressions_laws.proofs.Nodes.{value_sound, reads_fit, negation_sound, affirmation_sound, inversion_sound, arithmetic_sound, ChainSound, chain_sound, junction_sound, choice_sound, list_sound, tuple_sound, along_asked, indexing_sound}
use Rattle.py_check_expressions_laws.proofs.Dicts.{key_asked, value_asked, EntriesSound, dict_sound}
use Rattle.py_check_expressions_laws.proofs.Called.{Takes, takes_types, MembersKnown, CalleeKnown, read_sound, called_sound, row_asked}

-- the text that a module's name is
module_name_is_ascii : IsAscii (codes "__main__")
module_name_is_ascii zero = omega arith
module_name_is_ascii (suc zero) = omega arith
module_name_is_ascii (suc (suc zero)) = omega arith
module_name_is_ascii (suc (suc (suc zero))) = omega arith
module_name_is_ascii (suc (suc (suc (suc zero)))) = omega arith
module_name_is_ascii (suc (suc (suc (suc (suc zero))))) = omega arith
module_name_is_ascii (suc (suc (suc (suc (suc (suc zero)))))) = omega arith
module_name_is_ascii (suc (suc (suc (suc (suc (suc (suc zero))))))) = omega arith
module_name_is_ascii (suc (suc (suc (suc (suc (suc (suc (suc i)))))))) = omega arith

module_name_text : is_utf8 (codes "__main__") ≡ true
module_name_text = is_utf8-from_IsUtf8 (codes "__main__") (IsUtf8-from_ascii (codes "__main__") module_name_is_ascii)

three_parts : (a b c : Bool) → (a && b && c) ≡ true → (a ≡ true) × (b ≡ true) × (c ≡ true)
three_parts true true true h = (refl, refl, refl)
three_parts _ _ _ h = absurd (cc)

-- a context with other classes
abbrev pub at_classes : Context → List ClassEntry → Context
at_classes C k = record { meaning = C.meaning; signatures = C.signatures; classes = k; member = C.member; init = C.init; inside = C.inside }

module _ (C : Context) (V : VarSorts) (m : TypedModule) (locals : List Variable) (init : Option ℕ) where
  -- the context, with the classes of the module
  abbrev here : Context
  here = at_classes C m.classes.classes

  module _ (D : Describes here V m locals init) where
    members : MembersKnown here m locals init refl
    members = record { attributes = D.attributes_are; types = D.attributes_typed; methods = D.methods_are }

    abbrev S : Wanted → List ℕ → TypedExpr → Type 0
    S = Sound m locals init

    -- ---- names

    local_sound : (w : Wanted) (known : List ℕ) (span : Span) (x : List ℕ) (i : ℕ) (v : VarSort) → var_at V.locals i ≡ v → Gives (variable span x (node.Local i) (is_in known i) v) (S w known)
    local_sound w known span x i unset e = gives_fails (S w known) span _
    local_sound w known span x i untyped e = gives_silent (S w known)
    local_sound w known span x i (has t) e =
        let d = D.locals_are i t e in
        gives_is (S w known) (typed (node.Local i) (reads_as (is_in known i) t) span) (value_sound m locals init w known (typed (node.Local i) (reads_as (is_in known i) t) span) (λ others wi.
        stands_made m locals init false others (node.Local i) (reads_as (is_in known i) t) span refl (reads_fit m locals init (is_in known i) (is_in others i) t (declared locals i) d.is (wi i)) refl
        (result_of_value (length m.classes.classes) (reads_as (is_in known i) t) (reads_value (length m.classes.classes) (is_in known i) t d.type)) refl))

    global_sound : (w : Wanted) (known : List ℕ) (span : Span) (x : List ℕ) (i : ℕ) (v : VarSort) → var_at V.globals i ≡ v → Gives (variable span x (node.Global i) false v) (S w known)
    global_sound w known span x i unset e = gives_fails (S w known) span _
    global_sound w known span x i untyped e = gives_silent (S w known)
    global_sound w known span x i (has t) e =
        let d = D.globals_are i t e in
        gives_is (S w known) (typed (node.Global i) t span) (value_sound m locals init w known (typed (node.Global i) t span) (λ others wi.
        stands_made m locals init false others (node.Global i) t span refl (ap (λ o. is_type o t) d.is ∙ type_is_itself t) refl (result_of_value (length m.classes.classes) t d.type) refl))

    named_sound : (w : Wanted) (known : List ℕ) (span : Span) (x : List ℕ) (n : Meaning) → Gives (named V known span x n) (S w known)
    named_sound w known span x (meaning.Local i) = local_sound w known span x i (var_at V.locals i) refl
    named_sound w known span x (meaning.Global i) = global_sound w known span x i (var_at V.globals i) refl
    named_sound w known span x meaning.ModuleName =
        gives_is (S w known) (typed (node.Str (codes "__main__")) sort.Str span) (value_sound m locals init w known (typed (node.Str (codes "__main__")) sort.Str span) (λ others wi. stands_made m locals init false others (node.Str (codes "__main__")) sort.Str span refl (and_from (is_utf8 (codes "__main__")) true module_name_text refl) refl refl refl))
    named_sound w known span x meaning.Untyped = gives_silent (S w known)
    named_sound w known span x meaning.Unknown = gives_silent (S w known)
    named_sound w known span x (meaning.Function i) = gives_fails (S w known) span _
    named_sound w known span x (meaning.Class i) = gives_fails (S w known) span _
    named_sound w known span x meaning.UntypedClass = gives_fails (S w known) span _
    named_sound w known span x (meaning.Exception k) = gives_fails (S w known) span _
    named_sound w known span x (meaning.Import i) = gives_fails (S w known) span _
    named_sound w known span x (meaning.Builtin b) = gives_fails (S w known) span _

    -- ---- callees

    builtin_known : (b : Builtin) → CalleeKnown here m locals init refl (builtin_called b)
    builtin_known builtin.Print = tt
    builtin_known builtin.Input = tt
    builtin_known builtin.Len = tt
    builtin_known builtin.Range = tt
    builtin_known builtin.Str = tt
    builtin_known builtin.Int = tt
    builtin_known builtin.Bool = tt
    builtin_known builtin.List = tt
    builtin_known builtin.Dict = tt
    builtin_known builtin.Tuple = tt
    builtin_known builtin.Super = tt

    import_known : (i : Imported) → CalleeKnown here m locals init refl (import_called i)
    import_known imported.I64 = tt
    import_known imported.Optional = tt
    import_known imported.List = tt
    import_known imported.Dict = tt
    import_known imported.Tuple = tt
    import_known imported.Trait = tt
    import_known imported.Annotations = tt

    -- what an `__init__` takes
    init_known : (o : Option ℕ) (params : List Sort) → ((f : ℕ) (s : Signature) → o ≡ Some f → some_signature (slice_get C.signatures f) ≡ Some s → IsInitSigned m f s) → init_takes here o ≡ Some params → Takes m locals init o params
    init_known None params h e = sym (same_Some [] params e)
    init_known (Some f) params h e = by (some_signature (slice_get C.signatures f)) refl e
      where
        by : (s : Option Signature) → some_signature (slice_get C.signatures f) ≡ s → option_map (λ t. t.params) s ≡ Some params → Takes m locals init (Some f) params
        by None q g = absurd (cc)
        by (Some s) q g = (s, h f s refl q, same_Some s.params params g)

    instance_known : (x : List ℕ) (n : ℕ) → is_trait_in (slice_get m.classes.classes n) ≡ false → (o : Option (List Sort)) → init_takes here (C.init n) ≡ o → CalleeKnown here m locals init refl (instance_called x n o)
    instance_known x n whole None e = tt
    instance_known x n whole (Some params) e =
        record { whole = whole; makes = subst (λ o. Takes m locals init o params) (sym (D.inits_are n)) (init_known (C.init n) params (D.inits_signed n) e) }

    trait_known : (x : List ℕ) (n : ℕ) (o : Option (List Sort)) → init_takes here (C.init n) ≡ o → CalleeKnown here m locals init refl (trait_called x o)
    trait_known x n None e = refl
    trait_known x n (Some params) e = takes_types m locals init (C.init n) params (init_known (C.init n) params (D.inits_signed n) e)

    class_known : (x : List ℕ) (n : ℕ) (b : Bool) → is_trait_in (slice_get m.classes.classes n) ≡ b → CalleeKnown here m locals init refl (class_called here x n b)
    class_known x n true e = trait_known x n (init_takes here (C.init n)) refl
    class_known x n false e = instance_known x n e (init_takes here (C.init n)) refl

    next_known : (i : Inside) (n : ℕ) → C.inside ≡ Some i → IsInside m.classes.classes init n i.next_init → is_trait_in (slice_get m.classes.classes n) ≡ false → (o : Option (List Sort)) → init_takes here i.next_init ≡ o → CalleeKnown here m locals init refl (next_called i.next_init o)
    next_known i n e k whole None q = tt
    next_known i n e k whole (Some params) q =
        record { class = n; here = k.is; whole = whole; behind = k.behind; takes = init_known i.next_init params (λ f s a b. D.next_signed i f s e a b) q }

    super_known : (o : Option Inside) → C.inside ≡ o → CalleeKnown here m locals init refl (super_called here o)
    super_known None e = tt
    super_known (Some i) e = by i.is_init refl i.class refl
      where
        in_class : (n : ℕ) (b : Bool) → is_trait_in (slice_get m.classes.classes n) ≡ b → IsInside m.classes.classes init n i.next_init → CalleeKnown here m locals init refl (if b then uncalled else next_called i.next_init (init_takes here i.next_init))
        in_class n true q k = tt
        in_class n false q k = next_known i n e k q (init_takes here i.next_init) refl

        by : (b : Bool) → i.is_init ≡ b → (o : Option ℕ) → i.class ≡ o → CalleeKnown here m locals init refl (if b then super_called_in here o i.next_init else uncalled)
        by false q o r = tt
        by true q None r = tt
        by true q (Some n) r = in_class n (is_trait_in (slice_get m.classes.classes n)) refl (D.inside_is i n e q r)

    function_known : (x : List ℕ) (i : ℕ) (o : Option Signature) → ((s : Signature) → o ≡ Some s → IsFunctionSigned m i s) → CalleeKnown here m locals init refl (function_called x i o)
    function_known x i None h = tt
    function_known x i (Some s) h = h s refl

    name_known : (x : List ℕ) (n : Meaning) → C.meaning x ≡ n → CalleeKnown here m locals init refl (name_called here x n)
    name_known x (meaning.Function i) e = function_known x i (some_signature (slice_get C.signatures i)) (λ s q. D.functions_are x i s e q)
    name_known x (meaning.Builtin b) e = builtin_known b
    name_known x (meaning.Import i) e = import_known i
    name_known x (meaning.Local i) e = tt
    name_known x (meaning.Global i) e = tt
    name_known x meaning.ModuleName e = tt
    name_known x meaning.Untyped e = tt
    name_known x meaning.UntypedClass e = tt
    name_known x meaning.Unknown e = tt
    name_known x (meaning.Class i) e = class_known x i (is_trait_in (slice_get m.classes.classes i)) refl
    name_known x (meaning.Exception k) e = tt

    callee_known : (f : ExprTree) → CalleeKnown here m locals init refl (callee here f)
    callee_known (at (tree.Name x) span) = name_known x (C.meaning x) refl
    callee_known (at (tree.Attr e a) span) = by (is_super_init here (tree.Attr e a))
      where
        by : (b : Bool) → CalleeKnown here m locals init refl (if b then super_called here C.inside else method a)
        by true = super_known C.inside refl
        by false = tt
    callee_known _ = tt

    -- a call, by what its parts and its arguments are
    call_sound : (w : Wanted) (known : List ℕ) (span : Span) (f : ExprTree) (args : Arguments) → Gives (part here V known f) (S free known) → ((row : WantedRow) → RowAsked m locals init row → Gives (arguments here V row 0 known args) (RowSound m locals init row 0 known)) → Gives (typing here V w known (at (tree.Call f args) span)) (S w known)
    call_sound w known span f args p a =
        gives_after (S w known) (part here V known f) (λ o. behind (arguments here V (arguments_row here (callee here f) o) 0 known args) (called here w span (has_key args) (callee here f) o)) (λ o eo.
        let part_sound : (t : TypedExpr) → o ≡ Some t → S free known t = λ t q. p.each t (eo ∙ q) in
        let asked : RowAsked m locals init (arguments_row here (callee here f) o) = row_asked here m locals init refl members known (callee here f) o (callee_known f) (λ t q. value_type m locals init false known t (part_sound t q known (λ x h. h) refl)) in
        gives_after (S w known) (arguments here V (arguments_row here (callee here f) o) 0 known args) (called here w span (has_key args) (callee here f) o) (λ es ees.
        called_sound here m locals init refl members w known span (has_key args) (callee here f) o es (callee_known f) part_sound (λ l q. (a (arguments_row here (callee here f) o) asked).each l (ees ∙ q))))

    operand_asked : (w : Wanted) → is_sought (length m.classes.classes) (operand w) ≡ true
    operand_asked free = refl
    operand_asked test = refl
    operand_asked (wants t) = refl
    operand_asked dropped = refl

    name_part : (known : List ℕ) (span : Span) (x : List ℕ) (n : Meaning) → Gives (if not (is_variable n) then silent else named V known span x n) (S free known)
    name_part known span x n = by (is_variable n)
      where
        by : (b : Bool) → Gives (if not b then silent else named V known span x n) (S free known)
        by true = named_sound free known span x n
        by false = gives_silent (S free known)

    -- ---- rows

    items_asked : (w : Wanted) → is_sought (length m.classes.classes) w ≡ true → RowAsked m locals init (items_row (item_sort w))
    items_asked (wants (sort.ListOf t)) h i = result_of_value (length m.classes.classes) t h
    items_asked w h i = refl

    parts_asked : (w : Wanted) (n : ℕ) → is_sought (length m.classes.classes) w ≡ true → RowAsked m locals init (parts_row w n)
    parts_asked (wants (sort.TupleOf ts)) n h = by (length (listed_sorts ts) == n)
      where
        by : (b : Bool) → RowAsked m locals init (if b then along (listed_sorts ts) else along [])
        by true = along_asked m locals init ts h
        by false = λ i. refl
    parts_asked w n h = λ i. refl

    filled : (known : List ℕ) (cs : Comparisons) → is_chain cs ≡ true → Gives (operands here V known cs) (λ ps. ps ≡ [] → ⊥)
    filled known no_comparisons h = absurd (cc)
    filled known (comparison_then o e more) h =
        gives_row (λ (p : CmpOp × TypedExpr). Unit {0}) (λ (ps : List (CmpOp × TypedExpr)). Unit {0}) (λ ps. ps ≡ [] → ⊥) (made (λ t. (o, t)) (typing here V free known e)) (operands here V known more)
        (gives_any (λ (p : CmpOp × TypedExpr). Unit {0}) _ (λ p. tt)) (gives_any (λ (ps : List (CmpOp × TypedExpr)). Unit {0}) _ (λ ps. tt)) (λ p ps q r e. cons_filled p ps e)
      where
        cons_filled : (p : CmpOp × TypedExpr) (ps : List (CmpOp × TypedExpr)) → p ∷ ps ≡ [] → ⊥
        cons_filled p ps e = cc

    -- ---- expressions

    abbrev Told : ExprTree → TypedExpr → Type 0
    Told e t = (b : Bool) → Within (facts here b e) (telling.facts b t)

    part_of : (b : Bool) (known : List ℕ) (e : ExprTree) → Gives (typing here V free known e) (S free known) → Gives (if b then silent else typing here V free known e) (S free known)
    part_of true known e g = gives_silent (S free known)
    part_of false known e g = g

    mutual
      pub sound_typing : (w : Wanted) (known : List ℕ) (x : ExprTree) → is_written x ≡ true → is_sought (length m.classes.classes) w ≡ true → Gives (typing here V w known x) (S w known)
      sound_typing w known (at n span) h a = sound_node w known span n h a

      sound_node : (w : Wanted) (known : List ℕ) (span : Span) (n : ExprNode) → is_written_node n ≡ true → is_sought (length m.classes.classes) w ≡ true → Gives (node_typing here V w known span n) (S w known)
      sound_node w known span (tree.Int n) h a =
          gives_is (S w known) (typed (node.Int n) sort.Int span) (value_sound m locals init w known (typed (node.Int n) sort.Int span) (λ others wi. stands_made m locals init false others (node.Int n) sort.Int span refl (and_from (is_literal n) true h refl) refl refl refl))
      sound_node w known span (tree.Str text) h a =
          gives_is (S w known) (typed (node.Str text) sort.Str span) (value_sound m locals init w known (typed (node.Str text) sort.Str span) (λ others wi. stands_made m locals init false others (node.Str text) sort.Str span refl (and_from (is_utf8 text) true h refl) refl refl refl))
      sound_node w known span tree.True h a =
          gives_is (S w known) (typed (node.Flag true) sort.Bool span) (value_sound m locals init w known (typed (node.Flag true) sort.Bool span) (λ others wi. stands_made m locals init false others (node.Flag true) sort.Bool span refl refl refl refl refl))
      sound_node w known span tree.False h a =
          gives_is (S w known) (typed (node.Flag false) sort.Bool span) (value_sound m locals init w known (typed (node.Flag false) sort.Bool span) (λ others wi. stands_made m locals init false others (node.Flag false) sort.Bool span refl refl refl refl refl))
      sound_node w known span tree.Nothing h a =
          gives_is (S w known) (typed node.Nothing sort.Nothing span) (value_sound m locals init w known (typed node.Nothing sort.Nothing span) (λ others wi. stands_made m locals init false others node.Nothing sort.Nothing span refl refl refl refl refl))
      sound_node w known span (tree.Name x) h a = named_sound w known span x (C.meaning x)
      sound_node w known span (tree.Neg e) h a =
          gives_rule (S free known) (S w known) span (negation m.classes.classes span) (typing here V free known e) (sound_typing free known e h refl) (λ t s u q. negation_sound m locals init w known span t u s q)
      sound_node w known span (tree.Plus e) h a =
          gives_rule (S free known) (S w known) span (affirmation m.classes.classes) (typing here V free known e) (sound_typing free known e h refl) (λ t s u q. affirmation_sound m locals init w known t u s q)
      sound_node w known span (tree.Not e) h a =
          gives_made (S test known) (S w known) (inversion span) (typing here V test known e) (sound_typing test known e h refl) (λ t s. inversion_sound m locals init w known span t s)
      sound_node w known span (tree.Bin o x y) h a =
          gives_rule (λ (p : TypedExpr × TypedExpr). S free known p.0 × S free known p.1) (S w known) span (arithmetic m.classes.classes span o) (both (typing here V free known x) (typing here V free known y))
          (gives_both (S free known) (S free known) (typing here V free known x) (typing here V free known y) (sound_typing free known x (and_left (is_written x) (is_written y) h) refl) (sound_typing free known y (and_right (is_written x) (is_written y) h) refl))
          (λ p r u q. arithmetic_sound m locals init w known span o p u r.0 r.1 q)
      sound_node w known span (tree.Compare e cs) h a =
          let r = three_parts (is_written e) (is_chain cs) (are_operands cs) h in
          gives_compare here V w known span e cs (S w known) (gives_ruled_all (λ (p : TypedExpr × List (CmpOp × TypedExpr)). S free known p.0 × (ChainSound m locals init known p.1 × (p.1 ≡ [] → ⊥))) (S w known) span (faults_of m.classes.classes) (chain span) (both (typing here V free known e) (operands here V known cs))
          (gives_both (S free known) (λ (ps : List (CmpOp × TypedExpr)). ChainSound m locals init known ps × (ps ≡ [] → ⊥)) (typing here V free known e) (operands here V known cs) (sound_typing free known e r.0 refl)
          (gives_also (ChainSound m locals init known) (λ ps. ps ≡ [] → ⊥) (operands here V known cs) (sound_operands known cs r.2) (filled known cs r.1)))
          (λ p s q. chain_sound m locals init w known span p.0 p.1 s.0 s.1.0 s.1.1 q))
      sound_node w known span (tree.And x y) h a =
          let sx = typing here V (operand w) known x in
          let sy = typing here V (operand w) (facts here true x ++ known) y in
          gives_rule (λ (p : TypedExpr × TypedExpr). (S (operand w) known p.0 × Told x p.0) × S (operand w) (facts here true x ++ known) p.1) (S w known) span (junction m.classes.classes w true span) (both sx sy)
          (gives_both (λ t. S (operand w) known t × Told x t) (S (operand w) (facts here true x ++ known)) sx sy
          (gives_also (S (operand w) known) (Told x) sx (sound_typing (operand w) known x (and_left (is_written x) (is_written y) h) (operand_asked w)) (told_typing here V (operand w) known x))
          (sound_typing (operand w) (facts here true x ++ known) y (and_right (is_written x) (is_written y) h) (operand_asked w)))
          (λ p r u q. junction_sound m locals init w true known (facts here true x) span p u r.0.0 r.1 (r.0.1 true) q)
      sound_node w known span (tree.Or x y) h a =
          let sx = typing here V (operand w) known x in
          let sy = typing here V (operand w) (facts here false x ++ known) y in
          gives_rule (λ (p : TypedExpr × TypedExpr). (S (operand w) known p.0 × Told x p.0) × S (operand w) (facts here false x ++ known) p.1) (S w known) span (junction m.classes.classes w false span) (both sx sy)
          (gives_both (λ t. S (operand w) known t × Told x t) (S (operand w) (facts here false x ++ known)) sx sy
          (gives_also (S (operand w) known) (Told x) sx (sound_typing (operand w) known x (and_left (is_written x) (is_written y) h) (operand_asked w)) (told_typing here V (operand w) known x))
          (sound_typing (operand w) (facts here false x ++ known) y (and_right (is_written x) (is_written y) h) (operand_asked w)))
          (λ p r u q. junction_sound m locals init w false known (facts here false x) span p u r.0.0 r.1 (r.0.1 false) q)
      sound_node w known span (tree.Cond x c y) h a =
          let r = three_parts (is_written x) (is_written c) (is_written y) h in
          let sx = typing here V free (facts here true c ++ known) x in
          let sc = typing here V test known c in
          let sy = typing here V free (facts here false c ++ known) y in
          gives_rule (λ (p : (TypedExpr × TypedExpr) × TypedExpr). (S free (facts here true c ++ known) p.0.0 × (S test known p.0.1 × Told c p.0.1)) × S free (facts here false c ++ known) p.1) (S w known) span (choice m.classes.classes w span) (both (both sx sc) sy)
          (gives_both (λ (p : TypedExpr × TypedExpr). S free (facts here true c ++ known) p.0 × (S test known p.1 × Told c p.1)) (S free (facts here false c ++ known)) (both sx sc) sy
          (gives_both (S free (facts here true c ++ known)) (λ t. S test known t × Told c t) sx sc (sound_typing free (facts here true c ++ known) x r.0 refl)
          (gives_also (S test known) (Told c) sc (sound_typing test known c r.1 refl) (told_typing here V test known c)))
          (sound_typing free (facts here false c ++ known) y r.2 refl))
          (λ p s u q. choice_sound m locals init w known (facts here true c) (facts here false c) span p u a s.0.0 s.0.1.0 s.1 (s.0.1.1 true) (s.0.1.1 false) q)
      sound_node w known span (tree.ListOf es) h a =
          gives_rule (RowSound m locals init (items_row (item_sort w)) 0 known) (S w known) span (list_display m.classes.classes (item_sort w) span) (items here V (items_row (item_sort w)) 0 known es) (sound_items (items_row (item_sort w)) 0 known es h (items_asked w a))
          (λ l r u q. list_sound m locals init D.tree w known span l u a r q)
      sound_node w known span (tree.TupleOf es) h a =
          gives_rule (RowSound m locals init (parts_row w (count es)) 0 known) (S w known) span (tuple_display m.classes.classes (parts_row w (count es)) span) (items here V (parts_row w (count es)) 0 known es) (sound_items (parts_row w (count es)) 0 known es h (parts_asked w (count es) a))
          (λ l r u q. tuple_sound m locals init w known span (count es) l u a r q)
      sound_node w known span (tree.Index e i) h a =
          gives_rule (λ (p : TypedExpr × TypedExpr). S free known p.0 × S free known p.1) (S w known) span (indexing m.classes.classes span (literal i)) (both (typing here V free known e) (typing here V free known i))
          (gives_both (S free known) (S free known) (typing here V free known e) (typing here V free known i) (sound_typing free known e (and_left (is_written e) (is_written i) h) refl) (sound_typing free known i (and_right (is_written e) (is_written i) h) refl))
          (λ p r u q. indexing_sound m locals init w known span (literal i) p u r.0 r.1 q)
      sound_node w known span (tree.Call f args) h a =
          call_sound w known span f args (sound_part known f (and_left (is_written f) (are_arguments args) h)) (λ row asked. sound_arguments row 0 known args (and_right (is_written f) (are_arguments args) h) asked)
      sound_node w known span (tree.Attr e x) h a =
          gives_behind (S free known) (S w known) (typing here V free known e) (attribute here span x) (sound_typing free known e h refl) (gives_silent (S w known)) (λ t s. read_sound here m locals init refl members w known span t x s)
      sound_node w known span (tree.DictOf es) h a =
          let kw = key_wanted (entry_sorts w) in
          let vw = value_wanted (entry_sorts w) in
          gives_rule (EntriesSound m locals init kw vw known) (S w known) span (dict_display m.classes.classes (entry_sorts w) span) (entries here V kw vw known es)
          (sound_entries kw vw known es h (key_asked (length m.classes.classes) w a) (value_asked (length m.classes.classes) w a)) (λ l r u q. dict_sound m locals init D.tree w known span l u a r q)

      sound_items : (row : WantedRow) (i : ℕ) (known : List ℕ) (es : ExprTrees) → are_written es ≡ true → RowAsked m locals init row → Gives (items here V row i known es) (RowSound m locals init row i known)
      sound_items row i known no_exprs h asked = gives_is (RowSound m locals init row i known) [] tt
      sound_items row i known (expr_then e more) h asked =
          gives_row (S (wanted_in row i) known) (RowSound m locals init row (suc i) known) (RowSound m locals init row i known) (typing here V (wanted_in row i) known e) (items here V row (suc i) known more)
          (sound_typing (wanted_in row i) known e (and_left (is_written e) (are_written more) h) (sought_of_asked (length m.classes.classes) (wanted_in row i) (asked i))) (sound_items row (suc i) known more (and_right (is_written e) (are_written more) h) asked) (λ t ts s r. record { first = s; rest = r })

      sound_entries : (w v : Wanted) (known : List ℕ) (es : Entries) → are_entries es ≡ true → is_sought (length m.classes.classes) w ≡ true → is_sought (length m.classes.classes) v ≡ true → Gives (entries here V w v known es) (EntriesSound m locals init w v known)
      sound_entries w v known no_entries h a b = gives_is (EntriesSound m locals init w v known) [] tt
      sound_entries w v known (entry_then k e more) h a b =
          let r = three_parts (is_written k) (is_written e) (are_entries more) h in
          gives_row (λ (p : TypedExpr × TypedExpr). S w known p.0 × S v known p.1) (EntriesSound m locals init w v known) (EntriesSound m locals init w v known) (both (typing here V w known k) (typing here V v known e)) (entries here V w v known more)
          (gives_both (S w known) (S v known) (typing here V w known k) (typing here V v known e) (sound_typing w known k r.0 a) (sound_typing v known e r.1 b))
          (sound_entries w v known more r.2 a b) (λ p ps s t. record { key = s.0; value = s.1; rest = t })

      sound_operands : (known : List ℕ) (cs : Comparisons) → are_operands cs ≡ true → Gives (operands here V known cs) (ChainSound m locals init known)
      sound_operands known no_comparisons h = gives_is (ChainSound m locals init known) [] tt
      sound_operands known (comparison_then o e more) h =
          gives_row (λ (p : CmpOp × TypedExpr). S free known p.1) (ChainSound m locals init known) (ChainSound m locals init known) (made (λ t. (o, t)) (typing here V free known e)) (operands here V known more)
          (gives_made (S free known) (λ (p : CmpOp × TypedExpr). S free known p.1) (λ t. (o, t)) (typing here V free known e) (sound_typing free known e (and_left (is_written e) (are_operands more) h) refl) (λ t s. s))
          (sound_operands known more (and_right (is_written e) (are_operands more) h)) (λ p ps s r. record { first = s; rest = r })

      pub sound_arguments : (row : WantedRow) (i : ℕ) (known : List ℕ) (args : Arguments) → are_arguments args ≡ true → RowAsked m locals init row → Gives (arguments here V row i known args) (RowSound m locals init row i known)
      sound_arguments row i known no_arguments h asked = gives_is (RowSound m locals init row i known) [] tt
      sound_arguments row i known (argument_then e more) h asked =
          gives_row (S (wanted_in row i) known) (RowSound m locals init row (suc i) known) (RowSound m locals init row i known) (typing here V (wanted_in row i) known e) (arguments here V row (suc i) known more)
          (sound_typing (wanted_in row i) known e (and_left (is_written e) (are_arguments more) h) (sought_of_asked (length m.classes.classes) (wanted_in row i) (asked i))) (sound_arguments row (suc i) known more (and_right (is_written e) (are_arguments more) h) asked) (λ t ts s r. record { first = s; rest = r })
      sound_arguments row i known (keyed_then k e more) h asked =
          gives_row (S (wanted_in row i) known) (RowSound m locals init row (suc i) known) (RowSound m locals init row i known) (typing here V (wanted_in row i) known e) (arguments here V row (suc i) known more)
          (sound_typing (wanted_in row i) known e (and_left (is_written e) (are_arguments more) h) (sought_of_asked (length m.classes.classes) (wanted_in row i) (asked i))) (sound_arguments row (suc i) known more (and_right (is_written e) (are_arguments more) h) asked) (λ t ts s r. record { first = s; rest = r })

      sound_part : (known : List ℕ) (f : ExprTree) → is_written f ≡ true → Gives (part here V known f) (S free known)
      sound_part known (at (tree.Name x) span) h = name_part known span x (C.meaning x)
      sound_part known (at (tree.Attr e a) span) h = part_of (is_super_init here (tree.Attr e a)) known e (sound_typing free known e h refl)
      sound_part known (at n span) h = sound_node free known span n h refl

-- for any context that has the classes of the module
pub sound : (C : Context) (V : VarSorts) (m : TypedModule) (locals : List Variable) (init : Option ℕ) → Describes C V m locals init → (w : Wanted) (known : List ℕ) (x : ExprTree) → is_written x ≡ true → is_asked (length C.classes) w ≡ true → (t : TypedExpr) → (typing C V w known x).got ≡ Some t
    → (others : List ℕ) → Within known others → is_taken C.classes w (type_of t) ≡ true → is_good m locals init w others t ≡ true
sound C V m locals init D w known x h a t e =
    subst (λ k. Describes (at_classes C k) V m locals init → is_written x ≡ true → is_asked (length k) w ≡ true → (typing (at_classes C k) V w known x).got ≡ Some t
    → (others : List ℕ) → Within known others → is_taken k w (type_of t) ≡ true → is_good m locals init w others t ≡ true) D.classes
    (λ d written asked got others wi taken. (sound_typing C V m locals init d w known x written (sought_of_asked (length m.classes.classes) w asked)).each t got others wi (or_left (is_taken m.classes.classes w (type_of t)) (parts_taken m.classes.classes w (type_of t)) taken)) D h a e
