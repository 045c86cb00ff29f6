-- The typed form of a test tells no more than the test as it is written, where no sign and no call stands in between.
use Rattle.std.proofs.Common.{◌≡◌, ℕ, Bool, true, false, not, ◌&&◌, List, [], ◌∷◌, ◌++◌, codes, Option, Some, None, Result, Ok, Err, refl, ap, sym, ◌∙◌, subst, if◌then◌else◌}
use Rattle.std.specs.Option.{option_map}
use Rattle.py_syntax.specs.declared.token.Span.{Span}
use Rattle.py_syntax.specs.declared.expression.BinOp.{BinOp}
use Rattle.py_syntax.specs.declared.expression.CmpOp.{CmpOp}
use Rattle.py_syntax.specs.declared.expression.CmpOp.TheVariants as compare
use Rattle.py_syntax.specs.Expressions as tree
use Rattle.py_syntax.specs.Expressions.{ExprTree, ExprNode, at, Comparisons, no_comparisons, comparison_then}
use Rattle.py_typed.specs.Sorts as sort
use Rattle.py_typed.specs.Sorts.{Sort}
use Rattle.py_typed.specs.Classes.{ClassEntry}
use Rattle.py_typed.specs.Fits.{fits, is_number, is_nothing, number_join}
use Rattle.py_typed.specs.Expressions as node
use Rattle.py_typed.specs.Expressions.{TypedExpr, TypedNode, typed, type_of}
use Rattle.py_typed.specs.Narrowing as telling
use Rattle.py_typed.specs.Narrowing.{is_in, shared, node_of}
use Rattle.py_typed.proofs.FitLemmas.{and_left, and_right}
use Rattle.py_check_context.specs.declared.scope.Meaning.{Meaning}
use Rattle.py_check_context.specs.declared.scope.Meaning.TheVariants as meaning
use Rattle.py_check_context.specs.Context.{Context, VarSort, unset, untyped, has, VarSorts, var_at, Wanted, free, test, WantedRow, each}
use Rattle.py_check_messages.specs.Seen.{Seen, Message, both, made, behind, rule}
use Rattle.py_check_messages.specs.Messages as message
use Rattle.py_check_coercions.specs.Values.{coerced, truth}
use Rattle.py_check_coercions.specs.Several.{unless, ruled_all}
use Rattle.py_check_coercions.specs.Rows.{unfit, changed_row}
use Rattle.py_check_operators.specs.Names.{variable, named}
use Rattle.py_check_operators.specs.Operators.{signed, negation, op_text, is_concat, is_numeric, arithmetic, inversion}
use Rattle.py_check_operators.specs.Chains.{faults_of, chain}
use Rattle.py_check_operators.specs.Choices.{joined, choice_type, choice, junction, operand}
use Rattle.py_check_operators.specs.Facts.{facts, subject, local_of, tells, is_none_tree, joined_facts}
use Rattle.py_check_displays.specs.Displays.{item_sort, items_row, list_of, item_fault, common, joined_list, inferred_list, list_display, parts_row, is_invalid_tuple, tuple_of, kept_row, tuple_display}
use Rattle.py_check_displays.specs.Dicts.{entry_sorts, key_wanted, value_wanted, unfit_entry, entry_fault, dict_of, common_entry, are_entry_types, joined_dict, inferred_dict, dict_display}
use Rattle.py_check_displays.specs.Indexing as indexes
use Rattle.py_check_displays.specs.Indexing.{Literal, literal, keyed_by, item_at, part_at, parts_of, part_made, part_of, is_tuple, indexing}
use Rattle.py_check_calls.specs.Methods.{Had, has_attribute, has_method, has_append, has_pop, has_untyped, none_has_not, has_not, look_up, read, attribute}
use Rattle.py_check_expressions.specs.Typing.{typing, operands, items, entries, count}
use Rattle.py_check_expressions_laws.specs.WellTyped.{Within}
use Rattle.py_check_expressions_laws.specs.Bare.{is_itself, are_themselves, is_bare}
use Rattle.py_check_expressions_laws.proofs.Given.{Gives, gives_is, gives_silent, gives_fails, gives_both, gives_made, gives_behind, gives_rule, gives_ruled_all, gives_compare, gives_row}
use Rattle.py_check_expressions_laws.proofs.Inside.{within_none, within_append, within_shared}
use Rattle.py_check_expressions_laws.proofs.Telling.{ok_same, truth_tells, coerced_tells, junction_is, pair_tells}

-- ---- what is made

abbrev pub Makes : (TypedExpr → Type 0) → Result TypedExpr Message → Type 0
Makes P (Ok e) = P e
Makes P (Err m) = Unit {0}

makes_ok : (P : TypedExpr → Type 0) (r : Result TypedExpr Message) (e : TypedExpr) → Makes P r → r ≡ Ok e → P e
makes_ok P (Ok a) e h q = subst P (ok_same a e q) h
makes_ok P (Err m) e h q = absurd (cc)

pub makes_if : (P : TypedExpr → Type 0) (b : Bool) (r s : Result TypedExpr Message) → Makes P r → Makes P s → Makes P (if b then r else s)
makes_if P true r s p q = p
makes_if P false r s p q = q

-- a local, or the literal `None`
abbrev is_leaf : TypedNode → Bool
is_leaf (node.Local i) = true
is_leaf node.Nothing = true
is_leaf n = false

-- a node that tells nothing of any name
abbrev pub is_mute : TypedNode → Bool
is_mute (node.Compare e cs) = false
is_mute (node.Not e) = false
is_mute (node.And a b) = false
is_mute (node.Or a b) = false
is_mute (node.Truth e) = false
is_mute (node.Coerce e) = false
is_mute n = true

pub record IsMade (t : TypedExpr) : Type 0 where
  pub leaf : is_leaf (node_of t) ≡ false
  pub mute : is_mute (node_of t) ≡ true

node_mute : (b : Bool) (n : TypedNode) → is_mute n ≡ true → telling.node_facts b n ≡ []
node_mute b (node.Compare e cs) h = absurd (cc)
node_mute b (node.Not e) h = absurd (cc)
node_mute b (node.And e f) h = absurd (cc)
node_mute b (node.Or e f) h = absurd (cc)
node_mute b (node.Truth e) h = absurd (cc)
node_mute b (node.Coerce e) h = absurd (cc)
node_mute true _ h = refl
node_mute false _ h = refl

mute_facts : (b : Bool) (t : TypedExpr) → is_mute (node_of t) ≡ true → telling.facts b t ≡ []
mute_facts b (typed n t place) h = node_mute b n h

negation_makes : (cs : List ClassEntry) (span : Span) (e : TypedExpr) → Makes IsMade (negation cs span e)
negation_makes cs span e = makes_if IsMade (is_number (type_of e)) (Ok (typed (node.Neg e) (signed (type_of e)) span)) (Err (message.unsupported_operand cs (codes "-") (type_of e))) (record { leaf = refl; mute = refl }) tt

arithmetic_makes : (cs : List ClassEntry) (span : Span) (o : BinOp) (p : TypedExpr × TypedExpr) → Makes IsMade (arithmetic cs span o p)
arithmetic_makes cs span o p =
    let s = type_of p.0 in
    let t = type_of p.1 in
    let none : Result TypedExpr Message = Err (message.unsupported_operands cs (op_text o) s t) in
    let number : Result TypedExpr Message = Ok (typed (node.Arith o p.0 p.1) (number_join s t) span) in
    makes_if IsMade (is_concat o s t) (Ok (typed (node.Concat p.0 p.1) sort.Str span)) (if is_numeric o s t then number else none) (record { leaf = refl; mute = refl })
    (makes_if IsMade (is_numeric o s t) number none (record { leaf = refl; mute = refl }) tt)

choice_makes : (cs : List ClassEntry) (w : Wanted) (span : Span) (p : (TypedExpr × TypedExpr) × TypedExpr) → Makes IsMade (choice cs w span p)
choice_makes cs w span p = by (choice_type cs w (type_of p.0.0) (type_of p.1))
  where
    by : (o : Option Sort) → Makes IsMade (joined cs (codes "if") (λ a b. node.Cond a (truth p.0.1) b) span p.0.0 p.1 o)
    by None = tt
    by (Some t) = record { leaf = refl; mute = refl }

joined_list_makes : (span : Span) (es : List TypedExpr) (o : Option Sort) → Makes IsMade (joined_list span es o)
joined_list_makes span es None = tt
joined_list_makes span es (Some t) = makes_if IsMade (is_nothing t) (Err message.no_common_item) (Ok (list_of span t es)) tt (record { leaf = refl; mute = refl })

inferred_makes : (cs : List ClassEntry) (span : Span) (es : List TypedExpr) → Makes IsMade (inferred_list cs span es)
inferred_makes cs span [] = tt
inferred_makes cs span (e ∷ es) = joined_list_makes span (e ∷ es) (common cs (Some (type_of e)) es)

list_makes : (cs : List ClassEntry) (o : Option Sort) (span : Span) (es : List TypedExpr) → Makes IsMade (list_display cs o span es)
list_makes cs None span es = inferred_makes cs span es
list_makes cs (Some t) span es = by (option_map (item_fault cs) (unfit cs (each t) 0 es))
  where
    by : (o : Option Message) → Makes IsMade (unless o (list_of span t es))
    by None = record { leaf = refl; mute = refl }
    by (Some m) = tt

joined_dict_makes : (span : Span) (es : List (TypedExpr × TypedExpr)) (o : Option (Sort × Sort)) → Makes IsMade (joined_dict span es o)
joined_dict_makes span es None = tt
joined_dict_makes span es (Some p) = makes_if IsMade (are_entry_types p) (Ok (dict_of span p es)) (Err message.no_common_entry) (record { leaf = refl; mute = refl }) tt

inferred_dict_makes : (cs : List ClassEntry) (span : Span) (es : List (TypedExpr × TypedExpr)) → Makes IsMade (inferred_dict cs span es)
inferred_dict_makes cs span [] = tt
inferred_dict_makes cs span (e ∷ es) = joined_dict_makes span (e ∷ es) (common_entry cs e es)

dict_makes : (cs : List ClassEntry) (o : Option (Sort × Sort)) (span : Span) (es : List (TypedExpr × TypedExpr)) → Makes IsMade (dict_display cs o span es)
dict_makes cs None span es = inferred_dict_makes cs span es
dict_makes cs (Some p) span es = by (option_map (entry_fault cs p) (unfit_entry cs p 0 es))
  where
    by : (o : Option Message) → Makes IsMade (unless o (dict_of span p es))
    by None = record { leaf = refl; mute = refl }
    by (Some m) = tt

tuple_makes : (cs : List ClassEntry) (row : WantedRow) (span : Span) (es : List TypedExpr) → Makes IsMade (tuple_display cs row span es)
tuple_makes cs row span es = makes_if IsMade (is_invalid_tuple row es) (Err message.invalid_tuple) (Ok (tuple_of span (changed_row (kept_row cs row es) 0 es))) tt (record { leaf = refl; mute = refl })

item_makes : (cs : List ClassEntry) (span : Span) (e i : TypedExpr) (o : Option (Sort × Sort)) → Makes IsMade (item_at cs span e i o)
item_makes cs span e i None = tt
item_makes cs span e i (Some p) = makes_if IsMade (fits cs (type_of i) p.0) (Ok (typed (node.At e (coerced p.0 i)) p.1 span)) (Err (message.invalid_index cs (type_of i) (type_of e) p.0)) (record { leaf = refl; mute = refl }) tt

part_makes : (span : Span) (e : TypedExpr) (o : Option (ℕ × Sort)) → Makes IsMade (part_made span e o)
part_makes span e None = tt
part_makes span e (Some p) = record { leaf = refl; mute = refl }

indexing_makes : (cs : List ClassEntry) (span : Span) (l : Option Literal) (p : TypedExpr × TypedExpr) → Makes IsMade (indexing cs span l p)
indexing_makes cs span l p =
    makes_if IsMade (is_tuple (type_of p.0)) (part_of span l p.0) (indexes.item_of cs span p.0 p.1) (part_makes span p.0 (part_at l (parts_of (type_of p.0)))) (item_makes cs span p.0 p.1 (keyed_by (type_of p.0)))

read_makes : (cs : List ClassEntry) (span : Span) (e : TypedExpr) (a : List ℕ) (h : Had) → Gives (read cs span e a h) IsMade
read_makes cs span e a (has_attribute t) = gives_is IsMade _ (record { leaf = refl; mute = refl })
read_makes cs span e a (has_method f) = gives_fails IsMade span _
read_makes cs span e a (has_append t) = gives_fails IsMade span _
read_makes cs span e a (has_pop t) = gives_fails IsMade span _
read_makes cs span e a has_untyped = gives_silent IsMade
read_makes cs span e a none_has_not = gives_fails IsMade span _
read_makes cs span e a has_not = gives_fails IsMade span _

-- a rule over any parts
pub gives_makes : {A : Type 0} (P : TypedExpr → Type 0) (span : Span) (f : A → Result TypedExpr Message) (s : Seen A) → ((a : A) → Makes P (f a)) → Gives (rule span f s) P
gives_makes {A} P span f s makes = gives_rule (λ (a : A). Unit {0}) P span f s (record { each = λ a e. tt }) (λ a u e q. makes_ok P (f a) e (makes a) q)

pub gives_then : (P Q : TypedExpr → Type 0) (s : Seen TypedExpr) → Gives s P → ((t : TypedExpr) → P t → Q t) → Gives s Q
gives_then P Q s g next = record { each = λ a h. next a (g.each a h) }

-- ---- tests against None

-- what a typed test of two nodes against None tells, the written one does
none_less : (b : Bool) (o : CmpOp) (p q : TypedNode) (who : List ℕ) (nothing : Bool) → ((i : ℕ) → p ≡ node.Local i → who ≡ i ∷ []) → (q ≡ node.Nothing → nothing ≡ true) → Within (telling.none_test b o p q node.no_comparisons) (if nothing && tells o b then who else [])
none_less true compare.IsNot (node.Local i) node.Nothing who nothing f g = subst (λ (z : Bool). Within (i ∷ []) (if z && true then who else [])) (sym (g refl)) (subst (Within (i ∷ [])) (sym (f i refl)) (λ x h. h))
none_less false compare.Is (node.Local i) node.Nothing who nothing f g = subst (λ (z : Bool). Within (i ∷ []) (if z && true then who else [])) (sym (g refl)) (subst (Within (i ∷ [])) (sym (f i refl)) (λ x h. h))
none_less b o p q who nothing f g = within_none (if nothing && tells o b then who else [])

none_more : (b : Bool) (o u : CmpOp) (p q : TypedNode) (r : TypedExpr) (more : node.Comparisons) → telling.none_test b o p q (node.comparison_then u r more) ≡ []
none_more true compare.IsNot u (node.Local i) node.Nothing r more = refl
none_more false compare.Is u (node.Local i) node.Nothing r more = refl
none_more b o u p q r more = refl

chain_none : (b : Bool) (span : Span) (p : TypedExpr) → telling.facts b (chain span (p, [])) ≡ []
chain_none true span p = refl
chain_none false span p = refl

chain_more : (b : Bool) (span : Span) (p : TypedExpr) (x y : CmpOp × TypedExpr) (l : List (CmpOp × TypedExpr)) → telling.facts b (chain span (p, x ∷ y ∷ l)) ≡ []
chain_more true span p x y l = none_more true x.0 y.0 (node_of p) (node_of x.1) y.1 (node.comparisons_of l)
chain_more false span p x y l = none_more false x.0 y.0 (node_of p) (node_of x.1) y.1 (node.comparisons_of l)

-- ---- `and` and `or`

-- what the two operands tell, seen from the typed side
word_less : (conjoined b : Bool) (xs ys : List ℕ) (a c : TypedExpr) (t : Sort) (span : Span) → Within (telling.facts b a) xs → Within (telling.facts b c) ys → Within (telling.facts b (typed (Rattle.py_check_operators.specs.Choices.word_node conjoined a c) t span)) (joined_facts (if conjoined then b else not b) xs ys)
word_less true true xs ys a c t span v w = within_append (telling.facts true a) (telling.facts true c) xs ys v w
word_less true false xs ys a c t span v w = within_shared (telling.facts false a) (telling.facts false c) xs ys v w
word_less false true xs ys a c t span v w = within_shared (telling.facts true a) (telling.facts true c) xs ys v w
word_less false false xs ys a c t span v w = within_append (telling.facts false a) (telling.facts false c) xs ys v w

within_from : (xs ys zs : List ℕ) → xs ≡ ys → Within ys zs → Within xs zs
within_from xs ys zs e w = subst (λ l. Within l zs) (sym e) w

module _ (C : Context) (V : VarSorts) where
  -- ---- locals and None

  record LeafOf (e : ExprTree) (t : TypedExpr) : Type 0 where
    local : (i : ℕ) → node_of t ≡ node.Local i → subject C e ≡ i ∷ []
    nothing : node_of t ≡ node.Nothing → is_none_tree e ≡ true

  leaf_made : (e : ExprTree) (t : TypedExpr) → is_leaf (node_of t) ≡ false → LeafOf e t
  leaf_made e t h = record { local = λ i q. let g = sym (ap is_leaf q) ∙ h in absurd (cc); nothing = λ q. let g = sym (ap is_leaf q) ∙ h in absurd (cc) }

  gives_made_leaf : (w : Wanted) (known : List ℕ) (e : ExprTree) → Gives (typing C V w known e) IsMade → Gives (typing C V w known e) (LeafOf e)
  gives_made_leaf w known e g = gives_then IsMade (LeafOf e) (typing C V w known e) g (λ t m. leaf_made e t m.leaf)

  variable_leaf : (span : Span) (x : List ℕ) (n : TypedNode) (known : Bool) (v : VarSort) (who : List ℕ) → ((i : ℕ) → n ≡ node.Local i → who ≡ i ∷ []) → (n ≡ node.Nothing → ⊥) → Gives (variable span x n known v) (λ t. ((i : ℕ) → node_of t ≡ node.Local i → who ≡ i ∷ []) × (node_of t ≡ node.Nothing → ⊥))
  variable_leaf span x n known unset who f g = gives_fails (λ t. ((i : ℕ) → node_of t ≡ node.Local i → who ≡ i ∷ []) × (node_of t ≡ node.Nothing → ⊥)) span _
  variable_leaf span x n known untyped who f g = gives_silent (λ t. ((i : ℕ) → node_of t ≡ node.Local i → who ≡ i ∷ []) × (node_of t ≡ node.Nothing → ⊥))
  variable_leaf span x n known (has s) who f g = gives_is (λ t. ((i : ℕ) → node_of t ≡ node.Local i → who ≡ i ∷ []) × (node_of t ≡ node.Nothing → ⊥)) _ (f, g)

  same_local : (j i : ℕ) → node.Local j ≡ node.Local i → j ∷ [] ≡ i ∷ []
  same_local j i h = cc

  named_leaf : (known : List ℕ) (span : Span) (x : List ℕ) (m : Meaning) → Gives (named V known span x m) (λ t. ((i : ℕ) → node_of t ≡ node.Local i → local_of m ≡ i ∷ []) × (node_of t ≡ node.Nothing → ⊥))
  named_leaf known span x (meaning.Local j) = variable_leaf span x (node.Local j) (is_in known j) (var_at V.locals j) (j ∷ []) (λ i h. same_local j i h) (λ h. cc)
  named_leaf known span x (meaning.Global j) = variable_leaf span x (node.Global j) false (var_at V.globals j) [] (λ i h. absurd (cc)) (λ h. cc)
  named_leaf known span x meaning.ModuleName = gives_is (λ t. ((i : ℕ) → node_of t ≡ node.Local i → [] ≡ i ∷ []) × (node_of t ≡ node.Nothing → ⊥)) _ (λ i h. absurd (cc), λ h. cc)
  named_leaf known span x meaning.Untyped = gives_silent (λ t. ((i : ℕ) → node_of t ≡ node.Local i → [] ≡ i ∷ []) × (node_of t ≡ node.Nothing → ⊥))
  named_leaf known span x _ = record { each = λ t h. absurd (cc) }

  -- names tell nothing by themselves
  variable_mute : (span : Span) (x : List ℕ) (n : TypedNode) (known : Bool) (v : VarSort) → is_mute n ≡ true → Gives (variable span x n known v) (λ t. is_mute (node_of t) ≡ true)
  variable_mute span x n known unset h = gives_fails (λ t. is_mute (node_of t) ≡ true) span _
  variable_mute span x n known untyped h = gives_silent (λ t. is_mute (node_of t) ≡ true)
  variable_mute span x n known (has s) h = gives_is (λ t. is_mute (node_of t) ≡ true) _ h

  pub named_mute : (known : List ℕ) (span : Span) (x : List ℕ) (m : Meaning) → Gives (named V known span x m) (λ t. is_mute (node_of t) ≡ true)
  named_mute known span x (meaning.Local j) = variable_mute span x (node.Local j) (is_in known j) (var_at V.locals j) refl
  named_mute known span x (meaning.Global j) = variable_mute span x (node.Global j) false (var_at V.globals j) refl
  named_mute known span x meaning.ModuleName = gives_is (λ t. is_mute (node_of t) ≡ true) _ refl
  named_mute known span x meaning.Untyped = gives_silent (λ t. is_mute (node_of t) ≡ true)
  named_mute known span x _ = record { each = λ t h. absurd (cc) }

  -- ---- what is neither a test nor changed

  pub made_number : (w : Wanted) (known : List ℕ) (n : Rattle.std.specs.Prelude.ℤ) (span : Span) → Gives (typing C V w known (at (tree.Int n) span)) IsMade
  made_number w known n span = gives_is IsMade _ (record { leaf = refl; mute = refl })

  pub made_sign : (w : Wanted) (known : List ℕ) (e : ExprTree) (span : Span) → Gives (typing C V w known (at (tree.Neg e) span)) IsMade
  made_sign w known e span = gives_makes IsMade span (negation C.classes span) (typing C V free known e) (negation_makes C.classes span)

  pub made_operation : (w : Wanted) (known : List ℕ) (o : BinOp) (a b : ExprTree) (span : Span) → Gives (typing C V w known (at (tree.Bin o a b) span)) IsMade
  made_operation w known o a b span = gives_makes IsMade span (arithmetic C.classes span o) (both (typing C V free known a) (typing C V free known b)) (arithmetic_makes C.classes span o)

  pub made_choice : (w : Wanted) (known : List ℕ) (a t b : ExprTree) (span : Span) → Gives (typing C V w known (at (tree.Cond a t b) span)) IsMade
  made_choice w known a t b span =
      gives_makes IsMade span (choice C.classes w span) (both (both (typing C V free (facts C true t ++ known) a) (typing C V test known t)) (typing C V free (facts C false t ++ known) b)) (choice_makes C.classes w span)

  pub made_list : (w : Wanted) (known : List ℕ) (es : tree.ExprTrees) (span : Span) → Gives (typing C V w known (at (tree.ListOf es) span)) IsMade
  made_list w known es span = gives_makes IsMade span (list_display C.classes (item_sort w) span) (items C V (items_row (item_sort w)) 0 known es) (list_makes C.classes (item_sort w) span)

  pub made_dict : (w : Wanted) (known : List ℕ) (es : tree.Entries) (span : Span) → Gives (typing C V w known (at (tree.DictOf es) span)) IsMade
  made_dict w known es span =
      gives_makes IsMade span (dict_display C.classes (entry_sorts w) span) (entries C V (key_wanted (entry_sorts w)) (value_wanted (entry_sorts w)) known es) (dict_makes C.classes (entry_sorts w) span)

  pub made_tuple : (w : Wanted) (known : List ℕ) (es : tree.ExprTrees) (span : Span) → Gives (typing C V w known (at (tree.TupleOf es) span)) IsMade
  made_tuple w known es span = gives_makes IsMade span (tuple_display C.classes (parts_row w (count es)) span) (items C V (parts_row w (count es)) 0 known es) (tuple_makes C.classes (parts_row w (count es)) span)

  pub made_item : (w : Wanted) (known : List ℕ) (e i : ExprTree) (span : Span) → Gives (typing C V w known (at (tree.Index e i) span)) IsMade
  made_item w known e i span = gives_makes IsMade span (indexing C.classes span (literal i)) (both (typing C V free known e) (typing C V free known i)) (indexing_makes C.classes span (literal i))

  pub made_attribute : (w : Wanted) (known : List ℕ) (e : ExprTree) (a : List ℕ) (span : Span) → Gives (typing C V w known (at (tree.Attr e a) span)) IsMade
  made_attribute w known e a span = gives_behind (λ (t : TypedExpr). Unit {0}) IsMade (typing C V free known e) (attribute C span a) (record { each = λ t q. tt }) (gives_silent IsMade) (λ t u. read_makes C.classes span t a (look_up C.member (type_of t) a))

  -- what is a local, or None, is so as it is written
  leaf_typing : (w : Wanted) (known : List ℕ) (e : ExprTree) → is_itself e ≡ true → Gives (typing C V w known e) (LeafOf e)
  leaf_typing w known (at (tree.Name x) span) h =
      record { each = λ t q. let r = (named_leaf known span x (C.meaning x)).each t q in record { local = r.0; nothing = λ z. absurd (r.1 z) } }
  leaf_typing w known (at tree.Nothing span) h = gives_is (LeafOf (at tree.Nothing span)) _ (record { local = λ i q. absurd (cc); nothing = λ q. refl })
  leaf_typing w known (at (tree.Int n) span) h = gives_made_leaf w known (at (tree.Int n) span) (made_number w known n span)
  leaf_typing w known (at (tree.Str s) span) h = gives_is (LeafOf (at (tree.Str s) span)) _ (leaf_made (at (tree.Str s) span) _ refl)
  leaf_typing w known (at tree.True span) h = gives_is (LeafOf (at tree.True span)) _ (leaf_made (at tree.True span) _ refl)
  leaf_typing w known (at tree.False span) h = gives_is (LeafOf (at tree.False span)) _ (leaf_made (at tree.False span) _ refl)
  leaf_typing w known (at (tree.Neg e) span) h = gives_made_leaf w known (at (tree.Neg e) span) (made_sign w known e span)
  leaf_typing w known (at (tree.Plus e) span) h = absurd (cc)
  leaf_typing w known (at (tree.Call f args) span) h = absurd (cc)
  leaf_typing w known (at (tree.Not e) span) h =
      gives_made (λ t. Unit {0}) (LeafOf (at (tree.Not e) span)) (inversion span) (typing C V test known e) (record { each = λ t q. tt }) (λ t u. leaf_made (at (tree.Not e) span) (inversion span t) refl)
  leaf_typing w known (at (tree.Bin o a b) span) h = gives_made_leaf w known (at (tree.Bin o a b) span) (made_operation w known o a b span)
  leaf_typing w known (at (tree.Compare e cs) span) h =
      gives_compare C V w known span e cs (LeafOf (at (tree.Compare e cs) span)) (gives_ruled_all (λ p. Unit {0}) (LeafOf (at (tree.Compare e cs) span)) span (faults_of C.classes) (chain span) (both (typing C V free known e) (operands C V known cs)) (record { each = λ p q. tt }) (λ p u none. leaf_made (at (tree.Compare e cs) span) (chain span p) refl))
  leaf_typing w known (at (tree.And a b) span) h =
      gives_rule (λ p. Unit {0}) (LeafOf (at (tree.And a b) span)) span (junction C.classes w true span) (both (typing C V (operand w) known a) (typing C V (operand w) (facts C true a ++ known) b)) (record { each = λ p q. tt })
      (λ p u e q. junction_is (LeafOf (at (tree.And a b) span)) C.classes w true span p e (leaf_made (at (tree.And a b) span) _ refl) (λ t. leaf_made (at (tree.And a b) span) _ refl) q)
  leaf_typing w known (at (tree.Or a b) span) h =
      gives_rule (λ p. Unit {0}) (LeafOf (at (tree.Or a b) span)) span (junction C.classes w false span) (both (typing C V (operand w) known a) (typing C V (operand w) (facts C false a ++ known) b)) (record { each = λ p q. tt })
      (λ p u e q. junction_is (LeafOf (at (tree.Or a b) span)) C.classes w false span p e (leaf_made (at (tree.Or a b) span) _ refl) (λ t. leaf_made (at (tree.Or a b) span) _ refl) q)
  leaf_typing w known (at (tree.Cond a t b) span) h = gives_made_leaf w known (at (tree.Cond a t b) span) (made_choice w known a t b span)
  leaf_typing w known (at (tree.ListOf es) span) h = gives_made_leaf w known (at (tree.ListOf es) span) (made_list w known es span)
  leaf_typing w known (at (tree.TupleOf es) span) h = gives_made_leaf w known (at (tree.TupleOf es) span) (made_tuple w known es span)
  leaf_typing w known (at (tree.Index e i) span) h = gives_made_leaf w known (at (tree.Index e i) span) (made_item w known e i span)
  leaf_typing w known (at (tree.Attr e a) span) h = gives_made_leaf w known (at (tree.Attr e a) span) (made_attribute w known e a span)
  leaf_typing w known (at (tree.DictOf es) span) h = gives_made_leaf w known (at (tree.DictOf es) span) (made_dict w known es span)

  -- ---- expressions

  abbrev Less : ExprTree → TypedExpr → Type 0
  Less e t = (b : Bool) → Within (telling.facts b t) (facts C b e)

  mute_less : (e : ExprTree) (t : TypedExpr) → is_mute (node_of t) ≡ true → Less e t
  mute_less e t h b = within_from (telling.facts b t) [] (facts C b e) (mute_facts b t h) (within_none (facts C b e))

  made_less : (w : Wanted) (known : List ℕ) (e : ExprTree) → Gives (typing C V w known e) IsMade → Gives (typing C V w known e) (Less e)
  made_less w known e g = gives_then IsMade (Less e) (typing C V w known e) g (λ t m. mute_less e t m.mute)

  -- several operands behind the first
  two_or_more : (known : List ℕ) (o u : CmpOp) (f g : ExprTree) (more : Comparisons)
      → Gives (operands C V known (comparison_then o f (comparison_then u g more))) (λ (l : List (CmpOp × TypedExpr)). (x : CmpOp × TypedExpr) × (y : CmpOp × TypedExpr) × (m : List (CmpOp × TypedExpr)) × (l ≡ x ∷ y ∷ m))
  two_or_more known o u f g more =
      gives_row (λ (x : CmpOp × TypedExpr). Unit {0}) (λ (l : List (CmpOp × TypedExpr)). (y : CmpOp × TypedExpr) × (m : List (CmpOp × TypedExpr)) × (l ≡ y ∷ m))
      (λ (l : List (CmpOp × TypedExpr)). (x : CmpOp × TypedExpr) × (y : CmpOp × TypedExpr) × (m : List (CmpOp × TypedExpr)) × (l ≡ x ∷ y ∷ m)) (made (λ t. (o, t)) (typing C V free known f)) (operands C V known (comparison_then u g more))
      (record { each = λ a e. tt })
      (gives_row (λ (x : CmpOp × TypedExpr). Unit {0}) (λ (l : List (CmpOp × TypedExpr)). Unit {0}) (λ (l : List (CmpOp × TypedExpr)). (y : CmpOp × TypedExpr) × (m : List (CmpOp × TypedExpr)) × (l ≡ y ∷ m)) (made (λ t. (u, t)) (typing C V free known g)) (operands C V known more)
      (record { each = λ a e. tt }) (record { each = λ a e. tt }) (λ y m p q. (y, m, refl)))
      (λ x l p r. (x, r.0, r.1, ap (λ (z : List (CmpOp × TypedExpr)). x ∷ z) r.2))

  one_operand : (known : List ℕ) (o : CmpOp) (f : ExprTree) → Gives (operands C V known (comparison_then o f no_comparisons)) (λ (l : List (CmpOp × TypedExpr)). (q : TypedExpr) × ((typing C V free known f).got ≡ Some q) × (l ≡ (o, q) ∷ []))
  one_operand known o f =
      gives_row (λ (x : CmpOp × TypedExpr). (q : TypedExpr) × ((typing C V free known f).got ≡ Some q) × (x ≡ (o, q))) (λ l. l ≡ []) (λ (l : List (CmpOp × TypedExpr)). (q : TypedExpr) × ((typing C V free known f).got ≡ Some q) × (l ≡ (o, q) ∷ []))
      (made (λ t. (o, t)) (typing C V free known f)) (operands C V known no_comparisons)
      (gives_made (λ q. (typing C V free known f).got ≡ Some q) (λ (x : CmpOp × TypedExpr). (q : TypedExpr) × ((typing C V free known f).got ≡ Some q) × (x ≡ (o, q))) (λ t. (o, t)) (typing C V free known f) (record { each = λ q h. h }) (λ q h. (q, h, refl)))
      (gives_is (λ (l : List (CmpOp × TypedExpr)). l ≡ []) [] refl)
      (λ x l r s. (r.0, r.1, ap (λ (y : CmpOp × TypedExpr). y ∷ l) r.2 ∙ ap (λ (z : List (CmpOp × TypedExpr)). (o, r.0) ∷ z) s))

  compare_less : (known : List ℕ) (span : Span) (e : ExprTree) (cs : Comparisons) → is_itself e ≡ true → are_themselves cs ≡ true → Gives (behind (both (typing C V free known e) (operands C V known cs)) (ruled_all span (faults_of C.classes) (chain span))) (Less (at (tree.Compare e cs) span))
  compare_less known span e no_comparisons h k =
      gives_ruled_all (λ (p : TypedExpr × List (CmpOp × TypedExpr)). Unit {0} × (p.1 ≡ [])) (Less (at (tree.Compare e no_comparisons) span)) span (faults_of C.classes) (chain span) (both (typing C V free known e) (operands C V known no_comparisons))
      (gives_both (λ p. Unit {0}) (λ (l : List (CmpOp × TypedExpr)). l ≡ []) (typing C V free known e) (operands C V known no_comparisons) (record { each = λ p q. tt }) (gives_is (λ (l : List (CmpOp × TypedExpr)). l ≡ []) [] refl))
      (λ p r none b. within_from (telling.facts b (chain span p)) [] [] (ap (λ (l : List (CmpOp × TypedExpr)). telling.facts b (chain span (p.0, l))) r.1 ∙ chain_none b span p.0) (within_none []))
  compare_less known span e (comparison_then o f (comparison_then u g more)) h k =
      gives_ruled_all (λ (p : TypedExpr × List (CmpOp × TypedExpr)). Unit {0} × ((x : CmpOp × TypedExpr) × (y : CmpOp × TypedExpr) × (m : List (CmpOp × TypedExpr)) × (p.1 ≡ x ∷ y ∷ m))) (Less (at (tree.Compare e (comparison_then o f (comparison_then u g more))) span))
      span (faults_of C.classes) (chain span) (both (typing C V free known e) (operands C V known (comparison_then o f (comparison_then u g more))))
      (gives_both (λ p. Unit {0}) (λ (l : List (CmpOp × TypedExpr)). (x : CmpOp × TypedExpr) × (y : CmpOp × TypedExpr) × (m : List (CmpOp × TypedExpr)) × (l ≡ x ∷ y ∷ m)) (typing C V free known e) (operands C V known (comparison_then o f (comparison_then u g more)))
      (record { each = λ p q. tt }) (two_or_more known o u f g more))
      (λ p r none b. within_from (telling.facts b (chain span p)) [] [] (ap (λ (l : List (CmpOp × TypedExpr)). telling.facts b (chain span (p.0, l))) r.1.3 ∙ chain_more b span p.0 r.1.0 r.1.1 r.1.2) (within_none []))
  compare_less known span e (comparison_then o f no_comparisons) h k =
      gives_ruled_all (λ (p : TypedExpr × List (CmpOp × TypedExpr)). ((typing C V free known e).got ≡ Some p.0) × ((q : TypedExpr) × ((typing C V free known f).got ≡ Some q) × (p.1 ≡ (o, q) ∷ []))) (Less (at (tree.Compare e (comparison_then o f no_comparisons)) span))
      span (faults_of C.classes) (chain span) (both (typing C V free known e) (operands C V known (comparison_then o f no_comparisons)))
      (gives_both (λ p. (typing C V free known e).got ≡ Some p) (λ (l : List (CmpOp × TypedExpr)). (q : TypedExpr) × ((typing C V free known f).got ≡ Some q) × (l ≡ (o, q) ∷ [])) (typing C V free known e) (operands C V known (comparison_then o f no_comparisons))
      (record { each = λ p q. q }) (one_operand known o f))
      (λ p r none b.
      let q = r.1.0 in
      let le = (leaf_typing free known e h).each p.0 r.0 in
      let lf = (leaf_typing free known f (and_left (is_itself f) true k)).each q r.1.1 in
      within_from (telling.facts b (chain span p)) (telling.none_test b o (node_of p.0) (node_of q) node.no_comparisons) (if is_none_tree f && tells o b then subject C e else [])
      (ap (λ (l : List (CmpOp × TypedExpr)). telling.facts b (chain span (p.0, l))) r.1.2 ∙ pair_tells C V b span o p.0 q) (none_less b o (node_of p.0) (node_of q) (subject C e) (is_none_tree f) le.local lf.nothing))

  not_less : (b : Bool) (span : Span) (e : ExprTree) (t : TypedExpr) → Less e t → Within (telling.facts b (inversion span t)) (facts C b (at (tree.Not e) span))
  not_less true span e t less = within_from (telling.facts true (inversion span t)) (telling.facts false t) (facts C false e) (truth_tells false t) (less false)
  not_less false span e t less = within_from (telling.facts false (inversion span t)) (telling.facts true t) (facts C true e) (truth_tells true t) (less true)

  junction_less : (conjoined : Bool) (w : Wanted) (span : Span) (a c : ExprTree) (p : TypedExpr × TypedExpr) (e : TypedExpr) → Less a p.0 → Less c p.1 → junction C.classes w conjoined span p ≡ Ok e → (b : Bool)
      → Within (telling.facts b e) (joined_facts (if conjoined then b else not b) (facts C b a) (facts C b c))
  junction_less conjoined w span a c p e la lc h b =
      junction_is (λ x. Within (telling.facts b x) (joined_facts (if conjoined then b else not b) (facts C b a) (facts C b c))) C.classes w conjoined span p e
      (word_less conjoined b (facts C b a) (facts C b c) (truth p.0) (truth p.1) sort.Bool span (within_from (telling.facts b (truth p.0)) (telling.facts b p.0) (facts C b a) (truth_tells b p.0) (la b)) (within_from (telling.facts b (truth p.1)) (telling.facts b p.1) (facts C b c) (truth_tells b p.1) (lc b)))
      (λ t. word_less conjoined b (facts C b a) (facts C b c) (coerced t p.0) (coerced t p.1) t span (within_from (telling.facts b (coerced t p.0)) (telling.facts b p.0) (facts C b a) (coerced_tells b t p.0) (la b)) (within_from (telling.facts b (coerced t p.1)) (telling.facts b p.1) (facts C b c) (coerced_tells b t p.1) (lc b)))
      h

  pub less_typing : (w : Wanted) (known : List ℕ) (x : ExprTree) → is_bare x ≡ true → Gives (typing C V w known x) (Less x)
  less_typing w known (at (tree.Compare e cs) span) h = gives_compare C V w known span e cs (Less (at (tree.Compare e cs) span)) (compare_less known span e cs (and_left (is_itself e) (are_themselves cs) h) (and_right (is_itself e) (are_themselves cs) h))
  less_typing w known (at (tree.Not e) span) h = gives_made (Less e) (Less (at (tree.Not e) span)) (inversion span) (typing C V test known e) (less_typing test known e h) (λ t less b. not_less b span e t less)
  less_typing w known (at (tree.And a c) span) h =
      let sa = typing C V (operand w) known a in
      let sc = typing C V (operand w) (facts C true a ++ known) c in
      gives_rule (λ (p : TypedExpr × TypedExpr). Less a p.0 × Less c p.1) (Less (at (tree.And a c) span)) span (junction C.classes w true span) (both sa sc)
      (gives_both (Less a) (Less c) sa sc (less_typing (operand w) known a (and_left (is_bare a) (is_bare c) h)) (less_typing (operand w) (facts C true a ++ known) c (and_right (is_bare a) (is_bare c) h)))
      (λ p r e q b. junction_less true w span a c p e r.0 r.1 q b)
  less_typing w known (at (tree.Or a c) span) h =
      let sa = typing C V (operand w) known a in
      let sc = typing C V (operand w) (facts C false a ++ known) c in
      gives_rule (λ (p : TypedExpr × TypedExpr). Less a p.0 × Less c p.1) (Less (at (tree.Or a c) span)) span (junction C.classes w false span) (both sa sc)
      (gives_both (Less a) (Less c) sa sc (less_typing (operand w) known a (and_left (is_bare a) (is_bare c) h)) (less_typing (operand w) (facts C false a ++ known) c (and_right (is_bare a) (is_bare c) h)))
      (λ p r e q b. junction_less false w span a c p e r.0 r.1 q b)
  less_typing w known (at (tree.Name x) span) h = gives_then (λ t. is_mute (node_of t) ≡ true) (Less (at (tree.Name x) span)) (typing C V w known (at (tree.Name x) span)) (named_mute known span x (C.meaning x)) (λ t m. mute_less (at (tree.Name x) span) t m)
  less_typing w known (at (tree.Int n) span) h = made_less w known (at (tree.Int n) span) (made_number w known n span)
  less_typing w known (at (tree.Str s) span) h = gives_is (Less (at (tree.Str s) span)) _ (mute_less (at (tree.Str s) span) (typed (node.Str s) sort.Str span) refl)
  less_typing w known (at tree.True span) h = gives_is (Less (at tree.True span)) _ (mute_less (at tree.True span) (typed (node.Flag true) sort.Bool span) refl)
  less_typing w known (at tree.False span) h = gives_is (Less (at tree.False span)) _ (mute_less (at tree.False span) (typed (node.Flag false) sort.Bool span) refl)
  less_typing w known (at tree.Nothing span) h = gives_is (Less (at tree.Nothing span)) _ (mute_less (at tree.Nothing span) (typed node.Nothing sort.Nothing span) refl)
  less_typing w known (at (tree.Neg e) span) h = made_less w known (at (tree.Neg e) span) (made_sign w known e span)
  less_typing w known (at (tree.Plus e) span) h = absurd (cc)
  less_typing w known (at (tree.Call f args) span) h = absurd (cc)
  less_typing w known (at (tree.Bin o a b) span) h = made_less w known (at (tree.Bin o a b) span) (made_operation w known o a b span)
  less_typing w known (at (tree.Cond a t b) span) h = made_less w known (at (tree.Cond a t b) span) (made_choice w known a t b span)
  less_typing w known (at (tree.ListOf es) span) h = made_less w known (at (tree.ListOf es) span) (made_list w known es span)
  less_typing w known (at (tree.TupleOf es) span) h = made_less w known (at (tree.TupleOf es) span) (made_tuple w known es span)
  less_typing w known (at (tree.Index e i) span) h = made_less w known (at (tree.Index e i) span) (made_item w known e i span)
  less_typing w known (at (tree.Attr e a) span) h = made_less w known (at (tree.Attr e a) span) (made_attribute w known e a span)
  less_typing w known (at (tree.DictOf es) span) h = made_less w known (at (tree.DictOf es) span) (made_dict w known es span)
