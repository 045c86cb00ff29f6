-- What is taken as a value of a type and then looked at is what is looked at alone.
use Rattle.ir_builder_expressions.proofs.Common.{◌≡◌, refl, sym, ◌∙◌, ap, ℕ, Bool, true, false, List, length, Option, Some, None, Value, IntVal, BoolVal, StrVal, Sort, TypedExpr, TypedNode, typed, type_of, State, Outcome, Gives, Raises, Stops, Does, on_to, give, needs, TypedModule, Building, Setting, rtype_of, means, means_node, Shows, Computes, watch, watched, computes_of, looked_at, Emits, EmitsNode, EmitsOne, EmitsTwo, is_of, taken_as, length_of}
use Rattle.value_core.specs.Value.{NoneVal, TupleVal, ObjVal, Object, ListObj, DictObj, InstObj, Store}
use Rattle.py_syntax.specs.declared.token.Span.{Span}
use Rattle.py_typed.specs.Sorts as sort
use Rattle.py_typed.specs.Classes.{ClassEntry}
use Rattle.py_typed.specs.Expressions as tree
use Rattle.source_meaning.specs.State.{Stuck}
use Rattle.source_meaning.specs.Operations.{item_at, list_item, length_of_object, as_list, length_value}
use Rattle.source_soundness.specs.Shapes.{has_shape, is_list}
use Rattle.ir_builder_frames.proofs.WatchLemmas.{watched_as}
use Rattle.ir_builder_operations.specs.Rows.{list_length, tuple_length}
use Rattle.ir_builder_expressions.specs.declared.applying.Unary.{Unary}
use Rattle.ir_builder_expressions.specs.declared.applying.Unary.TheVariants as unary
use Rattle.ir_builder_expressions.specs.declared.applying.Binary.TheVariants as binary
use Rattle.ir_builder_expressions.specs.Applying.{size_by, unary_goes, binary_goes, BinarySuits, index_of}
use Rattle.std.specs.Prelude.{slice_get}

-- ---- a value that is taken

pub shape_is_of : (classes : List ClassEntry) (store : Store) (t : Sort) (v : Value) → has_shape classes store t v ≡ true → is_of t v ≡ true
shape_is_of classes store sort.Int (IntVal n) h = refl
shape_is_of classes store sort.Int v h = absurd (cc)
shape_is_of classes store sort.I64 (IntVal n) h = h
shape_is_of classes store sort.I64 v h = absurd (cc)
shape_is_of classes store sort.Bool (BoolVal b) h = refl
shape_is_of classes store sort.Bool v h = absurd (cc)
shape_is_of classes store sort.Str (StrVal text) h = refl
shape_is_of classes store sort.Str v h = absurd (cc)
shape_is_of classes store sort.Nothing NoneVal h = refl
shape_is_of classes store sort.Nothing v h = absurd (cc)
shape_is_of classes store (sort.Optional t) NoneVal h = refl
shape_is_of classes store (sort.Optional t) v h = shape_is_of classes store t v h
shape_is_of classes store t v h = refl

unshaped : (m : TypedModule) (t : Sort) (v : Value) (s : State) → is_of t v ≡ false → (b : Bool) → has_shape m.classes.classes s.store t v ≡ b → Stops Stuck s ≡ needs b (give v) s
unshaped m t v s e true h = absurd (let f : true ≡ false = sym (shape_is_of m.classes.classes s.store t v h) ∙ e in cc)
unshaped m t v s e false h = refl

taken_by : (m : TypedModule) (t : Sort) (v : Value) (s : State) (b : Bool) → is_of t v ≡ b → on_to (needs b (give v) s) (watch m t) ≡ watch m t v s
taken_by m t v s true e = refl
taken_by m t v s false e = unshaped m t v s e (has_shape m.classes.classes s.store t v) refl

pub taken_on : (m : TypedModule) (t : Sort) (res : Outcome Value) → on_to res (watch m t) ≡ on_to (on_to res (taken_as t)) (watch m t)
taken_on m t (Gives v s) = sym (taken_by m t v s (is_of t v) refl)
taken_on m t (Raises v s) = refl
taken_on m t (Stops w s) = refl

-- behind a part, and behind two
behind_one : (m : TypedModule) (t : Sort) (res : Outcome Value) (f : Value → Does Value) → on_to (on_to res f) (watch m t) ≡ on_to (on_to res (λ v s. on_to (f v s) (taken_as t))) (watch m t)
behind_one m t (Gives v s) f = taken_on m t (f v s)
behind_one m t (Raises v s) f = refl
behind_one m t (Stops w s) f = refl

behind_two : (m : TypedModule) (t : Sort) (res : Outcome Value) (second : Value → Does Value) (f : Value → Value → Does Value) → on_to (on_to res (λ v s. on_to (second v s) (f v))) (watch m t) ≡ on_to (on_to res (λ v s. on_to (second v s) (λ w u. on_to (f v w u) (taken_as t)))) (watch m t)
behind_two m t (Gives v s) second f = behind_one m t (second v s) (f v)
behind_two m t (Raises v s) second f = refl
behind_two m t (Stops w s) second f = refl

-- ---- expressions

-- a value that was taken, which the expression's node gives
pub taken_emits : (x : Setting) (n : TypedNode) (t : Sort) (place : Span) (b c : Building) (r : ℕ) → Computes x (Shows t) (rtype_of t) (λ k s. on_to (means_node x n t k s) (taken_as t)) b c r → Emits x (typed n t place) b c r
taken_emits x n t place b c r q =
    computes_of x (Shows t) (rtype_of t) (λ k s. on_to (on_to (means_node x n t k s) (taken_as t)) (watch x.source t)) (means x (typed n t place)) b c r (λ k s. taken_on x.source t (means_node x n t k s))
    (watched x (Shows t) (Shows t) (rtype_of t) t (λ k s. on_to (means_node x n t k s) (taken_as t)) b c r (λ v h kind k. k) q)

-- the same where a part comes before
pub one_taken : (x : Setting) (op : Unary) (f : Value → Does Value) (n : TypedNode) (t : Sort) (e : TypedExpr) (place : Span) (b c : Building) (r : ℕ) → ((k : ℕ) (s : State) → means_node x n t k s ≡ on_to (means x e k s) f) → ((v : Value) → unary_goes op t (type_of e) v ≡ (λ s. on_to (f v s) (taken_as t))) → EmitsOne x op t e b c r → Emits x (typed n t place) b c r
one_taken x op f n t e place b c r is goes q =
    computes_of x (Shows t) (rtype_of t) (λ k s. on_to (on_to (means x e k s) (unary_goes op t (type_of e))) (watch x.source t)) (means x (typed n t place)) b c r
    (λ k s. ap (λ z. on_to z (watch x.source t)) (is k s) ∙ behind_one x.source t (means x e k s) f ∙ ap (λ (g : Value → Does Value). on_to (on_to (means x e k s) g) (watch x.source t)) (sym (λ i v. goes v i)))
    (watched x (Shows t) (Shows t) (rtype_of t) t (λ k s. on_to (means x e k s) (unary_goes op t (type_of e))) b c r (λ v h kind k. k) q)

-- an item of a list, or a letter of a text, by the type of what is indexed
pub at_emits : (x : Setting) (e f : TypedExpr) (t u : Sort) (place : Span) (b c : Building) (r : ℕ) → type_of e ≡ u → BinarySuits (index_of u) t u (type_of f) → EmitsTwo x (index_of u) t e f b c r → Emits x (typed (tree.At e f) t place) b c r
at_emits x e f t (sort.ListOf w) place b c r is h q =
    computes_of x (Shows t) (rtype_of t) (λ k s. on_to (on_to (means x e k s) (λ v s1. on_to (means x f k s1) (binary_goes binary.Item t v))) (watch x.source t)) (means x (typed (tree.At e f) t place)) b c r
    (λ k s. ap (λ z. on_to (on_to (means x e k s) (λ v s1. on_to (means x f k s1) (item_at z v))) (watch x.source t)) is ∙ behind_two x.source t (means x e k s) (λ v. means x f k) list_item)
    (watched x (Shows t) (Shows t) (rtype_of t) t (λ k s. on_to (means x e k s) (λ v s1. on_to (means x f k s1) (binary_goes binary.Item t v))) b c r (λ v h kind k. k) q)
at_emits x e f t sort.Str place b c r is h q =
    looked_at x (Shows t) (tree.At e f) t place b c r (λ v h kind k. k.0)
    (computes_of x (Shows t) (rtype_of t) (λ n s. on_to (means x e n s) (λ v s1. on_to (means x f n s1) (binary_goes binary.Indexed t v))) (means_node x (tree.At e f) t) b c r
    (λ n s. ap (λ u. on_to (means x e n s) (λ v s1. on_to (means x f n s1) (item_at u v))) is) q)
at_emits x e f t u place b c r is h q = let g = h.1 in absurd (cc)

-- ---- sizes, by the type of what has one

list_by : (v : Value) (s : State) (k : ℕ) (o : Option Object) → is_list o ≡ true → length_of_object o s ≡ as_list (λ k vs. give (length_value (length vs))) k o s
list_by v s k (Some (ListObj vs)) h = refl
list_by v s k (Some (DictObj ps)) h = absurd (cc)
list_by v s k (Some (InstObj c vs)) h = absurd (cc)
list_by v s k None h = absurd (cc)

list_sized : (m : TypedModule) (t : Sort) (v : Value) (s : State) → has_shape m.classes.classes s.store (sort.ListOf t) v ≡ true → length_of v s ≡ list_length v s
list_sized m t (ObjVal k) s h = list_by (ObjVal k) s k (slice_get s.store k) h
list_sized m t v s h = absurd (cc)

tuple_sized : (m : TypedModule) (ts : sort.Sorts) (v : Value) (s : State) → has_shape m.classes.classes s.store (sort.TupleOf ts) v ≡ true → length_of v s ≡ tuple_length v s
tuple_sized m ts (TupleVal vs) s h = refl
tuple_sized m ts v s h = absurd (cc)

sized_means : (x : Setting) (e : TypedExpr) (k : ℕ) (s : State) → on_to (means x e k s) length_of ≡ on_to (means x e k s) (size_by (type_of e))
sized_means x (typed n (sort.ListOf t) place) k s = watched_as x.source (sort.ListOf t) (means_node x n (sort.ListOf t) k s) length_of list_length (list_sized x.source t)
sized_means x (typed n (sort.TupleOf ts) place) k s = watched_as x.source (sort.TupleOf ts) (means_node x n (sort.TupleOf ts) k s) length_of tuple_length (tuple_sized x.source ts)
sized_means x (typed n t place) k s = refl

pub sized_emits : (x : Setting) (e : TypedExpr) (t : Sort) (b c : Building) (r : ℕ) → EmitsOne x unary.Counted t e b c r → EmitsNode x (tree.Len e) t b c r
sized_emits x e t b c r q =
    computes_of x (Shows t) (rtype_of t) (λ n s. on_to (means x e n s) (size_by (type_of e))) (means_node x (tree.Len e) t) b c r (sized_means x e) q
