-- The truth of a value by its type: what its code does, and that it is the truth of a value which has the shape of that type.
use Rattle.ir_builder_expressions.proofs.Common.{◌≡◌, refl, sym, ◌∙◌, ap, subst, ℕ, Bool, true, false, List, [], ◌∷◌, length, Option, Some, None, nat_lt, if◌then◌else◌, suc, ◌-◌, IntVal, pos, Value, BoolVal, Sort, TypedExpr, typed, type_of, TypedModule, State, Does, ◌>>=◌, on_to, on_assoc, give, needs, Reg, Lit, Holds, Building, Setting, rtype_of, HasType, Adds, Shows, Attempts, Acts, ActsOn, ActsOnAll, of_one, as_one, attempts_as, attempts_then, literal_makes, computes_of, boxed, taken_as, is_of, is_written, means, means_node, FindsTruth, Behind, by_truth, Opens, Brings, Meets, literal_of_truth, is_scalar, EmitsOne, EmitsNode}
use Rattle.std.specs.Prelude.{◌^◌, slice_get}
use Rattle.value_core.specs.Value.{NoneVal, TupleVal, ObjVal, Object, ListObj, DictObj, InstObj}
use Rattle.py_typed.specs.declared.types.Ty as kind
use Rattle.py_typed.specs.declared.types.Ty.{fold-roll-Ty}
use Rattle.py_typed.specs.declared.types.Ty.TheVariants as variant
use Rattle.py_typed.specs.declared.types.Ty.TheOpen.{Ty-F}
use Rattle.py_typed.specs.Sorts as sort
use Rattle.py_typed.specs.Sorts.{sort_step, sort as sort_of}
use Rattle.py_typed.specs.Expressions as tree
use Rattle.source_meaning.specs.Operations.{as_list, is_filled, is_none, length_value, truth_of, truth_of_object}
use Rattle.source_soundness.specs.Shapes.{has_shape, is_list}
use Rattle.ir_core.specs.declared.code.RType.TheVariants as rtype
use Rattle.ir_builder_frames.proofs.WatchLemmas.{watched_as}
use Rattle.ir_builder_operations.specs.Converting.{is_optional}
use Rattle.ir_builder_operations.specs.Rows.{as_value, is_absent, list_length}
use Rattle.ir_builder_operations.proofs.PartLemmas.{made_attempts}
use Rattle.ir_builder_comparisons.specs.Comparing.{truth_as}
use Rattle.ir_builder_expressions.specs.declared.applying.Unary.TheVariants as unary
use Rattle.ir_builder_expressions.specs.declared.truths.Testable.TheVariants as testable
use Rattle.ir_builder_expressions.specs.Truths.{is_plain, is_testable, testable_of, is_full, truth_by, tested_as, tested_inside, TellsTruth}
use Rattle.ir_builder_expressions.proofs.TakenLemmas.{object_acts}
use Rattle.ir_builder_expressions.proofs.LookedLemmas.{shape_is_of}
use Rattle.ir_builder_expressions.proofs.ForkLemmas.{forked, asked_attempts}

-- ---- the code for what is never None

-- a length is true where it is not 0, also one that is told as the greatest `int`
more_counted : (n : ℕ) (b : Bool) (s : State) → truth_as (IntVal (pos (if b then suc n else 2 ^ 127 - 1))) s ≡ give (BoolVal true) s
more_counted n true s = refl
more_counted n false s = refl

filled_counted : (vs : List Value) (s : State) → give (BoolVal (is_filled vs)) s ≡ truth_as (length_value (length vs)) s
filled_counted [] s = refl
filled_counted (v ∷ vs) s = sym (more_counted (length vs) (nat_lt (suc (length vs)) (2 ^ 127)) s)

filled_by : (k : ℕ) (o : Option Object) (s : State) → on_to (as_list (λ k vs. give (is_filled vs)) k o s) (λ b. give (BoolVal b)) ≡ on_to (as_list (λ k vs. give (length_value (length vs))) k o s) truth_as
filled_by k (Some (ListObj vs)) s = filled_counted vs s
filled_by k (Some (DictObj ps)) s = refl
filled_by k (Some (InstObj c vs)) s = refl
filled_by k None s = refl

filled_means : (v : Value) (s : State) → is_full v s ≡ on_to (list_length v s) truth_as
filled_means (ObjVal k) s = filled_by k (slice_get s.store k) s
filled_means v s = refl

-- the type of lengths
int_type : sort_of kind.Int ≡ sort.Int
int_type = ap sort_of (sym variant.rolls-Int) ∙ fold-roll-Ty Sort sort_step Ty-F.Int

pub filled_attempts : (b0 b1 b2 : Building) (x q : Reg) (r : ℕ) → Attempts (Shows sort.Int) b0 b1 q.0 rtype.Int (ActsOnAll (boxed ∷ []) (x ∷ []) (of_one list_length)) → FindsTruth b1 b2 q.0 r (sort_of kind.Int) → Attempts (Shows sort.Bool) b0 b2 r rtype.Bool (ActsOn boxed x.0 is_full)
filled_attempts b0 b1 b2 x q r a c =
    attempts_then (Shows sort.Int) (Shows sort.Bool) b0 b1 b2 q.0 r rtype.Int rtype.Bool (ActsOn boxed x.0 list_length) (ActsOn sort.Int q.0 truth_as) (ActsOn boxed x.0 is_full) (as_one boxed sort.Int list_length b0 b1 q.0 x a) (subst (FindsTruth b1 b2 q.0 r) int_type c)
    (λ regs s res f. record {
      mid = list_length f.v s;
      go = truth_as;
      does = f.does ∙ filled_means f.v s;
      start = record { v = f.v; shows = f.shows; does = refl };
      on = λ now w s1 shows kept. record { v = w; shows = shows; does = refl };
    })

pub list_register : (t : Sort) → testable_of t ≡ testable.List → rtype_of t ≡ rtype.Ref
list_register (sort.ListOf u) is = refl
list_register (sort.TupleOf us) is = refl
list_register t is = let f : testable.Scalar ≡ testable.List = is in absurd (cc)

-- a list is an object, whatever more is known of it
pub list_tested : (t : Sort) (b c : Building) (r x : ℕ) → testable_of t ≡ testable.List → Attempts (Shows sort.Bool) b c r rtype.Bool (ActsOn boxed x is_full) → TellsTruth b c x r t
list_tested (sort.ListOf u) b c r x is a = object_acts (sort.ListOf u) (Shows sort.Bool) b c r rtype.Bool x is_full a
list_tested (sort.TupleOf us) b c r x is a = let f : testable.Tuple ≡ testable.List = is in absurd (cc)
list_tested t b c r x is a = let f : testable.Scalar ≡ testable.List = is in absurd (cc)

true_made : {line : ℕ} (u : Sort) (h : Bool) (b c : Building) (r x : ℕ) → Adds b c r rtype.Bool (Lit record { 0 = r } (literal_of_truth h)) line → Attempts (Shows sort.Bool) b c r rtype.Bool (ActsOn u x (λ v. give (BoolVal h)))
true_made u true b c r x a =
    attempts_as (Shows sort.Bool) b c r rtype.Bool (Acts (give (BoolVal true))) (ActsOn u x (λ v. give (BoolVal true))) (λ regs s res f. f.does)
    (made_attempts sort.Bool (BoolVal true) b c r rtype.Bool (true, refl) (literal_makes b c r rtype.Bool _ (Holds (BoolVal true)) a refl))
true_made u false b c r x a =
    attempts_as (Shows sort.Bool) b c r rtype.Bool (Acts (give (BoolVal false))) (ActsOn u x (λ v. give (BoolVal false))) (λ regs s res f. f.does)
    (made_attempts sort.Bool (BoolVal false) b c r rtype.Bool (false, refl) (literal_makes b c r rtype.Bool _ (Holds (BoolVal false)) a refl))

pub tuple_tested : {line : ℕ} (t : Sort) (b c : Building) (r x : ℕ) → testable_of t ≡ testable.Tuple → Adds b c r rtype.Bool (Lit record { 0 = r } (literal_of_truth true)) line → TellsTruth b c x r t
tuple_tested (sort.TupleOf us) b c r x is a =
    attempts_as (Shows sort.Bool) b c r rtype.Bool (ActsOn (sort.TupleOf us) x (λ v. give (BoolVal true))) (ActsOn (sort.TupleOf us) x (tested_as (sort.TupleOf us))) (λ regs s res f. record { v = f.v; shows = f.shows; does = f.does }) (true_made (sort.TupleOf us) true b c r x a)
tuple_tested (sort.ListOf u) b c r x is a = let f : testable.List ≡ testable.Tuple = is in absurd (cc)
tuple_tested t b c r x is a = let f : testable.Scalar ≡ testable.Tuple = is in absurd (cc)

-- numbers, bools and texts
pub scalar_tested : (t : Sort) (b c : Building) (r x : ℕ) → is_plain t ≡ true → testable_of t ≡ testable.Scalar → FindsTruth b c x r t → TellsTruth b c x r t
scalar_tested (sort.ListOf u) b c r x plain is a = let f : testable.List ≡ testable.Scalar = is in absurd (cc)
scalar_tested (sort.TupleOf us) b c r x plain is a = let f : testable.Tuple ≡ testable.Scalar = is in absurd (cc)
scalar_tested (sort.Optional u) b c r x plain is a = absurd (cc)
scalar_tested t b c r x plain is a = a

pub scalar_written : (t : Sort) → is_plain t ≡ true → testable_of t ≡ testable.Scalar → is_written t ≡ true
scalar_written sort.Int plain is = refl
scalar_written sort.I64 plain is = refl
scalar_written sort.Bool plain is = refl
scalar_written sort.Str plain is = refl
scalar_written (sort.ListOf u) plain is = let f : testable.List ≡ testable.Scalar = is in absurd (cc)
scalar_written (sort.TupleOf us) plain is = let f : testable.Tuple ≡ testable.Scalar = is in absurd (cc)
scalar_written t plain is = absurd (cc)

-- ---- the code for what may be None

-- an object as a value of a type, and its truth
pub object_tested : (t : Sort) (b0 b1 b2 : Building) (x q r : ℕ) → Attempts (Shows t) b0 b1 q (rtype_of t) (ActsOn boxed x (taken_as t)) → TellsTruth b1 b2 q r t → Attempts (Shows sort.Bool) b0 b2 r rtype.Bool (ActsOn boxed x (tested_inside t))
object_tested t b0 b1 b2 x q r a c =
    attempts_then (Shows t) (Shows sort.Bool) b0 b1 b2 q r (rtype_of t) rtype.Bool (ActsOn boxed x (taken_as t)) (ActsOn t q (tested_as t)) (ActsOn boxed x (tested_inside t)) a c
    (λ regs s res f. record {
      mid = taken_as t f.v s;
      go = tested_as t;
      does = f.does;
      start = record { v = f.v; shows = f.shows; does = refl };
      on = λ now w s1 shows kept. record { v = w; shows = shows; does = refl };
    })

abbrev no : Value → Does Value
no v = give (BoolVal false)

-- None is false, and what is not None is as true as its value
optional_by : (t : Sort) (v : Value) (h : Bool) (s : State) → as_value (if h then give false else taken_as t v >>= truth_by t) s ≡ forked no (tested_inside t) v (BoolVal h) s
optional_by t v true s = refl
optional_by t v false s = on_assoc (taken_as t v s) (truth_by t) (λ h. give (BoolVal h))

pub optional_tested : {line : ℕ} (t : Sort) (b1 b2 b3 b4 b5 b7 b8 : Building) (x c : Reg) (target test first end second ra rb : ℕ) → HasType b1 x.0 rtype.Ref → Attempts (Shows sort.Bool) b1 b2 c.0 rtype.Bool (ActsOnAll (boxed ∷ []) (x ∷ []) (of_one is_absent)) → Opens b2 b3 target test first rtype.Bool → Adds b3 b4 ra rtype.Bool (Lit record { 0 = ra } (literal_of_truth false)) line → Brings b4 b5 target ra end → second ≡ length b5.blocks → Attempts (Shows sort.Bool) b5 b7 rb rtype.Bool (ActsOn boxed x.0 (tested_inside t)) → Meets b7 b8 target rb c.0 test first end second → TellsTruth b1 b8 x.0 target (sort.Optional t)
optional_tested t b1 b2 b3 b4 b5 b7 b8 x c target test first end second ra rb type asked opens a brings is own meets =
    object_acts (sort.Optional t) (Shows sort.Bool) b1 b8 target rtype.Bool x.0 (tested_as (sort.Optional t))
    (attempts_as (Shows sort.Bool) b1 b8 target rtype.Bool (ActsOn boxed x.0 (λ v. is_absent v >>= forked no (tested_inside t) v)) (ActsOn boxed x.0 (tested_as (sort.Optional t))) (λ regs s res f. record { v = f.v; shows = f.shows; does = f.does ∙ optional_by t f.v (is_none f.v) s })
    (asked_attempts sort.Bool boxed is_absent no (tested_inside t) b1 b2 b3 b4 b5 b7 b8 x.0 c.0 target test first end second ra rb type (as_one boxed sort.Bool is_absent b1 b2 c.0 x asked) opens (true_made boxed false b3 b4 ra x.0 a) brings is own meets))

pub plain_testable : (t : Sort) → is_optional t ≡ false → is_testable t ≡ true → is_plain t ≡ true
plain_testable (sort.Optional u) is h = absurd (cc)
plain_testable t is h = h

-- ---- the meaning

-- one that has the shape of a list is true where it has items
list_by : (k : ℕ) (o : Option Object) (s : State) → is_list o ≡ true → truth_of_object o s ≡ as_list (λ k vs. give (is_filled vs)) k o s
list_by k (Some (ListObj vs)) s h = refl
list_by k (Some (DictObj ps)) s h = absurd (cc)
list_by k (Some (InstObj c vs)) s h = absurd (cc)
list_by k None s h = absurd (cc)

truth_shaped : (m : TypedModule) (t : Sort) (v : Value) (s : State) → has_shape m.classes.classes s.store t v ≡ true → truth_of v s ≡ truth_by t v s
truth_shaped m (sort.ListOf t) (ObjVal k) s h = list_by k (slice_get s.store k) s h
truth_shaped m (sort.ListOf t) v s h = absurd (cc)
truth_shaped m (sort.TupleOf ts) (TupleVal vs) s h = refl
truth_shaped m (sort.TupleOf ts) v s h = absurd (cc)
truth_shaped m (sort.Optional t) NoneVal s h = refl
truth_shaped m (sort.Optional t) v s h = truth_shaped m t v s h ∙ sym (ap (λ b. on_to (needs b (give v) s) (truth_by t)) (shape_is_of m.classes.classes s.store t v h))
truth_shaped m t v s h = refl

-- so it is of an expression's value
truth_means : {A : Type 0} (x : Setting) (e : TypedExpr) (go : Bool → Does A) (k : ℕ) (s : State) → on_to (means x e k s) (λ v. truth_of v >>= go) ≡ on_to (means x e k s) (λ v. truth_by (type_of e) v >>= go)
truth_means x (typed n t place) go k s = watched_as x.source t (means_node x n t k s) (λ v. truth_of v >>= go) (λ v. truth_by t v >>= go) (λ v s1 h. ap (λ o. on_to o go) (truth_shaped x.source t v s1 h))

pub tested_emits : (x : Setting) (e : TypedExpr) (t : Sort) (b c : Building) (r : ℕ) → EmitsOne x unary.Tested t e b c r → EmitsNode x (tree.Truth e) t b c r
tested_emits x e t b c r q =
    computes_of x (Shows t) (rtype_of t) (λ n s. on_to (means x e n s) (tested_as (type_of e))) (means_node x (tree.Truth e) t) b c r (truth_means x e (λ h. give (BoolVal h))) q

-- a choice by the truth of a value, by its type
abbrev pub by_own : Sort → Behind Value → Behind Value → Behind Value
by_own u body other n v = truth_by u v >>= λ h. if h then body n v else other n v

pub chosen_means : (x : Setting) (e : TypedExpr) (body other : Behind Value) (k : ℕ) (s : State) → on_to (means x e k s) (by_truth body other k) ≡ on_to (means x e k s) (by_own (type_of e) body other k)
chosen_means x (typed n t place) body other k s = watched_as x.source t (means_node x n t k s) (by_truth body other k) (by_own t body other k) (λ v s1 h. ap (λ o. on_to o (λ b. if b then body k v else other k v)) (truth_shaped x.source t v s1 h))
