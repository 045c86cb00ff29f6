-- Values of each type that is built.
use Rattle.ir_builder_operations.proofs.Common.{◌≡◌, sym, subst, true, List, [], ◌∷◌, ℤ, lies_within, Value, IntVal, BoolVal, StrVal, Sort, HasKind, HaveKinds, boxed}
use Rattle.py_typed.specs.Sorts as sort

-- a value of a type is one of these
abbrev pub Elim : {A : Type 0} → Sort → (A → Value) → Type 1
Elim {A} t val = (P : Value → Type 0) → ((a : A) → P (val a)) → (v : Value) → HasKind t v → P v

pub by_int : Elim sort.Int IntVal
by_int P f v k = subst P (sym k.1) (f k.0)

pub by_i64 : (P : Value → Type 0) → ((n : ℤ) → lies_within 63 n ≡ true → P (IntVal n)) → (v : Value) → HasKind sort.I64 v → P v
by_i64 P f v k = subst P (sym k.1) (f k.0 k.2)

pub by_bool : Elim sort.Bool BoolVal
by_bool P f v k = subst P (sym k.1) (f k.0)

pub by_text : Elim sort.Str StrVal
by_text P f v k = subst P (sym k.1) (f k.0)

-- any value is one of a type for objects
pub by_any : Elim boxed (λ (v : Value). v)
by_any P f v k = f v

-- a native integer, with its range
abbrev pub Native : Type 0
Native = (n : ℤ) × (lies_within 63 n ≡ true)

abbrev pub native_value : Native → Value
native_value n = IntVal n.0

pub by_native : Elim sort.I64 native_value
by_native P f v k = by_i64 P (λ n e. f (n, e)) v k

-- ---- the values of no operand, of one, of two and of three

pub on_none : (P : List Value → Type 0) → P [] → (vs : List Value) → HaveKinds [] vs → P vs
on_none P f [] h = f
on_none P f (v ∷ vs) h = absurd h

pub on_one : {A : Type 0} (t : Sort) (val : A → Value) → Elim t val → (P : List Value → Type 0) → ((a : A) → P (val a ∷ [])) → (vs : List Value) → HaveKinds (t ∷ []) vs → P vs
on_one t val by P f [] h = absurd h
on_one t val by P f (v ∷ []) h = by (λ z. P (z ∷ [])) f v h.0
on_one t val by P f (v ∷ w ∷ vs) h = absurd h.1

pub on_two : {A B : Type 0} (t u : Sort) (val : A → Value) (other : B → Value) → Elim t val → Elim u other → (P : List Value → Type 0) → ((a : A) (b : B) → P (val a ∷ other b ∷ [])) → (vs : List Value) → HaveKinds (t ∷ u ∷ []) vs → P vs
on_two t u val other by by' P f [] h = absurd h
on_two t u val other by by' P f (v ∷ []) h = absurd h.1
on_two t u val other by by' P f (v ∷ w ∷ []) h = by (λ z. P (z ∷ w ∷ [])) (λ a. by' (λ z. P (val a ∷ z ∷ [])) (f a) w h.1.0) v h.0
on_two t u val other by by' P f (v ∷ w ∷ x ∷ vs) h = absurd h.1.1

pub on_three : {A B C : Type 0} (t u w : Sort) (val : A → Value) (other : B → Value) (third : C → Value) → Elim t val → Elim u other → Elim w third → (P : List Value → Type 0) → ((a : A) (b : B) (c : C) → P (val a ∷ other b ∷ third c ∷ [])) → (vs : List Value) → HaveKinds (t ∷ u ∷ w ∷ []) vs → P vs
on_three t u w val other third by by' by'' P f [] h = absurd h
on_three t u w val other third by by' by'' P f (x ∷ vs) h =
    by (λ z. P (z ∷ vs)) (λ a. on_two u w other third by' by'' (λ zs. P (val a ∷ zs)) (f a) vs h.1) x h.0
