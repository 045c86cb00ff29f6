-- Updates of a variable do in their code what they mean.
use Rattle.ir_builder_statements.proofs.Common.{◌≡◌, ℕ, true, List, [], Option, Some, None, refl, sym, ap, ◌∙◌, subst, inl, inr, slice_get, Value, Sort, sort_step, TypedExpr, type_of, Variable, TypedModule, TypedTarget, LocalTarget, GlobalTarget, AttrTarget, ItemTarget, State, Outcome, Gives, Raises, Stops, Does, Calls, on_to, give, coerced, combined, Reg, Building, Extends, Setting, rtype_of, HasType, HasRoom, means, Shows, Meaning, Computes, Attempts, room_on, computes_of, is_whole, ActsOn, is_scalar, binary_goes, BinarySuits, Suits, EmitsTwo, means_update, Works, set_works, works_of, IsVariable, IsRead, UpdateSuits, VariableUpdates, TakesRegister, SetsVariable, reading_of, update_binary, TurnsInto, Span, BinOp, Ty, fold-roll-Ty}
use Rattle.py_typed.specs.declared.types.Ty.TheVariants as declared
use Rattle.py_typed.specs.declared.types.Ty.TheOpen.{Ty-F}
use Rattle.py_typed.specs.Sorts as sort
use Rattle.py_typed.specs.Sorts.{sort as sort_of}
use Rattle.py_typed.specs.Classes.{ClassEntry}
use Rattle.py_typed.specs.Fits.{fits}
use Rattle.source_meaning.specs.StatementMeaning.{target_sort}
use Rattle.source_meaning.specs.ExpressionMeaning.{read_local, read_global}
use Rattle.source_soundness.specs.Watched.{bare, assign, update, changed}
use Rattle.py_typed.specs.TargetTypes.{sort_at}
use Rattle.ir_builder_statements.specs.Lined.{target_pieces}
use Rattle.ir_builder_frames.specs.Watching.{watch, calls_in}
use Rattle.ir_builder_loops_and_jumps.specs.Simple.{storing}
use Rattle.source_meaning.specs.WaysOut.{Flow, Goes}
use Rattle.ir_builder_operations.specs.Converting.{is_flat}
use Rattle.ir_builder_operations.proofs.PartLemmas.{stays}
use Rattle.ir_builder_expressions.specs.declared.applying.Binary.TheVariants.{Arithmetic}
use Rattle.ir_builder_expressions.proofs.NumberLemmas.{whole_numeric}
use Rattle.ir_builder_expressions.proofs.FollowLemmas.{part_attempts}

-- ---- what assignment means

pub sort_is : (locals : List Variable) (k : ℕ) (v0 : Variable) (t : Sort) → slice_get locals k ≡ Some v0 → v0.1 ≡ t → sort_at locals k ≡ t
sort_is locals k v0 t var same = rw var same

module _ (x : Setting) (n : ℕ) where
  abbrev classes : List ClassEntry
  classes = x.source.classes.classes

  abbrev call : Calls
  call = calls_in x.source n

  -- a value is put into a variable
  abbrev putting : TypedTarget → Value → Does (Unit {0})
  putting = assign (watch x.source) classes call x.source.globals x.variables

  abbrev target_type : TypedTarget → Sort
  target_type = target_sort classes call x.source.globals x.variables

  abbrev Is : TypedTarget → Sort → Type 0
  Is = IsVariable x.source x.variables None

  pub type_is : (target : TypedTarget) (t : Sort) → Is target t → target_type target ≡ t
  type_is (LocalTarget k) t v = sort_is x.variables k v.0 t v.1 v.2
  type_is (GlobalTarget i) t v = sort_is x.source.globals i v.0 t v.1 v.2
  type_is (AttrTarget e name) t v = absurd v
  type_is (ItemTarget e i) t v = absurd v

  pub assigned : (target : TypedTarget) (t : Sort) (s : State) (w : Value) → Is target t → putting target w s ≡ storing target w s
  assigned (LocalTarget k) t s w v = refl
  assigned (GlobalTarget i) t s w v = refl
  assigned (AttrTarget e name) t s w v = absurd v
  assigned (ItemTarget e i) t s w v = absurd v

-- a variable has no parts
pub no_pieces : (m : TypedModule) (vs : List Variable) (target : TypedTarget) (t : Sort) → IsVariable m vs None target t → target_pieces target ≡ []
no_pieces m vs (LocalTarget k) t v = refl
no_pieces m vs (GlobalTarget i) t v = refl
no_pieces m vs (AttrTarget e name) t v = absurd v
no_pieces m vs (ItemTarget a i) t v = absurd v

-- ---- updates

from_operand : (m : Outcome Value) (a : Value → Does Value) (c : Value → Does Value) (g : Value → Does (Unit {0})) (h : Unit {0} → Does Flow) → on_to (on_to (on_to m (λ y s. on_to (a y s) c)) g) h ≡ on_to (on_to (on_to m a) c) (λ v s. on_to (g v s) h)
from_operand (Gives y s) a c g h = from_result (on_to (a y s) c) g h
  where
    from_result : (r : Outcome Value) (g : Value → Does (Unit {0})) (h : Unit {0} → Does Flow) → on_to (on_to r g) h ≡ on_to r (λ v s. on_to (g v s) h)
    from_result (Gives v s) g h = refl
    from_result (Raises v s) g h = refl
    from_result (Stops w s) g h = refl
from_operand (Raises v s) a c g h = refl
from_operand (Stops w s) a c g h = refl

from_read : (r : Outcome Value) (m : Does Value) (a : Value → Value → Does Value) (c : Value → Does Value) (g : Value → Does (Unit {0})) (h : Unit {0} → Does Flow) → on_to (on_to (on_to r (λ u s. on_to (m s) (λ y z. on_to (a u y z) c))) g) h ≡ on_to (on_to (on_to r (λ u s. on_to (m s) (a u))) c) (λ v s. on_to (g v s) h)
from_read (Gives u s) m a c g h = from_operand (m s) (a u) c g h
from_read (Raises v s) m a c g h = refl
from_read (Stops w s) m a c g h = refl

-- what an update of a variable means, where it is read as an expression
abbrev pub Reads : Setting → TypedTarget → TypedExpr → Type 0
Reads x target before =
    (n : ℕ) (f : Value → Does Value) (s : State) → update (watch x.source) x.source.classes.classes (calls_in x.source n) x.source.globals x.variables target f s ≡ on_to (on_to (means x before n s) f) (assign (watch x.source) x.source.classes.classes (calls_in x.source n) x.source.globals x.variables target)

pub bare_simple : (t : Sort) → is_scalar t ≡ true → bare t ≡ t
bare_simple (sort.Optional t) h = absurd (cc)
bare_simple t h = refl

reads_so : (x : Setting) (target : TypedTarget) (own : Sort) (place : Span) → IsVariable x.source x.variables None target own → Reads x target (reading_of target (bare own) place)
reads_so x (LocalTarget k) own place v n f s = ap (λ z. on_to (on_to (on_to (read_local x.variables k s) (watch x.source z)) f) (putting x n (LocalTarget k))) (ap bare (type_is x n (LocalTarget k) own v))
reads_so x (GlobalTarget i) own place v n f s = ap (λ z. on_to (on_to (on_to (read_global x.source.globals i s) (watch x.source z)) f) (putting x n (GlobalTarget i))) (ap bare (type_is x n (GlobalTarget i) own v))
reads_so x (AttrTarget a name) own place v n f s = absurd v
reads_so x (ItemTarget a i) own place v n f s = absurd v

whole_simple : (t : Sort) → is_whole t ≡ true → is_scalar t ≡ true
whole_simple sort.Int k = refl
whole_simple sort.I64 k = refl
whole_simple _ k = absurd (cc)

pub declared_text : (ty : Ty) → ty ≡ declared.Str → sort_of ty ≡ sort.Str
declared_text ty is = ap sort_of is ∙ ap sort_of (sym declared.rolls-Str) ∙ fold-roll-Ty Sort sort_step Ty-F.Str

-- a text is in its register already
pub text_stays : (b : Building) (r : ℕ) (t u : Sort) → u ≡ sort.Str → TurnsInto t u → HasType b r (rtype_of t) → Attempts (Shows u) b b r (rtype_of u) (ActsOn t r (coerced u))
text_stays b r t u text (inl h) type = absurd (let f : is_whole sort.Str ≡ true = subst (λ z. is_whole z ≡ true) text h.1 in cc)
text_stays b r t u text (inr h) type =
    let P : Sort → Type 0 = λ z. Attempts (Shows z) b b r (rtype_of z) (ActsOn t r (coerced z)) in
    let Q : Sort → Type 0 = λ z. HasType b r (rtype_of z) → Attempts (Shows sort.Str) b b r (rtype_of sort.Str) (ActsOn z r (coerced sort.Str)) in
    subst P (sym h.1) (subst Q (sym h.0) (λ has. stays sort.Str (coerced sort.Str) b r (rtype_of sort.Str) has (λ v s kind. refl)) type)

module _ (m : TypedModule) (vs : List Variable) where
  -- a variable has one type
  one_found : (o : Option Variable) (t u : Sort) → (v : Variable) × (o ≡ Some v) × (v.1 ≡ t) → (v : Variable) × (o ≡ Some v) × (v.1 ≡ u) → t ≡ u
  one_found o t u v w = let e : Some v.0 ≡ Some w.0 = sym v.1 ∙ w.1 in let same : v.0 ≡ w.0 = cc in sym v.2 ∙ ap (λ (z : Variable). z.1) same ∙ w.2

  pub one_sort : (target : TypedTarget) (t u : Sort) → IsVariable m vs None target t → IsVariable m vs None target u → t ≡ u
  one_sort (LocalTarget k) t u v w = one_found (slice_get vs k) t u v w
  one_sort (GlobalTarget i) t u v w = one_found (slice_get m.globals i) t u v w
  one_sort (AttrTarget e name) t u v w = absurd v
  one_sort (ItemTarget e i) t u v w = absurd v

  -- so an update suits the type that was found
  pub own_updates : (target : TypedTarget) (op : BinOp) (own t w : Sort) → IsVariable m vs None target own → VariableUpdates m vs None target op t w → IsRead m vs None target (bare own) × UpdateSuits m vs None op (bare own) t w × (fits m.classes.classes t own ≡ true) × (is_flat own ≡ true)
  own_updates target op own t w is updates =
      let P : Sort → Type 0 = λ z. IsRead m vs None target (bare z) × UpdateSuits m vs None op (bare z) t w × (fits m.classes.classes t z ≡ true) × (is_flat z ≡ true) in
      subst P (one_sort target updates.0 own updates.1 is) (updates.2, updates.3, updates.4, updates.5)

  -- the type of what is updated
  pub updated_simple : (op : BinOp) (u t w : Sort) → UpdateSuits m vs None op u t w → is_scalar u ≡ true
  updated_simple op u t w (inl h) = whole_simple u h.0
  updated_simple op u t w (inr h) = ap is_scalar h.1.1

  -- the result becomes one of it
  pub update_turns : (op : BinOp) (u t w : Sort) → UpdateSuits m vs None op u t w → TurnsInto t u
  update_turns op u t w (inl h) = inl (whole_numeric t h.1.0, h.0)
  update_turns op u t w (inr h) = inr (h.1.0, h.1.1)

  -- its operation suits
  pub update_fits : (op : BinOp) (u t w : Sort) → UpdateSuits m vs None op u t w → BinarySuits (update_binary op t) t u w
  update_fits op u t w (inl h) = by_number t h.1
    where
      by_number : (t : Sort) → BinarySuits (Arithmetic op) t u w → BinarySuits (update_binary op t) t u w
      by_number sort.Int k = k
      by_number sort.I64 k = k
      by_number _ k = absurd (let f = k.0 in cc)
  update_fits op u t w (inr h) = let P : Sort → Type 0 = λ z. BinarySuits (update_binary op z) z u w in subst P (sym h.1.0) (refl, h.1.1, h.1.2)

  -- and does what the update does with the two values
  update_goes : (op : BinOp) (u t w : Sort) → UpdateSuits m vs None op u t w → (v y : Value) → combined t op v y ≡ binary_goes (update_binary op t) t v y
  update_goes op u t w (inl h) v y = by_number t h.1.0
    where
      by_number : (t : Sort) → is_whole t ≡ true → combined t op v y ≡ binary_goes (update_binary op t) t v y
      by_number sort.Int k = refl
      by_number sort.I64 k = refl
      by_number _ k = absurd (cc)
  update_goes op u t w (inr h) v y =
      let P : Sort → Type 0 = λ z. combined z op v y ≡ binary_goes (update_binary op z) z v y in
      let Q : BinOp → Type 0 = λ z. combined sort.Str z v y ≡ binary_goes (update_binary z sort.Str) sort.Str v y in
      subst P (sym h.1.0) (subst Q (sym h.0) refl)

  -- a variable that is read suits
  pub reading_suits : (target : TypedTarget) (t : Sort) (place : Span) → IsRead m vs None target t → Suits m vs (reading_of target t place)
  reading_suits (LocalTarget k) t place v = v
  reading_suits (GlobalTarget i) t place v = v
  reading_suits (AttrTarget a name) t place v = absurd v
  reading_suits (ItemTarget a i) t place v = absurd v

-- a variable of a type is read, at the one under it where that is an Optional, the operation is done in another one, and its result put into
-- the variable
module _ (x : Setting) (target : TypedTarget) (op : BinOp) (own t : Sort) (before e : TypedExpr) (place : Span) (is : before ≡ reading_of target (bare own) place) (variable : IsVariable x.source x.variables None target own) (suits : UpdateSuits x.source x.variables None op (bare own) t (type_of e)) where
  -- the result of the operation
  abbrev result : Meaning Value
  result n s = on_to (means x before n s) (λ v s1. on_to (means x e n s1) (combined t op v))

  -- and it in the variable's type
  abbrev value : Meaning Value
  value n s = on_to (result n s) (coerced own)

  value_made : (b0 b1 b2 : Building) (q r : ℕ) → HasRoom x b0 → EmitsTwo x (update_binary op t) t before e b0 b1 q → Attempts (Shows own) b1 b2 r (rtype_of own) (ActsOn t q (coerced own)) → Computes x (Shows own) (rtype_of own) value b0 b2 r
  value_made b0 b1 b2 q r room two turned =
      let goes : (v w : Value) → combined t op v w ≡ binary_goes (update_binary op t) t v w = update_goes x.source x.variables op (bare own) t (type_of e) suits in
      computes_of x (Shows own) (rtype_of own) _ value b0 b2 r (λ n s i. on_to (on_to (means x before n s) (λ v s1. on_to (means x e n s1) (λ w. goes v w i))) (coerced own))
      (part_attempts x (Shows t) (Shows own) (rtype_of t) (rtype_of own) _ (coerced own) (ActsOn t q (coerced own)) b0 b1 b2 q r room two turned (λ v s regs k. record { v = v; shows = k; does = refl }))

  reads : Reads x target before
  reads = let P : TypedExpr → Type 0 = λ z. Reads x target z in subst P (sym is) (reads_so x target own place variable)

  abbrev go : ℕ → Value → Does Flow
  go n w s = on_to (putting x n target w s) (λ u. give Goes)

  means_so : (n : ℕ) (s : State) → means_update x target op e t n s ≡ on_to (value n s) (go n)
  means_so n s =
      ap (λ o. on_to o (λ u. give Goes)) (reads n (changed (watch x.source) (classes x n) (call x n) x.source.globals x.variables target op e t) s)
      ∙ from_read (means x before n s) (means x e n) (combined t op) (coerced (target_type x n target)) (putting x n target) (λ u. give Goes)
      ∙ ap (λ z. on_to (on_to (result n s) (coerced z)) (go n)) (type_is x n target own variable)

  pub update_code : (b0 b1 b2 b3 : Building) (q : ℕ) (r : Reg) → HasRoom x b0 → EmitsTwo x (update_binary op t) t before e b0 b1 q → Attempts (Shows own) b1 b2 r.0 (rtype_of own) (ActsOn t q (coerced own)) → SetsVariable x.source x.frame target r.0 b2 b3 → (gives : Option Sort) → Works x gives (means_update x target op e t) b0 b3 []
  update_code b0 b1 b2 b3 q r room two turned put_in gives =
      let made = value_made b0 b1 b2 q r.0 room two turned in
      let sets = put_in x.variables own (room_on x b0 b2 made.extends room) variable made.type in
      works_of x gives (means_update x target op e t) (λ n s. on_to (value n s) (go n)) b0 b3 [] means_so
      (set_works x gives value own target r.0 (λ n. putting x n target) b0 b2 b3 room made sets
      (λ n w s kind. assigned x n target own s w variable))

-- the register of the value has the variable's type
pub update_takes : (x : Setting) (target : TypedTarget) (own : Sort) (b0 b1 : Building) (r : ℕ) → IsVariable x.source x.variables None target own → HasRoom x b0 → Extends b0 b1 → HasType b1 r (rtype_of own) → TakesRegister x.source x.frame target r b1
update_takes x target own b0 b1 r variable room more type = (x.variables, own, room_on x b0 b1 more room, variable, type)
