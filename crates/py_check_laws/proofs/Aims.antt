-- What targets are: names of variables, and items.
use Rattle.std.proofs.Common.{◌≡◌, ℕ, Bool, true, false, List, [], ◌∷◌, Option, Some, None, refl, ap, sym, ◌∙◌, subst, if◌then◌else◌}
use Rattle.std.proofs.lemmas.Option.{same_Some}
use Rattle.py_syntax.specs.declared.token.Span.{Span}
use Rattle.py_syntax.specs.Expressions.{ExprTree}
use Rattle.py_typed.specs.Sorts.{Sort}
use Rattle.py_typed.specs.Expressions as node
use Rattle.py_typed.specs.Expressions.{TypedExpr, typed, type_of}
use Rattle.py_typed.specs.Statements.{TypedTarget, LocalTarget, GlobalTarget, AttrTarget, ItemTarget}
use Rattle.py_check_context.specs.declared.scope.Meaning.{Meaning}
use Rattle.py_check_context.specs.declared.scope.Meaning.TheVariants as meaning
use Rattle.py_check_context.specs.Context.{Context, VarSort, unset, untyped, has, var_at, free}
use Rattle.py_check_flow.specs.Bindings.{name_in}
use Rattle.py_typed.specs.Narrowing.{may_be_none, after_target}
use Rattle.py_check_places.specs.Places.{Known, is_unset, is_plain, rebound, names_behind, known_behind, bind_variable, bind_name}
use Rattle.py_check_places.specs.Shapes.{is_access}
use Rattle.py_check_values.specs.Aims.{Aim, held, first, unwritten, lacking}
use Rattle.py_check_targets.specs.Targets.{variable_aim, name_aim, is_written, access_aim, value_aim, next_part, more_parts, typed_at, lacking_aim, other_aim, single_aim, beyond, aims}
use Rattle.py_check_targets.specs.Attributes.{lacking_in}
use Rattle.py_check_expressions_laws.specs.WellTyped.{Within}
use Rattle.py_check_laws.proofs.Given.{made_given, row_given}
use Rattle.py_check_laws.proofs.Names.{bound_local, bound_other}

-- ---- one aim and its target

-- a variable's
same_held : (t u : TypedTarget) (s r : Sort) → held t s ≡ held u r → (t ≡ u) × (s ≡ r)
same_held t u s r e = (cc, cc)

same_first : (t u : TypedTarget) (x y : List ℕ) → first t x ≡ first u y → (t ≡ u) × (x ≡ y)
same_first t u x y e = (cc, cc)

pub variable_held : (t u : TypedTarget) (x : List ℕ) (v : VarSort) (s : Sort) → variable_aim t x v ≡ Some (held u s) → (t ≡ u) × (v ≡ has s)
variable_held t u x unset s e = absurd (cc)
variable_held t u x untyped s e = absurd (cc)
variable_held t u x (has r) s e = let q = same_held t u r s (same_Some (held t r) (held u s) e) in (q.0, ap has q.1)

pub variable_first : (t u : TypedTarget) (x y : List ℕ) (v : VarSort) → variable_aim t x v ≡ Some (first u y) → (t ≡ u) × (is_unset v ≡ true)
variable_first t u x y unset e = let q = same_first t u x y (same_Some (first t x) (first u y) e) in (q.0, refl)
variable_first t u x y untyped e = absurd (cc)
variable_first t u x y (has r) e = absurd (cc)

module _ (C : Context) where
  -- what is no name, by the attribute that it lacks, if it does
  abbrev pub OtherAt : Known → ExprTree → Option (ExprTree × List ℕ) → Aim → Type 0
  OtherAt k e None a = (t : TypedExpr) × ((typed_at C k free e).got ≡ Some t) × (value_aim (is_access e) t ≡ a)
  OtherAt k e (Some p) a = (t : TypedExpr) × ((typed_at C k free p.0).got ≡ Some t) × (lacking_aim p.1 t ≡ a)

  abbrev pub AimAt : Known → Option (List ℕ) → ExprTree → Aim → Type 0
  AimAt k (Some x) e a = name_aim k x (C.meaning x) ≡ Some a
  AimAt k None e a = OtherAt k e (lacking_in C e) a

  pub record HasAim (k : Known) (e : ExprTree) (a : Aim) (Rest : Type 0) : Type 0 where
    pub here : AimAt k (name_in e) e a
    pub rest : Rest

  -- of a row, which takes these parts of a value
  abbrev pub AimsOf : Known → Option (List Sort) → List ExprTree → List Aim → Type 0
  AimsOf k ts [] [] = Unit {0}
  AimsOf k ts [] (a ∷ l) = ⊥
  AimsOf k ts (e ∷ es) [] = ⊥
  AimsOf k ts (e ∷ es) (a ∷ l) = HasAim k e a (AimsOf (beyond C k (name_in e) (next_part ts)) (more_parts ts) es l)

  single_is : (k : Known) (x : Option (List ℕ)) (e : ExprTree) (a : Aim) → (single_aim C k x e).got ≡ Some a → AimAt k x e a
  single_is k None e a h = by (lacking_in C e) h
    where
      by : (o : Option (ExprTree × List ℕ)) → (other_aim C k e o).got ≡ Some a → OtherAt k e o a
      by None g = made_given (value_aim (is_access e)) (typed_at C k free e) a g
      by (Some p) g = made_given (lacking_aim p.1) (typed_at C k free p.0) a g
  single_is k (Some x) e a h = h

  pub aims_are : (k : Known) (ts : Option (List Sort)) (es : List ExprTree) (l : List Aim) → (aims C k ts es).got ≡ Some l → AimsOf k ts es l
  aims_are k ts [] l h = subst (AimsOf k ts []) (same_Some [] l h) tt
  aims_are k ts (e ∷ es) l h =
      let behind = beyond C k (name_in e) (next_part ts) in
      let r = row_given (single_aim C k (name_in e) e) (aims C behind (more_parts ts) es) l h in
      subst (AimsOf k ts (e ∷ es)) r.4 (record { here = single_is k (name_in e) e r.0 r.2; rest = aims_are behind (more_parts ts) es r.1 r.3 })

  -- ---- targets that have a type

  pub data Held (k : Known) (e : ExprTree) (target : TypedTarget) (t : Sort) : Type 0 where
    held_local : (x : List ℕ) (i : ℕ) → name_in e ≡ Some x → C.meaning x ≡ meaning.Local i → LocalTarget i ≡ target → var_at k.types.locals i ≡ has t → Held k e target t
    held_global : (x : List ℕ) (i : ℕ) → name_in e ≡ Some x → C.meaning x ≡ meaning.Global i → GlobalTarget i ≡ target → var_at k.types.globals i ≡ has t → Held k e target t
    held_item : (b i : TypedExpr) (place : Span) → name_in e ≡ None → (typed_at C k free e).got ≡ Some (typed (node.At b i) t place) → is_written (type_of b) ≡ true → ItemTarget b i ≡ target → Held k e target t
    held_attribute : (b : TypedExpr) (a : List ℕ) (place : Span) → name_in e ≡ None → (typed_at C k free e).got ≡ Some (typed (node.Attr b a) t place) → AttrTarget b a ≡ target → Held k e target t

  name_held : (k : Known) (e : ExprTree) (x : List ℕ) (m : Meaning) (target : TypedTarget) (t : Sort) → name_in e ≡ Some x → C.meaning x ≡ m → name_aim k x m ≡ Some (held target t) → Held k e target t
  name_held k e x (meaning.Local i) target t n q h = let r = variable_held (LocalTarget i) target x (var_at k.types.locals i) t h in held_local x i n q r.0 r.1
  name_held k e x (meaning.Global i) target t n q h = let r = variable_held (GlobalTarget i) target x (var_at k.types.globals i) t h in held_global x i n q r.0 r.1
  name_held k e x _ target t n q h = absurd (cc)

  part_held : (k : Known) (e : ExprTree) (b i : TypedExpr) (s : Sort) (place : Span) (target : TypedTarget) (t : Sort) (c : Bool) → is_written (type_of b) ≡ c → name_in e ≡ None → (typed_at C k free e).got ≡ Some (typed (node.At b i) s place) → (if c then held (ItemTarget b i) s else unwritten (type_of b)) ≡ held target t → Held k e target t
  part_held k e b i s place target t true w n g h =
      let r = same_held (ItemTarget b i) target s t h in
      held_item b i place n (g ∙ ap (λ z. Some (typed (node.At b i) z place)) r.1) w r.0
  part_held k e b i s place target t false w n g h = absurd (cc)

  item_held : (k : Known) (e : ExprTree) (v : TypedExpr) (target : TypedTarget) (t : Sort) → name_in e ≡ None → (typed_at C k free e).got ≡ Some v → access_aim v ≡ held target t → Held k e target t
  item_held k e (typed (node.At b i) s place) target t n g h = part_held k e b i s place target t (is_written (type_of b)) refl n g h
  item_held k e (typed (node.TupleAt b i) s place) target t n g h = absurd (cc)
  item_held k e (typed (node.Attr b a) s place) target t n g h =
      let r = same_held (AttrTarget b a) target s t h in
      held_attribute b a place n (g ∙ ap (λ z. Some (typed (node.Attr b a) z place)) r.1) r.0
  item_held k e _ target t n g h = absurd (cc)

  other_held : (k : Known) (e : ExprTree) (v : TypedExpr) (target : TypedTarget) (t : Sort) (c : Bool) → name_in e ≡ None → (typed_at C k free e).got ≡ Some v → value_aim c v ≡ held target t → Held k e target t
  other_held k e v target t true n g h = item_held k e v target t n g h
  other_held k e v target t false n g h = absurd (cc)

  not_lacking : {A : Type 0} (s : Sort) (a : List ℕ) (target : TypedTarget) (t : Sort) → lacking s a ≡ held target t → A
  not_lacking s a target t h = absurd (cc)

  aim_held_by : (k : Known) (e : ExprTree) (x : Option (List ℕ)) (target : TypedTarget) (t : Sort) → name_in e ≡ x → AimAt k x e (held target t) → Held k e target t
  aim_held_by k e None target t n h = by (lacking_in C e) h
    where
      by : (o : Option (ExprTree × List ℕ)) → OtherAt k e o (held target t) → Held k e target t
      by None g = other_held k e g.0 target t (is_access e) n g.1 g.2
      by (Some p) g = not_lacking (type_of g.0) p.1 target t g.2
  aim_held_by k e (Some x) target t n h = name_held k e x (C.meaning x) target t n refl h

  pub aim_held : (k : Known) (e : ExprTree) (target : TypedTarget) (t : Sort) → AimAt k (name_in e) e (held target t) → Held k e target t
  aim_held k e target t h = aim_held_by k e (name_in e) target t refl h

  -- ---- variables that have none yet

  pub data First (k : Known) (e : ExprTree) (target : TypedTarget) : Type 0 where
    first_local : (x : List ℕ) (i : ℕ) → name_in e ≡ Some x → C.meaning x ≡ meaning.Local i → LocalTarget i ≡ target → is_unset (var_at k.types.locals i) ≡ true → First k e target
    first_global : (x : List ℕ) (i : ℕ) → name_in e ≡ Some x → C.meaning x ≡ meaning.Global i → GlobalTarget i ≡ target → is_unset (var_at k.types.globals i) ≡ true → First k e target

  name_first : (k : Known) (e : ExprTree) (x y : List ℕ) (m : Meaning) (target : TypedTarget) → name_in e ≡ Some x → C.meaning x ≡ m → name_aim k x m ≡ Some (first target y) → First k e target
  name_first k e x y (meaning.Local i) target n q h = let r = variable_first (LocalTarget i) target x y (var_at k.types.locals i) h in first_local x i n q r.0 r.1
  name_first k e x y (meaning.Global i) target n q h = let r = variable_first (GlobalTarget i) target x y (var_at k.types.globals i) h in first_global x i n q r.0 r.1
  name_first k e x y _ target n q h = absurd (cc)

  no_first_item : (v : TypedExpr) (target : TypedTarget) (y : List ℕ) → access_aim v ≡ first target y → ⊥
  no_first_item (typed (node.At b i) s place) target y h = by (is_written (type_of b)) h
    where
      by : (c : Bool) → (if c then held (ItemTarget b i) s else unwritten (type_of b)) ≡ first target y → ⊥
      by true g = cc
      by false g = cc
  no_first_item (typed (node.TupleAt b i) s place) target y h = cc
  no_first_item (typed (node.Attr b a) s place) target y h = cc
  no_first_item _ target y h = cc

  no_first_value : (c : Bool) (v : TypedExpr) (target : TypedTarget) (y : List ℕ) → value_aim c v ≡ first target y → ⊥
  no_first_value true v target y h = no_first_item v target y h
  no_first_value false v target y h = cc

  no_first_other : (k : Known) (e : ExprTree) (o : Option (ExprTree × List ℕ)) (target : TypedTarget) (y : List ℕ) → OtherAt k e o (first target y) → ⊥
  no_first_other k e None target y h = no_first_value (is_access e) h.0 target y h.2
  no_first_other k e (Some p) target y h = by (type_of h.0) h.2
    where
      by : (s : Sort) → lacking s p.1 ≡ first target y → ⊥
      by s g = cc

  aim_first_by : (k : Known) (e : ExprTree) (x : Option (List ℕ)) (target : TypedTarget) (y : List ℕ) → name_in e ≡ x → AimAt k x e (first target y) → First k e target
  aim_first_by k e None target y n h = absurd (no_first_other k e (lacking_in C e) target y h)
  aim_first_by k e (Some x) target y n h = name_first k e x y (C.meaning x) target n refl h

  pub aim_first : (k : Known) (e : ExprTree) (target : TypedTarget) (y : List ℕ) → AimAt k (name_in e) e (first target y) → First k e target
  aim_first k e target y h = aim_first_by k e (name_in e) target y refl h

  -- the name of a first binding is the target's
  variable_name : (t u : TypedTarget) (x y : List ℕ) (v : VarSort) → variable_aim t x v ≡ Some (first u y) → x ≡ y
  variable_name t u x y unset e = (same_first t u x y (same_Some (first t x) (first u y) e)).1
  variable_name t u x y untyped e = absurd (cc)
  variable_name t u x y (has r) e = absurd (cc)

  name_of_first : (k : Known) (x y : List ℕ) (m : Meaning) (target : TypedTarget) → name_aim k x m ≡ Some (first target y) → x ≡ y
  name_of_first k x y (meaning.Local i) target h = variable_name (LocalTarget i) target x y (var_at k.types.locals i) h
  name_of_first k x y (meaning.Global i) target h = variable_name (GlobalTarget i) target x y (var_at k.types.globals i) h
  name_of_first k x y _ target h = absurd (cc)

  first_name_by : (k : Known) (e : ExprTree) (x : Option (List ℕ)) (target : TypedTarget) (y : List ℕ) → name_in e ≡ x → AimAt k x e (first target y) → name_in e ≡ Some y
  first_name_by k e None target y n h = absurd (no_first_other k e (lacking_in C e) target y h)
  first_name_by k e (Some x) target y n h = n ∙ ap Some (name_of_first k x y (C.meaning x) target h)

  pub first_name : (k : Known) (e : ExprTree) (target : TypedTarget) (y : List ℕ) → AimAt k (name_in e) e (first target y) → name_in e ≡ Some y
  first_name k e target y h = first_name_by k e (name_in e) target y refl h

  -- ---- the names of targets

  pub data Aimed (e : ExprTree) (target : TypedTarget) : Type 0 where
    aimed_local : (x : List ℕ) (i : ℕ) → name_in e ≡ Some x → C.meaning x ≡ meaning.Local i → LocalTarget i ≡ target → Aimed e target
    aimed_global : (x : List ℕ) (i : ℕ) → name_in e ≡ Some x → C.meaning x ≡ meaning.Global i → GlobalTarget i ≡ target → Aimed e target
    aimed_item : (b i : TypedExpr) → name_in e ≡ None → ItemTarget b i ≡ target → Aimed e target
    aimed_attribute : (b : TypedExpr) (a : List ℕ) → name_in e ≡ None → AttrTarget b a ≡ target → Aimed e target

  pub held_aimed : (k : Known) (e : ExprTree) (target : TypedTarget) (t : Sort) → Held k e target t → Aimed e target
  held_aimed k e target t (held_local x i n q is v) = aimed_local x i n q is
  held_aimed k e target t (held_global x i n q is v) = aimed_global x i n q is
  held_aimed k e target t (held_item b i place n g w is) = aimed_item b i n is
  held_aimed k e target t (held_attribute b a place n g is) = aimed_attribute b a n is

  pub first_aimed : (k : Known) (e : ExprTree) (target : TypedTarget) → First k e target → Aimed e target
  first_aimed k e target (first_local x i n q is v) = aimed_local x i n q is
  first_aimed k e target (first_global x i n q is v) = aimed_global x i n q is

  -- the names that are known behind a binding
  pub aimed_bound : (e : ExprTree) (target : TypedTarget) → Aimed e target → (ok : Bool) (k : Known) (t : Option Sort) (s : Sort) (others : List ℕ) → Within k.names others → (is_plain t ≡ true → may_be_none s ≡ false) → Within (bind_name C ok k (name_in e) t).names (after_target others target s)
  aimed_bound e target (aimed_local x i n q is) ok k t s others w h =
      subst (λ z. Within z (after_target others target s)) (sym (ap (λ o. (bind_name C ok k o t).names) n ∙ ap (λ z. (bind_variable ok k z t).names) q))
      (subst (λ z. Within (rebound i t k.names) (after_target others z s)) is (bound_local i t s k.names others w h))
  aimed_bound e target (aimed_global x i n q is) ok k t s others w h =
      subst (λ z. Within z (after_target others target s)) (sym (ap (λ o. (bind_name C ok k o t).names) n ∙ ap (λ z. (bind_variable ok k z t).names) q))
      (subst (λ z. Within k.names (after_target others z s)) is (bound_other (GlobalTarget i) s k.names others refl w))
  aimed_bound e target (aimed_item b i n is) ok k t s others w h =
      subst (λ z. Within z (after_target others target s)) (sym (ap (λ o. (bind_name C ok k o t).names) n))
      (subst (λ z. Within k.names (after_target others z s)) is (bound_other (ItemTarget b i) s k.names others refl w))
  aimed_bound e target (aimed_attribute b a n is) ok k t s others w h =
      subst (λ z. Within z (after_target others target s)) (sym (ap (λ o. (bind_name C ok k o t).names) n))
      (subst (λ z. Within k.names (after_target others z s)) is (bound_other (AttrTarget b a) s k.names others refl w))

  -- what is known behind a target is what is known behind its binding
  bound_known : (k : Known) (x : Option (List ℕ)) (t : Option Sort) → (bind_name C true k x t).names ≡ known_behind C x t k.names
  bound_known k None t = refl
  bound_known k (Some x) t = by (C.meaning x)
    where
      by : (n : Meaning) → (bind_variable true k n t).names ≡ names_behind n t k.names
      by (meaning.Local i) = refl
      by (meaning.Global i) = refl
      by _ = refl

  pub aimed_behind : (e : ExprTree) (target : TypedTarget) → Aimed e target → (k : Known) (t : Option Sort) (s : Sort) (others : List ℕ) → Within k.names others → (is_plain t ≡ true → may_be_none s ≡ false) → Within (beyond C k (name_in e) t).names (after_target others target s)
  aimed_behind e target a k t s others w h =
      subst (λ z. Within z (after_target others target s)) (bound_known k (name_in e) t) (aimed_bound e target a true k t s others w h)
