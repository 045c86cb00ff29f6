-- Values that are typed at a place stand there, and so do the targets that they are bound to.
use Rattle.std.proofs.Common.{◌≡◌, ℕ, zero, suc, ◌<◌, Bool, true, false, ◌&&◌, nat_lt, List, [], ◌∷◌, length, Option, Some, None, refl, ap, ap₂, sym, ◌∙◌, subst, if◌then◌else◌, lt-ltb, eq-eqb, arith, not, ◌||◌}
use Rattle.std.proofs.lemmas.Bool.{and_from, or_left, or_right}
use Rattle.std.proofs.lemmas.Option.{same_Some}
use Rattle.std.specs.List.{list_all}
use Rattle.std.specs.Option.{option_map, option_and_then}
use Rattle.py_syntax.specs.declared.token.Span.{Span}
use Rattle.py_syntax.specs.Expressions.{ExprTree}
use Rattle.py_typed.specs.Sorts as sort
use Rattle.py_typed.specs.Sorts.{Sort, Sorts, no_sorts, sort_then, sorts_of, listed_sorts}
use Rattle.py_typed.specs.Classes.{ClassEntry}
use Rattle.py_typed.specs.Fits.{is_same_type, is_nothing, fits}
use Rattle.py_typed.specs.Expressions as node
use Rattle.py_typed.specs.Expressions.{TypedExpr, typed, type_of}
use Rattle.py_typed.specs.Statements.{Variable, TypedModule, TypedTarget}
use Rattle.py_typed.specs.TargetTypes.{item_sort, attribute_sort, sort_or_nothing}
use Rattle.py_typed.specs.WellTypedExpr.{stands, is_value_type, are_value_types, is_result_type, is_type, indexed, declared, instance_of}
use Rattle.py_typed.proofs.FitLemmas.{one_type, and_left, and_right}
use Rattle.py_check_context.specs.Context.{Context, free, wants, wants_some}
use Rattle.py_check_flow.specs.Bindings.{name_in}
use Rattle.py_check_messages.specs.Seen.{Message, Seen}
use Rattle.py_check_messages.specs.Messages.{wrong_assignment}
use Rattle.py_check_values.specs.Aims.{Aim, held, first, barred, unwritten, misplaced, lacking}
use Rattle.py_check_values.specs.Assignments.{binding_fault, as_many, items_for}
use Rattle.py_check_places.specs.Places.{Known}
use Rattle.py_check_targets.specs.Targets.{is_written, held_sorts, tuple_sort, single_sort, asked_sort, asked_by, again_fault, unfit_fault, asked_fault, typed_at, next_part, more_parts, beyond, target_aims, aims_behind, holds_none, hold_none}
use Rattle.py_check_targets.proofs.LookLemmas.{one_look}
use Rattle.py_check_assignments.specs.Assignments.{asked_for, value_for}
use Rattle.py_check_expressions_laws.specs.WellTyped as law
use Rattle.py_check_expressions_laws.specs.WellTyped.{Describes, Within, is_taken}
use Rattle.py_check_expressions_laws.proofs.Types.{result_of_value, value_of_result, listed}
use Rattle.py_check_expressions_laws.proofs.Stands.{parts_of_stands, value_type}
use Rattle.py_check_expressions_laws.proofs.Rows.{all_fits, is_sought, sought_of_asked, parts_taken, all_parts, is_held, holds_nothing, hold_nothing}
use Rattle.py_check_expressions_laws.proofs.Sound.{sound_typing, at_classes}
use Rattle.py_check_places.specs.Shapes.{is_row, leaves, some_parts, parts_of}
use Rattle.py_check_laws.proofs.Assigned.{items_are, RowBound, BoundTo, FitsAsked, aims_length, first_none}
use Rattle.py_check_laws.proofs.Aims.{AimAt, AimsOf, Held, held_local, held_global, held_item, aim_held, aims_are, held_attribute}
use Rattle.py_typed.specs.Order.{attribute_of}

pub of_three : (a b c : Bool) → (a && b && c) ≡ true → (a ≡ true) × (b ≡ true) × (c ≡ true)
of_three true true true h = (refl, refl, refl)
of_three _ _ _ h = absurd (cc)

pub of_four : (a b c d : Bool) → (a && b && c && d) ≡ true → (a ≡ true) × (b ≡ true) × (c ≡ true) × (d ≡ true)
of_four true true true true h = (refl, refl, refl, refl)
of_four _ _ _ _ h = absurd (cc)

pub of_five : (a b c d e : Bool) → (a && b && c && d && e) ≡ true → (a ≡ true) × (b ≡ true) × (c ≡ true) × (d ≡ true) × (e ≡ true)
of_five true true true true true h = (refl, refl, refl, refl, refl)
of_five _ _ _ _ _ h = absurd (cc)

pub third : (a b c : Bool) → (a && b && c) ≡ true → c ≡ true
third true true true h = refl
third _ _ _ h = absurd (cc)

-- ---- rows of types

pub sorts_again : (ts : Sorts) → sorts_of (listed_sorts ts) ≡ ts
sorts_again no_sorts = refl
sorts_again (sort_then t ts) = ap (sort_then t) (sorts_again ts)

pub values_listed : (n : ℕ) (ts : Sorts) → are_value_types n ts ≡ true → list_all (is_value_type n) (listed_sorts ts) ≡ true
values_listed n no_sorts h = refl
values_listed n (sort_then t ts) h = and_from (is_value_type n t) (list_all (is_value_type n) (listed_sorts ts)) (and_left (is_value_type n t) (are_value_types n ts) h) (values_listed n ts (and_right (is_value_type n t) (are_value_types n ts) h))

-- ---- items

-- an item that is written has a type that a variable may have
pub record IsItem (n : ℕ) (s i t : Sort) : Type 0 where
  pub type : is_value_type n t ≡ true
  pub of : item_sort s ≡ t
  pub at : (u : Sort) × (indexed s i ≡ Some u)

by_index : (n : ℕ) (s i u t : Sort) (b : Bool) → is_same_type i u ≡ b → is_value_type n s ≡ true → is_type (if b then Some s else None) t ≡ true → (is_value_type n t ≡ true) × (s ≡ t) × ((if b then Some s else None) ≡ Some s)
by_index n s i u t true q v h = let e = one_type s t h in (subst (λ x. is_value_type n x ≡ true) e v, e, refl)
by_index n s i u t false q v h = absurd (cc)

pub item_is : (n : ℕ) (s i t : Sort) → is_written s ≡ true → is_result_type n s ≡ true → is_type (indexed s i) t ≡ true → IsItem n s i t
item_is n (sort.ListOf s) i t w r h = let q = by_index n s i sort.Int t (is_same_type i sort.Int) refl r h in record { type = q.0; of = q.1; at = (s, q.2) }
item_is n (sort.DictOf k s) i t w r h = let q = by_index n s i k t (is_same_type i k) refl (and_right (Rattle.py_typed.specs.WellTypedExpr.is_key_type k) (is_value_type n s) r) h in record { type = q.0; of = q.1; at = (s, q.2) }
item_is n _ i t w r h = absurd (cc)

-- ---- declared variables

pub declared_there : (l : List Variable) (i : ℕ) (t : Sort) → declared l i ≡ Some t → nat_lt i (length l) ≡ true
declared_there l i t h = lt-ltb i (length l) (by l i h)
  where
    by : (l : List Variable) (i : ℕ) → declared l i ≡ Some t → i < length l
    by [] i e = absurd (cc)
    by (x ∷ l) zero e = omega arith
    by (x ∷ l) (suc i) e = let r = by l i e in omega arith

-- ---- parts that fit

fits_known : (b : Bool) (m : Message) → (if b then None else Some m) ≡ None → b ≡ true
fits_known true m h = refl
fits_known false m h = absurd (cc)

pub part_fits : (classes : List ClassEntry) (s t : Sort) → again_fault classes (Some t) s ≡ None → fits classes s t ≡ true
part_fits classes s t h = fits_known (fits classes s t) (wrong_assignment classes s t) h

mutual
  same_holds : (s : Sort) → holds_nothing s ≡ holds_none s
  same_holds sort.Nothing = refl
  same_holds (sort.TupleOf ts) = same_hold ts
  same_holds sort.Int = refl
  same_holds sort.I64 = refl
  same_holds sort.Bool = refl
  same_holds sort.Str = refl
  same_holds (sort.ListOf t) = refl
  same_holds (sort.DictOf k t) = refl
  same_holds (sort.Optional t) = refl
  same_holds (sort.Instance n) = refl
  same_holds (sort.Exc x) = refl

  same_hold : (ts : Sorts) → hold_nothing ts ≡ hold_none ts
  same_hold no_sorts = refl
  same_hold (sort_then t ts) = ap₂ (λ (a b : Bool). a || b) (same_holds t) (same_hold ts)

module _ (C : Context) (m : TypedModule) (locals : List Variable) (init : Option ℕ) where
  -- the context, with the classes of the module
  abbrev pub scene : Context
  scene = at_classes C m.classes.classes

  -- a value that is asked for nothing stands where more is known
  pub stands_free : (k : Known) → Describes scene k.types m locals init → (e : ExprTree) → law.is_written e ≡ true → (t : TypedExpr) → (typed_at scene k free e).got ≡ Some t → (others : List ℕ) → Within k.names others → stands m locals init false others t ≡ true
  stands_free k D e w t g others wi = (sound_typing C k.types m locals init D free k.names e w refl).each t g others wi refl

  pub stands_wanted : (k : Known) → Describes scene k.types m locals init → (e : ExprTree) → law.is_written e ≡ true → (s : Sort) → is_value_type (length m.classes.classes) s ≡ true → (t : TypedExpr) → (typed_at scene k (wants s) e).got ≡ Some t → fits m.classes.classes (type_of t) s ≡ true → (others : List ℕ) → Within k.names others → stands m locals init false others t ≡ true
  stands_wanted k D e w s v t g f others wi =
      (sound_typing C k.types m locals init D (wants s) k.names e w (sought_of_asked (length m.classes.classes) (wants s) (result_of_value (length m.classes.classes) s v))).each t g others wi
      (or_left (fits m.classes.classes (type_of t) s) (Rattle.py_check_expressions_laws.proofs.Rows.parts_taken m.classes.classes (wants s) (type_of t)) f)

  -- a tuple for several targets, whose parts fit them
  pub stands_parts : (k : Known) → Describes scene k.types m locals init → (e : ExprTree) → law.is_written e ≡ true → (ts us : Sorts) → are_value_types (length m.classes.classes) ts ≡ true → (t : TypedExpr) → (typed_at scene k (wants (sort.TupleOf ts)) e).got ≡ Some t → type_of t ≡ sort.TupleOf us → all_fits m.classes.classes us ts ≡ true → (others : List ℕ) → Within k.names others
      → stands m locals init false others t ≡ true
  stands_parts k D e w ts us v t g q f others wi =
      (sound_typing C k.types m locals init D (wants (sort.TupleOf ts)) k.names e w v).each t g others wi
      (subst (λ s. is_held m.classes.classes (wants (sort.TupleOf ts)) s ≡ true) (sym q) (or_right (fits m.classes.classes (sort.TupleOf us) (sort.TupleOf ts)) (parts_taken m.classes.classes (wants (sort.TupleOf ts)) (sort.TupleOf us)) (or_left (all_fits m.classes.classes us ts) (not (holds_nothing (sort.TupleOf us))) f)))

  -- and one that holds no None, which need not fit
  stands_whole : (k : Known) → Describes scene k.types m locals init → (e : ExprTree) → law.is_written e ≡ true → (ts : Sorts) → are_value_types (length m.classes.classes) ts ≡ true → (t : TypedExpr) → (typed_at scene k (wants (sort.TupleOf ts)) e).got ≡ Some t → holds_nothing (type_of t) ≡ false → (others : List ℕ) → Within k.names others
      → stands m locals init false others t ≡ true
  stands_whole k D e w ts v t g f others wi =
      (sound_typing C k.types m locals init D (wants (sort.TupleOf ts)) k.names e w v).each t g others wi
      (or_right (is_taken m.classes.classes (wants (sort.TupleOf ts)) (type_of t)) (parts_taken m.classes.classes (wants (sort.TupleOf ts)) (type_of t)) (or_right (all_parts m.classes.classes (wants (sort.TupleOf ts)) (type_of t)) (not (holds_nothing (type_of t))) (ap not f)))

  -- ---- targets that have a type

  pub item_at_place : (k : Known) → Describes scene k.types m locals init → (e : ExprTree) → law.is_written e ≡ true → (b i : TypedExpr) (t : Sort) (place : Span) → (typed_at scene k free e).got ≡ Some (typed (node.At b i) t place) → is_written (type_of b) ≡ true → (others : List ℕ) → Within k.names others
      → (stands m locals init false others b ≡ true) × (stands m locals init false others i ≡ true) × IsItem (length m.classes.classes) (type_of b) (type_of i) t
  item_at_place k D e w b i t place g written others wi =
      let r = parts_of_stands m locals init false others (node.At b i) t place (stands_free k D e w (typed (node.At b i) t place) g others wi) in
      let sb = and_left (stands m locals init false others b) (stands m locals init false others i) r.0 in
      (sb, and_right (stands m locals init false others b) (stands m locals init false others i) r.0, item_is (length m.classes.classes) (type_of b) (type_of i) t written (value_type m locals init false others b sb) r.1)

  -- an attribute, by its object and its type
  pub attribute_at_place : (k : Known) → Describes scene k.types m locals init → (e : ExprTree) → law.is_written e ≡ true → (b : TypedExpr) (a : List ℕ) (t : Sort) (place : Span) → (typed_at scene k free e).got ≡ Some (typed (node.Attr b a) t place) → (others : List ℕ) → Within k.names others
      → (stands m locals init false others b ≡ true) × (attribute_sort m.classes.classes (type_of b) a ≡ t) × (is_value_type (length m.classes.classes) t ≡ true)
  attribute_at_place k D e w b a t place g others wi =
      let r = parts_of_stands m locals init false others (node.Attr b a) t place (stands_free k D e w (typed (node.Attr b a) t place) g others wi) in
      let q = of_sort (type_of b) r.1 in
      (r.0, q.0, q.1)
    where
      found : (n : ℕ) (o : Option Sort) → attribute_of m.classes.classes n a ≡ o → is_type o t ≡ true → (sort_or_nothing o ≡ t) × (is_value_type (length m.classes.classes) t ≡ true)
      found n None p h = absurd (cc)
      found n (Some s) p h = let same = one_type s t h in (same, D.attributes_typed n a t (p ∙ ap Some same))

      of_sort : (s : Sort) → is_type (option_and_then (λ c. attribute_of m.classes.classes c a) (instance_of s)) t ≡ true → (attribute_sort m.classes.classes s a ≡ t) × (is_value_type (length m.classes.classes) t ≡ true)
      of_sort (sort.Instance n) h = found n (attribute_of m.classes.classes n a) refl h
      of_sort _ h = absurd (cc)

  pub held_value : (k : Known) → Describes scene k.types m locals init → (e : ExprTree) → law.is_written e ≡ true → (target : TypedTarget) (t : Sort) → Held scene k e target t → is_value_type (length m.classes.classes) t ≡ true
  held_value k D e w target t (held_local x i n q is v) = (D.locals_are i t v).type
  held_value k D e w target t (held_global x i n q is v) = (D.globals_are i t v).type
  held_value k D e w target t (held_item b i place n g written is) = (item_at_place k D e w b i t place g written k.names (λ x h. h)).2.type
  held_value k D e w target t (held_attribute b a place n g is) = (attribute_at_place k D e w b a t place g k.names (λ x h. h)).2

  -- ---- what targets ask for

  some_sorts : (t : Sort) (o : Option (List Sort)) (ts : List Sort) → option_map (λ (l : List Sort). t ∷ l) o ≡ Some ts → (l : List Sort) × (o ≡ Some l) × (t ∷ l ≡ ts)
  some_sorts t None ts h = absurd (cc)
  some_sorts t (Some l) ts h = (l, refl, same_Some (t ∷ l) ts h)

  sorts_sought : (k : Known) → Describes scene k.types m locals init → (es : List ExprTree) → list_all law.is_written es ≡ true → (l : List Aim) (parts : Option (List Sort)) → AimsOf scene k parts es l → (ts : List Sort) → held_sorts l ≡ Some ts → are_value_types (length m.classes.classes) (sorts_of ts) ≡ true
  sorts_sought k D [] w [] parts a ts h = subst (λ z. are_value_types (length m.classes.classes) (sorts_of z) ≡ true) (same_Some [] ts h) refl
  sorts_sought k D [] w (x ∷ l) parts a ts h = absurd a
  sorts_sought k D (e ∷ es) w [] parts a ts h = absurd a
  sorts_sought k D (e ∷ es) w (held t s ∷ l) parts a ts h =
      let r = some_sorts s (held_sorts l) ts h in
      subst (λ z. are_value_types (length m.classes.classes) (sorts_of z) ≡ true) r.2
      (and_from (is_value_type (length m.classes.classes) s) (are_value_types (length m.classes.classes) (sorts_of r.0)) (held_value k D e (and_left (law.is_written e) (list_all law.is_written es) w) t s (aim_held scene k e t s a.here))
      (sorts_sought (beyond scene k (name_in e) (next_part parts)) D es (and_right (law.is_written e) (list_all law.is_written es) w) l (more_parts parts) a.rest r.0 r.1))
  sorts_sought k D (e ∷ es) w (first t x ∷ l) parts a ts h = absurd (cc)
  sorts_sought k D (e ∷ es) w (barred x ∷ l) parts a ts h = absurd (cc)
  sorts_sought k D (e ∷ es) w (unwritten s ∷ l) parts a ts h = absurd (cc)
  sorts_sought k D (e ∷ es) w (lacking s x ∷ l) parts a ts h = absurd (cc)
  sorts_sought k D (e ∷ es) w (misplaced s ∷ l) parts a ts h = absurd (cc)

  held_many : (l : List Aim) (ts : List Sort) → held_sorts l ≡ Some ts → length ts ≡ length l
  held_many [] ts h = ap length (sym (same_Some [] ts h))
  held_many (held t s ∷ l) ts h = let q = some_sorts s (held_sorts l) ts h in ap length (sym q.2) ∙ ap suc (held_many l q.0 q.1)
  held_many (first t x ∷ l) ts h = absurd (cc)
  held_many (barred x ∷ l) ts h = absurd (cc)
  held_many (unwritten s ∷ l) ts h = absurd (cc)
  held_many (lacking s x ∷ l) ts h = absurd (cc)
  held_many (misplaced s ∷ l) ts h = absurd (cc)

  sorts_fit : (ts ss : List Sort) → length ss ≡ length ts → unfit_fault m.classes.classes ts ss ≡ None → all_fits m.classes.classes (sorts_of ss) (sorts_of ts) ≡ true
  sorts_fit [] [] n f = refl
  sorts_fit [] (s ∷ ss) n f = absurd (cc)
  sorts_fit (t ∷ ts) [] n f = absurd (cc)
  sorts_fit (t ∷ ts) (s ∷ ss) n f =
      let p = first_none (again_fault m.classes.classes (Some t) s) (unfit_fault m.classes.classes ts ss) f in
      and_from (fits m.classes.classes s t) (all_fits m.classes.classes (sorts_of ss) (sorts_of ts)) (part_fits m.classes.classes s t p.0) (sorts_fit ts ss (one_less (length ss) (length ts) n) p.1)
    where
      one_less : (a b : ℕ) → suc a ≡ suc b → a ≡ b
      one_less a b e = cc

  -- the types that so many targets ask for, as the parts of their tuple
  asked_parts : (ts : List Sort) (n : ℕ) → length ts ≡ n → items_for (tuple_sort ts) n ≡ Some ts
  asked_parts ts n e =
      ap (λ l. as_many l n) (listed ts) ∙ ap (λ b. if b then Some ts else None) (eq-eqb (length ts) n e)

  -- a tuple whose parts fit what the targets ask for, or that was asked for nothing
  row_stands : (k : Known) → Describes scene k.types m locals init → (es : List ExprTree) → list_all law.is_written es ≡ true → (early : List Aim) → AimsOf scene k None es early → (n : ℕ) → length early ≡ n → (e : ExprTree) → law.is_written e ≡ true → (v : TypedExpr) (ss : List Sort) → items_for (type_of v) n ≡ Some ss → (o : Option (List Sort)) → held_sorts early ≡ o
      → asked_fault m.classes.classes n (option_map tuple_sort o) (type_of v) ≡ None → (typed_at scene k (wants_some (option_map tuple_sort o)) e).got ≡ Some v → (others : List ℕ) → Within k.names others → stands m locals init false others v ≡ true
  row_stands k D es we early a n many e w v ss items None q f g others wi = stands_free k D e w v g others wi
  row_stands k D es we early a n many e w v ss items (Some ts) q f g others wi =
      let i = items_are (type_of v) n ss items in
      let as_asked = held_many early ts q ∙ many in
      by i as_asked (holds_none (type_of v)) refl f
    where
      by : (i : (us : Sorts) × (type_of v ≡ sort.TupleOf us) × (listed_sorts us ≡ ss) × (length ss ≡ n)) → length ts ≡ n → (b : Bool) → holds_none (type_of v) ≡ b
          → (if b then unfit_fault m.classes.classes (some_parts (items_for (tuple_sort ts) n)) (some_parts (items_for (type_of v) n)) else None) ≡ None → stands m locals init false others v ≡ true
      by i as_asked false h f = stands_whole k D e w (sorts_of ts) (sorts_sought k D es we early None a ts q) v g (same_holds (type_of v) ∙ h) others wi
      by i as_asked true h f =
          let unfit : unfit_fault m.classes.classes ts ss ≡ None =
          ap₂ (λ (x y : Option (List Sort)). unfit_fault m.classes.classes (some_parts x) (some_parts y)) (sym (asked_parts ts n as_asked)) (sym items) ∙ f in
          stands_parts k D e w (sorts_of ts) i.0 (sorts_sought k D es we early None a ts q) v g i.1
          (subst (λ z. all_fits m.classes.classes z (sorts_of ts) ≡ true) (ap sorts_of (sym i.2) ∙ sorts_again i.0) (sorts_fit ts ss (i.3 ∙ sym as_asked) unfit)) others wi

  pub fault_fits : (t s : Sort) → again_fault m.classes.classes (Some t) s ≡ None → fits m.classes.classes s t ≡ true
  fault_fits t s h = by (fits m.classes.classes s t) h
    where
      by : (b : Bool) → (if b then None else Some (wrong_assignment m.classes.classes s t)) ≡ None → b ≡ true
      by true q = refl
      by false q = absurd (cc)

  one_stands : (k : Known) → Describes scene k.types m locals init → (t : ExprTree) → law.is_written t ≡ true → (a : Aim) → AimAt scene k (name_in t) t a → (e : ExprTree) → law.is_written e ≡ true → (v : TypedExpr) → binding_fault m.classes.classes a (type_of v) ≡ None
      → (typed_at scene k (wants_some (single_sort (a ∷ []))) e).got ≡ Some v → (others : List ℕ) → Within k.names others → stands m locals init false others v ≡ true
  one_stands k D t wt (held u s) a e w v f g others wi = stands_wanted k D e w s (held_value k D t wt u s (aim_held scene k t u s a)) v g (fault_fits s (type_of v) f) others wi
  one_stands k D t wt (first u x) a e w v f g others wi = stands_free k D e w v g others wi
  one_stands k D t wt (barred x) a e w v f g others wi = absurd (cc)
  one_stands k D t wt (unwritten s) a e w v f g others wi = absurd (cc)
  one_stands k D t wt (lacking s x) a e w v f g others wi = absurd (cc)
  one_stands k D t wt (misplaced s) a e w v f g others wi = absurd (cc)

  -- a value of one target stands, where that takes it
  pub single_stands : (k : Known) → Describes scene k.types m locals init → (es : List ExprTree) → list_all law.is_written es ≡ true → (l : List Aim) (parts : Option (List Sort)) → AimsOf scene k parts es l → (e : ExprTree) → law.is_written e ≡ true → (v : TypedExpr) → BoundTo m.classes.classes false l (type_of v)
      → (typed_at scene k (asked_by false (Some l)) e).got ≡ Some v → (others : List ℕ) → Within k.names others → stands m locals init false others v ≡ true
  single_stands k D [] we [] parts a e w v r g others wi = let clash = r.1 in absurd (cc)
  single_stands k D [] we (x ∷ l) parts a e w v r g others wi = absurd a
  single_stands k D (t ∷ es) we [] parts a e w v r g others wi = absurd a
  single_stands k D (t ∷ es) we (x ∷ []) parts a e w v r g others wi =
      one_stands k D t (and_left (law.is_written t) (list_all law.is_written es) we) x a.here e w v (subst (λ z. binding_fault m.classes.classes z (type_of v) ≡ None) (sym (head_same r.1)) r.2) g others wi
    where
      head_same : {y : Aim} → x ∷ [] ≡ y ∷ [] → x ≡ y
      head_same h = cc
  single_stands k D (t ∷ es) we (x ∷ y ∷ l) parts a e w v r g others wi = let clash = r.1 in absurd (cc)

  -- THE VALUE of an assignment stands, where its targets take it, and it fits what several of them asked for
  pub given_stands : (k : Known) → Describes scene k.types m locals init → (target : ExprTree) → list_all law.is_written (leaves target) ≡ true → (l : List Aim) (t : Option Sort) → (aims_behind scene k target t).got ≡ Some l → (e : ExprTree) → law.is_written e ≡ true → (v : TypedExpr) → BoundTo m.classes.classes (is_row target) l (type_of v)
      → FitsAsked m.classes.classes (is_row target) (asked_for scene k target) l (type_of v) → (value_for scene k target e).got ≡ Some v → (others : List ℕ) → Within k.names others → stands m locals init false others v ≡ true
  given_stands k D target we l t h e w v r f g others wi = by (is_row target) refl r f
    where
      from : (o : Option (List Aim)) → (target_aims scene k target).got ≡ o → RowBound m.classes.classes l (type_of v) → asked_fault m.classes.classes (length l) (asked_sort true o) (type_of v) ≡ None → (typed_at scene k (asked_by true o) e).got ≡ Some v → stands m locals init false others v ≡ true
      from None p r f g = stands_free k D e w v g others wi
      from (Some early) p r f g =
          let many = aims_length scene k None (leaves target) early p ∙ sym (aims_length scene k (Some (parts_of (is_row target) (length (leaves target)) t)) (leaves target) l h) in
          row_stands k D (leaves target) we early (aims_are scene k None (leaves target) early p) (length l) many e w v r.parts r.items (held_sorts early) refl f g others wi

      by : (b : Bool) → is_row target ≡ b → BoundTo m.classes.classes b l (type_of v) → FitsAsked m.classes.classes b (asked_for scene k target) l (type_of v) → stands m locals init false others v ≡ true
      by false q r f =
          let early : (target_aims scene k target).got ≡ Some l = ap (λ (s : Seen (List Aim)). s.got) (one_look scene k target t q) ∙ h in
          single_stands k D (leaves target) we l None (aims_are scene k None (leaves target) l early) e w v r
          (ap₂ (λ (b : Bool) (o : Option (List Aim)). (typed_at scene k (asked_by b o) e).got) (sym q) (sym early) ∙ g) others wi
      by true q r f =
          let o = (target_aims scene k target).got in
          from o refl r (subst (λ b. asked_fault m.classes.classes (length l) (asked_sort b o) (type_of v) ≡ None) q f) (subst (λ b. (typed_at scene k (asked_by b o) e).got ≡ Some v) q g)

  -- of a type that a variable may have, where it is no None
  pub stands_type : (others : List ℕ) (v : TypedExpr) → stands m locals init false others v ≡ true → is_nothing (type_of v) ≡ false → is_value_type (length m.classes.classes) (type_of v) ≡ true
  stands_type others v h q = value_of_result (length m.classes.classes) (type_of v) (value_type m locals init false others v h) q

  -- the parts of a tuple that stands
  pub parts_type : (others : List ℕ) (v : TypedExpr) (ts : Sorts) → stands m locals init false others v ≡ true → type_of v ≡ sort.TupleOf ts → are_value_types (length m.classes.classes) ts ≡ true
  parts_type others v ts h q =
      third (nat_lt 0 (length (listed_sorts ts))) (nat_lt (length (listed_sorts ts)) 17) (are_value_types (length m.classes.classes) ts) (subst (λ s. is_result_type (length m.classes.classes) s ≡ true) q (value_type m locals init false others v h))
