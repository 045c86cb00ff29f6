-- What is asked of an expression that is fine: its type, and what it tells of names; and reads of variables and attributes, which are.
-- The letters are those of `Fine`.
use Rattle.std.proofs.Common.{◌≡◌, ℕ, Bool, true, false, not, ◌||◌, List, [], ◌∷◌, ◌++◌, length, Option, Some, None, refl, sym, ap, subst, ◌∙◌, inl, inr, slice_get, codes}
use Rattle.std.specs.Option.{option_map}
use Rattle.std.specs.List.{list_all}
use Rattle.value_core.specs.declared.exception.ExcClass.TheVariants.{NameError, UnboundLocalError}
use Rattle.value_core.specs.Value.{Value, BoolVal, NoneVal}
use Rattle.py_syntax.specs.declared.expression.CmpOp.{CmpOp}
use Rattle.py_syntax.specs.declared.expression.CmpOp.TheVariants as compare
use Rattle.py_typed.specs.Sorts as sort
use Rattle.py_typed.specs.Sorts.{Sort, Sorts, no_sorts, sort_then, sorts_of, listed_sorts}
use Rattle.py_typed.specs.Fits.{is_number, is_same_type, fits}
use Rattle.py_typed.specs.Order.{attribute_of, attributes, place_in}
use Rattle.py_typed.specs.Expressions.{TypedExpr, typed, TypedNode, Flag, Local, Coerce, Comparisons, no_comparisons, comparison_then, type_of}
use Rattle.py_typed.specs.Statements.{Variable, TypedModule}
use Rattle.source_meaning.specs.State.{State, Gives, Does, raise_new}
use Rattle.source_meaning.specs.Operations.{truth_of, is_none, compared_as}
use Rattle.py_typed.specs.Narrowing.{may_be_none, own_sort, is_in, facts, node_facts, node_of}
use Rattle.source_meaning.specs.ExpressionMeaning.{value_in, read_local, read_global, name_at, attribute, unset_attribute}
use Rattle.py_typed.specs.WellTypedExpr.{is_key_type, is_value_type, is_result_type, is_type, are_texts, are_numbers, reads_as, suits, is_empty_call, rule, stands, parts_typed}
use Rattle.py_typed.proofs.FitLemmas.{one_type}
use Rattle.py_typed.specs.TypeTexts.{name_in}
use Rattle.source_soundness.proofs.TextLemmas.{ascii_text, text_around}
use Rattle.source_soundness.proofs.Worlds.{World, IsText, Has, HaveAll, Each, Holds, held, holds_still}
use Rattle.source_soundness.proofs.Fine.{Good, Fine, NotNone, fine_bind, fine_give, fine_new, fine_sure}
use Rattle.source_soundness.proofs.Operators.{IsWhole, IsPlain, KeysOf, Makes, fine_seen, fine_instance}
use Rattle.source_soundness.proofs.Names.{none_known}
use Rattle.source_soundness.proofs.Facts.{Facts, AttributeOf, two, five}

-- ---- types

-- what is None or of the type is, where it is not None, of the type
pub narrowed : {utf8 : Bool} (m : TypedModule) (W : World utf8) (b : Bool) (u : Sort) (v : Value) → Has m.classes.classes u W v → (b ≡ true → v ≡ NoneVal → ⊥) → Has m.classes.classes (reads_as b u) W v
narrowed m W true (sort.Optional t) v (inl e) n = absurd (n refl e)
narrowed m W true (sort.Optional t) v (inr h) n = h
narrowed m W true sort.Int v h n = h
narrowed m W true _ v h n = h
narrowed m W false t v h n = h

pub some_type : (o : Option Sort) (t : Sort) → is_type o t ≡ true → o ≡ Some t
some_type None t e = absurd (cc)
some_type (Some s) t e = ap Some (one_type s t e)

pub number_fits : (m : TypedModule) (a t : Sort) → IsWhole t → is_number a ≡ true → fits m.classes.classes a t ≡ true
number_fits m a sort.Int w e = e
number_fits m a sort.I64 w e = e
number_fits m a _ w e = absurd w

pub keys_of_type : (n : ℕ) (t : Sort) → is_result_type n t ≡ true → KeysOf t
keys_of_type n (sort.DictOf a t) h = (two (is_key_type a) (is_value_type n t) h).0
keys_of_type n sort.Int h = tt
keys_of_type n _ h = tt

pub declared_at : (xs : List Variable) (i : ℕ) (t : Sort) (o : Option Variable) → slice_get xs i ≡ o → is_type (option_map (λ x. x.1) o) t ≡ true → (x : Variable) × (slice_get xs i ≡ Some x) × (x.1 ≡ t)
declared_at xs i t None q e = absurd (cc)
declared_at xs i t (Some x) q e = (x, q, one_type x.1 t e)

pub read_at : (xs : List Variable) (i : ℕ) (t : Sort) (b : Bool) (o : Option Variable) → slice_get xs i ≡ o → is_type (option_map (reads_as b) (option_map (λ x. x.1) o)) t ≡ true → (x : Variable) × (slice_get xs i ≡ Some x) × (reads_as b x.1 ≡ t)
read_at xs i t b None q e = absurd (cc)
read_at xs i t b (Some x) q e = (x, q, one_type (reads_as b x.1) t e)

pub sorts_listed : (ts : Sorts) → sorts_of (listed_sorts ts) ≡ ts
sorts_listed no_sorts = refl
sorts_listed (sort_then t ts) = ap (sort_then t) (sorts_listed ts)

pub same_gives : {A : Type 0} (a b : A) (s : State) → Gives a s ≡ Gives b s → a ≡ b
same_gives a b s e = cc

-- operands that are compared have a type in common
pub common : (m : TypedModule) (a c : Sort) → (are_texts a c || are_numbers a c) ≡ true → IsPlain (compared_as a c) × (fits m.classes.classes a (compared_as a c) ≡ true) × (fits m.classes.classes c (compared_as a c) ≡ true)
common m sort.Int sort.Int e = (tt, refl, refl)
common m sort.Int sort.I64 e = (tt, refl, refl)
common m sort.Int sort.Bool e = (tt, refl, refl)
common m sort.I64 sort.Int e = (tt, refl, refl)
common m sort.I64 sort.I64 e = (tt, refl, refl)
common m sort.I64 sort.Bool e = (tt, refl, refl)
common m sort.Bool sort.Int e = (tt, refl, refl)
common m sort.Bool sort.I64 e = (tt, refl, refl)
common m sort.Bool sort.Bool e = (tt, refl, refl)
common m sort.Str sort.Str e = (tt, refl, refl)
common m _ _ e = absurd (cc)

-- ---- what a pair, and a chain, is

abbrev pub PairIs : CmpOp → Value → Bool → Type 0
PairIs compare.Is x h = h ≡ is_none x
PairIs compare.IsNot x h = h ≡ not (is_none x)
PairIs _ x h = Unit {0}

abbrev pub ChainIs : Value → Comparisons → Value → Type 0
ChainIs x no_comparisons v = v ≡ BoolVal true
ChainIs x (comparison_then op e no_comparisons) v = (h : Bool) × (v ≡ BoolVal h) × PairIs op x h
ChainIs x (comparison_then op e (comparison_then p f more)) v = Unit {0}

-- ---- what an expression tells

abbrev pub Tells : (Bool → List ℕ) → State → Value → Type 0
Tells names u v = (b : Bool) → truth_of v u ≡ Gives b u → NotNone (names b) u.locals

-- the value of a name is the local's
abbrev pub IsHeld : TypedNode → State → Value → Type 0
IsHeld (Local i) u v = slice_get u.locals i ≡ Some (Some v)
IsHeld (Flag b) u v = v ≡ BoolVal b
-- a coercion makes no None
IsHeld (Coerce e) u v = may_be_none (type_of e) ≡ false → v ≡ NoneVal → ⊥
IsHeld n u v = Unit {0}

pub silent : (u : State) (v : Value) → Tells (λ b. []) u v
silent u v b q = none_known u.locals

module _ (m : TypedModule) where
  abbrev pub Gets : {utf8 : Bool} → TypedNode → Sort → World utf8 → State → Value → Type 0
  Gets n t V u v = Has m.classes.classes t V v × Tells (λ b. node_facts b n) u v × IsHeld n u v

  abbrev pub GetsValue : {utf8 : Bool} → TypedExpr → World utf8 → State → Value → Type 0
  GetsValue (typed n t place) V u v = Gets n t V u v

  pub is_got : {utf8 : Bool} (e : TypedExpr) (V : World utf8) (u : State) (v : Value) → GetsValue e V u v → Has m.classes.classes (type_of e) V v
  is_got (typed n t place) V u v p = p.0

  -- a value of a type that is not None's and no Optional is not None
  pub not_none : {utf8 : Bool} (t : Sort) (V : World utf8) (v : Value) → may_be_none t ≡ false → Has m.classes.classes t V v → v ≡ NoneVal → ⊥
  not_none sort.Int V v e h n = cc (sym h.1 ∙ n)
  not_none sort.I64 V v e h n = cc (sym h.1 ∙ n)
  not_none sort.Bool V v e h n = cc (sym h.1 ∙ n)
  not_none sort.Str V v e h n = cc (sym h.1 ∙ n)
  not_none sort.Nothing V v e h n = cc
  not_none (sort.ListOf t) V v e h n = cc (sym h.1 ∙ n)
  not_none (sort.DictOf j t) V v e h n = cc (sym h.1 ∙ n)
  not_none (sort.TupleOf ts) V v e h n = cc (sym h.1 ∙ n)
  not_none (sort.Optional t) V v e h n = cc
  not_none (sort.Instance c) V v e h n = cc (sym h.2 ∙ n)
  not_none (sort.Exc c) V v e h n = cc (sym h.1 ∙ n)

  pub told : {utf8 : Bool} (e : TypedExpr) (V : World utf8) (u : State) (v : Value) → GetsValue e V u v → Tells (λ b. facts b e) u v
  told (typed n t place) V u v p = p.1

  pub is_held : {utf8 : Bool} (e : TypedExpr) (V : World utf8) (u : State) (v : Value) → GetsValue e V u v → IsHeld (node_of e) u v
  is_held (typed n t place) V u v p = p.2

  -- nor is one whose own type, before a coercion, is not
  pub own_not_none : {utf8 : Bool} (e : TypedExpr) (V : World utf8) (u : State) (v : Value) → GetsValue e V u v → may_be_none (own_sort e) ≡ false → v ≡ NoneVal → ⊥
  own_not_none (typed (Coerce e) t place) V u v p h n = p.2 h n
  own_not_none (typed (Local i) t place) V u v p h n = not_none t V v h p.0 n
  own_not_none (typed (Flag b) t place) V u v p h n = not_none t V v h p.0 n
  own_not_none (typed _ t place) V u v p h n = not_none t V v h p.0 n

  pub each_of : {utf8 : Bool} (t : Sort) (ss : List Sort) (W : World utf8) (vs : List Value) → list_all (λ s. is_same_type s t) ss ≡ true → HaveAll m.classes.classes (sorts_of ss) W vs → Each m.classes.classes t W vs
  each_of t [] W [] e h = tt
  each_of t [] W (v ∷ vs) e h = absurd h
  each_of t (s ∷ ss) W [] e h = absurd h
  each_of t (s ∷ ss) W (v ∷ vs) e h =
      let r = two (is_same_type s t) (list_all (λ s. is_same_type s t) ss) e in
      (subst (λ x. Has m.classes.classes x W v) (one_type s t r.0) h.0, each_of t ss W vs r.1 h.1)

  module _ (vars : List Variable) (init : Option ℕ) where
    pub result_type : (testing : Bool) (known : List ℕ) (e : TypedExpr) → stands m vars init testing known e ≡ true → is_result_type (length m.classes.classes) (type_of e) ≡ true
    result_type testing known (typed n t place) h =
        (five (parts_typed m vars init testing known n) (rule m vars init known n t) (suits testing n t) (is_result_type (length m.classes.classes) t) (not (is_empty_call n t)) h).3

    pub keys_of_value : (testing : Bool) (known : List ℕ) (e : TypedExpr) → stands m vars init testing known e ≡ true → KeysOf (type_of e)
    keys_of_value testing known e h = keys_of_type (length m.classes.classes) (type_of e) (result_type testing known e h)

  -- ---- names

  module _ {utf8 : Bool} (vars : List Variable) {W : World utf8} {s : State} (g : Good m vars W s) where
    abbrev no_local : ℕ → Does Value
    no_local i = raise_new UnboundLocalError (codes "local variable '" ++ name_at vars i ++ codes "' referenced before assignment")

    abbrev no_global : ℕ → Does Value
    no_global i = raise_new NameError (codes "name '" ++ name_at m.globals i ++ codes "' is not defined")

    local_by : (i : ℕ) (x : Variable) (t : Sort) (o : Option Value) → slice_get s.locals i ≡ Some o → Holds m.classes.classes x.1 W o → ((v : Value) → slice_get s.locals i ≡ Some (Some v) → Has m.classes.classes x.1 W v → Has m.classes.classes t W v)
        → Fine m vars Value [] W s (Gets (Local i) t) (read_local vars i) (read_local vars i)
    local_by i x t None q h r = fine_seen m vars [] g (λ z. slice_get z.locals i) (value_in (no_local i)) (value_in (no_local i)) (Some None) q (fine_new m vars g _ _ (λ p. text_around (codes "local variable '") (name_at vars i) (codes "' referenced before assignment") (ascii_text (codes "local variable '") refl) ((g.texts p).locals i) refl))
    local_by i x t (Some v) q h r = fine_seen m vars [] g (λ z. slice_get z.locals i) (value_in (no_local i)) (value_in (no_local i)) (Some (Some v)) q (fine_give m vars g v (r v q h, silent s v, q))

    pub fine_local : (i : ℕ) (x : Variable) (t : Sort) → slice_get vars i ≡ Some x → ((v : Value) → slice_get s.locals i ≡ Some (Some v) → Has m.classes.classes x.1 W v → Has m.classes.classes t W v) → Fine m vars Value [] W s (Gets (Local i) t) (read_local vars i) (read_local vars i)
    fine_local i x t e r = let o = held m.classes.classes W vars s.locals i x g.locals e in local_by i x t o.0 o.1 o.2 r

    -- as declared, or narrowed
    pub local_known : (i : ℕ) (x : Variable) (known : List ℕ) → NotNone known s.locals → (v : Value) → slice_get s.locals i ≡ Some (Some v) → Has m.classes.classes x.1 W v → Has m.classes.classes (reads_as (is_in known i) x.1) W v
    local_known i x known k v q h = narrowed m W (is_in known i) x.1 v h (λ b e. k i b (q ∙ ap (λ z. Some (Some z)) e))

    global_by : (i : ℕ) (x : Variable) (o : Option Value) → slice_get s.globals i ≡ Some o → Holds m.classes.classes x.1 W o → Makes m vars [] g x.1 (read_global m.globals i)
    global_by i x None q h = fine_seen m vars [] g (λ z. slice_get z.globals i) (value_in (no_global i)) (value_in (no_global i)) (Some None) q (fine_new m vars g _ _ (λ p. text_around (codes "name '") (name_at m.globals i) (codes "' is not defined") (ascii_text (codes "name '") refl) ((g.texts p).names.globals i) refl))
    global_by i x (Some v) q h = fine_seen m vars [] g (λ z. slice_get z.globals i) (value_in (no_global i)) (value_in (no_global i)) (Some (Some v)) q (fine_give m vars g v h)

    pub fine_global : (i : ℕ) (x : Variable) → slice_get m.globals i ≡ Some x → Makes m vars [] g x.1 (read_global m.globals i)
    fine_global i x e = let o = held m.classes.classes W m.globals s.globals i x g.globals e in global_by i x o.0 o.1 o.2

    -- ---- attributes

    attribute_by : (c : ℕ) (name : List ℕ) (x : List ℕ × Sort) (t : Sort) (at : Option (Option Value)) (o : Option Value) → IsText utf8 name → x.1 ≡ t → at ≡ Some o → Holds m.classes.classes x.1 W o → Makes m vars [] g t (value_in (unset_attribute m.classes.classes c name) at)
    attribute_by c name x t at o named q e h = subst (λ z. Makes m vars [] g t (value_in (unset_attribute m.classes.classes c name) z)) (sym e) (by o h)
      where
        by : (o : Option Value) → Holds m.classes.classes x.1 W o → Makes m vars [] g t (value_in (unset_attribute m.classes.classes c name) (Some o))
        by None h =
            fine_new m vars g _ _ (λ p.
            text_around (codes "attribute '" ++ name ++ codes "' of '") (name_in (slice_get m.classes.classes c)) (codes "' undefined")
            (text_around (codes "attribute '") name (codes "' of '") (ascii_text (codes "attribute '") refl) (named p) refl) ((g.texts p).names.classes c) refl)
        by (Some v) h = fine_give m vars g v (subst (λ z. Has m.classes.classes z W v) q h)

module _ {utf8 : Bool} (m : TypedModule) (sound : Facts m) (vars : List Variable) {W : World utf8} {s : State} (g : Good m vars W s) where
  pub fine_attribute : (c : ℕ) (name : List ℕ) (t : Sort) (o : Value) → attribute_of m.classes.classes c name ≡ Some t → Has m.classes.classes (sort.Instance c) W o → Makes m vars [] g t (attribute m.classes.classes name o)
  fine_attribute c name t o e h =
      fine_instance m vars [] g c o _ _ h (λ k b vs q r under all.
      let A : AttributeOf m b name t = sound.attribute_there b c name t under e in
      fine_bind m vars (fine_sure m vars {P = λ V u i. i ≡ A.place} g (place_in name (attributes m.classes.classes b)) A.place A.placed refl) (λ V u st i p.
      let o : _ = held m.classes.classes W (attributes m.classes.classes b) vs A.place A.entry all A.there in
      attribute_by m vars st.good b name A.entry t (slice_get vs i) o.0 (λ q. (g.texts q).names.attributes c name t e) A.type (ap (slice_get vs) p ∙ o.1) (holds_still m.classes.classes W V st.grows A.entry.1 o.0 o.2)))
