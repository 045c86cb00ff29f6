-- What a state holds it goes on to hold while its cells only become more, and only objects change.
use Rattle.std.proofs.Common.{◌≡◌, ◌≢◌, refl, sym, ◌∙◌, ap, subst, ℕ, ◌<◌, arith, Bool, true, false, nat_eq, List, [], ◌∷◌, ◌++◌, length, Option, Some, None, length-append, eqb-true}
use Rattle.std.specs.Prelude.{slice_get, slice_set, map}
use Rattle.std.proofs.lemmas.Bool.{eq-eqb}
use Rattle.std.proofs.lemmas.Option.{slice_get_within}
use Rattle.value_core.specs.Exceptions.{Thrown}
use Rattle.value_core.specs.Value.{Value, IntVal, BoolVal, NoneVal, StrVal, TupleVal, ExcVal, ObjVal, Values, no_values, value_then, Object, ListObj, DictObj, InstObj, Store}
use Rattle.c_core.specs.declared.code.CClass.{CClass}
use Rattle.c_core.specs.Cells.{content_at, make, refill, take_one}
use Rattle.c_core.specs.Machine.{Word, Content, IntCell, StrCell, ListCell, DictCell, TupleCell, InstCell, ExcCell, is_object, MachineState}
use Rattle.c_core.specs.Stands.{IsLive}
use Rattle.ir_core.specs.declared.code.RType.{RType}
use Rattle.ir_core.specs.declared.code.Program.{Program}
use Rattle.ir_core.specs.Registers.{Held, Holds, Regs}
use Rattle.ir_core.specs.Rows.{Declared}
use Rattle.ir_core.specs.Effects.{World}
use Rattle.refcount_insert_lines_laws.specs.Matching.{slot_typed, Boxed, PartsBoxed, AllBoxed, PairsBoxed, AttributesFit, ObjectFits, ObjectAt, StoreFits, Fits, tagged_error, short, big, native, char_error, char_true, char_false, no_object, boxed, RegsFit, PlacesFit, PendingFits, Keeps, Grows, WorldFits}
use Rattle.refcount_insert_lines_laws.proofs.ListLemmas.{size_set, get_set_same, get_set_other, get_first, get_last, OldOrLast, is_old, is_last, old_or_last, get_within, taken_same, made_old, made_new, cell_within, refilled_same, refilled_other}

-- ---- states that keep all contents
pub same_keeps : (s t : MachineState) → t.cells ≡ s.cells → Keeps s t
same_keeps s t e = record { contents = λ c v f. ap (λ z. content_at z c) e ∙ f }

pub make_keeps : (s t : MachineState) (x : Content) → t.cells ≡ make x s.cells → Keeps s t
make_keeps s t x e = record { contents = λ c v f. ap (λ z. content_at z c) e ∙ made_old s.cells x c v f }

pub take_keeps : (s t : MachineState) (d : ℕ) → t.cells ≡ take_one d s.cells → Keeps s t
take_keeps s t d e = record { contents = λ c v f. ap (λ z. content_at z c) e ∙ (taken_same s.cells d c ∙ f) }

pub keeps_on : (s t u : MachineState) → Keeps s t → Keeps t u → Keeps s u
keeps_on s t u a b = record { contents = λ c v e. b.contents c v (a.contents c v e) }

-- ---- states that grow
pub keeps_grows : (s t : MachineState) → Keeps s t → t.made ≡ s.made → Grows s t
keeps_grows s t k e =
    record {
      keeps = λ c v fixed f. k.contents c v f;
      lives = λ c v f. (v, k.contents c v f);
      makes = λ i c f. ap (λ z. slice_get z i) e ∙ f;
    }

pub same_grows : (s t : MachineState) → t.cells ≡ s.cells → t.made ≡ s.made → Grows s t
same_grows s t e f = keeps_grows s t (same_keeps s t e) f

-- a state with the same cells as one that has grown
pub grows_as : (s t u : MachineState) → Grows s t → u.cells ≡ t.cells → u.made ≡ t.made → Grows s u
grows_as s t u g e f =
    record {
      keeps = λ c v fixed h. ap (λ z. content_at z c) e ∙ g.keeps c v fixed h;
      lives = λ c v h. let l = g.lives c v h in (l.0, ap (λ z. content_at z c) e ∙ l.1);
      makes = λ i c h. ap (λ z. slice_get z i) f ∙ g.makes i c h;
    }

-- a new cell for an object
pub note_grows : (s t : MachineState) (x : Content) → t.cells ≡ make x s.cells → t.made ≡ s.made ++ length s.cells ∷ [] → Grows s t
note_grows s t x e f =
    let k = make_keeps s t x e in
    record {
      keeps = λ c v fixed h. k.contents c v h;
      lives = λ c v h. (v, k.contents c v h);
      makes = λ i c h. ap (λ z. slice_get z i) f ∙ get_first s.made (length s.cells) c i h;
    }

-- an object has another content
module _ (s t : MachineState) (x old : Content) (c : ℕ) (cells : t.cells ≡ refill x c s.cells) (made : t.made ≡ s.made) (live : IsLive s c old) (object : is_object old ≡ true) where
  other_same : (d : ℕ) → d ≢ c → content_at t.cells d ≡ content_at s.cells d
  other_same d ne = ap (λ z. content_at z d) cells ∙ refilled_other s.cells x c d ne

  pub here_new : content_at t.cells c ≡ Some x
  here_new = ap (λ z. content_at z c) cells ∙ refilled_same s.cells x c old live

  is_other : (d : ℕ) (v : Content) → is_object v ≡ false → content_at s.cells d ≡ Some v → d ≢ c
  is_other d v fixed e same =
      let both : Some old ≡ Some v = sym live ∙ ap (content_at s.cells) (sym same) ∙ e in
      let f : old ≡ v = cc in
      let g : true ≡ false = sym object ∙ ap is_object f ∙ fixed in
      absurd (cc)

  lives_by : (d : ℕ) (v : Content) → content_at s.cells d ≡ Some v → (b : Bool) → nat_eq d c ≡ b → (y : Content) × (content_at t.cells d ≡ Some y)
  lives_by d v e true is = (x, ap (content_at t.cells) (eqb-true d c is) ∙ here_new)
  lives_by d v e false is =
      let ne : d ≢ c = λ same. let both : true ≡ false = sym (eq-eqb d c same) ∙ is in absurd (cc) in (v, other_same d ne ∙ e)

  pub change_grows : Grows s t
  change_grows = record {
    keeps = λ d v fixed e. other_same d (is_other d v fixed e) ∙ e;
    lives = λ d v e. lives_by d v e (nat_eq d c) refl;
    makes = λ i d e. ap (λ z. slice_get z i) made ∙ e;
  }

-- ---- what is kept
module _ (s t : MachineState) (grows : Grows s t) where
  mutual
    pub boxed_grows : (v : Value) (y : Word) → Boxed s v y → Boxed t v y
    boxed_grows (IntVal n) y m = (m.0, m.1, grows.keeps m.0 (IntCell n) refl m.2)
    boxed_grows (BoolVal b) y m = m
    boxed_grows NoneVal y m = m
    boxed_grows (StrVal x) y m = (m.0, m.1, grows.keeps m.0 (StrCell x) refl m.2)
    boxed_grows (TupleVal parts) y m =
        (m.0, m.1, (m.2.0, grows.keeps m.0 (TupleCell m.2.0) refl m.2.1, parts_grow parts m.2.0 m.2.2))
    boxed_grows (ExcVal e) y m = (m.0, m.1, grows.keeps m.0 (ExcCell e) refl m.2)
    boxed_grows (ObjVal k) y m = (m.0, m.1, grows.makes k m.0 m.2, grows.lives m.0 m.3.0 m.3.1)

    pub parts_grow : (vs : Values) (ys : List Word) → PartsBoxed s vs ys → PartsBoxed t vs ys
    parts_grow no_values [] m = tt
    parts_grow no_values (y ∷ ys) m = absurd m
    parts_grow (value_then v vs) [] m = absurd m
    parts_grow (value_then v vs) (y ∷ ys) m = (boxed_grows v y m.0, parts_grow vs ys m.1)

  pub all_grow : (vs : List Value) (ys : List Word) → AllBoxed s vs ys → AllBoxed t vs ys
  all_grow [] [] m = tt
  all_grow [] (y ∷ ys) m = absurd m
  all_grow (v ∷ vs) [] m = absurd m
  all_grow (v ∷ vs) (y ∷ ys) m = (boxed_grows v y m.0, all_grow vs ys m.1)

  pub pairs_grow : (ps : List (Value × Value)) (qs : List (Word × Word)) → PairsBoxed s ps qs → PairsBoxed t ps qs
  pairs_grow [] [] m = tt
  pairs_grow [] (q ∷ qs) m = absurd m
  pairs_grow (p ∷ ps) [] m = absurd m
  pairs_grow (p ∷ ps) (q ∷ qs) m = (boxed_grows p.0 q.0 m.0, boxed_grows p.1 q.1 m.1, pairs_grow ps qs m.2)

  pub fits_grow : (u : RType) (h : Held) (y : Word) → Fits s u h y → Fits t u h y
  fits_grow u h y tagged_error = tagged_error
  fits_grow u h y (short n) = short n
  fits_grow u h y (big n c live) = big n c (grows.keeps c _ refl live)
  fits_grow u h y (native n) = native n
  fits_grow u h y char_error = char_error
  fits_grow u h y char_true = char_true
  fits_grow u h y char_false = char_false
  fits_grow u h y no_object = no_object
  fits_grow u h y (boxed v z m) = boxed v z (boxed_grows v z m)

  pub regs_grow : (declared : Declared) (regs : Regs) (words : List Word) → RegsFit s declared regs words → RegsFit t declared regs words
  regs_grow declared regs words a =
      record { size = a.size; fit = λ r d e. let old = a.fit r d e in (old.0, old.1, fits_grow d.1 (regs r) old.0 old.2) }

  pub places_grow : (gs : Declared) (vs : List (Option Value)) (ys : List (Option Word)) → PlacesFit s gs vs ys → PlacesFit t gs vs ys
  places_grow [] [] [] a = tt
  places_grow [] [] (y ∷ ys) a = absurd a
  places_grow [] (v ∷ vs) ys a = absurd a
  places_grow (g ∷ gs) [] ys a = absurd a
  places_grow (g ∷ gs) (None ∷ vs) [] a = absurd a
  places_grow (g ∷ gs) (None ∷ vs) (None ∷ ys) a = places_grow gs vs ys a
  places_grow (g ∷ gs) (None ∷ vs) (Some y ∷ ys) a = absurd a
  places_grow (g ∷ gs) (Some v ∷ vs) [] a = absurd a
  places_grow (g ∷ gs) (Some v ∷ vs) (None ∷ ys) a = absurd a
  places_grow (g ∷ gs) (Some v ∷ vs) (Some y ∷ ys) a = (fits_grow g.1 (Holds v) y a.0, places_grow gs vs ys a.1)

  pub attributes_grow : (o : Option CClass) (vs : List (Option Value)) (ys : List (Option Word)) → AttributesFit s o vs ys → AttributesFit t o vs ys
  attributes_grow None vs ys m = absurd m
  attributes_grow (Some k) vs ys m = places_grow (map slot_typed k.attrs) vs ys m

  pub object_grows : (classes : List CClass) (o : Object) (x : Content) → ObjectFits s classes o x → ObjectFits t classes o x
  object_grows classes (ListObj items) (ListCell words) m = all_grow items words m
  object_grows classes (ListObj items) (IntCell n) m = absurd m
  object_grows classes (ListObj items) (StrCell n) m = absurd m
  object_grows classes (ListObj items) (DictCell n) m = absurd m
  object_grows classes (ListObj items) (TupleCell n) m = absurd m
  object_grows classes (ListObj items) (InstCell n a) m = absurd m
  object_grows classes (ListObj items) (ExcCell n) m = absurd m
  object_grows classes (DictObj pairs) (DictCell words) m = pairs_grow pairs words m
  object_grows classes (DictObj pairs) (IntCell n) m = absurd m
  object_grows classes (DictObj pairs) (StrCell n) m = absurd m
  object_grows classes (DictObj pairs) (ListCell n) m = absurd m
  object_grows classes (DictObj pairs) (TupleCell n) m = absurd m
  object_grows classes (DictObj pairs) (InstCell n a) m = absurd m
  object_grows classes (DictObj pairs) (ExcCell n) m = absurd m
  object_grows classes (InstObj class attributes) (InstCell n words) m =
      (m.0, attributes_grow (slice_get classes class) attributes words m.1)
  object_grows classes (InstObj class attributes) (IntCell n) m = absurd m
  object_grows classes (InstObj class attributes) (StrCell n) m = absurd m
  object_grows classes (InstObj class attributes) (ListCell n) m = absurd m
  object_grows classes (InstObj class attributes) (DictCell n) m = absurd m
  object_grows classes (InstObj class attributes) (TupleCell n) m = absurd m
  object_grows classes (InstObj class attributes) (ExcCell n) m = absurd m

  pub pending_grows : (o : Option Thrown) (q : Option ℕ) → PendingFits s o q → PendingFits t o q
  pending_grows None None a = tt
  pending_grows None (Some c) a = absurd a
  pending_grows (Some e) None a = absurd a
  pending_grows (Some e) (Some c) a = grows.keeps c _ refl a

-- ---- the store
-- each object is where it was, as it was
pub store_keeps : (classes : List CClass) (s t : MachineState) → Keeps s t → t.made ≡ s.made → (store : Store) → StoreFits s classes store → StoreFits t classes store
store_keeps classes s t k made store a =
    let g : Grows s t = keeps_grows s t k made in
    record {
      size = ap length made ∙ a.size;
      objects = λ i o e.
          let old = a.objects i o e in
          record { c = old.c; made = g.makes i old.c old.made; content = old.content; live = k.contents old.c old.content old.live; fits = object_grows s t g classes o old.content old.fits };
      apart = λ i j c e f. a.apart i j c (ap (λ z. slice_get z i) (sym made) ∙ e) (ap (λ z. slice_get z j) (sym made) ∙ f);
    }

-- what was made is an object
object_there : (classes : List CClass) (s : MachineState) (store : Store) → StoreFits s classes store → (k c : ℕ) → slice_get s.made k ≡ Some c → (o : Object) × ObjectAt s classes o k
object_there classes s store a k c e =
    let o = get_within store k (omega (arith, slice_get_within s.made k c e, a.size)) in (o.0, a.objects k o.0 o.1)

-- so its cell is there
pub made_within : (classes : List CClass) (s : MachineState) (store : Store) → StoreFits s classes store → (k c : ℕ) → slice_get s.made k ≡ Some c → c < length s.cells
made_within classes s store a k c e =
    let o = object_there classes s store a k c e in
    let both : Some o.1.c ≡ Some c = sym o.1.made ∙ e in
    let same : o.1.c ≡ c = cc in
    subst (λ z. z < length s.cells) same (cell_within s.cells o.1.c o.1.content o.1.live)

-- an object is made
module _ (classes : List CClass) (s t : MachineState) (store : Store) (a : StoreFits s classes store) (o : Object) (x : Content) (cells : t.cells ≡ make x s.cells) (made : t.made ≡ s.made ++ length s.cells ∷ []) (fits : ObjectFits s classes o x) where
  abbrev noting : Grows s t
  noting = note_grows s t x cells made

  old_object : (i : ℕ) (q : Object) → ObjectAt s classes q i → ObjectAt t classes q i
  old_object i q old =
      record { c = old.c; made = noting.makes i old.c old.made; content = old.content; live = (make_keeps s t x cells).contents old.c old.content old.live; fits = object_grows s t noting classes q old.content old.fits }

  last_object : ObjectAt t classes o (length store)
  last_object =
      record {
        c = length s.cells;
        made = ap (λ z. slice_get z (length store)) made ∙ ap (slice_get (s.made ++ length s.cells ∷ [])) (sym a.size) ∙ get_last s.made (length s.cells);
        content = x;
        live = ap (λ z. content_at z (length s.cells)) cells ∙ made_new s.cells x;
        fits = object_grows s t noting classes o x fits;
      }

  objects_by : (i : ℕ) (q : Object) → OldOrLast store o i q → ObjectAt t classes q i
  objects_by i q (is_old e) = old_object i q (a.objects i q e)
  objects_by i q (is_last e f) = subst (λ z. ObjectAt t classes z i) f (subst (ObjectAt t classes o) (sym e) last_object)

  apart_by : (i j c : ℕ) → OldOrLast s.made (length s.cells) i c → OldOrLast s.made (length s.cells) j c → i ≡ j
  apart_by i j c (is_old e) (is_old f) = a.apart i j c e f
  apart_by i j c (is_last e f) (is_last g h) = e ∙ sym g
  apart_by i j c (is_old e) (is_last g h) =
      absurd (omega (arith, made_within classes s store a i c e, h))
  apart_by i j c (is_last e f) (is_old g) =
      absurd (omega (arith, made_within classes s store a j c g, f))

  pub store_makes : StoreFits t classes (store ++ o ∷ [])
  store_makes = record {
    size = ap length made ∙ omega (arith, a.size, length-append s.made (length s.cells ∷ []), length-append store (o ∷ []));
    objects = λ i q e. objects_by i q (old_or_last store o q i e);
    apart = λ i j c e f. apart_by i j c (old_or_last s.made (length s.cells) c i (ap (λ z. slice_get z i) (sym made) ∙ e)) (old_or_last s.made (length s.cells) c j (ap (λ z. slice_get z j) (sym made) ∙ f));
  }

-- an object changes
module _ (classes : List CClass) (s t : MachineState) (store : Store) (a : StoreFits s classes store) (k c : ℕ) (o : Object) (x old : Content) (cells : t.cells ≡ refill x c s.cells) (made : t.made ≡ s.made) (here : slice_get s.made k ≡ Some c) (live : IsLive s c old) (object : is_object old ≡ true) (fits : ObjectFits s classes o x) where
  abbrev changing : Grows s t
  changing = change_grows s t x old c cells made live object

  other_object : (i : ℕ) (q : Object) → i ≢ k → ObjectAt s classes q i → ObjectAt t classes q i
  other_object i q ne at =
      let far : at.c ≢ c = λ same. ne (a.apart i k c (at.made ∙ ap Some same) here) in
      record { c = at.c; made = changing.makes i at.c at.made; content = at.content; live = other_same s t x old c cells made live object at.c far ∙ at.live; fits = object_grows s t changing classes q at.content at.fits }

  this_object : ObjectAt t classes o k
  this_object =
      record { c = c; made = changing.makes k c here; content = x; live = here_new s t x old c cells made live object; fits = object_grows s t changing classes o x fits }

  within : k < length store
  within = omega (arith, slice_get_within s.made k c here, a.size)

  changed_by : (i : ℕ) (q : Object) → slice_get (slice_set store k o) i ≡ Some q → (b : Bool) → nat_eq i k ≡ b → ObjectAt t classes q i
  changed_by i q e true is =
      let same : i ≡ k = eqb-true i k is in
      let both : Some o ≡ Some q = sym (get_set_same store k o within) ∙ ap (slice_get (slice_set store k o)) (sym same) ∙ e in
      let this : o ≡ q = cc in
      subst (λ z. ObjectAt t classes z i) this (subst (ObjectAt t classes o) (sym same) this_object)
  changed_by i q e false is =
      let ne : i ≢ k = λ same. let both : true ≡ false = sym (eq-eqb i k same) ∙ is in absurd (cc) in
      other_object i q ne (a.objects i q (sym (get_set_other store k i o ne) ∙ e))

  pub store_changes : StoreFits t classes (slice_set store k o)
  store_changes = record {
    size = ap length made ∙ (a.size ∙ sym (size_set store k o));
    objects = λ i q e. changed_by i q e (nat_eq i k) refl;
    apart = λ i j d e f. a.apart i j d (ap (λ z. slice_get z i) (sym made) ∙ e) (ap (λ z. slice_get z j) (sym made) ∙ f);
  }

-- ---- the world, where what is beside the cells is the same
pub world_keeps : (s t : MachineState) → Keeps s t → (p : Program) (w : World) → t.output ≡ s.output → t.turns ≡ s.turns → t.items ≡ s.items → t.made ≡ s.made → t.globals ≡ s.globals → t.pending ≡ s.pending → WorldFits p w s → WorldFits p w t
world_keeps s t keeps p w output turns items made globals pending a =
    let g : Grows s t = keeps_grows s t keeps made in
    record {
      output = output ∙ a.output;
      turns = turns ∙ a.turns;
      items = items ∙ a.items;
      store = store_keeps p.classes s t keeps made w.store a.store;
      globals = subst (PlacesFit t p.globals w.globals) (sym globals) (places_grow s t g p.globals w.globals s.globals a.globals);
      pending = subst (PendingFits t w.pending) (sym pending) (pending_grows s t g w.pending s.pending a.pending);
    }
