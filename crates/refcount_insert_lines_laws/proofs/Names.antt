-- The function of a name: in a program and in its C text it has the same number.
use Rattle.std.proofs.Common.{◌≡◌, refl, sym, ◌∙◌, ap, subst, ℕ, zero, suc, ◌+◌, ◌<◌, arith, Bool, true, false, cond, not, ◌&&◌, ◌||◌, List, [], ◌∷◌, length, Option, Some, None}
use Rattle.std.specs.Prelude.{slice_get, map, nat_eq, nat_lt, find}
use Rattle.std.specs.List.{list_all, list_any, position, position_or_len}
use Rattle.std.specs.Str.{bytes_eq, is_utf8, chars}
use Rattle.std.specs.Option.{option_map, option_and_then}
use Rattle.std.proofs.lemmas.Bool.{lt-ltb, ne_eqb}
use Rattle.std.proofs.lemmas.Option.{slice_get_within}
use Rattle.std.proofs.lemmas.Slice.Eq.{bytes_eq-Decides}
use Rattle.unicode_ident.specs.Ident.{is_xid_continue}
use Rattle.c_core.specs.declared.code.CClass.{CClass}
use Rattle.c_core.specs.declared.code.CFunc.{CFunc}
use Rattle.c_core.specs.declared.code.Code.{Code}
use Rattle.c_core.specs.Functions.{number_of, method_at, trait_method_at}
use Rattle.c_core.specs.WellFormed.{WellFormed, names_differ, has_class, has_function, class_fits, trait_fits, spelled_class, spelled_trait, is_identifier}
use Rattle.c_core.proofs.Lines.{and_true, all_at}
use Rattle.ir_core.specs.declared.code.Func.{Func}
use Rattle.ir_core.specs.declared.code.Program.{Program}
use Rattle.ir_core.specs.Names.{function_id, is_called, function_called}
use Rattle.refcount_insert_lines_laws.specs.Matching.{HasHead, HasHeads}
use Rattle.refcount_insert_lines_laws.proofs.ListLemmas.{get_map, get_within}
use Rattle.refcount_insert_lines_laws.proofs.Facts.{Facts, facts}

-- ---- the first place that passes a test
any_at : {A : Type 0} (q : A → Bool) (xs : List A) (n : ℕ) (x : A) → slice_get xs n ≡ Some x → q x ≡ true → list_any q xs ≡ true
any_at q [] n x e is = let f : None ≡ Some x = e in absurd (cc)
any_at q (y ∷ xs) zero x e is =
    let f : Some y ≡ Some x = e in
    let same : x ≡ y = cc in
    ap (λ c. c || list_any q xs) (subst (λ z. q z ≡ true) same is)
any_at q (y ∷ xs) (suc n) x e is = or_true (q y) (list_any q xs) (any_at q xs n x e is)
  where
    or_true : (a c : Bool) → c ≡ true → (a || c) ≡ true
    or_true true c t = refl
    or_true false c t = t

any_found : {A : Type 0} (q : A → Bool) (xs : List A) → list_any q xs ≡ true → (n : ℕ) × (x : A) × (slice_get xs n ≡ Some x) × (q x ≡ true)
any_found q [] e = absurd (cc)
any_found {A} q (x ∷ xs) e = by (q x) refl e (λ h. any_found q xs h)
  where
    by : (b : Bool) → q x ≡ b → (b || list_any q xs) ≡ true → (list_any q xs ≡ true → (n : ℕ) × (y : A) × (slice_get xs n ≡ Some y) × (q y ≡ true)) → (n : ℕ) × (y : A) × (slice_get (x ∷ xs) n ≡ Some y) × (q y ≡ true)
    by true is h later = (0, x, refl, is)
    by false is h later = let more = later h in (suc more.0, more.1, more.2, more.3)

first_place : {A : Type 0} (q : A → Bool) (xs : List A) (n : ℕ) (x : A) → slice_get xs n ≡ Some x → q x ≡ true → ((i : ℕ) (y : A) → i < n → slice_get xs i ≡ Some y → q y ≡ false) → position_or_len q xs ≡ n
first_place q [] n x e is before = let f : None ≡ Some x = e in absurd (cc)
first_place q (y ∷ xs) zero x e is before =
    let f : Some y ≡ Some x = e in
    let same : x ≡ y = cc in
    ap (λ c. cond (not c) (1 + position_or_len q xs) 0) (subst (λ z. q z ≡ true) same is)
first_place q (y ∷ xs) (suc n) x e is before =
    ap (λ c. cond (not c) (1 + position_or_len q xs) 0) (before 0 y (omega arith) refl)
    ∙ (ap (λ z. 1 + z) (first_place q xs n x e is (λ i z lt at. before (suc i) z (omega (arith, lt)) at)) ∙ omega arith)

pub at_first : {A : Type 0} (q : A → Bool) (xs : List A) (n : ℕ) (x : A) → slice_get xs n ≡ Some x → q x ≡ true → ((i : ℕ) (y : A) → i < n → slice_get xs i ≡ Some y → q y ≡ false) → position q xs ≡ Some n
at_first q xs n x e is before =
    ap (λ i. cond (nat_lt i (length xs)) (Some i) None) (first_place q xs n x e is before) ∙ ap (λ c. cond c (Some n) None) (lt-ltb n (length xs) (slice_get_within xs n x e))

-- ---- names
equal_names : (a b : List ℕ) → a ≡ b → bytes_eq a b ≡ true
equal_names a b e = (bytes_eq-Decides a b).1 e

other_names : (a b : List ℕ) → bytes_eq a b ≡ false → bytes_eq b a ≡ false
other_names a b e = by (bytes_eq b a) refl
  where
    by : (c : Bool) → bytes_eq b a ≡ c → bytes_eq b a ≡ false
    by false is = is
    by true is =
        let both : true ≡ false = sym (equal_names a b (sym ((bytes_eq-Decides b a).0 is))) ∙ e in absurd (cc)

no_true : (b : Bool) → not b ≡ true → b ≡ false
no_true true e = absurd (cc)
no_true false e = refl

-- functions at two places have different names
names_apart : (fs : List CFunc) → names_differ (map (λ (g : CFunc). g.name) fs) ≡ true → (i n : ℕ) (x y : CFunc) → i < n → slice_get fs i ≡ Some x → slice_get fs n ≡ Some y → bytes_eq x.name y.name ≡ false
names_apart [] e i n x y lt at here = let f : None ≡ Some x = at in absurd (cc)
names_apart (z ∷ fs) e i zero x y lt at here = absurd (omega (arith, lt))
names_apart (z ∷ fs) e zero (suc n) x y lt at here =
    let parts = and_true (not (list_any (bytes_eq z.name) (map (λ (k : CFunc). k.name) fs))) (names_differ (map (λ (k : CFunc). k.name) fs)) e in
    let there : slice_get (map (λ (k : CFunc). k.name) fs) n ≡ Some y.name = get_map (λ (k : CFunc). k.name) fs n ∙ ap (option_map (λ (k : CFunc). k.name)) here in
    let f : Some z ≡ Some x = at in
    let same : z ≡ x = cc in
    subst (λ (k : CFunc). bytes_eq k.name y.name ≡ false) same (by (bytes_eq z.name y.name) refl there (no_true (list_any (bytes_eq z.name) (map (λ (k : CFunc). k.name) fs)) parts.0))
  where
    by : (c : Bool) → bytes_eq z.name y.name ≡ c → slice_get (map (λ (k : CFunc). k.name) fs) n ≡ Some y.name → list_any (bytes_eq z.name) (map (λ (k : CFunc). k.name) fs) ≡ false → bytes_eq z.name y.name ≡ false
    by false is there none = is
    by true is there none =
        let both : true ≡ false = sym (any_at (bytes_eq z.name) (map (λ (k : CFunc). k.name) fs) n y.name there is) ∙ none in absurd (cc)
names_apart (z ∷ fs) e (suc i) (suc n) x y lt at here =
    names_apart fs (and_true (not (list_any (bytes_eq z.name) (map (λ (k : CFunc). k.name) fs))) (names_differ (map (λ (k : CFunc). k.name) fs)) e).1 i n x y (omega (arith, lt)) at here

-- the function of a name is the one of its number, since no other one has its name
pub number_is : (fs : List CFunc) (name : List ℕ) (n : ℕ) (g : CFunc) → names_differ (map (λ (g : CFunc). g.name) fs) ≡ true → slice_get fs n ≡ Some g → g.name ≡ name → position (λ (k : CFunc). bytes_eq name k.name) fs ≡ Some n
number_is fs name n g differ there same =
    at_first (λ (k : CFunc). bytes_eq name k.name) fs n g there (equal_names name g.name (sym same))
    (λ i x lt at. other_names x.name name (subst (λ z. bytes_eq x.name z ≡ false) same (names_apart fs differ i n x g lt at there)))

-- ---- a name that a function has
module _ (p : Program) (code : Code) (heads : HasHeads p code) (formed : WellFormed code) (name : List ℕ) (is_one : bytes_eq name [] ≡ false) where
  pub record FoundFunction : Type 0 where
    pub n : ℕ
    pub func : Func
    pub there : slice_get p.funcs n ≡ Some func
    pub by_program : function_called p name ≡ Some n
    pub by_text : number_of code.funcs name ≡ Some n

  -- the module's own has none
  own_name : (n : ℕ) (h : Func) (g : CFunc) → g.name ≡ cond (nat_eq (suc n) (length p.funcs)) [] (function_id h.name) → name ≡ g.name → function_id h.name ≡ name
  own_name n h g is same = by (nat_eq (suc n) (length p.funcs)) refl
    where
      by : (c : Bool) → nat_eq (suc n) (length p.funcs) ≡ c → function_id h.name ≡ name
      by true last =
          let none : name ≡ [] = same ∙ (is ∙ ap (λ c. cond c [] (function_id h.name)) last) in
          let both : true ≡ false = sym (equal_names name [] none) ∙ is_one in
          absurd (cc)
      by false other = sym (same ∙ (is ∙ ap (λ c. cond c [] (function_id h.name)) other))

  pub found_function : has_function code name ≡ true → FoundFunction
  found_function has =
      let any = any_found (λ (g : CFunc). bytes_eq name g.name) code.funcs has in
      let n : ℕ = any.0 in
      let g : CFunc = any.1 in
      let inside : n < length p.funcs = omega (arith, slice_get_within code.funcs n g any.2, heads.count) in
      let h = get_within p.funcs n inside in
      let hd : HasHead p code n h.0 = heads.funcs n h.0 h.1 in
      let both : Some g ≡ Some hd.g = sym any.2 ∙ hd.there in
      let one : hd.g ≡ g = cc in
      let same : name ≡ hd.g.name = (bytes_eq-Decides name g.name).0 any.3 ∙ ap (λ (z : CFunc). z.name) (sym one) in
      let known : Facts code = facts code formed in
      record {
        n = n;
        func = h.0;
        there = h.1;
        by_program = at_first (is_called name) p.funcs n h.0 h.1 (equal_names (function_id h.0.name) name (own_name n h.0 hd.g hd.name same)) (λ i y lt at.
            let before : HasHead p code i y = heads.funcs i y at in
            let other : nat_eq (suc i) (length p.funcs) ≡ false = ne_eqb (suc i) (length p.funcs) (λ e. omega (arith, lt, inside, e)) in
            let id : before.g.name ≡ function_id y.name = before.name ∙ ap (λ c. cond c [] (function_id y.name)) other in
            subst (λ z. bytes_eq z name ≡ false) id (subst (λ z. bytes_eq before.g.name z ≡ false) (sym same) (names_apart code.funcs known.names i n before.g hd.g lt before.there hd.there)));
        by_text = ap (λ c. cond c None (position (λ (k : CFunc). bytes_eq name k.name) code.funcs)) is_one ∙ number_is code.funcs name n hd.g known.names hd.there (sym same);
      }

-- ---- the methods of a class
-- where a method is looked for: among those of a class, or among those that it has for a trait
pub data IsEntry : (CClass → Option (List ℕ)) → Type 0 where
  of_class : (n : ℕ) → IsEntry (method_at n)
  of_trait : (t : List ℕ) (n : ℕ) → IsEntry (trait_method_at t n)

find_all : {A : Type 0} (q t : A → Bool) (xs : List A) (x : A) → list_all t xs ≡ true → find q xs ≡ Some x → t x ≡ true
find_all q t [] x all e = absurd (cc)
find_all q t (y ∷ xs) x all e =
    let both = and_true (t y) (list_all t xs) all in by (q y) e both.0 (λ f. find_all q t xs x both.1 f)
  where
    by : (b : Bool) → cond b (Some y) (find q xs) ≡ Some x → t y ≡ true → (find q xs ≡ Some x → t x ≡ true) → t x ≡ true
    by true e here later = let same : y ≡ x = cc in subst (λ z. t z ≡ true) same here
    by false e here later = later e

-- what holds of the names of all methods holds of each
entry_all : (q : List ℕ → Bool) (b : List ℕ × List (List ℕ) → Bool) (k : CClass) → list_all q k.methods ≡ true → list_all (λ t. b t && list_all q t.1) k.traits ≡ true → (entry : CClass → Option (List ℕ)) → IsEntry entry → (name : List ℕ) → entry k ≡ Some name → q name ≡ true
entry_all q b k own others entry (of_class n) name e = all_at q k.methods n name own e
entry_all q b k own others entry (of_trait t n) name e =
    by (find (λ z. bytes_eq t z.0) k.traits) refl e
  where
    by : (o : Option (List ℕ × List (List ℕ))) → find (λ z. bytes_eq t z.0) k.traits ≡ o → option_and_then (λ z. slice_get z.1 n) o ≡ Some name → q name ≡ true
    by None is at = absurd (cc)
    by (Some x) is at =
        all_at q x.1 n name (and_true (b x) (list_all q x.1) (find_all (λ z. bytes_eq t z.0) (λ t. b t && list_all q t.1) k.traits x others is)).1 at

-- a method of a class of the code is a function's name
pub method_known : (code : Code) → WellFormed code → (class : ℕ) (k : CClass) → slice_get code.classes class ≡ Some k → (entry : CClass → Option (List ℕ)) → IsEntry entry → (name : List ℕ) → entry k ≡ Some name → (bytes_eq name [] ≡ false) × (has_function code name ≡ true)
method_known code formed class k there entry is name e =
    let known : Facts code = facts code formed in
    let fits : class_fits code k ≡ true = all_at (class_fits code) code.classes class k known.classes there in
    let names : Bool = names_differ (map (λ a. a.0) k.attrs) in
    let methods = and_true (list_all (has_function code) k.methods) (list_all (trait_fits code) k.traits) (and_true names (list_all (has_function code) k.methods && list_all (trait_fits code) k.traits) fits).1 in
    let spelled : spelled_class k ≡ true = all_at spelled_class code.classes class k known.spelled_classes there in
    let attrs : Bool = list_all (λ a. is_utf8 a.0) k.attrs in
    let ids : Bool = list_all is_identifier k.methods && list_all spelled_trait k.traits in
    let words = and_true (list_all is_identifier k.methods) (list_all spelled_trait k.traits) (and_true attrs ids (and_true (is_identifier k.name) (attrs && ids) spelled).1).1 in
    let id : is_identifier name ≡ true = entry_all is_identifier (λ t. is_identifier t.0) k words.0 words.1 entry is name e in
    let other : Bool = list_all is_xid_continue (chars name) in (
      no_true (bytes_eq name []) (and_true (not (bytes_eq name [])) other (and_true (is_utf8 name) (not (bytes_eq name []) && other) id).1).0,
      entry_all (has_function code) (λ t. has_class code t.0) k methods.0 methods.1 entry is name e,
    )
