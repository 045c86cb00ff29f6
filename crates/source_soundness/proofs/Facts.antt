-- What a module's functions and classes are to those that call them, and what calls are that are fine.
-- The letters are those of `Fine`.
use Rattle.std.proofs.Common.{◌≡◌, ℕ, Bool, true, false, ◌&&◌, List, [], ◌∷◌, take, drop, Option, Some, None, refl, sym, ap, subst, ◌∙◌, slice_get, codes}
use Rattle.std.specs.Str.{bytes_eq}
use Rattle.value_core.specs.Value.{Value}
use Rattle.py_typed.specs.Sorts.{Sort, Instance, TupleOf, Sorts, sorts_of, sort_then}
use Rattle.py_typed.specs.Classes.{Signature, is_class_under}
use Rattle.py_typed.specs.Fits.{is_same_type, are_same_types}
use Rattle.py_typed.specs.Order.{order, listed_order, method_of, method_along, attribute_of, attributes, place_in}
use Rattle.py_typed.specs.Laws.{IsClassTree}
use Rattle.py_typed.specs.Statements.{Variable, TypedFunc, TypedModule}
use Rattle.source_meaning.specs.State.{State, Calls}
use Rattle.py_typed.specs.WellTypedExpr.{call_fits, is_function}
use Rattle.py_typed.specs.WellTypedModule.{types_in, has_self, signature_fits, same_row}
use Rattle.py_typed.proofs.FitLemmas.{one_type}
use Rattle.source_soundness.proofs.Worlds.{World, Has, HaveAll}
use Rattle.source_soundness.proofs.Fine.{Good, Fine, fine_map}

-- what holds in two parts, and both parts of what holds
pub both : (a b : Bool) → a ≡ true → b ≡ true → (a && b) ≡ true
both true b p q = q
both false b p q = absurd (cc)

pub two : (a b : Bool) → (a && b) ≡ true → (a ≡ true) × (b ≡ true)
two true true h = (refl, refl)
two _ _ h = absurd (cc)

pub three : (a b c : Bool) → (a && b && c) ≡ true → (a ≡ true) × (b ≡ true) × (c ≡ true)
three true true true h = (refl, refl, refl)
three _ _ _ h = absurd (cc)

pub four : (a b c d : Bool) → (a && b && c && d) ≡ true → (a ≡ true) × (b ≡ true) × (c ≡ true) × (d ≡ true)
four true true true true h = (refl, refl, refl, refl)
four _ _ _ _ h = absurd (cc)

pub five : (a b c d e : Bool) → (a && b && c && d && e) ≡ true → (a ≡ true) × (b ≡ true) × (c ≡ true) × (d ≡ true) × (e ≡ true)
five true true true true true h = (refl, refl, refl, refl, refl)
five _ _ _ _ _ h = absurd (cc)

pub six : (a b c d e f : Bool) → (a && b && c && d && e && f) ≡ true → (a ≡ true) × (b ≡ true) × (c ≡ true) × (d ≡ true) × (e ≡ true) × (f ≡ true)
six true true true true true true h = (refl, refl, refl, refl, refl, refl)
six _ _ _ _ _ _ h = absurd (cc)

same_rows : (ss ts : Sorts) → TupleOf ss ≡ TupleOf ts → ss ≡ ts
same_rows ss ts e = cc

pub one_row : (ss ts : Sorts) → are_same_types ss ts ≡ true → ss ≡ ts
one_row ss ts e = same_rows ss ts (one_type (TupleOf ss) (TupleOf ts) e)

abbrev pub parameters : TypedFunc → List Sort
parameters F = types_in (take F.params F.locals)

module _ (m : TypedModule) where
  -- a function takes values of these types, behind `self`, and gives one of this type
  pub record Signed (f : ℕ) (ss : List Sort) (t : Sort) : Type 0 where
    pub signature : Signature
    pub there : slice_get m.classes.signatures f ≡ Some signature
    pub takes : sorts_of ss ≡ sorts_of signature.params
    pub gives : signature.ret ≡ t

  -- a method that stands in the order of a class
  pub record MethodOf (c f : ℕ) : Type 0 where
    pub func : TypedFunc
    pub there : slice_get m.funcs f ≡ Some func
    pub class : ℕ
    pub is : func.class ≡ Some class
    pub under : is_class_under m.classes.classes c class ≡ true

  -- an attribute of a class, at its place, with its type
  pub record AttributeOf (c : ℕ) (name : List ℕ) (t : Sort) : Type 0 where
    pub place : ℕ
    pub entry : List ℕ × Sort
    pub placed : place_in name (attributes m.classes.classes c) ≡ Some place
    pub there : slice_get (attributes m.classes.classes c) place ≡ Some entry
    pub type : entry.1 ≡ t

  pub record Facts : Type 0 where
    pub tree : IsClassTree m.classes.classes
    pub signed : (f : ℕ) (F : TypedFunc) → slice_get m.funcs f ≡ Some F → signature_fits (slice_get m.classes.signatures f) F ≡ true
    pub selfed : (f : ℕ) (F : TypedFunc) → slice_get m.funcs f ≡ Some F → has_self F.class (parameters F) ≡ true
    pub method_there : (c : ℕ) (name : List ℕ) (f : ℕ) → method_of m.classes.classes c name ≡ Some f → MethodOf c f
    pub next_there : (c f : ℕ) → method_along m.classes.classes (codes "__init__") (drop 1 (listed_order (order m.classes.classes c))) ≡ Some f → MethodOf c f
    pub overridden : (b c : ℕ) (name : List ℕ) (f : ℕ) (ss : List Sort) (t : Sort) → is_class_under m.classes.classes b c ≡ true → bytes_eq name (codes "__init__") ≡ false → method_of m.classes.classes c name ≡ Some f → Signed f ss t → (h : ℕ) × (method_of m.classes.classes b name ≡ Some h) × Signed h ss t
    pub attribute_there : (b c : ℕ) (name : List ℕ) (t : Sort) → is_class_under m.classes.classes b c ≡ true → attribute_of m.classes.classes c name ≡ Some t → AttributeOf b name t

  -- calls are fine: watched and not, from each typed state, with arguments of the parameters' types
  abbrev pub CallsFine : (utf8 : Bool) → Calls → Calls → Type 0
  CallsFine utf8 c' c = (vars : List Variable) (W : World utf8) (s : State) → Good m vars W s → (f : ℕ) (F : TypedFunc) → slice_get m.funcs f ≡ Some F → (args : List Value) → HaveAll m.classes.classes (sorts_of (parameters F)) W args
      → Fine m vars Value [] W s (λ V u v. Has m.classes.classes F.ret V v) (c' f args) (c f args)

  signed_by : (locals : List Variable) (init : Option ℕ) (f : ℕ) (o : Option Signature) (ss : List Sort) (t : Sort) → slice_get m.classes.signatures f ≡ o → call_fits m locals init o ss t ≡ true → Signed f ss t
  signed_by locals init f None ss t q h = absurd (cc)
  signed_by locals init f (Some S) ss t q h =
      let r = two (same_row ss S.params) (is_same_type S.ret t) h in
      record { signature = S; there = q; takes = one_row (sorts_of ss) (sorts_of S.params) r.0; gives = one_type S.ret t r.1 }

  pub signed_call : (locals : List Variable) (init : Option ℕ) (f : ℕ) (ss : List Sort) (t : Sort) → call_fits m locals init (slice_get m.classes.signatures f) ss t ≡ true → Signed f ss t
  signed_call locals init f ss t h = signed_by locals init f (slice_get m.classes.signatures f) ss t refl h

  -- a function that is no method
  pub record PlainFunction (f : ℕ) : Type 0 where
    pub func : TypedFunc
    pub there : slice_get m.funcs f ≡ Some func
    pub is : func.class ≡ None

  pub plain_function : (f : ℕ) → is_function (slice_get m.funcs f) ≡ true → PlainFunction f
  plain_function f h = by (slice_get m.funcs f) refl h
    where
      of_class : (F : TypedFunc) (o : Option ℕ) → slice_get m.funcs f ≡ Some F → F.class ≡ o → is_function (Some (record F { class = o })) ≡ true → PlainFunction f
      of_class F None q c h = record { func = F; there = q; is = c }
      of_class F (Some d) q c h = absurd (cc)

      by : (o : Option TypedFunc) → slice_get m.funcs f ≡ o → is_function o ≡ true → PlainFunction f
      by None q h = absurd (cc)
      by (Some F) q h = of_class F F.class q refl h

  module _ (facts : Facts) where
    -- the types of the parameters, by the class of the function
    plain_takes : (F : TypedFunc) (S : Signature) (o : Option ℕ) → o ≡ None → signature_fits (Some S) (record F { class = o }) ≡ true → (sorts_of (parameters F) ≡ sorts_of S.params) × (F.ret ≡ S.ret)
    plain_takes F S (Some c) e h = absurd (cc)
    plain_takes F S None e h =
        let r = two (same_row (parameters F) S.params) (is_same_type F.ret S.ret) h in
        (one_row (sorts_of (parameters F)) (sorts_of S.params) r.0, one_type F.ret S.ret r.1)

    behind_self : (ts : List Sort) (c : ℕ) (us : List Sort) → has_self (Some c) ts ≡ true → sorts_of (drop 1 ts) ≡ sorts_of us → sorts_of ts ≡ sort_then (Instance c) (sorts_of us)
    behind_self [] c us h e = absurd (cc)
    behind_self (t ∷ ts) c us h e = ap (λ x. sort_then x (sorts_of ts)) (one_type t (Instance c) h) ∙ ap (sort_then (Instance c)) e

    method_takes : (F : TypedFunc) (S : Signature) (o : Option ℕ) (c : ℕ) → o ≡ Some c → signature_fits (Some S) (record F { class = o }) ≡ true → has_self o (parameters F) ≡ true → (sorts_of (parameters F) ≡ sort_then (Instance c) (sorts_of S.params)) × (F.ret ≡ S.ret)
    method_takes F S None c e h k = absurd (cc)
    method_takes F S (Some d) c e h k =
        let r = two (same_row (drop 1 (parameters F)) S.params) (is_same_type F.ret S.ret) h in
        (behind_self (parameters F) d S.params k (one_row (sorts_of (drop 1 (parameters F))) (sorts_of S.params) r.0) ∙ ap (λ x. sort_then (Instance x) (sorts_of S.params)) (cc e), one_type F.ret S.ret r.1)

    module _ {utf8 : Bool} {c' c : Calls} (calls : CallsFine utf8 c' c) (vars : List Variable) {W : World utf8} {s : State} (g : Good m vars W s) where
      -- a call of a function
      pub fine_call : (f : ℕ) (ss : List Sort) (t : Sort) → PlainFunction f → Signed f ss t → (args : List Value) → HaveAll m.classes.classes (sorts_of ss) W args → Fine m vars Value [] W s (λ V u v. Has m.classes.classes t V v) (c' f args) (c f args)
      fine_call f ss t P S args h =
          let r = plain_takes P.func S.signature P.func.class P.is (subst (λ o. signature_fits o P.func ≡ true) S.there (facts.signed f P.func P.there)) in
          fine_map m vars (calls vars W s g f P.func P.there args (subst (λ x. HaveAll m.classes.classes x W args) (S.takes ∙ sym r.0) h))
          (λ V u st v p. subst (λ x. Has m.classes.classes x V v) (r.1 ∙ S.gives) p)

      -- a call of a method on an object of its class
      pub fine_method : (d f : ℕ) (ss : List Sort) (t : Sort) → (M : MethodOf d f) → Signed f ss t → (o : Value) → Has m.classes.classes (Instance M.class) W o → (args : List Value) → HaveAll m.classes.classes (sorts_of ss) W args → Fine m vars Value [] W s (λ V u v. Has m.classes.classes t V v) (c' f (o ∷ args)) (c f (o ∷ args))
      fine_method d f ss t M S o i args h =
          let r = method_takes M.func S.signature M.func.class M.class M.is (subst (λ x. signature_fits x M.func ≡ true) S.there (facts.signed f M.func M.there)) (facts.selfed f M.func M.there) in
          fine_map m vars (calls vars W s g f M.func M.there (o ∷ args) (subst (λ x. HaveAll m.classes.classes x W (o ∷ args)) (sym r.0) (i, subst (λ x. HaveAll m.classes.classes x W args) S.takes h)))
          (λ V u st v p. subst (λ x. Has m.classes.classes x V v) (r.1 ∙ S.gives) p)
