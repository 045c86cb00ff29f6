-- Variables behind their first bindings: each has a type, or none for good, so that an annotation further down is no first one.
use Rattle.std.proofs.Common.{◌≡◌, ℕ, Bool, true, false, cond, List, [], ◌∷◌, ◌++◌, length, map, nat_lt, Option, Some, None, refl, ap, sym, ◌∙◌, subst, zero, suc, slice_get}
use Rattle.std.proofs.lemmas.Slice.Eq.{bytes_eq-Decides}
use Rattle.std.specs.Str.{bytes_eq}
use Rattle.std.specs.List.{flat_map}
use Rattle.py_syntax.specs.Expressions.{ExprTree}
use Rattle.py_typed.specs.Sorts.{Sort}
use Rattle.py_check_context.specs.declared.scope.Meaning.{Meaning}
use Rattle.py_check_context.specs.declared.scope.Meaning.TheVariants as meaning
use Rattle.py_check_context.specs.Context.{Context, VarSorts, VarSort, var_at}
use Rattle.py_check_flow.specs.Bindings.{Binding, name_in, target_bindings}
use Rattle.py_check_places.specs.Places.{Known, bind_name, bind_names, is_unset}
use Rattle.py_check_places.specs.Shapes.{is_row, leaves, parts_of}
use Rattle.py_check_places.specs.Shapes.{bind_target}
use Rattle.py_check_definitions.specs.Starts.{first_mark, given_sort}
use Rattle.py_check.specs.Fixed.{is_there}
use Rattle.py_check_laws.specs.WellTyped.{IsScope}
use Rattle.py_check.proofs.Bound.{name_no_row, single_bound, named, leaf_bindings, target_leaves, open_follows, closed_variable}
use Rattle.py_check.proofs.Kept.{Follows, follows_name, follows_names, is_open}
use Rattle.std.proofs.lemmas.Option.{same_Some}

pub scope_there : (C : Context) (V : VarSorts) → IsScope C V → (x : List ℕ) → is_there V (C.meaning x) ≡ true
scope_there C V s x = by (C.meaning x) refl
  where
    by : (m : Meaning) → C.meaning x ≡ m → is_there V m ≡ true
    by (meaning.Local i) q = s.locals_there x i q
    by (meaning.Global i) q = s.globals_there x i q
    by _ q = refl

pub scope_on : (C : Context) (V W : VarSorts) → Follows V W → IsScope C V → IsScope C W
scope_on C V W f s = record {
  locals_there = λ x i q. ap (λ n. nat_lt i n) f.locals.size ∙ s.locals_there x i q;
  globals_there = λ x i q. ap (λ n. nat_lt i n) f.globals.size ∙ s.globals_there x i q;
  differ = s.differ;
}

module _ (C : Context) where
  -- ---- bindings that are made

  pub record IsClosed (V : VarSorts) (b : Binding) (Rest : Type 0) : Type 0 where
    pub here : is_open V (C.meaning b.name) ≡ false
    pub rest : Rest

  abbrev pub AllClosed : VarSorts → List Binding → Type 0
  AllClosed V [] = Unit {0}
  AllClosed V (b ∷ bs) = IsClosed V b (AllClosed V bs)

  pub closed_both : (V : VarSorts) (a b : List Binding) → AllClosed V a → AllClosed V b → AllClosed V (a ++ b)
  closed_both V [] b p q = q
  closed_both V (x ∷ a) b p q = record { here = p.here; rest = closed_both V a b p.rest q }

  pub closed_on : (V W : VarSorts) → Follows V W → (a : List Binding) → AllClosed V a → AllClosed W a
  closed_on V W f [] p = tt
  closed_on V W f (x ∷ a) p = record { here = open_follows V W (C.meaning x.name) f p.here; rest = closed_on V W f a p.rest }

  leaf_closed : (ok : Bool) (k : Known) → IsScope C k.types → (x : Option (List ℕ)) (t : Option Sort) → AllClosed (bind_name C ok k x t).types (named x)
  leaf_closed ok k s None t = tt
  leaf_closed ok k s (Some x) t = record { here = closed_variable ok k (C.meaning x) t (scope_there C k.types s x); rest = tt }

  leaves_closed : (ok : Bool) (k : Known) → IsScope C k.types → (es : List ExprTree) (ts : List Sort) → AllClosed (bind_names C ok k (map name_in es) ts).types (flat_map leaf_bindings es)
  leaves_closed ok k s [] ts = tt
  leaves_closed ok k s (e ∷ es) [] =
      let l = bind_name C ok k (name_in e) None in
      let end = bind_names C ok l (map name_in es) [] in
      closed_both end.types (leaf_bindings e) (flat_map leaf_bindings es) (closed_on l.types end.types (follows_names C ok l (map name_in es) []) (leaf_bindings e) (leaf_closed ok k s (name_in e) None))
      (leaves_closed ok l (scope_on C k.types l.types (follows_name C ok k (name_in e) None) s) es [])
  leaves_closed ok k s (e ∷ es) (t ∷ ts) =
      let l = bind_name C ok k (name_in e) (Some t) in
      let end = bind_names C ok l (map name_in es) ts in
      closed_both end.types (leaf_bindings e) (flat_map leaf_bindings es) (closed_on l.types end.types (follows_names C ok l (map name_in es) ts) (leaf_bindings e) (leaf_closed ok k s (name_in e) (Some t)))
      (leaves_closed ok l (scope_on C k.types l.types (follows_name C ok k (name_in e) (Some t)) s) es ts)

  -- the names of a target are bound, whatever the value
  pub target_closed : (ok : Bool) (k : Known) → IsScope C k.types → (target : ExprTree) (t : Option Sort) → AllClosed (bind_target C ok k target t).types (target_bindings target)
  target_closed ok k s target t = subst (AllClosed (bind_target C ok k target t).types) (sym (target_leaves target)) (leaves_closed ok k s (leaves target) (parts_of (is_row target) (length (leaves target)) t))

  pub name_closed : (ok : Bool) (k : Known) → IsScope C k.types → (target : ExprTree) (t : Option Sort) (x : List ℕ) → name_in target ≡ Some x → is_open (bind_target C ok k target t).types (C.meaning x) ≡ false
  name_closed ok k s target t x n =
      ap (λ (l : Known). is_open l.types (C.meaning x)) (single_bound C ok k target t (name_no_row target x n) ∙ ap (λ o. bind_name C ok k o t) n) ∙ closed_variable ok k (C.meaning x) t (scope_there C k.types s x)

  -- ---- annotations of first bindings

  -- a variable whose first binding is annotated has its type, or none for good, from the start
  abbrev pub IsMarked : VarSorts → List Binding → Type 0
  IsMarked V bs = (x : List ℕ) (mark : ExprTree) → first_mark bs x ≡ Some (Some mark) → is_open V (C.meaning x) ≡ false

  front_found : (a b : List Binding) (x : List ℕ) (o : Option ExprTree) → first_mark a x ≡ Some o → first_mark (a ++ b) x ≡ Some o
  front_found [] b x o e = absurd (cc)
  front_found (y ∷ a) b x o e = by (bytes_eq x y.name) e (λ q. front_found a b x o q)
    where
      by : (c : Bool) → cond c (Some y.mark) (first_mark a x) ≡ Some o → (first_mark a x ≡ Some o → first_mark (a ++ b) x ≡ Some o) → cond c (Some y.mark) (first_mark (a ++ b) x) ≡ Some o
      by true q next = q
      by false q next = next q

  pub marked_front : (V : VarSorts) (a b : List Binding) → IsMarked V (a ++ b) → IsMarked V a
  marked_front V a b h x mark e = h x mark (front_found a b x (Some mark) e)

  behind_found : (a b : List Binding) (x : List ℕ) → first_mark a x ≡ None → first_mark (a ++ b) x ≡ first_mark b x
  behind_found [] b x e = refl
  behind_found (y ∷ a) b x e = by (bytes_eq x y.name) e (λ q. behind_found a b x q)
    where
      by : (c : Bool) → cond c (Some y.mark) (first_mark a x) ≡ None → (first_mark a x ≡ None → first_mark (a ++ b) x ≡ first_mark b x) → cond c (Some y.mark) (first_mark (a ++ b) x) ≡ first_mark b x
      by true q next = absurd (cc)
      by false q next = next q

  same_text : (x y : List ℕ) → bytes_eq x y ≡ true → x ≡ y
  same_text x y e = (bytes_eq-Decides x y).0 e

  pub found_closed : (V : VarSorts) (a : List Binding) (x : List ℕ) (o : Option ExprTree) → AllClosed V a → first_mark a x ≡ Some o → is_open V (C.meaning x) ≡ false
  found_closed V [] x o p e = absurd (cc)
  found_closed V (y ∷ a) x o p e = by (bytes_eq x y.name) refl e (λ q. found_closed V a x o p.rest q)
    where
      by : (c : Bool) → bytes_eq x y.name ≡ c → cond c (Some y.mark) (first_mark a x) ≡ Some o → (first_mark a x ≡ Some o → is_open V (C.meaning x) ≡ false) → is_open V (C.meaning x) ≡ false
      by true r q next = ap (λ z. is_open V (C.meaning z)) (same_text x y.name r) ∙ p.here
      by false r q next = next q

  -- behind bindings that are made
  pub marked_behind : (V W : VarSorts) → Follows V W → (a b : List Binding) → IsMarked V (a ++ b) → AllClosed W a → IsMarked W b
  marked_behind V W f a b h p x mark e = by (first_mark a x) refl
    where
      by : (o : Option (Option ExprTree)) → first_mark a x ≡ o → is_open W (C.meaning x) ≡ false
      by None q = open_follows V W (C.meaning x) f (h x mark (behind_found a b x q ∙ e))
      by (Some o) q = found_closed W a x o p q

-- ---- types that variables begin with

pub mapped_at : (g : List ℕ → VarSort) (l : List (List ℕ)) (i : ℕ) (x : List ℕ) → slice_get l i ≡ Some x → var_at (map g l) i ≡ g x
mapped_at g [] i x h = absurd (cc)
mapped_at g (y ∷ l) zero x h = ap g (same_Some y x h)
mapped_at g (y ∷ l) (suc i) x h = mapped_at g l i x h

pub given_set : (o : Option Sort) → is_unset (given_sort o) ≡ false
given_set None = refl
given_set (Some t) = refl
