-- Arguments one after another.
use Rattle.ir_builder_expressions.proofs.Common.{◌≡◌, refl, sym, ◌∙◌, ap, subst, ℕ, ◌+◌, ◌<◌, ◌≤◌, arith, le_refl, List, [], ◌∷◌, ◌++◌, length, map, Some, take, drop, get_or, add-one, drop_more, take_all, map_push, Value, TExpr, Sort, TypedModule, Variable, TypedExpr, type_of, exprs_of, typed_expr, State, Gives, on_to, Reg, Declared, type_of_reg, Regs, Building, Extends, Setting, rtype_of, HasRoom, IsThrown, means, Shows, ShowAll, HaveTypes, ArrivesAll, ComputesAll, extends_refl, extends_trans, type_kept, placed_part, ends_now, ends_of, on_assoc, room_on, computes_then, computes_all_then, Suits, ArgumentsSuit, AllSuit, SomeSuit, count_of, objects, boxed, TypedExprs, no_exprs, expr_then, suc, length-append, length-map, Computes, HasType, Attempts, ActsOn, give, type_at, computes_of, means_all, Emits, EmitsAll, show_kept}
use Rattle.std.proofs.Math.Seq.{take-suc}
use Rattle.ir_core.specs.declared.code.RType.TheVariants.{Ref}
use Rattle.py_typed.specs.Sorts as sort
use Rattle.py_typed.specs.Sorts.{sort as sort_of}
use Rattle.ir_builder_operations.proofs.ConversionLemmas.{given_on}
use Rattle.ir_builder_expressions.proofs.FollowLemmas.{part_attempts, shown_as}

snoc_means : (x : Setting) (n : ℕ) (es : List TypedExpr) (e : TypedExpr) (s : State) → means_all x (exprs_of (es ++ e ∷ [])) n s ≡ on_to (means_all x (exprs_of es) n s) (λ vs s1. on_to (means x e n s1) (λ v s2. Gives (vs ++ v ∷ []) s2))
snoc_means x n [] e s = refl
snoc_means x n (a ∷ es) e s =
    (λ i. on_to (means x a n s) (λ v s1. on_to (snoc_means x n es e s1 i) (λ vs s2. Gives (v ∷ vs) s2)))
    ∙ (λ i. on_to (means x a n s) (λ v s1. on_assoc (means_all x (exprs_of es) n s1) (λ vs s2. on_to (means x e n s2) (λ u s3. Gives (vs ++ u ∷ []) s3)) (λ vs s2. Gives (v ∷ vs) s2) i))
    ∙ (λ i. on_to (means x a n s) (λ v s1. on_to (means_all x (exprs_of es) n s1) (λ vs s2. on_assoc (means x e n s2) (λ u s3. Gives (vs ++ u ∷ []) s3) (λ us s4. Gives (v ∷ us) s4) i)))
    ∙ (λ i. on_to (means x a n s) (λ v s1. sym (on_assoc (means_all x (exprs_of es) n s1) (λ vs s2. Gives (v ∷ vs) s2) (λ vs s2. on_to (means x e n s2) (λ u s3. Gives (vs ++ u ∷ []) s3))) i))
    ∙ sym (on_assoc (means x a n s) (λ v s1. on_to (means_all x (exprs_of es) n s1) (λ vs s2. Gives (v ∷ vs) s2)) (λ vs s2. on_to (means x e n s2) (λ u s3. Gives (vs ++ u ∷ []) s3)))

show_snoc : (ts : List Sort) (t : Sort) (vs : List Value) (v : Value) (regs : Regs) (rs : List Reg) (r : Reg) → ShowAll ts vs regs rs → Shows t v (regs r.0) → ShowAll (ts ++ t ∷ []) (vs ++ v ∷ []) regs (rs ++ r ∷ [])
show_snoc [] t [] v regs [] r h k = (k, tt)
show_snoc [] t [] v regs (q ∷ rs) r h k = absurd h
show_snoc [] t (u ∷ vs) v regs rs r h k = absurd h
show_snoc (w ∷ ts) t [] v regs rs r h k = absurd h
show_snoc (w ∷ ts) t (u ∷ vs) v regs [] r h k = absurd h
show_snoc (w ∷ ts) t (u ∷ vs) v regs (q ∷ rs) r h k = (h.0, show_snoc ts t vs v regs rs r h.1 k)

types_snoc : (declared : Declared) (ts : List Sort) (t : Sort) (rs : List Reg) (r : Reg) → HaveTypes declared ts rs → type_of_reg declared r ≡ Some (rtype_of t) → HaveTypes declared (ts ++ t ∷ []) (rs ++ r ∷ [])
types_snoc declared [] t [] r h k = (k, tt)
types_snoc declared [] t (q ∷ rs) r h k = absurd h
types_snoc declared (w ∷ ts) t [] r h k = absurd h
types_snoc declared (w ∷ ts) t (q ∷ rs) r h k = (h.0, types_snoc declared ts t rs r h.1 k)

types_kept : (b c : Building) (ts : List Sort) (rs : List Reg) → Extends b c → HaveTypes b.regs ts rs → HaveTypes c.regs ts rs
types_kept b c [] [] x h = tt
types_kept b c [] (r ∷ rs) x h = absurd h
types_kept b c (t ∷ ts) [] x h = absurd h
types_kept b c (t ∷ ts) (r ∷ rs) x h = (type_kept b c r.0 (rtype_of t) x h.0, types_kept b c ts rs x h.1)

pub none_emitted : (x : Setting) (b : Building) → ComputesAll x [] (means_all x (exprs_of [])) b b []
none_emitted x b = record {
  extends = extends_refl b;
  types = tt;
  runs = λ p fn h at n calls regs below s match le. ends_now p [] s _ (ArrivesAll [] fn (length b.blocks) (length b.ops) below (length b.regs) regs s []) (IsThrown fn h below x (length b.regs) regs) record { now = regs; is = refl; shows = tt; kept = λ j lt. refl; same = refl };
}

pub snoc_emitted : (x : Setting) (ts : List Sort) (t : Sort) (es : List TypedExpr) (e : TypedExpr) (b0 b1 b2 : Building) (rs : List Reg) (r : Reg) → HasRoom x b0 → EmitsAll x ts (exprs_of es) b0 b1 rs → Computes x (Shows t) (rtype_of t) (means x e) b1 b2 r.0 → EmitsAll x (ts ++ t ∷ []) (exprs_of (es ++ e ∷ [])) b0 b2 (rs ++ r ∷ [])
snoc_emitted x ts t es e b0 b1 b2 rs r room q c =
    let k1 = q.extends.blocks_grow in
    let l1 = q.extends.regs_grow in
    let l2 = c.extends.regs_grow in
    record {
      extends = extends_trans b0 b1 b2 q.extends c.extends;
      types = types_snoc b2.regs ts t rs r (types_kept b1 b2 ts rs c.extends q.types) c.type;
      runs = λ p fn h at n calls regs below s match le.
          let p1 = placed_part p fn b0 b0 b1 b2 h (le_refl _) c.extends at in
          let p2 = placed_part p fn b0 b1 b2 b2 h k1 (extends_refl b2) at in
          let R = ArrivesAll (ts ++ t ∷ []) fn (length b2.blocks) (length b2.ops) below (length b0.regs) regs s (rs ++ r ∷ []) in
          ends_of p s.turns _ _ _ R (IsThrown fn h below x (length b0.regs) regs) (snoc_means x n es e s)
          (computes_all_then p fn h below x n calls ts (means_all x (exprs_of es)) b0 b1 rs regs s _ R (length b0.regs) regs q p1 room (le_refl _) (λ j i z o. refl) match le
          (λ now vs s1 le1 shows kept same1 match1. computes_then p fn h below x n calls (Shows t) (rtype_of t) (means x e) b1 b2 r.0 now s1 _ R (length b0.regs) regs c p2 (room_on x b0 b1 q.extends room) l1 (λ j i z o. kept j z) match1 le1
          (λ now2 v s2 le2 shows2 kept2 same2 match2.
          ends_now p (vs ++ v ∷ []) s2 _ R (IsThrown fn h below x (length b0.regs) regs) record { now = now2; is = refl; shows = show_snoc ts t vs v now2 rs r (show_kept b1 ts vs rs now now2 q.types kept2 shows) shows2; kept = λ j lt. kept2 j (omega arith) ∙ kept j lt; same = same2 ∙ same1 })));
    }

-- one turn of a loop over expressions
pub turn_emitted : (x : Setting) (ts : List Sort) (t : Sort) (es : List TExpr) (i : ℕ) (e : TExpr) (b0 b1 b2 : Building) (rs rs' : List Reg) (r : Reg) → i < length es → e ≡ get_or es i e → HasRoom x b0 → EmitsAll x ts (exprs_of (map typed_expr (take i es))) b0 b1 rs → Computes x (Shows t) (rtype_of t) (means x (typed_expr e)) b1 b2 r.0 → rs' ≡ rs ++ r ∷ [] → EmitsAll x (ts ++ t ∷ []) (exprs_of (map typed_expr (take (i + 1) es))) b0 b2 rs'
turn_emitted x ts t es i e b0 b1 b2 rs rs' r lt is room q c new =
    rw (new, add-one, take-suc es i e lt, ← is, map_push typed_expr (take i es) e) (snoc_emitted x ts t (map typed_expr (take i es)) (typed_expr e) b0 b1 b2 rs r room q c)

-- over arguments
pub argument_emitted : (x : Setting) (es : List TExpr) (i : ℕ) (e : TExpr) (b0 b1 b2 : Building) (rs rs' : List Reg) (r : Reg) → i < length es → e ≡ get_or es i e → HasRoom x b0 → EmitsAll x (map type_of (map typed_expr (take i es))) (exprs_of (map typed_expr (take i es))) b0 b1 rs → Emits x (typed_expr e) b1 b2 r.0 → rs' ≡ rs ++ r ∷ [] → EmitsAll x (map type_of (map typed_expr (take (i + 1) es))) (exprs_of (map typed_expr (take (i + 1) es))) b0 b2 rs'
argument_emitted x es i e b0 b1 b2 rs rs' r lt is room q c new =
    let types : map type_of (map typed_expr (take (i + 1) es)) ≡ map type_of (map typed_expr (take i es)) ++ type_of (typed_expr e) ∷ [] = rw (add-one, take-suc es i e lt, ← is, map_push typed_expr (take i es) e, map_push type_of (map typed_expr (take i es)) (typed_expr e)) refl in
    let P : List Sort → Type 0 = λ ts. EmitsAll x ts (exprs_of (map typed_expr (take (i + 1) es))) b0 b2 rs' in
    subst P (sym types) (turn_emitted x (map type_of (map typed_expr (take i es))) (type_of (typed_expr e)) es i e b0 b1 b2 rs rs' r lt is room q c new)

-- and over what becomes objects
pub object_emitted : (x : Setting) (es : List TExpr) (i : ℕ) (e : TExpr) (b0 b1 b2 : Building) (rs rs' : List Reg) (r : Reg) → i < length es → e ≡ get_or es i e → HasRoom x b0 → EmitsAll x (objects rs) (exprs_of (map typed_expr (take i es))) b0 b1 rs → Computes x (Shows boxed) Ref (means x (typed_expr e)) b1 b2 r.0 → rs' ≡ rs ++ r ∷ [] → EmitsAll x (objects rs') (exprs_of (map typed_expr (take (i + 1) es))) b0 b2 rs'
object_emitted x es i e b0 b1 b2 rs rs' r lt is room q c new =
    let P : List Sort → Type 0 = λ ts. EmitsAll x ts (exprs_of (map typed_expr (take (i + 1) es))) b0 b2 rs' in
    subst P (sym (ap objects new ∙ map_push (λ (z : Reg). boxed) rs r)) (turn_emitted x (objects rs) boxed es i e b0 b1 b2 rs rs' r lt is room q c new)

module _ (m : TypedModule) (vs : List Variable) where
  pub argument_suits : (es : List TExpr) (i : ℕ) (e : TExpr) → i < length es → e ≡ get_or es i e → SomeSuit m vs (map typed_expr (drop i es)) → Suits m vs (typed_expr e) × SomeSuit m vs (map typed_expr (drop (i + 1) es))
  argument_suits es i e lt is h =
      let d : drop i es ≡ get_or es i e ∷ drop (i + 1) es = drop_more es i e lt in
      let P : List TExpr → Type 0 = λ l. SomeSuit m vs (map typed_expr l) in
      let both = subst P d h in
      (subst (λ z. Suits m vs (typed_expr z)) (sym is) both.0, both.1)

  pub all_suit : (ts : List Sort) (es : TypedExprs) → ArgumentsSuit m vs ts es → AllSuit m vs es
  all_suit [] no_exprs h = tt
  all_suit [] (expr_then e es) h = absurd h
  all_suit (t ∷ ts) no_exprs h = absurd h
  all_suit (t ∷ ts) (expr_then e es) h = (h.1, all_suit ts es h.2)

  pub suit_types : (ts : List Sort) (es : List TypedExpr) → ArgumentsSuit m vs ts (exprs_of es) → ts ≡ map type_of es
  suit_types [] [] h = refl
  suit_types [] (e ∷ es) h = absurd h
  suit_types (t ∷ ts) [] h = absurd h
  suit_types (t ∷ ts) (e ∷ es) h = ap (λ z. z ∷ ts) (sym h.0) ∙ ap (λ l. type_of e ∷ l) (suit_types ts es h.2)

-- arguments that were emitted from the left
pub record Passing (x : Setting) (es : List TExpr) (i : ℕ) (start b : Building) (rs : List Reg) : Type 0 where
  pub emitted : EmitsAll x (map type_of (map typed_expr (take i es))) (exprs_of (map typed_expr (take i es))) start b rs
  pub suits : SomeSuit x.source x.variables (map typed_expr (drop i es))

pub passing_none : (x : Setting) (es : List TExpr) (b : Building) → SomeSuit x.source x.variables (map typed_expr es) → Passing x es 0 b b []
passing_none x es b suits = record { emitted = none_emitted x b; suits = suits }

pub passing_on : (x : Setting) (es : List TExpr) (i : ℕ) (e : TExpr) (start b c : Building) (rs rs' : List Reg) (r : Reg) → i < length es → e ≡ get_or es i e → HasRoom x start → Passing x es i start b rs → Emits x (typed_expr e) b c r.0 → rs' ≡ rs ++ r ∷ [] → Passing x es (i + 1) start c rs'
passing_on x es i e start b c rs rs' r lt is room g one new = record {
  emitted = argument_emitted x es i e start b c rs rs' r lt is room g.emitted one new;
  suits = (argument_suits x.source x.variables es i e lt is g.suits).1;
}

pub passing_ends : (x : Setting) (es : List TExpr) (i : ℕ) (start b : Building) (rs : List Reg) → length es ≤ i → Passing x es i start b rs → EmitsAll x (map type_of (map typed_expr es)) (exprs_of (map typed_expr es)) start b rs
passing_ends x es i start b rs le g =
    let P : List TExpr → Type 0 = λ z. EmitsAll x (map type_of (map typed_expr z)) (exprs_of (map typed_expr z)) start b rs in
    subst P (take_all i es le) g.emitted

-- expressions whose values are objects, from the left
pub record Holding (x : Setting) (es : List TExpr) (i : ℕ) (start b : Building) (rs : List Reg) : Type 0 where
  pub emitted : EmitsAll x (objects rs) (exprs_of (map typed_expr (take i es))) start b rs
  pub suits : SomeSuit x.source x.variables (map typed_expr (drop i es))
  pub count : length rs ≡ i

pub holding_none : (x : Setting) (es : List TExpr) (b : Building) → SomeSuit x.source x.variables (map typed_expr es) → Holding x es 0 b b []
holding_none x es b suits = record { emitted = none_emitted x b; suits = suits; count = refl }

pub holding_on : (x : Setting) (es : List TExpr) (i : ℕ) (e : TExpr) (start b c : Building) (rs rs' : List Reg) (r : Reg) → i < length es → e ≡ get_or es i e → HasRoom x start → Holding x es i start b rs → Computes x (Shows boxed) Ref (means x (typed_expr e)) b c r.0 → rs' ≡ rs ++ r ∷ [] → Holding x es (i + 1) start c rs'
holding_on x es i e start b c rs rs' r lt is room g one new = record {
  emitted = object_emitted x es i e start b c rs rs' r lt is room g.emitted one new;
  suits = (argument_suits x.source x.variables es i e lt is g.suits).1;
  count = ap length new ∙ length-append rs (r ∷ []) ∙ ap (λ n. n + 1) g.count;
}

pub holding_ends : (x : Setting) (es : List TExpr) (i : ℕ) (start b : Building) (rs : List Reg) → length es ≤ i → Holding x es i start b rs → EmitsAll x (objects rs) (exprs_of (map typed_expr es)) start b rs
holding_ends x es i start b rs le g =
    let P : List TExpr → Type 0 = λ z. EmitsAll x (objects rs) (exprs_of (map typed_expr z)) start b rs in
    subst P (take_all i es le) g.emitted

pub count_is : (es : List TypedExpr) → count_of (exprs_of es) ≡ length es
count_is [] = refl
count_is (e ∷ es) = ap suc (count_is es)

pub holding_count : (x : Setting) (es : List TExpr) (i : ℕ) (start b : Building) (rs : List Reg) → i ≤ length es → length es ≤ i → Holding x es i start b rs → length rs ≡ count_of (exprs_of (map typed_expr es))
holding_count x es i start b rs low high g =
    let n : i ≡ length es = omega (arith, low, high) in
    g.count ∙ n ∙ sym (count_is (map typed_expr es) ∙ length-map es typed_expr)

-- the value of an expression as an object
pub boxed_value : {x : Setting} (e : TExpr) (b c : Building) {r : ℕ} → Emits x (typed_expr e) b c r → HasType c r (rtype_of (sort_of e.ty))
boxed_value {x} e b c {r} q = subst (λ t. HasType c r (rtype_of t)) (type_at e) q.type

pub boxed_emits : (x : Setting) (e : TExpr) (b c d : Building) (q r : ℕ) → HasRoom x b → Emits x (typed_expr e) b c q → Attempts (Shows (sort.Optional (sort_of e.ty))) c d r Ref (ActsOn (sort_of e.ty) q give) → Computes x (Shows boxed) Ref (means x (typed_expr e)) b d r
boxed_emits x e b c d q r room one made =
    let t = type_of (typed_expr e) in
    let P : Sort → Type 0 = λ u. Attempts (Shows (sort.Optional u)) c d r Ref (ActsOn u q give) in
    let made : Attempts (Shows (sort.Optional t)) c d r Ref (ActsOn t q give) = subst P (sym (type_at e)) made in
    let both = part_attempts x (Shows t) (Shows (sort.Optional t)) (rtype_of t) Ref (means x (typed_expr e)) give (ActsOn t q give) b c d q r room one made (λ v s regs k. record { v = v; shows = k; does = refl }) in
    shown_as x (Shows (sort.Optional t)) (Shows boxed) Ref (means x (typed_expr e)) b d r (λ v h k. (k.0, tt)) (computes_of x (Shows (sort.Optional t)) Ref (λ n s. on_to (means x (typed_expr e) n s) give) (means x (typed_expr e)) b d r (λ n s. given_on (means x (typed_expr e) n s)) both)
