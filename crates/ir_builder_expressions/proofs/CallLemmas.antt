-- Calls, and their arguments from the left.
use Rattle.ir_builder_expressions.proofs.Common.{◌≡◌, refl, sym, ◌∙◌, ap, subst, ℕ, suc, ◌+◌, ◌<◌, arith, le_refl, true, false, List, [], ◌∷◌, length, map, Option, Some, None, slice_get, ◌&&◌, option_map, option_and_then, Value, Span, Sort, TypedFunc, typed, Call, TypedExprs, State, RType, I64, Ref, Reg, Program, Declared, type_of_reg, Held, Holds, error_of, is_error, Regs, put, first_regs, Building, Waiting, Leaves, Strict, read_all, is_type, are_types, is_fit, is_tested, away, registers_of, item_at, handler_at, step, put_same, put_other, call_step, Setting, rtype_of, Has, Adds, world, running, returning, HasRoom, IsThrown, parameter_sorts, BeginWith, HasHead, Arrives, ShowAll, HaveTypes, extends_refl, extends_trans, type_has, has_less, adds_has, placed_part, guard_at, leads_refl, leads_step, ends_both, ends_from, read_is, room_on, match_kept, thrown_now, computes_all_then, failed_off, HasKind, Showing, means_all, Emits, EmitsAll}
use Rattle.std.proofs.lemmas.Bool.{eq-eqb}
use Rattle.value_core.specs.Exceptions.{Thrown}
use Rattle.ir_builder_frames.specs.Watching.{calls_in}
use Rattle.ir_builder_frames.proofs.WatchLemmas.{looked_at}
use Rattle.ir_core.specs.declared.code.RType.TheVariants.{Int, Bool as BoolType}
use Rattle.ir_core.specs.declared.code.Op.TheVariants as op
use Rattle.ir_core.specs.declared.code.Func.{Func}

-- ---- what a call needs

all_read : (declared : Declared) (regs : Regs) (ts : List Sort) (vs : List Value) (rs : List Reg) → HaveTypes declared ts rs → ShowAll ts vs regs rs → read_all declared regs rs ≡ Some (map Holds vs)
all_read declared regs [] [] [] h s = refl
all_read declared regs [] (v ∷ vs) [] h s = absurd s
all_read declared regs [] vs (r ∷ rs) h s = absurd h
all_read declared regs (t ∷ ts) vs [] h s = absurd h
all_read declared regs (t ∷ ts) [] (r ∷ rs) h s = absurd s
all_read declared regs (t ∷ ts) (v ∷ vs) (r ∷ rs) h s =
    ap (λ o. option_and_then (λ u. option_map (λ us. Holds u ∷ us) (read_all declared regs rs)) o) (read_is declared regs r.0 (rtype_of t) v h.0 s.0.0)
    ∙ ap (option_map (λ us. Holds v ∷ us)) (all_read declared regs ts vs rs h.1 s.1)

own_type : (t : RType) → is_type t (Some t) ≡ true
own_type Int = refl
own_type I64 = refl
own_type BoolType = refl
own_type Ref = refl

is_type_by : (t u : RType) (o : Option RType) → t ≡ u → o ≡ Some u → is_type t o ≡ true
is_type_by t u o e f = ap (λ z. is_type z o) e ∙ ap (is_type u) f ∙ own_type u

types_fit : (declared ds : Declared) (ts : List Sort) (rs : List Reg) → HaveTypes declared ts rs → BeginWith ds ts → are_types declared rs ds ≡ true
types_fit declared ds [] [] h b = refl
types_fit declared ds [] (r ∷ rs) h b = absurd h
types_fit declared ds (t ∷ ts) [] h b = absurd h
types_fit declared [] (t ∷ ts) (r ∷ rs) h b = absurd b
types_fit declared (d ∷ ds) (t ∷ ts) (r ∷ rs) h b =
    ap (λ z. z && are_types declared rs ds) (is_type_by d.1 (rtype_of t) (type_of_reg declared r) b.0 h.0) ∙ types_fit declared ds ts rs h.1 b.1

types_length : (declared : Declared) (ts : List Sort) (rs : List Reg) → HaveTypes declared ts rs → length rs ≡ length ts
types_length declared [] [] h = refl
types_length declared [] (r ∷ rs) h = absurd h
types_length declared (t ∷ ts) [] h = absurd h
types_length declared (t ∷ ts) (r ∷ rs) h = ap suc (types_length declared ts rs h.1)

call_is_fit : (declared : Declared) (h : Func) (g : TypedFunc) (into : Reg) (rs : List Reg) → HasHead h g → HaveTypes declared (parameter_sorts g) rs → type_of_reg declared into ≡ Some (rtype_of g.ret) → is_fit declared into rs h ≡ true
call_is_fit declared h g into rs head types result =
    ap (λ z. z && (are_types declared rs h.regs && is_type h.ret (type_of_reg declared into))) (eq-eqb (length rs) h.params (types_length declared (parameter_sorts g) rs types ∙ sym head.params))
    ∙ ap (λ z. z && is_type h.ret (type_of_reg declared into)) (types_fit declared h.regs (parameter_sorts g) rs types head.regs)
    ∙ is_type_by h.ret (rtype_of g.ret) (type_of_reg declared into) head.ret result

types_has : (p : Program) (fn : ℕ) (b : Building) (ts : List Sort) (rs : List Reg) → Has p fn b → HaveTypes b.regs ts rs → HaveTypes (registers_of p fn) ts rs
types_has p fn b [] [] has h = tt
types_has p fn b [] (r ∷ rs) has h = absurd h
types_has p fn b (t ∷ ts) [] has h = absurd h
types_has p fn b (t ∷ ts) (r ∷ rs) has h = (type_has p fn b r.0 (rtype_of t) has h.0, types_has p fn b ts rs has h.1)

-- ---- how a call is left

error_is : (t : RType) → is_error t (error_of t) ≡ true
error_is Int = refl
error_is I64 = refl
error_is BoolType = refl
error_is Ref = refl

module _ (p : Program) where
  -- an exception leaves a function, and comes to its caller
  leaves_step : (g : ℕ) (h : Func) (fn k i : ℕ) (regs : Regs) (into : ℕ) (t : RType) (below : List Waiting) (e : Thrown) (s : State) → slice_get p.funcs g ≡ Some h → type_of_reg (registers_of p fn) (record { 0 = into }) ≡ Some t → is_tested (record { 0 = into }) (item_at p fn k (i + 1)) ≡ false → step Strict p (Leaves g (record { frame = record { fn = fn; block = k; place = i; regs = regs }; into = record { 0 = into } } ∷ below) (world (Some e) s)) ≡ away (handler_at p fn k) (record { fn = fn; block = k; place = i + 1; regs = put regs into (error_of t) }) below (world (Some e) s)
  leaves_step g h fn k i regs into t below e s there type edge =
      rw (there, error_is h.ret, type) (failed_off p (Some t) (record { 0 = into }) (record { fn = fn; block = k; place = i + 1; regs = put regs into (error_of t) }) below (world (Some e) s) edge)

pub call_emits : {line : ℕ} (x : Setting) (f : ℕ) (g : TypedFunc) (es : TypedExprs) (place : Span) (b0 b1 b2 : Building) (rs : List Reg) (r : ℕ) → slice_get x.source.funcs f ≡ Some g → HasRoom x b0 → EmitsAll x (parameter_sorts g) es b0 b1 rs → Adds b1 b2 r (rtype_of g.ret) (op.Call record { 0 = r } f rs) line → Emits x (typed (Call f es) g.ret place) b0 b2 r
call_emits x f g es place b0 b1 b2 rs r is room q a =
    let k1 = q.extends.blocks_grow in
    let l1 = q.extends.regs_grow in
    let K : Showing = λ v h. HasKind g.ret v → h ≡ Holds v in
    looked_at x K (Call f es) g.ret place b0 b2 r (λ v h kind k. k kind) record {
      extends = extends_trans b0 b1 b2 q.extends a.extends;
      type = a.type;
      runs = λ p fn h at n calls regs below s match le.
          let has1 = has_less p fn b1 b2 a.extends at.has in
          let p1 = placed_part p fn b0 b0 b1 b2 h (le_refl _) a.extends at in
          let p2 = placed_part p fn b0 b1 b2 b2 h k1 (extends_refl b2) at in
          let R = Arrives K fn (length b2.blocks) (length b2.ops) below (length b0.regs) regs s r in
          let T = IsThrown fn h below x (length b0.regs) regs in
          let target = type_has p fn b2 r (rtype_of g.ret) at.has a.type in
          computes_all_then p fn h below x n calls (parameter_sorts g) (means_all x es) b0 b1 rs regs s (calls_in x.source n f) R (length b0.regs) regs q p1 room (le_refl _) (λ j i z o. refl) match le
          (λ now vs s1 le1 shows kept same1 match1.
          let code = calls.there f g is in
          let waits : Waiting = record { frame = record { fn = fn; block = length b1.blocks; place = length b1.ops; regs = now }; into = record { 0 = r } } in
          let types = types_has p fn b1 (parameter_sorts g) rs has1 q.types in
          let at_call = adds_has p fn b1 b2 r (rtype_of g.ret) _ a at.has in
          let enter = call_step Strict p (record { fn = fn; block = length b1.blocks; place = length b1.ops; regs = now }) below (world None s1) (record { 0 = r }) f rs code.0 (map Holds vs) at_call refl code.1 (all_read (registers_of p fn) now (parameter_sorts g) vs rs types shows) (call_is_fit (registers_of p fn) code.0 g (record { 0 = r }) rs code.2 types target) in
          let body = calls.each f g code.0 vs (waits ∷ below) s1 is code.1 le1 in
          let here = guard_at p fn b1 b2 h (let z = a.blocks in omega arith) p2 (length b1.blocks) (sym a.blocks) in
          let put_kept : (w : Held) (j : ℕ) → j < length b1.regs → put now r w j ≡ now j = λ w j lt. put_other now r j w (let z = a.made in λ e. omega arith) in
          let edge = at.has.edges.each _ _ r _ _ at_call refl in
          ends_from p s1.turns s1.turns _ (running f 0 0 (first_regs code.0.regs (map Holds vs)) (waits ∷ below) (world None s1)) (calls_in x.source n f vs s1) R T (le_refl _) (leads_step p _ _ enter)
          (ends_both p s1.turns _ (calls_in x.source n f vs s1) _ R _ T
          (λ v s2 d c.
          let back : returning p c.0 (waits ∷ below) (world None s2) ≡ running fn (length b1.blocks) (length b1.ops + 1) (put now r (Holds c.0)) below (world None s2) = rw target refl in (
            d,
            leads_refl p d,
            record {
              now = put now r (Holds c.0);
              is = c.3 ∙ back ∙ rw (a.blocks, a.ops) refl;
              shows = λ kind. put_same now r (Holds c.0) ∙ ap Holds (c.1 kind);
              kept = λ j lt. put_kept (Holds c.0) j (omega arith) ∙ kept j lt;
              same = c.2 ∙ same1;
            },
          ))
          (λ v s2 d c.
          let gone = c.1 in
          let out = leaves_step p f code.0 fn (length b1.blocks) (length b1.ops) now r (rtype_of g.ret) below gone.0 s2 code.1 target edge in
          let w : Held = error_of (rtype_of g.ret) in
          let match2 = match_kept x b1 now (put now r w) s1 s2 (room_on x b0 b1 q.extends room) (λ j lt. put_kept w j (let z = room.top in omega arith)) c.0 match1 in (
            away (handler_at p fn (length b1.blocks)) (record { fn = fn; block = length b1.blocks; place = length b1.ops + 1; regs = put now r w }) below (world (Some gone.0) s2),
            record { count = 1; is = ap (step Strict p) gone.2 ∙ out },
            let P : Value → Type 0 = λ y. IsThrown fn h below x (length b0.regs) regs y s2 (away (handler_at p fn (length b1.blocks)) (record { fn = fn; block = length b1.blocks; place = length b1.ops + 1; regs = put now r w }) below (world (Some gone.0) s2)) in
                subst P (sym gone.1) (thrown_now p fn (length b1.blocks) (length b1.ops + 1) h below x (length b0.regs) regs (put now r w) gone.0 s2 here match2 (λ j i lt o. put_kept w j (omega arith) ∙ kept j lt)),
          )) body));
    }
