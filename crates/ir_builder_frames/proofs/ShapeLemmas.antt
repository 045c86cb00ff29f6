-- Where ends go, while code is added and ends are written.
use Rattle.ir_builder_frames.proofs.Common.{◌≡◌, ℕ, zero, suc, ◌+◌, ◌≤◌, List, [], ◌∷◌, ◌++◌, length, Some, Option, None, refl, sym, subst, arith, Block, Op, Last, Goto, If, IfError, Return, Unreachable, Reg, PArg, Var, Text, Prim, Number, Primitive, Parameter, Is, Borrows, Steals, MaySteal, TakesNumber, TakesText, TakesDecimal, RType, Declared, Surrounding, row_of, Bool, true, false, ne_eqb, IsTrue, ◌&&◌, ◌||◌, not, list_any, ap, ◌∙◌, ◌⊎◌, inl, inr, Do, End, in_block, ended_block, held_in, with_last, IsOf, IsOfKind, AreArguments, Take, Answers, ReadsGlobal}
use Rattle.c_core.specs.Primitives.{Outcome}
use Rattle.c_core.specs.declared.code.Kind.{Kind}
use Rattle.c_core.specs.declared.primitive.Primitive.TheVariants as prim
use Rattle.c_core.specs.declared.primitive.GlobalPrim.TheVariants as global
use Rattle.ir_core.specs.Items.{handler_of}
use Rattle.ir_core.specs.Shape.{is_target_of, is_register, is_argument, op_fits, OpsFit}
use Rattle.ir_builder_frames.specs.Shaped.{EndFits, PatchFits, HandlerFits, AllFit}
use Rattle.ir_builder_frames.proofs.HeldLemmas.{declared_below}

-- ---- blocks up to a higher one may be named

end_higher : (m n k : ℕ) (ops : List (Op × ℕ)) (l : Last) → m ≤ n → EndFits m k ops l → EndFits n k ops l
end_higher m n k ops (Goto t) le e = let z = e.1 in (e.0, omega arith)
end_higher m n k ops (If r a b) le e =
    let y = e.0.1 in
    let z = e.1.1 in
    ((e.0.0, omega arith), (e.1.0, omega arith))
end_higher m n k ops (IfError r a b line) le e =
    let y = e.1.1 in
    let z = e.2.1 in
    (e.0, (e.1.0, omega arith), (e.2.0, omega arith))
end_higher m n k ops (Return r) le e = tt
end_higher m n k ops Unreachable le e = tt

handler_higher : (m n k : ℕ) (h : Option ℕ) → m ≤ n → HandlerFits m k h → HandlerFits n k h
handler_higher m n k None le e = tt
handler_higher m n k (Some h) le e = let z = e.1 in (e.0, omega arith)

pub all_higher : (m n k : ℕ) (bs : List Block) → m ≤ n → AllFit m k bs → AllFit n k bs
all_higher m n k [] le a = tt
all_higher m n k (b ∷ bs) le a = (end_higher m n k b.ops b.last le a.0, a.1, handler_higher m n k (handler_of b) le a.2, all_higher m n (suc k) bs le a.3)

-- ---- code that is added

pub ops_fit_behind : (os : List (Op × ℕ)) (o : Op × ℕ) → IsTrue (op_fits o.0) → OpsFit os → OpsFit (os ++ o ∷ [])
ops_fit_behind [] o a f = (a, tt)
ops_fit_behind (q ∷ os) o a f = (f.0, ops_fit_behind os o a f.1)

fit_more : (m k : ℕ) (bs : List Block) (ops : List (Op × ℕ)) (l : Last) → EndFits m (k + length bs) ops l → OpsFit ops → AllFit m k bs → AllFit m k (bs ++ ended_block ops l ∷ [])
fit_more m k [] ops l e o a = (subst (λ j. EndFits m j ops l) (let q : k + 0 ≡ k = omega arith in q) e, o, tt, tt)
fit_more m k (b ∷ bs) ops l e o a = (a.0, a.1, a.2, fit_more m (suc k) bs ops l (subst (λ j. EndFits m j ops l) (let q : k + suc (length bs) ≡ suc k + length bs = omega arith in q) e) o a.3)

pub closed_fits : (m : ℕ) (bs : List Block) (ops : List (Op × ℕ)) (l : Last) → EndFits m (length bs) ops l → OpsFit ops → AllFit m 0 bs → AllFit m 0 (bs ++ ended_block ops l ∷ [])
closed_fits m bs ops l e o a = fit_more m 0 bs ops l (subst (λ k. EndFits m k ops l) (let q : length bs ≡ 0 + length bs = omega arith in q) e) o a

-- ---- an end that is written

nothing_before : (os : List (Op × ℕ)) (a x : Last) → in_block os a 0 ≡ Some (End x) → os ≡ []
nothing_before [] a x e = refl
nothing_before (o ∷ os) a x e = let f : Some (Do o.0 o.1) ≡ Some (End x) = e in absurd (cc)

end_patched : (m k : ℕ) (os : List (Op × ℕ)) (a l : Last) → PatchFits m k (in_block os a 0) l → EndFits m k os l
end_patched m k os a (Goto t) g = (inl g.0, g.1)
end_patched m k os a (If r x y) g = g
end_patched m k os a (IfError r x y line) g = (nothing_before os a Unreachable g.0, g.1, g.2)
end_patched m k os a (Return r) g = tt
end_patched m k os a Unreachable g = tt

fit_patched : (m i : ℕ) (bs : List Block) (os : List (Op × ℕ)) (k : ℕ) (l : Last) → PatchFits m (i + k) (held_in bs os k 0) l → AllFit m i bs → AllFit m i (with_last bs k l)
fit_patched m i [] os k l g a = tt
fit_patched m i (b ∷ bs) os zero l g a = (end_patched m i b.ops b.last l (subst (λ j. PatchFits m j (in_block b.ops b.last 0) l) (let q : i + 0 ≡ i = omega arith in q) g), a.1, a.2, a.3)
fit_patched m i (b ∷ bs) os (suc k) l g a = (a.0, a.1, a.2, fit_patched m (suc i) bs os k l (subst (λ j. PatchFits m j (held_in bs os k 0) l) (let q : i + suc k ≡ suc i + k = omega arith in q) g) a.3)

pub patched_fits : (m : ℕ) (bs : List Block) (os : List (Op × ℕ)) (k : ℕ) (l : Last) → PatchFits m k (held_in bs os k 0) l → AllFit m 0 bs → AllFit m 0 (with_last bs k l)
patched_fits m bs os k l g a = fit_patched m 0 bs os k l (subst (λ j. PatchFits m j (held_in bs os k 0) l) (let q : k ≡ 0 + k = omega arith in q) g) a

-- ---- operations whose result is a new register

both_true : (a b : Bool) → IsTrue a → b ≡ true → IsTrue (a && b)
both_true true b h e = e
both_true false b h e = h

module _ (regs : Declared) (r : Reg) (new : r.0 ≡ length regs) where
  other_than : (x : Reg) (t : RType) → IsOf regs x t → is_register r x ≡ false
  other_than x t e = let lt = declared_below regs x.0 t e in ne_eqb r.0 x.0 (λ same. omega (arith, new))

  none_before : (x : Reg) (k : Kind) (args : List PArg) → IsOfKind regs x k → list_any (is_argument r) args ≡ false → list_any (is_argument r) (Var x ∷ args) ≡ false
  none_before x k args h rest = ap (λ b. b || list_any (is_argument r) args) (other_than x h.type h.is) ∙ rest

  none_is : (ps : List Parameter) (args : List PArg) → AreArguments regs ps args → list_any (is_argument r) args ≡ false
  none_is [] [] h = refl
  none_is (Borrows (Is k) holding ∷ ps) (Var x ∷ args) h = none_before x k args h.0 (none_is ps args h.1)
  none_is (Steals (Is k) holding ∷ ps) (Var x ∷ args) h = none_before x k args h.0 (none_is ps args h.1)
  none_is (MaySteal (Is k) holding ∷ ps) (Var x ∷ args) h = none_before x k args h.0 (none_is ps args h.1)
  none_is (MaySteal k holding ∷ ps) [] h = refl
  none_is (TakesNumber ∷ ps) (Number n ∷ args) h = none_is ps args h.1
  none_is (TakesText ∷ ps) (Text text ∷ args) h = none_is ps args h.1
  none_is (TakesDecimal ∷ ps) (Text text ∷ args) h = none_is ps args h.2
  none_is ps args h = absurd h

  pub none_taken : (ts : List RType) (rs : List Reg) → Take regs ts rs → list_any (is_register r) rs ≡ false
  none_taken [] [] h = refl
  none_taken (t ∷ ts) (x ∷ rs) h = ap (λ b. b || list_any (is_register r) rs) (other_than x t h.0) ∙ none_taken ts rs h.1
  none_taken [] (x ∷ rs) h = absurd h
  none_taken (t ∷ ts) [] h = absurd h

  pub primitive_fits : (g : Surrounding) (t : RType) (q : Primitive) (args : List PArg) → (Answers t regs q args ⊎ ReadsGlobal g t q args) → IsTrue (op_fits (Prim (Some r) q args))
  primitive_fits g t q args (inl a) =
      both_true (is_target_of (row_of q).outcome (Some r)) (not (list_any (is_argument r) args)) (subst (λ (o : Outcome). IsTrue (is_target_of o (Some r))) (sym a.0) refl) (ap not (none_is _ args a.1))
  primitive_fits g t q args (inr w) =
      subst (λ (z : Primitive). IsTrue (op_fits (Prim (Some r) z args))) (sym w.reads) (subst (λ (zs : List PArg). IsTrue (op_fits (Prim (Some r) (prim.Global global.Get) zs))) (sym w.named) refl)
