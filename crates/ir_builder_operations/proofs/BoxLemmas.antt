-- Values as objects, and objects as values of a type: by one operation, or as they are.
use Rattle.ir_builder_operations.proofs.Common.{◌≡◌, refl, sym, subst, true, [], ◌∷◌, Some, None, inl, inr, Value, IntVal, BoolVal, StrVal, NoneVal, Sort, State, give, needs, Bool, false, Reg, Declared, type_of_reg, Building, rtype_of, HasType, HasKind, Shows, HaveTypes, Attempts, ActsOnAll, Boxing, Unboxing, boxed, is_of, taken_as, ActsOn, operands_of, result_of, goes, unboxed_in}
use Rattle.ir_core.specs.declared.code.RType.TheVariants.{Ref}
use Rattle.py_typed.specs.Sorts as sort
use Rattle.ir_builder_operations.specs.declared.operation.Unboxed.{Unboxed}
use Rattle.ir_builder_operations.specs.declared.operation.Unboxed.TheVariants as unboxed
use Rattle.ir_builder_operations.proofs.PartLemmas.{as_one, IsItself, stays_as}

-- a type whose values are no objects is one of these
by_unboxed : (P : Sort → Unboxed → Type 0) → P sort.Int unboxed.Int → P sort.I64 unboxed.Native → P sort.Bool unboxed.Bool → (t : Sort) (u : Unboxed) → unboxed_in t ≡ Some u → P t u
by_unboxed P f g h sort.Int u e = let k : Some unboxed.Int ≡ Some u = e in subst (P sort.Int) (cc) f
by_unboxed P f g h sort.I64 u e = let k : Some unboxed.Native ≡ Some u = e in subst (P sort.I64) (cc) g
by_unboxed P f g h sort.Bool u e = let k : Some unboxed.Bool ≡ Some u = e in subst (P sort.Bool) (cc) h
by_unboxed P f g h t u e = let k : None ≡ Some u = e in absurd (cc)

-- ---- as an object

pub boxing_ready : (t : Sort) (u : Unboxed) → unboxed_in t ≡ Some u → (regs : Declared) (x : Reg) → type_of_reg regs x ≡ Some (rtype_of t) → HaveTypes regs (operands_of (Boxing u)) (x ∷ [])
boxing_ready = by_unboxed (λ t u. (regs : Declared) (x : Reg) → type_of_reg regs x ≡ Some (rtype_of t) → HaveTypes regs (operands_of (Boxing u)) (x ∷ [])) (λ regs x is. (is, tt)) (λ regs x is. (is, tt)) (λ regs x is. (is, tt))

pub boxing_attempts : (t : Sort) (u : Unboxed) → unboxed_in t ≡ Some u → (b c : Building) (r : Reg) (x : Reg) → Attempts (Shows (result_of (Boxing u))) b c r.0 (rtype_of (result_of (Boxing u))) (ActsOnAll (operands_of (Boxing u)) (x ∷ []) (goes (Boxing u))) → Attempts (Shows (sort.Optional t)) b c r.0 Ref (ActsOn t x.0 give)
boxing_attempts = by_unboxed (λ t u. (b c : Building) (r : Reg) (x : Reg) → Attempts (Shows (result_of (Boxing u))) b c r.0 (rtype_of (result_of (Boxing u))) (ActsOnAll (operands_of (Boxing u)) (x ∷ []) (goes (Boxing u))) → Attempts (Shows (sort.Optional t)) b c r.0 Ref (ActsOn t x.0 give))
    (λ b c r x a. as_one sort.Int (sort.Optional sort.Int) give b c r.0 x a) (λ b c r x a. as_one sort.I64 (sort.Optional sort.I64) give b c r.0 x a) (λ b c r x a. as_one sort.Bool (sort.Optional sort.Bool) give b c r.0 x a)

-- ---- as a value of a type

pub unboxing_attempts : (t : Sort) (u : Unboxed) → unboxed_in t ≡ Some u → (b c : Building) (r : Reg) (x : Reg) → Attempts (Shows (result_of (Unboxing u))) b c r.0 (rtype_of (result_of (Unboxing u))) (ActsOnAll (operands_of (Unboxing u)) (x ∷ []) (goes (Unboxing u))) → Attempts (Shows t) b c r.0 (rtype_of t) (ActsOn boxed x.0 (taken_as t))
unboxing_attempts = by_unboxed (λ t u. (b c : Building) (r : Reg) (x : Reg) → Attempts (Shows (result_of (Unboxing u))) b c r.0 (rtype_of (result_of (Unboxing u))) (ActsOnAll (operands_of (Unboxing u)) (x ∷ []) (goes (Unboxing u))) → Attempts (Shows t) b c r.0 (rtype_of t) (ActsOn boxed x.0 (taken_as t)))
    (λ b c r x a. as_one boxed sort.Int (taken_as sort.Int) b c r.0 x a) (λ b c r x a. as_one boxed sort.I64 (taken_as sort.I64) b c r.0 x a) (λ b c r x a. as_one boxed sort.Bool (taken_as sort.Bool) b c r.0 x a)

-- ---- as it is

-- the types whose values are objects
pub object_type : (t : Sort) → unboxed_in t ≡ None → rtype_of t ≡ Ref
object_type sort.Int e = absurd (cc)
object_type sort.I64 e = absurd (cc)
object_type sort.Bool e = absurd (cc)
object_type t e = refl

pub boxing_stays : (t : Sort) (b : Building) (x : Reg) → unboxed_in t ≡ None → HasType b x.0 (rtype_of t) → Attempts (Shows (sort.Optional t)) b b x.0 Ref (ActsOn t x.0 give)
boxing_stays t b x e is = stays_as t (sort.Optional t) give b x.0 Ref (subst (HasType b x.0) (object_type t e) is) (λ v s k. inr (refl, inr k))

-- it has the kind of the type
kind_of : (t : Sort) (v : Value) → is_of t v ≡ true → HasKind t v
kind_of sort.Int (IntVal n) e = (n, refl)
kind_of sort.Int v e = absurd (cc)
kind_of sort.I64 (IntVal n) e = (n, refl, e)
kind_of sort.I64 v e = absurd (cc)
kind_of sort.Bool (BoolVal b) e = (b, refl)
kind_of sort.Bool v e = absurd (cc)
kind_of sort.Str (StrVal text) e = (text, refl)
kind_of sort.Str v e = absurd (cc)
kind_of sort.Nothing NoneVal e = refl
kind_of sort.Nothing v e = absurd (cc)
kind_of (sort.Optional t) NoneVal e = inl refl
kind_of (sort.Optional t) v e = inr (kind_of t v e)
kind_of t v e = tt

taken_by : (t : Sort) (v : Value) (s : State) (b : Bool) → is_of t v ≡ b → IsItself t v s (needs b (give v) s)
taken_by t v s true e = inr (refl, kind_of t v e)
taken_by t v s false e = inl (s, refl)

pub taken_itself : (t : Sort) (v : Value) (s : State) → IsItself t v s (taken_as t v s)
taken_itself t v s = taken_by t v s (is_of t v) refl

pub unboxing_stays : (t : Sort) (b : Building) (x : Reg) → unboxed_in t ≡ None → HasType b x.0 Ref → Attempts (Shows t) b b x.0 (rtype_of t) (ActsOn boxed x.0 (taken_as t))
unboxing_stays t b x e is = stays_as boxed t (taken_as t) b x.0 (rtype_of t) (subst (HasType b x.0) (sym (object_type t e)) is) (λ v s k. taken_itself t v s)
