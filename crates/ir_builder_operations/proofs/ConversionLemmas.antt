-- A value of one type as one of another type that it fits: of numbers and bools, as an object where it may be None, or as it is.
use Rattle.ir_builder_operations.proofs.Common.{◌≡◌, refl, sym, ap, ◌∙◌, subst, true, false, Some, None, inl, inr, Value, NoneVal, Sort, Outcome, State, Gives, Raises, Stops, on_to, give, coerced, is_whole, Reg, Building, rtype_of, HasType, HasKind, Shows, Attempts, ActsOn, unboxed_in}
use Rattle.ir_core.specs.declared.code.RType.TheVariants.{Ref}
use Rattle.std.specs.declared.alloc.Global.{Global}
use Rattle.std.specs.declared.boxed.Box.{Box}
use Rattle.py_typed.specs.Sorts as sort
use Rattle.py_typed.specs.Sorts.{sort as sort_of, sort_step}
use Rattle.py_typed.specs.declared.types.Ty.{Ty, roll-Ty, out-Ty, roll-out-Ty, fold-roll-Ty}
use Rattle.py_typed.specs.declared.types.Ty as declared
use Rattle.py_typed.specs.declared.types.Ty.TheVariants as variant
use Rattle.py_typed.specs.declared.types.Ty.TheOpen.{Ty-F}
use Rattle.py_typed.specs.Fits.{is_number}
use Rattle.ir_builder_operations.specs.declared.operation.Unboxed.{Unboxed}
use Rattle.ir_builder_operations.specs.Converting.{Converts, is_optional, is_flat}
use Rattle.ir_builder_operations.proofs.NativeLemmas.{native_kept}
use Rattle.ir_builder_operations.proofs.PartLemmas.{IsItself, stays_as}
use Rattle.ir_builder_operations.proofs.BoxLemmas.{object_type}
use Rattle.ir_builder_operations.proofs.KindLemmas.{by_int, by_i64}
use Rattle.ir_builder_operations.proofs.ThenLemmas.{attempts_then}

-- ---- whole numbers

pub whole_fits : (s t : Sort) → Converts s t → is_whole t ≡ true → is_number s ≡ true
whole_fits s sort.Int c e = c.1
whole_fits s sort.I64 c e = c.1
whole_fits s t c e = absurd (cc)

-- ---- other types that are never None

pub same_registers : (s t : Sort) → Converts s t → is_optional t ≡ false → is_whole t ≡ false → rtype_of s ≡ rtype_of t
same_registers s sort.Int c e f = absurd (cc)
same_registers s sort.I64 c e f = absurd (cc)
same_registers s (sort.Optional t) c e f = absurd (cc)
same_registers sort.Bool sort.Bool c e f = refl
same_registers s sort.Bool c e f = let g : false ≡ true = c.1 in absurd (cc)
same_registers sort.Int t c e f = let g : false ≡ true = c.1 in absurd (cc)
same_registers sort.I64 t c e f = let g : false ≡ true = c.1 in absurd (cc)
same_registers sort.Bool t c e f = let g : false ≡ true = c.1 in absurd (cc)
same_registers s t c e f = refl

kept_itself : (s t : Sort) → Converts s t → is_optional t ≡ false → is_whole t ≡ false → (v : Value) (u : State) → HasKind s v → IsItself t v u (coerced t v u)
kept_itself s sort.Int c e f v u k = absurd (cc)
kept_itself s sort.I64 c e f v u k = absurd (cc)
kept_itself s (sort.Optional t) c e f v u k = absurd (cc)
kept_itself sort.Bool sort.Bool c e f v u k = inr (refl, k)
kept_itself s sort.Bool c e f v u k = let g : false ≡ true = c.1 in absurd (cc)
kept_itself sort.Str sort.Str c e f v u k = inr (refl, k)
kept_itself s sort.Str c e f v u k = let g : false ≡ true = c.1 in absurd (cc)
kept_itself sort.Nothing sort.Nothing c e f v u k = inr (refl, k)
kept_itself s sort.Nothing c e f v u k = let g : false ≡ true = c.1 in absurd (cc)
kept_itself s t c e f v u k = inr (refl, tt)

pub plain_stays : (s t : Sort) (b : Building) (x : Reg) → Converts s t → is_optional t ≡ false → is_whole t ≡ false → HasType b x.0 (rtype_of s) → Attempts (Shows t) b b x.0 (rtype_of t) (ActsOn s x.0 (coerced t))
plain_stays s t b x c e f is = stays_as s t (coerced t) b x.0 (rtype_of t) (subst (HasType b x.0) (same_registers s t c e f) is) (kept_itself s t c e f)

-- ---- objects as values that may be None

none_kept : (t : Sort) → is_flat (sort.Optional t) ≡ true → (u : State) → coerced t NoneVal u ≡ Gives NoneVal u
none_kept (sort.Optional t) f u = absurd (cc)
none_kept t f u = refl

by_none : (t : Sort) → is_flat (sort.Optional t) ≡ true → (v : Value) (u : State) → v ≡ NoneVal → IsItself (sort.Optional t) v u (coerced t v u)
by_none t f v u k = subst (λ v. IsItself (sort.Optional t) v u (coerced t v u)) (sym k) (inr (none_kept t f u, inl refl))

-- None, or a value of a kind that is kept
either_kept : (t : Sort) → is_flat (sort.Optional t) ≡ true → ((v : Value) (u : State) → HasKind t v → coerced t v u ≡ Gives v u) → (v : Value) (u : State) → HasKind (sort.Optional t) v → IsItself (sort.Optional t) v u (coerced t v u)
either_kept t f keeps v u (inl k) = by_none t f v u k
either_kept t f keeps v u (inr k) = inr (keeps v u k, inr k)

int_kept : (v : Value) (u : State) → HasKind sort.Int v → coerced sort.Int v u ≡ Gives v u
int_kept v u k = by_int (λ z. coerced sort.Int z u ≡ Gives z u) (λ n. refl) v k

whole_kept : (v : Value) (u : State) → HasKind sort.I64 v → coerced sort.I64 v u ≡ Gives v u
whole_kept v u k = by_i64 (λ z. coerced sort.I64 z u ≡ Gives z u) (λ n f. native_kept n u f) v k

optional_itself : (s t : Sort) → unboxed_in s ≡ None → Converts s (sort.Optional t) → (v : Value) (u : State) → HasKind s v → IsItself (sort.Optional t) v u (coerced t v u)
optional_itself s (sort.Optional t) e c v u k = let g : false ≡ true = c.2 in absurd (cc)
optional_itself sort.Int t e c v u k = absurd (cc)
optional_itself sort.I64 t e c v u k = absurd (cc)
optional_itself sort.Bool t e c v u k = absurd (cc)
optional_itself sort.Nothing sort.Int e c v u k = by_none sort.Int refl v u k
optional_itself sort.Nothing sort.I64 e c v u k = by_none sort.I64 refl v u k
optional_itself sort.Nothing t e c v u k = inr (refl, inl k)
optional_itself (sort.Optional sort.Int) sort.Int e c v u k = either_kept sort.Int refl int_kept v u k
optional_itself (sort.Optional r) sort.Int e c v u k = let g : false ≡ true = c.1 in absurd (cc)
optional_itself s sort.Int e c v u k = let g : false ≡ true = c.1 in absurd (cc)
optional_itself (sort.Optional sort.I64) sort.I64 e c v u k = either_kept sort.I64 refl whole_kept v u k
optional_itself (sort.Optional r) sort.I64 e c v u k = let g : false ≡ true = c.1 in absurd (cc)
optional_itself s sort.I64 e c v u k = let g : false ≡ true = c.1 in absurd (cc)
optional_itself (sort.Optional sort.Bool) sort.Bool e c v u k = inr (refl, k)
optional_itself (sort.Optional r) sort.Bool e c v u k = let g : false ≡ true = c.1 in absurd (cc)
optional_itself s sort.Bool e c v u k = let g : false ≡ true = c.1 in absurd (cc)
optional_itself (sort.Optional sort.Str) sort.Str e c v u k = inr (refl, k)
optional_itself (sort.Optional r) sort.Str e c v u k = let g : false ≡ true = c.1 in absurd (cc)
optional_itself sort.Str sort.Str e c v u k = inr (refl, inr k)
optional_itself s sort.Str e c v u k = let g : false ≡ true = c.1 in absurd (cc)
optional_itself (sort.Optional sort.Nothing) sort.Nothing e c v u k = inr (refl, k)
optional_itself (sort.Optional r) sort.Nothing e c v u k = let g : false ≡ true = c.1 in absurd (cc)
optional_itself s sort.Nothing e c v u k = let g : false ≡ true = c.1 in absurd (cc)
optional_itself s t e c v u k = inr (refl, inr tt)

pub optional_stays : (s t : Sort) (b : Building) (x : Reg) → unboxed_in s ≡ None → Converts s (sort.Optional t) → HasType b x.0 (rtype_of s) → Attempts (Shows (sort.Optional t)) b b x.0 Ref (ActsOn s x.0 (coerced (sort.Optional t)))
optional_stays s t b x e c is = stays_as s (sort.Optional t) (coerced (sort.Optional t)) b x.0 Ref (subst (HasType b x.0) (object_type s e) is) (optional_itself s t e c)

-- ---- numbers and bools as values that may be None

pub plain_then : (s t : Sort) (u : Unboxed) → unboxed_in s ≡ Some u → Converts s (sort.Optional t) → Converts s t × (is_optional t ≡ false)
plain_then s (sort.Optional t) u e c = let g : false ≡ true = c.2 in absurd (cc)
plain_then sort.Int t u e c = ((c.0, c.1, refl), refl)
plain_then sort.I64 t u e c = ((c.0, c.1, refl), refl)
plain_then sort.Bool t u e c = ((c.0, c.1, refl), refl)
plain_then s t u e c = let g : None ≡ Some u = e in absurd (cc)

pub given_on : (r : Outcome Value) → r ≡ on_to r give
given_on (Gives v s) = refl
given_on (Raises v s) = refl
given_on (Stops w s) = refl

pub boxed_then : (s t : Sort) (a b c : Building) (x q r : Reg) → Attempts (Shows t) a b q.0 (rtype_of t) (ActsOn s x.0 (coerced t)) → Attempts (Shows (sort.Optional t)) b c r.0 Ref (ActsOn t q.0 give) → Attempts (Shows (sort.Optional t)) a c r.0 Ref (ActsOn s x.0 (coerced (sort.Optional t)))
boxed_then s t a b c x q r first second =
    attempts_then (Shows t) (Shows (sort.Optional t)) a b c q.0 r.0 (rtype_of t) Ref (ActsOn s x.0 (coerced t)) (ActsOn t q.0 give) (ActsOn s x.0 (coerced (sort.Optional t))) first second
    (λ regs u res f. record {
      mid = res;
      go = give;
      does = given_on res;
      start = record { v = f.v; shows = f.shows; does = f.does };
      on = λ now v u1 shows kept. record { v = v; shows = shows; does = refl };
    })

-- ---- a declared type that is never None

left_by : (t : Ty) → ((a : Box Ty Global) → t ≡ declared.Optional a → ⊥) → (k : Ty-F Ty) → roll-Ty k ≡ t → is_optional (sort_step (declared.map-Ty Ty Sort sort_of k)) ≡ false
left_by t never (Ty-F.Optional a) is = absurd (never a (sym is ∙ variant.rolls-Optional a))
left_by t never k is = refl

pub plain_left : (t : Ty) → ((a : Box Ty Global) → t ≡ declared.Optional a → ⊥) → is_optional (sort_of t) ≡ false
plain_left t never =
    let k = out-Ty t in
    ap (λ z. is_optional (sort_of z)) (sym (roll-out-Ty t)) ∙ ap is_optional (fold-roll-Ty Sort sort_step k) ∙ left_by t never k (roll-out-Ty t)
