-- The code of literals, of a part of an operation, and of an operation on its parts.
use Rattle.ir_builder_expressions.proofs.Common.{◌≡◌, refl, sym, ap, subst, ℕ, arith, Bool, true, false, Option, Some, None, nat_tests, ℤ, pos, negsuc, FitsSigned, if◌then◌else◌, w128, lies_within, IntVal, Span, Sort, TypedExpr, typed, type_of, State, Number, Lit, Holds, Building, Setting, rtype_of, Adds, HasRoom, means, Shows, Computes, Attempts, literal_makes, computes_of, made_computes, both_attempt, ActsOn, ActsOnTwo, Unary, Binary, fitting_in, native_in, sort_by, part_sort, literal_in, unary_goes, binary_goes, Emits, EmitsPart, EmitsOne, EmitsTwo, Meaning, give, watch, watched, Value}
use Rattle.py_typed.specs.Sorts as sort
use Rattle.py_typed.specs.Expressions as tree
use Rattle.ir_core.specs.declared.code.RType.TheVariants as rtype
use Rattle.ir_builder_expressions.proofs.FollowLemmas.{part_attempts}

-- ---- literals

pub int_fits : (n : ℤ) → lies_within 127 n ≡ true → FitsSigned w128 n
int_fits (pos n) e = record { sfits = grind (arith, nat_tests, e) }
int_fits (negsuc n) e = record { sfits = grind (arith, nat_tests, e) }

-- ---- a part

fitting_by : (m n : ℤ) (b : Bool) → lies_within 63 m ≡ b → (if b then (Some m) else None) ≡ Some n → (Some m ≡ Some n) × (lies_within 63 n ≡ true)
fitting_by m n true is e =
    let f : Some m ≡ Some n = e in
    let same : m ≡ n = cc in
    (f, subst (λ z. lies_within 63 z ≡ true) same is)
fitting_by m n false is e = absurd (cc)

fitting_is : (o : Option ℤ) (n : ℤ) → fitting_in o ≡ Some n → (o ≡ Some n) × (lies_within 63 n ≡ true)
fitting_is None n e = absurd (cc)
fitting_is (Some m) n e = fitting_by m n (lies_within 63 m) refl e

pub native_is : (t : Sort) (o : Option ℤ) (n : ℤ) → native_in t o ≡ Some n → (o ≡ Some n) × (lies_within 63 n ≡ true)
native_is sort.I64 o n e = fitting_is o n e
native_is t o n e = let f : None ≡ Some n = e in absurd (cc)

-- a literal is a number as it stands in the text
pub literal_is : (k : tree.TypedNode) (t : Sort) (place : Span) (n : ℤ) → literal_in (typed k t place) ≡ Some n → typed (tree.Int n) t place ≡ typed k t place
literal_is (tree.Int m) t place n e = let f : Some m ≡ Some n = e in ap (λ z. typed (tree.Int z) t place) (cc (sym f))
literal_is _ t place n e = absurd (cc)

literal_means : (x : Setting) (e : TypedExpr) (k : ℕ) (i : ℤ) (s : State) → literal_in e ≡ Some i → means x e k s ≡ watch x.source (type_of e) (IntVal i) s
literal_means x (typed node t place) k i s e = ap (λ y. means x y k s) (sym (literal_is node t place i e))

pub native_part : {line : ℕ} (x : Setting) (t : Sort) (e : TypedExpr) (n : ℤ) (b c : Building) (r : ℕ) → native_in t (literal_in e) ≡ Some n → Adds b c r rtype.I64 (Lit record { 0 = r } (Number n)) line → EmitsPart x t e b c r
native_part x t e n b c r is a =
    let h = native_is t (literal_in e) n is in
    let part : sort.I64 ≡ part_sort t e = ap (λ o. sort_by o (type_of e)) (sym is) in
    let P : Sort → Type 0 = λ u. Computes x (Shows u) (rtype_of u) (means x e) b c r in
    let number : Meaning Value = λ k. give (IntVal n) in
    let made = made_computes x (Shows sort.I64) rtype.I64 number _ b c r (literal_makes b c r rtype.I64 _ (Holds (IntVal n)) a refl) (λ k s regs. (IntVal n, Holds (IntVal n), refl, refl, (refl, (n, refl, h.1)))) in
    subst P part (computes_of x (Shows sort.I64) rtype.I64 _ (means x e) b c r (λ k s. literal_means x e k n s h.0) (watched x (Shows sort.I64) (Shows sort.I64) rtype.I64 (type_of e) number b c r (λ v h kind q. q) made))

pub own_part : (x : Setting) (t : Sort) (e : TypedExpr) (b c : Building) (r : ℕ) → native_in t (literal_in e) ≡ None → Emits x e b c r → EmitsPart x t e b c r
own_part x t e b c r is q =
    let part : type_of e ≡ part_sort t e = ap (λ o. sort_by o (type_of e)) (sym is) in
    let P : Sort → Type 0 = λ u. Computes x (Shows u) (rtype_of u) (means x e) b c r in
    subst P part q

-- the code of a part by what is wanted of it
pub wanted_part : (x : Setting) (w u : Sort) (e : TypedExpr) (b c : Building) (r : ℕ) → w ≡ u → EmitsPart x w e b c r → EmitsPart x u e b c r
wanted_part x w u e b c r is q = subst (λ z. EmitsPart x z e b c r) is q

-- ---- an operation on parts

pub one_emits : (x : Setting) (op : Unary) (u t : Sort) (e : TypedExpr) (b0 b1 b2 : Building) (q r : ℕ) → HasRoom x b0 → EmitsPart x u e b0 b1 q → Attempts (Shows t) b1 b2 r (rtype_of t) (ActsOn (part_sort u e) q (unary_goes op t (type_of e))) → EmitsOne x op t e b0 b2 r
one_emits x op u t e b0 b1 b2 q r room c made =
    part_attempts x (Shows (part_sort u e)) (Shows t) (rtype_of (part_sort u e)) (rtype_of t) (means x e) (unary_goes op t (type_of e)) (ActsOn (part_sort u e) q (unary_goes op t (type_of e))) b0 b1 b2 q r room c made
    (λ v s regs k. record { v = v; shows = k; does = refl })

pub two_emit : (x : Setting) (op : Binary) (u t : Sort) (a b : TypedExpr) (b0 b1 b2 b3 : Building) (q q' r : ℕ) → HasRoom x b0 → EmitsPart x u a b0 b1 q → EmitsPart x u b b1 b2 q' → Attempts (Shows t) b2 b3 r (rtype_of t) (ActsOnTwo (part_sort u a) (part_sort u b) q q' (binary_goes op t)) → EmitsTwo x op t a b b0 b3 r
two_emit x op u t a b b0 b1 b2 b3 q q' r room c d made =
    both_attempt x (Shows (part_sort u a)) (Shows (part_sort u b)) (Shows t) (rtype_of (part_sort u a)) (rtype_of (part_sort u b)) (rtype_of t) (means x a) (means x b) (binary_goes op t) (ActsOnTwo (part_sort u a) (part_sort u b) q q' (binary_goes op t)) b0 b1 b2 b3 q q' r room c d made
    (λ v w s regs k l. record { v = v; left = k; w = w; right = l; does = refl })
