-- A register with the truth of a value in another one.
use Rattle.ir_builder_comparisons.proofs.Common.{◌≡◌, refl, sym, subst, ap, ◌∙◌, ℕ, zero, suc, arith, true, false, List, [], Some, None, Value, IntVal, BoolVal, StrVal, Sort, State, Gives, give, is_equal, Building, rtype_of, HasType, HasKind, Shows, Makes, type_below, Compared, Ints, Natives, Texts, is_written, Acts, ActsOn, ActsOnTwo, compared_sort, compares, by_int, by_i64, by_bool, by_text, made_attempts, stays, attempts_then, ordered, Compares, truth_as, FindsTruth, false_of, compared_of}
use Rattle.std.proofs.lemmas.Bool.Decides.{nat_tests}
use Rattle.std.specs.Prelude.{ℤ, pos, negsuc, not}
use Rattle.py_syntax.specs.declared.expression.CmpOp.TheVariants as cmp
use Rattle.py_typed.specs.Sorts as sort
use Rattle.ir_core.specs.declared.code.RType.TheVariants as rtype
use Rattle.ir_core.specs.Registers.{Holds}
use Rattle.ir_builder_operations.proofs.TextLemmas.{filled_is}

-- ---- what differs from the value that is false is true

above_zero : (n : ℕ) → is_equal (IntVal (pos (suc n))) (IntVal (pos 0)) ≡ false
above_zero n = grind (arith, nat_tests)

number_truth : (a : ℤ) (s : State) → truth_as (IntVal a) s ≡ compares (ordered cmp.Ne) (IntVal a) (IntVal (pos 0)) s
number_truth (pos zero) s = refl
number_truth (pos (suc n)) s = ap (λ b. Gives (BoolVal (not b)) s) (sym (above_zero n))
number_truth (negsuc n) s = refl

text_truth : (t : List ℕ) (s : State) → truth_as (StrVal t) s ≡ compares (ordered cmp.Ne) (StrVal t) (StrVal []) s
text_truth t s = ap (λ b. Gives (BoolVal b) s) (sym (filled_is t))

truth_is : (c : Compared) (v : Value) (s : State) → HasKind (compared_sort c) v → truth_as v s ≡ compares (ordered cmp.Ne) v (false_of c) s
truth_is Ints v s k = by_int (λ v. truth_as v s ≡ compares (ordered cmp.Ne) v (IntVal (pos 0)) s) (λ n. number_truth n s) v k
truth_is Natives v s k = by_i64 (λ v. truth_as v s ≡ compares (ordered cmp.Ne) v (IntVal (pos 0)) s) (λ n e. number_truth n s) v k
truth_is Texts v s k = by_text (λ v. truth_as v s ≡ compares (ordered cmp.Ne) v (StrVal []) s) (λ t. text_truth t s) v k

false_kind : (c : Compared) → HasKind (compared_sort c) (false_of c)
false_kind Ints = (pos 0, refl)
false_kind Natives = (pos 0, refl, refl)
false_kind Texts = ([], refl)

pub compared_finds : (c : Compared) (b0 b1 b2 : Building) (q r x : ℕ) → HasType b0 x (rtype_of (compared_sort c)) → Makes b0 b1 q (rtype_of (compared_sort c)) (λ regs h. h ≡ Holds (false_of c)) → Compares c (ordered cmp.Ne) b1 b2 r x q → FindsTruth b0 b2 x r (compared_sort c)
compared_finds c b0 b1 b2 q r x type made a =
    let t = compared_sort c in
    let low = type_below b0 x (rtype_of t) type in
    attempts_then (Shows t) (Shows sort.Bool) b0 b1 b2 q r (rtype_of t) rtype.Bool (Acts (give (false_of c))) (ActsOnTwo t t x q (compares (ordered cmp.Ne))) (ActsOn t x truth_as) (made_attempts t (false_of c) b0 b1 q (rtype_of t) (false_kind c) made) a
    (λ regs s res f. record {
      mid = Gives (false_of c) s;
      go = compares (ordered cmp.Ne) f.v;
      does = f.does ∙ truth_is c f.v s f.shows.1;
      start = refl;
      on = λ now w s1 shows kept. record { v = f.v; left = subst (Shows t f.v) (sym (kept x low)) f.shows; w = w; right = shows; does = refl };
    })

-- ---- by the type

pub compared_type : (t : Sort) (c : Compared) → compared_of t ≡ Some c → t ≡ compared_sort c
compared_type sort.Int c e = let f : Some Ints ≡ Some c = e in let is : Ints ≡ c = cc in ap compared_sort is
compared_type sort.I64 c e = let f : Some Natives ≡ Some c = e in let is : Natives ≡ c = cc in ap compared_sort is
compared_type sort.Str c e = let f : Some Texts ≡ Some c = e in let is : Texts ≡ c = cc in ap compared_sort is
compared_type t c e = let f : None ≡ Some c = e in absurd (cc)

pub truth_at : (t : Sort) (k : Compared) (b c : Building) (r x : ℕ) → compared_of t ≡ Some k → FindsTruth b c x r (compared_sort k) → FindsTruth b c x r t
truth_at t k b c r x e a = subst (λ u. FindsTruth b c x r u) (sym (compared_type t k e)) a

bool_type : (t : Sort) → is_written t ≡ true → compared_of t ≡ None → sort.Bool ≡ t
bool_type sort.Bool w e = refl
bool_type sort.Str w e = absurd (cc)
bool_type t w e = absurd (cc)

pub bool_stays : (t : Sort) (b : Building) (x : ℕ) → is_written t ≡ true → compared_of t ≡ None → HasType b x (rtype_of t) → FindsTruth b b x x t
bool_stays t b x w e =
    let P : Sort → Type 0 = λ u. HasType b x (rtype_of u) → FindsTruth b b x x u in
    subst P (bool_type t w e) (λ type. stays sort.Bool truth_as b x rtype.Bool type (λ v s k. by_bool (λ z. truth_as z s ≡ Gives z s) (λ h. refl) v k))
