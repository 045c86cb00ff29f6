-- Two operands are compared as the source compares them.
use Rattle.ir_builder_expressions.proofs.Common.{◌≡◌, refl, sym, ap, ◌∙◌, subst, ℕ, Bool, true, false, ℤ, pos, not, if◌then◌else◌, Value, IntVal, BoolVal, CmpOp, is_number, Sort, State, Outcome, Gives, Raises, Stops, Does, ◌>>=◌, on_to, give, needs, coerced, are_alike, is_equal, is_less, compared_as, compared, holds, Building, rtype_of, HasType, HasKind, Shows, Attempts, type_below, is_whole, ActsOn, ActsOnTwo, compared_sort, compares, by_bool, stays, attempts_as, two_attempts, is_ordering, ordered, Compares, is_text, is_pair, is_shown_as, compared_in, is_brought, holds_as}
use Rattle.py_syntax.specs.declared.expression.CmpOp.TheVariants as cmp
use borrow.Author.Tests.{clash}
use Rattle.py_typed.specs.Sorts as sort
use Rattle.ir_core.specs.declared.code.RType.TheVariants as rtype
use Rattle.ir_builder_operations.specs.declared.operation.Compared.{Compared}
use Rattle.ir_builder_operations.specs.declared.operation.Compared.TheVariants.{Ints, Natives, Texts}

-- ---- both operands come to the type of both, and are compared there

inner : (o : Outcome Value) (G : Value → Does Bool) (F : Bool → Does Value) → on_to (on_to o G) F ≡ on_to o (λ b s. on_to (G b s) F)
inner (Gives b s) G F = refl
inner (Raises e s) G F = refl
inner (Stops w s) G F = refl

outer : (o : Outcome Value) (k : Does Value) (G : Value → Value → Does Bool) (F : Bool → Does Value) → on_to (on_to o (λ a s. on_to (k s) (G a))) F ≡ on_to o (λ a s. on_to (k s) (λ b s1. on_to (G a b s1) F))
outer (Gives a s) k G F = inner (k s) (G a) F
outer (Raises e s) k G F = refl
outer (Stops w s) k G F = refl

abbrev Brought : Sort → CmpOp → Value → Value → Does Value
Brought u op v w = coerced u v >>= λ a. coerced u w >>= compares (ordered op) a

holds_is : (op : CmpOp) (s t : Sort) (v w : Value) (st : State) → is_ordering op ≡ true → holds op s t v w st ≡ compared (ordered op) s t v w st
holds_is cmp.Eq s t v w st e = refl
holds_is cmp.Ne s t v w st e = refl
holds_is cmp.Lt s t v w st e = refl
holds_is cmp.Le s t v w st e = refl
holds_is cmp.Gt s t v w st e = refl
holds_is cmp.Ge s t v w st e = refl
holds_is op s t v w st e = absurd (clash e)

split : (op : CmpOp) (s t : Sort) (v w : Value) (st : State) → is_ordering op ≡ true → holds_as op s t v w st ≡ Brought (compared_as s t) op v w st
split op s t v w st ordering =
    let u = compared_as s t in
    ap (λ o. on_to o (λ h. give (BoolVal h))) (holds_is op s t v w st ordering)
    ∙ outer (coerced u v st) (coerced u w) (λ a b. needs (are_alike a b) (give (ordered op a b))) (λ h. give (BoolVal h))

-- ---- bools, as native integers

abbrev number : Bool → ℤ
number b = if b then pos 1 else pos 0

numbers_equal : (p q : Bool) → is_equal (BoolVal p) (BoolVal q) ≡ is_equal (IntVal (number p)) (IntVal (number q))
numbers_equal true true = refl
numbers_equal true false = refl
numbers_equal false true = refl
numbers_equal false false = refl

numbers_less : (p q : Bool) → is_less (BoolVal p) (BoolVal q) ≡ is_less (IntVal (number p)) (IntVal (number q))
numbers_less true true = refl
numbers_less true false = refl
numbers_less false true = refl
numbers_less false false = refl

numbers_ordered : (op : CmpOp) (p q : Bool) → ordered op (BoolVal p) (BoolVal q) ≡ ordered op (IntVal (number p)) (IntVal (number q))
numbers_ordered cmp.Eq p q = numbers_equal p q
numbers_ordered cmp.Ne p q = ap not (numbers_equal p q)
numbers_ordered cmp.Lt p q = numbers_less p q
numbers_ordered cmp.Le p q = ap not (numbers_less q p)
numbers_ordered cmp.Gt p q = numbers_less q p
numbers_ordered cmp.Ge p q = ap not (numbers_less p q)
numbers_ordered op p q = refl

bools_brought : (op : CmpOp) (v w : Value) (st : State) → HasKind sort.Bool v → HasKind sort.Bool w → Brought sort.Bool op v w st ≡ Brought sort.I64 op v w st
bools_brought op v w st k l =
    by_bool (λ v. Brought sort.Bool op v w st ≡ Brought sort.I64 op v w st)
    (λ p. by_bool (λ w. Brought sort.Bool op (BoolVal p) w st ≡ Brought sort.I64 op (BoolVal p) w st) (λ q. ap (λ h. Gives (BoolVal h) st) (numbers_ordered op p q)) w l) v k

-- ---- the types

shown_number : (s u : Sort) → is_number s ≡ true → is_shown_as s u ≡ true → is_number u ≡ true
shown_number sort.Int sort.Int e f = refl
shown_number sort.Int sort.I64 e f = refl
shown_number sort.I64 sort.I64 e f = refl
shown_number sort.Bool sort.Bool e f = refl
shown_number s u e f = absurd (cc)

shown_bool : (u : Sort) (v : Value) → is_shown_as sort.Bool u ≡ true → HasKind u v → HasKind sort.Bool v
shown_bool sort.Bool v f k = k
shown_bool u v f k = absurd (clash f)

shown_text : (u : Sort) → is_shown_as sort.Str u ≡ true → is_text u ≡ true
shown_text sort.Str f = refl
shown_text u f = absurd (clash f)

-- what two operands are that are compared
by_pair : (P : Sort → Sort → Type 0) → P sort.Int sort.Int → P sort.Int sort.I64 → P sort.Int sort.Bool → P sort.I64 sort.Int → P sort.I64 sort.I64 → P sort.I64 sort.Bool → P sort.Bool sort.Int → P sort.Bool sort.I64 → P sort.Bool sort.Bool → P sort.Str sort.Str → (s t : Sort) → is_pair s t ≡ true → P s t
by_pair P a b c d e f g h i j sort.Int sort.Int is = a
by_pair P a b c d e f g h i j sort.Int sort.I64 is = b
by_pair P a b c d e f g h i j sort.Int sort.Bool is = c
by_pair P a b c d e f g h i j sort.I64 sort.Int is = d
by_pair P a b c d e f g h i j sort.I64 sort.I64 is = e
by_pair P a b c d e f g h i j sort.I64 sort.Bool is = f
by_pair P a b c d e f g h i j sort.Bool sort.Int is = g
by_pair P a b c d e f g h i j sort.Bool sort.I64 is = h
by_pair P a b c d e f g h i j sort.Bool sort.Bool is = i
by_pair P a b c d e f g h i j sort.Str sort.Str is = j
by_pair P a b c d e f g h i j s t is = absurd (clash is)

abbrev AreBrought : Sort → Sort → Type 0
AreBrought s t = (u w : Sort) → is_shown_as s u ≡ true → is_shown_as t w ≡ true → (is_brought (compared_in (compared_as s t)) u ≡ true) × (is_brought (compared_in (compared_as s t)) w ≡ true)

are_brought : (s t : Sort) → is_pair s t ≡ true → AreBrought s t
are_brought =
    let both : (s t : Sort) → is_number s ≡ true → is_number t ≡ true → (u w : Sort) → is_shown_as s u ≡ true → is_shown_as t w ≡ true → (is_number u ≡ true) × (is_number w ≡ true) = λ s t e f u w k l. (shown_number s u e k, shown_number t w f l) in
    by_pair AreBrought (both sort.Int sort.Int refl refl) (both sort.Int sort.I64 refl refl) (both sort.Int sort.Bool refl refl) (both sort.I64 sort.Int refl refl) (both sort.I64 sort.I64 refl refl) (both sort.I64 sort.Bool refl refl) (both sort.Bool sort.Int refl refl) (both sort.Bool sort.I64 refl refl) (both sort.Bool sort.Bool refl refl)
    (λ u w k l. (shown_text u k, shown_text w l))

abbrev AreCompared : CmpOp → Sort → Sort → Type 0
AreCompared op s t = (u u' : Sort) (v w : Value) (st : State) → is_shown_as s u ≡ true → is_shown_as t u' ≡ true → HasKind u v → HasKind u' w → holds_as op s t v w st ≡ Brought (compared_sort (compared_in (compared_as s t))) op v w st

are_compared : (op : CmpOp) → is_ordering op ≡ true → (s t : Sort) → is_pair s t ≡ true → AreCompared op s t
are_compared op o =
    let numbers : (s t u u' : Sort) (v w : Value) (st : State) → is_shown_as s u ≡ true → is_shown_as t u' ≡ true → HasKind u v → HasKind u' w → holds_as op s t v w st ≡ Brought (compared_as s t) op v w st = λ s t u u' v w st e f k l. split op s t v w st o in
    by_pair (AreCompared op) (numbers sort.Int sort.Int) (numbers sort.Int sort.I64) (numbers sort.Int sort.Bool) (numbers sort.I64 sort.Int) (numbers sort.I64 sort.I64) (numbers sort.I64 sort.Bool) (numbers sort.Bool sort.Int) (numbers sort.Bool sort.I64)
    (λ u u' v w st e f k l. split op sort.Bool sort.Bool v w st o ∙ bools_brought op v w st (shown_bool u v e k) (shown_bool u' w f l))
    (numbers sort.Str sort.Str)

-- ---- the code

is_str : (s : Sort) → is_text s ≡ true → sort.Str ≡ s
is_str sort.Str e = refl
is_str s e = absurd (clash e)

abbrev Brings : Compared → Sort → Building → Building → ℕ → ℕ → Type 0
Brings c s b0 b1 r x = Attempts (Shows (compared_sort c)) b0 b1 r (rtype_of (compared_sort c)) (ActsOn s x (coerced (compared_sort c)))

-- what is no text is a number
pub number_brought : (c : Compared) (s : Sort) → (c ≡ Texts → ⊥) → is_brought c s ≡ true → (is_number s ≡ true) × (is_whole (compared_sort c) ≡ true)
number_brought Ints s n e = (e, refl)
number_brought Natives s n e = (e, refl)
number_brought Texts s n e = absurd (n refl)

-- a text is brought already
pub text_brought : (c : Compared) (s : Sort) (b : Building) (x : ℕ) → c ≡ Texts → is_brought c s ≡ true → HasType b x (rtype_of s) → Brings c s b b x x
text_brought c s b x is e =
    let Q : Sort → Type 0 = λ u. HasType b x (rtype_of u) → Brings c u b b x x in
    let P : Compared → Type 0 = λ z. Brings z sort.Str b b x x in
    subst Q (is_str s (ap (λ z. is_brought z s) (sym is) ∙ e)) (λ type. subst P (sym is) (stays sort.Str (coerced sort.Str) b x rtype.Ref type (λ v s k. refl)))

module _ (s t u w : Sort) (c : Compared) (pair : is_pair s t ≡ true) (left : is_shown_as s u ≡ true) (right : is_shown_as t w ≡ true) (is : c ≡ compared_in (compared_as s t)) where
  pub left_brought : is_brought c u ≡ true
  left_brought = ap (λ z. is_brought z u) is ∙ (are_brought s t pair u w left right).0

  pub right_brought : is_brought c w ≡ true
  right_brought = ap (λ z. is_brought z w) is ∙ (are_brought s t pair u w left right).1

  pub pair_compared : (op : CmpOp) (b0 b1 b2 b3 : Building) (x y q1 q2 r : ℕ) → is_ordering op ≡ true → HasType b0 x (rtype_of u) → HasType b0 y (rtype_of w) → Brings c u b0 b1 q1 x → Brings c w b1 b2 q2 y → Compares c (ordered op) b2 b3 r q1 q2 → Attempts (Shows sort.Bool) b0 b3 r rtype.Bool (ActsOnTwo u w x y (holds_as op s t))
  pair_compared op b0 b1 b2 b3 x y q1 q2 r ordering type_x type_y a1 a2 a3 =
      let to = compared_sort c in
      attempts_as (Shows sort.Bool) b0 b3 r rtype.Bool (ActsOnTwo u w x y (Brought to op)) (ActsOnTwo u w x y (holds_as op s t))
      (λ regs st res f. record { v = f.v; left = f.left; w = f.w; right = f.right; does = f.does ∙ are_compared op ordering s t pair u w f.v f.w st left right f.left.1 f.right.1 ∙ ap (λ z. Brought (compared_sort z) op f.v f.w st) (sym is) })
      (two_attempts (Shows sort.Bool) u w to (rtype_of to) rtype.Bool x y q1 q2 r b0 b1 b2 b3 (coerced to) (coerced to) (compares (ordered op)) (type_below b0 x (rtype_of u) type_x) (type_below b0 y (rtype_of w) type_y) a1 a2 a3)
