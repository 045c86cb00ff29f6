-- The comparisons of a chain, from the left, up to the first that does not hold.
use Rattle.ir_builder_expressions.proofs.Common.{◌≡◌, refl, ◌∙◌, ap, ℕ, Bool, true, false, length, if◌then◌else◌, Value, BoolVal, CmpOp, Sort, TypedExpr, type_of, Compare, Comparisons, no_comparisons, comparison_then, State, Gives, ◌>>=◌, give, holds, Lit, Holds, Building, Setting, rtype_of, HasType, Adds, HasRoom, IsThrown, means, Shows, Meaning, Arrives, Computes, Attempts, extends_refl, extends_trans, type_kept, ends_now, ends_of, literal_makes, room_on, made_computes, ActsOnTwo, holds_as, literal_of_truth, means_chain, EmitsChain, Opens, Brings, Meets, Behind, HasValue, ComputesFrom, Told, any_from, value_from, from_by, value_stays, Beside, part_from, computes_behind, truth_from, choice_by, EmitsNode}
use Rattle.py_typed.specs.Sorts as sort
use Rattle.ir_core.specs.declared.code.RType.TheVariants as rtype

-- no comparison is left
pub chain_done : {line : ℕ} (x : Setting) (s u : Sort) (first : ℕ) (b c : Building) (r : ℕ) → Adds b c r rtype.Bool (Lit record { 0 = r } (literal_of_truth true)) line → EmitsChain x s u first no_comparisons b c r
chain_done x s u first b c r a =
    let made = literal_makes b c r rtype.Bool (literal_of_truth true) (Holds (BoolVal true)) a refl in
    let holds : Meaning Value = λ n. give (BoolVal true) in
    any_from x (HasValue u first) sort.Bool holds b c r (made_computes x (Shows sort.Bool) rtype.Bool holds _ b c r made (λ n s regs. (BoolVal true, Holds (BoolVal true), refl, refl, (refl, (true, refl)))))

-- what comes behind a comparison whose truth is in a register: the rest of the chain where it holds
abbrev rest_goes : Setting → Sort → Comparisons → Behind (Value × Bool)
rest_goes x s more n z = if z.1 then means_chain x s z.0 more n else give (BoolVal false)

abbrev pub EmitsRest : Setting → Sort → Sort → ℕ → ℕ → Comparisons → Building → Building → ℕ → Type 0
EmitsRest x s u left holds more old new r = ComputesFrom x (Told (HasValue u left) holds) sort.Bool (rest_goes x s more) old new r

flag_back : (h : Bool) (s : State) → (if h then (give (BoolVal true)) else (give (BoolVal false))) s ≡ Gives (BoolVal h) s
flag_back true s = refl
flag_back false s = refl

-- nothing
pub rest_done : (x : Setting) (s u : Sort) (left holds : ℕ) (b : Building) → HasType b holds rtype.Bool → EmitsRest x s u left holds no_comparisons b b holds
rest_done x s u left holds b type = record {
  extends = extends_refl b;
  type = type;
  runs = λ p fn h at n calls regs below st z match le told.
      let R = Arrives (Shows sort.Bool) fn (length b.blocks) (length b.ops) below (length b.regs) regs st holds in
      let T = IsThrown fn h below x (length b.regs) regs in
      ends_of p st.turns _ _ (Gives (BoolVal z.1) st) R T (flag_back z.1 st)
      (ends_now p (BoolVal z.1) st _ R T record { now = regs; is = refl; shows = (told.1, (z.1, refl)); kept = λ j lt. refl; same = refl });
}

-- other comparisons, in a choice by its truth
pub rest_more : (x : Setting) (s u : Sort) (left holds : ℕ) (more : Comparisons) (b0 b1 b2 b3 b4 : Building) (target test first end r : ℕ) → HasType b0 holds rtype.Bool → Opens b0 b1 target test first rtype.Bool → EmitsChain x s u left more b1 b2 r → Brings b2 b3 target r end → Meets b3 b4 target holds holds test first end (length b3.blocks) → EmitsRest x s u left holds more b0 b4 target
rest_more x s u left holds more b0 b1 b2 b3 b4 target test first end r type opens chain brings meets =
    let x03 = extends_trans b0 b1 b3 opens.extends (extends_trans b1 b2 b3 chain.extends brings.extends) in
    choice_by x (Told (HasValue u left) holds) (λ z. z.1) sort.Bool (λ n z. means_chain x s z.0 more n) (λ n z. give (BoolVal false)) b0 b1 b2 b3 b3 b4 holds target test first end (length b3.blocks) r holds type (λ z regs k. k.1) opens
    (from_by x _ (HasValue u left) sort.Bool (λ z. z.0) (λ n v. means_chain x s v more n) b1 b2 r (λ z regs k. k.0.0) chain) brings refl
    (value_from x _ sort.Bool (λ z. BoolVal false) b3 holds (type_kept b0 b3 holds rtype.Bool x03 type) (λ z regs k. (k.0.1 ∙ ap (λ y. Holds (BoolVal y)) k.1, (false, refl)))) meets

-- a comparison, and what comes behind it
pub chain_from : (x : Setting) (s u w : Sort) (x0 : ℕ) (op : CmpOp) (e : TypedExpr) (more : Comparisons) (b0 b1 b2 b3 : Building) (q c r : ℕ) → HasRoom x b0 → HasType b0 x0 (rtype_of u) → Computes x (Shows w) (rtype_of w) (means x e) b0 b1 q → Attempts (Shows sort.Bool) b1 b2 c rtype.Bool (ActsOnTwo u w x0 q (holds_as op s (type_of e))) → EmitsRest x (type_of e) w q c more b2 b3 r → EmitsChain x s u x0 (comparison_then op e more) b0 b3 r
chain_from x s u w x0 op e more b0 b1 b2 b3 q c r room type ce made rest =
    let operand = value_stays u x0 b0 type in
    let other = value_stays w q b1 ce.type in
    let kept = value_stays u x0 b1 (type_kept b0 b1 x0 (rtype_of u) ce.extends type) in
    part_from x (HasValue u x0) w q sort.Bool (means x e) (λ n z. holds op s (type_of e) z.0 z.1 >>= λ h. rest_goes x (type_of e) more n (z.1, h)) b0 b1 b3 r room operand ce
    (truth_from x (Beside (HasValue u x0) w q) (λ z. holds op s (type_of e) z.0 z.1) sort.Bool (λ n z. rest_goes x (type_of e) more n (z.0.1, z.1)) (ActsOnTwo u w x0 q (holds_as op s (type_of e))) b1 b2 b3 c r (room_on x b0 b1 ce.extends room)
    (λ z regs now same k. (kept z.0 regs now same k.0, other z.1 regs now same k.1)) (λ z regs st k. record { v = z.0; left = k.0; w = z.1; right = k.1; does = refl }) made
    (from_by x _ (Told (HasValue w q) c) sort.Bool (λ z. (z.0.1, z.1)) (rest_goes x (type_of e) more) b2 b3 r (λ z regs k. (k.0.1, k.1)) rest))

-- the first operand, and the chain behind it
pub compare_emits : (x : Setting) (u : Sort) (e : TypedExpr) (more : Comparisons) (b0 b1 b2 : Building) (q r : ℕ) → HasRoom x b0 → Computes x (Shows u) (rtype_of u) (means x e) b0 b1 q → EmitsChain x (type_of e) u q more b1 b2 r → EmitsNode x (Compare e more) sort.Bool b0 b2 r
compare_emits x u e more b0 b1 b2 q r room c chain = computes_behind x u q sort.Bool (means x e) (λ n v. means_chain x (type_of e) v more n) b0 b1 b2 r room c chain
