-- A choice by the truth of a part is computed by its code.
use Rattle.ir_builder_expressions.proofs.Common.{◌≡◌, refl, sym, ◌∙◌, ap, subst, ℕ, true, List, length, Option, Some, None, Bor, TExpr, Sort, TypedExpr, type_of, typed_expr, TypedModule, Variable, type_at, RType, Building, Extends, Setting, rtype_of, HasType, HasRoom, extends_trans, type_kept, room_on, is_written, if◌then◌else◌, Value, Shows, ActsOn, on_to, computes_of, Opens, Brings, Meets, Behind, HasValue, ComputesFrom, Told, any_from, value_from, value_stays, from_by, truth_from, choice_by, computes_behind, is_scalar, is_testable, Suits, Emits, means, arm_of, arm_sort, means_arm, ArmSuits, ChoiceSuits, EmitsArm, EmitsChoice}
use Rattle.py_typed.specs.Sorts as sort
use Rattle.py_typed.specs.Sorts.{sort as sort_of}
use Rattle.ir_builder_expressions.specs.Arms.{means_choice}
use Rattle.ir_builder_expressions.specs.Truths.{truth_by, tested_as, TellsTruth}
use Rattle.ir_builder_expressions.proofs.TestedLemmas.{by_own, chosen_means}

-- ---- an arm that is there, and one that is missing

pub arm_asked : (m : TypedModule) (vs : List Variable) (o : Option (Bor TExpr)) (e : Bor TExpr) → o ≡ Some e → ArmSuits m vs (arm_of o) → Suits m vs (typed_expr e.now)
arm_asked m vs o e is h = let P : Option (Bor TExpr) → Type 0 = λ z. ArmSuits m vs (arm_of z) in subst P is h

pub arm_there : (x : Setting) (o : Option (Bor TExpr)) (e : Bor TExpr) (q : ℕ) (b c : Building) (r : ℕ) → o ≡ Some e → Emits x (typed_expr e.now) b c r → EmitsArm x q (arm_of o) b c r
arm_there x o e q b c r is k =
    let P : Option (Bor TExpr) → Type 0 = λ z. EmitsArm x q (arm_of z) b c r in
    subst P (sym is) (λ u type. any_from x (HasValue u q) (type_of (typed_expr e.now)) (means x (typed_expr e.now)) b c r k)

pub arm_missing : (x : Setting) (o : Option (Bor TExpr)) (q : ℕ) (b : Building) → o ≡ None → EmitsArm x q (arm_of o) b b q
arm_missing x o q b is =
    let P : Option (Bor TExpr) → Type 0 = λ z. EmitsArm x q (arm_of z) b b q in
    subst P (sym is) (λ u type. value_from x (HasValue u q) u (λ v. v) b q type (λ v regs k. k))

-- ---- by the truth of a value by its type

-- the truth of a value in a register is tested, and each arm goes on with the value
own_choice : (x : Setting) (u t : Sort) (body other : Behind Value) (b1 b2 b3 b4 b5 b7 b8 : Building) (q condition target at first end second ra rb : ℕ) → HasRoom x b1 → HasType b1 q (rtype_of u) → TellsTruth b1 b2 q condition u → Opens b2 b3 target at first (rtype_of t) → ComputesFrom x (HasValue u q) t body b3 b4 ra → Brings b4 b5 target ra end → second ≡ length b5.blocks → ComputesFrom x (HasValue u q) t other b5 b7 rb → Meets b7 b8 target rb condition at first end second → ComputesFrom x (HasValue u q) t (by_own u body other) b1 b8 target
own_choice x u t body other b1 b2 b3 b4 b5 b7 b8 q condition target at first end second ra rb room type_q tells opens arm_a brings here arm_b meets =
    truth_from x (HasValue u q) (truth_by u) t (λ n z. if z.1 then body n z.0 else other n z.0) (ActsOn u q (tested_as u)) b1 b2 b8 condition target room (value_stays u q b1 type_q) (λ v regs s k. record { v = v; shows = k; does = refl }) tells
    (choice_by x (Told (HasValue u q) condition) (λ z. z.1) t (λ n z. body n z.0) (λ n z. other n z.0) b2 b3 b4 b5 b7 b8 condition target at first end second ra rb tells.type (λ z regs k. k.1) opens
    (from_by x _ (HasValue u q) t (λ z. z.0) body b3 b4 ra (λ z regs k. k.0.0) arm_a) brings here
    (from_by x _ (HasValue u q) t (λ z. z.0) other b5 b7 rb (λ z regs k. k.0.0) arm_b) meets)

-- ---- the whole

pub simple_written : (t : Sort) → is_scalar t ≡ true → is_written t ≡ true
simple_written sort.Int h = refl
simple_written sort.I64 h = refl
simple_written sort.Bool h = refl
simple_written sort.Str h = refl
simple_written _ h = absurd (cc)

pub test_testable : (e : TExpr) → is_testable (type_of (typed_expr e)) ≡ true → is_testable (sort_of e.ty) ≡ true
test_testable e h = subst (λ s. is_testable s ≡ true) (type_at e) h

pub tested_type : (x : Setting) (e : TExpr) (b c : Building) (q : ℕ) → Emits x (typed_expr e) b c q → HasType c q (rtype_of (sort_of e.ty))
tested_type x e b c q k = subst (λ s. HasType c q (rtype_of s)) (type_at e) k.type

module _ (x : Setting) (t : Sort) (test : TExpr) (rt : RType) (is : rt ≡ rtype_of t) (b0 b1 : Building) (q : ℕ) (tests : Emits x (typed_expr test) b0 b1 q) where
  -- the value of an arm has the type of the choice
  pub arm_typed : (arm : Option TypedExpr) (b c : Building) (r : ℕ) → arm_sort (type_of (typed_expr test)) arm ≡ t → Extends b1 b → EmitsArm x q arm b c r → HasType c r rt
  arm_typed arm b c r same x1b k =
      let u = type_of (typed_expr test) in
      let type = (k u (type_kept b1 b q (rtype_of u) x1b tests.type)).type in
      let P : RType → Type 0 = λ z. HasType c r z in
      subst P (ap rtype_of same ∙ sym is) type

  arm_at : (arm : Option TypedExpr) (b c : Building) (r : ℕ) → arm_sort (type_of (typed_expr test)) arm ≡ t → Extends b1 b → EmitsArm x q arm b c r → ComputesFrom x (HasValue (type_of (typed_expr test)) q) t (means_arm x arm) b c r
  arm_at arm b c r same x1b k =
      let u = type_of (typed_expr test) in
      subst (λ z. ComputesFrom x (HasValue u q) z (means_arm x arm) b c r) same (k u (type_kept b1 b q (rtype_of u) x1b tests.type))

  pub choice_made : (body other : Option TypedExpr) (b2 b3 b4 b5 b7 b8 : Building) (condition target at first end second ra rb : ℕ) → ChoiceSuits x.source x.variables t (typed_expr test) body other → HasRoom x b0 → TellsTruth b1 b2 q condition (sort_of test.ty) → Opens b2 b3 target at first rt → Extends b3 b4 → EmitsArm x q body b3 b4 ra → Brings b4 b5 target ra end → second ≡ length b5.blocks → EmitsArm x q other b5 b7 rb → Meets b7 b8 target rb condition at first end second → EmitsChoice x t (typed_expr test) body other b0 b8 target
  choice_made body other b2 b3 b4 b5 b7 b8 condition target at first end second ra rb suits room found opens x34 ca brings here cb meets =
      let u = type_of (typed_expr test) in
      let x13 = extends_trans b1 b2 b3 found.extends opens.extends in
      let x15 = extends_trans b1 b3 b5 x13 (extends_trans b3 b4 b5 x34 brings.extends) in
      let truth : TellsTruth b1 b2 q condition u = subst (λ s. TellsTruth b1 b2 q condition s) (sym (type_at test)) found in
      let opened : Opens b2 b3 target at first (rtype_of t) = subst (λ z. Opens b2 b3 target at first z) is opens in
      let mine : Behind Value = means_arm x body in
      let yours : Behind Value = means_arm x other in
      computes_of x (Shows t) (rtype_of t) (λ n s. on_to (means x (typed_expr test) n s) (by_own u mine yours n)) (means_choice x (typed_expr test) body other) b0 b8 target (chosen_means x (typed_expr test) mine yours)
      (computes_behind x u q t (means x (typed_expr test)) (by_own u mine yours) b0 b1 b8 target room tests
      (own_choice x u t mine yours b1 b2 b3 b4 b5 b7 b8 q condition target at first end second ra rb (room_on x b0 b1 tests.extends room) tests.type truth opened (arm_at body b3 b4 ra suits.body_type x13 ca) brings here (arm_at other b5 b7 rb suits.other_type x15 cb) meets))
