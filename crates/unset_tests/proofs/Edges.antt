-- Both programs have the same edges behind operations.
use Rattle.std.proofs.Common.{◌≡◌, refl, sym, ◌∙◌, ap, subst, ℕ, suc, ◌+◌, arith, Bool, true, false, List, Option, Some, None}
use Rattle.std.specs.Prelude.{slice_get, nat_eq, ◌&&◌}
use Rattle.std.specs.Option.{option_map_or}
use Rattle.std.proofs.lemmas.Bool.{eq-eqb, eqb-true}
use Rattle.ir_core.specs.declared.code.Reg.{Reg}
use Rattle.ir_core.specs.declared.code.Op.{Op}
use Rattle.ir_core.specs.declared.code.Op.TheVariants.{Move, Lit, Prim, Call, Virtual, TraitCall, Turn, Inc, Dec, XDec}
use Rattle.ir_core.specs.declared.code.Last.TheVariants.{Goto, If, IfError, Return, Unreachable}
use Rattle.ir_core.specs.declared.code.ErrorKind.{ErrorKind}
use Rattle.ir_core.specs.declared.code.ErrorKind.TheVariants.{Never, Magic, Always, MagicOverlapping}
use Rattle.ir_core.specs.declared.code.Func.{Func}
use Rattle.ir_core.specs.declared.code.Program.{Program}
use Rattle.ir_core.specs.declared.kind.Edge.{Edge}
use Rattle.ir_core.specs.declared.kind.Edge.TheVariants.{NoEdge, Tests, TestsTwice, Jumps}
use Rattle.ir_core.specs.Items.{Item, Do, End, item_in, handler_in, blocks_of}
use Rattle.ir_core.specs.Rows.{Declared, type_of_reg, error_kind, kind_by_result, edge_of_kind, edge_of_op}
use Rattle.ir_core.specs.Meaning.{declared_of, registers_of, item_at, handler_at, question, is_answered, is_second_test, is_tested, is_asked, is_edge}
use Rattle.liveness.specs.Paths.{is_target, write_of}
use Rattle.unset_tests.specs.Unset.{sets, is_passed, passes, UnsetAt, written}
use Rattle.unset_tests.specs.Alike.{AreEach}
use Rattle.unset_tests.specs.Without.{IsWithout}
use Rattle.unset_tests.proofs.Each.{Pair, neither, both, each_at}
use Rattle.unset_tests.proofs.Items.{IsFree, ItemWithout, same, less, item_without, handler_same}
use Rattle.unset_tests.proofs.Stepping.{with_funcs, SameEdge}

-- ---- an operation whose edge tests a register writes it, and need not set it
abbrev IsTestOf : ℕ → Edge → Type 0
IsTestOf r (Tests s) = s.0 ≡ r
IsTestOf r (TestsTwice s) = s.0 ≡ r
IsTestOf r e = ⊥

record Leaves (regs : Declared) (o : Op) (r : ℕ) : Type 0 where
  pub writes : is_target (write_of o) r ≡ true
  pub unsure : sets regs o ≡ false
  pub passed : (behind : Option Item) → is_passed (edge_of_op regs o) behind ≡ true

target_is : (k : ErrorKind) (s : Reg) (r : ℕ) → IsTestOf r (edge_of_kind k (Some s)) → nat_eq s.0 r ≡ true
target_is Never s r h = absurd h
target_is Magic s r h = eq-eqb s.0 r h
target_is Always s r h = absurd h
target_is MagicOverlapping s r h = eq-eqb s.0 r h

no_target : (k : ErrorKind) (r : ℕ) → IsTestOf r (edge_of_kind k None) → ⊥
no_target Never r h = h
no_target Magic r h = h
no_target Always r h = h
no_target MagicOverlapping r h = h

test_passed : (k : ErrorKind) (to : Option Reg) (r : ℕ) (behind : Option Item) → IsTestOf r (edge_of_kind k to) → is_passed (edge_of_kind k to) behind ≡ true
test_passed Never to r behind h = refl
test_passed Magic (Some s) r behind h = refl
test_passed Magic None r behind h = refl
test_passed Always to r behind h = absurd h
test_passed MagicOverlapping (Some s) r behind h = refl
test_passed MagicOverlapping None r behind h = refl

leaves : (regs : Declared) (o : Op) (r : ℕ) → IsTestOf r (edge_of_op regs o) → Leaves regs o r
leaves regs (Move a b) r h = absurd h
leaves regs (Lit a l) r h = absurd h
leaves regs (Prim None c args) r h = absurd (no_target (error_kind c None) r h)
leaves regs (Prim (Some s) c args) r h =
    let k : ErrorKind = error_kind c (type_of_reg regs s) in
    record { writes = target_is k s r h; unsure = refl; passed = λ behind. test_passed k (Some s) r behind h }
leaves regs (Call s n args) r h =
    let k : ErrorKind = kind_by_result (type_of_reg regs s) in
    record { writes = target_is k s r h; unsure = refl; passed = λ behind. test_passed k (Some s) r behind h }
leaves regs (Virtual s o n args) r h =
    let k : ErrorKind = kind_by_result (type_of_reg regs s) in
    record { writes = target_is k s r h; unsure = refl; passed = λ behind. test_passed k (Some s) r behind h }
leaves regs (TraitCall s o t n args) r h =
    let k : ErrorKind = kind_by_result (type_of_reg regs s) in
    record { writes = target_is k s r h; unsure = refl; passed = λ behind. test_passed k (Some s) r behind h }
leaves regs Turn r h = absurd h
leaves regs (Inc a) r h = absurd h
leaves regs (Dec a) r h = absurd h
leaves regs (XDec a) r h = absurd h

module _ (p : Program) (gs : List Func) (all : AreEach IsWithout p.funcs gs) where
  abbrev q : Program
  q = with_funcs p gs

  pub handlers : (fn k : ℕ) → handler_at q fn k ≡ handler_at p fn k
  handlers fn k = by (each_at IsWithout p.funcs gs all fn)
    where
      by : {a b : Option Func} → Pair IsWithout a b → handler_in (blocks_of b) k ≡ handler_in (blocks_of a) k
      by neither = refl
      by (both f g e) = handler_same f g e k

  -- the item at a function, block and place of one, and of the other
  pub data Beside (fn k i : ℕ) : Option Item → Option Item → Type 0 where
    alike : (x : Option Item) → Beside fn k i x x
    fewer : (f : Func) (r : Reg) (e n line : ℕ) → slice_get p.funcs fn ≡ Some f → (UnsetAt f.regs f.blocks r.0 k i → ⊥) → IsFree f.regs f.blocks k i → Beside fn k i (Some (End (IfError r e n line))) (Some (End (Goto n)))

  pub beside : (fn k i : ℕ) → Beside fn k i (item_at p fn k i) (item_at q fn k i)
  beside fn k i = by (slice_get p.funcs fn) (slice_get gs fn) refl (each_at IsWithout p.funcs gs all fn)
    where
      on : (f : Func) → slice_get p.funcs fn ≡ Some f → {x y : Option Item} → ItemWithout f.regs f.blocks k i x y → Beside fn k i x y
      on f at (same x) = alike x
      on f at (less r e n line set free) = fewer f r e n line at set free

      by : (a b : Option Func) → slice_get p.funcs fn ≡ a → Pair IsWithout a b → Beside fn k i (item_in (blocks_of a) k i) (item_in (blocks_of b) k i)
      by a b at neither = alike None
      by a b at (both f g e) = on f at (item_without f g e k i)

  -- ---- tests of the pending exception
  question_same : {fn k i : ℕ} {x y : Option Item} → Beside fn k i x y → question y ≡ question x
  question_same (alike x) = refl
  question_same (fewer f r e n line at set free) = refl

  answered_same : {fn k i : ℕ} {x y : Option Item} → Beside fn k i x y → (n : ℕ) (flag : Reg) → is_answered y n flag ≡ is_answered x n flag
  answered_same (alike x) n flag = refl
  answered_same (fewer f r e m line at set free) n flag = refl

  abbrev is_second_of : Option Item → ℕ → Option Reg → Bool
  is_second_of z m o = option_map_or (is_answered z m) o false

  second_same : {fn k i j : ℕ} {x y u v : Option Item} → Beside fn k i x y → Beside fn k j u v → (n : ℕ) → is_second_test y v n ≡ is_second_test x u n
  second_same {fn} {k} {i} {j} {x} {y} {u} {v} h t n =
      ap (λ o. is_second_of v n o) (question_same h) ∙ by (question x)
    where
      by : (o : Option Reg) → is_second_of v n o ≡ is_second_of u n o
      by None = refl
      by (Some flag) = answered_same t n flag

  asked_same : (fn : ℕ) (x : Option Item) → is_asked (item_at q fn) x ≡ is_asked (item_at p fn) x
  asked_same fn None = refl
  asked_same fn (Some (Do o line)) = refl
  asked_same fn (Some (End (Goto t))) = refl
  asked_same fn (Some (End (If r a b))) = refl
  asked_same fn (Some (End (IfError r e n line))) = second_same (beside fn e 0) (beside fn e 1) n
  asked_same fn (Some (End (Return r))) = refl
  asked_same fn (Some (End Unreachable)) = refl

  -- ---- edges behind an operation
  module _ (fn k i : ℕ) (o : Op) {line : ℕ} (here : item_at p fn k i ≡ Some (Do o line)) where
    -- a test of the operation's target stays
    untested : (f : Func) (e : Edge) (r s : Reg) → slice_get p.funcs fn ≡ Some f → e ≡ edge_of_op f.regs o → IsTestOf r.0 e → (UnsetAt f.regs f.blocks s.0 k (suc i) → ⊥) → nat_eq r.0 s.0 ≡ false
    untested f e r s at is tests set = by (nat_eq r.0 s.0) refl
      where
        by : (b : Bool) → nat_eq r.0 s.0 ≡ b → nat_eq r.0 s.0 ≡ false
        by false h = h
        by true h =
            let equal : r.0 ≡ s.0 = eqb-true r.0 s.0 h in
            let l : Leaves f.regs o s.0 = leaves f.regs o s.0 (subst (λ n. IsTestOf n (edge_of_op f.regs o)) equal (subst (IsTestOf r.0) is tests)) in
            let item : item_in f.blocks k i ≡ Some (Do o line) = sym (ap (λ x. item_in (blocks_of x) k i) at) ∙ here in
            absurd (set (written k i k (suc i) o item l.writes l.unsure (passes k i o item (l.passed (item_in f.blocks k (suc i))))))

    edge_by : (e : Edge) → e ≡ edge_of_op (registers_of p fn) o → {x y : Option Item} → Beside fn k (suc i) x y → is_edge (item_at q fn) e y ≡ is_edge (item_at p fn) e x
    edge_by NoEdge is h = refl
    edge_by (Tests r) is (alike x) = refl
    edge_by (Tests r) is (fewer f s e n source at set free) =
        sym (untested f (Tests r) r s at (is ∙ ap (λ z. edge_of_op (declared_of z) o) at) refl set)
    edge_by (TestsTwice r) is (alike x) = ap (λ b. is_tested r x && b) (asked_same fn x)
    edge_by (TestsTwice r) is (fewer f s e n source at set free) =
        sym (ap (λ b. b && is_asked (item_at p fn) (Some (End (IfError s e n source)))) (untested f (TestsTwice r) r s at (is ∙ ap (λ z. edge_of_op (declared_of z) o) at) refl set))
    edge_by Jumps is (alike x) = refl
    edge_by Jumps is (fewer f s e n source at set free) =
        let item : item_in f.blocks k i ≡ Some (Do o line) = sym (ap (λ x. item_in (blocks_of x) k i) at) ∙ here in
        let edge : edge_of_op f.regs o ≡ Jumps = sym (is ∙ ap (λ z. edge_of_op (declared_of z) o) at) in
        absurd (free i line o refl item edge)

    pub edge_same : (e : Edge) → e ≡ edge_of_op (registers_of p fn) o → SameEdge p gs e fn k (i + 1)
    edge_same e is =
        let more : i + 1 ≡ suc i = omega arith in
        ap (λ n. is_edge (item_at q fn) e (item_at q fn k n)) more
        ∙ (edge_by e is (beside fn k (suc i)) ∙ sym (ap (λ n. is_edge (item_at p fn) e (item_at p fn k n)) more))
