-- A program without tests of registers that are surely set: each register that holds the error value of its type may be unset where its
-- frame stands, so a test that was left out would have found a value.
use Rattle.std.proofs.Common.{◌≡◌, refl, sym, ◌∙◌, ap, ℕ, zero, suc, ◌≤◌, arith, Bool, true, false, cond, List, [], ◌∷◌, length, Option, Some, None, ◌⊎◌, inl, inr}
use Rattle.std.specs.Prelude.{slice_get, nat_eq}
use Rattle.std.specs.Option.{option_map}
use Rattle.std.proofs.lemmas.Bool.{eqb-true}
use Rattle.ir_core.specs.declared.code.Reg.{Reg}
use Rattle.ir_core.specs.declared.code.RType.{RType}
use Rattle.ir_core.specs.declared.code.Op.{Op}
use Rattle.ir_core.specs.declared.code.Last.{Last}
use Rattle.ir_core.specs.declared.code.Last.TheVariants.{IfError}
use Rattle.ir_core.specs.declared.code.Func.{Func}
use Rattle.ir_core.specs.declared.code.Program.{Program}
use Rattle.ir_core.specs.declared.kind.Edge.{Edge}
use Rattle.ir_core.specs.declared.kind.Edge.TheVariants.{NoEdge, Tests, TestsTwice, Jumps}
use Rattle.ir_core.specs.Items.{Item, Do, End, item_in, handler_in, blocks_of}
use Rattle.ir_core.specs.Rows.{Declared, type_of_reg, edge_of_op}
use Rattle.ir_core.specs.Registers.{is_error, Regs}
use Rattle.ir_core.specs.Effects.{World}
use Rattle.ir_core.specs.Meaning.{Frame, Waiting, Mode, if_some, to_block, declared_of, registers_of, item_at, handler_at, act}
use Rattle.ir_core.specs.Missing.{is_some_edge}
use Rattle.liveness.specs.Paths.{is_among, is_target, write_of, is_caught}
use Rattle.unset_tests.specs.Alike.{IsAlike, AreEach}
use Rattle.unset_tests.specs.Unset.{sets, is_passed, of_test, goes_unset, Goes, passes, fails, UnsetAt, undeclared, entry, written, kept, jumped}
use Rattle.unset_tests.specs.Without.{IsWithout}
use Rattle.unset_tests.proofs.Frames.{among_first, among_second, Puts, Takes, jumps_to, holds_to, fails_to, unset_to, set_to, GoesOn}
use Rattle.unset_tests.proofs.Kept.{some_same}
use Rattle.unset_tests.proofs.Stepping.{with_funcs, registers_same, DoSame}
use Rattle.unset_tests.proofs.Each.{each_of}
use Rattle.unset_tests.proofs.Edges.{handlers, Beside, alike, fewer, beside, edge_same}

-- a register that has no type is not declared
none_past : (ds : Declared) (n : ℕ) → option_map (λ (d : List ℕ × RType). d.1) (slice_get ds n) ≡ None → length ds ≤ n
none_past [] n e = omega arith
none_past (d ∷ ds) zero e = absurd (cc)
none_past (d ∷ ds) (suc n) e = let h = none_past ds n e in omega (arith, h)

caught_some : (at : ℕ → ℕ → Option Item) (e : Edge) (behind : Option Item) → is_caught at e behind ≡ true → is_some_edge e ≡ true
caught_some at NoEdge behind h = absurd (cc)
caught_some at (Tests r) behind h = refl
caught_some at (TestsTwice r) behind h = refl
caught_some at Jumps behind h = refl

test_first : (b : Bool) (e n : ℕ) → is_among (of_test b e n) e ≡ true
test_first true e n = among_first e []
test_first false e n = among_first e (n ∷ [])

module _ (p : Program) where
  abbrev pub MayBeUnset : Frame → Type 0
  MayBeUnset f =
      (g : Func) → slice_get p.funcs f.fn ≡ Some g → (r : ℕ) (t : RType) → type_of_reg g.regs (record { 0 = r }) ≡ Some t → is_error t (f.regs r) ≡ true → UnsetAt g.regs g.blocks r f.block f.place

  -- ---- one operation
  module _ (f : Frame) (o : Op) (line : ℕ) (here : item_at p f.fn f.block f.place ≡ Some (Do o line)) (good : MayBeUnset f) where
    item : (g : Func) → slice_get p.funcs f.fn ≡ Some g → item_in g.blocks f.block f.place ≡ Some (Do o line)
    item g at = sym (ap (λ x. item_in (blocks_of x) f.block f.place) at) ∙ here

    moved : (regs : Regs) → Puts p f o regs → (c k : ℕ) → ((g : Func) → slice_get p.funcs f.fn ≡ Some g → Goes g.regs g.blocks f.block f.place c k) → MayBeUnset (record { fn = f.fn; block = c; place = k; regs = regs })
    moved regs left c k goes_to g at r t type error = by (left g.regs (ap declared_of at) r t type error)
      where
        by : ((is_target (write_of o) r ≡ true) × (sets g.regs o ≡ false)) ⊎ ((is_target (write_of o) r ≡ false) × (is_error t (f.regs r) ≡ true)) → UnsetAt g.regs g.blocks r c k
        by (inl h) = written f.block f.place c k o (item g at) h.0 h.1 (goes_to g at)
        by (inr h) = kept f.block f.place c k o (good g at r t type h.1) (item g at) h.0 (goes_to g at)

    passed_on : (regs : Regs) → Puts p f o regs → is_passed (edge_of_op (registers_of p f.fn) o) (item_at p f.fn f.block (suc f.place)) ≡ true → MayBeUnset (record { fn = f.fn; block = f.block; place = suc f.place; regs = regs })
    passed_on regs left over =
        moved regs left f.block (suc f.place) (λ g at.
        passes f.block f.place o (item g at) (sym (ap (λ z. is_passed (edge_of_op (declared_of z) o) (item_in (blocks_of z) f.block (suc f.place))) at) ∙ over))

    caught_on : (regs : Regs) → Puts p f o regs → is_caught (item_at p f.fn) (edge_of_op (registers_of p f.fn) o) (item_at p f.fn f.block (suc f.place)) ≡ true → (h : ℕ) → handler_at p f.fn f.block ≡ Some h → MayBeUnset (record { fn = f.fn; block = h; place = 0; regs = regs })
    caught_on regs left caught h is =
        let some : is_some_edge (edge_of_op (registers_of p f.fn) o) ≡ true = caught_some (item_at p f.fn) (edge_of_op (registers_of p f.fn) o) (item_at p f.fn f.block (suc f.place)) caught in
        moved regs left h 0 (λ g at.
        fails f.block f.place h o (item g at) (ap (λ z. is_some_edge (edge_of_op (declared_of z) o)) (sym at) ∙ some) (ap (λ z. handler_in (blocks_of z) f.block) (sym at) ∙ is))

  -- ---- ends of blocks
  -- a register that is unset where another one is not
  test_second : (f : Frame) (s : Reg) (e n line : ℕ) (t : RType) → type_of_reg (registers_of p f.fn) s ≡ Some t → is_error t (f.regs s.0) ≡ false → (g : Func) (r : ℕ) (u : RType) → slice_get p.funcs f.fn ≡ Some g → type_of_reg g.regs (record { 0 = r }) ≡ Some u → is_error u (f.regs r) ≡ true → is_among (goes_unset r (IfError s e n line)) n ≡ true
  test_second f s e n line t type holds g r u at other error = by (nat_eq s.0 r) refl
    where
      by : (b : Bool) → nat_eq s.0 r ≡ b → is_among (of_test b e n) n ≡ true
      by false h = among_second e n []
      by true h =
          let same : s.0 ≡ r = eqb-true s.0 r h in
          let types : Some t ≡ Some u = sym type ∙ (ap (λ z. type_of_reg (declared_of z) s) at ∙ (ap (λ k. type_of_reg g.regs (record { 0 = k })) same ∙ other)) in
          let clash : false ≡ true = sym holds ∙ (ap (λ k. is_error t (f.regs k)) same ∙ (ap (λ z. is_error z (f.regs r)) (some_same t u types) ∙ error)) in
          absurd (cc)

  taken_on : (f : Frame) (l : Last) → item_at p f.fn f.block f.place ≡ Some (End l) → MayBeUnset f → (t : ℕ) → Takes p f l t → MayBeUnset (record { fn = f.fn; block = t; place = 0; regs = f.regs })
  taken_on f l here good t takes g at r u type error =
      jumped f.block f.place t l (good g at r u type error) (sym (ap (λ x. item_in (blocks_of x) f.block f.place) at) ∙ here) (by takes)
    where
      by : {k : Last} {c : ℕ} → Takes p f k c → is_among (goes_unset r k) c ≡ true
      by (jumps_to c) = among_first c []
      by (holds_to s a b) = among_first a (b ∷ [])
      by (fails_to s a b) = among_second a b []
      by (unset_to s e n line) = test_first (nat_eq s.0 r) e n
      by (set_to s e n line v is holds) = test_second f s e n line v is holds g r u at type error

  pub unset_goes_on : GoesOn p MayBeUnset
  unset_goes_on = record {
    begins = λ fn regs g at r t type error. entry;
    passed = passed_on;
    caught = caught_on;
    taken = taken_on;
  }

module _ (p : Program) (gs : List Func) (all : AreEach IsWithout p.funcs gs) where
  abbrev q : Program
  q = with_funcs p gs

  module _ (m : Mode) (f : Frame) (below : List Waiting) (w : World) (good : MayBeUnset p f) where
    -- a test that was left out would have found a value
    test_gone : (g : Func) (r : Reg) (e n line : ℕ) → slice_get p.funcs f.fn ≡ Some g → (UnsetAt g.regs g.blocks r.0 f.block f.place → ⊥) → to_block f n below w ≡ act m q (Some (End (IfError r e n line))) f below w
    test_gone g r e n line at sure =
        by (type_of_reg (registers_of p f.fn) r) refl
        ∙ sym (ap (λ ds. if_some (type_of_reg ds r) (λ t. cond (is_error t (f.regs r.0)) (to_block f e below w) (to_block f n below w))) (registers_same p gs (each_of IsWithout IsAlike (λ x y h. h.alike) p.funcs gs all) f.fn))
      where
        type_is : type_of_reg (registers_of p f.fn) r ≡ type_of_reg g.regs r
        type_is = ap (λ z. type_of_reg (declared_of z) r) at

        held : (t : RType) → type_of_reg (registers_of p f.fn) r ≡ Some t → (b : Bool) → is_error t (f.regs r.0) ≡ b → to_block f n below w ≡ cond b (to_block f e below w) (to_block f n below w)
        held t type false error = refl
        held t type true error = absurd (sure (good g at r.0 t (sym type_is ∙ type) error))

        by : (x : Option RType) → type_of_reg (registers_of p f.fn) r ≡ x → to_block f n below w ≡ if_some x (λ t. cond (is_error t (f.regs r.0)) (to_block f e below w) (to_block f n below w))
        by None type = absurd (sure (undeclared f.block f.place (none_past g.regs r.0 (sym type_is ∙ type))))
        by (Some t) type = held t type (is_error t (f.regs r.0)) refl

    acts_same : {x y : Option Item} → Beside p gs all f.fn f.block f.place x y → act m q y f below w ≡ act m q x f below w
    acts_same (alike x) = refl
    acts_same (fewer g r e n line at sure free) = test_gone g r e n line at sure

  pub without_does_same : DoSame p gs (MayBeUnset p)
  without_does_same = record {
    handlers = λ f good. handlers p gs all f.fn f.block;
    edges = λ f o line here good. edge_same p gs all f.fn f.block f.place o here (edge_of_op (registers_of p f.fn) o) refl;
    acts = λ m f below w good. acts_same m f below w good (beside p gs all f.fn f.block f.place);
  }
