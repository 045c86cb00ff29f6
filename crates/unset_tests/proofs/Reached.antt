-- A program whose blocks that no path reaches are emptied: each frame of a run stands where some path comes, so what it does there is the
-- same.
use Rattle.std.proofs.Common.{◌≡◌, refl, sym, ◌∙◌, ap, subst, ℕ, zero, suc, ◌+◌, arith, true, List, [], ◌∷◌, Option, Some, None, inl, inr}
use Rattle.std.specs.Prelude.{slice_get, ◌&&◌}
use Rattle.std.specs.Option.{option_and_then}
use Rattle.ir_core.specs.declared.code.Op.{Op}
use Rattle.ir_core.specs.declared.code.Last.{Last}
use Rattle.ir_core.specs.declared.code.Last.TheVariants.{Goto, If, IfError, Return, Unreachable}
use Rattle.ir_core.specs.declared.code.Block.{Block}
use Rattle.ir_core.specs.declared.code.Func.{Func}
use Rattle.ir_core.specs.declared.code.Program.{Program}
use Rattle.ir_core.specs.declared.kind.Edge.{Edge}
use Rattle.ir_core.specs.declared.kind.Edge.TheVariants.{NoEdge, Tests, TestsTwice, Jumps}
use Rattle.ir_core.specs.Items.{Item, Do, End, item_of, item_in, handler_of, handler_in, blocks_of}
use Rattle.ir_core.specs.Rows.{edge_of_op}
use Rattle.ir_core.specs.Registers.{Regs}
use Rattle.ir_core.specs.Meaning.{Frame, is_second_test, is_tested, is_asked, is_edge, declared_of, registers_of, item_at, handler_at, act}
use Rattle.liveness.specs.Paths.{targets, is_caught, passes, fails, jumps, MetAt, entry, onward}
use Rattle.unset_tests.specs.Alike.{AreEach}
use Rattle.unset_tests.specs.Emptied.{IsBlockEmptied, AreBlocksEmptied, IsEmptied}
use Rattle.unset_tests.proofs.Each.{Pair, neither, both, each_at}
use Rattle.unset_tests.proofs.Frames.{Puts, Takes, jumps_to, holds_to, fails_to, unset_to, set_to, GoesOn}
use Rattle.unset_tests.proofs.Stepping.{with_funcs, SameEdge, DoSame}

-- ---- paths
module _ (f : Func) where
  -- a path that comes to a place of a block came to its start
  pub met_start : (b p : ℕ) → MetAt f b p → MetAt f b 0
  met_start b p entry = entry
  met_start b p (onward x y c q m (passes x2 y2 o e)) = met_start x y m
  met_start b p (onward x y c q m (fails x2 y2 h o e caught at)) =
      onward x y b 0 m (fails x y b o e caught at)
  met_start b p (onward x y c q m (jumps x2 y2 i t l e at)) =
      onward x y b 0 m (jumps x y i b l e at)

  -- and an end goes to each of its targets
  pub met_over : (b p i t : ℕ) (l : Last) → item_in f.blocks b p ≡ Some (End l) → slice_get (targets l) i ≡ Some t → MetAt f b p → MetAt f t 0
  met_over b p i t l here to m = onward b p t 0 m (jumps b p i t l here to)

  pub met_next : (b p : ℕ) (o : Op) {line : ℕ} → item_in f.blocks b p ≡ Some (Do o line) → MetAt f b p → MetAt f b (suc p)
  met_next b p o here m = onward b p b (suc p) m (passes b p o here)

-- ---- one function
module _ (f : Func) where
  -- blocks from number k on: where a path comes they are the same
  same_from : (k : ℕ) (bs cs : List Block) → AreBlocksEmptied f k bs cs → (j : ℕ) → MetAt f (k + j) 0 → slice_get cs j ≡ slice_get bs j
  same_from k [] [] h j m = refl
  same_from k [] (c ∷ cs) h j m = absurd h
  same_from k (b ∷ bs) [] h j m = absurd h
  same_from k (b ∷ bs) (c ∷ cs) h zero m = by h.0
    where
      by : IsBlockEmptied f k b c → Some c ≡ Some b
      by (inl same) = ap (λ z. Some z) same.1
      by (inr none) = let at : k + 0 ≡ k = omega arith in absurd (none.0 (subst (λ n. MetAt f n 0) at m))
  same_from k (b ∷ bs) (c ∷ cs) h (suc j) m =
      let at : k + suc j ≡ suc k + j = omega arith in same_from (suc k) bs cs h.1 j (subst (λ n. MetAt f n 0) at m)

module _ (f g : Func) (h : IsEmptied f g) where
  pub block_same : (k : ℕ) → MetAt f k 0 → slice_get g.blocks k ≡ slice_get f.blocks k
  block_same k m = let at : k ≡ 0 + k = omega arith in same_from f 0 f.blocks g.blocks h.blocks k (subst (λ n. MetAt f n 0) at m)

  item_same : (k i : ℕ) → MetAt f k 0 → item_in g.blocks k i ≡ item_in f.blocks k i
  item_same k i m = ap (λ o. item_of o i) (block_same k m)

  handler_same : (k : ℕ) → MetAt f k 0 → handler_in g.blocks k ≡ handler_in f.blocks k
  handler_same k m = ap (λ o. option_and_then handler_of o) (block_same k m)

  -- what is to stand behind an operation does, or does not, in both: its second test too stands where a path comes
  module _ (k i : ℕ) (m : MetAt f k i) where
    asked_same : (x : Option Item) → item_in f.blocks k i ≡ x → is_asked (item_in g.blocks) x ≡ is_asked (item_in f.blocks) x
    asked_same None at = refl
    asked_same (Some (Do o line)) at = refl
    asked_same (Some (End (Goto t))) at = refl
    asked_same (Some (End (If r a b))) at = refl
    asked_same (Some (End (IfError r e n line))) at =
        let there : MetAt f e 0 = met_over f k i 0 e (IfError r e n line) at refl m in
        ap (λ a. is_second_test a (item_in g.blocks e 1) n) (item_same e 0 there) ∙ ap (λ b. is_second_test (item_in f.blocks e 0) b n) (item_same e 1 there)
    asked_same (Some (End (Return r))) at = refl
    asked_same (Some (End Unreachable)) at = refl

    edge_same : (e : Edge) → is_edge (item_in g.blocks) e (item_in g.blocks k i) ≡ is_edge (item_in f.blocks) e (item_in f.blocks k i)
    edge_same e = ap (is_edge (item_in g.blocks) e) (item_same k i (met_start f k i m)) ∙ by e (item_in f.blocks k i) refl
      where
        by : (e : Edge) (x : Option Item) → item_in f.blocks k i ≡ x → is_edge (item_in g.blocks) e x ≡ is_edge (item_in f.blocks) e x
        by NoEdge x at = refl
        by (Tests r) x at = refl
        by (TestsTwice r) x at = ap (λ b. is_tested r x && b) (asked_same x at)
        by Jumps x at = refl

-- ---- programs
module _ (p : Program) where
  abbrev pub IsMet : Frame → Type 0
  IsMet f = (g : Func) → slice_get p.funcs f.fn ≡ Some g → MetAt g f.block f.place

  module _ (f : Frame) (i : Item) (here : item_at p f.fn f.block f.place ≡ Some i) (g : Func) (at : slice_get p.funcs f.fn ≡ Some g) where
    item : item_in g.blocks f.block f.place ≡ Some i
    item = sym (ap (λ x. item_in (blocks_of x) f.block f.place) at) ∙ here

  caught_on : (f : Frame) (o : Op) (line : ℕ) → item_at p f.fn f.block f.place ≡ Some (Do o line) → IsMet f → (regs : Regs) → Puts p f o regs → is_caught (item_at p f.fn) (edge_of_op (registers_of p f.fn) o) (item_at p f.fn f.block (suc f.place)) ≡ true → (h : ℕ) → handler_at p f.fn f.block ≡ Some h → IsMet (record { fn = f.fn; block = h; place = 0; regs = regs })
  caught_on f o line here good regs left caught h is g at =
      onward f.block f.place h 0 (good g at) (fails f.block f.place h o (item f (Do o line) here g at)
      (sym (ap (λ z. is_caught (item_in (blocks_of z)) (edge_of_op (declared_of z) o) (item_in (blocks_of z) f.block (suc f.place))) at) ∙ caught)
      (sym (ap (λ z. handler_in (blocks_of z) f.block) at) ∙ is))

  taken_to : (f : Frame) {l : Last} {t : ℕ} → Takes p f l t → (i : ℕ) × (slice_get (targets l) i ≡ Some t)
  taken_to f (jumps_to t) = (0, refl)
  taken_to f (holds_to r a b) = (0, refl)
  taken_to f (fails_to r a b) = (1, refl)
  taken_to f (unset_to r e n line) = (0, refl)
  taken_to f (set_to r e n line t is holds) = (1, refl)

  pub met_goes_on : GoesOn p IsMet
  met_goes_on = record {
    begins = λ fn regs g at. entry;
    passed = λ f o line here good regs left over g at. met_next g f.block f.place o (item f (Do o line) here g at) (good g at);
    caught = caught_on;
    taken = λ f l here good t takes g at. let to = taken_to f takes in met_over g f.block f.place to.0 t l (item f (End l) here g at) to.1 (good g at);
  }

module _ (p : Program) (gs : List Func) (all : AreEach IsEmptied p.funcs gs) where
  abbrev q : Program
  q = with_funcs p gs

  module _ (f : Frame) (good : IsMet p f) where
    pub handler_there : handler_at q f.fn f.block ≡ handler_at p f.fn f.block
    handler_there = by (slice_get p.funcs f.fn) (slice_get gs f.fn) refl (each_at IsEmptied p.funcs gs all f.fn)
      where
        by : (a b : Option Func) → slice_get p.funcs f.fn ≡ a → Pair IsEmptied a b → handler_in (blocks_of b) f.block ≡ handler_in (blocks_of a) f.block
        by a b at neither = refl
        by a b at (both x y e) = handler_same x y e f.block (met_start x f.block f.place (good x at))

    pub item_there : item_at q f.fn f.block f.place ≡ item_at p f.fn f.block f.place
    item_there = by (slice_get p.funcs f.fn) (slice_get gs f.fn) refl (each_at IsEmptied p.funcs gs all f.fn)
      where
        by : (a b : Option Func) → slice_get p.funcs f.fn ≡ a → Pair IsEmptied a b → item_in (blocks_of b) f.block f.place ≡ item_in (blocks_of a) f.block f.place
        by a b at neither = refl
        by a b at (both x y e) = item_same x y e f.block f.place (met_start x f.block f.place (good x at))

    pub edge_there : (o : Op) (line : ℕ) → item_at p f.fn f.block f.place ≡ Some (Do o line) → (e : Edge) → SameEdge p gs e f.fn f.block (f.place + 1)
    edge_there o line here e = by (slice_get p.funcs f.fn) (slice_get gs f.fn) refl (each_at IsEmptied p.funcs gs all f.fn)
      where
        by : (a b : Option Func) → slice_get p.funcs f.fn ≡ a → Pair IsEmptied a b → is_edge (item_in (blocks_of b)) e (item_in (blocks_of b) f.block (f.place + 1)) ≡ is_edge (item_in (blocks_of a)) e (item_in (blocks_of a) f.block (f.place + 1))
        by a b at neither = refl
        by a b at (both x y h) =
            let more : suc f.place ≡ f.place + 1 = omega arith in
            let behind : MetAt x f.block (f.place + 1) = subst (MetAt x f.block) more (met_next x f.block f.place o (item p f (Do o line) here x at) (good x at)) in
            edge_same x y h f.block (f.place + 1) behind e

  pub emptied_does_same : DoSame p gs (IsMet p)
  emptied_does_same = record {
    handlers = handler_there;
    edges = λ f o line here good. edge_there f good o line here (edge_of_op (registers_of p f.fn) o);
    acts = λ m f below w good. ap (λ x. act m q x f below w) (item_there f good);
  }
