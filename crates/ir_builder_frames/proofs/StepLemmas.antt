-- Single operations, and what they leave in registers.
use Rattle.ir_builder_frames.proofs.Common.{◌≡◌, ℕ, ◌+◌, List, length, Some, None, refl, sym, ap, ◌∙◌, arith, option_map, option_and_then, Value, Primitive, State, RType, PArg, Op, Lit, Prim, Program, Do, NeverFails, failing, Declared, type_of_reg, Held, Holds, Regs, put, literal_of, look, World, Argument, Acts, effect, Waiting, Strict, value_of, read, arguments, registers_of, item_at, step, Building, put_same, put_other, op_step, lit_step, Has, Adds, world, running, Makes}
use Rattle.ir_core.specs.declared.code.Lit.{Lit as Literal}
use Rattle.ir_core.specs.Effects.{Gives}
use Rattle.ir_builder_frames.proofs.HeldLemmas.{type_has, adds_has}
use Rattle.ir_builder_frames.proofs.ComingLemmas.{leads_step}

pub look_is : (declared : Declared) (regs : Regs) (x : ℕ) (t : RType) → type_of_reg declared (record { 0 = x }) ≡ Some t → look declared regs (record { 0 = x }) ≡ Some (regs x)
look_is declared regs x t e = ap (option_map (λ (u : RType). regs x)) e

pub read_is : (declared : Declared) (regs : Regs) (x : ℕ) (t : RType) (v : Value) → type_of_reg declared (record { 0 = x }) ≡ Some t → regs x ≡ Holds v → read declared regs (record { 0 = x }) ≡ Some v
read_is declared regs x t v e is = ap (option_and_then value_of) (look_is declared regs x t e) ∙ ap value_of is

module _ (p : Program) (fn k i : ℕ) (regs : Regs) (below : List Waiting) (s : State) where
  pub prim_step : {line : ℕ} (r : ℕ) (q : Primitive) (args : List PArg) (t : RType) (xs : List Argument) (v : Value) → item_at p fn k i ≡ Some (Do (Prim (Some record { 0 = r }) q args) line) → type_of_reg (registers_of p fn) (record { 0 = r }) ≡ Some t → arguments (registers_of p fn) regs args ≡ Some xs → failing q ≡ NeverFails → effect p q xs (world None s) ≡ Gives v (world None s) → step Strict p (running fn k i regs below (world None s)) ≡ running fn k (i + 1) (put regs r (Holds v)) below (world None s)
  prim_step r q args t xs v at type given never does =
      op_step Strict p (record { fn = fn; block = k; place = i; regs = regs }) below (world None s) (Prim (Some record { 0 = r }) q args) at
      ∙ rw (given, does, type, never) refl

  -- one that gives no value, and acts on the world
  pub acts_step : {line : ℕ} (q : Primitive) (args : List PArg) (xs : List Argument) (w : World) → item_at p fn k i ≡ Some (Do (Prim None q args) line) → arguments (registers_of p fn) regs args ≡ Some xs → failing q ≡ NeverFails → effect p q xs (world None s) ≡ Acts w → step Strict p (running fn k i regs below (world None s)) ≡ running fn k (i + 1) regs below w
  acts_step q args xs w at given never does =
      op_step Strict p (record { fn = fn; block = k; place = i; regs = regs }) below (world None s) (Prim None q args) at
      ∙ rw (given, does, never) refl

-- a new register, by one step
adds_makes : {line : ℕ} (b c : Building) (r : ℕ) (t : RType) (o : Op) (from : Regs → Held → Type 0) → Adds b c r t o line → ((p : Program) (fn : ℕ) → Has p fn c → (regs : Regs) (below : List Waiting) (s : State) (h : Held) → from regs h → step Strict p (running fn (length b.blocks) (length b.ops) regs below (world None s)) ≡ running fn (length b.blocks) (length b.ops + 1) (put regs r h) below (world None s)) → Makes b c r t from
adds_makes b c r t o from a does = record {
  extends = a.extends;
  type = a.type;
  above = omega (arith, a.made);
  blocks = a.blocks;
  runs = λ p fn has regs below s h f.
      let is : running fn (length b.blocks) (length b.ops + 1) (put regs r h) below (world None s) ≡ running fn (length c.blocks) (length c.ops) (put regs r h) below (world None s) = rw (a.blocks, a.ops) refl in
      (put regs r h, leads_step p _ _ (does p fn has regs below s h f ∙ is), put_same regs r h, λ j lt. put_other regs r j h (let z = a.made in λ e. omega arith));
}

pub literal_makes : {line : ℕ} (b c : Building) (r : ℕ) (t : RType) (l : Literal) (held : Held) → Adds b c r t (Lit record { 0 = r } l) line → literal_of t l ≡ Some held → Makes b c r t (λ regs h. h ≡ held)
literal_makes b c r t l held a is = adds_makes b c r t _ _ a (λ p fn has regs below s h f.
    lit_step Strict p (record { fn = fn; block = length b.blocks; place = length b.ops; regs = regs }) below (world None s) (record { 0 = r }) l t h (adds_has p fn b c r t _ a has) (type_has p fn c r t has a.type) (is ∙ ap Some (sym f)))
