-- What an operation, or the return of a call, does not write stays in its register.
use Rattle.std.proofs.Common.{◌≡◌, refl, ap, ℕ, zero, suc, Bool, true, false, cond, List, ◌∷◌, Option, Some, None}
use Rattle.std.specs.Prelude.{slice_get}
use Rattle.value_core.specs.Exceptions.{Thrown}
use Rattle.c_core.specs.declared.primitive.Primitive.{Primitive}
use Rattle.ir_core.specs.declared.code.Reg.{Reg}
use Rattle.ir_core.specs.declared.code.Op.{Op}
use Rattle.ir_core.specs.declared.code.Op.TheVariants.{Move, Lit, Prim, Call, Virtual, TraitCall, Turn, Inc, Dec, XDec}
use Rattle.ir_core.specs.declared.code.Last.TheVariants.{Return}
use Rattle.ir_core.specs.declared.code.Program.{Program}
use Rattle.ir_core.specs.declared.kind.Edge.{Edge}
use Rattle.ir_core.specs.declared.kind.Edge.TheVariants.{NoEdge, Tests, TestsTwice, Jumps}
use Rattle.ir_core.specs.Registers.{Held, Holds, Regs, put, look, literal_of, error_of}
use Rattle.ir_core.specs.Rows.{type_of_reg, edge_of_prim, edge_of_call}
use Rattle.ir_core.specs.Effects.{World, Effect, Wrong, Gives, Acts, Fails, Ends, IfTarget, IfWritten, effect}
use Rattle.ir_core.specs.Meaning.{Frame, Waiting, Config, Runs, Leaves, Ended, Stuck, Fitting, Way, Well, Badly, Wrongly, if_some, if_calm, goes, is_refused, arguments, may_stand, typed, is_clear, is_edge, item_at, registers_of, write, write_error, failed, succeeds, applied, turned, returned, way, do_op, do_last}
use Rattle.ir_core.specs.Meaning as meaning
use Rattle.liveness.specs.Paths.{is_target, write_of, number_of}
use Rattle.std.specs.Option.{option_map}
use Rattle.refcount_insert_lines_laws.specs.Lines.{stays}
use Rattle.refcount_insert_runs_laws.proofs.Numbers.{eq_swap}

-- where a run goes on, each register but the target is as it was
module _ (old : Regs) (to : Option ℕ) where
  abbrev pub Same : Regs → Type 0
  Same regs = (r : ℕ) → is_target to r ≡ false → regs r ≡ old r

  abbrev pub Kept : Config → Type 0
  Kept (Runs f below w) = Same f.regs
  Kept (Leaves fn below w) = Unit {0}
  Kept (Ended e w) = Unit {0}
  Kept Stuck = Unit {0}

  some_kept : {A : Type 0} (o : Option A) (go : A → Config) → ((a : A) → Kept (go a)) → Kept (if_some o go)
  some_kept None go h = tt
  some_kept (Some a) go h = h a

  choice_kept : (b : Bool) (c d : Config) → Kept c → Kept d → Kept (cond b c d)
  choice_kept true c d h k = h
  choice_kept false c d h k = k

  calm_kept : (o : Option Thrown) (c : Config) → Kept c → Kept (if_calm o c)
  calm_kept None c h = h
  calm_kept (Some e) c h = tt

put_other : (old : Regs) (x : ℕ) (h : Held) → Same old (Some x) (put old x h)
put_other old x h r e = ap (λ z. cond z h (old r)) (eq_swap x r e)

module _ (p : Program) where
  failed_kept : (old : Regs) (to : Option ℕ) (e : Edge) (f : Frame) (below : List Waiting) (w : World) → Same old to f.regs → Kept old to (failed Fitting p e f below w)
  failed_kept old to NoEdge f below w h = tt
  failed_kept old to (Tests r) f below w h =
      choice_kept old to (is_edge (item_at p f.fn) (Tests r) (item_at p f.fn f.block f.place)) (Runs f below w) Stuck h tt
  failed_kept old to (TestsTwice r) f below w h =
      choice_kept old to (is_edge (item_at p f.fn) (TestsTwice r) (item_at p f.fn f.block f.place)) (Runs f below w) Stuck h tt
  failed_kept old to Jumps f below w h =
      choice_kept old to (is_edge (item_at p f.fn) Jumps (item_at p f.fn f.block f.place)) (Runs f below w) Stuck h tt

  module _ (f : Frame) (below : List Waiting) where
    write_kept : (r : Reg) (h : Held) (w : World) (go : Regs → Config) → ((regs : Regs) → Same f.regs (Some r.0) regs → Kept f.regs (Some r.0) (go regs)) → Kept f.regs (Some r.0) (write p f.fn f.regs r h go)
    write_kept r h w go on =
        some_kept f.regs (Some r.0) (type_of_reg (registers_of p f.fn) r) _ (λ t. on (put f.regs r.0 h) (put_other f.regs r.0 h))

    applied_some : (e : Edge) (r : Reg) (x : Effect) → Kept f.regs (Some r.0) (applied Fitting p e (Some r) f below x)
    applied_some e r Wrong = tt
    applied_some e r (Gives v w) =
        write_kept r (Holds v) w (λ regs. succeeds Fitting p e f below regs w) (λ regs same. choice_kept f.regs (Some r.0) (is_clear e w.pending) (goes f below regs w) Stuck same tt)
    applied_some e r (Acts w) = tt
    applied_some e r (Fails x w) =
        some_kept f.regs (Some r.0) (type_of_reg (registers_of p f.fn) r) _
        (λ t. failed_kept f.regs (Some r.0) e (meaning.next f (put f.regs r.0 (error_of t))) below (record w { pending = Some x }) (put_other f.regs r.0 (error_of t)))
    applied_some e r (Ends x w) = tt
    applied_some e r (IfTarget k x) = tt
    applied_some e r (IfWritten k x) = tt

    applied_none : (e : Edge) (x : Effect) → Kept f.regs None (applied Fitting p e None f below x)
    applied_none e Wrong = tt
    applied_none e (Gives v w) = tt
    applied_none e (Acts w) = choice_kept f.regs None (is_clear e w.pending) (goes f below f.regs w) Stuck (λ r same. refl) tt
    applied_none e (Fails x w) =
        failed_kept f.regs None e (meaning.next f f.regs) below (record w { pending = Some x }) (λ r same. refl)
    applied_none e (Ends x w) = tt
    applied_none e (IfTarget k x) = tt
    applied_none e (IfWritten k x) = tt

    prim_kept : (to : Option Reg) (q : Primitive) (e : Edge) (x : Effect) → Kept f.regs (option_map number_of to) (applied Fitting p e to f below x)
    prim_kept None q e x = applied_none e x
    prim_kept (Some r) q e x = applied_some e r x

    turned_kept : (w : World) (n : ℕ) → Kept f.regs None (turned f below w n)
    turned_kept w zero = tt
    turned_kept w (suc n) = λ r same. refl

    -- an operation that stays in its function
    pub op_kept : (o : Op) → stays o ≡ true → (w : World) → Kept f.regs (write_of o) (do_op Fitting p o f below w)
    op_kept (Move r s) e w =
        some_kept f.regs (Some r.0) (type_of_reg (registers_of p f.fn) s) _
        (λ t. choice_kept f.regs (Some r.0) (is_refused Fitting t (f.regs s.0)) Stuck (write p f.fn f.regs r (f.regs s.0) (λ regs. goes f below regs w)) tt (write_kept r (f.regs s.0) w (λ regs. goes f below regs w) (λ regs same. same)))
    op_kept (Lit r l) e w =
        some_kept f.regs (Some r.0) (type_of_reg (registers_of p f.fn) r) _
        (λ t. some_kept f.regs (Some r.0) (literal_of t l) _ (λ h. put_other f.regs r.0 h))
    op_kept (Prim to q args) e w =
        choice_kept f.regs (write_of (Prim to q args)) (may_stand w.pending q) (if_some (arguments (registers_of p f.fn) f.regs args) (λ xs. applied Fitting p (edge_of_prim (registers_of p f.fn) to q) to f below (typed (registers_of p f.fn) to args (effect p q xs w)))) Stuck
        (some_kept f.regs (write_of (Prim to q args)) (arguments (registers_of p f.fn) f.regs args) _ (λ xs. prim_kept to q (edge_of_prim (registers_of p f.fn) to q) (typed (registers_of p f.fn) to args (effect p q xs w))))
        tt
    op_kept (Call x g args) e w = absurd (cc)
    op_kept (Virtual x o n args) e w = absurd (cc)
    op_kept (TraitCall x o t n args) e w = absurd (cc)
    op_kept Turn e w = calm_kept f.regs None w.pending (turned f below w w.turns) (turned_kept w w.turns)
    op_kept (Inc r) e w = absurd (cc)
    op_kept (Dec r) e w = absurd (cc)
    op_kept (XDec r) e w = absurd (cc)

  -- a return to a frame that waits
  module _ (k : Waiting) (ks : List Waiting) where
    back_kept : (v : Way) (h : Held) (w : World) → Kept k.frame.regs (Some k.into.0) (returned Fitting p v h (k ∷ ks) w)
    back_kept Well h w = write_kept k.frame ks k.into h w (λ regs. goes k.frame ks regs w) (λ regs same. same)
    back_kept Badly h w =
        some_kept k.frame.regs (Some k.into.0) (type_of_reg (registers_of p k.frame.fn) k.into) _
        (λ t. failed_kept k.frame.regs (Some k.into.0) (edge_of_call (registers_of p k.frame.fn) k.into) (meaning.next k.frame (put k.frame.regs k.into.0 (error_of t))) ks w (put_other k.frame.regs k.into.0 (error_of t)))
    back_kept Wrongly h w = tt

    pub return_kept : (x : Reg) (f : Frame) (w : World) → Kept k.frame.regs (Some k.into.0) (do_last Fitting p (Return x) f (k ∷ ks) w)
    return_kept x f w =
        some_kept k.frame.regs (Some k.into.0) (slice_get p.funcs f.fn) _
        (λ g. some_kept k.frame.regs (Some k.into.0) (look g.regs f.regs x) _ (λ h. back_kept (way g.ret h w.pending) h w))
