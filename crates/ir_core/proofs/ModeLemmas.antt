-- A run of a stricter machine is one of a laxer machine, as long as it is not stuck.
use Rattle.std.proofs.Common.{◌≡◌, ◌≢◌, refl, ◌∙◌, ap, ℕ, zero, suc, Bool, true, false, cond, List, [], ◌∷◌, Option, Some, None, ◌⊎◌, inl, inr}
use Rattle.std.specs.Prelude.{slice_get}
use Rattle.ir_core.specs.declared.code.RType.{RType}
use Rattle.ir_core.specs.declared.code.Reg.{Reg}
use Rattle.ir_core.specs.declared.code.Op.{Op}
use Rattle.ir_core.specs.declared.code.Op.TheVariants.{Move, Prim}
use Rattle.ir_core.specs.declared.code.Last.{Last}
use Rattle.ir_core.specs.declared.code.Last.TheVariants.{Return}
use Rattle.ir_core.specs.declared.code.Program.{Program}
use Rattle.ir_core.specs.declared.kind.Edge.{Edge}
use Rattle.ir_core.specs.declared.kind.Edge.TheVariants.{NoEdge}
use Rattle.ir_core.specs.Items.{Item, Do, End}
use Rattle.ir_core.specs.Rows.{type_of_reg, edge_of_call, edge_of_prim}
use Rattle.ir_core.specs.Registers.{Held, error_of, Regs, put, look}
use Rattle.ir_core.specs.Effects.{World, Effect, Fails, effect}
use Rattle.ir_core.specs.Meaning.{Frame, Waiting, Config, Runs, Leaves, Stuck, Mode, Plain, Strict, Fitting, if_some, next, goes, arguments, is_refused, Way, Badly, way, is_edge, unfit, away, may_stand, typed, registers_of, item_at, handler_at, write, write_error, failed, applied, returned, do_op, do_last, act, step, steps}
use Rattle.ir_core.specs.Runs.{start, Calm, Fit}
use Rattle.ir_core.proofs.RunLemmas.{stays_stuck}

abbrev Agrees : Config → Config → Type 0
Agrees x y = (x ≡ Stuck) ⊎ (x ≡ y)

same : (x : Config) → Agrees x x
same x = inr refl

agree_some : {A : Type 0} (o : Option A) (go go' : A → Config) → ((a : A) → Agrees (go a) (go' a)) → Agrees (if_some o go) (if_some o go')
agree_some None go go' h = inl refl
agree_some (Some a) go go' h = h a

agree_cond : (b : Bool) (x x' y y' : Config) → Agrees x x' → Agrees y y' → Agrees (cond b x y) (cond b x' y')
agree_cond true x x' y y' h k = h
agree_cond false x x' y y' h k = k

-- one machine is stuck at least where the other is
record IsStricter (m k : Mode) : Type 0 where
  at_failure : (x : Config) → Agrees (unfit m x) (unfit k x)
  at_move : (t : RType) (h : Held) (x : Config) → Agrees (cond (is_refused m t h) Stuck x) (cond (is_refused k t h) Stuck x)

module _ (m k : Mode) (stricter : IsStricter m k) (p : Program) where
  agree_failed : (e : Edge) (f : Frame) (below : List Waiting) (w : World) → Agrees (failed m p e f below w) (failed k p e f below w)
  agree_failed NoEdge f below w = inl refl
  agree_failed e f below w =
      agree_cond (is_edge (item_at p f.fn) e (item_at p f.fn f.block f.place)) _ _ _ _ (same _) (stricter.at_failure (away (handler_at p f.fn f.block) f below w))

  agree_error : (fn : ℕ) (regs : Regs) (to : Option Reg) (go go' : Regs → Config) → ((x : Regs) → Agrees (go x) (go' x)) → Agrees (write_error p fn regs to go) (write_error p fn regs to go')
  agree_error fn regs None go go' h = h regs
  agree_error fn regs (Some r) go go' h =
      agree_some (type_of_reg (registers_of p fn) r) _ _ (λ t. h (put regs r.0 (error_of t)))

  agree_returned : (v : Way) (h : Held) (below : List Waiting) (w : World) → Agrees (returned m p v h below w) (returned k p v h below w)
  agree_returned v h [] w = same _
  agree_returned Badly h (c ∷ cs) w =
      agree_error c.frame.fn c.frame.regs (Some c.into) _ _ (λ x. agree_failed (edge_of_call (registers_of p c.frame.fn) c.into) (next c.frame x) cs w)
  agree_returned _ h (c ∷ cs) w = same _

  agree_applied : (e : Edge) (to : Option Reg) (f : Frame) (below : List Waiting) (x : Effect) → Agrees (applied m p e to f below x) (applied k p e to f below x)
  agree_applied e None f below (Fails x w) = agree_failed e (next f f.regs) below (record w { pending = Some x })
  agree_applied e (Some r) f below (Fails x w) =
      agree_error f.fn f.regs (Some r) _ _ (λ y. agree_failed e (next f y) below (record w { pending = Some x }))
  agree_applied e _ f below _ = same _

  agree_op : (o : Op) (f : Frame) (below : List Waiting) (w : World) → Agrees (do_op m p o f below w) (do_op k p o f below w)
  agree_op (Move r s) f below w =
      agree_some (type_of_reg (registers_of p f.fn) s) _ _ (λ t. stricter.at_move t (f.regs s.0) (write p f.fn f.regs r (f.regs s.0) (λ regs. goes f below regs w)))
  agree_op (Prim to q args) f below w =
      agree_cond (may_stand w.pending q) _ _ _ _ (agree_some (arguments (registers_of p f.fn) f.regs args) _ _ (λ xs. agree_applied (edge_of_prim (registers_of p f.fn) to q) to f below (typed (registers_of p f.fn) to args (effect p q xs w)))) (same Stuck)
  agree_op _ f below w = same _

  agree_last : (l : Last) (f : Frame) (below : List Waiting) (w : World) → Agrees (do_last m p l f below w) (do_last k p l f below w)
  agree_last (Return r) f below w =
      agree_some (slice_get p.funcs f.fn) _ _ (λ g. agree_some (look g.regs f.regs r) _ _ (λ h. agree_returned (way g.ret h w.pending) h below w))
  agree_last _ f below w = same _

  agree_act : (o : Option Item) (f : Frame) (below : List Waiting) (w : World) → Agrees (act m p o f below w) (act k p o f below w)
  agree_act None f below w = same _
  agree_act (Some (Do o line)) f below w = agree_op o f below w
  agree_act (Some (End l)) f below w = agree_last l f below w

  agree_step : (c : Config) → Agrees (step m p c) (step k p c)
  agree_step (Runs f below w) = agree_act (item_at p f.fn f.block f.place) f below w
  agree_step (Leaves fn below w) =
      agree_some (slice_get p.funcs fn) _ _ (λ g. agree_returned (way g.ret (error_of g.ret) w.pending) (error_of g.ret) below w)
  agree_step _ = same _

  -- a whole run
  is_laxer : (n : ℕ) (c : Config) → steps m p n c ≢ Stuck → steps m p n c ≡ steps k p n c
  is_laxer zero c h = refl
  is_laxer (suc n) c h = on (agree_step c) (is_laxer n (step m p c) h)
    where
      on : Agrees (step m p c) (step k p c) → steps m p n (step m p c) ≡ steps k p n (step m p c) → steps m p n (step m p c) ≡ steps k p n (step k p c)
      on (inl e) i = absurd (h (ap (steps m p n) e ∙ stays_stuck m p n))
      on (inr e) i = i ∙ ap (steps k p n) e

-- which machine is stricter than which
plain_fails : (m : Mode) (x : Config) → Agrees (unfit m x) x
plain_fails Fitting x = inl refl
plain_fails _ x = inr refl

plain_moves : (b : Bool) (x : Config) → Agrees (cond b Stuck x) x
plain_moves true x = inl refl
plain_moves false x = inr refl

any_plain : (m : Mode) → IsStricter m Plain
any_plain m = record { at_failure = plain_fails m; at_move = λ t h x. plain_moves (is_refused m t h) x }

fitting_strict : IsStricter Fitting Strict
fitting_strict = record { at_failure = plain_fails Fitting; at_move = λ t h x. inr refl }

pub unstuck_is_plain : (m : Mode) (p : Program) (n : ℕ) (c : Config) → steps m p n c ≢ Stuck → steps m p n c ≡ steps Plain p n c
unstuck_is_plain m p n c h = is_laxer m Plain (any_plain m) p n c h

pub fit_is_calm : (p : Program) → Fit p → Calm p
fit_is_calm p fit turns items n stuck =
    fit turns items n (is_laxer Fitting Strict fitting_strict p n (start p turns items) (fit turns items n) ∙ stuck)
