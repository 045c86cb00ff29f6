-- A step leaves a good run good, whatever it is that goes on over the frames.
use Rattle.std.proofs.Common.{◌≡◌, refl, sym, ◌∙◌, ap, ℕ, zero, suc, ◌-◌, true, false, not, cond, List, [], ◌∷◌, length, Option, Some, None}
use Rattle.std.specs.Prelude.{slice_get}
use Rattle.value_core.specs.Items.{Items}
use Rattle.value_core.specs.Value.{IntVal, BoolVal, NoneVal, StrVal, TupleVal, ExcVal, ObjVal}
use Rattle.c_core.specs.declared.code.CClass.{CClass}
use Rattle.c_core.specs.Functions.{method_at, trait_method_at}
use Rattle.ir_core.specs.declared.code.Reg.{Reg}
use Rattle.ir_core.specs.declared.code.RType.{RType}
use Rattle.ir_core.specs.declared.code.RType.TheVariants.{Int, I64, Bool as BoolType, Ref}
use Rattle.ir_core.specs.declared.code.Op.{Op}
use Rattle.ir_core.specs.declared.code.Op.TheVariants.{Move, Lit, Prim, Call, Virtual, TraitCall, Turn, Inc, Dec, XDec}
use Rattle.ir_core.specs.declared.code.Last.{Last}
use Rattle.ir_core.specs.declared.code.Last.TheVariants.{Goto, If, IfError, Return, Unreachable}
use Rattle.ir_core.specs.declared.code.Func.{Func}
use Rattle.ir_core.specs.declared.code.Program.{Program}
use Rattle.ir_core.specs.Items.{Item, Do, End}
use Rattle.ir_core.specs.Rows.{Declared, type_of_reg, edge_of_call, edge_of_prim}
use Rattle.ir_core.specs.Registers.{Held, Unset, Holds, error_of, is_error, literal_of, put, look, first_regs}
use Rattle.ir_core.specs.Effects.{World, Effect, Wrong, Gives, Acts, Fails, Ends, IfTarget, IfWritten, effect}
use Rattle.ir_core.specs.Meaning.{Frame, Waiting, Config, Runs, Leaves, Ended, Stuck, Mode, if_some, next, to_block, goes, read, read_all, arguments, is_refused, is_fit, Way, Well, Badly, Wrongly, way, may_stand, typed, turned, chosen, registers_of, item_at, method_of, trait_name, raised_by, ended, write, enters, calls, calls_method, failed, succeeds, applied, returned, leave, do_op, do_last, act, step}
use Rattle.ir_core.specs.Runs.{first_world, begins, start}
use Rattle.unset_tests.specs.Unset.{is_value, is_passed}
use Rattle.unset_tests.proofs.Frames.{literal_error, call_passed, IsCallInto, leaves_all, leaves_put, Takes, jumps_to, holds_to, fails_to, unset_to, set_to, GoesOn, GoodWaiting, AllGood, Good, good_some, good_cond, good_calm, next_good, succeeds_good, failed_good}

pub some_same : (t u : RType) → Some t ≡ Some u → t ≡ u
some_same t u e = cc

module _ (p : Program) (Stands : Frame → Type 0) (on : GoesOn p Stands) where
  -- ---- ends of runs
  ended_good : (v : Way) (h : Held) (w : World) → Good p Stands (ended v h w)
  ended_good Well Unset w = tt
  ended_good Well (Holds (IntVal n)) w = tt
  ended_good Well (Holds (BoolVal true)) w = tt
  ended_good Well (Holds (BoolVal false)) w = tt
  ended_good Well (Holds NoneVal) w = tt
  ended_good Well (Holds (StrVal s)) w = tt
  ended_good Well (Holds (TupleVal s)) w = tt
  ended_good Well (Holds (ExcVal s)) w = tt
  ended_good Well (Holds (ObjVal s)) w = tt
  ended_good Badly h w = by w.pending
    where
      by : (o : Option _) → Good p Stands (raised_by o w)
      by None = tt
      by (Some e) = tt
  ended_good Wrongly h w = tt

  returned_good : (m : Mode) (v : Way) (h : Held) (below : List Waiting) (w : World) → AllGood p Stands below → Good p Stands (returned m p v h below w)
  returned_good m v h [] w rest = ended_good v h w
  returned_good m Well h (c ∷ cs) w rest =
      let g : GoodWaiting p Stands c = rest.0 in
      good_some p Stands (type_of_reg (registers_of p c.frame.fn) c.into) (λ t. goes c.frame cs (put c.frame.regs c.into.0 h) w)
      (λ t e. (
        next_good p Stands on c.frame g.o g.here g.frame (put c.frame.regs c.into.0 h)
            (leaves_put p c.frame g.o c.into h g.into.writes (λ u f k. g.into.unsure))
            (ap (λ z. is_passed z (item_at p c.frame.fn c.frame.block (suc c.frame.place))) g.into.edge ∙ call_passed (registers_of p c.frame.fn) c.into (item_at p c.frame.fn c.frame.block (suc c.frame.place))),
        rest.1,
      ))
  returned_good m Badly h (c ∷ cs) w rest =
      let g : GoodWaiting p Stands c = rest.0 in
      good_some p Stands (type_of_reg (registers_of p c.frame.fn) c.into) (λ t. failed m p (edge_of_call (registers_of p c.frame.fn) c.into) (next c.frame (put c.frame.regs c.into.0 (error_of t))) cs w)
      (λ t e. failed_good p Stands on c.frame g.o g.here g.frame m (edge_of_call (registers_of p c.frame.fn) c.into) (sym g.into.edge) (put c.frame.regs c.into.0 (error_of t))
      (leaves_put p c.frame g.o c.into (error_of t) g.into.writes (λ u f k. g.into.unsure)) cs w rest.1)
  returned_good m Wrongly h (c ∷ cs) w rest = tt

  leave_good : (m : Mode) (t : RType) (h : Held) (below : List Waiting) (w : World) → AllGood p Stands below → Good p Stands (leave m p t h below w)
  leave_good m t h below w rest = returned_good m (way t h w.pending) h below w rest

  -- ---- operations
  module _ (m : Mode) (f : Frame) (below : List Waiting) (good : Stands f) (rest : AllGood p Stands below) where
    abbrev ds : Declared
    ds = registers_of p f.fn

    abbrev Here : Op → ℕ → Type 0
    Here o line = item_at p f.fn f.block f.place ≡ Some (Do o line)

    applied_good : (to : Option Reg) (c : _) (args : List _) (line : ℕ) → Here (Prim to c args) line → (x : Effect) → Good p Stands (applied m p (edge_of_prim ds to c) to f below x)
    applied_good None c args line here Wrong = tt
    applied_good (Some r) c args line here Wrong = tt
    applied_good None c args line here (Gives v w) = tt
    applied_good (Some r) c args line here (Gives v w) =
        good_some p Stands (type_of_reg ds r) (λ t. succeeds m p (edge_of_prim ds (Some r) c) f below (put f.regs r.0 (Holds v)) w)
        (λ t e. succeeds_good p Stands on f (Prim (Some r) c args) here good (edge_of_prim ds (Some r) c) refl (put f.regs r.0 (Holds v))
        (leaves_put p f (Prim (Some r) c args) r (Holds v) refl (λ u g k. refl)) below w m rest)
    applied_good None c args line here (Acts w) =
        succeeds_good p Stands on f (Prim None c args) here good (edge_of_prim ds None c) refl f.regs (leaves_all p f (Prim None c args) refl) below w m rest
    applied_good (Some r) c args line here (Acts w) = tt
    applied_good None c args line here (Fails x w) =
        failed_good p Stands on f (Prim None c args) here good m (edge_of_prim ds None c) refl f.regs (leaves_all p f (Prim None c args) refl) below (record w { pending = Some x }) rest
    applied_good (Some r) c args line here (Fails x w) =
        good_some p Stands (type_of_reg ds r) (λ t. failed m p (edge_of_prim ds (Some r) c) (next f (put f.regs r.0 (error_of t))) below (record w { pending = Some x }))
        (λ t e. failed_good p Stands on f (Prim (Some r) c args) here good m (edge_of_prim ds (Some r) c) refl (put f.regs r.0 (error_of t))
        (leaves_put p f (Prim (Some r) c args) r (error_of t) refl (λ u g k. refl)) below (record w { pending = Some x }) rest)
    applied_good None c args line here (Ends x w) = tt
    applied_good (Some r) c args line here (Ends x w) = tt
    applied_good None c args line here (IfTarget k x) = tt
    applied_good (Some r) c args line here (IfTarget k x) = tt
    applied_good None c args line here (IfWritten k x) = tt
    applied_good (Some r) c args line here (IfWritten k x) = tt

    enters_good : (o : Op) (line : ℕ) → Here o line → (r : Reg) (args : List Reg) (w : World) (n : ℕ) → IsCallInto ds o r → Good p Stands (enters p r args f below w n)
    enters_good o line here r args w n into =
        good_some p Stands (slice_get p.funcs n) _
        (λ h e. good_some p Stands (read_all ds f.regs args) _
        (λ xs k. good_cond p Stands (is_fit ds r args h) (Runs (record { fn = n; block = 0; place = 0; regs = first_regs h.regs xs }) (record { frame = f; into = r } ∷ below) w) Stuck
        (λ fits. (on.begins n (first_regs h.regs xs), (record { frame = good; o = o; line = line; here = here; into = into }, rest)))
        (λ none. tt)))

    calls_good : (o : Op) (line : ℕ) → Here o line → (r : Reg) (args : List Reg) (w : World) (n : Option ℕ) → IsCallInto ds o r → Good p Stands (calls p r args f below w n)
    calls_good o line here r args w n into =
        good_calm p Stands w.pending (if_some n (enters p r args f below w)) (good_some p Stands n (enters p r args f below w) (λ k e. enters_good o line here r args w k into))

    method_good : (o : Op) (line : ℕ) → Here o line → (r x : Reg) (args : List Reg) (w : World) (entry : CClass → Option (List ℕ)) → IsCallInto ds o r → Good p Stands (calls_method p r x args f below w entry)
    method_good o line here r x args w entry into =
        good_some p Stands (read ds f.regs x) (λ v. calls p r (x ∷ args) f below w (method_of p w v entry))
        (λ v e. calls_good o line here r (x ∷ args) w (method_of p w v entry) into)

    op_good : (o : Op) (line : ℕ) → Here o line → (w : World) → Good p Stands (do_op m p o f below w)
    op_good (Move r s) line here w =
        good_some p Stands (type_of_reg ds s) _
        (λ t e. good_cond p Stands (is_refused m t (f.regs s.0)) Stuck (write p f.fn f.regs r (f.regs s.0) (λ regs. goes f below regs w))
        (λ h. tt)
        (λ h. good_some p Stands (type_of_reg ds r) (λ u. goes f below (put f.regs r.0 (f.regs s.0)) w)
        (λ u k. (next_good p Stands on f (Move r s) here good (put f.regs r.0 (f.regs s.0)) (leaves_put p f (Move r s) r (f.regs s.0) refl (λ v g j. refl)) refl, rest))))
    op_good (Lit r l) line here w =
        good_some p Stands (type_of_reg ds r) _
        (λ t e. good_some p Stands (literal_of t l) (λ h. goes f below (put f.regs r.0 h) w)
        (λ h k. (
          next_good p Stands on f (Lit r l) here good (put f.regs r.0 h)
              (leaves_put p f (Lit r l) r h refl
              (λ u g j. let same : t ≡ u = some_same t u (sym e ∙ g) in
              ap (is_value l) g ∙ ap not (literal_error u l h (ap (λ z. literal_of z l) (sym same) ∙ k) j))) refl,
          rest,
        )))
    op_good (Prim to c args) line here w =
        good_cond p Stands (may_stand w.pending c) _ Stuck
        (λ h. good_some p Stands (arguments ds f.regs args) _
        (λ xs e. applied_good to c args line here (typed ds to args (effect p c xs w))))
        (λ h. tt)
    op_good (Call r n args) line here w =
        calls_good (Call r n args) line here r args w (Some n) (record { writes = refl; unsure = refl; edge = refl })
    op_good (Virtual r o n args) line here w =
        method_good (Virtual r o n args) line here r o args w (method_at n) (record { writes = refl; unsure = refl; edge = refl })
    op_good (TraitCall r o t n args) line here w =
        good_some p Stands (trait_name p t) _
        (λ name e. method_good (TraitCall r o t n args) line here r o args w (trait_method_at name n) (record { writes = refl; unsure = refl; edge = refl }))
    op_good Turn line here w = good_calm p Stands w.pending (turned f below w w.turns) (by w.turns)
      where
        by : (n : ℕ) → Good p Stands (turned f below w n)
        by zero = tt
        by (suc n) = (next_good p Stands on f Turn here good f.regs (leaves_all p f Turn refl) refl, rest)
    op_good (Inc r) line here w =
        good_some p Stands (read ds f.regs r) (λ v. goes f below f.regs w)
        (λ v e. (next_good p Stands on f (Inc r) here good f.regs (leaves_all p f (Inc r) refl) refl, rest))
    op_good (Dec r) line here w =
        good_some p Stands (read ds f.regs r) (λ v. goes f below f.regs w)
        (λ v e. (next_good p Stands on f (Dec r) here good f.regs (leaves_all p f (Dec r) refl) refl, rest))
    op_good (XDec r) line here w =
        good_some p Stands (look ds f.regs r) (λ v. goes f below f.regs w)
        (λ v e. (next_good p Stands on f (XDec r) here good f.regs (leaves_all p f (XDec r) refl) refl, rest))

    -- ---- ends of blocks
    chosen_good : (t : RType) (h : Held) (a b : Config) → Good p Stands a → Good p Stands b → Good p Stands (chosen t h a b)
    chosen_good Int h a b x y = tt
    chosen_good I64 h a b x y = tt
    chosen_good Ref h a b x y = tt
    chosen_good BoolType Unset a b x y = tt
    chosen_good BoolType (Holds (IntVal n)) a b x y = tt
    chosen_good BoolType (Holds (BoolVal true)) a b x y = x
    chosen_good BoolType (Holds (BoolVal false)) a b x y = y
    chosen_good BoolType (Holds NoneVal) a b x y = tt
    chosen_good BoolType (Holds (StrVal s)) a b x y = tt
    chosen_good BoolType (Holds (TupleVal s)) a b x y = tt
    chosen_good BoolType (Holds (ExcVal s)) a b x y = tt
    chosen_good BoolType (Holds (ObjVal s)) a b x y = tt

    block_good : (l : Last) → item_at p f.fn f.block f.place ≡ Some (End l) → (t : ℕ) (w : World) → Takes p f l t → Good p Stands (to_block f t below w)
    block_good l here t w takes = (on.taken f l here good t takes, rest)

    last_good : (l : Last) → item_at p f.fn f.block f.place ≡ Some (End l) → (w : World) → Good p Stands (do_last m p l f below w)
    last_good (Goto t) here w = block_good (Goto t) here t w (jumps_to t)
    last_good (If r a b) here w =
        good_some p Stands (type_of_reg ds r) (λ t. chosen t (f.regs r.0) (to_block f a below w) (to_block f b below w))
        (λ t k. chosen_good t (f.regs r.0) (to_block f a below w) (to_block f b below w)
        (block_good (If r a b) here a w (holds_to r a b))
        (block_good (If r a b) here b w (fails_to r a b)))
    last_good (IfError s e n line) here w =
        good_some p Stands (type_of_reg ds s) (λ t. cond (is_error t (f.regs s.0)) (to_block f e below w) (to_block f n below w))
        (λ t k. good_cond p Stands (is_error t (f.regs s.0)) (to_block f e below w) (to_block f n below w)
        (λ h. block_good (IfError s e n line) here e w (unset_to s e n line))
        (λ h. block_good (IfError s e n line) here n w (set_to s e n line t k h)))
    last_good (Return r) here w =
        good_some p Stands (slice_get p.funcs f.fn) (λ g. if_some (look g.regs f.regs r) (λ h. leave m p g.ret h below w))
        (λ g k. good_some p Stands (look g.regs f.regs r) (λ h. leave m p g.ret h below w) (λ h j. leave_good m g.ret h below w rest))
    last_good Unreachable here w = good_calm p Stands w.pending (Ended _ w) tt

    act_good : (x : Option Item) → item_at p f.fn f.block f.place ≡ x → (w : World) → Good p Stands (act m p x f below w)
    act_good None here w = tt
    act_good (Some (Do o line)) here w = op_good o line here w
    act_good (Some (End l)) here w = last_good l here w

  pub step_good : (m : Mode) (c : Config) → Good p Stands c → Good p Stands (step m p c)
  step_good m (Runs f below w) h = act_good m f below h.0 h.1 (item_at p f.fn f.block f.place) refl w
  step_good m (Leaves fn below w) h =
      good_some p Stands (slice_get p.funcs fn) (λ g. leave m p g.ret (error_of g.ret) below w) (λ g e. leave_good m g.ret (error_of g.ret) below w h)
  step_good m (Ended e w) h = tt
  step_good m Stuck h = tt

  pub start_good : (turns : ℕ) (items : Items) → Good p Stands (start p turns items)
  start_good turns items = by (slice_get p.funcs (length p.funcs - 1))
    where
      by : (o : Option Func) → Good p Stands (begins (length p.funcs - 1) (first_world p turns items) o)
      by None = tt
      by (Some g) = (on.begins (length p.funcs - 1) (first_regs g.regs []), tt)
