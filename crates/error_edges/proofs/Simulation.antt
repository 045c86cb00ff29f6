-- Each step of a program is one step or more of the program with edges.
use Rattle.std.proofs.Common.{◌≡◌, ◌≢◌, refl, sym, ◌∙◌, ap, subst, ℕ, zero, suc, ◌+◌, arith, Bool, true, false, cond, List, [], ◌∷◌, ◌++◌, length, Option, Some, None}
use Rattle.std.specs.Prelude.{slice_get, is_some, nat_eq}
use Rattle.std.specs.Option.{option_map, option_and_then}
use Rattle.std.proofs.lemmas.Bool.{and_from, eq-eqb}
use Rattle.value_core.specs.Exceptions.{Thrown}
use Rattle.value_core.specs.Value.{Value, BoolVal}
use Rattle.c_core.specs.declared.code.Kind.{Kind}
use Rattle.c_core.specs.declared.code.CClass.{CClass}
use Rattle.c_core.specs.declared.primitive.Primitive.{Primitive}
use Rattle.c_core.specs.Primitives.{row_of}
use Rattle.c_core.specs.Functions.{has_kind, method_at, trait_method_at}
use Rattle.ir_core.specs.declared.code.RType.{RType}
use Rattle.ir_core.specs.declared.code.RType.TheVariants.{Int, I64, Bool as BoolType, Ref}
use Rattle.ir_core.specs.declared.code.Reg.{Reg}
use Rattle.ir_core.specs.declared.code.PArg.{PArg}
use Rattle.ir_core.specs.declared.code.PArg.TheVariants as arg
use Rattle.ir_core.specs.declared.code.Op.{Op}
use Rattle.ir_core.specs.declared.code.Op.TheVariants.{Move, Lit, Prim, Call, Virtual, TraitCall, Turn, Inc, Dec, XDec}
use Rattle.ir_core.specs.declared.code.Last.{Last}
use Rattle.ir_core.specs.declared.code.Last.TheVariants.{Goto, If, IfError, Return, Unreachable}
use Rattle.ir_core.specs.declared.code.Block.{Block}
use Rattle.ir_core.specs.declared.code.Func.{Func}
use Rattle.ir_core.specs.declared.code.Program.{Program}
use Rattle.ir_core.specs.declared.code.ErrorKind.{ErrorKind}
use Rattle.ir_core.specs.declared.code.ErrorKind.TheVariants.{Never, Magic, Always, MagicOverlapping}
use Rattle.ir_core.specs.declared.kind.Edge.{Edge}
use Rattle.ir_core.specs.declared.kind.Edge.TheVariants.{NoEdge, Tests, TestsTwice, Jumps}
use Rattle.ir_core.specs.Items.{Item, Do, End, in_block, item_of, item_in, handler_of, handler_in, blocks_of}
use Rattle.ir_core.specs.Rows.{Failing, NeverFails, MayFail, AlwaysFails, failing, kind_by, kind_by_result, error_kind, edge_of_kind, Declared, type_of_reg, type_given, edge_of_call, edge_of_prim, edge_of_op}
use Rattle.ir_core.specs.Registers.{Held, Unset, Holds, error_of, is_error, literal_of, Regs, put, look, first_regs}
use Rattle.ir_core.specs.Names.{function_called}
use Rattle.ir_core.specs.Lower.{kind_of_type}
use Rattle.ir_core.specs.Effects.{World, Argument, Effect, Wrong, Gives, Acts, Fails, Ends, IfTarget, IfWritten, effect}
use Rattle.ir_core.specs.Meaning.{Frame, Waiting, Config, Runs, Leaves, Ended, Stuck, Strict, Fitting, if_some, if_calm, next, to_block, goes, read, read_all, arguments, is_lost, class_of, class_name, is_fit, Way, Well, Badly, Wrongly, way, ended, ended_well, raised_by, is_edge, is_clear, away, may_stand, has_slot_kind, is_into, is_written, typed, turned, chosen, halted, declared_of, registers_of, item_at, handler_at, method_of, trait_name, calls, calls_method, failed, succeeds, applied, returned, leave, do_op, do_last, act, step, steps}
use Rattle.ir_core.proofs.StepLemmas.{put_same, goto_step, error_step, if_step, lit_step, return_step}
use Rattle.ir_core.specs.Missing.{missing}
use Rattle.error_edges.specs.Layout.{moved, target_of, asking, flag_register, error_literal}
use Rattle.error_edges.proofs.Laid.{LaidAfter, ExitStands, Escapes, Asked, BlockStands, FunctionLaid}
use Rattle.error_edges.proofs.Giving.{GivesType, BlocksGive, block_gives, op_gives}
use Rattle.error_edges.proofs.RegisterLemmas.{type_more, RegsAgree, put_as, reg_as, look_as, read_as, read_all_as, arguments_as, first_as, call_fits}
use Rattle.error_edges.proofs.Occurring.{asking_step}
use Rattle.error_edges.proofs.EdgeLemmas.{no_edge, second_laid, kept_edge}

-- ---- error values

error_is : (t : RType) → is_error t (error_of t) ≡ true
error_is Int = refl
error_is I64 = refl
error_is BoolType = refl
error_is Ref = refl

literal_is : (t : RType) → literal_of t (error_literal t) ≡ Some (error_of t)
literal_is Int = refl
literal_is I64 = refl
literal_is BoolType = refl
literal_is Ref = refl

-- two programs of which the second has the functions of the first with edges
pub record ProgramLaid (p q : Program) : Type 0 where
  pub count : length q.funcs ≡ length p.funcs
  pub globals : q.globals ≡ p.globals
  pub classes : q.classes ≡ p.classes
  pub called : (id : List ℕ) → function_called q id ≡ function_called p id
  pub effects : (c : Primitive) (vs : List Argument) (w : World) → effect q c vs w ≡ effect p c vs w
  pub funcs : (n : ℕ) (f : Func) → slice_get p.funcs n ≡ Some f → (g : Func) × (slice_get q.funcs n ≡ Some g) × FunctionLaid f g
  pub gives : (n : ℕ) (f : Func) → slice_get p.funcs n ≡ Some f → BlocksGive f.regs f.blocks

module _ (p q : Program) (all : ProgramLaid p q) where
  -- a function and the one with edges
  pub record FunctionStands (a b : ℕ) : Type 0 where
    pub same : b ≡ a
    pub old : Func
    pub new : Func
    pub at_old : slice_get p.funcs a ≡ Some old
    pub at_new : slice_get q.funcs b ≡ Some new
    pub laid : FunctionLaid old new

  -- a frame whose block goes on with these operations, and the one with edges
  pub record FrameStands (ops : List (Op × ℕ)) (last : Last) (f g : Frame) : Type 0 where
    pub function : FunctionStands f.fn g.fn
    pub regs : RegsAgree function.old.regs f.regs g.regs
    pub block : Block
    pub at_block : slice_get function.old.blocks f.block ≡ Some block
    pub rest : (j : ℕ) → in_block block.ops block.last (f.place + j) ≡ in_block ops last j
    pub laid : BlockStands function.old function.new function.laid.start function.laid.exit block ops last g.block g.place

  -- a frame that waits stands at its call
  pub record WaitStands (c d : Waiting) : Type 0 where
    pub into : d.into ≡ c.into
    pub op : Op
    pub line : ℕ
    pub ops : List (Op × ℕ)
    pub last : Last
    pub frame : FrameStands ((op, line) ∷ ops) last c.frame d.frame
    pub edge : edge_of_op frame.function.old.regs op ≡ edge_of_call frame.function.old.regs c.into

  abbrev pub AllWait : List Waiting → List Waiting → Type 0
  AllWait [] [] = Unit {0}
  AllWait (c ∷ cs) (d ∷ ds) = WaitStands c d × AllWait cs ds
  AllWait _ _ = ⊥

  -- a frame at a place that is not there, which is stuck at its next step, matches anything
  pub data RunMatches (f : Frame) (below : List Waiting) (w : World) (d : Config) : Type 0 where
    lost : item_at p f.fn f.block f.place ≡ None → RunMatches f below w d
    found : (ops : List (Op × ℕ)) (last : Last) (g : Frame) (waiting : List Waiting) → d ≡ Runs g waiting w → FrameStands ops last f g → AllWait below waiting → RunMatches f below w d

  -- a function that is left stands at its exit
  pub record LeaveMatches (fn : ℕ) (below : List Waiting) (w : World) (d : Config) : Type 0 where
    pub frame : Frame
    pub waiting : List Waiting
    pub is : d ≡ Runs frame waiting w
    pub function : FunctionStands fn frame.fn
    pub block : frame.block ≡ function.laid.exit
    pub place : frame.place ≡ 0
    pub exit : ExitStands function.new function.laid.exit
    pub wait : AllWait below waiting

  abbrev pub Matches : Config → Config → Type 0
  Matches (Runs f below w) d = RunMatches f below w d
  Matches (Leaves fn below w) d = LeaveMatches fn below w d
  Matches (Ended e w) d = d ≡ Ended e w
  Matches Stuck d = Unit {0}

  -- some steps later
  abbrev pub After : Config → Config → Type 0
  After x d = (n : ℕ) × Matches x (steps Fitting q n d)

  after_step : (x d e : Config) → step Fitting q d ≡ e → After x e → After x d
  after_step x d e is a = (suc a.0, subst (λ c. Matches x (steps Fitting q a.0 c)) (sym is) a.1)

  after_equal : (x d e : Config) → d ≡ e → After x e → After x d
  after_equal x d e is a = subst (λ c. After x c) (sym is) a

  at_some : {A : Type 0} (o o' : Option A) (go go' : A → Config) → ((a : A) → o ≡ Some a → (o' ≡ Some a) × After (go a) (go' a)) → After (if_some o go) (if_some o' go')
  at_some None o' go go' h = (0, tt)
  at_some (Some a) o' go go' h = let r = h a refl in rw r.0 r.1

  at_other : {A B : Type 0} (o : Option A) (o' : Option B) (go : A → Config) (go' : B → Config) → ((a : A) → o ≡ Some a → (b : B) × (o' ≡ Some b) × After (go a) (go' b)) → After (if_some o go) (if_some o' go')
  at_other None o' go go' h = (0, tt)
  at_other (Some a) o' go go' h = let r = h a refl in rw r.1 r.2

  at_cond : (b : Bool) (x d : Config) → (b ≡ true → After x d) → After (cond b x Stuck) (cond b d Stuck)
  at_cond true x d h = h refl
  at_cond false x d h = (0, tt)

  at_conds : (b c : Bool) (x d : Config) → (b ≡ true → (c ≡ true) × After x d) → After (cond b x Stuck) (cond c d Stuck)
  at_conds true c x d h = let r = h refl in rw r.0 r.1
  at_conds false c x d h = (0, tt)

  at_refused : (b : Bool) (x d : Config) → After x d → After (cond b Stuck x) (cond b Stuck d)
  at_refused true x d h = (0, tt)
  at_refused false x d h = h

  at_calm : (o : Option Thrown) (x d : Config) → (o ≡ None → After x d) → After (if_calm o x) (if_calm o d)
  at_calm None x d h = h refl
  at_calm (Some e) x d h = (0, tt)

  -- ---- what is known of a function
  module _ (a b : ℕ) (fs : FunctionStands a b) where
    registers_old : registers_of p a ≡ fs.old.regs
    registers_old = ap declared_of fs.at_old

    registers_new : registers_of q b ≡ fs.old.regs ++ fs.laid.more
    registers_new = ap declared_of fs.at_new ∙ fs.laid.regs

    type_old : (r : Reg) (t : RType) → type_of_reg (registers_of p a) r ≡ Some t → type_of_reg fs.old.regs r ≡ Some t
    type_old r t e = ap (λ ds. type_of_reg ds r) (sym registers_old) ∙ e

    type_in : (r : Reg) (t : RType) → type_of_reg fs.old.regs r ≡ Some t → type_of_reg (registers_of q b) r ≡ Some t
    type_in r t e = ap (λ ds. type_of_reg ds r) registers_new ∙ type_more fs.old.regs fs.laid.more r t e

    type_as : (r : Reg) (t : RType) → type_of_reg (registers_of p a) r ≡ Some t → type_of_reg (registers_of q b) r ≡ Some t
    type_as r t e = type_in r t (type_old r t e)

  -- ---- a jump
  pub jumped : (f g : Frame) (fs : FunctionStands f.fn g.fn) → RegsAgree fs.old.regs f.regs g.regs → (below waiting : List Waiting) (w : World) → AllWait below waiting → (t : ℕ) → Matches (to_block f t below w) (to_block g (fs.laid.start t) waiting w)
  jumped f g fs rs below waiting w wait t = on_block (slice_get fs.old.blocks t) refl
    where
      on_block : (o : Option Block) → slice_get fs.old.blocks t ≡ o → RunMatches (record f { block = t; place = 0 }) below w (to_block g (fs.laid.start t) waiting w)
      on_block None e = lost (rw (fs.at_old, e) refl)
      on_block (Some b) e =
          found b.ops b.last (record g { block = fs.laid.start t; place = 0 }) waiting refl
          (record { function = fs; regs = rs; block = b; at_block = e; rest = λ j. let z : 0 + j ≡ j = omega arith in ap (in_block b.ops b.last) z; laid = fs.laid.blocks t b e })
          wait

  jump : (f g : Frame) (fs : FunctionStands f.fn g.fn) → RegsAgree fs.old.regs f.regs g.regs → (below waiting : List Waiting) (w : World) → AllWait below waiting → (t : ℕ) → After (to_block f t below w) (to_block g (fs.laid.start t) waiting w)
  jump f g fs rs below waiting w wait t = (0, jumped f g fs rs below waiting w wait t)

  -- ---- behind an operation
  -- it gave a value
  abbrev Given : Declared → Edge → Regs → Type 0
  Given ds (Tests r) x = (v : Value) × (x r.0 ≡ Holds v) × ((t : RType) × (type_of_reg ds r ≡ Some t) × (is_error t (Holds v) ≡ false))
  Given ds (TestsTwice r) x = (v : Value) × (x r.0 ≡ Holds v) × ((t : RType) × (type_of_reg ds r ≡ Some t))
  Given ds _ x = Unit {0}

  given_is : (ds : Declared) (fl : Failing) (r : Reg) (t : RType) (x : Regs) (v : Value) → type_of_reg ds r ≡ Some t → x r.0 ≡ Holds v → Given ds (edge_of_kind (kind_by fl (Some t)) (Some r)) x
  given_is ds NeverFails r t x v k h = tt
  given_is ds AlwaysFails r t x v k h = tt
  given_is ds MayFail r Int x v k h = (v, h, (Int, k, refl))
  given_is ds MayFail r I64 x v k h = (v, h, (I64, k))
  given_is ds MayFail r BoolType x v k h = (v, h, (BoolType, k, refl))
  given_is ds MayFail r Ref x v k h = (v, h, (Ref, k, refl))

  given_none : (ds : Declared) (k : ErrorKind) (x : Regs) → Given ds (edge_of_kind k None) x
  given_none ds Never x = tt
  given_none ds Magic x = tt
  given_none ds Always x = tt
  given_none ds MagicOverlapping x = tt

  -- it failed, and left the error value
  abbrev Missed : Declared → Edge → Regs → Type 0
  Missed ds (Tests r) x = (t : RType) × (type_of_reg ds r ≡ Some t) × (x r.0 ≡ error_of t)
  Missed ds (TestsTwice r) x = (t : RType) × (type_of_reg ds r ≡ Some t) × (x r.0 ≡ error_of t)
  Missed ds _ x = Unit {0}

  missed_is : (ds : Declared) (k : ErrorKind) (r : Reg) (t : RType) (x : Regs) → type_of_reg ds r ≡ Some t → x r.0 ≡ error_of t → Missed ds (edge_of_kind k (Some r)) x
  missed_is ds Never r t x k h = tt
  missed_is ds Magic r t x k h = (t, k, h)
  missed_is ds Always r t x k h = tt
  missed_is ds MagicOverlapping r t x k h = (t, k, h)

  missed_none : (ds : Declared) (k : ErrorKind) (x : Regs) → Missed ds (edge_of_kind k None) x
  missed_none ds Never x = tt
  missed_none ds Magic x = tt
  missed_none ds Always x = tt
  missed_none ds MagicOverlapping x = tt

  module _ (o : Op × ℕ) (os : List (Op × ℕ)) (last : Last) (f g : Frame) (st : FrameStands (o ∷ os) last f g) (below waiting : List Waiting) (w : World) (wait : AllWait below waiting) where
    abbrev fs : FunctionStands f.fn g.fn
    fs = st.function

    abbrev ds : Declared
    ds = st.function.old.regs

    abbrev flag : Reg
    flag = flag_register ds

    abbrev target : ℕ
    target = target_of fs.laid.start fs.laid.exit (handler_of st.block)

    abbrev items : ℕ → ℕ → Option Item
    items = item_in fs.new.blocks

    -- a place of the new function
    abbrev at : ℕ → ℕ → Regs → Frame
    at k i y = record { fn = g.fn; block = k; place = i; regs = y }

    abbrev Rest : ℕ → ℕ → Type 0
    Rest = BlockStands fs.old fs.new fs.laid.start fs.laid.exit st.block os last

    abbrev LaidOn : Edge → Type 0
    LaidOn m = LaidAfter items fs.laid.start target flag (Asked fs.new flag) (Escapes fs.new fs.laid.exit (handler_of st.block)) ds fs.old.blocks m o.1 g.block g.place Rest

    -- all items of the old function
    abbrev was : ℕ → ℕ → Option Item
    was = item_in fs.old.blocks

    item_new : (k i : ℕ) (it : Item) → items k i ≡ Some it → item_at q g.fn k i ≡ Some it
    item_new k i it e = ap (λ h. item_in (blocks_of h) k i) fs.at_new ∙ e

    item_old : item_at p f.fn f.block (f.place + 1) ≡ in_block os last 0
    item_old =
        let e : f.place + 1 ≡ f.place + suc zero = omega arith in
        ap (λ h. item_in (blocks_of h) f.block (f.place + 1)) fs.at_old ∙ (ap (λ b. item_of b (f.place + 1)) st.at_block ∙ (ap (in_block st.block.ops st.block.last) e ∙ st.rest 1))

    next_stands : (x y : Regs) → RegsAgree ds x y → (k i : ℕ) → Rest k i → FrameStands os last (next f x) (at k i y)
    next_stands x y rs k i l = record {
      function = fs;
      regs = rs;
      block = st.block;
      at_block = st.at_block;
      rest = λ j. let e : f.place + 1 + j ≡ f.place + suc j = omega arith in ap (in_block st.block.ops st.block.last) e ∙ st.rest (suc j);
      laid = l;
    }

    arrives : (x y : Regs) → RegsAgree ds x y → (k i : ℕ) → Rest k i → After (Runs (next f x) below w) (Runs (at k i y) waiting w)
    arrives x y rs k i l = (0, found os last (at k i y) waiting refl (next_stands x y rs k i l) wait)

    module _ (x y : Regs) (rs : RegsAgree ds x y) where
      abbrev answered : Regs
      answered = put y (length ds) (Holds (BoolVal (is_some w.pending)))

      answer_agrees : RegsAgree ds x answered
      answer_agrees k lt =
          let ne : k ≢ length ds = omega (arith, lt) in
          Rattle.ir_core.proofs.StepLemmas.put_other y (length ds) k (Holds (BoolVal (is_some w.pending))) ne ∙ rs k lt

      -- the test of the pending exception
      asks : (k n : ℕ) (z : Config) (c : Bool) {line : ℕ} → is_some w.pending ≡ c → items k 0 ≡ Some (Do (asking flag) line) → items k 1 ≡ Some (End (If flag target n)) → Asked fs.new flag → After z (Runs (at (cond c target n) 0 answered) waiting w) → After z (Runs (at k 0 y) waiting w)
      asks k n z c {line} is a b there h =
          let kind : type_of_reg (registers_of q g.fn) flag ≡ Some BoolType = ap (λ fn. type_of_reg (declared_of fn) flag) fs.at_new ∙ there in
          let holds : answered (length ds) ≡ Holds (BoolVal c) = put_same y (length ds) (Holds (BoolVal (is_some w.pending))) ∙ ap (λ d. Holds (BoolVal d)) is in
          after_step z (Runs (at k 0 y) waiting w) (Runs (at k 1 answered) waiting w)
          (asking_step q (at k 0 y) waiting w flag (item_new k 0 (Do (asking flag) line) a) kind)
          (after_step z (Runs (at k 1 answered) waiting w) (Runs (at (cond c target n) 0 answered) waiting w)
          (if_step Fitting q (at k 1 answered) waiting w flag target n c (item_new k 1 (End (If flag target n)) b) kind holds) h)

      abbrev Passing : Config → Type 0
      Passing d = After (Runs (next f x) below w) d

      -- a test of a register that is declared
      tests : (k i : ℕ) (r : Reg) (a b line : ℕ) (t : RType) (c : Bool) (z : Config) → items k i ≡ Some (End (IfError r a b line)) → type_of_reg ds r ≡ Some t → is_error t (x r.0) ≡ c → After z (Runs (at (cond c a b) 0 y) waiting w) → After z (Runs (at k i y) waiting w)
      tests k i r a b line t c z it kind e h =
          after_step z (Runs (at k i y) waiting w) (Runs (at (cond c a b) 0 y) waiting w)
          (error_step Fitting q (at k i y) waiting w r a b line t c (item_new k i (End (IfError r a b line)) it) (type_in f.fn g.fn fs r t kind)
          (ap (is_error t) (reg_as ds x y r t rs kind) ∙ e)) h

      clear_calm : (r : Reg) (e : Option Thrown) → is_clear (TestsTwice r) e ≡ true → is_some e ≡ false
      clear_calm r None c = refl
      clear_calm r (Some v) c = absurd (cc)

      by_missing : (m : Edge) → is_clear m w.pending ≡ true → Given ds m x → LaidOn m → Passing (Runs (at g.block (g.place + 1) y) waiting w)
      by_missing NoEdge c h l = arrives x y rs g.block (g.place + 1) l
      by_missing (Tests r) c h l =
          tests g.block (g.place + 1) r target (g.block + 1) o.1 h.2.0 false (Runs (next f x) below w) l.0 h.2.1 (ap (is_error h.2.0) h.1 ∙ h.2.2)
          (arrives x y rs (g.block + 1) 0 l.2)
      by_missing (TestsTwice r) c h l = on_error (is_error h.2.0 (x r.0)) refl
        where
          on_error : (b : Bool) → is_error h.2.0 (x r.0) ≡ b → Passing (Runs (at g.block (g.place + 1) y) waiting w)
          on_error false e =
              tests g.block (g.place + 1) r (g.block + 1) (g.block + 2) o.1 h.2.0 false (Runs (next f x) below w) l.0 h.2.1 e
              (arrives x y rs (g.block + 2) 0 l.5)
          on_error true e =
              tests g.block (g.place + 1) r (g.block + 1) (g.block + 2) o.1 h.2.0 true (Runs (next f x) below w) l.0 h.2.1 e
              (asks (g.block + 1) (g.block + 2) (Runs (next f x) below w) false (clear_calm r w.pending c) l.1 l.2 l.3 (arrives x answered answer_agrees (g.block + 2) 0 l.5))
      by_missing Jumps c h l = absurd (cc)

      choose_missing : (e : Edge) (b : Bool) → is_clear e w.pending ≡ true → Given ds e x → LaidOn (cond b NoEdge e) → Passing (Runs (at g.block (g.place + 1) y) waiting w)
      choose_missing e true c h l = by_missing NoEdge refl tt l
      choose_missing e false c h l = by_missing e c h l

      -- an operation that did not fail
      passes : is_clear (edge_of_op ds o.0) w.pending ≡ true → Given ds (edge_of_op ds o.0) x → Passing (Runs (next g y) waiting w)
      passes c h = choose_missing (edge_of_op ds o.0) (is_edge was (edge_of_op ds o.0) (in_block os last 0)) c h st.laid.1

      -- ---- an operation that failed
      abbrev Gone : Config → Type 0
      Gone d = After (away (handler_at p f.fn f.block) (next f x) below w) d

      handler_is : handler_at p f.fn f.block ≡ handler_of st.block
      handler_is = ap (λ h. handler_in (blocks_of h) f.block) fs.at_old ∙ ap (option_and_then handler_of) st.at_block

      reaches : (v : Regs) → RegsAgree ds x v → (h : Option ℕ) → Escapes fs.new fs.laid.exit h → After (away h (next f x) below w) (Runs (at (target_of fs.laid.start fs.laid.exit h) 0 v) waiting w)
      reaches v vs None out = (0, record { frame = at fs.laid.exit 0 v; waiting = waiting; is = refl; function = fs; block = refl; place = refl; exit = out; wait = wait })
      reaches v vs (Some h) out = jump (next f x) (at 0 0 v) fs vs below waiting w wait h

      arrives_away : (v : Regs) → RegsAgree ds x v → Escapes fs.new fs.laid.exit (handler_of st.block) → Gone (Runs (at target 0 v) waiting w)
      arrives_away v vs out =
          subst (λ h. After (away h (next f x) below w) (Runs (at target 0 v) waiting w)) (sym handler_is) (reaches v vs (handler_of st.block) out)

      -- the items as the two machines find them
      all_new : item_at q g.fn ≡ items
      all_new = ap (λ h. item_in (blocks_of h)) fs.at_new

      all_old : item_at p f.fn ≡ was
      all_old = ap (λ h. item_in (blocks_of h)) fs.at_old

      -- the fitting machine behind an operation that failed
      abbrev On : Edge → Config
      On m = cond (is_edge (item_at q g.fn) m (item_at q g.fn g.block (g.place + 1))) (Runs (next g y) waiting w) Stuck

      is_on : (m : Edge) (it : Item) → items g.block (g.place + 1) ≡ Some it → is_edge items m (Some it) ≡ true → (z : Config) → After z (Runs (next g y) waiting w) → After z (On m)
      is_on m it e b z h =
          let here : is_edge (item_at q g.fn) m (item_at q g.fn g.block (g.place + 1)) ≡ true =
          ap (λ at. is_edge at m (at g.block (g.place + 1))) all_new ∙ (ap (is_edge items m) e ∙ b) in
          rw here h

      split : (e : Thrown) → w.pending ≡ Some e → (m : Edge) → Missed ds m x → LaidOn m → m ≢ NoEdge → Gone (On m)
      split e pending NoEdge h l n = absurd (n refl)
      split e pending (Tests r) h l n =
          is_on (Tests r) _ l.0 (eq-eqb r.0 r.0 refl) _
          (tests g.block (g.place + 1) r target (g.block + 1) o.1 h.0 true _ l.0 h.1 (ap (is_error h.0) h.2 ∙ error_is h.0) (arrives_away y rs l.1))
      split e pending (TestsTwice r) h l n =
          is_on (TestsTwice r) _ l.0 (and_from (nat_eq r.0 r.0) _ (eq-eqb r.0 r.0 refl) (second_laid items (g.block + 1) (g.block + 2) target flag l.1 l.2)) _
          (tests g.block (g.place + 1) r (g.block + 1) (g.block + 2) o.1 h.0 true _ l.0 h.1 (ap (is_error h.0) h.2 ∙ error_is h.0)
          (asks (g.block + 1) (g.block + 2) _ true (ap is_some pending) l.1 l.2 l.3 (arrives_away answered answer_agrees l.4)))
      split e pending Jumps h l n =
          is_on Jumps _ l.0 refl _
          (after_step _ (Runs (at g.block (g.place + 1) y) waiting w) (Runs (at target 0 y) waiting w) (goto_step Fitting q (at g.block (g.place + 1) y) waiting w target (item_new g.block (g.place + 1) _ l.0))
          (arrives_away y rs l.1))

      -- the edge stood there already
      kept : (m : Edge) (rest : List (Op × ℕ)) (l : Last) → is_edge was m (in_block rest l 0) ≡ true → BlockStands fs.old fs.new fs.laid.start fs.laid.exit st.block rest l g.block (g.place + 1) → is_edge (item_at q g.fn) m (item_at q g.fn g.block (g.place + 1)) ≡ true
      kept m [] l b laid =
          ap (λ at. is_edge at m (at g.block (g.place + 1))) all_new ∙ (ap (is_edge items m) laid ∙ kept_edge fs.old fs.new fs.laid m l b)
      kept m (a ∷ rest) l b laid = absurd (no_edge was m a.0 a.1 b)

      -- the strict machine behind an operation that failed
      abbrev OnOld : Edge → Config
      OnOld m = cond (is_edge (item_at p f.fn) m (item_at p f.fn f.block (f.place + 1))) (Runs (next f x) below w) (away (handler_at p f.fn f.block) (next f x) below w)

      old_is : (m : Edge) (b : Bool) → is_edge was m (in_block os last 0) ≡ b → is_edge (item_at p f.fn) m (item_at p f.fn f.block (f.place + 1)) ≡ b
      old_is m b is = ap (λ at. is_edge at m (item_at p f.fn f.block (f.place + 1))) all_old ∙ (ap (is_edge was m) item_old ∙ is)

      on_edge : (e : Thrown) → w.pending ≡ Some e → (m : Edge) → m ≢ NoEdge → Missed ds m x → (b : Bool) → is_edge was m (in_block os last 0) ≡ b → LaidOn (cond b NoEdge m) → After (OnOld m) (On m)
      on_edge e pending m n h true is l =
          let old = old_is m true is in
          let new = kept m os last is l in
          rw (old, new) (arrives x y rs g.block (g.place + 1) l)
      on_edge e pending m n h false is l =
          let old = old_is m false is in
          rw old (split e pending m h l n)

      by_edge : (e : Thrown) → w.pending ≡ Some e → (m : Edge) → Missed ds m x → LaidOn (missing was m (in_block os last 0)) → After (failed Strict p m (next f x) below w) (failed Fitting q m (next g y) waiting w)
      by_edge e pending NoEdge h l = (0, tt)
      by_edge e pending (Tests r) h l = on_edge e pending (Tests r) (λ n. absurd (cc)) h _ refl l
      by_edge e pending (TestsTwice r) h l = on_edge e pending (TestsTwice r) (λ n. absurd (cc)) h _ refl l
      by_edge e pending Jumps h l = on_edge e pending Jumps (λ n. absurd (cc)) h _ refl l

      -- an operation that failed
      fails : (e : Thrown) → w.pending ≡ Some e → Missed ds (edge_of_op ds o.0) x → After (failed Strict p (edge_of_op ds o.0) (next f x) below w) (failed Fitting q (edge_of_op ds o.0) (next g y) waiting w)
      fails e pending h = by_edge e pending (edge_of_op ds o.0) h st.laid.1

  -- ---- a function is left
  abbrev WayFits : Way → Held → Option Thrown → Type 0
  WayFits Well h o = ((v : Value) × (h ≡ Holds v)) × (o ≡ None)
  WayFits Badly h o = (e : Thrown) × (o ≡ Some e)
  WayFits Wrongly h o = Unit {0}

  way_fits : (t : RType) (h : Held) (o : Option Thrown) → WayFits (way t h o) h o
  way_fits t Unset None = tt
  way_fits t (Holds v) None = ((v, refl), refl)
  way_fits t h (Some e) = either (is_error t h)
    where
      either : (b : Bool) → WayFits (cond b Badly Wrongly) h (Some e)
      either true = (e, refl)
      either false = tt

  raised_matches : (o : Option Thrown) (w : World) → After (raised_by o w) (raised_by o w)
  raised_matches None w = (0, tt)
  raised_matches (Some e) w = (0, refl)

  well_matches : (h : Held) (w : World) → After (ended_well h w) (ended_well h w)
  well_matches (Holds (BoolVal true)) w = (0, refl)
  well_matches _ w = (0, tt)

  ended_matches : (v : Way) (h : Held) (w : World) → After (ended v h w) (ended v h w)
  ended_matches Well h w = well_matches h w
  ended_matches Badly h w = raised_matches w.pending w
  ended_matches Wrongly h w = (0, tt)

  call_clear : (t : Option RType) (r : Reg) → is_clear (edge_of_kind (kind_by_result t) (Some r)) None ≡ true
  call_clear None r = refl
  call_clear (Some Int) r = refl
  call_clear (Some I64) r = refl
  call_clear (Some BoolType) r = refl
  call_clear (Some Ref) r = refl

  same_edges : (a b : Edge → Config) (m n k : Edge) → m ≡ k → n ≡ k → After (a k) (b k) → After (a m) (b n)
  same_edges a b m n k e h r = rw (e, h) r

  returned_matches : (v : Way) (h : Held) (below waiting : List Waiting) (w : World) → WayFits v h w.pending → AllWait below waiting → After (returned Strict p v h below w) (returned Fitting q v h waiting w)
  returned_matches v h [] [] w fit wait = ended_matches v h w
  returned_matches v h [] (d ∷ ds) w fit wait = absurd wait
  returned_matches v h (c ∷ cs) [] w fit wait = absurd wait
  returned_matches Well h (c ∷ cs) (d ∷ ds) w fit wait =
      let at = wait.0 in
      let st = at.frame in
      let old = st.function.old in
      rw (at.into)
      (at_some (type_of_reg (registers_of p c.frame.fn) c.into) (type_of_reg (registers_of q d.frame.fn) c.into) _ _
      (λ t k. (
        type_as c.frame.fn d.frame.fn st.function c.into t k,
        let x : Regs = put c.frame.regs c.into.0 h in
            let rs = put_as old.regs c.frame.regs d.frame.regs c.into.0 h st.regs in
            let known : type_of_reg old.regs c.into ≡ Some t = type_old c.frame.fn d.frame.fn st.function c.into t k in
            let held : x c.into.0 ≡ Holds fit.0.0 = put_same c.frame.regs c.into.0 h ∙ fit.0.1 in
            let edge : edge_of_op old.regs at.op ≡ edge_of_kind (kind_by_result (Some t)) (Some c.into) = at.edge ∙ ap (λ u. edge_of_kind (kind_by_result u) (Some c.into)) known in
            let clear : is_clear (edge_of_op old.regs at.op) w.pending ≡ true = rw (edge, fit.1) (call_clear (Some t) c.into) in
            let given : Given old.regs (edge_of_op old.regs at.op) x = rw edge (given_is old.regs MayFail c.into t x fit.0.0 known held) in
            passes (at.op, at.line) at.ops at.last c.frame d.frame st cs ds w wait.1 x (put d.frame.regs c.into.0 h) rs clear given,
      )))
  returned_matches Badly h (c ∷ cs) (d ∷ ds) w fit wait =
      let at = wait.0 in
      let st = at.frame in
      let old = st.function.old in
      rw (at.into)
      (at_some (type_of_reg (registers_of p c.frame.fn) c.into) (type_of_reg (registers_of q d.frame.fn) c.into) _ _
      (λ t k. (
        type_as c.frame.fn d.frame.fn st.function c.into t k,
        let x : Regs = put c.frame.regs c.into.0 (error_of t) in
            let y : Regs = put d.frame.regs c.into.0 (error_of t) in
            let rs = put_as old.regs c.frame.regs d.frame.regs c.into.0 (error_of t) st.regs in
            let known : type_of_reg old.regs c.into ≡ Some t = type_old c.frame.fn d.frame.fn st.function c.into t k in
            let new = type_as c.frame.fn d.frame.fn st.function c.into t k in
            let held : x c.into.0 ≡ error_of t = put_same c.frame.regs c.into.0 (error_of t) in
            let missed : Missed old.regs (edge_of_op old.regs at.op) x = rw (at.edge) (missed_is old.regs (kind_by_result (type_of_reg old.regs c.into)) c.into t x known held) in
            let step : After (failed Strict p (edge_of_op old.regs at.op) (next c.frame x) cs w) (failed Fitting q (edge_of_op old.regs at.op) (next d.frame y) ds w) =
            fails (at.op, at.line) at.ops at.last c.frame d.frame st cs ds w wait.1 x y rs fit.0 fit.1 missed in
            let old_edge : edge_of_call (registers_of p c.frame.fn) c.into ≡ edge_of_op old.regs at.op = ap (λ u. edge_of_kind (kind_by_result u) (Some c.into)) (k ∙ sym known) ∙ sym at.edge in
            let new_edge : edge_of_call (registers_of q d.frame.fn) c.into ≡ edge_of_op old.regs at.op = ap (λ u. edge_of_kind (kind_by_result u) (Some c.into)) (new ∙ sym known) ∙ sym at.edge in
            same_edges (λ m. failed Strict p m (next c.frame x) cs w) (λ m. failed Fitting q m (next d.frame y) ds w) _ _ _ old_edge new_edge step,
      )))
  returned_matches Wrongly h (c ∷ cs) (d ∷ ds) w fit wait = (0, tt)

  leave_matches : (t : RType) (h : Held) (below waiting : List Waiting) (w : World) → AllWait below waiting → After (leave Strict p t h below w) (leave Fitting q t h waiting w)
  leave_matches t h below waiting w wait =
      returned_matches (way t h w.pending) h below waiting w (way_fits t h w.pending) wait

  -- ---- the ends of blocks
  chosen_matches : (t : RType) (h : Held) (a b c d : Config) → After a c → After b d → After (chosen t h a b) (chosen t h c d)
  chosen_matches BoolType (Holds (BoolVal true)) a b c d x y = x
  chosen_matches BoolType (Holds (BoolVal false)) a b c d x y = y
  chosen_matches _ _ a b c d x y = (0, tt)

  either_matches : (t : Bool) (a b c d : Config) → After a c → After b d → After (cond t a b) (cond t c d)
  either_matches true a b c d x y = x
  either_matches false a b c d x y = y

  halted_matches : (o : Option Thrown) (w : World) → After (halted o w) (halted o w)
  halted_matches None w = (0, refl)
  halted_matches (Some e) w = (0, tt)

  last_matches : (l : Last) (f g : Frame) (below waiting : List Waiting) (w : World) (fs : FunctionStands f.fn g.fn) → RegsAgree fs.old.regs f.regs g.regs → AllWait below waiting → After (do_last Strict p l f below w) (do_last Fitting q (moved fs.laid.start l) g waiting w)
  last_matches (Goto t) f g below waiting w fs rs wait = jump f g fs rs below waiting w wait t
  last_matches (If r a b) f g below waiting w fs rs wait =
      at_some _ _ _ _
      (λ t k. (
        type_as f.fn g.fn fs r t k,
        let same : g.regs r.0 ≡ f.regs r.0 = reg_as fs.old.regs f.regs g.regs r t rs (type_old f.fn g.fn fs r t k) in
            rw same (chosen_matches t (f.regs r.0) _ _ _ _ (jump f g fs rs below waiting w wait a) (jump f g fs rs below waiting w wait b)),
      ))
  last_matches (IfError r a b line) f g below waiting w fs rs wait =
      at_some _ _ _ _
      (λ t k. (
        type_as f.fn g.fn fs r t k,
        let same : g.regs r.0 ≡ f.regs r.0 = reg_as fs.old.regs f.regs g.regs r t rs (type_old f.fn g.fn fs r t k) in
            rw same (either_matches (is_error t (f.regs r.0)) _ _ _ _ (jump f g fs rs below waiting w wait a) (jump f g fs rs below waiting w wait b)),
      ))
  last_matches (Return r) f g below waiting w fs rs wait =
      at_other (slice_get p.funcs f.fn) (slice_get q.funcs g.fn) _ _
      (λ old e. (
        fs.new,
        fs.at_new,
        at_some (look old.regs f.regs r) (look fs.new.regs g.regs r) _ _
            (λ h k. (
              let same : old ≡ fs.old = cc (fs.at_old, e) in
                  let there : look fs.old.regs f.regs r ≡ Some h = ap (λ (x : Func). look x.regs f.regs r) (sym same) ∙ k in
                  ap (λ ds. look ds g.regs r) fs.laid.regs ∙ look_as fs.old.regs fs.laid.more f.regs g.regs rs r h there,
              let same : fs.old ≡ old = cc (fs.at_old, e) in
                  let ret : fs.new.ret ≡ old.ret = fs.laid.ret ∙ ap (λ (x : Func). x.ret) same in
                  rw ret (leave_matches old.ret h below waiting w wait),
            )),
      ))
  last_matches Unreachable f g below waiting w fs rs wait = halted_matches w.pending w

  -- ---- calls
  call_of : (f g : Frame) (below waiting : List Waiting) (w : World) (r : Reg) (args : List Reg) (fs : FunctionStands f.fn g.fn) → RegsAgree fs.old.regs f.regs g.regs → AllWait below waiting → WaitStands (record { frame = f; into = r }) (record { frame = g; into = r }) → (n : Option ℕ) → After (calls p r args f below w n) (calls q r args g waiting w n)
  call_of f g below waiting w r args fs rs wait stands n =
      at_calm w.pending _ _
      (λ calm. at_some n n _ _
      (λ k e. (
        e,
        at_other (slice_get p.funcs k) (slice_get q.funcs k) _ _
            (λ old at_old. let found = all.funcs k old at_old in (
              found.0,
              found.1,
              at_some (read_all (registers_of p f.fn) f.regs args) (read_all (registers_of q g.fn) g.regs args) _ _
                  (λ xs given. (
                    let there : read_all fs.old.regs f.regs args ≡ Some xs = ap (λ ds. read_all ds f.regs args) (sym (registers_old f.fn g.fn fs)) ∙ given in
                        ap (λ ds. read_all ds g.regs args) (registers_new f.fn g.fn fs) ∙ read_all_as fs.old.regs fs.laid.more f.regs g.regs rs args xs there,
                    let laid : FunctionLaid old found.0 = found.2 in
                        let gs : FunctionStands k k = record { same = refl; old = old; new = found.0; at_old = at_old; at_new = found.1; laid = laid } in
                        let x : Regs = first_regs old.regs xs in
                        let y : Regs = first_regs found.0.regs xs in
                        let same : RegsAgree old.regs x y = subst (λ ds. RegsAgree old.regs x (first_regs ds xs)) (sym laid.regs) (first_as old.regs laid.more xs) in
                        at_conds (is_fit (registers_of p f.fn) r args old) (is_fit (registers_of q g.fn) r args found.0) _ _
                        (λ fits. (
                          let known : is_fit fs.old.regs r args old ≡ true = ap (λ ds. is_fit ds r args old) (sym (registers_old f.fn g.fn fs)) ∙ fits in
                              ap (λ ds. is_fit ds r args found.0) (registers_new f.fn g.fn fs) ∙ call_fits fs.old.regs fs.laid.more laid.more r args old found.0 laid.params laid.ret laid.regs known,
                          subst
                              (λ s. After (Runs (record { fn = k; block = 0; place = 0; regs = x }) (record { frame = f; into = r } ∷ below) w) (Runs (record { fn = k; block = s; place = 0; regs = y }) (record { frame = g; into = r } ∷ waiting) w))
                              laid.entry
                              (jump (record { fn = k; block = 0; place = 0; regs = x }) (record { fn = k; block = 0; place = 0; regs = y }) gs same (record { frame = f; into = r } ∷ below) (record { frame = g; into = r } ∷ waiting) w (stands, wait) 0),
                        )),
                  )),
            )),
      )))

  -- the class of an object has the same methods
  method_same : (w : World) (v : Value) (entry : CClass → Option (List ℕ)) → method_of q w v entry ≡ method_of p w v entry
  method_same w v entry =
      let name : Option (List ℕ) = option_and_then (λ c. option_and_then entry (slice_get p.classes c)) (class_of w.store v) in
      ap (λ cs. option_and_then (function_called q) (option_and_then (λ c. option_and_then entry (slice_get cs c)) (class_of w.store v))) all.classes
      ∙ by name
    where
      by : (o : Option (List ℕ)) → option_and_then (function_called q) o ≡ option_and_then (function_called p) o
      by None = refl
      by (Some id) = all.called id

  method_call_of : (f g : Frame) (below waiting : List Waiting) (w : World) (r o : Reg) (args : List Reg) (fs : FunctionStands f.fn g.fn) → RegsAgree fs.old.regs f.regs g.regs → AllWait below waiting → WaitStands (record { frame = f; into = r }) (record { frame = g; into = r }) → (entry : CClass → Option (List ℕ)) → After (calls_method p r o args f below w entry) (calls_method q r o args g waiting w entry)
  method_call_of f g below waiting w r o args fs rs wait stands entry =
      at_some (read (registers_of p f.fn) f.regs o) (read (registers_of q g.fn) g.regs o) _ _
      (λ v e. (
        let there : read fs.old.regs f.regs o ≡ Some v = ap (λ ds. read ds f.regs o) (sym (registers_old f.fn g.fn fs)) ∙ e in
            ap (λ ds. read ds g.regs o) (registers_new f.fn g.fn fs) ∙ read_as fs.old.regs fs.laid.more f.regs g.regs rs o v there,
        subst (λ n. After (calls p r (o ∷ args) f below w (method_of p w v entry)) (calls q r (o ∷ args) g waiting w n)) (sym (method_same w v entry))
            (call_of f g below waiting w r (o ∷ args) fs rs wait stands (method_of p w v entry)),
      ))

  turn_of : (f g : Frame) (below waiting : List Waiting) (w : World) (t : ℕ) → ((v : World) → After (goes f below f.regs v) (goes g waiting g.regs v)) → After (turned f below w t) (turned g waiting w t)
  turn_of f g below waiting w zero h = (0, refl)
  turn_of f g below waiting w (suc t) h = h (record w { turns = t })

  -- ---- operations
  module _ (line : ℕ) (os : List (Op × ℕ)) (last : Last) (f g : Frame) (below waiting : List Waiting) (wait : AllWait below waiting) where
    -- an operation that cannot fail goes on with other registers, or with the same
    wrote : (o : Op) (st : FrameStands ((o, line) ∷ os) last f g) (w : World) → edge_of_op st.function.old.regs o ≡ NoEdge → (r : ℕ) (v : Held) → After (goes f below (put f.regs r v) w) (goes g waiting (put g.regs r v) w)
    wrote o st w none r v =
        passes (o, line) os last f g st below waiting w wait (put f.regs r v) (put g.regs r v) (put_as st.function.old.regs f.regs g.regs r v st.regs) (rw none refl) (rw none tt)

    acted : (o : Op) (st : FrameStands ((o, line) ∷ os) last f g) (w : World) → edge_of_op st.function.old.regs o ≡ NoEdge → After (goes f below f.regs w) (goes g waiting g.regs w)
    acted o st w none =
        passes (o, line) os last f g st below waiting w wait f.regs g.regs st.regs (rw none refl) (rw none tt)

    -- a register that is read
    at_read : (o : Op) (st : FrameStands ((o, line) ∷ os) last f g) (w : World) → edge_of_op st.function.old.regs o ≡ NoEdge → (r : Reg) → After (if_some (read (registers_of p f.fn) f.regs r) (λ v. goes f below f.regs w)) (if_some (read (registers_of q g.fn) g.regs r) (λ v. goes g waiting g.regs w))
    at_read o st w none r =
        let fs = st.function in
        at_some _ _ _ _
        (λ v e. (
          let there : read fs.old.regs f.regs r ≡ Some v = ap (λ ds. read ds f.regs r) (sym (registers_old f.fn g.fn fs)) ∙ e in
              ap (λ ds. read ds g.regs r) (registers_new f.fn g.fn fs) ∙ read_as fs.old.regs fs.laid.more f.regs g.regs st.regs r v there,
          acted o st w none,
        ))

    -- what an operation gives is of its target's type
    gives_type : (o : Op) (st : FrameStands ((o, line) ∷ os) last f g) → GivesType st.function.old.regs o
    gives_type o st =
        let old : Func = st.function.old in
        op_gives old.regs st.block.ops st.block.last (block_gives old.regs old.blocks (all.gives f.fn old st.function.at_old) f.block st.block st.at_block) (f.place + 0) o (st.rest 0)

    -- what a primitive does
    succeeded : (to : Option Reg) (c : Primitive) (ps : List PArg) (st : FrameStands ((Prim to c ps, line) ∷ os) last f g) (x y : Regs) → RegsAgree st.function.old.regs x y → (w : World) → Given st.function.old.regs (edge_of_prim st.function.old.regs to c) x → After (succeeds Strict p (edge_of_prim st.function.old.regs to c) f below x w) (succeeds Fitting q (edge_of_prim st.function.old.regs to c) g waiting y w)
    succeeded to c ps st x y rs w given =
        at_cond (is_clear (edge_of_prim st.function.old.regs to c) w.pending) _ _
        (λ clear. passes (Prim to c ps, line) os last f g st below waiting w wait x y rs clear given)

    applied_matches : (to : Option Reg) (c : Primitive) (ps : List PArg) (st : FrameStands ((Prim to c ps, line) ∷ os) last f g) (e : Effect) → After (applied Strict p (edge_of_prim (registers_of p f.fn) to c) to f below e) (applied Fitting q (edge_of_prim (registers_of q g.fn) to c) to g waiting e)
    applied_matches None c ps st Wrong = (0, tt)
    applied_matches (Some r) c ps st Wrong = (0, tt)
    applied_matches None c ps st (IfTarget k e) = (0, tt)
    applied_matches (Some r) c ps st (IfTarget k e) = (0, tt)
    applied_matches None c ps st (IfWritten k e) = (0, tt)
    applied_matches (Some r) c ps st (IfWritten k e) = (0, tt)
    applied_matches None c ps st (Ends e w) = (0, refl)
    applied_matches (Some r) c ps st (Ends e w) = (0, refl)
    applied_matches None c ps st (Gives v w) = (0, tt)
    applied_matches None c ps st (Acts w) =
        succeeded None c ps st f.regs g.regs st.regs w (given_none st.function.old.regs (error_kind c None) f.regs)
    applied_matches None c ps st (Fails e w) =
        fails (Prim None c ps, line) os last f g st below waiting (record w { pending = Some e }) wait f.regs g.regs st.regs e refl (missed_none st.function.old.regs (error_kind c None) f.regs)
    applied_matches (Some r) c ps st (Acts w) = (0, tt)
    applied_matches (Some r) c ps st (Gives v w) =
        let fs = st.function in
        let ds = fs.old.regs in
        at_some (type_of_reg (registers_of p f.fn) r) (type_of_reg (registers_of q g.fn) r) _ _
        (λ t k. (
          type_as f.fn g.fn fs r t k,
          let known : type_of_reg ds r ≡ Some t = type_old f.fn g.fn fs r t k in
              let new = type_as f.fn g.fn fs r t k in
              let x : Regs = put f.regs r.0 (Holds v) in
              let y : Regs = put g.regs r.0 (Holds v) in
              let row : type_given (row_of c).outcome (Some t) ≡ Some t = gives_type (Prim (Some r) c ps) st t known in
              let given : Given ds (edge_of_prim ds (Some r) c) x =
              rw known (subst (λ o. Given ds (edge_of_kind (kind_by (failing c) o) (Some r)) x) (sym row) (given_is ds (failing c) r t x v known (put_same f.regs r.0 (Holds v)))) in
              let step = succeeded (Some r) c ps st x y (put_as ds f.regs g.regs r.0 (Holds v) st.regs) w given in
              let old_edge : edge_of_prim (registers_of p f.fn) (Some r) c ≡ edge_of_prim ds (Some r) c = ap (λ o. edge_of_kind (error_kind c o) (Some r)) (k ∙ sym known) in
              let new_edge : edge_of_prim (registers_of q g.fn) (Some r) c ≡ edge_of_prim ds (Some r) c = ap (λ o. edge_of_kind (error_kind c o) (Some r)) (new ∙ sym known) in
              same_edges (λ m. succeeds Strict p m f below x w) (λ m. succeeds Fitting q m g waiting y w) _ _ _ old_edge new_edge step,
        ))
    applied_matches (Some r) c ps st (Fails e w) =
        let fs = st.function in
        let ds = fs.old.regs in
        at_some (type_of_reg (registers_of p f.fn) r) (type_of_reg (registers_of q g.fn) r) _ _
        (λ t k. (
          type_as f.fn g.fn fs r t k,
          let known : type_of_reg ds r ≡ Some t = type_old f.fn g.fn fs r t k in
              let new = type_as f.fn g.fn fs r t k in
              let x : Regs = put f.regs r.0 (error_of t) in
              let y : Regs = put g.regs r.0 (error_of t) in
              let v : World = record w { pending = Some e } in
              let missed : Missed ds (edge_of_prim ds (Some r) c) x = missed_is ds (error_kind c (type_of_reg ds r)) r t x known (put_same f.regs r.0 (error_of t)) in
              let step = fails (Prim (Some r) c ps, line) os last f g st below waiting v wait x y (put_as ds f.regs g.regs r.0 (error_of t) st.regs) e refl missed in
              let old_edge : edge_of_prim (registers_of p f.fn) (Some r) c ≡ edge_of_prim ds (Some r) c = ap (λ o. edge_of_kind (error_kind c o) (Some r)) (k ∙ sym known) in
              let new_edge : edge_of_prim (registers_of q g.fn) (Some r) c ≡ edge_of_prim ds (Some r) c = ap (λ o. edge_of_kind (error_kind c o) (Some r)) (new ∙ sym known) in
              same_edges (λ m. failed Strict p m (next f x) below v) (λ m. failed Fitting q m (next g y) waiting v) _ _ _ old_edge new_edge step,
        ))

    -- a register of a slot's kind is one in both
    slot_kind_as : (fs : FunctionStands f.fn g.fn) (k : Kind) (r : Reg) → has_slot_kind (registers_of p f.fn) k r ≡ true → has_slot_kind (registers_of q g.fn) k r ≡ true
    slot_kind_as fs k r e = by (type_of_reg (registers_of p f.fn) r) refl e
      where
        by : (o : Option RType) → type_of_reg (registers_of p f.fn) r ≡ o → has_kind k (option_map kind_of_type o) ≡ true → has_slot_kind (registers_of q g.fn) k r ≡ true
        by None is has = absurd (cc)
        by (Some t) is has = ap (λ o. has_kind k (option_map kind_of_type o)) (type_as f.fn g.fn fs r t is) ∙ has

    into_as : (fs : FunctionStands f.fn g.fn) (k : Kind) (to : Option Reg) → is_into (registers_of p f.fn) k to ≡ true → is_into (registers_of q g.fn) k to ≡ true
    into_as fs k None e = refl
    into_as fs k (Some r) e = slot_kind_as fs k r e

    written_as : (fs : FunctionStands f.fn g.fn) (k : Kind) (ps : List PArg) → is_written (registers_of p f.fn) k ps ≡ true → is_written (registers_of q g.fn) k ps ≡ true
    written_as fs k (a ∷ b ∷ arg.Var r ∷ []) e = slot_kind_as fs k r e
    written_as fs k [] e = absurd (cc)
    written_as fs k (a ∷ []) e = absurd (cc)
    written_as fs k (a ∷ b ∷ []) e = absurd (cc)
    written_as fs k (a ∷ b ∷ arg.Number n ∷ more) e = absurd (cc)
    written_as fs k (a ∷ b ∷ arg.Text n ∷ more) e = absurd (cc)
    written_as fs k (a ∷ b ∷ arg.Global n ∷ more) e = absurd (cc)
    written_as fs k (a ∷ b ∷ arg.Class n ∷ more) e = absurd (cc)
    written_as fs k (a ∷ b ∷ arg.Var r ∷ c ∷ more) e = absurd (cc)

    by_kind : (to : Option Reg) (c : Primitive) (ps : List PArg) (st : FrameStands ((Prim to c ps, line) ∷ os) last f g) (e : Effect) (b d : Bool) → (b ≡ true → d ≡ true) → After (applied Strict p (edge_of_prim (registers_of p f.fn) to c) to f below (cond b e Wrong)) (applied Fitting q (edge_of_prim (registers_of q g.fn) to c) to g waiting (cond d e Wrong))
    by_kind to c ps st e true d h =
        subst (λ z. After (applied Strict p (edge_of_prim (registers_of p f.fn) to c) to f below e) (applied Fitting q (edge_of_prim (registers_of q g.fn) to c) to g waiting (cond z e Wrong))) (sym (h refl)) (applied_matches to c ps st e)
    by_kind to c ps st e false d h = (0, tt)

    typed_matches : (to : Option Reg) (c : Primitive) (ps : List PArg) (st : FrameStands ((Prim to c ps, line) ∷ os) last f g) (e : Effect) → After (applied Strict p (edge_of_prim (registers_of p f.fn) to c) to f below (typed (registers_of p f.fn) to ps e)) (applied Fitting q (edge_of_prim (registers_of q g.fn) to c) to g waiting (typed (registers_of q g.fn) to ps e))
    typed_matches to c ps st Wrong = applied_matches to c ps st Wrong
    typed_matches to c ps st (Gives v w) = applied_matches to c ps st (Gives v w)
    typed_matches to c ps st (Acts w) = applied_matches to c ps st (Acts w)
    typed_matches to c ps st (Fails e w) = applied_matches to c ps st (Fails e w)
    typed_matches to c ps st (Ends e w) = applied_matches to c ps st (Ends e w)
    typed_matches to c ps st (IfTarget k e) =
        by_kind to c ps st e (is_into (registers_of p f.fn) k to) (is_into (registers_of q g.fn) k to) (into_as st.function k to)
    typed_matches to c ps st (IfWritten k e) =
        by_kind to c ps st e (is_written (registers_of p f.fn) k ps) (is_written (registers_of q g.fn) k ps) (written_as st.function k ps)

    -- a call waits at its place
    waits : (o : Op) (r : Reg) (st : FrameStands ((o, line) ∷ os) last f g) → edge_of_op st.function.old.regs o ≡ edge_of_call st.function.old.regs r → WaitStands (record { frame = f; into = r }) (record { frame = g; into = r })
    waits o r st e = record { into = refl; op = o; line = line; ops = os; last = last; frame = st; edge = e }

    op_matches : (o : Op) (st : FrameStands ((o, line) ∷ os) last f g) (w : World) → After (do_op Strict p o f below w) (do_op Fitting q o g waiting w)
    op_matches (Move r s) st w =
        let fs = st.function in
        at_some _ _ _ _
        (λ t k. (
          type_as f.fn g.fn fs s t k,
          let same : g.regs s.0 ≡ f.regs s.0 = reg_as fs.old.regs f.regs g.regs s t st.regs (type_old f.fn g.fn fs s t k) in
              rw same
              (at_refused (is_lost t (f.regs s.0)) _ _
              (at_some (type_of_reg (registers_of p f.fn) r) (type_of_reg (registers_of q g.fn) r) _ _
              (λ u l. (type_as f.fn g.fn fs r u l, wrote (Move r s) st w refl r.0 (f.regs s.0))))),
        ))
    op_matches (Lit r l) st w =
        at_some _ _ _ _
        (λ t k. (
          type_as f.fn g.fn st.function r t k,
          at_some (literal_of t l) (literal_of t l) (λ h. goes f below (put f.regs r.0 h) w) (λ h. goes g waiting (put g.regs r.0 h) w) (λ h e. (e, wrote (Lit r l) st w refl r.0 h)),
        ))
    op_matches (Prim to c ps) st w =
        let fs = st.function in
        at_cond (may_stand w.pending c) _ _
        (λ stands. at_some (arguments (registers_of p f.fn) f.regs ps) (arguments (registers_of q g.fn) g.regs ps) _ _
        (λ xs e. (
          let there : arguments fs.old.regs f.regs ps ≡ Some xs = ap (λ ds. arguments ds f.regs ps) (sym (registers_old f.fn g.fn fs)) ∙ e in
              ap (λ ds. arguments ds g.regs ps) (registers_new f.fn g.fn fs) ∙ arguments_as fs.old.regs fs.laid.more f.regs g.regs st.regs ps xs there,
          subst (λ x. After (applied Strict p (edge_of_prim (registers_of p f.fn) to c) to f below (typed (registers_of p f.fn) to ps (effect p c xs w))) (applied Fitting q (edge_of_prim (registers_of q g.fn) to c) to g waiting (typed (registers_of q g.fn) to ps x))) (sym (all.effects c xs w))
              (typed_matches to c ps st (effect p c xs w)),
        )))
    op_matches (Call r n args) st w =
        call_of f g below waiting w r args st.function st.regs wait (waits (Call r n args) r st refl) (Some n)
    op_matches (Virtual r o n args) st w =
        method_call_of f g below waiting w r o args st.function st.regs wait (waits (Virtual r o n args) r st refl) (method_at n)
    op_matches (TraitCall r o t n args) st w =
        at_some (trait_name p t) (trait_name q t) _ _
        (λ name e. (
          ap (λ cs. option_map class_name (slice_get cs t)) all.classes ∙ e,
          method_call_of f g below waiting w r o args st.function st.regs wait (waits (TraitCall r o t n args) r st refl) (trait_method_at name n),
        ))
    op_matches Turn st w =
        at_calm w.pending _ _ (λ calm. turn_of f g below waiting w w.turns (λ v. acted Turn st v refl))
    op_matches (Inc r) st w = at_read (Inc r) st w refl r
    op_matches (Dec r) st w = at_read (Dec r) st w refl r
    op_matches (XDec r) st w =
        let fs = st.function in
        at_some _ _ _ _
        (λ h e. (
          let there : look fs.old.regs f.regs r ≡ Some h = ap (λ ds. look ds f.regs r) (sym (registers_old f.fn g.fn fs)) ∙ e in
              ap (λ ds. look ds g.regs r) (registers_new f.fn g.fn fs) ∙ look_as fs.old.regs fs.laid.more f.regs g.regs st.regs r h there,
          acted (XDec r) st w refl,
        ))

  -- ---- the step
  first_item : (ops : List (Op × ℕ)) (last : Last) (f g : Frame) → FrameStands ops last f g → item_at p f.fn f.block f.place ≡ in_block ops last 0
  first_item ops last f g st =
      let e : f.place ≡ f.place + 0 = omega arith in
      ap (λ h. item_in (blocks_of h) f.block f.place) st.function.at_old ∙ (ap (λ b. item_of b f.place) st.at_block ∙ (ap (in_block st.block.ops st.block.last) e ∙ st.rest 0))

  item_there : (a : ℕ) (g : Frame) (fs : FunctionStands a g.fn) (it : Item) → item_in fs.new.blocks g.block g.place ≡ Some it → item_at q g.fn g.block g.place ≡ Some it
  item_there a g fs it e = ap (λ h. item_in (blocks_of h) g.block g.place) fs.at_new ∙ e

  acts : (it : Option Item) (f : Frame) (below : List Waiting) (w : World) (jt : Item) (g : Frame) (waiting : List Waiting) → item_at p f.fn f.block f.place ≡ it → item_at q g.fn g.block g.place ≡ Some jt → After (act Strict p it f below w) (act Fitting q (Some jt) g waiting w) → After (step Strict p (Runs f below w)) (step Fitting q (Runs g waiting w))
  acts it f below w jt g waiting e h r = rw (e, h) r

  run_matches : (ops : List (Op × ℕ)) (last : Last) (f g : Frame) (below waiting : List Waiting) (w : World) → FrameStands ops last f g → AllWait below waiting → After (step Strict p (Runs f below w)) (step Fitting q (Runs g waiting w))
  run_matches [] last f g below waiting w st wait =
      acts (Some (End last)) f below w (End (moved st.function.laid.start last)) g waiting (first_item [] last f g st) (item_there f.fn g st.function _ st.laid)
      (last_matches last f g below waiting w st.function st.regs wait)
  run_matches (o ∷ os) last f g below waiting w st wait =
      acts (Some (Do o.0 o.1)) f below w (Do o.0 o.1) g waiting (first_item (o ∷ os) last f g st) (item_there f.fn g st.function _ st.laid.0)
      (op_matches o.1 os last f g below waiting wait o.0 st w)

  lost_matches : (f : Frame) (below : List Waiting) (w : World) (d : Config) (it : Option Item) → it ≡ None → After (act Strict p it f below w) d
  lost_matches f below w d it e = rw e (0, tt)

  leaves_at : (fn : ℕ) (old : Func) (below : List Waiting) (w : World) (d : Config) → slice_get p.funcs fn ≡ Some old → After (leave Strict p old.ret (error_of old.ret) below w) d → After (step Strict p (Leaves fn below w)) d
  leaves_at fn old below w d e h = rw e h

  leaves_matches : (fn : ℕ) (below : List Waiting) (w : World) (d : Config) → LeaveMatches fn below w d → After (step Strict p (Leaves fn below w)) (step Fitting q d)
  leaves_matches fn below w d m =
      let fs = m.function in
      let new : Func = fs.new in
      let r : Reg = m.exit.register in
      let f : Frame = m.frame in
      let item : (i : ℕ) (it : Item) → item_in new.blocks fs.laid.exit i ≡ Some it → item_at q f.fn f.block i ≡ Some it =
      λ i it e. ap (λ h. item_in (blocks_of h) f.block i) fs.at_new ∙ (ap (λ k. item_in new.blocks k i) m.block ∙ e) in
      let writes : item_at q f.fn f.block f.place ≡ Some (Do (Lit r (error_literal new.ret)) 0) = ap (λ i. item_at q f.fn f.block i) m.place ∙ item 0 _ m.exit.writes in
      let kind : type_of_reg (registers_of q f.fn) r ≡ Some new.ret = ap (λ h. type_of_reg (declared_of h) r) fs.at_new ∙ m.exit.kind in
      let z : Regs = put f.regs r.0 (error_of new.ret) in
      let g : Frame = next f z in
      let first = lit_step Fitting q f m.waiting w r (error_literal new.ret) new.ret (error_of new.ret) writes kind (literal_is new.ret) in
      let one : f.place + 1 ≡ 1 = ap (λ i. i + 1) m.place in
      let returns : item_at q g.fn g.block g.place ≡ Some (End (Return r)) = ap (λ i. item_at q f.fn f.block i) one ∙ item 1 _ m.exit.returns in
      let held : look new.regs z r ≡ Some (error_of new.ret) = ap (option_map (λ t. z r.0)) m.exit.kind ∙ ap Some (put_same f.regs r.0 (error_of new.ret)) in
      let second = return_step Fitting q g m.waiting w r new (error_of new.ret) returns fs.at_new held in
      let left : After (leave Strict p fs.old.ret (error_of fs.old.ret) below w) (leave Fitting q new.ret (error_of new.ret) m.waiting w) = rw (fs.laid.ret) (leave_matches fs.old.ret (error_of fs.old.ret) below m.waiting w m.wait) in
      let one_step : step Fitting q d ≡ Runs g m.waiting w = ap (step Fitting q) m.is ∙ first in
      leaves_at fn fs.old below w (step Fitting q d) fs.at_old
      (after_equal _ _ _ one_step (after_step _ _ _ second left))

  pub step_matches : (c d : Config) → Matches c d → After (step Strict p c) (step Fitting q d)
  step_matches (Runs f below w) d (lost e) = lost_matches f below w (step Fitting q d) (item_at p f.fn f.block f.place) e
  step_matches (Runs f below w) d (found ops last g waiting e st wait) = rw e (run_matches ops last f g below waiting w st wait)
  step_matches (Leaves fn below w) d m = leaves_matches fn below w d m
  step_matches (Ended e w) d m = (0, rw m refl)
  step_matches Stuck d m = (0, tt)
