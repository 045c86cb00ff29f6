-- Two programs whose functions differ in their blocks alone take the same steps, where each frame does the same wherever it stands.
use Rattle.std.proofs.Common.{◌≡◌, refl, ◌∙◌, ap, subst, ℕ, zero, suc, ◌+◌, ◌-◌, not, cond, List, [], ◌∷◌, length, Option, Some, None}
use Rattle.std.specs.Prelude.{slice_get, nat_lt, nat_eq, ◌&&◌}
use Rattle.std.specs.List.{position_or_len}
use Rattle.std.specs.Option.{option_and_then}
use Rattle.std.specs.Str.{bytes_eq}
use Rattle.value_core.specs.Exceptions.{Thrown}
use Rattle.value_core.specs.Items.{Items}
use Rattle.value_core.specs.Value.{Value}
use Rattle.c_core.specs.declared.code.CClass.{CClass}
use Rattle.c_core.specs.Functions.{method_at, trait_method_at}
use Rattle.ir_core.specs.declared.code.Reg.{Reg}
use Rattle.ir_core.specs.declared.code.RType.{RType}
use Rattle.ir_core.specs.declared.code.Op.{Op}
use Rattle.ir_core.specs.declared.code.Op.TheVariants.{Move, Lit, Prim, Call, Virtual, TraitCall, Turn, Inc, Dec, XDec}
use Rattle.ir_core.specs.declared.code.Last.{Last}
use Rattle.ir_core.specs.declared.code.Last.TheVariants.{Goto, If, IfError, Return, Unreachable}
use Rattle.ir_core.specs.declared.code.Func.{Func}
use Rattle.ir_core.specs.declared.code.Program.{Program}
use Rattle.ir_core.specs.declared.kind.Edge.{Edge}
use Rattle.ir_core.specs.declared.kind.Edge.TheVariants.{NoEdge, Tests, TestsTwice, Jumps}
use Rattle.ir_core.specs.Items.{Item, Do, End}
use Rattle.ir_core.specs.Rows.{Declared, type_of_reg, edge_of_call, edge_of_prim, edge_of_op}
use Rattle.ir_core.specs.Registers.{Held, Holds, error_of, is_error, literal_of, put, look, first_regs}
use Rattle.ir_core.specs.Names.{function_id, is_called, function_called}
use Rattle.ir_core.specs.Effects.{World, Effect, Wrong, Gives, Acts, Fails, Ends, IfTarget, IfWritten, effect}
use Rattle.ir_core.specs.Meaning.{Frame, Waiting, Config, Runs, Leaves, Ended, Stuck, Mode, if_some, if_calm, next, to_block, goes, read, read_all, arguments, is_refused, are_types, is_type, is_fit, Way, Well, Badly, Wrongly, way, is_edge, unfit, away, may_stand, typed, chosen, declared_of, registers_of, item_at, handler_at, method_of, trait_name, class_of, enters, calls, calls_method, failed, succeeds, applied, returned, leave, do_op, do_last, act, step, steps}
use Rattle.ir_core.specs.Runs.{first_world, begins, start}
use Rattle.unset_tests.specs.Alike.{IsAlike, AreEach}
use Rattle.unset_tests.proofs.Each.{Pair, neither, both, each_at, each_count}
use Rattle.unset_tests.proofs.Frames.{GoesOn, GoodWaiting, AllGood, Good}
use Rattle.unset_tests.proofs.Kept.{step_good, start_good}

same_go : {A : Type 0} (o : Option A) (go other : A → Config) → ((a : A) → go a ≡ other a) → if_some o go ≡ if_some o other
same_go None go other h = refl
same_go (Some a) go other h = h a

same_calm : (o : Option Thrown) (a b : Config) → a ≡ b → if_calm o a ≡ if_calm o b
same_calm o a b e = ap (if_calm o) e

-- the program with other functions
abbrev pub with_funcs : Program → List Func → Program
with_funcs p gs = record p { funcs = gs }

module _ (p : Program) (gs : List Func) where
  abbrev pub SameEdge : Edge → ℕ → ℕ → ℕ → Type 0
  SameEdge e fn k i =
      is_edge (item_at (with_funcs p gs) fn) e (item_at (with_funcs p gs) fn k i) ≡ is_edge (item_at p fn) e (item_at p fn k i)

  -- wherever frames stand, what they do there is the same, and so is what an operation that fails finds behind it
  pub record DoSame (Stands : Frame → Type 0) : Type 0 where
    pub handlers : (f : Frame) → Stands f → handler_at (with_funcs p gs) f.fn f.block ≡ handler_at p f.fn f.block
    pub edges : (f : Frame) (o : Op) (line : ℕ) → item_at p f.fn f.block f.place ≡ Some (Do o line) → Stands f → SameEdge (edge_of_op (registers_of p f.fn) o) f.fn f.block (f.place + 1)
    pub acts : (m : Mode) (f : Frame) (below : List Waiting) (w : World) → Stands f → act m (with_funcs p gs) (item_at (with_funcs p gs) f.fn f.block f.place) f below w ≡ act m (with_funcs p gs) (item_at p f.fn f.block f.place) f below w

pub registers_same : (p : Program) (gs : List Func) → AreEach IsAlike p.funcs gs → (fn : ℕ) → registers_of (with_funcs p gs) fn ≡ registers_of p fn
registers_same p gs all fn = by (each_at IsAlike p.funcs gs all fn)
  where
    by : {a b : Option Func} → Pair IsAlike a b → declared_of b ≡ declared_of a
    by neither = refl
    by (both f g e) = e.regs

module _ (m : Mode) (p : Program) (gs : List Func) (all : AreEach IsAlike p.funcs gs) (Stands : Frame → Type 0) (on : GoesOn p Stands) (alike : DoSame p gs Stands) where
  abbrev o : Program
  o = with_funcs p gs

  -- the same is done with two functions that stand at one number
  by_pair : (n : ℕ) (go other : Func → Config) → ((f g : Func) → IsAlike f g → go g ≡ other f) → if_some (slice_get gs n) go ≡ if_some (slice_get p.funcs n) other
  by_pair n go other h = by (each_at IsAlike p.funcs gs all n)
    where
      by : {a b : Option Func} → Pair IsAlike a b → if_some b go ≡ if_some a other
      by neither = refl
      by (both f g e) = h f g e

  -- ---- names
  same_place : (id : List ℕ) (fs hs : List Func) → AreEach IsAlike fs hs → position_or_len (is_called id) hs ≡ position_or_len (is_called id) fs
  same_place id [] [] h = refl
  same_place id [] (g ∷ hs) h = absurd h
  same_place id (f ∷ fs) [] h = absurd h
  same_place id (f ∷ fs) (g ∷ hs) h =
      ap (λ name. cond (not (bytes_eq (function_id name) id)) (1 + position_or_len (is_called id) hs) 0) h.0.name
      ∙ ap (λ n. cond (not (bytes_eq (function_id f.name) id)) (1 + n) 0) (same_place id fs hs h.1)

  called : (id : List ℕ) → function_called o id ≡ function_called p id
  called id =
      ap (λ n. cond (nat_lt n (length gs)) (Some n) None) (same_place id p.funcs gs all)
      ∙ ap (λ n. cond (nat_lt (position_or_len (is_called id) p.funcs) n) (Some (position_or_len (is_called id) p.funcs)) None) (each_count IsAlike p.funcs gs all)

  method_same : (w : World) (v : Value) (entry : CClass → Option (List ℕ)) → method_of o w v entry ≡ method_of p w v entry
  method_same w v entry = by (option_and_then (λ c. option_and_then entry (slice_get p.classes c)) (class_of w.store v))
    where
      by : (x : Option (List ℕ)) → option_and_then (function_called o) x ≡ option_and_then (function_called p) x
      by None = refl
      by (Some id) = called id

  effects : (c : _) (xs : List _) (w : World) → effect o c xs w ≡ effect p c xs w
  effects c xs w = refl

  -- ---- failures
  failed_same : (e : Edge) (f : Frame) (below : List Waiting) (w : World) → handler_at o f.fn f.block ≡ handler_at p f.fn f.block → SameEdge p gs e f.fn f.block f.place → failed m o e f below w ≡ failed m p e f below w
  failed_same NoEdge f below w handler same = refl
  failed_same (Tests r) f below w handler same =
      ap (λ b. cond b (Runs f below w) (unfit m (away (handler_at o f.fn f.block) f below w))) same
      ∙ ap (λ h. cond (is_edge (item_at p f.fn) (Tests r) (item_at p f.fn f.block f.place)) (Runs f below w) (unfit m (away h f below w))) handler
  failed_same (TestsTwice r) f below w handler same =
      ap (λ b. cond b (Runs f below w) (unfit m (away (handler_at o f.fn f.block) f below w))) same
      ∙ ap (λ h. cond (is_edge (item_at p f.fn) (TestsTwice r) (item_at p f.fn f.block f.place)) (Runs f below w) (unfit m (away h f below w))) handler
  failed_same Jumps f below w handler same =
      ap (λ b. cond b (Runs f below w) (unfit m (away (handler_at o f.fn f.block) f below w))) same
      ∙ ap (λ h. cond (is_edge (item_at p f.fn) Jumps (item_at p f.fn f.block f.place)) (Runs f below w) (unfit m (away h f below w))) handler

  returned_same : (v : Way) (h : Held) (below : List Waiting) (w : World) → AllGood p Stands below → returned m o v h below w ≡ returned m p v h below w
  returned_same v h [] w good = refl
  returned_same Well h (c ∷ cs) w good =
      ap (λ (ds : Declared). if_some (type_of_reg ds c.into) (λ t. goes c.frame cs (put c.frame.regs c.into.0 h) w)) (registers_same p gs all c.frame.fn)
  returned_same Badly h (c ∷ cs) w good =
      let g : GoodWaiting p Stands c = good.0 in
      let ds : Declared = registers_of p c.frame.fn in
      let same : SameEdge p gs (edge_of_call ds c.into) c.frame.fn c.frame.block (c.frame.place + 1) =
      subst (λ e. SameEdge p gs e c.frame.fn c.frame.block (c.frame.place + 1)) g.into.edge (alike.edges c.frame g.o g.line g.here g.frame) in
      ap (λ (rs : Declared). if_some (type_of_reg rs c.into) (λ t. failed m o (edge_of_call rs c.into) (next c.frame (put c.frame.regs c.into.0 (error_of t))) cs w)) (registers_same p gs all c.frame.fn)
      ∙ same_go (type_of_reg ds c.into) _ _ (λ t. failed_same (edge_of_call ds c.into) (next c.frame (put c.frame.regs c.into.0 (error_of t))) cs w (alike.handlers c.frame g.frame) same)
  returned_same Wrongly h (c ∷ cs) w good = refl

  leave_same : (t u : RType) (h : Held) (below : List Waiting) (w : World) → t ≡ u → AllGood p Stands below → leave m o t h below w ≡ leave m p u h below w
  leave_same t u h below w e good =
      ap (λ r. leave m o r h below w) e ∙ returned_same (way u h w.pending) h below w good

  -- ---- operations
  module _ (f : Frame) (below : List Waiting) (w : World) where
    abbrev ds : Declared
    ds = registers_of p f.fn

    enters_same : (r : Reg) (args : List Reg) (n : ℕ) → enters o r args f below w n ≡ enters p r args f below w n
    enters_same r args n =
        let into : Declared → Func → Config = λ rs h. if_some (read_all rs f.regs args) (λ xs. cond (is_fit rs r args h) (Runs (record { fn = n; block = 0; place = 0; regs = first_regs h.regs xs }) (record { frame = f; into = r } ∷ below) w) Stuck) in
        ap (λ rs. if_some (slice_get gs n) (into rs)) (registers_same p gs all f.fn)
        ∙ by_pair n (into ds) (into ds) (λ x y h.
        let with_parts : ℕ → Declared → RType → Config = λ params regs ret. if_some (read_all ds f.regs args) (λ xs. cond (nat_eq (length args) params && (are_types ds args regs && is_type ret (type_of_reg ds r))) (Runs (record { fn = n; block = 0; place = 0; regs = first_regs regs xs }) (record { frame = f; into = r } ∷ below) w) Stuck) in
        ap (λ k. with_parts k y.regs y.ret) h.params ∙ (ap (λ rs. with_parts x.params rs y.ret) h.regs ∙ ap (λ t. with_parts x.params x.regs t) h.ret))

    calls_same : (r : Reg) (args : List Reg) (n : Option ℕ) → calls o r args f below w n ≡ calls p r args f below w n
    calls_same r args n =
        same_calm w.pending _ _ (same_go n (enters o r args f below w) (enters p r args f below w) (enters_same r args))

    method_call_same : (r x : Reg) (args : List Reg) (entry : CClass → Option (List ℕ)) → calls_method o r x args f below w entry ≡ calls_method p r x args f below w entry
    method_call_same r x args entry =
        ap (λ (rs : Declared). if_some (read rs f.regs x) (λ v. calls o r (x ∷ args) f below w (method_of o w v entry))) (registers_same p gs all f.fn)
        ∙ same_go (read ds f.regs x) _ _ (λ v. ap (calls o r (x ∷ args) f below w) (method_same w v entry) ∙ calls_same r (x ∷ args) (method_of p w v entry))

  module _ (f : Frame) (below : List Waiting) where
    abbrev rs : Declared
    rs = registers_of p f.fn

    applied_same : Stands f → (e : Edge) (to : Option Reg) (x : Effect) → SameEdge p gs e f.fn f.block (f.place + 1) → applied m o e to f below x ≡ applied m p e to f below x
    applied_same good e None Wrong same = refl
    applied_same good e (Some r) Wrong same = refl
    applied_same good e None (Gives v w) same = refl
    applied_same good e (Some r) (Gives v w) same =
        ap (λ (ds : Declared). if_some (type_of_reg ds r) (λ t. succeeds m p e f below (put f.regs r.0 (Holds v)) w)) (registers_same p gs all f.fn)
    applied_same good e None (Acts w) same = refl
    applied_same good e (Some r) (Acts w) same = refl
    applied_same good e None (Fails x w) same = failed_same e (next f f.regs) below (record w { pending = Some x }) (alike.handlers f good) same
    applied_same good e (Some r) (Fails x w) same =
        ap (λ (ds : Declared). if_some (type_of_reg ds r) (λ t. failed m o e (next f (put f.regs r.0 (error_of t))) below (record w { pending = Some x }))) (registers_same p gs all f.fn)
        ∙ same_go (type_of_reg rs r) _ _ (λ t. failed_same e (next f (put f.regs r.0 (error_of t))) below (record w { pending = Some x }) (alike.handlers f good) same)
    applied_same good e None (Ends x w) same = refl
    applied_same good e (Some r) (Ends x w) same = refl
    applied_same good e None (IfTarget k x) same = refl
    applied_same good e (Some r) (IfTarget k x) same = refl
    applied_same good e None (IfWritten k x) same = refl
    applied_same good e (Some r) (IfWritten k x) same = refl

    op_same : (x : Op) (line : ℕ) → item_at p f.fn f.block f.place ≡ Some (Do x line) → (w : World) → Stands f → do_op m o x f below w ≡ do_op m p x f below w
    op_same (Move r s) line here w good =
        ap (λ (ds : Declared). if_some (type_of_reg ds s) (λ t. cond (is_refused m t (f.regs s.0)) Stuck (if_some (type_of_reg ds r) (λ u. goes f below (put f.regs r.0 (f.regs s.0)) w)))) (registers_same p gs all f.fn)
    op_same (Lit r l) line here w good =
        ap (λ (ds : Declared). if_some (type_of_reg ds r) (λ t. if_some (literal_of t l) (λ h. goes f below (put f.regs r.0 h) w))) (registers_same p gs all f.fn)
    op_same (Prim to c args) line here w good =
        let same : SameEdge p gs (edge_of_prim rs to c) f.fn f.block (f.place + 1) =
        alike.edges f (Prim to c args) line here good in
        ap (λ (ds : Declared). cond (may_stand w.pending c) (if_some (arguments ds f.regs args) (λ xs. applied m o (edge_of_prim ds to c) to f below (typed ds to args (effect o c xs w)))) Stuck) (registers_same p gs all f.fn)
        ∙ ap (λ x. cond (may_stand w.pending c) x Stuck) (same_go (arguments rs f.regs args) _ _ (λ xs. ap (applied m o (edge_of_prim rs to c) to f below) (ap (typed rs to args) (effects c xs w)) ∙ applied_same good (edge_of_prim rs to c) to (typed rs to args (effect p c xs w)) same))
    op_same (Call r n args) line here w good = calls_same f below w r args (Some n)
    op_same (Virtual r x n args) line here w good = method_call_same f below w r x args (method_at n)
    op_same (TraitCall r x t n args) line here w good =
        same_go (trait_name p t) _ _ (λ name. method_call_same f below w r x args (trait_method_at name n))
    op_same Turn line here w good = refl
    op_same (Inc r) line here w good = ap (λ (ds : Declared). if_some (read ds f.regs r) (λ v. goes f below f.regs w)) (registers_same p gs all f.fn)
    op_same (Dec r) line here w good = ap (λ (ds : Declared). if_some (read ds f.regs r) (λ v. goes f below f.regs w)) (registers_same p gs all f.fn)
    op_same (XDec r) line here w good = ap (λ (ds : Declared). if_some (look ds f.regs r) (λ h. goes f below f.regs w)) (registers_same p gs all f.fn)

    -- ---- ends of blocks
    last_same : (l : Last) (w : World) → AllGood p Stands below → do_last m o l f below w ≡ do_last m p l f below w
    last_same (Goto k) w good = refl
    last_same (If r a b) w good =
        ap (λ (ds : Declared). if_some (type_of_reg ds r) (λ t. chosen t (f.regs r.0) (to_block f a below w) (to_block f b below w))) (registers_same p gs all f.fn)
    last_same (IfError r a b line) w good =
        ap (λ (ds : Declared). if_some (type_of_reg ds r) (λ t. cond (is_error t (f.regs r.0)) (to_block f a below w) (to_block f b below w))) (registers_same p gs all f.fn)
    last_same (Return r) w good =
        let from : Declared → RType → Config = λ ds t. if_some (look ds f.regs r) (λ h. leave m o t h below w) in
        by_pair f.fn (λ g. from g.regs g.ret) (λ g. if_some (look g.regs f.regs r) (λ h. leave m p g.ret h below w))
        (λ x y h. ap (λ ds. from ds y.ret) h.regs ∙ same_go (look x.regs f.regs r) _ _ (λ v. leave_same y.ret x.ret v below w h.ret good))
    last_same Unreachable w good = refl

    act_same : (x : Option Item) → item_at p f.fn f.block f.place ≡ x → (w : World) → Stands f → AllGood p Stands below → act m o x f below w ≡ act m p x f below w
    act_same None here w good rest = refl
    act_same (Some (Do x line)) here w good rest = op_same x line here w good
    act_same (Some (End l)) here w good rest = last_same l w rest

  step_same : (c : Config) → Good p Stands c → step m o c ≡ step m p c
  step_same (Runs f below w) h =
      alike.acts m f below w h.0 ∙ act_same f below (item_at p f.fn f.block f.place) refl w h.0 h.1
  step_same (Leaves fn below w) h =
      by_pair fn (λ g. leave m o g.ret (error_of g.ret) below w) (λ g. leave m p g.ret (error_of g.ret) below w)
      (λ x y e. leave_from x.ret y.ret e.ret)
    where
      leave_from : (t u : RType) → u ≡ t → leave m o u (error_of u) below w ≡ leave m p t (error_of t) below w
      leave_from t u e =
          ap (λ r. leave m o r (error_of r) below w) e ∙ leave_same t t (error_of t) below w refl h
  step_same (Ended e w) h = refl
  step_same Stuck h = refl

  steps_same : (n : ℕ) (c : Config) → Good p Stands c → steps m o n c ≡ steps m p n c
  steps_same zero c h = refl
  steps_same (suc n) c h =
      ap (steps m o n) (step_same c h) ∙ steps_same n (step m p c) (step_good p Stands on m c h)

  start_same : (turns : ℕ) (items : Items) → start o turns items ≡ start p turns items
  start_same turns items =
      ap (λ n. begins (n - 1) (first_world p turns items) (slice_get gs (n - 1))) (each_count IsAlike p.funcs gs all) ∙ by (each_at IsAlike p.funcs gs all (length p.funcs - 1))
    where
      by : {a b : Option Func} → Pair IsAlike a b → begins (length p.funcs - 1) (first_world p turns items) b ≡ begins (length p.funcs - 1) (first_world p turns items) a
      by neither = refl
      by (both f g e) = ap (λ (ds : Declared). Runs (record { fn = length p.funcs - 1; block = 0; place = 0; regs = first_regs ds [] }) [] (first_world p turns items)) e.regs

  pub runs_same : (turns : ℕ) (items : Items) (n : ℕ) → steps m o n (start o turns items) ≡ steps m p n (start p turns items)
  runs_same turns items n =
      ap (steps m o n) (start_same turns items) ∙ steps_same n (start p turns items) (start_good p Stands on turns items)
