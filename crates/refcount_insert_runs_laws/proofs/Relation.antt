-- How a run of a program and a run of the C text of the program with its counts stand to each other: at each step of the first, the
-- second stands at the counts before the line of what the first does next, and its words are what the registers hold.
use Rattle.std.proofs.Common.{◌≡◌, refl, sym, ◌∙◌, ap, subst, ℕ, suc, ◌+◌, false, List, [], ◌∷◌, ◌++◌, length, Option, Some, drop}
use Rattle.std.specs.Prelude.{slice_get}
use Rattle.std.specs.Option.{option_and_then}
use Rattle.value_core.specs.Ending.{Ending}
use Rattle.c_core.specs.declared.code.Line.{Line}
use Rattle.c_core.specs.declared.code.CFunc.{CFunc}
use Rattle.c_core.specs.declared.code.Code.{Code}
use Rattle.c_core.specs.Functions.{label_places}
use Rattle.c_core.specs.Machine.{MachineState}
use Rattle.c_core.specs.Machine as machines
use Rattle.c_core.specs.Step.{Next, Goes, Ends, line_at, label_at, function_of, unchecked_step}
use Rattle.c_core.specs.Step as steps
use Rattle.ir_core.specs.declared.code.Op.{Op}
use Rattle.ir_core.specs.declared.code.Block.{Block}
use Rattle.ir_core.specs.declared.code.Func.{Func}
use Rattle.ir_core.specs.declared.code.Program.{Program}
use Rattle.ir_core.specs.Items.{Item, Do, End, item_in, item_of, blocks_of, left_from}
use Rattle.ir_core.specs.Registers.{is_unset}
use Rattle.ir_core.specs.Rows.{type_of_reg}
use Rattle.ir_core.specs.Effects.{World}
use Rattle.ir_core.specs.Meaning.{Frame, Waiting, Config, Runs, Ended, Stuck, next, item_at, registers_of, declared_of}
use Rattle.ir_core.specs.Lower.{op_lines, end_lines, label_of, lines_from, lowered_as, name_in, lower}
use Rattle.ir_core.proofs.PlaceLemmas.{left_goes_on, left_ends}
use Rattle.liveness.specs.Paths.{is_target, MetAt, BorrowedAt}
use Rattle.refcount_insert_lines_laws.specs.Matching.{StoreFits, RegsFit, PlacesFit, PendingFits, WorldFits}
use Rattle.refcount_insert_lines_laws.specs.Lines.{EndsBy}
use Rattle.refcount_insert_runs_laws.proofs.Lists.{get_first}
use Rattle.refcount_insert_runs_laws.proofs.Laid.{function_at}
use Rattle.refcount_insert_runs_laws.proofs.Heads.{FuncAt}
use Rattle.refcount_insert_runs_laws.proofs.Counts.{AreCounts}
use Rattle.refcount_insert_runs_laws.proofs.Forms.{left, Form}
use Rattle.refcount_insert_runs_laws.proofs.Placed.{BlockAt}

-- a state in which the run of the C text may end where the program does
pub record EndsAt (p : Program) (e : Ending) (w : World) (s : MachineState) : Type 0 where
  pub by_pending : EndsBy e w.pending
  pub output : s.output ≡ w.output
  pub store : StoreFits s p.classes w.store
  pub globals : PlacesFit s p.globals w.globals s.globals
  pub pending : PendingFits s w.pending s.pending

pub ends_at : (p : Program) (e : Ending) (w : World) (s : MachineState) → WorldFits p w s → EndsBy e w.pending → EndsAt p e w s
ends_at p e w s a way =
    record { by_pending = way; output = a.output; store = a.store; globals = a.globals; pending = a.pending }

module _ (p q : Program) where
  abbrev pub code : Code
  code = lower q

  abbrev pub machine : MachineState → Next
  machine s = unchecked_step code s

  abbrev pub lines_of : Func → List Line
  lines_of g = lines_from q 0 g.blocks

  -- a frame stands where what is left of its block is laid out, behind some counts of what it did last
  pub record FrameAt (f : Frame) (fr : machines.Frame) (ahead ops : List (Op × ℕ)) : Type 0 where
    pub at : FuncAt p q f.fn
    pub same : fr.func ≡ f.fn
    pub block : Block
    pub here : slice_get at.func.blocks f.block ≡ Some block
    pub placed : BlockAt at.func at.new at.counted f.block block
    pub left : left_from block.ops block.last f.place ≡ Some (left ops block.last)
    pub new : List (Op × ℕ)
    pub form : Form at.func f.block f.place ops new
    pub rest : List Line
    pub lines : drop fr.place (lines_of at.new) ≡ op_lines q (ahead ++ new) ++ (end_lines label_of (at.counted.number f.block) placed.stands.main.last ++ rest)

  -- a frame that waits stands behind its call. What is counted there, or is only lent, holds a value, and the result goes elsewhere
  pub record WaitsAt (s : MachineState) (callee : ℕ) (into : Option ℕ) (k : Waiting) (fr : machines.Frame) : Type 0 where
    pub ahead : List (Op × ℕ)
    pub ops : List (Op × ℕ)
    pub frame : FrameAt (next k.frame k.frame.regs) fr ahead ops
    pub regs : RegsFit s frame.at.func.regs k.frame.regs fr.vars
    pub held : AreCounts frame.at.func.regs (λ r. (is_unset (k.frame.regs r) ≡ false) × (is_target (Some k.into.0) r ≡ false)) ahead
    pub met : MetAt frame.at.func k.frame.block (k.frame.place + 1)
    pub lent : (r : ℕ) → BorrowedAt frame.at.func r k.frame.block (k.frame.place + 1) → (is_unset (k.frame.regs r) ≡ false) × (is_target (Some k.into.0) r ≡ false)
    pub is_into : into ≡ Some k.into.0
    pub target : (h : Func) → slice_get p.funcs callee ≡ Some h → type_of_reg frame.at.func.regs k.into ≡ Some h.ret

  abbrev pub StackAt : MachineState → ℕ → Option ℕ → List Waiting → List machines.Frame → Type 0
  StackAt s callee into [] [] = suc callee ≡ length p.funcs
  StackAt s callee into [] (fr ∷ frs) = ⊥
  StackAt s callee into (k ∷ ks) [] = ⊥
  StackAt s callee into (k ∷ ks) (fr ∷ frs) = WaitsAt s callee into k fr × StackAt s k.frame.fn fr.into ks frs

  pub record At (f : Frame) (below : List Waiting) (w : World) (s : MachineState) : Type 0 where
    pub ops : List (Op × ℕ)
    pub frame : FrameAt f s.top [] ops
    pub regs : RegsFit s frame.at.func.regs f.regs s.top.vars
    pub met : MetAt frame.at.func f.block f.place
    pub lent : (r : ℕ) → BorrowedAt frame.at.func r f.block f.place → is_unset (f.regs r) ≡ false
    pub stack : StackAt s f.fn s.top.into below s.below
    pub world : WorldFits p w s

  -- some steps of the machine, perhaps none
  pub data Leads : Next → Next → Type 0 where
    stays : (n : Next) → Leads n n
    steps_on : (s : MachineState) (n : Next) → Leads (machine s) n → Leads (Goes s) n

  pub leads_on : (n k l : Next) → Leads n k → Leads k l → Leads n l
  leads_on n k l (stays x) g = g
  leads_on n k l (steps_on s x h) g = steps_on s l (leads_on (machine s) k l h g)

  pub one_step : (s : MachineState) (n : Next) → machine s ≡ n → Leads (Goes s) n
  one_step s n e = steps_on s n (subst (λ x. Leads x n) (sym e) (stays n))

  -- what is behind a state that some steps lead to is behind each step
  pub leads_step : (x : Next) (s t : MachineState) (n : Next) → x ≡ Goes t → Leads (Goes s) x → Leads (machine t) n → Leads (machine s) n
  leads_step x s t n e (stays y) g =
      let same : Goes s ≡ Goes t = e in let z : s ≡ t = cc in subst (λ y. Leads (machine y) n) (sym z) g
  leads_step x s t n e (steps_on u y h) g =
      leads_on (machine s) x n h (subst (λ z. Leads z n) (sym e) (steps_on t n g))

  -- what follows a step comes to where the program is, or ends as it does
  pub data Arrives (n : Next) (c : Config) : Type 0 where
    gets_stuck : c ≡ Stuck → Arrives n c
    comes : (f : Frame) (below : List Waiting) (w : World) (s : MachineState) → Leads n (Goes s) → c ≡ Runs f below w → At f below w s → Arrives n c
    ends : (e : Ending) (w : World) (s : MachineState) → Leads n (Ends (steps.Ended e) s) → c ≡ Ended e w → EndsAt p e w s → Arrives n c

  pub arrives_on : (n m : Next) (c : Config) → Leads n m → Arrives m c → Arrives n c
  arrives_on n m c l (gets_stuck e) = gets_stuck e
  arrives_on n m c l (comes f below w s h is at) = comes f below w s (leads_on n m (Goes s) l h) is at
  arrives_on n m c l (ends e w s h is at) = ends e w s (leads_on n m (Ends (steps.Ended e) s) l h) is at

  pub arrives_step : (s t : MachineState) (c : Config) → Leads (Goes s) (Goes t) → Arrives (machine t) c → Arrives (machine s) c
  arrives_step s t c l (gets_stuck e) = gets_stuck e
  arrives_step s t c l (comes f below w u h is at) =
      comes f below w u (leads_step (Goes t) s t (Goes u) refl l h) is at
  arrives_step s t c l (ends e w u h is at) =
      ends e w u (leads_step (Goes t) s t (Ends (steps.Ended e) u) refl l h) is at

  -- the function of a frame, in C text
  module _ (n : ℕ) (at : FuncAt p q n) (fr : machines.Frame) (same : fr.func ≡ n) where
    pub function_in : function_of code fr ≡ Some (lowered_as q (name_in q n at.new) at.new)
    function_in = ap (slice_get code.funcs) same ∙ function_at q n at.new at.new_there

    pub line_in : (l : Line) (ls : List Line) → drop fr.place (lines_of at.new) ≡ l ∷ ls → line_at code fr ≡ Some l
    line_in l ls e =
        ap (option_and_then (λ (g : CFunc). slice_get g.lines fr.place)) function_in ∙ get_first fr.place (lines_of at.new) l ls e

    pub label_in : (k : ℕ) → label_at code fr k ≡ slice_get (label_places (lines_of at.new)) k
    label_in k = ap (option_and_then (λ (g : CFunc). slice_get (label_places g.lines) k)) function_in

  module _ (f : Frame) (fr : machines.Frame) (ahead ops : List (Op × ℕ)) (a : FrameAt f fr ahead ops) where
    pub registers_here : registers_of p f.fn ≡ a.at.func.regs
    registers_here = ap declared_of a.at.there

    pub item_here : (i : ℕ) (x : Item) → item_of (Some a.block) i ≡ Some x → item_in a.at.func.blocks f.block i ≡ Some x
    item_here i x e = ap (λ z. item_of z i) a.here ∙ e

    pub item_there : (i : ℕ) (x : Item) → item_of (Some a.block) i ≡ Some x → item_at p f.fn f.block i ≡ Some x
    item_there i x e = ap (λ z. item_in (blocks_of z) f.block i) a.at.there ∙ item_here i x e

  -- the next item
  module _ (f : Frame) (fr : machines.Frame) (o : Op × ℕ) (os : List (Op × ℕ)) (a : FrameAt f fr [] (o ∷ os)) where
    pub op_is : item_of (Some a.block) f.place ≡ Some (Do o.0 o.1)
    op_is = (left_goes_on (Some a.block) f.place o os a.block.last a.left).0

    pub op_here : item_in a.at.func.blocks f.block f.place ≡ Some (Do o.0 o.1)
    op_here = item_here f fr [] (o ∷ os) a f.place (Do o.0 o.1) op_is

    pub op_there : item_at p f.fn f.block f.place ≡ Some (Do o.0 o.1)
    op_there = item_there f fr [] (o ∷ os) a f.place (Do o.0 o.1) op_is

  module _ (f : Frame) (fr : machines.Frame) (a : FrameAt f fr [] []) where
    pub end_is : item_of (Some a.block) f.place ≡ Some (End a.block.last)
    end_is = left_ends (Some a.block) f.place a.block.last a.left

    pub end_here : item_in a.at.func.blocks f.block f.place ≡ Some (End a.block.last)
    end_here = item_here f fr [] [] a f.place (End a.block.last) end_is

    pub end_there : item_at p f.fn f.block f.place ≡ Some (End a.block.last)
    end_there = item_there f fr [] [] a f.place (End a.block.last) end_is
