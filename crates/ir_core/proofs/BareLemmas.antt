-- Where each operation that fails has its edge, handlers make no difference.
use Rattle.std.proofs.Common.{◌≡◌, refl, sym, ◌∙◌, ap, subst, ℕ, zero, suc, ◌+◌, ◌-◌, not, cond, List, [], ◌∷◌, ◌++◌, length, map, Option, Some, None}
use Rattle.std.specs.Prelude.{slice_get, nat_lt, nat_eq}
use Rattle.std.specs.List.{position_or_len}
use Rattle.std.specs.Option.{option_map, option_map_or, option_and_then}
use Rattle.std.specs.Str.{bytes_eq}
use Rattle.std.proofs.lemmas.List.{length-map}
use Rattle.value_core.specs.Items.{Items}
use Rattle.value_core.specs.Value.{Value}
use Rattle.c_core.specs.declared.code.CClass.{CClass}
use Rattle.c_core.specs.Functions.{method_at, trait_method_at}
use Rattle.c_core.specs.WellFormed.{WellFormed}
use Rattle.ir_core.specs.declared.code.Reg.{Reg}
use Rattle.ir_core.specs.declared.code.RType.{RType}
use Rattle.ir_core.specs.declared.code.Op.{Op}
use Rattle.ir_core.specs.declared.code.Op.TheVariants.{Move, Lit, Prim, Call, Virtual, TraitCall, Turn, Inc, Dec, XDec}
use Rattle.ir_core.specs.declared.code.Last.{Last}
use Rattle.ir_core.specs.declared.code.Last.TheVariants.{If, IfError, Return}
use Rattle.ir_core.specs.declared.code.Block.{Block}
use Rattle.ir_core.specs.declared.code.Func.{Func}
use Rattle.ir_core.specs.declared.code.Program.{Program}
use Rattle.ir_core.specs.declared.kind.Edge.{Edge}
use Rattle.ir_core.specs.declared.kind.Edge.TheVariants.{NoEdge}
use Rattle.ir_core.specs.Items.{Item, Do, End, item_of, item_in, handler_of, blocks_of}
use Rattle.ir_core.specs.Rows.{Declared, type_of_reg, edge_of_call, edge_of_prim}
use Rattle.ir_core.specs.Registers.{Held, Holds, error_of, is_error, literal_of, put, look, first_regs}
use Rattle.ir_core.specs.Names.{function_id, is_called, function_called}
use Rattle.ir_core.specs.Effects.{World, Effect, Gives, Fails, effect}
use Rattle.ir_core.specs.Meaning.{Frame, Waiting, Config, Runs, Leaves, Stuck, Fitting, if_some, if_calm, next, to_block, goes, read, read_all, arguments, is_refused, is_fit, Way, Well, Badly, Wrongly, way, is_edge, may_stand, typed, chosen, declared_of, registers_of, item_at, method_of, trait_name, class_of, enters, calls, calls_method, failed, succeeds, applied, returned, leave, do_op, do_last, act, step, steps}
use Rattle.ir_core.specs.Runs.{first_world, begins, start, ComesTo, MeansSame, Fit}
use Rattle.ir_core.specs.Lower.{call_name, called_as, block_lines, lines_from, lowered_as, name_in, lowered_from, lower}
use Rattle.ir_core.specs.Shape.{BlocksFit, FuncFits, FuncsFit, BeginsInTurn, Shape}
use Rattle.ir_core.specs.Bare.{IsBare, bare_block, bare_blocks, bare, bare_program, BareIsSame}
use Rattle.ir_core.proofs.ModeLemmas.{unstuck_is_plain}
use Rattle.ir_core.proofs.TextLemmas.{lines_same}

-- ---- lists and options
get_map : {A B : Type 0} (f : A → B) (xs : List A) (k : ℕ) → slice_get (map f xs) k ≡ option_map f (slice_get xs k)
get_map f [] k = refl
get_map f (x ∷ xs) zero = refl
get_map f (x ∷ xs) (suc k) = get_map f xs k

same_go : {A : Type 0} (o : Option A) (go go' : A → Config) → ((a : A) → go a ≡ go' a) → if_some o go ≡ if_some o go'
same_go None go go' h = refl
same_go (Some a) go go' h = h a

by_map : {A B : Type 0} (f : A → B) (o : Option A) (go : B → Config) (go' : A → Config) → ((a : A) → go (f a) ≡ go' a) → if_some (option_map f o) go ≡ if_some o go'
by_map f None go go' h = refl
by_map f (Some a) go go' h = h a

-- ---- the items of blocks
pub items_bare : (blocks : List Block) (k i : ℕ) → item_in (bare_blocks blocks) k i ≡ item_in blocks k i
items_bare blocks k i = ap (λ o. item_of o i) (get_map bare_block blocks k) ∙ by (slice_get blocks k)
  where
    by : (o : Option Block) → item_of (option_map bare_block o) i ≡ item_of o i
    by None = refl
    by (Some b) = refl

pub bare_is_bare : (f : Func) → IsBare (bare f)
bare_is_bare f k h e = by (slice_get f.blocks k) (sym (ap (option_and_then handler_of) (get_map bare_block f.blocks k)) ∙ e)
  where
    by : (o : Option Block) → option_and_then handler_of (option_map bare_block o) ≡ Some h → ⊥
    by None is = absurd (cc)
    by (Some b) is = absurd (cc)

blocks_fit : (n k : ℕ) (bs : List Block) → BlocksFit n k bs → BlocksFit n k (bare_blocks bs)
blocks_fit n k [] h = tt
blocks_fit n k (b ∷ bs) h = (record { ops = h.0.ops; last = h.0.last; handler = tt }, blocks_fit n (suc k) bs h.1)

pub func_fits : (f : Func) → FuncFits f → FuncFits (bare f)
func_fits f h =
    subst (λ n. BlocksFit n 0 (bare_blocks f.blocks)) (sym (length-map f.blocks bare_block)) (blocks_fit (length f.blocks) 0 f.blocks h)

module _ (p : Program) where
  abbrev q : Program
  q = bare_program p

  func_at : (n : ℕ) → slice_get q.funcs n ≡ option_map bare (slice_get p.funcs n)
  func_at n = get_map bare p.funcs n

  count : length q.funcs ≡ length p.funcs
  count = length-map p.funcs bare

  registers : (fn : ℕ) → registers_of q fn ≡ registers_of p fn
  registers fn = ap declared_of (func_at fn) ∙ by (slice_get p.funcs fn)
    where
      by : (o : Option Func) → declared_of (option_map bare o) ≡ declared_of o
      by None = refl
      by (Some f) = refl

  item_same : (fn k i : ℕ) → item_at q fn k i ≡ item_at p fn k i
  item_same fn k i = ap (λ o. item_in (blocks_of o) k i) (func_at fn) ∙ by (slice_get p.funcs fn)
    where
      by : (o : Option Func) → item_in (blocks_of (option_map bare o)) k i ≡ item_in (blocks_of o) k i
      by None = refl
      by (Some f) = items_bare f.blocks k i

  items : (fn : ℕ) → item_at q fn ≡ item_at p fn
  items fn = λ i k j. item_same fn k j i

  called : (id : List ℕ) → function_called q id ≡ function_called p id
  called id =
      ap (λ n. cond (nat_lt n (length q.funcs)) (Some n) None) (place p.funcs)
      ∙ ap (λ n. cond (nat_lt (position_or_len (is_called id) p.funcs) n) (Some (position_or_len (is_called id) p.funcs)) None) count
    where
      place : (fs : List Func) → position_or_len (is_called id) (map bare fs) ≡ position_or_len (is_called id) fs
      place [] = refl
      place (f ∷ fs) = ap (λ n. cond (not (bytes_eq (function_id f.name) id)) (1 + n) 0) (place fs)

  -- ---- each step
  failed_same : (e : Edge) (f : Frame) (below : List Waiting) (w : World) → failed Fitting q e f below w ≡ failed Fitting p e f below w
  failed_same NoEdge f below w = refl
  failed_same e f below w = ap (λ at. cond (is_edge at e (at f.block f.place)) (Runs f below w) Stuck) (items f.fn)

  returned_same : (v : Way) (h : Held) (below : List Waiting) (w : World) → returned Fitting q v h below w ≡ returned Fitting p v h below w
  returned_same v h [] w = refl
  returned_same Well h (c ∷ cs) w =
      ap (λ (ds : Declared). if_some (type_of_reg ds c.into) (λ t. goes c.frame cs (put c.frame.regs c.into.0 h) w)) (registers c.frame.fn)
  returned_same Badly h (c ∷ cs) w =
      ap (λ (ds : Declared). if_some (type_of_reg ds c.into) (λ t. failed Fitting q (edge_of_call ds c.into) (next c.frame (put c.frame.regs c.into.0 (error_of t))) cs w)) (registers c.frame.fn)
      ∙ same_go (type_of_reg (registers_of p c.frame.fn) c.into) _ _ (λ t. failed_same (edge_of_call (registers_of p c.frame.fn) c.into) (next c.frame (put c.frame.regs c.into.0 (error_of t))) cs w)
  returned_same Wrongly h (c ∷ cs) w = refl

  applied_same : (e : Edge) (to : Option Reg) (f : Frame) (below : List Waiting) (x : Effect) → applied Fitting q e to f below x ≡ applied Fitting p e to f below x
  applied_same e (Some r) f below (Gives v w) =
      ap (λ (ds : Declared). if_some (type_of_reg ds r) (λ t. succeeds Fitting p e f below (put f.regs r.0 (Holds v)) w)) (registers f.fn)
  applied_same e None f below (Fails x w) = failed_same e (next f f.regs) below (record w { pending = Some x })
  applied_same e (Some r) f below (Fails x w) =
      ap (λ (ds : Declared). if_some (type_of_reg ds r) (λ t. failed Fitting q e (next f (put f.regs r.0 (error_of t))) below (record w { pending = Some x }))) (registers f.fn)
      ∙ same_go (type_of_reg (registers_of p f.fn) r) _ _ (λ t. failed_same e (next f (put f.regs r.0 (error_of t))) below (record w { pending = Some x }))
  applied_same e _ f below _ = refl

  enters_same : (r : Reg) (args : List Reg) (f : Frame) (below : List Waiting) (w : World) (g : ℕ) → enters q r args f below w g ≡ enters p r args f below w g
  enters_same r args f below w g =
      let into : Declared → Func → Config = λ ds h. if_some (read_all ds f.regs args) (λ xs. cond (is_fit ds r args h) (Runs (record { fn = g; block = 0; place = 0; regs = first_regs h.regs xs }) (record { frame = f; into = r } ∷ below) w) Stuck) in
      ap (λ o. if_some o (into (registers_of q f.fn))) (func_at g)
      ∙ (ap (λ ds. if_some (option_map bare (slice_get p.funcs g)) (into ds)) (registers f.fn) ∙ by_map bare (slice_get p.funcs g) (into (registers_of p f.fn)) (into (registers_of p f.fn)) (λ h. refl))

  calls_same : (r : Reg) (args : List Reg) (f : Frame) (below : List Waiting) (w : World) (g : Option ℕ) → calls q r args f below w g ≡ calls p r args f below w g
  calls_same r args f below w g =
      ap (if_calm w.pending) (same_go g (enters q r args f below w) (enters p r args f below w) (enters_same r args f below w))

  method_same : (w : World) (v : Value) (entry : CClass → Option (List ℕ)) → method_of q w v entry ≡ method_of p w v entry
  method_same w v entry = by (option_and_then (λ c. option_and_then entry (slice_get p.classes c)) (class_of w.store v))
    where
      by : (o : Option (List ℕ)) → option_and_then (function_called q) o ≡ option_and_then (function_called p) o
      by None = refl
      by (Some id) = called id

  method_call_same : (r o : Reg) (args : List Reg) (f : Frame) (below : List Waiting) (w : World) (entry : CClass → Option (List ℕ)) → calls_method q r o args f below w entry ≡ calls_method p r o args f below w entry
  method_call_same r o args f below w entry =
      ap (λ (ds : Declared). if_some (read ds f.regs o) (λ v. calls q r (o ∷ args) f below w (method_of q w v entry))) (registers f.fn)
      ∙ same_go (read (registers_of p f.fn) f.regs o) _ _ (λ v. ap (calls q r (o ∷ args) f below w) (method_same w v entry) ∙ calls_same r (o ∷ args) f below w (method_of p w v entry))

  op_same : (o : Op) (f : Frame) (below : List Waiting) (w : World) → do_op Fitting q o f below w ≡ do_op Fitting p o f below w
  op_same (Move r s) f below w =
      ap (λ (ds : Declared). if_some (type_of_reg ds s) (λ t. cond (is_refused Fitting t (f.regs s.0)) Stuck (if_some (type_of_reg ds r) (λ u. goes f below (put f.regs r.0 (f.regs s.0)) w)))) (registers f.fn)
  op_same (Lit r l) f below w =
      ap (λ (ds : Declared). if_some (type_of_reg ds r) (λ t. if_some (literal_of t l) (λ h. goes f below (put f.regs r.0 h) w))) (registers f.fn)
  op_same (Prim to c args) f below w =
      ap (λ (ds : Declared). cond (may_stand w.pending c) (if_some (arguments ds f.regs args) (λ xs. applied Fitting q (edge_of_prim ds to c) to f below (typed ds to args (effect p c xs w)))) Stuck) (registers f.fn)
      ∙ ap (λ x. cond (may_stand w.pending c) x Stuck) (same_go (arguments (registers_of p f.fn) f.regs args) _ _ (λ xs. applied_same (edge_of_prim (registers_of p f.fn) to c) to f below (typed (registers_of p f.fn) to args (effect p c xs w))))
  op_same (Call r g args) f below w = calls_same r args f below w (Some g)
  op_same (Virtual r o n args) f below w = method_call_same r o args f below w (method_at n)
  op_same (TraitCall r o t n args) f below w =
      same_go (trait_name p t) _ _ (λ name. method_call_same r o args f below w (trait_method_at name n))
  op_same Turn f below w = refl
  op_same (Inc r) f below w =
      ap (λ (ds : Declared). if_some (read ds f.regs r) (λ v. goes f below f.regs w)) (registers f.fn)
  op_same (Dec r) f below w =
      ap (λ (ds : Declared). if_some (read ds f.regs r) (λ v. goes f below f.regs w)) (registers f.fn)
  op_same (XDec r) f below w =
      ap (λ (ds : Declared). if_some (look ds f.regs r) (λ h. goes f below f.regs w)) (registers f.fn)

  leave_same : (t : RType) (h : Held) (below : List Waiting) (w : World) → leave Fitting q t h below w ≡ leave Fitting p t h below w
  leave_same t h below w = returned_same (way t h w.pending) h below w

  last_same : (l : Last) (f : Frame) (below : List Waiting) (w : World) → do_last Fitting q l f below w ≡ do_last Fitting p l f below w
  last_same (If r a b) f below w =
      ap (λ (ds : Declared). if_some (type_of_reg ds r) (λ t. chosen t (f.regs r.0) (to_block f a below w) (to_block f b below w))) (registers f.fn)
  last_same (IfError r a b line) f below w =
      ap (λ (ds : Declared). if_some (type_of_reg ds r) (λ t. cond (is_error t (f.regs r.0)) (to_block f a below w) (to_block f b below w))) (registers f.fn)
  last_same (Return r) f below w =
      ap (λ o. if_some o (λ (g : Func). if_some (look g.regs f.regs r) (λ h. leave Fitting q g.ret h below w))) (func_at f.fn)
      ∙ by_map bare (slice_get p.funcs f.fn) (λ g. if_some (look g.regs f.regs r) (λ h. leave Fitting q g.ret h below w)) (λ g. if_some (look g.regs f.regs r) (λ h. leave Fitting p g.ret h below w)) (λ g. same_go (look g.regs f.regs r) _ _ (λ h. leave_same g.ret h below w))
  last_same _ f below w = refl

  act_same : (o : Option Item) (f : Frame) (below : List Waiting) (w : World) → act Fitting q o f below w ≡ act Fitting p o f below w
  act_same None f below w = refl
  act_same (Some (Do o line)) f below w = op_same o f below w
  act_same (Some (End l)) f below w = last_same l f below w

  step_same : (c : Config) → step Fitting q c ≡ step Fitting p c
  step_same (Runs f below w) =
      ap (λ o. act Fitting q o f below w) (item_same f.fn f.block f.place) ∙ act_same (item_at p f.fn f.block f.place) f below w
  step_same (Leaves fn below w) =
      ap (λ o. if_some o (λ (g : Func). leave Fitting q g.ret (error_of g.ret) below w)) (func_at fn)
      ∙ by_map bare (slice_get p.funcs fn) (λ g. leave Fitting q g.ret (error_of g.ret) below w) (λ g. leave Fitting p g.ret (error_of g.ret) below w) (λ g. leave_same g.ret (error_of g.ret) below w)
  step_same _ = refl

  steps_same : (n : ℕ) (c : Config) → steps Fitting q n c ≡ steps Fitting p n c
  steps_same zero c = refl
  steps_same (suc n) c = steps_same n (step Fitting q c) ∙ ap (steps Fitting p n) (step_same c)

  start_same : (turns : ℕ) (input : Items) → start q turns input ≡ start p turns input
  start_same turns input =
      ap (λ n. begins (n - 1) (first_world p turns input) (slice_get q.funcs (n - 1))) count
      ∙ (ap (begins (length p.funcs - 1) (first_world p turns input)) (func_at (length p.funcs - 1)) ∙ by (slice_get p.funcs (length p.funcs - 1)))
    where
      by : (o : Option Func) → begins (length p.funcs - 1) (first_world p turns input) (option_map bare o) ≡ begins (length p.funcs - 1) (first_world p turns input) o
      by None = refl
      by (Some f) = refl

  run_same : (turns : ℕ) (input : Items) (n : ℕ) → steps Fitting q n (start q turns input) ≡ steps Fitting p n (start p turns input)
  run_same turns input n = ap (steps Fitting q n) (start_same turns input) ∙ steps_same n (start p turns input)

  module _ (fit : Fit p) where
    still_fit : Fit q
    still_fit turns input n stuck = fit turns input n (sym (run_same turns input n) ∙ stuck)

    means_same : MeansSame q p
    means_same turns input e w = (on, back)
      where
        on : ComesTo q turns input e w → ComesTo p turns input e w
        on h =
            (h.0, sym (unstuck_is_plain Fitting p h.0 (start p turns input) (fit turns input h.0)) ∙ (sym (run_same turns input h.0) ∙ (unstuck_is_plain Fitting q h.0 (start q turns input) (still_fit turns input h.0) ∙ h.1)))

        back : ComesTo p turns input e w → ComesTo q turns input e w
        back h =
            (h.0, sym (unstuck_is_plain Fitting q h.0 (start q turns input) (still_fit turns input h.0)) ∙ (run_same turns input h.0 ∙ (unstuck_is_plain Fitting p h.0 (start p turns input) (fit turns input h.0) ∙ h.1)))

  -- ---- its text and its shape
  call_same : (n : ℕ) → called_as q n ≡ called_as p n
  call_same n =
      ap (λ m. cond (nat_eq (suc n) m) [] (option_map_or call_name (slice_get q.funcs n) [])) count
      ∙ ap (λ name. cond (nat_eq (suc n) (length p.funcs)) [] name) (ap (λ o. option_map_or call_name o []) (func_at n) ∙ by (slice_get p.funcs n))
    where
      by : (o : Option Func) → option_map_or call_name (option_map bare o) [] ≡ option_map_or call_name o []
      by None = refl
      by (Some f) = refl

  bare_lines : (k : ℕ) (bs : List Block) → lines_from q k (bare_blocks bs) ≡ lines_from p k bs
  bare_lines k bs = on k bs ∙ lines_same p q refl call_same k bs
    where
      on : (k : ℕ) (bs : List Block) → lines_from q k (bare_blocks bs) ≡ lines_from q k bs
      on k [] = refl
      on k (b ∷ bs) = ap (λ ls. block_lines q k b ++ ls) (on (suc k) bs)

  functions_same : (n : ℕ) (fs : List Func) → lowered_from q n (map bare fs) ≡ lowered_from p n fs
  functions_same n [] = refl
  functions_same n (f ∷ fs) =
      let name : name_in q n f ≡ name_in p n f = ap (λ m. cond (nat_eq (suc n) m) [] (function_id f.name)) count in
      let text : lowered_as q (name_in q n f) (bare f) ≡ lowered_as p (name_in p n f) f =
      ap (λ ls. record (lowered_as p (name_in q n f) f) { lines = ls }) (bare_lines 0 f.blocks) ∙ ap (λ m. lowered_as p m f) name in
      ap (λ x. x ∷ lowered_from q (suc n) (map bare fs)) text ∙ ap (λ l. lowered_as p (name_in p n f) f ∷ l) (functions_same (suc n) fs)

  text_same : lower q ≡ lower p
  text_same = ap (λ fs. record (lower p) { funcs = fs }) (functions_same 0 p.funcs)

  funcs_fit : (fs : List Func) → FuncsFit fs → FuncsFit (map bare fs)
  funcs_fit [] h = tt
  funcs_fit (f ∷ fs) h =
      (func_fits f h.0, funcs_fit fs h.1)

  turns_begin : (fs : List Func) → BeginsInTurn fs → BeginsInTurn (map bare fs)
  turns_begin [] h = tt
  turns_begin (f ∷ []) h = tt
  turns_begin (f ∷ g ∷ fs) h = ((h.0.0, items_bare f.blocks 0 0 ∙ h.0.1), turns_begin (g ∷ fs) h.1)

  still_shaped : Shape p → Shape q
  still_shaped h = record {
    funcs = funcs_fit p.funcs h.funcs;
    turns = turns_begin p.funcs h.turns;
    lowered = subst WellFormed (sym text_same) h.lowered;
  }

pub bare_is_same : BareIsSame
bare_is_same = record { bare = bare_is_bare; text = text_same; shape = still_shaped; fits = still_fit; means = means_same }
