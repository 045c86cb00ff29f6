-- A whole program does what its module does, is calm, and is built as a program is.
use Rattle.ir_builder.proofs.Common.{◌≡◌, ◌≢◌, ℕ, zero, suc, ◌+◌, ◌-◌, ◌<◌, List, [], ◌∷◌, ◌++◌, length, map, take, get_or, Option, Some, None, ⊎_elim, refl, sym, ap, ◌∙◌, subst, arith, le_refl, add-one, length-append, slice_get, replicate, list_all, Ending, Done, Raised, is_identifier, names_differ, Sort, Outcome, Gives, Raises, Stops, start, top_of, stopped, raised_as, stop_of, TypedFunc, TypedModule, typed_func, typed_module, TFunc, Flow, Goes, Breaks, Continues, Returns, Func, Program, RType, item_in, blocks_of, Config, Leaves, Ended, Stuck, Strict, if_some, leave, step, steps, error_of, first_regs, Declared, world, running, Escapes, Leads, Ends, FunctionType, head_of, parameter_sorts, BeginWith, HasHead, names_of, NoEdges, AllFit, rtype_of, leads_as, leads_step, leads_trans, get_map, FunctionSuits, ModuleSuits, head_of_code, IsFunction, IsOwn, IsProgram, heads_of, IsFunctionOf, AllBuilt, IsBuiltOf, register_of, variable_registers}
use Rattle.std.proofs.lemmas.List.{length-map, map_push}
use Rattle.std.proofs.lemmas.Option.{slice_get-get_or}
use Rattle.std.proofs.lemmas.Slice.Zip.{AllZip-long, all_zipped_more}
use Rattle.std.proofs.Math.Seq.{take-suc}
use Rattle.value_core.specs.Items.{Items}
use Rattle.py_typed.specs.declared.checked.Checked.{Checked}
use Rattle.ir_core.specs.declared.code.RType.TheVariants.{Bool}
use Rattle.ir_core.specs.Effects.{World}
use Rattle.ir_core.specs.Runs as run
use Rattle.ir_core.specs.Runs.{first_world, begins, Calm}
use Rattle.ir_core.proofs.ModeLemmas.{unstuck_is_plain}
use Rattle.ir_core.proofs.RunLemmas.{ended_is_calm}
use Rattle.ir_builder_frames.proofs.KindLemmas.{get_behind}
use Rattle.std.specs.Prelude.{IsSome}
use Rattle.source_meaning.specs.SourceRun.{ModuleStop, ending_by, source_run}
use Rattle.source_soundness.specs.Watched.{watched_run}
use Rattle.source_soundness.proofs.Whole.{none_is_stuck, types_sound}
use Rattle.ir_builder_frames.specs.Watching.{watch}
use Rattle.ir_builder.specs.Lines.{HasLines}
use Rattle.ir_builder.specs.Meaning.{module_stop, DoesAsModule}
use Rattle.ir_builder.proofs.CallLemmas.{IsThere, calls_work}
use Rattle.ir_builder.proofs.EdgeLemmas.{no_edges}
use Rattle.ir_builder.proofs.FunctionLemmas.{names_are}

-- ---- functions in order

module _ (m : TypedModule) where
  built_at : (fs : List TypedFunc) (hs : List Func) (own : Func) (i : ℕ) (f : TypedFunc) → AllBuilt m fs hs → slice_get fs i ≡ Some f → (h : Func) × (slice_get (hs ++ own ∷ []) i ≡ Some h) × IsFunctionOf m f h
  built_at [] hs own i f all e = let g : None ≡ Some f = e in absurd (cc)
  built_at (x ∷ fs) [] own i f all e = absurd all
  built_at (x ∷ fs) (h ∷ hs) own zero f all e = (h, refl, let g : Some x ≡ Some f = e in let same : x ≡ f = cc in subst (λ z. IsFunctionOf m z h) same all.0)
  built_at (x ∷ fs) (h ∷ hs) own (suc i) f all e = built_at fs hs own i f all.1 e

  code_at : (fs : List TypedFunc) (hs : List Func) (i : ℕ) (h : Func) → AllBuilt m fs hs → slice_get hs i ≡ Some h → (f : TypedFunc) × IsFunctionOf m f h
  code_at fs [] i h all e = let g : None ≡ Some h = e in absurd (cc)
  code_at [] (x ∷ hs) i h all e = absurd all
  code_at (f ∷ fs) (x ∷ hs) zero h all e = (f, let g : Some x ≡ Some h = e in let same : x ≡ h = cc in subst (λ z. IsFunctionOf m f z) same all.0)
  code_at (f ∷ fs) (x ∷ hs) (suc i) h all e = code_at fs hs i h all.1 e

  -- what each function's code has in common with the function
  same_map : {B : Type 0} (u : Func → B) (v : TypedFunc → B) → ((f : TypedFunc) (h : Func) → IsFunctionOf m f h → u h ≡ v f) → (fs : List TypedFunc) (hs : List Func) → AllBuilt m fs hs → map u hs ≡ map v fs
  same_map u v one [] [] all = refl
  same_map u v one [] (h ∷ hs) all = absurd all
  same_map u v one (f ∷ fs) [] all = absurd all
  same_map u v one (f ∷ fs) (h ∷ hs) all = ap (λ x. x ∷ map u hs) (one f h all.0) ∙ ap (λ l. v f ∷ l) (same_map u v one fs hs all.1)

  begin_params : (ds : Declared) (ts : List Sort) → BeginWith ds ts → map (λ (d : List ℕ × RType). d.1) (take (length ts) ds) ≡ map rtype_of ts
  begin_params ds [] b = refl
  begin_params [] (t ∷ ts) b = absurd b
  begin_params (d ∷ ds) (t ∷ ts) b = ap (λ u. u ∷ map (λ (x : List ℕ × RType). x.1) (take (length ts) ds)) b.0 ∙ ap (λ l. rtype_of t ∷ l) (begin_params ds ts b.1)

  head_same : (f : TypedFunc) (h : Func) → HasHead h f → head_of_code h ≡ head_of f
  head_same f h e =
      let params : map (λ (d : List ℕ × RType). d.1) (take h.params h.regs) ≡ map rtype_of (parameter_sorts f) = ap (λ n. map (λ (d : List ℕ × RType). d.1) (take n h.regs)) e.params ∙ begin_params h.regs (parameter_sorts f) e.regs in
      let P : List RType → FunctionType = λ ps. record { params = ps; ret = h.ret } in
      let Q : RType → FunctionType = λ t. record { params = map rtype_of (parameter_sorts f); ret = t } in
      ap P params ∙ ap Q e.ret

last_at : (hs : List Func) (own : Func) → slice_get (hs ++ own ∷ []) (length hs) ≡ Some own
last_at [] own = refl
last_at (h ∷ hs) own = last_at hs own

-- ---- the loop over functions

get_at : {A : Type 0} (xs : List A) (i : ℕ) (x : A) → i < length xs → x ≡ get_or xs i x → slice_get xs i ≡ Some x
get_at xs i x lt e = slice_get-get_or xs i x lt ∙ ap Some (sym e)

pub suits_at : (c : Checked) (xs : List TFunc) (i : ℕ) (f : TFunc) → ModuleSuits (typed_module c) → xs ≡ c.funcs → i < length xs → f ≡ get_or xs i f → FunctionSuits (typed_module c) (typed_func f)
suits_at c xs i f suits same lt is =
    suits.functions i (typed_func f) (ap (λ l. slice_get (map typed_func l) i) (sym same) ∙ get_map typed_func xs i f (get_at xs i f lt is))

pub built_next : (m : TypedModule) (xs : List TFunc) (i : ℕ) (f : TFunc) (hs hs' : List Func) (h : Func) → i < length xs → f ≡ get_or xs i f → AllBuilt m (map typed_func (take i xs)) hs → IsFunctionOf m (typed_func f) h → hs' ≡ hs ++ h ∷ [] → AllBuilt m (map typed_func (take (i + 1) xs)) hs'
built_next m xs i f hs hs' h lt is all one e =
    let row : take (i + 1) xs ≡ take i xs ++ f ∷ [] = rw (add-one, take-suc xs i f lt, ← is) refl in
    let fs : map typed_func (take (i + 1) xs) ≡ map typed_func (take i xs) ++ typed_func f ∷ [] = ap (map typed_func) row ∙ map_push typed_func (take i xs) f in
    subst (λ l. AllBuilt m l hs') (sym fs) (subst (λ l. AllBuilt m (map typed_func (take i xs) ++ typed_func f ∷ []) l) (sym e) (all_zipped_more (IsFunctionOf m) (map typed_func (take i xs)) hs (typed_func f) h all one))

-- ---- runs

module _ (m : TypedModule) (p : Program) (b : IsBuiltOf m p) (suits : ModuleSuits m) where
  there : (g : ℕ) (f : TypedFunc) → slice_get m.funcs g ≡ Some f → IsThere p m g f
  there g f e =
      let k = built_at m m.funcs b.functions b.own g f b.each e in
      let at : slice_get p.funcs g ≡ Some k.0 = ap (λ fs. slice_get fs g) b.are ∙ k.1 in
      record { code = k.0; at = at; head = k.2.head; turn = (k.2.built.turn.0, ap (λ o. item_in (blocks_of o) 0 0) at ∙ k.2.built.turn.1); works = k.2.works p g at }

  own_at : slice_get p.funcs (length b.functions) ≡ Some b.own
  own_at = ap (λ fs. slice_get fs (length b.functions)) b.are ∙ last_at b.functions b.own

  pub has_lines : HasLines m p
  has_lines = record {
    functions = λ n f e. let k = built_at m m.funcs b.functions b.own n f b.each e in record { code = k.0; there = ap (λ fs. slice_get fs n) b.are ∙ k.1; lined = k.2.lined };
    own = record { code = b.own; there = ap (slice_get p.funcs) (sym (AllZip-long (IsFunctionOf m) m.funcs b.functions b.each)) ∙ own_at; lined = b.own_built.lined };
  }

  -- the ends of each function go up to one of its blocks, so behind no operation that may fail stands a test of its result
  ends_at : (fn : ℕ) (o : Option Func) → slice_get p.funcs fn ≡ o → (n : ℕ) × AllFit n 0 (blocks_of o)
  ends_at fn None none = (0, tt)
  ends_at fn (Some h) there =
      ⊎_elim
      (λ function. let one = (code_at m m.funcs b.functions fn h b.each function).1.built.built in (one.highest, one.fits))
      (λ last. subst (λ (z : Func). (n : ℕ) × AllFit n 0 z.blocks) (sym last) (b.own_built.built.built.highest, b.own_built.built.built.fits))
      (get_behind b.functions b.own h fn (ap (λ fs. slice_get fs fn) (sym b.are) ∙ there))

  pub no_tests : (fn : ℕ) → NoEdges p fn
  no_tests fn = let ends = ends_at fn (slice_get p.funcs fn) refl in no_edges p fn ends.0 ends.1

  -- an exception that leaves the module's own code
  leaves : (w : World) → step Strict p (Leaves (length b.functions) [] w) ≡ leave Strict p Bool (error_of Bool) [] w
  leaves w =
      ap (λ o. if_some o (λ g. leave Strict p g.ret (error_of g.ret) [] w)) own_at
      ∙ ap (λ t. leave Strict p t (error_of t) [] w) b.own_built.built.ret

  -- where the module's own code comes to, and where the module stops
  finished : (t : ℕ) (c : Config) (res : Outcome Flow) → IsSome (stop_of res).ending → Ends p t c res (λ g u d. (g ≡ Goes) × (d ≡ Ended Done (world None u))) (Escapes (length b.functions) []) → (e : Ending) × (w : World) × Leads p c (Ended e w) × (stop_of res ≡ module_stop e w)
  finished t c (Gives Goes u) some h = (Done, world None u, leads_as p c h.1 _ h.3.1 h.2, refl)
  finished t c (Gives Breaks u) some h = let no : Breaks ≡ Goes = h.3.0 in absurd (cc)
  finished t c (Gives Continues u) some h = let no : Continues ≡ Goes = h.3.0 in absurd (cc)
  finished t c (Gives (Returns v) u) some h = let no : Returns v ≡ Goes = h.3.0 in absurd (cc)
  finished t c (Raises v u) some h =
      let x = h.3.0 in
      let w : World = world (Some x) u in
      (Raised x, w, leads_trans p c _ _ (leads_as p c h.1 _ h.3.2 h.2) (leads_step p _ (Ended (Raised x) w) (leaves w)), ap (λ z. stopped u (raised_as z)) h.3.1)
  finished t c (Stops w u) some h = by (ending_by w) some h
    where
      by : (o : Option Ending) → IsSome o → ((e : Ending) → o ≡ Some e → Leads p c (Ended e (world None u))) → (e : Ending) × (v : World) × Leads p c (Ended e v) × (stopped u o ≡ module_stop e v)
      by None none k = absurd (cc)
      by (Some e) is k = (e, world None u, k e refl, refl)

  starts : (turns : ℕ) (items : Items) → run.start p turns items ≡ running (length b.functions) 0 0 (first_regs b.own.regs []) [] (world None (start m turns items))
  starts turns items =
      let last : length p.funcs - 1 ≡ length b.functions = omega (arith, ap length b.are, length-append b.functions (b.own ∷ [])) in
      let globals : length p.globals ≡ length m.globals = ap length b.globals ∙ length-map m.globals register_of in
      let W : ℕ → World = λ k. record { store = []; globals = replicate k None; pending = None; output = []; items = items; turns = turns } in
      ap (λ n. begins n (first_world p turns items) (slice_get p.funcs n)) last
      ∙ ap (begins (length b.functions) (first_world p turns items)) own_at
      ∙ ap (λ k. running (length b.functions) 0 0 (first_regs b.own.regs []) [] (W k)) globals

  -- the end of a strict run
  comes : (turns : ℕ) (items : Items) → (e : Ending) × (w : World) × (n : ℕ) × (steps Strict p n (run.start p turns items) ≡ Ended e w) × (source_run turns items m ≡ module_stop e w)
  unfolding watched_run
  comes turns items =
      let calls = calls_work p m record { are = b.globals; differ = suits.globals_differ } there turns in
      let done = b.own_built.works p (length b.functions) own_at turns calls (start m turns items) (le_refl turns) in
      let sound : watched_run (watch m) m turns items ≡ source_run turns items m = types_sound is_identifier m suits.well_typed turns items in
      let some = subst (λ (z : ModuleStop). IsSome z.ending) (sym sound) (none_is_stuck is_identifier m suits.well_typed turns items) in
      let k = finished turns _ (top_of (watch m) m turns (start m turns items)) some done in
      (k.0, k.1, k.2.count, ap (steps Strict p k.2.count) (starts turns items) ∙ k.2.is, sym sound ∙ k.3)

  pub is_calm : Calm p
  is_calm turns items n = let k = comes turns items in ended_is_calm Strict p k.2 n (run.start p turns items) k.0 k.1 k.3

  pub does_as_module : DoesAsModule m p
  does_as_module turns items =
      let k = comes turns items in
      let unstuck : steps Strict p k.2 (run.start p turns items) ≢ Stuck = λ e. let no : Ended k.0 k.1 ≡ Stuck = sym k.3 ∙ e in cc in
      record {
        ending = k.0;
        world = k.1;
        comes = (k.2, sym (unstuck_is_plain Strict p k.2 (run.start p turns items) unstuck) ∙ k.3);
        same = k.4;
      }

  pub is_program : IsProgram p
  is_program =
      let heads : map head_of_code b.functions ≡ heads_of m = same_map m head_of_code head_of (λ f h k. head_same m f h k.head) m.funcs b.functions b.each in
      record {
        functions = b.functions;
        own = b.own;
        are = b.are;
        each = λ n h e. let k = code_at m m.funcs b.functions n h b.each e in subst (λ gs. IsFunction (map head_of_code b.functions) gs h) (sym b.globals) (subst (λ hs. IsFunction hs (variable_registers m.globals) h) (sym heads) k.1.built);
        own_built = subst (λ gs. IsOwn (map head_of_code b.functions) gs b.own) (sym b.globals) (subst (λ hs. IsOwn hs (variable_registers m.globals) b.own) (sym heads) b.own_built.built);
        differ = ap names_differ (same_map m (λ (h : Func). h.name) (λ (f : TypedFunc). f.name) (λ f h k. k.name) m.funcs b.functions b.each) ∙ suits.differ;
        classes = b.classes;
        globals = ap (λ ds. list_all is_identifier (names_of ds)) b.globals ∙ ap (list_all is_identifier) (names_are m.globals) ∙ suits.identifiers;
        globals_differ = ap (λ ds. names_differ (names_of ds)) b.globals ∙ ap names_differ (names_are m.globals) ∙ suits.globals_differ;
      }
