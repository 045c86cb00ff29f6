-- Whole runs: the C text of a program with its counts does what the program does.
use Rattle.std.proofs.Common.{◌≡◌, ◌≢◌, refl, sym, ◌∙◌, ap, subst, ℕ, zero, suc, ◌+◌, ◌-◌, ◌≤◌, arith, true, false, List, [], ◌∷◌, length, replicate, Option, Some, None}
use Rattle.std.specs.Prelude.{slice_get, map}
use Rattle.std.proofs.lemmas.Option.{slice_get_within}
use Rattle.value_core.specs.Ending.{Ending, Done, Raised, Cut, Over, Broken}
use Rattle.value_core.specs.Exceptions.{Thrown}
use Rattle.value_core.specs.Items.{Items}
use Rattle.value_core.specs.Value.{Value, IntVal, BoolVal, NoneVal, StrVal, TupleVal, ExcVal, ObjVal, Values, no_values, value_then, Object, ListObj, DictObj, InstObj, Store}
use Rattle.c_core.specs.declared.code.CClass.{CClass}
use Rattle.c_core.specs.Cells.{content_at}
use Rattle.c_core.specs.WellFormed.{WellFormed}
use Rattle.c_core.specs.Functions.{error_word}
use Rattle.c_core.specs.Machine.{Word, ShortInt, BigInt, Native, CharWord, Content, IntCell, StrCell, ListCell, DictCell, TupleCell, InstCell, ExcCell, MachineState}
use Rattle.c_core.specs.Stands.{IsLive, MatchesInt, MatchesBool, in_object, Matches, MatchesParts, MatchAll, MatchPairs, MatchSet, MatchesObject, MatchesStore, in_short, in_native, in_big, true_char, false_char, true_object, false_object, Stands}
use Rattle.c_core.specs.Step.{Next, Goes, Ends}
use Rattle.c_core.specs.Step as machines
use Rattle.c_core.specs.Run.{Stop, go_on, first_words, module_function, most_steps}
use Rattle.c_core.specs.Run as text_runs
use Rattle.c_core.proofs.Bounds.{unchecked_run_exists}
use Rattle.ir_core.specs.declared.code.RType.{RType}
use Rattle.ir_core.specs.declared.code.Func.{Func}
use Rattle.ir_core.specs.declared.code.Program.{Program}
use Rattle.ir_core.specs.Registers.{Held, Holds, first_regs}
use Rattle.ir_core.specs.Rows.{Declared}
use Rattle.ir_core.specs.Effects.{World}
use Rattle.ir_core.specs.Items.{item_of, item_in, blocks_of}
use Rattle.ir_core.specs.declared.code.Block.{Block}
use Rattle.ir_core.specs.Meaning.{Frame, Waiting, Config, Runs, Ended, Stuck, Fitting, act, step, steps}
use Rattle.ir_core.specs.Runs.{first_world, begins, start, Fit}
use Rattle.ir_core.specs.Lower.{variable_of, global_of, lowered_as, name_in}
use Rattle.ir_core.specs.Shape.{Shape}
use Rattle.ir_core.proofs.RunLemmas.{steps_on as run_on}
use Rattle.ir_core.proofs.ModeLemmas.{unstuck_is_plain}
use Rattle.refcount_insert_rule.specs.Counted.{IsCountedProgram}
use Rattle.refcount_insert_lines_laws.specs.Matching.{slot_typed, Boxed, PartsBoxed, AllBoxed, PairsBoxed, AttributesFit, ObjectFits, ObjectAt, StoreFits, Fits, tagged_error, short, big, native, char_error, char_true, char_false, no_object, boxed, RegsFit, PlacesFit, PendingFits, WorldFits}
use Rattle.refcount_insert_lines_laws.specs.Follows.{stop_of, EndsStanding, UncheckedFollows}
use Rattle.refcount_insert_lines_laws.proofs.Operations.{ops_do}
use Rattle.refcount_insert_lines_laws.proofs.Calls.{calls_do}
use Rattle.refcount_insert_lines_laws.proofs.Methods.{methods_do}
use Rattle.refcount_insert_lines_laws.proofs.Returns.{returns_do, ends_do}
use Rattle.refcount_insert_lines_laws.proofs.Tests.{ifs_do, if_errors_do, counts_do}
use Rattle.refcount_insert_lines_laws.proofs.Words.{entry_fit, entry_size}
use Rattle.refcount_insert_runs_laws.specs.Laws.{CountedRunsFollow}
use Rattle.refcount_insert_runs_laws.proofs.Laid.{as_many, function_at}
use Rattle.refcount_insert_runs_laws.proofs.Heads.{FuncAt, at_number, same_size}
use Rattle.refcount_insert_runs_laws.proofs.Relation.{code, machine, EndsAt, At, Leads, stays, steps_on, Arrives, gets_stuck, comes, ends}
use Rattle.refcount_insert_runs_laws.proofs.Entering.{begin_at}
use Rattle.refcount_insert_runs_laws.proofs.Calling.{Moves}
use Rattle.refcount_insert_runs_laws.proofs.Stepping.{LinesDo, one}
use Rattle.refcount_insert_runs_laws.proofs.Shapes.{top_params}

-- ---- the end
module _ (s : MachineState) where
  matches_as : (v u : Value) (w : Word) → Holds u ≡ Holds v → Matches s u w → Matches s v w
  matches_as v u w e m = let same : u ≡ v = cc in subst (λ z. Matches s z w) same m

  mutual
    boxed_matches : (v : Value) (y : Word) → Boxed s v y → Matches s v y
    boxed_matches (IntVal n) y m = subst (MatchesInt s n) (sym m.1) (in_object m.0 m.2)
    boxed_matches (BoolVal true) y m = subst (MatchesBool s true) (sym m) true_object
    boxed_matches (BoolVal false) y m = subst (MatchesBool s false) (sym m) false_object
    boxed_matches NoneVal y m = m
    boxed_matches (StrVal x) y m = m
    boxed_matches (TupleVal parts) y m = (m.0, m.1, (m.2.0, m.2.1, parts_match parts m.2.0 m.2.2))
    boxed_matches (ExcVal x) y m = m
    boxed_matches (ObjVal k) y m = m

    parts_match : (vs : Values) (ys : List Word) → PartsBoxed s vs ys → MatchesParts s vs ys
    parts_match no_values [] m = tt
    parts_match no_values (y ∷ ys) m = absurd m
    parts_match (value_then v vs) [] m = absurd m
    parts_match (value_then v vs) (y ∷ ys) m = (boxed_matches v y m.0, parts_match vs ys m.1)

  all_match : (vs : List Value) (ys : List Word) → AllBoxed s vs ys → MatchAll s vs ys
  all_match [] [] m = tt
  all_match [] (y ∷ ys) m = absurd m
  all_match (v ∷ vs) [] m = absurd m
  all_match (v ∷ vs) (y ∷ ys) m = (boxed_matches v y m.0, all_match vs ys m.1)

  pairs_match : (ps : List (Value × Value)) (qs : List (Word × Word)) → PairsBoxed s ps qs → MatchPairs s ps qs
  pairs_match [] [] m = tt
  pairs_match [] (q ∷ qs) m = absurd m
  pairs_match (p ∷ ps) [] m = absurd m
  pairs_match (p ∷ ps) (q ∷ qs) m = (boxed_matches p.0 q.0 m.0, (boxed_matches p.1 q.1 m.1, pairs_match ps qs m.2))

  fits_matches : (a : RType) (v : Value) (h : Held) (w : Word) → h ≡ Holds v → Fits s a h w → Matches s v w
  fits_matches a v h w e tagged_error = absurd (cc)
  fits_matches a v h w e (short n) = matches_as v (IntVal n) (ShortInt n) e (in_short)
  fits_matches a v h w e (big n c live) = matches_as v (IntVal n) (BigInt c) e (in_big c live)
  fits_matches a v h w e (native n) = matches_as v (IntVal n) (Native n) e in_native
  fits_matches a v h w e char_error = absurd (cc)
  fits_matches a v h w e char_true = matches_as v (BoolVal true) (CharWord 1) e true_char
  fits_matches a v h w e char_false = matches_as v (BoolVal false) (CharWord 0) e false_char
  fits_matches a v h w e no_object = absurd (cc)
  fits_matches a v h w e (boxed u y m) = matches_as v u y e (boxed_matches u y m)

  places_match : (gs : Declared) (vs : List (Option Value)) (ws : List (Option Word)) → PlacesFit s gs vs ws → MatchSet s vs ws
  places_match [] [] [] fit = tt
  places_match [] [] (w ∷ ws) fit = absurd fit
  places_match [] (v ∷ vs) ws fit = absurd fit
  places_match (g ∷ gs) [] ws fit = absurd fit
  places_match (g ∷ gs) (None ∷ vs) [] fit = absurd fit
  places_match (g ∷ gs) (None ∷ vs) (None ∷ ws) fit = places_match gs vs ws fit
  places_match (g ∷ gs) (None ∷ vs) (Some w ∷ ws) fit = absurd fit
  places_match (g ∷ gs) (Some v ∷ vs) [] fit = absurd fit
  places_match (g ∷ gs) (Some v ∷ vs) (None ∷ ws) fit = absurd fit
  places_match (g ∷ gs) (Some v ∷ vs) (Some w ∷ ws) fit =
      (fits_matches g.1 v (Holds v) w refl fit.0, places_match gs vs ws fit.1)

  attributes_match : (o : Option CClass) (vs : List (Option Value)) (ws : List (Option Word)) → AttributesFit s o vs ws → MatchSet s vs ws
  attributes_match None vs ws m = absurd m
  attributes_match (Some k) vs ws m = places_match (map slot_typed k.attrs) vs ws m

  object_matches : (classes : List CClass) (o : Object) (x : Content) → ObjectFits s classes o x → MatchesObject s o x
  object_matches classes (ListObj items) (ListCell words) m = all_match items words m
  object_matches classes (ListObj items) (IntCell n) m = absurd m
  object_matches classes (ListObj items) (StrCell n) m = absurd m
  object_matches classes (ListObj items) (DictCell n) m = absurd m
  object_matches classes (ListObj items) (TupleCell n) m = absurd m
  object_matches classes (ListObj items) (InstCell n b) m = absurd m
  object_matches classes (ListObj items) (ExcCell n) m = absurd m
  object_matches classes (DictObj pairs) (DictCell words) m = pairs_match pairs words m
  object_matches classes (DictObj pairs) (IntCell n) m = absurd m
  object_matches classes (DictObj pairs) (StrCell n) m = absurd m
  object_matches classes (DictObj pairs) (ListCell n) m = absurd m
  object_matches classes (DictObj pairs) (TupleCell n) m = absurd m
  object_matches classes (DictObj pairs) (InstCell n b) m = absurd m
  object_matches classes (DictObj pairs) (ExcCell n) m = absurd m
  object_matches classes (InstObj class attributes) (InstCell n words) m =
      (m.0, attributes_match (slice_get classes class) attributes words m.1)
  object_matches classes (InstObj class attributes) (IntCell n) m = absurd m
  object_matches classes (InstObj class attributes) (StrCell n) m = absurd m
  object_matches classes (InstObj class attributes) (ListCell n) m = absurd m
  object_matches classes (InstObj class attributes) (DictCell n) m = absurd m
  object_matches classes (InstObj class attributes) (TupleCell n) m = absurd m
  object_matches classes (InstObj class attributes) (ExcCell n) m = absurd m

  -- each object with its cell, from the first on
  store_matches : (store : Store) (made : List ℕ) → length made ≡ length store → ((k : ℕ) (o : Object) (c : ℕ) → slice_get store k ≡ Some o → slice_get made k ≡ Some c → (x : Content) → IsLive s c x → MatchesObject s o x) → MatchesStore s store made
  store_matches [] [] size each = tt
  store_matches [] (c ∷ cs) size each = absurd (omega (arith, size))
  store_matches (o ∷ os) [] size each = absurd (omega (arith, size))
  store_matches (o ∷ os) (c ∷ cs) size each =
      (λ x live. each 0 o c refl refl x live, store_matches os cs (omega (arith, size)) (λ k. each (suc k)))

  object_here : (classes : List CClass) (store : Store) → StoreFits s classes store → (k : ℕ) (o : Object) (c : ℕ) → slice_get store k ≡ Some o → slice_get s.made k ≡ Some c → (x : Content) → IsLive s c x → MatchesObject s o x
  object_here classes store a k o c there made x live =
      let at : ObjectAt s classes o k = a.objects k o there in
      let cells : Some at.c ≡ Some c = sym at.made ∙ made in
      let same : at.c ≡ c = cc in
      let contents : Some at.content ≡ Some x = sym at.live ∙ (ap (content_at s.cells) same ∙ live) in
      let content : at.content ≡ x = cc in
      subst (MatchesObject s o) content (object_matches classes o at.content at.fits)

  not_pending : (e : Option Thrown) (c : Option ℕ) → PendingFits s e c → e ≡ None → c ≡ None
  not_pending None None fits is = refl
  not_pending None (Some c) fits is = absurd fits
  not_pending (Some x) c fits is = let g : Some x ≡ None = is in absurd (cc)

  is_pending : (x : Thrown) (e : Option Thrown) (c : Option ℕ) → PendingFits s e c → e ≡ Some x → (d : ℕ) × (c ≡ Some d) × IsLive s d (ExcCell x)
  is_pending x None c fits is = let g : None ≡ Some x = is in absurd (cc)
  is_pending x (Some y) None fits is = absurd fits
  is_pending x (Some y) (Some c) fits is =
      let g : Some y ≡ Some x = is in
      let same : y ≡ x = cc in
      (c, refl, subst (λ z. IsLive s c (ExcCell z)) same fits)

module _ (p : Program) (w : World) (s : MachineState) where
  stands_there : (e : Ending) → EndsAt p e w s → Stands w.store w.globals s
  stands_there e at =
      record { objects = store_matches s w.store s.made at.store.size (object_here s p.classes w.store at.store); variables_match = places_match s p.globals w.globals s.globals at.globals }

  standing : (e : Ending) → EndsAt p e w s → EndsStanding e (stop_of e w) s
  standing Done at = (stands_there Done at, not_pending s w.pending s.pending at.pending at.by_pending)
  standing (Raised x) at = (stands_there (Raised x) at, is_pending s x w.pending s.pending at.pending at.by_pending)
  standing Cut at = tt
  standing Over at = tt
  standing Broken at = tt

-- ---- the first words
abbrev error_words : Declared → List Word
error_words regs = map (λ v. error_word v.1) (map variable_of regs)

unset : (s : MachineState) (gs : Declared) → PlacesFit s gs (replicate (length gs) None) (map (λ g. None) (map global_of gs))
unset s [] = tt
unset s (g ∷ gs) = unset s gs

module _ (lines_do : LinesDo) (p q : Program) (shape : Shape p) (counted : IsCountedProgram p q) (wf : WellFormed (code p q)) where
  abbrev text_step : MachineState → Next
  text_step = machine p q

  -- ---- a run of the C text
  leads_go : (n m : Next) → Leads p q n m → (k : ℕ) (stop : Stop) → go_on text_step k n ≡ Some stop → (i : ℕ) × (i ≤ k) × (go_on text_step i m ≡ Some stop)
  leads_go n m (stays x) k stop e = (k, omega arith, e)
  leads_go n m (steps_on s x l) zero stop e = let f : None ≡ Some stop = e in absurd (cc)
  leads_go n m (steps_on s x l) (suc k) stop e =
      let more = leads_go (text_step s) m l k stop e in (more.0, omega (arith, more.1), more.2)

  pub record EndsWith (c : Config) (stop : Stop) : Type 0 where
    pub bound : ℕ
    pub ending : Ending
    pub world : World
    pub is : steps Fitting p bound c ≡ Ended ending world
    pub same : stop.ending ≡ machines.Ended ending
    pub at : EndsAt p ending world stop.state

  behind : (j : ℕ) (c d : Config) (stop : Stop) → steps Fitting p j c ≡ d → EndsWith d stop → EndsWith c stop
  behind j c d stop e h =
      record {
        bound = j + h.bound;
        ending = h.ending;
        world = h.world;
        is = run_on Fitting p j h.bound c ∙ (ap (steps Fitting p h.bound) e ∙ h.is);
        same = h.same;
        at = h.at;
      }

  never : (j : ℕ) (c d : Config) → steps Fitting p j c ≡ d → ((n : ℕ) → steps Fitting p n c ≢ Stuck) → (n : ℕ) → steps Fitting p n d ≢ Stuck
  never j c d e free n stuck = free (j + n) (run_on Fitting p j n c ∙ (ap (steps Fitting p n) e ∙ stuck))

  by_arrives : (fuel k : ℕ) → k ≤ fuel → (c : Config) → ((n : ℕ) → steps Fitting p n c ≢ Stuck) → (stop : Stop) (n : Next) → go_on text_step k n ≡ Some stop → (j : ℕ) → Arrives p q n (steps Fitting p j c) → ((i : ℕ) → i ≤ fuel → (f : Frame) (below : List Waiting) (w : World) (s : MachineState) → At p q f below w s → ((n : ℕ) → steps Fitting p n (Runs f below w) ≢ Stuck) → go_on text_step i (Goes s) ≡ Some stop → EndsWith (Runs f below w) stop) → EndsWith c stop
  by_arrives fuel k le c free stop n e j (gets_stuck is) more = absurd (free j is)
  by_arrives fuel k le c free stop n e j (comes f below w s l is at) more =
      let i = leads_go n (Goes s) l k stop e in
      behind j c (Runs f below w) stop is (more i.0 (omega (arith, i.1, le)) f below w s at (never j c (Runs f below w) is free) i.2)
  by_arrives fuel k le c free stop n e j (ends x w s l is at) more =
      let i = leads_go n (Ends (machines.Ended x) s) l k stop e in
      let last : Stop = record { ending = machines.Ended x; state = s } in
      let f : Some last ≡ Some stop = i.2 in
      let same : last ≡ stop = cc in
      record { bound = j; ending = x; world = w; is = is; same = ap (λ (z : Stop). z.ending) (sym same); at = subst (λ (z : Stop). EndsAt p x w z.state) same at }

  run : (fuel k : ℕ) → k ≤ fuel → (stop : Stop) (f : Frame) (below : List Waiting) (w : World) (s : MachineState) → At p q f below w s → ((n : ℕ) → steps Fitting p n (Runs f below w) ≢ Stuck) → go_on text_step k (Goes s) ≡ Some stop → EndsWith (Runs f below w) stop
  run zero zero le stop f below w s at free e = let g : None ≡ Some stop = e in absurd (cc)
  run zero (suc k) le stop f below w s at free e = absurd (omega (arith, le))
  run (suc fuel) zero le stop f below w s at free e = let g : None ≡ Some stop = e in absurd (cc)
  run (suc fuel) (suc k) le stop f below w s at free e =
      let o : Moves p q f below w (text_step s) = one lines_do p q shape counted wf f below w s at in
      by_arrives fuel k (omega (arith, le)) (Runs f below w) free stop (text_step s) e (suc o.more) o.arrives (λ i l g ks v t a h d. run fuel i l stop g ks v t a h d)

  -- ---- the start
  module _ (turns : ℕ) (items : Items) where
    abbrev top : ℕ
    top = length p.funcs - 1

    abbrev first : MachineState
    first = text_runs.start (code p q) turns items

    abbrev entry : Func → Frame
    entry g = record { fn = top; block = 0; place = 0; regs = first_regs g.regs [] }

    abbrev Free : Config → Type 0
    Free c = (n : ℕ) → steps Fitting p n c ≢ Stuck

    number : module_function (code p q) ≡ top
    number = ap (λ n. n - 1) (as_many q 0 q.funcs ∙ same_size p q counted)

    module _ (g : Func) (there : slice_get p.funcs top ≡ Some g) where
      abbrev at_top : FuncAt p q top
      at_top =
          let found = at_number p q counted top g there in
          record { func = g; new = found.0; there = there; new_there = found.1; counted = found.2 }

      no_params : g.params ≡ 0
      no_params =
          let size : suc top ≡ length (code p q).funcs = omega (arith, slice_get_within p.funcs top g there, as_many q 0 q.funcs, same_size p q counted) in
          sym at_top.counted.params ∙ top_params (code p q) wf top (lowered_as q (name_in q top at_top.new) at_top.new) size (function_at q top at_top.new at_top.new_there)

      vars : first.top.vars ≡ error_words g.regs
      vars =
          ap (λ n. first_words (slice_get (code p q).funcs n)) number
          ∙ (ap first_words (function_at q top at_top.new at_top.new_there) ∙ ap error_words at_top.counted.regs)

      fit : RegsFit first g.regs (first_regs g.regs []) first.top.vars
      fit =
          record {
            size = ap length vars ∙ entry_size first g.regs [] [] tt;
            fit = λ r d e. subst (λ z. (y : Word) × (slice_get z r ≡ Some y) × Fits first d.1 (first_regs g.regs [] r) y) (sym vars) (entry_fit first g.regs [] [] tt r d e);
          }

      world : WorldFits p (first_world p turns items) first
      world =
          record {
            output = refl;
            turns = refl;
            items = refl;
            store = record { size = refl; objects = λ k o e. absurd (cc); apart = λ j k c e f. absurd (cc) };
            globals = subst (λ (z : Declared). PlacesFit first p.globals (replicate (length p.globals) None) (map (λ g. None) (map global_of z))) (sym counted.globals) (unset first p.globals);
            pending = tt;
          }

      starts : (block : Block) → slice_get g.blocks 0 ≡ Some block → At p q (entry g) [] (first_world p turns items) first
      starts block here =
          begin_at p q shape (entry g) [] (first_world p turns items) at_top block here first number refl fit (λ r lt. absurd (omega (arith, lt, no_params))) (omega (arith, slice_get_within p.funcs top g there)) world

      -- without a block the program would be stuck at once
      no_block : slice_get g.blocks 0 ≡ None → step Fitting p (Runs (entry g) [] (first_world p turns items)) ≡ Stuck
      no_block absent =
          ap (λ z. act Fitting p (item_in (blocks_of z) 0 0) (entry g) [] (first_world p turns items)) there
          ∙ ap (λ z. act Fitting p (item_of z 0) (entry g) [] (first_world p turns items)) absent

      run_from : Free (Runs (entry g) [] (first_world p turns items)) → (k : ℕ) (stop : Stop) → go_on text_step k (Goes first) ≡ Some stop → (o : Option Block) → slice_get g.blocks 0 ≡ o → EndsWith (Runs (entry g) [] (first_world p turns items)) stop
      run_from free k stop e None absent = absurd (free 1 (no_block absent))
      run_from free k stop e (Some block) here =
          run k k (omega arith) stop (entry g) [] (first_world p turns items) first (starts block here) free e

    run_by : Free (start p turns items) → (k : ℕ) (stop : Stop) → go_on text_step k (Goes first) ≡ Some stop → (o : Option Func) → slice_get p.funcs top ≡ o → EndsWith (start p turns items) stop
    run_by free k stop e None is = absurd (free 0 (ap (begins top (first_world p turns items)) is))
    run_by free k stop e (Some g) is =
        let begin : start p turns items ≡ Runs (entry g) [] (first_world p turns items) = ap (begins top (first_world p turns items)) is in
        behind 0 (start p turns items) (Runs (entry g) [] (first_world p turns items)) stop begin (run_from g is (never 0 (start p turns items) (Runs (entry g) [] (first_world p turns items)) begin free) k stop e (slice_get g.blocks 0) refl)

    pub whole_run : Free (start p turns items) → (k : ℕ) (stop : Stop) → go_on text_step k (Goes first) ≡ Some stop → EndsWith (start p turns items) stop
    whole_run free k stop e = run_by free k stop e (slice_get p.funcs top) refl

    pub follows : Fit p → UncheckedFollows p (code p q) turns items
    follows fits =
        let stops = unchecked_run_exists (code p q) wf turns items in
        let r = whole_run (fits turns items) (most_steps turns (code p q)) stops.0 stops.1 in
        record {
          bound = most_steps turns (code p q);
          stop = stops.0;
          runs = stops.1;
          ending = r.ending;
          world = r.world;
          comes = (r.bound, sym (unstuck_is_plain Fitting p r.bound (start p turns items) (fits turns items r.bound)) ∙ r.is);
          stands = record { same_output = r.at.output; same_ending = r.same; standing = standing p r.world stops.0.state r.ending r.at };
        }

-- ---- the law
lines_do : LinesDo
lines_do =
    record { ops = ops_do; calls = calls_do; methods = methods_do; returns = returns_do; ends = ends_do; ifs = ifs_do; if_errors = if_errors_do; counts = counts_do }

pub counted_runs_follow : CountedRunsFollow
counted_runs_follow p q shape fits counted wf turns items = follows lines_do p q shape counted wf turns items fits
