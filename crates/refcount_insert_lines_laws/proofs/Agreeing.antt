-- When what a primitive does with values is what it does with words, and that then both go on alike.
use Rattle.std.proofs.Common.{◌≡◌, refl, sym, ◌∙◌, ap, subst, ℕ, ◌+◌, Bool, true, false, cond, List, [], ◌∷◌, ◌++◌, length, Option, Some, None}
use Rattle.std.specs.Prelude.{ℤ, slice_get, slice_set}
use Rattle.std.specs.Option.{option_map}
use Rattle.std.proofs.lemmas.Option.{slice_get_within}
use Rattle.value_core.specs.Ending.{Ending}
use Rattle.value_core.specs.Exceptions.{Thrown}
use Rattle.value_core.specs.Items.{Items}
use Rattle.value_core.specs.Value.{Value, IntVal, StrVal, ExcVal, ObjVal, Object}
use Rattle.c_core.specs.declared.code.CClass.{CClass}
use Rattle.c_core.specs.Ledgers.{Ledger, more, more_of}
use Rattle.c_core.specs.Machine.{Word, ShortInt, BigInt, TaggedError, Native, CharWord, ObjectCell, NoneObject, TrueObject, FalseObject, NoObject, Content, IntCell, StrCell, ExcCell, refs_of, is_object, noted, MachineState}
use Rattle.c_core.specs.Machine as machines
use Rattle.c_core.specs.Stands.{IsLive}
use Rattle.c_core.specs.Step.{Next, Goes, with_ledger, with_var, with_items, next_line, shared, raise, own, with_cells}
use Rattle.c_core.specs.Step as steps
use Rattle.c_core.specs.Cells.{refill, make}
use Rattle.ir_core.specs.declared.code.RType.{RType}
use Rattle.ir_core.specs.declared.code.RType.TheVariants.{Int, Ref}
use Rattle.ir_core.specs.declared.code.Reg.{Reg}
use Rattle.ir_core.specs.declared.code.PArg.{PArg}
use Rattle.ir_core.specs.declared.code.Func.{Func}
use Rattle.ir_core.specs.declared.code.Program.{Program}
use Rattle.ir_core.specs.declared.kind.Edge.{Edge}
use Rattle.ir_core.specs.declared.kind.Edge.TheVariants.{NoEdge, Tests, TestsTwice, Jumps}
use Rattle.ir_core.specs.Registers.{Held, Holds, Regs, put, error_of}
use Rattle.ir_core.specs.Rows.{Declared}
use Rattle.ir_core.specs.Effects.{World, Effect, Wrong, Gives, Acts, Fails, Ends, with_new, with_object}
use Rattle.ir_core.specs.Meaning.{Frame, Waiting, Config, Runs, Stuck, Fitting, next, goes, is_edge, is_clear, item_at, failed, succeeds, typed, applied}
use Rattle.ir_core.specs.Meaning as meaning
use Rattle.ir_core.specs.Lower.{number_of}
use Rattle.refcount_insert_lines_laws.specs.Matching.{Boxed, ObjectFits, Fits, big, boxed, RegsFit, PlacesFit, Grows, WorldFits}
use Rattle.refcount_insert_lines_laws.specs.Lines.{EndsBy, GoesOn, OpDoes, op_sticks, op_goes, op_ends}
use Rattle.refcount_insert_lines_laws.proofs.ListLemmas.{get_last, made_new}
use Rattle.refcount_insert_lines_laws.proofs.Growing.{same_keeps, make_keeps, take_keeps, keeps_grows, same_grows, note_grows, change_grows, grows_as, fits_grow, regs_grow, places_grow, pending_grows, store_keeps, store_makes, store_changes, world_keeps}
use Rattle.refcount_insert_lines_laws.proofs.Words.{put_fits}
use Rattle.refcount_insert_lines_laws.proofs.Facts.{type_here}

-- ---- effects
-- the object of number k has cell c, and can become this one, with this content
pub record Changing (classes : List CClass) (s : MachineState) (k c : ℕ) (o : Object) (x : Content) : Type 0 where
  pub made : slice_get s.made k ≡ Some c
  pub old : Content
  pub live : IsLive s c old
  pub object : is_object old ≡ true
  pub fits : ObjectFits s classes o x

-- the target, where there is one, has this type; a row without a result has none
pub data Agrees (p : Program) (w : World) (s : MachineState) : Option RType → Effect → steps.Effect → Type 0 where
  both_wrong : (o : Option RType) (e : steps.Effect) → Agrees p w s o Wrong e
  both_say : (t : RType) (v : Value) (y : Word) → Fits s t (Holds v) y → Agrees p w s (Some t) (Gives v w) (steps.Says y)
  both_share : (t : RType) (v : Value) (y : Word) → Fits s t (Holds v) y → Agrees p w s (Some t) (Gives v w) (steps.Shares y)
  both_lend : (t : RType) (v : Value) (y : Word) → Fits s t (Holds v) y → Agrees p w s (Some t) (Gives v w) (steps.Lends y)
  both_make : (v : Value) (x : Content) → is_object x ≡ false → ((u : MachineState) → Grows s u → IsLive u (length s.cells) x → Boxed u v (ObjectCell (length s.cells))) → Agrees p w s (Some Ref) (Gives v w) (steps.Makes x)
  both_make_object : (o : Object) (x : Content) → is_object x ≡ true → ObjectFits s p.classes o x → Agrees p w s (Some Ref) (Gives (ObjVal (length w.store)) (with_new o w)) (steps.Makes x)
  both_change : (k c : ℕ) (o : Object) (x : Content) (y : Word) (up : List ℕ) → Changing p.classes s k c o x → Agrees p w s None (Acts (with_object k o w)) (steps.Changes c x y up)
  both_change_answering : (t : RType) (v : Value) (k c : ℕ) (o : Object) (x : Content) (y : Word) (up : List ℕ) → Changing p.classes s k c o x → Fits s t (Holds v) y → Agrees p w s (Some t) (Gives v (with_object k o w)) (steps.Changes c x y up)
  both_make_int : (n : ℤ) → Agrees p w s (Some Int) (Gives (IntVal n) w) (steps.MakesInt n)
  both_write : (t : List ℕ) → Agrees p w s None (Acts (record w { output = w.output ++ t })) (steps.Writes t)
  both_store : (n : ℕ) (old y : Option Word) (v : Option Value) → PlacesFit s p.globals (slice_set w.globals n v) (slice_set s.globals n y) → Agrees p w s None (Acts (record w { globals = slice_set w.globals n v })) (steps.Stores n old y)
  both_fail : (o : Option RType) (e : Thrown) (y : Word) → ((t : RType) → o ≡ Some t → Fits s t (error_of t) y) → Agrees p w s o (Fails e w) (steps.Fails y e)
  both_pend : (e : Thrown) (c : ℕ) → IsLive s c (ExcCell e) → Agrees p w s None (Fails e w) (steps.Pends c)
  both_catch : (e : Thrown) (c : ℕ) → IsLive s c (ExcCell e) → Agrees p w s (Some Ref) (Gives (ExcVal e) (record w { pending = None })) (steps.Catches c)
  both_read : (t : List ℕ) (rest : Items) → Agrees p w s (Some Ref) (Gives (StrVal t) (record w { items = rest })) (steps.Reads t rest)
  both_skip : (o : Option RType) (rest : Items) (e : Thrown) (y : Word) → ((t : RType) → o ≡ Some t → Fits s t (error_of t) y) → Agrees p w s o (Fails e (record w { items = rest })) (steps.Skips rest y e)
  both_stop : (o : Option RType) (e : Ending) → EndsBy e w.pending → Agrees p w s o (Ends e w) (steps.Stops e)

-- an effect that asks for no slot's type is the same with registers of any types
pub typed_agrees : (p : Program) (w : World) (s : MachineState) (declared : Declared) (to : Option Reg) (args : List PArg) (o : Option RType) (x : Effect) (y : steps.Effect) → Agrees p w s o x y → Agrees p w s o (typed declared to args x) y
typed_agrees p w s declared to args o x y (both_wrong q e) = both_wrong q e
typed_agrees p w s declared to args o x y (both_say t v z fits) = both_say t v z fits
typed_agrees p w s declared to args o x y (both_share t v z fits) = both_share t v z fits
typed_agrees p w s declared to args o x y (both_lend t v z fits) = both_lend t v z fits
typed_agrees p w s declared to args o x y (both_make v n other fits) = both_make v n other fits
typed_agrees p w s declared to args o x y (both_make_object q n object fits) = both_make_object q n object fits
typed_agrees p w s declared to args o x y (both_change k c q n z up a) = both_change k c q n z up a
typed_agrees p w s declared to args o x y (both_change_answering t v k c q n z up a fits) = both_change_answering t v k c q n z up a fits
typed_agrees p w s declared to args o x y (both_make_int n) = both_make_int n
typed_agrees p w s declared to args o x y (both_write t) = both_write t
typed_agrees p w s declared to args o x y (both_store n old z v fits) = both_store n old z v fits
typed_agrees p w s declared to args o x y (both_fail q e z fits) = both_fail q e z fits
typed_agrees p w s declared to args o x y (both_pend e c live) = both_pend e c live
typed_agrees p w s declared to args o x y (both_catch e c live) = both_catch e c live
typed_agrees p w s declared to args o x y (both_read t rest) = both_read t rest
typed_agrees p w s declared to args o x y (both_skip q rest e z fits) = both_skip q rest e z fits
typed_agrees p w s declared to args o x y (both_stop q e by) = both_stop q e by

-- a target has the type of the answer
abbrev pub IsTarget : Declared → Option RType → Option Reg → Type 0
IsTarget regs o None = Unit {0}
IsTarget regs None (Some r) = ⊥
IsTarget regs (Some t) (Some r) = (d : List ℕ × RType) × (slice_get regs r.0 ≡ Some d) × (d.1 ≡ t)

-- a state beside this one, in the same frame with another ledger
pub record Beside (s u : MachineState) : Type 0 where
  pub ledger : Ledger
  pub top : u.top ≡ record s.top { ledger = ledger }
  pub below : u.below ≡ s.below
  pub grows : Grows s u

module _ (p : Program) (f : Frame) (below : List Waiting) (s : MachineState) (func : Func) (there : slice_get p.funcs f.fn ≡ Some func) (a : RegsFit s func.regs f.regs s.top.vars) where
  abbrev pub Does : Next → Config → Type 0
  Does n c = OpDoes p func.regs f below s c n

  pub sticks : (n : Next) (c : Config) → c ≡ Stuck → Does n c
  sticks n c e = subst (Does n) (sym e) (op_sticks n)

  -- ---- what comes behind
  pub succeeds_does : (e : Edge) (regs : Regs) (v : World) (t : MachineState) → GoesOn p func.regs s regs v t → Does (Goes t) (succeeds Fitting p e f below regs v)
  succeeds_does e regs v t on = by (is_clear e v.pending)
    where
      by : (c : Bool) → Does (Goes t) (cond c (goes f below regs v) Stuck)
      by true = op_goes regs v t on
      by false = op_sticks (Goes t)

  pub failed_does : (e : Edge) (regs : Regs) (v : World) (t : MachineState) → GoesOn p func.regs s regs v t → Does (Goes t) (failed Fitting p e (next f regs) below v)
  failed_does e regs v t on = by e
    where
      seen : (c : Bool) → Does (Goes t) (cond c (Runs (next f regs) below v) Stuck)
      seen true = op_goes regs v t on
      seen false = op_sticks (Goes t)

      by : (x : Edge) → Does (Goes t) (failed Fitting p x (next f regs) below v)
      by NoEdge = op_sticks (Goes t)
      by (Tests r) = seen (is_edge (item_at p f.fn) (Tests r) (item_at p f.fn f.block (f.place + 1)))
      by (TestsTwice r) = seen (is_edge (item_at p f.fn) (TestsTwice r) (item_at p f.fn f.block (f.place + 1)))
      by Jumps = seen (is_edge (item_at p f.fn) Jumps (item_at p f.fn f.block (f.place + 1)))

  -- ---- registers
  pub stayed : (v : World) (u : MachineState) → Beside s u → WorldFits p v u → GoesOn p func.regs s f.regs v (next_line u)
  stayed v u b world =
      let t : MachineState = next_line u in
      record {
        func = ap (λ (z : machines.Frame). z.func) b.top;
        place = ap (λ (z : machines.Frame). z.place + 1) b.top;
        into = ap (λ (z : machines.Frame). z.into) b.top;
        below = b.below;
        grows = grows_as s u t b.grows refl refl;
        registers = subst (RegsFit t func.regs f.regs) (sym (ap (λ (z : machines.Frame). z.vars) b.top)) (regs_grow s t (grows_as s u t b.grows refl refl) func.regs f.regs s.top.vars a);
        world = world_keeps u t (same_keeps u t refl) p v refl refl refl refl refl refl world;
      }

  pub wrote : (r : ℕ) (d : List ℕ × RType) → slice_get func.regs r ≡ Some d → (h : Held) (y : Word) (v : World) (u : MachineState) → Beside s u → WorldFits p v u → Fits u d.1 h y → GoesOn p func.regs s (put f.regs r h) v (next_line (with_var r y u))
  wrote r d e h y v u b world fits =
      let t : MachineState = next_line (with_var r y u) in
      let old : RegsFit t func.regs f.regs u.top.vars = subst (RegsFit t func.regs f.regs) (sym (ap (λ (z : machines.Frame). z.vars) b.top)) (regs_grow s t (grows_as s u t b.grows refl refl) func.regs f.regs s.top.vars a) in
      let same : (c : List ℕ × RType) → slice_get func.regs r ≡ Some c → d ≡ c = λ c i. let j : Some d ≡ Some c = sym e ∙ i in cc in
      record {
        func = ap (λ (z : machines.Frame). z.func) b.top;
        place = ap (λ (z : machines.Frame). z.place + 1) b.top;
        into = ap (λ (z : machines.Frame). z.into) b.top;
        below = b.below;
        grows = grows_as s u t b.grows refl refl;
        registers = put_fits t func.regs f.regs u.top.vars old r h y (slice_get_within func.regs r d e) (λ c i. subst (λ (z : List ℕ × RType). Fits t z.1 h y) (same c i) (fits_grow u t (same_grows u t refl refl) d.1 h y fits));
        world = world_keeps u t (same_keeps u t refl) p v refl refl refl refl refl refl world;
      }

  -- ---- states behind effects
  module _ (w : World) (world : WorldFits p w s) where
    -- the same world, beside other cells and another ledger
    abbrev pub IsSame : MachineState → Type 0
    IsSame u = Beside s u × WorldFits p w u

    as_it_is : (l : Ledger) → IsSame (with_ledger l s)
    as_it_is l =
        (record { ledger = l; top = refl; below = refl; grows = same_grows s (with_ledger l s) refl refl }, world_keeps s (with_ledger l s) (same_keeps s (with_ledger l s) refl) p w refl refl refl refl refl refl world)

    took_one : (l : Ledger) (c : ℕ) → IsSame (steps.took c (with_ledger l s))
    took_one l c =
        let u : MachineState = steps.took c (with_ledger l s) in
        let k = take_keeps s u c refl in
        (record { ledger = more c l; top = refl; below = refl; grows = keeps_grows s u k refl }, world_keeps s u k p w refl refl refl refl refl refl world)

    is_shared : (l : Ledger) (y : Word) → IsSame (shared y (with_ledger l s))
    is_shared l (ShortInt n) = as_it_is l
    is_shared l (BigInt c) = took_one l c
    is_shared l TaggedError = as_it_is l
    is_shared l (Native n) = as_it_is l
    is_shared l (CharWord n) = as_it_is l
    is_shared l (ObjectCell c) = took_one l c
    is_shared l NoneObject = as_it_is l
    is_shared l TrueObject = as_it_is l
    is_shared l FalseObject = as_it_is l
    is_shared l NoObject = as_it_is l

    -- a new cell, which the frame owns; what is left of the input may be another
    abbrev made : Ledger → Items → machines.Content → MachineState
    made l rest x =
        own (length s.cells) (with_cells (make x s.cells) (with_items rest (with_ledger l s)))

    is_made : (l : Ledger) (rest : Items) (x : machines.Content) → Beside s (made l rest x) × WorldFits p (record w { items = rest }) (made l rest x) × IsLive (made l rest x) (length s.cells) x
    is_made l rest x =
        let u : MachineState = made l rest x in
        let keeps = make_keeps s u x refl in
        let g : Grows s u = keeps_grows s u keeps refl in (
          record { ledger = more (length s.cells) l; top = refl; below = refl; grows = g },
          record {
            output = world.output;
            turns = world.turns;
            items = refl;
            store = store_keeps p.classes s u keeps refl w.store world.store;
            globals = places_grow s u g p.globals w.globals s.globals world.globals;
            pending = pending_grows s u g w.pending s.pending world.pending;
          },
          made_new s.cells x,
        )

    is_made_here : (l : Ledger) (x : machines.Content) → IsSame (made l s.items x)
    is_made_here l x =
        let m = is_made l s.items x in
        (m.0, record { output = m.1.output; turns = m.1.turns; items = world.items; store = m.1.store; globals = m.1.globals; pending = m.1.pending })

    -- a cell that is no object's is not noted
    unnoted : (x : Content) (c : ℕ) → is_object x ≡ false → noted x c s.made ≡ s.made
    unnoted x c e = ap (λ b. cond b (s.made ++ c ∷ []) s.made) e

    is_noted : (x : Content) (c : ℕ) → is_object x ≡ true → noted x c s.made ≡ s.made ++ c ∷ []
    is_noted x c e = ap (λ b. cond b (s.made ++ c ∷ []) s.made) e

    -- a new cell, which is noted
    abbrev made_noted : Ledger → Content → MachineState
    made_noted l x =
        own (length s.cells) (record (with_ledger l s) { cells = make x s.cells; made = noted x (length s.cells) s.made })

    is_made_value : (l : Ledger) (x : Content) → is_object x ≡ false → IsSame (made_noted l x)
    is_made_value l x other =
        let u : MachineState = made_noted l x in
        let keeps = make_keeps s u x refl in
        let same : u.made ≡ s.made = unnoted x (length s.cells) other in
        (record { ledger = more (length s.cells) l; top = refl; below = refl; grows = keeps_grows s u keeps same }, world_keeps s u keeps p w refl refl refl same refl refl world)

    is_made_object : (l : Ledger) (o : Object) (x : Content) → is_object x ≡ true → ObjectFits s p.classes o x → Beside s (made_noted l x) × WorldFits p (with_new o w) (made_noted l x)
    is_made_object l o x object fits =
        let u : MachineState = made_noted l x in
        let one : u.made ≡ s.made ++ length s.cells ∷ [] = is_noted x (length s.cells) object in
        let g : Grows s u = note_grows s u x refl one in (
          record { ledger = more (length s.cells) l; top = refl; below = refl; grows = g },
          record {
            output = world.output;
            turns = world.turns;
            items = world.items;
            store = store_makes p.classes s u w.store world.store o x refl one fits;
            globals = places_grow s u g p.globals w.globals s.globals world.globals;
            pending = pending_grows s u g w.pending s.pending world.pending;
          },
        )

    -- an object changes
    abbrev changed : Ledger → ℕ → Content → Word → MachineState
    changed l c x y = with_cells (refill x c s.cells) (with_ledger (more_of (refs_of y) l) s)

    is_changed : (l : Ledger) (k c : ℕ) (o : Object) (x : Content) (y : Word) → Changing p.classes s k c o x → Beside s (changed l c x y) × WorldFits p (with_object k o w) (changed l c x y)
    is_changed l k c o x y a =
        let u : MachineState = changed l c x y in
        let g : Grows s u = change_grows s u x a.old c refl refl a.live a.object in (
          record { ledger = more_of (refs_of y) l; top = refl; below = refl; grows = g },
          record {
            output = world.output;
            turns = world.turns;
            items = world.items;
            store = store_changes p.classes s u w.store world.store k c o x a.old refl refl a.made a.live a.object a.fits;
            globals = places_grow s u g p.globals w.globals s.globals world.globals;
            pending = pending_grows s u g w.pending s.pending world.pending;
          },
        )

    -- an exception is raised
    abbrev raised : Ledger → Items → Thrown → MachineState
    raised l rest e = raise e (with_items rest (with_ledger l s))

    is_raised : (l : Ledger) (rest : Items) (e : Thrown) (v : World) → v ≡ record w { items = rest } → Beside s (raised l rest e) × WorldFits p (record v { pending = Some e }) (raised l rest e)
    is_raised l rest e v same =
        let u : MachineState = raised l rest e in
        let keeps = make_keeps s u (ExcCell e) refl in
        let g : Grows s u = keeps_grows s u keeps refl in
        let at : WorldFits p (record w { items = rest; pending = Some e }) u = record {
          output = world.output;
          turns = world.turns;
          items = refl;
          store = store_keeps p.classes s u keeps refl w.store world.store;
          globals = places_grow s u g p.globals w.globals s.globals world.globals;
          pending = made_new s.cells (ExcCell e);
        } in
        (record { ledger = l; top = refl; below = refl; grows = g }, subst (λ z. WorldFits p (record z { pending = Some e }) u) (sym same) at)

    same_items : w ≡ record w { items = s.items }
    same_items = ap (λ i. record w { items = i }) (sym world.items)

    -- ---- effects without a target
    abbrev done : Edge → Option Reg → Ledger → List ℕ → Effect → steps.Effect → Type 0
    done e to l gone x y =
        Does (steps.applied false s (option_map number_of to) l gone y) (applied Fitting p e to f below x)

    none_does : (e : Edge) (l : Ledger) (gone : List ℕ) (o : Option RType) (x : Effect) (y : steps.Effect) → Agrees p w s o x y → done e None l gone x y
    none_does e l gone o x y (both_wrong q z) = op_sticks _
    none_does e l gone o x y (both_say t v z fits) = op_sticks _
    none_does e l gone o x y (both_share t v z fits) = op_sticks _
    none_does e l gone o x y (both_lend t v z fits) = op_sticks _
    none_does e l gone o x y (both_make v z other fits) = op_sticks _
    none_does e l gone o x y (both_make_object q z object fits) = op_sticks _
    none_does e l gone o x y (both_change k c q z u up a) =
        let b = is_changed l k c q z u a in
        succeeds_does e f.regs (with_object k q w) (next_line (changed l c z u)) (stayed (with_object k q w) (changed l c z u) b.0 b.1)
    none_does e l gone o x y (both_change_answering t v k c q z u up a fits) = op_sticks _
    none_does e l gone o x y (both_make_int n) = op_sticks _
    none_does e l gone o x y (both_write t) =
        let u : MachineState = with_ledger l (record s { output = s.output ++ t }) in
        let v : World = record w { output = w.output ++ t } in
        let g : Grows s u = same_grows s u refl refl in
        succeeds_does e f.regs v (next_line u) (stayed v u (record { ledger = l; top = refl; below = refl; grows = g }) (record {
          output = ap (λ z. z ++ t) world.output;
          turns = world.turns;
          items = world.items;
          store = store_keeps p.classes s u (same_keeps s u refl) refl w.store world.store;
          globals = places_grow s u g p.globals w.globals s.globals world.globals;
          pending = pending_grows s u g w.pending s.pending world.pending;
        }))
    none_does e l gone o x y (both_store n old z v fits) =
        let u : MachineState = record (with_ledger l s) { globals = slice_set s.globals n z } in
        let k : World = record w { globals = slice_set w.globals n v } in
        let g : Grows s u = same_grows s u refl refl in
        succeeds_does e f.regs k (next_line u) (stayed k u (record { ledger = l; top = refl; below = refl; grows = g }) (record {
          output = world.output;
          turns = world.turns;
          items = world.items;
          store = store_keeps p.classes s u (same_keeps s u refl) refl w.store world.store;
          globals = places_grow s u g p.globals (slice_set w.globals n v) (slice_set s.globals n z) fits;
          pending = pending_grows s u g w.pending s.pending world.pending;
        }))
    none_does e l gone o x y (both_fail q z n fits) =
        let r = is_raised l s.items z w same_items in
        failed_does e f.regs (record w { pending = Some z }) (next_line (raised l s.items z)) (stayed (record w { pending = Some z }) (raised l s.items z) r.0 r.1)
    none_does e l gone o x y (both_pend z c live) =
        let u : MachineState = record (with_ledger l s) { pending = Some c } in
        let v : World = record w { pending = Some z } in
        let g : Grows s u = same_grows s u refl refl in
        failed_does e f.regs v (next_line u) (stayed v u (record { ledger = l; top = refl; below = refl; grows = g }) (record {
          output = world.output;
          turns = world.turns;
          items = world.items;
          store = store_keeps p.classes s u (same_keeps s u refl) refl w.store world.store;
          globals = places_grow s u g p.globals w.globals s.globals world.globals;
          pending = live;
        }))
    none_does e l gone o x y (both_catch z c live) = op_sticks _
    none_does e l gone o x y (both_read t rest) = op_sticks _
    none_does e l gone o x y (both_skip q rest z n fits) =
        let r = is_raised l rest z (record w { items = rest }) refl in
        failed_does e f.regs (record w { items = rest; pending = Some z }) (next_line (raised l rest z)) (stayed (record w { items = rest; pending = Some z }) (raised l rest z) r.0 r.1)
    none_does e l gone o x y (both_stop q z by) = op_ends z w s world by

    -- ---- effects with a target
    module _ (e : Edge) (r : Reg) (l : Ledger) (gone : List ℕ) (t : RType) (d : List ℕ × RType) (declared : slice_get func.regs r.0 ≡ Some d) (typed : d.1 ≡ t) where
      -- both go on with a value in the target
      gives : (v : Value) (k : World) (u : MachineState) (y : Word) → Beside s u → WorldFits p k u → Fits u t (Holds v) y → Does (Goes (next_line (with_var r.0 y u))) (applied Fitting p e (Some r) f below (Gives v k))
      gives v k u y b at fits =
          let regs : Regs = put f.regs r.0 (Holds v) in
          let on = wrote r.0 d declared (Holds v) y k u b at (subst (λ z. Fits u z (Holds v) y) (sym typed) fits) in
          let does : applied Fitting p e (Some r) f below (Gives v k) ≡ succeeds Fitting p e f below regs k = ap (λ z. meaning.if_some z (λ q. succeeds Fitting p e f below regs k)) (type_here p f.fn func there r d declared) in
          subst (Does (Goes (next_line (with_var r.0 y u)))) (sym does) (succeeds_does e regs k (next_line (with_var r.0 y u)) on)

      -- both go on with the error value
      loses : (x : Thrown) (k : World) (u : MachineState) (y : Word) → Beside s u → WorldFits p (record k { pending = Some x }) u → Fits u t (error_of t) y → Does (Goes (next_line (with_var r.0 y u))) (applied Fitting p e (Some r) f below (Fails x k))
      loses x k u y b at fits =
          let v : World = record k { pending = Some x } in
          let regs : Regs = put f.regs r.0 (error_of d.1) in
          let on = wrote r.0 d declared (error_of d.1) y v u b at (subst (λ z. Fits u z (error_of z) y) (sym typed) fits) in
          let does : applied Fitting p e (Some r) f below (Fails x k) ≡ failed Fitting p e (next f regs) below v = ap (λ z. meaning.if_some z (λ q. failed Fitting p e (next f (put f.regs r.0 (error_of q))) below v)) (type_here p f.fn func there r d declared) in
          subst (Does (Goes (next_line (with_var r.0 y u)))) (sym does) (failed_does e regs v (next_line (with_var r.0 y u)) on)

      some_does : (o : Option RType) → o ≡ Some t → (x : Effect) (y : steps.Effect) → Agrees p w s o x y → done e (Some r) l gone x y
      some_does o is x y (both_wrong q z) = op_sticks _
      some_does o is x y (both_say q v z fits) =
          let same : q ≡ t = cc in
          let u = as_it_is l in
          gives v w (with_ledger l s) z u.0 u.1 (fits_grow s (with_ledger l s) u.0.grows t (Holds v) z (subst (λ c. Fits s c (Holds v) z) same fits))
      some_does o is x y (both_share q v z fits) =
          let same : q ≡ t = cc in
          let u = is_shared l z in
          gives v w (shared z (with_ledger l s)) z u.0 u.1 (fits_grow s (shared z (with_ledger l s)) u.0.grows t (Holds v) z (subst (λ c. Fits s c (Holds v) z) same fits))
      some_does o is x y (both_lend q v z fits) =
          let same : q ≡ t = cc in
          let u = as_it_is l in
          gives v w (with_ledger l s) z u.0 u.1 (fits_grow s (with_ledger l s) u.0.grows t (Holds v) z (subst (λ c. Fits s c (Holds v) z) same fits))
      some_does o is x y (both_make v n other fits) =
          let same : Ref ≡ t = cc in
          let u : MachineState = made_noted l n in
          let b = is_made_value l n other in
          gives v w u (ObjectCell (length s.cells)) b.0 b.1 (subst (λ c. Fits u c (Holds v) (ObjectCell (length s.cells))) same (boxed v (ObjectCell (length s.cells)) (fits u b.0.grows (made_new s.cells n))))
      some_does o is x y (both_make_object q n object fits) =
          let same : Ref ≡ t = cc in
          let u : MachineState = made_noted l n in
          let b = is_made_object l q n object fits in
          let last : slice_get u.made (length w.store) ≡ Some (length s.cells) =
          ap (λ z. slice_get z (length w.store)) (is_noted n (length s.cells) object) ∙ (ap (slice_get (s.made ++ length s.cells ∷ [])) (sym world.store.size) ∙ get_last s.made (length s.cells)) in
          gives (ObjVal (length w.store)) (with_new q w) u (ObjectCell (length s.cells)) b.0 b.1 (subst (λ c. Fits u c (Holds (ObjVal (length w.store))) (ObjectCell (length s.cells))) same (boxed (ObjVal (length w.store)) (ObjectCell (length s.cells)) (length s.cells, refl, last, (n, made_new s.cells n))))
      some_does o is x y (both_change k c q n z up a) = absurd (cc)
      some_does o is x y (both_change_answering q v k c b n z up a fits) =
          let same : q ≡ t = cc in
          let u = is_changed l k c b n z a in
          gives v (with_object k b w) (changed l c n z) z u.0 u.1 (fits_grow s (changed l c n z) u.0.grows t (Holds v) z (subst (λ c. Fits s c (Holds v) z) same fits))
      some_does o is x y (both_make_int n) =
          let same : Int ≡ t = cc in
          let u = is_made_here l (IntCell n) in
          gives (IntVal n) w (made l s.items (IntCell n)) (BigInt (length s.cells)) u.0 u.1 (subst (λ c. Fits (made l s.items (IntCell n)) c (Holds (IntVal n)) (BigInt (length s.cells))) same (big n (length s.cells) (is_made l s.items (IntCell n)).2))
      some_does o is x y (both_write n) = op_sticks _
      some_does o is x y (both_store n old z v fits) = op_sticks _
      some_does o is x y (both_fail q z n fits) =
          let u = is_raised l s.items z w same_items in
          loses z w (raised l s.items z) n u.0 u.1 (fits_grow s (raised l s.items z) u.0.grows t (error_of t) n (fits t is))
      some_does o is x y (both_pend z c live) = absurd (cc)
      some_does o is x y (both_catch z c live) =
          let same : Ref ≡ t = cc in
          let u : MachineState = own c (record (with_ledger l s) { pending = None }) in
          let k : World = record w { pending = None } in
          let g : Grows s u = same_grows s u refl refl in
          gives (ExcVal z) k u (ObjectCell c) (record { ledger = more c l; top = refl; below = refl; grows = g }) (record {
            output = world.output;
            turns = world.turns;
            items = world.items;
            store = store_keeps p.classes s u (same_keeps s u refl) refl w.store world.store;
            globals = places_grow s u g p.globals w.globals s.globals world.globals;
            pending = tt;
          }) (subst (λ q. Fits u q (Holds (ExcVal z)) (ObjectCell c)) same (boxed (ExcVal z) (ObjectCell c) (c, refl, live)))
      some_does o is x y (both_read n rest) =
          let same : Ref ≡ t = cc in
          let u = is_made l rest (StrCell n) in
          gives (StrVal n) (record w { items = rest }) (made l rest (StrCell n)) (ObjectCell (length s.cells)) u.0 u.1 (subst (λ c. Fits (made l rest (StrCell n)) c (Holds (StrVal n)) (ObjectCell (length s.cells))) same (boxed (StrVal n) (ObjectCell (length s.cells)) (length s.cells, refl, u.2)))
      some_does o is x y (both_skip q rest z n fits) =
          let u = is_raised l rest z (record w { items = rest }) refl in
          loses z (record w { items = rest }) (raised l rest z) n u.0 u.1 (fits_grow s (raised l rest z) u.0.grows t (error_of t) n (fits t is))
      some_does o is x y (both_stop q z by) = op_ends z w s world by

    -- ---- both
    pub effects_do : (e : Edge) (o : Option RType) (to : Option Reg) → IsTarget func.regs o to → (l : Ledger) (gone : List ℕ) (x : Effect) (y : steps.Effect) → Agrees p w s o x y → Does (steps.applied false s (option_map number_of to) l gone y) (applied Fitting p e to f below x)
    effects_do e o None at l gone x y agrees = none_does e l gone o x y agrees
    effects_do e None (Some r) at l gone x y agrees = absurd at
    effects_do e (Some t) (Some r) at l gone x y agrees = some_does e r l gone t at.0 at.1 at.2 (Some t) refl x y agrees
