-- One operation that stays in its function: its line does what it does.
use Rattle.std.proofs.Common.{◌≡◌, refl, sym, ◌∙◌, ap, subst, ℕ, zero, suc, Bool, true, false, ◌&&◌, cond, List, [], ◌∷◌, Option, Some, None}
use Rattle.std.specs.Prelude.{pos, slice_get, map}
use Rattle.std.specs.Option.{option_map, option_and_then}
use Rattle.value_core.specs.Ending.{Cut}
use Rattle.value_core.specs.Exceptions.{Thrown}
use Rattle.value_core.specs.Value.{Value, ObjVal, InstObj}
use Rattle.c_core.specs.declared.code.Kind.{Kind}
use Rattle.c_core.specs.declared.code.Kind.TheVariants.{Object as ObjectKind}
use Rattle.c_core.specs.declared.code.CClass.{CClass}
use Rattle.c_core.specs.declared.code.CArg.{CArg}
use Rattle.c_core.specs.declared.code.CArg.TheVariants as c_arg
use Rattle.c_core.specs.declared.code.Code.{Code}
use Rattle.c_core.specs.declared.code.Line.TheVariants as line
use Rattle.c_core.specs.declared.fault.Fault.TheVariants as fault
use Rattle.c_core.specs.declared.primitive.Primitive.{Primitive}
use Rattle.c_core.specs.declared.primitive.Primitive.TheVariants as prim
use Rattle.c_core.specs.declared.primitive.AttrPrim.TheVariants as attr
use Rattle.c_core.specs.declared.primitive.GlobalPrim.TheVariants as global
use Rattle.c_core.specs.Functions.{function_named}
use Rattle.c_core.specs.Ledgers.{Ledger, without}
use Rattle.c_core.specs.Machine.{Word, IntCell, InstCell, MachineState}
use Rattle.c_core.specs.Primitives.{Is, OfGlobal, OfSlot, Anything, AnInstance, Borrows, Steals, TakesGlobal, TakesPlace, Owned, Nothing, row_of}
use Rattle.c_core.specs.Stands.{IsLive}
use Rattle.c_core.specs.Arguments.{Cell, Plain, is_holding, kind_of_global, kind_found, stolen, word_in}
use Rattle.c_core.specs.Arguments as machines
use Rattle.c_core.specs.Step.{Next, Goes, Ends, with_var, next_line, if_there, if_true, if_variable, if_arguments, if_may_stand, if_calm, call_step, primitive_step, literal_word, turned, step_at, line_at, unchecked_step}
use Rattle.c_core.specs.Step as steps
use Rattle.c_core.specs.WellFormed.{WellFormed, kind_at, has_kind, kind_fits, kinds_agree, args_fit, target_fits, row_fits, call_fits}
use Rattle.c_core.proofs.Lines.{and_true}
use Rattle.ir_core.specs.declared.code.RType.{RType}
use Rattle.ir_core.specs.declared.code.Reg.{Reg}
use Rattle.ir_core.specs.declared.code.Lit.{Lit as Literal}
use Rattle.ir_core.specs.declared.code.PArg.{PArg}
use Rattle.ir_core.specs.declared.code.PArg.TheVariants as arg
use Rattle.ir_core.specs.declared.code.Op.{Op}
use Rattle.ir_core.specs.declared.code.Op.TheVariants.{Move, Lit, Prim, Call, Virtual, TraitCall, Turn, Inc, Dec, XDec}
use Rattle.ir_core.specs.declared.code.Program.{Program}
use Rattle.ir_core.specs.Registers.{Held, Holds, put, literal_of}
use Rattle.ir_core.specs.Rows.{Declared, type_of_reg, edge_of_prim}
use Rattle.ir_core.specs.Effects.{World, Argument, Given, Written}
use Rattle.ir_core.specs.Effects as program
use Rattle.ir_core.specs.Meaning.{Frame, Waiting, Config, Runs, Ended, Stuck, Fitting, next, goes, argument, arguments, is_lost, may_stand, registers_of, has_slot_kind, typed, applied, do_op}
use Rattle.ir_core.specs.Meaning as meaning
use Rattle.ir_core.specs.Lower.{kind_of_type, variable_of, argument_in, number_of, literal_in, line_of}
use Rattle.ir_core.proofs.RowLemmas.{primitive_found}
use Rattle.ir_core.proofs.TextLemmas.{same_self}
use Rattle.refcount_insert_lines_laws.specs.Matching.{type_in, slot_typed, PlacesFit, StoreFits, Fits, short, big, native, char_true, char_false, boxed, PendingFits, HasHeads, RunsIn}
use Rattle.refcount_insert_lines_laws.specs.Lines.{stays, OpDoes, op_sticks, op_goes, op_ends, OpsDo}
use Rattle.refcount_insert_lines_laws.proofs.Growing.{same_keeps, same_grows, places_grow, pending_grows, store_keeps}
use Rattle.refcount_insert_lines_laws.proofs.Words.{there_is, literal_fits}
use Rattle.refcount_insert_lines_laws.proofs.Facts.{fits_here, kind_here, registers_here, type_here, same_types, literal_type, has_type, declared_at, kind_in_type, kind_of_register}
use Rattle.refcount_insert_lines_laws.proofs.Reading.{Meets, AllMeet, no_more, one_more, is_instance, writes_place, writes_global, suited, are_read, first_then, argument_reads, reading, variable_reads, at_cell, word_read, object_reads, read_stolen}
use Rattle.refcount_insert_lines_laws.proofs.Agreeing.{Agrees, typed_agrees, IsTarget, sticks, stayed, wrote, effects_do}
use Rattle.refcount_insert_lines_laws.proofs.Rows.{answer_of, stands_elsewhere, agree}
use Rattle.refcount_insert_lines_laws.proofs.Refusing.{refused}
use Rattle.refcount_insert_lines_laws.proofs.Globals.{the_global, kind_is_there, get_row, clear_row, set_row}
use Rattle.refcount_insert_lines_laws.proofs.RowFacts.{read_row, has_kinds, answer_is, target_is, one_global, global_and_stolen, slot_and_stolen}
use Rattle.refcount_insert_lines_laws.proofs.Instances.{sharing, lending, IsKnown, slot_answer, register_type, Read, read_wrong, read_right, read_slot, set_effect, no_slot, slot_kind, write_row, asks_kind}

module _ (p : Program) (code : Code) (heads : HasHeads p code) (formed : WellFormed code) (f : Frame) (below : List Waiting) (w : World) (s : MachineState) (a : RunsIn p f w s) where
  abbrev D : Next → Config → Type 0
  D n c = OpDoes p a.func.regs f below s c n

  abbrev S : (n : Next) (c : Config) → c ≡ Stuck → D n c
  S = sticks p f below s a.func a.there a.regs

  abbrev declared : Declared
  declared = registers_of p f.fn

  -- the store, by the classes of the code
  the_store : StoreFits s code.classes w.store
  the_store = subst (λ z. StoreFits s z w.store) (sym heads.classes) a.world.store

  abbrev regs_are : declared ≡ a.func.regs
  regs_are = registers_here p f.fn a.func a.there

  -- what the line does, and what the operation does
  by_both : (n m : Next) (c d : Config) → n ≡ m → c ≡ d → D m d → D n c
  by_both n m c d e g h = subst (λ x. D x c) (sym e) (subst (D m) (sym g) h)

  type_there : (r : Reg) (d : List ℕ × RType) → slice_get a.func.regs r.0 ≡ Some d → type_of_reg declared r ≡ Some d.1
  type_there r d e = type_here p f.fn a.func a.there r d e

  -- a register is written, and nothing else changes
  writes : (r : ℕ) (d : List ℕ × RType) → slice_get a.func.regs r ≡ Some d → (h : Held) (y : Word) → Fits s d.1 h y → D (Goes (next_line (with_var r y s))) (Runs (next f (put f.regs r h)) below w)
  writes r d e h y fits =
      op_goes (put f.regs r h) w (next_line (with_var r y s)) (wrote p f below s a.func a.there a.regs r d e h y w s (record { ledger = s.top.ledger; top = refl; below = refl; grows = same_grows s s refl refl }) a.world fits)

  -- ---- moves, literals, turns
  -- an error value of an `int` or of a reference is not moved
  move_by : (r t : Reg) (d e : List ℕ × RType) (y : Word) → slice_get a.func.regs r.0 ≡ Some d → type_of_reg declared t ≡ Some e.1 → type_of_reg declared r ≡ Some d.1 → Fits s d.1 (f.regs t.0) y → (c : Bool) → is_lost e.1 (f.regs t.0) ≡ c → D (Goes (next_line (with_var r.0 y s))) (do_op Fitting p (Move r t) f below w)
  move_by r t d e y there from to fits true lost = S _ _ (rw (from, lost) refl)
  move_by r t d e y there from to fits false lost =
      let does : do_op Fitting p (Move r t) f below w ≡ Runs (next f (put f.regs r.0 (f.regs t.0))) below w = rw (from, lost, to) refl in
      by_both _ _ _ _ refl does (writes r.0 d there (f.regs t.0) y fits)

  move_does : (r t : Reg) → line_at code s.top ≡ Some (line.Move r.0 t.0) → D (step_at false code s (Some (line.Move r.0 t.0))) (do_op Fitting p (Move r t) f below w)
  move_does r t is =
      let types = same_types a.func.regs r.0 t.0 (fits_here p code heads f w s a formed (line.Move r.0 t.0) is) in
      let d : List ℕ × RType = types.0 in
      let e : List ℕ × RType = types.1 in
      let old = a.regs.fit t.0 e types.3 in
      let y : Word = old.0 in
      let text : step_at false code s (Some (line.Move r.0 t.0)) ≡ Goes (next_line (with_var r.0 y s)) =
      ap (λ o. steps.if_some false s fault.Kind o (λ z. if_there false s z (λ q. Goes (next_line (with_var r.0 z s))))) old.1
      ∙ there_is s e.1 (f.regs t.0) y old.2 (Goes (next_line (with_var r.0 y s))) in
      by_both _ _ _ _ text refl (move_by r t d e y types.2 (type_there t e types.3) (type_there r d types.2) (subst (λ z. Fits s z (f.regs t.0) y) (sym types.4) old.2) (is_lost e.1 (f.regs t.0)) refl)

  literal_by : (r : Reg) (l : Literal) (d : List ℕ × RType) → slice_get a.func.regs r.0 ≡ Some d → (o : Option Held) → literal_of d.1 l ≡ o → D (step_at false code s (Some (line.Lit r.0 (literal_in l)))) (do_op Fitting p (Lit r l) f below w)
  literal_by r l d e None is = let into = type_there r d e in S _ _ (rw (into, is) refl)
  literal_by r l d e (Some h) is =
      let into = type_there r d e in
      let lit = literal_fits s d.1 l h is in
      let y : Word = lit.0 in
      let does : do_op Fitting p (Lit r l) f below w ≡ Runs (next f (put f.regs r.0 h)) below w = rw (into, is) refl in
      let text : step_at false code s (Some (line.Lit r.0 (literal_in l))) ≡ Goes (next_line (with_var r.0 y s)) =
      ap (λ o. steps.if_some false s fault.Kind (option_and_then (λ k. literal_word k (literal_in l)) o) (λ z. Goes (next_line (with_var r.0 z s)))) (kind_here p code heads f w s a r.0 d e)
      ∙ ap (λ o. steps.if_some false s fault.Kind o (λ z. Goes (next_line (with_var r.0 z s)))) lit.1 in
      by_both _ _ _ _ text does (writes r.0 d e h y lit.2)

  literal_does : (r : Reg) (l : Literal) → line_at code s.top ≡ Some (line.Lit r.0 (literal_in l)) → D (step_at false code s (Some (line.Lit r.0 (literal_in l)))) (do_op Fitting p (Lit r l) f below w)
  literal_does r l is =
      let d = literal_type a.func.regs r.0 (literal_in l) (fits_here p code heads f w s a formed (line.Lit r.0 (literal_in l)) is) in
      literal_by r l d.0 d.1 (literal_of d.0.1 l) refl

  turned_by : (n : ℕ) → D (turned false s n) (meaning.turned f below w n)
  turned_by zero = op_ends Cut w s a.world tt
  turned_by (suc n) =
      let u : MachineState = record s { turns = n } in
      let v : World = record w { turns = n } in
      let g = same_grows s u refl refl in
      op_goes f.regs v (next_line u) (stayed p f below s a.func a.there a.regs v u (record { ledger = s.top.ledger; top = refl; below = refl; grows = g }) (record {
        output = a.world.output;
        turns = refl;
        items = a.world.items;
        store = store_keeps p.classes s u (same_keeps s u refl) refl w.store a.world.store;
        globals = places_grow s u g p.globals w.globals s.globals a.world.globals;
        pending = pending_grows s u g w.pending s.pending a.world.pending;
      }))

  -- while no exception is pending
  calm_by : (n : Next) (c : Config) → D n c → (o : Option Thrown) (q : Option ℕ) → PendingFits s o q → D (if_calm false s q n) (meaning.if_calm o c)
  calm_by n c h None None at = h
  calm_by n c h None (Some k) at = absurd at
  calm_by n c h (Some e) None at = absurd at
  calm_by n c h (Some e) (Some k) at = op_sticks _

  turn_does : D (step_at false code s (Some line.Turn)) (do_op Fitting p Turn f below w)
  turn_does =
      calm_by (turned false s s.turns) (meaning.turned f below w w.turns) (by_both _ (turned false s w.turns) _ _ (ap (turned false s) a.world.turns) refl (turned_by w.turns)) w.pending s.pending a.world.pending

  -- ---- primitives
  -- while an exception is pending only some rows may stand
  stands_by : (q : Primitive) (n : Next) (c : Config) → D n c → (b : Bool) → (row_of q).while_pending ≡ b → (o : Option Thrown) → w.pending ≡ o → (k : Option ℕ) → s.pending ≡ k → PendingFits s o k → D (if_may_stand false s (row_of q).while_pending n) (cond (may_stand w.pending q) c Stuck)
  stands_by q n c h true e None calm k is at =
      by_both _ n _ c (ap (λ z. if_may_stand false s z n) e) (ap (λ z. cond (may_stand z q) c Stuck) calm) h
  stands_by q n c h false e None calm None is at =
      by_both _ n _ c (ap (λ z. if_may_stand false s z n) e ∙ ap (λ z. if_calm false s z n) is) (ap (λ z. cond (may_stand z q) c Stuck) calm) h
  stands_by q n c h false e None calm (Some k) is at = absurd at
  stands_by q n c h true e (Some x) calm k is at =
      by_both _ n _ c (ap (λ z. if_may_stand false s z n) e) (ap (λ z. cond (may_stand z q) c Stuck) calm ∙ ap (λ z. cond z c Stuck) e) h
  stands_by q n c h false e (Some x) calm k is at =
      S _ _ (ap (λ z. cond (may_stand z q) c Stuck) calm ∙ ap (λ z. cond z c Stuck) e)

  module _ (to : Option Reg) (q : Primitive) (args : List PArg) (is : line_at code s.top ≡ Some (line_of p (Prim to q args))) where
    abbrev cargs : List CArg
    cargs = map argument_in args

    abbrev into : Option ℕ
    into = option_map number_of to

    -- the row fits
    row_here : row_fits code (map variable_of a.func.regs) into cargs (row_of q) ≡ true
    row_here =
        subst (λ z. call_fits code (map variable_of a.func.regs) into cargs z (function_named code.funcs (row_of q).name) ≡ true) (primitive_found q) (fits_here p code heads f w s a formed (line_of p (Prim to q args)) is)

    parts : (args_fit code (map variable_of a.func.regs) cargs (row_of q).parameters cargs ≡ true) × (target_fits code (map variable_of a.func.regs) cargs (row_of q).outcome into ≡ true)
    parts =
        and_true (args_fit code (map variable_of a.func.regs) cargs (row_of q).parameters cargs) (target_fits code (map variable_of a.func.regs) cargs (row_of q).outcome into) row_here

    -- what comes behind the arguments
    abbrev by_text : List machines.Argument → Ledger → Next
    by_text ys l =
        if_true false s (steps.answer_fits code s.top (row_of q).outcome into ys) (steps.applied false s into l (stolen (row_of q).parameters ys) (steps.effect code s q ys))

    abbrev by_program : List Argument → Config
    by_program xs =
        applied Fitting p (edge_of_prim declared to q) to f below (typed declared to args (program.effect p q xs w))

    abbrev Called : Type 0
    Called =
        D (step_at false code s (Some (line_of p (Prim to q args)))) (do_op Fitting p (Prim to q args) f below w)

    called : D (if_arguments false s code (row_of q).parameters cargs [] s.top.ledger by_text) (meaning.if_some (arguments declared f.regs args) by_program) → Called
    called h =
        by_both _ _ _ _ (ap (call_step false s code into (row_of q).name cargs) (primitive_found q)) refl (stands_by q _ _ h (row_of q).while_pending refl w.pending refl s.pending refl a.world.pending)

    -- a row that is read as every other
    by_row : (o : Option RType) → IsTarget a.func.regs o to → are_read (row_of q).parameters ≡ true → ((ys : List machines.Argument) → steps.answer_fits code s.top (row_of q).outcome into ys ≡ true) → ((vs : List Argument) (ys : List machines.Argument) → AllMeet w s code (row_of q).parameters vs ys → Agrees p w s o (program.effect p q vs w) (steps.effect code s q ys)) → Called
    by_row o target read fitting row =
        called (reading D S code w s the_store declared a.func.regs f.regs regs_are a.regs cargs (row_of q).parameters args read parts.0 [] s.top.ledger by_text by_program (λ vs ys m meet. subst (λ b. D (if_true false s b (steps.applied false s into m (stolen (row_of q).parameters ys) (steps.effect code s q ys))) (by_program vs)) (sym (fitting ys)) (effects_do p f below s a.func a.there a.regs w a.world (edge_of_prim declared to q) o to target m (stolen (row_of q).parameters ys) (typed declared to args (program.effect p q vs w)) (steps.effect code s q ys) (typed_agrees p w s declared to args o (program.effect p q vs w) (steps.effect code s q ys) (row vs ys meet)))) (λ vs r. ap (λ x. applied Fitting p (edge_of_prim declared to q) to f below (typed declared to args x)) (refused p w q vs r)))

    plain_does : stands_elsewhere q ≡ false → Called
    plain_does other =
        let both = and_true (are_read (row_of q).parameters) (has_kinds (row_of q).outcome) (read_row q other) in
        by_row (answer_of (row_of q).outcome) (target_is code a.func.regs cargs (row_of q).outcome to both.1 parts.1) both.0 (λ ys. answer_is code s.top (row_of q).outcome into ys both.1) (agree p code heads.classes w s a.world q other)

  -- ---- globals
  clear_does : (to : Option Reg) (args : List PArg) → line_at code s.top ≡ Some (line_of p (Prim to (prim.Global global.Clear) args)) → D (step_at false code s (Some (line_of p (Prim to (prim.Global global.Clear) args)))) (do_op Fitting p (Prim to (prim.Global global.Clear) args) f below w)
  clear_does to args is =
      by_row to (prim.Global global.Clear) args is None (target_is code a.func.regs (map argument_in args) Nothing to refl (parts to (prim.Global global.Clear) args is).1) refl (λ ys. refl) row
    where
      row : (vs : List Argument) (ys : List machines.Argument) → AllMeet w s code (TakesGlobal ∷ []) vs ys → Agrees p w s None (program.effect p (prim.Global global.Clear) vs w) (steps.effect code s (prim.Global global.Clear) ys)
      row vs ys (one_more (writes_global name known) no_more) = clear_row p code heads.globals w s a.world name known

  get_does : (to : Option Reg) (args : List PArg) → line_at code s.top ≡ Some (line_of p (Prim to (prim.Global global.Get) args)) → D (step_at false code s (Some (line_of p (Prim to (prim.Global global.Get) args)))) (do_op Fitting p (Prim to (prim.Global global.Get) args) f below w)
  get_does to args is =
      let q : Primitive = prim.Global global.Get in
      let fit = parts to q args is in
      let one = one_global code (map variable_of a.func.regs) (map argument_in args) args fit.0 in
      let name : List ℕ = one.0 in
      let g = the_global p code heads.globals w s a.world name one.2 in
      let kind = kind_is_there p code heads.globals w s a.world name one.2 in
      called to q args is (
      by_both _ (by_text to q args is (machines.Written (c_arg.Global name) ∷ []) s.top.ledger) _ (by_program to q args is (Written (arg.Global name) ∷ []))
      (ap (λ z. if_arguments false s code (TakesGlobal ∷ []) (map argument_in z) [] s.top.ledger (by_text to q args is)) one.1)
      (ap (λ z. meaning.if_some (arguments declared f.regs z) (by_program to q args is)) one.1)
      (effects_do p f below s a.func a.there a.regs w a.world (edge_of_prim declared to q) (Some g.global.1) to (target g.global.1 name one.1 kind to fit.1) s.top.ledger [] _ _ (typed_agrees p w s declared to args _ _ _ (get_row p code heads.globals w s a.world name one.2))))
    where
      target : (t : RType) (name : List ℕ) → args ≡ arg.Global name ∷ [] → kind_of_global code name ≡ Some (kind_of_type t) → (o : Option Reg) → target_fits code (map variable_of a.func.regs) (map argument_in args) (Owned OfGlobal) (option_map number_of o) ≡ true → IsTarget a.func.regs (Some t) o
      target t name e kind None fits = tt
      target t name e kind (Some r) fits =
          let here : kinds_agree (kind_of_global code name) (kind_at (map variable_of a.func.regs) r.0) ≡ true = subst (λ z. kind_fits code (map argument_in z) OfGlobal (kind_at (map variable_of a.func.regs) r.0) ≡ true) e fits in
          has_type a.func.regs r.0 t (subst (λ z. kinds_agree z (kind_at (map variable_of a.func.regs) r.0) ≡ true) kind here)

  -- any word of a value, as it is stolen
  any_reads : (t : RType) (l : Ledger) (go : machines.Argument → Ledger → Next) (k : Argument → Config) → ((v : Value) (y : Word) (x : machines.Argument) (m : Ledger) → word_in (kind_of_type t) x ≡ Some y → Fits s t (Holds v) y → D (go x m) (k (Given v))) → (v : Value) (y : Word) → Fits s t (Holds v) y → D (if_there false s y (λ x. if_true false s (is_holding Anything x) (steps.if_stolen false s x l (go x)))) (k (Given v))
  any_reads t l go k more v y (short n) = more _ y (Plain y) l refl (short n)
  any_reads t l go k more v y (big n c live) =
      at_cell D S code w s the_store declared a.func.regs f.regs regs_are a.regs c (IntCell n) live (λ x. steps.if_stolen false s (Cell c x) l (go (Cell c x))) (k (Given v)) (more _ y (Cell c (IntCell n)) (without c l) refl (big n c live))
  any_reads t l go k more v y (native n) = more _ y (Plain y) l refl (native n)
  any_reads t l go k more v y char_true = more _ y (Plain y) l refl char_true
  any_reads t l go k more v y char_false = more _ y (Plain y) l refl char_false
  any_reads t l go k more v y (boxed u z m) =
      object_reads D S code w s the_store declared a.func.regs f.regs regs_are a.regs Anything (λ x. steps.if_stolen false s x l (go x)) k u z
      (λ x b read e. let left = read_stolen D S code w s the_store declared a.func.regs f.regs regs_are a.regs z x read l (go x) in by_both _ _ _ _ left.1 refl (more u z x left.0 (word_read code w s the_store z x read) (boxed u z m)))
      (λ e. absurd (cc))
      (boxed u z m)

  set_does : (to : Option Reg) (args : List PArg) → line_at code s.top ≡ Some (line_of p (Prim to (prim.Global global.Set) args)) → D (step_at false code s (Some (line_of p (Prim to (prim.Global global.Set) args)))) (do_op Fitting p (Prim to (prim.Global global.Set) args) f below w)
  set_does to args is =
      let q : Primitive = prim.Global global.Set in
      let fit = parts to q args is in
      let two = global_and_stolen code (map variable_of a.func.regs) (map argument_in args) args fit.0 in
      let name : List ℕ = two.0 in
      let r : Reg = two.1 in
      let g = the_global p code heads.globals w s a.world name two.3 in
      let t : RType = g.global.1 in
      let kind = kind_is_there p code heads.globals w s a.world name two.3 in
      let written : machines.Argument = machines.Written (c_arg.Global name) in
      let here : kinds_agree (kind_of_global code name) (kind_at (map variable_of a.func.regs) r.0) ≡ true = subst (λ z. kind_fits code (map argument_in z) OfGlobal (kind_at (map variable_of a.func.regs) r.0) ≡ true) two.2 two.4 in
      let has : has_kind (kind_of_type t) (kind_at (map variable_of a.func.regs) r.0) ≡ true = subst (λ z. kinds_agree z (kind_at (map variable_of a.func.regs) r.0) ≡ true) kind here in
      let go : machines.Argument → Ledger → Next = λ x m. by_text to q args is (written ∷ x ∷ []) m in
      let k : Argument → Config = λ v. by_program to q args is (Written (arg.Global name) ∷ v ∷ []) in
      let stolen_one : machines.Argument → Next = λ x. steps.if_stolen false s x s.top.ledger (go x) in
      called to q args is (
      by_both _ (if_variable false s (kind_of_type t) Anything r.0 stolen_one) _ (meaning.if_some (argument declared f.regs (arg.Var r)) k)
      (ap (λ z. if_arguments false s code (TakesGlobal ∷ Steals OfGlobal Anything ∷ []) (map argument_in z) [] s.top.ledger (by_text to q args is)) two.2
      ∙ ap (λ o. steps.if_some false s fault.Kind o (λ kind. if_variable false s kind Anything r.0 stolen_one)) kind)
      (ap (λ z. meaning.if_some (arguments declared f.regs z) (by_program to q args is)) two.2
      ∙ (first_then declared f.regs (Some (Written (arg.Global name))) (arguments declared f.regs (arg.Var r ∷ [])) (by_program to q args is)
      ∙ first_then declared f.regs (argument declared f.regs (arg.Var r)) (Some []) (λ xs. by_program to q args is (Written (arg.Global name) ∷ xs))))
      (variable_reads D S code w s the_store declared a.func.regs f.regs regs_are a.regs t Anything r has stolen_one k (any_reads t s.top.ledger go k (λ v y x m word fits. effects_do p f below s a.func a.there a.regs w a.world (edge_of_prim declared to q) None to (target_is code a.func.regs (map argument_in args) Nothing to refl fit.1) m (stolen (row_of q).parameters (written ∷ x ∷ [])) _ _ (typed_agrees p w s declared to args _ _ _ (set_row p code heads.globals w s a.world name two.3 v y x word fits))))))

  -- ---- attributes
  -- a target that is declared
  known_target : (to : Option Reg) → (args : List CArg) → target_fits code (map variable_of a.func.regs) args (Owned OfSlot) (option_map number_of to) ≡ true → IsKnown p code heads f w s a to
  known_target None args e = tt
  known_target (Some r) args e = declared_at a.func.regs r.0 e

  -- a read that goes on alike in both, or is wrong in the program
  read_does : (to : Option Reg) (q : Primitive) (args : List PArg) (m : Ledger) (b : Bool) (x : program.Effect) (y : steps.Effect) → Read p code heads f w s a to b x y → D (if_true false s b (steps.applied false s (option_map number_of to) m [] y)) (applied Fitting p (edge_of_prim declared to q) to f below x)
  read_does to q args m b x y (read_wrong c z) = S _ _ refl
  read_does to q args m b x y (read_right t c u z target holds agrees) =
      by_both _ _ _ _ (ap (λ c. if_true false s c (steps.applied false s (option_map number_of to) m [] z)) holds) refl
      (effects_do p f below s a.func a.there a.regs w a.world (edge_of_prim declared to q) (Some t) to target m [] u z agrees)

  slot_got_does : (to : Option Reg) (args : List PArg) → line_at code s.top ≡ Some (line_of p (Prim to (prim.Attr attr.Get) args)) → D (step_at false code s (Some (line_of p (Prim to (prim.Attr attr.Get) args)))) (do_op Fitting p (Prim to (prim.Attr attr.Get) args) f below w)
  slot_got_does to args is =
      let q : Primitive = prim.Attr attr.Get in
      let fit = parts to q args is in
      called to q args is (reading D S code w s the_store declared a.func.regs f.regs regs_are a.regs (map argument_in args) (row_of q).parameters args refl fit.0 [] s.top.ledger (by_text to q args is) (by_program to q args is) (got (known_target to (map argument_in args) fit.1)) (λ vs r. ap (λ x. applied Fitting p (edge_of_prim declared to q) to f below (typed declared to args x)) (refused p w q vs r)))
    where
      got : IsKnown p code heads f w s a to → (vs : List Argument) (ys : List machines.Argument) (m : Ledger) → AllMeet w s code (row_of (prim.Attr attr.Get)).parameters vs ys → D (by_text to (prim.Attr attr.Get) args is ys m) (by_program to (prim.Attr attr.Get) args is vs)
      got known vs ys m (one_more (is_instance k c class attributes words kept there made live at fits) (one_more (writes_place n) no_more)) =
          let found : List machines.Argument = Cell c (InstCell class words) ∷ machines.Written (c_arg.Number n) ∷ [] in
          by_both _ _ _ _ (ap (λ b. if_true false s b (steps.applied false s (option_map number_of to) m [] (steps.effect code s (prim.Attr attr.Get) found))) (slot_answer p code heads f w s a found to)) refl
          (read_does to (prim.Attr attr.Get) args m _ _ _ (read_slot p code heads f w s a (λ e. e) (sharing p w s) to known args k c class attributes words kept there at fits n))

  slot_lent_does : (to : Option Reg) (args : List PArg) → line_at code s.top ≡ Some (line_of p (Prim to (prim.Attr attr.GetBorrow) args)) → D (step_at false code s (Some (line_of p (Prim to (prim.Attr attr.GetBorrow) args)))) (do_op Fitting p (Prim to (prim.Attr attr.GetBorrow) args) f below w)
  slot_lent_does to args is =
      let q : Primitive = prim.Attr attr.GetBorrow in
      let fit = parts to q args is in
      called to q args is (reading D S code w s the_store declared a.func.regs f.regs regs_are a.regs (map argument_in args) (row_of q).parameters args refl fit.0 [] s.top.ledger (by_text to q args is) (by_program to q args is) (got (known_target to (map argument_in args) fit.1)) (λ vs r. ap (λ x. applied Fitting p (edge_of_prim declared to q) to f below (typed declared to args x)) (refused p w q vs r)))
    where
      got : IsKnown p code heads f w s a to → (vs : List Argument) (ys : List machines.Argument) (m : Ledger) → AllMeet w s code (row_of (prim.Attr attr.GetBorrow)).parameters vs ys → D (by_text to (prim.Attr attr.GetBorrow) args is ys m) (by_program to (prim.Attr attr.GetBorrow) args is vs)
      got known vs ys m (one_more (is_instance k c class attributes words kept there made live at fits) (one_more (writes_place n) no_more)) =
          let found : List machines.Argument = Cell c (InstCell class words) ∷ machines.Written (c_arg.Number n) ∷ [] in
          by_both _ _ _ _ (ap (λ b. if_true false s b (steps.applied false s (option_map number_of to) m [] (steps.effect code s (prim.Attr attr.GetBorrow) found))) (slot_answer p code heads f w s a found to)) refl
          (read_does to (prim.Attr attr.GetBorrow) args m _ _ _ (read_slot p code heads f w s a steps.lent (lending p w s) to known args k c class attributes words kept there at fits n))

  -- a write of register r to place i of the object in register o
  module _ (to : Option Reg) (o r : Reg) (i : ℕ) (is : line_at code s.top ≡ Some (line_of p (Prim to (prim.Attr attr.Set) (arg.Var o ∷ arg.Number (pos i) ∷ arg.Var r ∷ [])))) where
    abbrev setting : Primitive
    setting = prim.Attr attr.Set

    abbrev three : List PArg
    three = arg.Var o ∷ arg.Number (pos i) ∷ arg.Var r ∷ []

    abbrev text_goes : List machines.Argument → Ledger → Next
    text_goes = by_text to setting three is

    abbrev program_goes : List Argument → Config
    program_goes = by_program to setting three is

    module _ (k c class : ℕ) (attributes : List (Option Value)) (words : List (Option Word)) (kept : CClass) (there : slice_get w.store k ≡ Some (InstObj class attributes)) (made : slice_get s.made k ≡ Some c) (live : IsLive s c (InstCell class words)) (at : slice_get code.classes class ≡ Some kept) (fits : PlacesFit s (map slot_typed kept.attrs) attributes words) (l : Ledger) where
      abbrev found : List machines.Argument
      found = Cell c (InstCell class words) ∷ machines.Written (c_arg.Number (pos i)) ∷ []

      abbrev go : machines.Argument → Ledger → Next
      go x m = text_goes (Cell c (InstCell class words) ∷ machines.Written (c_arg.Number (pos i)) ∷ x ∷ []) m

      abbrev then_go : Argument → Config
      then_go v = program_goes (Given (ObjVal k) ∷ Written (arg.Number (pos i)) ∷ v ∷ [])

      abbrev stolen_one : machines.Argument → Next
      stolen_one x = steps.if_stolen false s x l (go x)

      -- whatever value the register holds, the program is stuck
      no_value : ((v : Value) → typed declared to three (set_effect p code heads f w s a k c class i attributes words kept there made live at fits v) ≡ program.Wrong) → meaning.if_some (argument declared f.regs (arg.Var r)) then_go ≡ Stuck
      no_value wrong = by (meaning.read declared f.regs r)
        where
          by : (q : Option Value) → meaning.if_some (option_map Given q) then_go ≡ Stuck
          by None = refl
          by (Some v) = ap (applied Fitting p (edge_of_prim declared to setting) to f below) (wrong v)

      module _ (slot : List ℕ × Kind) (here : slice_get kept.attrs i ≡ Some slot) where
        kind_is : kind_found code OfSlot found ≡ Some slot.1
        kind_is = slot_kind p code heads f w s a k c class i attributes words kept there made live at fits slot here

        -- the register has the kind of the slot
        same_kind_does : (d : List ℕ × RType) → slice_get a.func.regs r.0 ≡ Some d → (has : has_slot_kind declared slot.1 r ≡ true) → D (if_variable false s slot.1 Anything r.0 stolen_one) (meaning.if_some (argument declared f.regs (arg.Var r)) then_go)
        same_kind_does d e has =
            let t : RType = type_in slot.1 in
            let kind : kind_of_type t ≡ slot.1 = kind_in_type slot.1 in
            let same : d.1 ≡ t = register_type p code heads f w s a r d e slot.1 has in
            let variable : kind_at (map variable_of a.func.regs) r.0 ≡ Some (kind_of_type t) = kind_of_register a.func.regs r.0 d e ∙ ap (λ z. Some (kind_of_type z)) same in
            let in_text : has_kind (kind_of_type t) (kind_at (map variable_of a.func.regs) r.0) ≡ true = ap (has_kind (kind_of_type t)) variable ∙ same_self (kind_of_type t) in
            by_both _ (if_variable false s (kind_of_type t) Anything r.0 stolen_one) _ (meaning.if_some (argument declared f.regs (arg.Var r)) then_go)
            (ap (λ z. if_variable false s z Anything r.0 stolen_one) (sym kind)) refl
            (variable_reads D S code w s the_store declared a.func.regs f.regs regs_are a.regs t Anything r in_text stolen_one then_go (any_reads t l go then_go (λ v y x m word held. written v y x m (subst (λ z. word_in z x ≡ Some y) kind word) held)))
          where
            written : (v : Value) (y : Word) (x : machines.Argument) (m : Ledger) → word_in slot.1 x ≡ Some y → Fits s (type_in slot.1) (Holds v) y → D (go x m) (then_go (Given v))
            written v y x m word held =
                let row = write_row p code heads f w s a k c class i attributes words kept there made live at fits slot here v y x word held in
                let does : typed declared to three (set_effect p code heads f w s a k c class i attributes words kept there made live at fits v) ≡ row.0 = ap (typed declared to three) row.1 ∙ ap (λ b. cond b row.0 program.Wrong) has in
                by_both _ _ _ _ refl (ap (applied Fitting p (edge_of_prim declared to setting) to f below) does)
                (effects_do p f below s a.func a.there a.regs w a.world (edge_of_prim declared to setting) None to (target_is code a.func.regs (map argument_in three) Nothing to refl (parts to setting three is).1) m (stolen (row_of setting).parameters (Cell c (InstCell class words) ∷ machines.Written (c_arg.Number (pos i)) ∷ x ∷ [])) row.0 _ row.2)

        by_kind : (d : List ℕ × RType) → slice_get a.func.regs r.0 ≡ Some d → (b : Bool) → has_slot_kind declared slot.1 r ≡ b → D (if_variable false s slot.1 Anything r.0 stolen_one) (meaning.if_some (argument declared f.regs (arg.Var r)) then_go)
        by_kind d e true has = same_kind_does d e has
        by_kind d e false has =
            S _ _ (no_value (λ v.
            let asks = asks_kind p code heads f w s a k c class i attributes words kept there made live at fits slot here v in
            ap (typed declared to three) asks.1 ∙ ap (λ b. cond b asks.0 program.Wrong) has))

      by_slot : (d : List ℕ × RType) → slice_get a.func.regs r.0 ≡ Some d → (q : Option (List ℕ × Kind)) → slice_get kept.attrs i ≡ q → D (steps.if_some false s fault.Kind (kind_found code OfSlot found) (λ z. if_variable false s z Anything r.0 stolen_one)) (meaning.if_some (argument declared f.regs (arg.Var r)) then_go)
      by_slot d e None here =
          S _ _ (no_value (λ v. ap (typed declared to three) (no_slot p code heads f w s a k c class i attributes words kept there made live at fits here v)))
      by_slot d e (Some slot) here =
          by_both _ _ _ _ (ap (λ z. steps.if_some false s fault.Kind z (λ z. if_variable false s z Anything r.0 stolen_one)) (kind_is slot here)) refl
          (by_kind slot here d e (has_slot_kind declared slot.1 r) refl)

    -- the object, and then what is written
    pub set_slot : has_kind ObjectKind (kind_at (map variable_of a.func.regs) o.0) ≡ true → (d : List ℕ × RType) → slice_get a.func.regs r.0 ≡ Some d → D (step_at false code s (Some (line_of p (Prim to setting three)))) (do_op Fitting p (Prim to setting three) f below w)
    set_slot object d e =
        called to setting three is (
        by_both _ _ _ _ refl
        (first_then declared f.regs (argument declared f.regs (arg.Var o)) (arguments declared f.regs (arg.Number (pos i) ∷ arg.Var r ∷ [])) program_goes)
        (argument_reads D S code w s the_store declared a.func.regs f.regs regs_are a.regs (map argument_in three) (Borrows (Is ObjectKind) AnInstance) (arg.Var o) refl object [] s.top.ledger
        (λ x m. if_arguments false s code (TakesPlace ∷ Steals OfSlot Anything ∷ []) (map argument_in (arg.Number (pos i) ∷ arg.Var r ∷ [])) (x ∷ []) m (λ others. text_goes (x ∷ others)))
        (λ v. meaning.if_some (arguments declared f.regs (arg.Number (pos i) ∷ arg.Var r ∷ [])) (λ vs. program_goes (v ∷ vs)))
        reads refuses))
      where
        in_order : (v : Argument) → meaning.if_some (arguments declared f.regs (arg.Number (pos i) ∷ arg.Var r ∷ [])) (λ vs. program_goes (v ∷ vs)) ≡ meaning.if_some (argument declared f.regs (arg.Var r)) (λ x. program_goes (v ∷ Written (arg.Number (pos i)) ∷ x ∷ []))
        in_order v =
            first_then declared f.regs (Some (Written (arg.Number (pos i)))) (arguments declared f.regs (arg.Var r ∷ [])) (λ vs. program_goes (v ∷ vs))
            ∙ first_then declared f.regs (argument declared f.regs (arg.Var r)) (Some []) (λ xs. program_goes (v ∷ Written (arg.Number (pos i)) ∷ xs))

        reads : (v : Argument) (x : machines.Argument) (m : Ledger) → Meets w s code (Borrows (Is ObjectKind) AnInstance) v x → D (if_arguments false s code (TakesPlace ∷ Steals OfSlot Anything ∷ []) (map argument_in (arg.Number (pos i) ∷ arg.Var r ∷ [])) (x ∷ []) m (λ others. text_goes (x ∷ others))) (meaning.if_some (arguments declared f.regs (arg.Number (pos i) ∷ arg.Var r ∷ [])) (λ vs. program_goes (v ∷ vs)))
        reads v x m (is_instance k c class attributes words kept there made live at fits) =
            by_both _ _ _ _ refl (in_order (Given (ObjVal k))) (by_slot k c class attributes words kept there made live at fits m d e (slice_get kept.attrs i) refl)

        refuses : (v : Argument) → suited w (Borrows (Is ObjectKind) AnInstance) v ≡ false → meaning.if_some (arguments declared f.regs (arg.Number (pos i) ∷ arg.Var r ∷ [])) (λ vs. program_goes (v ∷ vs)) ≡ Stuck
        refuses v e = in_order v ∙ by (argument declared f.regs (arg.Var r))
          where
            by : (q : Option Argument) → meaning.if_some q (λ x. program_goes (v ∷ Written (arg.Number (pos i)) ∷ x ∷ [])) ≡ Stuck
            by None = refl
            by (Some x) = ap (λ z. applied Fitting p (edge_of_prim declared to setting) to f below (typed declared to three z)) (refused p w setting (v ∷ Written (arg.Number (pos i)) ∷ x ∷ []) (ap (λ b. b && (suited w TakesPlace (Written (arg.Number (pos i))) && (suited w (Steals OfSlot Anything) x && true))) e))

  slot_set_does : (to : Option Reg) (args : List PArg) → line_at code s.top ≡ Some (line_of p (Prim to (prim.Attr attr.Set) args)) → D (step_at false code s (Some (line_of p (Prim to (prim.Attr attr.Set) args)))) (do_op Fitting p (Prim to (prim.Attr attr.Set) args) f below w)
  slot_set_does to args is =
      let fit = parts to (prim.Attr attr.Set) args is in
      let found = slot_and_stolen code (map variable_of a.func.regs) (map argument_in args) args fit.0 in
      let d = declared_at a.func.regs found.2.0 found.5 in
      subst (λ z. line_at code s.top ≡ Some (line_of p (Prim to (prim.Attr attr.Set) z)) → D (step_at false code s (Some (line_of p (Prim to (prim.Attr attr.Set) z)))) (do_op Fitting p (Prim to (prim.Attr attr.Set) z) f below w)) (sym found.3)
      (λ at. set_slot to found.0 found.2 found.1 at found.4 d.0 d.1) is

  -- ---- all
  prim_does : (to : Option Reg) (q : Primitive) (args : List PArg) → line_at code s.top ≡ Some (line_of p (Prim to q args)) → D (step_at false code s (Some (line_of p (Prim to q args)))) (do_op Fitting p (Prim to q args) f below w)
  prim_does to (prim.Global global.Get) args is = get_does to args is
  prim_does to (prim.Global global.Set) args is = set_does to args is
  prim_does to (prim.Global global.Clear) args is = clear_does to args is
  prim_does to (prim.Int64 q) args is = plain_does to (prim.Int64 q) args is refl
  prim_does to (prim.Tagged q) args is = plain_does to (prim.Tagged q) args is refl
  prim_does to (prim.Bool q) args is = plain_does to (prim.Bool q) args is refl
  prim_does to (prim.Object q) args is = plain_does to (prim.Object q) args is refl
  prim_does to (prim.Str q) args is = plain_does to (prim.Str q) args is refl
  prim_does to (prim.List q) args is = plain_does to (prim.List q) args is refl
  prim_does to (prim.Dict q) args is = plain_does to (prim.Dict q) args is refl
  prim_does to (prim.Instance q) args is = plain_does to (prim.Instance q) args is refl
  prim_does to (prim.Attr attr.Get) args is = slot_got_does to args is
  prim_does to (prim.Attr attr.GetBorrow) args is = slot_lent_does to args is
  prim_does to (prim.Attr attr.Set) args is = slot_set_does to args is
  prim_does to (prim.Tuple q) args is = plain_does to (prim.Tuple q) args is refl
  prim_does to (prim.Exc q) args is = plain_does to (prim.Exc q) args is refl
  prim_does to (prim.Err q) args is = plain_does to (prim.Err q) args is refl
  prim_does to (prim.Io q) args is = plain_does to (prim.Io q) args is refl

  pub op_does : (o : Op) → stays o ≡ true → line_at code s.top ≡ Some (line_of p o) → D (step_at false code s (Some (line_of p o))) (do_op Fitting p o f below w)
  op_does (Move r t) e is = move_does r t is
  op_does (Lit r l) e is = literal_does r l is
  op_does (Prim to q args) e is = prim_does to q args is
  op_does Turn e is = turn_does
  op_does (Call r n args) e is = absurd (cc)
  op_does (Virtual r o n args) e is = absurd (cc)
  op_does (TraitCall r o t n args) e is = absurd (cc)
  op_does (Inc r) e is = absurd (cc)
  op_does (Dec r) e is = absurd (cc)
  op_does (XDec r) e is = absurd (cc)

pub ops_do : OpsDo
ops_do p code heads formed o stay f below w s a is =
    subst (λ l. OpDoes p a.func.regs f below s (do_op Fitting p o f below w) (step_at false code s l)) (sym is) (op_does p code heads formed f below w s a o stay is)
