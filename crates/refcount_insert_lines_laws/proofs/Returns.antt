-- A return comes back to the caller, or the module to its end, as in the program.
use Rattle.std.proofs.Common.{◌≡◌, refl, sym, ◌∙◌, ap, subst, ℕ, ◌+◌, arith, Bool, true, false, cond, List, [], ◌∷◌, length, Option, Some, None, ◌||◌}
use Rattle.std.specs.Prelude.{slice_get, slice_set, ◌-◌}
use Rattle.std.specs.Option.{option_map}
use Rattle.std.proofs.lemmas.Option.{slice_get_within}
use Rattle.value_core.specs.Ending.{Done, Raised}
use Rattle.value_core.specs.Exceptions.{Thrown}
use Rattle.value_core.specs.Value.{Value}
use Rattle.c_core.specs.declared.code.Code.{Code}
use Rattle.c_core.specs.declared.code.Line.TheVariants as line
use Rattle.c_core.specs.declared.fault.Fault.TheVariants as fault
use Rattle.c_core.specs.Cells.{content_at}
use Rattle.c_core.specs.Ledgers.{Ledger, without, more_of}
use Rattle.c_core.specs.Machine.{Word, CharWord, ExcCell, MachineState, refs_of}
use Rattle.c_core.specs.Machine as machines
use Rattle.c_core.specs.Step.{Next, Goes, Ends, with_var, with_target, line_at, equals_error, if_in_order, if_return, if_result, if_none_left, if_ended, if_thrown, step_at, unchecked_step}
use Rattle.c_core.specs.Step as steps
use Rattle.c_core.specs.WellFormed.{WellFormed}
use Rattle.ir_core.specs.declared.code.RType.{RType}
use Rattle.ir_core.specs.declared.code.RType.TheVariants.{Bool as BoolType}
use Rattle.ir_core.specs.declared.code.Reg.{Reg}
use Rattle.ir_core.specs.declared.code.Last.TheVariants.{Return}
use Rattle.ir_core.specs.declared.code.Program.{Program}
use Rattle.ir_core.specs.declared.kind.Edge.{Edge}
use Rattle.ir_core.specs.declared.kind.Edge.TheVariants.{NoEdge, Tests, TestsTwice, Jumps}
use Rattle.ir_core.specs.Registers.{Held, Unset, Holds, put, error_of, is_error, look}
use Rattle.ir_core.specs.Rows.{type_of_reg, edge_of_call}
use Rattle.ir_core.specs.Effects.{World}
use Rattle.ir_core.specs.Meaning.{Frame, Waiting, Config, Runs, Stuck, Fitting, Way, Well, Badly, Wrongly, next, goes, is_edge, item_at, registers_of, failed, returned, way, way_calm, leave, ended_well, raised_by, do_last}
use Rattle.ir_core.specs.Meaning as meaning
use Rattle.refcount_insert_lines_laws.specs.Matching.{Fits, tagged_error, short, big, native, char_error, char_true, char_false, no_object, boxed, PendingFits, WorldFits, HasHeads, RunsIn}
use Rattle.refcount_insert_lines_laws.specs.Lines.{WaitsIn, GoesBack, ReturnDoes, return_sticks, return_goes, ReturnsDo, EndDoes, end_sticks, end_is, EndsDo}
use Rattle.refcount_insert_lines_laws.proofs.Growing.{same_keeps, same_grows, fits_grow, regs_grow, world_keeps}
use Rattle.refcount_insert_lines_laws.proofs.Words.{ObjectWord, word_none, word_true, word_false, word_cell, boxed_word, same_error, error_held, no_error, put_fits}
use Rattle.refcount_insert_lines_laws.proofs.Facts.{is_declared, fits_here, has_type, type_here, last_answers}

module _ (s : MachineState) where
  none_left : (l : Ledger) (go : Next) → if_none_left false s l go ≡ go
  none_left [] go = refl
  none_left (c ∷ l) go = refl

  -- the cell of a word is there, and no ledger is looked at
  word_result : (y : Word) → ObjectWord s y → (n : Next) → if_result false s y (λ l. if_none_left false s l n) ≡ n
  word_result y word_none n = none_left s.top.ledger n
  word_result y word_true n = none_left s.top.ledger n
  word_result y word_false n = none_left s.top.ledger n
  word_result y (word_cell c x live) n =
      ap (λ o. steps.if_some false s fault.Dead o (λ x. if_none_left false s (without c s.top.ledger) n)) live ∙ none_left (without c s.top.ledger) n

  result_is : (t : RType) (h : Held) (y : Word) → Fits s t h y → (n : Next) → if_result false s y (λ l. if_none_left false s l n) ≡ n
  result_is t h y tagged_error n = none_left s.top.ledger n
  result_is t h y (short k) n = none_left s.top.ledger n
  result_is t h y (big k c live) n =
      ap (λ o. steps.if_some false s fault.Dead o (λ x. if_none_left false s (without c s.top.ledger) n)) live ∙ none_left (without c s.top.ledger) n
  result_is t h y (native k) n = none_left s.top.ledger n
  result_is t h y char_error n = none_left s.top.ledger n
  result_is t h y char_true n = none_left s.top.ledger n
  result_is t h y char_false n = none_left s.top.ledger n
  result_is t h y no_object n = none_left s.top.ledger n
  result_is t h y (boxed v z m) n = word_result z (boxed_word s v z m) n

  -- an error value passes while an exception is pending
  error_passes : (y : Word) (c : ℕ) (go : Next) → equals_error y ≡ true → if_in_order false s y (Some c) go ≡ go
  error_passes y c go e = by (steps.is_error y) (steps.is_both y) e
    where
      by : (x z : Bool) → (x || z) ≡ true → cond x go (cond z go (steps.faulted false s fault.Kind)) ≡ go
      by true z e = refl
      by false true e = refl
      by false false e = absurd (cc)

-- a return leaves its function with what its register holds
left_by : (p : Program) (x : Reg) (f : Frame) (w : World) (s : MachineState) (a : RunsIn p f w s) (below : List Waiting) (d : List ℕ × RType) → slice_get a.func.regs x.0 ≡ Some d → do_last Fitting p (Return x) f below w ≡ returned Fitting p (way a.func.ret (f.regs x.0) w.pending) (f.regs x.0) below w
left_by p x f w s a below d e =
    ap (λ z. meaning.if_some z (λ g. meaning.if_some (look g.regs f.regs x) (λ h. leave Fitting p g.ret h below w))) a.there
    ∙ ap (λ z. meaning.if_some (option_map (λ t. f.regs x.0) (option_map (λ (c : List ℕ × RType). c.1) z)) (λ h. leave Fitting p a.func.ret h below w)) e

-- what a return does, by the way in which its function is left
module _ (p : Program) (s : MachineState) (w : World) (world : WorldFits p w s) (below : List Waiting) (P : Next → Config → Type 0) (stuck : (n : Next) (c : Config) → c ≡ Stuck → P n c) (t : RType) (h : Held) (y : Word) (fits : Fits s t h y) where
  abbrev pub After : Next
  After = if_return false s y s.below (λ n. if_result false s y (λ l. if_none_left false s l n))

  wrongly : (ks : List Waiting) → returned Fitting p Wrongly h ks w ≡ Stuck
  wrongly [] = refl
  wrongly (k ∷ ks) = refl

  abbrev pub IsWell : Type 0
  IsWell =
      (v : Value) → h ≡ Holds v → w.pending ≡ None → s.pending ≡ None → P After (returned Fitting p Well h below w)

  abbrev pub IsBad : Type 0
  IsBad =
      (e : Thrown) (c : ℕ) → w.pending ≡ Some e → s.pending ≡ Some c → content_at s.cells c ≡ Some (ExcCell e) → is_error t h ≡ true → P After (returned Fitting p Badly h below w)

  to_both : (n m : Next) (c d : Config) → n ≡ m → c ≡ d → P m d → P n c
  to_both n m c d e g z = subst (λ x. P x c) (sym e) (subst (P m) (sym g) z)

  by_held : IsWell → w.pending ≡ None → s.pending ≡ None → (x : Held) → h ≡ x → P (if_in_order false s y None After) (returned Fitting p (way_calm h) h below w)
  by_held well calm quiet Unset is = stuck _ _ (ap (λ z. returned Fitting p (way_calm z) h below w) is ∙ wrongly below)
  by_held well calm quiet (Holds v) is =
      to_both _ After _ (returned Fitting p Well h below w) (ap (λ c. cond c (steps.faulted false s fault.Kind) After) (no_error s t v y (subst (λ z. Fits s t z y) is fits))) (ap (λ z. returned Fitting p (way_calm z) h below w) is) (well v is calm quiet)

  by_error : IsBad → (e : Thrown) (c : ℕ) → w.pending ≡ Some e → s.pending ≡ Some c → content_at s.cells c ≡ Some (ExcCell e) → (b : Bool) → is_error t h ≡ b → P (if_in_order false s y (Some c) After) (returned Fitting p (cond b Badly Wrongly) h below w)
  by_error bad e c thrown at live true is =
      to_both _ After _ _ (error_passes s y c After (same_error s t h y fits ∙ is)) refl (bad e c thrown at live is)
  by_error bad e c thrown at live false is = stuck _ _ (wrongly below)

  by_pending : IsWell → IsBad → (o : Option Thrown) → w.pending ≡ o → (q : Option ℕ) → s.pending ≡ q → PendingFits s o q → P (if_in_order false s y q After) (returned Fitting p (way t h o) h below w)
  by_pending well bad None calm None quiet at = by_held well calm quiet h refl
  by_pending well bad None calm (Some c) quiet at = absurd at
  by_pending well bad (Some e) thrown None quiet at = absurd at
  by_pending well bad (Some e) thrown (Some c) is at = by_error bad e c thrown is at (is_error t h) refl

  pub by_way : IsWell → IsBad → P (steps.returned false s y) (returned Fitting p (way t h w.pending) h below w)
  by_way well bad = by_pending well bad w.pending refl s.pending refl world.pending

-- ---- to the caller
module _ (p : Program) (code : Code) (heads : HasHeads p code) (formed : WellFormed code) (x : Reg) (f : Frame) (k : Waiting) (ks : List Waiting) (w : World) (s : MachineState) (fr : machines.Frame) (frs : List machines.Frame) (a : RunsIn p f w s) (under : s.below ≡ fr ∷ frs) (b : WaitsIn p a.func.ret s.top.into k fr s) where
  abbrev R : Next → Config → Type 0
  R n c = ReturnDoes p b.func.regs k ks fr frs s c n

  sticks : (n : Next) (c : Config) → c ≡ Stuck → R n c
  sticks n c e = subst (R n) (sym e) (return_sticks n)

  target : (d : List ℕ × RType) × (slice_get b.func.regs k.into.0 ≡ Some d) × (d.1 ≡ a.func.ret)
  target = is_declared (slice_get b.func.regs k.into.0) a.func.ret b.target

  into_type : type_of_reg (registers_of p k.frame.fn) k.into ≡ Some a.func.ret
  into_type = type_here p k.frame.fn b.func b.there k.into target.0 target.1 ∙ ap Some target.2

  -- the caller's state
  abbrev u : Word → MachineState
  u y = record s { top = record fr { vars = slice_set fr.vars k.into.0 y; ledger = more_of (refs_of y) fr.ledger }; below = frs }

  back_text : (t : RType) (h : Held) (y : Word) → Fits s t h y → if_return false s y s.below (λ n. if_result false s y (λ l. if_none_left false s l n)) ≡ Goes (u y)
  back_text t h y fits =
      let to : Option ℕ → Next = λ o. Goes (with_target o y (record s { top = record fr { ledger = more_of (refs_of y) fr.ledger }; below = frs })) in
      ap (λ z. if_return false s y z (λ n. if_result false s y (λ l. if_none_left false s l n))) under
      ∙ (result_is s t h y fits (to s.top.into) ∙ ap to b.into_is)

  back : (h : Held) (y : Word) → Fits s a.func.ret h y → GoesBack p b.func.regs fr frs s (put k.frame.regs k.into.0 h) w (u y)
  back h y fits =
      let g = same_grows s (u y) refl refl in
      let same : (d : List ℕ × RType) → slice_get b.func.regs k.into.0 ≡ Some d → a.func.ret ≡ d.1 = λ d e. let both : Some target.0 ≡ Some d = sym target.1 ∙ e in let one : target.0 ≡ d = cc in sym target.2 ∙ ap (λ (z : List ℕ × RType). z.1) one in
      record {
        func = refl;
        place = refl;
        into = refl;
        below = refl;
        grows = g;
        registers = put_fits (u y) b.func.regs k.frame.regs fr.vars (regs_grow s (u y) g b.func.regs k.frame.regs fr.vars b.regs) k.into.0 h y (slice_get_within b.func.regs k.into.0 target.0 target.1) (λ d e. subst (λ z. Fits (u y) z h y) (same d e) (fits_grow s (u y) g a.func.ret h y fits));
        world = world_keeps s (u y) (same_keeps s (u y) refl) p w refl refl refl refl refl refl a.world;
      }

  failed_does : (e : Edge) (h : Held) (y : Word) → Fits s a.func.ret h y → R (Goes (u y)) (failed Fitting p e (next k.frame (put k.frame.regs k.into.0 h)) ks w)
  failed_does e h y fits = by e
    where
      on : R (Goes (u y)) (Runs (next k.frame (put k.frame.regs k.into.0 h)) ks w)
      on = return_goes (put k.frame.regs k.into.0 h) w (u y) (back h y fits)

      seen : (c : Bool) → R (Goes (u y)) (cond c (Runs (next k.frame (put k.frame.regs k.into.0 h)) ks w) Stuck)
      seen true = on
      seen false = return_sticks _

      by : (z : Edge) → R (Goes (u y)) (failed Fitting p z (next k.frame (put k.frame.regs k.into.0 h)) ks w)
      by NoEdge = return_sticks _
      by (Tests r) = seen (is_edge (item_at p k.frame.fn) (Tests r) (item_at p k.frame.fn k.frame.block (k.frame.place + 1)))
      by (TestsTwice r) = seen (is_edge (item_at p k.frame.fn) (TestsTwice r) (item_at p k.frame.fn k.frame.block (k.frame.place + 1)))
      by Jumps = seen (is_edge (item_at p k.frame.fn) Jumps (item_at p k.frame.fn k.frame.block (k.frame.place + 1)))

  both : (n m : Next) (c d : Config) → n ≡ m → c ≡ d → R m d → R n c
  both n m c d e g z = subst (λ x. R x c) (sym e) (subst (R m) (sym g) z)

  well : (h : Held) (y : Word) (fits : Fits s a.func.ret h y) → IsWell p s w a.world (k ∷ ks) R sticks a.func.ret h y fits
  well h y fits v is calm quiet =
      both _ (Goes (u y)) _ (Runs (next k.frame (put k.frame.regs k.into.0 h)) ks w) (back_text a.func.ret h y fits) (ap (λ z. meaning.if_some z (λ t. goes k.frame ks (put k.frame.regs k.into.0 h) w)) into_type) (return_goes (put k.frame.regs k.into.0 h) w (u y) (back h y fits))

  bad : (h : Held) (y : Word) (fits : Fits s a.func.ret h y) → IsBad p s w a.world (k ∷ ks) R sticks a.func.ret h y fits
  bad h y fits e c thrown at live wrong =
      let edge : Edge = edge_of_call (registers_of p k.frame.fn) k.into in
      let does : returned Fitting p Badly h (k ∷ ks) w ≡ failed Fitting p edge (next k.frame (put k.frame.regs k.into.0 h)) ks w =
      ap (λ z. meaning.if_some z (λ t. failed Fitting p edge (next k.frame (put k.frame.regs k.into.0 (error_of t))) ks w)) into_type
      ∙ ap (λ z. failed Fitting p edge (next k.frame (put k.frame.regs k.into.0 z)) ks w) (sym (error_held s a.func.ret h y fits wrong)) in
      both _ (Goes (u y)) _ _ (back_text a.func.ret h y fits) does (failed_does edge h y fits)

  pub return_does : line_at code s.top ≡ Some (line.Return x.0) → R (step_at false code s (Some (line.Return x.0))) (do_last Fitting p (Return x) f (k ∷ ks) w)
  return_does is =
      let d = has_type a.func.regs x.0 a.func.ret (fits_here p code heads f w s a formed (line.Return x.0) is) in
      let old = a.regs.fit x.0 d.0 d.1 in
      let fits : Fits s a.func.ret (f.regs x.0) old.0 = subst (λ z. Fits s z (f.regs x.0) old.0) d.2 old.2 in
      both _ (steps.returned false s old.0) _ _ (ap (λ z. steps.if_some false s fault.Kind z (steps.returned false s)) old.1) (left_by p x f w s a (k ∷ ks) d.0 d.1) (by_way p s w a.world (k ∷ ks) R sticks a.func.ret (f.regs x.0) old.0 fits (well (f.regs x.0) old.0 fits) (bad (f.regs x.0) old.0 fits))

pub returns_do : ReturnsDo
returns_do p code heads formed x f k ks w s fr frs a under b is =
    subst (λ l. ReturnDoes p b.func.regs k ks fr frs s (do_last Fitting p (Return x) f (k ∷ ks) w) (step_at false code s l)) (sym is) (return_does p code heads formed x f k ks w s fr frs a under b is)

-- ---- out of the module
module _ (p : Program) (code : Code) (heads : HasHeads p code) (formed : WellFormed code) (x : Reg) (f : Frame) (w : World) (s : MachineState) (a : RunsIn p f w s) (own : f.fn ≡ length p.funcs - 1) (under : s.below ≡ []) where
  abbrev E : Next → Config → Type 0
  E n c = EndDoes p s c n

  end_stuck : (n : Next) (c : Config) → c ≡ Stuck → E n c
  end_stuck n c e = subst (E n) (sym e) (end_sticks n)

  to_end : (n m : Next) (c d : Config) → n ≡ m → c ≡ d → E m d → E n c
  to_end n m c d e g z = subst (λ x. E x c) (sym e) (subst (E m) (sym g) z)

  answers_truth : a.func.ret ≡ BoolType
  answers_truth =
      let inside = slice_get_within p.funcs f.fn a.func a.there in
      last_answers p code heads formed f.fn a.func a.there (omega (arith, inside, own))

  abbrev end_of : Word → Next
  end_of y = if_return false s y s.below (λ n. if_result false s y (λ l. if_none_left false s l n))

  ends_by : (t : RType) → t ≡ BoolType → (h : Held) (y : Word) → Fits s t h y → w.pending ≡ None → s.pending ≡ None → E (end_of y) (ended_well h w)
  ends_by t e h y tagged_error calm quiet = end_stuck _ _ refl
  ends_by t e h y (short n) calm quiet = end_stuck _ _ refl
  ends_by t e h y (big n c live) calm quiet = end_stuck _ _ refl
  ends_by t e h y (native n) calm quiet = end_stuck _ _ refl
  ends_by t e h y char_error calm quiet = end_stuck _ _ refl
  ends_by t e h y char_true calm quiet =
      let last : Next = Ends (steps.Ended Done) s in
      to_end _ last _ _
      (ap (λ z. if_return false s (CharWord 1) z (λ n. if_result false s (CharWord 1) (λ l. if_none_left false s l n))) under
      ∙ (ap (λ z. if_ended false s (CharWord 1) z (λ x. if_none_left false s s.top.ledger (Ends (steps.Ended x) s))) quiet ∙ none_left s s.top.ledger last))
      refl
      (end_is Done w a.world calm)
  ends_by t e h y char_false calm quiet = end_stuck _ _ refl
  ends_by t e h y no_object calm quiet = end_stuck _ _ refl
  ends_by t e h y (boxed v z m) calm quiet = absurd (cc)

  raises_by : (t : RType) → t ≡ BoolType → (h : Held) (y : Word) → Fits s t h y → (e : Thrown) (c : ℕ) → w.pending ≡ Some e → s.pending ≡ Some c → content_at s.cells c ≡ Some (ExcCell e) → is_error t h ≡ true → E (end_of y) (raised_by w.pending w)
  raises_by t i h y tagged_error e c thrown at live wrong = absurd (cc)
  raises_by t i h y (short n) e c thrown at live wrong = absurd (cc)
  raises_by t i h y (big n k l) e c thrown at live wrong = absurd (cc)
  raises_by t i h y (native n) e c thrown at live wrong = absurd (cc)
  raises_by t i h y char_error e c thrown at live wrong =
      let last : Next = Ends (steps.Ended (Raised e)) s in
      to_end _ last _ _
      (ap (λ z. if_return false s (CharWord 2) z (λ n. if_result false s (CharWord 2) (λ l. if_none_left false s l n))) under
      ∙ (ap (λ z. if_ended false s (CharWord 2) z (λ x. if_none_left false s s.top.ledger (Ends (steps.Ended x) s))) at
      ∙ (ap (λ z. steps.if_some false s fault.Dead z (λ content. if_thrown false s content (λ x. if_none_left false s s.top.ledger (Ends (steps.Ended x) s)))) live ∙ none_left s s.top.ledger last)))
      (ap (λ o. raised_by o w) thrown)
      (end_is (Raised e) w a.world thrown)
  raises_by t i h y char_true e c thrown at live wrong = absurd (cc)
  raises_by t i h y char_false e c thrown at live wrong = absurd (cc)
  raises_by t i h y no_object e c thrown at live wrong = absurd (cc)
  raises_by t i h y (boxed v z m) e c thrown at live wrong = absurd (cc)

  pub end_does : line_at code s.top ≡ Some (line.Return x.0) → E (step_at false code s (Some (line.Return x.0))) (do_last Fitting p (Return x) f [] w)
  end_does is =
      let d = has_type a.func.regs x.0 a.func.ret (fits_here p code heads f w s a formed (line.Return x.0) is) in
      let old = a.regs.fit x.0 d.0 d.1 in
      let t : RType = a.func.ret in
      let h : Held = f.regs x.0 in
      let fits : Fits s t h old.0 = subst (λ z. Fits s z h old.0) d.2 old.2 in
      to_end _ (steps.returned false s old.0) _ _ (ap (λ z. steps.if_some false s fault.Kind z (steps.returned false s)) old.1) (left_by p x f w s a [] d.0 d.1) (by_way p s w a.world [] E end_stuck t h old.0 fits (λ v same calm quiet. ends_by t answers_truth h old.0 fits calm quiet) (λ e c thrown at live wrong. raises_by t answers_truth h old.0 fits e c thrown at live wrong))

pub ends_do : EndsDo
ends_do p code heads formed x f w s a own under is =
    subst (λ l. EndDoes p s (do_last Fitting p (Return x) f [] w) (step_at false code s l)) (sym is) (end_does p code heads formed x f w s a own under is)
