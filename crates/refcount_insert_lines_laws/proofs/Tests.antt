-- A test at the end of a block takes the same branch in C text, and a count only goes to the next line.
use Rattle.std.proofs.Common.{◌≡◌, refl, sym, ◌∙◌, ap, subst, ℕ, ◌+◌, Bool, true, false, cond, List, Option, Some, None, ◌⊎◌, ⊎_elim}
use Rattle.std.specs.Prelude.{slice_get}
use Rattle.std.specs.Option.{option_map}
use Rattle.c_core.specs.declared.code.Code.{Code}
use Rattle.c_core.specs.declared.code.Line.{Line}
use Rattle.c_core.specs.declared.code.Line.TheVariants as line
use Rattle.c_core.specs.declared.fault.Fault.TheVariants as fault
use Rattle.c_core.specs.Ledgers.{without}
use Rattle.c_core.specs.Machine.{Word, Content, MachineState}
use Rattle.c_core.specs.Stands.{IsLive}
use Rattle.c_core.specs.Step.{Next, Goes, next_line, with_ledger, took, line_at, label_at, equals_error, jumped, step_at, unchecked_step}
use Rattle.c_core.specs.Step as steps
use Rattle.ir_core.specs.declared.code.RType.{RType}
use Rattle.ir_core.specs.declared.code.RType.TheVariants.{Int, Ref}
use Rattle.ir_core.specs.declared.code.Reg.{Reg}
use Rattle.ir_core.specs.declared.code.Last.TheVariants.{If, IfError}
use Rattle.ir_core.specs.declared.code.Program.{Program}
use Rattle.ir_core.specs.Registers.{Held, is_unset, is_error}
use Rattle.ir_core.specs.Rows.{type_of_reg}
use Rattle.ir_core.specs.Effects.{World}
use Rattle.ir_core.specs.Meaning.{Frame, Waiting, Config, Stuck, Fitting, to_block, registers_of, do_last}
use Rattle.ir_core.specs.Meaning as meaning
use Rattle.refcount_insert_lines_laws.specs.Matching.{Fits, tagged_error, short, big, native, char_error, char_true, char_false, no_object, boxed, Keeps, RunsIn}
use Rattle.refcount_insert_lines_laws.specs.Lines.{TestDoes, test_sticks, first_taken, second_taken, IfsDo, IfErrorsDo, Passes, HasCells, CountsDo}
use Rattle.refcount_insert_lines_laws.proofs.Growing.{same_keeps, take_keeps}
use Rattle.refcount_insert_lines_laws.proofs.Words.{ObjectWord, word_none, word_true, word_false, word_cell, boxed_word, same_error}
use Rattle.refcount_insert_lines_laws.proofs.Facts.{is_declared, registers_here, type_here}

-- ---- tests
module _ (p : Program) (code : Code) (x : Reg) (a b n m : ℕ) (f : Frame) (below : List Waiting) (w : World) (s : MachineState) (r : RunsIn p f w s) where
  abbrev T : Next → Config → Type 0
  T k c = TestDoes code f below w s a b n m c k

  sticks : (k : Next) (c : Config) → c ≡ Stuck → T k c
  sticks k c e = subst (T k) (sym e) (test_sticks k)

  by_both : (k l : Next) (c d : Config) → k ≡ l → c ≡ d → T l d → T k c
  by_both k l c d e g h = subst (λ z. T z c) (sym e) (subst (T l) (sym g) h)

  -- a register that is not declared is not tested
  no_type : slice_get r.func.regs x.0 ≡ None → type_of_reg (registers_of p f.fn) x ≡ None
  no_type e =
      ap (λ z. type_of_reg z x) (registers_here p f.fn r.func r.there) ∙ ap (option_map (λ (z : List ℕ × RType). z.1)) e

  chosen_by : (t : RType) (h : Held) (z : Word) → Fits s t h z → T (steps.chosen false s (label_at code s.top n) (label_at code s.top m) z) (meaning.chosen t h (to_block f a below w) (to_block f b below w))
  chosen_by t h z tagged_error = test_sticks _
  chosen_by t h z (short k) = test_sticks _
  chosen_by t h z (big k c live) = test_sticks _
  chosen_by t h z (native k) = test_sticks _
  chosen_by t h z char_error = test_sticks _
  chosen_by t h z char_true = first_taken
  chosen_by t h z char_false = second_taken
  chosen_by t h z no_object = test_sticks _
  chosen_by t h z (boxed v y m) = test_sticks _

  if_by : (o : Option (List ℕ × RType)) → slice_get r.func.regs x.0 ≡ o → T (step_at false code s (Some (line.If x.0 n m))) (do_last Fitting p (If x a b) f below w)
  if_by None e =
      sticks _ _ (ap (λ z. meaning.if_some z (λ t. meaning.chosen t (f.regs x.0) (to_block f a below w) (to_block f b below w))) (no_type e))
  if_by (Some d) e =
      let old = r.regs.fit x.0 d e in
      by_both _ _ _ _
      (ap (λ z. steps.if_some false s fault.Kind z (steps.chosen false s (label_at code s.top n) (label_at code s.top m))) old.1)
      (ap (λ z. meaning.if_some z (λ t. meaning.chosen t (f.regs x.0) (to_block f a below w) (to_block f b below w))) (type_here p f.fn r.func r.there x d e))
      (chosen_by d.1 (f.regs x.0) old.0 old.2)

  by_error : (c : Bool) → T (jumped false s (label_at code s.top (cond c n m))) (cond c (to_block f a below w) (to_block f b below w))
  by_error true = first_taken
  by_error false = second_taken

  error_by : (source : ℕ) (o : Option (List ℕ × RType)) → slice_get r.func.regs x.0 ≡ o → T (step_at false code s (Some (line.IfError x.0 n m))) (do_last Fitting p (IfError x a b source) f below w)
  error_by source None e =
      sticks _ _ (ap (λ z. meaning.if_some z (λ t. cond (is_error t (f.regs x.0)) (to_block f a below w) (to_block f b below w))) (no_type e))
  error_by source (Some d) e =
      let old = r.regs.fit x.0 d e in
      by_both _ _ _ _
      (ap (λ z. steps.if_some false s fault.Kind z (λ u. jumped false s (label_at code s.top (cond (equals_error u) n m)))) old.1
      ∙ ap (λ c. jumped false s (label_at code s.top (cond c n m))) (same_error s d.1 (f.regs x.0) old.0 old.2))
      (ap (λ z. meaning.if_some z (λ t. cond (is_error t (f.regs x.0)) (to_block f a below w) (to_block f b below w))) (type_here p f.fn r.func r.there x d e))
      (by_error (is_error d.1 (f.regs x.0)))

pub ifs_do : IfsDo
ifs_do p code heads formed x a b n m f below w s r is =
    subst (λ l. TestDoes code f below w s a b n m (do_last Fitting p (If x a b) f below w) (step_at false code s l)) (sym is) (if_by p code x a b n m f below w s r (slice_get r.func.regs x.0) refl)

pub if_errors_do : IfErrorsDo
if_errors_do p code heads formed x a b source n m f below w s r is =
    subst (λ l. TestDoes code f below w s a b n m (do_last Fitting p (IfError x a b source) f below w) (step_at false code s l)) (sym is) (error_by p code x a b n m f below w s r source (slice_get r.func.regs x.0) refl)

-- ---- counts
module _ (s : MachineState) where
  abbrev Passed : Next → Type 0
  Passed k = (t : MachineState) × Passes s k t

  -- with other cells and another ledger the next line comes
  passes : (k : Next) (t : MachineState) → k ≡ Goes (next_line t) → t.top ≡ record s.top { ledger = t.top.ledger } → t ≡ record s { top = t.top; cells = t.cells } → Keeps s t → Passed k
  passes k t e top rest keeps = (
    next_line t,
    record {
      goes = e;
      func = ap (λ z. z.func) top;
      place = ap (λ z. z.place + 1) top;
      into = ap (λ z. z.into) top;
      vars = ap (λ z. z.vars) top;
      below = ap (λ z. z.below) rest;
      output = ap (λ z. z.output) rest;
      turns = ap (λ z. z.turns) rest;
      items = ap (λ z. z.items) rest;
      made = ap (λ z. z.made) rest;
      globals = ap (λ z. z.globals) rest;
      pending = ap (λ z. z.pending) rest;
      keeps = record { contents = keeps.contents };
    },
  )

  stays : (k : Next) → k ≡ Goes (next_line s) → Passed k
  stays k e = passes k s e refl refl (same_keeps s s refl)

  takes : (c : ℕ) (v : Content) → IsLive s c v → Passed (steps.taken false s c)
  takes c v live =
      passes _ (took c s) (ap (λ o. steps.if_some false s fault.Dead o (λ content. Goes (next_line (took c s)))) live) refl refl (take_keeps s (took c s) c refl)

  gives_up : (c : ℕ) (v : Content) → IsLive s c v → Passed (steps.given_up false s c)
  gives_up c v live =
      let t : MachineState = with_ledger (without c s.top.ledger) s in
      passes _ t (ap (λ o. steps.if_some false s fault.Dead o (λ content. Goes (next_line t))) live) refl refl (same_keeps s t refl)

  word_increments : (y : Word) → ObjectWord s y → Passed (steps.incremented false s y)
  word_increments y word_none = stays _ refl
  word_increments y word_true = stays _ refl
  word_increments y word_false = stays _ refl
  word_increments y (word_cell c x live) = takes c _ live

  word_decrements : (y : Word) → ObjectWord s y → Passed (steps.decremented false s y)
  word_decrements y word_none = stays _ refl
  word_decrements y word_true = stays _ refl
  word_decrements y word_false = stays _ refl
  word_decrements y (word_cell c x live) = gives_up c _ live

  word_decrements_if_set : (y : Word) → ObjectWord s y → Passed (steps.decremented_if_set false s y)
  word_decrements_if_set y word_none = stays _ refl
  word_decrements_if_set y word_true = stays _ refl
  word_decrements_if_set y word_false = stays _ refl
  word_decrements_if_set y (word_cell c x live) = gives_up c _ live

  increments : (t : RType) → (t ≡ Int) ⊎ (t ≡ Ref) → (h : Held) → is_unset h ≡ false → (y : Word) → Fits s t h y → Passed (steps.incremented false s y)
  increments t counted h set y tagged_error = absurd (cc)
  increments t counted h set y (short n) = stays _ refl
  increments t counted h set y (big n c live) = takes c _ live
  increments t counted h set y (native n) = absurd (⊎_elim (λ e. cc) (λ e. cc) counted)
  increments t counted h set y char_error = absurd (cc)
  increments t counted h set y char_true = absurd (⊎_elim (λ e. cc) (λ e. cc) counted)
  increments t counted h set y char_false = absurd (⊎_elim (λ e. cc) (λ e. cc) counted)
  increments t counted h set y no_object = absurd (cc)
  increments t counted h set y (boxed v z m) = word_increments z (boxed_word s v z m)

  decrements : (t : RType) → (t ≡ Int) ⊎ (t ≡ Ref) → (h : Held) → is_unset h ≡ false → (y : Word) → Fits s t h y → Passed (steps.decremented false s y)
  decrements t counted h set y tagged_error = absurd (cc)
  decrements t counted h set y (short n) = stays _ refl
  decrements t counted h set y (big n c live) = gives_up c _ live
  decrements t counted h set y (native n) = absurd (⊎_elim (λ e. cc) (λ e. cc) counted)
  decrements t counted h set y char_error = absurd (cc)
  decrements t counted h set y char_true = absurd (⊎_elim (λ e. cc) (λ e. cc) counted)
  decrements t counted h set y char_false = absurd (⊎_elim (λ e. cc) (λ e. cc) counted)
  decrements t counted h set y no_object = absurd (cc)
  decrements t counted h set y (boxed v z m) = word_decrements z (boxed_word s v z m)

  decrements_if_set : (t : RType) → (t ≡ Int) ⊎ (t ≡ Ref) → (h : Held) (y : Word) → Fits s t h y → Passed (steps.decremented_if_set false s y)
  decrements_if_set t counted h y tagged_error = stays _ refl
  decrements_if_set t counted h y (short n) = stays _ refl
  decrements_if_set t counted h y (big n c live) = gives_up c _ live
  decrements_if_set t counted h y (native n) = absurd (⊎_elim (λ e. cc) (λ e. cc) counted)
  decrements_if_set t counted h y char_error = absurd (⊎_elim (λ e. cc) (λ e. cc) counted)
  decrements_if_set t counted h y char_true = absurd (⊎_elim (λ e. cc) (λ e. cc) counted)
  decrements_if_set t counted h y char_false = absurd (⊎_elim (λ e. cc) (λ e. cc) counted)
  decrements_if_set t counted h y no_object = stays _ refl
  decrements_if_set t counted h y (boxed v z m) = word_decrements_if_set z (boxed_word s v z m)

module _ (p : Program) (code : Code) (f : Frame) (w : World) (s : MachineState) (a : RunsIn p f w s) (r : ℕ) (cells : HasCells a.func.regs r) where
  counted : (t : RType) × (y : Word) × (slice_get s.top.vars r ≡ Some y) × Fits s t (f.regs r) y × ((t ≡ Int) ⊎ (t ≡ Ref))
  counted =
      let d = is_declared (slice_get a.func.regs r) cells.0 cells.1 in
      let old = a.regs.fit r d.0 d.1 in
      (cells.0, old.0, old.1, subst (λ t. Fits s t (f.regs r) old.0) d.2 old.2, cells.2)

  counts : (l : Line) (go : Word → Next) → step_at false code s (Some l) ≡ steps.word_of false s r go → Passed s (go counted.1) → line_at code s.top ≡ Some l → Passed s (unchecked_step code s)
  counts l go e passed is =
      subst (Passed s) (sym (ap (step_at false code s) is ∙ (e ∙ ap (λ o. steps.if_some false s fault.Kind o go) counted.2))) passed

pub counts_do : CountsDo
counts_do p code f w s a r cells =
    let c = counted p code f w s a r cells in (
      λ is set. counts p code f w s a r cells (line.Inc r) (steps.incremented false s) refl (increments s c.0 c.4 (f.regs r) set c.1 c.3) is,
      (
        λ is set. counts p code f w s a r cells (line.Dec r) (steps.decremented false s) refl (decrements s c.0 c.4 (f.regs r) set c.1 c.3) is,
        λ is. counts p code f w s a r cells (line.XDec r) (steps.decremented_if_set false s) refl (decrements_if_set s c.0 c.4 (f.regs r) c.1 c.3) is,
      ),
    )
