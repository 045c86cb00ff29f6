-- What lines and primitives read and write, at the runner's states.
use Rattle.std.proofs.Common.{◌≡◌, sym, ap, ◌∙◌, ℕ, ◌+◌, arith, Bool, true, false, cond, eqb, List, [], ◌∷◌, ◌++◌, length, append_assoc, Option, Some, None, Ok, Err}
use Rattle.std.specs.Prelude.{slice_get, slice_set, Result, IfOk}
use Rattle.std.specs.Option.{option_map, option_and_then}
use Rattle.std.proofs.lemmas.List.{map-set}
use Rattle.std.proofs.lemmas.Option.{slice_get-map}
use Rattle.std.proofs.lemmas.Bool.Decides.{nat_tests}
use Rattle.c_core.specs.declared.code.CArg.{CArg}
use Rattle.c_core.specs.declared.code.CArg.TheVariants as arg
use Rattle.c_core.specs.declared.code.Kind.{Kind}
use Rattle.c_core.specs.declared.code.CLit.{CLit}
use Rattle.c_core.specs.declared.fault.Fault.TheVariants as fault
use Rattle.c_core.specs.declared.primitive.Primitive.TheVariants.{Io}
use Rattle.c_core.specs.declared.primitive.IoPrim.TheVariants.{Write}
use Rattle.c_core.specs.declared.code.Code.{Code}
use Rattle.c_core.specs.Arguments.{Cell, is_holding}
use Rattle.c_core.specs.Cells.{Cells, content_at, make}
use Rattle.c_core.specs.Ledgers.{more}
use Rattle.c_core.specs.Machine as machine
use Rattle.c_core.specs.Machine.{MachineState, StrCell, refs_in, noted}
use Rattle.c_core.specs.Primitives.{AText}
use Rattle.c_core.specs.Step as step
use Rattle.c_core.specs.Step.{Next, Goes, Makes, word_of, if_some, literal_word, with_var, next_line, applied, primitive_step, faulted}
use Rattle.c_core.proofs.ReleaseLemmas.{release-nothing}
use Rattle.c_runner_deeds.specs.declared.ending.Ending.{Ending}
use Rattle.c_runner_deeds.specs.declared.state.Frame.{Frame}
use Rattle.c_runner_deeds.specs.States.{Seen, Rest, state_of, with_target, Follows}
use Rattle.slot_arena.specs.declared.key.Key.{Key}
use Rattle.cell_heap.specs.declared.word.Word.{Word}
use Rattle.cell_heap.specs.declared.word.Word.TheVariants as heap
use Rattle.cell_heap.specs.Contents as contents
use Rattle.cell_heap.specs.Contents.{number_of}
use Rattle.c_runner_deeds.specs.Parts.{written, is_there}
use Rattle.c_runner_deeds.proofs.FrameLemmas.{there, target_set}

module _ (rest : Rest) (old : Seen) where
  abbrev s : MachineState
  s = state_of rest old

  -- a variable is read
  var_is : (x : ℕ) (o : Option Word) → slice_get old.top.vars x ≡ o → slice_get s.top.vars x ≡ option_map contents.word_of o
  var_is x o e = slice_get-map contents.word_of old.top.vars x ∙ ap (option_map contents.word_of) e

  pub word_at : (x : ℕ) (w : Word) (go : machine.Word → Next) → slice_get old.top.vars x ≡ Some w → word_of true s x go ≡ go (contents.word_of w)
  word_at x w go e = ap (λ o. if_some true s fault.Kind o go) (var_is x (Some w) e)

  -- a frame, which goes on to the next line
  abbrev pub onwards : Frame → Seen
  onwards top = record old { top = record top { place = top.place + 1 } }

  -- a variable is written
  set_is : (x : ℕ) (w : Word) → next_line (with_var x (contents.word_of w) s) ≡ state_of rest (onwards (record old.top { vars = slice_set old.top.vars x w }))
  set_is x w =
      let with : List machine.Word → MachineState = λ v. record s { top = record s.top { place = s.top.place + 1; vars = v } } in
      ap with (sym (map-set contents.word_of old.top.vars x w))

  pub assigned : (kind : Option Kind) (k : Kind) (literal : CLit) (x : ℕ) (w : Word) (top : Frame) → kind ≡ Some k → Some (contents.word_of w) ≡ literal_word k literal → top ≡ record old.top { vars = slice_set old.top.vars x w } → if_some true s fault.Kind (option_and_then (λ j. literal_word j literal) kind) (λ v. Goes (next_line (with_var x v s))) ≡ Goes (state_of rest (onwards top))
  assigned kind k literal x w top e f g =
      ap (λ o. if_some true s fault.Kind (option_and_then (λ j. literal_word j literal) o) (λ v. Goes (next_line (with_var x v s)))) e
      ∙ ap (λ o. if_some true s fault.Kind o (λ v. Goes (next_line (with_var x v s)))) (sym f)
      ∙ ap Goes (set_is x w ∙ ap (λ t. state_of rest (onwards t)) (sym g))

  -- an answer goes to its target
  pub answered : (target : Option ℕ) (o : Option Word) (w : Word) (top : Frame) → o ≡ Some w → top ≡ with_target target w old.top → if_some true s fault.Kind (option_map contents.word_of o) (λ v. Goes (next_line (step.with_target target v s))) ≡ Goes (state_of rest (onwards top))
  answered target o w top e f =
      ap (λ p. if_some true s fault.Kind (option_map contents.word_of p) (λ v. Goes (next_line (step.with_target target v s)))) e
      ∙ ap (λ t. Goes (next_line t)) (target_set rest old target w)
      ∙ ap (λ t. Goes (state_of rest (onwards t))) (sym f)

  -- the word of a variable is copied
  pub copied : (x y : ℕ) (w : Word) (top : Frame) → slice_get old.top.vars y ≡ Some w → is_there old.cells (contents.word_of w) ≡ true → top ≡ record old.top { vars = slice_set old.top.vars x w } → word_of true s y (λ v. step.if_there true s v (λ a. Goes (next_line (with_var x v s)))) ≡ Goes (state_of rest (onwards top))
  copied x y w top e f g =
      word_at y w _ e
      ∙ there s (contents.word_of w) (Goes (next_line (with_var x (contents.word_of w) s))) f
      ∙ ap Goes (set_is x w ∙ ap (λ t. state_of rest (onwards t)) (sym g))

  -- a text is written
  pub text_written : (code : Code) (target : Option ℕ) (x : ℕ) (key : Key) (text output : List ℕ) (is_alone : Bool) → slice_get old.top.vars x ≡ Some (heap.Cell key) → content_at old.cells (number_of key) ≡ Some (StrCell text) → is_alone ≡ true → output ≡ old.output ++ text → written code target x is_alone s ≡ Goes (state_of rest (record (onwards old.top) { output = output }))
  text_written code target x key text output is_alone e f g h =
      let c = number_of key in
      word_at x (heap.Cell key) _ e
      ∙ ap (λ o. if_some true s fault.Dead o (λ content. step.if_true true s (is_holding AText (Cell c content)) (cond is_alone (applied true s target s.top.ledger [] (step.effect code s (Io Write) (Cell c content ∷ []))) (step.faulted true s fault.Kind)))) f
      ∙ ap (λ b. cond b (applied true s target s.top.ledger [] (step.Writes text)) (step.faulted true s fault.Kind)) g
      ∙ ap (λ cells. Goes (next_line (record s { cells = cells; output = s.output ++ text }))) (release-nothing refs_in s.cells)
      ∙ ap (λ out. Goes (next_line (record s { output = out }))) (append_assoc rest.handed old.output text ∙ ap (λ t. rest.handed ++ t) (sym h))

-- a cell is made, which the frame owns and the target refers to; where it is an object it is noted
pub cell_made : (rest : Rest) (old : Seen) (target : Option ℕ) (content : machine.Content) (key : Key) (number : ℕ) (cells : Cells machine.Content) (ledger : List ℕ) (top : Frame) → number ≡ number_of key → number_of key ≡ length old.cells → cells ≡ make content old.cells → ledger ≡ more number old.top.ledger → top ≡ with_target target (heap.Cell key) (record old.top { ledger = ledger }) → applied true (state_of rest old) target old.top.ledger [] (Makes content) ≡ Goes (state_of (record rest { made = noted content (length old.cells) rest.made }) (record old { cells = cells; top = record top { place = top.place + 1 } }))
cell_made rest old None content key number cells ledger top n k c l t =
    let after : Seen → Next = λ r. Goes (state_of (record rest { made = noted content (length old.cells) rest.made }) r) in
    sym (ap (λ f. after (record old { cells = cells; top = record f { place = f.place + 1 } })) t ∙ ap (λ h. after (record old { cells = h; top = record old.top { place = old.top.place + 1; ledger = ledger } })) c ∙ ap (λ d. after (record old { cells = make content old.cells; top = record old.top { place = old.top.place + 1; ledger = d } })) (l ∙ ap (λ m. more m old.top.ledger) (n ∙ k)))
cell_made rest old (Some x) content key number cells ledger top n k c l t =
    let made : Seen = record old { cells = make content old.cells; top = record old.top { ledger = more (length old.cells) old.top.ledger } } in
    let later : Rest = record rest { made = noted content (length old.cells) rest.made } in
    let after : Seen → Next = λ r. Goes (state_of later r) in
    ap (λ m. Goes (next_line (with_var x (machine.ObjectCell m) (state_of later made)))) (sym k)
    ∙ ap Goes (set_is later made x (heap.Cell key))
    ∙ sym (ap (λ f. after (record old { cells = cells; top = record f { place = f.place + 1 } })) t
    ∙ ap (λ h. after (record old { cells = h; top = record old.top { place = old.top.place + 1; ledger = ledger; vars = slice_set old.top.vars x (heap.Cell key) } })) c
    ∙ ap (λ d. after (record old { cells = make content old.cells; top = record old.top { place = old.top.place + 1; ledger = d; vars = slice_set old.top.vars x (heap.Cell key) } })) (l ∙ ap (λ m. more m old.top.ledger) (n ∙ k)))

-- ---- the arguments of a write
call_is : (code : Code) (s : MachineState) (target : Option ℕ) (args : List CArg) (x : ℕ) (alone : Bool) → slice_get args 0 ≡ Some (arg.Var x) → alone ≡ eqb (length args) 1 → primitive_step true s code target args (Io Write) ≡ written code target x alone s
call_is code s target [] x alone e is = absurd (cc)
call_is code s target (a ∷ []) x alone e is =
    let first : a ≡ arg.Var x = cc in
    let yes : alone ≡ true = is ∙ grind (arith, nat_tests) in
    ap (λ b. primitive_step true s code target (b ∷ []) (Io Write)) first ∙ ap (λ b. written code target x b s) (sym yes)
call_is code s target (a ∷ b ∷ more) x alone e is =
    let first : a ≡ arg.Var x = cc in
    let no : alone ≡ false = is ∙ grind (arith, nat_tests) in
    ap (λ d. primitive_step true s code target (d ∷ b ∷ more) (Io Write)) first ∙ ap (λ d. written code target x d s) (sym no)

pub call_writes : {E : Type 0} (args : List CArg) (x : ℕ) (alone : Bool) (old new : Seen) (r : Result (Option Ending) E) → slice_get args 0 ≡ Some (arg.Var x) → alone ≡ eqb (length args) 1 → IfOk r (λ ending. (code : Code) (target : Option ℕ) → Follows (written code target x alone) ending old new) → IfOk r (λ ending. (code : Code) (target : Option ℕ) → Follows (λ s. primitive_step true s code target args (Io Write)) ending old new)
call_writes args x alone old new (Ok ending) f g h = λ code target rest. call_is code (state_of rest old) target args x alone f g ∙ h code target rest
call_writes args x alone old new (Err e) f g h = tt
