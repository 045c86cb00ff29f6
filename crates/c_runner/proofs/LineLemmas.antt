-- Lines that are done at once.
use Rattle.std.proofs.Common.{◌≡◌, refl, sym, ap, subst, ◌∙◌, ℕ, zero, suc, ◌+◌, ◌^◌, ◌<◌, arith, Bool, true, false, cond, List, length, Option, Some, None, inl, inr}
use Rattle.std.proofs.lemmas.Option.{slice_get_within}
use Rattle.std.specs.Prelude.{◌⊎◌, ℤ, IfSome, map, slice_get}
use Rattle.std.specs.Option.{option_and_then, option_map}
use Rattle.c_core.specs.declared.code.CFunc.{CFunc}
use Rattle.c_core.specs.declared.code.CLit.{CLit}
use Rattle.c_core.specs.declared.code.Code.{Code}
use Rattle.c_core.specs.declared.code.Line.{Line}
use Rattle.c_core.specs.declared.code.Line.TheVariants.{Label, Move, Lit, Call, Virtual, TraitCall, Goto, If, IfError, Turn, Return, Inc, Dec, XDec}
use Rattle.c_core.specs.declared.fault.Fault.TheVariants as fault
use Rattle.c_core.specs.Functions.{label_places}
use Rattle.c_core.specs.Laws.{Reaches, Here, There}
use Rattle.c_core.specs.Machine as machine
use Rattle.c_core.specs.Machine.{MachineState, ShortInt, BigInt, TaggedError, Native, CharWord, ObjectCell, NoneObject, TrueObject, FalseObject, NoObject}
use Rattle.c_core.specs.Step as machine_step
use Rattle.c_core.specs.Step.{Next, Goes, at_place, chosen, decremented, decremented_if_set, incremented, equals_error, if_some, jumped, label_at, literal_word, next_line, step, step_at, with_var}
use Rattle.c_core.proofs.Lines.{label_is}
use Rattle.c_runner.specs.AtOnce.{Did, Done, Jumped, Wrote, Went, place_chosen, place_uncounted, place_behind}
use Rattle.c_runner_deeds.specs.declared.state.Frame.{Frame}
use Rattle.c_runner_deeds.specs.Parts.{is_there}
use Rattle.c_runner_deeds.specs.States.{Rest, state_of, with_target, Seen}
use Rattle.c_runner_deeds.proofs.FrameLemmas.{there, target_set}
use Rattle.c_runner_deeds.proofs.StateLemmas.{word_at}
use Rattle.c_runner_table.specs.declared.naming.Target.{Target}
use Rattle.c_runner_table.specs.Targets.{target_of}
use Rattle.cell_heap.specs.declared.word.Word.{Word}
use Rattle.cell_heap.specs.Contents.{word_of}

-- ---- a word that may be there
pub if_both : {A : Type 0} (o : Option A) (P Q R : A → Type 0) → ((a : A) → P a → Q a → R a) → IfSome o P → IfSome o Q → IfSome o R
if_both None P Q R f p q = tt
if_both (Some a) P Q R f p q = f a p q

pub if_is : {A : Type 0} (o : Option A) (P : A → Type 0) → ((a : A) → o ≡ Some a → P a) → IfSome o P
if_is None P f = tt
if_is (Some a) P f = f a refl

-- ---- what is done
pub done_as : (does to : MachineState → Next) (b : Bool) (old new : Seen) → ((rest : Rest) → to (state_of rest old) ≡ does (state_of rest old)) → Done does b old new → Done to b old new
done_as does to true old new e h = (λ rest. e rest ∙ h.0 rest, h.1, h.2)
done_as does to false old new e h = h

target_func : (x : Option ℕ) (w : Word) (f : Frame) → (with_target x w f).func ≡ f.func
target_func None w f = refl
target_func (Some x) w f = refl

module _ (does : MachineState → Next) (old new : Seen) (b : Bool) where
  pub wrote : (x : Option ℕ) (o : Option Word) → IfSome o (λ w. (rest : Rest) → does (state_of rest old) ≡ Goes (next_line (machine_step.with_target x (word_of w) (state_of rest old)))) → Wrote x o b old new → Done does b old new
  wrote x None says h = subst (λ d. Done does d old new) (sym h.0) h.1
  wrote x (Some w) says h =
      subst (λ d. Done does d old new) (sym h.0) (
        λ rest. says rest ∙ ap (λ t. Goes (next_line t)) (target_set rest old x w) ∙ ap (λ n. Goes (state_of rest n)) (sym h.1),
        ap (λ n. n.top.func) h.1 ∙ target_func x w old.top,
        ap (λ n. n.output) h.1,
      )

  pub went : (o : Option ℕ) → IfSome o (λ q. (rest : Rest) → does (state_of rest old) ≡ Goes (at_place q (state_of rest old))) → Went o b old new → Done does b old new
  went None says h = subst (λ d. Done does d old new) (sym h.0) h.1
  went (Some q) says h =
      subst (λ d. Done does d old new) (sym h.0) (
        λ rest. says rest ∙ ap (λ n. Goes (state_of rest n)) (sym h.1),
        ap (λ n. n.top.func) h.1,
        ap (λ n. n.output) h.1,
      )

-- ---- lines
module _ (code : Code) (g : CFunc) (old : Seen) (function : slice_get code.funcs old.top.func ≡ Some g) where
  -- the word of another variable, and that of a literal
  pub moves : (line : Line) (x y : ℕ) (w : Word) → line ≡ Move x y → slice_get old.top.vars y ≡ Some w → is_there old.cells (word_of w) ≡ true → (rest : Rest) → step_at true code (state_of rest old) (Some line) ≡ Goes (next_line (with_var x (word_of w) (state_of rest old)))
  moves line x y w is e f rest =
      ap (λ l. step_at true code (state_of rest old) (Some l)) is
      ∙ word_at rest old y w _ e
      ∙ there (state_of rest old) (word_of w) (Goes (next_line (with_var x (word_of w) (state_of rest old)))) f

  pub writes : (line : Line) (x : ℕ) (l : CLit) (o : Option Word) → line ≡ Lit x l → option_map word_of o ≡ option_and_then (λ k. literal_word k l) (option_map (λ v. v.1) (slice_get g.vars x)) → IfSome o (λ w. (rest : Rest) → step_at true code (state_of rest old) (Some line) ≡ Goes (next_line (with_var x (word_of w) (state_of rest old))))
  writes line x l None is e = tt
  writes line x l (Some w) is e = λ rest.
      let s = state_of rest old in
      ap (λ m. step_at true code s (Some m)) is
      ∙ ap (λ f. if_some true s fault.Kind (option_and_then (λ k. literal_word k l) (option_and_then (λ h. option_map (λ v. v.1) (slice_get h.vars x)) f)) (λ v. Goes (next_line (with_var x v s)))) function
      ∙ ap (λ f. if_some true s fault.Kind f (λ v. Goes (next_line (with_var x v s)))) (sym e)

  -- the place of a label
  module _ (rest : Rest) (q : ℕ) where
    abbrev s : MachineState
    s = state_of rest old

    place_is : (n : ℕ) (o : Option ℕ) → o ≡ slice_get (label_places g.lines) n → label_at code s.top n ≡ o
    place_is n o e = ap (option_and_then (λ h. slice_get (label_places h.lines) n)) function ∙ sym e

    jumps : (n : ℕ) (o : Option ℕ) → o ≡ slice_get (label_places g.lines) n → o ≡ Some q → jumped true s (label_at code s.top n) ≡ Goes (at_place q s)
    jumps n o is e = ap (jumped true s) (place_is n o is ∙ e)

    chooses : (n m : ℕ) (a b : Option ℕ) → a ≡ slice_get (label_places g.lines) n → b ≡ slice_get (label_places g.lines) m → (o : Option machine.Word) → option_and_then (place_chosen a b) o ≡ Some q → if_some true s fault.Kind o (chosen true s (label_at code s.top n) (label_at code s.top m)) ≡ Goes (at_place q s)
    chooses n m a b first second None e = absurd (cc)
    chooses n m a b first second (Some (CharWord zero)) e = jumps m b second e
    chooses n m a b first second (Some (CharWord (suc zero))) e = jumps n a first e
    chooses n m a b first second (Some (CharWord (suc (suc k)))) e = absurd (cc)
    chooses n m a b first second (Some (ShortInt i)) e = absurd (cc)
    chooses n m a b first second (Some (BigInt c)) e = absurd (cc)
    chooses n m a b first second (Some TaggedError) e = absurd (cc)
    chooses n m a b first second (Some (Native i)) e = absurd (cc)
    chooses n m a b first second (Some (ObjectCell c)) e = absurd (cc)
    chooses n m a b first second (Some NoneObject) e = absurd (cc)
    chooses n m a b first second (Some TrueObject) e = absurd (cc)
    chooses n m a b first second (Some FalseObject) e = absurd (cc)
    chooses n m a b first second (Some NoObject) e = absurd (cc)

    by_truth : (n m : ℕ) (a b : Option ℕ) → a ≡ slice_get (label_places g.lines) n → b ≡ slice_get (label_places g.lines) m → (d : Bool) → cond d a b ≡ Some q → jumped true s (label_at code s.top (cond d n m)) ≡ Goes (at_place q s)
    by_truth n m a b first second true e = jumps n a first e
    by_truth n m a b first second false e = jumps m b second e

    by_error : (n m : ℕ) (a b : Option ℕ) → a ≡ slice_get (label_places g.lines) n → b ≡ slice_get (label_places g.lines) m → (o : Option machine.Word) → option_and_then (λ w. cond (equals_error w) a b) o ≡ Some q → if_some true s fault.Kind o (λ w. jumped true s (label_at code s.top (cond (equals_error w) n m))) ≡ Goes (at_place q s)
    by_error n m a b first second None e = absurd (cc)
    by_error n m a b first second (Some w) e = by_truth n m a b first second (equals_error w) e

    uncounted : (does : machine.Word → Next) → ((n : ℤ) → does (ShortInt n) ≡ Goes (next_line s)) → does NoneObject ≡ Goes (next_line s) → does TrueObject ≡ Goes (next_line s) → does FalseObject ≡ Goes (next_line s) → (o : Option machine.Word) → option_and_then (place_uncounted old.top.place) o ≡ Some q → if_some true s fault.Kind o does ≡ Goes (at_place q s)
    uncounted does short first second third o e = by o e
      where
        to_next : Some (old.top.place + 1) ≡ Some q → Goes (next_line s) ≡ Goes (at_place q s)
        to_next f = let same : old.top.place + 1 ≡ q = cc in ap (λ p. Goes (at_place p s)) same

        by : (o : Option machine.Word) → option_and_then (place_uncounted old.top.place) o ≡ Some q → if_some true s fault.Kind o does ≡ Goes (at_place q s)
        by None e = absurd (cc)
        by (Some (ShortInt i)) e = short i ∙ to_next e
        by (Some NoneObject) e = first ∙ to_next e
        by (Some TrueObject) e = second ∙ to_next e
        by (Some FalseObject) e = third ∙ to_next e
        by (Some (BigInt c)) e = absurd (cc)
        by (Some TaggedError) e = absurd (cc)
        by (Some (Native i)) e = absurd (cc)
        by (Some (CharWord k)) e = absurd (cc)
        by (Some (ObjectCell c)) e = absurd (cc)
        by (Some NoObject) e = absurd (cc)

    -- a line that only leads to a place
    pub leads : (t : Target) (line : Line) → t ≡ target_of code (label_places g.lines) line → place_behind old.top.place (map word_of old.top.vars) t line ≡ Some q → step_at true code s (Some line) ≡ Goes (at_place q s)
    leads t Label known e = let same : old.top.place + 1 ≡ q = cc in ap (λ p. Goes (at_place p s)) same
    leads t (Goto n) known e = jumps n t.first (ap (λ u. u.first) known) e
    leads t (If x n m) known e = chooses n m t.first t.second (ap (λ u. u.first) known) (ap (λ u. u.second) known) (slice_get s.top.vars x) e
    leads t (IfError x n m) known e = by_error n m t.first t.second (ap (λ u. u.first) known) (ap (λ u. u.second) known) (slice_get s.top.vars x) e
    leads t (Move x y) known e = absurd (cc)
    leads t (Lit x l) known e = absurd (cc)
    leads t (Call x name args) known e = absurd (cc)
    leads t (Virtual x o n args) known e = absurd (cc)
    leads t (TraitCall x o u n args) known e = absurd (cc)
    leads t Turn known e = absurd (cc)
    leads t (Return x) known e = absurd (cc)
    leads t (Inc x) known e = uncounted (incremented true s) (λ n. refl) refl refl refl (slice_get s.top.vars x) e
    leads t (Dec x) known e = uncounted (decremented true s) (λ n. refl) refl refl refl (slice_get s.top.vars x) e
    leads t (XDec x) known e = uncounted (decremented_if_set true s) (λ n. refl) refl refl refl (slice_get s.top.vars x) e

-- whether a line is a jump
abbrev pub is_jump : Line → Bool
is_jump (Goto n) = true
is_jump (If x n m) = true
is_jump (IfError x n m) = true
is_jump _ = false

-- ---- how many lines
module _ (code : Code) (g : CFunc) (line : Line) (old : Seen) (function : slice_get code.funcs old.top.func ≡ Some g) (found : slice_get g.lines old.top.place ≡ Some line) where
  step_is : (rest : Rest) → step code (state_of rest old) ≡ step_at true code (state_of rest old) (Some line)
  step_is rest =
      ap (λ f. step_at true code (state_of rest old) (option_and_then (λ h. slice_get h.lines old.top.place) f)) function
      ∙ ap (step_at true code (state_of rest old)) found

  did_none : (n : ℕ) (new : Seen) → n ≡ 0 → new ≡ old → Did code n old new
  did_none n new is same =
      (λ rest. subst (λ k. Reaches code k (state_of rest old) (state_of rest new)) (sym is) (subst (λ z. Reaches code 0 (state_of rest old) (state_of rest z)) (sym same) (Here (state_of rest old))), ap (λ z. z.top.func) same, ap (λ z. z.output) same)

  did_first : (new : Seen) → Done (λ s. step_at true code s (Some line)) true old new → Did code 1 old new
  did_first new h =
      (λ rest. There 0 (state_of rest old) (state_of rest new) (state_of rest new) (step_is rest ∙ h.0 rest) (Here (state_of rest new)), h.1, h.2)

  did_counted : (b : Bool) (new : Seen) → Done (λ s. step_at true code s (Some line)) b old new → Did code (cond b 1 0) old new
  did_counted true new h = did_first new h
  did_counted false new h = did_none 0 new refl h

  -- a line that is not done at once
  pub did_nothing : Did code 0 old old
  did_nothing = did_none 0 old refl refl

  -- one line, or none
  pub did : (b : Bool) (n : ℕ) (new : Seen) → n ≡ cond b 1 0 → Done (λ s. step_at true code s (Some line)) b old new → Did code n old new
  did b n new is h = subst (λ k. Did code k old new) (sym is) (did_counted b new h)

  -- a jump, and maybe the label that it leads to
  module _ (q : ℕ) (label : slice_get g.lines q ≡ Some Label) (goes : (rest : Rest) → step_at true code (state_of rest old) (Some line) ≡ Goes (at_place q (state_of rest old))) where
    abbrev there_now : Seen
    there_now = record old { top = record old.top { place = q } }

    abbrev behind : Seen
    behind = record old { top = record old.top { place = q + 1 } }

    passes : (rest : Rest) → step code (state_of rest there_now) ≡ Goes (state_of rest behind)
    passes rest =
        ap (λ f. step_at true code (state_of rest there_now) (option_and_then (λ h. slice_get h.lines q) f)) function
        ∙ ap (step_at true code (state_of rest there_now)) label

    did_both : Did code 2 old behind
    did_both =
        (λ rest. There 1 (state_of rest old) (state_of rest there_now) (state_of rest behind) (step_is rest ∙ goes rest) (There 0 (state_of rest there_now) (state_of rest behind) (state_of rest behind) (passes rest) (Here (state_of rest behind))), refl, refl)

    did_place : (n : ℕ) (new : Seen) → Jumped (Some q) n old new → Did code n old new
    did_place n new (inl h) =
        subst (λ k. Did code k old new) (sym h.0) (subst (Did code 1 old) (sym h.1) (did_first there_now (goes, refl, refl)))
    did_place n new (inr h) =
        subst (λ k. Did code k old new) (sym h.0) (subst (Did code 2 old) (sym h.1) did_both)

  did_jump : (o : Option ℕ) (n : ℕ) (new : Seen) → ((q : ℕ) → o ≡ Some q → slice_get g.lines q ≡ Some Label) → ((q : ℕ) → o ≡ Some q → (rest : Rest) → step_at true code (state_of rest old) (Some line) ≡ Goes (at_place q (state_of rest old))) → Jumped o n old new → Did code n old new
  did_jump None n new label goes h = did_none n new h.0 h.1
  did_jump (Some q) n new label goes h = did_place q (label q refl) (goes q refl) n new h

-- ---- where jumps lead to
module _ (lines : List Line) where
  leads_to : (n : ℕ) (o : Option ℕ) → o ≡ slice_get (label_places lines) n → (q : ℕ) → o ≡ Some q → slice_get lines q ≡ Some Label
  leads_to n o is q e = label_is lines n q (sym is ∙ e)

  chosen_leads : (n m : ℕ) (a b : Option ℕ) → a ≡ slice_get (label_places lines) n → b ≡ slice_get (label_places lines) m → (o : Option machine.Word) (q : ℕ) → option_and_then (place_chosen a b) o ≡ Some q → slice_get lines q ≡ Some Label
  chosen_leads n m a b first second None q e = absurd (cc)
  chosen_leads n m a b first second (Some (CharWord zero)) q e = leads_to m b second q e
  chosen_leads n m a b first second (Some (CharWord (suc zero))) q e = leads_to n a first q e
  chosen_leads n m a b first second (Some (CharWord (suc (suc k)))) q e = absurd (cc)
  chosen_leads n m a b first second (Some (ShortInt i)) q e = absurd (cc)
  chosen_leads n m a b first second (Some (BigInt c)) q e = absurd (cc)
  chosen_leads n m a b first second (Some TaggedError) q e = absurd (cc)
  chosen_leads n m a b first second (Some (Native i)) q e = absurd (cc)
  chosen_leads n m a b first second (Some (ObjectCell c)) q e = absurd (cc)
  chosen_leads n m a b first second (Some NoneObject) q e = absurd (cc)
  chosen_leads n m a b first second (Some TrueObject) q e = absurd (cc)
  chosen_leads n m a b first second (Some FalseObject) q e = absurd (cc)
  chosen_leads n m a b first second (Some NoObject) q e = absurd (cc)

  either_leads : (n m : ℕ) (a b : Option ℕ) → a ≡ slice_get (label_places lines) n → b ≡ slice_get (label_places lines) m → (d : Bool) (q : ℕ) → cond d a b ≡ Some q → slice_get lines q ≡ Some Label
  either_leads n m a b first second true q e = leads_to n a first q e
  either_leads n m a b first second false q e = leads_to m b second q e

  error_leads : (n m : ℕ) (a b : Option ℕ) → a ≡ slice_get (label_places lines) n → b ≡ slice_get (label_places lines) m → (o : Option machine.Word) (q : ℕ) → option_and_then (λ w. cond (equals_error w) a b) o ≡ Some q → slice_get lines q ≡ Some Label
  error_leads n m a b first second None q e = absurd (cc)
  error_leads n m a b first second (Some w) q e = either_leads n m a b first second (equals_error w) q e

  -- a jump leads to a label
  to_label : (code : Code) (vars : List machine.Word) (place : ℕ) (t : Target) (line : Line) → is_jump line ≡ true → t ≡ target_of code (label_places lines) line → (q : ℕ) → place_behind place vars t line ≡ Some q → slice_get lines q ≡ Some Label
  to_label code vars place t (Goto n) is known q e = leads_to n t.first (ap (λ u. u.first) known) q e
  to_label code vars place t (If x n m) is known q e =
      chosen_leads n m t.first t.second (ap (λ u. u.first) known) (ap (λ u. u.second) known) (slice_get vars x) q e
  to_label code vars place t (IfError x n m) is known q e =
      error_leads n m t.first t.second (ap (λ u. u.first) known) (ap (λ u. u.second) known) (slice_get vars x) q e
  to_label code vars place t Label is known q e = absurd (cc)
  to_label code vars place t (Move x y) is known q e = absurd (cc)
  to_label code vars place t (Lit x l) is known q e = absurd (cc)
  to_label code vars place t (Call x name args) is known q e = absurd (cc)
  to_label code vars place t (Virtual x o n args) is known q e = absurd (cc)
  to_label code vars place t (TraitCall x o u n args) is known q e = absurd (cc)
  to_label code vars place t Turn is known q e = absurd (cc)
  to_label code vars place t (Return x) is known q e = absurd (cc)
  to_label code vars place t (Inc x) is known q e = absurd (cc)
  to_label code vars place t (Dec x) is known q e = absurd (cc)
  to_label code vars place t (XDec x) is known q e = absurd (cc)

  -- a line's place, and a label's that a jump leads to, have one behind them
  pub place_fits : (place : ℕ) (line : Line) → slice_get lines place ≡ Some line → length lines < 2 ^ 64 → place + 1 < 2 ^ 64
  place_fits place line found short = omega (arith, short, slice_get_within lines place line found)

  has_next : (o : Option ℕ) → length lines < 2 ^ 64 → ((q : ℕ) → o ≡ Some q → slice_get lines q ≡ Some Label) → IfSome o (λ q. q + 1 < 2 ^ 64)
  has_next None short label = tt
  has_next (Some q) short label = place_fits q Label (label q refl) short

-- where a line leads that counts a reference
pub behind_count : (place : ℕ) (vars : List machine.Word) (t : Target) (line : Line) (x : ℕ) → (line ≡ Inc x) ⊎ ((line ≡ Dec x) ⊎ (line ≡ XDec x)) → option_and_then (place_uncounted place) (slice_get vars x) ≡ place_behind place vars t line
behind_count place vars t line x (inl e) = sym (ap (place_behind place vars t) e)
behind_count place vars t line x (inr (inl e)) = sym (ap (place_behind place vars t) e)
behind_count place vars t line x (inr (inr e)) = sym (ap (place_behind place vars t) e)

-- ---- lines that only lead to a place
module _ (code : Code) (g : CFunc) (line : Line) (old : Seen) (function : slice_get code.funcs old.top.func ≡ Some g) (found : slice_get g.lines old.top.place ≡ Some line) where
  -- a jump to the place that it leads to
  pub jump_did : (t : Target) → t ≡ target_of code (label_places g.lines) line → is_jump line ≡ true → (o : Option ℕ) → o ≡ place_behind old.top.place (map word_of old.top.vars) t line → (n : ℕ) (new : Seen) → Jumped o n old new → Did code n old new
  jump_did t known is o same n new h =
      did_jump code g line old function found o n new
      (λ q e. to_label g.lines code (map word_of old.top.vars) old.top.place t line is known q (sym same ∙ e))
      (λ q e rest. leads code g old function rest q t line known (sym same ∙ e))
      h

  -- a jump's place has one behind it
  pub jump_fits : (t : Target) → t ≡ target_of code (label_places g.lines) line → is_jump line ≡ true → length g.lines < 2 ^ 64 → (o : Option ℕ) → o ≡ place_behind old.top.place (map word_of old.top.vars) t line → IfSome o (λ q. q + 1 < 2 ^ 64)
  jump_fits t known is short o same =
      has_next g.lines o short (λ q e. to_label g.lines code (map word_of old.top.vars) old.top.place t line is known q (sym same ∙ e))

  -- any other one
  pub place_did : (o : Option ℕ) → o ≡ place_behind old.top.place (map word_of old.top.vars) (target_of code (label_places g.lines) line) line → (b : Bool) (n : ℕ) (new : Seen) → n ≡ cond b 1 0 → Went o b old new → Did code n old new
  place_did o same b n new is h =
      did code g line old function found b n new is
      (went (λ s. step_at true code s (Some line)) old new b o
      (if_is o _ (λ q e rest. leads code g old function rest q (target_of code (label_places g.lines) line) line refl (sym same ∙ e)))
      h)
