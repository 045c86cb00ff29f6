-- A choice between two things that are done with a value in a register, by a bool in another register.
use Rattle.ir_builder_expressions.proofs.Common.{List, ◌≡◌, refl, sym, ◌∙◌, ap, subst, ℕ, ◌+◌, ◌<◌, ◌≤◌, arith, le_refl, Bool, true, false, length, Option, Some, None, if◌then◌else◌, Value, BoolVal, Sort, State, Outcome, Does, ◌>>=◌, give, on_to, Holds, Regs, Program, RType, Building, Setting, rtype_of, HasType, Placed, Shows, Arrives, Attempts, ActsOn, ActsOnTwo, IsThrown, Matches, HasRoom, Ends, running, world, Waiting, ends_of, ends_map, room_on, thrown_from, attempts_then, type_below, extends_refl, extends_trans, type_kept, Opens, Brings, Meets}
use Rattle.py_typed.specs.Sorts as sort
use Rattle.ir_core.specs.declared.code.RType.TheVariants as rtype
use Rattle.ir_builder_choices.proofs.ChoiceLemmas.{choice_runs, meet_within, shows_set}

-- the first where the bool is true, and else the second
abbrev pub forked : (Value → Does Value) → (Value → Does Value) → Value → Value → Does Value
forked first second v (BoolVal true) = first v
forked first second v w = second v

forked_by : (first second : Value → Does Value) (v : Value) (h : Bool) (s : State) → forked first second v (BoolVal h) s ≡ (if h then first v else second v) s
forked_by first second v true s = refl
forked_by first second v false s = refl

-- an arm's code, where more registers are kept than the choice's own
arm_ends : (p : Program) (fn : ℕ) (h : Option ℕ) (below : List Waiting) (x : Setting) (t u : Sort) (go : Value → Does Value) (keep q r : ℕ) (b c : Building) (regs : Regs) (s : State) (v : Value) → Attempts (Shows t) b c r (rtype_of t) (ActsOn u q go) → Placed p fn b c h → HasRoom x b → Matches x regs s → Shows u v (regs q) → keep ≤ length b.regs → Ends p s.turns (running fn (length b.blocks) (length b.ops) regs below (world None s)) (go v s) (Arrives (Shows t) fn (length c.blocks) (length c.ops) below keep regs s r) (IsThrown fn h below x keep regs)
arm_ends p fn h below x t u go keep q r b c regs s v a at room match shown wide =
    ends_map p s.turns _ (go v s) _ _ _ _
    (λ w s1 d y. record { now = y.now; is = y.is; shows = y.shows; kept = λ j lt. y.kept j (omega arith); same = y.same })
    (λ w s1 d z. thrown_from fn h below x keep (length b.regs) regs regs w s1 d wide (λ j i lt o. refl) z)
    (a.runs p fn h at x room regs below s match (go v s) record { v = v; shows = shown; does = refl })

-- the steps that build it
fork_attempts : (t u : Sort) (first second : Value → Does Value) (b2 b3 b4 b5 b7 b8 : Building) (q condition target test begin end here ra rb : ℕ) → HasType b2 q (rtype_of u) → HasType b2 condition rtype.Bool → Opens b2 b3 target test begin (rtype_of t) → Attempts (Shows t) b3 b4 ra (rtype_of t) (ActsOn u q first) → Brings b4 b5 target ra end → here ≡ length b5.blocks → Attempts (Shows t) b5 b7 rb (rtype_of t) (ActsOn u q second) → Meets b7 b8 target rb condition test begin end here → Attempts (Shows t) b2 b8 target (rtype_of t) (ActsOnTwo u sort.Bool q condition (forked first second))
fork_attempts t u first second b2 b3 b4 b5 b7 b8 q condition target test begin end here ra rb type_q type_c opens a brings is c meets =
    let x35 = extends_trans b3 b4 b5 a.extends brings.extends in
    let x37 = extends_trans b3 b5 b7 x35 c.extends in
    let x25 = extends_trans b2 b3 b5 opens.extends x35 in
    let k23 = opens.blocks in
    let k34 = a.extends.blocks_grow in
    let k45 = brings.blocks in
    let l23 = opens.extends.regs_grow in
    let l25 = x25.regs_grow in
    record {
      extends = meets.extends b2 (extends_trans b2 b3 b7 opens.extends x37) (let z = opens.test_is in omega arith) (let z = brings.end_is in omega arith);
      type = meets.types target (rtype_of t) (type_kept b3 b7 target (rtype_of t) x37 opens.type);
      runs = λ p fn h at x room regs below s match res f.
          let v : Value = f.v in
          let hv : Bool = f.right.1.0 in
          let flag : regs condition ≡ Holds (BoolVal hv) = f.right.0 ∙ ap Holds f.right.1.1 in
          let into_a = meet_within p fn b7 b8 b3 b4 target rb condition test begin end here _ _ h meets (omega arith) refl (extends_trans b4 b5 b7 brings.extends c.extends) at in
          let into_b = meet_within p fn b7 b8 b5 b7 target rb condition test begin end here _ _ h meets (omega arith) refl (extends_refl b7) at in
          let R = Arrives (Shows t) fn (length b8.blocks) (length b8.ops) below (length b2.regs) regs s target in
          let T = IsThrown fn h below x (length b2.regs) regs in
          ends_of p s.turns _ res ((if hv then first v else second v) s) R T (f.does ∙ ap (λ w. forked first second v w s) f.right.1.1 ∙ forked_by first second v hv s)
          (choice_runs p fn below (Shows t) (shows_set t) (rtype_of t) (length b2.regs) regs x s hv b2 b3 b4 b5 b7 b8 condition target test begin end here ra rb (first v) (second v) regs s T opens a.extends brings is c.extends meets type_c a.type c.type at.has (le_refl _) flag
          (λ z. arm_ends p fn h below x t u first (length b2.regs) q ra b3 b4 regs s v a into_a (room_on x b2 b3 opens.extends room) match f.left l23)
          (λ z. arm_ends p fn h below x t u second (length b2.regs) q rb b5 b7 regs s v c into_b (room_on x b2 b5 x25 room) match f.left l25));
    }

-- behind what finds the bool
pub asked_attempts : (t u : Sort) (asks first second : Value → Does Value) (b1 b2 b3 b4 b5 b7 b8 : Building) (q condition target test begin end here ra rb : ℕ) → HasType b1 q (rtype_of u) → Attempts (Shows sort.Bool) b1 b2 condition rtype.Bool (ActsOn u q asks) → Opens b2 b3 target test begin (rtype_of t) → Attempts (Shows t) b3 b4 ra (rtype_of t) (ActsOn u q first) → Brings b4 b5 target ra end → here ≡ length b5.blocks → Attempts (Shows t) b5 b7 rb (rtype_of t) (ActsOn u q second) → Meets b7 b8 target rb condition test begin end here → Attempts (Shows t) b1 b8 target (rtype_of t) (ActsOn u q (λ v. asks v >>= forked first second v))
asked_attempts t u asks first second b1 b2 b3 b4 b5 b7 b8 q condition target test begin end here ra rb type asked opens a brings is c meets =
    let fork = fork_attempts t u first second b2 b3 b4 b5 b7 b8 q condition target test begin end here ra rb (type_kept b1 b2 q (rtype_of u) asked.extends type) asked.type opens a brings is c meets in
    attempts_then (Shows sort.Bool) (Shows t) b1 b2 b8 condition target rtype.Bool (rtype_of t) (ActsOn u q asks) (ActsOnTwo u sort.Bool q condition (forked first second)) (ActsOn u q (λ v. asks v >>= forked first second v)) asked fork
    (λ regs s res f. record {
      mid = asks f.v s;
      go = forked first second f.v;
      does = f.does;
      start = record { v = f.v; shows = f.shows; does = refl };
      on = λ now w s1 shows kept. record { v = f.v; left = subst (Shows u f.v) (sym (kept q (type_below b1 q (rtype_of u) type))) f.shows; w = w; right = shows; does = refl };
    })
