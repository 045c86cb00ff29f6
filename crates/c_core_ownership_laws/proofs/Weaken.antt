-- Lines that are in order from shares are in order from shares of which more is known.
use Rattle.std.proofs.Common.{◌≡◌, refl, sym, ap, ◌∙◌, ℕ, zero, suc, ◌+◌, ◌-◌, ◌≤◌, ◌⊎◌, inl, inr, ⊎_elim, Bool, true, false, List, [], ◌∷◌, Option, Some, None, arith}
use Rattle.std.specs.Prelude.{not, ◌&&◌, map}
use Rattle.c_core.specs.declared.code.CArg.{CArg}
use Rattle.c_core.specs.declared.code.CArg.TheVariants as arg
use Rattle.c_core.specs.declared.code.Line.{Line}
use Rattle.c_core.specs.declared.code.Line.TheVariants.{Label, Move, Lit, Call, Virtual, TraitCall, Goto, If, IfError, Turn, Return, Inc, Dec, XDec}
use Rattle.c_core.specs.declared.code.CFunc.{CFunc}
use Rattle.c_core.specs.declared.code.Code.{Code}
use Rattle.c_core.specs.declared.primitive.Primitive.{Primitive}
use Rattle.c_core.specs.Primitives.{Parameter, Borrows, Steals, MaySteal, Outcome, Nothing, Owned, Lent, row_of, primitive_named}
use Rattle.c_core.proofs.Lines.{and_true}
use Rattle.c_core_ownership_laws.specs.Shares.{put, State, Shares, state_of, with_owns, with_state, with_share, unheld, unheld_if, IsKnownAs, Within, is_noisy, may_refer, HasNone, IsLent, IsHeld, IsUsable, IsAtHand, IsGivable, AreUsable, IsGiven, one_taken, AreGiven, left_over, IsTarget, IsClear, IsFree, one_if, with_answer, with_outcome, Jumps, CallChecks, MethodChecks, MoveChecks, LineChecks}

pub known_self : (s : State) → IsKnownAs s s
known_self s = by s.empty refl
  where
    by : (e : Bool) → s.empty ≡ e → IsKnownAs s s
    by true t = inl t
    by false f = inr (refl, λ t. t, λ t. inl t, f)

pub within_self : (σ : Shares) → Within σ σ
within_self σ r = known_self (state_of σ r)

known_all : (s t u : State) → IsKnownAs s t → IsKnownAs t u → IsKnownAs s u
known_all s t u (inl e) b = inl e
known_all s t u (inr a) (inl e) = let both : true ≡ false = sym e ∙ a.3 in absurd (cc)
known_all s t u (inr a) (inr b) =
    inr (a.0 ∙ b.0, λ h. a.1 (b.1 h), λ h. ⊎_elim (λ v. a.2 v) (λ v. inr (a.1 v)) (b.2 h), b.3)

pub within_all : (ρ σ τ : Shares) → Within ρ σ → Within σ τ → Within ρ τ
within_all ρ σ τ a b r = known_all (state_of ρ r) (state_of σ r) (state_of τ r) (a r) (b r)

-- the states of one variable are set
abbrev later : Shares → Shares
later σ = record { owns = λ r. σ.owns (suc r); lent = λ r. σ.lent (suc r); held = λ r. σ.held (suc r); empty = λ r. σ.empty (suc r) }

within_set : (x : ℕ) (s t : State) (ρ σ : Shares) → IsKnownAs s t → Within ρ σ → Within (with_state x s ρ) (with_state x t σ)
within_set zero s t ρ σ one w zero = one
within_set zero s t ρ σ one w (suc r) = w (suc r)
within_set (suc x) s t ρ σ one w zero = w 0
within_set (suc x) s t ρ σ one w (suc r) = within_set x s t (later ρ) (later σ) one (λ i. w (suc i)) r

-- the numbers of references are the same, but of variables that are empty
abbrev AreSame : (ℕ → Bool) → (ℕ → ℕ) → (ℕ → ℕ) → Type 0
AreSame e j k = (r : ℕ) → (e r ≡ true) ⊎ (j r ≡ k r)

put_alike : (x m n : ℕ) (e : ℕ → Bool) (j k : ℕ → ℕ) → (e x ≡ true) ⊎ (m ≡ n) → AreSame e j k → AreSame e (put x m j) (put x n k)
put_alike zero m n e j k one all zero = one
put_alike zero m n e j k one all (suc r) = all (suc r)
put_alike (suc x) m n e j k one all zero = all 0
put_alike (suc x) m n e j k one all (suc r) =
    put_alike x m n (λ i. e (suc i)) (λ i. j (suc i)) (λ i. k (suc i)) one (λ i. all (suc i)) r

owns_known : (s t : State) (m n : ℕ) → IsKnownAs s t → (s.empty ≡ true) ⊎ (m ≡ n) → IsKnownAs (record s { owns = m }) (record t { owns = n })
owns_known s t m n a (inl e) = inl e
owns_known s t m n (inl e) (inr f) = inl e
owns_known s t m n (inr a) (inr f) = inr (f, a.1, a.2, a.3)

module _ (code : Code) (g : CFunc) (Enters : ℕ → Shares → Type 0) where
  -- of the variables of the first shares at least as much is known
  module _ (σ ρ : Shares) (w : Within ρ σ) (Go Then : Shares → Type 0) (go : (τ ω : Shares) → Within ω τ → Go τ → Then ω) where
    none_still : (x : ℕ) → HasNone g.vars σ x → HasNone g.vars ρ x
    none_still x none =
        ⊎_elim (λ f. inl f) (λ t. ⊎_elim (λ e. inr e) (λ a. let both : true ≡ false = sym t ∙ a.3 in absurd (cc)) (w x)) none

    lent_still : (x : ℕ) → IsLent g.vars σ x → IsLent g.vars ρ x
    lent_still x l =
        ⊎_elim (λ t. ⊎_elim (λ e. inr (inr e)) (λ a. inl (a.1 t)) (w x)) (λ none. inr (none_still x none)) l

    usable_still : (x : ℕ) → IsUsable g.vars σ x → IsUsable g.vars ρ x
    usable_still x u =
        ⊎_elim (λ le. ⊎_elim (λ e. inr (inr (inr e))) (λ a. inl (omega (arith, a.0, le))) (w x)) (λ l. inr (lent_still x l)) u

    held_still : (x : ℕ) → IsHeld g.vars σ x → IsHeld g.vars ρ x
    held_still x h =
        ⊎_elim (λ l. inl (lent_still x l)) (λ t. ⊎_elim (λ e. inl (inr (inr e))) (λ a. ⊎_elim (λ v. inr v) (λ v. inl (inl v)) (a.2 t)) (w x)) h

    at_hand_still : (x : ℕ) → IsAtHand g.vars σ x → IsAtHand g.vars ρ x
    at_hand_still x h =
        ⊎_elim
        (λ u. inl (usable_still x u))
        (λ t. ⊎_elim (λ l. inl (inr l)) (λ v. inr v) (held_still x (inr t)))
        h

    all_usable : (args : List CArg) → AreUsable g.vars σ args → AreUsable g.vars ρ args
    all_usable [] u = tt
    all_usable (arg.Var x ∷ rest) u = (usable_still x u.0, all_usable rest u.1)
    all_usable (a ∷ rest) u = all_usable rest u

    owns_alike : AreSame ρ.empty ρ.owns σ.owns
    owns_alike r = ⊎_elim (λ e. inl e) (λ a. inr a.0) (w r)

    -- what arguments leave is alike, and what is given is given
    given_still : (p : Parameter) (a : CArg) (j k : ℕ → ℕ) → AreSame ρ.empty j k → IsGiven g.vars σ p a k → IsGiven g.vars ρ p a j
    given_still (Borrows kind hold) (arg.Var x) j k same u = at_hand_still x u
    given_still (Steals kind hold) (arg.Var x) j k same u =
        ⊎_elim (λ le. ⊎_elim (λ e. inr (inr e)) (λ f. inl (omega (arith, f, le))) (same x)) (λ none. inr (none_still x none)) u
    given_still (MaySteal kind hold) (arg.Var x) j k same u =
        ⊎_elim (λ le. ⊎_elim (λ e. inr (inr e)) (λ f. inl (omega (arith, f, le))) (same x)) (λ none. inr (none_still x none)) u
    given_still _ _ j k same u = u

    less_alike : (x : ℕ) (j k : ℕ → ℕ) → AreSame ρ.empty j k → AreSame ρ.empty (put x (j x - 1) j) (put x (k x - 1) k)
    less_alike x j k same =
        put_alike x (j x - 1) (k x - 1) ρ.empty j k (⊎_elim (λ e. inl e) (λ f. inr (ap (λ z. z - 1) f)) (same x)) same

    taken_alike : (p : Parameter) (a : CArg) (j k : ℕ → ℕ) → AreSame ρ.empty j k → AreSame ρ.empty (one_taken g.vars p a j) (one_taken g.vars p a k)
    taken_alike (Steals kind hold) (arg.Var x) j k same = less_alike x j k same
    taken_alike (MaySteal kind hold) (arg.Var x) j k same = less_alike x j k same
    taken_alike _ _ j k same = same

    all_given : (ps : List Parameter) (args : List CArg) (j k : ℕ → ℕ) → AreSame ρ.empty j k → AreGiven g.vars σ ps args k → AreGiven g.vars ρ ps args j
    all_given (p ∷ ps) (a ∷ rest) j k same u =
        (given_still p a j k same u.0, all_given ps rest (one_taken g.vars p a j) (one_taken g.vars p a k) (taken_alike p a j k same) u.1)
    all_given _ _ j k same u = tt

    left_alike : (ps : List Parameter) (args : List CArg) (j k : ℕ → ℕ) → AreSame ρ.empty j k → AreSame ρ.empty (left_over g.vars ps args j) (left_over g.vars ps args k)
    left_alike (p ∷ ps) (a ∷ rest) j k same = left_alike ps rest (one_taken g.vars p a j) (one_taken g.vars p a k) (taken_alike p a j k same)
    left_alike _ _ j k same = same

    -- other numbers of references
    owns_within : (j k : ℕ → ℕ) → AreSame ρ.empty j k → Within (record ρ { owns = j }) (record σ { owns = k })
    owns_within j k same r = owns_known (state_of ρ r) (state_of σ r) (j r) (k r) (w r) (same r)

    clear_still : (j k : ℕ → ℕ) (x : ℕ) → AreSame ρ.empty j k → IsClear g.vars (record σ { owns = k }) x → IsClear g.vars (record ρ { owns = j }) x
    clear_still j k x same clear =
        ⊎_elim
        (λ none. ⊎_elim (λ e. inr e) (λ f. inl (f ∙ none)) (same x))
        (λ t. ⊎_elim (λ e. inr e) (λ a. let both : true ≡ false = sym t ∙ a.3 in absurd (cc)) (w x))
        clear

    free_still : (j k : ℕ → ℕ) (x : Option ℕ) → AreSame ρ.empty j k → IsFree g.vars k σ.empty x → IsFree g.vars j ρ.empty x
    free_still j k None same free = tt
    free_still j k (Some x) same free = clear_still j k x same free

    -- where nothing is held any more
    unheld_known : (s t : State) → IsKnownAs s t → IsKnownAs (record s { held = false }) (record t { held = false })
    unheld_known s t (inl e) = inl e
    unheld_known s t (inr a) = inr (a.0, a.1, λ h. absurd (cc), a.3)

    unheld_within : (j k : ℕ → ℕ) → AreSame ρ.empty j k → Within (unheld (record ρ { owns = j })) (unheld (record σ { owns = k }))
    unheld_within j k same r =
        unheld_known (state_of (record ρ { owns = j }) r) (state_of (record σ { owns = k }) r) (owns_within j k same r)

    -- behind a primitive that may let go of something where noisy is true
    quiet_known : (noisy : Bool) (s t : State) → IsKnownAs s t → IsKnownAs (record s { held = s.held && not noisy }) (record t { held = t.held && not noisy })
    quiet_known noisy s t (inl e) = inl e
    quiet_known noisy s t (inr a) =
        inr (a.0, a.1, (λ h. let both = and_true t.held (not noisy) h in ⊎_elim (λ v. inl (ap (λ z. z && not noisy) v ∙ both.1)) (λ v. inr v) (a.2 both.0)), a.3)

    quiet_within : (noisy : Bool) (j k : ℕ → ℕ) → AreSame ρ.empty j k → Within (unheld_if noisy (record ρ { owns = j })) (unheld_if noisy (record σ { owns = k }))
    quiet_within noisy j k same r =
        quiet_known noisy (state_of (record ρ { owns = j }) r) (state_of (record σ { owns = k }) r) (owns_within j k same r)

    answer_within : (x : Option ℕ) (τ ω : Shares) → Within ω τ → Within (with_answer g.vars x ω) (with_answer g.vars x τ)
    answer_within None τ ω v = v
    answer_within (Some x) τ ω v =
        let s : State = record { owns = one_if (may_refer g.vars x); lent = false; held = false; empty = false } in
        within_set x s s ω τ (known_self s) v

    outcome_within : (o : Outcome) (x : Option ℕ) (τ ω : Shares) → Within ω τ → Within (with_outcome g.vars o x ω) (with_outcome g.vars o x τ)
    outcome_within Nothing x τ ω v = answer_within x τ ω v
    outcome_within (Owned kind) x τ ω v = answer_within x τ ω v
    outcome_within (Lent kind) None τ ω v = v
    outcome_within (Lent kind) (Some x) τ ω v =
        let s : State = record { owns = 0; lent = false; held = true; empty = false } in
        within_set x s s ω τ (known_self s) v

    jumps_still : (τ ω : Shares) (n : ℕ) → Within ω τ → Jumps code g Enters τ n → Jumps code g Enters ω n
    jumps_still τ ω n v j = (j.0, j.1, within_all ω τ j.0 v j.2)

    call_still : (x : Option ℕ) (name : List ℕ) (args : List CArg) (o : Option Primitive) → CallChecks code g Enters σ x name args o Go → CallChecks code g Enters ρ x name args o Then
    call_still x name args (Some p) h =
        let ps : List Parameter = (row_of p).parameters in
        let j : ℕ → ℕ = left_over g.vars ps args ρ.owns in
        let k : ℕ → ℕ = left_over g.vars ps args σ.owns in
        let same : AreSame ρ.empty j k = left_alike ps args ρ.owns σ.owns owns_alike in
        let σ2 : Shares = unheld_if (is_noisy p) (record σ { owns = k }) in
        let ρ2 : Shares = unheld_if (is_noisy p) (record ρ { owns = j }) in
        (all_given ps args ρ.owns σ.owns owns_alike h.0, h.1, h.2, free_still j k x same h.3, go (with_outcome g.vars (row_of p).outcome x σ2) (with_outcome g.vars (row_of p).outcome x ρ2) (outcome_within (row_of p).outcome x σ2 ρ2 (quiet_within (is_noisy p) j k same)) h.4)
    call_still x name args None h =
        (all_usable args h.0, h.1, free_still ρ.owns σ.owns x owns_alike h.2, go (with_answer g.vars x (unheld σ)) (with_answer g.vars x (unheld ρ)) (answer_within x (unheld σ) (unheld ρ) (unheld_within ρ.owns σ.owns owns_alike)) h.3)

    method_still : (x : ℕ) (args : List ℕ) → MethodChecks code g Enters σ x args Go → MethodChecks code g Enters ρ x args Then
    method_still x args h =
        (all_usable (map arg.Var args) h.0, h.1, clear_still ρ.owns σ.owns x owns_alike h.2, go (with_answer g.vars (Some x) (unheld σ)) (with_answer g.vars (Some x) (unheld ρ)) (answer_within (Some x) (unheld σ) (unheld ρ) (unheld_within ρ.owns σ.owns owns_alike)) h.3)

    -- a variable gets a state, in both
    state_go : (x : ℕ) (s : State) → Go (with_state x s σ) → Then (with_state x s ρ)
    state_go x s = go (with_state x s σ) (with_state x s ρ) (within_set x s s ρ σ (known_self s) w)

    give_still : (x : ℕ) → IsGivable g.vars σ x × Go (unheld (with_owns x (σ.owns x - 1) σ)) → IsGivable g.vars ρ x × Then (unheld (with_owns x (ρ.owns x - 1) ρ))
    give_still x h = (
      ⊎_elim (λ le. ⊎_elim (λ e. inr (inr e)) (λ f. inl (omega (arith, f, le))) (owns_alike x)) (λ none. inr (none_still x none)) h.0,
      go (unheld (with_owns x (σ.owns x - 1) σ)) (unheld (with_owns x (ρ.owns x - 1) ρ)) (unheld_within (put x (ρ.owns x - 1) ρ.owns) (put x (σ.owns x - 1) σ.owns) (less_alike x ρ.owns σ.owns owns_alike)) h.1,
    )

    -- the other variable does not change
    put_other : (y x n : ℕ) (f : ℕ → ℕ) → (y ≡ x) ⊎ (put y n f x ≡ f x)
    put_other zero zero n f = inl refl
    put_other zero (suc x) n f = inr refl
    put_other (suc y) zero n f = inr refl
    put_other (suc y) (suc x) n f =
        ⊎_elim (λ e. inl (ap suc e)) (λ e. inr e) (put_other y x n (λ i. f (suc i)))

    abbrev Takes : ℕ → ℕ → Type 0
    Takes x y = (1 ≤ σ.owns y) × IsClear g.vars (with_owns y (σ.owns y - 1) σ) x × ((b : Bool) × (b ≡ true → IsLent g.vars σ y) × Go (with_share x 1 b (with_owns y (σ.owns y - 1) σ)))

    -- a move that takes over a reference, where the source may be empty
    takes_still : (x y : ℕ) → IsTarget g.vars (may_refer g.vars y) (Some x) → Takes x y → MoveChecks code g Enters ρ x y Then
    takes_still x y at a = ⊎_elim (λ e. empties e) (λ b. full b.0) (w y)
      where
        full : ρ.owns y ≡ σ.owns y → MoveChecks code g Enters ρ x y Then
        full f =
            let j : ℕ → ℕ = put y (ρ.owns y - 1) ρ.owns in
            let k : ℕ → ℕ = put y (σ.owns y - 1) σ.owns in
            let same : AreSame ρ.empty j k = less_alike y ρ.owns σ.owns owns_alike in
            let s : State = record { owns = 1; lent = a.2.0; held = false; empty = false } in
            (at, inl (omega (arith, f, a.0), clear_still j k x same a.1, (a.2.0, (λ t. lent_still y (a.2.1 t)), go (with_state x s (record σ { owns = k })) (with_state x s (record ρ { owns = j })) (within_set x s s (record ρ { owns = j }) (record σ { owns = k }) (known_self s) (owns_within j k same)) a.2.2)))

        clear : ρ.empty y ≡ true → IsClear g.vars ρ x
        clear e = ⊎_elim
            (λ f. inr (ap ρ.empty (sym f) ∙ e))
            (λ f. clear_still ρ.owns σ.owns x owns_alike (⊎_elim (λ none. inl (sym f ∙ none)) (λ t. inr t) a.1))
            (put_other y x (σ.owns y - 1) σ.owns)

        less_same : ρ.empty y ≡ true → AreSame ρ.empty ρ.owns (put y (σ.owns y - 1) σ.owns)
        less_same e r = ⊎_elim
            (λ f. inl (ap ρ.empty (sym f) ∙ e))
            (λ f. ⊎_elim (λ t. inl t) (λ h. inr (h ∙ sym f)) (owns_alike r))
            (put_other y r (σ.owns y - 1) σ.owns)

        empties : ρ.empty y ≡ true → MoveChecks code g Enters ρ x y Then
        empties e =
            let s : State = record { owns = 0; lent = false; held = false; empty = true } in
            let t : State = record { owns = 1; lent = a.2.0; held = false; empty = false } in
            let k : ℕ → ℕ = put y (σ.owns y - 1) σ.owns in
            (at, inr (inr (inr (inl (inr e, clear e, go (with_state x t (record σ { owns = k })) (with_state x s ρ) (within_set x s t ρ (record σ { owns = k }) (inl refl) (owns_within ρ.owns k (less_same e))) a.2.2)))))

    move_still : (x y : ℕ) → MoveChecks code g Enters σ x y Go → MoveChecks code g Enters ρ x y Then
    move_still x y h = ⊎_elim
        (λ a. takes_still x y h.0 a)
        (λ o. (
          h.0,
          inr (⊎_elim
              (λ a. inl (lent_still y a.0, clear_still ρ.owns σ.owns x owns_alike a.1, state_go x (record { owns = 0; lent = may_refer g.vars x; held = false; empty = false }) a.2))
              (λ o. inr (⊎_elim
              (λ a. inl (held_still y a.0, clear_still ρ.owns σ.owns x owns_alike a.1, state_go x (record { owns = 0; lent = false; held = true; empty = false }) a.2))
              (λ o. inr (⊎_elim
              (λ a. inl (none_still y a.0, clear_still ρ.owns σ.owns x owns_alike a.1, state_go x (record { owns = 0; lent = false; held = false; empty = true }) a.2))
              (λ a. inr (a.0, at_hand_still x a.1, go σ ρ w a.2))
              o))
              o))
              o),
        ))
        h.1

    line_still : (l : Line) → LineChecks code g Enters σ l Go → LineChecks code g Enters ρ l Then
    line_still Label h = go σ ρ w h
    line_still (Move x y) h = move_still x y h
    line_still (Lit x l) h = (h.0, clear_still ρ.owns σ.owns x owns_alike h.1, (h.2.0, state_go x h.2.0 h.2.1))
    line_still (Call x name args) h = call_still x name args (primitive_named name) h
    line_still (Virtual x o n args) h = method_still x (o ∷ args) h
    line_still (TraitCall x o t n args) h = method_still x (o ∷ args) h
    line_still (Goto n) h = jumps_still σ ρ n w h
    line_still (If x n m) h = (jumps_still σ ρ n w h.0, jumps_still σ ρ m w h.1)
    line_still (IfError x n m) h = (
      (h.0.0, jumps_still (with_state x h.0.0 σ) (with_state x h.0.0 ρ) n (within_set x h.0.0 h.0.0 ρ σ (known_self h.0.0) w) h.0.1),
      jumps_still σ ρ m w h.1,
    )
    line_still Turn h = go σ ρ w h
    line_still (Return x) h =
        (h.0, λ r. ⊎_elim (λ f. ⊎_elim (λ e. inr e) (λ e. inl (e ∙ f)) (owns_alike r)) (λ t. ⊎_elim (λ e. inr e) (λ a. let both : true ≡ false = sym t ∙ a.3 in absurd (cc)) (w r)) (h.1 r))
    line_still (Inc x) h = (
      at_hand_still x h.0,
      go (with_owns x (σ.owns x + 1) σ) (with_owns x (ρ.owns x + 1) ρ)
          (owns_within (put x (ρ.owns x + 1) ρ.owns) (put x (σ.owns x + 1) σ.owns) (put_alike x (ρ.owns x + 1) (σ.owns x + 1) ρ.empty ρ.owns σ.owns (⊎_elim (λ e. inl e) (λ f. inr (ap (λ z. z + 1) f)) (owns_alike x)) owns_alike))
          h.1,
    )
    line_still (Dec x) h = give_still x h
    line_still (XDec x) h = give_still x h

  -- a line that is in order from shares is so from shares within
  pub line_within : (σ ρ : Shares) (l : Line) (Go Then : Shares → Type 0) → Within ρ σ → ((τ ω : Shares) → Within ω τ → Go τ → Then ω) → LineChecks code g Enters σ l Go → LineChecks code g Enters ρ l Then
  line_within σ ρ l Go Then w go h = line_still σ ρ w Go Then go l h
