-- A line that is in order makes no fault of ownership, and what comes of it stays in order.
use Rattle.std.proofs.Common.{◌≡◌, refl, sym, ap, subst, ◌∙◌, ℕ, zero, suc, ◌+◌, ◌-◌, ◌<◌, ◌≤◌, ◌⊎◌, inl, inr, ⊎_elim, Bool, true, false, cond, List, [], ◌∷◌, ◌++◌, length, Option, Some, None, arith}
use Rattle.std.specs.Prelude.{◌==◌, ◌&&◌, not, drop, map, slice_get, slice_set}
use Rattle.std.specs.Option.{option_and_then}
use Rattle.value_core.specs.Ending.{Ending, Done, Raised, Cut}
use Rattle.value_core.specs.Exceptions.{Thrown}
use Rattle.value_core.specs.Items.{Items}
use Rattle.c_core.specs.declared.code.Kind.{Kind}
use Rattle.c_core.specs.declared.code.Kind.TheVariants.{Object}
use Rattle.c_core.specs.declared.code.CClass.{CClass}
use Rattle.c_core.specs.declared.code.CArg.{CArg}
use Rattle.c_core.specs.declared.code.CArg.TheVariants as arg
use Rattle.c_core.specs.declared.code.Line.{Line}
use Rattle.c_core.specs.declared.code.Line.TheVariants.{Label, Move, Lit, Call, Virtual, TraitCall, Goto, If, IfError, Turn, Return, Inc, Dec, XDec}
use Rattle.c_core.specs.declared.code.CFunc.{CFunc}
use Rattle.c_core.specs.declared.code.Code.{Code}
use Rattle.c_core.specs.declared.fault.Fault.TheVariants as fault
use Rattle.c_core.specs.declared.primitive.Primitive.{Primitive}
use Rattle.c_core.specs.declared.primitive.Primitive.TheVariants as prim
use Rattle.c_core.specs.declared.primitive.ListPrim.TheVariants as list
use Rattle.c_core.specs.declared.primitive.DictPrim.TheVariants as dict
use Rattle.c_core.specs.declared.primitive.GlobalPrim.TheVariants as global
use Rattle.c_core.specs.Cells.{Cells, same, times, content_at, take_one, refill, make}
use Rattle.c_core.specs.Ledgers.{Ledger, more, more_of, without}
use Rattle.c_core.specs.Release.{uses, release}
use Rattle.c_core.specs.Machine.{Word, ShortInt, BigInt, TaggedError, CharWord, ObjectCell, NoneObject, TrueObject, FalseObject, NoObject, Content, IntCell, StrCell, ExcCell, refs_of, set_refs, refs_in, noted, Frame, MachineState}
use Rattle.c_core.specs.Holders.{pending_refs, owned_below}
use Rattle.c_core.specs.Functions.{label_places, function_named, method_at, trait_method_at, parameter_kinds, entry_words}
use Rattle.c_core.specs.Primitives.{Holding, AnInstance, Parameter, Borrows, Steals, MaySteal, TakesNumber, TakesPlace, TakesText, TakesDecimal, TakesException, TakesGlobal, TakesClass, Outcome, Nothing, may_end, row_of, primitive_named}
use Rattle.c_core.specs.Arguments.{Argument, Cell, Plain, Written, is_value_of, is_holding, kind_found, stolen}
use Rattle.c_core.specs.Step.{MachineEnding, Ended, Faulted, Next, Goes, Ends, Effect, Wrong, Says, Shares as SharesWord, Lends as LendsWord, Makes, Changes, Writes, Stores, Fails, Pends, Catches, MakesInt, Reads as ReadsLine, Skips, Stops, effect, with_ledger, with_var, with_target, next_line, shared, literal_word, equals_error, is_error, is_both, kind_of, answer_fits, method_of, label_at, if_some, if_calm, if_content, if_any, if_taken, word_of, if_true, if_there, if_variable, if_stolen, if_argument, if_arguments, given, applied, if_may_stand, called, call_step, if_passed, entered, function_called, takes_and_gives, method_called, jumped, chosen, turned, incremented, given_up, decremented, decremented_if_set, if_in_order, if_result, if_none_left, if_thrown, if_ended, if_return, step_at}
use Rattle.c_core.specs.Laws.{IsCounted}
use Rattle.c_core.specs.WellFormed.{kind_at}
use Rattle.c_core.proofs.CountLemmas.{same_self, there, held-uses, uses-take_one, uses-make}
use Rattle.c_core.proofs.Lines.{and_true}
use Rattle.c_core.proofs.LedgerLemmas.{without-times, more-times, more_of-times}
use Rattle.c_core_ownership_laws.specs.Shares.{put, Shares, with_owns, with_state, with_share, with_held, with_empty, unheld, unheld_if, steals, is_noisy, has_cells, may_have_cells, may_refer, HasNone, IsLent, IsUsable, IsAtHand, IsGivable, AreUsable, IsGiven, one_taken, AreGiven, left_over, IsTarget, HasRoom, IsFree, with_answer, with_outcome, Within, target_kind, answers_cells, HasTarget, returns_cells, callee_named, Jumps, PrimitiveChecks, CallChecks, MethodChecks, MoveChecks, LineChecks}
use Rattle.c_core_ownership_laws.specs.Groups.{IsPrimitive, IsStraight}
use Rattle.c_core_ownership_laws.specs.Frames.{IsBare, many, total, Meets, GlobalsBare, HasBareSlots, SlotsBare, IsWaiting, Waits, IsMet}
use Rattle.c_core_ownership_laws.specs.Groups.{IsFine}
use Rattle.c_core_ownership_laws.proofs.Totals.{IsOwned, many-none, many-one, put-most, set-same, set_target, total-alike, total-none, total-one, total-less, total-bare, total-has, meets-write, meets-answer, meets-lent, meets-outcome, meets-more, meets-less, meets-within, meets-empty, meets-kept, meets-unheld, none_bare, held-still}
use Rattle.c_core_ownership_laws.proofs.CellLemmas.{taken_bare, given_bare, made_bare, refilled_bare, given_uses}
use Rattle.c_core_ownership_laws.proofs.Effects.{Tame, IsAsWritten, AreAsWritten, IsTidy, AreTidy, IsStored, AreStored, agreeing, error_bare, answer_bare, tame}
use Rattle.c_core_ownership_laws.proofs.Entry.{AreValues, each_word, entry-size, entry-none, entry-empty, entry-bare}
use Rattle.c_core_ownership_laws.proofs.Words.{IsNoneOrBare, written_bare, unset_bare}

-- the cell of an argument
abbrev cells_of : Argument → List ℕ
cells_of (Cell c x) = c ∷ []
cells_of _ = []

-- an argument is what a word was
abbrev Reads : Word → Argument → Type 0
Reads w a = ((c : ℕ) → times (cells_of a) c ≡ times (refs_of w) c) × ((b : CArg) → IsAsWritten b a)

-- Enters says with which shares a label of a function is entered, and At with which a run may be at one of its places.
module _ (code : Code) (Enters At : ℕ → ℕ → Shares → Type 0) where
  -- what holds of the shares that come to the place behind p
  abbrev pub Follows : ℕ → ℕ → Shares → Type 0
  Follows f p τ = (ρ : Shares) × At f (p + 1) ρ × Within τ ρ

  -- the shares of the places of a function are kept by its lines
  pub record IsKept (f : ℕ) (g : CFunc) : Type 0 where
    pub entry : Shares
    pub is_entry : (r : ℕ) → r < g.params → entry.owns r ≡ 0
    pub is_filled : (r : ℕ) → r < g.params → entry.empty r ≡ false
    pub begins : At f 0 entry
    pub enters : (n q : ℕ) (σ : Shares) → Enters f n σ → slice_get (label_places g.lines) n ≡ Some q → At f q σ
    pub line : (p : ℕ) (l : Line) (σ : Shares) → At f p σ → slice_get g.lines p ≡ Some l → LineChecks code g (Enters f) σ l (Follows f p)

  abbrev pub AreKept : Type 0
  AreKept = (f : ℕ) (g : CFunc) → slice_get code.funcs f ≡ Some g → IsKept f g

  -- a step comes to the next line with shares of which Go holds
  pub record Arrives (s : MachineState) (g : CFunc) (Go : Shares → Type 0) (t : MachineState) : Type 0 where
    pub σ : Shares
    pub func : t.top.func ≡ s.top.func
    pub place : t.top.place ≡ s.top.place + 1
    pub into : t.top.into ≡ s.top.into
    pub below : t.below ≡ s.below
    pub go : Go σ
    pub meets : Meets g.vars σ t.top.vars t.top.ledger t.below (uses refs_in t.cells)
    pub waits : Waits code At g.ret t.top.into t.below
    pub globals : GlobalsBare code t.globals
    pub slots : SlotsBare code t.cells

  -- P holds of the step, where it holds of each end that is no fault of ownership and of each state that comes to the next line
  module _ (s : MachineState) (ok : IsCounted s) (g : CFunc) (σ : Shares) (is : slice_get code.funcs s.top.func ≡ Some g) (m : Meets g.vars σ s.top.vars s.top.ledger s.below (uses refs_in s.cells)) (waits : Waits code At g.ret s.top.into s.below) (bare : GlobalsBare code s.globals) (slots : SlotsBare code s.cells) (Go : Shares → Type 0) (P : Next → Type 0) (fine : (e : MachineEnding) (t : MachineState) → IsFine e → P (Ends e t)) (arr : (t : MachineState) → Arrives s g Go t → P (Goes t)) where
    -- the cell of a usable variable is owned somewhere, and that of one at hand is owned or held, so it is there
    abbrev IsHeldOn : Word → Type 0
    IsHeldOn w = (c : ℕ) → times (refs_of w) c ≤ times s.top.ledger c + owned_below s.below c

    abbrev IsThere : Word → Type 0
    IsThere w = (c : ℕ) → times (refs_of w) c ≤ times s.top.ledger c + owned_below s.below c + uses refs_in s.cells c

    bare_word : (x : ℕ) (w : Word) → HasNone g.vars σ x → slice_get s.top.vars x ≡ Some w → IsBare w
    bare_word x w none e = none_bare g.vars σ s.top.vars s.below (uses refs_in s.cells) x w s.top.ledger m none e

    usable_held : (x : ℕ) (w : Word) → IsUsable g.vars σ x → slice_get s.top.vars x ≡ Some w → IsHeldOn w
    usable_held x w u e c =
        ⊎_elim
        (λ le. omega (arith, m.owned c, total-has σ.owns s.top.vars x w c le e))
        (λ l. ⊎_elim (λ t. omega (arith, m.lent x w t e c)) (λ t. omega (arith, bare_word x w t e c)) l)
        u

    at_hand_there : (x : ℕ) (w : Word) → IsAtHand g.vars σ x → slice_get s.top.vars x ≡ Some w → IsThere w
    at_hand_there x w h e c =
        ⊎_elim (λ u. omega (arith, usable_held x w u e c)) (λ t. omega (arith, m.held x w t e c)) h

    safe_content : (c : ℕ) (go : Content → Next) → 1 ≤ times s.top.ledger c + owned_below s.below c + uses refs_in s.cells c → ((x : Content) → content_at s.cells c ≡ Some x → P (go x)) → P (if_content true s c go)
    safe_content c go le h =
        let t = there s.cells c (omega (arith, ok c, le)) in
        subst (λ o. P (if_some true s fault.Dead o go)) (sym t.1) (h t.0 t.1)

    safe_some : {A : Type 0} (o : Option A) (go : A → Next) → ((a : A) → o ≡ Some a → P (go a)) → P (if_some true s fault.Kind o go)
    safe_some None go h = fine (Faulted fault.Kind) s tt
    safe_some (Some a) go h = h a refl

    safe_word : (x : ℕ) (go : Word → Next) → ((w : Word) → slice_get s.top.vars x ≡ Some w → P (go w)) → P (word_of true s x go)
    safe_word x go h = safe_some (slice_get s.top.vars x) go h

    safe_calm : (o : Option ℕ) (go : Next) → P go → P (if_calm true s o go)
    safe_calm None go h = h
    safe_calm (Some c) go h = fine (Faulted fault.Kind) s tt

    safe_true : (b : Bool) (go : Next) → (b ≡ true → P go) → P (if_true true s b go)
    safe_true true go h = h refl
    safe_true false go h = fine (Faulted fault.Kind) s tt

    -- what is known of an argument beside its word
    abbrev IsKnown : Argument → Type 0
    IsKnown a = IsTidy code a × IsStored (uses refs_in s.cells) a

    safe_there : (w : Word) (go : Argument → Next) → IsThere w → ((a : Argument) → Reads w a → IsKnown a → P (go a)) → P (if_there true s w go)
    safe_there (BigInt c) go held h = safe_content c _ (omega (arith, held c, same_self c)) (λ x e. h (Cell c x) (λ d. refl, λ b. tt) (slots c x e, λ d. held-uses refs_in s.cells c d x e))
    safe_there (ObjectCell c) go held h = safe_content c _ (omega (arith, held c, same_self c)) (λ x e. h (Cell c x) (λ d. refl, λ b. tt) (slots c x e, λ d. held-uses refs_in s.cells c d x e))
    safe_there w go held h = h (Plain w) (λ d. refl, λ b. tt) (tt, tt)

    -- ---- references leave a ledger
    safe_any : (n : ℕ) (go : Next) → 1 ≤ n → P go → P (if_any true s n go)
    safe_any zero go le h = absurd (omega (arith, le))
    safe_any (suc n) go le h = h

    safe_taken : (c : ℕ) (l : Ledger) (go : Ledger → Next) → 1 ≤ times l c → ((r : Ledger) → ((d : ℕ) → times l d ≡ same c d + times r d) → P (go r)) → P (if_taken true s c l go)
    safe_taken c l go le h = safe_any (times l c) _ le (h (without c l) (without-times c l le))

    safe_stolen : (a : Argument) (w : Word) (l : Ledger) (go : Ledger → Next) → Reads w a → ((c : ℕ) → times (refs_of w) c ≤ times l c) → ((r : Ledger) → ((c : ℕ) → times l c ≡ times (refs_of w) c + times r c) → P (go r)) → P (if_stolen true s a l go)
    safe_stolen (Cell c x) w l go read held h =
        safe_taken c l go (omega (arith, held c, read.0 c, same_self c)) (λ r took. h r (λ d. omega (arith, took d, read.0 d)))
    safe_stolen (Plain v) w l go read held h = h l (λ d. omega (arith, read.0 d))
    safe_stolen (Written v) w l go read held h = h l (λ d. omega (arith, read.0 d))

    -- ---- the arguments of a primitive
    safe_variable : (k : Kind) (hold : Holding) (x : ℕ) (go : Argument → Next) → IsAtHand g.vars σ x → ((w : Word) (a : Argument) → slice_get s.top.vars x ≡ Some w → Reads w a → IsKnown a → P (go a)) → P (if_variable true s k hold x go)
    safe_variable k hold x go u h =
        safe_word x _ (λ w at. safe_true (is_value_of k w) _ (λ value. safe_there w _ (at_hand_there x w u at) (λ a read tidy. safe_true (is_holding hold a) (go a) (λ holds. h w a at read tidy))))

    abbrev Owns : Ledger → (ℕ → ℕ) → Type 0
    Owns l k = (c : ℕ) → times l c ≡ total k s.top.vars c

    abbrev IsLeft : (ℕ → ℕ) → Type 0
    IsLeft k = (r : ℕ) → k r ≤ σ.owns r

    safe_steal : (x : ℕ) (w : Word) (a : Argument) (k : ℕ → ℕ) (l : Ledger) (go : Ledger → Next) → (1 ≤ k x) ⊎ HasNone g.vars σ x → slice_get s.top.vars x ≡ Some w → Reads w a → Owns l k → ((r : Ledger) → Owns r (put x (k x - 1) k) → P (go r)) → P (if_stolen true s a l go)
    safe_steal x w a k l go has at read owned h =
        ⊎_elim
        (λ le. safe_stolen a w l go read (λ c. omega (arith, owned c, total-has k s.top.vars x w c le at)) (λ r took. h r (λ c. omega (arith, owned c, took c, total-less k s.top.vars x w c at le))))
        (λ f. safe_stolen a w l go read (λ c. omega (arith, bare_word x w f at c)) (λ r took. h r (λ c. omega (arith, owned c, took c, bare_word x w f at c, total-bare k s.top.vars x (k x - 1) w c at (bare_word x w f at)))))
        has

    taken_left : (p : Parameter) (a : CArg) (k : ℕ → ℕ) → IsLeft k → IsLeft (one_taken g.vars p a k)
    taken_left (Steals kind hold) (arg.Var x) k left r = put-most x (k x - 1) k σ.owns r (omega (arith, left x)) left
    taken_left (MaySteal kind hold) (arg.Var x) k left r = put-most x (k x - 1) k σ.owns r (omega (arith, left x)) left
    taken_left _ _ k left r = left r

    safe_argument : (p : Parameter) (a : CArg) (earlier : List Argument) (k : ℕ → ℕ) (l : Ledger) (go : Argument → Ledger → Next) → IsGiven g.vars σ p a k → IsLeft k → Owns l k → ((y : Argument) (r : Ledger) → IsAsWritten a y → IsKnown y → Owns r (one_taken g.vars p a k) → P (go y r)) → P (if_argument true s code p a earlier l go)
    safe_argument (Borrows kind hold) (arg.Var x) earlier k l go has left owned h =
        safe_some (kind_found code kind earlier) _ (λ found e. safe_variable found hold x _ has (λ w a at read tidy. h a l (read.1 (arg.Var x)) tidy owned))
    safe_argument (Steals kind hold) (arg.Var x) earlier k l go has left owned h =
        safe_some (kind_found code kind earlier) _
        (λ found e. safe_variable found hold x _ (⊎_elim (λ le. inl (inl (omega (arith, le, left x)))) (λ f. inl (inr (inr f))) has)
        (λ w a at read tidy. safe_steal x w a k l (go a) has at read owned (λ r. h a r (read.1 (arg.Var x)) tidy)))
    safe_argument (MaySteal kind hold) (arg.Var x) earlier k l go has left owned h =
        safe_some (kind_found code kind earlier) _
        (λ found e. safe_variable found hold x _ (⊎_elim (λ le. inl (inl (omega (arith, le, left x)))) (λ f. inl (inr (inr f))) has)
        (λ w a at read tidy. safe_steal x w a k l (go a) has at read owned (λ r. h a r (read.1 (arg.Var x)) tidy)))
    safe_argument TakesNumber (arg.Number n) earlier k l go has left owned h = h (Written (arg.Number n)) l refl (tt, tt) owned
    safe_argument TakesPlace (arg.Number n) earlier k l go has left owned h = h (Written (arg.Number n)) l refl (tt, tt) owned
    safe_argument TakesText (arg.Text text) earlier k l go has left owned h = h (Written (arg.Text text)) l refl (tt, tt) owned
    safe_argument TakesDecimal (arg.Text text) earlier k l go has left owned h = h (Written (arg.Text text)) l refl (tt, tt) owned
    safe_argument TakesException (arg.Text text) earlier k l go has left owned h = h (Written (arg.Text text)) l refl (tt, tt) owned
    safe_argument TakesGlobal (arg.Global name) earlier k l go has left owned h = h (Written (arg.Global name)) l refl (tt, tt) owned
    safe_argument TakesClass (arg.Class name) earlier k l go has left owned h = h (Written (arg.Class name)) l refl (tt, tt) owned
    safe_argument _ _ earlier k l go has left owned h = fine (Faulted fault.Kind) s tt

    safe_arguments : (ps : List Parameter) (args : List CArg) (earlier : List Argument) (k : ℕ → ℕ) (l : Ledger) (go : List Argument → Ledger → Next) → AreGiven g.vars σ ps args k → IsLeft k → Owns l k → ((all : List Argument) (r : Ledger) → AreAsWritten args all → AreTidy code all → AreStored (uses refs_in s.cells) all → Owns r (left_over g.vars ps args k) → P (go all r)) → P (if_arguments true s code ps args earlier l go)
    safe_arguments [] [] earlier k l go has left owned h = h [] l tt tt tt owned
    safe_arguments (p ∷ ps) (a ∷ rest) earlier k l go has left owned h =
        safe_argument p a earlier k l _ has.0 left owned
        (λ y r first tidy rests. safe_arguments ps rest (earlier ++ y ∷ []) (one_taken g.vars p a k) r (λ others. go (y ∷ others)) has.1 (taken_left p a k left) rests
        (λ all last others tidies stored ends. h (y ∷ all) last (first, others) (tidy.0, tidies) (tidy.1, stored) ends))
    safe_arguments (p ∷ ps) [] earlier k l go has left owned h = safe_true (may_end (p ∷ ps)) (go [] l) (λ e. h [] l tt tt tt owned)
    safe_arguments [] (a ∷ rest) earlier k l go has left owned h = fine (Faulted fault.Kind) s tt

    -- ---- what a primitive does, where the ledger l is what variables own after the arguments
    -- a state at the next line, where the target has a word and the frame these shares
    safe_answer : (x : Option ℕ) (τ : Shares) (w : Word) (cells : Cells Content) (r : Ledger) (gs : List (Option Word)) (p : Option ℕ) (output : List ℕ) (items : Items) (made : List ℕ) → Go τ → Meets g.vars τ (set_target x w s.top.vars) r s.below (uses refs_in cells) → GlobalsBare code gs → SlotsBare code cells → P (Goes (next_line (with_target x w (record s { cells = cells; top = record s.top { ledger = r }; globals = gs; pending = p; output = output; items = items; made = made }))))
    safe_answer None τ w cells r gs p output items made go meets numbers tidy =
        arr _ (record { σ = τ; func = refl; place = refl; into = refl; below = refl; go = go; meets = meets; waits = waits; globals = numbers; slots = tidy })
    safe_answer (Some x) τ w cells r gs p output items made go meets numbers tidy =
        arr _ (record { σ = τ; func = refl; place = refl; into = refl; below = refl; go = go; meets = meets; waits = waits; globals = numbers; slots = tidy })

    module _ (o : Outcome) (b : Bool) (x : Option ℕ) (k : ℕ → ℕ) (l : Ledger) (owned : Owns l k) (has : HasTarget o x) (at : HasRoom g.vars o b x) (none : IsFree g.vars k σ.empty x) (noisy : Bool) (go : Go (with_outcome g.vars o x (unheld_if noisy (record σ { owns = k })))) where
      abbrev before : Shares
      before = unheld_if noisy (record σ { owns = k })

      abbrev after : Shares
      after = with_outcome g.vars o x (unheld_if noisy (record σ { owns = k }))

      -- unless something may be let go of, contents hold as much as before
      abbrev Keeps : Cells Content → Type 0
      Keeps cells = noisy ≡ false → (c : ℕ) → uses refs_in s.cells c ≤ uses refs_in cells c

      still : (cells : Cells Content) → Keeps cells → (r : ℕ) (w : Word) → (σ.held r && not noisy) ≡ true → slice_get s.top.vars r ≡ Some w → (c : ℕ) → times (refs_of w) c ≤ owned_below s.below c + uses refs_in cells c
      still cells keeps =
          held-still g.vars σ s.top.vars s.below (uses refs_in s.cells) noisy (uses refs_in cells) keeps m.held

      -- the word's reference comes to the ledger, or it has none
      safe_owned : (w : Word) (cells : Cells Content) (r : Ledger) (gs : List (Option Word)) (p : Option ℕ) (output : List ℕ) (items : Items) (made : List ℕ) → IsOwned o ⊎ IsBare w → (b ≡ false → IsBare w) → ((c : ℕ) → times r c ≡ times l c + times (refs_of w) c) → GlobalsBare code gs → SlotsBare code cells → Keeps cells → P (Goes (next_line (with_target x w (record s { cells = cells; top = record s.top { ledger = r }; globals = gs; pending = p; output = output; items = items; made = made }))))
      safe_owned w cells r gs p output items made own sure e numbers tidy keeps =
          safe_answer x after w cells r gs p output items made go
          (meets-outcome g.vars before s.top.vars s.below (uses refs_in cells) o b x w r m.size m.lent (still cells keeps) m.empty m.bare at sure none (λ c. omega (arith, e c, owned c)) own)
          numbers tidy

      -- a word without a cell
      safe_bare : (w : Word) (cells : Cells Content) (gs : List (Option Word)) (p : Option ℕ) (output : List ℕ) (items : Items) → IsBare w → GlobalsBare code gs → SlotsBare code cells → Keeps cells → P (Goes (next_line (with_target x w (record s { cells = cells; top = record s.top { ledger = l }; globals = gs; pending = p; output = output; items = items }))))
      safe_bare w cells gs p output items no_cell numbers tidy keeps =
          safe_owned w cells l gs p output items s.made (inr no_cell) (λ f. no_cell) (λ c. omega (arith, no_cell c)) numbers tidy keeps

      -- a row that answers nothing
      safe_act : (cells : Cells Content) (gs : List (Option Word)) (p : Option ℕ) (output : List ℕ) → o ≡ Nothing → GlobalsBare code gs → SlotsBare code cells → Keeps cells → P (Goes (next_line (record s { cells = cells; top = record s.top { ledger = l }; globals = gs; pending = p; output = output })))
      safe_act cells gs p output acts numbers tidy keeps =
          let missing : x ≡ None = subst (λ z. HasTarget z x) acts has in
          subst (λ z. P (Goes (next_line (with_target z NoneObject (record s { cells = cells; top = record s.top { ledger = l }; globals = gs; pending = p; output = output }))))) missing
          (safe_bare NoneObject cells gs p output s.items (λ c. refl) numbers tidy keeps)

      -- where nothing is let go of nothing was stolen
      abbrev IsCalm : List ℕ → Type 0
      IsCalm gone = noisy ≡ false → gone ≡ []

      taken_keeps : (gone : List ℕ) (c : ℕ) → IsCalm gone → Keeps (release refs_in (take_one c s.cells) gone)
      taken_keeps gone c calm e d =
          omega (arith, given_uses (take_one c s.cells) gone (calm e) d, uses-take_one refs_in s.cells c d)

      given_keeps : (gone : List ℕ) → IsCalm gone → Keeps (release refs_in s.cells gone)
      given_keeps gone calm e = given_uses s.cells gone (calm e)

      made_keeps : (content : Content) → Keeps (make content s.cells)
      made_keeps content e d = omega (arith, uses-make refs_in s.cells d content)

      safe_shared : (gone : List ℕ) (w : Word) → IsCalm gone → IsOwned o → (b ≡ false → IsBare w) → P (Goes (next_line (with_target x w (given true s gone (shared w (with_ledger l s))))))
      safe_shared gone (BigInt c) calm own sure =
          safe_owned (BigInt c) (release refs_in (take_one c s.cells) gone) (more c l) s.globals s.pending s.output s.items s.made (inl own) sure (λ d. omega (arith, more-times c l d)) bare (given_bare code (take_one c s.cells) (taken_bare code s.cells slots c) gone) (taken_keeps gone c calm)
      safe_shared gone (ObjectCell c) calm own sure =
          safe_owned (ObjectCell c) (release refs_in (take_one c s.cells) gone) (more c l) s.globals s.pending s.output s.items s.made (inl own) sure (λ d. omega (arith, more-times c l d)) bare (given_bare code (take_one c s.cells) (taken_bare code s.cells slots c) gone) (taken_keeps gone c calm)
      safe_shared gone w calm own sure =
          safe_owned w (release refs_in s.cells gone) l s.globals s.pending s.output s.items s.made (inl own) sure (λ d. omega arith) bare (given_bare code s.cells slots gone) (given_keeps gone calm)

      -- a new cell, which the frame owns
      safe_made : (word : ℕ → Word) (content : Content) (items : Items) (made : List ℕ) → ((c d : ℕ) → times (refs_of (word c)) d ≡ same c d) → IsOwned o → b ≡ true → HasBareSlots code content → P (Goes (next_line (with_target x (word (length s.cells)) (record s { cells = make content s.cells; top = record s.top { ledger = more (length s.cells) l }; items = items; made = made }))))
      safe_made word content items made refers own t tidy =
          safe_owned (word (length s.cells)) (make content s.cells) (more (length s.cells) l) s.globals s.pending s.output items made (inl own) (λ f. cc) (λ c. omega (arith, more-times (length s.cells) l c, refers (length s.cells) c)) bare (made_bare code s.cells slots content tidy) (made_keeps content)

      -- a new exception is pending
      safe_failed : (gone : List ℕ) (w : Word) (e : Thrown) (items : Items) → IsCalm gone → IsBare w → P (Goes (next_line (with_target x w (record s { cells = make (ExcCell e) (release refs_in s.cells gone); top = record s.top { ledger = l }; pending = Some (length (release refs_in s.cells gone)); items = items }))))
      safe_failed gone w e items calm t =
          safe_bare w (make (ExcCell e) (release refs_in s.cells gone)) s.globals (Some (length (release refs_in s.cells gone))) s.output items t bare (made_bare code (release refs_in s.cells gone) (given_bare code s.cells slots gone) (ExcCell e) tt)
          (λ f d. omega (arith, given_keeps gone calm f d, uses-make refs_in (release refs_in s.cells gone) d (ExcCell e)))

      loud : noisy ≡ false → noisy ≡ true → ⊥
      loud f t = let both : false ≡ true = sym f ∙ t in cc

      safe_applied : (gone : List ℕ) (e : Effect) → IsCalm gone → Tame (uses refs_in s.cells) noisy code s.globals o b e → P (applied true s x l gone e)
      safe_applied gone Wrong calm t = fine (Faulted fault.Kind) s tt
      safe_applied gone (Says w) calm t =
          safe_bare w (release refs_in s.cells gone) s.globals s.pending s.output s.items t bare (given_bare code s.cells slots gone) (given_keeps gone calm)
      safe_applied gone (SharesWord w) calm t = safe_shared gone w calm t.0 t.1
      safe_applied gone (LendsWord w) calm t =
          safe_answer x after w (release refs_in s.cells gone) l s.globals s.pending s.output s.items s.made go
          (meets-lent g.vars before s.top.vars s.below (uses refs_in (release refs_in s.cells gone)) o b x w l m.size m.lent (still (release refs_in s.cells gone) (given_keeps gone calm)) m.empty m.bare at t.1 none owned (λ c. omega (arith, t.3 c, given_keeps gone calm t.2 c)) t.0)
          bare (given_bare code s.cells slots gone)
      safe_applied gone (Changes c content w up) calm t =
          safe_owned w (release refs_in (refill content c s.cells) up) (more_of (refs_of w) l) s.globals s.pending s.output s.items s.made (inl t.0) t.1 (λ d. omega (arith, more_of-times (refs_of w) l d)) bare (given_bare code (refill content c s.cells) (refilled_bare code s.cells slots content c t.2) up) (λ f. absurd (loud f t.3))
      safe_applied gone (Makes content) calm t = safe_made ObjectCell content s.items (noted content (length s.cells) s.made) (λ c d. omega arith) t.0 t.1 t.2
      safe_applied gone (Writes text) calm t = safe_act (release refs_in s.cells gone) s.globals s.pending (s.output ++ text) t bare (given_bare code s.cells slots gone) (given_keeps gone calm)
      safe_applied gone (Stores n old new) calm t =
          safe_act (release refs_in s.cells (set_refs (old ∷ []))) (slice_set s.globals n new) s.pending s.output t.0 t.1 (given_bare code s.cells slots (set_refs (old ∷ []))) (λ f. absurd (loud f t.2))
      safe_applied gone (Fails w e) calm t = safe_failed gone w e s.items calm t
      safe_applied gone (Pends c) calm t = safe_act s.cells s.globals (Some c) s.output t bare slots (λ f d. omega arith)
      safe_applied gone (Catches c) calm t =
          let may : b ≡ true = t.1 in
          safe_owned (ObjectCell c) s.cells (more c l) s.globals None s.output s.items s.made (inl t.0) (λ f. cc) (λ d. omega (arith, more-times c l d)) bare slots (λ f d. omega arith)
      safe_applied gone (MakesInt n) calm t = safe_made BigInt (IntCell n) s.items s.made (λ c d. omega arith) t.0 t.1 tt
      safe_applied gone (ReadsLine text next) calm t = safe_made ObjectCell (StrCell text) next s.made (λ c d. omega arith) t.0 t.1 tt
      safe_applied gone (Skips next w e) calm t = safe_failed gone w e next calm t
      safe_applied gone (Stops e) calm t = fine (Ended e) s tt

    -- what steals nothing leaves nothing that was stolen, and what lets nothing go steals nothing
    none_stolen : (ps : List Parameter) (all : List Argument) → steals ps ≡ false → stolen ps all ≡ []
    none_stolen [] all e = refl
    none_stolen (p ∷ ps) [] e = refl
    none_stolen (Steals kind hold ∷ ps) (a ∷ all) e = cc
    none_stolen (MaySteal kind hold ∷ ps) (a ∷ all) e = cc
    none_stolen (Borrows kind hold ∷ ps) (a ∷ all) e = none_stolen ps all e
    none_stolen (TakesNumber ∷ ps) (a ∷ all) e = none_stolen ps all e
    none_stolen (TakesPlace ∷ ps) (a ∷ all) e = none_stolen ps all e
    none_stolen (TakesText ∷ ps) (a ∷ all) e = none_stolen ps all e
    none_stolen (TakesDecimal ∷ ps) (a ∷ all) e = none_stolen ps all e
    none_stolen (TakesException ∷ ps) (a ∷ all) e = none_stolen ps all e
    none_stolen (TakesGlobal ∷ ps) (a ∷ all) e = none_stolen ps all e
    none_stolen (TakesClass ∷ ps) (a ∷ all) e = none_stolen ps all e

    calm_stolen : (p : Primitive) (all : List Argument) → is_noisy p ≡ false → stolen (row_of p).parameters all ≡ []
    calm_stolen (prim.List list.Pop) all e = cc
    calm_stolen (prim.Dict dict.DelItem) all e = cc
    calm_stolen (prim.Global global.Clear) all e = cc
    calm_stolen p all e = none_stolen (row_of p).parameters all e

    safe_may_stand : (b : Bool) (go : Next) → P go → P (if_may_stand true s b go)
    safe_may_stand true go h = h
    safe_may_stand false go h = safe_calm s.pending go h

    -- the kind of a variable is that of its declaration
    kind_is : (y : ℕ) → kind_of code s.top y ≡ kind_at g.vars y
    kind_is y = ap (option_and_then (λ h. kind_at h.vars y)) is

    safe_primitive : (x : Option ℕ) (args : List CArg) (p : Primitive) → PrimitiveChecks code g (Enters s.top.func) σ x args p Go → P (called true s code x args p)
    safe_primitive x args p h =
        safe_may_stand (row_of p).while_pending _
        (safe_arguments (row_of p).parameters args [] σ.owns s.top.ledger _ h.0 (λ r. omega arith) m.owned
        (λ all l written tidy stored owned. safe_true (answer_fits code s.top (row_of p).outcome x all) _
        (λ fits. safe_applied (row_of p).outcome (answers_cells code args (target_kind g.vars x) (row_of p).outcome) x (left_over g.vars (row_of p).parameters args σ.owns) l owned h.1 h.2 h.3 (is_noisy p) h.4 (stolen (row_of p).parameters all) (effect code s p all) (calm_stolen p all)
        (tame (uses refs_in s.cells) (is_noisy p) code s p (target_kind g.vars x) args all (record {
          noise = refl;
          stored = stored;
          globals = bare;
          written = written;
          slots = λ a. tidy;
          slot = answer_bare code s.top g.vars kind_is x all (row_of p).outcome fits;
        })))))

    -- ---- counts
    safe_more : (x : ℕ) (w : Word) (cells : Cells Content) (r : Ledger) → SlotsBare code cells → ((c : ℕ) → uses refs_in s.cells c ≤ uses refs_in cells c) → slice_get s.top.vars x ≡ Some w → Go (with_owns x (σ.owns x + 1) σ) → ((c : ℕ) → times r c ≡ times s.top.ledger c + times (refs_of w) c) → P (Goes (next_line (record s { cells = cells; top = record s.top { ledger = r } })))
    safe_more x w cells r tidy keeps at h e =
        arr _ (record { σ = with_owns x (σ.owns x + 1) σ; func = refl; place = refl; into = refl; below = refl; go = h; meets = meets-kept g.vars (with_owns x (σ.owns x + 1) σ) s.top.vars s.below (uses refs_in s.cells) r (uses refs_in cells) keeps (meets-more g.vars σ s.top.vars s.below (uses refs_in s.cells) x w s.top.ledger r m at e); waits = waits; globals = bare; slots = tidy })

    safe_less : (x : ℕ) (w : Word) (cells : Cells Content) (r : Ledger) → SlotsBare code cells → slice_get s.top.vars x ≡ Some w → IsGivable g.vars σ x → Go (unheld (with_owns x (σ.owns x - 1) σ)) → ((c : ℕ) → times s.top.ledger c ≡ times (refs_of w) c + times r c) → P (Goes (next_line (record s { cells = cells; top = record s.top { ledger = r } })))
    safe_less x w cells r tidy at le h e =
        arr _ (record { σ = unheld (with_owns x (σ.owns x - 1) σ); func = refl; place = refl; into = refl; below = refl; go = h; meets = meets-unheld g.vars (with_owns x (σ.owns x - 1) σ) s.top.vars s.below (uses refs_in s.cells) r (uses refs_in cells) (meets-less g.vars σ s.top.vars s.below (uses refs_in s.cells) x w s.top.ledger r m at le e); waits = waits; globals = bare; slots = tidy })

    safe_increment : (x : ℕ) (w : Word) → IsAtHand g.vars σ x → slice_get s.top.vars x ≡ Some w → Go (with_owns x (σ.owns x + 1) σ) → P (incremented true s w)
    safe_increment x (BigInt c) u at h =
        safe_content c _ (omega (arith, at_hand_there x (BigInt c) u at c, same_self c)) (λ v e. safe_more x (BigInt c) (take_one c s.cells) (more c s.top.ledger) (taken_bare code s.cells slots c) (λ d. omega (arith, uses-take_one refs_in s.cells c d)) at h (λ d. omega (arith, more-times c s.top.ledger d)))
    safe_increment x (ObjectCell c) u at h =
        safe_content c _ (omega (arith, at_hand_there x (ObjectCell c) u at c, same_self c)) (λ v e. safe_more x (ObjectCell c) (take_one c s.cells) (more c s.top.ledger) (taken_bare code s.cells slots c) (λ d. omega (arith, uses-take_one refs_in s.cells c d)) at h (λ d. omega (arith, more-times c s.top.ledger d)))
    safe_increment x (ShortInt n) u at h = safe_more x (ShortInt n) s.cells s.top.ledger slots (λ d. omega arith) at h (λ d. omega arith)
    safe_increment x NoneObject u at h = safe_more x NoneObject s.cells s.top.ledger slots (λ d. omega arith) at h (λ d. omega arith)
    safe_increment x TrueObject u at h = safe_more x TrueObject s.cells s.top.ledger slots (λ d. omega arith) at h (λ d. omega arith)
    safe_increment x FalseObject u at h = safe_more x FalseObject s.cells s.top.ledger slots (λ d. omega arith) at h (λ d. omega arith)
    safe_increment x _ u at h = fine (Faulted fault.Kind) s tt

    safe_given_up : (x c : ℕ) (w : Word) → ((d : ℕ) → times (refs_of w) d ≡ same c d) → slice_get s.top.vars x ≡ Some w → IsGivable g.vars σ x → Go (unheld (with_owns x (σ.owns x - 1) σ)) → P (given_up true s c)
    safe_given_up x c w is_cell at may h =
        let held : 1 ≤ times s.top.ledger c = ⊎_elim
        (λ le. omega (arith, m.owned c, total-has σ.owns s.top.vars x w c le at, is_cell c, same_self c))
        (λ none. absurd (omega (arith, bare_word x w none at c, is_cell c, same_self c)))
        may in
        safe_content c _ (omega (arith, held))
        (λ v e. safe_taken c s.top.ledger _ held (λ r took. safe_less x w (release refs_in s.cells (c ∷ [])) r (given_bare code s.cells slots (c ∷ [])) at may h (λ d. omega (arith, took d, is_cell d))))

    safe_decrement : (x : ℕ) (w : Word) → slice_get s.top.vars x ≡ Some w → IsGivable g.vars σ x → Go (unheld (with_owns x (σ.owns x - 1) σ)) → P (decremented true s w)
    safe_decrement x (BigInt c) at le h = safe_given_up x c (BigInt c) (λ d. omega arith) at le h
    safe_decrement x (ObjectCell c) at le h = safe_given_up x c (ObjectCell c) (λ d. omega arith) at le h
    safe_decrement x (ShortInt n) at le h = safe_less x (ShortInt n) s.cells s.top.ledger slots at le h (λ d. omega arith)
    safe_decrement x NoneObject at le h = safe_less x NoneObject s.cells s.top.ledger slots at le h (λ d. omega arith)
    safe_decrement x TrueObject at le h = safe_less x TrueObject s.cells s.top.ledger slots at le h (λ d. omega arith)
    safe_decrement x FalseObject at le h = safe_less x FalseObject s.cells s.top.ledger slots at le h (λ d. omega arith)
    safe_decrement x _ at le h = fine (Faulted fault.Kind) s tt

    safe_decrement_if_set : (x : ℕ) (w : Word) → slice_get s.top.vars x ≡ Some w → IsGivable g.vars σ x → Go (unheld (with_owns x (σ.owns x - 1) σ)) → P (decremented_if_set true s w)
    safe_decrement_if_set x TaggedError at le h = safe_less x TaggedError s.cells s.top.ledger slots at le h (λ d. omega arith)
    safe_decrement_if_set x NoObject at le h = safe_less x NoObject s.cells s.top.ledger slots at le h (λ d. omega arith)
    safe_decrement_if_set x w at le h = safe_decrement x w at le h

    -- ---- moves, literals and turns
    safe_move : (x y : ℕ) (w : Word) → slice_get s.top.vars y ≡ Some w → MoveChecks code g (Enters s.top.func) σ x y Go → P (if_there true s w (λ a. Goes (next_line (with_var x w s))))
    safe_move x y w at h =
        let number : may_refer g.vars x ≡ false → IsBare w = λ f. m.bare y w (h.0.1 f) at in
        let lent_on : IsLent g.vars σ y → (c : ℕ) → times (refs_of w) c ≤ owned_below s.below c = λ l c.
        ⊎_elim (λ u. m.lent y w u at c) (λ u. omega (arith, bare_word y w u at c)) l in
        ⊎_elim
        (λ a. safe_there w _ (at_hand_there y w (inl (inl a.0)) at) (λ v read tidy. arr _ (record {
          σ = with_share x 1 a.2.0 (with_owns y (σ.owns y - 1) σ);
          func = refl;
          place = refl;
          into = refl;
          below = refl;
          go = a.2.2;
          meets = meets-write g.vars (with_owns y (σ.owns y - 1) σ) s.top.vars s.below (uses refs_in s.cells) x (record { owns = 1; lent = a.2.0; held = false; empty = false }) w s.top.ledger m.size m.lent m.held m.empty m.bare h.0.0 a.1 (λ c. omega (arith, m.owned c, total-less σ.owns s.top.vars y w c at a.0, many-one (times (refs_of w) c))) (λ t. lent_on (a.2.1 t)) (λ t. cc) (λ t. absurd (cc)) number;
          waits = waits;
          globals = bare;
          slots = slots;
        })))
        (λ o. ⊎_elim
        (λ a. safe_there w _ (at_hand_there y w (inl (inr a.0)) at) (λ v read tidy. arr _ (record {
          σ = with_share x 0 (may_refer g.vars x) σ;
          func = refl;
          place = refl;
          into = refl;
          below = refl;
          go = a.2;
          meets = meets-write g.vars σ s.top.vars s.below (uses refs_in s.cells) x (record { owns = 0; lent = may_refer g.vars x; held = false; empty = false }) w s.top.ledger m.size m.lent m.held m.empty m.bare h.0.0 a.1 (λ c. omega (arith, m.owned c)) (λ t. lent_on a.0) (λ t. cc) (λ t. absurd (cc)) number;
          waits = waits;
          globals = bare;
          slots = slots;
        })))
        (λ o. ⊎_elim
        (λ a. safe_there w _ (at_hand_there y w (⊎_elim (λ l. inl (inr l)) (λ t. inr t) a.0) at) (λ v read tidy. arr _ (record {
          σ = with_held x σ;
          func = refl;
          place = refl;
          into = refl;
          below = refl;
          go = a.2;
          meets = meets-write g.vars σ s.top.vars s.below (uses refs_in s.cells) x (record { owns = 0; lent = false; held = true; empty = false }) w s.top.ledger m.size m.lent m.held m.empty m.bare h.0.0 a.1 (λ c. omega (arith, m.owned c)) (λ t. cc) (λ t c. ⊎_elim (λ l. omega (arith, lent_on l c)) (λ u. m.held y w u at c) a.0) (λ t. absurd (cc)) number;
          waits = waits;
          globals = bare;
          slots = slots;
        })))
        (λ o. ⊎_elim
        (λ a. safe_there w _ (at_hand_there y w (inl (inr (inr a.0))) at) (λ v read tidy. arr _ (record {
          σ = with_empty x σ;
          func = refl;
          place = refl;
          into = refl;
          below = refl;
          go = a.2;
          meets = meets-write g.vars σ s.top.vars s.below (uses refs_in s.cells) x (record { owns = 0; lent = false; held = false; empty = true }) w s.top.ledger m.size m.lent m.held m.empty m.bare h.0.0 a.1 (λ c. omega (arith, m.owned c)) (λ t. cc) (λ t. cc) (λ t. bare_word y w a.0 at) number;
          waits = waits;
          globals = bare;
          slots = slots;
        })))
        (λ a. let at_x : slice_get s.top.vars x ≡ Some w = ap (slice_get s.top.vars) a.0 ∙ at in
        safe_there w _ (at_hand_there x w a.1 at_x) (λ v read tidy. arr _ (record {
          σ = σ;
          func = refl;
          place = refl;
          into = refl;
          below = refl;
          go = a.2;
          meets = subst (λ ws. Meets g.vars σ ws s.top.ledger s.below (uses refs_in s.cells)) (sym (set-same s.top.vars x w at_x)) m;
          waits = waits;
          globals = bare;
          slots = slots;
        })))
        o)
        o)
        o)
        h.1

    safe_turn : (n : ℕ) → Go σ → P (turned true s n)
    safe_turn zero h = fine (Ended Cut) s tt
    safe_turn (suc n) h = arr _ (record { σ = σ; func = refl; place = refl; into = refl; below = refl; go = h; meets = m; waits = waits; globals = bare; slots = slots })

    safe_call : (x : Option ℕ) (name : List ℕ) (args : List CArg) (o : Option Primitive) → IsPrimitive o → CallChecks code g (Enters s.top.func) σ x name args o Go → P (call_step true s code x name args o)
    safe_call x name args None q h = absurd q
    safe_call x name args (Some p) q h = safe_primitive x args p h

    pub safe_straight : (l : Line) → IsStraight l → LineChecks code g (Enters s.top.func) σ l Go → P (step_at true code s (Some l))
    safe_straight Label q h = arr _ (record { σ = σ; func = refl; place = refl; into = refl; below = refl; go = h; meets = m; waits = waits; globals = bare; slots = slots })
    safe_straight (Move x y) q h = safe_word y _ (λ w at. safe_move x y w at h)
    safe_straight (Lit x l) q h =
        safe_some (option_and_then (λ k. literal_word k l) (kind_of code s.top x)) _
        (λ w e. let none : IsBare w = subst IsNoneOrBare e (written_bare (kind_of code s.top x) l) in arr _ (record {
          σ = with_state x h.2.0 σ;
          func = refl;
          place = refl;
          into = refl;
          below = refl;
          go = h.2.1;
          meets = meets-write g.vars σ s.top.vars s.below (uses refs_in s.cells) x h.2.0 w s.top.ledger m.size m.lent m.held m.empty m.bare h.0 h.1 (λ c. omega (arith, m.owned c, ap (many h.2.0.owns) (none c), many-none h.2.0.owns)) (λ t c. omega (arith, none c)) (λ t c. omega (arith, none c)) (λ t. none) (λ f. none);
          waits = waits;
          globals = bare;
          slots = slots;
        }))
    safe_straight (Call x name args) q h = safe_call x name args (primitive_named name) q h
    safe_straight Turn q h = safe_calm s.pending _ (safe_turn s.turns h)
    safe_straight (Inc x) q h = safe_word x _ (λ w at. safe_increment x w h.0 at h.1)
    safe_straight (Dec x) q h = safe_word x _ (λ w at. safe_decrement x w at h.0 h.1)
    safe_straight (XDec x) q h = safe_word x _ (λ w at. safe_decrement_if_set x w at h.0 h.1)
    safe_straight (Virtual x o n args) q h = absurd q
    safe_straight (TraitCall x o t n args) q h = absurd q
    safe_straight (Goto n) q h = absurd q
    safe_straight (If x n k) q h = absurd q
    safe_straight (IfError x n k) q h = absurd q
    safe_straight (Return x) q h = absurd q

    -- ---- lines that go elsewhere, where Go is that the shares are those of the next place
    module _ (kept : AreKept) (at : At s.top.func s.top.place σ) (resume : (τ : Shares) → Go τ → Follows s.top.func s.top.place τ) (off : (t : MachineState) → IsMet code At t → P (Goes t)) where
      label_is : (n : ℕ) → label_at code s.top n ≡ slice_get (label_places g.lines) n
      label_is n = ap (option_and_then (λ h. slice_get (label_places h.lines) n)) is

      safe_jump : (n : ℕ) (τ : Shares) → Meets g.vars τ s.top.vars s.top.ledger s.below (uses refs_in s.cells) → Jumps code g (Enters s.top.func) τ n → P (jumped true s (label_at code s.top n))
      safe_jump n τ meets j =
          safe_some (label_at code s.top n) _
          (λ q e. off _ (record {
            g = g;
            σ = j.0;
            is = is;
            at = (kept s.top.func g is).enters n q j.0 j.1 (sym (label_is n) ∙ e);
            meets = meets-within g.vars τ s.top.vars s.below (uses refs_in s.cells) j.0 s.top.ledger j.2 meets;
            waits = waits;
            globals = bare;
            slots = slots;
          }))

      safe_choice : (n k : ℕ) (w : Word) → Jumps code g (Enters s.top.func) σ n → Jumps code g (Enters s.top.func) σ k → P (chosen true s (label_at code s.top n) (label_at code s.top k) w)
      safe_choice n k (CharWord zero) a b = safe_jump k σ m b
      safe_choice n k (CharWord (suc zero)) a b = safe_jump n σ m a
      safe_choice n k _ a b = fine (Faulted fault.Kind) s tt

      safe_error : (x n k : ℕ) (w : Word) (b : Bool) → equals_error w ≡ b → slice_get s.top.vars x ≡ Some w → LineChecks code g (Enters s.top.func) σ (IfError x n k) Go → P (jumped true s (label_at code s.top (cond b n k)))
      safe_error x n k w true e at h =
          safe_jump n (with_state x h.0.0 σ) (meets-empty g.vars σ s.top.vars s.below (uses refs_in s.cells) x h.0.0 w s.top.ledger m at (unset_bare w e)) h.0.1
      safe_error x n k w false e at h = safe_jump k σ m h.1

      -- ---- a call of a function, which is lent what it is passed
      abbrev AreHeld : List Word → Type 0
      AreHeld ws = (r : ℕ) (w : Word) → slice_get ws r ≡ Some w → IsHeldOn w

      held_more : (v : Word) (ws : List Word) → IsHeldOn v → AreHeld ws → AreHeld (v ∷ ws)
      held_more v ws held others zero w e = let f : v ≡ w = cc in subst IsHeldOn f held
      held_more v ws held others (suc r) w e = others r w e

      safe_passed : (ks : List Kind) (args : List CArg) (go : List Word → Next) → AreUsable g.vars σ args → ((ws : List Word) → AreHeld ws → AreValues ks ws → P (go ws)) → P (if_passed true s ks args go)
      safe_passed [] [] go u h = h [] (λ r w e. cc) tt
      safe_passed (k ∷ ks) (arg.Var x ∷ rest) go u h =
          safe_word x _
          (λ w at. safe_true (is_value_of k w) _
          (λ value. safe_there w _ (at_hand_there x w (inl u.0) at)
          (λ a read tidy. safe_passed ks rest (λ ws. go (w ∷ ws)) u.1
          (λ ws held values. h (w ∷ ws) (held_more w ws (usable_held x w u.0 at) held) (value, values)))))
      safe_passed _ _ go u h = fine (Faulted fault.Kind) s tt

      safe_entered : (x : Option ℕ) (f : ℕ) (k : CFunc) → slice_get code.funcs f ≡ Some k → IsTarget g.vars (has_cells k.ret) x → IsFree g.vars σ.owns σ.empty x → Go (with_answer g.vars x (unheld σ)) → (ws : List Word) → AreHeld ws → AreValues (parameter_kinds k) ws → P (Goes (entered true s x f (entry_words ws k)))
      safe_entered x f k found target free go ws held values =
          let t = kept f k found in
          let next = resume (with_answer g.vars x (unheld σ)) go in
          off _ (record {
            g = k;
            σ = t.entry;
            is = found;
            at = t.begins;
            meets = record {
              size = entry-size k.params k.vars ws values;
              owned = λ c. sym (entry-none t.entry.owns k.params k.vars ws c values t.is_entry);
              lent = λ r w marked. each_word IsHeldOn ws (drop k.params k.vars) held (λ kind c. omega (arith, error_bare kind c)) r w;
              held = λ r w marked e c. omega (arith, each_word IsHeldOn ws (drop k.params k.vars) held (λ kind c. omega (arith, error_bare kind c)) r w e c);
              empty = entry-empty t.entry.empty k.params k.vars ws values t.is_filled;
              bare = entry-bare k.params k.vars ws values;
            };
            waits = (
              record {
                g = g;
                is = is;
                call = s.top.place;
                σ = σ;
                at = at;
                meets = meets-unheld g.vars σ s.top.vars s.below (uses refs_in s.cells) s.top.ledger (λ c. 0) m;
                place = refl;
                target = target;
                free = free;
                ρ = next.0;
                next = next.1;
                within = next.2;
              },
              waits,
            );
            globals = bare;
            slots = slots;
          })

      safe_function : (x : Option ℕ) (name : List ℕ) (args : List CArg) (n : Option ℕ) → function_named code.funcs name ≡ n → CallChecks code g (Enters s.top.func) σ x name args None Go → P (function_called true s code x args n)
      safe_function x name args n named h =
          safe_calm s.pending _
          (safe_some n _
          (λ f e. safe_some (slice_get code.funcs f) _
          (λ k found. let callee : callee_named code name ≡ Some k = ap (option_and_then (slice_get code.funcs)) (named ∙ e) ∙ found in
          safe_passed (parameter_kinds k) args _ h.0
          (safe_entered x f k found (subst (λ o. IsTarget g.vars (returns_cells o) x) callee h.1) h.2 h.3))))

      -- a method gives what the target may hold
      given_kind : (x : ℕ) (args : List ℕ) (k : CFunc) → takes_and_gives true s code x args k ≡ true → has_cells k.ret ≡ may_refer g.vars x
      given_kind x args k e =
          agreeing (Some k.ret) (kind_of code s.top x) (and_true (length args == length (parameter_kinds k)) _ e).1 ∙ ap may_have_cells (kind_is x)

      safe_method : (x o : ℕ) (args : List ℕ) (entry : CClass → Option (List ℕ)) → MethodChecks code g (Enters s.top.func) σ x (o ∷ args) Go → P (method_called true s code x o args entry)
      safe_method x o args entry h =
          safe_calm s.pending _
          (safe_variable Object AnInstance o _ (inl h.0.0)
          (λ w a at read tidy. safe_some (method_of code entry a) _
          (λ f e. safe_some (slice_get code.funcs f) _
          (λ k found. safe_true (takes_and_gives true s code x (o ∷ args) k) _
          (λ fits. safe_passed (parameter_kinds k) (map arg.Var (o ∷ args)) _ h.0
          (safe_entered (Some x) f k found (h.1, λ t. given_kind x (o ∷ args) k fits ∙ t) h.2 h.3))))))

      safe_any_call : (x : Option ℕ) (name : List ℕ) (args : List CArg) (o : Option Primitive) → CallChecks code g (Enters s.top.func) σ x name args o Go → P (call_step true s code x name args o)
      safe_any_call x name args None h = safe_function x name args (function_named code.funcs name) refl h
      safe_any_call x name args (Some p) h = safe_primitive x args p h

      -- ---- a return
      safe_none_left : (l : Ledger) (next : Next) → ((d : ℕ) → times l d ≡ 0) → P next → P (if_none_left true s l next)
      safe_none_left [] next e h = h
      safe_none_left (c ∷ l) next e h = absurd (omega (arith, e c, same_self c))

      safe_result : (w : Word) (next : Next) → ((d : ℕ) → times s.top.ledger d ≡ times (refs_of w) d) → P next → P (if_result true s w (λ l. if_none_left true s l next))
      safe_result (BigInt c) next all h =
          let held : 1 ≤ times s.top.ledger c = omega (arith, all c, same_self c) in
          safe_content c _ (omega (arith, held)) (λ v e. safe_taken c s.top.ledger _ held (λ r took. safe_none_left r next (λ d. omega (arith, all d, took d)) h))
      safe_result (ObjectCell c) next all h =
          let held : 1 ≤ times s.top.ledger c = omega (arith, all c, same_self c) in
          safe_content c _ (omega (arith, held)) (λ v e. safe_taken c s.top.ledger _ held (λ r took. safe_none_left r next (λ d. omega (arith, all d, took d)) h))
      safe_result w next all h = safe_none_left s.top.ledger next all h

      either : (b : Bool) (a z : Next) → P a → P z → P (cond b a z)
      either true a z p q = p
      either false a z p q = q

      safe_order : (w : Word) (o : Option ℕ) (go : Next) → P go → P (if_in_order true s w o go)
      safe_order w None go h = either (is_error w) _ _ (fine (Faulted fault.Kind) s tt) h
      safe_order w (Some c) go h = either (is_error w) _ _ h (either (is_both w) _ _ h (fine (Faulted fault.Kind) s tt))

      safe_thrown : (v : Content) (go : Ending → Next) → ((e : Ending) → P (go e)) → P (if_thrown true s v go)
      safe_thrown (ExcCell e) go h = h (Raised e)
      safe_thrown _ go h = fine (Faulted fault.Kind) s tt

      -- the cell of the pending exception is there, as it is held
      safe_pending : (c : ℕ) (go : Content → Next) → s.pending ≡ Some c → ((v : Content) → P (go v)) → P (if_content true s c go)
      safe_pending c go e h =
          let t = there s.cells c (omega (arith, ok c, ap (λ o. times (pending_refs o) c) e, same_self c)) in
          subst (λ o. P (if_some true s fault.Dead o go)) (sym t.1) (h t.0)

      safe_ended : (w : Word) (o : Option ℕ) (go : Ending → Next) → s.pending ≡ o → ((e : Ending) → P (go e)) → P (if_ended true s w o go)
      safe_ended (CharWord (suc zero)) None go e h = h Done
      safe_ended (CharWord (suc (suc zero))) (Some c) go e h = safe_pending c _ e (λ v. safe_thrown v go h)
      safe_ended _ _ go e h = fine (Faulted fault.Kind) s tt

      safe_back : (into : Option ℕ) (w : Word) (f : Frame) (fs : List Frame) → (h : IsWaiting code At g.ret into f fs) → Waits code At h.g.ret f.into fs → (has_cells g.ret ≡ false → IsBare w) → P (Goes (with_target into w (record s { top = record f { ledger = more_of (refs_of w) f.ledger }; below = fs })))
      safe_back None w f fs h rest sure =
          off _ (record {
            g = h.g;
            is = h.is;
            σ = h.ρ;
            at = subst (λ p. At f.func p h.ρ) (sym h.place) h.next;
            meets = meets-within h.g.vars (with_answer h.g.vars None (unheld h.σ)) (set_target None w f.vars) fs (uses refs_in s.cells) h.ρ (more_of (refs_of w) f.ledger) h.within (meets-answer h.g.vars (unheld h.σ) f.vars fs (uses refs_in s.cells) (has_cells g.ret) None w (more_of (refs_of w) f.ledger) h.meets.size h.meets.lent (λ r v t. absurd (cc)) h.meets.empty h.meets.bare h.target sure h.free (λ c. omega (arith, more_of-times (refs_of w) f.ledger c, h.meets.owned c)));
            waits = rest;
            globals = bare;
            slots = slots;
          })
      safe_back (Some x) w f fs h rest sure =
          off _ (record {
            g = h.g;
            is = h.is;
            σ = h.ρ;
            at = subst (λ p. At f.func p h.ρ) (sym h.place) h.next;
            meets = meets-within h.g.vars (with_answer h.g.vars (Some x) (unheld h.σ)) (set_target (Some x) w f.vars) fs (uses refs_in s.cells) h.ρ (more_of (refs_of w) f.ledger) h.within (meets-answer h.g.vars (unheld h.σ) f.vars fs (uses refs_in s.cells) (has_cells g.ret) (Some x) w (more_of (refs_of w) f.ledger) h.meets.size h.meets.lent (λ r v t. absurd (cc)) h.meets.empty h.meets.bare h.target sure h.free (λ c. omega (arith, more_of-times (refs_of w) f.ledger c, h.meets.owned c)));
            waits = rest;
            globals = bare;
            slots = slots;
          })

      safe_return : (w : Word) (fs : List Frame) → Waits code At g.ret s.top.into fs → ((d : ℕ) → times s.top.ledger d ≡ times (refs_of w) d) → (has_cells g.ret ≡ false → IsBare w) → P (if_return true s w fs (λ next. if_result true s w (λ l. if_none_left true s l next)))
      safe_return w [] h all sure =
          safe_ended w s.pending _ refl (λ e. safe_result w _ all (fine (Ended e) s tt))
      safe_return w (f ∷ fs) h all sure = safe_result w _ all (safe_back s.top.into w f fs h.0 h.1 sure)

      -- at a return the ledger is what the word refers to
      returned_all : (x : ℕ) (w : Word) (b : Bool) → may_refer g.vars x ≡ b → slice_get s.top.vars x ≡ Some w → ((r : ℕ) → (σ.owns r ≡ cond b (same x r) 0) ⊎ (σ.empty r ≡ true)) → (d : ℕ) → times s.top.ledger d ≡ times (refs_of w) d
      returned_all x w true e at only d =
          m.owned d ∙ total-alike σ.owns (same x) s.top.vars d (λ r v f. ⊎_elim (λ a. inl a) (λ t. inr (m.empty r v t f d)) (only r)) ∙ total-one x s.top.vars w d at
      returned_all x w false e at only d =
          m.owned d ∙ total-alike σ.owns (λ r. 0) s.top.vars d (λ r v f. ⊎_elim (λ a. inl a) (λ t. inr (m.empty r v t f d)) (only r)) ∙ total-none s.top.vars d ∙ sym (m.bare x w e at d)

      -- one line
      pub safe_line : (l : Line) → LineChecks code g (Enters s.top.func) σ l Go → P (step_at true code s (Some l))
      safe_line (Call x name args) h = safe_any_call x name args (primitive_named name) h
      safe_line (Virtual x o n args) h = safe_method x o args (method_at n) h
      safe_line (TraitCall x o t n args) h = safe_method x o args (trait_method_at t n) h
      safe_line (Goto n) h = safe_jump n σ m h
      safe_line (If x n k) h = safe_word x _ (λ w at. safe_choice n k w h.0 h.1)
      safe_line (IfError x n k) h = safe_word x _ (λ w at. safe_error x n k w (equals_error w) refl at h)
      safe_line (Return x) h =
          safe_word x _
          (λ w at. safe_order w s.pending _
          (safe_return w s.below waits (returned_all x w (may_refer g.vars x) refl at h.1) (λ f. m.bare x w (h.0 f) at)))
      safe_line Label h = safe_straight Label tt h
      safe_line (Move x y) h = safe_straight (Move x y) tt h
      safe_line (Lit x l) h = safe_straight (Lit x l) tt h
      safe_line Turn h = safe_straight Turn tt h
      safe_line (Inc x) h = safe_straight (Inc x) tt h
      safe_line (Dec x) h = safe_straight (Dec x) tt h
      safe_line (XDec x) h = safe_straight (XDec x) tt h
