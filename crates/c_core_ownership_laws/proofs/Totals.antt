-- What variables own in all, and what a change of shares or of a variable makes of it.
use Rattle.std.proofs.Common.{◌≡◌, refl, sym, ap, subst, ◌∙◌, ℕ, zero, suc, ◌+◌, ◌-◌, ◌<◌, ◌≤◌, ◌⊎◌, inl, inr, ⊎_elim, Bool, true, false, List, [], ◌∷◌, length, Option, Some, None, arith}
use Rattle.std.specs.Prelude.{not, ◌&&◌, slice_get, slice_set}
use Rattle.c_core.specs.Cells.{same, times}
use Rattle.c_core.specs.Machine.{Word, refs_of, Frame}
use Rattle.c_core.specs.Holders.{owned_below}
use Rattle.c_core.specs.Primitives.{KindAt, Outcome, Nothing, Owned, Lent}
use Rattle.c_core.specs.WellFormed.{Declared}
use Rattle.c_core.proofs.Lines.{and_true}
use Rattle.c_core_ownership_laws.specs.Frames.{IsBare, many, total, Meets}
use Rattle.c_core_ownership_laws.specs.Shares.{put, State, Shares, with_owns, with_state, with_share, unheld, Within, may_refer, HasNone, IsGivable, IsTarget, HasRoom, IsClear, IsFree, one_if, with_answer, with_loan, with_outcome}

pub many-none : (n : ℕ) → many n 0 ≡ 0
many-none zero = refl
many-none (suc n) = omega (arith, many-none n)

pub many-more : (n t : ℕ) → many (n + 1) t ≡ many n t + t
many-more n t = let e : n + 1 ≡ suc n = omega arith in omega (arith, ap (λ z. many z t) e)

pub many-less : (n t : ℕ) → 1 ≤ n → many n t ≡ many (n - 1) t + t
many-less n t le = let e : n ≡ n - 1 + 1 = omega arith in omega (arith, ap (λ z. many z t) e, many-more (n - 1) t)

pub many-one : (t : ℕ) → many 1 t ≡ t
many-one t = omega arith

-- ---- changes at one number
pub put-most : (x n : ℕ) (k j : ℕ → ℕ) (r : ℕ) → n ≤ j x → ((r : ℕ) → k r ≤ j r) → put x n k r ≤ j r
put-most zero n k j zero le h = le
put-most zero n k j (suc r) le h = h (suc r)
put-most (suc x) n k j zero le h = h 0
put-most (suc x) n k j (suc r) le h = put-most x n (λ i. k (suc i)) (λ i. j (suc i)) r le (λ i. h (suc i))

-- ---- totals
pub total-same : (k j : ℕ → ℕ) (ws : List Word) (c : ℕ) → ((r : ℕ) → k r ≡ j r) → total k ws c ≡ total j ws c
total-same k j [] c e = refl
total-same k j (w ∷ ws) c e =
    omega (arith, ap (λ z. many z (times (refs_of w) c)) (e 0), total-same (λ r. k (suc r)) (λ r. j (suc r)) ws c (λ r. e (suc r)))

-- where the words of variables that own another number have no cell
pub total-alike : (k j : ℕ → ℕ) (ws : List Word) (c : ℕ) → ((r : ℕ) (w : Word) → slice_get ws r ≡ Some w → (k r ≡ j r) ⊎ (times (refs_of w) c ≡ 0)) → total k ws c ≡ total j ws c
total-alike k j [] c e = refl
total-alike k j (w ∷ ws) c e =
    omega (arith, first (e 0 w refl), total-alike (λ r. k (suc r)) (λ r. j (suc r)) ws c (λ r. e (suc r)))
  where
    first : (k 0 ≡ j 0) ⊎ (times (refs_of w) c ≡ 0) → many (k 0) (times (refs_of w) c) ≡ many (j 0) (times (refs_of w) c)
    first h = ⊎_elim
        (λ f. ap (λ z. many z (times (refs_of w) c)) f)
        (λ f. ap (many (k 0)) f ∙ (many-none (k 0) ∙ (sym (many-none (j 0)) ∙ sym (ap (many (j 0)) f))))
        h

pub total-none : (ws : List Word) (c : ℕ) → total (λ r. 0) ws c ≡ 0
total-none [] c = refl
total-none (w ∷ ws) c = omega (arith, total-none ws c)

pub total-one : (x : ℕ) (ws : List Word) (w : Word) (c : ℕ) → slice_get ws x ≡ Some w → total (same x) ws c ≡ times (refs_of w) c
total-one x [] w c e = cc
total-one zero (v ∷ ws) w c e =
    let f : v ≡ w = cc in omega (arith, ap (λ z. times (refs_of z) c) f, total-none ws c)
total-one (suc x) (v ∷ ws) w c e = omega (arith, total-one x ws w c e)

pub total-put : (k : ℕ → ℕ) (ws : List Word) (x n : ℕ) (w : Word) (c : ℕ) → slice_get ws x ≡ Some w → total (put x n k) ws c + many (k x) (times (refs_of w) c) ≡ total k ws c + many n (times (refs_of w) c)
total-put k [] x n w c e = cc
total-put k (v ∷ ws) zero n w c e =
    let f : v ≡ w = cc in
    omega (arith, ap (λ z. many (k 0) (times (refs_of z) c)) f, ap (λ z. many n (times (refs_of z) c)) f)
total-put k (v ∷ ws) (suc x) n w c e = omega (arith, total-put (λ r. k (suc r)) ws x n w c e)

-- one reference less
pub total-less : (k : ℕ → ℕ) (ws : List Word) (x : ℕ) (w : Word) (c : ℕ) → slice_get ws x ≡ Some w → 1 ≤ k x → total k ws c ≡ total (put x (k x - 1) k) ws c + times (refs_of w) c
total-less k ws x w c e le =
    omega (arith, total-put k ws x (k x - 1) w c e, many-less (k x) (times (refs_of w) c) le)

-- any shares of a variable without a cell
pub total-bare : (k : ℕ → ℕ) (ws : List Word) (x n : ℕ) (w : Word) (c : ℕ) → slice_get ws x ≡ Some w → IsBare w → total (put x n k) ws c ≡ total k ws c
total-bare k ws x n w c e bare =
    omega (arith, total-put k ws x n w c e, ap (many (k x)) (bare c), ap (many n) (bare c), many-none (k x), many-none n)

-- a variable through which no cell was owned is written
pub total-write : (k : ℕ → ℕ) (ws : List Word) (x n : ℕ) (w : Word) (c : ℕ) → x < length ws → ((v : Word) → slice_get ws x ≡ Some v → many (k x) (times (refs_of v) c) ≡ 0) → total (put x n k) (slice_set ws x w) c ≡ total k ws c + many n (times (refs_of w) c)
total-write k [] x n w c lt e = absurd (omega (arith, lt))
total-write k (v ∷ ws) zero n w c lt e = omega (arith, e v refl)
total-write k (v ∷ ws) (suc x) n w c lt e = omega (arith, total-write (λ r. k (suc r)) ws x n w c (omega arith) e)

-- a cell of a variable that owns one is among all
pub total-has : (k : ℕ → ℕ) (ws : List Word) (x : ℕ) (w : Word) (c : ℕ) → 1 ≤ k x → slice_get ws x ≡ Some w → times (refs_of w) c ≤ total k ws c
total-has k ws x w c le e = omega (arith, total-less k ws x w c e le)

-- ---- what holds of each word that a mark points at
pub set-length : (ws : List Word) (x : ℕ) (w : Word) → length (slice_set ws x w) ≡ length ws
set-length [] x w = refl
set-length (v ∷ ws) zero w = refl
set-length (v ∷ ws) (suc x) w = ap suc (set-length ws x w)

module _ (Q : Word → Type 0) where
  -- at a write, where the mark of the variable is new
  pub marked-set : (m : ℕ → Bool) (ws : List Word) (x : ℕ) (b : Bool) (w : Word) → ((r : ℕ) (v : Word) → m r ≡ true → slice_get ws r ≡ Some v → Q v) → (b ≡ true → Q w) → (r : ℕ) (v : Word) → put x b m r ≡ true → slice_get (slice_set ws x w) r ≡ Some v → Q v
  marked-set m [] x b w old new r v t e = cc
  marked-set m (u ∷ ws) zero b w old new zero v t e = let f : w ≡ v = cc in subst Q f (new t)
  marked-set m (u ∷ ws) zero b w old new (suc r) v t e = old (suc r) v t e
  marked-set m (u ∷ ws) (suc x) b w old new zero v t e = old 0 v t e
  marked-set m (u ∷ ws) (suc x) b w old new (suc r) v t e =
      marked-set (λ i. m (suc i)) ws x b w (λ i. old (suc i)) new r v t e

  -- at a write, where the marks stay
  pub unmarked-set : (m : ℕ → Bool) (ws : List Word) (x : ℕ) (w : Word) → ((r : ℕ) (v : Word) → m r ≡ false → slice_get ws r ≡ Some v → Q v) → (m x ≡ false → Q w) → (r : ℕ) (v : Word) → m r ≡ false → slice_get (slice_set ws x w) r ≡ Some v → Q v
  unmarked-set m [] x w old new r v t e = cc
  unmarked-set m (u ∷ ws) zero w old new zero v t e = let f : w ≡ v = cc in subst Q f (new t)
  unmarked-set m (u ∷ ws) zero w old new (suc r) v t e = old (suc r) v t e
  unmarked-set m (u ∷ ws) (suc x) w old new zero v t e = old 0 v t e
  unmarked-set m (u ∷ ws) (suc x) w old new (suc r) v t e =
      unmarked-set (λ i. m (suc i)) ws x w (λ i. old (suc i)) new r v t e

  -- where a new mark points at a word of which it holds anyway
  pub marked-more : (m : ℕ → Bool) (ws : List Word) (x : ℕ) (b : Bool) (w : Word) → slice_get ws x ≡ Some w → Q w → ((r : ℕ) (v : Word) → m r ≡ true → slice_get ws r ≡ Some v → Q v) → (r : ℕ) (v : Word) → put x b m r ≡ true → slice_get ws r ≡ Some v → Q v
  marked-more m [] x b w is new old r v t e = cc
  marked-more m (u ∷ ws) zero b w is new old zero v t e = let f : w ≡ v = cc in subst Q f new
  marked-more m (u ∷ ws) zero b w is new old (suc r) v t e = old (suc r) v t e
  marked-more m (u ∷ ws) (suc x) b w is new old zero v t e = old 0 v t e
  marked-more m (u ∷ ws) (suc x) b w is new old (suc r) v t e =
      marked-more (λ i. m (suc i)) ws x b w is new (λ i. old (suc i)) r v t e

-- ---- what a row answers
-- it comes with its reference, or its reference stays where it is
abbrev pub IsOwned : Outcome → Type 0
IsOwned (Lent k) = ⊥
IsOwned o = Unit {0}

abbrev pub IsLoan : Outcome → Type 0
IsLoan (Lent k) = Unit {0}
IsLoan o = ⊥

-- ---- a frame and its shares
-- the variables behind a write to a target
abbrev pub set_target : Option ℕ → Word → List Word → List Word
set_target None w words = words
set_target (Some x) w words = slice_set words x w

-- a variable is written with what it holds
pub set-same : (ws : List Word) (x : ℕ) (w : Word) → slice_get ws x ≡ Some w → slice_set ws x w ≡ ws
set-same [] x w e = refl
set-same (v ∷ ws) zero w e = let f : v ≡ w = cc in ap (λ z. z ∷ ws) (sym f)
set-same (v ∷ ws) (suc x) w e = ap (λ z. v ∷ z) (set-same ws x w e)

module _ (vars : List Declared) (σ : Shares) (words : List Word) (below : List Frame) (kept : ℕ → ℕ) where
  -- what a frame has beside its ledger
  abbrev pub Lends : Type 0
  Lends = (r : ℕ) (w : Word) → σ.lent r ≡ true → slice_get words r ≡ Some w → (c : ℕ) → times (refs_of w) c ≤ owned_below below c

  abbrev pub Holds : Type 0
  Holds = (r : ℕ) (w : Word) → σ.held r ≡ true → slice_get words r ≡ Some w → (c : ℕ) → times (refs_of w) c ≤ owned_below below c + kept c

  abbrev pub Empties : Type 0
  Empties = (r : ℕ) (w : Word) → σ.empty r ≡ true → slice_get words r ≡ Some w → IsBare w

  abbrev pub AreBare : Type 0
  AreBare = (r : ℕ) (w : Word) → may_refer vars r ≡ false → slice_get words r ≡ Some w → IsBare w

  -- no cell is owned through a variable that is clear
  clear_none : (x : ℕ) → Empties → IsClear vars σ x → (c : ℕ) (v : Word) → slice_get words x ≡ Some v → many (σ.owns x) (times (refs_of v) c) ≡ 0
  clear_none x empties clear c v e = ⊎_elim
      (λ f. ap (λ z. many z (times (refs_of v) c)) f)
      (λ f. ap (many (σ.owns x)) (empties x v f e c) ∙ many-none (σ.owns x))
      clear

  -- such a variable is written
  pub meets-write : (x : ℕ) (s : State) (w : Word) (l : List ℕ) → length words ≡ length vars → Lends → Holds → Empties → AreBare → x < length vars → IsClear vars σ x → ((c : ℕ) → times l c ≡ total σ.owns words c + many s.owns (times (refs_of w) c)) → (s.lent ≡ true → (c : ℕ) → times (refs_of w) c ≤ owned_below below c) → (s.held ≡ true → (c : ℕ) → times (refs_of w) c ≤ owned_below below c + kept c) → (s.empty ≡ true → IsBare w) → (may_refer vars x ≡ false → IsBare w) → Meets vars (with_state x s σ) (slice_set words x w) l below kept
  meets-write x s w l size lends holds empties bare lt clear e new new_held new_empty none_new =
      record {
        size = set-length words x w ∙ size;
        owned = λ c. e c ∙ sym (total-write σ.owns words x s.owns w c (omega (arith, lt, size)) (clear_none x empties clear c));
        lent = marked-set (λ v. (c : ℕ) → times (refs_of v) c ≤ owned_below below c) σ.lent words x s.lent w lends new;
        held = marked-set (λ v. (c : ℕ) → times (refs_of v) c ≤ owned_below below c + kept c) σ.held words x s.held w holds new_held;
        empty = marked-set IsBare σ.empty words x s.empty w empties new_empty;
        bare = unmarked-set IsBare (may_refer vars) words x w bare none_new;
      }

  -- a target is written, and the word's reference comes to the ledger
  answer_at : (m b : Bool) (x : ℕ) (w : Word) (l : List ℕ) → may_refer vars x ≡ m → length words ≡ length vars → Lends → Holds → Empties → AreBare → IsTarget vars b (Some x) → (b ≡ false → IsBare w) → IsClear vars σ x → ((c : ℕ) → times l c ≡ total σ.owns words c + times (refs_of w) c) → Meets vars (with_share x (one_if m) false σ) (slice_set words x w) l below kept
  answer_at true b x w l is size lends holds empties bare at sure none e =
      meets-write x (record { owns = 1; lent = false; held = false; empty = false }) w l size lends holds empties bare at.0 none (λ c. omega (arith, e c, many-one (times (refs_of w) c))) (λ t. cc) (λ t. cc) (λ t. absurd (cc)) (λ f. sure (at.1 f))
  answer_at false b x w l is size lends holds empties bare at sure none e =
      let no_cell : IsBare w = sure (at.1 is) in
      meets-write x (record { owns = 0; lent = false; held = false; empty = false }) w l size lends holds empties bare at.0 none (λ c. omega (arith, e c, no_cell c)) (λ t. cc) (λ t. cc) (λ t. absurd (cc)) (λ f. no_cell)

  pub meets-answer : (b : Bool) (x : Option ℕ) (w : Word) (l : List ℕ) → length words ≡ length vars → Lends → Holds → Empties → AreBare → IsTarget vars b x → (b ≡ false → IsBare w) → IsFree vars σ.owns σ.empty x → ((c : ℕ) → times l c ≡ total σ.owns words c + times (refs_of w) c) → Meets vars (with_answer vars x σ) (set_target x w words) l below kept
  meets-answer b None w l size lends holds empties bare at sure none e =
      record { size = size; owned = λ c. omega (arith, e c, sure at c); lent = lends; held = holds; empty = empties; bare = bare }
  meets-answer b (Some x) w l size lends holds empties bare at sure none e =
      answer_at (may_refer vars x) b x w l refl size lends holds empties bare at sure none e

  -- a target is written, and the word's reference stays where it is
  meets-loan : (k : KindAt) (b : Bool) (x : Option ℕ) (w : Word) (l : List ℕ) → length words ≡ length vars → Lends → Holds → Empties → AreBare → HasRoom vars (Lent k) b x → (b ≡ false → IsBare w) → IsFree vars σ.owns σ.empty x → ((c : ℕ) → times l c ≡ total σ.owns words c) → ((c : ℕ) → times (refs_of w) c ≤ kept c) → Meets vars (with_loan vars x σ) (set_target x w words) l below kept
  meets-loan k b None w l size lends holds empties bare at sure none e there =
      record { size = size; owned = e; lent = lends; held = holds; empty = empties; bare = bare }
  meets-loan k b (Some x) w l size lends holds empties bare at sure none e there =
      meets-write x (record { owns = 0; lent = false; held = true; empty = false }) w l size lends holds empties bare at.0 none (λ c. omega (arith, e c)) (λ t. cc) (λ t c. omega (arith, there c)) (λ t. absurd (cc)) (λ f. sure (at.1 f))

  -- a target is written with what a row lends
  pub meets-lent : (o : Outcome) (b : Bool) (x : Option ℕ) (w : Word) (l : List ℕ) → length words ≡ length vars → Lends → Holds → Empties → AreBare → HasRoom vars o b x → (b ≡ false → IsBare w) → IsFree vars σ.owns σ.empty x → ((c : ℕ) → times l c ≡ total σ.owns words c) → ((c : ℕ) → times (refs_of w) c ≤ kept c) → IsLoan o → Meets vars (with_outcome vars o x σ) (set_target x w words) l below kept
  meets-lent Nothing b x w l size lends holds empties bare at sure none e there loan = absurd loan
  meets-lent (Owned k) b x w l size lends holds empties bare at sure none e there loan = absurd loan
  meets-lent (Lent k) b x w l size lends holds empties bare at sure none e there loan =
      meets-loan k b x w l size lends holds empties bare at sure none e there

  -- a target is written with what a row answers, where the word's reference comes with it, or the word has none
  pub meets-outcome : (o : Outcome) (b : Bool) (x : Option ℕ) (w : Word) (l : List ℕ) → length words ≡ length vars → Lends → Holds → Empties → AreBare → HasRoom vars o b x → (b ≡ false → IsBare w) → IsFree vars σ.owns σ.empty x → ((c : ℕ) → times l c ≡ total σ.owns words c + times (refs_of w) c) → IsOwned o ⊎ IsBare w → Meets vars (with_outcome vars o x σ) (set_target x w words) l below kept
  meets-outcome Nothing b x w l size lends holds empties bare at sure none e own = meets-answer b x w l size lends holds empties bare at sure none e
  meets-outcome (Owned k) b x w l size lends holds empties bare at sure none e own = meets-answer b x w l size lends holds empties bare at sure none e
  meets-outcome (Lent k) b x w l size lends holds empties bare at sure none e own =
      let no_cell : IsBare w = ⊎_elim (λ v. absurd v) (λ t. t) own in
      meets-loan k b x w l size lends holds empties bare at sure none (λ c. omega (arith, e c, no_cell c)) (λ c. omega (arith, no_cell c))

  -- one reference more or less
  pub meets-more : (x : ℕ) (w : Word) (l m : List ℕ) → Meets vars σ words l below kept → slice_get words x ≡ Some w → ((c : ℕ) → times m c ≡ times l c + times (refs_of w) c) → Meets vars (with_owns x (σ.owns x + 1) σ) words m below kept
  meets-more x w l m h is e =
      record {
        size = h.size;
        owned = λ c. omega (arith, e c, h.owned c, total-put σ.owns words x (σ.owns x + 1) w c is, many-more (σ.owns x) (times (refs_of w) c));
        lent = h.lent;
        held = h.held;
        empty = h.empty;
        bare = h.bare;
      }

  -- a variable that has no cell holds such a word
  pub none_bare : (x : ℕ) (w : Word) (l : List ℕ) → Meets vars σ words l below kept → HasNone vars σ x → slice_get words x ≡ Some w → IsBare w
  none_bare x w l h none e = ⊎_elim (λ f. h.bare x w f e) (λ f. h.empty x w f e) none

  pub meets-less : (x : ℕ) (w : Word) (l m : List ℕ) → Meets vars σ words l below kept → slice_get words x ≡ Some w → IsGivable vars σ x → ((c : ℕ) → times l c ≡ times (refs_of w) c + times m c) → Meets vars (with_owns x (σ.owns x - 1) σ) words m below kept
  meets-less x w l m h is may e =
      record {
        size = h.size;
        owned = λ c. ⊎_elim
            (λ le. omega (arith, e c, h.owned c, total-less σ.owns words x w c is le))
            (λ none. omega (arith, e c, h.owned c, none_bare x w l h none is c, total-bare σ.owns words x (σ.owns x - 1) w c is (none_bare x w l h none is)))
            may;
        lent = h.lent;
        held = h.held;
        empty = h.empty;
        bare = h.bare;
      }

  pub meets-within : (τ : Shares) (l : List ℕ) → Within σ τ → Meets vars σ words l below kept → Meets vars τ words l below kept
  meets-within τ l w h =
      record {
        size = h.size;
        owned = λ c. h.owned c ∙ total-alike σ.owns τ.owns words c (λ r v e. ⊎_elim (λ t. inr (h.empty r v t e c)) (λ a. inl a.0) (w r));
        lent = λ r v t e c. ⊎_elim (λ u. omega (arith, h.empty r v u e c)) (λ a. h.lent r v (a.1 t) e c) (w r);
        held = λ r v t e c. ⊎_elim
            (λ u. omega (arith, h.empty r v u e c))
            (λ a. ⊎_elim (λ u. h.held r v u e c) (λ u. omega (arith, h.lent r v u e c)) (a.2 t))
            (w r);
        empty = λ r v t e. ⊎_elim (λ u. h.empty r v u e) (λ a. let both : true ≡ false = sym t ∙ a.3 in absurd (cc)) (w r);
        bare = h.bare;
      }

  -- a variable without a cell has any state
  pub meets-empty : (x : ℕ) (s : State) (w : Word) (l : List ℕ) → Meets vars σ words l below kept → slice_get words x ≡ Some w → IsBare w → Meets vars (with_state x s σ) words l below kept
  meets-empty x s w l h is no_cell =
      record {
        size = h.size;
        owned = λ c. h.owned c ∙ sym (total-bare σ.owns words x s.owns w c is no_cell);
        lent = marked-more (λ v. (c : ℕ) → times (refs_of v) c ≤ owned_below below c) σ.lent words x s.lent w is (λ c. omega (arith, no_cell c)) h.lent;
        held = marked-more (λ v. (c : ℕ) → times (refs_of v) c ≤ owned_below below c + kept c) σ.held words x s.held w is (λ c. omega (arith, no_cell c)) h.held;
        empty = marked-more IsBare σ.empty words x s.empty w is no_cell h.empty;
        bare = h.bare;
      }

  -- where more is kept, and where nothing is held
  pub meets-kept : (l : List ℕ) (more : ℕ → ℕ) → ((c : ℕ) → kept c ≤ more c) → Meets vars σ words l below kept → Meets vars σ words l below more
  meets-kept l more le h =
      record { size = h.size; owned = h.owned; lent = h.lent; held = λ r v t e c. omega (arith, le c, h.held r v t e c); empty = h.empty; bare = h.bare }

  pub meets-unheld : (l : List ℕ) (other : ℕ → ℕ) → Meets vars σ words l below kept → Meets vars (unheld σ) words l below other
  meets-unheld l other h =
      record { size = h.size; owned = h.owned; lent = h.lent; held = λ r v t e c. absurd (cc); empty = h.empty; bare = h.bare }

  -- what is held still, where b says whether it may have been let go of
  pub held-still : (b : Bool) (more : ℕ → ℕ) → (b ≡ false → (c : ℕ) → kept c ≤ more c) → Holds → (r : ℕ) (w : Word) → (σ.held r && not b) ≡ true → slice_get words r ≡ Some w → (c : ℕ) → times (refs_of w) c ≤ owned_below below c + more c
  held-still b more le holds r w t e c =
      let both = and_true (σ.held r) (not b) t in omega (arith, le (not-true b both.1) c, holds r w both.0 e c)
    where
      not-true : (b : Bool) → not b ≡ true → b ≡ false
      not-true true e = cc
      not-true false e = refl
