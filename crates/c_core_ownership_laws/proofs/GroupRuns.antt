-- A group leads from the shares of its first place to those of the place behind it.
use Rattle.std.proofs.Common.{◌≡◌, refl, sym, ap, subst, ◌∙◌, ℕ, zero, suc, ◌+◌, true, List, [], ◌∷◌, ◌++◌, length, Some, arith}
use Rattle.std.specs.Prelude.{slice_get}
use Rattle.std.specs.Option.{option_and_then}
use Rattle.value_core.specs.Items.{Items}
use Rattle.c_core.specs.declared.code.Line.{Line}
use Rattle.c_core.specs.declared.code.CFunc.{CFunc}
use Rattle.c_core.specs.declared.code.Code.{Code}
use Rattle.c_core.specs.Release.{uses}
use Rattle.c_core.specs.Machine.{MachineState, refs_in}
use Rattle.c_core.specs.Step.{MachineEnding, Next, Goes, Ends, step, step_at, line_at}
use Rattle.c_core.specs.Run.{start}
use Rattle.c_core.specs.Laws.{Reaches}
use Rattle.c_core_ownership_laws.specs.Shares.{Shares}
use Rattle.c_core_ownership_laws.specs.Order.{from, Table, Entered, labels_of, ArePlaced}
use Rattle.c_core_ownership_laws.specs.Frames.{IsMet}
use Rattle.c_core_ownership_laws.specs.Groups.{AreStraight, IsStraight, IsFine, steps_on, HasCome, ComesTo}
use Rattle.c_core_ownership_laws.specs.Laws.{GroupRuns}
use Rattle.c_core_ownership_laws.proofs.Totals.{meets-within}
use Rattle.c_core_ownership_laws.proofs.Safe.{Follows, Arrives, safe_straight}
use Rattle.c_core_ownership_laws.proofs.Runs.{reaches_next, reached_counted, reached_met}
use Rattle.c_core_ownership_laws.proofs.Placed.{from-get, from-line, placed_kept}

module _ (code : Code) (t : Table) (placed : ArePlaced code t) (n : ℕ) (items : Items) where
  abbrev labels : ℕ → ℕ → Shares → Type 0
  labels = Entered (labels_of code t)

  abbrev places : ℕ → ℕ → Shares → Type 0
  places = Entered t

  abbrev IsReached : MachineState → Type 0
  IsReached s = (j : ℕ) × Reaches code j (start code n items) s

  arrived_next : (s : MachineState) (g : CFunc) → slice_get code.funcs s.top.func ≡ Some g → (u : MachineState) → Arrives code labels places s g (Follows code labels places s.top.func s.top.place) u → HasCome code t s 1 u
  arrived_next s g is u a = record {
    func = a.func;
    place = a.place;
    into = a.into;
    below = a.below;
    met = record {
      g = g;
      is = ap (slice_get code.funcs) a.func ∙ is;
      σ = a.go.0;
      at = subst (λ f. places f u.top.place a.go.0) (sym a.func) (subst (λ p. places s.top.func p a.go.0) (sym a.place) a.go.1);
      meets = meets-within g.vars a.σ u.top.vars u.below (uses refs_in u.cells) a.go.0 u.top.ledger a.go.2 a.meets;
      waits = a.waits;
      globals = a.globals;
      slots = a.slots;
    };
  }

  -- one line
  line_comes : (s : MachineState) → IsReached s → (r : IsMet code places s) → (l : Line) → IsStraight l → slice_get r.g.lines s.top.place ≡ Some l → ComesTo code t s 1 (step code s)
  line_comes s reached r l straight e =
      let is_line : line_at code s.top ≡ Some l = ap (option_and_then (λ g. slice_get g.lines s.top.place)) r.is ∙ e in
      subst (λ o. ComesTo code t s 1 (step_at true code s o)) (sym is_line)
      (safe_straight code labels places s (reached_counted code labels places (placed_kept code t placed) n items reached.0 s reached.1) r.g r.σ r.is r.meets r.waits r.globals r.slots (Follows code labels places s.top.func s.top.place) (ComesTo code t s 1) (λ e u f. f) (arrived_next s r.g r.is) l straight ((placed_kept code t placed s.top.func r.g r.is).line s.top.place l r.σ r.at e))

  ends_stay : (s : MachineState) (j k : ℕ) (e : MachineEnding) (u : MachineState) → IsFine e → ComesTo code t s j (steps_on code k (Ends e u))
  ends_stay s j zero e u f = f
  ends_stay s j (suc k) e u f = f

  further : (s u : MachineState) (k : ℕ) (next : Next) → HasCome code t s 1 u → ComesTo code t u k next → ComesTo code t s (suc k) next
  further s u k (Goes v) a b =
      record { func = b.func ∙ a.func; place = omega (arith, a.place, b.place); into = b.into ∙ a.into; below = b.below ∙ a.below; met = b.met }
  further s u k (Ends e v) a b = b

  same_tail : (l : Line) (xs ys : List Line) → l ∷ xs ≡ l ∷ ys → xs ≡ ys
  same_tail l xs ys e = cc

  same_met : (s u : MachineState) (r : IsMet code places s) (h : HasCome code t s 1 u) → h.met.g ≡ r.g
  same_met s u r h =
      let both : Some h.met.g ≡ Some r.g = sym h.met.is ∙ ap (slice_get code.funcs) h.func ∙ r.is in cc

  -- the lines behind the first one, where they lead on from each state
  rest_comes : (ls rest : List Line) → ((u : MachineState) → IsReached u → (m : IsMet code places u) → from u.top.place m.g.lines ≡ ls ++ rest → ComesTo code t u (length ls) (steps_on code (length ls) (Goes u))) → (s : MachineState) → IsReached s → (r : IsMet code places s) → from (s.top.place + 1) r.g.lines ≡ ls ++ rest → (next : Next) → step code s ≡ next → ComesTo code t s 1 next → ComesTo code t s (suc (length ls)) (steps_on code (length ls) next)
  rest_comes ls rest on s reached r e (Ends d u) is h = ends_stay s (suc (length ls)) (length ls) d u h
  rest_comes ls rest on s reached r e (Goes u) is h =
      further s u (length ls) (steps_on code (length ls) (Goes u)) h
      (on u (reached.0 + 1, reaches_next code reached.0 (start code n items) s u reached.1 is) h.met (ap (λ z. from u.top.place z.lines) (same_met s u r h) ∙ ap (λ p. from p r.g.lines) h.place ∙ e))

  pub group_comes : (ls rest : List Line) (s : MachineState) → IsReached s → (r : IsMet code places s) → AreStraight ls → from s.top.place r.g.lines ≡ ls ++ rest → ComesTo code t s (length ls) (steps_on code (length ls) (Goes s))
  group_comes [] rest s reached r straight e =
      record { func = refl; place = omega arith; into = refl; below = refl; met = r }
  group_comes (l ∷ ls) rest s reached r straight e =
      let here : slice_get r.g.lines s.top.place ≡ Some l = from-line r.g.lines s.top.place l (ls ++ rest) e in
      rest_comes ls rest (λ u more m f. group_comes ls rest u more m straight.1 f) s reached r (same_tail l (from (s.top.place + 1) r.g.lines) (ls ++ rest) (sym (from-get r.g.lines s.top.place l here) ∙ e)) (step code s) refl (line_comes s reached r l straight.0 here)

pub group_law : GroupRuns
group_law code t placed n items top first j s r g is ls rest straight e =
    let m = reached_met code (Entered (labels_of code t)) (Entered t) (placed_kept code t placed) n items top first j s r in
    let same_function : m.g ≡ g = let both : Some m.g ≡ Some g = sym m.is ∙ is in cc in
    group_comes code t placed n items ls rest s (j, r) m straight (ap (λ z. from s.top.place z.lines) same_function ∙ e)
