-- Whole runs: a program with its counts means what the program means that has none yet.
use Rattle.std.proofs.Common.{◌≡◌, refl, sym, ◌∙◌, ap, subst, ℕ, zero, suc, ◌-◌, List, [], ◌∷◌, length, map, Option, Some, None, inl, inr, ◌⊎◌}
use Rattle.std.specs.Prelude.{slice_get}
use Rattle.std.specs.Option.{option_and_then}
use Rattle.value_core.specs.Ending.{Ending}
use Rattle.value_core.specs.Items.{Items}
use Rattle.ir_core.specs.declared.code.Op.{Op}
use Rattle.ir_core.specs.declared.code.Last.{Last}
use Rattle.ir_core.specs.declared.code.Last.TheVariants.{Goto, If, IfError, Return, Unreachable}
use Rattle.ir_core.specs.declared.code.Block.{Block}
use Rattle.ir_core.specs.declared.code.Func.{Func}
use Rattle.ir_core.specs.declared.code.Program.{Program}
use Rattle.ir_core.specs.Registers.{first_regs}
use Rattle.ir_core.specs.Effects.{World}
use Rattle.ir_core.specs.Meaning.{Config, Runs, Leaves, Ended, Stuck, Fitting, step, steps}
use Rattle.ir_core.specs.Runs.{first_world, begins, start, MeansSame, Fit}
use Rattle.ir_core.specs.Shape.{OpsFit, BlocksFit, FuncsFit, Shape}
use Rattle.ir_core.proofs.Simulation.{Simulates, means_same, never_stuck}
use Rattle.refcount_insert_rule.specs.Counted.{AreCounted, IsCountedProgram}
use Rattle.refcount_insert_meaning_laws.specs.Uncounted.{without_counts, passes, passed_to, goal, led, uncounted_block, uncounted_func, uncounted}
use Rattle.refcount_insert_meaning_laws.specs.Laws.{CountedFits, CountedMeansSame, UncountedIsSame}
use Rattle.refcount_insert_meaning_laws.proofs.Counts.{left_of_fitting}
use Rattle.refcount_insert_meaning_laws.proofs.Goals.{goal_here}
use Rattle.refcount_insert_meaning_laws.proofs.Standing.{first_stands}
use Rattle.refcount_insert_meaning_laws.proofs.Steps.{r, FuncAt, func_at, size_same, Matches, step_matches}

module _ (p : Program) (gs : List Func) (shape : Shape p) (counted : AreCounted p.funcs gs) where
  abbrev there : Program
  there = r p gs shape counted

  abbrev Meets : Config → Config → Type 0
  Meets c d = Matches p gs shape counted c d

  ends : (e : Ending) (w : World) (d : Config) → Meets (Ended e w) d → (n : ℕ) × (steps Fitting there n d ≡ Ended e w)
  ends e w d m = (0, m)

  from_end : (c : Config) (e : Ending) (w : World) → Meets c (Ended e w) → (c ≡ Ended e w) ⊎ (step Fitting p c ≡ Stuck)
  from_end (Runs f below v) e w m = let bad = m.is in absurd (cc)
  from_end (Leaves fn below v) e w m = absurd m
  from_end (Ended x v) e w m = inl (sym m)
  from_end Stuck e w m = inr refl

  from_stuck : (c : Config) → Meets c Stuck → (c ≡ Stuck) ⊎ (step Fitting p c ≡ Stuck)
  from_stuck (Runs f below v) m = let bad = m.is in absurd (cc)
  from_stuck (Leaves fn below v) m = absurd m
  from_stuck (Ended x v) m = let bad : Stuck ≡ Ended x v = m in absurd (cc)
  from_stuck Stuck m = inl refl

  simulates : Simulates Fitting Fitting p there Meets
  simulates = record {
    moves = λ c d m. let h = step_matches p gs shape counted c d m in (h.0, 0, h.1);
    ends = ends;
    from_end = from_end;
    from_stuck = from_stuck;
  }

  starts : (turns : ℕ) (items : Items) → Meets (start p turns items) (start there turns items)
  starts turns items =
      subst (λ n. Meets (start p turns items) (begins (n - 1) (first_world p turns items) (slice_get there.funcs (n - 1)))) (sym (size_same p.funcs gs counted))
      (by (slice_get p.funcs top) refl)
    where
      top : ℕ
      top = length p.funcs - 1

      at : (f : Func) (a : FuncAt p gs shape counted top) → a.func ≡ f → Meets (begins top (first_world p turns items) (Some f)) (begins top (first_world p turns items) (slice_get there.funcs top))
      at f a same =
          subst (λ o. Meets (begins top (first_world p turns items) (Some f)) (begins top (first_world p turns items) o)) (sym a.new_there)
          (subst (λ (z : Func). Meets (begins top (first_world p turns items) (Some z)) (begins top (first_world p turns items) (Some (uncounted_func a.new)))) same
          (record {
            block = 0;
            waiting = [];
            is = ap (λ ds. Runs (record { fn = top; block = 0; place = 0; regs = first_regs ds [] }) [] (first_world p turns items)) a.is.regs;
            known = record { at = a; known = λ z there. first_stands a.func a.new a.is };
            wait = tt;
          }))

      by : (o : Option Func) → slice_get p.funcs top ≡ o → Meets (begins top (first_world p turns items) o) (begins top (first_world p turns items) (slice_get there.funcs top))
      by None none = tt
      by (Some f) is = let found = func_at p gs shape counted top f is in at f found.0 found.1

  same : Fit p → MeansSame p there
  same fit = means_same Fitting Fitting p there Meets simulates starts fit

  still_fits : Fit p → Fit there
  still_fits fit = never_stuck Fitting Fitting p there Meets simulates starts fit

module _ (p q : Program) (counted : IsCountedProgram p q) where
  -- it has the globals and the classes
  heads : record p { funcs = map uncounted_func q.funcs } ≡ uncounted q
  heads =
      ap (λ gs. record p { globals = gs; funcs = map uncounted_func q.funcs }) (sym counted.globals)
      ∙ ap (λ cs. record q { classes = cs; funcs = map uncounted_func q.funcs }) (sym counted.classes)

pub counted_means_same : CountedMeansSame
counted_means_same p q shape fit counted =
    subst (MeansSame p) (heads p q counted) (same p q.funcs shape counted.funcs fit)

pub counted_fits : CountedFits
counted_fits p q shape fit counted = subst Fit (heads p q counted) (still_fits p q.funcs shape counted.funcs fit)

-- ---- a program without counts
module _ (blocks : List Block) where
  abbrev AllFit : List Block → Type 0
  AllFit bs = (k : ℕ) (b : Block) → slice_get bs k ≡ Some b → OpsFit b.ops

  none_passes : (k : ℕ) (ops : List (Op × ℕ)) (last : Last) → passes k ops ops last ≡ None
  none_passes k [] last = refl
  none_passes k (o ∷ os) last = refl

  module _ (fits : AllFit blocks) where
    none_passed : (k : ℕ) → passed_to blocks k ≡ None
    none_passed k = by (slice_get blocks k) refl
      where
        by : (o : Option Block) → slice_get blocks k ≡ o → passed_to blocks k ≡ None
        by None is = ap (option_and_then (λ (b : Block). passes k b.ops (without_counts b.ops) b.last)) is
        by (Some b) is =
            ap (option_and_then (λ (b : Block). passes k b.ops (without_counts b.ops) b.last)) is
            ∙ (ap (λ z. passes k b.ops z b.last) (left_of_fitting b.ops (fits k b is)) ∙ none_passes k b.ops b.last)

    still : (k : ℕ) → goal blocks k ≡ k
    still k = goal_here blocks k (none_passed k)

    led_same : (l : Last) → led (goal blocks) l ≡ l
    led_same (Goto k) = ap Goto (still k)
    led_same (If x a b) = ap (λ z. If x z (goal blocks b)) (still a) ∙ ap (If x a) (still b)
    led_same (IfError x a b line) = ap (λ z. IfError x z (goal blocks b) line) (still a) ∙ ap (λ z. IfError x a z line) (still b)
    led_same (Return x) = refl
    led_same Unreachable = refl

    block_same : (b : Block) → OpsFit b.ops → uncounted_block blocks b ≡ b
    block_same b fit =
        ap (λ ops. record b { ops = ops; last = led (goal blocks) b.last }) (left_of_fitting b.ops fit) ∙ ap (λ l. record b { last = l }) (led_same b.last)

    blocks_same : (n k : ℕ) (bs : List Block) → BlocksFit n k bs → map (uncounted_block blocks) bs ≡ bs
    blocks_same n k [] fit = refl
    blocks_same n k (b ∷ bs) fit =
        ap (λ z. z ∷ map (uncounted_block blocks) bs) (block_same b fit.0.ops) ∙ ap (λ z. b ∷ z) (blocks_same n (suc k) bs fit.1)

ops_fit : (n k : ℕ) (bs : List Block) → BlocksFit n k bs → (j : ℕ) (b : Block) → slice_get bs j ≡ Some b → OpsFit b.ops
ops_fit n k [] fits j b e = let f : None ≡ Some b = e in absurd (cc)
ops_fit n k (x ∷ bs) fits zero b e =
    let f : Some x ≡ Some b = e in
    let same : x ≡ b = cc in subst (λ (z : Block). OpsFit z.ops) same fits.0.ops
ops_fit n k (x ∷ bs) fits (suc j) b e = ops_fit n (suc k) bs fits.1 j b e

funcs_same : (fs : List Func) → FuncsFit fs → map uncounted_func fs ≡ fs
funcs_same [] fits = refl
funcs_same (f ∷ fs) fits =
    let one : uncounted_func f ≡ f = ap (λ bs. record f { blocks = bs }) (blocks_same f.blocks (ops_fit (length f.blocks) 0 f.blocks fits.0) (length f.blocks) 0 f.blocks fits.0) in
    ap (λ z. z ∷ map uncounted_func fs) one ∙ ap (λ z. f ∷ z) (funcs_same fs fits.1)

pub uncounted_is_same : UncountedIsSame
uncounted_is_same p shape = ap (λ fs. record p { funcs = fs }) (funcs_same p.funcs shape.funcs)
