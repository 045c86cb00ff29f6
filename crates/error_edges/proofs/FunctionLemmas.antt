-- The functions of a program and those with edges, side by side.
use Rattle.std.proofs.Common.{◌≡◌, ◌∙◌, refl, ap, subst, ℕ, zero, suc, ◌+◌, ◌^◌, ◌≤◌, Bool, cond, List, [], ◌∷◌, ◌++◌, length, Some}
use Rattle.std.specs.Prelude.{slice_get}
use Rattle.ir_core.specs.declared.code.RType.TheVariants.{Bool as BoolType}
use Rattle.ir_core.specs.declared.code.Block.{Block}
use Rattle.ir_core.specs.declared.code.Func.{Func}
use Rattle.ir_core.specs.Rows.{Declared}
use Rattle.error_edges.specs.Names.{IsGrown}
use Rattle.error_edges.specs.Layout.{needs_flag, needs_exit, start_of, exit_of, number_at, chains, exit_block}
use Rattle.error_edges.specs.Edged.{IsEdged, AreEdged}
use Rattle.error_edges.proofs.Numbers.{plan_laid}

-- one function more
pub each_more : (fs gs : List Func) (f g : Func) → AreEdged fs gs → IsEdged f g → AreEdged (fs ++ f ∷ []) (gs ++ g ∷ [])
each_more [] [] f g all e = (e, tt)
each_more [] (y ∷ gs) f g all e = absurd all
each_more (x ∷ fs) [] f g all e = absurd all
each_more (x ∷ fs) (y ∷ gs) f g all e = (all.0, each_more fs gs f g all.1 e)

pub each_count : (fs gs : List Func) → AreEdged fs gs → length gs ≡ length fs
each_count [] [] all = refl
each_count [] (y ∷ gs) all = absurd all
each_count (x ∷ fs) [] all = absurd all
each_count (x ∷ fs) (y ∷ gs) all = ap suc (each_count fs gs all.1)

pub each_at : (fs gs : List Func) → AreEdged fs gs → (n : ℕ) (f : Func) → slice_get fs n ≡ Some f → (g : Func) × (slice_get gs n ≡ Some g) × IsEdged f g
each_at [] [] all n f e = absurd (cc)
each_at [] (y ∷ gs) all n f e = absurd all
each_at (x ∷ fs) [] all n f e = absurd all
each_at (x ∷ fs) (y ∷ gs) all zero f e = let same : x ≡ f = cc in (y, refl, subst (λ z. IsEdged z y) same all.0)
each_at (x ∷ fs) (y ∷ gs) all (suc n) f e = each_at fs gs all.1 n f e

pub each_from : (fs gs : List Func) → AreEdged fs gs → (n : ℕ) (g : Func) → slice_get gs n ≡ Some g → (f : Func) × (slice_get fs n ≡ Some f) × IsEdged f g
each_from [] [] all n g e = absurd (cc)
each_from [] (y ∷ gs) all n g e = absurd all
each_from (x ∷ fs) [] all n g e = absurd all
each_from (x ∷ fs) (y ∷ gs) all zero g e = let same : y ≡ g = cc in (x, refl, subst (λ z. IsEdged x z) same all.0)
each_from (x ∷ fs) (y ∷ gs) all (suc n) g e = each_from fs gs all.1 n g e

-- a function that is laid out by a plan. The plan and the blocks were made from copies of its registers and blocks
pub edged_by : (f g : Func) (between r s : Declared) (bs : List Block) (starts : List ℕ) (exit : ℕ) (flag out : Bool) → r ≡ f.regs → s ≡ f.regs → bs ≡ f.blocks → ((k : ℕ) → number_at starts exit k ≡ start_of r bs k) → exit ≡ exit_of r bs → flag ≡ needs_flag r bs → out ≡ needs_exit r bs → g.name ≡ f.name → g.params ≡ f.params → g.ret ≡ f.ret → IsGrown flag BoolType f.regs between → IsGrown out f.ret between g.regs → g.blocks ≡ chains s f.blocks (number_at starts exit) exit f.blocks 0 ++ cond out (exit_block (record { 0 = length s + cond flag 1 0 }) f.ret ∷ []) [] → length g.blocks ≤ 2 ^ 64 → IsEdged f g
edged_by f g between r s bs starts exit flag out same_r same_s same_bs at last asked leaves name params ret grown more blocks few =
    let flag_is : flag ≡ needs_flag f.regs f.blocks = asked ∙ (ap (λ ds. needs_flag ds bs) same_r ∙ ap (needs_flag f.regs) same_bs) in
    let out_is : out ≡ needs_exit f.regs f.blocks = leaves ∙ (ap (λ ds. needs_exit ds bs) same_r ∙ ap (needs_exit f.regs) same_bs) in
    let exit_there : exit ≡ exit_of f.regs f.blocks = last ∙ (ap (λ ds. exit_of ds bs) same_r ∙ ap (exit_of f.regs) same_bs) in
    let starts_there : (k : ℕ) → number_at starts exit k ≡ start_of f.regs f.blocks k = λ k. at k ∙ (ap (λ ds. start_of ds bs k) same_r ∙ ap (λ xs. start_of f.regs xs k) same_bs) in
    record {
      name = name;
      params = params;
      ret = ret;
      between = between;
      flag = subst (λ b. IsGrown b BoolType f.regs between) flag_is grown;
      error = subst (λ b. IsGrown b f.ret between g.regs) out_is more;
      blocks =
          blocks
          ∙ (ap (λ ds. chains ds f.blocks (number_at starts exit) exit f.blocks 0 ++ cond out (exit_block (record { 0 = length ds + cond flag 1 0 }) f.ret ∷ []) []) same_s
          ∙ plan_laid f.regs f.ret f.blocks starts exit flag out starts_there exit_there flag_is out_is);
      few = few;
    }
