-- The program without what is of no use: its runs are the program's.
use Rattle.std.proofs.Common.{◌≡◌, sym, ◌∙◌, ap, subst, List, [], ◌∷◌}
use Rattle.ir_core.specs.declared.code.Func.{Func}
use Rattle.ir_core.specs.declared.code.Program.{Program}
use Rattle.ir_core.specs.Meaning.{Plain, Strict}
use Rattle.ir_core.specs.Runs.{MeansSame, Calm}
use Rattle.ir_core.specs.Shape.{Shape}
use Rattle.unset_tests.specs.Alike.{IsAlike, AreEach}
use Rattle.unset_tests.specs.Same.{RunsSame}
use Rattle.unset_tests.specs.Without.{IsWithout}
use Rattle.unset_tests.specs.Emptied.{IsEmptied}
use Rattle.unset_tests.specs.Cleared.{IsCleared, IsProgramCleared}
use Rattle.unset_tests.proofs.Each.{each_of}
use Rattle.unset_tests.proofs.Stepping.{with_funcs, runs_same}
use Rattle.unset_tests.proofs.Untested.{MayBeUnset, unset_goes_on, without_does_same}
use Rattle.unset_tests.proofs.Reached.{IsMet, met_goes_on, emptied_does_same}
use Rattle.unset_tests.proofs.Lessening.{IsLess, cleared_less}
use Rattle.unset_tests.proofs.Shaping.{shape_kept}

-- ---- one step, and the other
without_runs : (p : Program) (gs : List Func) → AreEach IsWithout p.funcs gs → RunsSame p (with_funcs p gs)
without_runs p gs all m turns items n =
    runs_same m p gs (each_of IsWithout IsAlike (λ f g h. h.alike) p.funcs gs all) (MayBeUnset p) (unset_goes_on p) (without_does_same p gs all) turns items n

emptied_runs : (p : Program) (gs : List Func) → AreEach IsEmptied p.funcs gs → RunsSame p (with_funcs p gs)
emptied_runs p gs all m turns items n =
    runs_same m p gs (each_of IsEmptied IsAlike (λ f g h. h.alike) p.funcs gs all) (IsMet p) (met_goes_on p) (emptied_does_same p gs all) turns items n

-- the functions between the two
record Between (fs gs : List Func) : Type 0 where
  pub funcs : List Func
  pub tests : AreEach IsWithout fs funcs
  pub emptied : AreEach IsEmptied funcs gs

between : (fs gs : List Func) → AreEach IsCleared fs gs → Between fs gs
between [] [] all = record { funcs = []; tests = tt; emptied = tt }
between [] (g ∷ gs) all = absurd all
between (f ∷ fs) [] all = absurd all
between (f ∷ fs) (g ∷ gs) all =
    let rest : Between fs gs = between fs gs all.1 in
    record { funcs = all.0.between ∷ rest.funcs; tests = (all.0.tests, rest.tests); emptied = (all.0.emptied, rest.emptied) }

module _ (p q : Program) (cleared : IsProgramCleared p q) where
  -- it differs in its functions alone
  pub parts : with_funcs p q.funcs ≡ q
  parts =
      sym (ap (λ gs. record q { globals = gs }) cleared.globals ∙ ap (λ ks. record { globals = p.globals; classes = ks; funcs = q.funcs }) cleared.classes)

  pub runs : RunsSame p q
  runs =
      let b : Between p.funcs q.funcs = between p.funcs q.funcs cleared.funcs in
      subst (RunsSame p) parts (λ m turns items n. emptied_runs (with_funcs p b.funcs) q.funcs b.emptied m turns items n ∙ without_runs p b.funcs b.tests m turns items n)

  pub means : MeansSame p q
  means turns items e w =
      (λ h. (h.0, runs Plain turns items h.0 ∙ h.1), λ h. (h.0, sym (runs Plain turns items h.0) ∙ h.1))

  pub calm : Calm p → Calm q
  calm free turns items n stuck = free turns items n (sym (runs Strict turns items n) ∙ stuck)

  pub shaped : Shape p → Shape q
  shaped h =
      subst Shape parts (shape_kept p q.funcs (each_of IsCleared IsLess cleared_less p.funcs q.funcs cleared.funcs) h)
