-- No well-typed module is ever stuck, and watched for shapes its run is the run itself.
use Rattle.std.proofs.Common.{ℕ, Bool, false, List, [], None, refl, sym, ap, subst}
use Rattle.std.specs.Prelude.{IsSome}
use Rattle.value_core.specs.Value.{Value}
use Rattle.source_meaning.specs.State.{State, Cut, Over, Broken, Stuck, Outcome, Gives, Raises, Stops}
use Rattle.source_meaning.specs.SourceRun.{stop_of, raised_as, source_run}
use Rattle.py_typed.specs.Statements.{TypedModule}
use Rattle.source_meaning.specs.WaysOut.{Flow, Goes, Breaks, Continues, Returns}
use Rattle.source_soundness.specs.Laws.{NoneIsStuck, TypesAreSound}
use Rattle.source_soundness.specs.Shapes.{shapes}
use Rattle.source_soundness.specs.Watched.{watched_run}
use Rattle.source_soundness.proofs.Worlds.{World}
use Rattle.source_soundness.proofs.Fine.{Post, IsThrown}
use Rattle.source_soundness.proofs.Flows.{FlowIs}
use Rattle.source_soundness.proofs.Shaped.{shapes_pass}
use Rattle.source_soundness.proofs.Members.{facts_hold, funcs_are, top_typed}
use Rattle.source_soundness.proofs.Runs.{fine_top}

raised_ends : {utf8 : Bool} (v : Value) → IsThrown utf8 v → IsSome (raised_as v)
raised_ends v h = subst (λ z. IsSome (raised_as z)) (sym h.1) refl

ends : {utf8 : Bool} (m : TypedModule) (b c : Bool) (B names : List ℕ) (W : World utf8) (s : State) (o : Outcome Flow) → Post m [] B W s (FlowIs m None false b c names) o → IsSome (stop_of o).ending
ends m b c B names W s (Gives Goes u) p = refl
ends m b c B names W s (Gives Breaks u) p = absurd (cc p.2.0)
ends m b c B names W s (Gives Continues u) p = absurd (cc p.2)
ends m b c B names W s (Gives (Returns v) u) p = absurd p.2
ends m b c B names W s (Raises e u) p = raised_ends e p.2
ends m b c B names W s (Stops Cut u) p = refl
ends m b c B names W s (Stops Over u) p = refl
ends m b c B names W s (Stops Broken u) p = refl
ends m b c B names W s (Stops Stuck u) p = absurd p

pub none_is_stuck : NoneIsStuck
unfolding source_run
none_is_stuck is_identifier m w n items =
    let top : _ = fine_top {utf8 = false} m (facts_hold is_identifier m w) (shapes m.classes.classes) (shapes_pass m) (funcs_are is_identifier m w) n items (λ q. absurd (cc)) (top_typed is_identifier m w) in
    ends m _ _ _ _ _ _ _ top.post

pub types_sound : TypesAreSound
unfolding source_run watched_run
types_sound is_identifier m w n items =
    let top : _ = fine_top {utf8 = false} m (facts_hold is_identifier m w) (shapes m.classes.classes) (shapes_pass m) (funcs_are is_identifier m w) n items (λ q. absurd (cc)) (top_typed is_identifier m w) in
    ap stop_of top.same
