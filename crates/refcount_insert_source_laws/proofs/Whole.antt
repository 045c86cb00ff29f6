-- A code that keeps its references in order follows the program that its unchecked runs do.
use Rattle.std.proofs.Common.{◌≡◌, sym, ap, ◌∙◌, subst, ℕ, zero, suc, Some}
use Rattle.std.proofs.lemmas.Option.{same_Some}
use Rattle.value_core.specs.Ending.{Ending, Done, Raised, Cut, Over, Broken}
use Rattle.c_core.specs.Cells.{count_at}
use Rattle.c_core.specs.Holders.{holders}
use Rattle.c_core.specs.Machine.{MachineState}
use Rattle.c_core.specs.Step.{Ended, Next, Goes, Ends, unchecked_step}
use Rattle.c_core.specs.Run.{Stop, go_on, start, most_steps, machine_run}
use Rattle.c_core.specs.Stands.{Stands}
use Rattle.c_core.specs.Agreement.{SourceStop, IsWhole, EndsWhole, Agrees}
use Rattle.c_core.specs.Laws.{IsCounted}
use Rattle.c_core.proofs.KeepsCounts.{run_keeps_counts}
use Rattle.c_core_ownership_laws.specs.Alike.{HoldsMore, IsLike}
use Rattle.c_core_ownership_laws.specs.Laws.{AgreesWith, IsFinished}
use Rattle.c_core_ownership_laws.proofs.AlikeRuns.{runs_agree}
use Rattle.c_core_ownership_laws.proofs.EndOwns.{end_counts}
use Rattle.refcount_insert_lines_laws.specs.Follows.{stop_of, EndsStanding, StandsAs}
use Rattle.refcount_insert_source_laws.specs.Laws.{OrderedFollows}
use Rattle.refcount_insert_source_laws.proofs.Standing.{stands_back, pending_back}

-- two stops of one run are the same, whatever their bounds
same_stop : (f : MachineState → Next) (k j : ℕ) (next : Next) (a b : Stop) → go_on f k next ≡ Some a → go_on f j next ≡ Some b → a ≡ b
same_stop f k j (Ends e s) a b p q = same_Some _ _ (sym p ∙ q)
same_stop f zero j (Goes s) a b p q = cc
same_stop f (suc k) zero (Goes s) a b p q = cc
same_stop f (suc k) (suc j) (Goes s) a b p q = same_stop f k j (f s) a b p q

-- the checked state next to the unchecked one
module _ (s u : MachineState) (counts : IsCounted s) (like : IsLike s u) where
  same_made : u.made ≡ s.made
  same_made = ap (λ z. z.made) like.is

  same_globals : u.globals ≡ s.globals
  same_globals = ap (λ z. z.globals) like.is

  same_pending : u.pending ≡ s.pending
  same_pending = ap (λ z. z.pending) like.is

  holds_more : HoldsMore s.cells u.cells
  holds_more = subst (HoldsMore s.cells) (sym (ap (λ z. z.cells) like.is)) like.more

  whole : (source : SourceStop) → Stands source.store source.variables u → ((c : ℕ) → count_at s.cells c ≡ holders s c) → IsWhole source s
  whole source st held = record {
    stands = stands_back s u counts same_made holds_more source.store source.variables same_globals st;
    counted = λ c v e. held c;
  }

  ends_whole : (e : Ending) (source : SourceStop) → (IsFinished (Ended e) → (c : ℕ) → count_at s.cells c ≡ holders s c) → EndsStanding e source u → EndsWhole e source s
  ends_whole Done source held st = (whole source st.0 (held tt), sym same_pending ∙ st.1)
  ends_whole (Raised e) source held st =
      (whole source st.0 (held tt), pending_back s u counts same_made holds_more e same_pending st.1)
  ends_whole Cut source held st = tt
  ends_whole Over source held st = tt
  ends_whole Broken source held st = tt

-- a checked stop that agrees with the unchecked one agrees with the program
agrees : (source : SourceStop) (stop free : Stop) → IsCounted stop.state → (IsFinished stop.ending → (c : ℕ) → count_at stop.state.cells c ≡ holders stop.state c) → AgreesWith stop free → StandsAs source free → Agrees source stop
agrees source stop free counts held a st =
    let ending : stop.ending ≡ Ended source.ending = a.ending ∙ st.same_ending in
    record {
      same_output = a.output ∙ st.same_output;
      same_ending = ending;
      whole = ends_whole stop.state free.state counts a.like source.ending source (λ over. held (subst IsFinished (sym ending) over)) st.standing;
    }

pub ordered_follows : OrderedFollows
ordered_follows p code t well globals order unchecked =
    record {
      is_well_formed = well;
      same_globals = globals;
      runs = λ turns items.
          let both = runs_agree code t well order turns items in
          let stop : Stop = both.0 in
          let free : Stop = both.1 in
          let run : machine_run turns items code ≡ Some stop = both.2 in
          let a = unchecked turns items in
          let same : a.stop ≡ free =
          same_stop (unchecked_step code) a.bound (most_steps turns code) (Goes (start code turns items)) a.stop free a.runs both.3 in
          let stands : StandsAs (stop_of a.ending a.world) free = subst (StandsAs (stop_of a.ending a.world)) same a.stands in
          record {
            stop = stop;
            runs = run;
            ending = a.ending;
            world = a.world;
            comes = a.comes;
            agrees = agrees (stop_of a.ending a.world) stop free ((run_keeps_counts code turns items).1 stop run) (λ over c. (end_counts code turns items stop run over c).1) both.4 stands;
            free = free;
            runs_free = both.3;
            stands = stands;
          };
    }
