use Rattle.refcount_insert.proofs.DetourSteps.{ways_joined, entries_within}
use Rattle.refcount_insert.proofs.detours.+ways.Goals as goal

pub over_commons-requires : goal.over_commons-requires
over_commons-requires t c = entries_within _ c.ways.new.detours.items _ _ _ c.deref-3.ensures.value c.in_ok-shared.ensures.ways

pub returns-clause-ways : goal.returns-clause-ways
returns-clause-ways t c =
    ways_joined _ _ _ _ _ _ _ _ _ _ _ c.deref-2.ensures.value c.deref.ensures.value c.deref-3.ensures.value c.in_ok-parted.ensures.are c.in_ok-shared.ensures.ways c.in_ok-shared.ensures.size c.in_ok-entries.ensures.ways
