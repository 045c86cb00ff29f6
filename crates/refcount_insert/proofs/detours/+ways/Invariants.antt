use Rattle.std.proofs.Common.{length}
use Rattle.refcount_insert.proofs.detours.+ways.Given as goal

abbrev pub decreases-ways : goal.decreases-ways
decreases-ways l = length l.all.now
