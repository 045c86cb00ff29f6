use Rattle.std.proofs.Common.{◌≡◌, ◌++◌, take}
use Rattle.refcount_insert.specs.Layout.{detours_to}
use Rattle.refcount_insert.proofs.layout.lay_detours.Given as goal

abbrev pub invariant-loop-detour : goal.invariant-loop-detour
invariant-loop-detour l =
    l.blocks.items ≡ l.initial.blocks.items ++ detours_to l.there (take l.detour-index l.detours)
