use Rattle.std.proofs.Common.{◌≡◌, ℕ, ◌≤◌, List, length, IsTrue}
use Rattle.std.specs.List.{list_all}
use Rattle.c_text.specs.Braces.{ItemsRemain, next_list}
use Rattle.c_text.proofs.braces.next_items.Given as goal

-- the items before the place are read
abbrev pub invariant-loop-items : goal.invariant-loop-items
invariant-loop-items g l = record {
  remain : (items : List g.row.P.Denot) (rest : List ℕ) → IsTrue (list_all g.P.Item.spelled items) → next_list g.P.Item.shown items rest ≡ l.fn.text → ItemsRemain g.P.Item.shown l.items items l.rest rest;
  spelled : IsTrue (list_all g.P.Item.spelled l.items);
  within : length l.rest ≤ length l.fn.text;
}

abbrev pub decreases-loop-items : goal.decreases-loop-items
decreases-loop-items g l = length l.rest
