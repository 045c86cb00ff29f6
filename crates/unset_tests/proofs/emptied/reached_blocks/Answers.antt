use Rattle.std.proofs.Common.{◌∙◌, ◌++◌, ◌∷◌, [], ap}
use Rattle.unset_tests.specs.declared.marks.Followed.TheVariants.{Paths}
use Rattle.unset_tests.specs.Ways.{AreSpread, AreReached}
use Rattle.unset_tests.proofs.Values.{if_ok}
use Rattle.unset_tests.proofs.Emptying.{spread_reached}
use Rattle.unset_tests.proofs.emptied.reached_blocks.Goals as goal

pub returns : goal.returns
returns c =
    let f = c.args.f.now in
    let regs = c.as_slice.result.now in
    let blocks = c.as_slice-2.result.now in
    let work = c.push.new.self.items in
    let begins = c.in_ok-push.ensures.items ∙ ap (λ xs. xs ++ 0 ∷ []) c.new-work.ensures.items in
    if_ok c.spread.result (λ m. AreSpread regs blocks Paths work m.items) (λ m. AreReached f m.items) (λ m h. spread_reached f regs blocks work m.items c.as_slice.ensures c.as_slice-2.ensures begins h) c.spread.ensures
