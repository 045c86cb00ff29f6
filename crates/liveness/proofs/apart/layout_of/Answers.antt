use Rattle.std.proofs.Common.{◌≡◌, ◌∙◌, ◌+◌, ◌∷◌, ◌++◌, [], length, refl, sym, ap, arith, append-nil}
use Rattle.std.proofs.lemmas.List.{drop_all}
use Rattle.std.proofs.lemmas.Option.{slice_get_read}
use Rattle.std.proofs.lemmas.Grind.{common_steps}
use Rattle.liveness.specs.Apart.{size_of, homes_from, pieces_in}
use Rattle.liveness.proofs.ApartLemmas.{homes_more, count_more}
use Rattle.liveness.proofs.apart.layout_of.Goals as goal

pub loop-block-preserved : goal.loop-block-preserved
loop-block-preserved c =
    let blocks = c.args.blocks.now in
    let i = c.loop-block.block-index in
    let n = c.loop-block.count in
    let k = c.block-item.result in
    let before = c.loop-block.homes.items in
    let is = slice_get_read blocks (length blocks) i k refl c.loop-block-test.true c.block-item.is in
    let behind : c.in_ok-behind.behind ≡ n + size_of k = grind (arith, common_steps, c.behind.ensures, c.in_ok-behind.ensures.value, c.in_ok-behind.was) in
    record {
      homes = homes_more i n c.in_ok-behind.behind blocks k before c.push.new.self.items (homes_from 0 blocks) is behind (c.in_ok-push.ensures.items ∙ ap (λ z. before ++ z ∷ []) c.home_between.ensures) c.loop-block.invariant.homes;
      count = count_more i n c.in_ok-behind.behind (pieces_in blocks) blocks k is behind c.loop-block.invariant.count;
    }

pub returns-clause-homes : goal.returns-clause-homes
returns-clause-homes c =
    let items = c.loop-block.homes.items in
    c.from_vec.ensures
    ∙ sym (append-nil items)
    ∙ sym (ap (λ z. items ++ homes_from c.loop-block.count z) (drop_all c.loop-block.block-index c.args.blocks.now c.loop-block-test.false))
    ∙ c.loop-block.invariant.homes

pub returns-clause-count : goal.returns-clause-count
returns-clause-count c =
    let none = ap pieces_in (drop_all c.loop-block.block-index c.args.blocks.now c.loop-block-test.false) in
    omega (arith, none, c.loop-block.invariant.count)
