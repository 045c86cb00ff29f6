use Rattle.std.proofs.Common.{◌<◌, sym, length, arith}
use Rattle.c_core.proofs.WellFormedLemmas.{names_turn}
use Rattle.c_core.proofs.names.names_differ.Goals as goal

pub returns-then-is_name_in : goal.returns-then-is_name_in
returns-then-is_name_in g c =
    let l : c.loop-i.i < length c.args.items.now = omega arith in
    sym (names_turn g.T.Named.name_of c.args.items.now c.loop-i.i c.index-items-i.result _ _ l c.index-items-i.is c.name.ensures c.if-is_name_in.ensures c.loop-i.invariant)

pub loop-i-preserved : goal.loop-i-preserved
loop-i-preserved g c =
    let l : c.loop-i.i < length c.args.items.now = omega arith in
    sym (names_turn g.T.Named.name_of c.args.items.now c.loop-i.i c.index-items-i.result _ _ l c.index-items-i.is c.name.ensures c.if-is_name_in.ensures c.loop-i.invariant)
