use Rattle.std.proofs.Common.{◌≡◌, ◌<◌, ◌∙◌, sym, false, length, arith}
use Rattle.std.specs.Prelude.{is_some}
use Rattle.c_core.proofs.IndexLemmas.{stands_again, differs_still, index_more}
use Rattle.c_core.proofs.checked.number_names.Goals as goal

pub returns-then-is_some-clause-differ : goal.returns-then-is_some-clause-differ
returns-then-is_some-clause-differ g c =
    let within : c.loop-i.i < length c.args.items.now = omega arith in
    stands_again g.T.Named.name_of c.args.items.now c.loop-i.i c.index-items-i.result within c.index-items-i.is c.loop-i.numbers c.name.result c.in_ok-insert.field-0 c.name.ensures c.in_ok-insert.ensures.old c.loop-i.invariant.known (sym c.is_some.ensures ∙ c.if-is_some.true) c.loop-i.invariant.differ

pub loop-i-preserved : goal.loop-i-preserved
loop-i-preserved g c =
    let within : c.loop-i.i < length c.args.items.now = omega arith in
    let none : is_some c.in_ok-insert.field-0 ≡ false = sym c.is_some.ensures ∙ c.if-is_some.false in record {
      known = index_more g.T.Named.name_of c.args.items.now c.loop-i.i c.index-items-i.result within c.index-items-i.is c.loop-i.numbers c.name.result c.in_ok-insert.field-0 c.name.ensures c.in_ok-insert.ensures.old c.loop-i.invariant.known none c.insert.new.self c.in_ok-insert.ensures.updates;
      differ = differs_still g.T.Named.name_of c.args.items.now c.loop-i.i c.index-items-i.result within c.index-items-i.is c.loop-i.numbers c.name.result c.in_ok-insert.field-0 c.name.ensures c.in_ok-insert.ensures.old c.loop-i.invariant.known none c.loop-i.invariant.differ;
    }
