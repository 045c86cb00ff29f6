use Rattle.c_text.proofs.ReadLemmas.{read_refused, read_turn}
use Rattle.c_text.proofs.reader.read.Goals as goal

pub returns-in_default-2-clause-refused : goal.returns-in_default-2-clause-refused
returns-in_default-2-clause-refused c =
    let s = rw c.in_default-2.is at c.in_ok-next.ensures in
    read_refused c.loop-piece.part c.args.bytes.now c.loop-piece.rest.now c.in-Some.piece.now c.in-Some.after.now c.loop-piece.invariant.fine c.loop-piece.invariant.whole c.in-Some.ensures.0 s

pub loop-piece-preserved : goal.loop-piece-preserved
loop-piece-preserved c =
    let n = rw c.in-Some-2.is at c.in_ok-next.ensures in
    record {
      fine = n.0;
      whole = read_turn c.loop-piece.part c.in-Some-2.next c.args.bytes.now c.loop-piece.rest.now c.in-Some.piece.now c.in-Some.after.now c.loop-piece.invariant.whole c.in-Some.ensures.0 n.1;
    }
