use Rattle.ir_builder_statements.proofs.Common.{length, arith, inr, refl, le_refl, extends_trans, type_kept, planned, plan_fits, loop_above, turn_ends, BoolType, OwnLines, looping_to, EndsLoop}
use Rattle.ir_builder_statements.proofs.BodyLemmas.{open_kept, open_tested, still_open}
use Rattle.ir_builder_statements.proofs.LinedLemmas.{loop_around}
use Rattle.ir_builder_statements.proofs.branch.end_loop.Goals as goal

pub close-requires : goal.close-requires
close-requires c =
    let low = c.requires.head.1 in
    let turns = c.in_ok-push.ensures.pushed in
    record { fits = ((inr (c.requires.head.0, turn_ends c.args.b.now c.push.new.self c.args.line (rw c.in_ok-push.ensures.is refl)), omega arith), tt) }

pub patch-requires-clause-fits : goal.patch-requires-clause-fits
patch-requires-clause-fits c =
    let start = c.requires.start in
    let here = c.requires.here in
    let next = c.requires.next in
    let turns = c.in_ok-push.ensures.pushed in
    let closes = c.in_ok-close.ensures.closed in
    let exit = c.here-exit.ensures.number in
    (((start, omega arith), (omega arith, omega arith)), type_kept c.args.b.now c.close.new.self c.args.start.test.condition.0 BoolType (extends_trans _ _ _ c.in_ok-push.ensures.kept c.in_ok-close.ensures.kept) c.requires.flag)

pub patch_all-requires : goal.patch_all-requires
patch_all-requires c =
    let t = c.args.start.test in
    let x = extends_trans _ _ _ c.in_ok-push.ensures.kept c.in_ok-close.ensures.kept in
    let next = c.requires.next in
    let turns = c.in_ok-push.ensures.pushed in
    let closes = c.in_ok-close.ensures.closed in
    let exit = c.here-exit.ensures.number in
    let same = c.patch.ensures.len in
    record {
      opens = (t.start, open_tested c.close.new.self c.patch.new.self t.block t.start t.start c.here-exit.result t.condition c.args.inner.now c.requires.start (still_open _ _ _ x c.requires.open) c.patch.ensures.set (open_kept _ _ _ _ _ x next c.requires.opens));
      fits = plan_fits _ _ _ (length c.patch.new.self.blocks) (planned (looping_to c.here-exit.result c.args.next)) c.args.inner.now c.requires.opens (loop_above _ (length c.patch.new.self.blocks) c.here-exit.result c.args.next (omega arith, omega arith) (le_refl _, omega arith));
    }

pub returns : goal.returns
returns c =
    let l = c.args.line in
    let ends : EndsLoop c.args.b.now c.patch_all.new.b c.args.start c.args.next c.args.inner.now c.args.exits.now.items c.pass_on.new.exits.items = record {
      turned = c.push.new.self;
      line = l;
      turns = c.in_ok-push.ensures.pushed;
      closed = c.close.new.self;
      closes = c.in_ok-close.ensures.closed;
      exit = c.here-exit.result;
      behind = c.here-exit.ensures.number;
      passed = c.in_ok-pass_on.ensures;
      tested = c.patch.new.self;
      set = c.patch.ensures.set;
      jumps = c.patch_all.ensures.jumps;
    } in
    let lines : OwnLines l c.args.b.now c.patch_all.new.b = λ k i x other at. c.in_ok-push.ensures.lined k i x other (c.in_ok-close.ensures.lined l tt k i x other (c.patch.ensures.lined l tt k i x other (c.patch_all.ensures.lined l k i x other at))) in
    record {
      kept = tt;
      ends = ends;
      lined = loop_around l c.args.b.now c.patch_all.new.b c.args.start c.args.next c.args.inner.now _ _ ends c.requires.open c.requires.start c.requires.next c.requires.opens lines;
    }
