use Rattle.ir_builder_statements.proofs.Common.{ℕ, length, arith, le_refl, planned, plan_fits, join_above, OwnLines, joining, Joins}
use Rattle.ir_builder_statements.proofs.BodyLemmas.{open_kept}
use Rattle.ir_builder_statements.proofs.LinedLemmas.{join_around}
use Rattle.ir_builder_statements.proofs.branch.join.Goals as goal

pub patch_all-requires : goal.patch_all-requires
patch_all-requires c =
    let is = c.in_ok-end.ensures.number in
    let closes = c.in_ok-end.ensures.closed in
    record {
      opens = (c.requires.opens.0, open_kept _ _ _ _ _ c.in_ok-end.ensures.kept (le_refl _) c.requires.opens.1);
      fits = plan_fits _ _ _ (length c.step_on.new.self.blocks) (planned (joining c.in_ok-end.end)) c.args.inner.now c.requires.opens.1 (join_above _ (length c.step_on.new.self.blocks) c.in_ok-end.end (omega arith, omega arith));
    }

pub returns : goal.returns
returns c =
    let joins : Joins c.args.b.now c.patch_all.new.b c.args.inner.now c.args.exits.now.items c.pass_on.new.exits.items = record {
      closed = c.step_on.new.self;
      end = c.in_ok-end.end;
      here = c.in_ok-end.ensures.number;
      closes = c.in_ok-end.ensures.closed;
      passed = c.in_ok-pass_on.ensures;
      jumps = c.patch_all.ensures.jumps;
    } in
    let lines : (l : ℕ) → OwnLines l c.args.b.now c.patch_all.new.b = λ l k i x other at. c.in_ok-end.ensures.lined l k i x other (c.patch_all.ensures.lined l k i x other at) in
    record {
      kept = tt;
      joins = joins;
      lined = λ l. join_around l c.args.b.now c.patch_all.new.b c.requires.opens.0 c.args.inner.now _ _ joins c.requires.opens.1 (lines l);
    }
