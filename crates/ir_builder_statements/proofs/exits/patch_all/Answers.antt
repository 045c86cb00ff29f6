use Rattle.ir_builder_statements.proofs.Common.{◌∙◌, sym, refl, length, Some, None, planned, jumping_next, jumping_end, open_first, planned_at}
use Rattle.ir_builder_statements.proofs.exits.patch_all.Goals.{in-Some, in_default}
use Rattle.ir_builder_statements.proofs.exits.patch_all.Goals as goal

pub patch-requires : goal.patch-requires
patch-requires c = record {
  below = rw c.loop-exit.invariant.blocks (open_first _ _ _ _ c.loop-exit.exit-index _ _ c.loop-exit-test.true refl c.requires.opens.1);
  fits = rw c.loop-exit.invariant.blocks (planned_at (length c.args.b.now.blocks) (planned c.args.plan) _ c.loop-exit.exit-index c.in-Some.place _ _ c.loop-exit-test.true refl (sym c.place_of.ensures ∙ c.in-Some.is) c.requires.fits, tt);
}

pub loop-exit-preserved : goal.loop-exit-preserved
loop-exit-preserved c = elim c.match-place_of.branch [
  | in-Some w ↦ record {
    jumps = rw w.b-is (jumping_next (planned c.args.plan) _ c.loop-exit.exit-index _ _ (Some w.in-Some.place) _ _ _ c.loop-exit-test.true refl (sym c.place_of.ensures ∙ w.in-Some.is) w.patch.ensures.set c.loop-exit.invariant.jumps);
    blocks = rw w.b-is (w.patch.ensures.len ∙ c.loop-exit.invariant.blocks);
    lined = rw w.b-is (λ l k i x other at. c.loop-exit.invariant.lined l k i x other (w.patch.ensures.lined l tt k i x other at));
  }
  | in_default w ↦ record {
    jumps = rw w.b-is (jumping_next (planned c.args.plan) _ c.loop-exit.exit-index _ _ None _ _ _ c.loop-exit-test.true refl (sym c.place_of.ensures ∙ w.in_default.is) refl c.loop-exit.invariant.jumps);
    blocks = rw w.b-is c.loop-exit.invariant.blocks;
    lined = rw w.b-is c.loop-exit.invariant.lined;
  }
]

pub returns-clause-jumps : goal.returns-clause-jumps
returns-clause-jumps c = jumping_end _ _ _ _ _ c.loop-exit-test.false c.loop-exit.invariant.jumps
