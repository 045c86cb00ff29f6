use Rattle.std.proofs.Common.{◌^◌}
use Rattle.std.specs.Prelude.{map}
use Rattle.cell_heap.specs.Contents.{word_of}
use Rattle.c_runner_deeds.specs.States.{seen}
use Rattle.c_runner_objects.proofs.TupleLemmas.{small_without, place_kept, tuple_packed, none_stolen}
use Rattle.cell_heap.proofs.OursLemmas.{keeps_itself}
use Rattle.c_runner_deeds.proofs.OursLemmas.{frame_own}
use Rattle.c_runner_objects.proofs.OwnLemmas.{vars_kept}
use Rattle.c_runner_objects.proofs.tuples.pack.Goals as goal

pub returns-in-Err : goal.returns-in-Err
returns-in-Err c = λ code. none_stolen (seen c.args.state.now) code c.args.target c.args.args.now c.in-Err.fault (rw c.in-Err.is at c.in_ok-found.ensures.stolen)

pub make_cell-requires : goal.make_cell-requires
make_cell-requires c =
    let lost = rw c.as_slice.ensures at c.lose_all.ensures in
    record {
      small = small_without (seen c.args.state.now) (map word_of c.in-Ok.words) c.lose_all.new.frame c.requires.small lost;
      place = place_kept (seen c.args.state.now) (map word_of c.in-Ok.words) c.lose_all.new.frame (2 ^ 64) lost c.requires.place;
      ours = rw c.in-Ok.is at c.in_ok-found.ensures.ours;
    }

pub returns-in-Ok : goal.returns-in-Ok
returns-in-Ok c =
    let lost = rw c.as_slice.ensures at c.lose_all.ensures in
    tuple_packed (seen c.args.state.now) (seen c.make_cell.new.self) c.args.target c.args.args.now c.in-Ok.words c.lose_all.new.frame c.make_cell.result (rw c.in-Ok.is at c.in_ok-found.ensures.stolen) (rw c.in-Ok.is at c.in_ok-found.ensures.objects) lost c.make_cell.ensures

pub invariant_of-state : goal.invariant_of-state
invariant_of-state c =
    let lost = rw c.as_slice.ensures at c.lose_all.ensures in
    record {
      ours = frame_own c.args.state.now c.args.state.now.cells c.lose_all.new.frame.vars (keeps_itself c.args.state.now.cells) (vars_kept c.args.state.now.top c.lose_all.new.frame _ lost);
    }
