use Rattle.std.proofs.Common.{◌≡◌, sym, ap, subst, ◌∙◌, ◌++◌, ◌+◌, List, [], drop, length, append-nil, arith, Some, None}
use Rattle.std.specs.Prelude.{map}
use Rattle.std.proofs.Math.Seq.{drop-length}
use Rattle.cell_heap.specs.Contents.{name_of, number_of}
use Rattle.cell_heap.specs.Numbered.{numbered}
use Rattle.cell_heap.specs.Ours.{AreOurs}
use Rattle.slot_arena.specs.declared.key.Key.{Key}
use Rattle.c_runner.specs.declared.report.LiveCell.{LiveCell}
use Rattle.c_runner.proofs.LiveLemmas.{live_of, all_live, one_more}
use Rattle.c_runner.proofs.OwnLemmas.{key_own}
use Rattle.c_runner.proofs.live.live.Goals as goal
use Rattle.c_runner.proofs.live.live.Goals.{in-None, in-Some+in_ok-push-in-Some}

pub loop-key-init : goal.loop-key-init
loop-key-init c =
    let classes = c.args.classes.now in
    let cells = numbered c.args.cells.now in
    ap (λ (live : List LiveCell). live ++ live_of classes cells (map number_of c.as_slice-key-items.result.now)) c.new-live.ensures
    ∙ ap (live_of classes cells) (ap (map number_of) c.as_slice-key-items.ensures ∙ c.in_ok-keys.ensures.numbers)
    ∙ all_live classes cells

pub live_cell-requires : goal.live_cell-requires
live_cell-requires c =
    key_own c.args.cells.now c.as_slice-key-items.result.now c.loop-key.key-index _
    (subst (λ (keys : List Key). AreOurs c.args.cells.now (map name_of keys)) (sym c.as_slice-key-items.ensures) c.in_ok-keys.ensures.ours) (omega arith)

pub loop-key-preserved : goal.loop-key-preserved
loop-key-preserved c =
    let keys = c.as_slice-key-items.result.now in
    let later = live_of c.args.classes.now (numbered c.args.cells.now) (map number_of (drop (c.loop-key.key-index + 1) keys)) in
    elim c.match-branch-3.branch [
      | in-None w ↦
          ap (λ (live : List LiveCell). live ++ later) (w.live-is ∙ sym (append-nil c.loop-key.live))
          ∙ one_more c.args.classes.now (numbered c.args.cells.now) keys c.loop-key.key-index _ None c.loop-key.live _ (omega arith) (sym w.in-None.is ∙ c.in_ok-live_cell.ensures) c.loop-key.invariant
      | in-Some+in_ok-push-in-Some w ↦
          ap (λ (live : List LiveCell). live ++ later) (w.live-is ∙ w.in_ok-push-in-Some.ensures.ok)
          ∙ one_more c.args.classes.now (numbered c.args.cells.now) keys c.loop-key.key-index _ (Some w.in-Some.cell) c.loop-key.live _ (omega arith) (sym w.in-Some.is ∙ c.in_ok-live_cell.ensures) c.loop-key.invariant
    ]

pub returns : goal.returns
returns c =
    let keys = c.as_slice-key-items.result.now in
    let all : c.loop-key.key-index ≡ length keys = omega arith in
    let ended : drop c.loop-key.key-index keys ≡ [] = ap (λ i. drop i keys) all ∙ drop-length keys in
    sym (append-nil c.loop-key.live)
    ∙ ap (λ (rest : List Key). c.loop-key.live ++ live_of c.args.classes.now (numbered c.args.cells.now) (map number_of rest)) (sym ended)
    ∙ c.loop-key.invariant
