use Rattle.std.proofs.Common.{sym, ap, ◌∙◌, ◌+◌, ◌<◌, length, arith}
use Rattle.std.specs.Prelude.{map}
use Rattle.std.proofs.lemmas.Bool.Decides.{nat_tests}
use Rattle.std.proofs.lemmas.List.{length_push}
use Rattle.c_runner_deeds.specs.States.{state_of, seen}
use Rattle.cell_heap.specs.Contents.{word_of}
use Rattle.c_runner_deeds.proofs.OursLemmas.{words_more}
use Rattle.c_runner_objects.proofs.TupleLemmas.{refused, unowned, one_packed, packs_more, objects_push, owned_push, too_many, all_packed}
use Rattle.c_runner_objects.proofs.tuples.stolen_objects.Goals as goal

pub returns-then-len-ge-MOST_PARTS-clause-stolen : goal.returns-then-len-ge-MOST_PARTS-clause-stolen
returns-then-len-ge-MOST_PARTS-clause-stolen c =
    λ rest code go.
    c.loop-argument.invariant.stolen rest code go
    ∙ too_many (state_of rest (seen c.args.state.now)) code c.args.args.now go c.loop-argument.argument-index (map word_of c.loop-argument.words) c.argument-item.result (omega (arith, c.len.ensures, c.loop-argument.invariant.counted)) (omega arith) c.argument-item.is

pub returns-in-Err-clause-stolen : goal.returns-in-Err-clause-stolen
returns-in-Err-clause-stolen c =
    λ rest code go.
    c.loop-argument.invariant.stolen rest code go
    ∙ refused (state_of rest (seen c.args.state.now)) code c.args.args.now go c.loop-argument.argument-index (map word_of c.loop-argument.words) c.argument-item.result c.in-Err.fault (omega arith) (omega arith) c.argument-item.is (c.in-Err.ensures.passed rest)

pub returns-then-not-owns_beside-clause-stolen : goal.returns-then-not-owns_beside-clause-stolen
returns-then-not-owns_beside-clause-stolen c =
    λ rest code go.
    c.loop-argument.invariant.stolen rest code go
    ∙ unowned (state_of rest (seen c.args.state.now)) code c.args.args.now go c.loop-argument.argument-index (map word_of c.loop-argument.words) c.argument-item.result (word_of c.in-Ok.word) (omega arith) (omega arith) c.argument-item.is (c.in-Ok.ensures.passed rest) (sym ((rw c.as_slice.ensures at c.owns_beside.ensures) c.loop-argument.invariant.owned) ∙ c.if-not-owns_beside.true)

pub loop-argument-preserved : goal.loop-argument-preserved
loop-argument-preserved c =
    let has = sym ((rw c.as_slice.ensures at c.owns_beside.ensures) c.loop-argument.invariant.owned) ∙ c.if-not-owns_beside.false in
    let words = c.push.new.self in
    record {
      stolen = λ rest code go.
          c.loop-argument.invariant.stolen rest code go
          ∙ one_packed (state_of rest (seen c.args.state.now)) code c.args.args.now go c.loop-argument.argument-index (map word_of c.loop-argument.words) c.argument-item.result (word_of c.in-Ok.word) (omega arith) (omega arith) c.argument-item.is (c.in-Ok.ensures.passed rest) has
          ∙ packs_more (state_of rest (seen c.args.state.now)) code c.args.args.now go c.loop-argument.argument-index c.loop-argument.words words c.in-Ok.word c.in_ok-push.ensures.ok;
      objects = objects_push (seen c.args.state.now).cells c.loop-argument.words words c.in-Ok.word c.in_ok-push.ensures.ok c.loop-argument.invariant.objects c.in-Ok.ensures.value c.in-Ok.ensures.there;
      ours = words_more c.args.state.now.cells c.loop-argument.words c.in-Ok.word words c.loop-argument.invariant.ours c.in-Ok.ensures.ours c.in_ok-push.ensures.ok;
      owned = owned_push c.args.state.now.top.ledger c.loop-argument.words words c.in-Ok.word c.in_ok-push.ensures.ok c.loop-argument.invariant.owned has;
      counted = ap length c.in_ok-push.ensures.ok ∙ length_push c.loop-argument.words c.in-Ok.word ∙ ap (λ n. n + 1) c.loop-argument.invariant.counted;
    }

pub returns-clause-stolen : goal.returns-clause-stolen
returns-clause-stolen c =
    let filled : 0 < length c.args.args.now = grind (arith, nat_tests, c.is_empty.ensures, c.if-is_empty.false) in
    let some : 0 < c.loop-argument.argument-index = omega (arith, filled) in
    λ rest code go.
    c.loop-argument.invariant.stolen rest code go
    ∙ all_packed (state_of rest (seen c.args.state.now)) code c.args.args.now go c.loop-argument.argument-index (map word_of c.loop-argument.words) some (omega arith)
