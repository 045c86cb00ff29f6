use Rattle.std.proofs.Common.{◌≡◌, ◌+◌, ◌<◌, [], length, Some, None, arith}
use Rattle.std.proofs.lemmas.Result.{IfOk-weaker}
use Rattle.c_runner_lines.specs.Reading.{Found}
use Rattle.c_runner_lines.specs.Steps.{HandsOut, IsSearched}
use Rattle.c_runner_lines.proofs.ItemLemmas.{found_some, found_none, found_end}
use Rattle.c_runner_lines.proofs.reader.LineReader.answer.Goals as goal

pub returns-in-Some-clause-found : goal.returns-in-Some-clause-found
returns-in-Some-clause-found c =
    let searched : IsSearched c.args.self.now (Some c.in-Some.end) = rw c.in-Some.is at c.requires.searched in
    IfOk-weaker c.hand_out.result (HandsOut c.args.self.now c.hand_out.new.self c.in-Some.end (c.in-Some.end + 1)) (λ item. Found item c.args.self.now c.hand_out.new.self [])
    (λ item. found_some c.args.self.now c.hand_out.new.self c.in-Some.end item searched) c.hand_out.ensures.ok

pub returns-in-None-2-clause-found : goal.returns-in-None-2-clause-found
returns-in-None-2-clause-found c =
    let searched : IsSearched c.args.self.now None = rw c.in-None.is at c.requires.searched in
    let all : c.len-all.result ≡ length c.args.self.now.held = c.len-all.ensures in
    let some : 0 < length c.args.self.now.held = omega (arith, c.if-all-eq0.false) in
    IfOk-weaker c.hand_out-in-None-2.result (HandsOut c.args.self.now c.hand_out-in-None-2.new.self (length c.args.self.now.held) (length c.args.self.now.held)) (λ item. Found item c.args.self.now c.hand_out-in-None-2.new.self [])
    (λ item. found_none c.args.self.now c.hand_out-in-None-2.new.self item searched c.requires.ready some) (rw all at c.hand_out-in-None-2.ensures.ok)

pub returns-in-None-clause-found : goal.returns-in-None-clause-found
returns-in-None-clause-found c =
    let searched : IsSearched c.args.self.now None = rw c.in-None.is at c.requires.searched in
    found_end c.args.self.now searched c.requires.ready (omega (arith, c.len-all.ensures, c.if-all-eq0.true))
