use Rattle.std.proofs.Common.{◌+◌, length, arith}
use Rattle.std.proofs.lemmas.Iterator.{YieldsList-from_chars}
use Rattle.std.proofs.lemmas.Iterator.Consumers.{YieldsList-turn, YieldsList-end}
use Rattle.std.proofs.lemmas.List.{length_push}
use Rattle.value_core.proofs.CharacterLemmas.{bytes_before-next, bytes_before-within}
use Rattle.value_core.proofs.characters.char_range.Goals as goal

pub overflow_add-to : goal.overflow_add-to
overflow_add-to c =
    let t = YieldsList-turn (YieldsList-from_chars c.args.s.now c.utf8.s cc) c.loop-c.yielded _ c.loop-c.yielded_by _ _ c.in-Some.c c.in-Some.is c.next.ensures.steps in
    let n = bytes_before-next c.args.s.now (length c.loop-c.yielded) c.in-Some.c t.0 t.1 in
    let w = bytes_before-within c.args.s.now (length c.loop-c.yielded + 1) c.utf8.s in
    let i = c.loop-c.invariant in
    let v = c.len_utf8.ensures.value in
    omega arith

pub returns-then-left-eq0 : goal.returns-then-left-eq0
returns-then-left-eq0 c =
    let t = YieldsList-turn (YieldsList-from_chars c.args.s.now c.utf8.s cc) c.loop-c.yielded _ c.loop-c.yielded_by _ _ c.in-Some.c c.in-Some.is c.next.ensures.steps in
    let n = bytes_before-next c.args.s.now (length c.loop-c.yielded) c.in-Some.c t.0 t.1 in
    let i = c.loop-c.invariant in
    grind arith

pub loop-c-preserved : goal.loop-c-preserved
loop-c-preserved c =
    let t = YieldsList-turn (YieldsList-from_chars c.args.s.now c.utf8.s cc) c.loop-c.yielded _ c.loop-c.yielded_by _ _ c.in-Some.c c.in-Some.is c.next.ensures.steps in
    let n = bytes_before-next c.args.s.now (length c.loop-c.yielded) c.in-Some.c t.0 t.1 in
    let l = length_push c.loop-c.yielded c.in-Some.c in
    let i = c.loop-c.invariant in
    (grind arith, grind arith, grind arith)

pub returns : goal.returns
returns c =
    let t = YieldsList-end (YieldsList-from_chars c.args.s.now c.utf8.s cc) c.loop-c.yielded _ c.loop-c.yielded_by _ _ c.in-None.is c.next.ensures.steps in
    absurd (omega (arith, t.1, c.loop-c.invariant.0, c.requires))
