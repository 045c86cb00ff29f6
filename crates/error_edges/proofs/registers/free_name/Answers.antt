use Rattle.std.proofs.Common.{rules, sym, ap, ◌≡◌, ◌∙◌, ◌<◌, length, arith}
use Rattle.c_core.proofs.NameLemmas.{knows, known_more, contains-knows}
use Rattle.error_edges.specs.Names.{temporary_name, is_taken}
use Rattle.error_edges.proofs.NameLemmas.{known_all, taken_too}
use Rattle.error_edges.proofs.registers.free_name.Goals as goal

pub loop-register-preserved : goal.loop-register-preserved
loop-register-preserved c =
    let within : c.loop-register.register-index < length c.args.regs.now = omega arith in
    λ name. ap (λ keys. knows keys name) c.in_ok-insert.ensures.keys ∙ known_more (λ register. register.0) c.args.regs.now c.loop-register.register-index c.register-item.result within c.register-item.is c.loop-register.taken.keys c.as_str.result c.as_str.ensures c.loop-register.invariant name

pub returns-then-not-contains : goal.returns-then-not-contains
returns-then-not-contains c =
    let all = known_all c.args.regs.now c.loop-register.register-index c.loop-register.taken.keys (omega arith) c.loop-register.invariant in
    let says : c.contains.result ≡ is_taken c.args.regs.now c.from_string-name.result =
    c.contains.ensures ∙ (contains-knows c.loop-register.taken.keys c.as_str-in-loop-number.result ∙ (all c.as_str-in-loop-number.result.now ∙ ap (is_taken c.args.regs.now) c.as_str-in-loop-number.ensures)) in
    record {
      number = c.loop-number.number-counter;
      is = search rules;
      free = sym says ∙ c.if-not-contains.true;
      first = c.loop-number.invariant;
    }

pub loop-number-preserved : goal.loop-number-preserved
loop-number-preserved c =
    let all = known_all c.args.regs.now c.loop-register.register-index c.loop-register.taken.keys (omega arith) c.loop-register.invariant in
    let says : c.contains.result ≡ is_taken c.args.regs.now c.from_string-name.result =
    c.contains.ensures ∙ (contains-knows c.loop-register.taken.keys c.as_str-in-loop-number.result ∙ (all c.as_str-in-loop-number.result.now ∙ ap (is_taken c.args.regs.now) c.as_str-in-loop-number.ensures)) in
    let is : c.from_string-name.result ≡ temporary_name c.loop-number.number-counter = search rules in
    taken_too c.args.regs.now c.loop-number.number-counter c.loop-number.invariant (sym (ap (is_taken c.args.regs.now) is) ∙ (sym says ∙ c.if-not-contains.false))
