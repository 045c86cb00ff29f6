use Rattle.std.proofs.Common.{◌≡◌, ◌∙◌, ◌+◌, length, arith}
use Rattle.c_text.specs.Variables.{has_name_and_kind}
use Rattle.c_text.proofs.PlaceTables.{position_push}
use Rattle.c_text.proofs.variable.Variables.and.Goals as goal

pub invariant_of-result : goal.invariant_of-result
invariant_of-result c = record {
  first = λ kind name.
      let named : c.as_bytes.result.now ≡ c.args.var.0 = c.as_bytes.ensures.value ∙ c.as_str.ensures in
      let place : 0 + length c.self.inside.declared ≡ c.len.result = omega (arith, c.len.ensures) in
      cc (c.in_ok-note.ensures kind name, position_push (has_name_and_kind name kind) 0 c.self.inside.declared c.args.var, c.self.invariant.first kind name, c.in_ok-push.ensures.ok);
}
