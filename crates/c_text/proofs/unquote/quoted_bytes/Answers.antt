use Rattle.std.proofs.Common.{arith}
use Rattle.c_text.proofs.Quoting.{text_turn, text_end}
use Rattle.c_text.proofs.unquote.quoted_bytes.Goals as goal

pub loop-byte-preserved : goal.loop-byte-preserved
loop-byte-preserved c = record {
  remains = λ t rest e. text_turn c.in-Some.byte c.in-Some.after.now c.push.new.self.items (c.loop-byte.invariant.remains t rest e)
      (λ r q. let h = c.in-Some.ensures.closes r q in cc)
      c.in-Some.ensures.finds
      c.in_ok-push.ensures.items;
  within = omega (arith, c.in-Some.ensures.shorter);
}

pub returns-clause-finds : goal.returns-clause-finds
returns-clause-finds c = λ t rest e. text_end (c.loop-byte.invariant.remains t rest e) (λ b r q. c.in_default.ensures.finds b r q)
