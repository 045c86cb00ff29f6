use Rattle.ir_builder_expressions.proofs.Common.{List, subst, sym, Building, extends_trans, Link, Pending, Ended}
use Rattle.ir_builder_expressions.proofs.LinkLemmas.{Last, pending_last, pending_extends, met_pending, met_flag, ended_snoc}
use Rattle.ir_builder_expressions.proofs.chain.meet_links.Goals as goal

pub meet_link-requires-clause-begun : goal.meet_link-requires-clause-begun
meet_link-requires-clause-begun c =
    let a = c.requires.pending.0 in
    let P : List Link → Type 0 = λ ls. Pending a ls c.loop-link.b in
    let k = pending_last a c.pop.new.self c.in-Some.link c.loop-link.b (subst P c.in-Some.ensures (c.loop-link.invariant.pending a c.requires.pending.1)) in
    (k.from, k.to, k.begins, k.on)

pub returns-in_err-meet_link-clause-kept : goal.returns-in_err-meet_link-clause-kept
returns-in_err-meet_link-clause-kept c a h = extends_trans a c.loop-link.b c.meet_link.new.b (pending_extends a c.loop-link.rest c.loop-link.b (c.loop-link.invariant.pending a h)) c.in_err-meet_link.ensures.kept

pub loop-link-preserved : goal.loop-link-preserved
loop-link-preserved c =
    let met = c.in_ok-meet_link.ensures.met in
    let ls = c.pop.new.self in
    let l = c.in-Some.link in
    let b = c.loop-link.b in
    let d = c.meet_link.new.b in
    let split : (a : Building) → Pending a c.args.links c.args.b.now → Last a ls l b = λ a h.
    let P : List Link → Type 0 = λ z. Pending a z b in
    pending_last a ls l b (subst P c.in-Some.ensures (c.loop-link.invariant.pending a h)) in
    record {
      pending = λ a h. met_pending a ls l b d c.loop-link.r.0 (split a h) met;
      flag = met_flag c.requires.pending.0 ls l b d c.loop-link.r.0 (split c.requires.pending.0 c.requires.pending.1) met;
      ends = λ e q h.
          let Q : List Link → Type 0 = λ z. Ended z b c.loop-link.r.0 e q in
          c.loop-link.invariant.ends e q (subst Q (sym c.in-Some.ensures) (ended_snoc ls l b d c.loop-link.r.0 e q met h));
      lined = λ k i x other at. c.loop-link.invariant.lined k i x other (c.meet_link.ensures.lined k i x other at);
    }
