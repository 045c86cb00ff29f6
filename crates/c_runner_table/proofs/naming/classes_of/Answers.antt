use Rattle.std.proofs.Common.{◌≡◌, ◌-◌, sym, ap, ◌∙◌, drop, Some, arith}
use Rattle.std.specs.List.{position_from}
use Rattle.std.specs.Str.{bytes_eq}
use Rattle.std.proofs.lemmas.Iterator.Adapters.{position_from-zero}
use Rattle.std.proofs.lemmas.Map.Text.{hash_map_updates_str}
use Rattle.c_runner_table.proofs.TableLemmas.{first_back}
use Rattle.c_runner_table.proofs.naming.classes_of.Goals as goal

pub loop-number-preserved : goal.loop-number-preserved
loop-number-preserved c = record {
  within = omega (arith, c.loop-number.invariant.within);
  known = λ name.
      hash_map_updates_str c.as_str.result.now c.loop-number.numbers c.insert.new.self (Some (c.loop-number.number - 1)) c.in_ok-insert.ensures.updates name
      ∙ first_back (λ k. k.name) c.args.classes.now (c.loop-number.number - 1) c.loop-number.number c.index-classes-number.result name c.as_str.result.now _ (omega (arith, c.loop-number.invariant.within, c.loop-number-test.true)) c.index-classes-number.is (omega (arith, c.loop-number-test.true)) (c.as_str.ensures ∙ ap (λ k. k.name) (sym c.index-classes-number.is)) (c.loop-number.invariant.known name);
}

pub returns : goal.returns
returns c =
    λ name.
    let all : c.loop-number.number ≡ 0 = omega (arith, c.loop-number-test.false) in
    c.loop-number.invariant.known name
    ∙ ap (λ n. position_from (λ k. bytes_eq name k.name) n (drop n c.args.classes.now)) all
    ∙ sym (position_from-zero (λ k. bytes_eq name k.name) c.args.classes.now)
