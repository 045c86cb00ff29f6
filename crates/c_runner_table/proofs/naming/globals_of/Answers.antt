use Rattle.std.proofs.Common.{◌≡◌, ◌-◌, sym, ap, ◌∙◌, drop, Some, arith}
use Rattle.std.specs.List.{position_from}
use Rattle.std.specs.Str.{bytes_eq}
use Rattle.std.proofs.lemmas.Iterator.Adapters.{position_from-zero}
use Rattle.std.proofs.lemmas.Map.Text.{hash_map_updates_str}
use Rattle.c_runner_table.proofs.TableLemmas.{first_back}
use Rattle.c_runner_table.proofs.naming.globals_of.Goals as goal

pub loop-number-preserved : goal.loop-number-preserved
loop-number-preserved c = record {
  within = omega (arith, c.loop-number.invariant.within);
  known = λ name.
      hash_map_updates_str c.as_str.result.now c.loop-number.numbers c.insert.new.self (Some (c.loop-number.number - 1)) c.in_ok-insert.ensures.updates name
      ∙ first_back (λ g. g.0) c.args.globals.now (c.loop-number.number - 1) c.loop-number.number c.index-globals-number.result name c.as_str.result.now _ (omega (arith, c.loop-number.invariant.within, c.loop-number-test.true)) c.index-globals-number.is (omega (arith, c.loop-number-test.true)) (c.as_str.ensures ∙ ap (λ g. g.0) (sym c.index-globals-number.is)) (c.loop-number.invariant.known name);
}

pub returns : goal.returns
returns c =
    λ name.
    let all : c.loop-number.number ≡ 0 = omega (arith, c.loop-number-test.false) in
    c.loop-number.invariant.known name
    ∙ ap (λ n. position_from (λ g. bytes_eq name g.0) n (drop n c.args.globals.now)) all
    ∙ sym (position_from-zero (λ g. bytes_eq name g.0) c.args.globals.now)
