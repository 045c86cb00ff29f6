use Rattle.std.proofs.Common.{rules, ◌≡◌, ◌<◌, ◌∙◌, true, false, length, map, ap, sym}
use Rattle.std.proofs.lemmas.Option.{slice_get-map}
use Rattle.std.specs.Option.{option_map}
use Rattle.std.specs.Str.{bytes_eq}
use Rattle.py_typed.specs.Sorts.{sort}
use Rattle.py_check_definitions.proofs.StartLemmas.{param_on, param_found}
use Rattle.py_check_definitions.proofs.starts.param_type.Goals as goal

pub loop-i-preserved : goal.loop-i-preserved
loop-i-preserved c =
    let h : c.loop-i.i < length c.args.params.now = search (rules, c.loop-i-test.true) in
    let other : bytes_eq c.args.name.now c.index-params-i.result.0 ≡ false = search (rules, c.eq.ensures, c.if-eq.false) in
    param_on c.args.params.now c.loop-i.i c.index-params-i.result h c.index-params-i.is (map (option_map sort) c.args.sorts.now) c.args.name.now _ other c.loop-i.invariant

pub returns-then-eq : goal.returns-then-eq
returns-then-eq c =
    let h : c.loop-i.i < length c.args.params.now = search (rules, c.loop-i-test.true) in
    let found : bytes_eq c.args.name.now c.index-params-i.result.0 ≡ true = search (rules, c.eq.ensures, c.if-eq.true) in
    ap (option_map (option_map sort)) c.get.ensures.value ∙ sym (slice_get-map (option_map sort) c.args.sorts.now c.loop-i.i)
    ∙ param_found c.args.params.now c.loop-i.i c.index-params-i.result h c.index-params-i.is (map (option_map sort) c.args.sorts.now) c.args.name.now _ found c.loop-i.invariant
