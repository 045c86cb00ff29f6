use Rattle.std.proofs.Common.{◌≡◌, ℕ, ◌+◌, ◌-◌, ◌<◌, length, Some, Ok, ap, sym, ◌∙◌, arith}
use Rattle.std.specs.Prelude.{slice_get}
use Rattle.std.proofs.lemmas.Option.{slice_get-get_or}
use Rattle.py_parser_expressions.specs.Prefixes as spec
use Rattle.py_parser_expressions.specs.Parsed.{seen}
use Rattle.py_parser_expressions.proofs.Prefixes.{prefixes_more}
use Rattle.py_parser_expressions.proofs.prefix.prefixes.Goals as goal

pub fold-preserved : goal.fold-preserved
fold-preserved c =
    let ts = c.args.tokens.now in
    let t = c.index-tokens-at.result in
    let n : ℕ = c.fold.at - 1 - c.args.from in
    let count : n + 1 ≡ c.fold.at - c.args.from = omega arith in
    let within : c.fold.at - 1 < length ts = omega arith in
    let w : c.args.from + n ≡ c.fold.at - 1 = omega arith in
    let here : slice_get ts (c.args.from + n) ≡ Some t = ap (slice_get ts) w ∙ slice_get-get_or ts (c.fold.at - 1) t within ∙ ap (λ x. Some x) (sym c.index-tokens-at.is) in
    record {
      so_far =
          c.fold.invariant.so_far
          ∙ ap (λ m. spec.prefixes ts c.args.from m (Ok (seen c.fold.found))) (sym count)
          ∙ prefixes_more ts c.args.from n t (Ok (seen c.fold.found)) here
          ∙ ap (spec.prefixes ts c.args.from n) c.in_ok-found.ensures.read;
      from = omega arith;
      to = omega arith;
      finished = c.in_ok-found.ensures.finished;
      stays = c.in_ok-found.ensures.at ∙ c.fold.invariant.stays;
    }
