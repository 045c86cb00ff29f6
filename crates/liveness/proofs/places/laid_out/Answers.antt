use Rattle.std.proofs.Common.{◌≡◌, ◌∙◌, ◌+◌, ◌∷◌, [], ◌++◌, length, map, ap, arith, refl, take}
use Rattle.std.proofs.lemmas.Option.{slice_get_read}
use Rattle.std.proofs.lemmas.List.{length-append}
use Rattle.liveness.specs.Places.{places, places_of, reads_in}
use Rattle.liveness.proofs.PlaceLemmas.{reads_laid, spans_laid}
use Rattle.liveness.proofs.places.laid_out.Goals as goal

pub loop-block-preserved : goal.loop-block-preserved
loop-block-preserved c =
    let i = c.loop-block.block-index in
    let k = c.block-item.result in
    let is = slice_get_read c.args.blocks.now (length c.args.blocks.now) i k refl c.loop-block-test.true c.block-item.is in
    let all : c.push_reads.new.rows.items ≡ map reads_in (places (take i c.args.blocks.now)) ++ map reads_in (places_of k) =
    c.in_ok-push_reads.ensures ∙ ap (λ z. z ++ map reads_in (places_of k)) c.loop-block.invariant.reads in
    let first : c.len-first.result ≡ length (map reads_in (places (take i c.args.blocks.now))) = omega (arith, c.len-first.ensures, ap length c.loop-block.invariant.reads) in
    let behind : c.len.result ≡ c.len-first.result + length (map reads_in (places_of k)) = omega (arith, first, c.len.ensures, ap length all, length-append (map reads_in (places (take i c.args.blocks.now))) (map reads_in (places_of k))) in
    record {
      spans = c.in_ok-push.ensures.items ∙ ap (λ z. z ++ record { first = c.len-first.result; behind = c.len.result; last = k.last } ∷ []) c.loop-block.invariant.spans ∙ spans_laid c.args.blocks.now i k is c.len-first.result c.len.result first behind;
      reads = all ∙ reads_laid c.args.blocks.now i k is;
    }
