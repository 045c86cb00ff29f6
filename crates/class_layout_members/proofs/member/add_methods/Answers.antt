use Rattle.std.proofs.Common.{◌+◌, ◌∙◌, ◌++◌, map, drop, option_map, sym, ap}
use Rattle.class_layout_members.proofs.RowLemmas.{from_place}
use Rattle.std.proofs.lemmas.Option.{slice_get-map}
use Rattle.py_typed.specs.Classes.{signature}
use Rattle.class_layout_members.specs.Clashes.{OfSignature}
use Rattle.class_layout_members.specs.Views.{member, of_signature}
use Rattle.class_layout_members.proofs.FirstLemmas.{row_next, copied_map}
use Rattle.class_layout_members.proofs.member.add_methods.Goals as goal

pub loop-name-preserved : goal.loop-name-preserved
loop-name-preserved c =
    let i = c.loop-name.name-index in
    let p = c.loop-name-item.result in
    let here = from_place c.args.methods.now i p c.loop-name-test.true c.loop-name-item.is in
    row_next member c.loop-name.members c.push.new.self _ (of_signature (map signature c.args.sigs.now) p) (map (of_signature (map signature c.args.sigs.now)) (drop (i + 1) c.args.methods.now)) _ c.in_ok-push.ensures.ok
    (ap (λ o. (p.0, OfSignature o)) (copied_map signature c.get.result ∙ ap (option_map signature) c.get.ensures.value ∙ sym (slice_get-map signature c.args.sigs.now p.1)))
    (sym (ap (λ l. map member c.loop-name.members ++ map (of_signature (map signature c.args.sigs.now)) l) here) ∙ c.loop-name.invariant)
