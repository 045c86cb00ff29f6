use Rattle.std.proofs.Common.{◌≡◌, ◌+◌, ◌∙◌, ◌++◌, Some, None, map, drop, is_some, option_copied, sym, ap}
use Rattle.std.specs.List.{list_all}
use Rattle.std.specs.Str.{bytes_eq}
use Rattle.class_layout_members.proofs.RowLemmas.{from_place}
use Rattle.indexmap.specs.IndexMap.{get}
use Rattle.class_layout_members.specs.Tables.{keys_in, found_or_above}
use Rattle.class_layout_members.proofs.FirstLemmas.{row_next, there_behind, is_missing}
use Rattle.class_layout_members.proofs.functions.functions_of.Goals as goal

pub loop-name-preserved : goal.loop-name-preserved
loop-name-preserved c =
    let i = c.loop-name.name-index in
    let n = c.name-item.result in
    let f = found_or_above (get bytes_eq c.args.found.now) (keys_in (option_copied c.args.above)) c.args.functions.now in
    let here = from_place c.args.names.now i n c.loop-name-test.true c.name-item.is in
    let is : Some c.in-Some.function ≡ f n = sym c.in-Some.is ∙ c.function_of.ensures in
    record {
      kept = row_next (λ x. Some x) c.loop-name.all c.push.new.self c.in-Some.function (f n) (map f (drop (i + 1) c.args.names.now)) _ c.in_ok-push.ensures.ok is (sym (ap (λ l. map (λ x. Some x) c.loop-name.all ++ map f l) here) ∙ c.loop-name.invariant.kept);
      there = there_behind f n (drop (i + 1) c.args.names.now) (sym (ap (list_all (λ q. is_some (f q))) here) ∙ c.loop-name.invariant.there);
    }

pub loop-name-preserved-in_default : goal.loop-name-preserved-in_default
loop-name-preserved-in_default c =
    let i = c.loop-name.name-index in
    let n = c.name-item.result in
    let f = found_or_above (get bytes_eq c.args.found.now) (keys_in (option_copied c.args.above)) c.args.functions.now in
    let here = from_place c.args.names.now i n c.loop-name-test.true c.name-item.is in
    let none : f n ≡ None = sym c.function_of.ensures ∙ c.in_default.is in
    absurd (is_missing f n (drop (i + 1) c.args.names.now) (sym (ap (list_all (λ q. is_some (f q))) here) ∙ c.loop-name.invariant.there) none)
