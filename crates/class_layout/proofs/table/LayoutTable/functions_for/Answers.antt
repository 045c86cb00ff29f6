use Rattle.std.proofs.Common.{◌≡◌, ◌+◌, ◌∙◌, ◌++◌, Some, None, map, drop, is_some, sym, ap}
use Rattle.std.specs.List.{list_all}
use Rattle.class_layout_members.proofs.RowLemmas.{from_place}
use Rattle.class_layout_members.proofs.FirstLemmas.{row_next, there_behind, is_missing}
use Rattle.class_layout.specs.Layouts.{member_in}
use Rattle.class_layout.proofs.table.LayoutTable.functions_for.Goals as goal

pub loop-name-preserved : goal.loop-name-preserved
loop-name-preserved c =
    let i = c.loop-name.name-index in
    let n = c.name-item.result in
    let names = c.method_names-names.result.now in
    let f = member_in c.args.self.now c.args.class in
    let here = from_place names i n c.loop-name-test.true c.name-item.is in
    let is : Some c.in-Some.function ≡ f n = sym c.in-Some.is ∙ c.member.ensures in
    record {
      kept = row_next (λ x. Some x) c.loop-name.functions c.push.new.self c.in-Some.function (f n) (map f (drop (i + 1) names)) _ c.in_ok-push.ensures.ok is (sym (ap (λ l. map (λ x. Some x) c.loop-name.functions ++ map f l) here) ∙ c.loop-name.invariant.kept);
      there = there_behind f n (drop (i + 1) names) (sym (ap (list_all (λ q. is_some (f q))) here) ∙ c.loop-name.invariant.there);
    }

pub loop-name-preserved-in_default : goal.loop-name-preserved-in_default
loop-name-preserved-in_default c =
    let i = c.loop-name.name-index in
    let n = c.name-item.result in
    let names = c.method_names-names.result.now in
    let f = member_in c.args.self.now c.args.class in
    let here = from_place names i n c.loop-name-test.true c.name-item.is in
    let none : f n ≡ None = sym c.member.ensures ∙ c.in_default.is in
    absurd (is_missing f n (drop (i + 1) names) (sym (ap (list_all (λ q. is_some (f q))) here) ∙ c.loop-name.invariant.there) none)
