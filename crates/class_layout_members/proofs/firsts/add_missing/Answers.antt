use Rattle.std.proofs.Common.{rules, ◌≡◌, ◌+◌, ◌∙◌, ℕ, List, [], ◌∷◌, Some, None, cond, drop, sym, ap, arith}
use Rattle.std.proofs.lemmas.Grind.{common_steps}
use Rattle.std.specs.Option.{option_or}
use Rattle.std.specs.Str.{bytes_eq}
use Rattle.indexmap.specs.IndexMap.{get}
use Rattle.class_layout_members.proofs.RowLemmas.{has, from_place}
use Rattle.class_layout_members.proofs.FirstLemmas.{missing_next, none_added, added_all, or_none}
use Rattle.class_layout_members.proofs.firsts.add_missing.Goals as goal
use Rattle.class_layout_members.proofs.firsts.add_missing.Goals.{in-Some+in_ok-add_first, in_default}

pub loop-name-preserved : goal.loop-name-preserved
loop-name-preserved g c =
    let i = c.loop-name.name-index in
    let n = c.name-item.result in
    let names = c.as_slice-names.result.now in
    let more = get bytes_eq c.args.more.now in
    let here = from_place names i n c.loop-name-test.true c.name-item.is in
    let before : (q : List ℕ) → option_or (get bytes_eq c.loop-name.firsts q) (cond (has q (n ∷ drop (i + 1) names)) (more q) None) ≡ option_or (get bytes_eq c.args.firsts.now q) (cond (has q names) (more q) None) =
    λ q. sym (ap (λ l. option_or (get bytes_eq c.loop-name.firsts q) (cond (has q l) (get bytes_eq c.args.more.now q) None)) here) ∙ c.loop-name.invariant q in
    elim c.match-get.branch [
      | in-Some+in_ok-add_first w ↦
          let is : more n ≡ Some w.in-Some.value.now = sym (search (rules, c.get.ensures.value, w.in-Some.ensures.value)) in
          missing_next (get bytes_eq c.loop-name.firsts) (get bytes_eq c.match-get.firsts) more n (Some w.in-Some.value.now) (drop (i + 1) names)
          (λ q. option_or (get bytes_eq c.args.firsts.now q) (cond (has q names) (get bytes_eq c.args.more.now q) None))
          is
          (λ q. ap (λ m. get bytes_eq m q) w.firsts-is ∙ w.in_ok-add_first.ensures q)
          before
      | in_default w ↦
          let is : more n ≡ None = sym (search (rules, c.get.ensures.value, w.in_default.ensures.value)) in
          missing_next (get bytes_eq c.loop-name.firsts) (get bytes_eq c.match-get.firsts) more n None (drop (i + 1) names)
          (λ q. option_or (get bytes_eq c.args.firsts.now q) (cond (has q names) (get bytes_eq c.args.more.now q) None))
          is
          (λ q. ap (λ m. get bytes_eq m q) w.firsts-is ∙ none_added (get bytes_eq c.loop-name.firsts) n q)
          before
    ]

pub returns : goal.returns
returns g c =
    let names = c.as_slice-names.result.now in
    let none : drop c.loop-name.name-index names ≡ [] = first_of (search rules, grind (arith, common_steps)) in
    λ q.
    or_none (get bytes_eq c.loop-name.firsts q)
    ∙ sym (ap (λ l. option_or (get bytes_eq c.loop-name.firsts q) (cond (has q l) (get bytes_eq c.args.more.now q) None)) none)
    ∙ c.loop-name.invariant q
    ∙ ap (λ l. option_or (get bytes_eq c.args.firsts.now q) (cond (has q l) (get bytes_eq c.args.more.now q) None)) (c.as_slice-names.ensures ∙ c.keys.ensures.rest)
    ∙ ap (option_or (get bytes_eq c.args.firsts.now q)) (added_all c.args.more.now.entries q)
