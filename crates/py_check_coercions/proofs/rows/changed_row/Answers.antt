use Rattle.std.proofs.Common.{◌≡◌, ◌++◌, [], ◌∷◌, rules, map, length, ◌∙◌}
use Rattle.py_typed.specs.Expressions.{typed_expr}
use Rattle.py_check_context.specs.Context.{row, wanted_in}
use Rattle.py_check_coercions.specs.Values.{changed}
use Rattle.py_check_coercions.specs.Rows.{changed_row}
use Rattle.py_check_coercions.proofs.RowLemmas.{changed_step, changed_end}
use Rattle.py_check_coercions.proofs.rows.changed_row.Goals as goal

pub loop-e-preserved : goal.loop-e-preserved
loop-e-preserved c =
    let r = row c.args.asked in
    let made = c.into_inner.result in
    let popped : c.loop-e.rest ≡ c.pop.new.self ++ c.in-Some.e ∷ [] = c.in-Some.ensures in
    let pushed : c.push.new.self.items ≡ c.loop-e.back.items ++ made ∷ [] = search (rules, c.in_ok-push.ensures.items) in
    let is : typed_expr made ≡ changed (wanted_in r (length c.pop.new.self)) (typed_expr c.in-Some.e) = search (rules, c.in_ok-e-2.ensures, c.in_ok-e.ensures.ok, c.into_inner.ensures, c.wanted_at.ensures, c.len.ensures) in
    changed_step r c.loop-e.rest c.pop.new.self c.loop-e.back.items c.push.new.self.items c.in-Some.e made (changed_row r 0 (map typed_expr c.args.es)) popped pushed is c.loop-e.invariant

pub returns : goal.returns
returns c =
    changed_end (row c.args.asked) c.loop-e.rest c.loop-e.back.items c.from_vec.result (changed_row (row c.args.asked) 0 (map typed_expr c.args.es)) (search rules) (c.from_vec.ensures ∙ c.reverse.ensures.items) c.loop-e.invariant
