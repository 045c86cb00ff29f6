use Rattle.std.proofs.Common.{◌≡◌, ◌++◌, [], ◌∷◌, rules}
use Rattle.py_typed.specs.Expressions.{typed_expr}
use Rattle.py_check_coercions.specs.Boxes.{boxed}
use Rattle.py_check_loops.proofs.CourseLemmas.{two_bounds}
use Rattle.py_check_loops.proofs.course.range_between.Goals as goal

pub returns : goal.returns
returns c =
    let popped : c.args.es ≡ c.pop.new.self ++ c.in-Some.last ∷ [] = search rules in
    let before : c.pop.new.self ≡ c.pop-2.new.self ++ c.in-Some-pop.first ∷ [] = search rules in
    let first : boxed c.in_ok-first.first ≡ typed_expr c.in-Some-pop.first = search rules in
    let last : boxed c.in_ok-last.last ≡ typed_expr c.in-Some.last = search rules in
    two_bounds c.between.result c.args.es c.pop.new.self c.pop-2.new.self c.in-Some-pop.first c.in-Some.last (boxed c.in_ok-first.first) (boxed c.in_ok-last.last) c.requires popped before first last c.between.ensures
