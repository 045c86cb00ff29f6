use Rattle.std.proofs.Common.{◌≡◌, refl, Bool, true, false, map}
use Rattle.std.specs.Prelude.{◌&&◌}
use Rattle.std.specs.List.{list_all}
use Rattle.c_core.specs.WellFormed.{names_differ, class_fits, function_fits}
use Rattle.c_core.proofs.checked.check_parts.Goals as goal

and_false : (b : Bool) → false ≡ (b && false)
and_false true = refl
and_false false = refl

-- names of one of three sorts are equal
two_equal : (g k f classes functions b : Bool) → b ≡ (g && (k && f)) → b ≡ false → false ≡ (g && ((k && classes) && (f && functions)))
two_equal false k f classes functions b e equal = refl
two_equal true false f classes functions b e equal = refl
two_equal true true false classes functions b e equal = and_false classes
two_equal true true true classes functions b e equal = absurd (cc)

pub returns-then-not-branch : goal.returns-then-not-branch
returns-then-not-branch c =
    let code = c.args.code.now in
    two_equal (names_differ (map (λ v. v.0) code.globals)) (names_differ (map (λ k. k.name) code.classes)) (names_differ (map (λ g. g.name) code.funcs))
    (list_all (class_fits code) code.classes) (list_all (function_fits code) code.funcs)
    c.in_ok-number_all.field-0 c.in_ok-number_all.ensures.differ c.if-not-branch.true
