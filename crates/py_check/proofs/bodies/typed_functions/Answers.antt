use Rattle.std.proofs.Common.{◌∙◌, sym, subst}
use Rattle.py_check_places.specs.Views.{known_at}
use Rattle.py_check_definitions.specs.Views.{headed_of}
use Rattle.py_check.specs.Module.{function_context}
use Rattle.py_check.specs.Parts.{module_context_of}
use Rattle.py_check.specs.Fixed.{AreFixed}
use Rattle.py_check.proofs.BodyLemmas.{typed_on, said_on}
use Rattle.py_check.proofs.Bindings.{body_keeps}
use Rattle.py_check.proofs.bodies.typed_functions.Goals as goal

pub loop-f-preserved : goal.loop-f-preserved
loop-f-preserved c =
    let e = module_context_of c.args.module_context.now in
    let fs = c.args.functions.now in
    let f = c.f-item.result in
    let g = (known_at c.args.place.now).types.globals in
    let g2 = (known_at c.loop-f.place).types.globals in
    let fixed = subst AreFixed (sym c.loop-f.invariant.2) c.requires.fixed in (
      typed_on e fs c.loop-f.f-index f c.loop-f-test.true c.f-item.is g g2 c.loop-f.invariant.2 c.loop-f.typed c.push.new.self c.in_ok-typed_function.field-0 _ c.in_ok-push.ensures.ok c.in_ok-typed_function.ensures.typed c.loop-f.invariant.0,
      said_on e fs c.loop-f.f-index f c.loop-f-test.true c.f-item.is g g2 c.loop-f.invariant.2 c.loop-f.faults c.typed_function.new.faults _ c.in_ok-typed_function.ensures.told c.loop-f.invariant.1,
      c.in_ok-typed_function.ensures.known ∙ body_keeps (function_context e (headed_of f)) e.variables g2 (headed_of f) fixed ∙ c.loop-f.invariant.2,
    )
