use Rattle.std.proofs.Common.{◌≡◌, ◌∙◌, sym, ap}
use Rattle.std.specs.Prelude.{Some, slice_get}
use Rattle.std.proofs.lemmas.Option.{slice_get-get_or}
use Rattle.py_check_context.specs.Members.{own_init}
use Rattle.py_check_context.proofs.MemberLemmas.{along_behind}
use Rattle.py_check_context.proofs.members.init_in.Goals as goal

pub loop-level-preserved : goal.loop-level-preserved
loop-level-preserved c =
    let h = c.in_ok-class.ensures.lookup in
    let there : slice_get c.args.classes.now c.loop-level.at ≡ Some c.in_ok-class.class.now = slice_get-get_or c.args.classes.now c.loop-level.at c.in_ok-class.class.now h.3.0 ∙ ap Some (sym h.1) in
    sym (along_behind own_init c.args.classes.now c.args.c c.loop-level.level c.loop-level.at _ _ c.loop-level-test.true there c.in_default.is c.in-Base.is)
    ∙ c.loop-level.invariant
