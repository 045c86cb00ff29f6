use Rattle.std.proofs.Common.{◌≡◌, ◌∙◌, sym, ap}
use Rattle.std.specs.Prelude.{Some, None, slice_get}
use Rattle.std.specs.Option.{option_copied, option_map}
use Rattle.std.proofs.lemmas.Option.{slice_get-get_or}
use Rattle.py_check_context.specs.Members.{member, own_asked}
use Rattle.py_check_context.proofs.MemberLemmas.{along_behind}
use Rattle.py_check_context.proofs.members.first_in.Goals as goal

pub loop-level-preserved : goal.loop-level-preserved
loop-level-preserved c =
    let h = c.in_ok-class.ensures.lookup in
    let there : slice_get c.args.classes.now c.loop-level.at ≡ Some c.in_ok-class.class.now = slice_get-get_or c.args.classes.now c.loop-level.at c.in_ok-class.class.now h.3.0 ∙ ap Some (sym h.1) in
    let none : own_asked c.args.asked c.args.name.now c.in_ok-class.class.now ≡ None = sym c.own_asked.ensures ∙ ap (λ o. option_map member (option_copied o)) c.in_default.is in
    sym (along_behind (own_asked c.args.asked c.args.name.now) c.args.classes.now c.args.c c.loop-level.level c.loop-level.at _ _ c.loop-level-test.true there none c.in-Base.is)
    ∙ c.loop-level.invariant
