use Rattle.std.proofs.Common.{◌≡◌, ◌∙◌, get_or, map, sym, ap, true, false}
use Rattle.py_check_members.specs.Members.{is_attribute, own_member}
use Rattle.py_check_members.specs.Views.{own_of}
use Rattle.py_check_members.proofs.NewLemmas.{any_here, any_on}
use Rattle.py_check_members.proofs.OrderLemmas.{own_found}
use Rattle.py_check_members.proofs.declarations.has_attribute.Goals as goal

pub returns-then-is_attribute : goal.returns-then-is_attribute
returns-then-is_attribute c =
    let row = c.args.behind.row.now in
    let i = c.loop-class.class-index in
    let here : is_attribute (own_member (map own_of c.args.behind.classes.now) c.args.name.now (get_or row i 0)) ≡ true =
    ap is_attribute (sym (own_found c.args.behind.classes.now c.args.name.now (get_or row i 0)) ∙ sym c.own_member.ensures) ∙ sym c.is_attribute.ensures ∙ c.if-is_attribute.true in
    any_here (λ b. is_attribute (own_member (map own_of c.args.behind.classes.now) c.args.name.now b)) row i c.loop-class-test.true here c.loop-class.invariant

pub loop-class-preserved : goal.loop-class-preserved
loop-class-preserved c =
    let row = c.args.behind.row.now in
    let i = c.loop-class.class-index in
    let here : is_attribute (own_member (map own_of c.args.behind.classes.now) c.args.name.now (get_or row i 0)) ≡ false =
    ap is_attribute (sym (own_found c.args.behind.classes.now c.args.name.now (get_or row i 0)) ∙ sym c.own_member.ensures) ∙ sym c.is_attribute.ensures ∙ c.if-is_attribute.false in
    any_on (λ b. is_attribute (own_member (map own_of c.args.behind.classes.now) c.args.name.now b)) row i c.loop-class-test.true here c.loop-class.invariant
