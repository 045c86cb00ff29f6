use Rattle.std.proofs.Common.{◌≡◌, ◌∙◌, ◌++◌, ◌∷◌, [], true, false, sym, ap}
use Rattle.unset_tests.proofs.Marking.{sure_work}
use Rattle.unset_tests.proofs.marks.work_of.Goals as goal

pub returns : goal.returns
returns c =
    let none = sure_work c.args.regs.now c.args.r c.args.blocks.now (λ k b at e. let f : true ≡ false = sym (c.requires k b at e) ∙ c.if-is_unsure.false in absurd (cc)) in
    c.in_ok-push.ensures.items ∙ (ap (λ xs. xs ++ 0 ∷ []) c.new-work.ensures.items ∙ ap (λ xs. 0 ∷ xs) (sym none))
