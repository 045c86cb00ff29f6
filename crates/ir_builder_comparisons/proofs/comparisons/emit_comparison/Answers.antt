use Rattle.ir_builder_comparisons.proofs.Common.{ap, Reg, ok_map, Equal, Less, AtMost, tested, ordered}
use Rattle.ir_builder_comparisons.proofs.ComparisonLemmas.{straight, turned, only_equal}
use Rattle.ir_builder_comparisons.proofs.comparisons.emit_comparison.Goals as goal

pub returns-in-Lt-clause-made : goal.returns-in-Lt-clause-made
returns-in-Lt-clause-made c = ok_map _ _ _ (λ (r : Reg) a. straight c.args.compared c.args.op (tested Less) _ _ r.0 _ _ (λ v w. ap (λ o. ordered o v w) c.in-Lt.is) a) c.emit_test.ensures.made

pub returns-in-Le-clause-made : goal.returns-in-Le-clause-made
returns-in-Le-clause-made c = ok_map _ _ _ (λ (r : Reg) a. straight c.args.compared c.args.op (tested AtMost) _ _ r.0 _ _ (λ v w. ap (λ o. ordered o v w) c.in-Le.is) a) c.emit_test-in-Le.ensures.made

pub returns-in-Gt-clause-made : goal.returns-in-Gt-clause-made
returns-in-Gt-clause-made c = ok_map _ _ _ (λ (r : Reg) a. turned c.args.compared c.args.op (tested Less) _ _ r.0 _ _ (λ v w. ap (λ o. ordered o v w) c.in-Gt.is) a) c.emit_test-in-Gt.ensures.made

pub returns-in-Ge-clause-made : goal.returns-in-Ge-clause-made
returns-in-Ge-clause-made c = ok_map _ _ _ (λ (r : Reg) a. turned c.args.compared c.args.op (tested AtMost) _ _ r.0 _ _ (λ v w. ap (λ o. ordered o v w) c.in-Ge.is) a) c.emit_test-in-Ge.ensures.made

pub returns-in_default-clause-made : goal.returns-in_default-clause-made
returns-in_default-clause-made c =
    let d = c.in_default in
    ok_map _ _ _ (λ (r : Reg) a. straight c.args.compared c.args.op (tested Equal) _ _ r.0 _ _ (only_equal c.args.op c.requires.ordering d.not-Ne d.not-Lt d.not-Le d.not-Gt d.not-Ge) a) c.emit_test-in_default.ensures.made
