use Rattle.std.proofs.Common.{◌≡◌, List, ◌∷◌, length, IsTrue}
use Rattle.std.specs.List.{list_all}
use Rattle.c_core.specs.declared.code.CArg.{CArg}
use Rattle.c_core.specs.WellFormed.{spelled_arg}
use Rattle.c_text.specs.Statements.{args_text, ArgsRemain}
use Rattle.c_text.proofs.argument.some_arguments.Given as goal

abbrev pub invariant-loop-args : goal.invariant-loop-args
invariant-loop-args l = record {
  remain : (a : CArg) (others : List CArg) → IsTrue (list_all (spelled_arg l.vars) (a ∷ others)) → args_text l.vars (a ∷ others) ≡ l.fn.text → ArgsRemain l.vars l.args.items (a ∷ others) l.rest;
  spelled : IsTrue (list_all (spelled_arg l.vars) l.args.items);
}

abbrev pub decreases-loop-args : goal.decreases-loop-args
decreases-loop-args l = length l.rest
