use Rattle.std.proofs.Common.{◌≡◌, ℕ, List, length, IsTrue}
use Rattle.std.specs.List.{list_all}
use Rattle.c_core.specs.WellFormed.{is_declared}
use Rattle.c_text.specs.Methods.{VariablesRemain, others_text}
use Rattle.c_text.proofs.method_call.variables.Given as goal

-- the variables before the place are read
abbrev pub invariant-loop-next : goal.invariant-loop-next
invariant-loop-next l = record {
  remain : (args : List ℕ) → IsTrue (list_all (is_declared l.vars) args) → others_text l.vars args ≡ l.fn.text → VariablesRemain l.vars l.places args l.rest;
  spelled : IsTrue (list_all (is_declared l.vars) l.places);
}

abbrev pub decreases-loop-next : goal.decreases-loop-next
decreases-loop-next l = length l.rest
