use Rattle.std.proofs.Common.{◌≡◌, ◌++◌, length}
use Rattle.c_text.specs.Heads.{listed}
use Rattle.c_text.specs.Statements.{AreNamed}
use Rattle.c_text.proofs.head.some_parameters.Given as goal

-- the parameters so far are read, each with its comma
abbrev pub invariant-loop-vars : goal.invariant-loop-vars
invariant-loop-vars l = record {
  named : AreNamed l.vars;
  whole : l.fn.text ≡ listed l.vars ++ l.rest;
}

abbrev pub decreases-loop-vars : goal.decreases-loop-vars
decreases-loop-vars l = length l.rest
