use Rattle.std.proofs.Common.{◌≡◌, ℕ, ◌<◌, List, true, take}
use Rattle.c_core.proofs.NameLemmas.{knows, any_is}
use Rattle.error_edges.specs.Names.{temporary_name, is_taken}
use Rattle.error_edges.proofs.registers.free_name.Given as goal

abbrev pub invariant-loop-register : goal.invariant-loop-register
invariant-loop-register l = (name : List ℕ) → knows l.taken.keys name ≡ any_is (λ register. register.0) (take l.register-index l.regs) name

abbrev pub invariant-loop-number : goal.invariant-loop-number
invariant-loop-number l = (k : ℕ) → k < l.number-counter → is_taken l.regs (temporary_name k) ≡ true
