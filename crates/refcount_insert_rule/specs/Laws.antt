-- What the one rule comes to.
use Rattle.std.specs.Prelude.{◌≡◌, ◌≤◌, ℕ, ◌+◌, Bool, true, false}
use Rattle.ir_core.specs.declared.code.Op.{Op}
use Rattle.liveness.specs.Paths.{write_of, is_target}
use Rattle.refcount_insert_rule.specs.Rule.{takes, gives, counts_before, counts_after}

-- a counted register that is not the target: what it has and is given before is what the operation takes, what it is to have
-- afterwards, and what is given up
abbrev pub CountsBalance : Type 0
CountsBalance =
    (counted : ℕ → Bool) (o : Op) (have want : ℕ → ℕ) (r : ℕ) → counted r ≡ true → is_target (write_of o) r ≡ false → have r + counts_before counted o have want r ≡ takes o r + want r + counts_after counted o have want r

-- a counted target, which is to have one at most: what the operation gives it is what it is to have afterwards, and what is given up
abbrev pub TargetsBalance : Type 0
TargetsBalance =
    (counted : ℕ → Bool) (o : Op) (have want : ℕ → ℕ) (r : ℕ) → counted r ≡ true → is_target (write_of o) r ≡ true → want r ≤ 1 → gives o (want r) ≡ want r + counts_after counted o have want r
