-- How many references a frame owns through a register, by the tables of its function.
use Rattle.std.specs.Prelude.{ℕ, not, ◌&&◌}
use Rattle.ir_core.specs.declared.code.Func.{Func}
use Rattle.ir_core.specs.Bare.{IsBare}
use Rattle.ir_core.specs.Rows.{Declared}
use Rattle.c_core_ownership_laws.specs.Shares.{one_if}
use Rattle.liveness.specs.Paths.{is_among}
use Rattle.liveness.specs.Liveness.{says_live, starts_of, says_borrowed, IsLiveTable, AreStarts, IsBorrowTable}
use Rattle.refcount_insert_rule.specs.Counted.{counts_register}
use Rattle.refcount_insert_counts.specs.declared.known.KnownRegisters.{KnownRegisters}

-- the tables are those of the function, in which no operation goes to a handler
pub record IsKnown (f : Func) (known : KnownRegisters) : Type 0 where
  pub calm : IsBare f
  pub live : IsLiveTable f known.live
  pub starts : AreStarts f known.live
  pub lent : IsBorrowTable f known.lent

module _ (known : KnownRegisters) (regs : Declared) where
  -- one where it is counted, read again and not only lent
  abbrev pub owned_at : ℕ → ℕ → ℕ → ℕ
  owned_at b p r = one_if (counts_register regs r && (says_live known.live b p r && not (says_borrowed known.lent b p r)))

  -- the same of a register that is read again
  abbrev pub held_at : ℕ → ℕ → ℕ → ℕ
  held_at b p r = one_if (counts_register regs r && not (says_borrowed known.lent b p r))

  -- the same at the start of a block
  abbrev pub entered : ℕ → ℕ → ℕ
  entered b r = one_if (counts_register regs r && (is_among (starts_of known.live b) r && not (says_borrowed known.lent b 0 r)))
