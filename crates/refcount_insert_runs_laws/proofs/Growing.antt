-- What lines leave that do nothing but count, or jump.
use Rattle.std.proofs.Common.{◌≡◌, refl, sym, ◌∙◌, subst}
use Rattle.c_core.specs.Machine.{MachineState}
use Rattle.c_core.specs.Step.{Next}
use Rattle.ir_core.specs.declared.code.Program.{Program}
use Rattle.ir_core.specs.Registers.{Regs}
use Rattle.ir_core.specs.Rows.{Declared}
use Rattle.ir_core.specs.Effects.{World}
use Rattle.refcount_insert_lines_laws.specs.Matching.{RegsFit, Keeps, Grows, WorldFits}
use Rattle.refcount_insert_lines_laws.specs.Lines.{Passes}
use Rattle.refcount_insert_lines_laws.proofs.Growing.{keeps_on, keeps_grows, regs_grow, world_keeps}

-- a state behind some lines that did nothing but count, or jump
pub record Past (s t : MachineState) : Type 0 where
  pub func : t.top.func ≡ s.top.func
  pub into : t.top.into ≡ s.top.into
  pub vars : t.top.vars ≡ s.top.vars
  pub below : t.below ≡ s.below
  pub output : t.output ≡ s.output
  pub turns : t.turns ≡ s.turns
  pub items : t.items ≡ s.items
  pub made : t.made ≡ s.made
  pub globals : t.globals ≡ s.globals
  pub pending : t.pending ≡ s.pending
  pub keeps : Keeps s t

pub no_change : (s : MachineState) → Past s s
no_change s =
    record {
      func = refl;
      into = refl;
      vars = refl;
      below = refl;
      output = refl;
      turns = refl;
      items = refl;
      made = refl;
      globals = refl;
      pending = refl;
      keeps = record { contents = λ c v e. e };
    }

pub past_on : (s t u : MachineState) → Past s t → Past t u → Past s u
past_on s t u a b =
    record {
      func = b.func ∙ a.func;
      into = b.into ∙ a.into;
      vars = b.vars ∙ a.vars;
      below = b.below ∙ a.below;
      output = b.output ∙ a.output;
      turns = b.turns ∙ a.turns;
      items = b.items ∙ a.items;
      made = b.made ∙ a.made;
      globals = b.globals ∙ a.globals;
      pending = b.pending ∙ a.pending;
      keeps = keeps_on s t u a.keeps b.keeps;
    }

pub passed : (s : MachineState) (n : Next) (t : MachineState) → Passes s n t → Past s t
passed s n t a =
    record {
      func = a.func;
      into = a.into;
      vars = a.vars;
      below = a.below;
      output = a.output;
      turns = a.turns;
      items = a.items;
      made = a.made;
      globals = a.globals;
      pending = a.pending;
      keeps = a.keeps;
    }

module _ (s t : MachineState) (past : Past s t) where
  pub grows_past : Grows s t
  grows_past = keeps_grows s t past.keeps past.made

  pub regs_past : (declared : Declared) (regs : Regs) → RegsFit s declared regs s.top.vars → RegsFit t declared regs t.top.vars
  regs_past declared regs fit =
      subst (RegsFit t declared regs) (sym past.vars) (regs_grow s t grows_past declared regs s.top.vars fit)

  pub world_past : (p : Program) (w : World) → WorldFits p w s → WorldFits p w t
  world_past p w a =
      world_keeps s t past.keeps p w past.output past.turns past.items past.made past.globals past.pending a
