-- The registers with which a function begins.
use Rattle.ir_builder.proofs.Common.{◌≡◌, ℕ, ◌+◌, ◌<◌, ◌≤◌, length, refl, ◌∙◌, subst, arith, ⊎_elim, cases_lt, Building, Declares, HasType, extends_refl, extends_trans, type_kept, AddsFlags}
use Rattle.ir_core.specs.declared.code.RType.TheVariants.{Bool as BoolType}
use Rattle.ir_builder_frames.specs.Lines.{OwnLines}

-- ---- flags

pub no_flags : (b : Building) → AddsFlags 0 b b
no_flags b = record {
  extends = extends_refl b;
  blocks = refl;
  ops = refl;
  regs = omega arith;
  flags = λ j low high. absurd (omega (arith, low, high));
  lines = λ l k i x other at. at;
}

pub flags_more : (a b c : Building) (n k r : ℕ) → k ≡ n + 1 → AddsFlags n a b → Declares b c r BoolType → ((l : ℕ) → OwnLines l b c) → AddsFlags k a c
flags_more a b c n k r is x y lines = record {
  extends = extends_trans a b c x.extends y.extends;
  blocks = y.blocks ∙ x.blocks;
  ops = y.ops ∙ x.ops;
  regs = omega (arith, x.regs, y.regs);
  flags = λ j low high. ⊎_elim
      (λ (lt : j < length b.regs). type_kept b c j BoolType y.extends (x.flags j low (omega (arith, x.regs))))
      (λ (le : length b.regs ≤ j). subst (λ z. HasType c z BoolType) (omega (arith, x.regs, y.made)) y.type)
      (cases_lt j (length b.regs));
  lines = λ l k i z other at. x.lines l k i z other (lines l k i z other at);
}
