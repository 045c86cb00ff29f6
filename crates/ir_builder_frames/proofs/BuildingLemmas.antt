-- What a builder holds after each of its calls, as ir_core's laws say it of its builder.
use Rattle.std.proofs.Common.{◌≡◌, refl, ◌∙◌, ℕ, List, [], length, Some}
use Rattle.ir_core.specs.declared.code.RType.{RType}
use Rattle.ir_core.specs.declared.code.Last.{Last}
use Rattle.ir_core.specs.declared.code.Op.{Op}
use Rattle.ir_core.specs.Items.{Do, End}
use Rattle.ir_core.specs.Building as core
use Rattle.ir_core.proofs.BuildingLemmas.{calls_extend}
use Rattle.ir_builder_frames.specs.Building.{Building, held, added, pushed, closed, Extends}

abbrev plain : Building → core.Building
plain b = record { name = []; regs = b.regs; blocks = b.blocks; ops = b.ops }

extends_as : (b c : Building) → c.among ≡ b.among → core.Extends (plain b) (plain c) → Extends b c
extends_as b c among x = record { among = among; items = x.items; regs = x.regs; handlers = x.handlers; regs_grow = x.regs_grow; blocks_grow = x.blocks_grow }

as_plain : (b c : Building) → Extends b c → core.Extends (plain b) (plain c)
as_plain b c x = record { items = x.items; regs = x.regs; handlers = x.handlers; regs_grow = x.regs_grow; blocks_grow = x.blocks_grow }

pub add_extends : (b : Building) (name : List ℕ) (t : RType) → Extends b (added b name t)
add_extends b name t = extends_as b (added b name t) refl (calls_extend.adding (plain b) name t)

pub push_extends : (b : Building) (o : Op × ℕ) → Extends b (pushed b o)
push_extends b o = extends_as b (pushed b o) refl (calls_extend.pushing (plain b) o)

pub close_extends : (b : Building) (last : Last) → Extends b (closed b last)
close_extends b last = extends_as b (closed b last) refl (calls_extend.closing (plain b) last)

pub extends_trans : (a b c : Building) → Extends a b → Extends b c → Extends a c
extends_trans a b c x y = extends_as a c (y.among ∙ x.among) (calls_extend.composes (plain a) (plain b) (plain c) (as_plain a b x) (as_plain b c y))

-- what is added stands at the place that was being filled
pub push_last : (b : Building) (o : Op × ℕ) → held (pushed b o) (length b.blocks) (length b.ops) ≡ Some (Do o.0 o.1)
push_last b o = calls_extend.operation (plain b) o

pub close_last : (b : Building) (last : Last) → held (closed b last) (length b.blocks) (length b.ops) ≡ Some (End last)
close_last b last = calls_extend.end (plain b) last
