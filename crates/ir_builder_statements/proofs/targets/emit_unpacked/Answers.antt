use Rattle.std.proofs.lemmas.List.{length-map}
use Rattle.ir_builder_statements.proofs.Common.{◌≡◌, ◌≤◌, None, sym, ◌∙◌, ap, subst, List, map, Sort, sort, Ty, Reg, typed_target, Setting, rtype_of, HasType, setting_of, on_ok_map, extends_trans, room_on, around_by, TargetsTake, NoneFits}
use Rattle.ir_core.specs.declared.code.RType.TheVariants.{Ref}
use Rattle.py_typed.specs.Sorts.{TupleOf, sorts_of}
use Rattle.ir_builder_frames.specs.Computing.{HaveTypes}
use Rattle.ir_builder_statements.specs.Counting.{Binds}
use Rattle.ir_builder_statements.specs.Targets.{own_sorts, Lasting, PutsEach}
use Rattle.ir_builder_statements.proofs.TargetLemmas.{same_parts, parts_bind}
use Rattle.ir_builder_statements.proofs.LinedLemmas.{pieces_behind}
use Rattle.ir_builder_statements.proofs.targets.emit_unpacked.Goals as goal

pub part_types-parts-requires : goal.part_types-parts-requires
part_types-parts-requires c = (c.requires.targets.0, c.requires.targets.1)

pub emit_parts-requires : goal.emit_parts-requires
emit_parts-requires c =
    let x : Setting = setting_of c.args.site in
    let t = sort c.args.t.now in
    let same = same_parts c.requires.targets.0 (map sort c.part_types-parts.result.now) (sym c.requires.targets.1 ∙ c.part_types-parts.ensures) in
    let P : List Sort → Type 0 = λ z. TargetsTake x.source x.variables None (map typed_target c.args.targets.now) z in
    let Q : Sort → Type 0 = λ z. HasType c.args.b.now c.args.r.0 (rtype_of z) in
    record { targets = subst P same c.requires.targets.3; few = subst (λ n. n ≤ 16) (length-map c.args.targets.now typed_target) c.requires.targets.4; tuple = subst Q c.requires.targets.1 c.requires.value; room = c.requires.room }

pub emit_each-requires : goal.emit_each-requires
emit_each-requires c =
    let x : Setting = setting_of c.args.site in
    let u = c.in_ok-values.ensures.unpacks in
    let P : List Reg → Type 0 = λ z. HaveTypes c.emit_parts.new.b.regs (own_sorts x (map typed_target c.args.targets.now)) z in
    let Q : List Reg → Type 0 = λ z. Lasting c.args.site.frame z in
    record { targets = (c.requires.targets.0, c.requires.targets.3); values = subst P (sym c.as_slice.ensures) u.types; lasting = subst Q (sym c.as_slice.ensures) u.lasting; room = room_on x _ _ c.in_ok-values.ensures.kept c.requires.room }

pub returns-clause-kept : goal.returns-clause-kept
returns-clause-kept c = extends_trans _ _ _ c.in_ok-values.ensures.kept c.emit_each.ensures.kept

pub returns-clause-binds : goal.returns-clause-binds
returns-clause-binds c =
    let x : Setting = setting_of c.args.site in
    let t = sort c.args.t.now in
    let targets = map typed_target c.args.targets.now in
    let ss = map sort c.part_types-parts.result.now in
    let none : NoneFits x.source x.variables None targets (TupleOf (sorts_of ss)) = subst (λ z. NoneFits x.source x.variables None targets z) c.part_types-parts.ensures c.requires.targets.2 in
    let P : List Reg → Type 0 = λ z. PutsEach x targets z c.emit_parts.new.b c.emit_each.new.b in
    let Q : Sort → Type 0 = λ z. Binds x targets z c.args.r.0 c.args.b.now c.emit_each.new.b in
    on_ok_map _ _ _ (λ q. subst Q (sym c.part_types-parts.ensures) (parts_bind x targets ss none c.args.r.0 c.in_ok-values.values _ _ _ c.requires.room c.in_ok-values.ensures.unpacks (subst P c.as_slice.ensures q))) c.emit_each.ensures.puts

pub returns-clause-lined : goal.returns-clause-lined
returns-clause-lined c = on_ok_map _ _ _ (pieces_behind (around_by c.args.site.line _ _ c.in_ok-values.ensures.kept c.in_ok-values.ensures.lined)) c.emit_each.ensures.lined
