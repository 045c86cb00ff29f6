use Rattle.ir_builder_statements.proofs.Common.{◌∷◌, [], List, map, sym, subst, sort, typed_target, TypedTarget, Setting, setting_of, on_ok_map}
use Rattle.ir_builder_statements.specs.Counting.{Binds}
use Rattle.ir_builder_statements.specs.Lined.{all_target_pieces, LinedPieces}
use Rattle.ir_builder_statements.proofs.TargetLemmas.{one_target, one_pieces, row_filled}
use Rattle.ir_builder_statements.proofs.targets.emit_targets.Goals as goal

pub bounds-targets-0 : goal.bounds-targets-0
bounds-targets-0 c =
    let x : Setting = setting_of c.args.site in
    row_filled x c.args.targets.now (sort c.args.t.now) (c.is_whole.ensures.whole c.if-is_whole.true)

pub emit_whole-requires : goal.emit_whole-requires
emit_whole-requires c =
    let x : Setting = setting_of c.args.site in
    record { target = (one_target x c.args.targets.now c.index-targets-0.result (sort c.args.t.now) c.index-targets-0.is (c.is_whole.ensures.whole c.if-is_whole.true)).1; value = c.requires.value; room = c.requires.room }

pub emit_unpacked-requires : goal.emit_unpacked-requires
emit_unpacked-requires c = record { targets = c.is_whole.ensures.parts c.if-is_whole.false; value = c.requires.value; room = c.requires.room }

pub returns-then-is_whole-clause-binds : goal.returns-then-is_whole-clause-binds
returns-then-is_whole-clause-binds c =
    let x : Setting = setting_of c.args.site in
    let one = one_target x c.args.targets.now c.index-targets-0.result (sort c.args.t.now) c.index-targets-0.is (c.is_whole.ensures.whole c.if-is_whole.true) in
    let P : List TypedTarget → Type 0 = λ z. Binds x z (sort c.args.t.now) c.args.r.0 c.args.b.now c.emit_whole.new.b in
    on_ok_map _ _ _ (λ q. subst P (sym one.0) q) c.emit_whole.ensures.binds

pub returns-then-is_whole-clause-lined : goal.returns-then-is_whole-clause-lined
returns-then-is_whole-clause-lined c =
    let x : Setting = setting_of c.args.site in
    let one = one_target x c.args.targets.now c.index-targets-0.result (sort c.args.t.now) c.index-targets-0.is (c.is_whole.ensures.whole c.if-is_whole.true) in
    let P : List TypedTarget → Type 0 = λ z. LinedPieces x c.args.site.line (all_target_pieces z) c.args.b.now c.emit_whole.new.b in
    on_ok_map _ _ _ (λ q. subst P (sym one.0) (one_pieces x c.args.site.line (typed_target c.index-targets-0.result) _ _ q)) c.emit_whole.ensures.lined
