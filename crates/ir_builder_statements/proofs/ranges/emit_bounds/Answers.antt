use Rattle.ir_builder_statements.proofs.Common.{◌≡◌, None, ap, sym, ◌∙◌, subst, Sort, typed_expr, maybe_typed, type_of, type_at, Setting, room_on, setting_of, means}
use Rattle.ir_builder_expressions.specs.Parts.{is_i64}
use Rattle.ir_builder_statements.specs.Suiting.{StartSuits}
use Rattle.ir_builder_statements.specs.Counting.{number_sort, ComputesNew}
use Rattle.ir_builder_statements.proofs.ForLemmas.{number_is}
use Rattle.ir_builder_statements.proofs.LinedLemmas.{pieces_join}
use Rattle.ir_builder_statements.proofs.ranges.emit_bounds.Goals as goal

pub emit_start-requires-clause-suits : goal.emit_start-requires-clause-suits
emit_start-requires-clause-suits c =
    let x : Setting = setting_of c.args.site in
    let t = type_of (typed_expr c.args.stop.now) in
    let is : number_sort c.is_native-native.result ≡ t = ap number_sort (c.is_native-native.ensures ∙ ap is_i64 (sym (type_at c.args.stop.now))) ∙ number_is t c.requires.whole in
    let P : Sort → Type 0 = λ z. StartSuits x.source x.variables None (maybe_typed c.args.start.now) z in
    subst P (sym is) c.requires.start

pub emit_kept-requires-clause-room : goal.emit_kept-requires-clause-room
emit_kept-requires-clause-room c = room_on (setting_of c.args.site) _ _ c.in_ok-reg.ensures.kept c.requires.room

pub returns-clause-ranges : goal.returns-clause-ranges
returns-clause-ranges c =
    let x : Setting = setting_of c.args.site in
    let t = type_of (typed_expr c.args.stop.now) in
    let is : number_sort c.is_native-native.result ≡ t = ap number_sort (c.is_native-native.ensures ∙ ap is_i64 (sym (type_at c.args.stop.now))) ∙ number_is t c.requires.whole in
    let P : Sort → Type 0 = λ z. ComputesNew x z (means x (typed_expr c.args.stop.now)) c.emit_start.new.b c.emit_kept.new.b c.in_ok-stop.stop.0 in
    record { type = is; middle = c.emit_start.new.b; first = c.in_ok-reg.ensures.computes; second = subst P (sym is) c.in_ok-stop.ensures.computes }

pub returns-clause-lined : goal.returns-clause-lined
returns-clause-lined c = pieces_join c.in_ok-reg.ensures.lined c.in_ok-stop.ensures.lined
