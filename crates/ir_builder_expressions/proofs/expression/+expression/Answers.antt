use Rattle.ir_builder_expressions.proofs.Common.{HaveTypes, objects, ◌≡◌, true, subst, rules, refl, sym, ◌∙◌, ap, ◌+◌, ◌-◌, arith, length, map, drop, take, IfOk, List, Some, length-map, w128, sort, typed_expr, Variable, TypedModule, typed_module, variable, Reg, Setting, setting_of, Lit, Number, Holds, IntVal, StrVal, Makes, Adds, ok_map, extends_refl, extends_trans, type_kept, room_on, arm_of, EmitsChoice, Side, is_pair, kind_sort, one, two, seen, part_sort, node_in, wanted_one, wanted_two, type_of}
use Rattle.std.proofs.lemmas.Int.{to_z-of_z}
use Rattle.ir_core.specs.declared.code.RType.TheVariants as rtype
use Rattle.ir_builder_choices.proofs.OpenLemmas.{meet_ready}
use Rattle.ir_builder_expressions.proofs.ArgumentLemmas.{argument_suits, passing_none, passing_on, passing_ends, holding_none, holding_on, holding_ends, holding_count, boxed_value, boxed_emits}
use Rattle.ir_builder_expressions.proofs.GoingLemmas.{going_start, going_at, going_on, going_over, first_suits, item_suits, chain_empty, Chain}
use Rattle.ir_builder_expressions.proofs.SideLemmas.{side_emits}
use Rattle.ir_builder_expressions.proofs.WeightLemmas.{weight, weight_of_arm, member_weight, first_weight, later_weight}
use Rattle.ir_builder_expressions.proofs.UnsuitedLemmas.{applied_left}
use Rattle.ir_builder_expressions.proofs.AbsenceLemmas.{absence_as}
use Rattle.ir_builder_expressions.proofs.FoundLemmas.{absence_there}
use Rattle.ir_builder_expressions.proofs.AppliedLemmas.{applied_weight, applied_above, one_suits, two_suit, applied_emits}
use Rattle.ir_builder_expressions.proofs.WalkLemmas.{int_within, int_walked, text_walked, input_walked, flag_walked, local_below, global_below, local_reads, local_walked, global_walked, nothing_walked, list_walked, tuple_walked, behind_slice, list_suits, tuple_suits, compare_part, compare_rest, compare_walked, call_suits, call_fits, call_walked}
use Rattle.ir_builder_expressions.proofs.PieceLemmas.{int_fits, wanted_part, native_is, native_part, own_part, one_emits, two_emit}
use Rattle.ir_builder_expressions.proofs.ArmLemmas.{emits_node, is_int, is_text, is_bool, is_local, is_global, is_input, is_nothing, is_list, is_tuple, is_compare, is_and, is_or, is_cond, is_call, and_asked, or_asked, cond_asked}
use Rattle.ir_builder_expressions.proofs.ChosenLemmas.{arm_asked, arm_there, arm_missing, test_testable, tested_type, arm_typed, choice_made}
use Rattle.ir_builder_frames.proofs.HeldLemmas.{on_ok_map}
use Rattle.ir_builder_expressions.proofs.LinedLemmas.{always, around_by, lined_first, lined_then, lined_leaf, ok_lined, ok_to, lined_one, lined_two, lined_node, lined_whole, lined_chain, lined_literal, lined_applied, listed_of, operands_of_all, rest_start, argument_lined, object_lined, arguments_lined, chain_started, chain_next, chain_over, chain_none, arm_lined, arm_none, choice_lined}
use Rattle.ir_builder_expressions.proofs.expression.+expression.Goals as goal

pub emit_expression-emit_applied-requires : goal.emit_expression-emit_applied-requires
emit_expression-emit_applied-requires t c =
    let e = c.args.e.now in
    let x : Setting = setting_of c.args.site in
    let at = absence_as _ _ _ _ _ c.as_slice.ensures refl c.absence_in.ensures c.in-Some.is in
    let is = absence_there e _ _ _ (is_compare e c.in-Compare.x c.in-Compare.rest c.in-Compare.rest _ c.in-Compare.is refl refl) at in
    let h = applied_above x e c.requires.suits is in
    (omega (arith, h), (is, (c.requires.suits, c.requires.room)))

pub emit_expression-returns-in-Some : goal.emit_expression-returns-in-Some
emit_expression-returns-in-Some t c =
    let e = c.emit_applied.ensures in
    let x : Setting = setting_of c.args.site in
    record { lined = on_ok_map _ _ _ (λ z. lined_whole x c.args.e.now _ _ z) e.lined; kept = e.kept; emitted = e.emitted }

pub emit_expression-emit_side-requires : goal.emit_expression-emit_side-requires
emit_expression-emit_side-requires t c =
    let x : Setting = setting_of c.args.site in
    let none = absence_as _ _ _ _ _ c.as_slice.ensures refl c.absence_in.ensures c.in-None.is in
    let is = is_compare c.args.e.now c.in-Compare.x c.in-Compare.rest c.in-Compare.rest _ c.in-Compare.is c.deref-in-None.ensures refl in
    let part = compare_part x c.args.e.now c.requires.suits _ _ is none in
    (omega (arith, ap weight is), (part.0, (part.1, c.requires.room)))

pub emit_expression-emit_chain-requires : goal.emit_expression-emit_chain-requires
emit_expression-emit_chain-requires t c =
    let x : Setting = setting_of c.args.site in
    let none = absence_as _ _ _ _ _ c.as_slice.ensures c.as_slice-in-None-2.ensures c.absence_in.ensures c.in-None.is in
    let is = is_compare c.args.e.now c.in-Compare.x c.in-Compare.rest _ _ c.in-Compare.is c.deref-in-None.ensures c.as_slice-in-None-2.ensures in
    let side = c.in_ok-first-in-None.ensures in
    (omega (arith, ap weight is), (compare_rest x c.args.e.now c.requires.suits _ _ is none _ _ _ side.emitted, (side.emitted.shown, (room_on _ _ _ side.kept c.requires.room, side.emitted.emits.type))))

pub emit_expression-returns-in_ok-first-in-None : goal.emit_expression-returns-in_ok-first-in-None
emit_expression-returns-in_ok-first-in-None t c =
    let x : Setting = setting_of c.args.site in
    let none = absence_as _ _ _ _ _ c.as_slice.ensures c.as_slice-in-None-2.ensures c.absence_in.ensures c.in-None.is in
    let is = is_compare c.args.e.now c.in-Compare.x c.in-Compare.rest _ _ c.in-Compare.is c.deref-in-None.ensures c.as_slice-in-None-2.ensures in
    let side = c.in_ok-first-in-None.ensures in
    let q : Side = c.in_ok-first-in-None.first in
    record { lined = on_ok_map _ _ _ (λ z. lined_chain x c.args.e.now _ _ _ _ is none (lined_first x _ _ _ _ _ _ (kind_sort q.shown, q.reg.0, side.emitted.emits) side.lined z)) c.emit_chain.ensures.lined; kept = extends_trans _ _ _ side.kept c.emit_chain.ensures.kept; emitted = ok_map _ _ _ (λ (r : Reg) z. compare_walked x c.args.e.now c.requires.suits _ _ is none _ _ _ q r.0 c.requires.room side.emitted z) c.emit_chain.ensures.emitted }

pub emit_expression-returns-in-Int : goal.emit_expression-returns-in-Int
emit_expression-returns-in-Int t c =
    let x : Setting = setting_of c.args.site in
    let is = is_int c.args.e.now c.in-Int.n c.in-Int.is in
    let e = c.emit_int.ensures in
    let number = to_z-of_z w128 c.in-Int.n (int_fits c.in-Int.n (int_within x c.args.e.now c.requires.suits c.in-Int.n is)) in
    let made : IfOk c.emit_int.result (λ r. Makes c.args.b.now c.emit_int.new.b r.0 rtype.Int (λ regs h. h ≡ Holds (IntVal c.in-Int.n))) = rw number at e.made in
    record { lined = always _ _ (lined_leaf x c.args.e.now _ _ _ is refl e.kept e.lined); kept = e.kept; emitted = ok_map _ _ _ (λ (r : Reg) a. int_walked x c.args.e.now c.requires.suits c.in-Int.n _ _ r.0 is a) made }

pub emit_expression-returns-in-Str : goal.emit_expression-returns-in-Str
emit_expression-returns-in-Str t c =
    let x : Setting = setting_of c.args.site in
    let is = is_text c.args.e.now c.in-Str.text c.in-Str.is in
    let e = c.emit_text.ensures in
    let made : IfOk c.emit_text.result (λ r. Makes c.args.b.now c.emit_text.new.b r.0 rtype.Ref (λ regs h. h ≡ Holds (StrVal c.in-Str.text))) = rw c.as_str.ensures at e.made in
    record { lined = always _ _ (lined_leaf x c.args.e.now _ _ _ is refl e.kept e.lined); kept = e.kept; emitted = ok_map _ _ _ (λ (r : Reg) a. text_walked x c.args.e.now c.requires.suits c.in-Str.text _ _ r.0 is a) made }

pub emit_expression-emit_global_value-requires : goal.emit_expression-emit_global_value-requires
emit_expression-emit_global_value-requires t c =
    let x : Setting = setting_of c.args.site in
    record { there = rw (sym (length-map c.args.site.checked.now.globals variable)) (global_below x c.args.e.now c.requires.suits c.in-Global.i (is_global c.args.e.now c.in-Global.i c.in-Global.is)); room = c.requires.room }

pub emit_expression-returns-in-Global : goal.emit_expression-returns-in-Global
emit_expression-returns-in-Global t c =
    let x : Setting = setting_of c.args.site in
    let is = is_global c.args.e.now c.in-Global.i c.in-Global.is in
    let e = c.emit_global_value.ensures in
    record { lined = always _ _ (lined_leaf x c.args.e.now _ _ _ is refl e.kept e.lined); kept = e.kept; emitted = ok_map _ _ _ (λ (r : Reg) q. global_walked x c.args.e.now c.requires.suits _ _ _ r.0 is q) e.emitted }

pub emit_expression-returns-in-Input : goal.emit_expression-returns-in-Input
emit_expression-returns-in-Input t c =
    let x : Setting = setting_of c.args.site in
    let is = is_input c.args.e.now c.in-Input.is in
    let e = c.emit_input.ensures in
    record { lined = always _ _ (lined_leaf x c.args.e.now _ _ _ is refl e.kept e.lined); kept = e.kept; emitted = ok_map _ _ _ (λ (r : Reg) a. input_walked x c.args.e.now c.requires.suits _ _ r.0 is c.requires.room a) e.made }

pub emit_expression-emit_applied-requires-in_default : goal.emit_expression-emit_applied-requires-in_default
emit_expression-emit_applied-requires-in_default t c =
    let m : TypedModule = typed_module c.args.site.checked.now in
    let vs : List Variable = map variable c.args.site.locals.now in
    let x : Setting = setting_of c.args.site in
    let d = c.in_default in
    let is = applied_left m vs c.args.e.now c.requires.suits d.not-Int d.not-Str d.not-Bool d.not-Nothing d.not-Local d.not-Global d.not-Compare d.not-And d.not-Or d.not-Cond d.not-List d.not-Tuple d.not-Call d.not-Input in
    let h = applied_above x c.args.e.now c.requires.suits is in
    (omega (arith, h), (is, (c.requires.suits, c.requires.room)))

pub emit_expression-returns-in_default : goal.emit_expression-returns-in_default
emit_expression-returns-in_default t c =
    let e = c.emit_applied-in_default.ensures in
    let x : Setting = setting_of c.args.site in
    record { lined = on_ok_map _ _ _ (λ z. lined_whole x c.args.e.now _ _ z) e.lined; kept = e.kept; emitted = e.emitted }

pub emit_applied-emit_one_part-requires : goal.emit_applied-emit_one_part-requires
emit_applied-emit_one_part-requires t c =
    let x : Setting = setting_of c.args.site in
    let is = ap (λ z. Some (seen z)) (sym c.in-One.is) ∙ c.operation_in.ensures in
    let h = applied_weight x c.args.e.now c.requires.suits _ is in
    let part = one_suits x c.args.e.now c.requires.suits c.in-One.op c.in-One.x.now is in
    (omega (arith, h), (part.0, (part.1, c.requires.room)))

pub emit_applied-returns-in-One : goal.emit_applied-returns-in-One
emit_applied-returns-in-One t c =
    let x : Setting = setting_of c.args.site in
    let is = ap (λ z. Some (seen z)) (sym c.in-One.is) ∙ c.operation_in.ensures in
    let e = c.emit_one_part.ensures in
    record { lined = on_ok_map _ _ _ (λ z. lined_applied x c.args.site.line (node_in (typed_expr c.args.e.now)) (one c.in-One.op (typed_expr c.in-One.x.now)) _ _ (sym is) z) e.lined; kept = e.kept; emitted = ok_map _ _ _ (λ (r : Reg) q. applied_emits x c.args.e.now c.requires.suits (one c.in-One.op (typed_expr c.in-One.x.now)) _ _ r.0 is q) e.emitted }

pub emit_applied-emit_two_parts-requires : goal.emit_applied-emit_two_parts-requires
emit_applied-emit_two_parts-requires t c =
    let x : Setting = setting_of c.args.site in
    let is = ap (λ z. Some (seen z)) (sym c.in-Two.is) ∙ c.operation_in.ensures in
    let h = applied_weight x c.args.e.now c.requires.suits _ is in
    let parts = two_suit x c.args.e.now c.requires.suits c.in-Two.op c.in-Two.x.now c.in-Two.y.now is in
    (omega (arith, h), (parts.0, (parts.1, (parts.2, c.requires.room))))

pub emit_applied-returns-in-Two : goal.emit_applied-returns-in-Two
emit_applied-returns-in-Two t c =
    let x : Setting = setting_of c.args.site in
    let is = ap (λ z. Some (seen z)) (sym c.in-Two.is) ∙ c.operation_in.ensures in
    let e = c.emit_two_parts.ensures in
    record { lined = on_ok_map _ _ _ (λ z. lined_applied x c.args.site.line (node_in (typed_expr c.args.e.now)) (two c.in-Two.op (typed_expr c.in-Two.x.now) (typed_expr c.in-Two.y.now)) _ _ (sym is) z) e.lined; kept = e.kept; emitted = ok_map _ _ _ (λ (r : Reg) q. applied_emits x c.args.e.now c.requires.suits (two c.in-Two.op (typed_expr c.in-Two.x.now) (typed_expr c.in-Two.y.now)) _ _ r.0 is q) e.emitted }

pub emit_expression-returns-in-Bool : goal.emit_expression-returns-in-Bool
emit_expression-returns-in-Bool t c =
    let x : Setting = setting_of c.args.site in
    let is = is_bool c.args.e.now c.in-Bool.value c.in-Bool.is in
    let e = c.literal.ensures in
    record { lined = always _ _ (lined_leaf x c.args.e.now _ _ _ is refl e.kept e.lined); kept = e.kept; emitted = ok_map _ _ _ (λ (r : Reg) a. flag_walked x c.args.e.now c.requires.suits c.in-Bool.value _ _ r.0 is a) (rw c.truth.ensures.is at e.added) }

pub emit_expression-emit_local_as-requires : goal.emit_expression-emit_local_as-requires
emit_expression-emit_local_as-requires t c =
    let x : Setting = setting_of c.args.site in
    let is = is_local c.args.e.now c.in-Local.i c.in-Local.is in
    record { there = rw (sym (length-map c.args.site.locals.now variable)) (local_below x c.args.e.now c.requires.suits c.in-Local.i is); reads = local_reads x c.args.e.now c.requires.suits c.in-Local.i is; room = c.requires.room }

pub emit_expression-returns-in-Local : goal.emit_expression-returns-in-Local
emit_expression-returns-in-Local t c =
    let x : Setting = setting_of c.args.site in
    let is = is_local c.args.e.now c.in-Local.i c.in-Local.is in
    let e = c.emit_local_as.ensures in
    record { lined = always _ _ (lined_leaf x c.args.e.now _ _ _ is refl e.kept e.lined); kept = e.kept; emitted = ok_map _ _ _ (λ (r : Reg) q. local_walked x c.args.e.now c.requires.suits _ _ _ r.0 is q) e.emitted }

pub emit_expression-returns-in-Nothing : goal.emit_expression-returns-in-Nothing
emit_expression-returns-in-Nothing t c =
    let x : Setting = setting_of c.args.site in
    let is = is_nothing c.args.e.now c.in-Nothing.is in
    let e = c.literal-in-Nothing.ensures in
    record { lined = always _ _ (lined_leaf x c.args.e.now _ _ _ is refl e.kept e.lined); kept = e.kept; emitted = ok_map _ _ _ (λ (r : Reg) a. nothing_walked x c.args.e.now c.requires.suits _ _ r.0 is a) e.added }

pub emit_expression-emit_choice-requires : goal.emit_expression-emit_choice-requires
emit_expression-emit_choice-requires t c =
    let x : Setting = setting_of c.args.site in
    let is = is_and c.args.e.now c.in-And.x c.in-And.y _ _ c.in-And.is c.deref-in-And-2.ensures c.deref-in-And.ensures in
    (omega (arith, ap weight is), (and_asked x.source x.variables c.args.e.now _ _ is c.requires.suits, c.requires.room))

pub emit_expression-returns-in-And : goal.emit_expression-returns-in-And
emit_expression-returns-in-And t c =
    let x : Setting = setting_of c.args.site in
    let is = is_and c.args.e.now c.in-And.x c.in-And.y _ _ c.in-And.is c.deref-in-And-2.ensures c.deref-in-And.ensures in
    let e = c.emit_choice.ensures in
    record { lined = on_ok_map _ _ _ (λ z. lined_node x c.args.e.now _ _ _ is z) e.lined; kept = e.kept; emitted = ok_map _ _ _ (λ (r : Reg) q. emits_node x c.args.e.now _ (sort c.args.e.now.ty) _ _ r.0 is refl q) e.emitted }

pub emit_expression-emit_choice-requires-in-Or : goal.emit_expression-emit_choice-requires-in-Or
emit_expression-emit_choice-requires-in-Or t c =
    let x : Setting = setting_of c.args.site in
    let is = is_or c.args.e.now c.in-Or.x c.in-Or.y _ _ c.in-Or.is c.deref-in-Or-2.ensures c.deref-in-Or.ensures in
    (omega (arith, ap weight is), (or_asked x.source x.variables c.args.e.now _ _ is c.requires.suits, c.requires.room))

pub emit_expression-returns-in-Or : goal.emit_expression-returns-in-Or
emit_expression-returns-in-Or t c =
    let x : Setting = setting_of c.args.site in
    let is = is_or c.args.e.now c.in-Or.x c.in-Or.y _ _ c.in-Or.is c.deref-in-Or-2.ensures c.deref-in-Or.ensures in
    let e = c.emit_choice-in-Or.ensures in
    record { lined = on_ok_map _ _ _ (λ z. lined_node x c.args.e.now _ _ _ is z) e.lined; kept = e.kept; emitted = ok_map _ _ _ (λ (r : Reg) q. emits_node x c.args.e.now _ (sort c.args.e.now.ty) _ _ r.0 is refl q) e.emitted }

pub emit_expression-emit_choice-requires-in-Cond : goal.emit_expression-emit_choice-requires-in-Cond
emit_expression-emit_choice-requires-in-Cond t c =
    let x : Setting = setting_of c.args.site in
    let is = is_cond c.args.e.now c.in-Cond.x c.in-Cond.test c.in-Cond.y _ _ _ c.in-Cond.is c.deref-in-Cond.ensures c.deref-in-Cond-3.ensures c.deref-in-Cond-2.ensures in
    (omega (arith, ap weight is), (cond_asked x.source x.variables c.args.e.now _ _ _ is c.requires.suits, c.requires.room))

pub emit_expression-returns-in-Cond : goal.emit_expression-returns-in-Cond
emit_expression-returns-in-Cond t c =
    let x : Setting = setting_of c.args.site in
    let is = is_cond c.args.e.now c.in-Cond.x c.in-Cond.test c.in-Cond.y _ _ _ c.in-Cond.is c.deref-in-Cond.ensures c.deref-in-Cond-3.ensures c.deref-in-Cond-2.ensures in
    let e = c.emit_choice-in-Cond.ensures in
    record { lined = on_ok_map _ _ _ (λ z. lined_node x c.args.e.now _ _ _ is z) e.lined; kept = e.kept; emitted = ok_map _ _ _ (λ (r : Reg) q. emits_node x c.args.e.now _ (sort c.args.e.now.ty) _ _ r.0 is refl q) e.emitted }

pub emit_expression-emit_arguments-requires : goal.emit_expression-emit_arguments-requires
emit_expression-emit_arguments-requires t c =
    let x : Setting = setting_of c.args.site in
    let is = is_call c.args.e.now c.in-Call.f c.in-Call.args _ c.in-Call.is c.as_slice-in-Call.ensures in
    (omega (arith, ap weight is), (call_suits x c.args.e.now c.requires.suits _ _ is, c.requires.room))

pub emit_expression-returns-in_err-args-in-Call : goal.emit_expression-returns-in_err-args-in-Call
emit_expression-returns-in_err-args-in-Call t c =
    record { lined = search rules; kept = c.in_err-args-in-Call.ensures.kept; emitted = search rules }

pub emit_expression-call-requires : goal.emit_expression-call-requires
emit_expression-call-requires t c =
    let x : Setting = setting_of c.args.site in
    let is = is_call c.args.e.now c.in-Call.f c.in-Call.args _ c.in-Call.is c.as_slice-in-Call.ensures in
    let e = c.in_ok-args-in-Call.ensures in
    record { fits = call_fits x c.args.e.now c.requires.suits _ _ is _ _ _ _ c.register_type.ensures e.emitted _ (room_on x _ _ e.kept c.requires.room).among }

pub emit_expression-returns-in_ok-args-in-Call : goal.emit_expression-returns-in_ok-args-in-Call
emit_expression-returns-in_ok-args-in-Call t c =
    let x : Setting = setting_of c.args.site in
    let is = is_call c.args.e.now c.in-Call.f c.in-Call.args _ c.in-Call.is c.as_slice-in-Call.ensures in
    let args = c.in_ok-args-in-Call.ensures in
    let e = c.call.ensures in
    record { lined = always _ _ (lined_node x c.args.e.now _ _ _ is (lined_then args.lined (around_by _ _ _ e.kept e.lined))); kept = extends_trans _ _ _ args.kept e.kept; emitted = ok_map _ _ _ (λ (r : Reg) a. call_walked x c.args.e.now c.requires.suits _ _ is _ _ _ _ c.register_type.ensures args.emitted _ r.0 c.requires.room a) e.added }

pub emit_arguments-loop-e-init : goal.emit_arguments-loop-e-init
emit_arguments-loop-e-init t c =
    let x : Setting = setting_of c.args.site in
    record { passing = rw c.new-regs.ensures (passing_none x c.args.args.now c.args.b.now c.requires.suits); lined = rest_start x c.args.site.line (listed_of c.args.args.now) c.args.b.now }

pub emit_arguments-emit_expression-requires : goal.emit_arguments-emit_expression-requires
emit_arguments-emit_expression-requires t c =
    let m : TypedModule = typed_module c.args.site.checked.now in
    let vs : List Variable = map variable c.args.site.locals.now in
    let h0 = member_weight c.args.args.now c.loop-e.e-index c.e-item.result c.loop-e-test.true c.e-item.is in
    (omega arith, ((argument_suits m vs c.args.args.now c.loop-e.e-index c.e-item.result c.loop-e-test.true c.e-item.is c.loop-e.invariant.passing.suits).0, (room_on _ _ _ c.loop-e.invariant.passing.emitted.extends c.requires.room)))

pub emit_arguments-returns-in_err-r-clause-kept : goal.emit_arguments-returns-in_err-r-clause-kept
emit_arguments-returns-in_err-r-clause-kept t c = extends_trans _ _ _ c.loop-e.invariant.passing.emitted.extends c.in_err-r.ensures.kept

pub emit_arguments-returns-in_err-push-clause-kept : goal.emit_arguments-returns-in_err-push-clause-kept
emit_arguments-returns-in_err-push-clause-kept t c = extends_trans _ _ _ c.loop-e.invariant.passing.emitted.extends c.in_ok-r.ensures.kept

pub emit_arguments-loop-e-preserved : goal.emit_arguments-loop-e-preserved
emit_arguments-loop-e-preserved t c =
    let x : Setting = setting_of c.args.site in
    let e = c.in_ok-r.ensures in
    record { passing = passing_on x c.args.args.now c.loop-e.e-index c.e-item.result c.args.b.now c.loop-e.b _ c.loop-e.regs _ c.in_ok-r.r c.loop-e-test.true c.e-item.is c.requires.room c.loop-e.invariant.passing e.emitted c.in_ok-push.ensures.ok; lined = argument_lined x c.args.site.line c.args.args.now c.loop-e.e-index c.e-item.result c.args.b.now c.loop-e.b _ c.in_ok-r.r.0 c.loop-e-test.true c.e-item.is c.loop-e.invariant.lined e.emitted e.lined }

pub emit_arguments-returns : goal.emit_arguments-returns
emit_arguments-returns t c =
    let x : Setting = setting_of c.args.site in
    record { lined = arguments_lined x c.args.site.line c.args.args.now c.loop-e.e-index c.args.b.now c.loop-e.b c.loop-e-test.false c.loop-e.invariant.lined; kept = c.loop-e.invariant.passing.emitted.extends; emitted = passing_ends x c.args.args.now c.loop-e.e-index c.args.b.now c.loop-e.b c.loop-e.regs c.loop-e-test.false c.loop-e.invariant.passing }

pub emit_objects-loop-e-init : goal.emit_objects-loop-e-init
emit_objects-loop-e-init t c =
    let x : Setting = setting_of c.args.site in
    record { holding = rw c.new-regs.ensures (holding_none x c.args.items.now c.args.b.now c.requires.suits); lined = rest_start x c.args.site.line (listed_of c.args.items.now) c.args.b.now }

pub emit_object-emit_expression-requires : goal.emit_object-emit_expression-requires
emit_object-emit_expression-requires t c = (omega arith, (c.requires.suits, c.requires.room))

pub emit_object-emit_boxed-requires : goal.emit_object-emit_boxed-requires
emit_object-emit_boxed-requires t c = record { value = boxed_value c.args.e.now _ _ c.in_ok-x.ensures.emitted }

pub emit_object-returns : goal.emit_object-returns
emit_object-returns t c =
    let x : Setting = setting_of c.args.site in
    let e = c.emit_boxed.ensures in
    let one = c.in_ok-x.ensures in
    record { lined = always _ _ (lined_one x c.args.site.line (typed_expr c.args.e.now) _ _ _ (type_of (typed_expr c.args.e.now), c.in_ok-x.x.0, one.emitted) one.lined e.kept e.lined); kept = extends_trans _ _ _ one.kept e.kept; emitted = ok_map _ _ _ (λ (r : Reg) a. boxed_emits x c.args.e.now _ _ _ c.in_ok-x.x.0 r.0 c.requires.room one.emitted a) e.made }

pub emit_objects-emit_object-requires : goal.emit_objects-emit_object-requires
emit_objects-emit_object-requires t c =
    let m : TypedModule = typed_module c.args.site.checked.now in
    let vs : List Variable = map variable c.args.site.locals.now in
    let h0 = member_weight c.args.items.now c.loop-e.e-index c.e-item.result c.loop-e-test.true c.e-item.is in
    (omega arith, ((argument_suits m vs c.args.items.now c.loop-e.e-index c.e-item.result c.loop-e-test.true c.e-item.is c.loop-e.invariant.holding.suits).0, (room_on _ _ _ c.loop-e.invariant.holding.emitted.extends c.requires.room)))

pub emit_objects-returns-in_err-r-clause-kept : goal.emit_objects-returns-in_err-r-clause-kept
emit_objects-returns-in_err-r-clause-kept t c = extends_trans _ _ _ c.loop-e.invariant.holding.emitted.extends c.in_err-r.ensures.kept

pub emit_objects-returns-in_err-push-clause-kept : goal.emit_objects-returns-in_err-push-clause-kept
emit_objects-returns-in_err-push-clause-kept t c = extends_trans _ _ _ c.loop-e.invariant.holding.emitted.extends c.in_ok-r.ensures.kept

pub emit_objects-loop-e-preserved : goal.emit_objects-loop-e-preserved
emit_objects-loop-e-preserved t c =
    let x : Setting = setting_of c.args.site in
    let o = c.in_ok-r.ensures in
    record { holding = holding_on x c.args.items.now c.loop-e.e-index c.e-item.result c.args.b.now c.loop-e.b _ c.loop-e.regs _ c.in_ok-r.r c.loop-e-test.true c.e-item.is c.requires.room c.loop-e.invariant.holding o.emitted c.in_ok-push.ensures.ok; lined = object_lined x c.args.site.line c.args.items.now c.loop-e.e-index c.e-item.result c.args.b.now c.loop-e.b _ c.loop-e-test.true c.e-item.is c.loop-e.invariant.lined o.lined }

pub emit_objects-returns : goal.emit_objects-returns
emit_objects-returns t c =
    let x : Setting = setting_of c.args.site in
    record { lined = arguments_lined x c.args.site.line c.args.items.now c.loop-e.e-index c.args.b.now c.loop-e.b c.loop-e-test.false c.loop-e.invariant.lined; kept = c.loop-e.invariant.holding.emitted.extends; emitted = holding_ends x c.args.items.now c.loop-e.e-index c.args.b.now c.loop-e.b c.loop-e.regs c.loop-e-test.false c.loop-e.invariant.holding; count = holding_count x c.args.items.now c.loop-e.e-index c.args.b.now c.loop-e.b c.loop-e.regs c.loop-e.auto.e-index-end c.loop-e-test.false c.loop-e.invariant.holding }

pub emit_expression-emit_objects-requires : goal.emit_expression-emit_objects-requires
emit_expression-emit_objects-requires t c =
    let x : Setting = setting_of c.args.site in
    let is = is_list c.args.e.now c.in-List.items _ c.in-List.is c.as_slice-in-List.ensures in
    (omega (arith, ap weight is), (list_suits x c.args.e.now c.requires.suits _ is, c.requires.room))

pub emit_expression-emit_objects-requires-in-Tuple : goal.emit_expression-emit_objects-requires-in-Tuple
emit_expression-emit_objects-requires-in-Tuple t c =
    let x : Setting = setting_of c.args.site in
    let is = is_tuple c.args.e.now c.in-Tuple.parts _ c.in-Tuple.is c.as_slice-in-Tuple.ensures in
    (omega (arith, ap weight is), ((tuple_suits x c.args.e.now c.requires.suits _ is).2, c.requires.room))

pub emit_expression-emit_list-requires : goal.emit_expression-emit_list-requires
emit_expression-emit_list-requires t c =
    let P : List Reg → Type 0 = λ rs. HaveTypes c.emit_objects.new.b.regs (objects rs) rs in
    record { items = subst P (sym c.as_slice-in-List-2.ensures) c.in_ok-items-in-List.ensures.emitted.types }

pub emit_expression-emit_tuple-requires : goal.emit_expression-emit_tuple-requires
emit_expression-emit_tuple-requires t c =
    let x : Setting = setting_of c.args.site in
    let is = is_tuple c.args.e.now c.in-Tuple.parts _ c.in-Tuple.is c.as_slice-in-Tuple.ensures in
    let few = tuple_suits x c.args.e.now c.requires.suits _ is in
    let count = ap length c.as_slice-in-Tuple-2.ensures ∙ c.in_ok-parts-in-Tuple.ensures.count in
    let P : List Reg → Type 0 = λ rs. HaveTypes c.emit_objects-in-Tuple.new.b.regs (objects rs) rs in
    record { some = omega (arith, few.0, count); few = omega (arith, few.1, count); parts = subst P (sym c.as_slice-in-Tuple-2.ensures) c.in_ok-parts-in-Tuple.ensures.emitted.types }

pub emit_expression-returns-in_ok-items-in-List : goal.emit_expression-returns-in_ok-items-in-List
emit_expression-returns-in_ok-items-in-List t c =
    let x : Setting = setting_of c.args.site in
    let is = is_list c.args.e.now c.in-List.items _ c.in-List.is c.as_slice-in-List.ensures in
    let all = c.in_ok-items-in-List.ensures in
    let e = c.emit_list.ensures in
    record { lined = always _ _ (lined_node x c.args.e.now _ _ _ is (lined_then all.lined (around_by _ _ _ e.kept e.lined))); kept = extends_trans _ _ _ all.kept e.kept; emitted = ok_map _ _ _ (λ (r : Reg) a. list_walked x c.args.e.now c.requires.suits _ _ _ _ _ r.0 c.requires.room all.emitted is (behind_slice _ _ _ _ r.0 _ c.as_slice-in-List-2.ensures a)) e.made }

pub emit_expression-returns-in_ok-parts-in-Tuple : goal.emit_expression-returns-in_ok-parts-in-Tuple
emit_expression-returns-in_ok-parts-in-Tuple t c =
    let x : Setting = setting_of c.args.site in
    let is = is_tuple c.args.e.now c.in-Tuple.parts _ c.in-Tuple.is c.as_slice-in-Tuple.ensures in
    let all = c.in_ok-parts-in-Tuple.ensures in
    let e = c.emit_tuple.ensures in
    record { lined = always _ _ (lined_node x c.args.e.now _ _ _ is (lined_then all.lined (around_by _ _ _ e.kept e.lined))); kept = extends_trans _ _ _ all.kept e.kept; emitted = ok_map _ _ _ (λ (r : Reg) a. tuple_walked x c.args.e.now c.requires.suits _ _ _ _ _ r.0 c.requires.room all.emitted is (behind_slice _ _ _ _ r.0 _ c.as_slice-in-Tuple-2.ensures a)) e.made }

pub emit_choice-emit_expression-requires : goal.emit_choice-emit_expression-requires
emit_choice-emit_expression-requires t c =
    (omega arith, (c.requires.suits.test_suits, c.requires.room))

pub emit_choice-emit_truth_of-requires : goal.emit_choice-emit_truth_of-requires
emit_choice-emit_truth_of-requires t c =
    let x : Setting = setting_of c.args.site in
    record { testable = test_testable c.args.test.now c.requires.suits.tested; value = tested_type x c.args.test.now _ _ _ c.in_ok-tested.ensures.emitted }

pub emit_choice-emit_arm-requires : goal.emit_choice-emit_arm-requires
emit_choice-emit_arm-requires t c =
    (omega arith, (c.requires.suits.body_suits, room_on _ _ _ (extends_trans _ _ _ c.in_ok-tested.ensures.kept (extends_trans _ _ _ c.in_ok-condition.ensures.kept c.in_ok-choice.ensures.kept)) c.requires.room))

pub emit_choice-emit_arm-requires-2 : goal.emit_choice-emit_arm-requires-2
emit_choice-emit_arm-requires-2 t c =
    (omega arith, (c.requires.suits.other_suits, room_on _ _ _ (extends_trans _ _ _ c.in_ok-tested.ensures.kept (extends_trans _ _ _ c.in_ok-condition.ensures.kept (extends_trans _ _ _ c.in_ok-choice.ensures.kept (extends_trans _ _ _ c.in_ok-x.ensures.kept c.in_ok-end.ensures.kept)))) c.requires.room))

pub emit_choice-turn-requires : goal.emit_choice-turn-requires
emit_choice-turn-requires t c =
    let x : Setting = setting_of c.args.site in
    let x13 = extends_trans _ _ _ c.in_ok-condition.ensures.kept c.in_ok-choice.ensures.kept in
    record { alike = (c.register_type.result, type_kept _ _ _ _ c.in_ok-x.ensures.kept c.in_ok-choice.ensures.opens.type, arm_typed x (sort c.args.t.now) c.args.test.now c.register_type.result c.register_type.ensures _ _ _ c.in_ok-tested.ensures.emitted (arm_of c.args.body) _ _ _ c.requires.suits.body_type x13 c.in_ok-x.ensures.emitted) }

pub emit_choice-meet-requires : goal.emit_choice-meet-requires
emit_choice-meet-requires t c =
    let x : Setting = setting_of c.args.site in
    let r = meet_ready _ _ _ _ _ _ _ _ _ _ _ _ _ c.in_ok-choice.ensures.opens c.in_ok-x.ensures.kept c.in_ok-end.ensures.brings c.here-second.ensures.number c.in_ok-y.ensures.kept in
    let x35 = extends_trans _ _ _ c.in_ok-x.ensures.kept c.in_ok-end.ensures.kept in
    let x37 = extends_trans _ _ _ x35 c.in_ok-y.ensures.kept in
    let x15 = extends_trans _ _ _ c.in_ok-condition.ensures.kept (extends_trans _ _ _ c.in_ok-choice.ensures.kept x35) in
    let second = arm_typed x (sort c.args.t.now) c.args.test.now c.register_type.result c.register_type.ensures _ _ _ c.in_ok-tested.ensures.emitted (arm_of c.args.other) _ _ _ c.requires.suits.other_type x15 c.in_ok-y.ensures.emitted in
    record {
      alike = (c.register_type.result, type_kept _ _ _ _ x37 c.in_ok-choice.ensures.opens.type, second);
      flag = type_kept _ _ _ _ (extends_trans _ _ _ c.in_ok-choice.ensures.kept x37) c.in_ok-condition.ensures.made.type;
      test_open = r.0;
      end_open = r.1.0;
      first = r.1.1.0;
      end = r.1.1.1.0;
      second = r.1.1.1.1.0;
      here = r.1.1.1.1.1;
    }

pub emit_choice-returns-in_err-condition-clause-kept : goal.emit_choice-returns-in_err-condition-clause-kept
emit_choice-returns-in_err-condition-clause-kept t c = extends_trans _ _ _ c.in_ok-tested.ensures.kept c.in_err-condition.ensures.kept

pub emit_choice-returns-in_err-choice-clause-kept : goal.emit_choice-returns-in_err-choice-clause-kept
emit_choice-returns-in_err-choice-clause-kept t c = extends_trans _ _ _ c.in_ok-tested.ensures.kept (extends_trans _ _ _ c.in_ok-condition.ensures.kept c.in_err-choice.ensures.kept)

pub emit_choice-returns-in_err-x-clause-kept : goal.emit_choice-returns-in_err-x-clause-kept
emit_choice-returns-in_err-x-clause-kept t c = extends_trans _ _ _ c.in_ok-tested.ensures.kept (extends_trans _ _ _ c.in_ok-condition.ensures.kept (extends_trans _ _ _ c.in_ok-choice.ensures.kept c.in_err-x.ensures.kept))

pub emit_choice-returns-in_err-end-clause-kept : goal.emit_choice-returns-in_err-end-clause-kept
emit_choice-returns-in_err-end-clause-kept t c = extends_trans _ _ _ c.in_ok-tested.ensures.kept (extends_trans _ _ _ c.in_ok-condition.ensures.kept (extends_trans _ _ _ c.in_ok-choice.ensures.kept (extends_trans _ _ _ c.in_ok-x.ensures.kept c.in_err-end.ensures.kept)))

pub emit_choice-returns-in_err-y-clause-kept : goal.emit_choice-returns-in_err-y-clause-kept
emit_choice-returns-in_err-y-clause-kept t c = extends_trans _ _ _ c.in_ok-tested.ensures.kept (extends_trans _ _ _ c.in_ok-condition.ensures.kept (extends_trans _ _ _ c.in_ok-choice.ensures.kept (extends_trans _ _ _ c.in_ok-x.ensures.kept (extends_trans _ _ _ c.in_ok-end.ensures.kept c.in_err-y.ensures.kept))))

pub emit_choice-returns-in_err-meet-clause-kept : goal.emit_choice-returns-in_err-meet-clause-kept
emit_choice-returns-in_err-meet-clause-kept t c = extends_trans _ _ _ c.in_ok-tested.ensures.kept (extends_trans _ _ _ c.in_ok-condition.ensures.kept (extends_trans _ _ _ c.in_ok-choice.ensures.kept (extends_trans _ _ _ c.in_ok-x.ensures.kept (extends_trans _ _ _ c.in_ok-end.ensures.kept (extends_trans _ _ _ c.in_ok-y.ensures.kept c.in_err-meet.ensures.kept)))))

pub emit_choice-returns : goal.emit_choice-returns
emit_choice-returns t c =
    let x : Setting = setting_of c.args.site in
    let all : EmitsChoice x (sort c.args.t.now) (typed_expr c.args.test.now) (arm_of c.args.body) (arm_of c.args.other) c.args.b.now c.meet.new.b c.in_ok-choice.choice.target.0 = choice_made x (sort c.args.t.now) c.args.test.now c.register_type.result c.register_type.ensures _ _ _ c.in_ok-tested.ensures.emitted _ _ _ _ _ _ _ _ _ _ _ _ _ _ _ _ c.requires.suits c.requires.room c.in_ok-condition.ensures.made c.in_ok-choice.ensures.opens c.in_ok-x.ensures.kept c.in_ok-x.ensures.emitted c.in_ok-end.ensures.brings c.here-second.ensures.number c.in_ok-y.ensures.emitted c.in_ok-meet.ensures.meets in
    let lines = choice_lined x c.args.site.line c.args.test.now c.args.body c.args.other _ _ _ _ _ _ _ _ c.in_ok-tested.tested.0 _ _ _ _ _ _ _ c.in_ok-tested.ensures.emitted c.in_ok-tested.ensures.lined c.in_ok-condition.ensures.kept c.in_ok-condition.ensures.lined c.in_ok-choice.ensures.kept (c.in_ok-choice.ensures.lined c.args.site.line) c.in_ok-x.ensures.lined c.in_ok-end.ensures.kept c.in_ok-end.ensures.lined c.in_ok-y.ensures.lined c.in_ok-meet.ensures.meets c.meet.ensures.lined in
    record { lined = lines; kept = all.extends; emitted = all }

pub emit_arm-emit_expression-requires : goal.emit_arm-emit_expression-requires
emit_arm-emit_expression-requires t c =
    let m : TypedModule = typed_module c.args.site.checked.now in
    let vs : List Variable = map variable c.args.site.locals.now in
    let h0 = ap weight_of_arm c.in-Some.is in
    (omega arith, (arm_asked m vs c.args.arm c.in-Some.e c.in-Some.is c.requires.suits, c.requires.room))

pub emit_arm-returns-in-Some : goal.emit_arm-returns-in-Some
emit_arm-returns-in-Some t c =
    let x : Setting = setting_of c.args.site in
    let e = c.emit_expression.ensures in
    record { lined = ok_lined _ _ _ _ (λ (r : Reg) q z. arm_lined x c.args.site.line c.args.arm c.in-Some.e _ _ r.0 c.in-Some.is q z) e.emitted e.lined; kept = e.kept; emitted = ok_map _ _ _ (λ (r : Reg) q. arm_there x c.args.arm c.in-Some.e c.args.tested.0 _ _ r.0 c.in-Some.is q) e.emitted }

pub emit_arm-returns-in-None : goal.emit_arm-returns-in-None
emit_arm-returns-in-None t c =
    let x : Setting = setting_of c.args.site in
    record { lined = arm_none x c.args.site.line c.args.arm c.args.b.now c.in-None.is; kept = extends_refl c.args.b.now; emitted = arm_missing x c.args.arm c.args.tested.0 c.args.b.now c.in-None.is }

pub emit_part-literal-requires : goal.emit_part-literal-requires
emit_part-literal-requires t c =
    let n = c.in-Some.n in
    let within = (native_is (sort c.args.t.now) _ n (sym c.native_literal.ensures ∙ c.in-Some.is)).1 in
    record { fits = search (rules, within) }

pub emit_part-returns-in-Some : goal.emit_part-returns-in-Some
emit_part-returns-in-Some t c =
    let x : Setting = setting_of c.args.site in
    let e = c.literal.ensures in
    let n = c.in-Some.n in
    let added : IfOk c.literal.result (λ r. Adds c.args.b.now c.literal.new.self r.0 rtype.I64 (Lit r (Number n)) c.args.e.now.span.line) = search (rules, e.added) in
    let is = sym c.native_literal.ensures ∙ c.in-Some.is in
    record { lined = always _ _ (lined_literal x c.args.e.now n _ _ (native_is (sort c.args.t.now) _ n is).0 e.kept e.lined); kept = e.kept; emitted = ok_map _ _ _ (λ (r : Reg) a. native_part x (sort c.args.t.now) (typed_expr c.args.e.now) n _ _ r.0 is a) added }

pub emit_part-returns-in-None : goal.emit_part-returns-in-None
emit_part-returns-in-None t c =
    let x : Setting = setting_of c.args.site in
    let e = c.emit_expression.ensures in
    record { lined = e.lined; kept = e.kept; emitted = ok_map _ _ _ (λ (r : Reg) q. own_part x (sort c.args.t.now) (typed_expr c.args.e.now) _ _ r.0 (sym c.native_literal.ensures ∙ c.in-None.is) q) e.emitted }

pub emit_one_part-emit_unary-requires : goal.emit_one_part-emit_unary-requires
emit_one_part-emit_unary-requires t c =
    let x : Setting = setting_of c.args.site in
    let part = wanted_part x _ _ (typed_expr c.args.e.now) _ _ _ c.wanted_of_part.ensures c.in_ok-x.ensures.emitted in
    record { fits = c.requires.fits; value = part.type }

pub emit_one_part-returns : goal.emit_one_part-returns
emit_one_part-returns t c =
    let x : Setting = setting_of c.args.site in
    let e = c.emit_unary.ensures in
    let u = wanted_one c.args.op (sort c.args.t.now) (type_of (typed_expr c.args.e.now)) in
    let part = wanted_part x _ u (typed_expr c.args.e.now) _ _ _ c.wanted_of_part.ensures c.in_ok-x.ensures.emitted in
    record { lined = always _ _ (lined_one x c.args.site.line (typed_expr c.args.e.now) _ _ _ (part_sort u (typed_expr c.args.e.now), c.in_ok-x.x.0, part) c.in_ok-x.ensures.lined e.kept e.lined); kept = extends_trans _ _ _ c.in_ok-x.ensures.kept e.kept; emitted = ok_map _ _ _ (λ (r : Reg) a. one_emits x c.args.op u (sort c.args.t.now) (typed_expr c.args.e.now) _ _ _ _ r.0 c.requires.room part a) e.made }

pub emit_two_parts-emit_part-requires-2 : goal.emit_two_parts-emit_part-requires-2
emit_two_parts-emit_part-requires-2 t c =
    (omega arith, (c.requires.right, room_on _ _ _ c.in_ok-x.ensures.kept c.requires.room))

pub emit_two_parts-returns-in_err-y-clause-kept : goal.emit_two_parts-returns-in_err-y-clause-kept
emit_two_parts-returns-in_err-y-clause-kept t c = extends_trans _ _ _ c.in_ok-x.ensures.kept c.in_err-y.ensures.kept

pub emit_two_parts-emit_binary-requires : goal.emit_two_parts-emit_binary-requires
emit_two_parts-emit_binary-requires t c =
    let x : Setting = setting_of c.args.site in
    let left = wanted_part x _ _ (typed_expr c.args.left.now) _ _ _ c.wanted_of_parts-wanted.ensures c.in_ok-x.ensures.emitted in
    let right = wanted_part x _ _ (typed_expr c.args.right.now) _ _ _ c.wanted_of_parts-wanted.ensures c.in_ok-y.ensures.emitted in
    record { fits = c.requires.fits; left_value = type_kept _ _ _ _ c.in_ok-y.ensures.kept left.type; right_value = right.type }

pub emit_two_parts-returns : goal.emit_two_parts-returns
emit_two_parts-returns t c =
    let x : Setting = setting_of c.args.site in
    let e = c.emit_binary.ensures in
    let u = wanted_two c.args.op (sort c.args.t.now) (type_of (typed_expr c.args.left.now)) in
    let left = wanted_part x _ u (typed_expr c.args.left.now) _ _ _ c.wanted_of_parts-wanted.ensures c.in_ok-x.ensures.emitted in
    let right = wanted_part x _ u (typed_expr c.args.right.now) _ _ _ c.wanted_of_parts-wanted.ensures c.in_ok-y.ensures.emitted in
    record { lined = always _ _ (lined_two x c.args.site.line (typed_expr c.args.left.now) (typed_expr c.args.right.now) _ _ _ _ (part_sort u (typed_expr c.args.left.now), c.in_ok-x.x.0, left) c.in_ok-x.ensures.lined (part_sort u (typed_expr c.args.right.now), c.in_ok-y.y.0, right) c.in_ok-y.ensures.lined e.kept e.lined); kept = extends_trans _ _ _ c.in_ok-x.ensures.kept (extends_trans _ _ _ c.in_ok-y.ensures.kept e.kept); emitted = ok_map _ _ _ (λ (r : Reg) a. two_emit x c.args.op u (sort c.args.t.now) (typed_expr c.args.left.now) (typed_expr c.args.right.now) _ _ _ _ _ _ r.0 c.requires.room left right a) e.made }

pub emit_side-returns : goal.emit_side-returns
emit_side-returns t c =
    let x : Setting = setting_of c.args.site in
    let e = c.in_ok-reg.ensures in
    record { lined = e.lined; kept = e.kept; emitted = side_emits x _ c.args.e.now _ _ _ _ _ c.kind_of-own.ensures c.shown_kind-shown.ensures c.requires.simple c.requires.suits e.emitted }

pub emit_chain-returns-in-empty : goal.emit_chain-returns-in-empty
emit_chain-returns-in-empty t c =
    let x : Setting = setting_of c.args.site in
    let e = c.literal.ensures in
    record { lined = always _ _ (chain_none x c.args.site.line c.args.rest.now _ _ c.in-empty.len_below e.kept e.lined); kept = e.kept; emitted = ok_map _ _ _ (λ (r : Reg) a. chain_empty x c.args.first c.args.rest.now _ _ r.0 c.in-empty.len_below a) (rw c.truth.ensures.is at e.added) }

pub emit_chain-emit_side-requires : goal.emit_chain-emit_side-requires
emit_chain-emit_side-requires t c =
    let x : Setting = setting_of c.args.site in
    let h0 = first_weight c.args.rest.now c.index-rest-0-2.result c.in-len1-up.len_at_least in
    let k = first_suits x (kind_sort c.args.first.own) c.args.rest.now c.index-rest-0.result c.index-rest-0-2.result c.in-len1-up.len_at_least c.requires.suits in
    (omega arith, (k.2, (k.3, c.requires.room)))

pub emit_chain-emit_pair-requires : goal.emit_chain-emit_pair-requires
emit_chain-emit_pair-requires t c =
    let x : Setting = setting_of c.args.site in
    let k = first_suits x (kind_sort c.args.first.own) c.args.rest.now c.index-rest-0.result c.index-rest-0-2.result c.in-len1-up.len_at_least c.requires.suits in
    let side = c.in_ok-left-in-len1-up.ensures.emitted in
    record { ordering = k.0; compared = subst (λ z. is_pair (kind_sort c.args.first.own) z ≡ true) (sym side.own) k.1; left_shown = c.requires.shown; right_shown = side.shown; left = type_kept _ _ _ _ c.in_ok-left-in-len1-up.ensures.kept c.requires.first; right = side.emits.type }

pub emit_chain-returns-in_err-holds-in-len1-up-clause-kept : goal.emit_chain-returns-in_err-holds-in-len1-up-clause-kept
emit_chain-returns-in_err-holds-in-len1-up-clause-kept t c = extends_trans _ _ _ c.in_ok-left-in-len1-up.ensures.kept c.in_err-holds-in-len1-up.ensures.kept

pub emit_chain-returns-in_err-holds-in-len1-up-clause-lined : goal.emit_chain-returns-in_err-holds-in-len1-up-clause-lined
emit_chain-returns-in_err-holds-in-len1-up-clause-lined t c = search rules

pub emit_chain-loop-op-init : goal.emit_chain-loop-op-init
emit_chain-loop-op-init t c =
    let x : Setting = setting_of c.args.site in
    let e = c.in_ok-left-in-len1-up.ensures in
    let h = c.in_ok-holds-in-len1-up.ensures in
    record { going = going_start x c.args.first c.args.rest.now c.index-rest-0.result c.index-rest-0-2.result _ _ _ _ c.in_ok-left-in-len1-up.left c.in_ok-holds-in-len1-up.holds c.in-len1-up.len_at_least c.new-links.ensures c.requires.suits c.requires.room c.requires.first e.emitted h.made; lined = chain_started x c.args.site.line c.args.rest.now c.index-rest-0-2.result _ _ _ c.in_ok-left-in-len1-up.left c.in-len1-up.len_at_least e.emitted e.lined h.kept h.lined }

pub emit_chain-emit_side-requires-in-loop-op : goal.emit_chain-emit_side-requires-in-loop-op
emit_chain-emit_side-requires-in-loop-op t c =
    let x : Setting = setting_of c.args.site in
    let more : Chain = take (length c.args.rest.now - 1) (drop 1 c.args.rest.now) in
    let h0 = later_weight c.args.rest.now c.loop-op.op-index c.loop-op-item.result c.loop-op-test.true c.loop-op-item.is in
    let k = item_suits x (kind_sort c.loop-op.left.own) more c.loop-op.op-index c.loop-op-item.result c.loop-op-test.true c.loop-op-item.is c.loop-op.invariant.going.suits in
    (omega arith, (k.2, (k.3, room_on _ _ _ (extends_trans _ _ _ c.loop-op.invariant.going.kept c.in_ok-begin_link-in-len1-up.ensures.kept) c.requires.room)))

pub emit_chain-emit_pair-requires-in-loop-op : goal.emit_chain-emit_pair-requires-in-loop-op
emit_chain-emit_pair-requires-in-loop-op t c =
    let x : Setting = setting_of c.args.site in
    let more : Chain = take (length c.args.rest.now - 1) (drop 1 c.args.rest.now) in
    let k = item_suits x (kind_sort c.loop-op.left.own) more c.loop-op.op-index c.loop-op-item.result c.loop-op-test.true c.loop-op-item.is c.loop-op.invariant.going.suits in
    let side = c.in_ok-right-in-len1-up.ensures.emitted in
    record { ordering = k.0; compared = subst (λ z. is_pair (kind_sort c.loop-op.left.own) z ≡ true) (sym side.own) k.1; left_shown = c.loop-op.invariant.going.shown; right_shown = side.shown; left = type_kept _ _ _ _ (extends_trans _ _ _ c.in_ok-begin_link-in-len1-up.ensures.kept c.in_ok-right-in-len1-up.ensures.kept) c.loop-op.invariant.going.operand; right = side.emits.type }

pub emit_chain-returns-in_err-begin_link-in-len1-up-clause-kept : goal.emit_chain-returns-in_err-begin_link-in-len1-up-clause-kept
emit_chain-returns-in_err-begin_link-in-len1-up-clause-kept t c = extends_trans _ _ _ c.loop-op.invariant.going.kept c.in_err-begin_link-in-len1-up.ensures.kept

pub emit_chain-returns-in_err-right-in-len1-up-clause-kept : goal.emit_chain-returns-in_err-right-in-len1-up-clause-kept
emit_chain-returns-in_err-right-in-len1-up-clause-kept t c = extends_trans _ _ _ c.loop-op.invariant.going.kept (extends_trans _ _ _ c.in_ok-begin_link-in-len1-up.ensures.kept c.in_err-right-in-len1-up.ensures.kept)

pub emit_chain-returns-in_err-holds-in-len1-up-2-clause-kept : goal.emit_chain-returns-in_err-holds-in-len1-up-2-clause-kept
emit_chain-returns-in_err-holds-in-len1-up-2-clause-kept t c = extends_trans _ _ _ c.loop-op.invariant.going.kept (extends_trans _ _ _ c.in_ok-begin_link-in-len1-up.ensures.kept (extends_trans _ _ _ c.in_ok-right-in-len1-up.ensures.kept c.in_err-holds-in-len1-up-2.ensures.kept))

pub emit_chain-loop-op-preserved : goal.emit_chain-loop-op-preserved
emit_chain-loop-op-preserved t c =
    let x : Setting = setting_of c.args.site in
    let more : Chain = take (length c.args.rest.now - 1) (drop 1 c.args.rest.now) in
    let l = c.in_ok-begin_link-in-len1-up.ensures in
    let e = c.in_ok-right-in-len1-up.ensures in
    let h = c.in_ok-holds-in-len1-up-2.ensures in
    let g = going_at x c.args.first c.args.rest.now more c.loop-op.op-index c.loop-op-item.result c.args.b.now c.loop-op.b c.loop-op.links c.loop-op.left c.loop-op.holds c.loop-op-test.true c.loop-op-item.is c.loop-op.invariant.going in
    record { going = going_on x c.args.first c.args.rest.now c.loop-op-item.result (drop (c.loop-op.op-index + 1) more) c.args.b.now c.loop-op.b _ _ _ c.loop-op.links _ c.loop-op.left c.loop-op.holds c.in_ok-right-in-len1-up.right c.in_ok-holds-in-len1-up-2.holds c.requires.room g l.linked e.emitted h.made; lined = chain_next x c.args.site.line (operands_of_all c.args.rest.now) more c.loop-op.op-index c.loop-op-item.result c.args.b.now c.loop-op.b _ _ _ c.in_ok-right-in-len1-up.right c.loop-op-test.true c.loop-op-item.is c.loop-op.invariant.lined l.kept (l.lined c.args.site.line) e.emitted e.lined h.kept h.lined }

pub emit_chain-returns-after-loop-op : goal.emit_chain-returns-after-loop-op
emit_chain-returns-after-loop-op t c =
    let x : Setting = setting_of c.args.site in
    let more : Chain = take (length c.args.rest.now - 1) (drop 1 c.args.rest.now) in
    let e = c.meet_links.ensures in
    record { lined = ok_to _ _ _ (λ (q : Reg) ended. chain_over x c.args.site.line (operands_of_all c.args.rest.now) more c.loop-op.op-index c.args.b.now c.loop-op.b c.meet_links.new.b c.loop-op.links c.loop-op.holds.0 q.0 c.loop-op-test.false c.loop-op.invariant.lined ended e.lined) e.ended; kept = e.kept c.args.b.now c.loop-op.invariant.going.pending; emitted = ok_map _ _ _ (λ (r : Reg) a. going_over x c.args.first c.args.rest.now more c.loop-op.op-index c.args.b.now c.loop-op.b c.meet_links.new.b c.loop-op.links c.loop-op.left c.loop-op.holds r.0 c.loop-op-test.false c.loop-op.invariant.going a) e.ended }
