use Rattle.ir_builder.proofs.Common.{rules, ◌≡◌, ◌∙◌, map, sym, typed_module, typed_func, variable}
use Rattle.std.proofs.lemmas.List.{length-map}
use Rattle.ir_builder_frames.proofs.MatchLemmas.{room_on}
use Rattle.ir_builder.proofs.FunctionLemmas.{registers_differ, begin_room, function_is}
use Rattle.ir_builder.proofs.functions.build_function.Goals as goal

pub new-b-requires : goal.new-b-requires
new-b-requires c = registers_differ (map variable c.args.f.now.locals) c.in_ok-variables.variables c.requires.function.differ (rw c.as_slice.ensures at c.in_ok-variables.ensures)

pub emit_body-requires-clause-suits : goal.emit_body-requires-clause-suits
emit_body-requires-clause-suits c = rw (c.as_slice-2.ensures, c.as_slice-3.ensures) c.requires.function.body

pub emit_body-requires-clause-room : goal.emit_body-requires-clause-room
emit_body-requires-clause-room c =
    let size = c.len-count.ensures ∙ sym (length-map c.args.f.now.locals variable) in
    let flags = rw (c.new-b.ensures, c.in_ok-variables.ensures, c.as_slice.ensures, size) at c.in_ok-add_flags.ensures in
    rw (c.as_slice-2.ensures, c.in_ok-vars.ensures, size)
    (room_on _ c.add_flags.new.b c.push.new.self c.in_ok-push.ensures.kept (begin_room (typed_module c.args.checked.now) (map variable c.args.f.now.locals) c.register_type-ret.result c.args.f.now.params c.add_flags.new.b flags))

pub returns : goal.returns
returns c =
    let m = typed_module c.args.checked.now in
    let size = c.len-count.ensures ∙ sym (length-map c.args.f.now.locals variable) in
    let flags = rw (c.new-b.ensures, c.in_ok-variables.ensures, c.as_slice.ensures, c.register_type-ret.ensures, size) at c.in_ok-add_flags.ensures in
    let body = c.in_ok-emit_body.ensures in
    let bodied = rw (c.as_slice-2.ensures, c.as_slice-3.ensures, c.in_ok-vars.ensures, size, c.end_of.ensures, c.register_type-ret.ensures) at body.bodied in
    let lined = rw (c.as_slice-2.ensures, c.as_slice-3.ensures, c.in_ok-vars.ensures, size) at body.lined in
    let name : c.in_ok-name.name ≡ c.args.f.now.name = search rules in
    function_is m (typed_func c.args.f.now) c.requires.function c.add_flags.new.b c.push.new.self c.emit_body.new.b c.in_ok-name.name c.finish.result
    flags c.in_ok-push.ensures.pushed c.in_ok-push.ensures.lined bodied body.fits lined body.few c.finish.ensures.names c.finish.ensures.kinds name c.finish.ensures.is
