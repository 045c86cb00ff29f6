use Rattle.ir_builder.proofs.Common.{[], typed_module}
use Rattle.ir_core.specs.declared.code.RType.TheVariants.{Bool}
use Rattle.ir_builder.proofs.RegisterLemmas.{no_flags}
use Rattle.ir_builder.proofs.FunctionLemmas.{begin_room, own_is}
use Rattle.ir_builder.proofs.functions.build_own.Goals as goal

pub emit_body-requires-clause-room : goal.emit_body-requires-clause-room
emit_body-requires-clause-room c = rw (c.in_ok-vars.ensures, c.new-b.ensures, c.new.ensures) (begin_room (typed_module c.args.checked.now) [] Bool 0 _ (no_flags _))

pub returns : goal.returns
returns c =
    let body = c.in_ok-emit_body.ensures in
    let bodied = rw (c.as_slice.ensures, c.in_ok-vars.ensures, c.new-b.ensures, c.new.ensures) at body.bodied in
    let lined = rw (c.as_slice.ensures, c.in_ok-vars.ensures, c.new-b.ensures, c.new.ensures) at body.lined in
    own_is (typed_module c.args.checked.now) c.emit_body.new.b c.from_string.result c.finish.result bodied body.fits lined body.few c.finish.ensures.names c.finish.ensures.kinds c.finish.ensures.is
