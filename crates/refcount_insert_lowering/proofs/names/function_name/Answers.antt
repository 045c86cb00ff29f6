use Rattle.std.proofs.Common.{◌≡◌, length, arith}
use Rattle.std.specs.List.{position_or_len}
use Rattle.ir_core.specs.Names.{is_dot}
use Rattle.refcount_insert_lowering.proofs.NameLemmas.{plain_name}
use Rattle.refcount_insert_lowering.proofs.names.function_name.Goals as goal

pub returns-in-None : goal.returns-in-None
returns-in-None c =
    let none : position_or_len is_dot c.args.name.now ≡ length c.args.name.now = c.in-None.ensures.byte (omega arith) (λ w o f. f) in
    plain_name c.args.name.now c.from_str.result none c.from_str.ensures
