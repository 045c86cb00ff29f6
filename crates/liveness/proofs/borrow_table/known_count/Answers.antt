use Rattle.std.proofs.Common.{◌≡◌, ◌∙◌, false, cond, sym, ap, arith, min}
use Rattle.std.specs.List.{list_any}
use Rattle.liveness.specs.Places.{lends_some}
use Rattle.liveness.proofs.borrow_table.known_count.Goals as goal

pub returns-else-lends_in_pieces : goal.returns-else-lends_in_pieces
returns-else-lends_in_pieces c =
    let none : list_any lends_some c.args.pieces.now ≡ false = sym c.lends_in_pieces.ensures ∙ c.if-lends_in_pieces.false in
    let few : c.min.result ≡ min c.args.params c.args.regs = c.min.ensures ∙ omega arith in
    few ∙ sym (ap (λ z. cond z c.args.regs (min c.args.params c.args.regs)) none)
