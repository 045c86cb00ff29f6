use Rattle.c_text.proofs.ClassLines.{lists_written}
use Rattle.c_text.proofs.Writing.{same_text, then, failed}
use Rattle.c_text.proofs.class.write_lists.Goals as goal

pub returns-in_err-write_next_items : goal.returns-in_err-write_next_items
returns-in_err-write_next_items g c = same_text (lists_written c.args.class.now) (failed _ _ c.from_residual.ensures.0 c.in_err-write_next_items.ensures)

pub returns-in_err-write_next_items-2 : goal.returns-in_err-write_next_items-2
returns-in_err-write_next_items-2 g c =
    same_text (lists_written c.args.class.now)
    (then c.in_ok-write_next_items.ensures (failed _ _ c.from_residual-in_err-write_next_items-2.ensures.0 c.in_err-write_next_items-2.ensures))

pub returns-in_err-write_next_items-3 : goal.returns-in_err-write_next_items-3
returns-in_err-write_next_items-3 g c =
    same_text (lists_written c.args.class.now)
    (then c.in_ok-write_next_items.ensures (then c.in_ok-write_next_items-2.ensures (failed _ _ c.from_residual-in_err-write_next_items-3.ensures.0 c.in_err-write_next_items-3.ensures)))

pub returns : goal.returns
returns g c =
    same_text (lists_written c.args.class.now)
    (then c.in_ok-write_next_items.ensures (then c.in_ok-write_next_items-2.ensures (then c.in_ok-write_next_items-3.ensures c.write_word.ensures)))
