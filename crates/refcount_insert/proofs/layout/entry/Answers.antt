use Rattle.std.proofs.Common.{sym, ap, ◌∙◌}
use Rattle.refcount_insert.specs.Layout.{number_at, entry_of}
use Rattle.refcount_insert.proofs.Laying.{front_read, none_beyond}
use Rattle.refcount_insert.proofs.layout.entry.Goals as goal

pub returns-then-t-fronts : goal.returns-then-t-fronts
returns-then-t-fronts c =
    let there = front_read c.args.fronts.now c.args.t c.index-fronts-t.result c.if-t-fronts.true in
    c.number.ensures ∙ (ap (λ z. number_at z c.args.place) c.as_slice.ensures ∙ sym (ap (λ z. entry_of z c.args.place) there))

pub returns-else-t-fronts : goal.returns-else-t-fronts
returns-else-t-fronts c = sym (ap (λ z. entry_of z c.args.place) (none_beyond c.args.fronts.now c.args.t c.if-t-fronts.false))
