use Rattle.std.proofs.Common.{◌+◌, ◌∙◌, ◌++◌, map, drop, get_or, slice_get, sym, ap}
use Rattle.class_layout_members.proofs.RowLemmas.{from_number}
use Rattle.py_typed.specs.Classes.{class_entry}
use Rattle.py_typed.specs.ClassTables.{class_table}
use Rattle.py_typed.specs.Order.{own_attributes}
use Rattle.class_layout_members.specs.Names.{own_methods}
use Rattle.class_layout_members.specs.Clashes.{members_along}
use Rattle.class_layout_members.specs.Views.{member, of_type, of_signature}
use Rattle.class_layout_members.proofs.FirstLemmas.{rows_next}
use Rattle.class_layout_members.proofs.member.members_of.Goals as goal

pub loop-class-preserved : goal.loop-class-preserved
loop-class-preserved c =
    let i = c.loop-class.class-index in
    let row = c.args.row.now in
    let table = class_table c.args.classes.now in
    let k = get_or row i 0 in
    let here = from_number row i c.loop-class-test.true in
    rows_next (map member c.loop-class.members) (map member c.add_attributes.new.members) (map member c.add_methods.new.members)
    (map of_type (own_attributes (slice_get table.classes k)))
    (map (of_signature table.signatures) (own_methods (slice_get table.classes k)))
    (members_along table (drop (i + 1) row))
    _
    (c.in_ok-add_attributes.ensures ∙ ap (λ l. map member c.loop-class.members ++ map of_type l) (c.attributes_at.ensures ∙ ap (λ infos. own_attributes (slice_get (map class_entry infos) k)) c.as_slice-list.ensures))
    (c.in_ok-add_methods.ensures ∙ ap (λ methods. map member c.add_attributes.new.members ++ map (of_signature table.signatures) methods) (c.methods_at.ensures ∙ ap (λ infos. own_methods (slice_get (map class_entry infos) k)) c.as_slice-list.ensures))
    (sym (ap (λ l. map member c.loop-class.members ++ members_along table l) here) ∙ c.loop-class.invariant)
