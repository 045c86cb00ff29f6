use Rattle.std.proofs.Common.{◌≡◌, ◌∙◌, [], flat_map, map, ap, subst, arith}
use Rattle.std.specs.Str.{bytes_eq}
use Rattle.indexmap.specs.IndexSet.{insert_all}
use Rattle.py_typed.specs.Classes.{class_entry}
use Rattle.py_typed.specs.Laws.{IsClassTree}
use Rattle.class_layout_members.specs.Names.{names_in, own_attribute_names, attribute_names}
use Rattle.class_layout_members.specs.Tables.{keys_in, names_at}
use Rattle.class_layout.proofs.OrderLemmas.{next_each}
use Rattle.class_layout.proofs.LayoutLemmas.{next_names, bases_here, attributes_here}
use Rattle.class_layout.proofs.layouts.attribute_tables.Goals as goal

pub loop-class-preserved : goal.loop-class-preserved
loop-class-preserved c =
    let i = c.loop-class.class-index in
    let info = c.class-item.result in
    let infos = c.args.classes.now in
    let tree : IsClassTree (map class_entry infos) = record { falls = c.requires } in
    let above =
    subst (λ z. c.in_ok-names.names.keys ≡ insert_all bytes_eq [] (flat_map (names_at z) c.as_slice-bases.result.now)) c.as_slice-earlier.ensures c.in_ok-names.ensures in
    let made =
    next_names (map class_entry infos) tree (own_attribute_names (map class_entry infos)) c.loop-class.tables i c.as_slice-bases.result.now c.in_ok-names.names.keys c.add_names.new.names.keys (names_in c.as_slice-own.result.now)
    c.loop-class.invariant.long
    c.loop-class.invariant.each
    (c.as_slice-bases.ensures ∙ bases_here infos i info c.loop-class-test.true c.class-item.is)
    (ap names_in c.as_slice-own.ensures ∙ attributes_here infos i info c.loop-class-test.true c.class-item.is)
    above
    c.in_ok-add_names.ensures in
    let all = next_each keys_in (attribute_names (map class_entry infos)) c.loop-class.tables c.push.new.self c.add_names.new.names i c.in_ok-push.ensures.ok c.loop-class.invariant.long c.loop-class.invariant.each made in
    record { long = all.0; each = all.1 }

pub returns : goal.returns
returns c =
    let long = c.loop-class.invariant.long in
    let past = c.loop-class-test.false in
    λ b less. c.loop-class.invariant.each b (omega (arith, less, long, past))
