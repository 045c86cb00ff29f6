use Rattle.std.proofs.Common.{◌≡◌, ◌<◌, ℕ, Some, Err, map, length, subst}
use Rattle.py_typed.specs.Classes.{class_entry}
use Rattle.py_typed.specs.ClassTables.{class_table}
use Rattle.py_typed.specs.Laws.{IsClassTree}
use Rattle.py_typed.specs.Order.{method_of, order, listed_order}
use Rattle.class_layout_members.specs.Names.{attribute_names, method_names}
use Rattle.class_layout_members.specs.Tables.{names_at}
use Rattle.class_layout.specs.Orders.{AreOrders, IsOrdered}
use Rattle.class_layout.specs.Layouts.{functions_in}
use Rattle.class_layout.proofs.KindLemmas.{first_is_member}
use Rattle.class_layout.proofs.LayoutLemmas.{all_have_orders, holds, in_entries, no_orders, not_checked, is_refused, wants_memory}
use Rattle.class_layout.proofs.WellTypedLemmas.{has_where_well_typed}
use Rattle.class_layout.proofs.layouts.layout.Goals as goal

pub returns-in_err-orders-clause-layout : goal.returns-in_err-orders-clause-layout
returns-in_err-orders-clause-layout c =
    let table = class_table c.args.classes.now in
    let e = c.in_err-orders.field-0.0 in
    is_refused table c.from_residual.result e c.from_residual.ensures.1 (no_orders table e (subst (λ z. IsOrdered (map class_entry z) (Err e)) c.as_slice-list.ensures c.in_err-orders.ensures))

pub returns-in_err-orders-clause-well_typed : goal.returns-in_err-orders-clause-well_typed
returns-in_err-orders-clause-well_typed c = has_where_well_typed (class_table c.args.classes.now) c.from_residual.result (returns-in_err-orders-clause-layout c)

pub returns-in_err-check_members-clause-layout : goal.returns-in_err-check_members-clause-layout
returns-in_err-check_members-clause-layout c =
    let table = class_table c.args.classes.now in
    let e = c.in_err-check_members.field-0.0 in
    let ordered = all_have_orders table.classes c.in_ok-orders.orders (subst (λ z. AreOrders (map class_entry z) c.in_ok-orders.orders) c.as_slice-list.ensures c.in_ok-orders.ensures) in
    is_refused table c.from_residual-in_err-check_members.result e c.from_residual-in_err-check_members.ensures.1 (not_checked table e ordered c.in_err-check_members.ensures)

pub returns-in_err-check_members-clause-well_typed : goal.returns-in_err-check_members-clause-well_typed
returns-in_err-check_members-clause-well_typed c = has_where_well_typed (class_table c.args.classes.now) c.from_residual-in_err-check_members.result (returns-in_err-check_members-clause-layout c)

pub returns-in_err-attributes-clause-layout : goal.returns-in_err-attributes-clause-layout
returns-in_err-attributes-clause-layout c = wants_memory (class_table c.args.classes.now) c.from_residual-in_err-attributes.result c.from_residual-in_err-attributes.ensures.1

pub returns-in_err-attributes-clause-well_typed : goal.returns-in_err-attributes-clause-well_typed
returns-in_err-attributes-clause-well_typed c = has_where_well_typed (class_table c.args.classes.now) c.from_residual-in_err-attributes.result (returns-in_err-attributes-clause-layout c)

pub returns-in_err-methods-clause-layout : goal.returns-in_err-methods-clause-layout
returns-in_err-methods-clause-layout c = wants_memory (class_table c.args.classes.now) c.from_residual-in_err-methods.result c.from_residual-in_err-methods.ensures.1

pub returns-in_err-methods-clause-well_typed : goal.returns-in_err-methods-clause-well_typed
returns-in_err-methods-clause-well_typed c = has_where_well_typed (class_table c.args.classes.now) c.from_residual-in_err-methods.result (returns-in_err-methods-clause-layout c)

pub returns-in_err-functions-clause-layout : goal.returns-in_err-functions-clause-layout
returns-in_err-functions-clause-layout c = wants_memory (class_table c.args.classes.now) c.from_residual-in_err-functions.result c.from_residual-in_err-functions.ensures.1

pub returns-in_err-functions-clause-well_typed : goal.returns-in_err-functions-clause-well_typed
returns-in_err-functions-clause-well_typed c = has_where_well_typed (class_table c.args.classes.now) c.from_residual-in_err-functions.result (returns-in_err-functions-clause-layout c)

pub returns-clause-layout : goal.returns-clause-layout
returns-clause-layout c =
    let infos = c.args.classes.now.list in
    let classes = map class_entry infos in
    let same = c.as_slice-list.ensures in
    let tree : IsClassTree classes = record { falls = c.requires } in
    let ordered = all_have_orders classes c.in_ok-orders.orders (subst (λ z. AreOrders (map class_entry z) c.in_ok-orders.orders) same c.in_ok-orders.ensures) in
    let attributes = subst (λ z. (k : ℕ) → k < length z → names_at c.in_ok-attributes.attributes k ≡ attribute_names (map class_entry z) k) same c.in_ok-attributes.ensures in
    let methods = subst (λ z. (k : ℕ) → k < length z → names_at c.in_ok-methods.methods k ≡ method_names (map class_entry z) k) same c.in_ok-methods.ensures in
    let functions = subst (λ z. (k : ℕ) → k < length z → map Some (functions_in c.in_ok-functions.functions k) ≡ map (method_of (map class_entry z) k) (method_names (map class_entry z) k)) same c.in_ok-functions.ensures in (
      ordered,
      c.in_ok-check_members.ensures,
      holds classes tree _ ordered
          (in_entries (λ k. names_at c.in_ok-attributes.attributes k ≡ attribute_names classes k) infos attributes)
          (in_entries (λ k. names_at c.in_ok-methods.methods k ≡ method_names classes k) infos methods)
          (in_entries (λ k. map Some (functions_in c.in_ok-functions.functions k) ≡ map (method_of classes k) (method_names classes k)) infos functions)
          (λ k name l. first_is_member (class_table c.args.classes.now) name (listed_order (order classes k)) (c.in_ok-check_members.ensures k l)),
    )

pub returns-clause-well_typed : goal.returns-clause-well_typed
returns-clause-well_typed c = λ is_identifier m w e. tt
