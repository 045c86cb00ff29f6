use Rattle.std.proofs.Common.{[], ◌∙◌, Some, ap, map, length, option_copied}
use Rattle.std.specs.Str.{bytes_eq}
use Rattle.indexmap.specs.IndexMap.{get}
use Rattle.class_layout_members.specs.Tables.{keys_in, names_at, found_or_above}
use Rattle.class_layout.proofs.LayoutLemmas.{found_at, found_along, found_over, next_there, next_are}
use Rattle.class_layout.proofs.layouts.next_functions.Goals as goal

-- along its order

pub functions_of-requires : goal.functions_of-requires
functions_of-requires c =
    let infos = c.args.classes.now in
    let n = length c.args.functions.now in
    let own = get bytes_eq c.in_ok-found.found in
    next_there infos c.requires.falls c.args.orders.now c.requires.orders (names_at c.args.methods.now) c.requires.names n c.requires.within (found_or_above own [] [])
    (found_along infos c.requires.falls c.args.orders.now c.requires.orders (names_at c.args.methods.now) c.requires.names n c.requires.within c.order_at.result.now c.order_at.ensures own c.in_ok-found.ensures)
    c.names_of-names.result.now c.names_of-names.ensures

pub returns-in_default : goal.returns-in_default
returns-in_default c =
    let infos = c.args.classes.now in
    let n = length c.args.functions.now in
    let own = get bytes_eq c.in_ok-found.found in
    next_are infos c.requires.falls c.args.orders.now c.requires.orders (names_at c.args.methods.now) c.requires.names n c.requires.within (found_or_above own [] [])
    (found_along infos c.requires.falls c.args.orders.now c.requires.orders (names_at c.args.methods.now) c.requires.names n c.requires.within c.order_at.result.now c.order_at.ensures own c.in_ok-found.ensures)
    c.names_of-names.result.now c.names_of-names.ensures c.functions_of.result c.functions_of.ensures

-- for the class alone, over the functions of its first base

pub functions_of-requires-2 : goal.functions_of-requires-2
functions_of-requires-2 c =
    let infos = c.args.classes.now in
    let n = length c.args.functions.now in
    let b = c.in-Some.front.base in
    let own = get bytes_eq c.in_ok-own.own in
    let names = keys_in (option_copied c.get.result) in
    let above = c.functions_at-above.result.now in
    next_there infos c.requires.falls c.args.orders.now c.requires.orders (names_at c.args.methods.now) c.requires.names n c.requires.within (found_or_above own names above)
    (found_over infos c.requires.falls c.args.orders.now c.requires.orders (names_at c.args.methods.now) c.requires.names n c.requires.within b c.in-Some.front.class c.in-Some.ensures.order c.in-Some.ensures.below own c.in_ok-own.ensures names
    (ap keys_in (found_at c.args.methods.now b c.get.result c.get.ensures.lookup.0 c.get.ensures.lookup.1))
    above
    (ap (map (λ x. Some x)) c.functions_at-above.ensures ∙ c.requires.known b c.in-Some.ensures.below))
    c.names_of-names.result.now c.names_of-names.ensures

pub returns : goal.returns
returns c =
    let infos = c.args.classes.now in
    let n = length c.args.functions.now in
    let b = c.in-Some.front.base in
    let own = get bytes_eq c.in_ok-own.own in
    let names = keys_in (option_copied c.get.result) in
    let above = c.functions_at-above.result.now in
    next_are infos c.requires.falls c.args.orders.now c.requires.orders (names_at c.args.methods.now) c.requires.names n c.requires.within (found_or_above own names above)
    (found_over infos c.requires.falls c.args.orders.now c.requires.orders (names_at c.args.methods.now) c.requires.names n c.requires.within b c.in-Some.front.class c.in-Some.ensures.order c.in-Some.ensures.below own c.in_ok-own.ensures names
    (ap keys_in (found_at c.args.methods.now b c.get.result c.get.ensures.lookup.0 c.get.ensures.lookup.1))
    above
    (ap (map (λ x. Some x)) c.functions_at-above.ensures ∙ c.requires.known b c.in-Some.ensures.below))
    c.names_of-names.result.now c.names_of-names.ensures c.functions_of-2.result c.functions_of-2.ensures
