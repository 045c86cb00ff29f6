use Rattle.std.proofs.Common.{rules, ◌≡◌, ◌<◌, Some, ap, length, map}
use Rattle.std.specs.Option.{option_map, option_copied}
use Rattle.py_typed.specs.Sorts.{sort}
use Rattle.py_check_context.specs.Context.{context}
use Rattle.py_check_values.specs.Aims.{aim_seen}
use Rattle.py_check_places.specs.Views.{known_at, trees}
use Rattle.py_check_targets.specs.Targets.{aims}
use Rattle.py_check_targets.specs.Views.{boxed_aim}
use Rattle.py_check_targets.proofs.AimLemmas.{aims_start, aims_step}
use Rattle.py_check_targets.proofs.targets.aims.Goals as goal

pub loop-i-init : goal.loop-i-init
loop-i-init c =
    let scope = context c.args.scope.now in
    let known = known_at c.args.place.now in
    let parts = option_map (map sort) (option_copied c.args.parts) in
    let same : c.in_ok-names.names.items ≡ known.names = search (rules, c.in_ok-names.ensures, c.as_slice.ensures.value) in
    aims_start scope known parts c.args.leaves.now c.in_ok-names.names.items (Some (map aim_seen c.new.result)) c.args.faults.now
    (ap (λ l. Some (map aim_seen l)) c.new.ensures) same

pub loop-i-preserved : goal.loop-i-preserved
loop-i-preserved c =
    let leaves = c.args.leaves.now in
    let scope = context c.args.scope.now in
    let known = known_at c.args.place.now in
    let parts = option_map (map sort) (option_copied c.args.parts) in
    let h : c.loop-i.i < length leaves = search (rules, c.loop-i-test.true) in
    aims_step scope known parts c.loop-i.names.items leaves c.loop-i.i c.index-leaves-i.result (aims scope known parts (trees leaves)) c.args.faults.now c.loop-i.faults c.single_aim.new.faults
    (option_map (map aim_seen) c.loop-i.found) (option_map (map aim_seen) c.in_ok-found.found) (option_map boxed_aim c.in_ok-one.one)
    c.as_slice-in-loop-i.result.now c.as_slice-in-loop-i-2.result.now c.in_ok-names-2.names.items
    h c.index-leaves-i.is c.loop-i.invariant c.as_slice-in-loop-i.ensures.value c.in_ok-one.ensures.0 c.in_ok-one.ensures.1 c.in_ok-found.ensures c.as_slice-in-loop-i-2.ensures.value c.in_ok-names-2.ensures
