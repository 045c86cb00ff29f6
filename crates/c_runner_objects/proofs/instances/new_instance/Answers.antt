use Rattle.std.proofs.Common.{◌≡◌, sym, ap, subst, ◌∙◌, true, false, None, eqb, length, arith}
use Rattle.std.specs.Option.{option_copied}
use Rattle.std.specs.Prelude.{map}
use Rattle.std.proofs.lemmas.Bool.Decides.{nat_tests}
use Rattle.c_runner_deeds.specs.States.{held_of, state_of, seen}
use Rattle.cell_heap.specs.Ours.{AreOurs}
use Rattle.c_runner_objects.proofs.InstanceLemmas.{new_crowded, new_unnamed, new_absent, makes_instance}
use Rattle.c_runner_objects.proofs.instances.new_instance.Goals as goal

pub returns-then-args-ne1 : goal.returns-then-args-ne1
returns-then-args-ne1 c =
    let other : eqb (length c.args.args.now) 1 ≡ false = grind (arith, nat_tests, c.if-args-ne1.true) in
    λ rest. (rest.made, new_crowded (state_of rest (seen c.args.state.now)) c.args.code.now c.args.target c.args.args.now other)

pub returns-in_default : goal.returns-in_default
returns-in_default c =
    let one : eqb (length c.args.args.now) 1 ≡ true = grind (arith, nat_tests, c.if-args-ne1.false) in
    λ rest. (rest.made, new_unnamed (state_of rest (seen c.args.state.now)) c.args.code.now c.args.target c.args.args.now one (sym c.requires.class ∙ c.in_default.is))

pub returns-in_default-get : goal.returns-in_default-get
returns-in_default-get c =
    let one : eqb (length c.args.args.now) 1 ≡ true = grind (arith, nat_tests, c.if-args-ne1.false) in
    λ rest. (rest.made, new_absent (state_of rest (seen c.args.state.now)) c.args.code.now c.args.target c.args.args.now c.in-Some.number one (sym c.requires.class ∙ c.in-Some.is) (sym c.get.ensures.value ∙ ap option_copied c.in_default-get.is))

pub returns : goal.returns
returns c =
    let one : eqb (length c.args.args.now) 1 ≡ true = grind (arith, nat_tests, c.if-args-ne1.false) in
    makes_instance (seen c.args.state.now) (seen c.make_cell.new.self) c.args.code.now c.args.target c.args.args.now c.in-Some.number c.in-Some-get.declared.now (map held_of c.in_ok-attributes.attributes) c.make_cell.result one
    (sym c.requires.class ∙ c.in-Some.is) (sym c.in-Some-get.ensures.value) (c.in_ok-attributes.ensures.unset ∙ ap (map (λ a. None)) c.as_slice.ensures) c.make_cell.ensures

pub make_cell-requires-clause-ours : goal.make_cell-requires-clause-ours
make_cell-requires-clause-ours c = subst (AreOurs c.args.state.now.cells) (sym c.in_ok-attributes.ensures.none) tt
