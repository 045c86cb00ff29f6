use Rattle.std.proofs.Common.{sym, ap, ◌∙◌}
use Rattle.std.specs.Int.{w128}
use Rattle.std.specs.Option.{option_and_then}
use Rattle.std.specs.Prelude.{slice_get}
use Rattle.std.specs.Str.{chars}
use Rattle.std.proofs.lemmas.Int.{to_z-of_z}
use Rattle.value_core.specs.Characters.{char_len, place_of}
use Rattle.c_runner_deeds.proofs.DeedLemmas.{item_is}
use Rattle.c_runner_deeds.proofs.strings.item_deed.Goals as goal

pub returns-in_ok-item-in-Some : goal.returns-in_ok-item-in-Some
returns-in_ok-item-in-Some c =
    item_is c.args.text.now c.args.index c.in-Some.c _
    (sym c.in-Some.is ∙ c.char_of.ensures ∙ ap (λ i. option_and_then (slice_get (chars c.args.text.now)) (place_of (char_len c.args.text.now) i)) (to_z-of_z w128 c.args.index c.ranges.index))
    c.in_ok-item-in-Some.ensures
